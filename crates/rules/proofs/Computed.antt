-- What the definitions make of an image and its session, computed.
use Prim.Native.Nat.{ℕ, zero, suc}
use Prim.Native.String.{String}
use mathlib.Core.List.{List, [], ◌∷◌, ◌++◌}
use lib.Dec.{eqb}
use lib.ListN.{take, drop}
use Rattle.laws.specs.Choice.{◌and◌, ◌or◌, pick}
use Rattle.laws.specs.Fold.{bit, up_to}
use Rattle.laws.specs.First.{first}
use Rattle.laws.specs.Table.{table_from, table, paint_from, paint}
use Rattle.laws.specs.Listed.{indices, slots}
use Rattle.rules.specs.Numbers.{speed_code}
use Rattle.rules.specs.Registers
use Rattle.rules.specs.Graph
use Rattle.rules.specs.Fetch
use Rattle.rules.specs.Units
use Rattle.rules.specs.Execute
use Rattle.rules.specs.Peer
use Rattle.rules.specs.Update
use Rattle.rules.specs.Shadow
use Rattle.rules.specs.Respond
use Rattle.rules.specs.Reduce
use Rattle.rules.specs.Words
use Rattle.rules.specs.State
use Rattle.rules.specs.Instruct
use Rattle.rules.specs.Pairs
use Rattle.rules.specs.Search
use Rattle.rules.specs.Image
use Rattle.rules.specs.Run
use Rattle.rules.specs.Listing
use Rattle.rules.specs.declared.index.NodeIndex.{NodeIndex}
use Rattle.rules.specs.declared.registers.VertexRegisters.{VertexRegisters}
use Rattle.rules.proofs.Text.{hex}

-- what is seen of an image and its session: the whole listing; the registers at the end; the fetch weights at the start; the lines that
-- answer other calls
pub data Aspect : Type 0 where
  listing registers weights : Aspect
  lines : List Run.Call → Aspect

-- a node or root: its number, `-` for none, `v` for virtual
abbrev node_text : NodeIndex → List ℕ
node_text n = pick (eqb n.0 65_535) (32 ∷ 45 ∷ []) (pick (eqb n.0 65_534) (32 ∷ 118 ∷ []) (Listing.number n.0))

-- `v`, index, speed, grown, virtual, defect, node, root
abbrev register_line : ℕ → VertexRegisters → List ℕ
register_line v x =
    Listing.line
    (118 ∷ (Listing.numbers (v ∷ speed_code x.speed ∷ x.grown ∷ bit x.is_virtual ∷ bit x.is_defect ∷ []) ++ node_text x.node ++ node_text x.root))

unfoldable register_lines : List ℕ → ℕ → ℕ → List ℕ
register_lines rs v zero = []
register_lines rs v (suc n) = register_line v (Registers.at rs v) ++ register_lines rs (suc v) n

unfoldable pub computed : Aspect → String → List ℕ
unfolding ◌and◌ ◌or◌ pick up_to first table_from table paint_from paint indices slots
    Registers.speed_of Registers.view Registers.keep Registers.at Registers.fresh
    Graph.layer_of Graph.has_layer Graph.is_default_virtual Graph.left_of Graph.right_of Graph.condition_of Graph.touches Graph.far_end Graph.unit_of
    Graph.degree Graph.fits Graph.edges_in_use Graph.in_use
    Fetch.reduced Fetch.fetch_weight Fetch.fetched Fetch.tight Fetch.counted_tight Fetch.tight_count
    Units.eager Units.defect_match Units.is_other Units.permits Units.virtual_match Units.fusion_match Units.holds Units.stalls_around Units.stalls
    Units.stalled_vertices Units.stalled_edges
    Execute.moved Execute.execute Execute.waits Execute.still Execute.execute_at Execute.execute_refusal Execute.executed
    Peer.is_propagating Peer.serves Peer.served_by Peer.peer
    Update.is_loose Update.update Update.updated
    Shadow.yielded Shadow.shadow Shadow.shadows
    Respond.vertex_report Respond.less Respond.available Respond.shown Respond.limit Respond.meeting Respond.respond Respond.remaining Respond.edge_response
    Reduce.some_odd Reduce.vertex_finding Reduce.finding
    Words.field_of Words.is_kind Words.kind_in Words.kind_of_word Words.speed_asked Words.asks Words.unpacked Words.in_bounds
    State.fresh_registers State.fresh_state State.reset State.first_state
    Instruct.concluded Instruct.settled Instruct.step Instruct.barred Instruct.instruct Instruct.word_run
    Pairs.pairs Pairs.listed
    Search.grow_by Search.after_finding Search.turn Search.walked Search.search Search.search_on Search.search_to
    Image.byte_at Image.u16_at Image.u32_at Image.is_an_image Image.fusion Image.offloading Image.head_refusal Image.vertex_refusal Image.is_end Image.edges_at
    Image.edge_refusal Image.unit_refusal Image.image_refusal Image.vertex_word Image.condition Image.edge_word Image.unit_word Image.fusion_word
    Image.is_conditioned Image.unit_words Image.graph_of Image.opened
    Run.call Run.replies
    Listing.digits Listing.decimal Listing.lines Listing.record_call Listing.session Listing.listing hex register_lines
computed listing input = Listing.listing (hex input)
computed registers input =
    let bs = hex input in
    let g = (Image.opened bs).graph in
    register_lines (Listing.session g (State.first_state g) (drop (Image.session_at bs) bs)).state.registers 0 g.nv
computed weights input =
    let g = (Image.opened (hex input)).graph in
    take g.ne (Fetch.fetched g.edges (State.first_state g).registers g.weights g.ne)
computed (lines calls) input =
    let g = (Image.opened (hex input)).graph in
    Listing.lines (Run.replies g (State.first_state g) calls)
