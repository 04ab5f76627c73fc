-- Demand 3 of the code: of the states that the public functions return, in any series on the graph of an image, and of the lines that a chunk
-- writes. Each statement is in the words of the functions' contracts.
use Prim.Native.Nat.{ℕ, ◌<◌}
use mathlib.Core.Path.{◌≡◌, sym, ap, ◌∙◌, subst}
use mathlib.Core.List.{List, [], ◌∷◌, ◌++◌}
use lib.IntN.{pos}
use lib.ListN.{drop}
use Rattle.rules.specs.Graph.{in_use}
use Rattle.rules.specs.Image as Image
use Rattle.rules.specs.Registers.{at}
use Rattle.rules.specs.State.{first_state}
use Rattle.rules.specs.Run.{Call, call, run, replies}
use Rattle.rules.specs.Run as Run
use Rattle.rules.specs.Search.{search_to, search_on}
use Rattle.rules.specs.Listing.{lines, first_line, listing}
use Rattle.std.proofs.Common.{Ok}
use Rattle.rules.specs.declared.graph.Graph.{Graph}
use Rattle.rules.specs.declared.state.State.{State}
use Rattle.rules.specs.declared.state.Searched.{Searched}
use Rattle.promises.specs.Ledger.{total, ledger}
use Rattle.promises.specs.Reports.{Reports, AllReport}
use Rattle.promises.specs.Careful.{CarefulCalls}
use Rattle.promises.proofs.Expanded.{run_then}
use Rattle.promises.proofs.Reports.{call_reports, all_report}
use Rattle.promises.proofs.Demand3 as Promised
use Rattle.session.specs.Chunk.{chunk}
use Rattle.session.specs.Calls.{calls_in, used, end_of, Carries, Returned, opened, cleared, executed, carried, sought, sought_on, ran}
use Rattle.session.proofs.Carried.{chunk_carries, session_carries}

-- ---- any series of the public functions is the run of its calls

module _ (g : Graph) where
  one_more : (cs : List Call) (q : Call) {s : State} → s ≡ run g (first_state g) cs → (call g s q).state ≡ run g (first_state g) (cs ++ q ∷ [])
  unfolding run
  one_more cs q e = ap (λ (x : State). (call g x q).state) e ∙ sym (run_then g (first_state g) cs (q ∷ []))

  pub returned_is : {cs : List Call} {s : State} → Returned g cs s → s ≡ run g (first_state g) cs
  unfolding run call
  returned_is (opened e) = e
  returned_is (cleared {cs} r e) = e ∙ one_more cs Run.clear (returned_is r)
  returned_is (executed {cs} r i c e) = rw e (one_more cs (Run.execute i) (returned_is r))
  returned_is (carried {cs} r w c e) = rw e (one_more cs (Run.word w) (returned_is r))
  returned_is (sought {cs} r m c e) = rw e (one_more cs (Run.seek m) (returned_is r))
  returned_is (sought_on {cs} r c e) = rw e (one_more cs Run.seek_on (returned_is r))
  returned_is (ran {cs} {s} r room bytes c e) =
      rw e
      ((chunk_carries g bytes s room).state ∙ ap (λ (x : State). run g x (used (chunk g s room bytes) bytes)) (returned_is r)
      ∙ sym (run_then g (first_state g) cs (used (chunk g s room bytes) bytes)))

-- ---- demand 3

module _ (image : List ℕ) where
  abbrev pub graph : Graph
  graph = (Image.opened image).graph

  -- "a vertex's grown amount is the sum, over completed growth steps since the last reset, of length times the speed it held before that step,
  -- leaving out steps where it was stalled or waiting for its layer"
  pub grown_is : {cs : List Call} {s : State} → Returned graph cs s → (v : ℕ) → v < (in_use graph).nv
      → pos (at s.registers v).grown ≡ total graph v (ledger graph (first_state graph) [] cs)
  grown_is {cs} r v l = rw (returned_is graph r) (Promised.grown_is graph cs v l)

  -- "A search that was begun reports exactly the sum of its completed steps, which is the maximum it began with less the maximum left": the
  -- lines that a chunk writes, on whatever state
  pub reports_are : (s : State) (room : ℕ) (bytes : List ℕ) → let c = chunk graph s room bytes in let cs = used c bytes in
      Carries graph s cs c × AllReport graph s cs (replies graph s cs)
  reports_are s room bytes = (chunk_carries graph bytes s room, all_report graph s (used (chunk graph s room bytes) bytes))

  -- .. and what comb::search_to and comb::search_on return
  pub search_to_reports : (s : State) (m : ℕ) (r : Searched) → r ≡ search_to graph s m → Reports graph s (Run.seek m) (Run.found r.answer r.state.maximum)
  unfolding call
  search_to_reports s m r e =
      subst (λ (x : Searched). Reports graph s (Run.seek m) (Run.found x.answer x.state.maximum)) (sym e) (call_reports graph s (Run.seek m))

  pub search_on_reports : (s : State) (r : Searched) → r ≡ search_on graph s → Reports graph s Run.seek_on (Run.found r.answer r.state.maximum)
  unfolding call
  search_on_reports s r e =
      subst (λ (x : Searched). Reports graph s Run.seek_on (Run.found x.answer x.state.maximum)) (sym e) (call_reports graph s Run.seek_on)

  -- .. and the whole listing of an accepted image
  pub listing_is : (units start : ℕ) → (Image.opened image).opening ≡ Ok (record { units = units; start = start }) → let cs = calls_in (drop start image) in
      let rs = replies graph (first_state graph) cs in
      (listing image ≡ first_line (Image.vertex_count image) (Image.edge_count image) units ++ (lines rs ++ end_of (drop start image)))
      × AllReport graph (first_state graph) cs rs
  unfolding listing
  listing_is units start e =
      (rw (e, (session_carries graph (drop start image) (first_state graph)).text), all_report graph (first_state graph) (calls_in (drop start image)))

  -- "No step of a search takes below zero a vertex's amount, nor what remained (zero or more) on an edge .."
  pub careful_are : {cs : List Call} {s : State} → Returned graph cs s → CarefulCalls graph (first_state graph) cs
  careful_are {cs} r = Promised.careful_are graph cs
