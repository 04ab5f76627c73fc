-- Stage 7: what a vertex and an edge report. ys holds the registers after stage 5, ss the shadows.
use Rattle.std.specs.Prelude.{ℕ, ◌+◌, ◌-◌, ◌/◌, ◌%◌, Bool, false, not, List, leb, eqb, get_or}
use Rattle.laws.specs.Choice.{◌and◌, ◌or◌, pick}
use Rattle.rules.specs.Graph.{left_of, right_of}
use Rattle.rules.specs.Registers.{at, no_node, virtual_node, same_node, shrinking}
use Rattle.rules.specs.declared.index.NodeIndex.{NodeIndex}
use Rattle.rules.specs.declared.instruction.CompactGrowState.{CompactGrowState}
use Rattle.rules.specs.declared.instruction.CompactGrowState.TheVariants.{Stay, Grow, Shrink}
use Rattle.rules.specs.declared.registers.VertexRegisters.{VertexRegisters}
use Rattle.rules.specs.declared.finding.Length.{Length}
use Rattle.rules.specs.declared.finding.Length.TheVariants.{NoLimit, Ahead, Behind}
use Rattle.rules.specs.Types.{Node, Response, odd_remaining}
use Rattle.std.specs.Prelude.{Err, None, Ok, Some}
use Rattle.rules.specs.declared.finding.Side.{Side}
use Rattle.rules.specs.declared.finding.Finding.{Finding}
use Rattle.rules.specs.declared.finding.Finding.TheVariants.{GrowLength, Conflict}

-- "A vertex at Shrink after stage 5 reports its new grown amount"
unfoldable pub vertex_report : VertexRegisters → Finding
vertex_report x = GrowLength (pick (shrinking x.speed) (Ahead x.grown) NoLimit)

-- the joint speed of two ends where it is positive, else 0
abbrev pub joint : CompactGrowState → CompactGrowState → ℕ
joint Stay Stay = 0
joint Stay Grow = 1
joint Stay Shrink = 0
joint Grow Stay = 1
joint Grow Grow = 2
joint Grow Shrink = 0
joint Shrink Stay = 0
joint Shrink Grow = 0
joint Shrink Shrink = 0

-- a less b
unfoldable pub less : ℕ → ℕ → Length
less a b = pick (leb b a) (Ahead (a - b)) (Behind (b - a))

abbrev pub is_zero : Length → Bool
is_zero NoLimit = false
is_zero (Ahead n) = eqb n 0
is_zero (Behind n) = eqb n 0

abbrev pub is_odd : Length → Bool
is_odd NoLimit = false
is_odd (Ahead n) = eqb (n % 2) 1
is_odd (Behind n) = eqb (n % 2) 1

abbrev pub half : Length → Length
half NoLimit = NoLimit
half (Ahead n) = Ahead (n / 2)
half (Behind n) = Behind (n / 2)

-- "available: no node, not virtual"
unfoldable pub available : VertexRegisters → Bool
available s = same_node s.node no_node and not s.is_virtual

-- a node as a finding shows it
unfoldable pub shown : NodeIndex → Node
shown n = pick (same_node n no_node or same_node n virtual_node) None (Some n)

abbrev pub side : VertexRegisters → ℕ → Side
side s v = record { node = shown s.node; touch = shown s.root; vertex = record { 0 = v } }

-- what remains on an edge, over the joint speed
unfoldable pub limit : ℕ → Length → Response
limit speed remaining =
    -- "16: odd remaining at joint speed 2 on an edge with different shadow nodes"
    pick (eqb speed 2) (pick (is_odd remaining) (Err odd_remaining) (Ok (GrowLength (half remaining))))
    (Ok (GrowLength remaining))

-- a and b are the shadows of the ends v and w, which differ in node
unfoldable pub meeting : VertexRegisters → VertexRegisters → ℕ → ℕ → Length → Response
meeting a b v w remaining =
    -- "0 with neither end available .. is a Conflict; otherwise remaining / joint speed"
    pick (is_zero remaining and not (available a) and not (available b)) (Ok (Conflict (side a v) (side b w)))
    (limit (joint a.speed b.speed) remaining)

-- "An edge with equal shadow nodes, or joint speed not positive, reports no limit"
unfoldable pub respond : VertexRegisters → VertexRegisters → ℕ → ℕ → Length → Response
respond a b v w remaining =
    pick (same_node a.node b.node or eqb (joint a.speed b.speed) 0) (Ok (GrowLength NoLimit)) (meeting a b v w remaining)

module _ (es fs ys : List ℕ) where
  -- "remaining = fetch weight less new grown amounts"
  unfoldable pub remaining : ℕ → Length
  remaining e = less (get_or fs e 0) ((at ys (left_of es e)).grown + (at ys (right_of es e)).grown)

  unfoldable pub edge_response : List ℕ → ℕ → Response
  edge_response ss e = respond (at ss (left_of es e)) (at ss (right_of es e)) (left_of es e) (right_of es e) (remaining e)
