-- The definitions compute, so an example of document 01 holds by computing it: one table, one theorem.
use Prim.Native.Nat.{ℕ}
use Prim.Native.String.{String}
use mathlib.Core.Path.{◌≡◌, refl}
use mathlib.Core.List.{List, [], ◌∷◌, map}
use Rattle.laws.specs.Choice.{◌and◌, pick}
use Rattle.laws.specs.First.{first}
use Rattle.rules.specs.Words.{field_of, is_kind, kind_in, kind_of_word, speed_asked, asks, unpacked, in_bounds, word_of, word_for, packed, packed_reset}
use Rattle.rules.specs.Run.{list, Call, execute, look}
use Rattle.rules.specs.declared.instruction.CompactGrowState.TheVariants.{Grow}
use Rattle.rules.specs.declared.instruction.Instruction.{Instruction}
use Rattle.rules.specs.declared.instruction.Instruction.TheVariants.{SetSpeed, SetBlossom, AddDefectVertex, FindObstacle, Grow as GrowBy, LoadDefectsExternal}
use Rattle.rules.specs.Types.{Packed, Unpacked}
use Rattle.std.specs.Prelude.{Err, Ok}
use Rattle.rules.specs.declared.instruction.Asked.TheVariants.{Says, Reset}
use Rattle.rules.specs.declared.refusal.Refusal.TheVariants.{NotCarried, OutOfBounds}
use Rattle.rules.proofs.Text.{text}
use Rattle.rules.proofs.Computed.{Aspect, listing, registers, weights, lines, computed}

pub data Example : Type 0 where
  -- an image and its session in hex, and what is seen of it
  replays : Aspect → String → String → Example
  fetches : String → List ℕ → Example
  -- an image in hex, calls on its graph, and the line that answers each
  answers : String → List Call → String → Example
  -- a word, and what it asks; an instruction, and its word; reset's word
  carries : ℕ → Unpacked → Example
  packs : Instruction → Packed → Example
  resets : ℕ → Example

pub data Seen : Type 0 where
  numbers : List ℕ → Seen
  asked : Unpacked → Seen
  word : Packed → Seen

unfoldable pub sees : Example → Seen
unfolding computed ◌and◌ pick first field_of is_kind kind_in kind_of_word speed_asked asks unpacked in_bounds word_of word_for packed packed_reset
sees (replays aspect input output) = numbers (computed aspect input)
sees (fetches input output) = numbers (computed weights input)
sees (answers input calls output) = numbers (computed (lines calls) input)
sees (carries w u) = asked (unpacked w)
sees (packs i w) = word (packed i)
sees (resets w) = word packed_reset

abbrev pub expects : Example → Seen
expects (replays aspect input output) = numbers (text output)
expects (fetches input output) = numbers output
expects (answers input calls output) = numbers (text output)
expects (carries w u) = asked u
expects (packs i w) = word w
expects (resets w) = word (Ok w)

pub examples : List Example
examples =
    -- the worked example of "Replay listing"
    replays listing
    "444354 0100 00 0200 0100 0000 00FFFF 00FFFF 0000010004000000FFFF 0002000000 0006000200 01FFFFFF7F 0300000000"
    "DCT 1 2 1 0\ni g 4\ni g 2\ns c 0 1 0 1 0 1 2 1 2147483645\np\n"
    -- A: weight 4, maximum 1: length 0, growth 1, left 0
    ∷ replays listing
    "444354 0100 00 0200 0100 0000 00FFFF 00FFFF 0000010004000000FFFF 0002000000 0006000200 0101000000"
    "DCT 1 2 1 0\ni g 4\ni g 2\ns g 0 1 1 0\n"
    -- B: maximum 0: length 0, growth 0, no steps
    ∷ replays listing
    "444354 0100 00 0200 0100 0000 00FFFF 00FFFF 0000010004000000FFFF 0002000000 0006000200 0100000000"
    "DCT 1 2 1 0\ni g 4\ni g 2\ns g 0 0 0 0\n"
    -- C: weight 3: the second AddDefectVertex gets 16; vertex 1 is no defect
    ∷ replays listing
    "444354 0100 00 0200 0100 0000 00FFFF 00FFFF 0000010003000000FFFF 0002000000 0006000200"
    "DCT 1 2 1 0\ni g 3\nr 16\n"
    ∷ replays registers
    "444354 0100 00 0200 0100 0000 00FFFF 00FFFF 0000010003000000FFFF 0002000000 0006000200"
    "v 0 1 0 0 1 0 0\nv 1 0 0 0 0 - -\n"
    -- D: weight 4, Grow 3: length -1; the next search gets 17
    ∷ replays listing
    "444354 0100 00 0200 0100 0000 00FFFF 00FFFF 0000010004000000FFFF 0002000000 0006000200 00F4000000 0200000000"
    "DCT 1 2 1 0\ni g 4\ni g 2\ni g -1\nr 17 0 0 2147483647\n"
    -- E: one vertex, defect 0, Grow 3, Shrink, search: length 0, growth 3
    ∷ replays listing
    "444354 0100 00 0100 0000 0000 00FFFF 0002000000 00F4000000 0000000100 0200000000"
    "DCT 1 1 0 0\ni g max\ni g max\ni g 3\ns g 0 3 1 2147483644\n"
    -- F: same vertex, fresh defect, Grow 67,108,863 passes, Grow 1 more gets 15
    ∷ replays listing
    "444354 0100 00 0100 0000 0000 00FFFF 0002000000 00F4FFFFFF 0074000000"
    "DCT 1 1 0 0\ni g max\ni g max\nr 15\n"
    -- G: fresh defect set to Shrink, Grow 1 gets 14
    ∷ replays listing
    "444354 0100 00 0100 0000 0000 00FFFF 0002000000 0000000100 0074000000"
    "DCT 1 1 0 0\ni g max\ni g 0\nr 14\n"
    -- H: vertex 0 virtual, weight 4, only defect 1 with node 1: conflict node 1, none, vertices 1, 0, growth 4
    ∷ replays listing
    "444354 0100 00 0200 0100 0000 01FFFF 00FFFF 0000010004000000FFFF 0006000200 0200000000"
    "DCT 1 2 1 0\ni g 4\ns c 1 - 1 - 1 0 4 1 2147483643\n"
    -- I: DefectMatch, weight 4, Grow 2: no pairs; FindObstacle: pair 0, no limit
    ∷ replays listing
    "444354 0100 02 0200 0100 0100 00FFFF 00FFFF 0000010004000000FFFF 000000FFFF 0002000000 0006000200 00B4000000 0300000000 0004000000 0300000000"
    "DCT 1 2 1 1\ni g 4\ni g 2\ni c 0 1 0 1 0 1\np\ni g max\np 0\n"
    -- J: edges 0-1, 1-2, 2-3 of weight 2, 0, 0, defect 0: first search length 0, growth 2; second no limit
    ∷ replays listing
    "444354 0100 00 0400 0300 0000 00FFFF 00FFFF 00FFFF 00FFFF 0000010002000000FFFF 0100020000000000FFFF 0200030000000000FFFF 0002000000 0200000000 0200000000"
    "DCT 1 4 3 0\ni g 2\ns g 0 2 1 2147483645\ns g max 0 0 2147483645\n"
    -- K: fetch weights of 3, 6, 8 under a virtual condition: 0, 2, 4
    ∷ fetches
    "444354 0100 01 0200 0300 0000 01FFFF 00FFFF 00000100030000000000 00000100060000000000 00000100080000000000"
    (0 ∷ 2 ∷ 4 ∷ [])
    -- L: words SetSpeed(5, Grow) 688128, SetBlossom(3, 7) 393245, AddDefectVertex(4, 0) 524290, Grow 2 180, reset 36, load 5 655404
    ∷ carries 688_128 (Ok (Says (SetSpeed (record { 0 = 5 }) Grow)))
    ∷ carries 393_245 (Ok (Says (SetBlossom (record { 0 = 3 }) (record { 0 = 7 }))))
    ∷ carries 524_290 (Ok (Says (AddDefectVertex (record { 0 = 4 }) (record { 0 = 0 }))))
    ∷ carries 180 (Ok (Says (GrowBy 2)))
    ∷ carries 36 (Ok Reset)
    ∷ carries 655_404 (Ok (Says (LoadDefectsExternal (record { 0 = 5 }))))
    -- "3, 60 and 98304 get 12"
    ∷ carries 3 (Err NotCarried)
    ∷ carries 60 (Err NotCarried)
    ∷ carries 98_304 (Err NotCarried)
    ∷ packs (SetSpeed (record { 0 = 5 }) Grow) (Ok 688_128)
    ∷ packs (SetBlossom (record { 0 = 3 }) (record { 0 = 7 })) (Ok 393_245)
    ∷ packs (AddDefectVertex (record { 0 = 4 }) (record { 0 = 0 })) (Ok 524_290)
    ∷ packs (GrowBy 2) (Ok 180)
    ∷ packs (LoadDefectsExternal (record { 0 = 5 })) (Ok 655_404)
    ∷ packs (LoadDefectsExternal (record { 0 = 32_768 })) (Err OutOfBounds)
    ∷ resets 36
    -- "Readings to avoid"; propagation across two edges is J
    -- a FusionMatch that holds: its edge is not counted tight
    ∷ replays listing
    "444354 0100 03 0200 0100 0000 000500 00FFFF 00000100080000000000 0006000200 0034010000 0004000000 0300000000"
    "DCT 1 2 1 0\ni g 4\ni c - 1 - 1 0 1\ni g max\np 0\n"
    -- the cycle that loads a layer still has the reduced weight
    ∷ replays listing
    "444354 0100 01 0200 0100 0000 000500 00FFFF 00000100080000000000 0006000200 002C000A00 0004000000"
    "DCT 1 2 1 0\ni g 4\ni g 4\ni g 8\n"
    -- the first of two peers leads vertex 0, so that its conflict is with the second
    ∷ replays listing
    "444354 0100 00 0300 0200 0000 00FFFF 00FFFF 00FFFF 0000010000000000FFFF 0000020000000000FFFF 0006000200 000A000400"
    "DCT 1 3 2 0\ni g 0\ni c 1 2 1 2 0 2\n"
    -- a search, a reset, a search with what is left
    ∷ replays listing
    "444354 0100 00 0200 0100 0000 00FFFF 00FFFF 0000010004000000FFFF 0002000000 0006000200 0101000000 0024000000 0002000000 0200000000"
    "DCT 1 2 1 0\ni g 4\ni g 2\ns g 0 1 1 0\nz\ni g 4\ns g 0 0 0 0\n"
    -- refusals, each at its smallest
    -- 5 is looked at before any record
    ∷ replays listing
    "444354 0100 00 0100 0000 0000 02FF"
    "bad 5\n"
    -- 7 before 8: an end not below V, weight 1,000,001
    ∷ replays listing
    "444354 0100 00 0200 0100 0000 00FFFF 00FFFF 0000020041420F00FFFF"
    "bad 7\n"
    -- 9: conditioned on a vertex that is no end, also without fusion
    ∷ replays listing
    "444354 0100 00 0300 0100 0000 00FFFF 00FFFF 00FFFF 00000100040000000200"
    "bad 9\n"
    -- 12, and 13 for a negative maximum, which is no search begun; 18 for another kind ends the replay
    ∷ replays listing
    "444354 0100 00 0200 0100 0000 00FFFF 00FFFF 0000010004000000FFFF 0003000000 0100000080 0200000000 0400000000 0300000000"
    "DCT 1 2 1 0\nr 12\nr 13\ns g max 0 0 2147483647\nr 18\n"
    -- 18: a record cut short
    ∷ replays listing
    "444354 0100 00 0200 0100 0000 00FFFF 00FFFF 0000010004000000FFFF 00040000"
    "DCT 1 2 1 0\nr 18\n"
    -- the lowest vertex decides: 15 at vertex 0, though 1 gets 14
    ∷ replays listing
    "444354 0100 00 0200 0000 0000 00FFFF 00FFFF 0002000000 00F4FFFFFF 0006000200 0000000300 0074000000"
    "DCT 1 2 0 0\ni g max\ni g max\ni g max\ni g 0\nr 15\n"
    -- 14 before 16: vertex 1 at Shrink would show the node of 0 against 2, with 1 remaining
    ∷ replays listing
    "444354 0100 00 0300 0200 0000 00FFFF 00FFFF 00FFFF 0000010001000000FFFF 0100020002000000FFFF 0006000200 0000000300 0002000000 000A000400 0074000000"
    "DCT 1 3 2 0\ni g 1\ni g 0\ni g 0\ni g 0\nr 14\n"
    -- 13 for a vertex that no word can carry, and 19, by calls: edge 0-1 of weight 0 with a DefectMatch
    ∷ answers
    "444354 0100 02 0200 0100 0100 00FFFF 00FFFF 0000010000000000FFFF 000000FFFF"
    (execute (AddDefectVertex (record { 0 = 40_000 }) (record { 0 = 0 }))
    ∷ execute (AddDefectVertex (record { 0 = 0 }) (record { 0 = 0 }))
    ∷ execute (AddDefectVertex (record { 0 = 1 }) (record { 0 = 1 }))
    ∷ execute FindObstacle
    ∷ look (list 0)
    ∷ look (list 1)
    ∷ [])
    "r 13\ni g max\ni c 0 1 0 1 0 1\ni g max\nr 19\np 0\n"
    ∷ []

pub judged : map sees examples ≡ map expects examples
unfolding examples sees
judged = refl
