-- What is in use of a graph is all in use, so every call answers on it as on the graph itself.
use Rattle.std.specs.Prelude.{ℕ, ◌≤◌, min, ◌≡◌, refl, List, Err, Ok}
use Rattle.std.proofs.Common.{arith}
use Rattle.laws.specs.Leading.{leading, leading_le, leading_all, leading_each}
use Rattle.rules.specs.Graph.{fits, edges_in_use, in_use}
use Rattle.rules.specs.State.{with_maximum, fresh_state, reset}
use Rattle.rules.specs.Instruct.{instruct, carried_out, word_run}
use Rattle.rules.specs.Search.{search, search_on, search_to}
use Rattle.rules.specs.Words.{unpacked}
use Rattle.rules.specs.Run.{Look, list, Call, execute, word, clear, seek, seek_on, look, looked, call}
use Rattle.rules.specs.declared.graph.Graph.{Graph}
use Rattle.rules.specs.declared.state.State.{State}
use Rattle.rules.specs.declared.instruction.Instruction.{Instruction}
use Rattle.rules.specs.Types.{Unpacked}
use Rattle.rules.specs.declared.instruction.Asked.TheVariants as U

pub edges_again : (es : List ℕ) (n : ℕ) → n ≤ 1_024 → edges_in_use es (min (edges_in_use es n) 1_024) ≡ edges_in_use es n
unfolding edges_in_use
edges_again es n h =
    let m : min (leading (fits es) n) 1_024 ≡ leading (fits es) n = omega (arith, leading_le (fits es) n, h) in
    rw m (leading_all (fits es) (leading (fits es) n) (leading_each (fits es) n))

min_again : (n m : ℕ) → min (min n m) m ≡ min n m
min_again n m = omega arith

pub in_use_again : (g : Graph) → in_use (in_use g) ≡ in_use g
unfolding in_use
in_use_again g = rw (min_again g.nv 256, edges_again g.edges (min g.ne 1_024) (omega arith), min_again g.nu 2_048)

module _ (g : Graph) (s : State) where
  fresh_again : (m : ℕ) → fresh_state (in_use g) m ≡ fresh_state g m
  unfolding fresh_state in_use
  fresh_again m = rw (min_again g.nv 256)

  reset_again : reset (in_use g) s ≡ reset g s
  unfolding reset
  reset_again = fresh_again s.maximum

  pub instruct_again : (i : Instruction) → instruct (in_use g) s i ≡ instruct g s i
  unfolding instruct
  instruct_again i = rw (in_use_again g)

  carried_again : (u : Unpacked) → carried_out (in_use g) s u ≡ carried_out g s u
  carried_again (Ok (U.Says i)) = rw (instruct_again i)
  carried_again (Ok U.Reset) = rw reset_again
  carried_again (Err r) = refl

  pub word_again : (w : ℕ) → word_run (in_use g) s w ≡ word_run g s w
  unfolding word_run
  word_again w = carried_again (unpacked w)

pub search_again : (g : Graph) (s : State) → search_on (in_use g) s ≡ search_on g s
unfolding search_on search
search_again g s = rw (in_use_again g)

looked_again : (g : Graph) (s : State) (l : Look) → looked (in_use g) s l ≡ looked g s l
looked_again g s (list room) = refl

pub call_again : (g : Graph) (s : State) (c : Call) → call (in_use g) s c ≡ call g s c
unfolding call search_to
call_again g s (execute i) = rw (instruct_again g s i)
call_again g s (word w) = rw (word_again g s w)
call_again g s clear = rw (reset_again g s)
call_again g s (seek m) = rw (search_again g (with_maximum m s))
call_again g s seek_on = rw (search_again g s)
call_again g s (look l) = rw (looked_again g s l)
