-- How each call ends, over variables. What stands on a board is all in use.
use Rattle.std.specs.Prelude.{ℕ, suc, ◌<◌, ◌≤◌, min, ◌≡◌, Bool, true, false, List, replicate, Err, Ok}
use Rattle.std.proofs.Common.{sym, ap, ◌∙◌, lt-ltb, le-ltb, arith}
use Rattle.laws.specs.Choice.{pick}
use Rattle.rules.specs.Graph.{in_use}
use Rattle.rules.specs.State.{with_maximum, fresh_registers, fresh_state, reset}
use Rattle.rules.specs.Words.{in_bounds, unpacked}
use Rattle.rules.specs.Instruct.{refused, step, barred, instruct, word_answer, word_cycle, carried_out, word_run}
use Rattle.rules.specs.Search.{begun, walked, told, search, search_on, search_to}
use Rattle.rules.specs.declared.graph.Graph.{Graph}
use Rattle.rules.specs.declared.state.Cycle.{Cycle}
use Rattle.rules.specs.declared.state.Searched.{Searched}
use Rattle.rules.specs.declared.state.State.{State}
use Rattle.rules.specs.Types.{Answer, Unpacked, WordAnswer}
use Rattle.rules.specs.declared.finding.Finding.{Finding}
use Rattle.rules.specs.declared.finding.Carried.TheVariants as W
use Rattle.rules.specs.declared.finding.Sought.TheVariants.{NotBegun}
use Rattle.rules.specs.declared.instruction.Instruction.{Instruction}
use Rattle.rules.specs.declared.instruction.Asked.TheVariants as U
use Rattle.rules.specs.declared.refusal.Refusal.{Refusal}
use Rattle.rules.specs.declared.refusal.Refusal.TheVariants.{OutOfBounds}
use Rattle.board.specs.Board.{vertices_on, defaults_on, nv_on, graph_on, Laid}
use Rattle.comb_lent.specs.Whole.{all_in_use}

-- ---- an instruction

module _ (b : List ℕ) (s : State) (i : Instruction) (h : Bool) (t : h ≡ in_bounds i) where
  pub ends_out : h ≡ false → refused s OutOfBounds ≡ instruct (graph_on b) s i
  unfolding instruct barred pick
  ends_out e = rw (← t, e)

  pub ends_in : Laid b → (c : Cycle) → h ≡ true → c ≡ step (graph_on b) s i → c ≡ instruct (graph_on b) s i
  unfolding instruct barred pick
  ends_in laid c e k = rw (← t, e, all_in_use b laid) k

-- ---- a search

pub ends_sought : (b : List ℕ) (s : State) (x : Searched) → Laid b → x ≡ told (walked (graph_on b) (suc s.maximum) (begun s)) → x ≡ search_on (graph_on b) s
unfolding search_on search
ends_sought b s x laid e = rw (all_in_use b laid) e

-- "read as signed"
module _ (g : Graph) (s : State) (n : ℕ) where
  pub ends_to : (x : Searched) → n < 2_147_483_648 → x ≡ search_on g (with_maximum n s) → x ≡ search_to g s n
  unfolding search_to pick
  ends_to x l e = rw (lt-ltb n 2_147_483_648 l) e

  pub ends_negative : 2_147_483_648 ≤ n → record { state = s; answer = NotBegun OutOfBounds } ≡ search_to g s n
  unfolding search_to pick
  ends_negative l = rw (le-ltb n 2_147_483_648 l)

-- ---- a word

module _ (g : Graph) (s : State) (w : ℕ) (u : Unpacked) (h : u ≡ unpacked w) where
  carried_as : (v : Unpacked) → u ≡ v → carried_out g s v ≡ word_run g s w
  unfolding word_run
  carried_as v e = rw (← h, e)

  pub ends_refused : (r : Refusal) → u ≡ Err r → {a : WordAnswer} → a ≡ Err r → record { state = s; answer = a } ≡ word_run g s w
  ends_refused r e p = rw p (carried_as (Err r) e)

  module _ (i : Instruction) (e : u ≡ Ok (U.Says i)) (t : State) (a : Answer) (c : record { state = t; answer = a } ≡ instruct g s i) where
    said : record { state = t; answer = word_answer a } ≡ word_run g s w
    said = ap (λ (x : Cycle). word_cycle x) c ∙ carried_as (Ok (U.Says i)) e

    pub ends_found : (f : Finding) → a ≡ Ok f → record { state = t; answer = Ok (W.Found f) } ≡ word_run g s w
    ends_found f q = rw q at said

    pub ends_cut : (r : Refusal) → a ≡ Err r → {b : WordAnswer} → b ≡ Err r → record { state = t; answer = b } ≡ word_run g s w
    ends_cut r q p = rw p (rw q at said)

module _ (b : List ℕ) (s : State) where
  abbrev fresh_with : List ℕ → List ℕ → List Bool → State
  fresh_with fresh ds none = record { registers = fresh; weights = ds; stalled = none; maximum = s.maximum }

  reset_is : reset (graph_on b) s ≡ fresh_with (fresh_registers (vertices_on b) (nv_on b)) (defaults_on b) (replicate 1_024 false)
  unfolding reset fresh_state in_use
  reset_is = let n : min (nv_on b) 256 ≡ nv_on b = omega arith in rw n

  pub ends_reset : (w : ℕ) (u : Unpacked) (fresh ds : List ℕ) (none : List Bool) → u ≡ unpacked w → u ≡ Ok U.Reset → ds ≡ defaults_on b
      → fresh ≡ fresh_registers (vertices_on b) (nv_on b) → none ≡ replicate 1_024 false
      → record { state = fresh_with fresh ds none; answer = Ok W.Reset } ≡ word_run (graph_on b) s w
  ends_reset w u fresh ds none h e d p q =
      rw (d, p, q) (ap (λ (t : State). record { state = t; answer = Ok W.Reset }) (sym reset_is) ∙ carried_as (graph_on b) s w u h (Ok U.Reset) e)

pub ruleset words = (ends_refused, ends_reset)
