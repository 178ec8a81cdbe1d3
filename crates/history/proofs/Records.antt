-- A leap writes no more records than there is room for, and leaves what stands behind them.
use Rattle.std.proofs.Common.{◌≡◌, ℕ, zero, suc, ◌≤◌, List, [], length, drop, Some, None, Option, refl, arith}
use Rattle.std.proofs.lemmas.List.{drop_at}
use Rattle.bus.specs.Meaning.{Meaning}
use Rattle.refusal.specs.declared.Refusal.{Refusal}
use Rattle.machine.specs.declared.Record.{Record}
use Rattle.machine.specs.State.{State, Boundary}
use Rattle.machine.specs.Shares.{Cut, short, whole}
use Rattle.machine.specs.Instructions.{Run, instruction, share, onward, leaps}
use Rattle.machine.specs.Histories.{leap_refused, leapt}
use Rattle.risc5.specs.Set.{card, pace}
use Rattle.cpu.specs.Calls.{answer_by, left_by, run_answer, leap_answer, leap_records, overlaid}
use Rattle.history.specs.Asked.{wrote_by}

module _ (M : Meaning) where
  onward_room : (n : ℕ) (go : Boundary → List ℕ → Run) → ((s : Boundary) (ls : List ℕ) → length (go s ls).records ≤ n) → (s : Boundary) (ls : List ℕ) (c : Cut)
      → length (onward M card pace go s ls c).records ≤ suc n
  onward_room n go h s ls short = omega arith
  onward_room n go h s ls (whole b l left) = omega (arith, h (instruction M card b l s) left)

  records_room : (room : ℕ) (s : Boundary) (ls : List ℕ) → length (leaps M card pace room s ls).records ≤ room
  unfolding leaps
  records_room zero s ls = omega arith
  records_room (suc room) s ls = onward_room room (leaps M card pace room) (records_room room) s ls (share M card pace s ls)

  pub wrote_room : (room : ℕ) (ls : List ℕ) (s : State) → wrote_by (leap_answer M room ls s) ≤ room
  wrote_room room ls s = by (leap_refused ls s.core.waiting.step)
    where
      by : (o : Option Refusal) → wrote_by (answer_by o (run_answer M (leapt M card pace room s ls))) ≤ room
      by None = records_room room _ ls
      by (Some r) = omega arith

  pub wrote_behind : (room : ℕ) (ls : List ℕ) (s : State) (t : List Record)
      → drop (wrote_by (leap_answer M room ls s)) (overlaid (leap_records M room ls s) t) ≡ drop (wrote_by (leap_answer M room ls s)) t
  wrote_behind room ls s t = by (leap_refused ls s.core.waiting.step)
    where
      by : (o : Option Refusal) → (let n : ℕ = wrote_by (answer_by o (run_answer M (leapt M card pace room s ls))) in
          drop n (overlaid (left_by o (leapt M card pace room s ls).records []) t) ≡ drop n t)
      by None = drop_at (leapt M card pace room s ls).records _ _ refl
      by (Some r) = refl
