-- Each call is a step of a history.
use Rattle.std.proofs.Common.{◌≡◌, ℕ, List, length, take, drop, None, sym, ap, ◌∙◌, subst}
use Rattle.std.proofs.Math.Seq.{take-append_seam}
use Rattle.bus.specs.Meaning.{Meaning}
use Rattle.machine.specs.declared.Record.{Record}
use Rattle.machine.specs.Lines.{stalls}
use Rattle.machine.specs.State.{State, live}
use Rattle.machine.specs.Clock.{run, finished}
use Rattle.machine.specs.Instructions.{Run}
use Rattle.machine.specs.Histories.{lines_refused, leap_refused, leapt, clocking, leaping, Did, clocked, leaped}
use Rattle.risc5.specs.Set.{card, pace}
use Rattle.cpu.specs.Calls.{run_answer, overlaid}

module _ (M : Meaning) (ls : List ℕ) (s e : State) where
  pub clocked_as : (n k : ℕ) → lines_refused ls ≡ None → n ≡ finished M card pace ls s → k ≡ stalls ls → e ≡ run M card pace ls s
      → Did M card pace s (clocking ls n k) e
  clocked_as n k h p q w =
      subst (λ (i : ℕ). Did M card pace s (clocking ls i k) e) (sym p)
      (subst (λ (i : ℕ). Did M card pace s (clocking ls (finished M card pace ls s) i) e) (sym q)
      (subst (Did M card pace s (clocking ls (finished M card pace ls s) (stalls ls))) (sym w) (clocked ls h)))

  pub leaped_as : (room : ℕ) (a : ℕ × ℕ × ℕ) (t u : List Record) → leap_refused ls s.core.waiting.step ≡ None
      → a ≡ run_answer M (leapt M card pace room s ls) → u ≡ overlaid (leapt M card pace room s ls).records t
      → e ≡ live (leapt M card pace room s ls).state → Did M card pace s (leaping ls room a.0 a.1 a.2 (take a.1 u)) e
  leaped_as room a t u h p q w =
      let R : Run = leapt M card pace room s ls in
      let o : ℕ × ℕ × ℕ = run_answer M R in
      subst (λ (x : ℕ × ℕ × ℕ). Did M card pace s (leaping ls room x.0 x.1 x.2 (take x.1 u)) e) (sym p)
      (subst (λ (x : List Record). Did M card pace s (leaping ls room o.0 o.1 o.2 x) e) (sym (ap (take o.1) q ∙ take-append_seam R.records (drop (length R.records) t)))
      (subst (Did M card pace s (leaping ls room o.0 o.1 o.2 R.records)) (sym w) (leaped ls room h)))
