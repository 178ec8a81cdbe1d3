-- Counts over one line more.
use Rattle.std.proofs.Common.{◌≡◌, ℕ, ◌+◌, ◌<◌, ◌≤◌, Bool, true, false, List, [], ◌∷◌, length, get_or, take, refl, ap, ◌∙◌, add-zero, lit≤}
use Rattle.std.specs.Int.{from_bool}
use Rattle.std.proofs.lemmas.List.{take_more}
use Rattle.std.proofs.lemmas.List.Sums.{fold_more}
use Rattle.bus.specs.Meaning.{Meaning}
use Rattle.machine.specs.Lines.{one, stalled, stalls}
use Rattle.machine.specs.State.{State}
use Rattle.machine.specs.Clock.{clock, run, ends, counted, finished}
use Rattle.machine.proofs.Runs.{counted-append, stalls-append}
use Rattle.risc5.specs.Set.{card, pace}

module _ (M : Meaning) (xs : List ℕ) (i : ℕ) (h : i < length xs) where
  pub run_more : (s : State) → run M card pace (take (i + 1) xs) s ≡ clock M card pace (get_or xs i 0) (run M card pace (take i xs) s)
  run_more s = fold_more (λ (e : State) (l : ℕ). clock M card pace l e) s xs i 0 h

  pub finished_more : (s : State)
      → finished M card pace (take (i + 1) xs) s ≡ finished M card pace (take i xs) s + one (ends M card pace (get_or xs i 0) (run M card pace (take i xs) s))
  unfolding counted
  finished_more s =
      ap (λ (ls : List ℕ). finished M card pace ls s) (take_more xs i 0 h)
      ∙ counted-append M card pace (ends M card pace) (take i xs) (get_or xs i 0 ∷ []) s
      ∙ ap (λ (n : ℕ). finished M card pace (take i xs) s + n) (add-zero _)

  pub stalls_more : stalls (take (i + 1) xs) ≡ stalls (take i xs) + one (stalled (get_or xs i 0))
  unfolding stalls
  stalls_more =
      ap stalls (take_more xs i 0 h) ∙ stalls-append (take i xs) (get_or xs i 0 ∷ []) ∙ ap (λ (n : ℕ). stalls (take i xs) + n) (add-zero _)

-- a flag as a number
pub byte_one : (b : Bool) → from_bool b ≡ one b
byte_one true = refl
byte_one false = refl

pub byte_most : (b : Bool) → from_bool b ≤ 1
byte_most true = lit≤ tt
byte_most false = lit≤ tt
