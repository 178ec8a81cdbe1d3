-- What holds of each place up to one, and at the next, holds of each place up to that.
use Rattle.std.proofs.Common.{◌≡◌, ℕ, ◌+◌, ◌≤◌, subst, ⊎_elim, arith}
use Rattle.std.proofs.lemmas.Bool.{cases_lt}

pub up_to : (P : ℕ → Type 0) (i : ℕ) → ((j : ℕ) → 1 ≤ j → j ≤ i → P j) → P (i + 1) → (j : ℕ) → 1 ≤ j → j ≤ i + 1 → P j
up_to P i below here j a b =
    ⊎_elim (λ lt. below j a (omega arith)) (λ le. let e : i + 1 ≡ j = omega arith in subst P e here) (cases_lt j (i + 1))
