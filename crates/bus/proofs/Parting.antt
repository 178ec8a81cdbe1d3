-- A word taken apart into its four bytes, and put together again.
use Rattle.std.proofs.Common.{◌≡◌, ℕ, zero, suc, ◌^◌, ◌<◌, [], ◌∷◌, get_or, set, arith}
use Rattle.bus.specs.Lanes.{in_lane, joined, merged, placed, only_marked}

module _ (a b c d : ℕ) (fa : a < 256) (fb : b < 256) (fc : c < 256) (fd : d < 256) where
  -- four bytes, put together and taken apart again
  pub parted : (lane : ℕ) → lane < 4 → in_lane (joined (a ∷ b ∷ c ∷ d ∷ [])) lane ≡ get_or (a ∷ b ∷ c ∷ d ∷ []) lane 0
  parted zero lt = omega arith
  parted (suc zero) lt = omega arith
  parted (suc (suc zero)) lt = omega arith
  parted (suc (suc (suc zero))) lt = omega arith
  parted (suc (suc (suc (suc lane)))) lt = absurd (omega arith)

  -- they make a word
  pub joined_fits : joined (a ∷ b ∷ c ∷ d ∷ []) < 2 ^ 32
  joined_fits = omega arith

same_four : {p q r s p' q' r' s' : ℕ} → p ≡ p' → q ≡ q' → r ≡ r' → s ≡ s' → joined (p ∷ q ∷ r ∷ s ∷ []) ≡ joined (p' ∷ q' ∷ r' ∷ s' ∷ [])
same_four e f g h = cc

-- a byte that replaces one lane of a word
pub replaced : (a b c d v : ℕ) → a < 256 → b < 256 → c < 256 → d < 256 → v < 256 → (lane : ℕ) → lane < 4 →
    merged (joined (a ∷ b ∷ c ∷ d ∷ [])) (placed v lane) (only_marked lane) ≡ joined (set (a ∷ b ∷ c ∷ d ∷ []) lane v)
replaced a b c d v fa fb fc fd fv zero lt =
    let zero_fits : 0 < 256 = omega arith in
    let old = parted a b c d fa fb fc fd in
    same_four (parted v 0 0 0 fv zero_fits zero_fits zero_fits 0 (omega arith)) (old 1 (omega arith)) (old 2 (omega arith)) (old 3 (omega arith))
replaced a b c d v fa fb fc fd fv (suc zero) lt =
    let zero_fits : 0 < 256 = omega arith in
    let old = parted a b c d fa fb fc fd in
    same_four (old 0 (omega arith)) (parted 0 v 0 0 zero_fits fv zero_fits zero_fits 1 (omega arith)) (old 2 (omega arith)) (old 3 (omega arith))
replaced a b c d v fa fb fc fd fv (suc (suc zero)) lt =
    let zero_fits : 0 < 256 = omega arith in
    let old = parted a b c d fa fb fc fd in
    same_four (old 0 (omega arith)) (old 1 (omega arith)) (parted 0 0 v 0 zero_fits zero_fits fv zero_fits 2 (omega arith)) (old 3 (omega arith))
replaced a b c d v fa fb fc fd fv (suc (suc (suc zero))) lt =
    let zero_fits : 0 < 256 = omega arith in
    let old = parted a b c d fa fb fc fd in
    same_four (old 0 (omega arith)) (old 1 (omega arith)) (old 2 (omega arith)) (parted 0 0 0 v zero_fits zero_fits zero_fits fv 3 (omega arith))
replaced a b c d v fa fb fc fd fv (suc (suc (suc (suc lane)))) lt = absurd (omega arith)
