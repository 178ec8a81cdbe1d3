-- What a field's columns can have shown is below ten to their number.
use Rattle.std.proofs.Common.{ℕ, ◌+◌, ◌-◌, ◌*◌, ◌^◌, ◌<◌, ◌≤◌, add-one, arith, rules}
use Rattle.std.proofs.Math.Nat.{pow-succ', pow-le-pow_right}
use Rattle.deck.specs.declared.field.Seen.{Seen}
use Rattle.deck.specs.declared.field.Seen.TheVariants.{Blanks, Zero, Number, Wrong}
use Rattle.deck.specs.Field.{digit, after, Small}

small_digit : (b n m : ℕ) → (b ≤ 57 → n < m) → Small (digit b (Number n)) m
small_digit b n m h = search rules

small_step : (s : Seen) (b m : ℕ) → 0 < m → Small s m → Small (after s b) (10 * m)
small_step Blanks b m p h = search (rules, small_digit)
small_step (Number n) b m p h = small_digit b (10 * n + (b - 48)) (10 * m) (λ e. omega arith)
small_step Zero b m p h = tt
small_step Wrong b m p h = tt

pub small_more : (s : Seen) (b i : ℕ) → Small s (10 ^ i) → Small (after s b) (10 ^ (i + 1))
small_more s b i h = rw (add-one, pow-succ') (small_step s b (10 ^ i) (pow-le-pow_right {n = 10} (omega arith) {i = 0} {j = i} (omega arith)) h)
