-- What number the columns of a field say, told twice: by reading them from the left, and by how the number is written.
use Rattle.std.specs.Prelude.{◌≡◌, ℕ, ◌+◌, ◌-◌, ◌*◌, ◌^◌, ◌<◌, ◌≤◌, if◌then◌else◌, List, ◌++◌, length, replicate, Some, None, decimal, fold, Option, ◌==◌, nat_le}
use Rattle.deck.specs.declared.field.Seen.{Seen}
use Rattle.deck.specs.declared.field.Seen.TheVariants.{Blanks, Zero, Number, Wrong}

-- where a digit is due: the bytes 48 to 57 are the digits, any other is wrong
abbrev pub digit : ℕ → Seen → Seen
digit b s = if nat_le 48 b then (if nat_le b 57 then s else Wrong) else Wrong

-- one byte more, from the left: blanks (byte 32) first, then a lone 0 or digits of which the first is not 0, then no more
abbrev pub after : Seen → ℕ → Seen
after Blanks b = if b == 32 then Blanks else if b == 48 then Zero else digit b (Number (b - 48))
after (Number n) b = digit b (Number (10 * n + (b - 48)))
after Zero b = Wrong
after Wrong b = Wrong

-- what has been said once every byte is read; blanks alone say no number
abbrev pub said : Seen → Option ℕ
said Blanks = None
said Zero = Some 0
said (Number n) = Some n
said Wrong = None

abbrev pub parse : List ℕ → Option ℕ
parse bs = said (fold after Blanks bs)

-- the bytes are some blanks and then the decimal digits of n
abbrev pub Written : List ℕ → ℕ → Type 0
Written bs n = (blanks : ℕ) × (bs ≡ replicate blanks 32 ++ decimal n)

-- The two are one: up to ten columns are read as a number exactly if that number is so written in them.
pub record ReadsAsWritten : Type 0 where
  pub read : (bs : List ℕ) (n : ℕ) → length bs ≤ 10 → parse bs ≡ Some n → Written bs n
  pub written : (bs : List ℕ) (n : ℕ) → n < 2 ^ 64 → Written bs n → parse bs ≡ Some n
  -- and they are refused exactly if no number is so written in them
  pub refused : (bs : List ℕ) (n : ℕ) → n < 2 ^ 64 → parse bs ≡ None → Written bs n → ⊥
  pub otherwise : (bs : List ℕ) → length bs ≤ 10 → ((n : ℕ) → n < 2 ^ 64 → Written bs n → ⊥) → parse bs ≡ None

-- what the bytes so far have shown is below a bound
abbrev pub Small : Seen → ℕ → Type 0
Small Blanks m = Unit {0}
Small Zero m = Unit {0}
Small (Number n) m = n < m
Small Wrong m = Unit {0}
