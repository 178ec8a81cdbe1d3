-- The flags as one digit.
use Rattle.std.specs.Prelude.{◌≡◌, ℕ, ◌+◌, ◌*◌, ◌<◌, Result, MatchResult}
use Rattle.std.specs.Int.{from_bool}
use Rattle.isa.specs.declared.Flags.{Flags}
use Rattle.isa.specs.declared.FlagsError.{FlagsError}

-- 8 for N, 4 for Z, 2 for C and 1 for V
abbrev pub digit_of : Flags → ℕ
digit_of f = 8 * from_bool f.n + 4 * from_bool f.z + 2 * from_bool f.c + from_bool f.v

-- the flags with this digit, or an error with a number over 15
abbrev pub Reads : ℕ → Result Flags FlagsError → Type 0
Reads digit r = MatchResult r (λ flags. digit_of flags ≡ digit) (λ e. (e.0 ≡ digit) × (15 < digit))
