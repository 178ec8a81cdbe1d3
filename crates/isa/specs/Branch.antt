-- Branches: when they are taken, where they go, what they link, and what else they do.
use Rattle.std.specs.Prelude.{ℕ, ◌+◌, ◌*◌, ◌%◌, ◌^◌, Bool, true, cond, not, ◌&&◌, ◌||◌, ◌==◌}
use Rattle.isa.specs.declared.Flags.{Flags}
use Rattle.isa.specs.Numbers.{field, bit, differ}
use Rattle.isa.specs.Word.{u, v}

-- the condition with number cc
abbrev pub holds : ℕ → Flags → Bool
holds cc f =
    cond (cc == 0) f.n
    (cond (cc == 1) f.z
    (cond (cc == 2) f.c
    (cond (cc == 3) f.v
    (cond (cc == 4) (f.c || f.z)
    (cond (cc == 5) (differ f.n f.v)
    (cond (cc == 6) (differ f.n f.v || f.z) true))))))

-- bit 27 inverts the condition
abbrev pub taken_by : ℕ → Flags → Bool
taken_by w f = differ (bit 27 w) (holds (field 24 3 w) f)

-- the address after a word's own, modulo 2^22
abbrev pub following : ℕ → ℕ
following pc = (pc + 1) % 2 ^ 22

-- where a taken branch goes: by its displacement, or to the word that the value of R.c names as a byte address
abbrev pub target_of : ℕ → ℕ → ℕ → ℕ
target_of w pc value = cond (u w) ((pc + 1 + field 0 22 w) % 2 ^ 22) (field 2 22 value)

-- what a taken branch with v writes into R15: the byte address after it
abbrev pub link_of : ℕ → ℕ
link_of pc = 4 * following pc

-- a return from interrupt, taken or not
abbrev pub returns_by : ℕ → Bool
returns_by w = not (u w) && bit 4 w

-- enable after a branch, taken or not: bit 0 where u and v are 0 and bit 5 is 1
abbrev pub enabled_by : ℕ → Bool → Bool
enabled_by w enable = cond (not (u w) && (not (v w) && bit 5 w)) (bit 0 w) enable
