-- What a bus means. Its contents are a finite list of numbers; its meaning says what they show and how they change.
use Rattle.std.specs.Prelude.{◌≡◌, ℕ, ◌+◌, ◌^◌, ◌<◌, List}
use Rattle.bus.specs.declared.Marks.{Marks}

-- Four functions of the contents and a word address below 2^22, and the three laws that every bus keeps.
pub record Meaning : Type 0 where
  -- the word shown at an address
  pub shown : List ℕ → ℕ → ℕ
  -- the contents after a read
  pub read : List ℕ → ℕ → List ℕ
  -- the contents after a write of a word under four byte marks
  pub write : List ℕ → ℕ → ℕ → Marks → List ℕ
  -- the contents after a number of clocks
  pub passed : List ℕ → ℕ → List ℕ
  -- a shown word has 32 bits
  pub fits : (h : List ℕ) (at : ℕ) → shown h at < 2 ^ 32
  -- no clocks change nothing
  pub none : (h : List ℕ) → passed h 0 ≡ h
  -- a clocks and then b clocks are a + b clocks
  pub more : (h : List ℕ) (a b : ℕ) → passed (passed h a) b ≡ passed h (a + b)

-- A bus is still if clocks never change its contents.
abbrev pub Still : Meaning → Type 0
Still m = (h : List ℕ) (n : ℕ) → m.passed h n ≡ h
