-- What a memory promises of its words.
use Rattle.std.specs.Prelude.{◌≡◌, ℕ, ◌^◌, ◌<◌, ◌≤◌, if◌then◌else◌, List, length, ◌≢◌}
use Rattle.bus.specs.Lanes.{in_lane, marked, all_marked}
use Rattle.bus.specs.declared.Marks.{Marks}
use Rattle.memory.specs.Words.{memory_meaning}

-- A memory shows the word last written under its marks, and at every other address what it showed before.
pub record Keeps : Type 0 where
  -- at the address written, a marked lane shows the word's byte and any other lane the byte that was there
  pub lanes : (h : List ℕ) (at word : ℕ) (marks : Marks) → at < length h → (lane : ℕ) → lane < 4 →
      in_lane (memory_meaning.shown (memory_meaning.write h at word marks) at) lane
      ≡ (if marked marks lane then in_lane word lane else in_lane (memory_meaning.shown h at) lane)
  -- under all four marks it shows the word itself
  pub whole : (h : List ℕ) (at word : ℕ) → at < length h → word < 2 ^ 32 →
      memory_meaning.shown (memory_meaning.write h at word all_marked) at ≡ word
  -- no other address changes
  pub elsewhere : (h : List ℕ) (at other word : ℕ) (marks : Marks) → (at ≢ other) →
      memory_meaning.shown (memory_meaning.write h at word marks) other ≡ memory_meaning.shown h other
  -- past its end it shows 0 and ignores writes
  pub outside : (h : List ℕ) (at word : ℕ) (marks : Marks) → length h ≤ at →
      (memory_meaning.shown h at ≡ 0) × (memory_meaning.write h at word marks ≡ h)
