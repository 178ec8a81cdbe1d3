-- What a memory means: its contents are its words, from address 0 on.
use Rattle.std.specs.Prelude.{ℕ, ◌%◌, ◌^◌, if◌then◌else◌, ◌||◌, List, Option, ◌==◌, nat_lt, slice_index, slice_set, refl}
use Rattle.std.proofs.Common.{lit<}
use Rattle.std.proofs.Math.Nat.{mod-lt}
use Rattle.refusal.specs.Heard.{Told, refused, nothing}
use Rattle.bus.specs.Lanes.{merged}
use Rattle.bus.specs.declared.Marks.{Marks}
use Rattle.bus.specs.Meaning.{Meaning}

-- what is told of a memory of so many words
abbrev pub words_refusal : ℕ → Option Told
words_refusal n = if n == 0 || nat_lt 262144 n then refused 1 1 0 else nothing

-- the word at an address, and 0 past the end
abbrev pub memory_shown : List ℕ → ℕ → ℕ
memory_shown h at = slice_index h at % 2 ^ 32

-- a write replaces the marked bytes; past the end it is ignored
abbrev pub memory_write : List ℕ → ℕ → ℕ → Marks → List ℕ
memory_write h at word marks = slice_set h at (merged (slice_index h at) word marks)

-- reads and clocks change nothing
abbrev pub memory_meaning : Meaning
memory_meaning = record {
  shown = memory_shown;
  read = λ h at. h;
  write = memory_write;
  passed = λ h n. h;
  fits = λ h at. mod-lt (slice_index h at) (lit< tt);
  none = λ h. refl;
  more = λ h a b. refl;
}
