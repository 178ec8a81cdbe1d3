-- A word is four bytes; byte 0 is the lowest.
use Rattle.std.specs.Prelude.{ℕ, ◌+◌, ◌*◌, ◌/◌, ◌%◌, Bool, true, false, if◌then◌else◌, List, [], ◌∷◌, ◌==◌, slice_index, slice_index_or, slice_set}
use Rattle.bus.specs.declared.Marks.{Marks}

-- the four bytes of a word, byte 0 first
abbrev pub bytes : ℕ → List ℕ
bytes w = (w % 256) ∷ (w / 256 % 256) ∷ (w / 65536 % 256) ∷ (w / 16777216 % 256) ∷ []

-- the word that has these four bytes
abbrev pub joined : List ℕ → ℕ
joined bs = slice_index bs 0 + slice_index bs 1 * 256 + slice_index bs 2 * 65536 + slice_index bs 3 * 16777216

-- the byte of a word in a lane, from 0 to 3
abbrev pub in_lane : ℕ → ℕ → ℕ
in_lane w lane = slice_index (bytes w) lane

-- the word that has one byte in its lane, and 0 in the others
abbrev pub placed : ℕ → ℕ → ℕ
placed byte lane = joined (slice_set (0 ∷ 0 ∷ 0 ∷ 0 ∷ []) lane byte)

-- whether the byte in a lane is marked
abbrev pub marked : Marks → ℕ → Bool
marked m lane = slice_index_or (m.b0 ∷ m.b1 ∷ m.b2 ∷ m.b3 ∷ []) lane false

-- the marks of four lanes, lane 0 first
abbrev pub marks_of : List Bool → Marks
marks_of flags = record {
  b0 = slice_index_or flags 0 false;
  b1 = slice_index_or flags 1 false;
  b2 = slice_index_or flags 2 false;
  b3 = slice_index_or flags 3 false;
}

abbrev pub all_marked : Marks
all_marked = record { b0 = true; b1 = true; b2 = true; b3 = true }

-- the mark of one lane alone
abbrev pub only_marked : ℕ → Marks
only_marked lane = record { b0 = (lane == 0); b1 = (lane == 1); b2 = (lane == 2); b3 = (lane == 3) }

-- the byte of a lane where the word new was written over the word old
abbrev pub byte_merged : ℕ → ℕ → Marks → ℕ → ℕ
byte_merged old new m lane = if marked m lane then in_lane new lane else in_lane old lane

-- the word old, with the marked bytes of the word new in their lanes
abbrev pub merged : ℕ → ℕ → Marks → ℕ
merged old new m = joined (byte_merged old new m 0 ∷ byte_merged old new m 1 ∷ byte_merged old new m 2 ∷ byte_merged old new m 3 ∷ [])
