-- What a row of a deck says: its deed, or why it is refused.
use Rattle.std.specs.Prelude.{ℕ, ◌+◌, ◌*◌, ◌/◌, ◌%◌, ◌<◌, Bool, if◌then◌else◌, ◌&&◌, List, length, take, drop, Some, None, Ok, Err, Option, Result, ◌==◌, nat_le, nat_lt, slice_index}
use Rattle.refusal.specs.Heard.{Told}
use Rattle.deck.specs.declared.rows.Field.{Field}
use Rattle.deck.specs.declared.rows.Deed.{Deed}
use Rattle.deck.specs.declared.rows.Deed.TheVariants.{Sets, Presets, Adds}
use Rattle.deck.specs.Field.{parse}

-- a refusal of a deck, which is layer 3, by its number and the row that is its place
abbrev pub refused_at : {T : Type 0} → ℕ → ℕ → Result T Told
refused_at number row = Err (record { number = number; layer = 3; place = row })

-- the refusal in an answer, if it is one
abbrev pub told_of : {A : Type 0} → Result A Told → Option Told
told_of (Ok a) = None
told_of (Err e) = Some e

-- what comes of an answer next, unless it is a refusal
abbrev pub and_then : {A B : Type 0} → Result A Told → (A → Result B Told) → Result B Told
and_then (Ok a) next = next a
and_then (Err e) next = Err e

-- a row has 20 bytes; a deck has whole rows, and at most 65,520 bytes
abbrev pub whole : List ℕ → Bool
whole bs = nat_le (length bs) 65520 && length bs % 20 == 0

abbrev pub row_count : List ℕ → ℕ
row_count bs = length bs / 20

-- some columns of a row: column 0 is its letter, 1 to 8 and 9 to 18 are its fields, and 19 is its newline
abbrev pub column : List ℕ → ℕ → ℕ → ℕ
column bs row at = slice_index bs (20 * row + at)

abbrev pub columns : List ℕ → ℕ → ℕ → ℕ → List ℕ
columns bs row from len = take len (drop (20 * row + from) bs)

-- a field is the number that its columns say, with its row; a field not so written is refused with 10
abbrev pub field_of : ℕ → Option ℕ → Result Field Told
field_of row (Some n) = Ok (record { row = row; number = n })
field_of row None = refused_at 10 row

abbrev pub first_field : List ℕ → ℕ → Result Field Told
first_field bs row = field_of row (parse (columns bs row 1 8))

abbrev pub second_field : List ℕ → ℕ → Result Field Told
second_field bs row = field_of row (parse (columns bs row 9 10))

-- a number that is not below its bound is refused with 11
abbrev pub within : ℕ → Field → Result ℕ Told
within bound f = if nat_lt f.number bound then Ok f.number else refused_at 11 f.row

-- the numbers of the two fields, each below its bound; both fields are read before a bound is asked
abbrev pub numbers : List ℕ → ℕ → ℕ → ℕ → Result (ℕ × ℕ) Told
numbers bs row p q =
    and_then (first_field bs row) (λ a. and_then (second_field bs row) (λ b. and_then (within p a) (λ x. and_then (within q b) (λ y. Ok (x, y)))))

-- the deed of two numbers
abbrev pub deed_of : (ℕ → ℕ → Deed) → Result (ℕ × ℕ) Told → Result Deed Told
deed_of deed r = and_then r (λ n. Ok (deed n.0 n.1))

-- W (byte 87) sets the word at an address, R (82) presets a register, L (76) adds lines; another letter is refused with 9
abbrev pub lettered : List ℕ → ℕ → ℕ → ℕ → Result Deed Told
lettered bs words row letter =
    if letter == 87 then deed_of Sets (numbers bs row words 4294967296)
    else if letter == 82 then deed_of Presets (numbers bs row 16 4294967296)
    else if letter == 76 then deed_of Adds (numbers bs row 4 65536)
    else refused_at 9 row

-- what a row says over a memory of so many words; without its newline (byte 10) it is refused with 9
abbrev pub row_says : List ℕ → ℕ → ℕ → Result Deed Told
row_says bs words row = if column bs row 19 == 10 then lettered bs words row (column bs row 0) else refused_at 9 row

-- a deed stays within a memory of so many words and the 16 registers
abbrev pub Fits : ℕ → Deed → Type 0
Fits words (Sets address word) = address < words
Fits words (Presets register value) = register < 16
Fits words (Adds value count) = Unit {0}
