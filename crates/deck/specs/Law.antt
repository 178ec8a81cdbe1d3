-- What holds of every deck, in the words of its rows.
use Rattle.std.specs.Prelude.{◌≡◌, ℕ, ◌+◌, ◌<◌, Bool, true, false, if◌then◌else◌, ◌&&◌, ◌||◌, List, [], ◌∷◌, ◌++◌, length, is_ok, Some, None, Ok, Err, Option, ◌==◌, nat_lt, slice_index, slice_index_or}
use Rattle.refusal.specs.Heard.{Told, refused, nothing}
use Rattle.deck.specs.declared.rows.Deed.{Deed}
use Rattle.deck.specs.Field.{parse}
use Rattle.deck.specs.Rows.{told_of, whole, row_count, column, columns, row_says}
use Rattle.deck.specs.Decks.{all_lines, first_deeds, deck_says}
use Rattle.deck.specs.Loaded.{stored}

-- The deeds of an accepted deck are those of its rows: as many, and each at the place of its row.
abbrev pub InOrder : Type 0
InOrder = (bs : List ℕ) (words room : ℕ) (ds : List Deed) → deck_says bs words room ≡ Ok ds →
    (length ds ≡ row_count bs) × ((row : ℕ) (other : Deed) → row < row_count bs → row_says bs words row ≡ Ok (slice_index_or ds row other))

-- A deck of whole rows that is refused is refused at one of its rows: every row before it is accepted, and with it the refusal is told.
pub record Faulty (bs : List ℕ) (words room : ℕ) (e : Told) : Type 0 where
  pub inside : e.place < row_count bs
  pub before : is_ok (first_deeds bs words room e.place) ≡ true
  pub here : first_deeds bs words room (e.place + 1) ≡ Err e

abbrev pub FirstFault : Type 0
FirstFault = (bs : List ℕ) (words room : ℕ) (e : Told) → whole bs ≡ true → deck_says bs words room ≡ Err e → Faulty bs words room e

-- whether a field says a number, and whether that is below its bound
abbrev pub written : Option ℕ → Bool
written (Some n) = true
written None = false

abbrev pub low : ℕ → Option ℕ → Bool
low bound (Some n) = nat_lt n bound
low bound None = true

-- the bounds of the two numbers of a row by its letter, over a memory of so many words: W (byte 87), R (82) and else L (76)
abbrev pub bounds : ℕ → ℕ → ℕ × ℕ
bounds words letter = if letter == 87 then (words, 4294967296) else if letter == 82 then (16, 4294967296) else (4, 65536)

abbrev pub known : ℕ → Bool
known letter = letter == 87 || (letter == 82 || letter == 76)

-- the lowest number that a row's faults have, but for the room of its lines: 9 for its form, 10 for either field, 11 for either number
abbrev pub fault_of : ℕ → ℕ × ℕ → Bool → Option ℕ → Option ℕ → Option Told
fault_of row limits formed first second =
    if formed
    then (if written first && written second then (if low limits.0 first && low limits.1 second then nothing else refused 11 3 row) else refused 10 3 row)
    else refused 9 3 row

-- Of a row's faults the lowest is told, and a row without a fault is accepted.
abbrev pub LowestTold : Type 0
LowestTold = (bs : List ℕ) (words row : ℕ) →
    told_of (row_says bs words row)
    ≡ fault_of row (bounds words (column bs row 0)) (column bs row 19 == 10 && known (column bs row 0)) (parse (columns bs row 1 8)) (parse (columns bs row 9 10))

-- a write to another place, or none
abbrev pub Elsewhere : ℕ → Option (ℕ × ℕ) → Type 0
Elsewhere at None = Unit {0}
Elsewhere at (Some w) = w.0 ≡ at → ⊥

-- no deed writes at the place
abbrev pub Unwritten : (Deed → Option (ℕ × ℕ)) → ℕ → List Deed → Type 0
Unwritten write at [] = Unit {0}
Unwritten write at (d ∷ ds) = Elsewhere at (write d) × Unwritten write at ds

-- At each place stands the value of the last deed that writes there, and what stood there before if none does.
pub record LastWins (write : Deed → Option (ℕ × ℕ)) : Type 0 where
  pub last : (xs : List ℕ) (before after : List Deed) (d : Deed) (at x : ℕ) → write d ≡ Some (at, x) → Unwritten write at after → at < length xs →
      slice_index (stored write xs (before ++ (d ∷ after))) at ≡ x
  pub kept : (xs : List ℕ) (ds : List Deed) (at : ℕ) → Unwritten write at ds → slice_index (stored write xs ds) at ≡ slice_index xs at
  pub long : (xs : List ℕ) (ds : List Deed) → length (stored write xs ds) ≡ length xs

-- The lines of rows and then of further rows are the ones and then the others.
abbrev pub LinesFollow : Type 0
LinesFollow = (ds es : List Deed) → all_lines (ds ++ es) ≡ all_lines ds ++ all_lines es
