-- What is wrong with a register number, lines or a deck, by number and place.
use Rattle.std.specs.Prelude.{ℕ}
use Rattle.second.specs.declared.fault.Fault.{Fault}
use Rattle.second.specs.declared.fault.Fault.TheVariants.{RegisterNumber, TooManyLines, Line, DeckSize, RowForm, FieldForm, NumberLimit, LinesFull}

abbrev pub number_of : Fault → ℕ
number_of RegisterNumber = 4
number_of TooManyLines = 5
number_of (Line line) = 6
number_of DeckSize = 8
number_of (RowForm row) = 9
number_of (FieldForm row) = 10
number_of (NumberLimit row) = 11
number_of (LinesFull row) = 12

-- the line or row, counted from 0; 0 for a fault that is of no single one
abbrev pub place_of : Fault → ℕ
place_of RegisterNumber = 0
place_of TooManyLines = 0
place_of (Line line) = line
place_of DeckSize = 0
place_of (RowForm row) = row
place_of (FieldForm row) = row
place_of (NumberLimit row) = row
place_of (LinesFull row) = row
