-- What a caller hears of a refusal.
use Rattle.std.specs.Prelude.{ℕ, Some, None, Ok, Err, Option, Result}
use Rattle.refusal.specs.declared.Refusal.{Refusal}
use Rattle.refusal.specs.declared.Refusal.TheVariants.{MemoryWords, ImageWords, FeedBytes, RegisterNumber, LinesTooMany, LineValue, InsideInstruction, DeckSize, RowForm, FieldForm, NumberLimit, LinesFull}

-- The number of the case, the layer that refuses, and the place of the fault from 0 (0 where a fault has no place).
pub record Told : Type 0 where
  pub number : ℕ
  pub layer : ℕ
  pub place : ℕ

-- Each refusal by its case. Layer 1 is the check before a bus is made; layer 2 the core, whose places are lines; layer 3 the deck, whose places are
-- its rows.
abbrev pub told : Refusal → Told
told MemoryWords = record { number = 1; layer = 1; place = 0 }
told ImageWords = record { number = 2; layer = 1; place = 0 }
told FeedBytes = record { number = 3; layer = 1; place = 0 }
told RegisterNumber = record { number = 4; layer = 2; place = 0 }
told LinesTooMany = record { number = 5; layer = 2; place = 0 }
told (LineValue line) = record { number = 6; layer = 2; place = line }
told InsideInstruction = record { number = 7; layer = 2; place = 0 }
told DeckSize = record { number = 8; layer = 3; place = 0 }
told (RowForm row) = record { number = 9; layer = 3; place = row }
told (FieldForm row) = record { number = 10; layer = 3; place = row }
told (NumberLimit row) = record { number = 11; layer = 3; place = row }
told (LinesFull row) = record { number = 12; layer = 3; place = row }

-- What is heard of an answer: a refusal as told, or nothing.
abbrev pub heard : {T : Type 0} → Result T Refusal → Option Told
heard (Ok x) = None
heard (Err e) = Some (told e)

-- An answer as it is heard: what it gives, or the refusal as told.
abbrev pub outcome : {T : Type 0} → Result T Refusal → Result T Told
outcome (Ok x) = Ok x
outcome (Err e) = Err (told e)

abbrev pub refused : ℕ → ℕ → ℕ → Option Told
refused number layer place = Some (record { number = number; layer = layer; place = place })

abbrev pub nothing : Option Told
nothing = None

-- of two checks in one call, what is heard of the first, else of the second
abbrev pub first_heard : Option Told → Option Told → Option Told
first_heard None second = second
first_heard (Some first) second = Some first
