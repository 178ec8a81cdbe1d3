-- What a deck's deeds leave in the caller's words, registers and lines. A refused deck changes nothing.
use Rattle.std.specs.Prelude.{ℕ, List, ◌++◌, length, drop, Some, None, Ok, Err, fold, Option, Result, slice_set}
use Rattle.refusal.specs.Heard.{Told}
use Rattle.deck.specs.declared.rows.Deed.{Deed}
use Rattle.deck.specs.declared.rows.Deed.TheVariants.{Sets, Presets, Adds}
use Rattle.deck.specs.Decks.{all_lines}

-- the place and the value that a deed writes among the words, and among the registers
abbrev pub word_of : Deed → Option (ℕ × ℕ)
word_of (Sets address word) = Some (address, word)
word_of (Presets register value) = None
word_of (Adds value count) = None

abbrev pub register_of : Deed → Option (ℕ × ℕ)
register_of (Sets address word) = None
register_of (Presets register value) = Some (register, value)
register_of (Adds value count) = None

-- a list after a write, and after those of deeds in their order
abbrev pub placed : List ℕ → Option (ℕ × ℕ) → List ℕ
placed xs None = xs
placed xs (Some w) = slice_set xs w.0 w.1

abbrev pub stored : (Deed → Option (ℕ × ℕ)) → List ℕ → List Deed → List ℕ
stored write xs ds = fold (λ ys d. placed ys (write d)) xs ds

-- the words, registers and lines after a deck; lines behind the deck's own stay
abbrev pub words_after : Result (List Deed) Told → List ℕ → List ℕ
words_after (Ok ds) words = stored word_of words ds
words_after (Err e) words = words

abbrev pub registers_after : Result (List Deed) Told → List ℕ → List ℕ
registers_after (Ok ds) registers = stored register_of registers ds
registers_after (Err e) registers = registers

abbrev pub lines_after : Result (List Deed) Told → List ℕ → List ℕ
lines_after (Ok ds) lines = all_lines ds ++ drop (length (all_lines ds)) lines
lines_after (Err e) lines = lines
