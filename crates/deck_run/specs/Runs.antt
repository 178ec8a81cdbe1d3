-- A deck run: the deck's card and core at the release, the one leap over the deck's lines, and what is answered.
use Rattle.std.specs.Prelude.{◌≡◌, ℕ, ◌+◌, List, [], ◌∷◌, take, replicate, Ok, Err, Result}
use Rattle.bus.specs.Meaning.{Meaning}
use Rattle.refusal.specs.Heard.{Told, told}
use Rattle.machine.specs.declared.Record.{Record}
use Rattle.machine.specs.State.{State}
use Rattle.machine.specs.Instructions.{Run}
use Rattle.machine.specs.Histories.{leapt, Call, After, clocks_of, stalls_of}
use Rattle.machine.specs.Laws.{Law}
use Rattle.risc5.specs.Set.{card, pace}
use Rattle.cpu.specs.Cores.{held_with, released}
use Rattle.cpu.specs.Calls.{run_answer, leap_call}
use Rattle.card.specs.Stack.{card_meaning, new_card}
use Rattle.deck.specs.declared.rows.Deed.{Deed}
use Rattle.deck.specs.Decks.{all_lines, deck_says}
use Rattle.deck.specs.Loaded.{stored, word_of, register_of}
use Rattle.deck_run.specs.declared.Failure.{Failure}
use Rattle.deck_run.specs.declared.Failure.TheVariants.{Refused, Memory}

-- ---- the release

-- a core with these registers and the rest 0, released over a bus with these contents
abbrev pub start_with : Meaning → List ℕ → List ℕ → State
start_with M registers h = record { core = released M (held_with registers) h; contents = h }

-- A deck's start: 4,096 words that are 0 but where a row sets one, the boot ROM above them and the panel on top without feed; a core whose registers
-- are 0 but where a row presets one; and the release.
abbrev pub start_of : List Deed → State
start_of ds = start_with card_meaning (stored register_of (replicate 16 0) ds) (new_card (stored word_of (replicate 4096 0) ds) [])

-- ---- the leap

-- what is said of a deck with room for so many lines
abbrev pub said : List ℕ → ℕ → Result (List Deed) Told
said deck room = deck_says deck 4096 room

-- from the start, the instruction machine over all lines of the deck, with room for so many records
abbrev pub run_of : ℕ → List Deed → Run
run_of room ds = leapt card_meaning card pace room (start_of ds) (all_lines ds)

-- the leap's three numbers, or the deck's refusal
abbrev pub answer_of : ℕ → Result (List Deed) Told → Result (ℕ × ℕ × ℕ) Told
answer_of room (Ok ds) = Ok (run_answer card_meaning (run_of room ds))
answer_of room (Err e) = Err e

-- the records written; a refused deck writes none
abbrev pub records_of : ℕ → Result (List Deed) Told → List Record
records_of room (Ok ds) = (run_of room ds).records
records_of room (Err e) = []

-- ---- the call

-- It answers so. For want of memory it may answer nothing.
abbrev pub Answers : Result (ℕ × ℕ × ℕ) Failure → Result (ℕ × ℕ × ℕ) Told → Type 0
Answers (Ok a) x = Ok a ≡ x
Answers (Err (Refused e)) x = Err (told e) ≡ x
Answers (Err Memory) x = Unit {0}

-- what a buffer holds after it: as it was, for want of memory
abbrev pub unless_wanting : {X : Type 0} → Result (ℕ × ℕ × ℕ) Failure → X → X → X
unless_wanting (Ok a) new old = new
unless_wanting (Err (Refused e)) new old = new
unless_wanting (Err Memory) new old = old

-- a call, made of s, is a history
pub record Alone (M : Meaning) (s : State) (c : Call) : Type 0 where
  pub end : State
  pub history : After M card pace s (c ∷ []) end

-- An answer is that of a history: one leap since the release of the deck's core, over the deck's lines, with the caller's buffer of records. What holds
-- of every history holds of it, and each line that it used is a clock or a stall of one of its records.
pub record Ran (deck : List ℕ) (lines room : ℕ) (trace : List Record) (a : ℕ × ℕ × ℕ) : Type 0 where
  pub deeds : List Deed
  pub accepted : said deck lines ≡ Ok deeds
  pub made : Alone card_meaning (start_of deeds) (leap_call (all_lines deeds) room trace (Ok a))
  pub law : Law card_meaning card pace (start_of deeds)
  pub accounted : a.0 ≡ clocks_of (take a.1 trace) + stalls_of (take a.1 trace)
