-- The laws of histories, and what they alone do not pin.
use Rattle.std.specs.Prelude.{◌≡◌, ℕ, suc, ◌+◌, ◌-◌, ◌%◌, ◌^◌, ◌<◌, ◌≤◌, true, false, ◌⊎◌, List, [], ◌∷◌, length, take, drop, slice_index}
use Rattle.bus.specs.Meaning.{Meaning, Still}
use Rattle.machine.specs.Lines.{ticking, stalled, unstalled}
use Rattle.machine.specs.State.{Boundary, State, live, boundary_of}
use Rattle.machine.specs.Isa.{Isa, Pace, storing, stepping, plain}
use Rattle.machine.specs.Clock.{acks, ends, clock, run}
use Rattle.machine.specs.Shares.{short, whole, cut, ahead}
use Rattle.machine.specs.Instructions.{share, ready, instruction, completes}
use Rattle.machine.specs.Histories.{Call, After, lines, told, stalls_told, clocks_of}

-- ---- The laws, of every history that begins at s. s is a core at its release with the contents of its bus.

-- A history ends between instructions if the instruction machine leaves over none of its lines taken.
abbrev pub EndsBetween : Meaning → Isa → Pace → State → List Call → Type 0
EndsBetween M I T s t = (completes M I T (boundary_of s) (lines t)).left ≡ []

-- Core and contents end as the clock rules give over the lines taken.
abbrev pub EndsByTheClockRules : Meaning → Isa → Pace → State → Type 0
EndsByTheClockRules M I T s = (t : List Call) (e : State) → After M I T s t e → e ≡ run M I T (lines t) s

-- And, if the history ends between instructions, as the instruction machine gives.
abbrev pub EndsByTheInstructionMachine : Meaning → Isa → Pace → State → Type 0
EndsByTheInstructionMachine M I T s =
    (t : List Call) (e : State) → After M I T s t e → EndsBetween M I T s t → e ≡ live (completes M I T (boundary_of s) (lines t)).state

-- It then tells as many instructions as the instruction machine finishes,
abbrev pub TellsEveryInstruction : Meaning → Isa → Pace → State → Type 0
TellsEveryInstruction M I T s =
    (t : List Call) (e : State) → After M I T s t e → EndsBetween M I T s t → told t ≡ length (completes M I T (boundary_of s) (lines t)).records

-- and each line taken is a clock of theirs by the table, or a stall told.
abbrev pub LinesAreClocksAndStalls : Meaning → Isa → Pace → State → Type 0
LinesAreClocksAndStalls M I T s =
    (t : List Call) (e : State) → After M I T s t e → EndsBetween M I T s t
    → length (lines t) ≡ clocks_of (completes M I T (boundary_of s) (lines t)).records + stalls_told t

-- the tick is down on every line
abbrev pub Quiet : List ℕ → Type 0
Quiet [] = Unit {0}
Quiet (l ∷ ls) = (ticking l ≡ false) × Quiet ls

-- Two histories from s that end so, over a still bus, with the tick down on every line taken, and that tell equally many instructions, end in equal
-- cores and contents, whatever their stalls.
abbrev pub EqualEndsUnderOtherStalls : Meaning → Isa → Pace → State → Type 0
EqualEndsUnderOtherStalls M I T s =
    Still M → (t u : List Call) (d e : State) → After M I T s t d → After M I T s u e → EndsBetween M I T s t → EndsBetween M I T s u
    → Quiet (lines t) → Quiet (lines u) → told t ≡ told u → d ≡ e

-- all of them
pub record Law (M : Meaning) (I : Isa) (T : Pace) (s : State) : Type 0 where
  pub ends_by_the_clock_rules : EndsByTheClockRules M I T s
  pub ends_by_the_instruction_machine : EndsByTheInstructionMachine M I T s
  pub tells_every_instruction : TellsEveryInstruction M I T s
  pub lines_are_clocks_and_stalls : LinesAreClocksAndStalls M I T s
  pub equal_ends_under_other_stalls : EqualEndsUnderOtherStalls M I T s

-- ---- What pins the instruction machine.

-- A share is the shortest beginning with as many unstalled lines as the clocks: its lines before the last are b, its last is l.
abbrev pub SharesAreShortest : Type 0
SharesAreShortest =
    (n : ℕ) (ls b : List ℕ) (l : ℕ) (left : List ℕ) → 1 ≤ n → cut n ls ≡ whole b l left
    → (unstalled (take (suc (length b)) ls) ≡ n)
    × ((j : ℕ) → j ≤ length b → unstalled (take j ls) < n)
    × (b ≡ take (length b) ls)
    × (l ≡ slice_index ls (length b))
    × (left ≡ drop (suc (length b)) ls)

-- There is no share only if no beginning has so many.
abbrev pub NoShareIsLeft : Type 0
NoShareIsLeft = (n : ℕ) (ls : List ℕ) → 1 ≤ n → cut n ls ≡ short → (j : ℕ) → unstalled (take j ls) < n

-- Over all of some lines, the instruction machine stops only where no whole share is left.
abbrev pub StopsWithoutAShare : Meaning → Isa → Pace → Type 0
StopsWithoutAShare M I T =
    (s : Boundary) (ls : List ℕ) → share M I T (completes M I T s ls).state (completes M I T s ls).left ≡ short

-- An instruction that makes no access passes all clocks of its share but the last before it takes effect.
abbrev pub OthersPass : Meaning → Isa → Type 0
OthersPass M I =
    (b : List ℕ) (s : Boundary) → (I.class s.context.fetched.ir ≡ stepping) ⊎ (I.class s.context.fetched.ir ≡ plain)
    → ((ready M I b s).registers ≡ s.context.registers) × ((ready M I b s).contents ≡ M.passed s.contents (length b))

-- ---- What pins finishing.

-- A rise on the acknowledging line is lost.
abbrev pub ARiseOnAcknowledgingIsLost : Meaning → Isa → Pace → Type 0
ARiseOnAcknowledgingIsLost M I T =
    (l : ℕ) (s : State) → ends M I T l s ≡ true → acks s.core.context ≡ true → (clock M I T l s).core.context.ticks.pending ≡ false

-- A stalled line is no unit step and no write.
abbrev pub AStalledLineIsNoStep : Meaning → Isa → Pace → Type 0
AStalledLineIsNoStep M I T =
    (l : ℕ) (s : State) → stalled l ≡ true
    → ((clock M I T l s).core.waiting ≡ s.core.waiting) × ((clock M I T l s).core.context.registers ≡ s.core.context.registers)

-- A store lands before the fetch: the next word is the one shown after the store.
abbrev pub AStoreLandsBeforeTheFetch : Meaning → Isa → Type 0
AStoreLandsBeforeTheFetch M I =
    (b : List ℕ) (l : ℕ) (s : Boundary) → I.class s.context.fetched.ir ≡ storing
    → (instruction M I b l s).context.fetched.ir
    ≡ (let w : ℕ = s.context.fetched.ir in
    let r = s.context.registers in
    let stored = M.write (M.passed s.contents (ahead b)) (I.place w r % 2 ^ 22) (I.sent w r).word (I.sent w r).marks in
    M.shown (M.passed stored (length b - ahead b)) ((instruction M I b l s).context.fetched.pc % 2 ^ 22))
