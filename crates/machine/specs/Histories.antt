-- Histories: the calls made of one live core since its release, with the answer to each.
use Rattle.std.specs.Prelude.{◌≡◌, ℕ, ◌+◌, cond, List, [], ◌∷◌, ◌++◌, length, take, Some, None, Option, ◌==◌, nat_le, nat_lt}
use Rattle.std.specs.List.{prefix_len}
use Rattle.bus.specs.Meaning.{Meaning}
use Rattle.refusal.specs.declared.Refusal.{Refusal}
use Rattle.refusal.specs.declared.Refusal.TheVariants.{LinesTooMany, LineValue, InsideInstruction}
use Rattle.machine.specs.declared.Record.{Record}
use Rattle.machine.specs.Lines.{stalls}
use Rattle.machine.specs.State.{State, live, boundary_of}
use Rattle.machine.specs.Isa.{Isa, Pace}
use Rattle.machine.specs.Clock.{run, finished}
use Rattle.machine.specs.Shares.{remains}
use Rattle.machine.specs.Instructions.{Run, share, leaps}

-- ---- refusals, the lowest number first

-- the place of the first line over 3, or the number of lines
abbrev pub first_over : List ℕ → ℕ
first_over ls = prefix_len (λ x. nat_le x 3) ls

-- what is wrong with some lines: more than 65,535 of them, or one over 3
unfoldable pub lines_refused : List ℕ → Option Refusal
lines_refused ls =
    cond (nat_lt 65535 (length ls)) (Some LinesTooMany)
    (cond (nat_lt (first_over ls) (length ls)) (Some (LineValue (first_over ls))) None)

abbrev pub or_inside : ℕ → Option Refusal → Option Refusal
or_inside step (Some r) = Some r
or_inside step None = cond (step == 0) None (Some InsideInstruction)

-- what is wrong with a leap: its lines, or that the step number is not 0
unfoldable pub leap_refused : List ℕ → ℕ → Option Refusal
leap_refused ls step = or_inside step (lines_refused ls)

-- ---- one call

-- a call that takes no line and changes nothing, with what it says: a refused clocking or leap, with its lines
pub data Note : Type 0 where
  no_clocking : List ℕ → Refusal → Note
  no_leap : List ℕ → ℕ → Refusal → Note

-- a call with its answer
pub data Call : Type 0 where
  -- the lines; instructions finished, stalled lines
  clocking : List ℕ → ℕ → ℕ → Call
  -- the lines and the room for records; lines used, records written, 1 if a share remained but no room; the records
  leaping : List ℕ → ℕ → ℕ → ℕ → ℕ → List Record → Call
  idle : Note → Call

-- it says so rightly: each refusal in its case and in no other
pub data Says (s : State) : Note → Type 0 where
  refuses_clocking : (ls : List ℕ) (r : Refusal) → lines_refused ls ≡ Some r → Says s (no_clocking ls r)
  refuses_leap : (ls : List ℕ) (room : ℕ) (r : Refusal) → leap_refused ls s.core.waiting.step ≡ Some r → Says s (no_leap ls room r)

-- what a leap runs, and its answer
abbrev pub leapt : Meaning → Isa → Pace → ℕ → State → List ℕ → Run
leapt M I T room s ls = leaps M I T room (boundary_of s) ls

abbrev pub answered : Meaning → Isa → Pace → List ℕ → ℕ → Run → Call
answered M I T ls room r = leaping ls room r.used (length r.records) (remains (share M I T r.state r.left)) r.records

-- `Did M I T s c e`: the call c, made of s, gives its answer and leaves e
pub data Did (M : Meaning) (I : Isa) (T : Pace) : State → Call → State → Type 0 where
  clocked : {s : State} (ls : List ℕ) → lines_refused ls ≡ None
      → Did M I T s (clocking ls (finished M I T ls s) (stalls ls)) (run M I T ls s)
  leaped : {s : State} (ls : List ℕ) (room : ℕ) → leap_refused ls s.core.waiting.step ≡ None
      → Did M I T s (answered M I T ls room (leapt M I T room s ls)) (live (leapt M I T room s ls).state)
  idled : {s : State} {n : Note} → Says s n → Did M I T s (idle n) s

-- ---- histories

-- `After M I T s t e`: the calls of the history t, made from s on, give their answers and leave e
pub data After (M : Meaning) (I : Isa) (T : Pace) : State → List Call → State → Type 0 where
  none : {s : State} → After M I T s [] s
  then : {s m e : State} {c : Call} {t : List Call} → Did M I T s c m → After M I T m t e → After M I T s (c ∷ t) e

abbrev pub stalls_of : List Record → ℕ
stalls_of [] = 0
stalls_of (e ∷ rs) = e.stalls + stalls_of rs

abbrev pub clocks_of : List Record → ℕ
clocks_of [] = 0
clocks_of (e ∷ rs) = e.clocks + clocks_of rs

-- of one call: lines taken, instructions told, stalls told
abbrev pub takes : Call → List ℕ
takes (clocking ls n k) = ls
takes (leaping ls room used n more rs) = take used ls
takes (idle n) = []

abbrev pub tells : Call → ℕ
tells (clocking ls n k) = n
tells (leaping ls room used n more rs) = n
tells (idle n) = 0

abbrev pub tells_stalls : Call → ℕ
tells_stalls (clocking ls n k) = k
tells_stalls (leaping ls room used n more rs) = stalls_of rs
tells_stalls (idle n) = 0

-- of a history
abbrev pub lines : List Call → List ℕ
lines [] = []
lines (c ∷ t) = takes c ++ lines t

abbrev pub told : List Call → ℕ
told [] = 0
told (c ∷ t) = tells c + told t

abbrev pub stalls_told : List Call → ℕ
stalls_told [] = 0
stalls_told (c ∷ t) = tells_stalls c + stalls_told t
