-- What clocking and leaping answer and leave, and the step of a history that each of them is.
use Rattle.std.specs.Prelude.{ℕ, if◌then◌else◌, List, [], ◌++◌, length, take, drop, Some, None, Ok, Err, Option, Result, ◌==◌, nat_lt}
use Rattle.bus.specs.Meaning.{Meaning}
use Rattle.refusal.specs.declared.Refusal.{Refusal}
use Rattle.refusal.specs.Heard.{Told, refused, nothing, first_heard}
use Rattle.machine.specs.declared.Record.{Record}
use Rattle.machine.specs.Lines.{stalls}
use Rattle.machine.specs.State.{State, live}
use Rattle.machine.specs.Clock.{run, finished}
use Rattle.machine.specs.Shares.{remains}
use Rattle.machine.specs.Instructions.{Run, share}
use Rattle.machine.specs.Histories.{first_over, lines_refused, leap_refused, leapt, Call, clocking, leaping, idle, no_clocking, no_leap}
use Rattle.risc5.specs.Set.{card, pace}

-- the refusal, or the answer; what a call leaves, or what was there before a refused one
abbrev pub answer_by : {X : Type 0} → Option Refusal → X → Result X Refusal
answer_by None x = Ok x
answer_by (Some r) x = Err r

abbrev pub left_by : {X : Type 0} → Option Refusal → X → X → X
left_by None x y = x
left_by (Some r) x y = y

-- what is heard of some lines, by number, layer and place: 5 of more than 65,535 of them, 6 of the first line over 3
abbrev pub lines_heard : List ℕ → Option Told
lines_heard ls =
    if nat_lt 65535 (length ls) then refused 5 2 0 else if nat_lt (first_over ls) (length ls) then refused 6 2 (first_over ls) else nothing

-- and of a leap: 7 of a core inside an instruction
abbrev pub leap_heard : List ℕ → ℕ → Option Told
leap_heard ls step = first_heard (lines_heard ls) (if step == 0 then nothing else refused 7 2 0)

-- ---- clocking: the clock rules over all lines

abbrev pub clock_answer : Meaning → List ℕ → State → Result (ℕ × ℕ) Refusal
clock_answer m ls s = answer_by (lines_refused ls) (finished m card pace ls s, stalls ls)

abbrev pub clock_left : Meaning → List ℕ → State → State
clock_left m ls s = left_by (lines_refused ls) (run m card pace ls s) s

-- ---- leaping: the instruction machine, while a whole share and room for a record remain

abbrev pub run_answer : Meaning → Run → ℕ × ℕ × ℕ
run_answer m r = (r.used, length r.records, remains (share m card pace r.state r.left))

abbrev pub leap_answer : Meaning → ℕ → List ℕ → State → Result (ℕ × ℕ × ℕ) Refusal
leap_answer m room ls s = answer_by (leap_refused ls s.core.waiting.step) (run_answer m (leapt m card pace room s ls))

abbrev pub leap_left : Meaning → ℕ → List ℕ → State → State
leap_left m room ls s = left_by (leap_refused ls s.core.waiting.step) (live (leapt m card pace room s ls).state) s

abbrev pub leap_records : Meaning → ℕ → List ℕ → State → List Record
leap_records m room ls s = left_by (leap_refused ls s.core.waiting.step) (leapt m card pace room s ls).records []

-- the caller's buffer: the records written, then what was there
abbrev pub overlaid : List Record → List Record → List Record
overlaid rs trace = rs ++ drop (length rs) trace

-- ---- the call in a history, from what the caller has: its lines and the answer; for a leap the room of its buffer, and the buffer with the records

abbrev pub clock_call : List ℕ → Result (ℕ × ℕ) Refusal → Call
clock_call ls (Ok a) = clocking ls a.0 a.1
clock_call ls (Err r) = idle (no_clocking ls r)

abbrev pub leap_call : List ℕ → ℕ → List Record → Result (ℕ × ℕ × ℕ) Refusal → Call
leap_call ls room trace (Ok a) = leaping ls room a.0 a.1 a.2 (take a.1 trace)
leap_call ls room trace (Err r) = idle (no_leap ls room r)
