-- What is asked of a live core, what it answers, and the history that requests and answers make.
use Rattle.std.specs.Prelude.{ℕ, ◌-◌, List, [], ◌∷◌, take, drop, map, sum_by, Ok, Err, Result}
use Rattle.refusal.specs.declared.Refusal.{Refusal}
use Rattle.machine.specs.declared.Record.{Record}
use Rattle.machine.specs.Histories.{Call}
use Rattle.cpu.specs.Calls.{clock_call, leap_call}
use Rattle.history.specs.declared.Way.{Way}
use Rattle.history.specs.declared.Way.TheVariants.{ByClock, ByLeap}
use Rattle.history.specs.declared.Request.{Request}
use Rattle.history.specs.declared.Answer.{Answer}
use Rattle.history.specs.declared.Answer.TheVariants.{Clocked, Leapt}

-- the lines of a request: so many from a place on, as far as there are so many
abbrev pub part_of : List ℕ → Request → List ℕ
part_of ls q = take q.count (drop q.first ls)

-- which way an answer was given
abbrev pub way_of : Answer → Way
way_of (Clocked r) = ByClock
way_of (Leapt r) = ByLeap

-- the records that an answer tells of
abbrev pub wrote_by : Result (ℕ × ℕ × ℕ) Refusal → ℕ
wrote_by (Ok a) = a.1
wrote_by (Err r) = 0

abbrev pub wrote : Answer → ℕ
wrote (Clocked r) = 0
wrote (Leapt r) = wrote_by r

abbrev pub wrote_all : List Answer → ℕ
wrote_all = sum_by wrote

-- One call, from its lines, the room for records, the records from its first on, and its answer.
abbrev pub call_of : List ℕ → ℕ → List Record → Answer → Call
call_of ls room rs (Clocked r) = clock_call ls r
call_of ls room rs (Leapt r) = leap_call ls room rs r

-- All calls. The records of each leap follow those of the leap before it, so that the room shrinks.
abbrev pub calls_of : ℕ → List ℕ → List Request → List Answer → List Record → List Call
calls_of room ls [] xs rs = []
calls_of room ls (q ∷ qs) [] rs = []
calls_of room ls (q ∷ qs) (x ∷ xs) rs = call_of (part_of ls q) room rs x ∷ calls_of (room - wrote x) ls qs xs (drop (wrote x) rs)

-- the ways that requests ask for, and those of the answers
abbrev pub asked : List Request → List Way
asked = map (λ q. q.way)

abbrev pub given : List Answer → List Way
given = map way_of
