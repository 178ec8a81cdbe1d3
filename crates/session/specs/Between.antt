-- A core between its release and its next hold.
use Rattle.std.specs.Prelude.{ℕ, if◌then◌else◌, List, Err, Result, nat_lt, slice_index}
use Rattle.bus.specs.Meaning.{Meaning}
use Rattle.refusal.specs.Heard.{Told, outcome}
use Rattle.machine.specs.State.{State}
use Rattle.machine.specs.Histories.{lines_refused}
use Rattle.cpu.specs.declared.Held.{Held}
use Rattle.cpu.specs.Cores.{released, fresh, preset_in}
use Rattle.cpu.specs.Calls.{answer_by, clock_left}

-- the core released over some contents
abbrev pub begun : Meaning → Held → List ℕ → State
begun m s h = record { core = released m s h; contents = h }

-- its registers, H and flags when it is held after some lines, and the contents of the bus then
abbrev pub held_after : Meaning → List ℕ → Held → List ℕ → Held
held_after m ls s h = record { registers = (clock_left m ls (begun m s h)).core.context.registers }

abbrev pub contents_after : Meaning → List ℕ → Held → List ℕ → List ℕ
contents_after m ls s h = (clock_left m ls (begun m s h)).contents

-- a new core with one register preset: that register after some lines, and the contents of the bus then
abbrev pub register_after : Meaning → List ℕ → ℕ → ℕ → List ℕ → Result ℕ Told
register_after m ls number value h =
    if nat_lt 15 number then Err (record { number = 4; layer = 2; place = 0 })
    else outcome (answer_by (lines_refused ls) (slice_index (held_after m ls (preset_in number value fresh) h).registers.r number))

abbrev pub contents_with : Meaning → List ℕ → ℕ → ℕ → List ℕ → List ℕ
contents_with m ls number value h = if nat_lt 15 number then h else contents_after m ls (preset_in number value fresh) h
