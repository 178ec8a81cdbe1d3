-- Held and live cores, and the way between them.
use Rattle.std.specs.Prelude.{ℕ, false, List, replicate, Ok, Err, Option, Result, nat_lt, if◌then◌else◌, slice_index, slice_set}
use Rattle.refusal.specs.declared.Refusal.{Refusal}
use Rattle.refusal.specs.declared.Refusal.TheVariants.{RegisterNumber}
use Rattle.refusal.specs.Heard.{Told, refused, nothing}
use Rattle.bus.specs.Meaning.{Meaning}
use Rattle.isa.specs.declared.Flags.{Flags}
use Rattle.machine.specs.declared.Core.{Core}
use Rattle.machine.specs.declared.Context.{Context}
use Rattle.machine.specs.State.{State, Boundary, rest}
use Rattle.cpu.specs.declared.Held.{Held}
use Rattle.cpu.specs.declared.Live.{Live}

abbrev pub down : Flags
down = record { n = false; z = false; c = false; v = false }

-- a new held core with some registers, H and flags 0; all of them 0 where none is preset
abbrev pub held_with : List ℕ → Held
held_with rs = record { registers = record { r = rs; h = 0; flags = down } }

abbrev pub fresh : Held
fresh = held_with (replicate 16 0)

-- where a register stands, of 16; a number over 15 is refused
abbrev pub place_of : ℕ → Result ℕ Refusal
place_of number = if nat_lt 15 number then Err RegisterNumber else Ok number

-- what is heard of it
abbrev pub register_refusal : ℕ → Option Told
register_refusal number = if nat_lt 15 number then refused 4 2 0 else nothing

abbrev pub register_answer : ℕ → Held → Result ℕ Told
register_answer number s = if nat_lt 15 number then Err (record { number = 4; layer = 2; place = 0 }) else Ok (slice_index s.registers.r number)

-- a preset changes one register and no flag
abbrev pub preset_in : ℕ → ℕ → Held → Held
preset_in number value s =
    if nat_lt 15 number then s
    else record { registers = record { r = slice_set s.registers.r number value; h = s.registers.h; flags = s.registers.flags } }

-- Release gives a live core with these, PC 3FF800H, the word shown there in hand, and the rest 0 or down.
abbrev pub released : Meaning → Held → List ℕ → Core
released m s h =
    record {
      context =
          record {
            registers = s.registers;
            fetched = record { pc = 0x3F_F800; ir = m.shown h 0x3F_F800 };
            interrupts = record { enable = false; mode = false; saved_pc = 0; saved_flags = down };
            ticks = record { pending = false; last = false };
          };
      waiting = rest;
    }

-- hold keeps registers, H and flags
abbrev pub held_of : Live → Held
held_of s = record { registers = s.core.context.registers }

-- a live core with the contents of its bus
abbrev pub state : Live → List ℕ → State
state s h = record { core = s.core; contents = h }

-- a core at an instruction boundary with the contents of its bus
abbrev pub boundary : Context → List ℕ → Boundary
boundary f h = record { context = f; contents = h }
