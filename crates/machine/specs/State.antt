-- A core with the contents of its bus.
use Rattle.std.specs.Prelude.{ℕ, List, pos}
use Rattle.machine.specs.declared.Ticks.{Ticks}
use Rattle.machine.specs.declared.Registers.{Registers}
use Rattle.machine.specs.declared.Context.{Context}
use Rattle.machine.specs.declared.Waiting.{Waiting}
use Rattle.machine.specs.declared.Core.{Core}

-- what the clock rules change
pub record State : Type 0 where
  pub core : Core
  pub contents : List ℕ

-- what the instruction machine changes: a core at an instruction boundary, which has no step number and no pair
pub record Boundary : Type 0 where
  pub context : Context
  pub contents : List ℕ

-- between instructions the step number and the pair are 0
abbrev pub rest : Waiting
rest = record { step = 0; pair = record { high = pos 0; low = 0 } }

-- a core at a boundary counts with step number and pair 0
abbrev pub live : Boundary → State
live b = record { core = record { context = b.context; waiting = rest }; contents = b.contents }

abbrev pub boundary_of : State → Boundary
boundary_of s = record { context = s.core.context; contents = s.contents }

-- the same with other registers, or with other ticks
abbrev pub with_registers : Context → Registers → Context
with_registers f r = record { registers = r; fetched = f.fetched; interrupts = f.interrupts; ticks = f.ticks }

abbrev pub with_ticks : Context → Ticks → Context
with_ticks f t = record { registers = f.registers; fetched = f.fetched; interrupts = f.interrupts; ticks = t }
