-- What holds of a history that was made and kept.
use Rattle.std.specs.Prelude.{◌≡◌, ℕ, ◌+◌, List, length}
use Rattle.bus.specs.Meaning.{Meaning, Still}
use Rattle.machine.specs.State.{State, live, boundary_of}
use Rattle.machine.specs.Clock.{run}
use Rattle.machine.specs.Instructions.{completes}
use Rattle.machine.specs.Histories.{Call, After, lines, told, stalls_told, clocks_of}
use Rattle.machine.specs.Laws.{EndsBetween, Quiet}
use Rattle.risc5.specs.Set.{card, pace}
use Rattle.cpu.specs.declared.Held.{Held}
use Rattle.cpu.specs.Cores.{released}

-- The history t, begun at s, ended at e.
pub record Kept (M : Meaning) (s : State) (t : List Call) (e : State) : Type 0 where
  -- each answer is the defined one for its call
  pub answers : After M card pace s t e
  -- core and contents are those of the clock rules over the lines taken
  pub by_the_clock_rules : e ≡ run M card pace (lines t) s
  -- and, if it ends between instructions, those of the instruction machine
  pub by_the_instruction_machine : EndsBetween M card pace s t → e ≡ live (completes M card pace (boundary_of s) (lines t)).state
  -- it then tells as many instructions as that machine finishes
  pub every_instruction : EndsBetween M card pace s t → told t ≡ length (completes M card pace (boundary_of s) (lines t)).records
  -- and each line taken is a clock by the table or a stall told
  pub clocks_and_stalls : EndsBetween M card pace s t
      → length (lines t) ≡ clocks_of (completes M card pace (boundary_of s) (lines t)).records + stalls_told t
  -- any other history begun alike on a still bus, the tick down throughout, that tells as many instructions and ends between instructions, ended alike
  pub equal_ends : Still M → EndsBetween M card pace s t → Quiet (lines t)
      → (u : List Call) (d : State) → After M card pace s u d → EndsBetween M card pace s u → Quiet (lines u) → told t ≡ told u → e ≡ d

-- where a history begins: a core at its release, and the contents of its bus
abbrev pub start : Meaning → Held → List ℕ → State
start M s h = record { core = released M s h; contents = h }
