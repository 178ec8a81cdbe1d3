use Rattle.std.proofs.Common.{◌≡◌, ℕ, ◌≤◌, take}
use Rattle.machine.specs.Clock.{run}
use Rattle.risc5.specs.Set.{card, pace}
use Rattle.cpu.specs.Cores.{state}
use Rattle.history.specs.Watching.{shown_after}
use Rattle.history.proofs.watching.watch.Given as goal

abbrev pub invariant-loop-at : goal.invariant-loop-at
invariant-loop-at g l =
    let m = g.B.Bus.meaning in
    let s = state l.initial.live (g.B.Bus.contents l.initial.bus) in
    (state l.live (g.B.Bus.contents l.bus) ≡ run m card pace (take l.at l.lines) s)
    × ((j : ℕ) → 1 ≤ j → j ≤ l.at → shown_after m s l.lines l.address j ≡ 0)
