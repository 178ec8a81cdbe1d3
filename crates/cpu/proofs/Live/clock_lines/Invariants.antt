use Rattle.std.proofs.Common.{◌≡◌, ◌≤◌, take}
use Rattle.machine.specs.Lines.{stalls}
use Rattle.machine.specs.Clock.{run, finished}
use Rattle.risc5.specs.Set.{card, pace}
use Rattle.cpu.specs.Cores.{state}
use Rattle.cpu.proofs.Live.clock_lines.Given as goal

abbrev pub invariant-loop-line : goal.invariant-loop-line
invariant-loop-line g l =
    let m = g.B.Bus.meaning in
    let s = state l.initial.self (g.B.Bus.contents l.initial.bus) in
    (l.done ≤ l.line-index)
    × (l.stalled ≤ l.line-index)
    × (state l.self (g.B.Bus.contents l.bus) ≡ run m card pace (take l.line-index l.line-items) s)
    × (l.done ≡ finished m card pace (take l.line-index l.line-items) s)
    × (l.stalled ≡ stalls (take l.line-index l.line-items))
