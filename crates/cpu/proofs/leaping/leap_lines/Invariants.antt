use Rattle.std.proofs.Common.{◌≡◌, ◌+◌, ◌-◌, ◌≤◌, length, take, drop}
use Rattle.machine.specs.Instructions.{leaps}
use Rattle.risc5.specs.Set.{card, pace}
use Rattle.cpu.specs.Cores.{boundary}
use Rattle.cpu.proofs.Loops.{onto}
use Rattle.cpu.proofs.leaping.leap_lines.Given as goal

abbrev pub invariant-loop-written : goal.invariant-loop-written
invariant-loop-written g l =
    let m = g.B.Bus.meaning in
    (leaps m card pace (length l.initial.trace) (boundary l.initial.context (g.B.Bus.contents l.initial.bus)) l.initial.rest.bytes.now
    ≡ onto (take l.written l.trace) l.used (leaps m card pace (length l.initial.trace - l.written) (boundary l.context (g.B.Bus.contents l.bus)) l.rest.bytes.now))
    × (drop l.written l.trace ≡ drop l.written l.initial.trace)
    × (l.written ≤ l.used)
    × (l.used + length l.rest.bytes.now ≡ length l.initial.rest.bytes.now)
