use Rattle.std.proofs.Common.{◌≡◌, ◌≤◌, length, take, drop}
use Rattle.machine.specs.Histories.{After}
use Rattle.risc5.specs.Set.{card, pace}
use Rattle.cpu.specs.Cores.{state}
use Rattle.history.specs.Asked.{wrote_all, calls_of, asked, given}
use Rattle.history.proofs.play.Given as goal

abbrev pub invariant-loop-at : goal.invariant-loop-at
invariant-loop-at g l = record {
  room : l.records ≤ length l.initial.trace;
  records : wrote_all (take l.at l.answers) ≡ l.records;
  answers : drop l.at l.answers ≡ drop l.at l.initial.answers;
  trace : drop l.records l.trace ≡ drop l.records l.initial.trace;
  ways : given (take l.at l.answers) ≡ asked (take l.at l.requests);
  history : After g.B.Bus.meaning card pace (state l.initial.live (g.B.Bus.contents l.initial.bus))
      (calls_of (length l.initial.trace) l.lines (take l.at l.requests) (take l.at l.answers) (take l.records l.trace))
      (state l.live (g.B.Bus.contents l.bus));
}
