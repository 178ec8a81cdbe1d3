use Rattle.std.proofs.Common.{◌≡◌}
use Rattle.unit.specs.After.{after}
use Rattle.unit.proofs.waiting.run.Given as goal

abbrev pub invariant-loop-s : goal.invariant-loop-s
invariant-loop-s g l = let m = g.U.StepUnit in l.pair ≡ after (m.stepped l.operands) (m.started l.operands) l.s
