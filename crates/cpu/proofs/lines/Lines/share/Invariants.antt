use Rattle.std.proofs.Common.{◌≡◌, ◌+◌, ◌≤◌, take, drop}
use Rattle.machine.specs.Lines.{noted_all}
use Rattle.machine.specs.Shares.{cut, cut_after, ahead}
use Rattle.cpu.proofs.Scans.{past}
use Rattle.cpu.proofs.lines.Lines.share.Given as goal

abbrev pub invariant-loop-i : goal.invariant-loop-i
invariant-loop-i l =
    (cut l.count l.self.bytes.now ≡ past (take l.i l.self.bytes.now) (cut_after l.more (drop l.i l.self.bytes.now)))
    × (l.seen ≡ noted_all (take l.i l.self.bytes.now) l.initial.seen)
    × (l.ahead ≡ ahead (take l.i l.self.bytes.now))
    × (l.ahead ≤ l.i)
    × (l.count ≤ l.more + l.i + 1)
