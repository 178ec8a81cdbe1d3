use Rattle.std.proofs.Common.{ap, ◌∙◌}
use Rattle.machine.specs.declared.Context.{Context}
use Rattle.machine.specs.State.{rest}
use Rattle.cpu.proofs.Ending.{finish_with}
use Rattle.cpu.proofs.Live.end.Goals as goal

pub returns : goal.returns
returns g c =
    let m = g.B.Bus.meaning in
    let f = c.args.self.now.core.context in
    let e = c.finish.ensures.context ∙ finish_with m f _ _ _ _ c.args.line _ c.next-next.ensures c.write.ensures in
    record { core = ap (λ (x : Context). record { context = x; waiting = rest }) e; contents = c.finish.ensures.contents }
