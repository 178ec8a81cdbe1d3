use Rattle.std.proofs.Common.{ap, ◌∙◌}
use Rattle.isa.specs.Kinds.{kind_of}
use Rattle.cpu.proofs.Reaching.{only_passes}
use Rattle.cpu.proofs.leaping.reach.Goals as goal

pub returns-in_default : goal.returns-in_default
returns-in_default g c =
    let kind = c.kind.ensures ∙ ap kind_of c.instruction-instruction.ensures in
    let p = only_passes g.B.Bus.meaning c.args.context.now (g.B.Bus.contents c.args.bus.now) c.args.share.before c.args.share.ahead c.args.share.in_front
    (λ e. c.in_default.not-Load (kind ∙ e)) (λ e. c.in_default.not-Store (kind ∙ e)) in
    record { context = p.context; contents = c.pass-in_default.ensures ∙ p.contents }
