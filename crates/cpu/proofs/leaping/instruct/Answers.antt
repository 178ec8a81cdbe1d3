use Rattle.std.proofs.Common.{ℕ, List, ap, ◌∙◌, ap₂}
use Rattle.machine.specs.declared.Context.{Context}
use Rattle.machine.specs.State.{with_ticks}
use Rattle.machine.specs.Clock.{finish_at}
use Rattle.risc5.specs.Set.{card}
use Rattle.cpu.proofs.Ending.{finish_with}
use Rattle.cpu.proofs.leaping.instruct.Goals as goal

pub returns : goal.returns
returns g c =
    let m = g.B.Bus.meaning in
    let x = c.args.share in
    let ir : ℕ = c.args.context.now.fetched.ir in
    let pc : ℕ = c.args.context.now.fetched.pc in
    let ended : Context → List ℕ → Context = λ f h. finish_at m card (with_ticks f x.ticks) (card.next ir pc f.registers) (card.effect ir pc f.registers) x.last h in
    let reached = c.reach.ensures in
    record {
      context =
          c.finish.ensures.context
          ∙ finish_with m (with_ticks c.reach.new.context x.ticks) _ _ _ _ x.last _ c.next-next.ensures c.effect.ensures
          ∙ ap₂ ended reached.context reached.contents;
      contents = c.finish.ensures.contents ∙ ap (λ (h : List ℕ). m.passed h 1) reached.contents;
    }
