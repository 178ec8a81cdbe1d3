use Rattle.std.proofs.Common.{◌≡◌, ℕ, List, length, ap, ◌∙◌, subst}
use Rattle.machine.specs.declared.Record.{Record}
use Rattle.machine.specs.State.{State}
use Rattle.machine.specs.Histories.{Did, then, none}
use Rattle.risc5.specs.Set.{card, pace}
use Rattle.cpu.specs.declared.Held.{Held}
use Rattle.cpu.specs.Cores.{released, state}
use Rattle.cpu.specs.Calls.{leap_call}
use Rattle.deck_run.specs.Runs.{start_with}
use Rattle.deck_run.proofs.leap_once.Goals as goal

pub returns-clause-history : goal.returns-clause-history
returns-clause-history g c =
    let m = g.B.Bus.meaning in
    let h : List ℕ = g.B.Bus.contents c.args.bus.now in
    let ls : List ℕ = c.args.lines.now in
    let t : List Record = c.args.trace.now in
    let live = c.release-live in
    let start : state live.result h ≡ start_with m c.args.registers h =
    λ i. record { core = (live.ensures.core ∙ ap (λ (x : Held). released m x h) c.with_registers.ensures) i; contents = h } in
    let end : State = state c.leap.new.self (g.B.Bus.contents c.leap.new.bus) in
    record {
      end = end;
      history = then (subst (λ (s : State). Did m card pace s (leap_call ls (length t) c.leap.new.trace c.leap.result) end) start c.leap.ensures.step) none;
    }
