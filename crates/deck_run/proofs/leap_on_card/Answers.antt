use Rattle.std.proofs.Common.{◌≡◌, ℕ, List, [], length, vec_items, ap, ◌∙◌, subst}
use Rattle.machine.specs.declared.Record.{Record}
use Rattle.machine.specs.State.{State}
use Rattle.machine.specs.Laws.{Law}
use Rattle.risc5.specs.Set.{card, pace}
use Rattle.cpu.specs.Calls.{leap_answer, leap_records, overlaid}
use Rattle.card.specs.Stack.{card_meaning, card_contents, new_card}
use Rattle.deck_run.specs.Runs.{start_with}
use Rattle.deck_run.proofs.leap_on_card.Goals as goal

pub returns-clause-answer : goal.returns-clause-answer
returns-clause-answer c =
    let start : start_with card_meaning c.args.registers (card_contents c.stack-bus.result) ≡ start_with card_meaning c.args.registers (new_card (vec_items c.args.words) []) =
    ap (start_with card_meaning c.args.registers) c.stack-bus.ensures.contents in
    c.leap_once.ensures.answer ∙ ap (leap_answer card_meaning (length c.args.trace.now) c.args.lines.now) start

pub returns-clause-trace : goal.returns-clause-trace
returns-clause-trace c =
    let t : List Record = c.args.trace.now in
    let start : start_with card_meaning c.args.registers (card_contents c.stack-bus.result) ≡ start_with card_meaning c.args.registers (new_card (vec_items c.args.words) []) =
    ap (start_with card_meaning c.args.registers) c.stack-bus.ensures.contents in
    c.leap_once.ensures.trace ∙ ap (λ (s : State). overlaid (leap_records card_meaning (length t) c.args.lines.now s) t) start

pub returns-clause-law : goal.returns-clause-law
returns-clause-law c =
    subst (λ (h : List ℕ). Law card_meaning card pace (start_with card_meaning c.args.registers h)) c.stack-bus.ensures.contents c.leap_once.ensures.law
