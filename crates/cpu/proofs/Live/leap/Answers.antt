use Rattle.std.proofs.Common.{◌≡◌, ℕ, List, length, Option, Some, None, Ok, Err, sym, ap, ◌∙◌, rules}
use Rattle.std.proofs.lemmas.Result.{err_from_is_err_and}
use Rattle.refusal.specs.declared.Refusal.{Refusal}
use Rattle.machine.specs.State.{State, rest, live}
use Rattle.machine.specs.Histories.{lines_refused, leap_refused, or_inside, leapt, idled, refuses_leap}
use Rattle.risc5.specs.Set.{card, pace}
use Rattle.cpu.specs.Cores.{state}
use Rattle.cpu.specs.Calls.{run_answer, overlaid}
use Rattle.cpu.proofs.Hearing.{leap_heard_lem}
use Rattle.cpu.proofs.Steps.{leaped_as}
use Rattle.cpu.proofs.Live.leap.Goals as goal

-- a leap is refused by its lines, then by its step number
by_lines : (ls : List ℕ) (step : ℕ) (e : Refusal) → lines_refused ls ≡ Some e → leap_refused ls step ≡ Some e
unfolding leap_refused
by_lines ls step e h = ap (or_inside step) h

by_step : (ls : List ℕ) (step : ℕ) (o : Option Refusal) → lines_refused ls ≡ None → or_inside step None ≡ o → leap_refused ls step ≡ o
unfolding leap_refused
by_step ls step o h k = ap (or_inside step) h ∙ k

pub returns-in_err-lines : goal.returns-in_err-lines
returns-in_err-lines g c =
    let m = g.B.Bus.meaning in
    let ls = c.args.lines.now in
    let t = c.args.trace.now in
    let s : State = state c.args.self.now (g.B.Bus.contents c.args.bus.now) in
    let e : Refusal = c.in_err-lines.field-0.0 in
    let h : leap_refused ls s.core.waiting.step ≡ Some e = by_lines ls s.core.waiting.step e (sym c.in_err-lines.ensures.refusal) in
    let p = err_from_is_err_and c.from_residual.result c.from_residual.ensures.1 in
    rw (p.1, p.2) (record {
      answer = search rules;
      core = search rules;
      contents = search rules;
      trace = search rules;
      refusal = leap_heard_lem (run_answer m (leapt m card pace (length t) s ls)) ls s.core.waiting.step (Err e) (search rules);
      step = idled (refuses_leap ls (length t) e h);
    })

pub returns-in_err-begins_at : goal.returns-in_err-begins_at
returns-in_err-begins_at g c =
    let m = g.B.Bus.meaning in
    let ls = c.args.lines.now in
    let t = c.args.trace.now in
    let s : State = state c.args.self.now (g.B.Bus.contents c.args.bus.now) in
    let e : Refusal = c.in_err-begins_at.field-0.0 in
    let h : leap_refused ls s.core.waiting.step ≡ Some e =
    by_step ls s.core.waiting.step (Some e) (sym c.in_ok-lines.ensures.refusal) (sym c.in_err-begins_at.ensures) in
    let p = err_from_is_err_and c.from_residual-in_err-begins_at.result c.from_residual-in_err-begins_at.ensures.1 in
    rw (p.1, p.2) (record {
      answer = search rules;
      core = search rules;
      contents = search rules;
      trace = search rules;
      refusal = leap_heard_lem (run_answer m (leapt m card pace (length t) s ls)) ls s.core.waiting.step (Err e) (search rules);
      step = idled (refuses_leap ls (length t) e h);
    })

pub returns : goal.returns
returns g c =
    let m = g.B.Bus.meaning in
    let ls = c.args.lines.now in
    let t = c.args.trace.now in
    let s : State = state c.args.self.now (g.B.Bus.contents c.args.bus.now) in
    let e : State = record { core = record { context = c.leap_lines.new.context; waiting = rest }; contents = g.B.Bus.contents c.leap_lines.new.bus } in
    let h : leap_refused ls s.core.waiting.step ≡ None = by_step ls s.core.waiting.step None (sym c.in_ok-lines.ensures.refusal) (sym c.in_ok-begins_at.ensures) in
    let o = c.leap_lines.ensures in
    let same : c.in_ok-lines.lines.bytes.now ≡ ls = c.in_ok-lines.ensures.lines in
    let a : c.leap_lines.result ≡ run_answer m (leapt m card pace (length t) s ls) = rw same at o.answer in
    let u : c.leap_lines.new.trace ≡ overlaid (leapt m card pace (length t) s ls).records t = rw same at o.trace in
    let v : e ≡ live (leapt m card pace (length t) s c.in_ok-lines.lines.bytes.now).state = λ i. record { core = record { context = o.context i; waiting = rest }; contents = o.contents i } in
    let w : e ≡ live (leapt m card pace (length t) s ls).state = rw same at v in
    record {
      answer = search rules;
      core = search rules;
      contents = search rules;
      trace = search rules;
      refusal = leap_heard_lem (run_answer m (leapt m card pace (length t) s ls)) ls s.core.waiting.step (Ok c.leap_lines.result) (search rules);
      step = leaped_as m ls s e (length t) c.leap_lines.result t c.leap_lines.new.trace h a u w;
    }
