use Rattle.std.proofs.Common.{◌≡◌, ℕ, Some, None, Ok, Err, sym, rules}
use Rattle.std.proofs.lemmas.Result.{err_from_is_err_and}
use Rattle.refusal.specs.declared.Refusal.{Refusal}
use Rattle.machine.specs.State.{State}
use Rattle.machine.specs.Lines.{stalls}
use Rattle.machine.specs.Clock.{run, finished}
use Rattle.machine.specs.Histories.{lines_refused, idled, refuses_clocking}
use Rattle.risc5.specs.Set.{card, pace}
use Rattle.cpu.specs.Cores.{state}
use Rattle.cpu.proofs.Hearing.{lines_heard_lem}
use Rattle.cpu.proofs.Steps.{clocked_as}
use Rattle.cpu.proofs.Live.clock.Goals as goal

pub returns-in_err-lines : goal.returns-in_err-lines
returns-in_err-lines g c =
    let m = g.B.Bus.meaning in
    let ls = c.args.lines.now in
    let s : State = state c.args.self.now (g.B.Bus.contents c.args.bus.now) in
    let e : Refusal = c.in_err-lines.field-0.0 in
    let h : lines_refused ls ≡ Some e = sym c.in_err-lines.ensures.refusal in
    let p = err_from_is_err_and c.from_residual.result c.from_residual.ensures.1 in
    rw (p.1, p.2) (record {
      answer = search rules;
      core = search rules;
      contents = search rules;
      refusal = lines_heard_lem {X = ℕ × ℕ} (finished m card pace ls s, stalls ls) ls (Err e) (search rules);
      step = idled (refuses_clocking ls e h);
    })

pub returns : goal.returns
returns g c =
    let m = g.B.Bus.meaning in
    let ls = c.args.lines.now in
    let s : State = state c.args.self.now (g.B.Bus.contents c.args.bus.now) in
    let e : State = state c.clock_lines.new.self (g.B.Bus.contents c.clock_lines.new.bus) in
    let h : lines_refused ls ≡ None = sym c.in_ok-lines.ensures.refusal in
    let o = c.clock_lines.ensures in
    let same : c.in_ok-lines.lines.bytes.now ≡ ls = c.in_ok-lines.ensures.lines in
    let n : c.clock_lines.result.0 ≡ finished m card pace ls s = rw same at o.finished in
    let k : c.clock_lines.result.1 ≡ stalls ls = rw same at o.stalls in
    let v : e ≡ run m card pace c.in_ok-lines.lines.bytes.now s = λ i. record { core = o.core i; contents = o.contents i } in
    let w : e ≡ run m card pace ls s = rw same at v in
    record {
      answer = search rules;
      core = search rules;
      contents = search rules;
      refusal = lines_heard_lem {X = ℕ × ℕ} (finished m card pace ls s, stalls ls) ls (Ok c.clock_lines.result) (search rules);
      step = clocked_as m ls s e c.clock_lines.result.0 c.clock_lines.result.1 h n k w;
    }
