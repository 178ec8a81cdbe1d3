use Rattle.std.proofs.Common.{◌≡◌, ℕ, ◌+◌, ◌<◌, length, get_or, take, sym, refl, ap, ◌∙◌, ap₂, arith, take_all}
use Rattle.machine.specs.Lines.{one, stalls}
use Rattle.machine.specs.State.{State}
use Rattle.machine.specs.Clock.{clock, run, ends, counted, finished}
use Rattle.risc5.specs.Set.{card, pace}
use Rattle.cpu.specs.Cores.{state}
use Rattle.cpu.proofs.Counting.{run_more, finished_more, stalls_more, byte_one, byte_most}
use Rattle.cpu.proofs.Live.clock_lines.Goals as goal

pub loop-line-init : goal.loop-line-init
unfolding counted stalls
loop-line-init g c = (omega arith, omega arith, refl, refl, refl)

pub loop-line-preserved : goal.loop-line-preserved
loop-line-preserved g c =
    let m = g.B.Bus.meaning in
    let xs = c.as_slice-line-items.result.now in
    let i = c.loop-line.line-index in
    let h : i < length xs = c.loop-line-test.true in
    let x : ℕ = get_or xs i 0 in
    let s : State = state c.args.self.now (g.B.Bus.contents c.args.bus.now) in
    let inv = c.loop-line.invariant in
    let e : state c.clock_line.new.self (g.B.Bus.contents c.clock_line.new.bus) ≡ clock m card pace x (state c.loop-line.self (g.B.Bus.contents c.loop-line.bus)) =
    λ j. record { core = c.clock_line.ensures.core j; contents = c.clock_line.ensures.contents j } in (
      omega (arith, inv.0, c.from-done.ensures, byte_most c.clock_line.result),
      omega (arith, inv.1, c.from-stalled.ensures, byte_most c.is_stalled.result),
      e ∙ ap (clock m card pace x) inv.2 ∙ sym (run_more m xs i h s),
      ap₂ ◌+◌ inv.3 (c.from-done.ensures ∙ byte_one c.clock_line.result ∙ ap one (c.clock_line.ensures.answer ∙ ap (ends m card pace x) inv.2)) ∙ sym (finished_more m xs i h s),
      ap₂ ◌+◌ inv.4 (c.from-stalled.ensures ∙ byte_one c.is_stalled.result ∙ ap one c.is_stalled.ensures) ∙ sym (stalls_more m xs i h),
    )

pub returns : goal.returns
returns g c =
    let m = g.B.Bus.meaning in
    let xs = c.args.lines.bytes.now in
    let s : State = state c.args.self.now (g.B.Bus.contents c.args.bus.now) in
    let inv = c.loop-line.invariant in
    let all : take c.loop-line.line-index c.as_slice-line-items.result.now ≡ xs = take_all _ c.as_slice-line-items.result.now c.loop-line-test.false ∙ c.as_slice-line-items.ensures in
    let e = inv.2 ∙ ap (λ ls. run m card pace ls s) all in
    record {
      finished = inv.3 ∙ ap (λ ls. finished m card pace ls s) all;
      stalls = inv.4 ∙ ap stalls all;
      core = ap (λ (x : State). x.core) e;
      contents = ap (λ (x : State). x.contents) e;
    }
