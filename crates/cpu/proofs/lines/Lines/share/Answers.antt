use Rattle.std.proofs.Common.{◌≡◌, ℕ, pred, ◌+◌, ◌-◌, ◌<◌, [], length, take, drop, sym, refl, ap, ◌∙◌, arith}
use Rattle.machine.specs.Lines.{noted}
use Rattle.machine.specs.Shares.{cut, cut_after}
use Rattle.cpu.proofs.Scans.{past, past_none, scan_wait, scan_work, scan_last, scan_none, noted_more, ahead_work, ahead_all, ahead_some, measured_last, measured_none}
use Rattle.cpu.proofs.lines.Lines.share.Goals as goal
use Rattle.cpu.proofs.lines.Lines.share.Goals.{then-is_stalled+then-ahead-i, then-is_stalled+else-ahead-i, else-is_stalled+else-more-eq0}

pub loop-i-init : goal.loop-i-init
loop-i-init c =
    let e : pred c.args.count ≡ c.args.count - 1 = omega arith in
    (past_none _ ∙ ap (λ (k : ℕ). past [] (cut_after k c.args.self.bytes.now)) e, refl, refl, omega arith, omega arith)

pub overflow_cast-result-then-more-eq0 : goal.overflow_cast-result-then-more-eq0
overflow_cast-result-then-more-eq0 c = omega (arith, c.loop-i.invariant.3, c.loop-i-test.true, c.args.self.few)

pub returns-then-more-eq0 : goal.returns-then-more-eq0
returns-then-more-eq0 c =
    let ls = c.args.self.bytes.now in
    let i = c.loop-i.i in
    let z = scan_last (cut c.args.count ls) ls i c.loop-i.more c.loop-i.invariant.0 c.loop-i-test.true (sym c.if-is_stalled.ensures) c.if-more-eq0.true in
    record {
      measured =
          measured_last c.args.count c.args.ticks ls i (cut c.args.count ls) _ c.loop-i-test.true z refl refl c.loop-i.invariant.2 refl c.loop-i.invariant.1;
      within = omega (arith, c.loop-i-test.true);
    }

pub loop-i-preserved : goal.loop-i-preserved
loop-i-preserved c =
    let ls = c.args.self.bytes.now in
    let i = c.loop-i.i in
    let h : i < length ls = c.loop-i-test.true in
    let z = cut c.args.count ls in
    let on : (k : ℕ) → z ≡ past (take (i + 1) ls) (cut_after k (drop (i + 1) ls)) → c.if-is_stalled.more ≡ k
    → z ≡ past (take (i + 1) ls) (cut_after c.if-is_stalled.more (drop (i + 1) ls)) =
    λ k e q. e ∙ ap (λ (j : ℕ). past (take (i + 1) ls) (cut_after j (drop (i + 1) ls))) (sym q) in
    let t = c.note.ensures ∙ ap (noted _) c.loop-i.invariant.1 ∙ sym (noted_more ls i c.args.ticks h) in
    elim c.if-is_stalled.branch [
      | then-is_stalled+then-ahead-i w ↦
          let e = sym c.is_stalled.ensures ∙ w.if-is_stalled.true in (
            on _ (scan_wait z ls i c.loop-i.more c.loop-i.invariant.0 h e) w.more-is,
            t,
            w.ahead-is ∙ ahead_all ls i c.loop-i.ahead h c.loop-i.invariant.2 e w.if-ahead-i.true,
            omega (arith, w.ahead-is),
            omega (arith, w.more-is, c.loop-i.invariant.4),
          )
      | then-is_stalled+else-ahead-i w ↦
          let e = sym c.is_stalled.ensures ∙ w.if-is_stalled.true in (
            on _ (scan_wait z ls i c.loop-i.more c.loop-i.invariant.0 h e) w.more-is,
            t,
            w.ahead-is ∙ ahead_some ls i c.loop-i.ahead h c.loop-i.invariant.2 w.if-ahead-i.false,
            omega (arith, w.ahead-is, c.loop-i.invariant.3),
            omega (arith, w.more-is, c.loop-i.invariant.4),
          )
      | else-is_stalled+else-more-eq0 w ↦
          let e = sym c.is_stalled.ensures ∙ w.if-is_stalled.false in
          let p : 0 < c.loop-i.more = omega (arith, w.if-more-eq0.false) in (
            on _ (scan_work z ls i c.loop-i.more c.loop-i.invariant.0 h e p) w.more-is,
            t,
            w.ahead-is ∙ ahead_work ls i c.loop-i.ahead h c.loop-i.invariant.2 e,
            omega (arith, w.ahead-is, c.loop-i.invariant.3),
            omega (arith, w.more-is, c.loop-i.invariant.4),
          )
    ]

pub returns : goal.returns
returns c =
    let ls = c.args.self.bytes.now in
    let z = scan_none (cut c.args.count ls) ls c.loop-i.i c.loop-i.more c.loop-i.invariant.0 c.loop-i-test.false in
    record { measured = measured_none c.args.count c.args.ticks (cut c.args.count ls) z; within = tt }
