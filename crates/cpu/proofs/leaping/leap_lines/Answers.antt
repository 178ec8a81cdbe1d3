use Rattle.std.proofs.Common.{◌≡◌, ℕ, ◌+◌, ◌-◌, ◌<◌, ◌≤◌, length, take, drop, set, Some, None, sym, ap, ◌∙◌, ap₂, subst, arith, rules, length-drop}
use Rattle.std.specs.Option.{is_some}
use Rattle.std.proofs.lemmas.List.{set-get_or, drop-set-lt, drop-drop}
use Rattle.isa.specs.Kinds.{clocks_of}
use Rattle.machine.specs.Lines.{one}
use Rattle.machine.specs.State.{Boundary}
use Rattle.machine.specs.Shares.{cut}
use Rattle.machine.specs.Instructions.{share, leaps}
use Rattle.risc5.specs.Set.{card, pace}
use Rattle.cpu.specs.Cores.{boundary}
use Rattle.cpu.specs.Measures.{Measures, after_share, record_of}
use Rattle.cpu.proofs.Counting.{byte_one}
use Rattle.cpu.proofs.Loops.{onto, leap_again, leap_short, leap_full}
use Rattle.cpu.proofs.leaping.leap_lines.Goals as goal

pub returns-in_default : goal.returns-in_default
returns-in_default g c =
    let m = g.B.Bus.meaning in
    let s : Boundary = boundary c.loop-written.context (g.B.Bus.contents c.loop-written.bus) in
    let ls = c.loop-written.rest.bytes.now in
    let q : Measures (clocks_of s.context.fetched.ir) s.context.ticks (share m card pace s ls) None =
    subst (λ (n : ℕ). Measures n s.context.ticks (cut n ls) None) c.count_of.ensures.value c.in_default.ensures.measured in
    let h : c.loop-written.written ≤ length c.loop-written.trace = omega arith in
    let r = leap_short m _ c.loop-written.trace (length c.args.trace.now) c.loop-written.written c.loop-written.used s ls c.loop-written.invariant.0 c.args.trace.now
    q h c.loop-written.invariant.1 in
    record { answer = r.answer; context = r.context; contents = r.contents; trace = search (rules, set-get_or) }

pub loop-written-preserved : goal.loop-written-preserved
loop-written-preserved g c =
    let m = g.B.Bus.meaning in
    let s : Boundary = boundary c.loop-written.context (g.B.Bus.contents c.loop-written.bus) in
    let ls = c.loop-written.rest.bytes.now in
    let t = c.loop-written.trace in
    let w = c.loop-written.written in
    let u = c.loop-written.used in
    let x = c.in-Some.share in
    let n = c.from.result in
    let room = length c.args.trace.now in
    let q : Measures (clocks_of s.context.fetched.ir) s.context.ticks (share m card pace s ls) (Some x) =
    subst (λ (n : ℕ). Measures n s.context.ticks (cut n ls) (Some x)) c.count_of.ensures.value c.in-Some.ensures.measured in
    let h : w < length t = omega (arith, c.loop-written-test.true) in
    let k : w < room = c.loop-written-test.true in
    let a = leap_again m _ t room w u s ls c.loop-written.invariant.0 x q k h in
    let p : record_of s.context x ≡ c.record_of.result = sym c.record_of.ensures in
    let v : x.before ≡ n = sym c.from.ensures in
    let d : drop (x.before + 1) ls ≡ c.after-rest.result.bytes.now = sym c.after-rest.ensures in
    let b : after_share m s x ≡ boundary c.instruct.new.context (g.B.Bus.contents c.instruct.new.bus) =
    λ i. record { context = sym c.instruct.ensures.context i; contents = sym c.instruct.ensures.contents i } in
    let e : onto (take (w + 1) (set t w (record_of s.context x))) (u + (x.before + 1)) (leaps m card pace (room - (w + 1)) (after_share m s x) (drop (x.before + 1) ls))
    ≡ onto (take (w + 1) (set t w c.record_of.result)) (u + (n + 1)) (leaps m card pace (room - (w + 1)) (boundary c.instruct.new.context (g.B.Bus.contents c.instruct.new.bus)) c.after-rest.result.bytes.now) =
    λ i. onto (take (w + 1) (set t w (p i))) (u + (v i + 1)) (leaps m card pace (room - (w + 1)) (b i) (d i)) in
    let y : w < w + 1 = omega arith in
    let z : drop (w + 1) t ≡ drop (w + 1) c.args.trace.now = sym (drop-drop 1 w t) ∙ ap (drop 1) c.loop-written.invariant.1 ∙ drop-drop 1 w c.args.trace.now in
    let o : x.before + 1 ≤ length ls = c.in-Some.ensures.within in (
      a ∙ e,
      drop-set-lt (w + 1) t w c.record_of.result y ∙ z,
      omega (arith, c.loop-written.invariant.2),
      omega (arith, ap length d, length-drop (x.before + 1) ls, c.loop-written.invariant.3),
    )

pub returns : goal.returns
returns g c =
    let m = g.B.Bus.meaning in
    let s : Boundary = boundary c.loop-written.context (g.B.Bus.contents c.loop-written.bus) in
    let ls = c.loop-written.rest.bytes.now in
    let w = c.loop-written.written in
    let t = c.loop-written.trace in
    let q : Measures (clocks_of s.context.fetched.ir) s.context.ticks (share m card pace s ls) c.share-2.result =
    subst (λ (n : ℕ). Measures n s.context.ticks (cut n ls) c.share-2.result) c.count_of-2.ensures.value c.share-2.ensures.measured in
    let h : w ≤ length t = omega arith in
    let f : w ≡ length c.args.trace.now = omega (arith, c.loop-written-test.false) in
    let n : w ≡ length t = omega (arith, c.loop-written-test.false) in
    let r = leap_full m _ t (length c.args.trace.now) w c.loop-written.used s ls c.loop-written.invariant.0 c.args.trace.now
    c.share-2.result q f h c.loop-written.invariant.1 in
    let more : c.from-2.result ≡ one (is_some c.share-2.result) = c.from-2.ensures ∙ byte_one c.is_some-more.result ∙ ap one c.is_some-more.ensures in
    record { answer = ap₂ (λ (i : ℕ) (j : ℕ). (c.loop-written.used, i, j)) (sym n) more ∙ r.answer; context = r.context; contents = r.contents; trace = r.trace }
