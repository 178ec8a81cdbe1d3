use Rattle.std.proofs.Common.{◌≡◌, ℕ, ◌+◌, ◌-◌, ◌<◌, ◌≤◌, List, ◌∷◌, [], ◌++◌, length, get_or, take, drop, sym, refl, ap, ◌∙◌, subst, arith, length-take}
use Rattle.std.proofs.lemmas.List.{drop-drop}
use Rattle.machine.specs.State.{State}
use Rattle.machine.specs.Histories.{Call, After, none, Did}
use Rattle.risc5.specs.Set.{card, pace}
use Rattle.cpu.specs.Cores.{state}
use Rattle.history.specs.declared.Way.TheVariants.{ByClock}
use Rattle.history.specs.declared.Request.{Request}
use Rattle.history.specs.Asked.{part_of, wrote, call_of}
use Rattle.history.proofs.Playing.{after_more, wrote_on, given_on, left_on, calls_on, take_more_of}
use Rattle.history.proofs.play.Goals as goal

pub loop-at-init : goal.loop-at-init
loop-at-init g c = record { room = omega arith; records = refl; answers = refl; trace = refl; ways = refl; history = none }

pub loop-at-preserved : goal.loop-at-preserved
loop-at-preserved g c =
    let m = g.B.Bus.meaning in
    let i = c.loop-at.at in
    let k = c.loop-at.records in
    let qs = c.args.requests.now in
    let xs = c.loop-at.answers in
    let t = c.loop-at.trace in
    let t0 = c.args.trace.now in
    let u = c.ask_behind-answer.new.trace in
    let ls = c.args.lines.now in
    let x = c.ask_behind-answer.result in
    let o = c.ask_behind-answer.ensures in
    let inv = c.loop-at.invariant in
    let before : i < length (take c.min-met.result qs) = c.loop-at-test.true in
    let q : Request = get_or (take c.min-met.result qs) i (record { way = ByClock; first = 0; count = 0 }) in
    let more : take (i + 1) qs ≡ take i qs ++ (q ∷ []) = take_more_of qs c.min-met.result i _ before in
    let in_requests : i ≤ length qs = omega (arith, length-take c.min-met.result qs) in
    let in_answers : i < length xs = omega (arith, length-take c.min-met.result qs, c.min-met.ensures, c.loop-at.auto.answers) in
    let in_trace : k ≤ length t = omega (arith, inv.room, c.loop-at.auto.trace) in
    let s : State = state c.loop-at.live (g.B.Bus.contents c.loop-at.bus) in
    let s0 : State = state c.release-live.result (g.B.Bus.contents c.args.bus.now) in
    let e : State = state c.ask_behind-answer.new.live (g.B.Bus.contents c.ask_behind-answer.new.bus) in
    let did : Did m card pace s (call_of (part_of ls q) (length t0 - k) (drop k u) x) e =
    subst (λ (j : ℕ). Did m card pace s (call_of (part_of ls q) (j - k) (drop k u) x) e) c.loop-at.auto.trace
    (subst (λ (r : List ℕ). Did m card pace s (call_of r (length t - k) (drop k u) x) e) c.part.ensures o.did) in
    rw c.records-records.ensures (record {
      room = omega (arith, o.room, c.loop-at.auto.trace);
      records = wrote_on xs i x in_answers k inv.records;
      answers = left_on xs i x in_answers c.args.answers.now inv.answers;
      trace = o.behind ∙ sym (drop-drop (wrote x) k t) ∙ ap (drop (wrote x)) inv.trace ∙ drop-drop (wrote x) k t0;
      ways = given_on xs i x in_answers qs q more inv.ways o.way;
      history =
          subst (λ (r : List Call). After m card pace s0 r e)
          (sym (calls_on xs i x in_answers (length t0) ls qs q k t u more in_requests inv.records o.before in_trace c.ask_behind-answer.auto.trace))
          (after_more inv.history did);
    })
