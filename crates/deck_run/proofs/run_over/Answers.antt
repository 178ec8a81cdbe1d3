use Rattle.std.proofs.Common.{◌≡◌, ℕ, List, ◌++◌, length, take, drop, replicate, Err, Result, sym, ap, ◌∙◌, arith, rules}
use Rattle.std.proofs.lemmas.Result.{err_from_is_err_and}
use Rattle.refusal.specs.Heard.{Told, told, outcome}
use Rattle.cpu.specs.Calls.{overlaid}
use Rattle.deck.specs.declared.rows.Deed.{Deed}
use Rattle.deck.specs.Loaded.{lines_after}
use Rattle.deck.specs.Decks.{counted}
use Rattle.deck_run.specs.Runs.{said, answer_of, records_of}
use Rattle.deck_run.proofs.Answering.{says, refilled, refused, within, Loaded, loaded, answered, traced, ran_as}
use Rattle.deck_run.proofs.run_over.Goals as goal

pub returns-in_err-count : goal.returns-in_err-count
returns-in_err-count c =
    let p = err_from_is_err_and c.from_residual.result c.from_residual.ensures.1 in
    let deck = c.args.deck.now in
    let old = c.args.lines.now in
    let trace = c.args.trace.now in
    let e = told c.in_err-count.field-0.0 in
    let zeros : c.deref_mut.result.now ≡ replicate 4096 0 = c.deref_mut.ensures.value ∙ c.requires in
    let same = says deck old c.deref_mut.result.now zeros in
    let is : said deck (length old) ≡ Err e = refused (said deck (length old)) e (c.in_err-count.ensures.answer ∙ ap counted same) in
    rw (p.1, p.2)
    (record {
      answer = sym (ap (answer_of (length trace)) is);
      lines = c.load.ensures.lines ∙ ap (λ (d : Result (List Deed) Told). lines_after d old) same;
      trace = sym (ap (λ (d : Result (List Deed) Told). overlaid (records_of (length trace) d) trace) is);
      history = tt;
    })

pub split_at-requires : goal.split_at-requires
split_at-requires c =
    omega (arith, within _ c.in_ok-count.count c.args.lines.now c.load.new.lines c.in_ok-count.ensures.answer c.load.ensures.lines)

pub returns : goal.returns
returns c =
    let deck = c.args.deck.now in
    let old = c.args.lines.now in
    let trace = c.args.trace.now in
    let w = c.load.new.words in
    let words : List ℕ = take c.args.words.len (w ++ drop (length w) c.args.words.items) in
    let own = c.split_at.result.0.now in
    let zeros : c.deref_mut.result.now ≡ replicate 4096 0 = c.deref_mut.ensures.value ∙ c.requires in
    let full : length w ≡ c.args.words.len = search rules in
    let L : Loaded deck old own words c.load.new.registers =
    loaded deck old c.deref_mut.result.now c.load.new.lines own words c.load.new.registers c.in_ok-count.count
    zeros c.in_ok-count.ensures.answer (refilled c.args.words.len w c.args.words.items full ∙ c.load.ensures.words) c.load.ensures.registers c.load.ensures.lines
    c.split_at.ensures.front in
    let done = c.leap_on_card.ensures in
    record {
      answer = ap outcome (answered deck old own words c.load.new.registers L (length trace) c.leap_on_card.result done.answer) ∙ sym (ap (answer_of (length trace)) L.accepted);
      lines = c.load.ensures.lines ∙ ap (λ (d : Result (List Deed) Told). lines_after d old) (says deck old c.deref_mut.result.now zeros);
      trace =
          traced deck old own words c.load.new.registers L (length trace) trace c.leap_on_card.new.trace done.trace
          ∙ sym (ap (λ (d : Result (List Deed) Told). overlaid (records_of (length trace) d) trace) L.accepted);
      history =
          ran_as deck old own words c.load.new.registers L (length trace) c.leap_on_card.result trace c.leap_on_card.new.trace done.answer done.trace
          done.history done.law;
    }
