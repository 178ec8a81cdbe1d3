-- What is answered, by what the deck says.
use Rattle.std.proofs.Common.{◌≡◌, ℕ, ◌+◌, ◌≤◌, List, [], ◌++◌, length, take, drop, replicate, IfOk, Ok, Err, Option, Result, sym, refl, ap, ◌∙◌, subst, ap₂, arith, length-append}
use Rattle.std.proofs.lemmas.List.{length-replicate}
use Rattle.std.proofs.Math.Seq.{take-append_seam}
use Rattle.refusal.specs.declared.Refusal.{Refusal}
use Rattle.refusal.specs.Heard.{Told}
use Rattle.machine.specs.declared.Record.{Record}
use Rattle.machine.specs.State.{State, boundary_of}
use Rattle.machine.specs.Instructions.{Run}
use Rattle.machine.specs.Histories.{clocks_of, stalls_of}
use Rattle.machine.specs.Laws.{Law}
use Rattle.machine.proofs.Runs.{Runs, runs, ran-length}
use Rattle.risc5.specs.Set.{card, pace}
use Rattle.risc5.proofs.Fitting.{fits}
use Rattle.cpu.specs.Calls as calls
use Rattle.cpu.specs.Calls.{run_answer, leap_answer, leap_records, overlaid, leap_call}
use Rattle.card.specs.Stack.{card_meaning, new_card}
use Rattle.deck.specs.declared.rows.Deed.{Deed}
use Rattle.deck.specs.Decks.{all_lines, deck_says, counted}
use Rattle.deck.specs.Loaded.{words_after, registers_after, lines_after}
use Rattle.deck.proofs.Counting.{ok_same, ok_err}
use Rattle.deck_run.specs.Runs.{start_with, start_of, said, run_of, Alone, Ran}
use Rattle.deck_run.proofs.Accepted.{not_refused}

err_same : (d e : Told) → ◌≡◌ {A = Result ℕ Told} (Err d) (Err e) → d ≡ e
err_same d e h = cc

-- over 4,096 words that are 0
pub says : (deck old zeros : List ℕ) → zeros ≡ replicate 4096 0 → deck_says deck (length zeros) (length old) ≡ said deck (length old)
says deck old zeros z = ap (λ (k : ℕ). deck_says deck k (length old)) (ap length z ∙ length-replicate {A = ℕ} 4096 0)

-- words lent out and handed back
pub refilled : (n : ℕ) (words old : List ℕ) → length words ≡ n → take n (words ++ drop (length words) old) ≡ words
refilled n words old e = ap (λ (k : ℕ). take k (words ++ drop (length words) old)) (sym e) ∙ take-append_seam words (drop (length words) old)

-- a refusal is the deck's
pub refused : (d : Result (List Deed) Told) (e : Told) → Err e ≡ counted d → d ≡ Err e
refused (Ok ds) e h = absurd (ok_err _ e (sym h))
refused (Err f) e h = ap (λ (x : Told). Err x) (err_same f e (sym h))

-- the lines of a deck are no more than the buffer
pub within : (d : Result (List Deed) Told) (n : ℕ) (old new : List ℕ) → Ok n ≡ counted d → new ≡ lines_after d old → n ≤ length new
within (Ok ds) n old new a l = omega (arith, ok_same n _ a, ap length l, length-append (all_lines ds) (drop (length (all_lines ds)) old))
within (Err e) n old new a l = absurd (ok_err n e a)

-- deeds that add so many lines
record Taken (d : Result (List Deed) Told) (n : ℕ) : Type 0 where
  deeds : List Deed
  is : d ≡ Ok deeds
  count : n ≡ length (all_lines deeds)

taken : (d : Result (List Deed) Told) (n : ℕ) → Ok n ≡ counted d → Taken d n
taken (Ok ds) n h = record { deeds = ds; is = refl; count = ok_same n _ h }
taken (Err e) n h = absurd (ok_err n e h)

-- an accepted deck, loaded: its lines, and the card and core that are released
pub record Loaded (deck old own words registers : List ℕ) : Type 0 where
  pub deeds : List Deed
  pub accepted : said deck (length old) ≡ Ok deeds
  pub lines : own ≡ all_lines deeds
  pub start : start_with card_meaning registers (new_card words []) ≡ start_of deeds

pub loaded : (deck old zeros new own words registers : List ℕ) (n : ℕ) → zeros ≡ replicate 4096 0
    → Ok n ≡ counted (deck_says deck (length zeros) (length old))
    → words ≡ words_after (deck_says deck (length zeros) (length old)) zeros
    → registers ≡ registers_after (deck_says deck (length zeros) (length old)) (replicate 16 0)
    → new ≡ lines_after (deck_says deck (length zeros) (length old)) old
    → own ≡ take n new → Loaded deck old own words registers
loaded deck old zeros new own words registers n z a w r l o =
    let same = says deck old zeros z in
    let t = taken (said deck (length old)) n (a ∙ ap counted same) in
    let ls = all_lines t.deeds in
    let all : new ≡ ls ++ drop (length ls) old = l ∙ ap (λ (d : Result (List Deed) Told). lines_after d old) (same ∙ t.is) in
    record {
      deeds = t.deeds;
      accepted = t.is;
      lines = o ∙ (ap₂ (λ (k : ℕ) (xs : List ℕ). take k xs) t.count all ∙ take-append_seam ls (drop (length ls) old));
      start =
          ap₂ (λ (x y : List ℕ). start_with card_meaning x (new_card y [])) (r ∙ ap (λ (d : Result (List Deed) Told). registers_after d (replicate 16 0)) (same ∙ t.is))
          (w ∙ ap₂ words_after (same ∙ t.is) z);
    }

-- the leap of a loaded deck is not refused
module _ (deck old own words registers : List ℕ) (L : Loaded deck old own words registers) (room : ℕ) where
  pub answered : (r : Result (ℕ × ℕ × ℕ) Refusal) → r ≡ leap_answer card_meaning room own (start_with card_meaning registers (new_card words []))
      → r ≡ Ok (run_answer card_meaning (run_of room L.deeds))
  answered r h =
      h
      ∙ (ap₂ (leap_answer card_meaning room) L.lines L.start
      ∙ ap (λ (o : Option Refusal). calls.answer_by o (run_answer card_meaning (run_of room L.deeds))) (not_refused deck 4096 (length old) L.deeds L.accepted))

  pub traced : (before after : List Record) → after ≡ overlaid (leap_records card_meaning room own (start_with card_meaning registers (new_card words []))) before
      → after ≡ overlaid (run_of room L.deeds).records before
  traced before after h =
      h
      ∙ (ap₂ (λ (ls : List ℕ) (s : State). overlaid (leap_records card_meaning room ls s) before) L.lines L.start
      ∙ ap (λ (o : Option Refusal). overlaid (calls.left_by o (run_of room L.deeds).records []) before) (not_refused deck 4096 (length old) L.deeds L.accepted))

  -- each line used is a clock or a stall of a record
  accounted : (a : ℕ × ℕ × ℕ) (before after : List Record) → a ≡ run_answer card_meaning (run_of room L.deeds) → after ≡ overlaid (run_of room L.deeds).records before
      → a.0 ≡ clocks_of (take a.1 after) + stalls_of (take a.1 after)
  accounted a before after h g =
      let r : Run = run_of room L.deeds in
      let k : Runs card_meaning card pace (boundary_of (start_of L.deeds)) (all_lines L.deeds) r = runs card_meaning card pace room (boundary_of (start_of L.deeds)) (all_lines L.deeds) in
      let own : take a.1 after ≡ r.records =
      ap₂ (λ (n : ℕ) (t : List Record). take n t) (ap (λ (x : ℕ × ℕ × ℕ). x.1) h) g ∙ take-append_seam r.records (drop (length r.records) before) in
      ap (λ (x : ℕ × ℕ × ℕ). x.0) h
      ∙ (sym k.count ∙ (ran-length card_meaning card pace fits k.ran ∙ ap (λ (t : List Record). clocks_of t + stalls_of t) (sym own)))

  pub ran_as : (r : Result (ℕ × ℕ × ℕ) Refusal) (before after : List Record) → r ≡ leap_answer card_meaning room own (start_with card_meaning registers (new_card words []))
      → after ≡ overlaid (leap_records card_meaning room own (start_with card_meaning registers (new_card words []))) before
      → Alone card_meaning (start_with card_meaning registers (new_card words [])) (leap_call own room after r)
      → Law card_meaning card pace (start_with card_meaning registers (new_card words [])) → IfOk r (λ a. Ran deck (length old) room after a)
  ran_as r before after h g m law =
      let a : ℕ × ℕ × ℕ = run_answer card_meaning (run_of room L.deeds) in
      let is : r ≡ Ok a = answered r h in
      let from : Alone card_meaning (start_of L.deeds) (leap_call own room after r) = subst (λ (s : State). Alone card_meaning s (leap_call own room after r)) L.start m in
      let over : Alone card_meaning (start_of L.deeds) (leap_call (all_lines L.deeds) room after r) =
      subst (λ (ls : List ℕ). Alone card_meaning (start_of L.deeds) (leap_call ls room after r)) L.lines from in
      subst (λ (x : Result (ℕ × ℕ × ℕ) Refusal). IfOk x (λ b. Ran deck (length old) room after b)) (sym is)
      (record {
        deeds = L.deeds;
        accepted = L.accepted;
        made = subst (λ (x : Result (ℕ × ℕ × ℕ) Refusal). Alone card_meaning (start_of L.deeds) (leap_call (all_lines L.deeds) room after x)) is over;
        law = subst (λ (s : State). Law card_meaning card pace s) L.start law;
        accounted = accounted a before after refl (traced before after g);
      })
