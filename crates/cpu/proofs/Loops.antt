-- The steps of a leap's loop.
use Rattle.std.proofs.Common.{◌≡◌, ℕ, suc, pred, ◌+◌, ◌-◌, ◌<◌, ◌≤◌, List, [], ◌∷◌, ◌++◌, length, take, drop, set, Some, None, Option, sym, refl, ap, ◌∙◌, ap₂, append_assoc, append-nil, add-zero, add_assoc, add-one, arith, take-append-drop}
use Rattle.std.proofs.lemmas.List.{take_more_set, length-take-le}
use Rattle.std.specs.Option.{is_some}
use Rattle.bus.specs.Meaning.{Meaning}
use Rattle.isa.specs.Kinds.{clocks_of}
use Rattle.machine.specs.declared.Ticks.{Ticks}
use Rattle.machine.specs.declared.Context.{Context}
use Rattle.machine.specs.declared.Record.{Record}
use Rattle.machine.specs.Lines.{noted_all, one, stalls}
use Rattle.machine.specs.State.{Boundary, with_registers, with_ticks}
use Rattle.machine.specs.Clock.{Reached, acks, finish}
use Rattle.machine.specs.Shares.{Cut, short, whole, ahead, remains}
use Rattle.machine.specs.Instructions.{ready_at, before, instruction, recorded, Run, stop, share, leaps}
use Rattle.machine.proofs.Cuts.{Good, cut_good}
use Rattle.machine.proofs.Waits.{owed_pred}
use Rattle.machine.proofs.Runs.{share-stalls, leaps_next, leaps_end}
use Rattle.risc5.specs.Set.{card, pace}
use Rattle.risc5.proofs.Fitting.{fits}
use Rattle.cpu.specs.declared.share.Share.{Share}
use Rattle.cpu.specs.Measures.{Measures, after_share, record_of}
use Rattle.cpu.specs.Calls.{run_answer, overlaid}

-- the machine after an instruction over a share with i lines before its last, a of them in front, of which the last is z, with the ticks t before it
abbrev pub after_lines : Meaning → Boundary → ℕ → ℕ → ℕ → Ticks → Boundary
after_lines M s i a z t =
    let o : Reached = ready_at M card i a s in
    let f : Context = with_ticks (with_registers s.context o.registers) t in
    record { context = finish M card f (card.effect f.fetched.ir f.fetched.pc f.registers) z o.contents; contents = M.passed o.contents 1 }

-- a run that goes on from records and lines before it
abbrev pub onto : List Record → ℕ → Run → Run
onto rs u r = record { state = r.state; records = rs ++ r.records; used = u + r.used; left = r.left }

onto-onto : (rs : List Record) (e : Record) (u n : ℕ) (r : Run) → onto rs u (onto (e ∷ []) n r) ≡ onto (rs ++ (e ∷ [])) (u + n) r
onto-onto rs e u n r =
    ap₂ (λ (x : List Record) (y : ℕ). record { state = r.state; records = x; used = y; left = r.left })
    (sym (append_assoc rs (e ∷ []) r.records)) (sym (add_assoc u n r.used))

remains_some : (n : ℕ) (t : Ticks) (c : Cut) (o : Option Share) → Measures n t c o → remains c ≡ one (is_some o)
remains_some n t short None q = refl
remains_some n t short (Some x) q = absurd q
remains_some n t (whole b l ls) None q = absurd q
remains_some n t (whole b l ls) (Some x) q = refl

module _ (M : Meaning) where
  -- one instruction more
  by_share : (room : ℕ) (s : Boundary) (ls : List ℕ) (x : Share) (c : Cut) → share M card pace s ls ≡ c → Good (pred (clocks_of s.context.fetched.ir)) ls c
      → Measures (clocks_of s.context.fetched.ir) s.context.ticks c (Some x)
      → leaps M card pace (suc room) s ls ≡ onto (record_of s.context x ∷ []) (x.before + 1) (leaps M card pace room (after_share M s x) (drop (x.before + 1) ls))
  unfolding instruction recorded ready_at
  by_share room s ls x short e g q = absurd q
  by_share room s ls x (whole b l left) e g q =
      let n : ℕ = clocks_of s.context.fetched.ir in
      let k : stalls b ≡ length b - (n - 1) = omega (arith, share-stalls g.0, owed_pred M card pace fits s.context.fetched.ir s.context.registers) in
      let d : left ≡ drop (length b + 1) ls =
      sym (ap (drop (length b + 1)) g.1 ∙ ap (λ (j : ℕ). drop j (b ++ (l ∷ left))) (add-one (length b)) ∙ drop_end b l left) in
      let written : ℕ → ℕ → Ticks → Record = λ count i t.
      record { address = s.context.fetched.pc; word = s.context.fetched.ir; clocks = count; stalls = i - (count - 1); acknowledged = one (acks (with_ticks s.context t)) } in
      let again : ℕ → ℕ → ℕ → ℕ → Ticks → List ℕ → Run = λ count i a z t r. onto (written count i t ∷ []) (i + 1) (leaps M card pace room (after_lines M s i a z t) r) in
      leaps_next M card pace room s ls b l left e
      ∙ ap₂ (λ (i : ℕ) (j : ℕ). record {
        state = (leaps M card pace room (instruction M card b l s) left).state;
        records =
            record {
              address = s.context.fetched.pc;
              word = s.context.fetched.ir;
              clocks = n;
              stalls = i;
              acknowledged = one (acks (before M card b s));
            }
            ∷ (leaps M card pace room (instruction M card b l s) left).records;
        used = j + (leaps M card pace room (instruction M card b l s) left).used;
        left = (leaps M card pace room (instruction M card b l s) left).left;
      }) k (sym (add-one (length b)))
      ∙ ap (again n (length b) (ahead b) l (noted_all b s.context.ticks)) d
      ∙ sym (λ j. again (q.clocks j) (q.before j) (q.in_front j) (q.last j) (q.ticks j) (drop (q.before j + 1) ls))
    where
      drop_end : (b : List ℕ) (l : ℕ) (left : List ℕ) → drop (suc (length b)) (b ++ (l ∷ left)) ≡ left
      drop_end [] l left = refl
      drop_end (x ∷ b) l left = drop_end b l left

  module _ (R : Run) (t : List Record) (room w u : ℕ) (s : Boundary) (ls : List ℕ) (inv : R ≡ onto (take w t) u (leaps M card pace (room - w) s ls)) where
    pub leap_again : (x : Share) → Measures (clocks_of s.context.fetched.ir) s.context.ticks (share M card pace s ls) (Some x) → w < room → w < length t
        → (let e : Record = record_of s.context x in
        R ≡ onto (take (w + 1) (set t w e)) (u + (x.before + 1)) (leaps M card pace (room - (w + 1)) (after_share M s x) (drop (x.before + 1) ls)))
    leap_again x q h i =
        let e : Record = record_of s.context x in
        let n : room - w ≡ suc (room - (w + 1)) = omega arith in
        inv
        ∙ ap (λ (j : ℕ). onto (take w t) u (leaps M card pace j s ls)) n
        ∙ ap (onto (take w t) u) (by_share (room - (w + 1)) s ls x (share M card pace s ls) refl (cut_good (pred (clocks_of s.context.fetched.ir)) ls) q)
        ∙ onto-onto (take w t) e u (x.before + 1) _
        ∙ ap (λ (r : List Record). onto r (u + (x.before + 1)) (leaps M card pace (room - (w + 1)) (after_share M s x) (drop (x.before + 1) ls))) (sym (take_more_set t w e i))

    abbrev stopped : Run
    stopped = record { state = s; records = take w t; used = u; left = ls }

    stop_onto : onto (take w t) u (stop s ls) ≡ stopped
    stop_onto = ap₂ (λ (x : List Record) (y : ℕ). record { state = s; records = x; used = y; left = ls }) (append-nil (take w t)) (add-zero u)

    no_share : (c : Cut) → share M card pace s ls ≡ c → Measures (clocks_of s.context.fetched.ir) s.context.ticks c None → (R ≡ stopped) × (remains c ≡ 0)
    no_share short e q = (inv ∙ ap (onto (take w t) u) (leaps_end M card pace (room - w) s ls e) ∙ stop_onto, refl)
    no_share (whole b l left) e q = absurd q

    no_room : w ≡ room → R ≡ stopped
    unfolding leaps
    no_room h =
        let z : room - w ≡ 0 = omega arith in
        inv ∙ ap (λ (j : ℕ). onto (take w t) u (leaps M card pace j s ls)) z ∙ stop_onto

    -- what a leap gives at its end
    pub record Leapt (t0 : List Record) (more : ℕ) : Type 0 where
      pub answer : (u, w, more) ≡ run_answer M R
      pub context : s.context ≡ R.state.context
      pub contents : s.contents ≡ R.state.contents
      pub trace : t ≡ overlaid R.records t0

    ended : (t0 : List Record) (more : ℕ) → (R ≡ stopped) × (remains (share M card pace s ls) ≡ more) → w ≤ length t → drop w t ≡ drop w t0 → Leapt t0 more
    ended t0 more e h d =
        let n : w ≡ length (take w t) = sym (length-take-le w t h) in
        record {
          answer = ap₂ (λ (i : ℕ) (j : ℕ). (u, i, j)) n (sym e.1) ∙ sym (ap (run_answer M) e.0);
          context = sym (ap (λ (r : Run). r.state.context) e.0);
          contents = sym (ap (λ (r : Run). r.state.contents) e.0);
          trace =
              sym (take-append-drop w t) ∙ ap (λ (r : List Record). take w t ++ r) d ∙ ap (λ (i : ℕ). take w t ++ drop i t0) n
              ∙ sym (ap (λ (r : Run). overlaid r.records t0) e.0);
        }

    pub leap_short : (t0 : List Record) → Measures (clocks_of s.context.fetched.ir) s.context.ticks (share M card pace s ls) None → w ≤ length t → drop w t ≡ drop w t0 → Leapt t0 0
    leap_short t0 q h d = ended t0 0 (no_share (share M card pace s ls) refl q) h d

    pub leap_full : (t0 : List Record) (o : Option Share) → Measures (clocks_of s.context.fetched.ir) s.context.ticks (share M card pace s ls) o → w ≡ room → w ≤ length t → drop w t ≡ drop w t0
        → Leapt t0 (one (is_some o))
    leap_full t0 o q f h d =
        ended t0 (one (is_some o)) (no_room f, remains_some (clocks_of s.context.fetched.ir) s.context.ticks (share M card pace s ls) o q) h d
