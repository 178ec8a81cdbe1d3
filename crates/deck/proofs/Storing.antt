-- What one row more leaves in words, registers and lines.
use Rattle.std.proofs.Common.{◌≡◌, ℕ, ◌+◌, ◌<◌, ◌≤◌, min, Bool, true, false, cond, leb, List, [], ◌∷◌, ◌++◌, length, take, drop, is_ok, IsOk, Ok, Err, Option, Result, sym, refl, ap, ◌∙◌, ap₂, add-one, arith, length-append, append_assoc}
use Rattle.std.proofs.lemmas.List.{take_at, drop_at, drop-drop}
use Rattle.std.proofs.lemmas.List.Sums.{fold_push}
use Rattle.std.proofs.lemmas.Bool.{false≢true, cond-true}
use Rattle.refusal.specs.declared.Refusal.{Refusal}
use Rattle.refusal.specs.Heard.{Told, told, outcome}
use Rattle.deck.specs.declared.rows.Deed.{Deed}
use Rattle.deck.specs.Rows.{refused_at, and_then, row_says}
use Rattle.deck.specs.Decks.{lines_of, all_lines, with_deed, room_for, first_deeds, counted}
use Rattle.deck.specs.Loaded.{word_of, register_of, placed, stored, words_after, registers_after, lines_after}
use Rattle.deck.proofs.Counting.{ok_same, ok_err, lines_more, count_more, tested, room_within, at_row, at_room, goes}

-- lines b, written to the front of what is free behind lines a
overlay : (a b ls now : List ℕ) (u : ℕ) → length a ≡ u → now ≡ a ++ drop (length a) ls →
    take u now ++ (b ++ drop (length b) (drop u now)) ≡ (a ++ b) ++ drop (length (a ++ b)) ls
overlay a b ls now u used is =
    let front : take u now ≡ a = ap (take u) is ∙ take_at a (drop (length a) ls) u used in
    let back : drop u now ≡ drop (length a) ls = ap (drop u) is ∙ drop_at a (drop (length a) ls) u used in
    let behind : drop (length (a ++ b)) ls ≡ drop (length b) (drop (length a) ls) = ap (λ (k : ℕ). drop k ls) (length-append a b) ∙ sym (drop-drop (length b) (length a) ls) in
    let joined = append_assoc a b (drop (length (a ++ b)) ls) in
    cc

-- the deeds of a row more, where its lines find room
pub record Grown (m k : ℕ) (d : Deed) (u : ℕ) (r : Result (List Deed) Told) (next : Result (List Deed) Told) : Type 0 where
  pub deeds : List Deed
  pub before : r ≡ Ok deeds
  pub after : next ≡ Ok (deeds ++ (d ∷ []))
  pub used : length (all_lines deeds) ≡ u

grown : (r : Result (List Deed) Told) (m k u v : ℕ) (d : Deed) → counted r ≡ Ok u → room_for m k u d ≡ Ok v → Grown m k d u r (and_then r (λ ds. with_deed m k ds d))
grown (Err e) m k u v d h g = absurd (ok_err u e (sym h))
grown (Ok ds) m k u v d h g =
    let same = ok_same _ u h in
    let size : length (all_lines (ds ++ (d ∷ []))) ≡ u + length (lines_of d) = count_more ds d ∙ ap (λ (n : ℕ). n + length (lines_of d)) same in
    let fits = (tested (leb (u + length (lines_of d)) (min m 65535)) (u + length (lines_of d)) v _ g).0 in
    record {
      deeds = ds;
      before = refl;
      after = cond-true _ _ _ (ap (λ (n : ℕ). leb n (min m 65535)) size ∙ fits);
      used = same;
    }

-- a fault in what leads to a deck without fault
no_fault : (r : Result (List Deed) Told) (e : Told) → is_ok r ≡ true → Err e ≡ counted r → ⊥
no_fault (Ok ds) e h g = ok_err _ e (sym g)
no_fault (Err e') e h g = false≢true h

module _ (bs : List ℕ) (w m : ℕ) where
  next_row : (k u v : ℕ) (d : Deed) → counted (first_deeds bs w m k) ≡ Ok u → Ok d ≡ row_says bs w k → room_for m k u d ≡ Ok v →
      Grown m k d u (first_deeds bs w m k) (first_deeds bs w m (k + 1))
  next_row k u v d h g t =
      let made = grown (first_deeds bs w m k) m k u v d h t in
      let same : first_deeds bs w m (k + 1) ≡ and_then (first_deeds bs w m k) (λ ds. with_deed m k ds d) =
      rw add-one (ap (λ (s : Result Deed Told). and_then (first_deeds bs w m k) (λ ds. and_then s (λ e. with_deed m k ds e))) (sym g)) in
      record { deeds = made.deeds; before = made.before; after = same ∙ made.after; used = made.used }

  -- in a deck without fault no row is refused
  pub has_deed : (n k u : ℕ) (r : Result Deed Refusal) (v : ℕ) → is_ok (first_deeds bs w m n) ≡ true → k < n → counted (first_deeds bs w m k) ≡ Ok u →
      outcome r ≡ row_says bs v k → v ≡ w → IsOk r
  has_deed n k u (Ok d) v ok lt h g e = refl
  has_deed n k u (Err e') v ok lt h g e =
      absurd (no_fault (first_deeds bs w m n) (told e') ok (at_row bs w m k u n (told e') h (g ∙ ap (λ (i : ℕ). row_says bs i k) e) lt))

  -- and each row's lines find room
  pub record Room (k u : ℕ) (d : Deed) : Type 0 where
    pub says : Ok d ≡ row_says bs w k
    pub room : room_for m k u d ≡ Ok (u + length (lines_of d))
    pub within : u + length (lines_of d) ≤ m

  pub has_room : (n k u : ℕ) (r : Result Deed Refusal) (d : Deed) (v : ℕ) → is_ok (first_deeds bs w m n) ≡ true → k < n → counted (first_deeds bs w m k) ≡ Ok u →
      outcome r ≡ row_says bs v k → v ≡ w → r ≡ Ok d → Room k u d
  has_room n k u r d v ok lt h g e is = by_test (leb (u + length (lines_of d)) (min m 65535)) refl
    where
      said : Ok d ≡ row_says bs w k
      said = sym (ap outcome is) ∙ (g ∙ ap (λ (i : ℕ). row_says bs i k) e)

      by_test : (t : Bool) → leb (u + length (lines_of d)) (min m 65535) ≡ t → Room k u d
      by_test true e =
          let room : room_for m k u d ≡ Ok (u + length (lines_of d)) = cond-true _ _ _ e in
          record { says = said; room = room; within = omega (arith, (room_within m k u d _ room).1) }
      by_test false e =
          let full : room_for m k u d ≡ refused_at 12 k = ap (λ (t : Bool). cond t (Ok (u + length (lines_of d))) (refused_at 12 k)) e in
          absurd (no_fault (first_deeds bs w m n) _ ok (at_room bs w m k u n d _ h said (sym full) lt))

  -- what one row more leaves
  module _ (k u : ℕ) (d : Deed) (h : counted (first_deeds bs w m k) ≡ Ok u) (row : Room k u d) where
    pub used_more : counted (first_deeds bs w m (k + 1)) ≡ Ok (u + length (lines_of d))
    used_more = goes bs w m k u d h row.says ∙ row.room

    grows : Grown m k d u (first_deeds bs w m k) (first_deeds bs w m (k + 1))
    grows = next_row k u _ d h row.says row.room

    stored_more : (after : Result (List Deed) Told → List ℕ → List ℕ) (write : Deed → Option (ℕ × ℕ)) (xs now new : List ℕ) →
        ((ds : List Deed) → after (Ok ds) xs ≡ stored write xs ds) → now ≡ after (first_deeds bs w m k) xs → new ≡ placed now (write d) → new ≡ after (first_deeds bs w m (k + 1)) xs
    stored_more after write xs now new is before written =
        written
        ∙ (ap (λ (ys : List ℕ). placed ys (write d)) (before ∙ (ap (λ (r : Result (List Deed) Told). after r xs) grows.before ∙ is grows.deeds))
        ∙ (sym (fold_push (λ ys e. placed ys (write e)) xs grows.deeds d)
        ∙ (sym (is (grows.deeds ++ (d ∷ []))) ∙ sym (ap (λ (r : Result (List Deed) Told). after r xs) grows.after))))

    pub words_more : (xs now new : List ℕ) → now ≡ words_after (first_deeds bs w m k) xs → new ≡ placed now (word_of d) → new ≡ words_after (first_deeds bs w m (k + 1)) xs
    words_more xs now new = stored_more words_after word_of xs now new (λ ds. refl)

    pub registers_more : (xs now new : List ℕ) → now ≡ registers_after (first_deeds bs w m k) xs → new ≡ placed now (register_of d) →
        new ≡ registers_after (first_deeds bs w m (k + 1)) xs
    registers_more xs now new = stored_more registers_after register_of xs now new (λ ds. refl)

    pub lines_written : (xs now front free : List ℕ) → now ≡ lines_after (first_deeds bs w m k) xs → front ≡ take u now →
        free ≡ lines_of d ++ drop (length (lines_of d)) (drop u now) → front ++ free ≡ lines_after (first_deeds bs w m (k + 1)) xs
    lines_written xs now front free before own written =
        ap₂ (λ (a b : List ℕ). a ++ b) own written
        ∙ (overlay (all_lines grows.deeds) (lines_of d) xs now u grows.used (before ∙ ap (λ (r : Result (List Deed) Told). lines_after r xs) grows.before)
        ∙ (ap (λ (l : List ℕ). l ++ drop (length l) xs) (sym (lines_more grows.deeds d)) ∙ sym (ap (λ (r : Result (List Deed) Told). lines_after r xs) grows.after)))
