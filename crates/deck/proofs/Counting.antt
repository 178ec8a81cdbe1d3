-- How many lines a deck's first rows add, from those of one row less.
use Rattle.std.proofs.Common.{◌≡◌, ℕ, zero, suc, ◌+◌, ◌-◌, ◌<◌, ◌≤◌, min, Bool, true, false, cond, leb, List, [], ◌∷◌, ◌++◌, length, Ok, Err, Result, sym, refl, ap, ◌∙◌, add-zero, add-suc, add-one, arith, length-append}
use Rattle.std.proofs.lemmas.List.{flat_map_more}
use Rattle.std.proofs.lemmas.Bool.{leb-true}
use Rattle.refusal.specs.Heard.{Told}
use Rattle.deck.specs.declared.rows.Deed.{Deed}
use Rattle.deck.specs.Rows.{refused_at, and_then, row_says}
use Rattle.deck.specs.Decks.{lines_of, all_lines, with_deed, room_for, first_deeds, counted}

pub ok_same : {A : Type 0} (x y : A) → ◌≡◌ {A = Result A Told} (Ok x) (Ok y) → x ≡ y
ok_same x y e = cc

pub ok_err : {A : Type 0} (x : A) (e : Told) → ◌≡◌ {A = Result A Told} (Ok x) (Err e) → ⊥
ok_err x e h = let z : ◌≡◌ {A = ℕ} 0 1 = cc in omega arith

-- the lines of deeds with one more
pub lines_more : (ds : List Deed) (d : Deed) → all_lines (ds ++ (d ∷ [])) ≡ all_lines ds ++ lines_of d
lines_more ds d = sym (flat_map_more lines_of [] ds d)

pub count_more : (ds : List Deed) (d : Deed) → length (all_lines (ds ++ (d ∷ []))) ≡ length (all_lines ds) + length (lines_of d)
count_more ds d = ap length (lines_more ds d) ∙ length-append (all_lines ds) (lines_of d)

counted_test : (t : Bool) (ds : List Deed) (e : Told) → counted (cond t (Ok ds) (Err e)) ≡ cond t (Ok (length (all_lines ds))) (Err e)
counted_test true ds e = refl
counted_test false ds e = refl

counted_step : (r : Result (List Deed) Told) (s : Result Deed Told) (m k used : ℕ) → counted r ≡ Ok used →
    counted (and_then r (λ ds. and_then s (λ d. with_deed m k ds d))) ≡ and_then s (λ d. room_for m k used d)
counted_step (Err e) s m k used h = absurd (ok_err used e (sym h))
counted_step (Ok ds) (Err e) m k used h = refl
counted_step (Ok ds) (Ok d) m k used h =
    counted_test (leb (length (all_lines (ds ++ (d ∷ [])))) (min m 65535)) (ds ++ (d ∷ [])) _
    ∙ ap (λ (n : ℕ). cond (leb n (min m 65535)) (Ok n) (refused_at 12 k)) (count_more ds d ∙ ap (λ (n : ℕ). n + length (lines_of d)) (ok_same _ used h))

-- an answer that was given under a test
pub tested : {A : Type 0} (t : Bool) (x y : A) (e : Told) → cond t (Ok x) (Err e) ≡ Ok y → (t ≡ true) × (x ≡ y)
tested true x y e h = (refl, ok_same x y h)
tested false x y e h = absurd (ok_err y e (sym h))

-- lines that find room are at most what there is room for
pub room_within : (m k u : ℕ) (d : Deed) (v : ℕ) → room_for m k u d ≡ Ok v → (u + length (lines_of d) ≡ v) × (v ≤ min m 65535)
room_within m k u d v h =
    let t = tested (leb (u + length (lines_of d)) (min m 65535)) (u + length (lines_of d)) v _ h in
    (t.1, omega (arith, t.1, leb-true _ _ t.0))

module _ (bs : List ℕ) (w m : ℕ) where
  pub more : (k u : ℕ) → counted (first_deeds bs w m k) ≡ Ok u → counted (first_deeds bs w m (k + 1)) ≡ and_then (row_says bs w k) (λ d. room_for m k u d)
  more k u h = rw (add-one k) (counted_step (first_deeds bs w m k) (row_says bs w k) m k u h)

  refused_step : (r : Result (List Deed) Told) (e : Told) (f : List Deed → Result (List Deed) Told) → counted r ≡ Err e → counted (and_then r f) ≡ Err e
  refused_step (Ok ds) e f h = absurd (ok_err _ e h)
  refused_step (Err e') e f h = h

  stays_by : (k d : ℕ) (e : Told) → counted (first_deeds bs w m k) ≡ Err e → counted (first_deeds bs w m (k + d)) ≡ Err e
  stays_by k zero e h = rw add-zero h
  stays_by k (suc d) e h = rw add-suc (refused_step (first_deeds bs w m (k + d)) e _ (stays_by k d e h))

  -- a refusal stays, whatever rows follow
  pub stays : (k n : ℕ) (e : Told) → k < n → counted (first_deeds bs w m (k + 1)) ≡ Err e → counted (first_deeds bs w m n) ≡ Err e
  stays k n e lt h =
      let same : (k + 1) + (n - (k + 1)) ≡ n = omega arith in
      rw same at (stays_by (k + 1) (n - (k + 1)) e h)

  pub at_row : (k u n : ℕ) (e : Told) → counted (first_deeds bs w m k) ≡ Ok u → Err e ≡ row_says bs w k → k < n → Err e ≡ counted (first_deeds bs w m n)
  at_row k u n e h g lt = sym (stays k n e lt (more k u h ∙ ap (λ (s : Result Deed Told). and_then s (λ d. room_for m k u d)) (sym g)))

  pub goes : (k u : ℕ) (d : Deed) → counted (first_deeds bs w m k) ≡ Ok u → Ok d ≡ row_says bs w k → counted (first_deeds bs w m (k + 1)) ≡ room_for m k u d
  goes k u d h g = more k u h ∙ ap (λ (s : Result Deed Told). and_then s (λ d. room_for m k u d)) (sym g)

  pub at_room : (k u n : ℕ) (d : Deed) (e : Told) → counted (first_deeds bs w m k) ≡ Ok u → Ok d ≡ row_says bs w k → Err e ≡ room_for m k u d → k < n →
      Err e ≡ counted (first_deeds bs w m n)
  at_room k u n d e h g t lt = sym (stays k n e lt (goes k u d h g ∙ sym t))

  pub goes_on : (k u v : ℕ) (d : Deed) → counted (first_deeds bs w m k) ≡ Ok u → Ok d ≡ row_says bs w k → Ok v ≡ room_for m k u d →
      (counted (first_deeds bs w m (k + 1)) ≡ Ok v) × (v ≤ 65535)
  goes_on k u v d h g t = (goes k u d h g ∙ sym t, omega (arith, (room_within m k u d v (sym t)).1))
