-- The deeds of a deck are those of its rows in order, and a refusal is told at the first faulty row.
use Rattle.std.proofs.Common.{◌≡◌, ℕ, zero, suc, ◌+◌, ◌<◌, min, Bool, true, false, cond, eqb, ltb, leb, List, [], ◌∷◌, ◌++◌, length, get_or, is_ok, Some, None, Ok, Err, Option, Result, sym, refl, ap, ◌∙◌, subst, inl, inr, add-one, arith}
use Rattle.std.proofs.lemmas.List.{get_or_append_left, get_or_push, length_push}
use Rattle.std.proofs.lemmas.Bool.{cases_lt, cond-true}
use Rattle.refusal.specs.Heard.{Told}
use Rattle.deck.specs.declared.rows.Field.{Field}
use Rattle.deck.specs.declared.rows.Deed.{Deed}
use Rattle.deck.specs.Field.{parse}
use Rattle.deck.specs.Rows.{refused_at, and_then, whole, row_count, column, columns, field_of, numbers, deed_of, row_says}
use Rattle.deck.specs.Decks.{all_lines, with_deed, first_deeds}
use Rattle.deck.specs.Law.{InOrder, FirstFault}
use Rattle.deck.proofs.Counting.{ok_same, ok_err, tested}

-- deeds that were reached by one row more
record Reached (m k : ℕ) (r : Result (List Deed) Told) (s : Result Deed Told) (ds : List Deed) : Type 0 where
  before : List Deed
  deed : Deed
  was : r ≡ Ok before
  said : s ≡ Ok deed
  now : before ++ (deed ∷ []) ≡ ds

err_same : (d e : Told) → ◌≡◌ {A = Result (List Deed) Told} (Err d) (Err e) → d ≡ e
err_same d e h = cc

reached : (m k : ℕ) (r : Result (List Deed) Told) (s : Result Deed Told) (ds : List Deed) → and_then r (λ es. and_then s (λ d. with_deed m k es d)) ≡ Ok ds → Reached m k r s ds
reached m k (Err e) s ds h = absurd (ok_err ds e (sym h))
reached m k (Ok es) (Err e) ds h = absurd (ok_err ds e (sym h))
reached m k (Ok es) (Ok d) ds h = record { before = es; deed = d; was = refl; said = refl; now = (tested (leb (length (all_lines (es ++ (d ∷ [])))) (min m 65535)) _ ds _ h).1 }

-- a refusal of the row, and no other
abbrev AtRow : {A : Type 0} → ℕ → Result A Told → Type 0
AtRow k (Ok x) = Unit {0}
AtRow k (Err e) = e.place ≡ k

at_test : {A : Type 0} (t : Bool) (x : A) (k n : ℕ) → AtRow k (cond t (Ok x) (refused_at n k))
at_test true x k n = tt
at_test false x k n = refl

at_then : {A B : Type 0} (k : ℕ) (r : Result A Told) (f : A → Result B Told) → AtRow k r → ((x : A) → AtRow k (f x)) → AtRow k (and_then r f)
at_then k (Ok x) f h g = g x
at_then k (Err e) f h g = h

at_cond : {A : Type 0} (k : ℕ) (t : Bool) (x y : Result A Told) → AtRow k x → AtRow k y → AtRow k (cond t x y)
at_cond k true x y h g = h
at_cond k false x y h g = g

-- a field read in a row is refused there, and so is its bound
at_field : {A : Type 0} (k : ℕ) (o : Option ℕ) (f : Field → Result A Told) → ((n : ℕ) → AtRow k (f (record { row = k; number = n }))) → AtRow k (and_then (field_of k o) f)
at_field k None f h = refl
at_field k (Some n) f h = h n

module _ (bs : List ℕ) (w : ℕ) where
  at_numbers : (k p q : ℕ) → AtRow k (numbers bs k p q)
  at_numbers k p q =
      at_field k (parse (columns bs k 1 8)) _
      (λ a. at_field k (parse (columns bs k 9 10)) _ (λ b. at_then k _ _ (at_test (ltb a p) a k 11) (λ x. at_then k _ _ (at_test (ltb b q) b k 11) (λ y. tt))))

  at_deed : (deed : ℕ → ℕ → Deed) (k p q : ℕ) → AtRow k (deed_of deed (numbers bs k p q))
  at_deed deed k p q = at_then k (numbers bs k p q) _ (at_numbers k p q) (λ x. tt)

  at_says : (k : ℕ) → AtRow k (row_says bs w k)
  at_says k =
      let c = column bs k 0 in
      at_cond k (eqb (column bs k 19) 10) _ _
      (at_cond k (eqb c 87) _ _ (at_deed _ k w 4294967296) (at_cond k (eqb c 82) _ _ (at_deed _ k 16 4294967296) (at_cond k (eqb c 76) _ _ (at_deed _ k 4 65536) refl)))
      refl

  ordered : (m n : ℕ) (ds : List Deed) → first_deeds bs w m n ≡ Ok ds → (length ds ≡ n) × ((k : ℕ) (other : Deed) → k < n → row_says bs w k ≡ Ok (get_or ds k other))
  ordered m zero ds h = (sym (ap length (ok_same _ ds h)), λ k other lt. absurd (omega arith))
  ordered m (suc n) ds h =
      let r = reached m n (first_deeds bs w m n) (row_says bs w n) ds h in
      let sofar = ordered m n r.before r.was in
      let size = length_push r.before r.deed in (
        sym (ap length r.now) ∙ omega arith,
        λ k other lt.
            elim (cases_lt k n) [
              | inl less ↦
                  let place : k < length r.before = omega (arith, sofar.0) in
                  sofar.1 k other less ∙ ap (λ (d : Deed). Ok d) (sym (get_or_append_left r.before (r.deed ∷ []) other k place) ∙ ap (λ (l : List Deed). get_or l k other) r.now)
              | inr same ↦
                  let last : n ≡ k = omega arith in
                  ap (row_says bs w) (sym last) ∙ (r.said ∙ ap (λ (d : Deed). Ok d) (sym (get_or_push r.before r.deed other k (sofar.0 ∙ last)) ∙ ap (λ (l : List Deed). get_or l k other) r.now))
            ],
      )

  -- where the first rows are refused, it is at one of them, and those before it are accepted
  abbrev ToldFirst : ℕ → ℕ → Told → Type 0
  ToldFirst m n e = (e.place < n) × (is_ok (first_deeds bs w m e.place) ≡ true) × (first_deeds bs w m (e.place + 1) ≡ Err e)

  at_once : (m n : ℕ) (s : Result Deed Told) (es : List Deed) (e : Told) → AtRow n s → and_then s (λ d. with_deed m n es d) ≡ Err e → e.place ≡ n
  at_once m n s es e h g = subst (λ (r : Result (List Deed) Told). AtRow n r) g (at_then n s _ h (λ d. at_test (leb (length (all_lines (es ++ (d ∷ [])))) (min m 65535)) _ n 12))

  first : (m n : ℕ) (r : Result (List Deed) Told) (e : Told) → first_deeds bs w m n ≡ r → and_then r (λ es. and_then (row_says bs w n) (λ d. with_deed m n es d)) ≡ Err e →
      ((e' : Told) → r ≡ Err e' → ToldFirst m n e') → ToldFirst m (suc n) e
  first m n (Err e') e is h before =
      let found = before e' refl in
      subst (ToldFirst m (suc n)) (err_same e' e h) (omega (arith, found.0), found.1, found.2)
  first m n (Ok es) e is h before =
      let here = at_once m n (row_says bs w n) es e (at_says n) h in
      let step : Result (List Deed) Told → Result (List Deed) Told = λ r. and_then r (λ fs. and_then (row_says bs w n) (λ d. with_deed m n fs d)) in (
        omega (arith, here),
        ap (λ (k : ℕ). is_ok (first_deeds bs w m k)) here ∙ ap (λ (r : Result (List Deed) Told). is_ok r) is,
        ap (λ (k : ℕ). first_deeds bs w m (k + 1)) here ∙ (ap (first_deeds bs w m) (add-one n) ∙ (ap step is ∙ h)),
      )

  faulty : (m n : ℕ) (e : Told) → first_deeds bs w m n ≡ Err e → ToldFirst m n e
  faulty m zero e h = absurd (ok_err _ e h)
  faulty m (suc n) e h = first m n (first_deeds bs w m n) e refl h (λ e' was. faulty m n e' was)

accepted : (t : Bool) (r : Result (List Deed) Told) (e : Told) (ds : List Deed) → cond t r (Err e) ≡ Ok ds → r ≡ Ok ds
accepted true r e ds h = h
accepted false r e ds h = absurd (ok_err ds e (sym h))

pub in_order : InOrder
in_order bs words room ds h = ordered bs words room (row_count bs) ds (accepted (whole bs) _ _ ds h)

pub first_fault : FirstFault
first_fault bs words room e all h =
    let found = faulty bs words room (row_count bs) e (sym (cond-true _ _ _ all) ∙ h) in
    record { inside = found.0; before = found.1; here = found.2 }
