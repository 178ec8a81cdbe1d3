-- The lines of an accepted deck are never refused: each is at most 3, and there are at most 65,535 of them.
use Rattle.std.proofs.Common.{◌≡◌, ℕ, zero, suc, ◌+◌, ◌<◌, ◌≤◌, min, Bool, true, false, cond, eqb, ltb, leb, List, [], ◌∷◌, ◌++◌, length, replicate, None, Ok, Err, Result, sym, refl, ap, ◌∙◌, subst, arith, ltb-true, le-ltb}
use Rattle.std.proofs.lemmas.Bool.{leb-true, cond-true, cond-false}
use Rattle.std.proofs.lemmas.Bool.Decides.{nat_tests}
use Rattle.refusal.specs.Heard.{Told}
use Rattle.machine.specs.Histories.{first_over, lines_refused, or_inside, leap_refused}
use Rattle.deck.specs.declared.rows.Deed.{Deed}
use Rattle.deck.specs.declared.rows.Deed.TheVariants.{Adds}
use Rattle.deck.specs.declared.rows.Field.{Field}
use Rattle.deck.specs.Rows.{refused_at, and_then, whole, row_count, column, within, first_field, second_field, numbers, deed_of, row_says}
use Rattle.deck.specs.Decks.{lines_of, all_lines, with_deed, first_deeds, deck_says}
use Rattle.deck.proofs.Counting.{lines_more}

-- no line is over 3
abbrev Low : List ℕ → Type 0
Low ls = first_over ls ≡ length ls

low_more : (x : ℕ) (xs : List ℕ) → leb x 3 ≡ true → Low xs → Low (x ∷ xs)
low_more x xs t h = cond-true _ _ _ t ∙ omega (arith, h)

low_first : (x : ℕ) (xs : List ℕ) → (t : Bool) → leb x 3 ≡ t → Low (x ∷ xs) → (leb x 3 ≡ true) × Low xs
low_first x xs true e h = (e, omega (arith, sym (cond-true (leb x 3) (1 + first_over xs) 0 e) ∙ h))
low_first x xs false e h = let z : 0 ≡ suc (length xs) = sym (cond-false (leb x 3) (1 + first_over xs) 0 e) ∙ h in absurd (omega arith)

low-append : (xs ys : List ℕ) → Low xs → Low ys → Low (xs ++ ys)
low-append [] ys h g = g
low-append (x ∷ xs) ys h g = let f = low_first x xs (leb x 3) refl h in low_more x (xs ++ ys) f.0 (low-append xs ys f.1 g)

low-replicate : (n x : ℕ) → x < 4 → Low (replicate n x)
low-replicate zero x lt = refl
low-replicate (suc n) x lt = low_more x (replicate n x) (grind (arith, nat_tests)) (low-replicate n x lt)

-- ---- a row that says so

abbrev LowBy : Result Deed Told → Type 0
LowBy (Ok d) = Low (lines_of d)
LowBy (Err e) = Unit {0}

low-cond : (t : Bool) (r s : Result Deed Told) → LowBy r → LowBy s → LowBy (cond t r s)
low-cond true r s h g = h
low-cond false r s h g = g

-- what holds of the value, if there is one
abbrev If : {A : Type 0} → (A → Type 0) → Result A Told → Type 0
If P (Ok x) = P x
If P (Err e) = Unit {0}

if_then : {A B : Type 0} (P : B → Type 0) (r : Result A Told) (f : A → Result B Told) → ((x : A) → If P (f x)) → If P (and_then r f)
if_then P (Ok x) f h = h x
if_then P (Err e) f h = tt

if_both : {A B : Type 0} (Q : A → Type 0) (P : B → Type 0) (r : Result A Told) (f : A → Result B Told) → If Q r → ((x : A) → Q x → If P (f x)) → If P (and_then r f)
if_both Q P (Ok x) f q h = h x q
if_both Q P (Err e) f q h = tt

if_within : (bound : ℕ) (f : Field) → If (λ n. n < bound) (within bound f)
if_within bound f = by (ltb f.number bound) refl
  where
    by : (t : Bool) → ltb f.number bound ≡ t → If (λ n. n < bound) (cond t (Ok f.number) (refused_at 11 f.row))
    by true e = ltb-true _ _ e
    by false e = tt

if_numbers : (bs : List ℕ) (row p q : ℕ) → If (λ (n : ℕ × ℕ). n.0 < p) (numbers bs row p q)
if_numbers bs row p q =
    if_then _ (first_field bs row) _ (λ a. if_then _ (second_field bs row) _ (λ b.
    if_both (λ (n : ℕ). n < p) _ (within p a) _ (if_within p a) (λ x lt. if_then _ (within q b) _ (λ y. lt))))

low_deed : (deed : ℕ → ℕ → Deed) (r : Result (ℕ × ℕ) Told) (P : ℕ × ℕ → Type 0) → If P r → ((n : ℕ × ℕ) → P n → Low (lines_of (deed n.0 n.1))) → LowBy (deed_of deed r)
low_deed deed (Ok n) P h g = g n h
low_deed deed (Err e) P h g = tt

low_row : (bs : List ℕ) (words row : ℕ) → LowBy (row_says bs words row)
low_row bs words row =
    let c = column bs row 0 in
    low-cond (eqb (column bs row 19) 10) _ _
    (low-cond (eqb c 87) _ _ (low_deed _ (numbers bs row words 4294967296) _ (if_numbers bs row words 4294967296) (λ n h. refl))
    (low-cond (eqb c 82) _ _ (low_deed _ (numbers bs row 16 4294967296) _ (if_numbers bs row 16 4294967296) (λ n h. refl))
    (low-cond (eqb c 76) _ _ (low_deed Adds (numbers bs row 4 65536) _ (if_numbers bs row 4 65536) (λ n h. low-replicate n.1 n.0 h))
    tt)))
    tt

-- ---- all rows

abbrev Fine : List Deed → Type 0
Fine ds = Low (all_lines ds) × (length (all_lines ds) ≤ 65535)

fine_test : (t : Bool) (ds : List Deed) (m : ℕ) (e : Told) → leb (length (all_lines ds)) (min m 65535) ≡ t → Low (all_lines ds) → If Fine (cond t (Ok ds) (Err e))
fine_test true ds m e is h = (h, omega (arith, leb-true _ _ is))
fine_test false ds m e is h = tt

fine_more : (m k : ℕ) (r : Result (List Deed) Told) (s : Result Deed Told) → If Fine r → LowBy s → If Fine (and_then r (λ ds. and_then s (λ d. with_deed m k ds d)))
fine_more m k (Err e) s h g = tt
fine_more m k (Ok ds) (Err e) h g = tt
fine_more m k (Ok ds) (Ok d) h g =
    fine_test (leb (length (all_lines (ds ++ (d ∷ [])))) (min m 65535)) (ds ++ (d ∷ [])) m _ refl
    (subst Low (sym (lines_more ds d)) (low-append (all_lines ds) (lines_of d) h.0 g))

fine_first : (bs : List ℕ) (words room n : ℕ) → If Fine (first_deeds bs words room n)
fine_first bs words room zero = (refl, omega arith)
fine_first bs words room (suc n) = fine_more room n (first_deeds bs words room n) (row_says bs words n) (fine_first bs words room n) (low_row bs words n)

fine_deck : (t : Bool) (r : Result (List Deed) Told) (e : Told) → If Fine r → If Fine (cond t r (Err e))
fine_deck true r e h = h
fine_deck false r e h = tt

fine : (bs : List ℕ) (words room : ℕ) (ds : List Deed) → deck_says bs words room ≡ Ok ds → Fine ds
fine bs words room ds e = subst (If Fine) e (fine_deck (whole bs) _ _ (fine_first bs words room (row_count bs)))

fine_lines : (ls : List ℕ) → Low ls → length ls ≤ 65535 → lines_refused ls ≡ None
unfolding lines_refused
fine_lines ls h le =
    let all : length ls ≤ first_over ls = omega (arith, h) in
    cond-false _ _ _ (le-ltb 65535 (length ls) le) ∙ cond-false _ _ _ (le-ltb (first_over ls) (length ls) all)

pub not_refused : (bs : List ℕ) (words room : ℕ) (ds : List Deed) → deck_says bs words room ≡ Ok ds → leap_refused (all_lines ds) 0 ≡ None
unfolding leap_refused
not_refused bs words room ds e = let f = fine bs words room ds e in ap (or_inside 0) (fine_lines (all_lines ds) f.0 f.1)
