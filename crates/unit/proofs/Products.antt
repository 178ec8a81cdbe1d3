-- What the multiplier gives after its 32 steps.
use Rattle.std.proofs.Common.{◌≡◌, ℕ, zero, suc, ◌+◌, ◌-◌, ◌*◌, ◌%◌, ◌^◌, ◌<◌, ◌≤◌, Bool, true, false, cond, not, ◌&&◌, T, eqb, ltb, ℤ, pos, negsuc, ◌+ℤ◌, ◌*ℤ◌, neg_ℤ, sym, refl, ap, ◌∙◌, subst, mul_comm, add-mul, mul-add, arith, ltb→lt, nltb→le, w32, to_z}
use Rattle.std.specs.Int.Signed.{shr_z}
use mir.Val.{sel}
use Rattle.std.proofs.lemmas.Int.{ints}
use borrow.Author.Differences.{up, down, sum_is_lem, product_is, neg_is, same_in}
use Rattle.std.proofs.lemmas.Bool.Decides.{nat_tests}
use Rattle.unit.specs.declared.Pair.{Pair}
use Rattle.unit.specs.declared.Factors.{Factors}
use Rattle.unit.specs.After.{after}
use Rattle.unit.specs.Steps.{total, word, read, addend, add_shift, mul_start, mul_step, mul_answer}
use Rattle.unit.specs.Exact.{value, words_of, ProductIsExact, ProductWords}
use Rattle.unit.proofs.Ints.{half_is}
use Rattle.unit.proofs.AddShift.{add_and_shift}

-- s is x - y
signed_sum : (z s : ℤ) (x y : ℕ) → up s + y ≡ down s + x → z *ℤ pos x +ℤ neg_ℤ z *ℤ pos y ≡ s *ℤ z
signed_sum z s x y e =
    let u = simp add-mul at (ap (λ (k : ℕ). k * up z) e) in
    let d = simp add-mul at (ap (λ (k : ℕ). k * down z) e) in
    let nu : up (neg_ℤ z) * y ≡ down z * y = ap (λ (k : ℕ). k * y) (neg_is z).0 in
    let nd : down (neg_ℤ z) * y ≡ up z * y = ap (λ (k : ℕ). k * y) (neg_is z).1 in
    same_in _ _ (omega (arith, u, d, nu, nd, sum_is_lem (z *ℤ pos x) (neg_ℤ z *ℤ pos y), product_is z (pos x), product_is (neg_ℤ z) (pos y), product_is s z, mul_comm x (up z), mul_comm x (down z), mul_comm y (up z), mul_comm y (down z)))

word_sides : (l : ℕ) → l < 2 ^ 32 → (t : Bool) → ltb l (2 ^ 31) ≡ t → up (sel t (pos l) (negsuc (2 ^ 32 - suc l))) + (l - l % 2 ^ 31) ≡ down (sel t (pos l) (negsuc (2 ^ 32 - suc l))) + l % 2 ^ 31
word_sides l h true e = let k : l < 2 ^ 31 = ltb→lt l (2 ^ 31) (subst T (sym e) tt) in omega arith
word_sides l h false e = let k : 2 ^ 31 ≤ l = nltb→le l (2 ^ 31) (subst (λ (t : Bool). T (not t)) (sym e) tt) in omega arith

by_sign : (signed : Bool) (l n : ℕ) → l < 2 ^ 32 → read signed n *ℤ pos (l % 2 ^ 31) +ℤ cond (signed && true) (neg_ℤ (read signed n)) (read signed n) *ℤ pos (l - l % 2 ^ 31) ≡ read signed l *ℤ read signed n
by_sign true l n h = signed_sum (to_z w32 n) (to_z w32 l) (l % 2 ^ 31) (l - l % 2 ^ 31) (word_sides l h (ltb l (2 ^ 31)) refl)
by_sign false l n h =
    let e : l % 2 ^ 31 + (l - l % 2 ^ 31) ≡ l = omega arith in
    ap pos (sym (mul-add n (l % 2 ^ 31) (l - l % 2 ^ 31)) ∙ ap (λ (k : ℕ). n * k) e ∙ mul_comm n l)

plain_before : (signed : Bool) (s : ℕ) (z : ℤ) → s < 31 → cond (signed && eqb s 31) (neg_ℤ z) z ≡ z
plain_before true s z h = let e : eqb s 31 ≡ false = grind (arith, nat_tests) in rw e
plain_before false s z h = refl

pub product_is_exact : ProductIsExact
product_is_exact f h =
    add_and_shift 31 (read f.signed f.second) (addend f) f.first (λ s lt. plain_before f.signed s (read f.signed f.second) lt) h ∙ by_sign f.signed f.first f.second h

low_step : (n : ℤ) (p : Pair) → p.low < 2 ^ 32 → (add_shift 32 n p).low < 2 ^ 32
low_step n p h = omega (arith, half_is (total n p))

low_fits : (f : Factors) (k : ℕ) → f.first < 2 ^ 32 → (after (mul_step f) (mul_start f) k).low < 2 ^ 32
unfolding after
low_fits f zero h = h
low_fits f (suc k) h = low_step (addend f k) (after (mul_step f) (mul_start f) k) (low_fits f k h)

-- the words of h × 2^32 + l
value_words : (h : ℤ) (l : ℕ) → l < 2 ^ 32 → (word (h *ℤ pos (2 ^ 32) +ℤ pos l) ≡ l) × (shr_z (h *ℤ pos (2 ^ 32) +ℤ pos l) (2 ^ 32) ≡ h)
value_words (pos a) l lt = (omega arith, ap pos (omega arith))
value_words (negsuc a) l lt =
    let e : negsuc a *ℤ pos (2 ^ 32) +ℤ pos l ≡ negsuc (a * 2 ^ 32 + (2 ^ 32 - 1 - l)) = omega (arith, ints) in
    rw e (omega arith, ap negsuc (omega arith))

answer_words : (f : Factors) (p : Pair) → p.low < 2 ^ 32 → mul_answer f p ≡ words_of (value 32 p)
answer_words f p h = let w = value_words p.high p.low h in rw (w.0, w.1)

pub product_words : ProductWords
product_words f h = answer_words f (after (mul_step f) (mul_start f) 32) (low_fits f 32 h) ∙ ap words_of (product_is_exact f h)
