-- Scanning for a share, line by line.
use Rattle.std.proofs.Common.{◌≡◌, ℕ, zero, suc, ◌+◌, ◌-◌, ◌<◌, ◌≤◌, Bool, true, false, List, [], ◌∷◌, ◌++◌, length, get_or, take, drop, Some, None, sym, refl, ap, ◌∙◌, subst, append_assoc, append-nil, not-suc-le-zero, arith}
use Rattle.std.proofs.lemmas.List.{take_more, drop_more, drop_all, length-take-le}
use Rattle.std.proofs.lemmas.List.Sums.{fold_more}
use Rattle.machine.specs.declared.Ticks.{Ticks}
use Rattle.machine.specs.Lines.{stalled, noted, noted_all}
use Rattle.machine.specs.Shares.{Cut, short, whole, behind, last_by, fewer, cut_after, ahead, ahead_by}
use Rattle.cpu.specs.declared.share.Share.{Share}
use Rattle.cpu.specs.Measures.{Measures}

-- a cut of the lines left, seen from the start
abbrev pub past : List ℕ → Cut → Cut
past xs short = short
past xs (whole b l ls) = whole (xs ++ b) l ls

pub past_none : (c : Cut) → c ≡ past [] c
past_none short = refl
past_none (whole b l ls) = refl

past_behind : (xs : List ℕ) (x : ℕ) (c : Cut) → past xs (behind x c) ≡ past (xs ++ (x ∷ [])) c
past_behind xs x short = refl
past_behind xs x (whole b l ls) = ap (λ (r : List ℕ). whole r l ls) (sym (append_assoc xs (x ∷ []) b))

cut_wait : (k x : ℕ) (r : List ℕ) → stalled x ≡ true → cut_after k (x ∷ r) ≡ behind x (cut_after k r)
unfolding cut_after
cut_wait zero x r e = ap (λ (t : Bool). last_by t x r (cut_after zero r)) e
cut_wait (suc k) x r e = ap (λ (t : Bool). behind x (cut_after (fewer t k) r)) e

cut_work : (k x : ℕ) (r : List ℕ) → stalled x ≡ false → 0 < k → cut_after k (x ∷ r) ≡ behind x (cut_after (k - 1) r)
unfolding cut_after
cut_work zero x r e p = absurd (not-suc-le-zero p)
cut_work (suc k) x r e p =
    let n : k ≡ suc k - 1 = omega arith in
    ap (λ (t : Bool). behind x (cut_after (fewer t k) r)) e ∙ ap (λ (j : ℕ). behind x (cut_after j r)) n

cut_last : (k x : ℕ) (r : List ℕ) → stalled x ≡ false → k ≡ 0 → cut_after k (x ∷ r) ≡ whole [] x r
unfolding cut_after
cut_last k x r e p = ap (λ (j : ℕ). cut_after j (x ∷ r)) p ∙ ap (λ (t : Bool). last_by t x r (cut_after zero r)) e

module _ (z : Cut) (ls : List ℕ) (i k : ℕ) (inv : z ≡ past (take i ls) (cut_after k (drop i ls))) where
  next : i < length ls → z ≡ past (take i ls) (cut_after k (get_or ls i 0 ∷ drop (i + 1) ls))
  next h = inv ∙ ap (λ (r : List ℕ). past (take i ls) (cut_after k r)) (drop_more ls i 0 h)

  on : (c : Cut) → i < length ls → past (take i ls) (behind (get_or ls i 0) c) ≡ past (take (i + 1) ls) c
  on c h = past_behind (take i ls) (get_or ls i 0) c ∙ ap (λ (r : List ℕ). past r c) (sym (take_more ls i 0 h))

  pub scan_wait : i < length ls → stalled (get_or ls i 0) ≡ true → z ≡ past (take (i + 1) ls) (cut_after k (drop (i + 1) ls))
  scan_wait h e = next h ∙ ap (past (take i ls)) (cut_wait k _ _ e) ∙ on _ h

  pub scan_work : i < length ls → stalled (get_or ls i 0) ≡ false → 0 < k → z ≡ past (take (i + 1) ls) (cut_after (k - 1) (drop (i + 1) ls))
  scan_work h e p = next h ∙ ap (past (take i ls)) (cut_work k _ _ e p) ∙ on _ h

  pub scan_last : i < length ls → stalled (get_or ls i 0) ≡ false → k ≡ 0 → z ≡ whole (take i ls) (get_or ls i 0) (drop (i + 1) ls)
  scan_last h e p =
      next h ∙ ap (past (take i ls)) (cut_last k _ _ e p) ∙ ap (λ (r : List ℕ). whole r (get_or ls i 0) (drop (i + 1) ls)) (append-nil (take i ls))

  pub scan_none : length ls ≤ i → z ≡ short
  unfolding cut_after
  scan_none h = inv ∙ ap (λ (r : List ℕ). past (take i ls) (cut_after k r)) (drop_all i ls h)

pub noted_more : (ls : List ℕ) (i : ℕ) (t : Ticks) → i < length ls → noted_all (take (i + 1) ls) t ≡ noted (get_or ls i 0) (noted_all (take i ls) t)
noted_more ls i t h = fold_more (λ (q : Ticks) (l : ℕ). noted l q) t ls i 0 h

-- the stalled lines in front
front_work : (b : List ℕ) (x : ℕ) → stalled x ≡ false → ahead (b ++ (x ∷ [])) ≡ ahead b
front_work [] x e = ap (λ (t : Bool). ahead_by t 0) e
front_work (y ∷ b) x e = ap (ahead_by (stalled y)) (front_work b x e)

front_all : (b : List ℕ) (x : ℕ) → stalled x ≡ true → ahead b ≡ length b → ahead (b ++ (x ∷ [])) ≡ ahead b + 1
front_all [] x e q = ap (λ (t : Bool). ahead_by t 0) e
front_all (y ∷ b) x e q = by (stalled y) q (front_all b x e)
  where
    by : (v : Bool) → ahead_by v (ahead b) ≡ suc (length b) → (ahead b ≡ length b → ahead (b ++ (x ∷ [])) ≡ ahead b + 1)
        → ahead_by v (ahead (b ++ (x ∷ []))) ≡ ahead_by v (ahead b) + 1
    by true q r = let s : ahead b ≡ length b = omega arith in omega (arith, r s)
    by false q r = absurd (omega arith)

front_some : (b : List ℕ) (x : ℕ) → (ahead b ≡ length b → ⊥) → ahead (b ++ (x ∷ [])) ≡ ahead b
front_some [] x q = absurd (q refl)
front_some (y ∷ b) x q = by (stalled y) q (front_some b x)
  where
    by : (v : Bool) → (ahead_by v (ahead b) ≡ suc (length b) → ⊥) → ((ahead b ≡ length b → ⊥) → ahead (b ++ (x ∷ [])) ≡ ahead b)
        → ahead_by v (ahead (b ++ (x ∷ []))) ≡ ahead_by v (ahead b)
    by true q r = ap suc (r (λ s. q (ap suc s)))
    by false q r = refl

module _ (ls : List ℕ) (i a : ℕ) (h : i < length ls) (inv : a ≡ ahead (take i ls)) where
  size : length (take i ls) ≡ i
  size = length-take-le i ls (omega arith)

  pub ahead_work : stalled (get_or ls i 0) ≡ false → a ≡ ahead (take (i + 1) ls)
  ahead_work e = inv ∙ sym (ap ahead (take_more ls i 0 h) ∙ front_work (take i ls) _ e)

  pub ahead_all : stalled (get_or ls i 0) ≡ true → a ≡ i → i + 1 ≡ ahead (take (i + 1) ls)
  ahead_all e q = ap (λ (n : ℕ). n + 1) (sym q ∙ inv) ∙ sym (ap ahead (take_more ls i 0 h) ∙ front_all (take i ls) _ e (sym inv ∙ q ∙ sym size))

  pub ahead_some : (a ≡ i → ⊥) → a ≡ ahead (take (i + 1) ls)
  ahead_some q = inv ∙ sym (ap ahead (take_more ls i 0 h) ∙ front_some (take i ls) _ (λ s. q (inv ∙ s ∙ size)))

pub measured_last : (n : ℕ) (t : Ticks) (ls : List ℕ) (i : ℕ) (c : Cut) (x : Share) → i < length ls → c ≡ whole (take i ls) (get_or ls i 0) (drop (i + 1) ls)
    → x.clocks ≡ n → x.before ≡ i → x.ahead ≡ ahead (take i ls) → x.last ≡ get_or ls i 0 → x.ticks ≡ noted_all (take i ls) t → Measures n t c (Some x)
measured_last n t ls i c x h e clocks before in_front last ticks =
    subst (λ (z : Cut). Measures n t z (Some x)) (sym e)
    (record { clocks = clocks; before = before ∙ sym (length-take-le i ls (omega arith)); in_front = in_front; last = last; ticks = ticks })

pub measured_none : (n : ℕ) (t : Ticks) (c : Cut) → c ≡ short → Measures n t c None
measured_none n t c e = subst (λ (z : Cut). Measures n t z None) (sym e) tt
