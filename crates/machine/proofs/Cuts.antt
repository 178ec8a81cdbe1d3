-- What a cut gives: a share with n + 1 unstalled lines, the last of them its end.
use Rattle.std.proofs.Common.{◌≡◌, ℕ, zero, suc, pred, ◌+◌, ◌≤◌, Bool, true, false, not, List, [], ◌∷◌, ◌++◌, length, take, drop, sym, refl, ap, ◌∙◌, subst, zero-le, arith}
use native.Mathlib.Nat.{suc-pred-eq_of_pos}
use lib.Seq.{take-append_seam, get_or-append_seam, take-append-le}
use Rattle.machine.specs.Lines.{stalled, one, unstalled}
use Rattle.machine.specs.Laws.{SharesAreShortest, NoShareIsLeft}
use Rattle.machine.specs.Shares.{Cut, short, whole, behind, last_by, fewer, cut_after, cut}

pub data Whole : ℕ → List ℕ → ℕ → Type 0 where
  final : {l : ℕ} → stalled l ≡ false → Whole zero [] l
  wait : {k x l : ℕ} {b : List ℕ} → stalled x ≡ true → Whole k b l → Whole k (x ∷ b) l
  work : {k x l : ℕ} {b : List ℕ} → stalled x ≡ false → Whole k b l → Whole (suc k) (x ∷ b) l

abbrev pub Good : ℕ → List ℕ → Cut → Type 0
Good n ls short = unstalled ls ≤ n
Good n ls (whole b l left) = Whole n b l × (ls ≡ b ++ (l ∷ left))

behind_wait : (n x : ℕ) (ls : List ℕ) (c : Cut) → stalled x ≡ true → Good n ls c → Good n (x ∷ ls) (behind x c)
unfolding unstalled
behind_wait n x ls short e g =
    let o : one (not (stalled x)) ≡ 0 = ap (λ (t : Bool). one (not t)) e in
    omega (arith, g)
behind_wait n x ls (whole b l left) e g = (wait e g.0, ap {B = List ℕ} (λ r. x ∷ r) g.1)

behind_work : (n x : ℕ) (ls : List ℕ) (c : Cut) → stalled x ≡ false → Good n ls c → Good (suc n) (x ∷ ls) (behind x c)
unfolding unstalled
behind_work n x ls short e g =
    let o : one (not (stalled x)) ≡ 1 = ap (λ (t : Bool). one (not t)) e in
    omega (arith, g)
behind_work n x ls (whole b l left) e g = (work e g.0, ap {B = List ℕ} (λ r. x ∷ r) g.1)

last_good : (v : Bool) (x : ℕ) (ls : List ℕ) (c : Cut) → stalled x ≡ v → Good zero ls c → Good zero (x ∷ ls) (last_by v x ls c)
last_good true x ls c e g = behind_wait zero x ls c e g
last_good false x ls c e g = (final e, refl)

more_good : (v : Bool) (n x : ℕ) (ls : List ℕ) (c : Cut) → stalled x ≡ v → Good (fewer v n) ls c → Good (suc n) (x ∷ ls) (behind x c)
more_good true n x ls c e g = behind_wait (suc n) x ls c e g
more_good false n x ls c e g = behind_work n x ls c e g

pub cut_good : (n : ℕ) (ls : List ℕ) → Good n ls (cut_after n ls)
unfolding cut_after unstalled
cut_good n [] = zero-le
cut_good zero (x ∷ ls) = last_good (stalled x) x ls (cut_after zero ls) refl (cut_good zero ls)
cut_good (suc n) (x ∷ ls) = more_good (stalled x) n x ls (cut_after (fewer (stalled x) n) ls) refl (cut_good (fewer (stalled x) n) ls)

pub cut_whole : (n : ℕ) (ls b : List ℕ) (l : ℕ) (left : List ℕ) → cut n ls ≡ whole b l left → Whole (pred n) b l × (ls ≡ b ++ (l ∷ left))
cut_whole n ls b l left e = subst (Good (pred n) ls) e (cut_good (pred n) ls)

whole_unstalled : {k : ℕ} {b : List ℕ} {l : ℕ} → Whole k b l → (unstalled b ≡ k) × (unstalled (b ++ (l ∷ [])) ≡ suc k)
unfolding unstalled
whole_unstalled (final e) = (refl, ap (λ (t : Bool). one (not t) + 0) e)
whole_unstalled (wait {x = x} e v) =
    let o : one (not (stalled x)) ≡ 0 = ap (λ (t : Bool). one (not t)) e in
    (omega (arith, (whole_unstalled v).0), omega (arith, (whole_unstalled v).1))
whole_unstalled (work {x = x} e v) =
    let o : one (not (stalled x)) ≡ 1 = ap (λ (t : Bool). one (not t)) e in
    (omega (arith, (whole_unstalled v).0), omega (arith, (whole_unstalled v).1))

unstalled_take : (j : ℕ) (ls : List ℕ) → unstalled (take j ls) ≤ unstalled ls
unfolding unstalled
unstalled_take zero ls = zero-le
unstalled_take (suc j) [] = zero-le
unstalled_take (suc j) (x ∷ ls) = omega (arith, unstalled_take j ls)

take_end : (b : List ℕ) (l : ℕ) (left : List ℕ) → take (suc (length b)) (b ++ (l ∷ left)) ≡ b ++ (l ∷ [])
take_end [] l left = refl
take_end (x ∷ b) l left = ap {B = List ℕ} (λ r. x ∷ r) (take_end b l left)

drop_end : (b : List ℕ) (l : ℕ) (left : List ℕ) → drop (suc (length b)) (b ++ (l ∷ left)) ≡ left
drop_end [] l left = refl
drop_end (x ∷ b) l left = drop_end b l left

pub shortest : SharesAreShortest
shortest n ls b l left p e =
    let c : Whole (pred n) b l × (ls ≡ b ++ (l ∷ left)) = cut_whole n ls b l left e in
    let u : (unstalled b ≡ pred n) × (unstalled (b ++ (l ∷ [])) ≡ suc (pred n)) = whole_unstalled c.0 in
    rw c.1 (
      ap unstalled (take_end b l left) ∙ u.1 ∙ suc-pred-eq_of_pos p,
      (λ j h. rw (take-append-le j b (l ∷ left) h) (omega (arith, unstalled_take j b))),
      sym (take-append_seam b (l ∷ left)),
      sym (get_or-append_seam b l left 0),
      sym (drop_end b l left),
    )

pub no_share : NoShareIsLeft
no_share n ls p e j =
    let g : unstalled ls ≤ pred n = subst (Good (pred n) ls) e (cut_good (pred n) ls) in
    omega (arith, unstalled_take j ls)
