-- A panel hands out its feed in order, each byte once and none before its clock.
use Rattle.std.proofs.Common.{◌≡◌, ℕ, suc, ◌+◌, ◌-◌, ◌*◌, ◌%◌, ◌<◌, ◌≤◌, Bool, true, false, cond, ◌&&◌, eqb, ltb, ◌⊎◌, List, [], ◌∷◌, ◌++◌, length, get_or, take, drop, replicate, sym, refl, ap, ◌∙◌, subst, inl, inr, ⊎_elim, mod-eq_of_lt, add-one, arith, length-append, length-take, length-take-le, drop-cons, get_or-take}
use Rattle.std.proofs.Math.ListN.{length-replicate, get_or-append}
use Rattle.std.proofs.lemmas.Bool.{cases_Bool, cases_lt, cases_eq, cond-true, cond-false, and_parts, and_from, and_left, and_right, ltb-true, leb-true, le-ltb, le-leb, lt-leb, eq-eqb, ne_eqb, false≢true}
use Rattle.bus.specs.Calls.{Call, after, called, clocks, lasted}
use Rattle.bus.specs.Calls.Call.{passes, reads, writes}
use Rattle.bus.specs.Filled.{filled_with, filled}
use Rattle.bus.specs.Meaning.{Meaning}
use Rattle.panel.specs.Cells.{new_feed, on_panel, arrived, aged, aged_none, aged_more, panel_meaning}
use Rattle.panel.specs.HandsOut.{HandsOut, handed, handed_by}
use Rattle.panel.proofs.Panels.{held, own_shown, own_read, below_read, own_write, below_write, both_passed}

cond_same : (b : Bool) (x y z : ℕ) → (b ≡ true → x ≡ y) → cond b x z ≡ cond b y z
cond_same true x y z e = e refl
cond_same false x y z e = refl

-- the age stops only after the last byte has arrived
arrived-aged : (n k count : ℕ) → count ≤ 64 → arrived (aged 0 n) k count ≡ arrived n k count
arrived-aged n k count few =
    ⊎_elim
    (λ lt. ⊎_elim
    (λ less. ap (λ t. ltb k count && t) (lt-leb (13030 * (k + 1)) (aged 0 n) (omega arith) ∙ sym (lt-leb (13030 * (k + 1)) n less)))
    (λ more. ap (λ t. ltb k count && t) (le-leb (13030 * (k + 1)) (aged 0 n) (omega arith) ∙ sym (le-leb (13030 * (k + 1)) n more)))
    (cases_lt n (13030 * (k + 1))))
    (λ le. and_left (ltb k count) _ (le-ltb k count le) ∙ sym (and_left (ltb k count) _ (le-ltb k count le)))
    (cases_lt k count)

module _ (m : Meaning) (f bytes : List ℕ) (long : length bytes ≡ 64) (few : length f ≤ 64) (same : (k : ℕ) → k < length f → get_or bytes k 0 % 256 ≡ get_or f k 0) where
  abbrev state : ℕ → ℕ → List ℕ → List ℕ
  state age taken q = held age taken (length f) bytes q

  -- a call that hands out nothing
  record Keeps (age taken : ℕ) (q : List ℕ) (c : Call) : Type 0 where
    below : List ℕ
    is : called (panel_meaning m) (state age taken q) c ≡ state (aged age (lasted c)) taken below
    none : handed_by (panel_meaning m) (state age taken q) c ≡ []

  -- a call that hands out the next byte
  record Gives (age taken : ℕ) (q : List ℕ) (c : Call) : Type 0 where
    is : called (panel_meaning m) (state age taken q) c ≡ state age (taken + 1) q
    gave : handed_by (panel_meaning m) (state age taken q) c ≡ get_or f taken 0 ∷ []
    no_clock : lasted c ≡ 0
    there : arrived age taken (length f) ≡ true

  step_read : (age taken : ℕ) (q : List ℕ) (at : ℕ) → Keeps age taken q (reads at) ⊎ Gives age taken q (reads at)
  step_read age taken q at =
      ⊎_elim
      (λ on. ⊎_elim
      (λ two. ⊎_elim (λ t. inr (took two t)) (λ t. inl (not_there on two t)) (cases_Bool (arrived age taken (length f))))
      (λ other. inl (other_cell on other))
      (cases_eq at 0x3FFFF2))
      (λ off. inl (elsewhere off))
      (cases_Bool (on_panel at))
    where
      s : List ℕ
      s = state age taken q

      ready : (panel_meaning m).shown s 0x3FFFF3 ≡ cond (arrived age taken (length f)) 1 0
      ready = sym (own_shown m age taken (length f) bytes q 0x3FFFF3 long refl)

      byte : (panel_meaning m).shown s 0x3FFFF2 ≡ cond (arrived age taken (length f)) (get_or bytes taken 0 % 256) 0
      byte = sym (own_shown m age taken (length f) bytes q 0x3FFFF2 long refl)

      took : at ≡ 0x3FFFF2 → arrived age taken (length f) ≡ true → Gives age taken q (reads at)
      took two t =
          let lt : taken < length f = ltb-true _ _ (and_parts _ _ t).0 in
          let r1 : (panel_meaning m).shown s 0x3FFFF3 ≡ 1 = ready ∙ cond-true _ _ _ t in
          record {
            is = ap (λ a. (panel_meaning m).read s a) two ∙ sym (own_read m age taken (length f) bytes q 0x3FFFF2 long refl) ∙ ap (λ n. state age n q) (cond-true _ _ _ t);
            gave = cond-true _ _ _ (and_from _ _ (eq-eqb at 0x3FFFF2 two) (eq-eqb _ _ r1)) ∙ ap (λ x. x ∷ []) (byte ∙ cond-true _ _ _ t ∙ same taken lt);
            no_clock = refl;
            there = t;
          }

      not_there : on_panel at ≡ true → at ≡ 0x3FFFF2 → arrived age taken (length f) ≡ false → Keeps age taken q (reads at)
      not_there on two t =
          let r0 : (panel_meaning m).shown s 0x3FFFF3 ≡ 0 = ready ∙ cond-false _ _ _ t in
          record {
            below = q;
            is = ap (λ a. (panel_meaning m).read s a) two ∙ sym (own_read m age taken (length f) bytes q 0x3FFFF2 long refl) ∙ ap (λ n. state age n q) (cond-false _ _ _ t) ∙ ap (λ a. state a taken q) (sym (aged_none age));
            none = cond-false _ _ _ (and_right (eqb at 0x3FFFF2) _ (ap (λ x. eqb x 1) r0));
          }

      other_cell : on_panel at ≡ true → (at ≡ 0x3FFFF2 → ⊥) → Keeps age taken q (reads at)
      other_cell on other =
          let parts = and_parts _ _ on in
          let lo : 0x3FFFF0 ≤ at = leb-true _ _ parts.0 in
          let ne : at - 0x3FFFF0 ≡ 2 → ⊥ = λ e. other (omega arith) in
          record {
            below = q;
            is = sym (own_read m age taken (length f) bytes q at long on) ∙ ap (λ n. state age n q) (cond-false _ _ _ (and_left _ _ (ne_eqb (at - 0x3FFFF0) 2 ne))) ∙ ap (λ a. state a taken q) (sym (aged_none age));
            none = cond-false _ _ _ (and_left _ _ (ne_eqb at 0x3FFFF2 other));
          }

      elsewhere : on_panel at ≡ false → Keeps age taken q (reads at)
      elsewhere off =
          let other : at ≡ 0x3FFFF2 → ⊥ = λ e. let z : false ≡ true = sym off ∙ ap on_panel e in false≢true z in
          record {
            below = m.read q at;
            is = sym (below_read m age taken (length f) bytes q at long off) ∙ ap (λ a. state a taken (m.read q at)) (sym (aged_none age));
            none = cond-false _ _ _ (and_left _ _ (ne_eqb at 0x3FFFF2 other));
          }

  step : (age taken : ℕ) (q : List ℕ) (c : Call) → Keeps age taken q c ⊎ Gives age taken q c
  step age taken q (passes n) = inl (record { below = m.passed q n; is = sym (both_passed m age taken (length f) bytes q n long); none = refl })
  step age taken q (reads at) = step_read age taken q at
  step age taken q (writes at word marks) =
      ⊎_elim
      (λ on. inl (record {
        below = q;
        is = sym (own_write m age taken (length f) bytes q at long word marks on) ∙ ap (λ a. state a taken q) (sym (aged_none age));
        none = refl;
      }))
      (λ off. inl (record {
        below = m.write q at word marks;
        is = sym (below_write m age taken (length f) bytes q at long word marks off) ∙ ap (λ a. state a taken (m.write q at word marks)) (sym (aged_none age));
        none = refl;
      }))
      (cases_Bool (on_panel at))

  -- what any calls come to
  record Comes (age taken : ℕ) (q : List ℕ) (cs : List Call) : Type 0 where
    below : List ℕ
    ends : after (panel_meaning m) (state age taken q) cs ≡ state (aged age (clocks cs)) (taken + length (handed (panel_meaning m) (state age taken q) cs)) below
    order : handed (panel_meaning m) (state age taken q) cs ≡ take (length (handed (panel_meaning m) (state age taken q) cs)) (drop taken f)
    time : 13030 * (taken + length (handed (panel_meaning m) (state age taken q) cs)) ≤ aged age (clocks cs)

  kept : (age taken : ℕ) (q : List ℕ) (c : Call) (cs : List Call) (k : Keeps age taken q c) → Comes (aged age (lasted c)) taken k.below cs → Comes age taken q (c ∷ cs)
  kept age taken q c cs k rest =
      let M : Meaning = panel_meaning m in
      let s : List ℕ = state age taken q in
      let t : List ℕ = state (aged age (lasted c)) taken k.below in
      let e : handed M s (c ∷ cs) ≡ handed M t cs = ap (λ x. x ++ handed M (called M s c) cs) k.none ∙ ap (λ h. handed M h cs) k.is in
      let more : aged (aged age (lasted c)) (clocks cs) ≡ aged age (clocks (c ∷ cs)) = aged_more age (lasted c) (clocks cs) in
      let long-is : length (handed M s (c ∷ cs)) ≡ length (handed M t cs) = ap length e in
      record {
        below = rest.below;
        ends =
            ap (λ h. after M h cs) k.is ∙ rest.ends ∙ ap (λ a. state a (taken + length (handed M t cs)) rest.below) more
            ∙ ap (λ n. state (aged age (clocks (c ∷ cs))) (taken + n) rest.below) (sym long-is);
        order = e ∙ rest.order ∙ ap (λ n. take n (drop taken f)) (sym long-is);
        time = omega (arith, rest.time, more, long-is);
      }

  given : (age taken : ℕ) (q : List ℕ) (c : Call) (cs : List Call) → Gives age taken q c → Comes age (taken + 1) q cs → Comes age taken q (c ∷ cs)
  given age taken q c cs k rest =
      let M : Meaning = panel_meaning m in
      let s : List ℕ = state age taken q in
      let t : List ℕ = state age (taken + 1) q in
      let lt : taken < length f = ltb-true _ _ (and_parts _ _ k.there).0 in
      let e : handed M s (c ∷ cs) ≡ get_or f taken 0 ∷ handed M t cs = ap (λ x. x ++ handed M (called M s c) cs) k.gave ∙ ap (λ h. get_or f taken 0 ∷ handed M h cs) k.is in
      let long-is : length (handed M s (c ∷ cs)) ≡ suc (length (handed M t cs)) = ap length e in
      let same-clocks : clocks cs ≡ clocks (c ∷ cs) = omega (arith, k.no_clock) in
      let count : taken + 1 + length (handed M t cs) ≡ taken + length (handed M s (c ∷ cs)) = omega (arith, long-is) in
      record {
        below = rest.below;
        ends =
            ap (λ h. after M h cs) k.is ∙ rest.ends ∙ ap (λ n. state (aged age n) (taken + 1 + length (handed M t cs)) rest.below) same-clocks
            ∙ ap (λ n. state (aged age (clocks (c ∷ cs))) n rest.below) count;
        order =
            e ∙ ap (λ x. get_or f taken 0 ∷ x) (rest.order ∙ ap (λ n. take (length (handed M t cs)) (drop n f)) (add-one taken))
            ∙ ap (λ l. take (suc (length (handed M t cs))) l) (sym (drop-cons f taken 0 lt)) ∙ ap (λ n. take n (drop taken f)) (sym long-is);
        time = omega (arith, rest.time, same-clocks, count);
      }

  comes : (cs : List Call) (age taken : ℕ) (q : List ℕ) → age ≤ 833920 → 13030 * taken ≤ age → Comes age taken q cs
  comes [] age taken q old due = record {
    below = q;
    ends = ap (λ a. state a taken q) (sym (aged_none age)) ∙ ap (λ n. state (aged age 0) n q) (omega arith);
    order = refl;
    time = omega arith;
  }
  comes (c ∷ cs) age taken q old due =
      ⊎_elim
      (λ k. kept age taken q c cs k (comes cs (aged age (lasted c)) taken k.below (omega arith) (omega arith)))
      (λ k. given age taken q c cs k (comes cs age (taken + 1) q old (leb-true (13030 * (taken + 1)) age (and_parts _ _ k.there).1)))
      (step age taken q c)

  pub hands_out : (q : List ℕ) → HandsOut (panel_meaning m) (held 0 0 (length f) bytes q) f
  hands_out q = record {
    in_order = λ cs. (comes cs 0 0 q (omega arith) (omega arith)).order;
    none_early = λ cs. let z = (comes cs 0 0 q (omega arith) (omega arith)).time in omega (arith, z);
    shows_byte = λ cs.
        let all = comes cs 0 0 q (omega arith) (omega arith) in
        let k = length (handed (panel_meaning m) (held 0 0 (length f) bytes q) cs) in
        let zero-k : 0 + k ≡ k = omega arith in
        ap (λ h. (panel_meaning m).shown h 0x3FFFF2) (all.ends ∙ ap (λ n. state (aged 0 (clocks cs)) n all.below) zero-k)
        ∙ sym (own_shown m (aged 0 (clocks cs)) k (length f) bytes all.below 0x3FFFF2 long refl)
        ∙ cond_same (arrived (aged 0 (clocks cs)) k (length f)) _ _ 0 (λ t. same k (ltb-true _ _ (and_parts _ _ t).0))
        ∙ ap (λ t. cond t (get_or f k 0) 0) (arrived-aged (clocks cs) k (length f) few);
    shows_ready = λ cs.
        let all = comes cs 0 0 q (omega arith) (omega arith) in
        let k = length (handed (panel_meaning m) (held 0 0 (length f) bytes q) cs) in
        let zero-k : 0 + k ≡ k = omega arith in
        ap (λ h. (panel_meaning m).shown h 0x3FFFF3) (all.ends ∙ ap (λ n. state (aged 0 (clocks cs)) n all.below) zero-k)
        ∙ sym (own_shown m (aged 0 (clocks cs)) k (length f) bytes all.below 0x3FFFF3 long refl)
        ∙ ap (λ t. cond t 1 0) (arrived-aged (clocks cs) k (length f) few);
  }

-- the table of a feed holds its bytes
in_table : (fs : List ℕ) → ((i : ℕ) → get_or fs i 0 < 256) → (k : ℕ) → k < length (take 64 fs) → get_or (filled 64 fs) k 0 % 256 ≡ get_or (take 64 fs) k 0
unfolding filled_with
in_table fs fit k lt =
    let long = length-take 64 fs in
    let in-64 : k < 64 = omega arith in
    let in-fs : k < length fs = omega arith in
    ap (λ x. x % 256) (get_or-take 64 (fs ++ replicate 64 0) k 0 in-64 ∙ get_or-append fs (replicate 64 0) 0 k in-fs) ∙ mod-eq_of_lt (fit k)
    ∙ sym (get_or-take 64 fs k 0 in-64)

pub table_long : (fs : List ℕ) → length (filled 64 fs) ≡ 64
unfolding filled_with
table_long fs = length-take-le 64 (fs ++ replicate 64 0) (let zeros = length-replicate {A = ℕ} 64 0 in simp length-append (omega arith))

-- a new panel
pub new_hands_out : (m : Meaning) (fs q numbers : List ℕ) → numbers ≡ new_feed fs → ((i : ℕ) → get_or fs i 0 < 256) →
    HandsOut (panel_meaning m) (numbers ++ q) (take 64 fs)
new_hands_out m fs q numbers is fit =
    let P : List ℕ → Type 0 = λ f. HandsOut (panel_meaning m) (f ++ q) (take 64 fs) in
    let few : length (take 64 fs) ≤ 64 = omega (arith, length-take 64 fs) in
    let new : 0 ∷ 0 ∷ length (take 64 fs) ∷ filled 64 fs ≡ numbers = ap (λ n. 0 ∷ 0 ∷ n ∷ filled 64 fs) (length-take 64 fs) ∙ sym is in
    subst P new (hands_out m (take 64 fs) (filled 64 fs) (table_long fs) few (in_table fs fit) q)
