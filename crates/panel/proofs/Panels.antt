-- What the panel's meaning is over its own 67 numbers.
use Rattle.std.proofs.Common.{◌≡◌, ℕ, suc, ◌-◌, true, false, List, ◌∷◌, ◌++◌, length, Some, None, sym, ap, ◌∙◌, ⊎_elim, take_at, drop_at}
use Rattle.std.proofs.lemmas.Bool.{cases_Bool, cond-true, cond-false}
use Rattle.std.proofs.lemmas.Option.{same_Some}
use Rattle.bus.specs.declared.Marks.{Marks}
use Rattle.bus.specs.Meaning.{Meaning}
use Rattle.bus.specs.Over.{over_at}
use Rattle.panel.specs.Cells.{on_panel, cell_at, cell, taken_after, aged, feed_read, panel_shown, panel_read, panel_write, panel_passed}

abbrev pub held : ℕ → ℕ → ℕ → List ℕ → List ℕ → List ℕ
held age taken count feed q = age ∷ taken ∷ count ∷ (feed ++ q)

-- an address that is the panel's own
record IsOwn (a k : ℕ) : Type 0 where
  here : on_panel a ≡ true
  cell : a - 0x3FFFF0 ≡ k

is_own : (a k : ℕ) → cell_at a ≡ Some k → IsOwn a k
is_own a k e =
    ⊎_elim
    (λ own. record { here = own; cell = same_Some _ _ (sym (cond-true _ _ _ own) ∙ e) })
    (λ off. let no : None ≡ Some k = sym (cond-false _ _ _ off) ∙ e in cc)
    (cases_Bool (on_panel a))

not_own : (a : ℕ) → cell_at a ≡ None → on_panel a ≡ false
not_own a e = ⊎_elim (λ own. let no : Some (a - 0x3FFFF0) ≡ None = sym (cond-true _ _ _ own) ∙ e in cc) (λ off. off) (cases_Bool (on_panel a))

module _ (m : Meaning) (age taken count : ℕ) (feed q : List ℕ) (a : ℕ) (long : length feed ≡ 64) where
  pub own_shown : on_panel a ≡ true → cell age taken count feed (a - 0x3FFFF0) ≡ panel_shown m (held age taken count feed q) a
  own_shown e = sym (cond-true _ _ _ e ∙ ap (λ f. cell age taken count f (a - 0x3FFFF0)) (take_at feed q 64 long))

  pub below_shown : on_panel a ≡ false → m.shown q a ≡ panel_shown m (held age taken count feed q) a
  below_shown e = sym (cond-false _ _ _ e ∙ ap (λ h. m.shown h a) (drop_at feed q 64 long))

  pub own_read : on_panel a ≡ true → held age (taken_after age taken count (a - 0x3FFFF0)) count feed q ≡ panel_read m (held age taken count feed q) a
  own_read e = sym (cond-true _ _ _ e)

  pub below_read : on_panel a ≡ false → held age taken count feed (m.read q a) ≡ panel_read m (held age taken count feed q) a
  below_read e = sym (cond-false _ _ _ e ∙ over_at 67 (λ b. m.read b a) (age ∷ taken ∷ count ∷ feed) q (ap (λ n. suc (suc (suc n))) long))

  pub own_write : (w : ℕ) (k : Marks) → on_panel a ≡ true → held age taken count feed q ≡ panel_write m (held age taken count feed q) a w k
  own_write w k e = sym (cond-true _ _ _ e)

  pub below_write : (w : ℕ) (k : Marks) → on_panel a ≡ false → held age taken count feed (m.write q a w k) ≡ panel_write m (held age taken count feed q) a w k
  below_write w k e = sym (cond-false _ _ _ e ∙ over_at 67 (λ b. m.write b a w k) (age ∷ taken ∷ count ∷ feed) q (ap (λ n. suc (suc (suc n))) long))

  -- after a clocks
  pub both_passed : held (aged age a) taken count feed (m.passed q a) ≡ panel_passed m (held age taken count feed q) a
  both_passed = sym (ap (λ r. aged age a ∷ r) (over_at 66 (λ b. m.passed b a) (taken ∷ count ∷ feed) q (ap (λ n. suc (suc n)) long)))

-- the same, by the cell at an address
module _ (m : Meaning) (age taken count : ℕ) (feed q : List ℕ) (a : ℕ) (long : length feed ≡ 64) where
  pub cell_shown : (k : ℕ) → cell_at a ≡ Some k → cell age taken count feed k ≡ panel_shown m (held age taken count feed q) a
  cell_shown k e =
      let own = is_own a k e in
      ap (cell age taken count feed) (sym own.cell) ∙ own_shown m age taken count feed q a long own.here

  pub other_shown : cell_at a ≡ None → m.shown q a ≡ panel_shown m (held age taken count feed q) a
  other_shown e = below_shown m age taken count feed q a long (not_own a e)

  pub cell_read : (k : ℕ) → cell_at a ≡ Some k → feed_read (age ∷ taken ∷ count ∷ feed) k ++ q ≡ panel_read m (held age taken count feed q) a
  cell_read k e =
      let own = is_own a k e in
      ap (λ j. held age (taken_after age taken count j) count feed q) (sym own.cell) ∙ own_read m age taken count feed q a long own.here

  pub other_read : cell_at a ≡ None → held age taken count feed (m.read q a) ≡ panel_read m (held age taken count feed q) a
  other_read e = below_read m age taken count feed q a long (not_own a e)

  pub other_write : (w : ℕ) (k : Marks) → cell_at a ≡ None → held age taken count feed (m.write q a w k) ≡ panel_write m (held age taken count feed q) a w k
  other_write w k e = below_write m age taken count feed q a long w k (not_own a e)
