-- What the ROM's meaning is over a front of 512 words.
use Rattle.std.proofs.Common.{◌≡◌, ℕ, zero, suc, ◌+◌, ◌-◌, ◌%◌, ◌^◌, ◌<◌, ◌≤◌, true, false, List, ◌++◌, length, get_or, Some, None, sym, ap, ◌∙◌, ⊎_elim, mod-eq_of_lt, arith, drop_at}
use Rattle.std.proofs.Math.ListN.{get_or-append, length-replicate}
use Rattle.std.proofs.lemmas.Bool.{cases_Bool, cond-true, cond-false, and_parts, and_from, leb-true, ltb-true, le-leb, lt-ltb}
use Rattle.std.proofs.lemmas.List.{get_or-replicate}
use Rattle.std.proofs.lemmas.Option.{same_Some}
use Rattle.bus.specs.declared.Marks.{Marks}
use Rattle.bus.specs.Meaning.{Meaning}
use Rattle.bus.specs.Over.{over_at}
use Rattle.rom.specs.Boot.{boot_image, ShowsBoot}
use Rattle.rom.specs.Table.{in_rom, place_of, rom_shown, rom_read, rom_write, rom_passed, rom_meaning}

-- an address that is the ROM's own
record IsOwn (a k : ℕ) : Type 0 where
  here : in_rom a ≡ true
  place : a - 0x3FF800 ≡ k
  within : k < 512

is_own : (a k : ℕ) → place_of a ≡ Some k → IsOwn a k
is_own a k e =
    ⊎_elim
    (λ own.
    let bounds = and_parts _ _ own in
    let lo : 0x3FF800 ≤ a = leb-true _ _ bounds.0 in
    let hi : a < 0x3FFA00 = ltb-true _ _ bounds.1 in
    let place : a - 0x3FF800 ≡ k = same_Some _ _ (sym (cond-true _ _ _ own) ∙ e) in
    record { here = own; place = place; within = omega arith })
    (λ off. let no : None ≡ Some k = sym (cond-false _ _ _ off) ∙ e in cc)
    (cases_Bool (in_rom a))

not_own : (a : ℕ) → place_of a ≡ None → in_rom a ≡ false
not_own a e = ⊎_elim (λ own. let no : Some (a - 0x3FF800) ≡ None = sym (cond-true _ _ _ own) ∙ e in cc) (λ off. off) (cases_Bool (in_rom a))

module _ (m : Meaning) (p q : List ℕ) (a : ℕ) (long : length p ≡ 512) where
  pub own_shown : (k : ℕ) → place_of a ≡ Some k → get_or p k 0 < 2 ^ 32 → get_or p k 0 ≡ rom_shown m (p ++ q) a
  own_shown k e fit =
      let own = is_own a k e in
      let at : k < length p = omega arith in
      sym (cond-true _ _ _ own.here ∙ ap (λ j. get_or (p ++ q) j 0 % 2 ^ 32) own.place ∙ ap (λ x. x % 2 ^ 32) (get_or-append p q 0 k at) ∙ mod-eq_of_lt fit)

  pub below_shown : place_of a ≡ None → m.shown q a ≡ rom_shown m (p ++ q) a
  below_shown e = sym (cond-false _ _ _ (not_own a e) ∙ ap (λ h. m.shown h a) (drop_at p q 512 long))

  pub own_read : in_rom a ≡ true → p ++ q ≡ rom_read m (p ++ q) a
  own_read e = sym (cond-true _ _ _ e)

  pub below_read : place_of a ≡ None → p ++ m.read q a ≡ rom_read m (p ++ q) a
  below_read e = sym (cond-false _ _ _ (not_own a e) ∙ over_at 512 (λ b. m.read b a) p q long)

  pub below_write : (w : ℕ) (marks : Marks) → place_of a ≡ None → p ++ m.write q a w marks ≡ rom_write m (p ++ q) a w marks
  below_write w marks e = sym (cond-false _ _ _ (not_own a e) ∙ over_at 512 (λ b. m.write b a w marks) p q long)

pub below_passed : (m : Meaning) (p q : List ℕ) (n : ℕ) → length p ≡ 512 → p ++ m.passed q n ≡ rom_passed m (p ++ q) n
below_passed m p q n long = sym (over_at 512 (λ b. m.passed b n) p q long)

boot_fits : (k : ℕ) → k < 512 → get_or boot_image k 0 < 2 ^ 32
boot_fits zero lt = omega arith
boot_fits (suc k) lt = let z : get_or boot_image (suc k) 0 ≡ 0 = get_or-replicate 511 k 0 0 (omega arith) in omega arith

boot_long : length boot_image ≡ 512
boot_long = ap suc (length-replicate {A = ℕ} 511 0)

pub boot_shown : (m : Meaning) (p q : List ℕ) → p ≡ boot_image → ShowsBoot (rom_meaning m) (p ++ q)
boot_shown m p q is k lt =
    let there : 0x3FF800 + k - 0x3FF800 ≡ k = omega arith in
    let own : in_rom (0x3FF800 + k) ≡ true = and_from _ _ (le-leb 0x3FF800 (0x3FF800 + k) (omega arith)) (lt-ltb (0x3FF800 + k) 0x3FFA00 (omega arith)) in
    ap (λ t. rom_shown m (t ++ q) (0x3FF800 + k)) is ∙ sym (own_shown m boot_image q (0x3FF800 + k) boot_long k (cond-true _ _ _ own ∙ ap Some there) (boot_fits k lt))
