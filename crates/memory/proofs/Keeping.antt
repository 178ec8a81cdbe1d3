-- A memory keeps what is written.
use Rattle.std.proofs.Common.{◌≡◌, ℕ, zero, suc, ◌/◌, ◌%◌, ◌^◌, ◌<◌, Bool, true, false, cond, ◌≢◌, [], ◌∷◌, get_or, sym, ap, ◌∙◌, mod-eq_of_lt, arith, get_or-set_other, get_or-set_same}
use Rattle.std.proofs.Math.ListN.{get_or-eq_default}
use Rattle.std.proofs.lemmas.List.{set_past}
use Rattle.bus.specs.Lanes.{in_lane, byte_merged, merged, marked, all_marked}
use Rattle.bus.specs.declared.Marks.{Marks}
use Rattle.bus.proofs.Parting.{parted, joined_fits}
use Rattle.memory.specs.Keeps.{Keeps}

-- of two bytes by a test
byte : (t : Bool) (x y : ℕ) → cond t (x % 256) (y % 256) < 256
byte true x y = omega arith
byte false x y = omega arith

-- each lane of a merged word
picked : (old new : ℕ) (m : Marks) (lane : ℕ) → lane < 4 →
    in_lane (merged old new m % 2 ^ 32) lane ≡ cond (marked m lane) (in_lane new lane) (in_lane (old % 2 ^ 32) lane)
picked old new m lane lt =
    let f0 = byte m.b0 new old in
    let f1 = byte m.b1 (new / 256) (old / 256) in
    let f2 = byte m.b2 (new / 65536) (old / 65536) in
    let f3 = byte m.b3 (new / 16777216) (old / 16777216) in
    ap (λ w. in_lane w lane) (mod-eq_of_lt (joined_fits _ _ _ _ f0 f1 f2 f3)) ∙ parted _ _ _ _ f0 f1 f2 f3 lane lt ∙ each lane lt
  where
    each : (lane : ℕ) → lane < 4 →
        get_or (byte_merged old new m 0 ∷ byte_merged old new m 1 ∷ byte_merged old new m 2 ∷ byte_merged old new m 3 ∷ []) lane 0
        ≡ cond (marked m lane) (in_lane new lane) (in_lane (old % 2 ^ 32) lane)
    each zero lt = ap (cond m.b0 (in_lane new 0)) (omega arith)
    each (suc zero) lt = ap (cond m.b1 (in_lane new 1)) (omega arith)
    each (suc (suc zero)) lt = ap (cond m.b2 (in_lane new 2)) (omega arith)
    each (suc (suc (suc zero))) lt = ap (cond m.b3 (in_lane new 3)) (omega arith)
    each (suc (suc (suc (suc lane)))) lt = absurd (omega arith)

pub memory_keeps : Keeps
memory_keeps = record {
  lanes = λ h at word marks lt lane four.
      ap (λ x. in_lane (x % 2 ^ 32) lane) (get_or-set_same h at (merged (get_or h at 0) word marks) 0 lt) ∙ picked (get_or h at 0) word marks lane four;
  whole = λ h at word lt fit.
      let parts : merged (get_or h at 0) word all_marked % 2 ^ 32 ≡ word = omega arith in
      ap (λ x. x % 2 ^ 32) (get_or-set_same h at (merged (get_or h at 0) word all_marked) 0 lt) ∙ parts;
  elsewhere = λ h at other word marks ne. let apart : other ≢ at = λ e. ne (sym e) in rw get_or-set_other;
  outside = λ h at word marks le. (ap (λ x. x % 2 ^ 32) (get_or-eq_default h 0 le), set_past h at _ le);
}
