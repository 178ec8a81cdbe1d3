-- A list whose part from a place on is replaced.
use Rattle.std.proofs.Common.{◌≡◌, ℕ, ◌+◌, ◌-◌, ◌≤◌, List, ◌++◌, length, take, drop, sym, ap, ◌∙◌, arith, length-drop}
use Rattle.std.proofs.Math.ListN.{drop_of_length-le}
use Rattle.std.proofs.lemmas.List.{append-nil, drop-drop, drop_at, length-take-le, take_rest}
use borrow.Rule.Slice.PartMut.{put_mid}

module _ {X : Type 0} (a : ℕ) (xs ys : List X) (le : a ≤ length xs) where
  pub replaced_rest : drop a (put_mid a (length xs - a) xs ys) ≡ ys
  replaced_rest =
      let all : length (drop a xs) ≤ length xs - a = omega (arith, length-drop a xs) in
      drop_at (take a xs) _ a (length-take-le a xs le) ∙ ap (λ (r : List X). ys ++ r) (drop_of_length-le (drop a xs) all) ∙ append-nil ys

  -- what the new part keeps of the old one is kept of the whole list
  pub replaced_behind : (n : ℕ) → drop n ys ≡ drop n (take (length xs - a) (drop a xs)) → drop (a + n) (put_mid a (length xs - a) xs ys) ≡ drop (a + n) xs
  replaced_behind n e = sym (drop-drop n a _) ∙ ap (drop n) replaced_rest ∙ e ∙ ap (drop n) (take_rest xs a) ∙ drop-drop n a xs
