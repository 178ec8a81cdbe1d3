use Rattle.std.proofs.Common.{◌≡◌, [], replicate, vec_items, ap, ◌∙◌}
use Rattle.card.specs.Stack.{new_card}
use Rattle.card.proofs.standard.Goals as goal

pub returns : goal.returns
returns c =
    let zeros : vec_items c.in_ok-words.words ≡ replicate 4096 0 = c.in_ok-words.ensures.items_if_clones_equal (λ y e. e) in
    c.stack.ensures.contents ∙ ap (λ words. new_card words []) zeros
