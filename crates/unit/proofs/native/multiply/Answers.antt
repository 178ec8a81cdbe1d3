use Rattle.std.proofs.Common.{◌≡◌, rules, sym, ◌∙◌, arith}
use Rattle.unit.specs.Exact.{words_of, product}
use Rattle.unit.proofs.Products.{product_words}
use Rattle.unit.proofs.native.multiply.Goals as goal

pub returns-clause-steps : goal.returns-clause-steps
returns-clause-steps c =
    let e : c.words.result ≡ words_of (product c.args.factors) = search rules in
    e ∙ sym (product_words c.args.factors (omega arith))
