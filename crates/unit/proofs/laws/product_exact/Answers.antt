use Rattle.unit.proofs.Products.{product_is_exact, product_words}
use Rattle.unit.proofs.laws.product_exact.Goals as goal

pub returns : goal.returns
returns c = record { exact = product_is_exact; words = product_words }
