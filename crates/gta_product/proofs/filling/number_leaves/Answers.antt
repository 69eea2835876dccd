-- The number of the pair, and its leaf.
use Rattle.gta_product.proofs.filling.number_leaves.Goals as goal

pub returns-clause-leaf : goal.returns-clause-leaf
returns-clause-leaf c = record { number = c.in_ok-number.number; has = c.in_ok-number.ensures.value; leaf = c.leaf.ensures }
