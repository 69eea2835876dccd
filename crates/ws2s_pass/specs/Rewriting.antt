-- What a rewriter keeps.
use Rattle.std.specs.Prelude.{ℕ, ◌≤◌}
use Rattle.ws2s_core.specs.declared.formula.Formula.{Formula}
use Rattle.ws2s_core.specs.Satisfaction.{Same}
use Rattle.ws2s_core.specs.Tracks.{IsFree}
use Rattle.ws2s_core.specs.Sizes.{node_count}

-- the second formula has the satisfying assignments of the first, no free track that the first hasn't, and no more nodes
pub record IsRewriting (f g : Formula) : Type 0 where
  pub same : Same f g
  pub free : (t : ℕ) → IsFree t g → IsFree t f
  pub size : node_count g ≤ node_count f
