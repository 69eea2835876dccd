use Rattle.store_logic.proofs.ExpandingFilled.{count-filled}
use Rattle.store_logic.proofs.expanding_laws.arguments_keep_the_size.Goals as goal

pub returns : goal.returns
returns c = λ args body. count-filled args body 0
