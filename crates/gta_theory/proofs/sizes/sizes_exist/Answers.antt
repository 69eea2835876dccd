use Rattle.gta_theory.proofs.SizesExistLemmas.{SizeIn-counted, SizeOf-counted}
use Rattle.gta_theory.proofs.sizes.sizes_exist.Goals as goal

pub returns : goal.returns
returns c = record { in_space = SizeIn-counted; whole = SizeOf-counted }
