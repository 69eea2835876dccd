-- How many nodes each form of a core formula has.
use Rattle.std.proofs.Common.{◌≡◌, ℕ, ◌+◌}
use Rattle.ws2s_core.specs.declared.track.Track.{Track}
use Rattle.ws2s_core.specs.declared.formula.Formula.{Formula}
use Rattle.ws2s_core.specs.declared.formula.Formula.TheVariants.{Sub, Single, Succ0, Succ1, Root, And, Not, Ex2}
use Rattle.ws2s_core.specs.Sizes.{node_count, count_of_node}
use Rattle.ws2s_core.proofs.FormulaLemmas.{fold-Sub, fold-Single, fold-Succ0, fold-Succ1, fold-Root, fold-And, fold-Not, fold-Ex2}

pub count-Sub : (x y : Track) → node_count (Sub x y) ≡ 1
count-Sub = fold-Sub ℕ count_of_node

pub count-Single : (x : Track) → node_count (Single x) ≡ 1
count-Single = fold-Single ℕ count_of_node

pub count-Succ0 : (x y : Track) → node_count (Succ0 x y) ≡ 1
count-Succ0 = fold-Succ0 ℕ count_of_node

pub count-Succ1 : (x y : Track) → node_count (Succ1 x y) ≡ 1
count-Succ1 = fold-Succ1 ℕ count_of_node

pub count-Root : (x : Track) → node_count (Root x) ≡ 1
count-Root = fold-Root ℕ count_of_node

pub count-And : (f g : Formula) → node_count (And f g) ≡ node_count f + node_count g + 1
count-And = fold-And ℕ count_of_node

pub count-Not : (f : Formula) → node_count (Not f) ≡ node_count f + 1
count-Not = fold-Not ℕ count_of_node

pub count-Ex2 : (t : Track) (f : Formula) → node_count (Ex2 t f) ≡ node_count f + 1
count-Ex2 = fold-Ex2 ℕ count_of_node
