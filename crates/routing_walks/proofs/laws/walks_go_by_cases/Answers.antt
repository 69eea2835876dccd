use Rattle.routing_walks.proofs.WalkLemmas.{Walk-Down, Walk-Up, Walk-UpAny, Walk-Root, Walk-Leaf, Walk-IsType, Walk-IsVariant, Walk-IsBool, Walk-Then}
use Rattle.routing_walks.proofs.WalkLemmas.{Walk-Or, Walk-Star}
use Rattle.routing_walks.proofs.laws.walks_go_by_cases.Goals as goal

pub returns : goal.returns
returns c = λ types s fields. record {
  down = Walk-Down types s fields;
  up = Walk-Up types s fields;
  up_any = Walk-UpAny types s fields;
  root = Walk-Root types s fields;
  leaf = Walk-Leaf types s fields;
  is_type = Walk-IsType types s fields;
  is_variant = Walk-IsVariant types s fields;
  is_bool = Walk-IsBool types s fields;
  then_ = Walk-Then types s fields;
  or_ = Walk-Or types s fields;
  star = Walk-Star types s fields;
}
