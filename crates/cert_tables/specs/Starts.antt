-- Where what stands on one side and what stands on the other lead to together.
use Rattle.std.specs.Prelude.{◌≡◌, ◌↔◌, List, Contains}
use Rattle.cert_nodes.specs.declared.spots.Spot.{Spot}

module _ {T : Type 0} (lead : T → T → List Spot) where
  -- the one on the left and one of those on the right lead to these spots
  pub record IsLedWith (l : T) (rights : List T) (spots : List Spot) : Type 0 where
    pub r : T
    pub on_right : Contains rights r
    pub leads : lead l r ≡ spots

  -- one of each side lead to these spots
  pub record IsLedBy (lefts rights : List T) (spots : List Spot) : Type 0 where
    pub l : T
    pub on_left : Contains lefts l
    pub with_right : IsLedWith l rights spots

  -- exactly where two of both sides lead to
  abbrev pub AreLedBy : List T → List T → List (List Spot) → Type 0
  AreLedBy lefts rights starts = (spots : List Spot) → Contains starts spots ↔ IsLedBy lefts rights spots
