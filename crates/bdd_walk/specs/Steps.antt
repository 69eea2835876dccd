-- A step down from a key.
use Rattle.std.specs.Prelude.{◌≡◌, ◌<◌, ℕ, suc, Bool, IsTrue, if◌then◌else◌}
use Rattle.labels.specs.Labels.{Label}
use Rattle.bdd_walk.specs.declared.walk.Step.{Step}
use Rattle.bdd_walk.specs.declared.walk.Step.TheVariants.{Leaf, Skip, Split}
use Rattle.bdd_walk.specs.Stands.{Asking, AsksSame, AsksByFrom}

-- low is asked where the track is unset, and high where it is set; neither depends on the tracks up to it
pub record IsSplitBy (track : ℕ) (asking low high : Asking) : Type 0 where
  pub asks : (label : Label) → asking label ≡ (if label track then high label else low label)
  pub low_later : AsksByFrom (suc track) low
  pub high_later : AsksByFrom (suc track) high

-- keys, by what they ask, which of them stand for valid references, and a number that falls
module _ {K : Type 0} (asked : K → Asking) (is_in : K → Bool) (weight : K → ℕ) where
  -- the other key is in, and lighter
  pub record FallsTo (key next : K) : Type 0 where
    pub inside : IsTrue (is_in next)
    pub falls : weight next < weight key

  -- the other key asks the same
  pub record IsSkip (key next : K) : Type 0 where
    pub goes : FallsTo key next
    pub same : AsksSame (asked key) (asked next)

  -- the two keys are the two sides
  pub record IsSplit (key : K) (track : ℕ) (low high : K) : Type 0 where
    pub low_goes : FallsTo key low
    pub high_goes : FallsTo key high
    pub split : IsSplitBy track (asked key) (asked low) (asked high)

  -- the step goes down from the key: to the one list that it asks, to a key that asks the same, or to its two sides
  abbrev pub IsStep : K → Step K → Type 0
  IsStep key (Leaf states) = (label : Label) → asked key label ≡ states
  IsStep key (Skip next) = IsSkip key next
  IsStep key (Split track low high) = IsSplit key track low high
