-- What the making of nodes leaves of a shelf, and the rule by which two functions are made one.
use Rattle.std.specs.Prelude.{◌≡◌, ℕ, ◌<◌, ◌^◌, Bool, true, false, List, [], ◌∷◌, Some, None, nat_eq, if◌then◌else◌}
use Rattle.bdd_nodes.specs.Shelf.{Contents, IsShelf, limit_of}
use Rattle.bdd_nodes.specs.Changes.{Keeps, SameTables}
use Rattle.bdd_walk.specs.Answers.{Answers}

-- nodes were made, and nothing else has changed
pub record Makes (old new : Contents) : Type 0 where
  pub keeps : Keeps old new
  pub tables : SameTables old new
  pub same_limit : limit_of new ≡ limit_of old
  pub now : IsShelf new

-- the state where the two bits are the same, and 0 where they aren't
abbrev pub where_same : Bool → Bool → ℕ → ℕ
where_same true true state = state
where_same true false state = 0
where_same false true state = 0
where_same false false state = state

-- the state where a test is 1, and elsewhere the other state
abbrev pub chosen : ℕ → ℕ → ℕ → ℕ
chosen state test other = if nat_eq test 1 then state else other

-- a test and a state are answered by what is chosen
abbrev pub chosen_of : ℕ → Answers
chosen_of state [] = None
chosen_of state (test ∷ []) = None
chosen_of state (test ∷ other ∷ []) = Some (chosen state test other)
chosen_of state (test ∷ other ∷ more ∷ states) = None

-- the list is a test and another state
pub record IsChoice (state : ℕ) (states : List ℕ) : Type 0 where
  pub test : ℕ
  pub other : ℕ
  pub both : states ≡ test ∷ other ∷ []
  pub small : state < 2 ^ 31
  pub other_small : other < 2 ^ 31
