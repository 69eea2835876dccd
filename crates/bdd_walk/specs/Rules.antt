-- The rules of this crate: a state stays, or gets a new number.
use Rattle.std.specs.Prelude.{◌≡◌, ◌<◌, ◌^◌, ℕ, List, [], ◌∷◌, length, Some, None, All, slice_get}
use Rattle.bdd_walk.specs.Answers.{Answers}

-- a lone state is its own answer
abbrev pub itself_of : Answers
itself_of [] = None
itself_of (state ∷ []) = Some state
itself_of (state ∷ other ∷ states) = None

-- the list is one state
pub record IsState (states : List ℕ) : Type 0 where
  pub state : ℕ
  pub alone : states ≡ state ∷ []
  pub small : state < 2 ^ 31

-- a lone state has the number at its index
abbrev pub renamed_by : List ℕ → Answers
renamed_by numbers [] = None
renamed_by numbers (state ∷ []) = slice_get numbers state
renamed_by numbers (state ∷ other ∷ states) = None

-- the list is one state that has a new number
pub record IsNumbered (numbers states : List ℕ) : Type 0 where
  pub state : ℕ
  pub alone : states ≡ state ∷ []
  pub within : state < length numbers
  pub small : All (λ number. number < 2 ^ 31) numbers

-- the first state of a list
abbrev pub first_state : List ℕ → ℕ
first_state [] = 0
first_state (state ∷ states) = state
