-- What the walk over what is read means: an answer of the store that is seen, or a cause.
use Rattle.std.specs.Prelude.{◌≡◌, ◌↔◌, ℕ, Bool, IsTrue, List, Result}
use Rattle.gta_theory.specs.Assignments.{Assignment}
use Rattle.ws2s_core.specs.Satisfaction.{WSat}
use Rattle.store_core.specs.Tables.{TypeEntry, VarEntry}
use Rattle.store_core.specs.declared.value.Value.{Value}
use Rattle.store_core.specs.Stores.{StoreMap}
use Rattle.store_exec.specs.declared.cause.Cause.{Cause}
use Rattle.graph_view.specs.After.{Standing, StandsFor, IsSymBelow}
use Rattle.site_list.specs.States.{Text, Check, State, Got}
use Rattle.site_list.specs.Reading.{Told}
use Rattle.site_list.specs.Conditions.{Telling}
use Rattle.triple_meaning.specs.Sites.Places.{NoneComes, Answers}
use Rattle.triple_meaning.specs.Sites.Seeing.{HasRoom, IsBelow, AreDefined, Sees, with_more}

-- from one state to the next the walk means an answer: where it is reached, this is so of the answer on each store that is seen, or
-- the first cause that comes is what stops it. Where it isn't reached no cause comes. Nothing but tracks and places is added
pub record Means {X : Type 0} (types : List TypeEntry) (vars : List VarEntry) (line : ℕ) (reached : Text) (s after : State)
    (Says : ℕ → Assignment → Standing → X → Type 0) (answer : StoreMap → Result X Cause) : Type 0 where
  pub made : List Text
  pub added : List Check
  pub is : after ≡ with_more made added s
  pub idle : (next : ℕ) (a : Assignment) → (WSat (reached next) a → ⊥) → NoneComes next a added
  pub told : (next : ℕ) (a : Assignment) (first t : StoreMap) (at : Standing) → Sees types vars next a first s t at →
      HasRoom types vars next after → AreDefined next a after → WSat (reached next) a → Answers next a added line (answer t) (Says next a at)

-- what was read stands for the value, on tracks that are there
pub record Reads (types : List TypeEntry) (vars : List VarEntry) (line : ℕ) (reached : Text) (s : State) (got : Got)
    (value : StoreMap → Result Value Cause) : Type 0 where
  pub means : Means types vars line reached s (got.1) (λ next a at x. StandsFor a at (got.0) x) value
  pub below : (next : ℕ) → IsBelow types vars (got.1) next → IsSymBelow next (got.0)

-- what was told holds exactly where the truth value is true
abbrev pub Tells : List TypeEntry → List VarEntry → ℕ → Text → State → Told → (StoreMap → Result Bool Cause) → Type 0
Tells types vars line reached s told truth =
    Means types vars line reached s (told.1) (λ next a at truth. WSat ((told.0) next) a ↔ IsTrue truth) truth

-- the walk over a condition means its truth, wherever it begins
abbrev pub MeansTruth : List TypeEntry → List VarEntry → ℕ → Telling → (StoreMap → Result Bool Cause) → Type 0
MeansTruth types vars line tell truth = (reached : Text) (s : State) → Tells types vars line reached s (tell reached s) truth
