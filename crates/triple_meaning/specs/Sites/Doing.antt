-- What the walk over parts of code means: a step from one store that is seen to the next, or a cause.
use Rattle.std.specs.Prelude.{◌≡◌, ◌↔◌, ℕ, ◌≤◌, List, [], ◌++◌, length, Ok, Err}
use Rattle.gta_theory.specs.Assignments.{Assignment, IsFinite}
use Rattle.ws2s_core.specs.Satisfaction.{WSat}
use Rattle.store_core.specs.Tables.{TypeEntry, VarEntry}
use Rattle.store_core.specs.Stores.{StoreMap}
use Rattle.store_logic.specs.declared.assertion.Assertion.{Assertion}
use Rattle.store_logic.specs.Fits.{AssertionFits}
use Rattle.store_logic.specs.Terms.{outside}
use Rattle.store_logic.specs.Satisfaction.{SatAll}
use Rattle.store_exec.specs.Runs.{Ending}
use Rattle.graph_view.specs.declared.view.Sym.{Sym}
use Rattle.graph_view.specs.After.{Standing, IsSeen, IsTaken, IsGuard, IsGuardBelow}
use Rattle.site_list.specs.States.{Text, Check, State, sight}
use Rattle.site_list.specs.Claims.{assertion}
use Rattle.triple_meaning.specs.Sites.Places.{NoneComes, ComesFirst}
use Rattle.triple_meaning.specs.Sites.Seeing.{HasRoom, IsBelow, AreDefined, Sees}

-- where the part is reached: it ends in a store that the state after it sees, and no cause comes; or it stops, and the first cause
-- that comes is why, at its line
abbrev pub Follows : List TypeEntry → List VarEntry → ℕ → Assignment → StoreMap → State → List Check → Ending → Type 0
Follows types vars next a first after added (Ok t) = ((at : Standing) × Sees types vars next a first after t at) × NoneComes next a added
Follows types vars next a first after added (Err fault) = ComesFirst next a added fault.cause fault.line

-- where it isn't reached: no cause comes, and each store that was seen still is, whatever stands for the variables
pub record IsIdle (types : List TypeEntry) (vars : List VarEntry) (next : ℕ) (a : Assignment) (s after : State) (added : List Check) : Type 0 where
  pub none : NoneComes next a added
  pub sees : (first : StoreMap) (values : List Sym) (t : StoreMap) (at : Standing) → IsSeen types vars values s.events a first t at →
      IsSeen types vars values after.events a first t at

-- from one state to the next the walk means that the part ends so. The guard and the number of values stay, and
-- tracks, places and slots are added alone
pub record Leads (types : List TypeEntry) (vars : List VarEntry) (s after : State) (Ends : StoreMap → Ending → Type 0) : Type 0 where
  pub made : List Text
  pub defined : after.defined ≡ s.defined ++ made
  pub added : List Check
  pub checks : after.checks ≡ s.checks ++ added
  pub guard : after.guard ≡ s.guard
  pub count : length after.values ≡ length s.values
  pub news : s.news ≤ after.news
  pub below : (next : ℕ) → IsBelow types vars s next → HasRoom types vars next after → IsBelow types vars after next
  pub reached : (next : ℕ) (a : Assignment) (first t : StoreMap) (at : Standing) (end : Ending) → Sees types vars next a first s t at →
      HasRoom types vars next after → AreDefined next a after → IsTaken a s.guard → Ends t end → Follows types vars next a first after added end
  pub idle : (next : ℕ) (a : Assignment) → IsFinite a → HasRoom types vars next after → AreDefined next a after → IsGuardBelow next s.guard →
      IsGuard a s.guard → (IsTaken a s.guard → ⊥) → IsIdle types vars next a s after added

-- an assertion holds, as a formula, exactly where the store that is seen satisfies it
abbrev pub AreAssertionsMeant : List TypeEntry → List VarEntry → Type 0
AreAssertionsMeant types vars =
    (claim : Assertion) (next : ℕ) (a : Assignment) (first : StoreMap) (s : State) (t : StoreMap) (at : Standing) → AssertionFits types vars claim →
    Sees types vars next a first s t at → WSat (assertion types (sight vars s) s.values claim next) a ↔ SatAll types [] t outside claim
