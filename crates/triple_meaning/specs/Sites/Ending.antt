-- What the walk over codes means: the outcome, and what is wrong with the store at the cut where a code ends.
use Rattle.std.specs.Prelude.{◌≡◌, ◌↔◌, ℕ, ◌<◌, ◌≤◌, IfSome, IsSomeAnd, List, ◌++◌, map, slice_get, Option, Some, None}
use Rattle.gta_theory.specs.Assignments.{Assignment, IsFinite}
use Rattle.ws2s_core.specs.Satisfaction.{WSat}
use Rattle.ws2s_forms.specs.Forms.{track}
use Rattle.store_core.specs.declared.ids.VarId.{VarId}
use Rattle.store_core.specs.Tables.{TypeEntry, VarEntry}
use Rattle.store_core.specs.Stores.{StoreMap}
use Rattle.store_exec.specs.declared.cause.Cause.{Cause}
use Rattle.store_exec.specs.declared.outcome.Outcome.{Outcome}
use Rattle.store_exec.specs.declared.outcome.Outcome.TheVariants as outcome
use Rattle.store_exec.specs.declared.triple.Cut.{Cut}
use Rattle.store_exec.specs.declared.triple.Triple.{Triple}
use Rattle.store_exec.specs.Runs.{RunsCode}
use Rattle.routing_walks.specs.CutFaults.{HasDanglingReference, HasShared, HasLeaked, HasWrongField}
use Rattle.store_exec.specs.Cuts.{AreMet, Escapes, AtCut}
use Rattle.graph_view.specs.declared.view.CutCheck.TheVariants as look
use Rattle.graph_view.specs.Cuts.{cut_formula}
use Rattle.graph_view.specs.After.{Standing, IsTaken, IsGuard, IsGuardBelow}
use Rattle.site_list.specs.States.{Text, Check, State, sight, value_of}
use Rattle.site_list.specs.Parts.{is_part, escapes}
use Rattle.site_list.specs.Cuts.{claims, arrived}
use Rattle.triple_meaning.specs.Sites.Places.{NoneComes, ComesFirst}
use Rattle.triple_meaning.specs.Sites.Seeing.{HasRoom, AreDefined, Sees}

-- no cause comes where nothing is wrong, and else the first that comes is what is wrong first, at the line of the cut
abbrev pub ComesAtCut : ℕ → Assignment → List Check → ℕ → Option Cause → Type 0
ComesAtCut next a added line None = NoneComes next a added
ComesAtCut next a added line (Some why) = ComesFirst next a added why line

-- a code that stops tells why by the first cause that comes; one that ends at a cut by what is wrong there
abbrev pub EndsAs : List TypeEntry → List VarEntry → List Cut → ℕ → Assignment → List Check → Outcome → Type 0
EndsAs types vars cuts next a added (outcome.Fail why line) = ComesFirst next a added why line
EndsAs types vars cuts next a added (outcome.End place t) =
    IfSome (slice_get cuts place) (λ cut. (why : Option Cause) → AtCut types vars cut t why → ComesAtCut next a added cut.line why)

-- from one state to the next the walk means that the code ends so; where it isn't reached no cause comes
pub record EndsCode (types : List TypeEntry) (vars : List VarEntry) (cuts : List Cut) (s after : State) (Ends : StoreMap → Outcome → Type 0) : Type 0 where
  pub made : List Text
  pub defined : after.defined ≡ s.defined ++ made
  pub added : List Check
  pub checks : after.checks ≡ s.checks ++ added
  pub news : s.news ≤ after.news
  pub reached : (next : ℕ) (a : Assignment) (first t : StoreMap) (at : Standing) (out : Outcome) → Sees types vars next a first s t at →
      HasRoom types vars next after → AreDefined next a after → IsTaken a s.guard → Ends t out → EndsAs types vars cuts next a added out
  pub idle : (next : ℕ) (a : Assignment) → IsFinite a → HasRoom types vars next after → AreDefined next a after → IsGuardBelow next s.guard →
      IsGuard a s.guard → (IsTaken a s.guard → ⊥) → NoneComes next a added

-- arriving at each of the cuts means what is wrong with the store there
abbrev pub AreCutsMeant : List TypeEntry → List VarEntry → List Cut → Type 0
AreCutsMeant types vars cuts =
    (place : ℕ) (cut : Cut) (s : State) → slice_get cuts place ≡ Some cut →
    EndsCode types vars cuts s (arrived types vars cut s) (λ t out. out ≡ outcome.End place t)

-- the formulas of the conditions on the store as it is at a cut hold exactly where they are so
pub record AreConditionsTold (types : List TypeEntry) (vars : List VarEntry) (next : ℕ) (a : Assignment) (s : State) (t : StoreMap) : Type 0 where
  pub dangling : WSat (cut_formula types (sight vars s) vars s.values look.DanglingRef next) a ↔ HasDanglingReference t
  pub shared : WSat (cut_formula types (sight vars s) vars s.values look.Shared next) a ↔ HasShared types vars t
  pub leaked : WSat (cut_formula types (sight vars s) vars s.values look.Leak next) a ↔ HasLeaked types vars t
  pub wrong : WSat (cut_formula types (sight vars s) vars s.values look.Field next) a ↔ HasWrongField types t

abbrev pub AreConditionsMeant : List TypeEntry → List VarEntry → Type 0
AreConditionsMeant types vars =
    (next : ℕ) (a : Assignment) (first : StoreMap) (s : State) (t : StoreMap) (at : Standing) → Sees types vars next a first s t at →
    AreConditionsTold types vars next a s t

-- the formulas of a cut's claims, and of pointers beside its handed part, mean what they say, where no reference dangles
pub record AreClaimsMeant (types : List TypeEntry) (vars : List VarEntry) (cut : Cut) : Type 0 where
  pub alone : cut.handed ≡ None → (next : ℕ) (a : Assignment) (first : StoreMap) (s : State) (t : StoreMap) (at : Standing) →
      Sees types vars next a first s t at → (HasDanglingReference t → ⊥) →
      WSat (claims types vars cut.asserts None s next) a ↔ AreMet types vars t cut.asserts
  pub on_part : (roots : List VarId) → cut.handed ≡ Some roots → (next x : ℕ) (a : Assignment) (first : StoreMap) (s : State) (t : StoreMap)
      (at : Standing) → Sees types vars next a first s t at → (HasDanglingReference t → ⊥) → x < next →
      WSat (is_part types (sight vars s) (map (value_of s.values) roots) x next) a →
      (WSat (escapes vars cut.inside s.values x next) a ↔ Escapes types vars t roots cut.inside)
      × (WSat (claims types vars cut.asserts (Some (track x)) s next) a ↔ AreMet types vars t cut.asserts)

-- where the outcome is a cut of the triple, it is settled what is wrong first with the store there
abbrev pub IsSettledAt : List TypeEntry → List VarEntry → List Cut → Outcome → Type 0
IsSettledAt types vars cuts (outcome.Fail why line) = Unit {0}
IsSettledAt types vars cuts (outcome.End place t) = IsSomeAnd (slice_get cuts place) (λ cut. (why : Option Cause) × AtCut types vars cut t why)

-- the triple's code leads somewhere from the store, and it is settled what is wrong there
abbrev pub IsSettled : List TypeEntry → List VarEntry → Triple → StoreMap → Type 0
IsSettled types vars t s = (out : Outcome) × RunsCode types t.code s out × IsSettledAt types vars t.cuts out
