-- What each place of a procedure sees of its variables. In the table parameters, results, locals and logic variables follow
-- one another.
use Rattle.std.specs.Prelude.{ℕ, ◌+◌, Bool, true, false, List, [], ◌∷◌, ◌++◌, length}
use Rattle.store_core.specs.Tables.{VarEntry}
use Rattle.pale_terms.specs.declared.scope.Origin.TheVariants as origin
use Rattle.pale_terms.specs.Sorts.{kept}
use Rattle.pale_terms.specs.Visibles.{Entry}
use Rattle.pale_sights.specs.declared.sights.Heading.{Heading}
use Rattle.pale_sights.specs.declared.sights.Frame.{Frame}
pub use Rattle.pale_typed.specs.Variables.{numbers}

-- ---- numbers

abbrev pub first_result : Heading → ℕ
first_result h = length h.params

abbrev pub first_local : Heading → ℕ
first_local h = first_result h + length h.results

abbrev pub first_logic : Heading → ℕ
first_logic h = first_local h + h.locals

-- ---- what is visible

abbrev pub seen_as : Bool → ℕ → VarEntry → Entry
seen_as may number v = record { name = v.name; visible = record { origin = origin.Variable (record { 0 = number }); sort = kept v.kind; may = may } }

-- variables, the first of which has this number, that the place may or may not name
abbrev pub seen : Bool → ℕ → List VarEntry → List Entry
seen may number [] = []
seen may number (v ∷ vars) = seen_as may number v ∷ seen may (number + 1) vars

-- before the body: parameters, results and logic variables, of which it may name the last in any case
abbrev pub heading_sight : Bool → Bool → Heading → List Entry
heading_sight params_may results_may h = seen params_may 0 h.params ++ seen results_may (first_result h) h.results ++ seen true (first_logic h) h.logics

-- `pre` may name parameters and logic variables; it sees the results, and no local
abbrev pub pre_sight : Heading → List Entry
pre_sight h = heading_sight true false h

-- `post` may name results and logic variables; it sees the parameters, and no local
abbrev pub post_sight : Heading → List Entry
post_sight h = heading_sight false true h

-- in the body: all variables, of which it may name the first three kinds in any case
abbrev pub body_sight : Bool → Heading → List VarEntry → List Entry
body_sight logics_may h locals =
    seen true 0 h.params ++ seen true (first_result h) h.results ++ seen true (first_local h) locals ++ seen logics_may (first_logic h) h.logics

-- the table of all variables
abbrev pub vars_of : Heading → List VarEntry → List VarEntry
vars_of h locals = h.params ++ h.results ++ locals ++ h.logics

-- what statements see: conditions, assignments and `free` may name no logic variable, assertions all variables
abbrev pub frame_of : Heading → List VarEntry → Frame
frame_of h locals = record { vars = vars_of h locals; code = body_sight false h locals; stated = body_sight true h locals }
