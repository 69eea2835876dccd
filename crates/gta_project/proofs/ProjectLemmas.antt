-- The projection at the start, at its end, and where there was no room.
use Rattle.std.proofs.Common.{ℕ, ◌+◌, ◌<◌, ◌⊎◌, inl, inr, Bool, List, [], Option, Result, Ok, Err, OnErr, slice_get, refl, sym, ◌∙◌, ap, subst, arith}
use Rattle.std.specs.Prelude.{unwrap_or, is_some, IsTrue}
use Rattle.bdd_nodes.specs.Roots.{Registered, roots_under}
use Rattle.bdd_nodes.specs.declared.node_ref.NodeRef.{NodeRef}
use Rattle.bdd_nodes.specs.Shelf.{Contents, IsShelf, count_of, limit_of}
use Rattle.bdd_nodes.specs.Changes.{SameTables, AddsTable}
use Rattle.bdd_nodes.proofs.CallerLemmas.{Keeps-refl}
use Rattle.bdd_walk.specs.Answers.{Completes}
use Rattle.bdd_walk.proofs.AddsAmongLemmas.{AddsAmong-none}
use Rattle.bdd_walk.proofs.CallLemmas.{given_by, Completes-given_by}
use Rattle.gta_theory.specs.Guides.{Spaces, IsGuide}
use Rattle.gta_theory.specs.Automata.{Automaton, IsStable, Has}
use Rattle.gta_theory.specs.Constructions.{IsSubset}
use Rattle.gta_subsets.specs.Subsets.{subsets, AreInitial}
use Rattle.gta_theory.specs.Sizes.{SizeOf}
use Rattle.gta_core.specs.Changes.{RegistersTable}
use Rattle.gta_subsets.specs.Numbers.{number_in}
use Rattle.gta_project.specs.Building.{AreSpaces, CompleteAll, ExceedsSteps, HasManyCells, Building, Leaves}
use Rattle.gta_project.proofs.LimitLemmas.{limit-below, cells-below}

pub Building-start : (g : Spaces) (Sets : Automaton (List ℕ)) (shelf : Contents) (spaces : List (List (List ℕ))) → IsShelf shelf → AreSpaces g Sets spaces →
    Building g Sets shelf shelf spaces
Building-start g Sets shelf spaces is_shelf are = record {
  keeps = Keeps-refl shelf;
  same_limit = refl;
  tables = refl;
  shelf = is_shelf;
  are = are;
  counted = λ given completes. record { wholes = []; each = λ k d within. absurd (omega arith); adds = AddsAmong-none shelf };
}

-- the numbers that the spaces have, and others somehow
abbrev pub given_in : List (List (List ℕ)) → ℕ → List ℕ → ℕ
given_in spaces s = given_by (number_in (unwrap_or (slice_get spaces s) []))

CompleteAll-given_in : (g : Spaces) (Sets : Automaton (List ℕ)) (spaces : List (List (List ℕ))) → CompleteAll g Sets spaces (given_in spaces)
CompleteAll-given_in g Sets spaces = λ s numbers is.
    subst (λ (o : Option (List (List ℕ))). Completes (number_in numbers) (given_by (number_in (unwrap_or o [])))) (sym is) (Completes-given_by
    (number_in numbers))

pub limit-subset : (g : Spaces) → IsGuide g → (A : Automaton ℕ) → IsStable g A → (t : ℕ) (initials : List (List ℕ)) → AreInitial g A t initials →
    (first : Contents) (spaces : List (List (List ℕ))) →
    ((given : ℕ → List ℕ → ℕ) → CompleteAll g (subsets A t initials) spaces given →
    ExceedsSteps g (subsets A t initials) first given ⊎ HasManyCells g (subsets A t initials) first) →
    (B : Automaton ℕ) (states : ℕ → ℕ → Bool) (member : ℕ → ℕ → ℕ → Bool) (size : ℕ) →
    IsSubset g A t B (Has states) (λ s x q. IsTrue (member s x q)) → SizeOf g B (Has states) size → limit_of first < count_of first + size
limit-subset g guide A stable t initials are_initial first spaces exceeds B states member size subset sized =
    elim (exceeds (given_in spaces) (CompleteAll-given_in g (subsets A t initials) spaces)) [
      | inl steps ↦ limit-below g guide A stable t initials are_initial B states member subset (given_in spaces) first size sized steps
      | inr cells ↦ cells-below g guide A stable t initials are_initial B states member subset size sized first cells
    ]

-- one table is registered after joins
pub RegistersTable-after : (first now new : Contents) (table : ℕ) (roots : List NodeRef) → SameTables first now → AddsTable now new table roots →
    RegistersTable first new table
RegistersTable-after first now new table roots tables adds = record {
  number = adds.number ∙ ap (λ (r : Registered). r.added) tables;
  added = adds.added ∙ ap (λ (r : Registered). r.added + 1) tables;
  registered = ap (λ (o : Option (List NodeRef)). is_some o) adds.roots;
  others = λ other apart. adds.others other apart ∙ ap (λ (r : Registered). roots_under r.tables other) tables;
}

pub Leaves-building : (g : Spaces) (Sets : Automaton (List ℕ)) (first now : Contents) (spaces : List (List (List ℕ))) → Building g Sets first now spaces
    → Leaves first now
Leaves-building g Sets first now spaces building = record {
  keeps = building.keeps;
  same_limit = building.same_limit;
  tables = building.tables;
  shelf = building.shelf;
}

pub Leaves-none : (shelf : Contents) → IsShelf shelf → Leaves shelf shelf
Leaves-none shelf is_shelf = record { keeps = Keeps-refl shelf; same_limit = refl; tables = refl; shelf = is_shelf }

-- what holds holds where there is a stop
pub on-err : {T E P : Type 0} (r : Result T E) → P → OnErr r P
on-err (Ok x) holds = tt
on-err (Err e) holds = holds
