-- The product at the start, at its end, and where there was no room.
use Rattle.std.proofs.Common.{ℕ, ◌+◌, ◌<◌, ◌⊎◌, inl, inr, Bool, List, [], Option, Result, Ok, Err, OnErr, slice_get, refl, sym, ◌∙◌, ap, subst, arith}
use Rattle.std.specs.Prelude.{unwrap_or, is_some}
use Rattle.bdd_nodes.specs.Roots.{Registered, roots_under}
use Rattle.bdd_nodes.specs.declared.node_ref.NodeRef.{NodeRef}
use Rattle.bdd_nodes.specs.Shelf.{Contents, IsShelf, count_of, limit_of}
use Rattle.bdd_nodes.specs.Changes.{SameTables, AddsTable}
use Rattle.bdd_nodes.proofs.CallerLemmas.{Keeps-refl}
use Rattle.bdd_walk.specs.Answers.{Completes}
use Rattle.bdd_walk.proofs.AddsAmongLemmas.{AddsAmong-none}
use Rattle.bdd_walk.proofs.CallLemmas.{given_by, Completes-given_by}
use Rattle.gta_theory.specs.Guides.{Spaces, IsGuide}
use Rattle.gta_theory.specs.Automata.{Automaton, IsStable, Has}
use Rattle.gta_theory.specs.Constructions.{pairs, IsProduct}
use Rattle.gta_theory.specs.Sizes.{SizeOf}
use Rattle.gta_core.specs.Changes.{RegistersTable}
use Rattle.gta_core.specs.Auto.{AutoView, automaton_of, IsAuto}
use Rattle.gta_product.specs.declared.growing.Growth.{Growth}
use Rattle.gta_product.specs.Numbers.{numbered}
use Rattle.gta_product.specs.Building.{AreSpaces, CompleteAll, ExceedsSteps, HasManyCells, Building, Leaves, Exceeded}
use Rattle.gta_product.specs.Growing.{HaveAll, AreGrown, AreDone, Goes, LacksRoom}
use Rattle.gta_product.proofs.LimitLemmas.{limit-below, cells-below}
use Rattle.gta_product.proofs.PartLemmas.{parts-length}

pub Building-start : (g : Spaces) (AB : Automaton (ℕ × ℕ)) (shelf : Contents) (spaces : List (List (ℕ × ℕ))) → IsShelf shelf → AreSpaces g AB spaces →
    Building g AB shelf shelf spaces
Building-start g AB shelf spaces is_shelf are = record {
  keeps = Keeps-refl shelf;
  same_limit = refl;
  tables = refl;
  shelf = is_shelf;
  are = are;
  counted = λ given completes. record { wholes = []; each = λ k d within. absurd (omega arith); adds = AddsAmong-none shelf };
}

-- the numbers that the spaces have, and others somehow
abbrev pub given_in : List (List (ℕ × ℕ)) → ℕ → List ℕ → ℕ
given_in spaces s = given_by (numbered (unwrap_or (slice_get spaces s) []))

CompleteAll-given_in : (g : Spaces) (AB : Automaton (ℕ × ℕ)) (spaces : List (List (ℕ × ℕ))) → CompleteAll g AB spaces (given_in spaces)
CompleteAll-given_in g AB spaces = λ s numbers is.
    subst (λ (o : Option (List (ℕ × ℕ))). Completes (numbered numbers) (given_by (numbered (unwrap_or o [])))) (sym is) (Completes-given_by (numbered numbers))

pub limit-product : (g : Spaces) → IsGuide g → (A B : Automaton ℕ) → IsStable g A → IsStable g B → (first : Contents) (spaces : List (List (ℕ × ℕ))) →
    ((given : ℕ → List ℕ → ℕ) → CompleteAll g (pairs A B) spaces given → ExceedsSteps g (pairs A B) first given ⊎ HasManyCells g (pairs A B) first) →
    (C : Automaton ℕ) (states : ℕ → ℕ → Bool) (pair : ℕ → ℕ → ℕ × ℕ) (size : ℕ) → IsProduct g A B C (Has states) pair → SizeOf g C (Has states) size →
    limit_of first < count_of first + size
limit-product g guide A B of_A of_B first spaces exceeds C states pair size product sized =
    elim (exceeds (given_in spaces) (CompleteAll-given_in g (pairs A B) spaces)) [
      | inl steps ↦ limit-below g guide A B C of_A of_B states pair product (given_in spaces) first size sized steps
      | inr cells ↦ cells-below g guide A B C of_A of_B states pair product size sized first cells
    ]

-- one table is registered after joins
pub RegistersTable-after : (first now new : Contents) (table : ℕ) (roots : List NodeRef) → SameTables first now → AddsTable now new table roots →
    RegistersTable first new table
RegistersTable-after first now new table roots tables adds = record {
  number = adds.number ∙ ap (λ (r : Registered). r.added) tables;
  added = adds.added ∙ ap (λ (r : Registered). r.added + 1) tables;
  registered = ap (λ (o : Option (List NodeRef)). is_some o) adds.roots;
  others = λ other apart. adds.others other apart ∙ ap (λ (r : Registered). roots_under r.tables other) tables;
}

-- there was less room than the product that was built from the start has missing functions
pub Exceeded-start : (g : Spaces) (AB : Automaton (ℕ × ℕ)) (shelf : Contents) (spaces after : List (List (ℕ × ℕ))) → IsShelf shelf → AreSpaces g AB spaces →
    LacksRoom g AB shelf spaces after → Exceeded g AB shelf
Exceeded-start g AB shelf spaces after is_shelf are lacks = record {
  spaces = after;
  exceeds = λ given completes. lacks shelf (Building-start g AB shelf spaces is_shelf are) given completes;
}

-- when no more come
pub AreDone-goes : (g : Spaces) (first : Contents) (a b : AutoView) → IsAuto g first a → IsAuto g first b → (spaces : List (List (ℕ × ℕ))) (now : Contents)
    (growths : List Growth) → AreSpaces g (pairs (automaton_of first a) (automaton_of first b)) spaces →
    AreGrown g (pairs (automaton_of first a) (automaton_of first b)) a b spaces now growths → HaveAll g spaces growths →
    AreDone g (pairs (automaton_of first a) (automaton_of first b)) a b spaces now growths
AreDone-goes g first a b auto_a auto_b spaces now growths are grown all = record {
  grown = grown;
  all = all;
  many = are.many;
  first = parts-length g first a auto_a;
  second = parts-length g first b auto_b;
}

pub Leaves-goes : (g : Spaces) (AB : Automaton (ℕ × ℕ)) (first now : Contents) (before after : List (List (ℕ × ℕ))) → Goes g AB first now before after →
    Leaves first now
Leaves-goes g AB first now before after goes = record {
  keeps = goes.keeps;
  same_limit = goes.same_limit;
  tables = goes.tables;
  shelf = goes.shelf;
}

pub Leaves-none : (shelf : Contents) → IsShelf shelf → Leaves shelf shelf
Leaves-none shelf is_shelf = record { keeps = Keeps-refl shelf; same_limit = refl; tables = refl; shelf = is_shelf }

-- what holds holds where there is a stop
pub on-err : {T E P : Type 0} (r : Result T E) → P → OnErr r P
on-err (Ok x) holds = tt
on-err (Err e) holds = holds
