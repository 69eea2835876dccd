-- A row or a cell more.
use Rattle.std.proofs.Common.{◌≡◌, ℕ, List, [], ◌∷◌, ◌++◌, Contains, ap, refl, subst}
use Rattle.std.specs.List.{All}
use Rattle.std.proofs.lemmas.List.Elements.{All-contains}
use Rattle.bdd_nodes.specs.declared.node_ref.NodeRef.{NodeRef}
use Rattle.bdd_nodes.specs.Shelf.{Contents, IsShelf, IsValid}
use Rattle.bdd_nodes.specs.Changes.{Keeps}
use Rattle.bdd_walk.specs.Answers.{Completes}
use Rattle.gta_theory.specs.Automata.{Automaton}
use Rattle.gta_subsets.specs.Subsets.{set_step}
use Rattle.gta_core.specs.Auto.{AutoView, automaton_of}
use Rattle.gta_subsets.specs.Numbers.{number_in, AreNumbers}
use Rattle.gta_project.specs.Filling.{Stepping, ExceedsCells, Joins}
use Rattle.gta_project.proofs.ShelfLemmas.{automaton-kept}
use Rattle.gta_project.proofs.JoinsLemmas.{Joins-wider, ExceedsCells-wider, Joins-trans, ExceedsCells-after, All-append, All-alone, All-weaker}

pub alone-is : (y x : List ℕ) → Contains (y ∷ []) x → y ≡ x
alone-is y x there = All-contains (λ (z : List ℕ). y ≡ z) (y ∷ []) x (All-alone (λ (z : List ℕ). y ≡ z) y refl) there

-- joins of some rows and columns go on, by those of fewer of them
module _ (a : AutoView) (t : ℕ) (s : ℕ) (rows columns fewer_rows fewer_columns : List (List ℕ))
    (in_rows : (x : List ℕ) → Contains fewer_rows x → Contains rows x) (in_columns : (x : List ℕ) → Contains fewer_columns x → Contains columns x)
    (start now next : Contents) (before between after : List (List ℕ)) (is_shelf : IsShelf start)
    (joins : Joins (set_step (automaton_of start a) t) s rows columns start now before between) (numbers : AreNumbers after) where
  pub same-step : set_step (automaton_of now a) t ≡ set_step (automaton_of start a) t
  same-step = ap (λ (A : Automaton ℕ). set_step A t) (automaton-kept start now is_shelf joins.keeps joins.tables a)

  module _ (step : Joins (set_step (automaton_of now a) t) s fewer_rows fewer_columns now next between after) where
    pub Joins-next : Joins (set_step (automaton_of start a) t) s rows columns start next before after
    Joins-next = Joins-trans (set_step (automaton_of start a) t) s rows columns start now next before between after numbers joins
        (Joins-wider (set_step (automaton_of start a) t) s fewer_rows fewer_columns rows columns in_rows in_columns now next between after
        (subst (λ (Step : Stepping). Joins Step s fewer_rows fewer_columns now next between after) same-step step))

    pub ExceedsCells-next : (given : List ℕ → ℕ) → Completes (number_in after) given →
        ExceedsCells (set_step (automaton_of now a) t) s fewer_rows fewer_columns now given →
        ExceedsCells (set_step (automaton_of start a) t) s rows columns start given
    ExceedsCells-next given completes exceeds =
        ExceedsCells-after (set_step (automaton_of start a) t) s rows columns start now before between after given numbers
        step.extends completes joins
        (ExceedsCells-wider (set_step (automaton_of start a) t) s fewer_rows fewer_columns rows columns in_rows in_columns now given
        (subst (λ (Step : Stepping). ExceedsCells Step s fewer_rows fewer_columns now given) same-step exceeds))

pub valid-more : (old new : Contents) (roots : List NodeRef) (root : NodeRef) → Keeps old new → All (IsValid old) roots → IsValid new root →
    All (IsValid new) (roots ++ root ∷ [])
valid-more old new roots root keeps valid made =
    All-append (IsValid new) roots (root ∷ []) (All-weaker (IsValid old) (IsValid new) (λ r is. keeps.valid r is) roots valid) (All-alone (IsValid
    new) root made)

-- what is in a list of one
pub in-alone : (xs : List (List ℕ)) (y : List ℕ) → Contains xs y → (x : List ℕ) → Contains (y ∷ []) x → Contains xs x
in-alone xs y there x is = subst (Contains xs) (alone-is y x is) there
