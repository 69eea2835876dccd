-- A row or a cell more.
use Rattle.std.proofs.Common.{◌≡◌, ℕ, List, [], ◌∷◌, Contains, refl, subst}
use Rattle.std.proofs.lemmas.List.Elements.{All-contains}
use Rattle.bdd_nodes.specs.Shelf.{Contents, IsShelf}
use Rattle.bdd_walk.specs.Answers.{Completes}
use Rattle.gta_theory.specs.Automata.{Automaton}
use Rattle.gta_theory.specs.Constructions.{pairs}
use Rattle.gta_core.specs.Auto.{AutoView, automaton_of}
use Rattle.gta_product.specs.Numbers.{numbered, AreNumbers}
use Rattle.gta_product.specs.Filling.{ExceedsCells, Joins}
use Rattle.gta_product.proofs.ShelfLemmas.{both-kept}
use Rattle.gta_product.proofs.JoinsLemmas.{Joins-wider, ExceedsCells-wider, Joins-trans, ExceedsCells-after, All-alone}

pub alone-is : (y x : ℕ × ℕ) → Contains (y ∷ []) x → y ≡ x
alone-is y x there = All-contains (λ (z : ℕ × ℕ). y ≡ z) (y ∷ []) x (All-alone (λ (z : ℕ × ℕ). y ≡ z) y refl) there

-- joins of some rows and columns go on, by those of fewer of them
module _ (a b : AutoView) (s : ℕ) (rows columns fewer_rows fewer_columns : List (ℕ × ℕ))
    (in_rows : (x : ℕ × ℕ) → Contains fewer_rows x → Contains rows x) (in_columns : (x : ℕ × ℕ) → Contains fewer_columns x → Contains columns x)
    (start now next : Contents) (before between after : List (ℕ × ℕ)) (is_shelf : IsShelf start)
    (joins : Joins (pairs (automaton_of start a) (automaton_of start b)) s rows columns start now before between) (numbers : AreNumbers after) where
  pub same-both : pairs (automaton_of now a) (automaton_of now b) ≡ pairs (automaton_of start a) (automaton_of start b)
  same-both = both-kept start now is_shelf joins.keeps joins.tables a b

  module _ (step : Joins (pairs (automaton_of now a) (automaton_of now b)) s fewer_rows fewer_columns now next between after) where
    pub Joins-next : Joins (pairs (automaton_of start a) (automaton_of start b)) s rows columns start next before after
    Joins-next = Joins-trans (pairs (automaton_of start a) (automaton_of start b)) s rows columns start now next before between after numbers joins
        (Joins-wider (pairs (automaton_of start a) (automaton_of start b)) s fewer_rows fewer_columns rows columns in_rows in_columns now next between after
        (subst (λ (AB : Automaton (ℕ × ℕ)). Joins AB s fewer_rows fewer_columns now next between after) same-both step))

    pub ExceedsCells-next : (given : List ℕ → ℕ) → Completes (numbered after) given →
        ExceedsCells (pairs (automaton_of now a) (automaton_of now b)) s fewer_rows fewer_columns now given →
        ExceedsCells (pairs (automaton_of start a) (automaton_of start b)) s rows columns start given
    ExceedsCells-next given completes exceeds =
        ExceedsCells-after (pairs (automaton_of start a) (automaton_of start b)) s rows columns start now before between after given numbers
        step.extends completes joins
        (ExceedsCells-wider (pairs (automaton_of start a) (automaton_of start b)) s fewer_rows fewer_columns rows columns in_rows in_columns now given
        (subst (λ (AB : Automaton (ℕ × ℕ)). ExceedsCells AB s fewer_rows fewer_columns now given) same-both exceeds))

-- what is in a list of one
pub in-alone : (xs : List (ℕ × ℕ)) (y : ℕ × ℕ) → Contains xs y → (x : ℕ × ℕ) → Contains (y ∷ []) x → Contains xs x
in-alone xs y there x is = subst (Contains xs) (alone-is y x is) there
