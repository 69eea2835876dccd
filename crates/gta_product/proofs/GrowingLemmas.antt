-- A product that goes on being built, step after step, and how much room is left for pairs.
use Rattle.std.proofs.Common.{◌≡◌, ◌≢◌, ℕ, suc, ◌^◌, ◌≤◌, ◌<◌, List, [], ◌∷◌, length, map, Some, Result, Ok, Err, OnOk, slice_get}
use Rattle.std.proofs.Common.{refl, sym, ◌∙◌, ap, subst, inl, inr, arith}
use Rattle.std.specs.Prelude.{slice_set}
use Rattle.std.proofs.lemmas.Bool.{cases_lt}
use Rattle.std.proofs.lemmas.Bool.Decides.{eqb_tells}
use Rattle.bdd_nodes.specs.Shelf.{Contents, IsShelf}
use Rattle.bdd_nodes.proofs.CallerLemmas.{Keeps-refl, Keeps-trans}
use Rattle.bdd_walk.specs.Answers.{Completes}
use Rattle.gta_theory.specs.Guides.{Spaces, IsSpace, left, right}
use Rattle.gta_theory.specs.Automata.{Automaton}
use Rattle.gta_theory.specs.Constructions.{pairs}
use Rattle.gta_core.specs.Auto.{AutoView, automaton_of, IsAuto}
use Rattle.gta_product.specs.Numbers.{numbered, AreNumbers}
use Rattle.gta_product.specs.Filling.{Joins, ExceedsCells}
use Rattle.gta_product.specs.Building.{AreSpaces, ExtendAll}
use Rattle.gta_product.specs.Growing.{AreGenerated, Goes, LacksRoom, room_left}
use Rattle.gta_product.proofs.NumbersLemmas.{extends-longer}
use Rattle.gta_product.proofs.BuildingLemmas.{SetsSpace, ExtendAll-set, AreSpaces-set, Building-set, ExceedsSteps-set}
use Rattle.gta_product.proofs.PartLemmas.{SetsSpace-at}
use Rattle.gta_product.proofs.SameLemmas.{ExtendAll-refl, ExtendAll-trans}
use Rattle.gta_product.proofs.ShelfLemmas.{both-kept, auto-kept}

module _ (g : Spaces) (AB : Automaton (ℕ × ℕ)) where
  pub Goes-none : (shelf : Contents) (spaces : List (List (ℕ × ℕ))) → IsShelf shelf → Goes g AB shelf shelf spaces spaces
  Goes-none shelf spaces is_shelf = record {
    extends = ExtendAll-refl spaces;
    keeps = Keeps-refl shelf;
    same_limit = refl;
    tables = refl;
    shelf = is_shelf;
    building = λ start building. building;
  }

  pub Goes-trans : (old middle new : Contents) (before between after : List (List (ℕ × ℕ))) → Goes g AB old middle before between →
      Goes g AB middle new between after → Goes g AB old new before after
  Goes-trans old middle new before between after first second = record {
    extends = ExtendAll-trans before between after first.extends second.extends;
    keeps = Keeps-trans old middle new first.keeps second.keeps;
    same_limit = second.same_limit ∙ first.same_limit;
    tables = second.tables ∙ first.tables;
    shelf = second.shelf;
    building = λ start building. second.building start (first.building start building);
  }

  pub LacksRoom-after : (old middle : Contents) (before between after : List (List (ℕ × ℕ))) → Goes g AB old middle before between →
      LacksRoom g AB middle between after → LacksRoom g AB old before after
  LacksRoom-after old middle before between after first lacks =
      λ start building given completes. lacks start (first.building start building) given completes

-- a space was filled
module _ (g : Spaces) (AB : Automaton (ℕ × ℕ)) (s : ℕ) (inside : IsSpace g s) (spaces : List (List (ℕ × ℕ))) (are : AreSpaces g AB spaces)
    (before after : List (ℕ × ℕ)) (was : slice_get spaces s ≡ Some before) (rows columns : List (ℕ × ℕ))
    (row-generated : AreGenerated g AB (left g s) rows) (column-generated : AreGenerated g AB (right g s) columns) (shelf now : Contents)
    (joins : Joins AB s rows columns shelf now before after) (numbers : AreNumbers after) where
  sets : SetsSpace spaces (slice_set spaces s after) s before after
  sets = SetsSpace-at spaces s before after was

  pub Goes-fill : Goes g AB shelf now spaces (slice_set spaces s after)
  Goes-fill = record {
    extends = ExtendAll-set spaces (slice_set spaces s after) s before after sets joins.extends;
    keeps = joins.keeps;
    same_limit = joins.same_limit;
    tables = joins.tables;
    shelf = joins.shelf;
    building = Building-set g AB s inside spaces (slice_set spaces s after) before after are sets rows columns row-generated column-generated
        shelf now joins numbers;
  }

  pub AreSpaces-fill : AreSpaces g AB (slice_set spaces s after)
  AreSpaces-fill = AreSpaces-set g AB s inside spaces (slice_set spaces s after) before after are sets rows columns row-generated column-generated
      shelf now joins numbers

  pub LacksRoom-fill : ((given : List ℕ → ℕ) → Completes (numbered after) given → ExceedsCells AB s rows columns shelf given) →
      LacksRoom g AB shelf spaces (slice_set spaces s after)
  LacksRoom-fill exceeds = λ start building given completes.
      inl (ExceedsSteps-set g AB s inside spaces (slice_set spaces s after) before after are sets rows columns row-generated column-generated
      shelf now joins numbers start building given completes (exceeds (given s) (completes s after sets.is)))

-- over what joins have done, the product is the same
module _ (g : Spaces) (a b : AutoView) (old middle : Contents) (is_shelf : IsShelf old) (before between : List (List (ℕ × ℕ)))
    (first : Goes g (pairs (automaton_of old a) (automaton_of old b)) old middle before between) where
  pub both-same : pairs (automaton_of middle a) (automaton_of middle b) ≡ pairs (automaton_of old a) (automaton_of old b)
  both-same = both-kept old middle is_shelf first.keeps first.tables a b

  pub both-on : (P : Automaton (ℕ × ℕ) → Type 0) → P (pairs (automaton_of old a) (automaton_of old b)) →
      P (pairs (automaton_of middle a) (automaton_of middle b))
  both-on P = subst P (sym both-same)

  pub both-back : (P : Automaton (ℕ × ℕ) → Type 0) → P (pairs (automaton_of middle a) (automaton_of middle b)) →
      P (pairs (automaton_of old a) (automaton_of old b))
  both-back P = subst P both-same

  pub auto-on : (c : AutoView) → IsAuto g old c → IsAuto g middle c
  auto-on c = auto-kept old middle is_shelf first.keeps first.tables g c

  pub Goes-next : (new : Contents) (after : List (List (ℕ × ℕ))) →
      Goes g (pairs (automaton_of middle a) (automaton_of middle b)) middle new between after →
      Goes g (pairs (automaton_of old a) (automaton_of old b)) old new before after
  Goes-next new after second = Goes-trans g (pairs (automaton_of old a) (automaton_of old b)) old middle new before between after first
      (both-back (λ (AB : Automaton (ℕ × ℕ)). Goes g AB middle new between after) second)

  pub LacksRoom-next : (after : List (List (ℕ × ℕ))) →
      LacksRoom g (pairs (automaton_of middle a) (automaton_of middle b)) middle between after →
      LacksRoom g (pairs (automaton_of old a) (automaton_of old b)) old before after
  LacksRoom-next after lacks = LacksRoom-after g (pairs (automaton_of old a) (automaton_of old b)) old middle before between after first
      (both-back (λ (AB : Automaton (ℕ × ℕ)). LacksRoom g AB middle between after) lacks)

-- the other spaces of two that extend
others : (x y : List (ℕ × ℕ)) (xs ys : List (List (ℕ × ℕ))) → ExtendAll (x ∷ xs) (y ∷ ys) → ExtendAll xs ys
others x y xs ys extends = record {
  many = omega (arith, extends.many);
  each = λ s pairs more was is. extends.each (suc s) pairs more was is;
}

room-most : (old new : List (List (ℕ × ℕ))) → ExtendAll old new → room_left new ≤ room_left old
room-most [] [] extends = omega arith
room-most [] (y ∷ ys) extends = absurd (omega (arith, extends.many))
room-most (x ∷ xs) [] extends = absurd (omega (arith, extends.many))
room-most (x ∷ xs) (y ∷ ys) extends =
    let first = extends-longer x y (extends.each 0 x y refl refl) in
    let rest = room-most xs ys (others x y xs ys extends) in
    omega arith

pub room-less : (old new : List (List (ℕ × ℕ))) → ExtendAll old new →
    ((s : ℕ) (pairs : List (ℕ × ℕ)) → slice_get new s ≡ Some pairs → length pairs ≤ 2 ^ 31) →
    (map (λ (pairs : List (ℕ × ℕ)). length pairs) new ≢ map (λ (pairs : List (ℕ × ℕ)). length pairs) old) → room_left new < room_left old
room-less [] [] extends few differ = absurd (differ refl)
room-less [] (y ∷ ys) extends few differ = absurd (omega (arith, extends.many))
room-less (x ∷ xs) [] extends few differ = absurd (omega (arith, extends.many))
room-less (x ∷ xs) (y ∷ ys) extends few differ =
    let longer = extends-longer x y (extends.each 0 x y refl refl) in
    let fits = few 0 y refl in
    elim (eqb_tells (length y) (length x)) [
      | inl same ↦
          let rest = room-less xs ys (others x y xs ys extends) (λ s pairs is. few (suc s) pairs is)
          (λ equal. differ (ap (λ (n : ℕ). n ∷ map (λ (pairs : List (ℕ × ℕ)). length pairs) ys) same.1
          ∙ ap (λ (ns : List ℕ). length x ∷ ns) equal)) in
          let e = same.1 in
          omega arith
      | inr apart ↦
          let rest = room-most xs ys (others x y xs ys extends) in
          let grew : length x < length y = grown (length x) (length y) longer apart.1 in
          omega arith
    ]
  where
    grown : (m n : ℕ) → m ≤ n → n ≢ m → m < n
    grown m n most apart = elim (cases_lt m n) [
      | inl less ↦ less
      | inr not ↦ absurd (apart (omega arith))
    ]

-- what follows where a call answers Ok
pub on-ok : {T E P Q : Type 0} (r : Result T E) → (P → Q) → OnOk r P → OnOk r Q
on-ok (Ok x) follows holds = follows holds
on-ok (Err e) follows holds = tt

pub on-ok-both : {T E P Q S : Type 0} (r : Result T E) → (P → Q → S) → OnOk r P → OnOk r Q → OnOk r S
on-ok-both (Ok x) follows one other = follows one other
on-ok-both (Err e) follows one other = tt

pub on-ok-always : {T E P : Type 0} (r : Result T E) → P → OnOk r P
on-ok-always (Ok x) holds = holds
on-ok-always (Err e) holds = tt
