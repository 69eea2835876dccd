-- A product that goes on being built, step after step, and how much room is left for sets.
use Rattle.std.proofs.Common.{◌≡◌, ◌≢◌, ℕ, suc, ◌*◌, ◌^◌, ◌≤◌, ◌<◌, List, [], ◌∷◌}
use Rattle.std.proofs.Common.{◌⊎◌, length, map, Option, Some, Result, Ok, Err, OnOk, Contains, slice_get}
use Rattle.std.proofs.Common.{refl, sym, ◌∙◌, ap, subst, inl, inr, arith}
use Rattle.std.specs.Prelude.{slice_set}
use Rattle.std.proofs.lemmas.Bool.{cases_lt}
use Rattle.std.proofs.lemmas.Bool.Decides.{eqb_tells}
use Rattle.std.proofs.lemmas.List.Elements.{Contains-append_cases}
use Rattle.std.proofs.lemmas.Option.{slice_get_within, get_or_from_slice_get}
use Rattle.bdd_nodes.specs.Shelf.{Contents, IsShelf, limit_of}
use Rattle.bdd_nodes.proofs.CallerLemmas.{Keeps-refl, Keeps-trans}
use Rattle.bdd_walk.specs.Answers.{Completes}
use Rattle.gta_theory.specs.Guides.{Spaces, IsSpace, left, right}
use Rattle.gta_theory.specs.Automata.{Automaton}
use Rattle.gta_subsets.specs.Subsets.{subsets, AreInitial}
use Rattle.gta_core.specs.Auto.{AutoView, automaton_of, IsAuto}
use Rattle.gta_theory.proofs.ListsLemmas.{All-from_contains}
use Rattle.gta_project.specs.declared.growing.Seen.{Seen}
use Rattle.gta_project.specs.declared.growing.Growth.{Growth}
use Rattle.gta_subsets.specs.Classes.{Notes, known, fresh}
use Rattle.gta_subsets.specs.Numbers.{number_in, AreNumbers, Extends}
use Rattle.gta_project.specs.Filling.{Joins, ExceedsCells}
use Rattle.gta_project.specs.Building.{AreSpaces, CompleteAll, ExceedsSteps, HasManyCells, Building, Exceeded, ExtendAll}
use Rattle.gta_subsets.specs.Shorts.{rows_in, columns_in}
use Rattle.gta_project.specs.Growing.{AreGenerated, HasSeen, HaveSeen, Goes, LacksRoom, room_left}
use Rattle.gta_project.proofs.BuildingLemmas.{ChangesSpace, ExtendAll-set, AreSpaces-set, Building-set, ExceedsSteps-set}
use Rattle.gta_core.proofs.CellsLemmas.{get-index}
use Rattle.gta_project.proofs.PartLemmas.{ChangesSpace-at, get-set, get-set_other, length-set_at}
use Rattle.gta_project.proofs.KeyedLemmas.{IsKeyed-none, ones-differ}
use Rattle.gta_project.proofs.NextLemmas.{alone-is}
use Rattle.gta_project.proofs.SameLemmas.{ExtendAll-refl, ExtendAll-trans}
use Rattle.gta_project.proofs.ShelfLemmas.{subsets-kept, auto-kept, initial-kept}

module _ (g : Spaces) (Sets : Automaton (List ℕ)) where
  pub Goes-none : (shelf : Contents) (spaces : List (List (List ℕ))) → IsShelf shelf → Goes g Sets shelf shelf spaces spaces
  Goes-none shelf spaces is_shelf = record {
    extends = ExtendAll-refl spaces;
    keeps = Keeps-refl shelf;
    tables = refl;
    shelf = is_shelf;
    building = λ start building. building;
  }

  pub Goes-trans : (old middle new : Contents) (before between after : List (List (List ℕ))) → Goes g Sets old middle before between →
      Goes g Sets middle new between after → Goes g Sets old new before after
  Goes-trans old middle new before between after first second = record {
    extends = ExtendAll-trans before between after first.extends second.extends;
    keeps = Keeps-trans old middle new first.keeps second.keeps;
    tables = second.tables ∙ first.tables;
    shelf = second.shelf;
    building = λ start building. second.building start (first.building start building);
  }

  pub LacksRoom-after : (old middle : Contents) (before between after : List (List (List ℕ))) → Goes g Sets old middle before between →
      LacksRoom g Sets middle between after → LacksRoom g Sets old before after
  LacksRoom-after old middle before between after first lacks =
      λ start building given completes. lacks start (first.building start building) given completes

  pub HaveSeen-set : (a : AutoView) (growths : List Growth) (s : ℕ) (growth : Growth) → HaveSeen g Sets a growths → s < length growths →
      HasSeen g Sets a s growth → HaveSeen g Sets a (slice_set growths s growth)
  HaveSeen-set a growths s growth have within here = record {
    many = length-set_at growths s growth ∙ have.many;
    each = λ t other there. elim (eqb_tells t s) [
      | inl same ↦
          let is : ◌≡◌ {A = Option Growth} (Some growth) (Some other) =
          sym (get-set growths s growth within) ∙ ap (slice_get (slice_set growths s growth)) (sym same.1) ∙ there in
          subst (λ (n : ℕ). HasSeen g Sets a n other) (sym same.1) (subst (HasSeen g Sets a s) (same-growth growth other is) here)
      | inr apart ↦ have.each t other (sym (get-set_other growths s t growth apart.1) ∙ there)
    ];
  }
    where
      same-growth : (one other : Growth) → ◌≡◌ {A = Option Growth} (Some one) (Some other) → one ≡ other
      same-growth one other e = cc

-- a space was filled
module _ (g : Spaces) (Sets : Automaton (List ℕ)) (s : ℕ) (inside : IsSpace g s) (spaces : List (List (List ℕ))) (are : AreSpaces g Sets spaces)
    (before after : List (List ℕ)) (was : slice_get spaces s ≡ Some before) (rows columns : List (List ℕ))
    (row-generated : AreGenerated g Sets (left g s) rows) (column-generated : AreGenerated g Sets (right g s) columns) (shelf now : Contents)
    (joins : Joins Sets.step s rows columns shelf now before after) (numbers : AreNumbers after) where
  change : ChangesSpace spaces (slice_set spaces s after) s before after
  change = ChangesSpace-at spaces s before after was

  pub Goes-fill : Goes g Sets shelf now spaces (slice_set spaces s after)
  Goes-fill = record {
    extends = ExtendAll-set spaces (slice_set spaces s after) s before after change joins.extends;
    keeps = joins.keeps;
    tables = joins.tables;
    shelf = joins.shelf;
    building = Building-set g Sets s inside spaces (slice_set spaces s after) before after are change rows columns row-generated column-generated
        shelf now joins numbers;
  }

  pub AreSpaces-fill : AreSpaces g Sets (slice_set spaces s after)
  AreSpaces-fill = AreSpaces-set g Sets s inside spaces (slice_set spaces s after) before after are change rows columns row-generated column-generated
      shelf now joins numbers

  pub LacksRoom-fill : ((given : List ℕ → ℕ) → Completes (number_in after) given → ExceedsCells Sets.step s rows columns shelf given) →
      LacksRoom g Sets shelf spaces (slice_set spaces s after)
  LacksRoom-fill exceeds = λ start building given completes.
      inl (ExceedsSteps-set g Sets s inside spaces (slice_set spaces s after) before after are change rows columns row-generated column-generated
      shelf now joins numbers start building given completes (exceeds (given s) (completes s after change.is)))

-- over what joins have done, the product is the same
module _ (g : Spaces) (a : AutoView) (t : ℕ) (initials : List (List ℕ)) (old middle : Contents) (is_shelf : IsShelf old) (before between : List (List
    (List ℕ)))
    (first : Goes g (subsets (automaton_of old a) t initials) old middle before between) where
  pub subsets-same : subsets (automaton_of middle a) t initials ≡ subsets (automaton_of old a) t initials
  subsets-same = subsets-kept old middle is_shelf first.keeps first.tables a t initials

  pub subsets-on : (P : Automaton (List ℕ) → Type 0) → P (subsets (automaton_of old a) t initials) →
      P (subsets (automaton_of middle a) t initials)
  subsets-on P = subst P (sym subsets-same)

  pub subsets-back : (P : Automaton (List ℕ) → Type 0) → P (subsets (automaton_of middle a) t initials) →
      P (subsets (automaton_of old a) t initials)
  subsets-back P = subst P subsets-same

  pub auto-on : IsAuto g old a → IsAuto g middle a
  auto-on = auto-kept old middle is_shelf first.keeps first.tables g a

  pub initial-on : AreInitial g (automaton_of old a) t initials → AreInitial g (automaton_of middle a) t initials
  initial-on = initial-kept old middle is_shelf first.keeps first.tables g a t initials

  pub Goes-next : (new : Contents) (after : List (List (List ℕ))) →
      Goes g (subsets (automaton_of middle a) t initials) middle new between after →
      Goes g (subsets (automaton_of old a) t initials) old new before after
  Goes-next new after second = Goes-trans g (subsets (automaton_of old a) t initials) old middle new before between after first
      (subsets-back (λ (Sets : Automaton (List ℕ)). Goes g Sets middle new between after) second)

  pub LacksRoom-next : (after : List (List (List ℕ))) →
      LacksRoom g (subsets (automaton_of middle a) t initials) middle between after →
      LacksRoom g (subsets (automaton_of old a) t initials) old before after
  LacksRoom-next after lacks = LacksRoom-after g (subsets (automaton_of old a) t initials) old middle before between after first
      (subsets-back (λ (Sets : Automaton (List ℕ)). LacksRoom g Sets middle between after) lacks)

-- a list that keeps its places is no shorter
extends-longer : (old new : List (List ℕ)) → Extends old new → length old ≤ length new
extends-longer old new extends = elim (cases_lt (length new) (length old)) [
  | inl shorter ↦
      let one = get-index old (length new) shorter in
      absurd (omega (arith, slice_get_within new (length new) one.0 (extends.kept (length new) one.0 one.1)))
  | inr longer ↦ longer
]

-- the other spaces of two that extend
others : (x y : List (List ℕ)) (xs ys : List (List (List ℕ))) → ExtendAll (x ∷ xs) (y ∷ ys) → ExtendAll xs ys
others x y xs ys extends = record {
  many = omega (arith, extends.many);
  each = λ s sets more was is. extends.each (suc s) sets more was is;
}

pub room-most : (old new : List (List (List ℕ))) → ExtendAll old new → room_left new ≤ room_left old
room-most [] [] extends = omega arith
room-most [] (y ∷ ys) extends = absurd (omega (arith, extends.many))
room-most (x ∷ xs) [] extends = absurd (omega (arith, extends.many))
room-most (x ∷ xs) (y ∷ ys) extends =
    let first = extends-longer x y (extends.each 0 x y refl refl) in
    let rest = room-most xs ys (others x y xs ys extends) in
    omega arith

pub room-less : (old new : List (List (List ℕ))) → ExtendAll old new →
    ((s : ℕ) (sets : List (List ℕ)) → slice_get new s ≡ Some sets → length sets ≤ 2 ^ 31) →
    (map (λ (sets : List (List ℕ)). length sets) new ≢ map (λ (sets : List (List ℕ)). length sets) old) → room_left new < room_left old
room-less [] [] extends few differ = absurd (differ refl)
room-less [] (y ∷ ys) extends few differ = absurd (omega (arith, extends.many))
room-less (x ∷ xs) [] extends few differ = absurd (omega (arith, extends.many))
room-less (x ∷ xs) (y ∷ ys) extends few differ =
    let longer = extends-longer x y (extends.each 0 x y refl refl) in
    let fits = few 0 y refl in
    elim (eqb_tells (length y) (length x)) [
      | inl same ↦
          let rest = room-less xs ys (others x y xs ys extends) (λ s sets is. few (suc s) sets is)
          (λ equal. differ (ap (λ (n : ℕ). n ∷ map (λ (sets : List (List ℕ)). length sets) ys) same.1
          ∙ ap (λ (ns : List ℕ). length x ∷ ns) equal)) in
          let e = same.1 in
          omega arith
      | inr apart ↦
          let rest = room-most xs ys (others x y xs ys extends) in
          let grew : length x < length y = grown (length x) (length y) longer apart.1 in
          omega arith
    ]
  where
    grown : (m n : ℕ) → m ≤ n → n ≢ m → m < n
    grown m n most apart = elim (cases_lt m n) [
      | inl less ↦ less
      | inr not ↦ absurd (apart (omega arith))
    ]

-- what stands in a list is contained
pub contains-at : {X : Type 0} (xs : List X) (k : ℕ) (x : X) → slice_get xs k ≡ Some x → Contains xs x
contains-at xs k x there = (k, slice_get_within xs k x there, get_or_from_slice_get xs k x x there)

-- a set that joins the ones
pub Notes-only : (class : ℕ) (set : List ℕ) (old new : List (List ℕ)) → Notes class set old new → (x : List ℕ) → Contains new x →
    Contains old x ⊎ (x ≡ set)
Notes-only class set old new (known apart same) x there = inl (subst (λ (ps : List (List ℕ)). Contains ps x) same there)
Notes-only class set old new (fresh at is) x there =
    elim (Contains-append_cases old (set ∷ []) x (subst (λ (ps : List (List ℕ)). Contains ps x) is there)) [
      | inl before ↦ inl before
      | inr last ↦ inr (sym (alone-is set x last))
    ]

-- nothing was looked at
pub record IsNew (seen : Seen) : Type 0 where
  pub ones : seen.ones ≡ []
  pub keys : seen.keys ≡ []

pub HasSeen-none : (g : Spaces) (Sets : Automaton (List ℕ)) (a : AutoView) (s : ℕ) (growth : Growth) → IsNew growth.rows → IsNew growth.columns →
    HasSeen g Sets a s growth
HasSeen-none g Sets a s growth rows columns = record {
  rows = λ set there. absurd (nowhere set (subst (λ (ps : List (List ℕ)). Contains ps set) rows.ones there));
  columns = λ set there. absurd (nowhere set (subst (λ (ps : List (List ℕ)). Contains ps set) columns.ones there));
  row_keys = IsKeyed-none (rows_in a s) growth.rows rows.ones rows.keys;
  column_keys = IsKeyed-none (columns_in a s) growth.columns columns.ones columns.keys;
}
  where
    nowhere : (set : List ℕ) → Contains [] set → ⊥
    nowhere set there = omega (arith, there.1)

-- a space for which joins would make more roots than go with the limit
pub LacksRoom-cells : (g : Spaces) (Sets : Automaton (List ℕ)) (a : AutoView) (shelf : Contents) (s : ℕ) → IsSpace g s → (growth : Growth) →
    HasSeen g Sets a s growth → 16 * limit_of shelf < length growth.rows.ones * length growth.columns.ones →
    (before after : List (List (List ℕ))) → LacksRoom g Sets shelf before after
LacksRoom-cells g Sets a shelf s inside growth seen many before after = λ start building given completes. inr (record {
  space = s;
  inside = inside;
  rows = growth.rows.ones;
  columns = growth.columns.ones;
  in_left = All-from_contains _ growth.rows.ones seen.rows;
  in_right = All-from_contains _ growth.columns.ones seen.columns;
  rows_differ = ones-differ (rows_in a s) growth.rows seen.row_keys;
  columns_differ = ones-differ (columns_in a s) growth.columns seen.column_keys;
  many = omega (arith, many, building.same_limit);
})

-- what follows where a call answers Ok
pub on-ok-both : {T E P Q S : Type 0} (r : Result T E) → (P → Q → S) → OnOk r P → OnOk r Q → OnOk r S
on-ok-both (Ok x) follows one other = follows one other
on-ok-both (Err e) follows one other = tt

pub on-ok-always : {T E P : Type 0} (r : Result T E) → P → OnOk r P
on-ok-always (Ok x) holds = holds
on-ok-always (Err e) holds = tt

-- the product that is being built since the shelf was as at first
module _ (g : Spaces) (a : AutoView) (t : ℕ) (initials : List (List ℕ)) (first now : Contents) (is_shelf : IsShelf first) (before : List (List (List ℕ)))
    (building : Building g (subsets (automaton_of first a) t initials) first now before) where
  pub same-now : subsets (automaton_of now a) t initials ≡ subsets (automaton_of first a) t initials
  same-now = subsets-kept first now is_shelf building.keeps building.tables a t initials

  pub to-now : (P : Automaton (List ℕ) → Type 0) → P (subsets (automaton_of first a) t initials) →
      P (subsets (automaton_of now a) t initials)
  to-now P = subst P (sym same-now)

  pub to-first : (P : Automaton (List ℕ) → Type 0) → P (subsets (automaton_of now a) t initials) →
      P (subsets (automaton_of first a) t initials)
  to-first P = subst P same-now

  pub auto-now : IsAuto g first a → IsAuto g now a
  auto-now = auto-kept first now is_shelf building.keeps building.tables g a

  pub initial-now : AreInitial g (automaton_of first a) t initials → AreInitial g (automaton_of now a) t initials
  initial-now = initial-kept first now is_shelf building.keeps building.tables g a t initials

  pub Building-goes : (new : Contents) (after : List (List (List ℕ))) →
      ((start : Contents) → Building g (subsets (automaton_of now a) t initials) start now before →
      Building g (subsets (automaton_of now a) t initials) start new after) →
      Building g (subsets (automaton_of first a) t initials) first new after
  Building-goes new after goes =
      to-first (λ (Sets : Automaton (List ℕ)). Building g Sets first new after)
      (goes first (to-now (λ (Sets : Automaton (List ℕ)). Building g Sets first now before) building))

  pub Exceeded-goes : (after : List (List (List ℕ))) → LacksRoom g (subsets (automaton_of now a) t initials) now before after →
      Exceeded g (subsets (automaton_of first a) t initials) first
  Exceeded-goes after lacks = record {
    spaces = after;
    exceeds = λ given completes. to-first (λ (Sets : Automaton (List ℕ)). ExceedsSteps g Sets first given ⊎ HasManyCells g Sets first)
        (lacks first (to-now (λ (Sets : Automaton (List ℕ)). Building g Sets first now before) building) given
        (to-now (λ (Sets : Automaton (List ℕ)). CompleteAll g Sets after given) completes));
  }
