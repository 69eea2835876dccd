-- On automata that stand in a shelf: what releasing, registering, making nodes and collecting leave of them.
use Rattle.std.proofs.Common.{◌≡◌, ◌≢◌, ℕ, ◌+◌, ◌≤◌, ◌==◌, ◌⊎◌, inl, inr, if◌then◌else◌, is_some, Bool, true, false, List, [], ◌∷◌, ◌++◌, Option, Some, None}
use Rattle.std.proofs.Common.{IsSome, Contains, option_map, option_and_then, slice_get, zero, suc, length, refl, sym, ◌∙◌, ap, subst, arith}
use mathlib.Core.Bool.{true≢false}
use mathlib.Core.Path.{fun_ext}
use Rattle.std.proofs.lemmas.Bool.{eq-eqb}
use Rattle.std.proofs.lemmas.Bool.Decides.{eqb_tells}
use Rattle.bdd_nodes.specs.declared.node_ref.NodeRef.{NodeRef}
use Rattle.bdd_nodes.specs.Shelf.{Contents, IsShelf, roots_of, root_of, state_of, empty_shelf}
use Rattle.bdd_nodes.specs.Changes.{Keeps, SameTables, DropsTable, MovesRoots}
use Rattle.bdd_nodes.specs.Roots.{Registered, roots_under, root_under}
use Rattle.bdd_nodes.proofs.UnderLemmas.{roots_of-unused}
use Rattle.labels.specs.Labels.{Label, Function}
use Rattle.gta_theory.specs.Guides.{Spaces}
use Rattle.gta_core.specs.Auto.{AutoView, IsAuto}
use Rattle.gta_core.specs.Changes.{KeepsTable, RegistersTable}
use Rattle.gta_core.proofs.AutoLemmas.{functions-same, KeepsTable-grown, KeepsTable-moved, IsAuto-kept}
use Rattle.gta_keep.specs.Holding.{times, registered, Holds, HasNoTables}

-- a shelf has no table where it was opened
pub opened_has_no_tables : (limit : ℕ) (shelf : Contents) → IsShelf shelf → shelf ≡ empty_shelf limit → HasNoTables shelf
opened_has_no_tables limit shelf is_shelf empty = record {
  is_shelf = is_shelf;
  none = λ table some. true≢false (sym (subst (λ (opened : Contents). IsSome (roots_of opened table)) empty some));
}

-- how often a table comes in two lists together
pub times-append : (xs ys : List AutoView) (t : ℕ) → times (xs ++ ys) t ≡ times xs t + times ys t
times-append [] ys t = omega arith
times-append (x ∷ xs) ys t = (let e = times-append xs ys t in omega arith)

pub registered-some : (shelf : Contents) (t : ℕ) → IsSome (roots_of shelf t) → registered shelf t ≡ 1
registered-some shelf t some = ap (λ (b : Bool). if b then 1 else 0) some

registered-le : (shelf : Contents) (t : ℕ) → registered shelf t ≤ 1
registered-le shelf t = pick (is_some (roots_of shelf t)) where
  pick : (b : Bool) → (if b then 1 else 0) ≤ 1
  pick true = omega arith
  pick false = omega arith

some-registered : (shelf : Contents) (t : ℕ) → 1 ≤ registered shelf t → IsSome (roots_of shelf t)
some-registered shelf t = pick (is_some (roots_of shelf t)) where
  pick : (b : Bool) → 1 ≤ (if b then 1 else 0) → b ≡ true
  pick true le = refl
  pick false le = absurd (let none : ⊥ = omega (arith, le) in none)

-- of two tables that are the same, or not
times-head : (a : AutoView) (xs : List AutoView) (t : ℕ) → a.table ≡ t → times (a ∷ xs) t ≡ 1 + times xs t
times-head a xs t is = ap (λ (b : Bool). (if b then 1 else 0) + times xs t) (eq-eqb a.table t is)

pub times-other : (a : AutoView) (xs : List AutoView) (t : ℕ) → a.table ≢ t → times (a ∷ xs) t ≡ times xs t
times-other a xs t isnt = pick (eqb_tells a.table t) where
  pick : (((a.table == t) ≡ true) × (a.table ≡ t)) ⊎ (((a.table == t) ≡ false) × (a.table ≢ t)) → times (a ∷ xs) t ≡ times xs t
  pick (inl (equal, is)) = absurd (isnt is)
  pick (inr (unequal, isnt)) =
      (let e : times (a ∷ xs) t ≡ 0 + times xs t = ap (λ (b : Bool). (if b then 1 else 0) + times xs t) unequal in omega arith)

-- one that is there has its table
pub times-contains : (xs : List AutoView) (a : AutoView) → Contains xs a → 1 ≤ times xs a.table
times-contains [] a (k, lt, is) = omega (arith, lt)
times-contains (x ∷ xs) a (zero, lt, is) =
    (let e = times-head x xs a.table (ap (λ (y : AutoView). y.table) is) in omega arith)
times-contains (x ∷ xs) a (suc k, lt, is) = (let le = times-contains xs a (k, omega (arith, lt), is) in omega arith)

-- another table than one that is dropped
pub KeepsTable-dropped : (old new : Contents) (number other : ℕ) → DropsTable old new other → number ≢ other → KeepsTable old new number
KeepsTable-dropped old new number other drops isnt =
    let same : roots_of new number ≡ roots_of old number = drops.others number isnt in
    record {
      registered = λ there. ap (λ (o : Option (List NodeRef)). is_some o) same ∙ there;
      functions = λ place. functions-same old new drops.nodes (root_of new number place)
          ∙ ap (λ (o : Option (List NodeRef)). option_map (state_of old) (option_and_then (λ (rs : List NodeRef). slice_get rs place) o)) same;
    }

-- as many tables are registered where roots moved
registered-moved : (old new : Contents) → MovesRoots old new → (t : ℕ) → registered new t ≡ registered old t
registered-moved old new moves t = pick (roots_of old t) (roots_of new t) (moves.lengths t) where
  pick : (was now : Option (List NodeRef)) → option_map length now ≡ option_map length was →
      ◌≡◌ {A = ℕ} (if is_some now then 1 else 0) (if is_some was then 1 else 0)
  pick None None same = refl
  pick None (Some now) same = absurd cc
  pick (Some was) None same = absurd cc
  pick (Some was) (Some now) same = refl

-- every table where nodes are made and tables stay as they are
pub KeepsTable-joins : (old new : Contents) → IsShelf old → Keeps old new → SameTables old new → (number : ℕ) → KeepsTable old new number
KeepsTable-joins old new is_shelf keeps same number = record {
  registered = λ there. ap (λ (roots : Registered). is_some (roots_under roots.tables number)) same ∙ there;
  functions = λ place.
      ap (λ (roots : Registered). option_map (state_of new) (root_under roots.tables number place)) same
      ∙ at place (root_of old number place) refl;
} where
  at : (place : ℕ) (o : Option NodeRef) → root_of old number place ≡ o → option_map (state_of new) o ≡ option_map (state_of old) o
  at place None is = refl
  at place (Some r) is =
      ap (λ (f : Function). let o : Option Function = Some f in o)
      (fun_ext (λ (label : Label). keeps.states r label (is_shelf.roots number place r is)))

module _ (g : Spaces) where
  -- the tables of automata that are held are registered
  pub Holds-registered : (shelf : Contents) (xs : List AutoView) → Holds g shelf xs → (a : AutoView) → Contains xs a →
      IsSome (roots_of shelf a.table)
  Holds-registered shelf xs holds a there =
      (let le = times-contains xs a there in let e = holds.tables a.table in some-registered shelf a.table (omega (arith, le, e)))

  -- the same automata in another order
  pub Holds-same : (shelf : Contents) (xs ys : List AutoView) → ((t : ℕ) → times ys t ≡ times xs t) →
      ((a : AutoView) → Contains ys a → Contains xs a) → Holds g shelf xs → Holds g shelf ys
  Holds-same shelf xs ys same inside holds = record {
    is_shelf = holds.is_shelf;
    each = λ a there. holds.each a (inside a there);
    tables = λ t. same t ∙ holds.tables t;
  }

  module _ (old new : Contents) (a : AutoView) (xs : List AutoView) (holds : Holds g old (a ∷ xs)) (is_shelf : IsShelf new)
      (drops : DropsTable old new a.table) where
    first_once : times xs a.table ≡ 0
    first_once =
        let e = holds.tables a.table in
        let le = registered-le old a.table in
        let h = times-head a xs a.table refl in
        omega (arith, e, le, h)

    others_differ : (b : AutoView) → Contains xs b → a.table ≢ b.table
    others_differ b there is =
        let le = times-contains xs b there in
        let none = subst (λ (t : ℕ). times xs t ≡ 0) is first_once in
        omega (arith, le, none)

    pub kept-release : (b : AutoView) → Contains xs b → KeepsTable old new b.table
    kept-release b there = KeepsTable-dropped old new b.table a.table drops (λ is. others_differ b there (sym is))

    tables-release : (t : ℕ) → times xs t ≡ registered new t
    tables-release t = pick (eqb_tells a.table t) where
      pick : (((a.table == t) ≡ true) × (a.table ≡ t)) ⊎ (((a.table == t) ≡ false) × (a.table ≢ t)) → times xs t ≡ registered new t
      pick (inl (equal, is)) =
          subst (λ (u : ℕ). times xs u ≡ registered new u) is
          (first_once ∙ sym (ap (λ (o : Option (List NodeRef)). if is_some o then 1 else 0) drops.gone))
      pick (inr (unequal, isnt)) =
          sym (times-other a xs t isnt) ∙ holds.tables t
          ∙ sym (ap (λ (o : Option (List NodeRef)). if is_some o then 1 else 0) (drops.others t (λ is. isnt (sym is))))

    pub Holds-release : Holds g new xs
    Holds-release = record {
      is_shelf = is_shelf;
      each = λ b there. IsAuto-kept old new b (kept-release b there) g (holds.each b (later b there));
      tables = tables-release;
    } where
      later : (b : AutoView) → Contains xs b → Contains (a ∷ xs) b
      later b (k, lt, is) = (suc k, omega (arith, lt), is)

  -- where each registered table stays registered and no other is, and automata stay, they are still held
  pub Holds-kept : (old new : Contents) (xs : List AutoView) → Holds g old xs → IsShelf new →
      ((t : ℕ) → registered new t ≡ registered old t) → ((a : AutoView) → Contains xs a → KeepsTable old new a.table) → Holds g new xs
  Holds-kept old new xs holds is_shelf same keeps = record {
    is_shelf = is_shelf;
    each = λ a there. IsAuto-kept old new a (keeps a there) g (holds.each a there);
    tables = λ t. holds.tables t ∙ sym (same t);
  }

  -- nodes are made, and tables stay as they are
  pub Holds-still : (old new : Contents) (xs : List AutoView) → Holds g old xs → IsShelf new → Keeps old new → SameTables old new →
      Holds g new xs
  Holds-still old new xs holds is_shelf keeps same =
      Holds-kept old new xs holds is_shelf (λ t. ap (λ (roots : Registered). if is_some (roots_under roots.tables t) then 1 else 0) same)
      (λ a there. KeepsTable-joins old new holds.is_shelf keeps same a.table)

  -- nodes are collected
  pub Holds-collected : (old new : Contents) (xs : List AutoView) → Holds g old xs → IsShelf new → MovesRoots old new → Holds g new xs
  Holds-collected old new xs holds is_shelf moves =
      Holds-kept old new xs holds is_shelf (λ t. registered-moved old new moves t) (λ a there. KeepsTable-moved old new moves a.table)

  -- a table is registered while nodes are made
  module _ (old new : Contents) (c : AutoView) (xs : List AutoView) (holds : Holds g old xs) (is_shelf : IsShelf new)
      (keeps : Keeps old new) (registers : RegistersTable old new c.table) (auto : IsAuto g new c) where
    unused : roots_of old c.table ≡ None
    unused = roots_of-unused old holds.is_shelf c.table (omega (arith, registers.number))

    pub kept-registers : (a : AutoView) → Contains xs a → KeepsTable old new a.table
    kept-registers a there = KeepsTable-grown old new a.table c.table holds.is_shelf keeps registers (Holds-registered old xs holds a there)

    tables-registers : (t : ℕ) → times (c ∷ xs) t ≡ registered new t
    tables-registers t = pick (eqb_tells c.table t) where
      none_before : times xs c.table ≡ 0
      none_before = holds.tables c.table ∙ ap (λ (o : Option (List NodeRef)). if is_some o then 1 else 0) unused

      pick : (((c.table == t) ≡ true) × (c.table ≡ t)) ⊎ (((c.table == t) ≡ false) × (c.table ≢ t)) → times (c ∷ xs) t ≡ registered new t
      pick (inl (equal, is)) =
          let e : times (c ∷ xs) c.table ≡ 1 + times xs c.table = times-head c xs c.table refl in
          let one : registered new c.table ≡ 1 = registered-some new c.table registers.registered in
          subst (λ (u : ℕ). times (c ∷ xs) u ≡ registered new u) is (omega (arith, e, one, none_before))
      pick (inr (unequal, isnt)) =
          times-other c xs t isnt ∙ holds.tables t
          ∙ sym (ap (λ (o : Option (List NodeRef)). if is_some o then 1 else 0) (registers.others t (λ is. isnt (sym is))))

    pub Holds-registers : Holds g new (c ∷ xs)
    Holds-registers = record {
      is_shelf = is_shelf;
      each = inside;
      tables = tables-registers;
    } where
      inside : (b : AutoView) → Contains (c ∷ xs) b → IsAuto g new b
      inside b (zero, lt, is) = subst (IsAuto g new) is auto
      inside b (suc k, lt, is) =
          (let there : Contains xs b = (k, omega (arith, lt), is) in
          IsAuto-kept old new b (kept-registers b there) g (holds.each b there))
