-- A shelf with one table more.
use Rattle.std.proofs.Common.{◌≡◌, ◌≢◌, ℕ, ◌+◌, List, [], ◌∷◌, ◌++◌, get_or, Option, Some, None, sym, ◌∙◌, ap, refl, subst, inl, inr, arith}
use Rattle.std.specs.Prelude.{All, IfSome, MatchOption, slice_get, option_and_then}
use Rattle.std.proofs.lemmas.Bool.{cases_lt}
use Rattle.std.proofs.lemmas.Option.{slice_get_within, slice_get-get_or, get_or_from_slice_get}
use Rattle.bdd_nodes.specs.declared.node_ref.NodeRef.{NodeRef}
use Rattle.bdd_nodes.specs.declared.roots.RootTable.{RootTable}
use Rattle.bdd_nodes.specs.Roots.{number_of, AreNumbered}
use Rattle.bdd_nodes.specs.Shelf.{Contents, IsShelf, IsValid, root_of, roots_of}
use Rattle.bdd_nodes.specs.Changes.{AddsTable}
use Rattle.bdd_nodes.proofs.RootsLemmas.{roots_under-push_other, roots_under-push_same}

pub IfSome-each : (o : Option NodeRef) (P : NodeRef → Type 0) → ((r : NodeRef) → o ≡ Some r → P r) → IfSome o P
IfSome-each None P each = tt
IfSome-each (Some r) P each = each r refl

-- what holds of all roots holds of one
pub All-root : (P : NodeRef → Type 0) (roots : List NodeRef) (index : ℕ) (root : NodeRef) → All P roots → slice_get roots index ≡ Some root → P root
All-root P roots index root all there =
    subst P (get_or_from_slice_get roots index root root there) (all index root (slice_get_within roots index root there))

-- the roots of a registered table are valid
pub All-registered : (shelf : Contents) → IsShelf shelf → (number : ℕ) (roots : List NodeRef) →
    roots_of shelf number ≡ Some roots → All (IsValid shelf) roots
All-registered shelf is_shelf number roots there index d within =
    is_shelf.roots number index (get_or roots index d)
    (ap (λ (o : Option (List NodeRef)). option_and_then (λ (rs : List NodeRef). slice_get rs index) o) there ∙ slice_get-get_or roots index d within)

-- what holds of the roots that are found holds of those that are answered
pub IfSome-found : {B : Type 0} (view : B → List NodeRef) (answer : Option B) (found : Option (List NodeRef)) (P : List NodeRef → Type 0) →
    MatchOption answer (found ≡ None) (λ roots. found ≡ Some (view roots)) →
    ((roots : List NodeRef) → found ≡ Some roots → P roots) → IfSome answer (λ roots. P (view roots))
IfSome-found view None found P there each = tt
IfSome-found view (Some roots) found P there each = each (view roots) there

module _ (shelf : Contents) (is_shelf : IsShelf shelf) (t : RootTable) (number : number_of t.id ≡ shelf.roots.added) (valid : All (IsValid shelf) t.roots) where
  abbrev pub with_table : Contents
  with_table = record { nodes = shelf.nodes; limit = shelf.limit; roots = record { tables = shelf.roots.tables ++ t ∷ []; added = shelf.roots.added + 1 } }

  here : roots_of with_table (number_of t.id) ≡ Some t.roots
  here = roots_under-push_same shelf.roots.tables t (λ i within same. let g = is_shelf.numbered.given i within in omega arith)

  elsewhere : (other : ℕ) → other ≢ number_of t.id → roots_of with_table other ≡ roots_of shelf other
  elsewhere other differs = roots_under-push_other shelf.roots.tables t other (λ e. differs (sym e))

  root_is : (o u : Option (List NodeRef)) (index : ℕ) (root : NodeRef) → o ≡ u →
      option_and_then (λ roots. slice_get roots index) o ≡ Some root →
      option_and_then (λ roots. slice_get roots index) u ≡ Some root
  root_is o u index root same there = ap (λ (v : Option (List NodeRef)). option_and_then (λ roots. slice_get roots index) v) (sym same) ∙ there

  roots_valid : (other index : ℕ) (root : NodeRef) → root_of with_table other index ≡ Some root → IsValid shelf root
  roots_valid other index root there = elim (cases_lt other (number_of t.id)) [
    | inl below ↦ is_shelf.roots other index root (root_is _ _ index root (elsewhere other (λ e. omega arith)) there)
    | inr not_below ↦ elim (cases_lt (number_of t.id) other) [
      | inl above ↦ is_shelf.roots other index root (root_is _ _ index root (elsewhere other (λ e. omega arith)) there)
      | inr not_above ↦
          let same : other ≡ number_of t.id = omega arith in
          All-root (IsValid shelf) t.roots index root valid (root_is _ _ index root (ap (roots_of with_table) same ∙ here) there)
    ]
  ]

  pub IsShelf-with_table : AreNumbered (shelf.roots.tables ++ t ∷ []) (shelf.roots.added + 1) → IsShelf with_table
  IsShelf-with_table numbered = record {
    canonical = is_shelf.canonical;
    within = is_shelf.within;
    some = is_shelf.some;
    small = is_shelf.small;
    numbered = numbered;
    roots = roots_valid;
  }

  pub AddsTable-with_table : AddsTable shelf with_table (number_of t.id) t.roots
  AddsTable-with_table = record {
    number = number;
    added = refl;
    roots = here;
    others = elsewhere;
    nodes = record { nodes = refl; limit = refl };
  }
