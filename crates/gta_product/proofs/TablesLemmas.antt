-- The roots of two automata, read once from their tables.
use Rattle.std.proofs.Common.{◌≡◌, ℕ, ◌<◌, List, [], length, get_or, Option, Some, None, slice_get, sym, ◌∙◌, ap}
use Rattle.std.specs.Prelude.{IsSome, unwrap_or, option_and_then}
use Rattle.bdd_nodes.specs.declared.node_ref.NodeRef.{NodeRef}
use Rattle.bdd_nodes.specs.Roots.{Registered, roots_under}
use Rattle.bdd_nodes.specs.Shelf.{Contents, IsShelf, IsValid, limit_of, root_of}
use Rattle.bdd_nodes.specs.Changes.{SameTables}
use Rattle.gta_core.specs.declared.part.Part.{Part}
use Rattle.gta_core.specs.Auto.{AutoView, place_of, table_of, root_among, root_at}
use Rattle.gta_core.proofs.FactoredLemmas.{root_among-is}
use Rattle.gta_product.specs.declared.tables.Tables.{Tables}
use Rattle.gta_product.specs.Tables.{AreTables}
use Rattle.gta_product.proofs.ShelfLemmas.{within-some, some-first}
use Rattle.gta_product.proofs.PartLemmas.{get-at}

-- joins leave the tables as they are
pub AreTables-kept : (old new : Contents) → IsShelf new → limit_of new ≡ limit_of old → SameTables old new → (a b : AutoView) (tables : Tables) →
    AreTables old a b tables → AreTables new a b tables
AreTables-kept old new is_shelf same_limit same a b tables are = record {
  is_shelf = is_shelf;
  limit = are.limit ∙ sym same_limit;
  first = are.first ∙ sym (table-kept a);
  second = are.second ∙ sym (table-kept b);
}
  where
    table-kept : (c : AutoView) → table_of new c ≡ table_of old c
    table-kept c = ap (λ (roots : Registered). unwrap_or (roots_under roots.tables c.table) []) same

-- a space with a root is one that the automaton has
pub space-known : (shelf : Contents) (a : AutoView) (s l r : ℕ) → IsSome (root_at shelf a s l r) → s < length a.parts
unfolding root_at
space-known shelf a s l r some =
    within-some a.parts s (some-first _ (slice_get a.parts s) (some-first (root_of shelf a.table) (place_of a s l r) some))

-- a root that is read by the part of the space is that of the automaton
pub root-read : (shelf : Contents) (a : AutoView) (s l r : ℕ) → IsSome (root_at shelf a s l r) → (parts : List Part) → parts ≡ a.parts →
    (part : Part) → part ≡ get_or parts s part → (roots : List NodeRef) → roots ≡ table_of shelf a → root_among roots part l r ≡ root_at shelf a s l r
root-read shelf a s l r some parts lent part is roots are =
    let there = get-at a.parts s part (space-known shelf a s l r some) (is ∙ ap (λ (ps : List Part). get_or ps s part) lent) in
    ap (λ (rs : List NodeRef). root_among rs part l r) are ∙ root_among-is shelf a s part there l r

-- the roots of an automaton are valid
pub root-valid : (shelf : Contents) → IsShelf shelf → (a : AutoView) (s l r : ℕ) (root : NodeRef) →
    root_at shelf a s l r ≡ Some root → IsValid shelf root
unfolding root_at
root-valid shelf is_shelf a s l r root is = at (place_of a s l r) is
  where
    none : ◌≡◌ {A = Option NodeRef} None (Some root) → ⊥
    none e = cc

    at : (place : Option ℕ) → option_and_then (root_of shelf a.table) place ≡ Some root → IsValid shelf root
    at None is = absurd (none is)
    at (Some place) is = is_shelf.roots a.table place root is
