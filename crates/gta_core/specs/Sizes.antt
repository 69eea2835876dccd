-- The inner nodes of tables, and automata with their Sizes. (Shared diagrams: Bryant 1986; the Size of an automaton is
-- that of gta_theory.)
use Rattle.std.specs.Prelude.{◌≡◌, ℕ, List, length, Some, ◌↔◌, Contains, slice_get}
use Rattle.bdd_nodes.specs.declared.node_ref.NodeRef.{NodeRef}
use Rattle.bdd_nodes.specs.Shelf.{Contents, top_of, root_of}
use Rattle.bdd_nodes.specs.Changes.{Reaches}
use Rattle.gta_theory.specs.Guides.{Spaces}
use Rattle.gta_theory.specs.Numbered.{Below}
use Rattle.gta_theory.specs.Sizes.{SizeOf}
use Rattle.gta_core.specs.Auto.{AutoView, states_of, automaton_of, IsAuto}

-- an inner node under a root of the table
pub record IsNodeOf (shelf : Contents) (table : ℕ) (r : NodeRef) : Type 0 where
  pub track : ℕ
  pub inner : top_of shelf r ≡ Some track
  pub place : ℕ
  pub root : NodeRef
  pub registered : root_of shelf table place ≡ Some root
  pub reached : Reaches shelf.nodes root r

-- so many inner nodes stand under the table's roots, each counted once
pub record CountsNodes (shelf : Contents) (table count : ℕ) : Type 0 where
  pub nodes : List NodeRef
  pub each : (r : NodeRef) → Contains nodes r ↔ IsNodeOf shelf table r
  pub once : (i j : ℕ) (r : NodeRef) → slice_get nodes i ≡ Some r → slice_get nodes j ≡ Some r → i ≡ j
  pub length : length nodes ≡ count

-- an automaton of the shelf, with its Size
pub record IsSized (g : Spaces) (shelf : Contents) (sized : AutoView × ℕ) : Type 0 where
  pub auto : IsAuto g shelf sized.0
  pub size : SizeOf g (automaton_of shelf sized.0) (Below (states_of sized.0)) sized.1

-- one of the automata has the table
pub record IsTableOf (autos : List (AutoView × ℕ)) (table : ℕ) : Type 0 where
  pub auto : AutoView × ℕ
  pub there : Contains autos auto
  pub has : (auto.0).table ≡ table
