-- What the making of nodes has changed in a shelf so far, and when there is no room for more.
use Rattle.std.specs.Prelude.{◌≡◌, ◌≢◌, ℕ, ◌+◌, ◌⊎◌, List, length, All, AllPairs}
use Rattle.bdd_nodes.specs.declared.node_ref.NodeRef.{NodeRef}
use Rattle.bdd_nodes.specs.Shelf.{Contents, IsShelf, IsValid, Has, count_of, limit_of, state_of}
use Rattle.bdd_nodes.specs.Changes.{Keeps, SameTables}
use Rattle.labels.specs.Labels.{Function}
use Rattle.gta_theory.specs.Guides.{Spaces, IsSpace}
use Rattle.gta_theory.specs.Automata.{Automaton}
use Rattle.gta_theory.specs.Sizes.{IsVaried, IsUnderTable}

-- a node that wasn't there
pub record IsNew (old new : Contents) (r : NodeRef) : Type 0 where
  pub valid : IsValid new r
  pub absent : IsValid old r → ⊥

-- everything that stood is kept, and each node that is new, counted once, stands for one of these functions
pub record Adds (IsPart : Function → Type 0) (old new : Contents) : Type 0 where
  pub now : IsShelf new
  pub keeps : Keeps old new
  pub tables : SameTables old new
  pub same_limit : limit_of new ≡ limit_of old
  pub news : List NodeRef
  pub each : All (IsNew old new) news
  pub once : AllPairs (λ one other. one ≢ other) news
  pub count : count_of new ≡ count_of old + length news
  pub only : (r : NodeRef) → IsValid new r → IsValid old r ⊎ IsPart (state_of new r)

-- the shelf is full, and has no node for one of these functions
pub record IsStuck (IsPart : Function → Type 0) (shelf : Contents) : Type 0 where
  pub full : count_of shelf ≡ limit_of shelf
  pub function : Function
  pub part : IsPart function
  pub varied : IsVaried function
  pub absent : Has shelf function → ⊥

-- the function is under the table of some space
pub record IsUnderSomewhere (g : Spaces) (A : Automaton ℕ) (has : ℕ → ℕ → Type 0) (f : Function) : Type 0 where
  pub space : ℕ
  pub inside : IsSpace g space
  pub under : IsUnderTable g A has space f
