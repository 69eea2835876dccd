-- The functions under a function, which are those of the nodes under its node; and what doesn't fit into a shelf.
use Rattle.std.specs.Prelude.{◌≡◌, ◌≢◌, ◌+◌, ◌<◌, List, [], ◌∷◌, length, All, AllPairs, Contains, ◌⊎◌}
use Rattle.bdd_nodes.specs.declared.node_ref.NodeRef.{NodeRef}
use Rattle.labels.specs.Labels.{Label, Function, IsUnder}
use Rattle.bdd_nodes.specs.Shelf.{Contents, Has, IsValid, state_of, count_of, limit_of}
use Rattle.bdd_nodes.specs.Changes.{Reaches}

-- two labels get different states
pub record Varies (function : Function) : Type 0 where
  pub one : Label
  pub other : Label
  pub differs : function one ≢ function other

-- a function under the whole one that isn't constant, and that nothing in the shelf stands for
pub record IsMissing (shelf : Contents) (whole part : Function) : Type 0 where
  pub under : IsUnder whole part
  pub varies : Varies part
  pub absent : Has shelf part → ⊥

-- the shelf has less room than there are functions missing under this one, each counted once
pub record Exceeds (shelf : Contents) (whole : Function) : Type 0 where
  pub parts : List Function
  pub missing : All (IsMissing shelf whole) parts
  pub distinct : AllPairs (λ one other. one ≢ other) parts
  pub more : limit_of shelf < count_of shelf + length parts

-- a function that is missing under one of the wholes
pub record IsMissingAmong (shelf : Contents) (wholes : List Function) (part : Function) : Type 0 where
  pub whole : Function
  pub among : Contains wholes whole
  pub missing : IsMissing shelf whole part

-- a function that has come: it was missing under one of the wholes, and is there now
pub record HasCome (old new : Contents) (wholes : List Function) (part : Function) : Type 0 where
  pub missing : IsMissingAmong old wholes part
  pub has : Has new part

-- the nodes that came are those of functions that were missing under the wholes, each counted once
pub record AddsAmong (old new : Contents) (wholes : List Function) : Type 0 where
  pub parts : List Function
  pub came : All (HasCome old new wholes) parts
  pub distinct : AllPairs (λ one other. one ≢ other) parts
  pub count : count_of new ≡ count_of old + length parts

-- the nodes that came are those of functions that were missing under this one, each counted once
abbrev pub Adds : Contents → Contents → Function → Type 0
Adds old new whole = AddsAmong old new (whole ∷ [])

-- the shelf has less room than there are functions missing under the wholes, each counted once
pub record ExceedsAmong (shelf : Contents) (wholes : List Function) : Type 0 where
  pub parts : List Function
  pub missing : All (IsMissingAmong shelf wholes) parts
  pub distinct : AllPairs (λ one other. one ≢ other) parts
  pub more : limit_of shelf < count_of shelf + length parts

-- every node that is new stands for a function under this one
unfoldable pub AddsParts : Contents → Contents → Function → Type 0
AddsParts old new whole = (r : NodeRef) → IsValid new r → IsValid old r ⊎ IsUnder whole (state_of new r)

-- every node that is new stands under the one that was made
unfoldable pub AddsUnder : Contents → Contents → NodeRef → Type 0
AddsUnder old new made = (r : NodeRef) → IsValid new r → IsValid old r ⊎ Reaches new.nodes made r
