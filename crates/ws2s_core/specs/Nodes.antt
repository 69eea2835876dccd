-- Formulas that are kept as nodes over the numbers of others, each formula once.
use Rattle.std.specs.Prelude.{◌≡◌, ◌⊎◌, ℕ, ◌+◌, ◌<◌, ◌≤◌, List, [], ◌∷◌, ◌++◌, length, map, reverse, slice_get, unwrap_or, Some, All, Vec, vec_len}
use Rattle.std.specs.Prelude.{vec_capacity}
use Rattle.std.specs.declared.alloc.Global.{Global}
use Rattle.std.specs.HashMap.{HashMap, get, spare}
use Rattle.std.specs.declared.hash.BuildHasherDefault.{BuildHasherDefault}
use Rattle.std.specs.declared.hash.FoldHasher.{FoldHasher}
use Rattle.gta_theory.specs.Listed.{meanings}
use Rattle.ws2s_core.specs.declared.formula.Formula.{Formula, roll-Formula}
use Rattle.ws2s_core.specs.declared.formula.Formula.TheVariants.{Root}
use Rattle.ws2s_core.specs.declared.formula.Formula.TheOpen.{Formula-F}
use Rattle.ws2s_core.specs.declared.formula.Formula.TheFolds.{map-Formula}
use Rattle.ws2s_core.specs.declared.node.Node.{Node}
use Rattle.ws2s_core.specs.contracts.node.NodePartialEq.TheImpl as node_eq
use Rattle.ws2s_core.specs.Postfix.{parts_of, run_on}
use Rattle.ws2s_core.specs.declared.postfix.Symbol.{Symbol}

-- the form of a node, over numbers
abbrev pub form_of : Node → Formula-F ℕ
form_of (Node.Sub x y) = Formula-F.Sub x y
form_of (Node.Single x) = Formula-F.Single x
form_of (Node.Succ0 x y) = Formula-F.Succ0 x y
form_of (Node.Succ1 x y) = Formula-F.Succ1 x y
form_of (Node.Root x) = Formula-F.Root x
form_of (Node.And f g) = Formula-F.And f.0 g.0
form_of (Node.Not f) = Formula-F.Not f.0
form_of (Node.Ex2 t f) = Formula-F.Ex2 t f.0

-- the formula with a number; one that isn't there has none, and counts as `Root 0`
abbrev pub formula_at : List Formula → ℕ → Formula
formula_at formulas k = unwrap_or (slice_get formulas k) (Root (record { 0 = 0 }))

-- the formula of a node, by those before it
abbrev pub formula_of_node : List Formula → Node → Formula
formula_of_node earlier node = roll-Formula (map-Formula ℕ Formula (formula_at earlier) (form_of node))

-- the formulas of the nodes
abbrev pub formulas_of : List Node → List Formula
formulas_of = meanings formula_of_node

-- the parts of a node have numbers below k
abbrev pub HasPartsBelow : ℕ → Node → Type 0
HasPartsBelow k node = All (λ part. part < k) (parts_of (form_of node))

-- no formula has two numbers
pub record IsOnceEach (formulas : List Formula) : Type 0 where
  pub once : (i j : ℕ) (f : Formula) → slice_get formulas i ≡ Some f → slice_get formulas j ≡ Some f → i ≡ j

-- the map has the place of each node, and nothing else; and the parts of a node stand before it
pub record IsIndexed (nodes : List Node) (places : HashMap Node ℕ (BuildHasherDefault FoldHasher)) : Type 0 where
  pub few : length nodes ≤ 4294967296
  pub earlier : (k : ℕ) (node : Node) → slice_get nodes k ≡ Some node → HasPartsBelow k node
  pub found : (k : ℕ) (node : Node) → slice_get nodes k ≡ Some node → get (node_eq.ghosts).eq places node ≡ Some k
  pub sound : (k : ℕ) (node : Node) → get (node_eq.ghosts).eq places node ≡ Some k → slice_get nodes k ≡ Some node

-- there is room for so many more nodes, in the list, in the map and among the numbers
pub record HasRoom (nodes : Vec Node Global) (places : HashMap Node ℕ (BuildHasherDefault FoldHasher)) (more : ℕ) : Type 0 where
  pub in_list : vec_len nodes + more ≤ vec_capacity nodes
  pub in_map : more ≤ spare places
  pub in_numbers : vec_len nodes + more ≤ 4294967296

-- the new list begins with the old one
pub record Extends {N : Type 0} (old new : List N) : Type 0 where
  pub more : List N
  pub is : new ≡ old ++ more

-- the list stays, or gets one more at its end
abbrev pub AddsAtMost : {N : Type 0} → List N → N → List N → Type 0
AddsAtMost old one new = (new ≡ old) ⊎ (new ≡ old ++ one ∷ [])

-- the formulas that places stand for
abbrev pub stands_for : List Node → List ℕ → List Formula
stands_for nodes places = map (formula_at (formulas_of nodes)) places

-- in the walk over a formula's symbols: the table grew from what it was, the parts are places in it, and the symbols
-- that are left make the formula of what the parts stand for
pub record IsPlacedTo (before now : List Node) (places : HashMap Node ℕ (BuildHasherDefault FoldHasher))
    (parts : List ℕ) (left : List Symbol) (formula : Formula) : Type 0 where
  pub indexed : IsIndexed now places
  pub kept : Extends before now
  pub inside : All (λ part. part < length now) parts
  pub makes : run_on left (stands_for now (reverse parts)) ≡ Some (formula ∷ [])
