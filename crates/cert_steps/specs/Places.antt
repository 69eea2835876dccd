-- What the lines of a step's automaton have to be, each in its place.
use Rattle.std.specs.Prelude.{◌≡◌, ℕ, zero, suc, ◌+◌, ◌<◌, ◌≤◌, max, List, [], ◌∷◌, ◌++◌, length, fold, slice_get, slice_index, EachIndex, unwrap_or, Some}
use Rattle.std.specs.Option.{option_map_or}
use Rattle.std.specs.List.Sorted.{IsStrictlyIncreasing}
use Rattle.gta_theory.specs.Guides.{Spaces, left, right}
use Rattle.gta_theory.specs.Listed.{meanings}
use Rattle.cert_text.specs.declared.line.Target.{Target}
use Rattle.cert_text.specs.declared.line.Target.TheVariants as target
use Rattle.cert_text.specs.declared.line.SpaceLine.{SpaceLine}
use Rattle.cert_text.specs.declared.line.ClassLine.{ClassLine}
use Rattle.cert_text.specs.declared.line.NodeLine.{NodeLine}
use Rattle.cert_text.specs.declared.line.RootLine.{RootLine}
use Rattle.cert_nodes.specs.Nodes.{IsThere}
use Rattle.cert_steps.specs.Steps.{Rooted, AutomatonLines, nodes_of_row, nodes_of_rows}

-- the line is that of space s, which has a state; the initial one is there
pub record IsSpaceLine (s : ℕ) (line : SpaceLine) : Type 0 where
  pub in_place : line.space ≡ s
  pub has_initial : line.initial < line.states

-- one a space in order
pub record AreSpaceLines (count : ℕ) (lines : List SpaceLine) : Type 0 where
  pub many : length lines ≡ count
  pub each : (s : ℕ) (line : SpaceLine) → slice_get lines s ≡ Some line → IsSpaceLine s line

-- ---- classes

-- how many states a space has
abbrev pub states_in : List SpaceLine → ℕ → ℕ
states_in spaces s = option_map_or (λ line. line.states) (slice_get spaces s) 0

-- how many classes there are
abbrev pub class_count : List ℕ → ℕ
class_count classes = fold (λ n c. max n (c + 1)) 0 classes

-- each class is one of the first so many, or the next one
abbrev pub AreClassesFrom : ℕ → List ℕ → Type 0
AreClassesFrom n [] = Unit {0}
AreClassesFrom n (c ∷ classes) = (c ≤ n) × AreClassesFrom (max n (c + 1)) classes

-- the line is that of space s, with a class for each state of its child space, counted from 0
pub record IsClassLine (spaces : List SpaceLine) (s child : ℕ) (line : ClassLine) : Type 0 where
  pub in_place : line.space ≡ s
  pub many : length line.classes ≡ states_in spaces child
  pub counted : AreClassesFrom 0 line.classes

-- one a space in order, by which child space each has
pub record AreClassLines (spaces : List SpaceLine) (child : ℕ → ℕ) (count : ℕ) (lines : List ClassLine) : Type 0 where
  pub many : length lines ≡ count
  pub each : (s : ℕ) (line : ClassLine) → slice_get lines s ≡ Some line → IsClassLine spaces s (child s) line

-- ---- roots

-- the greatest state that a target reaches, by those of the nodes before it
abbrev pub greatest_on : List ℕ → Target → ℕ
greatest_on earlier (target.State q) = q
greatest_on earlier (target.Node zero) = 0
greatest_on earlier (target.Node (suc k)) = unwrap_or (slice_get earlier k) 0

abbrev pub greatest_of : List ℕ → NodeLine → ℕ
greatest_of earlier node = max (greatest_on earlier node.low) (greatest_on earlier node.high)

-- those of the nodes, in order
abbrev pub greatests_of : List NodeLine → List ℕ
greatests_of = meanings greatest_of

-- the root of two classes in space s: its target is there, and reaches states of the space alone
pub record IsRootAt (nodes : List NodeLine) (states s c d : ℕ) (root : RootLine) : Type 0 where
  pub in_place : root.space ≡ s
  pub of_left : root.left ≡ c
  pub of_right : root.right ≡ d
  pub there : IsThere nodes root.target
  pub within : greatest_on (greatests_of nodes) root.target < states

-- the roots of a row, by the nodes before it, from class d on
abbrev pub AreRootsFrom : List NodeLine → ℕ → ℕ → ℕ → ℕ → List Rooted → Type 0
AreRootsFrom nodes states s c d [] = Unit {0}
AreRootsFrom nodes states s c d (r ∷ row) =
    IsRootAt (nodes ++ r.nodes) states s c d r.root × AreRootsFrom (nodes ++ r.nodes) states s c (suc d) row

-- the row of a class on the left: one root for each class on the right
pub record IsRow (nodes : List NodeLine) (states s c count : ℕ) (row : List Rooted) : Type 0 where
  pub many : length row ≡ count
  pub roots : AreRootsFrom nodes states s c 0 row

abbrev pub AreRowsFrom : List NodeLine → ℕ → ℕ → ℕ → ℕ → List (List Rooted) → Type 0
AreRowsFrom nodes states s c count [] = Unit {0}
AreRowsFrom nodes states s c count (row ∷ rows) = IsRow nodes states s c count row × AreRowsFrom (nodes ++ nodes_of_row row) states s (suc c) count rows

-- the rows of a space, one for each class on the left
pub record AreRows (nodes : List NodeLine) (states s lefts rights : ℕ) (rows : List (List Rooted)) : Type 0 where
  pub many : length rows ≡ lefts
  pub each : AreRowsFrom nodes states s 0 rights rows

-- the spaces' rows, space by space
abbrev pub AreSpacesRows : List NodeLine → List SpaceLine → List ClassLine → List ClassLine → List (List (List Rooted)) → Type 0
AreSpacesRows nodes (space ∷ spaces) (l ∷ lefts) (r ∷ rights) (rows ∷ roots) =
    AreRows nodes space.states space.space (class_count l.classes) (class_count r.classes) rows
    × AreSpacesRows (nodes ++ nodes_of_rows rows) spaces lefts rights roots
AreSpacesRows nodes _ _ _ _ = Unit {0}

-- ---- the whole automaton

-- the accepting states rise, and are states of space 0
pub record AreAccepting (states : ℕ) (accepting : List ℕ) : Type 0 where
  pub rising : IsStrictlyIncreasing accepting
  pub below : EachIndex accepting (λ k. slice_index accepting k < states)

-- all lines of an automaton are in their places, behind these nodes
pub record AreInPlace (g : Spaces) (nodes : List NodeLine) (a : AutomatonLines) : Type 0 where
  pub spaces : AreSpaceLines (length g) a.spaces
  pub lefts : AreClassLines a.spaces (left g) (length g) a.lefts
  pub rights : AreClassLines a.spaces (right g) (length g) a.rights
  pub all_roots : length a.roots ≡ length g
  pub roots : AreSpacesRows nodes a.spaces a.lefts a.rights a.roots
  pub accepting : AreAccepting (states_in a.spaces 0) a.accepting
