-- When the results that a joiner keeps are right for a shelf and a rule's answers.
use Rattle.std.specs.Prelude.{ℕ, List, Some, [], ◌∷◌, Option, nat_eq, ◌&&◌, Vec}
use Rattle.std.specs.List.{list_all}
use Rattle.std.specs.Cmp.Lexicographic.{pointwise}
use Rattle.std.proofs.Common.{Global}
use Rattle.bdd_nodes.specs.declared.node_ref.NodeRef.{NodeRef}
use Rattle.bdd_nodes.specs.Shelf.{Contents}
use Rattle.bdd_nodes.specs.Changes.{is_valid}
use Rattle.bdd_walk.specs.declared.two_roots.RefPair.{RefPair}
use Rattle.bdd_walk.specs.declared.joiner.Joiner.{Joiner}
use Rattle.bdd_walk.specs.declared.set_joiner.SetJoiner.{SetJoiner}
use Rattle.bdd_walk.specs.Answers.{Answers}
use Rattle.bdd_walk.specs.Asked.{leaves_of, asked_of}
use Rattle.bdd_walk.specs.Sets.{set_of}
use Rattle.bdd_walk.specs.Sides.{asked_by, half_of}
use Rattle.bdd_walk.specs.Waits.{Memo, IsMemo}

-- the references of a key of two
abbrev pub refs_of : RefPair → List NodeRef
refs_of pair = pair.left ∷ pair.right ∷ []

-- results for one root
abbrev pub FitsOne : Contents → Answers → Memo NodeRef → Type 0
FitsOne shelf answers memo =
    IsMemo (λ a b. nat_eq a.word b.word) (λ root. leaves_of shelf (root ∷ [])) (is_valid shelf) shelf answers memo

-- results for two roots
abbrev pub FitsTwo : Contents → Answers → Memo RefPair → Type 0
FitsTwo shelf answers memo =
    IsMemo (λ a b. nat_eq a.left.word b.left.word && nat_eq a.right.word b.right.word) (λ pair. leaves_of shelf (refs_of pair))
    (λ pair. list_all (is_valid shelf) (refs_of pair)) shelf answers memo

-- results for a list of roots, of which a track is dropped
abbrev pub FitsMany : Option ℕ → Contents → Answers → Memo (Vec NodeRef Global) → Type 0
FitsMany dropped shelf answers memo =
    IsMemo (λ a b. pointwise (λ one other. nat_eq one.word other.word) a.items b.items)
    (λ roots. asked_by shelf dropped (half_of roots.items) roots.items) (λ roots. list_all (is_valid shelf) roots.items) shelf answers memo

-- the roots of each key are valid, and its result gives for each label the rule's answer on their leaves
pub record Fits (joiner : Joiner) (dropped : Option ℕ) (shelf : Contents) (answers : Answers) : Type 0 where
  pub one : FitsOne shelf answers joiner.one.memo
  pub two : FitsTwo shelf answers joiner.two.memo
  pub many : FitsMany dropped shelf answers joiner.many.memo

-- results for a set of roots, of which a track is dropped
abbrev pub FitsSetMemo : ℕ → Contents → Answers → Memo (Vec NodeRef Global) → Type 0
FitsSetMemo dropped shelf answers memo =
    IsMemo (λ a b. pointwise (λ one other. nat_eq one.word other.word) a.items b.items)
    (λ roots label. set_of (asked_of shelf roots.items (Some dropped) label)) (λ roots. list_all (is_valid shelf) roots.items) shelf answers memo

-- the roots of each key are valid, and its result gives for each label the rule's answer on the set of their leaves
abbrev pub FitsSets : SetJoiner → ℕ → Contents → Answers → Type 0
FitsSets joiner dropped shelf answers = FitsSetMemo dropped shelf answers joiner.kept.memo
