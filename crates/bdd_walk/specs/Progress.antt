-- What a walk has changed so far.
use Rattle.std.specs.Prelude.{◌≡◌, ◌≢◌, ◌+◌, List, length, All, AllPairs, Contains, ◌⊎◌, Bool}
use Rattle.bdd_nodes.specs.declared.node_ref.NodeRef.{NodeRef}
use Rattle.bdd_nodes.specs.Shelf.{Contents, IsShelf, IsValid, count_of, limit_of}
use Rattle.bdd_nodes.specs.Changes.{Keeps, SameTables}
use Rattle.bdd_walk.specs.Answers.{Answers, KeepsAnswers}
use Rattle.bdd_walk.specs.declared.walk.Frame.{Frame}
use Rattle.bdd_walk.specs.declared.walk.Turn.{Turn}
use Rattle.bdd_walk.specs.Stands.{Asking, IsPart, Stands}
use Rattle.bdd_walk.specs.Waits.{Memo, IsMemo, IsUnderway}

-- the shelf and the answers at the start of a call, and what it asks for each label
pub record Call : Type 0 where
  pub shelf : Contents
  pub answers : Answers
  pub whole : Asking

-- a new node: it stands for a part of the whole
pub record IsNew (call : Call) (shelf : Contents) (answers : Answers) (r : NodeRef) : Type 0 where
  pub absent : IsValid call.shelf r → ⊥
  pub asking : Asking
  pub part : IsPart call.whole asking
  pub stands : Stands shelf answers asking r

-- the new nodes, each counted once
pub record AddsNew (call : Call) (shelf : Contents) (answers : Answers) : Type 0 where
  pub nodes : List NodeRef
  pub each : All (IsNew call shelf answers) nodes
  pub distinct : AllPairs (λ one other. one ≢ other) nodes
  pub count : count_of shelf ≡ count_of call.shelf + length nodes
  pub only : (r : NodeRef) → IsValid shelf r → IsValid call.shelf r ⊎ Contains nodes r

-- the shelf as the call has changed it
pub record Progress (call : Call) (shelf : Contents) (answers : Answers) : Type 0 where
  pub before : IsShelf call.shelf
  pub now : IsShelf shelf
  pub keeps : Keeps call.shelf shelf
  pub same_limit : limit_of shelf ≡ limit_of call.shelf
  pub tables : SameTables call.shelf shelf
  pub adds : AddsNew call shelf answers
  pub answers_kept : KeepsAnswers call.answers answers

-- a walk at work: what it has changed so far, the results that it keeps, and what waits for what is worked on
pub record Works {K : Type 0} (eq : K → K → Bool) (asked : K → Asking) (is_in : K → Bool) (call : Call)
    (shelf : Contents) (answers : Answers) (memo : Memo K) (stack : List (Frame K)) (turn : Turn K) : Type 0 where
  pub progress : Progress call shelf answers
  pub kept : IsMemo eq asked is_in shelf answers memo
  pub underway : IsUnderway asked is_in shelf answers call.whole stack turn
