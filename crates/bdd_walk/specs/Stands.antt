-- What is wanted, and when a reference stands for it.
use Rattle.std.specs.Prelude.{◌≡◌, ◌≤◌, ℕ, List, Some}
use Rattle.bdd_nodes.specs.declared.node_ref.NodeRef.{NodeRef}
use Rattle.labels.specs.Labels.{Label, with_below}
use Rattle.bdd_nodes.specs.Shelf.{Contents, IsValid, state_of}
use Rattle.bdd_walk.specs.Answers.{Answers}

-- for each label the list that is put to the rule
abbrev pub Asking : Type 0
Asking = Label → List ℕ

-- for each label the reference has the rule's answer
pub record Stands (shelf : Contents) (answers : Answers) (asking : Asking) (r : NodeRef) : Type 0 where
  pub valid : IsValid shelf r
  pub states : (label : Label) → answers (asking label) ≡ Some (state_of shelf r label)

-- both ask the same
unfoldable pub AsksSame : Asking → Asking → Type 0
AsksSame asking other = (label : Label) → asking label ≡ other label

-- only the tracks from t on matter
unfoldable pub AsksByFrom : ℕ → Asking → Type 0
AsksByFrom t asking = (l m : Label) → ((u : ℕ) → t ≤ u → l u ≡ m u) → asking l ≡ asking m

-- what is asked when the tracks below some number are fixed
pub record IsPart (whole part : Asking) : Type 0 where
  pub below : ℕ
  pub fixed : Label
  pub asks : (label : Label) → part label ≡ whole (with_below below fixed label)
