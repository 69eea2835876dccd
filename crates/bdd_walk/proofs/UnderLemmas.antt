-- New nodes stand under the result.
use Rattle.std.proofs.Common.{◌≡◌, ℕ, suc, zero, ◌≤◌, Bool, if◌then◌else◌, sym, ◌∙◌, ap, subst, inl, inr, arith}
use Rattle.std.proofs.lemmas.Bool.{cases_lt, cases_Bool}
use Rattle.std.proofs.lemmas.List.Elements.{All-contains}
use Rattle.bdd_nodes.specs.declared.node_ref.NodeRef.{NodeRef}
use Rattle.labels.specs.Labels.{Label, with_below}
use Rattle.bdd_nodes.specs.Shelf.{Contents, IsShelf, IsValid, rank_of, state_of, low_of, high_of}
use Rattle.bdd_nodes.specs.Changes.{Reaches, itself, by_low, by_high}
use Rattle.bdd_nodes.proofs.SplitLemmas.{same_reference, unasked, is_leaf, splits, cases_of}
use Rattle.bdd_walk.specs.Answers.{Answers}
use Rattle.bdd_walk.specs.Under.{AddsUnder}
use Rattle.bdd_walk.specs.Stands.{Stands}
use Rattle.bdd_walk.specs.Progress.{Call, IsNew, Progress}
use Rattle.labels.proofs.LabelsLemmas.{with_below-under, with_below-from}
use Rattle.bdd_walk.proofs.StandsLemmas.{same_answer}

-- a reference that is reached, with the function of another where the tracks below some number are fixed
record Leads (shelf : Contents) (start from : NodeRef) (below : ℕ) (fixed : Label) : Type 0 where
  pub to : NodeRef
  pub valid : IsValid shelf to
  pub reached : Reaches shelf.nodes start to
  pub states : (label : Label) → state_of shelf to label ≡ state_of shelf from (with_below below fixed label)

module _ (shelf : Contents) (is_shelf : IsShelf shelf) (start : NodeRef) (below : ℕ) (fixed : Label) where
  -- what asks from the number on is there
  arrived : (r : NodeRef) → IsValid shelf r → Reaches shelf.nodes start r →
      ((l m : Label) → ((u : ℕ) → below ≤ u → l u ≡ m u) → state_of shelf r l ≡ state_of shelf r m) →
      Leads shelf start r below fixed
  arrived r valid reached depends = record {
    to = r;
    valid = valid;
    reached = reached;
    states = λ label. depends label (with_below below fixed label) (λ u from. sym (with_below-from below fixed label u from));
  }

  -- a side where the first track is fixed
  further : (r side : NodeRef) →
      ((label : Label) → state_of shelf side (with_below below fixed label)
      ≡ state_of shelf r (with_below below fixed label)) → Leads shelf start side below fixed →
      Leads shelf start r below fixed
  further r side same leads = record {
    to = leads.to;
    valid = leads.valid;
    reached = leads.reached;
    states = λ label. leads.states label ∙ same label;
  }

  leads_within : (k : ℕ) (r : NodeRef) → rank_of r ≤ k → IsValid shelf r → Reaches shelf.nodes start r → Leads shelf start r below fixed
  leads_within zero r within valid reached = elim (cases_of shelf r is_shelf valid) [
    | is_leaf top others asks ↦ arrived r valid reached (λ l m agree. unasked shelf r below l m is_shelf valid (asks below) agree)
    | splits track top split asks_to asks_of ↦ absurd (let falls = split.low_falls in omega arith)
  ]
  leads_within (suc k) r within valid reached = elim (cases_of shelf r is_shelf valid) [
    | is_leaf top others asks ↦ arrived r valid reached (λ l m agree. unasked shelf r below l m is_shelf valid (asks below) agree)
    | splits track top split asks_to asks_of ↦ elim (cases_lt track below) [
      | inr from ↦ arrived r valid reached (λ l m agree. unasked shelf r below l m is_shelf valid (asks_to below from) agree)
      | inl under ↦ elim (cases_Bool (fixed track)) [
        | inl is_set ↦ further r (high_of shelf r)
            (λ label. sym (split.states (with_below below fixed label)
            ∙ ap (λ (b : Bool). if b then state_of shelf (high_of shelf r) (with_below below fixed label)
            else state_of shelf (low_of shelf r) (with_below below fixed label))
            (with_below-under below fixed label track under ∙ is_set)))
            (leads_within k (high_of shelf r) (let falls = split.high_falls in omega arith) split.high.valid (by_high r reached))
        | inr is_unset ↦ further r (low_of shelf r)
            (λ label. sym (split.states (with_below below fixed label)
            ∙ ap (λ (b : Bool). if b then state_of shelf (high_of shelf r) (with_below below fixed label)
            else state_of shelf (low_of shelf r) (with_below below fixed label))
            (with_below-under below fixed label track under ∙ is_unset)))
            (leads_within k (low_of shelf r) (let falls = split.low_falls in omega arith) split.low.valid (by_low r reached))
      ]
    ]
  ]

new-reached : (call : Call) (shelf : Contents) (answers : Answers) (made r : NodeRef) → IsShelf shelf →
    Stands shelf answers call.whole made → IsNew call shelf answers r → Reaches shelf.nodes made r
new-reached call shelf answers made r is_shelf stands is_new =
    let below = is_new.part.below in
    let fixed = is_new.part.fixed in
    let leads = leads_within shelf is_shelf made below fixed (rank_of made) made (omega arith) stands.valid itself in
    subst (Reaches shelf.nodes made)
    (same_reference shelf leads.to r is_shelf leads.valid is_new.stands.valid
    (λ label. leads.states label
    ∙ same_answer (state_of shelf made (with_below below fixed label)) (state_of shelf r label)
    (sym (stands.states (with_below below fixed label)) ∙ ap answers (sym (is_new.part.asks label)) ∙ is_new.stands.states label)))
    leads.reached

-- the nodes after the call are those before it and those under the result
pub AddsUnder-stands : (call : Call) (shelf : Contents) (answers : Answers) (made : NodeRef) →
    Progress call shelf answers → Stands shelf answers call.whole made → AddsUnder call.shelf shelf made
unfolding AddsUnder
AddsUnder-stands call shelf answers made progress stands = λ r valid. elim (progress.adds.only r valid) [
  | inl was ↦ inl was
  | inr is_there ↦ inr (new-reached call shelf answers made r progress.now stands
      (All-contains (IsNew call shelf answers) progress.adds.nodes r progress.adds.each is_there))
]
