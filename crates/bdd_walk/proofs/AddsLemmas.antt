-- The nodes that a walk adds, and what doesn't fit.
use Rattle.std.proofs.Common.{◌≡◌, ◌≢◌, ℕ, suc, ◌+◌, Bool, List, [], ◌∷◌, map, get_or, Some, if◌then◌else◌, sym, ◌∙◌, ap, refl, subst, inl, inr, arith, ◌⊎◌}
use Rattle.std.specs.List.{All, AllPairs, Contains}
use Rattle.std.proofs.lemmas.Bool.{cases_Bool}
use Rattle.std.proofs.lemmas.List.{length-map}
use Rattle.std.proofs.lemmas.List.Elements.{All-cons, All-contains}
use Rattle.std.proofs.lemmas.List.Kept.{AllPairs-cons}
use Rattle.bdd_nodes.specs.declared.node_ref.NodeRef.{NodeRef}
use Rattle.labels.specs.Labels.{Label, Function}
use Rattle.bdd_nodes.specs.Shelf.{Contents, IsValid, IsSideFor, IsFullFor, Has, count_of, state_of, choice_of}
use Rattle.bdd_nodes.specs.Changes.{Keeps, AddsOnly, is_valid}
use Rattle.bdd_nodes.proofs.SplitLemmas.{same_reference, is_valid-true, is_valid-false}
use Rattle.bdd_walk.specs.Answers.{Answers, KeepsAnswers, Completes}
use Rattle.bdd_walk.specs.Under.{IsMissing, HasCome, Adds, Exceeds, AddsParts}
use Rattle.bdd_walk.specs.Stands.{Asking, Stands, IsPart}
use Rattle.bdd_walk.specs.Progress.{Call, IsNew, AddsNew, Progress}
use Rattle.bdd_walk.proofs.ShelfLemmas.{varies-of_absent, varies-choice}
use Rattle.bdd_walk.proofs.StandsLemmas.{Stands-kept, IsUnder-part}
use Rattle.bdd_nodes.proofs.CallerLemmas.{Keeps-refl}

-- what holds of all holds of all in another way
pub All-weaker : {X : Type 0} (P Q : X → Type 0) → ((x : X) → P x → Q x) → (xs : List X) → All P xs → All Q xs
All-weaker P Q weaker xs all = λ k d within. weaker (get_or xs k d) (all k d within)

Contains-head : (r : NodeRef) (rs : List NodeRef) → Contains (r ∷ rs) r
Contains-head r rs = (0, omega arith, refl)

Contains-tail : (r s : NodeRef) (rs : List NodeRef) → Contains rs s → Contains (r ∷ rs) s
Contains-tail r s rs is_there = (suc is_there.0, (let below = is_there.1 in omega arith), is_there.2)

pub All-tail : {X : Type 0} (P : X → Type 0) (x : X) (xs : List X) → All P (x ∷ xs) → All P xs
All-tail P x xs all = λ k d within. all (suc k) d (omega arith)

pub All-head : {X : Type 0} (P : X → Type 0) (x : X) (xs : List X) → All P (x ∷ xs) → P x
All-head P x xs all = all 0 x (omega arith)

pub AllPairs-tail : {X : Type 0} (R : X → X → Type 0) (x : X) (xs : List X) → AllPairs R (x ∷ xs) → AllPairs R xs
AllPairs-tail R x xs all = λ i j d below within. all (suc i) (suc j) d (omega arith) (omega arith)

pub AllPairs-head : {X : Type 0} (R : X → X → Type 0) (x : X) (xs : List X) → AllPairs R (x ∷ xs) → All (R x) xs
AllPairs-head R x xs all = λ k d within. all 0 (suc k) d (omega arith) (omega arith)

-- what holds of the elements of a list holds of a map of it
All-over_map : {X Y : Type 0} (P : X → Type 0) (Q : Y → Type 0) (f : X → Y) → ((x : X) → P x → Q (f x)) → (xs : List X) → All P xs → All Q (map f xs)
All-over_map P Q f over [] all = λ k d within. absurd (omega arith)
All-over_map P Q f over (x ∷ xs) all =
    All-cons Q (f x) (map f xs) (over x (All-head P x xs all)) (All-over_map P Q f over xs (All-tail P x xs all))

-- different elements have different images
AllPairs-over_map : {X Y : Type 0} (P : X → Type 0) (f : X → Y) → ((x y : X) → P x → P y → x ≢ y → f x ≢ f y) →
    (xs : List X) → All P xs → AllPairs (λ x y. x ≢ y) xs → AllPairs (λ x y. x ≢ y) (map f xs)
AllPairs-over_map P f apart [] all pairs = λ i j d below within. absurd (omega arith)
AllPairs-over_map {X} {Y} P f apart (x ∷ xs) all pairs =
    AllPairs-cons (λ (a b : Y). a ≢ b) (f x) (map f xs)
    (All-over_map (λ (y : X). P y × (x ≢ y)) (λ (b : Y). f x ≢ b) f (λ y holds. apart x y (All-head P x xs all) holds.0 holds.1) xs
    (λ k d within. (All-tail P x xs all k d within, AllPairs-head (λ (a b : X). a ≢ b) x xs pairs k d within)))
    (AllPairs-over_map P f apart xs (All-tail P x xs all) (AllPairs-tail (λ (a b : X). a ≢ b) x xs pairs))

-- at the start nothing is new
pub AddsNew-none : (call : Call) → AddsNew call call.shelf call.answers
AddsNew-none call = record {
  nodes = [];
  each = λ k d within. absurd (omega arith);
  distinct = λ i j d below within. absurd (omega arith);
  count = omega arith;
  only = λ r valid. inl valid;
}

IsNew-kept : (call : Call) (old new : Contents) (answers more : Answers) → Keeps old new →
    KeepsAnswers answers more → (r : NodeRef) → IsNew call old answers r → IsNew call new more r
IsNew-kept call old new answers more keeps kept r is_new = record {
  absent = is_new.absent;
  asking = is_new.asking;
  part = is_new.part;
  stands = Stands-kept old new answers more is_new.asking r keeps kept is_new.stands;
}

-- further answers change no node
pub AddsNew-answers : (call : Call) (shelf : Contents) (answers more : Answers) → KeepsAnswers answers more →
    AddsNew call shelf answers → AddsNew call shelf more
AddsNew-answers call shelf answers more kept adds = record {
  nodes = adds.nodes;
  each = All-weaker (IsNew call shelf answers) (IsNew call shelf more)
      (IsNew-kept call shelf shelf answers more (Keeps-refl shelf) kept) adds.nodes adds.each;
  distinct = adds.distinct;
  count = adds.count;
  only = adds.only;
}

-- one node may be made for a part of the whole
module _ (call : Call) (old new : Contents) (answers : Answers) (made : NodeRef) (asking : Asking)
    (before : Keeps call.shelf old) (keeps : Keeps old new) (only : AddsOnly old new made)
    (count : count_of new ≡ (if is_valid old made then count_of old else count_of old + 1))
    (part : IsPart call.whole asking) (stands : Stands new answers asking made)
    (adds : AddsNew call old answers) where
  each-kept : All (IsNew call new answers) adds.nodes
  each-kept = All-weaker (IsNew call old answers) (IsNew call new answers)
      (IsNew-kept call old new answers answers keeps (λ states answer was. was)) adds.nodes adds.each

  only-there : IsValid old made → (r : NodeRef) → IsValid new r → IsValid call.shelf r ⊎ Contains adds.nodes r
  unfolding AddsOnly
  only-there there r valid = elim (only r valid) [
    | inl was ↦ adds.only r was
    | inr same ↦ adds.only r (subst (IsValid old) (sym same) there)
  ]

  only-more : (r : NodeRef) → IsValid new r → IsValid call.shelf r ⊎ Contains (made ∷ adds.nodes) r
  unfolding AddsOnly
  only-more r valid = elim (only r valid) [
    | inl was ↦ elim (adds.only r was) [ inl first ↦ inl first | inr is_there ↦ inr (Contains-tail made r adds.nodes is_there) ]
    | inr same ↦ inr (subst (Contains (made ∷ adds.nodes)) (sym same) (Contains-head made adds.nodes))
  ]

  pub AddsNew-made : AddsNew call new answers
  AddsNew-made = elim (cases_Bool (is_valid old made)) [
    | inl there ↦ record {
      nodes = adds.nodes;
      each = each-kept;
      distinct = adds.distinct;
      count = count ∙ ap (λ (b : Bool). if b then count_of old else count_of old + 1) there ∙ adds.count;
      only = only-there (is_valid-true old made there);
    }
    | inr fresh ↦ record {
      nodes = made ∷ adds.nodes;
      each = All-cons (IsNew call new answers) made adds.nodes
          (record { absent = λ valid. is_valid-false old made fresh (before.valid made valid); asking = asking; part = part; stands = stands }) each-kept;
      distinct = AllPairs-cons (λ (a b : NodeRef). a ≢ b) made adds.nodes
          (λ k d within same. is_valid-false old made fresh (subst (IsValid old) (sym same) (adds.each k d within).stands.valid)) adds.distinct;
      count = count ∙ ap (λ (b : Bool). if b then count_of old else count_of old + 1) fresh ∙ (let e = adds.count in omega arith);
      only = only-more;
    }
  ]

-- every new node stands for a function under the whole
pub AddsParts-new : (call : Call) (shelf : Contents) (answers : Answers) (given : List ℕ → ℕ) →
    Completes answers given → AddsNew call shelf answers →
    AddsParts call.shelf shelf (λ label. given (call.whole label))
unfolding AddsParts
AddsParts-new call shelf answers given completes adds = λ r valid. elim (adds.only r valid) [
  | inl was ↦ inl was
  | inr is_there ↦ inr (
      let is_new = All-contains (IsNew call shelf answers) adds.nodes r adds.each is_there in
      IsUnder-part answers call.whole is_new.asking (state_of shelf r) given completes is_new.part is_new.stands.states)
]

-- what the new nodes stand for
module _ (call : Call) (shelf : Contents) (answers : Answers) (given : List ℕ →
    ℕ) (completes : Completes answers given) (progress : Progress call shelf answers) where
  whole_given : Function
  whole_given = λ label. given (call.whole label)

  has_now : (function : Function) → Has call.shelf function → Has shelf function
  has_now function has = record {
    at = has.at;
    valid = progress.keeps.valid has.at has.valid;
    states = λ label. progress.keeps.states has.at label has.valid ∙ has.states label;
  }

  new-missing : (r : NodeRef) → IsNew call shelf answers r → IsMissing call.shelf whole_given (state_of shelf r)
  unfolding whole_given
  new-missing r is_new = record {
    under = IsUnder-part answers call.whole is_new.asking (state_of shelf r) given completes is_new.part is_new.stands.states;
    varies = varies-of_absent shelf call.shelf r progress.now is_new.stands.valid is_new.absent;
    absent = λ has. is_new.absent (subst (IsValid call.shelf)
        (same_reference shelf has.at r progress.now (progress.keeps.valid has.at has.valid) is_new.stands.valid
        (λ label. progress.keeps.states has.at label has.valid ∙ has.states label))
        has.valid);
  }

  new-apart : (r s : NodeRef) → IsNew call shelf answers r → IsNew call shelf answers s → r ≢ s → state_of shelf r ≢ state_of shelf s
  new-apart r s r_new s_new apart same =
      apart (same_reference shelf r s progress.now r_new.stands.valid s_new.stands.valid (λ label. ap (λ (f : Function). f label) same))

  new-came : (r : NodeRef) → IsNew call shelf answers r → HasCome call.shelf shelf (whole_given ∷ []) (state_of shelf r)
  new-came r is_new = record {
    missing = record { whole = whole_given; among = (0, omega arith, refl); missing = new-missing r is_new };
    has = record { at = r; valid = is_new.stands.valid; states = λ label. refl };
  }

  -- each new node stands for a function that was missing
  pub Adds-new : Adds call.shelf shelf (λ label. given (call.whole label))
  unfolding whole_given
  Adds-new = record {
    parts = map (state_of shelf) progress.adds.nodes;
    came = All-over_map (IsNew call shelf answers) (HasCome call.shelf shelf (whole_given ∷ [])) (state_of shelf) new-came progress.adds.nodes
        progress.adds.each;
    distinct = AllPairs-over_map (IsNew call shelf answers) (state_of shelf) new-apart progress.adds.nodes progress.adds.each progress.adds.distinct;
    count =
        let mapped = length-map progress.adds.nodes (state_of shelf) in
        let count = progress.adds.count in
        omega arith;
  }

  -- where there is no room for a node, the new ones and this one are more than there was room for
  module _ (track : ℕ) (low high : NodeRef) (low_side : IsSideFor shelf track low) (high_side : IsSideFor shelf track high)
      (full : IsFullFor shelf track low high) (asking : Asking) (part : IsPart call.whole asking)
      (answered : (label : Label) → answers (asking label) ≡ Some (choice_of shelf track low high label)) where
    choice-missing : IsMissing call.shelf whole_given (choice_of shelf track low high)
    unfolding whole_given
    choice-missing = record {
      under = IsUnder-part answers call.whole asking (choice_of shelf track low high) given completes part answered;
      varies = varies-choice shelf track low high progress.now low_side high_side full.differ;
      absent = λ has. full.absent (has_now (choice_of shelf track low high) has);
    }

    choice-apart : (r : NodeRef) → IsNew call shelf answers r → choice_of shelf track low high ≢ state_of shelf r
    choice-apart r r_new same = full.absent (record { at = r; valid = r_new.stands.valid; states = λ label. ap (λ (f : Function). f label) (sym same) })

    parts : List Function
    parts = choice_of shelf track low high ∷ map (state_of shelf) progress.adds.nodes

    pub Exceeds-full : Exceeds call.shelf (λ label. given (call.whole label))
    unfolding whole_given parts
    Exceeds-full = record {
      parts = parts;
      missing = All-cons (IsMissing call.shelf whole_given) (choice_of shelf track low high) (map (state_of shelf) progress.adds.nodes) choice-missing
          (All-over_map (IsNew call shelf answers) (IsMissing call.shelf whole_given) (state_of shelf) new-missing progress.adds.nodes progress.adds.each);
      distinct = AllPairs-cons (λ (f g : Function). f ≢ g) (choice_of shelf track low high) (map (state_of shelf) progress.adds.nodes)
          (All-over_map (IsNew call shelf answers) (λ (f : Function). choice_of shelf track low high ≢ f)
          (state_of shelf) choice-apart progress.adds.nodes progress.adds.each)
          (AllPairs-over_map (IsNew call shelf answers) (state_of shelf) new-apart progress.adds.nodes progress.adds.each progress.adds.distinct);
      more =
          let mapped = length-map progress.adds.nodes (state_of shelf) in
          let count = progress.adds.count in
          let limit = progress.same_limit in
          let fills = full.full in
          omega arith;
    }
