-- References that stand for what is asked, and the parts of the whole.
use Rattle.std.proofs.Common.{◌≡◌, ℕ, suc, ◌<◌, ◌≤◌, Bool, true, false, List, Some, if◌then◌else◌, sym, ◌∙◌, ap, inl, inr, arith}
use Rattle.std.proofs.lemmas.Bool.{cases_lt}
use Rattle.std.proofs.Math.Path.{fun_ext}
use Rattle.bdd_nodes.specs.declared.node_ref.NodeRef.{NodeRef}
use Rattle.labels.specs.Labels.{Label, Function, with_track, with_below, IsUnder}
use Rattle.bdd_nodes.specs.Shelf.{Contents, IsShelf, IsLeaf, IsSideFor, AsksFrom, state_of, choice_of}
use Rattle.bdd_nodes.specs.Changes.{Keeps}
use Rattle.bdd_walk.specs.Answers.{Answers, KeepsAnswers, Completes}
use Rattle.bdd_walk.specs.Stands.{Asking, Stands, AsksSame, AsksByFrom, IsPart}
use Rattle.bdd_walk.specs.Steps.{IsSplitBy}
use Rattle.labels.proofs.LabelsLemmas.{with_track-same, with_track-later, with_below-from, with_below-at, with_below-with_below}
use Rattle.labels.proofs.LabelsLemmas.{with_below-with_track, fixed_with}
use Rattle.bdd_walk.proofs.ShelfLemmas.{AsksFrom-of_function}

pub KeepsAnswers-trans : (old middle new : Answers) → KeepsAnswers old middle → KeepsAnswers middle new → KeepsAnswers old new
KeepsAnswers-trans old middle new first second = λ states answer was. second states answer (first states answer was)

-- an answer is one
pub same_answer : (a b : ℕ) → Some a ≡ Some b → a ≡ b
same_answer a b e = cc

-- a reference stands for what it stood for
pub Stands-kept : (old new : Contents) (answers more : Answers) (asking : Asking) (r : NodeRef) → Keeps old new →
    KeepsAnswers answers more → Stands old answers asking r → Stands new more asking r
Stands-kept old new answers more asking r keeps kept stands = record {
  valid = keeps.valid r stands.valid;
  states = λ label. kept (asking label) (state_of old r label) (stands.states label) ∙ ap Some (sym (keeps.states r label stands.valid));
}

pub Stands-same : (shelf : Contents) (answers : Answers) (asking other : Asking) (r : NodeRef) →
    AsksSame asking other → Stands shelf answers other r → Stands shelf answers asking r
unfolding AsksSame
Stands-same shelf answers asking other r same stands = record {
  valid = stands.valid;
  states = λ label. ap answers (same label) ∙ stands.states label;
}

pub Stands-leaf : (shelf : Contents) (answers : Answers) (asking : Asking) (r : NodeRef) (states : List ℕ)
    (answer : ℕ) → IsLeaf r answer → answers states ≡ Some answer → ((label : Label) → asking label ≡ states) →
    Stands shelf answers asking r
Stands-leaf shelf answers asking r states answer leaf answered asks = record {
  valid = leaf.valid shelf;
  states = λ label. ap answers (asks label) ∙ answered ∙ ap Some (sym (leaf.states shelf label));
}

-- what doesn't depend on the tracks below t doesn't ask them
pub AsksFrom-of_stands : (shelf : Contents) (answers : Answers) (asking : Asking) (r : NodeRef) (t : ℕ) →
    IsShelf shelf → Stands shelf answers asking r → AsksByFrom t asking → AsksFrom shelf t r
unfolding AsksByFrom
AsksFrom-of_stands shelf answers asking r t is_shelf stands depends =
    AsksFrom-of_function shelf r t is_shelf stands.valid
    (λ l m agree. same_answer (state_of shelf r l) (state_of shelf r m) (sym (stands.states l) ∙ ap answers (depends l m agree) ∙ stands.states m))

pub IsSideFor-of_stands : (shelf : Contents) (answers : Answers) (asking : Asking) (r : NodeRef) (track : ℕ) →
    IsShelf shelf → Stands shelf answers asking r → AsksByFrom (suc track) asking → IsSideFor shelf track r
IsSideFor-of_stands shelf answers asking r track is_shelf stands depends = record {
  valid = stands.valid;
  later = AsksFrom-of_stands shelf answers asking r (suc track) is_shelf stands depends;
}

-- the answers on two sides are the answers on the choice
answers-if : (answers : Answers) (b : Bool) (x y : List ℕ) (p q : ℕ) → answers x ≡ Some p → answers y ≡ Some q →
    answers (if b then x else y) ≡ Some (if b then p else q)
answers-if answers true x y p q e f = e
answers-if answers false x y p q e f = f

pub answers-choice : (shelf : Contents) (answers : Answers) (track : ℕ) (asking low_asking high_asking : Asking)
    (low high : NodeRef) → IsSplitBy track asking low_asking high_asking → Stands shelf answers low_asking low →
    Stands shelf answers high_asking high → (label : Label) → answers (asking label)
    ≡ Some (choice_of shelf track low high label)
answers-choice shelf answers track asking low_asking high_asking low high split low_stands high_stands label =
    ap answers (split.asks label)
    ∙ answers-if answers (label track) (high_asking label) (low_asking label) (state_of shelf high label)
    (state_of shelf low label) (high_stands.states label) (low_stands.states label)

-- the whole is a part of itself
pub IsPart-whole : (whole : Asking) → IsPart whole whole
IsPart-whole whole = record {
  below = 0;
  fixed = λ u. false;
  asks = λ label. ap whole (fun_ext (λ u. sym (with_below-from 0 (λ v. false) label u (omega arith))));
}

pub IsPart-same : (whole part other : Asking) → AsksSame part other → IsPart whole part → IsPart whole other
unfolding AsksSame
IsPart-same whole part other same is_part = record {
  below = is_part.below;
  fixed = is_part.fixed;
  asks = λ label. sym (same label) ∙ is_part.asks label;
}

-- what a part becomes where a track more is fixed
module _ (whole part side : Asking) (track : ℕ) (bit : Bool) (later : AsksByFrom (suc track) side)
    (is_side : (label : Label) → label track ≡ bit → part label ≡ side label) (is_part : IsPart whole part) where
  side-fixed_before : track < is_part.below → (label : Label) → side label ≡ whole (with_below is_part.below is_part.fixed label)
  unfolding AsksByFrom
  side-fixed_before within label =
      later label (with_track label track bit) (λ u after. sym (with_track-later label track u bit after))
      ∙ sym (is_side (with_track label track bit) (with_track-same label track bit))
      ∙ is_part.asks (with_track label track bit)
      ∙ ap whole (fun_ext (with_below-with_track is_part.below is_part.fixed label track bit within))

  side-fixed_now : is_part.below ≤ track → (label : Label) →
      side label ≡ whole (with_below (suc track) (fixed_with is_part.below is_part.fixed track bit) label)
  unfolding AsksByFrom
  side-fixed_now within label =
      let fixed = fixed_with is_part.below is_part.fixed track bit in
      later label (with_below (suc track) fixed label) (λ u after. sym (with_below-from (suc track) fixed label u after))
      ∙ sym (is_side (with_below (suc track) fixed label) (with_below-at is_part.below is_part.fixed label track bit within))
      ∙ is_part.asks (with_below (suc track) fixed label)
      ∙ ap whole (fun_ext (with_below-with_below is_part.below is_part.fixed label track bit within))

  pub IsPart-side : IsPart whole side
  IsPart-side = elim (cases_lt track is_part.below) [
    | inl within ↦ record { below = is_part.below; fixed = is_part.fixed; asks = side-fixed_before within }
    | inr within ↦ record { below = suc track; fixed = fixed_with is_part.below is_part.fixed track bit; asks = side-fixed_now within }
  ]

pub IsPart-low : (whole asking low high : Asking) (track : ℕ) → IsSplitBy track asking low high → IsPart whole asking → IsPart whole low
IsPart-low whole asking low high track split is_part =
    IsPart-side whole asking low track false split.low_later (λ label e. split.asks label ∙ ap (λ (b : Bool). if b then high label else low label) e) is_part

pub IsPart-high : (whole asking low high : Asking) (track : ℕ) → IsSplitBy track asking low high → IsPart whole asking → IsPart whole high
IsPart-high whole asking low high track split is_part =
    IsPart-side whole asking high track true split.high_later (λ label e. split.asks label ∙ ap (λ (b : Bool). if b then high label else low label) e) is_part

-- the answers on a part are a function under the answers on the whole
pub IsUnder-part : (answers : Answers) (whole asking : Asking) (function : Function) (given : List ℕ → ℕ) →
    Completes answers given → IsPart whole asking →
    ((label : Label) → answers (asking label) ≡ Some (function label)) → IsUnder (λ label. given (whole label)) function
IsUnder-part answers whole asking function given completes is_part answered = record {
  below = is_part.below;
  fixed = is_part.fixed;
  states = λ label. sym (completes (asking label) (function label) (answered label)) ∙ ap given (is_part.asks label);
}
