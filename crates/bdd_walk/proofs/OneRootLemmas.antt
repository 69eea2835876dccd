-- The steps from one reference.
use Rattle.std.proofs.Common.{◌≡◌, ℕ, ◌<◌, Bool, true, false, [], ◌∷◌, eqb, Option, Some, None, if◌then◌else◌, IsTrue, sym, ◌∙◌}
use Rattle.std.proofs.Common.{ap, refl, subst, inl, inr, arith}
use Rattle.std.specs.List.{list_all}
use Rattle.std.proofs.lemmas.Bool.{cases_Bool, eqb-true, eqb-false}
use Rattle.bdd_nodes.specs.declared.node_ref.NodeRef.{NodeRef}
use Rattle.labels.specs.Labels.{Label, with_track}
use Rattle.bdd_nodes.specs.Shelf.{Contents, IsShelf, top_of, rank_of}
use Rattle.bdd_nodes.specs.Changes.{Keeps, is_valid}
use Rattle.bdd_walk.specs.declared.one_root.FixedTrack.{FixedTrack}
use Rattle.bdd_walk.specs.Asked.{leaves_of}
use Rattle.bdd_walk.specs.Stands.{AsksSame}
use Rattle.bdd_walk.specs.declared.walk.Step.{Step}
use Rattle.bdd_walk.specs.declared.walk.Step.TheVariants.{Skip, Split}
use Rattle.bdd_walk.specs.Steps.{IsStep, IsSkip, IsSplit}
use Rattle.bdd_walk.specs.Sides.{side_at, fixed_label, bit_at, AskFirst, IsFirstOf}
use Rattle.bdd_walk.specs.Laws.{and-left, and-both}
use Rattle.labels.proofs.LabelsLemmas.{with_track-same}
use Rattle.bdd_walk.proofs.SidesLemmas.{AskFirst-kept, IsFirstOf-push}
use Rattle.bdd_walk.proofs.KeysLemmas.{IsView, IsView-itself, IsView-with_track, sides_in, sides_fall, leaves_side, IsSplitBy-sides}

-- where the track is fixed the label is read so
fixed-at : (fixed : Option FixedTrack) (track : ℕ) (bit : Bool) (label : Label) → bit_at fixed track ≡ Some bit → fixed_label fixed label track ≡ bit
fixed-at None track bit label e = absurd (let f : None ≡ Some bit = e in cc)
fixed-at (Some fixed) track bit label e = elim (cases_Bool (eqb fixed.track track)) [
  | inl same ↦
      let f : Some fixed.bit ≡ Some bit = sym (ap (λ (b : Bool). if b then Some fixed.bit else None) same) ∙ e in
      let is : fixed.bit ≡ bit = cc in
      ap (λ (t : ℕ). with_track label fixed.track fixed.bit t) (sym (eqb-true fixed.track track same)) ∙ with_track-same label fixed.track fixed.bit ∙ is
  | inr other ↦ absurd (let f : None ≡ Some bit = sym (ap (λ (b : Bool). if b then Some fixed.bit else None) other) ∙ e in cc)
]

-- where it isn't, labels are read as they are
view-at : (fixed : Option FixedTrack) (track : ℕ) → bit_at fixed track ≡ None → IsView track (fixed_label fixed)
view-at None track e = IsView-itself track
view-at (Some fixed) track e = elim (cases_Bool (eqb fixed.track track)) [
  | inl same ↦ absurd (let f : Some fixed.bit ≡ None = sym (ap (λ (b : Bool). if b then Some fixed.bit else None) same) ∙ e in cc)
  | inr other ↦ IsView-with_track track fixed.track fixed.bit (eqb-false fixed.track track other)
]

module _ (fixed : Option FixedTrack) (base now : Contents) (is_shelf : IsShelf base) (keeps : Keeps base now)
    (r : NodeRef) (valid : IsTrue (is_valid base r)) (track : ℕ) (top : top_of now r ≡ Some track) where
  one_valid : IsTrue (list_all (is_valid base) (r ∷ []))
  one_valid = and-both (is_valid base r) true valid refl

  one_first : AskFirst now track (r ∷ [])
  one_first = subst (IsFirstOf now (r ∷ [])) top (IsFirstOf-push now [] r None (record { all = tt }))

  one_falls : (bit : Bool) → rank_of (side_at now track bit r) < rank_of r
  one_falls bit = let falls = sides_fall base now is_shelf keeps track (r ∷ []) one_valid one_first bit in omega arith

  one_in : (bit : Bool) → IsTrue (is_valid base (side_at now track bit r))
  one_in bit = and-left (is_valid base (side_at now track bit r)) true (sides_in base now is_shelf keeps track (r ∷ []) one_valid bit)

  pub IsSkip-one : (bit : Bool) → bit_at fixed track ≡ Some bit →
      IsSkip (λ (root : NodeRef). λ label. leaves_of base (root ∷ []) (fixed_label fixed label))
      (λ root. is_valid base root) (λ root. rank_of root) r (side_at now track bit r)
  unfolding AsksSame
  IsSkip-one bit is_fixed = record {
    goes = record { inside = one_in bit; falls = one_falls bit };
    same = λ label. leaves_side base now is_shelf keeps track (r ∷ []) one_valid bit (fixed_label fixed label) (fixed-at fixed track bit label is_fixed);
  }

  pub IsSplit-one : bit_at fixed track ≡ None →
      IsSplit (λ (root : NodeRef). λ label. leaves_of base (root ∷ []) (fixed_label fixed label))
      (λ root. is_valid base root) (λ root. rank_of root) r track (side_at now track false r) (side_at now track true r)
  IsSplit-one free = record {
    low_goes = record { inside = one_in false; falls = one_falls false };
    high_goes = record { inside = one_in true; falls = one_falls true };
    split = IsSplitBy-sides base now is_shelf keeps track (r ∷ []) one_valid
        (AskFirst-kept base now keeps track (r ∷ []) one_valid one_first).all (fixed_label fixed)
        (view-at fixed track free);
  }

-- a step from the reference
abbrev pub StepsOne : Option FixedTrack → Contents → NodeRef → Step NodeRef → Type 0
StepsOne fixed base r = IsStep
    (λ (root : NodeRef). λ (label : Label). leaves_of base (root ∷ []) (fixed_label fixed label))
    (λ (root : NodeRef). is_valid base root) (λ (root : NodeRef). rank_of root) r

module _ (fixed : Option FixedTrack) (base now : Contents) (is_shelf : IsShelf base) (keeps : Keeps base now)
    (r : NodeRef) (valid : IsTrue (is_valid base r)) (track : ℕ) (top : top_of now r ≡ Some track) where
  pub StepsOne-skip : (bit : Bool) (side : NodeRef) → bit_at fixed track ≡ Some bit → side ≡ side_at now track bit r → StepsOne fixed base r (Skip side)
  StepsOne-skip bit side is_fixed is =
      subst (λ (s : NodeRef). StepsOne fixed base r (Skip s)) (sym is) (IsSkip-one fixed base now is_shelf keeps r valid track top bit is_fixed)

  pub StepsOne-split : (low high : NodeRef) → bit_at fixed track ≡ None → low ≡ side_at now track false r →
      high ≡ side_at now track true r → StepsOne fixed base r (Split track low high)
  StepsOne-split low high free low_is high_is =
      subst (λ (s : NodeRef). StepsOne fixed base r (Split track s high)) (sym low_is)
      (subst (λ (s : NodeRef). StepsOne fixed base r (Split track (side_at now track false r) s)) (sym high_is)
      (IsSplit-one fixed base now is_shelf keeps r valid track top free))
