-- Tests of labels, track after track.
use Rattle.std.proofs.Common.{◌≡◌, ℕ, suc, ◌<◌, ◌≤◌, List, length, Option, Some, slice_get, sym, ◌∙◌, ap, subst, inl, inr, arith}
use Rattle.std.specs.List.Sorted.{IsStrictlyIncreasing}
use Rattle.std.proofs.lemmas.Bool.{cases_eq}
use Rattle.std.proofs.lemmas.List.Kept.{AllPairs-from_increasing}
use Rattle.std.proofs.lemmas.Option.{slice_get_within, slice_get-get_or, get_or_from_slice_get}
use Rattle.labels.specs.Labels.{Label}
use Rattle.bdd_nodes.specs.declared.node_ref.NodeRef.{NodeRef}
use Rattle.bdd_nodes.specs.Shelf.{Contents, IsShelf, IsValid, IsLeaf, IsSideFor, AsksFrom, state_of}
use Rattle.bdd_nodes.specs.Changes.{Keeps}
use Rattle.bdd_nodes.proofs.SplitLemmas.{same_reference, AsksFrom-weaker}
use Rattle.gta_pinned.specs.Making.{where_same}
use Rattle.gta_pinned.specs.Shapes.{AreSameOn, Tells}
use Rattle.gta_pinned.proofs.MakingLemmas.{where_same-there, where_same-one, where_same-small}

pub Tells-kept : (old new : Contents) (tracks : List ℕ) (known : Label) (test : NodeRef) → Keeps old new → Tells old tracks known test →
    Tells new tracks known test
Tells-kept old new tracks known test keeps told = record {
  valid = keeps.valid test told.valid;
  small = λ label. subst (λ (n : ℕ). n < 2) (sym (keeps.states test label told.valid)) (told.small label);
  same = λ label same. keeps.states test label told.valid ∙ told.same label same;
  only = λ label is. told.only label (sym (keeps.states test label told.valid) ∙ is);
}

pub AreSameOn-sym : (tracks : List ℕ) (l m : Label) → AreSameOn tracks l m → AreSameOn tracks m l
AreSameOn-sym tracks l m same t there = sym (same t there)

AreSameOn-trans : (tracks : List ℕ) (l m n : Label) → AreSameOn tracks l m → AreSameOn tracks m n → AreSameOn tracks l n
AreSameOn-trans tracks l m n first second t there = first t there ∙ second t there

-- two tests that tell a common label are one
module _ (shelf : Contents) (is_shelf : IsShelf shelf) (tracks : List ℕ) (k m : Label) (a b : NodeRef) (told_a : Tells shelf tracks k a)
    (told_b : Tells shelf tracks m b) (alike : AreSameOn tracks k m) where
  both-states : (label : Label) → state_of shelf a label ≡ state_of shelf b label
  both-states label = elim (cases_eq (state_of shelf a label) 1) [
    | inl one ↦ one ∙ sym (told_b.same label (AreSameOn-trans tracks m k label (AreSameOn-sym tracks k m alike) (told_a.only label one)))
    | inr other ↦ elim (cases_eq (state_of shelf b label) 1) [
      | inl one ↦ absurd (other (told_a.same label (AreSameOn-trans tracks k m label alike (told_b.only label one))))
      | inr neither ↦ omega (arith, told_a.small label, told_b.small label)
    ]
  ]

  pub tests-same : a ≡ b
  tests-same = same_reference shelf a b is_shelf told_a.valid told_b.valid both-states

-- the two labels have the same of the tracks from the k-th on
abbrev pub AreSameFrom : List ℕ → ℕ → Label → Label → Type 0
AreSameFrom tracks k l m = (i t : ℕ) → k ≤ i → slice_get tracks i ≡ Some t → l t ≡ m t

-- the track is before all those from the k-th on
abbrev pub IsBefore : List ℕ → ℕ → ℕ → Type 0
IsBefore tracks k t = (i u : ℕ) → k ≤ i → slice_get tracks i ≡ Some u → t < u

-- a test of the tracks from the k-th on, which may stand under a node of any track before them
pub record TellsFrom (shelf : Contents) (tracks : List ℕ) (k : ℕ) (known : Label) (test : NodeRef) : Type 0 where
  pub valid : IsValid shelf test
  pub small : (label : Label) → state_of shelf test label < 2
  pub same : (label : Label) → AreSameFrom tracks k known label → state_of shelf test label ≡ 1
  pub only : (label : Label) → state_of shelf test label ≡ 1 → AreSameFrom tracks k known label
  pub side : (t : ℕ) → IsBefore tracks k t → IsSideFor shelf t test

pub TellsFrom-end : (shelf : Contents) (tracks : List ℕ) (k : ℕ) (known : Label) (test : NodeRef) → length tracks ≤ k → IsLeaf test 1 →
    TellsFrom shelf tracks k known test
TellsFrom-end shelf tracks k known test past leaf = record {
  valid = leaf.valid shelf;
  small = λ label. omega (arith, leaf.states shelf label);
  same = λ label same. leaf.states shelf label;
  only = λ label is i t from there. absurd (omega (arith, slice_get_within tracks i t there));
  side = λ t before. leaf.side shelf t;
}

some-same : (tracks : List ℕ) (i t u : ℕ) → slice_get tracks i ≡ Some t → slice_get tracks i ≡ Some u → t ≡ u
some-same tracks i t u at is = let e : ◌≡◌ {A = Option ℕ} (Some t) (Some u) = sym at ∙ is in cc

rising-less : (tracks : List ℕ) → IsStrictlyIncreasing tracks → (i j t u : ℕ) → i < j → slice_get tracks i ≡ Some t → slice_get tracks j ≡ Some u → t < u
rising-less tracks rises i j t u less at_i at_j =
    let pair = AllPairs-from_increasing tracks rises i j 0 less (slice_get_within tracks j u at_j) in
    omega (arith, pair, get_or_from_slice_get tracks i t 0 at_i, get_or_from_slice_get tracks j u 0 at_j)

-- one track more
module _ (old new : Contents) (tracks : List ℕ) (rises : IsStrictlyIncreasing tracks) (k t : ℕ) (at : slice_get tracks k ≡ Some t) (known : Label)
    (test made : NodeRef) (told : TellsFrom old tracks (suc k) known test) where
  pub side-more : IsSideFor old t test
  side-more = told.side t (λ i u from there. rising-less tracks rises k i t u (omega arith) at there)

  module _ (value : (label : Label) → state_of new made label ≡ where_same (label t) (known t) (state_of old test label)) (valid : IsValid new made)
      (later : AsksFrom new t made) where
    pub TellsFrom-more : TellsFrom new tracks k known made
    TellsFrom-more = record {
      valid = valid;
      small = λ label. subst (λ (n : ℕ). n < 2) (sym (value label)) (where_same-small (label t) (known t) (state_of old test label) (told.small label));
      same = λ label same.
          value label ∙ where_same-there (label t) (known t) (state_of old test label) (sym (same k t (omega arith) at))
          ∙ told.same label (λ i u from there. same i u (omega arith) there);
      only = λ label is i u from there.
          let one = where_same-one (label t) (known t) (state_of old test label) (sym (value label) ∙ is) in
          elim (cases_eq k i) [
            | inl here ↦
                let e : t ≡ u = some-same tracks i t u (ap (slice_get tracks) (sym here) ∙ at) there in
                subst (λ (v : ℕ). known v ≡ label v) e (sym one.0)
            | inr other ↦ told.only label one.1 i u (omega arith) there
          ];
      side = λ v before. record {
        valid = valid;
        later = AsksFrom-weaker new made (suc v) t (before k t (omega arith) at) later;
      };
    }

-- all tracks
pub Tells-all : (shelf : Contents) (tracks : List ℕ) (known : Label) (test : NodeRef) → TellsFrom shelf tracks 0 known test → Tells shelf tracks known test
Tells-all shelf tracks known test told = record {
  valid = told.valid;
  small = told.small;
  same = λ label same. told.same label (λ i t from there.
      same t (i, slice_get_within tracks i t there, get_or_from_slice_get tracks i t t there));
  only = λ label is t there.
      told.only label is there.0 t (omega arith)
      (slice_get-get_or tracks there.0 t there.1 ∙ ap (λ (u : ℕ). let o : Option ℕ = Some u in o) there.2);
}
