-- Sides of references, one and many.
use Rattle.std.proofs.Common.{◌≡◌, ◌≢◌, ℕ, suc, zero, get_or, ◌<◌, ◌≤◌, min, Bool, true, false, List, [], ◌∷◌, ◌++◌, map, length}
use Rattle.std.proofs.Common.{eqb, Option, Some, None, MatchOption, if◌then◌else◌, IsTrue, sym, ◌∙◌, ap, refl, subst, inl, inr}
use Rattle.std.proofs.Common.{arith}
use Rattle.std.specs.List.{AllByRecursion, list_all}
use Rattle.std.proofs.lemmas.Bool.{cases_Bool, cases_lt, eqb-true, eqb-false}
use Rattle.bdd_nodes.specs.declared.node_ref.NodeRef.{NodeRef}
use Rattle.labels.specs.Labels.{Label}
use Rattle.bdd_nodes.specs.Shelf.{Contents, IsShelf, IsValid, AsksFrom, state_of, top_of, low_of, high_of, rank_of}
use Rattle.bdd_nodes.specs.Changes.{Keeps, is_valid}
use Rattle.bdd_nodes.proofs.SplitLemmas.{unasked, AsksFrom-weaker, is_leaf, splits, cases_of, is_valid-true, is_valid-IsValid}
use Rattle.bdd_walk.specs.Asked.{leaves_of}
use Rattle.bdd_walk.specs.Laws.{and-left, and-right, and-both}
use Rattle.bdd_walk.specs.Sides.{is_first, side_at, earlier_of, SomeAsks, AskFirst, AreLeaves, IsFirstOf, weight_of}
use Rattle.bdd_walk.proofs.StandsLemmas.{same_answer}

some_none : (track : ℕ) → Some track ≡ None → ⊥
some_none track e = cc

-- what a side is, by what the reference asks first
pub side-here : (shelf : Contents) (track : ℕ) (bit : Bool) (r : NodeRef) (first : Option ℕ) → top_of shelf r ≡ first →
    is_first first track ≡ true → side_at shelf track bit r ≡ (if bit then high_of shelf r else low_of shelf r)
side-here shelf track bit r first top here =
    ap (λ (o : Option ℕ). if is_first o track then (if bit then high_of shelf r else low_of shelf r) else r) top
    ∙ ap (λ (b : Bool). if b then (if bit then high_of shelf r else low_of shelf r) else r) here

pub side-else : (shelf : Contents) (track : ℕ) (bit : Bool) (r : NodeRef) (first : Option ℕ) → top_of shelf r ≡ first →
    is_first first track ≡ false → side_at shelf track bit r ≡ r
side-else shelf track bit r first top other =
    ap (λ (o : Option ℕ). if is_first o track then (if bit then high_of shelf r else low_of shelf r) else r) top
    ∙ ap (λ (b : Bool). if b then (if bit then high_of shelf r else low_of shelf r) else r) other

-- what is known of the side of a reference that asks no track before
pub record IsSideAt (shelf : Contents) (track : ℕ) (bit : Bool) (r : NodeRef) : Type 0 where
  pub valid : IsValid shelf (side_at shelf track bit r)
  pub states : (label : Label) → label track ≡ bit → state_of shelf (side_at shelf track bit r) label ≡ state_of shelf r label
  pub later : AsksFrom shelf track r → AsksFrom shelf (suc track) (side_at shelf track bit r)
  pub within : rank_of (side_at shelf track bit r) ≤ rank_of r
  pub falls : top_of shelf r ≡ Some track → rank_of (side_at shelf track bit r) < rank_of r

-- a property of both sides is one of the side
pick : (P : NodeRef → Type 0) (bit : Bool) (low high : NodeRef) → P low → P high → P (if bit then high else low)
pick P true low high p q = q
pick P false low high p q = p

if-is : (b bit : Bool) (x y : ℕ) → b ≡ bit → (if b then x else y) ≡ (if bit then x else y)
if-is b bit x y e = ap (λ (c : Bool). if c then x else y) e

state-pick : (shelf : Contents) (bit : Bool) (low high : NodeRef) (label : Label) →
    state_of shelf (if bit then high else low) label
    ≡ (if bit then state_of shelf high label else state_of shelf low label)
state-pick shelf true low high label = refl
state-pick shelf false low high label = refl

pub side-known : (shelf : Contents) (track : ℕ) (bit : Bool) (r : NodeRef) → IsShelf shelf → IsValid shelf r → IsSideAt shelf track bit r
side-known shelf track bit r is_shelf valid = elim (cases_of shelf r is_shelf valid) [
  | is_leaf top others asks ↦
      let same = side-else shelf track bit r None top refl in
      record {
        valid = subst (IsValid shelf) (sym same) valid;
        states = λ label e. ap (λ (s : NodeRef). state_of shelf s label) same;
        later = λ from. subst (AsksFrom shelf (suc track)) (sym same) (asks (suc track));
        within = subst (λ (s : NodeRef). rank_of s ≤ rank_of r) (sym same) (omega arith);
        falls = λ first. absurd (some_none track (sym first ∙ top));
      }
  | splits first top split asks_to asks_of ↦ elim (cases_Bool (eqb first track)) [
    | inl here ↦
        let is : first ≡ track = eqb-true first track here in
        let same = side-here shelf track bit r (Some first) top here in
        record {
          valid = subst (IsValid shelf) (sym same) (pick (IsValid shelf) bit (low_of shelf r) (high_of shelf r) split.low.valid split.high.valid);
          states = λ label e. ap (λ (s : NodeRef). state_of shelf s label) same
              ∙ state-pick shelf bit (low_of shelf r) (high_of shelf r) label
              ∙ sym (if-is (label first) bit (state_of shelf (high_of shelf r) label) (state_of shelf (low_of shelf r) label) (ap label is ∙ e))
              ∙ sym (split.states label);
          later = λ from. subst (λ (t : ℕ). AsksFrom shelf (suc t) (side_at shelf track bit r)) is
              (subst (AsksFrom shelf (suc first)) (sym same)
              (pick (AsksFrom shelf (suc first)) bit (low_of shelf r)
              (high_of shelf r) split.low.later split.high.later));
          within = subst (λ (s : NodeRef). rank_of s ≤ rank_of r) (sym same)
              (pick (λ (s : NodeRef). rank_of s ≤ rank_of r) bit (low_of shelf r) (high_of shelf r)
              (let falls = split.low_falls in omega arith) (let falls = split.high_falls in omega arith));
          falls = λ e. subst (λ (s : NodeRef). rank_of s < rank_of r) (sym same)
              (pick (λ (s : NodeRef). rank_of s < rank_of r) bit (low_of shelf r) (high_of shelf r) split.low_falls split.high_falls);
        }
    | inr other ↦
        let same = side-else shelf track bit r (Some first) top other in
        let apart = eqb-false first track other in
        record {
          valid = subst (IsValid shelf) (sym same) valid;
          states = λ label e. ap (λ (s : NodeRef). state_of shelf s label) same;
          later = λ from. subst (AsksFrom shelf (suc track)) (sym same)
              (asks_to (suc track) (let to = asks_of track from in let ne : first ≢ track = apart in omega arith));
          within = subst (λ (s : NodeRef). rank_of s ≤ rank_of r) (sym same) (omega arith);
          falls = λ e. absurd (apart (same_answer first track (sym top ∙ e)));
        }
  ]
]

-- references that are all valid
module _ (shelf : Contents) (is_shelf : IsShelf shelf) where
  -- the sides have the same leaves where the track is as it was fixed
  pub leaves-side : (track : ℕ) (bit : Bool) (rs : List NodeRef) (label : Label) →
      IsTrue (list_all (is_valid shelf) rs) → label track ≡ bit →
      leaves_of shelf (map (side_at shelf track bit) rs) label ≡ leaves_of shelf rs label
  leaves-side track bit [] label valid e = refl
  leaves-side track bit (r ∷ rs) label valid e =
      ap (λ (state : ℕ). state ∷ leaves_of shelf (map (side_at shelf track bit) rs) label)
      ((side-known shelf track bit r is_shelf (is_valid-true shelf r (and-left (is_valid shelf r) (list_all (is_valid shelf) rs) valid))).states label e)
      ∙ ap (λ (states : List ℕ). state_of shelf r label ∷ states)
      (leaves-side track bit rs label (and-right (is_valid shelf r) (list_all (is_valid shelf) rs) valid) e)

  -- the sides ask later tracks alone
  pub leaves-later : (track : ℕ) (bit : Bool) (rs : List NodeRef) (l m : Label) →
      IsTrue (list_all (is_valid shelf) rs) → AllByRecursion (AsksFrom shelf track) rs →
      ((u : ℕ) → suc track ≤ u → l u ≡ m u) → leaves_of shelf (map (side_at shelf track bit) rs) l
      ≡ leaves_of shelf (map (side_at shelf track bit) rs) m
  leaves-later track bit [] l m valid asks agree = refl
  leaves-later track bit (r ∷ rs) l m valid asks agree =
      let side = side-known shelf track bit r is_shelf (is_valid-true shelf r (and-left (is_valid shelf r) (list_all (is_valid shelf) rs) valid)) in
      ap (λ (state : ℕ). state ∷ leaves_of shelf (map (side_at shelf track bit) rs) l)
      (unasked shelf (side_at shelf track bit r) (suc track) l m is_shelf side.valid (side.later asks.0) agree)
      ∙ ap (λ (states : List ℕ). state_of shelf (side_at shelf track bit r) m ∷ states)
      (leaves-later track bit rs l m (and-right (is_valid shelf r) (list_all (is_valid shelf) rs) valid) asks.1
      agree)

  pub sides-valid : (track : ℕ) (bit : Bool) (rs : List NodeRef) → IsTrue (list_all (is_valid shelf) rs) →
      IsTrue (list_all (is_valid shelf) (map (side_at shelf track bit) rs))
  sides-valid track bit [] valid = refl
  sides-valid track bit (r ∷ rs) valid =
      let side = side-known shelf track bit r is_shelf (is_valid-true shelf r (and-left (is_valid shelf r) (list_all (is_valid shelf) rs) valid)) in
      and-both (is_valid shelf (side_at shelf track bit r)) (list_all (is_valid shelf) (map (side_at shelf track bit) rs))
      (is_valid-IsValid shelf (side_at shelf track bit r) side.valid)
      (sides-valid track bit rs (and-right (is_valid shelf r) (list_all (is_valid shelf) rs) valid))

  pub sides-within : (track : ℕ) (bit : Bool) (rs : List NodeRef) → IsTrue (list_all (is_valid shelf) rs) →
      weight_of (map (side_at shelf track bit) rs) ≤ weight_of rs
  sides-within track bit [] valid = omega arith
  sides-within track bit (r ∷ rs) valid =
      let side = side-known shelf track bit r is_shelf (is_valid-true shelf r (and-left (is_valid shelf r) (list_all (is_valid shelf) rs) valid)) in
      let here = side.within in
      let rest = sides-within track bit rs (and-right (is_valid shelf r) (list_all (is_valid shelf) rs) valid) in
      omega arith

  -- where some reference asks the track, the sides are lighter
  pub sides-fall : (track : ℕ) (bit : Bool) (rs : List NodeRef) → IsTrue (list_all (is_valid shelf) rs) →
      SomeAsks shelf track rs → weight_of (map (side_at shelf track bit) rs) < weight_of rs
  sides-fall track bit [] valid some = absurd some
  sides-fall track bit (r ∷ rs) valid some =
      let side = side-known shelf track bit r is_shelf (is_valid-true shelf r (and-left (is_valid shelf r) (list_all (is_valid shelf) rs) valid)) in
      let rest_valid = and-right (is_valid shelf r) (list_all (is_valid shelf) rs) valid in
      elim some [
        | inl first ↦ (let here = side.falls first in let rest = sides-within track bit rs rest_valid in omega arith)
        | inr others ↦ (let here = side.within in let rest = sides-fall track bit rs rest_valid others in omega arith)
      ]

-- what the references are in a shelf that keeps them
module _ (old new : Contents) (keeps : Keeps old new) where
  pub side-kept : (track : ℕ) (bit : Bool) (r : NodeRef) → IsValid old r → side_at new track bit r ≡ side_at old track bit r
  side-kept track bit r valid =
      ap (λ (o : Option ℕ). if is_first o track then (if bit then high_of new r else low_of new r) else r) (keeps.top r valid)
      ∙ ap (λ (s : NodeRef). if is_first (top_of old r) track then (if bit then s else low_of new r) else r) (keeps.high r valid)
      ∙ ap (λ (s : NodeRef). if is_first (top_of old r) track then (if bit then high_of old r else s) else r) (keeps.low r valid)

  pub sides-kept : (track : ℕ) (bit : Bool) (rs : List NodeRef) → IsTrue (list_all (is_valid old) rs) →
      map (side_at new track bit) rs ≡ map (side_at old track bit) rs
  sides-kept track bit [] valid = refl
  sides-kept track bit (r ∷ rs) valid =
      ap (λ (s : NodeRef). s ∷ map (side_at new track bit) rs)
      (side-kept track bit r (is_valid-true old r (and-left (is_valid old r) (list_all (is_valid old) rs) valid)))
      ∙ ap (λ (ss : List NodeRef). side_at old track bit r ∷ ss) (sides-kept track bit rs (and-right (is_valid old r) (list_all (is_valid old) rs) valid))

  all-asks-kept : (track : ℕ) (rs : List NodeRef) → IsTrue (list_all (is_valid old) rs) →
      AllByRecursion (AsksFrom new track) rs → AllByRecursion (AsksFrom old track) rs
  all-asks-kept track [] valid all = all
  all-asks-kept track (r ∷ rs) valid all = (
    subst (λ (o : Option ℕ). MatchOption o (Unit {0}) (λ first. track ≤ first))
        (keeps.top r (is_valid-true old r (and-left (is_valid old r) (list_all (is_valid old) rs) valid))) all.0,
    all-asks-kept track rs (and-right (is_valid old r) (list_all (is_valid old) rs) valid) all.1,
  )

  some-asks-kept : (track : ℕ) (rs : List NodeRef) → IsTrue (list_all (is_valid old) rs) → SomeAsks new track rs → SomeAsks old track rs
  some-asks-kept track [] valid some = some
  some-asks-kept track (r ∷ rs) valid some = elim some [
    | inl first ↦ inl (sym (keeps.top r (is_valid-true old r (and-left (is_valid old r) (list_all (is_valid old) rs) valid))) ∙ first)
    | inr others ↦ inr (some-asks-kept track rs (and-right (is_valid old r) (list_all (is_valid old) rs) valid) others)
  ]

  pub AskFirst-kept : (track : ℕ) (rs : List NodeRef) → IsTrue (list_all (is_valid old) rs) → AskFirst new track rs → AskFirst old track rs
  AskFirst-kept track rs valid first = record { all = all-asks-kept track rs valid first.all; some = some-asks-kept track rs valid first.some }

-- one reference more
module _ (shelf : Contents) where
  all-asks-weaker : (s t : ℕ) (rs : List NodeRef) → s ≤ t → AllByRecursion (AsksFrom shelf t) rs → AllByRecursion (AsksFrom shelf s) rs
  all-asks-weaker s t [] below all = all
  all-asks-weaker s t (r ∷ rs) below all = (AsksFrom-weaker shelf r s t below all.0, all-asks-weaker s t rs below all.1)

  all-push : (P : NodeRef → Type 0) (rs : List NodeRef) (r : NodeRef) → AllByRecursion P rs → P r → AllByRecursion P (rs ++ r ∷ [])
  all-push P [] r all holds = (holds, tt)
  all-push P (first ∷ rs) r all holds = (all.0, all-push P rs r all.1 holds)

  some-left : (track : ℕ) (rs : List NodeRef) (r : NodeRef) → SomeAsks shelf track rs → SomeAsks shelf track (rs ++ r ∷ [])
  some-left track [] r some = absurd some
  some-left track (first ∷ rs) r some = elim some [ inl here ↦ inl here | inr others ↦ inr (some-left track rs r others) ]

  some-last : (track : ℕ) (rs : List NodeRef) (r : NodeRef) → top_of shelf r ≡ Some track → SomeAsks shelf track (rs ++ r ∷ [])
  some-last track [] r first = inl first
  some-last track (other ∷ rs) r first = inr (some-last track rs r first)

  asks_of_none : (t : ℕ) (r : NodeRef) → top_of shelf r ≡ None → AsksFrom shelf t r
  asks_of_none t r none = subst (λ (o : Option ℕ). MatchOption o (Unit {0}) (λ first. t ≤ first)) (sym none) tt

  asks_of_some : (t first : ℕ) (r : NodeRef) → top_of shelf r ≡ Some first → t ≤ first → AsksFrom shelf t r
  asks_of_some t first r top below = subst (λ (o : Option ℕ). MatchOption o (Unit {0}) (λ u. t ≤ u)) (sym top) below

  all-asks_of_leaves : (t : ℕ) (rs : List NodeRef) → AllByRecursion (λ r. top_of shelf r ≡ None) rs → AllByRecursion (AsksFrom shelf t) rs
  all-asks_of_leaves t [] all = all
  all-asks_of_leaves t (r ∷ rs) all = (asks_of_none t r all.0, all-asks_of_leaves t rs all.1)

  first-push : (rs : List NodeRef) (r : NodeRef) (first top : Option ℕ) → top_of shelf r ≡ top →
      IsFirstOf shelf rs first → IsFirstOf shelf (rs ++ r ∷ []) (earlier_of first top)
  first-push rs r None None is is_first = record { all = all-push (λ s. top_of shelf s ≡ None) rs r is_first.all is }
  first-push rs r None (Some t) is is_first = record {
    all = all-push (AsksFrom shelf t) rs r (all-asks_of_leaves t rs is_first.all) (asks_of_some t t r is (omega arith));
    some = some-last t rs r is;
  }
  first-push rs r (Some s) None is is_first = record {
    all = all-push (AsksFrom shelf s) rs r is_first.all (asks_of_none s r is);
    some = some-left s rs r is_first.some;
  }
  first-push rs r (Some s) (Some t) is is_first = elim (cases_lt s t) [
    | inl below ↦ subst (λ (u : ℕ). AskFirst shelf u (rs ++ r ∷ [])) (let e : s ≡ min s t = omega arith in e)
        (record { all = all-push (AsksFrom shelf s) rs r is_first.all (asks_of_some s t r is (omega arith)); some = some-left s rs r is_first.some })
    | inr above ↦ subst (λ (u : ℕ). AskFirst shelf u (rs ++ r ∷ [])) (let e : t ≡ min s t = omega arith in e)
        (record {
          all = all-push (AsksFrom shelf t) rs r (all-asks-weaker t s rs above is_first.all)
              (asks_of_some t t r is (omega arith));
          some = some-last t rs r is;
        })
  ]

  pub IsFirstOf-push : (rs : List NodeRef) (r : NodeRef) (first : Option ℕ) → IsFirstOf shelf rs first →
      IsFirstOf shelf (rs ++ r ∷ []) (earlier_of first (top_of shelf r))
  IsFirstOf-push rs r first is_first = first-push rs r first (top_of shelf r) refl is_first

-- what all references are, each of them is
pub valid-at : (shelf : Contents) (rs : List NodeRef) (i : ℕ) (d : NodeRef) →
    IsTrue (list_all (is_valid shelf) rs) → i < length rs → IsValid shelf (get_or rs i d)
valid-at shelf [] i d valid within = absurd (omega arith)
valid-at shelf (r ∷ rs) zero d valid within = is_valid-true shelf r (and-left (is_valid shelf r) (list_all (is_valid shelf) rs) valid)
valid-at shelf (r ∷ rs) (suc i) d valid within = valid-at shelf rs i d (and-right (is_valid shelf r) (list_all (is_valid shelf) rs) valid) (omega arith)

pub leaf-at : (shelf : Contents) (rs : List NodeRef) (i : ℕ) (d : NodeRef) → AreLeaves shelf rs → i < length rs → top_of shelf (get_or rs i d) ≡ None
leaf-at shelf [] i d leaves within = absurd (omega arith)
leaf-at shelf (r ∷ rs) zero d leaves within = leaves.all.0
leaf-at shelf (r ∷ rs) (suc i) d leaves within = leaf-at shelf rs i d (record { all = leaves.all.1 }) (omega arith)

-- the leaves of one reference more
pub leaves-push : (shelf : Contents) (rs : List NodeRef) (r : NodeRef) (label : Label) →
    leaves_of shelf (rs ++ r ∷ []) label ≡ leaves_of shelf rs label ++ state_of shelf r label ∷ []
leaves-push shelf [] r label = refl
leaves-push shelf (first ∷ rs) r label = ap (λ (states : List ℕ). state_of shelf first label ∷ states) (leaves-push shelf rs r label)

pub sides-push : (shelf : Contents) (track : ℕ) (bit : Bool) (rs : List NodeRef) (r : NodeRef) →
    map (side_at shelf track bit) (rs ++ r ∷ []) ≡ map (side_at shelf track bit) rs ++ side_at shelf track bit r ∷ []
sides-push shelf track bit [] r = refl
sides-push shelf track bit (first ∷ rs) r = ap (λ (ss : List NodeRef). side_at shelf track bit first ∷ ss) (sides-push shelf track bit rs r)
