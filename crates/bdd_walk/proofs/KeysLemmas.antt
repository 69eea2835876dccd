-- The steps of the kinds of keys.
use Rattle.std.proofs.Common.{◌≡◌, ◌≢◌, ℕ, suc, ◌<◌, ◌≤◌, Bool, true, false, List, [], ◌∷◌, ◌++◌, map, eqb, None, if◌then◌else◌}
use Rattle.std.proofs.Common.{◌&&◌, IsTrue, sym, ◌∙◌, ap, refl, subst, inl, inr}
use Rattle.std.specs.List.{list_all, AllByRecursion}
use Rattle.std.proofs.lemmas.Bool.{cases_Bool}
use Rattle.bdd_nodes.specs.declared.node_ref.NodeRef.{NodeRef}
use Rattle.labels.specs.Labels.{Label, with_track}
use Rattle.bdd_nodes.specs.Shelf.{Contents, IsShelf, IsValid, AsksFrom, top_of}
use Rattle.bdd_nodes.specs.Changes.{Keeps, is_valid}
use Rattle.bdd_nodes.proofs.SplitLemmas.{is_valid-true}
use Rattle.bdd_walk.specs.Asked.{leaves_of}
use Rattle.bdd_walk.specs.Stands.{Asking, AsksByFrom}
use Rattle.bdd_walk.specs.Steps.{IsSplitBy, IsSplit}
use Rattle.bdd_walk.specs.Laws.{and-left, and-right}
use Rattle.bdd_walk.specs.Sides.{side_at, earlier_of, AskFirst, IsFirstOf, weight_of}
use Rattle.labels.proofs.LabelsLemmas.{with_track-other}
use Rattle.bdd_walk.proofs.SidesLemmas.{leaves-side, leaves-later, sides-valid, sides-fall, sides-kept, AskFirst-kept, IsFirstOf-push}

-- a way of reading labels that leaves the track, and the later tracks, to the label
pub record IsView (track : ℕ) (view : Label → Label) : Type 0 where
  pub here : (label : Label) → view label track ≡ label track
  pub later : (l m : Label) → ((u : ℕ) → suc track ≤ u → l u ≡ m u) → (u : ℕ) → suc track ≤ u → view l u ≡ view m u

pub IsView-itself : (track : ℕ) → IsView track (λ label. label)
IsView-itself track = record { here = λ label. refl; later = λ l m agree. agree }

pub IsView-with_track : (track t : ℕ) (bit : Bool) → t ≢ track → IsView track (λ label. with_track label t bit)
IsView-with_track track t bit apart = record {
  here = λ label. with_track-other label t track bit (λ e. apart (sym e));
  later = λ l m agree u after. elim (cases_Bool (eqb u t)) [
    | inl same ↦ ap (λ (b : Bool). if b then bit else l u) same ∙ sym (ap (λ (b : Bool). if b then bit else m u) same)
    | inr other ↦ ap (λ (b : Bool). if b then bit else l u) other ∙ agree u after ∙ sym (ap (λ (b : Bool). if b then bit else m u) other)
  ];
}

if-case : (b : Bool) (x y z : List ℕ) → (b ≡ true → z ≡ y) → (b ≡ false → z ≡ x) → z ≡ (if b then y else x)
if-case true x y z is_set is_unset = is_set refl
if-case false x y z is_set is_unset = is_unset refl

-- what is taken of the references before a call, as they stand now
module _ (base now : Contents) (is_shelf : IsShelf base) (keeps : Keeps base now) (track : ℕ) (rs : List NodeRef)
    (valid : IsTrue (list_all (is_valid base) rs)) where
  pub sides_in : (bit : Bool) → IsTrue (list_all (is_valid base) (map (side_at now track bit) rs))
  sides_in bit = subst (λ (ss : List NodeRef). IsTrue (list_all (is_valid base) ss))
      (sym (sides-kept base now keeps track bit rs valid)) (sides-valid base is_shelf track bit rs valid)

  pub sides_fall : AskFirst now track rs → (bit : Bool) → weight_of (map (side_at now track bit) rs) < weight_of rs
  sides_fall first bit = subst (λ (ss : List NodeRef). weight_of ss < weight_of rs) (sym (sides-kept base now keeps track bit rs valid))
      (sides-fall base is_shelf track bit rs valid (AskFirst-kept base now keeps track rs valid first).some)

  pub leaves_side : (bit : Bool) (label : Label) → label track ≡ bit → leaves_of base rs label ≡ leaves_of base (map (side_at now track bit) rs) label
  leaves_side bit label e =
      sym (leaves-side base is_shelf track bit rs label valid e)
      ∙ ap (λ (ss : List NodeRef). leaves_of base ss label) (sym (sides-kept base now keeps track bit rs valid))

  sides_later : AllByRecursion (AsksFrom base track) rs → (view : Label → Label) → IsView track view →
      (bit : Bool) → AsksByFrom (suc track) (λ label. leaves_of base (map (side_at now track bit) rs) (view label))
  unfolding AsksByFrom
  sides_later asks view is_view bit = λ l m agree.
      subst (λ (ss : List NodeRef). leaves_of base ss (view l) ≡ leaves_of base ss (view m)) (sym (sides-kept base now keeps track bit rs valid))
      (leaves-later base is_shelf track bit rs (view l) (view m) valid asks (is_view.later l m agree))

  -- the two sides of references that ask no track before
  pub IsSplitBy-sides : AllByRecursion (AsksFrom base track) rs → (view : Label → Label) → IsView track view →
      IsSplitBy track (λ label. leaves_of base rs (view label))
      (λ label. leaves_of base (map (side_at now track false) rs) (view label))
      (λ label. leaves_of base (map (side_at now track true) rs) (view label))
  IsSplitBy-sides asks view is_view = record {
    asks = λ label. if-case (label track) _ _ _
        (λ is_set. leaves_side true (view label) (is_view.here label ∙ is_set))
        (λ is_unset. leaves_side false (view label) (is_view.here label ∙ is_unset));
    low_later = sides_later asks view is_view false;
    high_later = sides_later asks view is_view true;
  }

if-append : (b : Bool) (x y u v : List ℕ) → ((if b then x else y) ++ (if b then u else v)) ≡ (if b then x ++ u else y ++ v)
if-append true x y u v = refl
if-append false x y u v = refl

-- two splits, one after the other
pub IsSplitBy-append : (track : ℕ) (f low high g low' high' : Asking) → IsSplitBy track f low high →
    IsSplitBy track g low' high' →
    IsSplitBy track (λ label. f label ++ g label) (λ label. low label ++ low' label) (λ label. high label
    ++ high' label)
unfolding AsksByFrom
IsSplitBy-append track f low high g low' high' first second = record {
  asks = λ label. ap (λ (states : List ℕ). states ++ g label) (first.asks label)
      ∙ ap (λ (states : List ℕ). (if label track then high label else low label) ++ states) (second.asks label)
      ∙ if-append (label track) (high label) (low label) (high' label) (low' label);
  low_later = λ l m agree. ap (λ (states : List ℕ). states ++ low' l) (first.low_later l m agree)
      ∙ ap (λ (states : List ℕ). low m ++ states) (second.low_later l m agree);
  high_later = λ l m agree. ap (λ (states : List ℕ). states ++ high' l) (first.high_later l m agree)
      ∙ ap (λ (states : List ℕ). high m ++ states) (second.high_later l m agree);
}

-- the first track of two references
pub IsFirstOf-two : (shelf : Contents) (left right : NodeRef) → IsFirstOf shelf (left ∷ right ∷ []) (earlier_of (top_of shelf left) (top_of shelf right))
IsFirstOf-two shelf left right =
    IsFirstOf-push shelf (left ∷ []) right (top_of shelf left) (IsFirstOf-push shelf [] left None (record { all = tt }))

pub left-valid : (shelf : Contents) (left right : NodeRef) → IsTrue (list_all (is_valid shelf) (left ∷ right ∷ [])) → IsValid shelf left
left-valid shelf left right valid = is_valid-true shelf left (and-left (is_valid shelf left) (is_valid shelf right && true) valid)

pub right-valid : (shelf : Contents) (left right : NodeRef) → IsTrue (list_all (is_valid shelf) (left ∷ right ∷ [])) → IsValid shelf right
right-valid shelf left right valid =
    is_valid-true shelf right (and-left (is_valid shelf right) true
    (and-right (is_valid shelf left) (is_valid shelf right && true) valid))

-- the step of keys that are references and no more
pub IsSplit-refs : {K : Type 0} (refs : K → List NodeRef) (base now : Contents) → IsShelf base → Keeps base now →
    (track : ℕ) (key low high : K) → IsTrue (list_all (is_valid base) (refs key)) → AskFirst now track (refs key)
    → refs low ≡ map (side_at now track false) (refs key) → refs high ≡ map (side_at now track true) (refs key)
    → IsSplit (λ (k : K). λ (label : Label). leaves_of base (refs k) label)
    (λ (k : K). list_all (is_valid base) (refs k)) (λ (k : K). weight_of (refs k)) key track low high
IsSplit-refs {K} refs base now is_shelf keeps track key low high valid first low_is high_is = record {
  low_goes = record {
    inside = subst (λ (rs : List NodeRef). IsTrue (list_all (is_valid base) rs)) (sym low_is) (sides_in base now is_shelf keeps track (refs key) valid false);
    falls = subst (λ (rs : List NodeRef). weight_of rs < weight_of (refs key)) (sym low_is)
        (sides_fall base now is_shelf keeps track (refs key) valid first false);
  };
  high_goes = record {
    inside = subst (λ (rs : List NodeRef). IsTrue (list_all (is_valid base) rs)) (sym high_is) (sides_in base now is_shelf keeps track (refs key) valid true);
    falls = subst (λ (rs : List NodeRef). weight_of rs < weight_of (refs key)) (sym high_is)
        (sides_fall base now is_shelf keeps track (refs key) valid first true);
  };
  split = subst (λ (rs : List NodeRef). IsSplitBy track (λ (label : Label). leaves_of base (refs key) label)
      (λ (label : Label). leaves_of base rs label) (λ (label : Label). leaves_of base (refs high) label)) (sym low_is)
      (subst (λ (rs : List NodeRef). IsSplitBy track (λ (label : Label). leaves_of base (refs key) label)
      (λ (label : Label). leaves_of base (map (side_at now track false) (refs key)) label)
      (λ (label : Label). leaves_of base rs label)) (sym high_is)
      (IsSplitBy-sides base now is_shelf keeps track (refs key) valid
      (AskFirst-kept base now keeps track (refs key) valid first).all (λ label. label) (IsView-itself track)));
}
