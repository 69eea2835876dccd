-- The steps from a list of references.
use Rattle.std.proofs.Common.{◌≡◌, ℕ, suc, zero, ◌/◌, ◌<◌, ◌≤◌, Bool, true, false, List, [], ◌∷◌, ◌++◌, map, take, drop, length}
use Rattle.std.proofs.Common.{Option, Some, None, ◌&&◌, IsTrue, sym, ◌∙◌, ap, refl, subst, inl, inr, arith}
use Rattle.std.specs.Prelude.{nat_le}
use Rattle.std.specs.List.{list_all, AllByRecursion}
use Rattle.std.proofs.lemmas.Bool.{eqb-true, eqb-false, leb-true, le-leb, false≢true}
use Rattle.std.proofs.lemmas.List.{length-map, take-map, drop-map, take-append-drop}
use Rattle.bdd_nodes.specs.declared.node_ref.NodeRef.{NodeRef}
use Rattle.labels.specs.Labels.{Label, with_track}
use Rattle.bdd_nodes.specs.Shelf.{Contents, IsShelf, AsksFrom, state_of}
use Rattle.bdd_nodes.specs.Changes.{Keeps, is_valid}
use Rattle.bdd_nodes.proofs.SplitLemmas.{is_valid-true, is_valid-IsValid}
use Rattle.bdd_walk.specs.Asked.{leaves_of}
use Rattle.bdd_walk.specs.Stands.{AsksSame}
use Rattle.bdd_walk.specs.Steps.{IsSplitBy, FallsTo, IsSkip, IsSplit}
use Rattle.bdd_walk.specs.Sides.{is_first, side_at, SomeAsks, AskFirst, weight_of, asked_by, half_of}
use Rattle.bdd_walk.specs.Laws.{and-left, and-right, and-both}
use Rattle.bdd_walk.specs.ManyLaws.{valid-take, valid-drop}
use Rattle.labels.proofs.LabelsLemmas.{with_track-same}
use Rattle.bdd_walk.proofs.SidesLemmas.{side-known, sides-within, sides-fall, sides-valid, sides-kept, leaves-side, AskFirst-kept}
use Rattle.bdd_walk.proofs.KeysLemmas.{IsView-itself, IsView-with_track, sides_in, sides_fall, IsSplitBy-sides, IsSplitBy-append}

all-take : (P : NodeRef → Type 0) (n : ℕ) (rs : List NodeRef) → AllByRecursion P rs → AllByRecursion P (take n rs)
all-take P zero rs all = tt
all-take P (suc n) [] all = tt
all-take P (suc n) (r ∷ rs) all = (all.0, all-take P n rs all.1)

all-drop : (P : NodeRef → Type 0) (n : ℕ) (rs : List NodeRef) → AllByRecursion P rs → AllByRecursion P (drop n rs)
all-drop P zero rs all = all
all-drop P (suc n) [] all = tt
all-drop P (suc n) (r ∷ rs) all = all-drop P n rs all.1

-- the references past a dropped track
abbrev pub past_of : Contents → ℕ → ℕ → List NodeRef → List NodeRef
past_of shelf track half rs = map (side_at shelf track false) (take half rs) ++ map (side_at shelf track true) (drop half rs)

take-past : (f g : NodeRef → NodeRef) (half : ℕ) (rs : List NodeRef) → half ≤ length rs →
    take half (map f (take half rs) ++ map g (drop half rs)) ≡ map f (take half rs)
take-past f g zero rs within = refl
take-past f g (suc n) [] within = absurd (omega arith)
take-past f g (suc n) (r ∷ rs) within = ap (λ (ss : List NodeRef). f r ∷ ss) (take-past f g n rs (omega arith))

drop-past : (f g : NodeRef → NodeRef) (half : ℕ) (rs : List NodeRef) → half ≤ length rs →
    drop half (map f (take half rs) ++ map g (drop half rs)) ≡ map g (drop half rs)
drop-past f g zero rs within = refl
drop-past f g (suc n) [] within = absurd (omega arith)
drop-past f g (suc n) (r ∷ rs) within = drop-past f g n rs (omega arith)

length-past : (f g : NodeRef → NodeRef) (half : ℕ) (rs : List NodeRef) → length (map f (take half rs) ++ map g (drop half rs)) ≡ length rs
length-past f g zero rs = length-map rs g
length-past f g (suc n) [] = refl
length-past f g (suc n) (r ∷ rs) = ap suc (length-past f g n rs)

module _ (shelf : Contents) (is_shelf : IsShelf shelf) (track : ℕ) where
  past-valid : (half : ℕ) (rs : List NodeRef) → IsTrue (list_all (is_valid shelf) rs) → IsTrue (list_all (is_valid shelf) (past_of shelf track half rs))
  past-valid zero rs valid = sides-valid shelf is_shelf track true rs valid
  past-valid (suc n) [] valid = refl
  past-valid (suc n) (r ∷ rs) valid =
      and-both (is_valid shelf (side_at shelf track false r)) (list_all (is_valid shelf) (past_of shelf track n rs))
      (is_valid-IsValid shelf (side_at shelf track false r)
      (side-known shelf track false r is_shelf
      (is_valid-true shelf r (and-left (is_valid shelf r) (list_all (is_valid shelf) rs) valid))).valid)
      (past-valid n rs (and-right (is_valid shelf r) (list_all (is_valid shelf) rs) valid))

  past-within : (half : ℕ) (rs : List NodeRef) → IsTrue (list_all (is_valid shelf) rs) → weight_of (past_of shelf track half rs) ≤ weight_of rs
  past-within zero rs valid = sides-within shelf is_shelf track true rs valid
  past-within (suc n) [] valid = omega arith
  past-within (suc n) (r ∷ rs) valid =
      let side = side-known shelf track false r is_shelf (is_valid-true shelf r (and-left (is_valid shelf r) (list_all (is_valid shelf) rs) valid)) in
      let here = side.within in
      let rest = past-within n rs (and-right (is_valid shelf r) (list_all (is_valid shelf) rs) valid) in
      omega arith

  past-falls : (half : ℕ) (rs : List NodeRef) → IsTrue (list_all (is_valid shelf) rs) → SomeAsks shelf track rs →
      weight_of (past_of shelf track half rs) < weight_of rs
  past-falls zero rs valid some = sides-fall shelf is_shelf track true rs valid some
  past-falls (suc n) [] valid some = absurd some
  past-falls (suc n) (r ∷ rs) valid some =
      let side = side-known shelf track false r is_shelf (is_valid-true shelf r (and-left (is_valid shelf r) (list_all (is_valid shelf) rs) valid)) in
      let rest_valid = and-right (is_valid shelf r) (list_all (is_valid shelf) rs) valid in
      elim some [
        | inl first ↦ (let here = side.falls first in let rest = past-within n rs rest_valid in omega arith)
        | inr others ↦ (let here = side.within in let rest = past-falls n rs rest_valid others in omega arith)
      ]

-- all are leaves: the list is the same for each label
pub asked_by-leaves : (base : Contents) (dropped : Option ℕ) (half : ℕ) (rs : List NodeRef) (states : List ℕ) →
    ((other : Contents) (label : Label) → leaves_of other rs label ≡ states) → (label : Label) →
    asked_by base dropped half rs label ≡ states
asked_by-leaves base None half rs states leaves label = leaves base label
asked_by-leaves base (Some t) half rs states leaves label =
    ap (λ (front : List ℕ). front ++ leaves_of base (drop half rs) (with_track label t true))
    (sym (take-map (λ (r : NodeRef). state_of base r (with_track label t false)) half rs) ∙ ap (take half) (leaves base (with_track label t false)))
    ∙ ap (λ (rest : List ℕ). take half states ++ rest)
    (sym (drop-map (λ (r : NodeRef). state_of base r (with_track label t true)) half rs) ∙ ap (drop half) (leaves base (with_track label t true)))
    ∙ take-append-drop half states

module _ (dropped : Option ℕ) (half : ℕ) (base now : Contents) (is_shelf : IsShelf base) (keeps : Keeps base now)
    (rs : List NodeRef) (inside : IsTrue (list_all (is_valid base) rs && nat_le half (length rs))) (track : ℕ)
    (first : AskFirst now track rs) where
  many_valid : IsTrue (list_all (is_valid base) rs)
  many_valid = and-left (list_all (is_valid base) rs) (nat_le half (length rs)) inside

  many_within : half ≤ length rs
  many_within = leb-true half (length rs) (and-right (list_all (is_valid base) rs) (nat_le half (length rs)) inside)

  first_base : AskFirst base track rs
  first_base = AskFirst-kept base now keeps track rs many_valid first

  side_inside : (bit : Bool) → IsTrue (list_all (is_valid base) (map (side_at now track bit) rs) && nat_le half (length (map (side_at now track bit) rs)))
  side_inside bit =
      and-both (list_all (is_valid base) (map (side_at now track bit) rs)) (nat_le half (length (map (side_at now track bit) rs)))
      (sides_in base now is_shelf keeps track rs many_valid bit)
      (le-leb half (length (map (side_at now track bit) rs)) (let e = length-map rs (side_at now track bit) in let w = many_within in omega arith))

  -- the two sides of all references
  split_by : (d : Option ℕ) → is_first d track ≡ false →
      IsSplitBy track (λ (label : Label). asked_by base d half rs label)
      (λ (label : Label). asked_by base d half (map (side_at now track false) rs) label)
      (λ (label : Label). asked_by base d half (map (side_at now track true) rs) label)
  split_by None other = IsSplitBy-sides base now is_shelf keeps track rs many_valid first_base.all (λ label. label) (IsView-itself track)
  split_by (Some t) other =
      let apart = eqb-false t track other in
      let front = λ (bit : Bool). take-map (side_at now track bit) half rs in
      let rest = λ (bit : Bool). drop-map (side_at now track bit) half rs in
      subst (λ (ss : List NodeRef). IsSplitBy track (λ (label : Label). asked_by base (Some t) half rs label)
      (λ (label : Label). leaves_of base ss (with_track label t false)
      ++ leaves_of base (drop half (map (side_at now track false) rs)) (with_track label t true))
      (λ (label : Label). asked_by base (Some t) half (map (side_at now track true) rs) label)) (sym (front false))
      (subst (λ (ss : List NodeRef). IsSplitBy track (λ (label : Label). asked_by base (Some t) half rs label)
      (λ (label : Label). leaves_of base (map (side_at now track false) (take half rs))
      (with_track label t false) ++ leaves_of base ss (with_track label t true))
      (λ (label : Label). asked_by base (Some t) half (map (side_at now track true) rs) label)) (sym (rest false))
      (subst (λ (ss : List NodeRef). IsSplitBy track (λ (label : Label). asked_by base (Some t) half rs label)
      (λ (label : Label). leaves_of base (map (side_at now track false) (take half rs))
      (with_track label t false) ++ leaves_of base (map (side_at now track false) (drop half rs))
      (with_track label t true)) (λ (label : Label). leaves_of base ss (with_track label t false)
      ++ leaves_of base (drop half (map (side_at now track true) rs)) (with_track label t true))) (sym (front true))
      (subst (λ (ss : List NodeRef). IsSplitBy track (λ (label : Label). asked_by base (Some t) half rs label)
      (λ (label : Label). leaves_of base (map (side_at now track false) (take half rs))
      (with_track label t false) ++ leaves_of base (map (side_at now track false) (drop half rs))
      (with_track label t true)) (λ (label : Label).
      leaves_of base (map (side_at now track true) (take half rs)) (with_track label t false)
      ++ leaves_of base ss (with_track label t true))) (sym (rest true))
      (IsSplitBy-append track _ _ _ _ _ _
      (IsSplitBy-sides base now is_shelf keeps track (take half rs) (valid-take base half rs many_valid)
      (all-take (AsksFrom base track) half rs first_base.all) (λ label. with_track label t false)
      (IsView-with_track track t false apart))
      (IsSplitBy-sides base now is_shelf keeps track (drop half rs) (valid-drop base half rs many_valid)
      (all-drop (AsksFrom base track) half rs first_base.all) (λ label. with_track label t true)
      (IsView-with_track track t true apart))))))

  -- what is asked past the dropped track is what was asked
  past_now : past_of now track half rs ≡ past_of base track half rs
  past_now =
      ap (λ (ss : List NodeRef). ss ++ map (side_at now track true) (drop half rs))
      (sides-kept base now keeps track false (take half rs) (valid-take base half rs many_valid))
      ∙ ap (λ (ss : List NodeRef). map (side_at base track false) (take half rs) ++ ss)
      (sides-kept base now keeps track true (drop half rs) (valid-drop base half rs many_valid))

  past_same : (d : Option ℕ) → is_first d track ≡ true → (label : Label) → asked_by base d half rs label
      ≡ asked_by base d half (past_of base track half rs) label
  past_same None here label = absurd (false≢true here)
  past_same (Some t) here label =
      let is : t ≡ track = eqb-true t track here in
      let f = side_at base track false in
      let g = side_at base track true in
      ap (λ (states : List ℕ). states ++ leaves_of base (drop half rs) (with_track label t true))
      (sym (leaves-side base is_shelf track false (take half rs) (with_track label t false)
      (valid-take base half rs many_valid) (ap (with_track label t false) (sym is) ∙ with_track-same label t false))
      ∙ ap (λ (ss : List NodeRef). leaves_of base ss (with_track label t false)) (sym (take-past f g half rs many_within)))
      ∙ ap (λ (states : List ℕ). leaves_of base (take half (past_of base track half rs)) (with_track label t false) ++ states)
      (sym (leaves-side base is_shelf track true (drop half rs) (with_track label t true)
      (valid-drop base half rs many_valid) (ap (with_track label t true) (sym is) ∙ with_track-same label t true))
      ∙ ap (λ (ss : List NodeRef). leaves_of base ss (with_track label t true)) (sym (drop-past f g half rs many_within)))

  past_inside : IsTrue (list_all (is_valid base) (past_of base track half rs) && nat_le half (length (past_of base track half rs)))
  past_inside =
      and-both (list_all (is_valid base) (past_of base track half rs)) (nat_le half (length (past_of base track half rs)))
      (past-valid base is_shelf track half rs many_valid)
      (le-leb half (length (past_of base track half rs))
      (let e = length-past (side_at base track false) (side_at base track true) half rs in
      let w = many_within in omega arith))

-- the steps of a key with these references
module _ {K : Type 0} (refs : K → List NodeRef) (dropped : Option ℕ) (half : ℕ) (base now : Contents)
    (is_shelf : IsShelf base) (keeps : Keeps base now) (key : K)
    (inside : IsTrue (list_all (is_valid base) (refs key) && nat_le half (length (refs key)))) (track : ℕ)
    (first : AskFirst now track (refs key)) where
  IsSplit-many : (low high : K) → is_first dropped track ≡ false →
      refs low ≡ map (side_at now track false) (refs key) → refs high ≡ map (side_at now track true) (refs key)
      → IsSplit (λ (k : K). λ (label : Label). asked_by base dropped half (refs k) label)
      (λ (k : K). list_all (is_valid base) (refs k) && nat_le half (length (refs k)))
      (λ (k : K). weight_of (refs k)) key track low high
  IsSplit-many low high other low_is high_is = record {
    low_goes = record {
      inside = subst (λ (rs : List NodeRef). IsTrue (list_all (is_valid base) rs && nat_le half (length rs)))
          (sym low_is) (side_inside dropped half base now is_shelf keeps (refs key) inside track first false);
      falls = subst (λ (rs : List NodeRef). weight_of rs < weight_of (refs key)) (sym low_is)
          (sides_fall base now is_shelf keeps track (refs key)
          (many_valid dropped half base now is_shelf keeps (refs key) inside track first) first false);
    };
    high_goes = record {
      inside = subst (λ (rs : List NodeRef). IsTrue (list_all (is_valid base) rs && nat_le half (length rs)))
          (sym high_is) (side_inside dropped half base now is_shelf keeps (refs key) inside track first true);
      falls = subst (λ (rs : List NodeRef). weight_of rs < weight_of (refs key)) (sym high_is)
          (sides_fall base now is_shelf keeps track (refs key)
          (many_valid dropped half base now is_shelf keeps (refs key) inside track first) first true);
    };
    split = subst (λ (rs : List NodeRef).
        IsSplitBy track (λ (label : Label). asked_by base dropped half (refs key) label)
        (λ (label : Label). asked_by base dropped half rs label)
        (λ (label : Label). asked_by base dropped half (refs high) label)) (sym low_is)
        (subst (λ (rs : List NodeRef).
        IsSplitBy track (λ (label : Label). asked_by base dropped half (refs key) label)
        (λ (label : Label). asked_by base dropped half (map (side_at now track false) (refs key)) label)
        (λ (label : Label). asked_by base dropped half rs label)) (sym high_is)
        (split_by dropped half base now is_shelf keeps (refs key) inside track first dropped other));
  }

  IsSkip-many : (next : K) → is_first dropped track ≡ true → refs next ≡ past_of now track half (refs key)
      → IsSkip (λ (k : K). λ (label : Label). asked_by base dropped half (refs k) label)
      (λ (k : K). list_all (is_valid base) (refs k) && nat_le half (length (refs k)))
      (λ (k : K). weight_of (refs k)) key next
  unfolding AsksSame
  IsSkip-many next here next_is =
      let is = next_is ∙ past_now dropped half base now is_shelf keeps (refs key) inside track first in
      record {
        goes = record {
          inside = subst (λ (rs : List NodeRef). IsTrue (list_all (is_valid base) rs && nat_le half (length rs)))
              (sym is) (past_inside dropped half base now is_shelf keeps (refs key) inside track first);
          falls = subst (λ (rs : List NodeRef). weight_of rs < weight_of (refs key)) (sym is)
              (past-falls base is_shelf track half (refs key)
              (many_valid dropped half base now is_shelf keeps (refs key) inside track first)
              (first_base dropped half base now is_shelf keeps (refs key) inside track first).some);
        };
        same = λ label. past_same dropped half base now is_shelf keeps (refs key) inside track first dropped here label
            ∙ ap (λ (rs : List NodeRef). asked_by base dropped half rs label) (sym is);
      }

half_within : (rs : List NodeRef) → IsTrue (nat_le (half_of rs) (length rs))
half_within rs = le-leb (half_of rs) (length rs) (omega arith)

-- the steps of a key whose references are halved
module _ {K : Type 0} (refs : K → List NodeRef) (dropped : Option ℕ) (base now : Contents) (is_shelf : IsShelf base)
    (keeps : Keeps base now) (key : K) (valid : IsTrue (list_all (is_valid base) (refs key))) (track : ℕ)
    (first : AskFirst now track (refs key)) where
  halved : IsTrue (list_all (is_valid base) (refs key) && nat_le (half_of (refs key)) (length (refs key)))
  halved = and-both (list_all (is_valid base) (refs key)) (nat_le (half_of (refs key)) (length (refs key))) valid (half_within (refs key))

  -- a key with as many references, whose half was taken for that of this one
  FallsTo-halved : (next : K) → FallsTo (λ (k : K). λ (label : Label). asked_by base dropped (half_of (refs key)) (refs k) label)
      (λ (k : K). list_all (is_valid base) (refs k) && nat_le (half_of (refs key)) (length (refs k))) (λ (k : K). weight_of (refs k)) key next →
      FallsTo (λ (k : K). λ (label : Label). asked_by base dropped (half_of (refs k)) (refs k) label)
      (λ (k : K). list_all (is_valid base) (refs k)) (λ (k : K). weight_of (refs k)) key next
  FallsTo-halved next goes = record {
    inside = and-left (list_all (is_valid base) (refs next)) (nat_le (half_of (refs key)) (length (refs next))) goes.inside;
    falls = goes.falls;
  }

  pub IsSplit-halved : (low high : K) → is_first dropped track ≡ false →
      refs low ≡ map (side_at now track false) (refs key) → refs high ≡ map (side_at now track true) (refs key)
      → IsSplit (λ (k : K). λ (label : Label). asked_by base dropped (half_of (refs k)) (refs k) label)
      (λ (k : K). list_all (is_valid base) (refs k)) (λ (k : K). weight_of (refs k)) key track low high
  IsSplit-halved low high other low_is high_is =
      let half = half_of (refs key) in
      let step = IsSplit-many refs dropped half base now is_shelf keeps key halved track first low high other low_is high_is in
      let same_low : half ≡ half_of (refs low) =
      ap (λ (n : ℕ). n / 2) (sym (ap length low_is ∙ length-map (refs key) (side_at now track false))) in
      let same_high : half ≡ half_of (refs high) =
      ap (λ (n : ℕ). n / 2) (sym (ap length high_is ∙ length-map (refs key) (side_at now track true))) in
      record {
        low_goes = FallsTo-halved low step.low_goes;
        high_goes = FallsTo-halved high step.high_goes;
        split = subst (λ (h : ℕ). IsSplitBy track (λ (label : Label). asked_by base dropped half (refs key) label)
            (λ (label : Label). asked_by base dropped h (refs low) label)
            (λ (label : Label). asked_by base dropped (half_of (refs high)) (refs high) label)) same_low
            (subst (λ (h : ℕ). IsSplitBy track (λ (label : Label). asked_by base dropped half (refs key) label)
            (λ (label : Label). asked_by base dropped half (refs low) label)
            (λ (label : Label). asked_by base dropped h (refs high) label)) same_high step.split);
      }

  pub IsSkip-halved : (next : K) → is_first dropped track ≡ true → refs next ≡ past_of now track (half_of (refs key)) (refs key)
      → IsSkip (λ (k : K). λ (label : Label). asked_by base dropped (half_of (refs k)) (refs k) label)
      (λ (k : K). list_all (is_valid base) (refs k)) (λ (k : K). weight_of (refs k)) key next
  unfolding AsksSame
  IsSkip-halved next here next_is =
      let half = half_of (refs key) in
      let step = IsSkip-many refs dropped half base now is_shelf keeps key halved track first next here next_is in
      let same : half ≡ half_of (refs next) = ap (λ (n : ℕ). n / 2)
      (sym (ap length next_is ∙ length-past (side_at now track false) (side_at now track true) half (refs key))) in
      record {
        goes = FallsTo-halved next step.goes;
        same = λ label. step.same label ∙ ap (λ (h : ℕ). asked_by base dropped h (refs next) label) same;
      }
