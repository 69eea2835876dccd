-- The steps from a set of references.
use Rattle.std.proofs.Common.{◌≡◌, ◌≢◌, ℕ, suc, ◌<◌, Bool, true, false, List, [], ◌∷◌, ◌++◌, map, Option, Some, Contains, Vec, Global}
use Rattle.std.proofs.Common.{IsTrue, sym, ◌∙◌, ap, refl, subst, inl, inr, arith, if◌then◌else◌}
use Rattle.std.specs.List.{list_all, flat_map, AllByRecursion}
use Rattle.std.proofs.Math.Path.{fun_ext}
use Rattle.std.proofs.lemmas.List.Elements.{Contains-append_left, Contains-append_right, Contains-append_cases}
use Rattle.bdd_nodes.specs.declared.node_ref.NodeRef.{NodeRef}
use Rattle.labels.specs.Labels.{Label, with_track}
use Rattle.bdd_nodes.specs.Shelf.{Contents, IsShelf, IsValid, AsksFrom, state_of, top_of, low_of, high_of}
use Rattle.bdd_nodes.specs.Changes.{Keeps, is_valid}
use Rattle.bdd_nodes.proofs.SplitLemmas.{unasked, is_valid-true, is_valid-IsValid}
use Rattle.labels.proofs.LabelsLemmas.{with_track-same, with_track-later}
use Rattle.bdd_walk.specs.Asked.{leaves_of, asked_of}
use Rattle.bdd_walk.specs.Laws.{and-left, and-right, and-both}
use Rattle.bdd_walk.specs.Sets.{set_of}
use Rattle.bdd_walk.specs.Sides.{is_first, side_at, both_at, AskFirst, set_weight_of, IsSetOf}
use Rattle.bdd_walk.specs.Stands.{Asking, AsksSame, AsksByFrom}
use Rattle.bdd_walk.specs.Steps.{IsSplitBy, IsSkip, IsSplit}
use Rattle.bdd_walk.proofs.ContainsLemmas.{Contains-first, Contains-later, Contains-cases, Contains-none, Contains-map, Contains-mapped}
use Rattle.bdd_walk.proofs.KeysLemmas.{IsView-with_track, IsSplitBy-sides, IsSplitBy-append}
use Rattle.bdd_walk.proofs.SetsLemmas.{set_of-same}
use Rattle.bdd_walk.proofs.SetWeightLemmas.{asks, stays, both-cases, set-sides-fall, all-both-fall}
use Rattle.bdd_walk.proofs.SidesLemmas.{side-known, sides-kept, sides-valid, AskFirst-kept}

-- what all references of a list are, each is; and the other way round
valid-each : (shelf : Contents) (rs : List NodeRef) → IsTrue (list_all (is_valid shelf) rs) → (r : NodeRef) → Contains rs r → IsTrue (is_valid shelf r)
valid-each shelf [] valid r there = absurd (Contains-none r there)
valid-each shelf (s ∷ rs) valid r there = elim (Contains-cases s r rs there) [
  | inl is ↦ subst (λ (q : NodeRef). IsTrue (is_valid shelf q)) is (and-left (is_valid shelf s) (list_all (is_valid shelf) rs) valid)
  | inr later ↦ valid-each shelf rs (and-right (is_valid shelf s) (list_all (is_valid shelf) rs) valid) r later
]

valid-from_each : (shelf : Contents) (rs : List NodeRef) → ((r : NodeRef) → Contains rs r → IsTrue (is_valid shelf r)) → IsTrue (list_all (is_valid shelf) rs)
valid-from_each shelf [] each = refl
valid-from_each shelf (r ∷ rs) each =
    and-both (is_valid shelf r) (list_all (is_valid shelf) rs) (each r (Contains-first r rs))
    (valid-from_each shelf rs (λ s there. each s (Contains-later r s rs there)))

all-each : (P : NodeRef → Type 0) (rs : List NodeRef) → AllByRecursion P rs → (r : NodeRef) → Contains rs r → P r
all-each P [] all r there = absurd (Contains-none r there)
all-each P (s ∷ rs) all r there = elim (Contains-cases s r rs there) [
  | inl is ↦ subst P is all.0
  | inr later ↦ all-each P rs all.1 r later
]

pub set-valid : (shelf : Contents) (rs set : List NodeRef) → IsSetOf rs set → IsTrue (list_all (is_valid shelf) rs) → IsTrue (list_all (is_valid shelf) set)
set-valid shelf rs set is valid = valid-from_each shelf set (λ r there. valid-each shelf rs valid r (is.only r there))

-- the state is asked: that of a reference, with the track unset or set
record IsAsked (shelf : Contents) (t : ℕ) (rs : List NodeRef) (label : Label) (q : ℕ) : Type 0 where
  pub root : NodeRef
  pub bit : Bool
  pub there : Contains rs root
  pub is : state_of shelf root (with_track label t bit) ≡ q

module _ (shelf : Contents) (t : ℕ) where
  asked-has : (rs : List NodeRef) (label : Label) (q : ℕ) → IsAsked shelf t rs label q → Contains (asked_of shelf rs (Some t) label) q
  asked-has rs label q asked = subst (Contains (asked_of shelf rs (Some t) label)) asked.is (pick asked.bit)
    where
      pick : (bit : Bool) → Contains (asked_of shelf rs (Some t) label) (state_of shelf asked.root (with_track label t bit))
      pick false = Contains-append_left (leaves_of shelf rs (with_track label t false)) (leaves_of shelf rs (with_track label t true)) _
          (Contains-map (λ (r : NodeRef). state_of shelf r (with_track label t false)) rs asked.root asked.there)
      pick true = Contains-append_right (leaves_of shelf rs (with_track label t false)) (leaves_of shelf rs (with_track label t true)) _
          (Contains-map (λ (r : NodeRef). state_of shelf r (with_track label t true)) rs asked.root asked.there)

  asked-only : (rs : List NodeRef) (label : Label) (q : ℕ) → Contains (asked_of shelf rs (Some t) label) q → IsAsked shelf t rs label q
  asked-only rs label q there =
      elim (Contains-append_cases (leaves_of shelf rs (with_track label t false)) (leaves_of shelf rs (with_track label t true)) q there) [
        | inl unset ↦ (let at = Contains-mapped (λ (r : NodeRef). state_of shelf r (with_track label t false)) rs q unset in
            record { root = at.0; bit = false; there = at.1; is = at.2 })
        | inr is_set ↦ (let at = Contains-mapped (λ (r : NodeRef). state_of shelf r (with_track label t true)) rs q is_set in
            record { root = at.0; bit = true; there = at.1; is = at.2 })
      ]

  asked-same : (rs ss : List NodeRef) (label : Label) → ((q : ℕ) → IsAsked shelf t rs label q → IsAsked shelf t ss label q) →
      ((q : ℕ) → IsAsked shelf t ss label q → IsAsked shelf t rs label q) →
      set_of (asked_of shelf rs (Some t) label) ≡ set_of (asked_of shelf ss (Some t) label)
  asked-same rs ss label there back = set_of-same (asked_of shelf rs (Some t) label) (asked_of shelf ss (Some t) label)
      (λ q is. asked-has ss label q (there q (asked-only rs label q is)))
      (λ q is. asked-has rs label q (back q (asked-only ss label q is)))

  -- the set of the references asks the same
  pub asked-set : (rs set : List NodeRef) → IsSetOf rs set → (label : Label) →
      set_of (asked_of shelf rs (Some t) label) ≡ set_of (asked_of shelf set (Some t) label)
  asked-set rs set is label = asked-same rs set label
      (λ q asked. record { root = asked.root; bit = asked.bit; there = is.has asked.root asked.there; is = asked.is })
      (λ q asked. record { root = asked.root; bit = asked.bit; there = is.only asked.root asked.there; is = asked.is })

  pub asked-set_all : (rs set : List NodeRef) → IsSetOf rs set →
      ◌≡◌ {A = Asking} (λ label. set_of (asked_of shelf set (Some t) label)) (λ label. set_of (asked_of shelf rs (Some t) label))
  asked-set_all rs set is = fun_ext (λ (label : Label). sym (asked-set rs set is label))

-- all are leaves: the set is the same for each label
pub asked-leaves : (base : Contents) (t : ℕ) (rs : List NodeRef) (states : List ℕ) → ((other : Contents) (label : Label) → leaves_of other rs label ≡ states) →
    (label : Label) → set_of (asked_of base rs (Some t) label) ≡ set_of states
asked-leaves base t rs states leaves label =
    ap (λ (front : List ℕ). set_of (front ++ leaves_of base rs (with_track label t true))) (leaves base (with_track label t false))
    ∙ ap (λ (rest : List ℕ). set_of (states ++ rest)) (leaves base (with_track label t true))
    ∙ set_of-same (states ++ states) states
    (λ q there. elim (Contains-append_cases states states q there) [ inl front ↦ front | inr rest ↦ rest ])
    (λ q there. Contains-append_left states states q there)

-- both sides of all references
module _ (shelf : Contents) (track : ℕ) where
  both-has : (r : NodeRef) (bit : Bool) → Contains (both_at shelf track r) (side_at shelf track bit r)
  both-has r bit = elim (both-cases shelf track r) [
    | stays apart same is ↦ subst (λ (ss : List NodeRef). Contains ss (side_at shelf track bit r)) (sym is)
        (subst (λ (s : NodeRef). Contains (r ∷ []) s) (sym (same bit)) (Contains-first r []))
    | asks top is ↦ subst (λ (ss : List NodeRef). Contains ss (side_at shelf track bit r)) (sym is) (pick bit)
  ]
    where
      pick : (b : Bool) → Contains (side_at shelf track false r ∷ side_at shelf track true r ∷ []) (side_at shelf track b r)
      pick false = Contains-first (side_at shelf track false r) (side_at shelf track true r ∷ [])
      pick true = Contains-later (side_at shelf track false r) (side_at shelf track true r) (side_at shelf track true r ∷ [])
          (Contains-first (side_at shelf track true r) [])

  -- a side of one of the references
  record IsSideOf (rs : List NodeRef) (s : NodeRef) : Type 0 where
    pub root : NodeRef
    pub bit : Bool
    pub there : Contains rs root
    pub is : side_at shelf track bit root ≡ s

  both-only : (r s : NodeRef) → Contains (both_at shelf track r) s → (bit : Bool) × (side_at shelf track bit r ≡ s)
  both-only r s there = elim (both-cases shelf track r) [
    | stays apart same is ↦ elim (Contains-cases r s [] (subst (λ (ss : List NodeRef). Contains ss s) is there)) [
      | inl here ↦ (false, same false ∙ here)
      | inr later ↦ absurd (Contains-none s later)
    ]
    | asks top is ↦ elim (Contains-cases (side_at shelf track false r) s (side_at shelf track true r ∷ [])
        (subst (λ (ss : List NodeRef). Contains ss s) is there)) [
          | inl low ↦ (false, low)
          | inr later ↦ elim (Contains-cases (side_at shelf track true r) s [] later) [
            | inl high ↦ (true, high)
            | inr none ↦ absurd (Contains-none s none)
          ]
        ]
  ]

  all-both-has : (rs : List NodeRef) (r : NodeRef) (bit : Bool) → Contains rs r → Contains (flat_map (both_at shelf track) rs) (side_at shelf track bit r)
  all-both-has [] r bit there = absurd (Contains-none r there)
  all-both-has (s ∷ rs) r bit there = elim (Contains-cases s r rs there) [
    | inl is ↦ Contains-append_left (both_at shelf track s) (flat_map (both_at shelf track) rs) (side_at shelf track bit r)
        (subst (λ (q : NodeRef). Contains (both_at shelf track s) (side_at shelf track bit q)) is (both-has s bit))
    | inr later ↦ Contains-append_right (both_at shelf track s) (flat_map (both_at shelf track) rs) (side_at shelf track bit r) (all-both-has rs r bit later)
  ]

  all-both-only : (rs : List NodeRef) (s : NodeRef) → Contains (flat_map (both_at shelf track) rs) s → IsSideOf rs s
  all-both-only [] s there = absurd (Contains-none s there)
  all-both-only (r ∷ rs) s there = elim (Contains-append_cases (both_at shelf track r) (flat_map (both_at shelf track) rs) s there) [
    | inl here ↦ (let side = both-only r s here in record { root = r; bit = side.0; there = Contains-first r rs; is = side.1 })
    | inr later ↦ (let side = all-both-only rs s later in
        record { root = side.root; bit = side.bit; there = Contains-later r side.root rs side.there; is = side.is })
  ]

-- past the dropped track
module _ (base : Contents) (is_shelf : IsShelf base) (track : ℕ) (rs : List NodeRef) (valid : IsTrue (list_all (is_valid base) rs)) where
  past-valid : IsTrue (list_all (is_valid base) (flat_map (both_at base track) rs))
  past-valid = valid-from_each base (flat_map (both_at base track) rs) (λ s there.
      let side = all-both-only base track rs s there in
      subst (λ (q : NodeRef). IsTrue (is_valid base q)) side.is
      (is_valid-IsValid base (side_at base track side.bit side.root)
      (side-known base track side.bit side.root is_shelf (is_valid-true base side.root (valid-each base rs valid side.root side.there))).valid))

  module _ (first : AskFirst base track rs) (label : Label) (q : ℕ) where
    past-there : IsAsked base track rs label q → IsAsked base track (flat_map (both_at base track) rs) label q
    past-there asked =
        let known = side-known base track asked.bit asked.root is_shelf (is_valid-true base asked.root (valid-each base rs valid asked.root asked.there)) in
        record {
          root = side_at base track asked.bit asked.root;
          bit = asked.bit;
          there = all-both-has base track rs asked.root asked.bit asked.there;
          is = known.states (with_track label track asked.bit) (with_track-same label track asked.bit) ∙ asked.is;
        }

    past-back : IsAsked base track (flat_map (both_at base track) rs) label q → IsAsked base track rs label q
    past-back asked =
        let side = all-both-only base track rs asked.root asked.there in
        let known = side-known base track side.bit side.root is_shelf (is_valid-true base side.root (valid-each base rs valid side.root side.there)) in
        let asks_from = all-each (AsksFrom base track) rs first.all side.root side.there in
        record {
          root = side.root;
          bit = side.bit;
          there = side.there;
          is = sym (known.states (with_track label track side.bit) (with_track-same label track side.bit))
              ∙ unasked base (side_at base track side.bit side.root) (suc track) (with_track label track side.bit) (with_track label track asked.bit)
              is_shelf known.valid (known.later asks_from)
              (λ u later. with_track-later label track u side.bit later ∙ sym (with_track-later label track u asked.bit later))
              ∙ ap (λ (s : NodeRef). state_of base s (with_track label track asked.bit)) side.is
              ∙ asked.is;
        }

  past-same : AskFirst base track rs → (label : Label) →
      set_of (asked_of base rs (Some track) label) ≡ set_of (asked_of base (flat_map (both_at base track) rs) (Some track) label)
  past-same first label = asked-same base track rs (flat_map (both_at base track) rs) label
      (λ q asked. past-there first label q asked) (λ q asked. past-back first label q asked)

-- what is taken of references that stay
both-kept : (old new : Contents) → Keeps old new → (track : ℕ) (r : NodeRef) → IsValid old r → both_at new track r ≡ both_at old track r
both-kept old new keeps track r valid =
    ap (λ (o : Option ℕ). if is_first o track then low_of new r ∷ high_of new r ∷ [] else r ∷ []) (keeps.top r valid)
    ∙ ap (λ (s : NodeRef). if is_first (top_of old r) track then s ∷ high_of new r ∷ [] else r ∷ []) (keeps.low r valid)
    ∙ ap (λ (s : NodeRef). if is_first (top_of old r) track then low_of old r ∷ s ∷ [] else r ∷ []) (keeps.high r valid)

all-both-kept : (old new : Contents) → Keeps old new → (track : ℕ) (rs : List NodeRef) → IsTrue (list_all (is_valid old) rs) →
    flat_map (both_at new track) rs ≡ flat_map (both_at old track) rs
all-both-kept old new keeps track [] valid = refl
all-both-kept old new keeps track (r ∷ rs) valid =
    ap (λ (ss : List NodeRef). ss ++ flat_map (both_at new track) rs)
    (both-kept old new keeps track r (is_valid-true old r (and-left (is_valid old r) (list_all (is_valid old) rs) valid)))
    ∙ ap (λ (ss : List NodeRef). both_at old track r ++ ss)
    (all-both-kept old new keeps track rs (and-right (is_valid old r) (list_all (is_valid old) rs) valid))

-- the sets of what is asked
if-set : (b : Bool) (x y u v : List ℕ) → set_of x ≡ u → set_of y ≡ v → set_of (if b then x else y) ≡ (if b then u else v)
if-set true x y u v is_x is_y = is_x
if-set false x y u v is_x is_y = is_y

IsSplitBy-sets : (track : ℕ) (f low high low' high' : Asking) → IsSplitBy track f low high →
    ((label : Label) → set_of (low label) ≡ low' label) → ((label : Label) → set_of (high label) ≡ high' label) →
    IsSplitBy track (λ label. set_of (f label)) low' high'
unfolding AsksByFrom
IsSplitBy-sets track f low high low' high' split is_low is_high = record {
  asks = λ label. ap set_of (split.asks label) ∙ if-set (label track) (high label) (low label) (high' label) (low' label) (is_high label) (is_low label);
  low_later = λ l m agree. sym (is_low l) ∙ ap set_of (split.low_later l m agree) ∙ is_low m;
  high_later = λ l m agree. sym (is_high l) ∙ ap set_of (split.high_later l m agree) ∙ is_high m;
}

-- the steps of a key
module _ (t : ℕ) (base now : Contents) (is_shelf : IsShelf base) (keeps : Keeps base now) (key : Vec NodeRef Global)
    (valid : IsTrue (list_all (is_valid base) key.items)) (track : ℕ) (first : AskFirst now track key.items) where
  first_base : AskFirst base track key.items
  first_base = AskFirst-kept base now keeps track key.items valid first

  module _ (side : Vec NodeRef Global) (bit : Bool) (is : IsSetOf (map (side_at now track bit) key.items) side.items) where
    side_base : IsSetOf (map (side_at base track bit) key.items) side.items
    side_base = subst (λ (rs : List NodeRef). IsSetOf rs side.items) (sides-kept base now keeps track bit key.items valid) is

    side_inside : IsTrue (list_all (is_valid base) side.items)
    side_inside = set-valid base _ _ side_base (sides-valid base is_shelf track bit key.items valid)

    side_falls : set_weight_of side.items < set_weight_of key.items
    side_falls = let within = side_base.within in let falls = set-sides-fall base is_shelf track bit key.items valid first_base.some in omega arith

  pub IsSplit-set : (low high : Vec NodeRef Global) → t ≢ track → IsSetOf (map (side_at now track false) key.items) low.items →
      IsSetOf (map (side_at now track true) key.items) high.items →
      IsSplit (λ (k : Vec NodeRef Global). λ (label : Label). set_of (asked_of base k.items (Some t) label))
      (λ (k : Vec NodeRef Global). list_all (is_valid base) k.items) (λ (k : Vec NodeRef Global). set_weight_of k.items) key track low high
  IsSplit-set low high apart is_low is_high = record {
    low_goes = record { inside = side_inside low false is_low; falls = side_falls low false is_low };
    high_goes = record { inside = side_inside high true is_high; falls = side_falls high true is_high };
    split = IsSplitBy-sets track _ _ _ _ _
        (IsSplitBy-append track _ _ _ _ _ _
        (IsSplitBy-sides base now is_shelf keeps track key.items valid first_base.all (λ label. with_track label t false)
        (IsView-with_track track t false apart))
        (IsSplitBy-sides base now is_shelf keeps track key.items valid first_base.all (λ label. with_track label t true)
        (IsView-with_track track t true apart)))
        (λ label. asked-set base t (map (side_at now track false) key.items) low.items is_low label)
        (λ label. asked-set base t (map (side_at now track true) key.items) high.items is_high label);
  }

  pub IsSkip-set : (next : Vec NodeRef Global) → t ≡ track → IsSetOf (flat_map (both_at now track) key.items) next.items →
      IsSkip (λ (k : Vec NodeRef Global). λ (label : Label). set_of (asked_of base k.items (Some t) label))
      (λ (k : Vec NodeRef Global). list_all (is_valid base) k.items) (λ (k : Vec NodeRef Global). set_weight_of k.items) key next
  unfolding AsksSame
  IsSkip-set next here is =
      let is_base = subst (λ (rs : List NodeRef). IsSetOf rs next.items) (all-both-kept base now keeps track key.items valid) is in
      record {
        goes = record {
          inside = set-valid base _ _ is_base (past-valid base is_shelf track key.items valid);
          falls = (let within = is_base.within in let falls = all-both-fall base is_shelf track key.items valid first_base.some in omega arith);
        };
        same = λ label. subst (λ (n : ℕ). set_of (asked_of base key.items (Some n) label)
            ≡ set_of (asked_of base (flat_map (both_at base track) key.items) (Some n) label)) (sym here)
            (past-same base is_shelf track key.items valid first_base label)
            ∙ asked-set base t (flat_map (both_at base track) key.items) next.items is_base label;
      }
