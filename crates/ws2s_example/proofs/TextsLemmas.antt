-- On sets of texts in order, and what is added to them.
use Rattle.std.proofs.Common.{◌≡◌, ◌≢◌, ◌⊎◌, ℕ, zero, suc, ◌+◌, ◌<◌, ◌≤◌, ◌==◌, nat_lt, Bool, true, false, ◌||◌, IsTrue, List, [], ◌∷◌, ◌++◌}
use Rattle.std.proofs.Common.{length, map, Contains}
use Rattle.std.proofs.Common.{slice_get, slice_set, Some, refl, sym, ap, subst, ◌∙◌, inl, inr, arith, eq-eqb, ne_eqb}
use mathlib.Core.Bool.{true≢false}
use Rattle.std.specs.List.Sorted.{IsStrictlySortedBy}
use Rattle.std.specs.Ordering.{nat_cmp, match_ordering}
use Rattle.std.specs.Cmp.Lexicographic.{slice_cmp}
use Rattle.std.specs.BTreeSet.{insert_key}
use Rattle.std.specs.declared.cmp.Ordering.{Ordering}
use Rattle.std.specs.declared.cmp.Ordering.TheVariants.{Less, Equal, Greater}
use Rattle.std.specs.declared.vec.Vec.{Vec}
use Rattle.std.specs.declared.alloc.Global.{Global}
use Rattle.std.specs.List.{AllByRecursion, list_any}
use Rattle.std.proofs.lemmas.Bool.{cases_eq, cases_lt, lt-ltb}
use Rattle.std.proofs.lemmas.List.{length-set}
use Rattle.std.proofs.lemmas.List.Folds.{list_any-append}
use Rattle.std.proofs.lemmas.Option.{slice_get_within}
use Rattle.std.proofs.lemmas.Map.Lookups.{CmpEqualImpliesEq, exact_bytes}
use Rattle.gta_theory.proofs.ListsLemmas.{Contains-first, Contains-later, Contains-cases, Contains-none}
use Rattle.ws2s_core.specs.declared.track.Track.{Track}
use Rattle.ws2s_core.specs.declared.label_tree.TreeNode.{TreeNode}
use Rattle.ws2s_core.specs.LabelTrees.{assignment_of, IsTree}
use Rattle.ws2s_theory.specs.Trees.{label_of}
use Rattle.ws2s_example.proofs.ListLemmas.{get-set, get-set_other, some}
use Rattle.ws2s_example.specs.Texts.{Texts, texts_of, Ascend, AddsWhere, AllAscend, Notes, NotesNode, HasText, HaveTexts}
use Rattle.ws2s_example.specs.Examples.{AreTextsOf, position_text}
use Rattle.ws2s_example.specs.Hanging.{IsPlaceText}
use Rattle.ws2s_example.proofs.HangingLemmas.{position-one, label-position, has_bit}

-- the texts of keys, one of them put in
pub texts-insert : (keys : List (Vec ℕ Global)) (k : Vec ℕ Global) →
    map (λ text. text.items) (insert_key (λ x y. slice_cmp nat_cmp x.items y.items) keys k)
    ≡ insert_key (slice_cmp nat_cmp) (map (λ text. text.items) keys) k.items
texts-insert [] k = refl
texts-insert (x ∷ keys) k =
    elim (slice_cmp nat_cmp k.items x.items) as (λ o.
    map (λ (text : Vec ℕ Global). text.items)
    (match_ordering o (k ∷ x ∷ keys) (x ∷ keys) (x ∷ insert_key (λ (a b : Vec ℕ Global). slice_cmp nat_cmp a.items b.items) keys k))
    ≡ match_ordering o (k.items ∷ x.items ∷ map (λ (text : Vec ℕ Global). text.items) keys) (x.items ∷ map (λ (text : Vec ℕ Global). text.items) keys)
    (x.items ∷ insert_key (slice_cmp nat_cmp) (map (λ (text : Vec ℕ Global). text.items) keys) k.items)) [
      | Less ↦ refl
      | Equal ↦ refl
      | Greater ↦ ap (λ (r : List (List ℕ)). x.items ∷ r) (texts-insert keys k)
    ]

module _ {X : Type 0} (c : X → X → Ordering) where
  pub inserted-old : (xs : List X) (k y : X) → Contains xs y → Contains (insert_key c xs k) y
  inserted-old [] k y h = absurd (Contains-none y h)
  inserted-old (x ∷ xs) k y h =
      elim (c k x) as (λ o. Contains (match_ordering o (k ∷ x ∷ xs) (x ∷ xs) (x ∷ insert_key c xs k)) y) [
        | Less ↦ Contains-later k y (x ∷ xs) h
        | Equal ↦ h
        | Greater ↦ elim (Contains-cases x y xs h) as (λ _. Contains (x ∷ insert_key c xs k) y) [
          | inl is ↦ subst (Contains (x ∷ insert_key c xs k)) is (Contains-first x (insert_key c xs k))
          | inr later ↦ Contains-later x y (insert_key c xs k) (inserted-old xs k y later)
        ]
      ]

  pub inserted-cases : (xs : List X) (k y : X) → Contains (insert_key c xs k) y → Contains xs y ⊎ (y ≡ k)
  inserted-cases [] k y h = elim (Contains-cases k y [] h) as (λ _. Contains [] y ⊎ (y ≡ k)) [
    | inl is ↦ inr (sym is)
    | inr later ↦ inl later
  ]
  inserted-cases (x ∷ xs) k y h = pick (c k x) (λ later. inserted-cases xs k y later) h
    where
      pick : (o : Ordering) → (Contains (insert_key c xs k) y → Contains xs y ⊎ (y ≡ k)) →
          Contains (match_ordering o (k ∷ x ∷ xs) (x ∷ xs) (x ∷ insert_key c xs k)) y → Contains (x ∷ xs) y ⊎ (y ≡ k)
      pick Less rest h = elim (Contains-cases k y (x ∷ xs) h) as (λ _. Contains (x ∷ xs) y ⊎ (y ≡ k)) [
        | inl is ↦ inr (sym is)
        | inr later ↦ inl later
      ]
      pick Equal rest h = inl h
      pick Greater rest h = elim (Contains-cases x y (insert_key c xs k) h) as (λ _. Contains (x ∷ xs) y ⊎ (y ≡ k)) [
        | inl is ↦ inl (subst (Contains (x ∷ xs)) is (Contains-first x xs))
        | inr later ↦ elim (rest later) as (λ _. Contains (x ∷ xs) y ⊎ (y ≡ k)) [
          | inl old ↦ inl (Contains-later x y xs old)
          | inr is ↦ inr is
        ]
      ]

  pub inserted-new : CmpEqualImpliesEq c → (xs : List X) (k : X) → Contains (insert_key c xs k) k
  inserted-new exact [] k = Contains-first k []
  inserted-new exact (x ∷ xs) k = pick (c k x) (inserted-new exact xs k) refl
    where
      pick : (o : Ordering) → Contains (insert_key c xs k) k → c k x ≡ o →
          Contains (match_ordering o (k ∷ x ∷ xs) (x ∷ xs) (x ∷ insert_key c xs k)) k
      pick Less rest is = Contains-first k (x ∷ xs)
      pick Equal rest is = subst (Contains (x ∷ xs)) (sym (exact k x is)) (Contains-first x xs)
      pick Greater rest is = Contains-later x k (insert_key c xs k) rest

-- a text put in
pub adds-insert : (old new : Texts) (k : Vec ℕ Global) (text : List ℕ) → k.items ≡ text →
    new.keys ≡ insert_key (λ x y. slice_cmp nat_cmp x.items y.items) old.keys k → AddsWhere true text (texts_of old) (texts_of new)
adds-insert old new k text is_text is other =
    let texts : texts_of new ≡ insert_key (slice_cmp nat_cmp) (texts_of old) k.items =
    ap (map (λ (t : Vec ℕ Global). t.items)) is ∙ texts-insert old.keys k in (
      (λ h. elim (inserted-cases (slice_cmp nat_cmp) (texts_of old) k.items other (subst (λ ts. Contains ts other) texts h))
          as (λ _. Contains (texts_of old) other ⊎ (IsTrue true × (other ≡ text))) [
            | inl there ↦ inl there
            | inr same ↦ inr (refl, same ∙ is_text)
          ]),
      (λ h. subst (λ ts. Contains ts other) (sym texts) (elim h as (λ _. Contains (insert_key (slice_cmp nat_cmp) (texts_of old) k.items) other) [
        | inl there ↦ inserted-old (slice_cmp nat_cmp) (texts_of old) k.items other there
        | inr same ↦ subst (Contains (insert_key (slice_cmp nat_cmp) (texts_of old) k.items)) (is_text ∙ sym same.1)
            (inserted-new (slice_cmp nat_cmp) exact_bytes (texts_of old) k.items)
      ])),
    )

pub adds-nothing : (text : List ℕ) (old : List (List ℕ)) → AddsWhere false text old old
adds-nothing text old other = (
  (λ h. inl h),
  (λ h. elim h as (λ _. Contains old other) [ inl there ↦ there | inr same ↦ absurd (true≢false (sym same.0)) ]),
)

either : (a b : Bool) → IsTrue (a || b) → IsTrue a ⊎ IsTrue b
either true b h = inl refl
either false b h = inr h

left-true : (a b : Bool) → IsTrue a → IsTrue (a || b)
left-true true b h = refl
left-true false b h = absurd (true≢false (sym h))

right-true : (a b : Bool) → IsTrue b → IsTrue (a || b)
right-true true b h = refl
right-true false b h = h

pub adds-twice : (a b : Bool) (text : List ℕ) (old mid new : List (List ℕ)) → AddsWhere a text old mid → AddsWhere b text mid new →
    AddsWhere (a || b) text old new
adds-twice a b text old mid new first second other = (
  (λ h. elim ((second other).0 h) as (λ _. Contains old other ⊎ (IsTrue (a || b) × (other ≡ text))) [
    | inl there ↦ elim ((first other).0 there) as (λ _. Contains old other ⊎ (IsTrue (a || b) × (other ≡ text))) [
      | inl was ↦ inl was
      | inr same ↦ inr (left-true a b same.0, same.1)
    ]
    | inr same ↦ inr (right-true a b same.0, same.1)
  ]),
  (λ h. elim h as (λ _. Contains new other) [
    | inl was ↦ (second other).1 (inl ((first other).1 (inl was)))
    | inr same ↦ elim (either a b same.0) as (λ _. Contains new other) [
      | inl on ↦ (second other).1 (inl ((first other).1 (inr (on, same.1))))
      | inr on ↦ (second other).1 (inr (on, same.1))
    ]
  ]),
)

-- ---- sets in a list

pub Notes-none : (text : List ℕ) (sets : List Texts) → Notes [] text sets sets
Notes-none text sets = record {
  long = refl;
  each = λ i old new at_old at_new. subst (λ (set : Texts). AddsWhere false text (texts_of old) (texts_of set)) (some (sym at_old ∙ at_new))
      (adds-nothing text (texts_of old));
}

find_set : (sets : List Texts) (i : ℕ) → i < length sets → (set : Texts) × (slice_get sets i ≡ Some set)
find_set [] i inside = absurd (omega arith)
find_set (set ∷ sets) zero inside = (set, refl)
find_set (set ∷ sets) (suc i) inside = find_set sets i (omega arith)

pub Notes-then : (tracks more : List Track) (text : List ℕ) (before mid after : List Texts) → Notes tracks text before mid → Notes more text mid after →
    Notes (tracks ++ more) text before after
Notes-then tracks more text before mid after first second = record {
  long = second.long ∙ first.long;
  each = λ i old new at_old at_new.
      let inside : i < length mid = omega (arith, slice_get_within before i old at_old, first.long) in
      let set = find_set mid i inside in
      let twice = adds-twice (label_of tracks i) (label_of more i) text (texts_of old) (texts_of set.0) (texts_of new)
      (first.each i old set.0 at_old set.1) (second.each i set.0 new set.1 at_new) in
      subst (λ b. AddsWhere b text (texts_of old) (texts_of new)) (sym (list_any-append (λ (track : Track). track.0 == i) tracks more)) twice;
}

-- the text put into one set
pub Notes-one : (track : Track) (text : List ℕ) (sets : List Texts) (old new : Texts) → slice_get sets track.0 ≡ Some old →
    AddsWhere true text (texts_of old) (texts_of new) → Notes (track ∷ []) text sets (slice_set sets track.0 new)
Notes-one track text sets old new at adds = record {
  long = length-set sets track.0 new;
  each = λ i was is at_was at_is. elim (cases_eq i track.0) as (λ _. AddsWhere (label_of (track ∷ []) i) text (texts_of was) (texts_of is)) [
    | inl same ↦
        let here = get-set sets track.0 new (slice_get_within sets track.0 old at) in
        let is_old : old ≡ was = some (sym at ∙ ap (slice_get sets) (sym same) ∙ at_was) in
        let is_new : new ≡ is = some (sym here ∙ ap (slice_get (slice_set sets track.0 new)) (sym same) ∙ at_is) in
        subst (λ b. AddsWhere b text (texts_of was) (texts_of is)) (sym (ap (λ b. b || false) (eq-eqb track.0 i (sym same))))
        (subst (λ (set : Texts). AddsWhere true text (texts_of was) (texts_of set)) is_new
        (subst (λ (set : Texts). AddsWhere true text (texts_of set) (texts_of new)) is_old adds))
    | inr other ↦
        let same : was ≡ is = some (sym at_was ∙ sym (get-set_other sets track.0 i new other) ∙ at_is) in
        subst (λ b. AddsWhere b text (texts_of was) (texts_of is)) (sym (ap (λ b. b || false) (ne_eqb track.0 i (λ e. other (sym e)))))
        (subst (λ (set : Texts). AddsWhere false text (texts_of was) (texts_of set)) same (adds-nothing text (texts_of was)))
  ];
}

-- no set has the track
pub Notes-past : (track : Track) (text : List ℕ) (sets : List Texts) → length sets ≤ track.0 → Notes (track ∷ []) text sets sets
Notes-past track text sets past = record {
  long = refl;
  each = λ i was is at_was at_is.
      let other : track.0 ≢ i = λ e. omega (arith, slice_get_within sets i was at_was) in
      let same : was ≡ is = some (sym at_was ∙ at_is) in
      subst (λ b. AddsWhere b text (texts_of was) (texts_of is)) (sym (ap (λ b. b || false) (ne_eqb track.0 i other)))
      (subst (λ (set : Texts). AddsWhere false text (texts_of was) (texts_of set)) same (adds-nothing text (texts_of was)));
}

-- each set ascends after one of them was exchanged
pub AllAscend-set : (sets : List Texts) (i : ℕ) (new : Texts) → AllAscend sets → Ascend (texts_of new) → AllAscend (slice_set sets i new)
AllAscend-set sets i new ascend rises k set at = elim (cases_eq k i) as (λ _. Ascend (texts_of set)) [
  | inl same ↦
      let inside : i < length sets = omega (arith, slice_get_within (slice_set sets i new) k set at, length-set sets i new, same) in
      let is_new : new ≡ set = some (sym (get-set sets i new inside) ∙ ap (slice_get (slice_set sets i new)) (sym same) ∙ at) in
      subst (λ (s : Texts). Ascend (texts_of s)) is_new rises
  | inr other ↦ ascend k set (sym (get-set_other sets i k new other) ∙ at)
]

-- keys that ascend have texts that ascend
pub ascend-keys : (keys : List (Vec ℕ Global)) → IsStrictlySortedBy (λ (x y : Vec ℕ Global). slice_cmp nat_cmp x.items y.items) keys →
    IsStrictlySortedBy (slice_cmp nat_cmp) (map (λ (text : Vec ℕ Global). text.items) keys)
unfolding IsStrictlySortedBy
ascend-keys [] sorted = tt
ascend-keys (k ∷ keys) sorted = (below keys sorted.0, ascend-keys keys sorted.1)
  where
    below : (ks : List (Vec ℕ Global)) → AllByRecursion (λ (y : Vec ℕ Global). slice_cmp nat_cmp k.items y.items ≡ Less) ks →
        AllByRecursion (λ y. slice_cmp nat_cmp k.items y ≡ Less) (map (λ (text : Vec ℕ Global). text.items) ks)
    below [] all = tt
    below (x ∷ ks) all = (all.0, below ks all.1)

-- ---- the texts of nodes

any-below : (tracks : List Track) (count t : ℕ) → t < count → list_any (λ (track : Track). nat_lt track.0 count) tracks ≡ false → label_of tracks t ≡ false
any-below [] count t less none = refl
any-below (track ∷ tracks) count t less none =
    let here : nat_lt track.0 count ≡ false = left-false (nat_lt track.0 count) (list_any (λ (x : Track). nat_lt x.0 count) tracks) none in
    let later : list_any (λ (x : Track). nat_lt x.0 count) tracks ≡ false =
    right-false (nat_lt track.0 count) (list_any (λ (x : Track). nat_lt x.0 count) tracks) none in
    let other : track.0 ≢ t = λ e. true≢false (sym (lt-ltb track.0 count (omega arith)) ∙ here) in
    ap (λ b. b || label_of tracks t) (ne_eqb track.0 t other) ∙ any-below tracks count t less later
  where
    left-false : (a b : Bool) → (a || b) ≡ false → a ≡ false
    left-false true b h = absurd (true≢false h)
    left-false false b h = refl

    right-false : (a b : Bool) → (a || b) ≡ false → b ≡ false
    right-false true b h = absurd (true≢false h)
    right-false false b h = h

-- no set has one of the node's tracks
pub NotesNode-none : (nodes : List TreeNode) (place : ℕ) (tracks : List Track) (sets : List Texts) →
    list_any (λ (track : Track). nat_lt track.0 (length sets)) tracks ≡ false → NotesNode nodes place tracks sets sets
NotesNode-none nodes place tracks sets none = record {
  long = refl;
  each = λ i was is at_was at_is other.
      let same : was ≡ is = some (sym at_was ∙ at_is) in
      let unset : label_of tracks i ≡ false = any-below tracks (length sets) i (slice_get_within sets i was at_was) none in (
        (λ h. inl (subst (λ (set : Texts). Contains (texts_of set) other) (sym same) h)),
        (λ h. elim h as (λ _. Contains (texts_of is) other) [
          | inl there ↦ subst (λ (set : Texts). Contains (texts_of set) other) same there
          | inr new ↦ absurd (true≢false (sym new.0 ∙ unset))
        ]),
      );
}

pub NotesNode-text : (nodes : List TreeNode) (tree : IsTree nodes) (place : ℕ) (tracks : List Track) (text : List ℕ) (before after : List Texts) →
    IsPlaceText nodes place text → Notes tracks text before after → NotesNode nodes place tracks before after
NotesNode-text nodes tree place tracks text before after is_text notes = record {
  long = notes.long;
  each = λ i was is at_was at_is other.
      let adds = notes.each i was is at_was at_is other in (
        (λ h. elim (adds.0 h) as (λ _. Contains (texts_of was) other ⊎ (IsTrue (label_of tracks i) × IsPlaceText nodes place other)) [
          | inl there ↦ inl there
          | inr new ↦ inr (new.0, subst (IsPlaceText nodes place) (sym new.1) is_text)
        ]),
        (λ h. adds.1 (elim h as (λ _. Contains (texts_of was) other ⊎ (IsTrue (label_of tracks i) × (other ≡ text))) [
          | inl there ↦ inl there
          | inr new ↦ inr (new.0, one-text (new.1))
        ])),
      );
}
  where
    one-text : {other : List ℕ} → IsPlaceText nodes place other → other ≡ text
    one-text here =
        here.is_text ∙ ap position_text (position-one nodes tree place here.position is_text.position here.stands is_text.stands) ∙ sym is_text.is_text

pub Ascend-empty : Ascend []
unfolding IsStrictlySortedBy
Ascend-empty = tt

-- at first the sets have no texts
pub HaveTexts-start : (nodes : List TreeNode) (sets : List Texts) → ((i : ℕ) (set : Texts) → slice_get sets i ≡ Some set → texts_of set ≡ []) →
    HaveTexts nodes 0 sets
HaveTexts-start nodes sets empty i set at text = (
  (λ h. absurd (Contains-none text (subst (λ ts. Contains ts text) (empty i set at) h))),
  (λ has. absurd (omega (arith, has.first))),
)

pub HaveTexts-more : (nodes : List TreeNode) (place : ℕ) (node : TreeNode) (before after : List Texts) → slice_get nodes place ≡ Some node →
    HaveTexts nodes place before → NotesNode nodes place node.tracks before after → HaveTexts nodes (place + 1) after
HaveTexts-more nodes place node before after there have notes i set at text =
    let inside : i < length before = omega (arith, slice_get_within after i set at, notes.long) in
    let old = find_set before i inside in
    let step = notes.each i old.0 set old.1 at text in
    let known = have i old.0 old.1 text in (
      (λ h. elim (step.0 h) as (λ _. HasText nodes (place + 1) i text) [
        | inl was ↦
            let has = known.0 was in
            record { place = has.place; first = omega (arith, has.first); node = has.node; there = has.there; bit = has.bit; is_text = has.is_text }
        | inr new ↦ record { place = place; first = omega arith; node = node; there = there; bit = new.0; is_text = new.1 }
      ]),
      (λ has. step.1 (elim (cases_lt has.place place)
          as (λ _. Contains (texts_of old.0) text ⊎ (IsTrue (label_of node.tracks i) × IsPlaceText nodes place text)) [
            | inl earlier ↦ inl (known.1 (record {
              place = has.place;
              first = earlier;
              node = has.node;
              there = has.there;
              bit = has.bit;
              is_text = has.is_text;
            }))
            | inr late ↦
                let same : has.place ≡ place = omega (arith, late, has.first) in
                let is_node : has.node ≡ node = some (sym has.there ∙ ap (slice_get nodes) same ∙ there) in
                inr (subst (λ (n : TreeNode). IsTrue (label_of n.tracks i)) is_node has.bit, subst (λ n. IsPlaceText nodes n text) same has.is_text)
          ])),
    )

-- in the end they have those of the tree's positions
pub AreTextsOf-tree : (nodes : List TreeNode) (tree : IsTree nodes) (count : ℕ) (sets : List Texts) → length nodes ≤ count → AllAscend sets →
    HaveTexts nodes count sets → (i : ℕ) (set : Texts) → slice_get sets i ≡ Some set → AreTextsOf (assignment_of nodes i) (texts_of set)
AreTextsOf-tree nodes tree count sets all ascend have i set at = record {
  each = λ text. (
    (λ h.
        let has = (have i set at text).0 h in
        let on = label-position nodes tree i has.place has.node has.is_text.position has.there has.is_text.stands in
        (has.is_text.position, on ∙ has.bit, has.is_text.is_text)),
    (λ h.
        let bit = has_bit nodes tree i h.0 h.1 in
        (have i set at text).1 (record {
          place = bit.place;
          first = omega (arith, slice_get_within nodes bit.place bit.node bit.there);
          node = bit.node;
          there = bit.there;
          bit = bit.bit;
          is_text = record { position = h.0; stands = bit.stands; is_text = h.2 };
        })),
  );
  ascend = ascend i set at;
}
