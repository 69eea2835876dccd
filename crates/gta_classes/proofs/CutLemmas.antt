-- Classes are cut in two.
use Rattle.std.proofs.Common.{◌≡◌, ℕ, ◌+◌, ◌<◌, Bool, true, List, [], ◌∷◌, ◌++◌, length, take, None, ◌⊎◌, inl, inr}
use Rattle.std.proofs.Common.{sym, ◌∙◌, ap, refl, subst, arith}
use Rattle.std.specs.Prelude.{Contains, slice_index, slice_set}
use Rattle.std.proofs.lemmas.List.{take_more, take_all, get_or_default, get_or-set_same, get_or-set_other, length-set}
use Rattle.std.proofs.lemmas.List.Elements.{Contains-push, Contains-push_cases, Contains-append_left, Contains-get_or}
use Rattle.std.proofs.lemmas.Bool.{cases_eq, cases_lt}
use Rattle.gta_classes.specs.declared.part.SpaceClasses.{SpaceClasses}
use Rattle.gta_classes.specs.Chosen.{is_marked}
use Rattle.gta_classes.specs.Classes.{AreClasses, IsSplit}
use Rattle.gta_classes.specs.Splitting.{Made, made_for, IsStep}
use Rattle.gta_classes.specs.Lists.{list_at, Leads, IsAdded}
use Rattle.gta_classes.specs.Cuts.{IsIndicator, IsIn, Covers, HasOthers}
use Rattle.gta_classes.specs.Marks.{AreZero}
use Rattle.gta_classes.proofs.ChosenLemmas.{marked-inside}
use Rattle.gta_classes.proofs.ListsLemmas.{cases_contains, Contains-none}
use Rattle.gta_classes.proofs.SplitLemmas.{Splits, Splits-start, Splits-step, Splits-again, IsDone, stayed, went, first_id, AreClasses-all, IsSplit-all}

-- 1 at each state that is listed so far, and 0 at each other one
abbrev pub IsIndicatorBelow : List ℕ → List ℕ → ℕ → Type 0
IsIndicatorBelow listed ids below = (q : ℕ) →
    ((slice_index ids q ≡ 1) × Contains listed q) ⊎ ((slice_index ids q ≡ 0) × ((k : ℕ) → k < below → slice_index listed k ≡ q → ⊥))

pub IsIndicatorBelow-start : (listed ids : List ℕ) → AreZero ids → IsIndicatorBelow listed ids 0
IsIndicatorBelow-start listed ids none q = inr (none q, λ k k_in e. absurd (omega arith))

pub IsIndicatorBelow-next : (listed ids : List ℕ) (below : ℕ) → below < length listed → slice_index listed below < length ids →
    IsIndicatorBelow listed ids below → IsIndicatorBelow listed (slice_set ids (slice_index listed below) 1) (below + 1)
IsIndicatorBelow-next listed ids below inside small so_far q = elim (cases_eq q (slice_index listed below)) [
  | inl same ↦ inl (
    ap (slice_index (slice_set ids (slice_index listed below) 1)) same ∙ get_or-set_same ids (slice_index listed below) 1 0 small,
    subst (Contains listed) (sym same) (Contains-get_or listed below 0 inside),
  )
  | inr other ↦
      let at : slice_index (slice_set ids (slice_index listed below) 1) q ≡ slice_index ids q = get_or-set_other ids (slice_index listed below) q 1 0 other in
      elim (so_far q) [
        | inl one ↦ inl (at ∙ one.0, one.1)
        | inr none ↦ inr (
          at ∙ none.0,
          λ k k_in e. elim (cases_eq k below) [
            | inl last ↦ absurd (other (sym e ∙ ap (slice_index listed) last))
            | inr before ↦ none.1 k (omega arith) e
          ],
        )
      ]
]

pub IsIndicator-all : (listed ids : List ℕ) → IsIndicatorBelow listed ids (length listed) → IsIndicator listed ids
IsIndicator-all listed ids all q = elim (all q) [
  | inl one ↦ inl one
  | inr none ↦ inr (none.0, λ there. none.1 there.0 there.1 (get_or_default listed there.0 0 q there.1 ∙ there.2))
]

-- a state beside the order has the number of its representative
pub others-same : (part : SpaceClasses) (listed order ids : List ℕ) → HasOthers part listed order → IsIndicator listed ids → (q : ℕ) →
    is_marked part.reached q ≡ true → (Contains order q → ⊥) →
    slice_index ids q ≡ slice_index ids (slice_index part.representatives (slice_index part.classes q))
others-same part listed order ids has indicator q marked outside =
    let first = slice_index part.representatives (slice_index part.classes q) in
    elim (indicator q) [
      | inl one ↦ absurd (outside (has.kept q one.1))
      | inr zero_q ↦ elim (indicator first) [
        | inl one ↦ absurd (outside (has.others q marked one.1))
        | inr zero_first ↦ zero_q.0 ∙ sym zero_first.0
      ]
    ]

-- another state of a class represents it
pub AreClasses-represent : (reached : List Bool) (classes representatives : List ℕ) (class state : ℕ) → AreClasses reached classes representatives →
    class < length representatives → is_marked reached state ≡ true → slice_index classes state ≡ class →
    AreClasses reached classes (slice_set representatives class state)
AreClasses-represent reached classes representatives class state are inside marked is =
    let many = length-set representatives class state in
    let here : slice_index (slice_set representatives class state) class ≡ state = get_or-set_same representatives class state 0 inside in
    record {
      many = are.many;
      few = let f = are.few in omega arith;
      within = λ q q_in. let w = are.within q q_in in omega arith;
      inside = λ x x_in. elim (cases_eq x class) [
        | inl same ↦ ap (is_marked reached) (ap (slice_index (slice_set representatives class state)) same ∙ here) ∙ marked
        | inr other ↦ ap (is_marked reached) (get_or-set_other representatives class x state 0 other) ∙ are.inside x (omega arith)
      ];
      has = λ x x_in. elim (cases_eq x class) [
        | inl same ↦ ap (slice_index classes) (ap (slice_index (slice_set representatives class state)) same ∙ here) ∙ is ∙ sym same
        | inr other ↦ ap (slice_index classes) (get_or-set_other representatives class x state 0 other) ∙ are.has x (omega arith)
      ];
    }

-- the states of a class so far
pub record AddsMembers (members : List ℕ) (part : SpaceClasses) (class : ℕ) (old now : List ℕ) (below : ℕ) : Type 0 where
  pub kept : (q : ℕ) → Contains old q → Contains now q
  pub added : (k : ℕ) → k < below → IsIn part class (slice_index members k) → Contains now (slice_index members k)
  pub sound : (q : ℕ) → Contains now q → Contains old q ⊎ IsIn part class q

pub AddsMembers-none : (members : List ℕ) (part : SpaceClasses) (class : ℕ) (old : List ℕ) → AddsMembers members part class old old 0
AddsMembers-none members part class old = record {
  kept = λ q there. there;
  added = λ k k_in is. absurd (omega arith);
  sound = λ q there. inl there;
}

module _ (members : List ℕ) (part : SpaceClasses) (class : ℕ) (old now : List ℕ) (below : ℕ)
    (so_far : AddsMembers members part class old now below) where
  pub AddsMembers-skip : (IsIn part class (slice_index members below) → ⊥) → AddsMembers members part class old now (below + 1)
  AddsMembers-skip other = record {
    kept = so_far.kept;
    added = λ k k_in is. elim (cases_eq k below) [
      | inl same ↦ absurd (other (subst (λ (i : ℕ). IsIn part class (slice_index members i)) same is))
      | inr before ↦ so_far.added k (omega arith) is
    ];
    sound = so_far.sound;
  }

  pub AddsMembers-push : IsIn part class (slice_index members below) →
      AddsMembers members part class old (now ++ slice_index members below ∷ []) (below + 1)
  AddsMembers-push is =
      let state = slice_index members below in
      record {
        kept = λ q there. Contains-append_left now (state ∷ []) q (so_far.kept q there);
        added = λ k k_in k_is. elim (cases_eq k below) [
          | inl same ↦ subst (λ (i : ℕ). Contains (now ++ state ∷ []) (slice_index members i)) (sym same) (Contains-push now state)
          | inr before ↦ Contains-append_left now (state ∷ []) (slice_index members k) (so_far.added k (omega arith) k_is)
        ];
        sound = λ q there. elim (Contains-push_cases now state q there) [
          | inl before ↦ so_far.sound q before
          | inr same ↦ inr (subst (IsIn part class) same is)
        ];
      }

pub added-all : (members : List ℕ) (part : SpaceClasses) (class : ℕ) (old now : List ℕ) → AddsMembers members part class old now (length members) →
    (q : ℕ) → Contains members q → IsIn part class q → Contains now q
added-all members part class old now all q there is =
    let at : slice_index members there.0 ≡ q = get_or_default members there.0 0 q there.1 ∙ there.2 in
    subst (Contains now) at (all.added there.0 there.1 (subst (IsIn part class) (sym at) is))

-- the listed states, and those of the classes that the first ones represent
pub record OthersBelow (part : SpaceClasses) (listed order : List ℕ) (below : ℕ) : Type 0 where
  pub reached : (q : ℕ) → Contains order q → is_marked part.reached q ≡ true
  pub kept : (q : ℕ) → Contains listed q → Contains order q
  pub others : (k q : ℕ) → k < below → is_marked part.reached q ≡ true →
      slice_index part.representatives (slice_index part.classes q) ≡ slice_index listed k → Contains order q

pub OthersBelow-none : (part : SpaceClasses) (listed : List ℕ) → ((q : ℕ) → Contains listed q → is_marked part.reached q ≡ true) →
    OthersBelow part listed listed 0
OthersBelow-none part listed reached = record { reached = reached; kept = λ q there. there; others = λ k q k_in marked is. absurd (omega arith) }

module _ (part : SpaceClasses) (listed order : List ℕ) (below : ℕ) (are : AreClasses part.reached part.classes part.representatives)
    (so_far : OthersBelow part listed order below) where
  class-below : (q : ℕ) → is_marked part.reached q ≡ true → slice_index part.classes q < length part.representatives
  class-below q marked = are.within q (let i = marked-inside part.reached q marked in let m = are.many in omega arith)

  -- a state that a listed one represents has its class
  class-represented : (q state : ℕ) → is_marked part.reached q ≡ true →
      slice_index part.representatives (slice_index part.classes q) ≡ state → slice_index part.classes q ≡ slice_index part.classes state
  class-represented q state marked is = sym (are.has (slice_index part.classes q) (class-below q marked)) ∙ ap (slice_index part.classes) is

  pub OthersBelow-skip : (slice_index part.representatives (slice_index part.classes (slice_index listed below)) ≡ slice_index listed below → ⊥) →
      OthersBelow part listed order (below + 1)
  OthersBelow-skip other = record {
    reached = so_far.reached;
    kept = so_far.kept;
    others = λ k q k_in marked is. elim (cases_eq k below) [
      | inl same ↦
          let at : slice_index part.representatives (slice_index part.classes q) ≡ slice_index listed below = is ∙ ap (slice_index listed) same in
          absurd (other (ap (slice_index part.representatives) (sym (class-represented q (slice_index listed below) marked at)) ∙ at))
      | inr before ↦ so_far.others k q (omega arith) marked is
    ];
  }

  pub OthersBelow-add : (lists : List (List ℕ)) (now : List ℕ) → Covers part lists →
      ((q : ℕ) → Contains order q → Contains now q) →
      ((q : ℕ) → Contains (list_at lists (slice_index part.classes (slice_index listed below))) q →
      IsIn part (slice_index part.classes (slice_index listed below)) q → Contains now q) →
      ((q : ℕ) → Contains now q → Contains order q ⊎ IsIn part (slice_index part.classes (slice_index listed below)) q) →
      OthersBelow part listed now (below + 1)
  OthersBelow-add lists now covers kept added sound = record {
    reached = λ q there. elim (sound q there) [
      | inl before ↦ so_far.reached q before
      | inr is ↦ is.0
    ];
    kept = λ q there. kept q (so_far.kept q there);
    others = λ k q k_in marked is. elim (cases_eq k below) [
      | inl same ↦
          let class = class-represented q (slice_index listed below) marked (is ∙ ap (slice_index listed) same) in
          added q (subst (λ (c : ℕ). Contains (list_at lists c) q) class (covers q marked)) (marked, class)
      | inr before ↦ kept q (so_far.others k q (omega arith) marked is)
    ];
  }

pub HasOthers-all : (part : SpaceClasses) (listed order : List ℕ) → OthersBelow part listed order (length listed) → HasOthers part listed order
HasOthers-all part listed order all = record {
  reached = all.reached;
  kept = all.kept;
  others = λ q marked there. all.others there.0 q there.1 marked
      (sym (get_or_default listed there.0 0 (slice_index part.representatives (slice_index part.classes q)) there.1 ∙ there.2));
}

-- the states of new classes are listed so far
pub record ListsNew (order : List ℕ) (before : ℕ) (part : SpaceClasses) (old now : List (List ℕ)) (below : ℕ) : Type 0 where
  pub many : length now ≡ length old
  pub kept : (place number : ℕ) → Leads old place number → Leads now place number
  pub added : (k : ℕ) → k < below → (slice_index part.classes (slice_index order k) < before → ⊥) →
      Leads now (slice_index part.classes (slice_index order k)) (slice_index order k)

pub ListsNew-none : (order : List ℕ) (before : ℕ) (part : SpaceClasses) (old : List (List ℕ)) → ListsNew order before part old old 0
ListsNew-none order before part old = record { many = refl; kept = λ place number there. there; added = λ k k_in past. absurd (omega arith) }

module _ (order : List ℕ) (before : ℕ) (part : SpaceClasses) (old now : List (List ℕ)) (below : ℕ)
    (so_far : ListsNew order before part old now below) where
  pub ListsNew-skip : slice_index part.classes (slice_index order below) < before → ListsNew order before part old now (below + 1)
  ListsNew-skip small = record {
    many = so_far.many;
    kept = so_far.kept;
    added = λ k k_in past. elim (cases_eq k below) [
      | inl same ↦ absurd (past (subst (λ (i : ℕ). slice_index part.classes (slice_index order i) < before) (sym same) small))
      | inr other ↦ so_far.added k (omega arith) past
    ];
  }

  pub ListsNew-add : (new : List (List ℕ)) → slice_index part.classes (slice_index order below) < length now →
      IsAdded now (slice_index part.classes (slice_index order below)) (slice_index order below) new → ListsNew order before part old new (below + 1)
  ListsNew-add new inside added = record {
    many = added.many ∙ so_far.many;
    kept = λ place number there. added.kept place number (so_far.kept place number there);
    added = λ k k_in past. elim (cases_eq k below) [
      | inl same ↦ subst (λ (i : ℕ). Leads new (slice_index part.classes (slice_index order i)) (slice_index order i)) (sym same) (added.added inside)
      | inr other ↦ added.kept (slice_index part.classes (slice_index order k)) (slice_index order k) (so_far.added k (omega arith) past)
    ];
  }

pub Covers-new : (order : List ℕ) (before : ℕ) (part : SpaceClasses) (old now : List (List ℕ)) →
    ListsNew order before part old now (length order) →
    ((q : ℕ) → is_marked part.reached q ≡ true → slice_index part.classes q < before → Leads old (slice_index part.classes q) q) →
    ((q : ℕ) → is_marked part.reached q ≡ true → (slice_index part.classes q < before → ⊥) → Contains order q) → Covers part now
Covers-new order before part old now all olds news q marked = elim (cases_lt (slice_index part.classes q) before) [
  | inl small ↦ all.kept (slice_index part.classes q) q (olds q marked small)
  | inr past ↦
      let no : slice_index part.classes q < before → ⊥ = λ small. absurd (omega arith) in
      let there = news q marked no in
      let at : slice_index order there.0 ≡ q = get_or_default order there.0 0 q there.1 ∙ there.2 in
      subst (λ (p : ℕ). Leads now (slice_index part.classes p) p) at
      (all.added there.0 there.1 (subst (λ (p : ℕ). slice_index part.classes p < before → ⊥) (sym at) no))
]

-- the state is among the first ones
abbrev pub SeenIn : List ℕ → ℕ → ℕ → Type 0
SeenIn listed below q = Contains (take below listed) q

-- the listed states one after the other
module _ (reached : List Bool) (ids old first listed : List ℕ) (classes : AreClasses reached old first)
    (all_reached : (q : ℕ) → Contains listed q → is_marked reached q ≡ true) where
  pub Splits-none : (made : Made) → ((class id : ℕ) → made_for made class id ≡ None) → Splits reached ids old first made first old (SeenIn listed 0)
  Splits-none made none = Splits-start reached ids old first made (SeenIn listed 0) (λ q seen. Contains-none q seen) classes none

  module _ (made : Made) (representatives now : List ℕ) (below : ℕ) (inside : below < length listed)
      (so_far : Splits reached ids old first made representatives now (SeenIn listed below)) where
    state : ℕ
    state = slice_index listed below

    kept : (q : ℕ) → SeenIn listed below q → SeenIn listed (below + 1) q
    kept q seen = subst (λ (xs : List ℕ). Contains xs q) (sym (take_more listed below 0 inside))
        (Contains-append_left (take below listed) (slice_index listed below ∷ []) q seen)

    here : SeenIn listed (below + 1) state
    unfolding state
    here = subst (λ (xs : List ℕ). Contains xs (slice_index listed below)) (sym (take_more listed below 0 inside))
        (Contains-push (take below listed) (slice_index listed below))

    either : (q : ℕ) → SeenIn listed (below + 1) q → SeenIn listed below q ⊎ (q ≡ state)
    unfolding state
    either q seen = elim (Contains-push_cases (take below listed) (slice_index listed below) q
        (subst (λ (xs : List ℕ). Contains xs q) (take_more listed below 0 inside) seen)) [
          | inl before ↦ inl before
          | inr same ↦ inr (sym same)
        ]

    marked : is_marked reached state ≡ true
    unfolding state
    marked = all_reached (slice_index listed below) (Contains-get_or listed below 0 inside)

    old_within : slice_index old state < length first
    old_within = classes.within state (let i = marked-inside reached state marked in let m = classes.many in omega arith)

    stayed-old : slice_index now state < length first → IsDone reached ids old first made now state → slice_index now state ≡ slice_index old state
    stayed-old small (stayed e f) = e
    stayed-old small (went e f) = absurd
        (let l = (so_far.sound (slice_index old state) (slice_index ids state) (slice_index now state) e).least in omega arith)

    was : slice_index now state < length first → slice_index now state ≡ slice_index old state
    was small = elim (cases_contains (take below listed) state) [
      | inl seen ↦ stayed-old small (so_far.done state seen marked)
      | inr unseen ↦ so_far.ahead state unseen
    ]

    had : (slice_index now state < length first → ⊥) → IsDone reached ids old first made now state
    had past = elim (cases_contains (take below listed) state) [
      | inl seen ↦ so_far.done state seen marked
      | inr unseen ↦ absurd (past (let e = so_far.ahead state unseen in let o = old_within in omega arith))
    ]

    pub Splits-listed : slice_index now (slice_index listed below) < length first → (after : Made) (more : List ℕ) (class : ℕ) →
        IsStep ids (slice_index listed below) (slice_index now (slice_index listed below)) made representatives after more class →
        Splits reached ids old first after more (slice_set now (slice_index listed below) class) (SeenIn listed (below + 1))
    unfolding state
    Splits-listed small after more class step = Splits-step reached ids old first made representatives now state (SeenIn listed below)
        (SeenIn listed (below + 1)) kept here either classes so_far marked (was small) after more class step

    pub Splits-past : (slice_index now (slice_index listed below) < length first → ⊥) →
        Splits reached ids old first made representatives now (SeenIn listed (below + 1))
    unfolding state
    Splits-past past = Splits-again reached ids old first made representatives now state (SeenIn listed below)
        (SeenIn listed (below + 1)) kept here either classes so_far (had past)

  -- the others stay
  module _ (made : Made) (representatives now : List ℕ) (all : Splits reached ids old first made representatives now (SeenIn listed (length listed)))
      (others : (q : ℕ) → is_marked reached q ≡ true → (Contains listed q → ⊥) →
      slice_index ids q ≡ slice_index ids (slice_index first (slice_index old q))) where
    whole : take (length listed) listed ≡ listed
    whole = take_all (length listed) listed (omega arith)

    done-at : (q : ℕ) → is_marked reached q ≡ true → IsDone reached ids old first made now q
    unfolding first_id
    done-at q q_marked = elim (cases_contains listed q) [
      | inl there ↦ all.done q (subst (λ (xs : List ℕ). Contains xs q) (sym whole) there) q_marked
      | inr unlisted ↦ stayed (all.ahead q (λ seen. unlisted (subst (λ (xs : List ℕ). Contains xs q) whole seen))) (others q q_marked unlisted)
    ]

    pub AreClasses-listed : AreClasses reached now representatives
    AreClasses-listed = AreClasses-all reached ids old first made representatives now (SeenIn listed (length listed)) classes all done-at

    -- a class below is the old one
    pub stays-listed : (q : ℕ) → is_marked reached q ≡ true → slice_index now q < length first → slice_index now q ≡ slice_index old q
    stays-listed q q_marked small = stays-at q small (done-at q q_marked)
      where
        stays-at : (p : ℕ) → slice_index now p < length first → IsDone reached ids old first made now p → slice_index now p ≡ slice_index old p
        stays-at p p_small (stayed e f) = e
        stays-at p p_small (went e f) = absurd (let l = (all.sound (slice_index old p) (slice_index ids p) (slice_index now p) e).least in omega arith)

    -- a state with a new class is listed
    pub moved-listed : (q : ℕ) → is_marked reached q ≡ true → (slice_index now q < length first → ⊥) → Contains listed q
    moved-listed q q_marked past = elim (cases_contains listed q) [
      | inl there ↦ there
      | inr unlisted ↦ absurd (past (let e = all.ahead q (λ seen. unlisted (subst (λ (xs : List ℕ). Contains xs q) whole seen)) in
          let w = classes.within q (let i = marked-inside reached q q_marked in let m = classes.many in omega arith) in omega arith))
    ]

    pub IsSplit-listed : IsSplit reached ids old now
    IsSplit-listed = IsSplit-all reached ids old first made representatives now (SeenIn listed (length listed)) classes all done-at

-- a listed state has a place
pub small-at : (listed ids now : List ℕ) (at : ℕ) → ((q : ℕ) → Contains listed q → q < length ids) → at < length listed → length now ≡ length ids →
    slice_index listed at < length now
small-at listed ids now at small inside same = let s = small (slice_index listed at) (Contains-get_or listed at 0 inside) in omega arith
