-- On quantifiers that go over from those that wait before a conjunction to those that wait before one side.
use Rattle.std.proofs.Common.{◌≡◌, ◌≢◌, ℕ, ◌+◌, ◌<◌, ◌≤◌, min, Bool, true, false, cond, not, ◌&&◌, ◌||◌, eqb, nat_eq, List, [], ◌∷◌, ◌++◌, take}
use Rattle.std.proofs.Common.{drop, drop-cons, add-one, length, get_or, Option, Some, None, Contains, refl, sym, ap, subst, ◌∙◌, arith, inl}
use Rattle.std.proofs.Common.{inr, ◌⊎◌, eqb-true, eq-eqb, IfSome}
use Rattle.std.proofs.lemmas.Bool.{false≢true, cases_lt}
use Rattle.std.proofs.lemmas.List.{drop_all}
use Rattle.std.proofs.lemmas.List.Folds.{list_any_more, list_any_kept}
use Rattle.std.proofs.lemmas.Map.Made.{Contains-tail}
use Rattle.gta_theory.proofs.ListsLemmas.{Contains-none}
use Rattle.std.specs.Ordering.{nat_cmp}
use Rattle.std.specs.List.{AllByRecursion}
use Rattle.std.specs.Map.{lookup, remove_entry}
use Rattle.std.specs.BTreeMap.{insert_entry, is_at}
use Rattle.std.specs.HashMap.{get, Updates}
use Rattle.ws2s_narrow.specs.declared.pending.Waiting.{Waiting}
use Rattle.ws2s_narrow.specs.declared.pending.Pending.{Pending}
use Rattle.ws2s_narrow.specs.declared.sharing.Sharing.{Sharing}
use Rattle.ws2s_narrow.specs.Pending.{has, IsPlacedIn, IsPlaced, Quantifies, IsAmong, IsIdle, Goes, Stays, HandsOver, stays, goes, HandsIdle}
use Rattle.ws2s_narrow.specs.Pending.{stays_idle, goes_idle, IsLeastAmong, lesser_of, BeginsAmong, idle_at}
use Rattle.ws2s_narrow.specs.Waiting.{Ascends, Woven}
use Rattle.ws2s_narrow.proofs.MovingLemmas.{All-weaker, All-zip, All-remove, All-insert, All-found, All-removed, All-woven, Ascends-woven, Ascends-remove}
use Rattle.ws2s_narrow.proofs.MovingLemmas.{Woven-moved, Woven-all, All-at, All-parts, found-first}

-- one track more
has-more : (u : ℕ) (tracks : List ℕ) (i : ℕ) → i < length tracks → has u (take (i + 1) tracks) ≡ has u (take i tracks) || nat_eq u (get_or tracks i 0)
has-more u tracks i inside = list_any_more (nat_eq u) tracks i 0 inside

or-cases : (b c : Bool) → b || c ≡ true → (b ≡ true) ⊎ (c ≡ true)
or-cases true c e = inl refl
or-cases false c e = inr e

among-more : (tracks : List ℕ) (i : ℕ) (next : ℕ × Waiting) → i < length tracks → IsAmong (take (i + 1) tracks) next →
    IsAmong (take i tracks) next ⊎ Quantifies (get_or tracks i 0) next
among-more tracks i next inside among =
    elim (or-cases (has next.1.track.0 (take i tracks)) (nat_eq next.1.track.0 (get_or tracks i 0))
    (sym (has-more next.1.track.0 tracks i inside) ∙ among.1)) [
      | inl old ↦ inl (among.0, old)
      | inr new ↦ inr (among.0, eqb-true next.1.track.0 (get_or tracks i 0) new)
    ]

or-true : (b : Bool) → b || true ≡ true
or-true true = refl
or-true false = refl

among-kept : (tracks : List ℕ) (i : ℕ) (next : ℕ × Waiting) → IsAmong (take i tracks) next → IsAmong (take (i + 1) tracks) next
among-kept tracks i next among = (among.0, list_any_kept (nat_eq next.1.track.0) tracks i among.1)

among-new : (tracks : List ℕ) (i : ℕ) (next : ℕ × Waiting) → i < length tracks → Quantifies (get_or tracks i 0) next → IsAmong (take (i + 1) tracks) next
among-new tracks i next inside quantifies = (
  quantifies.0,
  has-more next.1.track.0 tracks i inside
      ∙ ap (λ (b : Bool). has next.1.track.0 (take i tracks) || b) (eq-eqb next.1.track.0 (get_or tracks i 0) quantifies.1)
      ∙ or-true (has next.1.track.0 (take i tracks)),
)

-- the quantifiers of a number are found in the places where they were before others went
abbrev pub ArePlacedAt : Pending → List (ℕ × Waiting) → Type 0
ArePlacedAt start waiting = AllByRecursion (IsPlacedIn (get nat_eq start.places) start.idle.items) waiting

-- what has gone over after some of the tracks
pub record Halfway (start : Pending) (done : List ℕ) (now gone : Pending) : Type 0 where
  pub woven : Woven start.waiting.entries now.waiting.entries gone.waiting.entries
  pub places : now.places ≡ start.places
  pub idle : now.idle ≡ start.idle
  pub went : AllByRecursion (IsAmong done) gone.waiting.entries
  pub left : AllByRecursion (λ next. IsAmong done next → ⊥) now.waiting.entries
  pub found : IsPlaced gone

module _ (start : Pending) (placed : IsPlaced start) (ascends : Ascends start.waiting.entries) (tracks : List ℕ) (i : ℕ)
    (inside : i < length tracks) (now gone : Pending) (half : Halfway start (take i tracks) now gone) where
  abbrev t : ℕ
  t = get_or tracks i 0

  placed-start : ArePlacedAt start now.waiting.entries
  placed-start = (All-woven (IsPlacedIn (get nat_eq start.places) start.idle.items) half.woven placed).0

  placed-now : IsPlaced now
  placed-now = subst (λ places. AllByRecursion (IsPlacedIn (get nat_eq places) now.idle.items) now.waiting.entries) (sym half.places)
      (subst (λ (idle : _). AllByRecursion (IsPlacedIn (get nat_eq start.places) idle.items) now.waiting.entries) (sym half.idle) placed-start)

  none-more : AllByRecursion (λ next. Quantifies t next → ⊥) now.waiting.entries →
      AllByRecursion (λ next. IsAmong (take (i + 1) tracks) next → ⊥) now.waiting.entries
  none-more new = All-zip (λ next. IsAmong (take i tracks) next → ⊥) (λ next. Quantifies t next → ⊥) (λ next. IsAmong (take (i + 1) tracks) next → ⊥)
      (λ next old new among. elim (among-more tracks i next inside among) [ inl a ↦ old a | inr q ↦ new q ])
      now.waiting.entries half.left new

  module _ (after : Pending) (number : ℕ) (next : Waiting) (quantifies : Quantifies t (number, next))
      (there : lookup (is_at (nat_cmp number)) now.waiting.entries ≡ Some next)
      (updates : Updates nat_eq gone.places after.places t (Some number)) where
    found-new : IsPlacedIn (get nat_eq after.places) after.idle.items (number, next)
    found-new = record {
      by_track = λ used. subst (λ (u : ℕ). get nat_eq after.places u ≡ Some number) (sym quantifies.1) updates.1;
      by_number = λ idle. absurd (false≢true (sym idle ∙ quantifies.0));
    }

    was-there : get nat_eq start.places t ≡ Some number
    was-there = subst (λ (u : ℕ). get nat_eq start.places u ≡ Some number) quantifies.1
        ((All-found (IsPlacedIn (get nat_eq start.places) start.idle.items) number next now.waiting.entries placed-start there).by_track quantifies.0)

    found-old : (other : ℕ × Waiting) → IsAmong (take i tracks) other → IsPlacedIn (get nat_eq start.places) start.idle.items other →
        IsPlacedIn (get nat_eq gone.places) gone.idle.items other → IsPlacedIn (get nat_eq after.places) after.idle.items other
    found-old other among before was = record {
      by_track = λ used. pick (nat_eq t other.1.track.0) refl used;
      by_number = λ idle. absurd (false≢true (sym idle ∙ among.0));
    }
      where
        pick : (b : Bool) → nat_eq t other.1.track.0 ≡ b → other.1.used ≡ true → get nat_eq after.places other.1.track.0 ≡ Some other.0
        pick true same used =
            let is : t ≡ other.1.track.0 = eqb-true t other.1.track.0 same in
            updates.0 other.1.track.0 ∙ ap (λ (b : Bool). cond b (Some number) (get nat_eq gone.places other.1.track.0)) same
            ∙ sym was-there ∙ ap (get nat_eq start.places) is ∙ before.by_track used
        pick false apart used = updates.2 other.1.track.0 apart ∙ was.by_track used

    found-all : AllByRecursion (IsPlacedIn (get nat_eq after.places) after.idle.items) (insert_entry nat_cmp gone.waiting.entries number next)
    found-all = All-insert (IsPlacedIn (get nat_eq after.places) after.idle.items) number next gone.waiting.entries found-new
        (All-zip (λ other. IsAmong (take i tracks) other × IsPlacedIn (get nat_eq start.places) start.idle.items other)
        (IsPlacedIn (get nat_eq gone.places) gone.idle.items) (IsPlacedIn (get nat_eq after.places) after.idle.items)
        (λ other both was. found-old other both.0 both.1 was) gone.waiting.entries
        (All-zip (IsAmong (take i tracks)) (IsPlacedIn (get nat_eq start.places) start.idle.items)
        (λ other. IsAmong (take i tracks) other × IsPlacedIn (get nat_eq start.places) start.idle.items other)
        (λ other among placed. (among, placed)) gone.waiting.entries half.went
        (All-woven (IsPlacedIn (get nat_eq start.places) start.idle.items) half.woven placed).1)
        half.found)

    left-more : AllByRecursion (λ other. Quantifies t other → number ≡ other.0) now.waiting.entries →
        AllByRecursion (λ other. IsAmong (take (i + 1) tracks) other → ⊥) (remove_entry (is_at (nat_cmp number)) now.waiting.entries)
    left-more only = All-zip (λ other. IsAmong (take i tracks) other → ⊥) (λ other. (Quantifies t other → number ≡ other.0) × (other.0 ≢ number))
        (λ other. IsAmong (take (i + 1) tracks) other → ⊥)
        (λ other old new among. elim (among-more tracks i other inside among) [ inl a ↦ old a | inr q ↦ new.1 (sym (new.0 q)) ])
        (remove_entry (is_at (nat_cmp number)) now.waiting.entries)
        (All-remove (λ other. IsAmong (take i tracks) other → ⊥) (is_at (nat_cmp number)) now.waiting.entries half.left)
        (All-zip (λ other. Quantifies t other → number ≡ other.0) (λ other. other.0 ≢ number)
        (λ other. (Quantifies t other → number ≡ other.0) × (other.0 ≢ number)) (λ other a b. (a, b))
        (remove_entry (is_at (nat_cmp number)) now.waiting.entries)
        (All-remove (λ other. Quantifies t other → number ≡ other.0) (is_at (nat_cmp number)) now.waiting.entries only)
        (All-removed number now.waiting.entries (Ascends-woven half.woven ascends)))

  pub Halfway-more : (then after : Pending) → HandsOver t now then gone after → Halfway start (take (i + 1) tracks) then after
  Halfway-more then after (stays same unchanged none) =
      subst (λ (p : Pending). Halfway start (take (i + 1) tracks) p after) (sym same)
      (subst (λ (p : Pending). Halfway start (take (i + 1) tracks) now p) (sym unchanged) (record {
        woven = half.woven;
        places = half.places;
        idle = half.idle;
        went = All-weaker (IsAmong (take i tracks)) (IsAmong (take (i + 1) tracks)) (among-kept tracks i) gone.waiting.entries half.went;
        left = none-more (none placed-now);
        found = half.found;
      }))
  Halfway-more then after (goes number next there quantifies is comes same_places same_idle updates only) = record {
    woven = subst (λ es. Woven start.waiting.entries es after.waiting.entries) (sym is)
        (subst (Woven start.waiting.entries (remove_entry (is_at (nat_cmp number)) now.waiting.entries)) (sym comes)
        (Woven-moved number next half.woven ascends there));
    places = same_places ∙ half.places;
    idle = same_idle ∙ half.idle;
    went = subst (AllByRecursion (IsAmong (take (i + 1) tracks))) (sym comes)
        (All-insert (IsAmong (take (i + 1) tracks)) number next gone.waiting.entries (among-new tracks i (number, next) inside quantifies)
        (All-weaker (IsAmong (take i tracks)) (IsAmong (take (i + 1) tracks)) (among-kept tracks i) gone.waiting.entries half.went));
    left = subst (AllByRecursion (λ other. IsAmong (take (i + 1) tracks) other → ⊥)) (sym is)
        (left-more after number next quantifies there updates (only placed-now));
    found = subst (AllByRecursion (IsPlacedIn (get nat_eq after.places) after.idle.items)) (sym comes)
        (found-all after number next quantifies there updates);
  }

-- the least number, after one track more
pub IsLeastAmong-more : (tracks : List ℕ) (i : ℕ) (waiting : List (ℕ × Waiting)) → i < length tracks → (least place : Option ℕ) →
    IsLeastAmong (take i tracks) waiting least →
    IfSome place (λ number. (next : Waiting) × (lookup (is_at (nat_cmp number)) waiting ≡ Some next) × Quantifies (get_or tracks i 0) (number, next)) →
    AllByRecursion (λ next. Quantifies (get_or tracks i 0) next → place ≡ Some next.0) waiting →
    IsLeastAmong (take (i + 1) tracks) waiting (lesser_of least place)
IsLeastAmong-more tracks i waiting inside None None old there only =
    All-zip (λ next. IsAmong (take i tracks) next → ⊥) (λ next. Quantifies (get_or tracks i 0) next → None ≡ Some next.0)
    (λ next. IsAmong (take (i + 1) tracks) next → ⊥)
    (λ next none one among. elim (among-more tracks i next inside among) [ inl a ↦ none a | inr q ↦ let e = one q in cc ]) waiting old only
IsLeastAmong-more tracks i waiting inside None (Some number) old there only = (
  (there.0, there.1, among-new tracks i (number, there.0) inside there.2),
  All-zip (λ next. IsAmong (take i tracks) next → ⊥) (λ next. Quantifies (get_or tracks i 0) next → Some number ≡ Some next.0)
      (λ next. IsAmong (take (i + 1) tracks) next → number ≤ next.0)
      (λ next none one among. elim (among-more tracks i next inside among) [
        | inl a ↦ absurd (none a)
        | inr q ↦ let e = one q in let same : number ≡ next.0 = cc in omega arith
      ]) waiting old only,
)
IsLeastAmong-more tracks i waiting inside (Some least) None old there only = (
  (old.0.0, old.0.1, among-kept tracks i (least, old.0.0) old.0.2),
  All-zip (λ next. IsAmong (take i tracks) next → least ≤ next.0) (λ next. Quantifies (get_or tracks i 0) next → None ≡ Some next.0)
      (λ next. IsAmong (take (i + 1) tracks) next → least ≤ next.0)
      (λ next known one among. elim (among-more tracks i next inside among) [
        | inl a ↦ known a
        | inr q ↦ let e : None ≡ Some next.0 = one q in absurd cc
      ]) waiting old.1 only,
)
IsLeastAmong-more tracks i waiting inside (Some least) (Some number) old there only = elim (cases_lt number least) [
  | inl below ↦
      let is : min least number ≡ number = omega arith in
      subst (λ (k : ℕ). IsLeastAmong (take (i + 1) tracks) waiting (Some k)) (sym is) (
        (there.0, there.1, among-new tracks i (number, there.0) inside there.2),
        All-zip (λ next. IsAmong (take i tracks) next → least ≤ next.0) (λ next. Quantifies (get_or tracks i 0) next → Some number ≡ Some next.0)
            (λ next. IsAmong (take (i + 1) tracks) next → number ≤ next.0)
            (λ next known one among. elim (among-more tracks i next inside among) [
              | inl a ↦ let bound : least ≤ next.0 = known a in omega arith
              | inr q ↦ let e : Some number ≡ Some next.0 = one q in let same : number ≡ next.0 = cc in omega arith
            ]) waiting old.1 only,
      )
  | inr above ↦
      let is : min least number ≡ least = omega arith in
      subst (λ (k : ℕ). IsLeastAmong (take (i + 1) tracks) waiting (Some k)) (sym is) (
        (old.0.0, old.0.1, among-kept tracks i (least, old.0.0) old.0.2),
        All-zip (λ next. IsAmong (take i tracks) next → least ≤ next.0) (λ next. Quantifies (get_or tracks i 0) next → Some number ≡ Some next.0)
            (λ next. IsAmong (take (i + 1) tracks) next → least ≤ next.0)
            (λ next known one among. elim (among-more tracks i next inside among) [
              | inl a ↦ known a
              | inr q ↦ let e : Some number ≡ Some next.0 = one q in let same : number ≡ next.0 = cc in omega arith
            ]) waiting old.1 only,
      )
]

-- what has gone over of the idle ones; `rest` are the numbers that are left
pub record HalfwayIdle (places : ℕ → Option ℕ) (idle rest : List ℕ) (start before now gone : List (ℕ × Waiting)) (known : ℕ → Option ℕ) : Type 0 where
  pub woven : (all : List (ℕ × Waiting)) → Woven all start before → Ascends all → Woven all now gone
  pub ascends : Ascends now
  pub kept : (tracks : List ℕ) → AllByRecursion (λ next. IsAmong tracks next → ⊥) start → AllByRecursion (λ next. IsAmong tracks next → ⊥) now
  pub went : (tracks : List ℕ) → AllByRecursion (IsAmong tracks) before → AllByRecursion (λ next. IsIdle next ⊎ IsAmong tracks next) gone
  pub left : AllByRecursion (λ next. IsIdle next → Contains rest next.0) now
  pub placed : AllByRecursion (IsPlacedIn places idle) now
  pub found : AllByRecursion (IsPlacedIn known idle) gone

pub HalfwayIdle-start : (places known : ℕ → Option ℕ) (idle : List ℕ) (start before : List (ℕ × Waiting)) (other : List ℕ) → Ascends start →
    AllByRecursion (IsPlacedIn places idle) start → AllByRecursion (IsPlacedIn known other) before →
    AllByRecursion (λ next. next.1.used ≡ true) before → HalfwayIdle places idle idle start before start before known
HalfwayIdle-start places known idle start before other ascends placed found used = record {
  woven = λ all woven up. woven;
  ascends = ascends;
  kept = λ tracks none. none;
  went = λ tracks among. All-weaker (IsAmong tracks) (λ next. IsIdle next ⊎ IsAmong tracks next) (λ next a. inr a) before among;
  left = All-weaker (IsPlacedIn places idle) (λ next. IsIdle next → Contains idle next.0) (λ next p i. p.by_number i) start placed;
  placed = placed;
  found = All-zip (IsPlacedIn known other) (λ next. next.1.used ≡ true) (IsPlacedIn known idle)
      (λ next p u. record { by_track = p.by_track; by_number = λ i. absurd (false≢true (sym i ∙ u)) }) before found used;
}

module _ (places known : ℕ → Option ℕ) (idle rest : List ℕ) (number : ℕ) (start before now gone : List (ℕ × Waiting))
    (half : HalfwayIdle places idle (number ∷ rest) start before now gone known) where
  pub HalfwayIdle-more : (then after : List (ℕ × Waiting)) → HandsIdle number now then gone after →
      HalfwayIdle places idle rest start before then after known
  HalfwayIdle-more then after (stays_idle same unchanged used) =
      subst (λ es. HalfwayIdle places idle rest start before es after known) (sym same)
      (subst (λ es. HalfwayIdle places idle rest start before now es known) (sym unchanged) (record {
        woven = half.woven;
        ascends = half.ascends;
        kept = half.kept;
        went = half.went;
        left = All-zip (λ next. IsIdle next → Contains (number ∷ rest) next.0) (λ next. next.0 ≡ number → next.1.used ≡ true)
            (λ next. IsIdle next → Contains rest next.0)
            (λ next old at i. Contains-tail number rest next.0 (λ is. false≢true (sym i ∙ at (sym is))) (old i)) now half.left
            (All-at (λ next. next.used ≡ true) number now half.ascends used);
        placed = half.placed;
        found = half.found;
      }))
  HalfwayIdle-more then after (goes_idle next there i is comes) = record {
    woven = λ all woven up. subst (λ es. Woven all es after) (sym is)
        (subst (Woven all (remove_entry (is_at (nat_cmp number)) now)) (sym comes) (Woven-moved number next (half.woven all woven up) up there));
    ascends = subst Ascends (sym is) (Ascends-remove (is_at (nat_cmp number)) now half.ascends);
    kept = λ tracks none. subst (AllByRecursion (λ other. IsAmong tracks other → ⊥)) (sym is)
        (All-remove (λ other. IsAmong tracks other → ⊥) (is_at (nat_cmp number)) now (half.kept tracks none));
    went = λ tracks among. subst (AllByRecursion (λ other. IsIdle other ⊎ IsAmong tracks other)) (sym comes)
        (All-insert (λ other. IsIdle other ⊎ IsAmong tracks other) number next gone (inl i) (half.went tracks among));
    left = subst (AllByRecursion (λ other. IsIdle other → Contains rest other.0)) (sym is)
        (All-zip (λ other. IsIdle other → Contains (number ∷ rest) other.0) (λ other. other.0 ≢ number) (λ other. IsIdle other → Contains rest other.0)
        (λ other old apart j. Contains-tail number rest other.0 (λ same. apart (sym same)) (old j)) (remove_entry (is_at (nat_cmp number)) now)
        (All-remove (λ other. IsIdle other → Contains (number ∷ rest) other.0) (is_at (nat_cmp number)) now half.left)
        (All-removed number now half.ascends));
    placed = subst (AllByRecursion (IsPlacedIn places idle)) (sym is) (All-remove (IsPlacedIn places idle) (is_at (nat_cmp number)) now half.placed);
    found = subst (AllByRecursion (IsPlacedIn known idle)) (sym comes) (All-insert (IsPlacedIn known idle) number next gone
        (record {
          by_track = λ used. absurd (false≢true (sym i ∙ used));
          by_number = (All-found (IsPlacedIn places idle) number next now half.placed there).by_number;
        }) half.found);
  }

-- at the end no idle one is left
pub none-idle : (now : List (ℕ × Waiting)) → AllByRecursion (λ next. IsIdle next → Contains [] next.0) now → AllByRecursion (λ next. IsIdle next → ⊥) now
none-idle now left = All-weaker (λ next. IsIdle next → Contains [] next.0) (λ next. IsIdle next → ⊥) (λ next c i. Contains-none next.0 (c i)) now left

pub placed-used : (places : ℕ → Option ℕ) (idle other : List ℕ) (now : List (ℕ × Waiting)) → AllByRecursion (λ next. IsIdle next → ⊥) now →
    AllByRecursion (IsPlacedIn places idle) now → AllByRecursion (IsPlacedIn places other) now
placed-used places idle other now none placed = All-zip (λ next. IsIdle next → ⊥) (IsPlacedIn places idle) (IsPlacedIn places other)
    (λ next n p. record { by_track = p.by_track; by_number = λ i. absurd (n i) }) now none placed

-- the quantifiers of a track stand at its place
module _ (places : ℕ → Option ℕ) (idle : List ℕ) (waiting : List (ℕ × Waiting)) (track : ℕ) (placed : AllByRecursion (IsPlacedIn places idle) waiting) where
  pub at-place : (number : ℕ) → places track ≡ Some number → AllByRecursion (λ next. Quantifies track next → Some number ≡ Some next.0) waiting
  at-place number is = All-weaker (IsPlacedIn places idle) (λ next. Quantifies track next → Some number ≡ Some next.0)
      (λ next p q. sym is ∙ ap places (sym q.1) ∙ p.by_track q.0) waiting placed

  pub no-place : places track ≡ None → AllByRecursion (λ next. Quantifies track next → ⊥) waiting
  no-place is = All-weaker (IsPlacedIn places idle) (λ next. Quantifies track next → ⊥)
      (λ next p q. let e : None ≡ Some next.0 = sym is ∙ ap places (sym q.1) ∙ p.by_track q.0 in absurd cc) waiting placed

  pub not-there : (number : ℕ) → places track ≡ Some number → Ascends waiting →
      ((next : Waiting) → lookup (is_at (nat_cmp number)) waiting ≡ Some next → next.used && eqb next.track.0 track ≡ false) →
      AllByRecursion (λ next. Quantifies track next → ⊥) waiting
  not-there number is ascends other = All-zip (λ next. Quantifies track next → Some number ≡ Some next.0)
      (λ next. next.0 ≡ number → next.1.used && eqb next.1.track.0 track ≡ false) (λ next. Quantifies track next → ⊥)
      (λ next at differs q.
      let e : Some number ≡ Some next.0 = at q in
      let same : next.0 ≡ number = cc in
      false≢true (sym (differs same) ∙ ap (λ (b : Bool). b && eqb next.1.track.0 track) q.0 ∙ eq-eqb next.1.track.0 track q.1))
      waiting (at-place number is) (All-at (λ next. next.used && eqb next.track.0 track ≡ false) number waiting ascends other)

pub none-at : (track : ℕ) (place : Option ℕ) (waiting : List (ℕ × Waiting)) → AllByRecursion (λ next. Quantifies track next → ⊥) waiting →
    AllByRecursion (λ next. Quantifies track next → place ≡ Some next.0) waiting
none-at track place waiting none = All-weaker (λ next. Quantifies track next → ⊥) (λ next. Quantifies track next → place ≡ Some next.0)
    (λ next n q. absurd (n q)) waiting none

pub none-from : (track : ℕ) (place : Option ℕ) (waiting : List (ℕ × Waiting)) → place ≡ None →
    AllByRecursion (λ next. Quantifies track next → place ≡ Some next.0) waiting → AllByRecursion (λ next. Quantifies track next → ⊥) waiting
none-from track place waiting is only = All-weaker (λ next. Quantifies track next → place ≡ Some next.0) (λ next. Quantifies track next → ⊥)
    (λ next at q. let e : None ≡ Some next.0 = sym is ∙ at q in absurd cc) waiting only

pub some-from : (track number : ℕ) (place : Option ℕ) (waiting : List (ℕ × Waiting)) → place ≡ Some number →
    AllByRecursion (λ next. Quantifies track next → place ≡ Some next.0) waiting → AllByRecursion (λ next. Quantifies track next → number ≡ next.0) waiting
some-from track number place waiting is only = All-weaker (λ next. Quantifies track next → place ≡ Some next.0) (λ next. Quantifies track next →
    number ≡ next.0)
    (λ next at q. let e : Some number ≡ Some next.0 = sym is ∙ at q in cc) waiting only

-- what goes over is what goes, and what stays is what stays
module _ (shares : Sharing) where
  abbrev goes-by : (ℕ × Waiting) → Bool → Bool
  goes-by next b = cond b (has next.1.track.0 shares.alone.items) (not shares.is_left)

  pub goes-among : (next : ℕ × Waiting) → IsAmong shares.alone.items next → Goes shares next
  goes-among next among = ap (goes-by next) among.0 ∙ among.1

  pub goes-idle : shares.is_left ≡ false → (next : ℕ × Waiting) → IsIdle next → Goes shares next
  goes-idle left next idle = ap (goes-by next) idle ∙ ap not left

  not-true : (b : Bool) → (b ≡ true → ⊥) → b ≡ false
  not-true true e = absurd (e refl)
  not-true false e = refl

  stays-used : (next : ℕ × Waiting) → (IsAmong shares.alone.items next → ⊥) → next.1.used ≡ true → Stays shares next
  stays-used next none used = ap (goes-by next) used ∙ not-true (has next.1.track.0 shares.alone.items) (λ h. none (used, h))

  pub stays-left : shares.is_left ≡ true → (next : ℕ × Waiting) → (IsAmong shares.alone.items next → ⊥) → Stays shares next
  stays-left left next none = pick next.1.used refl
    where
      pick : (b : Bool) → next.1.used ≡ b → Stays shares next
      pick true used = stays-used next none used
      pick false idle = ap (goes-by next) idle ∙ ap not left

  pub stays-right : (next : ℕ × Waiting) → (IsAmong shares.alone.items next → ⊥) → (IsIdle next → ⊥) → Stays shares next
  stays-right next none busy = pick next.1.used refl
    where
      pick : (b : Bool) → next.1.used ≡ b → Stays shares next
      pick true used = stays-used next none used
      pick false idle = absurd (busy idle)

-- a list that is split keeps what it says of places
pub placed-first : (places : ℕ → Option ℕ) (idle : List ℕ) (all es fs : List (ℕ × Waiting)) → all ≡ es ++ fs →
    AllByRecursion (IsPlacedIn places idle) all → AllByRecursion (IsPlacedIn places idle) es
placed-first places idle all es fs is h = (All-parts (IsPlacedIn places idle) es fs (subst (AllByRecursion (IsPlacedIn places idle)) is h)).0

module _ (tracks : List ℕ) (number : ℕ) (all es fs : List (ℕ × Waiting)) (is : all ≡ es ++ fs)
    (least : IsLeastAmong tracks all (Some number)) (below : AllByRecursion (λ (d : ℕ × Waiting). d.0 < number) es)
    (above : AllByRecursion (λ (d : ℕ × Waiting). number ≤ d.0) fs) where
  pub within-none : AllByRecursion (λ next. IsAmong tracks next → ⊥) es
  within-none = All-zip (λ next. IsAmong tracks next → number ≤ next.0) (λ (d : ℕ × Waiting). d.0 < number) (λ next. IsAmong tracks next → ⊥)
      (λ next known under among. let bound : number ≤ next.0 = known among in omega arith) es
      (All-parts (λ next. IsAmong tracks next → number ≤ next.0) es fs
      (subst (AllByRecursion (λ next. IsAmong tracks next → number ≤ next.0)) is least.1)).0 below

  pub begins-there : Ascends fs → BeginsAmong tracks fs
  begins-there ascends = let first = found-first number least.0.0 es fs ascends below above
      (ap (lookup (is_at (nat_cmp number))) (sym is) ∙ least.0.1) in
      subst (BeginsAmong tracks) (sym first.1) least.0.2

pub all-apart : (b : Bool) (track : ℕ) (waiting : List (ℕ × Waiting)) → (b ≡ true → AllByRecursion (λ other. Quantifies track other → ⊥) waiting) →
    AllByRecursion (λ other. b ≡ true → Quantifies track other → ⊥) waiting
all-apart b track [] h = tt
all-apart b track (e ∷ es) h = ((λ is. (h is).0), all-apart b track es (λ is. (h is).1))

pub same-next : (track : ℕ) (next other : Waiting) → Some next ≡ Some other → next.used && eqb next.track.0 track ≡ false →
    other.used && eqb other.track.0 track ≡ false
same-next track next other e differs = let same : next ≡ other = cc in subst (λ (w : Waiting). w.used && eqb w.track.0 track ≡ false) same differs

pub quantifies-same : (track number : ℕ) (next other : Waiting) → Some next ≡ Some other → Quantifies track (number, next) → Quantifies track (number, other)
quantifies-same track number next other e q = let same : next ≡ other = cc in subst (λ (w : Waiting). Quantifies track (number, w)) same q

pub idle-there : (next : Waiting) (place : Option Waiting) → place ≡ Some next → idle_at place ≡ true → next.used ≡ false
idle-there next place is idle = pick next.used (sym (ap idle_at is) ∙ idle)
  where
    pick : (b : Bool) → not b ≡ true → b ≡ false
    pick true e = absurd (false≢true e)
    pick false e = refl

none-among : (waiting : List (ℕ × Waiting)) → AllByRecursion (λ next. IsAmong [] next → ⊥) waiting
none-among [] = tt
none-among (e ∷ es) = ((λ among. false≢true among.1), none-among es)

-- nothing has gone over at the start
pub Halfway-start : (start gone : Pending) → gone.waiting.entries ≡ [] → Halfway start [] start gone
Halfway-start start gone none = record {
  woven = subst (Woven start.waiting.entries start.waiting.entries) (sym none) (Woven-all start.waiting.entries);
  places = refl;
  idle = refl;
  went = subst (AllByRecursion (IsAmong [])) (sym none) tt;
  left = none-among start.waiting.entries;
  found = subst (AllByRecursion (IsPlacedIn (get nat_eq gone.places) gone.idle.items)) (sym none) tt;
}

pub Halfway-placed : (start : Pending) (done : List ℕ) (now gone : Pending) → IsPlaced start → Halfway start done now gone → IsPlaced now
Halfway-placed start done now gone placed half =
    subst (λ places. AllByRecursion (IsPlacedIn (get nat_eq places) now.idle.items) now.waiting.entries) (sym half.places)
    (subst (λ (idle : _). AllByRecursion (IsPlacedIn (get nat_eq start.places) idle.items) now.waiting.entries) (sym half.idle)
    (All-woven (IsPlacedIn (get nat_eq start.places) start.idle.items) half.woven placed).0)

pub Halfway-ascends : (start : Pending) (done : List ℕ) (now gone : Pending) → Ascends start.waiting.entries → Halfway start done now gone →
    Ascends now.waiting.entries
Halfway-ascends start done now gone ascends half = Ascends-woven half.woven ascends

pub idle-next : (places known : ℕ → Option ℕ) (idle : List ℕ) (i : ℕ) (start before now gone : List (ℕ × Waiting)) → i < length idle →
    HalfwayIdle places idle (drop i idle) start before now gone known →
    HalfwayIdle places idle (get_or idle i 0 ∷ drop (i + 1) idle) start before now gone known
idle-next places known idle i start before now gone inside half =
    subst (λ rest. HalfwayIdle places idle rest start before now gone known)
    (drop-cons idle i 0 inside ∙ ap (λ (k : ℕ). get_or idle i 0 ∷ drop k idle) (sym (add-one i))) half

pub idle-end : (idle : List ℕ) (i : ℕ) (now : List (ℕ × Waiting)) → length idle ≤ i →
    AllByRecursion (λ next. IsIdle next → Contains (drop i idle) next.0) now → AllByRecursion (λ next. IsIdle next → Contains [] next.0) now
idle-end idle i now past left = subst (λ rest. AllByRecursion (λ next. IsIdle next → Contains rest next.0) now) (drop_all i idle past) left

pub placed-at : (now start : Pending) (idle : List ℕ) → now.places ≡ start.places → AllByRecursion (λ next. IsIdle next → ⊥) now.waiting.entries →
    AllByRecursion (IsPlacedIn (get nat_eq start.places) idle) now.waiting.entries → IsPlaced now
placed-at now start idle same none placed =
    subst (λ places. AllByRecursion (IsPlacedIn (get nat_eq places) now.idle.items) now.waiting.entries) (sym same)
    (placed-used (get nat_eq start.places) idle now.idle.items now.waiting.entries none placed)

pub placed-kept : (now start : Pending) → now.places ≡ start.places → now.idle ≡ start.idle →
    AllByRecursion (IsPlacedIn (get nat_eq start.places) start.idle.items) now.waiting.entries → IsPlaced now
placed-kept now start places idle placed =
    subst (λ places. AllByRecursion (IsPlacedIn (get nat_eq places) now.idle.items) now.waiting.entries) (sym places)
    (subst (λ (idle : _). AllByRecursion (IsPlacedIn (get nat_eq start.places) idle.items) now.waiting.entries) (sym idle) placed)
