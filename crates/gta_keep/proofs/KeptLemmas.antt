-- On what is kept: which automata are there after a use, a fall out, and a new one.
use Rattle.std.proofs.Common.{◌≡◌, ℕ, ◌+◌, ◌-◌, ◌<◌, ◌≤◌, ◌==◌, ◌⊎◌, inl, inr, if◌then◌else◌, zero, suc, Bool, true, false, Option, Some, None, List, [], ◌∷◌}
use Rattle.std.proofs.Common.{◌++◌, take, length, Contains, IsSome, slice_get, option_map, refl, sym, ◌∙◌, ap, subst, arith}
use Rattle.std.specs.Map.{lookup, lookup_entry, remove_entry}
use Rattle.std.proofs.lemmas.Bool.{false≢true}
use Rattle.std.proofs.lemmas.Option.{slice_get_within}
use Rattle.std.proofs.lemmas.List.{length-take}
use Rattle.std.specs.Option.{MatchOption, option_map_or}
use Rattle.std.proofs.lemmas.List.Elements.{Contains-append_right}
use Rattle.lru.specs.LruCache.{LruCache, promoted, put_entries, displaced, last_entry}
use Rattle.lru.proofs.CallerLemmas.{Contains-promoted, Contains-remove_entry, Contains-take, Contains-lookup, Contains-lookup_entry, Contains-put_entries}
use Rattle.bdd_nodes.specs.Shelf.{Contents, IsShelf, roots_of}
use Rattle.bdd_nodes.specs.Changes.{DropsTable}
use Rattle.gta_theory.specs.Guides.{Spaces}
use Rattle.gta_theory.proofs.ListsLemmas.{Contains-none, Contains-first, Contains-later, Contains-cases}
use Rattle.gta_core.specs.Auto.{AutoView, IsAuto}
use Rattle.gta_core.specs.Changes.{AddsOneTable}
use Rattle.gta_core.proofs.AutoLemmas.{past-none}
use Rattle.ws2s_core.specs.declared.node.FormulaId.{FormulaId}
use Rattle.gta_keep.specs.Holding.{times, Holds, HoldsBeside, IsNotKept, IsCopyOfKept, Passes, as_list, beside, kept_autos}
use Rattle.gta_keep.proofs.PassesLemmas.{Entries, Contains-kept, Contains-entry, Contains-beside, Holds-order, Passes-none, Passes-order, Passes-both}
use Rattle.gta_keep.proofs.PassesLemmas.{Passes-beside, Passes-added, Passes-release, HoldsBeside-after}

-- once where the automaton has the table
abbrev pub once : AutoView → ℕ → ℕ
once a t = if a.table == t then 1 else 0

abbrev pub among : Entries → ℕ → ℕ
among kept t = times (kept_autos kept) t

-- the automaton that came out of what is kept, if any
abbrev pub outs : Option (FormulaId × AutoView) → List AutoView
outs None = []
outs (Some entry) = entry.1 ∷ []

module _ (test : FormulaId → Bool) where
  -- all but the entry that passes, and that
  remove-times : (kept : Entries) (e : FormulaId × AutoView) → lookup_entry test kept ≡ Some e → (t : ℕ) →
      among kept t ≡ once e.1 t + among (remove_entry test kept) t
  remove-times [] e is t = absurd cc
  remove-times (f ∷ kept) e is t = (elim (test f.0) as (λ y. test f.0 ≡ y → among (f ∷ kept) t ≡ once e.1 t + among (remove_entry test (f ∷ kept)) t) [
    | true ↦ λ passes.
        let is' = rw passes at is in
        let same : f ≡ e = cc in
        rw passes (ap (λ (x : FormulaId × AutoView). once x.1 t + among kept t) same)
    | false ↦ λ fails.
        let rest = remove-times kept e (rw fails at is) t in
        rw fails (let sum : once f.1 t + among kept t ≡ once e.1 t + (once f.1 t + among (remove_entry test kept) t) = omega arith in sum)
  ]) refl

  promoted-times : (kept : Entries) (o : Option (FormulaId × AutoView)) → lookup_entry test kept ≡ o → (t : ℕ) →
      among (option_map_or (λ e. e ∷ remove_entry test kept) o kept) t ≡ among kept t
  promoted-times kept None is t = refl
  promoted-times kept (Some e) is t = sym (remove-times kept e is t)

  pub Passes-promoted : (g : Spaces) (shelf : Contents) (kept : Entries) → Passes g shelf shelf [] [] kept (promoted test kept)
  Passes-promoted g shelf kept =
      Passes-order g shelf [] [] kept (promoted test kept) (λ t. let e = promoted-times kept (lookup_entry test kept) refl t in omega (arith, e))
      (λ a (k, lt, is). absurd (omega (arith, lt))) (Contains-promoted test kept)

-- the last one of those up to a place, and those before
last-times : (kept : Entries) (n : ℕ) (e : FormulaId × AutoView) → length kept ≤ suc n → slice_get kept n ≡ Some e → (t : ℕ) →
    among kept t ≡ once e.1 t + among (take n kept) t
last-times [] zero e few is t = absurd cc
last-times [] (suc n) e few is t = absurd cc
last-times (f ∷ []) zero e few is t = (let same : f ≡ e = cc in ap (λ (x : FormulaId × AutoView). once x.1 t + 0) same)
last-times (f ∷ (h ∷ kept)) zero e few is t = absurd (omega arith)
last-times (f ∷ kept) (suc n) e few is t =
    (let rest = last-times kept n e (omega (arith, few)) is t in
    let sum : once f.1 t + among kept t ≡ once e.1 t + (once f.1 t + among (take n kept) t) = omega arith in sum)

take-all : (kept : Entries) (n : ℕ) → length kept ≤ n → take n kept ≡ kept
take-all [] zero few = refl
take-all [] (suc n) few = refl
take-all (f ∷ kept) zero few = absurd (omega arith)
take-all (f ∷ kept) (suc n) few = ap (λ (es : Entries). f ∷ es) (take-all kept n (omega (arith, few)))

Contains-at : (kept : Entries) (n : ℕ) (e : FormulaId × AutoView) → slice_get kept n ≡ Some e → Contains kept e
Contains-at [] zero e is = absurd cc
Contains-at [] (suc n) e is = absurd cc
Contains-at (f ∷ kept) zero e is = (0, omega arith, (let same : f ≡ e = cc in same))
Contains-at (f ∷ kept) (suc n) e is = (let (k, lt, at) = Contains-at kept n e is in (suc k, omega (arith, lt), at))

-- the one that was used longest ago falls out
pub Passes-popped : (g : Spaces) (shelf : Contents) (kept : Entries) (e : FormulaId × AutoView) → last_entry kept ≡ Some e →
    Passes g shelf shelf [] (e.1 ∷ []) kept (take (length kept - 1) kept)
Passes-popped g shelf kept e is =
    Passes-order g shelf [] (e.1 ∷ []) kept (take (length kept - 1) kept)
    (λ t. let sum = last-times kept (length kept - 1) e (omega arith) is t in omega (arith, sum)) inside
    (λ entry. Contains-take (length kept - 1) kept entry)
  where
    inside : (a : AutoView) → Contains (e.1 ∷ []) a → Contains ([] ++ kept_autos kept) a
    inside a (zero, lt, same) = subst (Contains (kept_autos kept)) same (Contains-kept kept e (Contains-at kept (length kept - 1) e is))
    inside a (suc k, lt, same) = absurd (omega (arith, lt))

-- one that has come out of what is kept is registered
module _ (h : Spaces) (old : Contents) (kept after : Entries) (held : HoldsBeside h old [] kept) (a : AutoView)
    (taken : (g : Spaces) → Passes g old old [] (a ∷ []) kept after) where
  out : HoldsBeside h old (a ∷ []) after
  out = HoldsBeside-after h old old [] (a ∷ []) kept after (taken h) held

  pub taken-registered : IsSome (roots_of old a.table)
  taken-registered = (out.holds.each a (0, omega arith, refl)).registered

-- and it is let go of
module _ (h : Spaces) (old new : Contents) (kept after : Entries) (held : HoldsBeside h old [] kept) (a : AutoView)
    (taken : (g : Spaces) → Passes g old old [] (a ∷ []) kept after) (is_shelf : IsShelf new) (drops : DropsTable old new a.table) where
  pub taken-gone : (g : Spaces) → Passes g old new [] [] kept after
  taken-gone g =
      Passes-both g old old new [] (a ∷ []) [] kept after after (taken g)
      (Passes-release g old new a [] after h (out h old kept after held a taken) is_shelf drops)

  pub taken-held : HoldsBeside h new [] after
  taken-held = HoldsBeside-after h old new [] [] kept after (taken-gone h) held

-- the last one has one key
pub same-key : (last : Option (FormulaId × AutoView)) (a b : FormulaId × AutoView) → Some a ≡ last → Some b ≡ last → a.0 ≡ b.0
same-key last a b is_a is_b = (let both = is_a ∙ sym is_b in let same : a ≡ b = cc in ap (λ (e : FormulaId × AutoView). e.0) same)

-- another one than the last stays
stays-at : (kept : Entries) (n : ℕ) (e x : FormulaId × AutoView) → length kept ≤ suc n → slice_get kept n ≡ Some e → (x ≡ e → ⊥) →
    Contains kept x → Contains (take n kept) x
stays-at [] n e x few is other there = absurd (Contains-none x there)
stays-at (f ∷ kept) zero e x few is other there = elim (Contains-cases f x kept there) [
  | inl same ↦ absurd (other (let last : f ≡ e = cc in sym same ∙ last))
  | inr (k, below, at) ↦ absurd (omega (arith, few, below))
]
stays-at (f ∷ kept) (suc n) e x few is other there = elim (Contains-cases f x kept there) [
  | inl same ↦ subst (λ (y : FormulaId × AutoView). Contains (f ∷ take n kept) y) same (Contains-first f (take n kept))
  | inr later ↦ Contains-later f x (take n kept) (stays-at kept n e x (omega (arith, few)) is other later)
]

pub stays-popped : (kept : Entries) (e : FormulaId × AutoView) (id : FormulaId) → last_entry kept ≡ Some e → (e.0 ≡ id → ⊥) → (auto : AutoView) →
    Contains kept (id, auto) → Contains (take (length kept - 1) kept) (id, auto)
stays-popped kept e id is other auto =
    stays-at kept (length kept - 1) e (id, auto) (omega arith) is (λ same. other (sym (ap (λ (x : FormulaId × AutoView). x.0) same)))

pub fewer-popped : (kept : Entries) (e : FormulaId × AutoView) → last_entry kept ≡ Some e → length (take (length kept - 1) kept) < length kept
fewer-popped kept e is =
    let inside = slice_get_within kept (length kept - 1) e is in
    let many = length-take (length kept - 1) kept in
    omega (arith, inside, many)

-- it is registered
pub popped-registered : (h : Spaces) (shelf : Contents) (kept : Entries) → HoldsBeside h shelf [] kept → (e : FormulaId × AutoView) →
    Some e ≡ last_entry kept → IsSome (roots_of shelf (e.1).table)
popped-registered h shelf kept held e is =
    (held.holds.each e.1 (Contains-beside [] held.others kept e (Contains-at kept (length kept - 1) e (sym is)))).registered

-- and it is let go of
module _ (h : Spaces) (old new : Contents) (kept after : Entries) (held : HoldsBeside h old [] kept) (e : FormulaId × AutoView)
    (is : Some e ≡ last_entry kept) (are : after ≡ take (length kept - 1) kept) (is_shelf : IsShelf new) (drops : DropsTable old new (e.1).table) where
  falls : (g : Spaces) → Passes g old old [] (e.1 ∷ []) kept after
  falls g = subst (λ (es : Entries). Passes g old old [] (e.1 ∷ []) kept es) (sym are) (Passes-popped g old kept e (sym is))

  pub popped-passes : (g : Spaces) → Passes g old new [] [] kept after
  popped-passes g =
      Passes-both g old old new [] (e.1 ∷ []) [] kept after after (falls g)
      (Passes-release g old new e.1 [] after h (HoldsBeside-after h old old [] (e.1 ∷ []) kept after (falls h) held) is_shelf drops)

  pub popped-held : HoldsBeside h new [] after
  popped-held = HoldsBeside-after h old new [] [] kept after (popped-passes h) held

-- nothing falls out where nothing is kept
pub none-popped : (kept after : Entries) → None ≡ last_entry kept → after ≡ take (length kept - 1) kept → (kept ≡ []) × (after ≡ [])
none-popped [] after is are = (refl, are)
none-popped (f ∷ kept) after is are =
    absurd (let le = past-none (f ∷ kept) (length (f ∷ kept) - 1) (sym is) in let none : ⊥ = omega (arith, le) in none)

-- ---- one is taken out

lookup-entry : (test : FormulaId → Bool) (kept : Entries) →
    lookup test kept ≡ option_map (λ (e : FormulaId × AutoView). e.1) (lookup_entry test kept)
lookup-entry test [] = refl
lookup-entry test (f ∷ kept) = (elim (test f.0) as (λ y. test f.0 ≡ y →
    lookup test (f ∷ kept) ≡ option_map (λ (e : FormulaId × AutoView). e.1) (lookup_entry test (f ∷ kept))) [
      | true ↦ λ passes. rw passes refl
      | false ↦ λ fails. rw fails (lookup-entry test kept)
    ]) refl

removed-none : (test : FormulaId → Bool) (kept : Entries) → lookup_entry test kept ≡ None → remove_entry test kept ≡ kept
removed-none test [] is = refl
removed-none test (f ∷ kept) is = (elim (test f.0) as (λ y. test f.0 ≡ y → remove_entry test (f ∷ kept) ≡ f ∷ kept) [
  | true ↦ λ passes. absurd (let is' = rw passes at is in cc)
  | false ↦ λ fails. rw fails (ap (λ (es : Entries). f ∷ es) (removed-none test kept (rw fails at is)))
]) refl

module _ (test : FormulaId → Bool) (g : Spaces) (shelf : Contents) (kept : Entries) where
  taken-at : (o : Option (FormulaId × AutoView)) → lookup_entry test kept ≡ o →
      Passes g shelf shelf [] (as_list (option_map (λ (e : FormulaId × AutoView). e.1) o)) kept (remove_entry test kept)
  taken-at None is =
      subst (λ (es : Entries). Passes g shelf shelf [] [] kept es) (sym (removed-none test kept is)) (Passes-none g shelf [] kept)
  taken-at (Some e) is =
      Passes-order g shelf [] (e.1 ∷ []) kept (remove_entry test kept)
      (λ t. let sum = remove-times test kept e is t in omega (arith, sum)) inside (Contains-remove_entry test kept)
    where
      inside : (a : AutoView) → Contains (e.1 ∷ []) a → Contains ([] ++ kept_autos kept) a
      inside a (zero, lt, same) = subst (Contains (kept_autos kept)) same (Contains-kept kept e (Contains-lookup_entry test kept e is).0)
      inside a (suc k, lt, same) = absurd (omega (arith, lt))

  -- it is no longer kept
  pub taken-passes : (o : Option AutoView) → o ≡ lookup test kept → Passes g shelf shelf [] (as_list o) kept (remove_entry test kept)
  taken-passes o is =
      subst (λ (x : Option AutoView). Passes g shelf shelf [] (as_list x) kept (remove_entry test kept))
      (sym (is ∙ lookup-entry test kept)) (taken-at (lookup_entry test kept) refl)

-- ---- one is looked up

module _ (test : FormulaId → Bool) (id : FormulaId) where
  pub found-entry : ((x : FormulaId) → test x ≡ true → id ≡ x) → (kept : Entries) (was : AutoView) → Some was ≡ lookup test kept →
      Contains kept (id, was)
  found-entry exact kept was is =
      let (key, there, passes) = Contains-lookup test kept was (sym is) in
      subst (λ (i : FormulaId). Contains kept (i, was)) (sym (exact key passes)) there

  pub none-entry : test id ≡ true → (kept : Entries) → None ≡ lookup test kept → (auto : AutoView) → Contains kept (id, auto) → ⊥
  none-entry passes [] is auto (k, lt, at) = let none : ⊥ = omega (arith, lt) in none
  none-entry passes (f ∷ kept) is auto there = (elim (test f.0) as (λ y. test f.0 ≡ y → ⊥) [
    | true ↦ λ equal. absurd (let is' = rw equal at is in cc)
    | false ↦ λ unequal. past (none-entry passes kept (rw unequal at is) auto) unequal there
  ]) refl where
    past : (Contains kept (id, auto) → ⊥) → test f.0 ≡ false → Contains (f ∷ kept) (id, auto) → ⊥
    past rest unequal (zero, lt, at) = false≢true (sym unequal ∙ ap (λ (e : FormulaId × AutoView). test e.0) at ∙ passes)
    past rest unequal (suc k, lt, at) = rest (k, omega (arith, lt), at)

  -- what was looked up was kept for the number, and nothing was where there is none
  pub found-or-none : test id ≡ true → ((x : FormulaId) → test x ≡ true → id ≡ x) → (kept : Entries) (shelf : Contents) (o : Option AutoView) →
      o ≡ lookup test kept → MatchOption o (IsNotKept id kept) (IsCopyOfKept shelf shelf id kept)
  found-or-none passes exact kept shelf None is = none-entry passes kept is
  found-or-none passes exact kept shelf (Some was) is = record {
    was = was;
    there = found-entry exact kept was is;
    copies = record { automaton = refl; states = λ s. refl };
  }

-- a copy of it comes, and it is the last that was used
pub copied-passes : (test : FormulaId → Bool) (h : Spaces) (old new : Contents) (kept after : Entries) → HoldsBeside h old [] kept →
    (id : FormulaId) (was copy : AutoView) → Contains kept (id, was) → IsShelf new → AddsOneTable old new copy.table →
    ((g : Spaces) → IsAuto g old was → IsAuto g new copy) → after ≡ promoted test kept → (g : Spaces) →
    Passes g old new [] (copy ∷ []) kept after
copied-passes test h old new kept after held id was copy there is_shelf one autos are g =
    let entry : FormulaId × AutoView = (id, was) in
    Passes-both g old new new [] (copy ∷ []) (copy ∷ []) kept kept after
    (Passes-added g old new copy [] kept h held is_shelf one (λ others holds. autos g (holds.each was (Contains-beside [] others kept entry there))))
    (Passes-beside g new new (copy ∷ []) kept after
    (subst (λ (es : Entries). Passes g new new [] [] kept es) (sym are) (Passes-promoted test g new kept)))

-- ---- a new one comes

module _ (eq : FormulaId → FormulaId → Bool) (c : LruCache FormulaId AutoView) (few : length c.entries ≤ c.cap) (id : FormulaId) (copy : AutoView) where
  abbrev put_of : Option (FormulaId × AutoView) → Entries
  put_of o = option_map_or (λ e. (e.0, copy) ∷ remove_entry (eq id) c.entries) o ((id, copy) ∷ take (c.cap - 1) c.entries)

  abbrev out_of : Option AutoView → Option (FormulaId × AutoView) → Option (FormulaId × AutoView)
  out_of o last = option_map_or (λ old. Some (id, old)) o last

  abbrev last : Option (FormulaId × AutoView)
  last = slice_get c.entries (c.cap - 1)

  abbrev value_of : Option (FormulaId × AutoView) → Option AutoView
  value_of = option_map (λ (e : FormulaId × AutoView). e.1)

  put-times-at : (o l : Option (FormulaId × AutoView)) → lookup_entry (eq id) c.entries ≡ o → last ≡ l → (t : ℕ) →
      times (outs (out_of (value_of o) l)) t + among (put_of o) t ≡ once copy t + among c.entries t
  put-times-at (Some e) l found is t =
      let sum = remove-times (eq id) c.entries e found t in
      let goal : (once e.1 t + 0) + (once copy t + among (remove_entry (eq id) c.entries) t) ≡ once copy t + among c.entries t = omega arith in goal
  put-times-at None (Some e) found is t =
      let sum = last-times c.entries (c.cap - 1) e (omega arith) is t in
      let goal : (once e.1 t + 0) + (once copy t + among (take (c.cap - 1) c.entries) t) ≡ once copy t + among c.entries t = omega arith in goal
  put-times-at None None found is t =
      let le = past-none c.entries (c.cap - 1) is in
      let same = ap (λ (es : Entries). once copy t + among es t) (take-all c.entries (c.cap - 1) le) in
      omega (arith, same)

  -- it and those before are those after and the one that falls out
  pub put-times : (t : ℕ) → times (outs (displaced eq c id copy)) t + among (put_entries eq c id copy) t ≡ once copy t + among c.entries t
  put-times t =
      subst (λ (o : Option AutoView). times (outs (out_of o last)) t + among (put_entries eq c id copy) t ≡ once copy t + among c.entries t)
      (sym (lookup-entry (eq id) c.entries)) (put-times-at (lookup_entry (eq id) c.entries) last refl refl t)

  put-out-at : (o l : Option (FormulaId × AutoView)) → lookup_entry (eq id) c.entries ≡ o → last ≡ l → (a : AutoView) →
      Contains (outs (out_of (value_of o) l)) a → Contains (kept_autos c.entries) a
  put-out-at (Some e) l found is a (zero, lt, same) =
      subst (Contains (kept_autos c.entries)) same (Contains-kept c.entries e (Contains-lookup_entry (eq id) c.entries e found).0)
  put-out-at (Some e) l found is a (suc k, lt, same) = absurd (omega (arith, lt))
  put-out-at None (Some e) found is a (zero, lt, same) =
      subst (Contains (kept_autos c.entries)) same (Contains-kept c.entries e (Contains-at c.entries (c.cap - 1) e is))
  put-out-at None (Some e) found is a (suc k, lt, same) = absurd (omega (arith, lt))
  put-out-at None None found is a (k, lt, same) = absurd (omega (arith, lt))

  -- what falls out was kept
  pub put-out : (a : AutoView) → Contains (outs (displaced eq c id copy)) a → Contains (kept_autos c.entries) a
  put-out a there =
      put-out-at (lookup_entry (eq id) c.entries) last refl refl a
      (subst (λ (o : Option AutoView). Contains (outs (out_of o last)) a) (lookup-entry (eq id) c.entries) there)

  put-there-at : ((x y : FormulaId) → eq x y ≡ true → x ≡ y) → (o : Option (FormulaId × AutoView)) → lookup_entry (eq id) c.entries ≡ o →
      Contains (put_of o) (id, copy)
  put-there-at exact None found = (0, omega arith, refl)
  put-there-at exact (Some e) found =
      let same : id ≡ e.0 = exact id e.0 (Contains-lookup_entry (eq id) c.entries e found).1 in
      (0, omega arith, ap (λ (i : FormulaId). let entry : FormulaId × AutoView = (i, copy) in entry) (sym same))

  -- the new one is there
  pub put-there : ((x y : FormulaId) → eq x y ≡ true → x ≡ y) → Contains (put_entries eq c id copy) (id, copy)
  put-there exact = put-there-at exact (lookup_entry (eq id) c.entries) refl

  -- each entry was there, or it is the new one
  pub put-entry : ((x y : FormulaId) → eq x y ≡ true → x ≡ y) → (entry : FormulaId × AutoView) → Contains (put_entries eq c id copy) entry →
      Contains c.entries entry ⊎ ((entry.0 ≡ id) × (entry.1 ≡ copy))
  put-entry exact entry there = elim (Contains-put_entries eq c id copy entry there) [
    | inl was ↦ inl was
    | inr (value, key) ↦ inr (elim key [ inl is ↦ is | inr (w, was, equal) ↦ sym (exact id entry.0 equal) ], value)
  ]

  -- what a shelf holds with the new one beside, it holds with the one that falls out
  pub Holds-put : ((x y : FormulaId) → eq x y ≡ true → x ≡ y) → (g : Spaces) (shelf : Contents) (others : List AutoView) →
      Holds g shelf (beside (copy ∷ []) others c.entries) →
      Holds g shelf (beside (outs (displaced eq c id copy)) others (put_entries eq c id copy))
  Holds-put exact g shelf others holds =
      Holds-order g shelf (copy ∷ []) (outs (displaced eq c id copy)) others c.entries (put_entries eq c id copy)
      (λ t. let sum = put-times t in omega arith)
      (λ a there. Contains-append_right (copy ∷ []) (kept_autos c.entries) a (put-out a there)) keeps holds
    where
      keeps : (a : AutoView) → Contains (kept_autos (put_entries eq c id copy)) a → Contains ((copy ∷ []) ++ kept_autos c.entries) a
      keeps a there =
          let (entry, inside, is) = Contains-entry (put_entries eq c id copy) a there in
          elim (put-entry exact entry inside) [
            | inl was ↦ subst (Contains ((copy ∷ []) ++ kept_autos c.entries)) is
                (Contains-append_right (copy ∷ []) (kept_autos c.entries) entry.1 (Contains-kept c.entries entry was))
            | inr (key, value) ↦ (0, omega arith, sym value ∙ is)
          ]
