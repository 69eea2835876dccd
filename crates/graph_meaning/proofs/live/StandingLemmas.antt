-- Each live cell of a seen store has one position of its own.
use Rattle.std.proofs.Common.{◌≡◌, ◌≢◌, ◌⊎◌, inl, inr, ℕ, ◌+◌, ◌<◌, Bool, true, false, IsTrue, List, [], ◌∷◌, Option, Some, None, refl, sym, ap, ◌∙◌, subst}
use Rattle.std.proofs.Common.{arith}
use Rattle.std.proofs.lemmas.Bool.{false≢true}
use Rattle.std.specs.Prelude.{IsSome}
use Rattle.std.specs.Ordering.{nat_cmp}
use Rattle.std.specs.FinMap.{FinMap, get}
use Rattle.gta_theory.specs.Assignments.{Position, Assignment}
use Rattle.gta_theory.proofs.ListsLemmas.{Contains-first, Contains-later, Contains-cases}
use Rattle.ws2s_core.specs.declared.track.Track.{Track}
use Rattle.ws2s_forms.specs.Places.{slot_of}
use Rattle.store_core.specs.declared.ids.CellId.{CellId}
use Rattle.store_core.specs.declared.ids.VariantId.{VariantId}
use Rattle.store_core.specs.Tables.{TypeEntry, VarEntry}
use Rattle.store_core.specs.Stores.{StoreMap, CellEntry, IsLive, Fits, put_cell, set_field, remove_cell}
use Rattle.store_core.proofs.AboveLemmas.{live_below}
use Rattle.store_laws.proofs.ChangeLemmas.{IsPut-put_cell, IsFieldSet-set_field, IsRemoved-remove_cell}
use Rattle.store_laws.proofs.FitsLemmas.{above_alike, above_put}
use Rattle.routing_walks.specs.WellFormed.{IsBackbone}
use Rattle.tree_encode.proofs.ApartLemmas.{placed-apart, one-position}
use Rattle.tree_store.proofs.StoresLemmas.{placed-live}
use Rattle.graph_view.specs.declared.view.Sym.{Sym}
use Rattle.graph_view.specs.declared.view.Event.{Event}
use Rattle.graph_view.specs.declared.view.Event.TheVariants.{New, Write, Free}
use Rattle.graph_view.specs.After.{Standing, IsAt, AreStanding, IsTaken, guard_of, Stood, new_cell, Leads, Happens, LeadTo, IsSeen}
use Rattle.graph_view.specs.Sights.{var_slots}
use Rattle.graph_meaning.specs.Live.Standing.{Sits}

-- ---- guards

truth : (t : Bool) → IsTrue t ⊎ (IsTrue t → ⊥)
truth true = inl refl
truth false = inr (λ h. false≢true h)

pub taken-decided : (a : Assignment) (g : Option Track) → IsTaken a g ⊎ (IsTaken a g → ⊥)
taken-decided a None = inl tt
taken-decided a (Some h) = truth (a h.0 [])

-- ---- the first store

pub Sits-first : (types : List TypeEntry) (vars : List VarEntry) (s : StoreMap) (at : Standing) → Fits types vars s → IsBackbone types vars s →
    AreStanding types vars s at → Sits s at
Sits-first types vars s at fits backbone stand = record {
  above = fits.above;
  below = λ c p here. live_below s c fits.above (placed-live types vars s c p ((stand c p).0 here));
  there = λ c live.
      let one = one-position types vars s c backbone live in
      (one.position, (stand c one.position).1 one.placed);
  one = λ c p q here also.
      let placed = (stand c p).0 here in
      let one = one-position types vars s c backbone (placed-live types vars s c p placed) in
      one.only p placed ∙ sym (one.only q ((stand c q).0 also));
  apart = λ c d p here also. placed-apart types vars s c d p ((stand c p).0 here) ((stand d p).0 also);
}

-- ---- one change

-- a cell of the longer list is the new one, or stood before
abbrev pub NewOrOld : StoreMap → Standing → Position → CellId → Position → Type 0
NewOrOld s at place c p = ((c ≡ new_cell s) × (p ≡ place)) ⊎ IsAt at c p

pub new-or-old : (s : StoreMap) (at : Standing) (place : Position) (c : CellId) (p : Position) → IsAt ((new_cell s, place) ∷ at) c p → NewOrOld s at place c p
new-or-old s at place c p here = elim (Contains-cases (new_cell s, place) (c, p) at here) as (λ _. NewOrOld s at place c p) [
  | inl same ↦ inl (sym (ap (λ (w : CellId × Position). w.0) same), sym (ap (λ (w : CellId × Position). w.1) same))
  | inr old ↦ inr old
]

pub new-here : (s : StoreMap) (at : Standing) (place : Position) → IsAt ((new_cell s, place) ∷ at) (new_cell s) place
new-here s at place = Contains-first (new_cell s, place) at

pub old-here : (s : StoreMap) (at : Standing) (place : Position) (c : CellId) (p : Position) → IsAt at c p → IsAt ((new_cell s, place) ∷ at) c p
old-here s at place c p here = Contains-later (new_cell s, place) (c, p) at here

-- a cell that stands is not the new one
pub old-not_new : (s : StoreMap) (at : Standing) (c : CellId) (p : Position) → Sits s at → IsAt at c p → c ≢ new_cell s
old-not_new s at c p sits here same =
    let less = sits.below c p here in
    let number : c.0 ≡ s.next = ap (λ (d : CellId). d.0) same in
    let none : ⊥ = omega (arith, less, number) in none

Sits-put : (types : List TypeEntry) (s : StoreMap) (at : Standing) (v : VariantId) (place : Position) → Sits s at →
    ((c : CellId) → IsAt at c place → ⊥) → Sits (put_cell s types v) ((new_cell s, place) ∷ at)
Sits-put types s at v place sits empty =
    let put = IsPut-put_cell types s v sits.above in
    record {
      above = above_put types s v sits.above;
      below = λ c p here. elim (new-or-old s at place c p here) as (λ _. c.0 < s.next + 1) [
        | inl new ↦ (let number : c.0 ≡ s.next = ap (λ (d : CellId). d.0) new.0 in omega (arith, number))
        | inr old ↦ (let less = sits.below c p old in omega (arith, less))
      ];
      there = λ c live. elim ((put.live c).0 live) as (λ _. (p : Position) × IsAt ((new_cell s, place) ∷ at) c p) [
        | inl before ↦ (let (p, here) = sits.there c before in (p, old-here s at place c p here))
        | inr new ↦ (place, subst (λ d. IsAt ((new_cell s, place) ∷ at) d place) (sym new) (new-here s at place))
      ];
      one = λ c p q here also. elim (new-or-old s at place c p here) as (λ _. p ≡ q) [
        | inl new ↦ elim (new-or-old s at place c q also) as (λ _. p ≡ q) [
          | inl same ↦ new.1 ∙ sym same.1
          | inr old ↦ absurd (old-not_new s at c q sits old new.0)
        ]
        | inr old ↦ elim (new-or-old s at place c q also) as (λ _. p ≡ q) [
          | inl new ↦ absurd (old-not_new s at c p sits old new.0)
          | inr same ↦ sits.one c p q old same
        ]
      ];
      apart = λ c d p here also. elim (new-or-old s at place c p here) as (λ _. c ≡ d) [
        | inl new ↦ elim (new-or-old s at place d p also) as (λ _. c ≡ d) [
          | inl same ↦ new.0 ∙ sym same.0
          | inr old ↦ absurd (empty d (subst (λ q. IsAt at d q) new.1 old))
        ]
        | inr old ↦ elim (new-or-old s at place d p also) as (λ _. c ≡ d) [
          | inl new ↦ absurd (empty c (subst (λ q. IsAt at c q) new.1 old))
          | inr same ↦ sits.apart c d p old same
        ]
      ];
    }

-- a change that makes no cell live and keeps the next number
Sits-kept : (s t : StoreMap) (at : Standing) → t.next ≡ s.next → ((c : CellId) → IsLive t c → IsLive s c) → Sits s at → Sits t at
Sits-kept s t at next live sits = record {
  above = above_alike s t next live sits.above;
  below = λ c p here. subst (λ n. c.0 < n) (sym next) (sits.below c p here);
  there = λ c lives. sits.there c (live c lives);
  one = sits.one;
  apart = sits.apart;
}

abbrev StoodSits : Stood → Type 0
StoodSits x = Sits x.store x.at

along : (s : StoreMap) (at : Standing) (x : Stood) → x.store ≡ s → x.at ≡ at → Sits s at → StoodSits x
along s at x store places sits = subst (λ t. Sits t x.at) (sym store) (subst (λ l. Sits s l) (sym places) sits)

Sits-leads : (types : List TypeEntry) (slots : ℕ) (a : Assignment) (e : Event) (x y : Stood) → Leads types slots a e x y → StoodSits x → StoodSits y
Sits-leads types slots a (New g k v) x y made sits =
    along (put_cell x.store types v) ((new_cell x.store, slot_of (slots + k)) ∷ x.at) y made.store made.at
    (Sits-put types x.store x.at v (slot_of (slots + k)) sits made.empty)
Sits-leads types slots a (Write g u f w) x y wrote sits =
    let set = IsFieldSet-set_field x.store wrote.cell f wrote.value wrote.has in
    along (set_field x.store wrote.cell f wrote.value) x.at y wrote.store wrote.at
    (Sits-kept x.store (set_field x.store wrote.cell f wrote.value) x.at set.next (λ c live. (set.live c).0 live) sits)
Sits-leads types slots a (Free g u) x y freed sits =
    let gone = IsRemoved-remove_cell x.store freed.cell in
    along (remove_cell x.store freed.cell) x.at y freed.store freed.at
    (Sits-kept x.store (remove_cell x.store freed.cell) x.at gone.next (λ c live. ((gone.live c).0 live).0) sits)

pub Sits-happens : (types : List TypeEntry) (slots : ℕ) (a : Assignment) (e : Event) (x y : Stood) → Happens types slots a e x y → Sits x.store x.at →
    Sits y.store y.at
Sits-happens types slots a e x y happens sits = elim (taken-decided a (guard_of e)) as (λ _. StoodSits y) [
  | inl taken ↦ Sits-leads types slots a e x y (happens.taken taken) sits
  | inr passed ↦ subst StoodSits (sym (happens.passed passed)) sits
]

-- ---- all changes

pub Sits-led : (types : List TypeEntry) (slots : ℕ) (a : Assignment) (first : Stood) (events : List Event) (x : Stood) →
    LeadTo types slots a first events x → Sits first.store first.at → Sits x.store x.at
Sits-led types slots a first [] x led sits = subst StoodSits (sym led) sits
Sits-led types slots a first (e ∷ earlier) x (before, led, happens) sits =
    Sits-happens types slots a e before x happens (Sits-led types slots a first earlier before led sits)

-- a store with the same cells and the same next number
pub Sits-alike : (s t : StoreMap) (at : Standing) → t.cells ≡ s.cells → t.next ≡ s.next → Sits s at → Sits t at
Sits-alike s t at cells next sits =
    Sits-kept s t at next (λ c live. subst (λ (m : FinMap nat_cmp CellEntry). IsSome (get m c.0)) cells live) sits

pub Sits-seen : (types : List TypeEntry) (vars : List VarEntry) (syms : List Sym) (events : List Event) (a : Assignment) (first s : StoreMap)
    (at : Standing) → Fits types vars first → IsBackbone types vars first → IsSeen types vars syms events a first s at → Sits s at
Sits-seen types vars syms events a first s at fits backbone seen =
    Sits-alike seen.ends s at seen.cells seen.next
    (Sits-led types (var_slots vars) a (record { store = first; at = seen.start }) events (record { store = seen.ends; at = at }) seen.lead
    (Sits-first types vars first seen.start fits backbone seen.stand))
