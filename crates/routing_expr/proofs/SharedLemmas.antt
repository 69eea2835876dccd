-- Cells that are named twice.
use Rattle.std.proofs.Common.{◌≡◌, ◌⊎◌, ◌↔◌, ℕ, ◌+◌, ◌<◌, ◌≤◌, List, length, get_or, slice_get, Option, Some, None, IsSomeAnd, refl, sym, ap}
use Rattle.std.proofs.Common.{◌∙◌, subst, arith, inl, inr}
use Rattle.std.proofs.lemmas.Bool.{cases_order, cases_lt}
use Rattle.std.proofs.lemmas.Option.{slice_get-get_or, slice_get_within, get_or_from_slice_get}
use Rattle.store_core.specs.declared.ids.CellId.{CellId}
use Rattle.store_core.specs.Tables.{TypeEntry, VarEntry}
use Rattle.store_core.specs.Stores.{StoreMap, IsLive}
use Rattle.routing_walks.specs.declared.fault.Place.{Place}
use Rattle.routing_walks.specs.WellFormed.{Names, ComesBefore, IsShared}
use Rattle.routing_walks.proofs.TreeLemmas.{Names-there}
use Rattle.routing_expr.specs.declared.shared.Named.{Named}
use Rattle.routing_expr.specs.Places.{ArePlaces}
use Rattle.routing_expr.specs.Naming.{NamesLive, NamesAt, IsNamedBelow, IsNamedTwiceBelow, Counts}
use Rattle.routing_expr.proofs.PlaceLemmas.{not_itself}

-- nothing more is named
pub counts_none : (IsNamed : CellId → Type 0) (old : Named) → ((c : CellId) → IsNamed c → ⊥) → Counts IsNamed old old
counts_none IsNamed old none = record {
  once = λ c. (λ h. inl h, λ h. elim h [ inl k ↦ k | inr n ↦ absurd (none c n) ]);
  twice = λ c. (λ h. inl h, λ h. elim h [ inl k ↦ k | inr n ↦ absurd (none c n.0) ]);
}

-- the same is named
pub counts_alike : (P Q : CellId → Type 0) (old new : Named) → ((c : CellId) → P c ↔ Q c) → Counts P old new → Counts Q old new
counts_alike P Q old new alike h = record {
  once = λ c. (
    λ k. elim ((h.once c).0 k) [ inl o ↦ inl o | inr n ↦ inr ((alike c).0 n) ],
    λ k. (h.once c).1 (elim k [ inl o ↦ inl o | inr n ↦ inr ((alike c).1 n) ]),
  );
  twice = λ c. (
    λ k. elim ((h.twice c).0 k) [ inl o ↦ inl o | inr n ↦ inr ((alike c).0 n.0, n.1) ],
    λ k. (h.twice c).1 (elim k [ inl o ↦ inl o | inr n ↦ inr ((alike c).1 n.0, n.1) ]),
  );
}

module _ (types : List TypeEntry) (vars : List VarEntry) (s : StoreMap) where
  module _ (places : List Place) where
    -- one place more
    pub below_step : (n : ℕ) (p : Place) → slice_get places n ≡ Some p → (c : CellId) →
        (IsNamedBelow types vars s places n c ⊎ NamesLive types vars s p c) ↔ IsNamedBelow types vars s places (n + 1) c
    below_step n p at c = (
      λ h. elim h [
        | inl old ↦ record { place = old.place; below = omega (arith, old.below); names = old.names }
        | inr new ↦ record { place = n; below = omega arith; names = subst (λ o. IsSomeAnd o (λ q. NamesLive types vars s q c)) (sym at) new }
      ],
      λ h. elim (cases_lt h.place n) [
        | inl less ↦ inl (record { place = h.place; below = less; names = h.names })
        | inr more ↦
            let here : h.place ≡ n = omega (arith, h.below) in
            inr (subst (λ o. IsSomeAnd o (λ q. NamesLive types vars s q c)) at (subst (λ k. NamesAt types vars s places k c) here h.names))
      ],
    )

    pub twice_step : (n : ℕ) (p : Place) → slice_get places n ≡ Some p → (c : CellId)
        → (IsNamedTwiceBelow types vars s places n c ⊎ (NamesLive types vars s p c × IsNamedBelow types vars s places n c)) ↔
        IsNamedTwiceBelow types vars s places (n + 1) c
    twice_step n p at c = (
      λ h. elim h [
        | inl old ↦ record { place = old.place; below = omega (arith, old.below); names = old.names; before = old.before }
        | inr new ↦ record { place = n; below = omega arith; names = subst (λ o. IsSomeAnd o (λ q. NamesLive types vars s q c)) (sym at) new.0; before = new.1 }
      ],
      λ h. elim (cases_lt h.place n) [
        | inl less ↦ inl (record { place = h.place; below = less; names = h.names; before = h.before })
        | inr more ↦
            let here : h.place ≡ n = omega (arith, h.below) in
            inr (
              subst (λ o. IsSomeAnd o (λ q. NamesLive types vars s q c)) at
                  (subst (λ k. NamesAt types vars s places k c) here h.names),
              subst (λ k. IsNamedBelow types vars s places k c) here h.before,
            )
      ],
    )

    -- the place at a number of the list, where it names the cell
    at_number : (k : ℕ) (c : CellId) → NamesAt types vars s places k c → (p : Place) × (slice_get places k ≡ Some p) × NamesLive types vars s p c
    at_number k c h = opened (slice_get places k) refl h
      where
        opened : (o : Option Place) → slice_get places k ≡ o → IsSomeAnd o (λ p. NamesLive types vars s p c) → (p : Place) ×
            (slice_get places k ≡ Some p) × NamesLive types vars s p c
        opened None is h = absurd h
        opened (Some p) is h = (p, is, h)

    -- the number of a place that names a live cell
    number_of : ArePlaces s places → (p : Place) (c : CellId) → IsLive s c → Names types vars s p c → (k : ℕ) × (slice_get places k ≡ Some p)
    number_of are p c live names = let m = are.complete p (Names-there types vars s p c names) in (m.0, slice_get-get_or places m.0 p m.1 ∙ ap Some m.2)

    named_at : (k : ℕ) (p : Place) (c : CellId) → IsLive s c → Names types vars s p c → slice_get places k ≡ Some p → NamesAt types vars s places k c
    named_at k p c live names at = subst (λ o. IsSomeAnd o (λ q. NamesLive types vars s q c)) (sym at) (record { live = live; names = names })

    two_of : (n i j : ℕ) (p q : Place) (c : CellId) → IsLive s c → Names types vars s p c → Names types vars s q c →
        slice_get places i ≡ Some p → slice_get places j ≡ Some q → i < j → length places ≤ n
        → IsNamedTwiceBelow types vars s places n c
    two_of n i j p q c live by_p by_q at_i at_j less all = record {
      place = j;
      below = let within = slice_get_within places j q at_j in omega arith;
      names = named_at j q c live by_q at_j;
      before = record { place = i; below = less; names = named_at i p c live by_p at_i };
    }

    same_place : (k : ℕ) (p q : Place) → slice_get places k ≡ Some p → slice_get places k ≡ Some q → p ≡ q
    same_place k p q at_p at_q = let both : Some p ≡ Some q = sym at_p ∙ at_q in cc

    -- named by two of all places is shared
    pub twice_all : ArePlaces s places → (n : ℕ) → length places ≤ n → (c : CellId) → IsNamedTwiceBelow types vars s places n c ↔ IsShared types vars s c
    twice_all are n all c = (forth, back)
      where
        forth : IsNamedTwiceBelow types vars s places n c → IsShared types vars s c
        forth h =
            let second = at_number h.place c h.names in
            let first = at_number h.before.place c h.before.names in
            record {
              live = second.2.live;
              one = first.0;
              other = second.0;
              apart = λ same. not_itself first.0
                  (subst (λ q. ComesBefore first.0 q) (sym same)
                  (subst (λ q. ComesBefore first.0 q) (get_or_from_slice_get places h.place second.0 first.0 second.1)
                  (subst (λ q. ComesBefore q (get_or places h.place first.0)) (get_or_from_slice_get places h.before.place first.0 first.0 first.1)
                  (are.in_order h.before.place h.place first.0 h.before.below (slice_get_within places h.place second.0 second.1)))));
              by_one = first.2.names;
              by_other = second.2.names;
            }

        back : IsShared types vars s c → IsNamedTwiceBelow types vars s places n c
        back h =
            let i = number_of are h.one c h.live h.by_one in
            let j = number_of are h.other c h.live h.by_other in
            elim (cases_order i.0 j.0) [
              | inl same ↦ absurd (h.apart (same_place j.0 h.one h.other (subst (λ k. slice_get places k ≡ Some h.one) same i.1) j.1))
              | inr (inl less) ↦ two_of n i.0 j.0 h.one h.other c h.live h.by_one h.by_other i.1 j.1 less all
              | inr (inr more) ↦ two_of n j.0 i.0 h.other h.one c h.live h.by_other h.by_one j.1 i.1 more all
            ]
