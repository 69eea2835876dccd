-- Cells with two destinations, told by lists of destinations, and the first of them.
use Rattle.std.proofs.Common.{◌≡◌, inl, inr, ◌↔◌, ◌<◌, ◌≤◌, ◌+◌, ℕ, Bool, true, false, IsTrue, List, [], ◌∷◌, length, slice_get, Option, Some, None, IsSome}
use Rattle.std.proofs.Common.{IsSomeAnd}
use Rattle.std.proofs.Common.{refl, sym, ap, ◌∙◌, subst, arith}
use Rattle.std.specs.Prelude.{option_map}
use Rattle.std.specs.Bool.{OnTrue, OnFalse}
use Rattle.std.specs.FinMap.{keys}
use Rattle.std.proofs.lemmas.Bool.{cases_lt, false≢true}
use Rattle.std.proofs.lemmas.Option.{same_Some, slice_get_within}
use Rattle.store_core.specs.declared.ids.TypeId.{TypeId}
use Rattle.store_core.specs.declared.ids.FieldId.{FieldId}
use Rattle.store_core.specs.declared.ids.CellId.{CellId}
use Rattle.store_core.specs.declared.kind.FieldKind.{FieldKind}
use Rattle.store_core.specs.declared.kind.FieldKind.TheVariants as field
use Rattle.store_core.specs.declared.kind.Route.{Route}
use Rattle.store_core.specs.Tables.{TypeEntry, FieldEntry, field_at}
use Rattle.store_core.specs.Stores.{StoreMap, field_value}
use Rattle.routing_walks.specs.Destinations.{EndsWalk, EndsKind, Dest}
use Rattle.routing_walks.specs.WellFormed.{IsFirstCell}
use Rattle.routing_walks.specs.Sets.{Lists}
use Rattle.routing_walks.proofs.GatheringLemmas.{below_suc, Contains-at, Contains-none, Contains-one}
use Rattle.routing_walks.proofs.KeyLemmas.{keys-rise, key_of_live}
use Rattle.graph_meaning.specs.Fields.Forking.{Forks, HasFork}
use Rattle.graph_meaning.proofs.fields.ForkingLemmas.{live-with}
use Rattle.witness_store.specs.Only.{HasTwo}

-- ---- two cells of a list

listed-two : (P : CellId → Type 0) (cells : List CellId) → Lists P cells → 1 < length cells → HasTwo P
listed-two P [] listed many = absurd (omega arith)
listed-two P (c ∷ []) listed many = absurd (omega arith)
listed-two P (c ∷ d ∷ cells) listed many =
    let below = listed.rising.0.0 in
    record {
      one = c;
      other = d;
      apart = λ same. let numbers : c.0 ≡ d.0 = ap (λ (x : CellId). x.0) same in absurd (omega arith);
      one_is = (listed.members c).0 (Contains-at (c ∷ d ∷ cells) 0 c refl);
      other_is = (listed.members d).0 (Contains-at (c ∷ d ∷ cells) 1 d refl);
    }

two-listed : (P : CellId → Type 0) (cells : List CellId) → Lists P cells → HasTwo P → 1 < length cells
two-listed P [] listed two = absurd (Contains-none two.one ((listed.members two.one).1 two.one_is))
two-listed P (c ∷ []) listed two =
    absurd (two.apart (Contains-one c two.one ((listed.members two.one).1 two.one_is) ∙ sym
    (Contains-one c two.other ((listed.members two.other).1 two.other_is))))
two-listed P (c ∷ d ∷ cells) listed two = omega arith

-- ---- a cell with a field

module _ (types : List TypeEntry) (s : StoreMap) (f : FieldId) (c : CellId) where
  -- the field has no destination where it is no pointer field
  no-route : (kind : FieldKind) → ((target : TypeId) (along : Route) → kind ≡ field.Pointer target along → ⊥) → (d : CellId) → EndsKind types s kind c d → ⊥
  no-route field.Bool other d ends = ends
  no-route (field.Data target) other d ends = ends
  no-route (field.Pointer target along) other d ends = other target along refl

  pub no-fork_of_kind : ((target : TypeId) (along : Route) →
      Some (field.Pointer target along) ≡ option_map (λ (entry : FieldEntry). entry.kind) (field_at types f) → ⊥) → Forks types s f c → ⊥
  no-fork_of_kind other fork = by (field_at types f) other fork.to_one
    where
      by : (e : Option FieldEntry) → ((target : TypeId) (along : Route) → Some (field.Pointer target along) ≡ option_map
          (λ (entry : FieldEntry). entry.kind) e → ⊥) →
          IsSomeAnd e (λ entry. EndsKind types s entry.kind c fork.one) → ⊥
      by None other ends = ends
      by (Some entry) other ends = no-route entry.kind (λ target along is. other target along (ap (λ k. Some k) (sym is))) fork.one ends

  pub no-fork_without : IsSome (field_value s c f) ≡ (false ≡ true) → Forks types s f c → ⊥
  no-fork_without none fork = false≢true (subst (λ (X : Type 0). X) none fork.has)

  module _ (target : TypeId) (along : Route) (kind : FieldKind) (at : Some kind ≡ option_map (λ (entry : FieldEntry). entry.kind) (field_at types f))
      (is : kind ≡ field.Pointer target along) where
    this : IsSomeAnd (field_at types f) (λ entry. entry.kind ≡ field.Pointer target along)
    this = by (field_at types f) at
      where
        by : (e : Option FieldEntry) → Some kind ≡ option_map (λ (entry : FieldEntry). entry.kind) e → IsSomeAnd e
            (λ entry. entry.kind ≡ field.Pointer target along)
        by None at = absurd (cc)
        by (Some entry) at = sym (same_Some kind entry.kind at) ∙ is

    to-dest : (d : CellId) → EndsWalk types s along target c d → Dest types s c f d
    to-dest d h = by (field_at types f) this
      where
        by : (e : Option FieldEntry) → IsSomeAnd e (λ entry. entry.kind ≡ field.Pointer target along) → IsSomeAnd e (λ entry. EndsKind types s entry.kind c d)
        by None k = k
        by (Some entry) k = subst (λ x. EndsKind types s x c d) (sym k) h

    from-dest : (d : CellId) → Dest types s c f d → EndsWalk types s along target c d
    from-dest d dest = by (field_at types f) this dest
      where
        by : (e : Option FieldEntry) → IsSomeAnd e (λ entry. entry.kind ≡ field.Pointer target along) →
            IsSomeAnd e (λ entry. EndsKind types s entry.kind c d) → EndsWalk types s along target c d
        by None k h = absurd k
        by (Some entry) k h = subst (λ x. EndsKind types s x c d) k h

    module _ (has : IsSome (field_value s c f)) (cells : List CellId) (listed : Lists (EndsWalk types s along target c) cells) where
      forks-there : 1 < length cells → Forks types s f c
      forks-there many =
          let two = listed-two (EndsWalk types s along target c) cells listed many in
          record {
            has = has;
            one = two.one;
            other = two.other;
            apart = two.apart;
            to_one = to-dest two.one two.one_is;
            to_other = to-dest two.other two.other_is;
          }

      there-forks : Forks types s f c → 1 < length cells
      there-forks fork = two-listed (EndsWalk types s along target c) cells listed (record {
        one = fork.one;
        other = fork.other;
        apart = fork.apart;
        one_is = from-dest fork.one fork.to_one;
        other_is = from-dest fork.other fork.to_other;
      })

      pub forks-told : (b : Bool) → (IsTrue b ↔ (1 < length cells)) → OnTrue b (Forks types s f c)
      forks-told true several = forks-there (several.0 refl)
      forks-told false several = tt

      pub none-told : (b : Bool) → (IsTrue b ↔ (1 < length cells)) → OnFalse b (Forks types s f c → ⊥)
      none-told true several = tt
      none-told false several = λ fork. false≢true (several.1 (there-forks fork))

-- ---- one cell after the other

module _ (types : List TypeEntry) (s : StoreMap) (f : FieldId) where
  -- none of the cells at the first places has two
  abbrev pub NoneBefore : ℕ → Type 0
  NoneBefore n = (k : ℕ) (d : CellId) → k < n → slice_get (keys s.cells) k ≡ Some d.0 → Forks types s f d → ⊥

  pub none-start : NoneBefore 0
  none-start k d below at fork = absurd (omega arith)

  numbered-same : (k : ℕ) (c d : CellId) → slice_get (keys s.cells) k ≡ Some c.0 → slice_get (keys s.cells) k ≡ Some d.0 → d ≡ c
  numbered-same k c d at_c at_d = let same : d.0 ≡ c.0 = same_Some d.0 c.0 (sym at_d ∙ at_c) in λ i. record { 0 = same i }

  pub none-next : (n : ℕ) (c : CellId) → slice_get (keys s.cells) n ≡ Some c.0 → (Forks types s f c → ⊥) → NoneBefore n → NoneBefore (n + 1)
  none-next n c at none before k d below at_d fork = elim (below_suc k n below) [
    | inl less ↦ before k d less at_d fork
    | inr same ↦ none (subst (λ e. Forks types s f e) (numbered-same n c d at (subst (λ i. slice_get (keys s.cells) i ≡ Some d.0) same at_d)) fork)
  ]

  place-of : (d : CellId) → Forks types s f d → (j : ℕ) × (slice_get (keys s.cells) j ≡ Some d.0)
  place-of d fork = key_of_live s d (live-with s d f fork.has)

  pub first-found : (n : ℕ) (c : CellId) → slice_get (keys s.cells) n ≡ Some c.0 → NoneBefore n → Forks types s f c → IsFirstCell (Forks types s f) c
  first-found n c at before fork = record {
    here = fork;
    before = λ d less other.
        let place = place-of d other in
        elim (cases_lt place.0 n) [
          | inl below ↦ before place.0 d below place.1 other
          | inr above ↦ elim (cases_lt n place.0) [
            | inl after ↦ let more : c.0 < d.0 = keys-rise s n place.0 c.0 d.0 after at place.1 in absurd (omega arith)
            | inr under ↦
                let same : place.0 ≡ n = omega arith in
                let numbers : c.0 ≡ d.0 = same_Some c.0 d.0 (sym at ∙ subst (λ i. slice_get (keys s.cells) i ≡ Some d.0) same place.1) in
                absurd (omega arith)
          ]
        ];
  }

  pub none-found : (n : ℕ) → length (keys s.cells) ≤ n → NoneBefore n → HasFork types s f → ⊥
  none-found n enough before (c, fork) =
      let place = place-of c fork in
      let inside = slice_get_within (keys s.cells) place.0 c.0 place.1 in
      before place.0 c (omega arith) place.1 fork

-- the cell at a place
pub cell-number : (s : StoreMap) (n : ℕ) (c : CellId) → Some c ≡ option_map (λ number. record { 0 = number }) (slice_get (keys s.cells) n) →
    slice_get (keys s.cells) n ≡ Some c.0
cell-number s n c is = by (slice_get (keys s.cells) n) is
  where
    numbered : ℕ → CellId
    numbered k = record { 0 = k }

    by : (o : Option ℕ) → Some c ≡ option_map (λ number. record { 0 = number }) o → o ≡ Some c.0
    by None e = absurd (cc)
    by (Some k) e = ap (λ (d : CellId). Some d.0) (sym (same_Some c (record { 0 = k }) e))
