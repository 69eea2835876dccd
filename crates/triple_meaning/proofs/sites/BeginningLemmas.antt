-- Where the walk over a triple's code begins: the store of the tree.
use Rattle.std.proofs.Common.{◌≡◌, ℕ, zero, suc, ◌+◌, ◌<◌, ◌≤◌, Bool, true, cond, List, [], ◌∷◌, take, slice_get, unwrap_or, Some, inl, inr, refl, sym, ap, ◌∙◌}
use Rattle.std.proofs.Common.{arith}
use Rattle.std.specs.Prelude.{count_by}
use Rattle.std.proofs.lemmas.List.Sums.{sum_by-cons}
use Rattle.gta_theory.specs.Assignments.{Assignment}
use Rattle.ws2s_forms.specs.Places.{slot_of}
use Rattle.store_core.specs.declared.ids.CellId.{CellId}
use Rattle.store_core.specs.declared.ids.TypeId.{TypeId}
use Rattle.store_core.specs.declared.kind.VarKind.{VarKind}
use Rattle.store_core.specs.declared.kind.VarKind.TheVariants as var
use Rattle.store_core.specs.Tables.{TypeEntry, VarEntry, var_at}
use Rattle.store_core.specs.Stores.{StoreMap}
use Rattle.store_core.proofs.FittingLemmas.{IsSomeAnd-at}
use Rattle.routing_walks.specs.WellFormed.{IsDataVar}
use Rattle.routing_walks.proofs.FreshLemmas.{IsFresh-well_formed}
use Rattle.tree_encode.specs.Counting.{is_data_kind, is_data_var}
use Rattle.tree_encode.specs.Tracks.{track_count, slot_of_var, child_number}
use Rattle.tree_encode.specs.Positions.{below, IsPlaced}
use Rattle.tree_encode.proofs.PositionsLemmas.{slotted}
use Rattle.tree_store.proofs.WordsLemmas.{slots-apart, slot-ends, slot-not_child}
use Rattle.tree_store.proofs.StoresLemmas.{last-step, below-last, below-ends}
use Rattle.graph_view.specs.Sights.{var_slots}
use Rattle.graph_view.specs.After.{Standing, IsAt, AreStanding}
use Rattle.graph_meaning.proofs.fields.BeginningLemmas.{first-shows_well}
use Rattle.graph_meaning.proofs.fields.StandingLemmas.{standing-sits}
use Rattle.site_list.specs.Triples.{at_start}
use Rattle.triple_meaning.specs.Sites.Seeing.{IsOver, Sees}
use Rattle.triple_meaning.proofs.sites.LookingLemmas.{layout_of}

-- ---- slots behind those of data variables are empty

counted-within : {X : Type 0} (p : X → Bool) (xs : List X) (i : ℕ) (x : X) → slice_get xs i ≡ Some x → p x ≡ true → count_by p (take i xs) < count_by p xs
counted-within p [] i x at is = absurd (cc)
counted-within p (z ∷ xs) zero x at is =
    let same : x ≡ z = cc in
    let counted : ◌≡◌ {A = ℕ} (cond (p z) 1 0) 1 = ap (λ b. cond b 1 0) (ap (λ u. p u) (sym same) ∙ is) in
    let sum : count_by p (z ∷ xs) ≡ cond (p z) 1 0 + count_by p xs = sum_by-cons (λ u. cond (p u) 1 0) z xs in
    omega (arith, counted, sum)
counted-within p (z ∷ xs) (suc i) x at is =
    let sum : count_by p (z ∷ take i xs) ≡ cond (p z) 1 0 + count_by p (take i xs) = sum_by-cons (λ u. cond (p u) 1 0) z (take i xs) in
    let more : count_by p (z ∷ xs) ≡ cond (p z) 1 0 + count_by p xs = sum_by-cons (λ u. cond (p u) 1 0) z xs in
    omega (arith, sum, more, counted-within p xs i x at is)

data-kind : (kind : VarKind) → IsDataVar kind → (ty : TypeId) × (kind ≡ var.Data ty)
data-kind var.Bool h = absurd h
data-kind (var.Data ty) h = (ty, refl)
data-kind (var.Pointer ty) h = absurd h
data-kind (var.LogicSet ty) h = absurd h
data-kind var.LogicBool h = absurd h

pub first-spare : (types : List TypeEntry) (vars : List VarEntry) (s : StoreMap) (at : Standing) → AreStanding types vars s at → (k : ℕ) (c : CellId) →
    IsAt at c (slot_of (var_slots vars + k)) → ⊥
first-spare types vars s at stand k c here =
    let placed : IsPlaced types vars s c (slot_of (var_slots vars + k)) = (stand c (slot_of (var_slots vars + k))).0 here in
    let (entry, there, is_data) = IsSomeAnd-at (var_at vars placed.var) (λ (e : VarEntry). IsDataVar e.kind) placed.at.named.place in
    let (ty, kind) = data-kind entry.kind is_data in
    let within : count_by is_data_var (take (placed.var).0 vars) < count_by is_data_var vars =
    counted-within is_data_var vars (placed.var).0 entry there (ap is_data_kind kind) in
    let number = slotted vars placed.var entry ty there kind in
    let n : ℕ = unwrap_or (slot_of_var vars placed.var) 0 in
    let is_n : n ≡ count_by is_data_var (take (placed.var).0 vars) = ap (λ o. unwrap_or o 0) number in
    elim (last-step types s placed.fields placed.at.root c placed.at.along) as (λ _. ⊥) [
      | inl none ↦ (
          let same = slots-apart (var_slots vars + k) n (placed.position ∙ ap (λ l. below types (slot_of n) l) none.0) in
          let impossible : ⊥ = omega (arith, same, is_n, within) in impossible)
      | inr more ↦ slot-not_child (var_slots vars + k) (unwrap_or (child_number types more.last) 0) (below types (slot_of n) more.before)
          (below-ends types (slot_of n) more.before (slot-ends n))
          (placed.position ∙ ap (λ l. below types (slot_of n) l) more.is ∙ below-last types (slot_of n) more.before more.last)
    ]

-- ---- the first state

pub begins : (types : List TypeEntry) (vars : List VarEntry) (a : Assignment) (first : StoreMap) (next : ℕ) → IsOver types vars a first →
    track_count types vars ≤ next → (at : Standing) × Sees types vars next a first (at_start types vars) first at
begins types vars a first next over few =
    let (at, stand, sits) = standing-sits types vars first over.well.backbone over.well.fits in
    let shows = first-shows_well (layout_of types vars) first a at next over.table over.well over.tree stand few in (
      at,
      record {
        over = over;
        below = record { made = omega (arith, few); guard = tt; values = shows.shows.free.vars; events = tt };
        guarded = tt;
        seen = shows.shows.seen;
        fresh = (IsFresh-well_formed types vars first over.well).1;
        spare = λ k above c here. first-spare types vars first at stand k c here;
      },
    )
