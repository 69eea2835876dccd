-- A backbone's assignment, from the list of its cells with their positions.
use Rattle.std.proofs.Common.{◌≡◌, ◌↔◌, ℕ, suc, ◌+◌, ◌<◌, Bool, true, false, IsTrue, List, [], ◌∷◌, length, slice_get, Option, Some, None}
use Rattle.std.proofs.Common.{IsSomeAnd, inl, inr, refl, sym, ap, ◌∙◌, subst, arith}
use Rattle.std.proofs.lemmas.Bool.{false≢true}
use Rattle.gta_theory.specs.Assignments.{Position, Assignment, Covers, is_same_position}
use Rattle.gta_theory.proofs.ListsLemmas.{Contains-cases, Contains-none}
use Rattle.ws2s_core.proofs.ExamplesLemmas.{same_position-true, same_position-refl}
use Rattle.ws2s_theory.proofs.SetsLemmas.{not_so}
use Rattle.store_core.specs.declared.ids.CellId.{CellId}
use Rattle.store_core.specs.declared.ids.TypeId.{TypeId}
use Rattle.store_core.specs.declared.ids.VariantId.{VariantId}
use Rattle.store_core.specs.declared.value.Value.{Value}
use Rattle.store_core.specs.declared.value.Value.TheVariants as value
use Rattle.store_core.specs.Tables.{TypeEntry, VarEntry}
use Rattle.store_core.specs.Stores.{StoreMap, cell_of, field_value, var_value}
use Rattle.store_core.proofs.FittingLemmas.{IsSomeAnd-at}
use Rattle.routing_walks.specs.WellFormed.{IsBackbone}
use Rattle.routing_walks.specs.Deciding.{Decided}
use Rattle.routing_walks.proofs.DecidedLemmas.{decided_as, decided_both, decided_either, decided_number, decided_truth, decided_some}
use Rattle.routing_walks.proofs.DecidedLemmas.{decided_in, decided_one_of}
use Rattle.routing_walks.proofs.DecidedWalks.{decided_same_cell}
use Rattle.tree_encode.specs.Tracks.{TrackUse, of_variant, of_bool, of_var, tracks_of}
use Rattle.tree_encode.specs.Positions.{IsPlaced}
use Rattle.tree_store.specs.Encoding.{NamesCell, CellIsOn, RootIsOn, IsOn, IsAssignmentOf}
use Rattle.tree_store.proofs.EncodingLemmas.{track-place}
use Rattle.tree_store.proofs.SpotsLemmas.{of-some}
use Rattle.graph_view.specs.After.{Standing, IsAt, AreStanding}
use Rattle.graph_meaning.proofs.fields.StandingLemmas.{standing}

-- ---- what is decided of values and positions

decided_type : (c d : TypeId) → Decided (c ≡ d)
decided_type c d = decided_as (λ e. ap (λ (n : ℕ). record { 0 = n }) e) (λ e. ap (λ (x : TypeId). x.0) e) (decided_number c.0 d.0)

decided_variant : (v w : VariantId) → Decided (v ≡ w)
decided_variant v w = decided_as
    (λ h. ap (λ (t : TypeId). record { ty = t; index = v.index }) h.0 ∙ ap (λ (n : ℕ). record { ty = w.ty; index = n }) h.1)
    (λ e. (ap (λ (x : VariantId). x.ty) e, ap (λ (x : VariantId). x.index) e))
    (decided_both (decided_type v.ty w.ty) (decided_number v.index w.index))

decided_true : (o : Option Value) → Decided (o ≡ Some (value.Bool true))
decided_true None = inr (λ e. cc)
decided_true (Some (value.Bool b)) = decided_as (λ e. ap (λ x. Some (value.Bool x)) e) (λ e. cc) (decided_truth b true)
decided_true (Some (value.Cell c)) = inr (λ e. cc)
decided_true (Some (value.Cells cells)) = inr (λ e. cc)

decided_cell : (o : Option CellId) (c : CellId) → Decided (o ≡ Some c)
decided_cell None c = inr (λ e. cc)
decided_cell (Some d) c = decided_as (λ e. ap (λ x. Some x) e) (λ e. cc) (decided_same_cell d c)

decided_names : (x : Value) (c : CellId) → Decided (NamesCell x c)
decided_names (value.Bool b) c = inr (λ h. h)
decided_names (value.Cell d) c = decided_cell d c
decided_names (value.Cells cells) c = decided_in decided_same_cell cells c

decided_position : (p q : Position) → Decided (p ≡ q)
decided_position p q = by (is_same_position p q) refl
  where
    by : (b : Bool) → is_same_position p q ≡ b → Decided (p ≡ q)
    by true is = inl (same_position-true p q is)
    by false is = inr (λ e. false≢true (sym is ∙ ap (λ r. is_same_position p r) (sym e) ∙ same_position-refl p))

-- ---- the test of what is decided

abbrev test : {P : Type 0} → Decided P → Bool
test (inl h) = true
test (inr never) = false

test-is : {P : Type 0} (d : Decided P) → IsTrue (test d) ↔ P
test-is (inl h) = ((λ _. h), (λ _. refl))
test-is (inr never) = ((λ e. absurd (false≢true e)), (λ h. absurd (never h)))

-- ---- a length above those of all positions

abbrev depth_of : Standing → ℕ
depth_of [] = 1
depth_of (x ∷ at) = suc (length x.1) + depth_of at

not_none : (at : Standing) → 0 < depth_of at
not_none [] = omega arith
not_none (x ∷ at) = omega arith

deeper : (at : Standing) (c : CellId) (p : Position) → IsAt at c p → length p < depth_of at
deeper [] c p here = absurd (Contains-none (c, p) here)
deeper (x ∷ at) c p here = elim (Contains-cases x (c, p) at here) as (λ _. length p < suc (length x.1) + depth_of at) [
  | inl same ↦ (let e : length x.1 ≡ length p = ap (λ (y : CellId × Position). length y.1) same in omega (arith, e))
  | inr old ↦ (let less = deeper at c p old in omega (arith, less))
]

-- ---- the assignment

module _ (types : List TypeEntry) (vars : List VarEntry) (s : StoreMap) (at : Standing) (stand : AreStanding types vars s at) where
  decided_cell_on : (what : TrackUse) (c : CellId) → Decided (CellIsOn s what c)
  decided_cell_on (of_variant v) c = decided_some (cell_of s c) (λ e. e.variant ≡ v) (λ e. decided_variant e.variant v)
  decided_cell_on (of_bool f) c = decided_true (field_value s c f)
  decided_cell_on (of_var v) c = decided_some (var_value s v) (λ x. NamesCell x c) (λ x. decided_names x c)

  decided_root_on : (what : TrackUse) → Decided (RootIsOn s what)
  decided_root_on (of_variant v) = inr (λ h. h)
  decided_root_on (of_bool f) = inr (λ h. h)
  decided_root_on (of_var v) = decided_true (var_value s v)

  decided_placed : (what : TrackUse) (p : Position) → Decided ((c : CellId) × IsPlaced types vars s c p × CellIsOn s what c)
  decided_placed what p = decided_as
      (λ h. (h.0.0, (stand h.0.0 p).0 (subst (λ q. IsAt at h.0.0 q) h.2.0 h.1), h.2.1))
      (λ h. ((h.0, p), (stand h.0 p).1 h.1, (refl, h.2)))
      (decided_one_of (λ (x : CellId × Position). (x.1 ≡ p) × CellIsOn s what x.0)
      (λ x. decided_both (decided_position x.1 p) (decided_cell_on what x.0)) at)

  decided_on : (what : TrackUse) (p : Position) → Decided (IsOn types vars s what p)
  decided_on what p = decided_either (decided_both (decided_position p []) (decided_root_on what)) (decided_placed what p)

  -- the position is on the track with this number
  abbrev IsOnNumber : ℕ → Position → Type 0
  IsOnNumber t p = IsSomeAnd (slice_get (tracks_of types vars) t) (λ what. IsOn types vars s what p)

  decided_number_on : (t : ℕ) (p : Position) → Decided (IsOnNumber t p)
  decided_number_on t p = decided_some (slice_get (tracks_of types vars) t) (λ what. IsOn types vars s what p) (λ what. decided_on what p)

  abbrev told : Assignment
  told = λ t p. test (decided_number_on t p)

  on-short : (what : TrackUse) (p : Position) → IsOn types vars s what p → length p < depth_of at
  on-short what p (inl root) = subst (λ (q : Position). length q < depth_of at) (sym root.0) (not_none at)
  on-short what p (inr cell) = deeper at cell.0 p ((stand cell.0 p).1 cell.1)

  told-covered : Covers (depth_of at) told
  told-covered t p far = not_so (told t p) (λ h.
      let (what, is, on) = IsSomeAnd-at (slice_get (tracks_of types vars) t) (λ what. IsOn types vars s what p) ((test-is (decided_number_on t p)).0 h) in
      let short = on-short what p on in
      omega (arith, far, short))

  told-is : IsAssignmentOf types vars s told
  told-is = record {
    tracks = λ what t p is.
        let place = track-place types vars what t is in
        let means = test-is (decided_number_on t.0 p) in (
          (λ h.
              let (own, found, on) = IsSomeAnd-at (slice_get (tracks_of types vars) t.0) (λ w. IsOn types vars s w p) (means.0 h) in
              let both : Some own ≡ Some what = sym found ∙ place in
              let same : own ≡ what = cc in
              subst (λ w. IsOn types vars s w p) same on),
          (λ on. means.1 (of-some (λ w. IsOn types vars s w p) (slice_get (tracks_of types vars) t.0) what place on)),
        );
  }

pub assignment : (types : List TypeEntry) (vars : List VarEntry) (s : StoreMap) → IsBackbone types vars s →
    (depth : ℕ) × (a : Assignment) × Covers depth a × IsAssignmentOf types vars s a
assignment types vars s backbone =
    let (at, stand) = standing types vars s backbone in
    (depth_of at, told types vars s at stand, told-covered types vars s at stand, told-is types vars s at stand)
