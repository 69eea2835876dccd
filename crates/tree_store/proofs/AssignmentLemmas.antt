-- The decoded store has the assignment.
use Rattle.std.proofs.Common.{◌≡◌, ◌↔◌, ◌⊎◌, ℕ, zero, suc, ◌+◌, ◌<◌, Bool, true, IsTrue, inl, inr, List, [], ◌∷◌, length, slice_get, Option, Some}
use Rattle.std.proofs.Common.{refl, sym, ap, ◌∙◌, subst, arith}
use Rattle.std.specs.Prelude.{unwrap_or}
use Rattle.std.proofs.lemmas.Bool.{ltb-true}
use Rattle.gta_theory.specs.Assignments.{Position, Assignment}
use Rattle.ws2s_core.specs.declared.track.Track.{Track}
use Rattle.store_core.specs.declared.ids.TypeId.{TypeId}
use Rattle.store_core.specs.declared.ids.VariantId.{VariantId}
use Rattle.store_core.specs.declared.ids.FieldId.{FieldId}
use Rattle.store_core.specs.declared.ids.VarId.{VarId}
use Rattle.store_core.specs.declared.ids.CellId.{CellId}
use Rattle.store_core.specs.declared.kind.FieldKind.{FieldKind}
use Rattle.store_core.specs.declared.kind.FieldKind.TheVariants as field
use Rattle.store_core.specs.declared.kind.VarKind.{VarKind}
use Rattle.store_core.specs.declared.kind.VarKind.TheVariants as var
use Rattle.store_core.specs.declared.value.Value.{Value}
use Rattle.store_core.specs.declared.value.Value.TheVariants as value
use Rattle.store_core.specs.Tables.{TypeEntry, VarEntry, field_at, var_at}
use Rattle.store_core.specs.Stores.{StoreMap, CellEntry, cell_of, field_value, var_value}
use Rattle.routing_walks.specs.Walks.{IsOfVariant}
use Rattle.tree_encode.specs.declared.counting.Counted.TheVariants.{Bools}
use Rattle.tree_encode.specs.Counting.{counts, is_counted}
use Rattle.tree_encode.specs.Tracks.{TrackUse, of_variant, of_bool, of_var, variant_track, bool_track, var_track, slot_of_var}
use Rattle.tree_encode.specs.Positions.{IsPlaced}
use Rattle.tree_encode.proofs.TracksLemmas.{cond-some, and_then-some}
use Rattle.tree_store.specs.Encoding.{track_of, NamesCell, IsOn, IsAssignmentOf}
use Rattle.tree_store.specs.Shapes.{variant_in, IsCellOf, HasCellsIn, VarLaysOut, LaysOut}
use Rattle.tree_store.specs.Decoded.{Standing, AreCells, numbered, first_where, is_on, field_in, cell_in, var_in, decoded}
use Rattle.tree_store.proofs.CellsLemmas.{one_place, IsFoundAt, first_found, first_alone, all_found, all_there}
use Rattle.tree_store.proofs.ValuesLemmas.{cell_here, value_here, here_value, var_here}
use Rattle.tree_store.proofs.DecodedLemmas.{some-entry, entry-some, var_lays, had_entry, one_standing, placed_at, standing_placed}

bool_kind : (kind : FieldKind) → counts Bools kind ≡ true → kind ≡ field.Bool
bool_kind field.Bool e = refl
bool_kind (field.Data ty) e = absurd (cc)
bool_kind (field.Pointer ty along) e = absurd (cc)

present : {X : Type 0} (xs : List X) (k : ℕ) → k < length xs → (x : X) × (slice_get xs k ≡ Some x)
present [] k less = absurd (omega arith)
present (x ∷ xs) zero less = (x, refl)
present (x ∷ xs) (suc k) less = present xs k (omega arith)

not_truth : (o : Option CellId) (b : Bool) → ◌≡◌ {A = Option Value} (Some (value.Cell o)) (Some (value.Bool b)) → ⊥
not_truth o b e = cc

no_truth : (cells : List CellId) (b : Bool) → ◌≡◌ {A = Option Value} (Some (value.Cells cells)) (Some (value.Bool b)) → ⊥
no_truth cells b e = cc

one_truth : (b c : Bool) → ◌≡◌ {A = Option Value} (Some (value.Bool b)) (Some (value.Bool c)) → b ≡ c
one_truth b c e = cc

module _ (types : List TypeEntry) (vars : List VarEntry) (a : Assignment) (cells : List Standing) (lays : LaysOut types vars a)
    (are : AreCells types a cells) where
  abbrev s : StoreMap
  s = decoded types vars a cells

  -- ---- variants

  variant_on : (v : VariantId) (t : Track) (p : Position) → variant_track types v ≡ Some t → IsTrue (a t.0 p) → IsOn types vars s (of_variant v) p
  variant_on v t p is on =
      let found = are.all v p (entry-some (λ (u : Track). IsTrue (a u.0 p)) (variant_track types v) t is on) in
      let x : Standing = record { variant = v; at = p } in
      inr (
        numbered (1 + found.0),
        standing_placed types vars a cells lays are found.0 x found.1,
        entry-some (λ (e : CellEntry). e.variant ≡ v) (cell_of s (numbered (1 + found.0))) (cell_in types a cells x)
            (cell_here types vars a cells found.0 x found.1) refl,
      )

  on_variant : (v : VariantId) (t : Track) (p : Position) → variant_track types v ≡ Some t → IsOn types vars s (of_variant v) p → IsTrue (a t.0 p)
  on_variant v t p is on = elim on [
    | inl root ↦ absurd root.1
    | inr cell ↦ by cell.0 cell.1 cell.2
  ]
    where
      by : (c : CellId) → IsPlaced types vars s c p → IsOfVariant s v c → IsTrue (a t.0 p)
      by c placed of =
          let h = placed_at types vars a cells lays are c p placed in
          let same : h.cell.variant ≡ v = some-entry (λ (e : CellEntry). e.variant ≡ v) (cell_of s c) (cell_in types a cells h.cell)
          (ap (cell_of s) h.number ∙ cell_here types vars a cells h.place h.cell h.at) of in
          subst (λ q. IsTrue (a t.0 q)) h.position
          (some-entry (λ (u : Track). IsTrue (a u.0 h.cell.at)) (variant_track types v) t is
          (subst (λ w. IsCellOf types a w h.cell.at) same (are.each h.place h.cell h.at)))

  -- ---- bool fields

  bool_on : (f : FieldId) (t : Track) (p : Position) → bool_track types f ≡ Some t → IsTrue (a t.0 p) → IsOn types vars s (of_bool f) p
  bool_on f t p is on =
      let has = lays.bools f p (entry-some (λ (u : Track). IsTrue (a u.0 p)) (bool_track types f) t is on) in
      let found = are.all (variant_in f.ty has.index) p has.here in
      let x : Standing = record { variant = variant_in f.ty has.index; at = p } in
      let (entry, there, tracked) = and_then-some _ (field_at types f) t is in
      let kind : entry.kind ≡ field.Bool = bool_kind entry.kind (cond-some (is_counted Bools entry) _ t tracked).0 in
      inr (
        numbered (1 + found.0),
        standing_placed types vars a cells lays are found.0 x found.1,
        value_here types vars a cells found.0 x f entry found.1 refl there (had_entry types vars a cells lays are has.index f has.has entry there)
            ∙ ap (λ k. Some (field_in types a cells p f k)) kind
            ∙ ap (λ o. Some (value.Bool (is_on a o p))) is
            ∙ ap (λ b. Some (value.Bool b)) on,
      )

  truth_of : (f : FieldId) (t : Track) (p : Position) (kind : FieldKind) → bool_track types f ≡ Some t → value.Bool true ≡ field_in types a cells p f kind
      → a t.0 p ≡ true
  truth_of f t p field.Bool is e =
      one_truth (a t.0 p) true (ap (λ o. Some (value.Bool (is_on a o p))) (sym is) ∙ ap Some (sym e))
  truth_of f t p (field.Data ty) is e = absurd (not_truth _ true (ap Some (sym e)))
  truth_of f t p (field.Pointer ty along) is e = absurd (not_truth _ true (ap Some (sym e)))

  on_bool : (f : FieldId) (t : Track) (p : Position) → bool_track types f ≡ Some t → IsOn types vars s (of_bool f) p → IsTrue (a t.0 p)
  on_bool f t p is on = elim on [
    | inl root ↦ absurd root.1
    | inr cell ↦ by cell.0 cell.1 cell.2
  ]
    where
      by : (c : CellId) → IsPlaced types vars s c p → field_value s c f ≡ Some (value.Bool true) → IsTrue (a t.0 p)
      by c placed held =
          let h = here_value types vars a cells c f (value.Bool true) held in
          let at = placed_at types vars a cells lays are c p placed in
          let same : h.cell ≡ at.cell = one_standing types vars a cells lays are h.place at.place h.cell at.cell h.at at.at (sym h.number ∙ at.number) in
          subst (λ q. IsTrue (a t.0 q)) (ap (λ (x : Standing). x.at) same ∙ at.position) (truth_of f t h.cell.at h.entry.kind is h.is)

  -- ---- variables

  -- a cell that is found is the one at the position
  found_on : (track : Option Track) (t : Track) (c : CellId) (p : Position) → track ≡ Some t → IsPlaced types vars s c p → IsFoundAt (is_on a track) 1
      cells c → IsTrue (a t.0 p)
  found_on track t c p is placed found =
      let at = placed_at types vars a cells lays are c p placed in
      let same : found.cell ≡ at.cell = one_standing types vars a cells lays are found.place at.place found.cell at.cell found.at at.at
      (sym (ap (λ (n : ℕ). record { 0 = n }) found.number) ∙ at.number) in
      subst (λ q. IsTrue (a t.0 q)) (ap (λ (x : Standing). x.at) same ∙ at.position) (subst (λ o. is_on a o found.cell.at ≡ true) is found.is)

  -- what is on the track, by the kind
  on_var : (track : Option Track) (t : Track) (p : Position) → track ≡ Some t → (kind : VarKind) →
      ((p ≡ []) × (Some (var_in a cells track kind) ≡ Some (value.Bool true)))
      ⊎ ((c : CellId) × IsPlaced types vars s c p × NamesCell (var_in a cells track kind) c) → IsTrue (a t.0 p)
  on_var track t p is var.Bool (inl root) = subst (λ q. IsTrue (a t.0 q)) (sym root.0) (subst (λ o. is_on a o [] ≡ true) is (one_truth _ true root.1))
  on_var track t p is var.Bool (inr cell) = absurd cell.2
  on_var track t p is var.LogicBool (inl root) = subst (λ q. IsTrue (a t.0 q)) (sym root.0) (subst (λ o. is_on a o [] ≡ true) is (one_truth _ true root.1))
  on_var track t p is var.LogicBool (inr cell) = absurd cell.2
  on_var track t p is (var.Data ty) (inl root) = absurd (not_truth _ true root.1)
  on_var track t p is (var.Data ty) (inr cell) = found_on track t cell.0 p is cell.1 (first_found (is_on a track) 1 cells cell.0 cell.2)
  on_var track t p is (var.Pointer ty) (inl root) = absurd (not_truth _ true root.1)
  on_var track t p is (var.Pointer ty) (inr cell) = found_on track t cell.0 p is cell.1 (first_found (is_on a track) 1 cells cell.0 cell.2)
  on_var track t p is (var.LogicSet ty) (inl root) = absurd (no_truth _ true root.1)
  on_var track t p is (var.LogicSet ty) (inr cell) = found_on track t cell.0 p is cell.1 (all_found (is_on a track) 1 cells cell.0 cell.2)

  -- the cell at a position of the track
  record OnTrack (track : Option Track) (p : Position) : Type 0 where
    place : ℕ
    cell : Standing
    at : slice_get cells place ≡ Some cell
    position : cell.at ≡ p
    is : is_on a track cell.at ≡ true

  on_track : (track : Option Track) (t : Track) (p : Position) (ty : TypeId) → track ≡ Some t → HasCellsIn types a ty t.0 → IsTrue (a t.0 p) → OnTrack track p
  on_track track t p ty is has on =
      let typed = has p on in
      let found = are.all (variant_in ty typed.index) p typed.here in
      record {
        place = found.0;
        cell = record { variant = variant_in ty typed.index; at = p };
        at = found.1;
        position = refl;
        is = subst (λ o. is_on a o p ≡ true) (sym is) on;
      }

  VarOn : Option Track → Position → VarKind → Type 0
  VarOn track p kind = ((p ≡ []) × (Some (var_in a cells track kind) ≡ Some (value.Bool true)))
      ⊎ ((c : CellId) × IsPlaced types vars s c p × NamesCell (var_in a cells track kind) c)

  the_cell : (track : Option Track) (t : Track) (p : Position) → track ≡ Some t → (h : OnTrack track p) → ((q : Position) → IsTrue (a t.0 q) → q ≡ p) →
      (c : CellId) × IsPlaced types vars s c p × (first_where (is_on a track) 1 cells ≡ Some c)
  the_cell track t p is h alone = (
    numbered (1 + h.place),
    subst (λ q. IsPlaced types vars s (numbered (1 + h.place)) q) h.position (standing_placed types vars a cells lays are h.place h.cell h.at),
    first_alone (is_on a track) 1 cells h.place h.cell h.at h.is (λ j y at_y on. one_place types a cells are j h.place y h.cell at_y h.at
        (alone y.at (subst (λ o. is_on a o y.at ≡ true) is on) ∙ sym h.position)),
  )

  var_on : (track : Option Track) (t : Track) (p : Position) → track ≡ Some t → (slot : ℕ) (kind : VarKind) → VarLaysOut types a slot t.0 kind → IsTrue
      (a t.0 p) →
      VarOn track p kind
  unfolding VarOn
  var_on track t p is slot var.Bool laid on =
      let root = laid p on in
      inl (root, ap (λ b. Some (value.Bool b)) (subst (λ o. is_on a o [] ≡ true) (sym is) (subst (λ q. a t.0 q ≡ true) root on)))
  var_on track t p is slot var.LogicBool laid on =
      let root = laid p on in
      inl (root, ap (λ b. Some (value.Bool b)) (subst (λ o. is_on a o [] ≡ true) (sym is) (subst (λ q. a t.0 q ≡ true) root on)))
  var_on track t p is slot (var.Data ty) laid on =
      inr (the_cell track t p is (on_track track t p ty is (λ q h. ((laid q).0 h).1) on) (λ q h. ((laid q).0 h).0 ∙ sym ((laid p).0 on).0))
  var_on track t p is slot (var.Pointer ty) laid on = inr (the_cell track t p is (on_track track t p ty is laid.0 on) (λ q h. laid.1 q p h on))
  var_on track t p is slot (var.LogicSet ty) laid on =
      let h = on_track track t p ty is laid on in
      inr (
        numbered (1 + h.place),
        subst (λ q. IsPlaced types vars s (numbered (1 + h.place)) q) h.position (standing_placed types vars a cells lays are h.place h.cell h.at),
        all_there (is_on a track) 1 cells h.place h.cell h.at h.is,
      )

  var_entry : (v : VarId) (t : Track) → var_track types vars v ≡ Some t → (entry : VarEntry) × (var_at vars v ≡ Some entry)
  var_entry v t is = present vars v.0 (ltb-true v.0 (length vars) (cond-some _ _ t is).0)

  -- in both forms
  as_on : (v : VarId) (p : Position) (entry : VarEntry) → var_at vars v ≡ Some entry → VarOn (var_track types vars v) p entry.kind → IsOn types vars s
      (of_var v) p
  unfolding VarOn
  as_on v p entry there h = elim h [
    | inl root ↦ inl (root.0, var_here types vars a cells v entry there ∙ root.1)
    | inr cell ↦ inr (cell.0, cell.1, entry-some (λ x. NamesCell x cell.0) (var_value s v) _ (var_here types vars a cells v entry there) cell.2)
  ]

  of_on : (v : VarId) (p : Position) (entry : VarEntry) → var_at vars v ≡ Some entry → IsOn types vars s (of_var v) p → VarOn (var_track types vars v) p
      entry.kind
  unfolding VarOn
  of_on v p entry there h = elim h [
    | inl root ↦ inl (root.0, sym (var_here types vars a cells v entry there) ∙ root.1)
    | inr cell ↦ inr (cell.0, cell.1, some-entry (λ x. NamesCell x cell.0) (var_value s v) _ (var_here types vars a cells v entry there) cell.2)
  ]

  pub IsAssignmentOf-decoded : IsAssignmentOf types vars s a
  unfolding VarOn
  IsAssignmentOf-decoded = record { tracks = by }
    where
      by : (what : TrackUse) (t : Track) (p : Position) → track_of types vars what ≡ Some t → IsTrue (a t.0 p) ↔ IsOn types vars s what p
      by (of_variant v) t p is = (variant_on v t p is, on_variant v t p is)
      by (of_bool f) t p is = (bool_on f t p is, on_bool f t p is)
      by (of_var v) t p is =
          let (entry, there) = var_entry v t is in (
            λ on. as_on v p entry there (var_on (var_track types vars v) t p is (unwrap_or (slot_of_var vars v) 0) entry.kind
                (var_lays types vars a cells lays are v entry t there is) on),
            λ on. on_var (var_track types vars v) t p is entry.kind (of_on v p entry there on),
          )
