-- Two stores of one assignment: cells at one position are of one variant and lead to cells at one position.
use Rattle.std.proofs.Common.{◌≡◌, ◌⊎◌, ℕ, zero, suc, Bool, true, false, cond, inl, inr, List, [], ◌∷◌, ◌++◌, slice_get, unwrap_or, ◌+◌, take, eq-eqb, Option}
use Rattle.std.proofs.Common.{Some, None, IsSomeAnd, refl, sym, ap, ◌∙◌, subst}
use Rattle.std.specs.Option.{option_and_then}
use Rattle.std.proofs.lemmas.Option.{same_Some}
use Rattle.gta_theory.specs.Assignments.{Position, Assignment}
use Rattle.ws2s_forms.specs.Places.{child_of, slot_of}
use Rattle.store_core.specs.declared.ids.TypeId.{TypeId}
use Rattle.store_core.specs.declared.ids.VariantId.{VariantId}
use Rattle.store_core.specs.declared.ids.FieldId.{FieldId}
use Rattle.store_core.specs.declared.ids.CellId.{CellId}
use Rattle.store_core.specs.declared.kind.FieldKind.{FieldKind}
use Rattle.store_core.specs.declared.kind.FieldKind.TheVariants as field
use Rattle.store_core.specs.declared.value.Value.{Value}
use Rattle.store_core.specs.declared.value.Value.TheVariants as value
use Rattle.store_core.specs.Tables.{TypeEntry, FieldEntry, VarEntry, fields_of, field_at, is_had}
use Rattle.store_core.specs.Stores.{StoreMap, CellEntry, IsLive, Fits, CellFits, SlotsFit, FieldFits, cell_of, field_of, field_value}
use Rattle.store_core.proofs.FittingLemmas.{IfSome-at, IsSomeAnd-at, slot_at_value}
use Rattle.routing_walks.specs.Walks.{DataAlone, IsFollowed, Leads}
use Rattle.routing_walks.specs.WellFormed.{IsBackbone}
use Rattle.routing_walks.specs.Paths.{LeadsAlong}
use Rattle.witness_store.proofs.KeptLemmas.{known}
use Rattle.tree_encode.specs.declared.counting.Counted.TheVariants.{Bools}
use Rattle.tree_encode.specs.Counting.{counts, is_counted, rank, variants_in, bools_in}
use Rattle.tree_encode.specs.Tracks.{of_bool, track_at, bool_track, slot_of_var, child_number}
use Rattle.tree_encode.specs.Positions.{below, IsPlaced}
use Rattle.tree_encode.proofs.ApartLemmas.{placed-apart, one-position}
use Rattle.tree_encode.proofs.PositionsLemmas.{data_field, numbered, own_type}
use Rattle.tree_store.specs.Encoding.{IsAssignmentOf}
use Rattle.tree_store.specs.Shapes.{LaysOut}
use Rattle.tree_store.specs.Premises.{SetsHoldLive}
use Rattle.tree_store.proofs.HoldersLemmas.{backbone-lays}
use Rattle.tree_store.proofs.MarksLemmas.{one-variant}
use Rattle.tree_store.proofs.StoresLemmas.{HasLastStep, last-step, below-last, below-ends, placed-live, cell-marked, marked-cell}
use Rattle.tree_store.proofs.WordsLemmas.{EndsInZero, slot-ends, slot-not_child, children-apart}
use Rattle.tree_store.proofs.DecodedLemmas.{field_one}
use Rattle.witness_store.specs.Alike.{StandAlike}

-- ---- paths

along_step : (types : List TypeEntry) (s : StoreMap) (fields : List FieldId) (f : FieldId) (b c d : CellId) → LeadsAlong types s fields b c →
    Leads types s DataAlone f c d → LeadsAlong types s (fields ++ f ∷ []) b d
along_step types s [] f b c d path leads = (d, subst (λ x. Leads types s DataAlone f x d) (sym path.0) leads, (refl, leads.live))
along_step types s (g ∷ fields) f b c d (next, first, rest) leads = (next, first, along_step types s fields f next c d rest leads)

-- ---- slots

slot_had : (s : StoreMap) (index : ℕ) (fs : List FieldEntry) (xs : List (Option Value)) (i : ℕ) (entry : FieldEntry) → SlotsFit s index fs xs →
    slice_get fs i ≡ Some entry → is_had index entry ≡ true → (x : Value) × (option_and_then (λ (v : Option Value). v) (slice_get xs i) ≡ Some x)
slot_had s index [] [] i entry fit at had = absurd (cc)
slot_had s index [] (x ∷ xs) i entry fit at had = absurd fit
slot_had s index (f ∷ fs) [] i entry fit at had = absurd fit
slot_had s index (f ∷ fs) (None ∷ xs) zero entry fit at had = absurd (lost (sym fit.0 ∙ ap (is_had index) (same_Some f entry at) ∙ had))
  where
    lost : false ≡ true → ⊥
    lost e = cc
slot_had s index (f ∷ fs) (Some x ∷ xs) zero entry fit at had = (x, refl)
slot_had s index (f ∷ fs) (x ∷ xs) (suc i) entry fit at had = slot_had s index fs xs i entry fit.1 at had

had_slot : (s : StoreMap) (index : ℕ) (fs : List FieldEntry) (xs : List (Option Value)) (i : ℕ) (x : Value) → SlotsFit s index fs xs →
    option_and_then (λ (v : Option Value). v) (slice_get xs i) ≡ Some x → (entry : FieldEntry) × (slice_get fs i ≡ Some entry) × (is_had index entry ≡ true)
had_slot s index [] [] i x fit at = absurd (cc)
had_slot s index [] (y ∷ xs) i x fit at = absurd fit
had_slot s index (f ∷ fs) [] i x fit at = absurd fit
had_slot s index (f ∷ fs) (None ∷ xs) zero x fit at = absurd (cc)
had_slot s index (f ∷ fs) (Some y ∷ xs) zero x fit at = (f, refl, fit.0.0)
had_slot s index (f ∷ fs) (y ∷ xs) (suc i) x fit at = had_slot s index fs xs i x fit.1 at

pub bool_kind : (s : StoreMap) (kind : FieldKind) (b : Bool) → FieldFits s kind (value.Bool b) → kind ≡ field.Bool
bool_kind s field.Bool b fit = refl
bool_kind s (field.Data ty) b fit = absurd fit
bool_kind s (field.Pointer ty along) b fit = absurd fit

pub bool_value : (s : StoreMap) (x : Value) → FieldFits s field.Bool x → (b : Bool) × (x ≡ value.Bool b)
bool_value s (value.Bool b) fit = (b, refl)
bool_value s (value.Cell c) fit = absurd fit
bool_value s (value.Cells cells) fit = absurd fit

module _ (types : List TypeEntry) (vars : List VarEntry) (a : Assignment) where
  -- a backbone of the assignment
  pub record IsLaid (s : StoreMap) : Type 0 where
    pub fits : Fits types vars s
    pub backbone : IsBackbone types vars s
    pub sets : SetsHoldLive vars s
    pub assignment : IsAssignmentOf types vars s a

  pub lays : (s : StoreMap) → IsLaid s → LaysOut types vars a
  lays s S = backbone-lays types vars s a S.fits S.backbone S.sets S.assignment

  pub placed-ends : (s : StoreMap) (c : CellId) (p : Position) → IsPlaced types vars s c p → EndsInZero p
  placed-ends s c p placed =
      let i = unwrap_or (slot_of_var vars placed.var) 0 in
      subst EndsInZero (sym placed.position) (below-ends types (slot_of i) placed.fields (slot-ends i))

  pub turned : (s t : StoreMap) (c d : CellId) → StandAlike types vars s t c d → StandAlike types vars t s d c
  turned s t c d h = record { position = h.position; one = h.other; other = h.one }

  -- where a data field leads
  child-placed : (s : StoreMap) (b c : CellId) (p : Position) (f : FieldId) → IsPlaced types vars s b p → Leads types s DataAlone f b c →
      IsPlaced types vars s c (child_of (unwrap_or (child_number types f) 0) p)
  child-placed s b c p f placed leads = record {
    var = placed.var;
    fields = placed.fields ++ f ∷ [];
    at = record {
      root = placed.at.root;
      named = placed.at.named;
      along = along_step types s placed.fields f placed.at.root b c placed.at.along leads;
    };
    position = ap (child_of (unwrap_or (child_number types f) 0)) placed.position
        ∙ sym (below-last types (slot_of (unwrap_or (slot_of_var vars placed.var) 0)) placed.fields f);
  }

  module _ (s t : StoreMap) (S : IsLaid s) (T : IsLaid t) where
    pub same-one : (b c d : CellId) → StandAlike types vars s t b c → StandAlike types vars s t b d → c ≡ d
    same-one b c d h k =
        let one = one-position types vars s b S.backbone (placed-live types vars s b h.position h.one) in
        let same : h.position ≡ k.position = one.only h.position h.one ∙ sym (one.only k.position k.one) in
        placed-apart types vars t c d k.position (subst (IsPlaced types vars t c) same h.other) k.other

    pub at-place : (b : CellId) (p : Position) → IsPlaced types vars s b p → (d : CellId) × IsPlaced types vars t d p
    at-place b p placed =
        let (cell, at) = known (cell_of s b) (placed-live types vars s b p placed) in
        let marked = cell-marked types vars s a S.fits S.assignment b cell p at placed in
        let found = marked-cell types vars t a T.fits T.assignment cell.variant p marked in
        (found.0, found.1)

    pub goes : (b : CellId) → IsLive s b → (d : CellId) × StandAlike types vars s t b d
    goes b live =
        let one = one-position types vars s b S.backbone live in
        let (d, placed) = at-place b one.position one.placed in
        (d, record { position = one.position; one = one.placed; other = placed })

    pub variant-same : (b d : CellId) (cell other : CellEntry) → StandAlike types vars s t b d → cell_of s b ≡ Some cell → cell_of t d ≡ Some other →
        cell.variant ≡ other.variant
    variant-same b d cell other h at also =
        one-variant types vars a (lays s S) cell.variant other.variant h.position
        (cell-marked types vars s a S.fits S.assignment b cell h.position at h.one)
        (cell-marked types vars t a T.fits T.assignment d other h.position also h.other)

    -- a field that one of them has, the other has
    pub value-there : (b d : CellId) (f : FieldId) (x : Value) → StandAlike types vars s t b d → field_value s b f ≡ Some x → (y : Value) ×
        (field_value t d f ≡ Some y)
    value-there b d f x h held =
        let (cell, at, typed) = own_type s b f x held in
        let (other, also) = known (cell_of t d) (placed-live types vars t d h.position h.other) in
        let same = variant-same b d cell other h at also in
        let slot : option_and_then (λ (v : Option Value). v) (slice_get cell.values f.index) ≡ Some x = own_slot cell at typed held in
        let fit = IfSome-at (cell_of s b) (CellFits types s) cell at (S.fits.cells b) in
        let fit_too = IfSome-at (cell_of t d) (CellFits types t) other also (T.fits.cells d) in
        let (entry, there, had) = had_slot s cell.variant.index (fields_of types cell.variant.ty) cell.values f.index x fit.values slot in
        let (y, other_slot) = slot_had t other.variant.index (fields_of types other.variant.ty) other.values f.index entry fit_too.values
        (subst (λ v. slice_get (fields_of types v.ty) f.index ≡ Some entry) same there) (subst (λ (v : VariantId). is_had v.index entry ≡ true) same had) in
        (y, ap (option_and_then (λ (e : CellEntry). field_of e f)) also ∙ of_slot other y (sym (ap (λ (v : VariantId). v.ty) same) ∙ typed) other_slot)
      where
        own_slot : (cell : CellEntry) → cell_of s b ≡ Some cell → cell.variant.ty ≡ f.ty → field_value s b f ≡ Some x →
            option_and_then (λ (v : Option Value). v) (slice_get cell.values f.index) ≡ Some x
        own_slot cell at typed held = sym (of_type cell typed) ∙ sym (ap (option_and_then (λ (e : CellEntry). field_of e f)) at) ∙ held
          where
            of_type : (cell : CellEntry) → cell.variant.ty ≡ f.ty → field_of cell f ≡ option_and_then (λ (v : Option Value). v) (slice_get cell.values f.index)
            of_type cell typed =
                ap (λ b. cond b (option_and_then (λ (v : Option Value). v) (slice_get cell.values f.index)) None)
                (eq-eqb cell.variant.ty.0 f.ty.0 (ap (λ (ty : TypeId). ty.0) typed))

        of_slot : (cell : CellEntry) (y : Value) → cell.variant.ty ≡ f.ty → option_and_then (λ (v : Option Value). v) (slice_get cell.values f.index) ≡ Some y →
            field_of cell f ≡ Some y
        of_slot cell y typed slot =
            ap (λ b. cond b (option_and_then (λ (v : Option Value). v) (slice_get cell.values f.index)) None)
            (eq-eqb cell.variant.ty.0 f.ty.0 (ap (λ (ty : TypeId). ty.0) typed)) ∙ slot

    type-same : (b d : CellId) (f g : FieldId) (x y : Value) → StandAlike types vars s t b d → field_value s b f ≡ Some x → field_value t d g ≡ Some y →
        f.ty ≡ g.ty
    type-same b d f g x y h held also =
        let (cell, at, typed) = own_type s b f x held in
        let (other, found, sort) = own_type t d g y also in
        sym typed ∙ ap (λ (v : VariantId). v.ty) (variant-same b d cell other h at found) ∙ sort

    -- a data field leads to cells at one position
    pub leads-goes : (f : FieldId) (b c d : CellId) → StandAlike types vars s t b d → Leads types s DataAlone f b c →
        (e : CellId) × StandAlike types vars s t c e × Leads types t DataAlone f d e
    leads-goes f b c d h leads =
        let placed = child-placed s b c h.position f h.one leads in
        let (e, also) = at-place c (child_of (unwrap_or (child_number types f) 0) h.position) placed in
        (e, record { position = child_of (unwrap_or (child_number types f) 0) h.position; one = placed; other = also }, led e also)
      where
        number : (g : FieldId) (kind : IsSomeAnd (field_at types g) (λ e. IsFollowed DataAlone e.kind)) → child_number types g ≡ Some
            (unwrap_or (child_number types g) 0)
        number g kind =
            let (entry, there, followed) = IsSomeAnd-at (field_at types g) (λ e. IsFollowed DataAlone e.kind) kind in
            let (ty, is) = data_field entry.kind followed in
            let rank_is = numbered types g entry ty there is in
            rank_is ∙ sym (ap (λ o. Some (unwrap_or o 0)) rank_is)

        same_field : (g : FieldId) (kind : IsSomeAnd (field_at types g) (λ e. IsFollowed DataAlone e.kind)) → f.ty ≡ g.ty →
            unwrap_or (child_number types f) 0 ≡ unwrap_or (child_number types g) 0 → f ≡ g
        same_field g kind typed same =
            let (entry, there, followed) = IsSomeAnd-at (field_at types f) (λ e. IsFollowed DataAlone e.kind) leads.kind in
            let (ty, is) = data_field entry.kind followed in
            let (other, also, followed_too) = IsSomeAnd-at (field_at types g) (λ e. IsFollowed DataAlone e.kind) kind in
            let (uy, sort) = data_field other.kind followed_too in
            field_one types f g entry other ty uy (unwrap_or (child_number types f) 0) there is also sort typed (number f leads.kind)
            (number g kind ∙ ap (λ n. Some n) (sym same))

        led : (e : CellId) → IsPlaced types vars t e (child_of (unwrap_or (child_number types f) 0) h.position) → Leads types t DataAlone f d e
        led e placed = by (last-step types t placed.fields placed.at.root e placed.at.along)
          where
            by : ((placed.fields ≡ []) × (placed.at.root ≡ e)) ⊎ HasLastStep types t placed.fields placed.at.root e → Leads types t DataAlone f d e
            by (inl none) =
                absurd (slot-not_child (unwrap_or (slot_of_var vars placed.var) 0) (unwrap_or (child_number types f) 0) h.position
                (placed-ends t d h.position h.other)
                (sym (placed.position ∙ ap (below types (slot_of (unwrap_or (slot_of_var vars placed.var) 0))) none.0)))
            by (inr more) =
                let from : IsPlaced types vars t more.parent (below types (slot_of (unwrap_or (slot_of_var vars placed.var) 0)) more.before) = record {
                  var = placed.var;
                  fields = more.before;
                  at = record { root = placed.at.root; named = placed.at.named; along = more.along };
                  position = refl;
                } in
                let both = children-apart (unwrap_or (child_number types f) 0) (unwrap_or (child_number types more.last) 0) h.position
                (below types (slot_of (unwrap_or (slot_of_var vars placed.var) 0)) more.before)
                (placed-ends t d h.position h.other)
                (placed-ends t more.parent (below types (slot_of (unwrap_or (slot_of_var vars placed.var) 0)) more.before) from)
                (placed.position ∙ ap (below types (slot_of (unwrap_or (slot_of_var vars placed.var) 0))) more.is
                ∙ below-last types (slot_of (unwrap_or (slot_of_var vars placed.var) 0)) more.before more.last) in
                let parent : more.parent ≡ d =
                placed-apart types vars t more.parent d h.position (subst (IsPlaced types vars t more.parent) (sym both.1) from) h.other in
                let step : Leads types t DataAlone more.last d e = subst (λ x. Leads types t DataAlone more.last x e) parent more.step in
                let typed = type-same b d f more.last (value.Cell (Some c)) (value.Cell (Some e)) h leads.value step.value in
                subst (λ g. Leads types t DataAlone g d e) (sym (same_field more.last step.kind typed both.0)) step

    -- a bool field is true in both
    pub truth-goes : (b d : CellId) (f : FieldId) → StandAlike types vars s t b d → field_value s b f ≡ Some (value.Bool true) → field_value t d f ≡ Some
        (value.Bool true)
    truth-goes b d f h held =
        let slot = slot_at_value types vars s S.fits b f (value.Bool true) held in
        let kind = bool_kind s slot.entry.kind true slot.fits in
        let n = variants_in types + (bools_in (take f.ty.0 types) + rank Bools types f) in
        let track : bool_track types f ≡ Some (track_at n) =
        ap (option_and_then (λ entry. cond (is_counted Bools entry) (Some (track_at n)) None)) slot.at ∙ ap
        (λ k. cond (counts Bools k) (Some (track_at n)) None) kind in
        let on = (S.assignment.tracks (of_bool f) (track_at n) h.position track).1 (inr (b, h.one, held)) in
        elim ((T.assignment.tracks (of_bool f) (track_at n) h.position track).0 on) [
          | inl root ↦ absurd root.1
          | inr found ↦
              subst (λ x. field_value t x f ≡ Some (value.Bool true)) (placed-apart types vars t found.0 d h.position found.1 h.other) found.2
        ]
