-- The store of a tree is the store that the tree was made of, but for the names of the cells.
use Rattle.std.proofs.Common.{◌≡◌, ◌⊎◌, ℕ, suc, Bool, true, false, inl, inr, List, [], ◌∷◌, ◌++◌, slice_get, Option, Some, None, IfSome, Contains, refl, sym}
use Rattle.std.proofs.Common.{ap, ◌∙◌, subst}
use Rattle.std.proofs.lemmas.Option.{same_Some}
use Rattle.std.proofs.lemmas.List.Elements.{All-contains}
use Rattle.gta_theory.specs.Assignments.{Position, Assignment}
use Rattle.ws2s_core.specs.declared.label_tree.TreeNode.{TreeNode}
use Rattle.ws2s_core.specs.LabelTrees.{assignment_of}
use Rattle.store_core.specs.declared.ids.TypeId.{TypeId}
use Rattle.store_core.specs.declared.ids.VariantId.{VariantId}
use Rattle.store_core.specs.declared.ids.FieldId.{FieldId}
use Rattle.store_core.specs.declared.ids.VarId.{VarId}
use Rattle.store_core.specs.declared.ids.CellId.{CellId}
use Rattle.store_core.specs.declared.kind.FieldKind.{FieldKind}
use Rattle.store_core.specs.declared.kind.FieldKind.TheVariants as field
use Rattle.store_core.specs.declared.kind.VarKind.{VarKind}
use Rattle.store_core.specs.declared.kind.VarKind.TheVariants as var
use Rattle.store_core.specs.declared.value.Value.{Value}
use Rattle.store_core.specs.declared.value.Value.TheVariants as value
use Rattle.store_core.specs.Tables.{TypeEntry, FieldEntry, VarEntry, fields_of, field_at, var_at}
use Rattle.store_core.specs.Stores.{StoreMap, IsLive, CellFits, SlotsFit, SlotFits, FieldFits, VarFits, VarsFit, cell_of, field_value, var_value}
use Rattle.store_core.proofs.FittingLemmas.{IfSome-at, IsSomeAnd-at, slot_at_value, var_at_value}
use Rattle.store_core.proofs.FreshLemmas.{slot_value}
use Rattle.routing_walks.specs.Walks.{DataAlone, IsFollowed, Leads, IsOfType, IsOfVariant}
use Rattle.routing_walks.specs.Destinations.{EndsKind, Dest, IsOnlyDestination, IsPointer}
use Rattle.routing_walks.specs.WellFormed.{IsWellFormed, HoldsOfType, VarHoldsLive, FieldHoldsLive, SetHoldsLive}
use Rattle.routing_walks.proofs.LiveLemmas.{Leads-live, IsOfType-live}
use Rattle.routing_walks.proofs.MatchLemmas.{Matches, Walk-match}
use Rattle.routing_walks.specs.Pairing.{PairsReference, PairsValue, PairsSlot, Pairwise, PairsCell, PairsEntry, ArePaired}
use Rattle.routing_walks.proofs.DecidedStores.{dest_live}
use Rattle.witness_store.specs.Only.{IsOnlyCell}
use Rattle.witness_store.specs.Pointers.{IsPointerField, IsDestinationIfOne, ArePointersSet}
use Rattle.witness_store.proofs.KeptLemmas.{known}
use Rattle.witness_store.proofs.OnlyLemmas.{IsOnlyCell-once}
use Rattle.tree_encode.specs.Tracks.{of_var, track_at}
use Rattle.tree_encode.proofs.ApartLemmas.{one-position}
use Rattle.tree_store.specs.Encoding.{NamesCell, IsTreeOf}
use Rattle.tree_store.proofs.SpotsLemmas.{of-some}
use Rattle.tree_store.proofs.StoresLemmas.{placed-live}
use Rattle.tree_store.proofs.TablesLemmas.{number_of_var, var-there}
use Rattle.tree_store.proofs.WordsLemmas.{EndsInZero}
use Rattle.tree_store.specs.Stores.{IsStoreOf}
use Rattle.witness_store.specs.Alike.{StandAlike}
use Rattle.witness_store.proofs.SamePlaceLemmas.{IsLaid, placed-ends, turned, same-one, goes, variant-same, value-there, leads-goes, truth-goes, bool_kind}
use Rattle.witness_store.proofs.SamePlaceLemmas.{bool_value}

-- ---- lists, element by element

slots_paired : (R : CellId → CellId → Type 0) (s t : StoreMap) (index : ℕ) (fs : List FieldEntry) (xs ys : List (Option Value)) → SlotsFit s index fs xs →
    SlotsFit t index fs ys → ((i : ℕ) (x y : Value) → slice_get xs i ≡ Some (Some x) → slice_get ys i ≡ Some (Some y) → PairsValue R x y) →
    Pairwise (PairsSlot R) xs ys
slots_paired R s t index [] [] [] fit also each = tt
slots_paired R s t index [] [] (y ∷ ys) fit also each = absurd also
slots_paired R s t index [] (x ∷ xs) ys fit also each = absurd fit
slots_paired R s t index (f ∷ fs) [] ys fit also each = absurd fit
slots_paired R s t index (f ∷ fs) (x ∷ xs) [] fit also each = absurd also
slots_paired R s t index (f ∷ fs) (x ∷ xs) (y ∷ ys) fit also each = (
  by x y fit.0 also.0 (λ v w e k. each 0 v w (ap (λ o. Some o) e) (ap (λ o. Some o) k)),
  slots_paired R s t index fs xs ys fit.1 also.1 (λ i v w e k. each (suc i) v w e k),
)
  where
    apart : false ≡ true → ⊥
    apart e = cc

    by : (x y : Option Value) → SlotFits s index f x → SlotFits t index f y → ((v w : Value) → x ≡ Some v → y ≡ Some w → PairsValue R v w) → PairsSlot R x y
    by None None one other here = tt
    by None (Some w) one other here = absurd (apart (sym one ∙ other.0))
    by (Some v) None one other here = absurd (apart (sym other ∙ one.0))
    by (Some v) (Some w) one other here = here v w refl refl

vars_paired : (R : CellId → CellId → Type 0) (s t : StoreMap) (vs : List VarEntry) (xs ys : List Value) → VarsFit s vs xs → VarsFit t vs ys →
    ((i : ℕ) (x y : Value) → slice_get xs i ≡ Some x → slice_get ys i ≡ Some y → PairsValue R x y) → Pairwise (PairsValue R) xs ys
vars_paired R s t [] [] [] fit also each = tt
vars_paired R s t [] [] (y ∷ ys) fit also each = absurd also
vars_paired R s t [] (x ∷ xs) ys fit also each = absurd fit
vars_paired R s t (v ∷ vs) [] ys fit also each = absurd fit
vars_paired R s t (v ∷ vs) (x ∷ xs) [] fit also each = absurd also
vars_paired R s t (v ∷ vs) (x ∷ xs) (y ∷ ys) fit also each = (each 0 x y refl refl, vars_paired R s t vs xs ys fit.1 also.1 (λ i a b e k. each (suc i) a b e k))

same_bool : (b c : Bool) → (b ≡ true → c ≡ true) → (c ≡ true → b ≡ true) → b ≡ c
same_bool true true h k = refl
same_bool true false h k = sym (h refl)
same_bool false true h k = k refl
same_bool false false h k = refl

some_bool : (o : Option Value) (b c : Bool) → o ≡ Some (value.Bool b) → o ≡ Some (value.Bool c) → b ≡ c
some_bool o b c one other = let both : Some (value.Bool b) ≡ Some (value.Bool c) = sym one ∙ other in cc

some_cell : (o : Option Value) (b c : Option CellId) → o ≡ Some (value.Cell b) → o ≡ Some (value.Cell c) → b ≡ c
some_cell o b c one other = let both : Some (value.Cell b) ≡ Some (value.Cell c) = sym one ∙ other in cc

not_root : EndsInZero [] → ⊥
not_root ends = by ends.before (ends.is)
  where
    by : (w : Position) → [] ≡ w ++ false ∷ [] → ⊥
    by [] e = cc
    by (b ∷ w) e = cc

module _ (types : List TypeEntry) (vars : List VarEntry) (a : Assignment) where
  module _ (s t : StoreMap) (S : IsLaid types vars a s) (T : IsLaid types vars a t) where
    abbrev R : CellId → CellId → Type 0
    R = StandAlike types vars s t

    flip : (c d : CellId) → R c d → StandAlike types vars t s d c
    flip c d h = turned types vars a s t c d h

    variant-goes : (b d : CellId) → R b d → (v : VariantId) → IsOfVariant s v b → IsOfVariant t v d
    variant-goes b d h v of =
        let (cell, at, is) = IsSomeAnd-at (cell_of s b) (λ e. e.variant ≡ v) of in
        let (other, also) = known (cell_of t d) (placed-live types vars t d h.position h.other) in
        of-some (λ e. e.variant ≡ v) (cell_of t d) other also (sym (variant-same types vars a s t S T b d cell other h at also) ∙ is)

    truth-same : (b d : CellId) → R b d → (f : FieldId) (x : Bool) → field_value s b f ≡ Some (value.Bool x) → field_value t d f ≡ Some (value.Bool x)
    truth-same b d h f x held =
        let (y, also) = value-there types vars a s t S T b d f (value.Bool x) h held in
        let slot = slot_at_value types vars s S.fits b f (value.Bool x) held in
        let other = slot_at_value types vars t T.fits d f y also in
        let entry : slot.entry ≡ other.entry = same_Some slot.entry other.entry (sym slot.at ∙ other.at) in
        let kind = bool_kind s slot.entry.kind x slot.fits in
        let (c, is) = bool_value t y (subst (λ k. FieldFits t k y) (sym (ap (λ (e : FieldEntry). e.kind) entry) ∙ kind) other.fits) in
        let there : field_value t d f ≡ Some (value.Bool c) = also ∙ ap (λ v. Some v) is in
        there ∙ ap (λ v. Some (value.Bool v)) (sym (same_bool x c
        (λ e. some_bool (field_value t d f) c true there (truth-goes types vars a s t S T b d f h (held ∙ ap (λ v. Some (value.Bool v)) e)))
        (λ e. some_bool (field_value s b f) x true held
        (truth-goes types vars a t s T S d b f (flip b d h) (there ∙ ap (λ v. Some (value.Bool v)) e)))))

  module _ (s t : StoreMap) (S : IsLaid types vars a s) (T : IsLaid types vars a t) where
    Matches-laid : Matches types DataAlone (StandAlike types vars s t) s t
    Matches-laid = record {
      one = λ b c d h k. same-one types vars a s t S T b c d h k;
      other = λ b c d h k. same-one types vars a t s T S d b c (turned types vars a s t b d h) (turned types vars a s t c d k);
      live = λ b d h. (placed-live types vars s b h.position h.one, placed-live types vars t d h.position h.other);
      variant = λ b d h v. (
        variant-goes s t S T b d h v,
        variant-goes t s T S d b (turned types vars a s t b d h) v,
      );
      truth = λ b d h f x. (
        truth-same s t S T b d h f x,
        truth-same t s T S d b (turned types vars a s t b d h) f x,
      );
      down = λ f b c d h leads. leads-goes types vars a s t S T f b c d h leads;
      up = λ f b c e h leads.
          let (d, alike) = goes types vars a s t S T b (Leads-live types s DataAlone f b c leads).0 in
          let (x, also, led) = leads-goes types vars a s t S T f b c d alike leads in
          (d, alike, subst (λ y. Leads types t DataAlone f d y) (same-one types vars a s t S T c x e also h) led);
      down_back = λ f b d e h leads.
          let (c, alike, led) = leads-goes types vars a t s T S f d e b (turned types vars a s t b d h) leads in
          (c, turned types vars a t s e c alike, led);
      up_back = λ f c d e h leads.
          let (b, alike) = goes types vars a t s T S d (Leads-live types t DataAlone f d e leads).0 in
          let (x, also, led) = leads-goes types vars a t s T S f d e b alike leads in (
            b,
            turned types vars a t s d b alike,
            subst (λ y. Leads types s DataAlone f b y) (same-one types vars a t s T S e x c also (turned types vars a s t c e h)) led,
          );
    }

    type-goes : (ty : TypeId) (b d : CellId) → StandAlike types vars s t b d → IsOfType s ty b → IsOfType t ty d
    type-goes ty b d h of =
        let (cell, at, is) = IsSomeAnd-at (cell_of s b) (λ e. e.variant.ty ≡ ty) of in
        let (other, also) = known (cell_of t d) (placed-live types vars t d h.position h.other) in
        of-some (λ e. e.variant.ty ≡ ty) (cell_of t d) other also
        (sym (ap (λ (v : VariantId). v.ty) (variant-same types vars a s t S T b d cell other h at also)) ∙ is)

    ends-goes : (kind : FieldKind) (b c d e : CellId) → StandAlike types vars s t b d → StandAlike types vars s t c e → EndsKind types s kind b c →
        EndsKind types t kind d e
    ends-goes field.Bool b c d e h k ends = ends
    ends-goes (field.Data ty) b c d e h k ends = ends
    ends-goes (field.Pointer ty along) b c d e h k ends = record {
      walk = Walk-match types DataAlone (StandAlike types vars s t) s t Matches-laid along b c d e h k ends.walk;
      of_target = type-goes ty c e k ends.of_target;
    }

    dest-goes : (f : FieldId) (b c d e : CellId) → StandAlike types vars s t b d → StandAlike types vars s t c e → Dest types s b f c → Dest types t d f e
    dest-goes f b c d e h k dest =
        let (entry, there, ends) = IsSomeAnd-at (field_at types f) (λ x. EndsKind types s x.kind b c) dest in
        of-some (λ x. EndsKind types t x.kind d e) (field_at types f) entry there (ends-goes entry.kind b c d e h k ends)

  -- ---- fields

  module _ (s t : StoreMap) (S : IsLaid types vars a s) (T : IsLaid types vars a t) where
    abbrev Q : CellId → CellId → Type 0
    Q = StandAlike types vars s t

    only-goes : (f : FieldId) (b d : CellId) → Q b d → (o : Option CellId) → IsOnlyDestination types s b f (value.Cell o) →
        (p : Option CellId) × IsOnlyCell (Dest types t d f) p × PairsReference Q o p
    only-goes f b d h None none = (
      None,
      inl (λ e dest.
          let (c, alike) = goes types vars a t s T S e (dest_live types t d f e dest) in
          none c (dest-goes t s T S f d e b c (turned types vars a s t b d h) alike dest)),
      tt,
    )
    only-goes f b d h (Some c) only =
        let (e, alike) = goes types vars a s t S T c (dest_live types s b f c only.0) in (
          Some e,
          (
            dest-goes s t S T f b c d e h alike only.0,
            λ x dest.
                let (y, other) = goes types vars a t s T S x (dest_live types t d f x dest) in
                let same = only.1 y (dest-goes t s T S f d x b y (turned types vars a s t b d h) other dest) in
                same-one types vars a s t S T c x e (subst (λ z. Q z x) same (turned types vars a t s x y other)) alike,
          ),
          alike,
        )

    pointer-paired : (f : FieldId) (b d : CellId) → Q b d → (o p : Option CellId) → IsOnlyDestination types s b f (value.Cell o) →
        IsDestinationIfOne types t d f (value.Cell p) → PairsReference Q o p
    pointer-paired f b d h o p only set =
        let (q, found, pairs) = only-goes f b d h o only in
        subst (PairsReference Q o) (IsOnlyCell-once (Dest types t d f) q p found set) pairs

    leads-from : (u : StoreMap) → IsLaid types vars a u → (f : FieldId) (entry : FieldEntry) (ty : TypeId) (b c : CellId) → field_at types f ≡ Some entry →
        entry.kind ≡ field.Data ty → field_value u b f ≡ Some (value.Cell (Some c)) → Leads types u DataAlone f b c
    leads-from u U f entry ty b c there kind held = record {
      kind = of-some (λ e. IsFollowed DataAlone e.kind) (field_at types f) entry there (subst (λ k. IsFollowed DataAlone k) (sym kind) tt);
      value = held;
      live = IsOfType-live types u ty c (subst (λ k. FieldHoldsLive u k (value.Cell (Some c))) kind
          (IfSome-at (field_value u b f) (FieldHoldsLive u entry.kind) (value.Cell (Some c)) held
          (IfSome-at (field_at types f) (λ e. IfSome (field_value u b f) (FieldHoldsLive u e.kind)) entry there (U.backbone.data_fields b f))));
    }

    data-paired : (f : FieldId) (entry : FieldEntry) (ty : TypeId) (b d : CellId) → Q b d → field_at types f ≡ Some entry → entry.kind ≡ field.Data ty →
        (o p : Option CellId) → field_value s b f ≡ Some (value.Cell o) → field_value t d f ≡ Some (value.Cell p) → PairsReference Q o p
    data-paired f entry ty b d h there kind None None held also = tt
    data-paired f entry ty b d h there kind None (Some e) held also =
        let (c, alike, led) = leads-goes types vars a t s T S f d e b (turned types vars a s t b d h) (leads-from t T f entry ty d e there kind also) in
        let both = some_cell (field_value s b f) None (Some c) held led.value in absurd (cc)
    data-paired f entry ty b d h there kind (Some c) p held also =
        let (e, alike, led) = leads-goes types vars a s t S T f b c d h (leads-from s S f entry ty b c there kind held) in
        subst (PairsReference Q (Some c)) (some_cell (field_value t d f) (Some e) p led.value also) alike

    field-paired : ((c : CellId) (f : FieldId) → IsPointerField types f → IfSome (field_value s c f) (IsOnlyDestination types s c f)) → ArePointersSet types t →
        (b d : CellId) (f : FieldId) (x y : Value) → Q b d → field_value s b f ≡ Some x → field_value t d f ≡ Some y → PairsValue Q x y
    field-paired right set b d f x y h held also =
        let slot = slot_at_value types vars s S.fits b f x held in
        let other = slot_at_value types vars t T.fits d f y also in
        let same : slot.entry ≡ other.entry = same_Some slot.entry other.entry (sym slot.at ∙ other.at) in
        by slot.entry.kind x y slot.fits (subst (λ k. FieldFits t k y) (sym (ap (λ (e : FieldEntry). e.kind) same)) other.fits) held also
        slot.entry slot.at refl
      where
        by : (kind : FieldKind) → (x y : Value) → FieldFits s kind x → FieldFits t kind y → field_value s b f ≡ Some x → field_value t d f ≡ Some y →
            (entry : FieldEntry) → field_at types f ≡ Some entry → entry.kind ≡ kind → PairsValue Q x y
        by field.Bool (value.Bool v) (value.Bool w) fit fit_too held also entry there kind =
            some_bool (field_value t d f) v w (truth-same s t S T b d h f v held) also
        by field.Bool (value.Bool v) (value.Cell p) fit fit_too held also entry there kind = absurd fit_too
        by field.Bool (value.Bool v) (value.Cells p) fit fit_too held also entry there kind = absurd fit_too
        by field.Bool (value.Cell o) y fit fit_too held also entry there kind = absurd fit
        by field.Bool (value.Cells o) y fit fit_too held also entry there kind = absurd fit
        by (field.Data ty) (value.Bool v) y fit fit_too held also entry there kind = absurd fit
        by (field.Data ty) (value.Cells v) y fit fit_too held also entry there kind = absurd fit
        by (field.Data ty) (value.Cell o) (value.Bool w) fit fit_too held also entry there kind = absurd fit_too
        by (field.Data ty) (value.Cell o) (value.Cells w) fit fit_too held also entry there kind = absurd fit_too
        by (field.Data ty) (value.Cell o) (value.Cell p) fit fit_too held also entry there kind = data-paired f entry ty b d h there kind o p held also
        by (field.Pointer ty along) (value.Bool v) y fit fit_too held also entry there kind = absurd fit
        by (field.Pointer ty along) (value.Cells v) y fit fit_too held also entry there kind = absurd fit
        by (field.Pointer ty along) (value.Cell o) (value.Bool w) fit fit_too held also entry there kind = absurd fit_too
        by (field.Pointer ty along) (value.Cell o) (value.Cells w) fit fit_too held also entry there kind = absurd fit_too
        by (field.Pointer ty along) (value.Cell o) (value.Cell p) fit fit_too held also entry there kind =
            let pointer : IsPointerField types f = of-some (λ x. IsPointer x.kind) (field_at types f) entry there (subst IsPointer (sym kind) tt) in
            pointer-paired f b d h o p (IfSome-at (field_value s b f) (IsOnlyDestination types s b f) (value.Cell o) held (right b f pointer))
            (IfSome-at (field_value t d f) (IsDestinationIfOne types t d f) (value.Cell p) also (set d f pointer))

    cell-paired : ((c : CellId) (f : FieldId) → IsPointerField types f → IfSome (field_value s c f) (IsOnlyDestination types s c f)) → ArePointersSet types t →
        (b d : CellId) → Q b d → PairsEntry Q (cell_of s b) (cell_of t d)
    cell-paired right set b d h =
        let (cell, at) = known (cell_of s b) (placed-live types vars s b h.position h.one) in
        let (other, also) = known (cell_of t d) (placed-live types vars t d h.position h.other) in
        let same = variant-same types vars a s t S T b d cell other h at also in
        let fit = IfSome-at (cell_of s b) (CellFits types s) cell at (S.fits.cells b) in
        let fit_too = IfSome-at (cell_of t d) (CellFits types t) other also (T.fits.cells d) in
        let pairs : PairsCell Q cell other = record {
          variant = same;
          values = slots_paired Q s t cell.variant.index (fields_of types cell.variant.ty) cell.values other.values fit.values
              (subst (λ (v : VariantId). SlotsFit t v.index (fields_of types v.ty) other.values) (sym same) fit_too.values)
              (λ i x y e k.
              field-paired right set b d (record { ty = cell.variant.ty; index = i }) x y h (slot_value s b cell i x at e)
              (subst (λ (v : VariantId). field_value t d (record { ty = v.ty; index = i }) ≡ Some y) (sym same) (slot_value t d other i y also k)));
        } in
        subst (λ o. PairsEntry Q o (cell_of t d)) (sym at) (subst (PairsEntry Q (Some cell)) (sym also) pairs)

  -- ---- variables

  module _ (s t : StoreMap) (S : IsLaid types vars a s) (T : IsLaid types vars a t) where
    abbrev P : CellId → CellId → Type 0
    P = StandAlike types vars s t

    root-goes : (v : VarId) (entry : VarEntry) → var_at vars v ≡ Some entry → var_value s v ≡ Some (value.Bool true) → var_value t v ≡ Some (value.Bool true)
    root-goes v entry there held =
        let track = var-there types vars v entry there in
        let on = (S.assignment.tracks (of_var v) (track_at (number_of_var types v)) [] track).1 (inl (refl, held)) in
        elim ((T.assignment.tracks (of_var v) (track_at (number_of_var types v)) [] track).0 on) [
          | inl root ↦ root.1
          | inr found ↦ absurd (not_root (placed-ends types vars a t found.0 [] found.1))
        ]

    names-goes : (v : VarId) (entry : VarEntry) (x y : Value) (b : CellId) → var_at vars v ≡ Some entry → var_value s v ≡ Some x → var_value t v ≡ Some y →
        NamesCell x b → IsLive s b → (d : CellId) × NamesCell y d × P b d
    names-goes v entry x y b there held also names live =
        let one = one-position types vars s b S.backbone live in
        let track = var-there types vars v entry there in
        let on = (S.assignment.tracks (of_var v) (track_at (number_of_var types v)) one.position track).1
        (inr (b, one.placed, of-some (λ z. NamesCell z b) (var_value s v) x held names)) in
        elim ((T.assignment.tracks (of_var v) (track_at (number_of_var types v)) one.position track).0 on) [
          | inl root ↦ absurd (not_root (subst EndsInZero root.0 (placed-ends types vars a s b one.position one.placed)))
          | inr found ↦
              let (z, is, named) = IsSomeAnd-at (var_value t v) (λ w. NamesCell w found.0) found.2 in (
                found.0,
                subst (λ w. NamesCell w found.0) (same_Some z y (sym is ∙ also)) named,
                record
                    { position = one.position; one = one.placed; other = found.1 },
              )
        ]

  -- null or a live cell of a type
  held_live : (u : StoreMap) (ty : TypeId) (c : CellId) → HoldsOfType u ty (value.Cell (Some c)) → IsLive u c
  held_live u ty c holds = IsOfType-live types u ty c holds

  module _ (s t : StoreMap) (S : IsLaid types vars a s) (T : IsLaid types vars a t) where
    abbrev N : CellId → CellId → Type 0
    N = StandAlike types vars s t

    reference-paired : (v : VarId) (entry : VarEntry) (o p : Option CellId) → var_at vars v ≡ Some entry → var_value s v ≡ Some (value.Cell o) →
        var_value t v ≡ Some (value.Cell p) → ((c : CellId) → o ≡ Some c → IsLive s c) → ((c : CellId) → p ≡ Some c → IsLive t c) → PairsReference N o p
    reference-paired v entry None None there held also live other = tt
    reference-paired v entry None (Some e) there held also live other =
        let (c, names, alike) = names-goes t s T S v entry (value.Cell (Some e)) (value.Cell None) e there also held refl (other e refl) in absurd (cc)
    reference-paired v entry (Some c) p there held also live other =
        let (e, names, alike) = names-goes s t S T v entry (value.Cell (Some c)) (value.Cell p) c there held also refl (live c refl) in
        subst (PairsReference N (Some c)) (sym names) alike

    set-live : (u : StoreMap) → IsLaid types vars a u → (v : VarId) (entry : VarEntry) (ty : TypeId) (cells : List CellId) → var_at vars v ≡ Some entry →
        entry.kind ≡ var.LogicSet ty → var_value u v ≡ Some (value.Cells cells) → (c : CellId) → Contains cells c → IsLive u c
    set-live u U v entry ty cells there kind held c member =
        let all = subst (λ k. SetHoldsLive u k (value.Cells cells)) kind
        (IfSome-at (var_value u v) (SetHoldsLive u entry.kind) (value.Cells cells) held
        (IfSome-at (var_at vars v) (λ e. IfSome (var_value u v) (SetHoldsLive u e.kind)) entry there (U.sets v))) in
        IsOfType-live types u ty c (All-contains (IsOfType u ty) cells c all member)

    var-live : (u : StoreMap) → IsLaid types vars a u → (v : VarId) (entry : VarEntry) (ty : TypeId) (o : Option CellId) → var_at vars v ≡ Some entry →
        (entry.kind ≡ var.Data ty) ⊎ (entry.kind ≡ var.Pointer ty) → var_value u v ≡ Some (value.Cell o) → (c : CellId) → o ≡ Some c → IsLive u c
    var-live u U v entry ty o there kind held c is =
        let holds = IfSome-at (var_value u v) (VarHoldsLive u entry.kind) (value.Cell (Some c)) (held ∙ ap (λ p. Some (value.Cell p)) is)
        (IfSome-at (var_at vars v) (λ e. IfSome (var_value u v) (VarHoldsLive u e.kind)) entry there (U.backbone.cell_vars v)) in
        elim kind [
          | inl e ↦ held_live u ty c (subst (λ k. VarHoldsLive u k (value.Cell (Some c))) e holds)
          | inr e ↦ held_live u ty c (subst (λ k. VarHoldsLive u k (value.Cell (Some c))) e holds)
        ]

    truth-paired : (v : VarId) (entry : VarEntry) (b c : Bool) → var_at vars v ≡ Some entry → var_value s v ≡ Some (value.Bool b) → var_value t v ≡ Some
        (value.Bool c) → b ≡ c
    truth-paired v entry b c there held also =
        same_bool b c
        (λ e. some_bool (var_value t v) c true also (root-goes s t S T v entry there (held ∙ ap (λ w. Some (value.Bool w)) e)))
        (λ e. some_bool (var_value s v) b true held (root-goes t s T S v entry there (also ∙ ap (λ w. Some (value.Bool w)) e)))

    var-paired : (v : VarId) (entry : VarEntry) → var_at vars v ≡ Some entry → (k : VarKind) → entry.kind ≡ k → (x y : Value) → VarFits s k x → VarFits t k y →
        var_value s v ≡ Some x → var_value t v ≡ Some y → PairsValue N x y
    var-paired v entry there var.Bool is (value.Bool b) (value.Bool c) fit fit_too held also = truth-paired v entry b c there held also
    var-paired v entry there var.Bool is (value.Bool b) (value.Cell p) fit fit_too held also = absurd fit_too
    var-paired v entry there var.Bool is (value.Bool b) (value.Cells p) fit fit_too held also = absurd fit_too
    var-paired v entry there var.Bool is (value.Cell o) y fit fit_too held also = absurd fit
    var-paired v entry there var.Bool is (value.Cells o) y fit fit_too held also = absurd fit
    var-paired v entry there var.LogicBool is (value.Bool b) (value.Bool c) fit fit_too held also = truth-paired v entry b c there held also
    var-paired v entry there var.LogicBool is (value.Bool b) (value.Cell p) fit fit_too held also = absurd fit_too
    var-paired v entry there var.LogicBool is (value.Bool b) (value.Cells p) fit fit_too held also = absurd fit_too
    var-paired v entry there var.LogicBool is (value.Cell o) y fit fit_too held also = absurd fit
    var-paired v entry there var.LogicBool is (value.Cells o) y fit fit_too held also = absurd fit
    var-paired v entry there (var.Data ty) is (value.Bool b) y fit fit_too held also = absurd fit
    var-paired v entry there (var.Data ty) is (value.Cells b) y fit fit_too held also = absurd fit
    var-paired v entry there (var.Data ty) is (value.Cell o) (value.Bool p) fit fit_too held also = absurd fit_too
    var-paired v entry there (var.Data ty) is (value.Cell o) (value.Cells p) fit fit_too held also = absurd fit_too
    var-paired v entry there (var.Data ty) is (value.Cell o) (value.Cell p) fit fit_too held also =
        reference-paired v entry o p there held also (var-live s S v entry ty o there (inl is) held) (var-live t T v entry ty p there (inl is) also)
    var-paired v entry there (var.Pointer ty) is (value.Bool b) y fit fit_too held also = absurd fit
    var-paired v entry there (var.Pointer ty) is (value.Cells b) y fit fit_too held also = absurd fit
    var-paired v entry there (var.Pointer ty) is (value.Cell o) (value.Bool p) fit fit_too held also = absurd fit_too
    var-paired v entry there (var.Pointer ty) is (value.Cell o) (value.Cells p) fit fit_too held also = absurd fit_too
    var-paired v entry there (var.Pointer ty) is (value.Cell o) (value.Cell p) fit fit_too held also =
        reference-paired v entry o p there held also (var-live s S v entry ty o there (inr is) held) (var-live t T v entry ty p there (inr is) also)
    var-paired v entry there (var.LogicSet ty) is (value.Bool b) y fit fit_too held also = absurd fit
    var-paired v entry there (var.LogicSet ty) is (value.Cell b) y fit fit_too held also = absurd fit
    var-paired v entry there (var.LogicSet ty) is (value.Cells o) (value.Bool p) fit fit_too held also = absurd fit_too
    var-paired v entry there (var.LogicSet ty) is (value.Cells o) (value.Cell p) fit fit_too held also = absurd fit_too
    var-paired v entry there (var.LogicSet ty) is (value.Cells o) (value.Cells p) fit fit_too held also = (
      fit.0,
      fit_too.0,
      λ c member. names-goes s t S T v entry (value.Cells o) (value.Cells p) c there held also member (set-live s S v entry ty o there is held c member),
      λ e member.
          let (c, names, alike) = names-goes t s T S v entry (value.Cells p) (value.Cells o) e there also held member
          (set-live t T v entry ty p there is also e member) in
          (c, names, turned types vars a t s e c alike),
    )

    pub ArePaired-laid : ((c : CellId) (f : FieldId) → IsPointerField types f → IfSome (field_value s c f) (IsOnlyDestination types s c f)) →
        ArePointersSet types t →
        ArePaired (StandAlike types vars s t) s t
    ArePaired-laid right set = record {
      one = λ b c d h k. same-one types vars a s t S T b c d h k;
      other = λ b c d h k. same-one types vars a t s T S d b c (turned types vars a s t b d h) (turned types vars a s t c d k);
      forth = λ b live. goes types vars a s t S T b live;
      back = λ d live. let (b, alike) = goes types vars a t s T S d live in (b, turned types vars a t s d b alike);
      cells = λ b d h. cell-paired s t S T right set b d h;
      vars = vars_paired (StandAlike types vars s t) s t vars s.vars t.vars S.fits.values T.fits.values (λ i x y held also.
          let v : VarId = record { 0 = i } in
          let one = var_at_value types vars s S.fits v x held in
          let other = var_at_value types vars t T.fits v y also in
          let same : one.entry ≡ other.entry = same_Some one.entry other.entry (sym one.at ∙ other.at) in
          var-paired v one.entry one.at one.entry.kind refl x y one.fits
          (subst (λ (e : VarEntry). VarFits t e.kind y) (sym same) other.fits) held also);
    }

-- ---- the law

pub ArePaired-decoded : (types : List TypeEntry) (vars : List VarEntry) (s t : StoreMap) (nodes : List TreeNode) → IsWellFormed types vars s → IsTreeOf
    types vars s nodes →
    IsStoreOf types vars (assignment_of nodes) t → ArePointersSet types t → ArePaired (StandAlike types vars s t) s t
ArePaired-decoded types vars s t nodes well tree of set =
    ArePaired-laid types vars (assignment_of nodes) s t
    (record { fits = well.fits; backbone = well.backbone; sets = well.sets; assignment = tree.assignment })
    (record { fits = of.fits; backbone = of.backbone; sets = of.sets; assignment = of.assignment }) well.pointers set
