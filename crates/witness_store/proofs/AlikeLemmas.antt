-- Stores that differ in their pointer fields alone: what data fields say of both.
use Rattle.std.proofs.Common.{◌≡◌, ◌↔◌, ℕ, zero, suc, Bool, List, [], ◌∷◌, slice_get, Option, Some, None, IsSome, IsSomeAnd}
use Rattle.std.proofs.Common.{IfSome, refl, sym, ap, ◌∙◌, subst}
use Rattle.std.specs.Prelude.{option_map}
use Rattle.std.specs.Option.{option_and_then}
use Rattle.store_core.specs.declared.ids.TypeId.{TypeId}
use Rattle.store_core.specs.declared.ids.VariantId.{VariantId}
use Rattle.store_core.specs.declared.ids.FieldId.{FieldId}
use Rattle.store_core.specs.declared.ids.VarId.{VarId}
use Rattle.store_core.specs.declared.ids.CellId.{CellId}
use Rattle.store_core.specs.declared.kind.FieldKind.{FieldKind}
use Rattle.store_core.specs.declared.kind.FieldKind.TheVariants as field
use Rattle.store_core.specs.declared.kind.VarKind.{VarKind}
use Rattle.store_core.specs.declared.kind.VarKind.TheVariants as var
use Rattle.store_core.specs.declared.value.Value.{Value}
use Rattle.store_core.specs.declared.value.Value.TheVariants as value
use Rattle.store_core.specs.Tables.{TypeEntry, VarEntry, FieldEntry, field_at, var_at, fields_of}
use Rattle.store_core.specs.Stores.{StoreMap, CellEntry, IsLive, cell_of, field_of, field_value, var_value, FieldFits, SlotsFit, CellFits}
use Rattle.store_core.proofs.FittingLemmas.{IfSome-from, IfSome-at, same_type}
use Rattle.routing_walks.specs.declared.fault.Place.{Place}
use Rattle.routing_walks.specs.declared.fault.Place.TheVariants as place
use Rattle.routing_walks.specs.Walks.{DataAlone, IsFollowed, Leads, IsParent, IsOfVariant, Chain}
use Rattle.routing_walks.specs.Destinations.{EndsKind, Dest, IsPointer}
use Rattle.routing_walks.specs.WellFormed.{Names, HoldsOfType, VarHoldsLive, FieldHoldsLive, IsBackbone}
use Rattle.routing_walks.proofs.LiveLemmas.{Leads-live, Walk-live, IsParent-live, Chain-live}
use Rattle.routing_walks.proofs.MatchLemmas.{Matches, Walk-match, Chain-matched, parent_down}
use Rattle.routing_walks.specs.Paths.{LeadsAlong, StandsAt}
use Rattle.witness_store.specs.Pointers.{IsPointerField, DoCellsFit, IsSameButPointers, AreAlike}

-- ---- the kinds of fields

flat_nil : (i : ℕ) (x : Value) → option_and_then (λ (v : Option Value). v) (slice_get [] i) ≡ Some x → ⊥
flat_nil i x e = cc

-- a value in a cell that fits fits its field
slot_kind : (s : StoreMap) (index : ℕ) (fs : List FieldEntry) (xs : List (Option Value)) (i : ℕ) (x : Value) → SlotsFit s index fs xs →
    option_and_then (λ (v : Option Value). v) (slice_get xs i) ≡ Some x → IsSomeAnd (slice_get fs i) (λ entry. FieldFits s entry.kind x)
slot_kind s index [] [] i x fit at = absurd (flat_nil i x at)
slot_kind s index [] (y ∷ xs) i x fit at = absurd fit
slot_kind s index (f ∷ fs) [] i x fit at = absurd fit
slot_kind s index (f ∷ fs) (None ∷ xs) zero x fit at = absurd (cc)
slot_kind s index (f ∷ fs) (Some y ∷ xs) zero x fit at = let same : y ≡ x = cc in subst (FieldFits s f.kind) same fit.0.1
slot_kind s index (f ∷ fs) (y ∷ xs) (suc i) x fit at = slot_kind s index fs xs i x fit.1 at

pub value_kind : (types : List TypeEntry) (s : StoreMap) → DoCellsFit types s → (c : CellId) (f : FieldId) (x : Value) → field_value s c f ≡ Some x →
    IsSomeAnd (field_at types f) (λ entry. FieldFits s entry.kind x)
value_kind types s fits c f x at = by (cell_of s c) (fits c) at
  where
    by : (o : Option CellEntry) → IfSome o (CellFits types s) → option_and_then (λ cell. field_of cell f) o ≡ Some x →
        IsSomeAnd (field_at types f) (λ entry. FieldFits s entry.kind x)
    by None fit at = absurd (cc)
    by (Some cell) fit at =
        let typed = same_type cell f x at in
        subst (λ t. IsSomeAnd (slice_get (fields_of types t) f.index) (λ entry. FieldFits s entry.kind x)) typed.0
        (slot_kind s cell.variant.index (fields_of types cell.variant.ty) cell.values f.index x fit.values typed.1)

-- a field that can be followed is no pointer field
data_alone : (types : List TypeEntry) (f : FieldId) → IsSomeAnd (field_at types f) (λ entry. IsFollowed DataAlone entry.kind) → IsPointerField types f → ⊥
data_alone types f followed pointer = by (field_at types f) followed pointer
  where
    at : (kind : FieldKind) → IsFollowed DataAlone kind → IsPointer kind → ⊥
    at field.Bool d p = d
    at (field.Data target) d p = p
    at (field.Pointer target along) d p = d

    by : (o : Option FieldEntry) → IsSomeAnd o (λ entry. IsFollowed DataAlone entry.kind) → IsSomeAnd o (λ entry. IsPointer entry.kind) → ⊥
    by None d p = d
    by (Some entry) d p = at entry.kind d p

-- a field that holds a truth value is no pointer field
truth_alone : (types : List TypeEntry) (s : StoreMap) (f : FieldId) (b : Bool) →
    IsSomeAnd (field_at types f) (λ entry. FieldFits s entry.kind (value.Bool b)) → IsPointerField types f → ⊥
truth_alone types s f b fit pointer = by (field_at types f) fit pointer
  where
    at : (kind : FieldKind) → FieldFits s kind (value.Bool b) → IsPointer kind → ⊥
    at field.Bool d p = p
    at (field.Data target) d p = d
    at (field.Pointer target along) d p = d

    by : (o : Option FieldEntry) → IsSomeAnd o (λ entry. FieldFits s entry.kind (value.Bool b)) → IsSomeAnd o (λ entry. IsPointer entry.kind) → ⊥
    by None d p = d
    by (Some entry) d p = at entry.kind d p

-- ---- the relation

variant_in : Option CellEntry → Option VariantId
variant_in o = option_map (λ cell. cell.variant) o

module _ (types : List TypeEntry) where
  pub alike_itself : (s : StoreMap) → IsSameButPointers types s s
  alike_itself s = record { variants = λ c. refl; fields = λ c f not. refl; pointers = λ c f. refl; vars = refl; next = refl }

  pub alike_turned : (s t : StoreMap) → IsSameButPointers types s t → IsSameButPointers types t s
  alike_turned s t k = record {
    variants = λ c. sym (k.variants c);
    fields = λ c f not. sym (k.fields c f not);
    pointers = λ c f. sym (k.pointers c f);
    vars = sym k.vars;
    next = sym k.next;
  }

  pub alike_both : (s t u : StoreMap) → IsSameButPointers types s t → IsSameButPointers types t u → IsSameButPointers types s u
  alike_both s t u k l = record {
    variants = λ c. l.variants c ∙ k.variants c;
    fields = λ c f not. l.fields c f not ∙ k.fields c f not;
    pointers = λ c f. l.pointers c f ∙ k.pointers c f;
    vars = l.vars ∙ k.vars;
    next = l.next ∙ k.next;
  }

Itself : StoreMap → CellId → CellId → Type 0
Itself s a c = (a ≡ c) × IsLive s a

module _ (types : List TypeEntry) (s t : StoreMap) (k : IsSameButPointers types s t) where
  -- what looks at the variant of a cell alone
  pub by_variant : (P : VariantId → Type 0) (c : CellId) → IsSomeAnd (cell_of s c) (λ cell. P cell.variant) → IsSomeAnd (cell_of t c) (λ cell. P cell.variant)
  by_variant P c h = to (cell_of t c) (subst (λ o. IsSomeAnd o P) (sym (k.variants c)) (from (cell_of s c) h))
    where
      from : (o : Option CellEntry) → IsSomeAnd o (λ cell. P cell.variant) → IsSomeAnd (option_map (λ (cell : CellEntry). cell.variant) o) P
      from None h = h
      from (Some cell) h = h

      to : (o : Option CellEntry) → IsSomeAnd (option_map (λ (cell : CellEntry). cell.variant) o) P → IsSomeAnd o (λ cell. P cell.variant)
      to None h = h
      to (Some cell) h = h

  pub live_alike : (c : CellId) → IsLive s c → IsLive t c
  live_alike c live = from (cell_of t c) (by_variant (λ v. Unit {0}) c (to (cell_of s c) live))
    where
      to : (o : Option CellEntry) → IsSome o → IsSomeAnd o (λ cell. Unit {0})
      to None h = absurd (cc)
      to (Some cell) h = tt

      from : (o : Option CellEntry) → IsSomeAnd o (λ cell. Unit {0}) → IsSome o
      from None h = absurd h
      from (Some cell) h = refl

  pub var_alike : (v : VarId) → var_value t v ≡ var_value s v
  var_alike v = ap (λ xs. slice_get xs v.0) k.vars

  leads_alike : (f : FieldId) (a b : CellId) → Leads types s DataAlone f a b → Leads types t DataAlone f a b
  leads_alike f a b h = record { kind = h.kind; value = k.fields a f (data_alone types f h.kind) ∙ h.value; live = live_alike b h.live }

  pub truth_alike : DoCellsFit types s → (a : CellId) (f : FieldId) (b : Bool) → field_value s a f ≡ Some (value.Bool b) → field_value t a f ≡ Some
      (value.Bool b)
  truth_alike fits a f b e = k.fields a f (truth_alone types s f b (value_kind types s fits a f (value.Bool b) e)) ∙ e

  names_alike : (vars : List VarEntry) (p : Place) (c : CellId) → Names types vars s p c → Names types vars t p c
  names_alike vars (place.Var v) c h = record { place = h.place; value = var_alike v ∙ h.value }
  names_alike vars (place.Field a f) c h = record { place = h.place; value = k.fields a f (data_alone types f h.place) ∙ h.value }

  along_alike : (fields : List FieldId) (a b : CellId) → LeadsAlong types s fields a b → LeadsAlong types t fields a b
  along_alike [] a b h = (h.0, live_alike a h.1)
  along_alike (f ∷ fields) a b h = (h.0, leads_alike f a h.0 h.1, along_alike fields h.0 b h.2)

  pub stands_alike : (vars : List VarEntry) (v : VarId) (fields : List FieldId) (c : CellId) → StandsAt types vars s v fields c → StandsAt types vars t v
      fields c
  stands_alike vars v fields c h = record {
    root = h.root;
    named = names_alike vars (place.Var v) h.root h.named;
    along = along_alike fields h.root c h.along;
  }

-- ---- what walks join

module _ (types : List TypeEntry) (s t : StoreMap) (fits : DoCellsFit types s) (other_fits : DoCellsFit types t) (k : IsSameButPointers types s t) where
  back : IsSameButPointers types t s
  back = alike_turned types s t k

  Matches-alike : Matches types DataAlone (Itself s) s t
  unfolding Itself
  Matches-alike = record {
    one = λ a c d h l. sym h.0 ∙ l.0;
    other = λ a b c h l. h.0 ∙ sym l.0;
    live = λ a c h. (h.1, subst (IsLive t) h.0 (live_alike types s t k a h.1));
    variant = λ a c h v. subst (λ x. IsOfVariant s v a ↔ IsOfVariant t v x) h.0
        (by_variant types s t k (λ w. w ≡ v) a, by_variant types t s back (λ w. w ≡ v) a);
    truth = λ a c h f b. subst (λ x. (field_value s a f ≡ Some (value.Bool b)) ↔ (field_value t x f ≡ Some (value.Bool b))) h.0
        (truth_alike types s t k fits a f b, truth_alike types t s back other_fits a f b);
    down = λ f a b c h leads. (b, (refl, leads.live), subst (λ x. Leads types t DataAlone f x b) h.0 (leads_alike types s t k f a b leads));
    up = λ f a b d h leads. (
      a,
      (refl, (Leads-live types s DataAlone f a b leads).0),
      subst (λ x. Leads types t DataAlone f a x) h.0 (leads_alike types s t k f a b leads),
    );
    down_back = λ f a c d h leads. let l = leads_alike types t s back f c d leads in
        (d, (refl, l.live), subst (λ x. Leads types s DataAlone f x d) (sym h.0) l);
    up_back = λ f b c d h leads. let l = leads_alike types t s back f c d leads in
        (c, (refl, (Leads-live types s DataAlone f c d l).0), subst (λ x. Leads types s DataAlone f c x) (sym h.0) l);
  }

  ends_alike : (kind : FieldKind) (c d : CellId) → EndsKind types s kind c d → EndsKind types t kind c d
  unfolding Itself
  ends_alike field.Bool c d h = h
  ends_alike (field.Data target) c d h = h
  ends_alike (field.Pointer target along) c d h = let live = Walk-live types s DataAlone along c d h.walk in record {
    walk = Walk-match types DataAlone (Itself s) s t Matches-alike along c d c d (refl, live.0) (refl, live.1) h.walk;
    of_target = by_variant types s t k (λ v. v.ty ≡ target) d h.of_target;
  }

  dest_alike : (c : CellId) (f : FieldId) (d : CellId) → Dest types s c f d → Dest types t c f d
  dest_alike c f d h = to (field_at types f) h
    where
      to : (o : Option FieldEntry) → IsSomeAnd o (λ entry. EndsKind types s entry.kind c d) → IsSomeAnd o (λ entry. EndsKind types t entry.kind c d)
      to None l = l
      to (Some entry) l = ends_alike entry.kind c d l

  -- ---- the backbone

  holds_alike : (target : TypeId) (x : Value) → HoldsOfType s target x → HoldsOfType t target x
  holds_alike target (value.Bool b) h = h
  holds_alike target (value.Cell None) h = tt
  holds_alike target (value.Cell (Some d)) h = by_variant types s t k (λ v. v.ty ≡ target) d h
  holds_alike target (value.Cells cells) h = h

  var_holds_alike : (kind : VarKind) (x : Value) → VarHoldsLive s kind x → VarHoldsLive t kind x
  var_holds_alike var.Bool x h = tt
  var_holds_alike (var.Data target) x h = holds_alike target x h
  var_holds_alike (var.Pointer target) x h = holds_alike target x h
  var_holds_alike (var.LogicSet target) x h = tt
  var_holds_alike var.LogicBool x h = tt

  field_holds_alike : (c : CellId) (f : FieldId) (o : Option FieldEntry) → field_at types f ≡ o →
      IfSome o (λ entry. IfSome (field_value s c f) (FieldHoldsLive s entry.kind)) → IfSome o
      (λ entry. IfSome (field_value t c f) (FieldHoldsLive t entry.kind))
  field_holds_alike c f None at h = tt
  field_holds_alike c f (Some entry) at h = by entry.kind refl h
    where
      by : (kind : FieldKind) → entry.kind ≡ kind → IfSome (field_value s c f) (FieldHoldsLive s kind) → IfSome (field_value t c f) (FieldHoldsLive t kind)
      by field.Bool is h = IfSome-from (field_value t c f) _ (λ x e. tt)
      by (field.Pointer target along) is h = IfSome-from (field_value t c f) _ (λ x e. tt)
      by (field.Data target) is h =
          let followed : IsSomeAnd (field_at types f) (λ e. IsFollowed DataAlone e.kind) =
          subst (λ o. IsSomeAnd o (λ e. IsFollowed DataAlone e.kind)) (sym at) (subst (λ kind. IsFollowed DataAlone kind) (sym is) tt) in
          IfSome-from (field_value t c f) _ (λ x e. holds_alike target x
          (IfSome-at (field_value s c f) _ x (sym (k.fields c f (data_alone types f followed)) ∙ e) h))

  chain_alike : {a b : CellId} → Chain s (IsParent types s) a b → Chain t (IsParent types t) a b
  unfolding Itself
  chain_alike {a = a} {b = b} chain =
      let l = Chain-matched types DataAlone (Itself s) s t Matches-alike
      (parent_down types DataAlone (Itself s) s t Matches-alike) chain a
      (refl, (Chain-live (IsParent-live types s) chain).0) in
      subst (λ x. Chain t (IsParent types t) a x) (sym l.1.0) l.2

  backbone_alike : (vars : List VarEntry) → IsBackbone types vars s → IsBackbone types vars t
  backbone_alike vars backbone = record {
    cell_vars = λ v. IfSome-from (var_at vars v) _ (λ entry at. IfSome-from (var_value t v) _ (λ x holds.
        var_holds_alike entry.kind x (IfSome-at (var_value s v) _ x (sym (var_alike types s t k v) ∙ holds)
        (IfSome-at (var_at vars v) _ entry at (backbone.cell_vars v)))));
    data_fields = λ c f. field_holds_alike c f (field_at types f) refl (backbone.data_fields c f);
    named_once = λ c p q live by_p by_q. backbone.named_once c p q (live_alike types t s back c live) (names_alike types t s back vars p c by_p)
        (names_alike types t s back vars q c by_q);
    reached = λ c live.
        let tree = backbone.reached c (live_alike types t s back c live) in (
          tree.0,
          record {
            root = tree.1.root;
            named = names_alike types s t k vars (place.Var tree.0) tree.1.root tree.1.named;
            path = chain_alike
                tree.1.path;
          },
        );
  }

pub AreAlike-same : (types : List TypeEntry) (s t : StoreMap) → DoCellsFit types s → DoCellsFit types t → IsSameButPointers types s t → AreAlike types s t
AreAlike-same types s t fits other k = let l = alike_turned types s t k in record {
  destinations = λ c f d. (dest_alike types s t fits other k c f d, dest_alike types t s other fits l c f d);
  backbones = λ vars. (backbone_alike types s t fits other k vars, backbone_alike types t s other fits l vars);
  paths = λ vars v fields c. (stands_alike types s t k vars v fields c, stands_alike types t s l vars v fields c);
}
