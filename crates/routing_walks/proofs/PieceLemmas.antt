-- Backbones taken apart into pieces and put together.
use Rattle.std.proofs.Common.{◌≡◌, ◌⊎◌, inl, inr, Bool, true, false, List, [], Option, Some, None, IsSome, IsSomeAnd, IfSome, refl, sym, ap, ◌∙◌}
use Rattle.std.proofs.Common.{subst, Contains, if◌then◌else◌}
use Rattle.std.specs.Prelude.{option_map}
use Rattle.std.proofs.lemmas.Option.{slice_get-map}
use Rattle.store_core.specs.declared.ids.TypeId.{TypeId}
use Rattle.store_core.specs.declared.ids.FieldId.{FieldId}
use Rattle.store_core.specs.declared.ids.VarId.{VarId}
use Rattle.store_core.specs.declared.ids.CellId.{CellId}
use Rattle.store_core.specs.declared.kind.FieldKind.{FieldKind}
use Rattle.store_core.specs.declared.kind.FieldKind.TheVariants as field
use Rattle.store_core.specs.declared.kind.VarKind.{VarKind}
use Rattle.store_core.specs.declared.kind.VarKind.TheVariants as var
use Rattle.store_core.specs.declared.value.Value.{Value}
use Rattle.store_core.specs.declared.value.Value.TheVariants as value
use Rattle.store_core.specs.Tables.{TypeEntry, VarEntry, FieldEntry, field_at, var_at}
use Rattle.store_core.specs.Stores.{StoreMap, CellEntry, IsLive, cell_of, field_value, var_value}
use Rattle.store_core.proofs.FittingLemmas.{IfSome-from, IfSome-at}
use Rattle.routing_walks.specs.declared.fault.Place.{Place}
use Rattle.routing_walks.specs.declared.fault.Place.TheVariants as place
use Rattle.routing_walks.specs.Walks.{DataAlone, IsFollowed, IsParent, IsOfType, Chain, stay, go}
use Rattle.routing_walks.specs.WellFormed.{Names, IsInTree, NamesDead, IsDanglingReference, HoldsOfType, VarHoldsLive, FieldHoldsLive, IsBackbone}
use Rattle.routing_walks.specs.Regions.{has_number, IsOn, IsRest, IsApart}
use Rattle.routing_walks.proofs.LiveLemmas.{IsLive-field_value, IsOfType-live}
use Rattle.routing_walks.specs.Pieces.{value_on, piece_on}
use Rattle.routing_walks.proofs.DecidedLemmas.{decided_in}
use Rattle.routing_walks.proofs.DecidedWalks.{decided_same_cell}
use Rattle.routing_walks.proofs.RegionLemmas.{number_in, in_number, store_on-IsOn, live_on, on_live, leads_off, chain_on}
use Rattle.routing_walks.proofs.RegionLemmas.{value_on as field_on}

module _ (cells : List CellId) (s : StoreMap) where
  -- a piece has its cells
  pub piece_on-IsOn : IsOn cells s (piece_on s cells)
  piece_on-IsOn = let h = store_on-IsOn s cells in record { inside = h.inside; outside = h.outside }

  pub var_on : (v : VarId) → var_value (piece_on s cells) v ≡ option_map (value_on cells) (var_value s v)
  var_on v = slice_get-map (value_on cells) s.vars v.0

  kept_cell : (d c : CellId) (b : Bool) → has_number cells d.0 ≡ b → Some (value.Cell (if b then Some d else None)) ≡ Some (value.Cell (Some c)) →
      (Some (value.Cell (Some d)) ≡ Some (value.Cell (Some c))) × Contains cells c
  kept_cell d c true is e = (e, let same : d ≡ c = cc in subst (λ x. Contains cells x) same (in_number cells d is))
  kept_cell d c false is e = cc

  off_piece : (o : Option Value) (c : CellId) → option_map (value_on cells) o ≡ Some (value.Cell (Some c)) → (o ≡ Some (value.Cell (Some c))) × Contains cells c
  off_piece None c e = cc
  off_piece (Some (value.Bool truth)) c e = cc
  off_piece (Some (value.Cell None)) c e = cc
  off_piece (Some (value.Cell (Some d))) c e = kept_cell d c (has_number cells d.0) refl e
  off_piece (Some (value.Cells others)) c e = cc

  cell_kept : (c : CellId) → Contains cells c → value_on cells (value.Cell (Some c)) ≡ value.Cell (Some c)
  cell_kept c m = ap (λ b. value.Cell (if b then Some c else None)) (number_in cells c m)

  onto_piece : (v : VarId) (c : CellId) → Contains cells c → var_value s v ≡ Some (value.Cell (Some c))
      → var_value (piece_on s cells) v ≡ Some (value.Cell (Some c))
  onto_piece v c m e = var_on v ∙ ap (option_map (value_on cells)) e ∙ ap (λ x. Some x) (cell_kept c m)

  pub type_on : (target : TypeId) (c : CellId) → Contains cells c → IsOfType s target c → IsOfType (piece_on s cells) target c
  type_on target c m h = subst (λ o. IsSomeAnd o (λ cell. cell.variant.ty ≡ target)) (sym (piece_on-IsOn.inside c m)) h

  pub type_off : (target : TypeId) (c : CellId) → IsOfType (piece_on s cells) target c → IsOfType s target c
  type_off target c h = let m = (live_on cells s (piece_on s cells) piece_on-IsOn c (IsOfType-live [] (piece_on s cells) target c h)).0 in
      subst (λ o. IsSomeAnd o (λ cell. cell.variant.ty ≡ target)) (piece_on-IsOn.inside c m) h

  pub value_off : (c : CellId) (f : FieldId) (x : Value) → field_value (piece_on s cells) c f ≡ Some x → Contains cells c × (field_value s c f ≡ Some x)
  value_off c f x e = let m = (live_on cells s (piece_on s cells) piece_on-IsOn c (IsLive-field_value (piece_on s cells) c f x e)).0 in
      (m, sym (field_on cells s (piece_on s cells) piece_on-IsOn c f m) ∙ e)

  pub type_kept : (target : TypeId) (d : CellId) (b : Bool) → has_number cells d.0 ≡ b → IsOfType s target d →
      IfSome (if b then Some d else None) (IsOfType (piece_on s cells) target)
  type_kept target d true is h = type_on target d (in_number cells d is) h
  type_kept target d false is h = tt

  holds_on : (target : TypeId) (x : Value) → HoldsOfType s target x → HoldsOfType (piece_on s cells) target (value_on cells x)
  holds_on target (value.Bool truth) h = h
  holds_on target (value.Cell None) h = tt
  holds_on target (value.Cell (Some d)) h = type_kept target d (has_number cells d.0) refl h
  holds_on target (value.Cells others) h = h

  var_holds_on : (kind : VarKind) (x : Value) → VarHoldsLive s kind x → VarHoldsLive (piece_on s cells) kind (value_on cells x)
  var_holds_on var.Bool x h = tt
  var_holds_on (var.Data target) x h = holds_on target x h
  var_holds_on (var.Pointer target) x h = holds_on target x h
  var_holds_on (var.LogicSet target) x h = tt
  var_holds_on var.LogicBool x h = tt

  -- a fact of a variable's value, and of its value in the piece
  pub at_piece : (P Q : Value → Type 0) → ((x : Value) → P x → Q (value_on cells x)) → (v : VarId) → IfSome (var_value s v) P →
      IfSome (var_value (piece_on s cells) v) Q
  at_piece P Q each v h = subst (λ o. IfSome o Q) (sym (var_on v)) (opened (var_value s v) h)
    where
      opened : (o : Option Value) → IfSome o P → IfSome (option_map (value_on cells) o) Q
      opened None h = tt
      opened (Some x) h = each x h

  -- the value of a variable in the piece, by its value in the store
  pub in_piece : (Q : Value → Type 0) (v : VarId) (x : Value) → var_value s v ≡ Some x → IfSome (var_value (piece_on s cells) v) Q → Q (value_on cells x)
  in_piece Q v x at h = IfSome-at (var_value (piece_on s cells) v) Q (value_on cells x) (var_on v ∙ ap (option_map (value_on cells)) at) h

  module _ (types : List TypeEntry) (vars : List VarEntry) where
    names_off : (p : Place) (c : CellId) → Names types vars (piece_on s cells) p c → Names types vars s p c
    names_off (place.Var v) c h = record { place = h.place; value = (off_piece (var_value s v) c (sym (var_on v) ∙ h.value)).0 }
    names_off (place.Field a f) c h = record { place = h.place; value = (value_off a f _ h.value).1 }

    chain_off : {a b : CellId} → Chain (piece_on s cells) (IsParent types (piece_on s cells)) a b → Chain s (IsParent types s) a b
    chain_off (stay a live) = stay a (live_on cells s (piece_on s cells) piece_on-IsOn a live).1
    chain_off (go a b c step chain) =
        let leads = leads_off cells s (piece_on s cells) piece_on-IsOn types DataAlone step.field a b step.leads in
        go a b c (record { field = step.field; leads = leads.2 }) (chain_off chain)

    module _ (whole : IsApart types s DataAlone cells) where
      names_on : (p : Place) (c : CellId) → IsLive s c → Contains cells c → Names types vars s p c → Names types vars (piece_on s cells) p c
      names_on (place.Var v) c live m h = record { place = h.place; value = onto_piece v c m h.value }
      names_on (place.Field a f) c live m h =
          let from = (whole f a c (record { kind = h.place; value = h.value; live = live })).1 m in
          record { place = h.place; value = field_on cells s (piece_on s cells) piece_on-IsOn a f from ∙ h.value }

      field_holds_on : (c : CellId) (f : FieldId) (entry : FieldEntry) (kind : FieldKind) (x : Value) → field_at types f ≡ Some entry → entry.kind ≡ kind →
          Contains cells c → field_value s c f ≡ Some x → FieldHoldsLive s kind x → FieldHoldsLive (piece_on s cells) kind x
      field_holds_on c f entry field.Bool x at is m holds h = tt
      field_holds_on c f entry (field.Data target) (value.Bool truth) at is m holds h = h
      field_holds_on c f entry (field.Data target) (value.Cell None) at is m holds h = tt
      field_holds_on c f entry (field.Data target) (value.Cell (Some d)) at is m holds h =
          type_on target d ((whole f c d (record {
            kind = subst (λ o. IsSomeAnd o (λ e. IsFollowed DataAlone e.kind)) (sym at) (subst (IsFollowed DataAlone) (sym is) tt);
            value = holds;
            live = IsOfType-live types s target d h;
          })).0 m) h
      field_holds_on c f entry (field.Data target) (value.Cells others) at is m holds h = h
      field_holds_on c f entry (field.Pointer target along) x at is m holds h = tt

      -- a piece of a backbone is one
      pub backbone_on : IsBackbone types vars s → IsBackbone types vars (piece_on s cells)
      backbone_on backbone = record {
        cell_vars = λ v. IfSome-from (var_at vars v) _ (λ entry at.
            at_piece (VarHoldsLive s entry.kind) (VarHoldsLive (piece_on s cells) entry.kind) (var_holds_on entry.kind) v
            (IfSome-at (var_at vars v) _ entry at (backbone.cell_vars v)));
        data_fields = λ c f. IfSome-from (field_at types f) _ (λ entry at. IfSome-from (field_value (piece_on s cells) c f) _ (λ x holds.
            let off = value_off c f x holds in
            field_holds_on c f entry entry.kind x at refl off.0 off.1
            (IfSome-at (field_value s c f) _ x off.1 (IfSome-at (field_at types f) _ entry at (backbone.data_fields c f)))));
        named_once = λ c p q live by_p by_q.
            backbone.named_once c p q (live_on cells s (piece_on s cells) piece_on-IsOn c live).1 (names_off p c by_p) (names_off q c by_q);
        reached = λ c live.
            let here = live_on cells s (piece_on s cells) piece_on-IsOn c live in
            let tree = backbone.reached c here.1 in
            let path = chain_on cells s (piece_on s cells) piece_on-IsOn types whole tree.1.path here.0 in (
              tree.0,
              record {
                root = tree.1.root;
                named = record { place = tree.1.named.place; value = onto_piece tree.0 tree.1.root path.0 tree.1.named.value };
                path = path.1;
              },
            );
      }

      -- ---- what a piece that is a backbone says of the store

      module _ (backbone : IsBackbone types vars (piece_on s cells)) where
        field_off : (target : TypeId) (x : Value) → HoldsOfType (piece_on s cells) target x → HoldsOfType s target x
        field_off target (value.Bool truth) h = h
        field_off target (value.Cell None) h = tt
        field_off target (value.Cell (Some d)) h = type_off target d h
        field_off target (value.Cells others) h = h

        field_holds_off : (kind : FieldKind) (x : Value) → FieldHoldsLive (piece_on s cells) kind x → FieldHoldsLive s kind x
        field_holds_off field.Bool x h = tt
        field_holds_off (field.Data target) x h = field_off target x h
        field_holds_off (field.Pointer target along) x h = tt

        pub data_off : (c : CellId) (f : FieldId) → Contains cells c
            → IfSome (field_at types f) (λ entry. IfSome (field_value s c f) (FieldHoldsLive s entry.kind))
        data_off c f m = IfSome-from (field_at types f) _ (λ entry at. IfSome-from (field_value s c f) _ (λ x holds.
            field_holds_off entry.kind x (IfSome-at (field_value (piece_on s cells) c f) _ x
            (field_on cells s (piece_on s cells) piece_on-IsOn c f m ∙ holds)
            (IfSome-at (field_at types f) _ entry at (backbone.data_fields c f)))))

        pub once_off : (c : CellId) (p q : Place) → IsLive s c → Contains cells c → Names types vars s p c → Names types vars s q c → p ≡ q
        once_off c p q live m by_p by_q = backbone.named_once c p q (on_live cells s (piece_on s cells) piece_on-IsOn c m live)
            (names_on p c live m by_p) (names_on q c live m by_q)

        pub reached_off : (c : CellId) → IsLive s c → Contains cells c → (v : VarId) × IsInTree types vars s v c
        reached_off c live m =
            let tree = backbone.reached c (on_live cells s (piece_on s cells) piece_on-IsOn c m live) in (
              tree.0,
              record {
                root = tree.1.root;
                named = names_off (place.Var tree.0) tree.1.root tree.1.named;
                path = chain_off tree.1.path;
              },
            )

        of_kept : (target : TypeId) (d : CellId) → Contains cells d → HoldsOfType (piece_on s cells) target (value_on cells (value.Cell (Some d)))
            → IsOfType s target d
        of_kept target d m h = type_off target d (subst (HoldsOfType (piece_on s cells) target) (cell_kept d m) h)

        pub var_off : (v : VarId) (entry : VarEntry) (x : Value) → var_at vars v ≡ Some entry → var_value s v ≡ Some x →
            VarHoldsLive (piece_on s cells) entry.kind (value_on cells x)
        var_off v entry x at holds = in_piece (VarHoldsLive (piece_on s cells) entry.kind) v x holds
            (IfSome-at (var_at vars v) _ entry at (backbone.cell_vars v))

-- ---- two pieces that are all of the store

module _ (types : List TypeEntry) (vars : List VarEntry) (s : StoreMap) (cells rest : List CellId) (is : IsRest s cells rest)
    (whole : IsApart types s DataAlone cells) (other_whole : IsApart types s DataAlone rest) where
  pub side : (c : CellId) → IsLive s c → Contains cells c ⊎ Contains rest c
  side c live = elim (decided_in decided_same_cell cells c) [ inl m ↦ inl m | inr out ↦ inr ((is.members c).1 (live, out)) ]

  pub live_from : (o : Option CellEntry) → (o ≡ None → ⊥) → IsSome o
  live_from None h = absurd (h refl)
  live_from (Some cell) h = refl

  module _ (named : (v : VarId) → IsDanglingReference s (place.Var v) → ⊥) (one : IsBackbone types vars (piece_on s cells))
      (other : IsBackbone types vars (piece_on s rest)) where
    var_live : (v : VarId) (d : CellId) → var_value s v ≡ Some (value.Cell (Some d)) → IsLive s d
    var_live v d holds = live_from (cell_of s d) (λ dead. named v (subst (λ o. IsSomeAnd o (NamesDead s)) (sym holds) dead))

    holds_from : (target : TypeId) (v : VarId) (x : Value) → var_value s v ≡ Some x → HoldsOfType (piece_on s cells) target (value_on cells x) →
        HoldsOfType (piece_on s rest) target (value_on rest x) → HoldsOfType s target x
    holds_from target v (value.Bool truth) holds h k = h
    holds_from target v (value.Cell None) holds h k = tt
    holds_from target v (value.Cell (Some d)) holds h k = elim (side d (var_live v d holds)) [
      | inl m ↦ of_kept cells s types vars whole one target d m h
      | inr m ↦ of_kept rest s types vars other_whole other target d m k
    ]
    holds_from target v (value.Cells others) holds h k = h

    var_holds_from : (kind : VarKind) (v : VarId) (x : Value) → var_value s v ≡ Some x → VarHoldsLive (piece_on s cells) kind (value_on cells x) →
        VarHoldsLive (piece_on s rest) kind (value_on rest x) → VarHoldsLive s kind x
    var_holds_from var.Bool v x holds h k = tt
    var_holds_from (var.Data target) v x holds h k = holds_from target v x holds h k
    var_holds_from (var.Pointer target) v x holds h k = holds_from target v x holds h k
    var_holds_from (var.LogicSet target) v x holds h k = tt
    var_holds_from var.LogicBool v x holds h k = tt

    pub backbone_from_pieces : IsBackbone types vars s
    backbone_from_pieces = record {
      cell_vars = λ v. IfSome-from (var_at vars v) _ (λ entry at. IfSome-from (var_value s v) _ (λ x holds.
          var_holds_from entry.kind v x holds (var_off cells s types vars whole one v entry x at holds)
          (var_off rest s types vars other_whole other v entry x at holds)));
      data_fields = λ c f. IfSome-from (field_at types f) _ (λ entry at. IfSome-from (field_value s c f) _ (λ x holds.
          IfSome-at (field_value s c f) _ x holds (IfSome-at (field_at types f) _ entry at
          (elim (side c (IsLive-field_value s c f x holds)) [
            | inl m ↦ data_off cells s types vars whole one c f m
            | inr m ↦ data_off rest s types vars other_whole other c f m
          ]))));
      named_once = λ c p q live by_p by_q. elim (side c live) [
        | inl m ↦ once_off cells s types vars whole one c p q live m by_p by_q
        | inr m ↦ once_off rest s types vars other_whole other c p q live m by_p by_q
      ];
      reached = λ c live. elim (side c live) [
        | inl m ↦ reached_off cells s types vars whole one c live m
        | inr m ↦ reached_off rest s types vars other_whole other c live m
      ];
    }
