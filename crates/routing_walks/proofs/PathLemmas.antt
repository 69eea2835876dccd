-- Paths of data fields to the cells of a store.
use Rattle.std.proofs.Common.{◌≡◌, ◌+◌, List, [], ◌∷◌, ◌++◌, length, Some, refl, sym, ap, ◌∙◌, subst, arith, append_assoc, append-nil}
use Rattle.std.proofs.lemmas.List.{length-append}
use Rattle.store_core.specs.declared.ids.FieldId.{FieldId}
use Rattle.store_core.specs.declared.ids.VarId.{VarId}
use Rattle.store_core.specs.declared.ids.CellId.{CellId}
use Rattle.store_core.specs.declared.value.Value.TheVariants as value
use Rattle.store_core.specs.Tables.{TypeEntry, VarEntry}
use Rattle.store_core.specs.Stores.{StoreMap, IsLive}
use Rattle.routing_walks.specs.declared.fault.Place.{Place}
use Rattle.routing_walks.specs.declared.fault.Place.TheVariants as place
use Rattle.routing_walks.specs.Walks.{DataAlone, Leads, IsParent, Chain, stay, go}
use Rattle.routing_walks.specs.WellFormed.{Names, IsInTree, IsBackbone}
use Rattle.routing_walks.proofs.LiveLemmas.{Leads-live}
use Rattle.routing_walks.proofs.TreeLemmas.{Names-Leads}
use Rattle.routing_walks.specs.Paths.{LeadsAlong, StandsAt, HasOnePath, HasPath}

module _ (types : List TypeEntry) (s : StoreMap) where
  -- ---- paths and chains

  chain_along : {a b : CellId} → Chain s (IsParent types s) a b → (fields : List FieldId) × LeadsAlong types s fields a b
  chain_along (stay a live) = ([], (refl, live))
  chain_along (go a b c step chain) = let rest = chain_along chain in (step.field ∷ rest.0, (b, step.leads, rest.1))

  along_chain : (fields : List FieldId) (a b : CellId) → LeadsAlong types s fields a b → Chain s (IsParent types s) a b
  along_chain [] a b h = subst (λ x. Chain s (IsParent types s) a x) h.0 (stay a h.1)
  along_chain (f ∷ fields) a b h = go a h.0 b (record { field = f; leads = h.1 }) (along_chain fields h.0 b h.2)

  -- fields that lead from one cell lead to one cell
  along_one : (fields : List FieldId) (a b c : CellId) → LeadsAlong types s fields a b → LeadsAlong types s fields a c → b ≡ c
  along_one [] a b c h k = sym h.0 ∙ k.0
  along_one (f ∷ fields) a b c h k =
      let both : Some (value.Cell (Some h.0)) ≡ Some (value.Cell (Some k.0)) = sym h.1.value ∙ k.1.value in
      let same : h.0 ≡ k.0 = cc in
      along_one fields k.0 b c (subst (λ x. LeadsAlong types s fields x b) same h.2) k.2

  along_join : (fields more : List FieldId) (a b c : CellId) → LeadsAlong types s fields a b → LeadsAlong types s more b c
      → LeadsAlong types s (fields ++ more) a c
  along_join [] more a b c h k = subst (λ x. LeadsAlong types s more x c) (sym h.0) k
  along_join (f ∷ fields) more a b c h k = (h.0, h.1, along_join fields more h.0 b c h.2 k)

  -- ---- taken apart at the end

  data BackPath (r : CellId) : List FieldId → CellId → Type 0 where
    here : IsLive s r → BackPath r [] r
    step_to : (fields : List FieldId) (b : CellId) (f : FieldId) (c : CellId) → BackPath r fields b → Leads types s DataAlone f b c →
        BackPath r (fields ++ f ∷ []) c

  back_from : (before fields : List FieldId) (r b c : CellId) → BackPath r before b → LeadsAlong types s fields b c → BackPath r (before ++ fields) c
  back_from before [] r b c back h = subst (λ l. BackPath r l c) (sym (append-nil before)) (subst (λ x. BackPath r before x) h.0 back)
  back_from before (f ∷ fields) r b c back h = subst (λ l. BackPath r l c) (append_assoc before (f ∷ []) fields)
      (back_from (before ++ f ∷ []) fields r h.0 c (step_to before b f h.0 back h.1) h.2)

  along_live : (fields : List FieldId) (a b : CellId) → LeadsAlong types s fields a b → IsLive s a
  along_live [] a b h = h.1
  along_live (f ∷ fields) a b h = (Leads-live types s DataAlone f a h.0 h.1).0

  along_back : (fields : List FieldId) (r c : CellId) → LeadsAlong types s fields r c → BackPath r fields c
  along_back fields r c h = back_from [] fields r r c (here (along_live fields r c h)) h

module _ (types : List TypeEntry) (vars : List VarEntry) (s : StoreMap) where
  -- a tree's cells are those at its paths
  pub HasPath-IsInTree : (v : VarId) (c : CellId) → HasPath types vars s v c → IsInTree types vars s v c
  HasPath-IsInTree v c h = record { root = h.at.root; named = h.at.named; path = along_chain types s h.fields h.at.root c h.at.along }

  pub IsInTree-HasPath : (v : VarId) (c : CellId) → IsInTree types vars s v c → HasPath types vars s v c
  IsInTree-HasPath v c h = let path = chain_along types s h.path in
      record { fields = path.0; at = record { root = h.root; named = h.named; along = path.1 } }

  pub StandsAt-one : (v : VarId) (fields : List FieldId) (c d : CellId) → StandsAt types vars s v fields c → StandsAt types vars s v fields d → c ≡ d
  StandsAt-one v fields c d h k =
      let both : Some (value.Cell (Some h.root)) ≡ Some (value.Cell (Some k.root)) = sym h.named.value ∙ k.named.value in
      let same : h.root ≡ k.root = cc in
      along_one types s fields k.root c d (subst (λ x. LeadsAlong types s fields x c) same h.along) k.along

  module _ (once : (c : CellId) (p q : Place) → IsLive s c → Names types vars s p c → Names types vars s q c → p ≡ q) where
    var_same : (v w : VarId) → place.Var v ≡ place.Var w → v ≡ w
    var_same v w e = cc

    cell_same : (a b : CellId) (f g : FieldId) → place.Field a f ≡ place.Field b g → a ≡ b
    cell_same a b f g e = cc

    field_same : (a b : CellId) (f g : FieldId) → place.Field a f ≡ place.Field b g → f ≡ g
    field_same a b f g e = cc

    apart : (v : VarId) (a : CellId) (f : FieldId) → place.Var v ≡ place.Field a f → ⊥
    apart v a f e = cc

    back_one : (v w : VarId) (r q : CellId) → Names types vars s (place.Var v) r → Names types vars s (place.Var w) q →
        {fields others : List FieldId} {c : CellId} → BackPath types s r fields c → BackPath types s q others c → (v ≡ w) × (fields ≡ others)
    back_one v w r q by_v by_w (here h) (here k) = (var_same v w (once _ _ _ h by_v by_w), refl)
    back_one v w r q by_v by_w (here h) (step_to others b g c two leads) =
        absurd (apart v b g (once _ _ _ h by_v (Names-Leads types vars s g b c leads)))
    back_one v w r q by_v by_w (step_to fields a f c one leads) (here h) =
        absurd (apart w a f (once _ _ _ h by_w (Names-Leads types vars s f a c leads)))
    back_one v w r q by_v by_w (step_to fields a f c one leads) (step_to others b g d two other) =
        let same = once _ _ _ leads.live (Names-Leads types vars s f a _ leads) (Names-Leads types vars s g b _ other) in
        let rest = back_one v w r q by_v by_w one (subst (λ x. BackPath types s q others x) (sym (cell_same a b f g same)) two) in
        (rest.0, ap (λ l. l ++ f ∷ []) rest.1 ∙ ap (λ x. others ++ x ∷ []) (field_same a b f g same))

    pub path_one : (v w : VarId) (fields others : List FieldId) (c : CellId) → StandsAt types vars s v fields c → StandsAt types vars s w others c →
        (v ≡ w) × (fields ≡ others)
    path_one v w fields others c h k =
        back_one v w h.root k.root h.named k.named (along_back types s fields h.root c h.along) (along_back types s others k.root c k.along)

  pub HasOnePath-backbone : IsBackbone types vars s → (c : CellId) → IsLive s c → HasOnePath types vars s c
  HasOnePath-backbone backbone c live =
      let tree = backbone.reached c live in
      let path = IsInTree-HasPath tree.0 c tree.1 in
      record {
        var = tree.0;
        fields = path.fields;
        at = path.at;
        only = λ v others at. path_one backbone.named_once v tree.0 others path.fields c at path.at;
      }

  no_more : (fields more : List FieldId) → fields ++ more ≡ fields → more ≡ []
  no_more fields [] e = refl
  no_more fields (f ∷ more) e =
      let count : length fields + length (f ∷ more) ≡ length fields = sym (length-append fields (f ∷ more)) ∙ ap length e in
      absurd (omega (arith, count))

  -- no fields lead from a cell to itself
  pub no_cycle : IsBackbone types vars s → (fields : List FieldId) (c : CellId) → LeadsAlong types s fields c c → fields ≡ []
  no_cycle backbone fields c h =
      let path = HasOnePath-backbone backbone c (along_live types s fields c c h) in
      no_more path.fields fields
      (path.only path.var (path.fields ++ fields) (record {
        root = path.at.root;
        named = path.at.named;
        along = along_join types s path.fields fields path.at.root c c path.at.along h;
      })).1
