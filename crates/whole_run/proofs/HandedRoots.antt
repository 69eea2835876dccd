-- The store that is handed to a callee is well-formed.
use Rattle.std.proofs.Common.{◌≡◌, ◌≢◌, inl, inr, ℕ, Bool, true, false, not, IsTrue, List, [], ◌∷◌, ◌++◌, map, slice_get}
use Rattle.std.proofs.Common.{Option, Some, None, IsSomeAnd, IfSome, Contains, if◌then◌else◌, unwrap_or, refl, sym, ap, ◌∙◌, subst, arith}
use Rattle.std.specs.Prelude.{option_map}
use Rattle.std.specs.List.{AllByRecursion, AllZip, AllPairs}
use Rattle.std.specs.Option.{option_map_or}
use Rattle.std.proofs.lemmas.Bool.{false≢true}
use Rattle.std.proofs.lemmas.Option.{slice_get-map}
use Rattle.std.proofs.lemmas.List.Elements.{All-from_recursion}
use Rattle.store_core.specs.declared.ids.TypeId.{TypeId}
use Rattle.store_core.specs.declared.ids.VarId.{VarId}
use Rattle.store_core.specs.declared.ids.CellId.{CellId}
use Rattle.store_core.specs.declared.kind.VarKind.{VarKind}
use Rattle.store_core.specs.declared.kind.VarKind.TheVariants as var
use Rattle.store_core.specs.declared.value.Value.{Value}
use Rattle.store_core.specs.declared.value.Value.TheVariants as value
use Rattle.store_core.specs.Tables.{TypeEntry, VarEntry, var_at}
use Rattle.store_core.specs.Stores.{StoreMap, IsLive, var_value, blank, var_class, VarFits, VarsFit, NamesLiveAlone}
use Rattle.store_core.proofs.FittingLemmas.{IfSome-from, IfSome-at, IsSomeAnd-at}
use Rattle.routing_walks.specs.declared.fault.Place.TheVariants as place
use Rattle.routing_walks.specs.Walks.{DataAlone, IsParent, IsOfType, IsRoot, Chain, stay, go}
use Rattle.routing_walks.specs.Regions.{IsPart, IsOn, IsApart}
use Rattle.routing_walks.specs.WellFormed.{Names, IsDataVar, VarHoldsLive, HoldsOfType, SetHoldsLive, IsWellFormed}
use Rattle.routing_walks.proofs.FreshLemmas.{IsFresh-well_formed}
use Rattle.routing_walks.specs.Pieces.{value_on, piece_on}
use Rattle.routing_walks.specs.Hanging.{NamesRoots, AreHeld}
use Rattle.routing_walks.proofs.RegionLemmas.{part_apart, live_on, on_live, chain_on, leads_off}
use Rattle.routing_walks.proofs.HangingLemmas.{no_parent, well_formed_hangs}
use Rattle.routing_walks.proofs.PieceLemmas.{piece_on-IsOn}
use Rattle.routing_walks.proofs.PieceForms.{fits_on, well_formed_on}
use Rattle.store_logic.specs.Terms.{null}
use Rattle.store_exec.specs.Steps.{variable}
use Rattle.pale_calls.specs.declared.actual.Actual.{Actual}
use Rattle.pale_calls.specs.declared.actual.Actual.TheVariants as actual
use Rattle.pale_calls.specs.declared.class.VarClass.TheVariants as class
use Rattle.pale_calls.specs.Classes.{class_of, holds_cell, holds_truth, is_logic}
use Rattle.pale_typed.specs.declared.typed.CallParts.{CallParts}
use Rattle.pale_typed.specs.declared.typed.ProcEntry.{ProcEntry}
use Rattle.pale_typed.specs.Variables.{numbers}
use Rattle.pale_typed.specs.Fitting.{kind_at, IsLogicVariable, IsProgramVariable, ActualFits, cell_in, cells_in}
use Rattle.hoare_split.specs.Picking.{class_at, is_data}
use Rattle.hoare_split.specs.Calls.{handed_by}
use Rattle.whole_run.specs.Handing.{handed_value, blank_at, handed_vars, handed_store}
use Rattle.whole_run.proofs.Zips.{zip_get, vars_fit}
use Rattle.whole_run.proofs.Handed.{some_same, value_there, kind_entry, handed_at, once_at, From, of_arg, of_blank, of_logic}
use Rattle.whole_run.proofs.Handed.{told, source, args_given, on_cell, cell_kept}

-- ---- kinds

pub data_named : (table : List VarEntry) (u : VarId) (kind : VarKind) → kind_at table u ≡ Some kind → IsDataVar kind →
    IsSomeAnd (var_at table u) (λ (e : VarEntry). IsDataVar e.kind)
data_named table u kind is held =
    let e = kind_entry table u kind is in
    subst (λ (o : Option VarEntry). IsSomeAnd o (λ (e : VarEntry). IsDataVar e.kind)) (sym e.1) (subst IsDataVar (sym e.2) held)

pub named_data : (table : List VarEntry) (u : VarId) (kind : VarKind) → kind_at table u ≡ Some kind →
    IsSomeAnd (var_at table u) (λ (e : VarEntry). IsDataVar e.kind) → IsDataVar kind
named_data table u kind is h =
    let e = kind_entry table u kind is in
    subst IsDataVar e.2 (let k : IsDataVar e.0.kind = subst (λ (o : Option VarEntry). IsSomeAnd o (λ (e : VarEntry). IsDataVar e.kind)) e.1 h in k)

data_class : (kind : VarKind) → is_data (class_of kind) ≡ true → IsDataVar kind
data_class var.Bool is = absurd (false≢true is)
data_class (var.Data ty) is = tt
data_class (var.Pointer ty) is = absurd (false≢true is)
data_class (var.LogicSet ty) is = absurd (false≢true is)
data_class var.LogicBool is = absurd (false≢true is)

pub data_kind : (table : List VarEntry) (u : VarId) (kind : VarKind) → kind_at table u ≡ Some kind → is_data (class_at table u) ≡ true → IsDataVar kind
data_kind table u kind is h =
    let e = kind_entry table u kind is in
    data_class kind (sym (ap (λ (o : Option VarEntry). is_data (option_map_or (λ (e : VarEntry). class_of e.kind) o class.Bool)) e.1
    ∙ ap (λ (k : VarKind). is_data (class_of k)) e.2) ∙ h)

data_cells : (kind : VarKind) → IsDataVar kind → holds_cell (class_of kind) ≡ true
data_cells var.Bool h = absurd h
data_cells (var.Data ty) h = refl
data_cells (var.Pointer ty) h = absurd h
data_cells (var.LogicSet ty) h = absurd h
data_cells var.LogicBool h = absurd h

pub cell_alone : (vars : List VarEntry) (w : VarId) (kind : VarKind) → kind_at vars w ≡ Some kind → IsDataVar kind → cell_in vars (actual.Var w) ≡ w ∷ []
cell_alone vars w kind is held =
    ap (λ (o : Option VarKind). if option_map_or (λ kind. holds_cell (class_of kind)) o false then w ∷ [] else []) is
    ∙ ap (λ (b : Bool). if b then w ∷ [] else []) (data_cells kind held)

data_or_logic : (kind : VarKind) → IsDataVar kind → IsTrue (is_logic (class_of kind)) → ⊥
data_or_logic var.Bool h k = h
data_or_logic (var.Data ty) h k = false≢true k
data_or_logic (var.Pointer ty) h k = h
data_or_logic (var.LogicSet ty) h k = h
data_or_logic var.LogicBool h k = h

data_blank : (kind : VarKind) → IsDataVar kind → blank (var_class kind) ≡ null
data_blank var.Bool h = absurd h
data_blank (var.Data ty) h = refl
data_blank (var.Pointer ty) h = absurd h
data_blank (var.LogicSet ty) h = absurd h
data_blank var.LogicBool h = absurd h

pub blank_fits : (s : StoreMap) (kind : VarKind) → VarFits s kind (blank (var_class kind))
blank_fits s var.Bool = tt
blank_fits s (var.Data ty) = tt
blank_fits s (var.Pointer ty) = tt
blank_fits s (var.LogicSet ty) = (tt, tt)
blank_fits s var.LogicBool = tt

blank_sets : (s : StoreMap) (kind : VarKind) → SetHoldsLive s kind (blank (var_class kind))
blank_sets s var.Bool = tt
blank_sets s (var.Data ty) = tt
blank_sets s (var.Pointer ty) = tt
blank_sets s (var.LogicSet ty) = All-from_recursion (IsOfType s ty) [] tt
blank_sets s var.LogicBool = tt

blank_live : (s : StoreMap) (kind : VarKind) → VarHoldsLive s kind (blank (var_class kind))
blank_live s var.Bool = tt
blank_live s (var.Data ty) = tt
blank_live s (var.Pointer ty) = tt
blank_live s (var.LogicSet ty) = tt
blank_live s var.LogicBool = tt

-- null or a truth value, as its kind has it
record Plain (s : StoreMap) (kind : VarKind) (x : Value) : Type 0 where
  fits : VarFits s kind x
  sets : SetHoldsLive s kind x
  live : VarHoldsLive s kind x

plain_null : (s : StoreMap) (kind : VarKind) → IsTrue (holds_cell (class_of kind)) → Plain s kind null
plain_null s var.Bool h = absurd (false≢true h)
plain_null s (var.Data ty) h = record { fits = tt; sets = tt; live = tt }
plain_null s (var.Pointer ty) h = record { fits = tt; sets = tt; live = tt }
plain_null s (var.LogicSet ty) h = absurd (false≢true h)
plain_null s var.LogicBool h = absurd (false≢true h)

plain_truth : (s : StoreMap) (kind : VarKind) (truth : Bool) → IsTrue (holds_truth (class_of kind)) → Plain s kind (value.Bool truth)
plain_truth s var.Bool truth h = record { fits = tt; sets = tt; live = tt }
plain_truth s (var.Data ty) truth h = absurd (false≢true h)
plain_truth s (var.Pointer ty) truth h = absurd (false≢true h)
plain_truth s (var.LogicSet ty) truth h = absurd (false≢true h)
plain_truth s var.LogicBool truth h = record { fits = tt; sets = tt; live = tt }

-- ---- stores with the same cells, whose variables and next number are others

module _ (s : StoreMap) (xs : List Value) (n : ℕ) where
  abbrev t : StoreMap
  t = record s { vars = xs; next = n }

  pub var_same : (kind : VarKind) (x : Value) → VarFits s kind x → VarFits t kind x
  var_same var.Bool (value.Bool b) h = h
  var_same var.Bool (value.Cell c) h = h
  var_same var.Bool (value.Cells cs) h = h
  var_same (var.Data ty) (value.Bool b) h = h
  var_same (var.Data ty) (value.Cell c) h = h
  var_same (var.Data ty) (value.Cells cs) h = h
  var_same (var.Pointer ty) (value.Bool b) h = h
  var_same (var.Pointer ty) (value.Cell c) h = h
  var_same (var.Pointer ty) (value.Cells cs) h = h
  var_same (var.LogicSet ty) (value.Bool b) h = h
  var_same (var.LogicSet ty) (value.Cell c) h = h
  var_same (var.LogicSet ty) (value.Cells cs) h = h
  var_same var.LogicBool (value.Bool b) h = h
  var_same var.LogicBool (value.Cell c) h = h
  var_same var.LogicBool (value.Cells cs) h = h

  pub set_same : (kind : VarKind) (x : Value) → SetHoldsLive s kind x → SetHoldsLive t kind x
  set_same var.Bool x h = tt
  set_same (var.Data ty) x h = tt
  set_same (var.Pointer ty) x h = tt
  set_same (var.LogicSet ty) (value.Bool b) h = h
  set_same (var.LogicSet ty) (value.Cell c) h = h
  set_same (var.LogicSet ty) (value.Cells cs) h = h
  set_same var.LogicBool x h = tt

  of_type_same : (ty : TypeId) (x : Value) → HoldsOfType s ty x → HoldsOfType t ty x
  of_type_same ty (value.Bool b) h = h
  of_type_same ty (value.Cell c) h = h
  of_type_same ty (value.Cells cs) h = h

  pub live_same : (kind : VarKind) (x : Value) → VarHoldsLive s kind x → VarHoldsLive t kind x
  live_same var.Bool x h = tt
  live_same (var.Data ty) x h = of_type_same ty x h
  live_same (var.Pointer ty) x h = of_type_same ty x h
  live_same (var.LogicSet ty) x h = tt
  live_same var.LogicBool x h = tt

-- a path of steps to a cell that no step leads to has none
module _ (s : StoreMap) (P : CellId → CellId → Type 0) where
  pub chain_root : {a c : CellId} → ((b : CellId) → P b c → ⊥) → Chain s P a c → a ≡ c
  chain_root none (stay a live) = refl
  chain_root none (go a b c step rest) = absurd (none a (subst (P a) (chain_root none rest) step))

-- ---- the callee's variables name the roots

module _ (types : List TypeEntry) (vars : List VarEntry) (callee : ProcEntry) (call : CallParts) (r : StoreMap) (cells : List CellId)
    (args : AllZip (ActualFits vars callee.vars) call.args callee.proc.params)
    (logics : AllZip (ActualFits vars callee.vars) call.logics callee.proc.logics)
    (in_order : callee.proc.params ++ callee.proc.results ++ callee.proc.locals ++ callee.proc.logics ≡ numbers 0 callee.vars)
    (programs : AllByRecursion (IsProgramVariable callee.vars) (callee.proc.params ++ callee.proc.results ++ callee.proc.locals))
    (are_logic : AllByRecursion (IsLogicVariable callee.vars) callee.proc.logics)
    (once : AllPairs (λ (u w : VarId). u ≢ w) (cells_in vars call.args))
    (wf : IsWellFormed types vars r) (part : IsPart types vars r (handed_by vars call.args) cells) where
  abbrev h : StoreMap
  h = handed_store callee call r cells

  abbrev pc : StoreMap
  pc = piece_on r cells

  abbrev given : Actual → Value
  given a = handed_value r cells a

  pub apart : IsApart types r DataAlone cells
  apart = part_apart types vars r (handed_by vars call.args) cells part wf.backbone.named_once

  h_on : IsOn cells r h
  h_on = let on = piece_on-IsOn cells r in record { inside = λ c m. on.inside c m; outside = λ c out. on.outside c out }

  abbrev from_all : (u : VarId) (entry : VarEntry) → var_at callee.vars u ≡ Some entry →
      (x : Value) × (var_value h u ≡ Some x) × From vars callee call given x u
  from_all u entry at = source vars callee call r cells args logics in_order programs are_logic u entry at

  live_named : (w : VarId) (c : CellId) → Names types vars r (place.Var w) c → IsLive r c
  live_named w c named = IfSome-at (var_value r w) (NamesLiveAlone r) (value.Cell (Some c)) named.value
      (((IsFresh-well_formed types vars r wf).0).vars w)

  -- a value of the caller as it is handed over
  record Handed (w : VarId) (kind : VarKind) : Type 0 where
    value_before : Value
    stood : var_value r w ≡ Some value_before
    is : variable r w ≡ value_before
    fits : VarFits h kind (given (actual.Var w))
    sets : SetHoldsLive h kind (given (actual.Var w))
    live : VarHoldsLive h kind (given (actual.Var w))

  handed_var : (w : VarId) (kind : VarKind) → kind_at vars w ≡ Some kind → Handed w kind
  handed_var w kind is =
      let e = kind_entry vars w kind is in
      let x = value_there r vars r.vars w.0 e.0 wf.fits.values e.1 in
      let stood : var_value r w ≡ Some x.0 = x.1 in
      let var_is : variable r w ≡ x.0 = ap (λ o. unwrap_or o null) stood in
      let piece = well_formed_on cells r types vars apart wf in
      let y = value_there pc vars pc.vars w.0 e.0 piece.fits.values e.1 in
      let mapped : slice_get pc.vars w.0 ≡ Some (value_on cells x.0) = slice_get-map (value_on cells) r.vars w.0 ∙ ap (option_map (value_on cells)) stood in
      let same : y.0 ≡ given (actual.Var w) = some_same y.0 (value_on cells x.0) (sym y.1 ∙ mapped) ∙ ap (value_on cells) (sym var_is) in
      let at_pc : var_value pc w ≡ Some (given (actual.Var w)) = y.1 ∙ ap (λ z. Some z) same in
      record {
        value_before = x.0;
        stood = stood;
        is = var_is;
        fits = subst (λ k. VarFits h k (given (actual.Var w))) e.2
            (var_same pc (handed_vars callee call r cells) r.next e.0.kind (given (actual.Var w)) (subst (VarFits pc e.0.kind) same y.2));
        sets = subst (λ k. SetHoldsLive h k (given (actual.Var w))) e.2
            (set_same pc (handed_vars callee call r cells) r.next e.0.kind (given (actual.Var w))
            (IfSome-at (var_value pc w) (SetHoldsLive pc e.0.kind) (given (actual.Var w)) at_pc
            (IfSome-at (var_at vars w) (λ (e : VarEntry). IfSome (var_value pc w) (SetHoldsLive pc e.kind)) e.0 e.1 (piece.sets w))));
        live = subst (λ k. VarHoldsLive h k (given (actual.Var w))) e.2
            (live_same pc (handed_vars callee call r cells) r.next e.0.kind (given (actual.Var w))
            (IfSome-at (var_value pc w) (VarHoldsLive pc e.0.kind) (given (actual.Var w)) at_pc
            (IfSome-at (var_at vars w) (λ (e : VarEntry). IfSome (var_value pc w) (VarHoldsLive pc e.kind)) e.0 e.1 (piece.backbone.cell_vars w))));
      }

  -- what an actual hands over to a variable of this kind
  plain_given : (a : Actual) (u : VarId) (entry : VarEntry) → var_at callee.vars u ≡ Some entry → ActualFits vars callee.vars a u → Plain h entry.kind
      (given a)
  plain_given (actual.Var w) u entry at fits =
      let got = handed_var w fits.kind fits.own in
      let same : fits.kind ≡ entry.kind = some_same fits.kind entry.kind (sym fits.other ∙ ap (option_map (λ (e : VarEntry). e.kind)) at) in
      record {
        fits = subst (λ k. VarFits h k (given (actual.Var w))) same got.fits;
        sets = subst (λ k. SetHoldsLive h k (given (actual.Var w))) same got.sets;
        live = subst (λ k. VarHoldsLive h k (given (actual.Var w))) same got.live;
      }
  plain_given actual.Null u entry at fits =
      plain_null h entry.kind (subst (λ (o : Option VarEntry). IsSomeAnd (option_map (λ (e : VarEntry). e.kind) o)
      (λ kind. IsTrue (holds_cell (class_of kind)))) at fits)
  plain_given (actual.Truth truth) u entry at fits =
      plain_truth h entry.kind truth
      (subst (λ (o : Option VarEntry). IsSomeAnd (option_map (λ (e : VarEntry). e.kind) o) (λ kind. IsTrue (holds_truth (class_of kind)))) at fits)

  plain_blank : (u : VarId) (entry : VarEntry) → var_at callee.vars u ≡ Some entry → Plain h entry.kind (blank_at callee.vars u)
  plain_blank u entry at =
      subst (Plain h entry.kind) (sym (ap (λ (o : Option VarEntry). option_map_or (λ (e : VarEntry). blank (var_class e.kind)) o null) at))
      (record { fits = blank_fits h entry.kind; sets = blank_sets h entry.kind; live = blank_live h entry.kind })

  plain_from : (u : VarId) (entry : VarEntry) (x : Value) → var_at callee.vars u ≡ Some entry → From vars callee call given x u → Plain h entry.kind x
  plain_from u entry x at (of_arg k a there here fits is) = subst (Plain h entry.kind) (sym is) (plain_given a u entry at fits)
  plain_from u entry x at (of_blank known is) = subst (Plain h entry.kind) (sym is) (plain_blank u entry at)
  plain_from u entry x at (of_logic a fits logic is) = subst (Plain h entry.kind) (sym is) (plain_given a u entry at fits)

  -- each variable that has a value has one as its kind asks for
  plain_at : (u : VarId) (entry : VarEntry) (x : Value) → var_at callee.vars u ≡ Some entry → var_value h u ≡ Some x → Plain h entry.kind x
  plain_at u entry x at is =
      let got = from_all u entry at in
      subst (Plain h entry.kind) (some_same got.0 x (sym got.1 ∙ is)) (plain_from u entry got.0 at got.2)

  pub are_held : AreHeld callee.vars h
  are_held = record {
    fit = vars_fit (λ x u. (var_value h u ≡ Some x) × From vars callee call given x u) h 0 callee.vars (handed_vars callee call r cells)
        (told vars callee call r cells args logics in_order programs are_logic)
        (λ k entry x at is. (plain_at (record { 0 = k }) entry x at is).fits);
    sets = λ v. IfSome-from (var_at callee.vars v) _ (λ entry at. IfSome-from (var_value h v) (SetHoldsLive h entry.kind)
        (λ x is. (plain_at v entry x at is).sets));
    above = (fits_on cells r types vars wf.fits).above;
  }

  -- ---- which argument names a cell

  record IsNamedBy (v : VarId) (c : CellId) : Type 0 where
    place_of : ℕ
    from : VarId
    arg : slice_get call.args place_of ≡ Some (actual.Var from)
    param : slice_get callee.proc.params place_of ≡ Some v
    alone : cell_in vars (actual.Var from) ≡ from ∷ []
    names : Names types vars r (place.Var from) c
    inside : Contains cells c

  by_actual : (k : ℕ) (a : Actual) (v : VarId) (entry : VarEntry) (c : CellId) → slice_get call.args k ≡ Some a → slice_get callee.proc.params k ≡ Some v →
      ActualFits vars callee.vars a v → var_at callee.vars v ≡ Some entry → IsDataVar entry.kind → given a ≡ value.Cell (Some c) → IsNamedBy v c
  by_actual k actual.Null v entry c arg param fits at held is = let no : None ≡ Some c = cc in absurd cc
  by_actual k (actual.Truth truth) v entry c arg param fits at held is = absurd cc
  by_actual k (actual.Var w) v entry c arg param fits at held is =
      let on = on_cell cells (variable r w) c is in
      let got = handed_var w fits.kind fits.own in
      let same : entry.kind ≡ fits.kind = some_same entry.kind fits.kind (sym (ap (option_map (λ (e : VarEntry). e.kind)) at) ∙ fits.other) in
      let data_var : IsDataVar fits.kind = subst IsDataVar same held in
      record {
        place_of = k;
        from = w;
        arg = arg;
        param = param;
        alone = cell_alone vars w fits.kind fits.own data_var;
        names = record {
          place = data_named vars w fits.kind fits.own data_var;
          value = got.stood ∙ ap (λ z. Some z) (sym got.is ∙ on.0);
        };
        inside = on.1;
      }

  by_source : (v : VarId) (entry : VarEntry) (x : Value) (c : CellId) → var_at callee.vars v ≡ Some entry → IsDataVar entry.kind → x ≡ value.Cell (Some c) →
      From vars callee call given x v → IsNamedBy v c
  by_source v entry x c at held is (of_arg k a arg param fits from) = by_actual k a v entry c arg param fits at held (sym from ∙ is)
  by_source v entry x c at held is (of_blank known from) =
      let empty : blank_at callee.vars v ≡ null =
      ap (λ (o : Option VarEntry). option_map_or (λ (e : VarEntry). blank (var_class e.kind)) o null) at ∙ data_blank entry.kind held in
      let both : null ≡ value.Cell (Some c) = sym empty ∙ sym from ∙ is in let no : None ≡ Some c = cc in absurd cc
  by_source v entry x c at held is (of_logic a fits logic from) =
      absurd (data_or_logic entry.kind held
      (subst (λ (o : Option VarEntry). IsSomeAnd (option_map (λ (e : VarEntry). e.kind) o) (λ kind. IsTrue (is_logic (class_of kind)))) at logic))

  named_by : (v : VarId) (c : CellId) → Names types callee.vars h (place.Var v) c → IsNamedBy v c
  named_by v c named =
      let e = IsSomeAnd-at (var_at callee.vars v) _ named.place in
      let got = from_all v e.0 e.1 in
      by_source v e.0 got.0 c e.1 e.2 (some_same got.0 (value.Cell (Some c)) (sym got.1 ∙ named.value)) got.2

  root_named : (c : CellId) → IsRoot types h c → (v : VarId) × Names types callee.vars h (place.Var v) c
  root_named c root =
      let inside = live_on cells r h h_on c root.live in
      let reached = (part.members c).0 inside.0 in
      let tree = reached.in_tree in
      let chain = chain_on cells r h h_on types apart tree.path inside.0 in
      let same : tree.root ≡ c = chain_root h (IsParent types h) root.alone chain.1 in
      let named : Names types vars r (place.Var reached.root) c = subst (Names types vars r (place.Var reached.root)) same tree.named in
      let at = handed_at vars call.args reached.root reached.listed in
      let got = zip_get _ call.args callee.proc.params at.0 (actual.Var reached.root) (args_given vars callee call r cells args logics in_order programs
      are_logic) at.1 in
      let fits = got.2.0 in
      let var_is = handed_var reached.root fits.kind fits.own in
      let held = data_kind vars reached.root fits.kind fits.own at.2 in
      let stands : variable r reached.root ≡ value.Cell (Some c) = var_is.is ∙ some_same var_is.value_before (value.Cell (Some c))
      (sym var_is.stood ∙ named.value) in (
        got.0,
        record {
          place = data_named callee.vars got.0 fits.kind fits.other held;
          value = got.2.1 ∙ ap (λ z. Some z) (ap (value_on cells) stands ∙ cell_kept cells c inside.0);
        },
      )

  place_same : (v w : VarId) → place.Var v ≡ place.Var w → v ≡ w
  place_same v w e = cc

  named_one : (c : CellId) (v w : VarId) → IsNamedBy v c → IsNamedBy w c → v ≡ w
  named_one c v w one other =
      let same : one.from ≡ other.from = place_same one.from other.from
      (wf.backbone.named_once c (place.Var one.from) (place.Var other.from) (live_named one.from c one.names) one.names other.names) in
      let again : slice_get call.args other.place_of ≡ Some (actual.Var one.from) = other.arg ∙ ap (λ (x : VarId). Some (actual.Var x)) (sym same) in
      let places : one.place_of ≡ other.place_of = once_at vars call.args one.place_of other.place_of one.from one.alone once one.arg again in
      some_same v w (sym one.param ∙ ap (slice_get callee.proc.params) places ∙ other.param)

  named_root : (v : VarId) (c : CellId) → IsNamedBy v c → IsRoot types h c
  named_root v c by = record {
    live = on_live cells r h h_on c by.inside (live_named by.from c by.names);
    alone = λ a parent.
        let off = leads_off cells r h h_on types DataAlone parent.field a c parent.leads in
        no_parent types vars r wf.backbone by.from a c by.names (record { field = parent.field; leads = off.2 });
  }

  pub names_roots : NamesRoots types callee.vars h
  names_roots = record {
    holds = λ v. IfSome-from (var_at callee.vars v) _ (λ entry at.
        IfSome-from (var_value h v) (VarHoldsLive h entry.kind) (λ x is. (plain_at v entry x at is).live));
    each = root_named;
    once = λ c v w one other. named_one c v w (named_by v c one) (named_by w c other);
    alone = λ v c named. named_root v c (named_by v c named);
  }

  pub handed_well_formed : IsWellFormed types callee.vars h
  handed_well_formed = well_formed_hangs types vars callee.vars r h cells h_on apart names_roots are_held wf
