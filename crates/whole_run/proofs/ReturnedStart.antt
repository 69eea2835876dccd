-- What holds after a return: the arguments are null, the pointer rule, and the claims on the returned part and on the rest.
use Rattle.std.proofs.Common.{◌≡◌, ◌≢◌, ◌↔◌, ◌<◌, ◌+◌, ◌⊎◌, inl, inr, ℕ, Bool, true, false, cond, not, IsTrue, ◌&&◌, List, [], ◌∷◌, ◌++◌, map, filter}
use Rattle.std.proofs.Common.{length, slice_get}
use Rattle.std.proofs.Common.{Option, Some, None, IsSome, IsSomeAnd, IfSome, Contains, All, unwrap_or, is_some, refl, sym, ap, ap₂, ◌∙◌, subst, arith}
use Rattle.std.specs.Prelude.{option_map}
use Rattle.std.specs.List.{AllByRecursion, AllZip, AllPairs, range_with_len}
use Rattle.std.specs.Option.{option_map_or}
use Rattle.std.specs.Ordering.{nat_cmp}
use Rattle.std.specs.Cmp.{nat_cmp_total}
use Rattle.std.specs.FinMap.{FinMap, get, same_map, nat_cmp-IsAntisymmetric}
use Rattle.std.proofs.lemmas.Bool.{false≢true}
use Rattle.std.proofs.lemmas.Option.{slice_get-map, slice_get_within}
use Rattle.std.proofs.lemmas.List.Elements.{All-from_recursion, All-contains, recursion_from_All}
use Rattle.store_core.specs.declared.ids.TypeId.{TypeId}
use Rattle.store_core.specs.declared.ids.FieldId.{FieldId}
use Rattle.store_core.specs.declared.ids.VarId.{VarId}
use Rattle.store_core.specs.declared.ids.CellId.{CellId}
use Rattle.store_core.specs.declared.kind.VarKind.{VarKind}
use Rattle.store_core.specs.declared.kind.VarKind.TheVariants as var
use Rattle.store_core.specs.declared.value.Value.{Value}
use Rattle.store_core.specs.declared.value.Value.TheVariants as value
use Rattle.store_core.specs.Tables.{TypeEntry, VarEntry, var_at}
use Rattle.store_core.specs.Stores.{StoreMap, CellEntry, IsLive, cell_of, var_value, NamesLiveAlone}
use Rattle.store_core.proofs.FittingLemmas.{IfSome-at, IsSomeAnd-at}
use Rattle.routing_walks.specs.declared.fault.Place.TheVariants as place
use Rattle.routing_walks.specs.Walks.{DataAlone, IsParent, Chain, stay, go}
use Rattle.routing_walks.specs.Sets.{Lists}
use Rattle.routing_walks.specs.Regions.{store_on, IsReachedFrom, IsPart, IsRest}
use Rattle.routing_walks.specs.Reaching.{IsUnreached}
use Rattle.routing_walks.specs.WellFormed.{Names, IsDataVar, IsWellFormed}
use Rattle.routing_walks.proofs.LiveLemmas.{Chain-live, IsParent-live}
use Rattle.routing_walks.proofs.FreshLemmas.{IsFresh-well_formed}
use Rattle.routing_walks.specs.Hanging.{IsTogether}
use Rattle.routing_walks.proofs.DecidedLemmas.{decided_in, decided_there, in_at}
use Rattle.routing_walks.proofs.DecidedWalks.{decided_same_cell, listed}
use Rattle.routing_walks.proofs.RegionLemmas.{store_on-IsOn}
use Rattle.store_logic.specs.Terms.{null}
use Rattle.store_exec.specs.Steps.{variable}
use Rattle.store_exec.specs.Restricted.{live_part, restricted}
use Rattle.store_exec.specs.Cuts.{IsPointerVar, PointsTo, Escapes}
use Rattle.store_exec.specs.Failing.{IsBlank}
use Rattle.pale_calls.specs.declared.class.VarClass.TheVariants as class
use Rattle.pale_calls.specs.Classes.{class_of, holds_cell}
use Rattle.pale_typed.specs.declared.typed.CallParts.{CallParts}
use Rattle.pale_typed.specs.declared.typed.ProcEntry.{ProcEntry}
use Rattle.pale_typed.specs.Variables.{numbers}
use Rattle.pale_typed.specs.Fitting.{kind_at, IsLike}
use Rattle.hoare_split.specs.Picking.{class_at, is_data, is_pointer, is_listed, is_argument, is_spent, is_gained, those}
use Rattle.hoare_split.specs.Calls.{handed_by, returned_by}
use Rattle.hoare_split.proofs.FittingVariableLemmas.{those-all, contained-listed}
use Rattle.whole_run.specs.Handing.{rest_store, value_after, beside_rest}
use Rattle.whole_run.specs.Leaving.{CameOf}
use Rattle.whole_run.proofs.Zips.{zip_get, zip_first}
use Rattle.whole_run.proofs.Handed.{some_same, kind_entry}
use Rattle.whole_run.proofs.HandedRoots.{data_named, named_data}
use Rattle.whole_run.proofs.HandedStart.{left_in, kept_in, variable_now, reached_before, reached_now}
use Rattle.whole_run.proofs.Beside.{of_exit, After, is_result, is_null, stays, holds_after}
use Rattle.whole_run.proofs.ReturnedRoots.{listed_at, at_listed, variable_some, some_variable, class_kind, spent_cell, no_argument, together, after_is}
use Rattle.whole_run.proofs.ReturnedRoots as roots
use Rattle.whole_run.proofs.Returned.{picked, picked_by, and_true, right_of, part_cell}

-- a data variable of a list is among those of its data variables
pub among_data : (vars : List VarEntry) (us : List VarId) (v : VarId) → Contains us v → is_data (class_at vars v) ≡ true → Contains (returned_by vars us) v
among_data vars us v m is = kept_in (λ (w : VarId). is_data (class_at vars w)) us v is m

first_true : (x y : Bool) → (x && y) ≡ true → x ≡ true
first_true true y is = refl
first_true false y is = is

pointer_kind : (kind : VarKind) → IsPointerVar kind → is_pointer (class_of kind) ≡ true
pointer_kind var.Bool h = absurd h
pointer_kind (var.Data ty) h = absurd h
pointer_kind (var.Pointer ty) h = refl
pointer_kind (var.LogicSet ty) h = absurd h
pointer_kind var.LogicBool h = absurd h

pointer_cell : (kind : VarKind) → IsPointerVar kind → holds_cell (class_of kind) ≡ true
pointer_cell var.Bool h = absurd h
pointer_cell (var.Data ty) h = absurd h
pointer_cell (var.Pointer ty) h = refl
pointer_cell (var.LogicSet ty) h = absurd h
pointer_cell var.LogicBool h = absurd h

data_true : (kind : VarKind) → IsDataVar kind → is_data (class_of kind) ≡ true
data_true var.Bool h = absurd h
data_true (var.Data ty) h = refl
data_true (var.Pointer ty) h = absurd h
data_true (var.LogicSet ty) h = absurd h
data_true var.LogicBool h = absurd h

data_cell : (kind : VarKind) → IsDataVar kind → holds_cell (class_of kind) ≡ true
data_cell var.Bool h = absurd h
data_cell (var.Data ty) h = refl
data_cell (var.Pointer ty) h = absurd h
data_cell (var.LogicSet ty) h = absurd h
data_cell var.LogicBool h = absurd h

-- a variable that stands in the table by its class
pub class_there : (vars : List VarEntry) (v : VarId) → holds_cell (class_at vars v) ≡ true → (kind : VarKind) × (kind_at vars v ≡ Some kind)
class_there vars v is = of (var_at vars v) refl is
  where
    of : (o : Option VarEntry) → var_at vars v ≡ o → holds_cell (option_map_or (λ (e : VarEntry). class_of e.kind) o class.Bool) ≡ true →
        (kind : VarKind) × (kind_at vars v ≡ Some kind)
    of None at h = absurd (false≢true h)
    of (Some e) at h = (e.kind, ap (option_map (λ (x : VarEntry). x.kind)) at)

module _ (types : List TypeEntry) (vars : List VarEntry) (callee : ProcEntry) (call : CallParts) (r : StoreMap) (cells : List CellId) (t : StoreMap)
    (like : AllZip (IsLike vars callee.vars) call.results callee.proc.results)
    (results_once : AllPairs (λ (u w : VarId). u ≢ w) call.results)
    (in_order : callee.proc.params ++ callee.proc.results ++ callee.proc.locals ++ callee.proc.logics ≡ numbers 0 callee.vars)
    (wf : IsWellFormed types vars r) (part : IsPart types vars r (handed_by vars call.args) cells)
    (exit_wf : IsWellFormed types callee.vars t) (came : CameOf r cells t)
    (left : (u : VarId) (kind : VarKind) → kind_at callee.vars u ≡ Some kind → holds_cell (class_of kind) ≡ true → is_listed callee.proc.results u ≡ false →
    variable t u ≡ null)
    (awaited : (v : VarId) (c : CellId) → is_listed call.results v ≡ true → is_argument call.args v ≡ false → variable r v ≡ value.Cell (Some c) → ⊥)
    (outer : (v : VarId) (kind : VarKind) (c : CellId) → kind_at vars v ≡ Some kind → is_pointer (class_of kind) ≡ true → is_argument call.args v ≡ false →
    variable r v ≡ value.Cell (Some c) → Contains cells c → ⊥) where
  abbrev res : List VarId
  res = callee.proc.results

  abbrev rest : StoreMap
  rest = rest_store r cells

  abbrev u' : StoreMap
  u' = beside_rest vars call res rest t

  abbrev w : StoreMap
  w = restricted u'

  abbrev value_of : VarId → Value
  value_of v = value_after vars call res rest t v

  abbrev after_v : (v : VarId) → After vars call res rest t v (value_of v)
  after_v v = after_is types vars callee call r cells t like results_once in_order wf part exit_wf came left awaited outer v

  whole : IsTogether (roots.piece types vars callee call r cells t like results_once in_order wf part exit_wf came left awaited outer) t u'
  whole = together types vars callee call r cells t like results_once in_order wf part exit_wf came left awaited outer

  in_table : (v : VarId) (kind : VarKind) → kind_at vars v ≡ Some kind → v.0 < length vars
  in_table v kind known = let e = kind_entry vars v kind known in slice_get_within vars v.0 e.0 e.1

  pub stands_after : (v : VarId) (kind : VarKind) → kind_at vars v ≡ Some kind → variable u' v ≡ value_of v
  stands_after v kind known = some_variable u' v (value_of v) (holds_after vars call res rest t v (in_table v kind known))

  -- ---- the arguments are null

  spent_null : (v : VarId) (x : Value) → is_spent call (class_at vars v) v ≡ true → After vars call res rest t v x → x ≡ null
  spent_null v x spent (is_result k y one other from) =
      absurd (false≢true (sym (ap not (at_listed call.results k v one))
      ∙ right_of (holds_cell (class_at vars v) && is_argument call.args v) (not (is_listed call.results v)) spent))
  spent_null v x spent (is_null unlisted also from) = from
  spent_null v x spent (stays unlisted unspent from) = absurd (false≢true (sym unspent ∙ spent))

  blank_now : (v : VarId) → is_spent call (class_at vars v) v ≡ true → IsSomeAnd (var_value w v) IsBlank
  blank_now v spent =
      let known = class_there vars v (spent_cell (holds_cell (class_at vars v)) (is_argument call.args v) (is_listed call.results v) spent) in
      let held : var_value w v ≡ Some null = slice_get-map (live_part u') u'.vars v.0
      ∙ ap (option_map (live_part u')) (holds_after vars call res rest t v (in_table v known.0 known.1) ∙ ap (λ x. Some x)
      (spent_null v (value_of v) spent (after_v v))) in
      subst (λ o. IsSomeAnd o IsBlank) (sym held) refl

  pub nulls_after : All (λ v. IsSomeAnd (var_value w v) IsBlank) (those (is_spent call) vars)
  nulls_after = All-from_recursion (λ v. IsSomeAnd (var_value w v) IsBlank) (those (is_spent call) vars)
      (those-all vars (λ v. IsSomeAnd (var_value w v) IsBlank) (is_spent call) blank_now)

  -- ---- the returned part has the callee's cells

  chain_out : {a c : CellId} → IsLive t a → Chain u' (IsParent types u') a c → IsLive t c
  chain_out live (stay a here) = live
  chain_out live (go a x c step chain) =
      chain_out (roots.exit_from types vars callee call r cells t like results_once in_order wf part exit_wf came left awaited outer
      step.field a x live step.leads).live chain

  chain_onto : {a c : CellId} → Chain t (IsParent types t) a c → Chain u' (IsParent types u') a c
  chain_onto (stay a live) = stay a (subst IsSome (sym (whole.of_other a live)) live)
  chain_onto (go a x c step chain) = go a x c (record {
    field = step.field;
    leads = roots.onto types vars callee call r cells t like results_once in_order wf part exit_wf came left awaited outer t whole.of_other step.field a x
        step.leads;
  }) (chain_onto chain)

  variable_live : (s : StoreMap) (table : List VarEntry) → IsWellFormed types table s → (y : VarId) (d : CellId) → variable s y ≡ value.Cell (Some d) →
      IsLive s d
  variable_live s table is y d e =
      IfSome-at (var_value s y) (NamesLiveAlone s) (value.Cell (Some d)) (variable_some s y d e) (((IsFresh-well_formed types table s is).0).vars y)

  result_live : (v : VarId) (d : CellId) (x : Value) → is_listed call.results v ≡ true → x ≡ value.Cell (Some d) → After vars call res rest t v x → IsLive t d
  result_live v d x listed e (is_result k y one other from) = variable_live t callee.vars exit_wf y d (sym from ∙ e)
  result_live v d x listed e (is_null unlisted spent from) = absurd (false≢true (sym unlisted ∙ listed))
  result_live v d x listed e (stays unlisted unspent from) = absurd (false≢true (sym unlisted ∙ listed))

  pub reached_live : (c : CellId) → IsReachedFrom types vars u' (returned_by vars call.results) c → IsLive t c
  reached_live c h =
      let tree = h.in_tree in
      let among = left_in (λ (y : VarId). is_data (class_at vars y)) call.results h.root h.listed in
      let e = IsSomeAnd-at (var_at vars h.root) _ tree.named.place in
      let held = holds_after vars call res rest t h.root (slice_get_within vars (h.root).0 e.0 e.1) in
      chain_out (result_live h.root tree.root (value_of h.root) (contained-listed call.results h.root among)
      (some_same (value_of h.root) (value.Cell (Some tree.root)) (sym held ∙ tree.named.value)) (after_v h.root)) tree.path

  pub live_reached : (c : CellId) → IsLive t c → IsReachedFrom types vars u' (returned_by vars call.results) c
  live_reached c live =
      let tree = exit_wf.backbone.reached c live in
      let y = tree.0 in
      let d = tree.1.root in
      let e = IsSomeAnd-at (var_at callee.vars y) _ tree.1.named.place in
      let known : kind_at callee.vars y ≡ Some e.0.kind = ap (option_map (λ (x : VarEntry). x.kind)) e.1 in
      by y d e.0.kind known e.2 (some_variable t y (value.Cell (Some d)) tree.1.named.value) (chain_onto tree.1.path) (is_listed res y) refl
    where
      by : (y : VarId) (d : CellId) (kind : VarKind) → kind_at callee.vars y ≡ Some kind → IsDataVar kind → variable t y ≡ value.Cell (Some d) →
          Chain u' (IsParent types u') d c → (z : Bool) → is_listed res y ≡ z → IsReachedFrom types vars u' (returned_by vars call.results) c
      by y d kind known held is path false unlisted =
          let both : null ≡ value.Cell (Some d) = sym (left y kind known (data_cell kind held) unlisted) ∙ is in let no : None ≡ Some d = cc in absurd cc
      by y d kind known held is path true listed =
          let at = listed_at res y listed in
          let got = zip_first (IsLike vars callee.vars) call.results res at.0 y like at.1 in
          let v = got.0 in
          let own = got.2 in
          let same : kind ≡ own.kind = some_same kind own.kind (sym known ∙ own.other) in
          let data_own : IsDataVar own.kind = subst IsDataVar same held in
          record {
            root = v;
            listed = among_data vars call.results v (in_at call.results at.0 v got.1)
                (ap is_data (class_kind vars v own.kind own.own) ∙ data_true own.kind data_own);
            in_tree = record {
              root = d;
              named = record {
                place = data_named vars v own.kind own.own data_own;
                value = holds_after vars call res rest t v (in_table v own.kind own.own)
                    ∙ ap (λ x. Some x) (roots.result_value types vars callee call r cells t like results_once in_order wf part exit_wf came left awaited
                    outer at.0 v y (value_of v) got.1 at.1 (after_v v) ∙ is);
              };
              path = path;
            };
          }

  -- the returned part is what lives in the callee's store
  pub exit_cells : (xs : List CellId) × Lists (IsLive t) xs
  exit_cells = listed t (IsLive t) (λ c. decided_there (cell_of t c)) (λ c live. live)

  pub part_after : IsPart types vars w (returned_by vars call.results) exit_cells.0
  part_after = record {
    rising = exit_cells.1.rising;
    members = λ d. (
      λ m. reached_now u' types vars (returned_by vars call.results) d (live_reached d ((exit_cells.1.members d).0 m)),
      λ h. (exit_cells.1.members d).1 (reached_live d (reached_before u' types vars (returned_by vars call.results) d h)),
    );
  }

  -- ---- the pointer rule

  astray : (v : VarId) (c : CellId) (kind : VarKind) (x : Value) → kind_at vars v ≡ Some kind → IsPointerVar kind → x ≡ value.Cell (Some c) →
      After vars call res rest t v x →
      (Contains (those (is_gained call) vars) v × (IsReachedFrom types vars w (returned_by vars call.results) c → ⊥))
      ⊎ ((Contains (those (is_gained call) vars) v → ⊥) × IsReachedFrom types vars w (returned_by vars call.results) c) → ⊥
  astray v c kind x known pointer e (is_result k y one other from) (inl wrong) =
      wrong.1 (reached_now u' types vars (returned_by vars call.results) c (live_reached c (variable_live t callee.vars exit_wf y c (sym from ∙ e))))
  astray v c kind x known pointer e (is_result k y one other from) (inr wrong) =
      wrong.0 (picked (is_gained call) vars v kind known
      (and_true (is_pointer (class_at vars v)) (is_listed call.results v) (ap is_pointer (class_kind vars v kind known) ∙ pointer_kind kind pointer)
      (at_listed call.results k v one)))
  astray v c kind x known pointer e (is_null unlisted spent from) wrong =
      let both : null ≡ value.Cell (Some c) = sym from ∙ e in let no : None ≡ Some c = cc in absurd cc
  astray v c kind x known pointer e (stays unlisted unspent from) (inl wrong) =
      false≢true (sym unlisted ∙ right_of (is_pointer (class_at vars v)) (is_listed call.results v) (picked_by (is_gained call) vars v wrong.0))
  astray v c kind x known pointer e (stays unlisted unspent from) (inr wrong) =
      let is : variable r v ≡ value.Cell (Some c) = sym from ∙ e in
      let free = no_argument (holds_cell (class_at vars v)) (is_argument call.args v) (is_listed call.results v)
      (ap holds_cell (class_kind vars v kind known) ∙ pointer_cell kind pointer) unlisted unspent in
      roots.never_both types vars callee call r cells t like results_once in_order wf part exit_wf came left awaited outer c
      (reached_live c (reached_before u' types vars (returned_by vars call.results) c wrong.1)) (variable_live r vars wf v c is)
      (outer v kind c known (pointer_kind kind pointer) free is)

  pub pointers_after : Escapes types vars w (returned_by vars call.results) (those (is_gained call) vars) → ⊥
  pointers_after h =
      let e = IsSomeAnd-at (var_at vars h.var) _ h.points.pointer in
      let known : kind_at vars h.var ≡ Some e.0.kind = ap (option_map (λ (x : VarEntry). x.kind)) e.1 in
      let named : Some (live_part u' (value_of h.var)) ≡ Some (value.Cell (Some h.cell)) =
      sym (slice_get-map (live_part u') u'.vars (h.var).0
      ∙ ap (option_map (live_part u')) (holds_after vars call res rest t h.var (slice_get_within vars (h.var).0 e.0 e.1))) ∙ h.points.names in
      astray h.var h.cell e.0.kind (value_of h.var) known e.2
      (part_cell u' (value_of h.var) h.cell (some_same (live_part u' (value_of h.var)) (value.Cell (Some h.cell)) named)) (after_v h.var) h.wrong_side
