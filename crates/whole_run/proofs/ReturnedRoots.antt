-- After a return the caller's variables name the roots of the callee's cells beside the rest.
use Rattle.std.proofs.Common.{◌≡◌, ◌≢◌, ◌==◌, ◌<◌, ◌≤◌, ◌+◌, ◌⊎◌, inl, inr, ℕ, zero, suc, Bool, true, false, not, ◌&&◌, ◌||◌, List, [], ◌∷◌, ◌++◌, length}
use Rattle.std.proofs.Common.{slice_get, flat_map, Option, Some, None, IsSome, IsSomeAnd, IfSome, Contains, if◌then◌else◌, unwrap_or, refl, sym, ap}
use Rattle.std.proofs.Common.{◌∙◌, subst, arith}
use Rattle.std.specs.Prelude.{option_map}
use Rattle.std.specs.List.{AllByRecursion, AllZip, AllPairs}
use Rattle.std.specs.Option.{option_map_or, option_and_then}
use Rattle.std.proofs.lemmas.Bool.{false≢true}
use Rattle.std.proofs.lemmas.Option.{slice_get_within, get_or_from_slice_get}
use Rattle.store_core.specs.declared.ids.TypeId.{TypeId}
use Rattle.store_core.specs.declared.ids.FieldId.{FieldId}
use Rattle.store_core.specs.declared.ids.VarId.{VarId}
use Rattle.store_core.specs.declared.ids.CellId.{CellId}
use Rattle.store_core.specs.declared.kind.VarKind.{VarKind}
use Rattle.store_core.specs.declared.kind.VarKind.TheVariants as var
use Rattle.store_core.specs.declared.value.Value.{Value}
use Rattle.store_core.specs.declared.value.Value.TheVariants as value
use Rattle.store_core.specs.Tables.{TypeEntry, VarEntry, var_at}
use Rattle.store_core.specs.Stores.{StoreMap, CellEntry, IsLive, cell_of, field_of, field_value, var_value, NamesLiveAlone}
use Rattle.store_core.proofs.AboveLemmas.{live_below}
use Rattle.store_core.proofs.FittingLemmas.{IfSome-from, IfSome-at, IsSomeAnd-at}
use Rattle.routing_walks.specs.declared.fault.Place.TheVariants as place
use Rattle.routing_walks.specs.Walks.{DataAlone, Leads, IsParent, IsOfType, IsRoot, Chain, stay, go}
use Rattle.routing_walks.specs.Regions.{IsPart, IsRest, IsApart}
use Rattle.routing_walks.specs.WellFormed.{Names, IsDataVar, VarHoldsLive, HoldsOfType, IsWellFormed}
use Rattle.routing_walks.specs.CutFaults.{IsSound}
use Rattle.routing_walks.proofs.LiveLemmas.{IsOfType-live, Leads-live}
use Rattle.routing_walks.proofs.FreshLemmas.{IsFresh-well_formed}
use Rattle.routing_walks.specs.Pieces.{value_on, piece_on}
use Rattle.routing_walks.specs.Hanging.{NamesRoots, IsTogether}
use Rattle.routing_walks.proofs.DecidedLemmas.{in_first, in_rest}
use Rattle.routing_walks.proofs.DecidedStores.{rest_of}
use Rattle.routing_walks.proofs.RegionLemmas.{part_apart, rest_apart, leads_off}
use Rattle.routing_walks.proofs.HangingLemmas.{no_parent}
use Rattle.routing_walks.proofs.PieceLemmas.{piece_on-IsOn, var_on}
use Rattle.routing_walks.proofs.PieceForms.{well_formed_on}
use Rattle.routing_walks.proofs.TogetherLemmas.{leads_from, sound_together}
use Rattle.store_logic.specs.Terms.{null}
use Rattle.store_logic.proofs.ExpandingLists.{slice_get-first, slice_get-later}
use Rattle.store_exec.specs.Steps.{variable}
use Rattle.pale_calls.specs.declared.actual.Actual.{Actual}
use Rattle.pale_calls.specs.declared.actual.Actual.TheVariants as actual
use Rattle.pale_calls.specs.declared.class.VarClass.TheVariants as class
use Rattle.pale_calls.specs.Classes.{class_of, holds_cell}
use Rattle.pale_typed.specs.declared.typed.CallParts.{CallParts}
use Rattle.pale_typed.specs.declared.typed.ProcEntry.{ProcEntry}
use Rattle.pale_typed.specs.Variables.{numbers}
use Rattle.pale_typed.specs.Fitting.{kind_at, IsLike}
use Rattle.hoare_split.specs.Picking.{class_at, is_data, is_pointer, is_listed, is_argument, is_spent}
use Rattle.hoare_split.specs.Calls.{handed_by}
use Rattle.hoare_split.proofs.FittingVariableLemmas.{same-var}
use Rattle.whole_run.specs.Handing.{rest_store, value_after, beside_rest}
use Rattle.whole_run.specs.Leaving.{CameOf}
use Rattle.whole_run.proofs.Zips.{zip_get, zip_first, numbers_at}
use Rattle.whole_run.proofs.Handed.{some_same, kind_entry, handed_at, on_cell, value_there}
use Rattle.whole_run.proofs.HandedRoots.{data_named, named_data, chain_root}
use Rattle.whole_run.proofs.Beside.{rest_out, rest_live, rest_piece, b, of_exit, of_rest, of_either, After, is_result, is_null, stays, after, holds_after}
pub use Rattle.whole_run.proofs.Places.{listed_at, at_listed, at_argument, listed_argument, none_live, argument_handed, one_place, variable_some}
pub use Rattle.whole_run.proofs.Places.{some_variable, no_argument, spent_cell, an_argument, class_kind, chain_end, data_holds, data_is}

module _ (types : List TypeEntry) (vars : List VarEntry) (callee : ProcEntry) (call : CallParts) (r : StoreMap) (cells : List CellId) (t : StoreMap)
    (like : AllZip (IsLike vars callee.vars) call.results callee.proc.results)
    (results_once : AllPairs (λ (u w : VarId). u ≢ w) call.results)
    (in_order : callee.proc.params ++ callee.proc.results ++ callee.proc.locals ++ callee.proc.logics ≡ numbers 0 callee.vars)
    (wf : IsWellFormed types vars r) (part : IsPart types vars r (handed_by vars call.args) cells)
    (exit_wf : IsWellFormed types callee.vars t) (came : CameOf r cells t)
    (left : (u : VarId) (kind : VarKind) → kind_at callee.vars u ≡ Some kind → holds_cell (class_of kind) ≡ true → is_listed callee.proc.results u ≡ false →
    variable t u ≡ null)
    (awaited : (v : VarId) (c : CellId) → is_listed call.results v ≡ true → is_argument call.args v ≡ false → variable r v ≡ value.Cell (Some c) → ⊥)
    (outer : (v : VarId) (kind : VarKind) (c : CellId) → kind_at vars v ≡ Some kind → is_pointer (class_of kind) ≡ true → is_argument call.args v ≡ false →
    variable r v ≡ value.Cell (Some c) → Contains cells c → ⊥) where
  abbrev rest : StoreMap
  rest = rest_store r cells

  abbrev res : List VarId
  res = callee.proc.results

  abbrev u' : StoreMap
  u' = beside_rest vars call res rest t

  pub others : (xs : List CellId) × IsRest r cells xs
  others = rest_of r cells

  abbrev pub piece : StoreMap
  piece = piece_on r others.0

  pub piece_wf : IsWellFormed types vars piece
  piece_wf = well_formed_on others.0 r types vars
      (rest_apart types DataAlone r cells others.0 others.1 (part_apart types vars r (handed_by vars call.args) cells part wf.backbone.named_once)) wf

  pub never_both : (c : CellId) → IsLive t c → IsLive r c → (Contains cells c → ⊥) → ⊥
  never_both c there here out = out (came.handed c there (live_below r c wf.fits.above here))

  dead_there : (c : CellId) → IsLive r c → (Contains cells c → ⊥) → IsLive t c → ⊥
  dead_there c here out there = never_both c there here out

  pub piece_live : (c : CellId) → IsLive piece c → (Contains cells c → ⊥) × IsLive r c
  piece_live c live = rest_live r cells c (subst IsSome (sym (rest_piece r cells others.0 others.1 c)) live)

  of_piece : (c : CellId) → IsLive piece c → cell_of u' c ≡ cell_of piece c
  of_piece c live =
      let h = piece_live c live in
      of_rest vars call res rest t c (dead_there c h.1 h.0) ∙ rest_piece r cells others.0 others.1 c

  pub together : IsTogether piece t u'
  together = record {
    of_one = of_piece;
    of_other = of_exit vars call res rest t;
    of_either = λ c live. elim (of_either vars call res rest t c live) [
      | inl there ↦ inr there
      | inr here ↦ inl (subst IsSome (rest_piece r cells others.0 others.1 c) here)
    ];
    apart = λ c here there. let h = piece_live c here in never_both c there h.1 h.0;
  }

  turned : (c : CellId) → IsLive u' c → IsLive t c ⊎ IsLive piece c
  turned c live = elim (together.of_either c live) [ inl h ↦ inr h | inr h ↦ inl h ]

  one_from : (f : FieldId) (a c : CellId) → IsLive piece a → Leads types u' DataAlone f a c → Leads types piece DataAlone f a c
  one_from = leads_from types vars piece t u' together.of_one together.of_either together.apart piece_wf.backbone

  pub exit_from : (f : FieldId) (a c : CellId) → IsLive t a → Leads types u' DataAlone f a c → Leads types t DataAlone f a c
  exit_from = leads_from types callee.vars t piece u' together.of_other turned (λ c there here. together.apart c here there) exit_wf.backbone

  pub onto : (s : StoreMap) → ((c : CellId) → IsLive s c → cell_of u' c ≡ cell_of s c) → (f : FieldId) (a c : CellId) → Leads types s DataAlone f a c →
      Leads types u' DataAlone f a c
  onto s same f a c leads = record {
    kind = leads.kind;
    value = ap (λ (o : Option CellEntry). option_and_then (λ (cell : CellEntry). field_of cell f) o) (same a (Leads-live types s DataAlone f a c leads).0) ∙
        leads.value;
    live = subst IsSome (sym (same c leads.live)) leads.live;
  }

  live_here : (v : VarId) (c : CellId) → Names types vars r (place.Var v) c → IsLive r c
  live_here v c named = IfSome-at (var_value r v) (NamesLiveAlone r) (value.Cell (Some c)) named.value (((IsFresh-well_formed types vars r wf).0).vars v)

  live_there : (w : VarId) (c : CellId) → Names types callee.vars t (place.Var w) c → IsLive t c
  live_there w c named = IfSome-at (var_value t w) (NamesLiveAlone t) (value.Cell (Some c)) named.value
      (((IsFresh-well_formed types callee.vars t exit_wf).0).vars w)

  place_same : (v w : VarId) → place.Var v ≡ place.Var w → v ≡ w
  place_same v w e = cc

  -- a data variable that isn't handed over names no cell of the handed part
  not_inside : (v : VarId) (c : CellId) → Names types vars r (place.Var v) c → is_argument call.args v ≡ false → Contains cells c → ⊥
  not_inside v c named free m =
      let reached = (part.members c).0 m in
      let tree = reached.in_tree in
      let at = handed_at vars call.args reached.root reached.listed in
      elim (chain_end r (IsParent types r) tree.path) [
        | inl e ↦
            let by : Names types vars r (place.Var reached.root) c = subst (Names types vars r (place.Var reached.root)) e tree.named in
            let same : reached.root ≡ v = place_same reached.root v
            (wf.backbone.named_once c (place.Var reached.root) (place.Var v) (live_here v c named) by named) in
            false≢true (sym free ∙ subst (λ (w : VarId). is_argument call.args w ≡ true) same (at_argument call.args at.0 reached.root at.1))
        | inr parent ↦ no_parent types vars r wf.backbone v parent.0 c named parent.1
      ]

  -- ---- what a variable of the caller names afterwards

  data NamedAfter (v : VarId) (c : CellId) : Type 0 where
    by_exit : (k : ℕ) (w : VarId) → slice_get call.results k ≡ Some v → slice_get res k ≡ Some w → Names types callee.vars t (place.Var w) c → NamedAfter v c
    by_rest : Names types vars r (place.Var v) c → (Contains cells c → ⊥) → NamedAfter v c

  abbrev value_of : VarId → Value
  value_of v = value_after vars call res rest t v

  pub after_is : (v : VarId) → After vars call res rest t v (value_of v)
  after_is v = after vars call res rest t (IsLike vars callee.vars) v like

  pub result_kind : (k : ℕ) (v w : VarId) → slice_get call.results k ≡ Some v → slice_get res k ≡ Some w → IsLike vars callee.vars v w
  result_kind k v w one other =
      let got = zip_get (IsLike vars callee.vars) call.results res k v like one in
      subst (IsLike vars callee.vars v) (some_same got.0 w (sym got.1 ∙ other)) got.2

  named_after : (v : VarId) (kind : VarKind) (c : CellId) (x : Value) → kind_at vars v ≡ Some kind → IsDataVar kind → x ≡ value.Cell (Some c) →
      After vars call res rest t v x → NamedAfter v c
  named_after v kind c x is held e (is_result k w one other from) =
      let both = result_kind k v w one other in
      let same : kind ≡ both.kind = some_same kind both.kind (sym is ∙ both.own) in
      by_exit k w one other (record {
        place = data_named callee.vars w both.kind both.other (subst IsDataVar same held);
        value = variable_some t w c (sym from ∙ e);
      })
  named_after v kind c x is held e (is_null unlisted spent from) =
      let both : null ≡ value.Cell (Some c) = sym from ∙ e in let no : None ≡ Some c = cc in absurd cc
  named_after v kind c x is held e (stays unlisted unspent from) =
      let named : Names types vars r (place.Var v) c = record {
        place = data_named vars v kind is held;
        value = variable_some r v c (sym from ∙ e);
      } in
      let no = no_argument (holds_cell (class_at vars v)) (is_argument call.args v) (is_listed call.results v)
      (ap holds_cell (class_kind vars v kind is) ∙ data_holds kind held) unlisted unspent in
      by_rest named (not_inside v c named no)

  low : (v : VarId) (entry : VarEntry) → var_at vars v ≡ Some entry → v.0 < length vars
  low v entry at = slice_get_within vars v.0 entry at

  named_how : (v : VarId) (c : CellId) → Names types vars u' (place.Var v) c → NamedAfter v c
  named_how v c named =
      let e = IsSomeAnd-at (var_at vars v) _ named.place in
      let held = holds_after vars call res rest t v (low v e.0 e.1) in
      named_after v e.0.kind c (value_of v) (ap (option_map (λ (x : VarEntry). x.kind)) e.1) e.2
      (some_same (value_of v) (value.Cell (Some c)) (sym held ∙ named.value)) (after_is v)

  pub result_value : (k : ℕ) (v w : VarId) (x : Value) → slice_get call.results k ≡ Some v → slice_get res k ≡ Some w → After vars call res rest t v x → x ≡
      variable t w
  result_value k v w x one other (is_result j y first second from) =
      let same : j ≡ k = one_place call.results j k v results_once first one in
      from ∙ ap (variable t) (some_same y w (sym second ∙ ap (slice_get res) same ∙ other))
  result_value k v w x one other (is_null unlisted spent from) = absurd (false≢true (sym unlisted ∙ at_listed call.results k v one))
  result_value k v w x one other (stays unlisted unspent from) = absurd (false≢true (sym unlisted ∙ at_listed call.results k v one))

  stays_value : (v : VarId) (x : Value) → is_listed call.results v ≡ false → is_argument call.args v ≡ false → After vars call res rest t v x → x ≡ variable
      r v
  stays_value v x unlisted free (is_result k w one other from) = absurd (false≢true (sym unlisted ∙ at_listed call.results k v one))
  stays_value v x unlisted free (is_null also spent from) =
      absurd (false≢true (sym free ∙ an_argument (holds_cell (class_at vars v)) (is_argument call.args v) (is_listed call.results v) spent))
  stays_value v x unlisted free (stays also unspent from) = from

  -- ---- each root is named

  exit_root : (c : CellId) → IsLive t c → IsRoot types u' c → (v : VarId) × Names types vars u' (place.Var v) c
  exit_root c live root =
      let tree = exit_wf.backbone.reached c live in
      let same = chain_root t (IsParent types t)
      (λ a parent. root.alone a (record { field = parent.field; leads = onto t together.of_other parent.field a c parent.leads })) tree.1.path in
      let w = tree.0 in
      let named : Names types callee.vars t (place.Var w) c = subst (Names types callee.vars t (place.Var w)) same tree.1.named in
      let e = IsSomeAnd-at (var_at callee.vars w) _ named.place in
      let kind : kind_at callee.vars w ≡ Some e.0.kind = ap (option_map (λ (x : VarEntry). x.kind)) e.1 in
      let value_is : variable t w ≡ value.Cell (Some c) = some_variable t w (value.Cell (Some c)) named.value in
      by w e.0.kind kind e.2 value_is (is_listed res w) refl
    where
      by : (w : VarId) (kind : VarKind) → kind_at callee.vars w ≡ Some kind → IsDataVar kind → variable t w ≡ value.Cell (Some c) → (z : Bool) →
          is_listed res w ≡ z → (v : VarId) × Names types vars u' (place.Var v) c
      by w kind is held value_is false unlisted =
          let both : null ≡ value.Cell (Some c) = sym (left w kind is (data_holds kind held) unlisted) ∙ value_is in let no : None ≡ Some c = cc in absurd cc
      by w kind is held value_is true listed =
          let at = listed_at res w listed in
          let got = zip_first (IsLike vars callee.vars) call.results res at.0 w like at.1 in
          let v = got.0 in
          let same : kind ≡ got.2.kind = some_same kind got.2.kind (sym is ∙ got.2.other) in
          let entry = kind_entry vars v got.2.kind got.2.own in (
            v,
            record {
              place = data_named vars v got.2.kind got.2.own (subst IsDataVar same held);
              value = holds_after vars call res rest t v (low v entry.0 entry.1)
                  ∙ ap (λ x. Some x) (result_value at.0 v w (value_of v) got.1 at.1 (after_is v) ∙ value_is);
            },
          )

  rest_root : (c : CellId) → IsLive piece c → IsRoot types u' c → (v : VarId) × Names types vars u' (place.Var v) c
  rest_root c live root =
      let tree = piece_wf.backbone.reached c live in
      let same = chain_root piece (IsParent types piece)
      (λ a parent. root.alone a (record { field = parent.field; leads = onto piece together.of_one parent.field a c parent.leads })) tree.1.path in
      let v = tree.0 in
      let named : Names types vars piece (place.Var v) c = subst (Names types vars piece (place.Var v)) same tree.1.named in
      let e = IsSomeAnd-at (var_at vars v) _ named.place in
      let stood = value_there r vars r.vars v.0 e.0 wf.fits.values e.1 in
      let on : value_on others.0 stood.0 ≡ value.Cell (Some c) = some_same (value_on others.0 stood.0) (value.Cell (Some c))
      (sym (ap (option_map (value_on others.0)) stood.1) ∙ sym (var_on others.0 r v) ∙ named.value) in
      let is : variable r v ≡ value.Cell (Some c) = some_variable r v stood.0 stood.1 ∙ (on_cell others.0 stood.0 c on).0 in
      let kind : kind_at vars v ≡ Some e.0.kind = ap (option_map (λ (x : VarEntry). x.kind)) e.1 in
      let here : Names types vars r (place.Var v) c = record { place = named.place; value = variable_some r v c is } in
      let out = piece_live c live in
      let no : is_argument call.args v ≡ false = unless (is_argument call.args v) (λ yes. out.0 ((part.members c).1 (record {
        root = v;
        listed = argument_handed vars call.args v yes (ap is_data (class_kind vars v e.0.kind kind) ∙ data_is e.0.kind e.2);
        in_tree = record { root = c; named = here; path = stay c out.1 };
      }))) in
      let unlisted : is_listed call.results v ≡ false = unless (is_listed call.results v) (λ yes. awaited v c yes no is) in (
        v,
        record {
          place = named.place;
          value = holds_after vars call res rest t v (low v e.0 e.1) ∙ ap (λ x. Some x) (stays_value v (value_of v) unlisted no (after_is v) ∙ is);
        },
      )
    where
      unless : (z : Bool) → (z ≡ true → ⊥) → z ≡ false
      unless true never = absurd (never refl)
      unless false never = refl

  -- ---- no other cell is, and none twice

  their_place : (k : ℕ) (w : VarId) → slice_get res k ≡ Some w → w.0 ≡ k + length callee.proc.params
  their_place k w at =
      let p = callee.proc.params in
      let within = slice_get_within res k w at in
      let two : slice_get (p ++ res) (k + length p) ≡ Some w = slice_get-later p res k (k + length p) refl ∙ at in
      let three : slice_get (p ++ res ++ callee.proc.locals) (k + length p) ≡ Some w =
      slice_get-first (p ++ res) callee.proc.locals (k + length p) (slice_get_within (p ++ res) (k + length p) w two) ∙ two in
      let four : slice_get (p ++ res ++ callee.proc.locals ++ callee.proc.logics) (k + length p) ≡ Some w =
      slice_get-first (p ++ res ++ callee.proc.locals) callee.proc.logics (k + length p)
      (slice_get_within (p ++ res ++ callee.proc.locals) (k + length p) w three) ∙ three in
      numbers_at 0 callee.vars (k + length p) w (subst (λ us. slice_get us (k + length p) ≡ Some w) in_order four) ∙ omega arith

  named_once : (c : CellId) (v w : VarId) → NamedAfter v c → NamedAfter w c → v ≡ w
  named_once c v w (by_exit k x one other by) (by_exit j y first second also) =
      let same : x ≡ y = place_same x y (exit_wf.backbone.named_once c (place.Var x) (place.Var y) (live_there x c by) by also) in
      let at_k = their_place k x other in let at_j = their_place j y second in let number : x.0 ≡ y.0 = ap (λ (z : VarId). z.0) same in
      let places : k ≡ j = omega (arith, at_k, at_j, number) in
      some_same v w (sym one ∙ ap (slice_get call.results) places ∙ first)
  named_once c v w (by_exit k x one other by) (by_rest named out) = absurd (never_both c (live_there x c by) (live_here w c named) out)
  named_once c v w (by_rest named out) (by_exit k x one other by) = absurd (never_both c (live_there x c by) (live_here v c named) out)
  named_once c v w (by_rest named out) (by_rest also far) =
      place_same v w (wf.backbone.named_once c (place.Var v) (place.Var w) (live_here v c named) named also)

  pub in_piece : (c : CellId) → IsLive r c → (Contains cells c → ⊥) → IsLive piece c
  in_piece c live out = subst IsSome (rest_piece r cells others.0 others.1 c) (subst IsSome (sym (rest_out r cells c out)) live)

  named_root : (v : VarId) (c : CellId) → NamedAfter v c → IsRoot types u' c
  named_root v c (by_exit k w one other by) = record {
    live = subst IsSome (sym (of_exit vars call res rest t c (live_there w c by))) (live_there w c by);
    alone = λ a parent. elim (together.of_either a (Leads-live types u' DataAlone parent.field a c parent.leads).0) [
      | inl here ↦ together.apart c (one_from parent.field a c here parent.leads).live (live_there w c by)
      | inr there ↦ no_parent types callee.vars t exit_wf.backbone w a c by
          (record { field = parent.field; leads = exit_from parent.field a c there parent.leads })
    ];
  }
  named_root v c (by_rest named out) =
      let here = in_piece c (live_here v c named) out in
      record {
        live = subst IsSome (sym (of_piece c here)) here;
        alone = λ a parent. elim (together.of_either a (Leads-live types u' DataAlone parent.field a c parent.leads).0) [
          | inl near ↦ no_parent types vars r wf.backbone v a c named (record {
            field = parent.field;
            leads = (leads_off others.0 r piece (piece_on-IsOn others.0 r) types DataAlone parent.field a c (one_from parent.field a c near parent.leads)).2;
          })
          | inr there ↦ never_both c (exit_from parent.field a c there parent.leads).live (live_here v c named) out
        ];
      }

  -- ---- what a variable holds is live

  pub type_exit : (ty : TypeId) (c : CellId) → IsOfType t ty c → IsOfType u' ty c
  type_exit ty c h = subst (λ (o : Option CellEntry). IsSomeAnd o (λ cell. cell.variant.ty ≡ ty))
      (sym (of_exit vars call res rest t c (IsOfType-live types t ty c h))) h

  pub type_rest : (ty : TypeId) (c : CellId) → (Contains cells c → ⊥) → IsOfType r ty c → IsOfType u' ty c
  type_rest ty c out h =
      let live = IsOfType-live types r ty c h in
      subst (λ (o : Option CellEntry). IsSomeAnd o (λ cell. cell.variant.ty ≡ ty))
      (sym (of_rest vars call res rest t c (dead_there c live out) ∙ rest_out r cells c out)) h

  exit_held : (kind : VarKind) (x : Value) → VarHoldsLive t kind x → VarHoldsLive u' kind x
  exit_held var.Bool x h = tt
  exit_held (var.Data ty) (value.Bool truth) h = h
  exit_held (var.Data ty) (value.Cell None) h = tt
  exit_held (var.Data ty) (value.Cell (Some c)) h = type_exit ty c h
  exit_held (var.Data ty) (value.Cells cs) h = h
  exit_held (var.Pointer ty) (value.Bool truth) h = h
  exit_held (var.Pointer ty) (value.Cell None) h = tt
  exit_held (var.Pointer ty) (value.Cell (Some c)) h = type_exit ty c h
  exit_held (var.Pointer ty) (value.Cells cs) h = h
  exit_held (var.LogicSet ty) x h = tt
  exit_held var.LogicBool x h = tt

  null_held : (kind : VarKind) → VarHoldsLive u' kind null
  null_held var.Bool = tt
  null_held (var.Data ty) = tt
  null_held (var.Pointer ty) = tt
  null_held (var.LogicSet ty) = tt
  null_held var.LogicBool = tt

  rest_held : (v : VarId) (kind own : VarKind) (x : Value) → kind_at vars v ≡ Some kind → kind ≡ own → is_listed call.results v ≡ false →
      is_spent call (class_at vars v) v ≡ false → variable r v ≡ x → VarHoldsLive r own x → VarHoldsLive u' own x
  rest_held v kind var.Bool x is same unlisted unspent e h = tt
  rest_held v kind (var.Data ty) (value.Bool truth) is same unlisted unspent e h = h
  rest_held v kind (var.Data ty) (value.Cell None) is same unlisted unspent e h = tt
  rest_held v kind (var.Data ty) (value.Cell (Some c)) is same unlisted unspent e h =
      let held : IsDataVar kind = subst IsDataVar (sym same) tt in
      let no = no_argument (holds_cell (class_at vars v)) (is_argument call.args v) (is_listed call.results v)
      (ap holds_cell (class_kind vars v kind is ∙ ap class_of same)) unlisted unspent in
      type_rest ty c (not_inside v c (record { place = data_named vars v kind is held; value = variable_some r v c e }) no) h
  rest_held v kind (var.Data ty) (value.Cells cs) is same unlisted unspent e h = h
  rest_held v kind (var.Pointer ty) (value.Bool truth) is same unlisted unspent e h = h
  rest_held v kind (var.Pointer ty) (value.Cell None) is same unlisted unspent e h = tt
  rest_held v kind (var.Pointer ty) (value.Cell (Some c)) is same unlisted unspent e h =
      let no = no_argument (holds_cell (class_at vars v)) (is_argument call.args v) (is_listed call.results v)
      (ap holds_cell (class_kind vars v kind is ∙ ap class_of same)) unlisted unspent in
      type_rest ty c (outer v kind c is (ap (λ (k : VarKind). is_pointer (class_of k)) same) no e) h
  rest_held v kind (var.Pointer ty) (value.Cells cs) is same unlisted unspent e h = h
  rest_held v kind (var.LogicSet ty) x is same unlisted unspent e h = tt
  rest_held v kind var.LogicBool x is same unlisted unspent e h = tt

  live_at : (s : StoreMap) (table : List VarEntry) → IsWellFormed types table s → (v : VarId) (kind : VarKind) → kind_at table v ≡ Some kind →
      VarHoldsLive s kind (variable s v)
  live_at s table is v kind known =
      let e = kind_entry table v kind known in
      let x = value_there s table s.vars v.0 e.0 is.fits.values e.1 in
      subst (VarHoldsLive s kind) (sym (some_variable s v x.0 x.1)) (subst (λ k. VarHoldsLive s k x.0) e.2
      (IfSome-at (var_value s v) (VarHoldsLive s e.0.kind) x.0 x.1
      (IfSome-at (var_at table v) (λ (y : VarEntry). IfSome (var_value s v) (VarHoldsLive s y.kind)) e.0 e.1 (is.backbone.cell_vars v))))

  pub held_after : (v : VarId) (kind : VarKind) (x : Value) → kind_at vars v ≡ Some kind → After vars call res rest t v x → VarHoldsLive u' kind x
  held_after v kind x is (is_result k w one other from) =
      let both = result_kind k v w one other in
      let same : both.kind ≡ kind = some_same both.kind kind (sym both.own ∙ is) in
      subst (VarHoldsLive u' kind) (sym from) (exit_held kind (variable t w)
      (subst (λ k. VarHoldsLive t k (variable t w)) same (live_at t callee.vars exit_wf w both.kind both.other)))
  held_after v kind x is (is_null unlisted spent from) = subst (VarHoldsLive u' kind) (sym from) (null_held kind)
  held_after v kind x is (stays unlisted unspent from) =
      subst (VarHoldsLive u' kind) (sym from) (rest_held v kind kind (variable r v) is refl unlisted unspent refl (live_at r vars wf v kind is))

  pub names_roots_after : NamesRoots types vars u'
  names_roots_after = record {
    holds = λ v. IfSome-from (var_at vars v) _ (λ entry at. IfSome-from (var_value u' v) (VarHoldsLive u' entry.kind) (λ x is.
        subst (VarHoldsLive u' entry.kind) (some_same (value_of v) x (sym (holds_after vars call res rest t v (low v entry at)) ∙ is))
        (held_after v entry.kind (value_of v) (ap (option_map (λ (e : VarEntry). e.kind)) at) (after_is v))));
    each = λ c root. elim (together.of_either c root.live) [ inl here ↦ rest_root c here root | inr there ↦ exit_root c there root ];
    once = λ c v w one other. named_once c v w (named_how v c one) (named_how w c other);
    alone = λ v c named. named_root v c (named_how v c named);
  }

  pub sound_after : IsSound types vars u'
  sound_after = sound_together types vars callee.vars vars piece t u' together names_roots_after
      (record { backbone = piece_wf.backbone; pointers = piece_wf.pointers }) (record { backbone = exit_wf.backbone; pointers = exit_wf.pointers })
