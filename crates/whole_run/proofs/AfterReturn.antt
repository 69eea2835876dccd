-- What a call makes of its caller's store.
use Rattle.std.proofs.Common.{◌≡◌, inl, inr, ℕ, Bool, true, false, not, IsTrue, List, Contains, slice_get, Option, Some, IsSome, IsSomeAnd}
use Rattle.std.proofs.Common.{is_some, refl, sym, ap, ◌∙◌, subst}
use Rattle.std.specs.List.{AllByRecursion, AllZip}
use Rattle.std.proofs.lemmas.Bool.{false≢true}
use Rattle.std.proofs.lemmas.Option.{slice_get_within}
use Rattle.store_core.specs.declared.ids.TypeId.{TypeId}
use Rattle.store_core.specs.declared.ids.VarId.{VarId}
use Rattle.store_core.specs.declared.ids.CellId.{CellId}
use Rattle.store_core.specs.declared.kind.VarKind.{VarKind}
use Rattle.store_core.specs.declared.kind.VarKind.TheVariants as var
use Rattle.store_core.specs.declared.value.Value.{Value}
use Rattle.store_core.specs.Tables.{VarEntry}
use Rattle.store_core.specs.Stores.{StoreMap, CellEntry, IsLive, IsAbove, cell_of}
use Rattle.store_core.proofs.AboveLemmas.{live_below}
use Rattle.store_core.proofs.FittingLemmas.{IsSomeAnd-at}
use Rattle.routing_walks.specs.Walks.{IsOfType}
use Rattle.store_exec.specs.Steps.{variable}
use Rattle.store_exec.specs.Restricted.{live_part, restricted}
use Rattle.pale_calls.specs.Classes.{class_of, holds_cell, is_logic}
use Rattle.pale_typed.specs.declared.typed.CallParts.{CallParts}
use Rattle.pale_typed.specs.declared.typed.ProcEntry.{ProcEntry}
use Rattle.pale_typed.specs.Fitting.{kind_at, IsLogicVariable, IsProgramVariable, IsLike}
use Rattle.hoare_split.specs.Picking.{class_at, is_argument, is_listed}
use Rattle.hoare_split.proofs.FittingVariableLemmas.{all-at}
use Rattle.whole_run.specs.Handing.{rest_store, value_after, beside_rest, returned_store}
use Rattle.whole_run.specs.Leaving.{CameOf}
use Rattle.whole_run.proofs.Zips.{zip_get}
use Rattle.whole_run.proofs.Handed.{kind_entry}
use Rattle.whole_run.proofs.HandedStart.{variable_now}
use Rattle.whole_run.proofs.Places.{some_variable, spent_cell, class_kind}
use Rattle.whole_run.proofs.Beside.{rest_out, rest_live, of_exit, of_rest, of_either, After, is_result, is_null, stays, after, holds_after}
use Rattle.whole_run.proofs.Moving.{Moves, part_all, type_live}

both_true : (b : Bool) → IsTrue b → IsTrue (not b) → ⊥
both_true true is isnt = false≢true isnt
both_true false is isnt = false≢true is

no_cell : (kind : VarKind) → IsTrue (is_logic (class_of kind)) → holds_cell (class_of kind) ≡ true → ⊥
no_cell var.Bool h holds = false≢true h
no_cell (var.Data ty) h holds = false≢true h
no_cell (var.Pointer ty) h holds = false≢true h
no_cell (var.LogicSet ty) h holds = false≢true holds
no_cell var.LogicBool h holds = false≢true holds

module _ (vars : List VarEntry) (callee : ProcEntry) (call : CallParts) (r : StoreMap) (cells : List CellId) (t : StoreMap)
    (like : AllZip (IsLike vars callee.vars) call.results callee.proc.results)
    (program : AllByRecursion (IsProgramVariable callee.vars) callee.proc.results) (above : IsAbove r)
    (alive : (c : CellId) → Contains cells c → IsLive r c) (came : CameOf r cells t) where
  abbrev res : List VarId
  res = callee.proc.results

  abbrev rest : StoreMap
  rest = rest_store r cells

  abbrev b : StoreMap
  b = beside_rest vars call res rest t

  -- no result is a logic variable, nor is what is null after the call
  no_result : (v : VarId) (k : ℕ) → IsLogicVariable vars v → slice_get call.results k ≡ Some v → ⊥
  no_result v k logic one =
      let got = zip_get (IsLike vars callee.vars) call.results res k v like one in
      let own = all-at (IsProgramVariable callee.vars) res k got.0 program got.1 in
      both_true (is_logic (class_of got.2.kind))
      (subst (λ (o : Option VarKind). IsSomeAnd o (λ kind. IsTrue (is_logic (class_of kind)))) got.2.own logic)
      (subst (λ (o : Option VarKind). IsSomeAnd o (λ kind. IsTrue (not (is_logic (class_of kind))))) got.2.other own)

  is_rest : (v : VarId) (x : Value) → IsLogicVariable vars v → After vars call res rest t v x → x ≡ variable r v
  is_rest v x logic (is_result k u one other from) = absurd (no_result v k logic one)
  is_rest v x logic (is_null unlisted spent from) =
      let kind = IsSomeAnd-at (kind_at vars v) (λ kind. IsTrue (is_logic (class_of kind))) logic in
      absurd (no_cell kind.0 kind.2 (sym (ap holds_cell (class_kind vars v kind.0 kind.1))
      ∙ spent_cell (holds_cell (class_at vars v)) (is_argument call.args v) (is_listed call.results v) spent))
  is_rest v x logic (stays unlisted unspent from) = from

  stays_logic : (v : VarId) → IsLogicVariable vars v → variable b v ≡ variable r v
  stays_logic v logic =
      let kind = IsSomeAnd-at (kind_at vars v) (λ kind. IsTrue (is_logic (class_of kind))) logic in
      let entry = kind_entry vars v kind.0 kind.1 in
      some_variable b v (value_after vars call res rest t v) (holds_after vars call res rest t v (slice_get_within vars v.0 entry.0 entry.1))
      ∙ is_rest v (value_after vars call res rest t v) logic (after vars call res rest t (IsLike vars callee.vars) v like)

  of_type : (c : CellId) (ty : TypeId) → IsLive b c → IsOfType r ty c → IsOfType b ty c
  of_type c ty live h = by (is_some (cell_of t c)) refl
    where
      by : (z : Bool) → is_some (cell_of t c) ≡ z → IsOfType b ty c
      by true there = subst (λ (o : Option CellEntry). IsSomeAnd o (λ cell. cell.variant.ty ≡ ty)) (sym (of_exit vars call res rest t c there))
          (came.kept c ty there (live_below r c above (type_live r c ty h)) h)
      by false dead =
          let here : cell_of b c ≡ cell_of rest c = of_rest vars call res rest t c (λ lives. false≢true (sym dead ∙ lives)) in
          let out = rest_live r cells c (subst IsSome here live) in
          subst (λ (o : Option CellEntry). IsSomeAnd o (λ cell. cell.variant.ty ≡ ty)) (sym (here ∙ rest_out r cells c out.0)) h

  pub returned_moves : Moves vars r (returned_store vars call res rest t)
  returned_moves = record {
    next = came.later;
    used = λ c less live. elim (of_either vars call res rest t c live) [
      | inl there ↦ alive c (came.handed c there less)
      | inr here ↦ (rest_live r cells c here).1
    ];
    types = of_type;
    logic = λ v logic. ap (live_part (restricted b)) (variable_now b v ∙ ap (live_part b) (stays_logic v logic))
        ∙ part_all b (restricted b) (λ c live. live) (variable r v);
  }
