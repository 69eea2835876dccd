-- On what a call puts in.
use Rattle.std.proofs.Common.{◌≡◌, List, [], ◌++◌, map, slice_get, Option, Some, None, option_map, ap, ◌∙◌}
use Rattle.std.specs.Option.{option_map_or}
use Rattle.store_core.specs.declared.ids.VarId.{VarId}
use Rattle.store_logic.specs.declared.assertion.Assertion.{Assertion}
use Rattle.store_logic.specs.declared.assertion.Assertion.TheVariants as assertion
use Rattle.pale_calls.specs.declared.actual.Actual.{Actual}
use Rattle.pale_calls.specs.declared.actual.Actual.TheVariants as actual
use Rattle.pale_typed.specs.declared.typed.CallParts.{CallParts}
use Rattle.pale_typed.specs.declared.typed.ProcEntry.{ProcEntry}
use Rattle.pale_typed.specs.declared.typed.TypedProc.{TypedProc}
use Rattle.hoare_fill.specs.declared.putting.Put.{Put}
use Rattle.hoare_fill.specs.Putting.{beside, with_puts}
use Rattle.hoare_split.specs.Calls.{pre_for, post_for, pre_of, post_of}

of_callee : (f : TypedProc → Assertion) (o : Option ProcEntry) (callee : TypedProc) → Some callee ≡ option_map (λ e. e.proc) o →
    f callee ≡ option_map_or (λ e. f e.proc) o assertion.True
of_callee f None callee there = absurd cc
of_callee f (Some e) callee there = let same : callee ≡ e.proc = cc in ap f same

-- two lists of what is put in, one after the other
both : (new one puts : List Put) (vars vars' others others' : List VarId) (xs xs' ys ys' : List Actual) → new ≡ [] → vars ≡ vars' → xs ≡ xs' →
    one ≡ new ++ beside vars xs → others ≡ others' → ys ≡ ys' → puts ≡ one ++ beside others ys → puts ≡ beside vars' xs' ++ beside others' ys'
both new one puts vars vars' others others' xs xs' ys ys' none same_vars same_xs first same_others same_ys second =
    second ∙ ap (λ o. o ++ beside others ys) (first ∙ ap (λ n. n ++ beside vars xs) none ∙ ap (λ v. beside v xs) same_vars ∙ ap (beside vars') same_xs)
    ∙ ap (λ o. beside vars' xs' ++ beside o ys) same_others ∙ ap (λ y. beside vars' xs' ++ beside others' y) same_ys

module _ (procs : List ProcEntry) (call : CallParts) (callee : TypedProc) (there : Some callee ≡ option_map (λ e. e.proc) (slice_get procs call.callee)) where
  pub pre_of-there : (new one puts : List Put) (vars others : List VarId) (args logics : List Actual) → new ≡ [] → vars ≡ callee.params → args ≡ call.args →
      one ≡ new ++ beside vars args → others ≡ callee.logics → logics ≡ call.logics → puts ≡ one ++ beside others logics →
      with_puts puts callee.pre ≡ pre_of procs call
  pre_of-there new one puts vars others args logics none same_vars same_args first same_others same_logics second =
      ap (λ p. with_puts p callee.pre) (both new one puts vars callee.params others callee.logics args call.args logics call.logics
      none same_vars same_args first same_others same_logics second) ∙ of_callee (pre_for call) (slice_get procs call.callee) callee there

  pub post_of-there : (new one puts : List Put) (vars others results : List VarId) (logics : List Actual) → new ≡ [] → vars ≡ callee.results →
      results ≡ call.results → one ≡ new ++ beside vars (map (λ v. actual.Var v) results) → others ≡ callee.logics → logics ≡ call.logics →
      puts ≡ one ++ beside others logics → with_puts puts callee.post ≡ post_of procs call
  post_of-there new one puts vars others results logics none same_vars same_results first same_others same_logics second =
      ap (λ p. with_puts p callee.post) (both new one puts vars callee.results others callee.logics (map (λ v. actual.Var v) results)
      (map (λ v. actual.Var v) call.results) logics call.logics none same_vars (ap (map (λ v. actual.Var v)) same_results) first same_others same_logics second)
      ∙ of_callee (post_for call) (slice_get procs call.callee) callee there
