use Rattle.std.proofs.Common.{◌≡◌, [], ◌∷◌, ◌++◌, sym, ap, subst, arith, inl, inr}
use Rattle.std.specs.Prelude.{Contains}
use Rattle.std.proofs.lemmas.Bool.{cases_lt}
use Rattle.std.proofs.lemmas.List.Elements.{Contains-push, Contains-append_left}
use Rattle.store_core.specs.declared.ids.VarId.{VarId}
use Rattle.routing_expr.proofs.leak.all_vars.Goals as goal

pub loop-index-preserved : goal.loop-index-preserved
loop-index-preserved c = λ v below.
    let index = c.loop-index.index in
    let new : VarId = record { 0 = index } in
    let roots = c.loop-index.roots.items in
    subst (λ xs. Contains xs v) (sym c.in_ok-push.ensures.items)
    (elim (cases_lt v.0 index) [
      | inl less ↦ Contains-append_left roots (new ∷ []) v (c.loop-index.invariant v less)
      | inr more ↦ let here : v.0 ≡ index = omega (arith, below) in
          subst (Contains (roots ++ new ∷ [])) (ap (λ n. record { 0 = n }) (sym here)) (Contains-push roots new)
    ])
