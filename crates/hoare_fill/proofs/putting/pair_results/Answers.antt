use Rattle.std.proofs.Common.{◌≡◌, ◌∙◌, ◌++◌, List, [], ap, sym, inl, inr, append-nil, map}
use Rattle.pale_calls.specs.declared.actual.Actual.TheVariants as actual
use Rattle.hoare_fill.specs.declared.putting.Put.{Put}
use Rattle.hoare_fill.specs.Putting.{beside}
use Rattle.hoare_fill.proofs.PuttingLemmas.{beside-no_variable, beside-no_result}
use Rattle.hoare_fill.proofs.putting.pair_results.Goals as goal

pub returns : goal.returns
returns c =
    let puts = c.loop-var.puts in
    let vars = c.loop-var.var-iterator.a.rest.now in
    let rest = c.loop-var.var-iterator.b.rest.now in
    let none : beside vars (map (λ v. actual.Var v) rest) ≡ [] = elim c.in-None.ensures.steps [
      | inl ended ↦ beside-no_variable vars (map (λ v. actual.Var v) rest) ended.1.0
      | inr ended ↦ beside-no_result vars rest ended.1.0
    ] in
    sym (append-nil puts) ∙ (ap (λ (more : List Put). puts ++ more) (sym none) ∙ c.loop-var.invariant)
