use Rattle.std.proofs.Common.{◌≡◌, ◌∙◌, ◌++◌, List, [], ap, sym, inl, inr, append-nil}
use Rattle.hoare_fill.specs.declared.putting.Put.{Put}
use Rattle.hoare_fill.specs.Putting.{beside}
use Rattle.hoare_fill.proofs.PuttingLemmas.{beside-no_variable, beside-no_actual}
use Rattle.hoare_fill.proofs.putting.pair_actuals.Goals as goal

pub returns : goal.returns
returns c =
    let puts = c.loop-var.puts in
    let vars = c.loop-var.var-iterator.a.rest.now in
    let rest = c.loop-var.var-iterator.b.rest.now in
    let none : beside vars rest ≡ [] = elim c.in-None.ensures.steps [
      | inl ended ↦ beside-no_variable vars rest ended.1.0
      | inr ended ↦ beside-no_actual vars rest ended.1.0
    ] in
    sym (append-nil puts) ∙ (ap (λ (more : List Put). puts ++ more) (sym none) ∙ c.loop-var.invariant)
