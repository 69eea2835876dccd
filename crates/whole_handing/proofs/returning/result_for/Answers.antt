use Rattle.std.proofs.Common.{◌≡◌, ◌∙◌, ◌==◌, List, [], inl, inr, sym, ap}
use Rattle.std.specs.Prelude.{option_map}
use Rattle.std.specs.List.{find, zip}
use Rattle.store_core.specs.declared.ids.VarId.{VarId}
use Rattle.whole_handing.proofs.ReturnLemmas.{no_own, no_other}
use Rattle.whole_handing.proofs.returning.result_for.Goals as goal

-- one of the two lists is at its end
pub returns : goal.returns
returns c =
    let own = c.loop-own.own-iterator.a.rest.now in
    let theirs = c.loop-own.own-iterator.b.rest.now in
    let none : zip own theirs ≡ [] = elim c.in-None.ensures.steps [
      | inl ended ↦ no_own own theirs ended.1.0
      | inr ended ↦ no_other own theirs ended.1.0
    ] in
    ap (λ (pairs : List (VarId × VarId)). option_map (λ (p : VarId × VarId). p.1) (find (λ (p : VarId × VarId). p.0.0 == c.args.var.0) pairs)) (sym none)
    ∙ ap (option_map (λ (p : VarId × VarId). p.1)) c.loop-own.invariant
