use Rattle.std.proofs.Common.{◌≡◌, List, ◌∙◌}
use Rattle.std.proofs.lemmas.Result.{IfOk-weaker}
use Rattle.ws2s_core.specs.declared.formula.Formula.{Formula}
use Rattle.store_core.specs.Tables.{TypeEntry, VarEntry}
use Rattle.tree_reached.specs.Alike.{AlikeOnTrees}
use Rattle.tree_reached.specs.ByField.{ways}
use Rattle.tree_reached.proofs.ReachedLemmas.{ends-by-field}
use Rattle.tree_reached.proofs.wide_types.with_type.Goals as goal

pub returns : goal.returns
returns c =
    let types = c.args.l.now.types in
    let vars = c.args.l.now.vars in
    let first : c.as_slice-2.result.now ≡ ways types vars c.args.ty = c.as_slice-2.ensures.value ∙ c.in_ok-ways.ensures.value in
    let second : c.as_slice-3.result.now ≡ ways types vars c.args.ty = c.as_slice-3.ensures.value ∙ c.in_ok-ways.ensures.value in
    let alike =
    ends-by-field types vars c.args.ty c.as_slice-2.result.now c.as_slice-3.result.now c.args.next c.in_ok-at_ends.at_ends c.in_ok-by_field.by_field
    c.in_ok-ways.ensures.inside c.requires first second c.in_ok-at_ends.ensures c.in_ok-by_field.ensures in
    IfOk-weaker c.replaced.result
    (λ (f : Formula). (types : List TypeEntry) (vars : List VarEntry) → AlikeOnTrees types vars c.in_ok-at_ends.at_ends c.in_ok-by_field.by_field →
    AlikeOnTrees types vars c.args.formula f) (AlikeOnTrees types vars c.args.formula) (λ f h. h types vars alike) c.replaced.ensures
