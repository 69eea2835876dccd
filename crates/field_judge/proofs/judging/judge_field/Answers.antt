use Rattle.std.proofs.Common.{List, sym, ap, subst}
use Rattle.std.specs.List.{AllByRecursion}
use Rattle.store_core.specs.Tables.{TypeEntry, VarEntry, KnowsVarKind}
use Rattle.tree_encode.specs.Layouts.{LaidOut}
use Rattle.field_judge.specs.Judging.{HasFieldPeak}
use Rattle.field_judge.proofs.OneEachLemmas.{types-known}
use Rattle.field_judge.proofs.judging.judge_field.Goals as goal

pub new-requires-2-clause-vars : goal.new-requires-2-clause-vars
new-requires-2-clause-vars g c =
    let types = c.args.types.now in
    subst (AllByRecursion (λ (entry : VarEntry). KnowsVarKind types entry.kind)) (sym c.in_ok-vars.ensures) (types-known types)

pub returns-clause-limit : goal.returns-clause-limit
returns-clause-limit g c = λ is p peak.
    c.judge_laid_out.ensures.limit is p
    (subst (λ (ts : List TypeEntry). HasFieldPeak ts c.args.f p) (sym (ap (λ (l : LaidOut). l.types) c.in_ok-l.ensures)) peak)
