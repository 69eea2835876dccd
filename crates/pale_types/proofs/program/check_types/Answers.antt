use Rattle.std.proofs.Common.{map, sym, ap, ◌∙◌, subst}
use Rattle.std.proofs.lemmas.Result.{on_ok_weaker, IfOk-weaker}
use Rattle.pale_tables.specs.Faults.{Fault, IsStop}
use Rattle.pale_tables.proofs.FaultLemmas.{stop_same}
use Rattle.pale_types.specs.Programs.{types_in, predicates_in, procedures_in}
use Rattle.pale_types.proofs.ProgramLemmas.{list-same, typed-same}
use Rattle.pale_types.proofs.FittingLemmas.{typed-fits}
use Rattle.pale_types.proofs.program.check_types.Goals as goal

pub returns-clause-met : goal.returns-clause-met
returns-clause-met c =
    let p = c.args.program.now in
    let same = list-same _ (types_in p) _ (predicates_in p) _ (procedures_in p)
    (ap (map (λ t. t.now)) c.as_slice.ensures.value ∙ c.in_ok-sorted.ensures.types)
    (ap (map (λ q. q.now)) c.as_slice-2.ensures.value ∙ c.in_ok-sorted.ensures.predicates)
    (ap (map (λ q. q.now)) c.as_slice-3.ensures.value ∙ c.in_ok-sorted.ensures.procedures) in
    on_ok_weaker c.read_list.result (λ none. sym same ∙ none) c.read_list.ensures.met

pub returns-clause-typed : goal.returns-clause-typed
returns-clause-typed c =
    let p = c.args.program.now in
    let same = typed-same _ (types_in p) _ (predicates_in p) _ (procedures_in p)
    (ap (map (λ t. t.now)) c.as_slice.ensures.value ∙ c.in_ok-sorted.ensures.types)
    (ap (map (λ q. q.now)) c.as_slice-2.ensures.value ∙ c.in_ok-sorted.ensures.predicates)
    (ap (map (λ q. q.now)) c.as_slice-3.ensures.value ∙ c.in_ok-sorted.ensures.procedures) in
    IfOk-weaker c.read_list.result _ _ (λ x is. is ∙ same) c.read_list.ensures.typed

pub returns-clause-fits : goal.returns-clause-fits
returns-clause-fits c = typed-fits c.args.program.now c.read_list.result (returns-clause-met c) (returns-clause-typed c)

pub returns-clause-stop : goal.returns-clause-stop
returns-clause-stop c =
    let p = c.args.program.now in
    let same = list-same _ (types_in p) _ (predicates_in p) _ (procedures_in p)
    (ap (map (λ t. t.now)) c.as_slice.ensures.value ∙ c.in_ok-sorted.ensures.types)
    (ap (map (λ q. q.now)) c.as_slice-2.ensures.value ∙ c.in_ok-sorted.ensures.predicates)
    (ap (map (λ q. q.now)) c.as_slice-3.ensures.value ∙ c.in_ok-sorted.ensures.procedures) in
    stop_same _ _ c.read_list.result (λ e is. subst (λ (f : Fault). IsStop f e) same is) c.read_list.ensures.stop
