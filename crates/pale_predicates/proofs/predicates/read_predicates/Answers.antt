use Rattle.std.proofs.Common.{◌≡◌, ◌+◌, ◌∷◌, List, None, drop, map, fold, sym, ap, ◌∙◌, subst}
use Rattle.std.proofs.lemmas.List.{at_drop_more}
use Rattle.pale_syntax.specs.declared.tree.declaration.PredicateDeclaration.{PredicateDeclaration}
use Rattle.pale_tables.specs.Faults.{Fault, ◌>>◌, IsStop}
use Rattle.pale_tables.specs.Names.{repeated_fault}
use Rattle.pale_tables.proofs.FaultLemmas.{stop-then, stop_returned}
use Rattle.pale_vocabulary.specs.Heads.{head_names}
use Rattle.pale_vocabulary.specs.declared.vocabulary.Declared.{Declared}
use Rattle.pale_vocabulary.specs.Predicates.{with_pred, predicate_fault, predicates_fault, nothing_with}
use Rattle.pale_vocabulary.proofs.NameLemmas.{names-first, names-rest, heads-next}
use Rattle.pale_predicates.proofs.predicates.read_predicates.Goals as goal

pub read_predicate-requires : goal.read_predicate-requires
read_predicate-requires c =
    let ps = c.args.predicates.now in
    let i = c.loop-predicate.predicate-index in
    let p = c.predicate-item.result in
    let heads = head_names c.loop-predicate.declared.vocabulary.preds in
    let next : drop i ps ≡ p ∷ drop (i + 1) ps =
    at_drop_more (λ l. l) ps i p c.loop-predicate-test.true ∙ ap (λ y. y ∷ drop (i + 1) ps) (sym c.predicate-item.is) in
    names-first heads p.now.name (map (λ q. q.now.name) (drop (i + 1) ps))
    (ap (λ l. repeated_fault heads (map (λ q. q.now.name) l)) (sym next) ∙ c.loop-predicate.invariant.names)

pub returns-in_err-read_predicate-clause-stop : goal.returns-in_err-read_predicate-clause-stop
returns-in_err-read_predicate-clause-stop c =
    let ps = c.args.predicates.now in
    let i = c.loop-predicate.predicate-index in
    let p = c.predicate-item.result in
    let before = c.loop-predicate.declared in
    let e = c.in_err-read_predicate.field-0.0 in
    let next : drop i ps ≡ p ∷ drop (i + 1) ps =
    at_drop_more (λ l. l) ps i p c.loop-predicate-test.true ∙ ap (λ y. y ∷ drop (i + 1) ps) (sym c.predicate-item.is) in
    stop_returned _ c.from_residual.result e c.from_residual.ensures.1
    (subst (λ (f : Fault). IsStop f e)
    (sym (c.loop-predicate.invariant.faults ∙ ap (λ l. predicates_fault before (map (λ q. q.now) l)) next))
    (stop-then (predicate_fault before p.now) _ e c.in_err-read_predicate.ensures.stop))

pub loop-predicate-preserved : goal.loop-predicate-preserved
loop-predicate-preserved c =
    let ps = c.args.predicates.now in
    let i = c.loop-predicate.predicate-index in
    let p = c.predicate-item.result in
    let before = c.loop-predicate.declared in
    let made = c.in_ok-read_predicate.ensures.declared in
    let rest = map (λ q. q.now) (drop (i + 1) ps) in
    let names = map (λ q. q.now.name) (drop (i + 1) ps) in
    let next : drop i ps ≡ p ∷ drop (i + 1) ps =
    at_drop_more (λ l. l) ps i p c.loop-predicate-test.true ∙ ap (λ y. y ∷ drop (i + 1) ps) (sym c.predicate-item.is) in
    record {
      names =
          ap (λ (d : Declared). repeated_fault (head_names d.vocabulary.preds) names) made
          ∙ ap (λ l. repeated_fault l names) (heads-next before p.now)
          ∙ names-rest (head_names before.vocabulary.preds) p.now.name names
          (ap (λ l. repeated_fault (head_names before.vocabulary.preds) (map (λ q. q.now.name) l)) (sym next)
          ∙ c.loop-predicate.invariant.names);
      faults =
          c.loop-predicate.invariant.faults
          ∙ ap (λ l. predicates_fault before (map (λ q. q.now) l)) next
          ∙ ap (λ f. f >> predicates_fault (with_pred before p.now) rest) c.in_ok-read_predicate.ensures.met
          ∙ sym (ap (λ (d : Declared). predicates_fault d rest) made);
      declared =
          ap (λ (d : Declared). fold with_pred d rest) made
          ∙ ap (λ l. fold with_pred before (map (λ q. q.now) l)) (sym next)
          ∙ c.loop-predicate.invariant.declared;
    }
