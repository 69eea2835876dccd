use Rattle.std.proofs.Common.{◌≡◌, None, map, drop, fold}
use Rattle.pale_tables.specs.Names.{repeated_fault}
use Rattle.pale_vocabulary.specs.Heads.{head_names}
use Rattle.pale_vocabulary.specs.Predicates.{with_pred, predicates_fault, nothing_with, declared_by}
use Rattle.pale_predicates.proofs.predicates.read_predicates.Given as goal

-- what came before has no fault, and the names that are left are new
abbrev pub invariant-loop-predicate : goal.invariant-loop-predicate
invariant-loop-predicate l = record {
  names : repeated_fault (head_names l.declared.vocabulary.preds) (map (λ p. p.now.name) (drop l.predicate-index l.predicates)) ≡ None;
  faults : predicates_fault (nothing_with l.fn.types l.fn.names) (map (λ p. p.now) l.predicates)
      ≡ predicates_fault l.declared (map (λ p. p.now) (drop l.predicate-index l.predicates));
  declared : fold with_pred l.declared (map (λ p. p.now) (drop l.predicate-index l.predicates))
      ≡ declared_by l.fn.types l.fn.names (map (λ p. p.now) l.predicates);
}
