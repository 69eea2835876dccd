use Rattle.std.proofs.Common.{◌≡◌, drop, fold}
use Rattle.pale_vocabulary.specs.Connectives.{quantified, quantified_once}
use Rattle.pale_assertions.proofs.connectives.quantify.Given as goal

-- the quantifiers that are left go round those that were made
abbrev pub invariant-loop-name : goal.invariant-loop-name
invariant-loop-name l =
    fold (λ inner name. quantified_once l.quantifier.of_sets l.quantifier.kind l.ty inner) l.made (drop l._name-index l._name-items)
    ≡ quantified l.quantifier l.ty l.fn.body
