use Rattle.std.proofs.Common.{◌≡◌, ◌∙◌, ◌∷◌, List, ℕ, codes, subst, sym, arith}
use Rattle.std.proofs.lemmas.Bool.{false≢true}
use Rattle.std.proofs.lemmas.Slice.Eq.{bytes_eq-Decides}
use Rattle.pale_parts.specs.declared.request.RequestFault.{RequestFault}
use Rattle.pale_parts.specs.Requests.{IsRequestFault, fields, triple, no_form, no_triple}
use Rattle.pale_parts.proofs.request.asked_in.Goals as goal

pub returns-then-is_fields-clause-ok : goal.returns-then-is_fields-clause-ok
returns-then-is_fields-clause-ok c = fields ((bytes_eq-Decides c.args.line.now (codes "fields")).0 (sym c.is_fields.ensures ∙ c.if-is_fields.true))

pub returns-in-None-clause-err : goal.returns-in-None-clause-err
returns-in-None-clause-err c more =
    subst (λ (fault : RequestFault). IsRequestFault c.args.triples (c.args.line.now ∷ more) fault) (sym c.first_fault.ensures)
    (no_form c.args.line.now more
    (λ is. false≢true (sym c.if-is_fields.false ∙ c.is_fields.ensures ∙ (bytes_eq-Decides c.args.line.now (codes "fields")).1 is))
    (c.in-None.ensures.none))

pub returns-in-Some-clause-err : goal.returns-in-Some-clause-err
returns-in-Some-clause-err c more =
    subst (λ (fault : RequestFault). IsRequestFault c.args.triples (c.args.line.now ∷ more) fault) (sym c.first_fault-in-Some.ensures)
    (no_triple c.args.line.now more c.in-Some.number c.in-Some.ensures.some.0 c.if-number-triples.true)

pub returns-in-Some-2-clause-ok : goal.returns-in-Some-2-clause-ok
returns-in-Some-2-clause-ok c = triple c.in-Some.number c.in-Some.ensures.some.0 c.in-Some.ensures.some.1 (omega (arith, c.if-number-triples.false))
