use Rattle.std.proofs.Common.{subst, sym}
use Rattle.store_text.specs.Lines.{lines_of}
use Rattle.pale_parts.specs.declared.request.RequestFault.{RequestFault}
use Rattle.pale_parts.specs.Requests.{IsRequestFault}
use Rattle.pale_parts.proofs.RequestLemmas.{second-line, without-bytes}
use Rattle.pale_parts.proofs.request.request_in.Goals as goal

pub returns-then-is_empty-clause-err : goal.returns-then-is_empty-clause-err
returns-then-is_empty-clause-err c =
    subst (λ (fault : RequestFault). IsRequestFault c.args.triples (lines_of c.args.part.now) fault) (sym c.first_fault.ensures)
    (without-bytes c.args.triples c.args.part.now (sym c.if-is_empty.ensures))

pub returns-else-is_empty-2-clause-err : goal.returns-else-is_empty-2-clause-err
returns-else-is_empty-2-clause-err c =
    second-line c.args.triples c.split_line.result.0.now c.split_line.result.1.now c.args.part.now c.in_ok-request.request c.split_line.ensures.lines
    (sym c.if-is_empty-2.ensures) c.in_ok-request.ensures.ok
