use Rattle.std.proofs.Common.{◌∙◌, sym}
use Rattle.std.proofs.lemmas.Bool.{false≢true}
use Rattle.std.proofs.lemmas.Slice.Eq.{bytes_eq-Decides}
use Rattle.store_text.proofs.LineLemmas.{rest_from}
use Rattle.pale_parts.specs.Parts.{cut_line}
use Rattle.pale_parts.proofs.PartLemmas.{goes_on, cut_here}
use Rattle.pale_parts.proofs.parts.cut_text.Goals as goal

pub returns-then-is_cut_line-clause-cut : goal.returns-then-is_cut_line-clause-cut
returns-then-is_cut_line-clause-cut c =
    let text = c.args.text.now in
    let line = c.split_line.result.0.now in
    let after = c.split_line.result.1.now in
    cut_here text line after c.loop-start.start c.loop-start.invariant
    (rw rest_from at c.split_line.ensures.lines) (rw rest_from at c.split_line.ensures.bytes)
    ((bytes_eq-Decides line cut_line).0 (sym c.is_cut_line.ensures ∙ c.if-is_cut_line.true))

pub loop-start-preserved : goal.loop-start-preserved
loop-start-preserved c =
    let text = c.args.text.now in
    let line = c.split_line.result.0.now in
    let after = c.split_line.result.1.now in
    goes_on text line after c.loop-start.start c.loop-start.invariant
    (rw rest_from at c.split_line.ensures.lines) (rw rest_from at c.split_line.ensures.bytes)
    (λ is. false≢true (sym c.if-is_cut_line.false ∙ c.is_cut_line.ensures ∙ (bytes_eq-Decides line cut_line).1 is))
