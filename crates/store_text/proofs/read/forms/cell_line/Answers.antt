use Rattle.std.proofs.Common.{◌≡◌, IfOk, ◌∙◌, sym, subst}
use Rattle.store_text.specs.Spelling.{cell_in}
use Rattle.store_text.proofs.LineLemmas.{rest_from}
use Rattle.store_text.proofs.SpellingLemmas.{cell_line-more, cell_line-fewer}
use Rattle.store_text.proofs.read.forms.cell_line.Goals as goal

pub returns-then-parts-lt2 : goal.returns-then-parts-lt2
returns-then-parts-lt2 c = sym (cell_line-fewer c.args.parts.now c.if-parts-lt2.true)

pub returns : goal.returns
returns c =
    let parts = c.args.parts.now in
    let is = (λ i. cell_in (c.as_slice.ensures i) (c.as_slice-2.ensures i) (rest_from parts 2 i))
    ∙ sym (cell_line-more parts c.index-parts-0.result c.index-parts-1.result c.if-parts-lt2.false c.index-parts-0.is c.index-parts-1.is) in
    subst (λ l. IfOk c.cell_in.result (λ line. line ≡ l)) is c.cell_in.ensures
