use Rattle.std.proofs.Common.{Some, ap, ◌∙◌, sym, arith}
use Rattle.store_text.proofs.SpellingLemmas.{line_of-small}
use Rattle.store_text.proofs.read.draft.Draft.say_line.Goals as goal

pub say_cell-requires : goal.say_cell-requires
say_cell-requires c =
    let small = line_of-small c.args.bytes.now c.in-Some-Cell.cell (sym c.in_ok-line_of.ensures ∙ c.in-Some-Cell.is ∙ ap Some c.in-Some-Cell.field-0-is) in
    omega (arith, small)
