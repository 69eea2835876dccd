use Rattle.std.proofs.Common.{ap, ◌∙◌, sym}
use Rattle.std.specs.Option.{option_map}
use Rattle.store_text.specs.declared.read.spelled.Line.TheVariants as line
use Rattle.store_text.proofs.SpellingLemmas.{var_line-given, var_line-other}
use Rattle.store_text.proofs.read.forms.var_line.Goals as goal

pub returns-then-parts-ne2 : goal.returns-then-parts-ne2
returns-then-parts-ne2 c = sym (var_line-other c.args.parts.now c.if-parts-ne2.true)

pub returns-in-None : goal.returns-in-None
returns-in-None c =
    sym (ap (option_map line.Var) c.in-None.is)
    ∙ var_line-given c.args.parts.now c.index-parts-0.result c.index-parts-1.result c.as_slice.result.now c.as_slice-2.result.now c.in_ok-given_of.field-0
    c.if-parts-ne2.false c.index-parts-0.is c.index-parts-1.is c.as_slice.ensures c.as_slice-2.ensures c.in_ok-given_of.ensures

pub returns-in-Some : goal.returns-in-Some
returns-in-Some c =
    sym (ap (option_map line.Var) c.in-Some.is)
    ∙ var_line-given c.args.parts.now c.index-parts-0.result c.index-parts-1.result c.as_slice.result.now c.as_slice-2.result.now c.in_ok-given_of.field-0
    c.if-parts-ne2.false c.index-parts-0.is c.index-parts-1.is c.as_slice.ensures c.as_slice-2.ensures c.in_ok-given_of.ensures
