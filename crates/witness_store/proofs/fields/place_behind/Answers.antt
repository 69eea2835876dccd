use Rattle.std.proofs.Common.{sym, ◌∙◌, subst, ◌+◌}
use Rattle.witness_store.specs.Reading.{IsBehind}
use Rattle.witness_store.proofs.FieldsLemmas.{behind-data, behind-other}
use Rattle.witness_store.proofs.fields.place_behind.Goals as goal

pub returns-then-is_data : goal.returns-then-is_data
returns-then-is_data c = λ p tree within behind.
    let types = c.args.l.now.types in
    let f = c.args.field in
    subst (IsBehind types c.args.nodes.now p f.ty (f.index + 1)) (sym c.right_of.ensures)
    (behind-data types c.args.nodes.now tree p f.ty f.index c.args.place within behind (sym c.is_data.ensures ∙ c.if-is_data.true))

pub returns-else-is_data : goal.returns-else-is_data
returns-else-is_data c = λ p tree within behind.
    let f = c.args.field in
    behind-other c.args.l.now.types c.args.nodes.now tree p f.ty f.index c.args.place within behind (sym c.is_data.ensures ∙ c.if-is_data.false)
