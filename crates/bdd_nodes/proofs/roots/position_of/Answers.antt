use Rattle.std.proofs.Common.{◌+◌, ◌-◌, ◌/◌, ◌<◌, [], length, sym, ◌∙◌, subst, arith}
use Rattle.std.proofs.lemmas.List.{get_or_read}
use Rattle.bdd_nodes.specs.Roots.{table_at, number_of}
use Rattle.bdd_nodes.specs.declared.roots.RootTable.{RootTable}
use Rattle.bdd_nodes.proofs.RootsLemmas.{IsBetween-upper, IsBetween-none}
use Rattle.bdd_nodes.proofs.roots.position_of.Goals as goal

pub loop-low-preserved-then-number-id-2 : goal.loop-low-preserved-then-number-id-2
loop-low-preserved-then-number-id-2 c =
    IsBetween-upper c.args.tables.now _ c.loop-low.low c.loop-low.high _ c.requires.rise c.loop-low.invariant (omega arith)
    (let middle = c.loop-low.low + (c.loop-low.high - c.loop-low.low) / 2 in
    let within : middle < length c.args.tables.now = let w = c.loop-low.invariant.within in omega arith in
    let read = get_or_read c.args.tables.now middle c.index-tables-middle.result within c.index-tables-middle.is (table_at [] 0) in
    subst (λ (t : RootTable). number_of t.id < number_of c.args.id) (sym c.index-tables-middle.is ∙ read) c.if-number-id-2.true)

pub returns-clause-none : goal.returns-clause-none
returns-clause-none c = IsBetween-none c.args.tables.now _ c.loop-low.low c.loop-low.high c.loop-low.invariant c.loop-low-test.false
