use Rattle.std.proofs.Common.{arith}
use Rattle.gta_pinned.proofs.ShapesLemmas.{AreListed-insert}
use Rattle.gta_pinned.proofs.shapes.Shapes.state.Goals as goal

pub invariant_of-self-2 : goal.invariant_of-self-2
invariant_of-self-2 c = AreListed-insert c.self.inside.shapes.keys c.insert_full.new.self.keys c.args.shape c.in_ok-place.ensures.keys c.self.invariant
    (let m = c.if-len-ge-MOST.false in let n = c.len.ensures.len in omega arith)

pub returns-clause-listed : goal.returns-clause-listed
returns-clause-listed c = AreListed-insert c.self.inside.shapes.keys c.insert_full.new.self.keys c.args.shape c.in_ok-place.ensures.keys c.self.invariant
    (let m = c.if-len-ge-MOST.false in let n = c.len.ensures.len in omega arith)
