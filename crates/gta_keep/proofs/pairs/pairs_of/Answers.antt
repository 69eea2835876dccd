use Rattle.std.proofs.Common.{ap, length, List, arith}
use Rattle.gta_core.specs.declared.part.Part.{Part}
use Rattle.gta_keep.proofs.PairsLemmas.{pairs_of-le}
use Rattle.gta_keep.proofs.pairs.pairs_of.Goals as goal

pub returns : goal.returns
returns c = λ g shelf size sized.
    let many = ap (λ (parts : List Part). length parts) c.parts-part-items.ensures.parts in
    pairs_of-le g shelf c.args.a.now c.loop-part.pairs c.loop-part.part-index size sized
    (let out = c.loop-part-test.false in omega (arith, many, out))
    (let end = c.loop-part.auto.part-index-end in omega (arith, many, end)) c.loop-part.invariant
