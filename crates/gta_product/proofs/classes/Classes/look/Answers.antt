-- One pair after the other.
use Rattle.std.proofs.Common.{slice_get, sym, ◌∙◌, ap, arith}
use Rattle.std.proofs.lemmas.Option.{slice_get-get_or}
use Rattle.gta_product.proofs.NumbersLemmas.{Extends-refl, Extends-trans}
use Rattle.gta_product.proofs.KeyedLemmas.{looked-most}
use Rattle.gta_product.proofs.classes.Classes.look.Goals as goal

pub loop-k-init : goal.loop-k-init
loop-k-init c = record {
  at = c.len-k.ensures;
  ones = Extends-refl c.args.self.now.ones;
  keyed = c.requires.keyed;
}

pub add-requires : goal.add-requires
add-requires c = c.requires.inside c.loop-k.k (0, 0) (omega (arith, c.loop-k-test.true))

pub loop-k-preserved : goal.loop-k-preserved
loop-k-preserved c =
    let pairs = c.args.pairs.now in
    let k = c.loop-k.k in
    let invariant = c.loop-k.invariant in
    let e = c.in_ok-add.ensures in
    let there = ap (slice_get pairs) (sym invariant.at) ∙ slice_get-get_or pairs k (0, 0) (omega (arith, c.loop-k-test.true)) in
    record {
      at = omega (arith, invariant.at, e.more);
      ones = Extends-trans c.args.self.now.ones c.loop-k.self.ones c.add.new.self.ones invariant.ones e.ones;
      keyed = e.keyed pairs there invariant.keyed;
    }

pub returns-clause-all : goal.returns-clause-all
returns-clause-all c =
    let invariant = c.loop-k.invariant in
    let most = looked-most c.args.pairs.now c.args.left.now c.args.right.now c.loop-k.self invariant.keyed in
    omega (arith, invariant.at, most)
