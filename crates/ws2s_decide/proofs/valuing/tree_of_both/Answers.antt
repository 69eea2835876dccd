use Rattle.std.proofs.Common.{refl}
use Rattle.ws2s_decide.proofs.BackLemmas.{Releases-failed, Releases-brief}
use Rattle.ws2s_decide.proofs.valuing.tree_of_both.Goals as goal

pub returns-in_default-clause-still : goal.returns-in_default-clause-still
returns-in_default-clause-still c = λ autos holds.
    Releases-failed c.args.g.now c.args.shelf.now c.product.new.shelf autos c.product.ensures.shelf c.product.ensures.kept c.in_default.ensures.tables
    c.product.ensures.same_limit holds

pub returns-in_err-tree-clause-still : goal.returns-in_err-tree-clause-still
returns-in_err-tree-clause-still c = λ autos holds.
    Releases-brief c.args.g.now c.args.shelf.now c.product.new.shelf c.product.new.shelf c.release.new.shelf c.in-Ok.both autos holds c.product.ensures.shelf
    c.product.ensures.kept c.in-Ok.ensures.table c.in-Ok.ensures.auto c.product.ensures.same_limit refl c.release.ensures.shelf c.release.ensures.dropped

pub returns-in-Tree-clause-still : goal.returns-in-Tree-clause-still
returns-in-Tree-clause-still c = λ autos holds.
    Releases-brief c.args.g.now c.args.shelf.now c.product.new.shelf c.product.new.shelf c.release.new.shelf c.in-Ok.both autos holds c.product.ensures.shelf
    c.product.ensures.kept c.in-Ok.ensures.table c.in-Ok.ensures.auto c.product.ensures.same_limit refl c.release.ensures.shelf c.release.ensures.dropped

pub returns-in-None : goal.returns-in-None
returns-in-None c = record {
  value = tt;
  still = λ autos holds.
      Releases-brief c.args.g.now c.args.shelf.now c.product.new.shelf c.product.new.shelf c.release.new.shelf c.in-Ok.both autos holds c.product.ensures.shelf
      c.product.ensures.kept c.in-Ok.ensures.table c.in-Ok.ensures.auto c.product.ensures.same_limit refl c.release.ensures.shelf c.release.ensures.dropped;
}
