use Rattle.ws2s_core.specs.LabelTrees.{assignment_of}
use Rattle.tree_store.proofs.HoldersLemmas.{backbone-lays}
use Rattle.store_gallery.proofs.stores.back_from_tree.Goals as goal

pub decode-requires : goal.decode-requires
decode-requires c =
    let is = c.requires in
    backbone-lays c.args.l.now.types c.args.l.now.vars c.args.store.now (assignment_of c.in_ok-tree.tree) is.fits is.backbone is.sets
    c.in_ok-tree.ensures.assignment
