-- The node is made, if it is marked.
use Rattle.std.proofs.Common.{◌≡◌, ◌≤◌, true, length, arith}
use Rattle.bdd_list.specs.Listing.{node_at}
use Rattle.gta_classes.specs.Chosen.{is_marked}
use Rattle.gta_refine.proofs.NumbersLemmas.{IsSideFor-stands}
use Rattle.gta_room.proofs.ProgressLemmas.{Adds-none, Adds-make, IsStuck-make}
use Rattle.gta_minimise.specs.Renamed.{IsRenamed}
use Rattle.gta_minimise.proofs.MadeLemmas.{IsNumbered-marked, IsRenamed-choice, AreMade-made, AreMade-skip}
use Rattle.gta_minimise.proofs.nodes.make_node.Goals as goal

pub make-requires-clause-low : goal.make-requires-clause-low
make-requires-clause-low c =
    let nodes = c.args.nodes.now in
    let marks = c.args.marks.now in
    let old = c.args.shelf.now in
    let classes = c.args.classes.now in
    let refs = c.args.refs.now in
    let index = c.args.index in
    let n = node_at nodes index in
    let few : length refs ≤ length marks = (let m = c.requires.many in let n = c.requires.marks in let i = c.requires.inside in omega arith) in
    IsSideFor-stands old classes nodes index n.track n.low c.reference-low.result (c.requires.ordered.low index c.requires.inside)
    (c.reference-low.ensures old nodes (IsNumbered-marked old classes nodes marks refs c.requires.before few n.low
    (c.requires.sides.low index c.if-not-marks-index.false)))

pub make-requires-clause-high : goal.make-requires-clause-high
make-requires-clause-high c =
    let nodes = c.args.nodes.now in
    let marks = c.args.marks.now in
    let old = c.args.shelf.now in
    let classes = c.args.classes.now in
    let refs = c.args.refs.now in
    let index = c.args.index in
    let n = node_at nodes index in
    let few : length refs ≤ length marks = (let m = c.requires.many in let n = c.requires.marks in let i = c.requires.inside in omega arith) in
    IsSideFor-stands old classes nodes index n.track n.high c.reference-high.result (c.requires.ordered.high index c.requires.inside)
    (c.reference-high.ensures old nodes (IsNumbered-marked old classes nodes marks refs c.requires.before few n.high
    (c.requires.sides.high index c.if-not-marks-index.false)))

pub returns-then-not-marks-index-clause-made : goal.returns-then-not-marks-index-clause-made
returns-then-not-marks-index-clause-made c =
    AreMade-skip c.args.shelf.now c.args.classes.now c.args.nodes.now c.args.marks.now c.args.refs.now c.leaf.result c.args.index
    c.requires.many c.requires.before c.if-not-marks-index.true

pub returns-then-not-marks-index-clause-adds : goal.returns-then-not-marks-index-clause-adds
returns-then-not-marks-index-clause-adds c =
    Adds-none (IsRenamed c.args.classes.now c.args.nodes.now c.args.marks.now) c.args.shelf.now c.requires.shelf

pub returns-clause-made : goal.returns-clause-made
returns-clause-made c =
    let nodes = c.args.nodes.now in
    let marks = c.args.marks.now in
    let old = c.args.shelf.now in
    let classes = c.args.classes.now in
    let refs = c.args.refs.now in
    let index = c.args.index in
    let inside = c.requires.inside in
    let marked : is_marked marks index ≡ true = c.if-not-marks-index.false in
    let few : length refs ≤ length marks = (let m = c.requires.many in let n = c.requires.marks in omega arith) in
    let low = c.reference-low.ensures old nodes (IsNumbered-marked old classes nodes marks refs c.requires.before few (node_at nodes index).low
    (c.requires.sides.low index marked)) in
    let high = c.reference-high.ensures old nodes (IsNumbered-marked old classes nodes marks refs c.requires.before few (node_at nodes index).high
    (c.requires.sides.high index marked)) in
    let m = c.make.ensures in
    AreMade-made old classes nodes c.requires.ordered index inside c.reference-low.result c.reference-high.result low high marks
    c.make.new.self refs c.requires.before c.requires.many m.kept c.make.result m.value m.valid m.later

pub returns-clause-adds : goal.returns-clause-adds
returns-clause-adds c =
    let nodes = c.args.nodes.now in
    let marks = c.args.marks.now in
    let old = c.args.shelf.now in
    let classes = c.args.classes.now in
    let refs = c.args.refs.now in
    let index = c.args.index in
    let inside = c.requires.inside in
    let marked : is_marked marks index ≡ true = c.if-not-marks-index.false in
    let few : length refs ≤ length marks = (let m = c.requires.many in let n = c.requires.marks in omega arith) in
    let low = c.reference-low.ensures old nodes (IsNumbered-marked old classes nodes marks refs c.requires.before few (node_at nodes index).low
    (c.requires.sides.low index marked)) in
    let high = c.reference-high.ensures old nodes (IsNumbered-marked old classes nodes marks refs c.requires.before few (node_at nodes index).high
    (c.requires.sides.high index marked)) in
    let m = c.make.ensures in
    Adds-make (IsRenamed classes nodes marks) old c.make.new.self (node_at nodes index).track c.reference-low.result c.reference-high.result c.make.result
    c.requires.shelf
    (IsRenamed-choice old classes nodes c.requires.ordered index inside c.reference-low.result c.reference-high.result low high marks marked)
    m.value m.valid m.kept m.only m.count m.limit m.tables m.shelf m.err

pub returns-clause-stuck : goal.returns-clause-stuck
returns-clause-stuck c =
    let nodes = c.args.nodes.now in
    let marks = c.args.marks.now in
    let old = c.args.shelf.now in
    let classes = c.args.classes.now in
    let refs = c.args.refs.now in
    let index = c.args.index in
    let inside = c.requires.inside in
    let marked : is_marked marks index ≡ true = c.if-not-marks-index.false in
    let few : length refs ≤ length marks = (let m = c.requires.many in let n = c.requires.marks in omega arith) in
    let low = c.reference-low.ensures old nodes (IsNumbered-marked old classes nodes marks refs c.requires.before few (node_at nodes index).low
    (c.requires.sides.low index marked)) in
    let high = c.reference-high.ensures old nodes (IsNumbered-marked old classes nodes marks refs c.requires.before few (node_at nodes index).high
    (c.requires.sides.high index marked)) in
    let m = c.make.ensures in
    let track = (node_at nodes index).track in
    IsStuck-make (IsRenamed classes nodes marks) old c.make.new.self track c.reference-low.result c.reference-high.result c.make.result c.requires.shelf
    (IsRenamed-choice old classes nodes c.requires.ordered index inside c.reference-low.result c.reference-high.result low high marks marked)
    m.value m.valid m.kept m.only m.count m.limit m.tables m.shelf m.err
    (IsSideFor-stands old classes nodes index track (node_at nodes index).low c.reference-low.result (c.requires.ordered.low index inside) low)
    (IsSideFor-stands old classes nodes index track (node_at nodes index).high c.reference-high.result (c.requires.ordered.high index inside) high)
    m.full
