use Rattle.std.proofs.Common.{◌≡◌, ℕ, suc, ◌-◌, ◌<◌, List, length, sym, ◌∙◌, ap, subst, arith}
use Rattle.bdd_nodes.specs.Nodes.{node_of, node_at}
use Rattle.bdd_nodes.specs.Collecting.{MarksSides, with_mark}
use Rattle.bdd_nodes.proofs.MarksLemmas.{MarksSides-none, MarksSides-marked}
use Rattle.bdd_nodes.proofs.collecting.mark_sides.Goals as goal

pub loop-index-init : goal.loop-index-init
loop-index-init c = MarksSides-none _ _

pub loop-index-preserved-then-marks-index-eq1 : goal.loop-index-preserved-then-marks-index-eq1
loop-index-preserved-then-marks-index-eq1 c =
    let nodes = c.args.nodes.now in
    let marks = c.loop-index.marks in
    let index = c.loop-index.index - 1 in
    let here : c.loop-index.index ≡ suc index = omega arith in
    let within : index < length nodes = omega arith in
    let so_far : MarksSides nodes c.args.marks.now marks (suc index) =
    subst (MarksSides nodes c.args.marks.now marks) here c.loop-index.invariant in
    let both : c.mark-then-marks-index-eq1.new.marks ≡ with_mark (with_mark marks (node_of (node_at nodes index).low)) (node_of (node_at nodes index).high) =
    c.mark-then-marks-index-eq1.ensures ∙ ap (λ (ms : List ℕ). with_mark ms (node_of (node_at nodes index).high)) c.mark.ensures in
    subst (λ (ms : List ℕ). MarksSides nodes c.args.marks.now ms index) (sym both)
    (MarksSides-marked nodes c.requires.canonical c.args.marks.now marks index so_far within
    (let f = c.requires.fits in omega arith)
    c.if-marks-index-eq1.true)
