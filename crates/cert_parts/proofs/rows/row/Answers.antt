use Rattle.std.proofs.Common.{◌+◌, sym, subst}
use Rattle.cert_parts.specs.Leading.{AreCells}
use Rattle.cert_parts.proofs.DecideLemmas.{grown-none, grown-more}
use Rattle.cert_parts.proofs.RowsLemmas.{cells-none, cells-push}
use Rattle.cert_parts.proofs.rows.row.Goals as goal

pub loop-q-init : goal.loop-q-init
loop-q-init c = (
  c.requires,
  grown-none c.args.nodes.now,
  subst (AreCells c.args.nodes.now c.args.atom c.args.p 0) (sym c.new-row.ensures) (cells-none c.args.nodes.now c.args.atom c.args.p),
)

pub loop-q-preserved : goal.loop-q-preserved
loop-q-preserved c = (
  c.in_ok-target.ensures.drawn,
  grown-more c.args.nodes.now c.loop-q.nodes c.cell.new.nodes c.loop-q.invariant.1 c.in_ok-target.ensures.grown,
  subst (AreCells c.cell.new.nodes c.args.atom c.args.p (c.loop-q.q + 1)) (sym c.in_ok-push.ensures.ok)
      (cells-push c.loop-q.nodes c.cell.new.nodes c.args.atom c.args.p c.loop-q.q c.loop-q.row c.in_ok-target.target c.loop-q.invariant.2
      c.in_ok-target.ensures.grown c.in_ok-target.ensures.leads),
)
