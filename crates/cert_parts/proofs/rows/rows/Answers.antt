use Rattle.std.proofs.Common.{◌+◌, sym, subst}
use Rattle.cert_theory.specs.Sections.{atom_states}
use Rattle.cert_parts.specs.Leading.{AreFirstRows}
use Rattle.cert_parts.proofs.DecideLemmas.{grown-none, grown-more}
use Rattle.cert_parts.proofs.RowsLemmas.{rows-none, rows-push}
use Rattle.cert_parts.proofs.rows.rows.Goals as goal

pub loop-p-init : goal.loop-p-init
loop-p-init c = (
  c.requires,
  grown-none c.args.nodes.now,
  subst (AreFirstRows c.args.nodes.now c.args.atom (atom_states c.args.atom) 0) (sym c.new-rows.ensures)
      (rows-none c.args.nodes.now c.args.atom (atom_states c.args.atom)),
)

pub loop-p-preserved : goal.loop-p-preserved
loop-p-preserved c = (
  c.in_ok-targets.ensures.drawn,
  grown-more c.args.nodes.now c.loop-p.nodes c.row.new.nodes c.loop-p.invariant.1 c.in_ok-targets.ensures.grown,
  subst (AreFirstRows c.row.new.nodes c.args.atom (atom_states c.args.atom) (c.loop-p.p + 1)) (sym c.in_ok-push.ensures.ok)
      (rows-push c.loop-p.nodes c.row.new.nodes c.args.atom (atom_states c.args.atom) c.loop-p.p c.loop-p.rows c.in_ok-targets.targets
      c.loop-p.invariant.2 c.in_ok-targets.ensures.grown c.in_ok-targets.ensures.cells),
)
