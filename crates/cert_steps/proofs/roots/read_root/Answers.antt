use Rattle.std.proofs.Common.{refl, ◌∙◌}
use Rattle.cert_steps.proofs.RootsLemmas.{drawn-none, drawn-more, root-read}
use Rattle.cert_steps.proofs.roots.read_root.Goals as goal

pub loop-node-init : goal.loop-node-init
loop-node-init c = (c.requires.drawn, c.requires.known, refl, drawn-none c.args.drawing.now.nodes.told c.args.lines.now)

pub loop-node-preserved : goal.loop-node-preserved
loop-node-preserved c = (
  c.in_ok-draw.ensures.drawn,
  c.in_ok-draw.ensures.known,
  c.in_ok-draw.ensures.atoms ∙ c.loop-node.invariant.2,
  drawn-more c.args.drawing.now.nodes.told c.loop-node.drawing.nodes.told c.draw.new.drawing.nodes.told c.args.lines.now c.loop-node.left.now
      c.in-Some.rest.now c.in-Some.node c.loop-node.invariant.3 c.in-Some.ensures c.in_ok-draw.ensures.told,
)

pub returns-in-None-clause-found : goal.returns-in-None-clause-found
returns-in-None-clause-found c =
    root-read c.args.drawing.now.nodes.told c.loop-node.drawing.nodes.told c.args.lines.now c.loop-node.left.now c.in-Some-first_root.rest.now
    c.args.place c.in-Some-first_root.root c.loop-node.invariant.3 c.in-Some-first_root.ensures c.in-None.ensures
