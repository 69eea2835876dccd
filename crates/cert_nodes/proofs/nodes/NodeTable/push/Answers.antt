use Rattle.std.proofs.Common.{rules, List, sym, subst}
use Rattle.cert_text.specs.declared.line.NodeLine.{NodeLine}
use Rattle.cert_nodes.specs.Nodes.{MayFollow}
use Rattle.cert_nodes.proofs.NodesLemmas.{AreNodes_grown, AreNodes_kept}
use Rattle.cert_nodes.proofs.nodes.NodeTable.push.Goals as goal

pub invariant_of-self : goal.invariant_of-self
invariant_of-self c = AreNodes_kept c.self.inside.nodes c.push.new.self c.self.invariant c.in_err-push.ensures.err

pub invariant_of-self-2 : goal.invariant_of-self-2
invariant_of-self-2 c =
    let follows : MayFollow c.self.inside.nodes c.args.node =
    subst (λ (l : List NodeLine). MayFollow l c.args.node) (sym c.self.view_is) (c.may_follow.ensures.0 (search rules)) in
    AreNodes_grown c.self.inside.nodes c.push.new.self c.args.node c.self.invariant follows c.in_ok-push.ensures.ok

pub returns-clause-drawn : goal.returns-clause-drawn
returns-clause-drawn c =
    let follows : MayFollow c.self.inside.nodes c.args.node =
    subst (λ (l : List NodeLine). MayFollow l c.args.node) (sym c.self.view_is) (c.may_follow.ensures.0 (search rules)) in
    AreNodes_grown c.self.inside.nodes c.push.new.self c.args.node c.self.invariant follows c.in_ok-push.ensures.ok
