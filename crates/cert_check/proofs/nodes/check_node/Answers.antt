use Rattle.std.proofs.Common.{◌<◌, length, ap, sym, ◌∙◌, arith}
use Rattle.cert_steps.specs.Places.{greatests_of}
use Rattle.cert_check.specs.Standing.{IsAtomBase, IsQuantifiedBase}
use Rattle.cert_check.proofs.ArmsLemmas.{and-stands, ex-stands, not-stands, atom-added, not-below, inside-not}
use Rattle.cert_check.proofs.BoardLemmas.{inside-base}
use Rattle.cert_check.proofs.nodes.check_node.Goals as goal

pub returns-in_ok-rest-in-And-clause-stands : goal.returns-in_ok-rest-in-And-clause-stands
returns-in_ok-rest-in-And-clause-stands c = λ nodes body at stands.
    and-stands c.args.g.now nodes c.args.drawing.now.nodes c.add_conjunction.new.drawing.nodes c.args.board.now c.add_conjunction.new.board c.args.number
    c.args.node body c.args.lines.now c.requires.below at stands c.in-And.first c.in-And.second c.in_ok-left-in-And.left.now
    c.in_ok-rest-in-And.rest.now c.in-And.is c.in_ok-rest-in-And.ensures.atoms c.in_ok-left-in-And.ensures c.in_ok-rest-in-And.ensures.added

pub returns-in_ok-rest-in-Ex2-clause-inside : goal.returns-in_ok-rest-in-Ex2-clause-inside
returns-in_ok-rest-in-Ex2-clause-inside c =
    let old = c.args.board.now in
    inside-base (IsQuantifiedBase c.args.g.now c.args.drawing.now.nodes.told c.add_quantified.new.drawing.nodes old c.in-Ex2.track.0 c.in-Ex2.inner.0
    c.in_ok-left-in-Ex2.left.now c.in_ok-rest-in-Ex2.rest.now) old c.add_quantified.new.board c.requires.inside c.in_ok-rest-in-Ex2.ensures.added

pub returns-in_ok-rest-in-Ex2-clause-stands : goal.returns-in_ok-rest-in-Ex2-clause-stands
returns-in_ok-rest-in-Ex2-clause-stands c = λ nodes body at stands.
    ex-stands c.args.g.now nodes c.args.drawing.now.nodes c.add_quantified.new.drawing.nodes c.args.board.now c.add_quantified.new.board c.args.number
    c.args.node body c.args.lines.now c.requires.below at stands c.in-Ex2.track c.in-Ex2.inner c.in_ok-left-in-Ex2.left.now
    c.in_ok-rest-in-Ex2.rest.now c.in-Ex2.is c.in_ok-rest-in-Ex2.ensures.atoms c.in_ok-left-in-Ex2.ensures c.in_ok-rest-in-Ex2.ensures.added

pub returns-in_ok-push_negation-in-Not-clause-inside : goal.returns-in_ok-push_negation-in-Not-clause-inside
returns-in_ok-push_negation-in-Not-clause-inside c =
    let many = c.requires.many in
    let below = not-below c.args.number c.args.node c.in-Not.inner c.in-Not.is c.requires.below in
    let low : c.in-Not.inner.0 < length c.args.board.now.parts = omega (arith, many, below) in
    inside-not c.args.board.now c.push_negation.new.board c.in-Not.inner.0 c.requires.inside low c.in_ok-push_negation-in-Not.ensures.bases
    c.in_ok-push_negation-in-Not.ensures.parts

pub returns-in_ok-push_negation-in-Not-clause-stands : goal.returns-in_ok-push_negation-in-Not-clause-stands
returns-in_ok-push_negation-in-Not-clause-stands c = λ nodes body at stands.
    not-stands c.args.g.now nodes c.args.drawing.now.nodes c.args.board.now c.push_negation.new.board c.args.number c.args.node c.in-Not.inner body
    c.args.lines.now c.in-Not.is c.requires.below c.in_ok-push_negation-in-Not.ensures.bases c.in_ok-push_negation-in-Not.ensures.parts at stands

pub returns-in_ok-add_atom-in_default : goal.returns-in_ok-add_atom-in_default
returns-in_ok-add_atom-in_default c =
    let d = c.args.drawing.now.nodes in
    let e = c.add_atom.new.drawing.nodes in
    let old = c.args.board.now in
    let new = c.add_atom.new.board in
    let added = c.in_ok-add_atom-in_default.ensures in
    record {
      drawn = added.drawn;
      known = added.greatest ∙ c.requires.known ∙ ap greatests_of (sym added.told);
      inside = inside-base (IsAtomBase c.args.g.now e c.args.node) old new c.requires.inside added.added;
      stands = λ nodes body at stands.
          atom-added c.args.g.now nodes d e old new c.args.number c.args.node body c.args.lines.now c.requires.below at stands
          (record { not_and = c.in_default.not-And; not_not = c.in_default.not-Not; not_ex = c.in_default.not-Ex2 }) added.atoms added.told added.added;
    }
