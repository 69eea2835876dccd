use Rattle.std.proofs.Common.{◌<◌, length, sym, arith}
use Rattle.std.proofs.lemmas.List.Elements.{All-weaker}
use Rattle.ws2s_core.specs.Nodes.{form_of}
use Rattle.ws2s_core.specs.Postfix.{parts_of}
use Rattle.ws2s_core.proofs.NodesLemmas.{formula_at-is}
use Rattle.ws2s_lean.proofs.NumbersLemmas.{there-made}
use Rattle.ws2s_lean.proofs.ConjunctionsLemmas.{AreLeaned-extends}
use Rattle.ws2s_lean.proofs.leaning.lean.Goals as goal

pub leaned_form-requires-clause-there : goal.leaned_form-requires-clause-there
leaned_form-requires-clause-there c = there-made c.args.interner.now c.args.id.0 _ (sym c.in-Some.ensures.value)

pub leaned_form-requires-clause-is : goal.leaned_form-requires-clause-is
leaned_form-requires-clause-is c = formula_at-is c.args.interner.now c.args.id.0 _ (sym c.in-Some.ensures.value)

pub leaned_form-requires-clause-parts : goal.leaned_form-requires-clause-parts
leaned_form-requires-clause-parts c =
    let there = there-made c.args.interner.now c.args.id.0 _ (sym c.in-Some.ensures.value) in
    All-weaker (λ part. part < c.args.id.0) (λ part. part < length c.args.interner.now) (λ part below. omega (arith, there))
    (parts_of (form_of c.in-Some.node)) c.in-Some.ensures.parts

pub returns-clause-leaned : goal.returns-clause-leaned
returns-clause-leaned c =
    let new = c.leaned_form.new.interner in
    c.in_ok-add.ensures new
    (AreLeaned-extends c.args.interner.now new c.args.leaned.now.made.items c.leaned_form.ensures.kept c.requires) c.in_ok-to.ensures.leaned
