-- One space after the other.
use Rattle.std.proofs.Common.{◌+◌, List, length, sym, ap, subst, arith}
use Rattle.gta_theory.specs.Guides.{Spaces}
use Rattle.gta_core.specs.declared.part.Part.{Part}
use Rattle.gta_room.proofs.ProgressLemmas.{Adds-both}
use Rattle.gta_minimise.specs.Quotient.{IsUnderClasses, AreQuotientSpaces}
use Rattle.gta_minimise.proofs.PartsLemmas.{AreQuotientSpaces-push}
use Rattle.gta_minimise.proofs.minimal.quotient_spaces.Goals as goal

pub quotient_space-requires-clause-shelf : goal.quotient_space-requires-clause-shelf
quotient_space-requires-clause-shelf c = c.loop-space.invariant.adds.now

pub quotient_space-requires-clause-inside : goal.quotient_space-requires-clause-inside
quotient_space-requires-clause-inside c =
    let t = c.loop-space-test.true in
    let e = c.loop-space.auto.space-end in
    let m = ap (λ (h : Spaces). length h) c.requires.guide in
    omega arith

pub loop-space-preserved : goal.loop-space-preserved
loop-space-preserved c =
    let f = c.args.form.now in
    let classes = c.args.classes.now in
    let new = c.quotient_space.new.shelf in
    let roots = c.put_behind.new.roots in
    record {
      adds = Adds-both (IsUnderClasses f classes) c.args.shelf.now c.loop-space.shelf new c.loop-space.invariant.adds c.quotient_space.ensures.adds;
      parts = subst (λ (ps : List Part). AreQuotientSpaces new f classes ps roots (c.loop-space.space + 1)) (sym c.in_ok-push.ensures.ok)
          (AreQuotientSpaces-push c.loop-space.shelf new f classes c.loop-space.parts c.loop-space.roots c.loop-space.space
          c.quotient_space.ensures.adds.keeps c.loop-space.invariant.parts c.in_ok-made.made.part c.in_ok-made.made.roots c.in_ok-made.ensures.space
          roots c.in_ok-part.part c.in_ok-part.ensures);
    }

pub returns-in_err-made-clause-adds : goal.returns-in_err-made-clause-adds
returns-in_err-made-clause-adds c =
    Adds-both (IsUnderClasses c.args.form.now c.args.classes.now) c.args.shelf.now c.loop-space.shelf c.quotient_space.new.shelf
    c.loop-space.invariant.adds c.quotient_space.ensures.adds

pub returns-in_err-part-clause-adds : goal.returns-in_err-part-clause-adds
returns-in_err-part-clause-adds c =
    Adds-both (IsUnderClasses c.args.form.now c.args.classes.now) c.args.shelf.now c.loop-space.shelf c.quotient_space.new.shelf
    c.loop-space.invariant.adds c.quotient_space.ensures.adds

pub returns-in_err-push-clause-adds : goal.returns-in_err-push-clause-adds
returns-in_err-push-clause-adds c =
    Adds-both (IsUnderClasses c.args.form.now c.args.classes.now) c.args.shelf.now c.loop-space.shelf c.quotient_space.new.shelf
    c.loop-space.invariant.adds c.quotient_space.ensures.adds
