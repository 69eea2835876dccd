use Rattle.std.proofs.Common.{◌≡◌, ◌⊎◌, ◌+◌, take, Contains, sym, subst}
use Rattle.std.specs.Prelude.{◌↔◌}
use Rattle.cert_tables.specs.declared.class_triples.ClassTriple.{ClassTriple}
use Rattle.cert_tables.specs.Pairs.{AreClassesOf}
use Rattle.cert_tables.proofs.PairsLemmas.{classes-insert-next, classes-skip-next, classes-whole}
use Rattle.cert_tables.proofs.class_triples.triples.Goals as goal
use Rattle.cert_tables.proofs.class_triples.triples.Goals.{then-pair-child+in_ok-insert, else-pair-child}

pub loop-pair-preserved : goal.loop-pair-preserved
loop-pair-preserved c =
    let a = c.args.a.now in
    let b = c.args.b.now in
    let t = c.args.c.now in
    let pairs = c.args.pairs.now in
    let i = c.loop-pair.pair-index in
    let old = c.loop-pair.set in
    elim c.if-pair-child.branch [
      | then-pair-child+in_ok-insert w ↦
          let new = w.insert.new.self in
          subst (AreClassesOf c.args.is_right c.args.space c.args.child a b t (take (i + 1) pairs)) (sym w.set-is)
          (classes-insert-next c.args.is_right c.args.space c.args.child a b t pairs i _ old new c.loop-pair-test.true c.loop-pair.invariant
          w.if-pair-child.true
          (subst (λ (made : ClassTriple). (other : ClassTriple) → Contains new other ↔ (Contains old other ⊎ (made ≡ other))) w.classes.ensures
          w.in_ok-insert.ensures))
      | else-pair-child w ↦
          subst (AreClassesOf c.args.is_right c.args.space c.args.child a b t (take (i + 1) pairs)) (sym w.set-is)
          (classes-skip-next c.args.is_right c.args.space c.args.child a b t pairs i _ old c.loop-pair-test.true c.loop-pair.invariant
          w.if-pair-child.false)
    ]

pub returns : goal.returns
returns c =
    classes-whole c.args.is_right c.args.space c.args.child c.args.a.now c.args.b.now c.args.c.now c.args.pairs.now c.loop-pair.pair-index
    c.loop-pair.set c.loop-pair-test.false c.loop-pair.invariant
