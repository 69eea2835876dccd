use Rattle.std.proofs.Common.{◌≡◌, ◌+◌, take, sym, ap, subst, ◌∙◌}
use Rattle.cert_text.specs.declared.line.SetLine.{SetLine}
use Rattle.cert_tables.specs.Sets.{key_of, AreClassesOfSet, AreSetClasses}
use Rattle.cert_tables.proofs.SetsLemmas.{set-classes-insert-next, set-classes-skip-next}
use Rattle.cert_tables.proofs.class_sets.all_classes.Goals as goal
use Rattle.cert_tables.proofs.class_sets.all_classes.Goals.{then-line-child+in_ok-made+in_ok-insert, else-line-child}

pub loop-line-preserved : goal.loop-line-preserved
loop-line-preserved c =
    let r = c.args.is_right in
    let s = c.args.space in
    let child = c.args.child in
    let a = c.args.a.now in
    let t = c.args.c.now in
    let sets = c.args.sets.now in
    let i = c.loop-line.line-index in
    let none = c.line-item.result in
    let old = c.loop-line.set in
    elim c.if-line-child.branch [
      | then-line-child+in_ok-made+in_ok-insert w ↦
          let key = key_of w.in_ok-made.made in
          subst (AreSetClasses r s child a t (take (i + 1) sets)) (sym w.set-is)
          (set-classes-insert-next r s child a t sets i none old w.insert.new.self key c.loop-line-test.true c.loop-line.invariant
          (subst (λ (l : SetLine). l.space ≡ child) c.line-item.is w.if-line-child.true)
          (subst (λ (l : SetLine). AreClassesOfSet r s a t l key) c.line-item.is w.in_ok-made.ensures)
          w.in_ok-insert.ensures)
      | else-line-child w ↦
          subst (AreSetClasses r s child a t (take (i + 1) sets)) (sym w.set-is)
          (set-classes-skip-next r s child a t sets i none old c.loop-line-test.true c.loop-line.invariant
          (λ here. w.if-line-child.false (ap (λ (l : SetLine). l.space) c.line-item.is ∙ here)))
    ]
