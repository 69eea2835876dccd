-- One state after the other.
use Rattle.std.proofs.Common.{◌≡◌, ◌+◌, ℕ, List, length, sym, ◌∙◌, ap, subst, arith}
use Rattle.std.proofs.lemmas.Bool.{false≢true}
use Rattle.gta_classes.proofs.CutLemmas.{AddsMembers, AddsMembers-skip, AddsMembers-push, added-all}
use Rattle.gta_classes.proofs.cutting.add_members.Goals as goal
use Rattle.gta_classes.proofs.cutting.add_members.Goals.{then-is_in+in_ok-push, else-is_in}

pub loop-state-preserved : goal.loop-state-preserved
loop-state-preserved c =
    let members = c.args.members.now in
    let part = c.args.part.now in
    let old = c.args.all.now.items in
    let now = c.loop-state.all.items in
    let at = c.loop-state.state-index in
    elim c.if-is_in.branch [
      | then-is_in+in_ok-push w ↦
          subst (λ (xs : List ℕ). AddsMembers members part c.args.class old xs (at + 1)) (sym (ap (λ v. v.items) w.all-is ∙ w.in_ok-push.ensures.items))
          (AddsMembers-push members part c.args.class old now at c.loop-state.invariant (c.is_in.ensures.0 w.if-is_in.true))
      | else-is_in w ↦
          subst (λ (xs : List ℕ). AddsMembers members part c.args.class old xs (at + 1)) (sym (ap (λ v. v.items) w.all-is))
          (AddsMembers-skip members part c.args.class old now at c.loop-state.invariant
          (λ is. false≢true (sym w.if-is_in.false ∙ c.is_in.ensures.1 is)))
    ]

pub returns-clause-added : goal.returns-clause-added
returns-clause-added c =
    let members = c.args.members.now in
    let end : c.loop-state.state-index ≡ length members =
    (let t = c.loop-state-test.false in let e = c.loop-state.auto.state-index-end in omega arith) in
    added-all members c.args.part.now c.args.class c.args.all.now.items c.loop-state.all.items
    (subst (AddsMembers members c.args.part.now c.args.class c.args.all.now.items c.loop-state.all.items) end c.loop-state.invariant)
