-- The last one is moved or dropped.
use Rattle.std.proofs.Common.{List, ℕ, ◌∷◌, ◌++◌, [], sym, ◌∙◌, subst}
use Rattle.std.proofs.lemmas.Bool.{false≢true}
use Rattle.gta_classes.specs.Cuts.{IsDivided}
use Rattle.gta_classes.proofs.MembersLemmas.{IsDivided-move, IsDivided-drop}
use Rattle.gta_classes.proofs.cutting.move_members.Goals as goal
use Rattle.gta_classes.proofs.cutting.move_members.Goals.{then-is_in+in_ok-push+else-eq, else-is_in}

pub loop-preserved : goal.loop-preserved
loop-preserved c =
    let part = c.args.part.now in
    let class = c.args.class in
    let old = c.args.members.now in
    let members = c.pop.new.self in
    let before : IsDivided part class old (members ++ c.in-Some.state ∷ []) c.loop.moved =
    subst (λ (xs : List ℕ). IsDivided part class old xs c.loop.moved) c.in-Some.ensures c.loop.invariant in
    elim c.if-is_in.branch [
      | then-is_in+in_ok-push+else-eq w ↦
          subst (λ (xs : List ℕ). IsDivided part class old members xs) (sym (w.moved-is ∙ w.in_ok-push.ensures.ok))
          (IsDivided-move part class old members c.loop.moved c.in-Some.state before)
      | else-is_in w ↦
          subst (λ (xs : List ℕ). IsDivided part class old members xs) (sym w.moved-is)
          (IsDivided-drop part class old members c.loop.moved c.in-Some.state before
          (λ is. false≢true (sym w.if-is_in.false ∙ c.is_in.ensures.1 is)))
    ]

pub returns-then-eq : goal.returns-then-eq
returns-then-eq c =
    let part = c.args.part.now in
    let class = c.args.class in
    let old = c.args.members.now in
    let members = c.pop.new.self in
    let before : IsDivided part class old (members ++ c.in-Some.state ∷ []) c.loop.moved =
    subst (λ (xs : List ℕ). IsDivided part class old xs c.loop.moved) c.in-Some.ensures c.loop.invariant in
    subst (λ (xs : List ℕ). IsDivided part class old members xs) (sym c.in_ok-push.ensures.ok)
    (IsDivided-move part class old members c.loop.moved c.in-Some.state before)
