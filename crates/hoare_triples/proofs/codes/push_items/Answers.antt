use Rattle.std.proofs.Common.{◌≡◌, ℕ, ◌+◌, ◌≤◌, ◌∷◌, List, refl, sym, ap, ◌∙◌, subst}
use Rattle.std.specs.List.{sum_by}
use Rattle.pale_typed.specs.declared.typed.Stmt.{Stmt}
use Rattle.hoare_triples.specs.Weights.{weight_of, weight_behind}
use Rattle.hoare_split.specs.Callers.{block_in}
use Rattle.hoare_triples.specs.Following.{flow_of}
use Rattle.hoare_split.proofs.StatementLemmas.{not-false}
use Rattle.hoare_triples.proofs.FollowingLemmas.{gone-statement, lighter-more}
use Rattle.hoare_triples.proofs.codes.push_items.Goals as goal

pub loop-left-preserved : goal.loop-left-preserved
loop-left-preserved c =
    let after = c.in-Then.after.now in
    let parts : c.in-Then.block.now ≡ c.in-Some.stmt.now ∷ c.in-Some.more.now = c.in-Some.ensures.cases.0 in
    gone-statement c.args.items.now c.loop-left.items c.push_item.new.items c.args.rest c.loop-left.left _ c.in-Some.stmt.now c.in-Some.more.now
    (λ caller. flow_of caller after) c.loop-left.invariant
    (λ caller. ap (flow_of caller) c.in-Then.is ∙ ap (λ (b : List Stmt). (block_in caller b).flow (flow_of caller after)) parts)
    (λ caller. refl)
    (subst (λ (n : ℕ). 1 + (sum_by weight_of c.in-Some.more.now + weight_behind after) ≤ n) (sym (ap weight_behind c.in-Then.is))
    (lighter-more c.in-Then.block.now c.in-Some.more.now c.in-Some.stmt.now (weight_behind after) parts))
    (λ procs vars. not-false _ (sym (c.is_cut.ensures procs vars) ∙ c.if-is_cut.false))
    c.in_ok-push_item-in-Some.ensures
