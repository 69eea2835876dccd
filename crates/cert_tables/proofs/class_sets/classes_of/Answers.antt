use Rattle.std.proofs.Common.{ℕ, List, map, Contains, ap, ◌∙◌, subst}
use Rattle.std.specs.Prelude.{◌↔◌}
use Rattle.std.proofs.lemmas.List.{take_all}
use Rattle.cert_tables.specs.Automata.{class_in}
use Rattle.cert_tables.proofs.class_sets.classes_of.Goals as goal

pub returns : goal.returns
returns c q =
    let class = class_in c.args.a.now c.args.is_right c.args.space in
    let all = c.loop-member.invariant ∙ ap (map class) (take_all c.loop-member.member-index c.args.members.now c.loop-member-test.false) in
    subst (λ (classes : List ℕ). Contains c.rising.result.items q ↔ Contains classes q) all (c.rising.ensures.same q)
