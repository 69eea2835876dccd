-- No states, and buckets that lead nowhere.
use Rattle.std.proofs.Common.{ℕ, List, [], sym, ◌∙◌, subst, arith}
use Rattle.gta_classes.specs.Marks.{AreZero}
use Rattle.gta_classes.proofs.MarksLemmas.{AreZero-replicate}
use Rattle.gta_refine.specs.Firsts.{AreFirsts}
use Rattle.gta_refine.proofs.FirstsLemmas.{AreFirsts-none}
use Rattle.gta_refine.proofs.firsts.Firsts.new.Goals as goal

pub returns-clause-first : goal.returns-clause-first
returns-clause-first c = λ rows.
    let buckets = c.in_ok-buckets.buckets.items in
    let zero = subst (λ (xs : List ℕ). AreZero xs) (sym (c.in_ok-buckets.ensures.items_if_clones_equal (λ y h. h))) (AreZero-replicate _) in
    let many = sym (c.in_ok-buckets.buckets.ok.0) ∙ c.in_ok-buckets.ensures.len in
    subst (λ (xs : List ℕ). AreFirsts rows c.args.many xs buckets c.in_ok-chain.chain.items) (sym c.in_ok-states.ensures.items)
    (subst (λ (xs : List ℕ). AreFirsts rows c.args.many [] buckets xs) (sym c.in_ok-chain.ensures.items)
    (AreFirsts-none rows c.args.many buckets many zero))
