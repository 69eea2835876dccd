-- One set after the other.
use Rattle.std.proofs.Common.{◌≡◌, ◌+◌, ℕ, List, [], ◌∷◌, ◌++◌, take, get_or, sym, ◌∙◌, ap, subst, arith}
use Rattle.std.proofs.lemmas.List.{take_more, take_all}
use Rattle.gta_subsets.specs.Shorts.{AreShorts}
use Rattle.gta_subsets.proofs.ShortsLemmas.{AreShorts-none, AreShorts-more}
use Rattle.gta_subsets.proofs.shorts.shortened.Goals as goal

pub loop-set-init : goal.loop-set-init
loop-set-init c = subst (λ (xs : List (List ℕ)). AreShorts c.args.classes.now [] xs) (sym c.new-shorts.ensures) (AreShorts-none c.args.classes.now)

pub loop-set-preserved : goal.loop-set-preserved
loop-set-preserved c =
    let i = c.loop-set.set-index in
    let classes = c.args.classes.now in
    let sets = c.args.sets.now in
    let set = c.as_slice.result.now in
    let short = c.in_ok-one_a_class.field-0 in
    let is : set ≡ get_or sets i set = c.as_slice.ensures ∙ c.set-item.is ∙ ap (get_or sets i) (sym c.as_slice.ensures) in
    subst (λ (xs : List (List ℕ)). AreShorts classes (take (i + 1) sets) xs) (sym c.in_ok-push.ensures.ok)
    (subst (λ (xs : List (List ℕ)). AreShorts classes xs (c.loop-set.shorts ++ short ∷ []))
    (sym (take_more sets i set (omega arith) ∙ ap (λ (x : List ℕ). take i sets ++ x ∷ []) (sym is)))
    (AreShorts-more classes (take i sets) c.loop-set.shorts set short c.loop-set.invariant c.in_ok-one_a_class.ensures.classes))

pub returns : goal.returns
returns c = subst (λ (xs : List (List ℕ)). AreShorts c.args.classes.now xs c.loop-set.shorts) (take_all c.loop-set.set-index c.args.sets.now (omega arith))
    c.loop-set.invariant
