-- A lightest tree of a form.
use Rattle.std.proofs.Common.{◌≡◌, ℕ, Bool, Option, Some, None, subst}
use mathlib.Core.Path.{fun_ext}
use Rattle.gta_witness.specs.declared.goal.Weight.{Weight}
use Rattle.gta_witness.specs.Rules.{key}
use Rattle.gta_witness.specs.Lightest.{is_among}
use Rattle.gta_witness.specs.Searching.{weighs_in, found_by, Ends, IsOver}
use Rattle.gta_witness.proofs.LowerLemmas.{none-form}
use Rattle.gta_witness.proofs.lightest.least_of.Goals as goal

pub returns-in-None-clause-value : goal.returns-in-None-clause-value
returns-in-None-clause-value c =
    let form = c.args.form.now in
    let weigh = c.args.weigh.now in
    let search = c.in_ok-outcome.outcome.search in
    let same : weighs_in c.in_ok-weighed.weighed ≡ is_among weigh = fun_ext c.in_ok-weighed.ensures in
    let ends = subst (λ (o : Option (ℕ × Weight)). Ends form (weighs_in c.in_ok-weighed.weighed) search o) c.in-None.is c.in_ok-outcome.ensures in
    none-form form c.requires weigh (found_by search) (subst (λ (w : ℕ → Bool). IsOver form w (found_by search) None) same ends)

pub returns-in-None-clause-too_large : goal.returns-in-None-clause-too_large
returns-in-None-clause-too_large c = λ large.
    let form = c.args.form.now in
    let weigh = c.args.weigh.now in
    let search = c.in_ok-outcome.outcome.search in
    let same : weighs_in c.in_ok-weighed.weighed ≡ is_among weigh = fun_ext c.in_ok-weighed.ensures in
    let ends = subst (λ (o : Option (ℕ × Weight)). Ends form (weighs_in c.in_ok-weighed.weighed) search o) c.in-None.is c.in_ok-outcome.ensures in
    absurd (none-form form c.requires weigh (found_by search) (subst (λ (w : ℕ → Bool). IsOver form w (found_by search) None) same ends)
    large.some.1 large.some.3)

pub tree_of-requires-clause-over : goal.tree_of-requires-clause-over
tree_of-requires-clause-over c =
    let form = c.args.form.now in
    let search = c.in_ok-outcome.outcome.search in
    let same : weighs_in c.in_ok-weighed.weighed ≡ is_among c.args.weigh.now = fun_ext c.in_ok-weighed.ensures in
    let ends = subst (λ (o : Option (ℕ × Weight)). Ends form (weighs_in c.in_ok-weighed.weighed) search o) c.in-Some.is c.in_ok-outcome.ensures in
    subst (λ (w : ℕ → Bool). IsOver form w (found_by search) (Some (key c.in-Some.weight))) same ends.0

pub tree_of-requires-clause-accepting : goal.tree_of-requires-clause-accepting
tree_of-requires-clause-accepting c =
    let form = c.args.form.now in
    let search = c.in_ok-outcome.outcome.search in
    let ends = subst (λ (o : Option (ℕ × Weight)). Ends form (weighs_in c.in_ok-weighed.weighed) search o) c.in-Some.is c.in_ok-outcome.ensures in
    ends.1
