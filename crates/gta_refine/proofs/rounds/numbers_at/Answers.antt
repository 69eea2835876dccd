-- The roots of the space.
use Rattle.std.proofs.Common.{◌≡◌, ◌<◌, ◌^◌, ℕ, List, Some, sym, ◌∙◌, ap, subst}
use Rattle.std.specs.Prelude.{All}
use Rattle.gta_reach.specs.declared.form.FormSpace.{FormSpace}
use Rattle.gta_classes.specs.declared.part.SpaceClasses.{SpaceClasses}
use Rattle.gta_refine.specs.Numbered.{TellApart}
use Rattle.gta_refine.specs.Refined.{part_at}
use Rattle.gta_refine.proofs.RefineLemmas.{ordered-nodes, roots-inside, small-classes}
use Rattle.gta_refine.proofs.rounds.numbers_at.Goals as goal

pub number_roots-requires-clause-ordered : goal.number_roots-requires-clause-ordered
number_roots-requires-clause-ordered c =
    ordered-nodes c.args.form.now c.requires.form c.args.spaces.now c.requires.partition c.args.s c.space-space.result.now c.space-space.ensures

pub number_roots-requires-clause-inside : goal.number_roots-requires-clause-inside
number_roots-requires-clause-inside c =
    roots-inside c.args.form.now c.requires.form c.args.spaces.now c.requires.partition c.args.s c.space-space.result.now c.space-space.ensures

pub number_roots-requires-clause-classes : goal.number_roots-requires-clause-classes
number_roots-requires-clause-classes c =
    subst (λ (xs : List ℕ). All (λ class. class < 2 ^ 31) xs)
    (sym (c.as_slice-classes.ensures ∙ ap (λ (part : SpaceClasses). part.classes) c.part_of.ensures))
    (small-classes c.args.form.now c.requires.form c.args.spaces.now c.requires.partition c.args.s c.space-space.result.now c.space-space.ensures)

pub returns : goal.returns
returns c = λ other other_at.
    let space = c.space-space.result.now in
    let numbers = c.in_ok-numbers.numbers in
    let own = (part_at c.args.spaces.now c.args.s).classes in
    let classes : c.as_slice-classes.result.now ≡ own = c.as_slice-classes.ensures ∙ ap (λ (part : SpaceClasses). part.classes) c.part_of.ensures in
    let same : Some space ≡ Some other = sym c.space-space.ensures ∙ other_at in
    let is : space ≡ other = cc in
    subst (λ (p : FormSpace). TellApart p.listing own numbers) is
    (subst (λ (xs : List ℕ). TellApart space.listing xs numbers) classes c.in_ok-numbers.ensures)
