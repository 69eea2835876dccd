use Rattle.gta_keep.proofs.MergingLemmas.{auto-one, passes-merged, minimal-merged}
use Rattle.gta_keep.proofs.merging.merged.Goals as goal

pub is_told_apart-requires : goal.is_told_apart-requires
is_told_apart-requires c = auto-one c.args.g.now c.args.shelf.now c.args.a c.args.kept.now c.requires

pub merge-requires : goal.merge-requires
merge-requires c = auto-one c.args.g.now c.args.shelf.now c.args.a c.args.kept.now c.requires

pub returns-in-Ok-clause-passes : goal.returns-in-Ok-clause-passes
returns-in-Ok-clause-passes c =
    let made = c.in-Ok.ensures in
    passes-merged c.args.g.now c.args.shelf.now c.merge.new.shelf c.args.a c.in-Ok.made c.args.kept.now c.requires made.shelf made.table made.auto
    c.release.new.shelf c.release.ensures.shelf c.release.ensures.dropped

pub returns-in-Ok-clause-minimal : goal.returns-in-Ok-clause-minimal
returns-in-Ok-clause-minimal c =
    let made = c.in-Ok.ensures in
    minimal-merged c.args.g.now c.args.shelf.now c.merge.new.shelf c.args.a c.in-Ok.made c.args.kept.now c.requires made.shelf made.table made.auto
    c.release.new.shelf c.release.ensures.shelf c.release.ensures.dropped (record { automaton = made.same; states = made.states })
