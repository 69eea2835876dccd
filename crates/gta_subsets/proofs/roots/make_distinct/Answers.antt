use Rattle.std.proofs.lemmas.List.Filters.{dedup_is}
use Rattle.std.proofs.lemmas.List.Kept.{Contains-dedup, Contains-from_dedup}
use Rattle.std.proofs.lemmas.List.Sorted.{Contains-permutation, IsPermutation-sym}
use Rattle.bdd_walk.specs.Laws.{same_word}
use Rattle.gta_subsets.proofs.RootsLemmas.{AreRoots-moved, refs-equal}
use Rattle.gta_subsets.proofs.roots.make_distinct.Goals as goal

pub returns : goal.returns
returns c = λ at lefts rights are.
    let is = dedup_is _ _ _ c.dedup.ensures.filtered in
    let moved = c.sort_unstable.ensures.permutation in
    AreRoots-moved at lefts rights c.args.roots.now.items c.dedup.new.self.items are
    (λ x h. rw is (Contains-dedup refs-equal same_word _ x (Contains-permutation _ _ x moved h)))
    (λ x h. Contains-permutation _ _ x (IsPermutation-sym _ _ moved) (Contains-from_dedup _ _ x (rw is at h)))
