use Rattle.std.proofs.Common.{◌∙◌, ap}
use Rattle.std.proofs.lemmas.List.Filters.{dedup_is}
use Rattle.std.proofs.lemmas.List.Kept.{Contains-dedup_nat, Contains-from_dedup}
use Rattle.std.proofs.lemmas.List.Sorted.{Contains-permutation, IsPermutation-sym}
use Rattle.std.proofs.lemmas.Map.Keys.{IsStrictlyIncreasing-dedup}
use Rattle.bdd_walk.specs.Sets.{set_of}
use Rattle.bdd_walk.proofs.SetsLemmas.{Rises-increasing, set_of-is}
use Rattle.bdd_walk.proofs.sets.set_of.Goals as goal

pub returns : goal.returns
returns c =
    let is = dedup_is _ _ _ c.dedup.ensures.filtered in
    let moved = c.sort_unstable.ensures.permutation in
    set_of-is c.in_ok-set.set.items c.dedup.new.self.items
    (Rises-increasing _ (rw is (IsStrictlyIncreasing-dedup _ c.sort_unstable.ensures.sorted)))
    (λ x h. rw is (Contains-dedup_nat _ x (Contains-permutation _ _ x moved h)))
    (λ x h. Contains-permutation _ _ x (IsPermutation-sym _ _ moved) (Contains-from_dedup _ _ x (rw is at h)))
    ∙ ap set_of c.in_ok-set.ensures.items
