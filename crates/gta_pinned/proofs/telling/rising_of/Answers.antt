use Rattle.std.proofs.Common.{◌≡◌, ℕ, List, map, Contains, ap, sym, subst, ◌∙◌}
use Rattle.std.proofs.lemmas.List.Filters.{dedup_is}
use Rattle.std.proofs.lemmas.List.Kept.{Contains-dedup_nat, Contains-from_dedup}
use Rattle.std.proofs.lemmas.List.Sorted.{Contains-permutation, IsPermutation-sym}
use Rattle.std.proofs.lemmas.Map.Keys.{IsStrictlyIncreasing-dedup}
use Rattle.bdd_walk.proofs.ContainsLemmas.{Contains-map, Contains-mapped}
use Rattle.ws2s_core.specs.declared.track.Track.{Track}
use Rattle.gta_pinned.proofs.telling.rising_of.Goals as goal

abbrev number : Track → ℕ
number track = track.0

pub returns : goal.returns
returns c =
    let is = dedup_is _ _ _ c.dedup.ensures.filtered in
    let moved = c.sort_unstable.ensures.permutation in
    let tracks : List Track = c.args.tracks.now in
    let numbers : c.in_ok-numbers.numbers.items ≡ map number tracks =
    c.in_ok-numbers.ensures ∙ ap (λ (ts : List Track). map number ts) c.as_slice.ensures in
    record {
      rises = rw is (IsStrictlyIncreasing-dedup _ c.sort_unstable.ensures.sorted);
      same = λ t. (
        (λ there. Contains-mapped number tracks t
            (subst (λ (xs : List ℕ). Contains xs t) numbers
            (Contains-permutation _ _ t (IsPermutation-sym _ _ moved) (Contains-from_dedup _ _ t (rw is at there))))),
        (λ has. rw is (Contains-dedup_nat _ t (Contains-permutation _ _ t moved
            (subst (λ (xs : List ℕ). Contains xs t) (sym numbers)
            (subst (λ (u : ℕ). Contains (map number tracks) u) has.2 (Contains-map number tracks has.0 has.1)))))),
      );
    }
