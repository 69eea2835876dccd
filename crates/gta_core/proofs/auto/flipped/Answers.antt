use Rattle.std.proofs.Common.{◌≡◌, ℕ, ◌+◌, suc, Bool, List, ◌++◌, map, not, take, drop, get_or, false, arith, ap, ◌∙◌}
use Rattle.std.specs.Prelude.{slice_set}
use Rattle.gta_core.proofs.FlipLemmas.{flip-read, flip-write}
use Rattle.gta_core.proofs.auto.flipped.Goals as goal

pub loop-place-preserved : goal.loop-place-preserved
loop-place-preserved c =
    let i = c.loop-place.place in
    let flags = c.args.flags in
    let next : suc i ≡ i + 1 = omega arith in
    c.set.ensures
    ∙ ap (λ (flag : Bool). slice_set c.loop-place.turned i (not flag))
    (ap (λ (xs : List Bool). get_or xs i false) (c.as_slice.ensures ∙ c.loop-place.invariant) ∙ flip-read flags i false)
    ∙ ap (λ (xs : List Bool). slice_set xs i (not (get_or flags i false))) c.loop-place.invariant
    ∙ flip-write flags i false (omega arith)
    ∙ ap (λ (n : ℕ). map not (take n flags) ++ drop n flags) next
