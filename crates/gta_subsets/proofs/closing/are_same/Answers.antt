use Rattle.std.proofs.Common.{◌≡◌, ℕ, List, [], ◌∷◌, ◌++◌, take, get_or, sym, ◌∙◌, ap, arith}
use Rattle.std.proofs.lemmas.List.{take_more}
use Rattle.gta_subsets.proofs.closing.are_same.Goals as goal

pub loop-place-preserved : goal.loop-place-preserved
loop-place-preserved c =
    let i = c.loop-place.place in
    let one = c.args.one.now in
    let other = c.args.other.now in
    let x = c.index-one-place.result in
    let y = c.index-other-place.result in
    let same : x ≡ y = sym c.as_slice.ensures ∙ c.is_same.ensures.same c.if-not-is_same.false ∙ c.as_slice-in-loop-place.ensures in
    take_more one i x (omega arith)
    ∙ ap (λ (set : List ℕ). take i one ++ set ∷ []) (sym c.index-one-place.is ∙ same ∙ c.index-other-place.is)
    ∙ ap (λ (front : List (List ℕ)). front ++ get_or other i y ∷ []) c.loop-place.invariant
    ∙ sym (take_more other i y (omega arith))
