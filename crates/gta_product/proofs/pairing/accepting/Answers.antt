use Rattle.std.proofs.Common.{ℕ, Bool, ◌&&◌, List, [], ◌∷◌, ◌++◌, map, take, get_or, sym, ◌∙◌, ap, arith}
use Rattle.std.proofs.lemmas.List.{take_more, map-append}
use Rattle.gta_core.specs.Auto.{is_accepting}
use Rattle.gta_product.proofs.pairing.accepting.Goals as goal

pub loop-pair-preserved : goal.loop-pair-preserved
loop-pair-preserved c =
    let i = c.loop-pair.pair-index in
    let pairs = c.args.pairs.now in
    let f = λ (pair : ℕ × ℕ). is_accepting c.args.a.now pair.0 && is_accepting c.args.b.now pair.1 in
    c.in_ok-push.ensures.ok
    ∙ ap (λ (flags : List Bool). flags ++ c.are_accepting.result ∷ []) c.loop-pair.invariant
    ∙ ap (λ (flag : Bool). map f (take i pairs) ++ flag ∷ []) c.are_accepting.ensures
    ∙ sym (map-append f (take i pairs) (get_or pairs i (0, 0) ∷ []))
    ∙ ap (map f) (sym (take_more pairs i (0, 0) (omega arith)))
