use Rattle.std.proofs.Common.{◌++◌, ◌∷◌, [], ℕ, Bool, List, nat_eq, arith, sym, ap, ◌∙◌}
use Rattle.std.proofs.lemmas.List.FromFn.{map-range_with_len_more}
use Rattle.gta_pinned.proofs.parts.only.Goals as goal

pub loop-other-preserved : goal.loop-other-preserved
loop-other-preserved c =
    let test : ℕ → Bool = λ q. nat_eq q c.args.state in
    c.in_ok-push.ensures.ok
    ∙ ap (λ (flags : List Bool). flags ++ test c.loop-other.other ∷ []) c.loop-other.invariant
    ∙ sym (map-range_with_len_more test 0 c.loop-other.other c.loop-other.other (omega arith))
