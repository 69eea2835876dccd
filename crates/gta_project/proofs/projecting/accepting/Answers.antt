use Rattle.std.proofs.Common.{◌≡◌, ℕ, Bool, List, [], ◌∷◌, ◌++◌, map, take, get_or, Option, Some, sym, ◌∙◌, ap, arith}
use Rattle.std.specs.List.{list_any}
use Rattle.std.proofs.lemmas.List.{take_more, map-append}
use Rattle.std.proofs.lemmas.Option.{slice_get-get_or}
use Rattle.gta_core.specs.Auto.{is_accepting}
use Rattle.gta_project.proofs.projecting.accepting.Goals as goal

same_set : (a b : List ℕ) → ◌≡◌ {A = Option (List ℕ)} (Some a) (Some b) → a ≡ b
same_set a b e = cc

pub loop-number-preserved : goal.loop-number-preserved
loop-number-preserved c =
    let i = c.loop-number.number in
    let sets = c.args.sets.now in
    let set = c.set.result.now in
    let f = λ (set : List ℕ). list_any (is_accepting c.args.a.now) set in
    let is : get_or sets i [] ≡ set = same_set _ _ (sym (slice_get-get_or sets i [] (omega arith)) ∙ c.set.ensures) in
    c.in_ok-push.ensures.ok
    ∙ ap (λ (flags : List Bool). flags ++ c.has_accepting.result ∷ []) c.loop-number.invariant
    ∙ ap (λ (flag : Bool). map f (take i sets) ++ flag ∷ []) (c.has_accepting.ensures ∙ ap f (sym is))
    ∙ sym (map-append f (take i sets) (get_or sets i [] ∷ []))
    ∙ ap (map f) (sym (take_more sets i [] (omega arith)))
