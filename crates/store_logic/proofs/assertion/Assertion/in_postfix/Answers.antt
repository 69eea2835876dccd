use Rattle.std.proofs.Common.{◌≡◌, List, [], ◌∷◌, ◌++◌, length, flat_map, refl, sym, ap, ◌∙◌, map, reverse, arith}
use Rattle.store_logic.specs.Postfix.{form_of, postfix_of}
use Rattle.store_logic.proofs.PostfixLemmas.{map-reverse}
use Rattle.store_logic.proofs.assertion.Assertion.in_postfix.Goals as goal

no_length : {X : Type 0} (xs : List X) → length xs ≡ 0 → xs ≡ []
no_length [] e = refl
no_length (x ∷ xs) e = absurd (omega arith)

pub returns : goal.returns
returns c =
    ap (map (λ form. form_of form.now)) c.reverse.ensures.items ∙ map-reverse (λ form. form_of form.now) c.loop-next.forms.items
    ∙ sym (ap (λ parts. flat_map postfix_of (map (λ part. part.now) parts) ++ reverse (map (λ form. form_of form.now) c.loop-next.forms.items))
    (no_length c.loop-next.pending.items (omega (arith, c.in_default.ensures.cases.0))))
    ∙ c.loop-next.invariant
