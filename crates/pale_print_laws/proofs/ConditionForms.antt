-- The words of conditions by their forms, and of chains.
use Rattle.std.proofs.Common.{◌≡◌, List, [], ◌∷◌, ◌++◌, map, sym, ap, ◌∙◌, subst}
use Rattle.pale_text.specs.declared.token.Mark.TheVariants as mark
use Rattle.pale_text.specs.declared.token.Token.{Token}
use Rattle.pale_syntax.specs.declared.tree.condition.Condition.{Condition, roll-Condition, out-roll-Condition}
use Rattle.pale_syntax.specs.declared.tree.condition.Condition.TheVariants as condition
use Rattle.pale_syntax.specs.declared.tree.condition.Condition.TheOpen.{Condition-F}
use Rattle.pale_syntax.specs.declared.tree.condition.Condition.TheFolds.{fold-roll-Condition, ind-Condition, map-Condition}
use denote.Hole.Carrier.{roll}
use Rattle.pale_syntax.specs.MakingConditions.{and_by, both_conditions, either_condition, or_by}
use Rattle.pale_print_laws.specs.Words.{Word, Words, ◌>>◌, sign, each_behind}
use Rattle.pale_print_laws.specs.ConditionWords.{condition_node, condition_words}
use Rattle.pale_print_laws.proofs.Meaning.{FromTo}
use Rattle.pale_print_laws.proofs.ListLemmas.{behind_last}

pub words_at : (x : Condition-F Condition) → condition_words (roll-Condition x) ≡ condition_node (map-Condition Condition Words condition_words x)
unfolding condition_words
words_at x = fold-roll-Condition Words condition_node x

-- a form of the words that it has
pub condition_made : (x : Condition-F Condition) {start end : List Token} →
    FromTo (condition_node (map-Condition Condition Words condition_words x)) start end →
    FromTo (condition_words (roll-Condition x)) start end
condition_made x {start} {end} made = subst (λ (w : Words). FromTo w start end) (sym (words_at x)) made

-- ---- both

and_at : (first : Condition) (others : List Condition) (after : List Word) →
    condition_words (condition.And first others) after
    ≡ condition_words first (each_behind mark.AndAlso (λ (one : Words). one) (map condition_words others) after)
unfolding roll-Condition roll
and_at first others after = ap (λ (w : Words). w after) (words_at (Condition-F.And first others))

and_by_words : (x : Condition-F Condition) (other : Condition) (after : List Word) →
    condition_words (and_by x (roll-Condition x) other) after ≡ condition_words (roll-Condition x) (sign mark.AndAlso >> condition_words other >> after)
unfolding roll-Condition roll
and_by_words (Condition-F.And first others) other after =
    and_at first (others ++ other ∷ []) after ∙
    (ap (λ (rest : List Word). condition_words first rest) (behind_last mark.AndAlso condition_words others other after) ∙
    sym (and_at first others (sign mark.AndAlso >> condition_words other >> after)))
and_by_words x other after = and_at (roll-Condition x) (other ∷ []) after

pub both_conditions_words : (one other : Condition) (after : List Word) →
    condition_words (both_conditions one other) after ≡ condition_words one (sign mark.AndAlso >> condition_words other >> after)
both_conditions_words = ind-Condition (λ one. (other : Condition) (after : List Word) →
    condition_words (both_conditions one other) after ≡ condition_words one (sign mark.AndAlso >> condition_words other >> after)) (λ x y is other after.
    subst (λ (n : Condition-F Condition). condition_words (and_by n (roll-Condition x) other) after
    ≡ condition_words (roll-Condition x) (sign mark.AndAlso >> condition_words other >> after)) (sym (out-roll-Condition x)) (and_by_words x other after))

-- ---- either

or_at : (first : Condition) (others : List Condition) (after : List Word) →
    condition_words (condition.Or first others) after
    ≡ condition_words first (each_behind mark.OrElse (λ (one : Words). one) (map condition_words others) after)
unfolding roll-Condition roll
or_at first others after = ap (λ (w : Words). w after) (words_at (Condition-F.Or first others))

or_by_words : (x : Condition-F Condition) (other : Condition) (after : List Word) →
    condition_words (or_by x (roll-Condition x) other) after ≡ condition_words (roll-Condition x) (sign mark.OrElse >> condition_words other >> after)
unfolding roll-Condition roll
or_by_words (Condition-F.Or first others) other after =
    or_at first (others ++ other ∷ []) after ∙
    (ap (λ (rest : List Word). condition_words first rest) (behind_last mark.OrElse condition_words others other after) ∙
    sym (or_at first others (sign mark.OrElse >> condition_words other >> after)))
or_by_words x other after = or_at (roll-Condition x) (other ∷ []) after

pub either_condition_words : (one other : Condition) (after : List Word) →
    condition_words (either_condition one other) after ≡ condition_words one (sign mark.OrElse >> condition_words other >> after)
either_condition_words = ind-Condition (λ one. (other : Condition) (after : List Word) →
    condition_words (either_condition one other) after ≡ condition_words one (sign mark.OrElse >> condition_words other >> after)) (λ x y is other after.
    subst (λ (n : Condition-F Condition). condition_words (or_by n (roll-Condition x) other) after
    ≡ condition_words (roll-Condition x) (sign mark.OrElse >> condition_words other >> after)) (sym (out-roll-Condition x)) (or_by_words x other after))
