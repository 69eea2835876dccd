-- The words of assertions by their forms, and of chains.
use Rattle.std.proofs.Common.{◌≡◌, List, [], ◌∷◌, ◌++◌, map, sym, ap, ◌∙◌, subst}
use Rattle.pale_text.specs.declared.token.Mark.TheVariants as mark
use Rattle.pale_text.specs.declared.token.Token.{Token}
use Rattle.pale_syntax.specs.declared.tree.assertion.Assertion.{Assertion, roll-Assertion, out-roll-Assertion}
use Rattle.pale_syntax.specs.declared.tree.assertion.Assertion.TheVariants as assertion
use Rattle.pale_syntax.specs.declared.tree.assertion.Assertion.TheOpen.{Assertion-F}
use Rattle.pale_syntax.specs.declared.tree.assertion.Assertion.TheFolds.{fold-roll-Assertion, ind-Assertion, map-Assertion}
use denote.Hole.Carrier.{roll}
use Rattle.pale_syntax.specs.MakingAssertions.{and_by, both, either, equivalent, iff_by, or_by}
use Rattle.pale_print_laws.specs.Words.{Word, Words, ◌>>◌, sign, each_behind}
use Rattle.pale_print_laws.specs.AssertionWords.{assertion_node, assertion_words}
use Rattle.pale_print_laws.proofs.Meaning.{FromTo}
use Rattle.pale_print_laws.proofs.ListLemmas.{behind_last}

words_at : (x : Assertion-F Assertion) → assertion_words (roll-Assertion x) ≡ assertion_node (map-Assertion Assertion Words assertion_words x)
unfolding assertion_words
words_at x = fold-roll-Assertion Words assertion_node x

-- a form of the words that it has
pub assertion_made : (x : Assertion-F Assertion) {start end : List Token} →
    FromTo (assertion_node (map-Assertion Assertion Words assertion_words x)) start end →
    FromTo (assertion_words (roll-Assertion x)) start end
assertion_made x {start} {end} made = subst (λ (w : Words). FromTo w start end) (sym (words_at x)) made

-- ---- both

and_at : (first : Assertion) (others : List Assertion) (after : List Word) →
    assertion_words (assertion.And first others) after
    ≡ assertion_words first (each_behind mark.Ampersand (λ (one : Words). one) (map assertion_words others) after)
unfolding roll-Assertion roll
and_at first others after = ap (λ (w : Words). w after) (words_at (Assertion-F.And first others))

and_by_words : (x : Assertion-F Assertion) (other : Assertion) (after : List Word) →
    assertion_words (and_by x (roll-Assertion x) other) after ≡ assertion_words (roll-Assertion x) (sign mark.Ampersand >> assertion_words other >> after)
unfolding roll-Assertion roll
and_by_words (Assertion-F.And first others) other after =
    and_at first (others ++ other ∷ []) after ∙
    (ap (λ (rest : List Word). assertion_words first rest) (behind_last mark.Ampersand assertion_words others other after) ∙
    sym (and_at first others (sign mark.Ampersand >> assertion_words other >> after)))
and_by_words x other after = and_at (roll-Assertion x) (other ∷ []) after

pub both_words : (one other : Assertion) (after : List Word) →
    assertion_words (both one other) after ≡ assertion_words one (sign mark.Ampersand >> assertion_words other >> after)
both_words = ind-Assertion (λ one. (other : Assertion) (after : List Word) →
    assertion_words (both one other) after ≡ assertion_words one (sign mark.Ampersand >> assertion_words other >> after)) (λ x y is other after.
    subst (λ (n : Assertion-F Assertion). assertion_words (and_by n (roll-Assertion x) other) after
    ≡ assertion_words (roll-Assertion x) (sign mark.Ampersand >> assertion_words other >> after)) (sym (out-roll-Assertion x)) (and_by_words x other after))

-- ---- either

or_at : (first : Assertion) (others : List Assertion) (after : List Word) →
    assertion_words (assertion.Or first others) after
    ≡ assertion_words first (each_behind mark.Bar (λ (one : Words). one) (map assertion_words others) after)
unfolding roll-Assertion roll
or_at first others after = ap (λ (w : Words). w after) (words_at (Assertion-F.Or first others))

or_by_words : (x : Assertion-F Assertion) (other : Assertion) (after : List Word) →
    assertion_words (or_by x (roll-Assertion x) other) after ≡ assertion_words (roll-Assertion x) (sign mark.Bar >> assertion_words other >> after)
unfolding roll-Assertion roll
or_by_words (Assertion-F.Or first others) other after =
    or_at first (others ++ other ∷ []) after ∙
    (ap (λ (rest : List Word). assertion_words first rest) (behind_last mark.Bar assertion_words others other after) ∙
    sym (or_at first others (sign mark.Bar >> assertion_words other >> after)))
or_by_words x other after = or_at (roll-Assertion x) (other ∷ []) after

pub either_words : (one other : Assertion) (after : List Word) →
    assertion_words (either one other) after ≡ assertion_words one (sign mark.Bar >> assertion_words other >> after)
either_words = ind-Assertion (λ one. (other : Assertion) (after : List Word) →
    assertion_words (either one other) after ≡ assertion_words one (sign mark.Bar >> assertion_words other >> after)) (λ x y is other after.
    subst (λ (n : Assertion-F Assertion). assertion_words (or_by n (roll-Assertion x) other) after
    ≡ assertion_words (roll-Assertion x) (sign mark.Bar >> assertion_words other >> after)) (sym (out-roll-Assertion x)) (or_by_words x other after))

-- ---- equivalent assertions

iff_at : (first : Assertion) (others : List Assertion) (after : List Word) →
    assertion_words (assertion.Iff first others) after
    ≡ assertion_words first (each_behind mark.Equivalent (λ (one : Words). one) (map assertion_words others) after)
unfolding roll-Assertion roll
iff_at first others after = ap (λ (w : Words). w after) (words_at (Assertion-F.Iff first others))

iff_by_words : (x : Assertion-F Assertion) (other : Assertion) (after : List Word) →
    assertion_words (iff_by x (roll-Assertion x) other) after ≡ assertion_words (roll-Assertion x) (sign mark.Equivalent >> assertion_words other >> after)
unfolding roll-Assertion roll
iff_by_words (Assertion-F.Iff first others) other after =
    iff_at first (others ++ other ∷ []) after ∙
    (ap (λ (rest : List Word). assertion_words first rest) (behind_last mark.Equivalent assertion_words others other after) ∙
    sym (iff_at first others (sign mark.Equivalent >> assertion_words other >> after)))
iff_by_words x other after = iff_at (roll-Assertion x) (other ∷ []) after

pub equivalent_words : (one other : Assertion) (after : List Word) →
    assertion_words (equivalent one other) after ≡ assertion_words one (sign mark.Equivalent >> assertion_words other >> after)
equivalent_words = ind-Assertion (λ one. (other : Assertion) (after : List Word) →
    assertion_words (equivalent one other) after ≡ assertion_words one (sign mark.Equivalent >> assertion_words other >> after)) (λ x y is other after.
    subst (λ (n : Assertion-F Assertion). assertion_words (iff_by n (roll-Assertion x) other) after
    ≡ assertion_words (roll-Assertion x) (sign mark.Equivalent >> assertion_words other >> after)) (sym (out-roll-Assertion x)) (iff_by_words x other after))
