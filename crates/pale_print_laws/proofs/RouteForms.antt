-- The words of routes by their forms, and of chains.
use Rattle.std.proofs.Common.{◌≡◌, List, [], ◌∷◌, ◌++◌, map, sym, ap, ◌∙◌, subst}
use Rattle.pale_text.specs.declared.place.Pos.{Pos}
use Rattle.pale_text.specs.declared.token.Mark.TheVariants as mark
use Rattle.pale_text.specs.declared.token.Token.{Token}
use Rattle.pale_syntax.specs.declared.tree.route.Route.{Route, roll-Route, out-roll-Route}
use Rattle.pale_syntax.specs.declared.tree.route.Route.TheVariants as route
use Rattle.pale_syntax.specs.declared.tree.route.Route.TheOpen.{Route-F}
use Rattle.pale_syntax.specs.declared.tree.route.Route.TheFolds.{fold-roll-Route, ind-Route, map-Route}
use denote.Hole.Carrier.{roll}
use Rattle.pale_syntax.specs.MakingRoutes.{joined_or, joined_then, or_by, star_by, starred, then_by}
use Rattle.pale_print_laws.specs.Words.{Word, Words, ◌>>◌, sign, sign_at, each, each_behind}
use Rattle.pale_print_laws.specs.RouteWords.{route_node, route_words}
use Rattle.pale_print_laws.proofs.Meaning.{FromTo}
use Rattle.pale_print_laws.proofs.ListLemmas.{behind_last, each_last}

words_at : (x : Route-F Route) → route_words (roll-Route x) ≡ route_node (map-Route Route Words route_words x)
unfolding route_words
words_at x = fold-roll-Route Words route_node x

-- a form of the words that it has
pub route_made : (x : Route-F Route) {start end : List Token} → FromTo (route_node (map-Route Route Words route_words x)) start end →
    FromTo (route_words (roll-Route x)) start end
route_made x {start} {end} made = subst (λ (w : Words). FromTo w start end) (sym (words_at x)) made

-- ---- one after the other

then_at : (first : Route) (others : List Route) (after : List Word) →
    route_words (route.Then first others) after ≡ route_words first (each_behind mark.Dot (λ (one : Words). one) (map route_words others) after)
unfolding roll-Route roll
then_at first others after = ap (λ (w : Words). w after) (words_at (Route-F.Then first others))

then_by_words : (x : Route-F Route) (other : Route) (after : List Word) →
    route_words (then_by x (roll-Route x) other) after ≡ route_words (roll-Route x) (sign mark.Dot >> route_words other >> after)
unfolding roll-Route roll
then_by_words (Route-F.Then first others) other after =
    then_at first (others ++ other ∷ []) after ∙
    (ap (λ (rest : List Word). route_words first rest) (behind_last mark.Dot route_words others other after) ∙
    sym (then_at first others (sign mark.Dot >> route_words other >> after)))
then_by_words x other after = then_at (roll-Route x) (other ∷ []) after

pub joined_then_words : (one other : Route) (after : List Word) →
    route_words (joined_then one other) after ≡ route_words one (sign mark.Dot >> route_words other >> after)
joined_then_words = ind-Route (λ one. (other : Route) (after : List Word) →
    route_words (joined_then one other) after ≡ route_words one (sign mark.Dot >> route_words other >> after)) (λ x y is other after.
    subst (λ (n : Route-F Route). route_words (then_by n (roll-Route x) other) after
    ≡ route_words (roll-Route x) (sign mark.Dot >> route_words other >> after)) (sym (out-roll-Route x)) (then_by_words x other after))

-- ---- alternatives

or_at : (first : Route) (others : List Route) (after : List Word) →
    route_words (route.Or first others) after ≡ route_words first (each_behind mark.Plus (λ (one : Words). one) (map route_words others) after)
unfolding roll-Route roll
or_at first others after = ap (λ (w : Words). w after) (words_at (Route-F.Or first others))

or_by_words : (x : Route-F Route) (other : Route) (after : List Word) →
    route_words (or_by x (roll-Route x) other) after ≡ route_words (roll-Route x) (sign mark.Plus >> route_words other >> after)
unfolding roll-Route roll
or_by_words (Route-F.Or first others) other after =
    or_at first (others ++ other ∷ []) after ∙
    (ap (λ (rest : List Word). route_words first rest) (behind_last mark.Plus route_words others other after) ∙
    sym (or_at first others (sign mark.Plus >> route_words other >> after)))
or_by_words x other after = or_at (roll-Route x) (other ∷ []) after

pub joined_or_words : (one other : Route) (after : List Word) →
    route_words (joined_or one other) after ≡ route_words one (sign mark.Plus >> route_words other >> after)
joined_or_words = ind-Route (λ one. (other : Route) (after : List Word) →
    route_words (joined_or one other) after ≡ route_words one (sign mark.Plus >> route_words other >> after)) (λ x y is other after.
    subst (λ (n : Route-F Route). route_words (or_by n (roll-Route x) other) after
    ≡ route_words (roll-Route x) (sign mark.Plus >> route_words other >> after)) (sym (out-roll-Route x)) (or_by_words x other after))

-- ---- stars

star_at : (inner : Route) (places : List Pos) (after : List Word) →
    route_words (route.Star inner places) after ≡ route_words inner (each (sign_at mark.Star) places after)
unfolding roll-Route roll
star_at inner places after = ap (λ (w : Words). w after) (words_at (Route-F.Star inner places))

star_by_words : (x : Route-F Route) (place : Pos) (after : List Word) →
    route_words (star_by x (roll-Route x) place) after ≡ route_words (roll-Route x) (sign_at mark.Star place >> after)
unfolding roll-Route roll
star_by_words (Route-F.Star inner places) place after =
    star_at inner (places ++ place ∷ []) after ∙
    (ap (λ (rest : List Word). route_words inner rest) (each_last (sign_at mark.Star) places place after) ∙
    sym (star_at inner places (sign_at mark.Star place >> after)))
star_by_words x place after = star_at (roll-Route x) (place ∷ []) after

pub starred_words : (one : Route) (place : Pos) (after : List Word) →
    route_words (starred one place) after ≡ route_words one (sign_at mark.Star place >> after)
starred_words = ind-Route (λ one. (place : Pos) (after : List Word) →
    route_words (starred one place) after ≡ route_words one (sign_at mark.Star place >> after)) (λ x y is place after.
    subst (λ (n : Route-F Route). route_words (star_by n (roll-Route x) place) after
    ≡ route_words (roll-Route x) (sign_at mark.Star place >> after)) (sym (out-roll-Route x)) (star_by_words x place after))
