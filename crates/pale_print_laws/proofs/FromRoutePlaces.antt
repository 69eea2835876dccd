-- Where a canonical route may stand as well, with more room or in parentheses; and chains of routes that grow at their end.
use Rattle.std.proofs.Common.{◌≡◌, ℕ, suc, nat_lt, true, false, List, [], ◌∷◌, ◌++◌, refl, sym, subst}
use Rattle.pale_text.specs.declared.place.Pos.{Pos}
use Rattle.pale_text.specs.declared.token.Mark.TheVariants as mark
use Rattle.pale_text.specs.declared.token.TokenKind.{TokenKind}
use Rattle.pale_syntax.specs.declared.tree.route.Route.{Route, out-Route, roll-Route, out-roll-Route}
use Rattle.pale_syntax.specs.declared.tree.route.Route.TheVariants as route
use Rattle.pale_syntax.specs.declared.tree.route.Route.TheOpen.{Route-F}
use Rattle.pale_syntax.specs.declared.tree.route.Route.TheFolds.{fold-roll-Route, map-Route}
use denote.Hole.Carrier.{roll, out}
use Rattle.pale_syntax.specs.MakingRoutes.{then_by, or_by, star_by, joined_then, joined_or, starred}
use Rattle.pale_print.specs.Tokens.{◌>>◌, sign}
use Rattle.pale_print.specs.RouteTokens.{Placed, route_node, route_tokens}
use Rattle.pale_print_laws.specs.CanonicalRoutes.{RoutePlace, whole, sequence, repeated, single, asks, is_then_node, is_or_node}
use Rattle.pale_print_laws.specs.CanonicalRoutes.{is_star_node, IsGrouped, IsCanonicalRoute, down, up, up_any, root, leaf}
use Rattle.pale_print_laws.specs.CanonicalRoutes.{is_type, is_variant, is_bool, then, or, star, group, AreCanonicalRoutes, last}
use Rattle.pale_print_laws.specs.CanonicalRoutes.{more}
use Rattle.pale_print_laws.proofs.FromLevels.{Wider, alike, wider}

-- ---- parentheses

node_grouped : (p : RoutePlace) (x : Route-F Route) →
    ((after : List TokenKind) → route_node (map-Route Route Placed route_tokens x) (asks p) after ≡
    (sign mark.LeftParen >> route_node (map-Route Route Placed route_tokens x) 0 >> sign mark.RightParen >> after)) →
    IsGrouped p (roll-Route x)
unfolding route_tokens
node_grouped p x same after =
    subst (λ (t : Placed). t (asks p) after ≡ (sign mark.LeftParen >> t 0 >> sign mark.RightParen >> after))
    (sym (fold-roll-Route Placed route_node x)) (same after)

or_grouped : (p : RoutePlace) (first : Route) (others : List Route) → nat_lt 0 (asks p) ≡ true → IsGrouped p (route.Or first others)
unfolding roll-Route roll
or_grouped whole first others loose = absurd (cc loose)
or_grouped sequence first others loose = node_grouped sequence (Route-F.Or first others) (λ after. refl)
or_grouped repeated first others loose = node_grouped repeated (Route-F.Or first others) (λ after. refl)
or_grouped single first others loose = node_grouped single (Route-F.Or first others) (λ after. refl)

then_grouped : (p : RoutePlace) (first : Route) (others : List Route) → nat_lt 1 (asks p) ≡ true → IsGrouped p (route.Then first others)
unfolding roll-Route roll
then_grouped whole first others loose = absurd (cc loose)
then_grouped sequence first others loose = absurd (cc loose)
then_grouped repeated first others loose = node_grouped repeated (Route-F.Then first others) (λ after. refl)
then_grouped single first others loose = node_grouped single (Route-F.Then first others) (λ after. refl)

star_grouped : (p : RoutePlace) (inner : Route) (places : List Pos) → nat_lt 2 (asks p) ≡ true → IsGrouped p (route.Star inner places)
unfolding roll-Route roll
star_grouped whole inner places loose = absurd (cc loose)
star_grouped sequence inner places loose = absurd (cc loose)
star_grouped repeated inner places loose = absurd (cc loose)
star_grouped single inner places loose = node_grouped single (Route-F.Star inner places) (λ after. refl)

-- ---- more room

mutual
  pub roomier : {p : RoutePlace} {room : ℕ} {r : Route} → IsCanonicalRoute p room r → IsCanonicalRoute p (suc room) r
  roomier (down p room f free) = down p (suc room) f free
  roomier (up p room f free) = up p (suc room) f free
  roomier (up_any p room) = up_any p (suc room)
  roomier (root p room) = root p (suc room)
  roomier (leaf p room) = leaf p (suc room)
  roomier (is_type p room ty free) = is_type p (suc room) ty free
  roomier (is_variant p room ty variant free free_too) = is_variant p (suc room) ty variant free free_too
  roomier (is_bool p room f value free) = is_bool p (suc room) f value free
  roomier (then p room first others bare apart c cs) = then p (suc room) first others bare apart (roomier c) (roomier_all cs)
  roomier (or p room first others bare apart c cs) = or p (suc room) first others bare apart (roomier c) (roomier_all cs)
  roomier (star p room inner place places bare apart c) = star p (suc room) inner place places bare apart (roomier c)
  roomier (group p room r grouped c) = group p (suc room) r grouped (roomier c)

  pub roomier_all : {p : RoutePlace} {room : ℕ} {rs : List Route} → AreCanonicalRoutes p room rs → AreCanonicalRoutes p (suc room) rs
  roomier_all (last p room r c) = last p (suc room) r (roomier c)
  roomier_all (more p room r others c cs) = more p (suc room) r others (roomier c) (roomier_all cs)

widened : {n m : ℕ} → Wider n m → {p : RoutePlace} {r : Route} → IsCanonicalRoute p n r → IsCanonicalRoute p m r
widened (alike n) c = c
widened (wider w) c = widened w (roomier c)

widened_all : {n m : ℕ} → Wider n m → {p : RoutePlace} {rs : List Route} → AreCanonicalRoutes p n rs → AreCanonicalRoutes p m rs
widened_all (alike n) cs = cs
widened_all (wider w) cs = widened_all w (roomier_all cs)

-- ---- other places

-- in parentheses, where there have to be some, a route may stand anywhere
pub anywhere : {p : RoutePlace} {room : ℕ} {r : Route} (q : RoutePlace) → IsCanonicalRoute p room r → IsCanonicalRoute q (suc room) r
anywhere q (down p room f free) = down q (suc room) f free
anywhere q (up p room f free) = up q (suc room) f free
anywhere q (up_any p room) = up_any q (suc room)
anywhere q (root p room) = root q (suc room)
anywhere q (leaf p room) = leaf q (suc room)
anywhere q (is_type p room ty free) = is_type q (suc room) ty free
anywhere q (is_variant p room ty variant free free_too) = is_variant q (suc room) ty variant free free_too
anywhere q (is_bool p room f value free) = is_bool q (suc room) f value free
anywhere whole (then p room first others bare apart c cs) = then whole (suc room) first others refl apart (roomier c) (roomier_all cs)
anywhere sequence (then p room first others bare apart c cs) = then sequence (suc room) first others refl apart (roomier c) (roomier_all cs)
anywhere repeated (then p room first others bare apart c cs) =
    group repeated room (route.Then first others) (then_grouped repeated first others refl) (then whole room first others refl apart c cs)
anywhere single (then p room first others bare apart c cs) =
    group single room (route.Then first others) (then_grouped single first others refl) (then whole room first others refl apart c cs)
anywhere whole (or p room first others bare apart c cs) = or whole (suc room) first others refl apart (roomier c) (roomier_all cs)
anywhere sequence (or p room first others bare apart c cs) =
    group sequence room (route.Or first others) (or_grouped sequence first others refl) (or whole room first others refl apart c cs)
anywhere repeated (or p room first others bare apart c cs) =
    group repeated room (route.Or first others) (or_grouped repeated first others refl) (or whole room first others refl apart c cs)
anywhere single (or p room first others bare apart c cs) =
    group single room (route.Or first others) (or_grouped single first others refl) (or whole room first others refl apart c cs)
anywhere whole (star p room inner place places bare apart c) = star whole (suc room) inner place places refl apart (roomier c)
anywhere sequence (star p room inner place places bare apart c) = star sequence (suc room) inner place places refl apart (roomier c)
anywhere repeated (star p room inner place places bare apart c) = star repeated (suc room) inner place places refl apart (roomier c)
anywhere single (star p room inner place places bare apart c) =
    group single room (route.Star inner (place ∷ places)) (star_grouped single inner (place ∷ places) refl) (star whole room inner place places refl apart c)
anywhere q (group p room r grouped c) = roomier (anywhere q c)

-- a route may stand where what it is needs no more parentheses
moved : {p : RoutePlace} {room : ℕ} {r : Route} (q : RoutePlace) → IsCanonicalRoute p room r →
    (is_or_node (out-Route r) ≡ true → nat_lt 0 (asks p) ≡ false → nat_lt 0 (asks q) ≡ false) →
    (is_then_node (out-Route r) ≡ true → nat_lt 1 (asks p) ≡ false → nat_lt 1 (asks q) ≡ false) →
    (is_star_node (out-Route r) ≡ true → nat_lt 2 (asks p) ≡ false → nat_lt 2 (asks q) ≡ false) → IsCanonicalRoute q room r
unfolding roll-Route roll out-Route out
moved q (down p room f free) o t s = down q room f free
moved q (up p room f free) o t s = up q room f free
moved q (up_any p room) o t s = up_any q room
moved q (root p room) o t s = root q room
moved q (leaf p room) o t s = leaf q room
moved q (is_type p room ty free) o t s = is_type q room ty free
moved q (is_variant p room ty variant free free_too) o t s = is_variant q room ty variant free free_too
moved q (is_bool p room f value free) o t s = is_bool q room f value free
moved q (then p room first others bare apart c cs) o t s = then q room first others (t refl bare) apart c cs
moved q (or p room first others bare apart c cs) o t s = or q room first others (o refl bare) apart c cs
moved q (star p room inner place places bare apart c) o t s = star q room inner place places (s refl bare) apart c
moved q (group p room r grouped c) o t s = anywhere q c

pub as_whole : {room : ℕ} {r : Route} → IsCanonicalRoute sequence room r → IsCanonicalRoute whole room r
as_whole c = moved whole c (λ o b. refl) (λ t b. refl) (λ s b. refl)

pub as_sequence : {room : ℕ} {r : Route} → IsCanonicalRoute repeated room r → IsCanonicalRoute sequence room r
as_sequence c = moved sequence c (λ o b. absurd (cc b)) (λ t b. refl) (λ s b. refl)

pub as_repeated : {room : ℕ} {r : Route} → IsCanonicalRoute single room r → IsCanonicalRoute repeated room r
as_repeated c = moved repeated c (λ o b. absurd (cc b)) (λ t b. absurd (cc b)) (λ s b. refl)

as_alternative : {room : ℕ} {r : Route} → IsCanonicalRoute whole room r → is_or_node (out-Route r) ≡ false → IsCanonicalRoute sequence room r
as_alternative c apart = moved sequence c (λ o b. absurd (cc (o, apart))) (λ t b. refl) (λ s b. refl)

as_link : {room : ℕ} {r : Route} → IsCanonicalRoute sequence room r → is_then_node (out-Route r) ≡ false → IsCanonicalRoute repeated room r
as_link c apart = moved repeated c (λ o b. absurd (cc b)) (λ t b. absurd (cc (t, apart))) (λ s b. refl)

as_single : {room : ℕ} {r : Route} → IsCanonicalRoute repeated room r → is_star_node (out-Route r) ≡ false → IsCanonicalRoute single room r
as_single c apart = moved single c (λ o b. absurd (cc b)) (λ t b. absurd (cc b)) (λ s b. absurd (cc (s, apart)))

-- ---- chains

one_more_route : {p : RoutePlace} {room : ℕ} {rs : List Route} {r : Route} → AreCanonicalRoutes p room rs → IsCanonicalRoute p room r →
    AreCanonicalRoutes p room (rs ++ r ∷ [])
one_more_route {r = r} (last p room x c) one = more p room x (r ∷ []) c (last p room r one)
one_more_route {r = r} (more p room x others c cs) one = more p room x (others ++ r ∷ []) c (one_more_route cs one)

or_from : {p : RoutePlace} {n room : ℕ} {r other : Route} → IsCanonicalRoute p n r → Wider n room →
    IsCanonicalRoute whole room r → IsCanonicalRoute sequence room other →
    IsCanonicalRoute whole room (joined_or r other)
unfolding roll-Route roll out-Route out
or_from {room = room} {other = other} (down p n f free) w c one =
    or whole room (route.Down f) (other ∷ []) refl refl (as_alternative c refl) (last sequence room other one)
or_from {room = room} {other = other} (up p n f free) w c one =
    or whole room (route.Up f) (other ∷ []) refl refl (as_alternative c refl) (last sequence room other one)
or_from {room = room} {other = other} (up_any p n) w c one =
    or whole room route.UpAny (other ∷ []) refl refl (as_alternative c refl) (last sequence room other one)
or_from {room = room} {other = other} (root p n) w c one =
    or whole room route.Root (other ∷ []) refl refl (as_alternative c refl) (last sequence room other one)
or_from {room = room} {other = other} (leaf p n) w c one =
    or whole room route.Leaf (other ∷ []) refl refl (as_alternative c refl) (last sequence room other one)
or_from {room = room} {other = other} (is_type p n ty free) w c one =
    or whole room (route.IsType ty) (other ∷ []) refl refl (as_alternative c refl) (last sequence room other one)
or_from {room = room} {other = other} (is_variant p n ty variant free free_too) w c one =
    or whole room (route.IsVariant ty variant) (other ∷ []) refl refl (as_alternative c refl) (last sequence room other one)
or_from {room = room} {other = other} (is_bool p n f value free) w c one =
    or whole room (route.IsBool f value) (other ∷ []) refl refl (as_alternative c refl) (last sequence room other one)
or_from {room = room} {other = other} (then p n first others bare apart f fs) w c one =
    or whole room (route.Then first others) (other ∷ []) refl refl (as_alternative c refl) (last sequence room other one)
or_from {room = room} {other = other} (or p n first others bare apart f fs) w c one =
    subst (λ n. IsCanonicalRoute whole room (or_by n (route.Or first others) other)) (sym (out-roll-Route (Route-F.Or first others)))
    (or whole room first (others ++ other ∷ []) refl apart (widened w f) (one_more_route (widened_all w fs) one))
or_from {room = room} {other = other} (star p n inner place places bare apart f) w c one =
    or whole room (route.Star inner (place ∷ places)) (other ∷ []) refl refl (as_alternative c refl) (last sequence room other one)
or_from (group p n r grouped f) w c one = or_from f (wider w) c one

pub or_settled : {room : ℕ} {r other : Route} → IsCanonicalRoute whole room r → IsCanonicalRoute sequence room other →
    IsCanonicalRoute whole room (joined_or r other)
or_settled {room} c one = or_from c (alike room) c one

then_from : {p : RoutePlace} {n room : ℕ} {r other : Route} → IsCanonicalRoute p n r → Wider n room →
    IsCanonicalRoute sequence room r → IsCanonicalRoute repeated room other →
    IsCanonicalRoute sequence room (joined_then r other)
unfolding roll-Route roll out-Route out
then_from {room = room} {other = other} (down p n f free) w c one =
    then sequence room (route.Down f) (other ∷ []) refl refl (as_link c refl) (last repeated room other one)
then_from {room = room} {other = other} (up p n f free) w c one =
    then sequence room (route.Up f) (other ∷ []) refl refl (as_link c refl) (last repeated room other one)
then_from {room = room} {other = other} (up_any p n) w c one =
    then sequence room route.UpAny (other ∷ []) refl refl (as_link c refl) (last repeated room other one)
then_from {room = room} {other = other} (root p n) w c one =
    then sequence room route.Root (other ∷ []) refl refl (as_link c refl) (last repeated room other one)
then_from {room = room} {other = other} (leaf p n) w c one =
    then sequence room route.Leaf (other ∷ []) refl refl (as_link c refl) (last repeated room other one)
then_from {room = room} {other = other} (is_type p n ty free) w c one =
    then sequence room (route.IsType ty) (other ∷ []) refl refl (as_link c refl) (last repeated room other one)
then_from {room = room} {other = other} (is_variant p n ty variant free free_too) w c one =
    then sequence room (route.IsVariant ty variant) (other ∷ []) refl refl (as_link c refl) (last repeated room other one)
then_from {room = room} {other = other} (is_bool p n f value free) w c one =
    then sequence room (route.IsBool f value) (other ∷ []) refl refl (as_link c refl) (last repeated room other one)
then_from {room = room} {other = other} (then p n first others bare apart f fs) w c one =
    subst (λ n. IsCanonicalRoute sequence room (then_by n (route.Then first others) other)) (sym (out-roll-Route (Route-F.Then first others)))
    (then sequence room first (others ++ other ∷ []) refl apart (widened w f) (one_more_route (widened_all w fs) one))
then_from {room = room} {other = other} (or p n first others bare apart f fs) w c one =
    then sequence room (route.Or first others) (other ∷ []) refl refl (as_link c refl) (last repeated room other one)
then_from {room = room} {other = other} (star p n inner place places bare apart f) w c one =
    then sequence room (route.Star inner (place ∷ places)) (other ∷ []) refl refl (as_link c refl) (last repeated room other one)
then_from (group p n r grouped f) w c one = then_from f (wider w) c one

pub then_settled : {room : ℕ} {r other : Route} → IsCanonicalRoute sequence room r → IsCanonicalRoute repeated room other →
    IsCanonicalRoute sequence room (joined_then r other)
then_settled {room} c one = then_from c (alike room) c one

star_from : {p : RoutePlace} {n room : ℕ} {r : Route} → IsCanonicalRoute p n r → Wider n room → IsCanonicalRoute repeated room r → (at : Pos) →
    IsCanonicalRoute repeated room (starred r at)
unfolding roll-Route roll out-Route out
star_from {room = room} (down p n f free) w c at = star repeated room (route.Down f) at [] refl refl (as_single c refl)
star_from {room = room} (up p n f free) w c at = star repeated room (route.Up f) at [] refl refl (as_single c refl)
star_from {room = room} (up_any p n) w c at = star repeated room route.UpAny at [] refl refl (as_single c refl)
star_from {room = room} (root p n) w c at = star repeated room route.Root at [] refl refl (as_single c refl)
star_from {room = room} (leaf p n) w c at = star repeated room route.Leaf at [] refl refl (as_single c refl)
star_from {room = room} (is_type p n ty free) w c at = star repeated room (route.IsType ty) at [] refl refl (as_single c refl)
star_from {room = room} (is_variant p n ty variant free free_too) w c at = star repeated room (route.IsVariant ty variant) at [] refl refl (as_single c refl)
star_from {room = room} (is_bool p n f value free) w c at = star repeated room (route.IsBool f value) at [] refl refl (as_single c refl)
star_from {room = room} (then p n first others bare apart f fs) w c at = star repeated room (route.Then first others) at [] refl refl (as_single c refl)
star_from {room = room} (or p n first others bare apart f fs) w c at = star repeated room (route.Or first others) at [] refl refl (as_single c refl)
star_from {room = room} (star p n inner place places bare apart f) w c at =
    subst (λ n. IsCanonicalRoute repeated room (star_by n (route.Star inner (place ∷ places)) at)) (sym (out-roll-Route (Route-F.Star inner (place ∷ places))))
    (star repeated room inner place (places ++ at ∷ []) refl apart (widened w f))
star_from (group p n r grouped f) w c at = star_from f (wider w) c at

pub star_settled : {room : ℕ} {r : Route} → IsCanonicalRoute repeated room r → (at : Pos) → IsCanonicalRoute repeated room (starred r at)
star_settled {room} c at = star_from c (alike room) c at
