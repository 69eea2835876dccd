-- On the cuts that were reached.
use Rattle.std.proofs.Common.{◌≡◌, ℕ, ◌+◌, suc, Bool, true, false, cond, not, ◌||◌, List, [], ◌∷◌, ◌++◌, length, Option, Some, None, is_some, Result, Ok, Err}
use Rattle.std.proofs.Common.{OnOk, refl, sym, ap, ◌∙◌, append_assoc, append-nil, arith}
use Rattle.std.specs.List.{position}
use Rattle.std.proofs.lemmas.Bool.Decides.{nat_tests}
use Rattle.std.proofs.lemmas.List.{map-append}
use Rattle.hoare_split.specs.declared.point.Point.{Point}
use Rattle.hoare_triples.specs.declared.reached.Reached.{Reached}
use Rattle.hoare_split.specs.Flows.{Arrival, is_point, is_among, first_of_each, points_in, cuts_in, place_among}
use Rattle.hoare_triples.specs.Following.{Reaches}
use Rattle.hoare_split.proofs.FlowLemmas.{position-among, first_of_each-append}

-- a point that isn't among others has no place there
place-none : (p : Point) (points : List Point) → is_among p points ≡ false → place_among points p ≡ length points
place-none p [] e = refl
place-none p (q ∷ points) e =
    elim (is_point q p) as (λ b. (b || is_among p points) ≡ false → cond (not b) (1 + place_among points p) 0 ≡ suc (length points))
    [ true ↦ λ among. absurd cc | false ↦ λ among. let last = place-none p points among in omega (arith, last) ] e

position-none : (p : Point) (points : List Point) → is_among p points ≡ false → position (λ q. is_point q p) points ≡ None
position-none p points e = let last = place-none p points e in grind (arith, nat_tests)

-- whether a point is among others, by whether it has a place
pub among-where_some : (p : Point) (points : List Point) (n : ℕ) → position (λ q. is_point q p) points ≡ Some n → is_among p points ≡ true
among-where_some p points n e = by (is_among p points) refl
  where
    by : (b : Bool) → is_among p points ≡ b → is_among p points ≡ true
    by true is = is
    by false is = let none = position-none p points is in absurd cc

pub among-where_none : (p : Point) (points : List Point) → position (λ q. is_point q p) points ≡ None → is_among p points ≡ false
among-where_none p points e = by (is_among p points) refl
  where
    by : (b : Bool) → is_among p points ≡ b → is_among p points ≡ false
    by true is = let some = position-among p points is in absurd cc
    by false is = is

-- one arrival at a point that was reached, and one at a new point
pub Reaches-old : (reached : Reached) (a : Arrival) → is_among a.point reached.points ≡ true → Reaches reached reached (a ∷ [])
Reaches-old reached a e =
    let none : first_of_each reached.points (a ∷ []) ≡ [] = ap (λ b. cond b [] (a ∷ [])) e in
    record {
      points = sym (ap (λ new. reached.points ++ points_in new) none ∙ append-nil reached.points);
      cuts = sym (ap (λ new. reached.cuts ++ cuts_in new) none ∙ append-nil reached.cuts);
    }

pub Reaches-new : (old new : Reached) (a : Arrival) → is_among a.point old.points ≡ false → new.points ≡ old.points ++ a.point ∷ [] →
    new.cuts ≡ old.cuts ++ a.cut ∷ [] → Reaches old new (a ∷ [])
Reaches-new old new a e points cuts =
    let one : first_of_each old.points (a ∷ []) ≡ a ∷ [] = ap (λ b. cond b [] (a ∷ [])) e in
    record {
      points = points ∙ sym (ap (λ more. old.points ++ points_in more) one);
      cuts = cuts ∙ sym (ap (λ more. old.cuts ++ cuts_in more) one);
    }

-- arrivals one after the other
pub Reaches-append : (old mid new : Reached) (xs ys : List Arrival) → Reaches old mid xs → Reaches mid new ys → Reaches old new (xs ++ ys)
Reaches-append old mid new xs ys first second =
    let ones = first_of_each old.points xs in
    let others = first_of_each mid.points ys in
    let same : ones ++ others ≡ first_of_each old.points (xs ++ ys) =
    ap (λ points. ones ++ first_of_each points ys) first.points ∙ sym (first_of_each-append old.points xs ys) in
    record {
      points = second.points ∙ ap (λ points. points ++ points_in others) first.points ∙ append_assoc old.points (points_in ones) (points_in others)
          ∙ ap (λ more. old.points ++ more) (sym (map-append (λ (a : Arrival). a.point) ones others)) ∙ ap (λ more. old.points ++ points_in more) same;
      cuts = second.cuts ∙ ap (λ cuts. cuts ++ cuts_in others) first.cuts ∙ append_assoc old.cuts (cuts_in ones) (cuts_in others)
          ∙ ap (λ more. old.cuts ++ more) (sym (map-append (λ (a : Arrival). a.cut) ones others)) ∙ ap (λ more. old.cuts ++ cuts_in more) same;
    }

-- the same by what a search for it gave
pub among-found : (p : Point) (points : List Point) (o : Option ℕ) (b : Bool) → o ≡ position (λ q. is_point q p) points → is_some o ≡ not b → b ≡ false →
    is_among p points ≡ true
among-found p points None b e is so = absurd cc
among-found p points (Some n) b e is so = among-where_some p points n (sym e)

pub among-unfound : (p : Point) (points : List Point) (o : Option ℕ) (b : Bool) → o ≡ position (λ q. is_point q p) points → is_some o ≡ not b → b ≡ true →
    is_among p points ≡ false
among-unfound p points None b e is so = among-where_none p points (sym e)
among-unfound p points (Some n) b e is so = absurd cc

-- a fact of whatever comes out
pub on_ok : {A E : Type 0} {P : Type 0} (r : Result A E) → P → OnOk r P
on_ok (Ok x) h = h
on_ok (Err e) h = tt
