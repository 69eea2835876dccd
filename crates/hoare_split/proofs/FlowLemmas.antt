-- On flows: the cuts that they reach, and their code.
use Rattle.std.proofs.Common.{◌≡◌, ℕ, ◌+◌, Bool, true, false, cond, List, [], ◌∷◌, ◌++◌, refl, sym, ap, ◌∙◌, append_assoc, append-nil, not, eq-eqb, ◌&&◌, ◌||◌}
use Rattle.std.proofs.Common.{subst, eqb, suc, ◌<◌, length, Some, arith}
use Rattle.std.specs.List.{AllByRecursion, position}
use Rattle.std.proofs.lemmas.List.Folds.{list_any-append}
use Rattle.std.proofs.lemmas.Bool.{false≢true}
use Rattle.std.proofs.lemmas.Bool.Decides.{nat_tests}
use Rattle.store_logic.specs.declared.cond.Cond.{Cond}
use Rattle.store_exec.specs.declared.code.Item.{Item}
use Rattle.store_exec.specs.declared.code.Tail.TheVariants as tail
use Rattle.store_exec.specs.declared.code.Code.{Code, out-Code, roll-Code, roll-out-Code, out-roll-Code}
use Rattle.hoare_split.specs.declared.point.Point.{Point}
use Rattle.hoare_split.specs.declared.point.Point.TheVariants as point
use Rattle.hoare_split.specs.Flows.{Arrival, Flow, ends, does, branches, after_items, is_point, is_among, arrivals_of, first_of_each, points_in, place_among}
use Rattle.hoare_split.specs.Flows.{behind, code_in}

-- ---- arrivals

pub arrivals_of-after_items : (items : List Item) (flow : Flow) → arrivals_of (after_items items flow) ≡ arrivals_of flow
arrivals_of-after_items [] flow = refl
arrivals_of-after_items (i ∷ items) flow = arrivals_of-after_items items flow

-- those of more arrivals, after those of the first ones
pub first_of_each-append : (before : List Point) (xs ys : List Arrival) →
    first_of_each before (xs ++ ys) ≡ first_of_each before xs ++ first_of_each (before ++ points_in (first_of_each before xs)) ys
first_of_each-append before [] ys = ap (λ points. first_of_each points ys) (sym (append-nil before))
first_of_each-append before (a ∷ xs) ys =
    elim (is_among a.point before) as
    (λ b. cond b (first_of_each before (xs ++ ys)) (a ∷ first_of_each (before ++ a.point ∷ []) (xs ++ ys))
    ≡ cond b (first_of_each before xs) (a ∷ first_of_each (before ++ a.point ∷ []) xs)
    ++ first_of_each (before ++ points_in (cond b (first_of_each before xs) (a ∷ first_of_each (before ++ a.point ∷ []) xs))) ys) [
      | true ↦ first_of_each-append before xs ys
      | false ↦ ap (λ more. a ∷ more) (first_of_each-append (before ++ a.point ∷ []) xs ys
          ∙ ap (λ points. first_of_each (before ++ a.point ∷ []) xs ++ first_of_each points ys)
          (append_assoc before (a.point ∷ []) (points_in (first_of_each (before ++ a.point ∷ []) xs))))
    ]

-- ---- points that are among others

pub is_point-same : (p : Point) → is_point p p ≡ true
is_point-same (point.At place) =
    ap (λ b. b && eqb place.column place.column) (eq-eqb place.line place.line refl) ∙ eq-eqb place.column place.column refl
is_point-same point.Exit = refl

-- where it is among some, it is among these and more
or-left : (a b : Bool) → a ≡ true → (a || b) ≡ true
or-left true b e = refl
or-left false b e = absurd (false≢true e)

or-right : (a b : Bool) → b ≡ true → (a || b) ≡ true
or-right true b e = refl
or-right false b e = e

pub is_among-more : (p : Point) (points more : List Point) → is_among p points ≡ true → is_among p (points ++ more) ≡ true
is_among-more p points more e = list_any-append (λ q. is_point q p) points more ∙ or-left (is_among p points) (is_among p more) e

pub is_among-last : (p : Point) (points : List Point) → is_among p (points ++ p ∷ []) ≡ true
is_among-last p points = list_any-append (λ q. is_point q p) points (p ∷ [])
    ∙ or-right (is_among p points) (is_among p (p ∷ [])) (or-left (is_point p p) false (is_point-same p))

-- the points of the arrivals are among these
abbrev pub AreAmong : List Point → List Arrival → Type 0
AreAmong points arrivals = AllByRecursion (λ a. is_among a.point points ≡ true) arrivals

pub AreAmong-more : (points more : List Point) (arrivals : List Arrival) → AreAmong points arrivals → AreAmong (points ++ more) arrivals
AreAmong-more points more [] among = tt
AreAmong-more points more (a ∷ arrivals) among = (is_among-more a.point points more among.0, AreAmong-more points more arrivals among.1)

pub AreAmong-front : (points : List Point) (xs ys : List Arrival) → AreAmong points (xs ++ ys) → AreAmong points xs
AreAmong-front points [] ys among = tt
AreAmong-front points (a ∷ xs) ys among = (among.0, AreAmong-front points xs ys among.1)

pub AreAmong-back : (points : List Point) (xs ys : List Arrival) → AreAmong points (xs ++ ys) → AreAmong points ys
AreAmong-back points [] ys among = among
AreAmong-back points (a ∷ xs) ys among = AreAmong-back points xs ys among.1

-- the same of one arrival more
next : (before : List Point) (a : Arrival) (arrivals : List Arrival) → AreAmong (before ++ points_in (first_of_each before arrivals)) arrivals →
    AreAmong ((before ++ a.point ∷ []) ++ points_in (first_of_each (before ++ a.point ∷ []) arrivals)) arrivals →
    (b : Bool) → is_among a.point before ≡ b → AreAmong (before ++ points_in (first_of_each before (a ∷ arrivals))) (a ∷ arrivals)
next before a arrivals old new true e =
    subst (λ (b : Bool). AreAmong (before ++ points_in (cond b (first_of_each before arrivals) (a ∷ first_of_each (before ++ a.point ∷ []) arrivals)))
    (a ∷ arrivals))
    (sym e) (is_among-more a.point before (points_in (first_of_each before arrivals)) e, old)
next before a arrivals old new false e =
    let others = points_in (first_of_each (before ++ a.point ∷ []) arrivals) in
    subst (λ (b : Bool). AreAmong (before ++ points_in (cond b (first_of_each before arrivals) (a ∷ first_of_each (before ++ a.point ∷ []) arrivals)))
    (a ∷ arrivals))
    (sym e) (subst (λ (points : List Point). AreAmong points (a ∷ arrivals)) (append_assoc before (a.point ∷ []) others)
    (is_among-more a.point (before ++ a.point ∷ []) others (is_among-last a.point before), new))

-- all arrivals are among those that were there and those that are first
pub AreAmong-first_of_each : (before : List Point) (arrivals : List Arrival) →
    AreAmong (before ++ points_in (first_of_each before arrivals)) arrivals
AreAmong-first_of_each before [] = tt
AreAmong-first_of_each before (a ∷ arrivals) =
    next before a arrivals (AreAmong-first_of_each before arrivals) (AreAmong-first_of_each (before ++ a.point ∷ []) arrivals) (is_among a.point before) refl

-- ---- codes

-- the place of a point stays where more points follow
pub place_among-more : (p : Point) (points more : List Point) → is_among p points ≡ true → place_among (points ++ more) p ≡ place_among points p
place_among-more p [] more e = absurd (false≢true e)
place_among-more p (q ∷ points) more e =
    elim (is_point q p) as (λ b. (b || is_among p points) ≡ true →
    cond (not b) (1 + place_among (points ++ more) p) 0 ≡ cond (not b) (1 + place_among points p) 0)
    [ true ↦ λ among. refl | false ↦ λ among. ap (λ n. 1 + n) (place_among-more p points more among) ] e

pub code_in-more : (points more : List Point) (flow : Flow) → AreAmong points (arrivals_of flow) → code_in (points ++ more) flow ≡ code_in points flow
code_in-more points more (ends a) among =
    ap (λ place. roll-Code (record { items = []; tail = tail.Cut place })) (place_among-more a.point points more among.0)
code_in-more points more (does i rest) among = ap (behind i) (code_in-more points more rest among)
code_in-more points more (branches line c first other) among =
    ap (λ code. roll-Code (record { items = []; tail = tail.Branch line c code (code_in (points ++ more) other) }))
    (code_in-more points more first (AreAmong-front points (arrivals_of first) (arrivals_of other) among))
    ∙ ap (λ code. roll-Code (record { items = []; tail = tail.Branch line c (code_in points first) code }))
    (code_in-more points more other (AreAmong-back points (arrivals_of first) (arrivals_of other) among))

-- a code behind items
abbrev pub behind_items : List Item → Code → Code
behind_items items code = roll-Code (record { items = items ++ (out-Code code).items; tail = (out-Code code).tail })

pub code_in-after_items : (points : List Point) (items : List Item) (flow : Flow) →
    code_in points (after_items items flow) ≡ behind_items items (code_in points flow)
code_in-after_items points [] flow = sym (roll-out-Code (code_in points flow))
code_in-after_items points (i ∷ items) flow =
    ap (behind i) (code_in-after_items points items flow)
    ∙ ap (λ x. roll-Code (record { items = i ∷ x.items; tail = x.tail }))
    (out-roll-Code (record { items = items ++ (out-Code (code_in points flow)).items; tail = (out-Code (code_in points flow)).tail }))

-- the code of items that end at a cut, and of those before a branch
pub code_in-ends : (points : List Point) (items : List Item) (a : Arrival) →
    code_in points (after_items items (ends a)) ≡ roll-Code (record { items = items; tail = tail.Cut (place_among points a.point) })
code_in-ends points items a =
    code_in-after_items points items (ends a)
    ∙ ap (λ x. roll-Code (record { items = items ++ x.items; tail = x.tail }))
    (out-roll-Code (record { items = []; tail = tail.Cut (place_among points a.point) }))
    ∙ ap (λ own. roll-Code (record { items = own; tail = tail.Cut (place_among points a.point) })) (append-nil items)

pub code_in-branches : (points : List Point) (items : List Item) (line : ℕ) (c : Cond) (taken other : Flow) →
    code_in points (after_items items (branches line c taken other))
    ≡ roll-Code (record { items = items; tail = tail.Branch line c (code_in points taken) (code_in points other) })
code_in-branches points items line c taken other =
    code_in-after_items points items (branches line c taken other)
    ∙ ap (λ x. roll-Code (record { items = items ++ x.items; tail = x.tail }))
    (out-roll-Code (record { items = []; tail = tail.Branch line c (code_in points taken) (code_in points other) }))
    ∙ ap (λ own. roll-Code (record { items = own; tail = tail.Branch line c (code_in points taken) (code_in points other) })) (append-nil items)

-- a point that is among others has a place there
place-below : (p : Point) (points : List Point) → is_among p points ≡ true → place_among points p < length points
place-below p [] e = absurd (false≢true e)
place-below p (q ∷ points) e =
    elim (is_point q p) as (λ b. (b || is_among p points) ≡ true → cond (not b) (1 + place_among points p) 0 < suc (length points))
    [ true ↦ λ among. omega arith | false ↦ λ among. let below = place-below p points among in omega (arith, below) ] e

pub position-among : (p : Point) (points : List Point) → is_among p points ≡ true → position (λ q. is_point q p) points ≡ Some (place_among points p)
position-among p points e = let below = place-below p points e in grind (arith, nat_tests)
