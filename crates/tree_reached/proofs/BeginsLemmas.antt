-- Where ways begin, and what one step says.
use Rattle.std.proofs.Common.{◌≡◌, ◌≢◌, ℕ, suc, ◌<◌, ◌≤◌, ◌↔◌, ◌⊎◌, inl, inr, Bool, true, false, cond, ◌==◌, IsTrue, List, [], ◌∷◌, ◌++◌, flat_map}
use Rattle.std.proofs.Common.{Option, Some, None, Contains, refl, sym, ap, ◌∙◌, subst, arith}
use Rattle.std.proofs.lemmas.Bool.{eqb-true, eq-eqb}
use Rattle.std.proofs.lemmas.List.Elements.{Contains-append_left, Contains-append_right, Contains-append_cases}
use Rattle.gta_theory.specs.Assignments.{Position, PositionSet, Assignment, IsFinite, IsFiniteSet, IsOnly, replace}
use Rattle.gta_theory.proofs.AssignmentsLemmas.{replace-same, replace-other}
use Rattle.gta_theory.proofs.ListsLemmas.{Contains-first, Contains-none, Contains-flat_map}
use Rattle.ws2s_core.specs.declared.formula.Formula.{Formula}
use Rattle.ws2s_core.specs.declared.formula.Formula.TheVariants.{Sub, And}
use Rattle.ws2s_core.specs.Satisfaction.{WSat}
use Rattle.ws2s_core.proofs.SatisfactionLemmas.{WSat-And, WSat-Root, WSat-Succ0, WSat-Succ1}
use Rattle.ws2s_theory.proofs.ContextsLemmas.{IsFinite-replace}
use Rattle.ws2s_forms.specs.Forms.{track, imp}
use Rattle.ws2s_forms.specs.Places.{just, with_position}
use Rattle.ws2s_forms.proofs.PositionsLemmas.{IsOnly-just, IsOnly-same, IsOnly-along}
use Rattle.ws2s_forms.proofs.LawsLemmas.{law-ex1, law-all1, law-imp, law-or_list, law-member, IsFinite-position}
use Rattle.store_core.specs.declared.ids.TypeId.{TypeId}
use Rattle.store_core.specs.declared.ids.FieldId.{FieldId}
use Rattle.store_core.specs.Tables.{TypeEntry, FieldEntry, VarEntry, field_at}
use Rattle.tree_encode.specs.Tracks.{track_count}
use Rattle.tree_store.specs.Shapes.{IsCellIn, HasFieldAt}
use Rattle.tree_store.specs.Premises.{OwnersAreThere}
use Rattle.tree_store.proofs.ListsLemmas.{flat_map-inside, cond-inside, Contains-one}
use Rattle.tree_store.proofs.StandingLemmas.{StandsOn, StandsOn-further, StandsOn-still, has-means, is_live-means}
use Rattle.tree_reached.specs.declared.ways.Way.{Way}
use Rattle.tree_reached.specs.ByField.{begins, begins_after, is_looked_at, is_below, is_further, comes, is_led, are_led}

-- ---- words for what the formulas say

-- the position is one from which a way leads: the root, or a cell that has the field
abbrev pub IsFrom : List TypeEntry → Assignment → Option FieldId → Position → Type 0
IsFrom types a None r = r ≡ []
IsFrom types a (Some f) r = HasFieldAt types a f r

-- a way with k steps by 1 begins at the position
pub record Begins (types : List TypeEntry) (a : Assignment) (ws : List Way) (k : ℕ) (r : Position) : Type 0 where
  pub path : Way
  pub among : Contains ws path
  pub steps : path.number ≡ k
  pub from : IsFrom types a path.holder r

-- the fields of the ways are there
abbrev pub KnowsHolders : List TypeEntry → List Way → Type 0
KnowsHolders types ws = (w : Way) (f : FieldId) → Contains ws w → w.holder ≡ Some f → (entry : FieldEntry) × (field_at types f ≡ Some entry)

-- the other assignment has the first tracks of this one, and finite sets
pub record AgreesOn (count : ℕ) (a b : Assignment) : Type 0 where
  pub same : (t : ℕ) → t < count → b t ≡ a t
  pub finite : IsFinite b

-- a track that stands before the next one, if there is one
abbrev pub IsBefore : Option ℕ → ℕ → Type 0
IsBefore None next = Unit {0}
IsBefore (Some w) next = w < next

-- the position is in the set of this step
abbrev pub IsFurther : Assignment → Option ℕ → Position → Type 0
IsFurther b None r = ⊥
IsFurther b (Some w) r = IsTrue (b w r)

-- the position is looked at
abbrev pub IsLookedAt : List TypeEntry → Assignment → Assignment → TypeId → Option ℕ → Position → Type 0
IsLookedAt types a b ty None p = IsCellIn types a ty p
IsLookedAt types a b ty (Some w) p = IsTrue (b w p)

-- the letter of the next step
abbrev pub letter : Option ℕ → Bool
letter None = false
letter (Some w) = true

-- the position is below one that is in the set of this step, or where a way begins
abbrev pub IsLedOn : List TypeEntry → Assignment → List Way → Assignment → ℕ → Option ℕ → Option ℕ → Position → Type 0
IsLedOn types a ws b k from further p = (r : Position) × (p ≡ r ++ letter from ∷ []) × (IsFurther b further r ⊎ Begins types a ws k r)

pub not_same : (t next : ℕ) → t < next → t ≢ next
not_same t next below e = let k : ⊥ = omega (arith, e, below) in k

-- ---- another set on a track behind the layout's

pub AgreesOn-replace : (count : ℕ) (a b : Assignment) (next : ℕ) (set : PositionSet) → count ≤ next → AgreesOn count a b → IsFiniteSet set →
    AgreesOn count a (replace b next set)
AgreesOn-replace count a b next set few agrees bounded = record {
  same = λ t below. replace-other b next t set (not_same t next (omega (arith, below, few))) ∙ agrees.same t below;
  finite = IsFinite-replace b next set agrees.finite bounded;
}

pub StandsOn-agrees : (count : ℕ) (a b : Assignment) (next : ℕ) (p : Position) → count ≤ next → AgreesOn count a b →
    StandsOn count a (with_position b next p) next p
StandsOn-agrees count a b next p few agrees = record {
  same = λ t below. replace-other b next t (just p) (not_same t next (omega (arith, below, few))) ∙ agrees.same t below;
  only = subst (λ (set : PositionSet). IsOnly set p) (sym (replace-same b next (just p))) (IsOnly-just p);
  finite = IsFinite-position b next p agrees.finite;
}

-- an earlier track stays as it is
pub further-same : (b : Assignment) (next : ℕ) (set : PositionSet) (further : Option ℕ) (r : Position) → IsBefore further next →
    IsFurther (replace b next set) further r ↔ IsFurther b further r
further-same b next set None r before = ((λ h. h), (λ h. h))
further-same b next set (Some w) r before =
    let same = replace-other b next w set (not_same w next before) in (
      (λ h. subst (λ (s : PositionSet). IsTrue (s r)) same h),
      (λ h. subst (λ (s : PositionSet). IsTrue (s r)) (sym same) h),
    )

pub looked-same : (types : List TypeEntry) (a b : Assignment) (ty : TypeId) (next : ℕ) (set : PositionSet) (from : Option ℕ) (p : Position) →
    IsBefore from next → IsLookedAt types a (replace b next set) ty from p ↔ IsLookedAt types a b ty from p
looked-same types a b ty next set None p before = ((λ h. h), (λ h. h))
looked-same types a b ty next set (Some w) p before = further-same b next set (Some w) p before

module _ (types : List TypeEntry) (vars : List VarEntry) (owners : OwnersAreThere types) (a : Assignment) (ws : List Way) (known : KnowsHolders types ws) where
  -- ---- one position on a track

  module _ (b : Assignment) (x : ℕ) (p : Position) (stands : StandsOn (track_count types vars) a b x p) (next : ℕ) where
    begins-means : (holder : Option FieldId) → ((f : FieldId) → holder ≡ Some f → (entry : FieldEntry) × (field_at types f ≡ Some entry)) →
        WSat (begins next types x holder) b ↔ IsFrom types a holder p
    begins-means None there = (
      (λ h. IsOnly-same (b x) p [] stands.only ((WSat-Root (track x) b).0 h)),
      (λ h. (WSat-Root (track x) b).1 (IsOnly-along (b x) p [] h stands.only)),
    )
    begins-means (Some f) there =
        let (entry, is) = there f refl in
        has-means types vars a b x p stands next f entry owners is

    some-begins : (k : ℕ) → ((f : Formula) × Contains (flat_map (begins_after next types x k) ws) f × WSat f b) ↔ Begins types a ws k p
    some-begins k = (
      (λ h.
          let (w, among, of_w) = flat_map-inside (begins_after next types x k) ws h.0 h.1 in
          let (same, is) = cond-inside (w.number == k) (begins next types x w.holder) h.0 of_w in
          record {
            path = w;
            among = among;
            steps = eqb-true w.number k same;
            from = (begins-means w.holder (λ f holds. known w f among holds)).0 (subst (λ (g : Formula). WSat g b) (sym is) h.2);
          }),
      (λ h.
          let f = begins next types x h.path.holder in (
            f,
            Contains-flat_map (begins_after next types x k) ws h.path f h.among
                (subst (λ (c : Bool). Contains (cond c (f ∷ []) []) f) (sym (eq-eqb h.path.number k h.steps)) (Contains-first f [])),
            (begins-means h.path.holder (λ g holds. known h.path g h.among holds)).1 h.from,
          )),
    )

    some-further : (further : Option ℕ) → ((f : Formula) × Contains (is_further further x) f × WSat f b) ↔ IsFurther b further p
    some-further None = ((λ h. absurd (Contains-none h.0 h.1)), (λ h. absurd h))
    some-further (Some w) = (
      (λ h.
          let is : Sub (track x) (track w) ≡ h.0 = Contains-one (Sub (track x) (track w)) h.0 h.1 in
          (law-member x w b p stands.only).0 (subst (λ (g : Formula). WSat g b) (sym is) h.2)),
      (λ h. (Sub (track x) (track w), Contains-first (Sub (track x) (track w)) [], (law-member x w b p stands.only).1 h)),
    )

    pub comes-means : (k : ℕ) (further : Option ℕ) →
        WSat (comes next types ws k further x) b ↔ (IsFurther b further p ⊎ Begins types a ws k p)
    comes-means k further =
        let sets = is_further further x in
        let starts = flat_map (begins_after next types x k) ws in
        let some = law-or_list next (sets ++ starts) b stands.finite in (
          (λ h.
              let (f, listed, holds) = some.0 h in
              elim (Contains-append_cases sets starts f listed) as (λ _. IsFurther b further p ⊎ Begins types a ws k p) [
                | inl here ↦ inl ((some-further further).0 (f, here, holds))
                | inr later ↦ inr ((some-begins k).0 (f, later, holds))
              ]),
          (λ h. some.1 (elim h as (λ _. (f : Formula) × Contains (sets ++ starts) f × WSat f b) [
            | inl in_set ↦ (let (f, listed, holds) = (some-further further).1 in_set in (f, Contains-append_left sets starts f listed, holds))
            | inr begin ↦ (let (f, listed, holds) = (some-begins k).1 begin in (f, Contains-append_right sets starts f listed, holds))
          ])),
        )

  -- ---- one position below another

  below-means : (from : Option ℕ) (b : Assignment) (x y : ℕ) (p r : Position) → IsOnly (b x) p → IsOnly (b y) r →
      WSat (is_below from y x) b ↔ (p ≡ r ++ letter from ∷ [])
  below-means None b x y p r at_x at_y =
      let step = WSat-Succ0 (track y) (track x) b in (
        (λ h.
            let (u, at_u, below_u) = step.0 h in
            IsOnly-same (b x) p (u ++ false ∷ []) at_x below_u ∙ ap (λ (w : Position). w ++ false ∷ []) (IsOnly-same (b y) u r at_u at_y)),
        (λ e. step.1 (r, at_y, IsOnly-along (b x) p (r ++ false ∷ []) e at_x)),
      )
  below-means (Some w) b x y p r at_x at_y =
      let step = WSat-Succ1 (track y) (track x) b in (
        (λ h.
            let (u, at_u, below_u) = step.0 h in
            IsOnly-same (b x) p (u ++ true ∷ []) at_x below_u ∙ ap (λ (w : Position). w ++ true ∷ []) (IsOnly-same (b y) u r at_u at_y)),
        (λ e. step.1 (r, at_y, IsOnly-along (b x) p (r ++ true ∷ []) e at_x)),
      )

  -- ---- one step

  is_led-means : (b : Assignment) (x : ℕ) (p : Position) → StandsOn (track_count types vars) a b x p → (next : ℕ) → track_count types vars ≤ next →
      x < next → (k : ℕ) (from further : Option ℕ) → IsBefore further next →
      WSat (is_led next types ws k from further x) b ↔ IsLedOn types a ws b k from further p
  is_led-means b x p stands next few below k from further before =
      let inner = λ (r : Position). with_position b next r in
      let bound = λ (r : Position). StandsOn-further (track_count types vars) a b x p next r few stands in
      let still = λ (r : Position). StandsOn-still (track_count types vars) a b x p next r few stands below in
      let some = law-ex1 next (And (is_below from next x) (comes (suc next) types ws k further next)) b in (
        (λ h.
            let (r, holds) = some.0 h in
            let both = (WSat-And (is_below from next x) (comes (suc next) types ws k further next) (inner r)).0 holds in
            let at_r = bound r in
            let at_x = still r in (
              r,
              (below-means from (inner r) x next p r at_x.only at_r.only).0 both.0,
              elim ((comes-means (inner r) next r at_r (suc next) k further).0 both.1) as (λ _. IsFurther b further r ⊎ Begins types a ws k r) [
                | inl in_set ↦ inl ((further-same b next (just r) further r before).0 in_set)
                | inr begin ↦ inr begin
              ],
            )),
        (λ h.
            let r = h.0 in
            let at_r = bound r in
            let at_x = still r in
            some.1 (
              r,
              (WSat-And (is_below from next x) (comes (suc next) types ws k further next) (inner r)).1 (
                (below-means from (inner r) x next p r at_x.only at_r.only).1 h.1,
                (comes-means (inner r) next r at_r (suc next) k further).1 (elim h.2 as (λ _. IsFurther (inner r) further r ⊎ Begins types a ws k r) [
                  | inl in_set ↦ inl ((further-same b next (just r) further r before).1 in_set)
                  | inr begin ↦ inr begin
                ]),
              ),
            )),
      )

  module _ (ty : TypeId) (b : Assignment) (next : ℕ) (few : track_count types vars ≤ next) (agrees : AgreesOn (track_count types vars) a b) where
    pub looked-means : (from : Option ℕ) (p : Position) → IsBefore from next →
        WSat (is_looked_at (suc next) types ty from next) (with_position b next p) ↔ IsLookedAt types a b ty from p
    looked-means None p before =
        is_live-means types vars a (with_position b next p) next p (StandsOn-agrees (track_count types vars) a b next p few agrees) (suc next) ty
    looked-means (Some w) p before =
        let stands = StandsOn-agrees (track_count types vars) a b next p few agrees in
        let member = law-member next w (with_position b next p) p stands.only in
        let same = further-same b next (just p) (Some w) p before in (
          (λ h. same.0 (member.0 h)),
          (λ h. member.1 (same.1 h)),
        )

    pub are_led-means : (k : ℕ) (from further : Option ℕ) → IsBefore from next → IsBefore further next →
        WSat (are_led next types ws ty k from further) b ↔ ((p : Position) → IsLookedAt types a b ty from p → IsLedOn types a ws b k from further p)
    are_led-means k from further before_from before =
        let looked = is_looked_at (suc next) types ty from next in
        let led = is_led (suc next) types ws k from further next in
        let each = law-all1 next (imp looked led) b agrees.finite in (
          (λ h p seen. (on p).0 ((law-imp looked led (with_position b next p) (at-finite p)).0 (each.0 h p) ((looked-means from p before_from).1 seen))),
          (λ h. each.1 (λ p. (law-imp looked led (with_position b next p) (at-finite p)).1 (λ holds.
              (on p).1 (h p ((looked-means from p before_from).0 holds))))),
        )
      where
        at-finite : (p : Position) → IsFinite (with_position b next p)
        at-finite p = IsFinite-position b next p agrees.finite

        later : (o : Option ℕ) → IsBefore o next → IsBefore o (suc next)
        later None h = tt
        later (Some w) h = omega (arith, h)

        on : (p : Position) → WSat (is_led (suc next) types ws k from further next) (with_position b next p) ↔ IsLedOn types a ws b k from further p
        on p =
            let stands = StandsOn-agrees (track_count types vars) a b next p few agrees in
            let more : track_count types vars ≤ suc next = omega (arith, few) in
            let own : next < suc next = omega arith in
            let inside = is_led-means (with_position b next p) next p stands (suc next) more own k from further (later further before) in (
              (λ h.
                  let (r, is, comes) = inside.0 h in (
                    r,
                    is,
                    elim comes as (λ _. IsFurther b further r ⊎ Begins types a ws k r) [
                      | inl in_set ↦ inl ((further-same b next (just p) further r before).0 in_set)
                      | inr begin ↦ inr begin
                    ],
                  )),
              (λ h. inside.1 (
                h.0,
                h.1,
                elim h.2 as (λ _. IsFurther (with_position b next p) further h.0 ⊎ Begins types a ws k h.0) [
                  | inl in_set ↦ inl ((further-same b next (just p) further h.0 before).1 in_set)
                  | inr begin ↦ inr begin
                ],
              )),
            )
