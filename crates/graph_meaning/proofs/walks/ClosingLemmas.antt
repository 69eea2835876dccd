-- Closed sets as formulas.
use Rattle.std.proofs.Common.{◌↔◌, ℕ, suc, ◌<◌, ◌≤◌, Bool, true, false, IsTrue, [], ◌∷◌, refl, sym, ◌∙◌, subst, arith}
use Rattle.gta_theory.specs.Assignments.{Position, PositionSet, Assignment, IsFiniteSet, IsOnly, replace}
use Rattle.gta_theory.proofs.AssignmentsLemmas.{replace-same, replace-other}
use Rattle.ws2s_core.specs.declared.formula.Formula.{Formula}
use Rattle.ws2s_core.specs.declared.formula.Formula.TheVariants.{Sub, And, Not}
use Rattle.ws2s_core.specs.Satisfaction.{WSat}
use Rattle.ws2s_forms.specs.Forms.{track, and_list, imp, ex1, all2}
use Rattle.ws2s_forms.specs.Places.{just, with_position}
use Rattle.ws2s_forms.proofs.LawsLemmas.{law-all2, law-imp, law-member}
use Rattle.graph_view.specs.Routes.{Joining, is_left}
use Rattle.graph_meaning.specs.Live.Meaning.{Agrees, MeansPairs}
use Rattle.graph_meaning.proofs.live.AgreeingLemmas.{Agrees-set, Agrees-bound, IsOnly-bound, IsOnly-still, IsOnly-kept, sat-and, sat-not, sat-ex1, sat-three}

-- no pair leads out of the set
abbrev pub IsClosed : (Position → Position → Type 0) → PositionSet → Type 0
IsClosed R set = (p q : Position) → IsTrue (set p) → R p q → IsTrue (set q)

-- each finite closed set that holds p holds q
abbrev pub IsLinked : (Position → Position → Type 0) → Position → Position → Type 0
IsLinked R p q = (set : PositionSet) → IsFiniteSet set → IsTrue (set p) → IsClosed R set → IsTrue (set q)

-- b is in each closed set that has a
abbrev pub closing : Joining → Joining
closing joins next a b = all2 next (imp (And (Sub (track a) (track next)) (Not (is_left joins (suc next) next))) (Sub (track b) (track next)))

-- what isn't false of a test is true
pub true_from : (t : Bool) → ((IsTrue t → ⊥) → ⊥) → IsTrue t
true_from true h = refl
true_from false h = absurd (h (λ e. cc))

module _ (count : ℕ) (a : Assignment) (joins : ℕ → ℕ → ℕ → Formula) (R : Position → Position → Type 0) (means : MeansPairs count a joins R) where
  -- the set on track x is closed
  pub left-means : (b : Assignment) (next x : ℕ) (set : PositionSet) → Agrees count a b → count ≤ next → x < next →
      ((p : Position) → IsTrue (b x p) ↔ IsTrue (set p)) → WSat (Not (is_left joins next x)) b ↔ IsClosed R set
  left-means b next x set agrees few below is =
      let first = λ (p : Position). with_position b next p in
      let second = λ (p q : Position). with_position (first p) (suc next) q in
      let inside : (p q : Position) → WSat (and_list (suc (suc next)) (Sub (track next) (track x)
      ∷ joins (suc (suc next)) next (suc next) ∷ Not (Sub (track (suc next)) (track x)) ∷ [])) (second p q)
      ↔ (IsTrue (set p) × R p q × (IsTrue (set q) → ⊥)) = λ p q.
      let agreed = Agrees-bound count a b next p agrees few in
      let both = Agrees-bound count a (first p) (suc next) q agreed (omega (arith, few)) in
      let at_p = IsOnly-still (first p) (suc next) next q p (omega arith) (IsOnly-bound b next p) in
      let at_q = IsOnly-bound (first p) (suc next) q in
      sat-three (suc (suc next)) (Sub (track next) (track x)) (joins (suc (suc next)) next (suc next)) (Not (Sub (track (suc next)) (track x))) (second p q)
      (IsTrue (set p)) (R p q) (IsTrue (set q) → ⊥)
      (member p q next p at_p)
      (means (second p q) (suc (suc next)) next (suc next) p q both (omega (arith, few)) (omega arith) (omega arith) at_p at_q)
      (sat-not (Sub (track (suc next)) (track x)) (second p q) (IsTrue (set q)) (member p q (suc next) q at_q)) in
      let some = sat-ex1 next (ex1 (suc next) (and_list (suc (suc next)) (Sub (track next) (track x)
      ∷ joins (suc (suc next)) next (suc next) ∷ Not (Sub (track (suc next)) (track x)) ∷ []))) b
      (λ p. (q : Position) × (IsTrue (set p) × R p q × (IsTrue (set q) → ⊥)))
      (λ p. sat-ex1 (suc next) (and_list (suc (suc next)) (Sub (track next) (track x)
      ∷ joins (suc (suc next)) next (suc next) ∷ Not (Sub (track (suc next)) (track x)) ∷ [])) (first p)
      (λ q. IsTrue (set p) × R p q × (IsTrue (set q) → ⊥)) (inside p)) in
      let none = sat-not (ex1 next (ex1 (suc next) (and_list (suc (suc next)) (Sub (track next) (track x)
      ∷ joins (suc (suc next)) next (suc next) ∷ Not (Sub (track (suc next)) (track x)) ∷ [])))) b
      ((p : Position) × ((q : Position) × (IsTrue (set p) × R p q × (IsTrue (set q) → ⊥)))) some in (
        (λ h p q on leads. true_from (set q) (λ out. none.0 h (p, (q, (on, leads, out))))),
        (λ closed. none.1 (λ found. found.1.1.2 (closed found.0 found.1.0 found.1.1.0 found.1.1.1))),
      )
    where
      shown : (p q w : Position) → IsTrue (with_position (with_position b next p) (suc next) q x w) ↔ IsTrue (set w)
      shown p q w =
          let same = replace-other (with_position b next p) (suc next) x (just q) (λ e. let k : ⊥ = omega (arith, e, below) in k)
          ∙ replace-other b next x (just p) (λ e. let k : ⊥ = omega (arith, e, below) in k) in (
            (λ h. (is w).0 (subst (λ (s : PositionSet). IsTrue (s w)) same h)),
            (λ h. subst (λ (s : PositionSet). IsTrue (s w)) (sym same) ((is w).1 h)),
          )

      member : (p q : Position) (y : ℕ) (w : Position) → IsOnly (with_position (with_position b next p) (suc next) q y) w →
          WSat (Sub (track y) (track x)) (with_position (with_position b next p) (suc next) q) ↔ IsTrue (set w)
      member p q y w only =
          let on = law-member y x (with_position (with_position b next p) (suc next) q) w only in
          ((λ h. (shown p q w).0 (on.0 h)), (λ h. on.1 ((shown p q w).1 h)))

  -- each closed set that has the one has the other
  pub closing-means : MeansPairs count a (closing joins) (IsLinked R)
  closing-means b next x y p q agrees few before behind at_p at_q =
      let within = And (Sub (track x) (track next)) (Not (is_left joins (suc next) next)) in
      let all = law-all2 next (imp within (Sub (track y) (track next))) b agrees.finite in
      let each : (set : PositionSet) → IsFiniteSet set → WSat (imp within (Sub (track y) (track next))) (replace b next set)
      ↔ ((IsTrue (set p) × IsClosed R set) → IsTrue (set q)) = λ set bounded.
      let agreed = Agrees-set count a b next set agrees few bounded in
      let left = sat-and (Sub (track x) (track next)) (Not (is_left joins (suc next) next)) (replace b next set) (IsTrue (set p)) (IsClosed R set)
      (on set x p (IsOnly-kept b next x set p before at_p))
      (left-means (replace b next set) (suc next) next set agreed (omega (arith, few)) (omega arith) (shown set)) in
      let right = on set y q (IsOnly-kept b next y set q behind at_q) in
      let follows = law-imp within (Sub (track y) (track next)) (replace b next set) agreed.finite in (
        (λ h both. right.0 (follows.0 h (left.1 both))),
        (λ h. follows.1 (λ holds. right.1 (h (left.0 holds)))),
      ) in (
        (λ h set bounded on_p closed. (each set bounded).0 (all.0 h set bounded) (on_p, closed)),
        (λ linked. all.1 (λ set bounded. (each set bounded).1 (λ both. linked set bounded both.0 both.1))),
      )
    where
      shown : (set : PositionSet) (w : Position) → IsTrue (replace b next set next w) ↔ IsTrue (set w)
      shown set w = (
        (λ h. subst (λ (s : PositionSet). IsTrue (s w)) (replace-same b next set) h),
        (λ h. subst (λ (s : PositionSet). IsTrue (s w)) (sym (replace-same b next set)) h),
      )

      on : (set : PositionSet) (z : ℕ) (w : Position) → IsOnly (replace b next set z) w →
          WSat (Sub (track z) (track next)) (replace b next set) ↔ IsTrue (set w)
      on set z w only =
          let member = law-member z next (replace b next set) w only in
          ((λ h. (shown set w).0 (member.0 h)), (λ h. member.1 ((shown set w).1 h)))
