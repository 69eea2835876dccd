-- Assignments that agree with one on the tracks in use, under quantifiers, and what formulas mean there.
use Rattle.std.proofs.Common.{◌≢◌, ◌↔◌, ◌⊎◌, inl, inr, ℕ, ◌<◌, ◌≤◌, IsTrue, List, [], ◌∷◌, map, Contains, refl, sym, ◌∙◌, subst, arith}
use Rattle.gta_theory.specs.Assignments.{Position, PositionSet, Assignment, IsFinite, IsFiniteSet, IsOnly, replace}
use Rattle.gta_theory.proofs.AssignmentsLemmas.{replace-other}
use Rattle.gta_theory.proofs.ListsLemmas.{Contains-map, Contains-mapped}
use Rattle.ws2s_core.specs.declared.formula.Formula.{Formula}
use Rattle.ws2s_core.specs.declared.formula.Formula.TheVariants.{Sub, And, Not}
use Rattle.ws2s_core.specs.Satisfaction.{WSat}
use Rattle.ws2s_core.proofs.SatisfactionLemmas.{WSat-And, WSat-Not}
use Rattle.ws2s_theory.proofs.ContextsLemmas.{IsFinite-replace}
use Rattle.ws2s_forms.specs.Forms.{track, or, or_list, and_list, ex1}
use Rattle.ws2s_forms.specs.Places.{just, with_position}
use Rattle.ws2s_forms.proofs.PositionsLemmas.{IsOnly-just, bound_same, bound_other}
use Rattle.ws2s_forms.proofs.ConnectivesLemmas.{EachSat, WSat-and_list}
use Rattle.ws2s_forms.proofs.LawsLemmas.{law-ex1, law-or, law-or_list, law-member, IsFinite-position}
use Rattle.graph_meaning.specs.Live.Meaning.{Agrees}

-- ---- assignments

not_same : (t next : ℕ) → t < next → t ≢ next
not_same t next below e = let k : ⊥ = omega (arith, e, below) in k

pub Agrees-itself : (count : ℕ) (a : Assignment) → IsFinite a → Agrees count a a
Agrees-itself count a finite = record { finite = finite; same = λ t below. refl }

pub Agrees-set : (count : ℕ) (a b : Assignment) (next : ℕ) (set : PositionSet) → Agrees count a b → count ≤ next → IsFiniteSet set →
    Agrees count a (replace b next set)
Agrees-set count a b next set agrees few bounded = record {
  finite = IsFinite-replace b next set agrees.finite bounded;
  same = λ t below. replace-other b next t set (not_same t next (omega (arith, below, few))) ∙ agrees.same t below;
}

pub Agrees-bound : (count : ℕ) (a b : Assignment) (next : ℕ) (u : Position) → Agrees count a b → count ≤ next →
    Agrees count a (with_position b next u)
Agrees-bound count a b next u agrees few = record {
  finite = IsFinite-position b next u agrees.finite;
  same = λ t below. replace-other b next t (just u) (not_same t next (omega (arith, below, few))) ∙ agrees.same t below;
}

pub IsOnly-bound : (b : Assignment) (next : ℕ) (u : Position) → IsOnly (with_position b next u next) u
IsOnly-bound b next u = (bound_same b next (just u) u).1 (IsOnly-just u)

pub IsOnly-still : (b : Assignment) (next x : ℕ) (u p : Position) → x < next → IsOnly (b x) p → IsOnly (with_position b next u x) p
IsOnly-still b next x u p below only = (bound_other b next x (just u) p below).1 only

pub IsOnly-kept : (b : Assignment) (next x : ℕ) (set : PositionSet) (p : Position) → x < next → IsOnly (b x) p → IsOnly (replace b next set x) p
IsOnly-kept b next x set p below only = (bound_other b next x set p below).1 only

-- the position of a track is on a track in use
pub member-agreed : (count : ℕ) (a b : Assignment) (x t : ℕ) (p : Position) → Agrees count a b → t < count → IsOnly (b x) p →
    WSat (Sub (track x) (track t)) b ↔ IsTrue (a t p)
member-agreed count a b x t p agrees below only =
    let member = law-member x t b p only in
    let same = agrees.same t below in (
      (λ h. subst (λ (set : PositionSet). IsTrue (set p)) same (member.0 h)),
      (λ h. member.1 (subst (λ (set : PositionSet). IsTrue (set p)) (sym same) h)),
    )

-- ---- formulas of parts whose meaning is known

pub sat-and : (f g : Formula) (b : Assignment) (P Q : Type 0) → WSat f b ↔ P → WSat g b ↔ Q → WSat (And f g) b ↔ (P × Q)
sat-and f g b P Q left right = (
  (λ h. let both = (WSat-And f g b).0 h in (left.0 both.0, right.0 both.1)),
  (λ h. (WSat-And f g b).1 (left.1 h.0, right.1 h.1)),
)

pub sat-not : (f : Formula) (b : Assignment) (P : Type 0) → WSat f b ↔ P → WSat (Not f) b ↔ (P → ⊥)
sat-not f b P means = (
  (λ h p. (WSat-Not f b).0 h (means.1 p)),
  (λ h. (WSat-Not f b).1 (λ k. h (means.0 k))),
)

pub sat-or : (f g : Formula) (b : Assignment) (P Q : Type 0) → IsFinite b → WSat f b ↔ P → WSat g b ↔ Q → WSat (or f g) b ↔ (P ⊎ Q)
sat-or f g b P Q finite left right =
    let either = law-or f g b finite in (
      (λ h. elim (either.0 h) as (λ _. P ⊎ Q) [ inl l ↦ inl (left.0 l) | inr r ↦ inr (right.0 r) ]),
      (λ h. either.1 (elim h as (λ _. WSat f b ⊎ WSat g b) [ inl l ↦ inl (left.1 l) | inr r ↦ inr (right.1 r) ])),
    )

pub sat-ex1 : (next : ℕ) (f : Formula) (b : Assignment) (P : Position → Type 0) → ((u : Position) → WSat f (with_position b next u) ↔ P u) →
    WSat (ex1 next f) b ↔ ((u : Position) × P u)
sat-ex1 next f b P means =
    let some = law-ex1 next f b in (
      (λ h. let (u, holds) = some.0 h in (u, (means u).0 holds)),
      (λ h. some.1 (h.0, (means h.0).1 h.1)),
    )

pub sat-two : (next : ℕ) (f g : Formula) (b : Assignment) (P Q : Type 0) → WSat f b ↔ P → WSat g b ↔ Q →
    WSat (and_list next (f ∷ g ∷ [])) b ↔ (P × Q)
sat-two next f g b P Q one other =
    let all = WSat-and_list b next (f ∷ g ∷ []) in (
      (λ h. let (x, y, _) = flat (all.0 h) in (one.0 x, other.0 y)),
      (λ h. all.1 (one.1 h.0, (other.1 h.1, tt))),
    )
  where
    flat : EachSat b (f ∷ g ∷ []) → WSat f b × WSat g b × Unit {0}
    flat h = (h.0, h.1.0, tt)

pub sat-three : (next : ℕ) (f g h : Formula) (b : Assignment) (P Q R : Type 0) → WSat f b ↔ P → WSat g b ↔ Q → WSat h b ↔ R →
    WSat (and_list next (f ∷ g ∷ h ∷ [])) b ↔ (P × Q × R)
sat-three next f g h b P Q R one other third =
    let all = WSat-and_list b next (f ∷ g ∷ h ∷ []) in (
      (λ k. let each = all.0 k in (one.0 each.0, other.0 each.1.0, third.0 each.1.1.0)),
      (λ k. all.1 (one.1 k.0, (other.1 k.1, (third.1 k.2, tt)))),
    )

pub sat-or_list : {X : Type 0} (next : ℕ) (f : X → Formula) (xs : List X) (b : Assignment) (P : X → Type 0) → IsFinite b →
    ((x : X) → Contains xs x → WSat (f x) b ↔ P x) → WSat (or_list next (map f xs)) b ↔ ((x : X) × Contains xs x × P x)
sat-or_list next f xs b P finite means =
    let some = law-or_list next (map f xs) b finite in (
      (λ h.
          let (g, listed, holds) = some.0 h in
          let (x, among, is) = Contains-mapped f xs g listed in
          (x, among, (means x among).0 (subst (λ k. WSat k b) (sym is) holds))),
      (λ h. some.1 (f h.0, Contains-map f xs h.0 h.1, (means h.0 h.1).1 h.2)),
    )
