-- Formulas of one track whose meaning is known, joined and bound by a quantifier.
use Rattle.std.proofs.Common.{◌↔◌, ℕ, suc, arith}
use Rattle.gta_theory.specs.Assignments.{Position, Assignment, IsFinite}
use Rattle.ws2s_core.specs.declared.formula.Formula.{Formula}
use Rattle.ws2s_core.specs.declared.formula.Formula.TheVariants.{And}
use Rattle.ws2s_core.specs.Satisfaction.{WSat}
use Rattle.ws2s_forms.specs.Forms.{imp, iff, ex1, all1}
use Rattle.ws2s_forms.specs.Places.{with_position}
use Rattle.ws2s_forms.proofs.LawsLemmas.{law-all1, law-imp, law-iff}
use Rattle.graph_meaning.specs.Live.Meaning.{MeansHere}
use Rattle.graph_meaning.proofs.live.AgreeingLemmas.{Agrees-itself, Agrees-bound, IsOnly-bound, sat-and, sat-ex1}

-- ---- joined

pub sat-imp : (f g : Formula) (b : Assignment) (P Q : Type 0) → IsFinite b → WSat f b ↔ P → WSat g b ↔ Q → WSat (imp f g) b ↔ (P → Q)
sat-imp f g b P Q finite left right =
    let follows = law-imp f g b finite in (
      (λ h p. right.0 (follows.0 h (left.1 p))),
      (λ h. follows.1 (λ k. right.1 (h (left.0 k)))),
    )

pub sat-iff : (f g : Formula) (b : Assignment) (P Q : Type 0) → IsFinite b → WSat f b ↔ P → WSat g b ↔ Q → WSat (iff f g) b ↔ (P ↔ Q)
sat-iff f g b P Q finite left right =
    let same = law-iff f g b finite in (
      (λ h. let both = same.0 h in ((λ p. right.0 (both.0 (left.1 p))), (λ q. left.0 (both.1 (right.1 q))))),
      (λ h. same.1 ((λ k. right.1 (h.0 (left.0 k))), (λ k. left.1 (h.1 (right.0 k))))),
    )

module _ (own : ℕ) (b : Assignment) (is other : ℕ → ℕ → Formula) (P Q : Position → Type 0) (means : MeansHere own b is P)
    (also : MeansHere own b other Q) where
  pub and-here : MeansHere own b (λ next x. And (is next x) (other next x)) (λ p. P p × Q p)
  and-here c next x p later more less only =
      sat-and (is next x) (other next x) c (P p) (Q p) (means c next x p later more less only) (also c next x p later more less only)

  pub imp-here : MeansHere own b (λ next x. imp (is next x) (other next x)) (λ p. P p → Q p)
  imp-here c next x p later more less only =
      sat-imp (is next x) (other next x) c (P p) (Q p) later.finite (means c next x p later more less only) (also c next x p later more less only)

  pub iff-here : MeansHere own b (λ next x. iff (is next x) (other next x)) (λ p. P p ↔ Q p)
  iff-here c next x p later more less only =
      sat-iff (is next x) (other next x) c (P p) (Q p) later.finite (means c next x p later more less only) (also c next x p later more less only)

-- ---- bound by the next quantifier

module _ (own : ℕ) (b : Assignment) (is : ℕ → ℕ → Formula) (P : Position → Type 0) (finite : IsFinite b) (means : MeansHere own b is P) where
  bound-here : (p : Position) → WSat (is (suc own) own) (with_position b own p) ↔ P p
  bound-here p =
      means (with_position b own p) (suc own) own p (Agrees-bound own b b own p (Agrees-itself own b finite) (omega arith)) (omega arith) (omega arith)
      (IsOnly-bound b own p)

  pub some-here : WSat (ex1 own (is (suc own) own)) b ↔ ((p : Position) × P p)
  some-here = sat-ex1 own (is (suc own) own) b P bound-here

  pub each-here : WSat (all1 own (is (suc own) own)) b ↔ ((p : Position) → P p)
  each-here =
      let all = law-all1 own (is (suc own) own) b finite in (
        (λ h p. (bound-here p).0 (all.0 h p)),
        (λ h. all.1 (λ p. (bound-here p).1 (h p))),
      )
