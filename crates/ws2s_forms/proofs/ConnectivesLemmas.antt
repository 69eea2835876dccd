-- What the abbreviations mean.
use Rattle.std.proofs.Common.{◌≡◌, ℕ, ◌<◌, IsTrue, ◌↔◌, ◌⊎◌, inl, inr, List, [], ◌∷◌, ◌++◌, fold, sym, subst, arith}
use Rattle.gta_theory.specs.Assignments.{Position, PositionSet, Assignment, IsFiniteSet, IsOnly, replace}
use Rattle.gta_theory.proofs.AssignmentsLemmas.{replace-same, replace-other}
use Rattle.ws2s_core.specs.declared.formula.Formula.{Formula}
use Rattle.ws2s_core.specs.declared.formula.Formula.TheVariants.{Sub, Single, And, Not, Ex2}
use Rattle.ws2s_core.specs.Satisfaction.{WSat}
use Rattle.ws2s_core.proofs.SatisfactionLemmas.{WSat-Sub, WSat-And, WSat-Not, WSat-Ex2}
use Rattle.ws2s_forms.specs.Forms.{track, false_at, true_at, and_list, or, imp, iff, ex1, all1, all2, empty_at, equal}
use Rattle.ws2s_forms.proofs.PositionsLemmas.{IsOnly-inside, WSat-ex1}

pub WSat-false : (next : ℕ) (a : Assignment) → WSat (false_at next) a → ⊥
WSat-false next a h =
    let set = (WSat-Ex2 (track next) (And (Single (track next)) (Not (Single (track next)))) a).0 h in
    let both = (WSat-And (Single (track next)) (Not (Single (track next))) (replace a next set.0)).0 set.2 in
    (WSat-Not (Single (track next)) (replace a next set.0)).0 both.1 both.0

pub WSat-true : (next : ℕ) (a : Assignment) → WSat (true_at next) a
WSat-true next a = (WSat-Not (false_at next) a).1 (WSat-false next a)

module _ (f g : Formula) (a : Assignment) (P Q : Type 0) (left : WSat f a ↔ P) (right : WSat g a ↔ Q) where
  pub WSat-and : WSat (And f g) a ↔ (P × Q)
  WSat-and = (
    (λ h. let both = (WSat-And f g a).0 h in (left.0 both.0, right.0 both.1)),
    (λ h. (WSat-And f g a).1 (left.1 h.0, right.1 h.1)),
  )

  pub WSat-or : WSat (or f g) a ↔ (¬ (¬ (P ⊎ Q)))
  WSat-or = (
    (λ h neither.
        (WSat-Not (And (Not f) (Not g)) a).0 h ((WSat-And (Not f) (Not g) a).1 (
          (WSat-Not f a).1 (λ p. neither (inl (left.0 p))),
          (WSat-Not g a).1 (λ q. neither (inr (right.0 q))),
        ))),
    (λ h.
        (WSat-Not (And (Not f) (Not g)) a).1 (λ nots.
        let both = (WSat-And (Not f) (Not g) a).0 nots in
        h (λ one. elim one as (λ _. ⊥) [
          | inl p ↦ (WSat-Not f a).0 both.0 (left.1 p)
          | inr q ↦ (WSat-Not g a).0 both.1 (right.1 q)
        ]))),
  )

  pub WSat-imp : WSat (imp f g) a ↔ (P → (¬ (¬ Q)))
  WSat-imp = (
    (λ h p fails.
        (WSat-Not (And f (Not g)) a).0 h
        ((WSat-And f (Not g) a).1 (left.1 p, (WSat-Not g a).1 (λ q. fails (right.0 q))))),
    (λ h.
        (WSat-Not (And f (Not g)) a).1 (λ fails.
        let both = (WSat-And f (Not g) a).0 fails in
        h (left.0 both.0) (λ q. (WSat-Not g a).0 both.1 (right.1 q)))),
  )

pub WSat-negated : (f : Formula) (a : Assignment) (P : Type 0) → WSat f a ↔ P → WSat (Not f) a ↔ (P → ⊥)
WSat-negated f a P whole = (
  (λ h p. (WSat-Not f a).0 h (whole.1 p)),
  (λ h. (WSat-Not f a).1 (λ k. h (whole.0 k))),
)

pub WSat-iff : (f g : Formula) (a : Assignment) (P Q : Type 0) → WSat f a ↔ P → WSat g a ↔ Q →
    WSat (iff f g) a ↔ ((P → (¬ (¬ Q))) × (Q → (¬ (¬ P))))
WSat-iff f g a P Q left right =
    WSat-and (imp f g) (imp g f) a (P → (¬ (¬ Q))) (Q → (¬ (¬ P)))
    (WSat-imp f g a P Q left right) (WSat-imp g f a Q P right left)

pub WSat-all1 : (next : ℕ) (f : Formula) (a : Assignment) (P : Position → Type 0) →
    ((set : PositionSet) (u : Position) → IsOnly set u → WSat f (replace a next set) ↔ P u) →
    WSat (all1 next f) a ↔ ((u : Position) → (¬ (¬ (P u))))
WSat-all1 next f a P rest =
    let some = WSat-ex1 next (Not f) a (λ u. P u → ⊥)
    (λ set u only. WSat-negated f (replace a next set) (P u) (rest set u only)) in (
      (λ h u fails. (WSat-Not (ex1 next (Not f)) a).0 h (some.1 (u, fails))),
      (λ h. (WSat-Not (ex1 next (Not f)) a).1 (λ k. let u = some.0 k in h u.0 u.1)),
    )

pub WSat-ex2 : (next : ℕ) (f : Formula) (a : Assignment) (P : PositionSet → Type 0) →
    ((set : PositionSet) → WSat f (replace a next set) ↔ P set) →
    WSat (Ex2 (track next) f) a ↔ ((set : PositionSet) × IsFiniteSet set × P set)
WSat-ex2 next f a P rest = (
  (λ h. let set = (WSat-Ex2 (track next) f a).0 h in (set.0, set.1, (rest set.0).0 set.2)),
  (λ h. (WSat-Ex2 (track next) f a).1 (h.0, h.1, (rest h.0).1 h.2)),
)

pub WSat-all2 : (next : ℕ) (f : Formula) (a : Assignment) (P : PositionSet → Type 0) →
    ((set : PositionSet) → WSat f (replace a next set) ↔ P set) →
    WSat (all2 next f) a ↔ ((set : PositionSet) → IsFiniteSet set → (¬ (¬ (P set))))
WSat-all2 next f a P rest =
    let some = WSat-ex2 next (Not f) a (λ set. P set → ⊥) (λ set. WSat-negated f (replace a next set) (P set) (rest set)) in (
      (λ h set finite fails. (WSat-Not (Ex2 (track next) (Not f)) a).0 h (some.1 (set, finite, fails))),
      (λ h. (WSat-Not (Ex2 (track next) (Not f)) a).1 (λ k. let set = some.0 k in h set.0 set.1 set.2)),
    )

-- two names of one set have the same members
pub inside_same : (given set : PositionSet) → given ≡ set → (p : Position) → IsTrue (given p) ↔ IsTrue (set p)
inside_same given set e p = (
  (λ h. subst (λ (s : PositionSet). IsTrue (s p)) e h),
  (λ h. subst (λ (s : PositionSet). IsTrue (s p)) (sym e) h),
)

-- the position on the next track is in the set of another
pub WSat-inside : (a : Assignment) (next x : ℕ) (set : PositionSet) (u : Position) → x < next → IsOnly set u →
    WSat (Sub (track next) (track x)) (replace a next set) ↔ IsTrue (a x u)
WSat-inside a next x set u below only = (
  (λ h.
      (other u).0 ((WSat-Sub (track next) (track x) (replace a next set)).0 h u ((same u).1 (IsOnly-inside set u only)))),
  (λ h.
      (WSat-Sub (track next) (track x) (replace a next set)).1 (λ p in_next.
      (other p).1 (subst (λ q. IsTrue (a x q)) (sym ((only p).0 ((same p).0 in_next))) h))),
)
  where
    same : (p : Position) → IsTrue (replace a next set next p) ↔ IsTrue (set p)
    same p = inside_same (replace a next set next) set (replace-same a next set) p

    other : (p : Position) → IsTrue (replace a next set x p) ↔ IsTrue (a x p)
    other p = inside_same (replace a next set x) (a x) (replace-other a next x set (λ e. let k : ⊥ = omega (arith, below) in k)) p

pub WSat-empty : (a : Assignment) (next x : ℕ) → x < next →
    WSat (empty_at next x) a ↔ ((p : Position) → IsTrue (a x p) → ⊥)
WSat-empty a next x below =
    let some = WSat-ex1 next (Sub (track next) (track x)) a (λ u. IsTrue (a x u))
    (λ set u only. WSat-inside a next x set u below only) in (
      (λ h p inside. (WSat-Not (ex1 next (Sub (track next) (track x))) a).0 h (some.1 (p, inside))),
      (λ h. (WSat-Not (ex1 next (Sub (track next) (track x))) a).1 (λ k. let u = some.0 k in h u.0 u.1)),
    )

pub WSat-equal : (a : Assignment) (x y : ℕ) →
    WSat (equal x y) a ↔ ((p : Position) → IsTrue (a x p) ↔ IsTrue (a y p))
WSat-equal a x y = (
  (λ h p.
      let both = (WSat-And (Sub (track x) (track y)) (Sub (track y) (track x)) a).0 h in
      ((WSat-Sub (track x) (track y) a).0 both.0 p, (WSat-Sub (track y) (track x) a).0 both.1 p)),
  (λ h.
      (WSat-And (Sub (track x) (track y)) (Sub (track y) (track x)) a).1
      ((WSat-Sub (track x) (track y) a).1 (λ p. (h p).0), (WSat-Sub (track y) (track x) a).1 (λ p. (h p).1))),
)

-- each formula of the list is satisfied
abbrev pub EachSat : Assignment → List Formula → Type 0
EachSat a [] = Unit {0}
EachSat a (f ∷ fs) = WSat f a × EachSat a fs

WSat-chain : (a : Assignment) (fs : List Formula) (f : Formula) → WSat (fold And f fs) a ↔ (WSat f a × EachSat a fs)
WSat-chain a [] f = ((λ h. (h, tt)), (λ h. h.0))
WSat-chain a (g ∷ gs) f = (
  (λ h.
      let all = (WSat-chain a gs (And f g)).0 h in
      let both = (WSat-And f g a).0 all.0 in
      (both.0, (both.1, all.1))),
  (λ h. (WSat-chain a gs (And f g)).1 ((WSat-And f g a).1 (h.0, h.1.0), h.1.1)),
)

pub WSat-and_list : (a : Assignment) (next : ℕ) (fs : List Formula) → WSat (and_list next fs) a ↔ EachSat a fs
WSat-and_list a next [] = ((λ h. tt), (λ h. WSat-true next a))
WSat-and_list a next (f ∷ fs) = WSat-chain a fs f

pub EachSat-append : (a : Assignment) (fs gs : List Formula) → EachSat a (fs ++ gs) ↔ (EachSat a fs × EachSat a gs)
EachSat-append a [] gs = ((λ h. (tt, h)), (λ h. h.1))
EachSat-append a (f ∷ fs) gs = (
  (λ h. let rest = (EachSat-append a fs gs).0 h.1 in ((h.0, rest.0), rest.1)),
  (λ h. (h.0.0, (EachSat-append a fs gs).1 (h.0.1, h.1))),
)
