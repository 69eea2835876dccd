-- What the abbreviations mean on assignments of finite sets.
use Rattle.std.proofs.Common.{◌≡◌, ◌≢◌, ◌⊎◌, inl, inr, ℕ, ◌<◌, Bool, true, false, cond, eqb, IsTrue, ◌↔◌, List, [], ◌∷◌, map, All, Contains, refl, sym, ap, ◌∙◌}
use Rattle.std.proofs.Common.{subst, arith}
use Rattle.std.proofs.lemmas.Bool.{false≢true}
use Rattle.std.proofs.lemmas.List.Elements.{All-nil, All-cons, All-head, All-tail}
use Rattle.gta_theory.specs.Assignments.{Position, PositionSet, Assignment, IsFinite, IsFiniteSet, IsOnly, replace}
use Rattle.gta_theory.proofs.ListsLemmas.{Contains-first, Contains-later}
use Rattle.ws2s_core.specs.declared.formula.Formula.{Formula}
use Rattle.ws2s_core.specs.declared.formula.Formula.TheVariants.{Sub, And, Not}
use Rattle.ws2s_core.specs.Satisfaction.{WSat}
use Rattle.ws2s_core.proofs.SatisfactionLemmas.{WSat-Sub, WSat-And, WSat-Not}
use Rattle.ws2s_core.proofs.TracksLemmas.{WSat-free}
use Rattle.ws2s_theory.specs.Worked.{plain}
use Rattle.ws2s_theory.proofs.ContextsLemmas.{IsFinite-replace, WSat-decided}
use Rattle.ws2s_theory.proofs.FormsLemmas.{Formed-all}
use Rattle.ws2s_theory.proofs.WorkedLemmas.{plain-guide}
use Rattle.ws2s_forms.specs.Forms.{track, and_list, or_list, or, imp, iff, ex1, all1, all2, empty_at, equal}
use Rattle.ws2s_forms.specs.Places.{just, with_position}
use Rattle.ws2s_forms.proofs.PositionsLemmas.{IsOnly-just, IsFiniteSet-just, IsOnly-inside, WSat-ex1}
use Rattle.ws2s_forms.proofs.ConnectivesLemmas.{WSat-or, WSat-imp, WSat-all1, WSat-all2, WSat-empty, WSat-equal, EachSat, WSat-and_list}

-- finite sets satisfy a formula or don't
pub decided : (f : Formula) (a : Assignment) → IsFinite a → WSat f a ⊎ (WSat f a → ⊥)
decided f a finite =
    let (M, count, k, of_M) = Formed-all plain plain-guide f in
    WSat-decided plain M f a plain-guide of_M.minimal.recognises finite

pub not_not : (f : Formula) (a : Assignment) → IsFinite a → ((WSat f a → ⊥) → ⊥) → WSat f a
not_not f a finite h = elim (decided f a finite) as (λ _. WSat f a) [
  | inl holds ↦ holds
  | inr fails ↦ absurd (h fails)
]

-- ---- one position on a track

pub same_truth : (b c : Bool) → IsTrue b ↔ IsTrue c → b ≡ c
same_truth true c e = sym (e.0 refl)
same_truth false true e = e.1 refl
same_truth false false e = refl

pub IsOnly-just_same : (set : PositionSet) (u p : Position) → IsOnly set u → set p ≡ just u p
IsOnly-just_same set u p only =
    same_truth (set p) (just u p) ((λ h. (IsOnly-just u p).1 ((only p).0 h)), (λ h. (only p).1 ((IsOnly-just u p).0 h)))

-- any set of one position is that position alone
pub WSat-just : (f : Formula) (a : Assignment) (t : ℕ) (set : PositionSet) (u : Position) → IsOnly set u →
    WSat f (replace a t set) ↔ WSat f (with_position a t u)
WSat-just f a t set u only =
    WSat-free f (replace a t set) (with_position a t u) (λ x free i p. ap (λ b. cond (eqb x t) b (a x p)) (IsOnly-just_same set u p only) i)

pub IsFinite-position : (a : Assignment) (t : ℕ) (u : Position) → IsFinite a → IsFinite (with_position a t u)
IsFinite-position a t u finite = IsFinite-replace a t (just u) finite (IsFiniteSet-just u)

-- ---- quantifiers

pub law-ex1 : (next : ℕ) (f : Formula) (a : Assignment) → WSat (ex1 next f) a ↔ ((u : Position) × WSat f (with_position a next u))
law-ex1 next f a = WSat-ex1 next f a (λ u. WSat f (with_position a next u)) (λ set u only. WSat-just f a next set u only)

pub law-all1 : (next : ℕ) (f : Formula) (a : Assignment) → IsFinite a →
    WSat (all1 next f) a ↔ ((u : Position) → WSat f (with_position a next u))
law-all1 next f a finite =
    let each = WSat-all1 next f a (λ u. WSat f (with_position a next u)) (λ set u only. WSat-just f a next set u only) in (
      (λ h u. not_not f (with_position a next u) (IsFinite-position a next u finite) (each.0 h u)),
      (λ h. each.1 (λ u fails. fails (h u))),
    )

pub law-all2 : (next : ℕ) (f : Formula) (a : Assignment) → IsFinite a →
    WSat (all2 next f) a ↔ ((set : PositionSet) → IsFiniteSet set → WSat f (replace a next set))
law-all2 next f a finite =
    let each = WSat-all2 next f a (λ set. WSat f (replace a next set)) (λ set. ((λ h. h), (λ h. h))) in (
      (λ h set bounded. not_not f (replace a next set) (IsFinite-replace a next set finite bounded) (each.0 h set bounded)),
      (λ h. each.1 (λ set bounded fails. fails (h set bounded))),
    )

-- ---- connectives

module _ (f g : Formula) (a : Assignment) (finite : IsFinite a) where
  pub law-or : WSat (or f g) a ↔ (WSat f a ⊎ WSat g a)
  law-or =
      let either = WSat-or f g a (WSat f a) (WSat g a) ((λ h. h), (λ h. h)) ((λ h. h), (λ h. h)) in (
        (λ h. elim (decided f a finite) as (λ _. WSat f a ⊎ WSat g a) [
          | inl holds ↦ inl holds
          | inr no_left ↦ inr (not_not g a finite (λ fails. either.0 h (λ one. elim one as (λ _. ⊥) [ inl l ↦ no_left l | inr r ↦ fails r ])))
        ]),
        (λ h. either.1 (λ neither. neither h)),
      )

  pub law-imp : WSat (imp f g) a ↔ (WSat f a → WSat g a)
  law-imp =
      let follows = WSat-imp f g a (WSat f a) (WSat g a) ((λ h. h), (λ h. h)) ((λ h. h), (λ h. h)) in (
        (λ h p. not_not g a finite (follows.0 h p)),
        (λ h. follows.1 (λ p fails. fails (h p))),
      )

pub law-iff : (f g : Formula) (a : Assignment) → IsFinite a → WSat (iff f g) a ↔ (WSat f a ↔ WSat g a)
law-iff f g a finite = (
  (λ h.
      let both = (WSat-And (imp f g) (imp g f) a).0 h in ((law-imp f g a finite).0 both.0, (law-imp g f a finite).0 both.1)),
  (λ h. (WSat-And (imp f g) (imp g f) a).1 ((law-imp f g a finite).1 h.0, (law-imp g f a finite).1 h.1)),
)

-- ---- lists

each_all : (fs : List Formula) (a : Assignment) → EachSat a fs ↔ All (λ f. WSat f a) fs
each_all [] a = ((λ h. All-nil (λ f. WSat f a)), (λ h. tt))
each_all (f ∷ fs) a = (
  (λ h. All-cons (λ g. WSat g a) f fs h.0 ((each_all fs a).0 h.1)),
  (λ h. (All-head (λ g. WSat g a) f fs h, (each_all fs a).1 (All-tail (λ g. WSat g a) f fs h))),
)

pub law-and_list : (next : ℕ) (fs : List Formula) (a : Assignment) → WSat (and_list next fs) a ↔ All (λ f. WSat f a) fs
law-and_list next fs a = (
  (λ h. (each_all fs a).0 ((WSat-and_list a next fs).0 h)),
  (λ h. (WSat-and_list a next fs).1 ((each_all fs a).1 h)),
)

-- some formula of the list holds
abbrev pub SomeSat : Assignment → List Formula → Type 0
SomeSat a fs = (f : Formula) × Contains fs f × WSat f a

some_sat : (fs : List Formula) (a : Assignment) → IsFinite a → (EachSat a (map Not fs) → ⊥) → SomeSat a fs
some_sat [] a finite h = absurd (h tt)
some_sat (f ∷ fs) a finite h = elim (decided f a finite) as (λ _. SomeSat a (f ∷ fs)) [
  | inl holds ↦ (f, Contains-first f fs, holds)
  | inr fails ↦ (let later = some_sat fs a finite (λ nots. h ((WSat-Not f a).1 fails, nots)) in
      (later.0, Contains-later f later.0 fs later.1, later.2))
]

none_sat : (fs : List Formula) (a : Assignment) → EachSat a (map Not fs) → All (λ f. WSat f a → ⊥) fs
none_sat [] a h = All-nil (λ f. WSat f a → ⊥)
none_sat (f ∷ fs) a h = All-cons (λ g. WSat g a → ⊥) f fs ((WSat-Not f a).0 h.0) (none_sat fs a h.1)

pub law-or_list : (next : ℕ) (fs : List Formula) (a : Assignment) → IsFinite a → WSat (or_list next fs) a ↔ SomeSat a fs
law-or_list next fs a finite = (
  (λ h. some_sat fs a finite (λ nots. (WSat-Not (and_list next (map Not fs)) a).0 h ((WSat-and_list a next (map Not fs)).1 nots))),
  (λ h.
      (WSat-Not (and_list next (map Not fs)) a).1 (λ all.
      let nots = none_sat fs a ((WSat-and_list a next (map Not fs)).0 all) in
      subst (λ f. WSat f a → ⊥) h.1.2 (nots h.1.0 h.0 h.1.1) h.2)),
)

-- ---- sets

pub law-empty : (next x : ℕ) (a : Assignment) → x < next → WSat (empty_at next x) a ↔ ((p : Position) → a x p ≡ false)
law-empty next x a below =
    let none = WSat-empty a next x below in (
      (λ h p. same_truth (a x p) false ((λ inside. absurd (none.0 h p inside)), (λ e. absurd (false≢true e)))),
      (λ h. none.1 (λ p inside. false≢true (sym (h p) ∙ inside))),
    )

pub law-equal : (x y : ℕ) (a : Assignment) → WSat (equal x y) a ↔ ((p : Position) → a x p ≡ a y p)
law-equal x y a =
    let same = WSat-equal a x y in (
      (λ h p. same_truth (a x p) (a y p) (same.0 h p)),
      (λ h. same.1 (λ p. ((λ i. subst (λ b. IsTrue b) (h p) i), (λ i. subst (λ b. IsTrue b) (sym (h p)) i)))),
    )

pub law-member : (x y : ℕ) (a : Assignment) (u : Position) → IsOnly (a x) u → WSat (Sub (track x) (track y)) a ↔ IsTrue (a y u)
law-member x y a u only = (
  (λ h. (WSat-Sub (track x) (track y) a).0 h u (IsOnly-inside (a x) u only)),
  (λ h. (WSat-Sub (track x) (track y) a).1 (λ p inside. subst (λ q. IsTrue (a y q)) (sym ((only p).0 inside)) h)),
)
