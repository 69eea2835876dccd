-- What is known of sites that are decided in order.
use Rattle.std.proofs.Common.{◌≡◌, ◌⊎◌, inl, inr, ◌+◌, ◌<◌, ◌≤◌, ℕ, true, nat_eq, List, Option, Some, Result, Ok, refl, sym, ap, ◌∙◌, subst, arith}
use Rattle.std.proofs.lemmas.Bool.{cases_lt, false≢true}
use Rattle.std.proofs.lemmas.Bool.Decides.{nat_tests}
use Rattle.std.proofs.lemmas.Option.{same_Some}
use Rattle.bdd_nodes.specs.Shelf.{Contents, limit_of}
use Rattle.gta_theory.specs.Assignments.{Assignment, Covers}
use Rattle.gta_theory.specs.Guides.{Spaces}
use Rattle.gta_theory.specs.Weights.{weight}
use Rattle.gta_witness.specs.Lightest.{each_once}
use Rattle.ws2s_core.specs.declared.track.Track.{Track}
use Rattle.ws2s_core.specs.declared.formula.Formula.{Formula}
use Rattle.ws2s_core.specs.Satisfaction.{WSat}
use Rattle.ws2s_theory.specs.Peaks.{HasPeak}
use Rattle.ws2s_decide.specs.declared.decider.Decider.{Decider}
use Rattle.ws2s_decide.specs.declared.verdict.Verdict.{Verdict}
use Rattle.ws2s_decide.specs.declared.verdict.Verdict.TheVariants as verdict
use Rattle.ws2s_decide.specs.Deciding.{IsVerdict, guide_of, HasKept}
use Rattle.routing_walks.proofs.GatheringLemmas.{below_suc}
use Rattle.triple_judge.specs.declared.searching.Found.{Found}
use Rattle.triple_judge.specs.declared.searching.Searched.{Searched}
use Rattle.triple_judge.specs.declared.searching.Searched.TheVariants as searched
use Rattle.triple_judge.specs.Judging.{ArePeaksWithin}
use Rattle.triple_judge.specs.Searching.{IsNowhere, IsLightestOf, IsVerdictAt, IsLightest, IsSearched, is_settled}

weightless : (w : ℕ) → nat_eq w 0 ≡ true → w ≡ 0
weightless w e = grind (arith, nat_tests)

module _ (formulas : ℕ → Option Formula) (tracks : List Track) where
  -- ---- verdicts on one site

  -- a verdict on the formula of the site is one on the site
  pub verdict-of : (site : ℕ) (f : Formula) (v : Verdict) → formulas site ≡ Some f → IsVerdict tracks f v → IsVerdictAt formulas tracks site v
  verdict-of site f verdict.None there none =
      λ g at. subst (λ (h : Formula). IsVerdict tracks h verdict.None) (same_Some f g (sym there ∙ at)) none
  verdict-of site f (verdict.Witness nodes w) there model = record { formula = f; there = there; model = model }
  verdict-of site f verdict.TooLarge there any = tt
  verdict-of site f verdict.Limit there any = tt

  -- a tree of its own site is no lighter
  own-least : (found : Found) → IsLightestOf formulas tracks found → (site : ℕ) (f : Formula) (depth : ℕ) (a : Assignment) → site ≡ found.site →
      formulas site ≡ Some f → Covers depth a → WSat f a → found.weight ≤ weight (each_once tracks) depth a
  own-least found own site f depth a same at covers sat =
      let is : own.formula ≡ f = same_Some own.formula f (sym own.there ∙ sym (ap formulas same) ∙ at) in
      own.model.least depth a covers (subst (λ (g : Formula). WSat g a) (sym is) sat)

  -- ---- one site more

  pub nothing-yet : IsSearched formulas tracks 0 searched.Nothing
  nothing-yet site below = absurd (omega (arith, below))

  -- nothing satisfies the formula of the next site
  pub nothing-more : (n : ℕ) (s : Searched) → IsSearched formulas tracks n s → IsNowhere formulas n → IsSearched formulas tracks (n + 1) s
  nothing-more n searched.Nothing before none =
      λ site below. elim (below_suc site n below) [
        | inl less ↦ before site less
        | inr same ↦ subst (IsNowhere formulas) (sym same) none
      ]
  nothing-more n (searched.Lightest found) before none = record {
    own = before.own;
    inside = omega (arith, before.inside);
    least = λ site f depth a below at covers sat. elim (below_suc site n below) [
      | inl less ↦ before.least site f depth a less at covers sat
      | inr same ↦ absurd (none f (subst (λ (k : ℕ). formulas k ≡ Some f) same at) depth a covers sat)
    ];
    first = before.first;
  }
  nothing-more n searched.TooLarge before none = tt
  nothing-more n searched.Limit before none = tt

  -- a tree of the next site, where there was none
  pub first-found : (found : Found) → IsSearched formulas tracks found.site searched.Nothing → IsLightestOf formulas tracks found →
      IsLightest formulas tracks (found.site + 1) found
  first-found found none own = record {
    own = own;
    inside = omega arith;
    least = λ site f depth a below at covers sat. elim (below_suc site found.site below) [
      | inl less ↦ absurd (none site less f at depth a covers sat)
      | inr same ↦ own-least found own site f depth a same at covers sat
    ];
    first = λ site f depth a below at covers sat. absurd (none site below f at depth a covers sat);
  }

  lighter-found : (best found : Found) → IsLightest formulas tracks found.site best → IsLightestOf formulas tracks found → found.weight < best.weight →
      IsLightest formulas tracks (found.site + 1) found
  lighter-found best found before own lighter = record {
    own = own;
    inside = omega arith;
    least = λ site f depth a below at covers sat. elim (below_suc site found.site below) [
      | inl less ↦ (let no_less = before.least site f depth a less at covers sat in omega (arith, no_less, lighter))
      | inr same ↦ own-least found own site f depth a same at covers sat
    ];
    first = λ site f depth a below at covers sat. let no_less = before.least site f depth a below at covers sat in omega (arith, no_less, lighter);
  }

  earlier-stays : (best found : Found) → IsLightest formulas tracks found.site best → IsLightestOf formulas tracks found → best.weight ≤ found.weight →
      IsLightest formulas tracks (found.site + 1) best
  earlier-stays best found before own as_light = record {
    own = before.own;
    inside = omega (arith, before.inside);
    least = λ site f depth a below at covers sat. elim (below_suc site found.site below) [
      | inl less ↦ before.least site f depth a less at covers sat
      | inr same ↦ (let no_less = own-least found own site f depth a same at covers sat in omega (arith, no_less, as_light))
    ];
    first = before.first;
  }

  -- a tree of the next site, where there was one: the lighter of both, or the earlier one
  pub lighter-stays : (best found lighter : Found) → IsLightest formulas tracks found.site best → IsLightestOf formulas tracks found →
      (found.weight < best.weight → lighter ≡ found) → (best.weight ≤ found.weight → lighter ≡ best) → IsLightest formulas tracks (found.site + 1) lighter
  lighter-stays best found lighter before own later earlier = elim (cases_lt found.weight best.weight) [
    | inl less ↦ subst (λ (x : Found). IsLightest formulas tracks (found.site + 1) x) (sym (later less)) (lighter-found best found before own less)
    | inr more ↦ subst (λ (x : Found). IsLightest formulas tracks (found.site + 1) x) (sym (earlier more)) (earlier-stays best found before own more)
  ]

  -- what is settled stays so
  pub settled : (n m : ℕ) (s : Searched) → IsSearched formulas tracks n s → is_settled s ≡ true → n ≤ m → IsSearched formulas tracks m s
  settled n m searched.Nothing before e enough = absurd (false≢true e)
  settled n m (searched.Lightest found) before e enough =
      let zero_weight = weightless found.weight e in
      record {
        own = before.own;
        inside = omega (arith, before.inside, enough);
        least = λ site f depth a below at covers sat. omega (arith, zero_weight);
        first = before.first;
      }
  settled n m searched.TooLarge before e enough = tt
  settled n m searched.Limit before e enough = tt

-- ---- the loop

-- the first sites are decided, by the decider and on the shelf that were handed in; a limit is licensed by a Peak
pub record GoesOn (formulas : ℕ → Option Formula) (tracks : List Track) (first_shelf : Contents) (first : Decider) (n : ℕ) (s : Searched)
    (shelf : Contents) (decider : Decider) : Type 0 where
  pub known : IsSearched formulas tracks n s
  pub at_limit : s ≡ searched.Limit → (p : ℕ) → ArePeaksWithin (guide_of first) formulas p → limit_of first_shelf < p
  pub kept : HasKept shelf decider
  pub guide : guide_of decider ≡ guide_of first
  pub same_limit : limit_of shelf ≡ limit_of first_shelf

not-limit : {X : Type 0} → searched.Nothing ≡ searched.Limit → X
not-limit e = absurd (cc)

pub going-start : (formulas : ℕ → Option Formula) (tracks : List Track) (shelf : Contents) (decider : Decider) → HasKept shelf decider →
    GoesOn formulas tracks shelf decider 0 searched.Nothing shelf decider
going-start formulas tracks shelf decider kept = record {
  known = nothing-yet formulas tracks;
  at_limit = λ e. not-limit e;
  kept = kept;
  guide = refl;
  same_limit = refl;
}

pub going-next : (formulas : ℕ → Option Formula) (tracks : List Track) (first_shelf : Contents) (first : Decider) (n : ℕ) (s after : Searched)
    (v : Verdict) (shelf new_shelf : Contents) (decider new_decider : Decider) → GoesOn formulas tracks first_shelf first n s shelf decider →
    IsVerdictAt formulas tracks n v →
    (v ≡ verdict.Limit → (p : ℕ) → ArePeaksWithin (guide_of decider) formulas p → limit_of shelf < p) →
    (IsSearched formulas tracks n s → IsVerdictAt formulas tracks n v → IsSearched formulas tracks (n + 1) after) →
    (after ≡ searched.Limit → (s ≡ searched.Limit) ⊎ (v ≡ verdict.Limit)) →
    HasKept new_shelf new_decider → guide_of new_decider ≡ guide_of decider → limit_of new_shelf ≡ limit_of shelf →
    GoesOn formulas tracks first_shelf first (n + 1) after new_shelf new_decider
going-next formulas tracks first_shelf first n s after v shelf new_shelf decider new_decider before told licensed more why kept guide same_limit =
    record {
      known = more before.known told;
      at_limit = λ is p peaks. elim (why is) [
        | inl earlier ↦ before.at_limit earlier p peaks
        | inr now ↦ subst (λ (m : ℕ). m < p) before.same_limit (licensed now p (subst (λ (g : Spaces). ArePeaksWithin g formulas p) (sym before.guide) peaks))
      ];
      kept = kept;
      guide = guide ∙ before.guide;
      same_limit = same_limit ∙ before.same_limit;
    }

pub Ok-same : {A E : Type 0} (a b : A) → ◌≡◌ {A = Result A E} (Ok a) (Ok b) → a ≡ b
Ok-same a b e = cc

-- ---- Peaks

-- where each Peak of the site's formula is above a number, so is each number that the Peaks of all are within
pub above-peaks : (formulas : ℕ → Option Formula) (g : Spaces) (site : ℕ) (f : Formula) (n p : ℕ) → formulas site ≡ Some f →
    ((q : ℕ) → HasPeak g f q → n < q) → ArePeaksWithin g formulas p → n < p
above-peaks formulas g site f n p there above peaks =
    let (q, peak, most) = peaks site f there in
    let less = above q peak in
    omega (arith, less, most)
