-- A triple has a Peak, and one alone.
use Rattle.std.proofs.Common.{◌≡◌, ◌≤◌, ◌<◌, ◌+◌, ℕ, zero, suc, inl, inr, max, List, length, slice_get, Option, Some, None, refl, sym, ap, ◌∙◌, subst, arith}
use Rattle.std.specs.Prelude.{option_map}
use Rattle.std.proofs.lemmas.Option.{same_Some, slice_get_within}
use Rattle.gta_theory.specs.Guides.{Spaces, IsGuide}
use Rattle.ws2s_core.specs.declared.formula.Formula.{Formula}
use Rattle.ws2s_theory.specs.Peaks.{HasPeak}
use Rattle.ws2s_theory.proofs.PeaksLemmas.{HasPeak-exists, HasPeak-unique}
use Rattle.store_core.specs.Tables.{TypeEntry, VarEntry}
use Rattle.store_exec.specs.declared.triple.Triple.{Triple}
use Rattle.tree_encode.specs.Spaces.{guide_of}
use Rattle.tree_encode.proofs.SpacesLemmas.{IsGuide-guide_of}
use Rattle.routing_walks.proofs.GatheringLemmas.{below_suc}
use Rattle.site_list.specs.States.{Check}
use Rattle.site_list.specs.Triples.{walked, site_formula_at, first_bound, site_formula}
use Rattle.triple_judge.specs.Spares.{spares_of}
use Rattle.triple_judge.specs.Judging.{ArePeaksWithin, HasTriplePeak}

module _ (g : Spaces) (guide : IsGuide g) (formulas : ℕ → Option Formula) where
  -- the number is the greatest Peak of the formulas before n
  record IsGreatest (n p : ℕ) : Type 0 where
    each : (site : ℕ) (f : Formula) → site < n → formulas site ≡ Some f → (q : ℕ) × HasPeak g f q × (q ≤ p)
    least : (m : ℕ) → ((site : ℕ) (f : Formula) → site < n → formulas site ≡ Some f → (q : ℕ) × HasPeak g f q × (q ≤ m)) → p ≤ m

  one-more : (n p : ℕ) → IsGreatest n p → (o : Option Formula) → formulas n ≡ o → (r : ℕ) × IsGreatest (n + 1) r
  one-more n p before None at = (
    p,
    record {
      each = λ site f below there. elim (below_suc site n below) [
        | inl less ↦ before.each site f less there
        | inr same ↦ (let none : Some f ≡ None = sym there ∙ ap formulas same ∙ at in absurd (cc))
      ];
      least = λ m within. before.least m (λ site f below there. within site f (omega (arith, below)) there);
    },
  )
  one-more n p before (Some h) at =
      let (q, peak) = HasPeak-exists g guide h in (
        max p q,
        record {
          each = λ site f below there. elim (below_suc site n below) [
            | inl less ↦ (let (r, own, most) = before.each site f less there in (r, own, omega (arith, most)))
            | inr same ↦ (let is : h ≡ f = same_Some h f (sym at ∙ sym (ap formulas same) ∙ there) in
                (q, subst (λ (x : Formula). HasPeak g x q) is peak, omega arith))
          ];
          least = λ m within.
              let others = before.least m (λ site f below there. within site f (omega (arith, below)) there) in
              let (r, own, most) = within n h (omega arith) at in
              let same : r ≡ q = HasPeak-unique g guide h r q own peak in
              omega (arith, others, most, same);
        },
      )

  greatest : (n : ℕ) → (p : ℕ) × IsGreatest n p
  greatest zero = (0, record { each = λ site f below there. absurd (omega (arith, below)); least = λ m within. omega arith })
  greatest (suc n) =
      let (p, before) = greatest n in
      let (r, more) = one-more n p before (formulas n) refl in
      let e : n + 1 ≡ suc n = omega arith in
      (r, subst (λ (k : ℕ). IsGreatest k r) e more)

  -- where there are no formulas from n on, it is the greatest of all
  pub all-peaks : (n : ℕ) → ((site : ℕ) (f : Formula) → formulas site ≡ Some f → site < n) →
      (p : ℕ) × ArePeaksWithin g formulas p × ((m : ℕ) → ArePeaksWithin g formulas m → p ≤ m)
  all-peaks n inside =
      let (p, is) = greatest n in
      (p, (λ site f there. is.each site f (inside site f there) there), λ m within. is.least m (λ site f below there. within site f there))

inside-checks : (types : List TypeEntry) (vars : List VarEntry) (t : Triple) (site : ℕ) (f : Formula) → site_formula types vars t site ≡ Some f →
    site < length (walked types vars t).checks
inside-checks types vars t site f there = by (slice_get (walked types vars t).checks site) refl there
  where
    by : (o : Option Check) → slice_get (walked types vars t).checks site ≡ o →
        option_map (site_formula_at types vars t (walked types vars t) (first_bound types vars (walked types vars t))) o ≡ Some f →
        site < length (walked types vars t).checks
    by None at e = absurd (cc)
    by (Some c) at e = slice_get_within (walked types vars t).checks site c at

pub has-peak : (types : List TypeEntry) (vars : List VarEntry) (t : Triple) → (p : ℕ) × HasTriplePeak types vars t p
has-peak types vars t =
    let g = guide_of types vars (spares_of t) in
    let (p, each, least) = all-peaks g (IsGuide-guide_of types vars (spares_of t)) (site_formula types vars t) (length (walked types vars t).checks)
    (inside-checks types vars t) in
    (p, record { each = each; least = least })

pub one-peak : (types : List TypeEntry) (vars : List VarEntry) (t : Triple) (p q : ℕ) → HasTriplePeak types vars t p → HasTriplePeak types vars t q → p ≡ q
one-peak types vars t p q one other =
    let no_more = one.least q other.each in
    let no_less = other.least p one.each in
    omega (arith, no_more, no_less)
