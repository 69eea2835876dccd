-- On the Peak: by cases on the formula; it exists, and is one number.
use Rattle.std.proofs.Common.{◌≡◌, ℕ, ◌+◌, max, ◌↔◌, refl, sym, ap, ◌∙◌}
use mathlib.Core.Path.{transport}
use Rattle.gta_theory.specs.Guides.{Spaces, IsGuide}
use Rattle.ws2s_core.specs.declared.track.Track.{Track}
use Rattle.ws2s_core.specs.declared.formula.Formula.{Formula, roll-Formula}
use Rattle.ws2s_core.specs.declared.formula.Formula.TheVariants.{Sub, Single, Succ0, Succ1, Root, And, Not, Ex2, rolls-Sub}
use Rattle.ws2s_core.specs.declared.formula.Formula.TheVariants.{rolls-Single, rolls-Succ0, rolls-Succ1, rolls-Root, rolls-And}
use Rattle.ws2s_core.specs.declared.formula.Formula.TheVariants.{rolls-Not, rolls-Ex2}
use Rattle.ws2s_core.specs.declared.formula.Formula.TheOpen.{Formula-F}
use Rattle.ws2s_core.specs.declared.formula.Formula.TheFolds.{rec-roll-Formula, map-Formula}
use Rattle.ws2s_core.proofs.FormulaLemmas.{formula-induction}
use Rattle.ws2s_theory.specs.Peaks.{HasMinimalSize, IsPeakOfAnd, IsPeakOfEx2, HasPeakNode, HasPeak}
use Rattle.ws2s_theory.proofs.SizesLemmas.{HasMinimalSize-exists, HasProductSize-exists, HasSubsetSize-exists}
use Rattle.ws2s_theory.proofs.SizesLemmas.{HasMinimalSize-unique, HasProductSize-unique, HasSubsetSize-unique}

module _ (g : Spaces) where
  natural : (Part : Type 0) (whole : Part → Formula) (peak : Formula → ℕ → Type 0) (x : Formula-F Part) →
      HasPeakNode g Part whole (λ p. peak (whole p)) x ≡ HasPeakNode g Formula (λ f. f) peak (map-Formula Part Formula whole x)
  natural Part whole peak (Formula-F.Sub x y) = refl
  natural Part whole peak (Formula-F.Single x) = refl
  natural Part whole peak (Formula-F.Succ0 x y) = refl
  natural Part whole peak (Formula-F.Succ1 x y) = refl
  natural Part whole peak (Formula-F.Root x) = refl
  natural Part whole peak (Formula-F.And f h) = refl
  natural Part whole peak (Formula-F.Not f) = refl
  natural Part whole peak (Formula-F.Ex2 t f) = refl

  HasPeak-roll : (x : Formula-F Formula) → HasPeak g (roll-Formula x) ≡ HasPeakNode g Formula (λ f. f) (HasPeak g) x
  HasPeak-roll = rec-roll-Formula (ℕ → Type 0) (HasPeakNode g) natural

  -- a path between two claims of numbers, both ways
  both_ways : {P Q : ℕ → Type 0} → P ≡ Q → (n : ℕ) → P n ↔ Q n
  both_ways e n = (transport (λ i. e i n), transport (λ i. sym e i n))

  at_form : (f : Formula) (x : Formula-F Formula) → roll-Formula x ≡ f → (n : ℕ) → HasPeak g f n ↔ HasPeakNode g Formula (λ h. h) (HasPeak g) x n
  at_form f x e = both_ways (ap (HasPeak g) (sym e) ∙ HasPeak-roll x)

  pub HasPeak-Sub : (x y : Track) (n : ℕ) → HasPeak g (Sub x y) n ↔ HasMinimalSize g (Sub x y) n
  HasPeak-Sub x y = at_form (Sub x y) (Formula-F.Sub x y) (rolls-Sub x y)

  pub HasPeak-Single : (x : Track) (n : ℕ) → HasPeak g (Single x) n ↔ HasMinimalSize g (Single x) n
  HasPeak-Single x = at_form (Single x) (Formula-F.Single x) (rolls-Single x)

  pub HasPeak-Succ0 : (x y : Track) (n : ℕ) → HasPeak g (Succ0 x y) n ↔ HasMinimalSize g (Succ0 x y) n
  HasPeak-Succ0 x y = at_form (Succ0 x y) (Formula-F.Succ0 x y) (rolls-Succ0 x y)

  pub HasPeak-Succ1 : (x y : Track) (n : ℕ) → HasPeak g (Succ1 x y) n ↔ HasMinimalSize g (Succ1 x y) n
  HasPeak-Succ1 x y = at_form (Succ1 x y) (Formula-F.Succ1 x y) (rolls-Succ1 x y)

  pub HasPeak-Root : (x : Track) (n : ℕ) → HasPeak g (Root x) n ↔ HasMinimalSize g (Root x) n
  HasPeak-Root x = at_form (Root x) (Formula-F.Root x) (rolls-Root x)

  pub HasPeak-And : (f h : Formula) (n : ℕ) → HasPeak g (And f h) n ↔ IsPeakOfAnd g f h (HasPeak g f) (HasPeak g h) n
  HasPeak-And f h = at_form (And f h) (Formula-F.And f h) (rolls-And f h)

  pub HasPeak-Not : (f : Formula) (n : ℕ) → HasPeak g (Not f) n ↔ HasPeak g f n
  HasPeak-Not f = at_form (Not f) (Formula-F.Not f) (rolls-Not f)

  pub HasPeak-Ex2 : (t : Track) (f : Formula) (n : ℕ) → HasPeak g (Ex2 t f) n ↔ IsPeakOfEx2 g t f (HasPeak g f) n
  HasPeak-Ex2 t f = at_form (Ex2 t f) (Formula-F.Ex2 t f) (rolls-Ex2 t f)

  module _ (guide : IsGuide g) where
    -- a form that has its minimal automaton's Size as its peak
    peak-of_atom : (f : Formula) → ((n : ℕ) → HasPeak g f n ↔ HasMinimalSize g f n) → (n : ℕ) × HasPeak g f n
    peak-of_atom f cases = let size = HasMinimalSize-exists g guide f in (size.0, (cases size.0).1 size.1)

    abbrev HasOnePeak : Formula → Type 0
    HasOnePeak f = (n m : ℕ) → HasPeak g f n → HasPeak g f m → n ≡ m

    one-of_atom : (f : Formula) → ((n : ℕ) → HasPeak g f n ↔ HasMinimalSize g f n) → HasOnePeak f
    one-of_atom f cases n m one other = HasMinimalSize-unique g guide f n m ((cases n).0 one) ((cases m).0 other)

    peak-of_And : (f h : Formula) → (n : ℕ) × HasPeak g f n → (n : ℕ) × HasPeak g h n → (n : ℕ) × HasPeak g (And f h) n
    peak-of_And f h of_f of_h =
        let first = HasMinimalSize-exists g guide f in
        let second = HasMinimalSize-exists g guide h in
        let product = HasProductSize-exists g guide f h in
        let result = HasMinimalSize-exists g guide (And f h) in
        let n : ℕ = max of_f.0 (max (first.0 + of_h.0) (first.0 + second.0 + product.0 + result.0)) in (
          n,
          (HasPeak-And f h n).1 (record {
            peak_first = of_f.0;
            peak_second = of_h.0;
            size_first = first.0;
            size_second = second.0;
            size_product = product.0;
            size_result = result.0;
            of_peak_first = of_f.1;
            of_peak_second = of_h.1;
            of_first = first.1;
            of_second = second.1;
            of_product = product.1;
            of_result = result.1;
            is_greatest = refl;
          }),
        )

    one-of_And : (f h : Formula) → HasOnePeak f → HasOnePeak h → HasOnePeak (And f h)
    one-of_And f h of_f of_h n m one other =
        let x = (HasPeak-And f h n).0 one in
        let y = (HasPeak-And f h m).0 other in
        let peaks_f = of_f x.peak_first y.peak_first x.of_peak_first y.of_peak_first in
        let peaks_h = of_h x.peak_second y.peak_second x.of_peak_second y.of_peak_second in
        let first = HasMinimalSize-unique g guide f x.size_first y.size_first x.of_first y.of_first in
        let second = HasMinimalSize-unique g guide h x.size_second y.size_second x.of_second y.of_second in
        let product = HasProductSize-unique g guide f h x.size_product y.size_product x.of_product y.of_product in
        let result = HasMinimalSize-unique g guide (And f h) x.size_result y.size_result x.of_result y.of_result in
        sym x.is_greatest
        ∙ (λ i. max (peaks_f i) (max (first i + peaks_h i) (first i + second i + product i + result i)))
        ∙ y.is_greatest

    peak-of_Ex2 : (t : Track) (f : Formula) → (n : ℕ) × HasPeak g f n → (n : ℕ) × HasPeak g (Ex2 t f) n
    peak-of_Ex2 t f of_f =
        let part = HasMinimalSize-exists g guide f in
        let subset = HasSubsetSize-exists g guide t f in
        let result = HasMinimalSize-exists g guide (Ex2 t f) in
        let n : ℕ = max of_f.0 (part.0 + subset.0 + result.0) in (
          n,
          (HasPeak-Ex2 t f n).1 (record {
            peak_part = of_f.0;
            size_part = part.0;
            size_subset = subset.0;
            size_result = result.0;
            of_peak_part = of_f.1;
            of_part = part.1;
            of_subset = subset.1;
            of_result = result.1;
            is_greatest = refl;
          }),
        )

    one-of_Ex2 : (t : Track) (f : Formula) → HasOnePeak f → HasOnePeak (Ex2 t f)
    one-of_Ex2 t f of_f n m one other =
        let x = (HasPeak-Ex2 t f n).0 one in
        let y = (HasPeak-Ex2 t f m).0 other in
        let peaks = of_f x.peak_part y.peak_part x.of_peak_part y.of_peak_part in
        let part = HasMinimalSize-unique g guide f x.size_part y.size_part x.of_part y.of_part in
        let subset = HasSubsetSize-unique g guide t f x.size_subset y.size_subset x.of_subset y.of_subset in
        let result = HasMinimalSize-unique g guide (Ex2 t f) x.size_result y.size_result x.of_result y.of_result in
        sym x.is_greatest ∙ (λ i. max (peaks i) (part i + subset i + result i)) ∙ y.is_greatest

    pub HasPeak-exists : (f : Formula) → (n : ℕ) × HasPeak g f n
    HasPeak-exists = formula-induction (λ f. (n : ℕ) × HasPeak g f n) (record {
      of_Sub = λ x y. peak-of_atom (Sub x y) (HasPeak-Sub x y);
      of_Single = λ x. peak-of_atom (Single x) (HasPeak-Single x);
      of_Succ0 = λ x y. peak-of_atom (Succ0 x y) (HasPeak-Succ0 x y);
      of_Succ1 = λ x y. peak-of_atom (Succ1 x y) (HasPeak-Succ1 x y);
      of_Root = λ x. peak-of_atom (Root x) (HasPeak-Root x);
      of_And = peak-of_And;
      of_Not = λ f of_f. (of_f.0, (HasPeak-Not f of_f.0).1 of_f.1);
      of_Ex2 = peak-of_Ex2;
    })

    pub HasPeak-unique : (f : Formula) (n m : ℕ) → HasPeak g f n → HasPeak g f m → n ≡ m
    HasPeak-unique = formula-induction HasOnePeak (record {
      of_Sub = λ x y. one-of_atom (Sub x y) (HasPeak-Sub x y);
      of_Single = λ x. one-of_atom (Single x) (HasPeak-Single x);
      of_Succ0 = λ x y. one-of_atom (Succ0 x y) (HasPeak-Succ0 x y);
      of_Succ1 = λ x y. one-of_atom (Succ1 x y) (HasPeak-Succ1 x y);
      of_Root = λ x. one-of_atom (Root x) (HasPeak-Root x);
      of_And = one-of_And;
      of_Not = λ f of_f n m one other. of_f n m ((HasPeak-Not f n).0 one) ((HasPeak-Not f m).0 other);
      of_Ex2 = one-of_Ex2;
    })
