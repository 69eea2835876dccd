-- The Peak of a formula: the greatest sum of Sizes of automata that are needed at once on the way from its atoms to its
-- minimal automaton.
use Rattle.std.specs.Prelude.{◌≡◌, ℕ, ◌+◌, max, Bool, IsTrue}
use Rattle.gta_theory.specs.Guides.{Spaces}
use Rattle.gta_theory.specs.Automata.{Automaton, Has}
use Rattle.gta_theory.specs.Constructions.{IsProduct, IsSubset}
use Rattle.gta_theory.specs.Sizes.{SizeOf}
use Rattle.ws2s_core.specs.declared.track.Track.{Track}
use Rattle.ws2s_core.specs.declared.formula.Formula.{Formula}
use Rattle.ws2s_core.specs.declared.formula.Formula.TheVariants.{Sub, Single, Succ0, Succ1, Root, And, Ex2}
use Rattle.ws2s_core.specs.declared.formula.Formula.TheOpen.{Formula-F}
use Rattle.ws2s_core.specs.declared.formula.Formula.TheFolds.{rec-Formula}
use Rattle.ws2s_core.specs.Recognising.{IsMinimalOf}

-- a minimal automaton of the formula has that Size
pub record HasMinimalSize (g : Spaces) (f : Formula) (n : ℕ) : Type 0 where
  pub automaton : Automaton ℕ
  pub states : ℕ → ℕ → Bool
  pub is_minimal : IsMinimalOf g automaton (Has states) f
  pub is_size : SizeOf g automaton (Has states) n

-- a product of minimal automata of the two formulas has that Size
pub record HasProductSize (g : Spaces) (f h : Formula) (n : ℕ) : Type 0 where
  pub first : Automaton ℕ
  pub second : Automaton ℕ
  pub product : Automaton ℕ
  pub states_first : ℕ → ℕ → Bool
  pub states_second : ℕ → ℕ → Bool
  pub states : ℕ → ℕ → Bool
  pub pair : ℕ → ℕ → ℕ × ℕ
  pub of_first : IsMinimalOf g first (Has states_first) f
  pub of_second : IsMinimalOf g second (Has states_second) h
  pub is_product : IsProduct g first second product (Has states) pair
  pub is_size : SizeOf g product (Has states) n

-- a subset automaton, with the track t dropped, of a minimal automaton of the formula has that Size
pub record HasSubsetSize (g : Spaces) (t : Track) (f : Formula) (n : ℕ) : Type 0 where
  pub automaton : Automaton ℕ
  pub subset : Automaton ℕ
  pub states_automaton : ℕ → ℕ → Bool
  pub states : ℕ → ℕ → Bool
  pub member : ℕ → ℕ → ℕ → Bool
  pub of_automaton : IsMinimalOf g automaton (Has states_automaton) f
  pub is_subset : IsSubset g automaton t.0 subset (Has states) (λ s x q. IsTrue (member s x q))
  pub is_size : SizeOf g subset (Has states) n

-- the peak of a conjunction, by the peaks of its parts: that of the first; the Size of the first beside the peak of the
-- second; or the Sizes of both, of their product and of the result, whichever is greatest
pub record IsPeakOfAnd (g : Spaces) (f h : Formula) (PeakFirst PeakSecond : ℕ → Type 0) (n : ℕ) : Type 0 where
  pub peak_first : ℕ
  pub peak_second : ℕ
  pub size_first : ℕ
  pub size_second : ℕ
  pub size_product : ℕ
  pub size_result : ℕ
  pub of_peak_first : PeakFirst peak_first
  pub of_peak_second : PeakSecond peak_second
  pub of_first : HasMinimalSize g f size_first
  pub of_second : HasMinimalSize g h size_second
  pub of_product : HasProductSize g f h size_product
  pub of_result : HasMinimalSize g (And f h) size_result
  pub is_greatest :
      max peak_first (max (size_first + peak_second) (size_first + size_second + size_product + size_result)) ≡ n

-- the peak of a quantified formula, by the peak of its part: that peak, or the Sizes of the part, of its subset
-- automaton and of the result
pub record IsPeakOfEx2 (g : Spaces) (t : Track) (f : Formula) (PeakPart : ℕ → Type 0) (n : ℕ) : Type 0 where
  pub peak_part : ℕ
  pub size_part : ℕ
  pub size_subset : ℕ
  pub size_result : ℕ
  pub of_peak_part : PeakPart peak_part
  pub of_part : HasMinimalSize g f size_part
  pub of_subset : HasSubsetSize g t f size_subset
  pub of_result : HasMinimalSize g (Ex2 t f) size_result
  pub is_greatest : max peak_part (size_part + size_subset + size_result) ≡ n

-- the peak of one form, by those of its parts
abbrev pub HasPeakNode : Spaces → (Part : Type 0) → (Part → Formula) → (Part → ℕ → Type 0) → Formula-F Part → ℕ → Type 0
HasPeakNode g Part whole peak (Formula-F.Sub x y) n = HasMinimalSize g (Sub x y) n
HasPeakNode g Part whole peak (Formula-F.Single x) n = HasMinimalSize g (Single x) n
HasPeakNode g Part whole peak (Formula-F.Succ0 x y) n = HasMinimalSize g (Succ0 x y) n
HasPeakNode g Part whole peak (Formula-F.Succ1 x y) n = HasMinimalSize g (Succ1 x y) n
HasPeakNode g Part whole peak (Formula-F.Root x) n = HasMinimalSize g (Root x) n
HasPeakNode g Part whole peak (Formula-F.And f h) n = IsPeakOfAnd g (whole f) (whole h) (peak f) (peak h) n
HasPeakNode g Part whole peak (Formula-F.Not f) n = peak f n
HasPeakNode g Part whole peak (Formula-F.Ex2 t f) n = IsPeakOfEx2 g t (whole f) (peak f) n

-- the number is the formula's peak under the guide
abbrev pub HasPeak : Spaces → Formula → ℕ → Type 0
HasPeak g = rec-Formula (ℕ → Type 0) (HasPeakNode g)
