-- On formulas with their tracks renamed in order: their Sizes and Peaks are the same.
use Rattle.std.proofs.Common.{◌≡◌, ℕ, IsTrue, ◌↔◌, sym, subst}
use Rattle.gta_theory.specs.Guides.{Spaces, IsGuide}
use Rattle.gta_theory.specs.Automata.{Automaton, Has}
use Rattle.gta_theory.specs.Renamed.{IsIncreasing, renamed_tracks}
use Rattle.gta_theory.proofs.RenamedLemmas.{IsIncreasing-injective, IsStable-renamed, Accepts-renamed, IsMinimal-renamed}
use Rattle.gta_theory.proofs.RenamedLemmas.{IsProduct-renamed, IsSubset-renamed, SizeOf-renamed}
use Rattle.ws2s_core.specs.declared.track.Track.{Track}
use Rattle.ws2s_core.specs.declared.formula.Formula.{Formula}
use Rattle.ws2s_core.specs.declared.formula.Formula.TheVariants.{Sub, Single, Succ0, Succ1, Root, And, Not, Ex2}
use Rattle.ws2s_core.specs.Recognising.{IsMinimalOf}
use Rattle.ws2s_core.specs.Tracks.{renamed, renamed_track, renamed_node}
use Rattle.ws2s_core.proofs.FormulaLemmas.{formula-induction, fold-Sub, fold-Single, fold-Succ0, fold-Succ1, fold-Root, fold-And, fold-Not, fold-Ex2}
use Rattle.ws2s_core.proofs.TracksLemmas.{WSat-renamed}
use Rattle.ws2s_theory.specs.Peaks.{HasMinimalSize, HasProductSize, HasSubsetSize, HasPeak}
use Rattle.ws2s_theory.proofs.PeaksLemmas.{HasPeak-Sub, HasPeak-Single, HasPeak-Succ0, HasPeak-Succ1, HasPeak-Root, HasPeak-And}
use Rattle.ws2s_theory.proofs.PeaksLemmas.{HasPeak-Not, HasPeak-Ex2, HasPeak-exists, HasPeak-unique}
use Rattle.ws2s_theory.proofs.SizesLemmas.{HasMinimalSize-exists, HasMinimalSize-unique, HasProductSize-exists, HasProductSize-unique}
use Rattle.ws2s_theory.proofs.SizesLemmas.{HasSubsetSize-exists, HasSubsetSize-unique}

-- what goes along one way goes both ways, where the numbers exist and are unique
both : (P Q : ℕ → Type 0) → ((n : ℕ) → P n → Q n) → (n : ℕ) × P n → ((n m : ℕ) → Q n → Q m → n ≡ m) → (n : ℕ) → P n ↔ Q n
both P Q along known unique n = (along n, λ q. subst P (unique known.0 n (along known.0 known.1) q) known.1)

module _ (g : Spaces) (guide : IsGuide g) (r : ℕ → ℕ) (increasing : IsIncreasing r) where
  -- the minimal automaton looks at the tracks' new numbers
  pub IsMinimalOf-renamed : {Q : Type 0} (A : Automaton Q) (has : ℕ → Q → Type 0) (f : Formula) → IsMinimalOf g A has f →
      IsMinimalOf g (renamed_tracks r A) has (renamed r f)
  IsMinimalOf-renamed A has f of_A = record {
    minimal = IsMinimal-renamed r increasing g A has of_A.minimal;
    recognises = record {
      stable = IsStable-renamed r increasing g A (of_A.recognises).stable;
      exactly = λ n a covers.
          let accepts = Accepts-renamed r increasing g A guide (of_A.recognises).stable n a covers in
          let satisfied = (of_A.recognises).exactly n (λ t. a (r t)) (λ t. covers (r t)) in
          let names = WSat-renamed r (IsIncreasing-injective r increasing) f a in
          ((λ h. names.1 (satisfied.0 (accepts.0 h))), (λ h. accepts.1 (satisfied.1 (names.0 h))));
    };
  }

  pub HasMinimalSize-renamed : (f : Formula) (n : ℕ) → HasMinimalSize g f n → HasMinimalSize g (renamed r f) n
  HasMinimalSize-renamed f n x = record {
    automaton = renamed_tracks r x.automaton;
    states = x.states;
    is_minimal = IsMinimalOf-renamed x.automaton (Has x.states) f x.is_minimal;
    is_size = SizeOf-renamed r increasing g x.automaton (Has x.states) n x.is_size;
  }

  pub HasProductSize-renamed : (f h : Formula) (n : ℕ) → HasProductSize g f h n → HasProductSize g (renamed r f) (renamed r h) n
  HasProductSize-renamed f h n x = record {
    first = renamed_tracks r x.first;
    second = renamed_tracks r x.second;
    product = renamed_tracks r x.product;
    states_first = x.states_first;
    states_second = x.states_second;
    states = x.states;
    pair = x.pair;
    of_first = IsMinimalOf-renamed x.first (Has x.states_first) f x.of_first;
    of_second = IsMinimalOf-renamed x.second (Has x.states_second) h x.of_second;
    is_product = IsProduct-renamed r increasing g x.first x.second x.product (Has x.states) x.pair x.is_product;
    is_size = SizeOf-renamed r increasing g x.product (Has x.states) n x.is_size;
  }

  pub HasSubsetSize-renamed : (t : Track) (f : Formula) (n : ℕ) → HasSubsetSize g t f n → HasSubsetSize g (renamed_track r t) (renamed r f) n
  HasSubsetSize-renamed t f n x = record {
    automaton = renamed_tracks r x.automaton;
    subset = renamed_tracks r x.subset;
    states_automaton = x.states_automaton;
    states = x.states;
    member = x.member;
    of_automaton = IsMinimalOf-renamed x.automaton (Has x.states_automaton) f x.of_automaton;
    is_subset = IsSubset-renamed r increasing g x.automaton t.0 x.subset (Has x.states) (λ s y q. IsTrue (x.member s y q)) x.is_subset;
    is_size = SizeOf-renamed r increasing g x.subset (Has x.states) n x.is_size;
  }

  Keeps : Formula → Type 0
  Keeps f = (n : ℕ) → HasPeak g f n → HasPeak g (renamed r f) n

  -- the peak of an atom is the Size of its minimal automaton
  of-atom : (f f' : Formula) → renamed r f ≡ f' → ((n : ℕ) → HasPeak g f n ↔ HasMinimalSize g f n) →
      ((n : ℕ) → HasPeak g f' n ↔ HasMinimalSize g f' n) → Keeps f
  unfolding Keeps
  of-atom f f' is cases cases' n peak =
      subst (λ k. HasPeak g k n) (sym is)
      ((cases' n).1 (subst (λ k. HasMinimalSize g k n) is (HasMinimalSize-renamed f n ((cases n).0 peak))))

  of-And : (f h : Formula) → Keeps f → Keeps h → Keeps (And f h)
  unfolding Keeps
  of-And f h of_f of_h n peak =
      let x = (HasPeak-And g f h n).0 peak in
      let is = fold-And Formula (renamed_node r) f h in
      subst (λ k. HasPeak g k n) (sym is) ((HasPeak-And g (renamed r f) (renamed r h) n).1 (record {
        peak_first = x.peak_first;
        peak_second = x.peak_second;
        size_first = x.size_first;
        size_second = x.size_second;
        size_product = x.size_product;
        size_result = x.size_result;
        of_peak_first = of_f x.peak_first x.of_peak_first;
        of_peak_second = of_h x.peak_second x.of_peak_second;
        of_first = HasMinimalSize-renamed f x.size_first x.of_first;
        of_second = HasMinimalSize-renamed h x.size_second x.of_second;
        of_product = HasProductSize-renamed f h x.size_product x.of_product;
        of_result = subst (λ k. HasMinimalSize g k x.size_result) is (HasMinimalSize-renamed (And f h) x.size_result x.of_result);
        is_greatest = x.is_greatest;
      }))

  of-Not : (f : Formula) → Keeps f → Keeps (Not f)
  unfolding Keeps
  of-Not f of_f n peak =
      subst (λ k. HasPeak g k n) (sym (fold-Not Formula (renamed_node r) f))
      ((HasPeak-Not g (renamed r f) n).1 (of_f n ((HasPeak-Not g f n).0 peak)))

  of-Ex2 : (t : Track) (f : Formula) → Keeps f → Keeps (Ex2 t f)
  unfolding Keeps
  of-Ex2 t f of_f n peak =
      let x = (HasPeak-Ex2 g t f n).0 peak in
      let is = fold-Ex2 Formula (renamed_node r) t f in
      subst (λ k. HasPeak g k n) (sym is) ((HasPeak-Ex2 g (renamed_track r t) (renamed r f) n).1 (record {
        peak_part = x.peak_part;
        size_part = x.size_part;
        size_subset = x.size_subset;
        size_result = x.size_result;
        of_peak_part = of_f x.peak_part x.of_peak_part;
        of_part = HasMinimalSize-renamed f x.size_part x.of_part;
        of_subset = HasSubsetSize-renamed t f x.size_subset x.of_subset;
        of_result = subst (λ k. HasMinimalSize g k x.size_result) is (HasMinimalSize-renamed (Ex2 t f) x.size_result x.of_result);
        is_greatest = x.is_greatest;
      }))

  pub HasPeak-renamed : (f : Formula) (n : ℕ) → HasPeak g f n → HasPeak g (renamed r f) n
  unfolding Keeps
  HasPeak-renamed = formula-induction Keeps (record {
    of_Sub = λ x y. of-atom (Sub x y) (Sub (renamed_track r x) (renamed_track r y))
        (fold-Sub Formula (renamed_node r) x y) (HasPeak-Sub g x y) (HasPeak-Sub g (renamed_track r x) (renamed_track r y));
    of_Single = λ x. of-atom (Single x) (Single (renamed_track r x))
        (fold-Single Formula (renamed_node r) x) (HasPeak-Single g x) (HasPeak-Single g (renamed_track r x));
    of_Succ0 = λ x y. of-atom (Succ0 x y) (Succ0 (renamed_track r x) (renamed_track r y))
        (fold-Succ0 Formula (renamed_node r) x y) (HasPeak-Succ0 g x y) (HasPeak-Succ0 g (renamed_track r x) (renamed_track r y));
    of_Succ1 = λ x y. of-atom (Succ1 x y) (Succ1 (renamed_track r x) (renamed_track r y))
        (fold-Succ1 Formula (renamed_node r) x y) (HasPeak-Succ1 g x y) (HasPeak-Succ1 g (renamed_track r x) (renamed_track r y));
    of_Root = λ x. of-atom (Root x) (Root (renamed_track r x))
        (fold-Root Formula (renamed_node r) x) (HasPeak-Root g x) (HasPeak-Root g (renamed_track r x));
    of_And = of-And;
    of_Not = of-Not;
    of_Ex2 = of-Ex2;
  })

  -- and so both ways
  pub HasMinimalSize-names : (f : Formula) (n : ℕ) → HasMinimalSize g f n ↔ HasMinimalSize g (renamed r f) n
  HasMinimalSize-names f = both (HasMinimalSize g f) (HasMinimalSize g (renamed r f)) (HasMinimalSize-renamed f)
      (HasMinimalSize-exists g guide f) (HasMinimalSize-unique g guide (renamed r f))

  pub HasProductSize-names : (f h : Formula) (n : ℕ) → HasProductSize g f h n ↔ HasProductSize g (renamed r f) (renamed r h) n
  HasProductSize-names f h = both (HasProductSize g f h) (HasProductSize g (renamed r f) (renamed r h)) (HasProductSize-renamed f h)
      (HasProductSize-exists g guide f h) (HasProductSize-unique g guide (renamed r f) (renamed r h))

  pub HasSubsetSize-names : (t : Track) (f : Formula) (n : ℕ) → HasSubsetSize g t f n ↔ HasSubsetSize g (renamed_track r t) (renamed r f) n
  HasSubsetSize-names t f = both (HasSubsetSize g t f) (HasSubsetSize g (renamed_track r t) (renamed r f)) (HasSubsetSize-renamed t f)
      (HasSubsetSize-exists g guide t f) (HasSubsetSize-unique g guide (renamed_track r t) (renamed r f))

  pub HasPeak-names : (f : Formula) (n : ℕ) → HasPeak g f n ↔ HasPeak g (renamed r f) n
  HasPeak-names f = both (HasPeak g f) (HasPeak g (renamed r f)) (HasPeak-renamed f)
      (HasPeak-exists g guide f) (HasPeak-unique g guide (renamed r f))
