-- On the Sizes of a formula's automata: each exists and is one number, whatever automata stand for it.
use Rattle.std.proofs.Common.{◌≡◌, ◌≢◌, ℕ, nat_lt, IsTrue, ◌⊎◌, sym, subst}
use Rattle.std.proofs.lemmas.Bool.{cases_eq}
use Rattle.gta_theory.specs.Guides.{Spaces, IsGuide}
use Rattle.gta_theory.specs.Automata.{Automaton, Has}
use Rattle.gta_theory.specs.Constructions.{IsProduct, IsSubset}
use Rattle.gta_theory.specs.Minimal.{AreAlike}
use Rattle.gta_theory.specs.Sizes.{SizeOf}
use Rattle.gta_theory.proofs.MinimalLemmas.{AreAlike-minimal}
use Rattle.gta_theory.proofs.AlikeMoreLemmas.{AreAlike-products_alike, AreAlike-subsets_alike}
use Rattle.gta_theory.proofs.SizesLemmas.{SizeOf-alike}
use Rattle.gta_theory.proofs.SizesExistLemmas.{SizeOf-counted}
use Rattle.ws2s_core.specs.declared.track.Track.{Track}
use Rattle.ws2s_core.specs.declared.formula.Formula.{Formula}
use Rattle.ws2s_core.specs.Recognising.{IsMinimalOf}
use Rattle.ws2s_theory.specs.Peaks.{HasMinimalSize, HasProductSize, HasSubsetSize}
use Rattle.ws2s_theory.proofs.FormsLemmas.{Formed-all, product-formed, subset-formed}

abbrev Decided : Type 0 → Type 0
Decided Q = (p q : Q) → (p ≡ q) ⊎ (p ≢ q)

module _ (g : Spaces) (guide : IsGuide g) where
  pub HasMinimalSize-exists : (f : Formula) → (n : ℕ) × HasMinimalSize g f n
  HasMinimalSize-exists f =
      let (M, count, k, of_M) = Formed-all g guide f in
      let size = SizeOf-counted g M count k of_M.looks in
      (size.0, record { automaton = M; states = λ s q. nat_lt q (count s); is_minimal = of_M.minimal; is_size = size.1 })

  pub HasProductSize-exists : (f h : Formula) → (n : ℕ) × HasProductSize g f h n
  HasProductSize-exists f h =
      let (A, B, C, count_A, count_B, count, pair, k, is) = product-formed g guide f h (Formed-all g guide f) (Formed-all g guide h) in
      let size = SizeOf-counted g C count k is.looks in (
        size.0,
        record {
          first = A;
          second = B;
          product = C;
          states_first = λ s q. nat_lt q (count_A s);
          states_second = λ s q. nat_lt q (count_B s);
          states = λ s q. nat_lt q (count s);
          pair = pair;
          of_first = is.of_A;
          of_second = is.of_B;
          is_product = is.is_product;
          is_size = size.1;
        },
      )

  pub HasSubsetSize-exists : (t : Track) (f : Formula) → (n : ℕ) × HasSubsetSize g t f n
  HasSubsetSize-exists t f =
      let (A, C, count_A, count, member, k, is) = subset-formed g guide t.0 f (Formed-all g guide f) in
      let size = SizeOf-counted g C count k is.looks in (
        size.0,
        record {
          automaton = A;
          subset = C;
          states_automaton = λ s q. nat_lt q (count_A s);
          states = λ s q. nat_lt q (count s);
          member = member;
          of_automaton = is.of_A;
          is_subset = is.is_subset;
          is_size = size.1;
        },
      )

  -- minimal automata of one formula are alike
  pub minimal-alike : {Q R : Type 0} → Decided Q → Decided R → (f : Formula) (A : Automaton Q) (has_A : ℕ → Q → Type 0)
      (B : Automaton R) (has_B : ℕ → R → Type 0) → IsMinimalOf g A has_A f → IsMinimalOf g B has_B f → AreAlike g A has_A B has_B
  minimal-alike decide_Q decide_R f A has_A B has_B of_A of_B =
      AreAlike-minimal decide_Q decide_R g guide A has_A of_A.minimal B has_B of_B.minimal (λ n a covers.
      let in_A = (of_A.recognises).exactly n a covers in
      let in_B = (of_B.recognises).exactly n a covers in
      ((λ h. in_B.1 (in_A.0 h)), (λ h. in_A.1 (in_B.0 h))))

  -- the Size of any minimal automaton is the one
  pub minimal-size : {Q : Type 0} → Decided Q → (f : Formula) (A : Automaton Q) (has : ℕ → Q → Type 0) → IsMinimalOf g A has f →
      (n m : ℕ) → SizeOf g A has n → HasMinimalSize g f m → n ≡ m
  minimal-size decide f A has of_A n m size other =
      SizeOf-alike g guide A has other.automaton (Has other.states)
      (minimal-alike decide cases_eq f A has other.automaton (Has other.states) of_A other.is_minimal) n m size other.is_size

  pub HasMinimalSize-of : {Q : Type 0} → Decided Q → (f : Formula) (A : Automaton Q) (has : ℕ → Q → Type 0) → IsMinimalOf g A has f →
      (n : ℕ) → SizeOf g A has n → HasMinimalSize g f n
  HasMinimalSize-of decide f A has of_A n size =
      let known = HasMinimalSize-exists f in
      subst (HasMinimalSize g f) (sym (minimal-size decide f A has of_A n known.0 size known.1)) known.1

  pub HasMinimalSize-unique : (f : Formula) (n m : ℕ) → HasMinimalSize g f n → HasMinimalSize g f m → n ≡ m
  HasMinimalSize-unique f n m x = minimal-size cases_eq f x.automaton (Has x.states) x.is_minimal n m x.is_size

  -- the Size of any product of minimal automata is the one
  pub product-size : {Q R S : Type 0} → Decided Q → Decided R → (f h : Formula) (A : Automaton Q) (has_A : ℕ → Q → Type 0)
      (B : Automaton R) (has_B : ℕ → R → Type 0) (C : Automaton S) (has : ℕ → S → Type 0) (pair : ℕ → S → Q × R) →
      IsMinimalOf g A has_A f → IsMinimalOf g B has_B h → IsProduct g A B C has pair →
      (n m : ℕ) → SizeOf g C has n → HasProductSize g f h m → n ≡ m
  product-size decide_Q decide_R f h A has_A B has_B C has pair of_A of_B of_C n m size other =
      SizeOf-alike g guide C has other.product (Has other.states)
      (AreAlike-products_alike g guide
      A has_A (of_A.minimal).stable other.first (Has other.states_first) ((other.of_first).minimal).stable
      (minimal-alike decide_Q cases_eq f A has_A other.first (Has other.states_first) of_A other.of_first)
      B has_B (of_B.minimal).stable other.second (Has other.states_second) ((other.of_second).minimal).stable
      (minimal-alike decide_R cases_eq h B has_B other.second (Has other.states_second) of_B other.of_second)
      C has pair of_C other.product (Has other.states) other.pair other.is_product) n m size other.is_size

  pub HasProductSize-of : {Q R S : Type 0} → Decided Q → Decided R → (f h : Formula) (A : Automaton Q) (has_A : ℕ → Q → Type 0)
      (B : Automaton R) (has_B : ℕ → R → Type 0) (C : Automaton S) (has : ℕ → S → Type 0) (pair : ℕ → S → Q × R) →
      IsMinimalOf g A has_A f → IsMinimalOf g B has_B h → IsProduct g A B C has pair →
      (n : ℕ) → SizeOf g C has n → HasProductSize g f h n
  HasProductSize-of decide_Q decide_R f h A has_A B has_B C has pair of_A of_B of_C n size =
      let known = HasProductSize-exists f h in
      subst (HasProductSize g f h)
      (sym (product-size decide_Q decide_R f h A has_A B has_B C has pair of_A of_B of_C n known.0 size known.1)) known.1

  pub HasProductSize-unique : (f h : Formula) (n m : ℕ) → HasProductSize g f h n → HasProductSize g f h m → n ≡ m
  HasProductSize-unique f h n m x = product-size cases_eq cases_eq f h x.first (Has x.states_first) x.second (Has x.states_second)
      x.product (Has x.states) x.pair x.of_first x.of_second x.is_product n m x.is_size

  -- the Size of any subset automaton of a minimal automaton is the one
  pub subset-size : {Q S : Type 0} → Decided Q → (t : Track) (f : Formula) (A : Automaton Q) (has_A : ℕ → Q → Type 0)
      (C : Automaton S) (has : ℕ → S → Type 0) (member : ℕ → S → Q → Type 0) →
      IsMinimalOf g A has_A f → IsSubset g A t.0 C has member →
      (n m : ℕ) → SizeOf g C has n → HasSubsetSize g t f m → n ≡ m
  subset-size decide t f A has_A C has member of_A of_C n m size other =
      SizeOf-alike g guide C has other.subset (Has other.states)
      (AreAlike-subsets_alike g guide
      A has_A (of_A.minimal).stable other.automaton (Has other.states_automaton) ((other.of_automaton).minimal).stable
      (minimal-alike decide cases_eq f A has_A other.automaton (Has other.states_automaton) of_A other.of_automaton) t.0
      C has member of_C other.subset (Has other.states) (λ s x q. IsTrue (other.member s x q)) other.is_subset) n m size other.is_size

  pub HasSubsetSize-of : {Q S : Type 0} → Decided Q → (t : Track) (f : Formula) (A : Automaton Q) (has_A : ℕ → Q → Type 0)
      (C : Automaton S) (has : ℕ → S → Type 0) (member : ℕ → S → Q → Type 0) →
      IsMinimalOf g A has_A f → IsSubset g A t.0 C has member → (n : ℕ) → SizeOf g C has n → HasSubsetSize g t f n
  HasSubsetSize-of decide t f A has_A C has member of_A of_C n size =
      let known = HasSubsetSize-exists t f in
      subst (HasSubsetSize g t f) (sym (subset-size decide t f A has_A C has member of_A of_C n known.0 size known.1)) known.1

  pub HasSubsetSize-unique : (t : Track) (f : Formula) (n m : ℕ) → HasSubsetSize g t f n → HasSubsetSize g t f m → n ≡ m
  HasSubsetSize-unique t f n m x = subset-size cases_eq t f x.automaton (Has x.states_automaton) x.subset (Has x.states)
      (λ s y q. IsTrue (x.member s y q)) x.of_automaton x.is_subset n m x.is_size
