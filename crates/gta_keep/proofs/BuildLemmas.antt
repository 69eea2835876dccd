-- On automata that are built of minimal ones: what they recognise, and that the builders' limits are licensed by Sizes of
-- formulas.
use Rattle.std.proofs.Common.{◌≡◌, ℕ, max, Bool, IsTrue, subst, arith}
use Rattle.std.proofs.lemmas.Bool.{cases_eq}
use Rattle.bdd_nodes.specs.Shelf.{Contents, IsShelf}
use Rattle.gta_theory.specs.Guides.{Spaces, IsGuide}
use Rattle.gta_theory.specs.Automata.{Automaton}
use Rattle.gta_theory.specs.Constructions.{IsProduct, IsSubset}
use Rattle.gta_theory.specs.Numbered.{Below}
use Rattle.gta_theory.specs.Sizes.{SizeOf}
use Rattle.gta_theory.proofs.LooksLemmas.{LooksBelow-product, LooksBelow-subset}
use Rattle.gta_theory.proofs.NumberedLemmas.{IsProduct-exists}
use Rattle.gta_theory.proofs.SubsetExistsLemmas.{IsSubset-exists}
use Rattle.gta_theory.proofs.SizesExistLemmas.{SizeOf-counted}
use Rattle.gta_core.specs.Auto.{AutoView, states_of, automaton_of, IsAuto}
use Rattle.gta_minimise.specs.Minimised.{HasMinimisedSize}
use Rattle.ws2s_core.specs.declared.track.Track.{Track}
use Rattle.ws2s_core.specs.declared.formula.Formula.{Formula}
use Rattle.ws2s_core.specs.Recognising.{Recognises}
use Rattle.ws2s_theory.specs.Peaks.{HasMinimalSize, HasProductSize, HasSubsetSize}
use Rattle.ws2s_theory.proofs.FormsLemmas.{LooksBelow-more}
use Rattle.ws2s_theory.proofs.SizesLemmas.{product-size, subset-size}
use Rattle.gta_keep.specs.Holding.{IsMinimalFor}
use Rattle.gta_keep.proofs.AutoSizesLemmas.{above_tracks, LooksBelow-auto}

-- a product of the two has the Size that the formulas' products have
pub record SizedProduct (g : Spaces) (A B : Automaton ℕ) (n : ℕ) : Type 0 where
  pub product : Automaton ℕ
  pub count : ℕ → ℕ
  pub pair : ℕ → ℕ → ℕ × ℕ
  pub is_product : IsProduct g A B product (Below count) pair
  pub is_size : SizeOf g product (Below count) n

-- a subset automaton has the Size that the formula's subset automata have
pub record SizedSubset (g : Spaces) (A : Automaton ℕ) (t n : ℕ) : Type 0 where
  pub subset : Automaton ℕ
  pub count : ℕ → ℕ
  pub member : ℕ → ℕ → ℕ → Bool
  pub is_subset : IsSubset g A t subset (Below count) (λ s x q. IsTrue (member s x q))
  pub is_size : SizeOf g subset (Below count) n

module _ (g : Spaces) (guide : IsGuide g) (shelf : Contents) (is_shelf : IsShelf shelf) where
  pub SizedProduct-of : (a b : AutoView) → IsAuto g shelf a → IsAuto g shelf b → (f h : Formula) →
      IsMinimalFor g shelf a f → IsMinimalFor g shelf b h → (n : ℕ) → HasProductSize g f h n →
      SizedProduct g (automaton_of shelf a) (automaton_of shelf b) n
  SizedProduct-of a b auto_a auto_b f h of_a of_b n has =
      let A = automaton_of shelf a in
      let B = automaton_of shelf b in
      let k_A = above_tracks g shelf is_shelf a in
      let k_B = above_tracks g shelf is_shelf b in
      let k : ℕ = max k_A k_B in
      let looks_A = LooksBelow-more g A (Below (states_of a)) k_A k (omega arith) (LooksBelow-auto g shelf is_shelf a) in
      let looks_B = LooksBelow-more g B (Below (states_of b)) k_B k (omega arith) (LooksBelow-auto g shelf is_shelf b) in
      let found = IsProduct-exists g A B (states_of a) (states_of b) k guide auto_a.stable auto_a.closed looks_A auto_b.stable auto_b.closed looks_B in
      let looks = LooksBelow-product g guide A (Below (states_of a)) auto_a.stable (of_a.minimal).reached B (Below (states_of b)) auto_b.stable
      (of_b.minimal).reached found.0 (Below found.1) found.2 found.3 k looks_A looks_B in
      let size = SizeOf-counted g found.0 found.1 k looks in
      let same : size.0 ≡ n = product-size g guide cases_eq cases_eq f h A (Below (states_of a)) B (Below (states_of b)) found.0 (Below found.1)
      found.2 of_a of_b found.3 size.0 n size.1 has in
      record {
        product = found.0;
        count = found.1;
        pair = found.2;
        is_product = found.3;
        is_size = subst (SizeOf g found.0 (Below found.1)) same size.1;
      }

  pub SizedSubset-of : (a : AutoView) → IsAuto g shelf a → (t : Track) (f : Formula) → IsMinimalFor g shelf a f → (n : ℕ) →
      HasSubsetSize g t f n → SizedSubset g (automaton_of shelf a) t.0 n
  SizedSubset-of a auto t f of_a n has =
      let A = automaton_of shelf a in
      let k = above_tracks g shelf is_shelf a in
      let looks_A = LooksBelow-auto g shelf is_shelf a in
      let found = IsSubset-exists g guide A auto.stable (states_of a) auto.closed k looks_A t.0 in
      let looks = LooksBelow-subset g guide A (Below (states_of a)) auto.stable (of_a.minimal).reached t.0 found.0 (Below found.1)
      (λ s x q. IsTrue (found.2 s x q)) found.3 k looks_A in
      let size = SizeOf-counted g found.0 found.1 k looks in
      let same : size.0 ≡ n = subset-size g guide cases_eq t f A (Below (states_of a)) found.0 (Below found.1)
      (λ s x q. IsTrue (found.2 s x q)) of_a found.3 size.0 n size.1 has in
      record {
        subset = found.0;
        count = found.1;
        member = found.2;
        is_subset = found.3;
        is_size = subst (SizeOf g found.0 (Below found.1)) same size.1;
      }

-- what recognises the formula has the formula's minimal automata
pub HasMinimisedSize-of : (g : Spaces) (A : Automaton ℕ) (f : Formula) → Recognises g A f → (n : ℕ) → HasMinimalSize g f n →
    HasMinimisedSize g A n
HasMinimisedSize-of g A f of_A n has =
    let of_M = (has.is_minimal).recognises in
    record {
      automaton = has.automaton;
      states = has.states;
      is_minimal = (has.is_minimal).minimal;
      same = λ a. (
        (λ h. (of_A.exactly h.depth a h.covers).1 ((of_M.exactly h.depth a h.covers).0 h)),
        (λ h. (of_M.exactly h.depth a h.covers).1 ((of_A.exactly h.depth a h.covers).0 h)),
      );
      is_size = has.is_size;
    }
