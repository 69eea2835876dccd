-- On sections: each automaton recognises the formula of its number, and its values are states that a table reaches.
use Rattle.std.proofs.Common.{◌≡◌, ℕ, zero, suc, ◌-◌, ◌<◌, List, [], ◌∷◌, length, All, Some, slice_get, refl, sym, ap, subst, ◌∙◌, arith}
use Rattle.std.proofs.lemmas.Bool.{false≢true}
use Rattle.std.proofs.lemmas.Option.{slice_get_within}
use Rattle.std.proofs.lemmas.List.Elements.{All-head, All-tail}
use Rattle.gta_theory.specs.Assignments.{Assignment, IsFinite, Covers, only_below}
use Rattle.gta_theory.specs.Guides.{Spaces, IsGuide}
use Rattle.gta_theory.specs.Automata.{Automaton, value}
use Rattle.gta_theory.proofs.AutomataLemmas.{value-complement}
use Rattle.gta_theory.proofs.ListedLemmas.{length-meanings}
use Rattle.ws2s_core.specs.declared.formula.Formula.{Formula}
use Rattle.ws2s_core.specs.declared.formula.Formula.TheVariants.{rolls-Sub, rolls-Single, rolls-Succ0, rolls-Succ1, rolls-Root}
use Rattle.ws2s_core.specs.declared.formula.Formula.TheVariants.{rolls-And, rolls-Not, rolls-Ex2}
use Rattle.ws2s_core.specs.declared.node.Node.{Node}
use Rattle.ws2s_core.specs.Nodes.{formula_at, formula_of_node, formulas_of, HasPartsBelow}
use Rattle.ws2s_core.specs.Satisfaction.{WSat}
use Rattle.ws2s_core.specs.Tracks.{track_bound}
use Rattle.ws2s_core.specs.Recognising.{Recognises}
use Rattle.ws2s_core.proofs.NodesLemmas.{formulas_of-at, formula_at-is}
use Rattle.ws2s_core.proofs.RecognisingLemmas.{Recognises-Not, satisfied-accepted}
use Rattle.cert_theory.specs.Sections.{Stage, IsStageOf, atom_states, IsReachedIn, in_atom, in_pairs, in_sets, in_negation, AreStages, IsSection}
use Rattle.cert_theory.proofs.AtomsLemmas.{Recognises-sub_numbers, Recognises-single_numbers, Recognises-root_numbers}
use Rattle.cert_theory.proofs.AtomsLemmas.{Recognises-succ0_numbers, Recognises-succ1_numbers, sub_value-below, single_value-below}
use Rattle.cert_theory.proofs.AtomsLemmas.{root_value-below, succ0_value-below, succ1_value-below}
use Rattle.cert_theory.proofs.PairsLemmas.{value-pair, Recognises-pairs}
use Rattle.cert_theory.proofs.SetsLemmas.{value-set, Recognises-sets}

-- each number below the length has a node
node-at : (nodes : List Node) (k : ℕ) → k < length nodes → (node : Node) × (slice_get nodes k ≡ Some node)
node-at [] k below = absurd (omega arith)
node-at (x ∷ nodes) zero below = (x, refl)
node-at (x ∷ nodes) (suc k) below = node-at nodes k (omega arith)

module _ (g : Spaces) (guide : IsGuide g) (nodes : List Node) (stages : ℕ → Stage) (are : AreStages g nodes stages) where
  abbrev formula : ℕ → Formula
  formula k = formula_at (formulas_of nodes) k

  abbrev RecognisesAt : ℕ → Type 0
  RecognisesAt k = Recognises g (stages k).automaton (formula k)

  -- a part's number is below, for the one part of a form and for both
  below-one : (k p : ℕ) → All (λ part. part < k) (p ∷ []) → p < k
  below-one k p h = All-head (λ part. part < k) p [] h

  below-first : (k p q : ℕ) → All (λ part. part < k) (p ∷ q ∷ []) → p < k
  below-first k p q h = All-head (λ part. part < k) p (q ∷ []) h

  below-second : (k p q : ℕ) → All (λ part. part < k) (p ∷ q ∷ []) → q < k
  below-second k p q h = All-head (λ part. part < k) q [] (All-tail (λ part. part < k) p (q ∷ []) h)

  recognise-same : (k : ℕ) (whole f : Formula) (A : Automaton ℕ) → (stages k).automaton ≡ A → whole ≡ f → Recognises g A f →
      Recognises g (stages k).automaton whole
  recognise-same k whole f A is rolls of_A =
      subst (Recognises g (stages k).automaton) (sym rolls) (subst (λ (B : Automaton ℕ). Recognises g B f) (sym is) of_A)

  -- by the form of a node, where the parts' automata recognise their formulas
  recognise-node : (k : ℕ) (node : Node) → IsStageOf g stages node (stages k) → HasPartsBelow k node →
      ((j : ℕ) → j < k → RecognisesAt j) → Recognises g (stages k).automaton (formula_of_node (formulas_of nodes) node)
  recognise-node k (Node.Sub x y) is parts of =
      recognise-same k _ _ _ is (rolls-Sub x y)
      (Recognises-sub_numbers g guide x y)
  recognise-node k (Node.Single x) is parts of =
      recognise-same k _ _ _ is (rolls-Single x)
      (Recognises-single_numbers g guide x)
  recognise-node k (Node.Succ0 x y) is parts of =
      recognise-same k _ _ _ is (rolls-Succ0 x y)
      (Recognises-succ0_numbers g guide x y)
  recognise-node k (Node.Succ1 x y) is parts of =
      recognise-same k _ _ _ is (rolls-Succ1 x y)
      (Recognises-succ1_numbers g guide x y)
  recognise-node k (Node.Root x) is parts of =
      recognise-same k _ _ _ is (rolls-Root x)
      (Recognises-root_numbers g guide x)
  recognise-node k (Node.And f h) is parts of =
      subst (Recognises g (stages k).automaton) (sym (rolls-And (formula f.0) (formula h.0)))
      (Recognises-pairs g guide (stages f.0).automaton (stages h.0).automaton (stages k).automaton (stages k).pairs is
      (formula f.0) (formula h.0) (of f.0 (below-first k f.0 h.0 parts)) (of h.0 (below-second k f.0 h.0 parts)))
  recognise-node k (Node.Not f) is parts of =
      recognise-same k _ _ _ is (rolls-Not (formula f.0))
      (Recognises-Not g guide (stages f.0).automaton (formula f.0) (of f.0 (below-one k f.0 parts)))
  recognise-node k (Node.Ex2 t f) is parts of =
      subst (Recognises g (stages k).automaton) (sym (rolls-Ex2 t (formula f.0)))
      (Recognises-sets g guide (stages f.0).automaton (stages k).automaton t (formula f.0) (stages k).sets
      (of f.0 (below-one k f.0 parts)) is)

  recognise-below : (fuel k : ℕ) → k < fuel → k < length nodes → RecognisesAt k
  recognise-below zero k less inside = absurd (omega arith)
  recognise-below (suc fuel) k less inside =
      let at = node-at nodes k inside in
      let parts = are.earlier k at.0 at.1 in
      let same : formula k ≡ formula_of_node (formulas_of nodes) at.0 =
      formula_at-is (formulas_of nodes) k _ (formulas_of-at nodes k at.0 at.1 parts) in
      subst (Recognises g (stages k).automaton) (sym same)
      (recognise-node k at.0 (are.staged k at.0 at.1) parts
      (λ j lower. recognise-below fuel j (omega (arith, lower)) (omega (arith, lower))))

  pub recognise : (k : ℕ) → k < length nodes → RecognisesAt k
  recognise k inside = recognise-below (suc k) k (omega arith) inside

  pub recognise-found : (k : ℕ) (f : Formula) → slice_get (formulas_of nodes) k ≡ Some f → Recognises g (stages k).automaton f
  recognise-found k f found =
      let within : k < length (formulas_of nodes) = slice_get_within (formulas_of nodes) k f found in
      subst (Recognises g (stages k).automaton) (formula_at-is (formulas_of nodes) k f found)
      (recognise k (omega (arith, length-meanings formula_of_node nodes)))

  abbrev ReachesAt : ℕ → ℕ → Assignment → Type 0
  ReachesAt k n a = IsReachedIn nodes stages k (value g (stages k).automaton 0 n a)

  -- a value of an atom's automaton is one of its states
  reach-atom : (k n : ℕ) (a : Assignment) (node : Node) (A : Automaton ℕ) → slice_get nodes k ≡ Some node → (stages k).automaton ≡ A →
      value g A 0 n a < atom_states node → ReachesAt k n a
  reach-atom k n a node A at is below =
      in_atom k _ node at (subst (λ (B : Automaton ℕ). value g B 0 n a < atom_states node) (sym is) below)

  reach-node : (k n : ℕ) (a : Assignment) (node : Node) → Covers n a → k < length nodes → slice_get nodes k ≡ Some node →
      IsStageOf g stages node (stages k) → HasPartsBelow k node → ((j : ℕ) → j < k → ReachesAt j n a) → ReachesAt k n a
  reach-node k n a (Node.Sub x y) covers inside at is parts of =
      reach-atom k n a (Node.Sub x y) _ at is (sub_value-below g guide x.0 y.0 n a)
  reach-node k n a (Node.Single x) covers inside at is parts of =
      reach-atom k n a (Node.Single x) _ at is (single_value-below g guide x.0 n a)
  reach-node k n a (Node.Succ0 x y) covers inside at is parts of =
      reach-atom k n a (Node.Succ0 x y) _ at is (succ0_value-below g guide x.0 y.0 n a)
  reach-node k n a (Node.Succ1 x y) covers inside at is parts of =
      reach-atom k n a (Node.Succ1 x y) _ at is (succ1_value-below g guide x.0 y.0 n a)
  reach-node k n a (Node.Root x) covers inside at is parts of =
      reach-atom k n a (Node.Root x) _ at is (root_value-below g guide x.0 n a)
  reach-node k n a (Node.And f h) covers inside at is parts of =
      let to = value-pair g guide (stages f.0).automaton (stages h.0).automaton (stages k).automaton (stages k).pairs is 0 n a guide.not_empty in
      in_pairs k _ f h to.pair at to.listed to.in_space to.is_state
  reach-node k n a (Node.Not f) covers inside at is parts of =
      let same : value g (stages f.0).automaton 0 n a ≡ value g (stages k).automaton 0 n a =
      sym (ap (λ (B : Automaton ℕ). value g B 0 n a) is ∙ value-complement g guide (stages f.0).automaton
      (recognise f.0 (omega (arith, below-one k f.0 parts))).stable 0 n a) in
      in_negation k _ f at (subst (IsReachedIn nodes stages f.0) same (of f.0 (below-one k f.0 parts)))
  reach-node k n a (Node.Ex2 t f) covers inside at is parts of =
      let v = value-set g guide (stages f.0).automaton (stages k).automaton
      (recognise f.0 (omega (arith, below-one k f.0 parts))).stable t.0 (stages k).sets is n 0 a guide.not_empty covers in
      in_sets k _ t f v.set at v.listed v.in_space v.is_value

  reach-below : (fuel k n : ℕ) (a : Assignment) → Covers n a → k < fuel → k < length nodes → ReachesAt k n a
  reach-below zero k n a covers less inside = absurd (omega arith)
  reach-below (suc fuel) k n a covers less inside =
      let at = node-at nodes k inside in
      reach-node k n a at.0 covers inside at.1 (are.staged k at.0 at.1) (are.earlier k at.0 at.1)
      (λ j lower. reach-below fuel j n a covers (omega (arith, lower)) (omega (arith, lower)))

pub no-satisfying : (g : Spaces) (f : Formula) (nodes : List Node) (stages : ℕ → Stage) → IsGuide g → IsSection g f nodes stages →
    (a : Assignment) → IsFinite a → WSat f a → ⊥
no-satisfying g f nodes stages guide section a finite sat =
    let are = section.stages_of_parts in
    let k : ℕ = length nodes - 1 in
    let of_f = recognise-found g guide nodes stages are k f section.whole_is_last in
    let accepts = satisfied-accepted g guide (stages k).automaton f of_f a finite sat in
    let within : k < length (formulas_of nodes) = slice_get_within (formulas_of nodes) k f section.whole_is_last in
    let inside : k < length nodes = omega (arith, within, length-meanings formula_of_node nodes) in
    let reached = reach-below g guide nodes stages are (suc k) k accepts.depth (only_below (track_bound f) a) accepts.covers (omega arith) inside in
    false≢true (sym (section.none_accepts _ reached) ∙ accepts.accepted)
