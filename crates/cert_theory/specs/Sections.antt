-- A section shows that a formula has no satisfying assignment: an automaton for each of its parts, with tables of how the
-- states of the parts go to its states, and in the automaton of the whole no accepting state that a table reaches. Nothing
-- in it has to be determinised, minimised or searched for.
use Rattle.std.specs.Prelude.{◌≡◌, ℕ, ◌-◌, ◌<◌, false, List, Contains, length, slice_get, Some}
use Rattle.gta_theory.specs.Guides.{Spaces}
use Rattle.gta_theory.specs.Automata.{Automaton}
use Rattle.gta_theory.specs.Constructions.{complement, Settled}
use Rattle.ws2s_core.specs.declared.track.Track.{Track}
use Rattle.ws2s_core.specs.declared.formula.Formula.{Formula}
use Rattle.ws2s_core.specs.declared.node.FormulaId.{FormulaId}
use Rattle.ws2s_core.specs.declared.node.Node.{Node}
use Rattle.ws2s_core.specs.Nodes.{formulas_of, HasPartsBelow}
use Rattle.cert_theory.specs.Atoms.{sub_numbers, single_numbers, root_numbers, succ0_numbers, succ1_numbers}
use Rattle.cert_theory.specs.Tables.{NamedPair, NamedSet, IsPairTable, IsSetTable}

-- what a section has of one part: its automaton; of a conjunction the pairs; of a quantified formula the sets
pub record Stage : Type 0 where
  pub automaton : Automaton ℕ
  pub pairs : List NamedPair
  pub sets : List NamedSet

-- the automaton of a form, by the automata of its parts: an atom's and a negation's is fixed, and that of a conjunction or
-- of a quantified formula is led to by a table. The set that the dropped track starts with is the least one.
abbrev pub IsStageOf : Spaces → (ℕ → Stage) → Node → Stage → Type 0
IsStageOf g parts (Node.Sub x y) stage = stage.automaton ≡ sub_numbers x.0 y.0
IsStageOf g parts (Node.Single x) stage = stage.automaton ≡ single_numbers x.0
IsStageOf g parts (Node.Succ0 x y) stage = stage.automaton ≡ succ0_numbers x.0 y.0
IsStageOf g parts (Node.Succ1 x y) stage = stage.automaton ≡ succ1_numbers x.0 y.0
IsStageOf g parts (Node.Root x) stage = stage.automaton ≡ root_numbers x.0
IsStageOf g parts (Node.And f h) stage = IsPairTable g (parts f.0).automaton (parts h.0).automaton stage.pairs stage.automaton
IsStageOf g parts (Node.Not f) stage = stage.automaton ≡ complement (parts f.0).automaton
IsStageOf g parts (Node.Ex2 t f) stage =
    IsSetTable g (parts f.0).automaton t.0 (Settled g (parts f.0).automaton t.0) stage.sets stage.automaton

-- how many states an atom's automaton has
abbrev pub atom_states : Node → ℕ
atom_states (Node.Sub x y) = 2
atom_states (Node.Single x) = 3
atom_states (Node.Succ0 x y) = 4
atom_states (Node.Succ1 x y) = 4
atom_states (Node.Root x) = 3
atom_states node = 0

-- a table reaches the state of space 0: an atom's own, a pair or a set; and a negation has what its part has
pub data IsReachedIn (nodes : List Node) (stages : ℕ → Stage) : ℕ → ℕ → Type 0 where
  in_atom : (k q : ℕ) (node : Node) → slice_get nodes k ≡ Some node → q < atom_states node → IsReachedIn nodes stages k q
  in_pairs : (k q : ℕ) (f h : FormulaId) (pair : NamedPair) → slice_get nodes k ≡ Some (Node.And f h) →
      Contains (stages k).pairs pair → pair.space ≡ 0 → pair.state ≡ q → IsReachedIn nodes stages k q
  in_sets : (k q : ℕ) (t : Track) (f : FormulaId) (set : NamedSet) → slice_get nodes k ≡ Some (Node.Ex2 t f) →
      Contains (stages k).sets set → set.space ≡ 0 → set.state ≡ q → IsReachedIn nodes stages k q
  in_negation : (k q : ℕ) (f : FormulaId) → slice_get nodes k ≡ Some (Node.Not f) → IsReachedIn nodes stages f.0 q →
      IsReachedIn nodes stages k q

-- the stages are those of the nodes, each of which stands after its parts
pub record AreStages (g : Spaces) (nodes : List Node) (stages : ℕ → Stage) : Type 0 where
  pub earlier : (k : ℕ) (node : Node) → slice_get nodes k ≡ Some node → HasPartsBelow k node
  pub staged : (k : ℕ) (node : Node) → slice_get nodes k ≡ Some node → IsStageOf g stages node (stages k)

-- a section of the formula: it is the last node's, and its automaton accepts in no state that a table reaches
pub record IsSection (g : Spaces) (f : Formula) (nodes : List Node) (stages : ℕ → Stage) : Type 0 where
  pub stages_of_parts : AreStages g nodes stages
  pub whole_is_last : slice_get (formulas_of nodes) (length nodes - 1) ≡ Some f
  pub none_accepts : (q : ℕ) → IsReachedIn nodes stages (length nodes - 1) q →
      ((stages (length nodes - 1)).automaton).accepting q ≡ false
