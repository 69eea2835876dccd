-- The step on a part, by its form; and what is known before the first.
use Rattle.std.proofs.Common.{◌≡◌, ℕ, ◌+◌, ◌-◌, ◌<◌, Bool, not, List, [], ◌∷◌, ◌++◌, length, slice_get, Some, refl, ap, sym, ◌∙◌, subst, arith, append-nil}
use Rattle.std.proofs.lemmas.Option.{slice_get_within}
use Rattle.std.specs.Prelude.{OnOk}
use Rattle.std.proofs.Common.{Result, Ok, Err}
use Rattle.gta_theory.specs.Guides.{Spaces}
use Rattle.gta_theory.proofs.ListedLemmas.{length-meanings}
use Rattle.ws2s_core.specs.declared.formula.Formula.{Formula}
use Rattle.ws2s_core.specs.declared.node.FormulaId.{FormulaId}
use Rattle.ws2s_core.specs.declared.track.Track.{Track}
use Rattle.ws2s_core.specs.declared.node.Node.{Node}
use Rattle.ws2s_core.specs.Nodes.{Extends, HasPartsBelow, formula_of_node, formulas_of}
use Rattle.ws2s_core.proofs.NodesLemmas.{node-inside}
use Rattle.cert_text.specs.declared.line.NodeLine.{NodeLine}
use Rattle.cert_text.specs.declared.line.Line.{Line}
use Rattle.cert_text.specs.declared.line.Line.TheVariants as line
use Rattle.cert_nodes.specs.declared.spots.Diagrams.{Diagrams}
use Rattle.cert_steps.specs.Steps.{nodes_of_automaton}
use Rattle.cert_tables.specs.declared.table.Table.{Table}
use Rattle.cert_check.specs.declared.board.Base.{Base}
use Rattle.cert_check.specs.declared.board.Part.{Part}
use Rattle.cert_check.specs.declared.board.Board.{Board}
use Rattle.cert_check.specs.Boards.{AreInside}
use Rattle.cert_check.specs.Standing.{IsGrown, IsAtomBase, IsConjunctionBase, IsQuantifiedBase, HasAutomaton, AddsBase, Stands}
use Rattle.cert_check.proofs.NumberingLemmas.{get-inside}
use Rattle.cert_check.proofs.StagesLemmas.{below-one}
use Rattle.cert_check.proofs.BoardLemmas.{inside-part}
use Rattle.cert_check.proofs.FormsLemmas.{IsAtom, atom-stands, negation-stands, conjunction-stands, quantified-stands}

grown-told : (d e : Diagrams) (more : List NodeLine) → e.atoms ≡ d.atoms → e.told ≡ d.told ++ more → IsGrown d e
grown-told d e more atoms told = record {
  atoms = record { more = []; is = atoms ∙ sym (append-nil d.atoms) };
  told = record { more = more; is = told };
}

grown-atoms : (d e : Diagrams) → Extends d.atoms e.atoms → e.told ≡ d.told → IsGrown d e
grown-atoms d e atoms told = record { atoms = atoms; told = record { more = []; is = told ∙ sym (append-nil d.told) } }

inside-there : (nodes : List Node) (k : ℕ) (node : Node) → slice_get nodes k ≡ Some node → (j : ℕ) → j < k →
    (other : Node) × (slice_get nodes j ≡ Some other)
inside-there nodes k node at j low =
    let within = slice_get_within nodes k node at in
    node-inside nodes j (omega (arith, low, within))

module _ (g : Spaces) (nodes : List Node) (d e : Diagrams) (old new : Board) (k : ℕ) (node : Node) (body lines : List Line)
    (below : HasPartsBelow k node) (at : slice_get nodes k ≡ Some node) (stands : Stands g nodes d old k body lines) where
  pub and-stands : (f h : FormulaId) (left rest : List Line) → node ≡ Node.And f h → e.atoms ≡ d.atoms → lines ≡ line.And k ∷ left →
      AddsBase (IsConjunctionBase g d.told e old f.0 h.0 left rest) old new → Stands g nodes e new (k + 1) body rest
  and-stands f h left rest is atoms first adds =
      let base = adds.is in
      let reads = base.reads in
      let automaton = reads.automaton in
      conjunction-stands g nodes d e old new k body lines left rest (grown-told d e (nodes_of_automaton automaton.automaton) atoms automaton.drawn)
      stands (inside-there nodes k node at) f h (subst (HasPartsBelow k) is below) (at ∙ ap Some is) first adds

  pub ex-stands : (t : Track) (f : FormulaId) (left rest : List Line) → node ≡ Node.Ex2 t f → e.atoms ≡ d.atoms → lines ≡ line.Ex k ∷ left →
      AddsBase (IsQuantifiedBase g d.told e old t.0 f.0 left rest) old new → Stands g nodes e new (k + 1) body rest
  ex-stands t f left rest is atoms first adds =
      let base = adds.is in
      let reads = base.reads in
      let automaton = reads.automaton in
      quantified-stands g nodes d e old new k body lines left rest (grown-told d e (nodes_of_automaton automaton.automaton) atoms automaton.drawn)
      stands (inside-there nodes k node at) t f (subst (HasPartsBelow k) is below) (at ∙ ap Some is) first adds

  pub atom-added : IsAtom node → Extends d.atoms e.atoms → e.told ≡ d.told → AddsBase (IsAtomBase g e node) old new →
      Stands g nodes e new (k + 1) body lines
  atom-added is atoms told adds = atom-stands g nodes d e old new k node body lines below is at (grown-atoms d e atoms told) told adds stands

pub not-stands : (g : Spaces) (nodes : List Node) (d : Diagrams) (old new : Board) (k : ℕ) (node : Node) (f : FormulaId) (body lines : List Line) →
    node ≡ Node.Not f → HasPartsBelow k node → new.bases ≡ old.bases →
    ((part : Part) → slice_get old.parts f.0 ≡ Some part → new.parts ≡ old.parts ++ (record { base = part.base; is_negated = not part.is_negated }) ∷ []) →
    slice_get nodes k ≡ Some node → Stands g nodes d old k body lines → Stands g nodes d new (k + 1) body lines
not-stands g nodes d old new k node f body lines is below bases parts at stands =
    negation-stands g nodes d old new k f body lines (subst (HasPartsBelow k) is below) (at ∙ ap Some is) bases parts (inside-there nodes k node at) stands

-- the part that a negation is of
pub not-below : (k : ℕ) (node : Node) (f : FormulaId) → node ≡ Node.Not f → HasPartsBelow k node → f.0 < k
not-below k node f is below = below-one k f.0 (subst (HasPartsBelow k) is below)

pub inside-not : (old new : Board) (f : ℕ) → AreInside old.bases old.parts → f < length old.parts → new.bases ≡ old.bases →
    ((part : Part) → slice_get old.parts f ≡ Some part → new.parts ≡ old.parts ++ (record { base = part.base; is_negated = not part.is_negated }) ∷ []) →
    AreInside new.bases new.parts
inside-not old new f are low bases parts =
    let inner = get-inside old.parts f low in
    inside-part old new inner.0 (record { base = (inner.0).base; is_negated = not (inner.0).is_negated }) f are inner.1 refl bases (parts inner.0 inner.1)

-- the automaton that is looked up
pub has-automaton : (bases : List Base) (parts : List Part) (board : Board) (k : ℕ) (table : Table) (is_negated : Bool) → bases ≡ board.bases →
    parts ≡ board.parts → AreInside board.bases board.parts → k < length board.parts →
    ((part : Part) (base : Base) → slice_get parts k ≡ Some part → slice_get bases part.base ≡ Some base →
    (table ≡ base.table) × (is_negated ≡ part.is_negated)) → HasAutomaton board k table is_negated
has-automaton bases parts board k table is_negated same_bases same_parts are low told =
    let part = get-inside board.parts k low in
    let base = get-inside board.bases (part.0).base (are k part.0 part.1) in
    let says = told part.0 base.0 (ap (λ (l : List Part). slice_get l k) same_parts ∙ part.1)
    (ap (λ (l : List Base). slice_get l (part.0).base) same_bases ∙ base.1) in
    record { part = part.0; base = base.0; at_part = part.1; at_base = base.1; table_is = says.0; negated_is = says.1 }

-- there is a form
pub some-nodes : (nodes : List Node) (f : Formula) → slice_get (formulas_of nodes) (length nodes - 1) ≡ Some f → 0 < length nodes
some-nodes nodes f last =
    let long = length-meanings formula_of_node nodes in
    let inside = slice_get_within (formulas_of nodes) (length nodes - 1) f last in
    omega (arith, long, inside)

-- what holds where two things do
pub on-both : {A E : Type 0} (P Q R : Type 0) (r : Result A E) → OnOk r P → OnOk r Q → (P → Q → R) → OnOk r R
on-both P Q R (Ok a) p q make = make p q
on-both P Q R (Err e) p q make = tt
