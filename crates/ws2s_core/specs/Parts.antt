-- The parts of a formula, and their numbers in a list of formulas.
use Rattle.std.specs.Prelude.{◌≡◌, ◌⊎◌, ℕ, ◌<◌, ◌≤◌, ◌↔◌, List, [], length, All, AllPairs, Contains, slice_get, Some}
use Rattle.ws2s_core.specs.declared.formula.Formula.{Formula, out-Formula}
use Rattle.ws2s_core.specs.declared.node.FormulaId.{FormulaId}
use Rattle.ws2s_core.specs.declared.node.Node.{Node}
use Rattle.ws2s_core.specs.Postfix.{parts_of}
use Rattle.ws2s_core.specs.Nodes.{form_of, formula_at, formulas_of}

-- the second formula is the first, or stands somewhere below it
pub data IsPart (whole : Formula) : Formula → Type 0 where
  itself : IsPart whole whole
  deeper : (f g : Formula) → IsPart whole f → Contains (parts_of (out-Formula f)) g → IsPart whole g

-- the number is that of a part of the formula with the number `whole`
abbrev pub IsPartAt : List Formula → ℕ → ℕ → Type 0
IsPartAt formulas whole part = (part < length formulas) × IsPart (formula_at formulas whole) (formula_at formulas part)

-- exactly the numbers of a formula's parts, the lowest first, so that each stands after those of its own parts
pub record ArePartsOf (formulas : List Formula) (whole : ℕ) (ids : List FormulaId) : Type 0 where
  pub rising : AllPairs (λ p q. p.0 < q.0) ids
  pub exactly : (id : FormulaId) → Contains ids id ↔ IsPartAt formulas whole id.0

-- the number is among those met, or among those that wait
abbrev pub IsKnown : List FormulaId → List ℕ → ℕ → Type 0
IsKnown met waiting k = Contains met (record { 0 = k }) ⊎ Contains waiting k

-- the walk down from a formula has met these numbers, the highest first and `below` last, and these wait: they are those
-- of parts, the formula's own is known, and so are those of the parts of what was met
pub record MeetsParts (nodes : List Node) (whole : ℕ) (met : List FormulaId) (waiting : List ℕ) (below : ℕ) : Type 0 where
  pub falling : AllPairs (λ p q. q.0 < p.0) met
  pub no_lower : All (λ id. below ≤ id.0) met
  pub last : below < length nodes → Contains met (record { 0 = below })
  pub low : All (λ k. k ≤ below) waiting
  pub whole_known : IsKnown met waiting whole
  pub closed : (k : ℕ) (node : Node) → Contains met (record { 0 = k }) → slice_get nodes k ≡ Some node →
      All (IsKnown met waiting) (parts_of (form_of node))
  pub sound : (k : ℕ) → IsKnown met waiting k →
      (k < length nodes) × IsPart (formula_at (formulas_of nodes) whole) (formula_at (formulas_of nodes) k)

-- in turn, the numbers that the walk has met at its end
abbrev pub HasMetParts : List Node → ℕ → List FormulaId → Type 0
HasMetParts nodes whole met = (below : ℕ) × MeetsParts nodes whole met [] below
