-- On the lines of the worked section.
use Rattle.std.proofs.Common.{◌≡◌, ℕ, zero, suc, min, false, inl, inr, List, [], take, unwrap_or}
use Rattle.std.proofs.Common.{◌∷◌, Contains, Option, Some, None, slice_get, refl, sym, ap, ap₂, subst, ◌∙◌, arith}
use Rattle.labels.specs.Labels.{Label}
use Rattle.gta_theory.specs.Guides.{left, right}
use Rattle.gta_theory.proofs.ListsLemmas.{Contains-first, Contains-later, Contains-cases, Contains-none}
use Rattle.ws2s_core.specs.declared.formula.Formula.{Formula, roll-Formula, out-Formula, out-roll-Formula}
use Rattle.ws2s_core.specs.declared.formula.Formula.TheOpen.{Formula-F}
use Rattle.ws2s_core.specs.declared.formula.Formula.TheVariants.{And, Not, Single, rolls-Single, rolls-And, rolls-Not}
use Rattle.ws2s_core.specs.declared.node.Node.{Node}
use Rattle.ws2s_core.specs.Examples.{track}
use Rattle.ws2s_core.specs.Parts.{IsPart, itself, deeper}
use Rattle.ws2s_core.specs.Postfix.{parts_of}
use Rattle.ws2s_theory.specs.Worked.{plain}
use Rattle.cert_text.specs.declared.line.Way.TheVariants as way
use Rattle.cert_text.specs.declared.line.Target.TheVariants as target
use Rattle.cert_text.specs.declared.line.SpaceLine.{SpaceLine}
use Rattle.cert_text.specs.declared.line.ClassLine.{ClassLine}
use Rattle.cert_text.specs.declared.line.PairLine.{PairLine}
use Rattle.cert_theory.specs.Worked.{contradiction, contradiction_nodes, contradiction_stages, never}
use Rattle.cert_theory.proofs.WorkedLemmas.{worked-section}
use Rattle.cert_nodes.specs.Nodes.{state_on, functions_of, AreNodes}
use Rattle.cert_tables.specs.declared.table.SpaceTable.{SpaceTable}
use Rattle.cert_tables.specs.Automata.{class_at, cell_by}
use Rattle.cert_tables.specs.Orders.{IsPairBefore, ArePairsInOrder}
use Rattle.cert_steps.specs.Steps.{Rooted, AutomatonLines, StepLines, told_space, told_automaton}
use Rattle.cert_steps.specs.Places.{IsSpaceLine, IsClassLine, AreRows, AreInPlace}
use Rattle.cert_check.specs.Told.{nodes_of_steps, Tells, IsInPlace, ShowsNone}
use Rattle.cert_check.specs.Worked.{contradiction_lines}

-- the step of an atom or a negation, which has no lines
abbrev no_automaton : AutomatonLines
no_automaton = record { spaces = []; lefts = []; rights = []; roots = []; accepting = [] }

abbrev nothing : StepLines
nothing = record { automaton = no_automaton; pairs = []; starts = []; settles = []; sets = [] }

abbrev the_space : SpaceLine
the_space = record { space = 0; states = 1; initial = 0 }

abbrev the_classes : ClassLine
the_classes = record { space = 0; classes = 0 ∷ [] }

abbrev the_root : Rooted
the_root = record { nodes = []; root = record { space = 0; left = 0; right = 0; target = target.State 0 } }

abbrev the_automaton : AutomatonLines
the_automaton = record {
  spaces = the_space ∷ [];
  lefts = the_classes ∷ [];
  rights = the_classes ∷ [];
  roots = ((the_root ∷ []) ∷ []) ∷ [];
  accepting = [];
}

abbrev pair_of : ℕ → PairLine
pair_of q = record { space = 0; first = q; second = q; state = 0 }

abbrev the_step : StepLines
the_step = record { automaton = the_automaton; pairs = pair_of 0 ∷ pair_of 1 ∷ pair_of 2 ∷ []; starts = []; settles = []; sets = [] }

abbrev the_steps : List StepLines
the_steps = nothing ∷ nothing ∷ the_step ∷ []

-- ---- its automaton

class-zero : (q : ℕ) → class_at (0 ∷ []) q ≡ 0
class-zero q = ap (λ (k : ℕ). unwrap_or (slice_get (0 ∷ []) k) 0) (let e : min q 0 ≡ 0 = omega arith in e)

initial-is : (s : ℕ) → 0 ≡ (told_automaton [] the_automaton).initial s
initial-is zero = refl
initial-is (suc s) = refl

abbrev the_table : SpaceTable
the_table = told_space the_space the_classes the_classes ((the_root ∷ []) ∷ [])

step-is : (s p q : ℕ) (label : Label) → 0 ≡ (told_automaton [] the_automaton).step s p q label
step-is zero p q label = sym (ap₂ (λ (c d : ℕ). state_on (functions_of []) (cell_by (Some the_table) c d) label) (class-zero p) (class-zero q))
step-is (suc s) p q label = refl

never-told : never ≡ told_automaton [] the_automaton
never-told = λ i. record {
  initial = λ s. initial-is s i;
  step = λ s p q label. step-is s p q label i;
  accepting = λ q. false;
}

tells : (k : ℕ) (node : Node) (step : StepLines) → slice_get contradiction_nodes k ≡ Some node → slice_get the_steps k ≡ Some step →
    Tells (nodes_of_steps the_steps) node step (contradiction_stages k)
tells zero node step at of =
    let is : Node.Single (track 0) ≡ node = cc in
    subst (λ n. Tells (nodes_of_steps the_steps) n step (contradiction_stages 0)) is tt
tells (suc zero) node step at of =
    let is : Node.Not (record { 0 = 0 }) ≡ node = cc in
    subst (λ n. Tells (nodes_of_steps the_steps) n step (contradiction_stages 1)) is tt
tells (suc (suc zero)) node step at of =
    let is : Node.And (record { 0 = 0 }) (record { 0 = 1 }) ≡ node = cc in
    let same : the_step ≡ step = cc in
    subst (λ n. Tells (nodes_of_steps the_steps) n step (contradiction_stages 2)) is
    (subst (λ (l : StepLines). Tells (nodes_of_steps the_steps) (Node.And (record { 0 = 0 }) (record { 0 = 1 })) l (contradiction_stages 2)) same
    (never-told, refl))
tells (suc (suc (suc k))) node step at of = absurd cc

-- ---- its lines in their places

space-line : (s : ℕ) (line : SpaceLine) → slice_get (the_space ∷ []) s ≡ Some line → IsSpaceLine s line
space-line zero line at =
    let same : the_space ≡ line = cc in
    subst (IsSpaceLine 0) same (record { in_place = refl; has_initial = omega arith })
space-line (suc s) line at = absurd cc

class-line : (child : ℕ → ℕ) → child 0 ≡ 0 → (s : ℕ) (line : ClassLine) → slice_get (the_classes ∷ []) s ≡ Some line →
    IsClassLine (the_space ∷ []) s (child s) line
class-line child is zero line at =
    let same : the_classes ≡ line = cc in
    subst (IsClassLine (the_space ∷ []) 0 (child 0)) same
    (subst (λ (c : ℕ). IsClassLine (the_space ∷ []) 0 c the_classes) (sym is) (record { in_place = refl; many = refl; counted = (omega arith, tt) }))
class-line child is (suc s) line at = absurd cc

the-rows : AreRows [] 1 0 1 1 ((the_root ∷ []) ∷ [])
the-rows = record {
  many = refl;
  each = (record { many = refl; roots = (record { in_place = refl; of_left = refl; of_right = refl; there = tt; within = omega arith }, tt) }, tt);
}

automaton-placed : AreInPlace plain [] the_automaton
automaton-placed = record {
  spaces = record { many = refl; each = space-line };
  lefts = record { many = refl; each = class-line (left plain) refl };
  rights = record { many = refl; each = class-line (right plain) refl };
  all_roots = refl;
  roots = (the-rows, tt);
  accepting = record { rising = λ k below. absurd (omega (arith, below)); below = λ k below. absurd (omega (arith, below)) };
}

pairs-ordered : ArePairsInOrder the_step.pairs
pairs-ordered zero x y at next =
    let is_x : pair_of 0 ≡ x = cc in
    let is_y : pair_of 1 ≡ y = cc in
    subst (IsPairBefore x) is_y (subst (λ (l : PairLine). IsPairBefore l (pair_of 1)) is_x (inr (refl, inl (omega arith))))
pairs-ordered (suc zero) x y at next =
    let is_x : pair_of 1 ≡ x = cc in
    let is_y : pair_of 2 ≡ y = cc in
    subst (IsPairBefore x) is_y (subst (λ (l : PairLine). IsPairBefore l (pair_of 2)) is_x (inr (refl, inl (omega arith))))
pairs-ordered (suc (suc zero)) x y at next = absurd (no-fourth y next)
  where
    no-fourth : (z : PairLine) → (let o : Option PairLine = None in o) ≡ Some z → ⊥
    no-fourth z e = absurd cc
pairs-ordered (suc (suc (suc k))) x y at next = absurd cc

in-place : (k : ℕ) (node : Node) (step : StepLines) → slice_get contradiction_nodes k ≡ Some node → slice_get the_steps k ≡ Some step →
    IsInPlace plain contradiction_stages (nodes_of_steps (take k the_steps)) node step
in-place zero node step at of =
    let is : Node.Single (track 0) ≡ node = cc in
    subst (λ n. IsInPlace plain contradiction_stages (nodes_of_steps (take 0 the_steps)) n step) is tt
in-place (suc zero) node step at of =
    let is : Node.Not (record { 0 = 0 }) ≡ node = cc in
    subst (λ n. IsInPlace plain contradiction_stages (nodes_of_steps (take 1 the_steps)) n step) is tt
in-place (suc (suc zero)) node step at of =
    let is : Node.And (record { 0 = 0 }) (record { 0 = 1 }) ≡ node = cc in
    let same : the_step ≡ step = cc in
    subst (λ n. IsInPlace plain contradiction_stages (nodes_of_steps (take 2 the_steps)) n step) is
    (subst (λ (l : StepLines). IsInPlace plain contradiction_stages (nodes_of_steps (take 2 the_steps)) (Node.And (record { 0 = 0 }) (record { 0 = 1 })) l)
    same (automaton-placed, pairs-ordered))
in-place (suc (suc (suc k))) node step at of = absurd cc

no-nodes : AreNodes []
no-nodes k node at = absurd cc

-- ---- the formulas of the three nodes

abbrev first : Formula-F Formula
first = Formula-F.Single (track 0)

abbrev second : Formula-F Formula
second = Formula-F.Not (roll-Formula first)

abbrev third : Formula-F Formula
third = Formula-F.And (roll-Formula first) (roll-Formula second)

same-form : (x y : Formula-F Formula) → roll-Formula x ≡ roll-Formula y → x ≡ y
same-form x y e = sym (out-roll-Formula x) ∙ ap out-Formula e ∙ out-roll-Formula y

abbrev the_formulas : List Formula
the_formulas = roll-Formula first ∷ roll-Formula second ∷ roll-Formula third ∷ []

some-same : (x y : Formula-F Formula) (f : Formula) → (let o : Option Formula = Some (roll-Formula x) in o) ≡ Some f →
    (let o : Option Formula = Some (roll-Formula y) in o) ≡ Some f → x ≡ y
some-same x y f at_x at_y =
    let of_x : roll-Formula x ≡ f = cc in
    let of_y : roll-Formula y ≡ f = cc in
    same-form x y (of_x ∙ sym of_y)

apart-first-second : first ≡ second → ⊥
apart-first-second e = absurd cc

apart-first-third : first ≡ third → ⊥
apart-first-third e = absurd cc

apart-second-third : second ≡ third → ⊥
apart-second-third e = absurd cc

once : (i j : ℕ) (f : Formula) → slice_get the_formulas i ≡ Some f → slice_get the_formulas j ≡ Some f → i ≡ j
once zero zero f at_i at_j = refl
once zero (suc zero) f at_i at_j = absurd (apart-first-second (some-same first second f at_i at_j))
once zero (suc (suc zero)) f at_i at_j = absurd (apart-first-third (some-same first third f at_i at_j))
once (suc zero) zero f at_i at_j = absurd (apart-first-second (some-same first second f at_j at_i))
once (suc zero) (suc zero) f at_i at_j = refl
once (suc zero) (suc (suc zero)) f at_i at_j = absurd (apart-second-third (some-same second third f at_i at_j))
once (suc (suc zero)) zero f at_i at_j = absurd (apart-first-third (some-same first third f at_j at_i))
once (suc (suc zero)) (suc zero) f at_i at_j = absurd (apart-second-third (some-same second third f at_j at_i))
once (suc (suc zero)) (suc (suc zero)) f at_i at_j = refl
once (suc (suc (suc i))) j f at_i at_j = absurd (none-there at_i)
  where
    none-there : (let o : Option Formula = None in o) ≡ Some f → ⊥
    none-there e = absurd cc
once i (suc (suc (suc j))) f at_i at_j = absurd (none-there at_j)
  where
    none-there : (let o : Option Formula = None in o) ≡ Some f → ⊥
    none-there e = absurd cc

is-first : roll-Formula first ≡ Single (track 0)
is-first = rolls-Single (track 0)

is-second : roll-Formula second ≡ Not (Single (track 0))
is-second = rolls-Not (roll-Formula first) ∙ ap Not is-first

is-third : roll-Formula third ≡ contradiction
is-third = rolls-And (roll-Formula first) (roll-Formula second) ∙ ap₂ And is-first is-second

-- the parts of a form
parts-at : (x : Formula-F Formula) (f g : Formula) → roll-Formula x ≡ f → Contains (parts_of (out-Formula f)) g → Contains (parts_of x) g
parts-at x f g is h =
    subst (λ (y : Formula-F Formula). Contains (parts_of y) g) (ap out-Formula (sym is) ∙ out-roll-Formula x) h

has-first : Contains the_formulas (roll-Formula first)
has-first = Contains-first (roll-Formula first) (roll-Formula second ∷ roll-Formula third ∷ [])

has-second : Contains the_formulas (roll-Formula second)
has-second = Contains-later (roll-Formula first) (roll-Formula second) (roll-Formula second ∷ roll-Formula third ∷ [])
    (Contains-first (roll-Formula second) (roll-Formula third ∷ []))

has-third : Contains the_formulas (roll-Formula third)
has-third = Contains-later (roll-Formula first) (roll-Formula third) (roll-Formula second ∷ roll-Formula third ∷ [])
    (Contains-later (roll-Formula second) (roll-Formula third) (roll-Formula third ∷ []) (Contains-first (roll-Formula third) []))

-- a part of a formula of the list is one of the list
lower : (f g : Formula) → Contains the_formulas f → Contains (parts_of (out-Formula f)) g → Contains the_formulas g
lower f g listed h =
    elim (Contains-cases (roll-Formula first) f (roll-Formula second ∷ roll-Formula third ∷ []) listed) as (λ _. Contains the_formulas g) [
      | inl is ↦ absurd (Contains-none g (parts-at first f g is h))
      | inr later ↦ elim (Contains-cases (roll-Formula second) f (roll-Formula third ∷ []) later) as (λ _. Contains the_formulas g) [
        | inl is ↦ of_second (parts-at second f g is h)
        | inr last ↦ elim (Contains-cases (roll-Formula third) f [] last) as (λ _. Contains the_formulas g) [
          | inl is ↦ of_third (parts-at third f g is h)
          | inr none ↦ absurd (Contains-none f none)
        ]
      ]
    ]
  where
    of_second : Contains (roll-Formula first ∷ []) g → Contains the_formulas g
    of_second h = elim (Contains-cases (roll-Formula first) g [] h) as (λ _. Contains the_formulas g) [
      | inl is ↦ subst (Contains the_formulas) is has-first
      | inr none ↦ absurd (Contains-none g none)
    ]

    of_third : Contains (roll-Formula first ∷ roll-Formula second ∷ []) g → Contains the_formulas g
    of_third h = elim (Contains-cases (roll-Formula first) g (roll-Formula second ∷ []) h) as (λ _. Contains the_formulas g) [
      | inl is ↦ subst (Contains the_formulas) is has-first
      | inr later ↦ elim (Contains-cases (roll-Formula second) g [] later) as (λ _. Contains the_formulas g) [
        | inl is ↦ subst (Contains the_formulas) is has-second
        | inr none ↦ absurd (Contains-none g none)
      ]
    ]

part-listed : (h : Formula) → IsPart contradiction h → Contains the_formulas h
part-listed _ itself = subst (Contains the_formulas) is-third has-third
part-listed _ (deeper f g part inside) = lower f g (part-listed f part) inside

third-part : IsPart contradiction (roll-Formula third)
third-part = subst (IsPart contradiction) (sym is-third) itself

-- the parts of the third
under-third : (g : Formula) → Contains (roll-Formula first ∷ roll-Formula second ∷ []) g → IsPart contradiction g
under-third g h = deeper (roll-Formula third) g third-part
    (subst (λ (y : Formula-F Formula). Contains (parts_of y) g) (sym (out-roll-Formula third)) h)

listed-part : (h : Formula) → Contains the_formulas h → IsPart contradiction h
listed-part h listed =
    elim (Contains-cases (roll-Formula first) h (roll-Formula second ∷ roll-Formula third ∷ []) listed) as (λ _. IsPart contradiction h) [
      | inl is ↦ subst (IsPart contradiction) is (under-third (roll-Formula first) (Contains-first (roll-Formula first) (roll-Formula second ∷ [])))
      | inr later ↦ elim (Contains-cases (roll-Formula second) h (roll-Formula third ∷ []) later) as (λ _. IsPart contradiction h) [
        | inl is ↦ subst (IsPart contradiction) is (under-third (roll-Formula second)
            (Contains-later (roll-Formula first) (roll-Formula second) (roll-Formula second ∷ []) (Contains-first (roll-Formula second) [])))
        | inr last ↦ elim (Contains-cases (roll-Formula third) h [] last) as (λ _. IsPart contradiction h) [
          | inl is ↦ subst (IsPart contradiction) is third-part
          | inr none ↦ absurd (Contains-none h none)
        ]
      ]
    ]

pub worked-lines : ShowsNone plain contradiction contradiction_lines
worked-lines = record {
  way = way.Whole;
  nodes = contradiction_nodes;
  steps = the_steps;
  stages = contradiction_stages;
  once = record { once = once };
  parts = λ h. ((λ part. part-listed h part), (λ listed. listed-part h listed));
  lines_are = refl;
  drawn = no-nodes;
  tells = tells;
  in_place = in-place;
  is_section = worked-section;
}
