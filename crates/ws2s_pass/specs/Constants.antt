-- Formulas with their constants folded. (Klarlund and Møller, MONA Version 1.4 User Manual, simplifies formulas so before
-- it decides them.)
use Rattle.std.specs.Prelude.{ℕ, Bool, true, false, not, ◌==◌, ◌&&◌, if◌then◌else◌, Option, Some, None}
use Rattle.ws2s_core.specs.declared.track.Track.{Track}
use Rattle.ws2s_core.specs.declared.formula.Formula.{Formula, roll-Formula, out-Formula}
use Rattle.ws2s_core.specs.declared.formula.Formula.TheVariants.{Sub, Single, Succ0, Succ1, Root, And, Not, Ex2}
use Rattle.ws2s_core.specs.declared.formula.Formula.TheOpen.{Formula-F}
use Rattle.ws2s_core.specs.declared.formula.Formula.TheFolds.{fold-Formula}
use Rattle.ws2s_core.specs.Negated.{negated}
use Rattle.ws2s_pass.specs.declared.fold.Folded.{Folded}
use Rattle.ws2s_pass.specs.declared.fold.Folded.TheVariants.{Constant, Open}

abbrev pub is_single_node : ℕ → Formula-F Formula → Bool
is_single_node t (Formula-F.Single x) = x.0 == t
is_single_node t node = false

-- the formula is `Single t`
abbrev pub is_single : ℕ → Formula → Bool
is_single t f = is_single_node t (out-Formula f)

abbrev pub is_single_of_some : ℕ → Option Formula → Bool
is_single_of_some t None = false
is_single_of_some t (Some f) = is_single t f

abbrev pub is_contradiction_node : ℕ → Formula-F Formula → Bool
is_contradiction_node t (Formula-F.And f g) = is_single t f && is_single_of_some t (negated g)
is_contradiction_node t node = false

-- the formula is `And (Single t) (Not (Single t))`, which says under a quantifier of t that what is said is false
abbrev pub is_contradiction : ℕ → Formula → Bool
is_contradiction t f = is_contradiction_node t (out-Formula f)

-- a constant is the other side of a conjunction, or the whole of it
abbrev pub conjunction_of : Folded → Folded → Folded
conjunction_of (Constant true) other = other
conjunction_of (Constant false) other = Constant false
conjunction_of (Open f) (Constant true) = Open f
conjunction_of (Open f) (Constant false) = Constant false
conjunction_of (Open f) (Open g) = Open (And f g)

abbrev pub opposite_of : Folded → Folded
opposite_of (Constant truth) = Constant (not truth)
opposite_of (Open f) = Open (Not f)

-- a quantifier of a constant is left out
abbrev pub quantified_over : Track → Folded → Folded
quantified_over t (Constant truth) = Constant truth
quantified_over t (Open f) = if is_contradiction t.0 f then Constant false else Open (Ex2 t f)

-- a set is within itself, and no position is its own child
abbrev pub folded_node : Formula-F Folded → Folded
folded_node (Formula-F.Sub x y) = if x.0 == y.0 then Constant true else Open (Sub x y)
folded_node (Formula-F.Single x) = Open (Single x)
folded_node (Formula-F.Succ0 x y) = if x.0 == y.0 then Constant false else Open (Succ0 x y)
folded_node (Formula-F.Succ1 x y) = if x.0 == y.0 then Constant false else Open (Succ1 x y)
folded_node (Formula-F.Root x) = Open (Root x)
folded_node (Formula-F.And f g) = conjunction_of f g
folded_node (Formula-F.Not f) = opposite_of f
folded_node (Formula-F.Ex2 t f) = quantified_over t f

-- a constant, or the formula that is left without constants
abbrev pub folded : Formula → Folded
folded = fold-Formula Folded folded_node

abbrev pub first_track : Track
first_track = record { 0 = 0 }

-- a constant as a formula of two nodes, without free tracks
abbrev pub constant_formula : Bool → Formula
constant_formula true = Ex2 first_track (Sub first_track first_track)
constant_formula false = Ex2 first_track (Succ0 first_track first_track)

abbrev pub constant_for : Formula-F Formula → Bool → Formula
constant_for (Formula-F.And f g) truth = constant_formula truth
constant_for (Formula-F.Not f) truth = constant_formula truth
constant_for (Formula-F.Ex2 t f) truth = constant_formula truth
constant_for atom truth = roll-Formula atom

-- an atom that is constant stays, since no formula of a constant is smaller
abbrev pub settled : Formula → Folded → Formula
settled whole (Constant truth) = constant_for (out-Formula whole) truth
settled whole (Open f) = f

-- the formula with its constants folded, from its parts up
abbrev pub without_constants : Formula → Formula
without_constants f = settled f (folded f)

abbrev pub is_constant_node : Formula-F Formula → Bool
is_constant_node (Formula-F.Sub x y) = x.0 == y.0
is_constant_node (Formula-F.Succ0 x y) = x.0 == y.0
is_constant_node (Formula-F.Succ1 x y) = x.0 == y.0
is_constant_node (Formula-F.Ex2 t f) = is_contradiction t.0 f
is_constant_node node = false

-- the formula is an atom that compares a track with itself, or `Ex2 t (And (Single t) (Not (Single t)))`
abbrev pub is_constant : Formula → Bool
is_constant f = is_constant_node (out-Formula f)
