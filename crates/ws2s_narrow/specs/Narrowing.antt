-- Formulas whose quantifiers stand as far inside conjunctions as they can. (Miniscoping: Nonnengart and Weidenbach,
-- Computing Small Clause Normal Forms; the rule by which a quantifier leaves one side of a conjunction.)
use Rattle.std.specs.Prelude.{if◌then◌else◌}
use Rattle.ws2s_core.specs.declared.track.Track.{Track}
use Rattle.ws2s_core.specs.declared.formula.Formula.{Formula, roll-Formula}
use Rattle.ws2s_core.specs.declared.formula.Formula.TheVariants.{Sub, Single, Succ0, Succ1, Root, And, Not, Ex2}
use Rattle.ws2s_core.specs.declared.formula.Formula.TheOpen.{Formula-F}
use Rattle.ws2s_core.specs.declared.formula.Formula.TheFolds.{fold-Formula}
use Rattle.ws2s_core.specs.Tracks.{is_free}

-- a formula, and that formula with a quantifier brought into it
pub record Entered : Type 0 where
  pub before : Formula
  pub after : Formula

-- the quantifier goes into the right side of a conjunction where its track isn't free on the left, into the left side
-- where it isn't free on the right, and stays before the conjunction where it is free on both
abbrev pub into_conjunction : Track → Entered → Entered → Formula
into_conjunction t f g =
    if is_free t.0 f.before
    then (if is_free t.0 g.before then Ex2 t (And f.before g.before) else And f.after g.before)
    else And f.before g.after

abbrev pub stays_before : Track → Formula → Entered
stays_before t f = record { before = f; after = Ex2 t f }

-- a quantifier enters conjunctions alone
abbrev pub entered_node : Track → Formula-F Entered → Entered
entered_node t (Formula-F.Sub x y) = stays_before t (Sub x y)
entered_node t (Formula-F.Single x) = stays_before t (Single x)
entered_node t (Formula-F.Succ0 x y) = stays_before t (Succ0 x y)
entered_node t (Formula-F.Succ1 x y) = stays_before t (Succ1 x y)
entered_node t (Formula-F.Root x) = stays_before t (Root x)
entered_node t (Formula-F.And f g) = record { before = And f.before g.before; after = into_conjunction t f g }
entered_node t (Formula-F.Not f) = stays_before t (Not f.before)
entered_node t (Formula-F.Ex2 u f) = stays_before t (Ex2 u f.before)

-- the formula with the quantifier of the track as far inside as it gets
abbrev pub sunk : Track → Formula → Formula
sunk t f = (fold-Formula Entered (entered_node t) f).after

abbrev pub narrowed_node : Formula-F Formula → Formula
narrowed_node (Formula-F.Ex2 t f) = sunk t f
narrowed_node node = roll-Formula node

-- the formula with every quantifier taken so, from its parts up
abbrev pub narrowed : Formula → Formula
narrowed = fold-Formula Formula narrowed_node
