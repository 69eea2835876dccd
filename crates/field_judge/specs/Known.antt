-- What is known of all that satisfies a formula.
use Rattle.gta_theory.specs.Assignments.{Assignment, IsFinite}
use Rattle.ws2s_core.specs.declared.formula.Formula.{Formula}
use Rattle.ws2s_core.specs.Satisfaction.{WSat}

-- the second formula follows from the first: all finite sets that satisfy the first satisfy it too
abbrev pub FollowsFrom : Formula → Formula → Type 0
FollowsFrom formula known = (a : Assignment) → IsFinite a → WSat formula a → WSat known a
