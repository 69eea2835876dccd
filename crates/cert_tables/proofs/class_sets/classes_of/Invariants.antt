use Rattle.std.proofs.Common.{◌≡◌, map, take}
use Rattle.cert_tables.specs.Automata.{class_in}
use Rattle.cert_tables.proofs.class_sets.classes_of.Given as goal

-- the classes of the members so far
abbrev pub invariant-loop-member : goal.invariant-loop-member
invariant-loop-member l = l.classes.items ≡ map (class_in l.a l.is_right l.space) (take l.member-index l.members)
