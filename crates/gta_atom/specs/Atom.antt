-- Atoms: the forms without parts. (MONA: Klarlund and Møller, MONA Version 1.4 User Manual.)
use Rattle.std.specs.Prelude.{Bool, true, false, IsTrue}
use Rattle.ws2s_core.specs.declared.formula.Formula.{Formula}
use Rattle.ws2s_core.specs.declared.formula.Formula.TheOpen.{Formula-F}
use Rattle.ws2s_core.specs.declared.formula.Formula.TheFolds.{fold-Formula}

abbrev pub is_atom_node : Formula-F Bool → Bool
is_atom_node (Formula-F.Sub x y) = true
is_atom_node (Formula-F.Single x) = true
is_atom_node (Formula-F.Succ0 x y) = true
is_atom_node (Formula-F.Succ1 x y) = true
is_atom_node (Formula-F.Root x) = true
is_atom_node (Formula-F.And f g) = false
is_atom_node (Formula-F.Not f) = false
is_atom_node (Formula-F.Ex2 t f) = false

-- the formula is an atom
abbrev pub IsAtom : Formula → Type 0
IsAtom f = IsTrue (fold-Formula Bool is_atom_node f)
