-- Texts of the worked examples.
use Rattle.std.specs.Prelude.{ℕ, Bool, true, false, [], ◌∷◌}
use Rattle.ws2s_syntax.specs.declared.name.Name as declared_name
use Rattle.ws2s_syntax.specs.declared.name.Name.TheVariants.{Free, Local}
use Rattle.ws2s_syntax.specs.declared.name.Successor.{Successor}
use Rattle.ws2s_syntax.specs.declared.name.Successor.TheVariants.{Zero, One}
use Rattle.ws2s_syntax.specs.declared.name.Base.{Base}
use Rattle.ws2s_syntax.specs.declared.name.Term.{Term}
use Rattle.ws2s_syntax.specs.declared.name.Argument.{Argument}
use Rattle.ws2s_syntax.specs.declared.formula.Atom as declared_atom
use Rattle.ws2s_syntax.specs.declared.formula.Quantifier.{Quantifier}
use Rattle.ws2s_syntax.specs.declared.formula.TextFormula.TheVariants.{Atom, Not, Quantified}
use Rattle.ws2s_syntax.specs.declared.declaration.Class.{Class}
use Rattle.ws2s_syntax.specs.declared.declaration.Free as declared_free
use Rattle.ws2s_syntax.specs.Checked.{Text}

abbrev pub root : Term
root = record { base = Base.Root; steps = [] }

abbrev pub named : declared_name.Name → Term
named x = record { base = Base.Variable x; steps = [] }

abbrev pub child_of : Base → Successor → Term
child_of base step = record { base = base; steps = step ∷ [] }

-- a free variable named by one letter
abbrev pub variable : ℕ → Bool → declared_free.Free
variable letter set = record { name = letter ∷ []; set = set }

-- the root is in the set with this number
abbrev pub root_in : ℕ → declared_atom.Atom
root_in i = declared_atom.Atom.In root (Free i)

-- `ws2s; var2 X; root in X;`
abbrev pub root_in_set : Text
root_in_set = record { free = variable 88 true ∷ []; predicates = []; formulas = Atom (root_in 0) ∷ [] }

-- `p = root.0`
abbrev pub is_left_child : declared_atom.Atom
is_left_child = declared_atom.Atom.SamePosition (named (Free 0)) (child_of Base.Root Zero)

-- `ws2s; var1 p; p = root.0;`
abbrev pub left_child : Text
left_child = record { free = variable 112 false ∷ []; predicates = []; formulas = Atom is_left_child ∷ [] }

-- `p in X`
abbrev pub inner_in_outer : declared_atom.Atom
inner_in_outer = declared_atom.Atom.In (named (Local 1)) (Local 0)

-- `ws2s; ex2 X: all1 p: p in X;`
abbrev pub full_set : Text
full_set = record {
  free = [];
  predicates = [];
  formulas = Quantified Quantifier.Ex2 1 (Quantified Quantifier.All1 1 (Atom inner_in_outer)) ∷ [];
}

-- `p.0 = p.1`
abbrev pub children_same : declared_atom.Atom
children_same =
    declared_atom.Atom.SamePosition (child_of (Base.Variable (Local 0)) Zero) (child_of (Base.Variable (Local 0)) One)

-- `ws2s; all1 p: p.0 ~= p.1;`
abbrev pub children_differ : Text
children_differ = record {
  free = [];
  predicates = [];
  formulas = Quantified Quantifier.All1 1 (Not (Atom children_same)) ∷ [];
}

-- `ws2s; var2 X, Y, Z, W; root in X; root in Y; root in Z; root in W;`
abbrev pub root_in_four_sets : Text
root_in_four_sets = record {
  free = variable 88 true ∷ variable 89 true ∷ variable 90 true ∷ variable 87 true ∷ [];
  predicates = [];
  formulas = Atom (root_in 0) ∷ Atom (root_in 1) ∷ Atom (root_in 2) ∷ Atom (root_in 3) ∷ [];
}

-- `p in S`, of parameters
abbrev pub first_in_second : declared_atom.Atom
first_in_second = declared_atom.Atom.In (named (Local 0)) (Local 1)

-- `at(root, X)`
abbrev pub root_at_set : declared_atom.Atom
root_at_set = declared_atom.Atom.Use 0 (Argument.Position root ∷ Argument.Set (Free 0) ∷ [])

-- `ws2s; var2 X; pred at(var1 p, var2 S) = p in S; at(root, X);`
abbrev pub predicate_used : Text
predicate_used = record {
  free = variable 88 true ∷ [];
  predicates = record { params = Class.Position ∷ Class.Set ∷ []; body = Atom first_in_second } ∷ [];
  formulas = Atom root_at_set ∷ [];
}

-- `X sub X`
abbrev pub within_itself : declared_atom.Atom
within_itself = declared_atom.Atom.Sub (Free 0) (Free 0)
