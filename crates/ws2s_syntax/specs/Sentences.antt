-- Formulas as trees of single steps: the parts of a chain joined two by two, and a quantifier for each name.
use Rattle.std.specs.Prelude.{ℕ, zero, suc, fold}
use Rattle.ws2s_syntax.specs.declared.formula.Atom.{Atom}
use Rattle.ws2s_syntax.specs.declared.formula.Connective.{Connective}
use Rattle.ws2s_syntax.specs.declared.formula.Quantifier.{Quantifier}
use Rattle.ws2s_syntax.specs.declared.formula.TextFormula.{TextFormula}
use Rattle.ws2s_syntax.specs.declared.formula.TextFormula.TheOpen.{TextFormula-F}
use Rattle.ws2s_syntax.specs.declared.formula.TextFormula.TheFolds.{fold-TextFormula}

pub data Sentence : Type 0 where
  said : Atom → Sentence
  negated : Sentence → Sentence
  implied : Sentence → Sentence → Sentence
  joined : Connective → Sentence → Sentence → Sentence
  quantified : Quantifier → Sentence → Sentence

-- with so many quantifiers around it, one for each name
abbrev pub each_quantified : Quantifier → ℕ → Sentence → Sentence
each_quantified q zero s = s
each_quantified q (suc names) s = quantified q (each_quantified q names s)

abbrev pub sentence_of_node : TextFormula-F Sentence → Sentence
sentence_of_node (TextFormula-F.Atom a) = said a
sentence_of_node (TextFormula-F.Not s) = negated s
sentence_of_node (TextFormula-F.Implies s t) = implied s t
sentence_of_node (TextFormula-F.Chain c s others) = fold (joined c) s others
sentence_of_node (TextFormula-F.Quantified q names s) = each_quantified q names s

-- the formula's tree: chains grouped to the left, quantifiers from the left outside in
abbrev pub sentence_of : TextFormula → Sentence
sentence_of = fold-TextFormula Sentence sentence_of_node
