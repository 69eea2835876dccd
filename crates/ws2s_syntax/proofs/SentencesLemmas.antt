-- The tree of a formula, form by form.
use Rattle.std.proofs.Common.{◌≡◌, ℕ, List, map, fold, sym, ap, ◌∙◌}
use Rattle.ws2s_syntax.specs.declared.formula.Atom as declared_atom
use Rattle.ws2s_syntax.specs.declared.formula.Connective.{Connective}
use Rattle.ws2s_syntax.specs.declared.formula.Quantifier.{Quantifier}
use Rattle.ws2s_syntax.specs.declared.formula.TextFormula.{TextFormula, roll-TextFormula}
use Rattle.ws2s_syntax.specs.declared.formula.TextFormula.TheVariants.{Atom, Not, Implies, Chain, Quantified, rolls-Atom}
use Rattle.ws2s_syntax.specs.declared.formula.TextFormula.TheVariants.{rolls-Not, rolls-Implies, rolls-Chain, rolls-Quantified}
use Rattle.ws2s_syntax.specs.declared.formula.TextFormula.TheOpen.{TextFormula-F}
use Rattle.ws2s_syntax.specs.declared.formula.TextFormula.TheFolds.{map-TextFormula, fold-roll-TextFormula}
use Rattle.ws2s_syntax.specs.Sentences.{Sentence, said, negated, implied, joined, each_quantified, sentence_of_node, sentence_of}

at_form : (f : TextFormula) (x : TextFormula-F TextFormula) → roll-TextFormula x ≡ f →
    sentence_of f ≡ sentence_of_node (map-TextFormula TextFormula Sentence sentence_of x)
at_form f x e = ap sentence_of (sym e) ∙ fold-roll-TextFormula Sentence sentence_of_node x

pub sentence-Atom : (atom : declared_atom.Atom) → sentence_of (Atom atom) ≡ said atom
sentence-Atom atom = at_form (Atom atom) (TextFormula-F.Atom atom) (rolls-Atom atom)

pub sentence-Not : (f : TextFormula) → sentence_of (Not f) ≡ negated (sentence_of f)
sentence-Not f = at_form (Not f) (TextFormula-F.Not f) (rolls-Not f)

pub sentence-Implies : (f g : TextFormula) → sentence_of (Implies f g) ≡ implied (sentence_of f) (sentence_of g)
sentence-Implies f g = at_form (Implies f g) (TextFormula-F.Implies f g) (rolls-Implies f g)

pub sentence-Chain : (c : Connective) (f : TextFormula) (others : List TextFormula) →
    sentence_of (Chain c f others) ≡ fold (joined c) (sentence_of f) (map sentence_of others)
sentence-Chain c f others = at_form (Chain c f others) (TextFormula-F.Chain c f others) (rolls-Chain c f others)

pub sentence-Quantified : (q : Quantifier) (names : ℕ) (f : TextFormula) →
    sentence_of (Quantified q names f) ≡ each_quantified q names (sentence_of f)
sentence-Quantified q names f = at_form (Quantified q names f) (TextFormula-F.Quantified q names f) (rolls-Quantified q names f)
