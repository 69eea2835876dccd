-- How formulas are resolved, form by form.
use Rattle.std.proofs.Common.{◌≡◌, ℕ, Bool, List, map, Ok, refl, sym, ap, ◌∙◌, subst}
use Rattle.pale_text.specs.declared.refusal.TextStop.{TextStop}
use Rattle.ws2s_syntax.specs.declared.formula.Atom as declared_atom
use Rattle.ws2s_syntax.specs.declared.formula.Connective.{Connective}
use Rattle.ws2s_syntax.specs.declared.formula.Quantifier.{Quantifier}
use Rattle.ws2s_syntax.specs.declared.formula.TextFormula.{TextFormula}
use Rattle.ws2s_syntax.specs.declared.formula.TextFormula.TheVariants as formula
use Rattle.ws2s_syntax.specs.declared.source.SourceName.{SourceName}
use Rattle.ws2s_syntax.specs.declared.source.SourceTerm.{SourceTerm}
use Rattle.ws2s_syntax.specs.declared.source.SourceFormula.{SourceFormula, roll-SourceFormula}
use Rattle.ws2s_syntax.specs.declared.source.SourceFormula.TheVariants.{Truth, Empty, Same, Differ, In, NotIn, Sub, Use, Not}
use Rattle.ws2s_syntax.specs.declared.source.SourceFormula.TheVariants.{Implies, Chain, Quantified, rolls-Truth, rolls-Empty}
use Rattle.ws2s_syntax.specs.declared.source.SourceFormula.TheVariants.{rolls-Same, rolls-Differ, rolls-In, rolls-NotIn}
use Rattle.ws2s_syntax.specs.declared.source.SourceFormula.TheVariants.{rolls-Sub, rolls-Use, rolls-Not, rolls-Implies}
use Rattle.ws2s_syntax.specs.declared.source.SourceFormula.TheVariants.{rolls-Chain, rolls-Quantified}
use Rattle.ws2s_syntax.specs.declared.source.SourceFormula.TheOpen.{SourceFormula-F}
use Rattle.ws2s_syntax.specs.declared.source.SourceFormula.TheFolds.{map-SourceFormula, fold-roll-SourceFormula}
use Rattle.ws2s_read.specs.Resolving.{◌>>=◌, IsStop, Names, Resolving, resolved_empty, resolved_same, resolved_in, resolved_sub}
use Rattle.ws2s_read.specs.Resolving.{resolved_use, stated, denied, resolved_right, resolved_others, resolved_quantified, resolved_node}
use Rattle.ws2s_read.specs.Resolving.{resolved_formula}
use Rattle.ws2s_read.proofs.ResolvingLemmas.{found-then, stop-then}

at_form : (outer : ℕ) (f : SourceFormula) (x : SourceFormula-F SourceFormula) (names : Names) → f ≡ roll-SourceFormula x →
    resolved_formula outer f names ≡ resolved_node outer (map-SourceFormula SourceFormula Resolving (resolved_formula outer) x) names
unfolding resolved_formula
at_form outer f x names is =
    ap (λ g. resolved_formula outer g names) is ∙ ap (λ r. r names) (fold-roll-SourceFormula Resolving (resolved_node outer) x)

pub at-Truth : (outer : ℕ) (f : SourceFormula) (b : Bool) (names : Names) → f ≡ Truth b →
    resolved_formula outer f names ≡ Ok (formula.Atom (declared_atom.TheVariants.Truth b))
at-Truth outer f b names is = at_form outer f (SourceFormula-F.Truth b) names (is ∙ sym (rolls-Truth b))

pub at-Empty : (outer : ℕ) (f : SourceFormula) (x : SourceName) (names : Names) → f ≡ Empty x →
    resolved_formula outer f names ≡ (resolved_empty names x >>= stated)
at-Empty outer f x names is = at_form outer f (SourceFormula-F.Empty x) names (is ∙ sym (rolls-Empty x))

pub stop-Empty : (outer : ℕ) (f : SourceFormula) (x : SourceName) (names : Names) (e : TextStop) → f ≡ Empty x →
    IsStop (resolved_empty names x) e → IsStop (resolved_formula outer f names) e
stop-Empty outer f x names e is stop =
    subst (λ r. IsStop r e) (sym (at-Empty outer f x names is)) (stop-then (resolved_empty names x) stated e stop)

pub found-Empty : (outer : ℕ) (f : SourceFormula) (x : SourceName) (names : Names) (a : declared_atom.Atom) → f ≡ Empty x →
    (resolved_empty names x) ≡ Ok a → resolved_formula outer f names ≡ Ok (formula.Atom a)
found-Empty outer f x names a is found =
    at-Empty outer f x names is ∙ found-then (resolved_empty names x) stated a _ found refl

pub at-Same : (outer : ℕ) (f : SourceFormula) (t u : SourceTerm) (names : Names) → f ≡ Same t u →
    resolved_formula outer f names ≡ (resolved_same names t u >>= stated)
at-Same outer f t u names is = at_form outer f (SourceFormula-F.Same t u) names (is ∙ sym (rolls-Same t u))

pub stop-Same : (outer : ℕ) (f : SourceFormula) (t u : SourceTerm) (names : Names) (e : TextStop) → f ≡ Same t u →
    IsStop (resolved_same names t u) e → IsStop (resolved_formula outer f names) e
stop-Same outer f t u names e is stop =
    subst (λ r. IsStop r e) (sym (at-Same outer f t u names is)) (stop-then (resolved_same names t u) stated e stop)

pub found-Same : (outer : ℕ) (f : SourceFormula) (t u : SourceTerm) (names : Names) (a : declared_atom.Atom) → f ≡ Same t u →
    (resolved_same names t u) ≡ Ok a → resolved_formula outer f names ≡ Ok (formula.Atom a)
found-Same outer f t u names a is found =
    at-Same outer f t u names is ∙ found-then (resolved_same names t u) stated a _ found refl

pub at-Differ : (outer : ℕ) (f : SourceFormula) (t u : SourceTerm) (names : Names) → f ≡ Differ t u →
    resolved_formula outer f names ≡ (resolved_same names t u >>= denied)
at-Differ outer f t u names is = at_form outer f (SourceFormula-F.Differ t u) names (is ∙ sym (rolls-Differ t u))

pub at-In : (outer : ℕ) (f : SourceFormula) (t : SourceTerm) (x : SourceName) (names : Names) → f ≡ In t x →
    resolved_formula outer f names ≡ (resolved_in names t x >>= stated)
at-In outer f t x names is = at_form outer f (SourceFormula-F.In t x) names (is ∙ sym (rolls-In t x))

pub stop-In : (outer : ℕ) (f : SourceFormula) (t : SourceTerm) (x : SourceName) (names : Names) (e : TextStop) → f ≡ In t x →
    IsStop (resolved_in names t x) e → IsStop (resolved_formula outer f names) e
stop-In outer f t x names e is stop =
    subst (λ r. IsStop r e) (sym (at-In outer f t x names is)) (stop-then (resolved_in names t x) stated e stop)

pub found-In : (outer : ℕ) (f : SourceFormula) (t : SourceTerm) (x : SourceName) (names : Names) (a : declared_atom.Atom) → f ≡ In t x →
    (resolved_in names t x) ≡ Ok a → resolved_formula outer f names ≡ Ok (formula.Atom a)
found-In outer f t x names a is found =
    at-In outer f t x names is ∙ found-then (resolved_in names t x) stated a _ found refl

pub at-NotIn : (outer : ℕ) (f : SourceFormula) (t : SourceTerm) (x : SourceName) (names : Names) → f ≡ NotIn t x →
    resolved_formula outer f names ≡ (resolved_in names t x >>= denied)
at-NotIn outer f t x names is = at_form outer f (SourceFormula-F.NotIn t x) names (is ∙ sym (rolls-NotIn t x))

pub at-Sub : (outer : ℕ) (f : SourceFormula) (t : SourceTerm) (x : SourceName) (names : Names) → f ≡ Sub t x →
    resolved_formula outer f names ≡ (resolved_sub names t x >>= stated)
at-Sub outer f t x names is = at_form outer f (SourceFormula-F.Sub t x) names (is ∙ sym (rolls-Sub t x))

pub stop-Sub : (outer : ℕ) (f : SourceFormula) (t : SourceTerm) (x : SourceName) (names : Names) (e : TextStop) → f ≡ Sub t x →
    IsStop (resolved_sub names t x) e → IsStop (resolved_formula outer f names) e
stop-Sub outer f t x names e is stop =
    subst (λ r. IsStop r e) (sym (at-Sub outer f t x names is)) (stop-then (resolved_sub names t x) stated e stop)

pub found-Sub : (outer : ℕ) (f : SourceFormula) (t : SourceTerm) (x : SourceName) (names : Names) (a : declared_atom.Atom) → f ≡ Sub t x →
    (resolved_sub names t x) ≡ Ok a → resolved_formula outer f names ≡ Ok (formula.Atom a)
found-Sub outer f t x names a is found =
    at-Sub outer f t x names is ∙ found-then (resolved_sub names t x) stated a _ found refl

pub at-Use : (outer : ℕ) (f : SourceFormula) (p : SourceName) (terms : List SourceTerm) (names : Names) → f ≡ Use p terms →
    resolved_formula outer f names ≡ (resolved_use names p terms >>= stated)
at-Use outer f p terms names is = at_form outer f (SourceFormula-F.Use p terms) names (is ∙ sym (rolls-Use p terms))

pub stop-Use : (outer : ℕ) (f : SourceFormula) (p : SourceName) (terms : List SourceTerm) (names : Names) (e : TextStop) → f ≡ Use p terms →
    IsStop (resolved_use names p terms) e → IsStop (resolved_formula outer f names) e
stop-Use outer f p terms names e is stop =
    subst (λ r. IsStop r e) (sym (at-Use outer f p terms names is)) (stop-then (resolved_use names p terms) stated e stop)

pub found-Use : (outer : ℕ) (f : SourceFormula) (p : SourceName) (terms : List SourceTerm) (names : Names) (a : declared_atom.Atom) → f ≡ Use p terms →
    (resolved_use names p terms) ≡ Ok a → resolved_formula outer f names ≡ Ok (formula.Atom a)
found-Use outer f p terms names a is found =
    at-Use outer f p terms names is ∙ found-then (resolved_use names p terms) stated a _ found refl

pub at-Not : (outer : ℕ) (f g : SourceFormula) (names : Names) → f ≡ Not g →
    resolved_formula outer f names ≡ (resolved_formula outer g names >>= λ inner. Ok (formula.Not inner))
at-Not outer f g names is = at_form outer f (SourceFormula-F.Not g) names (is ∙ sym (rolls-Not g))

pub at-Implies : (outer : ℕ) (f g h : SourceFormula) (names : Names) → f ≡ Implies g h →
    resolved_formula outer f names ≡ (resolved_formula outer g names >>= λ left. resolved_right left (resolved_formula outer h) names)
at-Implies outer f g h names is = at_form outer f (SourceFormula-F.Implies g h) names (is ∙ sym (rolls-Implies g h))

pub at-Chain : (outer : ℕ) (f : SourceFormula) (c : Connective) (g : SourceFormula) (others : List SourceFormula) (names : Names) → f ≡ Chain c g others →
    resolved_formula outer f names ≡ (resolved_formula outer g names >>= λ first. resolved_others c first (map (resolved_formula outer) others) names)
at-Chain outer f c g others names is = at_form outer f (SourceFormula-F.Chain c g others) names (is ∙ sym (rolls-Chain c g others))

pub at-Quantified : (outer : ℕ) (f : SourceFormula) (q : Quantifier) (xs : List SourceName) (g : SourceFormula) (names : Names) → f ≡ Quantified q xs g →
    resolved_formula outer f names ≡ resolved_quantified outer q xs (resolved_formula outer g) names
at-Quantified outer f q xs g names is = at_form outer f (SourceFormula-F.Quantified q xs g) names (is ∙ sym (rolls-Quantified q xs g))

-- ---- the parts, which are lent

pub stop-Not : (outer : ℕ) (f g lent : SourceFormula) (names : Names) (e : TextStop) → f ≡ Not g → lent ≡ g →
    IsStop (resolved_formula outer lent names) e → IsStop (resolved_formula outer f names) e
stop-Not outer f g lent names e is same stop =
    subst (λ r. IsStop r e) (sym (at-Not outer f lent names (is ∙ ap Not (sym same))))
    (stop-then (resolved_formula outer lent names) (λ inner. Ok (formula.Not inner)) e stop)

pub found-Not : (outer : ℕ) (f g lent : SourceFormula) (names : Names) (inner held : TextFormula) → f ≡ Not g → lent ≡ g →
    resolved_formula outer lent names ≡ Ok inner → held ≡ inner → resolved_formula outer f names ≡ Ok (formula.Not held)
found-Not outer f g lent names inner held is same found boxed =
    at-Not outer f lent names (is ∙ ap Not (sym same))
    ∙ found-then (resolved_formula outer lent names) (λ made. Ok (formula.Not made)) inner _ found (ap (λ made. Ok (formula.Not made)) (sym boxed))

-- two parts, the second where the names are as before

pub stop-Implies : (outer : ℕ) (f g h one : SourceFormula) (names : Names) (e : TextStop) → f ≡ Implies g h → one ≡ g →
    IsStop (resolved_formula outer one names) e → IsStop (resolved_formula outer f names) e
stop-Implies outer f g h one names e is same stop =
    subst (λ r. IsStop r e) (sym (at-Implies outer f one h names (is ∙ ap (λ k. Implies k h) (sym same))))
    (stop-then (resolved_formula outer one names) (λ left. resolved_right left (resolved_formula outer h) names) e stop)

pub same-Implies : (outer : ℕ) (f g h one other : SourceFormula) (names after : Names) (left : TextFormula) → f ≡ Implies g h → one ≡ g → other ≡ h →
    after ≡ names → resolved_formula outer one names ≡ Ok left → resolved_right left (resolved_formula outer other) after ≡ resolved_formula outer f names
same-Implies outer f g h one other names after left is same_one same_other stay found =
    ap (resolved_right left (resolved_formula outer other)) stay
    ∙ sym (at-Implies outer f one other names (is ∙ (λ i. Implies (sym same_one i) (sym same_other i)))
    ∙ found-then (resolved_formula outer one names) (λ first. resolved_right first (resolved_formula outer other) names) left _ found refl)

pub stop-Chain : (outer : ℕ) (f : SourceFormula) (c : Connective) (g : SourceFormula) (others : List SourceFormula) (one : SourceFormula) (names : Names)
    (e : TextStop) → f ≡ Chain c g others → one ≡ g → IsStop (resolved_formula outer one names) e → IsStop (resolved_formula outer f names) e
stop-Chain outer f c g others one names e is same stop =
    subst (λ r. IsStop r e) (sym (at-Chain outer f c one others names (is ∙ ap (λ k. Chain c k others) (sym same))))
    (stop-then (resolved_formula outer one names) (λ first. resolved_others c first (map (resolved_formula outer) others) names) e stop)

pub same-Chain : (outer : ℕ) (f : SourceFormula) (c : Connective) (g : SourceFormula) (others : List SourceFormula) (one : SourceFormula)
    (lent : List SourceFormula) (names after : Names) (first : TextFormula) → f ≡ Chain c g others → one ≡ g → lent ≡ others → after ≡ names →
    resolved_formula outer one names ≡ Ok first → resolved_others c first (map (resolved_formula outer) lent) after ≡ resolved_formula outer f names
same-Chain outer f c g others one lent names after first is same_one same_others stay found =
    ap (resolved_others c first (map (resolved_formula outer) lent)) stay
    ∙ sym (at-Chain outer f c one lent names (is ∙ (λ i. Chain c (sym same_one i) (sym same_others i)))
    ∙ found-then (resolved_formula outer one names) (λ made. resolved_others c made (map (resolved_formula outer) lent) names) first _ found refl)

pub same-Quantified : (outer : ℕ) (f : SourceFormula) (q : Quantifier) (xs : List SourceName) (g : SourceFormula) (lent : List SourceName)
    (inner : SourceFormula) (names : Names) → f ≡ Quantified q xs g → lent ≡ xs → inner ≡ g →
    resolved_quantified outer q lent (resolved_formula outer inner) names ≡ resolved_formula outer f names
same-Quantified outer f q xs g lent inner names is same_names same_inner =
    sym (at-Quantified outer f q lent inner names (is ∙ (λ i. Quantified q (sym same_names i) (sym same_inner i))))
