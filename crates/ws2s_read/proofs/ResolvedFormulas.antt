-- What is found in a source formula is a checked formula.
use Rattle.std.proofs.Common.{◌≡◌, ℕ, ◌+◌, ◌-◌, Bool, true, false, cond, IsTrue, ◌&&◌, List, [], ◌∷◌, ◌++◌, length, map, fold}
use Rattle.std.proofs.Common.{Option, Some, None, slice_get, Ok, refl, sym, ap, ◌∙◌, subst, arith, append_assoc, append-nil}
use Rattle.std.proofs.Common.{length-append, ◌==◌}
use Rattle.std.proofs.lemmas.Bool.{eqb-true}
use Rattle.std.proofs.lemmas.Option.{slice_get_within}
use Rattle.std.specs.Str.{bytes_eq}
use Rattle.gta_theory.proofs.ListedLemmas.{slice_get-front, slice_get-last}
use Rattle.pale_text.specs.declared.place.Pos.{Pos}
use Rattle.pale_text.specs.declared.refusal.RefusalKind.TheVariants as why
use Rattle.ws2s_syntax.specs.declared.name.Name.{Name}
use Rattle.ws2s_syntax.specs.declared.name.Name.TheVariants.{Free, Local}
use Rattle.ws2s_syntax.specs.declared.name.Successor.{Successor}
use Rattle.ws2s_syntax.specs.declared.name.Term.{Term}
use Rattle.ws2s_syntax.specs.declared.name.Argument.{Argument}
use Rattle.ws2s_syntax.specs.declared.declaration.Class.{Class}
use Rattle.ws2s_syntax.specs.declared.formula.Atom.{Atom}
use Rattle.ws2s_syntax.specs.declared.formula.Connective.{Connective}
use Rattle.ws2s_syntax.specs.declared.formula.Quantifier.{Quantifier}
use Rattle.ws2s_syntax.specs.declared.formula.TextFormula.{TextFormula}
use Rattle.ws2s_syntax.specs.declared.formula.TextFormula.TheVariants as formula
use Rattle.ws2s_syntax.specs.declared.source.SourceName.{SourceName}
use Rattle.ws2s_syntax.specs.declared.source.SourceBase.{SourceBase}
use Rattle.ws2s_syntax.specs.declared.source.SourceTerm.{SourceTerm}
use Rattle.ws2s_syntax.specs.declared.source.SourceFormula.{SourceFormula, roll-SourceFormula}
use Rattle.ws2s_syntax.specs.declared.source.SourceFormula.TheVariants.{rolls-Truth, rolls-Empty, rolls-Same, rolls-Differ}
use Rattle.ws2s_syntax.specs.declared.source.SourceFormula.TheVariants.{rolls-In, rolls-NotIn, rolls-Sub, rolls-Use, rolls-Not}
use Rattle.ws2s_syntax.specs.declared.source.SourceFormula.TheVariants.{rolls-Implies, rolls-Chain, rolls-Quantified}
use Rattle.ws2s_syntax.specs.declared.source.SourceFormula.TheOpen.{SourceFormula-F}
use Rattle.ws2s_syntax.specs.declared.source.SourceFormula.TheFolds.{map-SourceFormula, ind-SourceFormula}
use Rattle.ws2s_syntax.specs.declared.source.SourceParameter.{SourceParameter}
use Rattle.ws2s_read.specs.declared.names.Meaning.{Meaning}
use Rattle.ws2s_read.specs.declared.names.Meaning.TheVariants as stands_for
use Rattle.ws2s_syntax.specs.Sentences.{Sentence, negated, joined, each_quantified, sentence_of}
use Rattle.ws2s_syntax.specs.Checked.{Scope, class_of, is_position_class, is_set_class, is_set, is_term}
use Rattle.ws2s_syntax.specs.Checked.{is_argument, are_arguments, are_arguments_of, is_atom, class_bound, is_sentence}
use Rattle.ws2s_read.specs.Resolving.{Found, ◌>>=◌, refused, Names, meaning_of, known_as, known, first_place}
use Rattle.ws2s_read.specs.Resolving.{as_variable, resolved_variable, as_set, resolved_set, from_variable, resolved_named}
use Rattle.ws2s_read.specs.Resolving.{resolved_from, resolved_side, as_position_side, as_set_side, resolved_position}
use Rattle.ws2s_read.specs.Resolving.{resolved_set_side, as_argument, resolved_argument, resolved_empty, resolved_in}
use Rattle.ws2s_read.specs.Resolving.{resolved_sub, as_same, resolved_same, resolved_arguments, as_use, resolved_use, bound}
use Rattle.ws2s_read.specs.Resolving.{all_bound, each_resolved, stated, denied, resolved_formula}
use Rattle.ws2s_read.specs.Resolving.{parameters_bound, classes_of, resolved_body}
use Rattle.ws2s_syntax.proofs.SentencesLemmas.{sentence-Atom, sentence-Not, sentence-Implies, sentence-Chain, sentence-Quantified}
use Rattle.ws2s_read.proofs.ResolvingLemmas.{then-Ok, declared-Ok}
use Rattle.ws2s_read.proofs.FormsLemmas.{at-Truth, at-Empty, at-Same, at-Differ, at-In, at-NotIn, at-Sub, at-Use}
use Rattle.ws2s_read.proofs.FormsLemmas.{at-Not, at-Implies, at-Chain, at-Quantified}

abbrev pub scope_of : List Class → List Class → Scope
scope_of free local = record { free = free; local = local }

-- both of two tests
pub both : (a b : Bool) → IsTrue a → IsTrue b → IsTrue (a && b)
both a b p q = ap (λ x. x && b) p ∙ q

-- what a name stands for is there
abbrev pub Fits : List Class → List Class → List (List Class) → Meaning → Type 0
Fits free local signatures (stands_for.Variable x c) = class_of (scope_of free local) x ≡ Some c
Fits free local signatures (stands_for.Predicate p params) = slice_get signatures p ≡ Some params

abbrev pub AllFit : List Class → List Class → List (List Class) → Names → Type 0
AllFit free local signatures [] = Unit {0}
AllFit free local signatures (e ∷ names) = Fits free local signatures e.1 × AllFit free local signatures names

front_still : {A : Type 0} (xs ys : List A) (k : ℕ) (a : A) → slice_get xs k ≡ Some a → slice_get (xs ++ ys) k ≡ Some a
front_still xs ys k a at = slice_get-front xs ys k (slice_get_within xs k a at) ∙ at

-- with more of everything it still is
Fits-more : (free local : List Class) (signatures : List (List Class)) (more more_local : List Class) (others : List (List Class)) (m : Meaning) →
    Fits free local signatures m → Fits (free ++ more) (local ++ more_local) (signatures ++ others) m
Fits-more free local signatures more more_local others (stands_for.Variable (Free i) c) at = front_still free more i (c) at
Fits-more free local signatures more more_local others (stands_for.Variable (Local k) c) at = front_still local more_local k (c) at
Fits-more free local signatures more more_local others (stands_for.Predicate p params) at = front_still signatures others p params at

AllFit-more : (free local : List Class) (signatures : List (List Class)) (more more_local : List Class) (others : List (List Class)) (names : Names) →
    AllFit free local signatures names → AllFit (free ++ more) (local ++ more_local) (signatures ++ others) names
AllFit-more free local signatures more more_local others [] fit = tt
AllFit-more free local signatures more more_local others (e ∷ names) fit =
    (Fits-more free local signatures more more_local others e.1 fit.0, AllFit-more free local signatures more more_local others names fit.1)

pub AllFit-push : (free local : List Class) (signatures : List (List Class)) (names : Names) (bytes : List ℕ) (m : Meaning) →
    AllFit free local signatures names → Fits free local signatures m → AllFit free local signatures (names ++ (bytes, m) ∷ [])
AllFit-push free local signatures [] bytes m fit last = (last, tt)
AllFit-push free local signatures (e ∷ names) bytes m fit last = (fit.0, AllFit-push free local signatures names bytes m fit.1 last)

-- a name that is found stands for what is there
found_fits : (free local : List Class) (signatures : List (List Class)) (names : Names) (bytes : List ℕ) (m : Meaning) →
    AllFit free local signatures names → meaning_of names bytes ≡ Some m → Fits free local signatures m
found_fits free local signatures [] bytes m fit e = absurd cc
found_fits free local signatures (entry ∷ names) bytes m fit e = by (bytes_eq bytes entry.0) e (found_fits free local signatures names bytes m fit.1)
  where
    by : (b : Bool) → cond b (Some entry.1) (meaning_of names bytes) ≡ Some m →
        (meaning_of names bytes ≡ Some m → Fits free local signatures m) → Fits free local signatures m
    by true e rest = let same : entry.1 ≡ m = cc in subst (Fits free local signatures) same fit.0
    by false e rest = rest e

module _ (free : List Class) (signatures : List (List Class)) where
  known_fits : (local : List Class) (names : Names) (x : SourceName) (m : Meaning) → AllFit free local signatures names →
      known names x ≡ Ok m → Fits free local signatures m
  unfolding known
  known_fits local names x m fit e = by (meaning_of names x.bytes) refl e
    where
      by : (o : Option Meaning) → meaning_of names x.bytes ≡ o → known_as x o ≡ Ok m → Fits free local signatures m
      by None is e = absurd cc
      by (Some n) is e = let same : n ≡ m = cc in found_fits free local signatures names x.bytes m fit (is ∙ ap Some same)

  variable_checked : (local : List Class) (names : Names) (x : SourceName) (v : Name × Class) → AllFit free local signatures names →
      resolved_variable names x ≡ Ok v → class_of (scope_of free local) v.0 ≡ Some v.1
  unfolding resolved_variable
  variable_checked local names x v fit e =
      let step = then-Ok (known names x) (as_variable x.place) v e in
      by step.0 (known_fits local names x step.0 fit step.1) step.2
    where
      by : (m : Meaning) → Fits free local signatures m → as_variable x.place m ≡ Ok v → class_of (scope_of free local) v.0 ≡ Some v.1
      by (stands_for.Variable y c) fits e =
          let same : y ≡ v.0 = cc in let same_class : c ≡ v.1 = cc in
          ap (class_of (scope_of free local)) (sym same) ∙ fits ∙ ap Some same_class
      by (stands_for.Predicate p params) fits e = absurd cc

  set_checked : (local : List Class) (names : Names) (x : SourceName) (y : Name) → AllFit free local signatures names →
      resolved_set names x ≡ Ok y → IsTrue (is_set (scope_of free local) y)
  unfolding resolved_set
  set_checked local names x y fit e =
      let step = then-Ok (resolved_variable names x) (as_set x.place) y e in
      by step.0 (variable_checked local names x step.0 fit step.1) step.2
    where
      by : (v : Name × Class) → class_of (scope_of free local) v.0 ≡ Some v.1 → as_set x.place v ≡ Ok y → IsTrue (is_set (scope_of free local) y)
      by (z, Class.Position) at e = absurd cc
      by (z, Class.Set) at e = let same : z ≡ y = cc in subst (λ n. IsTrue (is_set (scope_of free local) n)) same (ap is_set_class at)

  -- a side is of the class that it has
  abbrev IsSide : List Class → Argument → Type 0
  IsSide local (Argument.Position t) = IsTrue (is_term (scope_of free local) t)
  IsSide local (Argument.Set x) = IsTrue (is_set (scope_of free local) x)

  side_checked : (local : List Class) (names : Names) (t : SourceTerm) (a : Argument) → AllFit free local signatures names →
      resolved_side names t ≡ Ok a → IsSide local a
  unfolding resolved_side resolved_named
  side_checked local names t a fit e = by t.base e
    where
      from : (place : Pos) (steps : List Successor) (v : Name × Class) → class_of (scope_of free local) v.0 ≡ Some v.1 →
          from_variable place steps v ≡ Ok a → IsSide local a
      from place steps (z, Class.Position) at e =
          let same : Argument.Position (record { base = Rattle.ws2s_syntax.specs.declared.name.Base.TheVariants.Variable z; steps = steps }) ≡ a = cc in
          subst (IsSide local) same (ap is_position_class at)
      from place [] (z, Class.Set) at e = let same : Argument.Set z ≡ a = cc in subst (IsSide local) same (ap is_set_class at)
      from place (s ∷ steps) (z, Class.Set) at e = absurd cc

      by : (base : SourceBase) → resolved_from names base t.steps ≡ Ok a → IsSide local a
      by (SourceBase.Root place) e =
          let same : Argument.Position (record { base = Rattle.ws2s_syntax.specs.declared.name.Base.TheVariants.Root; steps = t.steps }) ≡ a = cc in
          subst (IsSide local) same refl
      by (SourceBase.Name x) e =
          let step = then-Ok (resolved_variable names x) (from_variable x.place t.steps) a e in
          from x.place t.steps step.0 (variable_checked local names x step.0 fit step.1) step.2

  position_checked : (local : List Class) (names : Names) (t : SourceTerm) (u : Term) → AllFit free local signatures names →
      resolved_position names t ≡ Ok u → IsTrue (is_term (scope_of free local) u)
  unfolding resolved_position
  position_checked local names t u fit e =
      let step = then-Ok (resolved_side names t) (as_position_side (first_place t)) u e in
      by step.0 (side_checked local names t step.0 fit step.1) step.2
    where
      by : (a : Argument) → IsSide local a → as_position_side (first_place t) a ≡ Ok u → IsTrue (is_term (scope_of free local) u)
      by (Argument.Position v) is e = let same : v ≡ u = cc in subst (λ w. IsTrue (is_term (scope_of free local) w)) same is
      by (Argument.Set x) is e = absurd cc

  set_side_checked : (local : List Class) (names : Names) (t : SourceTerm) (y : Name) → AllFit free local signatures names →
      resolved_set_side names t ≡ Ok y → IsTrue (is_set (scope_of free local) y)
  unfolding resolved_set_side
  set_side_checked local names t y fit e =
      let step = then-Ok (resolved_side names t) (as_set_side (first_place t)) y e in
      by step.0 (side_checked local names t step.0 fit step.1) step.2
    where
      by : (a : Argument) → IsSide local a → as_set_side (first_place t) a ≡ Ok y → IsTrue (is_set (scope_of free local) y)
      by (Argument.Position v) is e = absurd cc
      by (Argument.Set x) is e = let same : x ≡ y = cc in subst (λ n. IsTrue (is_set (scope_of free local) n)) same is

  argument_checked : (local : List Class) (names : Names) (c : Class) (t : SourceTerm) (b : Argument) → AllFit free local signatures names →
      resolved_argument names c t ≡ Ok b → IsTrue (is_argument (scope_of free local) c b)
  unfolding resolved_argument
  argument_checked local names c t b fit e =
      let step = then-Ok (resolved_side names t) (as_argument c (first_place t)) b e in
      by c step.0 (side_checked local names t step.0 fit step.1) step.2
    where
      by : (d : Class) (a : Argument) → IsSide local a → as_argument d (first_place t) a ≡ Ok b → IsTrue (is_argument (scope_of free local) d b)
      by Class.Position (Argument.Position v) is e =
          let same : Argument.Position v ≡ b = cc in subst (λ n. IsTrue (is_argument (scope_of free local) Class.Position n)) same is
      by Class.Position (Argument.Set x) is e = absurd cc
      by Class.Set (Argument.Position v) is e = absurd cc
      by Class.Set (Argument.Set x) is e =
          let same : Argument.Set x ≡ b = cc in subst (λ n. IsTrue (is_argument (scope_of free local) Class.Set n)) same is

  abbrev IsAtom : List Class → Atom → Type 0
  IsAtom local a = IsTrue (is_atom signatures (scope_of free local) a)

  empty_checked : (local : List Class) (names : Names) (x : SourceName) (a : Atom) → AllFit free local signatures names →
      resolved_empty names x ≡ Ok a → IsAtom local a
  unfolding resolved_empty
  empty_checked local names x a fit e =
      let step = then-Ok (resolved_set names x) (λ y. Ok (Atom.Empty y)) a e in
      let same : Atom.Empty step.0 ≡ a = cc (step.2) in
      subst (IsAtom local) same (set_checked local names x step.0 fit step.1)

  in_checked : (local : List Class) (names : Names) (t : SourceTerm) (x : SourceName) (a : Atom) → AllFit free local signatures names →
      resolved_in names t x ≡ Ok a → IsAtom local a
  unfolding resolved_in
  in_checked local names t x a fit e =
      let one = then-Ok (resolved_position names t) (λ u. resolved_set names x >>= λ y. Ok (Atom.In u y)) a e in
      let two = then-Ok (resolved_set names x) (λ y. Ok (Atom.In one.0 y)) a one.2 in
      let same : Atom.In one.0 two.0 ≡ a = cc (two.2) in
      subst (IsAtom local) same (both _ _ (position_checked local names t one.0 fit one.1) (set_checked local names x two.0 fit two.1))

  sub_checked : (local : List Class) (names : Names) (t : SourceTerm) (x : SourceName) (a : Atom) → AllFit free local signatures names →
      resolved_sub names t x ≡ Ok a → IsAtom local a
  unfolding resolved_sub
  sub_checked local names t x a fit e =
      let one = then-Ok (resolved_set_side names t) (λ u. resolved_set names x >>= λ y. Ok (Atom.Sub u y)) a e in
      let two = then-Ok (resolved_set names x) (λ y. Ok (Atom.Sub one.0 y)) a one.2 in
      let same : Atom.Sub one.0 two.0 ≡ a = cc (two.2) in
      subst (IsAtom local) same (both _ _ (set_side_checked local names t one.0 fit one.1) (set_checked local names x two.0 fit two.1))

  same_checked : (local : List Class) (names : Names) (t u : SourceTerm) (a : Atom) → AllFit free local signatures names →
      resolved_same names t u ≡ Ok a → IsAtom local a
  unfolding resolved_same
  same_checked local names t u a fit e =
      let one = then-Ok (resolved_side names t) (λ left. resolved_side names u >>= λ right. as_same (first_place u) left right) a e in
      let two = then-Ok (resolved_side names u) (λ right. as_same (first_place u) one.0 right) a one.2 in
      by one.0 two.0 (side_checked local names t one.0 fit one.1) (side_checked local names u two.0 fit two.1) two.2
    where
      by : (left right : Argument) → IsSide local left → IsSide local right → as_same (first_place u) left right ≡ Ok a → IsAtom local a
      by (Argument.Position v) (Argument.Position w) is is_too e =
          let same : Atom.SamePosition v w ≡ a = cc in subst (IsAtom local) same (both _ _ is is_too)
      by (Argument.Position v) (Argument.Set y) is is_too e = absurd cc
      by (Argument.Set x) (Argument.Position w) is is_too e = absurd cc
      by (Argument.Set x) (Argument.Set y) is is_too e =
          let same : Atom.SameSet x y ≡ a = cc in subst (IsAtom local) same (both _ _ is is_too)

  arguments_checked : (local : List Class) (names : Names) (params : List Class) (terms : List SourceTerm) (args : List Argument) →
      length params ≡ length terms → AllFit free local signatures names → resolved_arguments names params terms ≡ Ok args →
      IsTrue (are_arguments (scope_of free local) params args)
  arguments_checked local names [] terms args same fit e =
      let none : [] ≡ args = cc in subst (λ list. IsTrue (are_arguments (scope_of free local) [] list)) none refl
  arguments_checked local names (c ∷ params) [] args same fit e = absurd (omega arith)
  arguments_checked local names (c ∷ params) (t ∷ terms) args same fit e =
      let one = then-Ok (resolved_argument names c t) (λ first. resolved_arguments names params terms >>= λ others. Ok (first ∷ others)) args e in
      let two = then-Ok (resolved_arguments names params terms) (λ others. Ok (one.0 ∷ others)) args one.2 in
      let all : one.0 ∷ two.0 ≡ args = cc (two.2) in
      subst (λ list. IsTrue (are_arguments (scope_of free local) (c ∷ params) list)) all
      (both _ _ (argument_checked local names c t one.0 fit one.1)
      (arguments_checked local names params terms two.0 (omega arith) fit two.1))

  use_checked : (local : List Class) (names : Names) (p : SourceName) (terms : List SourceTerm) (a : Atom) → AllFit free local signatures names →
      resolved_use names p terms ≡ Ok a → IsAtom local a
  unfolding resolved_use
  use_checked local names p terms a fit e =
      let step = then-Ok (known names p) (as_use names p.place terms) a e in
      by step.0 (known_fits local names p step.0 fit step.1) step.2
    where
      with_all : (number : ℕ) (params : List Class) → slice_get signatures number ≡ Some params → (fits : Bool) →
          (length params == length terms) ≡ fits →
          cond fits (resolved_arguments names params terms >>= λ args. Ok (Atom.Use number args)) (refused p.place why.Arity) ≡ Ok a → IsAtom local a
      with_all number params at false is e = absurd cc
      with_all number params at true is e =
          let one = then-Ok (resolved_arguments names params terms) (λ args. Ok (Atom.Use number args)) a e in
          let same : Atom.Use number one.0 ≡ a = cc (one.2) in
          subst (IsAtom local) same
          (subst (λ o. IsTrue (are_arguments_of (scope_of free local) o one.0)) (sym at)
          (arguments_checked local names params terms one.0 (eqb-true _ _ is) fit one.1))

      by : (m : Meaning) → Fits free local signatures m → as_use names p.place terms m ≡ Ok a → IsAtom local a
      by (stands_for.Variable x c) fits e = absurd cc
      by (stands_for.Predicate number params) fits e = with_all number params fits (length params == length terms) refl e

  -- ---- formulas

  abbrev IsFine : List Class → TextFormula → Type 0
  IsFine local f = IsTrue (is_sentence signatures (scope_of free local) (sentence_of f))

  -- where `outer` names are visible outside of the item, and these classes belong to its own
  pub record IsPlace (outer : ℕ) (local : List Class) (names : Names) : Type 0 where
    pub fit : AllFit free local signatures names
    pub count : length names ≡ outer + length local

  abbrev IsCheckedBy : ℕ → (Names → Found TextFormula) → Type 0
  IsCheckedBy outer resolving = (local : List Class) (names : Names) (f : TextFormula) → IsPlace outer local names → resolving names ≡ Ok f → IsFine local f

  stated_checked : (local : List Class) (found : Found Atom) (f : TextFormula) → ((a : Atom) → found ≡ Ok a → IsAtom local a) →
      (found >>= stated) ≡ Ok f → IsFine local f
  stated_checked local found f are e =
      let step = then-Ok found stated f e in
      let same : formula.Atom step.0 ≡ f = cc (step.2) in
      subst (IsFine local) same
      (subst (λ s. IsTrue (is_sentence signatures (scope_of free local) s)) (sym (sentence-Atom step.0)) (are step.0 step.1))

  denied_checked : (local : List Class) (found : Found Atom) (f : TextFormula) → ((a : Atom) → found ≡ Ok a → IsAtom local a) →
      (found >>= denied) ≡ Ok f → IsFine local f
  denied_checked local found f are e =
      let step = then-Ok found denied f e in
      let same : formula.Not (formula.Atom step.0) ≡ f = cc (step.2) in
      subst (IsFine local) same
      (subst (λ s. IsTrue (is_sentence signatures (scope_of free local) s)) (sym (sentence-Not (formula.Atom step.0) ∙ ap negated (sentence-Atom step.0)))
      (are step.0 step.1))

  -- one name of the item more
  bound_place : (outer : ℕ) (c : Class) (x : SourceName) (local : List Class) (names more : Names) → IsPlace outer local names →
      bound outer c x names ≡ Ok more → IsPlace outer (local ++ c ∷ []) more
  unfolding bound
  bound_place outer c x local names more at e =
      let grown = declared-Ok names x (stands_for.Variable (Local (length names - outer)) c) more e in
      let number : length names - outer ≡ length local = let count = at.count in omega arith in
      subst (IsPlace outer (local ++ c ∷ [])) (sym grown) (record {
        fit = AllFit-push free (local ++ c ∷ []) signatures names x.bytes (stands_for.Variable (Local (length names - outer)) c)
            (subst (λ fs. AllFit fs (local ++ c ∷ []) signatures names) (append-nil free)
            (subst (λ ss. AllFit (free ++ []) (local ++ c ∷ []) ss names) (append-nil signatures)
            (AllFit-more free local signatures [] (c ∷ []) [] names at.fit)))
            (ap (slice_get (local ++ c ∷ [])) number ∙ slice_get-last local c);
        count = length-append names ((x.bytes, stands_for.Variable (Local (length names - outer)) c) ∷ [])
            ∙ (let count = at.count in let longer = length-append local (c ∷ []) in omega (arith, longer, count));
      })

  quantified_checked : (outer : ℕ) (q : Quantifier) (xs : List SourceName) (s : Sentence) (local : List Class) (names inside : Names) →
      IsPlace outer local names → all_bound outer (class_bound q) xs names ≡ Ok inside →
      ((all : List Class) → IsPlace outer all inside → IsTrue (is_sentence signatures (scope_of free all) s)) →
      IsTrue (is_sentence signatures (scope_of free local) (each_quantified q (length xs) s))
  quantified_checked outer q [] s local names inside at e fine =
      let same : names ≡ inside = cc in fine local (subst (IsPlace outer local) same at)
  quantified_checked outer q (x ∷ xs) s local names inside at e fine =
      let step = then-Ok (bound outer (class_bound q) x names) (all_bound outer (class_bound q) xs) inside e in
      quantified_checked outer q xs s (local ++ class_bound q ∷ []) step.0 inside
      (bound_place outer (class_bound q) x local names step.0 at step.1) step.2 fine

  chain_checked : (outer : ℕ) (c : Connective) (local : List Class) (names : Names)
      (others : List ((g : SourceFormula) × IsCheckedBy outer (resolved_formula outer g)))
      (s : Sentence) (fs : List TextFormula) → IsPlace outer local names → IsTrue (is_sentence signatures (scope_of free local) s) →
      each_resolved names (map (resolved_formula outer) (map (λ e. e.0) others)) ≡ Ok fs →
      IsTrue (is_sentence signatures (scope_of free local) (fold (joined c) s (map sentence_of fs)))
  chain_checked outer c local names [] s fs at fine e =
      let none : [] ≡ fs = cc in
      subst (λ list. IsTrue (is_sentence signatures (scope_of free local) (fold (joined c) s (map sentence_of list)))) none fine
  chain_checked outer c local names (g ∷ others) s fs at fine e =
      let one = then-Ok (resolved_formula outer g.0 names)
      (λ first. each_resolved names (map (resolved_formula outer) (map (λ e. e.0) others)) >>= λ rest. Ok (first ∷ rest)) fs e in
      let two = then-Ok (each_resolved names (map (resolved_formula outer) (map (λ e. e.0) others))) (λ rest. Ok (one.0 ∷ rest)) fs one.2 in
      let all : one.0 ∷ two.0 ≡ fs = cc (two.2) in
      subst (λ list. IsTrue (is_sentence signatures (scope_of free local) (fold (joined c) s (map sentence_of list)))) all
      (chain_checked outer c local names others (joined c s (sentence_of one.0)) two.0 at
      (both _ _ fine (g.1 local names one.0 at one.1)) two.1)

  made_checked : (outer : ℕ) (y : SourceFormula-F ((g : SourceFormula) × IsCheckedBy outer (resolved_formula outer g))) →
      IsCheckedBy outer (resolved_formula outer (roll-SourceFormula
      (map-SourceFormula ((g : SourceFormula) × IsCheckedBy outer (resolved_formula outer g)) SourceFormula (λ e. e.0) y)))
  made_checked outer (SourceFormula-F.Truth b) local names f at e =
      let same : formula.Atom (Atom.Truth b) ≡ f = cc (sym (at-Truth outer _ b names (rolls-Truth b)) ∙ e) in
      subst (IsFine local) same (subst (λ s. IsTrue (is_sentence signatures (scope_of free local) s)) (sym (sentence-Atom (Atom.Truth b))) refl)
  made_checked outer (SourceFormula-F.Empty x) local names f at e =
      stated_checked local (resolved_empty names x) f (λ a found. empty_checked local names x a at.fit found)
      (sym (at-Empty outer _ x names (rolls-Empty x)) ∙ e)
  made_checked outer (SourceFormula-F.Same t u) local names f at e =
      stated_checked local (resolved_same names t u) f (λ a found. same_checked local names t u a at.fit found)
      (sym (at-Same outer _ t u names (rolls-Same t u)) ∙ e)
  made_checked outer (SourceFormula-F.Differ t u) local names f at e =
      denied_checked local (resolved_same names t u) f (λ a found. same_checked local names t u a at.fit found)
      (sym (at-Differ outer _ t u names (rolls-Differ t u)) ∙ e)
  made_checked outer (SourceFormula-F.In t x) local names f at e =
      stated_checked local (resolved_in names t x) f (λ a found. in_checked local names t x a at.fit found) (sym (at-In outer _ t x names (rolls-In t x)) ∙ e)
  made_checked outer (SourceFormula-F.NotIn t x) local names f at e =
      denied_checked local (resolved_in names t x) f (λ a found. in_checked local names t x a at.fit found)
      (sym (at-NotIn outer _ t x names (rolls-NotIn t x)) ∙ e)
  made_checked outer (SourceFormula-F.Sub t x) local names f at e =
      stated_checked local (resolved_sub names t x) f (λ a found. sub_checked local names t x a at.fit found)
      (sym (at-Sub outer _ t x names (rolls-Sub t x)) ∙ e)
  made_checked outer (SourceFormula-F.Use p terms) local names f at e =
      stated_checked local (resolved_use names p terms) f (λ a found. use_checked local names p terms a at.fit found)
      (sym (at-Use outer _ p terms names (rolls-Use p terms)) ∙ e)
  made_checked outer (SourceFormula-F.Not g) local names f at e =
      let step = then-Ok (resolved_formula outer g.0 names) (λ inner. Ok (formula.Not inner)) f (sym (at-Not outer _ g.0 names (rolls-Not g.0)) ∙ e) in
      let same : formula.Not step.0 ≡ f = cc (step.2) in
      subst (IsFine local) same
      (subst (λ s. IsTrue (is_sentence signatures (scope_of free local) s)) (sym (sentence-Not step.0)) (g.1 local names step.0 at step.1))
  made_checked outer (SourceFormula-F.Implies g h) local names f at e =
      let one = then-Ok (resolved_formula outer g.0 names) (λ left. resolved_formula outer h.0 names >>= λ right. Ok (formula.Implies left right)) f
      (sym (at-Implies outer _ g.0 h.0 names (rolls-Implies g.0 h.0)) ∙ e) in
      let two = then-Ok (resolved_formula outer h.0 names) (λ right. Ok (formula.Implies one.0 right)) f one.2 in
      let same : formula.Implies one.0 two.0 ≡ f = cc (two.2) in
      subst (IsFine local) same
      (subst (λ s. IsTrue (is_sentence signatures (scope_of free local) s)) (sym (sentence-Implies one.0 two.0))
      (both _ _ (g.1 local names one.0 at one.1) (h.1 local names two.0 at two.1)))
  made_checked outer (SourceFormula-F.Chain c g others) local names f at e =
      let list = map (λ (o : (k : SourceFormula) × IsCheckedBy outer (resolved_formula outer k)). o.0) others in
      let one =
      then-Ok (resolved_formula outer g.0 names)
      (λ first. each_resolved names (map (resolved_formula outer) list) >>= λ rest. Ok (formula.Chain c first rest)) f
      (sym (at-Chain outer _ c g.0 list names (rolls-Chain c g.0 list)) ∙ e) in
      let two = then-Ok (each_resolved names (map (resolved_formula outer) list)) (λ rest. Ok (formula.Chain c one.0 rest)) f one.2 in
      let same : formula.Chain c one.0 two.0 ≡ f = cc (two.2) in
      subst (IsFine local) same
      (subst (λ s. IsTrue (is_sentence signatures (scope_of free local) s)) (sym (sentence-Chain c one.0 two.0))
      (chain_checked outer c local names others (sentence_of one.0) two.0 at (g.1 local names one.0 at one.1) two.1))
  made_checked outer (SourceFormula-F.Quantified q xs g) local names f at e =
      let one = then-Ok (all_bound outer (class_bound q) xs names)
      (λ inside. resolved_formula outer g.0 inside >>= λ inner. Ok (formula.Quantified q (length xs) inner)) f
      (sym (at-Quantified outer _ q xs g.0 names (rolls-Quantified q xs g.0)) ∙ e) in
      let two = then-Ok (resolved_formula outer g.0 one.0) (λ inner. Ok (formula.Quantified q (length xs) inner)) f one.2 in
      let same : formula.Quantified q (length xs) two.0 ≡ f = cc (two.2) in
      subst (IsFine local) same
      (subst (λ s. IsTrue (is_sentence signatures (scope_of free local) s)) (sym (sentence-Quantified q (length xs) two.0))
      (quantified_checked outer q xs (sentence_of two.0) local names one.0 at one.1 (λ all inside. g.1 all one.0 two.0 inside two.1)))

  pub formula_checked : (outer : ℕ) (f : SourceFormula) → IsCheckedBy outer (resolved_formula outer f)
  formula_checked outer = ind-SourceFormula (λ f. IsCheckedBy outer (resolved_formula outer f))
      (λ x y e. subst (λ (d : SourceFormula-F SourceFormula). IsCheckedBy outer (resolved_formula outer (roll-SourceFormula d))) e (made_checked outer y))

  parameters_place : (outer : ℕ) (ps : List SourceParameter) (local : List Class) (names inside : Names) → IsPlace outer local names →
      parameters_bound outer ps names ≡ Ok inside → IsPlace outer (local ++ classes_of ps) inside
  parameters_place outer [] local names inside at e =
      let same : names ≡ inside = cc in
      subst (λ all. IsPlace outer all inside) (sym (append-nil local)) (subst (IsPlace outer local) same at)
  parameters_place outer (p ∷ ps) local names inside at e =
      let step = then-Ok (bound outer p.class p.name names) (parameters_bound outer ps) inside e in
      subst (λ all. IsPlace outer all inside) (append_assoc local (p.class ∷ []) (classes_of ps))
      (parameters_place outer ps (local ++ p.class ∷ []) step.0 inside (bound_place outer p.class p.name local names step.0 at step.1) step.2)

  pub body_checked : (ps : List SourceParameter) (body : SourceFormula) (names : Names) (f : TextFormula) → AllFit free [] signatures names →
      resolved_body ps body names ≡ Ok f → IsFine (classes_of ps) f
  unfolding resolved_body
  body_checked ps body names f fit e =
      let step = then-Ok (parameters_bound (length names) ps names) (resolved_formula (length names) body) f e in
      formula_checked (length names) body (classes_of ps) step.0 f
      (parameters_place (length names) ps [] names step.0 (record { fit = fit; count = omega arith }) step.1) step.2
