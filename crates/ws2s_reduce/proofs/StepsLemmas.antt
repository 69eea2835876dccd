-- What becomes of the steps of each form.
use Rattle.std.proofs.Common.{◌≡◌, ℕ, zero, suc, ◌+◌, ◌<◌, ◌≤◌, true, cond, leb, List, [], ◌∷◌, ◌++◌, length, map, fold, drop}
use Rattle.std.proofs.Common.{get_or, None, refl, sym, ap, ap₂, ◌∙◌, arith, append_assoc, append-nil, length-append, drop-cons}
use Rattle.std.specs.List.{sum}
use Rattle.std.proofs.Math.Seq.{take-append_seam}
use Rattle.std.proofs.lemmas.List.{drop-append-le}
use Rattle.std.proofs.lemmas.Bool.{le-leb}
use Rattle.ws2s_core.specs.declared.formula.Formula.{Formula}
use Rattle.ws2s_syntax.specs.declared.formula.Atom as declared_atom
use Rattle.ws2s_syntax.specs.declared.formula.Connective.{Connective}
use Rattle.ws2s_syntax.specs.declared.formula.Quantifier.{Quantifier}
use Rattle.ws2s_syntax.specs.declared.formula.TextFormula as declared_formula
use Rattle.ws2s_syntax.specs.declared.formula.TextFormula.TheVariants.{Atom, Not as Negated, Implies, Chain, Quantified}
use Rattle.ws2s_syntax.specs.declared.formula.TextFormula.TheVariants.{rolls-Atom, rolls-Not, rolls-Implies, rolls-Chain, rolls-Quantified}
use Rattle.ws2s_syntax.specs.declared.formula.TextFormula.TheOpen.{TextFormula-F}
use Rattle.ws2s_syntax.specs.declared.formula.TextFormula.TheFolds.{map-TextFormula, fold-roll-TextFormula}
use Rattle.ws2s_syntax.specs.declared.declaration.Predicate.{Predicate}
use Rattle.ws2s_syntax.specs.Sentences.{Sentence, joined, quantified, each_quantified, sentence_of}
use Rattle.ws2s_syntax.proofs.SentencesLemmas.{sentence-Not, sentence-Implies, sentence-Chain, sentence-Quantified}
use Rattle.ws2s_reduce.specs.declared.task.Op.{Op}
use Rattle.ws2s_reduce.specs.declared.task.Place.{Place}
use Rattle.ws2s_reduce.specs.Reducing.{Reductions, reduced}
use Rattle.ws2s_reduce.specs.Building.{joined_of, quantified_at, wrapped, tracks_from, reductions_to, Step, to_build, to_forget}
use Rattle.ws2s_reduce.specs.Building.{to_apply, finished, chain_steps, atom_work, node_work, formula_work}

-- how many steps each form takes
module _ (known : ℕ → ℕ) where
  work-at : (f : declared_formula.TextFormula) (x : TextFormula-F declared_formula.TextFormula) → declared_formula.roll-TextFormula x ≡ f →
      formula_work known f ≡ node_work known (map-TextFormula declared_formula.TextFormula ℕ (formula_work known) x)
  work-at f x e = ap (formula_work known) (sym e) ∙ fold-roll-TextFormula ℕ (node_work known) x

  pub work-Atom : (a : declared_atom.Atom) → formula_work known (Atom a) ≡ atom_work known a
  work-Atom a = work-at (Atom a) (TextFormula-F.Atom a) (rolls-Atom a)

  pub work-Not : (f : declared_formula.TextFormula) → formula_work known (Negated f) ≡ formula_work known f + 2
  work-Not f = work-at (Negated f) (TextFormula-F.Not f) (rolls-Not f)

  pub work-Implies : (f g : declared_formula.TextFormula) → formula_work known (Implies f g) ≡ formula_work known f + formula_work known g + 2
  work-Implies f g = work-at (Implies f g) (TextFormula-F.Implies f g) (rolls-Implies f g)

  pub work-Chain : (c : Connective) (f : declared_formula.TextFormula) (others : List declared_formula.TextFormula) →
      formula_work known (Chain c f others) ≡ formula_work known f + sum (map (formula_work known) others) + length (map (formula_work known) others) + 1
  work-Chain c f others = work-at (Chain c f others) (TextFormula-F.Chain c f others) (rolls-Chain c f others)

  pub work-Quantified : (q : Quantifier) (names : ℕ) (f : declared_formula.TextFormula) → formula_work known (Quantified q names f) ≡ formula_work known f + 3
  work-Quantified q names f = work-at (Quantified q names f) (TextFormula-F.Quantified q names f) (rolls-Quantified q names f)

-- joined parts and quantifiers, reduced
reduced-joined : (reductions : Reductions) (next : ℕ) (tracks : List ℕ) (c : Connective) (s t : Sentence) →
    reduced reductions next tracks (joined c s t) ≡ joined_of c (reduced reductions next tracks s) (reduced reductions next tracks t)
reduced-joined reductions next tracks Connective.And s t = refl
reduced-joined reductions next tracks Connective.Or s t = refl
reduced-joined reductions next tracks Connective.Iff s t = refl

reduced-chain : (reductions : Reductions) (next : ℕ) (tracks : List ℕ) (c : Connective) (others : List declared_formula.TextFormula) (s : Sentence) →
    fold (joined_of c) (reduced reductions next tracks s) (map (λ f. reduced reductions next tracks (sentence_of f)) others)
    ≡ reduced reductions next tracks (fold (joined c) s (map sentence_of others))
reduced-chain reductions next tracks c [] s = refl
reduced-chain reductions next tracks c (f ∷ others) s =
    ap (λ g. fold (joined_of c) g (map (λ f. reduced reductions next tracks (sentence_of f)) others))
    (sym (reduced-joined reductions next tracks c s (sentence_of f)))
    ∙ reduced-chain reductions next tracks c others (joined c s (sentence_of f))

reduced-one : (reductions : Reductions) (next : ℕ) (tracks : List ℕ) (q : Quantifier) (s : Sentence) →
    reduced reductions next tracks (quantified q s) ≡ quantified_at q next (reduced reductions (suc next) (tracks ++ next ∷ []) s)
reduced-one reductions next tracks Quantifier.Ex1 s = refl
reduced-one reductions next tracks Quantifier.All1 s = refl
reduced-one reductions next tracks Quantifier.Ex2 s = refl
reduced-one reductions next tracks Quantifier.All2 s = refl

reduced-quantified : (reductions : Reductions) (q : Quantifier) (names next : ℕ) (tracks : List ℕ) (s : Sentence) →
    reduced reductions next tracks (each_quantified q names s)
    ≡ wrapped q next names (reduced reductions (next + names) (tracks ++ tracks_from next names) s)
reduced-quantified reductions q zero next tracks s =
    let e : next ≡ next + 0 = omega arith in
    ap₂ (λ n ts. reduced reductions n ts s) e (sym (append-nil tracks))
reduced-quantified reductions q (suc names) next tracks s =
    let e : suc next + names ≡ next + suc names = omega arith in
    reduced-one reductions next tracks q (each_quantified q names s)
    ∙ ap (quantified_at q next) (
    reduced-quantified reductions q names (suc next) (tracks ++ next ∷ []) s
    ∙ ap₂ (λ n ts. wrapped q (suc next) names (reduced reductions n ts s)) e (append_assoc tracks (next ∷ []) (tracks_from (suc next) names))
    )

-- what becomes of the steps of each form
module _ (predicates : List Predicate) (place : Place) (steps : List Step) (tracks : List ℕ) (inside : place.start ≤ length tracks) where
  abbrev here : declared_formula.TextFormula → Formula
  here f = reduced (reductions_to predicates place.rank) place.next (drop place.start tracks) (sentence_of f)

  taken : (f : declared_formula.TextFormula) (more : List Step) (parts : List Formula) →
      finished predicates (to_build f place ∷ more) tracks parts ≡ finished predicates more tracks (here f ∷ parts)
  taken f more parts = ap (λ b. cond b (finished predicates more tracks (here f ∷ parts)) None) (le-leb place.start (length tracks) inside)

  pub same-Not : (f : declared_formula.TextFormula) (parts : List Formula) →
      finished predicates (to_build f place ∷ to_apply Op.Negate ∷ steps) tracks parts ≡ finished predicates steps tracks (here (Negated f) ∷ parts)
  same-Not f parts =
      taken f (to_apply Op.Negate ∷ steps) parts
      ∙ ap (λ s. finished predicates steps tracks
      (reduced (reductions_to predicates place.rank) place.next (drop place.start tracks) s ∷ parts))
      (sym (sentence-Not f))

  pub same-Implies : (f g : declared_formula.TextFormula) (parts : List Formula) →
      finished predicates (to_build f place ∷ to_build g place ∷ to_apply Op.Imply ∷ steps) tracks parts
      ≡ finished predicates steps tracks (here (Implies f g) ∷ parts)
  same-Implies f g parts =
      taken f (to_build g place ∷ to_apply Op.Imply ∷ steps) parts
      ∙ taken g (to_apply Op.Imply ∷ steps) (here f ∷ parts)
      ∙ ap (λ s. finished predicates steps tracks
      (reduced (reductions_to predicates place.rank) place.next (drop place.start tracks) s ∷ parts))
      (sym (sentence-Implies f g))

  same-others : (c : Connective) (others : List declared_formula.TextFormula) (f : Formula) (parts : List Formula) →
      finished predicates (chain_steps c place others ++ steps) tracks (f ∷ parts)
      ≡ finished predicates steps tracks (fold (joined_of c) f (map here others) ∷ parts)
  same-others c [] f parts = refl
  same-others c (g ∷ others) f parts =
      taken g (to_apply (Op.Join c) ∷ (chain_steps c place others ++ steps)) (f ∷ parts)
      ∙ same-others c others (joined_of c f (here g)) parts

  pub same-Chain : (c : Connective) (first : declared_formula.TextFormula) (others : List declared_formula.TextFormula) (parts : List Formula) →
      finished predicates (to_build first place ∷ (chain_steps c place others ++ steps)) tracks parts
      ≡ finished predicates steps tracks (here (Chain c first others) ∷ parts)
  same-Chain c first others parts =
      taken first (chain_steps c place others ++ steps) parts
      ∙ same-others c others (here first) parts
      ∙ ap (λ f. finished predicates steps tracks (f ∷ parts)) (
      reduced-chain (reductions_to predicates place.rank) place.next (drop place.start tracks) c others (sentence_of first)
      ∙ ap (reduced (reductions_to predicates place.rank) place.next (drop place.start tracks)) (sym (sentence-Chain c first others))
      )

  pub same-Quantified : (q : Quantifier) (names : ℕ) (f : declared_formula.TextFormula) (parts : List Formula) →
      finished predicates
      (to_build f (record { rank = place.rank; start = place.start; next = place.next + names }) ∷ to_forget
      (length tracks) ∷ to_apply (Op.Wrap q place.next names) ∷ steps)
      (tracks ++ tracks_from place.next names) parts
      ≡ finished predicates steps tracks (here (Quantified q names f) ∷ parts)
  same-Quantified q names f parts =
      ap (λ b. cond b (finished predicates
      (to_forget (length tracks) ∷ to_apply (Op.Wrap q place.next names) ∷ steps) (tracks
      ++ tracks_from place.next names) (made ∷ parts)) None) fits
      ∙ ap (λ ts. finished predicates steps ts (wrapped q place.next names made ∷ parts)) (take-append_seam tracks (tracks_from place.next names))
      ∙ ap (λ f. finished predicates steps tracks (f ∷ parts)) (
      ap (λ ts. wrapped q place.next names (reduced (reductions_to predicates place.rank) (place.next + names) ts (sentence_of f)))
      (drop-append-le place.start tracks (tracks_from place.next names) inside)
      ∙ sym (reduced-quantified (reductions_to predicates place.rank) q names place.next (drop place.start tracks) (sentence_of f))
      ∙ ap (reduced (reductions_to predicates place.rank) place.next (drop place.start tracks)) (sym (sentence-Quantified q names f))
      )
    where
      made : Formula
      made = reduced (reductions_to predicates place.rank) (place.next + names) (drop place.start (tracks ++ tracks_from place.next names)) (sentence_of f)

      fits : leb place.start (length (tracks ++ tracks_from place.next names)) ≡ true
      fits = le-leb place.start _ (fit (length-append tracks (tracks_from place.next names)))
        where
          fit : length (tracks ++ tracks_from place.next names) ≡ length tracks + length (tracks_from place.next names) →
              place.start ≤ length (tracks ++ tracks_from place.next names)
          fit e = omega (arith, e, inside)

-- one part of a chain less is left
pub chain-next : (c : Connective) (place : Place) (others : List declared_formula.TextFormula) (left : ℕ)
    (d : declared_formula.TextFormula) (steps : List Step) →
    left < length others →
    to_build (get_or others left d) place ∷ to_apply (Op.Join c) ∷ (chain_steps c place (drop (suc left) others) ++ steps)
    ≡ chain_steps c place (drop left others) ++ steps
chain-next c place others left d steps inside = ap (λ all. chain_steps c place all ++ steps) (sym (drop-cons others left d inside))

-- one track more
pub tracks_from-last : (first names : ℕ) → tracks_from first names ++ (first + names) ∷ [] ≡ tracks_from first (suc names)
tracks_from-last first zero = let e : first + 0 ≡ first = omega arith in ap (λ t. t ∷ []) e
tracks_from-last first (suc names) =
    let e : first + suc names ≡ suc first + names = omega arith in
    ap (λ t. first ∷ (tracks_from (suc first) names ++ t ∷ [])) e ∙ ap (λ ts. first ∷ ts) (tracks_from-last (suc first) names)
