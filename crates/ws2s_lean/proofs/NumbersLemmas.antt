-- On formulas by numbers.
use Rattle.std.proofs.Common.{◌≡◌, ℕ, ◌<◌, List, [], ◌∷◌, ◌++◌, length, option_map, slice_get, unwrap_or, Some}
use Rattle.std.proofs.Common.{refl, sym, ap, subst, ◌∙◌, arith, length-append}
use Rattle.std.proofs.lemmas.Option.{slice_get_within}
use Rattle.std.proofs.lemmas.List.Elements.{All-nil, All-cons, All-head, All-tail}
use Rattle.gta_theory.proofs.ListedLemmas.{slice_get-front}
use Rattle.ws2s_core.specs.declared.track.Track.{Track}
use Rattle.ws2s_core.specs.declared.formula.Formula.{Formula}
use Rattle.ws2s_core.specs.declared.formula.Formula.TheVariants.{Root, And, Not, Ex2, rolls-And, rolls-Not, rolls-Ex2}
use Rattle.ws2s_core.specs.declared.node.FormulaId.{FormulaId}
use Rattle.ws2s_core.specs.declared.node.Node.{Node}
use Rattle.ws2s_core.specs.Nodes.{formula_at, formula_of_node, HasPartsBelow, Extends}
use Rattle.ws2s_core.proofs.NodesLemmas.{formula_at-is}
use Rattle.ws2s_lean.specs.Conjunctions.{IsThere, formula_of}

-- the same list, and one that was extended twice
pub Extends-refl : (formulas : List Formula) → Extends formulas formulas
Extends-refl formulas = record { more = []; is = sym (append-none formulas) }
  where
    append-none : (xs : List Formula) → xs ++ [] ≡ xs
    append-none [] = refl
    append-none (x ∷ xs) = ap (λ ys. x ∷ ys) (append-none xs)

pub Extends-trans : (a b c : List Formula) → Extends a b → Extends b c → Extends a c
Extends-trans a b c first second = record {
  more = first.more ++ second.more;
  is = second.is ∙ ap (λ xs. xs ++ second.more) first.is ∙ append-three a first.more second.more;
}
  where
    append-three : (xs ys zs : List Formula) → (xs ++ ys) ++ zs ≡ xs ++ (ys ++ zs)
    append-three [] ys zs = refl
    append-three (x ∷ xs) ys zs = ap (λ rest. x ∷ rest) (append-three xs ys zs)

-- formulas keep their numbers
pub at-extends : (old new : List Formula) (id : FormulaId) → Extends old new → IsThere old id → formula_of new id ≡ formula_of old id
at-extends old new id h there = ap (λ formulas. formula_at formulas id.0) h.is ∙ ap (λ o. unwrap_or o (Root (record { 0 = 0 })))
    (slice_get-front old h.more id.0 there)

pub there-extends : (old new : List Formula) (id : FormulaId) → Extends old new → IsThere old id → IsThere new id
there-extends old new id h there = omega (arith, ap length h.is, length-append old h.more)

-- the formula at a number, by its form
pub at-And : (formulas : List Formula) (id f g : FormulaId) (node : Node) → option_map (formula_of_node formulas) (Some node) ≡ slice_get formulas id.0 →
    node ≡ Node.And f g → formula_of formulas id ≡ And (formula_of formulas f) (formula_of formulas g)
at-And formulas id f g node value e =
    formula_at-is formulas id.0 _ (sym value) ∙ ap (formula_of_node formulas) e ∙ rolls-And (formula_of formulas f) (formula_of formulas g)

pub node-Not : (formulas : List Formula) (f : FormulaId) (node : Node) → node ≡ Node.Not f → formula_of_node formulas node ≡ Not (formula_of formulas f)
node-Not formulas f node e = ap (formula_of_node formulas) e ∙ rolls-Not (formula_of formulas f)

pub node-Ex2 : (formulas : List Formula) (t : Track) (f : FormulaId) (node : Node) → node ≡ Node.Ex2 t f →
    formula_of_node formulas node ≡ Ex2 t (formula_of formulas f)
node-Ex2 formulas t f node e = ap (formula_of_node formulas) e ∙ rolls-Ex2 t (formula_of formulas f)

-- the formula of a number that was made by a form
pub made-And : (old new : List Formula) (made f g : FormulaId) → slice_get new made.0 ≡ Some (formula_of_node old (Node.And f g)) →
    formula_of new made ≡ And (formula_of old f) (formula_of old g)
made-And old new made f g e = formula_at-is new made.0 _ e ∙ rolls-And (formula_of old f) (formula_of old g)

pub made-Not : (old new : List Formula) (made f : FormulaId) → slice_get new made.0 ≡ Some (formula_of_node old (Node.Not f)) →
    formula_of new made ≡ Not (formula_of old f)
made-Not old new made f e = formula_at-is new made.0 _ e ∙ rolls-Not (formula_of old f)

pub made-Ex2 : (old new : List Formula) (t : Track) (made f : FormulaId) → slice_get new made.0 ≡ Some (formula_of_node old (Node.Ex2 t f)) →
    formula_of new made ≡ Ex2 t (formula_of old f)
made-Ex2 old new t made f e = formula_at-is new made.0 _ e ∙ rolls-Ex2 t (formula_of old f)

pub there-made : (formulas : List Formula) (k : ℕ) (f : Formula) → slice_get formulas k ≡ Some f → k < length formulas
there-made formulas k f e = slice_get_within formulas k f e

-- the parts of a form are below
pub halves-below : (k : ℕ) (f g : FormulaId) (node : Node) → HasPartsBelow k node → node ≡ Node.And f g → (f.0 < k) × (g.0 < k)
halves-below k f g node h e =
    let below : HasPartsBelow k (Node.And f g) = subst (HasPartsBelow k) e h in
    (All-head (λ part. part < k) f.0 (g.0 ∷ []) below, All-head (λ part. part < k) g.0 [] (All-tail (λ part. part < k) f.0 (g.0 ∷ []) below))

pub inner-below_not : (k : ℕ) (f : FormulaId) (node : Node) → HasPartsBelow k node → node ≡ Node.Not f → f.0 < k
inner-below_not k f node h e = All-head (λ part. part < k) f.0 [] (subst (HasPartsBelow k) e h)

pub inner-below_ex2 : (k : ℕ) (t : Track) (f : FormulaId) (node : Node) → HasPartsBelow k node → node ≡ Node.Ex2 t f → f.0 < k
inner-below_ex2 k t f node h e = All-head (λ part. part < k) f.0 [] (subst (HasPartsBelow k) e h)

pub parts-And : (k : ℕ) (f g : FormulaId) → f.0 < k → g.0 < k → HasPartsBelow k (Node.And f g)
parts-And k f g left right = All-cons (λ part. part < k) f.0 (g.0 ∷ []) left (All-cons (λ part. part < k) g.0 [] right (All-nil (λ part. part < k)))

pub parts-Not : (k : ℕ) (f : FormulaId) → f.0 < k → HasPartsBelow k (Node.Not f)
parts-Not k f below = All-cons (λ part. part < k) f.0 [] below (All-nil (λ part. part < k))

pub parts-Ex2 : (k : ℕ) (t : Track) (f : FormulaId) → f.0 < k → HasPartsBelow k (Node.Ex2 t f)
parts-Ex2 k t f below = All-cons (λ part. part < k) f.0 [] below (All-nil (λ part. part < k))
