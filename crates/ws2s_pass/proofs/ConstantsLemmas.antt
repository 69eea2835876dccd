-- On formulas with their constants folded.
use Rattle.std.proofs.Common.{◌≡◌, ℕ, ◌+◌, ◌≤◌, Bool, true, false, cond, eqb, ◌||◌, ◌&&◌, IsTrue, [], ◌∷◌, ◌++◌, length}
use Rattle.std.proofs.Common.{refl, sym, ap, subst, ◌∙◌, arith, eqb-true, length-append}
use Rattle.std.proofs.lemmas.Bool.{false≢true}
use Rattle.gta_theory.specs.Assignments.{Position, PositionSet, Assignment, IsFinite, IsOnly, replace}
use Rattle.ws2s_core.specs.declared.track.Track.{Track}
use Rattle.ws2s_core.specs.declared.formula.Formula.{Formula, roll-Formula, out-Formula}
use Rattle.ws2s_core.specs.declared.formula.Formula.TheVariants.{Sub, Single, Succ0, Succ1, Root, And, Not, Ex2}
use Rattle.ws2s_core.specs.declared.formula.Formula.TheVariants.{rolls-Single, rolls-And}
use Rattle.ws2s_core.specs.declared.formula.Formula.TheVariants.{rolls-Not, rolls-Ex2}
use Rattle.ws2s_core.specs.declared.formula.Formula.TheOpen.{Formula-F}
use Rattle.ws2s_core.specs.Satisfaction.{WSat, Same}
use Rattle.ws2s_core.specs.Sizes.{node_count, count_of_node}
use Rattle.ws2s_core.specs.Tracks.{is_free, is_free_in_node}
use Rattle.ws2s_core.specs.Negated.{negated, negated_of_node}
use Rattle.ws2s_core.proofs.FormulaLemmas.{formula-induction, fold-Sub, fold-Single, fold-Succ0, fold-Succ1, fold-Root, fold-And, fold-Not, fold-Ex2}
use Rattle.ws2s_core.proofs.SatisfactionLemmas.{WSat-Sub, WSat-Succ0, WSat-Succ1, WSat-And, WSat-Not, WSat-Ex2}
use Rattle.ws2s_theory.proofs.ContextsLemmas.{IsFinite-replace, WSat-quantified}
use Rattle.ws2s_pass.specs.declared.fold.Folded.{Folded}
use Rattle.ws2s_pass.specs.declared.fold.Folded.TheVariants.{Constant, Open}
use Rattle.ws2s_pass.specs.Rewriting.{IsRewriting}
use Rattle.ws2s_pass.specs.Constants.{is_single, is_single_node, is_single_of_some, is_contradiction, is_contradiction_node, conjunction_of, opposite_of}
use Rattle.ws2s_pass.specs.Constants.{quantified_over, folded, folded_node, first_track, constant_formula, constant_for, settled, without_constants}
use Rattle.ws2s_pass.proofs.RewritingLemmas.{IsRewriting-refl, IsRewriting-trans, IsRewriting-and, IsRewriting-not, IsRewriting-ex2, rolled-out}
use Rattle.ws2s_pass.proofs.RewritingLemmas.{count-And, count-Not, count-Ex2, free-And, free-Ex2}

-- what a folded formula says of the whole
abbrev Means : Formula → Folded → Type 0
Means f (Constant true) = (a : Assignment) → IsFinite a → WSat f a
Means f (Constant false) = (a : Assignment) → IsFinite a → WSat f a → ⊥
Means f (Open g) = IsRewriting f g

and-left : (b c : Bool) → b && c ≡ true → b ≡ true
and-left true c e = refl
and-left false c e = e

and-right : (b c : Bool) → b && c ≡ true → c ≡ true
and-right true c e = e
and-right false c e = absurd (false≢true e)

-- `Single t` and its negation
single-is : (t : ℕ) (f : Formula) → is_single t f ≡ true → f ≡ Single (record { 0 = t })
single-is t f e = pick (out-Formula f) e (rolled-out f)
  where
    pick : (node : Formula-F Formula) → is_single_node t node ≡ true → roll-Formula node ≡ f → f ≡ Single (record { 0 = t })
    pick (Formula-F.Single x) e is = sym is ∙ rolls-Single x ∙ ap (λ (n : ℕ). Single (record { 0 = n })) (eqb-true x.0 t e)
    pick (Formula-F.Sub x y) e is = absurd (false≢true e)
    pick (Formula-F.Succ0 x y) e is = absurd (false≢true e)
    pick (Formula-F.Succ1 x y) e is = absurd (false≢true e)
    pick (Formula-F.Root x) e is = absurd (false≢true e)
    pick (Formula-F.And g h) e is = absurd (false≢true e)
    pick (Formula-F.Not g) e is = absurd (false≢true e)
    pick (Formula-F.Ex2 u g) e is = absurd (false≢true e)

no-single-is : (t : ℕ) (f : Formula) → is_single_of_some t (negated f) ≡ true → f ≡ Not (Single (record { 0 = t }))
no-single-is t f e = pick (out-Formula f) e (rolled-out f)
  where
    pick : (node : Formula-F Formula) → is_single_of_some t (negated_of_node node) ≡ true → roll-Formula node ≡ f → f ≡ Not (Single (record { 0 = t }))
    pick (Formula-F.Not g) e is = sym is ∙ rolls-Not g ∙ ap Not (single-is t g e)
    pick (Formula-F.Sub x y) e is = absurd (false≢true e)
    pick (Formula-F.Single x) e is = absurd (false≢true e)
    pick (Formula-F.Succ0 x y) e is = absurd (false≢true e)
    pick (Formula-F.Succ1 x y) e is = absurd (false≢true e)
    pick (Formula-F.Root x) e is = absurd (false≢true e)
    pick (Formula-F.And g h) e is = absurd (false≢true e)
    pick (Formula-F.Ex2 u g) e is = absurd (false≢true e)

contradiction-fails : (t : ℕ) (f : Formula) → is_contradiction t f ≡ true → (a : Assignment) → WSat f a → ⊥
contradiction-fails t f e a = pick (out-Formula f) e (rolled-out f)
  where
    pick : (node : Formula-F Formula) → is_contradiction_node t node ≡ true → roll-Formula node ≡ f → WSat f a → ⊥
    pick (Formula-F.And g h) e is = λ sat.
        let one = single-is t g (and-left (is_single t g) (is_single_of_some t (negated h)) e) in
        let two = no-single-is t h (and-right (is_single t g) (is_single_of_some t (negated h)) e) in
        let both = (WSat-And g h a).0 (subst (λ k. WSat k a) (sym is ∙ rolls-And g h) sat) in
        (WSat-Not (Single (record { 0 = t })) a).0 (subst (λ k. WSat k a) two both.1) (subst (λ k. WSat k a) one both.0)
    pick (Formula-F.Sub x y) e is = absurd (false≢true e)
    pick (Formula-F.Single x) e is = absurd (false≢true e)
    pick (Formula-F.Succ0 x y) e is = absurd (false≢true e)
    pick (Formula-F.Succ1 x y) e is = absurd (false≢true e)
    pick (Formula-F.Root x) e is = absurd (false≢true e)
    pick (Formula-F.Not g) e is = absurd (false≢true e)
    pick (Formula-F.Ex2 u g) e is = absurd (false≢true e)

-- a position is no child of its own
no-own-child : (set : PositionSet) (u : Position) (b : Bool) → IsOnly set u → IsOnly set (u ++ b ∷ []) → ⊥
no-own-child set u b one two =
    let e : u ≡ u ++ b ∷ [] = (two u).0 ((one u).1 refl) in
    let long : length u ≡ length u + 1 = ap length e ∙ length-append u (b ∷ []) in
    omega arith

means-Sub : (x y : Track) (b : Bool) → eqb x.0 y.0 ≡ b → Means (Sub x y) (cond b (Constant true) (Open (Sub x y)))
means-Sub x y true e = λ a finite. (WSat-Sub x y a).1 (λ p inside. subst (λ (t : ℕ). IsTrue (a t p)) (eqb-true x.0 y.0 e) inside)
means-Sub x y false e = IsRewriting-refl (Sub x y)

means-Succ0 : (x y : Track) (b : Bool) → eqb x.0 y.0 ≡ b → Means (Succ0 x y) (cond b (Constant false) (Open (Succ0 x y)))
means-Succ0 x y true e = λ a finite sat.
    let u = (WSat-Succ0 x y a).0 sat in
    no-own-child (a y.0) u.0 false (subst (λ (t : ℕ). IsOnly (a t) u.0) (eqb-true x.0 y.0 e) u.1) u.2
means-Succ0 x y false e = IsRewriting-refl (Succ0 x y)

means-Succ1 : (x y : Track) (b : Bool) → eqb x.0 y.0 ≡ b → Means (Succ1 x y) (cond b (Constant false) (Open (Succ1 x y)))
means-Succ1 x y true e = λ a finite sat.
    let u = (WSat-Succ1 x y a).0 sat in
    no-own-child (a y.0) u.0 true (subst (λ (t : ℕ). IsOnly (a t) u.0) (eqb-true x.0 y.0 e) u.1) u.2
means-Succ1 x y false e = IsRewriting-refl (Succ1 x y)

-- where one side always holds, the conjunction is the other side
right-alone : (f g : Formula) → ((a : Assignment) → IsFinite a → WSat f a) → IsRewriting (And f g) g
right-alone f g holds = record {
  same = record { satisfied = λ a finite. ((λ h. ((WSat-And f g a).0 h).1), (λ h. (WSat-And f g a).1 (holds a finite, h))) };
  free = λ t free. free-And t f g ∙ or-right (is_free t f) (is_free t g) free;
  size = (let e = count-And f g in omega arith);
}
  where
    or-right : (b c : Bool) → c ≡ true → b || c ≡ true
    or-right true c e = refl
    or-right false c e = e

left-alone : (f g : Formula) → ((a : Assignment) → IsFinite a → WSat g a) → IsRewriting (And f g) f
left-alone f g holds = record {
  same = record { satisfied = λ a finite. ((λ h. ((WSat-And f g a).0 h).0), (λ h. (WSat-And f g a).1 (h, holds a finite))) };
  free = λ t free. free-And t f g ∙ ap (λ b. b || is_free t g) free;
  size = (let e = count-And f g in omega arith);
}

means-And : (f g : Formula) (F G : Folded) → Means f F → Means g G → Means (And f g) (conjunction_of F G)
means-And f g (Constant true) (Constant true) on_f on_g = λ a finite. (WSat-And f g a).1 (on_f a finite, on_g a finite)
means-And f g (Constant true) (Constant false) on_f on_g = λ a finite sat. on_g a finite ((WSat-And f g a).0 sat).1
means-And f g (Constant true) (Open g') on_f on_g = IsRewriting-trans (And f g) g g' (right-alone f g on_f) on_g
means-And f g (Constant false) G on_f on_g = λ a finite sat. on_f a finite ((WSat-And f g a).0 sat).0
means-And f g (Open f') (Constant true) on_f on_g = IsRewriting-trans (And f g) f f' (left-alone f g on_g) on_f
means-And f g (Open f') (Constant false) on_f on_g = λ a finite sat. on_g a finite ((WSat-And f g a).0 sat).1
means-And f g (Open f') (Open g') on_f on_g = IsRewriting-and f g f' g' on_f on_g

means-Not : (f : Formula) (F : Folded) → Means f F → Means (Not f) (opposite_of F)
means-Not f (Constant true) on_f = λ a finite sat. (WSat-Not f a).0 sat (on_f a finite)
means-Not f (Constant false) on_f = λ a finite. (WSat-Not f a).1 (on_f a finite)
means-Not f (Open f') on_f = IsRewriting-not f f' on_f

means-open : (t : Track) (f f' : Formula) → IsRewriting f f' → (b : Bool) → is_contradiction t.0 f' ≡ b →
    Means (Ex2 t f) (cond b (Constant false) (Open (Ex2 t f')))
means-open t f f' on_f true e = λ a finite sat.
    let set = (WSat-Ex2 t f a).0 sat in
    let b = replace a t.0 set.0 in
    contradiction-fails t.0 f' e b ((on_f.same.satisfied b (IsFinite-replace a t.0 set.0 finite set.1)).0 set.2)
means-open t f f' on_f false e = IsRewriting-ex2 t f f' on_f

means-Ex2 : (t : Track) (f : Formula) (F : Folded) → Means f F → Means (Ex2 t f) (quantified_over t F)
means-Ex2 t f (Constant true) on_f = λ a finite. WSat-quantified t f a finite (on_f a finite)
means-Ex2 t f (Constant false) on_f = λ a finite sat.
    let set = (WSat-Ex2 t f a).0 sat in
    on_f (replace a t.0 set.0) (IsFinite-replace a t.0 set.0 finite set.1) set.2
means-Ex2 t f (Open f') on_f = means-open t f f' on_f (is_contradiction t.0 f') refl

means-folded : (f : Formula) → Means f (folded f)
means-folded = formula-induction (λ f. Means f (folded f)) (record {
  of_Sub = λ x y. subst (Means (Sub x y)) (sym (fold-Sub Folded folded_node x y)) (means-Sub x y (eqb x.0 y.0) refl);
  of_Single = λ x. subst (Means (Single x)) (sym (fold-Single Folded folded_node x)) (IsRewriting-refl (Single x));
  of_Succ0 = λ x y. subst (Means (Succ0 x y)) (sym (fold-Succ0 Folded folded_node x y)) (means-Succ0 x y (eqb x.0 y.0) refl);
  of_Succ1 = λ x y. subst (Means (Succ1 x y)) (sym (fold-Succ1 Folded folded_node x y)) (means-Succ1 x y (eqb x.0 y.0) refl);
  of_Root = λ x. subst (Means (Root x)) (sym (fold-Root Folded folded_node x)) (IsRewriting-refl (Root x));
  of_And = λ f g of_f of_g. subst (Means (And f g)) (sym (fold-And Folded folded_node f g)) (means-And f g (folded f) (folded g) of_f of_g);
  of_Not = λ f of_f. subst (Means (Not f)) (sym (fold-Not Folded folded_node f)) (means-Not f (folded f) of_f);
  of_Ex2 = λ t f of_f. subst (Means (Ex2 t f)) (sym (fold-Ex2 Folded folded_node t f)) (means-Ex2 t f (folded f) of_f);
})

-- every formula has a node
some-node : (f : Formula) → 1 ≤ node_count f
some-node = formula-induction (λ f. 1 ≤ node_count f) (record {
  of_Sub = λ x y. (let e : node_count (Sub x y) ≡ 1 = fold-Sub ℕ count_of_node x y in omega arith);
  of_Single = λ x. (let e : node_count (Single x) ≡ 1 = fold-Single ℕ count_of_node x in omega arith);
  of_Succ0 = λ x y. (let e : node_count (Succ0 x y) ≡ 1 = fold-Succ0 ℕ count_of_node x y in omega arith);
  of_Succ1 = λ x y. (let e : node_count (Succ1 x y) ≡ 1 = fold-Succ1 ℕ count_of_node x y in omega arith);
  of_Root = λ x. (let e : node_count (Root x) ≡ 1 = fold-Root ℕ count_of_node x in omega arith);
  of_And = λ f g of_f of_g. (let e = count-And f g in omega arith);
  of_Not = λ f of_f. (let e = count-Not f in omega arith);
  of_Ex2 = λ t f of_f. (let e = count-Ex2 t f in omega arith);
})

-- the constants as formulas
count-constant : (truth : Bool) → node_count (constant_formula truth) ≡ 2
count-constant true = count-Ex2 first_track (Sub first_track first_track) ∙ ap (λ n. n + 1) (fold-Sub ℕ count_of_node first_track first_track)
count-constant false = count-Ex2 first_track (Succ0 first_track first_track) ∙ ap (λ n. n + 1) (fold-Succ0 ℕ count_of_node first_track first_track)

no-free : (t : ℕ) (b : Bool) → eqb 0 t ≡ b → cond b false (eqb 0 t || eqb 0 t) ≡ false
no-free t true e = refl
no-free t false e = ap (λ c. c || c) e

closed-constant : (t : ℕ) (truth : Bool) → is_free t (constant_formula truth) ≡ false
closed-constant t true = free-Ex2 t first_track (Sub first_track first_track)
    ∙ ap (cond (eqb 0 t) false) (fold-Sub Bool (is_free_in_node t) first_track first_track) ∙ no-free t (eqb 0 t) refl
closed-constant t false = free-Ex2 t first_track (Succ0 first_track first_track)
    ∙ ap (cond (eqb 0 t) false) (fold-Succ0 Bool (is_free_in_node t) first_track first_track) ∙ no-free t (eqb 0 t) refl

means-constant : (truth : Bool) → Means (constant_formula truth) (Constant truth)
means-constant true = means-Ex2 first_track (Sub first_track first_track) (Constant true) (means-Sub first_track first_track true refl)
means-constant false = means-Ex2 first_track (Succ0 first_track first_track) (Constant false) (means-Succ0 first_track first_track true refl)

constant-same : (f : Formula) (truth : Bool) → Means f (Constant truth) → Same f (constant_formula truth)
constant-same f true on_f = record { satisfied = λ a finite. ((λ h. means-constant true a finite), (λ h. on_f a finite)) }
constant-same f false on_f = record {
  satisfied = λ a finite. ((λ h. absurd (on_f a finite h)), (λ h. absurd (means-constant false a finite h)));
}

IsRewriting-constant : (f : Formula) (truth : Bool) → Means f (Constant truth) → 2 ≤ node_count f → IsRewriting f (constant_formula truth)
IsRewriting-constant f truth on_f large = record {
  same = constant-same f truth on_f;
  free = λ t free. absurd (false≢true (sym (closed-constant t truth) ∙ free));
  size = (let e = count-constant truth in omega arith);
}

IsRewriting-settled : (f : Formula) (F : Folded) → Means f F → IsRewriting f (settled f F)
IsRewriting-settled f (Open g) on_f = on_f
IsRewriting-settled f (Constant truth) on_f = pick (out-Formula f) (rolled-out f)
  where
    stays : (node : Formula-F Formula) → roll-Formula node ≡ f → IsRewriting f (roll-Formula node)
    stays node is = subst (IsRewriting f) (sym is) (IsRewriting-refl f)

    large : (g : Formula) → g ≡ f → 2 ≤ node_count g → IsRewriting f (constant_formula truth)
    large g is two = IsRewriting-constant f truth on_f (subst (λ h. 2 ≤ node_count h) is two)

    pick : (node : Formula-F Formula) → roll-Formula node ≡ f → IsRewriting f (constant_for node truth)
    pick (Formula-F.And g h) is = large (And g h) (sym (rolls-And g h) ∙ is)
        (let e = count-And g h in let one = some-node g in let two = some-node h in omega arith)
    pick (Formula-F.Not g) is = large (Not g) (sym (rolls-Not g) ∙ is) (let e = count-Not g in let one = some-node g in omega arith)
    pick (Formula-F.Ex2 t g) is = large (Ex2 t g) (sym (rolls-Ex2 t g) ∙ is) (let e = count-Ex2 t g in let one = some-node g in omega arith)
    pick (Formula-F.Sub x y) is = stays (Formula-F.Sub x y) is
    pick (Formula-F.Single x) is = stays (Formula-F.Single x) is
    pick (Formula-F.Succ0 x y) is = stays (Formula-F.Succ0 x y) is
    pick (Formula-F.Succ1 x y) is = stays (Formula-F.Succ1 x y) is
    pick (Formula-F.Root x) is = stays (Formula-F.Root x) is

pub IsRewriting-without_constants : (f : Formula) → IsRewriting f (without_constants f)
IsRewriting-without_constants f = IsRewriting-settled f (folded f) (means-folded f)
