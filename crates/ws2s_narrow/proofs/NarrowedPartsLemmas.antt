-- No part of a narrowed formula is a quantifier that could stand further inside.
use Rattle.std.proofs.Common.{◌≡◌, Bool, true, false, cond, [], ◌∷◌, All, Contains, refl, sym, ap, subst, ◌∙◌}
use Rattle.std.proofs.lemmas.List.Elements.{All-nil, All-cons, All-contains}
use Rattle.gta_theory.proofs.ListsLemmas.{Contains-first, Contains-later}
use Rattle.ws2s_core.specs.declared.track.Track.{Track}
use Rattle.ws2s_core.specs.declared.formula.Formula.{Formula, roll-Formula, out-Formula}
use Rattle.ws2s_core.specs.declared.formula.Formula.TheVariants.{Sub, Single, Succ0, Succ1, Root, And, Not, Ex2, rolls-Sub}
use Rattle.ws2s_core.specs.declared.formula.Formula.TheVariants.{rolls-Single, rolls-Succ0, rolls-Succ1, rolls-Root, rolls-And}
use Rattle.ws2s_core.specs.declared.formula.Formula.TheVariants.{rolls-Not, rolls-Ex2}
use Rattle.ws2s_core.specs.declared.formula.Formula.TheOpen.{Formula-F}
use Rattle.ws2s_core.specs.Parts.{IsPart, itself, deeper}
use Rattle.ws2s_core.specs.Postfix.{parts_of}
use Rattle.ws2s_core.specs.Tracks.{is_free, IsFree}
use Rattle.ws2s_core.proofs.FormulaLemmas.{formula-induction}
use Rattle.ws2s_narrow.specs.Narrowing.{sunk, narrowed, narrowed_node}
use Rattle.ws2s_narrow.proofs.NarrowingLemmas.{sunk-Sub, sunk-Single, sunk-Succ0, sunk-Succ1, sunk-Root, sunk-And, sunk-Not, sunk-Ex2}
use Rattle.ws2s_pass.proofs.PartsLemmas.{out-of, part-through, not-Ex2, EachPart, each-part-of, each-part-fold}

-- where the formula quantifies a conjunction, the track is free on both sides
abbrev IsNarrow : Formula → Type 0
IsNarrow h = (t : Track) (g k : Formula) → h ≡ Ex2 t (And g k) → IsFree t.0 g × IsFree t.0 k

abbrev AllNarrow : Formula → Type 0
AllNarrow = EachPart IsNarrow

not-And : (node : Formula-F Formula) (f g k : Formula) → roll-Formula node ≡ f → f ≡ And g k → node ≡ Formula-F.And g k
not-And node f g k is e = sym (out-of node f is) ∙ ap out-Formula e ∙ out-of (Formula-F.And g k) (And g k) (rolls-And g k)

narrow-unless : (node : Formula-F Formula) → ((t : Track) (g : Formula) → node ≡ Formula-F.Ex2 t g → ⊥) → All AllNarrow (parts_of node) →
    AllNarrow (roll-Formula node)
narrow-unless node differs below = each-part-of IsNarrow node (roll-Formula node) refl
    (λ t g k e. absurd (differs t (And g k) (not-Ex2 node (roll-Formula node) refl t (And g k) e))) below

narrow-Ex2 : (t : Track) (f : Formula) → AllNarrow f → ((g k : Formula) → f ≡ And g k → IsFree t.0 g × IsFree t.0 k) → AllNarrow (Ex2 t f)
narrow-Ex2 t f of_f sides = each-part-of IsNarrow (Formula-F.Ex2 t f) (Ex2 t f) (rolls-Ex2 t f)
    (λ u g k e.
    let same : Formula-F.Ex2 t f ≡ Formula-F.Ex2 u (And g k) = not-Ex2 (Formula-F.Ex2 t f) (Ex2 t f) (rolls-Ex2 t f) u (And g k) e in
    let track : t ≡ u = cc in
    let inner : f ≡ And g k = cc in
    subst (λ (v : Track). IsFree v.0 g × IsFree v.0 k) track (sides g k inner))
    (All-cons AllNarrow f [] of_f (All-nil AllNarrow))

narrow-And : (f g : Formula) → AllNarrow f → AllNarrow g → AllNarrow (And f g)
narrow-And f g of_f of_g = subst AllNarrow (rolls-And f g)
    (narrow-unless (Formula-F.And f g) (λ t h e. cc) (All-cons AllNarrow f (g ∷ []) of_f (All-cons AllNarrow g [] of_g (All-nil AllNarrow))))

-- a formula of another form has no sides
stays : (t : Track) (node : Formula-F Formula) (f : Formula) → roll-Formula node ≡ f → ((g k : Formula) → node ≡ Formula-F.And g k → ⊥) →
    sunk t f ≡ Ex2 t f → AllNarrow f → AllNarrow (sunk t f)
stays t node f is differs e of_f = subst AllNarrow (sym e)
    (narrow-Ex2 t f of_f (λ g k same. absurd (differs g k (not-And node f g k is same))))

below-And : (f g : Formula) → AllNarrow (And f g) → AllNarrow f × AllNarrow g
below-And f g both = (
  (λ h part. both h (part-through (And f g) f h (deeper (And f g) f itself (there f (Contains-first f (g ∷ [])))) part)),
  (λ h part. both h (part-through (And f g) g h (deeper (And f g) g itself (there g (Contains-later f g (g ∷ []) (Contains-first g [])))) part)),
)
  where
    there : (p : Formula) → Contains (f ∷ g ∷ []) p → Contains (parts_of (out-Formula (And f g))) p
    there p within = subst (λ n. Contains (parts_of n) p) (sym (out-of (Formula-F.And f g) (And f g) (rolls-And f g))) within

pick : (t : Track) (f g : Formula) → AllNarrow f → AllNarrow g → AllNarrow (sunk t f) → AllNarrow (sunk t g) → (b c : Bool) →
    is_free t.0 f ≡ b → is_free t.0 g ≡ c →
    AllNarrow (cond b (cond c (Ex2 t (And f g)) (And (sunk t f) g)) (And f (sunk t g)))
pick t f g of_f of_g in_f in_g true true e d = narrow-Ex2 t (And f g) (narrow-And f g of_f of_g) (λ h k is.
    let same : Formula-F.And f g ≡ Formula-F.And h k = not-And (Formula-F.And f g) (And f g) h k (rolls-And f g) is in
    let left : f ≡ h = cc in
    let right : g ≡ k = cc in
    (subst (λ p. IsFree t.0 p) left e, subst (λ p. IsFree t.0 p) right d))
pick t f g of_f of_g in_f in_g true false e d = narrow-And (sunk t f) g in_f of_g
pick t f g of_f of_g in_f in_g false c e d = narrow-And f (sunk t g) of_f in_g

sunk-narrow : (t : Track) (f : Formula) → AllNarrow f → AllNarrow (sunk t f)
sunk-narrow t = formula-induction (λ f. AllNarrow f → AllNarrow (sunk t f)) (record {
  of_Sub = λ x y. stays t (Formula-F.Sub x y) (Sub x y) (rolls-Sub x y) (λ g k e. cc) (sunk-Sub t x y);
  of_Single = λ x. stays t (Formula-F.Single x) (Single x) (rolls-Single x) (λ g k e. cc) (sunk-Single t x);
  of_Succ0 = λ x y. stays t (Formula-F.Succ0 x y) (Succ0 x y) (rolls-Succ0 x y) (λ g k e. cc) (sunk-Succ0 t x y);
  of_Succ1 = λ x y. stays t (Formula-F.Succ1 x y) (Succ1 x y) (rolls-Succ1 x y) (λ g k e. cc) (sunk-Succ1 t x y);
  of_Root = λ x. stays t (Formula-F.Root x) (Root x) (rolls-Root x) (λ g k e. cc) (sunk-Root t x);
  of_And = λ f g in_f in_g both.
      let sides = below-And f g both in
      subst AllNarrow (sym (sunk-And t f g)) (pick t f g sides.0 sides.1 (in_f sides.0) (in_g sides.1) (is_free t.0 f) (is_free t.0 g) refl refl);
  of_Not = λ f in_f. stays t (Formula-F.Not f) (Not f) (rolls-Not f) (λ g k e. cc) (sunk-Not t f);
  of_Ex2 = λ u f in_f. stays t (Formula-F.Ex2 u f) (Ex2 u f) (rolls-Ex2 u f) (λ g k e. cc) (sunk-Ex2 t u f);
})

narrow-step : (node : Formula-F Formula) → All AllNarrow (parts_of node) → AllNarrow (narrowed_node node)
narrow-step (Formula-F.Ex2 t f) below = sunk-narrow t f (All-contains AllNarrow (f ∷ []) f below (Contains-first f []))
narrow-step (Formula-F.Sub x y) below = narrow-unless (Formula-F.Sub x y) (λ t g e. cc) below
narrow-step (Formula-F.Single x) below = narrow-unless (Formula-F.Single x) (λ t g e. cc) below
narrow-step (Formula-F.Succ0 x y) below = narrow-unless (Formula-F.Succ0 x y) (λ t g e. cc) below
narrow-step (Formula-F.Succ1 x y) below = narrow-unless (Formula-F.Succ1 x y) (λ t g e. cc) below
narrow-step (Formula-F.Root x) below = narrow-unless (Formula-F.Root x) (λ t g e. cc) below
narrow-step (Formula-F.And f g) below = narrow-unless (Formula-F.And f g) (λ t h e. cc) below
narrow-step (Formula-F.Not f) below = narrow-unless (Formula-F.Not f) (λ t g e. cc) below

pub narrowed-part : (f g h : Formula) (t : Track) → IsPart (narrowed f) (Ex2 t (And g h)) → IsFree t.0 g × IsFree t.0 h
narrowed-part f g h t part = each-part-fold IsNarrow narrowed_node narrow-step f (Ex2 t (And g h)) part t g h refl
