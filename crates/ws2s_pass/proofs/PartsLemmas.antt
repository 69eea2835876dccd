-- What no part of a rewritten formula is.
use Rattle.std.proofs.Common.{◌≡◌, Bool, true, false, cond, ◌⊎◌, inl, inr, [], ◌∷◌, All, Contains, unwrap_or}
use Rattle.std.proofs.Common.{refl, sym, ap, subst, ◌∙◌}
use Rattle.std.proofs.lemmas.List.Elements.{All-nil, All-cons, All-contains}
use Rattle.gta_theory.proofs.ListsLemmas.{Contains-first}
use Rattle.ws2s_core.specs.declared.track.Track.{Track}
use Rattle.ws2s_core.specs.declared.formula.Formula.{Formula, roll-Formula, out-Formula, out-roll-Formula}
use Rattle.ws2s_core.specs.declared.formula.Formula.TheVariants.{Not, Ex2, rolls-Not, rolls-Ex2}
use Rattle.ws2s_core.specs.declared.formula.Formula.TheOpen.{Formula-F}
use Rattle.ws2s_core.specs.declared.formula.Formula.TheFolds.{fold-Formula}
use Rattle.ws2s_core.specs.Negated.{negated_of_node}
use Rattle.ws2s_core.specs.Parts.{IsPart, itself, deeper}
use Rattle.ws2s_core.specs.Postfix.{parts_of}
use Rattle.ws2s_core.specs.Tracks.{is_free, IsFree}
use Rattle.ws2s_core.proofs.FormulaLemmas.{formula-induction, fold-Sub, fold-Single, fold-Succ0, fold-Succ1, fold-Root, fold-And, fold-Not, fold-Ex2}
use Rattle.ws2s_pass.specs.Flattening.{flattened, flattened_node}
use Rattle.ws2s_pass.specs.Using.{without_unused, used_node}
use Rattle.ws2s_pass.proofs.RewritingLemmas.{rolled-out}

-- a formula's form
pub out-of : (node : Formula-F Formula) (f : Formula) → roll-Formula node ≡ f → out-Formula f ≡ node
out-of node f is = ap out-Formula (sym is) ∙ out-roll-Formula node

-- a part of a formula is the formula, or a part of one of its parts
pub part-cases : (w h : Formula) → IsPart w h → (w ≡ h) ⊎ ((p : Formula) × Contains (parts_of (out-Formula w)) p × IsPart p h)
part-cases w _ itself = inl refl
part-cases w _ (deeper f g part there) =
    elim (part-cases w f part) as (λ _. (w ≡ g) ⊎ ((p : Formula) × Contains (parts_of (out-Formula w)) p × IsPart p g)) [
      | inl same ↦ inr (g, subst (λ k. Contains (parts_of (out-Formula k)) g) (sym same) there, itself)
      | inr below ↦ inr (below.0, below.1, deeper f g below.2 there)
    ]

-- a part of a part is one
pub part-through : (w p h : Formula) → IsPart w p → IsPart p h → IsPart w h
part-through w p _ first itself = first
part-through w p _ first (deeper f g part there) = deeper f g (part-through w p f first part) there

module _ (P : Formula → Type 0) where
  abbrev pub EachPart : Formula → Type 0
  EachPart f = (h : Formula) → IsPart f h → P h

  each-part : (w : Formula) → P w → All EachPart (parts_of (out-Formula w)) → EachPart w
  each-part w here below h part = elim (part-cases w h part) as (λ _. P h) [
    | inl same ↦ subst P same here
    | inr found ↦ All-contains EachPart (parts_of (out-Formula w)) found.0 below found.1 h found.2
  ]

  pub each-part-of : (node : Formula-F Formula) (w : Formula) → roll-Formula node ≡ w → P w → All EachPart (parts_of node) → EachPart w
  each-part-of node w is here below = each-part w here (subst (All EachPart) (sym (ap parts_of (out-of node w is))) below)

  -- what each step keeps, the fold has
  pub each-part-fold : (step : Formula-F Formula → Formula) → ((node : Formula-F Formula) → All EachPart (parts_of node) → EachPart (step node)) →
      (f : Formula) → EachPart (fold-Formula Formula step f)
  each-part-fold step local = formula-induction (λ f. (h : Formula) → IsPart (fold-Formula Formula step f) h → P h) (record {
    of_Sub = λ x y. subst EachPart (sym (fold-Sub Formula step x y)) (local (Formula-F.Sub x y) (All-nil EachPart));
    of_Single = λ x. subst EachPart (sym (fold-Single Formula step x)) (local (Formula-F.Single x) (All-nil EachPart));
    of_Succ0 = λ x y. subst EachPart (sym (fold-Succ0 Formula step x y)) (local (Formula-F.Succ0 x y) (All-nil EachPart));
    of_Succ1 = λ x y. subst EachPart (sym (fold-Succ1 Formula step x y)) (local (Formula-F.Succ1 x y) (All-nil EachPart));
    of_Root = λ x. subst EachPart (sym (fold-Root Formula step x)) (local (Formula-F.Root x) (All-nil EachPart));
    of_And = λ f g of_f of_g. subst EachPart (sym (fold-And Formula step f g))
        (local (Formula-F.And (fold-Formula Formula step f) (fold-Formula Formula step g))
        (All-cons EachPart (fold-Formula Formula step f) (fold-Formula Formula step g ∷ []) of_f
        (All-cons EachPart (fold-Formula Formula step g) [] of_g (All-nil EachPart))));
    of_Not = λ f of_f. subst EachPart (sym (fold-Not Formula step f))
        (local (Formula-F.Not (fold-Formula Formula step f)) (All-cons EachPart (fold-Formula Formula step f) [] of_f (All-nil EachPart)));
    of_Ex2 = λ t f of_f. subst EachPart (sym (fold-Ex2 Formula step t f))
        (local (Formula-F.Ex2 t (fold-Formula Formula step f)) (All-cons EachPart (fold-Formula Formula step f) [] of_f (All-nil EachPart)));
  })

-- the formula is no negation of a negation
abbrev NegatesNone : Formula → Type 0
NegatesNone h = (g : Formula) → h ≡ Not (Not g) → ⊥

not-Not : (node : Formula-F Formula) (f : Formula) → roll-Formula node ≡ f → (g : Formula) → f ≡ Not g → node ≡ Formula-F.Not g
not-Not node f is g e = sym (out-of node f is) ∙ ap out-Formula e ∙ out-of (Formula-F.Not g) (Not g) (rolls-Not g)

negated-parts : (node : Formula-F Formula) (f : Formula) → roll-Formula node ≡ f → EachPart NegatesNone f →
    EachPart NegatesNone (unwrap_or (negated_of_node node) (Not f))
negated-parts node f is of_f = pick node is
  where
    stays : (other : Formula-F Formula) → roll-Formula other ≡ f → ((g : Formula) → other ≡ Formula-F.Not g → ⊥) → EachPart NegatesNone (Not f)
    stays other is differs = each-part-of NegatesNone (Formula-F.Not f) (Not f) (rolls-Not f)
        (λ g e.
        let same : Formula-F.Not f ≡ Formula-F.Not (Not g) = not-Not (Formula-F.Not f) (Not f) (rolls-Not f) (Not g) e in
        let inner : f ≡ Not g = cc in
        differs g (not-Not other f is g inner))
        (All-cons (EachPart NegatesNone) f [] of_f (All-nil (EachPart NegatesNone)))

    pick : (node : Formula-F Formula) → roll-Formula node ≡ f → EachPart NegatesNone (unwrap_or (negated_of_node node) (Not f))
    pick (Formula-F.Not g) is = λ h part.
        of_f h (part-through f g h (deeper f g itself
        (subst (λ n. Contains (parts_of n) g) (sym (out-of (Formula-F.Not g) f is)) (Contains-first g []))) part)
    pick (Formula-F.Sub x y) is = stays (Formula-F.Sub x y) is (λ g e. cc)
    pick (Formula-F.Single x) is = stays (Formula-F.Single x) is (λ g e. cc)
    pick (Formula-F.Succ0 x y) is = stays (Formula-F.Succ0 x y) is (λ g e. cc)
    pick (Formula-F.Succ1 x y) is = stays (Formula-F.Succ1 x y) is (λ g e. cc)
    pick (Formula-F.Root x) is = stays (Formula-F.Root x) is (λ g e. cc)
    pick (Formula-F.And g h) is = stays (Formula-F.And g h) is (λ k e. cc)
    pick (Formula-F.Ex2 t g) is = stays (Formula-F.Ex2 t g) is (λ h e. cc)

kept-parts : (node : Formula-F Formula) → ((g : Formula) → node ≡ Formula-F.Not g → ⊥) → All (EachPart NegatesNone) (parts_of node) →
    EachPart NegatesNone (roll-Formula node)
kept-parts node differs below = each-part-of NegatesNone node (roll-Formula node) refl
    (λ g e. differs (Not g) (not-Not node (roll-Formula node) refl (Not g) e)) below

flattened-step : (node : Formula-F Formula) → All (EachPart NegatesNone) (parts_of node) → EachPart NegatesNone (flattened_node node)
flattened-step (Formula-F.Not f) below = negated-parts (out-Formula f) f (rolled-out f)
    (All-contains (EachPart NegatesNone) (f ∷ []) f below (Contains-first f []))
flattened-step (Formula-F.Sub x y) below = kept-parts (Formula-F.Sub x y) (λ g e. cc) below
flattened-step (Formula-F.Single x) below = kept-parts (Formula-F.Single x) (λ g e. cc) below
flattened-step (Formula-F.Succ0 x y) below = kept-parts (Formula-F.Succ0 x y) (λ g e. cc) below
flattened-step (Formula-F.Succ1 x y) below = kept-parts (Formula-F.Succ1 x y) (λ g e. cc) below
flattened-step (Formula-F.Root x) below = kept-parts (Formula-F.Root x) (λ g e. cc) below
flattened-step (Formula-F.And f g) below = kept-parts (Formula-F.And f g) (λ h e. cc) below
flattened-step (Formula-F.Ex2 t f) below = kept-parts (Formula-F.Ex2 t f) (λ g e. cc) below

pub flattened-part : (f g : Formula) → IsPart (flattened f) (Not (Not g)) → ⊥
flattened-part f g part = each-part-fold NegatesNone flattened_node flattened-step f (Not (Not g)) part g refl

-- a quantifier's track is free under it
abbrev Uses : Formula → Type 0
Uses h = (t : Track) (g : Formula) → h ≡ Ex2 t g → IsFree t.0 g

pub not-Ex2 : (node : Formula-F Formula) (f : Formula) → roll-Formula node ≡ f → (t : Track) (g : Formula) → f ≡ Ex2 t g → node ≡ Formula-F.Ex2 t g
not-Ex2 node f is t g e = sym (out-of node f is) ∙ ap out-Formula e ∙ out-of (Formula-F.Ex2 t g) (Ex2 t g) (rolls-Ex2 t g)

used-parts : (node : Formula-F Formula) → ((t : Track) (g : Formula) → node ≡ Formula-F.Ex2 t g → ⊥) → All (EachPart Uses) (parts_of node) →
    EachPart Uses (roll-Formula node)
used-parts node differs below = each-part-of Uses node (roll-Formula node) refl
    (λ t g e. absurd (differs t g (not-Ex2 node (roll-Formula node) refl t g e))) below

used-test : (t : Track) (f : Formula) → EachPart Uses f → (b : Bool) → is_free t.0 f ≡ b → EachPart Uses (cond b (Ex2 t f) f)
used-test t f of_f false e = of_f
used-test t f of_f true e = each-part-of Uses (Formula-F.Ex2 t f) (Ex2 t f) (rolls-Ex2 t f)
    (λ u g is.
    let same : Formula-F.Ex2 t f ≡ Formula-F.Ex2 u g = not-Ex2 (Formula-F.Ex2 t f) (Ex2 t f) (rolls-Ex2 t f) u g is in
    let track : t ≡ u = cc in
    let inner : f ≡ g = cc in
    subst (λ h. IsFree u.0 h) inner (subst (λ (v : Track). IsFree v.0 f) track e))
    (All-cons (EachPart Uses) f [] of_f (All-nil (EachPart Uses)))

used-step : (node : Formula-F Formula) → All (EachPart Uses) (parts_of node) → EachPart Uses (used_node node)
used-step (Formula-F.Ex2 t f) below = used-test t f (All-contains (EachPart Uses) (f ∷ []) f below (Contains-first f [])) (is_free t.0 f) refl
used-step (Formula-F.Sub x y) below = used-parts (Formula-F.Sub x y) (λ t g e. cc) below
used-step (Formula-F.Single x) below = used-parts (Formula-F.Single x) (λ t g e. cc) below
used-step (Formula-F.Succ0 x y) below = used-parts (Formula-F.Succ0 x y) (λ t g e. cc) below
used-step (Formula-F.Succ1 x y) below = used-parts (Formula-F.Succ1 x y) (λ t g e. cc) below
used-step (Formula-F.Root x) below = used-parts (Formula-F.Root x) (λ t g e. cc) below
used-step (Formula-F.And f g) below = used-parts (Formula-F.And f g) (λ t h e. cc) below
used-step (Formula-F.Not f) below = used-parts (Formula-F.Not f) (λ t g e. cc) below

pub used-part : (f g : Formula) (t : Track) → IsPart (without_unused f) (Ex2 t g) → IsFree t.0 g
used-part f g t part = each-part-fold Uses used_node used-step f (Ex2 t g) part t g refl
