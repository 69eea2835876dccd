-- Satisfaction looks at the free tracks alone, and the numbers of bound ones don't matter.
use Rattle.std.proofs.Common.{◌≡◌, ◌≢◌, ℕ, zero, suc, ◌+◌, ◌<◌, ◌≤◌, max, Bool, true, false, cond, eqb, ltb, ◌||◌, ◌&&◌, ◌↔◌, ◌⊎◌}
use Rattle.std.proofs.Common.{inl, inr, [], ◌∷◌, ◌++◌, length, refl, sym, ap, subst, ◌∙◌, arith, eqb-true, eq-eqb, ne_eqb}
use Rattle.std.proofs.lemmas.Bool.{false≢true, eqb-false, ltb-true, ltb-false, lt-ltb, le-ltb}
use Rattle.gta_theory.specs.Assignments.{Position, PositionSet, Assignment, IsFinite, Covers, IsOnly, replace, only_below}
use Rattle.gta_theory.proofs.AssignmentsLemmas.{replace-same, replace-other}
use Rattle.ws2s_core.specs.declared.track.Track.{Track}
use Rattle.ws2s_core.specs.declared.formula.Formula.{Formula}
use Rattle.ws2s_core.specs.declared.formula.Formula.TheVariants.{Sub, Single, Succ0, Succ1, Root, And, Not, Ex2}
use Rattle.ws2s_core.specs.Satisfaction.{WSat}
use Rattle.ws2s_core.specs.Tracks.{is_free, is_free_in_node, IsFree, track_bound, bound_of_node, renamed, renamed_node, renamed_track, IsInjective, exchanged}
use Rattle.ws2s_core.proofs.FormulaLemmas.{formula-induction, fold-Sub, fold-Single, fold-Succ0, fold-Succ1, fold-Root, fold-And, fold-Not, fold-Ex2}
use Rattle.ws2s_core.proofs.SatisfactionLemmas.{WSat-Sub, WSat-Single, WSat-Succ0, WSat-Succ1, WSat-Root, WSat-And, WSat-Not, WSat-Ex2}

-- the assignments agree on the free tracks
abbrev pub AgreeOn : Formula → Assignment → Assignment → Type 0
AgreeOn f a b = (t : ℕ) → IsFree t f → a t ≡ b t

or-left : (b c : Bool) → b ≡ true → b || c ≡ true
or-left true c e = refl
or-left false c e = absurd (false≢true e)

or-right : (b c : Bool) → c ≡ true → b || c ≡ true
or-right true c e = refl
or-right false c e = e

or-cases : (b c : Bool) → b || c ≡ true → (b ≡ true) ⊎ (c ≡ true)
or-cases true c e = inl refl
or-cases false c e = inr e

first-free : (t x y : ℕ) → t ≡ x → eqb x t || eqb y t ≡ true
first-free t x y e = or-left (eqb x t) (eqb y t) (eq-eqb x t (sym e))

second-free : (t x y : ℕ) → t ≡ y → eqb x t || eqb y t ≡ true
second-free t x y e = or-right (eqb x t) (eqb y t) (eq-eqb y t (sym e))

-- which tracks are free in each form
IsFree-And : (t : ℕ) (f g : Formula) → is_free t (And f g) ≡ is_free t f || is_free t g
IsFree-And t f g = fold-And Bool (is_free_in_node t) f g

IsFree-Not : (t : ℕ) (f : Formula) → is_free t (Not f) ≡ is_free t f
IsFree-Not t f = fold-Not Bool (is_free_in_node t) f

IsFree-Ex2 : (t : ℕ) (x : Track) (f : Formula) → is_free t (Ex2 x f) ≡ cond (eqb x.0 t) false (is_free t f)
IsFree-Ex2 t x f = fold-Ex2 Bool (is_free_in_node t) x f

-- a quantifier takes no other track
IsFree-under : (t : ℕ) (x : Track) (f : Formula) → t ≢ x.0 → IsFree t f → IsFree t (Ex2 x f)
IsFree-under t x f other free =
    IsFree-Ex2 t x f ∙ ap (λ b. cond b false (is_free t f)) (ne_eqb x.0 t (λ e. other (sym e))) ∙ free

-- replacing one track alike in both
agree-replaced : (t : Track) (f : Formula) (a b : Assignment) (set : PositionSet) → AgreeOn (Ex2 t f) a b →
    AgreeOn f (replace a t.0 set) (replace b t.0 set)
agree-replaced t f a b set agree u free = pick (eqb u t.0) refl
  where
    pick : (same : Bool) → eqb u t.0 ≡ same → replace a t.0 set u ≡ replace b t.0 set u
    pick true is = (λ i p. cond (is i) (set p) (a u p)) ∙ sym (λ i p. cond (is i) (set p) (b u p))
    pick false is =
        let other = eqb-false u t.0 is in
        replace-other a t.0 u set other ∙ agree u (IsFree-under u t f other free) ∙ sym (replace-other b t.0 u set other)

-- what one satisfies the other does
carried : (f : Formula) (a b : Assignment) → AgreeOn f a b → WSat f a → WSat f b
carried = formula-induction (λ f. (a b : Assignment) → AgreeOn f a b → WSat f a → WSat f b) (record {
  of_Sub = λ x y a b agree h.
      let at_x : a x.0 ≡ b x.0 = agree x.0 (fold-Sub Bool (is_free_in_node x.0) x y ∙ first-free x.0 x.0 y.0 refl) in
      let at_y : a y.0 ≡ b y.0 = agree y.0 (fold-Sub Bool (is_free_in_node y.0) x y ∙ second-free y.0 x.0 y.0 refl) in
      (WSat-Sub x y b).1 (λ p in_x. sym (λ i. at_y i p) ∙ (WSat-Sub x y a).0 h p ((λ i. at_x i p) ∙ in_x));
  of_Single = λ x a b agree h.
      let at_x : a x.0 ≡ b x.0 = agree x.0 (fold-Single Bool (is_free_in_node x.0) x ∙ eq-eqb x.0 x.0 refl) in
      let u = (WSat-Single x a).0 h in
      (WSat-Single x b).1 (u.0, subst (λ (set : PositionSet). IsOnly set u.0) at_x u.1);
  of_Succ0 = λ x y a b agree h.
      let at_x : a x.0 ≡ b x.0 = agree x.0 (fold-Succ0 Bool (is_free_in_node x.0) x y ∙ first-free x.0 x.0 y.0 refl) in
      let at_y : a y.0 ≡ b y.0 = agree y.0 (fold-Succ0 Bool (is_free_in_node y.0) x y ∙ second-free y.0 x.0 y.0 refl) in
      let u = (WSat-Succ0 x y a).0 h in
      (WSat-Succ0 x y b).1 (
        u.0,
        subst (λ (set : PositionSet). IsOnly set u.0) at_x u.1,
        subst (λ (set : PositionSet). IsOnly set (u.0 ++ false ∷ [])) at_y u.2,
      );
  of_Succ1 = λ x y a b agree h.
      let at_x : a x.0 ≡ b x.0 = agree x.0 (fold-Succ1 Bool (is_free_in_node x.0) x y ∙ first-free x.0 x.0 y.0 refl) in
      let at_y : a y.0 ≡ b y.0 = agree y.0 (fold-Succ1 Bool (is_free_in_node y.0) x y ∙ second-free y.0 x.0 y.0 refl) in
      let u = (WSat-Succ1 x y a).0 h in
      (WSat-Succ1 x y b).1 (u.0, subst (λ (set : PositionSet). IsOnly set u.0) at_x u.1, subst (λ (set : PositionSet). IsOnly set (u.0 ++ true ∷ [])) at_y u.2);
  of_Root = λ x a b agree h.
      let at_x : a x.0 ≡ b x.0 = agree x.0 (fold-Root Bool (is_free_in_node x.0) x ∙ eq-eqb x.0 x.0 refl) in
      (WSat-Root x b).1 (subst (λ (set : PositionSet). IsOnly set []) at_x ((WSat-Root x a).0 h));
  of_And = λ f g of_f of_g a b agree h.
      let both = (WSat-And f g a).0 h in
      (WSat-And f g b).1 (
        of_f a b (λ t free. agree t (IsFree-And t f g ∙ or-left (is_free t f) (is_free t g) free)) both.0,
        of_g a b (λ t free. agree t (IsFree-And t f g ∙ or-right (is_free t f) (is_free t g) free)) both.1,
      );
  of_Not = λ f of_f a b agree h.
      (WSat-Not f b).1 (λ k. (WSat-Not f a).0 h (of_f b a (λ t free. sym (agree t (IsFree-Not t f ∙ free))) k));
  of_Ex2 = λ t f of_f a b agree h.
      let set = (WSat-Ex2 t f a).0 h in
      (WSat-Ex2 t f b).1 (set.0, set.1, of_f (replace a t.0 set.0) (replace b t.0 set.0) (agree-replaced t f a b set.0 agree) set.2);
})

-- satisfaction looks at the free tracks alone
pub WSat-free : (f : Formula) (a b : Assignment) → AgreeOn f a b → WSat f a ↔ WSat f b
WSat-free f a b agree = (carried f a b agree, carried f b a (λ t free. sym (agree t free)))

-- a free track is below the bound
pub IsFree-bound : (f : Formula) (t : ℕ) → IsFree t f → t < track_bound f
IsFree-bound = formula-induction (λ f. (t : ℕ) → IsFree t f → t < track_bound f) (record {
  of_Sub = λ x y t free. two x.0 y.0 t (track_bound (Sub x y)) (fold-Sub ℕ bound_of_node x y) (sym (fold-Sub Bool (is_free_in_node t) x y) ∙ free);
  of_Single = λ x t free. one x.0 t (track_bound (Single x)) (fold-Single ℕ bound_of_node x) (sym (fold-Single Bool (is_free_in_node t) x) ∙ free);
  of_Succ0 = λ x y t free. two x.0 y.0 t (track_bound (Succ0 x y)) (fold-Succ0 ℕ bound_of_node x y) (sym (fold-Succ0 Bool (is_free_in_node t) x y) ∙ free);
  of_Succ1 = λ x y t free. two x.0 y.0 t (track_bound (Succ1 x y)) (fold-Succ1 ℕ bound_of_node x y) (sym (fold-Succ1 Bool (is_free_in_node t) x y) ∙ free);
  of_Root = λ x t free. one x.0 t (track_bound (Root x)) (fold-Root ℕ bound_of_node x) (sym (fold-Root Bool (is_free_in_node t) x) ∙ free);
  of_And = λ f g of_f of_g t free.
      let e : track_bound (And f g) ≡ max (track_bound f) (track_bound g) = fold-And ℕ bound_of_node f g in
      elim (or-cases (is_free t f) (is_free t g) (sym (IsFree-And t f g) ∙ free)) as (λ c. t < track_bound (And f g)) [
        | inl k ↦ omega (arith, of_f t k)
        | inr k ↦ omega (arith, of_g t k)
      ];
  of_Not = λ f of_f t free.
      let e : track_bound (Not f) ≡ track_bound f = fold-Not ℕ bound_of_node f in
      omega (arith, of_f t (sym (IsFree-Not t f) ∙ free));
  of_Ex2 = λ x f of_f t free.
      let e : track_bound (Ex2 x f) ≡ max (x.0 + 1) (track_bound f) = fold-Ex2 ℕ bound_of_node x f in
      omega (arith, of_f t (inside (eqb x.0 t) (is_free t f) (sym (IsFree-Ex2 t x f) ∙ free)));
})
  where
    one : (x t k : ℕ) → k ≡ x + 1 → eqb x t ≡ true → t < k
    one x t k e is = omega (arith, eqb-true x t is)

    two : (x y t k : ℕ) → k ≡ max (x + 1) (y + 1) → eqb x t || eqb y t ≡ true → t < k
    two x y t k e is = elim (or-cases (eqb x t) (eqb y t) is) as (λ c. t < k) [
      | inl is_x ↦ omega (arith, eqb-true x t is_x)
      | inr is_y ↦ omega (arith, eqb-true y t is_y)
    ]

    inside : (b c : Bool) → cond b false c ≡ true → c ≡ true
    inside true c e = absurd (false≢true e)
    inside false c e = e

-- the tracks below a bound of an assignment of finite sets are covered by some depth
pub Covers-only_below : (k : ℕ) (a : Assignment) → IsFinite a → (n : ℕ) × Covers n (only_below k a)
Covers-only_below zero a finite = (0, λ t p deep. ap (λ b. b && a t p) (le-ltb t 0 (omega arith)))
Covers-only_below (suc k) a finite =
    let rest = Covers-only_below k a finite in
    (max rest.0 (finite k).0, λ t p deep. pick rest.0 rest.1 t p deep (ltb t (suc k)) refl)
  where
    below : (t : ℕ) (p : Position) (n : ℕ) → Covers n (only_below k a) → n ≤ length p → (b : Bool) → ltb t k ≡ b → t < suc k →
        (finite k).0 ≤ length p → a t p ≡ false
    below t p n covers deep true is lt deep' = sym (ap (λ b. b && a t p) is) ∙ covers t p deep
    below t p n covers deep false is lt deep' =
        let e : t ≡ k = omega (arith, ltb-false t k is) in
        subst (λ u. a u p ≡ false) (sym e) ((finite k).1 p deep')

    pick : (n : ℕ) → Covers n (only_below k a) → (t : ℕ) (p : Position) → max n (finite k).0 ≤ length p →
        (b : Bool) → ltb t (suc k) ≡ b → b && a t p ≡ false
    pick n covers t p deep true is = below t p n covers (omega arith) (ltb t k) refl (ltb-true t (suc k) is) (omega arith)
    pick n covers t p deep false is = refl

pub WSat-only_below : (f : Formula) (a : Assignment) → WSat f a ↔ WSat f (only_below (track_bound f) a)
WSat-only_below f a = WSat-free f a (only_below (track_bound f) a)
    (λ t free i p. sym (lt-ltb t (track_bound f) (IsFree-bound f t free)) i && a t p)

-- replacing after renaming
renamed-replaced : (r : ℕ → ℕ) → IsInjective r → (a : Assignment) (t : ℕ) (set : PositionSet) →
    (λ u. replace a (r t) set (r u)) ≡ replace (λ u. a (r u)) t set
renamed-replaced r injective a t set = λ i u p. cond (same u (eqb u t) refl i) (set p) (a (r u) p)
  where
    same : (u : ℕ) (b : Bool) → eqb u t ≡ b → eqb (r u) (r t) ≡ eqb u t
    same u true is = eq-eqb (r u) (r t) (ap r (eqb-true u t is)) ∙ sym is
    same u false is = ne_eqb (r u) (r t) (λ e. eqb-false u t is (injective u t e)) ∙ sym is

-- the formula with its tracks renamed says of an assignment what the formula says of the renamed assignment
pub WSat-renamed : (r : ℕ → ℕ) → IsInjective r → (f : Formula) (a : Assignment) →
    WSat (renamed r f) a ↔ WSat f (λ t. a (r t))
WSat-renamed r injective = formula-induction (λ f. (a : Assignment) → WSat (renamed r f) a ↔ WSat f (λ t. a (r t))) (record {
  of_Sub = λ x y a. through (fold-Sub Formula (renamed_node r) x y) a
      (joined (WSat-Sub (renamed_track r x) (renamed_track r y) a) (WSat-Sub x y (λ t. a (r t))));
  of_Single = λ x a. through (fold-Single Formula (renamed_node r) x) a (joined (WSat-Single (renamed_track r x) a) (WSat-Single x (λ t. a (r t))));
  of_Succ0 = λ x y a. through (fold-Succ0 Formula (renamed_node r) x y) a
      (joined (WSat-Succ0 (renamed_track r x) (renamed_track r y) a) (WSat-Succ0 x y (λ t. a (r t))));
  of_Succ1 = λ x y a. through (fold-Succ1 Formula (renamed_node r) x y) a
      (joined (WSat-Succ1 (renamed_track r x) (renamed_track r y) a) (WSat-Succ1 x y (λ t. a (r t))));
  of_Root = λ x a. through (fold-Root Formula (renamed_node r) x) a (joined (WSat-Root (renamed_track r x) a) (WSat-Root x (λ t. a (r t))));
  of_And = λ f g of_f of_g a. through (fold-And Formula (renamed_node r) f g) a (
    (λ h. (WSat-And f g (λ t. a (r t))).1 (
      (of_f a).0 ((WSat-And (renamed r f) (renamed r g) a).0 h).0,
      (of_g a).0 ((WSat-And (renamed r f) (renamed r g) a).0 h).1,
    )),
    (λ h. (WSat-And (renamed r f) (renamed r g) a).1 ((of_f a).1 ((WSat-And f g (λ t. a (r t))).0 h).0, (of_g a).1 ((WSat-And f g (λ t. a (r t))).0 h).1)),
  );
  of_Not = λ f of_f a. through (fold-Not Formula (renamed_node r) f) a (
    (λ h. (WSat-Not f (λ t. a (r t))).1 (λ k. (WSat-Not (renamed r f) a).0 h ((of_f a).1 k))),
    (λ h. (WSat-Not (renamed r f) a).1 (λ k. (WSat-Not f (λ t. a (r t))).0 h ((of_f a).0 k))),
  );
  of_Ex2 = λ t f of_f a. through (fold-Ex2 Formula (renamed_node r) t f) a (
    (λ h.
        let set = (WSat-Ex2 (renamed_track r t) (renamed r f) a).0 h in
        (WSat-Ex2 t f (λ u. a (r u))).1 (
          set.0,
          set.1,
          subst (WSat f) (renamed-replaced r injective a t.0 set.0) ((of_f (replace a (r t.0) set.0)).0 set.2),
        )),
    (λ h.
        let set = (WSat-Ex2 t f (λ u. a (r u))).0 h in
        (WSat-Ex2 (renamed_track r t) (renamed r f) a).1 (
          set.0,
          set.1,
          (of_f (replace a (r t.0) set.0)).1 (subst (WSat f) (sym (renamed-replaced r injective a t.0 set.0)) set.2),
        )),
  );
})
  where
    through : {f g : Formula} → f ≡ g → (a : Assignment) → {P : Type 0} → WSat g a ↔ P → WSat f a ↔ P
    through e a h = ((λ k. h.0 (subst (λ f. WSat f a) e k)), (λ k. subst (λ f. WSat f a) (sym e) (h.1 k)))

    joined : {P Q R : Type 0} → P ↔ R → Q ↔ R → P ↔ Q
    joined h k = ((λ p. k.1 (h.0 p)), (λ q. h.1 (k.0 q)))

pub IsInjective-exchanged : (t u : ℕ) → IsInjective (exchanged t u)
IsInjective-exchanged t u v w e =
    sym (twice v) ∙ ap (exchanged t u) e ∙ twice w
  where
    second : (v : ℕ) (b : Bool) → eqb v u ≡ b → eqb v t ≡ false → exchanged t u (cond b t v) ≡ v
    second v true is not_t = ap (λ b. cond b u (cond (eqb t u) t t)) (eq-eqb t t refl) ∙ sym (eqb-true v u is)
    second v false is not_t = ap (λ b. cond b u (cond (eqb v u) t v)) not_t ∙ ap (λ b. cond b t v) is

    back : (b : Bool) → eqb u t ≡ b → cond b u (cond (eqb u u) t u) ≡ t
    back true is = eqb-true u t is
    back false is = ap (λ b. cond b t u) (eq-eqb u u refl)

    first : (v : ℕ) (b : Bool) → eqb v t ≡ b → exchanged t u (cond b u (cond (eqb v u) t v)) ≡ v
    first v true is = back (eqb u t) refl ∙ sym (eqb-true v t is)
    first v false is = second v (eqb v u) refl is

    twice : (v : ℕ) → exchanged t u (exchanged t u v) ≡ v
    twice v = first v (eqb v t) refl

-- a bound track may have any number that isn't free under its quantifier
pub WSat-bound : (t u : Track) (f : Formula) → (IsFree u.0 f → ⊥) → (a : Assignment) →
    WSat (Ex2 t f) a ↔ WSat (Ex2 u (renamed (exchanged t.0 u.0) f)) a
WSat-bound t u f not_free a = (
  (λ h.
      let set = (WSat-Ex2 t f a).0 h in
      (WSat-Ex2 u (renamed r f) a).1 (
        set.0,
        set.1,
        (WSat-renamed r injective f (replace a u.0 set.0)).1 (carried f (replace a t.0 set.0) (λ v. replace a u.0 set.0 (r v)) (agree set.0) set.2),
      )),
  (λ h.
      let set = (WSat-Ex2 u (renamed r f) a).0 h in
      (WSat-Ex2 t f a).1 (
        set.0,
        set.1,
        carried f (λ v. replace a u.0 set.0 (r v)) (replace a t.0 set.0) (λ v free. sym (agree set.0 v free))
            ((WSat-renamed r injective f (replace a u.0 set.0)).0 set.2),
      )),
)
  where
    r : ℕ → ℕ
    r = exchanged t.0 u.0

    injective : IsInjective (exchanged t.0 u.0)
    injective = IsInjective-exchanged t.0 u.0

    agree : (set : PositionSet) → AgreeOn f (replace a t.0 set) (λ v. replace a u.0 set (exchanged t.0 u.0 v))
    agree set v free = pick (eqb v t.0) refl
      where
        pick : (b : Bool) → eqb v t.0 ≡ b → replace a t.0 set v ≡ replace a u.0 set (exchanged t.0 u.0 v)
        pick true is =
            (λ i p. cond (is i) (set p) (a v p))
            ∙ sym (ap (replace a u.0 set) (ap (λ b. cond b u.0 (cond (eqb v u.0) t.0 v)) is) ∙ replace-same a u.0 set)
        pick false is =
            let not_u : v ≢ u.0 = λ e. not_free (subst (λ w. IsFree w f) e free) in
            (λ i p. cond (is i) (set p) (a v p))
            ∙ sym (ap (replace a u.0 set) (ap (λ b. cond b u.0 (cond (eqb v u.0) t.0 v)) is
            ∙ ap (λ b. cond b t.0 v) (ne_eqb v u.0 not_u)) ∙ replace-other a u.0 v set not_u)
