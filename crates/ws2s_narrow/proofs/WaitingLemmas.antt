-- On quantifiers that wait before a formula.
use Rattle.std.proofs.Common.{◌≡◌, ℕ, Bool, true, false, cond, eqb, ◌||◌, List, [], ◌∷◌, ◌++◌, refl, sym, ap, subst, ◌∙◌, eqb-true}
use Rattle.std.proofs.lemmas.Bool.{false≢true}
use Rattle.std.specs.List.{AllByRecursion}
use Rattle.ws2s_core.specs.declared.track.Track.{Track}
use Rattle.ws2s_core.specs.declared.formula.Formula.{Formula}
use Rattle.ws2s_core.specs.declared.formula.Formula.TheVariants.{Sub, Single, Succ0, Succ1, Root, And, Not, Ex2, rolls-Sub}
use Rattle.ws2s_core.specs.declared.formula.Formula.TheVariants.{rolls-Single, rolls-Succ0, rolls-Succ1, rolls-Root, rolls-And, rolls-Not}
use Rattle.ws2s_core.specs.Tracks.{is_free}
use Rattle.ws2s_core.proofs.FormulaLemmas.{formula-induction, fold-Sub, fold-Single, fold-Succ0, fold-Succ1, fold-Root, fold-And, fold-Not, fold-Ex2}
use Rattle.ws2s_pass.proofs.RewritingLemmas.{free-And, free-Not, free-Ex2}
use Rattle.ws2s_narrow.specs.declared.pending.Waiting.{Waiting}
use Rattle.ws2s_narrow.specs.Narrowing.{sunk, narrowed, narrowed_node}
use Rattle.ws2s_narrow.specs.Waiting.{brought, wrapped, AreTold, Woven, none, one, other}
use Rattle.ws2s_narrow.proofs.NarrowingLemmas.{sunk-And, sunk-Ex2, free-sunk}

-- quantifiers stay before one that stays
pub brought-Ex2 : (waiting : List (ℕ × Waiting)) (t : Track) (f : Formula) → brought waiting (Ex2 t f) ≡ wrapped waiting (Ex2 t f)
brought-Ex2 [] t f = refl
brought-Ex2 (next ∷ waiting) t f = ap (brought waiting) (sunk-Ex2 next.1.track t f) ∙ brought-Ex2 waiting next.1.track (Ex2 t f)

-- they stay before what one of them stays before
pub brought-other : (f : Formula) → ((t : Track) → sunk t f ≡ Ex2 t f) → (waiting : List (ℕ × Waiting)) → brought waiting f ≡ wrapped waiting f
brought-other f stays [] = refl
brought-other f stays (next ∷ waiting) = ap (brought waiting) (stays next.1.track) ∙ brought-Ex2 waiting next.1.track f

pub narrowed-Sub : (x y : Track) → narrowed (Sub x y) ≡ Sub x y
narrowed-Sub x y = fold-Sub Formula narrowed_node x y ∙ rolls-Sub x y

pub narrowed-Single : (x : Track) → narrowed (Single x) ≡ Single x
narrowed-Single x = fold-Single Formula narrowed_node x ∙ rolls-Single x

pub narrowed-Succ0 : (x y : Track) → narrowed (Succ0 x y) ≡ Succ0 x y
narrowed-Succ0 x y = fold-Succ0 Formula narrowed_node x y ∙ rolls-Succ0 x y

pub narrowed-Succ1 : (x y : Track) → narrowed (Succ1 x y) ≡ Succ1 x y
narrowed-Succ1 x y = fold-Succ1 Formula narrowed_node x y ∙ rolls-Succ1 x y

pub narrowed-Root : (x : Track) → narrowed (Root x) ≡ Root x
narrowed-Root x = fold-Root Formula narrowed_node x ∙ rolls-Root x

pub narrowed-And : (f g : Formula) → narrowed (And f g) ≡ And (narrowed f) (narrowed g)
narrowed-And f g = fold-And Formula narrowed_node f g ∙ rolls-And (narrowed f) (narrowed g)

pub narrowed-Not : (f : Formula) → narrowed (Not f) ≡ Not (narrowed f)
narrowed-Not f = fold-Not Formula narrowed_node f ∙ rolls-Not (narrowed f)

pub narrowed-Ex2 : (t : Track) (f : Formula) → narrowed (Ex2 t f) ≡ sunk t (narrowed f)
narrowed-Ex2 t f = fold-Ex2 Formula narrowed_node t f

or-other : (b c : Bool) → b || c ≡ true → c ≡ false → b ≡ true
or-other true c e d = refl
or-other false c e d = absurd (false≢true (sym d ∙ e))

or-false : (b c : Bool) → b || c ≡ false → b ≡ false
or-false true c e = absurd (false≢true (sym e))
or-false false c e = refl

-- narrowing keeps the free tracks
pub free-narrowed : (u : ℕ) (f : Formula) → is_free u (narrowed f) ≡ is_free u f
free-narrowed u = formula-induction (λ f. is_free u (narrowed f) ≡ is_free u f) (record {
  of_Sub = λ x y. ap (is_free u) (narrowed-Sub x y);
  of_Single = λ x. ap (is_free u) (narrowed-Single x);
  of_Succ0 = λ x y. ap (is_free u) (narrowed-Succ0 x y);
  of_Succ1 = λ x y. ap (is_free u) (narrowed-Succ1 x y);
  of_Root = λ x. ap (is_free u) (narrowed-Root x);
  of_And = λ f g of_f of_g. ap (is_free u) (narrowed-And f g) ∙ free-And u (narrowed f) (narrowed g)
      ∙ ap (λ (b : Bool). b || is_free u (narrowed g)) of_f ∙ ap (λ (b : Bool). is_free u f || b) of_g ∙ sym (free-And u f g);
  of_Not = λ f of_f. ap (is_free u) (narrowed-Not f) ∙ free-Not u (narrowed f) ∙ of_f ∙ sym (free-Not u f);
  of_Ex2 = λ t f of_f. ap (is_free u) (narrowed-Ex2 t f) ∙ free-sunk t u (narrowed f) ∙ free-Ex2 u t (narrowed f)
      ∙ ap (cond (eqb t.0 u) false) of_f ∙ sym (free-Ex2 u t f);
})

module _ (left right : ℕ → Bool) where
  -- where a track is free in one of the sides, it is free in those where it was
  abbrev Agree : Formula → Formula → Type 0
  Agree f g = (u : ℕ) → is_free u f || is_free u g ≡ true → (is_free u f ≡ left u) × (is_free u g ≡ right u)

  -- a quantifier whose track is free on the left alone
  pub record GoesLeft (next : ℕ × Waiting) : Type 0 where
    pub used : next.1.used ≡ true
    pub nowhere : right next.1.track.0 ≡ false

  -- a quantifier whose track isn't free, or not on the left
  pub record GoesRight (next : ℕ × Waiting) : Type 0 where
    pub nowhere : next.1.used ≡ true → left next.1.track.0 ≡ false

  -- a quantifier whose track is free on both sides
  pub record StaysBefore (next : ℕ × Waiting) : Type 0 where
    pub used : next.1.used ≡ true
    pub there : left next.1.track.0 ≡ true
    pub here : right next.1.track.0 ≡ true

  -- none stays, or the first is one whose track is free on both sides
  abbrev pub BeginsWithOne : List (ℕ × Waiting) → Type 0
  BeginsWithOne [] = Unit {0}
  BeginsWithOne (next ∷ waiting) = StaysBefore next

  pub record Divided (staying these those : List (ℕ × Waiting)) (f g all : Formula) : Type 0 where
    pub whole : all ≡ wrapped staying (And (brought these f) (brought those g))
    pub on_left : AreTold these f
    pub on_right : AreTold those g

  sunk-at : (t : Track) (f g : Formula) (b c : Bool) → is_free t.0 f ≡ b → is_free t.0 g ≡ c →
      sunk t (And f g) ≡ cond b (cond c (Ex2 t (And f g)) (And (sunk t f) g)) (And f (sunk t g))
  sunk-at t f g b c e d = sunk-And t f g
      ∙ ap (λ (b : Bool). cond b (cond (is_free t.0 g) (Ex2 t (And f g)) (And (sunk t f) g)) (And f (sunk t g))) e
      ∙ ap (λ (c : Bool). cond b (cond c (Ex2 t (And f g)) (And (sunk t f) g)) (And f (sunk t g))) d

  free-sunk-at : (t : Track) (u : ℕ) (f : Formula) → is_free u (sunk t f) ≡ cond (eqb t.0 u) false (is_free u f)
  free-sunk-at t u f = free-sunk t u f ∙ free-Ex2 u t f

  agree-left : (t : Track) (f g : Formula) → is_free t.0 g ≡ false → Agree f g → Agree (sunk t f) g
  agree-left t f g unbound agree u h = pick (eqb t.0 u) refl
    where
      pick : (b : Bool) → eqb t.0 u ≡ b → (is_free u (sunk t f) ≡ left u) × (is_free u g ≡ right u)
      pick true e = absurd (false≢true (
          sym (ap (λ (b : Bool). b || is_free u g) (free-sunk-at t u f ∙ ap (λ (b : Bool). cond b false (is_free u f)) e)
          ∙ ap (λ (v : ℕ). is_free v g) (sym (eqb-true t.0 u e)) ∙ unbound) ∙ h))
      pick false e =
          let same : is_free u (sunk t f) ≡ is_free u f = free-sunk-at t u f ∙ ap (λ (b : Bool). cond b false (is_free u f)) e in
          let old = agree u (ap (λ (b : Bool). b || is_free u g) (sym same) ∙ h) in
          (same ∙ old.0, old.1)

  agree-right : (t : Track) (f g : Formula) → is_free t.0 f ≡ false → Agree f g → Agree f (sunk t g)
  agree-right t f g unbound agree u h = pick (eqb t.0 u) refl
    where
      pick : (b : Bool) → eqb t.0 u ≡ b → (is_free u f ≡ left u) × (is_free u (sunk t g) ≡ right u)
      pick true e = absurd (false≢true (
          sym (ap (λ (b : Bool). is_free u f || b) (free-sunk-at t u g ∙ ap (λ (b : Bool). cond b false (is_free u g)) e)
          ∙ ap (λ (b : Bool). b || false) (ap (λ (v : ℕ). is_free v f) (sym (eqb-true t.0 u e)) ∙ unbound)) ∙ h))
      pick false e =
          let same : is_free u (sunk t g) ≡ is_free u g = free-sunk-at t u g ∙ ap (λ (b : Bool). cond b false (is_free u g)) e in
          let old = agree u (ap (λ (b : Bool). is_free u f || b) (sym same) ∙ h) in
          (old.0, same ∙ old.1)

  -- quantifiers that wait before a conjunction stay there from the first one on whose track is free on both sides; of those
  -- within, each goes into its side
  pub divided : {waiting these those : List (ℕ × Waiting)} → (staying : List (ℕ × Waiting)) (f g : Formula) → Woven waiting these those →
      AllByRecursion GoesLeft these → AllByRecursion GoesRight those → BeginsWithOne staying → Agree f g →
      AreTold (waiting ++ staying) (And f g) → Divided staying these those f g (brought (waiting ++ staying) (And f g))
  divided [] f g none lefts rights begins agree told = record { whole = refl; on_left = tt; on_right = tt }
  divided (next ∷ staying) f g none lefts rights begins agree told =
      let free : is_free next.1.track.0 f || is_free next.1.track.0 g ≡ true =
      sym (free-And next.1.track.0 f g) ∙ sym told.0 ∙ begins.used in
      let both = agree next.1.track.0 free in
      let stays : sunk next.1.track (And f g) ≡ Ex2 next.1.track (And f g) =
      sunk-at next.1.track f g true true (both.0 ∙ begins.there) (both.1 ∙ begins.here) in
      record { whole = ap (brought staying) stays ∙ brought-Ex2 staying next.1.track (And f g); on_left = tt; on_right = tt }
  divided staying f g (one {x = next} {all = waiting} {these = these} {those = those} woven) lefts rights begins agree told =
      let free : is_free next.1.track.0 f || is_free next.1.track.0 g ≡ true =
      sym (free-And next.1.track.0 f g) ∙ sym told.0 ∙ lefts.0.used in
      let both = agree next.1.track.0 free in
      let unbound : is_free next.1.track.0 g ≡ false = both.1 ∙ lefts.0.nowhere in
      let there : is_free next.1.track.0 f ≡ true = or-other (is_free next.1.track.0 f) (is_free next.1.track.0 g) free unbound in
      let enters : sunk next.1.track (And f g) ≡ And (sunk next.1.track f) g = sunk-at next.1.track f g true false there unbound in
      let rest = divided staying (sunk next.1.track f) g woven lefts.1 rights begins (agree-left next.1.track f g unbound agree)
      (subst (AreTold (waiting ++ staying)) enters told.1) in
      record {
        whole = ap (brought (waiting ++ staying)) enters ∙ rest.whole;
        on_left = (lefts.0.used ∙ sym there, rest.on_left);
        on_right = rest.on_right;
      }
  divided staying f g (other {x = next} {all = waiting} {these = these} {those = those} woven) lefts rights begins agree told =
      let unbound : is_free next.1.track.0 f ≡ false = pick next.1.used refl in
      let enters : sunk next.1.track (And f g) ≡ And f (sunk next.1.track g) =
      sunk-at next.1.track f g false (is_free next.1.track.0 g) unbound refl in
      let rest = divided staying f (sunk next.1.track g) woven lefts rights.1 begins (agree-right next.1.track f g unbound agree)
      (subst (AreTold (waiting ++ staying)) enters told.1) in
      record {
        whole = ap (brought (waiting ++ staying)) enters ∙ rest.whole;
        on_left = rest.on_left;
        on_right = (told.0 ∙ free-And next.1.track.0 f g ∙ ap (λ (b : Bool). b || is_free next.1.track.0 g) unbound, rest.on_right);
      }
    where
      pick : (b : Bool) → next.1.used ≡ b → is_free next.1.track.0 f ≡ false
      pick true e = (agree next.1.track.0 (sym (free-And next.1.track.0 f g) ∙ sym told.0 ∙ e)).0 ∙ rights.0.nowhere e
      pick false e = or-false (is_free next.1.track.0 f) (is_free next.1.track.0 g) (sym (free-And next.1.track.0 f g) ∙ sym told.0 ∙ e)
