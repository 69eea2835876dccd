-- On merging: the minimal automata of `Single`, `Root` and `Sub`.
use Rattle.std.proofs.Common.{◌≡◌, ◌≢◌, ℕ, Bool, true, false, ◌||◌, ◌⊎◌, inl, inr, refl, sym, ap, subst, ◌∙◌, cond, eqb, eqb-true, eq-eqb, ne_eqb}
use Rattle.labels.specs.Labels.{Label, empty_label, with_track}
use Rattle.gta_theory.specs.Guides.{Spaces, IsGuide, IsSpace, left, right}
use Rattle.gta_theory.specs.Automata.{Automaton, IsValue}
use Rattle.gta_theory.specs.Generated.{Generated, starts, steps}
use Rattle.gta_theory.specs.Minimal.{AreSeparated, at_root, below_left, below_right}
use Rattle.gta_theory.proofs.GeneratedLemmas.{IsValue-generated}
use Rattle.ws2s_core.specs.declared.track.Track.{Track}
use Rattle.ws2s_core.specs.declared.formula.Formula.TheVariants.{Sub, Single, Root}
use Rattle.ws2s_core.specs.Recognising.{IsMinimalOf}
use Rattle.ws2s_theory.specs.Atoms.{SubState, inside, outside, is_inside, sub_step, sub_automaton}
use Rattle.ws2s_theory.specs.Atoms.{SingleState, nothing, one, more, is_one, single_step, single_automaton}
use Rattle.ws2s_theory.specs.Atoms.{RootState, absent, alone, lower, is_alone, root_step, root_automaton}
use Rattle.ws2s_theory.specs.Merging.{child_space, IsChildTest, is_below, sub_class, single_class, root_class, merged, Stands}
use Rattle.ws2s_theory.proofs.AtomsLemmas.{Recognises-Sub, Recognises-Single, Recognises-Root}
use Rattle.ws2s_theory.proofs.WorkedLemmas.{separated-turned}
use Rattle.ws2s_theory.proofs.MergingLemmas.{child-below, everywhere, at-below, IsMinimalOf-merged}

-- every track is set
abbrev every_track : Label
every_track = λ t. true

single-idempotent : (low top : Bool) (q : SingleState) → single_class low top (single_class low top q) ≡ single_class low top q
single-idempotent true top q = refl
single-idempotent false true nothing = refl
single-idempotent false true one = refl
single-idempotent false true more = refl
single-idempotent false false q = refl

single-accepting : (low : Bool) (q : SingleState) → is_one q ≡ is_one (single_class low true q)
single-accepting true q = refl
single-accepting false nothing = refl
single-accepting false one = refl
single-accepting false more = refl

single-merge : (low top : Bool) (p q p' q' : SingleState) (b : Bool) → (low || top ≡ true → (p' ≡ p) × (q' ≡ q)) →
    single_class low top (single_step p q b) ≡ single_class low top (single_step p' q' b)
single-merge true top p q p' q' b h = let same = h refl in λ i. single_step (sym same.0 i) (sym same.1 i) b
single-merge false true p q p' q' b h = let same = h refl in λ i. single_class false true (single_step (sym same.0 i) (sym same.1 i) b)
single-merge false false p q p' q' b h = refl

module _ (g : Spaces) (guide : IsGuide g) (is_child : Bool → ℕ → Bool) (test : IsChildTest g is_child) (x : Track) where
  abbrev A-single : Automaton SingleState
  A-single = single_automaton x.0

  abbrev class-single : ℕ → SingleState → SingleState
  class-single s q = single_class (is_below is_child s) (eqb s 0) q

  generated-one : (s : ℕ) → IsSpace g s → Generated g A-single s one
  generated-one s there = steps s nothing nothing every_track there
      (starts (left g s) (guide.left_inside s there)) (starts (right g s) (guide.right_inside s there))

  generated-single : (s : ℕ) (q : SingleState) → IsSpace g s → Generated g A-single s q
  generated-single s nothing there = starts s there
  generated-single s one there = generated-one s there
  generated-single s more there = steps s one one every_track there
      (generated-one (left g s) (guide.left_inside s there)) (generated-one (right g s) (guide.right_inside s there))

  nothing-value : (s : ℕ) → IsSpace g s → IsValue g A-single s nothing
  nothing-value s there = IsValue-generated g guide A-single (record { at = λ s there. refl }) s nothing (starts s there)

  abbrev FromOne : ℕ → Type 0
  FromOne s = AreSeparated g A-single s one nothing × AreSeparated g A-single s one more

  one-child : (s : ℕ) → IsSpace g s → FromOne s → (letter : Bool) → FromOne (child_space g letter s)
  one-child s there h false = (
    below_left s one nothing nothing empty_label there (nothing-value (right g s) (guide.right_inside s there)) h.0,
    below_left s one more nothing empty_label there (nothing-value (right g s) (guide.right_inside s there)) h.1,
  )
  one-child s there h true = (
    below_right s one nothing nothing empty_label there (nothing-value (left g s) (guide.left_inside s there)) h.0,
    below_right s one more nothing empty_label there (nothing-value (left g s) (guide.left_inside s there)) h.1,
  )

  more-child : (s : ℕ) → IsSpace g s → FromOne s → (letter : Bool) → AreSeparated g A-single (child_space g letter s) nothing more
  more-child s there h false =
      below_left s nothing more nothing every_track there (nothing-value (right g s) (guide.right_inside s there)) h.1
  more-child s there h true =
      below_right s nothing more nothing every_track there (nothing-value (left g s) (guide.left_inside s there)) h.1

  one-root : FromOne 0
  one-root = (at_root one nothing (λ e. absurd cc), at_root one more (λ e. absurd cc))

  pick-single : (s : ℕ) (low top : Bool) → (low || top ≡ true → FromOne s) → (low ≡ true → AreSeparated g A-single s nothing more) →
      (p q : SingleState) → single_class low top p ≢ single_class low top q → AreSeparated g A-single s p q
  pick-single s low top ones mores nothing nothing differ = absurd (differ refl)
  pick-single s low top ones mores one one differ = absurd (differ refl)
  pick-single s low top ones mores more more differ = absurd (differ refl)
  pick-single s false false ones mores p q differ = absurd (differ refl)
  pick-single s true top ones mores one nothing differ = (ones refl).0
  pick-single s false true ones mores one nothing differ = (ones refl).0
  pick-single s true top ones mores one more differ = (ones refl).1
  pick-single s false true ones mores one more differ = (ones refl).1
  pick-single s true top ones mores nothing one differ = separated-turned g A-single s one nothing (ones refl).0
  pick-single s false true ones mores nothing one differ = separated-turned g A-single s one nothing (ones refl).0
  pick-single s true top ones mores more one differ = separated-turned g A-single s one more (ones refl).1
  pick-single s false true ones mores more one differ = separated-turned g A-single s one more (ones refl).1
  pick-single s true top ones mores nothing more differ = mores refl
  pick-single s true top ones mores more nothing differ = separated-turned g A-single s nothing more (mores refl)
  pick-single s false true ones mores nothing more differ = absurd (differ refl)
  pick-single s false true ones mores more nothing differ = absurd (differ refl)

  pub IsMinimalOf-Single : IsMinimalOf g (merged class-single A-single) (Stands class-single) (Single x)
  IsMinimalOf-Single = IsMinimalOf-merged g guide A-single (Single x) (Recognises-Single g guide x) generated-single class-single
      (λ s q. single-idempotent (is_below is_child s) (eqb s 0) q)
      (λ s p q label there. single-merge (is_below is_child s) (eqb s 0) p q (class-single (left g s) p) (class-single (right g s) q) (label x.0)
      (λ is. (
        (λ i. single_class (child-below g guide is_child test s there is false i) (eqb (left g s) 0) p),
        (λ i. single_class (child-below g guide is_child test s there is true i) (eqb (right g s) 0) q),
      )))
      (single-accepting (is_below is_child 0))
      (λ s p q there differ. pick-single s (is_below is_child s) (eqb s 0)
      (everywhere g guide is_child test FromOne one-root one-child s there)
      (at-below g guide is_child test FromOne one-root one-child (λ s. AreSeparated g A-single s nothing more) more-child s there) p q differ)

root-idempotent : (low top : Bool) (q : RootState) → root_class low top (root_class low top q) ≡ root_class low top q
root-idempotent true true q = refl
root-idempotent true false absent = refl
root-idempotent true false alone = refl
root-idempotent true false lower = refl
root-idempotent false true absent = refl
root-idempotent false true alone = refl
root-idempotent false true lower = refl
root-idempotent false false q = refl

root-accepting : (low : Bool) (q : RootState) → is_alone q ≡ is_alone (root_class low true q)
root-accepting true q = refl
root-accepting false absent = refl
root-accepting false alone = refl
root-accepting false lower = refl

-- a state below is as good as what stands for it
root-same : (t u : Bool) (p q : RootState) (b : Bool) → root_step p q b ≡ root_step (root_class true t p) (root_class true u q) b
root-same true true p q b = refl
root-same true false p absent b = refl
root-same true false absent alone b = refl
root-same true false alone alone b = refl
root-same true false lower alone b = refl
root-same true false p lower b = refl
root-same false true absent q b = refl
root-same false true alone q b = refl
root-same false true lower q b = refl
root-same false false absent absent b = refl
root-same false false absent alone b = refl
root-same false false absent lower b = refl
root-same false false alone q b = refl
root-same false false lower q b = refl

root-merge : (low top l r t u : Bool) (p q : RootState) (b : Bool) → (low || top ≡ true → (l ≡ true) × (r ≡ true)) →
    root_class low top (root_step p q b) ≡ root_class low top (root_step (root_class l t p) (root_class r u q) b)
root-merge false false l r t u p q b h = refl
root-merge true top l r t u p q b h =
    let are = h refl in
    ap (root_class true top) (root-same t u p q b ∙ (λ i. root_step (root_class (sym are.0 i) t p) (root_class (sym are.1 i) u q) b))
root-merge false true l r t u p q b h =
    let are = h refl in
    ap (root_class false true) (root-same t u p q b ∙ (λ i. root_step (root_class (sym are.0 i) t p) (root_class (sym are.1 i) u q) b))

module _ (g : Spaces) (guide : IsGuide g) (is_child : Bool → ℕ → Bool) (test : IsChildTest g is_child) (x : Track) where
  abbrev A-root : Automaton RootState
  A-root = root_automaton x.0

  abbrev class-root : ℕ → RootState → RootState
  class-root s q = root_class (is_below is_child s) (eqb s 0) q

  generated-alone : (s : ℕ) → IsSpace g s → Generated g A-root s alone
  generated-alone s there = steps s absent absent every_track there
      (starts (left g s) (guide.left_inside s there)) (starts (right g s) (guide.right_inside s there))

  generated-root : (s : ℕ) (q : RootState) → IsSpace g s → Generated g A-root s q
  generated-root s absent there = starts s there
  generated-root s alone there = generated-alone s there
  generated-root s lower there = steps s alone alone every_track there
      (generated-alone (left g s) (guide.left_inside s there)) (generated-alone (right g s) (guide.right_inside s there))

  absent-value : (s : ℕ) → IsSpace g s → IsValue g A-root s absent
  absent-value s there = IsValue-generated g guide A-root (record { at = λ s there. refl }) s absent (starts s there)

  abbrev FromAbsent : ℕ → Type 0
  FromAbsent s = AreSeparated g A-root s absent alone × AreSeparated g A-root s absent lower

  -- at the root's space nothing is known yet; below, absent is apart
  abbrev TopOrApart : ℕ → Type 0
  TopOrApart s = (s ≡ 0) ⊎ FromAbsent s

  alone-lower : AreSeparated g A-root 0 alone lower
  alone-lower = at_root alone lower (λ e. absurd cc)

  absent-child : (s : ℕ) → IsSpace g s → TopOrApart s → (letter : Bool) → FromAbsent (child_space g letter s)
  absent-child s there (inl is) false =
      let at = subst (λ z. AreSeparated g A-root z alone lower) (sym is) alone-lower in
      let beside = absent-value (right g s) (guide.right_inside s there) in
      (below_left s absent alone absent every_track there beside at, below_left s absent lower absent every_track there beside at)
  absent-child s there (inl is) true =
      let at = subst (λ z. AreSeparated g A-root z alone lower) (sym is) alone-lower in
      let beside = absent-value (left g s) (guide.left_inside s there) in
      (below_right s absent alone absent every_track there beside at, below_right s absent lower absent every_track there beside at)
  absent-child s there (inr h) false =
      let beside = absent-value (right g s) (guide.right_inside s there) in
      (below_left s absent alone absent empty_label there beside h.1, below_left s absent lower absent empty_label there beside h.1)
  absent-child s there (inr h) true =
      let beside = absent-value (left g s) (guide.left_inside s there) in
      (below_right s absent alone absent empty_label there beside h.1, below_right s absent lower absent empty_label there beside h.1)

  pick-root : (s : ℕ) (low top : Bool) → (top ≡ true → s ≡ 0) → (low ≡ true → FromAbsent s) →
      (p q : RootState) → root_class low top p ≢ root_class low top q → AreSeparated g A-root s p q
  pick-root s low top is_top apart absent absent differ = absurd (differ refl)
  pick-root s low top is_top apart alone alone differ = absurd (differ refl)
  pick-root s low top is_top apart lower lower differ = absurd (differ refl)
  pick-root s false false is_top apart p q differ = absurd (differ refl)
  pick-root s true top is_top apart absent alone differ = (apart refl).0
  pick-root s true top is_top apart alone absent differ = separated-turned g A-root s absent alone (apart refl).0
  pick-root s true top is_top apart absent lower differ = (apart refl).1
  pick-root s true top is_top apart lower absent differ = separated-turned g A-root s absent lower (apart refl).1
  pick-root s true true is_top apart alone lower differ = subst (λ z. AreSeparated g A-root z alone lower) (sym (is_top refl)) alone-lower
  pick-root s true true is_top apart lower alone differ =
      subst (λ z. AreSeparated g A-root z lower alone) (sym (is_top refl)) (separated-turned g A-root 0 alone lower alone-lower)
  pick-root s true false is_top apart alone lower differ = absurd (differ refl)
  pick-root s true false is_top apart lower alone differ = absurd (differ refl)
  pick-root s false true is_top apart alone lower differ = subst (λ z. AreSeparated g A-root z alone lower) (sym (is_top refl)) alone-lower
  pick-root s false true is_top apart lower alone differ =
      subst (λ z. AreSeparated g A-root z lower alone) (sym (is_top refl)) (separated-turned g A-root 0 alone lower alone-lower)
  pick-root s false true is_top apart alone absent differ =
      subst (λ z. AreSeparated g A-root z alone absent) (sym (is_top refl)) (at_root alone absent (λ e. absurd cc))
  pick-root s false true is_top apart absent alone differ =
      subst (λ z. AreSeparated g A-root z absent alone) (sym (is_top refl)) (at_root absent alone (λ e. absurd cc))
  pick-root s false true is_top apart absent lower differ = absurd (differ refl)
  pick-root s false true is_top apart lower absent differ = absurd (differ refl)

  pub IsMinimalOf-Root : IsMinimalOf g (merged class-root A-root) (Stands class-root) (Root x)
  IsMinimalOf-Root = IsMinimalOf-merged g guide A-root (Root x) (Recognises-Root g guide x) generated-root class-root
      (λ s q. root-idempotent (is_below is_child s) (eqb s 0) q)
      (λ s p q label there. root-merge (is_below is_child s) (eqb s 0) (is_below is_child (left g s)) (is_below is_child (right g s))
      (eqb (left g s) 0) (eqb (right g s) 0) p q (label x.0)
      (λ is. (child-below g guide is_child test s there is false, child-below g guide is_child test s there is true)))
      (root-accepting (is_below is_child 0))
      (λ s p q there differ. pick-root s (is_below is_child s) (eqb s 0) (eqb-true s 0)
      (at-below g guide is_child test TopOrApart (inl refl) (λ s there h letter. inr (absent-child s there h letter)) FromAbsent absent-child s there)
      p q differ)

sub-idempotent : (low top : Bool) (q : SubState) → sub_class low top (sub_class low top q) ≡ sub_class low top q
sub-idempotent true top q = refl
sub-idempotent false true q = refl
sub-idempotent false false q = refl

sub-merge : (low top : Bool) (p q p' q' : SubState) (b c : Bool) → (low || top ≡ true → (p' ≡ p) × (q' ≡ q)) →
    sub_class low top (sub_step p q b c) ≡ sub_class low top (sub_step p' q' b c)
sub-merge true top p q p' q' b c h = let same = h refl in λ i. sub_step (sym same.0 i) (sym same.1 i) b c
sub-merge false true p q p' q' b c h = let same = h refl in λ i. sub_step (sym same.0 i) (sym same.1 i) b c
sub-merge false false p q p' q' b c h = refl

sub-accepting : (low : Bool) (q : SubState) → is_inside q ≡ is_inside (sub_class low true q)
sub-accepting true q = refl
sub-accepting false q = refl

-- the label with the one track
abbrev pub lone : ℕ → Label
lone t = with_track empty_label t true

pub lone-here : (t : ℕ) → lone t t ≡ true
lone-here t = λ i. cond (eq-eqb t t refl i) true false

pub lone-there : (t u : ℕ) → u ≢ t → lone t u ≡ false
lone-there t u other = λ i. cond (ne_eqb u t other i) true false

module _ (g : Spaces) (guide : IsGuide g) (is_child : Bool → ℕ → Bool) (test : IsChildTest g is_child) (x y : Track) (differ : y.0 ≢ x.0) where
  abbrev A-sub : Automaton SubState
  A-sub = sub_automaton x.0 y.0

  abbrev class-sub : ℕ → SubState → SubState
  class-sub s q = sub_class (is_below is_child s) (eqb s 0) q

  generated-sub : (s : ℕ) (q : SubState) → IsSpace g s → Generated g A-sub s q
  generated-sub s inside there = starts s there
  generated-sub s outside there = subst (Generated g A-sub s) (λ i. sub_step inside inside (lone-here x.0 i) (lone-there x.0 y.0 differ i))
      (steps s inside inside (lone x.0) there (starts (left g s) (guide.left_inside s there)) (starts (right g s) (guide.right_inside s there)))

  abbrev Apart : ℕ → Type 0
  Apart s = AreSeparated g A-sub s inside outside

  inside-value : (s : ℕ) → IsSpace g s → IsValue g A-sub s inside
  inside-value s there = IsValue-generated g guide A-sub (record { at = λ s there. refl }) s inside (starts s there)

  apart-child : (s : ℕ) → IsSpace g s → Apart s → (letter : Bool) → Apart (child_space g letter s)
  apart-child s there h false = below_left s inside outside inside empty_label there (inside-value (right g s) (guide.right_inside s there)) h
  apart-child s there h true = below_right s inside outside inside empty_label there (inside-value (left g s) (guide.left_inside s there)) h

  pick-sub : (s : ℕ) (low top : Bool) → (low || top ≡ true → Apart s) → (p q : SubState) → sub_class low top p ≢ sub_class low top q →
      AreSeparated g A-sub s p q
  pick-sub s low top apart inside inside other = absurd (other refl)
  pick-sub s low top apart outside outside other = absurd (other refl)
  pick-sub s false false apart p q other = absurd (other refl)
  pick-sub s true top apart inside outside other = apart refl
  pick-sub s false true apart inside outside other = apart refl
  pick-sub s true top apart outside inside other = separated-turned g A-sub s inside outside (apart refl)
  pick-sub s false true apart outside inside other = separated-turned g A-sub s inside outside (apart refl)

  pub IsMinimalOf-Sub : IsMinimalOf g (merged class-sub A-sub) (Stands class-sub) (Sub x y)
  IsMinimalOf-Sub = IsMinimalOf-merged g guide A-sub (Sub x y) (Recognises-Sub g guide x y) generated-sub class-sub
      (λ s q. sub-idempotent (is_below is_child s) (eqb s 0) q)
      (λ s p q label there. sub-merge (is_below is_child s) (eqb s 0) p q (class-sub (left g s) p) (class-sub (right g s) q) (label x.0) (label y.0)
      (λ is. (
        (λ i. sub_class (child-below g guide is_child test s there is false i) (eqb (left g s) 0) p),
        (λ i. sub_class (child-below g guide is_child test s there is true i) (eqb (right g s) 0) q),
      )))
      (sub-accepting (is_below is_child 0))
      (λ s p q there other. pick-sub s (is_below is_child s) (eqb s 0)
      (everywhere g guide is_child test Apart (at_root inside outside (λ e. absurd cc)) apart-child s there) p q other)
