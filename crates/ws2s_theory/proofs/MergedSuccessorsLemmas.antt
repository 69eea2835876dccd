-- On merging: the minimal automata of `Succ0` and `Succ1`.
use Rattle.std.proofs.Common.{◌≡◌, ◌≢◌, ℕ, Bool, true, false, ◌||◌, refl, sym, ap, subst, ◌∙◌, eqb}
use Rattle.labels.specs.Labels.{empty_label}
use Rattle.gta_theory.specs.Guides.{Spaces, IsGuide, IsSpace, left, right}
use Rattle.gta_theory.specs.Automata.{Automaton, IsValue}
use Rattle.gta_theory.specs.Generated.{Generated, starts, steps}
use Rattle.gta_theory.specs.Minimal.{AreSeparated, at_root, below_left, below_right}
use Rattle.gta_theory.proofs.GeneratedLemmas.{IsValue-generated}
use Rattle.ws2s_core.specs.declared.track.Track.{Track}
use Rattle.ws2s_core.specs.declared.formula.Formula.TheVariants.{Succ0, Succ1}
use Rattle.ws2s_core.specs.Recognising.{IsMinimalOf}
use Rattle.ws2s_theory.specs.Atoms.{SuccState, neither, child, found, wrong, is_found, succ_step, succ0_automaton, succ1_automaton}
use Rattle.ws2s_theory.specs.Merging.{child_space, IsChildTest, is_below, succ_class, merged, Stands}
use Rattle.ws2s_theory.proofs.AtomsLemmas.{Recognises-Succ0, Recognises-Succ1}
use Rattle.ws2s_theory.proofs.WorkedLemmas.{separated-turned}
use Rattle.ws2s_theory.proofs.MergingLemmas.{child-passes, child-below, everywhere, at-child, at-below, IsMinimalOf-merged}
use Rattle.ws2s_theory.proofs.MergedAtomsLemmas.{lone, lone-here, lone-there}

succ-idempotent : (low by top : Bool) (q : SuccState) → succ_class low by top (succ_class low by top q) ≡ succ_class low by top q
succ-idempotent true true top neither = refl
succ-idempotent true true top child = refl
succ-idempotent true true top found = refl
succ-idempotent true true top wrong = refl
succ-idempotent true false top neither = refl
succ-idempotent true false top child = refl
succ-idempotent true false top found = refl
succ-idempotent true false top wrong = refl
succ-idempotent false true true neither = refl
succ-idempotent false true true child = refl
succ-idempotent false true true found = refl
succ-idempotent false true true wrong = refl
succ-idempotent false false true neither = refl
succ-idempotent false false true child = refl
succ-idempotent false false true found = refl
succ-idempotent false false true wrong = refl
succ-idempotent false true false q = refl
succ-idempotent false false false q = refl

succ-accepting : (low by : Bool) (q : SuccState) → is_found q ≡ is_found (succ_class low by true q)
succ-accepting true true neither = refl
succ-accepting true true child = refl
succ-accepting true true found = refl
succ-accepting true true wrong = refl
succ-accepting true false neither = refl
succ-accepting true false child = refl
succ-accepting true false found = refl
succ-accepting true false wrong = refl
succ-accepting false true neither = refl
succ-accepting false true child = refl
succ-accepting false true found = refl
succ-accepting false true wrong = refl
succ-accepting false false neither = refl
succ-accepting false false child = refl
succ-accepting false false found = refl
succ-accepting false false wrong = refl

-- on the side of the child nothing merges below, on the other side no child is waited for
toward-same : (t : Bool) (p : SuccState) → p ≡ succ_class true true t p
toward-same t neither = refl
toward-same t child = refl
toward-same t found = refl
toward-same t wrong = refl

aside-same : (by t : Bool) (p q : SuccState) (b c : Bool) → succ_step p q b c ≡ succ_step p (succ_class true by t q) b c
aside-same true t p q b c = ap (λ z. succ_step p z b c) (toward-same t q)
aside-same false t p neither b c = refl
aside-same false t p found b c = refl
aside-same false t p wrong b c = refl
aside-same false t neither child b c = refl
aside-same false t child child b c = refl
aside-same false t found child b c = refl
aside-same false t wrong child b c = refl

none-merge : (by : Bool) (p q : SuccState) → succ_class false by false p ≡ succ_class false by false q
none-merge true p q = refl
none-merge false p q = refl

-- the step goes along with what stands for the states: p on the side of the child, with tests low, by and top, q aside
succ-merge : (low by top l lb lt r rb rt : Bool) (p q : SuccState) (b c : Bool) →
    (low || top ≡ true → (l ≡ true) × (lb ≡ true) × (r ≡ true)) →
    succ_class low by top (succ_step p q b c) ≡ succ_class low by top (succ_step (succ_class l lb lt p) (succ_class r rb rt q) b c)
succ-merge low by top l lb lt r rb rt p q b c h = choose low top h
  where
    steps-same : (l ≡ true) × (lb ≡ true) × (r ≡ true) →
        succ_step p q b c ≡ succ_step (succ_class l lb lt p) (succ_class r rb rt q) b c
    steps-same are =
        aside-same rb rt p q b c
        ∙ ap (λ z. succ_step z (succ_class true rb rt q) b c) (toward-same lt p)
        ∙ (λ i. succ_step (succ_class (sym are.0 i) (sym are.1 i) lt p) (succ_class (sym are.2 i) rb rt q) b c)

    choose : (low top : Bool) → (low || top ≡ true → (l ≡ true) × (lb ≡ true) × (r ≡ true)) →
        succ_class low by top (succ_step p q b c) ≡ succ_class low by top (succ_step (succ_class l lb lt p) (succ_class r rb rt q) b c)
    choose true top are = ap (succ_class true by top) (steps-same (are refl))
    choose false true are = ap (succ_class false by true) (steps-same (are refl))
    choose false false are = none-merge by (succ_step p q b c) (succ_step (succ_class l lb lt p) (succ_class r rb rt q) b c)

-- what is kept apart in a space, for an automaton with these states
module _ (g : Spaces) (A : Automaton SuccState) where
  abbrev FromFound : ℕ → Type 0
  FromFound s = AreSeparated g A s found neither × AreSeparated g A s found child × AreSeparated g A s found wrong

  abbrev FromNeither : ℕ → Type 0
  FromNeither s = AreSeparated g A s neither child × AreSeparated g A s neither wrong

  abbrev Waits : ℕ → Type 0
  Waits s = AreSeparated g A s child wrong

  -- the pairs in one order; the other comes by turning
  turn : (s : ℕ) (p q : SuccState) → AreSeparated g A s p q → AreSeparated g A s q p
  turn s p q = separated-turned g A s p q

  pick-low : (s : ℕ) (by top : Bool) → FromFound s → FromNeither s → (by ≡ true → Waits s) → (p q : SuccState) →
      succ_class true by top p ≢ succ_class true by top q → AreSeparated g A s p q
  pick-low s by top f n w neither neither differ = absurd (differ refl)
  pick-low s by top f n w child child differ = absurd (differ refl)
  pick-low s by top f n w found found differ = absurd (differ refl)
  pick-low s by top f n w wrong wrong differ = absurd (differ refl)
  pick-low s by top f n w found neither differ = f.0
  pick-low s by top f n w found child differ = f.1
  pick-low s by top f n w found wrong differ = f.2
  pick-low s by top f n w neither found differ = turn s found neither f.0
  pick-low s by top f n w child found differ = turn s found child f.1
  pick-low s by top f n w wrong found differ = turn s found wrong f.2
  pick-low s by top f n w neither child differ = n.0
  pick-low s by top f n w neither wrong differ = n.1
  pick-low s by top f n w child neither differ = turn s neither child n.0
  pick-low s by top f n w wrong neither differ = turn s neither wrong n.1
  pick-low s true top f n w child wrong differ = w refl
  pick-low s true top f n w wrong child differ = turn s child wrong (w refl)
  pick-low s false top f n w child wrong differ = absurd (differ refl)
  pick-low s false top f n w wrong child differ = absurd (differ refl)

  pick-top : (s : ℕ) (by : Bool) → FromFound s → (p q : SuccState) → succ_class false by true p ≢ succ_class false by true q → AreSeparated g A s p q
  pick-top s by f found found differ = absurd (differ refl)
  pick-top s by f found neither differ = f.0
  pick-top s by f found child differ = f.1
  pick-top s by f found wrong differ = f.2
  pick-top s by f neither found differ = turn s found neither f.0
  pick-top s by f child found differ = turn s found child f.1
  pick-top s by f wrong found differ = turn s found wrong f.2
  pick-top s true f p q differ = absurd (differ refl)
  pick-top s false f p q differ = absurd (differ refl)

  pick-succ : (s : ℕ) (low by top : Bool) → (low || top ≡ true → FromFound s) → (low ≡ true → FromNeither s) → (by ≡ true → Waits s) →
      (p q : SuccState) → succ_class low by top p ≢ succ_class low by top q → AreSeparated g A s p q
  pick-succ s true by top f n w p q differ = pick-low s by top (f refl) (n refl) w p q differ
  pick-succ s false by true f n w p q differ = pick-top s by (f refl) p q differ
  pick-succ s false by false f n w p q differ = absurd (differ (none-merge by p q))

module _ (g : Spaces) (guide : IsGuide g) (is_child : Bool → ℕ → Bool) (test : IsChildTest g is_child) (x y : Track) (differ : y.0 ≢ x.0) where
  other : x.0 ≢ y.0
  other e = differ (sym e)

  first-label : (p q : SuccState) → succ_step p q (lone x.0 x.0) (lone x.0 y.0) ≡ succ_step p q true false
  first-label p q = λ i. succ_step p q (lone-here x.0 i) (lone-there x.0 y.0 differ i)

  second-label : (p q : SuccState) → succ_step p q (lone y.0 x.0) (lone y.0 y.0) ≡ succ_step p q false true
  second-label p q = λ i. succ_step p q (lone-there y.0 x.0 other i) (lone-here y.0 i)

  -- `Succ0`
  abbrev A0 : Automaton SuccState
  A0 = succ0_automaton x.0 y.0

  abbrev class0 : ℕ → SuccState → SuccState
  class0 s q = succ_class (is_below is_child s) (is_child false s) (eqb s 0) q

  generated0 : (s : ℕ) (q : SuccState) → IsSpace g s → Generated g A0 s q
  generated0 s neither there = starts s there
  generated0 s child there = subst (Generated g A0 s) (second-label neither neither)
      (steps s neither neither (lone y.0) there (starts (left g s) (guide.left_inside s there)) (starts (right g s) (guide.right_inside s there)))
  generated0 s wrong there = subst (Generated g A0 s) (first-label neither neither)
      (steps s neither neither (lone x.0) there (starts (left g s) (guide.left_inside s there)) (starts (right g s) (guide.right_inside s there)))
  generated0 s found there =
      let waiting : Generated g A0 (left g s) child = subst (Generated g A0 (left g s)) (second-label neither neither)
      (steps (left g s) neither neither (lone y.0) (guide.left_inside s there)
      (starts (left g (left g s)) (guide.left_inside (left g s) (guide.left_inside s there)))
      (starts (right g (left g s)) (guide.right_inside (left g s) (guide.left_inside s there)))) in
      subst (Generated g A0 s) (first-label child neither)
      (steps s child neither (lone x.0) there waiting (starts (right g s) (guide.right_inside s there)))

  value0 : (s : ℕ) (q : SuccState) → IsSpace g s → IsValue g A0 s q
  value0 s q there = IsValue-generated g guide A0 (record { at = λ s there. refl }) s q (generated0 s q there)

  found-child0 : (s : ℕ) → IsSpace g s → FromFound g A0 s → (side : Bool) → FromFound g A0 (child_space g side s)
  found-child0 s there h false =
      let v = value0 (right g s) neither (guide.right_inside s there) in (
        below_left s found neither neither empty_label there v h.0,
        below_left s found child neither empty_label there v h.2,
        below_left s found wrong neither empty_label there v h.2,
      )
  found-child0 s there h true =
      let v = value0 (left g s) neither (guide.left_inside s there) in (
        below_right s found neither neither empty_label there v h.0,
        below_right s found child neither empty_label there v h.2,
        below_right s found wrong neither empty_label there v h.2,
      )

  neither-child0 : (s : ℕ) → IsSpace g s → FromFound g A0 s → (side : Bool) → FromNeither g A0 (child_space g side s)
  neither-child0 s there h false =
      let v = value0 (right g s) found (guide.right_inside s there) in
      (below_left s neither child found empty_label there v h.2, below_left s neither wrong found empty_label there v h.2)
  neither-child0 s there h true =
      let v = value0 (left g s) found (guide.left_inside s there) in
      (below_right s neither child found empty_label there v h.2, below_right s neither wrong found empty_label there v h.2)

  waits-child0 : (s : ℕ) → IsSpace g s → FromFound g A0 s → Waits g A0 (left g s)
  waits-child0 s there h = below_left s child wrong neither (lone x.0) there (value0 (right g s) neither (guide.right_inside s there))
      (subst (λ z. AreSeparated g A0 s z wrong) (sym (first-label child neither)) h.2)

  found-root0 : FromFound g A0 0
  found-root0 = (at_root found neither (λ e. absurd cc), at_root found child (λ e. absurd cc), at_root found wrong (λ e. absurd cc))

  pub IsMinimalOf-Succ0 : IsMinimalOf g (merged class0 A0) (Stands class0) (Succ0 x y)
  IsMinimalOf-Succ0 = IsMinimalOf-merged g guide A0 (Succ0 x y) (Recognises-Succ0 g guide x y) generated0 class0
      (λ s q. succ-idempotent (is_below is_child s) (is_child false s) (eqb s 0) q)
      (λ s p q label there. succ-merge (is_below is_child s) (is_child false s) (eqb s 0)
      (is_below is_child (left g s)) (is_child false (left g s)) (eqb (left g s) 0)
      (is_below is_child (right g s)) (is_child false (right g s)) (eqb (right g s) 0) p q (label x.0) (label y.0)
      (λ is. (
        child-below g guide is_child test s there is false,
        child-passes g guide is_child test s there is false,
        child-below g guide is_child test s there is true,
      )))
      (succ-accepting (is_below is_child 0) (is_child false 0))
      (λ s p q there apart. pick-succ g A0 s (is_below is_child s) (is_child false s) (eqb s 0)
      (everywhere g guide is_child test (FromFound g A0) found-root0 found-child0 s there)
      (at-below g guide is_child test (FromFound g A0) found-root0 found-child0 (FromNeither g A0) neither-child0 s there)
      (at-child g guide is_child test (FromFound g A0) found-root0 found-child0 false (Waits g A0) waits-child0 s there) p q apart)

  -- `Succ1`
  abbrev A1 : Automaton SuccState
  A1 = succ1_automaton x.0 y.0

  abbrev class1 : ℕ → SuccState → SuccState
  class1 s q = succ_class (is_below is_child s) (is_child true s) (eqb s 0) q

  generated1 : (s : ℕ) (q : SuccState) → IsSpace g s → Generated g A1 s q
  generated1 s neither there = starts s there
  generated1 s child there = subst (Generated g A1 s) (second-label neither neither)
      (steps s neither neither (lone y.0) there (starts (left g s) (guide.left_inside s there)) (starts (right g s) (guide.right_inside s there)))
  generated1 s wrong there = subst (Generated g A1 s) (first-label neither neither)
      (steps s neither neither (lone x.0) there (starts (left g s) (guide.left_inside s there)) (starts (right g s) (guide.right_inside s there)))
  generated1 s found there =
      let waiting : Generated g A1 (right g s) child = subst (Generated g A1 (right g s)) (second-label neither neither)
      (steps (right g s) neither neither (lone y.0) (guide.right_inside s there)
      (starts (left g (right g s)) (guide.left_inside (right g s) (guide.right_inside s there)))
      (starts (right g (right g s)) (guide.right_inside (right g s) (guide.right_inside s there)))) in
      subst (Generated g A1 s) (first-label child neither)
      (steps s neither child (lone x.0) there (starts (left g s) (guide.left_inside s there)) waiting)

  value1 : (s : ℕ) (q : SuccState) → IsSpace g s → IsValue g A1 s q
  value1 s q there = IsValue-generated g guide A1 (record { at = λ s there. refl }) s q (generated1 s q there)

  found-child1 : (s : ℕ) → IsSpace g s → FromFound g A1 s → (side : Bool) → FromFound g A1 (child_space g side s)
  found-child1 s there h false =
      let v = value1 (right g s) neither (guide.right_inside s there) in (
        below_left s found neither neither empty_label there v h.0,
        below_left s found child neither empty_label there v h.2,
        below_left s found wrong neither empty_label there v h.2,
      )
  found-child1 s there h true =
      let v = value1 (left g s) neither (guide.left_inside s there) in (
        below_right s found neither neither empty_label there v h.0,
        below_right s found child neither empty_label there v h.2,
        below_right s found wrong neither empty_label there v h.2,
      )

  neither-child1 : (s : ℕ) → IsSpace g s → FromFound g A1 s → (side : Bool) → FromNeither g A1 (child_space g side s)
  neither-child1 s there h false =
      let v = value1 (right g s) found (guide.right_inside s there) in
      (below_left s neither child found empty_label there v h.2, below_left s neither wrong found empty_label there v h.2)
  neither-child1 s there h true =
      let v = value1 (left g s) found (guide.left_inside s there) in
      (below_right s neither child found empty_label there v h.2, below_right s neither wrong found empty_label there v h.2)

  waits-child1 : (s : ℕ) → IsSpace g s → FromFound g A1 s → Waits g A1 (right g s)
  waits-child1 s there h = below_right s child wrong neither (lone x.0) there (value1 (left g s) neither (guide.left_inside s there))
      (subst (λ z. AreSeparated g A1 s z wrong) (sym (first-label child neither)) h.2)

  found-root1 : FromFound g A1 0
  found-root1 = (at_root found neither (λ e. absurd cc), at_root found child (λ e. absurd cc), at_root found wrong (λ e. absurd cc))

  pub IsMinimalOf-Succ1 : IsMinimalOf g (merged class1 A1) (Stands class1) (Succ1 x y)
  IsMinimalOf-Succ1 = IsMinimalOf-merged g guide A1 (Succ1 x y) (Recognises-Succ1 g guide x y) generated1 class1
      (λ s q. succ-idempotent (is_below is_child s) (is_child true s) (eqb s 0) q)
      (λ s p q label there. succ-merge (is_below is_child s) (is_child true s) (eqb s 0)
      (is_below is_child (right g s)) (is_child true (right g s)) (eqb (right g s) 0)
      (is_below is_child (left g s)) (is_child true (left g s)) (eqb (left g s) 0) q p (label x.0) (label y.0)
      (λ is. (
        child-below g guide is_child test s there is true,
        child-passes g guide is_child test s there is true,
        child-below g guide is_child test s there is false,
      )))
      (succ-accepting (is_below is_child 0) (is_child true 0))
      (λ s p q there apart. pick-succ g A1 s (is_below is_child s) (is_child true s) (eqb s 0)
      (everywhere g guide is_child test (FromFound g A1) found-root1 found-child1 s there)
      (at-below g guide is_child test (FromFound g A1) found-root1 found-child1 (FromNeither g A1) neither-child1 s there)
      (at-child g guide is_child test (FromFound g A1) found-root1 found-child1 true (Waits g A1) waits-child1 s there) p q apart)
