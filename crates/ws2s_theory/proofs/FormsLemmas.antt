-- On the forms of formulas: each formula has a minimal automaton with numbered states.
use Rattle.std.proofs.Common.{◌≡◌, ◌≢◌, ℕ, suc, ◌≤◌, max, Bool, IsTrue, ◌↔◌, ◌⊎◌, inl, inr, List, [], ◌∷◌, Contains, refl, arith}
use Rattle.labels.specs.Labels.{Label}
use Rattle.gta_theory.specs.Assignments.{Assignment}
use Rattle.gta_theory.specs.Guides.{Spaces, IsGuide}
use Rattle.gta_theory.specs.Automata.{Automaton, IsStable, Accepts}
use Rattle.gta_theory.specs.Constructions.{complement, IsClosed, IsProduct, IsSubset}
use Rattle.gta_theory.specs.Sizes.{AreSameBelow, LooksBelow}
use Rattle.gta_theory.specs.Numbered.{Below}
use Rattle.gta_theory.proofs.AutomataLemmas.{Accepts-named, IsStable-named, IsClosed-reached}
use Rattle.gta_theory.proofs.AlikeLemmas.{IsMinimal-complement}
use Rattle.gta_theory.proofs.LooksLemmas.{LooksBelow-named, LooksBelow-product, LooksBelow-subset}
use Rattle.gta_theory.proofs.ListsLemmas.{Contains-first, Contains-later}
use Rattle.gta_theory.proofs.NumberedLemmas.{name-inside, IsNumbered-exists, IsProduct-exists}
use Rattle.gta_theory.proofs.SubsetExistsLemmas.{IsSubset-exists}
use Rattle.gta_theory.proofs.MinimalExistsLemmas.{IsMinimal-exists}
use Rattle.ws2s_core.specs.declared.track.Track.{Track}
use Rattle.ws2s_core.specs.declared.formula.Formula.{Formula}
use Rattle.ws2s_core.specs.declared.formula.Formula.TheVariants.{Sub, Single, Succ0, Succ1, Root, And, Not, Ex2}
use Rattle.ws2s_core.specs.Recognising.{Recognises, IsMinimalOf}
use Rattle.ws2s_core.proofs.FormulaLemmas.{formula-induction}
use Rattle.ws2s_core.proofs.RecognisingLemmas.{Recognises-And, Recognises-Not, Recognises-Ex2}
use Rattle.ws2s_theory.specs.Atoms.{SubState, inside, outside, sub_step, sub_automaton}
use Rattle.ws2s_theory.specs.Atoms.{SingleState, nothing, one, more, single_step, single_automaton}
use Rattle.ws2s_theory.specs.Atoms.{RootState, absent, alone, lower, root_step, root_automaton}
use Rattle.ws2s_theory.specs.Atoms.{SuccState, neither, child, found, wrong, succ_step, succ0_automaton, succ1_automaton}
use Rattle.ws2s_theory.proofs.AtomsLemmas.{Recognises-Sub, Recognises-Single, Recognises-Succ0, Recognises-Succ1, Recognises-Root}

-- what accepts the same recognises the same
pub Recognises-same : {Q R : Type 0} (g : Spaces) (A : Automaton Q) (B : Automaton R) (f : Formula) → Recognises g A f → IsStable g B →
    ((a : Assignment) → Accepts g A a ↔ Accepts g B a) → Recognises g B f
Recognises-same g A B f of_A stable alike = record {
  stable = stable;
  exactly = λ n a covers. (
    (λ h. (of_A.exactly n a covers).0 ((alike a).1 h)),
    (λ h. (alike a).0 ((of_A.exactly n a covers).1 h)),
  );
}

-- a minimal automaton of the formula, with numbered states, whose steps look at finitely many tracks
pub record IsFormed (g : Spaces) (f : Formula) (M : Automaton ℕ) (count : ℕ → ℕ) (k : ℕ) : Type 0 where
  pub minimal : IsMinimalOf g M (Below count) f
  pub looks : LooksBelow g M (Below count) k

abbrev pub Formed : Spaces → Formula → Type 0
Formed g f = (M : Automaton ℕ) × (count : ℕ → ℕ) × (k : ℕ) × IsFormed g f M count k

-- C is a product of minimal automata of two formulas, with numbered states, and looks at finitely many tracks
pub record IsProductOf (g : Spaces) (f h : Formula) (A B C : Automaton ℕ) (count_A count_B count : ℕ → ℕ)
    (pair : ℕ → ℕ → ℕ × ℕ) (k : ℕ) : Type 0 where
  pub of_A : IsMinimalOf g A (Below count_A) f
  pub of_B : IsMinimalOf g B (Below count_B) h
  pub is_product : IsProduct g A B C (Below count) pair
  pub looks : LooksBelow g C (Below count) k

-- C is a subset automaton of a minimal automaton of the formula, with numbered states, and looks at finitely many tracks
pub record IsSubsetOf (g : Spaces) (t : ℕ) (f : Formula) (A C : Automaton ℕ) (count_A count : ℕ → ℕ)
    (member : ℕ → ℕ → ℕ → Bool) (k : ℕ) : Type 0 where
  pub of_A : IsMinimalOf g A (Below count_A) f
  pub is_subset : IsSubset g A t C (Below count) (λ s x q. IsTrue (member s x q))
  pub looks : LooksBelow g C (Below count) k

pub LooksBelow-more : {Q : Type 0} (g : Spaces) (A : Automaton Q) (has : ℕ → Q → Type 0) (k m : ℕ) → k ≤ m →
    LooksBelow g A has k → LooksBelow g A has m
LooksBelow-more g A has k m deeper looks = record {
  step = λ s p q l l' there in_p in_q same. looks.step s p q l l' there in_p in_q (λ t less. same t (omega arith));
}

module _ (g : Spaces) (guide : IsGuide g) where
  -- of an automaton with numbered states
  Formed-counted : (f : Formula) (A : Automaton ℕ) (count : ℕ → ℕ) (k : ℕ) → Recognises g A f → IsClosed g A (Below count) →
      LooksBelow g A (Below count) k → Formed g f
  Formed-counted f A count k of_A closed looks =
      let found = IsMinimal-exists g A count k guide of_A.stable closed looks in (
        found.0,
        found.1,
        k,
        record {
          minimal = record {
            minimal = found.2;
            recognises = Recognises-same g A found.0 f of_A (found.2).stable found.3;
          };
          looks = found.4;
        },
      )

  pub IsClosed-minimal : (f : Formula) (M : Automaton ℕ) (count : ℕ → ℕ) → IsMinimalOf g M (Below count) f → IsClosed g M (Below count)
  IsClosed-minimal f M count of_M = IsClosed-reached g guide M (of_M.minimal).stable (Below count) (of_M.minimal).reached

  -- of an automaton with listed states, the same in each space
  module _ {Q : Type 0} (decide : (p q : Q) → (p ≡ q) ⊎ (p ≢ q)) (states : List Q) (all : (q : Q) → Contains states q) (f : Formula)
      (A : Automaton Q) (k : ℕ) (of_A : Recognises g A f)
      (looks : (s : ℕ) (p q : Q) (l m : Label) → AreSameBelow k l m → A.step s p q l ≡ A.step s p q m) where
    abbrev Listed : ℕ → Q → Type 0
    Listed s q = Contains states q

    closed : IsClosed g A Listed
    closed = record { initial = λ s there. all (A.initial s); step = λ s p q label there in_p in_q. all (A.step s p q label) }

    looks-listed : LooksBelow g A Listed k
    looks-listed = record { step = λ s p q l m there in_p in_q same. looks s p q l m same }

    Formed-listed : Formed g f
    Formed-listed =
        let found = IsNumbered-exists decide g guide A of_A.stable (λ s. states) closed k looks-listed in
        let B : Automaton ℕ = found.0 in
        let counts = found.1 in
        let name = found.2 in
        let is = found.3 in
        let stable = IsStable-named g guide B (Below counts) A name is.reached is.naming is.once of_A.stable in
        let closed_B = IsClosed-reached g guide B stable (Below counts) is.reached in
        let names = Accepts-named g guide B (Below counts) A name closed_B is.naming in
        Formed-counted f B counts k
        (Recognises-same g A B f of_A stable (λ a. ((names a).1, (names a).0))) closed_B
        (LooksBelow-named g guide B (Below counts) A Listed name k closed_B is.naming is.once
        (name-inside g guide A of_A.stable Listed closed B counts name is) looks-listed)

-- the atoms' states, listed and told apart
pub all-sub : (q : SubState) → Contains (inside ∷ outside ∷ []) q
all-sub inside = Contains-first inside (outside ∷ [])
all-sub outside = Contains-later inside outside (outside ∷ []) (Contains-first outside [])

pub decide-sub : (p q : SubState) → (p ≡ q) ⊎ (p ≢ q)
decide-sub inside inside = inl refl
decide-sub outside outside = inl refl
decide-sub inside outside = inr (λ e. absurd cc)
decide-sub outside inside = inr (λ e. absurd cc)

pub all-single : (q : SingleState) → Contains (nothing ∷ one ∷ more ∷ []) q
all-single nothing = Contains-first nothing (one ∷ more ∷ [])
all-single one = Contains-later nothing one (one ∷ more ∷ []) (Contains-first one (more ∷ []))
all-single more = Contains-later nothing more (one ∷ more ∷ []) (Contains-later one more (more ∷ []) (Contains-first more []))

pub decide-single : (p q : SingleState) → (p ≡ q) ⊎ (p ≢ q)
decide-single nothing nothing = inl refl
decide-single one one = inl refl
decide-single more more = inl refl
decide-single p q = inr (λ e. absurd cc)

pub all-root : (q : RootState) → Contains (absent ∷ alone ∷ lower ∷ []) q
all-root absent = Contains-first absent (alone ∷ lower ∷ [])
all-root alone = Contains-later absent alone (alone ∷ lower ∷ []) (Contains-first alone (lower ∷ []))
all-root lower = Contains-later absent lower (alone ∷ lower ∷ []) (Contains-later alone lower (lower ∷ []) (Contains-first lower []))

pub decide-root : (p q : RootState) → (p ≡ q) ⊎ (p ≢ q)
decide-root absent absent = inl refl
decide-root alone alone = inl refl
decide-root lower lower = inl refl
decide-root p q = inr (λ e. absurd cc)

pub all-succ : (q : SuccState) → Contains (neither ∷ child ∷ found ∷ wrong ∷ []) q
all-succ neither = Contains-first neither (child ∷ found ∷ wrong ∷ [])
all-succ child = Contains-later neither child (child ∷ found ∷ wrong ∷ []) (Contains-first child (found ∷ wrong ∷ []))
all-succ found = Contains-later neither found (child ∷ found ∷ wrong ∷ [])
    (Contains-later child found (found ∷ wrong ∷ []) (Contains-first found (wrong ∷ [])))
all-succ wrong = Contains-later neither wrong (child ∷ found ∷ wrong ∷ [])
    (Contains-later child wrong (found ∷ wrong ∷ []) (Contains-later found wrong (wrong ∷ []) (Contains-first wrong [])))

pub decide-succ : (p q : SuccState) → (p ≡ q) ⊎ (p ≢ q)
decide-succ neither neither = inl refl
decide-succ child child = inl refl
decide-succ found found = inl refl
decide-succ wrong wrong = inl refl
decide-succ p q = inr (λ e. absurd cc)

module _ (g : Spaces) (guide : IsGuide g) where
  Formed-Sub : (x y : Track) → Formed g (Sub x y)
  Formed-Sub x y =
      let k : ℕ = max (suc x.0) (suc y.0) in
      Formed-listed g guide decide-sub (inside ∷ outside ∷ []) all-sub (Sub x y) (sub_automaton x.0 y.0) k (Recognises-Sub g guide x y)
      (λ s p q l m same i. sub_step p q (same x.0 (omega arith) i) (same y.0 (omega arith) i))

  Formed-Single : (x : Track) → Formed g (Single x)
  Formed-Single x = Formed-listed g guide decide-single (nothing ∷ one ∷ more ∷ []) all-single (Single x) (single_automaton x.0) (suc x.0)
      (Recognises-Single g guide x) (λ s p q l m same i. single_step p q (same x.0 (omega arith) i))

  Formed-Root : (x : Track) → Formed g (Root x)
  Formed-Root x = Formed-listed g guide decide-root (absent ∷ alone ∷ lower ∷ []) all-root (Root x) (root_automaton x.0) (suc x.0)
      (Recognises-Root g guide x) (λ s p q l m same i. root_step p q (same x.0 (omega arith) i))

  Formed-Succ0 : (x y : Track) → Formed g (Succ0 x y)
  Formed-Succ0 x y =
      let k : ℕ = max (suc x.0) (suc y.0) in
      Formed-listed g guide decide-succ (neither ∷ child ∷ found ∷ wrong ∷ []) all-succ (Succ0 x y) (succ0_automaton x.0 y.0) k
      (Recognises-Succ0 g guide x y) (λ s p q l m same i. succ_step p q (same x.0 (omega arith) i) (same y.0 (omega arith) i))

  Formed-Succ1 : (x y : Track) → Formed g (Succ1 x y)
  Formed-Succ1 x y =
      let k : ℕ = max (suc x.0) (suc y.0) in
      Formed-listed g guide decide-succ (neither ∷ child ∷ found ∷ wrong ∷ []) all-succ (Succ1 x y) (succ1_automaton x.0 y.0) k
      (Recognises-Succ1 g guide x y) (λ s p q l m same i. succ_step q p (same x.0 (omega arith) i) (same y.0 (omega arith) i))

  pub product-formed : (f h : Formula) → Formed g f → Formed g h →
      (A B C : Automaton ℕ) × (count_A count_B count : ℕ → ℕ) × (pair : ℕ → ℕ → ℕ × ℕ) × (k : ℕ)
      × IsProductOf g f h A B C count_A count_B count pair k
  product-formed f h (A, count_A, k_A, of_A) (B, count_B, k_B, of_B) =
      let k : ℕ = max k_A k_B in
      let looks_A = LooksBelow-more g A (Below count_A) k_A k (omega arith) of_A.looks in
      let looks_B = LooksBelow-more g B (Below count_B) k_B k (omega arith) of_B.looks in
      let min_A = (of_A.minimal).minimal in
      let min_B = (of_B.minimal).minimal in
      let found = IsProduct-exists g A B count_A count_B k guide
      min_A.stable (IsClosed-minimal g guide f A count_A of_A.minimal) looks_A
      min_B.stable (IsClosed-minimal g guide h B count_B of_B.minimal) looks_B in (
        A,
        B,
        found.0,
        count_A,
        count_B,
        found.1,
        found.2,
        k,
        record {
          of_A = of_A.minimal;
          of_B = of_B.minimal;
          is_product = found.3;
          looks = LooksBelow-product g guide A (Below count_A) min_A.stable min_A.reached B (Below count_B) min_B.stable min_B.reached
              found.0 (Below found.1) found.2 found.3 k looks_A looks_B;
        },
      )

  pub subset-formed : (t : ℕ) (f : Formula) → Formed g f →
      (A C : Automaton ℕ) × (count_A count : ℕ → ℕ) × (member : ℕ → ℕ → ℕ → Bool) × (k : ℕ)
      × IsSubsetOf g t f A C count_A count member k
  subset-formed t f (A, count_A, k, of_A) =
      let min_A = (of_A.minimal).minimal in
      let found = IsSubset-exists g guide A min_A.stable count_A (IsClosed-minimal g guide f A count_A of_A.minimal) k of_A.looks t in (
        A,
        found.0,
        count_A,
        found.1,
        found.2,
        k,
        record {
          of_A = of_A.minimal;
          is_subset = found.3;
          looks = LooksBelow-subset g guide A (Below count_A) min_A.stable min_A.reached t found.0 (Below found.1)
              (λ s x q. IsTrue (found.2 s x q)) found.3 k of_A.looks;
        },
      )

  Formed-And : (f h : Formula) → Formed g f → Formed g h → Formed g (And f h)
  Formed-And f h of_f of_h =
      let (A, B, C, count_A, count_B, count, pair, k, is) = product-formed f h of_f of_h in
      let of_C : Recognises g C (And f h) = Recognises-And g guide A f (is.of_A).recognises B h (is.of_B).recognises C (Below count) pair is.is_product in
      Formed-counted g guide (And f h) C count k of_C (IsClosed-reached g guide C of_C.stable (Below count) (is.is_product).reached) is.looks

  Formed-Not : (f : Formula) → Formed g f → Formed g (Not f)
  Formed-Not f (A, count, k, of_A) = (
    complement A,
    count,
    k,
    record {
      minimal = record {
        minimal = IsMinimal-complement g guide A (Below count) (of_A.minimal).minimal;
        recognises = Recognises-Not g guide A f (of_A.minimal).recognises;
      };
      looks = record { step = (of_A.looks).step };
    },
  )

  Formed-Ex2 : (t : Track) (f : Formula) → Formed g f → Formed g (Ex2 t f)
  Formed-Ex2 t f of_f =
      let (A, C, count_A, count, member, k, is) = subset-formed t.0 f of_f in
      let of_C : Recognises g C (Ex2 t f) =
      Recognises-Ex2 g guide A f (is.of_A).recognises t C (Below count) (λ s x q. IsTrue (member s x q)) is.is_subset in
      Formed-counted g guide (Ex2 t f) C count k of_C (IsClosed-reached g guide C of_C.stable (Below count) (is.is_subset).reached) is.looks

  -- every formula has a minimal automaton
  pub Formed-all : (f : Formula) → Formed g f
  Formed-all = formula-induction (Formed g) (record {
    of_Sub = Formed-Sub;
    of_Single = Formed-Single;
    of_Succ0 = Formed-Succ0;
    of_Succ1 = Formed-Succ1;
    of_Root = Formed-Root;
    of_And = Formed-And;
    of_Not = Formed-Not;
    of_Ex2 = Formed-Ex2;
  })
