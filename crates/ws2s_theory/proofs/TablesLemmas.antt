-- On the atoms' tables: from which states a step leads to each.
use Rattle.std.proofs.Common.{◌≡◌, Bool, true, false, ◌↔◌, ◌⊎◌, inl, inr, refl}
use Rattle.ws2s_theory.specs.Atoms.{SubState, inside, outside, sub_step, SingleState, nothing, one, single_step}
use Rattle.ws2s_theory.specs.Atoms.{RootState, absent, alone, root_step, SuccState, neither, child, found, succ_step}

pub sub-inside : (p q : SubState) (b c : Bool) → (sub_step p q b c ≡ inside) ↔ ((p ≡ inside) × (q ≡ inside) × (b ≡ true → c ≡ true))
sub-inside p q b c = (there p q b c, λ h. back p q b c h.0 h.1 h.2)
  where
    there : (p q : SubState) (b c : Bool) → sub_step p q b c ≡ inside → (p ≡ inside) × (q ≡ inside) × (b ≡ true → c ≡ true)
    there inside inside true true e = (refl, refl, λ is. refl)
    there inside inside true false e = absurd cc
    there inside inside false c e = (refl, refl, λ is. absurd cc)
    there outside q b c e = absurd cc
    there inside outside b c e = absurd cc

    back : (p q : SubState) (b c : Bool) → p ≡ inside → q ≡ inside → (b ≡ true → c ≡ true) → sub_step p q b c ≡ inside
    back inside inside true true e e' h = refl
    back inside inside true false e e' h = let is = h refl in absurd cc
    back inside inside false c e e' h = refl
    back outside q b c e e' h = absurd cc
    back inside outside b c e e' h = absurd cc

pub single-nothing : (p q : SingleState) (b : Bool) → (single_step p q b ≡ nothing) ↔ ((p ≡ nothing) × (q ≡ nothing) × (b ≡ false))
single-nothing p q b = (there p q b, λ h i. single_step (h.0 i) (h.1 i) (h.2 i))
  where
    there : (p q : SingleState) (b : Bool) → single_step p q b ≡ nothing → (p ≡ nothing) × (q ≡ nothing) × (b ≡ false)
    there nothing nothing false e = (refl, refl, refl)
    there nothing nothing true e = absurd cc
    there one nothing false e = absurd cc
    there nothing one false e = absurd cc
    there p q b e = absurd cc

abbrev OneRows : SingleState → SingleState → Bool → Type 0
OneRows p q b = ((p ≡ nothing) × (q ≡ nothing) × (b ≡ true))
    ⊎ (((p ≡ one) × (q ≡ nothing) × (b ≡ false)) ⊎ ((p ≡ nothing) × (q ≡ one) × (b ≡ false)))

pub single-one : (p q : SingleState) (b : Bool) → (single_step p q b ≡ one) ↔ OneRows p q b
single-one p q b = (
  there p q b,
  λ h. elim h as (λ _. single_step p q b ≡ one) [
    | inl r ↦ λ i. single_step (r.0 i) (r.1 i) (r.2 i)
    | inr rest ↦ elim rest as (λ _. single_step p q b ≡ one) [
      | inl r ↦ λ i. single_step (r.0 i) (r.1 i) (r.2 i)
      | inr r ↦ λ i. single_step (r.0 i) (r.1 i) (r.2 i)
    ]
  ],
)
  where
    there : (p q : SingleState) (b : Bool) → single_step p q b ≡ one → OneRows p q b
    there nothing nothing true e = inl (refl, refl, refl)
    there one nothing false e = inr (inl (refl, refl, refl))
    there nothing one false e = inr (inr (refl, refl, refl))
    there nothing nothing false e = absurd cc
    there p q b e = absurd cc

pub root-absent : (p q : RootState) (b : Bool) → (root_step p q b ≡ absent) ↔ ((p ≡ absent) × (q ≡ absent) × (b ≡ false))
root-absent p q b = (there p q b, λ h i. root_step (h.0 i) (h.1 i) (h.2 i))
  where
    there : (p q : RootState) (b : Bool) → root_step p q b ≡ absent → (p ≡ absent) × (q ≡ absent) × (b ≡ false)
    there absent absent false e = (refl, refl, refl)
    there absent absent true e = absurd cc
    there p q b e = absurd cc

pub root-alone : (p q : RootState) (b : Bool) → (root_step p q b ≡ alone) ↔ ((p ≡ absent) × (q ≡ absent) × (b ≡ true))
root-alone p q b = (there p q b, λ h i. root_step (h.0 i) (h.1 i) (h.2 i))
  where
    there : (p q : RootState) (b : Bool) → root_step p q b ≡ alone → (p ≡ absent) × (q ≡ absent) × (b ≡ true)
    there absent absent true e = (refl, refl, refl)
    there absent absent false e = absurd cc
    there p q b e = absurd cc

abbrev pub SuccRow : SuccState → SuccState → Bool → Bool → SuccState → SuccState → Bool → Bool → Type 0
SuccRow p q b c p' q' b' c' = (p ≡ p') × (q ≡ q') × (b ≡ b') × (c ≡ c')

succ-along : (p q : SuccState) (b c : Bool) (p' q' : SuccState) (b' c' : Bool) → SuccRow p q b c p' q' b' c' →
    succ_step p q b c ≡ succ_step p' q' b' c'
succ-along p q b c p' q' b' c' h = λ i. succ_step (h.0 i) (h.1 i) (h.2 i) (h.3 i)

pub succ-neither : (p q : SuccState) (b c : Bool) → (succ_step p q b c ≡ neither) ↔ SuccRow p q b c neither neither false false
succ-neither p q b c = (there p q b c, succ-along p q b c neither neither false false)
  where
    there : (p q : SuccState) (b c : Bool) → succ_step p q b c ≡ neither → SuccRow p q b c neither neither false false
    there neither neither false false e = (refl, refl, refl, refl)
    there neither neither false true e = absurd cc
    there child neither true false e = absurd cc
    there found neither false false e = absurd cc
    there neither found false false e = absurd cc
    there p q b c e = absurd cc

pub succ-child : (p q : SuccState) (b c : Bool) → (succ_step p q b c ≡ child) ↔ SuccRow p q b c neither neither false true
succ-child p q b c = (there p q b c, succ-along p q b c neither neither false true)
  where
    there : (p q : SuccState) (b c : Bool) → succ_step p q b c ≡ child → SuccRow p q b c neither neither false true
    there neither neither false true e = (refl, refl, refl, refl)
    there neither neither false false e = absurd cc
    there child neither true false e = absurd cc
    there found neither false false e = absurd cc
    there neither found false false e = absurd cc
    there p q b c e = absurd cc

abbrev FoundRows : SuccState → SuccState → Bool → Bool → Type 0
FoundRows p q b c = SuccRow p q b c child neither true false
    ⊎ (SuccRow p q b c found neither false false ⊎ SuccRow p q b c neither found false false)

pub succ-found : (p q : SuccState) (b c : Bool) → (succ_step p q b c ≡ found) ↔ FoundRows p q b c
succ-found p q b c = (
  there p q b c,
  λ h. elim h as (λ _. succ_step p q b c ≡ found) [
    | inl r ↦ succ-along p q b c child neither true false r
    | inr rest ↦ elim rest as (λ _. succ_step p q b c ≡ found) [
      | inl r ↦ succ-along p q b c found neither false false r
      | inr r ↦ succ-along p q b c neither found false false r
    ]
  ],
)
  where
    there : (p q : SuccState) (b c : Bool) → succ_step p q b c ≡ found → FoundRows p q b c
    there child neither true false e = inl (refl, refl, refl, refl)
    there found neither false false e = inr (inl (refl, refl, refl, refl))
    there neither found false false e = inr (inr (refl, refl, refl, refl))
    there neither neither false false e = absurd cc
    there neither neither false true e = absurd cc
    there p q b c e = absurd cc
