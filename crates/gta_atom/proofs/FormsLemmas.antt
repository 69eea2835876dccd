-- What is kept of each form's states, and their steps, case by case.
use Rattle.std.proofs.Common.{◌≡◌, ℕ, zero, suc, ◌<◌, Bool, true, false, refl, arith, lit<}
use Rattle.ws2s_theory.specs.Atoms.{SubState, inside, outside, sub_step, is_inside, SingleState, nothing, one, more, single_step, is_one}
use Rattle.ws2s_theory.specs.Atoms.{RootState, absent, alone, lower, root_step, is_alone, SuccState, neither, child, found, wrong, succ_step, is_found}
use Rattle.ws2s_theory.specs.Merging.{sub_class, single_class, root_class, succ_class}
use Rattle.gta_atom.specs.declared.known.Form.TheVariants.{Sub, Single, Root, Succ0, Succ1}
use Rattle.gta_atom.specs.States.{of_sub, of_single, of_root, of_succ, known_step, is_held, kept_of, keeps_none}
use Rattle.gta_atom.proofs.NumberedLemmas.{HasState, IsNumbered, IsKept}

-- the numbers below small ones
below-one : (P : ℕ → Type 0) → P 0 → (n : ℕ) → n < 1 → P n
below-one P a zero less = a
below-one P a (suc n) less = absurd (omega arith)

below-two : (P : ℕ → Type 0) → P 0 → P 1 → (n : ℕ) → n < 2 → P n
below-two P a b zero less = a
below-two P a b (suc n) less = below-one (λ (m : ℕ). P (suc m)) b n (omega arith)

below-three : (P : ℕ → Type 0) → P 0 → P 1 → P 2 → (n : ℕ) → n < 3 → P n
below-three P a b c zero less = a
below-three P a b c (suc n) less = below-two (λ (m : ℕ). P (suc m)) b c n (omega arith)

below-four : (P : ℕ → Type 0) → P 0 → P 1 → P 2 → P 3 → (n : ℕ) → n < 4 → P n
below-four P a b c d zero less = a
below-four P a b c d (suc n) less = below-three (λ (m : ℕ). P (suc m)) b c d n (omega arith)

each-sub : (P : SubState → Type 0) → P inside → P outside → (q : SubState) → P q
each-sub P a b inside = a
each-sub P a b outside = b

each-single : (P : SingleState → Type 0) → P nothing → P one → P more → (q : SingleState) → P q
each-single P a b c nothing = a
each-single P a b c one = b
each-single P a b c more = c

each-root : (P : RootState → Type 0) → P absent → P alone → P lower → (q : RootState) → P q
each-root P a b c absent = a
each-root P a b c alone = b
each-root P a b c lower = c

each-succ : (P : SuccState → Type 0) → P neither → P found → P wrong → P child → (q : SuccState) → P q
each-succ P a b c d neither = a
each-succ P a b c d found = b
each-succ P a b c d wrong = c
each-succ P a b c d child = d

-- what each form keeps in each kind of space
pub IsKept-Sub : (b l t : Bool) → IsKept (sub_class b t) of_sub (kept_of Sub b l t)
IsKept-Sub true l t = record {
  state = each-sub (IsNumbered (sub_class true t) of_sub (kept_of Sub true l t))
      (record { known = refl; number = refl; less = lit< tt })
      (record { known = refl; number = refl; less = lit< tt });
  each = below-two (HasState (sub_class true t) of_sub (kept_of Sub true l t))
      (record { state = inside; stands = refl; number = refl })
      (record { state = outside; stands = refl; number = refl });
}
IsKept-Sub false l true = record {
  state = each-sub (IsNumbered (sub_class false true) of_sub (kept_of Sub false l true))
      (record { known = refl; number = refl; less = lit< tt })
      (record { known = refl; number = refl; less = lit< tt });
  each = below-two (HasState (sub_class false true) of_sub (kept_of Sub false l true))
      (record { state = inside; stands = refl; number = refl })
      (record { state = outside; stands = refl; number = refl });
}
IsKept-Sub false l false = record {
  state = each-sub (IsNumbered (sub_class false false) of_sub (kept_of Sub false l false))
      (record { known = refl; number = refl; less = lit< tt })
      (record { known = refl; number = refl; less = lit< tt });
  each = below-one (HasState (sub_class false false) of_sub (kept_of Sub false l false))
      (record { state = inside; stands = refl; number = refl });
}

pub IsKept-Single : (b l t : Bool) → IsKept (single_class b t) of_single (kept_of Single b l t)
IsKept-Single true l t = record {
  state = each-single (IsNumbered (single_class true t) of_single (kept_of Single true l t))
      (record { known = refl; number = refl; less = lit< tt })
      (record { known = refl; number = refl; less = lit< tt })
      (record { known = refl; number = refl; less = lit< tt });
  each = below-three (HasState (single_class true t) of_single (kept_of Single true l t))
      (record { state = nothing; stands = refl; number = refl })
      (record { state = one; stands = refl; number = refl })
      (record { state = more; stands = refl; number = refl });
}
IsKept-Single false l true = record {
  state = each-single (IsNumbered (single_class false true) of_single (kept_of Single false l true))
      (record { known = refl; number = refl; less = lit< tt })
      (record { known = refl; number = refl; less = lit< tt })
      (record { known = refl; number = refl; less = lit< tt });
  each = below-two (HasState (single_class false true) of_single (kept_of Single false l true))
      (record { state = nothing; stands = refl; number = refl })
      (record { state = one; stands = refl; number = refl });
}
IsKept-Single false l false = record {
  state = each-single (IsNumbered (single_class false false) of_single (kept_of Single false l false))
      (record { known = refl; number = refl; less = lit< tt })
      (record { known = refl; number = refl; less = lit< tt })
      (record { known = refl; number = refl; less = lit< tt });
  each = below-one (HasState (single_class false false) of_single (kept_of Single false l false))
      (record { state = nothing; stands = refl; number = refl });
}

pub IsKept-Root : (b l t : Bool) → IsKept (root_class b t) of_root (kept_of Root b l t)
IsKept-Root true l true = record {
  state = each-root (IsNumbered (root_class true true) of_root (kept_of Root true l true))
      (record { known = refl; number = refl; less = lit< tt })
      (record { known = refl; number = refl; less = lit< tt })
      (record { known = refl; number = refl; less = lit< tt });
  each = below-three (HasState (root_class true true) of_root (kept_of Root true l true))
      (record { state = absent; stands = refl; number = refl })
      (record { state = alone; stands = refl; number = refl })
      (record { state = lower; stands = refl; number = refl });
}
IsKept-Root true l false = record {
  state = each-root (IsNumbered (root_class true false) of_root (kept_of Root true l false))
      (record { known = refl; number = refl; less = lit< tt })
      (record { known = refl; number = refl; less = lit< tt })
      (record { known = refl; number = refl; less = lit< tt });
  each = below-two (HasState (root_class true false) of_root (kept_of Root true l false))
      (record { state = absent; stands = refl; number = refl })
      (record { state = lower; stands = refl; number = refl });
}
IsKept-Root false l true = record {
  state = each-root (IsNumbered (root_class false true) of_root (kept_of Root false l true))
      (record { known = refl; number = refl; less = lit< tt })
      (record { known = refl; number = refl; less = lit< tt })
      (record { known = refl; number = refl; less = lit< tt });
  each = below-two (HasState (root_class false true) of_root (kept_of Root false l true))
      (record { state = absent; stands = refl; number = refl })
      (record { state = alone; stands = refl; number = refl });
}
IsKept-Root false l false = record {
  state = each-root (IsNumbered (root_class false false) of_root (kept_of Root false l false))
      (record { known = refl; number = refl; less = lit< tt })
      (record { known = refl; number = refl; less = lit< tt })
      (record { known = refl; number = refl; less = lit< tt });
  each = below-one (HasState (root_class false false) of_root (kept_of Root false l false))
      (record { state = absent; stands = refl; number = refl });
}

pub IsKept-Succ0 : (b l t : Bool) → IsKept (succ_class b l t) of_succ (kept_of Succ0 b l t)
IsKept-Succ0 true true t = record {
  state = each-succ (IsNumbered (succ_class true true t) of_succ (kept_of Succ0 true true t))
      (record { known = refl; number = refl; less = lit< tt })
      (record { known = refl; number = refl; less = lit< tt })
      (record { known = refl; number = refl; less = lit< tt })
      (record { known = refl; number = refl; less = lit< tt });
  each = below-four (HasState (succ_class true true t) of_succ (kept_of Succ0 true true t))
      (record { state = neither; stands = refl; number = refl })
      (record { state = found; stands = refl; number = refl })
      (record { state = wrong; stands = refl; number = refl })
      (record { state = child; stands = refl; number = refl });
}
IsKept-Succ0 true false t = record {
  state = each-succ (IsNumbered (succ_class true false t) of_succ (kept_of Succ0 true false t))
      (record { known = refl; number = refl; less = lit< tt })
      (record { known = refl; number = refl; less = lit< tt })
      (record { known = refl; number = refl; less = lit< tt })
      (record { known = refl; number = refl; less = lit< tt });
  each = below-three (HasState (succ_class true false t) of_succ (kept_of Succ0 true false t))
      (record { state = neither; stands = refl; number = refl })
      (record { state = found; stands = refl; number = refl })
      (record { state = wrong; stands = refl; number = refl });
}
IsKept-Succ0 false l true = record {
  state = each-succ (IsNumbered (succ_class false l true) of_succ (kept_of Succ0 false l true))
      (record { known = refl; number = refl; less = lit< tt })
      (record { known = refl; number = refl; less = lit< tt })
      (record { known = refl; number = refl; less = lit< tt })
      (record { known = refl; number = refl; less = lit< tt });
  each = below-two (HasState (succ_class false l true) of_succ (kept_of Succ0 false l true))
      (record { state = neither; stands = refl; number = refl })
      (record { state = found; stands = refl; number = refl });
}
IsKept-Succ0 false l false = record {
  state = each-succ (IsNumbered (succ_class false l false) of_succ (kept_of Succ0 false l false))
      (record { known = refl; number = refl; less = lit< tt })
      (record { known = refl; number = refl; less = lit< tt })
      (record { known = refl; number = refl; less = lit< tt })
      (record { known = refl; number = refl; less = lit< tt });
  each = below-one (HasState (succ_class false l false) of_succ (kept_of Succ0 false l false))
      (record { state = neither; stands = refl; number = refl });
}

pub IsKept-Succ1 : (b l t : Bool) → IsKept (succ_class b l t) of_succ (kept_of Succ1 b l t)
IsKept-Succ1 true true t = record {
  state = each-succ (IsNumbered (succ_class true true t) of_succ (kept_of Succ1 true true t))
      (record { known = refl; number = refl; less = lit< tt })
      (record { known = refl; number = refl; less = lit< tt })
      (record { known = refl; number = refl; less = lit< tt })
      (record { known = refl; number = refl; less = lit< tt });
  each = below-four (HasState (succ_class true true t) of_succ (kept_of Succ1 true true t))
      (record { state = neither; stands = refl; number = refl })
      (record { state = found; stands = refl; number = refl })
      (record { state = wrong; stands = refl; number = refl })
      (record { state = child; stands = refl; number = refl });
}
IsKept-Succ1 true false t = record {
  state = each-succ (IsNumbered (succ_class true false t) of_succ (kept_of Succ1 true false t))
      (record { known = refl; number = refl; less = lit< tt })
      (record { known = refl; number = refl; less = lit< tt })
      (record { known = refl; number = refl; less = lit< tt })
      (record { known = refl; number = refl; less = lit< tt });
  each = below-three (HasState (succ_class true false t) of_succ (kept_of Succ1 true false t))
      (record { state = neither; stands = refl; number = refl })
      (record { state = found; stands = refl; number = refl })
      (record { state = wrong; stands = refl; number = refl });
}
IsKept-Succ1 false l true = record {
  state = each-succ (IsNumbered (succ_class false l true) of_succ (kept_of Succ1 false l true))
      (record { known = refl; number = refl; less = lit< tt })
      (record { known = refl; number = refl; less = lit< tt })
      (record { known = refl; number = refl; less = lit< tt })
      (record { known = refl; number = refl; less = lit< tt });
  each = below-two (HasState (succ_class false l true) of_succ (kept_of Succ1 false l true))
      (record { state = neither; stands = refl; number = refl })
      (record { state = found; stands = refl; number = refl });
}
IsKept-Succ1 false l false = record {
  state = each-succ (IsNumbered (succ_class false l false) of_succ (kept_of Succ1 false l false))
      (record { known = refl; number = refl; less = lit< tt })
      (record { known = refl; number = refl; less = lit< tt })
      (record { known = refl; number = refl; less = lit< tt })
      (record { known = refl; number = refl; less = lit< tt });
  each = below-one (HasState (succ_class false l false) of_succ (kept_of Succ1 false l false))
      (record { state = neither; stands = refl; number = refl });
}

-- where one state stands for all
pub IsKept-sub_none : IsKept (λ (q : SubState). inside) of_sub keeps_none
IsKept-sub_none = record {
  state = each-sub (IsNumbered (λ (q : SubState). inside) of_sub keeps_none)
      (record { known = refl; number = refl; less = lit< tt })
      (record { known = refl; number = refl; less = lit< tt });
  each = below-one (HasState (λ (q : SubState). inside) of_sub keeps_none)
      (record { state = inside; stands = refl; number = refl });
}

pub IsKept-succ_none : IsKept (λ (q : SuccState). neither) of_succ keeps_none
IsKept-succ_none = record {
  state = each-succ (IsNumbered (λ (q : SuccState). neither) of_succ keeps_none)
      (record { known = refl; number = refl; less = lit< tt })
      (record { known = refl; number = refl; less = lit< tt })
      (record { known = refl; number = refl; less = lit< tt })
      (record { known = refl; number = refl; less = lit< tt });
  each = below-one (HasState (λ (q : SuccState). neither) of_succ keeps_none)
      (record { state = neither; stands = refl; number = refl });
}

-- steps go along
pub step-Sub : (p q : SubState) (a b : Bool) → known_step Sub (of_sub p) (of_sub q) a b ≡ of_sub (sub_step p q a b)
step-Sub inside inside a b = refl
step-Sub inside outside a b = refl
step-Sub outside inside a b = refl
step-Sub outside outside a b = refl

pub step-Single : (p q : SingleState) (a b : Bool) → known_step Single (of_single p) (of_single q) a b ≡ of_single (single_step p q a)
step-Single nothing nothing a b = refl
step-Single nothing one a b = refl
step-Single nothing more a b = refl
step-Single one nothing a b = refl
step-Single one one a b = refl
step-Single one more a b = refl
step-Single more nothing a b = refl
step-Single more one a b = refl
step-Single more more a b = refl

pub step-Root : (p q : RootState) (a b : Bool) → known_step Root (of_root p) (of_root q) a b ≡ of_root (root_step p q a)
step-Root absent absent a b = refl
step-Root absent alone a b = refl
step-Root absent lower a b = refl
step-Root alone absent a b = refl
step-Root alone alone a b = refl
step-Root alone lower a b = refl
step-Root lower absent a b = refl
step-Root lower alone a b = refl
step-Root lower lower a b = refl

pub step-Succ0 : (p q : SuccState) (a b : Bool) → known_step Succ0 (of_succ p) (of_succ q) a b ≡ of_succ (succ_step p q a b)
step-Succ0 neither neither a b = refl
step-Succ0 neither found a b = refl
step-Succ0 neither wrong a b = refl
step-Succ0 neither child a b = refl
step-Succ0 found neither a b = refl
step-Succ0 found found a b = refl
step-Succ0 found wrong a b = refl
step-Succ0 found child a b = refl
step-Succ0 wrong neither a b = refl
step-Succ0 wrong found a b = refl
step-Succ0 wrong wrong a b = refl
step-Succ0 wrong child a b = refl
step-Succ0 child neither a b = refl
step-Succ0 child found a b = refl
step-Succ0 child wrong a b = refl
step-Succ0 child child a b = refl

pub step-Succ1 : (p q : SuccState) (a b : Bool) → known_step Succ1 (of_succ p) (of_succ q) a b ≡ of_succ (succ_step q p a b)
step-Succ1 p q a b = step-Succ0 q p a b

-- and so does acceptance
pub held-Sub : (q : SubState) → is_inside q ≡ is_held Sub (of_sub q)
held-Sub inside = refl
held-Sub outside = refl

pub held-Single : (q : SingleState) → is_one q ≡ is_held Single (of_single q)
held-Single nothing = refl
held-Single one = refl
held-Single more = refl

pub held-Root : (q : RootState) → is_alone q ≡ is_held Root (of_root q)
held-Root absent = refl
held-Root alone = refl
held-Root lower = refl

pub held-Succ0 : (q : SuccState) → is_found q ≡ is_held Succ0 (of_succ q)
held-Succ0 neither = refl
held-Succ0 found = refl
held-Succ0 wrong = refl
held-Succ0 child = refl

pub held-Succ1 : (q : SuccState) → is_found q ≡ is_held Succ1 (of_succ q)
held-Succ1 neither = refl
held-Succ1 found = refl
held-Succ1 wrong = refl
held-Succ1 child = refl
