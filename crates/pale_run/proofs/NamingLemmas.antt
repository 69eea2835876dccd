-- The first element of a list that passes a test, looked for from the left.
use Rattle.std.proofs.Common.{◌≡◌, ◌∙◌, ◌+◌, ◌<◌, ◌==◌, ℕ, zero, suc, Bool, true, false, cond, List, [], ◌∷◌, Option, Some, None, position, slice_get}
use Rattle.std.proofs.Common.{option_map, refl, sym, ap, arith}
use Rattle.std.proofs.lemmas.Bool.Decides.{nat_tests}
use Rattle.std.proofs.lemmas.Option.{same_Some}
use Rattle.store_core.proofs.Names.{position-cons}
use Rattle.pale_typed.specs.declared.typed.ProcEntry.{ProcEntry}
use Rattle.pale_typed.specs.declared.typed.TypedProc.{TypedProc}

module _ {X : Type 0} (P : X → Bool) where
  -- none of the first so many passes
  abbrev pub NoneBefore : List X → ℕ → Type 0
  NoneBefore xs n = (i : ℕ) (x : X) → i < n → slice_get xs i ≡ Some x → P x ≡ false

  pub none_first : (xs : List X) → NoneBefore xs 0
  none_first xs i x less there = absurd (omega (arith, less))

  -- nor the next one
  pub one_further : (xs : List X) (n : ℕ) (y : X) → slice_get xs n ≡ Some y → P y ≡ false → NoneBefore xs n → NoneBefore xs (n + 1)
  one_further xs n y at fails none i x less there = by (i == n) refl
    where
      by : (t : Bool) → (i == n) ≡ t → P x ≡ false
      by true is =
          let same : i ≡ n = grind (arith, nat_tests) in
          let one = same_Some x y (sym there ∙ ap (λ k. slice_get xs k) same ∙ at) in
          ap P one ∙ fails
      by false is = let lower : i < n = grind (arith, nat_tests, less) in none i x lower there

  behind : (y : X) (ys : List X) (n : ℕ) → NoneBefore (y ∷ ys) (suc n) → NoneBefore ys n
  behind y ys n none i x less there = none (suc i) x (omega (arith, less)) there

  first_false : (y : X) (ys : List X) (n : ℕ) → NoneBefore (y ∷ ys) (suc n) → P y ≡ false
  first_false y ys n none = none zero y (omega arith) refl

  pub found_at : (xs : List X) (n : ℕ) (x : X) → NoneBefore xs n → slice_get xs n ≡ Some x → P x ≡ true → position P xs ≡ Some n
  found_at [] n x none there passes = absurd (cc)
  found_at (y ∷ ys) zero x none there passes =
      let same : y ≡ x = cc in
      position-cons P y ys ∙ ap (λ t. cond t (Some 0) (option_map suc (position P ys))) (ap P same ∙ passes)
  found_at (y ∷ ys) (suc n) x none there passes =
      position-cons P y ys ∙ ap (λ t. cond t (Some 0) (option_map suc (position P ys))) (first_false y ys n none)
      ∙ ap (option_map suc) (found_at ys n x (behind y ys n none) there passes)

  pub found_none : (xs : List X) (n : ℕ) → NoneBefore xs n → slice_get xs n ≡ None → position P xs ≡ None
  found_none [] n none past = refl
  found_none (y ∷ ys) zero none past = absurd (cc)
  found_none (y ∷ ys) (suc n) none past =
      position-cons P y ys ∙ ap (λ t. cond t (Some 0) (option_map suc (position P ys))) (first_false y ys n none)
      ∙ ap (option_map suc) (found_none ys n (behind y ys n none) past)

  -- what was found is there
  pub found_there : (xs : List X) (n : ℕ) → position P xs ≡ Some n → (x : X) × (slice_get xs n ≡ Some x)
  found_there [] n is = absurd (cc)
  found_there (y ∷ ys) n is = by (P y) (position P ys) refl n (sym (position-cons P y ys) ∙ is) (found_there ys)
    where
      by : (t : Bool) (r : Option ℕ) → position P ys ≡ r → (m : ℕ) → cond t (Some 0) (option_map suc r) ≡ Some m →
          ((i : ℕ) → position P ys ≡ Some i → (x : X) × (slice_get ys i ≡ Some x)) → (x : X) × (slice_get (y ∷ ys) m ≡ Some x)
      by true r at m e deeper = let zero_is : 0 ≡ m = cc in (y, ap (λ k. slice_get (y ∷ ys) k) (sym zero_is))
      by false None at m e deeper = absurd (cc)
      by false (Some i) at m e deeper =
          let one : suc i ≡ m = cc in
          let (x, there) = deeper i at in
          (x, ap (λ k. slice_get (y ∷ ys) k) (sym one) ∙ there)

-- ---- procedures

-- the entry of a procedure that is there
pub entry_there : (o : Option ProcEntry) (p : TypedProc) → Some p ≡ option_map (λ (e : ProcEntry). e.proc) o →
    (e : ProcEntry) × (o ≡ Some e) × (e.proc ≡ p)
entry_there None p is = absurd (cc)
entry_there (Some e) p is = (e, refl, sym (same_Some p e.proc is))

pub no_entry : (o : Option ProcEntry) → None ≡ option_map (λ (e : ProcEntry). e.proc) o → o ≡ None
no_entry None is = refl
no_entry (Some e) is = absurd (cc)
