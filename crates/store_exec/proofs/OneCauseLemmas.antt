-- A triple fails from a store with one cause only.
use Rattle.std.proofs.Common.{◌≡◌, inl, inr, ℕ, zero, suc, List, [], ◌∷◌, slice_get, Option, Some, None, refl, sym, ap, ◌∙◌, subst}
use Rattle.std.proofs.lemmas.Bool.{cases_order}
use Rattle.store_core.specs.Tables.{TypeEntry, VarEntry}
use Rattle.store_core.specs.Stores.{StoreMap}
use Rattle.store_exec.specs.declared.cause.Cause.{Cause}
use Rattle.store_exec.specs.declared.cause.Cause.TheVariants as cause
use Rattle.store_exec.specs.declared.outcome.Outcome.TheVariants as outcome
use Rattle.store_exec.specs.declared.triple.Cut.{Cut}
use Rattle.store_exec.specs.declared.triple.Triple.{Triple}
use Rattle.store_exec.specs.Cuts.{number_of, IsFirstCause, AtCut}
use Rattle.store_exec.specs.Failing.{FailsAtCut, Fails}
use Rattle.store_exec.proofs.OneEndLemmas.{code-one}

-- the causes from one of them on, the first on top
abbrev cause_at : List Cause → ℕ → Cause
cause_at [] n = cause.Variant
cause_at (why ∷ causes) zero = why
cause_at (why ∷ causes) (suc n) = cause_at causes n

-- the cause with a number
abbrev numbered : ℕ → Cause
numbered = cause_at (cause.Variant ∷ cause.Null ∷ cause.Dangling ∷ cause.DoubleFree ∷ cause.DanglingRef ∷ cause.Shared ∷ cause.Leak ∷ cause.Field
    ∷ cause.Escape ∷ cause.Post ∷ cause.Assert ∷ [])

of_number : (why : Cause) → numbered (number_of why) ≡ why
of_number cause.Null = refl
of_number cause.Dangling = refl
of_number cause.DoubleFree = refl
of_number cause.DanglingRef = refl
of_number cause.Shared = refl
of_number cause.Leak = refl
of_number cause.Field = refl
of_number cause.Escape = refl
of_number cause.Post = refl
of_number cause.Assert = refl
of_number cause.Variant = refl

module _ (types : List TypeEntry) (vars : List VarEntry) where
  first-one : (cut : Cut) (s : StoreMap) (why other : Cause) → IsFirstCause types vars cut s why → IsFirstCause types vars cut s other → why ≡ other
  first-one cut s why other h k = elim (cases_order (number_of why) (number_of other)) [
    | inl same ↦ sym (of_number why) ∙ ap numbered same ∙ of_number other
    | inr (inl less) ↦ absurd (k.before why less h.here)
    | inr (inr more) ↦ absurd (h.before other more k.here)
  ]

  pub AtCut-one : (cut : Cut) (s : StoreMap) (o p : Option Cause) → AtCut types vars cut s o → AtCut types vars cut s p → o ≡ p
  AtCut-one cut s None None h k = refl
  AtCut-one cut s None (Some why) h k = absurd (h why k.here)
  AtCut-one cut s (Some why) None h k = absurd (k why h.here)
  AtCut-one cut s (Some why) (Some other) h k = ap (λ w. Some w) (first-one cut s why other h k)

  module _ (t : Triple) (s : StoreMap) (why other : Cause) (line at : ℕ) where
    same-end : (place there : ℕ) (u w : StoreMap) → outcome.End place u ≡ outcome.End there w → (place ≡ there) × (u ≡ w)
    same-end place there u w e = (cc, cc)

    same-fail : outcome.Fail why line ≡ outcome.Fail other at → (why ≡ other) × (line ≡ at)
    same-fail e = (cc, cc)

    at-cuts : FailsAtCut types vars t s why line → FailsAtCut types vars t s other at → (why ≡ other) × (line ≡ at)
    at-cuts f g =
        let same = same-end f.place g.place f.store g.store
        (code-one types t.code s (outcome.End f.place f.store) (outcome.End g.place g.store) f.ends g.ends) in
        let cut : f.cut ≡ g.cut = let both : Some f.cut ≡ Some g.cut = sym f.there ∙ ap (slice_get t.cuts) same.0 ∙ g.there in cc in
        let first = subst (λ (c : Cut). IsFirstCause types vars c g.store why) cut (subst (λ u. IsFirstCause types vars f.cut u why) same.1 f.first) in
        (first-one g.cut g.store why other first g.first, sym f.at_line ∙ ap (λ (c : Cut). c.line) cut ∙ g.at_line)

    fail-or-end : {A : Type 0} (c : Cause) (n place : ℕ) (u : StoreMap) → outcome.Fail c n ≡ outcome.End place u → A
    fail-or-end c n place u e = absurd cc

    pub Fails-one : Fails types vars t s why line → Fails types vars t s other at → (why ≡ other) × (line ≡ at)
    Fails-one (inl runs) (inl also) = same-fail (code-one types t.code s (outcome.Fail why line) (outcome.Fail other at) runs also)
    Fails-one (inl runs) (inr g) = fail-or-end why line g.place g.store
        (code-one types t.code s (outcome.Fail why line) (outcome.End g.place g.store) runs g.ends)
    Fails-one (inr f) (inl also) = fail-or-end other at f.place f.store
        (code-one types t.code s (outcome.Fail other at) (outcome.End f.place f.store) also f.ends)
    Fails-one (inr f) (inr g) = at-cuts f g
