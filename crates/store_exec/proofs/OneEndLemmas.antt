-- A store leads to one end only.
use Rattle.std.proofs.Common.{◌≡◌, inl, inr, ℕ, Bool, true, false, List, ◌∷◌, Result, Ok, Err, refl, sym, ap, ap₂, ◌∙◌, subst}
use Rattle.store_core.specs.Tables.{TypeEntry}
use Rattle.store_core.specs.Stores.{StoreMap}
use Rattle.store_logic.specs.declared.act.Act.{Act}
use Rattle.store_logic.specs.declared.act.Act.TheVariants as act
use Rattle.store_logic.specs.declared.assertion.Assertion.{Assertion}
use Rattle.store_logic.specs.declared.cond.Cond.{Cond}
use Rattle.store_exec.specs.declared.cause.Cause.{Cause}
use Rattle.store_exec.specs.declared.fault.Fault.{Fault}
use Rattle.store_exec.specs.declared.code.Item.{Item}
use Rattle.store_exec.specs.declared.code.Item.TheVariants as item
use Rattle.store_exec.specs.declared.code.Code.{Code}
use Rattle.store_exec.specs.declared.code.Tail.{Tail}
use Rattle.store_exec.specs.declared.code.Tail.TheVariants as tail
use Rattle.store_exec.specs.declared.outcome.Outcome.{Outcome}
use Rattle.store_exec.specs.declared.outcome.Outcome.TheVariants as outcome
use Rattle.store_exec.specs.Steps.{truth_of, Asserted, Step}
use Rattle.store_exec.specs.Runs.{Ending, Does, ByTruth, RunsItem, RunsItems, Follows, Branches, RunsCode}
use Rattle.store_exec.proofs.RunLemmas.{RunsItem-Do, RunsItem-If}
use Rattle.store_exec.proofs.CodeLemmas.{RunsTail, RunsCode-is, RunsTail-Cut, RunsTail-Branch}
use Rattle.store_exec.proofs.InductionLemmas.{items-induction, codes-induction}

same_ok : {X E : Type 0} (r : Result X E) (x y : X) → r ≡ Ok x → r ≡ Ok y → x ≡ y
same_ok r x y h k = let e = sym h ∙ k in cc

same_err : {X E : Type 0} (r : Result X E) (x y : E) → r ≡ Err x → r ≡ Err y → x ≡ y
same_err r x y h k = let e = sym h ∙ k in cc

ok_or_err : {X E A : Type 0} (r : Result X E) (x : X) (y : E) → r ≡ Ok x → r ≡ Err y → A
ok_or_err r x y h k = let e = sym h ∙ k in absurd cc

module _ (types : List TypeEntry) where
  asserted-one : (s : StoreMap) (a : Assertion) (r q : Result StoreMap Cause) → Asserted types s a r → Asserted types s a q → r ≡ q
  asserted-one s a (Ok t) (Ok u) h k = ap (λ x. Ok x) (h.0 ∙ sym k.0)
  asserted-one s a (Ok t) (Err why) h k = absurd (k.1 h.1)
  asserted-one s a (Err why) (Ok u) h k = absurd (h.1 k.1)
  asserted-one s a (Err why) (Err other) h k = ap (λ x. Err x) (h.0 ∙ sym k.0)

  pub Step-one : (s : StoreMap) (a : Act) (r q : Result StoreMap Cause) → Step types s a r → Step types s a q → r ≡ q
  Step-one s (act.Assign p x) r q h k = sym h ∙ k
  Step-one s (act.Free v) r q h k = sym h ∙ k
  Step-one s (act.Assert a) r q h k = asserted-one s a r q h k

  does-one : (line : ℕ) (a : Act) (s : StoreMap) (e f : Ending) → Does types line s a e → Does types line s a f → e ≡ f
  does-one line a s (Ok t) (Ok u) h k = ap (λ x. Ok x) (same_ok (Ok t) t u refl (Step-one s a (Ok t) (Ok u) h k))
  does-one line a s (Ok t) (Err fault) h k = ok_or_err (Ok t) t fault.cause refl (Step-one s a (Ok t) (Err fault.cause) h k.0)
  does-one line a s (Err fault) (Ok u) h k = ok_or_err (Ok u) u fault.cause refl (Step-one s a (Ok u) (Err fault.cause) k h.0)
  does-one line a s (Err fault) (Err other) h k =
      ap₂ (λ (c : Cause) (n : ℕ). Err (record { cause = c; line = n }))
      (same_err (Err fault.cause) fault.cause other.cause refl (Step-one s a (Err fault.cause) (Err other.cause) h.0 k.0)) (h.1 ∙ sym k.1)

  abbrev OneEnd : List Item → Type 0
  OneEnd xs = (s : StoreMap) (e f : Ending) → RunsItems types xs s e → RunsItems types xs s f → e ≡ f

  first-then : (i : Item) (rest : List Item) → ((s : StoreMap) (e f : Ending) → RunsItem types i s e → RunsItem types i s f → e ≡ f) →
      OneEnd rest → OneEnd (i ∷ rest)
  first-then i rest one more s e f (inl (u, first, after)) (inl (w, also, then_on)) =
      let same : u ≡ w = same_ok (Ok u) u w refl (one s (Ok u) (Ok w) first also) in
      more w e f (subst (λ x. RunsItems types rest x e) same after) then_on
  first-then i rest one more s e f (inl (u, first, after)) (inr (fault, also, is)) = ok_or_err (Ok u) u fault refl (one s (Ok u) (Err fault) first also)
  first-then i rest one more s e f (inr (fault, first, is)) (inl (w, also, then_on)) = ok_or_err (Ok w) w fault refl (one s (Ok w) (Err fault) also first)
  first-then i rest one more s e f (inr (fault, first, is)) (inr (other, also, at)) = is ∙ one s (Err fault) (Err other) first also ∙ sym at

  chosen-one : (line : ℕ) (taken other : List Item) → OneEnd taken → OneEnd other → (s : StoreMap) (r : Result Bool Cause) (e f : Ending) →
      ByTruth line r (RunsItems types taken s) (RunsItems types other s) e → ByTruth line r (RunsItems types taken s) (RunsItems types other s) f → e ≡ f
  chosen-one line taken other one two s (Ok true) e f h k = one s e f h k
  chosen-one line taken other one two s (Ok false) e f h k = two s e f h k
  chosen-one line taken other one two s (Err why) e f h k = h ∙ sym k

  items-one : (xs : List Item) → OneEnd xs
  items-one = items-induction OneEnd
      (λ s e f h k. h ∙ sym k)
      (λ line a rest more. first-then (item.Do line a) rest (λ s e f h k.
      does-one line a s e f ((RunsItem-Do types line a s e).0 h) ((RunsItem-Do types line a s f).0 k)) more)
      (λ line c taken other rest one two more. first-then (item.If line c taken other) rest (λ s e f h k.
      chosen-one line taken other one two s (truth_of s c) e f ((RunsItem-If types line c taken other s e).0 h)
      ((RunsItem-If types line c taken other s f).0 k)) more)

  abbrev OneOutcome : Code → Type 0
  OneOutcome c = (s : StoreMap) (out other : Outcome) → RunsCode types c s out → RunsCode types c s other → out ≡ other

  after-items : (c : Code) → ((t : StoreMap) (out other : Outcome) → RunsTail types c.tail t out → RunsTail types c.tail t other → out ≡ other) → OneOutcome c
  after-items c next s out other h k = by ((RunsCode-is types c s out).0 h) ((RunsCode-is types c s other).0 k)
    where
      by : Follows (RunsItems types c.items s) (RunsTail types c.tail) out → Follows (RunsItems types c.items s) (RunsTail types c.tail) other → out ≡ other
      by (inl (u, first, after)) (inl (w, also, then_on)) =
          let same : u ≡ w = same_ok (Ok u) u w refl (items-one c.items s (Ok u) (Ok w) first also) in
          next w out other (subst (λ x. RunsTail types c.tail x out) same after) then_on
      by (inl (u, first, after)) (inr (fault, also, is)) = ok_or_err (Ok u) u fault refl (items-one c.items s (Ok u) (Err fault) first also)
      by (inr (fault, first, is)) (inl (w, also, then_on)) = ok_or_err (Ok w) w fault refl (items-one c.items s (Ok w) (Err fault) also first)
      by (inr (fault, first, is)) (inr (stop, also, at)) =
          is ∙ ap (λ (f : Fault). outcome.Fail f.cause f.line)
          (same_err (Err fault) fault stop refl (items-one c.items s (Err fault) (Err stop) first also)) ∙ sym at

  cut-one : (c : Code) (place : ℕ) → c.tail ≡ tail.Cut place → OneOutcome c
  cut-one c place is = after-items c (λ t out other h k.
      (RunsTail-Cut types place t out).0 (subst (λ (x : Tail). RunsTail types x t out) is h)
      ∙ sym ((RunsTail-Cut types place t other).0 (subst (λ (x : Tail). RunsTail types x t other) is k)))

  branches-one : (line : ℕ) (taken other : Code) → OneOutcome taken → OneOutcome other → (t : StoreMap) (r : Result Bool Cause) (out also : Outcome) →
      Branches line r (RunsCode types taken t) (RunsCode types other t) out → Branches line r (RunsCode types taken t) (RunsCode types other t) also →
      out ≡ also
  branches-one line taken other one two t (Ok true) out also h k = one t out also h k
  branches-one line taken other one two t (Ok false) out also h k = two t out also h k
  branches-one line taken other one two t (Err why) out also h k = h ∙ sym k

  branch-one : (c : Code) (line : ℕ) (b : Cond) (taken other : Code) → c.tail ≡ tail.Branch line b taken other → OneOutcome taken → OneOutcome other →
      OneOutcome c
  branch-one c line b taken other is one two = after-items c (λ t out also h k. branches-one line taken other one two t (truth_of t b) out also
      ((RunsTail-Branch types line b taken other t out).0 (subst (λ (x : Tail). RunsTail types x t out) is h))
      ((RunsTail-Branch types line b taken other t also).0 (subst (λ (x : Tail). RunsTail types x t also) is k)))

  pub code-one : (c : Code) → OneOutcome c
  code-one = codes-induction OneOutcome cut-one branch-one
