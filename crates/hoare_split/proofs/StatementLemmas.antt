-- What each form of statement means.
use Rattle.std.proofs.Common.{◌≡◌, ℕ, suc, Bool, true, false, ◌&&◌, not, List, [], ◌∷◌, ◌++◌, Option, Some, None, is_some, refl, sym, ap, ◌∙◌, ◌⊎◌, inl, inr}
use Rattle.std.proofs.Common.{◌+◌, ◌<◌, length, get_or, drop, drop-cons, add-one}
use Rattle.std.specs.Option.{option_and_then}
use Rattle.pale_text.specs.declared.place.Pos.{Pos}
use Rattle.store_core.specs.Tables.{VarEntry}
use Rattle.store_logic.specs.declared.act.Act.{Act}
use Rattle.store_logic.specs.declared.assertion.Assertion.{Assertion}
use Rattle.store_logic.specs.declared.cond.Cond.{Cond}
use Rattle.store_exec.specs.declared.code.Item.{Item}
use Rattle.store_exec.specs.declared.code.Item.TheVariants as item
use Rattle.pale_typed.specs.declared.typed.CallParts.{CallParts}
use Rattle.pale_typed.specs.declared.typed.ProcEntry.{ProcEntry}
use Rattle.pale_typed.specs.declared.typed.Stmt.{Stmt, roll-Stmt}
use Rattle.pale_typed.specs.declared.typed.Stmt.TheVariants as stmt
use Rattle.pale_typed.specs.declared.typed.Stmt.TheOpen.{Stmt-F}
use Rattle.pale_typed.specs.declared.typed.Stmt.TheFolds.{map-Stmt, fold-roll-Stmt}
use Rattle.hoare_split.specs.Passages.{Passage, plain, then_next, choice_of, choice}
use Rattle.hoare_split.specs.Statements.{loop, split, call_at, rules, passage_of, block_of}

pub not-true : (b : Bool) → not b ≡ true → b ≡ false
not-true true e = absurd cc
not-true false e = refl

pub not-false : (b : Bool) → not b ≡ false → b ≡ true
not-false true e = refl
not-false false e = absurd cc

-- ---- where no cut is inside

-- of one after the other where it is so of both
pub plain-then_next : (p q : Passage) → is_some (then_next p q).items ≡ (is_some p.items && is_some q.items)
plain-then_next p q = by p.items q.items
  where
    by : (ones others : Option (List Item)) →
        is_some (option_and_then (λ x. option_and_then (λ y. Some (x ++ y)) others) ones) ≡ (is_some ones && is_some others)
    by None others = refl
    by (Some x) None = refl
    by (Some x) (Some y) = refl

-- of an `if` where it is so of both blocks
pub plain-choice : (line : ℕ) (c : Cond) (first other : Passage) → is_some (choice line c first other).items ≡ (is_some first.items && is_some other.items)
plain-choice line c first other = by first.items other.items
  where
    by : (ones others : Option (List Item)) → is_some (choice_of line c first other ones others).items ≡ (is_some ones && is_some others)
    by None others = refl
    by (Some x) None = refl
    by (Some x) (Some y) = refl

-- ---- the forms

module _ (procs : List ProcEntry) (vars : List VarEntry) where
  pub passage-form : (s : Stmt) (x : Stmt-F Stmt) → s ≡ roll-Stmt x →
      passage_of procs vars s ≡ rules procs vars (map-Stmt Stmt Passage (passage_of procs vars) x)
  unfolding passage_of
  passage-form s x is = ap (passage_of procs vars) is ∙ fold-roll-Stmt Passage (rules procs vars) x

  pub passage-Skip : passage_of procs vars stmt.Skip ≡ plain []
  passage-Skip = passage-form _ Stmt-F.Skip (sym stmt.rolls-Skip)

  pub passage-Do : (line : ℕ) (a : Act) → passage_of procs vars (stmt.Do line a) ≡ plain (item.Do line a ∷ [])
  passage-Do line a = passage-form _ (Stmt-F.Do line a) (sym (stmt.rolls-Do line a))

  pub passage-If : (line : ℕ) (c : Cond) (first other : List Stmt) →
      passage_of procs vars (stmt.If line c first other) ≡ choice line c (block_of procs vars first) (block_of procs vars other)
  passage-If line c first other = passage-form _ (Stmt-F.If line c first other) (sym (stmt.rolls-If line c first other))

  pub passage-While : (place : Pos) (c : Cond) (invariant : Assertion) (body : List Stmt) →
      passage_of procs vars (stmt.While place c invariant body) ≡ loop place c invariant (block_of procs vars body)
  passage-While place c invariant body = passage-form _ (Stmt-F.While place c invariant body) (sym (stmt.rolls-While place c invariant body))

  pub passage-Split : (place : Pos) (a : Assertion) → passage_of procs vars (stmt.Split place a) ≡ split place a
  passage-Split place a = passage-form _ (Stmt-F.Split place a) (sym (stmt.rolls-Split place a))

  pub passage-Call : (place : Pos) (call : CallParts) → passage_of procs vars (stmt.Call place call) ≡ call_at procs vars place call
  passage-Call place call = passage-form _ (Stmt-F.Call place call) (sym (stmt.rolls-Call place call))

  -- ---- which forms have no cut inside

  pub cut-Skip : is_some (passage_of procs vars stmt.Skip).items ≡ true
  cut-Skip = ap (λ (p : Passage). is_some p.items) passage-Skip

  pub cut-Do : (line : ℕ) (a : Act) → is_some (passage_of procs vars (stmt.Do line a)).items ≡ true
  cut-Do line a = ap (λ (p : Passage). is_some p.items) (passage-Do line a)

  pub cut-If : (line : ℕ) (c : Cond) (first other : List Stmt) → is_some (passage_of procs vars (stmt.If line c first other)).items
      ≡ (is_some (block_of procs vars first).items && is_some (block_of procs vars other).items)
  cut-If line c first other = ap (λ (p : Passage). is_some p.items) (passage-If line c first other)
      ∙ plain-choice line c (block_of procs vars first) (block_of procs vars other)

  pub cut-While : (place : Pos) (c : Cond) (invariant : Assertion) (body : List Stmt) →
      is_some (passage_of procs vars (stmt.While place c invariant body)).items ≡ false
  cut-While place c invariant body = ap (λ (p : Passage). is_some p.items) (passage-While place c invariant body)

  pub cut-Split : (place : Pos) (a : Assertion) → is_some (passage_of procs vars (stmt.Split place a)).items ≡ false
  cut-Split place a = ap (λ (p : Passage). is_some p.items) (passage-Split place a)

  pub cut-Call : (place : Pos) (call : CallParts) → is_some (passage_of procs vars (stmt.Call place call)).items ≡ false
  cut-Call place call = ap (λ (p : Passage). is_some p.items) (passage-Call place call)

  -- an `if`, by the first block that has a cut inside
  pub cut-first : (s : Stmt) (line : ℕ) (c : Cond) (first other : List Stmt) → s ≡ stmt.If line c first other → (found : Bool) → found ≡ true →
      found ≡ not (is_some (block_of procs vars first).items) → found ≡ not (is_some (passage_of procs vars s).items)
  cut-first s line c first other is found so has =
      let here : is_some (block_of procs vars first).items ≡ false = not-true _ (sym has ∙ so) in
      so ∙ sym (ap not (ap (λ s. is_some (passage_of procs vars s).items) is ∙ cut-If line c first other
      ∙ ap (λ b. b && is_some (block_of procs vars other).items) here))

  pub cut-other : (s : Stmt) (line : ℕ) (c : Cond) (first other : List Stmt) → s ≡ stmt.If line c first other → (one two : Bool) → one ≡ false →
      one ≡ not (is_some (block_of procs vars first).items) → two ≡ not (is_some (block_of procs vars other).items) →
      two ≡ not (is_some (passage_of procs vars s).items)
  cut-other s line c first other is one two so has has_other =
      let here : is_some (block_of procs vars first).items ≡ true = not-false _ (sym has ∙ so) in
      has_other ∙ sym (ap not (ap (λ s. is_some (passage_of procs vars s).items) is ∙ cut-If line c first other
      ∙ ap (λ b. b && is_some (block_of procs vars other).items) here))

  pub cut-plain : (s : Stmt) → (s ≡ stmt.Skip) ⊎ ((line : ℕ) × (a : Act) × (s ≡ stmt.Do line a)) → is_some (passage_of procs vars s).items ≡ true
  cut-plain s (inl e) = ap (λ s. is_some (passage_of procs vars s).items) e ∙ cut-Skip
  cut-plain s (inr (line, a, e)) = ap (λ s. is_some (passage_of procs vars s).items) e ∙ cut-Do line a

  pub cut-at : (s : Stmt) →
      ((place : Pos) × (c : Cond) × (invariant : Assertion) × (body : List Stmt) × (s ≡ stmt.While place c invariant body))
      ⊎ (((place : Pos) × (a : Assertion) × (s ≡ stmt.Split place a)) ⊎ ((place : Pos) × (call : CallParts) × (s ≡ stmt.Call place call))) →
      is_some (passage_of procs vars s).items ≡ false
  cut-at s (inl (place, c, invariant, body, e)) = ap (λ s. is_some (passage_of procs vars s).items) e ∙ cut-While place c invariant body
  cut-at s (inr (inl (place, a, e))) = ap (λ s. is_some (passage_of procs vars s).items) e ∙ cut-Split place a
  cut-at s (inr (inr (place, call, e))) = ap (λ s. is_some (passage_of procs vars s).items) e ∙ cut-Call place call

  -- ---- a block, from a statement on

  pub block-next : (block : List Stmt) (i : ℕ) (s : Stmt) → i < length block → s ≡ get_or block i s →
      block_of procs vars (drop i block) ≡ then_next (passage_of procs vars s) (block_of procs vars (drop (i + 1) block))
  block-next block i s inside is =
      ap (block_of procs vars) (drop-cons block i s inside)
      ∙ ap (λ x. then_next (passage_of procs vars x) (block_of procs vars (drop (suc i) block))) (sym is)
      ∙ sym (ap (λ k. then_next (passage_of procs vars s) (block_of procs vars (drop k block))) (add-one i))

  next_cut : (block : List Stmt) (i : ℕ) (s : Stmt) → i < length block → s ≡ get_or block i s →
      is_some (block_of procs vars (drop i block)).items ≡ (is_some (passage_of procs vars s).items && is_some (block_of procs vars (drop (i + 1) block)).items)
  next_cut block i s inside is = ap (λ (p : Passage). is_some p.items) (block-next block i s inside is)
      ∙ plain-then_next (passage_of procs vars s) (block_of procs vars (drop (i + 1) block))

  pub cut-here : (block : List Stmt) (i : ℕ) (s : Stmt) → i < length block → s ≡ get_or block i s → (found : Bool) → found ≡ true →
      found ≡ not (is_some (passage_of procs vars s).items) → is_some (block_of procs vars block).items ≡ is_some (block_of procs vars (drop i block)).items →
      true ≡ not (is_some (block_of procs vars block).items)
  cut-here block i s inside is found so has before =
      let here : is_some (passage_of procs vars s).items ≡ false = not-true _ (sym has ∙ so) in
      sym (ap not (before ∙ next_cut block i s inside is ∙ ap (λ b. b && is_some (block_of procs vars (drop (i + 1) block)).items) here))

  pub cut-later : (block : List Stmt) (i : ℕ) (s : Stmt) → i < length block → s ≡ get_or block i s → (found : Bool) → found ≡ false →
      found ≡ not (is_some (passage_of procs vars s).items) → is_some (block_of procs vars block).items ≡ is_some (block_of procs vars (drop i block)).items →
      is_some (block_of procs vars block).items ≡ is_some (block_of procs vars (drop (i + 1) block)).items
  cut-later block i s inside is found so has before =
      let here : is_some (passage_of procs vars s).items ≡ true = not-false _ (sym has ∙ so) in
      before ∙ next_cut block i s inside is ∙ ap (λ b. b && is_some (block_of procs vars (drop (i + 1) block)).items) here
