-- On what has no cut inside: it is its items, and no triple starts in it.
use Rattle.std.proofs.Common.{◌≡◌, ℕ, List, [], ◌∷◌, ◌++◌, map, Option, Some, None, IfSome, ◌⊎◌, inl, inr, append-nil, append_assoc, refl, sym, ap, ◌∙◌, subst}
use Rattle.std.specs.Option.{option_and_then}
use Rattle.std.specs.List.{AllByRecursion}
use Rattle.store_core.specs.Tables.{VarEntry}
use Rattle.store_logic.specs.declared.act.Act.{Act}
use Rattle.store_logic.specs.declared.assertion.Assertion.{Assertion}
use Rattle.store_logic.specs.declared.cond.Cond.{Cond}
use Rattle.pale_text.specs.declared.place.Pos.{Pos}
use Rattle.pale_typed.specs.declared.typed.CallParts.{CallParts}
use Rattle.pale_typed.specs.declared.typed.Stmt.TheVariants as stmt
use Rattle.store_exec.specs.declared.code.Item.TheVariants as item
use Rattle.store_exec.specs.declared.code.Item.{Item}
use Rattle.pale_typed.specs.declared.typed.ProcEntry.{ProcEntry}
use Rattle.pale_typed.specs.declared.typed.Stmt.{Stmt, out-Stmt, roll-out-Stmt}
use Rattle.pale_typed.specs.declared.typed.Stmt.TheOpen.{Stmt-F}
use Rattle.pale_typed.specs.declared.typed.Stmt.TheFolds.{map-Stmt}
use Rattle.hoare_split.specs.Flows.{Flow, does, after_items}
use Rattle.hoare_split.specs.Passages.{Passage, plain, in_order, then_next, choice_of, choice}
use Rattle.hoare_split.specs.Statements.{rules, loop, split, call_at, passage_of, block_of}
use Rattle.hoare_split.proofs.StatementLemmas.{passage-form, passage-Skip, passage-Do, passage-If, passage-While, passage-Split, passage-Call}

pub after_items-append : (xs ys : List Item) (flow : Flow) → after_items (xs ++ ys) flow ≡ after_items xs (after_items ys flow)
after_items-append [] ys flow = refl
after_items-append (i ∷ xs) ys flow = ap (does i) (after_items-append xs ys flow)

-- it leads through these items to what follows it, and no triple starts in it
pub record IsPlain (p : Passage) (own : List Item) : Type 0 where
  pub flow : (rest : Flow) → p.flow rest ≡ after_items own rest
  pub starts : (rest : Flow) → p.starts rest ≡ []

-- it is so where it has no cut inside
abbrev pub WhenPlain : Passage → Type 0
WhenPlain p = (own : List Item) → p.items ≡ Some own → IsPlain p own

pub WhenPlain-plain : (items : List Item) → WhenPlain (plain items)
WhenPlain-plain items own e =
    let same : items ≡ own = cc in
    subst (IsPlain (plain items)) same (record { flow = λ rest. refl; starts = λ rest. refl })

then_plain : (p q : Passage) → WhenPlain p → WhenPlain q → WhenPlain (then_next p q)
then_plain p q first next own e = by p.items q.items refl refl e
  where
    by : (ones others : Option (List Item)) → p.items ≡ ones → q.items ≡ others →
        option_and_then (λ x. option_and_then (λ y. Some (x ++ y)) others) ones ≡ Some own → IsPlain (then_next p q) own
    by None others e1 e2 e = absurd cc
    by (Some x) None e1 e2 e = absurd cc
    by (Some x) (Some y) e1 e2 e =
        let of_p = first x e1 in
        let of_q = next y e2 in
        let same : x ++ y ≡ own = cc in
        subst (IsPlain (then_next p q)) same (record {
          flow = λ rest. of_p.flow (q.flow rest) ∙ ap (after_items x) (of_q.flow rest) ∙ sym (after_items-append x y rest);
          starts = λ rest. ap (λ starts. starts ++ q.starts rest) (of_p.starts (q.flow rest)) ∙ of_q.starts rest;
        })

pub WhenPlain-in_order : (ps : List Passage) → AllByRecursion WhenPlain ps → WhenPlain (in_order ps)
WhenPlain-in_order [] each = WhenPlain-plain []
WhenPlain-in_order (p ∷ ps) each = then_plain p (in_order ps) each.0 (WhenPlain-in_order ps each.1)

choice_plain : (line : ℕ) (c : Cond) (first other : Passage) → WhenPlain (choice line c first other)
choice_plain line c first other = by first.items other.items
  where
    by : (ones others : Option (List Item)) → WhenPlain (choice_of line c first other ones others)
    by (Some x) (Some y) = WhenPlain-plain _
    by (Some x) None = λ own e. absurd cc
    by None others = λ own e. absurd cc

module _ (procs : List ProcEntry) (vars : List VarEntry) where
  rule_plain : (x : Stmt-F Passage) → WhenPlain (rules procs vars x)
  rule_plain Stmt-F.Skip = WhenPlain-plain []
  rule_plain (Stmt-F.Do line a) = WhenPlain-plain _
  rule_plain (Stmt-F.If line c first other) = choice_plain line c (in_order first) (in_order other)
  rule_plain (Stmt-F.While place c invariant body) = λ own e. absurd cc
  rule_plain (Stmt-F.Split place a) = λ own e. absurd cc
  rule_plain (Stmt-F.Call place call) = λ own e. absurd cc

  -- a statement with no cut inside
  pub plain-statement : (s : Stmt) → WhenPlain (passage_of procs vars s)
  plain-statement s = subst WhenPlain (sym (passage-form procs vars s (out-Stmt s) (sym (roll-out-Stmt s))))
      (rule_plain (map-Stmt Stmt Passage (passage_of procs vars) (out-Stmt s)))

  each : (block : List Stmt) → AllByRecursion WhenPlain (map (passage_of procs vars) block)
  each [] = tt
  each (s ∷ block) = (plain-statement s, each block)

  -- statements with no cut inside
  pub plain-block : (block : List Stmt) → WhenPlain (block_of procs vars block)
  plain-block block = WhenPlain-in_order (map (passage_of procs vars) block) (each block)

-- ---- items one after the other

-- of these items and, where they are there, those more
abbrev pub with_more : List Item → Option (List Item) → Option (List Item)
with_more items more = option_and_then (λ own. Some (items ++ own)) more

-- where the whole is there, it is these items and those that are left
abbrev pub WithMore : List Item → Option (List Item) → Option (List Item) → Type 0
WithMore items left whole = IfSome whole (λ own. with_more items left ≡ Some own)

pub WithMore-all : (whole : Option (List Item)) → WithMore [] whole whole
WithMore-all None = tt
WithMore-all (Some own) = refl

-- the items of one more part are put behind those so far
pub WithMore-next : (before after : List Item) (p q : Passage) (whole : Option (List Item)) → WithMore before (then_next p q).items whole →
    IfSome p.items (λ own. after ≡ before ++ own) → WithMore after q.items whole
WithMore-next before after p q None with own = tt
WithMore-next before after p q (Some all) with own = by p.items q.items with own
  where
    by : (ones others : Option (List Item)) → with_more before (option_and_then (λ x. option_and_then (λ y. Some (x ++ y)) others) ones) ≡ Some all →
        IfSome ones (λ own. after ≡ before ++ own) → with_more after others ≡ Some all
    by None others with own = absurd cc
    by (Some x) None with own = absurd cc
    by (Some x) (Some y) with own = ap (λ a. Some (a ++ y)) own ∙ ap (λ a. Some a) (append_assoc before x y) ∙ with

pub WithMore-none : (items : List Item) (whole : Option (List Item)) → WithMore items (Some []) whole → IfSome whole (λ own. items ≡ own)
WithMore-none items None with = tt
WithMore-none items (Some own) with = let same : items ++ [] ≡ own = cc in sym (append-nil items) ∙ same

-- ---- what one statement adds

-- an `if` whose blocks have these items
pub adds-choice : (line : ℕ) (c : Cond) (first other : Passage) (ones others before after : List Item) → after ≡ before ++ item.If line c ones others ∷ [] →
    IfSome first.items (λ own. ones ≡ own) → IfSome other.items (λ own. others ≡ own) →
    IfSome (choice line c first other).items (λ own. after ≡ before ++ own)
adds-choice line c first other ones others before after is of_first of_other = by first.items other.items of_first of_other
  where
    by : (x y : Option (List Item)) → IfSome x (λ own. ones ≡ own) → IfSome y (λ own. others ≡ own) →
        IfSome (choice_of line c first other x y).items (λ own. after ≡ before ++ own)
    by None y e f = tt
    by (Some x) None e f = tt
    by (Some x) (Some y) e f = is ∙ ap (λ a. before ++ item.If line c a others ∷ []) e ∙ ap (λ a. before ++ item.If line c x a ∷ []) f

module _ (procs : List ProcEntry) (vars : List VarEntry) where
  -- what a statement adds to items, where no cut is inside
  abbrev pub Adds : Stmt → List Item → List Item → Type 0
  Adds s before after = IfSome (passage_of procs vars s).items (λ own. after ≡ before ++ own)

  adds : (s : Stmt) (p : Passage) (before after : List Item) → passage_of procs vars s ≡ p → IfSome p.items (λ own. after ≡ before ++ own) → Adds s before after
  adds s p before after is h = subst (λ (q : Passage). IfSome q.items (λ own. after ≡ before ++ own)) (sym is) h

  pub adds-Do : (s : Stmt) (line : ℕ) (a copy : Act) (before after : List Item) → s ≡ stmt.Do line a → copy ≡ a →
      after ≡ before ++ item.Do line copy ∷ [] → Adds s before after
  adds-Do s line a copy before after is same added = adds s (plain (item.Do line a ∷ [])) before after
      (ap (passage_of procs vars) is ∙ passage-Do procs vars line a) (added ∙ ap (λ x. before ++ item.Do line x ∷ []) same)

  pub adds-If : (s : Stmt) (line : ℕ) (c copy : Cond) (first other first' other' : List Stmt) (ones others before after : List Item) →
      s ≡ stmt.If line c first other → copy ≡ c → first' ≡ first → other' ≡ other → after ≡ before ++ item.If line copy ones others ∷ [] →
      IfSome (block_of procs vars first').items (λ own. ones ≡ own) → IfSome (block_of procs vars other').items (λ own. others ≡ own) → Adds s before after
  adds-If s line c copy first other first' other' ones others before after is same same_first same_other added of_first of_other =
      adds s (choice line c (block_of procs vars first) (block_of procs vars other)) before after
      (ap (passage_of procs vars) is ∙ passage-If procs vars line c first other)
      (adds-choice line c (block_of procs vars first) (block_of procs vars other) ones others before after
      (added ∙ ap (λ x. before ++ item.If line x ones others ∷ []) same)
      (subst (λ (b : List Stmt). IfSome (block_of procs vars b).items (λ own. ones ≡ own)) same_first of_first)
      (subst (λ (b : List Stmt). IfSome (block_of procs vars b).items (λ own. others ≡ own)) same_other of_other))

  pub adds-none : (s : Stmt) (items : List Item) → (s ≡ stmt.Skip)
      ⊎ (((place : Pos) × (c : Cond) × (invariant : Assertion) × (body : List Stmt) × (s ≡ stmt.While place c invariant body))
      ⊎ (((place : Pos) × (a : Assertion) × (s ≡ stmt.Split place a)) ⊎ ((place : Pos) × (call : CallParts) × (s ≡ stmt.Call place call)))) → Adds s items items
  adds-none s items (inl e) = adds s (plain []) items items (ap (passage_of procs vars) e ∙ passage-Skip procs vars) (sym (append-nil items))
  adds-none s items (inr (inl (place, c, invariant, body, e))) =
      adds s (loop place c invariant (block_of procs vars body)) items items (ap (passage_of procs vars) e ∙ passage-While procs vars place c invariant body) tt
  adds-none s items (inr (inr (inl (place, a, e)))) =
      adds s (split place a) items items (ap (passage_of procs vars) e ∙ passage-Split procs vars place a) tt
  adds-none s items (inr (inr (inr (place, call, e)))) =
      adds s (call_at procs vars place call) items items (ap (passage_of procs vars) e ∙ passage-Call procs vars place call) tt
