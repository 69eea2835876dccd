-- Statements one after the other: where they lead, which triples start in them, and when they fit.
use Rattle.std.proofs.Common.{◌≡◌, ℕ, List, [], ◌∷◌, ◌++◌, map, Option, Some, None, refl, sym, ap, ap₂, ◌∙◌, subst}
use Rattle.std.specs.List.{AllByRecursion}
use Rattle.std.specs.Option.{option_and_then}
use mathlib.Core.Path.{transport}
use Rattle.store_core.specs.Tables.{TypeEntry, VarEntry}
use Rattle.store_logic.specs.declared.assertion.Assertion.{Assertion}
use Rattle.store_logic.specs.declared.cond.Cond.{Cond}
use Rattle.store_logic.specs.Fits.{AssertionFits}
use Rattle.store_logic.specs.FitsCode.{CondFits}
use Rattle.store_logic.proofs.ExpandingLists.{all-first, all-second, all-append}
use Rattle.store_exec.specs.declared.code.Item.{Item}
use Rattle.pale_text.specs.declared.place.Pos.{Pos}
use Rattle.pale_typed.specs.declared.typed.ProcEntry.{ProcEntry}
use Rattle.pale_typed.specs.declared.typed.Stmt.{Stmt, roll-Stmt, out-Stmt, roll-out-Stmt}
use Rattle.pale_typed.specs.declared.typed.Stmt.TheVariants as stmt
use Rattle.pale_typed.specs.declared.typed.Stmt.TheOpen.{Stmt-F}
use Rattle.pale_typed.specs.declared.typed.Stmt.TheFolds.{rec-roll-Stmt, map-Stmt}
use Rattle.pale_typed.specs.Fitting.{StatementFitsNode, StatementFits}
use Rattle.hoare_split.specs.Flows.{Flow, ends, branches}
use Rattle.hoare_split.specs.Cuts.{at_assertion}
use Rattle.hoare_split.specs.Passages.{Started, Passage, then_next, choice, choice_of}
use Rattle.hoare_split.specs.Statements.{loop, passage_of, block_of}
use Rattle.hoare_split.proofs.StatementLemmas.{passage-If, passage-While}
use Rattle.hoare_split.proofs.PlainLemmas.{WhenPlain}
use Rattle.whole_run.specs.Turns.{behind_cut}

module _ (procs : List ProcEntry) (vars : List VarEntry) where
  abbrev block : List Stmt → Passage
  block = block_of procs vars

  pub flow_front : (xs ys : List Stmt) (rest : Flow) → (block (xs ++ ys)).flow rest ≡ (block xs).flow ((block ys).flow rest)
  flow_front [] ys rest = refl
  flow_front (x ∷ xs) ys rest = ap (passage_of procs vars x).flow (flow_front xs ys rest)

  module _ (P : Started → Type 0) where
    pub starts_front : (xs ys : List Stmt) (rest : Flow) → AllByRecursion P ((block xs).starts ((block ys).flow rest)) →
        AllByRecursion P ((block ys).starts rest) → AllByRecursion P ((block (xs ++ ys)).starts rest)
    starts_front [] ys rest first second = second
    starts_front (x ∷ xs) ys rest first second =
        let own = (passage_of procs vars x).starts ((block xs).flow ((block ys).flow rest)) in
        let more = (block xs).starts ((block ys).flow rest) in
        all-append P ((passage_of procs vars x).starts ((block (xs ++ ys)).flow rest)) ((block (xs ++ ys)).starts rest)
        (subst (λ (f : Flow). AllByRecursion P ((passage_of procs vars x).starts f)) (sym (flow_front xs ys rest)) (all-first P own more first))
        (starts_front xs ys rest (all-second P own more first) second)

    none_all : (l : List Started) → l ≡ [] → AllByRecursion P l
    none_all l none = subst (AllByRecursion P) (sym none) tt

    -- those of an `if`
    pub choice_starts : (line : ℕ) (c : Cond) (p q : Passage) (rest : Flow) → WhenPlain p → WhenPlain q →
        AllByRecursion P ((choice line c p q).starts rest) → AllByRecursion P (p.starts rest) × AllByRecursion P (q.starts rest)
    choice_starts line c p q rest one two all = by p.items q.items refl refl all
      where
        both : AllByRecursion P (p.starts rest ++ q.starts rest) → AllByRecursion P (p.starts rest) × AllByRecursion P (q.starts rest)
        both h = (all-first P (p.starts rest) (q.starts rest) h, all-second P (p.starts rest) (q.starts rest) h)

        by : (ones others : Option (List Item)) → p.items ≡ ones → q.items ≡ others → AllByRecursion P ((choice_of line c p q ones others).starts rest) →
            AllByRecursion P (p.starts rest) × AllByRecursion P (q.starts rest)
        by (Some x) (Some y) is also h = (none_all (p.starts rest) ((one x is).starts rest), none_all (q.starts rest) ((two y also).starts rest))
        by (Some x) None is also h = both h
        by None others is also h = both h

  -- ---- a loop behind its cut

  module _ (place : Pos) (c : Cond) (invariant : Assertion) (body : List Stmt) where
    abbrev own : Stmt
    own = stmt.While place c invariant body

    abbrev again : Flow
    again = ends (at_assertion place invariant)

    abbrev inner : Passage
    inner = block (body ++ own ∷ [])

    own_is : passage_of procs vars own ≡ loop place c invariant (block body)
    own_is = passage-While procs vars place c invariant body

    no_more : (p : Passage) → p.items ≡ None → (q : Passage) → (then_next p q).items ≡ None
    no_more p none q = ap (λ (o : Option (List Item)). option_and_then (λ first. option_and_then (λ more. Some (first ++ more)) q.items) o) none

    then_none : (p q : Passage) → q.items ≡ None → (then_next p q).items ≡ None
    then_none p q none = by p.items
      where
        by : (o : Option (List Item)) → option_and_then (λ first. option_and_then (λ more. Some (first ++ more)) q.items) o ≡ None
        by None = refl
        by (Some x) = ap (λ (z : Option (List Item)). option_and_then (λ more. Some (x ++ more)) z) none

    none_in : (xs : List Stmt) → (block (xs ++ own ∷ [])).items ≡ None
    none_in [] = no_more (passage_of procs vars own) (ap (λ (p : Passage). p.items) own_is) (block [])
    none_in (x ∷ xs) = then_none (passage_of procs vars x) (block (xs ++ own ∷ [])) (none_in xs)

    whole_is : passage_of procs vars (behind_cut place c invariant body) ≡ choice_of place.line c inner (block []) None (block []).items
    whole_is = passage-If procs vars place.line c (body ++ own ∷ []) []
        ∙ ap (λ o. choice_of place.line c inner (block []) o (block []).items) (none_in body)

    inner_flow : (rest : Flow) → inner.flow rest ≡ (block body).flow again
    inner_flow rest = flow_front body (own ∷ []) rest ∙ ap (λ (p : Passage). (block body).flow (p.flow rest)) own_is

    pub behind_flow : (rest : Flow) →
        (passage_of procs vars (behind_cut place c invariant body)).flow rest ≡ branches place.line c ((block body).flow again) rest
    behind_flow rest = ap (λ (p : Passage). p.flow rest) whole_is ∙ ap (λ f. branches place.line c f rest) (inner_flow rest)

    module _ (P : Started → Type 0) (rest : Flow) (all : AllByRecursion P ((loop place c invariant (block body)).starts rest)) where
      of_own : AllByRecursion P ((block (own ∷ [])).starts rest)
      of_own = all-append P ((passage_of procs vars own).starts rest) [] (subst (λ (p : Passage). AllByRecursion P (p.starts rest)) (sym own_is) all) tt

      of_inner : AllByRecursion P (inner.starts rest)
      of_inner = starts_front P body (own ∷ []) rest
          (subst (λ (p : Passage). AllByRecursion P ((block body).starts (p.flow rest))) (sym own_is) all.1) of_own

      pub behind_starts : AllByRecursion P ((passage_of procs vars (behind_cut place c invariant body)).starts rest)
      behind_starts = subst (λ (p : Passage). AllByRecursion P (p.starts rest)) (sym whole_is)
          (all-append P (inner.starts rest) [] of_inner tt)

-- ---- statements that fit

module _ (types : List TypeEntry) (procs : List ProcEntry) (vars : List VarEntry) where
  abbrev Node : Stmt-F Stmt → Type 0
  Node = StatementFitsNode types procs vars Stmt (λ s. s) (StatementFits types procs vars)

  all_map : {Part : Type 0} (whole : Part → Stmt) (P : Stmt → Type 0) (parts : List Part) →
      AllByRecursion (λ p. P (whole p)) parts ≡ AllByRecursion P (map whole parts)
  all_map whole P [] = refl
  all_map whole P (part ∷ parts) = ap (λ (M : Type 0). P (whole part) × M) (all_map whole P parts)

  natural : (Part : Type 0) (whole : Part → Stmt) (fits : Stmt → Type 0) (x : Stmt-F Part) →
      StatementFitsNode types procs vars Part whole (λ p. fits (whole p)) x
      ≡ StatementFitsNode types procs vars Stmt (λ s. s) fits (map-Stmt Part Stmt whole x)
  natural Part whole fits Stmt-F.Skip = refl
  natural Part whole fits (Stmt-F.Do line a) = refl
  natural Part whole fits (Stmt-F.If line c first other) =
      ap₂ (λ (M N : Type 0). CondFits types vars c × M × N) (all_map whole fits first) (all_map whole fits other)
  natural Part whole fits (Stmt-F.While place c invariant body) =
      ap (λ (M : Type 0). CondFits types vars c × AssertionFits types vars invariant × M) (all_map whole fits body)
  natural Part whole fits (Stmt-F.Split place a) = refl
  natural Part whole fits (Stmt-F.Call place call) = refl

  rolled : (x : Stmt-F Stmt) → StatementFits types procs vars (roll-Stmt x) ≡ Node x
  rolled x = rec-roll-Stmt (Type 0) (StatementFitsNode types procs vars) natural x

  -- by its form
  pub form_fits : (s : Stmt) → StatementFits types procs vars s → Node (out-Stmt s)
  form_fits s h = transport (λ i. rolled (out-Stmt s) i) (subst (StatementFits types procs vars) (sym (roll-out-Stmt s)) h)

  made_fits : (s : Stmt) (x : Stmt-F Stmt) → roll-Stmt x ≡ s → Node x → StatementFits types procs vars s
  made_fits s x is h = subst (StatementFits types procs vars) is (transport (λ i. sym (rolled x) i) h)

  pub while_fits : (place : Pos) (c : Cond) (invariant : Assertion) (body : List Stmt) → Node (Stmt-F.While place c invariant body) →
      StatementFits types procs vars (stmt.While place c invariant body)
  while_fits place c invariant body = made_fits (stmt.While place c invariant body) (Stmt-F.While place c invariant body)
      (stmt.rolls-While place c invariant body)

  pub behind_fits : (place : Pos) (c : Cond) (invariant : Assertion) (body : List Stmt) → Node (Stmt-F.While place c invariant body) →
      StatementFits types procs vars (behind_cut place c invariant body)
  behind_fits place c invariant body h =
      made_fits (behind_cut place c invariant body) (Stmt-F.If place.line c (body ++ stmt.While place c invariant body ∷ []) [])
      (stmt.rolls-If place.line c (body ++ stmt.While place c invariant body ∷ []) [])
      (h.0, all-append (StatementFits types procs vars) body (stmt.While place c invariant body ∷ []) h.2 (while_fits place c invariant body h, tt), tt)
