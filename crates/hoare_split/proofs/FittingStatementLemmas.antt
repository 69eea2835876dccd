-- Statements that fit lead from cut points that fit, through items that fit, to cuts that fit.
use Rattle.std.proofs.Common.{◌≡◌, ℕ, List, [], ◌∷◌, ◌++◌, map, Option, Some, None, IfSome, refl, sym, ap, ap₂, subst}
use Rattle.std.specs.List.{AllByRecursion}
use Rattle.std.specs.Option.{option_and_then}
use mathlib.Core.Path.{transport}
use Rattle.store_core.specs.Tables.{TypeEntry, VarEntry}
use Rattle.store_logic.specs.declared.assertion.Assertion.{Assertion}
use Rattle.store_logic.specs.declared.cond.Cond.{Cond}
use Rattle.store_logic.specs.Fits.{AssertionFits}
use Rattle.store_logic.specs.FitsCode.{CondFits}
use Rattle.store_logic.proofs.ExpandingLists.{all-append}
use Rattle.store_exec.specs.declared.code.Item.{Item}
use Rattle.store_exec.specs.declared.code.Item.TheVariants as item
use Rattle.store_exec.specs.Fits.{ItemFits, ItemsFit}
use Rattle.pale_text.specs.declared.place.Pos.{Pos}
use Rattle.pale_typed.specs.declared.typed.ProcEntry.{ProcEntry}
use Rattle.pale_typed.specs.declared.typed.Stmt.{Stmt, roll-Stmt}
use Rattle.pale_typed.specs.declared.typed.Stmt.TheOpen.{Stmt-F}
use Rattle.pale_typed.specs.declared.typed.Stmt.TheFolds.{rec-roll-Stmt, map-Stmt, ind-Stmt}
use Rattle.pale_typed.specs.Fitting.{StatementFitsNode, StatementFits, ProcFits}
use Rattle.hoare_split.specs.Picking.{is_awaited}
use Rattle.hoare_split.specs.Settings.{settings}
use Rattle.hoare_split.specs.Flows.{Flow, ends}
use Rattle.hoare_split.specs.Cuts.{at_assertion, at_call}
use Rattle.hoare_split.specs.Passages.{Started, Passage, plain, then_next, in_order, branch, choice_of, choice}
use Rattle.hoare_split.specs.Statements.{loop, rules, passage_of, block_of}
use Rattle.hoare_split.proofs.StatementLemmas.{passage-form}
use Rattle.hoare_split.proofs.FittingCodeLemmas.{Do-fits, If-fits, FlowFits, after-fits}
use Rattle.hoare_split.proofs.FittingClaimLemmas.{PutsFit, StartsWell, assertion-arrival, plain-starts, call-arrival, call-starts, call-settings}

-- ---- passages

module _ (types : List TypeEntry) (vars : List VarEntry) where
  -- what holds at the start fits, and where it leads
  pub record StartedFits (s : Started) : Type 0 where
    pub start : StartsWell types vars s.start
    pub flow : FlowFits types vars s.flow

  -- its items fit; and where what follows fits, so does where it leads, and each start in it
  pub record PassageFits (p : Passage) : Type 0 where
    pub items : IfSome p.items (ItemsFit types vars)
    pub flow : (rest : Flow) → FlowFits types vars rest → FlowFits types vars (p.flow rest)
    pub starts : (rest : Flow) → FlowFits types vars rest → AllByRecursion StartedFits (p.starts rest)

  plain-fits : (items : List Item) → ItemsFit types vars items → PassageFits (plain items)
  plain-fits items fits = record { items = fits; flow = λ rest after. after-fits types vars items rest fits after; starts = λ rest after. tt }

  next-fits : (p q : Passage) → PassageFits p → PassageFits q → PassageFits (then_next p q)
  next-fits p q first second = record {
    items = by p.items q.items first.items second.items;
    flow = λ rest after. first.flow (q.flow rest) (second.flow rest after);
    starts = λ rest after.
        all-append StartedFits (p.starts (q.flow rest)) (q.starts rest) (first.starts (q.flow rest) (second.flow rest after)) (second.starts rest after);
  }
    where
      by : (ones others : Option (List Item)) → IfSome ones (ItemsFit types vars) → IfSome others (ItemsFit types vars) →
          IfSome (option_and_then (λ x. option_and_then (λ y. Some (x ++ y)) others) ones) (ItemsFit types vars)
      by None others h k = tt
      by (Some x) None h k = tt
      by (Some x) (Some y) h k = all-append (ItemFits types vars) x y h k

  pub order-fits : (ps : List Passage) → AllByRecursion PassageFits ps → PassageFits (in_order ps)
  order-fits [] all = plain-fits [] tt
  order-fits (p ∷ ps) all = next-fits p (in_order ps) all.0 (order-fits ps all.1)

  branch-fits : (line : ℕ) (c : Cond) (p q : Passage) → CondFits types vars c → PassageFits p → PassageFits q → PassageFits (branch line c p q)
  branch-fits line c p q known first second = record {
    items = tt;
    flow = λ rest after. (known, first.flow rest after, second.flow rest after);
    starts = λ rest after. all-append StartedFits (p.starts rest) (q.starts rest) (first.starts rest after) (second.starts rest after);
  }

  choice-fits : (line : ℕ) (c : Cond) (p q : Passage) → CondFits types vars c → PassageFits p → PassageFits q → PassageFits (choice line c p q)
  choice-fits line c p q known first second = by p.items q.items first.items second.items
    where
      by : (ones others : Option (List Item)) → IfSome ones (ItemsFit types vars) → IfSome others (ItemsFit types vars) →
          PassageFits (choice_of line c p q ones others)
      by (Some x) (Some y) h k = plain-fits (item.If line c x y ∷ []) (If-fits types vars line c x y known h k, tt)
      by (Some x) None h k = branch-fits line c p q known first second
      by None others h k = branch-fits line c p q known first second

  loop-fits : (place : Pos) (c : Cond) (invariant : Assertion) (body : Passage) → CondFits types vars c → AssertionFits types vars invariant →
      PassageFits body → PassageFits (loop place c invariant body)
  loop-fits place c invariant body known stated inner =
      let again = assertion-arrival types vars place invariant stated in
      let round = inner.flow (ends (at_assertion place invariant)) again in
      record {
        items = tt;
        flow = λ rest after. again;
        starts = λ rest after. (
          record { start = plain-starts types vars invariant stated; flow = (known, round, after) },
          inner.starts (ends (at_assertion place invariant)) again,
        );
      }

-- ---- statements

module _ (law : PutsFit) (types : List TypeEntry) (procs : List ProcEntry) (all : AllByRecursion (ProcFits types procs) procs) (vars : List VarEntry) where
  all-map : {Part : Type 0} (whole : Part → Stmt) (P : Stmt → Type 0) (parts : List Part) →
      AllByRecursion (λ p. P (whole p)) parts ≡ AllByRecursion P (map whole parts)
  all-map whole P [] = refl
  all-map whole P (part ∷ parts) = ap (λ (M : Type 0). P (whole part) × M) (all-map whole P parts)

  abbrev Node : (Part : Type 0) → (Part → Stmt) → (Part → Type 0) → Stmt-F Part → Type 0
  Node = StatementFitsNode types procs vars

  abbrev Fit : Stmt → Type 0
  Fit = StatementFits types procs vars

  abbrev passage : Stmt → Passage
  passage = passage_of procs vars

  natural : (Part : Type 0) (whole : Part → Stmt) (fits : Stmt → Type 0) (x : Stmt-F Part) →
      Node Part whole (λ p. fits (whole p)) x ≡ Node Stmt (λ s. s) fits (map-Stmt Part Stmt whole x)
  natural Part whole fits Stmt-F.Skip = refl
  natural Part whole fits (Stmt-F.Do line a) = refl
  natural Part whole fits (Stmt-F.If line c first other) =
      ap₂ (λ (M N : Type 0). CondFits types vars c × M × N) (all-map whole fits first) (all-map whole fits other)
  natural Part whole fits (Stmt-F.While place c invariant body) =
      ap (λ (M : Type 0). CondFits types vars c × AssertionFits types vars invariant × M) (all-map whole fits body)
  natural Part whole fits (Stmt-F.Split place a) = refl
  natural Part whole fits (Stmt-F.Call place call) = refl

  -- a statement fits by its form
  form-fits : (x : Stmt-F Stmt) → Fit (roll-Stmt x) → Node Stmt (λ s. s) Fit x
  form-fits x = transport (λ i. rec-roll-Stmt (Type 0) Node natural x i)

  IsPassed : Stmt → Type 0
  IsPassed s = Fit s → PassageFits types vars (passage s)

  each-passed : (block : List ((s : Stmt) × IsPassed s)) → AllByRecursion Fit (map (λ e. e.0) block) →
      AllByRecursion (PassageFits types vars) (map passage (map (λ e. e.0) block))
  unfolding IsPassed
  each-passed [] fits = tt
  each-passed (e ∷ block) fits = (e.1 fits.0, each-passed block fits.1)

  block-passed : (block : List ((s : Stmt) × IsPassed s)) → AllByRecursion Fit (map (λ e. e.0) block) →
      PassageFits types vars (in_order (map passage (map (λ e. e.0) block)))
  block-passed block fits = order-fits types vars (map passage (map (λ e. e.0) block)) (each-passed block fits)

  node-passed : (y : Stmt-F ((s : Stmt) × IsPassed s)) → Node Stmt (λ s. s) Fit (map-Stmt ((s : Stmt) × IsPassed s) Stmt (λ e. e.0) y) →
      PassageFits types vars (rules procs vars (map-Stmt Stmt Passage passage (map-Stmt ((s : Stmt) × IsPassed s) Stmt (λ e. e.0) y)))
  node-passed Stmt-F.Skip fits = plain-fits types vars [] tt
  node-passed (Stmt-F.Do line a) fits = plain-fits types vars (item.Do line a ∷ []) (Do-fits types vars line a fits, tt)
  node-passed (Stmt-F.If line c first other) fits =
      choice-fits types vars line c (in_order (map passage (map (λ e. e.0) first))) (in_order (map passage (map (λ e. e.0) other))) fits.0
      (block-passed first fits.1) (block-passed other fits.2)
  node-passed (Stmt-F.While place c invariant body) fits =
      loop-fits types vars place c invariant (in_order (map passage (map (λ e. e.0) body))) fits.0 fits.1 (block-passed body fits.2)
  node-passed (Stmt-F.Split place a) fits = record {
    items = tt;
    flow = λ rest after. assertion-arrival types vars place a fits;
    starts = λ rest after. (record { start = plain-starts types vars a fits; flow = after }, tt);
  }
  node-passed (Stmt-F.Call place call) fits = record {
    items = tt;
    flow = λ rest after.
        after-fits types vars (settings vars (is_awaited call) place.line) (ends (at_call procs vars place call))
        (call-settings law types procs all vars call fits place.line) (call-arrival law types procs all vars call fits place);
    starts = λ rest after. (record { start = call-starts law types procs all vars call fits; flow = after }, tt);
  }

  statement-passed : (s : Stmt) → IsPassed s
  unfolding IsPassed
  statement-passed = ind-Stmt IsPassed (λ x y is fits.
      subst (PassageFits types vars) (sym (passage-form procs vars (roll-Stmt x) x refl))
      (subst (λ (z : Stmt-F Stmt). Node Stmt (λ s. s) Fit z → PassageFits types vars (rules procs vars (map-Stmt Stmt Passage passage z)))
      is (node-passed y) (form-fits x fits)))

  -- statements in order
  pub block-fits : (block : List Stmt) → AllByRecursion Fit block → PassageFits types vars (block_of procs vars block)
  unfolding IsPassed
  block-fits block fits = order-fits types vars (map passage block) (by block fits)
    where
      by : (some : List Stmt) → AllByRecursion Fit some → AllByRecursion (PassageFits types vars) (map passage some)
      by [] each = tt
      by (s ∷ some) each = (statement-passed s each.0, by some each.1)
