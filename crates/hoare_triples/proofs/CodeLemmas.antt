-- On the code of what follows a place, as it is made.
use Rattle.std.proofs.Common.{◌≡◌, ℕ, ◌+◌, ◌*◌, ◌<◌, max, List, [], ◌++◌, Option, Some, None, refl, sym, ap, ap₂, ◌∙◌, subst, arith}
use Rattle.std.specs.List.{sum_by}
use Rattle.pale_text.specs.declared.place.Pos.{Pos}
use Rattle.store_core.specs.Tables.{VarEntry}
use Rattle.store_logic.specs.declared.assertion.Assertion.{Assertion}
use Rattle.store_logic.specs.declared.cond.Cond.{Cond}
use Rattle.store_exec.specs.declared.code.Item.{Item}
use Rattle.store_exec.specs.declared.code.Code.{Code, roll-Code}
use Rattle.store_exec.specs.declared.code.Tail.TheVariants as tail
use Rattle.pale_typed.specs.declared.typed.CallParts.{CallParts}
use Rattle.pale_typed.specs.declared.typed.ProcEntry.{ProcEntry}
use Rattle.pale_typed.specs.declared.typed.Stmt.{Stmt}
use Rattle.pale_typed.specs.declared.typed.Stmt.TheVariants as stmt
use Rattle.hoare_split.specs.declared.caller.Caller.{Caller}
use Rattle.hoare_triples.specs.declared.codes.Ending.{Ending}
use Rattle.hoare_split.specs.declared.point.Point.{Point}
use Rattle.hoare_triples.specs.declared.reached.Reached.{Reached}
use Rattle.hoare_triples.specs.declared.rest.Rest.{Rest}
use Rattle.hoare_split.specs.Picking.{is_awaited}
use Rattle.hoare_split.specs.Settings.{settings}
use Rattle.hoare_split.specs.Cuts.{at_assertion, at_call}
use Rattle.hoare_split.specs.Flows.{Flow, ends, branches, after_items, arrivals_of, first_of_each, points_in, code_in}
use Rattle.hoare_split.specs.Passages.{Passage, choice_of, choice, branch}
use Rattle.hoare_split.specs.Statements.{passage_of, block_of}
use Rattle.hoare_triples.specs.Weights.{weight_of}
use Rattle.hoare_triples.specs.Following.{Reaches, GoesOn, flow_of, ending_flow}
use Rattle.hoare_split.proofs.FlowLemmas.{AreAmong, AreAmong-first_of_each, code_in-more, code_in-branches}
use Rattle.hoare_split.proofs.StatementLemmas.{passage-If, passage-While, passage-Split, passage-Call}
use Rattle.hoare_triples.proofs.WeightLemmas.{weight-If}

-- ---- a branch into two codes, the first of which was made first

pub code-branch : (old mid new : Reached) (items : List Item) (line : ℕ) (c : Cond) (one two : Flow) (taken other : Code) →
    taken ≡ code_in mid.points one → Reaches old mid (arrivals_of one) → other ≡ code_in new.points two → Reaches mid new (arrivals_of two) →
    roll-Code (record { items = items; tail = tail.Branch line c taken other }) ≡ code_in new.points (after_items items (branches line c one two))
code-branch old mid new items line c one two taken other is reaches is_other reaches_other =
    let more = points_in (first_of_each mid.points (arrivals_of two)) in
    let among : AreAmong mid.points (arrivals_of one) =
    subst (λ (points : List Point). AreAmong points (arrivals_of one)) (sym reaches.points) (AreAmong-first_of_each old.points (arrivals_of one)) in
    let still : taken ≡ code_in new.points one =
    is ∙ sym (code_in-more mid.points more one among) ∙ ap (λ (points : List Point). code_in points one) (sym reaches_other.points) in
    ap₂ (λ (x y : Code). roll-Code (record { items = items; tail = tail.Branch line c x y })) still is_other
    ∙ sym (code_in-branches new.points items line c one two)

-- ---- where a statement with a cut inside leads

choice-branch : (line : ℕ) (c : Cond) (first other : Passage) → (choice line c first other).items ≡ None →
    choice line c first other ≡ branch line c first other
choice-branch line c first other none = by first.items other.items none
  where
    by : (ones others : Option (List Item)) → (choice_of line c first other ones others).items ≡ None →
        choice_of line c first other ones others ≡ branch line c first other
    by None others e = refl
    by (Some x) None e = refl
    by (Some x) (Some y) e = absurd cc

module _ (procs : List ProcEntry) (vars : List VarEntry) where
  pub flow-If : (s : Stmt) (line : ℕ) (c : Cond) (first other xs ys : List Stmt) → s ≡ stmt.If line c first other → xs ≡ first → ys ≡ other →
      (passage_of procs vars s).items ≡ None → (rest : Flow) →
      branches line c ((block_of procs vars xs).flow rest) ((block_of procs vars ys).flow rest) ≡ (passage_of procs vars s).flow rest
  flow-If s line c first other xs ys is one two none rest =
      let form : passage_of procs vars s ≡ choice line c (block_of procs vars first) (block_of procs vars other) =
      ap (passage_of procs vars) is ∙ passage-If procs vars line c first other in
      ap₂ (λ (x y : List Stmt). branches line c ((block_of procs vars x).flow rest) ((block_of procs vars y).flow rest)) one two
      ∙ sym (ap (λ (p : Passage). p.flow rest) (form ∙ choice-branch line c (block_of procs vars first) (block_of procs vars other)
      (sym (ap (λ (p : Passage). p.items) form) ∙ none)))

  pub flow-While : (s : Stmt) (place : Pos) (c : Cond) (invariant : Assertion) (body : List Stmt) → s ≡ stmt.While place c invariant body →
      (rest : Flow) → (passage_of procs vars s).flow rest ≡ ends (at_assertion place invariant)
  flow-While s place c invariant body is rest =
      ap (λ (p : Passage). p.flow rest) (ap (passage_of procs vars) is ∙ passage-While procs vars place c invariant body)

  pub flow-Split : (s : Stmt) (place : Pos) (a : Assertion) → s ≡ stmt.Split place a →
      (rest : Flow) → (passage_of procs vars s).flow rest ≡ ends (at_assertion place a)
  flow-Split s place a is rest = ap (λ (p : Passage). p.flow rest) (ap (passage_of procs vars) is ∙ passage-Split procs vars place a)

  pub flow-Call : (s : Stmt) (place : Pos) (call : CallParts) → s ≡ stmt.Call place call →
      (rest : Flow) → (passage_of procs vars s).flow rest
      ≡ after_items (settings vars (is_awaited call) place.line) (ends (at_call procs vars place call))
  flow-Call s place call is rest = ap (λ (p : Passage). p.flow rest) (ap (passage_of procs vars) is ∙ passage-Call procs vars place call)

-- ---- where items end

-- what follows leads through the items to where they end
pub flow-to : (caller : Caller) (before items : List Item) (rest : Rest) (found ending : Ending) → before ≡ [] → GoesOn before items rest found →
    found ≡ ending → after_items items (ending_flow caller ending) ≡ flow_of caller rest
flow-to caller before items rest found ending none goes is =
    let all : items ≡ goes.own = goes.items ∙ ap (λ (front : List Item). front ++ goes.own) none in
    ap (λ (own : List Item). after_items own (ending_flow caller ending)) all
    ∙ ap (λ (e : Ending). after_items goes.own (ending_flow caller e)) (sym is) ∙ sym (goes.flow caller)

-- ---- what falls

-- either block of an `if`, with what follows
pub lighter-If : (s : Stmt) (line : ℕ) (c : Cond) (first other xs ys : List Stmt) (rest : ℕ) → s ≡ stmt.If line c first other → xs ≡ first → ys ≡ other →
    3 * max (1 + (sum_by weight_of xs + rest)) (1 + (sum_by weight_of ys + rest)) + 3 < 3 * (weight_of s + rest) + 1
lighter-If s line c first other xs ys rest is one two =
    let whole : weight_of s ≡ 3 + (sum_by weight_of xs + sum_by weight_of ys) = ap weight_of is ∙ weight-If line c first other
    ∙ ap₂ (λ (x y : List Stmt). 3 + (sum_by weight_of x + sum_by weight_of y)) (sym one) (sym two) in
    by (sum_by weight_of xs) (sum_by weight_of ys) (weight_of s) whole
  where
    by : (x y w : ℕ) → w ≡ 3 + (x + y) → 3 * max (1 + (x + rest)) (1 + (y + rest)) + 3 < 3 * (w + rest) + 1
    by x y w e = omega (arith, e)
