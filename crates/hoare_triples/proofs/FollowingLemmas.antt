-- On what follows, as it is kept while code is made.
use Rattle.std.proofs.Common.{◌≡◌, ℕ, ◌+◌, ◌≤◌, true, List, [], ◌∷◌, ◌++◌, Option, Some, None, IfSome, is_some, refl, sym, ap, ◌∙◌, append_assoc, arith}
use Rattle.std.specs.List.{sum_by}
use Rattle.std.proofs.lemmas.List.{append_cancel_left}
use Rattle.store_core.specs.Tables.{VarEntry}
use Rattle.store_exec.specs.declared.code.Item.{Item}
use Rattle.pale_typed.specs.declared.typed.ProcEntry.{ProcEntry}
use Rattle.pale_typed.specs.declared.typed.Stmt.{Stmt}
use Rattle.hoare_split.specs.declared.caller.Caller.{Caller}
use Rattle.hoare_triples.specs.declared.rest.Rest.{Rest}
use Rattle.hoare_split.specs.Flows.{Flow, after_items}
use Rattle.hoare_split.specs.Statements.{passage_of}
use Rattle.hoare_triples.specs.Weights.{weight_of, weight_behind}
use Rattle.hoare_split.specs.Callers.{procs_of, vars_of, block_in}
use Rattle.hoare_triples.specs.Following.{flow_of, IsGone}
use Rattle.hoare_split.proofs.PlainLemmas.{after_items-append, plain-statement}
use Rattle.hoare_triples.proofs.WeightLemmas.{weight-cons}

-- without its first statement a block is no heavier
pub lighter-more : (block more : List Stmt) (s : Stmt) (after : ℕ) → block ≡ s ∷ more →
    1 + (sum_by weight_of more + after) ≤ 1 + (sum_by weight_of block + after)
lighter-more block more s after is = let whole : sum_by weight_of block ≡ weight_of s + sum_by weight_of more = ap (sum_by weight_of) is ∙ weight-cons s more in
    omega (arith, whole)

-- a statement with no cut inside leads through what it adds
through : (procs : List ProcEntry) (vars : List VarEntry) (s : Stmt) (items items' own : List Item) → items' ≡ items ++ own →
    is_some (passage_of procs vars s).items ≡ true → IfSome (passage_of procs vars s).items (λ x. items' ≡ items ++ x) →
    (rest : Flow) → (passage_of procs vars s).flow rest ≡ after_items own rest
through procs vars s items items' own added plain adds rest = by (passage_of procs vars s).items refl plain adds
  where
    by : (o : Option (List Item)) → (passage_of procs vars s).items ≡ o → is_some o ≡ true → IfSome o (λ x. items' ≡ items ++ x) →
        (passage_of procs vars s).flow rest ≡ after_items own rest
    by None is plain adds = absurd cc
    by (Some x) is plain adds = (plain-statement procs vars s x is).flow rest
        ∙ ap (λ y. after_items y rest) (append_cancel_left items x own (sym adds ∙ added))

-- one statement with no cut inside further on
pub gone-statement : (before items items' : List Item) (rest left left' : Rest) (s : Stmt) (more : List Stmt) (F : Caller → Flow) → IsGone before items
    rest left →
    ((caller : Caller) → flow_of caller left ≡ (block_in caller (s ∷ more)).flow (F caller)) →
    ((caller : Caller) → flow_of caller left' ≡ (block_in caller more).flow (F caller)) → weight_behind left' ≤ weight_behind left →
    ((procs : List ProcEntry) (vars : List VarEntry) → is_some (passage_of procs vars s).items ≡ true) →
    ((procs : List ProcEntry) (vars : List VarEntry) → IfSome (passage_of procs vars s).items (λ own. items' ≡ items ++ own)) →
    IsGone before items' rest left'
gone-statement before items items' rest left left' s more F gone from_left from_next lighter plain adds =
    by (passage_of [] [] s).items (plain [] []) (adds [] [])
  where
    by : (o : Option (List Item)) → is_some o ≡ true → IfSome o (λ own. items' ≡ items ++ own) → IsGone before items' rest left'
    by None is added = absurd cc
    by (Some own) is added =
        let falls = gone.lighter in
        record {
          own = gone.own ++ own;
          items = added ∙ ap (λ x. x ++ own) gone.items ∙ append_assoc before gone.own own;
          flow = λ caller. gone.flow caller ∙ ap (after_items gone.own) (from_left caller
              ∙ through (procs_of caller) (vars_of caller) s items items' own added (plain (procs_of caller) (vars_of caller))
              (adds (procs_of caller) (vars_of caller)) ((block_in caller more).flow (F caller))
              ∙ ap (after_items own) (sym (from_next caller)))
              ∙ sym (after_items-append gone.own own (flow_of caller left'));
          lighter = omega arith;
        }
