use Rattle.std.proofs.Common.{◌≡◌, ◌+◌, ◌++◌, true, false, max, map, Ok, ap, ◌∙◌, sym, subst}
use Rattle.std.specs.List.Sorted.{IsStrictlySortedBy}
use Rattle.std.specs.Ordering.{nat_cmp}
use Rattle.std.specs.FinMap.{contains_key, insert, from_sorted}
use Rattle.store_text.specs.Reading.{next_after}
use Rattle.store_text.specs.Saying.{Said, say_cell}
use Rattle.store_text.specs.DraftBodies.{said_cell, said_cells}
use Rattle.store_text.proofs.SayingLemmas.{stop_of, say_cell-again, say_cell-stop, say_cell-new}
use Rattle.store_text.proofs.DraftLemmas.{contains_key-said, insert-said, next_after-said}
use Rattle.store_text.proofs.read.draft.Draft.say_cell.Goals as goal

pub returns-then-contains_key-clause-stop : goal.returns-then-contains_key-clause-stop
returns-then-contains_key-clause-stop c = λ n.
    let number = c.args.cell.now.number in
    let there : contains_key c.args.self.now.cells number ≡ true =
    ap (λ (s : Said). contains_key s.cells number) (sym c.self.view_is) ∙
    contains_key-said c.self.inside.cells.entries number c.self.invariant.rising ∙ sym c.if-contains_key.ensures in
    say_cell-again c.args.types.now c.args.line c.args.self.now c.args.cell.now there

pub returns-in_err-said-clause-stop : goal.returns-in_err-said-clause-stop
returns-in_err-said-clause-stop c =
    let number = c.args.cell.now.number in
    let absent : contains_key c.args.self.now.cells number ≡ false =
    ap (λ (s : Said). contains_key s.cells number) (sym c.self.view_is) ∙
    contains_key-said c.self.inside.cells.entries number c.self.invariant.rising ∙ sym c.if-contains_key.ensures in
    stop_of c.from_residual.result c.in_err-said.field-0.0 (say_cell c.args.types.now c.args.line c.args.self.now c.args.cell.now) c.from_residual.ensures.1
    (λ n. say_cell-stop c.args.types.now c.args.line c.args.self.now c.args.cell.now c.in_err-said.field-0.0 absent (c.in_err-said.ensures.stop n))

pub invariant_of-self-2 : goal.invariant_of-self-2
invariant_of-self-2 c = record {
  rising = c.in_ok-insert.ensures.ordered;
  next = c.max-self-inside.ensures ∙ ap (λ n. max n (c.args.cell.now.number + 1)) c.self.invariant.next
      ∙ sym (next_after-said c.self.inside.cells.entries c.args.cell.now.number c.in_ok-said.said) ∙
      ap (λ es. next_after (map (λ e. e.0) es)) (sym c.in_ok-insert.ensures.entries);
}

pub returns-clause-said : goal.returns-clause-said
returns-clause-said c =
    let number = c.args.cell.now.number in
    let es = c.self.inside.cells.entries in
    let said = c.in_ok-said.said in
    let absent : contains_key c.args.self.now.cells number ≡ false =
    ap (λ (s : Said). contains_key s.cells number) (sym c.self.view_is) ∙ contains_key-said es number c.self.invariant.rising ∙ sym c.if-contains_key.ensures in
    let entries_are = c.in_ok-insert.ensures.entries in
    say_cell-new c.args.types.now c.args.line c.args.self.now c.args.cell.now (said_cell said, c.in_ok-said.named) absent c.in_ok-said.ensures.said
    ∙ ap (λ (s : Said). Ok (record {
      cells = insert s.cells number (said_cell said);
      vars = s.vars;
      mentions = s.mentions ++ c.in_ok-said.named;
    })) (sym c.self.view_is)
    ∙ (λ i. Ok (record {
      cells = (sym (insert-said es number said c.self.invariant.rising
          (subst (λ fs. IsStrictlySortedBy nat_cmp (map (λ e. e.0) fs)) entries_are c.in_ok-insert.ensures.ordered)) ∙
          ap (λ fs. from_sorted (said_cells fs)) (sym entries_are)) i;
      vars = c.self.inside.vars;
      mentions = sym c.in_ok-append.ensures.ok i;
    }))
