use Rattle.std.proofs.Common.{◌≡◌, ◌∙◌, ◌++◌, ℕ, max, arith, List, IfOk, length, ap, subst}
use Rattle.std.specs.List.{range_with_len}
use Rattle.std.specs.FinMap.{entries, from_entries}
use Rattle.std.proofs.lemmas.List.{length-map}
use Rattle.std.proofs.lemmas.List.FromFn.{length-range_with_len}
use Rattle.store_core.specs.declared.value.Value.{Value}
use Rattle.store_core.specs.Stores.{StoreMap}
use Rattle.store_exec.specs.Restricted.{restricted}
use Rattle.hoare_split.specs.Picking.{numbered}
use Rattle.whole_run.specs.Handing.{value_after}
use Rattle.whole_handing.proofs.returning.returned_store.Goals as goal

-- a value for each variable of the table
pub restricted-requires : goal.restricted-requires
restricted-requires c =
    let n = length c.args.vars.now in
    let f = value_after c.args.vars.now c.args.call.now c.args.results.now c.args.rest.now c.args.exited.now in
    ap (λ (s : StoreMap). length s.vars) c.in_ok-both.ensures ∙ ap length c.in_ok-values.ensures
    ∙ length-map (numbered (range_with_len 0 n)) f ∙ length-map (range_with_len 0 n) (λ k. record { 0 = k }) ∙ length-range_with_len 0 n

pub returns : goal.returns
returns c =
    let made : List Value → ℕ → StoreMap = λ values next. record {
      cells = from_entries (entries c.args.exited.now.cells ++ entries c.args.rest.now.cells);
      vars = values;
      next = next;
    } in
    let exited = (c.args.exited.now).next in
    let later : max exited (c.args.rest.now).next ≡ exited = omega (arith, c.requires.later) in
    let both = c.in_ok-both.ensures ∙ ap (made c.in_ok-values.values) later ∙ ap (λ (values : List Value). made values exited) c.in_ok-values.ensures in
    subst (λ (s : StoreMap). IfOk c.restricted.result (λ after. after ≡ restricted s)) both c.restricted.ensures
