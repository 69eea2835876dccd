-- The loop begins.
use Rattle.std.proofs.Common.{arith}
use Rattle.gta_witness.specs.Searching.{weighs_in}
use Rattle.gta_witness.proofs.SettleLemmas.{running-first}
use Rattle.gta_witness.proofs.search.search_all.Goals as goal

pub loop-lines-init : goal.loop-lines-init
loop-lines-init c = record {
  running = (
    0,
    running-first c.args.form.now (weighs_in c.args.weighed.now)
        (record { rows = c.in_ok-empty_lists.field-0; columns = c.in_ok-empty_lists-2.field-0 }) c.in_ok-search.search c.in_ok-search.ensures,
  );
  lines = record {
    rows = omega arith;
    columns = omega arith;
  };
}
