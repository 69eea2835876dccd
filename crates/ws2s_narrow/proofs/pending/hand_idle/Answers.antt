use Rattle.std.proofs.Common.{◌≡◌, Some, true, rules, arith}
use Rattle.std.proofs.lemmas.Grind.{common_steps}
use Rattle.std.specs.Ordering.{nat_cmp}
use Rattle.std.specs.BTreeMap.{get}
use Rattle.ws2s_narrow.specs.Pending.{goes_idle, idle_at}
use Rattle.ws2s_narrow.proofs.HandingLemmas.{idle-there}
use Rattle.ws2s_narrow.proofs.pending.hand_idle.Goals as goal

pub returns-in_ok-insert : goal.returns-in_ok-insert
returns-in_ok-insert c =
    let there : get nat_cmp c.args.waiting.now c.args.number ≡ Some c.unwrap-next.result = first_of (search rules, grind (arith, common_steps)) in
    let idle : idle_at (get nat_cmp c.args.waiting.now c.args.number) ≡ true = first_of (search rules, grind (arith, common_steps)) in
    record {
      hands = goes_idle c.unwrap-next.result there (idle-there c.unwrap-next.result _ there idle) c.remove.ensures.entries c.in_ok-insert.ensures.entries;
    }
