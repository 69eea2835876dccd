-- A goal is settled.
use Rattle.std.proofs.Common.{ap, ◌∙◌}
use Rattle.gta_witness.specs.Ending.{is_settled_in}
use Rattle.gta_witness.proofs.EndingLemmas.{turns-settled}
use Rattle.gta_witness.proofs.ListsLemmas.{line-justified}
use Rattle.gta_witness.specs.Rules.{key}
use Rattle.gta_witness.specs.Searching.{weighs_in, found_by}
use Rattle.gta_witness.proofs.SettleLemmas.{settled-search, settled-now, settled-kept, settled-listed, running-now, over-now, accepting-now}
use Rattle.gta_witness.proofs.search.settle_goal.Goals as goal

pub expand-requires-clause-search : goal.expand-requires-clause-search
expand-requires-clause-search c = settled-search c.args.form.now (weighs_in c.args.weighed.now) c.args.lines.now c.args.search.now c.settle.new.search
    c.args.goal c.args.found c.requires.taken c.in_ok-settle.ensures.found c.in_ok-settle.ensures.queue

pub expand-requires-clause-settled : goal.expand-requires-clause-settled
expand-requires-clause-settled c = settled-now c.args.form.now (weighs_in c.args.weighed.now) c.args.lines.now c.args.search.now c.settle.new.search
    c.args.goal c.args.found c.requires.taken c.in_ok-settle.ensures.found c.in_ok-settle.ensures.queue

pub expand-requires-clause-listed : goal.expand-requires-clause-listed
expand-requires-clause-listed c = settled-listed c.args.form.now (weighs_in c.args.weighed.now) c.args.lines.now c.args.search.now c.settle.new.search
    c.args.goal c.args.found c.requires.taken c.in_ok-settle.ensures.found c.in_ok-settle.ensures.queue c.add_line.new.lines c.in_ok-add_line.ensures.adds

pub returns-in-Some-clause-stands : goal.returns-in-Some-clause-stands
returns-in-Some-clause-stands c = (
  over-now c.args.form.now (weighs_in c.args.weighed.now) c.args.lines.now c.args.search.now c.settle.new.search
      c.args.goal c.args.found c.requires.taken c.in_ok-settle.ensures.found c.in_ok-settle.ensures.queue c.add_line.new.lines c.in_ok-add_line.ensures.adds
      c.expand.new.search c.in_ok-expand.ensures.goes_on c.in_ok-expand.ensures.expanded,
  accepting-now c.args.form.now (weighs_in c.args.weighed.now) c.args.lines.now c.args.search.now c.settle.new.search
      c.args.goal c.args.found c.requires.taken c.in_ok-settle.ensures.found c.in_ok-settle.ensures.queue c.add_line.new.lines c.in_ok-add_line.ensures.adds
      c.expand.new.search c.in_ok-expand.ensures.goes_on c.in_ok-expand.ensures.expanded c.in-Some.state c.in-Some.ensures,
)

pub returns-in-None-clause-stands : goal.returns-in-None-clause-stands
returns-in-None-clause-stands c = (
  key c.args.found.weight,
  running-now c.args.form.now (weighs_in c.args.weighed.now) c.args.lines.now c.args.search.now c.settle.new.search
      c.args.goal c.args.found c.requires.taken c.in_ok-settle.ensures.found c.in_ok-settle.ensures.queue c.add_line.new.lines c.in_ok-add_line.ensures.adds
      c.expand.new.search c.in_ok-expand.ensures.goes_on c.in_ok-expand.ensures.expanded c.in-None.ensures,
)

pub add_line-requires : goal.add_line-requires
add_line-requires c = line-justified c.args.form.now (weighs_in c.args.weighed.now) c.args.lines.now c.requires.lines (found_by c.args.search.now)
    c.args.goal c.args.found.reason c.args.found.weight (c.requires.taken.justified c.args.goal c.args.found c.requires.taken.there)

pub returns-in-Some-clause-fewer : goal.returns-in-Some-clause-fewer
returns-in-Some-clause-fewer c =
    let form = c.args.form.now in
    let weighs = weighs_in c.args.weighed.now in
    let old = c.args.search.now in
    let mid = c.settle.new.search in
    let goal = c.args.goal in
    let taken = c.requires.taken in
    turns-settled old mid c.expand.new.search goal c.args.found.weight c.in_ok-add_line.ensures.bits (ap is_settled_in taken.there ∙ taken.unsettled)
    (settled-kept form weighs c.args.lines.now old mid goal c.args.found taken c.in_ok-settle.ensures.found c.in_ok-settle.ensures.queue)
    (settled-now form weighs c.args.lines.now old mid goal c.args.found taken c.in_ok-settle.ensures.found c.in_ok-settle.ensures.queue)
    c.in_ok-expand.ensures.goes_on.improves

pub returns-in-None-clause-fewer : goal.returns-in-None-clause-fewer
returns-in-None-clause-fewer c =
    let form = c.args.form.now in
    let weighs = weighs_in c.args.weighed.now in
    let old = c.args.search.now in
    let mid = c.settle.new.search in
    let goal = c.args.goal in
    let taken = c.requires.taken in
    turns-settled old mid c.expand.new.search goal c.args.found.weight c.in_ok-add_line.ensures.bits (ap is_settled_in taken.there ∙ taken.unsettled)
    (settled-kept form weighs c.args.lines.now old mid goal c.args.found taken c.in_ok-settle.ensures.found c.in_ok-settle.ensures.queue)
    (settled-now form weighs c.args.lines.now old mid goal c.args.found taken c.in_ok-settle.ensures.found c.in_ok-settle.ensures.queue)
    c.in_ok-expand.ensures.goes_on.improves
