-- The way up to a step.
use Rattle.std.proofs.Common.{sym, subst}
use Rattle.gta_witness.specs.declared.goal.Goal.TheVariants.{State}
use Rattle.gta_witness.specs.Searching.{found_by}
use Rattle.gta_witness.specs.Reading.{HasReason, Climbs}
use Rattle.gta_witness.proofs.ReadLemmas.{Climbs-first, Climbs-side, has-space, initial-step, cell-step, fewer-above}
use Rattle.gta_witness.proofs.ThereLemmas.{no-member, side-there, cell-settled, row-member, column-member}
use Rattle.gta_witness.proofs.read.step_of.Goals as goal

pub loop-tracks-init : goal.loop-tracks-init
loop-tracks-init c =
    let form = c.args.form.now in
    let weigh = c.args.weigh.now in
    let found = found_by c.args.search.now in
    let settled = c.requires.settled in
    let space = has-space form weigh found c.requires.readable c.args.space c.args.state settled.0 settled.1 in (
      settled.0,
      settled.1,
      subst (Climbs form weigh found c.args.space c.args.state settled.0 (State c.args.space c.args.state)) (sym c.new-tracks.ensures)
          (Climbs-first form weigh found c.requires.readable c.args.space c.args.state settled.0 space.0 space.1 settled.1),
    )

pub returns-in-Initial : goal.returns-in-Initial
returns-in-Initial c =
    let form = c.args.form.now in
    let weigh = c.args.weigh.now in
    let found = found_by c.args.search.now in
    let at = c.loop-tracks.invariant in
    record {
      weight = at.0;
      settled = at.1;
      has = initial-step form weigh found c.requires.readable c.args.space c.args.state at.0 c.loop-tracks.goal c.loop-tracks.tracks at.2
          (subst (HasReason found c.loop-tracks.goal) c.in-Initial.is c.reason_of.ensures);
    }

pub returns-in-Cell : goal.returns-in-Cell
returns-in-Cell c =
    let form = c.args.form.now in
    let weigh = c.args.weigh.now in
    let found = found_by c.args.search.now in
    let at = c.loop-tracks.invariant in
    record {
      weight = at.0;
      settled = at.1;
      has = cell-step form weigh found c.requires.readable c.args.space c.args.state at.0 c.loop-tracks.goal c.loop-tracks.tracks at.2
          c.in-Cell.row c.in-Cell.column c.member_of-left.result c.member_of-right.result
          (subst (HasReason found c.loop-tracks.goal) c.in-Cell.is c.reason_of.ensures) c.member_of-left.ensures c.member_of-right.ensures;
    }

pub loop-tracks-preserved : goal.loop-tracks-preserved
loop-tracks-preserved c =
    let form = c.args.form.now in
    let weigh = c.args.weigh.now in
    let found = found_by c.args.search.now in
    let at = c.loop-tracks.invariant in (
      at.0,
      at.1,
      Climbs-side form weigh found c.requires.readable c.args.space c.args.state at.0 c.in-Side.index c.in-Side.is_high c.loop-tracks.goal c.loop-tracks.tracks
          c.add_track.new.tracks at.2 (subst (HasReason found c.loop-tracks.goal) c.in-Side.is c.reason_of.ensures) c.in_ok-add_track-in-Side.ensures,
    )

pub loop-tracks-smaller : goal.loop-tracks-smaller
loop-tracks-smaller c =
    let form = c.args.form.now in
    let weigh = c.args.weigh.now in
    let found = found_by c.args.search.now in
    let at = c.loop-tracks.invariant in
    fewer-above form weigh found c.requires.readable c.args.space c.args.state at.0 c.loop-tracks.goal c.loop-tracks.tracks at.2 c.in-Side.index
    c.in-Side.is_high
    (subst (HasReason found c.loop-tracks.goal) c.in-Side.is c.reason_of.ensures)

pub reason_of-requires : goal.reason_of-requires
reason_of-requires c =
    let climbs = c.loop-tracks.invariant.2 in
    (climbs.weight, climbs.settled)

pub unreachable-requires : goal.unreachable-requires
unreachable-requires c =
    let form = c.args.form.now in
    let weigh = c.args.weigh.now in
    let found = found_by c.args.search.now in
    let at = c.loop-tracks.invariant in
    no-member form weigh found c.requires.readable c.args.space c.args.state at.0 c.loop-tracks.goal c.loop-tracks.tracks at.2 c.in-Member.state
    (subst (HasReason found c.loop-tracks.goal) c.in-Member.is c.reason_of.ensures)

pub add_track-requires : goal.add_track-requires
add_track-requires c =
    let form = c.args.form.now in
    let weigh = c.args.weigh.now in
    let found = found_by c.args.search.now in
    let at = c.loop-tracks.invariant in
    side-there form weigh found c.requires.readable c.args.space c.args.state at.0 c.loop-tracks.goal c.loop-tracks.tracks at.2 c.in-Side.index
    c.in-Side.is_high (subst (HasReason found c.loop-tracks.goal) c.in-Side.is c.reason_of.ensures)

pub member_of-left-requires : goal.member_of-left-requires
member_of-left-requires c =
    let form = c.args.form.now in
    let weigh = c.args.weigh.now in
    let found = found_by c.args.search.now in
    let at = c.loop-tracks.invariant in
    let both = cell-settled form weigh found c.requires.readable c.args.space c.args.state at.0 c.loop-tracks.goal c.loop-tracks.tracks at.2 c.in-Cell.row
    c.in-Cell.column (subst (HasReason found c.loop-tracks.goal) c.in-Cell.is c.reason_of.ensures) in
    row-member form weigh found c.requires.readable c.args.space c.in-Cell.row both.0.0 both.0.1

pub member_of-right-requires : goal.member_of-right-requires
member_of-right-requires c =
    let form = c.args.form.now in
    let weigh = c.args.weigh.now in
    let found = found_by c.args.search.now in
    let at = c.loop-tracks.invariant in
    let both = cell-settled form weigh found c.requires.readable c.args.space c.args.state at.0 c.loop-tracks.goal c.loop-tracks.tracks at.2 c.in-Cell.row
    c.in-Cell.column (subst (HasReason found c.loop-tracks.goal) c.in-Cell.is c.reason_of.ensures) in
    column-member form weigh found c.requires.readable c.args.space c.in-Cell.column both.1.0 both.1.1
