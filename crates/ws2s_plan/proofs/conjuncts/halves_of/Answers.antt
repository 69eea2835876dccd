use Rattle.std.proofs.Common.{◌<◌, length, sym, arith}
use Rattle.std.proofs.lemmas.Option.{slice_get_within}
use Rattle.ws2s_lean.proofs.NumbersLemmas.{at-And, halves-below}
use Rattle.ws2s_plan.proofs.conjuncts.halves_of.Goals as goal

pub returns-in-Some-And : goal.returns-in-Some-And
returns-in-Some-And c =
    let formulas = c.args.interner.now in
    let one = c.in-Some-And in
    let within : c.args.id.0 < length formulas = slice_get_within formulas c.args.id.0 _ (sym one.ensures.value) in
    let below = halves-below c.args.id.0 one.f one.g one.field-0 one.ensures.parts one.field-0-is in
    record {
      whole = at-And formulas c.args.id one.f one.g one.field-0 one.ensures.value one.field-0-is;
      left_there = omega (arith, within, below.0);
      right_there = omega (arith, within, below.1);
    }
