use Rattle.std.proofs.Common.{ℕ, take, arith, length-append, length-take}
use Rattle.std.proofs.lemmas.Result.{err_from_is_err_and}
use Rattle.pale_io.proofs.WholeLemmas.{ReadsTooMany-from_front, ReadsFront-from_front}
use Rattle.pale_io.proofs.ReadingSteps.{ReadsSoFar-taken}
use Rattle.pale_io.proofs.reading.read_all.Goals as goal

pub returns-then-count-room-clause-too_long : goal.returns-then-count-room-clause-too_long
returns-then-count-room-clause-too_long g c = λ _.
    let moved = take c.in_ok-count.count c.read.new.buf in
    ReadsTooMany-from_front _ _ _ _ (omega (
      arith,
      c.loop-bytes.invariant.within,
      c.in_ok-count.ensures.room,
      c.loop-bytes.bytes.ok.0,
      length-append
          {A = ℕ},
      length-take {A = ℕ},
    ))
    (ReadsSoFar-taken _ moved c.loop-bytes.invariant c.in_ok-count.ensures.moved)

pub returns-then-count-room-clause-err : goal.returns-then-count-room-clause-err
returns-then-count-room-clause-err g c =
    let moved = take c.in_ok-count.count c.read.new.buf in
    ReadsFront-from_front _ _ _ _ (omega (
      arith,
      c.loop-bytes.invariant.within,
      c.in_ok-count.ensures.room,
      c.loop-bytes.bytes.ok.0,
      length-append
          {A = ℕ},
      length-take {A = ℕ},
    ))
    (ReadsSoFar-taken _ moved c.loop-bytes.invariant c.in_ok-count.ensures.moved)

pub returns-in_err-extend_from_slice-clause-err : goal.returns-in_err-extend_from_slice-clause-err
returns-in_err-extend_from_slice-clause-err g c =
    let moved = take c.in_ok-count.count c.read.new.buf in
    let p = err_from_is_err_and c.from_residual-in_err-extend_from_slice.result c.from_residual-in_err-extend_from_slice.ensures.1 in
    rw p.1 (ReadsFront-from_front _ _ _ _ (omega (
      arith,
      c.loop-bytes.invariant.within,
      c.in_ok-count.ensures.room,
      c.loop-bytes.bytes.ok.0,
      length-append {A = ℕ},
      length-take {A = ℕ},
    ))
    (ReadsSoFar-taken _ moved c.loop-bytes.invariant c.in_ok-count.ensures.moved))
