use Rattle.std.proofs.Common.{ℕ, take}
use Rattle.site_list.specs.Reading.{read_along}
use Rattle.symbolic_steps.specs.Shown.{Gets}
use Rattle.symbolic_steps.proofs.reading.read_along.Given as goal

-- the fields so far are read
abbrev pub invariant-loop-field : goal.invariant-loop-field
invariant-loop-field l = (line : ℕ) → Gets l.reached l.initial.w l.w l.value
    (λ text s. read_along l.l.types l.l.vars line text (take l.field-index l.fields) (l.fn.cell, s))
