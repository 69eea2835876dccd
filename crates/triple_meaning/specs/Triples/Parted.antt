-- Of which cells the claims of a cut speak: of all, or of the part that is handed over there, or of its rest. (Møller and
-- Schwartzbach, PLDI 2001: procedure calls.)
use Rattle.std.specs.List.{AllByRecursion}
use Rattle.store_exec.specs.declared.triple.Claim.{Claim}
use Rattle.store_exec.specs.declared.triple.Cut.{Cut}
use Rattle.store_exec.specs.declared.triple.Triple.{Triple}
use Rattle.triple_meaning.specs.Claims.Given.{IsRegionOf}

abbrev pub IsParted : Cut → Type 0
IsParted cut = AllByRecursion (λ (c : Claim). IsRegionOf cut.handed c.region) cut.asserts

-- each cut of the triple
abbrev pub AreParted : Triple → Type 0
AreParted t = AllByRecursion IsParted t.cuts
