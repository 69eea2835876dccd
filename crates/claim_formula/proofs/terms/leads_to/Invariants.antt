use Rattle.std.proofs.Common.{◌≡◌, ◌+◌, take, reverse, length}
use Rattle.ws2s_forms.specs.Targets.{target}
use Rattle.graph_view.specs.Sights.{sight_of}
use Rattle.site_list.specs.Claims.{leads_to}
use Rattle.claim_formula.proofs.terms.leads_to.Given as goal

-- the fields so far lead to the cell before those that are left
abbrev pub invariant-loop-field : goal.invariant-loop-field
invariant-loop-field l =
    (l.formula ≡ leads_to l.l.types (sight_of l.l.vars l.view) l.fn.value (reverse (take l.field-index l.fields))
    (l.next + l.left) (target l.next l.left l.cell))
    × (l.left + l.field-index ≡ length l.fields)
