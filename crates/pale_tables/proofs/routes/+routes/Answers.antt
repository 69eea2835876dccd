use Rattle.std.proofs.Common.{ap, ◌∙◌}
use Rattle.pale_tables.specs.Routes.{route_fault}
use Rattle.pale_tables.proofs.NamesLemmas.{type_first}
use Rattle.pale_tables.proofs.RouteLemmas.{fault-IsType}
use Rattle.pale_tables.proofs.routes.+routes.Goals as goal

pub read_part-returns-in_ok-find_type-in-IsType-clause-met : goal.read_part-returns-in_ok-find_type-in-IsType-clause-met
read_part-returns-in_ok-find_type-in-IsType-clause-met t c =
    ap (route_fault c.args.names.now c.args.followed) c.in-IsType.is
    ∙ fault-IsType c.args.names.now c.args.followed c.in-IsType.ty
    ∙ type_first c.args.names.now c.in-IsType.ty c.in_ok-find_type-in-IsType.field-0 c.in_ok-find_type-in-IsType.ensures.ty
