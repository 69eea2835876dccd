use Rattle.std.proofs.Common.{◌∙◌, ap}
use Rattle.store_core.specs.Tables.{place_of}
use Rattle.store_core.proofs.Names.{position-names}
use Rattle.pale_tables.proofs.names.Names.find.Goals as goal

pub returns : goal.returns
returns c =
    c.get_index_of.ensures.index ∙ position-names c.args.name.now c.self.inside.names.entries ∙ ap (place_of c.args.name.now) c.self.view_is
