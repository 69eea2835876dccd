use Rattle.std.proofs.Common.{take, ap, ◌∙◌}
use Rattle.ws2s_read.specs.NameTables.{names_of}
use Rattle.ws2s_read.proofs.ResolvingLemmas.{names_of-take}
use Rattle.ws2s_read.proofs.names.Names.close.Goals as goal

pub returns : goal.returns
returns c =
    ap names_of c.truncate.ensures.entries ∙ names_of-take c.args.count c.self.inside.meanings.entries ∙ ap (take c.args.count) c.self.view_is
