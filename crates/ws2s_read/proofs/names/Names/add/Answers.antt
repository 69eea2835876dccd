use Rattle.std.proofs.Common.{Ok, sym, ap, ◌∙◌}
use Rattle.ws2s_read.specs.NameTables.{names_of}
use Rattle.ws2s_read.proofs.ResolvingLemmas.{inserted-new, declared-new}
use Rattle.ws2s_read.proofs.names.Names.add.Goals as goal

pub returns : goal.returns
returns c =
    declared-new c.args.self.now c.args.name.now c.args.meaning c.requires
    ∙ ap Ok (sym (ap names_of c.in_ok-insert.ensures.entries
    ∙ inserted-new c.args.self.now c.self.inside.meanings.entries c.args.name.now.bytes _ c.in_ok-key.key c.args.meaning
    c.self.view_is c.as_slice.ensures c.in_ok-key.ensures.items c.requires))
