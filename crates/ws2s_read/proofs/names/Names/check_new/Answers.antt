use Rattle.std.proofs.Common.{is_some, refl, sym, ap, ◌∙◌}
use Rattle.ws2s_read.proofs.ResolvingLemmas.{table-has, none_of, declared-again}
use Rattle.ws2s_read.proofs.names.Names.check_new.Goals as goal

pub returns-then-contains_key-clause-stop : goal.returns-then-contains_key-clause-stop
returns-then-contains_key-clause-stop c = λ meaning.
    rw c.refused.ensures
    (declared-again c.args.self.now c.args.name.now meaning
    (ap is_some (table-has c.args.self.now c.self.inside.meanings.entries c.args.name.now.bytes _ _ c.self.view_is c.as_slice.ensures refl)
    ∙ sym c.if-contains_key.ensures))

pub returns-clause-new : goal.returns-clause-new
returns-clause-new c =
    table-has c.args.self.now c.self.inside.meanings.entries c.args.name.now.bytes _ _ c.self.view_is c.as_slice.ensures
    (sym (none_of _ c.if-contains_key.ensures))
