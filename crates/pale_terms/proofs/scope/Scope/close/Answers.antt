use Rattle.std.proofs.Common.{take, sym, ap, ◌∙◌}
use Rattle.std.proofs.lemmas.List.{take-map}
use Rattle.pale_terms.specs.Visibles.{entry_of, entries_of}
use Rattle.pale_terms.proofs.scope.Scope.close.Goals as goal

pub returns : goal.returns
returns c =
    ap entries_of c.truncate.ensures.entries ∙ sym (take-map entry_of c.args.count c.self.inside.visible.entries)
    ∙ ap (take c.args.count) c.self.view_is
