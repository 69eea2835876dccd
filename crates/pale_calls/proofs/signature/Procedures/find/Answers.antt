use Rattle.std.proofs.Common.{ap, ◌∙◌}
use Rattle.pale_calls.specs.Signatures.{number_of}
use Rattle.pale_calls.proofs.SignatureLemmas.{number-kept}
use Rattle.pale_calls.proofs.signature.Procedures.find.Goals as goal

pub returns : goal.returns
returns c =
    c.get_index_of.ensures.index ∙ number-kept c.args.name.now c.self.inside.signatures.entries
    ∙ ap (λ procedures. number_of procedures c.args.name.now) c.self.view_is
