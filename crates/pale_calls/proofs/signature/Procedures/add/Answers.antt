use Rattle.std.proofs.Common.{◌++◌, ◌∷◌, [], ap, ◌∙◌}
use Rattle.store_core.proofs.Bodies.{map-insert_entry}
use Rattle.pale_calls.specs.Signatures.{named_of, signatures_of, number_of}
use Rattle.pale_calls.proofs.SignatureLemmas.{number-kept}
use Rattle.pale_calls.proofs.signature.Procedures.add.Goals as goal

pub returns-clause-added : goal.returns-clause-added
returns-clause-added c =
    let es = c.self.inside.signatures.entries in
    ap signatures_of c.in_ok-insert.ensures.entries
    ∙ map-insert_entry named_of c.in_ok-key.key c.args.signature es
    (number-kept c.in_ok-key.key.items es ∙ ap (number_of (signatures_of es)) c.in_ok-key.ensures.items
    ∙ ap (λ procedures. number_of procedures c.args.name.now) c.self.view_is ∙ c.requires)
    ∙ ap (λ n. signatures_of es ++ record { name = n; signature = c.args.signature } ∷ []) c.in_ok-key.ensures.items
    ∙ ap (λ procedures. procedures ++ record { name = c.args.name.now; signature = c.args.signature } ∷ []) c.self.view_is
