use Rattle.std.proofs.Common.{ap, ◌∙◌}
use Rattle.store_core.specs.Tables.{place_of}
use Rattle.pale_vocabulary.specs.Heads.{head_names}
use Rattle.pale_vocabulary.proofs.HeadLemmas.{place-kept}
use Rattle.pale_vocabulary.proofs.vocabulary.PredHeads.find.Goals as goal

pub returns : goal.returns
returns c =
    c.get_index_of.ensures.index ∙ place-kept c.args.name.now c.self.inside.heads.entries
    ∙ ap (λ preds. place_of c.args.name.now (head_names preds)) c.self.view_is
