use Rattle.std.proofs.Common.{◌∙◌, ap, ◌++◌, ℕ, List, Some}
use Rattle.std.proofs.lemmas.Bool.Decides.{Decides-eqb}
use Rattle.std.proofs.lemmas.Slice.Eq.{strip_prefix_is}
use Rattle.pale_parts.proofs.PartLemmas.{counted}
use Rattle.pale_parts.proofs.parts.triple_in.Goals as goal

pub returns-clause-some : goal.returns-clause-some
returns-clause-some c =
    let word = c.in_ok-word.word in
    let spelled = strip_prefix_is Decides-eqb c.args.line.now c.as_slice.result.now (Some word) c.in_ok-word.ensures.cases in
    counted c.args.line.now word.now (spelled ∙ ap (λ (l : List ℕ). l ++ word.now) c.as_slice.ensures) c.number_of.result c.number_of.ensures
