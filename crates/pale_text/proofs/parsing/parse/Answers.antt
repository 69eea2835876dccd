use Rattle.std.proofs.Common.{sym, subst, ap, ◌∙◌}
use Rattle.ll1_reader.specs.Grammars.{rules_of}
use Rattle.pale_text.specs.Kinds.{kinds_by}
use Rattle.pale_text.specs.Parsing.{max_levels}
use Rattle.pale_text.specs.TextStops.{IsRefused}
use Rattle.pale_text.proofs.parsing.parse.Goals as goal

pub returns-clause-refused : goal.returns-clause-refused
returns-clause-refused g c =
    λ refusal is. c.in_ok-events.ensures.refused refusal (subst
    (λ kinds. IsRefused (rules_of g.L.Grammar.grammar) max_levels kinds c.args.list.now refusal)
    (sym (c.as_slice-2.ensures ∙ c.in_ok-kinds.ensures ∙ ap (kinds_by g.L.Language.kind_of) c.as_slice.ensures)) is)
