use Rattle.std.proofs.Common.{option_map, ◌∙◌, sym, ap}
use Rattle.cert_text.proofs.LinesLemmas.{line_at-told}
use Rattle.cert_text.proofs.SpelledLemmas.{read-once, read-none}
use Rattle.cert_text.proofs.read.read_line.Goals as goal

pub returns-in-Some-clause-found : goal.returns-in-Some-clause-found
returns-in-Some-clause-found c =
    line_at-told c.args.text.now (c.in-Some.found.0, c.in-Some.found.1.now) (sym c.in_ok-found.ensures
    ∙ ap (λ o. option_map (λ cut. (cut.0, cut.1.now)) o) c.in-Some.is)

pub returns-in-Some-clause-only : goal.returns-in-Some-clause-only
returns-in-Some-clause-only c =
    read-once c.args.text.now (c.in-Some.found.0, c.in-Some.found.1.now) (sym c.in_ok-found.ensures
    ∙ ap (λ o. option_map (λ cut. (cut.0, cut.1.now)) o) c.in-Some.is)

pub returns-in-None-clause-only : goal.returns-in-None-clause-only
returns-in-None-clause-only c line after is spelled =
    absurd (read-none c.args.text.now (sym c.in_ok-found.ensures ∙ ap (λ o. option_map (λ cut. (cut.0, cut.1.now)) o) c.in-None.is) line after is spelled)
