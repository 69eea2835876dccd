use Rattle.std.proofs.Common.{◌≡◌, ◌∷◌, ◌++◌, inl, suc, ◌+◌, take, drop, length, ap, ◌∙◌, sym, arith}
use Rattle.std.proofs.lemmas.List.{drop_all}
use Rattle.store_text.specs.Lines.{lines_of}
use Rattle.store_text.proofs.LineLemmas.{lines_of-at, lines_of-whole, rest_from}
use Rattle.pale_parts.proofs.PartLemmas.{cut_at_lf}
use Rattle.pale_parts.proofs.parts.split_line.Goals as goal

pub returns-in-Some-clause-lines : goal.returns-in-Some-clause-lines
returns-in-Some-clause-lines c =
    let text = c.args.text.now in
    let one : suc c.in-Some.end ≡ c.in-Some.end + 1 = omega arith in
    lines_of-at text c.in-Some.end (sym c.in-Some.ensures) ∙ ap (λ n. take c.in-Some.end text ∷ lines_of (drop n text)) one
    ∙ ap (λ l. take c.in-Some.end text ∷ lines_of l) (sym (rest_from text (c.in-Some.end + 1)))

pub returns-in-None-clause-lines : goal.returns-in-None-clause-lines
returns-in-None-clause-lines c =
    let text = c.args.text.now in
    lines_of-whole text c.requires (sym c.in-None.ensures)
    ∙ ap (λ l. text ∷ lines_of l) (sym (rest_from text (length text) ∙ drop_all (length text) text (omega arith)))

pub returns-in-Some-clause-bytes : goal.returns-in-Some-clause-bytes
returns-in-Some-clause-bytes c =
    let text = c.args.text.now in
    let one : suc c.in-Some.end ≡ c.in-Some.end + 1 = omega arith in
    inl (cut_at_lf text c.in-Some.end (sym c.in-Some.ensures) ∙ ap (λ n. take c.in-Some.end text ++ 10 ∷ drop n text) one
    ∙ ap (λ l. take c.in-Some.end text ++ 10 ∷ l) (sym (rest_from text (c.in-Some.end + 1))))
