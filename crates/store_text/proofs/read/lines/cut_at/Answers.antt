use Rattle.std.proofs.Common.{Some, option_map, take, drop, ◌+◌, ap, ◌∙◌}
use Rattle.store_text.proofs.LineLemmas.{rest_from}
use Rattle.store_text.proofs.read.lines.cut_at.Goals as goal

pub returns : goal.returns
returns c =
    ap (λ l. Some (take c.in_ok-place.place c.args.word.now, l)) (rest_from c.args.word.now (c.in_ok-place.place + 1))
    ∙ ap (option_map (λ i. (take i c.args.word.now, drop (i + 1) c.args.word.now))) c.in_ok-place.ensures
