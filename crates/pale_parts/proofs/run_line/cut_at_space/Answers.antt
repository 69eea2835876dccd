use Rattle.std.proofs.Common.{Some, option_map, take, drop, ◌+◌, ap, ◌∙◌}
use Rattle.store_text.proofs.LineLemmas.{rest_from}
use Rattle.pale_parts.proofs.run_line.cut_at_space.Goals as goal

pub returns : goal.returns
returns c =
    ap (λ l. Some (take c.in_ok-place.place c.args.words.now, l)) (rest_from c.args.words.now (c.in_ok-place.place + 1))
    ∙ ap (option_map (λ i. (take i c.args.words.now, drop (i + 1) c.args.words.now))) c.in_ok-place.ensures
