use Rattle.std.proofs.Common.{map, ap, ◌∙◌}
use Rattle.site_list.specs.States.{value_of}
use Rattle.pred_transform.proofs.CutLemmas.{part-made}
use Rattle.pred_transform.proofs.cuts.with_part.Goals as goal

pub returns : goal.returns
returns c = λ next wanted s is.
    part-made c.args.l.now.types c.args.l.now.vars next wanted s c.args.w.now c.define.new.w c.args.roots.now c.as_slice-2.result.now
    c.in_ok-definition.definition c.in_ok-own.own is c.in_ok-own.ensures
    (c.as_slice-2.ensures ∙ c.in_ok-values.ensures ∙ ap (λ us. map (value_of us) c.args.roots.now) c.as_slice.ensures)
    c.in_ok-definition.ensures c.in_ok-define.ensures
