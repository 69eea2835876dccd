use Rattle.std.proofs.Common.{◌≡◌, ◌∙◌, ap₂, codes}
use Rattle.std.proofs.lemmas.Result.{IfOk-weaker}
use Rattle.clap.specs.Words.{app_of, new_app, rule_of, with_rule}
use Rattle.pale_words.specs.Words.{limit_rule, mode_rule, seed_rule}
use Rattle.pale_words.proofs.words.command.Goals as goal

pub returns : goal.returns
returns c =
    let mode = c.mode_arg.ensures.rule in
    let with_mode : app_of c.in_ok-arg.field-0 ≡ with_rule (new_app (codes "pale")) (mode_rule mode.0) =
    c.in_ok-arg.ensures.shape c.mode_arg.ensures.local ∙ ap₂ with_rule c.new.ensures.app mode.2 in
    let limit_is : rule_of c.number_arg.result ≡ limit_rule = rw (← c.limits.ensures) c.number_arg.ensures.rule in
    let seed_is : rule_of c.number_arg-2.result ≡ seed_rule = rw (← c.seeds.ensures) c.number_arg-2.ensures.rule in
    let with_limit = c.in_ok-arg-2.ensures.shape c.number_arg.ensures.local ∙ ap₂ with_rule with_mode limit_is in
    IfOk-weaker c.arg-3.result _ _ (λ r adds. (mode.0, mode.1, adds.shape c.number_arg-2.ensures.local ∙ ap₂ with_rule with_limit seed_is)) c.arg-3.ensures
