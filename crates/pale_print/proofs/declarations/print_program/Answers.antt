use Rattle.std.proofs.Common.{[], ◌∙◌, ap}
use Rattle.pale_print.specs.Tokens.{each}
use Rattle.pale_print.specs.DeclarationTokens.{declaration_tokens}
use Rattle.pale_print.specs.Spelling.{spelled}
use Rattle.pale_print.proofs.Written.{from_nothing, of_declarations, if_ok}
use Rattle.pale_print.proofs.declarations.print_program.Goals as goal

pub returns : goal.returns
returns c = record {
  value = if_ok _ _ c.finish.result
      (λ text whole. from_nothing _ _ text.items _ c.new-text.ensures whole (c.push_declarations.ensures [] text.items)
      ∙ ap (λ declarations. spelled (each declaration_tokens declarations [])) c.as_slice.ensures ∙ of_declarations c.args.program.now)
      c.finish.ensures.text;
}
