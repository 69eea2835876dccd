-- The spelling of a canonical program is read back.
use Rattle.std.proofs.Common.{◌≡◌, ℕ, List, [], ◌∷◌, None, map, refl, sym, ap, ◌∙◌, subst, arith}
use Rattle.ll1_reader.specs.Answers.{event_of}
use Rattle.ll1_reader.specs.Readings.{IsReading}
use Rattle.pale_text.specs.declared.token.Token.{Token}
use Rattle.pale_syntax.specs.declared.tree.declaration.Program.{Program}
use Rattle.pale_syntax.specs.Making.{run, program_of}
use Rattle.pale_syntax.specs.MakingParts.{Parts, nothing}
use Rattle.pale_syntax.specs.ProgramGrammar.{program_grammar}
use Rattle.pale_syntax.specs.ProgramReading.{program_rows}
use Rattle.pale_syntax.specs.ProgramWords.{kind_of, kinds_in}
use Rattle.pale_text.specs.Spelled.{kinds_of, IsReadAs}
use Rattle.pale_text.proofs.SpelledLemmas.{spelled_tokens_are_read}
use Rattle.pale_print.specs.DeclarationTokens.{program_tokens}
use Rattle.pale_print.specs.Placeless.{placeless}
use Rattle.pale_print.specs.Spelling.{spelled, spelling}
use Rattle.pale_print_laws.specs.CanonicalDeclarations.{IsCanonical}
use Rattle.pale_print_laws.specs.ReadBack.{IsReadBack}
use Rattle.pale_print_laws.proofs.Framework.{kinds, plain}
use Rattle.pale_print_laws.proofs.PlacelessParts.{placeless_token}
use Rattle.pale_print_laws.proofs.PlacelessRun.{run_placeless}
use Rattle.pale_print_laws.proofs.Programs.{program_read}
use Rattle.pale_print_laws.proofs.SpelledLemmas.{spelled_apart}

kinds_known : (tokens : List Token) → kinds (kinds_of tokens) ≡ kinds_in tokens
kinds_known [] = refl
kinds_known (one ∷ tokens) = ap (λ l. kind_of one.kind ∷ l) (kinds_known tokens)

plain_placeless : (tokens : List Token) → plain (kinds_of tokens) ≡ map placeless_token tokens
plain_placeless [] = refl
plain_placeless (one ∷ tokens) = ap (λ l. placeless_token one ∷ l) (plain_placeless tokens)

pub read_back : (limit : ℕ) (tree : Program) → IsCanonical limit tree → IsReadBack limit tree
unfolding spelling placeless program_grammar
read_back limit tree is =
    let found = program_read limit limit tree is (omega arith) in
    let again : IsReadAs (program_tokens tree) (spelled (program_tokens tree)) =
    spelled_tokens_are_read (program_tokens tree) (spelled (program_tokens tree))
    (spelled_apart (program_tokens tree) found.spelled) in
    let known : kinds (program_tokens tree) ≡ kinds_in again.list.tokens = ap kinds (sym again.same) ∙ kinds_known again.list.tokens in
    let alike : plain (program_tokens tree) ≡ map placeless_token again.list.tokens = ap plain (sym again.same) ∙ plain_placeless again.list.tokens in
    let made = run_placeless (map event_of found.steps) None again.list.tokens nothing in
    record {
      list = again.list;
      lexed = again.lexed;
      steps = found.steps;
      other = program_of again.list.tokens (map event_of found.steps);
      program =
          record {
            reading = subst (λ l. IsReading program_rows l found.steps) known found.reading;
            made = refl;
          };
      low = found.low;
      same =
          sym
          (ap (λ (ps : Parts). record { declarations = ps.declarations }) made
          ∙ ap (λ l. record { declarations = (run (map event_of found.steps) None l nothing).declarations }) (sym alike)
          ∙ ap (λ l. record { declarations = l }) (found.made None));
    }
