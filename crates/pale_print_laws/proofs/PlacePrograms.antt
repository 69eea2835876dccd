-- Programs: what their readings make, and of which words.
use Rattle.std.proofs.Common.{◌≡◌, List, [], ◌∷◌, ◌++◌, None, map, refl, sym, subst}
use Rattle.ll1_reader.specs.Answers.{event_of}
use Rattle.ll1_reader.specs.Readings.{Step}
use Rattle.pale_syntax.specs.declared.grammar.act.Act.{Act}
use Rattle.pale_syntax.specs.declared.grammar.part.ProgramPart.{ProgramPart}
use Rattle.pale_syntax.specs.declared.grammar.part.ProgramPart.TheVariants as part
use Rattle.pale_text.specs.declared.token.Token.{Token}
use Rattle.pale_syntax.specs.declared.tree.assertion.Assertion.{out-Assertion, roll-Assertion}
use Rattle.pale_syntax.specs.declared.tree.declaration.Declaration.{Declaration}
use Rattle.pale_syntax.specs.declared.tree.declaration.Declaration.TheVariants as declaration
use Rattle.pale_syntax.specs.declared.tree.declaration.Program.{Program}
use denote.Hole.Carrier.{roll, out}
use Rattle.pale_syntax.specs.Making.{run}
use Rattle.pale_syntax.specs.MakingParts.{Parts, nothing}
use Rattle.pale_syntax.specs.ProgramGrammar.{rows_of, program_grammar}
use Rattle.pale_syntax.specs.ProgramReading.{IsProgram}
use Rattle.pale_print_laws.specs.Words.{Word, AreWords, no_words, each}
use Rattle.pale_print_laws.specs.DeclarationWords.{declaration_words, program_words}
use Rattle.pale_print_laws.specs.Operands.{EachHasOperands, only}
use Rattle.pale_print_laws.proofs.Meaning.{put_declaration, BeforeDeclaration}
use Rattle.pale_print_laws.proofs.PlaceFramework.{AreSoundRows, IsKept, held}
use Rattle.pale_print_laws.proofs.ListLemmas.{all_words, grown}
use Rattle.pale_print_laws.proofs.NameRows.{path_sound, path_step_sound, term_sound}
use Rattle.pale_print_laws.proofs.RouteRows.{route_sound, next_alternative_sound, sequence_sound, next_repeated_sound, repeated_sound}
use Rattle.pale_print_laws.proofs.RouteRows.{star_sound, step_sound, up_name_sound, variant_test_sound}
use Rattle.pale_print_laws.proofs.ConditionRows.{condition_sound, next_conjunction_sound, conjunction_sound, next_literal_sound, literal_sound}
use Rattle.pale_print_laws.proofs.ConditionRows.{literal_relation_sound}
use Rattle.pale_print_laws.proofs.AtomRows.{relation_sound, name_relation_sound, used_paths_sound, next_used_path_sound, path_alone_step_sound}
use Rattle.pale_print_laws.proofs.AtomRows.{name_rest_sound, primary_sound}
use Rattle.pale_print_laws.proofs.AssertionRows.{and_chain_sound, next_negation_sound, or_chain_sound, next_and_chain_sound, iff_sound}
use Rattle.pale_print_laws.proofs.AssertionRows.{next_implication_sound, implication_sound, implied_sound, negation_sound, set_word_sound}
use Rattle.pale_print_laws.proofs.AssertionRows.{next_bound_sound, quantified_sound, bracketed_sound}
use Rattle.pale_print_laws.proofs.CallRows.{argument_sound, next_argument_sound, argued_sound, logic_arguments_sound, keep_sound}
use Rattle.pale_print_laws.proofs.CallRows.{arguments_sound, next_result_sound, call_rest_sound, value_sound, new_variant_sound}
use Rattle.pale_print_laws.proofs.StatementRows.{block_sound, else_sound, statement_sound}
use Rattle.pale_print_laws.proofs.TypeRows.{field_sound, variant_sound, type_sound, predicate_parameter_sound, next_predicate_parameter_sound}
use Rattle.pale_print_laws.proofs.TypeRows.{predicate_parameters_sound, predicate_sound}
use Rattle.pale_print_laws.proofs.ProcedureRows.{parameter_sound, next_parameter_sound, local_sound, parameters_sound, returns_sound}
use Rattle.pale_print_laws.proofs.ProcedureRows.{logic_parameter_sound, next_logic_parameter_sound, logic_sound, pre_sound, post_sound}
use Rattle.pale_print_laws.proofs.ProcedureRows.{procedure_sound, declaration_sound}

-- ---- each part makes what it means

sound : (n : ProgramPart) → AreSoundRows n (rows_of n)
sound part.Declaration = declaration_sound
sound part.«Type» = type_sound
sound part.Variant = variant_sound
sound part.Field = field_sound
sound part.Route = route_sound
sound part.NextAlternative = next_alternative_sound
sound part.Sequence = sequence_sound
sound part.NextRepeated = next_repeated_sound
sound part.Repeated = repeated_sound
sound part.Star = star_sound
sound part.Step = step_sound
sound part.UpName = up_name_sound
sound part.VariantTest = variant_test_sound
sound part.Predicate = predicate_sound
sound part.PredicateParameters = predicate_parameters_sound
sound part.NextPredicateParameter = next_predicate_parameter_sound
sound part.PredicateParameter = predicate_parameter_sound
sound part.Bracketed = bracketed_sound
sound part.Procedure = procedure_sound
sound part.Returns = returns_sound
sound part.Logic = logic_sound
sound part.NextLogicParameter = next_logic_parameter_sound
sound part.LogicParameter = logic_parameter_sound
sound part.Pre = pre_sound
sound part.Post = post_sound
sound part.Parameters = parameters_sound
sound part.NextParameter = next_parameter_sound
sound part.Parameter = parameter_sound
sound part.Local = local_sound
sound part.Block = block_sound
sound part.Statement = statement_sound
sound part.Else = else_sound
sound part.CallRest = call_rest_sound
sound part.NextResult = next_result_sound
sound part.Arguments = arguments_sound
sound part.Argued = argued_sound
sound part.NextArgument = next_argument_sound
sound part.LogicArguments = logic_arguments_sound
sound part.Argument = argument_sound
sound part.Keep = keep_sound
sound part.Value = value_sound
sound part.NewVariant = new_variant_sound
sound part.Condition = condition_sound
sound part.NextConjunction = next_conjunction_sound
sound part.Conjunction = conjunction_sound
sound part.NextLiteral = next_literal_sound
sound part.Literal = literal_sound
sound part.LiteralRelation = literal_relation_sound
sound part.Term = term_sound
sound part.Path = path_sound
sound part.PathStep = path_step_sound
sound part.Iff = iff_sound
sound part.NextImplication = next_implication_sound
sound part.Implication = implication_sound
sound part.Implied = implied_sound
sound part.OrChain = or_chain_sound
sound part.NextAndChain = next_and_chain_sound
sound part.AndChain = and_chain_sound
sound part.NextNegation = next_negation_sound
sound part.Negation = negation_sound
sound part.Quantified = quantified_sound
sound part.SetWord = set_word_sound
sound part.NextBound = next_bound_sound
sound part.Primary = primary_sound
sound part.NameRest = name_rest_sound
sound part.UsedPaths = used_paths_sound
sound part.NextUsedPath = next_used_path_sound
sound part.PathAloneStep = path_alone_step_sound
sound part.NameRelation = name_relation_sound
sound part.Relation = relation_sound

declaration_kept : (x : Declaration) (parts : Parts) → BeforeDeclaration parts → BeforeDeclaration (put_declaration x parts)
declaration_kept (declaration.«Type» x) parts before = ((refl, refl), before.1, before.2)
declaration_kept (declaration.Predicate x) parts before = (before.0, (before.1.0, refl), before.2)
declaration_kept (declaration.Procedure x) parts before = (before.0, before.1, (before.2.0, refl, refl, refl, refl, refl))

keeps : (n : ProgramPart) → IsKept n
unfolding roll-Assertion roll out-Assertion out
keeps part.Declaration = record { enters = λ parts b. b; kept = λ x parts b. declaration_kept x parts b }
keeps part.Variant = record { enters = λ parts b. b; kept = λ x parts b. refl }
keeps part.Field = record { enters = λ parts b. b; kept = λ x parts b. tt }
keeps part.NextAlternative = record { enters = λ parts b. b; kept = λ x parts b. tt }
keeps part.NextRepeated = record { enters = λ parts b. b; kept = λ x parts b. tt }
keeps part.Star = record { enters = λ parts b. b; kept = λ x parts b. tt }
keeps part.NextPredicateParameter = record { enters = λ parts b. b; kept = λ x parts b. tt }
keeps part.NextLogicParameter = record { enters = λ parts b. b; kept = λ x parts b. tt }
keeps part.NextParameter = record { enters = λ parts b. b; kept = λ x parts b. tt }
keeps part.Local = record { enters = λ parts b. b; kept = λ x parts b. tt }
keeps part.Statement = record { enters = λ parts b. b; kept = λ x parts b. (b.0, tt) }
keeps part.NextResult = record { enters = λ parts b. b; kept = λ x parts b. tt }
keeps part.NextArgument = record { enters = λ parts b. b; kept = λ x parts b. tt }
keeps part.NextConjunction = record { enters = λ parts b. b; kept = λ x parts b. tt }
keeps part.NextLiteral = record { enters = λ parts b. b; kept = λ x parts b. tt }
keeps part.PathStep = record { enters = λ parts b. b; kept = λ x parts b. tt }
keeps part.NextImplication = record { enters = λ parts b. b; kept = λ x parts b. (b.0, tt) }
keeps part.NextAndChain = record { enters = λ parts b. b; kept = λ x parts b. (b.0, tt) }
keeps part.NextNegation = record { enters = λ parts b. b; kept = λ x parts b. (b.0, tt) }
keeps part.NextBound = record { enters = λ parts b. b; kept = λ x parts b. tt }
keeps part.NextUsedPath = record { enters = λ parts b. b; kept = λ x parts b. tt }
keeps part.PathAloneStep = record { enters = λ parts b. b; kept = λ x parts b. tt }
keeps _ = record { enters = λ parts b. absurd b; kept = λ x parts b. absurd b }

-- ---- programs

put_last : (declarations : List Declaration) (x : Declaration) →
    put_declaration x (record nothing { declarations = declarations }) ≡ record nothing { declarations = declarations ++ x ∷ [] }
put_last declarations (declaration.«Type» x) = refl
put_last declarations (declaration.Predicate x) = refl
put_last declarations (declaration.Procedure x) = refl

-- the tokens up to these are the words of the declarations so far, and nothing else is made of them
record SoFar (start tokens : List Token) (parts : Parts) : Type 0 where
  words : (after : List Word) → AreWords tokens after → AreWords start (each declaration_words parts.declarations after)
  alone : parts ≡ record nothing { declarations = parts.declarations }

-- what holds of a program that is read
pub record IsWellMade (tokens : List Token) (steps : List (Step Act)) (tree : Program) : Type 0 where
  pub operands : EachHasOperands (map event_of steps) None tokens nothing
  pub words : AreWords tokens (program_words tree)
  pub alone : run (map event_of steps) None tokens nothing ≡ only tree

pub well_made : (tokens : List Token) (steps : List (Step Act)) (tree : Program) → IsProgram tokens steps tree → IsWellMade tokens steps tree
unfolding program_grammar program_words
well_made tokens steps tree program =
    let h = held sound keeps (SoFar tokens) program.reading tokens refl None nothing (
      ((refl, refl), (refl, refl), ((refl, refl, refl, refl, refl), refl, refl, refl, refl, refl)),
      λ xs behind others made.
          subst (λ (p : Parts). SoFar tokens others p)
          (sym (grown part.Declaration (λ l. record nothing { declarations = l }) put_last xs []))
          (record { words = (all_words part.Declaration declaration_words (λ x s t is. is) made).along; alone = refl }),
    ) in
    record {
      operands = h.0;
      words = subst (λ (p : Program). AreWords tokens (program_words p)) (sym program.made) (h.1.words [] no_words);
      alone = subst (λ (p : Program). run (map event_of steps) None tokens nothing ≡ only p) (sym program.made) h.1.alone;
    }
