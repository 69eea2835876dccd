-- The program that a reading makes is canonical, and spelled in no more tokens than it was read from.
use Rattle.std.proofs.Common.{◌≡◌, ◌+◌, ◌-◌, ◌≤◌, length, arith, ◌⊎◌, inl, inr, ℕ, List, [], ◌∷◌, ◌++◌, None, refl, sym, subst}
use Rattle.ll1_reader.specs.Answers.{levels, AreLow}
use Rattle.ll1_reader.specs.Readings.{Step}
use Rattle.pale_syntax.specs.declared.grammar.act.Act.{Act}
use Rattle.pale_syntax.specs.declared.grammar.part.ProgramPart.{ProgramPart}
use Rattle.pale_syntax.specs.declared.grammar.part.ProgramPart.TheVariants as part
use Rattle.pale_text.specs.declared.token.Token.{Token}
use Rattle.pale_text.specs.declared.token.TokenKind.{TokenKind}
use Rattle.pale_text.specs.declared.token.TokenKind.TheVariants as token
use Rattle.pale_text.specs.declared.token.TokenList.{TokenList}
use Rattle.pale_syntax.specs.declared.tree.declaration.Declaration.TheVariants as declaration
use Rattle.pale_syntax.specs.declared.tree.declaration.Program.{Program}
use Rattle.pale_text.specs.Lexing.{Reaches, at_start, past_gap, past_comment, past_token, IsLexed}
use Rattle.pale_syntax.specs.MakingParts.{Parts, nothing}
use Rattle.pale_syntax.specs.ProgramGrammar.{program_grammar}
use Rattle.pale_syntax.specs.ProgramReading.{IsProgram}
use Rattle.pale_text.specs.Spelling.{IsName, Spells}
use Rattle.pale_print_laws.specs.CanonicalDeclarations.{All, IsCanonicalDeclaration, IsCanonical}
use Rattle.pale_print.specs.DeclarationTokens.{program_tokens}
use Rattle.pale_print_laws.proofs.ListSizes.{each_size, each_last}
use Rattle.pale_print_laws.proofs.DeclarationSizes.{declaration_size, program_length}
use Rattle.pale_print_laws.proofs.FromRows.{IsNamed, AreNamed, Several, no_more, one_more, puts, IsSoundAt, IsKeptAt, held}
use Rattle.pale_print_laws.proofs.FromMade.{TypeMade, PredicateMade, ProcedureMade}
use Rattle.pale_print_laws.proofs.FromMeaning.{program_meaning, put_declaration, BeforeDeclaration}
use Rattle.pale_print_laws.proofs.FromParts.{sound_at}
use Rattle.pale_print_laws.proofs.FromNames.{path_sound, path_step_sound, term_sound}
use Rattle.pale_print_laws.proofs.FromRoutes.{route_sound, next_alternative_sound, sequence_sound, next_repeated_sound}
use Rattle.pale_print_laws.proofs.FromRoutes.{repeated_sound, star_sound, step_sound, up_name_sound, variant_test_sound}
use Rattle.pale_print_laws.proofs.FromConditions.{condition_sound, next_conjunction_sound, conjunction_sound, next_literal_sound}
use Rattle.pale_print_laws.proofs.FromConditions.{literal_sound, literal_relation_sound}
use Rattle.pale_print_laws.proofs.FromAtoms.{relation_sound, name_relation_sound, used_paths_sound, next_used_path_sound}
use Rattle.pale_print_laws.proofs.FromAtoms.{path_alone_step_sound, name_rest_sound, primary_sound}
use Rattle.pale_print_laws.proofs.FromAssertions.{and_chain_sound, next_negation_sound, or_chain_sound, next_and_chain_sound}
use Rattle.pale_print_laws.proofs.FromAssertions.{iff_sound, next_implication_sound, implication_sound, implied_sound}
use Rattle.pale_print_laws.proofs.FromAssertions.{negation_sound}
use Rattle.pale_print_laws.proofs.FromQuantifiers.{set_word_sound, next_bound_sound, quantified_sound}
use Rattle.pale_print_laws.proofs.FromQuantifiers.{bracketed_sound}
use Rattle.pale_print_laws.proofs.FromCalls.{argument_sound, next_argument_sound, argued_sound, logic_arguments_sound}
use Rattle.pale_print_laws.proofs.FromCalls.{keep_sound, arguments_sound, next_result_sound, call_rest_sound, value_sound}
use Rattle.pale_print_laws.proofs.FromCalls.{new_variant_sound}
use Rattle.pale_print_laws.proofs.FromStatements.{block_sound, else_sound, statement_sound}
use Rattle.pale_print_laws.proofs.FromTypes.{all_and, field_sound, variant_sound, type_sound, predicate_parameter_sound}
use Rattle.pale_print_laws.proofs.FromTypes.{next_predicate_parameter_sound, predicate_parameters_sound, predicate_sound}
use Rattle.pale_print_laws.proofs.FromVariables.{parameter_sound, next_parameter_sound, parameters_sound, local_sound}
use Rattle.pale_print_laws.proofs.FromVariables.{returns_sound, logic_parameter_sound, next_logic_parameter_sound, logic_sound}
use Rattle.pale_print_laws.proofs.FromProcedures.{pre_sound, post_sound, procedure_sound, declaration_sound}

-- ---- each part makes what it means

sound : (n : ProgramPart) → IsSoundAt program_meaning n
sound part.Declaration = sound_at declaration_sound
sound part.«Type» = sound_at type_sound
sound part.Variant = sound_at variant_sound
sound part.Field = sound_at field_sound
sound part.Route = sound_at route_sound
sound part.NextAlternative = sound_at next_alternative_sound
sound part.Sequence = sound_at sequence_sound
sound part.NextRepeated = sound_at next_repeated_sound
sound part.Repeated = sound_at repeated_sound
sound part.Star = sound_at star_sound
sound part.Step = sound_at step_sound
sound part.UpName = sound_at up_name_sound
sound part.VariantTest = sound_at variant_test_sound
sound part.Predicate = sound_at predicate_sound
sound part.PredicateParameters = sound_at predicate_parameters_sound
sound part.NextPredicateParameter = sound_at next_predicate_parameter_sound
sound part.PredicateParameter = sound_at predicate_parameter_sound
sound part.Bracketed = sound_at bracketed_sound
sound part.Procedure = sound_at procedure_sound
sound part.Returns = sound_at returns_sound
sound part.Logic = sound_at logic_sound
sound part.NextLogicParameter = sound_at next_logic_parameter_sound
sound part.LogicParameter = sound_at logic_parameter_sound
sound part.Pre = sound_at pre_sound
sound part.Post = sound_at post_sound
sound part.Parameters = sound_at parameters_sound
sound part.NextParameter = sound_at next_parameter_sound
sound part.Parameter = sound_at parameter_sound
sound part.Local = sound_at local_sound
sound part.Block = sound_at block_sound
sound part.Statement = sound_at statement_sound
sound part.Else = sound_at else_sound
sound part.CallRest = sound_at call_rest_sound
sound part.NextResult = sound_at next_result_sound
sound part.Arguments = sound_at arguments_sound
sound part.Argued = sound_at argued_sound
sound part.NextArgument = sound_at next_argument_sound
sound part.LogicArguments = sound_at logic_arguments_sound
sound part.Argument = sound_at argument_sound
sound part.Keep = sound_at keep_sound
sound part.Value = sound_at value_sound
sound part.NewVariant = sound_at new_variant_sound
sound part.Condition = sound_at condition_sound
sound part.NextConjunction = sound_at next_conjunction_sound
sound part.Conjunction = sound_at conjunction_sound
sound part.NextLiteral = sound_at next_literal_sound
sound part.Literal = sound_at literal_sound
sound part.LiteralRelation = sound_at literal_relation_sound
sound part.Term = sound_at term_sound
sound part.Path = sound_at path_sound
sound part.PathStep = sound_at path_step_sound
sound part.Iff = sound_at iff_sound
sound part.NextImplication = sound_at next_implication_sound
sound part.Implication = sound_at implication_sound
sound part.Implied = sound_at implied_sound
sound part.OrChain = sound_at or_chain_sound
sound part.NextAndChain = sound_at next_and_chain_sound
sound part.AndChain = sound_at and_chain_sound
sound part.NextNegation = sound_at next_negation_sound
sound part.Negation = sound_at negation_sound
sound part.Quantified = sound_at quantified_sound
sound part.SetWord = sound_at set_word_sound
sound part.NextBound = sound_at next_bound_sound
sound part.Primary = sound_at primary_sound
sound part.NameRest = sound_at name_rest_sound
sound part.UsedPaths = sound_at used_paths_sound
sound part.NextUsedPath = sound_at next_used_path_sound
sound part.PathAloneStep = sound_at path_alone_step_sound
sound part.NameRelation = sound_at name_relation_sound
sound part.Relation = sound_at relation_sound

declaration_kept : (room : ℕ) {start end : List Token}
    (made : TypeMade room start end ⊎ (PredicateMade room start end ⊎ ProcedureMade room start end)) (parts : Parts) →
    BeforeDeclaration room parts →
    BeforeDeclaration room (put_declaration made parts)
declaration_kept room (inl made) parts before = ((refl, refl), before.1, before.2)
declaration_kept room (inr (inl made)) parts before = (before.0, (before.1.0, refl), before.2)
declaration_kept room (inr (inr made)) parts before = (before.0, before.1, (before.2.0, refl, refl, refl, refl, refl))

keeps : (n : ProgramPart) → IsKeptAt program_meaning n
keeps part.Declaration = record { enters = λ room parts b. b; kept = λ room start end made parts b. declaration_kept room made parts b }
keeps part.Variant = record { enters = λ room parts b. b; kept = λ room start end made parts b. refl }
keeps part.Statement = record { enters = λ room parts b. b; kept = λ room start end made parts b. b }
keeps part.NextImplication = record { enters = λ room parts b. b; kept = λ room start end made parts b. b }
keeps part.NextAndChain = record { enters = λ room parts b. b; kept = λ room start end made parts b. b }
keeps part.NextNegation = record { enters = λ room parts b. b; kept = λ room start end made parts b. b }
keeps part.Field = record { enters = λ room parts b. tt; kept = λ room start end made parts b. tt }
keeps part.NextAlternative = record { enters = λ room parts b. tt; kept = λ room start end made parts b. tt }
keeps part.NextRepeated = record { enters = λ room parts b. tt; kept = λ room start end made parts b. tt }
keeps part.Star = record { enters = λ room parts b. tt; kept = λ room start end made parts b. tt }
keeps part.NextPredicateParameter = record { enters = λ room parts b. tt; kept = λ room start end made parts b. tt }
keeps part.NextLogicParameter = record { enters = λ room parts b. tt; kept = λ room start end made parts b. tt }
keeps part.NextParameter = record { enters = λ room parts b. tt; kept = λ room start end made parts b. tt }
keeps part.Local = record { enters = λ room parts b. tt; kept = λ room start end made parts b. tt }
keeps part.NextResult = record { enters = λ room parts b. tt; kept = λ room start end made parts b. tt }
keeps part.NextArgument = record { enters = λ room parts b. tt; kept = λ room start end made parts b. tt }
keeps part.NextConjunction = record { enters = λ room parts b. tt; kept = λ room start end made parts b. tt }
keeps part.NextLiteral = record { enters = λ room parts b. tt; kept = λ room start end made parts b. tt }
keeps part.PathStep = record { enters = λ room parts b. tt; kept = λ room start end made parts b. tt }
keeps part.NextBound = record { enters = λ room parts b. tt; kept = λ room start end made parts b. tt }
keeps part.NextUsedPath = record { enters = λ room parts b. tt; kept = λ room start end made parts b. tt }
keeps part.PathAloneStep = record { enters = λ room parts b. tt; kept = λ room start end made parts b. tt }
keeps _ = record { enters = λ room parts b. absurd b; kept = λ room start end made parts b. absurd b }

-- ---- a text's names are names

named : (k : TokenKind) (piece : List ℕ) → Spells k piece → IsNamed k
named (token.Name bytes) piece spells = subst (λ b. IsName b) (sym spells.0) spells.1
named (token.Number digits) piece spells = tt
named (token.Mark mark) piece spells = tt

one_more_named : (tokens : List Token) (one : Token) → AreNamed tokens → IsNamed one.kind → AreNamed (tokens ++ one ∷ [])
one_more_named [] one all is = (is, tt)
one_more_named (first ∷ tokens) one all is = (all.0, one_more_named tokens one all.1 is)

all_named : {text left : List ℕ} {tokens : List Token} {place : _} → Reaches text tokens place left → AreNamed tokens
all_named at_start = tt
all_named (past_gap tokens place byte left r is) = all_named r
all_named (past_comment tokens place comment left r is ends) = all_named r
all_named (past_token tokens place kind piece left r longest) = one_more_named tokens _ (all_named r) (named kind piece longest.spells)

-- ---- programs

declarations_made : (room : ℕ) (start end : List Token) (several : Several program_meaning part.Declaration room start end) (parts : Parts) →
    All (IsCanonicalDeclaration room) parts.declarations →
    All (IsCanonicalDeclaration room) (puts program_meaning part.Declaration room start end several parts).declarations
declarations_made room start end (no_more _ stops) parts all = all
declarations_made room start end (one_more _ middle _ (inl one) others) parts all =
    declarations_made room middle end others (put_declaration {room = room} {start = start} {end = middle} (inl one) parts)
    (all_and (IsCanonicalDeclaration room) parts.declarations (declaration.«Type» one.type) all one.canonical)
declarations_made room start end (one_more _ middle _ (inr (inl one)) others) parts all =
    declarations_made room middle end others (put_declaration {room = room} {start = start} {end = middle} (inr (inl one)) parts)
    (all_and (IsCanonicalDeclaration room) parts.declarations (declaration.Predicate one.predicate) all one.canonical)
declarations_made room start end (one_more _ middle _ (inr (inr one)) others) parts all =
    declarations_made room middle end others (put_declaration {room = room} {start = start} {end = middle} (inr (inr one)) parts)
    (all_and (IsCanonicalDeclaration room) parts.declarations (declaration.Procedure one.procedure) all one.canonical)

-- a program that is read, and opens no level above the limit, is canonical, and so does its spelling
pub canonical_from : (limit : ℕ) (text : List ℕ) (list : TokenList) (steps : List (Step Act)) (tree : Program) →
    IsLexed text list → IsProgram list.tokens steps tree →
    AreLow limit (levels steps) → IsCanonical limit tree
unfolding program_grammar
canonical_from limit text list steps tree lexed program low =
    let g = held program_meaning sound keeps limit program.reading list.tokens refl (all_named lexed) low None nothing
    ((refl, refl), (refl, refl), ((refl, refl, refl, refl, refl), refl, refl, refl, refl, refl)) in
    let same : limit - 0 ≡ limit = omega arith in
    subst (λ (room : ℕ). IsCanonical room tree) same
    (subst (λ (p : Program). IsCanonical (limit - 0) p) (sym program.made)
    (subst (λ (p : Parts). All (IsCanonicalDeclaration (limit - 0)) p.declarations) g.3 (declarations_made (limit - 0) list.tokens g.1 g.2 nothing tt)))

-- ---- the spelling is the shortest text of its tree

declarations_short : (room : ℕ) (start end : List Token) (several : Several program_meaning part.Declaration room start end)
    (parts : Parts) (first : List Token) →
    each_size declaration_size parts.declarations + length start ≤ length first →
    each_size declaration_size (puts program_meaning part.Declaration room start end several parts).declarations + length end ≤ length first
declarations_short room start end (no_more _ stops) parts first short = short
declarations_short room start end (one_more _ middle _ (inl one) others) parts first short =
    declarations_short room middle end others (put_declaration {room = room} {start = start} {end = middle} (inl one) parts) first
    (omega (arith, one.short, each_last declaration_size parts.declarations (declaration.«Type» one.type)))
declarations_short room start end (one_more _ middle _ (inr (inl one)) others) parts first short =
    declarations_short room middle end others (put_declaration {room = room} {start = start} {end = middle} (inr (inl one)) parts) first
    (omega (arith, one.short, each_last declaration_size parts.declarations (declaration.Predicate one.predicate)))
declarations_short room start end (one_more _ middle _ (inr (inr one)) others) parts first short =
    declarations_short room middle end others (put_declaration {room = room} {start = start} {end = middle} (inr (inr one)) parts) first
    (omega (arith, one.short, each_last declaration_size parts.declarations (declaration.Procedure one.procedure)))

at_most : (p : Program) (n : ℕ) → each_size declaration_size p.declarations ≤ n → length (program_tokens p) ≤ n
at_most p n h = omega (arith, program_length p)

lower : (n m : ℕ) → n ≤ m → (depths : List ℕ) → AreLow n depths → AreLow m depths
lower n m h [] low = tt
lower n m h (depth ∷ depths) low = (omega (arith, low.0), lower n m h depths low.1)

-- a limit that these are not above
limit_of : (depths : List ℕ) → (limit : ℕ) × AreLow limit depths
limit_of [] = (0, tt)
limit_of (depth ∷ depths) =
    let others = limit_of depths in
    (depth + others.0, (omega arith, lower others.0 (depth + others.0) (omega arith) depths others.1))

pub short_from : (text : List ℕ) (list : TokenList) (steps : List (Step Act)) (tree : Program) → IsLexed text list → IsProgram list.tokens steps tree →
    length (program_tokens tree) ≤ length list.tokens
unfolding program_grammar
short_from text list steps tree lexed program =
    let limit = limit_of (levels steps) in
    let g = held program_meaning sound keeps limit.0 program.reading list.tokens refl (all_named lexed) limit.1 None nothing
    ((refl, refl), (refl, refl), ((refl, refl, refl, refl, refl), refl, refl, refl, refl, refl)) in
    let h : each_size declaration_size (puts program_meaning part.Declaration (limit.0 - 0) list.tokens g.1 g.2 nothing).declarations ≤ length list.tokens =
    omega (arith, declarations_short (limit.0 - 0) list.tokens g.1 g.2 nothing list.tokens (omega arith)) in
    at_most tree (length list.tokens)
    (subst (λ (p : Program). each_size declaration_size p.declarations ≤ length list.tokens) (sym program.made)
    (subst (λ (p : Parts). each_size declaration_size p.declarations ≤ length list.tokens) g.3 h))
