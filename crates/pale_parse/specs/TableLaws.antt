-- The tables are the grammar's, and the next token tells how a reading goes on. Each part is tried by computing.
use Rattle.std.specs.Prelude.{◌≡◌, List, [], ◌∷◌, ◌++◌, map, true, Option, Some, None, refl, slice_get}
use Rattle.std.proofs.Common.{ap, sym, ◌∙◌}
use Rattle.ll1_reader.specs.Grammars.{Rows}
use Rattle.ll1_reader.specs.Predicting.{is_ll1, all_end_well, IsLl1, AreNamed}
use Rattle.pale_text.specs.Marks.{all_marks, mark_number}
use Rattle.pale_text.proofs.MarkNumbers.{mark_back}
use Rattle.pale_syntax.specs.declared.grammar.kind.ProgramKind.{ProgramKind}
use Rattle.pale_syntax.specs.declared.grammar.kind.ProgramKind.TheVariants as kind
use Rattle.pale_syntax.specs.declared.grammar.part.ProgramPart.{ProgramPart}
use Rattle.pale_syntax.specs.declared.grammar.part.ProgramPart.TheVariants as part
use Rattle.pale_syntax.specs.ProgramGrammar.{rows_of, program_grammar}
use Rattle.pale_parse.specs.Productions.{productions_of, row_of, program_rules}
use Rattle.pale_parse.specs.ParseTable.{number_of, label_of, first_set, tails_of, cost_of, sample_of, begin_of, size_of, program_table}

-- ---- numbers are one for each kind and part, since they are its place in these lists

words : List ProgramKind
words = kind.Name ∷ kind.Number ∷ kind.Type ∷ kind.Bool ∷ kind.Data ∷ kind.Pointer ∷ kind.Pred ∷ kind.Set ∷ kind.Proc ∷ kind.Returns ∷
    kind.Logic ∷ kind.Pre ∷ kind.Post ∷ kind.Skip ∷ kind.If ∷ kind.Else ∷ kind.While ∷ kind.Split ∷ kind.Assert ∷ kind.Free ∷
    kind.New ∷ kind.Null ∷ kind.True ∷ kind.False ∷ kind.Call ∷ kind.Keep ∷ kind.Ex ∷ kind.All ∷ kind.In ∷ kind.Sub ∷ kind.Root ∷ []

all_kinds : List ProgramKind
all_kinds = map (λ sign. kind.Mark sign) all_marks ++ words

all_parts : List ProgramPart
all_parts = part.Declaration ∷ part.Type ∷ part.Variant ∷ part.Field ∷ part.Route ∷ part.NextAlternative ∷ part.Sequence ∷
    part.NextRepeated ∷ part.Repeated ∷ part.Star ∷ part.Step ∷ part.UpName ∷ part.VariantTest ∷ part.Predicate ∷
    part.PredicateParameters ∷ part.NextPredicateParameter ∷ part.PredicateParameter ∷ part.Bracketed ∷ part.Procedure ∷ part.Returns ∷
    part.Logic ∷ part.NextLogicParameter ∷ part.LogicParameter ∷ part.Pre ∷ part.Post ∷ part.Parameters ∷ part.NextParameter ∷
    part.Parameter ∷ part.Local ∷ part.Block ∷ part.Statement ∷ part.Else ∷ part.CallRest ∷ part.NextResult ∷ part.Arguments ∷
    part.Argued ∷ part.NextArgument ∷ part.LogicArguments ∷ part.Argument ∷ part.Keep ∷ part.Value ∷ part.NewVariant ∷ part.Condition ∷
    part.NextConjunction ∷ part.Conjunction ∷ part.NextLiteral ∷ part.Literal ∷ part.LiteralRelation ∷ part.Term ∷ part.Path ∷
    part.PathStep ∷ part.Iff ∷ part.NextImplication ∷ part.Implication ∷ part.Implied ∷ part.OrChain ∷ part.NextAndChain ∷
    part.AndChain ∷ part.NextNegation ∷ part.Negation ∷ part.Quantified ∷ part.SetWord ∷ part.NextBound ∷ part.Primary ∷ part.NameRest ∷
    part.UsedPaths ∷ part.NextUsedPath ∷ part.PathAloneStep ∷ part.NameRelation ∷ part.Relation ∷ []

kind_back : (one : ProgramKind) → slice_get all_kinds (number_of one) ≡ Some one
unfolding words all_kinds number_of all_marks
kind_back kind.Name = refl
kind_back kind.Number = refl
kind_back kind.Type = refl
kind_back kind.Bool = refl
kind_back kind.Data = refl
kind_back kind.Pointer = refl
kind_back kind.Pred = refl
kind_back kind.Set = refl
kind_back kind.Proc = refl
kind_back kind.Returns = refl
kind_back kind.Logic = refl
kind_back kind.Pre = refl
kind_back kind.Post = refl
kind_back kind.Skip = refl
kind_back kind.If = refl
kind_back kind.Else = refl
kind_back kind.While = refl
kind_back kind.Split = refl
kind_back kind.Assert = refl
kind_back kind.Free = refl
kind_back kind.New = refl
kind_back kind.Null = refl
kind_back kind.True = refl
kind_back kind.False = refl
kind_back kind.Call = refl
kind_back kind.Keep = refl
kind_back kind.Ex = refl
kind_back kind.All = refl
kind_back kind.In = refl
kind_back kind.Sub = refl
kind_back kind.Root = refl
kind_back (kind.Mark sign) = mark_back (λ sign. kind.Mark sign) words sign

part_back : (one : ProgramPart) → slice_get all_parts (label_of one) ≡ Some one
unfolding all_parts label_of
part_back part.Declaration = refl
part_back part.Type = refl
part_back part.Variant = refl
part_back part.Field = refl
part_back part.Route = refl
part_back part.NextAlternative = refl
part_back part.Sequence = refl
part_back part.NextRepeated = refl
part_back part.Repeated = refl
part_back part.Star = refl
part_back part.Step = refl
part_back part.UpName = refl
part_back part.VariantTest = refl
part_back part.Predicate = refl
part_back part.PredicateParameters = refl
part_back part.NextPredicateParameter = refl
part_back part.PredicateParameter = refl
part_back part.Bracketed = refl
part_back part.Procedure = refl
part_back part.Returns = refl
part_back part.Logic = refl
part_back part.NextLogicParameter = refl
part_back part.LogicParameter = refl
part_back part.Pre = refl
part_back part.Post = refl
part_back part.Parameters = refl
part_back part.NextParameter = refl
part_back part.Parameter = refl
part_back part.Local = refl
part_back part.Block = refl
part_back part.Statement = refl
part_back part.Else = refl
part_back part.CallRest = refl
part_back part.NextResult = refl
part_back part.Arguments = refl
part_back part.Argued = refl
part_back part.NextArgument = refl
part_back part.LogicArguments = refl
part_back part.Argument = refl
part_back part.Keep = refl
part_back part.Value = refl
part_back part.NewVariant = refl
part_back part.Condition = refl
part_back part.NextConjunction = refl
part_back part.Conjunction = refl
part_back part.NextLiteral = refl
part_back part.Literal = refl
part_back part.LiteralRelation = refl
part_back part.Term = refl
part_back part.Path = refl
part_back part.PathStep = refl
part_back part.Iff = refl
part_back part.NextImplication = refl
part_back part.Implication = refl
part_back part.Implied = refl
part_back part.OrChain = refl
part_back part.NextAndChain = refl
part_back part.AndChain = refl
part_back part.NextNegation = refl
part_back part.Negation = refl
part_back part.Quantified = refl
part_back part.SetWord = refl
part_back part.NextBound = refl
part_back part.Primary = refl
part_back part.NameRest = refl
part_back part.UsedPaths = refl
part_back part.NextUsedPath = refl
part_back part.PathAloneStep = refl
part_back part.NameRelation = refl
part_back part.Relation = refl

some_injective : {A : Type 0} (one other : A) → Some one ≡ Some other → one ≡ other
some_injective one other same = ap (λ found. elim found [ None ↦ one | Some value ↦ value ]) same

kinds_differ : (j k : ProgramKind) → number_of j ≡ number_of k → j ≡ k
kinds_differ j k same = some_injective j k (sym (kind_back j) ∙ ap (slice_get all_kinds) same ∙ kind_back k)

labels_differ : (m n : ProgramPart) → label_of m ≡ label_of n → m ≡ n
labels_differ m n same = some_injective m n (sym (part_back m) ∙ ap (slice_get all_parts) same ∙ part_back n)

-- ---- each part

predictable : (n : ProgramPart) → is_ll1 program_rules program_table n ≡ true
unfolding program_rules program_table productions_of row_of rows_of number_of mark_number label_of first_set tails_of cost_of sample_of begin_of size_of
predictable part.Declaration = refl
predictable part.Type = refl
predictable part.Variant = refl
predictable part.Field = refl
predictable part.Route = refl
predictable part.NextAlternative = refl
predictable part.Sequence = refl
predictable part.NextRepeated = refl
predictable part.Repeated = refl
predictable part.Star = refl
predictable part.Step = refl
predictable part.UpName = refl
predictable part.VariantTest = refl
predictable part.Predicate = refl
predictable part.PredicateParameters = refl
predictable part.NextPredicateParameter = refl
predictable part.PredicateParameter = refl
predictable part.Bracketed = refl
predictable part.Procedure = refl
predictable part.Returns = refl
predictable part.Logic = refl
predictable part.NextLogicParameter = refl
predictable part.LogicParameter = refl
predictable part.Pre = refl
predictable part.Post = refl
predictable part.Parameters = refl
predictable part.NextParameter = refl
predictable part.Parameter = refl
predictable part.Local = refl
predictable part.Block = refl
predictable part.Statement = refl
predictable part.Else = refl
predictable part.CallRest = refl
predictable part.NextResult = refl
predictable part.Arguments = refl
predictable part.Argued = refl
predictable part.NextArgument = refl
predictable part.LogicArguments = refl
predictable part.Argument = refl
predictable part.Keep = refl
predictable part.Value = refl
predictable part.NewVariant = refl
predictable part.Condition = refl
predictable part.NextConjunction = refl
predictable part.Conjunction = refl
predictable part.NextLiteral = refl
predictable part.Literal = refl
predictable part.LiteralRelation = refl
predictable part.Term = refl
predictable part.Path = refl
predictable part.PathStep = refl
predictable part.Iff = refl
predictable part.NextImplication = refl
predictable part.Implication = refl
predictable part.Implied = refl
predictable part.OrChain = refl
predictable part.NextAndChain = refl
predictable part.AndChain = refl
predictable part.NextNegation = refl
predictable part.Negation = refl
predictable part.Quantified = refl
predictable part.SetWord = refl
predictable part.NextBound = refl
predictable part.Primary = refl
predictable part.NameRest = refl
predictable part.UsedPaths = refl
predictable part.NextUsedPath = refl
predictable part.PathAloneStep = refl
predictable part.NameRelation = refl
predictable part.Relation = refl

text_ends : all_end_well program_rules program_table (program_table.text_tail) (program_rules.text) ≡ true
unfolding program_rules program_table productions_of row_of rows_of number_of mark_number label_of first_set tails_of
text_ends = refl

pub program_sound : IsLl1 program_rules program_table
unfolding program_rules program_table
program_sound = record { kinds_differ = kinds_differ; labels_differ = labels_differ; predictable = predictable; text = text_ends }

-- ---- the named rows are the grammar's

rows_named : (n : ProgramPart) → map row_of (productions_of n) ≡ rows_of n
unfolding productions_of row_of rows_of
rows_named part.Declaration = refl
rows_named part.Type = refl
rows_named part.Variant = refl
rows_named part.Field = refl
rows_named part.Route = refl
rows_named part.NextAlternative = refl
rows_named part.Sequence = refl
rows_named part.NextRepeated = refl
rows_named part.Repeated = refl
rows_named part.Star = refl
rows_named part.Step = refl
rows_named part.UpName = refl
rows_named part.VariantTest = refl
rows_named part.Predicate = refl
rows_named part.PredicateParameters = refl
rows_named part.NextPredicateParameter = refl
rows_named part.PredicateParameter = refl
rows_named part.Bracketed = refl
rows_named part.Procedure = refl
rows_named part.Returns = refl
rows_named part.Logic = refl
rows_named part.NextLogicParameter = refl
rows_named part.LogicParameter = refl
rows_named part.Pre = refl
rows_named part.Post = refl
rows_named part.Parameters = refl
rows_named part.NextParameter = refl
rows_named part.Parameter = refl
rows_named part.Local = refl
rows_named part.Block = refl
rows_named part.Statement = refl
rows_named part.Else = refl
rows_named part.CallRest = refl
rows_named part.NextResult = refl
rows_named part.Arguments = refl
rows_named part.Argued = refl
rows_named part.NextArgument = refl
rows_named part.LogicArguments = refl
rows_named part.Argument = refl
rows_named part.Keep = refl
rows_named part.Value = refl
rows_named part.NewVariant = refl
rows_named part.Condition = refl
rows_named part.NextConjunction = refl
rows_named part.Conjunction = refl
rows_named part.NextLiteral = refl
rows_named part.Literal = refl
rows_named part.LiteralRelation = refl
rows_named part.Term = refl
rows_named part.Path = refl
rows_named part.PathStep = refl
rows_named part.Iff = refl
rows_named part.NextImplication = refl
rows_named part.Implication = refl
rows_named part.Implied = refl
rows_named part.OrChain = refl
rows_named part.NextAndChain = refl
rows_named part.AndChain = refl
rows_named part.NextNegation = refl
rows_named part.Negation = refl
rows_named part.Quantified = refl
rows_named part.SetWord = refl
rows_named part.NextBound = refl
rows_named part.Primary = refl
rows_named part.NameRest = refl
rows_named part.UsedPaths = refl
rows_named part.NextUsedPath = refl
rows_named part.PathAloneStep = refl
rows_named part.NameRelation = refl
rows_named part.Relation = refl

text_named : program_rules.text ≡ program_grammar.text
unfolding program_rules program_grammar
text_named = refl

pub program_named : AreNamed program_grammar program_rules
unfolding program_rules program_grammar
program_named = record { rows = rows_named; text = text_named }
