-- The tables are the grammar's, and the next token tells how a reading goes on. Each part is tried by computing.
use Rattle.std.specs.Prelude.{◌≡◌, List, [], ◌∷◌, ◌++◌, map, true, Some, None, refl, slice_get}
use Rattle.std.proofs.Common.{ap, sym, ◌∙◌}
use Rattle.ll1_reader.specs.Predicting.{is_ll1, all_end_well, IsLl1, AreNamed}
use Rattle.pale_text.specs.Marks.{all_marks, mark_number}
use Rattle.pale_text.proofs.MarkNumbers.{mark_back}
use Rattle.ws2s_parse.specs.declared.grammar.kind.SourceKind.{SourceKind}
use Rattle.ws2s_parse.specs.declared.grammar.kind.SourceKind.TheVariants as kind
use Rattle.ws2s_parse.specs.declared.grammar.part.SourcePart.{SourcePart}
use Rattle.ws2s_parse.specs.declared.grammar.part.SourcePart.TheVariants as part
use Rattle.ws2s_parse.specs.SourceGrammar.{rows_of, source_grammar}
use Rattle.ws2s_parse.specs.Productions.{productions_of, row_of, source_rules}
use Rattle.ws2s_parse.specs.ParseTable.{number_of, label_of, first_set, tails_of, cost_of, sample_of, begin_of, size_of, source_table}

-- ---- numbers are one for each kind and part, since they are its place in these lists

words : List SourceKind
words = kind.Name ∷ kind.Number ∷ kind.Zero ∷ kind.One ∷ kind.Ws2s ∷ kind.Var1 ∷ kind.Var2 ∷ kind.Pred ∷ kind.Ex1 ∷ kind.All1 ∷
    kind.Ex2 ∷ kind.All2 ∷ kind.In ∷ kind.NotIn ∷ kind.Sub ∷ kind.Empty ∷ kind.Root ∷ kind.True ∷ kind.False ∷ []

all_kinds : List SourceKind
all_kinds = map (λ sign. kind.Mark sign) all_marks ++ words

all_parts : List SourcePart
all_parts = part.Item ∷ part.Variables ∷ part.NextVariable ∷ part.Parameters ∷ part.NextParameter ∷ part.Parameter ∷ part.Formula ∷
    part.NextImplication ∷ part.Implication ∷ part.Implied ∷ part.OrChain ∷ part.NextAndChain ∷ part.AndChain ∷ part.NextNegation ∷
    part.Negation ∷ part.Bound ∷ part.NextBound ∷ part.Primary ∷ part.NameRest ∷ part.Arguments ∷ part.NextArgument ∷ part.Term ∷
    part.Successor ∷ part.Child ∷ part.Relation ∷ []

kind_back : (one : SourceKind) → slice_get all_kinds (number_of one) ≡ Some one
unfolding words all_kinds number_of all_marks
kind_back kind.Name = refl
kind_back kind.Number = refl
kind_back kind.Zero = refl
kind_back kind.One = refl
kind_back kind.Ws2s = refl
kind_back kind.Var1 = refl
kind_back kind.Var2 = refl
kind_back kind.Pred = refl
kind_back kind.Ex1 = refl
kind_back kind.All1 = refl
kind_back kind.Ex2 = refl
kind_back kind.All2 = refl
kind_back kind.In = refl
kind_back kind.NotIn = refl
kind_back kind.Sub = refl
kind_back kind.Empty = refl
kind_back kind.Root = refl
kind_back kind.True = refl
kind_back kind.False = refl
kind_back (kind.Mark sign) = mark_back (λ sign. kind.Mark sign) words sign

part_back : (one : SourcePart) → slice_get all_parts (label_of one) ≡ Some one
unfolding all_parts label_of
part_back part.Item = refl
part_back part.Variables = refl
part_back part.NextVariable = refl
part_back part.Parameters = refl
part_back part.NextParameter = refl
part_back part.Parameter = refl
part_back part.Formula = refl
part_back part.NextImplication = refl
part_back part.Implication = refl
part_back part.Implied = refl
part_back part.OrChain = refl
part_back part.NextAndChain = refl
part_back part.AndChain = refl
part_back part.NextNegation = refl
part_back part.Negation = refl
part_back part.Bound = refl
part_back part.NextBound = refl
part_back part.Primary = refl
part_back part.NameRest = refl
part_back part.Arguments = refl
part_back part.NextArgument = refl
part_back part.Term = refl
part_back part.Successor = refl
part_back part.Child = refl
part_back part.Relation = refl

some_injective : {A : Type 0} (one other : A) → Some one ≡ Some other → one ≡ other
some_injective one other same = ap (λ found. elim found [ None ↦ one | Some value ↦ value ]) same

kinds_differ : (j k : SourceKind) → number_of j ≡ number_of k → j ≡ k
kinds_differ j k same = some_injective j k (sym (kind_back j) ∙ ap (slice_get all_kinds) same ∙ kind_back k)

labels_differ : (m n : SourcePart) → label_of m ≡ label_of n → m ≡ n
labels_differ m n same = some_injective m n (sym (part_back m) ∙ ap (slice_get all_parts) same ∙ part_back n)

-- ---- each part

predictable : (n : SourcePart) → is_ll1 source_rules source_table n ≡ true
unfolding source_rules source_table productions_of row_of rows_of number_of mark_number label_of first_set tails_of cost_of sample_of begin_of size_of
predictable part.Item = refl
predictable part.Variables = refl
predictable part.NextVariable = refl
predictable part.Parameters = refl
predictable part.NextParameter = refl
predictable part.Parameter = refl
predictable part.Formula = refl
predictable part.NextImplication = refl
predictable part.Implication = refl
predictable part.Implied = refl
predictable part.OrChain = refl
predictable part.NextAndChain = refl
predictable part.AndChain = refl
predictable part.NextNegation = refl
predictable part.Negation = refl
predictable part.Bound = refl
predictable part.NextBound = refl
predictable part.Primary = refl
predictable part.NameRest = refl
predictable part.Arguments = refl
predictable part.NextArgument = refl
predictable part.Term = refl
predictable part.Successor = refl
predictable part.Child = refl
predictable part.Relation = refl

text_ends : all_end_well source_rules source_table (source_table.text_tail) (source_rules.text) ≡ true
unfolding source_rules source_table productions_of row_of rows_of number_of mark_number label_of first_set tails_of
text_ends = refl

pub source_sound : IsLl1 source_rules source_table
unfolding source_rules source_table
source_sound = record { kinds_differ = kinds_differ; labels_differ = labels_differ; predictable = predictable; text = text_ends }

-- ---- the named rows are the grammar's

rows_named : (n : SourcePart) → map row_of (productions_of n) ≡ rows_of n
unfolding productions_of row_of rows_of
rows_named part.Item = refl
rows_named part.Variables = refl
rows_named part.NextVariable = refl
rows_named part.Parameters = refl
rows_named part.NextParameter = refl
rows_named part.Parameter = refl
rows_named part.Formula = refl
rows_named part.NextImplication = refl
rows_named part.Implication = refl
rows_named part.Implied = refl
rows_named part.OrChain = refl
rows_named part.NextAndChain = refl
rows_named part.AndChain = refl
rows_named part.NextNegation = refl
rows_named part.Negation = refl
rows_named part.Bound = refl
rows_named part.NextBound = refl
rows_named part.Primary = refl
rows_named part.NameRest = refl
rows_named part.Arguments = refl
rows_named part.NextArgument = refl
rows_named part.Term = refl
rows_named part.Successor = refl
rows_named part.Child = refl
rows_named part.Relation = refl

text_named : source_rules.text ≡ source_grammar.text
unfolding source_rules source_grammar
text_named = refl

pub source_named : AreNamed source_grammar source_rules
unfolding source_rules source_grammar
source_named = record { rows = rows_named; text = text_named }
