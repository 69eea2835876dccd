-- The LL(1) table of the grammar of WS2S text. ll1_reader's `is_ll1` says what is meant by each of these, and is
-- tried on each part.
use Rattle.std.specs.Prelude.{ℕ, List, [], ◌∷◌}
use Rattle.ll1_reader.specs.Predicting.{Table}
use Rattle.pale_text.specs.declared.token.Mark.TheVariants as mark
use Rattle.pale_text.specs.Marks.{mark_number}
use Rattle.ws2s_parse.specs.declared.grammar.kind.SourceKind.{SourceKind}
use Rattle.ws2s_parse.specs.declared.grammar.kind.SourceKind.TheVariants as kind
use Rattle.ws2s_parse.specs.declared.grammar.part.SourcePart.{SourcePart}
use Rattle.ws2s_parse.specs.declared.grammar.part.SourcePart.TheVariants as part
use Rattle.ws2s_parse.specs.declared.tables.production.SourceProduction.{SourceProduction}
use Rattle.ws2s_parse.specs.declared.tables.production.SourceProduction.TheVariants as row

-- a number for each kind: those of the marks come first
unfoldable pub number_of : SourceKind → ℕ
number_of kind.Name = 30
number_of kind.Number = 31
number_of kind.Zero = 32
number_of kind.One = 33
number_of kind.Ws2s = 34
number_of kind.Var1 = 35
number_of kind.Var2 = 36
number_of kind.Pred = 37
number_of kind.Ex1 = 38
number_of kind.All1 = 39
number_of kind.Ex2 = 40
number_of kind.All2 = 41
number_of kind.In = 42
number_of kind.NotIn = 43
number_of kind.Sub = 44
number_of kind.Empty = 45
number_of kind.Root = 46
number_of kind.True = 47
number_of kind.False = 48
number_of (kind.Mark sign) = mark_number sign

-- a number for each part
unfoldable pub label_of : SourcePart → ℕ
label_of part.Item = 0
label_of part.Variables = 1
label_of part.NextVariable = 2
label_of part.Parameters = 3
label_of part.NextParameter = 4
label_of part.Parameter = 5
label_of part.Formula = 6
label_of part.NextImplication = 7
label_of part.Implication = 8
label_of part.Implied = 9
label_of part.OrChain = 10
label_of part.NextAndChain = 11
label_of part.AndChain = 12
label_of part.NextNegation = 13
label_of part.Negation = 14
label_of part.Bound = 15
label_of part.NextBound = 16
label_of part.Primary = 17
label_of part.NameRest = 18
label_of part.Arguments = 19
label_of part.NextArgument = 20
label_of part.Term = 21
label_of part.Successor = 22
label_of part.Child = 23
label_of part.Relation = 24

-- the FIRST set of each row
unfoldable pub first_set : SourceProduction → List SourceKind
first_set row.PositionsDeclared = kind.Var1 ∷ []
first_set row.SetsDeclared = kind.Var2 ∷ []
first_set row.PredicateDeclared = kind.Pred ∷ []
first_set row.FormulaStated = kind.Mark mark.Tilde ∷ kind.Ex1 ∷ kind.All1 ∷ kind.Ex2 ∷ kind.All2 ∷ kind.Mark mark.LeftParen ∷
    kind.True ∷ kind.False ∷ kind.Empty ∷ kind.Root ∷ kind.Name ∷ []
first_set row.VariablesInOrder = kind.Name ∷ []
first_set row.VariableAfterComma = kind.Mark mark.Comma ∷ []
first_set row.ParametersInOrder = kind.Var1 ∷ kind.Var2 ∷ []
first_set row.ParameterAfterComma = kind.Mark mark.Comma ∷ []
first_set row.PositionParameterDeclared = kind.Var1 ∷ []
first_set row.SetParameterDeclared = kind.Var2 ∷ []
first_set row.IffOfImplications = kind.Mark mark.Tilde ∷ kind.Ex1 ∷ kind.All1 ∷ kind.Ex2 ∷ kind.All2 ∷ kind.Mark mark.LeftParen ∷
    kind.True ∷ kind.False ∷ kind.Empty ∷ kind.Root ∷ kind.Name ∷ []
first_set row.ImplicationAfterIff = kind.Mark mark.Equivalent ∷ []
first_set row.ImplicationOfChain = kind.Mark mark.Tilde ∷ kind.Ex1 ∷ kind.All1 ∷ kind.Ex2 ∷ kind.All2 ∷ kind.Mark mark.LeftParen ∷
    kind.True ∷ kind.False ∷ kind.Empty ∷ kind.Root ∷ kind.Name ∷ []
first_set row.ImplicationAfterArrow = kind.Mark mark.Implies ∷ []
first_set row.OrOfAndChains = kind.Mark mark.Tilde ∷ kind.Ex1 ∷ kind.All1 ∷ kind.Ex2 ∷ kind.All2 ∷ kind.Mark mark.LeftParen ∷
    kind.True ∷ kind.False ∷ kind.Empty ∷ kind.Root ∷ kind.Name ∷ []
first_set row.AndChainAfterBar = kind.Mark mark.Bar ∷ []
first_set row.AndOfNegations = kind.Mark mark.Tilde ∷ kind.Ex1 ∷ kind.All1 ∷ kind.Ex2 ∷ kind.All2 ∷ kind.Mark mark.LeftParen ∷
    kind.True ∷ kind.False ∷ kind.Empty ∷ kind.Root ∷ kind.Name ∷ []
first_set row.NegationAfterAmpersand = kind.Mark mark.Ampersand ∷ []
first_set row.NotFormula = kind.Mark mark.Tilde ∷ []
first_set row.Ex1Bound = kind.Ex1 ∷ []
first_set row.All1Bound = kind.All1 ∷ []
first_set row.Ex2Bound = kind.Ex2 ∷ []
first_set row.All2Bound = kind.All2 ∷ []
first_set row.PrimaryAlone = kind.Mark mark.LeftParen ∷ kind.True ∷ kind.False ∷ kind.Empty ∷ kind.Root ∷ kind.Name ∷ []
first_set row.BoundWithBody = kind.Name ∷ []
first_set row.BoundAfterComma = kind.Mark mark.Comma ∷ []
first_set row.FormulaGroup = kind.Mark mark.LeftParen ∷ []
first_set row.TruePrimary = kind.True ∷ []
first_set row.FalsePrimary = kind.False ∷ []
first_set row.EmptyPrimary = kind.Empty ∷ []
first_set row.RootPrimary = kind.Root ∷ []
first_set row.NamePrimary = kind.Name ∷ []
first_set row.UseOfName = kind.Mark mark.LeftParen ∷ []
first_set row.TermOfName = kind.Mark mark.Dot ∷ kind.Mark mark.Equals ∷ kind.Mark mark.NotEqual ∷ kind.In ∷ kind.NotIn ∷ kind.Sub ∷ []
first_set row.ArgumentsInOrder = kind.Root ∷ kind.Name ∷ []
first_set row.ArgumentAfterComma = kind.Mark mark.Comma ∷ []
first_set row.RootTerm = kind.Root ∷ []
first_set row.NameTerm = kind.Name ∷ []
first_set row.SuccessorAfterDot = kind.Mark mark.Dot ∷ []
first_set row.ZeroChild = kind.Zero ∷ []
first_set row.OneChild = kind.One ∷ []
first_set row.SameTerm = kind.Mark mark.Equals ∷ []
first_set row.DifferentTerm = kind.Mark mark.NotEqual ∷ []
first_set row.MemberOfSet = kind.In ∷ []
first_set row.NoMemberOfSet = kind.NotIn ∷ []
first_set row.WithinSet = kind.Sub ∷ []

-- With which tokens, and which part there, a part could go on where it may end. First those of
-- a term
abbrev pub term_tail : List (SourceKind × SourcePart)
term_tail = (kind.Mark mark.Dot, part.Successor) ∷ []

-- a formula: the body of a quantifier ends where the formula does
abbrev pub formula_tail : List (SourceKind × SourcePart)
formula_tail = (kind.Mark mark.Equivalent, part.NextImplication) ∷ (kind.Mark mark.Implies, part.Implied) ∷
    (kind.Mark mark.Bar, part.NextAndChain) ∷ (kind.Mark mark.Ampersand, part.NextNegation) ∷ term_tail

-- then of each part
unfoldable pub tails_of : SourcePart → List (SourceKind × SourcePart)
tails_of part.Item = []
tails_of part.Variables = (kind.Mark mark.Comma, part.NextVariable) ∷ []
tails_of part.NextVariable = []
tails_of part.Parameters = (kind.Mark mark.Comma, part.NextParameter) ∷ []
tails_of part.NextParameter = []
tails_of part.Parameter = []
tails_of part.Formula = formula_tail
tails_of part.NextImplication = formula_tail
tails_of part.Implication = formula_tail
tails_of part.Implied = formula_tail
tails_of part.OrChain = formula_tail
tails_of part.NextAndChain = formula_tail
tails_of part.AndChain = formula_tail
tails_of part.NextNegation = formula_tail
tails_of part.Negation = formula_tail
tails_of part.Bound = formula_tail
tails_of part.NextBound = []
tails_of part.Primary = term_tail
tails_of part.NameRest = term_tail
tails_of part.Arguments = (kind.Mark mark.Comma, part.NextArgument) ∷ term_tail
tails_of part.NextArgument = term_tail
tails_of part.Term = term_tail
tails_of part.Successor = []
tails_of part.Child = []
tails_of part.Relation = term_tail

-- of a whole text
abbrev pub text_tail : List (SourceKind × SourcePart)
text_tail = (kind.Var1, part.Item) ∷ (kind.Var2, part.Item) ∷ (kind.Pred, part.Item) ∷ (kind.Mark mark.Tilde, part.Item) ∷
    (kind.Ex1, part.Item) ∷ (kind.All1, part.Item) ∷ (kind.Ex2, part.Item) ∷ (kind.All2, part.Item) ∷
    (kind.Mark mark.LeftParen, part.Item) ∷ (kind.True, part.Item) ∷ (kind.False, part.Item) ∷ (kind.Empty, part.Item) ∷
    (kind.Root, part.Item) ∷ (kind.Name, part.Item) ∷ []

-- how many moves may lie before the first token
unfoldable pub cost_of : SourcePart → ℕ
cost_of part.Item = 6
cost_of part.Variables = 0
cost_of part.NextVariable = 0
cost_of part.Parameters = 1
cost_of part.NextParameter = 0
cost_of part.Parameter = 0
cost_of part.Formula = 5
cost_of part.NextImplication = 0
cost_of part.Implication = 4
cost_of part.Implied = 0
cost_of part.OrChain = 3
cost_of part.NextAndChain = 0
cost_of part.AndChain = 2
cost_of part.NextNegation = 0
cost_of part.Negation = 1
cost_of part.Bound = 0
cost_of part.NextBound = 0
cost_of part.Primary = 0
cost_of part.NameRest = 3
cost_of part.Arguments = 1
cost_of part.NextArgument = 0
cost_of part.Term = 0
cost_of part.Successor = 0
cost_of part.Child = 0
cost_of part.Relation = 0

-- the place of a row that comes to an end soonest
unfoldable pub sample_of : SourcePart → ℕ
sample_of part.Item = 0
sample_of part.Variables = 0
sample_of part.NextVariable = 0
sample_of part.Parameters = 0
sample_of part.NextParameter = 0
sample_of part.Parameter = 0
sample_of part.Formula = 0
sample_of part.NextImplication = 0
sample_of part.Implication = 0
sample_of part.Implied = 0
sample_of part.OrChain = 0
sample_of part.NextAndChain = 0
sample_of part.AndChain = 0
sample_of part.NextNegation = 0
sample_of part.Negation = 5
sample_of part.Bound = 0
sample_of part.NextBound = 0
sample_of part.Primary = 1
sample_of part.NameRest = 0
sample_of part.Arguments = 0
sample_of part.NextArgument = 0
sample_of part.Term = 0
sample_of part.Successor = 0
sample_of part.Child = 0
sample_of part.Relation = 2

-- the kind of the token with which that row begins
unfoldable pub begin_of : SourcePart → SourceKind
begin_of part.Item = kind.Var1
begin_of part.Variables = kind.Name
begin_of part.NextVariable = kind.Mark mark.Comma
begin_of part.Parameters = kind.Var1
begin_of part.NextParameter = kind.Mark mark.Comma
begin_of part.Parameter = kind.Var1
begin_of part.Formula = kind.True
begin_of part.NextImplication = kind.Mark mark.Equivalent
begin_of part.Implication = kind.True
begin_of part.Implied = kind.Mark mark.Implies
begin_of part.OrChain = kind.True
begin_of part.NextAndChain = kind.Mark mark.Bar
begin_of part.AndChain = kind.True
begin_of part.NextNegation = kind.Mark mark.Ampersand
begin_of part.Negation = kind.True
begin_of part.Bound = kind.Name
begin_of part.NextBound = kind.Mark mark.Comma
begin_of part.Primary = kind.True
begin_of part.NameRest = kind.Mark mark.LeftParen
begin_of part.Arguments = kind.Root
begin_of part.NextArgument = kind.Mark mark.Comma
begin_of part.Term = kind.Root
begin_of part.Successor = kind.Mark mark.Dot
begin_of part.Child = kind.Zero
begin_of part.Relation = kind.In

-- more than the sizes of the parts of that row together
unfoldable pub size_of : SourcePart → ℕ
size_of part.Item = 2
size_of part.Variables = 1
size_of part.NextVariable = 1
size_of part.Parameters = 2
size_of part.NextParameter = 2
size_of part.Parameter = 1
size_of part.Formula = 6
size_of part.NextImplication = 6
size_of part.Implication = 5
size_of part.Implied = 6
size_of part.OrChain = 4
size_of part.NextAndChain = 4
size_of part.AndChain = 3
size_of part.NextNegation = 3
size_of part.Negation = 2
size_of part.Bound = 7
size_of part.NextBound = 1
size_of part.Primary = 1
size_of part.NameRest = 1
size_of part.Arguments = 2
size_of part.NextArgument = 2
size_of part.Term = 1
size_of part.Successor = 2
size_of part.Child = 1
size_of part.Relation = 1

unfoldable pub source_table : Table SourcePart SourceProduction SourceKind
source_table = record {
  number = number_of;
  label = label_of;
  first = first_set;
  tails = tails_of;
  text_tail = text_tail;
  cost = cost_of;
  sample = sample_of;
  begin = begin_of;
  size = size_of;
}
