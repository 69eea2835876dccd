-- The source tree of a WS2S text by what happens in its reading: what each act makes of the parts made before it.
use Rattle.std.specs.Prelude.{List, [], ◌∷◌, ◌++◌, true, false, Option}
use Rattle.ll1_reader.specs.declared.symbol.Event.{Event}
use Rattle.plain_data.specs.Stacks.{top, rest}
use Rattle.pale_text.specs.Making as text
use Rattle.pale_text.specs.Near.{Near}
use Rattle.pale_text.specs.Places.{nowhere}
use Rattle.pale_text.specs.Tokens.{place_of}
use Rattle.pale_text.specs.declared.token.Token.{Token}
use Rattle.ws2s_syntax.specs.declared.declaration.Class.{Class}
use Rattle.ws2s_syntax.specs.declared.declaration.Class.TheVariants as class
use Rattle.ws2s_syntax.specs.declared.formula.Connective.TheVariants as connective
use Rattle.ws2s_syntax.specs.declared.formula.Quantifier.{Quantifier}
use Rattle.ws2s_syntax.specs.declared.formula.Quantifier.TheVariants as quantifier
use Rattle.ws2s_syntax.specs.declared.name.Successor.{Successor}
use Rattle.ws2s_syntax.specs.declared.name.Successor.TheVariants as successor
use Rattle.ws2s_syntax.specs.declared.source.Source.{Source}
use Rattle.ws2s_syntax.specs.declared.source.SourceBase.{SourceBase}
use Rattle.ws2s_syntax.specs.declared.source.SourceBase.TheVariants as base
use Rattle.ws2s_syntax.specs.declared.source.SourceFormula.{SourceFormula, out-SourceFormula}
use Rattle.ws2s_syntax.specs.declared.source.SourceFormula.TheVariants as formula
use Rattle.ws2s_syntax.specs.declared.source.SourceFormula.TheOpen.{SourceFormula-F}
use Rattle.ws2s_syntax.specs.declared.source.SourceItem.TheVariants as item
use Rattle.ws2s_syntax.specs.declared.source.SourceName.{SourceName}
use Rattle.ws2s_syntax.specs.declared.source.SourceTerm.{SourceTerm}
use Rattle.ws2s_parse.specs.declared.build.binding.Binding.{Binding}
use Rattle.ws2s_parse.specs.declared.grammar.act.SourceAct.{SourceAct}
use Rattle.ws2s_parse.specs.declared.grammar.act.SourceAct.TheVariants as made
use Rattle.ws2s_parse.specs.declared.grammar.act.ItemAct.{ItemAct}
use Rattle.ws2s_parse.specs.declared.grammar.act.ItemAct.TheVariants.{AddVariable, DeclarePositions, DeclareSets, PositionParameter, SetParameter}
use Rattle.ws2s_parse.specs.declared.grammar.act.ItemAct.TheVariants.{AddPredicate, AddFormula}
use Rattle.ws2s_parse.specs.declared.grammar.act.TermAct.{TermAct}
use Rattle.ws2s_parse.specs.declared.grammar.act.TermAct.TheVariants.{PushName, StartRoot, StartName, AddZero, AddOne, AddArgument}
use Rattle.ws2s_parse.specs.declared.grammar.act.AtomAct.{AtomAct}
use Rattle.ws2s_parse.specs.declared.grammar.act.AtomAct.TheVariants.{TrueFormula, FalseFormula, MakeEmpty, MakeUse, MakeSame, MakeDiffer, MakeIn}
use Rattle.ws2s_parse.specs.declared.grammar.act.AtomAct.TheVariants.{MakeNotIn, MakeSub}
use Rattle.ws2s_parse.specs.declared.grammar.act.ConnectiveAct.{ConnectiveAct}
use Rattle.ws2s_parse.specs.declared.grammar.act.ConnectiveAct.TheVariants.{JoinIff, MakeImplies, JoinOr, JoinAnd, MakeNot, BeginEx1, BeginAll1}
use Rattle.ws2s_parse.specs.declared.grammar.act.ConnectiveAct.TheVariants.{BeginEx2, BeginAll2, AddBound, MakeQuantified}
use Rattle.ws2s_parse.specs.MakingParts.{Parts, nothing, nameless, name_of}

-- ---- items

-- the free variables are declared, all of one class
abbrev pub declaring : Class → Parts → Parts
declaring one parts = record parts { items = parts.items ++ item.Variables one parts.variables ∷ []; variables = [] }

abbrev pub with_parameter : Class → SourceName → Parts → Parts
with_parameter one name parts = record parts { parameters = parts.parameters ++ record { class = one; name = name } ∷ [] }

-- stands where no formula is known
abbrev pub formulaless : SourceFormula
formulaless = formula.Truth true

abbrev pub after_item : ItemAct → Option Token → Parts → Parts
after_item AddVariable last parts = record parts { variables = parts.variables ++ name_of last ∷ [] }
after_item DeclarePositions last parts = declaring class.Position parts
after_item DeclareSets last parts = declaring class.Set parts
after_item PositionParameter last parts = with_parameter class.Position (name_of last) parts
after_item SetParameter last parts = with_parameter class.Set (name_of last) parts
after_item AddPredicate last parts =
    record parts {
      items = parts.items ++ item.Predicate (top nameless parts.names) parts.parameters (top formulaless parts.formulas) ∷ [];
      names = rest parts.names;
      formulas = rest parts.formulas;
      parameters = [];
    }
after_item AddFormula last parts =
    record parts { items = parts.items ++ item.Formula (top formulaless parts.formulas) ∷ []; formulas = rest parts.formulas }

-- ---- terms

-- a term that begins there, without successors
abbrev pub term_at : SourceBase → SourceTerm
term_at one = record { base = one; steps = [] }

-- stands where no term is known
abbrev pub termless : SourceTerm
termless = term_at (base.Root nowhere)

abbrev pub stepped : SourceTerm → Successor → SourceTerm
stepped one step = record { base = one.base; steps = one.steps ++ step ∷ [] }

abbrev pub after_term : TermAct → Option Token → Parts → Parts
after_term PushName last parts = record parts { names = name_of last ∷ parts.names }
after_term StartRoot last parts = record parts { terms = term_at (base.Root (place_of last)) ∷ parts.terms }
after_term StartName last parts = record parts { terms = term_at (base.Name (top nameless parts.names)) ∷ parts.terms; names = rest parts.names }
after_term AddZero last parts = record parts { terms = stepped (top termless parts.terms) successor.Zero ∷ rest parts.terms }
after_term AddOne last parts = record parts { terms = stepped (top termless parts.terms) successor.One ∷ rest parts.terms }
after_term AddArgument last parts = record parts { arguments = parts.arguments ++ top termless parts.terms ∷ []; terms = rest parts.terms }

-- ---- formulas without others in them

abbrev pub with_formula : SourceFormula → Parts → Parts
with_formula one parts = record parts { formulas = one ∷ parts.formulas }

abbrev pub after_atom : AtomAct → Option Token → Parts → Parts
after_atom TrueFormula last parts = with_formula (formula.Truth true) parts
after_atom FalseFormula last parts = with_formula (formula.Truth false) parts
after_atom MakeEmpty last parts = with_formula (formula.Empty (name_of last)) parts
after_atom MakeUse last parts =
    record (with_formula (formula.Use (top nameless parts.names) parts.arguments) parts) { names = rest parts.names; arguments = [] }
after_atom MakeSame last parts =
    record (with_formula (formula.Same (top termless (rest parts.terms)) (top termless parts.terms)) parts) { terms = rest (rest parts.terms) }
after_atom MakeDiffer last parts =
    record (with_formula (formula.Differ (top termless (rest parts.terms)) (top termless parts.terms)) parts) { terms = rest (rest parts.terms) }
after_atom MakeIn last parts =
    record (with_formula (formula.In (top termless parts.terms) (name_of last)) parts) { terms = rest parts.terms }
after_atom MakeNotIn last parts =
    record (with_formula (formula.NotIn (top termless parts.terms) (name_of last)) parts) { terms = rest parts.terms }
after_atom MakeSub last parts =
    record (with_formula (formula.Sub (top termless parts.terms) (name_of last)) parts) { terms = rest parts.terms }

-- ---- connectives and quantifiers

-- both formulas, either, or that they are equivalent: the second goes to the end of a chain of the same connective
abbrev pub and_by : SourceFormula-F SourceFormula → SourceFormula → SourceFormula → SourceFormula
and_by (SourceFormula-F.Chain connective.And first others) one other = formula.Chain connective.And first (others ++ other ∷ [])
and_by _ one other = formula.Chain connective.And one (other ∷ [])

abbrev pub both : SourceFormula → SourceFormula → SourceFormula
both one other = and_by (out-SourceFormula one) one other

abbrev pub or_by : SourceFormula-F SourceFormula → SourceFormula → SourceFormula → SourceFormula
or_by (SourceFormula-F.Chain connective.Or first others) one other = formula.Chain connective.Or first (others ++ other ∷ [])
or_by _ one other = formula.Chain connective.Or one (other ∷ [])

abbrev pub either : SourceFormula → SourceFormula → SourceFormula
either one other = or_by (out-SourceFormula one) one other

abbrev pub iff_by : SourceFormula-F SourceFormula → SourceFormula → SourceFormula → SourceFormula
iff_by (SourceFormula-F.Chain connective.Iff first others) one other = formula.Chain connective.Iff first (others ++ other ∷ [])
iff_by _ one other = formula.Chain connective.Iff one (other ∷ [])

abbrev pub equivalent : SourceFormula → SourceFormula → SourceFormula
equivalent one other = iff_by (out-SourceFormula one) one other

-- the last formula and the one before it give way to what this makes of them
abbrev pub joining : (SourceFormula → SourceFormula → SourceFormula) → Parts → Parts
joining make parts =
    record parts { formulas = make (top formulaless (rest parts.formulas)) (top formulaless parts.formulas) ∷ rest (rest parts.formulas) }

-- a quantifier that binds no name so far
abbrev pub begun : Quantifier → Binding
begun one = record { quantifier = one; names = [] }

-- stands where no quantifier is known
abbrev pub bindingless : Binding
bindingless = begun quantifier.Ex1

abbrev pub with_binding : Quantifier → Parts → Parts
with_binding one parts = record parts { bindings = begun one ∷ parts.bindings }

abbrev pub also_binding : Binding → SourceName → Binding
also_binding one name = record one { names = one.names ++ name ∷ [] }

-- one name more of the quantifier that began last
abbrev pub with_bound : SourceName → Parts → Parts
with_bound name parts = record parts { bindings = also_binding (top bindingless parts.bindings) name ∷ rest parts.bindings }

abbrev pub quantified : Binding → SourceFormula → SourceFormula
quantified one body = formula.Quantified one.quantifier one.names body

abbrev pub after_connective : ConnectiveAct → Option Token → Parts → Parts
after_connective JoinIff last parts = joining equivalent parts
after_connective MakeImplies last parts = joining (λ one other. formula.Implies one other) parts
after_connective JoinOr last parts = joining either parts
after_connective JoinAnd last parts = joining both parts
after_connective MakeNot last parts = record parts { formulas = formula.Not (top formulaless parts.formulas) ∷ rest parts.formulas }
after_connective BeginEx1 last parts = with_binding quantifier.Ex1 parts
after_connective BeginAll1 last parts = with_binding quantifier.All1 parts
after_connective BeginEx2 last parts = with_binding quantifier.Ex2 parts
after_connective BeginAll2 last parts = with_binding quantifier.All2 parts
after_connective AddBound last parts = with_bound (name_of last) parts
after_connective MakeQuantified last parts =
    record parts {
      formulas = quantified (top bindingless parts.bindings) (top formulaless parts.formulas) ∷ rest parts.formulas;
      bindings = rest parts.bindings;
    }

-- ---- all acts

-- the parts after an act
abbrev pub after : SourceAct → Near → Parts → Parts
after (made.Item act) near parts = after_item act near.last parts
after (made.Term act) near parts = after_term act near.last parts
after (made.Atom act) near parts = after_atom act near.last parts
after (made.Connective act) near parts = after_connective act near.last parts

-- the source tree of all items that are whole
abbrev pub source_in : Parts → Source
source_in parts = record { items = parts.items }

-- the source tree of a text by its tokens and what happens in their reading
abbrev pub source_of : List Token → List (Event SourceAct) → Source
source_of = text.tree_by after nothing source_in
