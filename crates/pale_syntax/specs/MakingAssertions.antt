-- What is made of assertions.
use Rattle.std.specs.Prelude.{[], ◌∷◌, ◌++◌, true, false}
use Rattle.plain_data.specs.Stacks.{top, rest}
use Rattle.pale_syntax.specs.declared.grammar.act.AtomAct.{AtomAct}
use Rattle.pale_syntax.specs.declared.grammar.act.AtomAct.TheVariants.{TrueAssertion, FalseAssertion, PathAlone, ExtendPathAlone, TakePathBack}
use Rattle.pale_syntax.specs.declared.grammar.act.AtomAct.TheVariants.{AddUsedPath, MakeUse, MakeSame, MakeDiffer, MakeMember, MakeSubset, MakeWalk}
use Rattle.pale_syntax.specs.declared.grammar.act.AtomAct.TheVariants.{MakeIs}
use Rattle.pale_syntax.specs.declared.grammar.act.ConnectiveAct.{ConnectiveAct}
use Rattle.pale_syntax.specs.declared.grammar.act.ConnectiveAct.TheVariants.{JoinIff, MakeImp, JoinOr, JoinAnd, MakeNot, BeginEx, BeginAll, BindsSets}
use Rattle.pale_syntax.specs.declared.grammar.act.ConnectiveAct.TheVariants.{AddBound, MakeQuantified, Bracket}
use Rattle.pale_text.specs.declared.place.Pos.{Pos}
use Rattle.pale_syntax.specs.declared.tree.names.Name.{Name}
use Rattle.pale_syntax.specs.declared.tree.names.Path.{Path}
use Rattle.pale_syntax.specs.declared.tree.names.Term.TheVariants as term
use Rattle.pale_syntax.specs.declared.tree.assertion.Assertion.{Assertion, out-Assertion}
use Rattle.pale_syntax.specs.declared.tree.assertion.Assertion.TheVariants as assertion
use Rattle.pale_syntax.specs.declared.tree.assertion.Assertion.TheOpen.{Assertion-F}
use Rattle.pale_syntax.specs.declared.tree.assertion.Quantifier.{Quantifier}
use Rattle.pale_syntax.specs.declared.tree.assertion.QuantifierKind.{QuantifierKind}
use Rattle.pale_syntax.specs.declared.tree.assertion.QuantifierKind.TheVariants as quantifier
use Rattle.pale_syntax.specs.MakingParts.{Parts, Near, nameless}
use Rattle.pale_text.specs.Places.{nowhere}
use Rattle.pale_text.specs.Tokens.{place_of}
use Rattle.pale_syntax.specs.MakingWords.{pathless, termless, extended}
use Rattle.pale_syntax.specs.MakingRoutes.{routeless}

-- stands where no assertion is known
abbrev pub assertionless : Assertion
assertionless = assertion.True

-- the path whose truth an assertion is
abbrev pub alone_in : Assertion-F Assertion → Path
alone_in (Assertion-F.Truth path) = path
alone_in _ = pathless

abbrev pub path_alone : Assertion → Path
path_alone one = alone_in (out-Assertion one)

-- both assertions: the second goes to the end of a chain
abbrev pub and_by : Assertion-F Assertion → Assertion → Assertion → Assertion
and_by (Assertion-F.And first others) one other = assertion.And first (others ++ other ∷ [])
and_by _ one other = assertion.And one (other ∷ [])

abbrev pub both : Assertion → Assertion → Assertion
both one other = and_by (out-Assertion one) one other

-- either assertion: the second goes to the end of a chain
abbrev pub or_by : Assertion-F Assertion → Assertion → Assertion → Assertion
or_by (Assertion-F.Or first others) one other = assertion.Or first (others ++ other ∷ [])
or_by _ one other = assertion.Or one (other ∷ [])

abbrev pub either : Assertion → Assertion → Assertion
either one other = or_by (out-Assertion one) one other

-- the assertions are equivalent: the second goes to the end of a chain
abbrev pub iff_by : Assertion-F Assertion → Assertion → Assertion → Assertion
iff_by (Assertion-F.Iff first others) one other = assertion.Iff first (others ++ other ∷ [])
iff_by _ one other = assertion.Iff one (other ∷ [])

abbrev pub equivalent : Assertion → Assertion → Assertion
equivalent one other = iff_by (out-Assertion one) one other

-- a quantifier whose keyword stands there, with nothing behind it so far
abbrev pub begun : QuantifierKind → Pos → Quantifier
begun kind place = record { kind = kind; place = place; of_sets = false; names = []; ty = nameless }

-- stands where no quantifier is known
abbrev pub quantifierless : Quantifier
quantifierless = begun quantifier.Ex nowhere

abbrev pub of_sets : Quantifier → Quantifier
of_sets one = record one { of_sets = true }

abbrev pub binding : Quantifier → Name → Quantifier
binding one name = record one { names = one.names ++ name ∷ [] }

abbrev pub over : Quantifier → Name → Quantifier
over one name = record one { ty = name }

abbrev pub after_atom : AtomAct → Near → Parts → Parts
after_atom TrueAssertion near parts = record parts { assertions = assertion.True ∷ parts.assertions }
after_atom FalseAssertion near parts = record parts { assertions = assertion.False ∷ parts.assertions }
after_atom PathAlone near parts =
    record parts { assertions = assertion.Truth (top pathless parts.paths) ∷ parts.assertions; paths = rest parts.paths }
after_atom ExtendPathAlone near parts =
    record parts {
      assertions = assertion.Truth (extended (path_alone (top assertionless parts.assertions)) (top nameless parts.names)) ∷ rest parts.assertions;
      names = rest parts.names;
    }
after_atom TakePathBack near parts =
    record parts { terms = term.Path (path_alone (top assertionless parts.assertions)) ∷ parts.terms; assertions = rest parts.assertions }
after_atom AddUsedPath near parts = record parts { used = parts.used ++ top pathless parts.paths ∷ []; paths = rest parts.paths }
after_atom MakeUse near parts =
    record parts {
      assertions = assertion.Use (path_alone (top assertionless parts.assertions)).base parts.used ∷ rest parts.assertions;
      used = [];
    }
after_atom MakeSame near parts =
    record parts {
      assertions = assertion.Same (top termless (rest parts.terms)) (top nowhere parts.places) (top termless parts.terms) ∷ parts.assertions;
      terms = rest (rest parts.terms);
      places = rest parts.places;
    }
after_atom MakeDiffer near parts =
    record parts {
      assertions = assertion.Differ (top termless (rest parts.terms)) (top nowhere parts.places) (top termless parts.terms) ∷ parts.assertions;
      terms = rest (rest parts.terms);
      places = rest parts.places;
    }
after_atom MakeMember near parts =
    record parts {
      assertions = assertion.Member (top termless parts.terms) (top nowhere parts.places) (top nameless parts.names) ∷ parts.assertions;
      terms = rest parts.terms;
      places = rest parts.places;
      names = rest parts.names;
    }
after_atom MakeSubset near parts =
    record parts {
      assertions = assertion.Subset (top termless parts.terms) (top nowhere parts.places) (top nameless parts.names) ∷ parts.assertions;
      terms = rest parts.terms;
      places = rest parts.places;
      names = rest parts.names;
    }
after_atom MakeWalk near parts =
    record parts {
      assertions =
          assertion.Walk (top termless (rest parts.terms)) (top nowhere parts.places) (top routeless parts.routes) (top termless parts.terms)
          ∷ parts.assertions;
      terms = rest (rest parts.terms);
      places = rest parts.places;
      routes = rest parts.routes;
    }
after_atom MakeIs near parts =
    record parts {
      assertions = assertion.Is (top termless parts.terms) (top nowhere parts.places) (top nameless parts.names) ∷ parts.assertions;
      terms = rest parts.terms;
      places = rest parts.places;
      names = rest parts.names;
    }

-- the last assertion and the one before it give way to what this makes of them
abbrev pub joining : (Assertion → Assertion → Assertion) → Parts → Parts
joining make parts =
    record parts {
      assertions = make (top assertionless (rest parts.assertions)) (top assertionless parts.assertions) ∷ rest (rest parts.assertions);
    }

abbrev pub after_connective : ConnectiveAct → Near → Parts → Parts
after_connective JoinIff near parts = joining equivalent parts
after_connective MakeImp near parts =
    record (joining (λ one other. assertion.Imp one (top nowhere parts.places) other) parts) { places = rest parts.places }
after_connective JoinOr near parts = joining either parts
after_connective JoinAnd near parts = joining both parts
after_connective MakeNot near parts =
    record parts {
      assertions = assertion.Not (top nowhere parts.places) (top assertionless parts.assertions) ∷ rest parts.assertions;
      places = rest parts.places;
    }
after_connective BeginEx near parts = record parts { quantifiers = begun quantifier.Ex (place_of near.last) ∷ parts.quantifiers }
after_connective BeginAll near parts = record parts { quantifiers = begun quantifier.All (place_of near.last) ∷ parts.quantifiers }
after_connective BindsSets near parts =
    record parts { quantifiers = of_sets (top quantifierless parts.quantifiers) ∷ rest parts.quantifiers }
after_connective AddBound near parts =
    record parts {
      quantifiers = binding (top quantifierless parts.quantifiers) (top nameless parts.names) ∷ rest parts.quantifiers;
      names = rest parts.names;
    }
after_connective MakeQuantified near parts =
    record parts {
      assertions =
          assertion.Quantified (over (top quantifierless parts.quantifiers) (top nameless parts.names)) (top assertionless parts.assertions)
          ∷ rest parts.assertions;
      quantifiers = rest parts.quantifiers;
      names = rest parts.names;
    }
after_connective Bracket near parts =
    record parts {
      brackets = record { place = top nowhere parts.places; assertion = top assertionless parts.assertions } ∷ parts.brackets;
      places = rest parts.places;
      assertions = rest parts.assertions;
    }
