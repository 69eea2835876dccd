-- What is made of a program's text while it is read, and is not yet part of something larger.
use Rattle.std.specs.Prelude.{List, [], Option, None}
use Rattle.pale_text.specs.declared.place.Pos.{Pos}
use Rattle.pale_text.specs.declared.token.Token.{Token}
use Rattle.pale_text.specs.Places.{nowhere}
use Rattle.pale_text.specs.Tokens.{name_bytes_of, place_of}
pub use Rattle.pale_text.specs.Near.{Near}
use Rattle.pale_syntax.specs.declared.tree.names.Name.{Name}
use Rattle.pale_syntax.specs.declared.tree.names.Path.{Path}
use Rattle.pale_syntax.specs.declared.tree.names.Term.{Term}
use Rattle.pale_syntax.specs.declared.tree.route.Route.{Route}
use Rattle.pale_syntax.specs.declared.tree.condition.Condition.{Condition}
use Rattle.pale_syntax.specs.declared.tree.assertion.Assertion.{Assertion}
use Rattle.pale_syntax.specs.declared.tree.assertion.Bracketed.{Bracketed}
use Rattle.pale_syntax.specs.declared.tree.assertion.Quantifier.{Quantifier}
use Rattle.pale_syntax.specs.declared.tree.statement.Argument.{Argument}
use Rattle.pale_syntax.specs.declared.tree.statement.Statement.{Statement}
use Rattle.pale_syntax.specs.declared.tree.statement.Value.{Value}
use Rattle.pale_syntax.specs.declared.tree.declaration.Declaration.{Declaration}
use Rattle.pale_syntax.specs.declared.tree.declaration.FieldDeclaration.{FieldDeclaration}
use Rattle.pale_syntax.specs.declared.tree.declaration.LogicParameter.{LogicParameter}
use Rattle.pale_syntax.specs.declared.tree.declaration.Parameter.{Parameter}
use Rattle.pale_syntax.specs.declared.tree.declaration.PredicateParameter.{PredicateParameter}
use Rattle.pale_syntax.specs.declared.tree.declaration.VariantDeclaration.{VariantDeclaration}

pub record Parts : Type 0 where
  -- stacks: what was made last, which is taken first, is on top
  pub names : List Name
  pub places : List Pos
  pub paths : List Path
  pub terms : List Term
  pub routes : List Route
  pub conditions : List Condition
  pub assertions : List Assertion
  pub quantifiers : List Quantifier
  pub brackets : List Bracketed
  -- the blocks under way, each with its statements so far in order
  pub blocks : List (List Statement)
  -- for each `if` under way, its block of `else`
  pub elses : List (Option (List Statement))
  pub values : List Value
  -- lists, in order: the arguments of a use of a predicate
  pub used : List Path
  -- of a call: the variables that take results, the arguments before the `;` once all are there, and those so far
  pub call_results : List Name
  pub given : List Argument
  pub arguments : List Argument
  pub keep : Option Bracketed
  -- of a procedure: the variables so far that are neither parameters nor results, the parameters, the results
  pub variables : List Parameter
  pub parameters : List Parameter
  pub results : List Parameter
  pub logics : List LogicParameter
  pub pre : Option Bracketed
  pub post : Option Bracketed
  -- of a predicate
  pub predicate_parameters : List PredicateParameter
  -- of a type: the fields so far that belong to nothing yet, those that all cells have, the variants
  pub fields : List FieldDeclaration
  pub common : List FieldDeclaration
  pub variants : List VariantDeclaration
  -- the declarations that are whole
  pub declarations : List Declaration

-- before any token is read
abbrev pub nothing : Parts
nothing =
    record {
      names = [];
      places = [];
      paths = [];
      terms = [];
      routes = [];
      conditions = [];
      assertions = [];
      quantifiers = [];
      brackets = [];
      blocks = [];
      elses = [];
      values = [];
      used = [];
      call_results = [];
      given = [];
      arguments = [];
      keep = None;
      variables = [];
      parameters = [];
      results = [];
      logics = [];
      pre = None;
      post = None;
      predicate_parameters = [];
      fields = [];
      common = [];
      variants = [];
      declarations = [];
    }

-- stands where no name is known
abbrev pub nameless : Name
nameless = record { bytes = []; place = nowhere }

-- the token as a name
abbrev pub name_of : Option Token → Name
name_of token = record { bytes = name_bytes_of token; place = place_of token }
