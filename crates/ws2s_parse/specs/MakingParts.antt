-- What is made of a WS2S text while it is read, and is not yet part of something larger.
use Rattle.std.specs.Prelude.{List, [], Option}
use Rattle.pale_text.specs.Places.{nowhere}
use Rattle.pale_text.specs.Tokens.{name_bytes_of, place_of}
use Rattle.pale_text.specs.declared.token.Token.{Token}
use Rattle.ws2s_parse.specs.declared.build.binding.Binding.{Binding}
use Rattle.ws2s_syntax.specs.declared.source.SourceFormula.{SourceFormula}
use Rattle.ws2s_syntax.specs.declared.source.SourceItem.{SourceItem}
use Rattle.ws2s_syntax.specs.declared.source.SourceName.{SourceName}
use Rattle.ws2s_syntax.specs.declared.source.SourceParameter.{SourceParameter}
use Rattle.ws2s_syntax.specs.declared.source.SourceTerm.{SourceTerm}

pub record Parts : Type 0 where
  -- stacks: what was made last, which is taken first, is on top
  pub names : List SourceName
  pub terms : List SourceTerm
  pub formulas : List SourceFormula
  -- the quantifiers whose bodies are not read yet, each with the names so far that it binds
  pub bindings : List Binding
  -- lists, in order: the arguments of a use of a predicate
  pub arguments : List SourceTerm
  -- the free variables of an item
  pub variables : List SourceName
  -- the parameters of a predicate
  pub parameters : List SourceParameter
  -- the items that are whole
  pub items : List SourceItem

-- before any token is read
abbrev pub nothing : Parts
nothing = record { names = []; terms = []; formulas = []; bindings = []; arguments = []; variables = []; parameters = []; items = [] }

-- stands where no name is known
abbrev pub nameless : SourceName
nameless = record { bytes = []; place = nowhere }

-- the token as a name
abbrev pub name_of : Option Token → SourceName
name_of token = record { bytes = name_bytes_of token; place = place_of token }
