-- What a builder holds.
use Rattle.ws2s_parse.specs.MakingParts as making
use Rattle.ws2s_parse.specs.declared.build.parts.Parts.{Parts}

abbrev pub parts_of : Parts → making.Parts
parts_of parts =
    record {
      names = parts.names;
      terms = parts.terms;
      formulas = parts.formulas;
      bindings = parts.bindings;
      arguments = parts.arguments;
      variables = parts.variables;
      parameters = parts.parameters;
      items = parts.items;
    }
