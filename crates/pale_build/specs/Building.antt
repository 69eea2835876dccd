-- What a builder holds.
use Rattle.pale_syntax.specs.MakingParts as making
use Rattle.pale_build.specs.declared.parts.Parts.{Parts}

abbrev pub parts_of : Parts → making.Parts
parts_of parts =
    record {
      names = parts.names;
      places = parts.places;
      paths = parts.paths;
      terms = parts.terms;
      routes = parts.routes;
      conditions = parts.conditions;
      assertions = parts.assertions;
      quantifiers = parts.quantifiers;
      brackets = parts.brackets;
      blocks = parts.blocks;
      elses = parts.elses;
      values = parts.values;
      used = parts.used;
      call_results = parts.call_results;
      given = parts.given;
      arguments = parts.arguments;
      keep = parts.keep;
      variables = parts.variables;
      parameters = parts.parameters;
      results = parts.results;
      logics = parts.logics;
      pre = parts.pre;
      post = parts.post;
      predicate_parameters = parts.predicate_parameters;
      fields = parts.fields;
      common = parts.common;
      variants = parts.variants;
      declarations = parts.declarations;
    }
