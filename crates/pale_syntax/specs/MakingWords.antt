-- What is made of names: places, paths and terms.
use Rattle.std.specs.Prelude.{[], ◌∷◌, ◌++◌}
use Rattle.plain_data.specs.Stacks.{top, rest}
use Rattle.pale_syntax.specs.declared.grammar.act.WordAct.{WordAct}
use Rattle.pale_syntax.specs.declared.grammar.act.WordAct.TheVariants.{PushName, MarkPlace, MarkNext, StartPath, ExtendPath, PushNull, PathTerm}
use Rattle.pale_syntax.specs.declared.tree.names.Name.{Name}
use Rattle.pale_syntax.specs.declared.tree.names.Path.{Path}
use Rattle.pale_syntax.specs.declared.tree.names.Term.{Term}
use Rattle.pale_syntax.specs.declared.tree.names.Term.TheVariants as term
use Rattle.pale_syntax.specs.MakingParts.{Parts, Near, nameless, name_of}
use Rattle.pale_text.specs.Places.{nowhere}
use Rattle.pale_text.specs.Tokens.{place_of}

-- the path of a name alone
abbrev pub path_at : Name → Path
path_at name = record { base = name; fields = [] }

-- stands where no path is known
abbrev pub pathless : Path
pathless = path_at nameless

-- stands where no term is known
abbrev pub termless : Term
termless = term.Null nowhere

-- the path, and this field behind it
abbrev pub extended : Path → Name → Path
extended path field = record { base = path.base; fields = path.fields ++ field ∷ [] }

abbrev pub after_word : WordAct → Near → Parts → Parts
after_word PushName near parts = record parts { names = name_of near.last ∷ parts.names }
after_word MarkPlace near parts = record parts { places = place_of near.last ∷ parts.places }
after_word MarkNext near parts = record parts { places = place_of near.next ∷ parts.places }
after_word StartPath near parts = record parts { paths = path_at (top nameless parts.names) ∷ parts.paths; names = rest parts.names }
after_word ExtendPath near parts =
    record parts { paths = extended (top pathless parts.paths) (top nameless parts.names) ∷ rest parts.paths; names = rest parts.names }
after_word PushNull near parts = record parts { terms = term.Null (place_of near.last) ∷ parts.terms }
after_word PathTerm near parts = record parts { terms = term.Path (top pathless parts.paths) ∷ parts.terms; paths = rest parts.paths }
