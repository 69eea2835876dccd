-- Names, paths and terms are read as they are spelled.
use Rattle.std.proofs.Common.{ℕ, ◌≤◌, List, [], ◌∷◌, ◌++◌, map, refl, sym, subst, append_assoc, append-nil, inl, inr}
use Rattle.ll1_reader.specs.declared.symbol.Symbol.TheVariants.{Read, Once, Many, Act as Does}
use Rattle.ll1_reader.specs.Readings.{Row}
use Rattle.pale_syntax.specs.declared.grammar.act.Act.TheVariants as act
use Rattle.pale_syntax.specs.declared.grammar.act.WordAct.TheVariants as words
use Rattle.pale_syntax.specs.declared.grammar.kind.ProgramKind.TheVariants as kind
use Rattle.pale_syntax.specs.declared.grammar.part.ProgramPart.TheVariants as part
use Rattle.pale_text.specs.declared.token.Mark.TheVariants as mark
use Rattle.pale_text.specs.declared.token.TokenKind.{TokenKind}
use Rattle.pale_syntax.specs.declared.tree.names.Name.{Name}
use Rattle.pale_syntax.specs.declared.tree.names.Path.{Path}
use Rattle.pale_syntax.specs.declared.tree.names.Term.{Term}
use Rattle.pale_syntax.specs.declared.tree.names.Term.TheVariants as term
use Rattle.pale_syntax.specs.MakingParts.{Parts}
use Rattle.pale_syntax.specs.ProgramGrammar.{ProgramSymbol, program_grammar, rows_of, reads, push_name}
use Rattle.pale_print.specs.Placeless.{placeless_name, placeless_path, placeless_term}
use Rattle.pale_print.specs.Tokens.{each_behind, name_tokens, path_tokens, term_tokens}
use Rattle.pale_syntax.specs.FreeNames.{AreFree, IsFreePath, IsFreeTerm}
use Rattle.pale_print_laws.proofs.Framework.{ProgramStack, Stops, Aim, Ends, mark, word_with, does, row_ends, goes, goes_on, stops_there}
use Rattle.pale_print_laws.proofs.Words.{is_name, is_null}

path_steps : {aim : Aim} {row : List ProgramSymbol} {d : ℕ} {below : ProgramStack} {after : List TokenKind} {parts : Parts}
    (base : Name) (done fields : List Name) →
    AreFree fields → d ≤ aim.top → Stops part.PathStep after →
    Ends aim (Row row d below) after (record parts { paths = record { base = base; fields = done ++ map placeless_name fields } ∷ parts.paths }) →
    Ends aim (Row (Many part.PathStep ∷ row) d below) (each_behind mark.Dot name_tokens fields after)
    (record parts { paths = record { base = base; fields = done } ∷ parts.paths })
unfolding program_grammar rows_of
path_steps {aim} {row} {d} {below} {after} {parts} base done [] free low stops next =
    stops_there stops
    (subst (λ l. Ends aim (Row row d below) after (record parts { paths = record { base = base; fields = l } ∷ parts.paths })) (append-nil done) next)
path_steps {aim} {row} {d} {below} {after} {parts} base done (f ∷ fields) free low stops next =
    goes_on (reads mark.Dot ∷ Read kind.Name ∷ push_name ∷ Does (act.Word words.ExtendPath) ∷ []) (inl refl)
    (mark low (word_with (is_name free.0) low (λ n. refl) (does (λ n. refl) (row_ends
    (path_steps {parts = parts} base (done ++ placeless_name f ∷ []) fields free.1 low stops
    (subst (λ l. Ends aim (Row row d below) after (record parts { paths = record { base = base; fields = l } ∷ parts.paths }))
    (sym (append_assoc done (placeless_name f ∷ []) (map placeless_name fields))) next))))))

pub path_read : {aim : Aim} {row : List ProgramSymbol} {d : ℕ} {below : ProgramStack} {after : List TokenKind} {parts : Parts} (p : Path) →
    IsFreePath p → d ≤ aim.top → Stops part.PathStep after →
    Ends aim (Row row d below) after (record parts { paths = placeless_path p ∷ parts.paths }) →
    Ends aim (Row (Once part.Path ∷ row) d below) (path_tokens p after) parts
unfolding program_grammar rows_of
path_read {aim} {row} {d} {below} {after} {parts} p free low stops next =
    goes (Read kind.Name ∷ push_name ∷ Does (act.Word words.StartPath) ∷ Many part.PathStep ∷ []) (inl refl)
    (word_with (is_name free.base) low (λ n. refl) (does (λ n. refl)
    (path_steps {parts = parts} (placeless_name p.base) [] p.fields free.fields low stops (row_ends next))))

pub term_read : {aim : Aim} {row : List ProgramSymbol} {d : ℕ} {below : ProgramStack} {after : List TokenKind} {parts : Parts} (t : Term) →
    IsFreeTerm t → d ≤ aim.top → Stops part.PathStep after →
    Ends aim (Row row d below) after (record parts { terms = placeless_term t ∷ parts.terms }) →
    Ends aim (Row (Once part.Term ∷ row) d below) (term_tokens t after) parts
unfolding program_grammar rows_of
term_read (term.Null place) free low stops next =
    goes (Read kind.Null ∷ Does (act.Word words.PushNull) ∷ []) (inl refl) (word_with is_null low (λ n. refl) (row_ends next))
term_read (term.Path p) free low stops next =
    goes (Once part.Path ∷ Does (act.Word words.PathTerm) ∷ []) (inr (inl refl)) (path_read p free low stops (does (λ n. refl) (row_ends next)))
