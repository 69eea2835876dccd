-- Types and predicates are read as they are spelled.
use Rattle.std.proofs.Common.{ℕ, ◌+◌, ◌≤◌, List, [], ◌∷◌, ◌++◌, map, refl, sym, subst, append_assoc, append-nil, inl, inr}
use Rattle.ll1_reader.specs.declared.symbol.Symbol.TheVariants.{Read, Once, Maybe, Many}
use Rattle.ll1_reader.specs.Readings.{Row}
use Rattle.pale_syntax.specs.declared.grammar.act.TypeAct.TheVariants as types
use Rattle.pale_syntax.specs.declared.grammar.act.PredicateAct.TheVariants as predicates
use Rattle.pale_syntax.specs.declared.grammar.kind.ProgramKind.TheVariants as kind
use Rattle.pale_syntax.specs.declared.grammar.part.ProgramPart.TheVariants as part
use Rattle.pale_text.specs.declared.token.Mark.TheVariants as mark
use Rattle.pale_text.specs.declared.token.TokenKind.{TokenKind}
use Rattle.pale_text.specs.declared.token.TokenKind.TheVariants as token
use Rattle.pale_syntax.specs.declared.tree.names.Name.{Name}
use Rattle.pale_syntax.specs.declared.tree.declaration.Declaration.{Declaration}
use Rattle.pale_syntax.specs.declared.tree.declaration.Declaration.TheVariants as declaration
use Rattle.pale_syntax.specs.declared.tree.declaration.FieldDeclaration.{FieldDeclaration}
use Rattle.pale_syntax.specs.declared.tree.declaration.FieldForm.{FieldForm}
use Rattle.pale_syntax.specs.declared.tree.declaration.FieldForm.TheVariants as form
use Rattle.pale_syntax.specs.declared.tree.declaration.PredicateDeclaration.{PredicateDeclaration}
use Rattle.pale_syntax.specs.declared.tree.declaration.PredicateParameter.{PredicateParameter}
use Rattle.pale_syntax.specs.declared.tree.declaration.PredicateParameter.TheVariants as predicate
use Rattle.pale_syntax.specs.declared.tree.declaration.TypeDeclaration.{TypeDeclaration}
use Rattle.pale_syntax.specs.declared.tree.declaration.VariantDeclaration.{VariantDeclaration}
use Rattle.pale_syntax.specs.MakingParts.{Parts, nothing}
use Rattle.pale_syntax.specs.ProgramGrammar.{ProgramSymbol, program_grammar, rows_of, reads, push_name, mark_place, type as makes, predicate as tells}
use Rattle.pale_parse.specs.Productions.{program_rules, productions_of}
use Rattle.pale_parse.specs.ParseTable.{program_table, number_of, mark_number, first_set}
use Rattle.pale_print.specs.Placeless.{placeless_name, placeless_form, placeless_field, placeless_variant, placeless_type}
use Rattle.pale_print.specs.Placeless.{placeless_predicate_parameter, placeless_predicate}
use Rattle.pale_print.specs.Tokens.{each, each_behind, separated}
use Rattle.pale_print.specs.DeclarationTokens.{field_form_tokens, field_tokens, variant_tokens, type_tokens, predicate_parameter_tokens, predicate_tokens}
use Rattle.pale_syntax.specs.FreeNames.{IsFree}
use Rattle.pale_print_laws.specs.CanonicalDeclarations.{All, IsCanonicalForm, IsCanonicalField, IsCanonicalVariant}
use Rattle.pale_print_laws.specs.CanonicalDeclarations.{IsCanonicalType, IsFreePredicateParameter, IsCanonicalPredicate}
use Rattle.pale_print_laws.proofs.Framework.{ProgramStack, Stops, Aim, Ends, room_now, mark, mark_with, word, word_with, does, row_ends}
use Rattle.pale_print_laws.proofs.Framework.{goes, takes, leaves, goes_on, stops_there}
use Rattle.pale_print_laws.proofs.Stopping.{at_mark}
use Rattle.pale_print_laws.proofs.Routes.{at_right_bracket, route_read}
use Rattle.pale_print_laws.proofs.Connectives.{bracketed_read}
use Rattle.pale_print_laws.proofs.Words.{is_name, is_type, is_bool, is_data, is_pointer, is_set, is_pred}

-- these declarations are made so far, and nothing is under way
abbrev pub declared : List Declaration → Parts
declared done = record nothing { declarations = done }

-- ---- fields

field_at_brace : (after : List TokenKind) → Stops part.Field (token.Mark mark.RightBrace ∷ after)
unfolding program_rules program_table productions_of first_set number_of mark_number
field_at_brace after = at_mark refl

more_fields : {aim : Aim} {row : List ProgramSymbol} {d : ℕ} {below : ProgramStack} {after : List TokenKind} (room : ℕ)
    (parts : Parts) (done fs : List FieldDeclaration) →
    All (IsCanonicalField room) fs →
    d + room ≤ aim.top → Ends aim (Row row d below) (token.Mark mark.RightBrace ∷ after) (record parts { fields = done ++ map placeless_field fs }) →
    Ends aim (Row (Many part.Field ∷ row) d below) (each field_tokens fs (token.Mark mark.RightBrace ∷ after)) (record parts { fields = done })
unfolding program_grammar rows_of
more_fields {aim} {row} {d} {below} {after} room parts done [] are low next =
    stops_there (field_at_brace after)
    (subst (λ l. Ends aim (Row row d below) (token.Mark mark.RightBrace ∷ after) (record parts { fields = l })) (append-nil done) next)
more_fields {aim} {row} {d} {below} {after} room parts done (f ∷ fs) are low next =
    by f.name f.form are.0.0 are.0.1
    (more_fields room parts (done ++ placeless_field f ∷ []) fs are.1 low
    (subst (λ l. Ends aim (Row row d below) (token.Mark mark.RightBrace ∷ after) (record parts { fields = l }))
    (sym (append_assoc done (placeless_field f ∷ []) (map placeless_field fs))) next))
  where
    by : (name : Name) (sort : FieldForm) → IsFree name → IsCanonicalForm room sort →
        Ends aim (Row (Many part.Field ∷ row) d below) (each field_tokens fs (token.Mark mark.RightBrace ∷ after))
        (record parts { fields = done ++ record { name = placeless_name name; form = placeless_form sort } ∷ [] }) →
        Ends aim (Row (Many part.Field ∷ row) d below)
        (field_form_tokens name sort (each field_tokens fs (token.Mark mark.RightBrace ∷ after)))
        (record parts { fields = done })
    by name form.Bool free is next =
        goes_on (Read kind.Bool ∷ Read kind.Name ∷ push_name ∷ makes types.BoolField ∷ reads mark.Semicolon ∷ []) (inl refl)
        (word is_bool (room_now d room aim.top low) (word_with (is_name free) (room_now d room aim.top low) (λ n. refl)
        (does (λ n. refl) (mark (room_now d room aim.top low) (row_ends next)))))
    by name (form.Data ty) free is next =
        goes_on (Read kind.Data ∷ Read kind.Name ∷ push_name ∷ reads mark.Colon ∷ Read kind.Name ∷ push_name ∷ makes
        types.DataField ∷ reads mark.Semicolon ∷ []) (inr (inl refl))
        (word is_data (room_now d room aim.top low) (word_with (is_name free) (room_now d room aim.top low) (λ n. refl) (mark (room_now d room aim.top low)
        (word_with (is_name is) (room_now d room aim.top low) (λ n. refl) (does (λ n. refl) (mark (room_now d room aim.top low) (row_ends next)))))))
    by name (form.Pointer ty place r) free is next =
        goes_on
        (Read kind.Pointer ∷ Read kind.Name ∷ push_name ∷ reads mark.Colon ∷ Read kind.Name ∷ push_name ∷ reads mark.LeftBracket ∷
        mark_place ∷ Once part.Route ∷ reads mark.RightBracket ∷ makes types.PointerField ∷ reads mark.Semicolon ∷ []) (inr (inr (inl refl)))
        (word is_pointer (room_now d room aim.top low) (word_with (is_name free) (room_now d room aim.top low) (λ n. refl) (mark (room_now d room aim.top low)
        (word_with (is_name is.0) (room_now d room aim.top low) (λ n. refl) (mark_with (room_now d room aim.top low) (λ n. refl)
        (route_read is.1 low (at_right_bracket _) (reads mark.RightBracket ∷ makes types.PointerField ∷ reads mark.Semicolon ∷ []) _
        (mark (room_now d room aim.top low) (does (λ n. refl) (mark (room_now d room aim.top low) (row_ends next))))))))))

-- ---- types

more_variants : {aim : Aim} {row : List ProgramSymbol} {d : ℕ} {below : ProgramStack} {after : List TokenKind} (room : ℕ)
    (parts : Parts) (done vs : List VariantDeclaration) →
    All (IsCanonicalVariant room) vs →
    d + room ≤ aim.top → Stops part.Variant after →
    Ends aim (Row row d below) after (record parts { fields = []; variants = done ++ map placeless_variant vs }) →
    Ends aim (Row (Many part.Variant ∷ row) d below) (each_behind mark.Bar variant_tokens vs after) (record parts { fields = []; variants = done })
unfolding program_grammar rows_of
more_variants {aim} {row} {d} {below} {after} room parts done [] are low stops next =
    stops_there stops (subst (λ l. Ends aim (Row row d below) after (record parts { fields = []; variants = l })) (append-nil done) next)
more_variants {aim} {row} {d} {below} {after} room parts done (v ∷ vs) are low stops next =
    goes_on
    (reads mark.Bar ∷ Read kind.Name ∷ push_name ∷ reads mark.LeftBrace ∷ Many part.Field ∷ reads mark.RightBrace ∷ makes types.AddVariant ∷ [])
    (inl refl)
    (mark (room_now d room aim.top low) (word_with (is_name are.0.0) (room_now d room aim.top low) (λ n. refl) (mark (room_now d room aim.top low)
    (more_fields room (record parts { names = placeless_name v.name ∷ parts.names; variants = done }) [] v.fields are.0.1 low
    (mark (room_now d room aim.top low) (does (λ n. refl) (row_ends
    (more_variants room parts (done ++ placeless_variant v ∷ []) vs are.1 low stops
    (subst (λ l. Ends aim (Row row d below) after (record parts { fields = []; variants = l }))
    (sym (append_assoc done (placeless_variant v ∷ []) (map placeless_variant vs))) next)))))))))

pub type_read : {aim : Aim} {row : List ProgramSymbol} {d : ℕ} {below : ProgramStack} {after : List TokenKind} (room : ℕ)
    (done : List Declaration) (t : TypeDeclaration) →
    IsCanonicalType room t →
    d + room ≤ aim.top → Stops part.Variant after → Ends aim (Row row d below) after (declared (done ++ declaration.«Type» (placeless_type t) ∷ [])) →
    Ends aim (Row (Once part.Type ∷ row) d below) (type_tokens t after) (declared done)
unfolding program_grammar rows_of
type_read {aim} {row} {d} {below} {after} room done t is low stops next =
    goes
    (Read kind.Type ∷ Read kind.Name ∷ push_name ∷ reads mark.Equals ∷ reads mark.LeftBrace ∷ Many part.Field ∷ makes types.EndCommon ∷
    reads mark.RightBrace ∷ Many part.Variant ∷ makes types.AddType ∷ []) (inl refl)
    (word is_type (room_now d room aim.top low) (word_with (is_name is.name) (room_now d room aim.top low) (λ n. refl)
    (mark (room_now d room aim.top low) (mark (room_now d room aim.top low)
    (more_fields room (record (declared done) { names = placeless_name t.name ∷ [] }) [] t.fields is.fields low
    (does (λ n. refl) (mark (room_now d room aim.top low)
    (more_variants room
    (record (declared done) { names = placeless_name t.name ∷ []; common = map placeless_field t.fields }) [] t.variants
    is.variants low stops
    (does (λ n. refl) (row_ends next))))))))))

-- ---- predicates

parameter_read : {aim : Aim} {row : List ProgramSymbol} {d : ℕ} {below : ProgramStack} {after : List TokenKind}
    (parts : Parts) (done : List PredicateParameter) (p : PredicateParameter) →
    IsFreePredicateParameter p →
    d ≤ aim.top → Ends aim (Row row d below) after (record parts { predicate_parameters = done ++ placeless_predicate_parameter p ∷ [] }) →
    Ends aim (Row (Once part.PredicateParameter ∷ row) d below) (predicate_parameter_tokens p after) (record parts { predicate_parameters = done })
unfolding program_grammar rows_of
parameter_read parts done (predicate.Cell x ty) free low next =
    goes (Read kind.Name ∷ push_name ∷ reads mark.Colon ∷ Read kind.Name ∷ push_name ∷ tells predicates.CellParameter ∷ []) (inl refl)
    (word_with (is_name free.0) low (λ n. refl) (mark low (word_with (is_name free.1) low (λ n. refl) (does (λ n. refl) (row_ends next)))))
parameter_read parts done (predicate.Set x ty) free low next =
    goes (Read kind.Set ∷ Read kind.Name ∷ push_name ∷ reads mark.Colon ∷ Read kind.Name ∷ push_name ∷ tells predicates.SetParameter ∷ []) (inr (inl refl))
    (word is_set low (word_with (is_name free.0) low (λ n. refl) (mark low (word_with (is_name free.1) low (λ n. refl) (does (λ n. refl) (row_ends next))))))
parameter_read parts done (predicate.Bool x) free low next =
    goes (Read kind.Bool ∷ Read kind.Name ∷ push_name ∷ tells predicates.BoolParameter ∷ []) (inr (inr (inl refl)))
    (word is_bool low (word_with (is_name free) low (λ n. refl) (does (λ n. refl) (row_ends next))))

next_at_paren : (after : List TokenKind) → Stops part.NextPredicateParameter (token.Mark mark.RightParen ∷ after)
unfolding program_rules program_table productions_of first_set number_of mark_number
next_at_paren after = at_mark refl

none_at_paren : (after : List TokenKind) → Stops part.PredicateParameters (token.Mark mark.RightParen ∷ after)
unfolding program_rules program_table productions_of first_set number_of mark_number
none_at_paren after = at_mark refl

more_parameters : {aim : Aim} {row : List ProgramSymbol} {d : ℕ} {below : ProgramStack} {after : List TokenKind}
    (parts : Parts) (done ps : List PredicateParameter) →
    All IsFreePredicateParameter ps → d ≤ aim.top →
    Ends aim (Row row d below) (token.Mark mark.RightParen ∷ after) (record parts { predicate_parameters = done ++ map placeless_predicate_parameter ps }) →
    Ends aim (Row (Many part.NextPredicateParameter ∷ row) d below)
    (each_behind mark.Comma predicate_parameter_tokens ps (token.Mark mark.RightParen ∷ after))
    (record parts { predicate_parameters = done })
unfolding program_grammar rows_of
more_parameters {aim} {row} {d} {below} {after} parts done [] free low next =
    stops_there (next_at_paren after) (subst
    (λ l. Ends aim (Row row d below) (token.Mark mark.RightParen ∷ after) (record parts { predicate_parameters = l }))
    (append-nil done) next)
more_parameters {aim} {row} {d} {below} {after} parts done (p ∷ ps) free low next =
    goes_on (reads mark.Comma ∷ Once part.PredicateParameter ∷ []) (inl refl)
    (mark low (parameter_read parts done p free.0 low (row_ends
    (more_parameters parts (done ++ placeless_predicate_parameter p ∷ []) ps free.1 low
    (subst (λ l. Ends aim (Row row d below) (token.Mark mark.RightParen ∷ after) (record parts { predicate_parameters = l }))
    (sym (append_assoc done (placeless_predicate_parameter p ∷ []) (map placeless_predicate_parameter ps))) next)))))

parameters_read : {aim : Aim} {row : List ProgramSymbol} {d : ℕ} {below : ProgramStack} (after : List TokenKind)
    (parts : Parts) (ps : List PredicateParameter) →
    All IsFreePredicateParameter ps → d ≤ aim.top →
    Ends aim (Row row d below) (token.Mark mark.RightParen ∷ after) (record parts { predicate_parameters = map placeless_predicate_parameter ps }) →
    Ends aim (Row (Maybe part.PredicateParameters ∷ row) d below)
    (separated mark.Comma predicate_parameter_tokens ps (token.Mark mark.RightParen ∷ after))
    (record parts { predicate_parameters = [] })
unfolding program_grammar rows_of
parameters_read after parts [] free low next = leaves (none_at_paren after) next
parameters_read after parts (p ∷ ps) free low next =
    takes (Once part.PredicateParameter ∷ Many part.NextPredicateParameter ∷ []) (inl refl)
    (parameter_read parts [] p free.0 low (more_parameters parts (placeless_predicate_parameter p ∷ []) ps free.1 low (row_ends next)))

pub predicate_read : {aim : Aim} {row : List ProgramSymbol} {d : ℕ} {below : ProgramStack} {after : List TokenKind}
    (room : ℕ) (done : List Declaration) (p : PredicateDeclaration) →
    IsCanonicalPredicate room p →
    d + room ≤ aim.top → Ends aim (Row row d below) after (declared (done ++ declaration.Predicate (placeless_predicate p) ∷ [])) →
    Ends aim (Row (Once part.Predicate ∷ row) d below) (predicate_tokens p after) (declared done)
unfolding program_grammar rows_of
predicate_read {aim} {row} {d} {below} {after} room done p is low next =
    goes
    (Read kind.Pred ∷ Read kind.Name ∷ push_name ∷ reads mark.LeftParen ∷ Maybe part.PredicateParameters ∷ reads mark.RightParen ∷
    reads mark.Equals ∷ Once part.Bracketed ∷ reads mark.Semicolon ∷ tells predicates.AddPredicate ∷ []) (inl refl)
    (word is_pred (room_now d room aim.top low) (word_with (is_name is.name) (room_now d room aim.top low) (λ n. refl) (mark (room_now d room aim.top low)
    (parameters_read _ (record (declared done) { names = placeless_name p.name ∷ [] }) p.parameters is.parameters (room_now d room aim.top low)
    (mark (room_now d room aim.top low) (mark (room_now d room aim.top low)
    (bracketed_read p.body is.body low refl (mark (room_now d room aim.top low) (does (λ n. refl) (row_ends next))))))))))
