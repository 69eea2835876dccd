-- A program whose spelling is canonical is read as it is spelled.
use Rattle.std.proofs.Common.{ℕ, ◌+◌, ◌≤◌, List, [], ◌∷◌, ◌++◌, map, refl, sym, subst, append_assoc, append-nil, inl, inr}
use Rattle.ll1_reader.specs.declared.symbol.Symbol.TheVariants.{Once, Many}
use Rattle.ll1_reader.specs.Readings.{Bottom, Row, over}
use Rattle.pale_syntax.specs.declared.grammar.part.ProgramPart.TheVariants as part
use Rattle.pale_syntax.specs.declared.tree.declaration.Declaration.{Declaration}
use Rattle.pale_syntax.specs.declared.tree.declaration.Declaration.TheVariants as declaration
use Rattle.pale_syntax.specs.declared.tree.declaration.Program.{Program}
use Rattle.pale_syntax.specs.ProgramGrammar.{ProgramSymbol, program_grammar, rows_of}
use Rattle.pale_parse.specs.Productions.{program_rules, productions_of}
use Rattle.pale_parse.specs.ParseTable.{number_of, first_set, program_table, mark_number}
use Rattle.pale_print.specs.Placeless.{placeless_declaration}
use Rattle.pale_print.specs.Tokens.{each}
use Rattle.pale_print.specs.DeclarationTokens.{declaration_tokens, program_tokens}
use Rattle.pale_print_laws.specs.CanonicalDeclarations.{All, IsCanonicalDeclaration, IsCanonical}
use Rattle.pale_print_laws.proofs.Framework.{ProgramStack, Stops, Aim, Ends, row_ends, goes_on, stops_there}
use Rattle.pale_print_laws.proofs.Stopping.{at_word}
use Rattle.pale_print_laws.proofs.Types.{declared, type_read, predicate_read}
use Rattle.pale_print_laws.proofs.Procedures.{procedure_read}
use Rattle.pale_print_laws.proofs.Words.{is_type, is_pred, is_proc}

variant_stops : (ds : List Declaration) → Stops part.Variant (each declaration_tokens ds [])
unfolding program_rules program_table productions_of first_set number_of mark_number
variant_stops [] = record { holds = tt }
variant_stops (declaration.«Type» t ∷ ds) = at_word is_type refl
variant_stops (declaration.Predicate p ∷ ds) = at_word is_pred refl
variant_stops (declaration.Procedure p ∷ ds) = at_word is_proc refl

declarations_read : {aim : Aim} {row : List ProgramSymbol} {d : ℕ} {below : ProgramStack} (room : ℕ) (done ds : List Declaration) →
    All (IsCanonicalDeclaration room) ds → d + room ≤ aim.top →
    Ends aim (Row row d below) [] (declared (done ++ map placeless_declaration ds)) →
    Ends aim (Row (Many part.Declaration ∷ row) d below) (each declaration_tokens ds []) (declared done)
unfolding program_grammar rows_of
declarations_read {aim} {row} {d} {below} room done [] are low next =
    stops_there (record { holds = tt }) (subst (λ l. Ends aim (Row row d below) [] (declared l)) (append-nil done) next)
declarations_read {aim} {row} {d} {below} room done (declaration.«Type» t ∷ ds) are low next =
    goes_on (Once part.Type ∷ []) (inl refl) (type_read room done t are.0 low (variant_stops ds) (row_ends
    (declarations_read room (done ++ placeless_declaration (declaration.«Type» t) ∷ []) ds are.1 low
    (subst (λ l. Ends aim (Row row d below) [] (declared l))
    (sym (append_assoc done (placeless_declaration (declaration.«Type» t) ∷ []) (map placeless_declaration ds))) next))))
declarations_read {aim} {row} {d} {below} room done (declaration.Predicate p ∷ ds) are low next =
    goes_on (Once part.Predicate ∷ []) (inr (inl refl)) (predicate_read room done p are.0 low (row_ends
    (declarations_read room (done ++ placeless_declaration (declaration.Predicate p) ∷ []) ds are.1 low
    (subst (λ l. Ends aim (Row row d below) [] (declared l))
    (sym (append_assoc done (placeless_declaration (declaration.Predicate p) ∷ []) (map placeless_declaration ds))) next))))
declarations_read {aim} {row} {d} {below} room done (declaration.Procedure p ∷ ds) are low next =
    goes_on (Once part.Procedure ∷ []) (inr (inr (inl refl))) (procedure_read room done p are.0 low (row_ends
    (declarations_read room (done ++ placeless_declaration (declaration.Procedure p) ∷ []) ds are.1 low
    (subst (λ l. Ends aim (Row row d below) [] (declared l))
    (sym (append_assoc done (placeless_declaration (declaration.Procedure p) ∷ []) (map placeless_declaration ds))) next))))

-- the limit, and the declarations without their places
abbrev pub aim_at : ℕ → Program → Aim
aim_at top p = record { top = top; made = map placeless_declaration p.declarations }

pub program_read : (top room : ℕ) (p : Program) → IsCanonical room p → 0 + room ≤ top →
    Ends (aim_at top p) (Row (Many part.Declaration ∷ []) 0 Bottom) (program_tokens p) (declared [])
unfolding program_tokens
program_read top room p is low =
    declarations_read room [] p.declarations is low
    (row_ends (record { spelled = tt; steps = []; reading = over; low = tt; made = λ last. refl }))
