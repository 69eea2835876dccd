-- Assertions are read as they are spelled.
use Rattle.std.proofs.Common.{◌≡◌, ℕ, ◌+◌, ◌≤◌, List, [], ◌∷◌, ◌++◌, map, refl, sym, subst, append_assoc, append-nil, inl, inr}
use Rattle.std.specs.Prelude.{codes}
use Rattle.ll1_reader.specs.declared.symbol.Symbol.TheVariants.{Read, Once, Maybe, Many}
use Rattle.ll1_reader.specs.Readings.{Row}
use Rattle.pale_syntax.specs.declared.grammar.act.AtomAct.TheVariants as atoms
use Rattle.pale_syntax.specs.declared.grammar.act.WordAct.TheVariants as words
use Rattle.pale_syntax.specs.declared.grammar.kind.ProgramKind.TheVariants as kind
use Rattle.pale_syntax.specs.declared.grammar.part.ProgramPart.{ProgramPart}
use Rattle.pale_syntax.specs.declared.grammar.part.ProgramPart.TheVariants as part
use Rattle.pale_text.specs.declared.token.Mark.TheVariants as mark
use Rattle.pale_text.specs.declared.token.TokenKind.{TokenKind}
use Rattle.pale_text.specs.declared.token.TokenKind.TheVariants as token
use Rattle.pale_syntax.specs.declared.tree.names.Name.{Name}
use Rattle.pale_syntax.specs.declared.tree.names.Path.{Path}
use Rattle.pale_syntax.specs.declared.tree.names.Term.{Term}
use Rattle.pale_syntax.specs.declared.tree.names.Term.TheVariants as term
use Rattle.pale_syntax.specs.declared.tree.route.Route.{Route}
use Rattle.pale_syntax.specs.declared.tree.assertion.Assertion.{Assertion}
use Rattle.pale_syntax.specs.declared.tree.assertion.Assertion.TheVariants as assertion
use Rattle.pale_syntax.specs.MakingParts.{Parts}
use Rattle.pale_syntax.specs.MakingWords.{extended}
use Rattle.pale_syntax.specs.MakingAssertions.{path_alone}
use Rattle.pale_syntax.specs.ProgramGrammar.{ProgramSymbol, program_grammar, rows_of, reads, push_name, mark_place, atom as makes, word as says}
use Rattle.pale_parse.specs.Productions.{program_rules, productions_of}
use Rattle.pale_parse.specs.ParseTable.{number_of, first_set, program_table, mark_number}
use Rattle.pale_print.specs.Placeless.{nowhere, placeless_name, placeless_path, placeless_term, placeless_route}
use Rattle.pale_print.specs.Tokens.{each_behind, separated, name_tokens, path_tokens, term_tokens}
use Rattle.pale_print.specs.RouteTokens.{route_tokens}
use Rattle.pale_syntax.specs.FreeNames.{IsFree, AreFree, AreFreePaths, IsFreeTerm}
use Rattle.pale_print_laws.specs.CanonicalRoutes.{IsCanonicalRoute, whole as whole_route}
use Rattle.pale_print_laws.specs.CanonicalAssertions.{AssertionPlace, whole, implication, disjunct, conjunct, operand}
use Rattle.pale_print_laws.proofs.AssertionShapes.{path-alone}
use Rattle.pale_print_laws.proofs.Framework.{ProgramStack, Stops, Aim, Ends, room_now, mark, mark_with, word_with, does}
use Rattle.pale_print_laws.proofs.Framework.{row_ends, goes, takes, leaves, goes_on, stops_there}
use Rattle.pale_print_laws.proofs.Stopping.{at_mark, at_word}
use Rattle.pale_print_laws.proofs.Terms.{path_read, term_read}
use Rattle.pale_print_laws.proofs.Routes.{at_greater, route_read}
use Rattle.pale_print_laws.proofs.Words.{is_name, is_null, is_in, is_sub}

-- these tokens, and then those after them, are read as the part, and this assertion is made
abbrev pub ReadsAssertion : Aim → ℕ → ProgramPart → List TokenKind → List TokenKind → Parts → Assertion → Type 0
ReadsAssertion aim d n tokens after parts a =
    (row : List ProgramSymbol) (below : ProgramStack) → Ends aim (Row row d below) after (record parts { assertions = a ∷ parts.assertions }) →
    Ends aim (Row (Once n ∷ row) d below) tokens parts

-- an assertion at this place doesn't go on with these tokens
abbrev pub StopsOperand : List TokenKind → Type 0
StopsOperand after = Stops part.NameRest after × Stops part.PathAloneStep after × Stops part.NameRelation after × Stops part.PathStep after

abbrev pub StopsAt : AssertionPlace → List TokenKind → Type 0
StopsAt operand after = StopsOperand after
StopsAt conjunct after = Stops part.NextNegation after × StopsOperand after
StopsAt disjunct after = Stops part.NextAndChain after × Stops part.NextNegation after × StopsOperand after
StopsAt implication after = Stops part.Implied after × Stops part.NextAndChain after × Stops part.NextNegation after × StopsOperand after
StopsAt whole after =
    Stops part.NextImplication after × Stops part.Implied after × Stops part.NextAndChain after × Stops part.NextNegation after
    × StopsOperand after

pub operand_stops : (p : AssertionPlace) {after : List TokenKind} → StopsAt p after → StopsAt operand after
operand_stops whole s = s.4
operand_stops implication s = s.3
operand_stops disjunct s = s.2
operand_stops conjunct s = s.1
operand_stops operand s = s

-- ---- paths alone

-- one more step of the path that is an assertion alone
stepped : {aim : Aim} {s : ProgramStack} {tokens : List TokenKind} {parts : Parts} (p : Path) (f : Name) →
    Ends aim s tokens (record parts { assertions = assertion.Truth (extended p f) ∷ parts.assertions }) →
    Ends aim s tokens (record parts { assertions = assertion.Truth (extended (path_alone (assertion.Truth p)) f) ∷ parts.assertions })
stepped {aim} {s} {tokens} {parts} p f next =
    subst (λ (q : Path). Ends aim s tokens (record parts { assertions = assertion.Truth (extended q f) ∷ parts.assertions })) (sym (path-alone p)) next

-- the path that was an assertion alone
back : {aim : Aim} {s : ProgramStack} {tokens : List TokenKind} {parts : Parts} (p : Path) →
    Ends aim s tokens (record parts { terms = term.Path p ∷ parts.terms }) →
    Ends aim s tokens (record parts { terms = term.Path (path_alone (assertion.Truth p)) ∷ parts.terms })
back {aim} {s} {tokens} {parts} p next = subst (λ (q : Path). Ends aim s tokens (record parts { terms = term.Path q ∷ parts.terms })) (sym (path-alone p)) next

alone_steps : {aim : Aim} {row : List ProgramSymbol} {d : ℕ} {below : ProgramStack} {after : List TokenKind} {parts : Parts}
    (base : Name) (done fields : List Name) →
    AreFree fields → d ≤ aim.top → Stops part.PathAloneStep after →
    Ends aim (Row row d below) after
    (record parts { assertions = assertion.Truth (record { base = base; fields = done ++ map placeless_name fields }) ∷ parts.assertions })
    →
    Ends aim (Row (Many part.PathAloneStep ∷ row) d below) (each_behind mark.Dot name_tokens fields after)
    (record parts { assertions = assertion.Truth (record { base = base; fields = done }) ∷ parts.assertions })
unfolding program_grammar rows_of
alone_steps {aim} {row} {d} {below} {after} {parts} base done [] free low stops next =
    stops_there stops
    (subst (λ l. Ends aim (Row row d below) after
    (record parts { assertions = assertion.Truth (record { base = base; fields = l }) ∷ parts.assertions })) (append-nil
    done) next)
alone_steps {aim} {row} {d} {below} {after} {parts} base done (f ∷ fields) free low stops next =
    goes_on (reads mark.Dot ∷ Read kind.Name ∷ push_name ∷ makes atoms.ExtendPathAlone ∷ []) (inl refl)
    (mark low (word_with (is_name free.0) low (λ n. refl)
    (does (λ n. refl) (row_ends (stepped {parts = parts} (record { base = base; fields = done }) (placeless_name f)
    (alone_steps {parts = parts} base (done ++ placeless_name f ∷ []) fields free.1 low stops
    (subst (λ l. Ends aim (Row row d below) after (record parts { assertions = assertion.Truth (record { base = base; fields = l }) ∷ parts.assertions }))
    (sym (append_assoc done (placeless_name f ∷ []) (map placeless_name fields))) next)))))))

pub path_alone_read : {aim : Aim} {d : ℕ} {after : List TokenKind} {parts : Parts} (base : Name) (fields : List Name) →
    IsFree base → AreFree fields → d ≤ aim.top →
    StopsAt operand after → ReadsAssertion aim d part.Primary (path_tokens (record { base = base; fields = fields }) after) after parts
    (assertion.Truth (placeless_path (record { base = base; fields = fields })))
unfolding program_grammar rows_of
path_alone_read base [] free free_too low stops = λ row below next.
    goes (Read kind.Name ∷ push_name ∷ says words.StartPath ∷ makes atoms.PathAlone ∷ Maybe part.NameRest ∷ []) (inr (inr (inr (inr (inl refl)))))
    (word_with (is_name free) low (λ n. refl) (does (λ n. refl) (does (λ n. refl) (leaves stops.0 (row_ends next)))))
path_alone_read {parts = parts} base (f ∷ fields) free free_too low stops = λ row below next.
    goes (Read kind.Name ∷ push_name ∷ says words.StartPath ∷ makes atoms.PathAlone ∷ Maybe part.NameRest ∷ []) (inr (inr (inr (inr (inl refl)))))
    (word_with (is_name free) low (λ n. refl) (does (λ n. refl) (does (λ n. refl)
    (takes (Once part.PathAloneStep ∷ Many part.PathAloneStep ∷ Maybe part.NameRelation ∷ []) (inr (inl refl))
    (goes (reads mark.Dot ∷ Read kind.Name ∷ push_name ∷ makes atoms.ExtendPathAlone ∷ []) (inl refl)
    (mark low (word_with (is_name free_too.0) low (λ n. refl)
    (does (λ n. refl) (row_ends (stepped {parts = parts} (record { base = placeless_name base; fields = [] }) (placeless_name f)
    (alone_steps {parts = parts} (placeless_name base) (placeless_name f ∷ []) fields free_too.1 low stops.1
    (leaves stops.2 (row_ends (row_ends next))))))))))))))

-- ---- relations

-- these tokens, and then those after them, are read as a relation of the term, and this assertion is made
abbrev pub ReadsRelation : Aim → ℕ → List TokenKind → List TokenKind → Term → Parts → Assertion → Type 0
ReadsRelation aim d tokens after t parts a =
    (row : List ProgramSymbol) (below : ProgramStack) → Ends aim (Row row d below) after (record parts { assertions = a ∷ parts.assertions }) →
    Ends aim (Row (Once part.Relation ∷ row) d below) tokens (record parts { terms = t ∷ parts.terms })

-- a term and its relation
pub relation_read : {aim : Aim} {d : ℕ} {tokens after : List TokenKind} {parts : Parts} {a : Assertion} (t : Term) →
    IsFreeTerm t → d ≤ aim.top → Stops part.PathAloneStep tokens →
    ReadsRelation aim d tokens after (placeless_term t) parts a → ReadsAssertion aim d part.Primary (term_tokens t tokens) after parts a
unfolding program_grammar rows_of
relation_read (term.Null place) free low stops relation = λ row below next.
    goes (Read kind.Null ∷ says words.PushNull ∷ Once part.Relation ∷ []) (inr (inr (inr (inl refl))))
    (word_with is_null low (λ n. refl) (relation [] _ (row_ends next)))
relation_read {aim} {d} {tokens} {after} {parts} {a} (term.Path p) free low stops relation = by p.base p.fields free.base free.fields relation
  where
    by : (base : Name) (fields : List Name) → IsFree base → AreFree fields →
        ReadsRelation aim d tokens after (term.Path (placeless_path (record { base = base; fields = fields }))) parts a →
        ReadsAssertion aim d part.Primary (path_tokens (record { base = base; fields = fields }) tokens) after parts a
    by base [] is is_too relation = λ row below next.
        goes (Read kind.Name ∷ push_name ∷ says words.StartPath ∷ makes atoms.PathAlone ∷ Maybe part.NameRest ∷ []) (inr (inr (inr (inr (inl refl)))))
        (word_with (is_name is) low (λ n. refl) (does (λ n. refl) (does (λ n. refl)
        (takes (Once part.NameRelation ∷ []) (inr (inr (inl refl)))
        (goes (makes atoms.TakePathBack ∷ Once part.Relation ∷ []) (inl refl)
        (does (λ n. refl)
        (back {parts = parts} (record { base = placeless_name base; fields = [] }) (relation [] _ (row_ends (row_ends (row_ends next)))))))))))
    by base (f ∷ fields) is is_too relation = λ row below next.
        goes (Read kind.Name ∷ push_name ∷ says words.StartPath ∷ makes atoms.PathAlone ∷ Maybe part.NameRest ∷ []) (inr (inr (inr (inr (inl refl)))))
        (word_with (is_name is) low (λ n. refl) (does (λ n. refl) (does (λ n. refl)
        (takes (Once part.PathAloneStep ∷ Many part.PathAloneStep ∷ Maybe part.NameRelation ∷ []) (inr (inl refl))
        (goes (reads mark.Dot ∷ Read kind.Name ∷ push_name ∷ makes atoms.ExtendPathAlone ∷ []) (inl refl)
        (mark low (word_with (is_name is_too.0) low (λ n. refl)
        (does (λ n. refl) (row_ends (stepped {parts = parts} (record { base = placeless_name base; fields = [] }) (placeless_name f)
        (alone_steps {parts = parts} (placeless_name base) (placeless_name f ∷ []) fields is_too.1 low stops
        (takes (makes atoms.TakePathBack ∷ Once part.Relation ∷ []) (inl refl)
        (does (λ n. refl) (back {parts = parts} (placeless_path (record { base = base; fields = f ∷ fields }))
        (relation [] _ (row_ends (row_ends (row_ends next))))))))))))))))))

pub at_equals : (after : List TokenKind) → Stops part.PathAloneStep (token.Mark mark.Equals ∷ after)
unfolding program_rules program_table productions_of first_set number_of mark_number
at_equals after = at_mark refl

pub at_not_equal : (after : List TokenKind) → Stops part.PathAloneStep (token.Mark mark.NotEqual ∷ after)
unfolding program_rules program_table productions_of first_set number_of mark_number
at_not_equal after = at_mark refl

pub at_less : (after : List TokenKind) → Stops part.PathAloneStep (token.Mark mark.Less ∷ after)
unfolding program_rules program_table productions_of first_set number_of mark_number
at_less after = at_mark refl

pub at_colon : (after : List TokenKind) → Stops part.PathAloneStep (token.Mark mark.Colon ∷ after)
unfolding program_rules program_table productions_of first_set number_of mark_number
at_colon after = at_mark refl

pub at_in : (after : List TokenKind) → Stops part.PathAloneStep (token.Name (codes "in") ∷ after)
unfolding program_rules program_table productions_of first_set number_of mark_number
at_in after = at_word is_in refl

pub at_sub : (after : List TokenKind) → Stops part.PathAloneStep (token.Name (codes "sub") ∷ after)
unfolding program_rules program_table productions_of first_set number_of mark_number
at_sub after = at_word is_sub refl

pub same_read : {aim : Aim} {d : ℕ} {after : List TokenKind} {t : Term} {parts : Parts} (u : Term) → IsFreeTerm u → d ≤ aim.top → StopsAt operand after →
    ReadsRelation aim d (token.Mark mark.Equals ∷ term_tokens u after) after t parts (assertion.Same t nowhere (placeless_term u))
unfolding program_grammar rows_of
same_read u free low stops = λ row below next.
    goes (reads mark.Equals ∷ mark_place ∷ Once part.Term ∷ makes atoms.MakeSame ∷ []) (inl refl)
    (mark_with low (λ n. refl) (term_read u free low stops.3 (does (λ n. refl) (row_ends next))))

pub differ_read : {aim : Aim} {d : ℕ} {after : List TokenKind} {t : Term} {parts : Parts} (u : Term) → IsFreeTerm u → d ≤ aim.top → StopsAt operand after →
    ReadsRelation aim d (token.Mark mark.NotEqual ∷ term_tokens u after) after t parts (assertion.Differ t nowhere (placeless_term u))
unfolding program_grammar rows_of
differ_read u free low stops = λ row below next.
    goes (reads mark.NotEqual ∷ mark_place ∷ Once part.Term ∷ makes atoms.MakeDiffer ∷ []) (inr (inl refl))
    (mark_with low (λ n. refl) (term_read u free low stops.3 (does (λ n. refl) (row_ends next))))

pub member_read : {aim : Aim} {d : ℕ} {after : List TokenKind} {t : Term} {parts : Parts} (set : Name) → IsFree set → d ≤ aim.top →
    ReadsRelation aim d (token.Name (codes "in") ∷ name_tokens set after) after t parts (assertion.Member t nowhere (placeless_name set))
unfolding program_grammar rows_of
member_read set free low = λ row below next.
    goes (Read kind.In ∷ mark_place ∷ Read kind.Name ∷ push_name ∷ makes atoms.MakeMember ∷ []) (inr (inr (inl refl)))
    (word_with is_in low (λ n. refl) (word_with (is_name free) low (λ n. refl) (does (λ n. refl) (row_ends next))))

pub subset_read : {aim : Aim} {d : ℕ} {after : List TokenKind} {t : Term} {parts : Parts} (set : Name) → IsFree set → d ≤ aim.top →
    ReadsRelation aim d (token.Name (codes "sub") ∷ name_tokens set after) after t parts (assertion.Subset t nowhere (placeless_name set))
unfolding program_grammar rows_of
subset_read set free low = λ row below next.
    goes (Read kind.Sub ∷ mark_place ∷ Read kind.Name ∷ push_name ∷ makes atoms.MakeSubset ∷ []) (inr (inr (inr (inl refl))))
    (word_with is_sub low (λ n. refl) (word_with (is_name free) low (λ n. refl) (does (λ n. refl) (row_ends next))))

pub walk_read : {aim : Aim} {d room : ℕ} {after : List TokenKind} {t : Term} {parts : Parts} {r : Route} (u : Term) →
    IsCanonicalRoute whole_route room r → IsFreeTerm u →
    d + room ≤ aim.top → StopsAt operand after →
    ReadsRelation aim d (token.Mark mark.Less ∷ route_tokens r 0 (token.Mark mark.Greater ∷ term_tokens u after)) after t
    parts (assertion.Walk t nowhere (placeless_route r) (placeless_term u))
unfolding program_grammar rows_of
walk_read {aim} {d} {room} u c free low stops = λ row below next.
    goes (reads mark.Less ∷ mark_place ∷ Once part.Route ∷ reads mark.Greater ∷ Once part.Term ∷ makes atoms.MakeWalk ∷ []) (inr (inr (inr (inr (inl refl)))))
    (mark_with (room_now d room aim.top low) (λ n. refl) (route_read c low (at_greater _) _ _
    (mark (room_now d room aim.top low) (term_read u free (room_now d room aim.top low) stops.3 (does (λ n. refl) (row_ends next))))))

pub is_read : {aim : Aim} {d : ℕ} {after : List TokenKind} {t : Term} {parts : Parts} (variant : Name) → IsFree variant → d ≤ aim.top →
    ReadsRelation aim d (token.Mark mark.Colon ∷ name_tokens variant after) after t parts (assertion.Is t nowhere (placeless_name variant))
unfolding program_grammar rows_of
is_read variant free low = λ row below next.
    goes (reads mark.Colon ∷ mark_place ∷ Read kind.Name ∷ push_name ∷ makes atoms.MakeIs ∷ []) (inr (inr (inr (inr (inr (inl refl))))))
    (mark_with low (λ n. refl) (word_with (is_name free) low (λ n. refl) (does (λ n. refl) (row_ends next))))

-- ---- uses of predicates

path_at_comma : (after : List TokenKind) → Stops part.PathStep (token.Mark mark.Comma ∷ after)
unfolding program_rules program_table productions_of first_set number_of mark_number
path_at_comma after = at_mark refl

path_at_paren : (after : List TokenKind) → Stops part.PathStep (token.Mark mark.RightParen ∷ after)
unfolding program_rules program_table productions_of first_set number_of mark_number
path_at_paren after = at_mark refl

next_at_paren : (after : List TokenKind) → Stops part.NextUsedPath (token.Mark mark.RightParen ∷ after)
unfolding program_rules program_table productions_of first_set number_of mark_number
next_at_paren after = at_mark refl

paths_at_paren : (after : List TokenKind) → Stops part.UsedPaths (token.Mark mark.RightParen ∷ after)
unfolding program_rules program_table productions_of first_set number_of mark_number
paths_at_paren after = at_mark refl

-- behind one of the arguments
path_ends : (paths : List Path) (after : List TokenKind) → Stops part.PathStep (each_behind mark.Comma path_tokens paths (token.Mark mark.RightParen ∷ after))
path_ends [] after = path_at_paren after
path_ends (p ∷ paths) after = path_at_comma _

more_used : {aim : Aim} {row : List ProgramSymbol} {d : ℕ} {below : ProgramStack} {after : List TokenKind} (parts : Parts) (done paths : List Path) →
    AreFreePaths paths → d ≤ aim.top →
    Ends aim (Row row d below) (token.Mark mark.RightParen ∷ after) (record parts { used = done ++ map placeless_path paths }) →
    Ends aim (Row (Many part.NextUsedPath ∷ row) d below)
    (each_behind mark.Comma path_tokens paths (token.Mark mark.RightParen ∷ after)) (record parts { used = done })
unfolding program_grammar rows_of
more_used {aim} {row} {d} {below} {after} parts done [] free low next =
    stops_there (next_at_paren after)
    (subst (λ l. Ends aim (Row row d below) (token.Mark mark.RightParen ∷ after) (record parts { used = l })) (append-nil done) next)
more_used {aim} {row} {d} {below} {after} parts done (p ∷ paths) free low next =
    goes_on (reads mark.Comma ∷ Once part.Path ∷ makes atoms.AddUsedPath ∷ []) (inl refl)
    (mark low (path_read p free.0 low (path_ends paths after) (does (λ n. refl) (row_ends
    (more_used parts (done ++ placeless_path p ∷ []) paths free.1 low
    (subst (λ l. Ends aim (Row row d below) (token.Mark mark.RightParen ∷ after) (record parts { used = l }))
    (sym (append_assoc done (placeless_path p ∷ []) (map placeless_path paths))) next))))))

used_paths : {aim : Aim} {row : List ProgramSymbol} {d : ℕ} {below : ProgramStack} {after : List TokenKind} {parts : Parts} (paths : List Path) →
    AreFreePaths paths → d ≤ aim.top → parts.used ≡ [] →
    Ends aim (Row row d below) (token.Mark mark.RightParen ∷ after) (record parts { used = map placeless_path paths }) →
    Ends aim (Row (Maybe part.UsedPaths ∷ row) d below) (separated mark.Comma path_tokens paths (token.Mark mark.RightParen ∷ after)) parts
unfolding program_grammar rows_of
used_paths {aim} {row} {d} {below} {after} {parts} [] free low none next =
    leaves (paths_at_paren after) (subst (λ l. Ends aim (Row row d below) (token.Mark mark.RightParen ∷ after) (record parts { used = l })) (sym none) next)
used_paths {aim} {row} {d} {below} {after} {parts} (p ∷ paths) free low none next =
    takes (Once part.Path ∷ makes atoms.AddUsedPath ∷ Many part.NextUsedPath ∷ []) (inl refl)
    (path_read p free.0 low (path_ends paths after) (does (λ n. refl)
    (subst (λ l. Ends aim (Row (Many part.NextUsedPath ∷ []) d (Row row d below))
    (each_behind mark.Comma path_tokens paths (token.Mark mark.RightParen ∷ after))
    (record parts { used = l ++ placeless_path p ∷ [] })) (sym none)
    (more_used parts (placeless_path p ∷ []) paths free.1 low (row_ends next)))))

pub use_read : {aim : Aim} {d : ℕ} {after : List TokenKind} {parts : Parts} (predicate : Name) (arguments : List Path) →
    IsFree predicate → AreFreePaths arguments →
    d ≤ aim.top → parts.used ≡ [] →
    ReadsAssertion aim d part.Primary
    (name_tokens predicate (token.Mark mark.LeftParen ∷ separated mark.Comma path_tokens arguments (token.Mark mark.RightParen ∷ after)))
    after parts
    (assertion.Use (placeless_name predicate) (map placeless_path arguments))
unfolding program_grammar rows_of
use_read {aim} {d} {after} {parts} predicate arguments free free_too low none = λ row below next.
    goes (Read kind.Name ∷ push_name ∷ says words.StartPath ∷ makes atoms.PathAlone ∷ Maybe part.NameRest ∷ []) (inr (inr (inr (inr (inl refl)))))
    (word_with (is_name free) low (λ n. refl) (does (λ n. refl) (does (λ n. refl)
    (takes (reads mark.LeftParen ∷ Maybe part.UsedPaths ∷ reads mark.RightParen ∷ makes atoms.MakeUse ∷ []) (inl refl)
    (mark low (used_paths arguments free_too low none (mark low (does (λ n. refl) (row_ends (row_ends
    (subst (λ (q : Path). Ends aim (Row row d below) after
    (record parts { assertions = assertion.Use q.base (map placeless_path arguments) ∷ parts.assertions; used = [] })) (sym
    (path-alone (record { base = placeless_name predicate; fields = [] })))
    (subst (λ l. Ends aim (Row row d below) after (record parts {
      assertions = assertion.Use (placeless_name predicate)
          (map placeless_path arguments) ∷ parts.assertions;
      used = l;
    })) none next))))))))))))
