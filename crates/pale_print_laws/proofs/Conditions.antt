-- Conditions are read as they are spelled.
use Rattle.std.specs.Prelude.{nat_lt}
use Rattle.std.proofs.Common.{◌≡◌, ℕ, ◌+◌, ◌≤◌, Bool, false, List, [], ◌∷◌, ◌++◌, map, refl, sym, subst, append_assoc, inl, inr}
use Rattle.ll1_reader.specs.declared.symbol.Symbol.TheVariants.{Read, Once, Maybe, Many}
use Rattle.ll1_reader.specs.Readings.{Row}
use Rattle.pale_syntax.specs.declared.grammar.act.ConditionAct.TheVariants as conditions
use Rattle.pale_syntax.specs.declared.grammar.kind.ProgramKind.TheVariants as kind
use Rattle.pale_syntax.specs.declared.grammar.part.ProgramPart.{ProgramPart}
use Rattle.pale_syntax.specs.declared.grammar.part.ProgramPart.TheVariants as part
use Rattle.pale_text.specs.declared.token.Mark.TheVariants as mark
use Rattle.pale_text.specs.declared.token.TokenKind.{TokenKind}
use Rattle.pale_text.specs.declared.token.TokenKind.TheVariants as token
use Rattle.pale_syntax.specs.declared.tree.names.Name.{Name}
use Rattle.pale_syntax.specs.declared.tree.names.Term.{Term}
use Rattle.pale_syntax.specs.declared.tree.condition.Condition.{Condition, roll-Condition}
use Rattle.pale_syntax.specs.declared.tree.condition.Condition.TheVariants as condition
use Rattle.pale_syntax.specs.declared.tree.condition.Condition.TheVariants.{rolls-True, rolls-False, rolls-Truth, rolls-Same}
use Rattle.pale_syntax.specs.declared.tree.condition.Condition.TheVariants.{rolls-Differ, rolls-Is, rolls-Not, rolls-And}
use Rattle.pale_syntax.specs.declared.tree.condition.Condition.TheVariants.{rolls-Or}
use Rattle.pale_syntax.specs.declared.tree.condition.Condition.TheOpen.{Condition-F}
use Rattle.pale_syntax.specs.declared.tree.condition.Condition.TheFolds.{fold-roll-Condition, map-Condition}
use Rattle.pale_syntax.specs.MakingParts.{Parts}
use Rattle.pale_syntax.specs.MakingConditions.{term_alone, both_conditions, either_condition}
use Rattle.pale_syntax.specs.ProgramGrammar.{ProgramSymbol, program_grammar, rows_of, reads, opens, push_name, mark_place, condition as makes}
use Rattle.pale_parse.specs.Productions.{program_rules, productions_of}
use Rattle.pale_parse.specs.ParseTable.{number_of, first_set, program_table, mark_number}
use Rattle.pale_print.specs.Placeless.{nowhere, placeless_name, placeless_term, placeless_condition_node, placeless_condition}
use Rattle.pale_print.specs.Tokens.{each_behind, name_tokens, term_tokens}
use Rattle.pale_print.specs.RouteTokens.{Placed, grouped, chained}
use Rattle.pale_print.specs.ConditionTokens.{condition_node, condition_tokens}
use Rattle.pale_syntax.specs.FreeNames.{IsFree, IsFreeTerm}
use Rattle.pale_print_laws.specs.CanonicalConditions.{ConditionPlace, whole, conjunction, literal, asks, IsCanonicalCondition}
use Rattle.pale_print_laws.specs.CanonicalConditions.{truth, falsehood, term, same, differ, of_variant, not, and, or, group}
use Rattle.pale_print_laws.specs.CanonicalConditions.{AreCanonicalConditions, last, more}
use Rattle.pale_print_laws.proofs.Framework.{ProgramStack, Stops, Aim, Ends, room_now, room_open, room_in, mark, mark_with}
use Rattle.pale_print_laws.proofs.Framework.{mark_open, mark_open_with, word_with, does, row_ends, goes, takes, leaves, goes_on}
use Rattle.pale_print_laws.proofs.Framework.{stops_there}
use Rattle.pale_print_laws.proofs.ConditionShapes.{both_conditions-first, both_conditions-more, either_condition-first, either_condition-more, term-alone}
use Rattle.pale_print_laws.proofs.Stopping.{at_mark}
use Rattle.pale_print_laws.proofs.Terms.{term_read}
use Rattle.pale_print_laws.proofs.Words.{is_name, is_true, is_false}

-- these tokens, and then those after them, are read as the part, and this condition is made
abbrev pub ReadsCondition : Aim → ℕ → ProgramPart → List TokenKind → List TokenKind → Parts → Condition → Type 0
ReadsCondition aim d n tokens after parts c =
    (row : List ProgramSymbol) (below : ProgramStack) → Ends aim (Row row d below) after (record parts { conditions = c ∷ parts.conditions }) →
    Ends aim (Row (Once n ∷ row) d below) tokens parts

abbrev pub part_at : ConditionPlace → ProgramPart
part_at whole = part.Condition
part_at conjunction = part.Conjunction
part_at literal = part.Literal

-- a condition at this place doesn't go on with these tokens
abbrev pub StopsAt : ConditionPlace → List TokenKind → Type 0
StopsAt literal after = Stops part.LiteralRelation after × Stops part.PathStep after
StopsAt conjunction after = Stops part.NextLiteral after × Stops part.LiteralRelation after × Stops part.PathStep after
StopsAt whole after = Stops part.NextConjunction after × Stops part.NextLiteral after × Stops part.LiteralRelation after × Stops part.PathStep after

conjunction_stops : {after : List TokenKind} → StopsAt whole after → StopsAt conjunction after
conjunction_stops s = (s.1, s.2, s.3)

literal_stops : {after : List TokenKind} → StopsAt conjunction after → StopsAt literal after
literal_stops s = (s.1, s.2)

lowest_stops : (p : ConditionPlace) {after : List TokenKind} → StopsAt p after → StopsAt literal after
lowest_stops whole s = (s.2, s.3)
lowest_stops conjunction s = (s.1, s.2)
lowest_stops literal s = s

pub at_right_paren : (after : List TokenKind) → StopsAt whole (token.Mark mark.RightParen ∷ after)
unfolding program_rules program_table productions_of first_set number_of mark_number
at_right_paren after = (at_mark refl, at_mark refl, at_mark refl, at_mark refl)

pub at_semicolon : (after : List TokenKind) → StopsAt whole (token.Mark mark.Semicolon ∷ after)
unfolding program_rules program_table productions_of first_set number_of mark_number
at_semicolon after = (at_mark refl, at_mark refl, at_mark refl, at_mark refl)

at_or_else : (after : List TokenKind) → StopsAt conjunction (token.Mark mark.OrElse ∷ after)
unfolding program_rules program_table productions_of first_set number_of mark_number
at_or_else after = (at_mark refl, at_mark refl, at_mark refl)

at_and_also : (after : List TokenKind) → StopsAt literal (token.Mark mark.AndAlso ∷ after)
unfolding program_rules program_table productions_of first_set number_of mark_number
at_and_also after = (at_mark refl, at_mark refl)

step_at_same : (after : List TokenKind) → Stops part.PathStep (token.Mark mark.SameAs ∷ after)
unfolding program_rules program_table productions_of first_set number_of mark_number
step_at_same after = at_mark refl

step_at_not_same : (after : List TokenKind) → Stops part.PathStep (token.Mark mark.NotSame ∷ after)
unfolding program_rules program_table productions_of first_set number_of mark_number
step_at_not_same after = at_mark refl

step_at_colon : (after : List TokenKind) → Stops part.PathStep (token.Mark mark.Colon ∷ after)
unfolding program_rules program_table productions_of first_set number_of mark_number
step_at_colon after = at_mark refl

before_or_else : (ts : List Placed) (after : List TokenKind) → StopsAt whole after → StopsAt conjunction (each_behind mark.OrElse (λ other. other 1) ts after)
before_or_else [] after s = conjunction_stops s
before_or_else (t ∷ ts) after s = at_or_else (t 1 (each_behind mark.OrElse (λ other. other 1) ts after))

before_and_also : (ts : List Placed) (after : List TokenKind) → StopsAt conjunction after →
    StopsAt literal (each_behind mark.AndAlso (λ other. other 2) ts after)
before_and_also [] after s = literal_stops s
before_and_also (t ∷ ts) after s = at_and_also (t 2 (each_behind mark.AndAlso (λ other. other 2) ts after))

-- ---- a literal at a place that asks for less

as_conjunction : {aim : Aim} {d : ℕ} {tokens after : List TokenKind} {parts : Parts} {c : Condition} → StopsAt conjunction after →
    ReadsCondition aim d part.Literal tokens after parts c → ReadsCondition aim d part.Conjunction tokens after parts c
unfolding program_grammar rows_of
as_conjunction {d = d} stops read = λ row below next.
    goes (Once part.Literal ∷ Many part.NextLiteral ∷ []) (inl refl) (read (Many part.NextLiteral ∷ []) (Row row d below) (stops_there stops.0 (row_ends next)))

as_whole : {aim : Aim} {d : ℕ} {tokens after : List TokenKind} {parts : Parts} {c : Condition} → StopsAt whole after →
    ReadsCondition aim d part.Conjunction tokens after parts c → ReadsCondition aim d part.Condition tokens after parts c
unfolding program_grammar rows_of
as_whole {d = d} stops read = λ row below next.
    goes (Once part.Conjunction ∷ Many part.NextConjunction ∷ []) (inl refl)
    (read (Many part.NextConjunction ∷ []) (Row row d below) (stops_there stops.0 (row_ends next)))

raised : {aim : Aim} {d : ℕ} {tokens after : List TokenKind} {parts : Parts} {c : Condition} (p : ConditionPlace) → StopsAt p after →
    ReadsCondition aim d part.Literal tokens after parts c → ReadsCondition aim d (part_at p) tokens after parts c
raised whole stops read = as_whole stops (as_conjunction (conjunction_stops stops) read)
raised conjunction stops read = as_conjunction stops read
raised literal stops read = read

-- what is read by a node is read by its condition
at_node : {aim : Aim} {d : ℕ} {n : ProgramPart} {after : List TokenKind} {parts : Parts} (p : ConditionPlace)
    (x : Condition-F Condition) (c : Condition) →
    roll-Condition x ≡ c →
    ReadsCondition aim d n (condition_node (map-Condition Condition Placed condition_tokens x) (asks p) after) after parts
    (placeless_condition_node (map-Condition Condition Condition placeless_condition x)) →
    ReadsCondition aim d n (condition_tokens c (asks p) after) after parts (placeless_condition c)
unfolding condition_tokens placeless_condition
at_node {aim} {d} {n} {after} {parts} p x c rolls h =
    subst (λ c. ReadsCondition aim d n (condition_tokens c (asks p) after) after parts (placeless_condition c)) rolls
    (subst (λ c. ReadsCondition aim d n (condition_tokens (roll-Condition x) (asks p) after) after parts c)
    (sym (fold-roll-Condition Condition placeless_condition_node x))
    (subst (λ (t : Placed). ReadsCondition aim d n (t (asks p) after) after parts
    (placeless_condition_node (map-Condition Condition Condition placeless_condition x)))
    (sym (fold-roll-Condition Placed condition_node x)) h))

-- ---- a chain at a place that asks for less

lift_and : {aim : Aim} {d : ℕ} {tokens after : List TokenKind} {parts : Parts} {c : Condition} (p : ConditionPlace) →
    nat_lt 1 (asks p) ≡ false → StopsAt p after →
    (StopsAt conjunction after → ReadsCondition aim d part.Conjunction tokens after parts c) → ReadsCondition aim d (part_at p) tokens after parts c
lift_and whole bare stops read = as_whole stops (read (conjunction_stops stops))
lift_and conjunction bare stops read = read stops
lift_and literal bare stops read = absurd (cc bare)

lift_or : {aim : Aim} {d : ℕ} {tokens after : List TokenKind} {parts : Parts} {c : Condition} (p : ConditionPlace) →
    nat_lt 0 (asks p) ≡ false → StopsAt p after →
    (StopsAt whole after → ReadsCondition aim d part.Condition tokens after parts c) → ReadsCondition aim d (part_at p) tokens after parts c
lift_or whole bare stops read = read stops
lift_or conjunction bare stops read = absurd (cc bare)
lift_or literal bare stops read = absurd (cc bare)

-- the term that was a condition alone
back : {aim : Aim} {s : ProgramStack} {tokens : List TokenKind} {parts : Parts} (t : Term) →
    Ends aim s tokens (record parts { terms = placeless_term t ∷ parts.terms }) →
    Ends aim s tokens (record parts { terms = term_alone (condition.Truth (placeless_term t)) ∷ parts.terms })
back {aim} {s} {tokens} {parts} t next = subst (λ u. Ends aim s tokens (record parts { terms = u ∷ parts.terms })) (sym (term-alone (placeless_term t))) next

same_read : {aim : Aim} {d : ℕ} {after : List TokenKind} {parts : Parts} (t u : Term) → IsFreeTerm t → IsFreeTerm u → d ≤ aim.top → StopsAt literal after →
    ReadsCondition aim d part.Literal (term_tokens t (token.Mark mark.SameAs ∷ term_tokens u after)) after parts
    (condition.Same (placeless_term t) nowhere (placeless_term u))
unfolding program_grammar rows_of
same_read {parts = parts} t u free free_too low stops = λ row below next.
    goes (Once part.Term ∷ makes conditions.TermAlone ∷ Maybe part.LiteralRelation ∷ []) (inr (inr (inr (inr (inl refl)))))
    (term_read t free low (step_at_same _) (does (λ n. refl)
    (takes (makes conditions.TakeTermBack ∷ reads mark.SameAs ∷ mark_place ∷ Once part.Term ∷ makes conditions.SameAs ∷ []) (inl refl)
    (does (λ n. refl) (back {parts = parts} t (mark_with low (λ n. refl) (term_read u free_too low stops.1 (does (λ n. refl) (row_ends (row_ends next))))))))))

differ_read : {aim : Aim} {d : ℕ} {after : List TokenKind} {parts : Parts} (t u : Term) → IsFreeTerm t → IsFreeTerm u → d ≤ aim.top → StopsAt literal after →
    ReadsCondition aim d part.Literal (term_tokens t (token.Mark mark.NotSame ∷ term_tokens u after)) after parts
    (condition.Differ (placeless_term t) nowhere (placeless_term u))
unfolding program_grammar rows_of
differ_read {parts = parts} t u free free_too low stops = λ row below next.
    goes (Once part.Term ∷ makes conditions.TermAlone ∷ Maybe part.LiteralRelation ∷ []) (inr (inr (inr (inr (inl refl)))))
    (term_read t free low (step_at_not_same _) (does (λ n. refl)
    (takes (makes conditions.TakeTermBack ∷ reads mark.NotSame ∷ mark_place ∷ Once part.Term ∷ makes conditions.NotSameAs ∷ []) (inr (inl refl))
    (does (λ n. refl) (back {parts = parts} t (mark_with low (λ n. refl) (term_read u free_too low stops.1 (does (λ n. refl) (row_ends (row_ends next))))))))))

is_read : {aim : Aim} {d : ℕ} {after : List TokenKind} {parts : Parts} (t : Term) (variant : Name) → IsFreeTerm t → IsFree variant → d ≤ aim.top →
    ReadsCondition aim d part.Literal (term_tokens t (token.Mark mark.Colon ∷ name_tokens variant after)) after parts
    (condition.Is (placeless_term t) nowhere (placeless_name variant))
unfolding program_grammar rows_of
is_read {parts = parts} t variant free free_too low = λ row below next.
    goes (Once part.Term ∷ makes conditions.TermAlone ∷ Maybe part.LiteralRelation ∷ []) (inr (inr (inr (inr (inl refl)))))
    (term_read t free low (step_at_colon _) (does (λ n. refl)
    (takes (makes conditions.TakeTermBack ∷ reads mark.Colon ∷ mark_place ∷ Read kind.Name ∷ push_name ∷ makes conditions.OfVariant ∷ []) (inr (inr (inl refl)))
    (does (λ n. refl) (back {parts = parts} t
    (mark_with low (λ n. refl) (word_with (is_name free_too) low (λ n. refl) (does (λ n. refl) (row_ends (row_ends next))))))))))

-- ---- all conditions

mutual
  unfolding program_grammar rows_of

  pub condition_read : {aim : Aim} {d : ℕ} {after : List TokenKind} {parts : Parts} {p : ConditionPlace} {room : ℕ} {c : Condition} →
      IsCanonicalCondition p room c →
      d + room ≤ aim.top → StopsAt p after → ReadsCondition aim d (part_at p) (condition_tokens c (asks p) after) after parts (placeless_condition c)
  condition_read {aim} {d} (truth p room place) low stops =
      at_node p (Condition-F.True place) (condition.True place) (rolls-True place) (raised p stops (λ row below next.
      goes (Read kind.True ∷ makes conditions.TrueCondition ∷ []) (inr (inr (inl refl)))
      (word_with is_true (room_now d room aim.top low) (λ n. refl) (row_ends next))))
  condition_read {aim} {d} (falsehood p room place) low stops =
      at_node p (Condition-F.False place) (condition.False place) (rolls-False place) (raised p stops (λ row below next.
      goes (Read kind.False ∷ makes conditions.FalseCondition ∷ []) (inr (inr (inr (inl refl))))
      (word_with is_false (room_now d room aim.top low) (λ n. refl) (row_ends next))))
  condition_read {aim} {d} (term p room t free) low stops =
      at_node p (Condition-F.Truth t) (condition.Truth t) (rolls-Truth t) (raised p stops (λ row below next.
      goes (Once part.Term ∷ makes conditions.TermAlone ∷ Maybe part.LiteralRelation ∷ []) (inr (inr (inr (inr (inl refl)))))
      (term_read t free (room_now d room aim.top low) (lowest_stops p stops).1 (does (λ n. refl) (leaves (lowest_stops p stops).0 (row_ends next))))))
  condition_read {aim} {d} (same p room t place u free free_too) low stops =
      at_node p (Condition-F.Same t place u) (condition.Same t place u) (rolls-Same t place u)
      (raised p stops (same_read t u free free_too (room_now d room aim.top low) (lowest_stops p stops)))
  condition_read {aim} {d} (differ p room t place u free free_too) low stops =
      at_node p (Condition-F.Differ t place u) (condition.Differ t place u) (rolls-Differ t place u)
      (raised p stops (differ_read t u free free_too (room_now d room aim.top low) (lowest_stops p stops)))
  condition_read {aim} {d} (of_variant p room t place variant free free_too) low stops =
      at_node p (Condition-F.Is t place variant) (condition.Is t place variant) (rolls-Is t place variant)
      (raised p stops (is_read t variant free free_too (room_now d room aim.top low)))
  condition_read {aim} {d} (not p room place inner c) low stops =
      at_node p (Condition-F.Not place inner) (condition.Not place inner) (rolls-Not place inner) (raised p stops (λ row below next.
      goes (opens mark.Bang ∷ mark_place ∷ Once part.Literal ∷ makes conditions.NotCondition ∷ []) (inl refl)
      (mark_open_with (room_open d room aim.top low) (λ n. refl)
      (condition_read c (room_in d room aim.top low) (lowest_stops p stops) (makes conditions.NotCondition ∷ []) (Row row d below)
      (does (λ n. refl) (row_ends next))))))
  condition_read {aim} {d} {after} {parts} (and p room first others bare apart c cs) low stops =
      at_node p (Condition-F.And first others) (condition.And first others) (rolls-And first others)
      (subst (λ (b : Bool). ReadsCondition aim d (part_at p)
      (grouped b (chained mark.AndAlso 2 (condition_tokens first) (map condition_tokens others)) after) after parts
      (condition.And (placeless_condition first) (map placeless_condition others))) (sym bare)
      (lift_and p bare stops (λ s row below next.
      goes (Once part.Literal ∷ Many part.NextLiteral ∷ []) (inl refl)
      (condition_read c low (before_and_also (map condition_tokens others) after s) (Many part.NextLiteral ∷ []) (Row row d below)
      (more_literals {parts = parts} cs (placeless_condition first) (placeless_condition first) []
      (both_conditions-first first apart) low s (row_ends next))))))
  condition_read {aim} {d} {after} {parts} (or p room first others bare apart c cs) low stops =
      at_node p (Condition-F.Or first others) (condition.Or first others) (rolls-Or first others)
      (subst (λ (b : Bool). ReadsCondition aim d (part_at p)
      (grouped b (chained mark.OrElse 1 (condition_tokens first) (map condition_tokens others)) after) after parts
      (condition.Or (placeless_condition first) (map placeless_condition others))) (sym bare)
      (lift_or p bare stops (λ s row below next.
      goes (Once part.Conjunction ∷ Many part.NextConjunction ∷ []) (inl refl)
      (condition_read c low (before_or_else (map condition_tokens others) after s) (Many part.NextConjunction ∷ []) (Row row d below)
      (more_conjunctions {parts = parts} cs (placeless_condition first) (placeless_condition first) []
      (either_condition-first first apart) low s (row_ends next))))))
  condition_read {aim} {d} {after} {parts} (group p room c grouped_there whole_too) low stops =
      subst (λ l. ReadsCondition aim d (part_at p) l after parts (placeless_condition c)) (sym (grouped_there after)) (raised p stops (λ row below next.
      goes (opens mark.LeftParen ∷ Once part.Condition ∷ reads mark.RightParen ∷ []) (inr (inl refl))
      (mark_open (room_open d room aim.top low)
      (condition_read whole_too (room_in d room aim.top low) (at_right_paren after) (reads mark.RightParen ∷ []) (Row row d below)
      (mark (room_open d room aim.top low) (row_ends next))))))

  more_literals : {aim : Aim} {row : List ProgramSymbol} {d : ℕ} {below : ProgramStack} {after : List TokenKind}
      {parts : Parts} {room : ℕ} {others : List Condition} →
      AreCanonicalConditions literal room others → (first so_far : Condition) (done : List Condition) →
      ((o : Condition) → both_conditions so_far o ≡ condition.And first (done ++ o ∷ [])) →
      d + room ≤ aim.top → StopsAt conjunction after →
      Ends aim (Row row d below) after (record parts { conditions = condition.And first (done ++ map placeless_condition others) ∷ parts.conditions }) →
      Ends aim (Row (Many part.NextLiteral ∷ row) d below)
      (each_behind mark.AndAlso (λ other. other 2) (map condition_tokens others) after)
      (record parts { conditions = so_far ∷ parts.conditions })
  more_literals {aim} {row} {d} {below} {after} {parts} (last p room r c) first so_far done joins low stops next =
      goes_on (reads mark.AndAlso ∷ Once part.Literal ∷ makes conditions.JoinAndAlso ∷ []) (inl refl)
      (mark (room_now d room aim.top low)
      (condition_read c low (before_and_also [] after stops) (makes conditions.JoinAndAlso ∷ []) (Row (Many part.NextLiteral ∷ row) d below)
      (does (λ n. refl) (row_ends
      (subst
      (λ (l : Condition). Ends aim (Row (Many part.NextLiteral ∷ row) d below) after (record parts { conditions = l ∷ parts.conditions }))
      (sym (joins (placeless_condition r)))
      (stops_there stops.0 next))))))
  more_literals {aim} {row} {d} {below} {after} {parts} (more p room r others c cs) first so_far done joins low stops next =
      goes_on (reads mark.AndAlso ∷ Once part.Literal ∷ makes conditions.JoinAndAlso ∷ []) (inl refl)
      (mark (room_now d room aim.top low) (condition_read c low (before_and_also (map condition_tokens others) after stops)
      (makes conditions.JoinAndAlso ∷ []) (Row (Many part.NextLiteral ∷ row) d below)
      (does (λ n. refl) (row_ends
      (subst (λ (l : Condition). Ends aim (Row (Many part.NextLiteral ∷ row) d below)
      (each_behind mark.AndAlso (λ other. other 2) (map condition_tokens others) after)
      (record parts { conditions = l ∷ parts.conditions }))
      (sym (joins (placeless_condition r)))
      (more_literals {parts = parts} cs first (condition.And first (done ++ placeless_condition r ∷ []))
      (done ++ placeless_condition r ∷ []) (both_conditions-more first (done ++ placeless_condition r ∷ [])) low stops
      (subst (λ l. Ends aim (Row row d below) after (record parts { conditions = condition.And first l ∷ parts.conditions }))
      (sym (append_assoc done (placeless_condition r ∷ []) (map placeless_condition others))) next)))))))

  more_conjunctions : {aim : Aim} {row : List ProgramSymbol} {d : ℕ} {below : ProgramStack} {after : List TokenKind}
      {parts : Parts} {room : ℕ} {others : List Condition} →
      AreCanonicalConditions conjunction room others → (first so_far : Condition) (done : List Condition) →
      ((o : Condition) → either_condition so_far o ≡ condition.Or first (done ++ o ∷ [])) →
      d + room ≤ aim.top → StopsAt whole after →
      Ends aim (Row row d below) after (record parts { conditions = condition.Or first (done ++ map placeless_condition others) ∷ parts.conditions }) →
      Ends aim (Row (Many part.NextConjunction ∷ row) d below)
      (each_behind mark.OrElse (λ other. other 1) (map condition_tokens others) after)
      (record parts { conditions = so_far ∷ parts.conditions })
  more_conjunctions {aim} {row} {d} {below} {after} {parts} (last p room r c) first so_far done joins low stops next =
      goes_on (reads mark.OrElse ∷ Once part.Conjunction ∷ makes conditions.JoinOrElse ∷ []) (inl refl)
      (mark (room_now d room aim.top low)
      (condition_read c low (before_or_else [] after stops) (makes conditions.JoinOrElse ∷ []) (Row (Many part.NextConjunction ∷ row) d below)
      (does (λ n. refl) (row_ends
      (subst
      (λ (l : Condition). Ends aim (Row (Many part.NextConjunction ∷ row) d below) after (record parts { conditions = l ∷ parts.conditions }))
      (sym (joins (placeless_condition r)))
      (stops_there stops.0 next))))))
  more_conjunctions {aim} {row} {d} {below} {after} {parts} (more p room r others c cs) first so_far done joins low stops next =
      goes_on (reads mark.OrElse ∷ Once part.Conjunction ∷ makes conditions.JoinOrElse ∷ []) (inl refl)
      (mark (room_now d room aim.top low) (condition_read c low (before_or_else (map condition_tokens others) after stops)
      (makes conditions.JoinOrElse ∷ []) (Row (Many part.NextConjunction ∷ row) d below)
      (does (λ n. refl) (row_ends
      (subst (λ (l : Condition). Ends aim (Row (Many part.NextConjunction ∷ row) d below)
      (each_behind mark.OrElse (λ other. other 1) (map condition_tokens others) after)
      (record parts { conditions = l ∷ parts.conditions }))
      (sym (joins (placeless_condition r)))
      (more_conjunctions {parts = parts} cs first (condition.Or first (done ++ placeless_condition r ∷ []))
      (done ++ placeless_condition r ∷ []) (either_condition-more first (done ++ placeless_condition r ∷ [])) low stops
      (subst (λ l. Ends aim (Row row d below) after (record parts { conditions = condition.Or first l ∷ parts.conditions }))
      (sym (append_assoc done (placeless_condition r ∷ []) (map placeless_condition others))) next)))))))
