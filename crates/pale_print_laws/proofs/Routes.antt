-- Routes are read as they are spelled.
use Rattle.std.specs.Prelude.{nat_lt}
use Rattle.std.proofs.Common.{◌≡◌, ℕ, ◌+◌, ◌≤◌, Bool, true, false, List, [], ◌∷◌, ◌++◌, map, refl, sym, subst, append_assoc, inl, inr}
use Rattle.ll1_reader.specs.declared.symbol.Symbol.TheVariants.{Read, Once, Maybe, Many}
use Rattle.ll1_reader.specs.Readings.{Row}
use Rattle.pale_syntax.specs.declared.grammar.act.RouteAct.TheVariants as routes
use Rattle.pale_syntax.specs.declared.grammar.kind.ProgramKind.TheVariants as kind
use Rattle.pale_syntax.specs.declared.grammar.part.ProgramPart.{ProgramPart}
use Rattle.pale_syntax.specs.declared.grammar.part.ProgramPart.TheVariants as part
use Rattle.pale_text.specs.declared.place.Pos.{Pos}
use Rattle.pale_text.specs.declared.token.Mark.TheVariants as mark
use Rattle.pale_text.specs.declared.token.TokenKind.{TokenKind}
use Rattle.pale_text.specs.declared.token.TokenKind.TheVariants as token
use Rattle.pale_syntax.specs.declared.tree.route.Route.{Route, roll-Route}
use Rattle.pale_syntax.specs.declared.tree.route.Route.TheVariants as route
use Rattle.pale_syntax.specs.declared.tree.route.Route.TheVariants.{rolls-Down, rolls-Up, rolls-UpAny, rolls-Root, rolls-Leaf}
use Rattle.pale_syntax.specs.declared.tree.route.Route.TheVariants.{rolls-IsType, rolls-IsVariant, rolls-IsBool, rolls-Then}
use Rattle.pale_syntax.specs.declared.tree.route.Route.TheVariants.{rolls-Or, rolls-Star}
use Rattle.pale_syntax.specs.declared.tree.route.Route.TheOpen.{Route-F}
use Rattle.pale_syntax.specs.declared.tree.route.Route.TheFolds.{fold-roll-Route, map-Route}
use Rattle.pale_syntax.specs.MakingParts.{Parts}
use Rattle.pale_syntax.specs.MakingRoutes.{joined_then, joined_or, starred}
use Rattle.pale_syntax.specs.ProgramGrammar.{ProgramSymbol, program_grammar, rows_of, reads, opens, push_name, route as makes}
use Rattle.pale_parse.specs.Productions.{program_rules, productions_of}
use Rattle.pale_parse.specs.ParseTable.{number_of, first_set, program_table, mark_number}
use Rattle.pale_print.specs.Placeless.{nowhere, placeless_name, placeless_route_node, placeless_route}
use Rattle.pale_print.specs.Tokens.{each_behind}
use Rattle.pale_print.specs.RouteTokens.{Placed, grouped, chained, stars, route_node, route_tokens}
use Rattle.pale_print_laws.specs.CanonicalRoutes.{RoutePlace, whole, sequence, repeated, single, asks, IsCanonicalRoute, down}
use Rattle.pale_print_laws.specs.CanonicalRoutes.{up, up_any, root, leaf, is_type, is_variant, is_bool, then, or, star, group}
use Rattle.pale_print_laws.specs.CanonicalRoutes.{AreCanonicalRoutes, last, more}
use Rattle.pale_print_laws.proofs.Framework.{ProgramStack, Stops, Aim, Ends, room_now, room_open, room_in, mark, mark_with}
use Rattle.pale_print_laws.proofs.Framework.{mark_open, word, word_with, does, row_ends, goes, takes, leaves, goes_on}
use Rattle.pale_print_laws.proofs.Framework.{stops_there}
use Rattle.pale_print_laws.proofs.RouteShapes.{joined_then-first, joined_then-more, joined_or-first, joined_or-more, starred-first, starred-more, tested-type}
use Rattle.pale_print_laws.proofs.Stopping.{at_mark}
use Rattle.pale_print_laws.proofs.Words.{is_name, is_root}

-- these tokens, and then those after them, are read as the part, and this route is made
abbrev pub ReadsRoute : Aim → ℕ → ProgramPart → List TokenKind → List TokenKind → Parts → Route → Type 0
ReadsRoute aim d n tokens after parts r =
    (row : List ProgramSymbol) (below : ProgramStack) → Ends aim (Row row d below) after (record parts { routes = r ∷ parts.routes }) →
    Ends aim (Row (Once n ∷ row) d below) tokens parts

abbrev pub part_at : RoutePlace → ProgramPart
part_at whole = part.Route
part_at sequence = part.Sequence
part_at repeated = part.Repeated
part_at single = part.Step

-- a route at this place doesn't go on with these tokens
abbrev pub StopsAt : RoutePlace → List TokenKind → Type 0
StopsAt single after = Stops part.UpName after × Stops part.VariantTest after
StopsAt repeated after = Stops part.Star after × Stops part.UpName after × Stops part.VariantTest after
StopsAt sequence after = Stops part.NextRepeated after × Stops part.Star after × Stops part.UpName after × Stops part.VariantTest after
StopsAt whole after =
    Stops part.NextAlternative after × Stops part.NextRepeated after × Stops part.Star after × Stops part.UpName after × Stops part.VariantTest after

sequence_stops : {after : List TokenKind} → StopsAt whole after → StopsAt sequence after
sequence_stops s = (s.1, s.2, s.3, s.4)

repeated_stops : {after : List TokenKind} → StopsAt sequence after → StopsAt repeated after
repeated_stops s = (s.1, s.2, s.3)

single_stops : {after : List TokenKind} → StopsAt repeated after → StopsAt single after
single_stops s = (s.1, s.2)

step_stops : (p : RoutePlace) {after : List TokenKind} → StopsAt p after → StopsAt single after
step_stops whole s = (s.3, s.4)
step_stops sequence s = (s.2, s.3)
step_stops repeated s = (s.1, s.2)
step_stops single s = s

at_right_paren : (after : List TokenKind) → StopsAt whole (token.Mark mark.RightParen ∷ after)
unfolding program_rules program_table productions_of first_set number_of mark_number
at_right_paren after = (at_mark refl, at_mark refl, at_mark refl, at_mark refl, at_mark refl)

pub at_right_bracket : (after : List TokenKind) → StopsAt whole (token.Mark mark.RightBracket ∷ after)
unfolding program_rules program_table productions_of first_set number_of mark_number
at_right_bracket after = (at_mark refl, at_mark refl, at_mark refl, at_mark refl, at_mark refl)

pub at_greater : (after : List TokenKind) → StopsAt whole (token.Mark mark.Greater ∷ after)
unfolding program_rules program_table productions_of first_set number_of mark_number
at_greater after = (at_mark refl, at_mark refl, at_mark refl, at_mark refl, at_mark refl)

at_plus : (after : List TokenKind) → StopsAt sequence (token.Mark mark.Plus ∷ after)
unfolding program_rules program_table productions_of first_set number_of mark_number
at_plus after = (at_mark refl, at_mark refl, at_mark refl, at_mark refl)

at_dot : (after : List TokenKind) → StopsAt repeated (token.Mark mark.Dot ∷ after)
unfolding program_rules program_table productions_of first_set number_of mark_number
at_dot after = (at_mark refl, at_mark refl, at_mark refl)

at_star : (after : List TokenKind) → StopsAt single (token.Mark mark.Star ∷ after)
unfolding program_rules program_table productions_of first_set number_of mark_number
at_star after = (at_mark refl, at_mark refl)

before_alternatives : (ts : List Placed) (after : List TokenKind) → StopsAt whole after → StopsAt sequence (each_behind mark.Plus (λ other. other 1) ts after)
before_alternatives [] after s = sequence_stops s
before_alternatives (t ∷ ts) after s = at_plus (t 1 (each_behind mark.Plus (λ other. other 1) ts after))

before_dots : (ts : List Placed) (after : List TokenKind) → StopsAt sequence after → StopsAt repeated (each_behind mark.Dot (λ other. other 2) ts after)
before_dots [] after s = repeated_stops s
before_dots (t ∷ ts) after s = at_dot (t 2 (each_behind mark.Dot (λ other. other 2) ts after))

-- ---- a step at a place that asks for less

as_repeated : {aim : Aim} {d : ℕ} {tokens after : List TokenKind} {parts : Parts} {r : Route} → StopsAt repeated after →
    ReadsRoute aim d part.Step tokens after parts r → ReadsRoute aim d part.Repeated tokens after parts r
unfolding program_grammar rows_of
as_repeated {d = d} stops read = λ row below next.
    goes (Once part.Step ∷ Many part.Star ∷ []) (inl refl) (read (Many part.Star ∷ []) (Row row d below) (stops_there stops.0 (row_ends next)))

as_sequence : {aim : Aim} {d : ℕ} {tokens after : List TokenKind} {parts : Parts} {r : Route} → StopsAt sequence after →
    ReadsRoute aim d part.Repeated tokens after parts r → ReadsRoute aim d part.Sequence tokens after parts r
unfolding program_grammar rows_of
as_sequence {d = d} stops read = λ row below next.
    goes (Once part.Repeated ∷ Many part.NextRepeated ∷ []) (inl refl)
    (read (Many part.NextRepeated ∷ []) (Row row d below) (stops_there stops.0 (row_ends next)))

as_whole : {aim : Aim} {d : ℕ} {tokens after : List TokenKind} {parts : Parts} {r : Route} → StopsAt whole after →
    ReadsRoute aim d part.Sequence tokens after parts r → ReadsRoute aim d part.Route tokens after parts r
unfolding program_grammar rows_of
as_whole {d = d} stops read = λ row below next.
    goes (Once part.Sequence ∷ Many part.NextAlternative ∷ []) (inl refl)
    (read (Many part.NextAlternative ∷ []) (Row row d below) (stops_there stops.0 (row_ends next)))

raised : {aim : Aim} {d : ℕ} {tokens after : List TokenKind} {parts : Parts} {r : Route} (p : RoutePlace) → StopsAt p after →
    ReadsRoute aim d part.Step tokens after parts r → ReadsRoute aim d (part_at p) tokens after parts r
raised whole stops read = as_whole stops (as_sequence (sequence_stops stops) (as_repeated (repeated_stops (sequence_stops stops)) read))
raised sequence stops read = as_sequence stops (as_repeated (repeated_stops stops) read)
raised repeated stops read = as_repeated stops read
raised single stops read = read

-- what is read by a node is read by its route
at_node : {aim : Aim} {d : ℕ} {n : ProgramPart} {after : List TokenKind} {parts : Parts} (p : RoutePlace) (x : Route-F Route) (r : Route) → roll-Route x ≡ r →
    ReadsRoute aim d n (route_node (map-Route Route Placed route_tokens x) (asks p) after) after parts
    (placeless_route_node (map-Route Route Route placeless_route x)) →
    ReadsRoute aim d n (route_tokens r (asks p) after) after parts (placeless_route r)
unfolding route_tokens placeless_route
at_node {aim} {d} {n} {after} {parts} p x r is h =
    subst (λ r. ReadsRoute aim d n (route_tokens r (asks p) after) after parts (placeless_route r)) is
    (subst (λ r. ReadsRoute aim d n (route_tokens (roll-Route x) (asks p) after) after parts r) (sym (fold-roll-Route Route placeless_route_node x))
    (subst (λ (t : Placed). ReadsRoute aim d n (t (asks p) after) after parts (placeless_route_node (map-Route Route Route placeless_route x)))
    (sym (fold-roll-Route Placed route_node x)) h))

-- ---- chains

-- the stars behind a route
more_stars : {aim : Aim} {row : List ProgramSymbol} {d : ℕ} {below : ProgramStack} {after : List TokenKind} {parts : Parts}
    (inner so_far : Route) (done : List Pos) (place : Pos) (places : List Pos) →
    ((star : Pos) → starred so_far star ≡ route.Star inner (done ++ star ∷ [])) → d ≤ aim.top → StopsAt repeated after →
    Ends aim (Row row d below) after (record parts { routes = route.Star inner (done ++ nowhere ∷ map (λ place. nowhere) places) ∷ parts.routes }) →
    Ends aim (Row (Many part.Star ∷ row) d below) (token.Mark mark.Star ∷ stars places after) (record parts { routes = so_far ∷ parts.routes })
unfolding program_grammar rows_of
more_stars {aim} {row} {d} {below} {after} {parts} inner so_far done place [] joins low stops next =
    goes_on (reads mark.Star ∷ makes routes.AddStar ∷ []) (inl refl)
    (mark_with low (λ n. refl) (row_ends
    (subst (λ (l : Route). Ends aim (Row (Many part.Star ∷ row) d below) after (record parts { routes = l ∷ parts.routes })) (sym (joins nowhere))
    (stops_there stops.0 next))))
more_stars {aim} {row} {d} {below} {after} {parts} inner so_far done place (second ∷ places) joins low stops next =
    goes_on (reads mark.Star ∷ makes routes.AddStar ∷ []) (inl refl)
    (mark_with low (λ n. refl) (row_ends
    (subst (λ (l : Route). Ends aim (Row (Many part.Star ∷ row) d below) (token.Mark mark.Star ∷ stars places after)
    (record parts { routes = l ∷ parts.routes })) (sym (joins nowhere))
    (more_stars {parts = parts} inner (route.Star inner (done ++ nowhere ∷ [])) (done ++ nowhere ∷ []) second places
    (starred-more inner (done ++ nowhere ∷ [])) low stops
    (subst (λ l. Ends aim (Row row d below) after (record parts { routes = route.Star inner l ∷ parts.routes }))
    (sym (append_assoc done (nowhere ∷ []) (nowhere ∷ map (λ p. nowhere) places))) next)))))

-- ---- a chain at a place that asks for less

lift_then : {aim : Aim} {d : ℕ} {tokens after : List TokenKind} {parts : Parts} {r : Route} (p : RoutePlace) → nat_lt 1 (asks p) ≡ false → StopsAt p after →
    (StopsAt sequence after → ReadsRoute aim d part.Sequence tokens after parts r) → ReadsRoute aim d (part_at p) tokens after parts r
lift_then whole bare stops read = as_whole stops (read (sequence_stops stops))
lift_then sequence bare stops read = read stops
lift_then repeated bare stops read = absurd (cc bare)
lift_then single bare stops read = absurd (cc bare)

lift_or : {aim : Aim} {d : ℕ} {tokens after : List TokenKind} {parts : Parts} {r : Route} (p : RoutePlace) → nat_lt 0 (asks p) ≡ false → StopsAt p after →
    (StopsAt whole after → ReadsRoute aim d part.Route tokens after parts r) → ReadsRoute aim d (part_at p) tokens after parts r
lift_or whole bare stops read = read stops
lift_or sequence bare stops read = absurd (cc bare)
lift_or repeated bare stops read = absurd (cc bare)
lift_or single bare stops read = absurd (cc bare)

lift_star : {aim : Aim} {d : ℕ} {tokens after : List TokenKind} {parts : Parts} {r : Route} (p : RoutePlace) → nat_lt 2 (asks p) ≡ false → StopsAt p after →
    (StopsAt repeated after → ReadsRoute aim d part.Repeated tokens after parts r) → ReadsRoute aim d (part_at p) tokens after parts r
lift_star whole bare stops read = as_whole stops (as_sequence (sequence_stops stops) (read (repeated_stops (sequence_stops stops))))
lift_star sequence bare stops read = as_sequence stops (read (repeated_stops stops))
lift_star repeated bare stops read = read stops
lift_star single bare stops read = absurd (cc bare)

-- ---- all routes

mutual
  unfolding program_grammar rows_of

  pub route_read : {aim : Aim} {d : ℕ} {after : List TokenKind} {parts : Parts} {p : RoutePlace} {room : ℕ} {r : Route} →
      IsCanonicalRoute p room r → d + room ≤ aim.top → StopsAt p after →
      ReadsRoute aim d (part_at p) (route_tokens r (asks p) after) after parts (placeless_route r)
  route_read {aim} {d} {after} {parts} (down p room f free) low stops =
      at_node p (Route-F.Down f) (route.Down f) (rolls-Down f) (raised p stops (λ row below next.
      goes (Read kind.Name ∷ push_name ∷ makes routes.Down ∷ []) (inl refl)
      (word_with (is_name free) (room_now d room aim.top low) (λ n. refl) (does (λ n. refl) (row_ends next)))))
  route_read {aim} {d} {after} {parts} (up p room f free) low stops =
      at_node p (Route-F.Up f) (route.Up f) (rolls-Up f) (raised p stops (λ row below next.
      goes (reads mark.Caret ∷ makes routes.UpAny ∷ Maybe part.UpName ∷ []) (inr (inl refl)) (mark (room_now d room aim.top low) (does (λ n. refl)
      (takes (Read kind.Name ∷ push_name ∷ makes routes.NameUp ∷ []) (inl refl)
      (word_with (is_name free) (room_now d room aim.top low) (λ n. refl) (does (λ n. refl) (row_ends (row_ends next)))))))))
  route_read {aim} {d} {after} {parts} (up_any p room) low stops =
      at_node p Route-F.UpAny route.UpAny rolls-UpAny (raised p stops (λ row below next.
      goes (reads mark.Caret ∷ makes routes.UpAny ∷ Maybe part.UpName ∷ []) (inr (inl refl)) (mark (room_now d room aim.top low) (does (λ n. refl)
      (leaves (step_stops p stops).0 (row_ends next))))))
  route_read {aim} {d} {after} {parts} (root p room) low stops =
      at_node p Route-F.Root route.Root rolls-Root (raised p stops (λ row below next.
      goes (Read kind.Root ∷ makes routes.Root ∷ []) (inr (inr (inr (inl refl))))
      (word is_root (room_now d room aim.top low) (does (λ n. refl) (row_ends next)))))
  route_read {aim} {d} {after} {parts} (leaf p room) low stops =
      at_node p Route-F.Leaf route.Leaf rolls-Leaf (raised p stops (λ row below next.
      goes (reads mark.Dollar ∷ makes routes.Leaf ∷ []) (inr (inr (inl refl))) (mark (room_now d room aim.top low) (does (λ n. refl) (row_ends next)))))
  route_read {aim} {d} {after} {parts} (is_type p room ty free) low stops =
      at_node p (Route-F.IsType ty) (route.IsType ty) (rolls-IsType ty) (raised p stops (λ row below next.
      goes (reads mark.At ∷ Read kind.Name ∷ push_name ∷ makes routes.IsType ∷ Maybe part.VariantTest ∷ []) (inr (inr (inr (inr (inl refl)))))
      (mark (room_now d room aim.top low) (word_with (is_name free) (room_now d room aim.top low) (λ n. refl) (does (λ n. refl)
      (leaves (step_stops p stops).1 (row_ends next)))))))
  route_read {aim} {d} {after} {parts} (is_variant p room ty variant free free_too) low stops =
      at_node p (Route-F.IsVariant ty variant) (route.IsVariant ty variant) (rolls-IsVariant ty variant) (raised p stops (λ row below next.
      goes (reads mark.At ∷ Read kind.Name ∷ push_name ∷ makes routes.IsType ∷ Maybe part.VariantTest ∷ []) (inr (inr (inr (inr (inl refl)))))
      (mark (room_now d room aim.top low) (word_with (is_name free) (room_now d room aim.top low) (λ n. refl) (does (λ n. refl)
      (takes (reads mark.Colon ∷ Read kind.Name ∷ push_name ∷ makes routes.NarrowToVariant ∷ []) (inl refl)
      (mark (room_now d room aim.top low) (word_with (is_name free_too) (room_now d room aim.top low) (λ n. refl) (does (λ n. refl) (row_ends (row_ends
      (subst
      (λ l. Ends aim (Row row d below) after (record parts { routes = route.IsVariant l (placeless_name variant) ∷ parts.routes }))
      (sym (tested-type (placeless_name ty))) next))))))))))))
  route_read {aim} {d} {after} {parts} (is_bool p room f true free) low stops =
      at_node p (Route-F.IsBool f true) (route.IsBool f true) (rolls-IsBool f true) (raised p stops (λ row below next.
      goes (reads mark.Question ∷ Read kind.Name ∷ push_name ∷ makes routes.IsTrue ∷ []) (inr (inr (inr (inr (inr (inl refl))))))
      (mark (room_now d room aim.top low) (word_with (is_name free) (room_now d room aim.top low) (λ n. refl) (does (λ n. refl) (row_ends next))))))
  route_read {aim} {d} {after} {parts} (is_bool p room f false free) low stops =
      at_node p (Route-F.IsBool f false) (route.IsBool f false) (rolls-IsBool f false) (raised p stops (λ row below next.
      goes (reads mark.Bang ∷ Read kind.Name ∷ push_name ∷ makes routes.IsFalse ∷ []) (inr (inr (inr (inr (inr (inr (inl refl)))))))
      (mark (room_now d room aim.top low) (word_with (is_name free) (room_now d room aim.top low) (λ n. refl) (does (λ n. refl) (row_ends next))))))
  route_read {aim} {d} {after} {parts} (then p room first others bare apart c cs) low stops =
      at_node p (Route-F.Then first others) (route.Then first others) (rolls-Then first others)
      (subst (λ (b : Bool). ReadsRoute aim d (part_at p) (grouped b (chained mark.Dot 2 (route_tokens first) (map route_tokens others)) after) after parts
      (route.Then (placeless_route first) (map placeless_route others))) (sym bare)
      (lift_then p bare stops (λ s row below next.
      goes (Once part.Repeated ∷ Many part.NextRepeated ∷ []) (inl refl)
      (route_read c low (before_dots (map route_tokens others) after s) (Many part.NextRepeated ∷ []) (Row row d below)
      (more_repeated {parts = parts} cs (placeless_route first) (placeless_route first) [] (joined_then-first first apart) low s (row_ends next))))))
  route_read {aim} {d} {after} {parts} (or p room first others bare apart c cs) low stops =
      at_node p (Route-F.Or first others) (route.Or first others) (rolls-Or first others)
      (subst (λ (b : Bool). ReadsRoute aim d (part_at p) (grouped b (chained mark.Plus 1 (route_tokens first) (map route_tokens others)) after) after parts
      (route.Or (placeless_route first) (map placeless_route others))) (sym bare)
      (lift_or p bare stops (λ s row below next.
      goes (Once part.Sequence ∷ Many part.NextAlternative ∷ []) (inl refl)
      (route_read c low (before_alternatives (map route_tokens others) after s) (Many part.NextAlternative ∷ []) (Row row d below)
      (more_alternatives {parts = parts} cs (placeless_route first) (placeless_route first) [] (joined_or-first first apart) low s (row_ends next))))))
  route_read {aim} {d} {after} {parts} (star p room inner place places bare apart c) low stops =
      at_node p (Route-F.Star inner (place ∷ places)) (route.Star inner (place ∷ places)) (rolls-Star inner (place ∷ places))
      (subst (λ (b : Bool). ReadsRoute aim d (part_at p) (grouped b (λ then. route_tokens inner 3 (stars (place ∷ places) then)) after) after parts
      (route.Star (placeless_route inner) (map (λ place. nowhere) (place ∷ places)))) (sym bare)
      (lift_star p bare stops (λ s row below next.
      goes (Once part.Step ∷ Many part.Star ∷ []) (inl refl)
      (route_read c low (at_star _) (Many part.Star ∷ []) (Row row d below)
      (more_stars {parts = parts} (placeless_route inner) (placeless_route inner) [] place places (starred-first inner apart)
      (room_now d room aim.top low) s (row_ends next))))))
  route_read {aim} {d} {after} {parts} (group p room r grouped_there c) low stops =
      subst (λ l. ReadsRoute aim d (part_at p) l after parts (placeless_route r)) (sym (grouped_there after)) (raised p stops (λ row below next.
      goes (opens mark.LeftParen ∷ Once part.Route ∷ reads mark.RightParen ∷ []) (inr (inr (inr (inr (inr (inr (inr (inl refl))))))))
      (mark_open (room_open d room aim.top low) (route_read c (room_in d room aim.top low) (at_right_paren after) (reads mark.RightParen ∷ []) (Row row d below)
      (mark (room_open d room aim.top low) (row_ends next))))))

  more_repeated : {aim : Aim} {row : List ProgramSymbol} {d : ℕ} {below : ProgramStack} {after : List TokenKind}
      {parts : Parts} {room : ℕ} {others : List Route} →
      AreCanonicalRoutes repeated room others → (first so_far : Route) (done : List Route) →
      ((o : Route) → joined_then so_far o ≡ route.Then first (done ++ o ∷ [])) →
      d + room ≤ aim.top → StopsAt sequence after →
      Ends aim (Row row d below) after (record parts { routes = route.Then first (done ++ map placeless_route others) ∷ parts.routes }) →
      Ends aim (Row (Many part.NextRepeated ∷ row) d below)
      (each_behind mark.Dot (λ other. other 2) (map route_tokens others) after)
      (record parts { routes = so_far ∷ parts.routes })
  more_repeated {aim} {row} {d} {below} {after} {parts} (last p room r c) first so_far done joins low stops next =
      goes_on (reads mark.Dot ∷ Once part.Repeated ∷ makes routes.JoinThen ∷ []) (inl refl)
      (mark (room_now d room aim.top low)
      (route_read c low (before_dots [] after stops) (makes routes.JoinThen ∷ []) (Row (Many part.NextRepeated ∷ row) d below)
      (does (λ n. refl) (row_ends
      (subst
      (λ (l : Route). Ends aim (Row (Many part.NextRepeated ∷ row) d below) after (record parts { routes = l ∷ parts.routes }))
      (sym (joins (placeless_route r)))
      (stops_there stops.0 next))))))
  more_repeated {aim} {row} {d} {below} {after} {parts} (more p room r others c cs) first so_far done joins low stops next =
      goes_on (reads mark.Dot ∷ Once part.Repeated ∷ makes routes.JoinThen ∷ []) (inl refl)
      (mark (room_now d room aim.top low) (route_read c low (before_dots (map route_tokens others) after stops)
      (makes routes.JoinThen ∷ []) (Row (Many part.NextRepeated ∷ row) d below)
      (does (λ n. refl) (row_ends
      (subst (λ (l : Route). Ends aim (Row (Many part.NextRepeated ∷ row) d below)
      (each_behind mark.Dot (λ other. other 2) (map route_tokens others) after) (record parts { routes = l ∷ parts.routes }))
      (sym (joins (placeless_route r)))
      (more_repeated {parts = parts} cs first (route.Then first (done ++ placeless_route r ∷ []))
      (done ++ placeless_route r ∷ []) (joined_then-more first (done ++ placeless_route r ∷ [])) low stops
      (subst (λ l. Ends aim (Row row d below) after (record parts { routes = route.Then first l ∷ parts.routes }))
      (sym (append_assoc done (placeless_route r ∷ []) (map placeless_route others))) next)))))))

  more_alternatives : {aim : Aim} {row : List ProgramSymbol} {d : ℕ} {below : ProgramStack} {after : List TokenKind}
      {parts : Parts} {room : ℕ} {others : List Route} →
      AreCanonicalRoutes sequence room others → (first so_far : Route) (done : List Route) →
      ((o : Route) → joined_or so_far o ≡ route.Or first (done ++ o ∷ [])) →
      d + room ≤ aim.top → StopsAt whole after →
      Ends aim (Row row d below) after (record parts { routes = route.Or first (done ++ map placeless_route others) ∷ parts.routes }) →
      Ends aim (Row (Many part.NextAlternative ∷ row) d below)
      (each_behind mark.Plus (λ other. other 1) (map route_tokens others) after)
      (record parts { routes = so_far ∷ parts.routes })
  more_alternatives {aim} {row} {d} {below} {after} {parts} (last p room r c) first so_far done joins low stops next =
      goes_on (reads mark.Plus ∷ Once part.Sequence ∷ makes routes.JoinOr ∷ []) (inl refl)
      (mark (room_now d room aim.top low)
      (route_read c low (before_alternatives [] after stops) (makes routes.JoinOr ∷ []) (Row (Many part.NextAlternative ∷ row) d below)
      (does (λ n. refl) (row_ends
      (subst
      (λ (l : Route). Ends aim (Row (Many part.NextAlternative ∷ row) d below) after (record parts { routes = l ∷ parts.routes }))
      (sym (joins (placeless_route r)))
      (stops_there stops.0 next))))))
  more_alternatives {aim} {row} {d} {below} {after} {parts} (more p room r others c cs) first so_far done joins low stops next =
      goes_on (reads mark.Plus ∷ Once part.Sequence ∷ makes routes.JoinOr ∷ []) (inl refl)
      (mark (room_now d room aim.top low) (route_read c low (before_alternatives (map route_tokens others) after stops)
      (makes routes.JoinOr ∷ []) (Row (Many part.NextAlternative ∷ row) d below)
      (does (λ n. refl) (row_ends
      (subst (λ (l : Route). Ends aim (Row (Many part.NextAlternative ∷ row) d below)
      (each_behind mark.Plus (λ other. other 1) (map route_tokens others) after) (record parts { routes = l ∷ parts.routes }))
      (sym (joins (placeless_route r)))
      (more_alternatives {parts = parts} cs first (route.Or first (done ++ placeless_route r ∷ []))
      (done ++ placeless_route r ∷ []) (joined_or-more first (done ++ placeless_route r ∷ [])) low stops
      (subst (λ l. Ends aim (Row row d below) after (record parts { routes = route.Or first l ∷ parts.routes }))
      (sym (append_assoc done (placeless_route r ∷ []) (map placeless_route others))) next)))))))
