-- Grammars with the same rows under other names have the same readings and the same answers.
use Rattle.std.proofs.Common.{◌≡◌, ℕ, List, [], ◌∷◌, ◌++◌, map, take, drop, inl, inr, sym, ap, subst, refl}
use Rattle.std.specs.Prelude.{MatchResult, IsOkUnless, Result, Ok, Err}
use Rattle.ll1_reader.specs.declared.symbol.Symbol.{Symbol}
use Rattle.ll1_reader.specs.declared.symbol.Symbol.TheVariants.{Many}
use Rattle.ll1_reader.specs.declared.symbol.Event.{Event}
use Rattle.ll1_reader.specs.declared.stop.ReadStop.{ReadStop}
use Rattle.ll1_reader.specs.declared.stop.ReadStop.TheVariants as stop
use Rattle.ll1_reader.specs.Grammars.{Rows, Rules, IsOneOf, rules_of}
use Rattle.ll1_reader.specs.Predicting.{AreNamed}
use Rattle.ll1_reader.specs.Readings.{Stack, Bottom, Row, Step, Reads, over, row_over, read, opened, acted, once, taken}
use Rattle.ll1_reader.specs.Readings.{left_out, again, ended, AnyEnd, IsNotBegun, IsAnyReading, IsReading}
use Rattle.ll1_reader.specs.Answers.{levels, AreLow, IsParsed, NoneGoesOn}
use Rattle.ll1_reader.specs.Stops.{IsStop}
use Rattle.ll1_reader.proofs.CompleteLemmas.{not_wrong, not_deep}

module _ {N P Q A K : Type 0} (one : Rules N P A K) (other : Rules N Q A K) where
  -- each row of the one is a row of the other
  abbrev pub Has : Type 0
  Has = (n : N) (p : P) → IsOneOf p (one.productions n) → (q : Q) × IsOneOf q (other.productions n) × (other.row q ≡ one.row p)

  -- a reading by the one is a reading by the other, where as much may end
  pub carried : (M : N → List K → Type 0) (M' : N → List K → Type 0) → Has → ((n : N) (ks : List K) → M n ks → M' n ks) →
      {s : Stack N A K} {ks : List K} {steps : List (Step A)} → Reads one M s ks steps → Reads other M' s ks steps
  carried M M' has f over = over
  carried M M' has f (row_over d below ks steps r) = row_over d below ks steps (carried M M' has f r)
  carried M M' has f (read k row d below ks steps r) = read k row d below ks steps (carried M M' has f r)
  carried M M' has f (opened k row d below ks steps r) = opened k row d below ks steps (carried M M' has f r)
  carried M M' has f (acted a row d below ks steps r) = acted a row d below ks steps (carried M M' has f r)
  carried M M' has f (once n p row d below ks steps i r) =
      let q = has n p i in
      once n q.0 row d below ks steps q.1
      (subst (λ (x : List (Symbol N A K)). Reads other M' (Row x d (Row row d below)) ks steps) (sym q.2) (carried M M' has f r))
  carried M M' has f (taken n p row d below ks steps i r) =
      let q = has n p i in
      taken n q.0 row d below ks steps q.1
      (subst (λ (x : List (Symbol N A K)). Reads other M' (Row x d (Row row d below)) ks steps) (sym q.2) (carried M M' has f r))
  carried M M' has f (left_out n row d below ks steps m r) = left_out n row d below ks steps (f n ks m) (carried M M' has f r)
  carried M M' has f (again n p row d below ks steps i r) =
      let q = has n p i in
      again n q.0 row d below ks steps q.1
      (subst (λ (x : List (Symbol N A K)). Reads other M' (Row x d (Row (Many n ∷ row) d below)) ks steps) (sym q.2) (carried M M' has f r))
  carried M M' has f (ended n row d below ks steps m r) = ended n row d below ks steps (f n ks m) (carried M M' has f r)

module _ {N P Q A K : Type 0} (one : Rules N P A K) (other : Rules N Q A K) (has : Has one other) (back : Has other one) where
  -- what begins no sentence by the one begins none by the other
  not_begun_too : (n : N) (ks : List K) → IsNotBegun one n ks → IsNotBegun other n ks
  not_begun_too n [] h = tt
  not_begun_too n (k ∷ _) h = λ after steps r. h after steps (carried other one (AnyEnd other) (AnyEnd one) back (λ m xs u. tt) r)

  pub any_too : {s : Stack N A K} {ks : List K} {steps : List (Step A)} → Reads one (AnyEnd one) s ks steps → Reads other (AnyEnd other) s ks steps
  any_too r = carried one other (AnyEnd one) (AnyEnd other) has (λ m xs u. tt) r

  pub counts_too : {s : Stack N A K} {ks : List K} {steps : List (Step A)} → Reads one (IsNotBegun one) s ks steps → Reads other (IsNotBegun other) s ks steps
  counts_too r = carried one other (IsNotBegun one) (IsNotBegun other) has not_begun_too r

module _ {N P A K : Type 0} (grammar : Rows N A K) (rules : Rules N P A K) (named : AreNamed grammar rules) where
  one_of_map : (ps : List P) (row : List (Symbol N A K)) → IsOneOf row (map rules.row ps) → (p : P) × IsOneOf p ps × (rules.row p ≡ row)
  one_of_map [] row i = absurd i
  one_of_map (p ∷ ps) row (inl e) = (p, inl refl, sym e)
  one_of_map (p ∷ ps) row (inr i) = let more = one_of_map ps row i in (more.0, inr more.1, more.2)

  map_of_one : (ps : List P) (p : P) → IsOneOf p ps → IsOneOf (rules.row p) (map rules.row ps)
  map_of_one [] p i = absurd i
  map_of_one (q ∷ ps) p (inl e) = inl (ap rules.row e)
  map_of_one (q ∷ ps) p (inr i) = inr (map_of_one ps p i)

  to_rows : Has rules (rules_of grammar)
  to_rows n p i = (rules.row p, subst (λ (l : List (List (Symbol N A K))). IsOneOf (rules.row p) l) (named.rows n) (map_of_one (rules.productions n) p i), refl)

  to_names : Has (rules_of grammar) rules
  to_names n row i = one_of_map (rules.productions n) row (subst (λ (l : List (List (Symbol N A K))). IsOneOf row l) (sym (named.rows n)) i)

  pub reading_to_rows : (tokens : List K) (steps : List (Step A)) → IsReading rules tokens steps → IsReading (rules_of grammar) tokens steps
  reading_to_rows tokens steps r =
      subst
      (λ (x : List (Symbol N A K)). Reads (rules_of grammar) (IsNotBegun (rules_of grammar)) (Row x 0 Bottom) tokens steps)
      named.text (counts_too rules (rules_of grammar) to_rows to_names r)

  pub reading_to_names : (tokens : List K) (steps : List (Step A)) → IsReading (rules_of grammar) tokens steps → IsReading rules tokens steps
  reading_to_names tokens steps r =
      subst (λ (x : List (Symbol N A K)). Reads rules (IsNotBegun rules) (Row x 0 Bottom) tokens steps) (sym named.text)
      (counts_too (rules_of grammar) rules to_names to_rows r)

  pub any_to_names : (tokens : List K) (steps : List (Step A)) → IsAnyReading (rules_of grammar) tokens steps → IsAnyReading rules tokens steps
  any_to_names tokens steps r =
      subst (λ (x : List (Symbol N A K)). Reads rules (AnyEnd rules) (Row x 0 Bottom) tokens steps) (sym named.text)
      (any_too (rules_of grammar) rules to_names to_rows r)

  pub parsed_to_rows : (limit : ℕ) (tokens : List K) (events : List (Event A)) → IsParsed rules limit tokens events →
      IsParsed (rules_of grammar) limit tokens events
  parsed_to_rows limit tokens events p = record {
    steps = p.steps;
    reading = reading_to_rows tokens p.steps p.reading;
    low = p.low;
    happens = p.happens;
    only = λ other r. p.only other (reading_to_names tokens other r);
  }

  none_to_rows : (limit : ℕ) (before rest : List K) → NoneGoesOn rules limit before rest → NoneGoesOn (rules_of grammar) limit before rest
  none_to_rows limit before [] f = λ steps r. f steps (any_to_names before steps r)
  none_to_rows limit before (k ∷ rest) f = λ after steps r. f after steps (any_to_names (before ++ k ∷ after) steps r)

  pub stop_to_rows : (limit : ℕ) (tokens : List K) (s : ReadStop) → IsStop rules limit tokens s → IsStop (rules_of grammar) limit tokens s
  stop_to_rows limit tokens (stop.Wrong place) w = record {
    inside = w.inside;
    after = w.after;
    steps = w.steps;
    reading = reading_to_rows (take place tokens ++ w.after) w.steps w.reading;
    low = w.low;
    wrong = none_to_rows limit (take place tokens) (drop place tokens) w.wrong;
  }
  stop_to_rows limit tokens (stop.Deep place) d = record {
    kind = d.kind;
    here = d.here;
    after = d.after;
    steps = d.steps;
    reading = reading_to_rows (take place tokens ++ d.kind ∷ d.after) d.steps d.reading;
    deep =
        λ rest other r. let x = d.deep rest other (reading_to_names (take place tokens ++ d.kind ∷ rest) other r)
        in record { before = x.before; there = x.there };
  }
  stop_to_rows limit tokens stop.NoMemory s = tt

  pub answer_to_rows : (limit : ℕ) (tokens : List K) (r : Result (List (Event A)) ReadStop) →
      MatchResult r (IsParsed rules limit tokens) (IsStop rules limit tokens) →
      MatchResult r (IsParsed (rules_of grammar) limit tokens) (IsStop (rules_of grammar) limit tokens)
  answer_to_rows limit tokens (Ok events) p = parsed_to_rows limit tokens events p
  answer_to_rows limit tokens (Err s) p = stop_to_rows limit tokens s p

  -- what has a reading that counts and opens no level above the limit is read, unless memory runs out
  pub answer_complete : (limit : ℕ) (tokens : List K) (r : Result (List (Event A)) ReadStop) →
      MatchResult r (IsParsed rules limit tokens) (IsStop rules limit tokens) →
      (steps : List (Step A)) → IsReading (rules_of grammar) tokens steps → AreLow limit (levels steps) → IsOkUnless r stop.NoMemory
  answer_complete limit tokens (Ok events) p steps reading low = tt
  answer_complete limit tokens (Err (stop.Wrong place)) p steps reading low =
      absurd (not_wrong rules limit tokens place steps (reading_to_names tokens steps reading) p)
  answer_complete limit tokens (Err (stop.Deep place)) p steps reading low =
      absurd (not_deep rules limit tokens place steps (reading_to_names tokens steps reading) low p)
  answer_complete limit tokens (Err stop.NoMemory) p steps reading low = refl
