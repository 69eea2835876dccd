-- Moves lose no reading that counts and make none.
use Rattle.std.proofs.Common.{◌≡◌, ℕ, ◌+◌, ◌<◌, ◌≤◌, true, false, List, [], ◌∷◌, ◌++◌, append_assoc, Option, inl, inr, sym, ◌∙◌, ap, subst, refl, arith}
use Rattle.ll1_reader.specs.declared.symbol.Symbol.{Symbol}
use Rattle.ll1_reader.specs.declared.symbol.Symbol.TheVariants.{Read, Open, Once, Maybe, Many, Act}
use Rattle.ll1_reader.specs.Grammars.{Rules, IsOneOf}
use Rattle.ll1_reader.specs.Predicting.{Table, IsLl1, all_among, first_set, covers, moves}
use Rattle.ll1_reader.specs.Readings.{Stack, Bottom, Row, Step, Reads, row_over, acted, once, taken, left_out, again, ended, IsNotBegun}
use Rattle.ll1_reader.specs.Moves.{lookahead, is_next, IsMove, row_end, act, enter, take_it, leave_it, go_on, stop, AreMoves, stay, move, IsStuck}
use Rattle.ll1_reader.proofs.KindLists.{and_right, false_true, among_all, only_production, fine_production}
use Rattle.ll1_reader.proofs.Firsts.{BeginsAmong, production_starts}
use Rattle.ll1_reader.proofs.SafeStacks.{IsSafe, safe_production}
use Rattle.ll1_reader.proofs.Ends.{not_begun, begun}
use Rattle.ll1_reader.proofs.Inversions.{un_bottom, un_row, un_read, un_open, un_act, un_once, un_maybe, un_many}

module _ {N P A K : Type 0} (rules : Rules N P A K) (table : Table N P K) where
  -- From one stack to the other, where the next token is this one: what is read from the other is read from the one,
  -- with these steps before it, and the other way round.
  pub record Leads (next : Option K) (s t : Stack N A K) (done : List (Step A)) : Type 0 where
    pub back : (ks : List K) (steps : List (Step A)) → lookahead ks ≡ next → Reads rules (IsNotBegun rules) t ks steps →
        Reads rules (IsNotBegun rules) s ks (done ++ steps)
    pub on : (ks : List K) (steps : List (Step A)) → lookahead ks ≡ next → Reads rules (IsNotBegun rules) s ks steps →
        (more : List (Step A)) × (steps ≡ done ++ more) × Reads rules (IsNotBegun rules) t ks more

  -- so many moves at most lie before the next token
  abbrev pub moves_to : List (Symbol N A K) → ℕ → ℕ
  moves_to [] after = after + 1
  moves_to (Read _ ∷ _) after = 0
  moves_to (Open _ ∷ _) after = 0
  moves_to (Act _ ∷ row) after = moves_to row after + 1
  moves_to (Once n ∷ _) after = table.cost n + 1
  moves_to (Maybe n ∷ row) after = moves_to row after + (table.cost n + 1)
  moves_to (Many n ∷ row) after = moves_to row after + (table.cost n + 1)

  abbrev pub moves_at : Stack N A K → ℕ
  moves_at Bottom = 0
  moves_at (Row row d below) = moves_to row (moves_at below)

  -- no level of the stack is above the limit
  abbrev pub IsShallow : ℕ → Stack N A K → Type 0
  IsShallow limit Bottom = Unit {0}
  IsShallow limit (Row row d below) = (d ≤ limit) × IsShallow limit below

module _ {N P A K : Type 0} (rules : Rules N P A K) (table : Table N P K) (sound : IsLl1 rules table) where
  -- ---- one production begins with the next token

  next_is : (ks : List K) (next : Option K) (js : List K) → lookahead ks ≡ next → BeginsAmong rules table sound js ks → is_next rules table js next ≡ true
  next_is [] next js e b = absurd b
  next_is (k ∷ ks) next js e b = subst (λ (o : Option K). is_next rules table js o ≡ true) e b

  same_production : (n : N) (p q : P) (ks : List K) (next : Option K) → lookahead ks ≡ next →
      IsOneOf p (rules.productions n) → IsOneOf q (rules.productions n) →
      is_next rules table (table.first p) next ≡ true → BeginsAmong rules table sound (table.first q) ks → q ≡ p
  same_production n p q [] next e i j h b = absurd b
  same_production n p q (k ∷ ks) next e i j h b =
      only_production rules table sound n k q p j i b (subst (λ (o : Option K). is_next rules table (table.first p) o ≡ true) (sym e) h)

  -- a production that is read from the tokens, where none begins with the next one
  no_production : (n : N) (q : P) (ks : List K) (next : Option K) → lookahead ks ≡ next → IsOneOf q (rules.productions n) →
      is_next rules table (first_set rules table n) next ≡ false → BeginsAmong rules table sound (table.first q) ks → ⊥
  no_production n q [] next e j h b = b
  no_production n q (k ∷ ks) next e j h b =
      cc (
        among_all rules table sound k (rules.productions n) q j b,
        subst (λ (o : Option K). is_next rules table (first_set rules table n) o ≡ false) (sym e) h,
      )

  -- the nonterminal is begun, so it isn't ended there
  not_ended : (n : N) (p : P) (ks : List K) (next : Option K) → lookahead ks ≡ next → IsOneOf p (rules.productions n) →
      is_next rules table (table.first p) next ≡ true → IsNotBegun rules n ks → ⊥
  not_ended n p [] next e i h b = false_true (subst (λ (o : Option K). is_next rules table (table.first p) o ≡ true) (sym e) h)
  not_ended n p (k ∷ ks) next e i h b =
      begun rules table sound n k ks
      (among_all rules table sound k (rules.productions n) p i (subst (λ (o : Option K). is_next rules table (table.first p) o ≡ true) (sym e) h))
      b

  may_stop : (n : N) (ks : List K) (next : Option K) → lookahead ks ≡ next → is_next rules table (first_set rules table n) next ≡ false → IsNotBegun rules n ks
  may_stop n ks next e h = not_begun rules table sound n ks (subst (λ (o : Option K). is_next rules table (first_set rules table n) o ≡ false) (sym e) h)

  abbrev Counts : N → List K → Type 0
  Counts = IsNotBegun rules

  -- the production that is read is the one that was told
  told : (n : N) (p q : P) (row : List (Symbol N A K)) (d : ℕ) (below : Stack N A K) (ks : List K) (steps : List (Step A)) (next : Option K) →
      lookahead ks ≡ next → IsOneOf p (rules.productions n) →
      IsOneOf q (rules.productions n) → is_next rules table (table.first p) next ≡ true →
      Reads rules Counts (Row (rules.row q) d below) ks steps → Reads rules Counts (Row (rules.row p) d below) ks steps
  told n p q row d below ks steps next e i j h r =
      subst (λ (x : P). Reads rules Counts (Row (rules.row x) d below) ks steps)
      (same_production n p q ks next e i j h (production_starts rules table sound Counts n q d below ks steps j r)) r

  -- ---- each move

  move_leads : {next : Option K} {s t : Stack N A K} {done : List (Step A)} → IsMove rules table next s t done → Leads rules table next s t done
  move_leads (row_end d below) = record {
    back = λ ks steps e r. row_over d below ks steps r;
    on = λ ks steps e r. (steps, refl, un_row rules Counts r);
  }
  move_leads (act a row d below) = record {
    back = λ ks steps e r. acted a row d below ks steps r;
    on = λ ks steps e r. let u = un_act rules Counts r in (u.0, u.1, u.2);
  }
  move_leads {next = next} (enter n p row d below i h) = record {
    back = λ ks steps e r. once n p row d below ks steps i r;
    on = λ ks steps e r. let u = un_once rules Counts r in (steps, refl, told n p u.0 row d (Row row d below) ks steps next e i u.1 h u.2);
  }
  move_leads {next = next} (take_it n p row d below i h) = record {
    back = λ ks steps e r. taken n p row d below ks steps i r;
    on = λ ks steps e r. elim (un_maybe rules Counts r) [
      | inl u ↦ (steps, refl, told n p u.0 row d (Row row d below) ks steps next e i u.1 h u.2)
      | inr u ↦ absurd (not_ended n p ks next e i h u.0)
    ];
  }
  move_leads {next = next} (leave_it n row d below h) = record {
    back = λ ks steps e r. left_out n row d below ks steps (may_stop n ks next e h) r;
    on = λ ks steps e r. elim (un_maybe rules Counts r) [
      | inl u ↦ absurd (no_production n u.0 ks next e u.1 h (production_starts rules table sound Counts n u.0 d (Row row d below) ks steps u.1 u.2))
      | inr u ↦ (steps, refl, u.1)
    ];
  }
  move_leads {next = next} (go_on n p row d below i h) = record {
    back = λ ks steps e r. again n p row d below ks steps i r;
    on = λ ks steps e r. elim (un_many rules Counts r) [
      | inl u ↦ (steps, refl, told n p u.0 row d (Row (Many n ∷ row) d below) ks steps next e i u.1 h u.2)
      | inr u ↦ absurd (not_ended n p ks next e i h u.0)
    ];
  }
  move_leads {next = next} (stop n row d below h) = record {
    back = λ ks steps e r. ended n row d below ks steps (may_stop n ks next e h) r;
    on = λ ks steps e r. elim (un_many rules Counts r) [
      | inl u ↦ absurd (no_production n u.0 ks next e u.1 h (production_starts rules table sound Counts n u.0 d (Row (Many n ∷ row) d below) ks steps u.1 u.2))
      | inr u ↦ (steps, refl, u.1)
    ];
  }

  pub moves_lead : {next : Option K} {s t : Stack N A K} {done : List (Step A)} → AreMoves rules table next s t done → Leads rules table next s t done
  moves_lead (stay s) = record { back = λ ks steps e r. r; on = λ ks steps e r. (steps, refl, r) }
  moves_lead (move s t u done more m ms) =
      let first = move_leads m in
      let others = moves_lead ms in
      record {
        back =
            λ ks steps e r. subst (λ (x : List (Step A)). Reads rules Counts s ks x) (sym (append_assoc done more steps))
            (first.back ks (more ++ steps) e (others.back ks steps e r));
        on = λ ks steps e r.
            let a = first.on ks steps e r in
            let b = others.on ks a.0 e a.2 in
            (b.0, a.1 ∙ ap (λ (x : List (Step A)). done ++ x) b.1 ∙ sym (append_assoc done more b.0), b.2);
      }

  -- ---- moves keep what is known of a stack

  move_safe : {next : Option K} {s t : Stack N A K} {done : List (Step A)} → IsMove rules table next s t done → IsSafe rules table s → IsSafe rules table t
  move_safe (row_end d below) w = w.1
  move_safe (act a row d below) w = (w.0.1, w.1)
  move_safe (enter n p row d below i h) w = (safe_production rules table sound n p d row below i w.0.0, (w.0.1, w.1))
  move_safe (take_it n p row d below i h) w = (safe_production rules table sound n p d row below i w.0.0.1, (w.0.1, w.1))
  move_safe (leave_it n row d below h) w = (w.0.1, w.1)
  move_safe (go_on n p row d below i h) w = (safe_production rules table sound n p d (Many n ∷ row) below i w.0.0.1, w)
  move_safe (stop n row d below h) w = (w.0.1, w.1)

  pub moves_safe : {next : Option K} {s t : Stack N A K} {done : List (Step A)} → AreMoves rules table next s t done →
      IsSafe rules table s → IsSafe rules table t
  moves_safe (stay s) w = w
  moves_safe (move s t u done more m ms) w = moves_safe ms (move_safe m w)

  move_shallow : (limit : ℕ) {next : Option K} {s t : Stack N A K} {done : List (Step A)} → IsMove rules table next s t done →
      IsShallow rules table limit s → IsShallow rules table limit t
  move_shallow limit (row_end d below) w = w.1
  move_shallow limit (act a row d below) w = w
  move_shallow limit (enter n p row d below i h) w = (w.0, w)
  move_shallow limit (take_it n p row d below i h) w = (w.0, w)
  move_shallow limit (leave_it n row d below h) w = w
  move_shallow limit (go_on n p row d below i h) w = (w.0, w)
  move_shallow limit (stop n row d below h) w = w

  pub moves_shallow : (limit : ℕ) {next : Option K} {s t : Stack N A K} {done : List (Step A)} →
      AreMoves rules table next s t done → IsShallow rules table limit s → IsShallow rules table limit t
  moves_shallow limit (stay s) w = w
  moves_shallow limit (move s t u done more m ms) w = moves_shallow limit ms (move_shallow limit m w)

  -- ---- moves come to an end

  moves_covered : (js : List K) (row : List (Symbol N A K)) (after : ℕ) → covers rules table js row ≡ true →
      moves_to rules table row after ≡ moves rules table row
  moves_covered js [] after h = false_true h
  moves_covered js (Read _ ∷ _) after h = refl
  moves_covered js (Open _ ∷ _) after h = refl
  moves_covered js (Act _ ∷ row) after h = ap (λ n. n + 1) (moves_covered js row after h)
  moves_covered js (Once n ∷ _) after h = refl
  moves_covered js (Maybe n ∷ row) after h =
      ap (λ x. x + (table.cost n + 1))
      (moves_covered js row after (and_right (all_among rules table (first_set rules table n) js) _ h))
  moves_covered js (Many n ∷ row) after h =
      ap (λ x. x + (table.cost n + 1))
      (moves_covered js row after (and_right (all_among rules table (first_set rules table n) js) _ h))

  pub entered : (n : N) (p : P) (after : ℕ) → IsOneOf p (rules.productions n) → moves_to rules table (rules.row p) after < table.cost n + 1
  entered n p after i =
      let fine = fine_production rules table sound n p i in
      omega (arith, moves_covered (table.first p) (rules.row p) after fine.covered, fine.moved)

  pub move_smaller : {next : Option K} {s t : Stack N A K} {done : List (Step A)} → IsMove rules table next s t done →
      moves_at rules table t < moves_at rules table s
  move_smaller (row_end d below) = omega arith
  move_smaller (act a row d below) = omega arith
  move_smaller (enter n p row d below i h) = entered n p _ i
  move_smaller (take_it n p row d below i h) = omega (arith, entered n p (moves_at rules table (Row row d below)) i)
  move_smaller (leave_it n row d below h) = omega arith
  move_smaller (go_on n p row d below i h) = omega (arith, entered n p (moves_at rules table (Row (Many n ∷ row) d below)) i)
  move_smaller (stop n row d below h) = omega arith

  -- ---- what is stuck is read from no tokens that begin so

  pub stuck_reads_nothing : (next : Option K) (s : Stack N A K) → IsStuck rules table next s →
      (ks : List K) (steps : List (Step A)) → lookahead ks ≡ next → Reads rules Counts s ks steps → ⊥
  stuck_reads_nothing next Bottom h ks steps e r = h (sym e ∙ ap lookahead (un_bottom rules Counts r).0)
  stuck_reads_nothing next (Row [] d below) h ks steps e r = h
  stuck_reads_nothing next (Row (Read j ∷ row) d below) h ks steps e r = h (sym e ∙ ap lookahead (un_read rules Counts r).2)
  stuck_reads_nothing next (Row (Open j ∷ row) d below) h ks steps e r = h (sym e ∙ ap lookahead (un_open rules Counts r).2)
  stuck_reads_nothing next (Row (Once n ∷ row) d below) h ks steps e r =
      let u = un_once rules Counts r in
      no_production n u.0 ks next e u.1 h (production_starts rules table sound Counts n u.0 d (Row row d below) ks steps u.1 u.2)
  stuck_reads_nothing next (Row (Maybe n ∷ row) d below) h ks steps e r = h
  stuck_reads_nothing next (Row (Many n ∷ row) d below) h ks steps e r = h
  stuck_reads_nothing next (Row (Act a ∷ row) d below) h ks steps e r = h
