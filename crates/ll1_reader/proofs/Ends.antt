-- Every stack can be read to its end, and every kind that a production may begin with begins a sentence of it.
use Rattle.std.proofs.Common.{◌≡◌, ℕ, zero, suc, ◌<◌, ◌≤◌, ◌==◌, Bool, true, false, List, [], ◌∷◌, Option, None, Some, inl, inr, sym, ◌∙◌, subst, refl, arith}
use Rattle.ll1_reader.specs.declared.symbol.Symbol.{Symbol}
use Rattle.ll1_reader.specs.declared.symbol.Symbol.TheVariants.{Read, Open, Once, Maybe, Many, Act}
use Rattle.ll1_reader.specs.Grammars.{Rules, IsOneOf}
use Rattle.ll1_reader.specs.Predicting.{Table, IsLl1, among, first_set, own, may_begin, all_begin, moves, sizes, lead}
use Rattle.ll1_reader.specs.Readings.{Stack, Bottom, Row, Step, Took, Did, Reads, over, row_over, read, opened, acted, once}
use Rattle.ll1_reader.specs.Readings.{taken, left_out, again, ended, AnyEnd, IsNotBegun}
use Rattle.ll1_reader.specs.Moves.{lookahead, is_next}
use Rattle.ll1_reader.proofs.KindLists.{and_left, and_right, or_cases, false_true, kind_by, among_some, all_among_self, fine_production, short_production}
use Rattle.ll1_reader.proofs.Firsts.{starts_well}
use Rattle.ll1_reader.proofs.SafeStacks.{AreSafe, RowEndsWell, IsSafe, lead_at, safe_production, maybe_safe, lead_never, safe_bottom}

module _ {N P A K : Type 0} (rules : Rules N P A K) (table : Table N P K) (sound : IsLl1 rules table) (MayEnd : N → List K → Type 0)
    (may_end : (n : N) (ks : List K) → is_next rules table (first_set rules table n) (lookahead ks) ≡ false → MayEnd n ks) where
  -- some tokens are read from the stack, and the first is the one that `lead_at` tells
  pub record Ends (s : Stack N A K) : Type 0 where
    pub tokens : List K
    pub steps : List (Step A)
    pub reads : Reads rules MayEnd s tokens steps
    pub first : lookahead tokens ≡ lead_at rules table s

  -- what may come again or be left out may end before what `lead_at` tells
  ends_before : (n : N) (row : List (Symbol N A K)) (d : ℕ) (below : Stack N A K) →
      RowEndsWell rules table row below × IsSafe rules table below → AreSafe rules table (own rules table n) row below →
      (ks : List K) → lookahead ks ≡ lead_at rules table (Row row d below) → MayEnd n ks
  ends_before n row d below w s ks e = may_end n ks (by (lookahead ks) refl)
    where
      not_it : (b : Bool) → (b ≡ true → ⊥) → b ≡ false
      not_it true f = absurd (f refl)
      not_it false f = refl

      by : (o : Option K) → lookahead ks ≡ o → is_next rules table (first_set rules table n) o ≡ false
      by None f = refl
      by (Some k) f = not_it (among rules table k (first_set rules table n))
          (λ i. lead_never rules table sound k n (Row row d below) w (maybe_safe rules table sound k n row below i s) (sym e ∙ f))

  -- the row's own lead, where there is one, whatever follows
  lead_some : (row : List (Symbol N A K)) (k : K) (after : Option K) → lead rules table row None ≡ Some k → lead rules table row after ≡ Some k
  lead_some [] k after h = cc
  lead_some (Read j ∷ row) k after h = h
  lead_some (Open j ∷ row) k after h = h
  lead_some (Act _ ∷ row) k after h = lead_some row k after h
  lead_some (Once n ∷ row) k after h = h
  lead_some (Maybe n ∷ row) k after h = lead_some row k after h
  lead_some (Many n ∷ row) k after h = lead_some row k after h

  -- a row ends on what ends, where shorter rows do
  row_ends : (f : ℕ) →
      ((row : List (Symbol N A K)) (d : ℕ) (below : Stack N A K) → sizes rules table row < f → RowEndsWell rules table row below
      → IsSafe rules table below → Ends below → Ends (Row row d below)) →
      (row : List (Symbol N A K)) (d : ℕ) (below : Stack N A K) → sizes rules table row ≤ f →
      RowEndsWell rules table row below → IsSafe rules table below → Ends below → Ends (Row row d below)
  row_ends f deeper [] d below h w s e = record { tokens = e.tokens; steps = e.steps; reads = row_over d below e.tokens e.steps e.reads; first = e.first }
  row_ends f deeper (Read k ∷ row) d below h w s e =
      let r = row_ends f deeper row d below h w.1 s e in
      record { tokens = k ∷ r.tokens; steps = Took d ∷ r.steps; reads = read k row d below r.tokens r.steps r.reads; first = refl }
  row_ends f deeper (Open k ∷ row) d below h w s e =
      let r = row_ends f deeper row (suc d) below h w.1 s e in
      record { tokens = k ∷ r.tokens; steps = Took (suc d) ∷ r.steps; reads = opened k row d below r.tokens r.steps r.reads; first = refl }
  row_ends f deeper (Act a ∷ row) d below h w s e =
      let r = row_ends f deeper row d below h w.1 s e in
      record { tokens = r.tokens; steps = Did a ∷ r.steps; reads = acted a row d below r.tokens r.steps r.reads; first = r.first }
  row_ends f deeper (Once n ∷ row) d below h w s e =
      let r = row_ends f deeper row d below (omega arith) w.1 s e in
      let p = (short_production rules table sound n).0 in
      let short = (short_production rules table sound n).1 in
      let q =
      deeper (rules.row p) d (Row row d below) (omega (arith, short.small))
      (safe_production rules table sound n p d row below short.production w.0) (w.1, s) r in
      record {
        tokens = q.tokens;
        steps = q.steps;
        reads = once n p row d below q.tokens q.steps short.production q.reads;
        first = q.first ∙ lead_some (rules.row p) (table.begin n) _ short.first;
      }
  row_ends f deeper (Maybe n ∷ row) d below h w s e =
      let r = row_ends f deeper row d below h w.1 s e in
      record {
        tokens = r.tokens;
        steps = r.steps;
        reads = left_out n row d below r.tokens r.steps
            (ends_before n row d below (w.1, s) w.0.0 r.tokens r.first) r.reads;
        first = r.first;
      }
  row_ends f deeper (Many n ∷ row) d below h w s e =
      let r = row_ends f deeper row d below h w.1 s e in
      record {
        tokens = r.tokens;
        steps = r.steps;
        reads = ended n row d below r.tokens r.steps
            (ends_before n row d below (w.1, s) w.0.0 r.tokens r.first) r.reads;
        first = r.first;
      }

  all_rows_end : (f : ℕ) (row : List (Symbol N A K)) (d : ℕ) (below : Stack N A K) → sizes rules table row ≤ f →
      RowEndsWell rules table row below → IsSafe rules table below → Ends below → Ends (Row row d below)
  all_rows_end zero = row_ends zero (λ row d below h w s e. absurd (omega (arith, h)))
  all_rows_end (suc f) = row_ends (suc f) (λ row d below h w s e. all_rows_end f row d below (omega (arith, h)) w s e)

  -- a row on what ends can be read to its end, and so can a stack
  pub row_can_end : (row : List (Symbol N A K)) (d : ℕ) (below : Stack N A K) → RowEndsWell rules table row below →
      IsSafe rules table below → Ends below → Ends (Row row d below)
  row_can_end row d below w s e = all_rows_end (sizes rules table row) row d below (omega arith) w s e

  pub can_end : (s : Stack N A K) → IsSafe rules table s → Ends s
  can_end Bottom w = record { tokens = []; steps = []; reads = over; first = refl }
  can_end (Row row d below) w = row_can_end row d below w.0 w.1 (can_end below w.1)

module _ {N P A K : Type 0} (rules : Rules N P A K) (table : Table N P K) (sound : IsLl1 rules table) where
  any_ends : (n : N) (ks : List K) → is_next rules table (first_set rules table n) (lookahead ks) ≡ false → AnyEnd rules n ks
  any_ends n ks h = tt

  -- a sentence begins with a token of this kind
  record Begins (k : K) (s : Stack N A K) : Type 0 where
    after : List K
    steps : List (Step A)
    reads : Reads rules (AnyEnd rules) s (k ∷ after) steps

  begins_at : (k : K) (ks : List K) (row : List (Symbol N A K)) → all_begin rules table ks row ≡ true →
      among rules table k ks ≡ true → may_begin rules table k row ≡ true
  begins_at k [] row h i = false_true i
  begins_at k (j ∷ ks) row h i =
      elim (or_cases (table.number k == table.number j) _ i) [
        | inl e ↦ subst (λ (x : K). may_begin rules table x row ≡ true) (sym (kind_by rules table sound k j e)) (and_left (may_begin rules table j row) _ h)
        | inr e ↦ begins_at k ks row (and_right (may_begin rules table j row) _ h) e
      ]

  Deeper : K → ℕ → Type 0
  Deeper k f = (row : List (Symbol N A K)) (d : ℕ) (below : Stack N A K) → moves rules table row < f → may_begin rules table k row ≡ true →
      RowEndsWell rules table row below → IsSafe rules table below → Ends rules table sound (AnyEnd rules) any_ends below → Begins k (Row row d below)

  -- a production begins with each of its kinds, where rows of fewer moves do
  production_begins : (k : K) (f : ℕ) → Deeper k f → (n : N) (d : ℕ) (row : List (Symbol N A K)) (below : Stack N A K) →
      table.cost n < f → among rules table k (first_set rules table n) ≡ true →
      AreSafe rules table (table.tails n) row below → IsSafe rules table (Row row d below) → Ends rules table sound (AnyEnd rules) any_ends (Row row d below) →
      (p : P) × IsOneOf p (rules.productions n) × Begins k (Row (rules.row p) d (Row row d below))
  unfolding Deeper
  production_begins k f deeper n d row below h i t s e =
      let c = among_some rules table sound k (rules.productions n) i in
      let fine = fine_production rules table sound n c.0 c.1 in (
        c.0,
        c.1,
        deeper (rules.row c.0) d (Row row d below) (omega (arith, fine.moved)) (begins_at k (table.first c.0) (rules.row c.0) fine.begins c.2)
            (safe_production rules table sound n c.0 d row below c.1 t) s e,
      )

  row_begins : (k : K) (f : ℕ) → Deeper k f → (row : List (Symbol N A K)) (d : ℕ) (below : Stack N A K) →
      moves rules table row ≤ f → may_begin rules table k row ≡ true →
      RowEndsWell rules table row below → IsSafe rules table below → Ends rules table sound (AnyEnd rules) any_ends below → Begins k (Row row d below)
  row_begins k f deeper [] d below h i w s e = false_true i
  row_begins k f deeper (Read j ∷ row) d below h i w s e =
      let r = row_can_end rules table sound (AnyEnd rules) any_ends row d below w.1 s e in
      record {
        after = r.tokens;
        steps = Took d ∷ r.steps;
        reads =
            subst (λ (x : K). Reads rules (AnyEnd rules) (Row (Read j ∷ row) d below) (x ∷ r.tokens) (Took d ∷ r.steps))
            (sym (kind_by rules table sound k j i)) (read j row d below r.tokens r.steps r.reads);
      }
  row_begins k f deeper (Open j ∷ row) d below h i w s e =
      let r = row_can_end rules table sound (AnyEnd rules) any_ends row (suc d) below w.1 s e in
      record {
        after = r.tokens;
        steps = Took (suc d) ∷ r.steps;
        reads =
            subst (λ (x : K). Reads rules (AnyEnd rules) (Row (Open j ∷ row) d below) (x ∷ r.tokens) (Took (suc d) ∷ r.steps))
            (sym (kind_by rules table sound k j i)) (opened j row d below r.tokens r.steps r.reads);
      }
  row_begins k f deeper (Act a ∷ row) d below h i w s e =
      let r = row_begins k f deeper row d below (omega arith) i w.1 s e in
      record { after = r.after; steps = Did a ∷ r.steps; reads = acted a row d below (k ∷ r.after) r.steps r.reads }
  row_begins k f deeper (Once n ∷ row) d below h i w s e =
      let r = row_can_end rules table sound (AnyEnd rules) any_ends row d below w.1 s e in
      let c = production_begins k f deeper n d row below (omega arith) i w.0 (w.1, s) r in
      record { after = c.2.after; steps = c.2.steps; reads = once n c.0 row d below (k ∷ c.2.after) c.2.steps c.1 c.2.reads }
  row_begins k f deeper (Maybe n ∷ row) d below h i w s e =
      let r = row_can_end rules table sound (AnyEnd rules) any_ends row d below w.1 s e in
      elim (or_cases (among rules table k (first_set rules table n)) _ i) [
        | inl j ↦
            let c = production_begins k f deeper n d row below (omega arith) j w.0.1 (w.1, s) r in
            record { after = c.2.after; steps = c.2.steps; reads = taken n c.0 row d below (k ∷ c.2.after) c.2.steps c.1 c.2.reads }
        | inr j ↦
            let c = row_begins k f deeper row d below (omega arith) j w.1 s e in
            record { after = c.after; steps = c.steps; reads = left_out n row d below (k ∷ c.after) c.steps tt c.reads }
      ]
  row_begins k f deeper (Many n ∷ row) d below h i w s e =
      let r = row_can_end rules table sound (AnyEnd rules) any_ends (Many n ∷ row) d below w s e in
      elim (or_cases (among rules table k (first_set rules table n)) _ i) [
        | inl j ↦
            let c = production_begins k f deeper n d (Many n ∷ row) below (omega arith) j w.0.1 (w, s) r in
            record { after = c.2.after; steps = c.2.steps; reads = again n c.0 row d below (k ∷ c.2.after) c.2.steps c.1 c.2.reads }
        | inr j ↦
            let c = row_begins k f deeper row d below (omega arith) j w.1 s e in
            record { after = c.after; steps = c.steps; reads = ended n row d below (k ∷ c.after) c.steps tt c.reads }
      ]

  all_rows_begin : (k : K) (f : ℕ) (row : List (Symbol N A K)) (d : ℕ) (below : Stack N A K) → moves rules table row ≤ f → may_begin rules table k row ≡ true →
      RowEndsWell rules table row below → IsSafe rules table below → Ends rules table sound (AnyEnd rules) any_ends below → Begins k (Row row d below)
  unfolding Deeper
  all_rows_begin k zero = row_begins k zero (λ row d below h i w s e. absurd (omega (arith, h)))
  all_rows_begin k (suc f) = row_begins k (suc f) (λ row d below h i w s e. all_rows_begin k f row d below (omega (arith, h)) i w s e)

  -- ---- what begins no sentence, and what does

  -- a token of no kind that the nonterminal begins with begins none of its sentences
  pub not_begun : (n : N) (ks : List K) → is_next rules table (first_set rules table n) (lookahead ks) ≡ false → IsNotBegun rules n ks
  not_begun n [] h = tt
  not_begun n (k ∷ ks) h =
      λ after steps r. cc
      (h, starts_well rules table sound (AnyEnd rules) r (first_set rules table n) (all_among_self rules table sound (first_set rules table n)))

  -- and one of such a kind begins one
  pub begun : (n : N) (k : K) (ks : List K) → among rules table k (first_set rules table n) ≡ true → IsNotBegun rules n (k ∷ ks) → ⊥
  begun n k ks h f =
      let b =
      all_rows_begin k (moves rules table (Once n ∷ [])) (Once n ∷ []) 0 Bottom (omega arith) h
      (safe_bottom rules table sound (table.tails n), tt) tt (can_end rules table sound (AnyEnd rules) any_ends Bottom tt) in
      f b.after b.steps b.reads
