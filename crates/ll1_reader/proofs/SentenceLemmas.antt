-- Each sentence of the grammar as written has a reading that counts.
use Rattle.std.proofs.Common.{◌≡◌, ℕ, zero, suc, ◌+◌, ◌<◌, ◌≤◌, ◌==◌, if◌then◌else◌, Bool, true, false, List, [], ◌∷◌, ◌⊎◌, inl}
use Rattle.std.proofs.Common.{inr, sym, ◌∙◌, subst, refl, arith}
use Rattle.ll1_reader.specs.declared.symbol.Symbol.{Symbol}
use Rattle.ll1_reader.specs.declared.symbol.Symbol.TheVariants.{Read, Open, Once, Maybe, Many, Act}
use Rattle.ll1_reader.specs.Grammars.{Rules, IsOneOf}
use Rattle.ll1_reader.specs.Predicting.{Table, IsLl1, among, first_set, own}
use Rattle.ll1_reader.specs.Readings.{Stack, Bottom, Row, Step, Took, Did, Reads, over, row_over, read, opened, acted, once}
use Rattle.ll1_reader.specs.Readings.{taken, left_out, again, ended, AnyEnd, IsNotBegun}
use Rattle.ll1_reader.proofs.KindLists.{not_true, kind_is, label_by, among_all}
use Rattle.ll1_reader.proofs.Firsts.{BeginsAmong, production_starts}
use Rattle.ll1_reader.proofs.SafeStacks.{IsSafe, AreSafe, safe_at, safe_production, safe_past, maybe_safe, if_true}
use Rattle.ll1_reader.proofs.Ends.{not_begun}
use Rattle.ll1_reader.proofs.Inversions.{un_bottom, un_row, un_read, un_open, un_act, un_once, un_maybe, un_many}
use Rattle.ll1_reader.proofs.MoveLemmas.{moves_at, entered}

module _ {N P A K : Type 0} (rules : Rules N P A K) where
  -- a stack with another bottom, and maybe other levels
  data Lifts (low high : Stack N A K) : Stack N A K → Stack N A K → Type 0 where
    base : Lifts low high low high
    lifted : (row : List (Symbol N A K)) (d e : ℕ) (x y : Stack N A K) → Lifts low high x y → Lifts low high (Row row d x) (Row row e y)

  abbrev Some_Reads : Stack N A K → List K → Type 0
  Some_Reads s ks = (steps : List (Step A)) × Reads rules (AnyEnd rules) s ks steps

  -- what is read over a bottom is read over one that is read from the same tokens
  lift : (low high : Stack N A K) → ((ks : List K) (steps : List (Step A)) → Reads rules (AnyEnd rules) low ks steps → Some_Reads high ks) →
      {x y : Stack N A K} {ks : List K} {steps : List (Step A)} → Lifts low high x y → Reads rules (AnyEnd rules) x ks steps → Some_Reads y ks
  lift low high f {ks = ks} {steps = steps} base r = f ks steps r
  lift low high f (lifted row d e x y l) (row_over d' x' ks steps r) = let m = lift low high f l r in (m.0, row_over e y ks m.0 m.1)
  lift low high f (lifted row d e x y l) (read k row' d' x' ks steps r) =
      let m = lift low high f (lifted row' d e x y l) r in (Took e ∷ m.0, read k row' e y ks m.0 m.1)
  lift low high f (lifted row d e x y l) (opened k row' d' x' ks steps r) =
      let m = lift low high f (lifted row' (suc d) (suc e) x y l) r in (Took (suc e) ∷ m.0, opened k row' e y ks m.0 m.1)
  lift low high f (lifted row d e x y l) (acted a row' d' x' ks steps r) =
      let m = lift low high f (lifted row' d e x y l) r in (Did a ∷ m.0, acted a row' e y ks m.0 m.1)
  lift low high f (lifted row d e x y l) (once n p row' d' x' ks steps i r) =
      let m = lift low high f (lifted (rules.row p) d e (Row row' d x) (Row row' e y) (lifted row' d e x y l)) r in
      (m.0, once n p row' e y ks m.0 i m.1)
  lift low high f (lifted row d e x y l) (taken n p row' d' x' ks steps i r) =
      let m = lift low high f (lifted (rules.row p) d e (Row row' d x) (Row row' e y) (lifted row' d e x y l)) r in
      (m.0, taken n p row' e y ks m.0 i m.1)
  lift low high f (lifted row d e x y l) (left_out n row' d' x' ks steps t r) =
      let m = lift low high f (lifted row' d e x y l) r in (m.0, left_out n row' e y ks m.0 tt m.1)
  lift low high f (lifted row d e x y l) (again n p row' d' x' ks steps i r) =
      let m =
      lift low high f
      (lifted (rules.row p) d e (Row (Many n ∷ row') d x) (Row (Many n ∷ row') e y) (lifted (Many n ∷ row') d e x y l)) r in
      (m.0, again n p row' e y ks m.0 i m.1)
  lift low high f (lifted row d e x y l) (ended n row' d' x' ks steps t r) =
      let m = lift low high f (lifted row' d e x y l) r in (m.0, ended n row' e y ks m.0 tt m.1)

module _ {N P A K : Type 0} (rules : Rules N P A K) (table : Table N P K) (sound : IsLl1 rules table) where
  -- Behind parts that are left out, a row that begins with the token is read; and what is read from what follows that
  -- row is read from the whole stack too.
  record Found (k : K) (n : N) (s : Stack N A K) (ks : List K) : Type 0 where
    production : P
    is_production : IsOneOf production (rules.productions n)
    depth : ℕ
    after : Stack N A K
    steps : List (Step A)
    reads : Reads rules (AnyEnd rules) (Row (rules.row production) depth after) ks steps
    without : (rest : List K) (more : List (Step A)) → Reads rules (AnyEnd rules) after rest more → Some_Reads rules s rest

  -- the token that the production of a nonterminal begins with is one of its kinds
  of_kind : (m : N) (p : P) (k : K) (rest ks : List K) → ks ≡ k ∷ rest → IsOneOf p (rules.productions m) →
      BeginsAmong rules table sound (table.first p) ks → among rules table k (first_set rules table m) ≡ true
  of_kind m p k rest [] e i b = absurd b
  of_kind m p k rest (j ∷ ks) e i b =
      let same : k ≡ j = cc in
      subst (λ (x : K). among rules table x (first_set rules table m) ≡ true) (sym same) (among_all rules table sound j (rules.productions m) p i b)

  same_nonterminal : (k : K) (n m : N) (b : Bool) → among rules table k (first_set rules table m) ≡ true →
      (if among rules table k (first_set rules table m) then table.label n == table.label m else b) ≡ true → m ≡ n
  same_nonterminal k n m b i h =
      sym
      (label_by rules table sound n m (sym (if_true (among rules table k (first_set rules table m)) (table.label n == table.label m) b i) ∙ h))

  find : {s : Stack N A K} {ks : List K} {steps : List (Step A)} → Reads rules (AnyEnd rules) s ks steps →
      (k : K) (rest : List K) (n : N) → ks ≡ k ∷ rest → IsSafe rules table s →
      safe_at rules table k n s ≡ true → Found k n s ks
  find over k rest n e w h = absurd (cc)
  find (row_over d below ks steps r) k rest n e w h =
      let f = find r k rest n e w.1 h in
      record {
        production = f.production;
        is_production = f.is_production;
        depth = f.depth;
        after = f.after;
        steps = f.steps;
        reads = f.reads;
        without = λ a b q. let m = f.without a b q in (m.0, row_over d below a m.0 m.1);
      }
  find (read j row d below ks steps r) k rest n e w h = let same : k ≡ j = cc in absurd (cc (not_true _ h, kind_is rules table sound k j same))
  find (opened j row d below ks steps r) k rest n e w h = let same : k ≡ j = cc in absurd (cc (not_true _ h, kind_is rules table sound k j same))
  find (acted a row d below ks steps r) k rest n e w h =
      let f = find r k rest n e (w.0.1, w.1) h in
      record {
        production = f.production;
        is_production = f.is_production;
        depth = f.depth;
        after = f.after;
        steps = f.steps;
        reads = f.reads;
        without = λ b c q. let m = f.without b c q in (Did a ∷ m.0, acted a row d below b m.0 m.1);
      }
  find (once m p row d below ks steps i r) k rest n e w h =
      absurd (cc (not_true _ h, of_kind m p k rest ks e i (production_starts rules table sound (AnyEnd rules) m p d (Row row d below) ks steps i r)))
  find (taken m p row d below ks steps i r) k rest n e w h =
      let same =
      same_nonterminal k n m (safe_at rules table k n (Row row d below))
      (of_kind m p k rest ks e i (production_starts rules table sound (AnyEnd rules) m p d (Row row d below) ks steps i r)) h in
      record {
        production = p;
        is_production = subst (λ (x : N). IsOneOf p (rules.productions x)) same i;
        depth = d;
        after = Row row d below;
        steps = steps;
        reads = r;
        without = λ a b q. (b, left_out m row d below a b tt q);
      }
  find (left_out m row d below ks steps t r) k rest n e w h =
      let f = find r k rest n e (w.0.1, w.1) (safe_past rules table sound k n m row below w.0.0.0 h) in
      record {
        production = f.production;
        is_production = f.is_production;
        depth = f.depth;
        after = f.after;
        steps = f.steps;
        reads = f.reads;
        without = λ a b q. let x = f.without a b q in (x.0, left_out m row d below a x.0 tt x.1);
      }
  find (again m p row d below ks steps i r) k rest n e w h =
      let same =
      same_nonterminal k n m (safe_at rules table k n (Row row d below))
      (of_kind m p k rest ks e i (production_starts rules table sound (AnyEnd rules) m p d (Row (Many m ∷ row) d below) ks steps i r))
      h in
      record {
        production = p;
        is_production = subst (λ (x : N). IsOneOf p (rules.productions x)) same i;
        depth = d;
        after = Row (Many m ∷ row) d below;
        steps = steps;
        reads = r;
        without = λ a b q. (b, q);
      }
  find (ended m row d below ks steps t r) k rest n e w h =
      let f = find r k rest n e (w.0.1, w.1) (safe_past rules table sound k n m row below w.0.0.0 h) in
      record {
        production = f.production;
        is_production = f.is_production;
        depth = f.depth;
        after = f.after;
        steps = f.steps;
        reads = f.reads;
        without = λ a b q. let x = f.without a b q in (x.0, ended m row d below a x.0 tt x.1);
      }

  -- what is left out before a token with which it may begin can be read there as well
  instead : (n : N) (k : K) (rest : List K) (steps : List (Step A)) (row : List (Symbol N A K)) (d : ℕ) (below more : Stack N A K) →
      among rules table k (first_set rules table n) ≡ true →
      IsSafe rules table (Row row d below) → AreSafe rules table (own rules table n) row below → Reads rules (AnyEnd rules) (Row row d below) (k ∷ rest) steps →
      ((ks : List K) (others : List (Step A)) → Reads rules (AnyEnd rules) (Row row d below) ks others → Some_Reads rules more ks) →
      (p : P) × IsOneOf p (rules.productions n) × Some_Reads rules (Row (rules.row p) d more) (k ∷ rest)
  instead n k rest steps row d below more i w s r f =
      let found = find r k rest n refl w (maybe_safe rules table sound k n row below i s) in (
        found.production,
        found.is_production,
        lift rules found.after more (λ ks others q. let x = found.without ks others q in f ks x.0 x.1)
            (lifted (rules.row found.production) found.depth d found.after more base) found.reads,
      )

  -- ---- going through a reading

  abbrev Counted : Stack N A K → List K → Type 0
  Counted s ks = (steps : List (Step A)) × Reads rules (IsNotBegun rules) s ks steps

  -- what is read from fewer tokens has a reading that counts
  abbrev Later : List K → Type 0
  Later [] = Unit {0}
  Later (k ∷ rest) = (s : Stack N A K) (steps : List (Step A)) → IsSafe rules table s → Reads rules (AnyEnd rules) s rest steps → Counted s rest

  Sooner : List K → ℕ → Type 0
  Sooner ks f =
      (s : Stack N A K) (steps : List (Step A)) → moves_at rules table s < f → IsSafe rules table s →
      Reads rules (AnyEnd rules) s ks steps → Counted s ks

  begins_or_not : (n : N) (ks : List K) →
      ((k : K) × (rest : List K) × (ks ≡ k ∷ rest) × (among rules table k (first_set rules table n) ≡ true)) ⊎ IsNotBegun rules n ks
  begins_or_not n [] = inr tt
  begins_or_not n (k ∷ rest) = by (among rules table k (first_set rules table n)) refl
    where
      by : (b : Bool) → among rules table k (first_set rules table n) ≡ b →
          ((j : K) × (more : List K) × (k ∷ rest ≡ j ∷ more) × (among rules table j (first_set rules table n) ≡ true)) ⊎ IsNotBegun rules n (k ∷ rest)
      by true e = inl (k, rest, refl, e)
      by false e = inr (not_begun rules table sound n (k ∷ rest) e)

  -- a nonterminal's production on a stack
  with_production : (ks : List K) (f : ℕ) → Sooner ks f →
      (n : N) (p : P) (d : ℕ) (row : List (Symbol N A K)) (below : Stack N A K) (steps : List (Step A)) →
      IsOneOf p (rules.productions n) →
      table.cost n + 1 ≤ f → AreSafe rules table (table.tails n) row below → IsSafe rules table (Row row d below) →
      Reads rules (AnyEnd rules) (Row (rules.row p) d (Row row d below)) ks steps →
      Counted (Row (rules.row p) d (Row row d below)) ks
  unfolding Sooner
  with_production ks f sooner n p d row below steps i h t w r =
      sooner (Row (rules.row p) d (Row row d below)) steps
      (omega (arith, entered rules table sound n p (moves_at rules table (Row row d below)) i))
      (safe_production rules table sound n p d row below i t, w) r

  at_token : (k : K) (rest ks : List K) (s : Stack N A K) (steps : List (Step A)) → Later ks → ks ≡ k ∷ rest →
      IsSafe rules table s → Reads rules (AnyEnd rules) s rest steps → Counted s rest
  at_token k rest ks s steps later e w r =
      let at : Later (k ∷ rest) = subst Later e later in at s steps w r

  one_more : (ks : List K) → Later ks → (f : ℕ) → Sooner ks f → (s : Stack N A K) (steps : List (Step A)) →
      moves_at rules table s < suc f → IsSafe rules table s → Reads rules (AnyEnd rules) s ks steps → Counted s ks
  unfolding Sooner
  one_more ks later f sooner Bottom steps h w r =
      ([], subst (λ (x : List K). Reads rules (IsNotBegun rules) Bottom x []) (sym (un_bottom rules (AnyEnd rules) r).0) over)
  one_more ks later f sooner (Row [] d below) steps h w r =
      let c = sooner below steps (omega arith) w.1 (un_row rules (AnyEnd rules) r) in
      (c.0, row_over d below ks c.0 c.1)
  one_more ks later f sooner (Row (Read k ∷ row) d below) steps h w r =
      let u = un_read rules (AnyEnd rules) r in
      let c = at_token k u.0 ks (Row row d below) u.1 later u.2 (w.0.1, w.1) u.4 in (
        Took d ∷ c.0,
        subst (λ (x : List K). Reads rules (IsNotBegun rules) (Row (Read k ∷ row) d below) x (Took d ∷ c.0))
            (sym u.2) (read k row d below u.0 c.0 c.1),
      )
  one_more ks later f sooner (Row (Open k ∷ row) d below) steps h w r =
      let u = un_open rules (AnyEnd rules) r in
      let c = at_token k u.0 ks (Row row (suc d) below) u.1 later u.2 (w.0.1, w.1) u.4 in (
        Took (suc d) ∷ c.0,
        subst
            (λ (x : List K). Reads rules (IsNotBegun rules) (Row (Open k ∷ row) d below) x (Took (suc d) ∷ c.0)) (sym u.2)
            (opened k row d below u.0 c.0 c.1),
      )
  one_more ks later f sooner (Row (Act a ∷ row) d below) steps h w r =
      let u = un_act rules (AnyEnd rules) r in
      let c = sooner (Row row d below) u.0 (omega arith) (w.0.1, w.1) u.2 in
      (Did a ∷ c.0, acted a row d below ks c.0 c.1)
  one_more ks later f sooner (Row (Once n ∷ row) d below) steps h w r =
      let u = un_once rules (AnyEnd rules) r in
      let c = with_production ks f sooner n u.0 d row below steps u.1 (omega arith) w.0.0 (w.0.1, w.1) u.2 in
      (c.0, once n u.0 row d below ks c.0 u.1 c.1)
  one_more ks later f sooner (Row (Maybe n ∷ row) d below) steps h w r =
      elim (un_maybe rules (AnyEnd rules) r) [
        | inl u ↦
            let c = with_production ks f sooner n u.0 d row below steps u.1 (omega arith) w.0.0.1 (w.0.1, w.1) u.2 in
            (c.0, taken n u.0 row d below ks c.0 u.1 c.1)
        | inr u ↦ elim (begins_or_not n ks) [
          | inl b ↦
              let q = subst (λ (x : List K). Reads rules (AnyEnd rules) (Row row d below) x steps) b.2 u.1 in
              let i = instead n b.0 b.1 steps row d below (Row row d below) b.3 (w.0.1, w.1) w.0.0.0 q (λ xs others x. (others, x)) in
              let back = subst (λ (x : List K). Reads rules (AnyEnd rules) (Row (rules.row i.0) d (Row row d below)) x i.2.0) (sym b.2) i.2.1 in
              let c = with_production ks f sooner n i.0 d row below i.2.0 i.1 (omega arith) w.0.0.1 (w.0.1, w.1) back in
              (c.0, taken n i.0 row d below ks c.0 i.1 c.1)
          | inr b ↦
              let c = sooner (Row row d below) steps (omega arith) (w.0.1, w.1) u.1 in
              (c.0, left_out n row d below ks c.0 b c.1)
        ]
      ]
  one_more ks later f sooner (Row (Many n ∷ row) d below) steps h w r =
      elim (un_many rules (AnyEnd rules) r) [
        | inl u ↦
            let c = with_production ks f sooner n u.0 d (Many n ∷ row) below steps u.1 (omega arith) w.0.0.1 w u.2 in
            (c.0, again n u.0 row d below ks c.0 u.1 c.1)
        | inr u ↦ elim (begins_or_not n ks) [
          | inl b ↦
              let q = subst (λ (x : List K). Reads rules (AnyEnd rules) (Row row d below) x steps) b.2 u.1 in
              let i =
              instead n b.0 b.1 steps row d below (Row (Many n ∷ row) d below) b.3 (w.0.1, w.1) w.0.0.0 q
              (λ xs others x. (others, ended n row d below xs others tt x)) in
              let back = subst (λ (x : List K). Reads rules (AnyEnd rules) (Row (rules.row i.0) d (Row (Many n ∷ row) d below)) x i.2.0) (sym b.2) i.2.1 in
              let c = with_production ks f sooner n i.0 d (Many n ∷ row) below i.2.0 i.1 (omega arith) w.0.0.1 w back in
              (c.0, again n i.0 row d below ks c.0 i.1 c.1)
          | inr b ↦
              let c = sooner (Row row d below) steps (omega arith) (w.0.1, w.1) u.1 in
              (c.0, ended n row d below ks c.0 b c.1)
        ]
      ]

  all_sooner : (ks : List K) → Later ks → (f : ℕ) → Sooner ks f
  unfolding Sooner
  all_sooner ks later zero = λ s steps h w r. absurd (omega (arith, h))
  all_sooner ks later (suc f) = one_more ks later f (all_sooner ks later f)

  all_later : (ks : List K) → Later ks
  unfolding Sooner
  all_later [] = tt
  all_later (k ∷ rest) = λ s steps w r. all_sooner rest (all_later rest) (moves_at rules table s + 1) s steps (omega arith) w r

  -- what is read in any way has a reading that counts
  pub any_counts : (s : Stack N A K) (ks : List K) (steps : List (Step A)) → IsSafe rules table s → Reads rules (AnyEnd rules) s ks steps → Counted s ks
  unfolding Sooner
  any_counts s ks steps w r = all_sooner ks (all_later ks) (moves_at rules table s + 1) s steps (omega arith) w r
