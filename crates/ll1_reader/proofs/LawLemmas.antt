-- The laws of readings, by the grammar's own rows.
use Rattle.std.proofs.Common.{◌≡◌, ℕ, suc, List, [], ◌∷◌, sym, ◌∙◌, ap, subst, inl, inr}
use Rattle.ll1_reader.specs.declared.symbol.Symbol.TheVariants.{Many}
use Rattle.ll1_reader.specs.Grammars.{Rows, Rules, IsOneOf, rules_of}
use Rattle.ll1_reader.specs.Predicting.{Table, IsLl1, AreNamed}
use Rattle.ll1_reader.specs.Readings.{Stack, Bottom, Row, Step, Took, Did, Reads, over, row_over, read, opened, acted, once}
use Rattle.ll1_reader.specs.Readings.{taken, left_out, again, ended, IsNotBegun, IsAnyReading, IsReading}
use Rattle.ll1_reader.proofs.Firsts.{BeginsAmong, production_starts}
use Rattle.ll1_reader.proofs.KindLists.{only_production, among_all}
use Rattle.ll1_reader.proofs.SafeStacks.{text_ends_well}
use Rattle.ll1_reader.proofs.Ends.{begun}
use Rattle.ll1_reader.proofs.SentenceLemmas.{any_counts}
use Rattle.ll1_reader.proofs.Inversions.{un_bottom, un_row, un_read, un_open, un_act, un_once, un_maybe, un_many}
use Rattle.ll1_reader.proofs.SameRows.{reading_to_rows, reading_to_names, any_to_names}

module _ {N P A K : Type 0} (rules : Rules N P A K) (table : Table N P K) (sound : IsLl1 rules table) where
  abbrev Counts : N → List K → Type 0
  Counts = IsNotBegun rules

  -- two productions of a nonterminal that are read from the same tokens are one
  same_production : (n : N) (p q : P) (d e : ℕ) (x y : Stack N A K) (ks : List K) (one other : List (Step A)) →
      IsOneOf p (rules.productions n) → IsOneOf q (rules.productions n) →
      Reads rules Counts (Row (rules.row p) d x) ks one → Reads rules Counts (Row (rules.row q) e y) ks other → p ≡ q
  same_production n p q d e x y ks one other i j r s =
      by ks (production_starts rules table sound Counts n p d x ks one i r)
      (production_starts rules table sound Counts n q e y ks other j s)
    where
      by : (tokens : List K) → BeginsAmong rules table sound (table.first p) tokens → BeginsAmong rules table sound (table.first q) tokens → p ≡ q
      by [] a b = absurd a
      by (k ∷ tokens) a b = only_production rules table sound n k p q i j a b

  -- a nonterminal that is read isn't ended there
  read_or_ended : (n : N) (p : P) (d : ℕ) (x : Stack N A K) (ks : List K) (steps : List (Step A)) → IsOneOf p (rules.productions n) →
      Reads rules Counts (Row (rules.row p) d x) ks steps → IsNotBegun rules n ks → ⊥
  read_or_ended n p d x ks steps i r m = by ks (production_starts rules table sound Counts n p d x ks steps i r) m
    where
      by : (tokens : List K) → BeginsAmong rules table sound (table.first p) tokens → IsNotBegun rules n tokens → ⊥
      by [] a b = a
      by (k ∷ tokens) a b = begun rules table sound n k tokens (among_all rules table sound k (rules.productions n) p i a) b

  along : {s : Stack N A K} {ks : List K} {one : List (Step A)} → Reads rules Counts s ks one → (other : List (Step A)) →
      Reads rules Counts s ks other → one ≡ other
  along over other r = sym (un_bottom rules Counts r).1
  along (row_over d below ks steps q) other r = along q other (un_row rules Counts r)
  along (read k row d below ks steps q) other r =
      let u = un_read rules Counts r in
      let same : u.0 ≡ ks = cc (u.2) in
      ap (λ l. Took d ∷ l) (along q u.1 (subst (λ (x : List K). Reads rules Counts (Row row d below) x u.1) same u.4)) ∙ sym u.3
  along (opened k row d below ks steps q) other r =
      let u = un_open rules Counts r in
      let same : u.0 ≡ ks = cc (u.2) in
      ap (λ l. Took (suc d) ∷ l) (along q u.1 (subst (λ (x : List K). Reads rules Counts (Row row (suc d) below) x u.1) same u.4)) ∙ sym u.3
  along (acted a row d below ks steps q) other r = let u = un_act rules Counts r in ap (λ l. Did a ∷ l) (along q u.0 u.2) ∙ sym u.1
  along (once n p row d below ks steps i q) other r =
      let u = un_once rules Counts r in
      let same = same_production n u.0 p d d (Row row d below) (Row row d below) ks other steps u.1 i u.2 q in
      along q other (subst (λ (x : P). Reads rules Counts (Row (rules.row x) d (Row row d below)) ks other) same u.2)
  along (taken n p row d below ks steps i q) other r =
      elim (un_maybe rules Counts r) [
        | inl u ↦
            let same = same_production n u.0 p d d (Row row d below) (Row row d below) ks other steps u.1 i u.2 q in
            along q other (subst (λ (x : P). Reads rules Counts (Row (rules.row x) d (Row row d below)) ks other) same u.2)
        | inr u ↦ absurd (read_or_ended n p d (Row row d below) ks steps i q u.0)
      ]
  along (left_out n row d below ks steps m q) other r =
      elim (un_maybe rules Counts r) [
        | inl u ↦ absurd (read_or_ended n u.0 d (Row row d below) ks other u.1 u.2 m)
        | inr u ↦ along q other u.1
      ]
  along (again n p row d below ks steps i q) other r =
      elim (un_many rules Counts r) [
        | inl u ↦
            let same = same_production n u.0 p d d (Row (Many n ∷ row) d below) (Row (Many n ∷ row) d below) ks other steps u.1 i u.2 q in
            along q other (subst (λ (x : P). Reads rules Counts (Row (rules.row x) d (Row (Many n ∷ row) d below)) ks other) same u.2)
        | inr u ↦ absurd (read_or_ended n p d (Row (Many n ∷ row) d below) ks steps i q u.0)
      ]
  along (ended n row d below ks steps m q) other r =
      elim (un_many rules Counts r) [
        | inl u ↦ absurd (read_or_ended n u.0 d (Row (Many n ∷ row) d below) ks other u.1 u.2 m)
        | inr u ↦ along q other u.1
      ]

module _ {N P A K : Type 0} (grammar : Rows N A K) (rules : Rules N P A K) (named : AreNamed grammar rules) (table : Table N P K)
    (sound : IsLl1 rules table) where
  pub sentence_counts : (tokens : List K) (steps : List (Step A)) → IsAnyReading (rules_of grammar) tokens steps →
      (counted : List (Step A)) × IsReading (rules_of grammar) tokens counted
  sentence_counts tokens steps r =
      let counted =
      any_counts rules table sound (Row rules.text 0 Bottom) tokens steps (text_ends_well rules table sound, tt)
      (any_to_names grammar rules named tokens steps r) in
      (counted.0, reading_to_rows grammar rules named tokens counted.0 counted.1)

  pub one_counts : (tokens : List K) (one other : List (Step A)) → IsReading (rules_of grammar) tokens one →
      IsReading (rules_of grammar) tokens other → one ≡ other
  one_counts tokens one other r s =
      along rules table sound (reading_to_names grammar rules named tokens one r) other
      (reading_to_names grammar rules named tokens other s)
