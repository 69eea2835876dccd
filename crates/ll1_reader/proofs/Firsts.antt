-- With which tokens a reading may begin.
use Rattle.std.proofs.Common.{◌≡◌, ℕ, true, List, [], ◌∷◌}
use Rattle.ll1_reader.specs.Grammars.{Rules, IsOneOf}
use Rattle.ll1_reader.specs.Predicting.{Table, IsLl1, among, all_among, first_set, covers}
use Rattle.ll1_reader.specs.Readings.{Stack, Bottom, Row, Step, Reads, over, row_over, read, opened, acted, once, taken, left_out, again, ended}
use Rattle.ll1_reader.proofs.KindLists.{and_left, and_right, false_true, all_among_at, among_all, fine_production}

module _ {N P A K : Type 0} (rules : Rules N P A K) (table : Table N P K) (sound : IsLl1 rules table) where
  -- the first of these tokens, which must be there, is among these kinds
  abbrev pub BeginsAmong : List K → List K → Type 0
  BeginsAmong js [] = ⊥
  BeginsAmong js (k ∷ _) = among rules table k js ≡ true

  begins_in_all : (ks js : List K) (tokens : List K) → all_among rules table ks js ≡ true → BeginsAmong ks tokens → BeginsAmong js tokens
  begins_in_all ks js [] h b = absurd b
  begins_in_all ks js (k ∷ _) h b = all_among_at rules table sound k ks js h b

  begins_of_production : (n : N) (p : P) (tokens : List K) → IsOneOf p (rules.productions n) → BeginsAmong (table.first p) tokens →
      BeginsAmong (first_set rules table n) tokens
  begins_of_production n p [] i b = absurd b
  begins_of_production n p (k ∷ _) i b = among_all rules table sound k (rules.productions n) p i b

  -- what a covered row on top is read from begins with one of the kinds that cover it
  abbrev pub StartsWell : Stack N A K → List K → Type 0
  StartsWell Bottom tokens = Unit {0}
  StartsWell (Row row d below) tokens = (js : List K) → covers rules table js row ≡ true → BeginsAmong js tokens

  module _ (MayEnd : N → List K → Type 0) where
    pub starts_well : {s : Stack N A K} {ks : List K} {steps : List (Step A)} → Reads rules MayEnd s ks steps → StartsWell s ks
    starts_well over = tt
    starts_well (row_over d below ks steps r) = λ js h. false_true h
    starts_well (read k row d below ks steps r) = λ js h. h
    starts_well (opened k row d below ks steps r) = λ js h. h
    starts_well (acted a row d below ks steps r) = λ js h. starts_well r js h
    starts_well (once n p row d below ks steps i r) = λ js h.
        begins_in_all (first_set rules table n) js ks h
        (begins_of_production n p ks i (starts_well r (table.first p) (fine_production rules table sound n p i).covered))
    starts_well (taken n p row d below ks steps i r) = λ js h.
        begins_in_all (first_set rules table n) js ks (and_left (all_among rules table (first_set rules table n) js) _ h)
        (begins_of_production n p ks i (starts_well r (table.first p) (fine_production rules table sound n p i).covered))
    starts_well (left_out n row d below ks steps m r) = λ js h. starts_well r js (and_right (all_among rules table (first_set rules table n) js) _ h)
    starts_well (again n p row d below ks steps i r) = λ js h.
        begins_in_all (first_set rules table n) js ks (and_left (all_among rules table (first_set rules table n) js) _ h)
        (begins_of_production n p ks i (starts_well r (table.first p) (fine_production rules table sound n p i).covered))
    starts_well (ended n row d below ks steps m r) = λ js h. starts_well r js (and_right (all_among rules table (first_set rules table n) js) _ h)

    -- a production is read from tokens that begin with one of its kinds
    pub production_starts : (n : N) (p : P) (d : ℕ) (below : Stack N A K) (ks : List K) (steps : List (Step A)) → IsOneOf p (rules.productions n) →
        Reads rules MayEnd (Row (rules.row p) d below) ks steps → BeginsAmong (table.first p) ks
    production_starts n p d below ks steps i r = starts_well r (table.first p) (fine_production rules table sound n p i).covered
