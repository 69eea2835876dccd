-- Cells in preorder, and the numbers that they have.
use Rattle.std.proofs.Common.{◌≡◌, ◌≢◌, ℕ, zero, suc, ◌+◌, ◌<◌, Bool, true, false, cond, T, inl, inr, List, [], ◌∷◌, slice_get, Some}
use Rattle.std.proofs.Common.{refl, sym, ap, ◌∙◌, subst, arith, ◌&&◌, Contains}
use Rattle.std.specs.List.{AllByRecursion}
use Rattle.std.specs.Ordering.{nat_cmp, eq_by_cmp, is_lt}
use Rattle.std.specs.FinMap.{find, is_sorted}
use Rattle.std.specs.FinMap.Entries.{below_all}
use Rattle.std.proofs.lemmas.Bool.{cases_eq, cases_order}
use Rattle.std.proofs.lemmas.Bool.Decides.{nat_tests}
use Rattle.std.proofs.lemmas.Option.{same_Some}
use Rattle.gta_theory.specs.Assignments.{Position, Assignment}
use Rattle.store_core.specs.declared.ids.VariantId.{VariantId}
use Rattle.store_core.specs.declared.ids.CellId.{CellId}
use Rattle.store_core.specs.CellLists.{AreRising}
use Rattle.store_core.specs.Tables.{TypeEntry}
use Rattle.store_core.specs.Stores.{CellEntry}
use Rattle.store_core.proofs.Cells.{less_cmp, and_T}
use Rattle.routing_walks.proofs.GatheringLemmas.{Contains-here, Contains-there, Contains-cases, Contains-none}
use Rattle.tree_store.specs.Shapes.{IsCellOf}
use Rattle.tree_store.specs.Preorder.{ComesBefore}
use Rattle.tree_store.specs.Decoded.{Standing, AreCells, numbered, first_where, all_where, cell_in, entries_in}

-- ---- preorder

pub ComesBefore-not_itself : (p : Position) → ComesBefore p p → ⊥
ComesBefore-not_itself [] h = h
ComesBefore-not_itself (false ∷ p) h = ComesBefore-not_itself p h
ComesBefore-not_itself (true ∷ p) h = ComesBefore-not_itself p h

pub ComesBefore-one_way : (p q : Position) → ComesBefore p q → ComesBefore q p → ⊥
ComesBefore-one_way [] [] h k = h
ComesBefore-one_way [] (b ∷ q) h k = k
ComesBefore-one_way (b ∷ p) [] h k = h
ComesBefore-one_way (false ∷ p) (false ∷ q) h k = ComesBefore-one_way p q h k
ComesBefore-one_way (false ∷ p) (true ∷ q) h k = k
ComesBefore-one_way (true ∷ p) (false ∷ q) h k = h
ComesBefore-one_way (true ∷ p) (true ∷ q) h k = ComesBefore-one_way p q h k

module _ (types : List TypeEntry) (a : Assignment) (cells : List Standing) (are : AreCells types a cells) where
  -- one cell at a position
  pub one_place : (i j : ℕ) (x y : Standing) → slice_get cells i ≡ Some x → slice_get cells j ≡ Some y → x.at ≡ y.at → i ≡ j
  one_place i j x y at_i at_j same = elim (cases_order i j) [
    | inl e ↦ e
    | inr apart ↦ elim apart [
      | inl less ↦ absurd (ComesBefore-not_itself y.at (subst (λ p. ComesBefore p y.at) same (are.in_order i j x y less at_i at_j)))
      | inr more ↦ absurd (ComesBefore-not_itself y.at (subst (λ p. ComesBefore y.at p) same (are.in_order j i y x more at_j at_i)))
    ]
  ]

  -- and one variant
  pub one_variant : (v w : VariantId) (p : Position) → IsCellOf types a v p → IsCellOf types a w p → v ≡ w
  one_variant v w p of_v of_w =
      let one = are.all v p of_v in
      let other = are.all w p of_w in
      let same : one.0 ≡ other.0 = one_place one.0 other.0 _ _ one.1 other.1 refl in
      ap (λ (x : Standing). x.variant) (same_Some (record { variant = v; at = p }) (record { variant = w; at = p })
      (sym one.1 ∙ ap (λ i. slice_get cells i) same ∙ other.1))

-- ---- the first of which it is so, and all

later : (n i : ℕ) → suc n + i ≡ n + suc i
later n i = omega arith

pub record IsFoundAt (test : Position → Bool) (n : ℕ) (cells : List Standing) (c : CellId) : Type 0 where
  pub place : ℕ
  pub cell : Standing
  pub at : slice_get cells place ≡ Some cell
  pub is : test cell.at ≡ true
  pub number : c.0 ≡ n + place

found_later : (test : Position → Bool) (n : ℕ) (x : Standing) (cells : List Standing) (c : CellId) → IsFoundAt test (suc n) cells c → IsFoundAt test n
    (x ∷ cells) c
found_later test n x cells c h = record { place = suc h.place; cell = h.cell; at = h.at; is = h.is; number = h.number ∙ later n h.place }

pub first_found : (test : Position → Bool) (n : ℕ) (cells : List Standing) (c : CellId) → first_where test n cells ≡ Some c → IsFoundAt test n cells c
first_found test n [] c e = absurd (cc)
first_found test n (x ∷ cells) c e = by (λ k. first_found test (suc n) cells c k) (test x.at) refl e
  where
    by : (first_where test (suc n) cells ≡ Some c → IsFoundAt test (suc n) cells c) → (b : Bool) → test x.at ≡ b →
        cond b (Some (numbered n)) (first_where test (suc n) cells) ≡ Some c → IsFoundAt test n (x ∷ cells) c
    by rest true is e = record {
      place = 0;
      cell = x;
      at = refl;
      is = is;
      number = let same : c.0 ≡ n = sym
          (ap (λ (d : CellId). d.0) (same_Some (numbered n) c e)) in omega arith;
    }
    by rest false is e = found_later test n x cells c (rest e)

-- where there is one alone, it is the first
pub first_alone : (test : Position → Bool) (n : ℕ) (cells : List Standing) (i : ℕ) (x : Standing) → slice_get cells i ≡ Some x → test x.at ≡ true →
    ((j : ℕ) (y : Standing) → slice_get cells j ≡ Some y → test y.at ≡ true → j ≡ i) → first_where test n cells ≡ Some (numbered (n + i))
first_alone test n [] i x at is alone = absurd (cc)
first_alone test n (y ∷ cells) zero x at is alone =
    let same : y ≡ x = cc in
    let number : n ≡ n + 0 = omega arith in
    ap (λ b. cond b (Some (numbered n)) (first_where test (suc n) cells)) (ap (λ (z : Standing). test z.at) same ∙ is) ∙ ap (λ k. Some (numbered k)) number
first_alone test n (y ∷ cells) (suc i) x at is alone =
    by (first_alone test (suc n) cells i x at is (λ j z at_z passes. let both : suc j ≡ suc i = alone (suc j) z at_z passes in omega arith)) (test y.at) refl
  where
    by : first_where test (suc n) cells ≡ Some (numbered (suc n + i)) → (b : Bool) → test y.at ≡ b →
        cond b (Some (numbered n)) (first_where test (suc n) cells) ≡ Some (numbered (n + suc i))
    by rest true passes = let none : 0 ≡ suc i = alone 0 y refl passes in absurd (omega arith)
    by rest false fails = rest ∙ ap (λ k. Some (numbered k)) (later n i)

pub all_found : (test : Position → Bool) (n : ℕ) (cells : List Standing) (c : CellId) → Contains (all_where test n cells) c → IsFoundAt test n cells c
all_found test n [] c h = absurd (Contains-none c h)
all_found test n (x ∷ cells) c h = by (λ k. all_found test (suc n) cells c k) (test x.at) refl h
  where
    by : (Contains (all_where test (suc n) cells) c → IsFoundAt test (suc n) cells c) → (b : Bool) → test x.at ≡ b → Contains
        (cond b (numbered n ∷ all_where test (suc n) cells) (all_where test (suc n) cells)) c → IsFoundAt test n (x ∷ cells) c
    by rest true is h = elim (Contains-cases (numbered n) (all_where test (suc n) cells) c h) [
      | inl here ↦ record { place = 0; cell = x; at = refl; is = is; number = let same : c.0 ≡ n = ap (λ (d : CellId). d.0) here in omega arith }
      | inr there ↦ found_later test n x cells c (rest there)
    ]
    by rest false is h = found_later test n x cells c (rest h)

pub all_there : (test : Position → Bool) (n : ℕ) (cells : List Standing) (i : ℕ) (x : Standing) → slice_get cells i ≡ Some x → test x.at ≡ true →
    Contains (all_where test n cells) (numbered (n + i))
all_there test n [] i x at is = absurd (cc)
all_there test n (y ∷ cells) zero x at is =
    let same : y ≡ x = cc in
    let number : n ≡ n + 0 = omega arith in
    subst (λ b. Contains (cond b (numbered n ∷ all_where test (suc n) cells) (all_where test (suc n) cells)) (numbered (n + 0)))
    (sym (ap (λ (z : Standing). test z.at) same ∙ is))
    (subst (λ k. Contains (numbered n ∷ all_where test (suc n) cells) (numbered k)) number (Contains-here (numbered n) (all_where test (suc n) cells)))
all_there test n (y ∷ cells) (suc i) x at is =
    by (subst (λ k. Contains (all_where test (suc n) cells) (numbered k)) (later n i) (all_there test (suc n) cells i x at is)) (test y.at)
  where
    by : Contains (all_where test (suc n) cells) (numbered (n + suc i)) → (b : Bool) →
        Contains (cond b (numbered n ∷ all_where test (suc n) cells) (all_where test (suc n) cells)) (numbered (n + suc i))
    by rest true = Contains-there (numbered n) (all_where test (suc n) cells) (numbered (n + suc i)) rest
    by rest false = rest

all_above : (test : Position → Bool) (m n : ℕ) (cells : List Standing) → m < n → AllByRecursion (λ d. m < d.0) (all_where test n cells)
all_above test m n [] less = tt
all_above test m n (x ∷ cells) less = by (all_above test m (suc n) cells (omega arith)) (test x.at)
  where
    by : AllByRecursion (λ d. m < d.0) (all_where test (suc n) cells) → (b : Bool) →
        AllByRecursion (λ d. m < d.0) (cond b (numbered n ∷ all_where test (suc n) cells) (all_where test (suc n) cells))
    by rest true = (less, rest)
    by rest false = rest

pub all_rising : (test : Position → Bool) (n : ℕ) (cells : List Standing) → AreRising (all_where test n cells)
all_rising test n [] = tt
all_rising test n (x ∷ cells) = by (all_rising test (suc n) cells) (test x.at)
  where
    by : AreRising (all_where test (suc n) cells) → (b : Bool) → AreRising (cond b (numbered n ∷ all_where test (suc n) cells) (all_where test (suc n) cells))
    by rest true = (all_above test n (suc n) cells (omega arith), rest)
    by rest false = rest

-- ---- the entries of the store

module _ (types : List TypeEntry) (a : Assignment) (cells : List Standing) where
  same_key : (x y : ℕ) → x ≡ y → eq_by_cmp nat_cmp x y ≡ true
  same_key x y e = grind (arith, nat_tests)

  other_key : (x y : ℕ) → x ≢ y → eq_by_cmp nat_cmp x y ≡ false
  other_key x y e = grind (arith, nat_tests)

  pub entry_found : (n : ℕ) (from : List Standing) (i : ℕ) (x : Standing) → slice_get from i ≡ Some x →
      find nat_cmp (n + i) (entries_in types a cells n from) ≡ Some (cell_in types a cells x)
  entry_found n [] i x at = absurd (cc)
  entry_found n (y ∷ from) zero x at =
      let same : y ≡ x = cc in
      let number : n + 0 ≡ n = omega arith in
      ap (λ b. cond b (Some (cell_in types a cells y)) (find nat_cmp (n + 0) (entries_in types a cells (suc n) from))) (same_key (n + 0) n number)
      ∙ ap (λ z. Some (cell_in types a cells z)) same
  entry_found n (y ∷ from) (suc i) x at =
      ap (λ b. cond b (Some (cell_in types a cells y)) (find nat_cmp (n + suc i) (entries_in types a cells (suc n) from)))
      (other_key (n + suc i) n (λ e. let no : n + suc i ≡ n = e in absurd (omega arith)))
      ∙ ap (λ q. find nat_cmp q (entries_in types a cells (suc n) from)) (sym (later n i))
      ∙ entry_found (suc n) from i x at

  pub record IsEntryAt (n : ℕ) (from : List Standing) (q : ℕ) (e : CellEntry) : Type 0 where
    pub place : ℕ
    pub cell : Standing
    pub at : slice_get from place ≡ Some cell
    pub number : q ≡ n + place
    pub is : e ≡ cell_in types a cells cell

  pub found_entry : (n : ℕ) (from : List Standing) (q : ℕ) (e : CellEntry) → find nat_cmp q (entries_in types a cells n from) ≡ Some e → IsEntryAt n from q e
  found_entry n [] q e h = absurd (cc)
  found_entry n (y ∷ from) q e h = elim (cases_eq q n) [
    | inl same ↦
        let here : cond true (Some (cell_in types a cells y)) (find nat_cmp q (entries_in types a cells (suc n) from)) ≡ Some e =
        subst (λ b. cond b (Some (cell_in types a cells y)) (find nat_cmp q (entries_in types a cells (suc n) from)) ≡ Some e) (same_key q n same) h in
        record { place = 0; cell = y; at = refl; number = omega arith; is = sym (same_Some (cell_in types a cells y) e here) }
    | inr apart ↦
        let there : cond false (Some (cell_in types a cells y)) (find nat_cmp q (entries_in types a cells (suc n) from)) ≡ Some e =
        subst (λ b. cond b (Some (cell_in types a cells y)) (find nat_cmp q (entries_in types a cells (suc n) from)) ≡ Some e) (other_key q n apart) h in
        let rest = found_entry (suc n) from q e there in
        record { place = suc rest.place; cell = rest.cell; at = rest.at; number = rest.number ∙ later n rest.place; is = rest.is }
  ]

  entries_above : (m n : ℕ) (from : List Standing) → m < n → T (below_all nat_cmp m (entries_in types a cells n from))
  entries_above m n [] less = tt
  entries_above m n (y ∷ from) less = subst (λ r. T (is_lt r && below_all nat_cmp m (entries_in types a cells (suc n) from)))
      (sym (less_cmp m n less)) (entries_above m (suc n) from (omega arith))

  pub entries_sorted : (n : ℕ) (from : List Standing) → T (is_sorted nat_cmp (entries_in types a cells n from))
  entries_sorted n [] = tt
  entries_sorted n (y ∷ from) = and_T _ _ (entries_above n (suc n) from (omega arith)) (entries_sorted (suc n) from)
