-- The cells and the variables so far.
use Rattle.std.proofs.Common.{◌≡◌, ℕ, suc, ◌+◌, Bool, true, false, cond, List, [], ◌∷◌, ◌++◌, length, take, slice_get, Some, refl, sym, ap, ◌∙◌, arith}
use Rattle.std.proofs.Common.{append-nil}
use Rattle.gta_theory.specs.Assignments.{Position, Assignment}
use Rattle.store_core.specs.declared.ids.CellId.{CellId}
use Rattle.store_core.specs.declared.value.Value.{Value}
use Rattle.store_core.specs.Stores.{CellEntry}
use Rattle.store_core.specs.Tables.{TypeEntry, VarEntry}
use Rattle.tree_encode.specs.Tracks.{var_track}
use Rattle.witness_store.proofs.ListsLemmas.{take-next, length-front}
use Rattle.tree_store.specs.Decoded.{Standing, numbered, first_where, all_where, cell_in, entries_in, var_in, vars_in}

pub entries-more : (types : List TypeEntry) (a : Assignment) (cells : List Standing) (n : ℕ) (from : List Standing) (x : Standing) →
    entries_in types a cells n (from ++ x ∷ []) ≡ entries_in types a cells n from ++ (n + length from, cell_in types a cells x) ∷ []
entries-more types a cells n [] x = let none : n ≡ n + 0 = omega arith in ap (λ m. (m, cell_in types a cells x) ∷ []) none
entries-more types a cells n (y ∷ from) x =
    let next : suc n + length from ≡ n + suc (length from) = omega arith in
    ap (λ l. (n, cell_in types a cells y) ∷ l) (entries-more types a cells (suc n) from x
    ∙ ap (λ m. entries_in types a cells (suc n) from ++ (m, cell_in types a cells x) ∷ []) next)

pub all-more : (test : Position → Bool) (n : ℕ) (cells : List Standing) (x : Standing) →
    all_where test n (cells ++ x ∷ []) ≡ all_where test n cells ++ cond (test x.at) (numbered (n + length cells) ∷ []) []
all-more test n [] x = let none : n ≡ n + 0 = omega arith in ap (λ m. cond (test x.at) (numbered m ∷ []) []) none
all-more test n (y ∷ cells) x =
    ap (λ l. cond (test y.at) (numbered n ∷ l) l) (all-more test (suc n) cells x
    ∙ ap (λ m. all_where test (suc n) cells ++ cond (test x.at) (numbered m ∷ []) []) next)
    ∙ by (test y.at)
  where
    next : suc n + length cells ≡ n + suc (length cells)
    next = omega arith

    by : (b : Bool) →
        cond b (numbered n ∷ (all_where test (suc n) cells ++ cond (test x.at) (numbered (n + suc (length cells)) ∷ []) []))
        (all_where test (suc n) cells ++ cond (test x.at) (numbered (n + suc (length cells)) ∷ []) [])
        ≡ cond b (numbered n ∷ all_where test (suc n) cells) (all_where test (suc n) cells) ++ cond (test x.at) (numbered (n + suc (length cells)) ∷ []) []
    by true = refl
    by false = refl

pub first-of-all : (test : Position → Bool) (n : ℕ) (cells : List Standing) → slice_get (all_where test n cells) 0 ≡ first_where test n cells
first-of-all test n [] = refl
first-of-all test n (x ∷ cells) = by (first-of-all test (suc n) cells) (test x.at)
  where
    by : slice_get (all_where test (suc n) cells) 0 ≡ first_where test (suc n) cells → (b : Bool) →
        slice_get (cond b (numbered n ∷ all_where test (suc n) cells) (all_where test (suc n) cells)) 0 ≡ cond b (Some (numbered n))
        (first_where test (suc n) cells)
    by rest true = refl
    by rest false = rest

pub vars-more : (types : List TypeEntry) (vars : List VarEntry) (a : Assignment) (cells : List Standing) (n : ℕ) (from : List VarEntry) (v : VarEntry) →
    vars_in types vars a cells n (from ++ v ∷ []) ≡ vars_in types vars a cells n from
    ++ var_in a cells (var_track types vars (record { 0 = n + length from })) v.kind ∷ []
vars-more types vars a cells n [] v =
    let none : n ≡ n + 0 = omega arith in ap (λ m. var_in a cells (var_track types vars (record { 0 = m })) v.kind ∷ []) none
vars-more types vars a cells n (w ∷ from) v =
    let next : suc n + length from ≡ n + suc (length from) = omega arith in
    ap (λ l. var_in a cells (var_track types vars (record { 0 = n })) w.kind ∷ l) (vars-more types vars a cells (suc n) from v
    ∙ ap (λ m. vars_in types vars a cells (suc n) from ++ var_in a cells (var_track types vars (record { 0 = m })) v.kind ∷ []) next)

-- ---- one more of the cells so far

module _ (test : Position → Bool) (cells : List Standing) (i number : ℕ) (x : Standing) (named : List CellId) (at : slice_get cells i ≡ Some x)
    (next : number ≡ suc i) (so_far : named ≡ all_where test 1 (take i cells)) where
  named-next : (b : Bool) → test x.at ≡ b → named ++ cond b (numbered number ∷ []) [] ≡ all_where test 1 (take (i + 1) cells)
  named-next b is =
      let long = length-front cells i x at in
      let place : number ≡ 1 + length (take i cells) = omega arith in
      (λ k. so_far k ++ cond (sym is k) (numbered (place k) ∷ []) []) ∙ sym (all-more test 1 (take i cells) x) ∙ ap (all_where test 1)
      (sym (take-next cells i x at))

  pub named-yes : test x.at ≡ true → named ++ numbered number ∷ [] ≡ all_where test 1 (take (i + 1) cells)
  named-yes is = named-next true is

  pub named-no : test x.at ≡ false → named ≡ all_where test 1 (take (i + 1) cells)
  named-no is = sym (append-nil named) ∙ named-next false is

pub entries-next : (types : List TypeEntry) (a : Assignment) (cells : List Standing) (i number : ℕ) (x : Standing) (old : List (ℕ × CellEntry))
    (e : ℕ × CellEntry) →
    slice_get cells i ≡ Some x → number ≡ suc i → old ≡ entries_in types a cells 1 (take i cells) → e ≡ (number, cell_in types a cells x) →
    old ++ e ∷ [] ≡ entries_in types a cells 1 (take (i + 1) cells)
entries-next types a cells i number x old e at next so_far is =
    let long = length-front cells i x at in
    let place : number ≡ 1 + length (take i cells) = omega arith in
    (λ k. so_far k ++ (is ∙ ap (λ n. (n, cell_in types a cells x)) place) k ∷ [])
    ∙ sym (entries-more types a cells 1 (take i cells) x) ∙ ap (entries_in types a cells 1) (sym (take-next cells i x at))

pub vars-next : (types : List TypeEntry) (vars : List VarEntry) (a : Assignment) (cells : List Standing) (i : ℕ) (v : VarEntry) (old : List Value) (y : Value) →
    slice_get vars i ≡ Some v → old ≡ vars_in types vars a cells 0 (take i vars) → y ≡ var_in a cells (var_track types vars (record { 0 = i })) v.kind →
    old ++ y ∷ [] ≡ vars_in types vars a cells 0 (take (i + 1) vars)
vars-next types vars a cells i v old y at so_far is =
    let long = length-front vars i v at in
    let place : i ≡ 0 + length (take i vars) = omega arith in
    (λ k. so_far k ++ (is ∙ ap (λ n. var_in a cells (var_track types vars (record { 0 = n })) v.kind) place) k ∷ [])
    ∙ sym (vars-more types vars a cells 0 (take i vars) v) ∙ ap (vars_in types vars a cells 0) (sym (take-next vars i v at))
