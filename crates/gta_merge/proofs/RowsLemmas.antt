-- Rows that are put into one list.
use Rattle.std.proofs.Common.{◌≡◌, ℕ, suc, ◌+◌, ◌*◌, ◌<◌, List, [], ◌∷◌, ◌++◌, length, map, Option, Some, None, inl, inr}
use Rattle.std.proofs.Common.{sym, ◌∙◌, ap, refl, subst, arith, length-append}
use Rattle.std.specs.Prelude.{slice_get, option_map}
use Rattle.std.proofs.lemmas.Bool.{cases_lt}
use Rattle.std.proofs.lemmas.List.{length-map}
use Rattle.std.proofs.lemmas.Nat.{mul-add-lt}
use Rattle.std.proofs.lemmas.Option.{slice_get_within, slice_get-map}
use Rattle.std.proofs.Math.Nat.{mul_comm}
use Rattle.bdd_nodes.specs.declared.node_ref.NodeRef.{NodeRef}
use Rattle.gta_theory.proofs.ListedLemmas.{slice_get-front}
use Rattle.gta_core.specs.Placing.{Grows}
use Rattle.gta_core.proofs.PlacingLemmas.{Grows-append, Grows-trans}
use Rattle.gta_merge.specs.Lines.{some_root, PutsRows}

get-after : {X : Type 0} (xs ys : List X) (k : ℕ) → slice_get (xs ++ ys) (length xs + k) ≡ slice_get ys k
get-after [] ys k = let e : 0 + k ≡ k = omega arith in ap (slice_get ys) e
get-after (x ∷ xs) ys k =
    let e : suc (length xs) + k ≡ suc (length xs + k) = omega arith in ap (slice_get (x ∷ xs ++ ys)) e ∙ get-after xs ys k

-- an element of a line
line-at : (root : ℕ → Option NodeRef) (rights : List ℕ) (row : List NodeRef) → map some_root row ≡ map root rights → (j right : ℕ) →
    slice_get rights j ≡ Some right → slice_get row j ≡ root right
line-at root rights row is j right there = pick (slice_get row j) refl
  where
    at : option_map some_root (slice_get row j) ≡ Some (root right)
    at = sym (slice_get-map some_root row j) ∙ ap (λ (rs : List (Option NodeRef)). slice_get rs j) is
        ∙ slice_get-map root rights j ∙ ap (option_map root) there

    pick : (o : Option NodeRef) → slice_get row j ≡ o → slice_get row j ≡ root right
    pick None e = absurd (let f : ◌≡◌ {A = Option (Option NodeRef)} None (Some (root right)) =
        sym (ap (option_map some_root) e) ∙ at in cc)
    pick (Some r) e =
        let f : ◌≡◌ {A = Option (Option NodeRef)} (Some (Some r)) (Some (root right)) =
        sym (ap (option_map some_root) e) ∙ at in
        let same : Some r ≡ root right = cc in
        e ∙ same

line-many : (root : ℕ → Option NodeRef) (rights : List ℕ) (row : List NodeRef) → map some_root row ≡ map root rights → length row ≡ length rights
line-many root rights row is =
    sym (length-map row some_root) ∙ ap (λ (rs : List (Option NodeRef)). length rs) is
    ∙ length-map rights root

module _ (root : ℕ → ℕ → Option NodeRef) (lefts rights : List ℕ) (old : List NodeRef) where
  -- the rows of the first left states
  pub record RowsBelow (below : ℕ) (roots : List NodeRef) : Type 0 where
    pub grown : Grows old roots
    pub many : length roots ≡ length old + below * length rights
    pub each : (i j left right : ℕ) → i < below → slice_get lefts i ≡ Some left → slice_get rights j ≡ Some right →
        slice_get roots (length old + (i * length rights + j)) ≡ root left right

  pub RowsBelow-none : RowsBelow 0 old
  RowsBelow-none = record {
    grown = record { longer = omega arith; kept = λ place inside. refl };
    many = omega arith;
    each = λ i j left right inside. absurd (omega arith);
  }

  pub RowsBelow-more : (below left : ℕ) (roots row new : List NodeRef) → RowsBelow below roots → slice_get lefts below ≡ Some left →
      map some_root row ≡ map (root left) rights → new ≡ roots ++ row → RowsBelow (below + 1) new
  RowsBelow-more below left roots row new so_far at line is = subst (RowsBelow (below + 1)) (sym is) (record {
    grown = Grows-trans old roots (roots ++ row) so_far.grown (Grows-append roots row);
    many = length-append roots row ∙ (let m = so_far.many in let l = line-many (root left) rights row line in
        let d : (below + 1) * length rights ≡ below * length rights + length rights = omega arith in omega arith);
    each = λ i j l right inside l_at r_at. elim (cases_lt i below) [
      | inl before ↦
          let j_in = slice_get_within rights j right r_at in
          let bound = mul-add-lt i (length rights) j below before j_in in
          let c = mul_comm (length rights) below in
          let m = so_far.many in
          slice_get-front roots row (length old + (i * length rights + j)) (omega arith) ∙ so_far.each i j l right before l_at r_at
      | inr past ↦
          let is_below : i ≡ below = omega arith in
          let e : Some left ≡ Some l = sym at ∙ ap (slice_get lefts) (sym is_below) ∙ l_at in
          let same : left ≡ l = cc in
          let m = so_far.many in
          let place : length old + (i * length rights + j) ≡ length roots + j =
          ap (λ (k : ℕ). length old + (k * length rights + j)) is_below ∙ (omega arith) in
          ap (slice_get (roots ++ row)) place ∙ get-after roots row j ∙ line-at (root left) rights row line j right r_at
          ∙ ap (λ (k : ℕ). root k right) same
    ];
  })

  pub PutsRows-all : (roots : List NodeRef) → RowsBelow (length lefts) roots → PutsRows root lefts rights old roots
  PutsRows-all roots all = record {
    grown = all.grown;
    many = all.many;
    each = λ i j left right l_at r_at. all.each i j left right (slice_get_within lefts i left l_at) l_at r_at;
  }
