-- Short lists of states, one state after the other; and the roots for them.
use Rattle.std.proofs.Common.{◌≡◌, ◌<◌, ◌+◌, ◌*◌, ℕ, true, false, List, [], ◌∷◌, ◌++◌, length, Option, Some, None, Result, Ok, Err, OnOk, Contains, inl, inr}
use Rattle.std.proofs.Common.{refl, sym, ◌∙◌, ap, subst, arith, length-append}
use Rattle.std.specs.Prelude.{slice_get, nat_eq, IsSome, option_and_then, option_map, unwrap_or}
use Rattle.std.proofs.lemmas.Option.{slice_get_within}
use Rattle.std.specs.HashSet.{contains}
use Rattle.std.specs.HashSet as set
use Rattle.std.proofs.lemmas.Bool.{cases_Bool, eqb-true, false≢true}
use Rattle.std.proofs.lemmas.List.Elements.{Contains-append_left, Contains-append_right, Contains-append_cases}
use Rattle.gta_theory.proofs.ListsLemmas.{Contains-first, Contains-cases, Contains-none}
use Rattle.bdd_nodes.specs.declared.node_ref.NodeRef.{NodeRef}
use Rattle.bdd_nodes.specs.Shelf.{Contents, root_of}
use Rattle.gta_core.specs.declared.part.Part.{Part}
use Rattle.gta_core.specs.Auto.{AutoView, place_in, root_at}
use Rattle.gta_subsets.specs.Classes.{HaveClasses}
use Rattle.gta_subsets.specs.Roots.{AreRoots}
use Rattle.gta_subsets.specs.Shorts.{rows_in, columns_in, AreShorts, SeenClasses, IsShortStep, was_seen, is_first, has_none}
use Rattle.gta_subsets.proofs.NumbersLemmas.{get-snoc}

-- a state of the list has the class
pub HasClass : List ℕ → List ℕ → Option ℕ → Type 0
HasClass classes short class = (r : ℕ) × Contains short r × (class ≡ slice_get classes r)

-- the short list of the states that were looked at
pub record Shortens (classes done : List ℕ) (seen : SeenClasses) (short : List ℕ) : Type 0 where
  pub there : (q : ℕ) → Contains done q → HasClass classes short (slice_get classes q)
  pub inside : (q : ℕ) → Contains short q → Contains done q
  pub known : (class : ℕ) → contains nat_eq seen class ≡ true → HasClass classes short (Some class)

alone : (y x : ℕ) → Contains (y ∷ []) x → y ≡ x
alone y x there = elim (Contains-cases y x [] there) [ inl same ↦ same | inr later ↦ absurd (Contains-none x later) ]

last-of : (xs : List ℕ) (x : ℕ) → Contains (xs ++ x ∷ []) x
last-of xs x = Contains-append_right xs (x ∷ []) x (Contains-first x [])

module _ (classes : List ℕ) where
  pub Shortens-none : (seen : SeenClasses) → ((class : ℕ) → contains nat_eq seen class ≡ false) → Shortens classes [] seen []
  Shortens-none seen none = record {
    there = λ q there. absurd (Contains-none q there);
    inside = λ q there. there;
    known = λ class there. absurd (false≢true (sym (none class) ∙ there));
  }

  pub HaveClasses-short : (set : List ℕ) (seen : SeenClasses) (short : List ℕ) → Shortens classes set seen short → HaveClasses classes set short
  unfolding HasClass
  HaveClasses-short set seen short is = record {
    there = is.there;
    back = λ r there. (r, is.inside r there, refl);
  }

  module _ (done : List ℕ) (seen : SeenClasses) (short : List ℕ) (state : ℕ) (so_far : Shortens classes done seen short) where
    lift : (class : Option ℕ) → HasClass classes short class → HasClass classes (short ++ state ∷ []) class
    unfolding HasClass
    lift class has = (has.0, Contains-append_left short (state ∷ []) has.0 has.1, has.2)

    here : HasClass classes (short ++ state ∷ []) (slice_get classes state)
    unfolding HasClass
    here = (state, last-of short state, refl)

    of-seen : HasClass classes short (slice_get classes state) → Shortens classes (done ++ state ∷ []) seen short
    of-seen has = record {
      there = λ q there. elim (Contains-append_cases done (state ∷ []) q there) [
        | inl before ↦ so_far.there q before
        | inr last ↦ subst (λ (n : ℕ). HasClass classes short (slice_get classes n)) (alone state q last) has
      ];
      inside = λ q there. Contains-append_left done (state ∷ []) q (so_far.inside q there);
      known = so_far.known;
    }

    of-new : (after : SeenClasses) →
        ((class : ℕ) → contains nat_eq after class ≡ true → HasClass classes (short ++ state ∷ []) (Some class)) →
        Shortens classes (done ++ state ∷ []) after (short ++ state ∷ [])
    of-new after seen_after = record {
      there = λ q there. elim (Contains-append_cases done (state ∷ []) q there) [
        | inl before ↦ lift (slice_get classes q) (so_far.there q before)
        | inr last ↦ subst (λ (n : ℕ). HasClass classes (short ++ state ∷ []) (slice_get classes n)) (alone state q last) here
      ];
      inside = λ q there. elim (Contains-append_cases short (state ∷ []) q there) [
        | inl before ↦ Contains-append_left done (state ∷ []) q (so_far.inside q before)
        | inr last ↦ Contains-append_right done (state ∷ []) q last
      ];
      known = seen_after;
    }

    first-seen : (k : ℕ) → slice_get classes state ≡ Some k → (after : SeenClasses) → set.Updates nat_eq seen after k true →
        (class : ℕ) → contains nat_eq after class ≡ true → HasClass classes (short ++ state ∷ []) (Some class)
    first-seen k is after updates class there = elim (cases_Bool (nat_eq k class)) [
      | inl same ↦ subst (λ (n : ℕ). HasClass classes (short ++ state ∷ []) (Some n)) (eqb-true k class same)
          (subst (HasClass classes (short ++ state ∷ [])) is here)
      | inr apart ↦ lift (Some class) (so_far.known class (sym (updates.2 class apart) ∙ there))
    ]

  pub Shortens-step : (done : List ℕ) (seen : SeenClasses) (short : List ℕ) (state : ℕ) → Shortens classes done seen short →
      (after : SeenClasses) (longer : List ℕ) → IsShortStep (slice_get classes state) state seen short after longer →
      Shortens classes (done ++ state ∷ []) after longer
  Shortens-step done seen short state so_far _ _ (was_seen k is was) =
      of-seen done seen short state so_far (subst (HasClass classes short) (sym is) (so_far.known k was))
  Shortens-step done seen short state so_far _ _ (is_first k after is updates) =
      of-new done seen short state so_far after (first-seen done seen short state so_far k is after updates)
  Shortens-step done seen short state so_far _ _ (has_none none) =
      of-new done seen short state so_far seen (λ class there. lift done seen short state so_far (Some class) (so_far.known class there))

  -- a set more
  pub AreShorts-none : AreShorts classes [] []
  AreShorts-none = record {
    many = refl;
    each = λ k set short at. absurd (let f : ◌≡◌ {A = Option (List ℕ)} None (Some set) = at in cc);
  }

  pub AreShorts-more : (sets shorts : List (List ℕ)) (set short : List ℕ) → AreShorts classes sets shorts → HaveClasses classes set short →
      AreShorts classes (sets ++ set ∷ []) (shorts ++ short ∷ [])
  AreShorts-more sets shorts set short are have = record {
    many = omega (arith, length-append sets (set ∷ []), length-append shorts (short ∷ []), are.many);
    each = λ k one two at at_short. elim (get-snoc sets set one k at) [
      | inl before ↦ elim (get-snoc shorts short two k at_short) [
        | inl both ↦ are.each k one two before both
        | inr past ↦ absurd (let w : k < length sets = slice_get_within sets k one before in omega (arith, past.0, are.many))
      ]
      | inr last ↦ elim (get-snoc shorts short two k at_short) [
        | inl front ↦ absurd (let w : k < length shorts = slice_get_within shorts k two front in omega (arith, last.0, are.many))
        | inr both ↦ subst (λ (x : List ℕ). HaveClasses classes x two) (sym last.1)
            (subst (λ (x : List ℕ). HaveClasses classes set x) (sym both.1) have)
      ]
    ];
  }

-- states of the same classes have the same root
module _ (shelf : Contents) (a : AutoView) (s : ℕ) where
  pub root_at-classes : (l m r n : ℕ) → slice_get (rows_in a s) l ≡ slice_get (rows_in a s) m →
      slice_get (columns_in a s) r ≡ slice_get (columns_in a s) n → root_at shelf a s l r ≡ root_at shelf a s m n
  unfolding root_at
  root_at-classes l m r n rows columns = ap (option_and_then (root_of shelf a.table)) (same-place (slice_get a.parts s) rows columns)
    where
      same-place : (part : Option Part) →
          slice_get (unwrap_or (option_map (λ (p : Part). p.rows) part) []) l ≡ slice_get (unwrap_or (option_map (λ (p : Part). p.rows) part) []) m →
          slice_get (unwrap_or (option_map (λ (p : Part). p.columns) part) []) r ≡ slice_get (unwrap_or (option_map (λ (p : Part). p.columns) part) []) n →
          option_and_then (λ (p : Part). place_in p l r) part ≡ option_and_then (λ (p : Part). place_in p m n) part
      same-place None of_rows of_columns = refl
      same-place (Some part) of_rows of_columns =
          ap (λ (row : Option ℕ). option_and_then (λ (i : ℕ). option_and_then (λ (j : ℕ).
          option_map (λ (cell : ℕ). part.first + cell) (slice_get part.cells (i * part.width + j))) (slice_get part.columns r)) row) of_rows
          ∙ ap (λ (column : Option ℕ). option_and_then (λ (i : ℕ). option_and_then (λ (j : ℕ).
          option_map (λ (cell : ℕ). part.first + cell) (slice_get part.cells (i * part.width + j))) column) (slice_get part.rows m)) of_columns

  module _ (lefts rights short_lefts short_rights : List ℕ) (rows : HaveClasses (rows_in a s) lefts short_lefts)
      (columns : HaveClasses (columns_in a s) rights short_rights) where
    -- each pair of the short lists has a root
    pub known-short : ((l r : ℕ) → Contains lefts l → Contains rights r → IsSome (root_at shelf a s l r)) →
        (l r : ℕ) → Contains short_lefts l → Contains short_rights r → IsSome (root_at shelf a s l r)
    known-short known l r in_l in_r =
        let m = rows.back l in_l in
        let n = columns.back r in_r in
        subst (λ (o : Option NodeRef). IsSome o) (root_at-classes m.0 l n.0 r m.2 n.2) (known m.0 n.0 m.1 n.1)

    -- the roots for the short lists are those for the sets
    pub AreRoots-short : (roots : List NodeRef) → AreRoots (root_at shelf a s) short_lefts short_rights roots →
        AreRoots (root_at shelf a s) lefts rights roots
    AreRoots-short roots are = record {
      each = λ l r root in_l in_r at.
          let m = rows.there l in_l in
          let n = columns.there r in_r in
          are.each m.0 n.0 root m.1 n.1 (sym (root_at-classes l m.0 r n.0 m.2 n.2) ∙ at);
      only = λ root there.
          let of = are.only root there in
          let m = rows.back of.left of.in_left in
          let n = columns.back of.right of.in_right in
          record {
            left = m.0;
            right = n.0;
            in_left = m.1;
            in_right = n.1;
            is = root_at-classes m.0 of.left n.0 of.right m.2 n.2 ∙ of.is;
          };
    }

-- what stands where the call went well
pub on-ok : {T E P Q : Type 0} (r : Result T E) → (P → Q) → OnOk r P → OnOk r Q
on-ok (Ok x) follows holds = follows holds
on-ok (Err e) follows holds = tt
