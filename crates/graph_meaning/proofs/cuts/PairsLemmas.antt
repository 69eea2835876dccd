-- Pairs of listed things, in order.
use Rattle.std.proofs.Common.{◌≡◌, ◌⊎◌, inl, inr, ℕ, zero, suc, ◌<◌, ◌≤◌, Bool, true, false, cond, List, [], ◌∷◌, ◌++◌, map, length, slice_get, Option, Some}
use Rattle.std.proofs.Common.{None, Contains, refl, sym, ap, ◌∙◌, subst, arith, length-append, ◌+◌}
use Rattle.std.specs.Prelude.{filter}
use Rattle.std.proofs.lemmas.Bool.{false≢true, cases_lt}
use Rattle.std.proofs.lemmas.Option.{slice_get_within}
use Rattle.std.proofs.lemmas.List.Elements.{Contains-append_left, Contains-append_right, Contains-append_cases}
use Rattle.gta_theory.proofs.ListsLemmas.{Contains-first, Contains-map, Contains-mapped}
use Rattle.store_core.specs.declared.kind.VarKind.{VarKind}
use Rattle.store_core.specs.declared.kind.VarKind.TheVariants as var
use Rattle.store_core.specs.Tables.{VarEntry}
use Rattle.routing_walks.specs.WellFormed.{IsDataVar}
use Rattle.routing_walks.proofs.DecidedLemmas.{in_none, in_at, at_in}
use Rattle.tree_encode.proofs.TracksLemmas.{in_first, in_second}
use Rattle.tree_store.proofs.ListsLemmas.{Contains-one}
use Rattle.tree_formula.specs.WellEncoded.{named}
use Rattle.graph_view.specs.declared.view.Sym.{Sym}
use Rattle.graph_view.specs.Cuts.{data_value, values_by, pairs}
use Rattle.graph_meaning.proofs.walks.ListedLemmas.{in_filter, filter-inside}
use Rattle.graph_meaning.proofs.cuts.ValuesLemmas.{IsValueOf, valued-in, in-valued}

-- ---- those of a list that pass a test

-- the pair of two that pass, the one before the other
pub record IsPassingPair {X Y : Type 0} (test : X → Bool) (pair : X → X → Y) (xs : List X) (g : Y) : Type 0 where
  pub i : ℕ
  pub j : ℕ
  pub less : i < j
  pub one : X
  pub other : X
  pub at_one : slice_get xs i ≡ Some one
  pub at_other : slice_get xs j ≡ Some other
  pub one_so : test one ≡ true
  pub other_so : test other ≡ true
  pub is : pair one other ≡ g

shifted : {X Y : Type 0} (test : X → Bool) (pair : X → X → Y) (x : X) (xs : List X) (g : Y) → IsPassingPair test pair xs g → IsPassingPair test pair (x ∷ xs) g
shifted test pair x xs g p =
    let less = p.less in
    record {
      i = suc p.i;
      j = suc p.j;
      less = omega (arith, less);
      one = p.one;
      other = p.other;
      at_one = p.at_one;
      at_other = p.at_other;
      one_so = p.one_so;
      other_so = p.other_so;
      is = p.is;
    }

pub passing-inside : {X Y : Type 0} (test : X → Bool) (pair : X → X → Y) (xs : List X) (g : Y) → Contains (pairs pair (filter test xs)) g →
    IsPassingPair test pair xs g
passing-inside test pair [] g h = absurd (in_none g h)
passing-inside {X} {Y} test pair (x ∷ xs) g h = by (λ k. shifted test pair x xs g (passing-inside test pair xs g k)) (test x) refl h
  where
    by : (Contains (pairs pair (filter test xs)) g → IsPassingPair test pair (x ∷ xs) g) → (t : Bool) → test x ≡ t →
        Contains (pairs pair (cond t (x ∷ filter test xs) (filter test xs))) g → IsPassingPair test pair (x ∷ xs) g
    by rest false fails k = rest k
    by rest true so k = elim (Contains-append_cases (map (pair x) (filter test xs)) (pairs pair (filter test xs)) g k) as
        (λ _. IsPassingPair test pair (x ∷ xs) g) [
          | inl here ↦ (
              let (y, among, is) = Contains-mapped (pair x) (filter test xs) g here in
              let (inside, y_so) = filter-inside test xs y among in
              let (n, at) = at_in xs y inside in
              record {
                i = 0;
                j = suc n;
                less = omega arith;
                one = x;
                other = y;
                at_one = refl;
                at_other = at;
                one_so = so;
                other_so = y_so;
                is = is;
              })
          | inr later ↦ rest later
        ]

pub inside-passing : {X Y : Type 0} (test : X → Bool) (pair : X → X → Y) (xs : List X) (i j : ℕ) (x y : X) → i < j → slice_get xs i ≡ Some x →
    slice_get xs j ≡ Some y → test x ≡ true → test y ≡ true → Contains (pairs pair (filter test xs)) (pair x y)
inside-passing test pair [] i j x y less at also so other = cc
inside-passing test pair (z ∷ xs) zero zero x y less at also so other = absurd (omega (arith, less))
inside-passing test pair (z ∷ xs) (suc i) zero x y less at also so other = absurd (omega (arith, less))
inside-passing {X} {Y} test pair (z ∷ xs) zero (suc j) x y less at also so other = by (test z) refl
  where
    z_is : z ≡ x
    z_is = cc

    by : (t : Bool) → test z ≡ t → Contains (pairs pair (cond t (z ∷ filter test xs) (filter test xs))) (pair x y)
    by false fails = absurd (false≢true (sym fails ∙ ap test z_is ∙ so))
    by true passes =
        Contains-append_left (map (pair z) (filter test xs)) (pairs pair (filter test xs)) (pair x y)
        (subst (λ (w : X). Contains (map (pair z) (filter test xs)) (pair w y)) z_is
        (Contains-map (pair z) (filter test xs) y (in_filter test xs y (in_at xs j y also) other)))
inside-passing {X} {Y} test pair (z ∷ xs) (suc i) (suc j) x y less at also so other =
    by (inside-passing test pair xs i j x y (omega (arith, less)) at also so other) (test z)
  where
    by : Contains (pairs pair (filter test xs)) (pair x y) → (t : Bool) → Contains (pairs pair (cond t (z ∷ filter test xs) (filter test xs))) (pair x y)
    by rest false = rest
    by rest true = Contains-append_right (map (pair z) (filter test xs)) (pairs pair (filter test xs)) (pair x y) rest

-- ---- named lists

length-named : {X : Type 0} (name : ℕ → X) (n : ℕ) → length (named name n) ≡ n
length-named name zero = refl
length-named name (suc n) = simp length-append (omega (arith, length-named name n))

pub named-at : {X : Type 0} (name : ℕ → X) (n k : ℕ) → k < n → slice_get (named name n) k ≡ Some (name k)
named-at name zero k less = absurd (omega (arith, less))
named-at name (suc n) k less = elim (cases_lt k n) as (λ _. slice_get (named name n ++ name n ∷ []) k ≡ Some (name k)) [
  | inl inside ↦ in_first (named name n) (name n ∷ []) k (name k) (named-at name n k inside)
  | inr last ↦ (
      let is : k ≡ n + 0 = omega (arith, less, last) in
      let same : n ≡ k = omega (arith, is) in
      ap (λ m. slice_get (named name n ++ name n ∷ []) m) is
      ∙ in_second (named name n) (name n ∷ []) n 0 (name k) (sym (length-named name n)) (ap (λ m. Some (name m)) same))
]

-- what stands at a place of a named list is named by it
pub at-named : {X : Type 0} (name : ℕ → X) (n k : ℕ) (x : X) → slice_get (named name n) k ≡ Some x → name k ≡ x
at-named name n k x at =
    let inside : k < n = subst (λ m. k < m) (length-named name n) (slice_get_within (named name n) k x at) in
    let both : Some (name k) ≡ Some x = sym (named-at name n k inside) ∙ at in
    cc

-- ---- values of data variables

-- the pair of the values of two data variables, the one before the other
pub record IsValuePair {Y : Type 0} (pair : Sym → Sym → Y) (vars : List VarEntry) (syms : List Sym) (g : Y) : Type 0 where
  pub i : ℕ
  pub j : ℕ
  pub less : i < j
  pub u : Sym
  pub w : Sym
  pub one : IsValueOf data_value vars syms u i
  pub other : IsValueOf data_value vars syms w j
  pub is : pair u w ≡ g

value-later : (v : VarEntry) (x : Sym) (vars : List VarEntry) (syms : List Sym) (u : Sym) (i : ℕ) → IsValueOf data_value vars syms u i →
    IsValueOf data_value (v ∷ vars) (x ∷ syms) u (suc i)
value-later v x vars syms u i is = record { entry = is.entry; there = is.there; sym_of = is.sym_of; stands = is.stands; one = is.one }

pub values-inside : {Y : Type 0} (pair : Sym → Sym → Y) (vars : List VarEntry) (syms : List Sym) (g : Y) →
    Contains (pairs pair (values_by data_value vars syms)) g → IsValuePair pair vars syms g
values-inside pair [] syms g h = absurd (in_none g h)
values-inside pair (v ∷ vars) [] g h = absurd (in_none g h)
values-inside {Y} pair (v ∷ vars) (x ∷ syms) g h = by (λ k. later (values-inside pair vars syms g k)) v.kind refl h
  where
    later : IsValuePair pair vars syms g → IsValuePair pair (v ∷ vars) (x ∷ syms) g
    later p =
        let less = p.less in
        record {
          i = suc p.i;
          j = suc p.j;
          less = omega (arith, less);
          u = p.u;
          w = p.w;
          one = value-later v x vars syms p.u p.i p.one;
          other = value-later v x vars syms p.w p.j p.other;
          is = p.is;
        }

    by : (Contains (pairs pair (values_by data_value vars syms)) g → IsValuePair pair (v ∷ vars) (x ∷ syms) g) → (kind : VarKind) → v.kind ≡ kind →
        Contains (pairs pair (data_value kind x ++ values_by data_value vars syms)) g → IsValuePair pair (v ∷ vars) (x ∷ syms) g
    by rest var.Bool is k = rest k
    by rest (var.Pointer ty) is k = rest k
    by rest (var.LogicSet ty) is k = rest k
    by rest var.LogicBool is k = rest k
    by rest (var.Data ty) is k =
        elim (Contains-append_cases (map (pair x) (values_by data_value vars syms)) (pairs pair (values_by data_value vars syms)) g k) as
        (λ _. IsValuePair pair (v ∷ vars) (x ∷ syms) g) [
          | inl here ↦ (
              let (y, among, same) = Contains-mapped (pair x) (values_by data_value vars syms) g here in
              let (j, other) = valued-in data_value vars syms y among in
              record {
                i = 0;
                j = suc j;
                less = omega arith;
                u = x;
                w = y;
                one = record {
                  entry = v;
                  there = refl;
                  sym_of = x;
                  stands = refl;
                  one = subst (λ k. Contains (data_value k x) x) (sym is) (Contains-first x []);
                };
                other = value-later v x vars syms y j other;
                is = same;
              })
          | inr more ↦ rest more
        ]

pub inside-values : {Y : Type 0} (pair : Sym → Sym → Y) (vars : List VarEntry) (syms : List Sym) (i j : ℕ) (u w : Sym) → i < j →
    IsValueOf data_value vars syms u i → IsValueOf data_value vars syms w j → Contains (pairs pair (values_by data_value vars syms)) (pair u w)
inside-values pair [] syms i j u w less one other = (let none : None ≡ Some one.entry = one.there in absurd (cc))
inside-values pair (v ∷ vars) [] i j u w less one other = (let none : None ≡ Some one.sym_of = one.stands in absurd (cc))
inside-values pair (v ∷ vars) (x ∷ syms) zero zero u w less one other = absurd (omega (arith, less))
inside-values pair (v ∷ vars) (x ∷ syms) (suc i) zero u w less one other = absurd (omega (arith, less))
inside-values {Y} pair (v ∷ vars) (x ∷ syms) zero (suc j) u w less one other =
    by v.kind (subst (λ y. Contains (data_value v.kind y) u) (sym sym_is)
    (subst (λ (e : VarEntry). Contains (data_value e.kind one.sym_of) u) (sym entry_is) one.one))
  where
    entry_is : v ≡ one.entry
    entry_is = (let at : Some v ≡ Some one.entry = one.there in cc)

    sym_is : x ≡ one.sym_of
    sym_is = (let at : Some x ≡ Some one.sym_of = one.stands in cc)

    by : (kind : VarKind) → Contains (data_value kind x) u → Contains (pairs pair (data_value kind x ++ values_by data_value vars syms)) (pair u w)
    by var.Bool inside = absurd (in_none u inside)
    by (var.Pointer ty) inside = absurd (in_none u inside)
    by (var.LogicSet ty) inside = absurd (in_none u inside)
    by var.LogicBool inside = absurd (in_none u inside)
    by (var.Data ty) inside =
        Contains-append_left (map (pair x) (values_by data_value vars syms)) (pairs pair (values_by data_value vars syms)) (pair u w)
        (subst (λ z. Contains (map (pair x) (values_by data_value vars syms)) (pair z w)) (Contains-one x u inside)
        (Contains-map (pair x) (values_by data_value vars syms) w
        (in-valued data_value vars syms w j other.entry other.sym_of other.there other.stands other.one)))
inside-values {Y} pair (v ∷ vars) (x ∷ syms) (suc i) (suc j) u w less one other =
    by (inside-values pair vars syms i j u w (omega (arith, less)) (earlier u i one) (earlier w j other)) v.kind
  where
    earlier : (z : Sym) (k : ℕ) → IsValueOf data_value (v ∷ vars) (x ∷ syms) z (suc k) → IsValueOf data_value vars syms z k
    earlier z k is = record { entry = is.entry; there = is.there; sym_of = is.sym_of; stands = is.stands; one = is.one }

    by : Contains (pairs pair (values_by data_value vars syms)) (pair u w) → (kind : VarKind) →
        Contains (pairs pair (data_value kind x ++ values_by data_value vars syms)) (pair u w)
    by rest var.Bool = rest
    by rest (var.Pointer ty) = rest
    by rest (var.LogicSet ty) = rest
    by rest var.LogicBool = rest
    by rest (var.Data ty) =
        Contains-append_right (map (pair x) (values_by data_value vars syms)) (pairs pair (values_by data_value vars syms)) (pair u w) rest
