-- Calls without a fault: each result and argument is of the class and type of the callee's, and none is there twice.
use Rattle.std.proofs.Common.{◌≡◌, ◌≢◌, ◌+◌, ◌==◌, ℕ, suc, Bool, true, false, cond, IsTrue, List, [], ◌∷◌, ◌++◌, length}
use Rattle.std.proofs.Common.{map, slice_get}
use Rattle.std.proofs.Common.{Option, Some, None, is_some, is_none, IfSome, IsSomeAnd, unwrap_or, refl, sym, ap, ◌∙◌, subst}
use Rattle.std.proofs.Common.{arith, append_assoc}
use Rattle.std.proofs.Common.{if◌then◌else◌, length-append}
use Rattle.std.specs.List.{AllByRecursion, AllZip, AllPairs}
use Rattle.std.specs.Option.{option_map, option_map_or, option_and_then}
use Rattle.std.specs.Str.{bytes_eq}
use Rattle.std.proofs.lemmas.Cmp.{nat_list_eq_equiv}
use Rattle.std.proofs.lemmas.List.Elements.{All-from_recursion}
use Rattle.std.proofs.lemmas.List.Kept.{AllPairs-cons}
use Rattle.std.proofs.lemmas.Option.{slice_get-map}
use Rattle.std.proofs.lemmas.Slice.Eq.{bytes_eq-Decides}
use Rattle.pale_syntax.specs.declared.tree.names.Name.{Name}
use Rattle.pale_syntax.specs.declared.tree.statement.Argument.{Argument}
use Rattle.pale_syntax.specs.declared.tree.statement.Argument.TheVariants as argument
use Rattle.store_core.specs.declared.ids.TypeId.{TypeId}
use Rattle.store_core.specs.declared.ids.VarId.{VarId}
use Rattle.store_core.specs.declared.kind.VarKind.{VarKind}
use Rattle.store_core.specs.declared.kind.VarKind.TheVariants as var
use Rattle.store_core.specs.Tables.{VarEntry, var_at, var_names, place_of}
use Rattle.store_core.proofs.Names.{position-cons, position_none-cons, position_none-from}
use Rattle.store_logic.proofs.ExpandingLists.{slice_get-seam}
use Rattle.pale_tables.specs.Names.{is_new}
use Rattle.pale_tables.proofs.KnownRoutes.{both, needed}
use Rattle.pale_fitting.proofs.TermFitLemmas.{same-type}
use Rattle.pale_calls.specs.declared.signature.Formal.{Formal}
use Rattle.pale_calls.specs.declared.signature.Signature.{Signature}
use Rattle.pale_calls.specs.declared.actual.Actual.{Actual}
use Rattle.pale_calls.specs.declared.actual.Actual.TheVariants as actual
use Rattle.pale_calls.specs.Classes.{class_of, type_in, is_same_class, holds_cell, holds_truth}
use Rattle.pale_calls.specs.Calls as calls
use Rattle.pale_calls.specs.Calls.{kind_named, is_of_type, results_fault, arguments_fault, argument_fault, with_argument, actual_of, may_be_handed}
use Rattle.pale_typed.specs.Variables.{kind_at, cell_in, cells_in}

-- ---- names in lists

placed-at : (names : List (List ℕ)) (name : List ℕ) (i : ℕ) (found : List ℕ) → place_of name names ≡ Some i → slice_get names i ≡ Some found → name ≡ found
placed-at [] name i found at there = absurd cc
placed-at (first ∷ names) name i found at there =
    by (λ j placed at_j. placed-at names name j found placed at_j) (bytes_eq name first) refl (place_of name names) refl
    (sym (position-cons (bytes_eq name) first names) ∙ at) there
  where
    by : ((j : ℕ) → place_of name names ≡ Some j → slice_get names j ≡ Some found → name ≡ found) → (b : Bool) → bytes_eq name first ≡ b →
        (o : Option ℕ) → place_of name names ≡ o → cond b (Some 0) (option_map suc o) ≡ Some i → slice_get (first ∷ names) i ≡ Some found → name ≡ found
    by rest true is o placed e at_i =
        let same : 0 ≡ i = cc in
        let here : Some first ≡ Some found = ap (slice_get (first ∷ names)) same ∙ at_i in
        let found_is : first ≡ found = cc in
        (bytes_eq-Decides name first).0 is ∙ found_is
    by rest false is None placed e at_i = absurd cc
    by rest false is (Some j) placed e at_i = let same : suc j ≡ i = cc in rest j placed (ap (slice_get (first ∷ names)) same ∙ at_i)

pub none-first : (name : List ℕ) (xs ys : List (List ℕ)) → place_of name (xs ++ ys) ≡ None → place_of name xs ≡ None
none-first name [] ys none = refl
none-first name (x ∷ xs) ys none =
    let parts = position_none-cons (bytes_eq name) x (xs ++ ys) none in
    position_none-from (bytes_eq name) x xs parts.0 (none-first name xs ys parts.1)

pub none-second : (name : List ℕ) (xs ys : List (List ℕ)) → place_of name (xs ++ ys) ≡ None → place_of name ys ≡ None
none-second name [] ys none = none
none-second name (x ∷ xs) ys none = none-second name xs ys (position_none-cons (bytes_eq name) x (xs ++ ys) none).1

-- a name that isn't among these differs from each
pub differs : (name other : List ℕ) → place_of name (other ∷ []) ≡ None → name ≢ other
differs name other none same =
    let not_equal = (position_none-cons (bytes_eq name) other [] none).0 in
    let equal : bytes_eq name other ≡ true = ap (bytes_eq name) (sym same) ∙ nat_list_eq_equiv.refl name in
    let no : true ≡ false = sym equal ∙ not_equal in absurd cc

pub none-is : (place : Option ℕ) → is_none place ≡ true → place ≡ None
none-is None is = refl
none-is (Some i) is = absurd cc

-- ---- a name of a variable

-- the variable that it names
pub record Stands (vars : List VarEntry) (x : Name) : Type 0 where
  pub entry : VarEntry
  pub at : var_at vars (calls.variable_of vars x) ≡ Some entry
  pub kind : calls.kind_of vars x ≡ entry.kind
  pub name : x.bytes ≡ entry.name

abbrev numbered : Option ℕ → Option VarId
numbered o = option_map (λ i. record { 0 = i }) o

abbrev kind_in : List VarEntry → Option ℕ → Option VarKind
kind_in vars o = option_and_then (λ v. option_map (λ e. e.kind) (var_at vars v)) (numbered o)

pub stands : (vars : List VarEntry) (x : Name) → calls.variable_fault vars x ≡ None → Stands vars x
unfolding calls.variable_fault calls.variable_of calls.kind_of
stands vars x none = by (place_of x.bytes (var_names vars)) refl (needed _ _ _ none)
  where
    at_place : (i : ℕ) → place_of x.bytes (var_names vars) ≡ Some i → (o : Option VarEntry) → slice_get vars i ≡ o →
        is_some (option_map (λ (e : VarEntry). e.kind) o) ≡ true → Stands vars x
    at_place i placed None at some = absurd cc
    at_place i placed (Some e) at some = record {
      entry = e;
      at = ap (λ o. var_at vars (unwrap_or (numbered o) (record { 0 = 0 }))) placed ∙ at;
      kind = ap (λ o. unwrap_or (kind_in vars o) var.Bool) placed ∙ ap (λ o. unwrap_or (option_map (λ (d : VarEntry). d.kind) o) var.Bool) at;
      name =
          placed-at (var_names vars) x.bytes i e.name placed
          (slice_get-map (λ (d : VarEntry). d.name) vars i ∙ ap (option_map (λ (d : VarEntry). d.name)) at);
    }

    by : (o : Option ℕ) → place_of x.bytes (var_names vars) ≡ o → is_some (kind_in vars o) ≡ true → Stands vars x
    by None placed some = absurd cc
    by (Some i) placed some = at_place i placed (slice_get vars i) refl some

pub stands-kind : (vars : List VarEntry) (x : Name) (s : Stands vars x) → kind_at vars (calls.variable_of vars x) ≡ Some s.entry.kind
stands-kind vars x s = ap (option_map (λ (e : VarEntry). e.kind)) s.at

-- names that differ name variables that differ
pub named-apart : (vars : List VarEntry) (x : Name) (v : VarId) (e : VarEntry) → Stands vars x → var_at vars v ≡ Some e → e.name ≢ x.bytes →
    v ≢ calls.variable_of vars x
named-apart vars x v e s at apart same =
    let entries : Some e ≡ Some s.entry = sym at ∙ ap (var_at vars) same ∙ s.at in
    let entry : e ≡ s.entry = cc in
    apart (ap (λ (d : VarEntry). d.name) entry ∙ sym s.name)

-- ---- a variable beside what is declared

-- what is declared is a variable of this kind
pub record Declares (formal : Formal) (k : VarKind) : Type 0 where
  pub class : formal.class ≡ class_of k
  pub ty : IfSome formal.ty (λ t. type_in k ≡ Some t)

one-type : (t u : TypeId) (o : Option TypeId) → IfSome o (λ w. Some u ≡ Some w) → option_map_or (λ w. t.0 == w.0) o false ≡ true → t ≡ u
one-type t u None declared is = absurd cc
one-type t u (Some w) declared is = let same : u ≡ w = cc in same-type t w is ∙ sym same

same-kind : (own k : VarKind) (o : Option TypeId) → IfSome o (λ t. type_in k ≡ Some t) → is_same_class (class_of own) (class_of k) ≡ true →
    option_map_or (λ ty. option_map_or (λ u. ty.0 == u.0) o false) (type_in own) true ≡ true → own ≡ k
same-kind var.Bool var.Bool o declared class is = refl
same-kind (var.Data t) (var.Data u) o declared class is = ap var.Data (one-type t u o declared is)
same-kind (var.Pointer t) (var.Pointer u) o declared class is = ap var.Pointer (one-type t u o declared is)
same-kind (var.LogicSet t) (var.LogicSet u) o declared class is = ap var.LogicSet (one-type t u o declared is)
same-kind var.LogicBool var.LogicBool o declared class is = refl
same-kind own k o declared class is = absurd cc

module _ (vars : List VarEntry) where
  -- a variable beside what is declared stands, and is of its kind
  pub record Beside (k : VarKind) (x : Name) : Type 0 where
    pub stands : Stands vars x
    pub kind : stands.entry.kind ≡ k

  pub beside : (formal : Formal) (k : VarKind) (x : Name) → Declares formal k → calls.beside_fault vars formal x ≡ None → Beside k x
  unfolding calls.beside_fault
  beside formal k x declared none =
      let parts = both _ _ none in
      let more = both _ _ parts.1 in
      let s = stands vars x parts.0 in
      record {
        stands = s;
        kind = sym s.kind ∙ same-kind (calls.kind_of vars x) k formal.ty declared.ty
            (ap (is_same_class (class_of (calls.kind_of vars x))) (sym declared.class) ∙ needed _ _ _ more.0) (needed _ _ _ more.1);
      }

  pub beside-kind : (k : VarKind) (x : Name) → Beside k x → kind_at vars (calls.variable_of vars x) ≡ Some k
  beside-kind k x b = stands-kind vars x b.stands ∙ ap Some b.kind

  -- ---- arguments

  -- what is handed over for a variable of this kind
  abbrev pub IsActualOf : Actual → VarKind → Type 0
  IsActualOf (actual.Var v) k = kind_at vars v ≡ Some k
  IsActualOf actual.Null k = IsTrue (holds_cell (class_of k))
  IsActualOf (actual.Truth truth) k = IsTrue (holds_truth (class_of k))

  argument-is : (before : List (List ℕ)) (formal : Formal) (k : VarKind) (x : Argument) → Declares formal k → argument_fault vars before formal x ≡ None →
      IsActualOf (actual_of vars x) k
  unfolding calls.named_argument_fault
  argument-is before formal k (argument.Name x) declared none = beside-kind k x (beside formal k x declared (both _ _ none).0)
  argument-is before formal k (argument.Null place) declared none = ap holds_cell (sym declared.class) ∙ needed _ _ _ none
  argument-is before formal k (argument.Truth place truth) declared none = ap holds_truth (sym declared.class) ∙ needed _ _ _ none

  pub arguments-are : (before : List (List ℕ)) (formals : List Formal) (ks : List VarKind) (xs : List Argument) → AllZip Declares formals ks →
      length xs ≡ length formals → arguments_fault vars before formals xs ≡ None → AllZip IsActualOf (map (actual_of vars) xs) ks
  arguments-are before [] [] [] declared count none = tt
  arguments-are before [] [] (x ∷ xs) declared count none = absurd (omega (arith, count))
  arguments-are before [] (k ∷ ks) xs declared count none = absurd declared
  arguments-are before (formal ∷ formals) [] xs declared count none = absurd declared
  arguments-are before (formal ∷ formals) (k ∷ ks) [] declared count none = absurd (omega (arith, count))
  arguments-are before (formal ∷ formals) (k ∷ ks) (x ∷ xs) declared count none =
      let less : length xs ≡ length formals = omega (arith, count) in
      let parts = both _ _ none in
      (argument-is before formal k x declared.0 parts.0, arguments-are (with_argument before x) formals ks xs declared.1 less parts.1)

  -- ---- no variable twice among the arguments

  -- a variable of the table whose name isn't one of these
  abbrev pub IsNewTo : List (List ℕ) → VarId → Type 0
  IsNewTo before v = IsSomeAnd (var_at vars v) (λ e. place_of e.name before ≡ None)

  new-less : (before more : List (List ℕ)) → ((name : List ℕ) → place_of name more ≡ None → place_of name before ≡ None) → (v : VarId) →
      IsNewTo more v → IsNewTo before v
  new-less before more less v new = by (var_at vars v) new
    where
      by : (o : Option VarEntry) → IsSomeAnd o (λ e. place_of e.name more ≡ None) → IsSomeAnd o (λ e. place_of e.name before ≡ None)
      by None is = absurd is
      by (Some e) is = less e.name is

  all-less : (before more : List (List ℕ)) → ((name : List ℕ) → place_of name more ≡ None → place_of name before ≡ None) → (vs : List VarId) →
      AllByRecursion (IsNewTo more) vs → AllByRecursion (IsNewTo before) vs
  all-less before more less [] all = tt
  all-less before more less (v ∷ vs) all = (new-less before more less v all.0, all-less before more less vs all.1)

  with-less : (before : List (List ℕ)) (x : Argument) (name : List ℕ) → place_of name (with_argument before x) ≡ None → place_of name before ≡ None
  with-less before (argument.Name x) name none = by (is_new before x.bytes) none
    where
      by : (b : Bool) → place_of name (if b then before ++ x.bytes ∷ [] else before) ≡ None → place_of name before ≡ None
      by true is = none-first name before (x.bytes ∷ []) is
      by false is = is
  with-less before (argument.Null place) name none = none
  with-less before (argument.Truth place truth) name none = none

  -- a named argument that holds null or a cell
  abbrev IsCellName : Name → Type 0
  IsCellName x = option_map_or (λ k. holds_cell (class_of k)) (kind_at vars (calls.variable_of vars x)) false ≡ true

  cell-class : (k : VarKind) (x : Name) → Beside k x → IsCellName x → holds_cell (class_of k) ≡ true
  cell-class k x b is = sym (ap (λ o. option_map_or (λ k. holds_cell (class_of k)) o false) (beside-kind k x b)) ∙ is

  -- its name is new
  cell-new : (before : List (List ℕ)) (formal : Formal) (k : VarKind) (x : Name) → Declares formal k →
      calls.named_argument_fault vars before formal x ≡ None → IsCellName x → is_new before x.bytes ≡ true
  unfolding calls.named_argument_fault calls.may_be_handed
  cell-new before formal k x declared none is =
      let parts = both _ _ none in
      let holds = ap holds_cell declared.class ∙ cell-class k x (beside formal k x declared parts.0) is in
      sym (ap (λ b. if b then is_new before x.bytes else true) holds) ∙ needed _ _ _ parts.1

  name-beside : (before : List (List ℕ)) (formal : Formal) (k : VarKind) (x : Name) → Declares formal k →
      calls.named_argument_fault vars before formal x ≡ None → Beside k x
  unfolding calls.named_argument_fault
  name-beside before formal k x declared none = beside formal k x declared (both _ _ none).0

  stands-new : (before : List (List ℕ)) (x : Name) → Stands vars x → is_new before x.bytes ≡ true → IsNewTo before (calls.variable_of vars x)
  stands-new before x s new =
      subst (λ (o : Option VarEntry). IsSomeAnd o (λ e. place_of e.name before ≡ None)) (sym s.at)
      (ap (λ name. place_of name before) (sym s.name) ∙ none-is (place_of x.bytes before) new)

  -- behind a name that is new, what is new to both differs from it
  later-apart : (before : List (List ℕ)) (x : Name) → Stands vars x → is_new before x.bytes ≡ true → (vs : List VarId) →
      AllByRecursion (IsNewTo (with_argument before (argument.Name x))) vs → AllByRecursion (λ v. calls.variable_of vars x ≢ v) vs
  later-apart before x s new [] all = tt
  later-apart before x s new (v ∷ vs) all = (by (var_at vars v) refl all.0, later-apart before x s new vs all.1)
    where
      by : (o : Option VarEntry) → var_at vars v ≡ o → IsSomeAnd o (λ e. place_of e.name (with_argument before (argument.Name x)) ≡ None) →
          calls.variable_of vars x ≢ v
      by None at is same = absurd is
      by (Some e) at is same =
          let pushed : place_of e.name (before ++ x.bytes ∷ []) ≡ None =
          subst (λ (b : Bool). place_of e.name (if b then before ++ x.bytes ∷ [] else before) ≡ None) new is in
          named-apart vars x v e s at (differs e.name x.bytes (none-second e.name before (x.bytes ∷ []) pushed)) (sym same)

  -- the data and pointer variables of the arguments are new to what stands before, and none is there twice
  pub record AreOnce (before : List (List ℕ)) (vs : List VarId) : Type 0 where
    pub new : AllByRecursion (IsNewTo before) vs
    pub once : AllPairs (λ u v. u ≢ v) vs

  once-name : (before : List (List ℕ)) (x : Name) (vs : List VarId) → Stands vars x → (IsCellName x → is_new before x.bytes ≡ true) →
      AreOnce (with_argument before (argument.Name x)) vs → AreOnce before (cell_in vars (actual.Var (calls.variable_of vars x)) ++ vs)
  once-name before x vs s new rest =
      by (option_map_or (λ k. holds_cell (class_of k)) (kind_at vars (calls.variable_of vars x)) false) refl
    where
      weaker : AllByRecursion (IsNewTo before) vs
      weaker = all-less before (with_argument before (argument.Name x)) (with-less before (argument.Name x)) vs rest.new

      by : (b : Bool) → option_map_or (λ k. holds_cell (class_of k)) (kind_at vars (calls.variable_of vars x)) false ≡ b →
          AreOnce before ((if b then calls.variable_of vars x ∷ [] else []) ++ vs)
      by true is = record {
        new = (stands-new before x s (new is), weaker);
        once = AllPairs-cons (λ u v. u ≢ v) (calls.variable_of vars x) vs
            (All-from_recursion (λ v. calls.variable_of vars x ≢ v) vs (later-apart before x s (new is) vs rest.new)) rest.once;
      }
      by false is = record { new = weaker; once = rest.once }

  pub cells-once : (before : List (List ℕ)) (formals : List Formal) (ks : List VarKind) (xs : List Argument) → AllZip Declares formals ks →
      length xs ≡ length formals → arguments_fault vars before formals xs ≡ None → AreOnce before (cells_in vars (map (actual_of vars) xs))
  cells-once before [] [] [] declared count none = record { new = tt; once = λ i j d less inside. absurd (omega (arith, inside)) }
  cells-once before [] [] (x ∷ xs) declared count none = absurd (omega (arith, count))
  cells-once before [] (k ∷ ks) xs declared count none = absurd declared
  cells-once before (formal ∷ formals) [] xs declared count none = absurd declared
  cells-once before (formal ∷ formals) (k ∷ ks) [] declared count none = absurd (omega (arith, count))
  cells-once before (formal ∷ formals) (k ∷ ks) (argument.Name x ∷ xs) declared count none =
      let less : length xs ≡ length formals = omega (arith, count) in
      let parts = both _ _ none in
      once-name before x (cells_in vars (map (actual_of vars) xs)) (name-beside before formal k x declared.0 parts.0).stands
      (cell-new before formal k x declared.0 parts.0)
      (cells-once (with_argument before (argument.Name x)) formals ks xs declared.1 less parts.1)
  cells-once before (formal ∷ formals) (k ∷ ks) (argument.Null place ∷ xs) declared count none =
      let less : length xs ≡ length formals = omega (arith, count) in
      cells-once before formals ks xs declared.1 less (both _ _ none).1
  cells-once before (formal ∷ formals) (k ∷ ks) (argument.Truth place truth ∷ xs) declared count none =
      let less : length xs ≡ length formals = omega (arith, count) in
      cells-once before formals ks xs declared.1 less (both _ _ none).1

  -- ---- results

  abbrev pub IsOfKind : VarId → VarKind → Type 0
  IsOfKind v k = kind_at vars v ≡ Some k

  -- the results are of these kinds, new to what stands before, and none is there twice
  pub record AreResults (before : List (List ℕ)) (ks : List VarKind) (xs : List Name) : Type 0 where
    pub kinds : AllZip IsOfKind (map (calls.variable_of vars) xs) ks
    pub stand : AllByRecursion (Stands vars) xs
    pub new : AllByRecursion (IsNewTo before) (map (calls.variable_of vars) xs)
    pub once : AllPairs (λ u v. u ≢ v) (map (calls.variable_of vars) xs)

  push-apart : (before : List (List ℕ)) (x : Name) → Stands vars x → (vs : List VarId) → AllByRecursion (IsNewTo (before ++ x.bytes ∷ [])) vs →
      AllByRecursion (λ v. calls.variable_of vars x ≢ v) vs
  push-apart before x s [] all = tt
  push-apart before x s (v ∷ vs) all = (by (var_at vars v) refl all.0, push-apart before x s vs all.1)
    where
      by : (o : Option VarEntry) → var_at vars v ≡ o → IsSomeAnd o (λ e. place_of e.name (before ++ x.bytes ∷ []) ≡ None) → calls.variable_of vars x ≢ v
      by None at is same = absurd is
      by (Some e) at is same = named-apart vars x v e s at (differs e.name x.bytes (none-second e.name before (x.bytes ∷ []) is)) (sym same)

  module _ (callee : Signature) where
    -- results after those before them, where what is left is declared behind as many
    pub results-are : (before : List (List ℕ)) (front formals : List Formal) (ks : List VarKind) (xs : List Name) → callee.results ≡ front ++ formals →
        length front ≡ length before → AllZip Declares formals ks → length xs ≡ length formals → results_fault vars (Some callee) before xs ≡ None →
        AreResults before ks xs
    results-are before front [] [] [] whole same declared count none =
        record { kinds = tt; stand = tt; new = tt; once = λ i j d less inside. absurd (omega (arith, inside)) }
    results-are before front [] [] (x ∷ xs) whole same declared count none = absurd (omega (arith, count))
    results-are before front [] (k ∷ ks) xs whole same declared count none = absurd declared
    results-are before front (formal ∷ formals) [] xs whole same declared count none = absurd declared
    results-are before front (formal ∷ formals) (k ∷ ks) [] whole same declared count none = absurd (omega (arith, count))
    results-are before front (formal ∷ formals) (k ∷ ks) (x ∷ xs) whole same declared count none =
        let less : length xs ≡ length formals = omega (arith, count) in
        let parts = both _ _ none in
        let more = both _ _ parts.1 in
        let here : slice_get callee.results (length before) ≡ Some formal =
        ap (λ rs. slice_get rs (length before)) whole ∙ ap (slice_get (front ++ formal ∷ formals)) (sym same) ∙ slice_get-seam front formal formals in
        let fine : calls.beside_fault vars formal x ≡ None =
        sym (ap (λ o. option_map_or (λ f. calls.beside_fault vars f x) o (calls.variable_fault vars x)) here) ∙ parts.0 in
        let b = beside formal k x declared.0 fine in
        let longer : length (front ++ formal ∷ []) ≡ length (before ++ x.bytes ∷ []) =
        length-append front (formal ∷ []) ∙ ap (λ n. n + 1) same ∙ sym (length-append before (x.bytes ∷ [])) in
        let rest = results-are (before ++ x.bytes ∷ []) (front ++ formal ∷ []) formals ks xs
        (whole ∙ sym (append_assoc front (formal ∷ []) formals)) longer declared.1 less more.1 in
        record {
          kinds = (beside-kind k x b, rest.kinds);
          stand = (b.stands, rest.stand);
          new = (
            stands-new before x b.stands (needed _ _ _ more.0),
            all-less before (before ++ x.bytes ∷ []) (λ name none. none-first name before (x.bytes ∷ []) none) (map (calls.variable_of vars) xs) rest.new,
          );
          once = AllPairs-cons (λ u v. u ≢ v) (calls.variable_of vars x) (map (calls.variable_of vars) xs)
              (All-from_recursion (λ v. calls.variable_of vars x ≢ v) (map (calls.variable_of vars) xs)
              (push-apart before x b.stands (map (calls.variable_of vars) xs) rest.new)) rest.once;
        }

  -- ---- the names of arguments

  -- a name among the arguments stands
  abbrev pub ArgumentStands : Argument → Type 0
  ArgumentStands (argument.Name x) = Stands vars x
  ArgumentStands (argument.Null place) = Unit {0}
  ArgumentStands (argument.Truth place truth) = Unit {0}

  argument-stands : (before : List (List ℕ)) (formal : Formal) (k : VarKind) (x : Argument) → Declares formal k →
      argument_fault vars before formal x ≡ None → ArgumentStands x
  argument-stands before formal k (argument.Name x) declared none = (name-beside before formal k x declared none).stands
  argument-stands before formal k (argument.Null place) declared none = tt
  argument-stands before formal k (argument.Truth place truth) declared none = tt

  pub arguments-stand : (before : List (List ℕ)) (formals : List Formal) (ks : List VarKind) (xs : List Argument) → AllZip Declares formals ks →
      length xs ≡ length formals → arguments_fault vars before formals xs ≡ None → AllByRecursion ArgumentStands xs
  arguments-stand before formals ks [] declared count none = tt
  arguments-stand before [] ks (x ∷ xs) declared count none = absurd (omega (arith, count))
  arguments-stand before (formal ∷ formals) [] (x ∷ xs) declared count none = absurd declared
  arguments-stand before (formal ∷ formals) (k ∷ ks) (x ∷ xs) declared count none =
      let less : length xs ≡ length formals = omega (arith, count) in
      let parts = both _ _ none in
      (argument-stands before formal k x declared.0 parts.0, arguments-stand (with_argument before x) formals ks xs declared.1 less parts.1)
