-- The parts of the automaton of classes in one table.
use Rattle.std.proofs.Common.{◌≡◌, ℕ, zero, suc, ◌+◌, ◌-◌, ◌*◌, ◌<◌, Bool, false, List, [], ◌∷◌, ◌++◌, length, map, Option, Some, None, inl, inr}
use Rattle.std.proofs.Common.{sym, ◌∙◌, ap, refl, subst, arith, length-append}
use Rattle.std.specs.Prelude.{slice_get, slice_index_or, unwrap_or, option_map, option_and_then, is_some, IsSome}
use Rattle.std.proofs.lemmas.Bool.{cases_lt, false≢true}
use Rattle.std.proofs.lemmas.List.{length-map}
use Rattle.std.proofs.lemmas.Option.{slice_get_within, slice_get_past, slice_get-get_or, slice_get-map}
use Rattle.labels.specs.Labels.{Label}
use Rattle.bdd_nodes.specs.declared.node_ref.NodeRef.{NodeRef}
use Rattle.bdd_nodes.specs.declared.node.Node.{Node}
use Rattle.bdd_nodes.specs.Nodes.{node_of, state_named}
use Rattle.bdd_nodes.specs.Shelf.{Contents, IsValid, state_of, root_of}
use Rattle.bdd_nodes.specs.Changes.{Keeps, AddsTable}
use Rattle.gta_theory.specs.Guides.{IsGuide, IsSpace, left, right}
use Rattle.gta_theory.specs.Numbered.{Below}
use Rattle.gta_theory.specs.Sizes.{IsChildPair}
use Rattle.gta_theory.proofs.ListedLemmas.{slice_get-front, slice_get-last, slice_get-push}
use Rattle.gta_core.specs.declared.part.Part.{Part}
use Rattle.gta_core.specs.Auto.{AutoView, states_of, guide_of, place_in, place_of, root_at, automaton_of, IsUsed, IsAuto, IsWhole}
use Rattle.gta_core.proofs.AutoLemmas.{step-some, past-none}
use Rattle.gta_reach.specs.declared.form.Form.{Form}
use Rattle.gta_classes.specs.declared.part.SpaceClasses.{SpaceClasses}
use Rattle.gta_reach.specs.Form as form
use Rattle.gta_refine.specs.Refined.{part_at, class_at, representative_at, classes_in, quotient_of, IsRefined}
use Rattle.gta_reach.proofs.ReachLemmas.{none-inside, accepting-form}
use Rattle.gta_minimise.specs.Quotient.{IsQuotientPart, IsQuotientSpace, IsPutBehind, IsUsedIn, AreQuotientSpaces}
use Rattle.gta_minimise.proofs.ReadLemmas.{accepting-quotient}
use Rattle.gta_minimise.proofs.ClassesLemmas.{IsQuotient, below-back, below-to, IsClosed-classes, IsStable-quotient}

get-after : {X : Type 0} (xs ys : List X) (k : ℕ) → slice_get (xs ++ ys) (length xs + k) ≡ slice_get ys k
get-after [] ys k = let e : 0 + k ≡ k = omega arith in ap (slice_get ys) e
get-after (x ∷ xs) ys k =
    let e : suc (length xs) + k ≡ suc (length xs + k) = omega arith in ap (slice_get (x ∷ xs ++ ys)) e ∙ get-after xs ys k

-- places behind others
place-behind : (o : Option ℕ) (first n place : ℕ) → first ≡ 0 → option_map (λ cell. first + cell) o ≡ Some place →
    option_map (λ cell. n + cell) o ≡ Some (n + place)
place-behind None first n place start at = absurd cc
place-behind (Some cell) first n place start at =
    let is : first + cell ≡ place = cc in let same : n + cell ≡ n + place = omega arith in ap (λ (k : ℕ). let o : Option ℕ = Some k in o) same

module _ (before : Part) (first_is : before.first ≡ 0) (n : ℕ) where
  behind : Part
  behind = record {
    states = before.states;
    initial = before.initial;
    children = before.children;
    first = n;
    rows = before.rows;
    columns = before.columns;
    width = before.width;
    cells = before.cells;
  }

  by-column : (row place : ℕ) (o : Option ℕ) →
      option_and_then (λ column. option_map (λ cell. before.first + cell) (slice_get before.cells (row * before.width + column))) o ≡ Some place →
      option_and_then (λ column. option_map (λ cell. n + cell) (slice_get before.cells (row * before.width + column))) o ≡ Some (n + place)
  by-column row place None at = absurd cc
  by-column row place (Some column) at = place-behind (slice_get before.cells (row * before.width + column)) before.first n place first_is at

  by-row : (r place : ℕ) (o : Option ℕ) →
      option_and_then (λ row. option_and_then (λ column. option_map (λ cell. before.first + cell) (slice_get before.cells (row * before.width + column)))
      (slice_get before.columns r)) o ≡ Some place →
      option_and_then (λ row. option_and_then (λ column. option_map (λ cell. n + cell) (slice_get before.cells (row * before.width + column)))
      (slice_get before.columns r)) o ≡ Some (n + place)
  by-row r place None at = absurd cc
  by-row r place (Some row) at = by-column row place (slice_get before.columns r) at

  place_in-behind : (l r place : ℕ) → place_in before l r ≡ Some place → place_in behind l r ≡ Some (n + place)
  unfolding behind
  place_in-behind l r place at = by-row r place (slice_get before.rows l) at

  module _ (shelf : Contents) (f : Form) (classes : List SpaceClasses) (s : ℕ) (old own : List NodeRef) (many : length old ≡ n)
      (is : IsQuotientPart shelf f classes s before own) where
    IsQuotientPart-behind : IsQuotientPart shelf f classes s behind (old ++ own)
    unfolding behind
    IsQuotientPart-behind = record {
      children = is.children;
      states = is.states;
      initial = is.initial;
      lefts = is.lefts;
      rights = is.rights;
      each = λ x y x_in y_in. let at = is.each x y x_in y_in in record {
        place = n + at.place;
        at = place_in-behind x y at.place at.at;
        root = at.root;
        there = ap (λ (k : ℕ). slice_get (old ++ own) (k + at.place)) (sym many) ∙ get-after old own at.place ∙ at.there;
        valid = at.valid;
        states = at.states;
      };
    }

IsQuotientPart-kept : (old new : Contents) (f : Form) (classes : List SpaceClasses) (s : ℕ) (part : Part) (roots more : List NodeRef) → Keeps old new →
    IsQuotientPart old f classes s part roots → IsQuotientPart new f classes s part (roots ++ more)
IsQuotientPart-kept old new f classes s part roots more keeps is = record {
  children = is.children;
  states = is.states;
  initial = is.initial;
  lefts = is.lefts;
  rights = is.rights;
  each = λ x y x_in y_in. let at = is.each x y x_in y_in in record {
    place = at.place;
    at = at.at;
    root = at.root;
    there = slice_get-front roots more at.place (slice_get_within roots at.place at.root at.there) ∙ at.there;
    valid = keeps.valid at.root at.valid;
    states = λ label. keeps.states at.root label at.valid ∙ at.states label;
  };
}

pub AreQuotientSpaces-none : (shelf : Contents) (f : Form) (classes : List SpaceClasses) → AreQuotientSpaces shelf f classes [] [] 0
AreQuotientSpaces-none shelf f classes = record {
  many = refl;
  each = λ s part there. absurd (none s part there);
  used = λ place inside. absurd (omega arith);
  valid = λ k root there. absurd (none k root there);
}
  where
    none : {X : Type 0} (s : ℕ) (x : X) → slice_get [] s ≡ Some x → ⊥
    none zero x e = cc
    none (suc s) x e = cc

-- one space more
module _ (old new : Contents) (f : Form) (classes : List SpaceClasses) (parts : List Part) (roots : List NodeRef) (below : ℕ) (keeps : Keeps old new)
    (so_far : AreQuotientSpaces old f classes parts roots below) (own : Part) (more : List NodeRef)
    (here : IsQuotientSpace new f classes below own more) where
  put : Part
  put = behind own here.first (length roots)

  used-after : (place : ℕ) → place < length (roots ++ more) → IsUsedIn (parts ++ put ∷ []) place
  unfolding put
  used-after place inside = elim (cases_lt place (length roots)) [
    | inl before ↦
        let used = so_far.used place before in
        record {
          space = used.space;
          part = used.part;
          there = slice_get-front parts (put ∷ []) used.space (slice_get_within parts used.space used.part used.there) ∙ used.there;
          has = used.has;
        }
    | inr past ↦
        let k = place - length roots in
        let l = length-append roots more in
        let whole : length roots + k ≡ place = omega arith in
        let has = here.used k (omega arith) in
        record {
          space = length parts;
          part = put;
          there = slice_get-last parts put;
          has = record {
            left = has.left;
            right = has.right;
            there = place_in-behind own here.first (length roots) has.left has.right k has.there ∙ ap (λ (n : ℕ). let o : Option ℕ = Some n in o) whole;
          };
        }
  ]

  valid-after : (k : ℕ) (root : NodeRef) → slice_get (roots ++ more) k ≡ Some root → IsValid new root
  valid-after k root there = elim (cases_lt k (length roots)) [
    | inl before ↦ keeps.valid root (so_far.valid k root (sym (slice_get-front roots more k before) ∙ there))
    | inr past ↦
        let j = k - length roots in
        let whole : length roots + j ≡ k = omega arith in
        here.valid j root (sym (get-after roots more j) ∙ ap (slice_get (roots ++ more)) whole ∙ there)
  ]

  pushed : AreQuotientSpaces new f classes (parts ++ put ∷ []) (roots ++ more) (below + 1)
  unfolding put
  pushed = record {
    many = length-append parts (put ∷ []) ∙ (let m = so_far.many in omega arith);
    each = λ s other there. elim (slice_get-push parts put other s there) [
      | inl before ↦ IsQuotientPart-kept old new f classes s other roots more keeps (so_far.each s other before)
      | inr last ↦
          let is : below ≡ s = sym so_far.many ∙ sym last.0 in
          subst (λ (k : ℕ). IsQuotientPart new f classes k other (roots ++ more)) is
          (subst (λ (p : Part). IsQuotientPart new f classes below p (roots ++ more)) last.1
          (IsQuotientPart-behind own here.first (length roots) new f classes below roots more refl here.is_part))
    ];
    used = used-after;
    valid = valid-after;
  }

  pub AreQuotientSpaces-push : (longer : List NodeRef) (part : Part) → IsPutBehind roots more longer own part →
      AreQuotientSpaces new f classes (parts ++ part ∷ []) longer (below + 1)
  unfolding put behind
  AreQuotientSpaces-push longer part is =
      subst (λ (rs : List NodeRef). AreQuotientSpaces new f classes (parts ++ part ∷ []) rs (below + 1)) (sym is.roots)
      (subst (λ (p : Part). AreQuotientSpaces new f classes (parts ++ p ∷ []) (roots ++ more) (below + 1)) (sym is.part) pushed)

none-some : {X : Type 0} (o : Option X) → o ≡ None → IsSome o → ⊥
none-some {X} o none there = false≢true (sym (ap (λ (p : Option X). is_some p) none) ∙ there)

some-within : {X : Type 0} (xs : List X) (i : ℕ) → IsSome (slice_get xs i) → i < length xs
some-within [] i some = absurd (false≢true some)
some-within (x ∷ xs) zero some = omega arith
some-within (x ∷ xs) (suc i) some = let rest = some-within xs i some in omega arith

is-some : {X : Type 0} (o : Option X) (x : X) → o ≡ Some x → IsSome o
is-some {X} o x at = ap (λ (p : Option X). is_some p) at

-- a pair with a place has a row and a column
rows-within : (part : Part) (l r : ℕ) → IsSome (place_in part l r) → l < length part.rows
rows-within part l r some = some-within part.rows l (first (slice_get part.rows l) some)
  where
    first : (o : Option ℕ) → IsSome (option_and_then (λ row. option_and_then (λ column.
        option_map (λ cell. part.first + cell) (slice_get part.cells (row * part.width + column))) (slice_get part.columns r)) o) → IsSome o
    first None s = s
    first (Some row) s = refl

columns-within : (part : Part) (l r : ℕ) → IsSome (place_in part l r) → r < length part.columns
columns-within part l r some = some-within part.columns r (first (slice_get part.rows l) some)
  where
    second : (row : ℕ) (o : Option ℕ) → IsSome (option_and_then (λ column.
        option_map (λ cell. part.first + cell) (slice_get part.cells (row * part.width + column))) o) → IsSome o
    second row None s = s
    second row (Some column) s = refl

    first : (o : Option ℕ) → IsSome (option_and_then (λ row. option_and_then (λ column.
        option_map (λ cell. part.first + cell) (slice_get part.cells (row * part.width + column))) (slice_get part.columns r)) o) →
        IsSome (slice_get part.columns r)
    first None s = absurd (false≢true s)
    first (Some row) s = second row (slice_get part.columns r) s

some-first : {X Y : Type 0} (f : X → Option Y) (o : Option X) → IsSome (option_and_then f o) → IsSome o
some-first f None some = some
some-first f (Some x) some = refl

-- lists with the same elements are the same
ext : {X : Type 0} (xs ys : List X) → ((i : ℕ) → slice_get xs i ≡ slice_get ys i) → xs ≡ ys
ext [] [] same = refl
ext [] (y ∷ ys) same = let e = same 0 in absurd cc
ext (x ∷ xs) [] same = let e = same 0 in absurd cc
ext {X} (x ∷ xs) (y ∷ ys) same =
    let e : ◌≡◌ {A = Option X} (Some x) (Some y) = same 0 in
    let first : x ≡ y = cc in
    ap (λ (z : X). z ∷ xs) first ∙ ap (λ (zs : List X). y ∷ zs) (ext xs ys (λ i. same (suc i)))

module _ (between : Contents) (f : Form) (classes : List SpaceClasses) (is_form : form.IsForm f) (refined : IsRefined f classes)
    (parts : List Part) (roots : List NodeRef) (are : AreQuotientSpaces between f classes parts roots (length (form.guide_of f))) (accepting : List Bool)
    (accepting_are : accepting ≡ map (λ state. slice_index_or f.accepting state false) (part_at classes 0).representatives) (table : ℕ) where
  view : AutoView
  view = record { table = table; parts = parts; accepting = accepting }

  part-of : (s : ℕ) → IsSpace (form.guide_of f) s → (part : Part) × (slice_get parts s ≡ Some part)
  part-of s there = pick (slice_get parts s) refl
    where
      pick : (o : Option Part) → slice_get parts s ≡ o → (part : Part) × (slice_get parts s ≡ Some part)
      pick None e = absurd (none-inside parts s e (let n = are.many in omega arith))
      pick (Some part) e = (part, e)

  states-are : (s : ℕ) → IsSpace (form.guide_of f) s → states_of view s ≡ classes_in classes s
  unfolding view
  states-are s there =
      let part = part-of s there in
      ap (λ (o : Option Part). unwrap_or (option_map (λ p. p.states) o) 0) part.1 ∙ (are.each s part.0 part.1).states

  over-form : guide_of view ≡ form.guide_of f
  unfolding view
  over-form = ext (map (λ part. part.children) parts) (form.guide_of f) (λ s. slice_get-map (λ part. part.children) parts s ∙ pick s (slice_get parts s) refl)
    where
      pick : (s : ℕ) (o : Option Part) → slice_get parts s ≡ o → option_map (λ part. part.children) o ≡ slice_get (form.guide_of f) s
      pick s None at = sym (slice_get_past (form.guide_of f) s (let p = past-none parts s at in let m = are.many in omega arith))
      pick s (Some part) at = sym (are.each s part at).children

  pub IsWhole-parts : IsWhole (record { table = table; parts = parts; accepting = accepting })
  unfolding view
  IsWhole-parts = record {
    guide = subst IsGuide (sym over-form) is_form.guide;
    few = λ s. elim (cases_lt s (length parts)) [
      | inl inside ↦
          let there : IsSpace (form.guide_of f) s = (let m = are.many in omega arith) in
          let e = states-are s there in
          let few = (refined.classes s there).few in
          omega arith
      | inr past ↦
          let none = ap (λ (o : Option Part). unwrap_or (option_map (λ p. p.states) o) 0) (slice_get_past parts s (omega arith)) in
          let e : states_of view s ≡ 0 = none in
          omega arith
    ];
    accepting = ap (λ (bs : List Bool). length bs) accepting_are
        ∙ length-map (part_at classes 0).representatives (λ state. slice_index_or f.accepting state false) ∙ sym (states-are 0 is_form.guide.not_empty);
  }

  module _ (new : Contents) (adds : AddsTable between new table roots) where
    root-is : (k : ℕ) → root_of new table k ≡ slice_get roots k
    root-is k = ap (λ (o : Option (List NodeRef)). option_and_then (λ (rs : List NodeRef). slice_get rs k) o) adds.roots

    state-same : (r : NodeRef) (label : Label) → state_of new r label ≡ state_of between r label
    state-same r label = ap (λ (nodes : List Node). state_named nodes (node_of r) label) (adds.nodes).nodes

    place-is : (s l r : ℕ) (part : Part) → slice_get parts s ≡ Some part → place_of view s l r ≡ place_in part l r
    unfolding view
    place-is s l r part at = ap (λ (o : Option Part). option_and_then (λ p. place_in p l r) o) at

    root-known : (s x y place : ℕ) (root : NodeRef) (part : Part) → slice_get parts s ≡ Some part → place_in part x y ≡ Some place →
        slice_get roots place ≡ Some root → root_at new view s x y ≡ Some root
    unfolding root_at view
    root-known s x y place root part at here there =
        ap (option_and_then (root_of new table)) (place-is s x y part at ∙ here) ∙ root-is place ∙ there

    initial-is : (s : ℕ) → IsSpace (form.guide_of f) s → (automaton_of new view).initial s ≡ class_at classes s ((form.automaton_of f).initial s)
    unfolding automaton_of view
    initial-is s there =
        let part = part-of s there in
        ap (λ (o : Option Part). unwrap_or (option_map (λ p. p.initial) o) 0) part.1 ∙ (are.each s part.0 part.1).initial

    accepting-is : (x : ℕ) → x < classes_in classes 0 → (automaton_of new view).accepting x ≡ (quotient_of f classes).accepting x
    unfolding automaton_of view
    accepting-is x x_in =
        let reps = (part_at classes 0).representatives in
        ap (λ (flags : List Bool). unwrap_or (slice_get flags x) false) accepting_are
        ∙ ap (λ (o : Option Bool). unwrap_or o false) (slice_get-map (λ state. slice_index_or f.accepting state false) reps x
        ∙ ap (option_map (λ state. slice_index_or f.accepting state false)) (slice_get-get_or reps x 0 x_in))
        ∙ sym (accepting-form f (representative_at classes 0 x)) ∙ sym (accepting-quotient f classes x)

    IsQuotient-parts : IsQuotient f classes (automaton_of new view) (states_of view)
    IsQuotient-parts = record {
      states = states-are;
      initial = initial-is;
      step = λ s x y label there x_in y_in.
          let part = part-of s there in
          let root = (are.each s part.0 part.1).each x y x_in y_in in
          sym (step-some new view s x y label root.root (root-known s x y root.place root.root part.0 part.1 root.at root.there))
          ∙ state-same root.root label ∙ root.states label;
      accepting = accepting-is;
    }

    pair-there : (s l r : ℕ) → IsSome (root_at new view s l r) →
        IsSpace (form.guide_of f) s × IsChildPair (form.guide_of f) (Below (states_of view)) s (l, r)
    unfolding root_at view
    pair-there s l r some =
        let placed : IsSome (place_of view s l r) = some-first (root_of new table) (place_of view s l r) some in
        let s_in = some-within parts s (some-first (λ p. place_in p l r) (slice_get parts s) placed) in
        let there : IsSpace (form.guide_of f) s = (let m = are.many in omega arith) in
        let part = part-of s there in
        let is = are.each s part.0 part.1 in
        let found : IsSome (place_in part.0 l r) = subst (λ (o : Option ℕ). IsSome o) (place-is s l r part.0 part.1) placed in
        let l_in = rows-within part.0 l r found in
        let r_in = columns-within part.0 l r found in
        let to = below-to f classes is_form refined (automaton_of new view) (states_of view) IsQuotient-parts in (
          there,
          (
            to (left (form.guide_of f) s) l (is_form.guide.left_inside s there) (let e = is.lefts in omega arith),
            to (right (form.guide_of f) s) r (is_form.guide.right_inside s there) (let e = is.rights in omega arith),
          ),
        )

    there-pair : (s l r : ℕ) → IsSpace (form.guide_of f) s → IsChildPair (form.guide_of f) (Below (states_of view)) s (l, r) →
        IsSome (root_at new view s l r)
    there-pair s l r there pair =
        let back = below-back f classes is_form refined (automaton_of new view) (states_of view) IsQuotient-parts in
        let part = part-of s there in
        let root = (are.each s part.0 part.1).each l r (back (left (form.guide_of f) s) l (is_form.guide.left_inside s there) pair.0)
        (back (right (form.guide_of f) s) r (is_form.guide.right_inside s there) pair.1) in
        is-some (root_at new view s l r) root.root (root-known s l r root.place root.root part.0 part.1 root.at root.there)

    used-at : (k : ℕ) → IsSome (root_of new table k) → IsUsed view k
    used-at k some =
        let used = are.used k (some-within roots k (subst (λ (o : Option NodeRef). IsSome o) (root-is k) some)) in
        record {
          space = used.space;
          left = (used.has).left;
          right = (used.has).right;
          there = place-is used.space (used.has).left (used.has).right used.part used.there ∙ (used.has).there;
        }

    IsAuto-view : IsAuto (form.guide_of f) new view
    unfolding view
    IsAuto-view = record {
      over = over-form;
      registered = is-some _ roots adds.roots;
      complete = λ s l r. (pair-there s l r, λ pair. there-pair s l r pair.0 pair.1);
      used = used-at;
      closed = IsClosed-classes f classes is_form refined (automaton_of new view) (states_of view) IsQuotient-parts;
      stable = IsStable-quotient f classes is_form refined (automaton_of new view) (states_of view) IsQuotient-parts;
    }

    pub IsAuto-parts : IsAuto (form.guide_of f) new (record { table = table; parts = parts; accepting = accepting })
    unfolding view
    IsAuto-parts = IsAuto-view

    pub IsQuotient-made : let a : AutoView = record { table = table; parts = parts; accepting = accepting } in
        IsQuotient f classes (automaton_of new a) (states_of a)
    unfolding view
    IsQuotient-made = IsQuotient-parts
