-- The form of an automaton of a shelf.
use Rattle.std.proofs.Common.{◌≡◌, ℕ, ◌+◌, ◌-◌, ◌*◌, ◌<◌, ◌≤◌, Bool, true, false, List, [], ◌∷◌, ◌++◌, length, map, Option, Some, None, inl, inr}
use Rattle.std.proofs.Common.{sym, ◌∙◌, ap, refl, subst, arith, length-append}
use Rattle.std.specs.Prelude.{slice_get, slice_index, slice_index_or, unwrap_or, option_map, option_and_then, IsSome, SomeIff, nat_lt}
use Rattle.std.proofs.lemmas.Bool.{false≢true, ltb-true, lt-ltb}
use Rattle.std.proofs.lemmas.List.{same_lists, length-map}
use Rattle.std.proofs.lemmas.Option.{slice_get_within, slice_get-get_or, slice_get-map, unwrap_or-slice_get}
use Rattle.labels.specs.Labels.{Label, empty_label}
use Rattle.bdd_nodes.specs.declared.node_ref.NodeRef.{NodeRef}
use Rattle.bdd_nodes.specs.Shelf.{Contents, state_of}
use Rattle.bdd_list.specs.declared.listing.Listed.TheVariants.{Leaf}
use Rattle.bdd_list.specs.declared.listing.Listing.{Listing}
use Rattle.bdd_list.specs.Listing.{function_of, IsListing}
use Rattle.gta_theory.specs.Guides.{Spaces, IsSpace, IsGuide, left, right}
use Rattle.gta_theory.specs.Automata.{IsStable}
use Rattle.gta_theory.specs.Constructions.{IsClosed}
use Rattle.gta_theory.specs.Numbered.{Below}
use Rattle.gta_theory.proofs.ListedLemmas.{slice_get-push}
use Rattle.gta_core.specs.declared.factored.FactoredPart.{FactoredPart}
use Rattle.gta_core.specs.Auto.{AutoView, states_of, initial_of, is_accepting, root_at, automaton_of, IsAuto, IsWhole}
use Rattle.gta_core.specs.Factored.{factored_root}
use Rattle.gta_reach.specs.declared.form.FormSpace.{FormSpace}
use Rattle.gta_reach.specs.declared.form.Form.{Form}
use Rattle.gta_reach.specs.Form as form
use Rattle.gta_reach.proofs.ReachLemmas.{states-at, initial-at, step-at, initial-form, none-inside, accepting-form}
use Rattle.gta_form.specs.Listed.{IsSpaceOf, IsFormOf}

-- a chain that gives something has each of its links
and_then-some : {X : Type 0} (o : Option ℕ) (f : ℕ → Option X) (x : X) → option_and_then f o ≡ Some x → (y : ℕ) × (o ≡ Some y) × (f y ≡ Some x)
and_then-some None f x e = absurd cc
and_then-some (Some y) f x e = (y, refl, e)

some-of : {X : Type 0} (o : Option X) → IsSome o → (x : X) × (o ≡ Some x)
some-of None some = absurd (false≢true some)
some-of (Some x) some = (x, refl)

slice_index-some : (xs : List ℕ) (i x : ℕ) → slice_get xs i ≡ Some x → slice_index xs i ≡ x
slice_index-some xs i x there = sym (unwrap_or-slice_get xs i 0) ∙ ap (λ (o : Option ℕ). unwrap_or o 0) there

-- what a call gives where its condition holds
pub some_iff-value : {X : Type 0} (o : Option X) (P : Type 0) (v d : X) → SomeIff o P v → P → unwrap_or o d ≡ v
some_iff-value None P v d iff holds = absurd (iff holds)
some_iff-value (Some x) P v d iff holds = iff.1

pub some-unwrap : {X : Type 0} (xs : List X) (i : ℕ) (d : X) → i < length xs → slice_get xs i ≡ Some (unwrap_or (slice_get xs i) d)
some-unwrap xs i d inside = slice_get-get_or xs i d inside ∙ ap (λ x. Some x) (sym (unwrap_or-slice_get xs i d))

-- where a pair of child states has its root
record HasCell (part : FactoredPart) (l r : ℕ) (root : NodeRef) : Type 0 where
  row : ℕ
  column : ℕ
  cell : ℕ
  at_row : slice_get part.rows l ≡ Some row
  at_column : slice_get part.columns r ≡ Some column
  at_cell : slice_get part.cells (row * part.width + column) ≡ Some cell
  at_root : slice_get part.roots cell ≡ Some root

HasCell-some : (part : FactoredPart) (l r : ℕ) (root : NodeRef) → factored_root part l r ≡ Some root → HasCell part l r root
HasCell-some part l r root e =
    let row = and_then-some (slice_get part.rows l) (λ row. option_and_then (λ column.
    option_and_then (λ cell. slice_get part.roots cell) (slice_get part.cells (row * part.width + column))) (slice_get part.columns r)) root e in
    let column = and_then-some (slice_get part.columns r) (λ column.
    option_and_then (λ cell. slice_get part.roots cell) (slice_get part.cells (row.0 * part.width + column))) root row.2 in
    let cell = and_then-some (slice_get part.cells (row.0 * part.width + column.0)) (λ cell. slice_get part.roots cell) root column.2 in
    record {
      row = row.0;
      column = column.0;
      cell = cell.0;
      at_row = row.1;
      at_column = column.1;
      at_cell = cell.1;
      at_root = cell.2;
    }

-- the part of a space
module _ (g : Spaces) (shelf : Contents) (a : AutoView) (is_auto : IsAuto g shelf a) (whole : IsWhole a) (s : ℕ) (inside : s < length g)
    (part : FactoredPart) (roots : (l r : ℕ) → factored_root part l r ≡ root_at shelf a s l r)
    (listing : Listing) (is_listing : IsListing shelf part.roots listing) (states initial : ℕ) (children : ℕ × ℕ)
    (states_are : states ≡ states_of a s) (initial_is : initial ≡ initial_of a s) (children_are : slice_get g s ≡ Some children) where
  space : FormSpace
  space = record {
    states = states;
    initial = initial;
    children = children;
    listing = listing;
    rows = part.rows;
    columns = part.columns;
    width = part.width;
    cells = part.cells;
  }

  guide : IsGuide g
  guide = subst IsGuide is_auto.over whole.guide

  has-state : (k : ℕ) → IsSpace g k → initial_of a k < states_of a k
  unfolding automaton_of
  has-state k there = ltb-true (initial_of a k) (states_of a k) (is_auto.closed.initial k there)

  root-of : (l r : ℕ) → l < states_of a (left g s) → r < states_of a (right g s) → (root : NodeRef) × (root_at shelf a s l r ≡ Some root)
  root-of l r l_in r_in = some-of (root_at shelf a s l r) ((is_auto.complete s l r).1
      (inside, (lt-ltb l (states_of a (left g s)) l_in, lt-ltb r (states_of a (right g s)) r_in)))

  cell-of : (l r : ℕ) (l_in : l < states_of a (left g s)) (r_in : r < states_of a (right g s)) → HasCell part l r (root-of l r l_in r_in).0
  cell-of l r l_in r_in = HasCell-some part l r (root-of l r l_in r_in).0 (roots l r ∙ (root-of l r l_in r_in).1)

  place-is : (l r : ℕ) (l_in : l < states_of a (left g s)) (r_in : r < states_of a (right g s)) →
      slice_index part.rows l * part.width + slice_index part.columns r ≡ (cell-of l r l_in r_in).row * part.width + (cell-of l r l_in r_in).column
  place-is l r l_in r_in =
      let c = cell-of l r l_in r_in in
      ap (λ (row : ℕ). row * part.width + slice_index part.columns r) (slice_index-some part.rows l c.row c.at_row)
      ∙ ap (λ (column : ℕ). c.row * part.width + column) (slice_index-some part.columns r c.column c.at_column)

  cell-is : (l r : ℕ) (l_in : l < states_of a (left g s)) (r_in : r < states_of a (right g s)) → form.cell_in space l r ≡ (cell-of l r l_in r_in).cell
  unfolding space
  cell-is l r l_in r_in =
      let c = cell-of l r l_in r_in in
      ap (slice_index part.cells) (place-is l r l_in r_in) ∙ slice_index-some part.cells (c.row * part.width + c.column) c.cell c.at_cell

  -- as many rows as there are left states
  rows-many : states_of a (left g s) ≤ length part.rows
  rows-many =
      let r_in = has-state (right g s) (guide.right_inside s inside) in
      let l_in = has-state (left g s) (guide.left_inside s inside) in
      let last = states_of a (left g s) - 1 in
      let c = cell-of last (initial_of a (right g s)) (omega arith) r_in in
      let b = slice_get_within part.rows last c.row c.at_row in
      omega arith

  columns-many : states_of a (right g s) ≤ length part.columns
  columns-many =
      let r_in = has-state (right g s) (guide.right_inside s inside) in
      let l_in = has-state (left g s) (guide.left_inside s inside) in
      let last = states_of a (right g s) - 1 in
      let c = cell-of (initial_of a (left g s)) last l_in (omega arith) in
      let b = slice_get_within part.columns last c.column c.at_column in
      omega arith

  listed-of : (l r : ℕ) (l_in : l < states_of a (left g s)) (r_in : r < states_of a (right g s)) → (cell-of l r l_in r_in).cell < length listing.roots
  listed-of l r l_in r_in =
      let c = cell-of l r l_in r_in in
      let b = slice_get_within part.roots c.cell (root-of l r l_in r_in).0 c.at_root in
      let m = is_listing.many in
      omega arith

  step-is : (l r : ℕ) (label : Label) (l_in : l < states_of a (left g s)) (r_in : r < states_of a (right g s)) →
      form.step_in space l r label ≡ (automaton_of shelf a).step s l r label
  unfolding space automaton_of
  step-is l r label l_in r_in =
      let c = cell-of l r l_in r_in in
      let root = root-of l r l_in r_in in
      ap (λ (cell : ℕ). function_of listing (slice_index_or listing.roots cell (Leaf 0)) label) (cell-is l r l_in r_in)
      ∙ is_listing.root c.cell root.0 (slice_index_or listing.roots c.cell (Leaf 0)) c.at_root
      (slice_get-get_or listing.roots c.cell (Leaf 0) (listed-of l r l_in r_in)) label
      ∙ sym (ap (λ (o : Option NodeRef). unwrap_or (option_map (state_of shelf) o) (λ t. 0) label) root.1)

  pub IsSpaceOf-listed : IsSpaceOf g shelf a s (record {
    states = states;
    initial = initial;
    children = children;
    listing = listing;
    rows = part.rows;
    columns = part.columns;
    width = part.width;
    cells = part.cells;
  })
  unfolding space
  IsSpaceOf-listed = record {
    children = children_are;
    states = states_are;
    initial = initial_is;
    is_space = record {
      rows = rows-many;
      columns = columns-many;
      cells = λ l r l_in r_in.
          let c = cell-of l r l_in r_in in
          let b = slice_get_within part.cells (c.row * part.width + c.column) c.cell c.at_cell in
          subst (λ (k : ℕ). k < length part.cells) (sym (place-is l r l_in r_in)) b;
      roots = λ l r l_in r_in. subst (λ (k : ℕ). k < length listing.roots) (sym (cell-is l r l_in r_in)) (listed-of l r l_in r_in);
      ordered = is_listing.ordered;
      inside = λ cell cell_in. is_listing.inside cell (slice_index_or listing.roots cell (Leaf 0)) (slice_get-get_or listing.roots cell (Leaf 0) cell_in);
      few = let f = whole.few s in omega arith;
    };
    steps = λ l r label l_in r_in. step-is l r label l_in r_in;
  }

-- the parts of the first spaces
pub record AreSpacesOf (g : Spaces) (shelf : Contents) (a : AutoView) (spaces : List FormSpace) (below : ℕ) : Type 0 where
  pub many : length spaces ≡ below
  pub each : (s : ℕ) (space : FormSpace) → slice_get spaces s ≡ Some space → IsSpaceOf g shelf a s space

pub AreSpacesOf-push : (g : Spaces) (shelf : Contents) (a : AutoView) (spaces : List FormSpace) (below : ℕ) (space : FormSpace) →
    AreSpacesOf g shelf a spaces below → IsSpaceOf g shelf a below space → AreSpacesOf g shelf a (spaces ++ space ∷ []) (below + 1)
AreSpacesOf-push g shelf a spaces below space so_far here = record {
  many = length-append spaces (space ∷ []) ∙ (let m = so_far.many in omega arith);
  each = λ s other there. elim (slice_get-push spaces space other s there) [
    | inl before ↦ so_far.each s other before
    | inr last ↦
        let is : below ≡ s = sym so_far.many ∙ sym last.0 in
        subst (λ (k : ℕ). IsSpaceOf g shelf a k other) is (subst (IsSpaceOf g shelf a below) last.1 here)
  ];
}

-- all spaces
module _ (g : Spaces) (shelf : Contents) (a : AutoView) (is_auto : IsAuto g shelf a) (whole : IsWhole a) (spaces : List FormSpace) (accepting : List Bool)
    (all : AreSpacesOf g shelf a spaces (length g)) (many_accepting : length accepting ≡ states_of a 0)
    (accepting_is : (q : ℕ) → q < states_of a 0 → slice_get accepting q ≡ Some (is_accepting a q)) where
  f : Form
  f = record { spaces = spaces; accepting = accepting }

  space-at : (s : ℕ) → IsSpace g s → (space : FormSpace) × (slice_get spaces s ≡ Some space)
  space-at s there = pick (slice_get spaces s) refl
    where
      pick : (o : Option FormSpace) → slice_get spaces s ≡ o → (space : FormSpace) × (slice_get spaces s ≡ Some space)
      pick None e = absurd (none-inside spaces s e (let m = all.many in omega arith))
      pick (Some space) e = (space, e)

  part-of : (s : ℕ) (there : IsSpace g s) → IsSpaceOf g shelf a s (space-at s there).0
  part-of s there = all.each s (space-at s there).0 (space-at s there).1

  guide-same : form.guide_of f ≡ g
  unfolding f
  guide-same = same_lists (map (λ (p : FormSpace). p.children) spaces) g (length-map spaces (λ (p : FormSpace). p.children) ∙ all.many)
      (λ k d k_in.
      let inside : k < length g = (let m = all.many in let l = length-map spaces (λ (p : FormSpace). p.children) in omega arith) in
      let here = part-of k inside in
      let at : slice_get (map (λ (p : FormSpace). p.children) spaces) k ≡ slice_get g k = slice_get-map (λ (p : FormSpace). p.children) spaces k
      ∙ ap (option_map (λ (p : FormSpace). p.children)) (space-at k inside).1 ∙ sym here.children in
      sym (unwrap_or-slice_get (map (λ (p : FormSpace). p.children) spaces) k d) ∙ ap (λ (o : Option (ℕ × ℕ)). unwrap_or o d) at ∙ unwrap_or-slice_get g k d)

  states-same : (s : ℕ) → IsSpace g s → form.states_of f s ≡ states_of a s
  unfolding f
  states-same s there = states-at f s (space-at s there).0 (space-at s there).1 ∙ (part-of s there).states

  initial-same : (s : ℕ) → IsSpace g s → (form.automaton_of f).initial s ≡ (automaton_of shelf a).initial s
  unfolding f automaton_of
  initial-same s there = initial-form f s ∙ initial-at f s (space-at s there).0 (space-at s there).1 ∙ (part-of s there).initial

  step-same : (s l r : ℕ) (label : Label) → IsSpace g s → l < states_of a (left g s) → r < states_of a (right g s) →
      (form.automaton_of f).step s l r label ≡ (automaton_of shelf a).step s l r label
  unfolding f
  step-same s l r label there l_in r_in = step-at f s (space-at s there).0 (space-at s there).1 l r label ∙ (part-of s there).steps l r label l_in r_in

  accepting-same : (q : ℕ) → q < states_of a 0 → (form.automaton_of f).accepting q ≡ (automaton_of shelf a).accepting q
  unfolding f automaton_of
  accepting-same q q_in = accepting-form f q ∙ sym (unwrap_or-slice_get accepting q false) ∙ ap (λ (o : Option Bool). unwrap_or o false) (accepting_is q q_in)

  pub IsFormOf-all : IsFormOf g shelf a (record { spaces = spaces; accepting = accepting })
  unfolding f
  IsFormOf-all = record {
    guide = guide-same;
    states = states-same;
    initial = initial-same;
    steps = step-same;
    accepting = accepting-same;
  }

  guide-is : IsGuide g
  guide-is = subst IsGuide is_auto.over whole.guide

  below-same : (s q : ℕ) → IsSpace g s → nat_lt q (states_of a s) ≡ true → nat_lt q (form.states_of f s) ≡ true
  below-same s q there below = ap (nat_lt q) (states-same s there) ∙ below

  below-back : (s q : ℕ) → IsSpace g s → nat_lt q (form.states_of f s) ≡ true → q < states_of a s
  below-back s q there below = ltb-true q (states_of a s) (sym (ap (nat_lt q) (states-same s there)) ∙ below)

  closed-form : IsClosed g (form.automaton_of f) (Below (form.states_of f))
  closed-form = record {
    initial = λ s there. below-same s ((form.automaton_of f).initial s) there
        (ap (λ (q : ℕ). nat_lt q (states_of a s)) (initial-same s there) ∙ is_auto.closed.initial s there);
    step = λ s p q label there p_in q_in.
        let l = below-back (left g s) p (guide-is.left_inside s there) p_in in
        let r = below-back (right g s) q (guide-is.right_inside s there) q_in in
        below-same s ((form.automaton_of f).step s p q label) there
        (ap (λ (x : ℕ). nat_lt x (states_of a s)) (step-same s p q label there l r)
        ∙ is_auto.closed.step s p q label there (lt-ltb p (states_of a (left g s)) l) (lt-ltb q (states_of a (right g s)) r));
  }

  stable-form : IsStable g (form.automaton_of f)
  stable-form = record {
    at = λ s there.
        let A = automaton_of shelf a in
        let B = form.automaton_of f in
        let l_there = guide-is.left_inside s there in
        let r_there = guide-is.right_inside s there in
        let l = ltb-true (A.initial (left g s)) (states_of a (left g s)) (is_auto.closed.initial (left g s) l_there) in
        let r = ltb-true (A.initial (right g s)) (states_of a (right g s)) (is_auto.closed.initial (right g s) r_there) in
        ap (λ (q : ℕ). B.step s q (B.initial (right g s)) empty_label) (initial-same (left g s) l_there)
        ∙ ap (λ (q : ℕ). B.step s (A.initial (left g s)) q empty_label) (initial-same (right g s) r_there)
        ∙ step-same s (A.initial (left g s)) (A.initial (right g s)) empty_label there l r
        ∙ is_auto.stable.at s there ∙ sym (initial-same s there);
  }

  pub IsForm-all : form.IsForm (record { spaces = spaces; accepting = accepting })
  unfolding f
  IsForm-all = record {
    guide = subst IsGuide (sym guide-same) guide-is;
    spaces = λ s space there.
        let inside : IsSpace g s = (let b = slice_get_within spaces s space there in let m = all.many in omega arith) in
        let is = (all.each s space there).is_space in
        let lefts : form.states_of f (left (form.guide_of f) s) ≡ states_of a (left g s) =
        ap (λ (h : Spaces). form.states_of f (left h s)) guide-same ∙ states-same (left g s) (guide-is.left_inside s inside) in
        let rights : form.states_of f (right (form.guide_of f) s) ≡ states_of a (right g s) =
        ap (λ (h : Spaces). form.states_of f (right h s)) guide-same ∙ states-same (right g s) (guide-is.right_inside s inside) in
        subst (λ (l : ℕ). form.IsFormSpace l (form.states_of f (right (form.guide_of f) s)) space) (sym lefts)
        (subst (λ (r : ℕ). form.IsFormSpace (states_of a (left g s)) r space) (sym rights) is);
    accepting = many_accepting ∙ sym (states-same 0 guide-is.not_empty);
    closed = subst (λ (h : Spaces). IsClosed h (form.automaton_of f) (Below (form.states_of f))) (sym guide-same) closed-form;
    stable = subst (λ (h : Spaces). IsStable h (form.automaton_of f)) (sym guide-same) stable-form;
  }
