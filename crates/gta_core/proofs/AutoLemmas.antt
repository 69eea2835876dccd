-- Automata whose table stays with its functions.
use Rattle.std.proofs.Common.{◌≡◌, ◌≤◌, ℕ, zero, suc, List, [], ◌∷◌, length, Option, Some, None, refl, sym, ◌∙◌, ap, subst, arith}
use Rattle.std.specs.Prelude.{All, IsSome, is_some, unwrap_or, slice_get, option_map, option_and_then}
use mathlib.Core.Path.{fun_ext}
use Rattle.std.proofs.lemmas.Bool.{false≢true}
use Rattle.std.proofs.lemmas.Option.{slice_get_within}
use Rattle.labels.specs.Labels.{Label, Function}
use Rattle.bdd_nodes.specs.declared.node.Node.{Node}
use Rattle.bdd_nodes.specs.declared.node_ref.NodeRef.{NodeRef}
use Rattle.bdd_nodes.specs.Nodes.{node_of, state_named}
use Rattle.bdd_nodes.specs.Shelf.{Contents, IsShelf, IsValid, state_of, roots_of, root_of}
use Rattle.bdd_nodes.specs.Changes.{Keeps, SameNodes, AddsTable, MovesRoots, IsMoved}
use Rattle.bdd_nodes.proofs.TablesLemmas.{All-registered}
use Rattle.bdd_nodes.proofs.UnderLemmas.{roots_of-unused}
use Rattle.gta_theory.specs.Guides.{Spaces}
use Rattle.gta_theory.specs.Automata.{Automaton, IsStable}
use Rattle.gta_theory.specs.Constructions.{IsClosed}
use Rattle.gta_theory.specs.Numbered.{Below}
use Rattle.gta_core.specs.Auto.{AutoView, states_of, initial_of, is_accepting, place_of, root_at, automaton_of, IsAuto}
use Rattle.gta_core.specs.Changes.{function_of, KeepsTable, RegistersTable}

-- no element stands past the end
pub past-none : {X : Type 0} (xs : List X) (i : ℕ) → slice_get xs i ≡ None → length xs ≤ i
past-none [] i none = omega arith
past-none (x ∷ xs) zero none = absurd cc
past-none (x ∷ xs) (suc i) none = omega (arith, past-none xs i none)

-- where the images are equal, both are there or neither is
pub IsSome-images : {X Y Z : Type 0} (f : X → Z) (h : Y → Z) (o : Option X) (p : Option Y) → option_map f o ≡ option_map h p → IsSome p → IsSome o
IsSome-images f h None None same some = some
IsSome-images f h None (Some y) same some = absurd cc
IsSome-images f h (Some x) p same some = refl

-- the same nodes have the same functions
pub functions-same : (old new : Contents) → SameNodes old new → (root : Option NodeRef) → option_map (state_of new) root ≡ option_map (state_of old) root
functions-same old new same root = ap (λ (nodes : List Node). option_map (λ (r : NodeRef). state_named nodes (node_of r)) root) same.nodes

-- another table than one that is added
pub KeepsTable-added : (old new : Contents) (number other : ℕ) (roots : List NodeRef) → IsShelf old → AddsTable old new other roots →
    IsSome (roots_of old number) → KeepsTable old new number
KeepsTable-added old new number other roots is_shelf adds some =
    let same : roots_of new number ≡ roots_of old number = adds.others number (λ e.
    let none : roots_of old number ≡ None = roots_of-unused old is_shelf number (omega (arith, adds.number)) in
    absurd (false≢true (sym (ap (λ (o : Option (List NodeRef)). is_some o) none) ∙ some))) in
    record {
      registered = λ there. ap (λ (o : Option (List NodeRef)). is_some o) same ∙ there;
      functions = λ place. functions-same old new adds.nodes (root_of new number place)
          ∙ ap (λ (o : Option (List NodeRef)). option_map (state_of old) (option_and_then (λ (rs : List NodeRef). slice_get rs place) o)) same;
    }

-- another table than one that is registered while nodes are made
module _ (old new : Contents) (number other : ℕ) (is_shelf : IsShelf old) (keeps : Keeps old new) (registers : RegistersTable old new other)
    (some : IsSome (roots_of old number)) where
  same_roots : roots_of new number ≡ roots_of old number
  same_roots = registers.others number (λ e.
      let none : roots_of old number ≡ None = roots_of-unused old is_shelf number (omega (arith, registers.number)) in
      absurd (false≢true (sym (ap (λ (o : Option (List NodeRef)). is_some o) none) ∙ some)))

  kept_at : (place : ℕ) (o : Option NodeRef) → root_of old number place ≡ o → option_map (state_of new) o ≡ option_map (state_of old) o
  kept_at place None at = refl
  kept_at place (Some r) at =
      ap (λ (f : Function). let o : Option Function = Some f in o)
      (fun_ext (λ (label : Label). keeps.states r label (is_shelf.roots number place r at)))

  pub KeepsTable-grown : KeepsTable old new number
  KeepsTable-grown = record {
    registered = λ there. ap (λ (o : Option (List NodeRef)). is_some o) same_roots ∙ there;
    functions = λ place.
        ap (λ (o : Option (List NodeRef)). option_map (state_of new) (option_and_then (λ (rs : List NodeRef). slice_get rs place) o)) same_roots
        ∙ kept_at place (root_of old number place) refl;
  }

-- every table over a collection
module _ (old new : Contents) (moves : MovesRoots old new) (number : ℕ) where
  moved-at : (place : ℕ) (was now : Option (List NodeRef)) → roots_of old number ≡ was → roots_of new number ≡ now →
      option_map length now ≡ option_map length was →
      option_map (state_of new) (option_and_then (λ (rs : List NodeRef). slice_get rs place) now)
      ≡ option_map (state_of old) (option_and_then (λ (rs : List NodeRef). slice_get rs place) was)
  moved-at place None None at_old at_new lengths = refl
  moved-at place None (Some now) at_old at_new lengths = absurd cc
  moved-at place (Some was) None at_old at_new lengths = absurd cc
  moved-at place (Some was) (Some now) at_old at_new lengths = pick (slice_get was place) (slice_get now place) refl refl
    where
      same_length : length now ≡ length was
      same_length = let e : ◌≡◌ {A = Option ℕ} (Some (length now)) (Some (length was)) = lengths in cc

      pick : (w n : Option NodeRef) → slice_get was place ≡ w → slice_get now place ≡ n → option_map (state_of new) n ≡ option_map (state_of old) w
      pick None None at_w at_n = refl
      pick None (Some n) at_w at_n = absurd (omega (arith, same_length, past-none was place at_w, slice_get_within now place n at_n))
      pick (Some w) None at_w at_n = absurd (omega (arith, same_length, past-none now place at_n, slice_get_within was place w at_w))
      pick (Some w) (Some n) at_w at_n =
          let moved : IsMoved old new w n = moves.moved number place w n
          (ap (λ (o : Option (List NodeRef)). option_and_then (λ (rs : List NodeRef). slice_get rs place) o) at_old ∙ at_w)
          (ap (λ (o : Option (List NodeRef)). option_and_then (λ (rs : List NodeRef). slice_get rs place) o) at_new ∙ at_n) in
          ap (λ (f : Function). let o : Option Function = Some f in o) (fun_ext moved.states)

  pub KeepsTable-moved : KeepsTable old new number
  KeepsTable-moved = record {
    registered = moves.registered number;
    functions = λ place. moved-at place (roots_of old number) (roots_of new number) refl refl (moves.lengths number);
  }

-- an automaton over another table with the same functions
module _ (old new : Contents) (a : AutoView) (table : ℕ) (registered : IsSome (roots_of old a.table) → IsSome (roots_of new table))
    (functions : (place : ℕ) → function_of new table place ≡ function_of old a.table place) where
  abbrev pub moved : AutoView
  moved = record { table = table; parts = a.parts; accepting = a.accepting }

  functions-moved : (s l r : ℕ) → option_map (state_of new) (root_at new moved s l r) ≡ option_map (state_of old) (root_at old a s l r)
  unfolding root_at
  functions-moved s l r = pick (place_of a s l r)
    where
      pick : (place : Option ℕ) → option_map (state_of new) (option_and_then (root_of new table) place)
          ≡ option_map (state_of old) (option_and_then (root_of old a.table) place)
      pick None = refl
      pick (Some place) = functions place

  pub automaton_of-moved : automaton_of new moved ≡ automaton_of old a
  unfolding automaton_of
  automaton_of-moved = λ i. record {
    initial = initial_of a;
    step = λ s l r. unwrap_or (functions-moved s l r i) (λ label. 0);
    accepting = is_accepting a;
  }

  pub IsAuto-moved : (g : Spaces) → IsAuto g old a → IsAuto g new moved
  IsAuto-moved g auto = record {
    over = auto.over;
    registered = registered auto.registered;
    complete = λ s l r. (
      λ some. (auto.complete s l r).0
          (IsSome-images (state_of old) (state_of new) (root_at old a s l r) (root_at new moved s l r) (sym (functions-moved s l r)) some),
      λ pair. IsSome-images (state_of new) (state_of old) (root_at new moved s l r) (root_at old a s l r) (functions-moved s l r)
          ((auto.complete s l r).1 pair),
    );
    used = λ place some.
        let u = auto.used place
        (IsSome-images (state_of old) (state_of new) (root_of old a.table place) (root_of new table place) (sym (functions place)) some) in
        record { space = u.space; left = u.left; right = u.right; there = u.there };
    closed = subst (λ (A : Automaton ℕ). IsClosed g A (Below (states_of a))) (sym automaton_of-moved) auto.closed;
    stable = subst (λ (A : Automaton ℕ). IsStable g A) (sym automaton_of-moved) auto.stable;
  }

-- the automaton where its table stays
module _ (old new : Contents) (a : AutoView) (keeps : KeepsTable old new a.table) where
  pub automaton_of-kept : automaton_of new a ≡ automaton_of old a
  automaton_of-kept = automaton_of-moved old new a a.table keeps.registered keeps.functions

  pub IsAuto-kept : (g : Spaces) → IsAuto g old a → IsAuto g new a
  IsAuto-kept g auto = IsAuto-moved old new a a.table keeps.registered keeps.functions g auto

-- the roots of a table are valid
pub All-roots : (shelf : Contents) → IsShelf shelf → (number : ℕ) → All (IsValid shelf) (unwrap_or (roots_of shelf number) [])
All-roots shelf is_shelf number = pick (roots_of shelf number) refl
  where
    pick : (o : Option (List NodeRef)) → roots_of shelf number ≡ o → All (IsValid shelf) (unwrap_or o [])
    pick None at = λ k d inside. absurd (omega arith)
    pick (Some roots) at = All-registered shelf is_shelf number roots at

-- a table of its own for the same roots
module _ (old new : Contents) (a : AutoView) (table : ℕ) (adds : AddsTable old new table (unwrap_or (roots_of old a.table) [])) where
  functions-copied : (place : ℕ) → function_of new table place ≡ function_of old a.table place
  functions-copied place =
      functions-same old new adds.nodes (root_of new table place)
      ∙ ap (λ (o : Option (List NodeRef)). option_map (state_of old) (option_and_then (λ (rs : List NodeRef). slice_get rs place) o)) adds.roots
      ∙ ap (λ (o : Option NodeRef). option_map (state_of old) o) (pick (roots_of old a.table))
    where
      pick : (o : Option (List NodeRef)) → slice_get (unwrap_or o []) place ≡ option_and_then (λ (rs : List NodeRef). slice_get rs place) o
      pick None = refl
      pick (Some rs) = refl

  registered-copied : IsSome (roots_of old a.table) → IsSome (roots_of new table)
  registered-copied some = ap (λ (o : Option (List NodeRef)). is_some o) adds.roots

  pub automaton_of-copied : automaton_of new (record { table = table; parts = a.parts; accepting = a.accepting }) ≡ automaton_of old a
  automaton_of-copied = automaton_of-moved old new a table registered-copied functions-copied

  pub IsAuto-copied : (g : Spaces) → IsAuto g old a → IsAuto g new (record { table = table; parts = a.parts; accepting = a.accepting })
  IsAuto-copied g auto = IsAuto-moved old new a table registered-copied functions-copied g auto

-- a step is the function of the root
pub step-some : (shelf : Contents) (a : AutoView) (s l r : ℕ) (label : Label) (root : NodeRef) → root_at shelf a s l r ≡ Some root →
    state_of shelf root label ≡ (automaton_of shelf a).step s l r label
unfolding automaton_of
step-some shelf a s l r label root at = ap (λ (o : Option NodeRef). unwrap_or (option_map (state_of shelf) o) (λ _. 0) label) (sym at)

pub step-none : (shelf : Contents) (a : AutoView) (s l r : ℕ) (label : Label) → root_at shelf a s l r ≡ None → 0 ≡ (automaton_of shelf a).step s l r label
unfolding automaton_of
step-none shelf a s l r label none = ap (λ (o : Option NodeRef). unwrap_or (option_map (state_of shelf) o) (λ _. 0) label) (sym none)
