-- Automata over joins of their shelf, and what their parts have.
use Rattle.std.proofs.Common.{◌≡◌, ℕ, zero, suc, ◌+◌, ◌*◌, ◌<◌, List, [], ◌∷◌, length}
use Rattle.std.proofs.Common.{Option, Some, None, Contains, slice_get, refl, sym, ◌∙◌, ap, subst, arith}
use Rattle.std.specs.Prelude.{IsSome, option_map, option_and_then, unwrap_or}
use Rattle.std.proofs.lemmas.Bool.{false≢true}
use Rattle.std.proofs.lemmas.Option.{slice_get-get_or}
use Rattle.bdd_nodes.specs.declared.node_ref.NodeRef.{NodeRef}
use Rattle.bdd_nodes.specs.Roots.{Registered, roots_under, root_under}
use Rattle.bdd_nodes.specs.Shelf.{Contents, IsShelf, root_of}
use Rattle.bdd_nodes.specs.Changes.{Keeps, SameTables}
use Rattle.gta_theory.specs.Guides.{Spaces, IsGuide, IsSpace, left, right}
use Rattle.gta_theory.specs.Automata.{Automaton}
use Rattle.labels.specs.Labels.{with_track}
use Rattle.gta_subsets.specs.Subsets.{subsets, AreInitial}
use Rattle.gta_subsets.specs.Roots.{IsTableOf}
use Rattle.gta_subsets.proofs.SubsetsLemmas.{set_step-only}
use Rattle.gta_subsets.proofs.ClosingLemmas.{settled-below, get-index}
use Rattle.gta_theory.specs.Generated.{Generated, starts, steps}
use Rattle.gta_theory.specs.Numbered.{Below}
use Rattle.gta_core.specs.declared.part.Part.{Part}
use Rattle.gta_core.specs.Auto.{AutoView, states_of, initial_of, place_in, place_of, root_at, automaton_of, IsAuto}
use Rattle.gta_core.proofs.AutoLemmas.{automaton_of-kept, IsAuto-kept}
use Rattle.gta_core.proofs.KeptLemmas.{KeepsTable-joins}

-- joins leave the automata as they are
module _ (old new : Contents) (is_shelf : IsShelf old) (keeps : Keeps old new) (tables : SameTables old new) where
  pub automaton-kept : (a : AutoView) → automaton_of new a ≡ automaton_of old a
  automaton-kept a = automaton_of-kept old new a (KeepsTable-joins old new a.table is_shelf keeps tables)

  pub auto-kept : (g : Spaces) (a : AutoView) → IsAuto g old a → IsAuto g new a
  auto-kept g a auto = IsAuto-kept old new a (KeepsTable-joins old new a.table is_shelf keeps tables) g auto

  pub subsets-kept : (a : AutoView) (t : ℕ) (initials : List (List ℕ)) →
      subsets (automaton_of new a) t initials ≡ subsets (automaton_of old a) t initials
  subsets-kept a t initials = ap (λ (A : Automaton ℕ). subsets A t initials) (automaton-kept a)

  pub initial-kept : (g : Spaces) (a : AutoView) (t : ℕ) (initials : List (List ℕ)) → AreInitial g (automaton_of old a) t initials →
      AreInitial g (automaton_of new a) t initials
  initial-kept g a t initials are = subst (λ (A : Automaton ℕ). AreInitial g A t initials) (sym (automaton-kept a)) are

  pub root_at-kept : (a : AutoView) (s l r : ℕ) → root_at new a s l r ≡ root_at old a s l r
  unfolding root_at
  root_at-kept a s l r = ap (λ (roots : Registered). option_and_then (root_under roots.tables a.table) (place_of a s l r)) tables

-- nor do they change the roots of a table
pub IsTableOf-kept : (old new : Contents) → IsShelf new → SameTables old new → (a : AutoView) (table : List NodeRef) →
    IsTableOf old a table → IsTableOf new a table
IsTableOf-kept old new is_shelf tables a table was = record {
  is_shelf = is_shelf;
  are = was.are ∙ ap (λ (roots : Registered). unwrap_or (roots_under roots.tables a.table) []) (sym tables);
}

within-some : {X : Type 0} (xs : List X) (i : ℕ) → IsSome (slice_get xs i) → i < length xs
within-some [] i some = absurd (false≢true some)
within-some (x ∷ xs) zero some = omega arith
within-some (x ∷ xs) (suc i) some = omega (arith, within-some xs i some)

some-first : {X Y : Type 0} (f : X → Option Y) (o : Option X) → IsSome (option_and_then f o) → IsSome o
some-first f None some = some
some-first f (Some x) some = refl

pub Contains-get : {X : Type 0} (xs : List X) (x : X) → Contains xs x → (k : ℕ) × (slice_get xs k ≡ Some x)
Contains-get {X} xs x there = (there.0, slice_get-get_or xs there.0 x there.1 ∙ ap (λ (y : X). let o : Option X = Some y in o) there.2)

-- which rows and columns a part has
module _ (g : Spaces) (guide : IsGuide g) (shelf : Contents) (a : AutoView) (auto : IsAuto g shelf a) (s : ℕ) (inside : IsSpace g s)
    (part : Part) (at : slice_get a.parts s ≡ Some part) where
  some-place : (l r : ℕ) → Below (states_of a) (left g s) l → Below (states_of a) (right g s) r → IsSome (place_in part l r)
  unfolding root_at
  some-place l r in_left in_right =
      let root = (auto.complete s l r).1 (inside, (in_left, in_right)) in
      subst (λ (o : Option Part). IsSome (option_and_then (λ (p : Part). place_in p l r) o)) at
      (some-first (root_of shelf a.table) (place_of a s l r) root)

  pub row-within : (l : ℕ) → Below (states_of a) (left g s) l → l < length part.rows
  unfolding automaton_of
  row-within l in_left =
      within-some part.rows l (some-first _ (slice_get part.rows l)
      (some-place l (initial_of a (right g s)) in_left (auto.closed.initial (right g s) (guide.right_inside s inside))))

  pub column-within : (r : ℕ) → Below (states_of a) (right g s) r → r < length part.columns
  unfolding automaton_of
  column-within r in_right = within-some part.columns r (column (slice_get part.rows (initial_of a (left g s)))
      (some-place (initial_of a (left g s)) r (auto.closed.initial (left g s) (guide.left_inside s inside)) in_right))
    where
      column : (row : Option ℕ) → IsSome (option_and_then (λ (row : ℕ). option_and_then (λ (column : ℕ).
          option_map (λ (cell : ℕ). part.first + cell) (slice_get part.cells (row * part.width + column))) (slice_get part.columns r)) row) →
          IsSome (slice_get part.columns r)
      column None some = absurd (false≢true some)
      column (Some row) some = some-first _ (slice_get part.columns r) some

-- generated sets have states
pub generated-below : (g : Spaces) (shelf : Contents) (a : AutoView) → IsAuto g shelf a → (t : ℕ) (initials : List (List ℕ)) →
    AreInitial g (automaton_of shelf a) t initials → (s : ℕ) (set : List ℕ) → Generated g (subsets (automaton_of shelf a) t initials) s set →
    (q : ℕ) → Contains set q → Below (states_of a) s q
generated-below g shelf a auto t initials are _ _ (starts s inside) q there =
    let states = get-index initials s (omega (arith, are.many)) in
    settled-below g shelf a auto t s q
    (((are.each s states.0 states.1).settled q).0 (subst (λ (o : Option (List ℕ)). Contains (unwrap_or o []) q) states.1 there))
generated-below g shelf a auto t initials are _ _ (steps s x y label inside l r) q there =
    let step = set_step-only (automaton_of shelf a) t s x y label q there in
    subst (Below (states_of a) s) step.is_step
    (auto.closed.step s step.left step.right (with_track label t step.bit) inside
    (generated-below g shelf a auto t initials are (left g s) x l step.left step.in_left)
    (generated-below g shelf a auto t initials are (right g s) y r step.right step.in_right))
