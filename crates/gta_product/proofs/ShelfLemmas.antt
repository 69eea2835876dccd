-- Automata over joins of their shelf, and what their parts have.
use Rattle.std.proofs.Common.{◌≡◌, ℕ, zero, suc, ◌+◌, ◌*◌, ◌<◌, List, [], ◌∷◌, length, Option, Some, None, Contains, slice_get, refl, ◌∙◌, ap, subst, arith}
use Rattle.std.specs.Prelude.{IsSome, option_map, option_and_then}
use Rattle.std.proofs.lemmas.Bool.{false≢true}
use Rattle.std.proofs.lemmas.Option.{slice_get-get_or}
use Rattle.bdd_nodes.specs.Roots.{Registered, root_under}
use Rattle.bdd_nodes.specs.Shelf.{Contents, IsShelf, root_of}
use Rattle.bdd_nodes.specs.Changes.{Keeps, SameTables}
use Rattle.gta_theory.specs.Guides.{Spaces, IsGuide, IsSpace, left, right}
use Rattle.gta_theory.specs.Automata.{Automaton}
use Rattle.gta_theory.specs.Constructions.{pairs}
use Rattle.gta_theory.specs.Generated.{Generated, starts, steps}
use Rattle.gta_theory.specs.Numbered.{Below}
use Rattle.gta_core.specs.declared.part.Part.{Part}
use Rattle.gta_core.specs.Auto.{AutoView, states_of, initial_of, place_in, place_of, root_at, automaton_of, IsAuto}
use Rattle.gta_core.proofs.AutoLemmas.{automaton_of-kept, IsAuto-kept}
use Rattle.gta_core.proofs.KeptLemmas.{KeepsTable-joins}

-- joins leave the automata as they are
module _ (old new : Contents) (is_shelf : IsShelf old) (keeps : Keeps old new) (tables : SameTables old new) where
  pub automaton-kept : (a : AutoView) → automaton_of new a ≡ automaton_of old a
  automaton-kept a = automaton_of-kept old new a (KeepsTable-joins old new a.table is_shelf keeps tables)

  pub auto-kept : (g : Spaces) (a : AutoView) → IsAuto g old a → IsAuto g new a
  auto-kept g a auto = IsAuto-kept old new a (KeepsTable-joins old new a.table is_shelf keeps tables) g auto

  pub both-kept : (a b : AutoView) → pairs (automaton_of new a) (automaton_of new b) ≡ pairs (automaton_of old a) (automaton_of old b)
  both-kept a b =
      ap (λ (A : Automaton ℕ). pairs A (automaton_of new b)) (automaton-kept a)
      ∙ ap (λ (B : Automaton ℕ). pairs (automaton_of old a) B) (automaton-kept b)

  pub root_at-kept : (a : AutoView) (s l r : ℕ) → root_at new a s l r ≡ root_at old a s l r
  unfolding root_at
  root_at-kept a s l r = ap (λ (roots : Registered). option_and_then (root_under roots.tables a.table) (place_of a s l r)) tables

pub within-some : {X : Type 0} (xs : List X) (i : ℕ) → IsSome (slice_get xs i) → i < length xs
within-some [] i some = absurd (false≢true some)
within-some (x ∷ xs) zero some = omega arith
within-some (x ∷ xs) (suc i) some = omega (arith, within-some xs i some)

pub some-first : {X Y : Type 0} (f : X → Option Y) (o : Option X) → IsSome (option_and_then f o) → IsSome o
some-first f None some = some
some-first f (Some x) some = refl

pub Contains-get : {X : Type 0} (xs : List X) (x : X) → Contains xs x → (k : ℕ) × (slice_get xs k ≡ Some x)
Contains-get {X} xs x there = (there.0, slice_get-get_or xs there.0 x there.1 ∙ ap (λ (y : X). let o : Option X = Some y in o) there.2)

-- which rows and columns a part has
module _ (g : Spaces) (guide : IsGuide g) (shelf : Contents) (a : AutoView) (auto : IsAuto g shelf a) (s : ℕ) (inside : IsSpace g s)
    (part : Part) (at : slice_get a.parts s ≡ Some part) where
  some-place : (l r : ℕ) → Below (states_of a) (left g s) l → Below (states_of a) (right g s) r → IsSome (place_in part l r)
  unfolding root_at
  some-place l r in_left in_right =
      let root = (auto.complete s l r).1 (inside, (in_left, in_right)) in
      subst (λ (o : Option Part). IsSome (option_and_then (λ (p : Part). place_in p l r) o)) at
      (some-first (root_of shelf a.table) (place_of a s l r) root)

  pub row-within : (l : ℕ) → Below (states_of a) (left g s) l → l < length part.rows
  unfolding automaton_of
  row-within l in_left =
      within-some part.rows l (some-first _ (slice_get part.rows l)
      (some-place l (initial_of a (right g s)) in_left (auto.closed.initial (right g s) (guide.right_inside s inside))))

  pub column-within : (r : ℕ) → Below (states_of a) (right g s) r → r < length part.columns
  unfolding automaton_of
  column-within r in_right = within-some part.columns r (column (slice_get part.rows (initial_of a (left g s)))
      (some-place (initial_of a (left g s)) r (auto.closed.initial (left g s) (guide.left_inside s inside)) in_right))
    where
      column : (row : Option ℕ) → IsSome (option_and_then (λ (row : ℕ). option_and_then (λ (column : ℕ).
          option_map (λ (cell : ℕ). part.first + cell) (slice_get part.cells (row * part.width + column))) (slice_get part.columns r)) row) →
          IsSome (slice_get part.columns r)
      column None some = absurd (false≢true some)
      column (Some row) some = some-first _ (slice_get part.columns r) some

-- generated pairs have states of both
pub record AreBelow (a b : AutoView) (s : ℕ) (p : ℕ × ℕ) : Type 0 where
  pub first : Below (states_of a) s p.0
  pub second : Below (states_of b) s p.1

module _ (g : Spaces) (shelf : Contents) (a b : AutoView) (auto_a : IsAuto g shelf a) (auto_b : IsAuto g shelf b) where
  pub generated-below : (s : ℕ) (p : ℕ × ℕ) → Generated g (pairs (automaton_of shelf a) (automaton_of shelf b)) s p → AreBelow a b s p
  generated-below _ _ (starts s inside) = record { first = auto_a.closed.initial s inside; second = auto_b.closed.initial s inside }
  generated-below _ _ (steps s p q label inside l r) =
      let x = generated-below (left g s) p l in
      let y = generated-below (right g s) q r in
      record {
        first = auto_a.closed.step s p.0 q.0 label inside x.first y.first;
        second = auto_b.closed.step s p.1 q.1 label inside x.second y.second;
      }
