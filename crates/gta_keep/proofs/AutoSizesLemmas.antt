-- The steps of an automaton of a shelf look at finitely many tracks, so it has a Size.
use Rattle.std.proofs.Common.{◌≡◌, ℕ, zero, suc, ◌^◌, ◌≤◌, Bool, true, false, nat_lt, List, [], ◌∷◌, Option, Some, None, max, slice_get}
use Rattle.std.proofs.Common.{if◌then◌else◌, refl, sym, ◌∙◌, ap, subst, arith}
use Rattle.std.specs.Prelude.{option_and_then}
use Rattle.labels.specs.Labels.{Label, Function}
use Rattle.bdd_nodes.specs.declared.node_ref.NodeRef.{NodeRef}
use Rattle.bdd_nodes.specs.Nodes.{node_of, state_named}
use Rattle.bdd_nodes.specs.Shelf.{Contents, IsShelf, IsValid, Splits, state_of, top_of, low_of, high_of, rank_of, roots_of, root_of}
use Rattle.bdd_nodes.proofs.NodesLemmas.{if_same}
use Rattle.bdd_nodes.proofs.SplitLemmas.{Cases, is_leaf, splits, cases_of}
use Rattle.gta_theory.specs.Guides.{Spaces}
use Rattle.gta_theory.specs.Numbered.{Below}
use Rattle.gta_theory.specs.Sizes.{SizeOf, AreSameBelow, LooksBelow}
use Rattle.gta_theory.proofs.SizesExistLemmas.{SizeOf-counted}
use Rattle.gta_core.specs.Auto.{AutoView, states_of, place_of, root_at, automaton_of}
use Rattle.gta_core.proofs.AutoLemmas.{step-some, step-none}
use Rattle.gta_keep.specs.Holding.{HaveSizes}

-- the function looks at the tracks below k alone
record Looks (k : ℕ) (f : Function) : Type 0 where
  same : (l m : Label) → AreSameBelow k l m → f l ≡ f m

Looks-more : (k n : ℕ) (f : Function) → k ≤ n → Looks k f → Looks n f
Looks-more k n f le looks = record { same = λ l m agree. looks.same l m (λ t lt. agree t (omega arith)) }

module _ (shelf : Contents) (shelf_is : IsShelf shelf) where
  leaf-constant : (r : NodeRef) → top_of shelf r ≡ None → (l m : Label) → state_of shelf r l ≡ state_of shelf r m
  unfolding node_of state_named
  leaf-constant r top l m = (elim (nat_lt r.word (2 ^ 31)) as (λ y. nat_lt r.word (2 ^ 31) ≡ y → state_of shelf r l ≡ state_of shelf r m) [
    | true ↦ λ small. rw small refl
    | false ↦ λ large. absurd (let asked = rw large at top in cc)
  ]) refl

  Looks-split : (r : NodeRef) (track : ℕ) → Splits shelf r track → (low high : ℕ) → Looks low (state_of shelf (low_of shelf r)) →
      Looks high (state_of shelf (high_of shelf r)) → Looks (max (suc track) (max low high)) (state_of shelf r)
  Looks-split r track split low high looks_low looks_high = record {
    same = λ l m agree.
        split.states l
        ∙ ap (λ (b : Bool). if b then state_of shelf (high_of shelf r) l else state_of shelf (low_of shelf r) l) (agree track (omega arith))
        ∙ if_same (m track) _ _ _ _
        (looks_high.same l m (λ t lt. agree t (omega arith)))
        (looks_low.same l m (λ t lt. agree t (omega arith)))
        ∙ sym (split.states m);
  }

  Looks-cases : (n : ℕ) (r : NodeRef) → rank_of r ≤ n → Cases shelf r → (k : ℕ) × Looks k (state_of shelf r)
  Looks-cases n r below (is_leaf top others asks) = (0, record { same = λ l m agree. leaf-constant r top l m })
  Looks-cases zero r below (splits track top split lower upper) =
      absurd (let falls = split.low_falls in let none : ⊥ = omega arith in none)
  Looks-cases (suc n) r below (splits track top split lower upper) =
      let low = Looks-cases n (low_of shelf r) (let falls = split.low_falls in omega arith) (cases_of shelf (low_of shelf r) shelf_is (split.low).valid) in
      let high = Looks-cases n (high_of shelf r) (let falls = split.high_falls in omega arith) (cases_of shelf (high_of shelf r) shelf_is (split.high).valid) in
      (max (suc track) (max low.0 high.0), Looks-split r track split low.0 high.0 low.1 high.1)

  Looks-valid : (r : NodeRef) → IsValid shelf r → (k : ℕ) × Looks k (state_of shelf r)
  Looks-valid r valid = Looks-cases (rank_of r) r (omega arith) (cases_of shelf r shelf_is valid)

  -- all roots of a table together
  abbrev LooksAll : ℕ → List NodeRef → Type 0
  LooksAll k roots = (i : ℕ) (root : NodeRef) → slice_get roots i ≡ Some root → Looks k (state_of shelf root)

  Looks-cons : (r : NodeRef) (roots : List NodeRef) → ((k : ℕ) × Looks k (state_of shelf r)) → ((k : ℕ) × LooksAll k roots) →
      (k : ℕ) × LooksAll k (r ∷ roots)
  Looks-cons r roots first rest = (max first.0 rest.0, all) where
    all : LooksAll (max first.0 rest.0) (r ∷ roots)
    all zero root at =
        (let same : r ≡ root = cc in
        subst (λ (x : NodeRef). Looks (max first.0 rest.0) (state_of shelf x)) same
        (Looks-more first.0 (max first.0 rest.0) (state_of shelf r) (omega arith) first.1))
    all (suc i) root at = Looks-more rest.0 (max first.0 rest.0) (state_of shelf root) (omega arith) (rest.1 i root at)

  Looks-roots : (roots : List NodeRef) → ((i : ℕ) (root : NodeRef) → slice_get roots i ≡ Some root → IsValid shelf root) →
      (k : ℕ) × LooksAll k roots
  Looks-roots [] valid = (0, none) where
    none : LooksAll 0 []
    none zero root at = absurd cc
    none (suc i) root at = absurd cc
  Looks-roots (r ∷ roots) valid =
      Looks-cons r roots (Looks-valid r (valid 0 r refl)) (Looks-roots roots (λ i root at. valid (suc i) root at))

  abbrev LooksTable : ℕ → Option (List NodeRef) → Type 0
  LooksTable k table = (place : ℕ) (root : NodeRef) →
      option_and_then (λ (rs : List NodeRef). slice_get rs place) table ≡ Some root → Looks k (state_of shelf root)

  Looks-table : (number : ℕ) (table : Option (List NodeRef)) → roots_of shelf number ≡ table → (k : ℕ) × LooksTable k table
  Looks-table number None is = (0, λ place root at. absurd cc)
  Looks-table number (Some roots) is =
      Looks-roots roots (λ i root at. shelf_is.roots number i root
      (ap (λ (o : Option (List NodeRef)). option_and_then (λ (rs : List NodeRef). slice_get rs i) o) is ∙ at))

module _ (g : Spaces) (shelf : Contents) (is_shelf : IsShelf shelf) (a : AutoView) where
  table-looks : (k : ℕ) × LooksTable shelf is_shelf k (roots_of shelf a.table)
  table-looks = Looks-table shelf is_shelf a.table (roots_of shelf a.table) refl

  -- a number above all tracks that its steps look at
  pub above_tracks : ℕ
  above_tracks = table-looks.0

  root-looks : (place : Option ℕ) (root : NodeRef) → option_and_then (root_of shelf a.table) place ≡ Some root →
      Looks above_tracks (state_of shelf root)
  unfolding above_tracks
  root-looks None root at = absurd cc
  root-looks (Some place) root at = table-looks.1 place root at

  root-at-looks : (s p q : ℕ) (root : NodeRef) → root_at shelf a s p q ≡ Some root → Looks above_tracks (state_of shelf root)
  unfolding root_at
  root-at-looks s p q root at = root-looks (place_of a s p q) root at

  step-looks : (s p q : ℕ) (l m : Label) → AreSameBelow above_tracks l m →
      (automaton_of shelf a).step s p q l ≡ (automaton_of shelf a).step s p q m
  step-looks s p q l m agree = pick (root_at shelf a s p q) refl
    where
      pick : (o : Option NodeRef) → root_at shelf a s p q ≡ o → (automaton_of shelf a).step s p q l ≡ (automaton_of shelf a).step s p q m
      pick None at = sym (step-none shelf a s p q l at) ∙ step-none shelf a s p q m at
      pick (Some root) at =
          sym (step-some shelf a s p q l root at) ∙ (root-at-looks s p q root at).same l m agree ∙ step-some shelf a s p q m root at

  pub LooksBelow-auto : LooksBelow g (automaton_of shelf a) (Below (states_of a)) above_tracks
  LooksBelow-auto = record { step = λ s p q l m inside has_p has_q agree. step-looks s p q l m agree }

  pub SizeOf-auto : (n : ℕ) × SizeOf g (automaton_of shelf a) (Below (states_of a)) n
  SizeOf-auto = SizeOf-counted g (automaton_of shelf a) (states_of a) above_tracks LooksBelow-auto

-- every automaton of a shelf has a Size
pub HaveSizes-shelf : (g : Spaces) (shelf : Contents) → IsShelf shelf → HaveSizes g shelf
HaveSizes-shelf g shelf is_shelf a auto = SizeOf-auto g shelf is_shelf a
