-- An automaton whose parts are placed is the given one.
use Rattle.std.proofs.Common.{◌≡◌, ℕ, zero, suc, ◌+◌, ◌*◌, ◌^◌, ◌<◌, ◌≤◌, Bool, false, List, [], ◌∷◌, length, get_or}
use Rattle.std.proofs.Common.{Option, Some, None, refl, sym, ◌∙◌, ap, subst, arith}
use Rattle.std.specs.Prelude.{All, IsSome, is_some, unwrap_or, slice_get, option_map, option_and_then}
use mathlib.Core.Path.{fun_ext}
use Rattle.std.proofs.lemmas.Bool.{false≢true, lt-ltb, ltb-true}
use Rattle.std.proofs.lemmas.Nat.{mul-add-lt}
use Rattle.std.proofs.lemmas.Option.{slice_get-map, slice_get-get_or, slice_get_past, get_or_from_slice_get}
use Rattle.std.proofs.Math.Nat.{mul_comm}
use Rattle.bdd_nodes.specs.declared.node_ref.NodeRef.{NodeRef}
use Rattle.bdd_nodes.specs.Shelf.{Contents, IsValid, state_of, root_of}
use Rattle.bdd_nodes.specs.Changes.{AddsTable}
use Rattle.bdd_nodes.proofs.TablesLemmas.{All-root}
use Rattle.gta_theory.specs.Guides.{Spaces, IsGuide, IsSpace, left, right}
use Rattle.gta_theory.specs.Automata.{Automaton, IsStable}
use Rattle.gta_theory.specs.Constructions.{IsClosed}
use Rattle.gta_theory.specs.Numbered.{Below}
use Rattle.gta_theory.specs.Sizes.{IsChildPair}
use Rattle.gta_core.specs.declared.part.Part.{Part}
use Rattle.gta_core.specs.declared.build.SpacePart.{SpacePart}
use Rattle.gta_core.specs.Auto.{AutoView, states_of, initial_of, guide_of, place_in, root_at, automaton_of, IsUsed, IsAuto, IsWhole}
use Rattle.gta_core.specs.Given.{given_states, given_initial, given_root, given_automaton, IsGiven}
use Rattle.gta_core.specs.Placing.{HasGiven, ArePlaced}
use Rattle.gta_core.proofs.AutoLemmas.{past-none, functions-same}
use Rattle.gta_core.proofs.PlacingLemmas.{given_root-known, given_root-unknown, given_root-IsKnown}

-- lists with the same elements are the same
ext : {X : Type 0} (xs ys : List X) → ((i : ℕ) → slice_get xs i ≡ slice_get ys i) → xs ≡ ys
ext [] [] same = refl
ext [] (y ∷ ys) same = let e = same 0 in absurd cc
ext (x ∷ xs) [] same = let e = same 0 in absurd cc
ext {X} (x ∷ xs) (y ∷ ys) same =
    let e : ◌≡◌ {A = Option X} (Some x) (Some y) = same 0 in
    let first : x ≡ y = cc in
    ap (λ (z : X). z ∷ xs) first ∙ ap (λ (zs : List X). y ∷ zs) (ext xs ys (λ i. same (suc i)))

within-some : {X : Type 0} (xs : List X) (i : ℕ) → IsSome (slice_get xs i) → i < length xs
within-some [] i some = absurd (false≢true some)
within-some (x ∷ xs) zero some = omega arith
within-some (x ∷ xs) (suc i) some = omega (arith, within-some xs i some)

some-within : {X : Type 0} (xs : List X) (i : ℕ) → i < length xs → IsSome (slice_get xs i)
some-within [] i inside = absurd (omega arith)
some-within (x ∷ xs) zero inside = refl
some-within (x ∷ xs) (suc i) inside = some-within xs i (omega arith)

some-first : {X Y : Type 0} (f : X → Option Y) (o : Option X) → IsSome (option_and_then f o) → IsSome o
some-first f None some = some
some-first f (Some x) some = refl

-- the roots that are placed are valid
module _ (g : Spaces) (shelf : Contents) (spaces : List SpacePart) (accepting : List Bool) (given : IsGiven g shelf spaces accepting) where
  valid-found : (o : Option SpacePart) (s i : ℕ) (root : NodeRef) → slice_get spaces s ≡ o →
      option_and_then (λ (part : SpacePart). slice_get part.roots i) o ≡ Some root → IsValid shelf root
  valid-found None s i root at found = absurd cc
  valid-found (Some part) s i root at found = All-root (IsValid shelf) part.roots i root (given.valid s part at) found

  valid-given : (s l r : ℕ) (root : NodeRef) → given_root g spaces s l r ≡ Some root → IsValid shelf root
  valid-given s l r root is =
      let known = given_root-IsKnown g spaces s l r (ap (λ (o : Option NodeRef). is_some o) is) in
      valid-found (slice_get spaces s) s (l * given_states spaces (right g s) + r) root refl
      (sym (given_root-known g spaces s l r known.left_in known.right_in) ∙ is)

  valid-root : (roots : List NodeRef) (place s l r : ℕ) (o : Option ℕ) → HasGiven roots o (given_root g spaces s l r) → o ≡ Some place → (d : NodeRef) →
      IsValid shelf (get_or roots place d)
  valid-root roots place s l r o has is d =
      let at = subst (λ (p : Option ℕ). HasGiven roots p (given_root g spaces s l r)) is has in
      pick (given_root g spaces s l r) refl at.0 at.1
    where
      pick : (root : Option NodeRef) → given_root g spaces s l r ≡ root → IsSome root → slice_get roots place ≡ root → IsValid shelf (get_or roots place d)
      pick None e some at = absurd (false≢true some)
      pick (Some root) e some at = subst (IsValid shelf) (sym (get_or_from_slice_get roots place root d at)) (valid-given s l r root e)

  pub All-placed : (parts : List Part) (roots : List NodeRef) → ArePlaced g spaces parts roots → All (IsValid shelf) roots
  All-placed parts roots placed place d inside =
      let u = placed.used place inside in
      valid-root roots place u.0 u.3.left u.3.right (place_in u.1 u.3.left u.3.right) ((placed.each u.0 u.1 u.2).root u.3.left u.3.right) u.3.there d

module _ (g : Spaces) (old new : Contents) (spaces : List SpacePart) (accepting : List Bool) (a : AutoView) (roots : List NodeRef)
    (given : IsGiven g old spaces accepting) (adds : AddsTable old new a.table roots) (many : length a.parts ≡ length g)
    (placed : ArePlaced g spaces a.parts roots) (same_accepting : a.accepting ≡ accepting) where
  unknown : (s : ℕ) → slice_get a.parts s ≡ None → slice_get spaces s ≡ None
  unknown s none = slice_get_past spaces s (omega (arith, past-none a.parts s none, many, given.each_space))

  pub states-given : (s : ℕ) → states_of a s ≡ given_states spaces s
  states-given s = pick (slice_get a.parts s) refl
    where
      pick : (o : Option Part) → slice_get a.parts s ≡ o → unwrap_or (option_map (λ part. part.states) o) 0 ≡ given_states spaces s
      pick None at = ap (λ (o : Option SpacePart). unwrap_or (option_map (λ part. part.states) o) 0) (sym (unknown s at))
      pick (Some part) at = ap (λ (o : Option ℕ). unwrap_or o 0) (sym (placed.each s part at).states)

  initial-given : (s : ℕ) → initial_of a s ≡ given_initial spaces s
  initial-given s = pick (slice_get a.parts s) refl
    where
      pick : (o : Option Part) → slice_get a.parts s ≡ o → unwrap_or (option_map (λ part. part.initial) o) 0 ≡ given_initial spaces s
      pick None at = ap (λ (o : Option SpacePart). unwrap_or (option_map (λ part. part.initial) o) 0) (sym (unknown s at))
      pick (Some part) at = ap (λ (o : Option ℕ). unwrap_or o 0) (sym (placed.each s part at).initial)

  over-given : guide_of a ≡ g
  over-given = ext (guide_of a) g (λ s. slice_get-map (λ part. part.children) a.parts s ∙ pick s (slice_get a.parts s) refl)
    where
      pick : (s : ℕ) (o : Option Part) → slice_get a.parts s ≡ o → option_map (λ part. part.children) o ≡ slice_get g s
      pick s None at = sym (slice_get_past g s (omega (arith, past-none a.parts s at, many)))
      pick s (Some part) at = sym (placed.each s part at).children

  root_of-placed : (place : ℕ) → root_of new a.table place ≡ slice_get roots place
  root_of-placed place = ap (λ (o : Option (List NodeRef)). option_and_then (λ (rs : List NodeRef). slice_get rs place) o) adds.roots

  root_at-given : (s l r : ℕ) → root_at new a s l r ≡ given_root g spaces s l r
  unfolding root_at
  root_at-given s l r = pick (slice_get a.parts s) refl
    where
      at_place : (place : Option ℕ) (root : Option NodeRef) → HasGiven roots place root → option_and_then (root_of new a.table) place ≡ root
      at_place None root has = sym has
      at_place (Some place) root has = root_of-placed place ∙ has.1

      pick : (o : Option Part) → slice_get a.parts s ≡ o →
          option_and_then (root_of new a.table) (option_and_then (λ part. place_in part l r) o) ≡ given_root g spaces s l r
      pick None at = sym (given_root-unknown g spaces s l r (unknown s at))
      pick (Some part) at = at_place (place_in part l r) (given_root g spaces s l r) ((placed.each s part at).root l r)

  pub automaton_of-given : automaton_of new a ≡ given_automaton g old spaces accepting
  unfolding automaton_of given_automaton
  automaton_of-given = λ i. record {
    initial = fun_ext initial-given i;
    step = λ s l r. unwrap_or (step-given s l r i) (λ label. 0);
    accepting = λ q. unwrap_or (slice_get (same_accepting i) q) false;
  }
    where
      step-given : (s l r : ℕ) → option_map (state_of new) (root_at new a s l r) ≡ option_map (state_of old) (given_root g spaces s l r)
      step-given s l r =
          functions-same old new adds.nodes (root_at new a s l r) ∙ ap (λ (o : Option NodeRef). option_map (state_of old) o) (root_at-given s l r)

  below : (s l : ℕ) → l < given_states spaces s → Below (states_of a) s l
  below s l inside = lt-ltb l (states_of a s) (omega (arith, states-given s))

  pair-known : (s l r : ℕ) → IsSome (root_at new a s l r) → IsSpace g s × IsChildPair g (Below (states_of a)) s (l, r)
  pair-known s l r some =
      let known = given_root-IsKnown g spaces s l r (subst (λ (o : Option NodeRef). IsSome o) (root_at-given s l r) some) in (
        omega (arith, within-some spaces s (some-first _ (slice_get spaces s) known.some), given.each_space),
        (below (left g s) l known.left_in, below (right g s) r known.right_in),
      )

  pair-given : (s l r : ℕ) → IsSpace g s → l < given_states spaces (left g s) → r < given_states spaces (right g s) → IsSome (root_at new a s l r)
  pair-given s l r there l_in r_in =
      let nothing : SpacePart = record { states = 0; initial = 0; roots = [] } in
      let part = get_or spaces s nothing in
      let at : slice_get spaces s ≡ Some part = slice_get-get_or spaces s nothing (omega (arith, given.each_space)) in
      let L = given_states spaces (left g s) in
      let R = given_states spaces (right g s) in
      let inside : l * R + r < length part.roots = omega (arith, mul-add-lt l R r L l_in r_in, mul_comm L R, given.complete s part at) in
      subst (λ (o : Option NodeRef). IsSome o) (sym (root_at-given s l r ∙ given_root-known g spaces s l r l_in r_in
      ∙ ap (λ (o : Option SpacePart). option_and_then (λ (p : SpacePart). slice_get p.roots (l * R + r)) o) at)) (some-within part.roots (l * R + r) inside)

  used-given : (place : ℕ) → IsSome (root_of new a.table place) → IsUsed a place
  used-given place some =
      let u = placed.used place (within-some roots place (subst (λ (o : Option NodeRef). IsSome o) (root_of-placed place) some)) in
      record {
        space = u.0;
        left = u.3.left;
        right = u.3.right;
        there = ap (λ (o : Option Part). option_and_then (λ (part : Part). place_in part u.3.left u.3.right) o) u.2 ∙ u.3.there;
      }

  pub IsAuto-given : IsAuto g new a
  IsAuto-given = record {
    over = over-given;
    registered = ap (λ (o : Option (List NodeRef)). is_some o) adds.roots;
    complete = λ s l r. (
      pair-known s l r,
      λ pair. pair-given s l r pair.0
          (omega (arith, ltb-true l (states_of a (left g s)) pair.1.0, states-given (left g s)))
          (omega (arith, ltb-true r (states_of a (right g s)) pair.1.1, states-given (right g s))),
    );
    used = used-given;
    closed = subst (λ (A : Automaton ℕ). IsClosed g A (Below (states_of a))) (sym automaton_of-given)
        (subst (λ (count : ℕ → ℕ). IsClosed g (given_automaton g old spaces accepting) (Below count)) (sym (fun_ext states-given)) given.closed);
    stable = subst (λ (A : Automaton ℕ). IsStable g A) (sym automaton_of-given) given.stable;
  }

  -- and what it keeps in every shelf
  pub IsWhole-given : IsGuide g → IsWhole a
  IsWhole-given guide = record {
    guide = subst IsGuide (sym over-given) guide;
    few = λ s. pick s (slice_get a.parts s) refl;
    accepting = ap (λ (bs : List Bool). length bs) same_accepting ∙ given.each_state ∙ sym (states-given 0);
  }
    where
      pick : (s : ℕ) (o : Option Part) → slice_get a.parts s ≡ o → unwrap_or (option_map (λ part. part.states) o) 0 ≤ 2 ^ 31
      pick s None at = omega arith
      pick s (Some part) at = (placed.each s part at).few
