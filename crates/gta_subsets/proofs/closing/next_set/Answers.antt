use Rattle.std.proofs.Common.{◌≡◌, ℕ, List, Option, [], ◌∷◌, ◌++◌, Contains, sym, ◌∙◌, ap, subst}
use Rattle.std.specs.Prelude.{unwrap_or}
use Rattle.bdd_nodes.specs.declared.node_ref.NodeRef.{NodeRef}
use Rattle.bdd_nodes.specs.Shelf.{label_of}
use Rattle.bdd_walk.specs.Asked.{leaves_of}
use Rattle.gta_theory.specs.Guides.{left, right}
use Rattle.gta_core.specs.Auto.{initial_of, root_at, automaton_of}
use Rattle.bdd_walk.specs.Sets.{set_of}
use Rattle.gta_subsets.specs.Roots.{AreRoots}
use Rattle.gta_subsets.specs.Closing.{set_at, IsNext}
use Rattle.gta_subsets.proofs.ClosingLemmas.{settled-known, IsNext-made}
use Rattle.gta_subsets.proofs.closing.next_set.Goals as goal

pub roots_for-requires-clause-known : goal.roots_for-requires-clause-known
roots_for-requires-clause-known c = λ l r in_l in_r.
    let g = c.args.g.now in
    let s = c.args.space in
    let child = c.unwrap_or-children.ensures ∙ ap (λ (o : Option (ℕ × ℕ)). unwrap_or o (0, 0)) c.children.ensures.value in
    settled-known g c.args.shelf.now c.args.a.now c.requires.auto c.args.track s c.requires.inside c.args.sets.now c.requires.settled l r
    (subst (λ (p : ℕ × ℕ). Contains (set_at c.args.sets.now p.0) l) child (subst (λ (xs : List ℕ). Contains xs l) c.set_in-lefts.ensures in_l))
    (subst (λ (p : ℕ × ℕ). Contains (set_at c.args.sets.now p.1) r) child (subst (λ (xs : List ℕ). Contains xs r) c.set_in-rights.ensures in_r))

pub returns : goal.returns
returns c =
    let g = c.args.g.now in
    let s = c.args.space in
    let shelf = c.args.shelf.now in
    let a = c.args.a.now in
    let sets = c.args.sets.now in
    let roots = c.in_ok-roots.roots.items in
    let child = c.unwrap_or-children.ensures ∙ ap (λ (o : Option (ℕ × ℕ)). unwrap_or o (0, 0)) c.children.ensures.value in
    let is_left : c.set_in-lefts.result.now ≡ set_at sets (left g s) = c.set_in-lefts.ensures ∙ ap (λ (p : ℕ × ℕ). set_at sets p.0) child in
    let is_right : c.set_in-rights.result.now ≡ set_at sets (right g s) = c.set_in-rights.ensures ∙ ap (λ (p : ℕ × ℕ). set_at sets p.1) child in
    let are = subst (λ (rs : List ℕ). AreRoots (root_at shelf a s) (set_at sets (left g s)) rs roots) is_right
    (subst (λ (ls : List ℕ). AreRoots (root_at shelf a s) ls c.set_in-rights.result.now roots) is_left c.in_ok-roots.ensures.roots) in
    let made = c.push_states-3.new.states in
    let all : made ≡ ((initial_of a s ∷ []) ++ leaves_of shelf roots (label_of [])) ++ leaves_of shelf roots (label_of (c.args.track ∷ [])) =
    c.in_ok-push_states-2.ensures
    ∙ ap (λ (rs : List NodeRef). c.push_states-2.new.states ++ leaves_of shelf rs (label_of c.in_ok-set_track.set_track)) c.as_slice-2.ensures.value
    ∙ ap (λ (ts : List ℕ). c.push_states-2.new.states ++ leaves_of shelf roots (label_of ts)) c.in_ok-set_track.ensures
    ∙ ap (λ (xs : List ℕ). xs ++ leaves_of shelf roots (label_of (c.args.track ∷ []))) (c.in_ok-push_states.ensures
    ∙ ap (λ (rs : List NodeRef). c.push.new.self ++ leaves_of shelf rs (label_of c.new.result)) c.as_slice.ensures.value
    ∙ ap (λ (ts : List ℕ). c.push.new.self ++ leaves_of shelf roots (label_of ts)) c.new.ensures
    ∙ ap (λ (xs : List ℕ). xs ++ leaves_of shelf roots (label_of [])) (c.in_ok-push.ensures.ok
    ∙ ap (λ (xs : List ℕ). xs ++ c.initial.result ∷ []) c.new-states.ensures
    ∙ ap (λ (n : ℕ). n ∷ []) c.initial.ensures)) in
    subst (IsNext g (automaton_of shelf a) c.args.track sets s)
    (sym (c.from_vec.ensures ∙ c.in_ok-set.ensures ∙ ap set_of c.as_slice-3.ensures))
    (IsNext-made g shelf a c.args.track sets s roots are
    (settled-known g shelf a c.requires.auto c.args.track s c.requires.inside sets c.requires.settled) made all)
