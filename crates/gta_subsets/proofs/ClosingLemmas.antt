-- Initial sets: what they have is settled, and when none grows they have all that is.
use Rattle.std.proofs.Common.{◌≡◌, ℕ, zero, suc, ◌<◌, Bool, true, false, ◌||◌, if◌then◌else◌}
use Rattle.std.proofs.Common.{List, [], ◌∷◌, ◌++◌, length, Option, Some, None, IsSome, Contains, slice_get, nat_eq}
use Rattle.std.proofs.Common.{refl, sym, ◌∙◌, ap, subst, inl, inr, arith, ◌⊎◌}
use Rattle.std.specs.Prelude.{unwrap_or, ◌==◌}
use Rattle.std.proofs.Math.Path.{fun_ext}
use Rattle.std.proofs.lemmas.Bool.{eqb-true, eq-eqb, false≢true}
use Rattle.std.proofs.lemmas.Option.{slice_get_within}
use Rattle.std.proofs.lemmas.List.Elements.{Contains-append_right}
use Rattle.labels.specs.Labels.{Label, empty_label, with_track}
use Rattle.labels.proofs.LabelsLemmas.{with_track-at_most, HasAtMost-with_track}
use Rattle.bdd_nodes.specs.declared.node_ref.NodeRef.{NodeRef}
use Rattle.bdd_nodes.specs.Shelf.{Contents, label_of}
use Rattle.bdd_walk.specs.Asked.{leaves_of, asked_of}
use Rattle.gta_theory.specs.Guides.{Spaces, IsGuide, IsSpace, left, right}
use Rattle.gta_theory.specs.Automata.{Automaton}
use Rattle.gta_theory.specs.Constructions.{Settled, starts, steps, IsStepOf}
use Rattle.gta_theory.specs.Numbered.{Below}
use Rattle.gta_theory.proofs.ListsLemmas.{Contains-first, Contains-cases, Contains-none}
use Rattle.gta_core.specs.Auto.{AutoView, states_of, initial_of, root_at, automaton_of, IsAuto}
use Rattle.bdd_walk.specs.Sets.{set_of}
use Rattle.gta_subsets.specs.Subsets.{AreInitial}
use Rattle.gta_subsets.specs.Roots.{AreRoots}
use Rattle.gta_subsets.specs.Closing.{set_at, IsNext, AreNext, AreSettled}
use Rattle.bdd_walk.proofs.SetsLemmas.{set_of-has, set_of-only, set_of-twice}
use Rattle.gta_subsets.proofs.SubsetsLemmas.{asked-has, asked-only}

pub get-index : {X : Type 0} (xs : List X) (k : ℕ) → k < length xs → (x : X) × (slice_get xs k ≡ Some x)
get-index [] k within = absurd (omega arith)
get-index (x ∷ xs) zero within = (x, refl)
get-index (x ∷ xs) (suc k) within = get-index xs k (omega arith)

-- the two labels with at most the track
pub label-none : (t : ℕ) → with_track empty_label t false ≡ empty_label
label-none t = with_track-at_most t empty_label (λ u other. refl)

pub label-one : (t : ℕ) → label_of (t ∷ []) ≡ with_track empty_label t true
label-one t = fun_ext (λ (u : ℕ). pick u (nat_eq t u) refl)
  where
    pick : (u : ℕ) (b : Bool) → nat_eq t u ≡ b → (nat_eq t u || false) ≡ (if u == t then true else false)
    pick u true is = ap (λ (c : Bool). c || false) is ∙ sym (ap (λ (c : Bool). if c then true else false) (eq-eqb u t (sym (eqb-true t u is))))
    pick u false is = ap (λ (c : Bool). c || false) is ∙ sym (other (nat_eq u t) refl)
      where
        other : (c : Bool) → nat_eq u t ≡ c → (if nat_eq u t then true else false) ≡ false
        other false unequal = ap (λ (d : Bool). if d then true else false) unequal
        other true equal = absurd (false≢true (sym is ∙ eq-eqb t u (sym (eqb-true u t equal))))

module _ (g : Spaces) (A : Automaton ℕ) (t : ℕ) where
  pub AreSettled-none : AreSettled g A t []
  AreSettled-none = record { each = λ s states is q there. absurd (let e : ◌≡◌ {A = Option (List ℕ)} None (Some states) = is in cc) }

  pub settled-at : (sets : List (List ℕ)) → AreSettled g A t sets → (s q : ℕ) → Contains (set_at sets s) q → Settled g A t s q
  settled-at sets are s q there = pick (slice_get sets s) refl there
    where
      pick : (o : Option (List ℕ)) → slice_get sets s ≡ o → Contains (unwrap_or o []) q → Settled g A t s q
      pick None is there = absurd (Contains-none q there)
      pick (Some states) is there = are.each s states is q there

  pub AreSettled-next : (before after : List (List ℕ)) → AreSettled g A t before → AreNext g A t before after → AreSettled g A t after
  AreSettled-next before after are next = record {
    each = λ s states is q there.
        let inside : IsSpace g s = omega (arith, next.many, slice_get_within after s states is) in
        elim (((next.each s states is).members q).0 there) [
          | inl same ↦ subst (Settled g A t s) same (starts s inside)
          | inr step ↦ subst (Settled g A t s) step.is_step
              (steps s step.left step.right (with_track empty_label t step.bit) inside (HasAtMost-with_track t step.bit)
              (settled-at before are (left g s) step.left step.in_left) (settled-at before are (right g s) step.right step.in_right))
        ];
  }

  module _ (guide : IsGuide g) (sets : List (List ℕ)) (next : AreNext g A t sets sets) where
    -- the set of a space
    at : (s : ℕ) → IsSpace g s → (states : List ℕ) × (slice_get sets s ≡ Some states)
    at s inside = get-index sets s (omega (arith, next.many, inside))

    in-at : (s q : ℕ) (states : List ℕ) → slice_get sets s ≡ Some states → Contains states q → Contains (set_at sets s) q
    in-at s q states is there = subst (λ (o : Option (List ℕ)). Contains (unwrap_or o []) q) (sym is) there

    pub settled-inside : (s q : ℕ) → Settled g A t s q → Contains (set_at sets s) q
    settled-inside _ _ (starts s inside) =
        let states = at s inside in
        in-at s (A.initial s) states.0 states.1 (((next.each s states.0 states.1).members (A.initial s)).1 (inl refl))
    settled-inside _ _ (steps s p q label inside at_most l r) =
        let states = at s inside in
        in-at s (A.step s p q label) states.0 states.1 (((next.each s states.0 states.1).members (A.step s p q label)).1 (inr (record {
          left = p;
          right = q;
          bit = label t;
          in_left = settled-inside (left g s) p l;
          in_right = settled-inside (right g s) q r;
          is_step = ap (A.step s p q) (with_track-at_most t label at_most);
        })))

    pub AreInitial-next : AreSettled g A t sets → AreInitial g A t sets
    AreInitial-next are = record {
      many = next.many;
      each = λ s states is. record {
        set = (next.each s states is).set;
        settled = λ q. (
          are.each s states is q,
          (λ settled. subst (λ (o : Option (List ℕ)). Contains (unwrap_or o []) q) is (settled-inside s q settled)),
        );
      };
    }

-- settled states are states
module _ (g : Spaces) (shelf : Contents) (a : AutoView) (auto : IsAuto g shelf a) (t : ℕ) where
  pub settled-below : (s q : ℕ) → Settled g (automaton_of shelf a) t s q → Below (states_of a) s q
  settled-below _ _ (starts s inside) = auto.closed.initial s inside
  settled-below _ _ (steps s p q label inside at_most l r) =
      auto.closed.step s p q label inside (settled-below (left g s) p l) (settled-below (right g s) q r)

  pub settled-known : (s : ℕ) → IsSpace g s → (sets : List (List ℕ)) → AreSettled g (automaton_of shelf a) t sets → (l r : ℕ) →
      Contains (set_at sets (left g s)) l → Contains (set_at sets (right g s)) r → IsSome (root_at shelf a s l r)
  settled-known s inside sets are l r in_l in_r = (auto.complete s l r).1 (
    inside,
    (
      settled-below (left g s) l (settled-at g (automaton_of shelf a) t sets are (left g s) l in_l),
      settled-below (right g s) r (settled-at g (automaton_of shelf a) t sets are (right g s) r in_r),
    ),
  )

pub some-is : {X : Type 0} (o : Option X) → IsSome o → (x : X) × (o ≡ Some x)
some-is None some = absurd (false≢true some)
some-is (Some x) some = (x, refl)

initial-is : (shelf : Contents) (a : AutoView) (s : ℕ) → (automaton_of shelf a).initial s ≡ initial_of a s
unfolding automaton_of
initial-is shelf a s = refl

-- the next set of a space
pub IsNext-made : (g : Spaces) (shelf : Contents) (a : AutoView) (t : ℕ) (before : List (List ℕ)) (s : ℕ) (roots : List NodeRef) →
    AreRoots (root_at shelf a s) (set_at before (left g s)) (set_at before (right g s)) roots →
    ((l r : ℕ) → Contains (set_at before (left g s)) l → Contains (set_at before (right g s)) r → IsSome (root_at shelf a s l r)) →
    (states : List ℕ) → states ≡ ((initial_of a s ∷ []) ++ leaves_of shelf roots (label_of [])) ++ leaves_of shelf roots (label_of (t ∷ [])) →
    IsNext g (automaton_of shelf a) t before s (set_of states)
IsNext-made g shelf a t before s roots are some states is = record {
  set = set_of-twice states;
  members = λ q. ((λ there. out q (set_of-only states q there)), (λ of. set_of-has states q (in_states q of)));
}
  where
    known : (l r : ℕ) → Contains (set_at before (left g s)) l → Contains (set_at before (right g s)) r → (root : NodeRef) × (root_at shelf a s l r ≡ Some root)
    known l r in_l in_r = some-is (root_at shelf a s l r) (some l r in_l in_r)

    whole : states ≡ (initial_of a s ∷ []) ++ asked_of shelf roots (Some t) empty_label
    whole = is
        ∙ ap (λ (label : Label). ((initial_of a s ∷ []) ++ leaves_of shelf roots label) ++ leaves_of shelf roots (label_of (t ∷ []))) (sym (label-none t))
        ∙ ap (λ (label : Label). ((initial_of a s ∷ []) ++ leaves_of shelf roots (with_track empty_label t false)) ++ leaves_of shelf roots label) (label-one t)

    out : (q : ℕ) → Contains states q → ((automaton_of shelf a).initial s ≡ q)
        ⊎ IsStepOf (automaton_of shelf a) t s (Contains (set_at before (left g s))) (Contains (set_at before (right g s))) empty_label q
    out q there = elim (Contains-cases (initial_of a s) q (asked_of shelf roots (Some t) empty_label) (subst (λ (xs : List ℕ). Contains xs q) whole there)) [
      | inl same ↦ inl (initial-is shelf a s ∙ same)
      | inr later ↦ inr (asked-only shelf a t s (set_at before (left g s)) (set_at before (right g s)) roots are known empty_label q later)
    ]

    in_states : (q : ℕ) → ((automaton_of shelf a).initial s ≡ q)
        ⊎ IsStepOf (automaton_of shelf a) t s (Contains (set_at before (left g s))) (Contains (set_at before (right g s))) empty_label q → Contains states q
    in_states q (inl same) = subst (λ (xs : List ℕ). Contains xs q) (sym whole)
        (subst (λ (n : ℕ). Contains ((initial_of a s ∷ []) ++ asked_of shelf roots (Some t) empty_label) n) (sym (initial-is shelf a s) ∙ same)
        (Contains-first (initial_of a s) (asked_of shelf roots (Some t) empty_label)))
    in_states q (inr of) = subst (λ (xs : List ℕ). Contains xs q) (sym whole)
        (Contains-append_right (initial_of a s ∷ []) (asked_of shelf roots (Some t) empty_label) q
        (asked-has shelf a t s (set_at before (left g s)) (set_at before (right g s)) roots are known empty_label q of))
