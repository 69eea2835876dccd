-- Steps out of lists of settled states, by classes.
use Rattle.std.proofs.Common.{◌≡◌, ◌⊎◌, inl, inr, ℕ, Bool, true, false, List, [], ◌∷◌, ◌++◌, Contains, refl, ap, sym, ◌∙◌, subst}
use Rattle.std.specs.Prelude.{◌↔◌, IsTrue}
use Rattle.std.proofs.lemmas.Bool.{false≢true}
use Rattle.std.proofs.lemmas.List.Elements.{Contains-append_left}
use Rattle.cert_nodes.proofs.WalksLemmas.{last, push-cases}
use Rattle.labels.specs.Labels.{Label}
use Rattle.gta_theory.specs.Guides.{Spaces, left, right}
use Rattle.cert_theory.specs.Tables.{PlacedState, Lists}
use Rattle.cert_nodes.specs.declared.spots.Diagrams.{Diagrams}
use Rattle.cert_nodes.specs.Spots.{state_at}
use Rattle.cert_tables.specs.declared.table.Table.{Table}
use Rattle.cert_tables.specs.Automata.{class_in, spot_in, table_automaton}
use Rattle.cert_settled.specs.Settling.{alone, HasClass, AreCellsClosed, IsClosedIn}
use Rattle.cert_settled.proofs.StepsLemmas.{at-most-alone, alone-label}

-- ---- the classes of states, one after the other

module _ (is_right : Bool) (s child : ℕ) (a : Table) where
  has-more : (list : List PlacedState) (p : PlacedState) (k : ℕ) → HasClass is_right s child a list k → HasClass is_right s child a (list ++ p ∷ []) k
  has-more list p k has = record {
    state = has.state;
    listed = Contains-append_left list (p ∷ []) (record { space = child; state = has.state }) has.listed;
    class = has.class;
  }

  has-cases : (list : List PlacedState) (p : PlacedState) (k : ℕ) → HasClass is_right s child a (list ++ p ∷ []) k →
      HasClass is_right s child a list k ⊎ ((p.space ≡ child) × (class_in a is_right s p.state ≡ k))
  has-cases list p k has = elim (push-cases list p (record { space = child; state = has.state }) has.listed) [
    | inl old ↦ inl (record { state = has.state; listed = old; class = has.class })
    | inr is ↦ inr (
      ap (λ (q : PlacedState). q.space) is,
      ap (λ (q : PlacedState). class_in a is_right s q.state) is ∙ has.class,
    )
  ]

  pub class-insert : (list : List PlacedState) (p : PlacedState) (old new : List ℕ) (made : ℕ) →
      ((k : ℕ) → Contains old k ↔ HasClass is_right s child a list k) → p.space ≡ child → made ≡ class_in a is_right s p.state →
      ((k : ℕ) → Contains new k ↔ (Contains old k ⊎ (made ≡ k))) →
      (k : ℕ) → Contains new k ↔ HasClass is_right s child a (list ++ p ∷ []) k
  class-insert list p old new made are here is adds k = (
    (λ listed. elim ((adds k).0 listed) [
      | inl before ↦ has-more list p k ((are k).0 before)
      | inr made_is ↦ record {
        state = p.state;
        listed = subst (λ (n : ℕ). Contains (list ++ p ∷ []) (record { space = n; state = p.state })) here (last list p);
        class = sym is ∙ made_is;
      }
    ]),
    (λ has. (adds k).1 (elim (has-cases list p k has) [
      | inl before ↦ inl ((are k).1 before)
      | inr new_is ↦ inr (is ∙ new_is.1)
    ])),
  )

  pub class-skip : (list : List PlacedState) (p : PlacedState) (old : List ℕ) →
      ((k : ℕ) → Contains old k ↔ HasClass is_right s child a list k) → (p.space ≡ child → ⊥) →
      (k : ℕ) → Contains old k ↔ HasClass is_right s child a (list ++ p ∷ []) k
  class-skip list p old are elsewhere k = (
    (λ listed. has-more list p k ((are k).0 listed)),
    (λ has. elim (has-cases list p k has) [
      | inl before ↦ (are k).1 before
      | inr new_is ↦ absurd (elsewhere new_is.0)
    ]),
  )

-- ---- both bits

pub both-bits : (list : List PlacedState) (s : ℕ) (f : Bool → ℕ) (u v : ℕ) (b : Bool) → u ≡ f false → v ≡ f true → Lists list s u →
    IsTrue b ↔ Lists list s v → IsTrue b ↔ ((bit : Bool) → Lists list s (f bit))
both-bits list s f u v b is_u is_v there is = (
  (λ yes bit. at yes bit),
  (λ all. is.1 (subst (Lists list s) (sym is_v) (all true))),
)
  where
    at : IsTrue b → (bit : Bool) → Lists list s (f bit)
    at holds false = subst (Lists list s) is_u there
    at holds true = subst (Lists list s) is_v (is.0 holds)

pub not-bits : (list : List PlacedState) (s : ℕ) (f : Bool → ℕ) (u : ℕ) (b : Bool) → u ≡ f false → b ≡ false →
    IsTrue b ↔ Lists list s u → IsTrue b ↔ ((bit : Bool) → Lists list s (f bit))
not-bits list s f u b is_u none is = (
  (λ yes. absurd (false≢true (sym none ∙ yes))),
  (λ all. is.1 (subst (Lists list s) (sym is_u) (all false))),
)

-- ---- all together

module _ (g : Spaces) (d : Diagrams) (s : ℕ) (a : Table) (t : ℕ) (list : List PlacedState) (lefts rights : List ℕ)
    (of_left : (k : ℕ) → Contains lefts k ↔ HasClass false s (left g s) a list k)
    (of_right : (k : ℕ) → Contains rights k ↔ HasClass true s (right g s) a list k) where
  closed-cells : IsClosedIn g (table_automaton d a) t list s → AreCellsClosed d s a t list lefts rights
  closed-cells closed l in_left r in_right bit =
      let p = (of_left l).0 in_left in
      let q = (of_right r).0 in_right in
      subst (λ (m : ℕ). Lists list s (state_at d 0 (alone t bit) (spot_in a s l m))) q.class
      (subst (λ (k : ℕ). Lists list s (state_at d 0 (alone t bit) (spot_in a s k (class_in a true s q.state)))) p.class
      (closed p.state q.state (alone t bit) (at-most-alone t bit) p.listed q.listed))

  cells-closed : AreCellsClosed d s a t list lefts rights → IsClosedIn g (table_automaton d a) t list s
  cells-closed cells p q label few in_left in_right =
      subst (λ (l : Label). Lists list s ((table_automaton d a).step s p q l)) (sym (alone-label t label few))
      (cells (class_in a false s p) ((of_left (class_in a false s p)).1 (record { state = p; listed = in_left; class = refl }))
      (class_in a true s q) ((of_right (class_in a true s q)).1 (record { state = q; listed = in_right; class = refl })) (label t))

  pub closed-by-cells : (result : Bool) → IsTrue result ↔ AreCellsClosed d s a t list lefts rights →
      IsTrue result ↔ IsClosedIn g (table_automaton d a) t list s
  closed-by-cells result is = ((λ yes. cells-closed (is.0 yes)), (λ closed. is.1 (closed-cells closed)))
