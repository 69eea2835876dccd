-- Tables lead from automata to automata alike where these agree.
use Rattle.std.proofs.Common.{◌≡◌, ℕ, Bool, List, Contains, sym, ap, subst, ◌∙◌}
use Rattle.std.specs.Prelude.{◌↔◌, ◌&&◌}
use Rattle.labels.specs.Labels.{Label, with_track}
use Rattle.gta_theory.specs.Guides.{Spaces, IsSpace, left, right}
use Rattle.gta_theory.specs.Automata.{Automaton}
use Rattle.gta_theory.specs.Constructions.{Settled, starts, steps, IsStepOf, HasAccepting}
use Rattle.cert_theory.specs.Tables.{NamedPair, NamedSet, GoesTo, IsPairTable, SetGoesTo, IsSetTable}
use Rattle.cert_theory.specs.Agreeing.{AgreeIn}

goes-same : (table : List NamedPair) (s p q x p' q' x' : ℕ) → GoesTo table s p q x → p ≡ p' → q ≡ q' → x ≡ x' → GoesTo table s p' q' x'
goes-same table s p q x p' q' x' goes first second state = record {
  pair = goes.pair;
  listed = goes.listed;
  in_space = goes.in_space;
  is_first = goes.is_first ∙ first;
  is_second = goes.is_second ∙ second;
  is_state = goes.is_state ∙ state;
}

pub pairs-agreeing : (g : Spaces) (A B C A' B' C' : Automaton ℕ) (table : List NamedPair) → AgreeIn g A A' → AgreeIn g B B' → AgreeIn g C C' →
    IsPairTable g A B table C → IsPairTable g A' B' table C'
pairs-agreeing g A B C A' B' C' table of_A of_B of_C is = record {
  initial = λ s there.
      goes-same table s _ _ _ _ _ _ (is.initial s there) (of_A.initial s there) (of_B.initial s there) (of_C.initial s there);
  step = λ s p q x p' q' y label there from_left from_right.
      goes-same table s _ _ _ _ _ _ (is.step s p q x p' q' y label there from_left from_right)
      (of_A.step s p p' label there) (of_B.step s q q' label there) (of_C.step s x y label there);
  accepting = λ p q x goes.
      sym (ap (λ (b : Bool). b && B.accepting q) (of_A.accepting p) ∙ ap (λ (b : Bool). A'.accepting p && b) (of_B.accepting q))
      ∙ is.accepting p q x goes ∙ of_C.accepting x;
  once = is.once;
}

-- ---- sets

step-agreeing : (g : Spaces) (A A' : Automaton ℕ) (t s : ℕ) (Left Right : ℕ → Type 0) (label : Label) (q : ℕ) → AgreeIn g A A' → IsSpace g s →
    IsStepOf A t s Left Right label q → IsStepOf A' t s Left Right label q
step-agreeing g A A' t s Left Right label q of_A there step = record {
  left = step.left;
  right = step.right;
  bit = step.bit;
  in_left = step.in_left;
  in_right = step.in_right;
  is_step = sym (of_A.step s step.left step.right (with_track label t step.bit) there) ∙ step.is_step;
}

accepting-agreeing : (g : Spaces) (A A' : Automaton ℕ) (Set : ℕ → Type 0) → AgreeIn g A A' → HasAccepting A Set → HasAccepting A' Set
accepting-agreeing g A A' Set of_A has = record {
  state = has.state;
  inside = has.inside;
  accepting = sym (of_A.accepting has.state) ∙ has.accepting;
}

back : (g : Spaces) (A A' : Automaton ℕ) → AgreeIn g A A' → AgreeIn g A' A
back g A A' of_A = record {
  initial = λ s there. sym (of_A.initial s there);
  step = λ s p q label there. sym (of_A.step s p q label there);
  accepting = λ q. sym (of_A.accepting q);
}

to-same : (table : List NamedSet) (s : ℕ) (Members Others : ℕ → Type 0) (x y : ℕ) → SetGoesTo table s Members x →
    ((q : ℕ) → Members q ↔ Others q) → x ≡ y → SetGoesTo table s Others y
to-same table s Members Others x y goes same is = record {
  set = goes.set;
  listed = goes.listed;
  in_space = goes.in_space;
  exactly = λ q. ((λ listed. (same q).0 ((goes.exactly q).0 listed)), (λ other. (goes.exactly q).1 ((same q).1 other)));
  is_state = goes.is_state ∙ is;
}

settled-agreeing : (g : Spaces) (A A' : Automaton ℕ) (t : ℕ) → AgreeIn g A A' → (s q : ℕ) → Settled g A t s q → Settled g A' t s q
settled-agreeing g A A' t of_A _ _ (starts s there) = subst (Settled g A' t s) (sym (of_A.initial s there)) (starts s there)
settled-agreeing g A A' t of_A _ _ (steps s p q label there at_most in_l in_r) =
    subst (Settled g A' t s) (sym (of_A.step s p q label there))
    (steps s p q label there at_most (settled-agreeing g A A' t of_A (left g s) p in_l) (settled-agreeing g A A' t of_A (right g s) q in_r))

pub sets-agreeing : (g : Spaces) (A C A' C' : Automaton ℕ) (t : ℕ) (table : List NamedSet) → AgreeIn g A A' → AgreeIn g C C' →
    IsSetTable g A t (Settled g A t) table C → IsSetTable g A' t (Settled g A' t) table C'
sets-agreeing g A C A' C' t table of_A of_C is = record {
  initial = λ s there. to-same table s (Settled g A t s) (Settled g A' t s) (C.initial s) (C'.initial s) (is.initial s there)
      (λ q. (settled-agreeing g A A' t of_A s q, settled-agreeing g A' A t (back g A A' of_A) s q)) (of_C.initial s there);
  step = λ s l r label there in_l in_r on_left on_right.
      to-same table s (IsStepOf A t s (Contains l.members) (Contains r.members) label)
      (IsStepOf A' t s (Contains l.members) (Contains r.members) label) (C.step s l.state r.state label) (C'.step s l.state r.state label)
      (is.step s l r label there in_l in_r on_left on_right)
      (λ q. (
        step-agreeing g A A' t s (Contains l.members) (Contains r.members) label q of_A there,
        step-agreeing g A' A t s (Contains l.members) (Contains r.members) label q (back g A A' of_A) there,
      ))
      (of_C.step s l.state r.state label there);
  accepting = λ set listed here.
      let old = is.accepting set listed here in (
        (λ yes. accepting-agreeing g A A' (Contains set.members) of_A (old.0 (of_C.accepting set.state ∙ yes))),
        (λ has. sym (of_C.accepting set.state) ∙ old.1 (accepting-agreeing g A' A (Contains set.members) (back g A A' of_A) has)),
      );
  once = is.once;
}
