-- Tables of sets, by spaces.
use Rattle.std.proofs.Common.{◌≡◌, ◌⊎◌, ℕ, ◌+◌, ◌<◌, ◌≤◌, Bool, List, [], ◌∷◌, ◌++◌, length, map, Contains, refl, ap, subst, inl, inr, arith}
use Rattle.std.specs.Prelude.{◌↔◌, IsTrue}
use Rattle.std.proofs.lemmas.Bool.{cases_lt}
use Rattle.std.proofs.lemmas.List.Elements.{Contains-append_left}
use Rattle.labels.specs.Labels.{Label}
use Rattle.gta_theory.specs.Guides.{Spaces, IsSpace, right}
use Rattle.gta_theory.specs.Automata.{Automaton}
use Rattle.gta_theory.specs.Constructions.{Settled, IsStepOf}
use Rattle.cert_text.specs.declared.line.SetLine.{SetLine}
use Rattle.cert_theory.specs.Tables.{SetGoesTo, IsSetTable, PlacedState, Lists, IsStepBefore, IsSettledList}
use Rattle.cert_theory.proofs.SettledLemmas.{settled-lists}
use Rattle.cert_nodes.specs.declared.spots.Diagrams.{Diagrams}
use Rattle.cert_nodes.proofs.WalksLemmas.{last, push-cases}
use Rattle.cert_tables.specs.declared.table.Table.{Table}
use Rattle.cert_tables.specs.Automata.{signed, initial_in, table_automaton}
use Rattle.cert_tables.specs.Accepting.{AcceptBySome}
use Rattle.cert_tables.specs.SetKeys.{named_set, AreSets}
use Rattle.cert_tables.specs.Sets.{SetsGoAlong}
use Rattle.cert_tables.proofs.AcceptingLemmas.{accepting-by-some, some-by-accepting, sets-once}
use Rattle.cert_tables.proofs.SetsLemmas.{to-same, iff-back}
use Rattle.cert_settled.proofs.StatesLemmas.{places-same}

-- ---- the states of a space, one after the other

module _ (s : ℕ) where
  pub in-insert : (list : List PlacedState) (p : PlacedState) (old : List ℕ) → ((q : ℕ) → Contains old q ↔ Lists list s q) → p.space ≡ s →
      (q : ℕ) → Contains (old ++ p.state ∷ []) q ↔ Lists (list ++ p ∷ []) s q
  in-insert list p old are here q = (
    (λ listed. elim (push-cases old p.state q listed) [
      | inl before ↦ Contains-append_left list (p ∷ []) (record { space = s; state = q }) ((are q).0 before)
      | inr is ↦ subst (Contains (list ++ p ∷ [])) (places-same p (record { space = s; state = q }) here is) (last list p)
    ]),
    (λ listed. elim (push-cases list p (record { space = s; state = q }) listed) [
      | inl before ↦ Contains-append_left old (p.state ∷ []) q ((are q).1 before)
      | inr is ↦ subst (Contains (old ++ p.state ∷ [])) (ap (λ (n : PlacedState). n.state) is) (last old p.state)
    ]),
  )

  pub in-skip : (list : List PlacedState) (p : PlacedState) (old : List ℕ) → ((q : ℕ) → Contains old q ↔ Lists list s q) → (p.space ≡ s → ⊥) →
      (q : ℕ) → Contains old q ↔ Lists (list ++ p ∷ []) s q
  in-skip list p old are elsewhere q = (
    (λ listed. Contains-append_left list (p ∷ []) (record { space = s; state = q }) ((are q).0 listed)),
    (λ listed. elim (push-cases list p (record { space = s; state = q }) listed) [
      | inl before ↦ (are q).1 before
      | inr is ↦ absurd (elsewhere (ap (λ (n : PlacedState). n.space) is))
    ]),
  )

-- ---- which states accept is nothing to steps

step-signed : (A : Automaton ℕ) (is_negated : Bool) (t s : ℕ) (L R : ℕ → Type 0) (label : Label) (q : ℕ) →
    IsStepOf A t s L R label q ↔ IsStepOf (signed is_negated A) t s L R label q
step-signed A is_negated t s L R label q = (
  (λ h. record { left = h.left; right = h.right; bit = h.bit; in_left = h.in_left; in_right = h.in_right; is_step = h.is_step }),
  (λ h. record { left = h.left; right = h.right; bit = h.bit; in_left = h.in_left; in_right = h.in_right; is_step = h.is_step }),
)

before-signed : (g : Spaces) (A : Automaton ℕ) (is_negated : Bool) (t : ℕ) (list : List PlacedState) (k s q : ℕ) → IsStepBefore g A t list k s q →
    IsStepBefore g (signed is_negated A) t list k s q
before-signed g A is_negated t list k s q h = record {
  first = h.first;
  second = h.second;
  p = h.p;
  r = h.r;
  label = h.label;
  first_before = h.first_before;
  second_before = h.second_before;
  is_first = h.is_first;
  is_second = h.is_second;
  at_most = h.at_most;
  is_step = h.is_step;
}

pub settled-signed : (g : Spaces) (A : Automaton ℕ) (is_negated : Bool) (t : ℕ) (list : List PlacedState) → IsSettledList g A t list →
    IsSettledList g (signed is_negated A) t list
settled-signed g A is_negated t list is = record {
  from_before = λ k s q at.
      let h = is.from_before k s q at in (
        h.0,
        elim h.1 as (λ _. (A.initial s ≡ q) ⊎ IsStepBefore g (signed is_negated A) t list k s q) [
          | inl same ↦ inl same
          | inr step ↦ inr (before-signed g A is_negated t list k s q step)
        ],
      );
  initial = is.initial;
  closed = is.closed;
}

-- ---- by spaces

-- a space is all right
pub record IsRight (g : Spaces) (d : Diagrams) (a : Table) (t : ℕ) (list : List PlacedState) (lines : List SetLine) (c : Table) (s : ℕ) : Type 0 where
  pub starts : SetGoesTo (map named_set lines) s (Lists list s) (initial_in c s)
  pub goes : SetsGoAlong g (table_automaton d a) t (map named_set lines) (table_automaton d c) s

module _ (g : Spaces) (d : Diagrams) (a : Table) (a_negated : Bool) (t : ℕ) (list : List PlacedState) (lines : List SetLine) (c : Table)
    (settled : IsSettledList g (table_automaton d a) t list) where
  abbrev Part : Automaton ℕ
  Part = signed a_negated (table_automaton d a)

  abbrev pub IsTable : Type 0
  IsTable = IsSetTable g (signed a_negated (table_automaton d a)) t (Settled g (signed a_negated (table_automaton d a)) t)
      (map named_set lines) (table_automaton d c)

  same-start : (s q : ℕ) → Lists list s q ↔ Settled g Part t s q
  same-start = settled-lists g Part t list (settled-signed g (table_automaton d a) a_negated t list settled)

  pub table-right : IsTable → (s : ℕ) → IsSpace g s → IsRight g d a t list lines c s
  table-right table s inside = record {
    starts = to-same (map named_set lines) s (Settled g Part t s) (Lists list s) (initial_in c s) (initial_in c s) (table.initial s inside)
        (λ q. iff-back (same-start s q)) refl;
    goes = λ l r label in_l in_r on_left on_right.
        to-same (map named_set lines) s (IsStepOf Part t s (Contains l.members) (Contains r.members) label)
        (IsStepOf (table_automaton d a) t s (Contains l.members) (Contains r.members) label)
        ((table_automaton d c).step s l.state r.state label) ((table_automaton d c).step s l.state r.state label)
        (table.step s l r label inside in_l in_r on_left on_right)
        (λ q. iff-back (step-signed (table_automaton d a) a_negated t s (Contains l.members) (Contains r.members) label q)) refl;
  }

  pub table-alike : IsTable → AcceptBySome a a_negated c lines
  table-alike table = some-by-accepting d a a_negated c lines table.accepting

  pub right-table : AreSets lines → ((s : ℕ) → s < length g → IsRight g d a t list lines c s) → AcceptBySome a a_negated c lines → IsTable
  right-table sets right alike = record {
    initial = λ s inside. to-same (map named_set lines) s (Lists list s) (Settled g Part t s) (initial_in c s) (initial_in c s)
        (right s inside).starts (same-start s) refl;
    step = λ s l r label inside in_l in_r on_left on_right.
        to-same (map named_set lines) s (IsStepOf (table_automaton d a) t s (Contains l.members) (Contains r.members) label)
        (IsStepOf Part t s (Contains l.members) (Contains r.members) label)
        ((table_automaton d c).step s l.state r.state label) ((table_automaton d c).step s l.state r.state label)
        ((right s inside).goes l r label in_l in_r on_left on_right)
        (step-signed (table_automaton d a) a_negated t s (Contains l.members) (Contains r.members) label) refl;
    accepting = accepting-by-some d a a_negated c lines alike;
    once = sets-once lines sets;
  }

  -- one space more
  pub right-next : (s : ℕ) → ((k : ℕ) → k < s → IsRight g d a t list lines c k) → IsRight g d a t list lines c s →
      (k : ℕ) → k < s + 1 → IsRight g d a t list lines c k
  right-next s before here k below = elim (cases_lt k s) [
    | inl earlier ↦ before k earlier
    | inr from ↦ subst (IsRight g d a t list lines c) (let e : s ≡ k = omega (arith, from, below) in e) here
  ]

  pub whole : (result : Bool) (n : ℕ) → length g ≤ n → AreSets lines → ((k : ℕ) → k < n → IsRight g d a t list lines c k) →
      IsTrue result ↔ AcceptBySome a a_negated c lines → IsTrue result ↔ IsTable
  whole result n all sets right is = (
    (λ yes. right-table sets (λ s inside. right s (omega (arith, inside, all))) (is.0 yes)),
    (λ table. is.1 (table-alike table)),
  )
