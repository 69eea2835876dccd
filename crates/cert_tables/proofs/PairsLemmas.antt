-- How pairs go along with steps.
use Rattle.std.proofs.Common.{◌≡◌, ◌⊎◌, inl, inr, ℕ, ◌+◌, ◌<◌, ◌≤◌, Bool, true, false, List}
use Rattle.std.proofs.Common.{[], ◌∷◌, ◌++◌, length, take, get_or, map, Contains, refl, ap, sym, ◌∙◌, subst, eqb-true, eq-eqb, arith}
use Rattle.std.specs.Prelude.{◌↔◌, IsTrue, nat_eq}
use Rattle.std.proofs.lemmas.Bool.{false≢true}
use Rattle.std.proofs.lemmas.List.{take_more, take_all}
use Rattle.std.proofs.lemmas.List.Elements.{Contains-append_left}
use Rattle.gta_theory.proofs.ListsLemmas.{Contains-none}
use Rattle.labels.specs.Labels.{Label}
use Rattle.gta_theory.specs.Guides.{Spaces, left, right}
use Rattle.cert_text.specs.declared.line.PairLine.{PairLine}
use Rattle.cert_theory.specs.Tables.{NamedPair, GoesTo}
use Rattle.cert_nodes.specs.declared.spots.Spot.{Spot}
use Rattle.cert_nodes.specs.declared.spots.Diagrams.{Diagrams}
use Rattle.cert_nodes.specs.Spots.{states_at, IsLedTo}
use Rattle.cert_nodes.proofs.WalksLemmas.{last, push-cases}
use Rattle.cert_tables.specs.declared.table.Table.{Table}
use Rattle.cert_tables.specs.declared.class_triples.ClassTriple.{ClassTriple}
use Rattle.cert_tables.specs.Automata.{table_automaton}
use Rattle.cert_tables.specs.PairKeys.{named_pair}
use Rattle.cert_tables.specs.Pairs.{classes_of, spots_of, HasClasses, AreClassesOf, Goes, AllGo, GoAlong}
use Rattle.cert_tables.specs.Starts.{IsLedBy, AreLedBy}
use Rattle.cert_tables.proofs.PairKeysLemmas.{line-of, line-goes}

pub goes-same : (table : List NamedPair) (s p q x p' q' x' : ℕ) → GoesTo table s p q x → p ≡ p' → q ≡ q' → x ≡ x' → GoesTo table s p' q' x'
goes-same table s p q x p' q' x' goes first second state = record {
  pair = goes.pair;
  listed = goes.listed;
  in_space = goes.in_space;
  is_first = goes.is_first ∙ first;
  is_second = goes.is_second ∙ second;
  is_state = goes.is_state ∙ state;
}

-- what a look-up of the first two of three states says
pub goes-three : (table : List NamedPair) (s : ℕ) (states : List ℕ) (state : ℕ) → 3 ≤ length states → length states < 4 →
    ((other : ℕ) → GoesTo table s (get_or states 0 0) (get_or states 1 0) other ↔ (state ≡ other)) →
    IsTrue (nat_eq state (get_or states 2 0)) ↔ Goes table s states
goes-three table s [] state most few found = absurd (omega (arith, most))
goes-three table s (x ∷ []) state most few found = absurd (omega (arith, most))
goes-three table s (x ∷ y ∷ []) state most few found = absurd (omega (arith, most))
goes-three table s (x ∷ y ∷ z ∷ []) state most few found =
    ((λ yes. (found z).1 (eqb-true state z yes)), (λ goes. eq-eqb state z ((found z).0 goes)))
goes-three table s (x ∷ y ∷ z ∷ w ∷ more) state most few found = absurd (omega (arith, few))

-- what a look-up of the initial states says
pub starts-by : (table : List NamedPair) (s p q p' q' x state r : ℕ) → ((other : ℕ) → GoesTo table s p q other ↔ (state ≡ other)) →
    p ≡ p' → q ≡ q' → r ≡ x → IsTrue (nat_eq state r) ↔ GoesTo table s p' q' x
starts-by table s p q p' q' x state r found is_p is_q is_x = (
  (λ yes. goes-same table s p q x p' q' x ((found x).1 (eqb-true state r yes ∙ is_x)) is_p is_q refl),
  (λ goes. eq-eqb state r ((found x).0 (goes-same table s p' q' x p q x goes (sym is_p) (sym is_q) refl) ∙ sym is_x)),
)

pub starts-not : (table : List NamedPair) (s p q p' q' x : ℕ) → ((other : ℕ) → GoesTo table s p q other → ⊥) → p ≡ p' → q ≡ q' →
    IsTrue false ↔ GoesTo table s p' q' x
starts-not table s p q p' q' x none is_p is_q = (
  (λ yes. absurd (false≢true yes)),
  (λ goes. absurd (none x (goes-same table s p' q' x p q x goes (sym is_p) (sym is_q) refl))),
)

step-same : (d : Diagrams) (table : Table) (s p q p' q' : ℕ) (label : Label) → p ≡ p' → q ≡ q' →
    (table_automaton d table).step s p q label ≡ (table_automaton d table).step s p' q' label
step-same d table s p q p' q' label is_p is_q =
    ap (λ (n : ℕ). (table_automaton d table).step s n q label) is_p ∙ ap (λ (n : ℕ). (table_automaton d table).step s p' n label) is_q

-- ---- the classes of pairs, one after the other

module _ (is_right : Bool) (s child : ℕ) (a b c : Table) where
  has-more : (pairs : List PairLine) (pair : PairLine) (triple : ClassTriple) → HasClasses is_right s child a b c pairs triple →
      HasClasses is_right s child a b c (pairs ++ pair ∷ []) triple
  has-more pairs pair triple has = record {
    pair = has.pair;
    listed = Contains-append_left pairs (pair ∷ []) has.pair has.listed;
    in_space = has.in_space;
    classes = has.classes;
  }

  has-cases : (pairs : List PairLine) (pair : PairLine) (triple : ClassTriple) → HasClasses is_right s child a b c (pairs ++ pair ∷ []) triple →
      HasClasses is_right s child a b c pairs triple ⊎ ((pair.space ≡ child) × (classes_of is_right s a b c pair ≡ triple))
  has-cases pairs pair triple has = elim (push-cases pairs pair has.pair has.listed) [
    | inl old ↦ inl (record { pair = has.pair; listed = old; in_space = has.in_space; classes = has.classes })
    | inr is ↦ inr (ap (λ (l : PairLine). l.space) is ∙ has.in_space, ap (classes_of is_right s a b c) is ∙ has.classes)
  ]

  pub classes-none : AreClassesOf is_right s child a b c [] []
  classes-none triple = ((λ listed. absurd (Contains-none triple listed)), (λ has. absurd (Contains-none has.pair has.listed)))

  pub classes-insert : (pairs : List PairLine) (pair : PairLine) (set grown : List ClassTriple) → AreClassesOf is_right s child a b c pairs set →
      pair.space ≡ child →
      ((other : ClassTriple) → Contains grown other ↔ (Contains set other ⊎ (classes_of is_right s a b c pair ≡ other))) →
      AreClassesOf is_right s child a b c (pairs ++ pair ∷ []) grown
  classes-insert pairs pair set grown are here adds triple = (
    (λ listed. elim ((adds triple).0 listed) [
      | inl old ↦ has-more pairs pair triple ((are triple).0 old)
      | inr is ↦ record { pair = pair; listed = last pairs pair; in_space = here; classes = is }
    ]),
    (λ has. (adds triple).1 (elim (has-cases pairs pair triple has) [
      | inl old ↦ inl ((are triple).1 old)
      | inr new ↦ inr new.1
    ])),
  )

  pub classes-skip : (pairs : List PairLine) (pair : PairLine) (set : List ClassTriple) → AreClassesOf is_right s child a b c pairs set →
      (pair.space ≡ child → ⊥) → AreClassesOf is_right s child a b c (pairs ++ pair ∷ []) set
  classes-skip pairs pair set are elsewhere triple = (
    (λ listed. has-more pairs pair triple ((are triple).0 listed)),
    (λ has. elim (has-cases pairs pair triple has) [
      | inl old ↦ (are triple).1 old
      | inr new ↦ absurd (elsewhere new.0)
    ]),
  )

  pub classes-insert-next : (pairs : List PairLine) (i : ℕ) (none : PairLine) (set grown : List ClassTriple) → i < length pairs →
      AreClassesOf is_right s child a b c (take i pairs) set → (get_or pairs i none).space ≡ child →
      ((other : ClassTriple) → Contains grown other ↔ (Contains set other ⊎ (classes_of is_right s a b c (get_or pairs i none) ≡ other))) →
      AreClassesOf is_right s child a b c (take (i + 1) pairs) grown
  classes-insert-next pairs i none set grown inside are here adds =
      subst (λ (ls : List PairLine). AreClassesOf is_right s child a b c ls grown) (sym (take_more pairs i none inside))
      (classes-insert (take i pairs) (get_or pairs i none) set grown are here adds)

  pub classes-skip-next : (pairs : List PairLine) (i : ℕ) (none : PairLine) (set : List ClassTriple) → i < length pairs →
      AreClassesOf is_right s child a b c (take i pairs) set → ((get_or pairs i none).space ≡ child → ⊥) →
      AreClassesOf is_right s child a b c (take (i + 1) pairs) set
  classes-skip-next pairs i none set inside are elsewhere =
      subst (λ (ls : List PairLine). AreClassesOf is_right s child a b c ls set) (sym (take_more pairs i none inside))
      (classes-skip (take i pairs) (get_or pairs i none) set are elsewhere)

  pub classes-whole : (pairs : List PairLine) (i : ℕ) (set : List ClassTriple) → length pairs ≤ i →
      AreClassesOf is_right s child a b c (take i pairs) set → AreClassesOf is_right s child a b c pairs set
  classes-whole pairs i set all are = subst (λ (ls : List PairLine). AreClassesOf is_right s child a b c ls set) (take_all i pairs all) are

-- ---- all together

module _ (g : Spaces) (d : Diagrams) (a b c : Table) (lines : List PairLine) (s : ℕ) (lefts rights : List ClassTriple)
    (starts : List (List Spot)) (lists : List (List ℕ))
    (in_left : AreClassesOf false s (left g s) a b c lines lefts) (in_right : AreClassesOf true s (right g s) a b c lines rights)
    (started : AreLedBy (spots_of s a b c) lefts rights starts) where
  -- what two lines lead to on a label
  abbrev led : PairLine → PairLine → Label → List ℕ
  led l r label = states_at d 0 (spots_of s a b c (classes_of false s a b c l) (classes_of true s a b c r)) label

  all-along : ((spots : List Spot) (label : Label) → Contains starts spots → Contains lists (states_at d 0 spots label)) →
      AllGo (map named_pair lines) s lists →
      GoAlong g (table_automaton d a) (table_automaton d b) (map named_pair lines) (table_automaton d c) s
  all-along come go p q x p' q' y label from_left from_right =
      let l = line-of lines (left g s) p q x from_left in
      let r = line-of lines (right g s) p' q' y from_right in
      let start : IsLedBy (spots_of s a b c) lefts rights (spots_of s a b c (classes_of false s a b c l.line) (classes_of true s a b c r.line)) = record {
        l = classes_of false s a b c l.line;
        on_left = (in_left (classes_of false s a b c l.line)).1 (record { pair = l.line; listed = l.listed; in_space = l.in_space; classes = refl });
        with_right = record {
          r = classes_of true s a b c r.line;
          on_right = (in_right (classes_of true s a b c r.line)).1 (record { pair = r.line; listed = r.listed; in_space = r.in_space; classes = refl });
          leads = refl;
        };
      } in
      let spots = spots_of s a b c (classes_of false s a b c l.line) (classes_of true s a b c r.line) in
      let to = go (led l.line r.line label) (come spots label ((started spots).1 start)) in
      goes-same (map named_pair lines) s
      ((table_automaton d a).step s l.line.first r.line.first label) ((table_automaton d b).step s l.line.second r.line.second label)
      ((table_automaton d c).step s l.line.state r.line.state label)
      ((table_automaton d a).step s p p' label) ((table_automaton d b).step s q q' label) ((table_automaton d c).step s x y label) to
      (step-same d a s l.line.first r.line.first p p' label l.is_first r.is_first)
      (step-same d b s l.line.second r.line.second q q' label l.is_second r.is_second)
      (step-same d c s l.line.state r.line.state x y label l.is_state r.is_state)

  -- and each list that was come to is that of two lines
  along-all : ((states : List ℕ) → Contains lists states → IsLedTo d 0 starts states) →
      GoAlong g (table_automaton d a) (table_automaton d b) (map named_pair lines) (table_automaton d c) s →
      AllGo (map named_pair lines) s lists
  along-all only along states listed =
      let from = only states listed in
      let start = (started from.start).0 from.listed in
      let l = (in_left start.l).0 start.on_left in
      let r = (in_right start.with_right.r).0 start.with_right.on_right in
      let spots_are : spots_of s a b c (classes_of false s a b c l.pair) (classes_of true s a b c r.pair) ≡ from.start =
      ap (λ (t : ClassTriple). spots_of s a b c t (classes_of true s a b c r.pair)) l.classes
      ∙ ap (spots_of s a b c start.l) r.classes ∙ start.with_right.leads in
      subst (Goes (map named_pair lines) s) (ap (λ (spots : List Spot). states_at d 0 spots from.label) spots_are ∙ from.leads)
      (along l.pair.first l.pair.second l.pair.state r.pair.first r.pair.second r.pair.state from.label
      (line-goes lines (left g s) l.pair l.listed l.in_space) (line-goes lines (right g s) r.pair r.listed r.in_space))

  pub go-along : (result : Bool) →
      ((spots : List Spot) (label : Label) → Contains starts spots → Contains lists (states_at d 0 spots label)) →
      ((states : List ℕ) → Contains lists states → IsLedTo d 0 starts states) →
      (IsTrue result ↔ AllGo (map named_pair lines) s lists) →
      IsTrue result ↔ GoAlong g (table_automaton d a) (table_automaton d b) (map named_pair lines) (table_automaton d c) s
  go-along result come only is = ((λ true_. all-along come (is.0 true_)), (λ along. is.1 (along-all only along)))
