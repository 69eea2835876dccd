-- Tables of pairs, by spaces.
use Rattle.std.proofs.Common.{◌≡◌, ℕ, ◌+◌, ◌<◌, ◌≤◌, Bool, List, length, map, ap, sym, ◌∙◌, subst, inl, inr, arith}
use Rattle.std.specs.Prelude.{◌↔◌, ◌&&◌, IsTrue}
use Rattle.std.proofs.lemmas.Bool.{cases_lt}
use Rattle.gta_theory.specs.Guides.{Spaces, IsSpace}
use Rattle.cert_text.specs.declared.line.PairLine.{PairLine}
use Rattle.cert_theory.specs.Tables.{IsPairTable}
use Rattle.cert_nodes.specs.declared.spots.Diagrams.{Diagrams}
use Rattle.cert_tables.specs.declared.table.Table.{Table}
use Rattle.cert_tables.specs.Automata.{signed, accepts_in, accepts_signed, table_automaton}
use Rattle.cert_tables.specs.PairKeys.{named_pair, IsOnePerKey}
use Rattle.cert_tables.specs.Pairs.{GoAlong, StartsTogether, AcceptAlike}
use Rattle.cert_tables.proofs.PairKeysLemmas.{line-of, line-goes, goes-once}

-- a space is all right
pub record IsRight (g : Spaces) (d : Diagrams) (a b : Table) (lines : List PairLine) (c : Table) (s : ℕ) : Type 0 where
  pub starts : StartsTogether (table_automaton d a) (table_automaton d b) (map named_pair lines) (table_automaton d c) s
  pub goes : GoAlong g (table_automaton d a) (table_automaton d b) (map named_pair lines) (table_automaton d c) s

module _ (g : Spaces) (d : Diagrams) (a : Table) (a_negated : Bool) (b : Table) (b_negated : Bool) (lines : List PairLine) (c : Table) where
  abbrev pub IsTable : Type 0
  IsTable = IsPairTable g (signed a_negated (table_automaton d a)) (signed b_negated (table_automaton d b)) (map named_pair lines) (table_automaton d c)

  pub table-right : IsTable → (s : ℕ) → IsSpace g s → IsRight g d a b lines c s
  table-right table s inside = record {
    starts = table.initial s inside;
    goes = λ p q x p' q' y label from_left from_right. table.step s p q x p' q' y label inside from_left from_right;
  }

  pub table-alike : IsTable → AcceptAlike a a_negated b b_negated c lines
  table-alike table pair listed here = table.accepting pair.first pair.second pair.state (line-goes lines 0 pair listed here)

  pub right-table : IsOnePerKey lines → ((s : ℕ) → s < length g → IsRight g d a b lines c s) → AcceptAlike a a_negated b b_negated c lines → IsTable
  right-table one right alike = record {
    initial = λ s inside. (right s inside).starts;
    step = λ s p q x p' q' y label inside from_left from_right. (right s inside).goes p q x p' q' y label from_left from_right;
    accepting = λ p q x goes.
        let l = line-of lines 0 p q x goes in
        ap (λ (n : ℕ). accepts_signed a a_negated n && accepts_signed b b_negated q) (sym l.is_first)
        ∙ ap (λ (n : ℕ). accepts_signed a a_negated l.line.first && accepts_signed b b_negated n) (sym l.is_second)
        ∙ alike l.line l.listed l.in_space
        ∙ ap (accepts_in c) l.is_state;
    once = λ s p q x y to_x to_y. goes-once lines s p q x y one to_x to_y;
  }

  -- one space more
  pub right-next : (s : ℕ) → ((k : ℕ) → k < s → IsRight g d a b lines c k) → IsRight g d a b lines c s → (k : ℕ) → k < s + 1 → IsRight g d a b lines c k
  right-next s before here k below = elim (cases_lt k s) [
    | inl earlier ↦ before k earlier
    | inr from ↦ subst (IsRight g d a b lines c) (let e : s ≡ k = omega (arith, from, below) in e) here
  ]

  pub whole : (result : Bool) (n : ℕ) → length g ≤ n → IsOnePerKey lines → ((k : ℕ) → k < n → IsRight g d a b lines c k) →
      IsTrue result ↔ AcceptAlike a a_negated b b_negated c lines → IsTrue result ↔ IsTable
  whole result n all one right is = (
    (λ yes. right-table one (λ s inside. right s (omega (arith, inside, all))) (is.0 yes)),
    (λ table. is.1 (table-alike table)),
  )
