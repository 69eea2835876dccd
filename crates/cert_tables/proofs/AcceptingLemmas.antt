-- Where sets accept, and that no set goes to two states.
use Rattle.std.proofs.Common.{◌≡◌, ℕ, Bool, true, false, List, map, Contains, refl, ap, ◌∙◌, subst}
use Rattle.std.specs.Prelude.{◌↔◌, IsTrue}
use Rattle.std.specs.List.{list_any}
use Rattle.std.proofs.lemmas.Bool.{false≢true}
use Rattle.std.proofs.lemmas.List.Folds.{Any-from_list_any, list_any_at}
use Rattle.gta_theory.specs.Automata.{Automaton}
use Rattle.gta_theory.specs.Constructions.{HasAccepting}
use Rattle.gta_theory.proofs.ListsLemmas.{Contains-map, Contains-mapped}
use Rattle.cert_text.specs.declared.line.SetLine.{SetLine}
use Rattle.cert_theory.specs.Tables.{NamedSet, SetGoesTo}
use Rattle.cert_nodes.specs.declared.spots.Diagrams.{Diagrams}
use Rattle.cert_tables.specs.declared.table.Table.{Table}
use Rattle.cert_tables.specs.Automata.{signed, accepts_in, accepts_signed, table_automaton}
use Rattle.cert_tables.specs.Accepting.{AcceptBySome}
use Rattle.cert_tables.specs.SetKeys.{named_set, AreSets}
use Rattle.cert_tables.specs.Sets.{HasSame}
use Rattle.cert_tables.proofs.SetsLemmas.{set-by-goes, has-once}

same-bool : (b c : Bool) → (IsTrue b → IsTrue c) → (IsTrue c → IsTrue b) → b ≡ c
same-bool true true into back = refl
same-bool true false into back = absurd (false≢true (into refl))
same-bool false true into back = absurd (false≢true (back refl))
same-bool false false into back = refl

module _ (d : Diagrams) (a : Table) (a_negated : Bool) where
  abbrev Part : Automaton ℕ
  Part = signed a_negated (table_automaton d a)

  some-accepting : (members : List ℕ) → IsTrue (list_any (accepts_signed a a_negated) members) ↔ HasAccepting Part (Contains members)
  some-accepting members = (
    (λ yes.
        let (k, q, inside, at, test) = Any-from_list_any (accepts_signed a a_negated) members yes in
        record { state = q; inside = (k, inside, at); accepting = test }),
    (λ has. list_any_at (accepts_signed a a_negated) members has.inside.0 has.state has.inside.1
        (ap (accepts_signed a a_negated) has.inside.2 ∙ has.accepting)),
  )

  pub accepting-by-some : (c : Table) (lines : List SetLine) → AcceptBySome a a_negated c lines →
      (set : NamedSet) → Contains (map named_set lines) set → set.space ≡ 0 →
      IsTrue ((table_automaton d c).accepting set.state) ↔ HasAccepting (signed a_negated (table_automaton d a)) (Contains set.members)
  accepting-by-some c lines alike set listed here =
      let l = Contains-mapped named_set lines set listed in
      let there = alike l.0 l.1 (ap (λ (n : NamedSet). n.space) l.2 ∙ here) in
      subst (λ (n : NamedSet). IsTrue (accepts_in c n.state) ↔ HasAccepting Part (Contains n.members)) l.2
      (subst (λ (b : Bool). IsTrue b ↔ HasAccepting Part (Contains l.0.members)) there (some-accepting l.0.members))

  pub some-by-accepting : (c : Table) (lines : List SetLine) →
      ((set : NamedSet) → Contains (map named_set lines) set → set.space ≡ 0 →
      IsTrue ((table_automaton d c).accepting set.state) ↔ HasAccepting (signed a_negated (table_automaton d a)) (Contains set.members)) →
      AcceptBySome a a_negated c lines
  some-by-accepting c lines accept line listed here =
      let is = accept (named_set line) (Contains-map named_set lines line listed) here in
      same-bool (list_any (accepts_signed a a_negated) line.members) (accepts_in c line.state)
      (λ yes. is.1 ((some-accepting line.members).0 yes)) (λ yes. (some-accepting line.members).1 (is.0 yes))

pub sets-once : (lines : List SetLine) → AreSets lines → (k m : NamedSet) → Contains (map named_set lines) k → Contains (map named_set lines) m →
    k.space ≡ m.space → ((q : ℕ) → Contains k.members q ↔ Contains m.members q) → k.state ≡ m.state
sets-once lines sets k m in_k in_m space same =
    let r = Contains-mapped named_set lines m in_m in
    let of_m : HasSame r.0.members m.members =
    subst (λ (n : NamedSet). HasSame r.0.members n.members) r.2 (λ q. ((λ listed. listed), (λ listed. listed))) in
    let goes_k : SetGoesTo (map named_set lines) m.space (Contains m.members) k.state =
    record { set = k; listed = in_k; in_space = space; exactly = same; is_state = refl } in
    let goes_m : SetGoesTo (map named_set lines) m.space (Contains m.members) m.state =
    record { set = m; listed = in_m; in_space = refl; exactly = λ q. ((λ listed. listed), (λ listed. listed)); is_state = refl } in
    has-once lines m.space r.0.members k.state m.state sets
    (set-by-goes lines m.space r.0.members k.state m.members sets (sets.rising r.0 r.1) of_m goes_k)
    (set-by-goes lines m.space r.0.members m.state m.members sets (sets.rising r.0 r.1) of_m goes_m)
