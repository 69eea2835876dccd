use Rattle.std.proofs.Common.{ℕ, List, [], ◌∷◌, ◌++◌, map, take, get_or, Contains, sym, subst}
use Rattle.std.specs.Prelude.{◌↔◌}
use Rattle.std.proofs.lemmas.List.{take_all, map_more}
use Rattle.cert_theory.specs.Tables.{PlacedState, Lists}
use Rattle.cert_settled.specs.declared.states.Placed.{Placed}
use Rattle.cert_settled.specs.Settling.{placed}
use Rattle.cert_settled.proofs.QuantifiedLemmas.{in-insert, in-skip}
use Rattle.cert_settled.proofs.quantified.states_in.Goals as goal
use Rattle.cert_settled.proofs.quantified.states_in.Goals.{then-state-space+in_ok-push, else-state-space}

pub loop-state-preserved : goal.loop-state-preserved
loop-state-preserved c =
    let s = c.args.space in
    let states = c.args.states.now in
    let i = c.loop-state.state-index in
    let none : Placed = record { space = 0; state = 0 } in
    let list = map placed (take i states) in
    let p = placed (get_or states i none) in
    let old = c.loop-state.members.items in
    let more = sym (map_more placed states i none c.loop-state-test.true) in
    let Lists_all : List ℕ → Type 0 = λ (ms : List ℕ). (q : ℕ) → Contains ms q ↔ Lists (list ++ p ∷ []) s q in
    subst (λ (l : List PlacedState). (q : ℕ) → Contains c.if-state-space.members.items q ↔ Lists l s q) more
    (elim c.if-state-space.branch as (λ _. Lists_all c.if-state-space.members.items) [
      | then-state-space+in_ok-push w ↦
          subst Lists_all (λ j. (sym w.members-is j).items)
          (subst Lists_all (sym w.in_ok-push.ensures.items) (in-insert s list p old c.loop-state.invariant w.if-state-space.true))
      | else-state-space w ↦
          subst Lists_all (λ j. (sym w.members-is j).items) (in-skip s list p old c.loop-state.invariant w.if-state-space.false)
    ])

pub returns : goal.returns
returns c =
    subst (λ (states : List Placed). (q : ℕ) → Contains c.loop-state.members.items q ↔ Lists (map placed states) c.args.space q)
    (take_all c.loop-state.state-index c.args.states.now c.loop-state-test.false) c.loop-state.invariant
