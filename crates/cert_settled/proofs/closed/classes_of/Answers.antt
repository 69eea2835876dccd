use Rattle.std.proofs.Common.{ℕ, List, [], ◌∷◌, ◌++◌, map, take, get_or, Contains, sym, subst, eqb-true}
use Rattle.std.specs.Prelude.{◌↔◌, nat_eq}
use Rattle.std.proofs.lemmas.List.{take_all, map_more}
use Rattle.cert_theory.specs.Tables.{PlacedState}
use Rattle.cert_tables.proofs.InsertedLemmas.{insert-either}
use Rattle.cert_settled.specs.declared.states.Placed.{Placed}
use Rattle.cert_settled.specs.Settling.{placed, HasClass}
use Rattle.cert_settled.proofs.ClosedLemmas.{class-insert, class-skip}
use Rattle.cert_settled.proofs.closed.classes_of.Goals as goal
use Rattle.cert_settled.proofs.closed.classes_of.Goals.{then-state-child+in_ok-insert_full, else-state-child}

pub loop-state-preserved : goal.loop-state-preserved
loop-state-preserved c =
    let r = c.args.is_right in
    let s = c.args.space in
    let child = c.args.child in
    let a = c.args.a.now in
    let states = c.args.states.now in
    let i = c.loop-state.state-index in
    let none : Placed = record { space = 0; state = 0 } in
    let list = map placed (take i states) in
    let p = placed (get_or states i none) in
    let old = c.loop-state.classes.keys in
    let more = sym (map_more placed states i none c.loop-state-test.true) in
    elim c.if-state-child.branch [
      | then-state-child+in_ok-insert_full w ↦
          let new = w.insert_full.new.self.keys in
          let are : (k : ℕ) → Contains new k ↔ HasClass r s child a (list ++ p ∷ []) k =
          class-insert r s child a list p old new w.class.result c.loop-state.invariant w.if-state-child.true w.class.ensures
          (insert-either nat_eq (λ x y e. eqb-true x y e) old new w.class.result w.in_ok-insert_full.ensures.keys) in
          subst (λ (l : List PlacedState). (k : ℕ) → Contains c.if-state-child.classes.keys k ↔ HasClass r s child a l k) more
          (subst (λ (keys : List ℕ). (k : ℕ) → Contains keys k ↔ HasClass r s child a (list ++ p ∷ []) k) (λ j. (sym w.classes-is j).keys) are)
      | else-state-child w ↦
          let are : (k : ℕ) → Contains old k ↔ HasClass r s child a (list ++ p ∷ []) k =
          class-skip r s child a list p old c.loop-state.invariant w.if-state-child.false in
          subst (λ (l : List PlacedState). (k : ℕ) → Contains c.if-state-child.classes.keys k ↔ HasClass r s child a l k) more
          (subst (λ (keys : List ℕ). (k : ℕ) → Contains keys k ↔ HasClass r s child a (list ++ p ∷ []) k) (λ j. (sym w.classes-is j).keys) are)
    ]

pub returns : goal.returns
returns c =
    subst (λ (states : List Placed). (k : ℕ) → Contains c.loop-state.classes.keys k
    ↔ HasClass c.args.is_right c.args.space c.args.child c.args.a.now (map placed states) k)
    (take_all c.loop-state.state-index c.args.states.now c.loop-state-test.false) c.loop-state.invariant
