-- One state after the other.
use Rattle.std.proofs.Common.{ℕ, List, [], take, get_or, nat_eq, refl, sym, ap, subst, arith}
use Rattle.std.specs.List.{list_any}
use Rattle.std.proofs.lemmas.List.{take_more, take_all}
use Rattle.std.specs.Prelude.{Contains}
use Rattle.gta_subsets.specs.Classes.{HaveClasses}
use Rattle.gta_subsets.proofs.ShortsLemmas.{Shortens, Shortens-none, Shortens-step, HaveClasses-short}
use Rattle.gta_subsets.proofs.shorts.one_a_class.Goals as goal

pub returns-then-set-lt2-clause-classes : goal.returns-then-set-lt2-clause-classes
returns-then-set-lt2-clause-classes c =
    subst (λ (xs : List ℕ). HaveClasses c.args.classes.now c.args.set.now xs) (sym c.in_ok-same.ensures)
    (record { there = λ q q_in. (q, q_in, refl); back = λ r r_in. (r, r_in, refl) })

pub returns-then-set-lt2-clause-inside : goal.returns-then-set-lt2-clause-inside
returns-then-set-lt2-clause-inside c = λ q q_in. subst (λ (xs : List ℕ). Contains xs q) c.in_ok-same.ensures q_in

pub loop-state-init : goal.loop-state-init
loop-state-init c = subst (λ (xs : List ℕ). Shortens c.args.classes.now [] c.new-seen.result xs) (sym c.new-short.ensures)
    (Shortens-none c.args.classes.now c.new-seen.result
    (λ class. ap (λ (ks : List ℕ). list_any (nat_eq class) ks) c.new-seen.ensures.empty))

pub loop-state-preserved : goal.loop-state-preserved
loop-state-preserved c =
    let i = c.loop-state.state-index in
    let set = c.args.set.now in
    subst (λ (xs : List ℕ). Shortens c.args.classes.now xs c.note_state.new.seen c.note_state.new.short) (sym (take_more set i 0 (omega arith)))
    (Shortens-step c.args.classes.now (take i set) c.loop-state.seen c.loop-state.short (get_or set i 0) c.loop-state.invariant c.note_state.new.seen
    c.note_state.new.short c.in_ok-note_state.ensures)

pub returns-clause-classes : goal.returns-clause-classes
returns-clause-classes c =
    let set = c.args.set.now in
    HaveClasses-short c.args.classes.now set c.loop-state.seen c.loop-state.short
    (subst (λ (xs : List ℕ). Shortens c.args.classes.now xs c.loop-state.seen c.loop-state.short)
    (take_all c.loop-state.state-index set (omega arith)) c.loop-state.invariant)

pub returns-clause-inside : goal.returns-clause-inside
returns-clause-inside c =
    let set = c.args.set.now in
    (subst (λ (xs : List ℕ). Shortens c.args.classes.now xs c.loop-state.seen c.loop-state.short)
    (take_all c.loop-state.state-index set (omega arith)) c.loop-state.invariant).inside
