use Rattle.std.proofs.Common.{◌≡◌, ℕ, List, Option, Some, inl, inr, refl, sym, ◌∙◌, ap, subst}
use Rattle.std.specs.Prelude.{map, slice_index}
use Rattle.bdd_walk.specs.Sets.{IsSet}
use Rattle.bdd_walk.proofs.SetsLemmas.{set_of-twice}
use Rattle.gta_subsets.specs.Numbers.{number_in, Grows}
use Rattle.gta_project.proofs.KeyedLemmas.{IsKeyed-more, IsKeyed-same}
use Rattle.gta_project.proofs.GrowingLemmas.{contains-at, Notes-only}
use Rattle.gta_project.proofs.growing.Seen.look.Goals as goal

pub loop-k-init : goal.loop-k-init
loop-k-init c = record { only = λ x there. inl there; keyed = λ is. is }

pub key_of-requires : goal.key_of-requires
key_of-requires c = c.requires c.loop-k.k c.set-set.result.now c.set-set.ensures

pub number-requires : goal.number-requires
number-requires c = subst (λ (set : List ℕ). IsSet set) (sym c.in_ok-key.ensures) (set_of-twice (map (slice_index c.args.states.now) c.set-set.result.now))

pub loop-k-preserved : goal.loop-k-preserved
loop-k-preserved c =
    let set = c.set-set.result.now in
    let states = c.args.states.now in
    let within = c.requires c.loop-k.k set c.set-set.ensures in
    let e = c.in_ok-class.ensures in
    let key = c.in_ok-key.ensures in
    record {
      only = λ x there. elim (Notes-only c.in_ok-class.class set c.loop-k.self.ones c.note.new.ones c.in_ok-note.ensures x there) [
        | inl before ↦ c.loop-k.invariant.only x before
        | inr is ↦ inr (contains-at c.args.sets.now c.loop-k.k x
            (c.set-set.ensures ∙ ap (λ (p : List ℕ). let o : Option (List ℕ) = Some p in o) (sym is)))
      ];
      keyed = λ was. IsKeyed-more states c.loop-k.self _ set c.in_ok-class.class within e.numbers
          (subst (λ (s : List ℕ). number_in c.number.new.self s ≡ Some c.in_ok-class.class) key e.value) e.place
          (subst (λ (s : List ℕ). Grows c.loop-k.self.keys c.number.new.self s) key e.grows) c.in_ok-note.ensures (c.loop-k.invariant.keyed was);
    }

pub returns-clause-only : goal.returns-clause-only
returns-clause-only c = c.loop-k.invariant.only

pub returns-clause-keyed : goal.returns-clause-keyed
returns-clause-keyed c = λ was. IsKeyed-same c.args.states.now c.loop-k.self _ refl refl (c.loop-k.invariant.keyed was)
