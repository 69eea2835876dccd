use Rattle.std.proofs.Common.{◌≡◌, ◌+◌, ℕ, List, [], ◌∷◌, ◌++◌, take, get_or, Option, Some, sym, ◌∙◌, ap, subst, arith}
use Rattle.std.proofs.lemmas.List.{take_more}
use Rattle.std.proofs.lemmas.Option.{slice_get-get_or}
use Rattle.std.specs.Prelude.{map, slice_index}
use Rattle.bdd_walk.specs.Sets.{IsSet}
use Rattle.bdd_walk.proofs.SetsLemmas.{set_of-twice}
use Rattle.gta_subsets.specs.Numbers.{number_in, Grows}
use Rattle.gta_subsets.specs.Classes.{AreKeyed}
use Rattle.gta_subsets.proofs.ClassesLemmas.{AreKeyed-more}
use Rattle.gta_subsets.proofs.classes.classify.Goals as goal

same_set : (a b : List ℕ) → ◌≡◌ {A = Option (List ℕ)} (Some a) (Some b) → a ≡ b
same_set a b e = cc

pub key_of-requires : goal.key_of-requires
key_of-requires c = c.requires c.loop-k.k c.set-set.result.now c.set-set.ensures

pub loop-k-preserved : goal.loop-k-preserved
loop-k-preserved c =
    let k = c.loop-k.k in
    let sets = c.args.sets.now in
    let states = c.args.states.now in
    let set = c.set-set.result.now in
    let within = c.requires k set c.set-set.ensures in
    let e = c.in_ok-class.ensures in
    let key = c.in_ok-key.ensures in
    let more = AreKeyed-more (take k sets) states c.loop-k.of c.loop-k.ones c.loop-k.keys c.note.new.ones c.number.new.self
    set c.in_ok-class.class c.loop-k.invariant within e.numbers
    (subst (λ (s : List ℕ). number_in c.number.new.self s ≡ Some c.in_ok-class.class) key e.value) e.place
    (subst (λ (s : List ℕ). Grows c.loop-k.keys c.number.new.self s) key e.grows) c.in_ok-note.ensures in
    let is : get_or sets k [] ≡ set = same_set _ _ (sym (slice_get-get_or sets k [] (omega arith)) ∙ c.set-set.ensures) in
    subst (λ (of : List ℕ). AreKeyed (take (k + 1) sets) states of c.note.new.ones c.number.new.self) (sym c.in_ok-push.ensures.ok)
    (subst (λ (ps : List (List ℕ)). AreKeyed ps states (c.loop-k.of ++ c.in_ok-class.class ∷ []) c.note.new.ones c.number.new.self)
    (sym (take_more sets k [] (omega arith) ∙ ap (λ (s : List ℕ). take k sets ++ s ∷ []) is)) more)

pub number-requires : goal.number-requires
number-requires c = subst (λ (set : List ℕ). IsSet set) (sym c.in_ok-key.ensures) (set_of-twice (map (slice_index c.args.states.now) c.set-set.result.now))
