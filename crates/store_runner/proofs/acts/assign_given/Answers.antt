use Rattle.store_runner.proofs.FieldLemmas.{given-class}
use Rattle.store_runner.proofs.acts.assign_given.Goals as goal

pub write-requires : goal.write-requires
write-requires c = given-class c.args.types.now c.args.store.now _ c.args.through c.args.last c.args.rhs.now c.in_ok-value.value c.evaluate.result
    c.requires.class c.evaluate.ensures.told c.in_ok-value.was
