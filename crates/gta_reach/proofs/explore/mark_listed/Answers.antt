-- A leaf is a generated state.
use Rattle.std.proofs.Common.{List, Bool, sym, subst}
use Rattle.bdd_list.specs.declared.listing.Listed.TheVariants.{Leaf}
use Rattle.gta_reach.specs.Reached.{AreGenerated}
use Rattle.gta_reach.specs.Exploring.{GivesGenerated}
use Rattle.gta_reach.proofs.ExploreLemmas.{AreGenerated-mark, space-inside, generated-leaf}
use Rattle.gta_reach.proofs.explore.mark_listed.Goals as goal

pub returns-in-Leaf-clause-met : goal.returns-in-Leaf-clause-met
returns-in-Leaf-clause-met c = λ form met gives.
    let s = c.args.s in
    let q = c.in-Leaf.state in
    let leaf : GivesGenerated form s (Leaf q) = subst (GivesGenerated form s) c.in-Leaf.is gives in
    record {
      states = subst (λ (marks : List (List Bool)). AreGenerated form marks) (sym c.mark_in.ensures.marks)
          (AreGenerated-mark form c.args.met.now.states.items met.states s q (space-inside form s (Leaf q) leaf) (generated-leaf form s q leaf));
      waiting = met.waiting;
    }

pub returns-in-Inner-clause-met : goal.returns-in-Inner-clause-met
returns-in-Inner-clause-met c = λ form met gives. record { states = met.states; waiting = met.waiting }
