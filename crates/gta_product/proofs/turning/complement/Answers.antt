use Rattle.std.proofs.Common.{sym, subst}
use Rattle.gta_core.specs.Auto.{AutoView, states_of, automaton_of, IsAuto}
use Rattle.gta_product.specs.Complement.{IsComplement}
use Rattle.gta_product.proofs.ComplementLemmas.{IsAuto-turned, IsComplement-turned, Accepts-turned}
use Rattle.gta_product.proofs.turning.complement.Goals as goal

pub returns-clause-auto : goal.returns-clause-auto
returns-clause-auto c = λ g shelf auto. subst (IsAuto g shelf) (sym c.turned_over.ensures.value) (IsAuto-turned c.args.a
    c.turned_over.ensures.whole g shelf auto)

pub returns-clause-complement : goal.returns-clause-complement
returns-clause-complement c = λ shelf.
    subst (λ (v : AutoView). IsComplement (automaton_of shelf c.args.a) (automaton_of shelf v) (states_of c.args.a 0)) (sym c.turned_over.ensures.value)
    (IsComplement-turned c.args.a c.turned_over.ensures.whole shelf)

pub returns-clause-accepts : goal.returns-clause-accepts
returns-clause-accepts c =
    rw c.turned_over.ensures.value (λ g shelf auto depth x covers. Accepts-turned c.args.a c.turned_over.ensures.whole g shelf auto depth x covers)
