use Rattle.ws2s_facts.proofs.FactsLemmas.{AreFacts-extends}
use Rattle.ws2s_facts.proofs.facts.make.Goals as goal

pub add-requires : goal.add-requires
add-requires c =
    AreFacts-extends c.args.interner.now c.intern_form.new.interner c.args.facts.now.facts.items c.intern_form.ensures.kept c.requires.facts
