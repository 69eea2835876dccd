use Rattle.ws2s_facts.proofs.facts.Facts.found_atom.Goals as goal

pub returns : goal.returns
returns c = record { exactly = λ formulas known t. c.in_ok-tracks.ensures t }
