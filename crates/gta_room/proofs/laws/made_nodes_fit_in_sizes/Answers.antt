use Rattle.gta_theory.specs.Automata.{Has}
use Rattle.gta_room.proofs.ProgressLemmas.{room-new, limit-stuck}
use Rattle.gta_room.proofs.laws.made_nodes_fit_in_sizes.Goals as goal

pub returns-clause-room : goal.returns-clause-room
returns-clause-room c = λ g A states n old new size adds. room-new g A (Has states) n size old new adds

pub returns-clause-limit : goal.returns-clause-limit
returns-clause-limit c = λ g A states n old new size adds stuck. limit-stuck g A (Has states) n size old new adds stuck
