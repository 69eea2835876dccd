-- `pre` and `post` of a procedure: what they are, and what is refused first, in this order.
use Rattle.pale_syntax.specs.declared.tree.declaration.Procedure.{Procedure}
use Rattle.pale_tables.specs.Faults.{Fault, ◌>>◌}
use Rattle.pale_vocabulary.specs.declared.vocabulary.Declared.{Declared}
use Rattle.pale_sights.specs.declared.sights.Heading.{Heading}
use Rattle.pale_sights.specs.Sights.{pre_sight, post_sight}
use Rattle.pale_procedures.specs.declared.claims.Claims.{Claims}
use Rattle.pale_procedures.specs.Stated.{stated_or_true, stated_fault}

abbrev pub claims_of : Declared → Heading → Procedure → Claims
claims_of declared h p = record { pre = stated_or_true declared (pre_sight h) p.pre; post = stated_or_true declared (post_sight h) p.post }

unfoldable pub claims_fault : Declared → Heading → Procedure → Fault
claims_fault declared h p = stated_fault declared (pre_sight h) p.pre >> stated_fault declared (post_sight h) p.post
