use Rattle.gta_form.proofs.FormLemmas.{AreSpacesOf}
use Rattle.gta_form.proofs.listed.form_of.Given as goal

abbrev pub invariant-loop-space : goal.invariant-loop-space
invariant-loop-space l = AreSpacesOf l.g l.shelf l.a l.spaces l.space
