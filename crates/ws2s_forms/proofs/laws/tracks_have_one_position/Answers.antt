use Rattle.gta_theory.proofs.AssignmentsLemmas.{replace-other}
use Rattle.ws2s_forms.specs.Places.{just}
use Rattle.ws2s_forms.proofs.PositionsLemmas.{IsOnly-just, bound_same}
use Rattle.ws2s_forms.proofs.LawsLemmas.{WSat-just, IsFinite-position}
use Rattle.ws2s_forms.proofs.laws.tracks_have_one_position.Goals as goal

pub returns : goal.returns
returns c = record {
  here = λ a t u. (bound_same a t (just u) u).1 (IsOnly-just u);
  elsewhere = λ a t x u other. replace-other a t x (just u) other;
  finite = IsFinite-position;
  same = WSat-just;
}
