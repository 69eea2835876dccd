-- On verdicts on formulas that are easier to decide.
use Rattle.std.proofs.Common.{◌≡◌, ℕ, zero, suc, ◌≤◌, Bool, true, false, cond, List, [], ◌∷◌, ◌<◌, arith, Contains, ap, subst, ◌∙◌, slice_get, Some}
use Rattle.std.proofs.lemmas.Option.{slice_get_within}
use Rattle.bdd_nodes.specs.Shelf.{Contents}
use Rattle.gta_core.specs.Auto.{AutoView}
use Rattle.gta_theory.specs.Guides.{Spaces}
use Rattle.gta_theory.proofs.AssignmentsLemmas.{Covers-finite}
use Rattle.gta_theory.proofs.ListedLemmas.{slice_get-front}
use Rattle.ws2s_core.specs.declared.formula.Formula.{Formula}
use Rattle.ws2s_core.specs.declared.node.FormulaId.{FormulaId}
use Rattle.ws2s_core.specs.declared.track.Track.{Track}
use Rattle.ws2s_core.specs.LabelTrees.{assignment_of}
use Rattle.ws2s_core.specs.Nodes.{Extends}
use Rattle.gta_witness.specs.Lightest.{is_among, each_once}
use Rattle.gta_witness.proofs.LargeLemmas.{AreTooLarge-for}
use Rattle.ws2s_core.specs.Satisfaction.{WSat, Same}
use Rattle.ws2s_context.specs.Opening.{AreOf, IsOpened}
use Rattle.ws2s_core.proofs.LabelTreesLemmas.{Covers-tree}
use Rattle.ws2s_decide.specs.declared.verdict.Verdict.{Verdict}
use Rattle.ws2s_decide.specs.Deciding.{IsVerdict}
use Rattle.ws2s_decide.specs.Telling.{TellsOf}
use Rattle.ws2s_decide.specs.Going.{Rests}
use Rattle.ws2s_decide.proofs.RestsLemmas.{AllKept-extends}
use Rattle.std.proofs.Common.{length}

-- a verdict on a formula is one on each that is the same
pub IsVerdict-same : (tracks : List Track) (f g : Formula) (verdict : Verdict) → Same f g → IsVerdict tracks g verdict → IsVerdict tracks f verdict
IsVerdict-same tracks f g Verdict.None same none =
    λ n a covers sat. none n a covers ((same.satisfied a (Covers-finite n a covers)).0 sat)
IsVerdict-same tracks f g (Verdict.Witness nodes w) same model = record {
  satisfies = (same.satisfied (assignment_of nodes) (Covers-finite (length nodes) (assignment_of nodes) (Covers-tree nodes))).1 model.satisfies;
  weighs = model.weighs;
  room = model.room;
  least = λ n a covers sat. model.least n a covers ((same.satisfied a (Covers-finite n a covers)).0 sat);
}
IsVerdict-same tracks f g Verdict.TooLarge same large = AreTooLarge-for (WSat g) (WSat f) (each_once tracks)
    (λ n a covers. (same.satisfied a (Covers-finite n a covers)).1) (λ n a covers. (same.satisfied a (Covers-finite n a covers)).0) large
IsVerdict-same tracks f g Verdict.Limit same any = tt

-- the tracks of a list, each once, are of the list
Contains-later : (track : Track) (tracks : List Track) (t : Track) → Contains tracks t → Contains (track ∷ tracks) t
Contains-later track tracks t (k, below, e) = (suc k, omega (arith, below), e)

each_once-step : (track : Track) (tracks : List Track) (t : Track) → (Contains (each_once tracks) t.0 → Contains tracks t) → (b : Bool) →
    Contains (cond b (each_once tracks) (track.0 ∷ each_once tracks)) t.0 → Contains (track ∷ tracks) t
each_once-step track tracks t rest true h = Contains-later track tracks t (rest h)
each_once-step track tracks t rest false (zero, below, e) = (0, omega arith, ap (λ (n : ℕ). let u : Track = record { 0 = n } in u) e)
each_once-step track tracks t rest false (suc k, below, e) = Contains-later track tracks t (rest (k, omega (arith, below), e))

pub each_once-of : (tracks : List Track) → AreOf tracks (each_once tracks)
each_once-of [] t (k, below, e) = absurd (no-below k below)
  where
    no-below : (k : ℕ) → k < 0 → ⊥
    no-below k below = omega (arith, below)
each_once-of (track ∷ tracks) t there =
    each_once-step track tracks t (each_once-of tracks t) (is_among tracks track.0) there

-- a formula with quantifiers opened tells of the formula
pub TellsOf-opened : (tracks : List Track) (f g : Formula) → ((ts : List ℕ) → AreOf tracks ts → IsOpened ts f g) → TellsOf tracks g f
TellsOf-opened tracks f g opened =
    let one = opened (each_once tracks) (each_once-of tracks) in
    record {
      none = λ none n a covers sat.
          let b = one.satisfied n a covers sat in
          none b.depth b.assignment b.covers b.satisfied;
      model = λ nodes w model. record {
        satisfies = one.satisfies (assignment_of nodes) (Covers-finite (length nodes) (assignment_of nodes) (Covers-tree nodes)) model.satisfies;
        weighs = model.weighs;
        room = model.room;
        least = λ n a covers sat.
            let b = one.satisfied n a covers sat in
            subst (λ v. w ≤ v) b.is_weight (model.least b.depth b.assignment b.covers b.satisfied);
      };
    }

-- and of each that is the same
pub TellsOf-same : (tracks : List Track) (f h g : Formula) → Same f h → TellsOf tracks g h → TellsOf tracks g f
TellsOf-same tracks f h g same tells = record {
  none = λ none. IsVerdict-same tracks f h Verdict.None same (tells.none none);
  model = λ nodes w model. IsVerdict-same tracks f h (Verdict.Witness nodes w) same (tells.model nodes w model);
}

-- what rests still does where more formulas have numbers
pub Rests-extends : (g : Spaces) (old new : List Formula) (shelf : Contents) (automata : List AutoView) (kept : List (FormulaId × AutoView)) → Extends old new →
    Rests g old shelf automata kept → Rests g new shelf automata kept
Rests-extends g old new shelf automata kept extends rests = record {
  holds = rests.holds;
  kept_for = AllKept-extends g shelf old new kept extends rests.kept_for;
}

-- a formula keeps its number
pub there-still : (old new : List Formula) (k : ℕ) (f : Formula) → Extends old new → slice_get old k ≡ Some f → slice_get new k ≡ Some f
there-still old new k f extends e =
    ap (λ formulas. slice_get formulas k) extends.is ∙ slice_get-front old extends.more k (slice_get_within old k f e) ∙ e
