-- On a machine from its first task to its last.
use Rattle.std.proofs.Common.{◌≡◌, ℕ, ◌+◌, ◌<◌, ◌≤◌, List, [], ◌∷◌, Some, slice_get, refl, sym, subst, arith}
use Rattle.std.proofs.lemmas.Option.{slice_get_within}
use Rattle.std.proofs.lemmas.List.Elements.{All-nil, All-cons}
use Rattle.bdd_nodes.specs.Shelf.{Contents, limit_of}
use Rattle.gta_theory.specs.Guides.{Spaces, IsGuide}
use Rattle.gta_core.specs.Auto.{AutoView}
use Rattle.ws2s_core.specs.declared.formula.Formula.{Formula}
use Rattle.ws2s_core.specs.declared.node.FormulaId.{FormulaId}
use Rattle.ws2s_core.specs.Nodes.{formula_at}
use Rattle.ws2s_decide.specs.declared.task.Task.{Task}
use Rattle.gta_keep.specs.Holding.{IsMinimalFor, AreMinimalFor, Passes, none, more}
use Rattle.ws2s_theory.specs.Peaks.{HasPeak}
use Rattle.ws2s_theory.proofs.PeaksLemmas.{HasPeak-unique}
use Rattle.ws2s_decide.specs.Tasks.{Makes, HasSum}
use Rattle.ws2s_decide.specs.Going.{Moment, moment, Rests, IsNamedIn, steps_of, Stands, Advances, Follows, NeedsMore, IsGoing, HasMade, EndsWith}
use Rattle.ws2s_decide.proofs.FitsLemmas.{none-waits}
use Rattle.ws2s_decide.proofs.StepsLemmas.{formula-at}
use Rattle.ws2s_decide.proofs.StandsLemmas.{Stands-passed}

-- ---- from the first task to the last

module _ (g : Spaces) (formulas : List Formula) where
  pub Follows-step : (old middle new : Moment) → Follows g formulas old middle → Advances g formulas middle new → Follows g formulas old new
  Follows-step old middle new follows advances stack out stands =
      let later = follows stack out stands in
      let on = advances later.stack' out later.stands in
      record { stack' = on.stack'; stands = on.stands; fits = λ n fits. (on.goes).fits n (later.fits n fits) }

  pub Follows-passed : (old : Moment) (shelf new : Contents) (tasks : List Task) (autos : List AutoView) (before after : List (FormulaId × AutoView)) →
      Passes g shelf new [] [] before after → Follows g formulas old (moment shelf tasks autos before) → Follows g formulas old (moment new tasks autos after)
  Follows-passed old shelf new tasks autos before after passes follows stack out stands =
      let later = follows stack out stands in
      record {
        stack' = later.stack';
        stands = Stands-passed g formulas shelf new tasks autos before after passes later.stack' out later.stands;
        fits = later.fits;
      }

  pub IsGoing-follows : (old new : Moment) → Follows g formulas old new → IsGoing g formulas old → IsGoing g formulas new
  IsGoing-follows old new follows going =
      let later = follows going.stack going.out going.stands in
      record { stack = later.stack'; out = going.out; stands = later.stands }

  pub NeedsMore-follows : (old new : Moment) → Follows g formulas old new → limit_of new.shelf ≡ limit_of old.shelf → NeedsMore g formulas new →
      NeedsMore g formulas old
  NeedsMore-follows old new follows same needs stack out n stands fits =
      let later = follows stack out stands in
      subst (λ (limit : ℕ). limit < n) same (needs later.stack' out n later.stands (later.fits n fits))

  -- where nothing is to be done, the formula's automaton waits alone
  made : (now : Moment) (automata : List AutoView) (stack : List Formula) (out : Formula) → now.automata ≡ automata →
      Rests g formulas now.shelf now.automata now.kept → AreMinimalFor g now.shelf automata stack → Makes [] stack out → HasMade g formulas now out
  made now (a ∷ []) (f ∷ []) out is rests (more _ _ _ _ first none) makes = record {
    auto = a;
    alone = is;
    minimal = subst (IsMinimalFor g now.shelf a) makes first;
    rests = rests;
  }
  made now [] [] out is rests minimal makes = absurd makes
  made now (a ∷ autos) [] out is rests minimal makes = absurd makes
  made now autos (h ∷ (f ∷ stack)) out is rests minimal makes = absurd makes
  made now [] (f ∷ []) out is rests minimal makes = elim minimal [ ]
  made now (a ∷ (b ∷ autos)) (f ∷ []) out is rests (more _ _ _ _ first others) makes = elim others [ ]

  pub ends : (old now : Moment) → now.tasks ≡ [] → Follows g formulas old now → EndsWith g formulas old now
  ends old now is follows stack out stands =
      let later = follows stack out stands in
      made now now.automata later.stack' out refl (later.stands).rests (later.stands).minimal
      (subst (λ (tasks : List Task). Makes (steps_of formulas tasks) later.stack' out) is (later.stands).makes)

  -- the first visit
  pub Stands-first : (shelf : Contents) (id : FormulaId) (kept : List (FormulaId × AutoView)) (f : Formula) → slice_get formulas id.0 ≡ Some f →
      Rests g formulas shelf [] kept → Stands g formulas (moment shelf (Task.Visit id ∷ []) [] kept) [] f
  Stands-first shelf id kept f there rests = record {
    rests = rests;
    minimal = none;
    makes = formula-at formulas id.0 f there;
    named = All-cons (IsNamedIn formulas) (Task.Visit id) [] (slice_get_within formulas id.0 f there) (All-nil (IsNamedIn formulas));
  }

  pub limit-first : IsGuide g → (shelf : Contents) (id : FormulaId) (kept : List (FormulaId × AutoView)) (f : Formula) (p : ℕ) →
      slice_get formulas id.0 ≡ Some f → Rests g formulas shelf [] kept → HasPeak g f p →
      NeedsMore g formulas (moment shelf (Task.Visit id ∷ []) [] kept) → limit_of shelf < p
  limit-first guide shelf id kept f p there rests peak needs =
      needs [] f p (Stands-first shelf id kept f there rests) (record { waiting = none-waits g p; within = (at, tt) }) where
        at : (s q : ℕ) → HasSum g [] s → HasPeak g (formula_at formulas id.0) q → s + q ≤ p
        at s q HasSum.none of_q =
            let e = HasPeak-unique g guide f q p (subst (λ (w : Formula). HasPeak g w q) (formula-at formulas id.0 f there) of_q) peak in
            omega (arith, e)

-- the machine with the first visit
pub IsGoing-first : (g : Spaces) (formulas : List Formula) (shelf : Contents) (id : FormulaId) (tasks : List Task) (autos : List AutoView)
    (kept : List (FormulaId × AutoView)) (f : Formula) → tasks ≡ Task.Visit id ∷ [] → autos ≡ [] → slice_get formulas id.0 ≡ Some f →
    Rests g formulas shelf [] kept → Stands g formulas (moment shelf tasks autos kept) [] f
IsGoing-first g formulas shelf id tasks autos kept f of_tasks of_autos there rests =
    subst (λ (ts : List Task). Stands g formulas (moment shelf ts autos kept) [] f) (sym of_tasks)
    (subst (λ (xs : List AutoView). Stands g formulas (moment shelf (Task.Visit id ∷ []) xs kept) [] f) (sym of_autos)
    (Stands-first g formulas shelf id kept f there rests))

pub limit-of_first : (g : Spaces) (formulas : List Formula) → IsGuide g → (shelf : Contents) (id : FormulaId) (tasks : List Task) (autos : List AutoView)
    (kept : List (FormulaId × AutoView)) (f : Formula) (p : ℕ) → tasks ≡ Task.Visit id ∷ [] → autos ≡ [] → slice_get formulas id.0 ≡ Some f →
    Rests g formulas shelf [] kept → HasPeak g f p → NeedsMore g formulas (moment shelf tasks autos kept) → limit_of shelf < p
limit-of_first g formulas guide shelf id tasks autos kept f p of_tasks of_autos there rests peak needs =
    limit-first g formulas guide shelf id kept f p there rests peak
    (subst (λ (ts : List Task). NeedsMore g formulas (moment shelf ts [] kept)) of_tasks
    (subst (λ (xs : List AutoView). NeedsMore g formulas (moment shelf tasks xs kept)) of_autos needs))
