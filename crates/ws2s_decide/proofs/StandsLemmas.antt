-- On where a machine stands after a task.
use Rattle.std.proofs.Common.{◌≡◌, List, [], ◌∷◌, ◌++◌, All, Some, slice_get, sym, subst}
use Rattle.std.proofs.lemmas.List.Elements.{All-tail, All-contains}
use Rattle.bdd_nodes.specs.Shelf.{Contents}
use Rattle.gta_theory.specs.Guides.{Spaces, IsGuide}
use Rattle.gta_theory.proofs.ListsLemmas.{Contains-first, Contains-later}
use Rattle.gta_core.specs.Auto.{AutoView, IsAuto}
use Rattle.ws2s_core.specs.declared.track.Track.{Track}
use Rattle.ws2s_core.specs.declared.formula.Formula.{Formula}
use Rattle.ws2s_core.specs.declared.formula.Formula.TheVariants.{And, Not, Ex2}
use Rattle.ws2s_core.specs.declared.node.FormulaId.{FormulaId}
use Rattle.ws2s_core.specs.declared.node.Node.{Node}
use Rattle.ws2s_core.specs.Nodes.{formula_at, formula_of_node, HasPartsBelow}
use Rattle.ws2s_decide.specs.declared.task.Task.{Task}
use Rattle.gta_keep.specs.Holding.{Holds, IsMinimalFor, AreMinimalFor, more, kept_autos, beside, Passes, IsCopyOfKept}
use Rattle.ws2s_decide.specs.Keeping.{IsKept}
use Rattle.ws2s_decide.specs.Tasks.{IsCompound, tasks_for}
use Rattle.ws2s_decide.specs.Going.{moment, Rests, IsNamedIn, steps_of, Stands, GoesOn, StandsOn, KeepsTables}
use Rattle.ws2s_decide.proofs.StepsLemmas.{formula-at, apart, goes-visit, goes-negate, goes-conjoin, goes-quantify}
use Rattle.gta_keep.proofs.CopyLemmas.{IsMinimalFor-kept, IsMinimalFor-copy}
use Rattle.ws2s_decide.proofs.RestsLemmas.{AreMinimalFor-kept, Rests-passed, Rests-come, Holds-swap, Rests-turned}
use Rattle.ws2s_decide.proofs.LastLemmas.{last-two, last-one, last-turned}

-- ---- visits

module _ (g : Spaces) (formulas : List Formula) (old new : Contents) where
  -- it stands where it stood
  pub Stands-passed : (tasks : List Task) (autos : List AutoView) (before after : List (FormulaId × AutoView)) →
      Passes g old new [] [] before after → (stack : List Formula) (out : Formula) →
      Stands g formulas (moment old tasks autos before) stack out → Stands g formulas (moment new tasks autos after) stack out
  Stands-passed tasks autos before after passes stack out stands = record {
    rests = Rests-passed g formulas old new autos before after passes stands.rests;
    minimal = AreMinimalFor-kept g old new autos stack (λ a there. passes.others autos a (stands.rests).holds there) stands.minimal;
    makes = stands.makes;
    named = stands.named;
  }

  -- the visited formula's automaton comes
  pub StandsOn-come : (guide : IsGuide g) (c : AutoView) (id : FormulaId) (tasks : List Task) (autos : List AutoView)
      (before after : List (FormulaId × AutoView)) →
      Passes g old new [] (c ∷ []) before after → IsMinimalFor g new c (formula_at formulas id.0) → (stack : List Formula) (out : Formula) →
      Stands g formulas (moment old (Task.Visit id ∷ tasks) autos before) stack out →
      StandsOn g formulas (Task.Visit id ∷ tasks) stack (moment new tasks (c ∷ autos) after) out
  StandsOn-come guide c id tasks autos before after passes minimal stack out stands = record {
    stack' = formula_at formulas id.0 ∷ stack;
    stands = record {
      rests = Rests-come g formulas old new c autos before after passes stands.rests;
      minimal = more c (formula_at formulas id.0) autos stack minimal
          (AreMinimalFor-kept g old new autos stack (λ a there. passes.others autos a (stands.rests).holds there) stands.minimal);
      makes = stands.makes;
      named = All-tail (IsNamedIn formulas) (Task.Visit id) tasks stands.named;
    };
    goes = goes-visit g guide (formula_at formulas id.0) (steps_of formulas tasks) stack;
  }

-- a copy of what was kept for the number is the formula's
pub minimal-found : (g : Spaces) (formulas : List Formula) (old new : Contents) (id : FormulaId) (copy : AutoView)
    (kept : List (FormulaId × AutoView)) → All (IsKept g old formulas) kept → IsCopyOfKept old new id kept copy →
    IsMinimalFor g new copy (formula_at formulas id.0)
minimal-found g formulas old new id copy kept all found =
    let entry : FormulaId × AutoView = (id, found.was) in
    let was = All-contains (IsKept g old formulas) kept entry all found.there in
    subst (λ (f : Formula). IsMinimalFor g new copy f) (sym (formula-at formulas id.0 was.formula was.there))
    (IsMinimalFor-copy g old new found.was copy was.formula found.copies was.minimal)

-- a formula that is no atom was taken apart
pub StandsOn-apart : (g : Spaces) → IsGuide g → (formulas : List Formula) (shelf : Contents) (id : FormulaId) (node : Node) (tasks : List Task)
    (autos : List AutoView) (kept : List (FormulaId × AutoView)) → IsCompound node → slice_get formulas id.0 ≡ Some (formula_of_node formulas node) →
    HasPartsBelow id.0 node → (stack : List Formula) (out : Formula) → Stands g formulas (moment shelf (Task.Visit id ∷ tasks) autos kept) stack out →
    StandsOn g formulas (Task.Visit id ∷ tasks) stack (moment shelf (tasks_for id node tasks) autos kept) out
StandsOn-apart g guide formulas shelf id node tasks autos kept compound is below stack out stands =
    let parts = apart g guide formulas id node tasks stack out compound (formula-at formulas id.0 (formula_of_node formulas node) is) below
    stands.named stands.makes in
    record {
      stack' = stack;
      stands = record { rests = stands.rests; minimal = stands.minimal; makes = parts.makes; named = parts.named };
      goes = parts.goes;
    }

-- ---- steps done

module _ (g : Spaces) (guide : IsGuide g) (formulas : List Formula) where
  -- the last one was turned over
  pub StandsOn-turned : (shelf : Contents) (a c : AutoView) (rest : List AutoView) (kept : List (FormulaId × AutoView)) (tasks : List Task) →
      c.table ≡ a.table → IsAuto g shelf c → ((f : Formula) → IsMinimalFor g shelf a f → IsMinimalFor g shelf c (Not f)) →
      (stack : List Formula) (out : Formula) → Stands g formulas (moment shelf (Task.Negate ∷ tasks) (a ∷ rest) kept) stack out →
      StandsOn g formulas (Task.Negate ∷ tasks) stack (moment shelf tasks (c ∷ rest) kept) out
  StandsOn-turned shelf a c rest kept tasks same auto turned stack out stands =
      let last = last-turned g formulas shelf tasks a rest stack out stands.minimal stands.makes in
      record {
        stack' = Not last.part ∷ last.below;
        stands = record {
          rests = Rests-turned g formulas shelf a c rest kept same auto stands.rests;
          minimal = more c (Not last.part) rest last.below (turned last.part last.of_part) last.others;
          makes = last.makes;
          named = All-tail (IsNamedIn formulas) Task.Negate tasks stands.named;
        };
        goes = subst (λ (s : List Formula). GoesOn g (steps_of formulas (Task.Negate ∷ tasks)) s (steps_of formulas tasks) (Not last.part ∷ last.below))
            (sym last.is) (goes-negate g guide last.part (steps_of formulas tasks) last.below);
      }

  module _ (old middle new : Contents) (id : FormulaId) (c : AutoView) (rest : List AutoView) (before between after : List (FormulaId × AutoView))
      (tasks : List Task) (rests : Rests g formulas new (c ∷ rest) after) (tables : KeepsTables middle new (c ∷ rest)) where
    -- those that wait below, over both changes
    others-kept : (gone : List AutoView) (below : List Formula) → Passes g old middle gone (c ∷ []) before between →
        Holds g old (beside gone rest before) → AreMinimalFor g old rest below → AreMinimalFor g new rest below
    others-kept gone below passes holds minimal =
        AreMinimalFor-kept g middle new rest below (λ x there. tables x (Contains-later c x rest there))
        (AreMinimalFor-kept g old middle rest below (λ x there. passes.others rest x holds there) minimal)

    -- the last two were conjoined
    pub StandsOn-conjoined : (a b : AutoView) → Passes g old middle (a ∷ b ∷ []) (c ∷ []) before between →
        ((f h : Formula) → IsMinimalFor g old a f → IsMinimalFor g old b h → IsMinimalFor g middle c (And f h)) →
        (stack : List Formula) (out : Formula) → Stands g formulas (moment old (Task.Conjoin id ∷ tasks) (b ∷ a ∷ rest) before) stack out →
        StandsOn g formulas (Task.Conjoin id ∷ tasks) stack (moment new tasks (c ∷ rest) after) out
    StandsOn-conjoined a b passes minimal stack out stands =
        let last = last-two g formulas old id tasks a b rest stack out stands.minimal stands.makes in
        let holds = Holds-swap g old a b (rest ++ kept_autos before) (stands.rests).holds in
        record {
          stack' = formula_at formulas id.0 ∷ last.below;
          stands = record {
            rests = rests;
            minimal = more c (formula_at formulas id.0) rest last.below
                (IsMinimalFor-kept g middle new c (formula_at formulas id.0) (tables c (Contains-first c rest))
                (subst (λ (f : Formula). IsMinimalFor g middle c f) (sym last.whole) (minimal last.left last.right last.of_left last.of_right)))
                (others-kept (a ∷ b ∷ []) last.below passes holds last.others);
            makes = last.makes;
            named = All-tail (IsNamedIn formulas) (Task.Conjoin id) tasks stands.named;
          };
          goes = subst (λ (s : List Formula). GoesOn g (steps_of formulas (Task.Conjoin id ∷ tasks)) s (steps_of formulas tasks)
              (formula_at formulas id.0 ∷ last.below)) (sym last.is)
              (goes-conjoin g guide (formula_at formulas id.0) last.left last.right (steps_of formulas tasks) last.below last.whole);
        }

    -- the track of the last one was dropped
    pub StandsOn-quantified : (t : Track) (a : AutoView) → Passes g old middle (a ∷ []) (c ∷ []) before between →
        ((f : Formula) → IsMinimalFor g old a f → IsMinimalFor g middle c (Ex2 t f)) →
        (stack : List Formula) (out : Formula) → Stands g formulas (moment old (Task.Quantify t id ∷ tasks) (a ∷ rest) before) stack out →
        StandsOn g formulas (Task.Quantify t id ∷ tasks) stack (moment new tasks (c ∷ rest) after) out
    StandsOn-quantified t a passes minimal stack out stands =
        let last = last-one g formulas old t id tasks a rest stack out stands.minimal stands.makes in
        record {
          stack' = formula_at formulas id.0 ∷ last.below;
          stands = record {
            rests = rests;
            minimal = more c (formula_at formulas id.0) rest last.below
                (IsMinimalFor-kept g middle new c (formula_at formulas id.0) (tables c (Contains-first c rest))
                (subst (λ (f : Formula). IsMinimalFor g middle c f) (sym last.whole) (minimal last.part last.of_part)))
                (others-kept (a ∷ []) last.below passes (stands.rests).holds last.others);
            makes = last.makes;
            named = All-tail (IsNamedIn formulas) (Task.Quantify t id) tasks stands.named;
          };
          goes = subst (λ (s : List Formula). GoesOn g (steps_of formulas (Task.Quantify t id ∷ tasks)) s (steps_of formulas tasks)
              (formula_at formulas id.0 ∷ last.below)) (sym last.is)
              (goes-quantify g guide t (formula_at formulas id.0) last.part (steps_of formulas tasks) last.below last.whole);
        }
