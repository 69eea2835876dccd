-- On verdicts by networks: from what is left back to the formula, and what the shelf holds on the way.
use Rattle.std.proofs.Common.{◌≡◌, ℕ, ◌↔◌, ◌⊎◌, inl, inr, Bool, true, false, ◌||◌, List, [], ◌∷◌, ◌++◌, length, map, not, filter, Contains, Some, slice_get}
use Rattle.std.proofs.Common.{refl, sym, ap, subst, ◌∙◌, eqb, cond}
use Rattle.std.proofs.lemmas.Bool.{false≢true}
use Rattle.std.proofs.Common.{eqb-true}
use Rattle.std.proofs.lemmas.List.{map-append}
use Rattle.std.proofs.lemmas.List.Elements.{All-nil, All-cons, All-head}
use Rattle.bdd_nodes.specs.Shelf.{Contents, IsShelf, limit_of}
use Rattle.bdd_nodes.specs.Changes.{Keeps, SameTables, DropsTable}
use Rattle.gta_theory.specs.Assignments.{Assignment, IsFinite, Covers}
use Rattle.gta_theory.specs.Guides.{Spaces}
use Rattle.gta_theory.specs.Weights.{weight}
use Rattle.gta_theory.specs.Automata.{Automaton, Accepts}
use Rattle.gta_theory.proofs.AssignmentsLemmas.{Covers-finite}
use Rattle.gta_theory.proofs.ListsLemmas.{Contains-first, Contains-later, Contains-cases, Contains-none, Contains-map, Contains-mapped}
use Rattle.gta_core.specs.Auto.{AutoView, IsAuto, automaton_of}
use Rattle.gta_core.specs.Changes.{KeepsTable, RegistersTable}
use Rattle.gta_keep.specs.Holding.{Holds, IsMinimalFor, kept_autos}
use Rattle.gta_keep.proofs.HoldingLemmas.{Holds-still, KeepsTable-joins, Holds-registers, kept-registers, Holds-release, kept-release}
use Rattle.gta_keep.proofs.PassesLemmas.{KeepsTable-same, KeepsTable-both}
use Rattle.gta_keep.proofs.CopyLemmas.{IsMinimalFor-kept}
use Rattle.gta_pinned.specs.Alike.{AreAlikeOn}
use Rattle.gta_witness.specs.Lightest.{each_once, HasWeight, HasRoom, IsLightestTree}
use Rattle.ws2s_core.specs.declared.track.Track.{Track}
use Rattle.ws2s_core.specs.declared.formula.Formula.{Formula}
use Rattle.ws2s_core.specs.declared.label_tree.TreeNode.{TreeNode}
use Rattle.ws2s_core.specs.LabelTrees.{assignment_of}
use Rattle.ws2s_core.specs.Satisfaction.{WSat}
use Rattle.ws2s_core.proofs.LabelTreesLemmas.{Covers-tree}
use Rattle.ws2s_theory.specs.Contexts.{SatisfiesAll}
use Rattle.ws2s_facts.specs.Conjuncts.{formula_of}
use Rattle.ws2s_network.specs.Network.{Agree, DependOn, IsEliminated, AreEliminated, HaveNoModel, HaveBound, tracks_of}
use Rattle.ws2s_network.proofs.NetworkLemmas.{AreEliminated-last, HaveNoModel-eliminated, HaveBound-eliminated, DependOn-formula, DependOn-left}
use Rattle.ws2s_network.proofs.NetworkLemmas.{value-found, weight-agree}
use Rattle.ws2s_plan.specs.declared.network.Elimination.{Elimination}
use Rattle.ws2s_plan.specs.declared.network.Network.{Network}
use Rattle.ws2s_plan.specs.Plan.{gone_at, is_gone, IsNetworkOf}
use Rattle.ws2s_decide.specs.Deciding.{IsUnsatisfiable, IsLightestModel}
use Rattle.ws2s_decide.specs.Going.{KeepsTables, Releases, Rests}
use Rattle.ws2s_decide.specs.Networks.{IsTreeOfBoth, IsValued, IsModelOfLeft}
use Rattle.ws2s_decide.proofs.RestsLemmas.{AllKept-same}
use Rattle.ws2s_decide.proofs.WaysLemmas.{each_once-of}
use Rattle.ws2s_core.specs.declared.node.FormulaId.{FormulaId}

-- ---- one formula as a list

one : (f : Formula) (a : Assignment) → WSat f a → SatisfiesAll (f ∷ []) a
one f a sat = All-cons (λ c. WSat c a) f [] sat (All-nil (λ c. WSat c a))

only : (f : Formula) (a : Assignment) → SatisfiesAll (f ∷ []) a → WSat f a
only f a all = All-head (λ c. WSat c a) f [] all

finite-tree : (nodes : List TreeNode) → IsFinite (assignment_of nodes)
finite-tree nodes = Covers-finite (length nodes) (assignment_of nodes) (Covers-tree nodes)

-- ---- tracks that were eliminated

gone-step : (b : Bool) (rest : Bool) → b || rest ≡ true → (b ≡ true) ⊎ (rest ≡ true)
gone-step true rest h = inl refl
gone-step false rest h = inr h

gone-contains : (formulas : List Formula) (gone : List Elimination) (t : Track) → is_gone gone t ≡ true → Contains (tracks_of (gone_at formulas gone)) t.0
gone-contains formulas [] t h = absurd (false≢true h)
gone-contains formulas (e ∷ gone) t h = elim (gone-step (eqb e.track.0 t.0) (is_gone gone t) h) as
    (λ _. Contains (tracks_of (gone_at formulas (e ∷ gone))) t.0) [
      | inl here ↦ subst (λ (n : ℕ). Contains (tracks_of (gone_at formulas (e ∷ gone))) n) (eqb-true e.track.0 t.0 here)
          (Contains-first e.track.0 (tracks_of (gone_at formulas gone)))
      | inr later ↦ Contains-later e.track.0 t.0 (tracks_of (gone_at formulas gone)) (gone-contains formulas gone t later)
    ]

filtered-step : {X : Type 0} (p : X → Bool) (y x : X) (ys : List X) (b : Bool) → p y ≡ b → p x ≡ true → (Contains ys x → Contains (filter p ys) x) →
    (y ≡ x) ⊎ Contains ys x → Contains (cond b (y ∷ filter p ys) (filter p ys)) x
filtered-step p y x ys true e h rest (inl same) = subst (Contains (y ∷ filter p ys)) same (Contains-first y (filter p ys))
filtered-step p y x ys true e h rest (inr later) = Contains-later y x (filter p ys) (rest later)
filtered-step p y x ys false e h rest (inl same) = absurd (false≢true (sym e ∙ ap p same ∙ h))
filtered-step p y x ys false e h rest (inr later) = rest later

filtered : {X : Type 0} (p : X → Bool) (xs : List X) (x : X) → Contains xs x → p x ≡ true → Contains (filter p xs) x
filtered p [] x there h = absurd (Contains-none x there)
filtered p (y ∷ ys) x there h = filtered-step p y x ys (p y) refl h (λ later. filtered p ys x later h) (Contains-cases y x ys there)

gone-unweighed : (weighed : List ℕ) (gone : List (ℕ × Formula)) (fs rest : List Formula) (u : ℕ) → AreEliminated weighed gone fs rest → Contains weighed u →
    Contains (tracks_of gone) u → ⊥
gone-unweighed weighed [] fs rest u are listed there = Contains-none u there
gone-unweighed weighed (e ∷ gone) fs rest u (next, free, first, more) listed there =
    elim (Contains-cases e.0 u (tracks_of gone) there) as (λ _. ⊥) [
      | inl same ↦ free (subst (Contains weighed) (sym same) listed)
      | inr later ↦ gone-unweighed weighed gone next rest u more listed later
    ]

-- ---- from what is left back to the formula

module _ (formulas : List Formula) (weigh : List Track) (f : Formula) (network : Network) (is : IsNetworkOf formulas weigh f network) where
  abbrev numbers : List Track → List ℕ
  numbers = map (λ (t : Track). t.0)

  eliminated : AreEliminated (each_once weigh) (gone_at formulas network.eliminations) (f ∷ []) (is.rest ∷ [])
  eliminated = is.eliminated (each_once weigh) (each_once-of weigh)

  pub IsUnsatisfiable-left : IsUnsatisfiable is.rest → IsUnsatisfiable f
  IsUnsatisfiable-left none n a covers sat =
      HaveNoModel-eliminated (each_once weigh) (gone_at formulas network.eliminations) (f ∷ []) (is.rest ∷ []) eliminated
      (λ m b in_m all. none m b in_m (only is.rest b all)) n a covers (one f a sat)

  pub IsModelOfLeft-start : (nodes : List TreeNode) (w : ℕ) → IsLightestModel weigh is.rest nodes w →
      IsModelOfLeft formulas weigh f network.eliminations nodes w
  IsModelOfLeft-start nodes w model = record {
    left = is.rest ∷ [];
    eliminated = eliminated;
    satisfies = one is.rest (assignment_of nodes) model.satisfies;
    weighs = model.weighs;
    room = model.room;
    bound = HaveBound-eliminated (each_once weigh) (gone_at formulas network.eliminations) (f ∷ []) (is.rest ∷ []) w eliminated
        (λ n a covers all. model.least n a covers (only is.rest a all));
  }

  pub IsLightestModel-back : (nodes : List TreeNode) (w : ℕ) → IsModelOfLeft formulas weigh f [] nodes w → IsLightestModel weigh f nodes w
  IsLightestModel-back nodes w model = record {
    satisfies = only f (assignment_of nodes) ((model.eliminated (assignment_of nodes) (finite-tree nodes)).1 model.satisfies);
    weighs = model.weighs;
    room = model.room;
    least = λ n a covers sat. model.bound n a covers (one f a sat);
  }

  -- a track is free in the formula or weighed; what isn't gone is known
  module _ (gone : List Elimination) (known : List Track) (of : known ≡ filter (λ t. not (is_gone gone t)) network.tracks) where
    known-or_gone : (t : Track) → Contains network.tracks t → Contains (numbers known) t.0 ⊎ Contains (tracks_of (gone_at formulas gone)) t.0
    known-or_gone t there = pick (is_gone gone t) refl
      where
        pick : (b : Bool) → is_gone gone t ≡ b → Contains (numbers known) t.0 ⊎ Contains (tracks_of (gone_at formulas gone)) t.0
        pick true h = inr (gone-contains formulas gone t h)
        pick false h = inl (Contains-map (λ (u : Track). u.0) known t
            (subst (λ (ts : List Track). Contains ts t) (sym of) (filtered (λ u. not (is_gone gone u)) network.tracks t there (ap not h))))

    dependent : (left : List Formula) → AreEliminated (each_once weigh) (gone_at formulas gone) (f ∷ []) left → DependOn (Contains (numbers known)) left
    dependent left are =
        DependOn-left (each_once weigh) (Contains (numbers known)) (Contains (numbers network.tracks)) (gone_at formulas gone) (f ∷ []) left are
        (λ u there. (let at = Contains-mapped (λ (t : Track). t.0) network.tracks u there in
        subst (λ (n : ℕ). Contains (numbers known) n ⊎ Contains (tracks_of (gone_at formulas gone)) n) at.2 (known-or_gone at.0 at.1)))
        (DependOn-formula (Contains (numbers network.tracks)) f (λ u free.
        Contains-map (λ (t : Track). t.0) network.tracks (record { 0 = u }) (is.all_tracks.free (record { 0 = u }) free)))

    alike-known : (a b : Assignment) → AreAlikeOn known a b → Agree (Contains (numbers known)) a b
    alike-known a b alike u p there =
        let at = Contains-mapped (λ (t : Track). t.0) known u there in
        subst (λ (n : ℕ). a n p ≡ b n p) at.2 (alike at.0 p at.1)

    alike-weighed : (left : List Formula) (a b : Assignment) → AreEliminated (each_once weigh) (gone_at formulas gone) (f ∷ []) left → AreAlikeOn known a b →
        Agree (Contains (each_once weigh)) a b
    alike-weighed left a b are alike u p listed =
        let t : Track = record { 0 = u } in
        elim (known-or_gone t (is.all_tracks.weighed t (each_once-of weigh t listed))) as (λ _. a u p ≡ b u p) [
          | inl k ↦ alike-known a b alike u p k
          | inr h ↦ absurd (gone-unweighed (each_once weigh) (gone_at formulas gone) (f ∷ []) left u are listed h)
        ]

  pub IsModelOfLeft-step : (before : List Elimination) (last : Elimination) (all : List Elimination) (known : List Track)
      (nodes new : List TreeNode) (w v : ℕ) →
      all ≡ before ++ last ∷ [] → known ≡ filter (λ t. not (is_gone all t)) network.tracks → IsModelOfLeft formulas weigh f all nodes w →
      IsValued weigh known (formula_of formulas last.bucket) nodes new v → IsModelOfLeft formulas weigh f before new v
  IsModelOfLeft-step before last all known nodes new w v e of model valued =
      let bucket : Formula = formula_of formulas last.bucket in
      let a : Assignment = assignment_of nodes in
      let b : Assignment = assignment_of new in
      let split : gone_at formulas all ≡ gone_at formulas before ++ (last.track.0, bucket) ∷ [] =
      ap (gone_at formulas) e ∙ map-append (λ (one : Elimination). (one.track.0, formula_of formulas one.bucket)) before (last ∷ []) in
      let parts = AreEliminated-last (each_once weigh) (gone_at formulas before) last.track.0 bucket (f ∷ []) model.left
      (subst (λ (g : List (ℕ × Formula)). AreEliminated (each_once weigh) g (f ∷ []) model.left) split model.eliminated) in
      let same : v ≡ w = sym valued.weighs ∙ weight-agree (each_once weigh) (length nodes) (length new) a b (Covers-tree nodes) (Covers-tree new)
      (alike-weighed all known of model.left a b model.eliminated valued.alike) ∙ model.weighs in
      record {
        left = parts.0;
        eliminated = parts.1;
        satisfies = value-found (Contains (numbers known)) last.track.0 bucket parts.0 model.left a b parts.3
            (dependent all known of model.left model.eliminated)
            (finite-tree nodes) (finite-tree new) (alike-known all known of a b valued.alike) model.satisfies valued.satisfies;
        weighs = valued.weighs;
        room = valued.room;
        bound = subst (HaveBound (each_once weigh) (f ∷ [])) (sym same) model.bound;
      }

-- ---- what the shelf holds

module _ (g : Spaces) where
  -- nothing was made
  pub Releases-failed : (old new : Contents) (autos : List AutoView) → IsShelf new → Keeps old new → SameTables old new → limit_of new ≡ limit_of old →
      Holds g old autos → Releases g old new autos
  Releases-failed old new autos is_shelf keeps same limit holds = record {
    holds = Holds-still g old new autos holds is_shelf keeps same;
    tables = λ a there. KeepsTable-joins old new holds.is_shelf keeps same a.table;
    limit = limit;
  }

  -- the first one is released
  pub Releases-released : (old between new : Contents) (c : AutoView) (autos : List AutoView) → Releases g old between (c ∷ autos) → IsShelf new →
      DropsTable between new c.table → Releases g old new autos
  Releases-released old between new c autos held is_shelf drops = record {
    holds = Holds-release g between new c autos held.holds is_shelf drops;
    tables = λ a there. KeepsTable-both old between new a.table (held.tables a (Contains-later c a autos there))
        (kept-release g between new c autos held.holds is_shelf drops a there);
    limit = drops.nodes.limit ∙ held.limit;
  }

  pub Releases-nothing : (shelf : Contents) (autos : List AutoView) → Holds g shelf autos → Releases g shelf shelf autos
  Releases-nothing shelf autos holds = record { holds = holds; tables = λ a there. KeepsTable-same shelf a.table; limit = refl }

  -- one was made, and what followed held it and the others; then it is released
  module _ (old made used new : Contents) (c : AutoView) (autos : List AutoView) (holds : Holds g old autos) (made_shelf : IsShelf made)
      (keeps : Keeps old made)
      (registers : RegistersTable old made c.table) (auto : IsAuto g made c) where
    tables-made : KeepsTables old made autos
    tables-made a there = kept-registers g old made c autos holds made_shelf keeps registers auto a there

    pub Releases-made : limit_of made ≡ limit_of old → Releases g made used (c ∷ autos) → IsShelf new → DropsTable used new c.table → Releases g old new autos
    Releases-made limit held is_shelf drops =
        let later = Releases-released made used new c autos held is_shelf drops in
        record {
          holds = later.holds;
          tables = λ a there. KeepsTable-both old made new a.table (tables-made a there) (later.tables a there);
          limit = later.limit ∙ limit;
        }

    pub Releases-brief : limit_of made ≡ limit_of old → used ≡ made → IsShelf new → DropsTable used new c.table → Releases g old new autos
    Releases-brief limit same is_shelf drops =
        Releases-made limit (subst (λ (s : Contents). Releases g made s (c ∷ autos)) (sym same)
        (Releases-nothing made (c ∷ autos) (Holds-registers g old made c autos holds made_shelf keeps registers auto))) is_shelf drops

-- ---- values

pub IsValued-both : (g : Spaces) (shelf : Contents) (auto pins : AutoView) (f : Formula) (weigh known : List Track) (tree new : List TreeNode) (w : ℕ) →
    IsMinimalFor g shelf auto f →
    ((n : ℕ) (a : Assignment) → Covers n a → Accepts g (automaton_of shelf pins) a ↔ AreAlikeOn known (assignment_of tree) a) →
    IsTreeOfBoth g (automaton_of shelf auto) (automaton_of shelf pins) weigh new w → IsValued weigh known f tree new w
IsValued-both g shelf auto pins f weigh known tree new w minimal accepts both = record {
  alike = (accepts (both.by_second).depth (assignment_of new) (both.by_second).covers).0 both.by_second;
  satisfies = ((minimal.recognises).exactly (both.by_first).depth (assignment_of new) (both.by_first).covers).0 both.by_first;
  weighs = both.weighs;
  room = both.room;
}

-- ---- what rests

pub Rests-released : (g : Spaces) (formulas : List Formula) (old new : Contents) (auto : AutoView) (kept : List (FormulaId × AutoView)) →
    Rests g formulas old (auto ∷ []) kept → Releases g old new (kept_autos kept) → Rests g formulas new [] kept
Rests-released g formulas old new auto kept rests held = record {
  holds = held.holds;
  kept_for = AllKept-same g old new formulas kept held.tables rests.kept_for;
}
