-- On the automata that wait and those that are kept, over changes of the shelf.
use Rattle.std.proofs.Common.{◌≡◌, ℕ, ◌+◌, ◌==◌, if◌then◌else◌, ◌⊎◌, inl, inr, List, [], ◌∷◌, ◌++◌, All, Contains, Some, Result, Ok, Err, slice_get, ◌∙◌, ap}
use Rattle.std.proofs.Common.{subst, arith}
use Rattle.std.specs.Result.{OnOk, OnErr}
use Rattle.std.proofs.lemmas.Option.{slice_get_within}
use Rattle.std.proofs.lemmas.List.Elements.{All-contains, Contains-append_right}
use Rattle.bdd_nodes.specs.Shelf.{Contents, IsShelf}
use Rattle.bdd_nodes.specs.Changes.{DropsTable}
use Rattle.gta_theory.specs.Guides.{Spaces}
use Rattle.gta_theory.proofs.ListsLemmas.{Contains-first, Contains-later, Contains-cases, All-from_contains, Contains-map}
use Rattle.gta_theory.proofs.ListedLemmas.{slice_get-front}
use Rattle.gta_core.specs.Auto.{AutoView, IsAuto}
use Rattle.gta_core.specs.Changes.{KeepsTable}
use Rattle.ws2s_core.specs.declared.formula.Formula.{Formula}
use Rattle.ws2s_core.specs.declared.node.FormulaId.{FormulaId}
use Rattle.ws2s_core.specs.Nodes.{Extends}
use Rattle.gta_keep.specs.Holding.{times, Holds, IsMinimalFor, AreMinimalFor, none, more, kept_autos, beside, KeepsSome, Passes, WasOrIsCopy, TakesIn}
use Rattle.ws2s_decide.specs.Keeping.{IsKept}
use Rattle.ws2s_decide.specs.Going.{Rests, KeepsTables, Releases}
use Rattle.gta_keep.proofs.HoldingLemmas.{Holds-release, kept-release, Holds-same}
use Rattle.gta_keep.proofs.CopyLemmas.{IsMinimalFor-kept, IsMinimalFor-copy}

-- what holds in any case
pub on_err : {T E : Type 0} (P : Type 0) (r : Result T E) → P → OnErr r P
on_err P (Ok x) holds = tt
on_err P (Err e) holds = holds

pub on_ok : {T E : Type 0} (P : Type 0) (r : Result T E) → P → OnOk r P
on_ok P (Ok x) holds = holds
on_ok P (Err e) holds = tt

-- ---- automata of formulas

module _ (g : Spaces) (old new : Contents) where
  pub AreMinimalFor-kept : (autos : List AutoView) (stack : List Formula) → KeepsTables old new autos → AreMinimalFor g old autos stack →
      AreMinimalFor g new autos stack
  AreMinimalFor-kept [] [] keeps none = none
  AreMinimalFor-kept (a ∷ autos) (f ∷ stack) keeps (more _ _ _ _ first rest) =
      more a f autos stack (IsMinimalFor-kept g old new a f (keeps a (Contains-first a autos)) first)
      (AreMinimalFor-kept autos stack (λ b there. keeps b (Contains-later a b autos there)) rest)
  AreMinimalFor-kept [] (f ∷ stack) keeps minimal = elim minimal [ ]
  AreMinimalFor-kept (a ∷ autos) [] keeps minimal = elim minimal [ ]

  module _ (formulas : List Formula) where
    pub IsKept-kept : (entry : FormulaId × AutoView) → KeepsTable old new (entry.1).table → IsKept g old formulas entry → IsKept g new formulas entry
    IsKept-kept entry keeps kept = record {
      formula = kept.formula;
      there = kept.there;
      minimal = IsMinimalFor-kept g old new entry.1 kept.formula keeps kept.minimal;
    }

    pub AllKept-some : (before after : List (FormulaId × AutoView)) → KeepsSome old new before after → All (IsKept g old formulas) before →
        All (IsKept g new formulas) after
    AllKept-some before after some kept = All-from_contains (IsKept g new formulas) after (λ entry there.
        IsKept-kept entry (some.tables entry there) (All-contains (IsKept g old formulas) before entry kept (some.entries entry there)))

    pub AllKept-same : (kept : List (FormulaId × AutoView)) → KeepsTables old new (kept_autos kept) → All (IsKept g old formulas) kept →
        All (IsKept g new formulas) kept
    AllKept-same kept keeps all = All-from_contains (IsKept g new formulas) kept (λ entry there.
        IsKept-kept entry (keeps entry.1 (Contains-map (λ (e : FormulaId × AutoView). e.1) kept entry there))
        (All-contains (IsKept g old formulas) kept entry all there))

    pub AllKept-taken : (id : FormulaId) (auto : AutoView) (before after : List (FormulaId × AutoView)) (f : Formula) →
        ((entry : FormulaId × AutoView) → Contains after entry → WasOrIsCopy old new id auto before entry) →
        slice_get formulas id.0 ≡ Some f → IsMinimalFor g old auto f → All (IsKept g old formulas) before → All (IsKept g new formulas) after
    AllKept-taken id auto before after f entries there minimal kept = All-from_contains (IsKept g new formulas) after (λ entry inside.
        pick entry (entries entry inside)) where
          pick : (entry : FormulaId × AutoView) → WasOrIsCopy old new id auto before entry → IsKept g new formulas entry
          pick entry (inl was) = IsKept-kept entry was.1 (All-contains (IsKept g old formulas) before entry kept was.0)
          pick entry (inr copy) = record {
            formula = f;
            there = ap (λ (k : FormulaId). slice_get formulas k.0) copy.0 ∙ there;
            minimal = IsMinimalFor-copy g old new auto entry.1 f copy.1 minimal;
          }

-- what is kept is kept for more formulas too
pub AllKept-extends : (g : Spaces) (shelf : Contents) (formulas formulas' : List Formula) (kept : List (FormulaId × AutoView)) →
    Extends formulas formulas' → All (IsKept g shelf formulas) kept → All (IsKept g shelf formulas') kept
AllKept-extends g shelf formulas formulas' kept extends all = All-from_contains (IsKept g shelf formulas') kept (λ entry inside.
    let was = All-contains (IsKept g shelf formulas) kept entry all inside in
    record {
      formula = was.formula;
      there = ap (λ (fs : List Formula). slice_get fs (entry.0).0) extends.is
          ∙ slice_get-front formulas extends.more (entry.0).0 (slice_get_within formulas (entry.0).0 was.formula was.there) ∙ was.there;
      minimal = was.minimal;
    })

-- ---- automata that come and go

module _ (g : Spaces) (formulas : List Formula) (old new : Contents) where
  -- one that waits is released
  module _ (c : AutoView) (autos : List AutoView) (kept : List (FormulaId × AutoView)) (rests : Rests g formulas old (c ∷ autos) kept)
      (is_shelf : IsShelf new) (drops : DropsTable old new c.table) where
    still : KeepsTables old new (autos ++ kept_autos kept)
    still = kept-release g old new c (autos ++ kept_autos kept) rests.holds is_shelf drops

    pub Rests-release : Rests g formulas new autos kept
    Rests-release = record {
      holds = Holds-release g old new c (autos ++ kept_autos kept) rests.holds is_shelf drops;
      kept_for = AllKept-same g old new formulas kept
          (λ a there. still a (Contains-append_right autos (kept_autos kept) a there)) rests.kept_for;
    }

  -- nothing goes and nothing comes
  pub Rests-passed : (autos : List AutoView) (before after : List (FormulaId × AutoView)) → Passes g old new [] [] before after →
      Rests g formulas old autos before → Rests g formulas new autos after
  Rests-passed autos before after passes rests = record {
    holds = passes.holds autos rests.holds;
    kept_for = AllKept-some g old new formulas before after passes.kept rests.kept_for;
  }

  -- one comes
  pub Rests-come : (c : AutoView) (autos : List AutoView) (before after : List (FormulaId × AutoView)) →
      Passes g old new [] (c ∷ []) before after → Rests g formulas old autos before → Rests g formulas new (c ∷ autos) after
  Rests-come c autos before after passes rests = record {
    holds = passes.holds autos rests.holds;
    kept_for = AllKept-some g old new formulas before after passes.kept rests.kept_for;
  }

  -- some go and one comes
  pub Rests-made : (gone : List AutoView) (c : AutoView) (rest : List AutoView) (before after : List (FormulaId × AutoView)) →
      Passes g old new gone (c ∷ []) before after → Holds g old (beside gone rest before) → All (IsKept g old formulas) before →
      Rests g formulas new (c ∷ rest) after
  Rests-made gone c rest before after passes holds kept = record {
    holds = passes.holds rest holds;
    kept_for = AllKept-some g old new formulas before after passes.kept kept;
  }

  -- some go and none comes
  pub Rests-gone : (gone rest : List AutoView) (before after : List (FormulaId × AutoView)) →
      Passes g old new gone [] before after → Holds g old (beside gone rest before) → All (IsKept g old formulas) before →
      Rests g formulas new rest after
  Rests-gone gone rest before after passes holds kept = record {
    holds = passes.holds rest holds;
    kept_for = AllKept-some g old new formulas before after passes.kept kept;
  }

  -- a copy is kept of one that waits
  pub Rests-taken : (id : FormulaId) (auto : AutoView) (autos : List AutoView) (before after : List (FormulaId × AutoView)) (f : Formula) →
      TakesIn g old new id auto before after → slice_get formulas id.0 ≡ Some f → IsMinimalFor g old auto f →
      Rests g formulas old autos before → Rests g formulas new autos after
  Rests-taken id auto autos before after f takes there minimal rests = record {
    holds = takes.holds autos rests.holds;
    kept_for = AllKept-taken g old new formulas id auto before after f takes.entries there minimal rests.kept_for;
  }

-- two that wait, the other way round
swap-times : (a b : AutoView) (xs : List AutoView) (t : ℕ) → times (a ∷ b ∷ xs) t ≡ times (b ∷ a ∷ xs) t
swap-times a b xs t = omega arith

swap-contains : (a b : AutoView) (xs : List AutoView) (x : AutoView) → Contains (a ∷ b ∷ xs) x → Contains (b ∷ a ∷ xs) x
swap-contains a b xs x there = first (Contains-cases a x (b ∷ xs) there) where
  second : (b ≡ x) ⊎ Contains xs x → Contains (b ∷ a ∷ xs) x
  second (inl is) = subst (Contains (b ∷ a ∷ xs)) is (Contains-first b (a ∷ xs))
  second (inr later) = Contains-later b x (a ∷ xs) (Contains-later a x xs later)

  first : (a ≡ x) ⊎ Contains (b ∷ xs) x → Contains (b ∷ a ∷ xs) x
  first (inl is) = Contains-later b x (a ∷ xs) (subst (Contains (a ∷ xs)) is (Contains-first a xs))
  first (inr later) = second (Contains-cases b x xs later)

pub Holds-swap : (g : Spaces) (shelf : Contents) (a b : AutoView) (xs : List AutoView) → Holds g shelf (b ∷ a ∷ xs) → Holds g shelf (a ∷ b ∷ xs)
Holds-swap g shelf a b xs = Holds-same g shelf (b ∷ a ∷ xs) (a ∷ b ∷ xs) (swap-times a b xs) (swap-contains a b xs)

-- one in another's place, with its table
pub Rests-turned : (g : Spaces) (formulas : List Formula) (shelf : Contents) (a c : AutoView) (rest : List AutoView)
    (kept : List (FormulaId × AutoView)) → c.table ≡ a.table → IsAuto g shelf c → Rests g formulas shelf (a ∷ rest) kept →
    Rests g formulas shelf (c ∷ rest) kept
Rests-turned g formulas shelf a c rest kept same auto rests = record {
  holds = record {
    is_shelf = (rests.holds).is_shelf;
    each = λ x there. pick x (Contains-cases c x (rest ++ kept_autos kept) there);
    tables = λ t. ap (λ (table : ℕ). (if table == t then 1 else 0) + times (rest ++ kept_autos kept) t) same ∙ (rests.holds).tables t;
  };
  kept_for = rests.kept_for;
} where
  pick : (x : AutoView) → (c ≡ x) ⊎ Contains (rest ++ kept_autos kept) x → IsAuto g shelf x
  pick x (inl is) = subst (IsAuto g shelf) is auto
  pick x (inr later) = (rests.holds).each x (Contains-later a x (rest ++ kept_autos kept) later)

-- ---- those that wait are released

-- one more is released
pub Releases-more : (g : Spaces) (old middle new : Contents) (a : AutoView) (xs : List AutoView) → Releases g old middle (a ∷ xs) →
    IsShelf new → DropsTable middle new a.table → Releases g old new xs
Releases-more g old middle new a xs releases is_shelf drops = record {
  holds = Holds-release g middle new a xs releases.holds is_shelf drops;
  tables = λ b there.
      let first = releases.tables b (Contains-later a b xs there) in
      let second = kept-release g middle new a xs releases.holds is_shelf drops b there in
      record {
        registered = λ known. second.registered (first.registered known);
        functions = λ place. second.functions place ∙ first.functions place;
      };
  limit = (drops.nodes).limit ∙ releases.limit;
}

-- the shelf holds those that are kept, after all that waited were released
pub Rests-released : (g : Spaces) (formulas : List Formula) (old new : Contents) (autos : List AutoView) (kept : List (FormulaId × AutoView)) →
    Rests g formulas old autos kept → Releases g old new (kept_autos kept) → Rests g formulas new [] kept
Rests-released g formulas old new autos kept rests releases = record {
  holds = releases.holds;
  kept_for = AllKept-same g old new formulas kept releases.tables rests.kept_for;
}
