-- The walk over a triple's code: the first cause that comes is the one with which the triple fails.
use Rattle.std.proofs.Common.{◌≡◌, inl, inr, ℕ, ◌≤◌, List, [], ◌∷◌, ◌++◌, map, slice_get, Option, Some, None, refl, sym, ap, ◌∙◌, subst, arith}
use Rattle.std.specs.Option.{option_map_or}
use Rattle.gta_theory.specs.Assignments.{Assignment}
use Rattle.store_core.specs.declared.ids.VarId.{VarId}
use Rattle.store_core.specs.Tables.{TypeEntry, VarEntry}
use Rattle.store_core.specs.Stores.{StoreMap}
use Rattle.store_core.proofs.FittingLemmas.{IfSome-at, IsSomeAnd-at}
use Rattle.store_exec.specs.declared.cause.Cause.{Cause}
use Rattle.store_exec.specs.declared.outcome.Outcome.{Outcome}
use Rattle.store_exec.specs.declared.outcome.Outcome.TheVariants as outcome
use Rattle.store_exec.specs.declared.triple.Cut.{Cut}
use Rattle.store_exec.specs.declared.triple.Start.{Start}
use Rattle.store_exec.specs.declared.triple.Triple.{Triple}
use Rattle.store_exec.specs.Cuts.{AtCut, IsFirstCause}
use Rattle.store_exec.specs.Failing.{Fails}
use Rattle.store_exec.specs.Fits.{CodeFits}
use Rattle.store_exec.specs.Runs.{RunsCode}
use Rattle.tree_encode.specs.Tracks.{track_count}
use Rattle.graph_view.specs.After.{Standing, IsTaken}
use Rattle.site_list.specs.States.{Text, State, next_track, sight, value_of}
use Rattle.site_list.specs.Parts.{is_part}
use Rattle.site_list.specs.Cuts.{with_part}
use Rattle.site_list.specs.Triples.{at_start, started, walked}
use Rattle.triple_meaning.specs.Sites.Places.{NoneComes, ComesFirst}
use Rattle.triple_meaning.specs.Sites.Seeing.{IsOver, HasRoom, AreDefined, Sees}
use Rattle.triple_meaning.specs.Sites.Doing.{AreAssertionsMeant}
use Rattle.triple_meaning.specs.Sites.Ending.{ComesAtCut, EndsAs, EndsCode, AreCutsMeant, IsSettledAt, IsSettled}
use Rattle.triple_meaning.proofs.sites.StatesLemmas.{sees-more}
use Rattle.triple_meaning.proofs.sites.FirstsLemmas.{one-first, first-some}
use Rattle.triple_meaning.proofs.sites.GrowingLemmas.{room-longer}
use Rattle.triple_meaning.proofs.sites.CodesLemmas.{code-meant}
use Rattle.triple_meaning.proofs.sites.BeginningLemmas.{begins}

module _ (types : List TypeEntry) (vars : List VarEntry) where
  -- ---- the start

  -- where the walk begins nothing was passed, and the statement is always reached
  pub record IsBegun (s : State) : Type 0 where
    pub checks : s.checks ≡ []
    pub guard : s.guard ≡ None

  pub started-begun : (start : Start) → IsBegun (started types vars start)
  started-begun start = by start.returned
    where
      by : (o : Option (List VarId)) → IsBegun (option_map_or (λ roots. with_part types vars roots (at_start types vars)) o (at_start types vars))
      by None = record { checks = refl; guard = refl }
      by (Some roots) = record { checks = refl; guard = refl }

  pub started-sees : (start : Start) (a : Assignment) (first : StoreMap) (next : ℕ) → IsOver types vars a first →
      HasRoom types vars next (started types vars start) → (at : Standing) × Sees types vars next a first (started types vars start) first at
  started-sees start a first next over room = by start.returned room
    where
      by : (o : Option (List VarId)) →
          HasRoom types vars next (option_map_or (λ roots. with_part types vars roots (at_start types vars)) o (at_start types vars)) →
          (at : Standing)
          × Sees types vars next a first (option_map_or (λ roots. with_part types vars roots (at_start types vars)) o (at_start types vars)) first at
      by None space = begins types vars a first next over (few (at_start types vars) space)
        where
          few : (s : State) → HasRoom types vars next s → track_count types vars ≤ next
          few s h = omega (arith, h)
      by (Some roots) space =
          let text : Text = is_part types (sight vars (at_start types vars)) (map (value_of (at_start types vars).values) roots)
          (next_track types vars (at_start types vars)) in
          let (at, sees) = begins types vars a first next over (few space) in
          (at, sees-more types vars next a first (at_start types vars) first at (text ∷ []) [] sees space)
        where
          few : HasRoom types vars next (with_part types vars roots (at_start types vars)) → track_count types vars ≤ next
          few h = omega (arith, h)

  -- ---- the whole walk

  module _ (meant : AreAssertionsMeant types vars) (t : Triple) (cuts_meant : AreCutsMeant types vars t.cuts) (fits : CodeFits types vars t.code)
      (a : Assignment) (first : StoreMap) (over : IsOver types vars a first) (next : ℕ) (room : HasRoom types vars next (walked types vars t))
      (defined : AreDefined next a (walked types vars t)) where
    abbrev begun : State
    begun = started types vars t.start

    walk : EndsCode types vars t.cuts (started types vars t.start) (walked types vars t) (λ u out. RunsCode types t.code u out)
    walk = code-meant types vars meant t.cuts cuts_meant t.code fits (started types vars t.start)

    checks-are : (walked types vars t).checks ≡ walk.added
    checks-are = walk.checks ∙ ap (λ cs. cs ++ walk.added) (started-begun t.start).checks

    pub ends-so : (out : Outcome) → RunsCode types t.code first out → EndsAs types vars t.cuts next a ((walked types vars t).checks) out
    ends-so out runs =
        let (at, sees) = started-sees t.start a first next over (room-longer types vars next begun (walked types vars t) walk.made walk.defined room) in
        subst (λ cs. EndsAs types vars t.cuts next a cs out) (sym checks-are)
        (walk.reached next a first first at out sees room defined (subst (λ g. IsTaken a g) (sym (started-begun t.start).guard) tt) runs)

    -- what is said of the cut where the code ends
    abbrev IsSaid : StoreMap → Cut → Type 0
    IsSaid u cut = (why : Option Cause) → AtCut types vars cut u why → ComesAtCut next a ((walked types vars t).checks) cut.line why

    pub fails-first : (why : Cause) (line : ℕ) → Fails types vars t first why line → ComesFirst next a ((walked types vars t).checks) why line
    fails-first why line (inl runs) = ends-so (outcome.Fail why line) runs
    fails-first why line (inr at_cut) =
        let said = IfSome-at (slice_get t.cuts at_cut.place) (IsSaid at_cut.store) at_cut.cut at_cut.there
        (ends-so (outcome.End at_cut.place at_cut.store) at_cut.ends) in
        subst (λ n. ComesFirst next a ((walked types vars t).checks) why n) at_cut.at_line (said (Some why) at_cut.first)

    pub passes-all : (place : ℕ) (u : StoreMap) (cut : Cut) → RunsCode types t.code first (outcome.End place u) → slice_get t.cuts place ≡ Some cut →
        AtCut types vars cut u None → NoneComes next a ((walked types vars t).checks)
    passes-all place u cut runs there right =
        IfSome-at (slice_get t.cuts place) (IsSaid u) cut there (ends-so (outcome.End place u) runs) None right

    -- the other way: what comes first is what the triple fails with, where its run is settled
    pub first-fails : (why : Cause) (line : ℕ) → IsSettled types vars t first → ComesFirst next a (walked types vars t).checks why line →
        Fails types vars t first why line
    first-fails why line (out, runs, settled) comes = by out runs settled (ends-so out runs)
      where
        at-cut : (place : ℕ) (u : StoreMap) (cut : Cut) → slice_get t.cuts place ≡ Some cut → RunsCode types t.code first (outcome.End place u) →
            (other : Option Cause) → AtCut types vars cut u other → ComesAtCut next a (walked types vars t).checks cut.line other →
            Fails types vars t first why line
        at-cut place u cut there goes None right none = absurd (first-some next a (walked types vars t).checks why line comes none)
        at-cut place u cut there goes (Some other) wrong also =
            let same = one-first next a (walked types vars t).checks other why cut.line line also comes in
            inr (record {
              place = place;
              cut = cut;
              store = u;
              ends = goes;
              there = there;
              first = subst (λ w. IsFirstCause types vars cut u w) same.0 wrong;
              at_line = same.1;
            })

        by : (o : Outcome) → RunsCode types t.code first o → IsSettledAt types vars t.cuts o →
            EndsAs types vars t.cuts next a (walked types vars t).checks o → Fails types vars t first why line
        by (outcome.Fail other at) goes is ends =
            let same = one-first next a (walked types vars t).checks other why at line ends comes in
            inl (subst (λ w. RunsCode types t.code first (outcome.Fail w line)) same.0
            (subst (λ n. RunsCode types t.code first (outcome.Fail other n)) same.1 goes))
        by (outcome.End place u) goes is ends =
            let (cut, there, answer) = IsSomeAnd-at (slice_get t.cuts place) (λ (c : Cut). (w : Option Cause) × AtCut types vars c u w) is in
            at-cut place u cut there goes (answer.0) (answer.1) (IfSome-at (slice_get t.cuts place) (IsSaid u) cut there ends (answer.0) (answer.1))
