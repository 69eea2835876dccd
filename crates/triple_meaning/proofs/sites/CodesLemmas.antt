-- Codes: items, and then a cut or a branch.
use Rattle.std.proofs.Common.{◌≡◌, ℕ, IfSome, List, [], slice_get, Option, Some, None, refl, sym, ap, ◌∙◌, subst, arith, append-nil}
use Rattle.std.specs.Option.{option_map_or}
use Rattle.store_core.specs.Tables.{TypeEntry, VarEntry}
use Rattle.store_core.specs.Stores.{StoreMap}
use Rattle.store_logic.specs.declared.cond.Cond.{Cond}
use Rattle.store_exec.specs.declared.code.Code.{Code, roll-out-Code, out-Code}
use Rattle.store_exec.specs.declared.code.Tail.{Tail}
use Rattle.store_exec.specs.declared.code.Tail.TheVariants as tail
use Rattle.store_exec.specs.declared.code.Tail.TheVariants.{rolls-Cut, rolls-Branch}
use Rattle.store_exec.specs.declared.code.Tail.TheOpen.{Tail-F}
use Rattle.store_exec.specs.declared.code.Tail.TheFolds.{fold-Tail, fold-roll-Tail, fold-roll-Code}
use Rattle.store_exec.specs.declared.cause.Cause.{Cause}
use Rattle.store_exec.specs.Cuts.{AtCut}
use Rattle.store_exec.specs.declared.outcome.Outcome.{Outcome}
use Rattle.store_exec.specs.declared.outcome.Outcome.TheVariants as outcome
use Rattle.store_exec.specs.declared.triple.Cut.{Cut}
use Rattle.store_exec.specs.Fits.{CodeFits}
use Rattle.store_exec.specs.Steps.{truth_of}
use Rattle.store_exec.specs.Runs.{Follows, Branches, RunsItems, RunsCode}
use Rattle.store_exec.proofs.InductionLemmas.{codes-induction}
use Rattle.store_exec.proofs.CodeLemmas.{code-cut, code-branch}
use Rattle.store_exec.proofs.CanRunLemmas.{TailFits, code-fits, branch-fits}
use Rattle.site_list.specs.States.{State, guard}
use Rattle.site_list.specs.Reading.{Told}
use Rattle.site_list.specs.Conditions.{condition}
use Rattle.site_list.specs.Cuts.{arrived}
use Rattle.site_list.specs.Codes.{Going, items, tail_rule, code_rule, code}
use Rattle.site_list.specs.Codes as codes
use Rattle.triple_meaning.specs.Sites.Doing.{AreAssertionsMeant}
use Rattle.triple_meaning.specs.Sites.Ending.{ComesAtCut, EndsAs, EndsCode, AreCutsMeant}
use Rattle.triple_meaning.proofs.sites.PlacesLemmas.{none-none}
use Rattle.triple_meaning.proofs.sites.ConditionsLemmas.{condition-means}
use Rattle.triple_meaning.proofs.sites.ItemsLemmas.{items-meant}
use Rattle.triple_meaning.proofs.sites.BranchesLemmas.{items-end, branch-ends}

-- the same walk, by outcomes that come to these
pub ends-by : (types : List TypeEntry) (vars : List VarEntry) (cuts : List Cut) (s after : State) (One Other : StoreMap → Outcome → Type 0) →
    ((t : StoreMap) (out : Outcome) → Other t out → One t out) → EndsCode types vars cuts s after One → EndsCode types vars cuts s after Other
ends-by types vars cuts s after One Other from ends = record {
  made = ends.made;
  defined = ends.defined;
  added = ends.added;
  checks = ends.checks;
  news = ends.news;
  reached = λ next a first t at out sees room defined taken goes. ends.reached next a first t at out sees room defined taken (from t out goes);
  idle = ends.idle;
}

module _ (types : List TypeEntry) (vars : List VarEntry) (meant : AreAssertionsMeant types vars) (cuts : List Cut)
    (cuts_meant : AreCutsMeant types vars cuts) where
  -- ---- the walk over a code

  abbrev tail_goes : Tail → Going
  tail_goes = fold-Tail Going Going (tail_rule types vars cuts) (code_rule types vars)

  code-goes : (c : Code) (s : State) → code types vars cuts c s ≡ tail_goes c.tail (items types vars c.items s)
  code-goes c s = ap (λ (d : Code). code types vars cuts d s) (sym (roll-out-Code c))
      ∙ ap (λ (go : Going). go s) (fold-roll-Code Going Going (tail_rule types vars cuts) (code_rule types vars) (out-Code c))

  cut-goes : (place : ℕ) (s : State) → tail_goes (tail.Cut place) s ≡ option_map_or (λ cut. arrived types vars cut s) (slice_get cuts place) s
  cut-goes place s = ap (λ (t : Tail). tail_goes t s) (sym (rolls-Cut place))
      ∙ ap (λ (go : Going). go s) (fold-roll-Tail Going Going (tail_rule types vars cuts) (code_rule types vars) (Tail-F.Cut place))

  branch-goes : (line : ℕ) (b : Cond) (taken other : Code) (s : State) → tail_goes (tail.Branch line b taken other) s
      ≡ codes.branch types vars (code types vars cuts taken) (code types vars cuts other) (condition types vars line b (guard s) s)
  branch-goes line b taken other s = ap (λ (t : Tail). tail_goes t s) (sym (rolls-Branch line b taken other))
      ∙ ap (λ (go : Going). go s) (fold-roll-Tail Going Going (tail_rule types vars cuts) (code_rule types vars) (Tail-F.Branch line b taken other))

  -- ---- cuts

  no-cut : (place : ℕ) (s : State) → slice_get cuts place ≡ None → EndsCode types vars cuts s s (λ t out. out ≡ outcome.End place t)
  no-cut place s none = record {
    made = [];
    defined = sym (append-nil s.defined);
    added = [];
    checks = sym (append-nil s.checks);
    news = omega arith;
    reached = λ next a first t at out sees room defined taken is.
        subst (λ o. EndsAs types vars cuts next a [] o) (sym is)
        (subst (λ o. IfSome o (λ cut. (why : Option Cause) → AtCut types vars cut t why → ComesAtCut next a [] cut.line why)) (sym none) tt);
    idle = λ next a finite room defined below guarded passed. none-none next a;
  }

  cut-ends : (place : ℕ) (s : State) →
      EndsCode types vars cuts s (option_map_or (λ cut. arrived types vars cut s) (slice_get cuts place) s) (λ t out. out ≡ outcome.End place t)
  cut-ends place s = by (slice_get cuts place) refl
    where
      by : (o : Option Cut) → slice_get cuts place ≡ o →
          EndsCode types vars cuts s (option_map_or (λ cut. arrived types vars cut s) o s) (λ t out. out ≡ outcome.End place t)
      by None is = no-cut place s is
      by (Some cut) is = cuts_meant place cut s is

  -- ---- all codes

  abbrev IsMeant : Code → Type 0
  IsMeant c = CodeFits types vars c → (s : State) → EndsCode types vars cuts s (code types vars cuts c s) (λ t out. RunsCode types c t out)

  cut-meant : (c : Code) (place : ℕ) → c.tail ≡ tail.Cut place → IsMeant c
  cut-meant c place is fits s =
      let mid : State = items types vars c.items s in
      let parts = code-fits types vars c fits in
      let goes = code-goes c s ∙ ap (λ (x : Tail). tail_goes x mid) is ∙ cut-goes place mid in
      subst (λ z. EndsCode types vars cuts s z (λ t out. RunsCode types c t out)) (sym goes)
      (ends-by types vars cuts s (option_map_or (λ cut. arrived types vars cut mid) (slice_get cuts place) mid)
      (λ t out. Follows (RunsItems types c.items t) (λ u o. o ≡ outcome.End place u) out) (λ t out. RunsCode types c t out)
      (λ t out. (code-cut types c place is t out).0)
      (items-end types vars cuts s mid (option_map_or (λ cut. arrived types vars cut mid) (slice_get cuts place) mid)
      (λ t end. RunsItems types c.items t end) (λ u o. o ≡ outcome.End place u) (items-meant types vars meant c.items parts.0 s) (cut-ends place mid)))

  branch-meant : (c : Code) (line : ℕ) (b : Cond) (taken other : Code) → c.tail ≡ tail.Branch line b taken other → IsMeant taken → IsMeant other → IsMeant c
  branch-meant c line b taken other is one two fits s =
      let mid : State = items types vars c.items s in
      let parts = code-fits types vars c fits in
      let ways = branch-fits types vars line b taken other (subst (λ (x : Tail). TailFits types vars x) is parts.1) in
      let told : Told = condition types vars line b (guard mid) mid in
      let goes = code-goes c s ∙ ap (λ (x : Tail). tail_goes x mid) is ∙ branch-goes line b taken other mid in
      let after : State = codes.branch types vars (code types vars cuts taken) (code types vars cuts other) told in
      subst (λ z. EndsCode types vars cuts s z (λ t out. RunsCode types c t out)) (sym goes)
      (ends-by types vars cuts s after
      (λ t out. Follows (RunsItems types c.items t) (λ u o. Branches line (truth_of u b) (RunsCode types taken u) (RunsCode types other u) o) out)
      (λ t out. RunsCode types c t out) (λ t out. (code-branch types c line b taken other is t out).0)
      (items-end types vars cuts s mid after (λ t end. RunsItems types c.items t end)
      (λ u o. Branches line (truth_of u b) (RunsCode types taken u) (RunsCode types other u) o) (items-meant types vars meant c.items parts.0 s)
      (branch-ends types vars cuts line mid told (λ t. truth_of t b) (condition-means types vars line b ways.0 (guard mid) mid) (code types vars cuts taken)
      (code types vars cuts other) (λ t out. RunsCode types taken t out) (λ t out. RunsCode types other t out) (one ways.1) (two ways.2))))

  pub code-meant : (c : Code) → CodeFits types vars c → (s : State) →
      EndsCode types vars cuts s (code types vars cuts c s) (λ t out. RunsCode types c t out)
  code-meant = codes-induction IsMeant cut-meant branch-meant
