-- Branches: two codes with a guard each, each from the store before both.
use Rattle.std.proofs.Common.{◌≡◌, ◌↔◌, inl, inr, ℕ, suc, ◌<◌, Bool, true, false, List, [], ◌∷◌, ◌++◌, length, slice_get, Option, Some, None, Result, Ok, Err}
use Rattle.std.proofs.Common.{refl, sym, ap, subst, arith, append_assoc}
use Rattle.std.proofs.lemmas.Bool.{false≢true}
use Rattle.std.proofs.lemmas.List.{length-append}
use Rattle.std.proofs.lemmas.List.Elements.{All-head}
use Rattle.gta_theory.specs.Assignments.{Assignment, IsFinite}
use Rattle.ws2s_core.specs.Satisfaction.{WSat}
use Rattle.ws2s_core.proofs.SatisfactionLemmas.{WSat-And, WSat-Not}
use Rattle.ws2s_forms.specs.Forms.{track}
use Rattle.store_core.specs.Tables.{TypeEntry, VarEntry}
use Rattle.store_core.specs.Stores.{StoreMap}
use Rattle.store_core.proofs.FittingLemmas.{IfSome-from, IfSome-at}
use Rattle.store_exec.specs.declared.cause.Cause.{Cause}
use Rattle.store_exec.specs.declared.outcome.Outcome.{Outcome}
use Rattle.store_exec.specs.declared.outcome.Outcome.TheVariants as outcome
use Rattle.store_exec.specs.declared.triple.Cut.{Cut}
use Rattle.store_exec.specs.Cuts.{AtCut}
use Rattle.store_exec.specs.Runs.{Ending, Branches}
use Rattle.store_exec.specs.Runs as runs
use Rattle.graph_view.specs.After.{Standing, IsTaken, IsGuard, IsGuardBelow}
use Rattle.site_list.specs.States.{Text, Check, State, next_track, is_truth_of, guard, both, fails}
use Rattle.site_list.specs.Reading.{Told}
use Rattle.site_list.specs.Codes.{Going, with_ways, on_way, branch}
use Rattle.triple_meaning.specs.Sites.Places.{NoneComes, Answers}
use Rattle.triple_meaning.specs.Sites.Seeing.{HasRoom, AreDefined, Sees}
use Rattle.triple_meaning.specs.Sites.Answering.{Tells}
use Rattle.triple_meaning.specs.Sites.Doing.{Leads}
use Rattle.triple_meaning.specs.Sites.Ending.{ComesAtCut, EndsAs, EndsCode}
use Rattle.triple_meaning.proofs.sites.PlacesLemmas.{All-left, All-right, none-append, first-left, first-right}
use Rattle.triple_meaning.proofs.sites.TruthsLemmas.{IsToldAs}
use Rattle.triple_meaning.proofs.sites.EvaluatingLemmas.{reached-guard, means-sees}
use Rattle.triple_meaning.proofs.sites.GrowingLemmas.{Longer, longer-then, room-longer, defined-longer}
use Rattle.triple_meaning.proofs.sites.MergingLemmas.{way-told}

-- ---- outcomes with places in front or behind at which none comes

module _ (types : List TypeEntry) (vars : List VarEntry) (cuts : List Cut) (next : ℕ) (a : Assignment) where
  at-cut-right : (cs ds : List Check) (line : ℕ) (why : Option Cause) → NoneComes next a cs → ComesAtCut next a ds line why →
      ComesAtCut next a (cs ++ ds) line why
  at-cut-right cs ds line None none comes = none-append next a cs ds none comes
  at-cut-right cs ds line (Some why) none comes = first-right next a cs ds why line none comes

  at-cut-left : (cs ds : List Check) (line : ℕ) (why : Option Cause) → NoneComes next a ds → ComesAtCut next a cs line why →
      ComesAtCut next a (cs ++ ds) line why
  at-cut-left cs ds line None none comes = none-append next a cs ds comes none
  at-cut-left cs ds line (Some why) none comes = first-left next a cs ds why line comes

  abbrev IsAtCut : List Check → StoreMap → Cut → Type 0
  IsAtCut cs t cut = (why : Option Cause) → AtCut types vars cut t why → ComesAtCut next a cs cut.line why

  pub ends-right : (cs ds : List Check) (out : Outcome) → NoneComes next a cs → EndsAs types vars cuts next a ds out →
      EndsAs types vars cuts next a (cs ++ ds) out
  ends-right cs ds (outcome.Fail why line) none ends = first-right next a cs ds why line none ends
  ends-right cs ds (outcome.End place t) none ends =
      IfSome-from (slice_get cuts place) (IsAtCut (cs ++ ds) t) (λ cut is why at_cut.
      at-cut-right cs ds cut.line why none (IfSome-at (slice_get cuts place) (IsAtCut ds t) cut is ends why at_cut))

  pub ends-left : (cs ds : List Check) (out : Outcome) → NoneComes next a ds → EndsAs types vars cuts next a cs out →
      EndsAs types vars cuts next a (cs ++ ds) out
  ends-left cs ds (outcome.Fail why line) none ends = first-left next a cs ds why line ends
  ends-left cs ds (outcome.End place t) none ends =
      IfSome-from (slice_get cuts place) (IsAtCut (cs ++ ds) t) (λ cut is why at_cut.
      at-cut-left cs ds cut.line why none (IfSome-at (slice_get cuts place) (IsAtCut cs t) cut is ends why at_cut))

-- ---- items, and then what follows

module _ (types : List TypeEntry) (vars : List VarEntry) (cuts : List Cut) (s mid after : State) (Items : StoreMap → Ending → Type 0)
    (Next : StoreMap → Outcome → Type 0) (items : Leads types vars s mid Items) (more : EndsCode types vars cuts mid after Next) where
  abbrev Whole : StoreMap → Outcome → Type 0
  Whole t out = runs.Follows (Items t) Next out

  items-reached : (next : ℕ) (a : Assignment) (first t : StoreMap) (at : Standing) (out : Outcome) → Sees types vars next a first s t at →
      HasRoom types vars next after → AreDefined next a after → IsTaken a s.guard → Whole t out →
      EndsAs types vars cuts next a (items.added ++ more.added) out
  items-reached next a first t at out sees room defined taken (inl (u, ends, goes)) =
      let room_mid = room-longer types vars next mid after more.made more.defined room in
      let defined_mid = defined-longer next a mid after more.made more.defined defined in
      let (seen_mid, none) = items.reached next a first t at (Ok u) sees room_mid defined_mid taken ends in
      ends-right types vars cuts next a items.added more.added out none
      (more.reached next a first u (seen_mid.0) out (seen_mid.1) room defined (subst (λ g. IsTaken a g) (sym items.guard) taken) goes)
  items-reached next a first t at out sees room defined taken (inr (fault, ends, is)) =
      let room_mid = room-longer types vars next mid after more.made more.defined room in
      let defined_mid = defined-longer next a mid after more.made more.defined defined in
      let stops = items.reached next a first t at (Err fault) sees room_mid defined_mid taken ends in
      subst (λ o. EndsAs types vars cuts next a (items.added ++ more.added) o) (sym is)
      (first-left next a items.added more.added fault.cause fault.line stops)

  pub items-end : EndsCode types vars cuts s after Whole
  items-end = record {
    made = items.made ++ more.made;
    defined = longer-then s.defined mid.defined after.defined items.made more.made items.defined more.defined;
    added = items.added ++ more.added;
    checks = longer-then s.checks mid.checks after.checks items.added more.added items.checks more.checks;
    news = (let less = items.news in let further = more.news in omega (arith, less, further));
    reached = items-reached;
    idle = λ next a finite room defined below guarded passed.
        none-append next a items.added more.added
        (items.idle next a finite (room-longer types vars next mid after more.made more.defined room)
        (defined-longer next a mid after more.made more.defined defined) below guarded passed).none
        (more.idle next a finite room defined (subst (λ g. IsGuardBelow next g) (sym items.guard) below) (subst (λ g. IsGuard a g) (sym items.guard) guarded)
        (λ h. passed (subst (λ g. IsTaken a g) items.guard h)));
  }

-- ---- branches

module _ (types : List TypeEntry) (vars : List VarEntry) (cuts : List Cut) (line : ℕ) (s : State) (told : Told) (truth : StoreMap → Result Bool Cause)
    (means : Tells types vars line (guard s) s told truth) (taken other : Going) (One Other : StoreMap → Outcome → Type 0)
    (one_ends : (z : State) → EndsCode types vars cuts z (taken z) One) (other_ends : (z : State) → EndsCode types vars cuts z (other z) Other) where
  abbrev start : State
  start = told.1

  abbrev h : ℕ
  h = next_track types vars start

  abbrev one_text : Text
  one_text = is_truth_of (both (guard start) (told.0)) h

  abbrev other_text : Text
  other_text = is_truth_of (both (guard start) (fails (told.0))) (suc h)

  abbrev ways : State
  ways = with_ways types vars (told.0) start

  abbrev one_start : State
  one_start = on_way h ways

  abbrev one_end : State
  one_end = taken one_start

  abbrev other_start : State
  other_start = on_way (suc h) (record one_end { values = ways.values; events = ways.events })

  abbrev end_state : State
  end_state = branch types vars taken other told

  one : EndsCode types vars cuts one_start one_end One
  one = one_ends one_start

  two : EndsCode types vars cuts other_start end_state Other
  two = other_ends other_start

  to-start : Longer s.defined means.made start.defined
  to-start = ap (λ (z : State). z.defined) means.is

  to-ways : Longer start.defined (one_text ∷ other_text ∷ []) ways.defined
  to-ways = append_assoc start.defined (one_text ∷ []) (other_text ∷ [])

  guard-start : start.guard ≡ s.guard
  guard-start = ap (λ (z : State). z.guard) means.is

  module _ (next : ℕ) (room : HasRoom types vars next end_state) (a : Assignment) (finite : IsFinite a) (defined : AreDefined next a end_state) where
    room-one : HasRoom types vars next one_end
    room-one = room-longer types vars next one_end end_state two.made two.defined room

    room-ways : HasRoom types vars next ways
    room-ways = room-longer types vars next ways one_end one.made one.defined room-one

    room-start : HasRoom types vars next start
    room-start = room-longer types vars next start ways (one_text ∷ other_text ∷ []) to-ways room-ways

    one-less : h < next
    one-less = (let space = room-ways in let same = ap length to-ways in let more = length-append start.defined (one_text ∷ other_text ∷ []) in
        omega (arith, space, same, more))

    other-less : suc h < next
    other-less = (let space = room-ways in let same = ap length to-ways in let more = length-append start.defined (one_text ∷ other_text ∷ []) in
        omega (arith, space, same, more))

    defined-one : AreDefined next a one_end
    defined-one = defined-longer next a one_end end_state two.made two.defined defined

    defined-ways : AreDefined next a ways
    defined-ways = defined-longer next a ways one_end one.made one.defined defined-one

    defined-start : AreDefined next a start
    defined-start = defined-longer next a start ways (one_text ∷ other_text ∷ []) to-ways defined-ways

    one-way : (IsTaken a (Some (track h)) ↔ WSat (both (guard start) (told.0) next) a) × IsGuard a (Some (track h))
    one-way =
        way-told next a (both (guard start) (told.0)) h finite one-less
        (All-head (λ (text : Text). WSat (text next) a) one_text []
        (All-right (λ (text : Text). WSat (text next) a) start.defined (one_text ∷ [])
        (All-left (λ (text : Text). WSat (text next) a) (start.defined ++ one_text ∷ []) (other_text ∷ []) defined-ways)))

    other-way : (IsTaken a (Some (track (suc h))) ↔ WSat (both (guard start) (fails (told.0)) next) a) × IsGuard a (Some (track (suc h)))
    other-way =
        way-told next a (both (guard start) (fails (told.0))) (suc h) finite other-less
        (All-head (λ (text : Text). WSat (text next) a) other_text []
        (All-right (λ (text : Text). WSat (text next) a) (start.defined ++ one_text ∷ []) (other_text ∷ []) defined-ways))

    -- a code that isn't gone
    one-idle : (IsTaken a (Some (track h)) → ⊥) → NoneComes next a one.added
    one-idle passed = one.idle next a finite room-one defined-one one-less one-way.1 passed

    other-idle : (IsTaken a (Some (track (suc h))) → ⊥) → NoneComes next a two.added
    other-idle passed = two.idle next a finite room defined other-less other-way.1 passed

    module _ (below : IsGuardBelow next s.guard) where
      start-reached : WSat (guard start next) a ↔ IsTaken a s.guard
      start-reached =
          let told_at = reached-guard types vars line start next a finite (subst (λ g. IsGuardBelow next g) (sym guard-start) below) in (
            (λ k. subst (λ g. IsTaken a g) guard-start (told_at.0 k)),
            (λ k. told_at.1 (subst (λ g. IsTaken a g) (sym guard-start) k)),
          )

      neither : (IsTaken a s.guard → ⊥) → NoneComes next a (means.added ++ (one.added ++ two.added))
      neither passed =
          none-append next a means.added (one.added ++ two.added)
          (means.idle next a (λ k. passed ((reached-guard types vars line s next a finite below).0 k)))
          (none-append next a one.added two.added
          (one-idle (λ k. passed (start-reached.0 ((WSat-And (guard start next) ((told.0) next) a).0 (one-way.0.0 k)).0)))
          (other-idle (λ k. passed (start-reached.0 ((WSat-And (guard start next) (fails (told.0) next) a).0 (other-way.0.0 k)).0))))

    module _ (first t : StoreMap) (at : Standing) (sees : Sees types vars next a first start t at) (is_taken : WSat (guard start next) a) where
      sees-one : Sees types vars next a first one_start t at
      sees-one = record {
        over = sees.over;
        below = record { made = room-ways; guard = one-less; values = sees.below.values; events = sees.below.events };
        guarded = one-way.1;
        seen = sees.seen;
        fresh = sees.fresh;
        spare = sees.spare;
      }

      sees-other : Sees types vars next a first other_start t at
      sees-other = record {
        over = sees.over;
        below = record { made = room-one; guard = other-less; values = sees.below.values; events = sees.below.events };
        guarded = other-way.1;
        seen = sees.seen;
        fresh = sees.fresh;
        spare = λ k above c here. sees.spare k (let more = one.news in omega (arith, above, more)) c here;
      }

      goes-one : WSat ((told.0) next) a → (out : Outcome) → One t out → EndsAs types vars cuts next a (one.added ++ two.added) out
      goes-one holds out ends =
          ends-left types vars cuts next a one.added two.added out
          (other-idle (λ k. (WSat-Not ((told.0) next) a).0 ((WSat-And (guard start next) (fails (told.0) next) a).0 (other-way.0.0 k)).1 holds))
          (one.reached next a first t at out sees-one room-one defined-one (one-way.0.1 ((WSat-And (guard start next) ((told.0) next) a).1 (is_taken, holds)))
          ends)

      goes-other : (WSat ((told.0) next) a → ⊥) → (out : Outcome) → Other t out → EndsAs types vars cuts next a (one.added ++ two.added) out
      goes-other lacks out ends =
          ends-right types vars cuts next a one.added two.added out
          (one-idle (λ k. lacks ((WSat-And (guard start next) ((told.0) next) a).0 (one-way.0.0 k)).1))
          (two.reached next a first t at out sees-other room defined
          (other-way.0.1 ((WSat-And (guard start next) (fails (told.0) next) a).1 (is_taken, (WSat-Not ((told.0) next) a).1 lacks))) ends)

      by-truth : (r : Result Bool Cause) → Answers next a means.added line r (IsToldAs (told.0) next a at) → (out : Outcome) →
          Branches line r (One t) (Other t) out → EndsAs types vars cuts next a (means.added ++ (one.added ++ two.added)) out
      by-truth (Err why) answers out ends =
          subst (λ o. EndsAs types vars cuts next a (means.added ++ (one.added ++ two.added)) o) (sym ends)
          (first-left next a means.added (one.added ++ two.added) why line answers.0)
      by-truth (Ok true) answers out ends =
          ends-right types vars cuts next a means.added (one.added ++ two.added) out answers.0 (goes-one (answers.1.1 refl) out ends)
      by-truth (Ok false) answers out ends =
          ends-right types vars cuts next a means.added (one.added ++ two.added) out answers.0 (goes-other (λ k. false≢true (answers.1.0 k)) out ends)

  pub branch-ends : EndsCode types vars cuts s (branch types vars taken other told) (λ t out. Branches line (truth t) (One t) (Other t) out)
  branch-ends = record {
    made = means.made ++ ((one_text ∷ other_text ∷ []) ++ (one.made ++ two.made));
    defined = longer-then s.defined start.defined end_state.defined means.made ((one_text ∷ other_text ∷ []) ++ (one.made ++ two.made)) to-start
        (longer-then start.defined ways.defined end_state.defined (one_text ∷ other_text ∷ []) (one.made ++ two.made) to-ways
        (longer-then ways.defined one_end.defined end_state.defined one.made two.made one.defined two.defined));
    added = means.added ++ (one.added ++ two.added);
    checks = longer-then s.checks start.checks end_state.checks means.added (one.added ++ two.added) (ap (λ (z : State). z.checks) means.is)
        (longer-then start.checks one_end.checks end_state.checks one.added two.added one.checks two.checks);
    news = (let same : start.news ≡ s.news = ap (λ (z : State). z.news) means.is in
        let less = one.news in
        let more = two.news in omega (arith, same, less, more));
    reached = λ next a first t at out sees room defined is_taken ends.
        let finite = sees.over.finite in
        let room_start = room-start next room a finite defined in
        by-truth next room a finite defined first t at
        (means-sees types vars line s start (IsToldAs (told.0)) truth means next a first t at sees room_start)
        ((start-reached next room a finite defined sees.below.guard).1 is_taken) (truth t)
        (means.told next a first t at sees room_start (defined-start next room a finite defined)
        ((reached-guard types vars line s next a finite sees.below.guard).1 is_taken)) out ends;
    idle = λ next a finite room defined below guarded passed. neither next room a finite defined below passed;
  }
