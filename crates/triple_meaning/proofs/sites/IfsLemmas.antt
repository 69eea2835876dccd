-- Plain ifs: two ways with a guard each, and the values after both.
use Rattle.std.proofs.Common.{◌≡◌, ◌↔◌, ℕ, suc, ◌<◌, Bool, true, false, IfSome, List, [], ◌∷◌, ◌++◌, length, slice_get, Some, Result, Ok, Err, refl, sym, ap}
use Rattle.std.proofs.Common.{◌∙◌, subst, arith, append-nil, append_assoc}
use Rattle.std.proofs.lemmas.Bool.{false≢true}
use Rattle.std.proofs.lemmas.List.{length-append}
use Rattle.std.proofs.lemmas.List.Elements.{All-head}
use Rattle.gta_theory.specs.Assignments.{Assignment, IsFinite}
use Rattle.ws2s_core.specs.Satisfaction.{WSat}
use Rattle.ws2s_core.proofs.SatisfactionLemmas.{WSat-And, WSat-Not}
use Rattle.ws2s_forms.specs.Forms.{track}
use Rattle.store_core.specs.declared.ids.VarId.{VarId}
use Rattle.store_core.specs.Tables.{TypeEntry, VarEntry}
use Rattle.store_core.specs.Stores.{StoreMap, IsFresh, var_value}
use Rattle.store_core.proofs.FittingLemmas.{IfSome-from, IfSome-at}
use Rattle.store_exec.specs.declared.cause.Cause.{Cause}
use Rattle.store_exec.specs.Runs.{Ending, ByTruth}
use Rattle.graph_view.specs.declared.view.Sym.{Sym}
use Rattle.graph_view.specs.declared.view.Sym.TheVariants.{At}
use Rattle.graph_view.specs.declared.view.Event.{Event}
use Rattle.graph_view.specs.Syms.{is_same}
use Rattle.graph_view.specs.After.{Standing, StandsFor, IsSeen, IsTaken, IsGuard, IsGuardBelow, AreEventsBelow}
use Rattle.site_list.specs.States.{Text, State, next_track, is_truth_of, guard, both, fails}
use Rattle.site_list.specs.Reading.{Told}
use Rattle.site_list.specs.Codes.{Going, with_ways, on_way, Merging, merged, plain_if}
use Rattle.triple_meaning.specs.Sites.Places.{Answers}
use Rattle.triple_meaning.specs.Sites.Seeing.{IsOver, HasRoom, IsBelow, AreDefined, AreSpare, Sees, with_more}
use Rattle.triple_meaning.specs.Sites.Answering.{Tells}
use Rattle.triple_meaning.specs.Sites.Doing.{Follows, IsIdle, Leads}
use Rattle.triple_meaning.proofs.sites.PlacesLemmas.{All-left, All-right, none-append, first-left}
use Rattle.triple_meaning.proofs.sites.StatesLemmas.{below-after}
use Rattle.triple_meaning.proofs.sites.TruthsLemmas.{IsToldAs}
use Rattle.triple_meaning.proofs.sites.EvaluatingLemmas.{reached-guard, means-idle, means-sees}
use Rattle.triple_meaning.proofs.sites.GrowingLemmas.{Longer, longer-then, room-longer, defined-longer, follows-right, idle-then}
use Rattle.triple_meaning.proofs.sites.MergingLemmas.{way-told, same-stands, merged-texts, merged-is, merged-count, merged-below, merged-first, merged-other}

-- a store that is seen with other values that stand for its variables
pub seen-valued : (types : List TypeEntry) (vars : List VarEntry) (values others : List Sym) (events : List Event) (a : Assignment) (first t : StoreMap)
    (at : Standing) → length others ≡ length values →
    ((v : VarId) → IfSome (slice_get others v.0) (λ u. IfSome (var_value t v) (StandsFor a at u))) → IsSeen types vars values events a first t at →
    IsSeen types vars others events a first t at
seen-valued types vars values others events a first t at same stands seen = record {
  start = seen.start;
  stand = seen.stand;
  ends = seen.ends;
  lead = seen.lead;
  cells = seen.cells;
  next = seen.next;
  fits = seen.fits;
  count = seen.count ∙ sym same;
  values = stands;
}

module _ (types : List TypeEntry) (vars : List VarEntry) (line : ℕ) (s : State) (told : Told) (truth : StoreMap → Result Bool Cause)
    (means : Tells types vars line (guard s) s told truth) (taken other : Going) (One Other : StoreMap → Ending → Type 0)
    (one_leads : (z : State) → Leads types vars z (taken z) One) (other_leads : (z : State) → Leads types vars z (other z) Other) where
  -- ---- states on the way

  abbrev start : State
  start = told.1

  abbrev h : ℕ
  h = next_track types vars start

  abbrev one_text : Text
  one_text = is_truth_of (both (guard start) (told.0)) h

  abbrev other_text : Text
  other_text = is_truth_of (both (guard start) (fails (told.0))) (suc h)

  abbrev ways : State
  ways = with_ways types vars (told.0) start

  abbrev one_start : State
  one_start = on_way h ways

  abbrev one_end : State
  one_end = taken one_start

  abbrev other_start : State
  other_start = on_way (suc h) (record one_end { values = ways.values })

  abbrev other_end : State
  other_end = other other_start

  abbrev joined : State
  joined = record other_end { guard = ways.guard }

  abbrev merge : Merging
  merge = merged types vars h one_end.values other_end.values joined

  abbrev end_state : State
  end_state = plain_if types vars taken other told

  one : Leads types vars one_start one_end One
  one = one_leads one_start

  two : Leads types vars other_start other_end Other
  two = other_leads other_start

  -- ---- tracks and places

  join-is : merge.1 ≡ with_more (merged-texts types vars h one_end.values other_end.values joined) [] joined
  join-is = merged-is types vars h one_end.values other_end.values joined

  counts : length one_end.values ≡ length other_end.values
  counts = one.count ∙ sym two.count

  to-start : Longer s.defined means.made start.defined
  to-start = ap (λ (z : State). z.defined) means.is

  to-ways : Longer start.defined (one_text ∷ other_text ∷ []) ways.defined
  to-ways = append_assoc start.defined (one_text ∷ []) (other_text ∷ [])

  to-end : Longer other_end.defined (merged-texts types vars h one_end.values other_end.values joined) end_state.defined
  to-end = ap (λ (z : State). z.defined) join-is

  module _ (next : ℕ) (room : HasRoom types vars next end_state) where
    room-other : HasRoom types vars next other_end
    room-other = room-longer types vars next other_end end_state (merged-texts types vars h one_end.values other_end.values joined) to-end room

    room-one : HasRoom types vars next one_end
    room-one = room-longer types vars next one_end other_end two.made two.defined room-other

    room-ways : HasRoom types vars next ways
    room-ways = room-longer types vars next ways one_end one.made one.defined room-one

    room-start : HasRoom types vars next start
    room-start = room-longer types vars next start ways (one_text ∷ other_text ∷ []) to-ways room-ways

    one-less : h < next
    one-less = (let space = room-ways in let same = ap length to-ways in let more = length-append start.defined (one_text ∷ other_text ∷ []) in
        omega (arith, space, same, more))

    other-less : suc h < next
    other-less = (let space = room-ways in let same = ap length to-ways in let more = length-append start.defined (one_text ∷ other_text ∷ []) in
        omega (arith, space, same, more))

    -- ---- all below

    module _ (below : IsBelow types vars s next) where
      below-start : IsBelow types vars start next
      below-start = below-after types vars line (guard s) s start (IsToldAs (told.0)) truth next means below room-start

      below-one_start : IsBelow types vars one_start next
      below-one_start = record { made = room-ways; guard = one-less; values = below-start.values; events = below-start.events }

      below-one : IsBelow types vars one_end next
      below-one = one.below next below-one_start room-one

      below-other_start : IsBelow types vars other_start next
      below-other_start = record { made = room-one; guard = other-less; values = below-start.values; events = below-one.events }

      below-other : IsBelow types vars other_end next
      below-other = two.below next below-other_start room-other

      pub below-end : IsBelow types vars end_state next
      below-end = record {
        made = room;
        guard = subst (λ (z : State). IsGuardBelow next z.guard) (sym join-is) below-start.guard;
        values = merged-below types vars h next one_end.values other_end.values joined room below-one.values;
        events = subst (λ (z : State). AreEventsBelow next z.events) (sym join-is) below-other.events;
      }

    -- ---- guards

    module _ (a : Assignment) (finite : IsFinite a) (defined : AreDefined next a end_state) where
      defined-other : AreDefined next a other_end
      defined-other = defined-longer next a other_end end_state (merged-texts types vars h one_end.values other_end.values joined) to-end defined

      defined-one : AreDefined next a one_end
      defined-one = defined-longer next a one_end other_end two.made two.defined defined-other

      defined-ways : AreDefined next a ways
      defined-ways = defined-longer next a ways one_end one.made one.defined defined-one

      defined-start : AreDefined next a start
      defined-start = defined-longer next a start ways (one_text ∷ other_text ∷ []) to-ways defined-ways

      one-defined : WSat (one_text next) a
      one-defined =
          All-head (λ (text : Text). WSat (text next) a) one_text []
          (All-right (λ (text : Text). WSat (text next) a) start.defined (one_text ∷ [])
          (All-left (λ (text : Text). WSat (text next) a) (start.defined ++ one_text ∷ []) (other_text ∷ []) defined-ways))

      other-defined : WSat (other_text next) a
      other-defined =
          All-head (λ (text : Text). WSat (text next) a) other_text []
          (All-right (λ (text : Text). WSat (text next) a) (start.defined ++ one_text ∷ []) (other_text ∷ []) defined-ways)

      one-way : (IsTaken a (Some (track h)) ↔ WSat (both (guard start) (told.0) next) a) × IsGuard a (Some (track h))
      one-way = way-told next a (both (guard start) (told.0)) h finite one-less one-defined

      other-way : (IsTaken a (Some (track (suc h))) ↔ WSat (both (guard start) (fails (told.0)) next) a) × IsGuard a (Some (track (suc h)))
      other-way = way-told next a (both (guard start) (fails (told.0))) (suc h) finite other-less other-defined

      guard-start : start.guard ≡ s.guard
      guard-start = ap (λ (z : State). z.guard) means.is

      module _ (below : IsGuardBelow next s.guard) where
        start-reached : WSat (guard start next) a ↔ IsTaken a s.guard
        start-reached =
            let told_at = reached-guard types vars line start next a finite (subst (λ g. IsGuardBelow next g) (sym guard-start) below) in (
              (λ k. subst (λ g. IsTaken a g) guard-start (told_at.0 k)),
              (λ k. told_at.1 (subst (λ g. IsTaken a g) (sym guard-start) k)),
            )

        one-taken : IsTaken a s.guard → WSat ((told.0) next) a → IsTaken a (Some (track h))
        one-taken is_taken holds = one-way.0.1 ((WSat-And (guard start next) ((told.0) next) a).1 (start-reached.1 is_taken, holds))

        one-passed : (WSat ((told.0) next) a → ⊥) → IsTaken a (Some (track h)) → ⊥
        one-passed lacks k = lacks ((WSat-And (guard start next) ((told.0) next) a).0 (one-way.0.0 k)).1

        one-out : (IsTaken a s.guard → ⊥) → IsTaken a (Some (track h)) → ⊥
        one-out passed k = passed (start-reached.0 ((WSat-And (guard start next) ((told.0) next) a).0 (one-way.0.0 k)).0)

        other-taken : IsTaken a s.guard → (WSat ((told.0) next) a → ⊥) → IsTaken a (Some (track (suc h)))
        other-taken is_taken lacks =
            other-way.0.1 ((WSat-And (guard start next) (fails (told.0) next) a).1 (start-reached.1 is_taken, (WSat-Not ((told.0) next) a).1 lacks))

        other-passed : WSat ((told.0) next) a → IsTaken a (Some (track (suc h))) → ⊥
        other-passed holds k =
            (WSat-Not ((told.0) next) a).0 ((WSat-And (guard start next) (fails (told.0) next) a).0 (other-way.0.0 k)).1 holds

        other-out : (IsTaken a s.guard → ⊥) → IsTaken a (Some (track (suc h))) → ⊥
        other-out passed k = passed (start-reached.0 ((WSat-And (guard start next) (fails (told.0) next) a).0 (other-way.0.0 k)).0)

      -- a way that isn't gone
      one-idle : (IsTaken a (Some (track h)) → ⊥) → IsIdle types vars next a one_start one_end one.added
      one-idle passed = one.idle next a finite room-one defined-one one-less one-way.1 passed

      other-idle : (IsTaken a (Some (track (suc h))) → ⊥) → IsIdle types vars next a other_start other_end two.added
      other-idle passed = two.idle next a finite room-other defined-other other-less other-way.1 passed

      -- ---- neither way

      if-idle : IsGuardBelow next s.guard → (IsTaken a s.guard → ⊥) → IsIdle types vars next a s end_state (means.added ++ (one.added ++ two.added))
      if-idle below passed =
          let first = means-idle types vars line s start (IsToldAs (told.0)) truth means next a finite below passed in
          let ways_idle = idle-then types vars next a one_start one_end other_end one.added two.added (one-idle (one-out below passed))
          (record { none = (other-idle (other-out below passed)).none; sees = (other-idle (other-out below passed)).sees }) in
          record {
            none = none-append next a means.added (one.added ++ two.added) first.none ways_idle.none;
            sees = λ begin values t at seen.
                subst (λ (z : State). IsSeen types vars values z.events a begin t at) (sym join-is)
                (ways_idle.sees begin values t at (first.sees begin values t at seen));
          }

      -- ---- after both ways

      carries : (at : Standing) (t : StoreMap) (v : VarId) (m : ℕ) (u : Sym) → m < next → WSat (is_same next (At (track m)) u) a →
          IfSome (var_value t v) (StandsFor a at u) → IfSome (var_value t v) (StandsFor a at (At (track m)))
      carries at t v m u less same so =
          IfSome-from (var_value t v) (StandsFor a at (At (track m))) (λ x x_is.
          same-stands next a at m u x less same (IfSome-at (var_value t v) (StandsFor a at u) x x_is so))

      module _ (first : StoreMap) (over : IsOver types vars a first) (below : IsBelow types vars s next) (guarded : IsGuard a s.guard) where
        -- the state after both ways, where the values that were merged stand for those of the store
        sees-end : (u : StoreMap) (at : Standing) (values : List Sym) → length (merge.0) ≡ length values →
            ((v : VarId) → IfSome (slice_get (merge.0) v.0) (λ w. IfSome (var_value u v) (StandsFor a at w))) →
            IsSeen types vars values other_end.events a first u at → IsFresh u → AreSpare vars other_end at → Sees types vars next a first end_state u at
        sees-end u at values same stands seen fresh spare = record {
          over = over;
          below = below-end below;
          guarded = subst (λ (z : State). IsGuard a z.guard) (sym join-is) (subst (λ g. IsGuard a g) (sym guard-start) guarded);
          seen = subst (λ es. IsSeen types vars (merge.0) es a first u at) (sym (ap (λ (z : State). z.events) join-is))
              (seen-valued types vars values (merge.0) other_end.events a first u at same stands seen);
          fresh = fresh;
          spare = λ k above c here. spare k (let same_news : end_state.news ≡ other_end.news = ap (λ (z : State). z.news) join-is in omega
              (arith, above, same_news))
              c here;
        }

        after-one : (u : StoreMap) (at : Standing) → (WSat ((told.0) next) a) → IsTaken a s.guard → Sees types vars next a first one_end u at →
            Sees types vars next a first end_state u at
        after-one u at holds is_taken sees =
            sees-end u at one_end.values (merged-count types vars h one_end.values other_end.values joined counts)
            (λ v. merged-first types vars h next a finite one-less (λ w. IfSome (var_value u v) (StandsFor a at w)) (carries at u v)
            (one-taken below.guard is_taken holds) one_end.values other_end.values joined v.0 counts room defined (sees.seen.values v))
            ((other-idle (other-passed below.guard holds)).sees first one_end.values u at sees.seen) sees.fresh
            (λ k above c here. sees.spare k (let more = two.news in omega (arith, above, more)) c here)

        after-other : (u : StoreMap) (at : Standing) → (WSat ((told.0) next) a → ⊥) → Sees types vars next a first other_end u at →
            Sees types vars next a first end_state u at
        after-other u at lacks sees =
            sees-end u at other_end.values (merged-count types vars h one_end.values other_end.values joined counts ∙ counts)
            (λ v. merged-other types vars h next a finite one-less (λ w. IfSome (var_value u v) (StandsFor a at w)) (carries at u v)
            (one-passed below.guard lacks) one_end.values other_end.values joined v.0 counts room defined (sees.seen.values v))
            sees.seen sees.fresh sees.spare

        -- ---- one way or the other

        module _ (t : StoreMap) (at : Standing) (sees : Sees types vars next a first start t at) (is_taken : IsTaken a s.guard) where
          sees-one : Sees types vars next a first one_start t at
          sees-one = record {
            over = over;
            below = below-one_start below;
            guarded = one-way.1;
            seen = sees.seen;
            fresh = sees.fresh;
            spare = sees.spare;
          }

          goes-one : WSat ((told.0) next) a → (end : Ending) → One t end → Follows types vars next a first end_state (one.added ++ two.added) end
          goes-one holds end ends =
              by end (one.reached next a first t at end sees-one room-one defined-one (one-taken below.guard is_taken holds) ends)
            where
              by : (e : Ending) → Follows types vars next a first one_end one.added e → Follows types vars next a first end_state (one.added ++ two.added) e
              by (Ok u) follows = (
                (follows.0.0, after-one u (follows.0.0) holds is_taken (follows.0.1)),
                none-append next a one.added two.added follows.1 (other-idle (other-passed below.guard holds)).none,
              )
              by (Err fault) follows = first-left next a one.added two.added fault.cause fault.line follows

          sees-other : (WSat ((told.0) next) a → ⊥) → Sees types vars next a first other_start t at
          sees-other lacks = record {
            over = over;
            below = below-other_start below;
            guarded = other-way.1;
            seen = (one-idle (one-passed below.guard lacks)).sees first start.values t at sees.seen;
            fresh = sees.fresh;
            spare = λ k above c here. sees.spare k (let more = one.news in omega (arith, above, more)) c here;
          }

          goes-other : (WSat ((told.0) next) a → ⊥) → (end : Ending) → Other t end → Follows types vars next a first end_state (one.added ++ two.added) end
          goes-other lacks end ends =
              follows-right types vars next a first end_state one.added two.added end (one-idle (one-passed below.guard lacks)).none
              (by end (two.reached next a first t at end (sees-other lacks) room-other defined-other (other-taken below.guard is_taken lacks) ends))
            where
              by : (e : Ending) → Follows types vars next a first other_end two.added e → Follows types vars next a first end_state two.added e
              by (Ok u) follows = ((follows.0.0, after-other u (follows.0.0) lacks (follows.0.1)), follows.1)
              by (Err fault) follows = follows

          by-truth : (r : Result Bool Cause) → Answers next a means.added line r (IsToldAs (told.0) next a at) → (end : Ending) →
              ByTruth line r (One t) (Other t) end → Follows types vars next a first end_state (means.added ++ (one.added ++ two.added)) end
          by-truth (Err why) answers end ends =
              subst (λ e. Follows types vars next a first end_state (means.added ++ (one.added ++ two.added)) e) (sym ends)
              (first-left next a means.added (one.added ++ two.added) why line answers.0)
          by-truth (Ok true) answers end ends =
              follows-right types vars next a first end_state means.added (one.added ++ two.added) end answers.0 (goes-one (answers.1.1 refl) end ends)
          by-truth (Ok false) answers end ends =
              follows-right types vars next a first end_state means.added (one.added ++ two.added) end answers.0
              (goes-other (λ k. false≢true (answers.1.0 k)) end ends)

  -- ---- all together

  to-end-checks : Longer one_end.checks two.added end_state.checks
  to-end-checks = ap (λ (z : State). z.checks) join-is ∙ append-nil other_end.checks ∙ two.checks

  pub if-leads : Leads types vars s (plain_if types vars taken other told) (λ t end. ByTruth line (truth t) (One t) (Other t) end)
  if-leads = record {
    made = means.made ++ ((one_text ∷ other_text ∷ []) ++ (one.made ++ (two.made ++ merged-texts types vars h one_end.values other_end.values joined)));
    defined = longer-then s.defined start.defined end_state.defined means.made
        ((one_text ∷ other_text ∷ []) ++ (one.made ++ (two.made ++ merged-texts types vars h one_end.values other_end.values joined))) to-start
        (longer-then start.defined ways.defined end_state.defined (one_text ∷ other_text ∷ [])
        (one.made ++ (two.made ++ merged-texts types vars h one_end.values other_end.values joined)) to-ways
        (longer-then ways.defined one_end.defined end_state.defined one.made (two.made ++ merged-texts types vars h one_end.values other_end.values joined)
        one.defined
        (longer-then one_end.defined other_end.defined end_state.defined two.made (merged-texts types vars h one_end.values other_end.values joined) two.defined
        to-end)));
    added = means.added ++ (one.added ++ two.added);
    checks = longer-then s.checks start.checks end_state.checks means.added (one.added ++ two.added) (ap (λ (z : State). z.checks) means.is)
        (longer-then start.checks one_end.checks end_state.checks one.added two.added one.checks to-end-checks);
    guard = ap (λ (z : State). z.guard) join-is ∙ ap (λ (z : State). z.guard) means.is;
    count = merged-count types vars h one_end.values other_end.values joined counts ∙ one.count ∙ ap (λ (z : State). length z.values) means.is;
    news = (let first : start.news ≡ s.news = ap (λ (z : State). z.news) means.is in
        let last : end_state.news ≡ other_end.news = ap (λ (z : State). z.news) join-is in
        let less = one.news in
        let more = two.news in omega (arith, first, last, less, more));
    below = λ next below room. below-end next room below;
    reached = λ next a first t at end sees room defined is_taken ends.
        by-truth next room a sees.over.finite defined first sees.over sees.below sees.guarded t at
        (means-sees types vars line s start (IsToldAs (told.0)) truth means next a first t at sees (room-start next room)) is_taken (truth t)
        (means.told next a first t at sees (room-start next room) (defined-start next room a sees.over.finite defined)
        ((reached-guard types vars line s next a sees.over.finite sees.below.guard).1 is_taken)) end ends;
    idle = λ next a finite room defined below guarded passed. if-idle next room a finite defined below passed;
  }
