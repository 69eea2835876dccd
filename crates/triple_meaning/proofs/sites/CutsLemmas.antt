-- Arriving at a cut: the places, and which cause comes first at them.
use Rattle.std.proofs.Common.{◌≡◌, ◌↔◌, ℕ, ◌<◌, List, [], ◌∷◌, ◌++◌, map, slice_get, IfSome, IsSomeAnd, Option, Some, None, refl, sym, ap, ◌∙◌, subst, arith}
use Rattle.std.proofs.Common.{append-nil, append_assoc}
use Rattle.std.specs.Option.{option_map_or}
use Rattle.std.proofs.lemmas.List.{length-append}
use Rattle.std.proofs.lemmas.List.Elements.{All-head}
use Rattle.gta_theory.specs.Assignments.{Assignment}
use Rattle.ws2s_core.specs.Satisfaction.{WSat}
use Rattle.ws2s_core.proofs.SatisfactionLemmas.{WSat-Not}
use Rattle.ws2s_forms.specs.Forms.{track}
use Rattle.ws2s_core.specs.declared.track.Track.{Track}
use Rattle.store_core.specs.declared.ids.VarId.{VarId}
use Rattle.store_core.specs.Tables.{TypeEntry, VarEntry}
use Rattle.store_core.specs.Stores.{StoreMap}
use Rattle.routing_walks.specs.CutFaults.{HasDanglingReference}
use Rattle.store_exec.specs.declared.cause.Cause.{Cause}
use Rattle.store_exec.specs.declared.cause.Cause.TheVariants as cause
use Rattle.store_exec.specs.declared.outcome.Outcome.{Outcome}
use Rattle.store_exec.specs.declared.outcome.Outcome.TheVariants as outcome
use Rattle.store_exec.specs.declared.triple.Cut.{Cut}
use Rattle.store_exec.specs.Cuts.{AreMet, Escapes, IsWrong, AtCut}
use Rattle.graph_view.specs.declared.view.CutCheck.{CutCheck}
use Rattle.graph_view.specs.declared.view.CutCheck.TheVariants as look
use Rattle.graph_view.specs.Cuts.{cut_formula}
use Rattle.site_list.specs.States.{Text, Check, State, next_track, check, guard, fails, sight, value_of}
use Rattle.site_list.specs.Parts.{is_part, escapes}
use Rattle.site_list.specs.Cuts.{claims, check_store, check_stores, check_claims, with_part, arrived_at_call, arrived}
use Rattle.triple_meaning.specs.Sites.Places.{Comes, NoneComes, ComesFirst}
use Rattle.triple_meaning.specs.Sites.Seeing.{HasRoom, Sees, with_more}
use Rattle.triple_meaning.specs.Sites.Ending.{ComesAtCut, EndsAs, EndsCode, AreConditionsTold, AreConditionsMeant, AreClaimsMeant}
use Rattle.triple_meaning.proofs.sites.PlacesLemmas.{All-right, none-none, none-cons, none-append}
use Rattle.triple_meaning.proofs.sites.StatesLemmas.{more-none, room-before, defined-before, sees-more}
use Rattle.triple_meaning.proofs.sites.EvaluatingLemmas.{reached-guard}

-- ---- the places of a cut

module _ (types : List TypeEntry) (vars : List VarEntry) (line : ℕ) where
  abbrev pub store_check : Cause → CutCheck → State → Check
  store_check why what s =
      record { cause = why; line = line; reached = guard s; condition = cut_formula types (sight vars s) vars s.values what }

  abbrev pub store_checks : State → List Check
  store_checks s =
      store_check cause.DanglingRef look.DanglingRef s ∷ store_check cause.Shared look.Shared s ∷ store_check cause.Leak look.Leak s
      ∷ store_check cause.Field look.Field s ∷ []

  -- a place more behind others
  place-more : (s : State) (cs : List Check) (c : Check) →
      check c.line c.reached c.cause c.condition (with_more [] cs s) ≡ with_more [] (cs ++ c ∷ []) s
  place-more s cs c = λ i. record s { defined = s.defined ++ []; checks = append_assoc s.checks cs (c ∷ []) i }

  stores-are : (s : State) → check_stores types vars line s ≡ with_more [] (store_checks s) s
  stores-are s =
      ap (λ z. check_stores types vars line z) (more-none s)
      ∙ ap (λ z. check_store types vars line cause.Field look.Field (check_store types vars line cause.Leak look.Leak
      (check_store types vars line cause.Shared look.Shared z))) (place-more s [] (store_check cause.DanglingRef look.DanglingRef s))
      ∙ ap (λ z. check_store types vars line cause.Field look.Field (check_store types vars line cause.Leak look.Leak z))
      (place-more s (store_check cause.DanglingRef look.DanglingRef s ∷ []) (store_check cause.Shared look.Shared s))
      ∙ ap (λ z. check_store types vars line cause.Field look.Field z)
      (place-more s (store_check cause.DanglingRef look.DanglingRef s ∷ store_check cause.Shared look.Shared s ∷ []) (store_check cause.Leak look.Leak s))
      ∙ place-more s (store_check cause.DanglingRef look.DanglingRef s ∷ store_check cause.Shared look.Shared s ∷ store_check cause.Leak look.Leak s ∷ [])
      (store_check cause.Field look.Field s)

module _ (types : List TypeEntry) (vars : List VarEntry) (cut : Cut) where
  abbrev pub post_check : Option Track → State → Check
  post_check part s =
      record { cause = cause.Post; line = cut.line; reached = guard s; condition = fails (claims types vars cut.asserts part s) }

  abbrev pub escape_check : ℕ → State → Check
  escape_check p s = record { cause = cause.Escape; line = cut.line; reached = guard s; condition = escapes vars cut.inside s.values p }

  abbrev pub alone_checks : State → List Check
  alone_checks s = store_checks types vars cut.line s ++ post_check None s ∷ []

  abbrev pub call_checks : ℕ → State → List Check
  call_checks p s = (store_checks types vars cut.line s ++ escape_check p s ∷ []) ++ post_check (Some (track p)) s ∷ []

  alone-are : (s : State) → check_claims types vars cut None (check_stores types vars cut.line s) ≡ with_more [] (alone_checks s) s
  alone-are s =
      ap (λ z. check_claims types vars cut None z) (stores-are types vars cut.line s)
      ∙ place-more types vars cut.line s (store_checks types vars cut.line s) (post_check None s)

  call-are : (p : ℕ) (s : State) → arrived_at_call types vars cut p s ≡ with_more [] (call_checks p s) s
  call-are p s =
      ap (λ z. check_claims types vars cut (Some (track p)) (check cut.line (guard s) cause.Escape (escapes vars cut.inside s.values p) z))
      (stores-are types vars cut.line s)
      ∙ ap (λ z. check_claims types vars cut (Some (track p)) z) (place-more types vars cut.line s (store_checks types vars cut.line s) (escape_check p s))
      ∙ place-more types vars cut.line s (store_checks types vars cut.line s ++ escape_check p s ∷ []) (post_check (Some (track p)) s)

-- ---- which comes first

-- the first of places at which none comes but this one
first-of : (next : ℕ) (a : Assignment) (cs before after : List Check) (c : Check) (why : Cause) (line : ℕ) → cs ≡ before ++ c ∷ after →
    NoneComes next a before → Comes next a c → c.cause ≡ why → c.line ≡ line → ComesFirst next a cs why line
first-of next a cs before after c why line order none comes is at_line =
    record { before = before; check = c; after = after; order = order; none = none; comes = comes; is = is; at_line = at_line }

module _ (types : List TypeEntry) (vars : List VarEntry) (cut : Cut) (next : ℕ) (a : Assignment) (s : State) (t : StoreMap)
    (told : AreConditionsTold types vars next a s t) (here : WSat (guard s next) a) where
  abbrev c1 : Check
  c1 = store_check types vars cut.line cause.DanglingRef look.DanglingRef s

  abbrev c2 : Check
  c2 = store_check types vars cut.line cause.Shared look.Shared s

  abbrev c3 : Check
  c3 = store_check types vars cut.line cause.Leak look.Leak s

  abbrev c4 : Check
  c4 = store_check types vars cut.line cause.Field look.Field s

  abbrev Wrong : Cause → Type 0
  Wrong why = IsWrong types vars cut t why

  none-one : (Wrong cause.DanglingRef → ⊥) → NoneComes next a (c1 ∷ [])
  none-one no1 = none-cons next a c1 [] (λ h. no1 (told.dangling.0 h.1)) (none-none next a)

  none-two : (Wrong cause.DanglingRef → ⊥) → (Wrong cause.Shared → ⊥) → NoneComes next a (c1 ∷ c2 ∷ [])
  none-two no1 no2 = none-cons next a c1 (c2 ∷ []) (λ h. no1 (told.dangling.0 h.1)) (none-cons next a c2 [] (λ h. no2 (told.shared.0 h.1)) (none-none next a))

  none-three : (Wrong cause.DanglingRef → ⊥) → (Wrong cause.Shared → ⊥) → (Wrong cause.Leak → ⊥) → NoneComes next a (c1 ∷ c2 ∷ c3 ∷ [])
  none-three no1 no2 no3 =
      none-cons next a c1 (c2 ∷ c3 ∷ []) (λ h. no1 (told.dangling.0 h.1))
      (none-cons next a c2 (c3 ∷ []) (λ h. no2 (told.shared.0 h.1)) (none-cons next a c3 [] (λ h. no3 (told.leaked.0 h.1)) (none-none next a)))

  none-before : (rest : List Check) → (Wrong cause.DanglingRef → ⊥) → (Wrong cause.Shared → ⊥) → (Wrong cause.Leak → ⊥) → (Wrong cause.Field → ⊥) →
      NoneComes next a rest → NoneComes next a (c1 ∷ c2 ∷ c3 ∷ c4 ∷ rest)
  none-before rest no1 no2 no3 no4 none =
      none-cons next a c1 (c2 ∷ c3 ∷ c4 ∷ rest) (λ h. no1 (told.dangling.0 h.1))
      (none-cons next a c2 (c3 ∷ c4 ∷ rest) (λ h. no2 (told.shared.0 h.1))
      (none-cons next a c3 (c4 ∷ rest) (λ h. no3 (told.leaked.0 h.1)) (none-cons next a c4 rest (λ h. no4 (told.wrong.0 h.1)) none)))

  -- the first of the four
  first-dangling : (rest : List Check) → Wrong cause.DanglingRef → ComesFirst next a (c1 ∷ c2 ∷ c3 ∷ c4 ∷ rest) cause.DanglingRef cut.line
  first-dangling rest is =
      first-of next a (c1 ∷ c2 ∷ c3 ∷ c4 ∷ rest) [] (c2 ∷ c3 ∷ c4 ∷ rest) c1 cause.DanglingRef cut.line refl (none-none next a) (here, told.dangling.1 is)
      refl refl

  first-shared : (rest : List Check) → Wrong cause.Shared → (Wrong cause.DanglingRef → ⊥) →
      ComesFirst next a (c1 ∷ c2 ∷ c3 ∷ c4 ∷ rest) cause.Shared cut.line
  first-shared rest is no1 =
      first-of next a (c1 ∷ c2 ∷ c3 ∷ c4 ∷ rest) (c1 ∷ []) (c3 ∷ c4 ∷ rest) c2 cause.Shared cut.line refl (none-one no1) (here, told.shared.1 is) refl refl

  first-leak : (rest : List Check) → Wrong cause.Leak → (Wrong cause.DanglingRef → ⊥) → (Wrong cause.Shared → ⊥) →
      ComesFirst next a (c1 ∷ c2 ∷ c3 ∷ c4 ∷ rest) cause.Leak cut.line
  first-leak rest is no1 no2 =
      first-of next a (c1 ∷ c2 ∷ c3 ∷ c4 ∷ rest) (c1 ∷ c2 ∷ []) (c4 ∷ rest) c3 cause.Leak cut.line refl (none-two no1 no2) (here, told.leaked.1 is) refl refl

  first-wrong : (rest : List Check) → Wrong cause.Field → (Wrong cause.DanglingRef → ⊥) → (Wrong cause.Shared → ⊥) → (Wrong cause.Leak → ⊥) →
      ComesFirst next a (c1 ∷ c2 ∷ c3 ∷ c4 ∷ rest) cause.Field cut.line
  first-wrong rest is no1 no2 no3 =
      first-of next a (c1 ∷ c2 ∷ c3 ∷ c4 ∷ rest) (c1 ∷ c2 ∷ c3 ∷ []) rest c4 cause.Field cut.line refl (none-three no1 no2 no3) (here, told.wrong.1 is)
      refl refl

  -- ---- without a handed part

  module _ (alone : cut.handed ≡ None) (claimed : (HasDanglingReference t → ⊥) →
      WSat (claims types vars cut.asserts None s next) a ↔ AreMet types vars t cut.asserts) where
    abbrev last : Check
    last = post_check types vars cut None s

    no-escape : Wrong cause.Escape → ⊥
    no-escape h = subst (λ o. IsSomeAnd o (λ part. Escapes types vars t part cut.inside)) alone h

    none-last : (Wrong cause.DanglingRef → ⊥) → (Wrong cause.Post → ⊥) → NoneComes next a (last ∷ [])
    none-last no1 no6 =
        none-cons next a last [] (λ h. no6 (λ met. (WSat-Not (claims types vars cut.asserts None s next) a).0 h.1 ((claimed no1).1 met))) (none-none next a)

    alone-comes : (why : Option Cause) → AtCut types vars cut t why → ComesAtCut next a (alone_checks types vars cut s) cut.line why
    alone-comes None right =
        none-before (last ∷ []) (right cause.DanglingRef) (right cause.Shared) (right cause.Leak) (right cause.Field)
        (none-last (right cause.DanglingRef) (right cause.Post))
    alone-comes (Some cause.DanglingRef) is = first-dangling (last ∷ []) is.here
    alone-comes (Some cause.Shared) is = first-shared (last ∷ []) is.here (is.before cause.DanglingRef (omega arith))
    alone-comes (Some cause.Leak) is =
        first-leak (last ∷ []) is.here (is.before cause.DanglingRef (omega arith)) (is.before cause.Shared (omega arith))
    alone-comes (Some cause.Field) is =
        first-wrong (last ∷ []) is.here (is.before cause.DanglingRef (omega arith)) (is.before cause.Shared (omega arith))
        (is.before cause.Leak (omega arith))
    alone-comes (Some cause.Escape) is = absurd (no-escape is.here)
    alone-comes (Some cause.Post) is =
        let no1 = is.before cause.DanglingRef (omega arith) in
        first-of next a (alone_checks types vars cut s) (c1 ∷ c2 ∷ c3 ∷ c4 ∷ []) [] last cause.Post cut.line refl
        (none-before [] no1 (is.before cause.Shared (omega arith)) (is.before cause.Leak (omega arith)) (is.before cause.Field (omega arith))
        (none-none next a))
        (here, (WSat-Not (claims types vars cut.asserts None s next) a).1 (λ h. is.here ((claimed no1).0 h))) refl refl
    alone-comes (Some cause.Null) is = absurd is.here
    alone-comes (Some cause.Dangling) is = absurd is.here
    alone-comes (Some cause.DoubleFree) is = absurd is.here
    alone-comes (Some cause.Assert) is = absurd is.here
    alone-comes (Some cause.Variant) is = absurd is.here

  -- ---- with a handed part

  module _ (roots : List VarId) (handed : cut.handed ≡ Some roots) (p : ℕ) (claimed : (HasDanglingReference t → ⊥) →
      (WSat (escapes vars cut.inside s.values p next) a ↔ Escapes types vars t roots cut.inside)
      × (WSat (claims types vars cut.asserts (Some (track p)) s next) a ↔ AreMet types vars t cut.asserts)) where
    abbrev fifth : Check
    fifth = escape_check types vars cut p s

    abbrev sixth : Check
    sixth = post_check types vars cut (Some (track p)) s

    escape-is : Wrong cause.Escape ↔ Escapes types vars t roots cut.inside
    escape-is = (
      (λ h. subst (λ o. IsSomeAnd o (λ part. Escapes types vars t part cut.inside)) handed h),
      (λ h. subst (λ o. IsSomeAnd o (λ part. Escapes types vars t part cut.inside)) (sym handed) h),
    )

    none-five : (rest : List Check) → (Wrong cause.DanglingRef → ⊥) → (Wrong cause.Escape → ⊥) → NoneComes next a rest → NoneComes next a (fifth ∷ rest)
    none-five rest no1 no5 none = none-cons next a fifth rest (λ h. no5 (escape-is.1 ((claimed no1).0.0 h.1))) none

    none-six : (Wrong cause.DanglingRef → ⊥) → (Wrong cause.Post → ⊥) → NoneComes next a (sixth ∷ [])
    none-six no1 no6 =
        none-cons next a sixth [] (λ h. no6 (λ met. (WSat-Not (claims types vars cut.asserts (Some (track p)) s next) a).0 h.1 ((claimed no1).1.1 met)))
        (none-none next a)

    call-comes : (why : Option Cause) → AtCut types vars cut t why → ComesAtCut next a (call_checks types vars cut p s) cut.line why
    call-comes None right =
        none-before (fifth ∷ sixth ∷ []) (right cause.DanglingRef) (right cause.Shared) (right cause.Leak) (right cause.Field)
        (none-five (sixth ∷ []) (right cause.DanglingRef) (right cause.Escape) (none-six (right cause.DanglingRef) (right cause.Post)))
    call-comes (Some cause.DanglingRef) is = first-dangling (fifth ∷ sixth ∷ []) is.here
    call-comes (Some cause.Shared) is = first-shared (fifth ∷ sixth ∷ []) is.here (is.before cause.DanglingRef (omega arith))
    call-comes (Some cause.Leak) is =
        first-leak (fifth ∷ sixth ∷ []) is.here (is.before cause.DanglingRef (omega arith)) (is.before cause.Shared (omega arith))
    call-comes (Some cause.Field) is =
        first-wrong (fifth ∷ sixth ∷ []) is.here (is.before cause.DanglingRef (omega arith)) (is.before cause.Shared (omega arith))
        (is.before cause.Leak (omega arith))
    call-comes (Some cause.Escape) is =
        let no1 = is.before cause.DanglingRef (omega arith) in
        first-of next a (call_checks types vars cut p s) (c1 ∷ c2 ∷ c3 ∷ c4 ∷ []) (sixth ∷ []) fifth cause.Escape cut.line refl
        (none-before [] no1 (is.before cause.Shared (omega arith)) (is.before cause.Leak (omega arith)) (is.before cause.Field (omega arith))
        (none-none next a))
        (here, (claimed no1).0.1 (escape-is.0 is.here)) refl refl
    call-comes (Some cause.Post) is =
        let no1 = is.before cause.DanglingRef (omega arith) in
        first-of next a (call_checks types vars cut p s) (c1 ∷ c2 ∷ c3 ∷ c4 ∷ fifth ∷ []) [] sixth cause.Post cut.line refl
        (none-before (fifth ∷ []) no1 (is.before cause.Shared (omega arith)) (is.before cause.Leak (omega arith)) (is.before cause.Field (omega arith))
        (none-five [] no1 (is.before cause.Escape (omega arith)) (none-none next a)))
        (here, (WSat-Not (claims types vars cut.asserts (Some (track p)) s next) a).1 (λ h. is.here ((claimed no1).1.0 h))) refl refl
    call-comes (Some cause.Null) is = absurd is.here
    call-comes (Some cause.Dangling) is = absurd is.here
    call-comes (Some cause.DoubleFree) is = absurd is.here
    call-comes (Some cause.Assert) is = absurd is.here
    call-comes (Some cause.Variant) is = absurd is.here

-- ---- the walk at a cut

module _ (types : List TypeEntry) (vars : List VarEntry) (cuts : List Cut) (place : ℕ) (cut : Cut) (is_cut : slice_get cuts place ≡ Some cut)
    (meant : AreClaimsMeant types vars cut) (conditions : AreConditionsMeant types vars) (s : State) where
  abbrev Arrives : StoreMap → Outcome → Type 0
  Arrives t out = out ≡ outcome.End place t

  -- an outcome at this cut, by what is wrong there
  end-here : (next : ℕ) (a : Assignment) (added : List Check) (t : StoreMap) (out : Outcome) → Arrives t out →
      ((why : Option Cause) → AtCut types vars cut t why → ComesAtCut next a added cut.line why) → EndsAs types vars cuts next a added out
  end-here next a added t out is comes =
      subst (λ o. EndsAs types vars cuts next a added o) (sym is)
      (subst (λ o. IfSome o (λ (c : Cut). (why : Option Cause) → AtCut types vars c t why → ComesAtCut next a added c.line why)) (sym is_cut) comes)

  -- no place is reached
  none-four : (next : ℕ) (a : Assignment) (z : State) (rest : List Check) → (WSat (guard z next) a → ⊥) → NoneComes next a rest →
      NoneComes next a (store_checks types vars cut.line z ++ rest)
  none-four next a z rest out none =
      none-cons next a (store_check types vars cut.line cause.DanglingRef look.DanglingRef z)
      (store_check types vars cut.line cause.Shared look.Shared z ∷ store_check types vars cut.line cause.Leak look.Leak z
      ∷ store_check types vars cut.line cause.Field look.Field z ∷ rest) (λ h. out h.0)
      (none-cons next a (store_check types vars cut.line cause.Shared look.Shared z)
      (store_check types vars cut.line cause.Leak look.Leak z ∷ store_check types vars cut.line cause.Field look.Field z ∷ rest) (λ h. out h.0)
      (none-cons next a (store_check types vars cut.line cause.Leak look.Leak z)
      (store_check types vars cut.line cause.Field look.Field z ∷ rest) (λ h. out h.0)
      (none-cons next a (store_check types vars cut.line cause.Field look.Field z) rest (λ h. out h.0) none)))

  alone-ends : cut.handed ≡ None → EndsCode types vars cuts s (with_more [] (alone_checks types vars cut s) s) Arrives
  alone-ends alone = record {
    made = [];
    defined = refl;
    added = alone_checks types vars cut s;
    checks = refl;
    news = omega arith;
    reached = λ next a first t at out sees room defined taken is.
        end-here next a (alone_checks types vars cut s) t out is
        (alone-comes types vars cut next a s t (conditions next a first s t at sees)
        ((reached-guard types vars cut.line s next a sees.over.finite sees.below.guard).1 taken) alone
        (meant.alone alone next a first s t at sees));
    idle = λ next a finite room defined below guarded passed.
        let out = λ (h : WSat (guard s next) a). passed ((reached-guard types vars cut.line s next a finite below).0 h) in
        none-four next a s (post_check types vars cut None s ∷ []) out
        (none-cons next a (post_check types vars cut None s) [] (λ h. out h.0) (none-none next a));
  }

  -- ---- with a handed part, on a track that is made

  module _ (roots : List VarId) (handed : cut.handed ≡ Some roots) where
    abbrev p : ℕ
    p = next_track types vars s

    abbrev part_text : Text
    part_text = is_part types (sight vars s) (map (value_of s.values) roots) (next_track types vars s)

    abbrev with_track : State
    with_track = with_part types vars roots s

    made-is : with_track ≡ with_more (part_text ∷ []) [] s
    made-is = λ i. record s { defined = s.defined ++ part_text ∷ []; checks = sym (append-nil s.checks) i }

    abbrev after : State
    after = with_more [] (call_checks types vars cut p with_track) with_track

    call-ends : EndsCode types vars cuts s after Arrives
    call-ends = record {
      made = part_text ∷ [];
      defined = append-nil (s.defined ++ part_text ∷ []);
      added = call_checks types vars cut p with_track;
      checks = refl;
      news = omega arith;
      reached = λ next a first t at out sees room defined taken is.
          let room_track = room-before types vars next [] (call_checks types vars cut p with_track) with_track room in
          let sees_track = subst (λ z. Sees types vars next a first z t at) (sym made-is)
          (sees-more types vars next a first s t at (part_text ∷ []) [] sees (subst (HasRoom types vars next) made-is room_track)) in
          let less : p < next = let more = length-append s.defined (part_text ∷ []) in omega (arith, room_track, more) in
          let holds : WSat (part_text next) a = All-head (λ (text : Text). WSat (text next) a) part_text []
          (All-right (λ (text : Text). WSat (text next) a) s.defined (part_text ∷ [])
          (defined-before types vars next a [] (call_checks types vars cut p with_track) with_track defined)) in
          end-here next a (call_checks types vars cut p with_track) t out is
          (call-comes types vars cut next a with_track t (conditions next a first with_track t at sees_track)
          ((reached-guard types vars cut.line s next a sees.over.finite sees.below.guard).1 taken) roots handed p
          (λ no1. meant.on_part roots handed next p a first with_track t at sees_track no1 less holds));
      idle = λ next a finite room defined below guarded passed.
          let out = λ (h : WSat (guard s next) a). passed ((reached-guard types vars cut.line s next a finite below).0 h) in
          none-append next a (store_checks types vars cut.line with_track ++ escape_check types vars cut p with_track ∷ [])
          (post_check types vars cut (Some (track p)) with_track ∷ [])
          (none-four next a with_track (escape_check types vars cut p with_track ∷ []) out
          (none-cons next a (escape_check types vars cut p with_track) [] (λ h. out h.0) (none-none next a)))
          (none-cons next a (post_check types vars cut (Some (track p)) with_track) [] (λ h. out h.0) (none-none next a));
    }

  -- ---- both

  pub arrived-ends : EndsCode types vars cuts s (arrived types vars cut s) Arrives
  arrived-ends = by cut.handed refl
    where
      by : (o : Option (List VarId)) → cut.handed ≡ o →
          EndsCode types vars cuts s (option_map_or (λ roots. arrived_at_call types vars cut (next_track types vars s) (with_part types vars roots s)) o
          (check_claims types vars cut None (check_stores types vars cut.line s))) Arrives
      by None alone = subst (λ z. EndsCode types vars cuts s z Arrives) (sym (alone-are types vars cut s)) (alone-ends alone)
      by (Some roots) handed =
          subst (λ z. EndsCode types vars cuts s z Arrives)
          (sym (call-are types vars cut (next_track types vars s) (with_part types vars roots s))) (call-ends roots handed)
