-- Items, codes and arriving at cuts keep the made tracks defined one after the other.
use Rattle.std.proofs.Common.{◌≡◌, ℕ, suc, ◌<◌, ◌≤◌, Bool, true, false, cond, List, [], ◌∷◌, length, map, slice_get, All, Option, Some, None, refl, sym, ap}
use Rattle.std.proofs.Common.{◌∙◌, subst, arith}
use Rattle.std.specs.Option.{option_map_or}
use Rattle.std.proofs.lemmas.List.Elements.{All-nil, All-cons, All-head, All-tail}
use Rattle.ws2s_forms.specs.Forms.{track}
use Rattle.store_core.specs.declared.ids.VarId.{VarId}
use Rattle.store_core.specs.Tables.{TypeEntry, VarEntry}
use Rattle.store_logic.specs.declared.act.Act.{Act}
use Rattle.store_logic.specs.declared.cond.Cond.{Cond}
use Rattle.store_exec.specs.declared.code.Item.{Item}
use Rattle.store_exec.specs.declared.code.Item.TheVariants as item
use Rattle.store_exec.specs.declared.code.Item.TheVariants.{rolls-Do, rolls-If}
use Rattle.store_exec.specs.declared.code.Item.TheOpen.{Item-F}
use Rattle.store_exec.specs.declared.code.Item.TheFolds.{fold-roll-Item}
use Rattle.store_exec.specs.declared.code.Code.{Code, roll-out-Code, out-Code}
use Rattle.store_exec.specs.declared.code.Tail.{Tail}
use Rattle.store_exec.specs.declared.code.Tail.TheVariants as tail
use Rattle.store_exec.specs.declared.code.Tail.TheVariants.{rolls-Cut, rolls-Branch}
use Rattle.store_exec.specs.declared.code.Tail.TheOpen.{Tail-F}
use Rattle.store_exec.specs.declared.code.Tail.TheFolds.{fold-Tail, fold-roll-Tail, fold-roll-Code}
use Rattle.store_exec.specs.declared.triple.Cut.{Cut}
use Rattle.store_exec.specs.Fits.{ItemsFit, CodeFits}
use Rattle.store_exec.proofs.InductionLemmas.{items-induction, codes-induction}
use Rattle.store_exec.proofs.GoingLemmas.{ItemFits-Do, ItemFits-If}
use Rattle.store_exec.proofs.CanRunLemmas.{TailFits, code-fits, branch-fits}
use Rattle.graph_view.specs.declared.view.Sym.{Sym}
use Rattle.graph_view.specs.declared.view.Sym.TheVariants.{At}
use Rattle.graph_view.specs.Sights.{var_slots}
use Rattle.graph_view.specs.After.{IsSymBelow}
use Rattle.site_list.specs.States.{Text, State, next_track, define, is_truth_of, guard, both, fails, sight, value_of}
use Rattle.site_list.specs.Reading.{Told}
use Rattle.site_list.specs.Conditions.{condition}
use Rattle.site_list.specs.Parts.{is_part}
use Rattle.site_list.specs.Cuts.{check_stores, check_claims, with_part, arrived_at_call, arrived}
use Rattle.site_list.specs.Acts.{act_rule}
use Rattle.site_list.specs.Codes.{Going, in_order, with_ways, on_way, is_sym, is_merged, Merging, behind, merged, plain_if, item_rule, items, branch, tail_rule}
use Rattle.site_list.specs.Codes.{code_rule, code}
use Rattle.site_list.specs.Codes as codes
use Rattle.triple_meaning.specs.Tracks.Defining.{IsDefining}
use Rattle.triple_meaning.proofs.tracks.BelowLemmas.{sym-later, guard-later, syms-later, events-later}
use Rattle.triple_meaning.proofs.tracks.ValuesLemmas.{IsSteady, steady-more, truth-defining, merged-defining}
use Rattle.triple_meaning.proofs.tracks.PartValueLemmas.{part-defining}
use Rattle.triple_meaning.proofs.tracks.KeptLemmas.{values-below, IsKept, Keeps, KeepsTold, keeps-itself, keeps-then, next-later, next-define, kept-define}
use Rattle.triple_meaning.proofs.tracks.KeptLemmas.{kept-guard, kept-values, guard-steady, both-steady, fails-steady}
use Rattle.triple_meaning.proofs.tracks.ConditionKeptLemmas.{condition-kept}
use Rattle.triple_meaning.proofs.tracks.ActKeptLemmas.{act-kept}

module _ (types : List TypeEntry) (vars : List VarEntry) where
  abbrev pub KeepsOn : Going → Type 0
  KeepsOn go = (s : State) → IsKept types vars s → Keeps types vars s (go s)

  -- ---- guards of two ways

  -- the tracks of both ways are there
  record HasWays (before s : State) (h : ℕ) : Type 0 where
    keeps : Keeps types vars before s
    other : suc h < next_track types vars s

  ways-kept : (text : Text) (s : State) → IsKept types vars s → IsSteady (next_track types vars s) text →
      HasWays s (with_ways types vars text s) (next_track types vars s)
  ways-kept text s kept steady =
      let n : ℕ = next_track types vars s in
      let guarded = guard-steady types vars s kept in
      let first_text : Text = is_truth_of (both (guard s) text) n in
      let other_text : Text = is_truth_of (both (guard s) (fails text)) (suc n) in
      let first = kept-define types vars s first_text kept (truth-defining n (both (guard s) text) (both-steady n (guard s) text guarded steady)) in
      let grown = next-define types vars s first_text in
      let said = steady-more n (suc n) (both (guard s) (fails text)) (omega arith)
      (both-steady n (guard s) (fails text) guarded (fails-steady n text steady)) in
      let one : IsDefining (next_track types vars (define first_text s)) other_text =
      subst (λ m. IsDefining m other_text) (sym grown) (truth-defining (suc n) (both (guard s) (fails text)) said) in
      let second = kept-define types vars (define first_text s) other_text first.kept one in
      let grown_again = next-define types vars (define first_text s) other_text in
      record {
        keeps = keeps-then types vars s (define first_text s) (define other_text (define first_text s)) first second;
        other = omega
            (arith, grown, grown_again);
      }

  -- ---- what stands for variables after both ways

  record IsMergedKept (s : State) (m : Merging) : Type 0 where
    keeps : Keeps types vars s (m.1)
    values : All (IsSymBelow (next_track types vars (m.1))) (m.0)

  behind-kept : (u : Sym) (s z : State) (m : Merging) → Keeps types vars s z → IsMergedKept z m → IsSymBelow (next_track types vars z) u →
      IsMergedKept s (behind u m)
  behind-kept u s z m first rest under = record {
    keeps = keeps-then types vars s z (m.1) first rest.keeps;
    values = All-cons (IsSymBelow (next_track types vars (m.1))) u (m.0)
        (sym-later (next_track types vars z) (next_track types vars (m.1)) u (next-later types vars z (m.1) rest.keeps.longer) under) rest.values;
  }

  chosen-kept : (t : Bool) (s : State) (one other : Merging) → IsMergedKept s one → IsMergedKept s other → IsMergedKept s (cond t one other)
  chosen-kept true s one other first second = first
  chosen-kept false s one other first second = second

  merged-kept : (h : ℕ) (us ws : List Sym) (s : State) → IsKept types vars s → h < next_track types vars s →
      All (IsSymBelow (next_track types vars s)) us → All (IsSymBelow (next_track types vars s)) ws → IsMergedKept s (merged types vars h us ws s)
  merged-kept h [] ws s kept less one other =
      record { keeps = keeps-itself types vars s kept; values = All-nil (IsSymBelow (next_track types vars s)) }
  merged-kept h (u ∷ us) [] s kept less one other =
      record { keeps = keeps-itself types vars s kept; values = All-nil (IsSymBelow (next_track types vars s)) }
  merged-kept h (u ∷ us) (w ∷ ws) s kept less one other =
      let m : ℕ = next_track types vars s in
      let first_u = All-head (IsSymBelow m) u us one in
      let first_w = All-head (IsSymBelow m) w ws other in
      let rest_us = All-tail (IsSymBelow m) u us one in
      let rest_ws = All-tail (IsSymBelow m) w ws other in
      let it : Text = is_merged h u w m in
      let z : State = define it s in
      let step = kept-define types vars s it kept (merged-defining h m u w less first_u first_w) in
      let grown = next-define types vars s it in
      let more : m ≤ next_track types vars z = omega (arith, grown) in
      chosen-kept (is_sym u w) s (behind u (merged types vars h us ws s)) (behind (At (track m)) (merged types vars h us ws z))
      (behind-kept u s s (merged types vars h us ws s) (keeps-itself types vars s kept) (merged-kept h us ws s kept less rest_us rest_ws) first_u)
      (behind-kept (At (track m)) s z (merged types vars h us ws z) step
      (merged-kept h us ws z step.kept (omega (arith, less, more)) (syms-later m (next_track types vars z) us more rest_us)
      (syms-later m (next_track types vars z) ws more rest_ws)) (omega (arith, grown)))

  -- ---- plain ifs

  module _ (taken other : Going) (taken_keeps : KeepsOn taken) (other_keeps : KeepsOn other) where
    if-kept : (told : Told) (s : State) → KeepsTold types vars s told → Keeps types vars s (plain_if types vars taken other told)
    if-kept told s is =
        let h : ℕ = next_track types vars (told.1) in
        let before : State = with_ways types vars (told.0) (told.1) in
        let ways = ways-kept (told.0) (told.1) is.keeps.kept is.steady in
        let kept = ways.keeps.kept in
        let entered : State = on_way h before in
        let first : State = taken entered in
        let one = taken_keeps entered (kept-guard types vars (Some (track h)) before kept (omega (arith, ways.other))) in
        let n : ℕ = next_track types vars before in
        let first_more : n ≤ next_track types vars first = next-later types vars entered first one.longer in
        let back : State = record first { values = before.values } in
        let kept_back = kept-values types vars before.values first one.kept (syms-later n (next_track types vars first) before.values first_more kept.values) in
        let turned : State = on_way (suc h) back in
        let last : State = other turned in
        let two = other_keeps turned (kept-guard types vars (Some (track (suc h))) back kept_back (omega (arith, ways.other, first_more))) in
        let last_more : next_track types vars first ≤ next_track types vars last = next-later types vars turned last two.longer in
        let left : State = record last { guard = before.guard } in
        let kept_left = kept-guard types vars before.guard last two.kept
        (guard-later n (next_track types vars last) before.guard (omega (arith, first_more, last_more)) kept.guarded) in
        let result = merged-kept h first.values last.values left kept_left (omega (arith, ways.other, first_more, last_more))
        (syms-later (next_track types vars first) (next_track types vars last) first.values last_more one.kept.values) two.kept.values in
        let m : Merging = merged types vars h first.values last.values left in
        let first_longer : length before.defined ≤ length first.defined = one.longer in
        let last_longer : length first.defined ≤ length last.defined = two.longer in
        let merged_longer : length last.defined ≤ length (m.1).defined = result.keeps.longer in
        record {
          kept = kept-values types vars (m.0) (m.1) result.keeps.kept result.values;
          longer = omega (arith, is.keeps.longer, ways.keeps.longer, first_longer, last_longer, merged_longer);
        }

    branch-kept : (told : Told) (s : State) → KeepsTold types vars s told → Keeps types vars s (branch types vars taken other told)
    branch-kept told s is =
        let h : ℕ = next_track types vars (told.1) in
        let before : State = with_ways types vars (told.0) (told.1) in
        let ways = ways-kept (told.0) (told.1) is.keeps.kept is.steady in
        let kept = ways.keeps.kept in
        let entered : State = on_way h before in
        let first : State = taken entered in
        let one = taken_keeps entered (kept-guard types vars (Some (track h)) before kept (omega (arith, ways.other))) in
        let n : ℕ = next_track types vars before in
        let first_more : n ≤ next_track types vars first = next-later types vars entered first one.longer in
        let back : State = record first { values = before.values; events = before.events } in
        let kept_back : IsKept types vars back = record {
          made = one.kept.made;
          guarded = one.kept.guarded;
          values = syms-later n (next_track types vars first) before.values first_more kept.values;
          events = events-later n (next_track types vars first) before.events first_more kept.events;
        } in
        let turned : State = on_way (suc h) back in
        let last : State = other turned in
        let two = other_keeps turned (kept-guard types vars (Some (track (suc h))) back kept_back (omega (arith, ways.other, first_more))) in
        let first_longer : length before.defined ≤ length first.defined = one.longer in
        let last_longer : length first.defined ≤ length last.defined = two.longer in
        record { kept = two.kept; longer = omega (arith, is.keeps.longer, ways.keeps.longer, first_longer, last_longer) }

  -- ---- items

  item-Do : (line : ℕ) (a : Act) (s : State) → codes.item types vars (item.Do line a) s ≡ act_rule types vars line a s
  item-Do line a s = ap (λ (i : Item). codes.item types vars i s) (sym (rolls-Do line a))
      ∙ ap (λ (go : Going). go s) (fold-roll-Item Going (item_rule types vars) (Item-F.Do line a))

  in_order-items : (xs : List Item) (s : State) → in_order (map (codes.item types vars) xs) s ≡ items types vars xs s
  in_order-items [] s = refl
  in_order-items (x ∷ xs) s = in_order-items xs (codes.item types vars x s)

  item-If : (line : ℕ) (c : Cond) (taken other : List Item) (s : State) →
      codes.item types vars (item.If line c taken other) s
      ≡ plain_if types vars (in_order (map (codes.item types vars) taken)) (in_order (map (codes.item types vars) other))
      (condition types vars line c (guard s) s)
  item-If line c taken other s = ap (λ (i : Item). codes.item types vars i s) (sym (rolls-If line c taken other))
      ∙ ap (λ (go : Going). go s) (fold-roll-Item Going (item_rule types vars) (Item-F.If line c taken other))

  abbrev AreKept : List Item → Type 0
  AreKept xs = ItemsFit types vars xs → KeepsOn (items types vars xs)

  -- an item in front
  in-front : (i : Item) (rest : List Item) (s mid : State) → codes.item types vars i s ≡ mid → Keeps types vars s mid → KeepsOn (items types vars rest) →
      Keeps types vars s (items types vars (i ∷ rest) s)
  in-front i rest s mid is one others =
      let first = subst (λ z. Keeps types vars s z) (sym is) one in
      keeps-then types vars s (codes.item types vars i s) (items types vars (i ∷ rest) s) first (others (codes.item types vars i s) first.kept)

  act-meant : (line : ℕ) (a : Act) (rest : List Item) → AreKept rest → AreKept (item.Do line a ∷ rest)
  act-meant line a rest later fits s kept =
      in-front (item.Do line a) rest s (act_rule types vars line a s) (item-Do line a s)
      (act-kept types vars line a (ItemFits-Do types vars line a fits.0) s kept) (later fits.1)

  way-kept : (xs : List Item) → AreKept xs → ItemsFit types vars xs → KeepsOn (in_order (map (codes.item types vars) xs))
  way-kept xs are fits s kept = subst (λ z. Keeps types vars s z) (sym (in_order-items xs s)) (are fits s kept)

  if-meant : (line : ℕ) (c : Cond) (taken other rest : List Item) → AreKept taken → AreKept other → AreKept rest → AreKept (item.If line c taken other ∷ rest)
  if-meant line c taken other rest one two later fits s kept =
      let parts = ItemFits-If types vars line c taken other fits.0 in
      let told : Told = condition types vars line c (guard s) s in
      let go : Going = in_order (map (codes.item types vars) taken) in
      let go_other : Going = in_order (map (codes.item types vars) other) in
      in-front (item.If line c taken other) rest s (plain_if types vars go go_other told) (item-If line c taken other s)
      (if-kept go go_other (way-kept taken one parts.1) (way-kept other two parts.2) told s (condition-kept types vars line c parts.0 (guard s) s kept))
      (later fits.1)

  pub items-kept : (xs : List Item) → AreKept xs
  items-kept = items-induction AreKept (λ fits s kept. keeps-itself types vars s kept) act-meant if-meant

  -- ---- cuts

  pub part-kept : (roots : List VarId) → KeepsOn (with_part types vars roots)
  part-kept roots s kept =
      let n : ℕ = next_track types vars s in
      kept-define types vars s (is_part types (sight vars s) (map (value_of s.values) roots) n) kept
      (part-defining types vars (var_slots vars) n (omega arith) (map (value_of s.values) roots) s.events (values-below n s.values roots kept.values)
      kept.events)

  arrived-kept : (cut : Cut) → KeepsOn (arrived types vars cut)
  arrived-kept cut s kept = by cut.handed
    where
      by : (o : Option (List VarId)) →
          Keeps types vars s (option_map_or (λ roots. arrived_at_call types vars cut (next_track types vars s) (with_part types vars roots s)) o
          (check_claims types vars cut None (check_stores types vars cut.line s)))
      by None = record {
        kept = record { made = kept.made; guarded = kept.guarded; values = kept.values; events = kept.events };
        longer = (keeps-itself types vars s kept).longer;
      }
      by (Some roots) =
          let part = part-kept roots s kept in
          record {
            kept = record { made = part.kept.made; guarded = part.kept.guarded; values = part.kept.values; events = part.kept.events };
            longer = part.longer;
          }

  module _ (cuts : List Cut) where
    abbrev tail_goes : Tail → Going
    tail_goes = fold-Tail Going Going (tail_rule types vars cuts) (code_rule types vars)

    code-goes : (c : Code) (s : State) → code types vars cuts c s ≡ tail_goes c.tail (items types vars c.items s)
    code-goes c s = ap (λ (d : Code). code types vars cuts d s) (sym (roll-out-Code c))
        ∙ ap (λ (go : Going). go s) (fold-roll-Code Going Going (tail_rule types vars cuts) (code_rule types vars) (out-Code c))

    cut-goes : (place : ℕ) (s : State) → tail_goes (tail.Cut place) s ≡ option_map_or (λ cut. arrived types vars cut s) (slice_get cuts place) s
    cut-goes place s = ap (λ (t : Tail). tail_goes t s) (sym (rolls-Cut place))
        ∙ ap (λ (go : Going). go s) (fold-roll-Tail Going Going (tail_rule types vars cuts) (code_rule types vars) (Tail-F.Cut place))

    branch-goes : (line : ℕ) (b : Cond) (taken other : Code) (s : State) → tail_goes (tail.Branch line b taken other) s
        ≡ branch types vars (code types vars cuts taken) (code types vars cuts other) (condition types vars line b (guard s) s)
    branch-goes line b taken other s = ap (λ (t : Tail). tail_goes t s) (sym (rolls-Branch line b taken other))
        ∙ ap (λ (go : Going). go s) (fold-roll-Tail Going Going (tail_rule types vars cuts) (code_rule types vars) (Tail-F.Branch line b taken other))

    cut-there : (o : Option Cut) (s : State) → IsKept types vars s → Keeps types vars s (option_map_or (λ cut. arrived types vars cut s) o s)
    cut-there None s kept = keeps-itself types vars s kept
    cut-there (Some cut) s kept = arrived-kept cut s kept

    abbrev IsCodeKept : Code → Type 0
    IsCodeKept c = CodeFits types vars c → KeepsOn (code types vars cuts c)

    cut-meant : (c : Code) (place : ℕ) → c.tail ≡ tail.Cut place → IsCodeKept c
    cut-meant c place is fits s kept =
        let mid : State = items types vars c.items s in
        let parts = code-fits types vars c fits in
        let goes = code-goes c s ∙ ap (λ (x : Tail). tail_goes x mid) is ∙ cut-goes place mid in
        let first = items-kept c.items parts.0 s kept in
        subst (λ z. Keeps types vars s z) (sym goes)
        (keeps-then types vars s mid (option_map_or (λ cut. arrived types vars cut mid) (slice_get cuts place) mid) first
        (cut-there (slice_get cuts place) mid first.kept))

    branch-meant : (c : Code) (line : ℕ) (b : Cond) (taken other : Code) → c.tail ≡ tail.Branch line b taken other → IsCodeKept taken → IsCodeKept other →
        IsCodeKept c
    branch-meant c line b taken other is one two fits s kept =
        let mid : State = items types vars c.items s in
        let parts = code-fits types vars c fits in
        let ways = branch-fits types vars line b taken other (subst (λ (x : Tail). TailFits types vars x) is parts.1) in
        let told : Told = condition types vars line b (guard mid) mid in
        let goes = code-goes c s ∙ ap (λ (x : Tail). tail_goes x mid) is ∙ branch-goes line b taken other mid in
        let first = items-kept c.items parts.0 s kept in
        subst (λ z. Keeps types vars s z) (sym goes)
        (keeps-then types vars s mid (branch types vars (code types vars cuts taken) (code types vars cuts other) told) first
        (branch-kept (code types vars cuts taken) (code types vars cuts other) (one ways.1) (two ways.2) told mid
        (condition-kept types vars line b ways.0 (guard mid) mid first.kept)))

    pub code-kept : (c : Code) → CodeFits types vars c → KeepsOn (code types vars cuts c)
    code-kept = codes-induction IsCodeKept cut-meant branch-meant
