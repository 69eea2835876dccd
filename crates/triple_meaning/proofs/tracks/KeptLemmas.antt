-- States of the walk whose made tracks are defined one after the other, and whose guard, values and events use tracks that are there.
use Rattle.std.proofs.Common.{◌≡◌, ℕ, suc, ◌+◌, ◌≤◌, List, [], ◌∷◌, ◌++◌, length, slice_get, get_or, map, All, Option, Some, None, unwrap_or, refl, subst}
use Rattle.std.proofs.Common.{arith, length-append}
use Rattle.std.specs.Option.{option_map_or}
use Rattle.std.proofs.lemmas.List.Elements.{All-set, All-map}
use Rattle.std.proofs.lemmas.Option.{slice_get_within, get_or_from_slice_get}
use Rattle.ws2s_core.specs.declared.track.Track.{Track}
use Rattle.store_core.specs.declared.ids.VarId.{VarId}
use Rattle.store_core.specs.declared.ids.VariantId.{VariantId}
use Rattle.store_core.specs.declared.ids.FieldId.{FieldId}
use Rattle.store_core.specs.Tables.{TypeEntry, VarEntry}
use Rattle.store_exec.specs.declared.cause.Cause.{Cause}
use Rattle.store_exec.specs.declared.cause.Cause.TheVariants as cause
use Rattle.tree_encode.specs.Tracks.{track_count}
use Rattle.tree_formula.specs.WellEncoded.{owner}
use Rattle.graph_view.specs.declared.view.Sym.{Sym}
use Rattle.graph_view.specs.declared.view.Sym.TheVariants.{Null}
use Rattle.graph_view.specs.declared.view.Event.{Event}
use Rattle.graph_view.specs.After.{IsSymBelow, IsGuardBelow, IsEventBelow, AreEventsBelow}
use Rattle.site_list.specs.States.{Text, State, Got, next_track, define, make, check, guard, both, fails, sight, value_of, with_value, happens}
use Rattle.site_list.specs.Reading.{Told, lacks, check_cell, check_access}
use Rattle.triple_meaning.specs.Tracks.Defining.{IsDefining, AreDefining}
use Rattle.triple_meaning.proofs.tracks.ClearLemmas.{clear-And, clear-Not}
use Rattle.triple_meaning.proofs.tracks.SightClearLemmas.{clear-guard}
use Rattle.triple_meaning.proofs.tracks.BelowLemmas.{guard-later, syms-later, events-later}
use Rattle.triple_meaning.proofs.tracks.ValuesLemmas.{IsSteady}

-- ---- one track more

pub defining-more : (first : ℕ) (texts : List Text) (text : Text) → AreDefining first texts → IsDefining (first + length texts) text →
    AreDefining first (texts ++ text ∷ [])
defining-more first [] text all one = (let same : first + 0 ≡ first = omega arith in subst (λ n. IsDefining n text) same one, tt)
defining-more first (x ∷ texts) text all one =
    let same : first + length (x ∷ texts) ≡ suc first + length texts = omega arith in
    (all.0, defining-more (suc first) texts text all.1 (subst (λ n. IsDefining n text) same one))

-- ---- values

pub value-below : (n : ℕ) (values : List Sym) (v : VarId) → All (IsSymBelow n) values → IsSymBelow n (value_of values v)
value-below n values v under = by (slice_get values v.0) refl
  where
    by : (o : Option Sym) → slice_get values v.0 ≡ o → IsSymBelow n (unwrap_or o Null)
    by None is = tt
    by (Some u) is =
        subst (IsSymBelow n) (get_or_from_slice_get values v.0 u Null is) (under v.0 Null (slice_get_within values v.0 u is))

pub values-below : (n : ℕ) (values : List Sym) (roots : List VarId) → All (IsSymBelow n) values → All (IsSymBelow n) (map (value_of values) roots)
values-below n values roots under =
    All-map (IsSymBelow n) (value_of values) roots (λ k d less. value-below n values (get_or roots k d) under)

module _ (types : List TypeEntry) (vars : List VarEntry) where
  -- made tracks are defined one after the other, and all that is used is below the next one
  pub record IsKept (s : State) : Type 0 where
    pub made : AreDefining (track_count types vars) s.defined
    pub guarded : IsGuardBelow (next_track types vars s) s.guard
    pub values : All (IsSymBelow (next_track types vars s)) s.values
    pub events : AreEventsBelow (next_track types vars s) s.events

  -- from one state to the next that is kept, and tracks are made alone
  pub record Keeps (s after : State) : Type 0 where
    pub kept : IsKept after
    pub longer : length s.defined ≤ length after.defined

  -- a value that is there
  pub record KeepsGot (s : State) (got : Got) : Type 0 where
    pub keeps : Keeps s (got.1)
    pub value : IsSymBelow (next_track types vars (got.1)) (got.0)

  -- a truth that looks at tracks that are there
  pub record KeepsTold (s : State) (told : Told) : Type 0 where
    pub keeps : Keeps s (told.1)
    pub steady : IsSteady (next_track types vars (told.1)) (told.0)

  pub keeps-itself : (s : State) → IsKept s → Keeps s s
  keeps-itself s kept = record { kept = kept; longer = omega arith }

  pub keeps-then : (s mid after : State) → Keeps s mid → Keeps mid after → Keeps s after
  keeps-then s mid after one other = record { kept = other.kept; longer = omega (arith, one.longer, other.longer) }

  pub next-later : (s after : State) → length s.defined ≤ length after.defined → next_track types vars s ≤ next_track types vars after
  next-later s after longer = omega (arith, longer)

  -- ---- tracks that are made

  pub next-define : (s : State) (text : Text) → next_track types vars (define text s) ≡ suc (next_track types vars s)
  next-define s text = (let long : length (s.defined ++ text ∷ []) ≡ length s.defined + 1 = length-append s.defined (text ∷ []) in omega (arith, long))

  pub kept-define : (s : State) (text : Text) → IsKept s → IsDefining (next_track types vars s) text → Keeps s (define text s)
  kept-define s text kept one =
      let grown = next-define s text in
      let more : next_track types vars s ≤ next_track types vars (define text s) = omega (arith, grown) in
      let long : length (s.defined ++ text ∷ []) ≡ length s.defined + 1 = length-append s.defined (text ∷ []) in
      record {
        kept = record {
          made = defining-more (track_count types vars) s.defined text kept.made one;
          guarded = guard-later (next_track types vars s) (next_track types vars (define text s)) s.guard more kept.guarded;
          values = syms-later (next_track types vars s) (next_track types vars (define text s)) s.values more kept.values;
          events = events-later (next_track types vars s) (next_track types vars (define text s)) s.events more kept.events;
        };
        longer = omega (arith, long);
      }

  pub keeps-made : (s : State) (text : ℕ → Text) → IsKept s → IsDefining (next_track types vars s) (text (next_track types vars s)) →
      KeepsGot s (make types vars text s)
  keeps-made s text kept one = record {
    keeps = kept-define s (text (next_track types vars s)) kept one;
    value = (let grown = next-define s (text (next_track types vars s)) in omega (arith, grown));
  }

  -- ---- what makes no track

  pub kept-check : (line : ℕ) (reached : Text) (why : Cause) (condition : Text) (s : State) → IsKept s → IsKept (check line reached why condition s)
  kept-check line reached why condition s kept = record { made = kept.made; guarded = kept.guarded; values = kept.values; events = kept.events }

  pub kept-check_cell : (line : ℕ) (reached : Text) (u : Sym) (s : State) → IsKept s → IsKept (check_cell types vars line reached u s)
  kept-check_cell line reached u s kept = record { made = kept.made; guarded = kept.guarded; values = kept.values; events = kept.events }

  -- what holds after both forms of access holds after the access
  pub by-access : (P : State → Type 0) (line : ℕ) (reached : Text) (f : FieldId) (u : Sym) (s : State) → P (check_cell types vars line reached u s) →
      P (check line reached cause.Variant (lacks types (sight vars s) f u) (check_cell types vars line reached u s)) →
      P (check_access types vars line reached f u s)
  by-access P line reached f u s common own = by (owner types f)
    where
      by : (o : Option VariantId) →
          P (option_map_or (λ (v : VariantId). check line reached cause.Variant (lacks types (sight vars s) f u) (check_cell types vars line reached u s)) o
          (check_cell types vars line reached u s))
      by None = common
      by (Some v) = own

  pub kept-event : (e : Event) (s : State) → IsKept s → IsEventBelow (next_track types vars s) e → IsKept (happens e s)
  kept-event e s kept under = record { made = kept.made; guarded = kept.guarded; values = kept.values; events = (under, kept.events) }

  pub kept-value : (v : VarId) (got : Got) → IsKept (got.1) → IsSymBelow (next_track types vars (got.1)) (got.0) → IsKept (with_value v got)
  kept-value v got kept under = record {
    made = kept.made;
    guarded = kept.guarded;
    values = All-set (IsSymBelow (next_track types vars (got.1))) (got.1).values v.0 (got.0) under kept.values;
    events = kept.events;
  }

  pub kept-guard : (g : Option Track) (s : State) → IsKept s → IsGuardBelow (next_track types vars s) g → IsKept (record s { guard = g })
  kept-guard g s kept under = record { made = kept.made; guarded = under; values = kept.values; events = kept.events }

  pub kept-values : (values : List Sym) (s : State) → IsKept s → All (IsSymBelow (next_track types vars s)) values → IsKept (record s { values = values })
  kept-values values s kept under = record { made = kept.made; guarded = kept.guarded; values = under; events = kept.events }

  -- ---- guards of statements

  pub guard-steady : (s : State) → IsKept s → IsSteady (next_track types vars s) (guard s)
  guard-steady s kept next t from less = clear-guard t next s.guard less (guard-later (next_track types vars s) t s.guard from kept.guarded)

-- ---- texts by their parts

pub both-steady : (n : ℕ) (one other : Text) → IsSteady n one → IsSteady n other → IsSteady n (both one other)
both-steady n one other first second next t from less = clear-And t (one next) (other next) (first next t from less) (second next t from less)

pub fails-steady : (n : ℕ) (text : Text) → IsSteady n text → IsSteady n (fails text)
fails-steady n text steady next t from less = clear-Not t (text next) (steady next t from less)
