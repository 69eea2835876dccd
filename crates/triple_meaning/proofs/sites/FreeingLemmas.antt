-- Freeing of cells.
use Rattle.std.proofs.Common.{◌≡◌, ℕ, cond, List, [], ◌∷◌, Option, Some, None, is_some, Ok, Err, refl, sym, subst, arith, append-nil, append_assoc}
use Rattle.gta_theory.specs.Assignments.{Assignment}
use Rattle.ws2s_core.specs.Satisfaction.{WSat}
use Rattle.store_core.specs.declared.ids.CellId.{CellId}
use Rattle.store_core.specs.declared.ids.TypeId.{TypeId}
use Rattle.store_core.specs.declared.ids.VarId.{VarId}
use Rattle.store_core.specs.declared.kind.VarKind.{VarKind}
use Rattle.store_core.specs.declared.kind.VarKind.TheVariants as var
use Rattle.store_core.specs.declared.value.Value.TheVariants as value
use Rattle.store_core.specs.Tables.{TypeEntry, VarEntry, var_at}
use Rattle.store_core.specs.Stores.{StoreMap, CellEntry, IsLive, cell_of, remove_cell}
use Rattle.store_logic.specs.declared.act.Act.TheVariants as act
use Rattle.store_logic.specs.Sorts.{Cell}
use Rattle.store_logic.specs.FitsCode.{code_sort, HoldsCell}
use Rattle.store_exec.specs.declared.cause.Cause.TheVariants as cause
use Rattle.store_exec.specs.Steps.{variable}
use Rattle.store_exec.specs.Steps as exec
use Rattle.store_exec.proofs.KeepLemmas.{Step-keeps}
use Rattle.tree_store.proofs.SpotsLemmas.{of-some}
use Rattle.graph_view.specs.declared.view.Sym.{Sym}
use Rattle.graph_view.specs.declared.view.Event.TheVariants.{Free}
use Rattle.graph_view.specs.Live.{is_dead}
use Rattle.graph_view.specs.After.{Standing, StandsForCell, StandsFor, IsTaken, IsSymBelow}
use Rattle.graph_meaning.proofs.live.TellLemmas.{stands-somewhere}
use Rattle.graph_meaning.proofs.live.ReadLemmas.{is-some, is-none}
use Rattle.site_list.specs.States.{Check, State, guard, sight, value_of, happens}
use Rattle.site_list.specs.Acts.{freed}
use Rattle.triple_meaning.specs.Sites.Places.{Comes, NoneComes, ComesFirst, Answers}
use Rattle.triple_meaning.specs.Sites.Seeing.{HasRoom, IsBelow, Sees, with_more}
use Rattle.triple_meaning.specs.Sites.Doing.{Leads}
use Rattle.triple_meaning.proofs.sites.PlacesLemmas.{none-none, none-cons}
use Rattle.triple_meaning.proofs.sites.LookingLemmas.{sees-dead}
use Rattle.triple_meaning.proofs.sites.AccessLemmas.{null_check, null-told, cell-not_null}
use Rattle.triple_meaning.proofs.sites.ReadingLemmas.{cell-of_sort, IsCome, come-variable, variable-stands}
use Rattle.triple_meaning.proofs.sites.EventsLemmas.{seen-passed, seen-freed}
use Rattle.triple_meaning.proofs.sites.EvaluatingLemmas.{reached-guard}
use Rattle.triple_meaning.proofs.sites.AssigningLemmas.{EndsBy, IsSeenThen, follows-by}

holds-sort : (kind : VarKind) → HoldsCell kind → (ty : TypeId) × (code_sort kind ≡ Some (Cell ty))
holds-sort var.Bool h = absurd h
holds-sort (var.Data target) h = (target, refl)
holds-sort (var.Pointer target) h = (target, refl)
holds-sort (var.LogicSet target) h = absurd h
holds-sort var.LogicBool h = absurd h

module _ (types : List TypeEntry) (vars : List VarEntry) (line : ℕ) (s : State) (v : VarId) (entry : VarEntry) (there : var_at vars v ≡ Some entry)
    (holds : HoldsCell entry.kind) where
  abbrev u : Sym
  u = value_of s.values v

  abbrev freed_check : Check
  freed_check = record { cause = cause.DoubleFree; line = line; reached = guard s; condition = λ next. is_dead types (sight vars s) next u }

  abbrev checks : List Check
  checks = null_check line (guard s) u ∷ freed_check ∷ []

  abbrev after : State
  after = happens (Free s.guard u) (with_more [] checks s)

  after-is : freed types vars line u s ≡ after
  after-is = λ i. record s {
    events = Free s.guard u ∷ s.events;
    defined = sym (append-nil s.defined) i;
    checks = append_assoc s.checks (null_check line (guard s) u ∷ []) (freed_check ∷ []) i;
  }

  come : (ty : TypeId) → code_sort entry.kind ≡ Some (Cell ty) → IsCome types vars line (guard s) s (u, s) ty (λ t. Ok (variable t v))
  come ty coded = come-variable types vars line (guard s) s v entry ty there coded

  under : (next : ℕ) → IsBelow types vars s next → IsSymBelow next u
  under next below = let (ty, coded) = holds-sort entry.kind holds in (come ty coded).reads.below next below

  below-then : (next : ℕ) → IsBelow types vars s next → HasRoom types vars next after → IsBelow types vars after next
  below-then next below room =
      record { made = room; guard = below.guard; values = below.values; events = ((below.guard, under next below), below.events) }

  module _ (next : ℕ) (a : Assignment) (first t : StoreMap) (at : Standing) (sees : Sees types vars next a first s t at)
      (room : HasRoom types vars next after) (taken : IsTaken a s.guard) where
    here : WSat (guard s next) a
    here = (reached-guard types vars line s next a sees.over.finite sees.below.guard).1 taken

    below-here : IsSymBelow next u
    below-here = under next sees.below

    stops-null : StandsForCell a at u None → ComesFirst next a checks cause.Null line
    stops-null stands = record {
      before = [];
      check = null_check line (guard s) u;
      after = freed_check ∷ [];
      order = refl;
      none = none-none next a;
      comes = (here, null-told next a at u stands below-here);
      is = refl;
      at_line = refl;
    }

    not-null : (c : CellId) → StandsForCell a at u (Some c) → Comes next a (null_check line (guard s) u) → ⊥
    not-null c stands h = cell-not_null next a at u c stands below-here h.1

    stops-dead : (c : CellId) → StandsForCell a at u (Some c) → (IsLive t c → ⊥) → ComesFirst next a checks cause.DoubleFree line
    stops-dead c stands dead = record {
      before = null_check line (guard s) u ∷ [];
      check = freed_check;
      after = [];
      order = refl;
      none = none-cons next a (null_check line (guard s) u) [] (not-null c stands) (none-none next a);
      comes = (
        here,
        (let (p, at_p) = stands-somewhere a at u c stands in (sees-dead types vars next a first s t at sees u (Some c) below-here stands).1 (p, (at_p, dead))),
      );
      is = refl;
      at_line = refl;
    }

    passes-live : (c : CellId) → StandsForCell a at u (Some c) → IsLive t c → NoneComes next a checks
    passes-live c stands live =
        none-cons next a (null_check line (guard s) u) (freed_check ∷ []) (not-null c stands)
        (none-cons next a freed_check [] (λ h.
        let (p, (at_p, dead)) = (sees-dead types vars next a first s t at sees u (Some c) below-here stands).0 h.1 in dead live) (none-none next a))

    seen-then : (c : CellId) → StandsForCell a at u (Some c) → IsLive t c → IsSeenThen types vars next a first after (remove_cell t c)
    seen-then c stands live well = (
      at,
      record {
        over = sees.over;
        below = below-then next sees.below room;
        guarded = sees.guarded;
        seen = seen-freed types vars s.values s.events a first t at sees.seen s.guard u c well.fits sees.guarded taken stands live;
        fresh = well.fresh;
        spare = sees.spare;
      },
    )

    by-cell : (o : Option CellId) → StandsForCell a at u o →
        Answers next a checks line (exec.freed t (value.Cell o)) (IsSeenThen types vars next a first after)
    by-cell None stands = (stops-null stands, tt)
    by-cell (Some c) stands = by (cell_of t c) refl
      where
        by : (o : Option CellEntry) → cell_of t c ≡ o →
            Answers next a checks line (cond (is_some o) (Ok (remove_cell t c)) (Err cause.DoubleFree)) (IsSeenThen types vars next a first after)
        by None is = (stops-dead c stands (is-none (cell_of t c) is), tt)
        by (Some cell) is =
            let live = is-some (cell_of t c) cell is in (passes-live c stands live, seen-then c stands live)

    answers-freed : Answers next a checks line (exec.freed t (variable t v)) (IsSeenThen types vars next a first after)
    answers-freed =
        let (ty, coded) = holds-sort entry.kind holds in
        let comes = come ty coded in
        let (o, is, typed) = cell-of_sort t ty (variable t v) (comes.of_type t sees.seen.fits (variable t v) refl) in
        let stands = variable-stands types vars line (guard s) s v entry there next a first t at sees in
        subst (λ w. Answers next a checks line (exec.freed t w) (IsSeenThen types vars next a first after)) (sym is)
        (by-cell o (subst (λ w. StandsFor a at u w) is stands))

  pub free-leads : Leads types vars s (freed types vars line u s) (λ t end. EndsBy line (exec.freed t (variable t v)) end)
  free-leads =
      subst (λ z. Leads types vars s z (λ t end. EndsBy line (exec.freed t (variable t v)) end)) (sym after-is) (record {
        made = [];
        defined = refl;
        added = checks;
        checks = refl;
        guard = refl;
        count = refl;
        news = omega arith;
        below = below-then;
        reached = λ next a first t at end sees room defined taken ends.
            follows-by types vars next a first after checks line (exec.freed t (variable t v)) (answers-freed next a first t at sees room taken)
            (λ w e. Step-keeps types vars t sees.seen.fits sees.fresh (act.Free v) w
            (of-some (λ (k : VarEntry). HoldsCell k.kind) (var_at vars v) entry there holds) e)
            end ends;
        idle = λ next a finite room defined below guarded passed. record {
          none = none-cons next a (null_check line (guard s) u) (freed_check ∷ [])
              (λ h. passed ((reached-guard types vars line s next a finite below).0 h.0))
              (none-cons next a freed_check [] (λ h. passed ((reached-guard types vars line s next a finite below).0 h.0)) (none-none next a));
          sees = λ first values t at seen. seen-passed types vars values (Free s.guard u) s.events a first t at guarded passed seen;
        };
      })
