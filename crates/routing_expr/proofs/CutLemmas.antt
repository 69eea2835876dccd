-- Which condition of a cut holds first.
use Rattle.std.proofs.Common.{◌≡◌, ◌↔◌, false, List, Option, Some, None, IsSome, IfSome, IfNone, refl, sym, ap, subst}
use Rattle.std.specs.Option.{is_some}
use Rattle.std.proofs.lemmas.Bool.{false≢true}
use Rattle.std.proofs.lemmas.Option.{same_Some}
use Rattle.store_core.specs.declared.ids.FieldId.{FieldId}
use Rattle.store_core.specs.declared.ids.CellId.{CellId}
use Rattle.store_core.specs.Tables.{TypeEntry, VarEntry}
use Rattle.store_core.specs.Stores.{StoreMap, IsLive, Fits}
use Rattle.routing_walks.specs.declared.fault.Place.{Place}
use Rattle.routing_walks.specs.declared.fault.Place.TheVariants as place
use Rattle.routing_walks.specs.declared.fault.CutFault.{CutFault}
use Rattle.routing_walks.specs.declared.fault.CutFault.TheVariants as fault
use Rattle.routing_walks.specs.WellFormed.{IsDanglingReference, IsShared, IsLeaked, IsWrongPlace, IsFirstCell, IsFirstPlace, IsRightField}
use Rattle.routing_walks.specs.CutFaults.{HasDanglingReference, HasShared, HasLeaked, HasWrongField, IsFirstCutFault, IsSound}
use Rattle.routing_walks.specs.Reaching.{IsInSomeTree}
use Rattle.routing_walks.proofs.FaultLemmas.{no_reference, no_shared, no_leak, no_wrong_field, backbone_from}

-- ---- what a search has found

first_here : (o : Option CellId) (P : CellId → Type 0) → IsSome o → IfSome o (IsFirstCell P) → (c : CellId) × P c
first_here None P some h = absurd (false≢true some)
first_here (Some c) P some h = (c, h.here)

pub none_of : {X : Type 0} (o : Option X) (Q : Type 0) → is_some o ≡ false → IfNone o Q → Q
none_of None Q none h = h
none_of (Some x) Q none h = absurd (false≢true (sym none))

module _ (types : List TypeEntry) (vars : List VarEntry) (s : StoreMap) where
  pub shared_found : (o : Option CellId) → IsSome o → IfSome o (IsFirstCell (IsShared types vars s)) → HasShared types vars s
  shared_found o some h = let found = first_here o (IsShared types vars s) some h in record { cell = found.0; shared = found.1 }

  pub leaked_found : (o : Option CellId) → IsSome o → IfSome o (IsFirstCell (IsLeaked types vars s)) → HasLeaked types vars s
  leaked_found o some h = let found = first_here o (IsLeaked types vars s) some h in record { cell = found.0; leaked = found.1 }

  pub wrong_found : (o : Option Place) → IsSome o → IfSome o (IsFirstPlace (IsWrongPlace types s)) → HasWrongField types s
  wrong_found None some h = absurd (false≢true some)
  wrong_found (Some (place.Var v)) some h = absurd h.here
  wrong_found (Some (place.Field c f)) some h = record { cell = c; field = f; wrong = h.here }

  pub none_dangles : ((p : Place) → IsDanglingReference s p → ⊥) → HasDanglingReference s → ⊥
  none_dangles none h = none h.place h.dangling

  pub none_shared : ((c : CellId) → IsShared types vars s c → ⊥) → HasShared types vars s → ⊥
  none_shared none h = none h.cell h.shared

  pub none_leaks : ((c : CellId) → IsLive s c → IsInSomeTree types vars s c) → HasLeaked types vars s → ⊥
  none_leaks reached h = let t = reached h.cell h.leaked.live in h.leaked.unreached t.var t.in_tree

  -- ---- one condition comes first

  first_alone : (f g : CutFault) → IsFirstCutFault types vars s f → IsFirstCutFault types vars s g → f ≡ g
  first_alone fault.DanglingReference fault.DanglingReference h k = refl
  first_alone fault.DanglingReference fault.Shared h k = absurd (k.0 h)
  first_alone fault.DanglingReference fault.Leak h k = absurd (k.0 h)
  first_alone fault.DanglingReference fault.Field h k = absurd (k.0 h)
  first_alone fault.Shared fault.DanglingReference h k = absurd (h.0 k)
  first_alone fault.Shared fault.Shared h k = refl
  first_alone fault.Shared fault.Leak h k = absurd (k.1 h.1)
  first_alone fault.Shared fault.Field h k = absurd (k.1 h.1)
  first_alone fault.Leak fault.DanglingReference h k = absurd (h.0 k)
  first_alone fault.Leak fault.Shared h k = absurd (h.1 k.1)
  first_alone fault.Leak fault.Leak h k = refl
  first_alone fault.Leak fault.Field h k = absurd (k.2 h.2)
  first_alone fault.Field fault.DanglingReference h k = absurd (h.0 k)
  first_alone fault.Field fault.Shared h k = absurd (h.1 k.1)
  first_alone fault.Field fault.Leak h k = absurd (h.2 k.2)
  first_alone fault.Field fault.Field h k = refl

  module _ (fits : Fits types vars s) where
    no_cut_fault : IsSound types vars s → (f : CutFault) → IsFirstCutFault types vars s f → ⊥
    no_cut_fault is fault.DanglingReference h = no_reference types vars s fits is.backbone is.pointers h.place h.dangling
    no_cut_fault is fault.Shared h = no_shared types vars s fits is.backbone is.pointers h.1.cell h.1.shared
    no_cut_fault is fault.Leak h = no_leak types vars s fits is.backbone is.pointers h.2.cell h.2.leaked
    no_cut_fault is fault.Field h = no_wrong_field types vars s fits is.backbone is.pointers h.3.cell h.3.field h.3.wrong

    -- what the answer says, where a condition was found and where none was
    pub none_of_found : (f : CutFault) → IsFirstCutFault types vars s f → (Some f ≡ None) ↔ IsSound types vars s
    none_of_found f h = (λ e. cc, λ is. absurd (no_cut_fault is f h))

    pub some_of_found : (f : CutFault) → IsFirstCutFault types vars s f → (g : CutFault) → (Some f ≡ Some g) ↔ IsFirstCutFault types vars s g
    some_of_found f h g = (λ e. subst (IsFirstCutFault types vars s) (same_Some f g e) h, λ k. ap (λ (x : CutFault). Some x) (first_alone f g h k))

    pub sound_from : ((p : Place) → IsDanglingReference s p → ⊥) → ((c : CellId) → IsShared types vars s c → ⊥) →
        ((c : CellId) → IsLive s c → IsInSomeTree types vars s c) → ((c : CellId) (f : FieldId) → IsRightField types s c f) → IsSound types vars s
    sound_from none unshared reached right = record { backbone = backbone_from types vars s fits none unshared reached; pointers = right }

    pub some_of_none : IsSound types vars s → (g : CutFault) → (None ≡ Some g) ↔ IsFirstCutFault types vars s g
    some_of_none is g = (λ e. cc, λ k. absurd (no_cut_fault is g k))
