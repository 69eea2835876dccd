-- Cuts and starts on two stores that are the same but for the names of their cells.
use Rattle.std.proofs.Common.{◌≡◌, inl, inr, List, [], Option, Some, None, IsSomeAnd, IfSome, All, get_or, refl, sym, ◌∙◌}
use Rattle.store_core.specs.declared.ids.VarId.{VarId}
use Rattle.store_core.specs.declared.ids.CellId.{CellId}
use Rattle.store_core.specs.declared.value.Value.{Value}
use Rattle.store_core.specs.declared.value.Value.TheVariants as value
use Rattle.store_core.specs.Tables.{TypeEntry, VarEntry}
use Rattle.store_core.specs.Stores.{StoreMap, IsAbove, field_value, var_value}
use Rattle.store_core.proofs.FittingLemmas.{IsSomeAnd-at}
use Rattle.routing_walks.specs.declared.fault.Place.{Place}
use Rattle.routing_walks.specs.declared.fault.Place.TheVariants as place
use Rattle.routing_walks.specs.WellFormed.{IsDanglingReference}
use Rattle.routing_walks.specs.CutFaults.{HasDanglingReference, HasShared, HasLeaked, HasWrongField}
use Rattle.routing_walks.specs.Regions.{IsReachedFrom}
use Rattle.routing_walks.proofs.LiveLemmas.{IsLive-field_value}
use Rattle.routing_walks.specs.Pairing.{PairsReference, PairsValue, PairsSlot, ArePaired}
use Rattle.routing_walks.proofs.PairLemmas.{turn, ArePaired-turned, reference_to, var_paired}
use Rattle.routing_walks.proofs.PairFaults.{reference_dangles_to, shared_to, leaked_to, wrong_to, well_formed_to}
use Rattle.store_logic.specs.Terms.{outside}
use Rattle.store_logic.specs.Renamed.{PairsStore}
use Rattle.store_logic.proofs.RenamingLemmas.{PairsStore-from_ArePaired, reached_to}
use Rattle.store_logic.proofs.RenamedLemmas.{Sat-renamed}
use Rattle.store_exec.specs.declared.cause.Cause.{Cause}
use Rattle.store_exec.specs.declared.cause.Cause.TheVariants as cause
use Rattle.store_exec.specs.declared.triple.Claim.{Claim}
use Rattle.store_exec.specs.declared.triple.Cut.{Cut}
use Rattle.store_exec.specs.declared.triple.Start.{Start}
use Rattle.store_exec.specs.declared.triple.Triple.{Triple}
use Rattle.store_exec.specs.Cuts.{AreMet, Escapes, EscapesAt, IsWrong, IsFirstCause, AtCut}
use Rattle.store_exec.specs.Failing.{IsBlank, StartHolds, Meets}

some_as : {X : Type 0} (P Q : X → Type 0) → ((x : X) → P x → Q x) → (o : Option X) → IsSomeAnd o P → IsSomeAnd o Q
some_as P Q each None h = absurd h
some_as P Q each (Some x) h = each x h

if_as : {X : Type 0} (P Q : X → Type 0) → ((x : X) → P x → Q x) → (o : Option X) → IfSome o P → IfSome o Q
if_as P Q each None h = tt
if_as P Q each (Some x) h = each x h

-- ---- what is wrong here is wrong there

module _ (types : List TypeEntry) (vars : List VarEntry) (R : CellId → CellId → Type 0) (s t : StoreMap) (h : ArePaired R s t) where
  store : PairsStore R s t
  store = PairsStore-from_ArePaired R s t h

  back : ArePaired (turn R) t s
  back = ArePaired-turned R s t h

  pub reference-to : HasDanglingReference s → HasDanglingReference t
  reference-to k = by k.place k.dangling
    where
      by : (p : Place) → IsDanglingReference s p → HasDanglingReference t
      by (place.Var v) d = record { place = place.Var v; dangling = reference_dangles_to types R s t h (place.Var v) (place.Var v) refl d }
      by (place.Field a f) d =
          let x = IsSomeAnd-at (field_value s a f) _ d in
          let c = h.forth a (IsLive-field_value s a f x.0 x.1) in
          record { place = place.Field c.0 f; dangling = reference_dangles_to types R s t h (place.Field a f) (place.Field c.0 f) (c.1, refl) d }

  pub shared-to : HasShared types vars s → HasShared types vars t
  shared-to k = let c = h.forth k.cell k.shared.live in record { cell = c.0; shared = shared_to types R s t h vars k.cell c.0 c.1 k.shared }

  pub leaked-to : HasLeaked types vars s → HasLeaked types vars t
  leaked-to k = let c = h.forth k.cell k.leaked.live in record { cell = c.0; leaked = leaked_to types R s t h vars k.cell c.0 c.1 k.leaked }

  pub wrong-to : HasWrongField types s → HasWrongField types t
  wrong-to k =
      let x = IsSomeAnd-at (field_value s k.cell k.field) _ k.wrong.wrong in
      let c = h.forth k.cell (IsLive-field_value s k.cell k.field x.0 x.1) in
      record { cell = c.0; field = k.field; wrong = wrong_to types R s t h k.field k.cell c.0 c.1 k.wrong }

  reached-back : (roots : List VarId) (a c : CellId) → R a c → IsReachedFrom types vars t roots c → IsReachedFrom types vars s roots a
  reached-back roots a c p k = reached_to types vars (turn R) t s (PairsStore-from_ArePaired (turn R) t s back) roots c a p k

  pub escapes-to : (part inside : List VarId) → Escapes types vars s part inside → Escapes types vars t part inside
  escapes-to part inside k =
      let d = reference_to R (var_value s k.var) (var_value t k.var) k.cell (var_paired R s t h k.var) k.points.names in
      record {
        var = k.var;
        cell = d.0;
        points = record { pointer = k.points.pointer; names = d.2 };
        wrong_side = elim k.wrong_side [
          | inl out ↦ inl (out.0, λ r. out.1 (reached-back part k.cell d.0 d.1 r))
          | inr in_it ↦ inr (in_it.0, reached_to types vars R s t store part k.cell d.0 d.1 in_it.1)
        ];
      }

  pub escapes_at-to : (cut : Cut) → EscapesAt types vars s cut → EscapesAt types vars t cut
  escapes_at-to cut = some_as (λ part. Escapes types vars s part cut.inside) (λ part. Escapes types vars t part cut.inside)
      (λ part. escapes-to part cut.inside) cut.handed

  pub met-to : (claims : List Claim) → AreMet types vars s claims → AreMet types vars t claims
  met-to claims k = λ i d within. (Sat-renamed types vars [] R s t store outside outside (record { bound = tt; params = tt })
      (get_or claims i d).region (get_or claims i d).assertion).0 (k i d within)

  -- ---- starts

  blank-reference : (o p : Option CellId) → PairsReference R o p → o ≡ None → p ≡ None
  blank-reference None None k e = refl
  blank-reference (Some a) (Some c) k e = absurd cc
  blank-reference o p k e = absurd k

  blank-value : (x y : Value) → PairsValue R x y → IsBlank x → IsBlank y
  blank-value (value.Bool truth) (value.Bool other) k e = sym k ∙ e
  blank-value (value.Cell c) (value.Cell d) k e = blank-reference c d k e
  blank-value (value.Cells cells) (value.Cells others) k e = e
  blank-value x y k e = absurd k

  blank-slot : (o p : Option Value) → PairsSlot R o p → IsSomeAnd o IsBlank → IsSomeAnd p IsBlank
  blank-slot None None k e = e
  blank-slot (Some x) (Some y) k e = blank-value x y k e
  blank-slot o p k e = absurd k

  pub blanks-to : (nulls : List VarId) → All (λ v. IsSomeAnd (var_value s v) IsBlank) nulls → All (λ v. IsSomeAnd (var_value t v) IsBlank) nulls
  blanks-to nulls k = λ i d within.
      let v = get_or nulls i d in blank-slot (var_value s v) (var_value t v) (var_paired R s t h v) (k i d within)

-- ---- cuts and starts there are as here

module _ (types : List TypeEntry) (vars : List VarEntry) (R : CellId → CellId → Type 0) (s t : StoreMap) (h : ArePaired R s t) where
  backwards : ArePaired (turn R) t s
  backwards = ArePaired-turned R s t h

  pub IsWrong-to : (cut : Cut) (why : Cause) → IsWrong types vars cut s why → IsWrong types vars cut t why
  IsWrong-to cut cause.Null w = w
  IsWrong-to cut cause.Dangling w = w
  IsWrong-to cut cause.DoubleFree w = w
  IsWrong-to cut cause.DanglingRef w = reference-to types vars R s t h w
  IsWrong-to cut cause.Shared w = shared-to types vars R s t h w
  IsWrong-to cut cause.Leak w = leaked-to types vars R s t h w
  IsWrong-to cut cause.Field w = wrong-to types vars R s t h w
  IsWrong-to cut cause.Escape w = escapes_at-to types vars R s t h cut w
  IsWrong-to cut cause.Post w = λ met. w (met-to types vars (turn R) t s backwards cut.asserts met)
  IsWrong-to cut cause.Assert w = w
  IsWrong-to cut cause.Variant w = w

  pub StartHolds-to : (start : Start) → StartHolds types vars start s → StartHolds types vars start t
  StartHolds-to start k = record {
    nulls = blanks-to types vars R s t h start.nulls k.nulls;
    pointers = if_as (λ part. Escapes types vars s part start.inside → ⊥) (λ part. Escapes types vars t part start.inside → ⊥)
        (λ part none e. none (escapes-to types vars (turn R) t s backwards part start.inside e)) start.returned k.pointers;
    claims = met-to types vars R s t h start.asserts k.claims;
  }

  pub Meets-to : (triple : Triple) → IsAbove t → Meets types vars triple s → Meets types vars triple t
  Meets-to triple above k = record { well_formed = well_formed_to types R s t h vars above k.well_formed; start = StartHolds-to triple.start k.start }

module _ (types : List TypeEntry) (vars : List VarEntry) (R : CellId → CellId → Type 0) (s t : StoreMap) (h : ArePaired R s t) where
  IsWrong-back : (cut : Cut) (why : Cause) → IsWrong types vars cut t why → IsWrong types vars cut s why
  IsWrong-back = IsWrong-to types vars (turn R) t s (ArePaired-turned R s t h)

  pub IsFirstCause-to : (cut : Cut) (why : Cause) → IsFirstCause types vars cut s why → IsFirstCause types vars cut t why
  IsFirstCause-to cut why k = record {
    here = IsWrong-to types vars R s t h cut why k.here;
    before = λ other less w. k.before other less (IsWrong-back cut other w);
  }

  pub AtCut-to : (cut : Cut) (o : Option Cause) → AtCut types vars cut s o → AtCut types vars cut t o
  AtCut-to cut None k = λ why w. k why (IsWrong-back cut why w)
  AtCut-to cut (Some why) k = IsFirstCause-to cut why k
