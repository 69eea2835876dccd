-- What is said of the store of an assignment holds however its pointer fields are set.
use Rattle.std.proofs.Common.{◌≡◌, ◌<◌, true, inl, inr, List, IsSomeAnd, sym, ◌∙◌, subst}
use Rattle.gta_theory.specs.Assignments.{Position, Assignment}
use Rattle.store_core.specs.declared.ids.CellId.{CellId}
use Rattle.store_core.specs.declared.kind.VarKind.{VarKind}
use Rattle.store_core.specs.declared.kind.VarKind.TheVariants as var
use Rattle.store_core.specs.declared.value.Value.{Value}
use Rattle.store_core.specs.declared.value.Value.TheVariants as value
use Rattle.store_core.specs.Tables.{TypeEntry, VarEntry, var_at}
use Rattle.store_core.specs.Stores.{StoreMap, Fits, IsFresh, var_value}
use Rattle.store_core.proofs.FittingLemmas.{IfSome-from, IfSome-at}
use Rattle.routing_walks.specs.WellFormed.{SetHoldsLive}
use Rattle.tree_encode.specs.Tracks.{TrackUse, of_variant, of_bool, of_var}
use Rattle.tree_encode.specs.Positions.{IsPlaced}
use Rattle.tree_store.specs.Encoding.{NamesCell, CellIsOn, RootIsOn, IsOn}
use Rattle.witness_store.specs.Pointers.{DoCellsFit, IsSameButPointers}
use Rattle.witness_store.proofs.AlikeLemmas.{alike_turned, by_variant, live_alike, var_alike, truth_alike, stands_alike, AreAlike-same}
use Rattle.tree_store.specs.Premises.{SetsHoldLive}
use Rattle.tree_store.specs.Stores.{IsStoreOf}

module _ (types : List TypeEntry) (vars : List VarEntry) (s t : StoreMap) (fits : DoCellsFit types s) (k : IsSameButPointers types s t) where
  pub placed_alike : (c : CellId) (p : Position) → IsPlaced types vars s c p → IsPlaced types vars t c p
  placed_alike c p h = record { var = h.var; fields = h.fields; at = stands_alike types s t k vars h.var h.fields c h.at; position = h.position }

  cell_on_alike : (what : TrackUse) (c : CellId) → CellIsOn s what c → CellIsOn t what c
  cell_on_alike (of_variant v) c h = by_variant types s t k (λ w. w ≡ v) c h
  cell_on_alike (of_bool f) c h = truth_alike types s t k fits c f true h
  cell_on_alike (of_var v) c h = subst (λ o. IsSomeAnd o (λ x. NamesCell x c)) (sym (var_alike types s t k v)) h

  root_on_alike : (what : TrackUse) → RootIsOn s what → RootIsOn t what
  root_on_alike (of_variant v) h = h
  root_on_alike (of_bool f) h = h
  root_on_alike (of_var v) h = var_alike types s t k v ∙ h

  pub on_alike : (what : TrackUse) (p : Position) → IsOn types vars s what p → IsOn types vars t what p
  on_alike what p h = elim h [
    | inl root ↦ inl (root.0, root_on_alike what root.1)
    | inr cell ↦ inr (cell.0, placed_alike cell.0 p cell.1, cell_on_alike what cell.0 cell.2)
  ]

  set_alike : (kind : VarKind) (x : Value) → SetHoldsLive s kind x → SetHoldsLive t kind x
  set_alike var.Bool x h = tt
  set_alike (var.Data ty) x h = tt
  set_alike (var.Pointer ty) x h = tt
  set_alike var.LogicBool x h = tt
  set_alike (var.LogicSet ty) (value.Bool b) h = h
  set_alike (var.LogicSet ty) (value.Cell c) h = h
  set_alike (var.LogicSet ty) (value.Cells cells) h = λ i d less. by_variant types s t k (λ v. v.ty ≡ ty) _ (h i d less)

  pub sets_alike : SetsHoldLive vars s → SetsHoldLive vars t
  sets_alike h v = IfSome-from (var_at vars v) _ (λ entry there. IfSome-from (var_value t v) _ (λ x held.
      set_alike entry.kind x (IfSome-at (var_value s v) _ x (sym (var_alike types s t k v) ∙ held) (IfSome-at (var_at vars v) _ entry there (h v)))))

-- the store with its pointer fields set
pub IsStoreOf-alike : (types : List TypeEntry) (vars : List VarEntry) (a : Assignment) (s t : StoreMap) → IsStoreOf types vars a s → IsSameButPointers
    types s t →
    Fits types vars t → IsFresh t → IsStoreOf types vars a t
IsStoreOf-alike types vars a s t of k fits fresh =
    let back = alike_turned types s t k in
    record {
      fits = fits;
      fresh = fresh;
      backbone = ((AreAlike-same types s t of.fits.cells fits.cells k).backbones vars).0 of.backbone;
      sets = sets_alike types vars s t of.fits.cells k of.sets;
      assignment = record {
        tracks = λ what track p is. (
          λ on. on_alike types vars s t of.fits.cells k what p ((of.assignment.tracks what track p is).0 on),
          λ on. (of.assignment.tracks what track p is).1 (on_alike types vars t s fits.cells back what p on),
        );
      };
      numbers = λ c. (
        λ live. let both = (of.numbers c).0 (live_alike types t s back c live) in (both.0, subst (λ n. c.0 < n) (sym k.next) both.1),
        λ both. live_alike types s t k c ((of.numbers c).1 (both.0, subst (λ n. c.0 < n) k.next both.1)),
      );
      order = λ c d p q of_c of_d. of.order c d p q (placed_alike types vars t s fits.cells back c p of_c)
          (placed_alike types vars t s fits.cells back d q of_d);
    }
