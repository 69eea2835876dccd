use Rattle.std.proofs.Common.{sym, subst}
use Rattle.ws2s_core.specs.LabelTrees.{assignment_of}
use Rattle.store_core.specs.Stores.{Fits}
use Rattle.witness_store.specs.Pointers.{IsSameButPointers, DoCellsFit}
use Rattle.tree_store.specs.Stores.{IsStoreOf}
use Rattle.tree_store.proofs.StoreLemmas.{IsStoreOf-decoded}
use Rattle.witness_store.proofs.PointersLemmas.{IsStoreOf-alike}
use Rattle.witness_store.proofs.decoding.decode.Goals as goal

pub set_pointers-requires : goal.set_pointers-requires
set_pointers-requires c =
    let types = c.args.l.now.types in
    let vars = c.args.l.now.vars in
    let a = assignment_of c.args.tree.now in
    let read = c.in_ok-store.ensures in
    let of : IsStoreOf types vars a c.in_ok-store.store =
    subst (IsStoreOf types vars a) (sym read.is) (IsStoreOf-decoded types vars a read.cells c.requires read.cells_are) in
    subst (λ ts. DoCellsFit ts c.in_ok-store.store) (sym c.types.ensures.value) of.fits.cells

pub returns-clause-store : goal.returns-clause-store
returns-clause-store c =
    let types = c.args.l.now.types in
    let vars = c.args.l.now.vars in
    let a = assignment_of c.args.tree.now in
    let read = c.in_ok-store.ensures in
    let s = c.in_ok-store.store in
    let t = c.set_pointers.new.store in
    let of : IsStoreOf types vars a s = subst (IsStoreOf types vars a) (sym read.is) (IsStoreOf-decoded types vars a read.cells c.requires read.cells_are) in
    let same = c.types.ensures.value in
    let kept : IsSameButPointers types s t = subst (λ ts. IsSameButPointers ts s t) same c.in_ok-set_pointers.ensures.kept in
    IsStoreOf-alike types vars a s t of kept
    (subst (λ ts. Fits ts vars t) same (c.in_ok-set_pointers.ensures.fits vars (subst (λ ts. Fits ts vars s) (sym same) of.fits)))
    (c.in_ok-set_pointers.ensures.fresh of.fresh)
