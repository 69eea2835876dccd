use Rattle.std.proofs.Common.{get_or, sym, subst, arith, ◌+◌, None}
use Rattle.std.proofs.lemmas.Option.{slice_get-get_or}
use Rattle.routing_walks.specs.Gathering.{HasAll}
use Rattle.routing_walks.proofs.GatheringLemmas.{Contains-at}
use Rattle.witness_store.specs.declared.finding.Pointing.{Pointing}
use Rattle.witness_store.specs.PointerFinding.{IsPointing}
use Rattle.witness_store.proofs.SettingLemmas.{AreSetBefore, same_class, AreSetBefore-next, ArePointersSet-all}
use Rattle.witness_store.proofs.setting.set_pointers.Goals as goal

abbrev no_pointing : Pointing
no_pointing = record { cell = record { 0 = 0 }; field = record { ty = record { 0 = 0 }; index = 0 }; to = None }

pub set_field-requires : goal.set_field-requires
set_field-requires c =
    let found = c.deref-pointing-items.result.now in
    let i = c.loop-pointing.pointing-index in
    let all = subst (λ l. HasAll l (IsPointing c.args.types.now c.args.store.now)) (sym c.deref-pointing-items.ensures.value) c.in_ok-found.ensures in
    let here = get_or found i no_pointing in
    let at = slice_get-get_or found i no_pointing c.loop-pointing-test.true in
    same_class c.args.types.now c.args.store.now c.loop-pointing.store c.loop-pointing.invariant.kept c.loop-pointing.invariant.cells_fit here
    ((all here).0 (Contains-at found i here at))

pub loop-pointing-preserved : goal.loop-pointing-preserved
loop-pointing-preserved c =
    let types = c.args.types.now in
    let s = c.args.store.now in
    let found = c.deref-pointing-items.result.now in
    let i = c.loop-pointing.pointing-index in
    let all = subst (λ l. HasAll l (IsPointing types s)) (sym c.deref-pointing-items.ensures.value) c.in_ok-found.ensures in
    subst (AreSetBefore types s found (i + 1)) (sym c.set_field.ensures)
    (AreSetBefore-next types s found all i (get_or found i no_pointing) (slice_get-get_or found i no_pointing c.loop-pointing-test.true)
    c.loop-pointing.store c.loop-pointing.invariant)

pub returns-clause-pointers : goal.returns-clause-pointers
returns-clause-pointers c =
    let types = c.args.types.now in
    let s = c.args.store.now in
    let found = c.deref-pointing-items.result.now in
    ArePointersSet-all types s found c.requires
    (subst (λ l. HasAll l (IsPointing types s)) (sym c.deref-pointing-items.ensures.value) c.in_ok-found.ensures)
    c.loop-pointing.pointing-index (omega (arith, c.loop-pointing-test.false)) c.loop-pointing.store c.loop-pointing.invariant
