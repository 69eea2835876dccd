use Rattle.std.proofs.Common.{◌⊎◌, List, [], map, take, Contains, sym, subst, get_or}
use Rattle.std.specs.Prelude.{◌↔◌}
use Rattle.std.proofs.lemmas.List.{take_all, map_more}
use Rattle.cert_nodes.specs.declared.spots.Spot.{Spot}
use Rattle.cert_tables.specs.declared.class_sets.SetClasses.{SetClasses}
use Rattle.cert_tables.specs.Sets.{ClassKey, key_of, set_spots_of}
use Rattle.cert_tables.specs.Starts.{IsLedWith, AreLedBy}
use Rattle.cert_tables.proofs.StartsLemmas.{starts-none, starts-push}
use Rattle.cert_tables.proofs.sets.set_starts.Goals as goal

pub loop-left-init : goal.loop-left-init
loop-left-init c =
    let lead = set_spots_of c.args.space c.args.a.now c.args.c.now in
    let rights = map key_of c.args.rights.now in
    subst (AreLedBy lead [] rights) (sym c.new-starts.ensures) (starts-none lead rights)

pub loop-left-preserved : goal.loop-left-preserved
loop-left-preserved c =
    let lead = set_spots_of c.args.space c.args.a.now c.args.c.now in
    let lefts = c.args.lefts.now in
    let rights = map key_of c.args.rights.now in
    let i = c.loop-left.left-index in
    let none = c.left-item.result in
    let old = c.loop-left.starts in
    let new = c.add_set_starts.new.starts in
    subst (λ (ls : List ClassKey). AreLedBy lead ls rights new) (sym (map_more key_of lefts i none c.loop-left-test.true))
    (starts-push lead (map key_of (take i lefts)) rights (key_of (get_or lefts i none)) old new c.loop-left.invariant
    (subst (λ (l : SetClasses). (spots : List Spot) → Contains new spots ↔ (Contains old spots ⊎ IsLedWith lead (key_of l) rights spots))
    c.left-item.is c.in_ok-add_set_starts.ensures))

pub returns : goal.returns
returns c =
    let lead = set_spots_of c.args.space c.args.a.now c.args.c.now in
    subst (λ (ls : List SetClasses). AreLedBy lead (map key_of ls) (map key_of c.args.rights.now) c.loop-left.starts)
    (take_all c.loop-left.left-index c.args.lefts.now c.loop-left-test.false) c.loop-left.invariant
