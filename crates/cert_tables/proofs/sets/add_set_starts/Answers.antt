use Rattle.std.proofs.Common.{◌⊎◌, List, map, take, Contains, ap, sym, ◌∙◌, subst, get_or}
use Rattle.std.specs.Prelude.{◌↔◌}
use Rattle.std.proofs.lemmas.List.{take_all, map_more}
use Rattle.cert_nodes.specs.declared.spots.Spot.{Spot}
use Rattle.cert_tables.specs.declared.class_sets.SetClasses.{SetClasses}
use Rattle.cert_tables.specs.Sets.{ClassKey, key_of, set_spots_of}
use Rattle.cert_tables.specs.Starts.{IsLedWith}
use Rattle.cert_tables.proofs.StartsLemmas.{with-none, with-push}
use Rattle.cert_tables.proofs.sets.add_set_starts.Goals as goal

pub loop-right-init : goal.loop-right-init
loop-right-init c spots = with-none (set_spots_of c.args.space c.args.a.now c.args.c.now) (key_of c.args.left.now) c.args.starts.now spots

pub loop-right-preserved : goal.loop-right-preserved
loop-right-preserved c =
    let lead = set_spots_of c.args.space c.args.a.now c.args.c.now in
    let left = key_of c.args.left.now in
    let rights = c.args.rights.now in
    let i = c.loop-right.right-index in
    let old = c.args.starts.now in
    let new = c.insert.new.self in
    let none = c.right-item.result in
    subst (λ (rs : List ClassKey). (spots : List Spot) → Contains new spots ↔ (Contains old spots ⊎ IsLedWith lead left rs spots))
    (sym (map_more key_of rights i none c.loop-right-test.true))
    (with-push lead left (map key_of (take i rights)) (key_of (get_or rights i none)) old c.loop-right.starts new c.in_ok-made.made.items
    c.loop-right.invariant (c.in_ok-made.ensures ∙ ap (λ (r : SetClasses). lead left (key_of r)) c.right-item.is)
    c.in_ok-insert.ensures.added c.in_ok-insert.ensures.there)

pub returns : goal.returns
returns c =
    let rights = c.args.rights.now in
    subst (λ (rs : List SetClasses). (spots : List Spot) → Contains c.loop-right.starts spots
    ↔ (Contains c.args.starts.now spots ⊎ IsLedWith (set_spots_of c.args.space c.args.a.now c.args.c.now) (key_of c.args.left.now) (map key_of rs) spots))
    (take_all c.loop-right.right-index rights c.loop-right-test.false) c.loop-right.invariant
