use Rattle.std.proofs.Common.{[]}
use Rattle.gta_keep.proofs.PassesLemmas.{Passes-none, Passes-made, Passes-both, HoldsBeside-after}
use Rattle.gta_keep.proofs.MadeLemmas.{built-ok, built-err}
use Rattle.gta_keep.proofs.LimitLemmas.{limit-atom}
use Rattle.gta_keep.proofs.building.try_atom.Goals as goal

pub make_room-requires : goal.make_room-requires
make_room-requires c =
    let g = c.args.g.now in
    let was = c.args.shelf.now in
    let kept = c.args.kept.now in
    let made = c.in-Err-Limit.ensures in (
      g,
      HoldsBeside-after g was c.atom.new.shelf [] [] kept kept
          (Passes-made g was c.atom.new.shelf kept c.requires.held.holds.is_shelf made.shelf made.kept made.err made.same_limit) c.requires.held,
    )

pub returns-in-Err-Limit-clause-ok : goal.returns-in-Err-Limit-clause-ok
returns-in-Err-Limit-clause-ok c =
    let g = c.args.g.now in
    let was = c.args.shelf.now in
    let kept = c.args.kept.now in
    let made = c.in-Err-Limit.ensures in
    let again = c.atom-in-Err-Limit.ensures in
    let first = Passes-made g was c.atom.new.shelf kept c.requires.held.holds.is_shelf made.shelf made.kept made.err made.same_limit in
    let left = Passes-both g was c.atom.new.shelf c.make_room.new.shelf [] [] [] kept kept c.make_room.new.self first (c.make_room.ensures.passes g) in
    built-ok g was c.make_room.new.shelf c.atom-in-Err-Limit.new.shelf [] kept c.make_room.new.self left c.requires.held again.shelf again.kept
    again.same_limit c.atom-in-Err-Limit.result again.auto again.table

pub returns-in-Err-Limit-clause-err : goal.returns-in-Err-Limit-clause-err
returns-in-Err-Limit-clause-err c =
    let g = c.args.g.now in
    let was = c.args.shelf.now in
    let kept = c.args.kept.now in
    let made = c.in-Err-Limit.ensures in
    let again = c.atom-in-Err-Limit.ensures in
    let first = Passes-made g was c.atom.new.shelf kept c.requires.held.holds.is_shelf made.shelf made.kept made.err made.same_limit in
    let left = Passes-both g was c.atom.new.shelf c.make_room.new.shelf [] [] [] kept kept c.make_room.new.self first (c.make_room.ensures.passes g) in
    built-err g was c.make_room.new.shelf c.atom-in-Err-Limit.new.shelf kept c.make_room.new.self left
    (HoldsBeside-after g was c.make_room.new.shelf [] [] kept c.make_room.new.self left c.requires.held).holds.is_shelf
    again.shelf again.kept again.same_limit c.atom-in-Err-Limit.result again.err

pub returns-in-Err-Limit-clause-limit : goal.returns-in-Err-Limit-clause-limit
returns-in-Err-Limit-clause-limit c = λ is others s n holds have has.
    let g = c.args.g.now in
    let was = c.args.shelf.now in
    let kept = c.args.kept.now in
    let made = c.in-Err-Limit.ensures in
    let first = Passes-made g was c.atom.new.shelf kept c.requires.held.holds.is_shelf made.shelf made.kept made.err made.same_limit in
    limit-atom g was c.atom.new.shelf c.make_room.new.shelf kept c.make_room.new.self first (c.make_room.ensures.passes g)
    (c.make_room.ensures.room g) c.args.f.now (c.atom-in-Err-Limit.ensures.limit is) others s n holds have has

pub returns-in_default-clause-err : goal.returns-in_default-clause-err
returns-in_default-clause-err c =
    let g = c.args.g.now in
    let was = c.args.shelf.now in
    let kept = c.args.kept.now in
    let made = c.in_default.ensures in
    Passes-made g was c.atom.new.shelf kept c.requires.held.holds.is_shelf made.shelf made.kept made.err made.same_limit

pub returns-in_default-2-clause-ok : goal.returns-in_default-2-clause-ok
returns-in_default-2-clause-ok c =
    let g = c.args.g.now in
    let was = c.args.shelf.now in
    let kept = c.args.kept.now in
    let made = c.atom.ensures in
    built-ok g was was c.atom.new.shelf [] kept kept (Passes-none g was [] kept) c.requires.held made.shelf made.kept made.same_limit
    c.atom.result made.auto made.table
