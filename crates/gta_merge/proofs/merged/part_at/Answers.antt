use Rattle.std.proofs.Common.{◌≡◌, ◌<◌, List, Some, length, refl, ap, subst, arith}
use Rattle.std.specs.Prelude.{slice_get}
use Rattle.std.proofs.lemmas.Option.{slice_get_read}
use Rattle.gta_core.specs.declared.part.Part.{Part}
use Rattle.gta_merge.proofs.merged.part_at.Goals as goal

pub returns-clause-part : goal.returns-clause-part
returns-clause-part c =
    let s = c.args.space in
    let own = c.index-parts-space.result in
    let e = ap (λ (ps : List Part). length ps) c.parts.ensures.parts in
    let inside : s < length c.parts.result.now = (let r = c.requires in omega arith) in
    subst (λ (ps : List Part). slice_get ps s ≡ Some own) c.parts.ensures.parts
    (slice_get_read c.parts.result.now (length c.parts.result.now) s own refl inside c.index-parts-space.is)
