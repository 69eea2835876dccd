use Rattle.std.proofs.Common.{◌≡◌, ℕ, Option, Some, IsSome, refl, sym, ap, ◌∙◌, subst}
use Rattle.store_exec.specs.declared.code.Tail.TheVariants as tail
use Rattle.store_exec.specs.declared.code.Code.{roll-Code}
use Rattle.hoare_split.specs.Flows.{place_among}
use Rattle.hoare_split.proofs.FlowLemmas.{position-among, code_in-ends}
use Rattle.hoare_triples.proofs.codes.code_ending.Goals as goal

pub unwrap-place-requires : goal.unwrap-place-requires
unwrap-place-requires c = subst (λ (o : Option ℕ). IsSome o) (sym (c.find.ensures ∙ position-among c.args.point c.args.reached.now.points c.requires)) refl

pub returns-in-Ok : goal.returns-in-Ok
returns-in-Ok c = λ cut.
    let points = c.args.reached.now.points in
    let same : Some c.unwrap-place.result ≡ Some (place_among points c.args.point) =
    sym c.unwrap-place.ensures ∙ c.find.ensures ∙ position-among c.args.point points c.requires in
    let here : c.unwrap-place.result ≡ place_among points c.args.point = cc in
    ap (λ (place : ℕ). roll-Code (record { items = c.args.items; tail = tail.Cut place })) (c.in-Ok.ensures.1 ∙ here)
    ∙ sym (code_in-ends points c.args.items (record { point = c.args.point; cut = cut }))
