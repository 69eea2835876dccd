use Rattle.std.proofs.Common.{◌≡◌, Some, None, false, ◌&&◌, ◌==◌, ◌∙◌, sym, rules, arith, nat_eq}
use Rattle.std.proofs.lemmas.Grind.{common_steps}
use Rattle.std.specs.Ordering.{nat_cmp}
use Rattle.std.specs.HashMap.{get as place_in}
use Rattle.std.specs.BTreeMap.{get}
use Rattle.ws2s_narrow.proofs.HandingLemmas.{at-place, not-there, none-at, same-next}
use Rattle.ws2s_narrow.proofs.pending.place_of.Goals as goal

pub returns-in_err-next-clause-only : goal.returns-in_err-next-clause-only
returns-in_err-next-clause-only c = λ idle placed.
    let number : place_in nat_eq c.args.places.now c.args.track ≡ Some c.in_ok-number.field-0.now = first_of (search rules, grind (arith, common_steps)) in
    let absent : get nat_cmp c.args.waiting.now c.in_ok-number.field-0.now ≡ None = first_of (search rules, grind (arith, common_steps)) in
    none-at c.args.track _ c.args.waiting.now.entries
    (not-there (place_in nat_eq c.args.places.now) idle c.args.waiting.now.entries c.args.track placed c.in_ok-number.field-0.now number c.requires
    (λ next there. absurd (let e : None ≡ Some next = sym absent ∙ there in cc)))

pub returns-then-quantifies-clause-only : goal.returns-then-quantifies-clause-only
returns-then-quantifies-clause-only c = λ idle placed.
    let number : place_in nat_eq c.args.places.now c.args.track ≡ Some c.in_ok-number.field-0.now = first_of (search rules, grind (arith, common_steps)) in
    at-place (place_in nat_eq c.args.places.now) idle c.args.waiting.now.entries c.args.track placed c.in_ok-number.field-0.now number

pub returns-clause-only : goal.returns-clause-only
returns-clause-only c = λ idle placed.
    let number : place_in nat_eq c.args.places.now c.args.track ≡ Some c.in_ok-number.field-0.now = first_of (search rules, grind (arith, common_steps)) in
    let there : get nat_cmp c.args.waiting.now c.in_ok-number.field-0.now ≡ Some c.in_ok-next.next.now = first_of (search rules, grind (arith, common_steps)) in
    let differs : c.in_ok-next.next.now.used && (c.in_ok-next.next.now.track.0 == c.args.track) ≡ false = first_of (
      search rules,
      grind (
        arith,
        common_steps,
      ),
    ) in
    none-at c.args.track _ c.args.waiting.now.entries
    (not-there (place_in nat_eq c.args.places.now) idle c.args.waiting.now.entries c.args.track placed c.in_ok-number.field-0.now number c.requires
    (λ next found. same-next c.args.track c.in_ok-next.next.now next (sym there ∙ found) differs))
