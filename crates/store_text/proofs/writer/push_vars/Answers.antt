use Rattle.std.proofs.Common.{◌≡◌, ◌∙◌, ◌++◌, ap, arith, sym, Some}
use Rattle.std.specs.Option.{option_map}
use Rattle.std.specs.List.{zip}
use Rattle.store_text.specs.StoreText.{var_line}
use Rattle.store_core.proofs.Adding.{at_known}
use Rattle.store_text.proofs.Writing.{flat_map_next, flat_map_all, slice_get-zip, zip_within}
use Rattle.store_text.proofs.writer.push_vars.Goals as goal

-- the next line is that of the variable at the index
pub loop-index-preserved : goal.loop-index-preserved
loop-index-preserved c =
    let vars = c.args.vars.now in
    let name = c.in-Some-Some.name.now in
    let value = c.in-Some-Some.value.now in
    let known = at_known vars c.loop-index.index (omega (arith, c.loop-index-test.true, c.vars-index-end.ensures.value)) in
    let named : name ≡ known.0.name = let e : Some name ≡ Some known.0.name = c.in-Some-Some.ensures ∙ ap (option_map (λ v. v.name)) known.1 in cc in
    c.in_ok-push_var.ensures
    ∙ (λ i. c.loop-index.invariant i ++ var_line (named i) value)
    ∙ flat_map_next (λ v. var_line v.0.name v.1) c.args.text.now.items (zip vars c.args.values.now) c.loop-index.index (known.0, value)
    (slice_get-zip vars c.args.values.now c.loop-index.index known.0 value known.1 (sym c.in-Some-Some.ensures'))

pub returns : goal.returns
returns c =
    c.loop-index.invariant
    ∙ flat_map_all (λ v. var_line v.0.name v.1) c.args.text.now.items (zip c.args.vars.now c.args.values.now) c.loop-index.index
    (zip_within c.args.vars.now c.args.values.now c.loop-index.index (omega (arith, c.loop-index-test.false, c.vars-index-end.ensures.value)))
