use Rattle.std.proofs.Common.{◌≡◌, ◌∙◌, ◌++◌, ◌∷◌, [], ap, arith, map, Some}
use Rattle.std.specs.Option.{option_map}
use Rattle.store_core.specs.Tables.{VarEntry}
use Rattle.store_core.specs.Stores.{blank, var_class}
use Rattle.store_core.specs.StoreBodies.{map_of, live_of}
use Rattle.store_core.proofs.Adding.{at_known}
use Rattle.store_core.proofs.Cells.{no_cells}
use Rattle.store_core.proofs.Steps.{map_next, map_all}
use Rattle.store_core.proofs.store.Store.empty.Goals as goal

-- the next variable's value is that of its kind
pub loop-index-preserved : goal.loop-index-preserved
loop-index-preserved c =
    let vars = c.args.vars.now in
    let known = at_known vars c.loop-index.index (omega (arith, c.loop-index-test.true, c.vars-index-end.ensures.value)) in
    let kind : c.in-Some.kind.now ≡ known.0.kind = let e : Some c.in-Some.kind.now ≡ Some known.0.kind = c.in-Some.ensures ∙
    ap (option_map (λ v. v.kind)) known.1 in cc in
    c.in_ok-push.ensures.ok
    ∙ (λ i. c.loop-index.invariant i ++ (c.blank_var.ensures ∙ ap (λ k. blank (var_class k)) kind) i ∷ [])
    ∙ map_next (λ v. blank (var_class v.kind)) vars c.loop-index.index known.0 known.1

pub returns : goal.returns
returns c =
    let blanks = map (λ (v : VarEntry). blank (var_class v.kind)) c.args.vars.now in
    (λ i. record {
      cells = map_of (live_of (c.new.ensures.items i));
      vars = (c.loop-index.invariant ∙ map_all (λ v. blank (var_class v.kind)) c.args.vars.now c.loop-index.index
          (omega (arith, c.loop-index-test.false, c.vars-index-end.ensures.value))) i;
      next = 1;
    })
    ∙ ap (λ cells. record { cells = cells; vars = blanks; next = 1 }) no_cells
