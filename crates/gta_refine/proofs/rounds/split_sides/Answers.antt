-- One side after the other, by the same numbers.
use Rattle.std.proofs.Common.{List, sym, subst}
use Rattle.bdd_nodes.specs.declared.node_ref.NodeRef.{NodeRef}
use Rattle.gta_classes.specs.declared.part.SpaceClasses.{SpaceClasses}
use Rattle.gta_reach.specs.declared.sides.Side.TheVariants.{Left, Right}
use Rattle.gta_refine.specs.Looked.{AreNumbersAt, AreRows, IsStableFrom}
use Rattle.gta_refine.proofs.FinerLemmas.{AreFiner-same, AreFiner-both, IsStableFrom-finer, both-sides}
use Rattle.gta_refine.proofs.rounds.split_sides.Goals as goal

pub split_child-requires-clause-rows : goal.split_child-requires-clause-rows
split_child-requires-clause-rows c =
    let form = c.args.form.now in
    let old = c.args.spaces.now.items in
    let s = c.args.s in
    let numbers = c.as_slice-numbers.result.now in
    let tells : AreNumbersAt form old s numbers =
    subst (λ (ns : List NodeRef). AreNumbersAt form old s ns) (sym c.as_slice-numbers.ensures)
    (subst (λ (xs : List SpaceClasses). AreNumbersAt form xs s c.in_ok-number_list.number_list) c.deref.ensures.value c.in_ok-number_list.ensures) in
    record {
      before = old;
      rows = record {
        partition = c.requires.partition;
        tells = tells;
        chosen_own = c.requires.left;
        chosen_beside = c.requires.right;
      };
      finer = AreFiner-same old;
    }

pub split_child-requires-2-clause-rows : goal.split_child-requires-2-clause-rows
split_child-requires-2-clause-rows c =
    let form = c.args.form.now in
    let old = c.args.spaces.now.items in
    let s = c.args.s in
    let numbers = c.as_slice-numbers.result.now in
    let tells : AreNumbersAt form old s numbers =
    subst (λ (ns : List NodeRef). AreNumbersAt form old s ns) (sym c.as_slice-numbers.ensures)
    (subst (λ (xs : List SpaceClasses). AreNumbersAt form xs s c.in_ok-number_list.number_list) c.deref.ensures.value c.in_ok-number_list.ensures) in
    record {
      before = old;
      rows = record {
        partition = c.requires.partition;
        tells = tells;
        chosen_own = c.requires.right;
        chosen_beside = c.requires.left;
      };
      finer = c.in_ok-is_more_left.ensures.finer;
    }

pub returns-clause-finer : goal.returns-clause-finer
returns-clause-finer c =
    AreFiner-both c.args.spaces.now.items c.split_child.new.spaces.items c.split_child-2.new.spaces.items
    c.in_ok-is_more_left.ensures.finer c.in_ok-is_more_right.ensures.finer

pub returns-clause-stable : goal.returns-clause-stable
returns-clause-stable c =
    let form = c.args.form.now in
    let old = c.args.spaces.now.items in
    let mid = c.split_child.new.spaces.items in
    let new = c.split_child-2.new.spaces.items in
    let s = c.args.s in
    let left = c.args.left.now in
    let right = c.args.right.now in
    let numbers = c.as_slice-numbers.result.now in
    let tells : AreNumbersAt form old s numbers =
    subst (λ (ns : List NodeRef). AreNumbersAt form old s ns) (sym c.as_slice-numbers.ensures)
    (subst (λ (xs : List SpaceClasses). AreNumbersAt form xs s c.in_ok-number_list.number_list) c.deref.ensures.value c.in_ok-number_list.ensures) in
    let rows_left : AreRows form old s Left numbers left right = record {
      partition = c.requires.partition;
      tells = tells;
      chosen_own = c.requires.left;
      chosen_beside = c.requires.right;
    } in
    let rows_right : AreRows form old s Right numbers right left = record {
      partition = c.requires.partition;
      tells = tells;
      chosen_own = c.requires.right;
      chosen_beside = c.requires.left;
    } in
    both-sides (IsStableFrom form old new s)
    (IsStableFrom-finer form old mid new s Left c.in_ok-is_more_right.ensures.finer
    (c.in_ok-is_more_left.ensures.stable old rows_left (AreFiner-same old)))
    (c.in_ok-is_more_right.ensures.stable old rows_right c.in_ok-is_more_left.ensures.finer)
