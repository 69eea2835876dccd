-- What steps give in a space.
use Rattle.std.proofs.Common.{◌≡◌, ℕ, ◌<◌, List, [], Bool, Some, length, refl, sym, ◌∙◌, ap, subst, arith}
use Rattle.std.specs.Prelude.{slice_get, slice_index_or, slice_set}
use Rattle.std.proofs.lemmas.List.{get_or_read, set-get_or}
use Rattle.std.proofs.lemmas.Option.{slice_get_read}
use Rattle.gta_theory.specs.Guides.{left, right}
use Rattle.gta_reach.specs.declared.form.FormSpace.{FormSpace}
use Rattle.gta_reach.specs.Form.{guide_of, step_in}
use Rattle.gta_classes.specs.Chosen.{IsAmong, AreChosen}
use Rattle.gta_reach.specs.Reached.{IsSwept, IsClosedIn}
use Rattle.gta_reach.proofs.ReachLemmas.{left-at, right-at, left-inside, right-inside, left-rows, right-columns, left-few, right-few, has_root}
use Rattle.gta_reach.proofs.ReachLemmas.{step-below, AreGenerated-swept, IsClosedIn-swept}
use Rattle.gta_reach.specs.Unset.{unset}
use Rattle.gta_reach.proofs.UnsetLemmas.{unset_in-set}
use Rattle.gta_reach.proofs.reached.reach_in.Goals as goal
use Rattle.gta_reach.proofs.reached.reach_in.Goals.{After-index_mut}

pub marks_of-requires : goal.marks_of-requires
marks_of-requires c =
    let form = c.args.form.now in
    let space = c.index-as_slice-s.result in
    let at : slice_get form.spaces c.args.s ≡ Some space = ap (λ (xs : List FormSpace). slice_get xs c.args.s) (sym c.as_slice.ensures)
    ∙ slice_get_read c.as_slice.result.now (length c.as_slice.result.now) c.args.s space refl
    (let e = ap length c.as_slice.ensures in let s = c.requires.space in omega arith) c.index-as_slice-s.is in
    let b = left-inside form c.requires.form c.args.reached.now.items c.requires.generated c.args.s space at in
    let e = ap length c.deref.ensures.value in
    omega arith

pub marks_of-requires-2 : goal.marks_of-requires-2
marks_of-requires-2 c =
    let form = c.args.form.now in
    let space = c.index-as_slice-s.result in
    let at : slice_get form.spaces c.args.s ≡ Some space = ap (λ (xs : List FormSpace). slice_get xs c.args.s) (sym c.as_slice.ensures)
    ∙ slice_get_read c.as_slice.result.now (length c.as_slice.result.now) c.args.s space refl
    (let e = ap length c.as_slice.ensures in let s = c.requires.space in omega arith) c.index-as_slice-s.is in
    let b = right-inside form c.requires.form c.args.reached.now.items c.requires.generated c.args.s space at in
    let e = ap length c.deref-2.ensures.value in
    omega arith

pub choose-requires-clause-many : goal.choose-requires-clause-many
choose-requires-clause-many c =
    let form = c.args.form.now in
    let reached = c.args.reached.now.items in
    let space = c.index-as_slice-s.result in
    let at : slice_get form.spaces c.args.s ≡ Some space = ap (λ (xs : List FormSpace). slice_get xs c.args.s) (sym c.as_slice.ensures)
    ∙ slice_get_read c.as_slice.result.now (length c.as_slice.result.now) c.args.s space refl
    (let e = ap length c.as_slice.ensures in let s = c.requires.space in omega arith) c.index-as_slice-s.is in
    let b = left-rows form c.requires.form reached c.requires.generated c.args.s space at in
    let m : length c.marks_of.result.now ≡ length (slice_index_or reached space.children.0 []) =
    ap length (c.marks_of.ensures ∙ ap (λ (xs : List (List Bool)). slice_index_or xs space.children.0 []) c.deref.ensures.value) in
    let r = ap length c.as_slice-2.ensures in
    omega arith

pub choose-requires-clause-few : goal.choose-requires-clause-few
choose-requires-clause-few c =
    let form = c.args.form.now in
    let reached = c.args.reached.now.items in
    let space = c.index-as_slice-s.result in
    let at : slice_get form.spaces c.args.s ≡ Some space = ap (λ (xs : List FormSpace). slice_get xs c.args.s) (sym c.as_slice.ensures)
    ∙ slice_get_read c.as_slice.result.now (length c.as_slice.result.now) c.args.s space refl
    (let e = ap length c.as_slice.ensures in let s = c.requires.space in omega arith) c.index-as_slice-s.is in
    let b = left-few form c.requires.form reached c.requires.generated c.args.s space at in
    let m : length c.marks_of.result.now ≡ length (slice_index_or reached space.children.0 []) =
    ap length (c.marks_of.ensures ∙ ap (λ (xs : List (List Bool)). slice_index_or xs space.children.0 []) c.deref.ensures.value) in
    omega arith

pub choose-requires-2-clause-many : goal.choose-requires-2-clause-many
choose-requires-2-clause-many c =
    let form = c.args.form.now in
    let reached = c.args.reached.now.items in
    let space = c.index-as_slice-s.result in
    let at : slice_get form.spaces c.args.s ≡ Some space = ap (λ (xs : List FormSpace). slice_get xs c.args.s) (sym c.as_slice.ensures)
    ∙ slice_get_read c.as_slice.result.now (length c.as_slice.result.now) c.args.s space refl
    (let e = ap length c.as_slice.ensures in let s = c.requires.space in omega arith) c.index-as_slice-s.is in
    let b = right-columns form c.requires.form reached c.requires.generated c.args.s space at in
    let m : length c.marks_of-2.result.now ≡ length (slice_index_or reached space.children.1 []) =
    ap length (c.marks_of-2.ensures ∙ ap (λ (xs : List (List Bool)). slice_index_or xs space.children.1 []) c.deref-2.ensures.value) in
    let r = ap length c.as_slice-3.ensures in
    omega arith

pub choose-requires-2-clause-few : goal.choose-requires-2-clause-few
choose-requires-2-clause-few c =
    let form = c.args.form.now in
    let reached = c.args.reached.now.items in
    let space = c.index-as_slice-s.result in
    let at : slice_get form.spaces c.args.s ≡ Some space = ap (λ (xs : List FormSpace). slice_get xs c.args.s) (sym c.as_slice.ensures)
    ∙ slice_get_read c.as_slice.result.now (length c.as_slice.result.now) c.args.s space refl
    (let e = ap length c.as_slice.ensures in let s = c.requires.space in omega arith) c.index-as_slice-s.is in
    let b = right-few form c.requires.form reached c.requires.generated c.args.s space at in
    let m : length c.marks_of-2.result.now ≡ length (slice_index_or reached space.children.1 []) =
    ap length (c.marks_of-2.ensures ∙ ap (λ (xs : List (List Bool)). slice_index_or xs space.children.1 []) c.deref-2.ensures.value) in
    omega arith

-- the space, and the chosen states of its children
space-at : (c : After-index_mut) → slice_get c.args.form.now.spaces c.args.s ≡ Some c.index-as_slice-s.result
space-at c = ap (λ (xs : List FormSpace). slice_get xs c.args.s) (sym c.as_slice.ensures)
    ∙ slice_get_read c.as_slice.result.now (length c.as_slice.result.now) c.args.s c.index-as_slice-s.result refl
    (let e = ap length c.as_slice.ensures in let s = c.requires.space in omega arith) c.index-as_slice-s.is

chosen-left : (c : After-index_mut) → AreChosen c.index-as_slice-s.result.rows
    (slice_index_or c.args.reached.now.items (left (guide_of c.args.form.now) c.args.s) []) c.in_ok-lefts.lefts.items
chosen-left c =
    let space = c.index-as_slice-s.result in
    subst (λ (k : ℕ). AreChosen space.rows (slice_index_or c.args.reached.now.items k []) c.in_ok-lefts.lefts.items)
    (sym (left-at c.args.form.now c.args.s space (space-at c)))
    (subst (λ (rows : List ℕ). AreChosen rows (slice_index_or c.args.reached.now.items space.children.0 []) c.in_ok-lefts.lefts.items) c.as_slice-2.ensures
    (subst (λ (marks : List Bool). AreChosen c.as_slice-2.result.now marks c.in_ok-lefts.lefts.items)
    (c.marks_of.ensures ∙ ap (λ (xs : List (List Bool)). slice_index_or xs space.children.0 []) c.deref.ensures.value) c.in_ok-lefts.ensures))

chosen-right : (c : After-index_mut) → AreChosen c.index-as_slice-s.result.columns
    (slice_index_or c.args.reached.now.items (right (guide_of c.args.form.now) c.args.s) []) c.in_ok-rights.rights.items
chosen-right c =
    let space = c.index-as_slice-s.result in
    subst (λ (k : ℕ). AreChosen space.columns (slice_index_or c.args.reached.now.items k []) c.in_ok-rights.rights.items)
    (sym (right-at c.args.form.now c.args.s space (space-at c)))
    (subst (λ (columns : List ℕ). AreChosen columns (slice_index_or c.args.reached.now.items space.children.1 []) c.in_ok-rights.rights.items)
    c.as_slice-3.ensures
    (subst (λ (marks : List Bool). AreChosen c.as_slice-3.result.now marks c.in_ok-rights.rights.items)
    (c.marks_of-2.ensures ∙ ap (λ (xs : List (List Bool)). slice_index_or xs space.children.1 []) c.deref-2.ensures.value) c.in_ok-rights.ensures))

pub sweep-requires-clause-ordered : goal.sweep-requires-clause-ordered
sweep-requires-clause-ordered c = (c.requires.form.spaces c.args.s c.index-as_slice-s.result (space-at c)).ordered

pub sweep-requires-clause-roots : goal.sweep-requires-clause-roots
sweep-requires-clause-roots c = λ l r in_left in_right.
    has_root c.args.form.now c.requires.form c.args.reached.now.items c.requires.generated c.args.s c.index-as_slice-s.result (space-at c) l r
    ((chosen-left c).each l (subst (λ (xs : List ℕ). IsAmong xs l) c.deref-3.ensures.value in_left))
    ((chosen-right c).each r (subst (λ (xs : List ℕ). IsAmong xs r) c.deref-4.ensures.value in_right))

pub sweep-requires-clause-states : goal.sweep-requires-clause-states
sweep-requires-clause-states c = λ l r label in_left in_right.
    let space = c.index-as_slice-s.result in
    let below = step-below c.args.form.now c.requires.form c.args.reached.now.items c.requires.generated c.args.s space (space-at c) l r label
    ((chosen-left c).each l (subst (λ (xs : List ℕ). IsAmong xs l) c.deref-3.ensures.value in_left))
    ((chosen-right c).each r (subst (λ (xs : List ℕ). IsAmong xs r) c.deref-4.ensures.value in_right)) in
    let items = c.args.reached.now.items in
    let inside : c.args.s < length items = (let e = c.requires.generated.spaces in let s = c.requires.space in omega arith) in
    let is : c.index_mut.result.now ≡ slice_index_or items c.args.s [] = get_or_read items c.args.s c.index_mut.result.now inside c.index_mut.ensures.value []
    in
    subst (λ (marks : List Bool). step_in space l r label < length marks) (sym is) below

pub returns-clause-generated : goal.returns-clause-generated
returns-clause-generated c =
    let form = c.args.form.now in
    let items = c.args.reached.now.items in
    let s = c.args.s in
    let space = c.index-as_slice-s.result in
    let at : slice_get form.spaces s ≡ Some space = ap (λ (xs : List FormSpace). slice_get xs s) (sym c.as_slice.ensures)
    ∙ slice_get_read c.as_slice.result.now (length c.as_slice.result.now) s space refl
    (let e = ap length c.as_slice.ensures in let inside = c.requires.space in omega arith) c.index-as_slice-s.is in
    let chosen_left : AreChosen space.rows (slice_index_or items (left (guide_of form) s) []) c.in_ok-lefts.lefts.items =
    subst (λ (k : ℕ). AreChosen space.rows (slice_index_or items k []) c.in_ok-lefts.lefts.items) (sym (left-at form s space at))
    (subst (λ (rows : List ℕ). AreChosen rows (slice_index_or items space.children.0 []) c.in_ok-lefts.lefts.items) c.as_slice-2.ensures
    (subst (λ (marks : List Bool). AreChosen c.as_slice-2.result.now marks c.in_ok-lefts.lefts.items)
    (c.marks_of.ensures ∙ ap (λ (xs : List (List Bool)). slice_index_or xs space.children.0 []) c.deref.ensures.value) c.in_ok-lefts.ensures)) in
    let chosen_right : AreChosen space.columns (slice_index_or items (right (guide_of form) s) []) c.in_ok-rights.rights.items =
    subst (λ (k : ℕ). AreChosen space.columns (slice_index_or items k []) c.in_ok-rights.rights.items) (sym (right-at form s space at))
    (subst (λ (columns : List ℕ). AreChosen columns (slice_index_or items space.children.1 []) c.in_ok-rights.rights.items) c.as_slice-3.ensures
    (subst (λ (marks : List Bool). AreChosen c.as_slice-3.result.now marks c.in_ok-rights.rights.items)
    (c.marks_of-2.ensures ∙ ap (λ (xs : List (List Bool)). slice_index_or xs space.children.1 []) c.deref-2.ensures.value) c.in_ok-rights.ensures)) in
    let inside : s < length items = (let e = c.requires.generated.spaces in let b = c.requires.space in omega arith) in
    let is : c.index_mut.result.now ≡ slice_index_or items s [] = get_or_read items s c.index_mut.result.now inside c.index_mut.ensures.value [] in
    let swept : IsSwept space c.in_ok-lefts.lefts.items c.in_ok-rights.rights.items (slice_index_or items s []) c.sweep.new.states =
    subst (λ (lefts : List ℕ). IsSwept space lefts c.in_ok-rights.rights.items (slice_index_or items s []) c.sweep.new.states) c.deref-3.ensures.value
    (subst (λ (rights : List ℕ). IsSwept space c.deref-3.result.now rights (slice_index_or items s []) c.sweep.new.states) c.deref-4.ensures.value
    (subst (λ (before : List Bool). IsSwept space c.deref-3.result.now c.deref-4.result.now before c.sweep.new.states) is c.in_ok-is_more.ensures.swept)) in
    AreGenerated-swept form c.requires.form items c.requires.generated s space at c.in_ok-lefts.lefts.items c.in_ok-rights.rights.items
    c.sweep.new.states chosen_left chosen_right swept

pub returns-clause-closed : goal.returns-clause-closed
returns-clause-closed c = λ nothing.
    let form = c.args.form.now in
    let items = c.args.reached.now.items in
    let s = c.args.s in
    let space = c.index-as_slice-s.result in
    let at : slice_get form.spaces s ≡ Some space = ap (λ (xs : List FormSpace). slice_get xs s) (sym c.as_slice.ensures)
    ∙ slice_get_read c.as_slice.result.now (length c.as_slice.result.now) s space refl
    (let e = ap length c.as_slice.ensures in let inside = c.requires.space in omega arith) c.index-as_slice-s.is in
    let chosen_left : AreChosen space.rows (slice_index_or items (left (guide_of form) s) []) c.in_ok-lefts.lefts.items =
    subst (λ (k : ℕ). AreChosen space.rows (slice_index_or items k []) c.in_ok-lefts.lefts.items) (sym (left-at form s space at))
    (subst (λ (rows : List ℕ). AreChosen rows (slice_index_or items space.children.0 []) c.in_ok-lefts.lefts.items) c.as_slice-2.ensures
    (subst (λ (marks : List Bool). AreChosen c.as_slice-2.result.now marks c.in_ok-lefts.lefts.items)
    (c.marks_of.ensures ∙ ap (λ (xs : List (List Bool)). slice_index_or xs space.children.0 []) c.deref.ensures.value) c.in_ok-lefts.ensures)) in
    let chosen_right : AreChosen space.columns (slice_index_or items (right (guide_of form) s) []) c.in_ok-rights.rights.items =
    subst (λ (k : ℕ). AreChosen space.columns (slice_index_or items k []) c.in_ok-rights.rights.items) (sym (right-at form s space at))
    (subst (λ (columns : List ℕ). AreChosen columns (slice_index_or items space.children.1 []) c.in_ok-rights.rights.items) c.as_slice-3.ensures
    (subst (λ (marks : List Bool). AreChosen c.as_slice-3.result.now marks c.in_ok-rights.rights.items)
    (c.marks_of-2.ensures ∙ ap (λ (xs : List (List Bool)). slice_index_or xs space.children.1 []) c.deref-2.ensures.value) c.in_ok-rights.ensures)) in
    let inside : s < length items = (let e = c.requires.generated.spaces in let b = c.requires.space in omega arith) in
    let is : c.index_mut.result.now ≡ slice_index_or items s [] = get_or_read items s c.index_mut.result.now inside c.index_mut.ensures.value [] in
    let swept : IsSwept space c.in_ok-lefts.lefts.items c.in_ok-rights.rights.items (slice_index_or items s []) c.sweep.new.states =
    subst (λ (lefts : List ℕ). IsSwept space lefts c.in_ok-rights.rights.items (slice_index_or items s []) c.sweep.new.states) c.deref-3.ensures.value
    (subst (λ (rights : List ℕ). IsSwept space c.deref-3.result.now rights (slice_index_or items s []) c.sweep.new.states) c.deref-4.ensures.value
    (subst (λ (before : List Bool). IsSwept space c.deref-3.result.now c.deref-4.result.now before c.sweep.new.states) is c.in_ok-is_more.ensures.swept)) in
    let same : c.sweep.new.states ≡ slice_index_or items s [] = c.in_ok-is_more.ensures.unchanged nothing ∙ is in
    let closed = IsClosedIn-swept form c.requires.form items c.requires.generated s space at c.in_ok-lefts.lefts.items c.in_ok-rights.rights.items
    c.sweep.new.states chosen_left chosen_right swept same in
    subst (λ (xs : List (List Bool)). IsClosedIn form xs s)
    (sym (ap (slice_set items s) same ∙ set-get_or items s [])) closed

pub returns-clause-fewer : goal.returns-clause-fewer
returns-clause-fewer c =
    let items = c.args.reached.now.items in
    let s = c.args.s in
    let inside : s < length items = (let e = c.requires.generated.spaces in let b = c.requires.space in omega arith) in
    let is : c.index_mut.result.now ≡ slice_index_or items s [] = get_or_read items s c.index_mut.result.now inside c.index_mut.ensures.value [] in
    let own = ap unset is in
    let others = unset_in-set items s c.sweep.new.states inside in
    let fewer = c.in_ok-is_more.ensures.fewer in
    omega arith
