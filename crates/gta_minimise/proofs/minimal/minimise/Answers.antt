-- The result, and what is left.
use Rattle.std.proofs.Common.{◌≡◌, ◌+◌, ◌≤◌, ℕ, Bool, false, List, length, map, sym, ◌∙◌, ap, subst}
use Rattle.std.specs.Prelude.{slice_index_or}
use Rattle.bdd_nodes.specs.Shelf.{Contents, count_of, tables_added}
use Rattle.gta_core.specs.Auto.{automaton_of}
use Rattle.gta_room.specs.Progress.{Adds, IsStuck}
use Rattle.gta_classes.specs.declared.part.SpaceClasses.{SpaceClasses}
use Rattle.gta_refine.specs.Refined.{part_at}
use Rattle.gta_minimise.specs.Quotient.{IsUnderClasses, AreQuotientSpaces}
use Rattle.gta_minimise.specs.Minimised.{HasMinimisedSize}
use Rattle.gta_minimise.proofs.QuotientLemmas.{part-read}
use Rattle.gta_minimise.proofs.MinimisedLemmas.{IsWhole-made, All-valid, IsAuto-made, IsMinimal-made, Accepts-made}
use Rattle.gta_minimise.proofs.MinimisedLemmas.{room, no_room, keeps-all, room-all, limit-all, registers}
use Rattle.gta_minimise.proofs.minimal.minimise.Goals as goal

pub returns-in_err-table-clause-limit : goal.returns-in_err-table-clause-limit
returns-in_err-table-clause-limit c = λ stopped n has.
    let f = c.in_ok-form.form in
    let e = c.in_ok-form.ensures in
    let made = c.quotient_spaces.new.shelf in
    let adds = subst (λ (xs : List SpaceClasses). Adds (IsUnderClasses f xs) c.args.shelf.now made) c.as_slice.ensures c.quotient_spaces.ensures.adds in
    let stuck = c.quotient_spaces.ensures.stuck
    (let why = rw stopped at c.from_residual-in_err-table.ensures in c.in_err-table.was ∙ (let is = why.1 in cc)) in
    no_room c.args.g.now c.args.shelf.now made c.args.a.now f c.in_ok-classes.classes e.form c.in_ok-classes.ensures c.requires e.same adds
    (subst (λ (xs : List SpaceClasses). IsStuck (IsUnderClasses f xs) made) c.as_slice.ensures stuck) n has

pub returns-in_err-table-clause-room : goal.returns-in_err-table-clause-room
returns-in_err-table-clause-room c =
    let f = c.in_ok-form.form in
    let e = c.in_ok-form.ensures in
    let made = c.quotient_spaces.new.shelf in
    let adds = subst (λ (xs : List SpaceClasses). Adds (IsUnderClasses f xs) c.args.shelf.now made) c.as_slice.ensures c.quotient_spaces.ensures.adds in
    room c.args.g.now c.args.shelf.now made c.args.a.now f c.in_ok-classes.classes e.form c.in_ok-classes.ensures c.requires e.same adds

pub returns-in_err-accepting-clause-room : goal.returns-in_err-accepting-clause-room
returns-in_err-accepting-clause-room c =
    let f = c.in_ok-form.form in
    let e = c.in_ok-form.ensures in
    let made = c.quotient_spaces.new.shelf in
    let adds = subst (λ (xs : List SpaceClasses). Adds (IsUnderClasses f xs) c.args.shelf.now made) c.as_slice.ensures c.quotient_spaces.ensures.adds in
    room c.args.g.now c.args.shelf.now made c.args.a.now f c.in_ok-classes.classes e.form c.in_ok-classes.ensures c.requires e.same adds

pub returns-in_err-minimal-clause-room : goal.returns-in_err-minimal-clause-room
returns-in_err-minimal-clause-room c =
    let f = c.in_ok-form.form in
    let e = c.in_ok-form.ensures in
    let made = c.quotient_spaces.new.shelf in
    let adds = subst (λ (xs : List SpaceClasses). Adds (IsUnderClasses f xs) c.args.shelf.now made) c.as_slice.ensures c.quotient_spaces.ensures.adds in
    subst (λ (shelf : Contents). (n : ℕ) → HasMinimisedSize c.args.g.now (automaton_of c.args.shelf.now c.args.a.now) n →
    count_of shelf ≤ count_of c.args.shelf.now + n) (sym c.in_err-minimal.ensures.err)
    (room c.args.g.now c.args.shelf.now made c.args.a.now f c.in_ok-classes.classes e.form c.in_ok-classes.ensures c.requires e.same adds)

pub returns-clause-room : goal.returns-clause-room
returns-clause-room c =
    let f = c.in_ok-form.form in
    let e = c.in_ok-form.ensures in
    let made = c.quotient_spaces.new.shelf in
    let adds = subst (λ (xs : List SpaceClasses). Adds (IsUnderClasses f xs) c.args.shelf.now made) c.as_slice.ensures c.quotient_spaces.ensures.adds in
    room-all c.args.g.now c.args.shelf.now made c.args.a.now f c.in_ok-classes.classes e.form c.in_ok-classes.ensures c.requires e.same adds
    c.from_parts.new.shelf c.in_ok-minimal.minimal.table c.in_ok-table.table.roots c.in_ok-minimal.ensures.table

pub returns-clause-table : goal.returns-clause-table
returns-clause-table c =
    let f = c.in_ok-form.form in
    let e = c.in_ok-form.ensures in
    let made = c.quotient_spaces.new.shelf in
    let adds = subst (λ (xs : List SpaceClasses). Adds (IsUnderClasses f xs) c.args.shelf.now made) c.as_slice.ensures c.quotient_spaces.ensures.adds in
    registers c.args.g.now c.args.shelf.now made c.args.a.now f c.in_ok-classes.classes e.form c.in_ok-classes.ensures c.requires e.same adds
    c.from_parts.new.shelf c.in_ok-minimal.minimal.table c.in_ok-table.table.roots c.in_ok-minimal.ensures.table

pub returns-clause-kept : goal.returns-clause-kept
returns-clause-kept c =
    let f = c.in_ok-form.form in
    let e = c.in_ok-form.ensures in
    let made = c.quotient_spaces.new.shelf in
    let adds = subst (λ (xs : List SpaceClasses). Adds (IsUnderClasses f xs) c.args.shelf.now made) c.as_slice.ensures c.quotient_spaces.ensures.adds in
    keeps-all c.args.g.now c.args.shelf.now made c.args.a.now f c.in_ok-classes.classes e.form c.in_ok-classes.ensures c.requires e.same adds
    c.from_parts.new.shelf c.in_ok-minimal.minimal.table c.in_ok-table.table.roots c.in_ok-minimal.ensures.table

pub returns-clause-same_limit : goal.returns-clause-same_limit
returns-clause-same_limit c =
    let f = c.in_ok-form.form in
    let e = c.in_ok-form.ensures in
    let made = c.quotient_spaces.new.shelf in
    let adds = subst (λ (xs : List SpaceClasses). Adds (IsUnderClasses f xs) c.args.shelf.now made) c.as_slice.ensures c.quotient_spaces.ensures.adds in
    limit-all c.args.g.now c.args.shelf.now made c.args.a.now f c.in_ok-classes.classes e.form c.in_ok-classes.ensures c.requires e.same adds
    c.from_parts.new.shelf c.in_ok-minimal.minimal.table c.in_ok-table.table.roots c.in_ok-minimal.ensures.table

pub from_parts-requires-clause-whole : goal.from_parts-requires-clause-whole
from_parts-requires-clause-whole c =
    let g = c.args.g.now in
    let old = c.args.shelf.now in
    let a = c.args.a.now in
    let f = c.in_ok-form.form in
    let e = c.in_ok-form.ensures in
    let classes = c.in_ok-classes.classes in
    let refined = c.in_ok-classes.ensures in
    let made = c.quotient_spaces.new.shelf in
    let parts = c.in_ok-table.table.parts in
    let roots = c.in_ok-table.table.roots in
    let are = subst (λ (xs : List SpaceClasses). AreQuotientSpaces made f xs parts roots (length g)) c.as_slice.ensures c.in_ok-table.ensures.parts in
    let d = c.index-as_slice-0.result in
    let here : c.as_slice-representatives.result.now ≡ (part_at classes 0).representatives = c.as_slice-representatives.ensures
    ∙ ap (λ (xs : List SpaceClasses). (slice_index_or xs 0 d).representatives) c.as_slice-2.ensures
    ∙ ap (λ (p : SpaceClasses). p.representatives) (part-read f classes e.form refined 0 (e.form).guide.not_empty d) in
    let accepting = c.in_ok-accepting.accepting in
    let accepting_are : accepting ≡ map (λ state. slice_index_or f.accepting state false) (part_at classes 0).representatives = c.in_ok-accepting.ensures
    ∙ ap (λ (flags : List Bool). map (λ state. slice_index_or flags state false) c.as_slice-representatives.result.now) c.as_slice-3.ensures
    ∙ ap (map (λ state. slice_index_or f.accepting state false)) here in
    IsWhole-made g old made made a f classes e.form refined c.requires e.same parts roots are accepting accepting_are

pub from_parts-requires-clause-valid : goal.from_parts-requires-clause-valid
from_parts-requires-clause-valid c =
    let g = c.args.g.now in
    let old = c.args.shelf.now in
    let a = c.args.a.now in
    let f = c.in_ok-form.form in
    let e = c.in_ok-form.ensures in
    let classes = c.in_ok-classes.classes in
    let refined = c.in_ok-classes.ensures in
    let made = c.quotient_spaces.new.shelf in
    let parts = c.in_ok-table.table.parts in
    let roots = c.in_ok-table.table.roots in
    let are = subst (λ (xs : List SpaceClasses). AreQuotientSpaces made f xs parts roots (length g)) c.as_slice.ensures c.in_ok-table.ensures.parts in
    let d = c.index-as_slice-0.result in
    let here : c.as_slice-representatives.result.now ≡ (part_at classes 0).representatives = c.as_slice-representatives.ensures
    ∙ ap (λ (xs : List SpaceClasses). (slice_index_or xs 0 d).representatives) c.as_slice-2.ensures
    ∙ ap (λ (p : SpaceClasses). p.representatives) (part-read f classes e.form refined 0 (e.form).guide.not_empty d) in
    let accepting = c.in_ok-accepting.accepting in
    let accepting_are : accepting ≡ map (λ state. slice_index_or f.accepting state false) (part_at classes 0).representatives = c.in_ok-accepting.ensures
    ∙ ap (λ (flags : List Bool). map (λ state. slice_index_or flags state false) c.as_slice-representatives.result.now) c.as_slice-3.ensures
    ∙ ap (map (λ state. slice_index_or f.accepting state false)) here in
    All-valid g old made made a f classes e.form refined c.requires e.same parts roots are accepting accepting_are

pub returns-clause-auto : goal.returns-clause-auto
returns-clause-auto c =
    let g = c.args.g.now in
    let old = c.args.shelf.now in
    let a = c.args.a.now in
    let f = c.in_ok-form.form in
    let e = c.in_ok-form.ensures in
    let classes = c.in_ok-classes.classes in
    let refined = c.in_ok-classes.ensures in
    let made = c.quotient_spaces.new.shelf in
    let parts = c.in_ok-table.table.parts in
    let roots = c.in_ok-table.table.roots in
    let are = subst (λ (xs : List SpaceClasses). AreQuotientSpaces made f xs parts roots (length g)) c.as_slice.ensures c.in_ok-table.ensures.parts in
    let d = c.index-as_slice-0.result in
    let here : c.as_slice-representatives.result.now ≡ (part_at classes 0).representatives = c.as_slice-representatives.ensures
    ∙ ap (λ (xs : List SpaceClasses). (slice_index_or xs 0 d).representatives) c.as_slice-2.ensures
    ∙ ap (λ (p : SpaceClasses). p.representatives) (part-read f classes e.form refined 0 (e.form).guide.not_empty d) in
    let accepting = c.in_ok-accepting.accepting in
    let accepting_are : accepting ≡ map (λ state. slice_index_or f.accepting state false) (part_at classes 0).representatives = c.in_ok-accepting.ensures
    ∙ ap (λ (flags : List Bool). map (λ state. slice_index_or flags state false) c.as_slice-representatives.result.now) c.as_slice-3.ensures
    ∙ ap (map (λ state. slice_index_or f.accepting state false)) here in
    IsAuto-made g old made c.from_parts.new.shelf a f classes e.form refined c.requires e.same parts roots are accepting accepting_are
    c.in_ok-minimal.minimal (tables_added made) c.in_ok-minimal.ensures.ok c.in_ok-minimal.ensures.table

pub returns-clause-minimal : goal.returns-clause-minimal
returns-clause-minimal c =
    let g = c.args.g.now in
    let old = c.args.shelf.now in
    let a = c.args.a.now in
    let f = c.in_ok-form.form in
    let e = c.in_ok-form.ensures in
    let classes = c.in_ok-classes.classes in
    let refined = c.in_ok-classes.ensures in
    let made = c.quotient_spaces.new.shelf in
    let parts = c.in_ok-table.table.parts in
    let roots = c.in_ok-table.table.roots in
    let are = subst (λ (xs : List SpaceClasses). AreQuotientSpaces made f xs parts roots (length g)) c.as_slice.ensures c.in_ok-table.ensures.parts in
    let d = c.index-as_slice-0.result in
    let here : c.as_slice-representatives.result.now ≡ (part_at classes 0).representatives = c.as_slice-representatives.ensures
    ∙ ap (λ (xs : List SpaceClasses). (slice_index_or xs 0 d).representatives) c.as_slice-2.ensures
    ∙ ap (λ (p : SpaceClasses). p.representatives) (part-read f classes e.form refined 0 (e.form).guide.not_empty d) in
    let accepting = c.in_ok-accepting.accepting in
    let accepting_are : accepting ≡ map (λ state. slice_index_or f.accepting state false) (part_at classes 0).representatives = c.in_ok-accepting.ensures
    ∙ ap (λ (flags : List Bool). map (λ state. slice_index_or flags state false) c.as_slice-representatives.result.now) c.as_slice-3.ensures
    ∙ ap (map (λ state. slice_index_or f.accepting state false)) here in
    IsMinimal-made g old made c.from_parts.new.shelf a f classes e.form refined c.requires e.same parts roots are accepting accepting_are
    c.in_ok-minimal.minimal (tables_added made) c.in_ok-minimal.ensures.ok c.in_ok-minimal.ensures.table

pub returns-clause-accepts : goal.returns-clause-accepts
returns-clause-accepts c =
    let g = c.args.g.now in
    let old = c.args.shelf.now in
    let a = c.args.a.now in
    let f = c.in_ok-form.form in
    let e = c.in_ok-form.ensures in
    let classes = c.in_ok-classes.classes in
    let refined = c.in_ok-classes.ensures in
    let made = c.quotient_spaces.new.shelf in
    let parts = c.in_ok-table.table.parts in
    let roots = c.in_ok-table.table.roots in
    let are = subst (λ (xs : List SpaceClasses). AreQuotientSpaces made f xs parts roots (length g)) c.as_slice.ensures c.in_ok-table.ensures.parts in
    let d = c.index-as_slice-0.result in
    let here : c.as_slice-representatives.result.now ≡ (part_at classes 0).representatives = c.as_slice-representatives.ensures
    ∙ ap (λ (xs : List SpaceClasses). (slice_index_or xs 0 d).representatives) c.as_slice-2.ensures
    ∙ ap (λ (p : SpaceClasses). p.representatives) (part-read f classes e.form refined 0 (e.form).guide.not_empty d) in
    let accepting = c.in_ok-accepting.accepting in
    let accepting_are : accepting ≡ map (λ state. slice_index_or f.accepting state false) (part_at classes 0).representatives = c.in_ok-accepting.ensures
    ∙ ap (λ (flags : List Bool). map (λ state. slice_index_or flags state false) c.as_slice-representatives.result.now) c.as_slice-3.ensures
    ∙ ap (map (λ state. slice_index_or f.accepting state false)) here in
    Accepts-made g old made c.from_parts.new.shelf a f classes e.form refined c.requires e.same parts roots are accepting accepting_are
    c.in_ok-minimal.minimal (tables_added made) c.in_ok-minimal.ensures.ok c.in_ok-minimal.ensures.table
