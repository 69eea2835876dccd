-- Acts of code: where they can fail, and what they lead to.
use Rattle.std.specs.Prelude.{ℕ, suc, ◌+◌, List, [], ◌∷◌}
use Rattle.store_core.specs.declared.ids.VarId.{VarId}
use Rattle.store_core.specs.declared.ids.FieldId.{FieldId}
use Rattle.store_core.specs.declared.ids.VariantId.{VariantId}
use Rattle.store_core.specs.Tables.{TypeEntry, VarEntry}
use Rattle.store_logic.specs.declared.act.Rhs.{Rhs}
use Rattle.store_logic.specs.declared.act.Rhs.TheVariants as rhs
use Rattle.store_logic.specs.declared.act.Act.{Act}
use Rattle.store_logic.specs.declared.act.Act.TheVariants as act
use Rattle.store_logic.specs.declared.assertion.Assertion.{Assertion}
use Rattle.store_exec.specs.declared.cause.Cause.TheVariants as cause
use Rattle.ws2s_forms.specs.Forms.{slot}
use Rattle.graph_view.specs.declared.view.Sym.{Sym}
use Rattle.graph_view.specs.declared.view.Event.TheVariants as event
use Rattle.graph_view.specs.Sights.{var_slots}
use Rattle.graph_view.specs.Syms.{is_null}
use Rattle.graph_view.specs.Live.{is_dead}
use Rattle.site_list.specs.States.{State, Got, make, is_truth_of, check, guard, fails, sight, value_of, with_value, happens}
use Rattle.site_list.specs.Reading.{Told, read, check_access, operand_value}
use Rattle.site_list.specs.Conditions.{condition}
use Rattle.site_list.specs.Claims.{assertion}

-- ---- what is assigned

-- a truth value on a track
abbrev pub made_truth : List TypeEntry → List VarEntry → Told → Got
made_truth types vars told = make types vars (is_truth_of (told.0)) (told.1)

-- the next new cell, in its slot
abbrev pub made_cell : List TypeEntry → List VarEntry → VariantId → State → Got
made_cell types vars v s =
    make types vars (λ t next. slot next (var_slots vars + s.news) t)
    (record (happens (event.New s.guard s.news v) s) { news = suc s.news })

abbrev pub evaluated : List TypeEntry → List VarEntry → ℕ → Rhs → State → Got
evaluated types vars line (rhs.Cell p) s = operand_value types vars line (guard s) p s
evaluated types vars line (rhs.New v) s = made_cell types vars v s
evaluated types vars line (rhs.Truth c) s = made_truth types vars (condition types vars line c (guard s) s)

-- ---- places of assignments

-- the field of the cell that the value is gets what was evaluated
abbrev pub write_field : List TypeEntry → List VarEntry → ℕ → Sym → FieldId → Got → State
write_field types vars line u f got =
    happens (event.Write (got.1).guard u f (got.0)) (check_access types vars line (guard (got.1)) f u (got.1))

-- the last step of a place, after those before it were read: what is assigned is evaluated, and then the field is written
abbrev pub write_along : List TypeEntry → List VarEntry → ℕ → FieldId → List FieldId → Rhs → Got → State
write_along types vars line f [] x got = write_field types vars line (got.0) f (evaluated types vars line x (got.1))
write_along types vars line f (g ∷ fields) x got =
    write_along types vars line g fields x (read types vars line (guard (got.1)) f got)

abbrev pub assigned : List TypeEntry → List VarEntry → ℕ → VarId → List FieldId → Rhs → State → State
assigned types vars line v [] x s = with_value v (evaluated types vars line x s)
assigned types vars line v (f ∷ fields) x s = write_along types vars line f fields x (value_of s.values v, s)

-- ---- acts

-- the cell that the value is becomes dead
abbrev pub freed : List TypeEntry → List VarEntry → ℕ → Sym → State → State
freed types vars line u s =
    happens (event.Free s.guard u)
    (check line (guard s) cause.DoubleFree (λ next. is_dead types (sight vars s) next u)
    (check line (guard s) cause.Null (λ next. is_null next u) s))

-- the assertion has to hold
abbrev pub asserted : List TypeEntry → List VarEntry → ℕ → Assertion → State → State
asserted types vars line a s = check line (guard s) cause.Assert (fails (assertion types (sight vars s) s.values a)) s

abbrev pub act_rule : List TypeEntry → List VarEntry → ℕ → Act → State → State
act_rule types vars line (act.Assign p x) s = assigned types vars line p.var p.fields x s
act_rule types vars line (act.Free v) s = freed types vars line (value_of s.values v) s
act_rule types vars line (act.Assert a) s = asserted types vars line a s
