-- Conditions of code, read from the left. What stands right of `&&` is reached where the left side is true, and right of `||`
-- where it is false.
use Rattle.std.specs.Prelude.{ℕ, List}
use Rattle.store_core.specs.declared.ids.VariantId.{VariantId}
use Rattle.store_core.specs.Tables.{TypeEntry, VarEntry}
use Rattle.store_logic.specs.declared.path.Operand.{Operand}
use Rattle.store_logic.specs.declared.cond.Cond.{Cond}
use Rattle.store_logic.specs.declared.cond.Cond.TheOpen.{Cond-F}
use Rattle.store_logic.specs.declared.cond.Cond.TheFolds.{fold-Cond}
use Rattle.ws2s_forms.specs.Forms.{false_at, true_at, or}
use Rattle.graph_view.specs.declared.view.Sym.{Sym}
use Rattle.graph_view.specs.Syms.{is_same}
use Rattle.site_list.specs.States.{Text, State, Got, both, fails, sight}
use Rattle.site_list.specs.Reading.{Told, check_cell, path_value, operand_value, path_truth, is_of_variant}

-- how a condition is read: where it is reached, and how far the walk has come
abbrev pub Telling : Type 0
Telling = Text → State → Told

-- `p:v`, of the cell that was read
abbrev pub told_variant : List TypeEntry → List VarEntry → ℕ → Text → VariantId → Got → Told
told_variant types vars line reached v got =
    (is_of_variant types (sight vars (got.1)) v (got.0), check_cell types vars line reached (got.0) (got.1))

-- `p == q`, where q is read after p
abbrev pub told_same : Sym → Got → Told
told_same u got = (λ next. is_same next u (got.0), got.1)

abbrev pub then_same : List TypeEntry → List VarEntry → ℕ → Text → Operand → Got → Told
then_same types vars line reached q got = told_same (got.0) (operand_value types vars line reached q (got.1))

abbrev pub told_not : Told → Told
told_not told = (fails (told.0), told.1)

-- the right side, after the left one
abbrev pub told_and : Text → Told → Told
told_and left told = (both left (told.0), told.1)

abbrev pub then_and : Text → Telling → Told → Told
then_and reached right left = told_and (left.0) (right (both reached (left.0)) (left.1))

abbrev pub told_or : Text → Told → Told
told_or left told = (λ next. or (left next) ((told.0) next), told.1)

abbrev pub then_or : Text → Telling → Told → Told
then_or reached right left = told_or (left.0) (right (both reached (fails (left.0))) (left.1))

-- one form, by its parts
abbrev pub cond_rule : List TypeEntry → List VarEntry → ℕ → Cond-F Telling → Telling
cond_rule types vars line Cond-F.True reached s = (true_at, s)
cond_rule types vars line Cond-F.False reached s = (false_at, s)
cond_rule types vars line (Cond-F.Bool p) reached s = path_truth types vars line reached p s
cond_rule types vars line (Cond-F.Is p v) reached s = told_variant types vars line reached v (path_value types vars line reached p s)
cond_rule types vars line (Cond-F.Same p q) reached s = then_same types vars line reached q (operand_value types vars line reached p s)
cond_rule types vars line (Cond-F.Not c) reached s = told_not (c reached s)
cond_rule types vars line (Cond-F.And c d) reached s = then_and reached d (c reached s)
cond_rule types vars line (Cond-F.Or c d) reached s = then_or reached d (c reached s)

-- a condition at a line
abbrev pub condition : List TypeEntry → List VarEntry → ℕ → Cond → Telling
condition types vars line = fold-Cond Telling (cond_rule types vars line)
