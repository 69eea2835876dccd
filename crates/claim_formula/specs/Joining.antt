-- Forms of assertions as formulas of their parts, which were made before.
use Rattle.std.specs.Prelude.{ℕ, suc, List, [], ◌∷◌}
use Rattle.store_core.specs.declared.ids.VariantId.{VariantId}
use Rattle.store_core.specs.declared.ids.FieldId.{FieldId}
use Rattle.store_core.specs.declared.kind.Route.{Route}
use Rattle.store_core.specs.Tables.{TypeEntry}
use Rattle.plain_data.specs.Stacks.{top, rest}
use Rattle.store_logic.specs.declared.term.Base.{Base}
use Rattle.store_logic.specs.declared.term.Term.{Term}
use Rattle.store_logic.specs.declared.assertion.Assertion.{Assertion, out-Assertion}
use Rattle.store_logic.specs.declared.assertion.Assertion.TheOpen.{Assertion-F}
use Rattle.ws2s_core.specs.declared.formula.Formula.{Formula}
use Rattle.ws2s_core.specs.declared.formula.Formula.TheVariants.{Root, And, Not}
use Rattle.ws2s_forms.specs.Forms.{track, true_at, false_at, and_list, or, imp, iff, ex1, all1}
use Rattle.graph_view.specs.declared.view.Sym.{Sym}
use Rattle.graph_view.specs.Syms.{is_in}
use Rattle.graph_view.specs.Sights.{Sight}
use Rattle.graph_view.specs.Live.{lives, lives_in, is_live}
use Rattle.graph_view.specs.Routes.{names, walk}
use Rattle.site_list.specs.Claims.{base_value, is_value, is_true_term, ex_set}

-- ---- terms

-- the value is the live cell on track b
abbrev pub is_reached : List TypeEntry → Sight → Sym → ℕ → ℕ → Formula
is_reached types sight u next b = And (is_in next b u) (is_live types sight next b)

-- one field more leads from what the formula says of the next track to the live cell on track b
abbrev pub one_more : List TypeEntry → Sight → Formula → FieldId → ℕ → ℕ → Formula
one_more types sight before f next b = And (ex1 next (And before (names types sight (suc next) f next b))) (is_live types sight next b)

-- ---- forms without parts

abbrev pub variant_formula : List TypeEntry → Sight → List Sym → Term → VariantId → ℕ → Formula
variant_formula types sight values t v next = ex1 next (And (is_value types sight values next t (suc next) next) (lives types sight (suc next) v next))

abbrev pub same_formula : List TypeEntry → Sight → List Sym → Term → Term → ℕ → Formula
same_formula types sight values t u next =
    all1 next (iff (is_value types sight values next t (suc next) next) (is_value types sight values next u (suc next) next))

abbrev pub member_formula : List TypeEntry → Sight → List Sym → Term → Base → ℕ → Formula
member_formula types sight values t set next =
    ex1 next (And (is_value types sight values next t (suc next) next) (is_in (suc next) next (base_value values next set)))

abbrev pub subset_formula : List TypeEntry → Sight → List Sym → Base → Base → ℕ → Formula
subset_formula types sight values set other next =
    all1 next (imp (And (is_live types sight (suc next) next) (is_in (suc next) next (base_value values next set)))
    (is_in (suc next) next (base_value values next other)))

abbrev pub walk_formula : List TypeEntry → Sight → List Sym → Term → Route → Term → ℕ → Formula
walk_formula types sight values t along u next =
    ex1 next (ex1 (suc next) (and_list (suc (suc next)) (is_value types sight values next t (suc (suc next)) next
    ∷ is_value types sight values next u (suc (suc next)) (suc next) ∷ walk types sight along (suc (suc next)) next (suc next) ∷ [])))

-- the formula of a form without parts; one with parts holds nowhere
abbrev pub alone_node : {Part : Type 0} → List TypeEntry → Sight → List Sym → Assertion-F Part → ℕ → Formula
alone_node types sight values Assertion-F.True next = true_at next
alone_node types sight values (Assertion-F.Truth t) next = is_true_term types sight values next t
alone_node types sight values (Assertion-F.Is t v) next = variant_formula types sight values t v next
alone_node types sight values (Assertion-F.Same t u) next = same_formula types sight values t u next
alone_node types sight values (Assertion-F.Member t set) next = member_formula types sight values t set next
alone_node types sight values (Assertion-F.Subset set other) next = subset_formula types sight values set other next
alone_node types sight values (Assertion-F.Walk t along u) next = walk_formula types sight values t along u next
alone_node types sight values _ next = false_at next

abbrev pub alone : List TypeEntry → Sight → List Sym → Assertion → ℕ → Formula
alone types sight values a next = alone_node types sight values (out-Assertion a) next

-- ---- forms with parts

-- the formula that was made last; there is one
abbrev pub last_made : List Formula → Formula
last_made made = top (Root (track 0)) made

-- the one before it
abbrev pub made_before : List Formula → Formula
made_before made = last_made (rest made)

-- the formulas that were made, the last one first, after a form took those of its parts
abbrev pub joined_node : {Part : Type 0} → List TypeEntry → Sight → Assertion-F Part → ℕ → List Formula → List Formula
joined_node types sight (Assertion-F.Not a) next made = Not (last_made made) ∷ rest made
joined_node types sight (Assertion-F.And a b) next made = And (made_before made) (last_made made) ∷ rest (rest made)
joined_node types sight (Assertion-F.Or a b) next made = or (made_before made) (last_made made) ∷ rest (rest made)
joined_node types sight (Assertion-F.Imp a b) next made = imp (made_before made) (last_made made) ∷ rest (rest made)
joined_node types sight (Assertion-F.Iff a b) next made = iff (made_before made) (last_made made) ∷ rest (rest made)
joined_node types sight (Assertion-F.Ex ty a) next made = ex1 next (And (lives_in types sight (suc next) ty next) (last_made made)) ∷ rest made
joined_node types sight (Assertion-F.All ty a) next made = all1 next (imp (lives_in types sight (suc next) ty next) (last_made made)) ∷ rest made
joined_node types sight (Assertion-F.ExSet ty a) next made = ex_set types sight next ty (last_made made) ∷ rest made
joined_node types sight (Assertion-F.AllSet ty a) next made = Not (ex_set types sight next ty (Not (last_made made))) ∷ rest made
joined_node types sight _ next made = made

abbrev pub joined : List TypeEntry → Sight → Assertion → ℕ → List Formula → List Formula
joined types sight a next made = joined_node types sight (out-Assertion a) next made
