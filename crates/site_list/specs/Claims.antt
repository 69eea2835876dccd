-- Assertions as formulas on the store that is seen, in all of it or in a region. (Møller and Schwartzbach, PLDI 2001, "pointer
-- assertion logic".) The quantifiers of an assertion bind tracks one after the other, so that the nearest one around a place
-- has bound the track before the next.
use Rattle.std.specs.Prelude.{ℕ, suc, ◌-◌, Bool, true, false, List, [], ◌∷◌, reverse, Option, Some, None}
use Rattle.std.specs.Option.{option_map_or}
use Rattle.store_core.specs.declared.ids.TypeId.{TypeId}
use Rattle.store_core.specs.declared.ids.FieldId.{FieldId}
use Rattle.store_core.specs.Tables.{TypeEntry}
use Rattle.store_logic.specs.declared.term.Base.{Base}
use Rattle.store_logic.specs.declared.term.Base.TheVariants as base
use Rattle.store_logic.specs.declared.term.Term.{Term}
use Rattle.store_logic.specs.declared.term.Term.TheVariants as term
use Rattle.store_logic.specs.declared.region.Region.{Region}
use Rattle.store_logic.specs.declared.region.Region.TheVariants as region
use Rattle.store_logic.specs.declared.assertion.Assertion.{Assertion}
use Rattle.store_logic.specs.declared.assertion.Assertion.TheOpen.{Assertion-F}
use Rattle.store_logic.specs.declared.assertion.Assertion.TheFolds.{fold-Assertion}
use Rattle.store_exec.specs.declared.triple.Claim.{Claim}
use Rattle.ws2s_core.specs.declared.track.Track.{Track}
use Rattle.ws2s_core.specs.declared.formula.Formula.{Formula}
use Rattle.ws2s_core.specs.declared.formula.Formula.TheVariants.{Sub, And, Not, Ex2}
use Rattle.ws2s_forms.specs.Forms.{track, false_at, true_at, and_list, or, imp, iff, ex1, all1}
use Rattle.graph_view.specs.declared.view.Sym.{Sym}
use Rattle.graph_view.specs.declared.view.Sym.TheVariants.{Null, At}
use Rattle.graph_view.specs.Syms.{is_in, truth}
use Rattle.graph_view.specs.Sights.{Sight}
use Rattle.graph_view.specs.Live.{lives, lives_in, is_live}
use Rattle.graph_view.specs.Fields.{is_true}
use Rattle.graph_view.specs.Routes.{names, walk}
use Rattle.site_list.specs.States.{Text, value_of}

-- ---- names and terms

-- what stands for a name at a place where `own` is the next track
abbrev pub base_value : List Sym → ℕ → Base → Sym
base_value values own (base.Var v) = value_of values v
base_value values own (base.Bound k) = At (track (own - suc k))
base_value values own (base.Param k) = Null

-- the fields, the last one first, lead from the value to the live cell on track b
abbrev pub leads_to : List TypeEntry → Sight → Sym → List FieldId → ℕ → ℕ → Formula
leads_to types sight u [] next b = And (is_in next b u) (is_live types sight next b)
leads_to types sight u (f ∷ before) next b =
    And (ex1 next (And (leads_to types sight u before (suc next) next) (names types sight (suc next) f next b))) (is_live types sight next b)

-- the value of the term is the live cell on track b
abbrev pub is_value : List TypeEntry → Sight → List Sym → ℕ → Term → ℕ → ℕ → Formula
is_value types sight values own term.Null next b = false_at next
is_value types sight values own (term.At name fields) next b = leads_to types sight (base_value values own name) (reverse fields) next b

-- the fields, the last one first, lead from the value to what is true
abbrev pub leads_to_true : List TypeEntry → Sight → Sym → List FieldId → ℕ → Formula
leads_to_true types sight u [] next = truth next u
leads_to_true types sight u (f ∷ before) next =
    ex1 next (And (leads_to types sight u before (suc next) next) (is_true types sight (suc next) f next))

abbrev pub is_true_term : List TypeEntry → Sight → List Sym → ℕ → Term → Formula
is_true_term types sight values next term.Null = false_at next
is_true_term types sight values next (term.At name fields) = leads_to_true types sight (base_value values next name) (reverse fields) next

-- ---- assertions

-- some set of cells of the type
abbrev pub ex_set : List TypeEntry → Sight → ℕ → TypeId → Formula → Formula
ex_set types sight next ty inner =
    Ex2 (track next) (And (all1 (suc next) (imp (Sub (track (suc next)) (track next)) (lives_in types sight (suc (suc next)) ty (suc next)))) inner)

-- one form, by its parts
abbrev pub assertion_rule : List TypeEntry → Sight → List Sym → Assertion-F Text → Text
assertion_rule types sight values Assertion-F.True next = true_at next
assertion_rule types sight values Assertion-F.False next = false_at next
assertion_rule types sight values (Assertion-F.Truth t) next = is_true_term types sight values next t
assertion_rule types sight values (Assertion-F.Is t v) next =
    ex1 next (And (is_value types sight values next t (suc next) next) (lives types sight (suc next) v next))
assertion_rule types sight values (Assertion-F.Same t u) next =
    all1 next (iff (is_value types sight values next t (suc next) next) (is_value types sight values next u (suc next) next))
assertion_rule types sight values (Assertion-F.Member t set) next =
    ex1 next (And (is_value types sight values next t (suc next) next) (is_in (suc next) next (base_value values next set)))
assertion_rule types sight values (Assertion-F.Subset set other) next =
    all1 next (imp (And (is_live types sight (suc next) next) (is_in (suc next) next (base_value values next set)))
    (is_in (suc next) next (base_value values next other)))
assertion_rule types sight values (Assertion-F.Walk t along u) next =
    ex1 next (ex1 (suc next) (and_list (suc (suc next)) (is_value types sight values next t (suc (suc next)) next
    ∷ is_value types sight values next u (suc (suc next)) (suc next) ∷ walk types sight along (suc (suc next)) next (suc next) ∷ [])))
assertion_rule types sight values (Assertion-F.Pred k args) next = false_at next
assertion_rule types sight values (Assertion-F.Not a) next = Not (a next)
assertion_rule types sight values (Assertion-F.And a b) next = And (a next) (b next)
assertion_rule types sight values (Assertion-F.Or a b) next = or (a next) (b next)
assertion_rule types sight values (Assertion-F.Imp a b) next = imp (a next) (b next)
assertion_rule types sight values (Assertion-F.Iff a b) next = iff (a next) (b next)
assertion_rule types sight values (Assertion-F.Ex ty a) next = ex1 next (And (lives_in types sight (suc next) ty next) (a (suc next)))
assertion_rule types sight values (Assertion-F.All ty a) next = all1 next (imp (lives_in types sight (suc next) ty next) (a (suc next)))
assertion_rule types sight values (Assertion-F.ExSet ty a) next = ex_set types sight next ty (a (suc next))
assertion_rule types sight values (Assertion-F.AllSet ty a) next = Not (ex_set types sight next ty (Not (a (suc next))))

-- the store that is seen satisfies the assertion
abbrev pub assertion : List TypeEntry → Sight → List Sym → Assertion → Text
assertion types sight values = fold-Assertion Text (assertion_rule types sight values)

-- ---- claims

-- the cells of a region, where the handed or returned part is on a track
abbrev pub region_on : Option Track → Region → Option (Track × Bool)
region_on part region.All = None
region_on part (region.Part roots) = option_map_or (λ p. Some (p, true)) part None
region_on part (region.Rest roots) = option_map_or (λ p. Some (p, false)) part None

abbrev pub claim : List TypeEntry → Sight → List Sym → Option Track → Claim → Text
claim types sight values part c = assertion types (record sight { region = region_on part c.region }) values c.assertion
