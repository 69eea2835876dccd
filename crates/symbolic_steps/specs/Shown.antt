-- What a walk keeps of how far it has come: formulas whose quantifiers bind tracks from `next` on, and of all places the one that is
-- wanted.
use Rattle.std.specs.Prelude.{◌≡◌, ℕ, ◌+◌, ◌==◌, List, [], ◌∷◌, ◌++◌, length, map, reverse, slice_get, slice_set, Some, None, if◌then◌else◌}
use Rattle.std.specs.Prelude.{option_map}
use Rattle.ws2s_core.specs.declared.formula.Formula.{Formula}
use Rattle.ws2s_core.specs.declared.formula.Formula.TheVariants.{And}
use Rattle.store_core.specs.declared.ids.VarId.{VarId}
use Rattle.store_core.specs.Tables.{TypeEntry, VarEntry}
use Rattle.graph_view.specs.declared.view.Sym.{Sym}
use Rattle.graph_view.specs.declared.view.Event.{Event}
use Rattle.site_list.specs.States.{Text, Check, State, Got, make}
use Rattle.site_list.specs.Reading.{Told}
use Rattle.site_list.specs.Codes.{is_sym, is_merged}
use Rattle.symbolic_steps.specs.declared.walker.Walker.{Walker}

-- the place is reached, and its condition holds
abbrev pub place_formula : ℕ → Check → Formula
place_formula next c = And (c.reached next) (c.condition next)

-- what defines the tracks that were made
abbrev pub written : ℕ → List Text → List Formula
written next defined = map (λ text. text next) defined

-- how a state is kept
abbrev pub shown : ℕ → ℕ → State → Walker
shown next wanted s = record {
  guard = s.guard;
  view = record { vars = s.values; events = reverse s.events; region = None; next = next };
  news = s.news;
  defined = written next s.defined;
  passed = length s.checks;
  wanted = wanted;
  found = option_map (place_formula next) (slice_get s.checks wanted);
}

-- ---- steps

-- a place more was passed, which is reached where the first formula holds, and fails where the second does
abbrev pub checked : Formula → Formula → Walker → Walker
checked reached condition w =
    record w { passed = w.passed + 1; found = if w.passed == w.wanted then Some (And reached condition) else w.found }

-- a track more is defined
abbrev pub defining : Formula → Walker → Walker
defining formula w = record w { defined = w.defined ++ formula ∷ [] }

-- a change of the heap more
abbrev pub happening : Event → Walker → Walker
happening event w = record w { view = record w.view { events = w.view.events ++ event ∷ [] } }

-- a value for a variable
abbrev pub valued : VarId → Sym → Walker → Walker
valued v value w = record w { view = record w.view { vars = slice_set w.view.vars v.0 value } }

-- what stands for a variable after both ways, and how far the walk has come then
abbrev pub merged_value : List TypeEntry → List VarEntry → ℕ → Sym → Sym → State → Got
merged_value types vars h u w s = if is_sym u w then (u, s) else make types vars (is_merged h u w) s

-- ---- parts of a walk

-- the walk follows the rule from any state that it kept
abbrev pub Leads : Walker → Walker → (State → State) → Type 0
Leads old new go = (next wanted : ℕ) (s : State) → old ≡ shown next wanted s → new ≡ shown next wanted (go s)

-- the same of a rule that asks where it is reached
abbrev pub Follows : Formula → Walker → Walker → (Text → State → State) → Type 0
Follows reached old new go = (next wanted : ℕ) (text : Text) (s : State) → reached ≡ text next → old ≡ shown next wanted s →
    new ≡ shown next wanted (go text s)

-- and that gets a value
abbrev pub Gets : Formula → Walker → Walker → Sym → (Text → State → Got) → Type 0
Gets reached old new value go = (next wanted : ℕ) (text : Text) (s : State) → reached ≡ text next → old ≡ shown next wanted s →
    (value ≡ (go text s).0) × (new ≡ shown next wanted ((go text s).1))

-- or a truth value
abbrev pub Tells : Formula → Walker → Walker → Formula → (Text → State → Told) → Type 0
Tells reached old new formula go = (next wanted : ℕ) (text : Text) (s : State) → reached ≡ text next → old ≡ shown next wanted s →
    (formula ≡ ((go text s).0) next) × (new ≡ shown next wanted ((go text s).1))

-- the same where the rule asks nothing
abbrev pub Makes : Walker → Walker → Sym → (State → Got) → Type 0
Makes old new value go = (next wanted : ℕ) (s : State) → old ≡ shown next wanted s →
    (value ≡ (go s).0) × (new ≡ shown next wanted ((go s).1))
