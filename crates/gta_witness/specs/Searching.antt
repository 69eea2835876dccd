-- What a search for least weights has found, and what it keeps. (Dijkstra 1959; Knuth 1977.)
use Rattle.std.specs.Prelude.{◌≡◌, ℕ, ◌+◌, ◌<◌, ◌≤◌, if◌then◌else◌, Bool, true, false, List, [], ◌∷◌, Option, Some, None, MatchOption, Contains}
use Rattle.std.specs.Prelude.{nat_eq, slice_get, unwrap_or}
use Rattle.std.specs.Ordering.{on, nat_cmp}
use Rattle.std.specs.declared.hash.FoldHasher.{FoldHasher}
use Rattle.std.specs.declared.hash.BuildHasherDefault.{BuildHasherDefault}
use Rattle.std.specs.HashMap.{get}
use Rattle.std.specs.HashSet.{contains, HashSet}
use Rattle.std.specs.BinaryHeap.{heap_items, IsHeap}
use Rattle.gta_reach.specs.declared.form.FormSpace.{FormSpace}
use Rattle.gta_reach.specs.declared.form.Form.{Form}
use Rattle.gta_reach.specs.Form.{automaton_of}
use Rattle.gta_witness.specs.declared.goal.Goal.{Goal}
use Rattle.gta_witness.specs.declared.goal.Goal.TheVariants.{State, Row, Column}
use Rattle.gta_witness.specs.declared.goal.Reason.{Reason}
use Rattle.gta_witness.specs.declared.goal.Weight.{Weight}
use Rattle.gta_witness.specs.declared.goal.Found.{Found}
use Rattle.gta_witness.specs.declared.goal.Waiting.{Waiting}
use Rattle.gta_witness.specs.declared.relax.Search.{Search}
use Rattle.gta_witness.specs.declared.expand.Lines.{Lines}
use Rattle.gta_witness.specs.declared.search.Turn.{Turn}
use Rattle.gta_witness.specs.declared.search.Turn.TheVariants.{More, Over, Accepting}
use Rattle.gta_witness.specs.contracts.goal.GoalPartialEq.TheImpl as goal_eq
use Rattle.gta_witness.specs.Rules.{Rule, key, nothing, together}
use Rattle.gta_witness.specs.Deriving.{IsDerived}

abbrev pub same_goal : Goal → Goal → Bool
same_goal = (goal_eq.ghosts).eq

-- what is found for each goal
abbrev pub Findings : Type 0
Findings = Goal → Option Found

-- what a search has found
abbrev pub found_by : Search → Findings
found_by search goal = get same_goal search.found goal

-- the weight of what is settled
abbrev pub settled_weight : Option Found → Option Weight
settled_weight None = None
settled_weight (Some entry) = if entry.is_settled then Some entry.weight else None

-- what is found, if anything, weighs more
abbrev pub IsHigher : Option Found → Weight → Type 0
IsHigher entry w = MatchOption entry (Unit {0}) (λ found. key w < key found.weight)

-- whether a track is in the set
abbrev pub weighs_in : HashSet ℕ (BuildHasherDefault FoldHasher) → ℕ → Bool
weighs_in weighed t = contains nat_eq weighed t

-- the goal is settled at that weight
pub record IsSettled (found : Findings) (goal : Goal) (w : Weight) : Type 0 where
  pub entry : Found
  pub there : found goal ≡ Some entry
  pub settled : entry.is_settled ≡ true
  pub weighs : entry.weight ≡ w

-- a weight is found for the goal that is no higher
pub record IsCovered (found : Findings) (goal : Goal) (w : Weight) : Type 0 where
  pub entry : Found
  pub there : found goal ≡ Some entry
  pub no_higher : key entry.weight ≤ key w

-- all premises are settled, and weigh so much together
abbrev pub Totals : Findings → List Goal → Weight → Type 0
Totals found [] w = nothing ≡ w
Totals found (goal ∷ goals) w = (u : Weight) × (v : Weight) × IsSettled found goal u × Totals found goals v × (together u v ≡ w)

-- the entry's weight comes by a rule from settled premises
pub record IsJustified (form : Form) (weighs : ℕ → Bool) (found : Findings) (goal : Goal) (reason : Reason) (w : Weight) : Type 0 where
  pub premises : List Goal
  pub cost : Weight → Weight
  pub total : Weight
  pub rule : Rule form weighs premises cost goal reason
  pub totals : Totals found premises total
  pub weighs_so : cost total ≡ w

-- the rule's goal is covered wherever its premises are settled
abbrev pub IsFollowed : Findings → List Goal → (Weight → Weight) → Goal → Type 0
IsFollowed found premises cost goal = (total : Weight) → Totals found premises total → IsCovered found goal (cost total)

-- every rule is followed
abbrev pub IsClosed : Form → (ℕ → Bool) → Findings → Type 0
IsClosed form weighs found = (premises : List Goal) (cost : Weight → Weight) (goal : Goal) (reason : Reason) →
    Rule form weighs premises cost goal reason → IsFollowed found premises cost goal

-- every rule is followed that the goal is a premise of
abbrev pub IsExpanded : Form → (ℕ → Bool) → Findings → Goal → Type 0
IsExpanded form weighs found premise = (premises : List Goal) (cost : Weight → Weight) (goal : Goal) (reason : Reason) →
    Rule form weighs premises cost goal reason → Contains premises premise → IsFollowed found premises cost goal

-- the goal waits at that weight
pub record Waits (queue : List Waiting) (goal : Goal) (w : Weight) : Type 0 where
  pub waiting : Waiting
  pub there : Contains queue waiting
  pub is_goal : waiting.goal ≡ goal
  pub near : waiting.nearness + key w ≡ 340282366920938463463374607431768211455

-- what is found is justified; what is settled comes by the rules, and weighs no more than the weight that the search has
-- come to, and what waits no less; and what isn't settled waits
pub record IsSound (form : Form) (weighs : ℕ → Bool) (now : ℕ) (found : Findings) (queue : List Waiting) : Type 0 where
  pub justified : (goal : Goal) (entry : Found) → found goal ≡ Some entry → IsJustified form weighs found goal entry.reason entry.weight
  pub derived : (goal : Goal) (w : Weight) → IsSettled found goal w → IsDerived form weighs goal w
  pub passed : (goal : Goal) (w : Weight) → IsSettled found goal w → key w ≤ now
  pub waits : (goal : Goal) (entry : Found) → found goal ≡ Some entry → entry.is_settled ≡ false → Waits queue goal entry.weight
  pub ahead : (waiting : Waiting) → Contains queue waiting → now + waiting.nearness ≤ 340282366920938463463374607431768211455

-- the search is sound, and its queue is in order
pub record IsSearch (form : Form) (weighs : ℕ → Bool) (now : ℕ) (search : Search) : Type 0 where
  pub sound : IsSound form weighs now (found_by search) (heap_items search.queue)
  pub heap : IsHeap (on (λ waiting. waiting.nearness) nat_cmp) (heap_items search.queue)

-- weights were found and lowered, and the same goals are settled
pub record Improves (old new : Findings) : Type 0 where
  pub covered : (goal : Goal) (w : Weight) → IsCovered old goal w → IsCovered new goal w
  pub settled : (goal : Goal) (w : Weight) → IsSettled old goal w → IsSettled new goal w
  pub no_more : (goal : Goal) (w : Weight) → IsSettled new goal w → IsSettled old goal w

-- a sound search went on to a sound one
pub record GoesOn (form : Form) (weighs : ℕ → Bool) (now : ℕ) (old new : Search) : Type 0 where
  pub is_search : IsSearch form weighs now new
  pub improves : Improves (found_by old) (found_by new)

-- the list of a space
abbrev pub list_at : List (List ℕ) → ℕ → List ℕ
list_at lists t = unwrap_or (slice_get lists t) []

-- the settled classes are listed
pub record AreListed (found : Findings) (rows columns : List (List ℕ)) : Type 0 where
  pub row : (t class : ℕ) (w : Weight) → IsSettled found (Row t class) w → Contains (list_at rows t) class
  pub column : (t class : ℕ) (w : Weight) → IsSettled found (Column t class) w → Contains (list_at columns t) class

-- no accepting state is settled below that weight; without a weight none at all
abbrev pub NoneLighter : Form → Findings → Option ℕ → Type 0
NoneLighter form found bound = (q : ℕ) (w : Weight) → (automaton_of form).accepting q ≡ true → IsSettled found (State 0 q) w →
    MatchOption bound ⊥ (λ b. b ≤ key w)

-- the search goes on: it is sound, all rules are followed, and no accepting state is settled
pub record Running (form : Form) (weighs : ℕ → Bool) (now : ℕ) (lines : Lines) (search : Search) : Type 0 where
  pub is_search : IsSearch form weighs now search
  pub closed : IsClosed form weighs (found_by search)
  pub listed : AreListed (found_by search) lines.rows.items lines.columns.items
  pub none : NoneLighter form (found_by search) None

-- the search has ended, with a bound: all rules are followed, what is settled comes by them, what isn't weighs no less than
-- the bound, and no accepting state weighs less; without a bound all is settled, and nothing accepting
pub record IsOver (form : Form) (weighs : ℕ → Bool) (found : Findings) (bound : Option ℕ) : Type 0 where
  pub justified : (goal : Goal) (entry : Found) → found goal ≡ Some entry → IsJustified form weighs found goal entry.reason entry.weight
  pub derived : (goal : Goal) (w : Weight) → IsSettled found goal w → IsDerived form weighs goal w
  pub closed : IsClosed form weighs found
  pub others : (goal : Goal) (entry : Found) → found goal ≡ Some entry → entry.is_settled ≡ false →
      MatchOption bound ⊥ (λ b. b ≤ key entry.weight)
  pub none : NoneLighter form found bound

-- an accepting state of space 0 is settled at that weight
pub record IsAcceptingAt (form : Form) (found : Findings) (q : ℕ) (w : Weight) : Type 0 where
  pub accepting : (automaton_of form).accepting q ≡ true
  pub settled : IsSettled found (State 0 q) w

-- what stands after a turn
abbrev pub Stands : Form → (ℕ → Bool) → Lines → Search → Turn → Type 0
Stands form weighs lines search More = (now : ℕ) × Running form weighs now lines search
Stands form weighs lines search Over = IsOver form weighs (found_by search) None
Stands form weighs lines search (Accepting q w) =
    IsOver form weighs (found_by search) (Some (key w)) × IsAcceptingAt form (found_by search) q w

-- what stands at the end
abbrev pub Ends : Form → (ℕ → Bool) → Search → Option (ℕ × Weight) → Type 0
Ends form weighs search None = IsOver form weighs (found_by search) None
Ends form weighs search (Some found) =
    IsOver form weighs (found_by search) (Some (key found.1)) × IsAcceptingAt form (found_by search) found.0 found.1

-- the search begins: initial states weigh nothing, and nothing is settled
pub record IsStart (form : Form) (weighs : ℕ → Bool) (search : Search) : Type 0 where
  pub is_search : IsSearch form weighs 0 search
  pub initial : (s : ℕ) (space : FormSpace) → slice_get form.spaces s ≡ Some space → IsCovered (found_by search) (State s space.initial) nothing
  pub none : (goal : Goal) (w : Weight) → IsSettled (found_by search) goal w → ⊥

-- a goal was taken from the queue: it isn't settled, what is settled weighs no more, and what waits no less
pub record IsTaken (form : Form) (weighs : ℕ → Bool) (lines : Lines) (search : Search) (goal : Goal) (entry : Found) : Type 0 where
  pub there : found_by search goal ≡ Some entry
  pub unsettled : entry.is_settled ≡ false
  pub justified : (g : Goal) (e : Found) → found_by search g ≡ Some e → IsJustified form weighs (found_by search) g e.reason e.weight
  pub derived : (g : Goal) (w : Weight) → IsSettled (found_by search) g w → IsDerived form weighs g w
  pub passed : (g : Goal) (w : Weight) → IsSettled (found_by search) g w → key w ≤ key entry.weight
  pub waits : (g : Goal) (e : Found) → found_by search g ≡ Some e → e.is_settled ≡ false → same_goal goal g ≡ false →
      Waits (heap_items search.queue) g e.weight
  pub ahead : (waiting : Waiting) → Contains (heap_items search.queue) waiting → key entry.weight + waiting.nearness ≤ 340282366920938463463374607431768211455
  pub heap : IsHeap (on (λ waiting. waiting.nearness) nat_cmp) (heap_items search.queue)
  pub closed : IsClosed form weighs (found_by search)
  pub listed : AreListed (found_by search) lines.rows.items lines.columns.items
  pub none : NoneLighter form (found_by search) None

-- a class came into the list of a space
pub record AddsTo (old new : List (List ℕ)) (space class : ℕ) : Type 0 where
  pub kept : (t c : ℕ) → Contains (list_at old t) c → Contains (list_at new t) c
  pub added : Contains (list_at new space) class

-- what was listed is listed, and the goal, if it is a class
pub record AddsLine (old new : Lines) (goal : Goal) : Type 0 where
  pub kept_row : (t c : ℕ) → Contains (list_at old.rows.items t) c → Contains (list_at new.rows.items t) c
  pub kept_column : (t c : ℕ) → Contains (list_at old.columns.items t) c → Contains (list_at new.columns.items t) c
  pub row : (t c : ℕ) → goal ≡ Row t c → Contains (list_at new.rows.items t) c
  pub column : (t c : ℕ) → goal ≡ Column t c → Contains (list_at new.columns.items t) c

-- the accepting state of space 0 that the goal is; none where it is none
abbrev pub AcceptsAt : Form → Goal → Option ℕ → Type 0
AcceptsAt form goal None = (q : ℕ) → goal ≡ State 0 q → (automaton_of form).accepting q ≡ false
AcceptsAt form goal (Some q) = (goal ≡ State 0 q) × ((automaton_of form).accepting q ≡ true)
