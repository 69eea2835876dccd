-- What the way up from a settled state meets is there.
use Rattle.std.proofs.Common.{◌≡◌, ℕ, ◌<◌, Bool, List, Some, refl, subst, ◌∙◌, slice_get, length}
use Rattle.bdd_list.specs.declared.listing.Listed.{Listed}
use Rattle.bdd_list.specs.declared.listing.Listed.TheVariants.{Leaf, Inner}
use Rattle.ws2s_core.specs.declared.track.Track.{Track}
use Rattle.gta_reach.specs.declared.form.FormSpace.{FormSpace}
use Rattle.gta_reach.specs.declared.form.Form.{Form}
use Rattle.gta_witness.specs.declared.goal.Goal.{Goal}
use Rattle.gta_witness.specs.declared.goal.Goal.TheVariants.{Row, Column}
use Rattle.gta_witness.specs.declared.goal.Weight.{Weight}
use Rattle.gta_witness.specs.declared.goal.Reason.{Reason}
use Rattle.gta_witness.specs.declared.goal.Reason.TheVariants.{Member, Cell, Side}
use Rattle.gta_witness.specs.Lightest.{is_among}
use Rattle.gta_witness.specs.Rules.{Rule, initial, row, column, cell, low, high, goal_at}
use Rattle.gta_witness.specs.Searching.{Findings, IsSettled, Totals, IsJustified}
use Rattle.gta_witness.specs.Reading.{IsReadable, HasReason, Climbs}
use Rattle.gta_witness.proofs.ReadLemmas.{goal_at-same, justified-by, side-before}

module _ (form : Form) (tracks : List Track) (found : Findings) (readable : IsReadable form tracks found) where
  module _ (s q : ℕ) (w : Weight) (goal : Goal) (taken : List Track) (climbs : Climbs form tracks found s q w goal taken) where
    -- no state and no node has its weight by a state of a class
    pub no-member : (l : ℕ) → HasReason found goal (Member l) → ⊥
    no-member l has = by (justified-by form tracks found readable s q w goal taken climbs (Member l) has)
      where
        no-row : (t class : ℕ) (x : Listed) → Row t class ≡ goal_at s x → ⊥
        no-row t class (Leaf q) e = cc
        no-row t class (Inner i) e = cc

        no-column : (t class : ℕ) (x : Listed) → Column t class ≡ goal_at s x → ⊥
        no-column t class (Leaf q) e = cc
        no-column t class (Inner i) e = cc

        pick : (premises : List Goal) (cost : Weight → Weight) (g : Goal) (reason : Reason) → Rule form (is_among tracks) premises cost g reason →
            g ≡ goal → reason ≡ Member l → ⊥
        pick _ _ _ _ (initial t space at) e r = cc
        pick _ _ _ _ (row t q' class space at at_class) e r = no-row t class climbs.listed (e ∙ climbs.is_goal)
        pick _ _ _ _ (column t q' class space at at_class) e r = no-column t class climbs.listed (e ∙ climbs.is_goal)
        pick _ _ _ _ (cell t k c at space listed at_space at_cell at_root) e r = cc
        pick _ _ _ _ (low t k space node at_space at) e r = cc
        pick _ _ _ _ (high t k space node at_space at) e r = cc

        by : IsJustified form (is_among tracks) found goal (Member l) climbs.weight → ⊥
        by j = pick j.premises j.cost goal (Member l) j.rule refl refl

    -- the classes of a cell are settled
    pub cell-settled : (k c : ℕ) → HasReason found goal (Cell k c) →
        ((u : Weight) × IsSettled found (Row s k) u) × ((v : Weight) × IsSettled found (Column s c) v)
    cell-settled k c has = by (justified-by form tracks found readable s q w goal taken climbs (Cell k c) has)
      where
        pick : (premises : List Goal) (cost : Weight → Weight) (g : Goal) (reason : Reason) (total : Weight) →
            Rule form (is_among tracks) premises cost g reason → Totals found premises total → g ≡ goal → reason ≡ Cell k c →
            ((u : Weight) × IsSettled found (Row s k) u) × ((v : Weight) × IsSettled found (Column s c) v)
        pick _ _ _ _ total (initial t space at) totals e is = absurd cc
        pick _ _ _ _ total (row t q' class space at at_class) totals e is = absurd cc
        pick _ _ _ _ total (column t q' class space at at_class) totals e is = absurd cc
        pick _ _ _ _ total (low t i space node at_space at) totals e is = absurd cc
        pick _ _ _ _ total (high t i space node at_space at) totals e is = absurd cc
        pick _ _ _ _ total (cell t k' c' at space listed at_space at_cell at_root) totals e is =
            let same = goal_at-same t s listed climbs.listed (e ∙ climbs.is_goal) in
            let is_k : k' ≡ k = cc in
            let is_c : c' ≡ c = cc in (
              (
                totals.0,
                subst (λ (x : ℕ). IsSettled found (Row x k) totals.0) same.0 (subst (λ (x : ℕ). IsSettled found (Row t x) totals.0) is_k totals.2),
              ),
              (
                totals.3.0,
                subst (λ (x : ℕ). IsSettled found (Column x c) totals.3.0) same.0
                    (subst (λ (x : ℕ). IsSettled found (Column t x) totals.3.0) is_c totals.3.2),
              ),
            )

        by : IsJustified form (is_among tracks) found goal (Cell k c) climbs.weight →
            ((u : Weight) × IsSettled found (Row s k) u) × ((v : Weight) × IsSettled found (Column s c) v)
        by j = pick j.premises j.cost goal (Cell k c) j.total j.rule j.totals refl refl

    -- a side's node is there
    pub side-there : (i : ℕ) (is_high : Bool) → HasReason found goal (Side i is_high) →
        (space : FormSpace) × (slice_get form.spaces s ≡ Some space) × (i < length space.listing.nodes)
    side-there i is_high has = (climbs.space, climbs.at_space, (side-before form tracks found readable s q w goal taken climbs i is_high has).1)

  -- a class has its weight by a state
  pub row-member : (t class : ℕ) (u : Weight) → IsSettled found (Row t class) u → (l : ℕ) × HasReason found (Row t class) (Member l)
  row-member t class u settled =
      let j = readable.justified (Row t class) settled.entry settled.there in
      let l = pick j.premises j.cost (Row t class) settled.entry.reason j.rule refl in
      (l.0, record { entry = settled.entry; there = settled.there; is_reason = l.1 })
    where
      other : (s : ℕ) (x : Listed) → goal_at s x ≡ Row t class → ⊥
      other s (Leaf p) e = cc
      other s (Inner i) e = cc

      pick : (premises : List Goal) (cost : Weight → Weight) (g : Goal) (reason : Reason) → Rule form (is_among tracks) premises cost g reason →
          g ≡ Row t class → (l : ℕ) × (reason ≡ Member l)
      pick _ _ _ _ (initial s space at) e = absurd cc
      pick _ _ _ _ (row s q class' space at at_class) e = (q, refl)
      pick _ _ _ _ (column s q class' space at at_class) e = absurd cc
      pick _ _ _ _ (cell s k c at space listed at_space at_cell at_root) e = absurd (other s listed e)
      pick _ _ _ _ (low s i space node at_space at) e = absurd (other s node.low e)
      pick _ _ _ _ (high s i space node at_space at) e = absurd (other s node.high e)

  pub column-member : (t class : ℕ) (u : Weight) → IsSettled found (Column t class) u → (l : ℕ) × HasReason found (Column t class) (Member l)
  column-member t class u settled =
      let j = readable.justified (Column t class) settled.entry settled.there in
      let l = pick j.premises j.cost (Column t class) settled.entry.reason j.rule refl in
      (l.0, record { entry = settled.entry; there = settled.there; is_reason = l.1 })
    where
      other : (s : ℕ) (x : Listed) → goal_at s x ≡ Column t class → ⊥
      other s (Leaf p) e = cc
      other s (Inner i) e = cc

      pick : (premises : List Goal) (cost : Weight → Weight) (g : Goal) (reason : Reason) → Rule form (is_among tracks) premises cost g reason →
          g ≡ Column t class → (l : ℕ) × (reason ≡ Member l)
      pick _ _ _ _ (initial s space at) e = absurd cc
      pick _ _ _ _ (row s q class' space at at_class) e = absurd cc
      pick _ _ _ _ (column s q class' space at at_class) e = (q, refl)
      pick _ _ _ _ (cell s k c at space listed at_space at_cell at_root) e = absurd (other s listed e)
      pick _ _ _ _ (low s i space node at_space at) e = absurd (other s node.low e)
      pick _ _ _ _ (high s i space node at_space at) e = absurd (other s node.high e)
