-- What follows from a settled goal is covered.
use Rattle.std.proofs.Common.{◌≡◌, ℕ, ◌+◌, ◌*◌, Bool, true, false, cond, [], ◌∷◌, Option, Some, None, inl, inr, ◌⊎◌, length}
use Rattle.std.proofs.Common.{refl, sym, ap, subst, ◌∙◌, arith, Contains, slice_get}
use Rattle.std.proofs.lemmas.Bool.{cases_lt}
use Rattle.std.proofs.lemmas.Option.{slice_get_within}
use Rattle.gta_theory.proofs.ListsLemmas.{Contains-cases, Contains-none}
use Rattle.bdd_list.specs.declared.listing.Listed.{Listed}
use Rattle.bdd_list.specs.declared.listing.ListedNode.{ListedNode}
use Rattle.gta_reach.specs.declared.form.FormSpace.{FormSpace}
use Rattle.gta_reach.specs.declared.form.Form.{Form}
use Rattle.gta_witness.specs.declared.goal.Goal.{Goal}
use Rattle.gta_witness.specs.declared.goal.Goal.TheVariants.{State, Node, Row, Column}
use Rattle.gta_witness.specs.declared.goal.Reason.TheVariants.{Member, Cell, Side}
use Rattle.gta_witness.specs.declared.goal.Weight.{Weight}
use Rattle.gta_witness.specs.declared.goal.Found.{Found}
use Rattle.gta_witness.specs.Rules.{initial, row, column, cell, low, high, goal_at, bit_cost, nothing, together, with_node, with_bits}
use Rattle.gta_witness.specs.Searching.{Findings, IsSettled, IsCovered, Totals, IsJustified, IsExpanded, Improves, settled_weight}
use Rattle.gta_witness.specs.Following.{FollowsRow, FollowsColumn, FollowsState, FollowsCell, FollowsNode}
use Rattle.gta_witness.proofs.SearchLemmas.{settled-once, together-nothing, one-premise}

same-some : {X : Type 0} (o : Option X) (x y : X) → o ≡ Some x → o ≡ Some y → x ≡ y
same-some o x y one other = let e : Some x ≡ Some y = sym one ∙ other in cc

pub Contains-one : {X : Type 0} (x y : X) → Contains (x ∷ []) y → x ≡ y
Contains-one x y there = elim (Contains-cases x y [] there) [
  | inl same ↦ same
  | inr none ↦ absurd (Contains-none y none)
]

pub Contains-two : {X : Type 0} (x z y : X) → Contains (x ∷ z ∷ []) y → (x ≡ y) ⊎ (z ≡ y)
Contains-two x z y there = elim (Contains-cases x y (z ∷ []) there) [
  | inl same ↦ inl same
  | inr one ↦ inr (Contains-one z y one)
]

-- what is settled, by its weight
pub IsSettled-weight : (found : Findings) (goal : Goal) (w : Weight) → Some w ≡ settled_weight (found goal) → IsSettled found goal w
IsSettled-weight found goal w is = pick (found goal) refl
  where
    by : (entry : Found) (b : Bool) → entry.is_settled ≡ b → found goal ≡ Some entry →
        Some w ≡ settled_weight (Some entry) → IsSettled found goal w
    by entry true e there some =
        let same : settled_weight (Some entry) ≡ Some entry.weight = ap (λ (c : Bool). cond c (Some entry.weight) None) e in
        record { entry = entry; there = there; settled = e; weighs = let d : Some w ≡ Some entry.weight = some ∙ same in cc }
    by entry false e there some =
        let same : settled_weight (Some entry) ≡ None = ap (λ (c : Bool). cond c (Some entry.weight) None) e in
        absurd (let d : Some w ≡ None = some ∙ same in cc)

    pick : (o : Option Found) → found goal ≡ o → IsSettled found goal w
    pick None there = absurd (let d : Some w ≡ None = is ∙ ap settled_weight there in cc)
    pick (Some entry) there = by entry entry.is_settled refl there (is ∙ ap settled_weight there)

module _ (form : Form) (weighs : ℕ → Bool) where
  pub row-justified : (found : Findings) (t s q class : ℕ) (w : Weight) (space : FormSpace) → slice_get form.spaces t ≡ Some space → space.children.0 ≡ s →
      slice_get space.rows q ≡ Some class → IsSettled found (State s q) w → IsJustified form weighs found (Row t class) (Member q) w
  row-justified found t s q class w space at child at_class settled = record {
    premises = State space.children.0 q ∷ [];
    cost = λ x. x;
    total = w;
    rule = row t q class space at at_class;
    totals = (w, nothing, subst (λ (k : ℕ). IsSettled found (State k q) w) (sym child) settled, refl, together-nothing w);
    weighs_so = refl;
  }

  pub column-justified : (found : Findings) (t s q class : ℕ) (w : Weight) (space : FormSpace) → slice_get form.spaces t ≡ Some space → space.children.1 ≡ s →
      slice_get space.columns q ≡ Some class → IsSettled found (State s q) w → IsJustified form weighs found (Column t class) (Member q) w
  column-justified found t s q class w space at child at_class settled = record {
    premises = State space.children.1 q ∷ [];
    cost = λ x. x;
    total = w;
    rule = column t q class space at at_class;
    totals = (w, nothing, subst (λ (k : ℕ). IsSettled found (State k q) w) (sym child) settled, refl, together-nothing w);
    weighs_so = refl;
  }

  pub cell-justified : (found : Findings) (t r c at : ℕ) (u v w : Weight) (space : FormSpace) (listed : Listed) (goal : Goal) →
      slice_get form.spaces t ≡ Some space →
      slice_get space.cells (r * space.width + c) ≡ Some at → slice_get space.listing.roots at ≡ Some listed → goal ≡ goal_at t listed →
      IsSettled found (Row t r) u → IsSettled found (Column t c) v → with_node (together u v) ≡ w → IsJustified form weighs found goal (Cell r c) w
  cell-justified found t r c at u v w space listed goal at_space at_cell at_root is_goal of_row of_column sum =
      subst (λ (x : Goal). IsJustified form weighs found x (Cell r c) w) (sym is_goal) (record {
        premises = Row t r ∷ Column t c ∷ [];
        cost = with_node;
        total = together u v;
        rule = cell t r c at space listed at_space at_cell at_root;
        totals = (u, v, of_row, (v, nothing, of_column, refl, together-nothing v), refl);
        weighs_so = sum;
      })

  pub low-justified : (found : Findings) (t i : ℕ) (w : Weight) (space : FormSpace) (node : ListedNode) (goal : Goal) → slice_get form.spaces t ≡ Some space →
      slice_get space.listing.nodes i ≡ Some node → goal ≡ goal_at t node.low → IsSettled found (Node t i) w →
      IsJustified form weighs found goal (Side i false) w
  low-justified found t i w space node goal at_space at is_goal settled =
      subst (λ (x : Goal). IsJustified form weighs found x (Side i false) w) (sym is_goal) (record {
        premises = Node t i ∷ [];
        cost = λ x. x;
        total = w;
        rule = low t i space node at_space at;
        totals = (w, nothing, settled, refl, together-nothing w);
        weighs_so = refl;
      })

  pub high-justified : (found : Findings) (t i : ℕ) (w all : Weight) (space : FormSpace) (node : ListedNode) (goal : Goal) →
      slice_get form.spaces t ≡ Some space →
      slice_get space.listing.nodes i ≡ Some node → goal ≡ goal_at t node.high → with_bits (bit_cost weighs node.track) w ≡ all → IsSettled found (Node t i) w →
      IsJustified form weighs found goal (Side i true) all
  high-justified found t i w all space node goal at_space at is_goal sum settled =
      subst (λ (x : Goal). IsJustified form weighs found x (Side i true) all) (sym is_goal) (record {
        premises = Node t i ∷ [];
        cost = with_bits (bit_cost weighs node.track);
        total = w;
        rule = high t i space node at_space at;
        totals = (w, nothing, settled, refl, together-nothing w);
        weighs_so = sum;
      })

  pub row-follows : (found : Findings) (t s q class : ℕ) (w : Weight) (space : FormSpace) → slice_get form.spaces t ≡ Some space →
      slice_get space.rows q ≡ Some class → IsCovered found (Row t class) w → FollowsRow form found t s q w
  row-follows found t s q class w space at at_class covered = λ class' space' at' child at_class'.
      let same = same-some (slice_get form.spaces t) space space' at at' in
      let here : slice_get space.rows q ≡ Some class' = ap (λ (p : FormSpace). slice_get p.rows q) same ∙ at_class' in
      subst (λ (k : ℕ). IsCovered found (Row t k) w) (same-some (slice_get space.rows q) class class' at_class here) covered

  pub column-follows : (found : Findings) (t s q class : ℕ) (w : Weight) (space : FormSpace) → slice_get form.spaces t ≡ Some space →
      slice_get space.columns q ≡ Some class → IsCovered found (Column t class) w → FollowsColumn form found t s q w
  column-follows found t s q class w space at at_class covered = λ class' space' at' child at_class'.
      let same = same-some (slice_get form.spaces t) space space' at at' in
      let here : slice_get space.columns q ≡ Some class' = ap (λ (p : FormSpace). slice_get p.columns q) same ∙ at_class' in
      subst (λ (k : ℕ). IsCovered found (Column t k) w) (same-some (slice_get space.columns q) class class' at_class here) covered

  pub cell-follows : (old found : Findings) (t r c at : ℕ) (u v w : Weight) (space : FormSpace) (listed : Listed) (goal : Goal) →
      slice_get form.spaces t ≡ Some space →
      slice_get space.cells (r * space.width + c) ≡ Some at → slice_get space.listing.roots at ≡ Some listed → goal ≡ goal_at t listed →
      IsSettled old (Row t r) u → IsSettled old (Column t c) v → with_node (together u v) ≡ w → Improves old found → IsCovered found goal w →
      FollowsCell form found t r c
  cell-follows old found t r c at u v w space listed goal at_space at_cell at_root is_goal of_row of_column sum improves covered =
      λ at' space' listed' u' v' at_space' at_cell' at_root' of_row' of_column'.
      let same = same-some (slice_get form.spaces t) space space' at_space at_space' in
      let here : slice_get space.cells (r * space.width + c) ≡ Some at' = ap (λ (p : FormSpace). slice_get p.cells (r * p.width + c)) same ∙ at_cell' in
      let same_at = same-some (slice_get space.cells (r * space.width + c)) at at' at_cell here in
      let root : slice_get space.listing.roots at ≡ Some listed' =
      ap (λ (p : FormSpace). slice_get p.listing.roots at) same ∙ ap (slice_get space'.listing.roots) same_at ∙ at_root' in
      let same_listed = same-some (slice_get space.listing.roots at) listed listed' at_root root in
      let e = settled-once old (Row t r) u u' of_row (improves.no_more (Row t r) u' of_row') in
      let f = settled-once old (Column t c) v v' of_column (improves.no_more (Column t c) v' of_column') in
      let sum : w ≡ with_node (together u' v') = sym sum ∙ ap (λ (x : Weight). with_node (together x v)) e ∙ ap (λ (x : Weight). with_node (together u' x)) f in
      subst (IsCovered found (goal_at t listed')) sum
      (subst (λ (x : Listed). IsCovered found (goal_at t x) w) same_listed (subst (λ (x : Goal). IsCovered found x w) is_goal covered))

  pub node-follows : (mid found : Findings) (t i : ℕ) (w all : Weight) (space : FormSpace) (node : ListedNode) (one other : Goal) →
      slice_get form.spaces t ≡ Some space →
      slice_get space.listing.nodes i ≡ Some node → one ≡ goal_at t node.low → other ≡ goal_at t node.high → with_bits (bit_cost weighs node.track) w ≡ all →
      Improves mid found → IsCovered mid one w → IsCovered found other all → FollowsNode form weighs found t i w
  node-follows mid found t i w all space node one other at_space at is_low is_high sum improves in_low in_high = record {
    low = λ space' node' at_space' at'.
        subst (λ (n : ListedNode). IsCovered found (goal_at t n.low) w) (same-node space' node' at_space' at')
        (subst (λ (x : Goal). IsCovered found x w) is_low (improves.covered one w in_low));
    high = λ space' node' at_space' at'.
        subst (λ (n : ListedNode). IsCovered found (goal_at t n.high) (with_bits (bit_cost weighs n.track) w)) (same-node space' node' at_space' at')
        (subst (λ (k : Weight). IsCovered found (goal_at t node.high) k) (sym sum) (subst (λ (x : Goal). IsCovered found x all) is_high in_high));
  }
    where
      same-node : (space' : FormSpace) (node' : ListedNode) → slice_get form.spaces t ≡ Some space' → slice_get space'.listing.nodes i ≡ Some node' →
          node ≡ node'
      same-node space' node' at_space' at' =
          same-some (slice_get space.listing.nodes i) node node' at
          (ap (λ (p : FormSpace). slice_get p.listing.nodes i) (same-some (slice_get form.spaces t) space space' at_space at_space') ∙ at')

  pub FollowsState-more : (old mid new : Findings) (t s q : ℕ) (w : Weight) → FollowsState form old t s q w → Improves old mid → FollowsRow form mid t s q w →
      Improves mid new → FollowsColumn form new t s q w → FollowsState form new (t + 1) s q w
  FollowsState-more old mid new t s q w so_far first of_row second of_column = record {
    row = λ k below class space at child at_class. elim (cases_lt k t) [
      | inl before ↦ second.covered (Row k class) w (first.covered (Row k class) w (so_far.row k (omega arith) class space at child at_class))
      | inr here ↦
          let e : k ≡ t = omega arith in
          let at_t : slice_get form.spaces t ≡ Some space = ap (slice_get form.spaces) (sym e) ∙ at in
          subst (λ (j : ℕ). IsCovered new (Row j class) w) (sym e) (second.covered (Row t class) w (of_row class space at_t child at_class))
    ];
    column = λ k below class space at child at_class. elim (cases_lt k t) [
      | inl before ↦ second.covered (Column k class) w (first.covered (Column k class) w (so_far.column k (omega arith) class space at child at_class))
      | inr here ↦
          let e : k ≡ t = omega arith in
          let at_t : slice_get form.spaces t ≡ Some space = ap (slice_get form.spaces) (sym e) ∙ at in
          subst (λ (j : ℕ). IsCovered new (Column j class) w) (sym e) (of_column class space at_t child at_class)
    ];
  }

  pub FollowsState-none : (found : Findings) (s q : ℕ) (w : Weight) → FollowsState form found 0 s q w
  FollowsState-none found s q w = record {
    row = λ t below. absurd (omega arith);
    column = λ t below. absurd (omega arith);
  }

  -- all rules that a goal is a premise of
  module _ (found : Findings) where
    one-total : (goal : Goal) (w total : Weight) → IsSettled found goal w → Totals found (goal ∷ []) total → w ≡ total
    one-total goal w total settled totals =
        settled-once found goal w totals.0 settled totals.2 ∙ one-premise found goal total totals

    pub state-expanded : (s q : ℕ) (w : Weight) → IsSettled found (State s q) w → FollowsState form found (length form.spaces) s q w →
        IsExpanded form weighs found (State s q)
    state-expanded s q w settled follows _ _ _ _ (initial _ _ _) there total totals = absurd (Contains-none (State s q) there)
    state-expanded s q w settled follows _ _ _ _ (row t q' class space at at_class) there total totals =
        let same = Contains-one (State space.children.0 q') (State s q) there in
        let child : space.children.0 ≡ s = cc in
        let is_q : q' ≡ q = cc in
        subst (IsCovered found (Row t class)) (one-total (State s q) w total settled (subst (λ (g : Goal). Totals found (g ∷ []) total) same totals))
        (follows.row t (slice_get_within form.spaces t space at) class space at child (ap (slice_get space.rows) (sym is_q) ∙ at_class))
    state-expanded s q w settled follows _ _ _ _ (column t q' class space at at_class) there total totals =
        let same = Contains-one (State space.children.1 q') (State s q) there in
        let child : space.children.1 ≡ s = cc in
        let is_q : q' ≡ q = cc in
        subst (IsCovered found (Column t class)) (one-total (State s q) w total settled (subst (λ (g : Goal). Totals found (g ∷ []) total) same totals))
        (follows.column t (slice_get_within form.spaces t space at) class space at child (ap (slice_get space.columns) (sym is_q) ∙ at_class))
    state-expanded s q w settled follows _ _ _ _ (cell t r c at space listed at_space at_cell at_root) there total totals =
        elim (Contains-two (Row t r) (Column t c) (State s q) there) [
          | inl one ↦ absurd cc
          | inr other ↦ absurd cc
        ]
    state-expanded s q w settled follows _ _ _ _ (low t i space node at_space at) there total totals =
        let one = Contains-one (Node t i) (State s q) there in absurd cc
    state-expanded s q w settled follows _ _ _ _ (high t i space node at_space at) there total totals =
        let one = Contains-one (Node t i) (State s q) there in absurd cc

    cell-at : (t r c at : ℕ) (total : Weight) (space : FormSpace) (listed : Listed) → slice_get form.spaces t ≡ Some space →
        slice_get space.cells (r * space.width + c) ≡ Some at → slice_get space.listing.roots at ≡ Some listed →
        FollowsCell form found t r c → Totals found (Row t r ∷ Column t c ∷ []) total → IsCovered found (goal_at t listed) (with_node total)
    cell-at t r c at total space listed at_space at_cell at_root follows totals =
        let rest = totals.3 in
        let v : rest.0 ≡ totals.1 = one-premise found (Column t c) totals.1 rest in
        let sum : together totals.0 rest.0 ≡ total = ap (together totals.0) v ∙ totals.4 in
        subst (λ (x : Weight). IsCovered found (goal_at t listed) (with_node x)) sum
        (follows at space listed totals.0 rest.0 at_space at_cell at_root totals.2 rest.2)

    pub row-expanded : (s k : ℕ) → ((c : ℕ) (w : Weight) → IsSettled found (Column s c) w → FollowsCell form found s k c) →
        IsExpanded form weighs found (Row s k)
    row-expanded s k follows _ _ _ _ (initial _ _ _) there total totals = absurd (Contains-none (Row s k) there)
    row-expanded s k follows _ _ _ _ (row t q' class space at at_class) there total totals =
        let one = Contains-one (State space.children.0 q') (Row s k) there in absurd cc
    row-expanded s k follows _ _ _ _ (column t q' class space at at_class) there total totals =
        let one = Contains-one (State space.children.1 q') (Row s k) there in absurd cc
    row-expanded s k follows _ _ _ _ (cell t r c at space listed at_space at_cell at_root) there total totals =
        elim (Contains-two (Row t r) (Column t c) (Row s k) there) [
          | inl one ↦
              let is_t : t ≡ s = cc in
              let is_r : r ≡ k = cc in
              let of_column : IsSettled found (Column s c) totals.3.0 = subst (λ (j : ℕ). IsSettled found (Column j c) totals.3.0) is_t totals.3.2 in
              let here : FollowsCell form found t r c = subst (λ (j : ℕ). FollowsCell form found j r c) (sym is_t)
              (subst (λ (j : ℕ). FollowsCell form found s j c) (sym is_r) (follows c totals.3.0 of_column)) in
              cell-at t r c at total space listed at_space at_cell at_root here totals
          | inr other ↦ absurd cc
        ]
    row-expanded s k follows _ _ _ _ (low t i space node at_space at) there total totals =
        let one = Contains-one (Node t i) (Row s k) there in absurd cc
    row-expanded s k follows _ _ _ _ (high t i space node at_space at) there total totals =
        let one = Contains-one (Node t i) (Row s k) there in absurd cc

    pub column-expanded : (s k : ℕ) → ((r : ℕ) (w : Weight) → IsSettled found (Row s r) w → FollowsCell form found s r k) →
        IsExpanded form weighs found (Column s k)
    column-expanded s k follows _ _ _ _ (initial _ _ _) there total totals = absurd (Contains-none (Column s k) there)
    column-expanded s k follows _ _ _ _ (row t q' class space at at_class) there total totals =
        let one = Contains-one (State space.children.0 q') (Column s k) there in absurd cc
    column-expanded s k follows _ _ _ _ (column t q' class space at at_class) there total totals =
        let one = Contains-one (State space.children.1 q') (Column s k) there in absurd cc
    column-expanded s k follows _ _ _ _ (cell t r c at space listed at_space at_cell at_root) there total totals =
        elim (Contains-two (Row t r) (Column t c) (Column s k) there) [
          | inl one ↦ absurd cc
          | inr other ↦
              let is_t : t ≡ s = cc in
              let is_c : c ≡ k = cc in
              let of_row : IsSettled found (Row s r) totals.0 = subst (λ (j : ℕ). IsSettled found (Row j r) totals.0) is_t totals.2 in
              let here : FollowsCell form found t r c = subst (λ (j : ℕ). FollowsCell form found j r c) (sym is_t)
              (subst (λ (j : ℕ). FollowsCell form found s r j) (sym is_c) (follows r totals.0 of_row)) in
              cell-at t r c at total space listed at_space at_cell at_root here totals
        ]
    column-expanded s k follows _ _ _ _ (low t i space node at_space at) there total totals =
        let one = Contains-one (Node t i) (Column s k) there in absurd cc
    column-expanded s k follows _ _ _ _ (high t i space node at_space at) there total totals =
        let one = Contains-one (Node t i) (Column s k) there in absurd cc

    pub node-expanded : (s k : ℕ) (w : Weight) → IsSettled found (Node s k) w → FollowsNode form weighs found s k w → IsExpanded form weighs found (Node s k)
    node-expanded s k w settled follows _ _ _ _ (initial _ _ _) there total totals = absurd (Contains-none (Node s k) there)
    node-expanded s k w settled follows _ _ _ _ (row t q' class space at at_class) there total totals =
        let one = Contains-one (State space.children.0 q') (Node s k) there in absurd cc
    node-expanded s k w settled follows _ _ _ _ (column t q' class space at at_class) there total totals =
        let one = Contains-one (State space.children.1 q') (Node s k) there in absurd cc
    node-expanded s k w settled follows _ _ _ _ (cell t r c at space listed at_space at_cell at_root) there total totals =
        elim (Contains-two (Row t r) (Column t c) (Node s k) there) [
          | inl one ↦ absurd cc
          | inr other ↦ absurd cc
        ]
    node-expanded s k w settled follows _ _ _ _ (low t i space node at_space at) there total totals =
        let same = Contains-one (Node t i) (Node s k) there in
        let is_t : t ≡ s = cc in
        let is_i : i ≡ k = cc in
        subst (IsCovered found (goal_at t node.low)) (one-total (Node s k) w total settled (subst (λ (g : Goal). Totals found (g ∷ []) total) same totals))
        (subst (λ (j : ℕ). IsCovered found (goal_at j node.low) w) (sym is_t)
        (follows.low space node (ap (slice_get form.spaces) (sym is_t) ∙ at_space) (ap (slice_get space.listing.nodes) (sym is_i) ∙ at)))
    node-expanded s k w settled follows _ _ _ _ (high t i space node at_space at) there total totals =
        let same = Contains-one (Node t i) (Node s k) there in
        let is_t : t ≡ s = cc in
        let is_i : i ≡ k = cc in
        subst (λ (x : Weight). IsCovered found (goal_at t node.high) (with_bits (bit_cost weighs node.track) x))
        (one-total (Node s k) w total settled (subst (λ (g : Goal). Totals found (g ∷ []) total) same totals))
        (subst (λ (j : ℕ). IsCovered found (goal_at j node.high) (with_bits (bit_cost weighs node.track) w)) (sym is_t)
        (follows.high space node (ap (slice_get form.spaces) (sym is_t) ∙ at_space) (ap (slice_get space.listing.nodes) (sym is_i) ∙ at)))

  pub FollowsCell-kept : (old new : Findings) (t r c : ℕ) → Improves old new → FollowsCell form old t r c → FollowsCell form new t r c
  FollowsCell-kept old new t r c improves follows = λ at space listed u v at_space at_cell at_root of_row of_column.
      improves.covered (goal_at t listed) (with_node (together u v))
      (follows at space listed u v at_space at_cell at_root (improves.no_more (Row t r) u of_row) (improves.no_more (Column t c) v of_column))
