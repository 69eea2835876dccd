-- A tree that is made from its leaves up.
use Rattle.std.proofs.Common.{◌≡◌, ℕ, zero, suc, ◌+◌, ◌<◌, ◌≤◌, Bool, cond, eqb, List, [], ◌∷◌, ◌++◌, Option, Some, None, IfSome, inl, inr}
use Rattle.std.proofs.Common.{refl, sym, ap, subst, ◌∙◌, arith, slice_get, length, length-append, unwrap_or, append-nil, eq-eqb}
use Rattle.std.specs.Prelude.{option_to_list, flat_map}
use Rattle.std.specs.List.{sum_by}
use Rattle.std.proofs.lemmas.Bool.{cases_lt, cases_eq, ne_eqb}
use Rattle.std.proofs.lemmas.List.Concat.{flat_map-append}
use Rattle.std.proofs.lemmas.List.Sums.{sum_by-append}
use Rattle.std.proofs.lemmas.Option.{slice_get_within}
use Rattle.plain_data.specs.Stacks.{top, rest}
use Rattle.gta_theory.specs.Assignments.{Assignment, Covers, empty_assignment}
use Rattle.gta_theory.specs.Guides.{Spaces, IsSpace, left, right}
use Rattle.gta_theory.specs.Automata.{value}
use Rattle.gta_theory.specs.Weights.{label_weight, weight}
use Rattle.gta_theory.specs.Listed.{meanings}
use Rattle.gta_theory.proofs.AssignmentsLemmas.{Covers-more, Covers-empty}
use Rattle.gta_theory.proofs.AutomataLemmas.{value-same}
use Rattle.gta_theory.proofs.WeightsLemmas.{weight-same}
use Rattle.gta_theory.proofs.ListedLemmas.{meanings-push, length-meanings, slice_get-front, slice_get-last, slice_get-push}
use Rattle.ws2s_core.specs.declared.track.Track.{Track}
use Rattle.ws2s_core.specs.declared.label_tree.TreeNode.{TreeNode}
use Rattle.ws2s_core.specs.LabelTrees.{node_assignment, assignment_of, children_of, times_named, IsTree}
use Rattle.ws2s_core.proofs.LabelTreesLemmas.{Covers-at}
use Rattle.ws2s_theory.specs.Trees.{child_at, label_of, last_place}
use Rattle.ws2s_theory.proofs.TreesLemmas.{root-at}
use Rattle.gta_reach.specs.declared.form.Form.{Form}
use Rattle.gta_reach.specs.Form.{guide_of, automaton_of, IsForm}
use Rattle.gta_witness.specs.declared.goal.Goal.TheVariants.{State}
use Rattle.gta_witness.specs.declared.goal.Weight.{Weight}
use Rattle.gta_witness.specs.declared.grow.Task.{Task}
use Rattle.gta_witness.specs.declared.grow.Task.TheVariants.{Visit, Join}
use Rattle.gta_witness.specs.declared.read.Step.{Step}
use Rattle.gta_witness.specs.Lightest.{each_once}
use Rattle.gta_witness.specs.Rules.{nothing, counted, bits_counted}
use Rattle.gta_witness.specs.Searching.{Findings, IsSettled}
use Rattle.gta_witness.specs.Reading.{HasSomeStep}
use Rattle.gta_witness.specs.Growing.{IsTreeTo, Want, IsBuilt, AreBuilt, Leads, Runs, times_in, nodes_found, rounds, AreSmall, IsForest, nodes_of, Grows}
use Rattle.gta_witness.proofs.SearchLemmas.{settled-once}

-- how often a place is named
abbrev is_place : ℕ → ℕ → ℕ
is_place k child = cond (eqb child k) 1 0

one-in : (child : Option ℕ) (k : ℕ) → sum_by (is_place k) (option_to_list child) ≡ times_in (child ∷ []) k
one-in None k = refl
one-in (Some j) k = omega arith

pub times_in-cons : (child : Option ℕ) (made : List (Option ℕ)) (k : ℕ) → times_in (child ∷ made) k ≡ times_in (child ∷ []) k + times_in made k
times_in-cons None made k = omega arith
times_in-cons (Some j) made k = omega arith

times_in-above : (child : Option ℕ) (k : ℕ) → IfSome child (λ j. j < k) → times_in (child ∷ []) k ≡ 0
times_in-above None k inside = refl
times_in-above (Some j) k inside =
    let apart : is_place k j ≡ 0 = ap (λ (b : Bool). cond b 1 0) (ne_eqb j k (λ e. absurd (omega arith))) in omega arith

children-in : (node : TreeNode) (k : ℕ) → sum_by (is_place k) (children_of node) ≡ times_in (node.left ∷ []) k + times_in (node.right ∷ []) k
children-in node k =
    let a = sum_by-append (is_place k) (option_to_list node.left) (option_to_list node.right) in
    let l = one-in node.left k in
    let r = one-in node.right k in
    omega arith

named-push : (nodes : List TreeNode) (node : TreeNode) (k : ℕ) →
    times_named (nodes ++ node ∷ []) k ≡ times_named nodes k + (times_in (node.left ∷ []) k + times_in (node.right ∷ []) k)
named-push nodes node k =
    let a : times_named (nodes ++ node ∷ []) k ≡ sum_by (is_place k) (flat_map children_of nodes ++ flat_map children_of (node ∷ [])) =
    ap (sum_by (is_place k)) (flat_map-append children_of nodes (node ∷ [])) in
    let b = sum_by-append (is_place k) (flat_map children_of nodes) (flat_map children_of (node ∷ [])) in
    let c : sum_by (is_place k) (flat_map children_of (node ∷ [])) ≡ sum_by (is_place k) (children_of node) = ap (sum_by (is_place k))
    (append-nil (children_of node)) in
    let d = children-in node k in
    omega arith

-- a place that stands after all children is never named
named-none : (nodes : List TreeNode) (n : ℕ) → ((k : ℕ) (node : TreeNode) → slice_get nodes k ≡ Some node →
    IfSome node.left (λ child. child < n) × IfSome node.right (λ child. child < n)) → times_named nodes n ≡ 0
named-none [] n below = refl
named-none (node ∷ nodes) n below =
    let here = below 0 node refl in
    let a = sum_by-append (is_place n) (children_of node) (flat_map children_of nodes) in
    let c = children-in node n in
    let l = times_in-above node.left n here.0 in
    let r = times_in-above node.right n here.1 in
    let others = named-none nodes n (λ k other at. below (suc k) other at) in
    omega arith

-- bits of two trees under a label, as they are counted
bits-joined : (label l r u v : ℕ) → bits_counted l ≡ u → bits_counted r ≡ v → bits_counted (label + (l + r)) ≡ bits_counted (label + bits_counted (u + v))
bits-joined label l r u v is_l is_r = omega arith

below-more : (child : Option ℕ) (k n : ℕ) → k ≤ n → IfSome child (λ j. j < k) → IfSome child (λ j. j < n)
below-more None k n more inside = inside
below-more (Some j) k n more inside = omega arith

module _ (form : Form) (is_form : IsForm form) (tracks : List Track) (found : Findings) where
  abbrev g : Spaces
  g = guide_of form

  abbrev ts : List ℕ
  ts = each_once tracks

  Covers-child : (nodes : List TreeNode) (child : Option ℕ) → Covers (length nodes) (child_at nodes child)
  Covers-child nodes None = λ t p deep. refl
  Covers-child nodes (Some k) = Covers-at nodes k

  settled-nodes : (s q : ℕ) (w : Weight) → IsSettled found (State s q) w → nodes_found (found (State s q)) ≡ w.nodes
  settled-nodes s q w settled = ap nodes_found settled.there ∙ ap (λ (x : Weight). x.nodes) settled.weighs

  -- no tree for an initial state
  pub none-built : (nodes : List TreeNode) (s q : ℕ) (w : Weight) → IsSpace g s → (automaton_of form).initial s ≡ q → nothing ≡ w →
      IsBuilt form tracks nodes None (record { space = s; state = q; weight = w })
  none-built nodes s q w there is_q is_w = record {
    inside = tt;
    is_space = there;
    is_value = value-same g is_form.guide (automaton_of form) is_form.stable s (length nodes) 0 empty_assignment there (λ t p deep. refl) Covers-empty ∙ is_q;
    weighs = ap bits_counted (weight-same ts (length nodes) 0 empty_assignment (λ t p deep. refl) Covers-empty) ∙ ap (λ (x : Weight). x.bits) is_w;
  }

  pub visit-none : (nodes : List TreeNode) (s q : ℕ) (tasks : List Task) (made : List (Option ℕ)) (out : Want) →
      Grows form tracks found nodes (Visit s q ∷ tasks) made out → HasSomeStep form tracks found s q None → Grows form tracks found nodes tasks
      (None ∷ made) out
  visit-none nodes s q tasks made out grows step =
      let run = grows.runs in
      let same = settled-once found (State s q) step.weight run.0 step.settled run.1 in
      record {
        wants = record { space = s; state = q; weight = run.0 } ∷ grows.wants;
        built = (none-built nodes s q run.0 run.2 step.has.0 (step.has.1 ∙ same), grows.built);
        small = grows.small.1;
        counts = let none : 0 ≡ run.0.nodes = ap (λ (x : Weight). x.nodes) (step.has.1 ∙ same) in let before = grows.counts in omega arith;
        runs = run.3;
        forest = record {
          few = grows.forest.few;
          left_before = grows.forest.left_before;
          right_before = grows.forest.right_before;
          once = grows.forest.once;
        };
      }

  -- the nodes of the two sides, and the node above them
  visit-parts : (s q l_space r_space : ℕ) (step : Step) → HasSomeStep form tracks found s q (Some step) → l_space ≡ left g s → r_space ≡ right g s →
      nodes_found (found (State s q)) < 4294967295 →
      nodes_found (found (State l_space step.left)) + nodes_found (found (State r_space step.right)) + 1 ≡ nodes_found (found (State s q))
  visit-parts s q l_space r_space step has is_left is_right small =
      let to = has.has in
      let l = settled-nodes l_space step.left to.left_weight (subst (λ (k : ℕ). IsSettled found (State k step.left) to.left_weight) (sym is_left) to.of_left) in
      let r = settled-nodes r_space step.right to.right_weight (subst (λ (k : ℕ). IsSettled found (State k step.right) to.right_weight) (sym is_right)
      to.of_right) in
      let here = settled-nodes s q has.weight has.settled in
      all-counted to.left_weight.nodes to.right_weight.nodes has.weight.nodes (nodes_found (found (State l_space step.left)))
      (nodes_found (found (State r_space step.right))) (nodes_found (found (State s q))) l r here (ap (λ (x : Weight). x.nodes) to.is_sum) small
    where
      all-counted : (l r w a b n : ℕ) → a ≡ l → b ≡ r → n ≡ w → counted (l + r + 1) ≡ w → n < 4294967295 → a + b + 1 ≡ n
      all-counted l r w a b n is_l is_r is_w sum small = omega arith

  pub visit-none-fewer : (s q : ℕ) (tasks : List Task) → rounds found tasks < rounds found (Visit s q ∷ tasks)
  visit-none-fewer s q tasks = omega arith

  pub visit-some-fewer : (nodes : List TreeNode) (s q l_space r_space : ℕ) (step : Step) (tasks : List Task) (made : List (Option ℕ)) (out : Want) →
      Grows form tracks found nodes (Visit s q ∷ tasks) made out → HasSomeStep form tracks found s q (Some step) →
      l_space ≡ left g s → r_space ≡ right g s →
      rounds found (Visit l_space step.left ∷ Visit r_space step.right ∷ Join step.tracks ∷ tasks) < rounds found (Visit s q ∷ tasks)
  visit-some-fewer nodes s q l_space r_space step tasks made out grows has is_left is_right =
      let parts = visit-parts s q l_space r_space step has is_left is_right grows.small.0 in omega arith

  pub visit-some : (nodes : List TreeNode) (s q l_space r_space : ℕ) (step : Step) (tasks : List Task) (made : List (Option ℕ)) (out : Want) →
      Grows form tracks found nodes (Visit s q ∷ tasks) made out → HasSomeStep form tracks found s q (Some step) →
      l_space ≡ left g s → r_space ≡ right g s →
      Grows form tracks found nodes (Visit l_space step.left ∷ Visit r_space step.right ∷ Join step.tracks ∷ tasks) made out
  visit-some nodes s q l_space r_space step tasks made out grows has is_left is_right =
      let run = grows.runs in
      let same = settled-once found (State s q) has.weight run.0 has.settled run.1 in
      let to = has.has in
      record {
        wants = grows.wants;
        built = grows.built;
        counts = grows.counts;
        small =
            let parts = visit-parts s q l_space r_space step has is_left is_right grows.small.0 in
            (let f = grows.small.0 in omega arith, (let f = grows.small.0 in omega arith, grows.small.1));
        runs = (
          to.left_weight,
          subst (λ (k : ℕ). IsSettled found (State k step.left) to.left_weight) (sym is_left) to.of_left,
          subst (IsSpace g) (sym is_left) (is_form.guide.left_inside s run.2),
          (
            to.right_weight,
            subst (λ (k : ℕ). IsSettled found (State k step.right) to.right_weight) (sym is_right) to.of_right,
            subst (IsSpace g) (sym is_right) (is_form.guide.right_inside s run.2),
            (
              record { space = s; state = q; weight = run.0 },
              record { is_space = run.2; at_left = is_left; at_right = is_right; gives = to.gives; is_sum = to.is_sum ∙ same },
              run.3,
            ),
          ),
        );
        forest = grows.forest;
      }

  -- a node that is put at the end
  module _ (nodes : List TreeNode) (node : TreeNode) where
    abbrev after : List TreeNode
    after = nodes ++ node ∷ []

    longer : length (nodes ++ node ∷ []) ≡ suc (length nodes)
    longer = let e = length-append nodes (node ∷ []) in omega arith

    child-kept : (child : Option ℕ) → IfSome child (λ k. k < length nodes) → child_at (nodes ++ node ∷ []) child ≡ child_at nodes child
    child-kept None inside = refl
    child-kept (Some k) inside =
        ap (λ (ms : List Assignment). unwrap_or (slice_get ms k) empty_assignment) (meanings-push node_assignment nodes node)
        ∙ ap (λ (o : Option Assignment). unwrap_or o empty_assignment)
        (slice_get-front (meanings node_assignment nodes) (node_assignment (meanings node_assignment nodes) node ∷ []) k
        (let e = length-meanings node_assignment nodes in omega arith))

    built-kept : (child : Option ℕ) (want : Want) → IsBuilt form tracks nodes child want → IsBuilt form tracks (nodes ++ node ∷ []) child want
    built-kept child want built =
        let a = child_at nodes child in
        let covers = Covers-child nodes child in
        let more : Covers (length (nodes ++ node ∷ [])) a = Covers-more (length nodes) (length (nodes ++ node ∷ [])) a (let e = longer in omega arith) covers in
        record {
          inside = below-more child (length nodes) (length (nodes ++ node ∷ [])) (let e = longer in omega arith) built.inside;
          is_space = built.is_space;
          is_value = ap (value g (automaton_of form) want.space (length (nodes ++ node ∷ []))) (child-kept child built.inside)
              ∙ value-same g is_form.guide (automaton_of form) is_form.stable want.space (length (nodes ++ node ∷ [])) (length nodes) a built.is_space
              more covers
              ∙ built.is_value;
          weighs = ap bits_counted (ap (weight ts (length (nodes ++ node ∷ []))) (child-kept child built.inside)
              ∙ weight-same ts (length (nodes ++ node ∷ [])) (length nodes) a more covers) ∙ built.weighs;
        }

    all-kept : (made : List (Option ℕ)) (wants : List Want) → AreBuilt form tracks nodes made wants → AreBuilt form tracks (nodes ++ node ∷ []) made wants
    all-kept [] [] built = tt
    all-kept [] (want ∷ wants) built = absurd built
    all-kept (child ∷ made) [] built = absurd built
    all-kept (child ∷ made) (want ∷ wants) built = (built-kept child want built.0, all-kept made wants built.1)

    new-child : child_at (nodes ++ node ∷ []) (Some (length nodes)) ≡ node_assignment (meanings node_assignment nodes) node
    new-child =
        ap (λ (ms : List Assignment). unwrap_or (slice_get ms (length nodes)) empty_assignment) (meanings-push node_assignment nodes node)
        ∙ ap (λ (k : ℕ). unwrap_or (slice_get (meanings node_assignment nodes ++ node_assignment (meanings node_assignment nodes) node ∷ []) k)
        empty_assignment)
        (sym (length-meanings node_assignment nodes))
        ∙ ap (λ (o : Option Assignment). unwrap_or o empty_assignment)
        (slice_get-last (meanings node_assignment nodes) (node_assignment (meanings node_assignment nodes) node))

    new-built : (l r want : Want) → IsBuilt form tracks nodes node.left l → IsBuilt form tracks nodes node.right r → Leads form tracks node.tracks l r want →
        IsBuilt form tracks (nodes ++ node ∷ []) (Some (length nodes)) want
    new-built l r want of_left of_right leads =
        let n = length nodes in
        let b = node_assignment (meanings node_assignment nodes) node in
        let at_l : value g (automaton_of form) (left g want.space) n (child_at nodes node.left) ≡ l.state =
        ap (λ (s : ℕ). value g (automaton_of form) s n (child_at nodes node.left)) (sym leads.at_left) ∙ of_left.is_value in
        let at_r : value g (automaton_of form) (right g want.space) n (child_at nodes node.right) ≡ r.state =
        ap (λ (s : ℕ). value g (automaton_of form) s n (child_at nodes node.right)) (sym leads.at_right) ∙ of_right.is_value in
        let is_value : value g (automaton_of form) want.space (suc n) b ≡ want.state =
        ap (λ (p : ℕ). (automaton_of form).step want.space p (value g (automaton_of form) (right g want.space) n (child_at nodes node.right))
        (label_of node.tracks)) at_l
        ∙ ap (λ (p : ℕ). (automaton_of form).step want.space l.state p (label_of node.tracks)) at_r ∙ leads.gives in
        let weighs : bits_counted (weight ts (suc n) b) ≡ want.weight.bits =
        bits-joined (label_weight ts (label_of node.tracks)) (weight ts n (child_at nodes node.left)) (weight ts n (child_at nodes node.right))
        l.weight.bits r.weight.bits of_left.weighs of_right.weighs ∙ ap (λ (x : Weight). x.bits) leads.is_sum in
        record {
          inside = let e = longer in omega arith;
          is_space = leads.is_space;
          is_value = ap (value g (automaton_of form) want.space (length (nodes ++ node ∷ []))) new-child
              ∙ ap (λ (d : ℕ). value g (automaton_of form) want.space d b) longer ∙ is_value;
          weighs = ap bits_counted (ap (weight ts (length (nodes ++ node ∷ []))) new-child ∙ ap (λ (d : ℕ). weight ts d b) longer) ∙ weighs;
        }

    made-inside : (made : List (Option ℕ)) (wants : List Want) → AreBuilt form tracks nodes made wants → times_in made (length nodes) ≡ 0
    made-inside [] [] built = refl
    made-inside [] (want ∷ wants) built = absurd built
    made-inside (child ∷ made) [] built = absurd built
    made-inside (child ∷ made) (want ∷ wants) built =
        let a = times_in-cons child made (length nodes) in
        let b = times_in-above child (length nodes) built.0.inside in
        let c = made-inside made wants built.1 in
        omega arith

    new-forest : (made : List (Option ℕ)) (wants : List Want) → AreBuilt form tracks nodes made wants → length nodes < 4294967294 →
        IfSome node.left (λ k. k < length nodes) → IfSome node.right (λ k. k < length nodes) →
        IsForest nodes (node.right ∷ node.left ∷ made) → IsForest (nodes ++ node ∷ []) (Some (length nodes) ∷ made)
    new-forest made wants built few left_in right_in forest = record {
      few = let e = longer in omega arith;
      left_before = λ k other at. elim (slice_get-push nodes node other k at) [
        | inl before ↦ forest.left_before k other before
        | inr last ↦ subst (λ (x : TreeNode). IfSome x.left (λ child. child < k)) last.1
            (subst (λ (n : ℕ). IfSome node.left (λ child. child < n)) (sym last.0) left_in)
      ];
      right_before = λ k other at. elim (slice_get-push nodes node other k at) [
        | inl before ↦ forest.right_before k other before
        | inr last ↦ subst (λ (x : TreeNode). IfSome x.right (λ child. child < k)) last.1
            (subst (λ (n : ℕ). IfSome node.right (λ child. child < n)) (sym last.0) right_in)
      ];
      once = λ k inside.
          let push = named-push nodes node k in
          let new = times_in-cons (Some (length nodes)) made k in
          elim (cases_lt k (length nodes)) [
            | inl before ↦
                let was = forest.once k before in
                let a = times_in-cons node.right (node.left ∷ made) k in
                let b = times_in-cons node.left made k in
                let apart : is_place k (length nodes) ≡ 0 = ap (λ (c : Bool). cond c 1 0) (ne_eqb (length nodes) k (λ e. absurd (omega arith))) in
                omega arith
            | inr here ↦
                let e = longer in
                let is : k ≡ length nodes = omega arith in
                subst (λ (n : ℕ). times_named (nodes ++ node ∷ []) n + times_in (Some (length nodes) ∷ made) n ≡ 1) (sym is) at-last
          ];
    }
      where
        at-last : times_named (nodes ++ node ∷ []) (length nodes) + times_in (Some (length nodes) ∷ made) (length nodes) ≡ 1
        at-last =
            let n = length nodes in
            let push = named-push nodes node n in
            let none = named-none nodes n (λ k other at.
            let b = slice_get_within nodes k other at in (
              below-more other.left k n (omega arith) (forest.left_before k other at),
              below-more other.right k n (omega arith)
                  (forest.right_before k other at),
            )) in
            let l = times_in-above node.left n left_in in
            let r = times_in-above node.right n right_in in
            let new = times_in-cons (Some n) made n in
            let others = made-inside made wants built in
            let one : is_place n n ≡ 1 = ap (λ (b : Bool). cond b 1 0) (eq-eqb n n refl) in
            omega arith

  -- few nodes are counted as they are
  joined-counts : (n after l r w others : ℕ) → n < 4294967294 → after ≡ suc n → n ≡ r + (l + others) → counted (l + r + 1) ≡ w → after ≡ w + others
  joined-counts n after l r w others few one_more counts is_sum = omega arith

  -- no more nodes are made than are wanted in the end
  runs-nodes : (tasks : List Task) (wants : List Want) (out : Want) → Runs form tracks found tasks wants (out ∷ []) → out.weight.nodes < 4294967295 →
      nodes_of wants ≤ out.weight.nodes
  runs-nodes [] wants out runs few = let e : nodes_of wants ≡ nodes_of (out ∷ []) = ap nodes_of runs in omega arith
  runs-nodes (Visit s q ∷ tasks) wants out runs few =
      let later = runs-nodes tasks (record { space = s; state = q; weight = runs.0 } ∷ wants) out runs.3 few in omega arith
  runs-nodes (Join taken ∷ tasks) [] out runs few = absurd runs
  runs-nodes (Join taken ∷ tasks) (r ∷ []) out runs few = absurd runs
  runs-nodes (Join taken ∷ tasks) (r ∷ l ∷ wants) out runs few =
      let later = runs-nodes tasks (runs.0 ∷ wants) out runs.2 few in
      let sum : counted (l.weight.nodes + r.weight.nodes + 1) ≡ runs.0.weight.nodes = ap (λ (x : Weight). x.nodes) runs.1.is_sum in
      omega arith

  -- and the node of a join is one of them
  pub join-few : (nodes : List TreeNode) (taken : List Track) (tasks : List Task) (made : List (Option ℕ)) (out : Want) →
      Grows form tracks found nodes (Join taken ∷ tasks) made out → out.weight.nodes < 4294967295 → length nodes < 4294967294
  join-few nodes taken tasks made out grows few = go grows.wants grows.runs grows.counts
    where
      go : (wants : List Want) → Runs form tracks found (Join taken ∷ tasks) wants (out ∷ []) → length nodes ≡ nodes_of wants → length nodes < 4294967294
      go [] runs counts = absurd runs
      go (r ∷ []) runs counts = absurd runs
      go (r ∷ l ∷ wants) runs counts =
          let later = runs-nodes tasks (runs.0 ∷ wants) out runs.2 few in
          let sum : counted (l.weight.nodes + r.weight.nodes + 1) ≡ runs.0.weight.nodes = ap (λ (x : Weight). x.nodes) runs.1.is_sum in
          omega arith

  -- two trees are put under a node
  pub join-grows : (nodes : List TreeNode) (taken : List Track) (tasks : List Task) (made : List (Option ℕ)) (out : Want) → length nodes < 4294967294 →
      Grows form tracks found nodes (Join taken ∷ tasks) made out →
      Grows form tracks found (nodes ++ (record { tracks = taken; left = top None (rest made); right = top None made }) ∷ []) tasks
      (Some (length nodes) ∷ rest (rest made)) out
  join-grows nodes taken tasks made out few grows = go made grows.wants grows.built grows.runs grows.counts grows.small grows.forest
    where
      go : (made : List (Option ℕ)) (wants : List Want) → AreBuilt form tracks nodes made wants → Runs form tracks found (Join taken ∷ tasks) wants (out ∷ []) →
          length nodes ≡ nodes_of wants → AreSmall found tasks → IsForest nodes made →
          Grows form tracks found (nodes ++ (record { tracks = taken; left = top None (rest made); right = top None made }) ∷ []) tasks
          (Some (length nodes) ∷ rest (rest made)) out
      go [] [] built runs counts small forest = absurd runs
      go [] (want ∷ wants) built runs counts small forest = absurd built
      go (child ∷ made) [] built runs counts small forest = absurd built
      go (child ∷ []) (r ∷ []) built runs counts small forest = absurd runs
      go (child ∷ []) (r ∷ l ∷ wants) built runs counts small forest = absurd built.1
      go (child ∷ other ∷ made) (r ∷ []) built runs counts small forest = absurd built.1
      go (child ∷ other ∷ made) (r ∷ l ∷ wants) built runs counts small forest =
          let node : TreeNode = record { tracks = taken; left = other; right = child } in
          record {
            wants = runs.0 ∷ wants;
            built = (new-built nodes node l r runs.0 built.1.0 built.0 runs.1, all-kept nodes node made wants built.1.1);
            counts = joined-counts (length nodes) (length (nodes ++ node ∷ [])) l.weight.nodes r.weight.nodes runs.0.weight.nodes (nodes_of wants) few
                (longer nodes node) counts (ap (λ (x : Weight). x.nodes) runs.1.is_sum);
            small = small;
            runs = runs.2;
            forest = new-forest nodes node made wants built.1.1 few built.1.0.inside built.0.inside forest;
          }

  -- nothing is left to do
  module _ (nodes : List TreeNode) (made : List (Option ℕ)) (q : ℕ) (w : Weight)
      (grows : Grows form tracks found nodes [] made (record { space = 0; state = q; weight = w })) where
    out : Want
    out = record { space = 0; state = q; weight = w }

    one-made : (made : List (Option ℕ)) (wants : List Want) → AreBuilt form tracks nodes made wants → wants ≡ record { space = 0; state = q; weight = w } ∷ [] →
        (child : Option ℕ) × (made ≡ child ∷ []) × IsBuilt form tracks nodes child (record { space = 0; state = q; weight = w })
    one-made made [] built e = absurd cc
    one-made [] (want ∷ wants) built e = absurd built
    one-made (child ∷ []) (want ∷ wants) built e = let is : want ≡ record { space = 0; state = q; weight = w } = cc in
        (child, refl, subst (IsBuilt form tracks nodes child) is built.0)
    one-made (child ∷ other ∷ made) (want ∷ []) built e = absurd built.1
    one-made (child ∷ other ∷ made) (want ∷ next ∷ wants) built e = absurd cc

    end : (child : Option ℕ) × (made ≡ child ∷ []) × IsBuilt form tracks nodes child (record { space = 0; state = q; weight = w })
    end = one-made made grows.wants grows.built grows.runs

    once-end : (k : ℕ) → k < length nodes → times_named nodes k + times_in (end.0 ∷ []) k ≡ 1
    once-end k inside = subst (λ (m : List (Option ℕ)). times_named nodes k + times_in m k ≡ 1) end.1 (grows.forest.once k inside)

    -- the last node is never named
    last-named : (j : ℕ) → suc j ≡ length nodes → times_named nodes j ≡ 0
    last-named j last = named-none nodes j (λ k node at.
        let b = slice_get_within nodes k node at in (
          below-more node.left k j (omega arith) (grows.forest.left_before k node at),
          below-more node.right k j (omega arith)
              (grows.forest.right_before k node at),
        ))

    child-is : (child : Option ℕ) (n : ℕ) → n ≡ length nodes → child ≡ end.0 → child ≡ last_place 0 n
    child-is None zero e is = refl
    child-is None (suc j) e is =
        let named = last-named j e in
        let once = once-end j (omega arith) in
        let none : times_in (end.0 ∷ []) j ≡ 0 = ap (λ (c : Option ℕ). times_in (c ∷ []) j) (sym is) in
        absurd (omega arith)
    child-is (Some k) zero e is =
        let inside : k < length nodes = subst (λ (c : Option ℕ). IfSome c (λ x. x < length nodes)) (sym is) end.2.inside in absurd (omega arith)
    child-is (Some k) (suc j) e is =
        let named = last-named j e in
        let once = once-end j (omega arith) in
        let here : times_in (end.0 ∷ []) j ≡ times_in (Some k ∷ []) j = ap (λ (c : Option ℕ). times_in (c ∷ []) j) (sym is) in
        elim (cases_eq k j) [
          | inl same ↦ let f : k ≡ 0 + j = omega arith in ap (λ (x : ℕ). let o : Option ℕ = Some x in o) f
          | inr apart ↦
              let none : is_place j k ≡ 0 = ap (λ (b : Bool). cond b 1 0) (ne_eqb k j apart) in
              absurd (omega arith)
        ]

    root-child : end.0 ≡ last_place 0 (length nodes)
    root-child = child-is end.0 (length nodes) refl refl

    pub grown-tree : IsTree nodes
    grown-tree = record {
      few = grows.forest.few;
      left_before = grows.forest.left_before;
      right_before = grows.forest.right_before;
      once = λ k inside.
          let once = once-end k (omega arith) in
          let none = named-elsewhere k (length nodes) refl inside in
          omega arith;
    }
      where
        named-elsewhere : (k n : ℕ) → n ≡ length nodes → k + 1 < n → times_in (end.0 ∷ []) k ≡ 0
        named-elsewhere k zero e inside = absurd (omega arith)
        named-elsewhere k (suc j) e inside =
            let is : end.0 ≡ Some (0 + j) = root-child ∙ ap (last_place 0) (sym e) in
            let none : is_place k (0 + j) ≡ 0 = ap (λ (b : Bool). cond b 1 0) (ne_eqb (0 + j) k (λ f. absurd (omega arith))) in
            ap (λ (c : Option ℕ). times_in (c ∷ []) k) is ∙ omega arith

    pub grown-to : IsSettled found (State 0 q) w → IsTreeTo form tracks found q nodes
    grown-to settled =
        let is : assignment_of nodes ≡ child_at nodes end.0 = root-at nodes ∙ ap (child_at nodes) (sym root-child) in
        record {
          least = w;
          settled = settled;
          is_value = ap (value g (automaton_of form) 0 (length nodes)) is ∙ end.2.is_value;
          weighs = ap bits_counted (ap (weight ts (length nodes)) is) ∙ end.2.weighs;
          counts = let all : nodes_of grows.wants ≡ w.nodes + 0 = ap nodes_of grows.runs in let counts = grows.counts in omega arith;
        }

-- the tree of a state is to be made
pub grows-first : (form : Form) → IsForm form → (tracks : List Track) (found : Findings) (q : ℕ) (w : Weight) → IsSettled found (State 0 q) w →
    w.nodes < 4294967295 → Grows form tracks found [] (Visit 0 q ∷ []) [] (record { space = 0; state = q; weight = w })
grows-first form is_form tracks found q w settled small = record {
  wants = [];
  built = tt;
  counts = refl;
  small = (
    let e : nodes_found (found (State 0 q)) ≡ w.nodes = ap nodes_found settled.there ∙ ap (λ (x : Weight). x.nodes) settled.weighs in omega arith,
    tt,
  );
  runs = (w, settled, is_form.guide.not_empty, refl);
  forest = record {
    few = omega arith;
    left_before = λ k node at. absurd cc;
    right_before = λ k node at. absurd cc;
    once = λ k inside. absurd (omega arith);
  };
}
