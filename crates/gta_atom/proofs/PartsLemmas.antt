-- The given parts make the numbered automaton.
use Rattle.std.proofs.Common.{◌≡◌, ℕ, suc, ◌+◌, ◌*◌, ◌/◌, ◌%◌, ◌<◌, max, Bool, false, List, [], ◌∷◌, ◌++◌, length, get_or, Option, Some, None}
use Rattle.std.proofs.Common.{refl, sym, ap, subst, ◌∙◌, arith, nat_lt, IsTrue, inl, inr}
use Rattle.std.specs.Prelude.{slice_get, unwrap_or, option_map, option_and_then}
use Rattle.std.specs.List.{range_with_len}
use mathlib.Core.Path.{fun_ext}
use Rattle.std.proofs.lemmas.Bool.{cases_eq, ltb-true, lt-ltb}
use Rattle.std.proofs.Math.Nat.{mod-lt, div-lt_iff_lt-mul, mod-eq_of_lt, mul-add-mod_self_right, mul_comm}
use Rattle.std.proofs.lemmas.Nat.{mul-add-lt, div-mul-add}
use Rattle.std.proofs.lemmas.Option.{slice_get-map, slice_get-get_or, slice_get_within}
use Rattle.std.proofs.lemmas.List.FromFn.{get_or-range_with_len, length-range_with_len, length-map-range_with_len}
use Rattle.labels.specs.Labels.{Label, Function, IsUnder}
use Rattle.bdd_nodes.specs.declared.node_ref.NodeRef.{NodeRef}
use Rattle.bdd_nodes.specs.Shelf.{Contents, IsValid, state_of}
use Rattle.bdd_nodes.specs.Changes.{Keeps}
use Rattle.gta_theory.specs.Guides.{Spaces, IsGuide, IsSpace, left, right}
use Rattle.gta_theory.specs.Automata.{Automaton}
use Rattle.gta_theory.specs.Constructions.{IsNaming}
use Rattle.gta_theory.specs.Numbered.{Below}
use Rattle.gta_theory.specs.Sizes.{SizeOf, LooksBelow}
use Rattle.gta_theory.proofs.AutomataLemmas.{IsClosed-reached}
use Rattle.gta_theory.proofs.ListedLemmas.{slice_get-push}
use Rattle.gta_theory.proofs.SizesExistLemmas.{SizeOf-counted}
use Rattle.ws2s_core.specs.declared.formula.Formula.{Formula}
use Rattle.ws2s_core.specs.Recognising.{IsMinimalOf}
use Rattle.ws2s_theory.specs.Merging.{IsChildTest}
use Rattle.ws2s_theory.specs.Peaks.{HasMinimalSize}
use Rattle.ws2s_theory.proofs.SizesLemmas.{minimal-size}
use Rattle.gta_core.specs.declared.build.SpacePart.{SpacePart}
use Rattle.gta_core.specs.Auto.{AutoView, states_of, automaton_of}
use Rattle.gta_core.specs.Given.{given_states, given_initial, given_root, given_automaton, IsGiven}
use Rattle.gta_core.proofs.PlacingLemmas.{given_root-known}
use Rattle.gta_atom.specs.declared.known.Known.{Known}
use Rattle.gta_atom.specs.declared.kept.Kept.{Kept}
use Rattle.gta_atom.specs.declared.nodes.Cell.{Cell}
use Rattle.gta_atom.specs.declared.plan.Plan.{Plan}
use Rattle.gta_atom.specs.States.{is_held, count_of, known_of}
use Rattle.gta_atom.specs.Plans.{IsPlanOf, kept_in}
use Rattle.gta_room.specs.Progress.{IsUnderSomewhere}
use Rattle.gta_atom.specs.Automata.{counts_of, numbered_step, numbered_automaton, are_held}
use Rattle.gta_atom.specs.Cells.{cell_of, cell_function, AreRoots, IsPartIn}
use Rattle.gta_atom.proofs.NamedLemmas.{IsMinimalOf-named}
use Rattle.gta_atom.proofs.PlansLemmas.{IsMinimalOf-planned}

module _ (g : Spaces) (plan : Plan) (is_child : Bool → ℕ → Bool) where
  abbrev D : Automaton ℕ
  D = numbered_automaton g plan is_child

  abbrev counts : ℕ → ℕ
  counts = counts_of plan is_child

  -- what is under a cell's function is under the table
  pub IsUnder-cell : (s i j : ℕ) → IsSpace g s → i < counts (left g s) → j < counts (right g s) → (f : Function) →
      IsUnder (cell_function (cell_of g plan is_child s i j)) f → IsUnderSomewhere g D (Below counts) f
  IsUnder-cell s i j there in_left in_right f under = record {
    space = s;
    inside = there;
    under = record {
      at_left = i;
      at_right = j;
      in_left = lt-ltb i (counts (left g s)) in_left;
      in_right = lt-ltb j (counts (right g s)) in_right;
      below = under.below;
      fixed = under.fixed;
      states = under.states;
    };
  }

  -- the cell of the n-th pair of child states of a space
  module _ (s : ℕ) (there : IsSpace g s) (at_left at_right here : Kept) (is_left : at_left ≡ kept_in plan is_child (left g s))
      (is_right : at_right ≡ kept_in plan is_child (right g s)) (is_here : here ≡ kept_in plan is_child s) (rows columns n : ℕ)
      (is_rows : rows ≡ count_of at_left) (is_columns : columns ≡ count_of at_right) (inside : n < rows * columns)
      (l r : Known) (is_l : l ≡ known_of at_left (n / columns)) (is_r : r ≡ known_of at_right (n % columns)) where
    abbrev pub cell : Cell
    cell = record { form = plan.form; first = plan.first; second = plan.second; kept = here; left = l; right = r }

    rows-are : rows ≡ counts (left g s)
    rows-are = is_rows ∙ ap count_of is_left

    columns-are : columns ≡ counts (right g s)
    columns-are = is_columns ∙ ap count_of is_right

    abbrev i : ℕ
    i = n / counts (right g s)

    abbrev j : ℕ
    j = n % counts (right g s)

    cell-is : cell ≡ cell_of g plan is_child s i j
    cell-is = λ k. record {
      form = plan.form;
      first = plan.first;
      second = plan.second;
      kept = is_here k;
      left = (is_l ∙ (λ m. known_of (is_left m) (n / columns-are m))) k;
      right = (is_r ∙ (λ m. known_of (is_right m) (n % columns-are m))) k;
    }

    some-columns : 0 < counts (right g s)
    some-columns = omega arith

    inside-counts : n < counts (left g s) * counts (right g s)
    inside-counts = subst (λ (c : ℕ). n < counts (left g s) * c) columns-are (subst (λ (w : ℕ). n < w * columns) rows-are inside)

    pub part-cell : (f : Function) → IsUnder (cell_function cell) f → IsUnderSomewhere g D (Below counts) f
    part-cell f under =
        IsUnder-cell s i j there ((div-lt_iff_lt-mul some-columns).1 inside-counts) (mod-lt n some-columns) f
        (subst (λ (c : Cell). IsUnder (cell_function c) f) cell-is under)

    pub states-cell : (label : Label) → cell_function cell label ≡ D.step s (n / counts (right g s)) (n % counts (right g s)) label
    states-cell label = ap (λ (c : Cell). cell_function c label) cell-is

  -- roots stay, and one more may come
  pub AreRoots-none : (shelf : Contents) (s : ℕ) → AreRoots g plan is_child shelf s []
  AreRoots-none shelf s = record { valid = λ n root at. absurd cc; states = λ n root label at. absurd cc }

  pub AreRoots-kept : (old new : Contents) (s : ℕ) (roots : List NodeRef) → Keeps old new → AreRoots g plan is_child old s roots →
      AreRoots g plan is_child new s roots
  AreRoots-kept old new s roots keeps are = record {
    valid = λ n root at. keeps.valid root (are.valid n root at);
    states = λ n root label at. keeps.states root label (are.valid n root at) ∙ are.states n root label at;
  }

  pub IsPartIn-kept : (old new : Contents) (s : ℕ) (part : SpacePart) → Keeps old new → IsPartIn g plan is_child old s part →
      IsPartIn g plan is_child new s part
  IsPartIn-kept old new s part keeps is = record {
    states = is.states;
    initial = is.initial;
    many = is.many;
    roots = AreRoots-kept old new s part.roots keeps is.roots;
  }

  pub AreRoots-push : (shelf : Contents) (s : ℕ) (roots : List NodeRef) (root : NodeRef) → AreRoots g plan is_child shelf s roots → IsValid shelf root →
      ((label : Label) → state_of shelf root label ≡ D.step s (length roots / counts (right g s)) (length roots % counts (right g s)) label) →
      AreRoots g plan is_child shelf s (roots ++ root ∷ [])
  AreRoots-push shelf s roots root are valid states = record {
    valid = λ n found at. elim (slice_get-push roots root found n at) [
      | inl early ↦ are.valid n found early
      | inr last ↦ subst (IsValid shelf) last.1 valid
    ];
    states = λ n found label at. elim (slice_get-push roots root found n at) [
      | inl early ↦ are.states n found label early
      | inr last ↦ subst (λ (r : NodeRef). state_of shelf r label ≡ D.step s (n / counts (right g s)) (n % counts (right g s)) label) last.1
          (subst (λ (m : ℕ). state_of shelf root label ≡ D.step s (m / counts (right g s)) (m % counts (right g s)) label) (sym last.0) (states label))
    ];
  }

  -- steps look at the two tracks alone
  looks : LooksBelow g D (Below counts) (suc (max plan.first plan.second))
  looks = record {
    step = λ s p q l m there in_p in_q same. λ i.
        numbered_step g plan is_child s p q (same plan.first (omega arith) i) (same plan.second (omega arith) i);
  }

  module _ (guide : IsGuide g) (test : IsChildTest g is_child) (f : Formula) (planned : IsPlanOf plan f) where
    of_D : IsMinimalOf g D (Below counts) f
    of_D = IsMinimalOf-planned g guide is_child test plan f planned

    -- the Size of the formula's minimal automaton is that of the numbered one
    pub SizeOf-planned : (n : ℕ) → HasMinimalSize g f n → SizeOf g D (Below counts) n
    SizeOf-planned n has =
        let size = SizeOf-counted g D counts (suc (max plan.first plan.second)) looks in
        subst (SizeOf g D (Below counts)) (minimal-size g guide cases_eq f D (Below counts) of_D size.0 n size.1 has) size.1

    -- the parts of all spaces
    module _ (shelf : Contents) (spaces : List SpacePart) (accepting : List Bool) (many : length spaces ≡ length g)
        (each : (s : ℕ) (part : SpacePart) → slice_get spaces s ≡ Some part → IsPartIn g plan is_child shelf s part)
        (held : accepting ≡ are_held plan is_child) where
      nothing : SpacePart
      nothing = record { states = 0; initial = 0; roots = [] }

      part_at : ℕ → SpacePart
      part_at s = get_or spaces s nothing

      at : (s : ℕ) → IsSpace g s → slice_get spaces s ≡ Some (part_at s)
      unfolding part_at
      at s there = slice_get-get_or spaces s nothing (let t : s < length g = there in omega arith)

      is_part : (s : ℕ) → IsSpace g s → IsPartIn g plan is_child shelf s (part_at s)
      is_part s there = each s (part_at s) (at s there)

      states-at : (s : ℕ) → IsSpace g s → given_states spaces s ≡ counts s
      states-at s there = ap (λ (o : Option SpacePart). unwrap_or (option_map (λ part. part.states) o) 0) (at s there) ∙ (is_part s there).states

      initial-at : (s : ℕ) → IsSpace g s → given_initial spaces s ≡ 0
      initial-at s there = ap (λ (o : Option SpacePart). unwrap_or (option_map (λ part. part.initial) o) 0) (at s there) ∙ (is_part s there).initial

      -- the root of a pair, and its step
      step-root : (s i j : ℕ) (label : Label) (root : Option NodeRef) → IsSpace g s → j < counts (right g s) →
          slice_get (part_at s).roots (i * counts (right g s) + j) ≡ root → i * counts (right g s) + j < length (part_at s).roots →
          unwrap_or (option_map (state_of shelf) root) (λ (l : Label). 0) label ≡ D.step s i j label
      step-root s i j label None there in_right found inside = absurd (
          let e = slice_get-get_or (part_at s).roots (i * counts (right g s) + j) (record { word = 0 }) inside in cc)
      step-root s i j label (Some root) there in_right found inside =
          (is_part s there).roots.states (i * counts (right g s) + j) root label found
          ∙ (λ k. D.step s (div-mul-add i (counts (right g s)) j in_right k)
          ((mul-add-mod_self_right i (counts (right g s)) j ∙ mod-eq_of_lt in_right) k) label)

      G : Automaton ℕ
      G = given_automaton g shelf spaces accepting

      step-given : (s i j : ℕ) (label : Label) → IsSpace g s → i < counts (left g s) → j < counts (right g s) → G.step s i j label ≡ D.step s i j label
      unfolding G given_automaton
      step-given s i j label there in_left in_right =
          let L = states-at (left g s) (guide.left_inside s there) in
          let R = states-at (right g s) (guide.right_inside s there) in
          let known : given_root g spaces s i j ≡ slice_get (part_at s).roots (i * counts (right g s) + j) =
          given_root-known g spaces s i j (omega arith) (omega arith)
          ∙ ap (λ (o : Option SpacePart). option_and_then (λ (part : SpacePart). slice_get part.roots (i * given_states spaces (right g s) + j)) o) (at s there)
          ∙ ap (λ (w : ℕ). slice_get (part_at s).roots (i * w + j)) R in
          ap (λ (o : Option NodeRef). unwrap_or (option_map (state_of shelf) o) (λ (l : Label). 0) label) known
          ∙ step-root s i j label (slice_get (part_at s).roots (i * counts (right g s) + j)) there in_right refl
          (omega (
            arith,
            mul-add-lt i (counts (right g s)) j (counts (left g s)) in_left in_right,
            mul_comm (counts (left g s)) (counts (right g s)),
            (is_part s there).many,
          ))

      initial-given : (s : ℕ) → IsSpace g s → G.initial s ≡ 0
      unfolding G given_automaton
      initial-given s there = initial-at s there

      held-at : (q : ℕ) → q < counts 0 → slice_get (are_held plan is_child) q ≡ Some (D.accepting q)
      held-at q below =
          slice_get-map (λ i. is_held plan.form (known_of (kept_in plan is_child 0) i)) (range_with_len 0 (counts 0)) q
          ∙ ap (λ (o : Option ℕ). option_map (λ i. is_held plan.form (known_of (kept_in plan is_child 0) i)) o)
          (slice_get-get_or (range_with_len 0 (counts 0)) q 0 (omega (arith, length-range_with_len 0 (counts 0)))
          ∙ ap Some (get_or-range_with_len 0 (counts 0) q 0 below ∙ (let e : 0 + q ≡ q = omega arith in e)))

      accepting-given : (q : ℕ) → q < counts 0 → G.accepting q ≡ D.accepting q
      unfolding G given_automaton
      accepting-given q below =
          ap (λ (bs : List Bool). unwrap_or (slice_get bs q) false) held ∙ ap (λ (o : Option Bool). unwrap_or o false) (held-at q below)

      naming : IsNaming g D (Below counts) G (λ s q. q)
      naming = record {
        initial = λ s there. sym (initial-given s there);
        step = λ s p q label there in_p in_q. sym (step-given s p q label there (ltb-true p (counts (left g s)) in_p) (ltb-true q (counts (right g s)) in_q));
        accepting = λ q in_q. sym (accepting-given q (ltb-true q (counts 0) in_q));
      }

      pub IsMinimalOf-given : IsMinimalOf g (given_automaton g shelf spaces accepting) (Below (given_states spaces)) f
      unfolding G
      IsMinimalOf-given =
          IsMinimalOf-named g guide D (Below counts) f of_D G (Below (given_states spaces)) (λ s q. q) naming
          (λ s x there. (
            (λ h. (x, subst (λ (n : ℕ). IsTrue (nat_lt x n)) (states-at s there) h, refl)),
            (λ h. subst (λ (y : ℕ). IsTrue (nat_lt y (given_states spaces s))) h.2 (subst (λ (n : ℕ). IsTrue (nat_lt h.0 n)) (sym (states-at s there)) h.1)),
          ))

      pub IsGiven-parts : IsGiven g shelf spaces accepting
      unfolding G
      IsGiven-parts =
          let minimal = IsMinimalOf-given.minimal in
          record {
            each_space = many;
            each_state = ap (λ (bs : List Bool). length bs) held
                ∙ length-map-range_with_len (λ i. is_held plan.form (known_of (kept_in plan is_child 0) i)) 0 (counts 0)
                ∙ sym (states-at 0 guide.not_empty);
            complete = λ s part found.
                let there : IsSpace g s = (let w = slice_get_within spaces s part found in omega arith) in
                (each s part found).many
                ∙ (λ k. sym (states-at (left g s) (guide.left_inside s there)) k * sym (states-at (right g s) (guide.right_inside s there)) k);
            valid = λ s part found k d inside.
                (each s part found).roots.valid k (get_or part.roots k d) (slice_get-get_or part.roots k d inside);
            closed = IsClosed-reached g guide G minimal.stable (Below (given_states spaces)) minimal.reached;
            stable = minimal.stable;
          }

      -- the automaton that was built of them
      pub IsMinimalOf-built : (new : Contents) (a : AutoView) → automaton_of new a ≡ given_automaton g shelf spaces accepting →
          ((s : ℕ) → states_of a s ≡ given_states spaces s) → IsMinimalOf g (automaton_of new a) (Below (states_of a)) f
      IsMinimalOf-built new a same states =
          subst (λ (A : Automaton ℕ). IsMinimalOf g A (Below (states_of a)) f) (sym same)
          (subst (λ (count : ℕ → ℕ). IsMinimalOf g (given_automaton g shelf spaces accepting) (Below count) f) (sym (fun_ext states)) IsMinimalOf-given)
