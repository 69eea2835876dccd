-- The minimal automaton.
use Rattle.std.proofs.Common.{◌≡◌, ℕ, ◌+◌, ◌<◌, ◌≤◌, Bool, false, List, length, map, Option, sym, ◌∙◌, ap, subst, arith}
use Rattle.std.specs.Prelude.{slice_index_or, is_some, All, ◌↔◌}
use Rattle.std.proofs.lemmas.Bool.{cases_eq, ltb-true}
use Rattle.std.proofs.lemmas.Option.{slice_get-get_or}
use Rattle.bdd_nodes.specs.declared.node_ref.NodeRef.{NodeRef}
use Rattle.bdd_nodes.specs.declared.node.Node.{Node}
use Rattle.bdd_nodes.specs.Roots.{Registered, roots_under}
use Rattle.bdd_nodes.specs.Shelf.{Contents, IsValid, count_of, limit_of}
use Rattle.bdd_nodes.specs.Changes.{Keeps, AddsTable}
use Rattle.bdd_nodes.proofs.CallerLemmas.{Keeps-trans, Keeps-same}
use Rattle.gta_theory.specs.Assignments.{Assignment, Covers}
use Rattle.gta_theory.specs.Guides.{Spaces, IsGuide, left, right}
use Rattle.gta_theory.specs.Automata.{Accepts, Has}
use Rattle.gta_theory.specs.Minimal.{IsMinimal}
use Rattle.gta_theory.specs.Numbered.{Below}
use Rattle.gta_theory.specs.Sizes.{SizeOf}
use Rattle.gta_theory.proofs.AutomataLemmas.{Accepts-named}
use Rattle.gta_theory.proofs.MinimalLemmas.{AreAlike-minimal}
use Rattle.gta_theory.proofs.SizesLemmas.{SizeOf-alike}
use Rattle.gta_theory.proofs.SizesExistLemmas.{SizeOf-counted}
use Rattle.gta_core.specs.declared.part.Part.{Part}
use Rattle.gta_core.specs.Auto.{AutoView, states_of, automaton_of, IsAuto, IsWhole}
use Rattle.gta_core.specs.Changes.{RegistersTable}
use Rattle.gta_room.specs.Progress.{Adds, IsStuck}
use Rattle.gta_room.proofs.ProgressLemmas.{room-new, limit-stuck}
use Rattle.gta_reach.specs.declared.form.Form.{Form}
use Rattle.gta_classes.specs.declared.part.SpaceClasses.{SpaceClasses}
use Rattle.gta_reach.specs.Form as form
use Rattle.gta_refine.specs.Refined.{part_at, classes_in, quotient_of, IsRefined}
use Rattle.gta_form.specs.Listed.{IsFormOf}
use Rattle.gta_minimise.specs.Quotient.{IsUnderClasses, AreQuotientSpaces}
use Rattle.gta_minimise.specs.Minimised.{HasMinimisedSize}
use Rattle.gta_minimise.proofs.LooksLemmas.{above_all, LooksBelow-quotient}
use Rattle.gta_minimise.proofs.ClassesLemmas.{IsQuotient, IsMinimal-quotient, Accepts-quotient}
use Rattle.gta_minimise.proofs.PartsLemmas.{IsWhole-parts, IsAuto-parts, IsQuotient-made}

-- the form accepts what the automaton accepts
pub Accepts-form : (g : Spaces) (shelf : Contents) (a : AutoView) (f : Form) → IsGuide g → IsAuto g shelf a → IsFormOf g shelf a f → (t : Assignment) →
    Accepts g (automaton_of shelf a) t ↔ Accepts g (form.automaton_of f) t
Accepts-form g shelf a f guide is_auto same t = Accepts-named g guide (automaton_of shelf a) (Below (states_of a)) (form.automaton_of f) (λ s q. q)
    is_auto.closed
    (record {
      initial = λ s there. sym (same.initial s there);
      step = λ s p q label there p_in q_in. sym (same.steps s p q label there
          (ltb-true p (states_of a (left g s)) p_in) (ltb-true q (states_of a (right g s)) q_in));
      accepting = λ q q_in. sym (same.accepting q (ltb-true q (states_of a 0) q_in));
    }) t

-- the Size of a minimal automaton that accepts the same is that of the automaton of classes
pub SizeOf-classes : (g : Spaces) (old : Contents) (a : AutoView) (f : Form) (classes : List SpaceClasses) → form.IsForm f → IsRefined f classes →
    IsAuto g old a → IsFormOf g old a f → (n : ℕ) → HasMinimisedSize g (automaton_of old a) n →
    SizeOf (form.guide_of f) (quotient_of f classes) (Below (classes_in classes)) n
SizeOf-classes g old a f classes is_form refined is_auto same n has =
    let h = form.guide_of f in
    let guide = subst IsGuide same.guide is_form.guide in
    let M = quotient_of f classes in
    let size_M = SizeOf-counted h M (classes_in classes) (above_all f.spaces) (LooksBelow-quotient f is_form classes refined) in
    let here : HasMinimisedSize h (form.automaton_of f) n = subst (λ (e : Spaces). HasMinimisedSize e (form.automaton_of f) n) (sym same.guide)
    (record {
      automaton = has.automaton;
      states = has.states;
      is_minimal = has.is_minimal;
      same = λ t. (
        (λ of_B. (Accepts-form g old a f guide is_auto same t).0 ((has.same t).0 of_B)),
        (λ of_f. (has.same t).1 ((Accepts-form g old a f guide is_auto same t).1 of_f)),
      );
      is_size = has.is_size;
    }) in
    let both : (m : ℕ) (t : Assignment) → Covers m t → Accepts h M t ↔ Accepts h here.automaton t = λ m t covers. (
      (λ of_M. (here.same t).1 ((refined.same t).1 of_M)),
      (λ of_B. (refined.same t).0 ((here.same t).0 of_B)),
    ) in
    let alike = AreAlike-minimal cases_eq cases_eq h is_form.guide M (Below (classes_in classes)) refined.minimal
    here.automaton (Has here.states) here.is_minimal both in
    let same_size : size_M.0 ≡ n = SizeOf-alike h is_form.guide M (Below (classes_in classes)) here.automaton (Has here.states) alike
    size_M.0 n size_M.1 here.is_size in
    subst (SizeOf h M (Below (classes_in classes))) same_size size_M.1

-- the result, at the guide of the call
module _ (g : Spaces) (old between new : Contents) (a : AutoView) (f : Form) (classes : List SpaceClasses) (is_form : form.IsForm f)
    (refined : IsRefined f classes) (is_auto : IsAuto g old a) (same : IsFormOf g old a f) (parts : List Part) (roots : List NodeRef)
    (are : AreQuotientSpaces between f classes parts roots (length g)) (accepting : List Bool)
    (accepting_are : accepting ≡ map (λ state. slice_index_or f.accepting state false) (part_at classes 0).representatives) where
  are_here : AreQuotientSpaces between f classes parts roots (length (form.guide_of f))
  are_here = subst (λ (h : Spaces). AreQuotientSpaces between f classes parts roots (length h)) (sym same.guide) are

  pub IsWhole-made : (table : ℕ) → IsWhole (record { table = table; parts = parts; accepting = accepting })
  IsWhole-made table = IsWhole-parts between f classes is_form refined parts roots are_here accepting accepting_are table

  pub All-valid : All (IsValid between) roots
  All-valid k d k_in = are.valid k (slice_index_or roots k d) (slice_get-get_or roots k d k_in)

  module _ (auto : AutoView) (table : ℕ) (is : auto ≡ record { table = table; parts = parts; accepting = accepting })
      (adds : AddsTable between new auto.table roots) where
    made : AutoView
    made = record { table = table; parts = parts; accepting = accepting }

    adds_here : AddsTable between new table roots
    adds_here = subst (λ (t : ℕ). AddsTable between new t roots) (ap (λ (b : AutoView). b.table) is) adds

    quotient : IsQuotient f classes (automaton_of new made) (states_of made)
    unfolding made
    quotient = IsQuotient-made between f classes is_form refined parts roots are_here accepting accepting_are table new adds_here

    pub IsAuto-made : IsAuto g new auto
    IsAuto-made = subst (λ (h : Spaces). IsAuto h new auto) same.guide
        (subst (λ (b : AutoView). IsAuto (form.guide_of f) new b) (sym is)
        (IsAuto-parts between f classes is_form refined parts roots are_here accepting accepting_are table new adds_here))

    pub IsMinimal-made : IsMinimal g (automaton_of new auto) (Below (states_of auto))
    unfolding made
    IsMinimal-made = subst (λ (h : Spaces). IsMinimal h (automaton_of new auto) (Below (states_of auto))) same.guide
        (subst (λ (b : AutoView). IsMinimal (form.guide_of f) (automaton_of new b) (Below (states_of b))) (sym is)
        (IsMinimal-quotient f classes is_form refined (automaton_of new made) (states_of made) quotient))

    pub Accepts-made : (t : Assignment) → Accepts g (automaton_of new auto) t ↔ Accepts g (automaton_of old a) t
    unfolding made
    Accepts-made t =
        let guide = subst IsGuide same.guide is_form.guide in
        let first = Accepts-form g old a f guide is_auto same t in
        let second : Accepts g (form.automaton_of f) t ↔ Accepts g (automaton_of new auto) t =
        subst (λ (h : Spaces). Accepts h (form.automaton_of f) t ↔ Accepts h (automaton_of new auto) t) same.guide
        (subst (λ (b : AutoView). Accepts (form.guide_of f) (form.automaton_of f) t ↔ Accepts (form.guide_of f) (automaton_of new b) t) (sym is)
        (Accepts-quotient f classes is_form refined (automaton_of new made) (states_of made) quotient t)) in (
          (λ of_new. first.1 (second.1 of_new)),
          (λ of_old. second.0 (first.0 of_old)),
        )

-- what the call leaves
module _ (g : Spaces) (old made : Contents) (a : AutoView) (f : Form) (classes : List SpaceClasses) (is_form : form.IsForm f)
    (refined : IsRefined f classes) (is_auto : IsAuto g old a) (same : IsFormOf g old a f) (adds : Adds (IsUnderClasses f classes) old made) where
  pub room : (n : ℕ) → HasMinimisedSize g (automaton_of old a) n → count_of made ≤ count_of old + n
  room n has = room-new (form.guide_of f) (quotient_of f classes) (Below (classes_in classes)) n
      (SizeOf-classes g old a f classes is_form refined is_auto same n has) old made adds

  pub no_room : IsStuck (IsUnderClasses f classes) made → (n : ℕ) → HasMinimisedSize g (automaton_of old a) n → limit_of old < count_of old + n
  no_room stuck n has = limit-stuck (form.guide_of f) (quotient_of f classes) (Below (classes_in classes)) n
      (SizeOf-classes g old a f classes is_form refined is_auto same n has) old made adds stuck

  module _ (new : Contents) (table : ℕ) (roots : List NodeRef) (one : AddsTable made new table roots) where
    pub keeps-all : Keeps old new
    keeps-all = Keeps-trans old made new adds.keeps (Keeps-same made new one.nodes)

    pub room-all : (n : ℕ) → HasMinimisedSize g (automaton_of old a) n → count_of new ≤ count_of old + n
    room-all n has = let fit = room n has in let e = ap (λ (nodes : List Node). length nodes) (one.nodes).nodes in omega arith

    pub limit-all : limit_of new ≡ limit_of old
    limit-all = (one.nodes).limit ∙ adds.same_limit

    pub registers : RegistersTable old new table
    registers = record {
      number = one.number ∙ ap (λ (r : Registered). r.added) adds.tables;
      added = one.added ∙ ap (λ (r : Registered). r.added + 1) adds.tables;
      registered = ap (λ (o : Option (List NodeRef)). is_some o) one.roots;
      others = λ other differ. one.others other differ ∙ ap (λ (r : Registered). roots_under r.tables other) adds.tables;
    }
