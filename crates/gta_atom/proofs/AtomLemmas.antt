-- What an atom's call leaves of the shelf.
use Rattle.std.proofs.Common.{◌≡◌, ◌+◌, ◌<◌, ◌≤◌, ℕ, Bool, List, ap, ◌∙◌, arith, length}
use Rattle.std.specs.Prelude.{Option, is_some}
use Rattle.bdd_nodes.specs.declared.node.Node.{Node}
use Rattle.bdd_nodes.specs.declared.node_ref.NodeRef.{NodeRef}
use Rattle.bdd_nodes.specs.Roots.{Registered, roots_under}
use Rattle.bdd_nodes.specs.Shelf.{Contents, count_of, limit_of}
use Rattle.bdd_nodes.specs.Changes.{Keeps}
use Rattle.bdd_nodes.proofs.CallerLemmas.{Keeps-trans, Keeps-same}
use Rattle.gta_theory.specs.Guides.{Spaces, IsGuide}
use Rattle.gta_theory.specs.Numbered.{Below}
use Rattle.ws2s_core.specs.declared.formula.Formula.{Formula}
use Rattle.ws2s_theory.specs.Merging.{IsChildTest}
use Rattle.ws2s_theory.specs.Peaks.{HasMinimalSize}
use Rattle.gta_core.specs.Changes.{AddsOneTable, RegistersTable}
use Rattle.gta_atom.specs.declared.plan.Plan.{Plan}
use Rattle.gta_atom.specs.Plans.{IsPlanOf}
use Rattle.gta_atom.specs.Automata.{counts_of, numbered_automaton}
use Rattle.gta_room.specs.Progress.{Adds, IsStuck, IsUnderSomewhere}
use Rattle.gta_atom.proofs.PartsLemmas.{SizeOf-planned}
use Rattle.gta_room.proofs.ProgressLemmas.{room-new, limit-stuck}

module _ (g : Spaces) (plan : Plan) (is_child : Bool → ℕ → Bool) (guide : IsGuide g) (test : IsChildTest g is_child) (f : Formula)
    (planned : IsPlanOf plan f) (old made : Contents)
    (adds : Adds (IsUnderSomewhere g (numbered_automaton g plan is_child) (Below (counts_of plan is_child))) old made) where
  pub room : (n : ℕ) → HasMinimalSize g f n → count_of made ≤ count_of old + n
  room n has =
      room-new g (numbered_automaton g plan is_child) (Below (counts_of plan is_child)) n (SizeOf-planned g plan is_child guide test f planned n has)
      old made adds

  pub no_room : IsStuck (IsUnderSomewhere g (numbered_automaton g plan is_child) (Below (counts_of plan is_child))) made →
      (n : ℕ) → HasMinimalSize g f n → limit_of old < count_of old + n
  no_room stuck n has =
      let size = SizeOf-planned g plan is_child guide test f planned n has in
      limit-stuck g (numbered_automaton g plan is_child) (Below (counts_of plan is_child)) n size old made adds stuck

  module _ (new : Contents) (table : ℕ) (one : AddsOneTable made new table) where
    pub keeps-all : Keeps old new
    keeps-all = Keeps-trans old made new adds.keeps (Keeps-same made new (one.adds).nodes)

    same_count : count_of new ≡ count_of made
    same_count = ap (λ (nodes : List Node). length nodes) (one.adds).nodes.nodes

    pub room-all : (n : ℕ) → HasMinimalSize g f n → count_of new ≤ count_of old + n
    room-all n has = omega (arith, room n has, same_count)

    pub limit-all : limit_of new ≡ limit_of old
    limit-all = (one.adds).nodes.limit ∙ adds.same_limit

    pub registers : RegistersTable old new table
    registers = record {
      number = (one.adds).number ∙ ap (λ (r : Registered). r.added) adds.tables;
      added = (one.adds).added ∙ ap (λ (r : Registered). r.added + 1) adds.tables;
      registered = ap (λ (o : Option (List NodeRef)). is_some o) (one.adds).roots;
      others = λ other differ. (one.adds).others other differ ∙ ap (λ (r : Registered). roots_under r.tables other) adds.tables;
    }
