-- States that stand for themselves, numbered by what is kept in each space.
use Rattle.std.proofs.Common.{◌≡◌, ℕ, ◌<◌, Bool, sym, ap, subst, ◌∙◌}
use Rattle.std.proofs.lemmas.Bool.{ltb-true, lt-ltb}
use Rattle.labels.specs.Labels.{Label}
use Rattle.gta_theory.specs.Guides.{Spaces, IsGuide, left, right}
use Rattle.gta_theory.specs.Automata.{Automaton}
use Rattle.gta_theory.specs.Constructions.{IsNaming}
use Rattle.gta_theory.specs.Numbered.{Below}
use Rattle.ws2s_core.specs.declared.formula.Formula.{Formula}
use Rattle.ws2s_core.specs.Recognising.{IsMinimalOf}
use Rattle.ws2s_theory.specs.Merging.{merged, Stands}
use Rattle.gta_atom.specs.declared.known.Known.{Known}
use Rattle.gta_atom.specs.declared.known.Known.TheVariants.{Nothing}
use Rattle.gta_atom.specs.declared.kept.Kept.{Kept}
use Rattle.gta_atom.specs.declared.plan.Plan.{Plan}
use Rattle.gta_atom.specs.States.{known_step, is_held, count_of, number_of, known_of}
use Rattle.gta_atom.specs.Plans.{kept_in}
use Rattle.gta_atom.specs.Automata.{counts_of, numbered_automaton}
use Rattle.gta_atom.proofs.NamedLemmas.{IsMinimalOf-named}

-- a number of a kept state has a state of the automaton that stands for itself, and which has that number
pub record HasState {Q : Type 0} (class : Q → Q) (of : Q → Known) (kept : Kept) (n : ℕ) : Type 0 where
  pub state : Q
  pub stands : class state ≡ state
  pub number : number_of kept (of state) ≡ n

-- the state has the number of the one that stands for it
pub record IsNumbered {Q : Type 0} (class : Q → Q) (of : Q → Known) (kept : Kept) (q : Q) : Type 0 where
  pub known : known_of kept (number_of kept (of q)) ≡ of (class q)
  pub number : number_of kept (of (class q)) ≡ number_of kept (of q)
  pub less : number_of kept (of q) < count_of kept

-- what is kept in a space is what stands for itself, with a number each
pub record IsKept {Q : Type 0} (class : Q → Q) (of : Q → Known) (kept : Kept) : Type 0 where
  pub state : (q : Q) → IsNumbered class of kept q
  pub each : (n : ℕ) → n < count_of kept → HasState class of kept n

module _ {Q : Type 0} (g : Spaces) (guide : IsGuide g) (plan : Plan) (is_child : Bool → ℕ → Bool) (A : Automaton Q)
    (class : ℕ → Q → Q) (f : Formula) (of_A : IsMinimalOf g (merged class A) (Stands class) f) (of : Q → Known)
    (initial : (s : ℕ) → of (A.initial s) ≡ Nothing)
    (step : (s : ℕ) (p q : Q) (label : Label) →
    known_step plan.form (of p) (of q) (label plan.first) (label plan.second) ≡ of (A.step s p q label))
    (accepting : (q : Q) → A.accepting q ≡ is_held plan.form (of q))
    (kept : (s : ℕ) → IsKept (class s) of (kept_in plan is_child s)) where
  abbrev K : ℕ → Kept
  K s = kept_in plan is_child s

  abbrev name : ℕ → Q → ℕ
  name s q = number_of (K s) (of q)

  named : (s : ℕ) (q : Q) → Stands class s q → known_of (K s) (name s q) ≡ of q
  named s q stands = ((kept s).state q).known ∙ ap of stands

  naming : IsNaming g (merged class A) (Stands class) (numbered_automaton g plan is_child) name
  naming = record {
    initial = λ s there. ((kept s).state (A.initial s)).number ∙ ap (number_of (K s)) (initial s);
    step = λ s p q label there in_p in_q.
        ((kept s).state (A.step s p q label)).number
        ∙ ap (number_of (K s)) (sym (step s p q label))
        ∙ (λ i. number_of (K s) (known_step plan.form (sym (named (left g s) p in_p) i) (sym (named (right g s) q in_q) i)
        (label plan.first) (label plan.second)));
    accepting = λ q in_q. accepting q ∙ ap (is_held plan.form) (sym (named 0 q in_q));
  }

  pub IsMinimalOf-numbered : IsMinimalOf g (numbered_automaton g plan is_child) (Below (counts_of plan is_child)) f
  IsMinimalOf-numbered =
      IsMinimalOf-named g guide (merged class A) (Stands class) f of_A (numbered_automaton g plan is_child) (Below (counts_of plan is_child)) name naming
      (λ s x there. (
        (λ in_M. let h = (kept s).each x (ltb-true x (counts_of plan is_child s) in_M) in (h.state, h.stands, h.number)),
        (λ h. subst (λ y. Below (counts_of plan is_child) s y) h.2 (lt-ltb (name s h.0) (counts_of plan is_child s) (((kept s).state h.0).less))),
      ))
