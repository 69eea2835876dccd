-- Lines settle states alike where automata have the same initial states and steps.
use Rattle.std.proofs.Common.{◌≡◌, ℕ, List, sym, ◌∙◌, subst}
use Rattle.labels.specs.Labels.{Label}
use Rattle.gta_theory.specs.Guides.{Spaces, IsSpace}
use Rattle.gta_theory.specs.Automata.{Automaton}
use Rattle.cert_text.specs.declared.line.StartLine.{StartLine}
use Rattle.cert_text.specs.declared.line.SettleLine.{SettleLine}
use Rattle.cert_theory.specs.Tables.{Lists}
use Rattle.cert_settled.specs.Settling.{alone}
use Rattle.cert_settled.specs.Settled.{told_states, AreSettling}

pub settling-agreeing : (g : Spaces) (A B : Automaton ℕ) (t : ℕ) (starts : List StartLine) (settles : List SettleLine) →
    ((s : ℕ) → IsSpace g s → A.initial s ≡ B.initial s) →
    ((s p q : ℕ) (label : Label) → IsSpace g s → A.step s p q label ≡ B.step s p q label) →
    AreSettling g A t starts settles → AreSettling g B t starts settles
settling-agreeing g A B t starts settles initial step are = record {
  has_starts = record {
    all = (are.has_starts).all;
    right = λ k line inside at.
        let start = (are.has_starts).right k line inside at in
        record { in_space = start.in_space; names = start.names; is_initial = start.is_initial ∙ initial k start.in_space };
  };
  right = λ k line inside at.
      let settle = are.right k line inside at in
      record {
        settles = record {
          in_space = (settle.settles).in_space;
          has_left = (settle.settles).has_left;
          has_right = (settle.settles).has_right;
          is_step = sym (step line.space line.left line.right (alone t line.has_bound) (settle.settles).in_space) ∙ (settle.settles).is_step;
        };
        is_new = settle.is_new;
      };
  closed = λ s there p q label few in_left in_right.
      subst (Lists (told_states starts settles) s) (step s p q label there) (are.closed s there p q label few in_left in_right);
}
