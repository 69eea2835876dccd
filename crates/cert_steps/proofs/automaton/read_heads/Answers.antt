use Rattle.std.proofs.Common.{ℕ, List, ◌++◌, length, map, ap, subst, ◌∙◌}
use Rattle.gta_theory.specs.Guides.{left, right}
use Rattle.cert_text.specs.declared.line.SpaceLine.{SpaceLine}
use Rattle.cert_text.specs.declared.line.Line.{Line}
use Rattle.cert_text.specs.declared.line.Line.TheVariants as line
use Rattle.cert_steps.specs.Places.{AreSpaceLines, AreClassLines}
use Rattle.cert_steps.proofs.automaton.read_heads.Goals as goal

pub returns : goal.returns
returns c =
    let g = c.args.g.now in
    let spaces = c.in_ok-spaces.spaces in
    let lefts = map (λ l. l.now) c.in_ok-lefts.lefts.items in
    let rights = map (λ l. l.now) c.in_ok-rights.rights.items in
    record {
      read = c.in_ok-spaces.ensures.0
          ∙ ap (λ (l : List Line). map line.Space spaces ++ l) (c.in_ok-lefts.ensures.0
          ∙ ap (λ (l : List Line). map line.Left lefts ++ l) c.in_ok-rights.ensures.0);
      spaces_fit = subst (λ (n : ℕ). AreSpaceLines n spaces) c.spaces.ensures.value c.in_ok-spaces.ensures.1;
      lefts_fit = subst (λ (ss : List SpaceLine). AreClassLines ss (left g) (length g) lefts) c.as_slice.ensures c.in_ok-lefts.ensures.1;
      rights_fit = subst (λ (ss : List SpaceLine). AreClassLines ss (right g) (length g) rights) c.as_slice-2.ensures c.in_ok-rights.ensures.1;
    }
