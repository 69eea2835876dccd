use Rattle.std.proofs.Common.{◌≡◌, ◌++◌, ◌%◌, ◌+◌, ◌-◌, ℕ, suc, List, ap, sym, ◌∙◌, flat_map}
use native.Mathlib.Omega.{arith}
use Rattle.std.specs.List.{range_with_len}
use Rattle.std.proofs.lemmas.List.{append_assoc}
use Rattle.pale_generator.specs.Generated.{filled, procedure_text}
use Rattle.pale_generator.proofs.generator.gen_program.Goals as goal

-- src/generator.rt:132:5
pub loop-k-preserved : goal.loop-k-preserved
loop-k-preserved c =
    let text = c.loop-k.text.items in
    let k = c.loop-k.k in
    let many = c.args.seed % 40 + 1 in
    let rest = flat_map procedure_text (range_with_len (k + 1) (many - (k + 1))) in
    let left : many - k ≡ suc (many - (k + 1)) = omega (arith, c.loop-k-test.true) in
    let written : c.push_template.new.text.items ≡ text ++ procedure_text k =
    c.in_ok-push_template.ensures ∙ ap (λ (template : List ℕ). text ++ flat_map (filled k) template) c.template_of.ensures in
    ap (λ (t : List ℕ). t ++ rest) written ∙ append_assoc text (procedure_text k) rest
    ∙ ap (λ (n : ℕ). text ++ flat_map procedure_text (range_with_len k n)) (sym left) ∙ c.loop-k.invariant
