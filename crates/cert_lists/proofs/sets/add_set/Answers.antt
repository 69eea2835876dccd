use Rattle.std.proofs.Common.{◌≡◌, Bool, [], ◌∷◌, ◌++◌, if◌then◌else◌, ap, sym, ◌∙◌, subst}
use Rattle.std.specs.List.Sorted.{IsStrictlyIncreasing}
use Rattle.cert_text.specs.declared.line.SetLine.{SetLine}
use Rattle.cert_tables.specs.SetKeys.{AreSets}
use Rattle.cert_tables.proofs.SetKeysLemmas.{AreSets-push}
use Rattle.cert_lists.proofs.StatesLemmas.{sets-push}
use Rattle.cert_lists.proofs.sets.add_set.Goals as goal

pub returns-clause-fits : goal.returns-clause-fits
returns-clause-fits c =
    let old = c.args.sets.now in
    let new = c.push.new.self in
    let line = c.args.line.now in
    let copy = c.in_ok-copy.copy in
    let same = c.in_ok-copy.ensures in
    let here = c.in_default.ensures in
    let is_copy : new ≡ old ++ copy ∷ [] =
    c.in_ok-push.ensures.value ∙ ap (λ (b : Bool). if b then old ++ copy ∷ [] else old) c.if-not-branch.false in
    let is : new ≡ old ++ line ∷ [] = is_copy ∙ ap (λ (l : SetLine). old ++ l ∷ []) same in
    let rises : IsStrictlyIncreasing copy.members = subst (λ (l : SetLine). IsStrictlyIncreasing l.members) (sym same) here.1 in
    let once : AreSets new = AreSets-push old new copy c.requires.once rises (c.in_ok-push.ensures.known.0 c.if-not-branch.false) is_copy in
    sets-push c.args.a.now c.args.c.now old new line c.requires here.0 here.2 is once
