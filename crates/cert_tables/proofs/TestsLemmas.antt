-- What tests of two halves say, and equal options.
use Rattle.std.proofs.Common.{◌≡◌, Bool, true, false, Some, refl, ap, ◌∙◌}
use Rattle.std.specs.Prelude.{◌&&◌, IsTrue}
use Rattle.std.proofs.lemmas.Bool.{false≢true}

pub and-left : (a b : Bool) → IsTrue (a && b) → IsTrue a
and-left true b e = refl
and-left false b e = e

pub and-right : (a b : Bool) → IsTrue (a && b) → IsTrue b
and-right true b e = e
and-right false b e = absurd (false≢true e)

pub and-both : (a b : Bool) → IsTrue a → IsTrue b → IsTrue (a && b)
and-both a b p q = ap (λ (c : Bool). c && b) p ∙ q

pub same-some : {X : Type 0} (x y : X) → Some x ≡ Some y → x ≡ y
same-some x y e = cc
