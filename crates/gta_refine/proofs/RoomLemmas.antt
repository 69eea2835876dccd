-- More classes leave less room for others, so that refinement ends.
use Rattle.std.proofs.Common.{◌≡◌, ℕ, zero, suc, ◌+◌, ◌-◌, ◌<◌, ◌≤◌, ◌^◌, Bool, true, false, List, [], ◌∷◌, length}
use Rattle.std.proofs.Common.{refl, sym, ap, arith}
use Rattle.std.specs.Prelude.{slice_set, ◌||◌}
use Rattle.std.proofs.lemmas.Bool.{false≢true}
use Rattle.gta_classes.specs.declared.part.SpaceClasses.{SpaceClasses}
use Rattle.gta_refine.specs.Refined.{part_at, room_in, TakesRoom}

-- how many more classes a space may have
unfoldable pub room_of : SpaceClasses → ℕ
room_of part = 2 ^ 31 - length part.representatives

-- another part of a space takes the place of its room
pub room-set : (spaces : List SpaceClasses) (c : ℕ) (part : SpaceClasses) → c < length spaces →
    room_in (slice_set spaces c part) + room_of (part_at spaces c) ≡ room_in spaces + room_of part
unfolding room_of
room-set [] c part inside = absurd (omega arith)
room-set (own ∷ spaces) zero part inside = omega arith
room-set (own ∷ spaces) (suc c) part inside = let rest = room-set spaces c part (omega arith) in omega arith

pub TakesRoom-part : (more : Bool) (spaces : List SpaceClasses) (c : ℕ) (part : SpaceClasses) → c < length spaces →
    length part.representatives ≤ 2 ^ 31 →
    (more ≡ true → length (part_at spaces c).representatives < length part.representatives) →
    (more ≡ false → part.representatives ≡ (part_at spaces c).representatives) →
    TakesRoom more (room_in spaces) (room_in (slice_set spaces c part))
unfolding room_of
TakesRoom-part true spaces c part inside few longer same =
    let e = room-set spaces c part inside in let l = longer refl in omega arith
TakesRoom-part false spaces c part inside few longer same =
    let e = room-set spaces c part inside in let l = ap length (same refl) in omega arith

pub TakesRoom-twice : (one other : Bool) (a b c : ℕ) → TakesRoom one a b → TakesRoom other b c → TakesRoom (one || other) a c
TakesRoom-twice true true a b c first second = omega arith
TakesRoom-twice true false a b c first second = omega arith
TakesRoom-twice false true a b c first second = omega arith
TakesRoom-twice false false a b c first second = omega arith

-- more classes after others
pub TakesRoom-more : (one other : Bool) (a b c : ℕ) → other ≡ true → TakesRoom one a b → TakesRoom other b c → TakesRoom true a c
TakesRoom-more true true a b c is first second = omega arith
TakesRoom-more false true a b c is first second = omega arith
TakesRoom-more one false a b c is first second = absurd (false≢true is)

-- no more classes
pub TakesRoom-none : (one other : Bool) (a b c : ℕ) → other ≡ false → TakesRoom one a b → TakesRoom other b c → TakesRoom one a c
TakesRoom-none true false a b c is first second = omega arith
TakesRoom-none false false a b c is first second = omega arith
TakesRoom-none one true a b c is first second = absurd (false≢true (sym is))
