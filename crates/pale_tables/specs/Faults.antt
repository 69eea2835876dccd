-- Faults of a text: the rules are looked at in order, and the first that is broken counts.
use Rattle.std.specs.Prelude.{◌≡◌, Bool, List, [], ◌∷◌, Option, Some, None, if◌then◌else◌}
use Rattle.pale_text.specs.declared.place.Pos.{Pos}
use Rattle.pale_text.specs.declared.refusal.Refusal.{Refusal}
use Rattle.pale_text.specs.declared.refusal.RefusalKind.{RefusalKind}
use Rattle.pale_text.specs.declared.refusal.TextStop.{TextStop}
use Rattle.pale_text.specs.declared.refusal.TextStop.TheVariants as stop
use Rattle.pale_text.specs.Refusals.{refused_at}

-- what is refused first, if anything is
abbrev pub Fault : Type 0
Fault = Option Refusal

-- this has to be so, else the token at the place is refused with the kind
abbrev pub need : Bool → RefusalKind → Pos → Fault
need is kind place = if is then None else Some (refused_at place kind)

infixr 4 ◌>>◌
-- the first fault of the one, and where it has none, of what comes after it
abbrev pub ◌>>◌ : Fault → Fault → Fault
None >> after = after
Some refusal >> after = Some refusal

-- the first fault of each, in order
abbrev pub first_of : {X : Type 0} → (X → Fault) → List X → Fault
first_of fault [] = None
first_of fault (x ∷ xs) = fault x >> first_of fault xs

-- what a stop says of a fault: a refusal is that of the first fault, and want of memory says nothing
abbrev pub IsStop : Fault → TextStop → Type 0
IsStop fault (stop.Refused refusal) = fault ≡ Some refusal
IsStop fault stop.NoMemory = Unit {0}
