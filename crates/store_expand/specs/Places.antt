-- The places of the code as contracts see them.
use Rattle.std.specs.Prelude.{option_map}
use Rattle.store_logic.specs.Postfix.{Form}
use Rattle.store_expand.specs.declared.around.Around.{Around}
use Rattle.store_expand.specs.declared.places.Place.{Place}
use Rattle.store_expand.specs.Standing.{Standing}
use Rattle.store_expand.specs.Opening.{Spot, form_at}

-- the arguments, without the pointer that shares them
abbrev pub standing : Around → Standing
standing around = record { args = option_map (λ shared. shared.value) around.args; depth = around.depth }

-- the assertion, without the pointer to it, where it stands
abbrev pub spot : Place → Spot
spot place = (place.assertion.now, standing place.around)

-- the form there
abbrev pub form_there : Place → Form
form_there place = form_at (spot place)
