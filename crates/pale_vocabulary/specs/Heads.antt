-- Predicates by their names and the sorts of their parameters.
use Rattle.std.specs.Prelude.{ℕ, List, [], map, slice_get}
use Rattle.std.specs.Option.{option_map_or}
use Rattle.std.specs.declared.vec.Vec.{Vec}
use Rattle.std.specs.declared.alloc.Global.{Global}
use Rattle.pale_terms.specs.declared.sort.Sort.{Sort}

-- a predicate's name and its parameters
pub record Head : Type 0 where
  pub name : List ℕ
  pub params : List Sort

abbrev pub head_of : Vec ℕ Global × List Sort → Head
head_of e = record { name = e.0.items; params = e.1 }

-- the predicates as they are kept
abbrev pub heads_of : List (Vec ℕ Global × List Sort) → List Head
heads_of entries = map head_of entries

abbrev pub head_names : List Head → List (List ℕ)
head_names preds = map (λ head. head.name) preds

-- the sorts of the parameters of a predicate
abbrev pub params_at : List Head → ℕ → List Sort
params_at preds place = option_map_or (λ head. head.params) (slice_get preds place) []
