-- Predicates as they are kept.
use Rattle.std.proofs.Common.{◌≡◌, ℕ, List, refl, position}
use Rattle.std.specs.Map.{keys_of}
use Rattle.std.specs.Str.{bytes_eq}
use Rattle.std.specs.declared.vec.Vec.{Vec}
use Rattle.std.specs.declared.alloc.Global.{Global}
use Rattle.store_core.specs.Tables.{place_of}
use Rattle.store_core.proofs.Names.{position-keys}
use Rattle.pale_terms.specs.declared.sort.Sort.{Sort}
use Rattle.pale_vocabulary.specs.Heads.{head_of, heads_of, head_names}

-- the place of a name among the keys
pub place-kept : (name : List ℕ) (es : List (Vec ℕ Global × List Sort)) →
    position (λ k. bytes_eq name k.items) (keys_of es) ≡ place_of name (head_names (heads_of es))
place-kept name es = position-keys name head_of (λ h. h.name) (λ e. refl) es
