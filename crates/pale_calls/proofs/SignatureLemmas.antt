-- Procedures as they are kept.
use Rattle.std.proofs.Common.{◌≡◌, ℕ, List, refl, position}
use Rattle.std.specs.Map.{keys_of}
use Rattle.std.specs.Str.{bytes_eq}
use Rattle.std.specs.declared.vec.Vec.{Vec}
use Rattle.std.specs.declared.alloc.Global.{Global}
use Rattle.store_core.proofs.Names.{position-keys}
use Rattle.pale_calls.specs.declared.signature.Signature.{Signature}
use Rattle.pale_calls.specs.Signatures.{named_of, signatures_of, number_of}

-- the number of a name among the keys
pub number-kept : (name : List ℕ) (es : List (Vec ℕ Global × Signature)) →
    position (λ k. bytes_eq name k.items) (keys_of es) ≡ number_of (signatures_of es) name
number-kept name es = position-keys name named_of (λ p. p.name) (λ e. refl) es
