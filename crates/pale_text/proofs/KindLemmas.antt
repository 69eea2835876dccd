-- Looking up reserved words.
use Rattle.std.proofs.Common.{◌≡◌, ℕ, Bool, true, false, cond, if◌then◌else◌, List, [], ◌∷◌, map, Option, Some, None, Bor, refl}
use Rattle.std.specs.List.{find}
use Rattle.std.specs.Str.{bytes_eq}
use Rattle.pale_text.specs.Kinds.{kind_among}

-- the kind beside the word that was found
abbrev pub kind_found : {K : Type 0} → K → Option (Bor (List ℕ) × K) → K
kind_found other None = other
kind_found other (Some word) = word.1

pub found_among : {K : Type 0} (words : List (Bor (List ℕ) × K)) (other : K) (wanted : List ℕ) →
    kind_found other (find (λ word. bytes_eq word.0.now wanted) words) ≡ kind_among (map (λ word. (word.0.now, word.1)) words) other wanted
found_among [] other wanted = refl
found_among {K} (word ∷ words) other wanted = by (bytes_eq word.0.now wanted) (found_among words other wanted)
  where
    by : (same : Bool) →
        kind_found other (find (λ one. bytes_eq one.0.now wanted) words) ≡ kind_among (map (λ one. (one.0.now, one.1)) words) other wanted →
        kind_found other (cond same (Some word) (find (λ one. bytes_eq one.0.now wanted) words))
        ≡ (if same then word.1 else kind_among (map (λ one. (one.0.now, one.1)) words) other wanted)
    by true later = refl
    by false later = later
