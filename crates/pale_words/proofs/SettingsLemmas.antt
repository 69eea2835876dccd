-- What the getters of the matches give, by the rows.
use Rattle.std.proofs.Common.{◌≡◌, ℕ, List, refl, ap, sym, subst, Option, Some, None, Result, Ok, option_map, inl, inr, []}
use Rattle.std.specs.Prelude.{IfNone, IfSome, IsSome, ◌≢◌}
use Rattle.clap.specs.Words.{HasKind, IsAmong, Kinds, kind_of}
use Rattle.clap.specs.declared.error.Error.{Error}
use Rattle.clap.specs.declared.error.kind.ErrorKind.TheVariants.{OutOfMemory}
use Rattle.std.specs.Str.Parse.{ParsesUnsigned, digits_value, without_leading_plus}
use Rattle.clap.specs.Matches.{ReadsOne}

-- a number that a getter reads is what the digits of its text write
pub number_read : {E : Type 0} (G : List ℕ → Result ℕ E → Type 0) (o : Option (List ℕ)) (r : Option ℕ)
    → (o ≡ None → r ≡ None) → ((t : List ℕ) → o ≡ Some t → ReadsOne G t r) → ((u : List ℕ) (x : Result ℕ E) → G u x → ParsesUnsigned 32 10 u x)
    → IfSome r (λ n. option_map (λ text. digits_value 10 (without_leading_plus text)) o ≡ Some n)
number_read G None r none value parses = subst (λ (x : Option ℕ). IfSome x (λ n. None ≡ Some n)) (sym (none refl)) tt
number_read {E} G (Some t) (Some n) none value parses = ap (λ (m : ℕ). Some m) (sym (parses t (Ok n) (value t refl)).1)
number_read G (Some t) None none value parses = tt

pub some_from : {X Y : Type 0} (f : X → Y) (o : Option X) (y : Y) → option_map f o ≡ Some y → IsSome o
some_from f None y same = cc
some_from f (Some x) y same = refl

pub not_none : {X : Type 0} (o : Option X) (P : Type 0) → IfNone o P → (P → ⊥) → IsSome o
not_none None P is other = absurd (other is)
not_none (Some x) P is other = refl

-- an error that isn't want of memory has one of the kinds
pub some_fault : (faults : Kinds) (e : Error) → HasKind faults e → kind_of e ≢ OutOfMemory → faults ≢ []
some_fault faults e (inl memory) other none = other memory
some_fault faults e (inr among) other none = subst (IsAmong (kind_of e)) none among
