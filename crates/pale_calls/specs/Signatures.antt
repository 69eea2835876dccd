-- Procedures as calls see them.
use Rattle.std.specs.Prelude.{ℕ, List, map, Option}
use Rattle.std.specs.declared.vec.Vec.{Vec}
use Rattle.std.specs.declared.alloc.Global.{Global}
use Rattle.store_core.specs.Tables.{place_of}
use Rattle.pale_calls.specs.declared.signature.Signature.{Signature}

-- a procedure under its name
pub record Named : Type 0 where
  pub name : List ℕ
  pub signature : Signature

abbrev pub named_of : Vec ℕ Global × Signature → Named
named_of e = record { name = e.0.items; signature = e.1 }

-- the procedures as they are kept
abbrev pub signatures_of : List (Vec ℕ Global × Signature) → List Named
signatures_of entries = map named_of entries

abbrev pub procedure_names : List Named → List (List ℕ)
procedure_names procedures = map (λ p. p.name) procedures

-- the number of the procedure of this name
abbrev pub number_of : List Named → List ℕ → Option ℕ
number_of procedures name = place_of name (procedure_names procedures)
