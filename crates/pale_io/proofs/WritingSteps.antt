-- The loop of a whole write: what was written so far, and what is left to write.
use Rattle.std.proofs.Common.{◌≡◌, ℕ, ◌-◌, ◌<◌, ◌≤◌, List, ◌++◌, take, drop, length, Option, sym, ap, ◌∙◌, append_assoc, length-append, arith}
use Rattle.std.proofs.lemmas.List.{take-append-drop}
use Rattle.std.proofs.lemmas.Slice.{between_to_end}
use Rattle.std.proofs.Math.Seq.{take-append_seam}
use Rattle.pale_io.specs.Told.{appended}
use Rattle.pale_io.specs.Whole.{WritesFront}
use Rattle.pale_io.proofs.ToldLemmas.{appended-appended}

-- the sink holds what it held first and a front of the bytes, whose other end is still to be written
pub record WritesSoFar (first now : Option (List ℕ)) (first_faults faults : ℕ) (bytes rest : List ℕ) : Type 0 where
  pub written : List ℕ
  pub parts : bytes ≡ written ++ rest
  pub added : now ≡ appended first written
  pub kept : first_faults ≤ faults

-- a stop at the next piece
pub WritesFront-from_so_far : {first now : Option (List ℕ)} {first_faults faults : ℕ} {bytes rest : List ℕ} (after : Option (List ℕ))
    → WritesSoFar first now first_faults faults bytes rest → 0 < length rest → after ≡ now → WritesFront first after bytes
WritesFront-from_so_far {bytes = bytes} {rest = rest} after so_far more same = record {
  count = length so_far.written;
  within = omega (arith, ap length so_far.parts, length-append so_far.written rest);
  added = rw (same, so_far.parts, take-append_seam) so_far.added;
}

-- one more piece was written
pub WritesSoFar-more : {first now : Option (List ℕ)} {first_faults faults : ℕ} {bytes rest : List ℕ} (after : Option (List ℕ)) (later count end : ℕ)
    → WritesSoFar first now first_faults faults bytes rest → after ≡ appended now (take count rest) → faults ≤ later → length rest ≤ end
    → WritesSoFar first after first_faults later bytes (take (end - count) (drop count rest))
WritesSoFar-more {first = first} {rest = rest} after later count end so_far added kept fits = record {
  written = so_far.written ++ take count rest;
  parts = so_far.parts ∙ ap (λ xs. so_far.written ++ xs) (sym (take-append-drop count rest))
      ∙ sym (append_assoc so_far.written (take count rest) (drop count rest)) ∙ ap (λ xs. (so_far.written ++ take count rest) ++ xs)
      (sym (between_to_end rest count end fits));
  added = added ∙ ap (λ told. appended told (take count rest)) so_far.added ∙ appended-appended first so_far.written (take count rest);
  kept = omega (arith, so_far.kept);
}
