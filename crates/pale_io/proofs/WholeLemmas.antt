-- Laws of `specs/Whole.antt`: what a piece more makes of a whole read or write, and what several whole writes make.
use Rattle.std.proofs.Common.{◌≡◌, ℕ, ◌+◌, ◌<◌, ◌≤◌, List, [], ◌++◌, take, length, Option, Some, None, refl, sym, ap, ◌∙◌, arith, length-append}
use Rattle.std.proofs.lemmas.List.{append-nil, take-append-le}
use Rattle.std.proofs.Math.Seq.{drop-append_seam, take-append_seam, take-append-add}
use Rattle.pale_io.specs.Told.{prepended, appended, IsEmpty}
use Rattle.pale_io.specs.Whole.{ReadsAll, ReadsTooMany, ReadsFront, WritesAll, WritesFront}
use Rattle.pale_io.proofs.ToldLemmas.{appended-appended, without_first-prepended, appended-none}

-- bytes were taken off the front, and then nothing is left
pub ReadsAll-at_end : (most : ℕ) (before after : Option (List ℕ)) (bytes : List ℕ) → length bytes ≤ most → before ≡ prepended bytes after
    → IsEmpty after → ReadsAll most before after bytes
ReadsAll-at_end most before None bytes fits front empty =
    rw front (record { within = fits; whole = tt; rest = refl })
ReadsAll-at_end most before (Some rest) bytes fits front empty =
    rw (front, empty) (record { within = fits; whole = sym (append-nil bytes); rest = refl })

-- one byte more than so many was taken off the front
pub ReadsTooMany-from_front : (most : ℕ) (before after : Option (List ℕ)) (bytes : List ℕ) → length bytes ≡ most + 1 → before ≡ prepended bytes after
    → ReadsTooMany most before after
ReadsTooMany-from_front most before None bytes fits front =
    rw front (record { more = tt; rest = refl })
ReadsTooMany-from_front most before (Some rest) bytes fits front =
    rw front (record { more = omega (arith, length-append bytes rest); rest = rw (← fits) (ap Some (sym (drop-append_seam bytes rest))) })

pub ReadsFront-from_front : (most : ℕ) (before after : Option (List ℕ)) (bytes : List ℕ) → length bytes ≤ most + 1 → before ≡ prepended bytes after
    → ReadsFront most before after
ReadsFront-from_front most before after bytes fits front = record {
  count = length bytes;
  within = fits;
  rest = rw front (sym (without_first-prepended bytes after));
}

-- one write after another
pub WritesAll-append : (before between after : Option (List ℕ)) (bytes more : List ℕ) → WritesAll before between bytes → WritesAll between after more
    → WritesAll before after (bytes ++ more)
WritesAll-append before between after bytes more first second =
    record { added = second.added ∙ ap (λ told. appended told more) first.added ∙ appended-appended before bytes more }

-- a stop at the first of two writes
pub WritesFront-longer : (before after : Option (List ℕ)) (bytes more : List ℕ) → WritesFront before after bytes → WritesFront before after (bytes ++ more)
WritesFront-longer before after bytes more stop = record {
  count = stop.count;
  within = omega (arith, stop.within, length-append bytes more);
  added = let fits : stop.count ≤ length bytes = omega (arith, stop.within) in rw take-append-le stop.added;
}

-- a stop at the second of two writes
pub WritesFront-append : (before between after : Option (List ℕ)) (bytes more : List ℕ) → WritesAll before between bytes
    → WritesFront between after more → WritesFront before after (bytes ++ more)
WritesFront-append before between after bytes more first stop = record {
  count = length bytes + stop.count;
  within = omega (arith, stop.within, length-append bytes more);
  added = rw take-append-add (stop.added ∙ ap (λ told. appended told (take stop.count more)) first.added ∙ appended-appended before bytes
      (take stop.count more));
}

-- nothing was written yet
pub WritesAll-none : (told : Option (List ℕ)) → WritesAll told told []
WritesAll-none told = record { added = sym (appended-none told) }

-- a stop between two writes
pub WritesFront-from_all : (before after : Option (List ℕ)) (bytes more : List ℕ) → WritesAll before after bytes → 0 < length more
    → WritesFront before after (bytes ++ more)
WritesFront-from_all before after bytes more first left = record {
  count = length bytes;
  within = omega (arith, length-append bytes more);
  added = rw take-append_seam first.added;
}

-- what several whole writes make, for `#[tactic(auto, using(pale_io::proofs::WholeLemmas::whole_writes))]`
pub ruleset whole_writes = (WritesAll-append, WritesFront-append, WritesFront-longer)
