-- Procedures of a program, from the first on.
use Rattle.std.proofs.Common.{◌≡◌, inl, inr, ℕ, ◌+◌, suc, add-one, Some, None, List, [], ◌∷◌, ◌++◌, map, drop, refl, sym, ap, ◌∙◌, append_assoc, append-nil}
use Rattle.std.specs.List.{slice_get}
use Rattle.std.proofs.Math.Seq.{drop-cons}
use Rattle.std.proofs.lemmas.List.{drop_all}
use Rattle.std.proofs.lemmas.Option.{slice_get_within, get_or_from_slice_get, slice_get_cases}
use Rattle.pale_text.specs.declared.refusal.Refusal.{Refusal}
use Rattle.pale_tables.specs.Faults.{◌>>◌, first_of}
use Rattle.pale_typed.specs.declared.typed.ProcEntry.{ProcEntry}
use Rattle.pale_typed.specs.TypedPrograms.{TypedProgram}
use Rattle.store_exec.specs.declared.triple.Triple.{Triple}
use Rattle.hoare_split.specs.Triples.{starts_of, triple_of, triples_from, triples_of, procedure_fault, split_fault}

drop-at : {X : Type 0} (xs : List X) (n : ℕ) (x : X) → slice_get xs n ≡ Some x → drop n xs ≡ x ∷ drop (n + 1) xs
drop-at xs n x e = drop-cons xs n x (slice_get_within xs n x e)
    ∙ ap (λ y. y ∷ drop (suc n) xs) (get_or_from_slice_get xs n x x e)
    ∙ ap (λ k. x ∷ drop k xs) (sym (add-one n))

drop-none : {X : Type 0} (xs : List X) (n : ℕ) → slice_get xs n ≡ None → drop n xs ≡ []
drop-none xs n e = elim (slice_get_cases xs n).1 [ inl some ↦ absurd (let is = some.2 in cc) | inr past ↦ drop_all n xs past.0 ]

module _ (program : TypedProgram) where
  -- the procedures before this number have no fault, and these are their triples
  pub record SplitUpto (number : ℕ) (triples : List Triple) : Type 0 where
    pub all : triples ++ triples_from program.procs number (drop number program.procs) ≡ triples_of program
    pub fault : split_fault program ≡ first_of (procedure_fault program.procs) (drop number program.procs)

  pub split-none : (triples : List Triple) → triples ≡ [] → SplitUpto 0 triples
  unfolding triples_of split_fault
  split-none triples none = record {
    all = ap (λ xs. xs ++ triples_from program.procs 0 program.procs) none;
    fault = refl;
  }

  module _ (number : ℕ) (triples : List Triple) (before : SplitUpto number triples) where
    pub split-last : slice_get program.procs number ≡ None → (split_fault program ≡ None) × (triples ≡ triples_of program)
    split-last none =
        let past = drop-none program.procs number none in (
          before.fault ∙ ap (first_of (procedure_fault program.procs)) past,
          sym (append-nil triples) ∙ ap (λ entries. triples ++ triples_from program.procs number entries) (sym past) ∙ before.all,
        )

    module _ (e : ProcEntry) (is : slice_get program.procs number ≡ Some e) where
      fault-at : split_fault program ≡ (procedure_fault program.procs e >> first_of (procedure_fault program.procs) (drop (number + 1) program.procs))
      fault-at = before.fault ∙ ap (first_of (procedure_fault program.procs)) (drop-at program.procs number e is)

      pub split-fault : (refusal : Refusal) → procedure_fault program.procs e ≡ Some refusal → split_fault program ≡ Some refusal
      split-fault refusal fault = fault-at ∙ ap (λ first. first >> first_of (procedure_fault program.procs) (drop (number + 1) program.procs)) fault

      pub split-one : (more : List Triple) → procedure_fault program.procs e ≡ None →
          more ≡ triples ++ map (triple_of number) (starts_of program.procs e) → SplitUpto (number + 1) more
      split-one more none adds = record {
        all = ap (λ xs. xs ++ triples_from program.procs (number + 1) (drop (number + 1) program.procs)) adds
            ∙ append_assoc triples (map (triple_of number) (starts_of program.procs e))
            (triples_from program.procs (number + 1) (drop (number + 1) program.procs))
            ∙ ap (λ entries. triples ++ triples_from program.procs number entries) (sym (drop-at program.procs number e is))
            ∙ before.all;
        fault = fault-at ∙ ap (λ first. first >> first_of (procedure_fault program.procs) (drop (number + 1) program.procs)) none;
      }
