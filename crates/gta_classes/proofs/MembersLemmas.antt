-- Members of a class that leave its list, or stay there.
use Rattle.std.proofs.Common.{◌≡◌, ℕ, ◌<◌, Bool, List, [], ◌∷◌, ◌++◌, length, inl, inr}
use Rattle.std.proofs.Common.{sym, ◌∙◌, ap, subst}
use Rattle.std.specs.Prelude.{Contains, slice_index, slice_set}
use Rattle.std.proofs.lemmas.List.{get_or-set_same, get_or-set_other}
use Rattle.std.proofs.lemmas.List.Elements.{Contains-push, Contains-push_cases, Contains-append_left}
use Rattle.std.proofs.lemmas.Bool.{cases_eq}
use Rattle.gta_classes.specs.declared.part.SpaceClasses.{SpaceClasses}
use Rattle.gta_classes.specs.Chosen.{is_marked}
use Rattle.gta_classes.specs.Lists.{list_at, Leads}
use Rattle.gta_classes.specs.Cuts.{IsIn, IsDivided, Covers}

-- the last one of a list
module _ (part : SpaceClasses) (class : ℕ) (old members moved : List ℕ) (last : ℕ) (before : IsDivided part class old (members ++ last ∷ []) moved) where
  pub IsDivided-move : IsDivided part class old members (moved ++ last ∷ [])
  IsDivided-move q is there = elim (before q is there) [
    | inl in_members ↦ elim (Contains-push_cases members last q in_members) [
      | inl still ↦ inl still
      | inr same ↦ inr (subst (Contains (moved ++ last ∷ [])) same (Contains-push moved last))
    ]
    | inr in_moved ↦ inr (Contains-append_left moved (last ∷ []) q in_moved)
  ]

  pub IsDivided-drop : (IsIn part class last → ⊥) → IsDivided part class old members moved
  IsDivided-drop other q is there = elim (before q is there) [
    | inl in_members ↦ elim (Contains-push_cases members last q in_members) [
      | inl still ↦ inl still
      | inr same ↦ absurd (other (subst (IsIn part class) (sym same) is))
    ]
    | inr in_moved ↦ inr in_moved
  ]

-- another list of a class with all its states
pub Covers-members : (part : SpaceClasses) (lists : List (List ℕ)) (class : ℕ) (new : List ℕ) → class < length lists →
    ((q : ℕ) → IsIn part class q → Contains (list_at lists class) q → Contains new q) → Covers part lists → Covers part (slice_set lists class new)
Covers-members part lists class new inside kept covers q marked = elim (cases_eq (slice_index part.classes q) class) [
  | inl same ↦ subst (λ (xs : List ℕ). Contains xs q)
      (sym (ap (list_at (slice_set lists class new)) same ∙ get_or-set_same lists class new [] inside))
      (kept q (marked, same) (subst (λ (k : ℕ). Leads lists k q) same (covers q marked)))
  | inr other ↦ subst (λ (xs : List ℕ). Contains xs q)
      (sym (get_or-set_other lists class (slice_index part.classes q) new [] other)) (covers q marked)
]

-- other representatives
pub Covers-same : (old new : SpaceClasses) (lists : List (List ℕ)) → new.reached ≡ old.reached → new.classes ≡ old.classes →
    Covers old lists → Covers new lists
Covers-same old new lists same_reached same_classes covers q marked =
    subst (λ (xs : List ℕ). Leads lists (slice_index xs q) q) (sym same_classes)
    (covers q (sym (ap (λ (xs : List Bool). is_marked xs q) same_reached) ∙ marked))
