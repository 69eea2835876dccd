-- Of places one is the first at which a cause comes, or none comes.
use Rattle.std.proofs.Common.{◌≡◌, ◌⊎◌, inl, inr, ℕ, List, [], ◌∷◌, ◌++◌, refl, sym, ap, ◌∙◌, subst}
use Rattle.std.proofs.lemmas.List.Elements.{All-head, All-tail}
use Rattle.gta_theory.specs.Assignments.{Assignment, IsFinite}
use Rattle.ws2s_core.specs.declared.formula.Formula.TheVariants.{And}
use Rattle.ws2s_core.proofs.SatisfactionLemmas.{WSat-And}
use Rattle.ws2s_forms.proofs.LawsLemmas.{decided}
use Rattle.store_exec.specs.declared.cause.Cause.{Cause}
use Rattle.site_list.specs.States.{Check}
use Rattle.triple_meaning.specs.Sites.Places.{Comes, NoneComes, ComesFirst}
use Rattle.triple_meaning.proofs.sites.PlacesLemmas.{none-none, none-cons, first-right}

module _ (next : ℕ) (a : Assignment) where
  -- it is the first place, or one behind it where none comes at the first
  abbrev IsHereOrLater : Check → List Check → Cause → ℕ → Type 0
  IsHereOrLater c cs why line =
      (Comes next a c × (c.cause ≡ why) × (c.line ≡ line)) ⊎ ((Comes next a c → ⊥) × ComesFirst next a cs why line)

  no-first : (why : Cause) (line : ℕ) → ComesFirst next a [] why line → ⊥
  no-first why line first = by first.before first.order
    where
      by : (before : List Check) → [] ≡ before ++ first.check ∷ first.after → ⊥
      by [] order = cc
      by (b ∷ before) order = cc

  here-or-later : (c : Check) (cs : List Check) (why : Cause) (line : ℕ) → ComesFirst next a (c ∷ cs) why line → IsHereOrLater c cs why line
  here-or-later c cs why line first = by first.before first.order first.none
    where
      by : (before : List Check) → c ∷ cs ≡ before ++ first.check ∷ first.after → NoneComes next a before → IsHereOrLater c cs why line
      by [] order none =
          let same : c ≡ first.check = cc in
          inl (subst (λ d. Comes next a d) (sym same) first.comes, ap (λ (d : Check). d.cause) same ∙ first.is, ap (λ (d : Check). d.line) same ∙ first.at_line)
      by (b ∷ before) order none =
          let same : c ≡ b = cc in
          let rest : cs ≡ before ++ first.check ∷ first.after = cc in
          inr (
            (λ comes. All-head (λ (d : Check). Comes next a d → ⊥) b before none (subst (λ d. Comes next a d) same comes)),
            record {
              before = before;
              check = first.check;
              after = first.after;
              order = rest;
              none = All-tail (λ (d : Check). Comes next a d → ⊥) b before none;
              comes = first.comes;
              is = first.is;
              at_line = first.at_line;
            },
          )

  -- two that come first are one
  pub one-first : (cs : List Check) (why other : Cause) (line at : ℕ) → ComesFirst next a cs why line → ComesFirst next a cs other at →
      (why ≡ other) × (line ≡ at)
  one-first [] why other line at one two = absurd (no-first why line one)
  one-first (c ∷ cs) why other line at one two =
      elim (here-or-later c cs why line one) as (λ _. (why ≡ other) × (line ≡ at)) [
        | inl here ↦ elim (here-or-later c cs other at two) as (λ _. (why ≡ other) × (line ≡ at)) [
          | inl also ↦ (sym here.1 ∙ also.1, sym here.2 ∙ also.2)
          | inr later ↦ absurd (later.0 here.0)
        ]
        | inr later ↦ elim (here-or-later c cs other at two) as (λ _. (why ≡ other) × (line ≡ at)) [
          | inl here ↦ absurd (later.0 here.0)
          | inr also ↦ one-first cs why other line at later.1 also.1
        ]
      ]

  pub first-some : (cs : List Check) (why : Cause) (line : ℕ) → ComesFirst next a cs why line → NoneComes next a cs → ⊥
  first-some [] why line first none = no-first why line first
  first-some (c ∷ cs) why line first none = elim (here-or-later c cs why line first) as (λ _. ⊥) [
    | inl here ↦ All-head (λ (d : Check). Comes next a d → ⊥) c cs none here.0
    | inr later ↦ first-some cs why line later.1 (All-tail (λ (d : Check). Comes next a d → ⊥) c cs none)
  ]

  -- one comes first, or none comes
  abbrev pub SomeOrNone : List Check → Type 0
  SomeOrNone cs = NoneComes next a cs ⊎ ((why : Cause) × (line : ℕ) × ComesFirst next a cs why line)

  pub some-or-none : IsFinite a → (cs : List Check) → SomeOrNone cs
  some-or-none finite [] = inl (none-none next a)
  some-or-none finite (c ∷ cs) = elim (decided (And (c.reached next) (c.condition next)) a finite) as (λ _. SomeOrNone (c ∷ cs)) [
    | inl holds ↦ inr (
      c.cause,
      c.line,
      record {
        before = [];
        check = c;
        after = cs;
        order = refl;
        none = none-none next a;
        comes = (WSat-And (c.reached next) (c.condition next) a).0 holds;
        is = refl;
        at_line = refl;
      },
    )
    | inr lacks ↦ (
        let out : Comes next a c → ⊥ = λ h. lacks ((WSat-And (c.reached next) (c.condition next) a).1 h) in
        elim (some-or-none finite cs) as (λ _. SomeOrNone (c ∷ cs)) [
          | inl none ↦ inl (none-cons next a c cs out none)
          | inr found ↦ inr (
            found.0,
            found.1,
            first-right next a (c ∷ []) cs (found.0) (found.1) (none-cons next a c [] out (none-none next a)) found.2,
          )
        ])
  ]
