-- The refusal of tokens by the reader's stop.
use Rattle.std.proofs.Common.{◌≡◌, ℕ, List, sym, ◌∙◌, ap, ◌⊎◌, inl, inr}
use Rattle.ll1_reader.specs.declared.stop.ReadStop.{ReadStop}
use Rattle.ll1_reader.specs.declared.stop.ReadStop.TheVariants as reads
use Rattle.ll1_reader.specs.Grammars.{Rules}
use Rattle.ll1_reader.specs.Answers.{IsWrongAt, IsDeepAt}
use Rattle.pale_text.specs.declared.refusal.Refusal.{Refusal}
use Rattle.pale_text.specs.declared.refusal.RefusalKind.{RefusalKind}
use Rattle.pale_text.specs.declared.refusal.RefusalKind.TheVariants as kind
use Rattle.pale_text.specs.declared.refusal.TextStop.{TextStop}
use Rattle.pale_text.specs.declared.refusal.TextStop.TheVariants as stop
use Rattle.pale_text.specs.declared.place.Pos.{Pos}
use Rattle.pale_text.specs.declared.token.TokenList.{TokenList}
use Rattle.pale_text.specs.Refusals.{refused_at}
use Rattle.pale_text.specs.TextStops.{place_at, IsRefused}

told : (list : TokenList) (one other : ℕ) (why : RefusalKind) (refusal : Refusal) (answer : TextStop) → one ≡ other →
    place_at list other ≡ record { line = refusal.line; column = refusal.column } → refusal.kind ≡ why →
    answer ≡ stop.Refused (refused_at (place_at list one) why) → answer ≡ stop.Refused refusal
told list one other why refusal answer same place is said =
    let here : Pos = record { line = refusal.line; column = refusal.column } in
    let there : place_at list one ≡ here = ap (place_at list) same ∙ place in
    said ∙ ap stop.Refused (ap (λ p. refused_at p why) there ∙ ap (refused_at here) (sym is))

module _ {N P A K : Type 0} (rules : Rules N P A K) (limit : ℕ) (kinds : List K) (list : TokenList) (refusal : Refusal)
    (r : IsRefused rules limit kinds list refusal) where
  pub not_read : ((place : ℕ) → IsWrongAt rules limit kinds place → ⊥) → ((place : ℕ) → IsDeepAt rules limit kinds place → ⊥) → ⊥
  not_read wrong deep = elim r.fault [ inl f ↦ wrong r.number f.1 | inr f ↦ deep r.number f.1 ]

  pub told_wrong : (number : ℕ) (got : ReadStop) (is : got ≡ reads.Wrong number) (answer : TextStop) →
      ((place : ℕ) → IsWrongAt rules limit kinds place → (got ≡ reads.Wrong place) ⊎ (got ≡ reads.NoMemory)) →
      ((place : ℕ) → IsDeepAt rules limit kinds place → (got ≡ reads.Deep place) ⊎ (got ≡ reads.NoMemory)) →
      answer ≡ stop.Refused (refused_at (place_at list number) kind.Syntax) → (answer ≡ stop.Refused refusal) ⊎ (answer ≡ stop.NoMemory)
  told_wrong number got is answer wrong deep said =
      elim r.fault [
        | inl f ↦
            elim (wrong r.number f.1)
            [ inl e ↦ inl (told list number r.number kind.Syntax refusal answer (cc (e, is)) r.place f.0 said) | inr e ↦ absurd (cc (e, is)) ]
        | inr f ↦ elim (deep r.number f.1) [ inl e ↦ absurd (cc (e, is)) | inr e ↦ absurd (cc (e, is)) ]
      ]

  pub told_deep : (number : ℕ) (got : ReadStop) (is : got ≡ reads.Deep number) (answer : TextStop) →
      ((place : ℕ) → IsWrongAt rules limit kinds place → (got ≡ reads.Wrong place) ⊎ (got ≡ reads.NoMemory)) →
      ((place : ℕ) → IsDeepAt rules limit kinds place → (got ≡ reads.Deep place) ⊎ (got ≡ reads.NoMemory)) →
      answer ≡ stop.Refused (refused_at (place_at list number) kind.Deep) → (answer ≡ stop.Refused refusal) ⊎ (answer ≡ stop.NoMemory)
  told_deep number got is answer wrong deep said =
      elim r.fault [
        | inl f ↦ elim (wrong r.number f.1) [ inl e ↦ absurd (cc (e, is)) | inr e ↦ absurd (cc (e, is)) ]
        | inr f ↦
            elim (deep r.number f.1)
            [ inl e ↦ inl (told list number r.number kind.Deep refusal answer (cc (e, is)) r.place f.0 said) | inr e ↦ absurd (cc (e, is)) ]
      ]
