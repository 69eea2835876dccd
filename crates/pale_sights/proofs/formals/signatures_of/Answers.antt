use Rattle.std.proofs.Common.{◌≡◌, ◌+◌, ◌++◌, ◌∷◌, [], None, drop, map, append_assoc, sym, ap, ◌∙◌, subst}
use Rattle.std.proofs.lemmas.List.{map_push}
use Rattle.store_core.specs.Tables.{place_of}
use Rattle.pale_tables.specs.Names.{repeated_fault}
use Rattle.pale_tables.proofs.StageLemmas.{item-next}
use Rattle.pale_vocabulary.proofs.NameLemmas.{names-first, names-rest}
use Rattle.pale_calls.specs.Signatures.{Named, procedure_names}
use Rattle.pale_sights.specs.Formals.{named_of}
use Rattle.pale_sights.proofs.formals.signatures_of.Goals as goal

pub add-requires : goal.add-requires
add-requires c =
    let ps = c.args.procedures.now in
    let i = c.loop-procedure.procedure-index in
    let p = c.procedure-item.result in
    let before = procedure_names c.loop-procedure.found in
    let next : drop i ps ≡ p ∷ drop (i + 1) ps = item-next ps i p c.loop-procedure-test.true c.procedure-item.is in
    subst (λ n. place_of n before ≡ None) (sym c.as_slice.ensures)
    (names-first before p.now.name (map (λ q. q.now.name) (drop (i + 1) ps))
    (ap (λ l. repeated_fault before (map (λ q. q.now.name) l)) (sym next) ∙ c.loop-procedure.invariant.names))

pub loop-procedure-preserved : goal.loop-procedure-preserved
loop-procedure-preserved c =
    let ps = c.args.procedures.now in
    let i = c.loop-procedure.procedure-index in
    let p = c.procedure-item.result in
    let found = c.loop-procedure.found in
    let before = procedure_names found in
    let types = c.args.types.now in
    let rest = map (named_of types) (map (λ q. q.now) (drop (i + 1) ps)) in
    let names = map (λ q. q.now.name) (drop (i + 1) ps) in
    let one : Named = named_of types p.now in
    let next : drop i ps ≡ p ∷ drop (i + 1) ps = item-next ps i p c.loop-procedure-test.true c.procedure-item.is in
    let made =
    c.in_ok-add.ensures.added
    ∙ ap (λ n. found ++ record { name = n; signature = c.in_ok-signature.signature } ∷ []) c.as_slice.ensures
    ∙ ap (λ s. found ++ record { name = p.now.name.bytes; signature = s } ∷ []) c.in_ok-signature.ensures in
    record {
      names =
          ap (λ fs. repeated_fault (procedure_names fs) names) made
          ∙ ap (λ l. repeated_fault l names) (map_push (λ (n : Named). n.name) found one)
          ∙ names-rest before p.now.name names
          (ap (λ l. repeated_fault before (map (λ q. q.now.name) l)) (sym next) ∙ c.loop-procedure.invariant.names);
      found =
          ap (λ fs. fs ++ rest) made
          ∙ append_assoc found (one ∷ []) rest
          ∙ ap (λ l. found ++ map (named_of types) (map (λ q. q.now) l)) (sym next)
          ∙ c.loop-procedure.invariant.found;
    }
