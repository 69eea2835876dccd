use Rattle.std.proofs.Common.{[], map, sym, ap, ◌∙◌}
use Rattle.pale_syntax.specs.declared.tree.declaration.TypeDeclaration.{TypeDeclaration}
use Rattle.pale_syntax.specs.declared.tree.declaration.PredicateDeclaration.{PredicateDeclaration}
use Rattle.pale_syntax.specs.declared.tree.declaration.Procedure.{Procedure}
use Rattle.pale_text.specs.declared.refusal.TextStop.TheVariants as stop
use Rattle.pale_tables.specs.Names.{repeated_fault}
use Rattle.pale_tables.specs.Types.{type_names_fault}
use Rattle.pale_tables.proofs.FaultLemmas.{stop_returned}
use Rattle.pale_types.proofs.ProgramLemmas.{map-twice, type-names-fine, predicate-names-fine, procedure-names-fine, basis-is}
use Rattle.pale_types.proofs.program.read_basis.Goals as goal

pub read_declared-requires : goal.read_declared-requires
read_declared-requires c =
    let ts = map (λ t. t.now) c.args.types.now in
    let ps = map (λ p. p.now) c.args.predicates.now in
    let qs = map (λ p. p.now) c.args.procedures.now in
    record {
      types =
          ap (type_names_fault []) (sym (map-twice (λ (t : TypeDeclaration). t.name) (λ t. t.now) c.args.types.now))
          ∙ type-names-fine ts ps qs c.requires;
      predicates =
          ap (repeated_fault []) (sym (map-twice (λ (p : PredicateDeclaration). p.name) (λ p. p.now) c.args.predicates.now))
          ∙ predicate-names-fine ts ps qs c.requires;
    }

pub signatures_of-requires : goal.signatures_of-requires
signatures_of-requires c =
    ap (repeated_fault []) (sym (map-twice (λ (p : Procedure). p.name) (λ p. p.now) c.args.procedures.now))
    ∙ procedure-names-fine (map (λ t. t.now) c.args.types.now) (map (λ p. p.now) c.args.predicates.now) (map (λ p. p.now) c.args.procedures.now)
    c.requires

pub returns-clause-basis : goal.returns-clause-basis
returns-clause-basis c =
    basis-is (map (λ t. t.now) c.args.types.now) (map (λ p. p.now) c.args.predicates.now) (map (λ p. p.now) c.args.procedures.now)
    c.in_ok-declared.declared c.in_ok-signatures.signatures c.in_ok-declared.ensures.declared c.in_ok-signatures.ensures

pub returns-in_err-signatures-clause-stop : goal.returns-in_err-signatures-clause-stop
returns-in_err-signatures-clause-stop c =
    stop_returned _ c.from_residual-in_err-signatures.result stop.NoMemory c.from_residual-in_err-signatures.ensures.1 tt
