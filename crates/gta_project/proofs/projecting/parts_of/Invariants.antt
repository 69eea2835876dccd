use Rattle.std.proofs.Common.{◌≡◌, length, All}
use Rattle.bdd_nodes.specs.Shelf.{Contents, IsValid}
use Rattle.bdd_nodes.specs.Changes.{Keeps, SameTables}
use Rattle.gta_subsets.specs.Subsets.{subsets}
use Rattle.gta_core.specs.Auto.{automaton_of}
use Rattle.gta_project.specs.Building.{AreSpaces, FitAll, ExtendAll, Building, AreParts}
use Rattle.gta_project.proofs.projecting.parts_of.Given as goal

abbrev pub invariant-loop-space : goal.invariant-loop-space
invariant-loop-space l = record {
  keeps : Keeps l.fn.shelf l.shelf;
  tables : SameTables l.fn.shelf l.shelf;
  are : AreSpaces l.g (subsets (automaton_of l.fn.shelf l.a) l.track l.initials) l.numbers.items;
  extends : ExtendAll l.fn.numbers.items l.numbers.items;
  building : (start : Contents) → Building l.g (subsets (automaton_of l.fn.shelf l.a) l.track l.initials) start l.fn.shelf l.fn.numbers.items →
      Building l.g (subsets (automaton_of l.fn.shelf l.a) l.track l.initials) start l.shelf l.numbers.items;
  fits : FitAll l.track l.shelf l.joiners.items l.numbers.items;
  valid : All (IsValid l.shelf) l.roots;
  many : length l.parts ≡ l.space;
  parts : l.numbers.items ≡ l.fn.numbers.items →
      AreParts l.g (subsets (automaton_of l.fn.shelf l.a) l.track l.initials) l.a l.fn.numbers.items l.fn.numbers.items l.shelf l.roots l.parts;
}
