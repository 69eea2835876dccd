-- The words in which the faults of a store text are printed.
use Rattle.std.specs.Prelude.{ℕ, List, codes}
use Rattle.store_text.specs.declared.fault.StoreKind.{StoreKind}
use Rattle.store_text.specs.declared.fault.StoreKind.TheVariants as kind

-- the word that is printed for a kind of fault
abbrev pub word_of : StoreKind → List ℕ
word_of kind.Syntax = codes "syntax"
word_of kind.UnknownName = codes "unknown-name"
word_of kind.WrongType = codes "wrong-type"
word_of kind.Repeated = codes "repeated"
word_of kind.Missing = codes "missing"
word_of kind.NoMemory = codes "no-memory"
