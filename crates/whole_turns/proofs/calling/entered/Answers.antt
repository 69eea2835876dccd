use Rattle.std.proofs.Common.{◌∙◌, ◌++◌, List, option_map, is_some, sym, ap}
use Rattle.std.proofs.lemmas.Bool.{false≢true}
use Rattle.std.proofs.lemmas.List.{append-nil}
use Rattle.pale_typed.specs.declared.typed.Stmt.{Stmt}
use Rattle.hoare_split.specs.Callers.{entry_of}
use Rattle.whole_turns.specs.declared.pieces.Piece.{Piece}
use Rattle.whole_turns.specs.Standings.{left_of}
use Rattle.whole_turns.proofs.calling.entered.Goals as goal

pub unreachable-requires : goal.unreachable-requires
unreachable-requires c = absurd (false≢true (ap is_some (ap (option_map entry_of) (sym c.in_default.is) ∙ c.caller_at.ensures.entry) ∙ c.requires))

pub returns : goal.returns
returns c =
    let body = (c.in-Some.caller.proc.now).body in record {
      there = sym c.caller_at.ensures.entry ∙ ap (option_map entry_of) c.in-Some.is;
      body =
          ap left_of (c.in_ok-push.ensures.ok) ∙ ap (λ (b : List Stmt). b ++ left_of c.new-left.result) c.as_slice.ensures
          ∙ ap (λ (ps : List Piece). body ++ left_of ps) c.new-left.ensures ∙ append-nil body;
    }
