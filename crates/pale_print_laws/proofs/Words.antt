-- The reserved words and their kinds.
use Rattle.std.proofs.Common.{refl}
use Rattle.std.specs.Prelude.{codes}
use Rattle.pale_syntax.specs.declared.grammar.kind.ProgramKind.TheVariants as kind
use Rattle.pale_syntax.specs.declared.tree.names.Name.{Name}
use Rattle.pale_syntax.specs.ProgramWords.{name_kind}
use Rattle.pale_syntax.specs.FreeNames.{IsFree}
use Rattle.pale_print_laws.proofs.Framework.{IsWord}

pub is_name : {x : Name} → IsFree x → IsWord x.bytes kind.Name
is_name free = record { named = free.named; same = free.free }

pub is_type : IsWord (codes "type") kind.Type
unfolding name_kind
is_type = record { named = (refl, refl); same = refl }

pub is_bool : IsWord (codes "bool") kind.Bool
unfolding name_kind
is_bool = record { named = (refl, refl); same = refl }

pub is_data : IsWord (codes "data") kind.Data
unfolding name_kind
is_data = record { named = (refl, refl); same = refl }

pub is_pointer : IsWord (codes "pointer") kind.Pointer
unfolding name_kind
is_pointer = record { named = (refl, refl); same = refl }

pub is_pred : IsWord (codes "pred") kind.Pred
unfolding name_kind
is_pred = record { named = (refl, refl); same = refl }

pub is_set : IsWord (codes "set") kind.Set
unfolding name_kind
is_set = record { named = (refl, refl); same = refl }

pub is_proc : IsWord (codes "proc") kind.Proc
unfolding name_kind
is_proc = record { named = (refl, refl); same = refl }

pub is_returns : IsWord (codes "returns") kind.Returns
unfolding name_kind
is_returns = record { named = (refl, refl); same = refl }

pub is_logic : IsWord (codes "logic") kind.Logic
unfolding name_kind
is_logic = record { named = (refl, refl); same = refl }

pub is_pre : IsWord (codes "pre") kind.Pre
unfolding name_kind
is_pre = record { named = (refl, refl); same = refl }

pub is_post : IsWord (codes "post") kind.Post
unfolding name_kind
is_post = record { named = (refl, refl); same = refl }

pub is_skip : IsWord (codes "skip") kind.Skip
unfolding name_kind
is_skip = record { named = (refl, refl); same = refl }

pub is_if : IsWord (codes "if") kind.If
unfolding name_kind
is_if = record { named = (refl, refl); same = refl }

pub is_else : IsWord (codes "else") kind.Else
unfolding name_kind
is_else = record { named = (refl, refl); same = refl }

pub is_while : IsWord (codes "while") kind.While
unfolding name_kind
is_while = record { named = (refl, refl); same = refl }

pub is_split : IsWord (codes "split") kind.Split
unfolding name_kind
is_split = record { named = (refl, refl); same = refl }

pub is_assert : IsWord (codes "assert") kind.Assert
unfolding name_kind
is_assert = record { named = (refl, refl); same = refl }

pub is_free : IsWord (codes "free") kind.Free
unfolding name_kind
is_free = record { named = (refl, refl); same = refl }

pub is_new : IsWord (codes "new") kind.New
unfolding name_kind
is_new = record { named = (refl, refl); same = refl }

pub is_null : IsWord (codes "null") kind.Null
unfolding name_kind
is_null = record { named = (refl, refl); same = refl }

pub is_true : IsWord (codes "true") kind.True
unfolding name_kind
is_true = record { named = (refl, refl); same = refl }

pub is_false : IsWord (codes "false") kind.False
unfolding name_kind
is_false = record { named = (refl, refl); same = refl }

pub is_call : IsWord (codes "call") kind.Call
unfolding name_kind
is_call = record { named = (refl, refl); same = refl }

pub is_keep : IsWord (codes "keep") kind.Keep
unfolding name_kind
is_keep = record { named = (refl, refl); same = refl }

pub is_ex : IsWord (codes "ex") kind.Ex
unfolding name_kind
is_ex = record { named = (refl, refl); same = refl }

pub is_all : IsWord (codes "all") kind.All
unfolding name_kind
is_all = record { named = (refl, refl); same = refl }

pub is_in : IsWord (codes "in") kind.In
unfolding name_kind
is_in = record { named = (refl, refl); same = refl }

pub is_sub : IsWord (codes "sub") kind.Sub
unfolding name_kind
is_sub = record { named = (refl, refl); same = refl }

pub is_root : IsWord (codes "root") kind.Root
unfolding name_kind
is_root = record { named = (refl, refl); same = refl }
