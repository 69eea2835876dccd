use Rattle.std.proofs.Common.{◌∙◌, ap, length}
use Rattle.store_text.proofs.Fitting.{VarsFit-length, HasSlots-fit}
use Rattle.store_text.proofs.writer.store_text.Goals as goal

pub push_vars-requires : goal.push_vars-requires
push_vars-requires c = ap length c.values.ensures ∙ VarsFit-length c.args.store.now c.args.vars.now c.args.store.now.vars c.requires.values

pub push_cells-requires : goal.push_cells-requires
push_cells-requires c = HasSlots-fit c.args.types.now c.args.store.now c.requires.cells
