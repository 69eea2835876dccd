-- The cells that the code of a triple makes: each has a spare slot in the trees of its stores. (Møller and Schwartzbach, PLDI 2001;
-- slots are this project's.)
use Rattle.std.specs.Prelude.{List, [], ◌∷◌, flat_map}
use Rattle.store_core.specs.declared.ids.VariantId.{VariantId}
use Rattle.store_logic.specs.declared.act.Rhs.{Rhs}
use Rattle.store_logic.specs.declared.act.Rhs.TheVariants as rhs
use Rattle.store_logic.specs.declared.act.Act.{Act}
use Rattle.store_logic.specs.declared.act.Act.TheVariants as act
use Rattle.store_exec.specs.declared.code.Item.{Item}
use Rattle.store_exec.specs.declared.code.Code.{Code}
use Rattle.store_exec.specs.declared.triple.Triple.{Triple}
use Rattle.store_exec.specs.Acting.{acts_of, acts_of_item}

-- the variant of the cell that is made to be assigned, where one is
abbrev pub made_by : Rhs → List VariantId
made_by (rhs.Cell p) = []
made_by (rhs.New v) = v ∷ []
made_by (rhs.Truth c) = []

-- the same of an act
abbrev pub made_in : Act → List VariantId
made_in (act.Assign p x) = made_by x
made_in (act.Free v) = []
made_in (act.Assert a) = []

-- the variants of the cells that these acts make, in order
abbrev pub made_in_all : List Act → List VariantId
made_in_all = flat_map made_in

-- the same of all parts of an item, of items and of a code, from the left
abbrev pub made_in_item : Item → List VariantId
made_in_item i = made_in_all (acts_of_item i)

abbrev pub made_in_items : List Item → List VariantId
made_in_items items = flat_map made_in_item items

abbrev pub made_in_code : Code → List VariantId
made_in_code c = made_in_all (acts_of c)

-- the variants of the cells that the code of the triple makes
abbrev pub spares_of : Triple → List VariantId
spares_of t = made_in_code t.code
