-- What a state of symbolic execution sees, as a view.
use Rattle.std.specs.Prelude.{List, reverse, None}
use Rattle.store_core.specs.Tables.{TypeEntry, VarEntry}
use Rattle.graph_view.specs.declared.view.View.{View}
use Rattle.site_list.specs.States.{State, next_track}

-- all cells, behind the events of the state
abbrev pub view_of : List TypeEntry → List VarEntry → State → View
view_of types vars st = record { vars = st.values; events = reverse st.events; region = None; next = next_track types vars st }
