use Rattle.std.proofs.Common.{◌≡◌, ◌++◌, map, take}
use Rattle.site_list.specs.Sites.{site_at, path_causes}
use Rattle.site_list.proofs.reading.push_path.Given as goal

-- the sites of the fields so far are added
abbrev pub invariant-loop-field : goal.invariant-loop-field
invariant-loop-field l = l.sites ≡ l.initial.sites ++ map (site_at l.line) (path_causes l.types (take l.field-index l.fields))
