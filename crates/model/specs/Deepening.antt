-- Document 01, "Node and site" and "Order": appending a child name to every site. Seeding does the
-- same into a second room.
use Rattle.std.specs.Prelude.{◌&&◌, cond, List, [], map, ℕ}
use Rattle.model.specs.Path.{last_name, append_name}
use Rattle.model.specs.Node.{Node, changed}
use Rattle.model.specs.Graph.{Graph}

abbrev pub deepened : List ℕ → Node → Node
deepened name x = changed x.flags x.parent x.origin (append_name x.path name) x

-- "Deepening, and seeding in the room it fills, keeps both if finalized, else clears ordered"
unfoldable pub deepen : List ℕ → Graph → Graph
deepen name g = record {
  nodes = map (deepened name) g.nodes;
  children = g.children;
  order = cond g.finalized g.order [];
  ordered = g.ordered && g.finalized;
  finalized = g.finalized;
  shallow = g.shallow;
}

-- "append the last name of a path that must end in a name"
abbrev pub append_child_name_to_all_sites : List ℕ → Graph → Graph
append_child_name_to_all_sites child g = deepen (last_name child) g
