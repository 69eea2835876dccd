-- The programs of the generator: types of a list, of a doubly linked list and of a tree, and so many procedures, one template after
-- the other. (The procedures are textbook ones; their choice and their spelling are our own.)
use Rattle.std.specs.Prelude.{ℕ, ◌+◌, ◌-◌, ◌%◌, ◌==◌, List, [], ◌∷◌, ◌++◌, codes, if◌then◌else◌}
use Rattle.std.specs.List.{flat_map, range_with_len}
use Rattle.std.specs.Fmt.{decimal}

-- what each program begins with
abbrev pub types_text : List ℕ
types_text =
    codes "type Node = { data next: Node; }\n"
    ++ codes "type Dbl = { data next: Dbl; pointer prev: Dbl [^next]; }\n"
    ++ codes "type Tree = { data left: Tree; data right: Tree; }\n"

-- ---- templates: `@` stands for the number of the procedure, and `%` for that of the one before

-- a new cell before a list
abbrev pub push_template : List ℕ
push_template =
    codes "proc push@(data x: Node) returns (data y: Node)\n"
    ++ codes "logic set S: Node\n"
    ++ codes "pre [all c: Node: c in S]\n"
    ++ codes "post [all c: Node: c in S | c = y] {\n"
    ++ codes "  y = new Node;\n"
    ++ codes "  y.next = x;\n"
    ++ codes "}\n"

-- a list the other way round
abbrev pub reverse_template : List ℕ
reverse_template =
    codes "proc reverse@(data x: Node) returns (data y: Node)\n"
    ++ codes "logic set S: Node\n"
    ++ codes "pre [all c: Node: c in S]\n"
    ++ codes "post [all c: Node: c in S] {\n"
    ++ codes "  data t: Node;\n"
    ++ codes "  while (x != null) [(all c: Node: c in S) & t = null] {\n"
    ++ codes "    t = x.next;\n"
    ++ codes "    x.next = y;\n"
    ++ codes "    y = x;\n"
    ++ codes "    x = t;\n"
    ++ codes "    t = null;\n"
    ++ codes "  }\n"
    ++ codes "}\n"

-- a list reversed twice, by two calls
abbrev pub twice_template : List ℕ
twice_template =
    codes "proc twice@(data x: Node) returns (data y: Node)\n"
    ++ codes "logic set S: Node\n"
    ++ codes "pre [all c: Node: c in S]\n"
    ++ codes "post [all c: Node: c in S] {\n"
    ++ codes "  call y = reverse%(x; S);\n"
    ++ codes "  call y = reverse%(y; S) keep [x = null];\n"
    ++ codes "}\n"

-- a new cell before a doubly linked list
abbrev pub dpush_template : List ℕ
dpush_template =
    codes "proc dpush@(data x: Dbl) returns (data y: Dbl) {\n"
    ++ codes "  y = new Dbl;\n"
    ++ codes "  y.next = x;\n"
    ++ codes "  if (x != null) {\n"
    ++ codes "    x.prev = y;\n"
    ++ codes "  }\n"
    ++ codes "}\n"

-- a tree below the leftmost cell of another
abbrev pub graft_template : List ℕ
graft_template =
    codes "proc graft@(data t: Tree, data s: Tree) returns (data r: Tree) {\n"
    ++ codes "  pointer p: Tree;\n"
    ++ codes "  if (t == null) {\n"
    ++ codes "    r = s;\n"
    ++ codes "  } else {\n"
    ++ codes "    p = t;\n"
    ++ codes "    while (p.left != null) [t<left*>p & r = null] {\n"
    ++ codes "      p = p.left;\n"
    ++ codes "    }\n"
    ++ codes "    p.left = s;\n"
    ++ codes "    r = t;\n"
    ++ codes "  }\n"
    ++ codes "}\n"

-- the cells of a list freed
abbrev pub drop_template : List ℕ
drop_template =
    codes "proc drop@(data x: Node) {\n"
    ++ codes "  data t: Node;\n"
    ++ codes "  while (x != null) [t = null] {\n"
    ++ codes "    t = x.next;\n"
    ++ codes "    free x;\n"
    ++ codes "    x = t;\n"
    ++ codes "    t = null;\n"
    ++ codes "  }\n"
    ++ codes "}\n"

-- the template whose turn it is
abbrev pub template_of : ℕ → List ℕ
template_of turn =
    if turn == 0 then push_template else if turn == 1 then reverse_template else if turn == 2 then twice_template
    else if turn == 3 then dpush_template else if turn == 4 then graft_template else drop_template

-- ---- programs

-- a byte of a template, with the numbers put in
abbrev pub filled : ℕ → ℕ → List ℕ
filled k byte = if byte == 64 then decimal k else if byte == 37 then decimal (k - 1) else byte ∷ []

-- the procedure with this number
abbrev pub procedure_text : ℕ → List ℕ
procedure_text k = flat_map (filled k) (template_of (k % 6))

-- the program of a seed: it has one procedure more than the seed leaves when it is divided by 40
abbrev pub program_text : ℕ → List ℕ
program_text seed = types_text ++ flat_map procedure_text (range_with_len 0 (seed % 40 + 1))
