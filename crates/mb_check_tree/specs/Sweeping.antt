-- The inodes that opening a volume leaves in use.
use Rattle.std.specs.Prelude.{List, ℕ, not, cond, Option, None}
use Rattle.mb_tree.specs.Opening.{is_nameless}
use Rattle.mb_tree.specs.declared.nodes.Node.{Node}
use Rattle.mb_rules.specs.TreeOf.{node_at}

-- an inode but for a file without a name
abbrev pub kept_node : ℕ → Option Node → Option Node
kept_node ino node = cond (not (is_nameless ino node)) node None

abbrev pub swept_at : (ℕ → List ℕ) → ℕ → Option Node
swept_at blocks ino = kept_node ino (node_at blocks ino)
