-- The inodes at which an operation looks: those that it names, and the one to which the slot that it names leads.
use Rattle.std.specs.Prelude.{ℕ, Bool, false, ◌||◌, ◌&&◌, nat_eq, Option, Some, None}
use Rattle.std.specs.List.{list_any}
use Rattle.mb_tree.specs.declared.operations.FsOp.{FsOp}
use Rattle.mb_tree.specs.declared.trees.Tree.{Tree}
use Rattle.mb_tree.specs.Volume.{has_addresses}
use Rattle.mb_iface.specs.Near.{named_by, led_by}

abbrev pub is_led : Option ℕ → ℕ → Bool
is_led None ino = false
is_led (Some found) ino = nat_eq found ino

abbrev pub touches : Tree → FsOp → ℕ → Bool
touches tree op ino = list_any (nat_eq ino) (named_by op) || is_led (led_by tree.nodes op) ino

-- the inodes with addresses at which an operation looks
abbrev pub looked_at : Tree → (ℕ → Bool) → ℕ → Bool
looked_at tree looks ino = has_addresses tree ino && looks ino

-- some inodes, and one that is being made
abbrev pub and_one : (ℕ → Bool) → ℕ → ℕ → Bool
and_one has ino other = has other || nat_eq other ino
