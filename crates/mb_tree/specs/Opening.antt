-- The reference model as it begins, on a volume that is opened.
use Rattle.std.specs.Prelude.{List, ℕ, Bool, false, ◌&&◌, not, nat_eq, Option, Some, None, map}
use Rattle.std.specs.FinMap as fin
use Rattle.std.specs.Ordering.{nat_cmp}
use Rattle.mb_kinds.specs.declared.credentials.Cred.{Cred}
use Rattle.mb_tree.specs.Inodes.{is_directory}
use Rattle.mb_tree.specs.declared.nodes.Node.{Node}
use Rattle.mb_tree.specs.declared.seats.Seat.{Seat}
use Rattle.mb_tree.specs.declared.machines.Machine.{Machine}
use Rattle.mb_tree.specs.declared.trees.Tree.{Tree}

-- a file without a name, which was open when the volume was last left; inode 1 is the bad-block file
-- of V7, which has none
abbrev pub is_nameless : ℕ → Option Node → Bool
is_nameless ino None = false
is_nameless ino (Some node) = nat_eq node.nlink 0 && not (is_directory node.mode) && not (nat_eq ino 1)

-- the nodes without the nameless files, which opening a volume reclaims (this project's choice)
unfoldable pub swept : fin.FinMap nat_cmp Node → fin.FinMap nat_cmp Node
swept nodes = fin.retain_keys nodes (λ ino. not (is_nameless ino (fin.get nodes ino)))

-- a caller begins in the root, with no descriptor and no bit masked (this project's choice)
abbrev pub first_seat : Cred → Seat
first_seat cred = record { cred = cred; cwd = 2; umask = 0; fds = fin.empty; files = fin.empty }

-- what the callers find on a volume of that tree
abbrev pub opening : Tree → List Cred → Machine
opening tree callers = record { tree = record tree { nodes = swept tree.nodes }; seats = map first_seat callers }
