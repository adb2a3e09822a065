-- How many blocks the files of a tree hold: their parts and the index blocks that lead to them. Of the 13
-- addresses of an inode, 10 are direct, and one each is single, double and triple indirect; an index block
-- has 128 addresses (V7 filsys(5)).
use Rattle.std.specs.Prelude.{List, [], ◌∷◌, ℕ, zero, suc, ◌+◌, ◌-◌, ◌/◌, Bool, not, ◌&&◌, nat_eq, nat_le, nat_lt, length, map, filter, Option, Some, None}
use Rattle.std.specs.List.{list_any}
use Rattle.std.specs.FinMap as fin
use Rattle.std.specs.FinSet as set
use Rattle.std.specs.Ordering.{nat_cmp}
use Rattle.mb_tree.specs.Counting.{sum_below}
use Rattle.mb_tree.specs.declared.nodes.Node.{Node}
use Rattle.mb_tree.specs.declared.nodes.Body.{Body}
use Rattle.mb_tree.specs.declared.nodes.Body.TheVariants.{Regular, Directory, Special}
use Rattle.mb_tree.specs.declared.trees.Tree.{Tree}

abbrev pub is_within : ℕ → ℕ → ℕ → Bool
is_within low high part = nat_le low part && nat_lt part high

-- the groups of so many parts in a row, counted from low, that hold one of these part numbers below high
abbrev pub touched : ℕ → ℕ → ℕ → List ℕ → set.FinSet nat_cmp
touched low high size parts = set.from_list (map (λ part. (part - low) / size) (filter (is_within low high) parts))

-- another part of the same group
abbrev pub is_near : ℕ → ℕ → ℕ → ℕ → ℕ → Bool
is_near low high size part other = is_within low high other && nat_eq ((other - low) / size) ((part - low) / size)

-- the last of its group in a list, where rest are the parts that follow it
abbrev pub is_last : ℕ → ℕ → ℕ → ℕ → List ℕ → Bool
is_last low high size part rest = is_within low high part && not (list_any (is_near low high size part) rest)

-- the first part under the single, the double and the triple indirect address, and the first part past them
abbrev pub single : ℕ
single = 10

abbrev pub double : ℕ
double = 138

abbrev pub triple : ℕ
triple = 16522

abbrev pub most_parts : ℕ
most_parts = 2113674

-- an index block stands above each touched group of the 128, 16384 or 2097152 parts that it leads to
abbrev pub index_blocks : List ℕ → ℕ
index_blocks parts =
    set.len (touched single double 128 parts)
    + set.len (touched double triple 128 parts) + set.len (touched double triple 16384 parts)
    + set.len (touched triple most_parts 128 parts) + set.len (touched triple most_parts 16384 parts) + set.len (touched triple most_parts 2097152 parts)

-- 0, 1, .. count - 1
abbrev pub first_parts : ℕ → List ℕ
first_parts zero = []
first_parts (suc count) = count ∷ first_parts count

-- the parts that lie below a directory's size: 32 slots of 16 bytes fill one
abbrev pub parts_for : ℕ → ℕ
parts_for slots = (slots + 31) / 32

-- the numbers of the parts that a body has, each once
abbrev pub parts_of : Body → List ℕ
parts_of (Regular size parts) = fin.keys parts
parts_of (Directory slots) = first_parts (parts_for (length slots))
parts_of (Special size area) = []

abbrev pub body_cost : Body → ℕ
body_cost body = length (parts_of body) + index_blocks (parts_of body)

abbrev pub cost_at : Option Node → ℕ
cost_at None = 0
cost_at (Some node) = body_cost node.body

-- the cost of a tree: the sum over its inodes, inode 1 among them
abbrev pub cost : Tree → ℕ
cost tree = sum_below (λ ino. cost_at (fin.get tree.nodes ino)) (tree.last + 1)
