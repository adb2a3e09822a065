-- The tree that the bytes of an image show, read by number, part and slot.
use Rattle.std.specs.Prelude.{List, ℕ, zero, suc, ◌+◌, ◌-◌, ◌∷◌, [], ◌++◌, Option, Some, None, map, length, nat_eq, if◌then◌else◌}
use Rattle.std.specs.List.{range_with_len}
use Rattle.mb_kinds.specs.Image.{Image}
use Rattle.mb_word.specs.Fields.{fsize_of, inode_block, inode_place, nlink_of, uid_of, gid_of, area_of, atime_of, mtime_of, ctime_of}
use Rattle.mb_tree.specs.Maps.{Numbered}
use Rattle.mb_tree.specs.Blocks.{part_in, first_list, list_in}
use Rattle.mb_tree.specs.Chain.{Listed}
use Rattle.mb_tree.specs.Cells.{from_cells}
use Rattle.mb_tree.specs.Cost.{cost, most_parts}
use Rattle.mb_tree.specs.Inodes.{is_directory, is_regular}
use Rattle.mb_tree.specs.Volume.{last_inode}
use Rattle.mb_tree.specs.declared.nodes.Body.{Body}
use Rattle.mb_tree.specs.declared.nodes.Body.TheVariants.{Regular, Directory, Special}
use Rattle.mb_tree.specs.declared.nodes.Node.{Node}
use Rattle.mb_tree.specs.declared.trees.Tree.{Tree}
use Rattle.mb_rules.specs.Files.{mode_at, size_at}
use Rattle.mb_rules.specs.Slots.{slots_at}

-- the parts of a file that are there, below a number; lemmas are stated at a variable, since at a numeral the
-- range unrolls
unfoldable pub parts_below : (ℕ → List ℕ) → ℕ → ℕ → Numbered (List ℕ)
parts_below blocks ino n = from_cells (map (part_in blocks ino) (range_with_len 0 n))

abbrev pub parts_at : (ℕ → List ℕ) → ℕ → Numbered (List ℕ)
parts_at blocks ino = parts_below blocks ino most_parts

unfoldable pub body_at : (ℕ → List ℕ) → ℕ → Body
body_at blocks ino =
    if is_regular (mode_at blocks ino) then Regular (size_at blocks ino) (parts_at blocks ino)
    else if is_directory (mode_at blocks ino) then Directory (slots_at blocks ino)
    else Special (size_at blocks ino) (area_of (blocks (inode_block ino)) (inode_place ino))

unfoldable pub node_at : (ℕ → List ℕ) → ℕ → Option Node
node_at blocks ino =
    if nat_eq (mode_at blocks ino) 0 then None
    else Some (record {
      mode = mode_at blocks ino;
      nlink = nlink_of (blocks (inode_block ino)) (inode_place ino);
      uid = uid_of (blocks (inode_block ino)) (inode_place ino);
      gid = gid_of (blocks (inode_block ino)) (inode_place ino);
      atime = atime_of (blocks (inode_block ino)) (inode_place ino);
      mtime = mtime_of (blocks (inode_block ino)) (inode_place ino);
      ctime = ctime_of (blocks (inode_block ino)) (inode_place ino);
      body = body_at blocks ino;
    })

unfoldable pub nodes_in : (ℕ → List ℕ) → Numbered Node
nodes_in blocks = from_cells (map (node_at blocks) (range_with_len 0 (last_inode blocks + 1)))

-- the addresses of the places n, n - 1, .. 1
unfoldable pub upper : (ℕ → ℕ) → ℕ → List ℕ
upper entry zero = []
upper entry (suc n) = entry (suc n) ∷ upper entry n

abbrev pub next_chain : (ℕ → List ℕ) → ℕ → ℕ → List ℕ
next_chain lists zero entry = []
next_chain lists (suc more) zero = []
next_chain lists (suc more) (suc before) = suc before ∷ lists (suc before)

-- the free blocks in the order in which they are taken
unfoldable pub chain_in : (ℕ → List ℕ) → ℕ → Listed → List ℕ
chain_in blocks zero it = []
chain_in blocks (suc lists) it = upper it.entry (it.count - 1) ++ next_chain (λ block. chain_in blocks lists (list_in blocks block)) it.count (it.entry 0)

abbrev pub chain_of : (ℕ → List ℕ) → List ℕ
chain_of blocks = chain_in blocks (fsize_of (blocks 1) + 1) (first_list blocks)

unfoldable pub tree_of : Image → Tree
tree_of image = record {
  last = last_inode image.at;
  cap = cost (record { last = last_inode image.at; cap = 0; nodes = nodes_in image.at }) + length (chain_of image.at);
  nodes = nodes_in image.at;
}
