-- The scan's third and fourth part: the inodes in increasing number, each with its addresses (rules 5 to
-- 8), and the root (rule 9).
use Rattle.std.specs.Prelude.{List, [], ◌∷◌, ◌++◌, ℕ, zero, suc, ◌-◌, ◌*◌, ◌%◌, Bool, true, not, ◌&&◌, ◌||◌, nat_eq, nat_le, nat_lt, if◌then◌else◌, is_some, is_none}
use Rattle.mb_word.specs.Fields.{inode_block, inode_place, mode_of, size_of, address_of, index_entry}
use Rattle.mb_tree.specs.Blocks.{part_in}
use Rattle.mb_tree.specs.Cost.{most_parts}
use Rattle.mb_tree.specs.Counting.{any_from}
use Rattle.mb_tree.specs.Inodes.{is_directory, is_regular, is_special}
use Rattle.mb_tree.specs.Volume.{last_inode}
use Rattle.mb_rules.specs.Items.{Item, Holds, Held, each_from}
use Rattle.mb_rules.specs.FreeChain.{is_open}

-- the mode and the size of an inode; there is no inode 0
abbrev pub mode_at : (ℕ → List ℕ) → ℕ → ℕ
mode_at blocks zero = 0
mode_at blocks (suc before) = mode_of (blocks (inode_block (suc before))) (inode_place (suc before))

abbrev pub size_at : (ℕ → List ℕ) → ℕ → ℕ
size_at blocks ino = size_of (blocks (inode_block ino)) (inode_place ino)

-- rule 5
abbrev pub is_kind : ℕ → Bool
is_kind mode = is_regular mode || is_directory mode || is_special mode

-- rule 8 on the size
abbrev pub is_size : ℕ → ℕ → Bool
is_size mode size =
    if is_regular mode then nat_le size 1082201088
    else if is_directory mode then nat_le 32 size && nat_eq (size % 16) 0
    else true

-- rule 8 on the parts of a directory: they are exactly those below its size
unfoldable pub are_parts : (ℕ → List ℕ) → ℕ → Bool
are_parts blocks ino = not (any_from (λ part. if nat_lt (512 * part) (size_at blocks ino) then is_none (part_in blocks ino part) else is_some (part_in blocks ino part)) 0 most_parts)

-- rule 6 on an index block: one of its 128 longs is not 0
abbrev pub leads_on : (ℕ → List ℕ) → ℕ → Bool
leads_on blocks block = any_from (λ place. not (nat_eq (index_entry (blocks block) place) 0)) 0 128

-- an address of a file that stands in the block holder, with so many levels of index blocks below it; a hole
-- is not looked at
unfoldable pub address_items : (ℕ → List ℕ) → ℕ → ℕ → ℕ → List Item
address_items blocks levels holder zero = []
address_items blocks zero holder (suc before) = Holds (is_open blocks (suc before)) holder 6 ∷ Held (suc before) ∷ []
address_items blocks (suc levels) holder (suc before) =
    Holds (is_open blocks (suc before)) holder 6 ∷ Held (suc before)
    ∷ Holds (leads_on blocks (suc before)) (suc before) 6
    ∷ each_from (λ place. address_items blocks levels (suc before) (index_entry (blocks (suc before)) place)) 0 128

-- the 13 addresses of an inode, in the order of parts
abbrev pub area_items : (ℕ → List ℕ) → ℕ → List Item
area_items blocks ino = each_from (λ place. address_items blocks (place - 9) (inode_block ino) (address_of (blocks (inode_block ino)) (inode_place ino) place)) 0 13

abbrev pub inode_items : (ℕ → List ℕ) → ℕ → List Item
inode_items blocks ino =
    if nat_eq (mode_at blocks ino) 0 then []
    else Holds (is_kind (mode_at blocks ino)) (inode_block ino) 5
    ∷ Holds (is_size (mode_at blocks ino) (size_at blocks ino)) (inode_block ino) 8
    ∷ ((if is_special (mode_at blocks ino) then [] else area_items blocks ino)
    ++ (if is_directory (mode_at blocks ino) then Holds (are_parts blocks ino) (inode_block ino) 8 ∷ [] else []))

abbrev pub files_items : (ℕ → List ℕ) → List Item
files_items blocks = each_from (inode_items blocks) 1 (last_inode blocks)

abbrev pub root_items : (ℕ → List ℕ) → List Item
root_items blocks = Holds (is_directory (mode_at blocks 2)) 2 9 ∷ []
