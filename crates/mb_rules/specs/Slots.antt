-- The scan's fifth part: the directories in increasing number, their slots in order (rules 10 to 12).
use Rattle.std.specs.Prelude.{List, [], ◌∷◌, ℕ, zero, suc, ◌/◌, Bool, true, not, ◌&&◌, ◌||◌, nat_eq, nat_le, bytes_eq, if◌then◌else◌, slice_index, map}
use Rattle.std.specs.List.{list_any, list_all, range_with_len}
use Rattle.mb_tree.specs.Blocks.{slot_in, part_address}
use Rattle.mb_tree.specs.Counting.{any_from}
use Rattle.mb_tree.specs.Effect.{dot, dot_dot}
use Rattle.mb_tree.specs.Inodes.{is_directory}
use Rattle.mb_tree.specs.Lookup.{is_used, is_named, slash}
use Rattle.mb_tree.specs.Rows.{is_dots}
use Rattle.mb_tree.specs.Volume.{last_inode}
use Rattle.mb_tree.specs.declared.nodes.PlainSlot.{PlainSlot}
use Rattle.mb_rules.specs.Items.{Item, Holds, each_from}
use Rattle.mb_rules.specs.Files.{mode_at, size_at}

-- the slots of an inode that is a directory; another has none
unfoldable pub slots_at : (ℕ → List ℕ) → ℕ → List PlainSlot
slots_at blocks ino = if is_directory (mode_at blocks ino) then map (slot_in blocks ino) (range_with_len 0 (size_at blocks ino / 16)) else []

-- rule 11: the first slot is `.` with the directory's number, the second is used and named `..`, and a later used one has neither name
abbrev pub has_dots : ℕ → ℕ → PlainSlot → Bool
has_dots ino zero slot = bytes_eq slot.name dot && nat_eq slot.ino ino
has_dots ino (suc zero) slot = bytes_eq slot.name dot_dot && is_used slot
has_dots ino (suc (suc late)) slot = not (is_used slot) || not (is_dots slot.name)

-- rule 10: a used slot leads to an inode in use, but never to inode 1
abbrev pub leads_there : (ℕ → List ℕ) → PlainSlot → Bool
leads_there blocks slot = not (is_used slot) || not (nat_eq slot.ino 1) && nat_le slot.ino (last_inode blocks) && not (nat_eq (mode_at blocks slot.ino) 0)

-- after a 0 come zeros alone
abbrev pub is_padded : List ℕ → Bool
is_padded [] = true
is_padded (byte ∷ bytes) = if nat_eq byte 0 then list_all (nat_eq 0) bytes else is_padded bytes

-- rule 12: a used slot's name is not empty, has no slash, is padded with 0, and is that of no earlier used slot
abbrev pub is_named_once : (ℕ → List ℕ) → ℕ → ℕ → PlainSlot → Bool
is_named_once blocks ino at slot =
    not (is_used slot)
    || not (nat_eq (slice_index slot.name 0) 0) && not (list_any (nat_eq slash) slot.name) && is_padded slot.name
    && not (any_from (λ earlier. is_named slot.name (slot_in blocks ino earlier)) 0 at)

abbrev pub slot_items : (ℕ → List ℕ) → ℕ → ℕ → List Item
slot_items blocks ino at =
    Holds (has_dots ino at (slot_in blocks ino at)) (part_address blocks ino (at / 32)) 11
    ∷ Holds (leads_there blocks (slot_in blocks ino at)) (part_address blocks ino (at / 32)) 10
    ∷ Holds (is_named_once blocks ino at (slot_in blocks ino at)) (part_address blocks ino (at / 32)) 12
    ∷ []

abbrev pub directory_items : (ℕ → List ℕ) → ℕ → List Item
directory_items blocks ino = if is_directory (mode_at blocks ino) then each_from (slot_items blocks ino) 0 (size_at blocks ino / 16) else []

abbrev pub slots_items : (ℕ → List ℕ) → List Item
slots_items blocks = each_from (directory_items blocks) 1 (last_inode blocks)
