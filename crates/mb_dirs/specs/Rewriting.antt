-- An inode written whose area stays, or which gets one without an address.
use Rattle.std.specs.Prelude.{List, ℕ, ◌≡◌, Option, replicate, slice_index, slice_set}
use Rattle.mb_word.specs.Fields.{area_of, inode_block, inode_place}
use Rattle.mb_layout.specs.declared.dinodes.Dinode.{Dinode}
use Rattle.mb_tree.specs.Views.{over, IsPart}
use Rattle.mb_blocks.specs.Inodes.{IsDinodeWritten}
use Rattle.mb_kinds.specs.Changed.{ChangeList, changed, IsWithinView}
use Rattle.mb_iface.specs.Needs.{IsNeed}
use Rattle.mb_dirs.specs.declared.steps.Advanced.{Advanced}
use Rattle.mb_dirs.specs.declared.steps.Advanced.TheVariants as advanced

-- the area of an inode in its block
abbrev pub area_in : (ℕ → List ℕ) → ℕ → List ℕ
area_in blocks ino = area_of (blocks (inode_block ino)) (inode_place ino)

-- thirteen holes, and the byte behind them as it was
abbrev pub blank_area : List ℕ → List ℕ
blank_area was = slice_set (replicate {A = ℕ} 40 0) 39 (slice_index was 39)

-- an inode written, whose area is found from the one before
abbrev pub WritesWith : (List ℕ → List ℕ) → (ℕ → Option (List ℕ)) → ChangeList → ChangeList → ℕ → Dinode → Advanced → Type 0
WritesWith area shown old new ino d advanced.Done = (IsWithinView shown old → IsWithinView shown new)
    × ((blocks : ℕ → List ℕ) → IsPart shown blocks → IsDinodeWritten (over blocks (changed old)) (over blocks (changed new)) ino (record d { area = area (area_in (over blocks (changed old)) ino) }))
WritesWith area shown old new ino d (advanced.Need need) = IsNeed shown need × (need.first ≡ inode_block ino)
WritesWith area shown old new ino d advanced.NoMemory = Unit {0}

abbrev pub RewritesInode : (ℕ → Option (List ℕ)) → ChangeList → ChangeList → ℕ → Dinode → Advanced → Type 0
RewritesInode shown old new ino d result = WritesWith (λ area. area) shown old new ino d result

abbrev pub WritesBlank : (ℕ → Option (List ℕ)) → ChangeList → ChangeList → ℕ → Dinode → Advanced → Type 0
WritesBlank shown old new ino d result = WritesWith blank_area shown old new ino d result
