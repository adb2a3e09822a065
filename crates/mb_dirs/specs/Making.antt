-- An inode made: an empty file, or a directory with its two first slots.
use Rattle.std.specs.Prelude.{List, ℕ, ◌≡◌, Option, Err, bit_or, replicate}
use Rattle.std.specs.FinMap as fin
use Rattle.mb_kinds.specs.declared.errors.Errno.TheVariants.{ENOSPC}
use Rattle.mb_layout.specs.declared.dinodes.Dinode.{Dinode}
use Rattle.mb_tree.specs.Effect.{first_slots, fitting, made}
use Rattle.mb_tree.specs.declared.nodes.Body.TheVariants.{Regular, Directory}
use Rattle.mb_tree.specs.declared.nodes.Node.{Node}
use Rattle.mb_kinds.specs.Changed.{ChangeList, IsWithinView}
use Rattle.mb_iface.specs.Needs.{IsNeed}
use Rattle.mb_nodes.specs.Stored.{with_node}
use Rattle.mb_moves.specs.Advancing.{AdvancesTo}
use Rattle.mb_dirs.specs.Steps.{OnUnused, IsNearFirst}
use Rattle.mb_dirs.specs.declared.enters.Entered.{Entered}
use Rattle.mb_dirs.specs.declared.enters.Entered.TheVariants as entered
use Rattle.mb_dirs.specs.declared.makes.NewInode.{NewInode}
use Rattle.mb_dirs.specs.declared.steps.Advanced.{Advanced}
use Rattle.mb_dirs.specs.declared.steps.Advanced.TheVariants as advanced

-- the value of a new inode of so many bytes, without an address
abbrev pub new_inode : NewInode → ℕ → ℕ → ℕ → Dinode
new_inode new mode nlink size = record { mode = mode; nlink = nlink; uid = new.uid; gid = new.gid; size = size; area = replicate 40 0; atime = new.moment; mtime = new.moment; ctime = new.moment }

-- the nodes that are made
abbrev pub file_made : NewInode → Node
file_made new = made (bit_or 0x8000 new.mode) 1 new.uid new.gid new.moment (Regular 0 fin.empty)

abbrev pub directory_made : NewInode → ℕ → ℕ → Node
directory_made new ino parent = made (bit_or 0x4000 new.mode) 2 new.uid new.gid new.moment (Directory (first_slots ino parent))

abbrev pub MakesFile : (ℕ → Option (List ℕ)) → ChangeList → ChangeList → ℕ → NewInode → Advanced → Type 0
MakesFile shown old new ino fields advanced.Done = (IsWithinView shown old → IsWithinView shown new)
    × OnUnused shown old ino (λ image tree looks. AdvancesTo image tree looks old new (with_node tree ino (file_made fields)))
MakesFile shown old new ino fields (advanced.Need need) = IsNeed shown need × OnUnused shown old ino (IsNearFirst old need.first)
MakesFile shown old new ino fields advanced.NoMemory = Unit {0}

abbrev pub MakesDirectory : (ℕ → Option (List ℕ)) → ChangeList → ChangeList → ℕ → NewInode → ℕ → Entered → Type 0
MakesDirectory shown old new ino fields parent entered.Done = (IsWithinView shown old → IsWithinView shown new)
    × OnUnused shown old ino (λ image tree looks. AdvancesTo image tree looks old new (with_node tree ino (directory_made fields ino parent)))
MakesDirectory shown old new ino fields parent entered.NoneLeft = OnUnused shown old ino (λ image tree looks. fitting tree (fin.insert tree.nodes ino (directory_made fields ino parent)) ≡ Err ENOSPC)
MakesDirectory shown old new ino fields parent (entered.Need need) = IsNeed shown need × OnUnused shown old ino (IsNearFirst old need.first)
MakesDirectory shown old new ino fields parent entered.NoMemory = Unit {0}
