-- Fields of an inode that an operation sets.
use Rattle.std.specs.Prelude.{List, ℕ, Option, ◌≡◌}
use Rattle.mb_tree.specs.declared.operations.FsOp.{FsOp}
use Rattle.mb_tree.specs.declared.operations.FsOp.TheVariants.{SetMode, SetOwner, SetTimes}
use Rattle.mb_iface.specs.declared.replies.Acted.{Acted}
use Rattle.mb_dirs.specs.declared.fields.FieldChange.{FieldChange}
use Rattle.mb_dirs.specs.declared.fields.FieldChange.TheVariants.{Mode, Owner, Times, Links, Touch}
use Rattle.mb_fsops.specs.Performing.{PerformsAnyway}

-- the operation that sets just these fields; no operation sets a link count and nothing else
abbrev pub IsSetting : ℕ → FieldChange → FsOp → Type 0
IsSetting ino (Mode mode moment) op = op ≡ SetMode ino mode moment
IsSetting ino (Owner uid gid moment) op = op ≡ SetOwner ino uid gid moment
IsSetting ino (Times atime mtime moment) op = op ≡ SetTimes ino atime mtime moment
IsSetting ino (Links links moment) op = ⊥
IsSetting ino (Touch links moment) op = ⊥

abbrev pub SetsThese : (ℕ → Option (List ℕ)) → ℕ → FieldChange → Acted → Type 0
SetsThese shown ino change result = (op : FsOp) → IsSetting ino change op → PerformsAnyway shown op result
