-- A list of operations folded: what was written right behind another write becomes one write with it, and of
-- attributes that were set twice in a row the later ones stand.
use Rattle.std.specs.Prelude.{List, [], ◌∷◌, ◌++◌, ℕ, ◌+◌, Bool, false, ◌&&◌, ◌==◌, if◌then◌else◌, length, nat_le, None, is_none}
use Rattle.mb_tree.specs.CarriedOut.{PickedOp}
use Rattle.mb_tree.specs.declared.operations.FsOp.{FsOp}
use Rattle.mb_tree.specs.declared.operations.FsOp.TheVariants.{Put, SetMode, SetOwner, SetTimes}

-- the most bytes that one operation puts
abbrev pub most_bytes : ℕ
most_bytes = 65535

-- bytes put right behind those of the same inode, so that there are few enough together
abbrev pub is_behind : ℕ → ℕ → List ℕ → FsOp → Bool
is_behind ino offset bytes (Put other from more moment) = other == ino && from == offset + length bytes && nat_le (length bytes + length more) most_bytes
is_behind ino offset bytes _ = false

-- the same attributes of the same inode set again
abbrev pub sets_mode : ℕ → FsOp → Bool
sets_mode ino (SetMode other mode moment) = other == ino
sets_mode ino _ = false

abbrev pub sets_owner : ℕ → FsOp → Bool
sets_owner ino (SetOwner other uid gid moment) = other == ino
sets_owner ino _ = false

abbrev pub sets_times : ℕ → FsOp → Bool
sets_times ino (SetTimes other atime mtime moment) = other == ino
sets_times ino _ = false

-- whether two operations in a row can be one
abbrev pub is_one : FsOp → FsOp → Bool
is_one (Put ino offset bytes moment) next = is_behind ino offset bytes next
is_one (SetMode ino mode moment) next = sets_mode ino next
is_one (SetOwner ino uid gid moment) next = sets_owner ino next
is_one (SetTimes ino atime mtime moment) next = sets_times ino next
is_one _ next = false

-- that one: both bytes at the first offset and the later moment, or the later attributes
abbrev pub put_on : ℕ → ℕ → List ℕ → FsOp → FsOp
put_on ino offset bytes (Put other from more moment) = Put ino offset (bytes ++ more) moment
put_on ino offset bytes next = next

abbrev pub joined : FsOp → FsOp → FsOp
joined (Put ino offset bytes moment) next = put_on ino offset bytes next
joined _ next = next

-- an operation with a pick stays as it is
abbrev pub is_merged : PickedOp → PickedOp → Bool
is_merged last next = is_none last.pick && is_none next.pick && is_one last.op next.op

abbrev pub merged : PickedOp → PickedOp → PickedOp
merged last next = record { op = joined last.op next.op; pick = None }

-- the list is gone through from its front, with the last operation of the result in hand: the next one is merged with
-- it, or follows it
abbrev pub folded_from : PickedOp → List PickedOp → List PickedOp
folded_from last [] = last ∷ []
folded_from last (next ∷ later) = if is_merged last next then folded_from (merged last next) later else last ∷ folded_from next later

abbrev pub folded : List PickedOp → List PickedOp
folded [] = []
folded (first ∷ later) = folded_from first later
