-- Each operation that fits keeps a sound tree sound.
use Rattle.std.proofs.Common.{subst}
use Rattle.mb_tree.specs.Effect.{release, less_open}
use Rattle.mb_tree.specs.Trees.{IsSound}
use Rattle.mb_tree.specs.NameLaws.{OperationKept}
use Rattle.mb_tree.specs.declared.trees.Tree.{Tree}
use Rattle.mb_tree.specs.declared.operations.FsOp.TheVariants.{Create, Empty, MakeDir, RemoveDir, Enlink, Delink, Put, SetMode, SetOwner, SetTimes, Hold, Release}
use Rattle.mb_tree.proofs.Always.{same_ok}
use Rattle.mb_tree.proofs.Dropped.{release_kept}
use Rattle.mb_tree.proofs.Leaving.{delink_kept}
use Rattle.mb_tree.proofs.NewInodes.{create_kept, make_dir_kept}
use Rattle.mb_tree.proofs.NewNames.{enlink_kept}
use Rattle.mb_tree.proofs.BytesOrAttributes.{bytes_or_attributes_kept}
use Rattle.mb_tree.proofs.RemovedDirectories.{remove_dir_kept}

pub operation_kept : OperationKept
operation_kept tree opens (Create dir name mode uid gid moment) pick next sound fits h = create_kept dir name mode uid gid moment tree opens pick next sound fits h
operation_kept tree opens (Empty ino moment) pick next sound fits h = bytes_or_attributes_kept tree opens (Empty ino moment) pick next sound tt h
operation_kept tree opens (MakeDir dir name mode uid gid moment) pick next sound fits h = make_dir_kept dir name mode uid gid moment tree opens pick next sound fits h
operation_kept tree opens (RemoveDir dir name moment) pick next sound fits h = remove_dir_kept dir name moment tree opens pick next sound fits h
operation_kept tree opens (Enlink dir name ino moment) pick next sound fits h = enlink_kept dir name ino moment tree opens pick next sound fits h
operation_kept tree opens (Delink dir name moment) pick next sound fits h = delink_kept dir name moment tree opens pick next sound fits h
operation_kept tree opens (Put ino offset bytes moment) pick next sound fits h = bytes_or_attributes_kept tree opens (Put ino offset bytes moment) pick next sound tt h
operation_kept tree opens (SetMode ino mode moment) pick next sound fits h = bytes_or_attributes_kept tree opens (SetMode ino mode moment) pick next sound fits.1 h
operation_kept tree opens (SetOwner ino uid gid moment) pick next sound fits h = bytes_or_attributes_kept tree opens (SetOwner ino uid gid moment) pick next sound tt h
operation_kept tree opens (SetTimes ino atime mtime moment) pick next sound fits h = bytes_or_attributes_kept tree opens (SetTimes ino atime mtime moment) pick next sound tt h
operation_kept tree opens (Hold ino) pick next sound fits h = bytes_or_attributes_kept tree opens (Hold ino) pick next sound tt h
operation_kept tree opens (Release inos) pick next sound fits h = subst IsSound (same_ok {A = Tree} (record tree { nodes = less_open tree.nodes (release opens inos) inos }) next h) (release_kept tree opens inos sound)
