-- Steps that end at the tree after an operation's effect do the operation.
use Rattle.std.proofs.Common.{ℕ, ◌≡◌, Bool, List, [], Option, Some, None, Ok, Err, ap, subst, sym}
use Rattle.mb_kinds.specs.Image.{Image}
use Rattle.mb_kinds.specs.declared.errors.Errno.{Errno}
use Rattle.mb_tree.specs.Answers.{Answer, ◌>>=◌}
use Rattle.mb_tree.specs.Effect.{TreeAndOpens, opens_after, tree_after}
use Rattle.mb_tree.specs.Fits.{Fits, FitsNew}
use Rattle.mb_tree.specs.Sessions.{Counts}
use Rattle.mb_tree.specs.Views.{Kept}
use Rattle.mb_tree.specs.Volume.{IsVolume}
use Rattle.mb_tree.specs.declared.operations.FsOp.{FsOp}
use Rattle.mb_tree.specs.declared.operations.FsOp.TheVariants.{Create, Empty, MakeDir, RemoveDir, Enlink, Delink, Put, SetMode, SetOwner, SetTimes, Hold, Release}
use Rattle.mb_tree.specs.declared.trees.Tree.{Tree}
use Rattle.mb_tree.proofs.EachOperation.{operation_kept}
use Rattle.mb_iface.specs.Acting.{HasDone, HasRefused, Picks, PicksNumber, with_changes}
use Rattle.mb_kinds.specs.Changed.{ChangeList, IsWithinView}
use Rattle.mb_nodes.proofs.Volumes.{volume_of}
use Rattle.mb_moves.specs.Advancing.{AdvancesTo}
use Rattle.mb_moves.proofs.InARow.{itself}

-- an inode that fits with a demanded number fits with the picked one
new_picked : (tree : Tree) (dir : ℕ) (name : List ℕ) (mode : ℕ) (demanded picked : Option ℕ) → FitsNew tree dir name mode demanded → PicksNumber tree demanded picked → FitsNew tree dir name mode picked
new_picked tree dir name mode (Some ino) picked fits picks = subst (FitsNew tree dir name mode) (sym picks) fits
new_picked tree dir name mode None None fits picks = record { missing = fits.missing; permissions = fits.permissions; picked = tt }
new_picked tree dir name mode None (Some ino) fits picks = record { missing = fits.missing; permissions = fits.permissions; picked = picks }

fits_picked : (tree : Tree) (opens : Counts) (op : FsOp) (demanded picked : Option ℕ) → Fits tree opens op demanded → Picks tree op demanded picked → Fits tree opens op picked
fits_picked tree opens (Create dir name mode uid gid moment) demanded picked fits picks = new_picked tree dir name mode demanded picked fits picks
fits_picked tree opens (Empty ino moment) demanded picked fits picks = fits
fits_picked tree opens (MakeDir dir name mode uid gid moment) demanded picked fits picks = new_picked tree dir name mode demanded picked fits picks
fits_picked tree opens (RemoveDir dir name moment) demanded picked fits picks = fits
fits_picked tree opens (Enlink dir name ino moment) demanded picked fits picks = fits
fits_picked tree opens (Delink dir name moment) demanded picked fits picks = fits
fits_picked tree opens (Put ino offset bytes moment) demanded picked fits picks = fits
fits_picked tree opens (SetMode ino mode moment) demanded picked fits picks = fits
fits_picked tree opens (SetOwner ino uid gid moment) demanded picked fits picks = fits
fits_picked tree opens (SetTimes ino atime mtime moment) demanded picked fits picks = fits
fits_picked tree opens (Hold ino) demanded picked fits picks = fits
fits_picked tree opens (Release inos) demanded picked fits picks = fits

pub operation_done : (shown : ℕ → Option (List ℕ)) (image : Image) (tree next : Tree) (looks : ℕ → Bool) (opens : Counts) (op : FsOp) (demanded picked : Option ℕ) (changes : ChangeList)
    → IsVolume image tree → Fits tree opens op demanded → Picks tree op demanded picked → tree_after tree opens op picked ≡ Ok next
    → AdvancesTo image tree looks [] changes next → IsWithinView shown changes → HasDone shown image tree opens op demanded changes picked
operation_done shown image tree next looks opens op demanded picked changes volume fits picks after step inside = record {
  picks = picks;
  held = record { tree = next; opens = opens_after opens op picked };
  effect = ap (λ (answer : Answer Tree). answer >>= effect_of) after;
  volume = volume_of (with_changes image changes) next step.0 step.1.follows.stored (operation_kept tree opens op picked next volume.sound (fits_picked tree opens op demanded picked fits picks) after);
  kept = subst (λ i. Kept tree i next (with_changes image changes)) (itself image) step.1.follows.kept;
  within = inside;
}
  where
    effect_of : Tree → Answer TreeAndOpens
    effect_of found = Ok (record { tree = found; opens = opens_after opens op picked })

pub operation_refused : (tree : Tree) (opens : Counts) (op : FsOp) (demanded picked : Option ℕ) (e : Errno) → Picks tree op demanded picked → tree_after tree opens op picked ≡ Err e
    → HasRefused tree opens op demanded e
operation_refused tree opens op demanded picked e picks after = record {
  picked = picked;
  picks = picks;
  effect = ap (λ (answer : Answer Tree). answer >>= effect_of) after;
}
  where
    effect_of : Tree → Answer TreeAndOpens
    effect_of found = Ok (record { tree = found; opens = opens_after opens op picked })
