-- An inode written with the area that is found in its block.
use Rattle.std.proofs.Common.{ℕ, ◌≡◌, List, Option, subst}
use Rattle.mb_word.specs.Fields.{inode_block, inode_place}
use Rattle.mb_layout.specs.Inode.{dinode_at}
use Rattle.mb_layout.specs.declared.dinodes.Dinode.{Dinode}
use Rattle.mb_tree.specs.Views.{over, IsPart}
use Rattle.mb_blocks.specs.Inodes.{IsDinodeWritten}
use Rattle.mb_kinds.specs.Changed.{ChangeList, changed, IsWithinView}
use Rattle.mb_dirs.specs.Rewriting.{WritesWith}
use Rattle.mb_dirs.specs.declared.steps.Advanced.TheVariants as advanced

pub written_with : (area : List ℕ → List ℕ) (shown : ℕ → Option (List ℕ)) (old new : ChangeList) (ino : ℕ) (d now : Dinode)
    → ((blocks : ℕ → List ℕ) → IsPart shown blocks → now ≡ dinode_at (over blocks (changed old) (inode_block ino)) (inode_place ino)) → (IsWithinView shown old → IsWithinView shown new)
    → ((blocks : ℕ → List ℕ) → IsPart shown blocks → IsDinodeWritten (over blocks (changed old)) (over blocks (changed new)) ino (record d { area = area now.area }))
    → WritesWith area shown old new ino d advanced.Done
written_with area shown old new ino d now reads within writes = (
  within,
  λ blocks part.
      subst (λ (x : Dinode). IsDinodeWritten (over blocks (changed old)) (over blocks (changed new)) ino (record d { area = area x.area })) (reads blocks part) (writes blocks part),
)
