-- An inode's bytes, and what writing them does.
use Rattle.std.proofs.Common.{ℕ, ◌≡◌, ◌*◌, ◌+◌, ◌++◌, ◌≤◌, List, [], length, append-nil, drop, Option, refl, sym, ap, subst, ◌∙◌, arith}
use Rattle.std.proofs.Math.ListN.{drop_of_length-le}
use Rattle.mb_word.specs.Fields.{inode_block, inode_place}
use Rattle.mb_word.specs.Numbers.{put_at}
use Rattle.mb_layout.specs.Inode.{dinode_bytes, FitsDinode}
use Rattle.mb_layout.specs.declared.dinodes.Dinode.{Dinode}
use Rattle.mb_layout.proofs.InodeBytes.{length-dinode_bytes}
use Rattle.mb_tree.specs.Views.{over, IsPart}
use Rattle.mb_kinds.specs.Changed.{ChangeList, changed, put_block}
use Rattle.mb_iface.specs.Edits.{Edits}
use Rattle.mb_iface.specs.declared.edits.Edited.{Edited}
use Rattle.mb_iface.specs.declared.edits.Edited.TheVariants.{Done, Lacking, NoMemory}
use Rattle.mb_iface.proofs.ChangedBlocks.{put_block_same, put_block_other}
use Rattle.mb_inodes.specs.Inodes.{WritesInode}

-- bytes over as many bytes are these
pub whole_written : (old bytes : List ℕ) (d : Dinode) → length old ≡ 64 → length d.area ≡ 40 → bytes ≡ put_at old 0 (dinode_bytes d) → bytes ≡ dinode_bytes d
unfolding put_at
whole_written old bytes d long sized is =
    let many = length-dinode_bytes d sized in
    is ∙ ap (λ xs. dinode_bytes d ++ xs) (drop_of_length-le old (let l : length old ≤ 0 + length (dinode_bytes d) = omega (arith, long, many) in l)) ∙ append-nil (dinode_bytes d)

pub written : (shown : ℕ → Option (List ℕ)) (old new : ChangeList) (ino holder place : ℕ) (d : Dinode) (bytes : List ℕ) (result : Edited) → holder ≡ inode_block ino → place ≡ inode_place ino
    → bytes ≡ dinode_bytes d → FitsDinode d → Edits shown old new holder (64 * place) bytes result → WritesInode shown old new ino d result
written shown old new ino holder place d bytes Done e f is fits edits = λ blocks part.
    let wrote : over blocks (changed new) ≡ put_block (over blocks (changed old)) (inode_block ino) (put_at (over blocks (changed old) (inode_block ino)) (64 * inode_place ino) (dinode_bytes d)) =
    edits.wrote blocks part ∙ ap (λ h. put_block (over blocks (changed old)) h (put_at (over blocks (changed old) h) (64 * place) bytes)) e
    ∙ ap (λ p. put_block (over blocks (changed old)) (inode_block ino) (put_at (over blocks (changed old) (inode_block ino)) (64 * p) bytes)) f
    ∙ ap (λ b. put_block (over blocks (changed old)) (inode_block ino) (put_at (over blocks (changed old) (inode_block ino)) (64 * inode_place ino) b)) is in
    record {
      fits = fits;
      block = ap (λ g. g (inode_block ino)) wrote ∙ put_block_same (over blocks (changed old)) (inode_block ino) (put_at (over blocks (changed old) (inode_block ino)) (64 * inode_place ino) (dinode_bytes d));
      others = λ block apart. ap (λ g. g block) wrote ∙ put_block_other (over blocks (changed old)) (inode_block ino) (put_at (over blocks (changed old) (inode_block ino)) (64 * inode_place ino) (dinode_bytes d)) block apart;
    }
written shown old new ino holder place d bytes Lacking e f is fits edits = tt
written shown old new ino holder place d bytes NoMemory e f is fits edits = tt
