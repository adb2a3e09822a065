-- What is kept on a volume goes on over changes in a row, and the number of blocks is no matter.
use Rattle.std.proofs.Common.{◌≡◌, ◌+◌, ◌*◌, inl, inr, refl, subst, ◌∙◌, arith}
use Rattle.mb_kinds.specs.Image.{Image}
use Rattle.mb_word.specs.Fields.{isize_of, fsize_of, inode_place}
use Rattle.mb_word.proofs.Values.{word_at-same, long_at-same}
use Rattle.mb_tree.specs.declared.trees.Tree.{Tree}
use Rattle.mb_tree.specs.Views.{Kept, MayCache}
use Rattle.mb_tree.specs.VolumeLaws.{KeptComposes, KeptSame, VolumeResized, KeptResized}

-- both sizes stay
pub isize_kept : (first next : Tree) (old new : Image) → Kept first old next new → isize_of (new.at 1) ≡ isize_of (old.at 1)
isize_kept first next old new kept = word_at-same (new.at 1) (old.at 1) 0 (λ k low high. kept.sizes k low (omega arith))

pub fsize_kept : (first next : Tree) (old new : Image) → Kept first old next new → fsize_of (new.at 1) ≡ fsize_of (old.at 1)
fsize_kept first next old new kept = long_at-same (new.at 1) (old.at 1) 2 (λ k low high. kept.sizes k (omega arith) (omega arith))

pub kept_composes : KeptComposes
kept_composes first next last old new newest one two =
    let isize = isize_kept first next old new one in
    let fsize = fsize_kept first next old new one in
    record {
      boot = two.boot ∙ one.boot;
      sizes = λ k low high. two.sizes k low high ∙ one.sizes k low high;
      unused = λ k low high. two.unused k low high ∙ one.unused k low high;
      cached = λ k low. elim (two.cached k low) [
        | inl was ↦ subst (MayCache (old.at 1)) was.2 (one.cached was.0 was.1)
        | inr listed ↦ inr (listed.0, let last = listed.1 in omega (arith, last, isize))
      ];
      inodes = λ ino some below. two.inodes ino some (omega (arith, isize)) ∙ one.inodes ino some below;
      freed = λ ino some below none. elim (two.freed ino some (omega (arith, below, isize)) none) [
        | inl wiped ↦ inl wiped
        | inr stays ↦ elim (one.freed ino some below stays.0) [
          | inl wiped ↦ inl (λ k low apart. stays.1 (64 * inode_place ino + k) (omega arith) (omega (arith, low)) ∙ wiped k low apart)
          | inr was ↦ inr (was.0, λ k from to. stays.1 k from to ∙ was.1 k from to)
        ]
      ];
      past = λ block above. two.past block (omega (arith, fsize)) ∙ one.past block above;
      lost = λ block low high lost.
          (let then = one.lost block low high lost in
          let after = two.lost block (omega (arith, isize)) (omega (arith, fsize)) then.0 in
          (after.0, after.1 ∙ then.1));
      lost_before = λ block low high lost. one.lost_before block low high (two.lost_before block (omega (arith, isize)) (omega (arith, fsize)) lost);
    }

pub kept_same : KeptSame
kept_same tree image = record {
  boot = refl;
  sizes = λ k low high. refl;
  unused = λ k low high. refl;
  cached = λ k low. inl (k, low, refl);
  inodes = λ ino some below. refl;
  freed = λ ino some below none. inr (none, λ k from to. refl);
  past = λ block above. refl;
  lost = λ block low high lost. (lost, refl);
  lost_before = λ block low high lost. lost;
}

pub volume_resized : VolumeResized
volume_resized image tree count enough volume = record {
  chain = volume.chain;
  bytes = volume.bytes;
  sizes = (let sizes = volume.sizes in record {
    blocks = omega (arith, sizes.some_inodes, sizes.some_blocks, enough);
    some_inodes = sizes.some_inodes;
    few_inodes = sizes.few_inodes;
    some_blocks = sizes.some_blocks;
    few_blocks = sizes.few_blocks;
    present = enough;
  });
  cached = volume.cached;
  last = volume.last;
  inodes = volume.inodes;
  held = volume.held;
  spare = volume.spare;
  capacity = volume.capacity;
  sound = volume.sound;
}

pub kept_resized : KeptResized
kept_resized before later old new old_count new_count kept = record {
  boot = kept.boot;
  sizes = kept.sizes;
  unused = kept.unused;
  cached = kept.cached;
  inodes = kept.inodes;
  freed = kept.freed;
  past = kept.past;
  lost = kept.lost;
  lost_before = kept.lost_before;
}
