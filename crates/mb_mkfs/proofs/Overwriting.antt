-- Blocks written over those of an image, from the last one down.
use Rattle.std.proofs.Common.{ℕ, ◌≡◌, ◌+◌, ◌<◌, ◌≤◌, true, cond, max, nat_lt, List, length, Option, Some, None, refl, ap, subst, ◌∙◌, arith}
use Rattle.std.specs.Prelude.{⊤}
use Rattle.std.proofs.lemmas.Bool.Decides.{nat_tests}
use Rattle.mb_kinds.specs.Image.{Image}
use Rattle.mb_word.specs.Fields.{fsize_of}
use Rattle.mb_tree.proofs.VolumeBlocks.{volume_by_its_blocks}
use Rattle.mb_nodes.specs.Fresh.{fresh_tree}
use Rattle.mb_nodes.proofs.FreshVolumes.{fresh_volume}
use Rattle.mb_mkfs.specs.Made.{IsMade, IsWritten}
use Rattle.mb_mkfs.specs.Sizes.{AreSizes, isize_for}
use Rattle.mb_mkfs.specs.Volume.{fresh, fresh_block}
use Rattle.mb_mkfs.proofs.Blocks.{first_block}
use Rattle.mb_mkfs.proofs.Rooting.{fresh_made}
use Rattle.mb_mkfs.proofs.Values.{fsize_now}

-- the blocks from `from` to `upto` have been written
pub record IsOver (old new : Image) (fill : ℕ → List ℕ) (from upto : ℕ) : Type 0 where
  pub written : (block : ℕ) → from ≤ block → block < upto → new.at block ≡ fill block
  pub kept : (block : ℕ) → upto ≤ block → new.at block ≡ old.at block
  pub count : new.count ≡ cond (nat_lt from upto) (max old.count upto) old.count

abbrev pub AreOver : Option Image → Option Image → (ℕ → List ℕ) → ℕ → ℕ → Type 0
AreOver None new fill from upto = ⊤
AreOver (Some old) None fill from upto = ⊥
AreOver (Some old) (Some new) fill from upto = IsOver old new fill from upto

written_whole : (old new : Image) (blocks inodes : ℕ) → AreSizes blocks inodes → ((block : ℕ) → length (new.at block) ≡ 512)
    → IsOver old new (fresh_block (isize_for inodes) blocks) 0 blocks → IsWritten old new blocks inodes
written_whole old new blocks inodes sizes sized over =
    let room = sizes.some_blocks in
    let most = sizes.few_inodes in
    let some : nat_lt 0 blocks ≡ true = grind (arith, nat_tests) in
    let count : new.count ≡ max old.count blocks = over.count ∙ ap (λ b. cond b (max old.count blocks) old.count) some in
    let top : fsize_of ((fresh blocks inodes).at 1) ≡ blocks =
    ap fsize_of (first_block (isize_for inodes) blocks 1 refl) ∙ fsize_now (isize_for inodes) blocks (omega (arith, most)) sizes.few_blocks (isize_for inodes + 1) in
    record {
      below = λ block low. over.written block (omega arith) low;
      count = count;
      volume = volume_by_its_blocks (fresh blocks inodes) new (fresh_tree (isize_for inodes) blocks)
          (record { enough = omega (arith, count, top); bytes = sized; same = λ block real low. over.written block (omega arith) (omega (arith, low, top)) })
          (fresh_volume (fresh blocks inodes) (isize_for inodes) blocks (fresh_made blocks inodes sizes));
    }

made_whole : (first next : Option Image) (blocks inodes : ℕ) → AreSizes blocks inodes → ((image : Image) (block : ℕ) → next ≡ Some image → length (image.at block) ≡ 512)
    → AreOver first next (fresh_block (isize_for inodes) blocks) 0 blocks → IsMade first next blocks inodes
made_whole None next blocks inodes sizes sized over = tt
made_whole (Some old) None blocks inodes sizes sized over = over
made_whole (Some old) (Some new) blocks inodes sizes sized over = written_whole old new blocks inodes sizes (λ block. sized new block refl) over

-- all blocks written, down to block 0
pub all_written : (first next : Option Image) (blocks inodes : ℕ) → AreSizes blocks inodes → ((image : Image) (block : ℕ) → next ≡ Some image → length (image.at block) ≡ 512)
    → (isize top from : ℕ) → isize ≡ isize_for inodes → top ≡ blocks → from ≡ 0 → AreOver first next (fresh_block isize top) from blocks → IsMade first next blocks inodes
all_written first next blocks inodes sizes sized isize top from is whole none over =
    made_whole first next blocks inodes sizes sized
    (subst (λ i. AreOver first next (fresh_block i blocks) 0 blocks) is
    (subst (λ t. AreOver first next (fresh_block isize t) 0 blocks) whole
    (subst (λ f. AreOver first next (fresh_block isize top) f blocks) none over)))
