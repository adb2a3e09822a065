-- An inode freed, and its number cached.
use Rattle.std.specs.Prelude.{List, ◌∷◌, ℕ, ◌+◌, ◌*◌, ◌<◌, ◌≤◌, ◌≡◌, ◌≢◌, ◌⊎◌, Option, slice_index}
use Rattle.mb_word.specs.Fields.{ninode_of, inode_block, inode_place}
use Rattle.mb_tree.specs.Views.{over, IsPart}
use Rattle.mb_kinds.specs.Changed.{ChangeList, changed, IsWithinView}
use Rattle.mb_iface.specs.Needs.{IsNeed}
use Rattle.mb_blocks.specs.Inodes.{IsRewritten}
use Rattle.mb_blocks.specs.Rules.{KeepsRules}
use Rattle.mb_alloc.specs.Numbers.{cached_in, IsCacheSet}
use Rattle.mb_alloc.specs.declared.frees.Hung.{Hung}
use Rattle.mb_alloc.specs.declared.frees.Hung.TheVariants as hung

pub record IsErased (old new : ℕ → List ℕ) (ino : ℕ) : Type 0 where
  pub written : IsRewritten old new ino
  pub zero : (k : ℕ) → k < 64 → k ≢ 51 → slice_index (new (inode_block ino)) (64 * inode_place ino + k) ≡ 0

-- the cache takes the number where it has room and the number is one that may be picked, else it stays
abbrev pub Caches : (ℕ → List ℕ) → (ℕ → List ℕ) → ℕ → Type 0
Caches old new ino =
    (((100 ≤ ninode_of (old 1)) ⊎ (ino < 3)) × (new ≡ old)) ⊎ ((ninode_of (old 1) < 100) × (3 ≤ ino) × IsCacheSet old new (ino ∷ cached_in old))

abbrev pub FreesInode : (ℕ → Option (List ℕ)) → ChangeList → ChangeList → ℕ → Hung → Type 0
FreesInode shown old new ino hung.Done = (IsWithinView shown old → IsWithinView shown new)
    × ((blocks : ℕ → List ℕ) → IsPart shown blocks → KeepsRules (over blocks (changed old)) → 0 < ino
    → (mid : ℕ → List ℕ) × IsErased (over blocks (changed old)) mid ino × Caches mid (over blocks (changed new)) ino)
FreesInode shown old new ino (hung.Need need) = (new ≡ old) × IsNeed shown need × ((need.first ≡ 1) ⊎ (need.first ≡ inode_block ino))
FreesInode shown old new ino hung.NoMemory = new ≡ old
