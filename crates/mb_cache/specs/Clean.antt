-- Clean pages: blocks as the disk holds them, kept so that they are read once, the most recently used first.
use Rattle.std.specs.Prelude.{ℕ, ◌-◌, ◌≡◌, ◌⊎◌, List, ◌∷◌, nat_eq, take, Option, None, Some, IfSome, Result, Ok, Err}
use Rattle.std.specs.List.{Contains}
use Rattle.std.specs.Map.{remove_entry}
use Rattle.lru.specs.LruCache.{promoted}
use Rattle.mb_kinds.specs.Image.{Image}
use Rattle.mb_cache.specs.Pages.{PageList}
use Rattle.mb_cache.specs.declared.answers.ReadFault.{ReadFault}

-- the most that are kept
abbrev pub most_clean : ℕ
most_clean = 1024

-- each has the bytes that the disk holds, where it tells them
abbrev pub AreClean : Option Image → PageList → Type 0
AreClean told clean = IfSome told (λ image. (page : ℕ × List ℕ) → Contains clean page → page.1 ≡ image.at page.0)

-- a page of a block that has none comes first, and of as many as are kept the last one goes
abbrev pub fronted : PageList → ℕ → List ℕ → PageList
fronted clean block bytes = (block, bytes) ∷ take (most_clean - 1) clean

-- what a read into a buffer gave: the bytes that it holds then, or the fault
abbrev pub read_as : {E : Type 0} → Result (Unit {0}) E → List ℕ → Result (List ℕ) E
read_as (Ok done) bytes = Ok bytes
read_as (Err fault) bytes = Err fault

-- What a read of a block leaves of the disk and the clean pages, by its dirty or checkpointed page and its clean one: all
-- stays where it has the first; a clean page comes first, and the disk is not called; else the disk is read, and what it
-- gave comes first, but for want of memory or a fault, which leave the clean pages as they were.
abbrev pub Rereads : {D : Type 0} → Option (List ℕ) → Option (List ℕ) → ℕ → (disk : D) (clean : PageList) (left : D) (kept : PageList) → Result (List ℕ) ReadFault → Type 0
Rereads (Some page) _ block disk clean left kept result = (left ≡ disk) × (kept ≡ clean) × (result ≡ Ok page)
Rereads None (Some bytes) block disk clean left kept result = (left ≡ disk) × (kept ≡ promoted (nat_eq block) clean) × (result ≡ Ok bytes)
Rereads None None block disk clean left kept (Ok bytes) = (kept ≡ fronted clean block bytes) ⊎ (kept ≡ clean)
Rereads None None block disk clean left kept (Err fault) = kept ≡ clean

-- what a write of a block leaves of the clean pages: the block's goes, and what was written comes first, but for want of
-- memory or a fault
abbrev pub Rewrites : {E : Type 0} → PageList → PageList → Result (Unit {0}) E → ℕ → List ℕ → Type 0
Rewrites clean kept (Ok done) block bytes = (kept ≡ fronted (remove_entry (nat_eq block) clean) block bytes) ⊎ (kept ≡ remove_entry (nat_eq block) clean)
Rewrites clean kept (Err fault) block bytes = kept ≡ remove_entry (nat_eq block) clean
