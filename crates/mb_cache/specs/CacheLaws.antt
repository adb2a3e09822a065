-- The laws of a cache: what is seen of a block, and what an install, a checkpoint and a fault do to it.
use Rattle.std.specs.Prelude.{List, ℕ, ◌+◌, ◌-◌, ◌^◌, ◌<◌, ◌≡◌, ◌⊎◌, None, IsSome, unwrap_or}
use Rattle.mb_kinds.specs.Image.{Image}
use Rattle.mb_edge.specs.Damage.{OpenCounts, damaged}
use Rattle.mb_edge.specs.declared.strokes.Stroke.{Stroke}
use Rattle.mb_kinds.specs.Changed.{ChangeList, AreChanges, changed}
use Rattle.mb_cache.specs.Pages.{PageList, page_at, under, installed, pages_damaged}
use Rattle.mb_cache.specs.Stamps.{Stamps, stamp_of, raised_by}

-- what is seen of a block is its current page, else its checkpointed page, else the block of the disk
abbrev pub SeenInLayers : Type 0
SeenInLayers = (image : Image) (sealed current : PageList) (block : ℕ)
    → (under (under image sealed) current).at block ≡ unwrap_or (page_at current block) (unwrap_or (page_at sealed block) (image.at block))

-- what is read over installed changes is what is read under them
abbrev pub InstalledReads : Type 0
InstalledReads = (image : Image) (pages : PageList) (changes : ChangeList) → AreChanges changes → under image (installed pages changes) ≡ under (under image pages) changes

-- of a block: it reads as before and has its old stamp, or its stamp is a higher one
abbrev pub MovesAt : Image → Stamps → Image → Stamps → ℕ → Type 0
MovesAt view stamps next raised block = ((next.at block ≡ view.at block) × (stamp_of raised block ≡ stamp_of stamps block)) ⊎ (stamp_of stamps block < stamp_of raised block)

abbrev pub Moves : Image → Stamps → Image → Stamps → Type 0
Moves view stamps next raised = (block : ℕ) → MovesAt view stamps next raised block

-- an install changes no block without raising its stamp, as long as no stamp of a changed block is the greatest
abbrev pub InstallMoves : Type 0
InstallMoves = (image : Image) (pages : PageList) (stamps : Stamps) (changes : ChangeList) → AreChanges changes
    → ((block : ℕ) → IsSome (changed changes block) → stamp_of stamps block < 2 ^ 64 - 1)
    → Moves (under image pages) stamps (under image (installed pages changes)) (raised_by stamps changes)

-- an install raises the stamp of each changed block by one, and no other
abbrev pub InstallRaises : Type 0
InstallRaises = (stamps : Stamps) (changes : ChangeList) (block : ℕ) → AreChanges changes
    → (changed changes block ≡ None → stamp_of (raised_by stamps changes) block ≡ stamp_of stamps block)
    × (IsSome (changed changes block) → stamp_of stamps block < 2 ^ 64 - 1 → stamp_of (raised_by stamps changes) block ≡ stamp_of stamps block + 1)

-- a fault does to current pages, beside any counts of open files, what it does to pages alone
abbrev pub DamageOfPages : Type 0
DamageOfPages = (pages : PageList) (opens : OpenCounts) (strokes : List Stroke) → (damaged (record { pages = pages; opens = opens }) strokes).pages ≡ pages_damaged pages strokes
