-- What contracts see of a cache, and what is read through it.
use Rattle.std.specs.Prelude.{List, [], ◌∷◌, ◌++◌, ℕ, ◌≡◌, ◌≤◌, ⊤, Option, None, Some, option_map, Result, Ok, Err, IfErr}
use Rattle.std.specs.Option.{option_or}
use Rattle.mb_kinds.specs.Image.{Image}
use Rattle.mb_edge.specs.Blocks.{WritesBlock}
use Rattle.mb_edge.specs.Causes.{HasCause, Rose}
use Rattle.mb_edge.specs.declared.faults.Failed.{Failed}
use Rattle.mb_cache.specs.Clean.{Rereads, Rewrites}
use Rattle.mb_cache.specs.Pages.{PageList, page_at, under}
use Rattle.mb_cache.specs.Stamps.{Stamps}
use Rattle.mb_cache.specs.declared.answers.Flushed.{Flushed}
use Rattle.mb_cache.specs.declared.answers.Flushed.TheVariants as flushed
use Rattle.mb_cache.specs.declared.answers.ReadFault.{ReadFault}
use Rattle.mb_cache.specs.declared.answers.ReadFault.TheVariants as fault

-- what is taken without memory: so many changed blocks, and so many pins; how often a link of a page was written; and the
-- clean pages, the most recently used first. None of it shows in what is seen.
pub record CacheRoom : Type 0 where
  pub pages : ℕ
  pub pins : ℕ
  pub writes : ℕ
  pub clean : PageList

-- the disk, the checkpointed pages that wait to be written back, the pages of the current epoch, how often each block
-- was installed, and how many calls in flight pin it
pub record CacheState (D : Type 0) : Type 0 where
  pub disk : D
  pub sealed : PageList
  pub current : PageList
  pub stamps : Stamps
  pub pins : Stamps
  pub room : CacheRoom

-- a disk with no page and no pin, of which nothing was installed
abbrev pub fresh_cache : {D : Type 0} → D → CacheRoom → CacheState D
fresh_cache disk room = record { disk = disk; sealed = []; current = []; stamps = []; pins = []; room = room }

-- what is seen: the disk under the checkpointed and the current pages
abbrev pub seen : {D : Type 0} → (D → Option Image) → CacheState D → Option Image
seen told cache = option_map (λ image. under (under image cache.sealed) cache.current) (told cache.disk)

-- what a read of a block leaves of a cache, by the pages that the block had
abbrev pub ReadsThrough : {D : Type 0} → CacheState D → CacheState D → ℕ → Result (List ℕ) ReadFault → Type 0
ReadsThrough old new block result =
    Rereads (option_or (page_at old.current block) (page_at old.sealed block)) (page_at old.room.clean block) block old.disk old.room.clean new.disk new.room.clean result

-- what a read of a block leaves of a cache, where the block has no checkpointed page and no current one
abbrev pub ReadsBelow : {D : Type 0} → CacheState D → CacheState D → ℕ → Result (List ℕ) ReadFault → Type 0
ReadsBelow old new block result = Rereads None (page_at old.room.clean block) block old.disk old.room.clean new.disk new.room.clean result

-- a cache after blocks were read: clean pages come and go
abbrev pub after_reads : {D : Type 0} → CacheState D → CacheState D → CacheState D
after_reads old new = record old { disk = new.disk; room = record old.room { clean = new.room.clean } }

-- a cache after pins were taken or given back
abbrev pub with_pins : {D : Type 0} → CacheState D → CacheState D → CacheState D
with_pins old new = record old { pins = new.pins; room = record old.room { pins = new.room.pins } }

-- a cache after blocks were read and pinned
abbrev pub after_pinning : {D : Type 0} → CacheState D → CacheState D → CacheState D
after_pinning old new = record old { disk = new.disk; pins = new.pins; room = record old.room { pins = new.room.pins; clean = new.room.clean } }

-- the room after pages were moved, which takes no pin and no clean page
abbrev pub moved_room : CacheRoom → CacheRoom → CacheRoom
moved_room old new = record new { pins = old.pins; clean = old.clean }

-- a read blames the device only where its count of faults rose
abbrev pub IsBlamed : ℕ → ℕ → ReadFault → Type 0
IsBlamed before now fault.Device = Rose before now
IsBlamed before now fault.NoMemory = Unit {0}

-- the count of faults never falls, and a fault has its cause in it
pub record ReadHasCause {T : Type 0} (before now : ℕ) (result : Result T ReadFault) : Type 0 where
  pub later : before ≤ now
  pub failed : IfErr result (IsBlamed before now)

-- under its pages the image that a disk tells now reads as the one that it told before under the pages of then
abbrev pub ReadsAlike : Option Image → PageList → Option Image → PageList → Type 0
ReadsAlike None pages after left = ⊤
ReadsAlike (Some was) pages None left = ⊥
ReadsAlike (Some was) pages (Some image) left = under image left ≡ under was pages

-- a write of one checkpointed page: which page it is, which stand before and behind it, what the disk then holds, and which
-- clean pages are kept
pub record WritesPage {D : Type 0} (told : D → Option Image) (faults : D → ℕ) (old new : CacheState D) (result : Result (Unit {0}) Failed) : Type 0 where
  pub before : PageList
  pub page : ℕ × List ℕ
  pub behind : PageList
  pub waits : old.sealed ≡ before ++ (page ∷ behind)
  pub written : WritesBlock (told old.disk) (told new.disk) result page.0 page.1
  pub cause : HasCause (faults old.disk) (faults new.disk) result
  pub clean : Rewrites old.room.clean new.room.clean result page.0 page.1
  pub alike : ReadsAlike (told old.disk) old.sealed (told new.disk) new.sealed

-- no checkpointed page waits; one was written and no longer waits; or the write failed, and the page waits on
abbrev pub Flushes : {D : Type 0} → (D → Option Image) → (D → ℕ) → CacheState D → CacheState D → Flushed → Type 0
Flushes told faults old new flushed.Clean = (old.sealed ≡ []) × (new ≡ old)
Flushes told faults old new flushed.One =
    (back : WritesPage told faults old new (Ok tt)) × (new ≡ record old { disk = new.disk; sealed = back.before ++ back.behind; room = new.room })
Flushes told faults old new flushed.Device = WritesPage told faults old new (Err record {}) × (new ≡ record old { disk = new.disk; room = record old.room { clean = new.room.clean } }) × Rose (faults old.disk) (faults new.disk)
