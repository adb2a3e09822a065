-- What a pass over a part of the scan's items says, in the flags of the blocks that were met.
use Rattle.std.specs.Prelude.{List, [], ℕ, suc, ◌+◌, ◌*◌, ◌<◌, ◌≤◌, ◌≡◌, Bool, Option, Some, None, Result, Ok, Err, slice_get, length, count_by, IfSome}
use Rattle.mb_kinds.specs.Image.{Image}
use Rattle.mb_edge.specs.Causes.{Rose}
use Rattle.mb_word.specs.Numbers.{word_at, long_at}
use Rattle.mb_word.specs.Fields.{isize_of, fsize_of}
use Rattle.mb_tree.specs.Blocks.{list_in}
use Rattle.mb_tree.specs.Chain.{Listed}
use Rattle.mb_rules.specs.declared.findings.Finding.{Finding}
use Rattle.mb_rules.specs.Items.{Item, is_met, walked}
use Rattle.mb_rules.specs.FreeChain.{list_items, chain_items}
use Rattle.mb_layout.specs.declared.dinodes.Dinode.{Dinode}
use Rattle.mb_check_files.specs.InodeTables.{ReadsInode}
use Rattle.mb_check_files.specs.declared.bounds.Bounds.{Bounds}
use Rattle.mb_check_files.specs.declared.stops.Stop.{Stop}
use Rattle.mb_check_files.specs.declared.stops.Stop.TheVariants.{Broken, Device, NoMemory}

-- how many blocks were met
abbrev pub count_met : List Bool → ℕ
count_met flags = count_by (λ flag. flag) flags

-- the flags are true for just the blocks that were met, each of them once
pub record Stands (flags : List Bool) (met : List ℕ) : Type 0 where
  pub each : (block : ℕ) → block < length flags → slice_get flags block ≡ Some (is_met met block)
  pub count : count_met flags ≡ length met

-- the addresses that are open on an image
pub record AreBounds (blocks : ℕ → List ℕ) (bounds : Bounds) : Type 0 where
  pub low : isize_of (blocks 1) ≡ bounds.low
  pub high : fsize_of (blocks 1) ≡ bounds.high

-- the items are gone through, or the scan ends in them
abbrev pub Walks : Result Unit Finding → List Bool → List ℕ → List Item → Type 0
Walks (Ok _) flags met items = (after : List ℕ) × (walked met items ≡ Ok after) × Stands flags after
Walks (Err broken) flags met items = walked met items ≡ Err broken

-- the same over a device
abbrev pub Passes : Result Unit Stop → List Bool → List ℕ → List Item → Type 0
Passes (Ok _) flags met items = (after : List ℕ) × (walked met items ≡ Ok after) × Stands flags after
Passes (Err (Broken broken)) flags met items = walked met items ≡ Err broken
Passes (Err Device) flags met items = Unit {0}
Passes (Err NoMemory) flags met items = Unit {0}

-- the flags stood for the blocks that were met before, whichever they are: the items were gone through from there
abbrev pub PassesOver : (ℕ → List ℕ) → Bounds → List Bool → List Bool → Result Unit Stop → List Item → Type 0
PassesOver blocks bounds old new result items = (met : List ℕ) → AreBounds blocks bounds → Stands old met → Passes result new met items

-- the same of the image that a disk tells
abbrev pub PassesOn : Option Image → Bounds → List Bool → List Bool → Result Unit Stop → ((ℕ → List ℕ) → List Item) → Type 0
PassesOn told bounds old new result items = IfSome told (λ (image : Image). PassesOver image.at bounds old new result (items image.at))

-- the same of the items of an inode, which stands in that block
abbrev pub PassesInode : (ℕ → List ℕ) → ℕ → Dinode → Bounds → List Bool → List Bool → Result Unit Stop → (ℕ → List Item) → Type 0
PassesInode blocks holder inode bounds old new result items = (ino : ℕ) (met : List ℕ) → ReadsInode blocks ino holder inode
    → AreBounds blocks bounds → Stands old met → Passes result new met (items ino)

-- the list of addresses whose count stands at base
abbrev pub listed_at : List ℕ → ℕ → Listed
listed_at bytes base = record { count = word_at bytes base; entry = λ k. long_at bytes (base + 2 + 4 * k) }

-- one list of the chain, with so many lists at most after it: it is the last one, or leads to a block whose
-- list comes next
abbrev pub Lists : Result (Option ℕ) Stop → List Bool → List ℕ → (ℕ → List ℕ) → ℕ → Listed → List ℕ → Type 0
Lists (Ok None) flags bytes blocks holder it met = (lists : ℕ) → (after : List ℕ) × (walked met (list_items blocks (suc lists) holder it) ≡ Ok after) × Stands flags after
Lists (Ok (Some next)) flags bytes blocks holder it met = (bytes ≡ blocks next) × ((lists : ℕ) → (after : List ℕ) × (walked met (list_items blocks (suc lists) holder it) ≡ walked after (list_items blocks lists next (list_in blocks next))) × Stands flags after)
Lists (Err (Broken broken)) flags bytes blocks holder it met = (lists : ℕ) → walked met (list_items blocks (suc lists) holder it) ≡ Err broken
Lists (Err Device) flags bytes blocks holder it met = Unit {0}
Lists (Err NoMemory) flags bytes blocks holder it met = Unit {0}

-- the count of faults never falls, and Device comes only where it rose
abbrev pub IsDevice : {T : Type 0} → Result T Stop → Type 0
IsDevice (Ok x) = ⊥
IsDevice (Err (Broken broken)) = ⊥
IsDevice (Err Device) = Unit {0}
IsDevice (Err NoMemory) = ⊥

pub record DeviceCause {T : Type 0} (before now : ℕ) (result : Result T Stop) : Type 0 where
  pub later : before ≤ now
  pub failed : IsDevice result → Rose before now

-- so far the chain's lists were gone through: what is left is the list at hand and those after it
pub record Underway (image : Image) (flags : List Bool) (bytes : List ℕ) (base holder bound so_far : ℕ) : Type 0 where
  pub met : List ℕ
  pub lists : ℕ
  pub left : lists + so_far ≡ bound
  pub walks : walked [] (chain_items image.at) ≡ walked met (list_items image.at lists holder (listed_at bytes base))
  pub stands : Stands flags met
