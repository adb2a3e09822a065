-- The slots of a directory, one more and all.
use Rattle.std.proofs.Common.{◌≡◌, ℕ, ◌+◌, ◌*◌, ◌/◌, ◌<◌, ◌≤◌, List, [], ◌∷◌, ◌++◌, true, map, refl, sym, ap, ◌∙◌, arith}
use Rattle.std.specs.List.{range_with_len}
use Rattle.std.proofs.lemmas.List.FromFn.{map-range_with_len_more}
use Rattle.mb_layout.specs.SlotEntry.{slot_at}
use Rattle.mb_layout.specs.declared.slots.Slot.{Slot}
use Rattle.mb_tree.specs.Blocks.{part_bytes, slot_in}
use Rattle.mb_tree.specs.Inodes.{is_directory}
use Rattle.mb_tree.specs.declared.nodes.PlainSlot.{PlainSlot}
use Rattle.mb_rules.specs.Slots.{slots_at}
use Rattle.mb_scan_laws.proofs.ShownTrees.{slots_by}
use Rattle.mb_check_files.specs.declared.inodes.InodeKept.{InodeKept}
use Rattle.mb_check_files.specs.declared.inodes.InodeTable.{InodeTable}
use Rattle.mb_check.specs.Directories.{KeepsDirectory, slots_before}
use Rattle.mb_check.proofs.PartReads.{last_before}
use Rattle.mb_check.proofs.SlotWalks.{plain, plain_read}
use Rattle.mb_check_tree.specs.Listings.{first_slots}

pub first_none : (blocks : ℕ → List ℕ) (dir n : ℕ) → n ≡ 0 → first_slots blocks dir n ≡ []
unfolding first_slots
first_none blocks dir n e = ap (λ k. map (slot_in blocks dir) (range_with_len 0 k)) e

pub first_more : (blocks : ℕ → List ℕ) (dir n m : ℕ) (slot : PlainSlot) (old new : List PlainSlot) → old ≡ first_slots blocks dir n → slot ≡ slot_in blocks dir n → new ≡ old ++ slot ∷ [] → n + 1 ≡ m → new ≡ first_slots blocks dir m
unfolding first_slots
first_more blocks dir n m slot old new so is more e =
    more ∙ ap (λ xs. xs ++ slot ∷ []) so ∙ ap (λ s. map (slot_in blocks dir) (range_with_len 0 n) ++ s ∷ []) is
    ∙ sym (map-range_with_len_more (slot_in blocks dir) 0 n n (omega arith)) ∙ ap (λ k. map (slot_in blocks dir) (range_with_len 0 k)) e

pub first_read : (blocks : ℕ → List ℕ) (dir part place : ℕ) (block : List ℕ) (entry : Slot) (old new : List PlainSlot) → place < 32 → block ≡ part_bytes blocks dir part → entry ≡ slot_at block place
    → old ≡ first_slots blocks dir (32 * part + place) → new ≡ old ++ plain entry ∷ [] → new ≡ first_slots blocks dir (32 * part + (place + 1))
first_read blocks dir part place block entry old new low same is so more =
    first_more blocks dir (32 * part + place) (32 * part + (place + 1)) (plain entry) old new so (plain_read blocks dir part place place block entry low refl same is) more (omega arith)

pub first_all : (blocks : ℕ → List ℕ) (table : InodeTable) (dir : ℕ) (kept : InodeKept) (part : ℕ) → KeepsDirectory blocks table dir kept → (kept.size + 511) / 512 ≤ part → first_slots blocks dir (slots_before kept.size part) ≡ slots_at blocks dir
unfolding first_slots
first_all blocks table dir kept part keeps past =
    ap (λ n. map (slot_in blocks dir) (range_with_len 0 n)) (last_before blocks table dir kept keeps part past ∙ ap (λ n. n / 16) keeps.inode.size)
    ∙ sym (slots_by blocks dir true (ap is_directory (sym keeps.inode.mode) ∙ keeps.directory))
