-- The root of a fresh volume, and the fresh volume whole.
use Rattle.std.proofs.Common.{ℕ, ◌≡◌, ◌≢◌, inl, inr, ◌+◌, ◌-◌, ◌*◌, ◌<◌, ◌≤◌, true, false, cond, nat_eq, List, length, slice_index, refl, sym, ap, subst, ◌∙◌, arith}
use Rattle.std.proofs.lemmas.Bool.{cases_eq}
use Rattle.std.proofs.lemmas.Bool.Decides.{nat_tests}
use Rattle.std.proofs.lemmas.List.{length-replicate}
use Rattle.mb_kinds.specs.Image.{zeros}
use Rattle.mb_word.specs.Fields.{inode_block, inode_place}
use Rattle.mb_word.specs.Numbers.{addr_at, addr_bytes, put_at, word_at}
use Rattle.mb_word.proofs.Values.{addr_at-same, addr_back, length-addr_bytes}
use Rattle.mb_word.proofs.Writes.{length-put_at, put_at_same}
use Rattle.mb_layout.specs.Inode.{FitsDinode, address_in, dinode_bytes}
use Rattle.mb_layout.specs.SlotEntry.{FitsSlot, slot_bytes}
use Rattle.mb_layout.specs.declared.dinodes.Dinode.{Dinode}
use Rattle.mb_layout.specs.declared.slots.Slot.{Slot}
use Rattle.mb_layout.proofs.InodeBytes.{length-dinode_bytes}
use Rattle.mb_layout.proofs.SlotBytes.{length-slot_bytes, slot_back, slot_others}
use Rattle.mb_tree.specs.Blocks.{slot_of}
use Rattle.mb_tree.specs.Effect.{dot, dot_dot}
use Rattle.mb_tree.specs.declared.nodes.PlainSlot.{PlainSlot}
use Rattle.mb_blocks.specs.Inodes.{HasValues, IsDinodeWritten}
use Rattle.mb_blocks.proofs.InodeWrites.{addresses_now, dinode_written, fields_now, value_now}
use Rattle.mb_blocks.specs.FreeLists.{AreFreed}
use Rattle.mb_nodes.specs.Fresh.{IsFresh, IsRootWritten, falling, fresh_root}
use Rattle.mb_mkfs.specs.FreeLists.{free_block, super_block}
use Rattle.mb_mkfs.specs.Sizes.{AreSizes, isize_for}
use Rattle.mb_mkfs.specs.Volume.{fresh, fresh_block, no_addresses, root_inode, root_slot, root_slots}
use Rattle.mb_mkfs.proofs.Chaining.{all_freed, blank, laid, low_now, root_now}
use Rattle.mb_mkfs.proofs.Values.{length_free, length_super, length_zeros, no_byte, zero_byte}

length_none : length no_addresses ≡ 40
unfolding no_addresses
length_none = length-replicate {A = ℕ} 40 0

no_address_byte : (k : ℕ) → slice_index no_addresses k ≡ 0
unfolding no_addresses
no_address_byte k = no_byte 40 k

no_address : (at : ℕ) → addr_at no_addresses at ≡ 0
unfolding addr_at word_at
no_address at =
    let one = no_address_byte at in
    let two = no_address_byte (at + 1) in
    let three = no_address_byte (at + 1 + 1) in
    omega (arith, one, two, three)

fits_name : (name : List ℕ) → length name ≡ 14 → FitsSlot (root_slot name)
fits_name name long = record { ino = omega arith; name = long }

fits_dot : FitsSlot (root_slot dot)
fits_dot = fits_name dot refl

fits_dot_dot : FitsSlot (root_slot dot_dot)
fits_dot_dot = fits_name dot_dot refl

first_written : List ℕ
first_written = put_at zeros 0 (slot_bytes (root_slot dot))

length_first : length first_written ≡ 512
unfolding first_written
length_first =
    let many = length-slot_bytes (root_slot dot) refl in
    let room = length_zeros in
    length-put_at zeros 0 (slot_bytes (root_slot dot)) (omega (arith, many, room)) ∙ length_zeros

length_slots : length root_slots ≡ 512
unfolding first_written
length_slots =
    let many = length-slot_bytes (root_slot dot_dot) refl in
    let room = length_first in
    length-put_at first_written 16 (slot_bytes (root_slot dot_dot)) (omega (arith, many, room)) ∙ length_first

abbrev plain : Slot → PlainSlot
plain slot = record { ino = slot.ino; name = slot.name }

first_slot : ◌≡◌ {A = PlainSlot} (slot_of root_slots 0) (record { ino = 2; name = dot })
unfolding first_written
first_slot =
    let room = length_first in
    let kept = slot_others first_written 1 0 (root_slot dot_dot) (omega (arith, room)) (omega (arith, room)) refl (λ e. omega (arith, e)) in
    let made = slot_back zeros 0 (root_slot dot) (let all = length_zeros in omega (arith, all)) fits_dot in
    ap plain (kept ∙ made)

second_slot : ◌≡◌ {A = PlainSlot} (slot_of root_slots 1) (record { ino = 2; name = dot_dot })
unfolding first_written
second_slot =
    let room = length_first in
    ap plain (slot_back first_written 1 (root_slot dot_dot) (omega (arith, room)) fits_dot_dot)

module _ (isize top : ℕ) (some : 3 ≤ isize) (narrow : isize ≤ 8193) (room : isize < top) (few : top ≤ 262144) where
  abbrev old : ℕ → List ℕ
  old = laid isize top some narrow room few (isize + 1)

  abbrev new : ℕ → List ℕ
  new = fresh_block isize top

  abbrev d : Dinode
  d = root_inode isize

  length_area : length d.area ≡ 40
  length_area =
      let many = length-addr_bytes isize in
      let all = length_none in
      length-put_at no_addresses 0 (addr_bytes isize) (omega (arith, many, all)) ∙ length_none

  fits : FitsDinode d
  fits = record {
    mode = omega arith;
    nlink = omega arith;
    uid = omega arith;
    gid = omega arith;
    size = omega arith;
    area = length_area;
    atime = omega arith;
    mtime = omega arith;
    ctime = omega arith;
  }

  old_two : old 2 ≡ zeros
  old_two = low_now isize top some narrow room few (isize + 1) 2 (omega (arith, some)) (omega arith) (omega (arith, some))

  new_two : new 2 ≡ put_at zeros 64 (dinode_bytes d)
  unfolding fresh_block
  new_two = refl

  away : (block : ℕ) → block ≢ 2 → new block ≡ old block
  unfolding fresh_block
  away block apart =
      let two : nat_eq block 2 ≡ false = grind (arith, nat_tests) in
      ap (λ b. cond (nat_eq block 1) (super_block isize top (isize + 1)) (cond b (put_at zeros 64 (dinode_bytes d)) (cond (nat_eq block isize) root_slots (free_block top (isize + 1) block)))) two

  written : IsDinodeWritten old new 2 d
  written = record { fits = fits; block = new_two ∙ ap (λ (b : List ℕ). put_at b 64 (dinode_bytes d)) (sym old_two); others = away }

  long_two : length (old (inode_block 2)) ≡ 512
  long_two = ap length old_two ∙ length_zeros

  values : HasValues d fresh_root
  values = record { used = λ e. omega (arith, e); mode = refl; nlink = refl; uid = refl; gid = refl; atime = refl; mtime = refl; ctime = refl }

  pub laid_sized : (next block : ℕ) → length (laid isize top some narrow room few next block) ≡ 512
  laid_sized next block = elim (nat_eq block 1) as (λ b. length (cond b (super_block isize top next) (cond (nat_eq block isize) root_slots (free_block top next block))) ≡ 512) [
    | true ↦ length_super isize top (omega (arith, narrow)) few next
    | false ↦ elim (nat_eq block isize) as (λ b. length (cond b root_slots (free_block top next block)) ≡ 512) [ true ↦ length_slots | false ↦ length_free top few next block ]
  ]

  length_two : length (new 2) ≡ 512
  length_two =
      let many = length-dinode_bytes d length_area in
      let all = length_zeros in
      ap length new_two ∙ length-put_at zeros 64 (dinode_bytes d) (omega (arith, many, all)) ∙ length_zeros

  sized : (block : ℕ) → length (new block) ≡ 512
  sized block = elim (cases_eq block 2) [ inl two ↦ ap (λ b. length (new b)) two ∙ length_two | inr apart ↦ ap length (away block apart) ∙ laid_sized (isize + 1) block ]

  root_block : new isize ≡ root_slots
  root_block = away isize (omega (arith, some)) ∙ root_now isize top some narrow room few (isize + 1)

  area_first : address_in d 0 ≡ isize
  area_first = addr_back no_addresses 0 isize (let all = length_none in omega (arith, all)) (omega (arith, narrow))

  area_rest : (p : ℕ) → 0 < p → address_in d p ≡ 0
  area_rest p real =
      let many = length-addr_bytes isize in
      let all = length_none in
      addr_at-same d.area no_addresses (3 * p) (put_at_same no_addresses 0 (addr_bytes isize) (3 * p) 3 (omega (arith, many, all)) (inr (omega (arith, many, real))))
      ∙ no_address (3 * p)

  old_last : slice_index d.area 39 ≡ slice_index (old (inode_block 2)) (64 * inode_place 2 + 51)
  old_last =
      let many = length-addr_bytes isize in
      let all = length_none in
      put_at_same no_addresses 0 (addr_bytes isize) 39 1 (omega (arith, many, all)) (inr (omega (arith, many))) 39 (omega arith) (omega arith)
      ∙ no_address_byte 39
      ∙ sym (zero_byte 115)
      ∙ ap (λ (b : List ℕ). slice_index b 115) (sym old_two)

  root_written : IsRootWritten old new isize
  root_written = record {
    sized = sized;
    others = λ other apart root. away other apart;
    beside = (dinode_written old new 2 d (omega arith) long_two written old_last).beside;
    fields = fields_now old new 2 d (omega arith) long_two written fresh_root values;
    size = ap (λ (x : Dinode). x.size) (value_now old new 2 d (omega arith) long_two written);
    top = addresses_now old new 2 d (omega arith) long_two written 0 (omega arith) ∙ area_first;
    holes = λ p real low. addresses_now old new 2 d (omega arith) long_two written p low ∙ area_rest p real;
    first = ap (λ (b : List ℕ). slot_of b 0) root_block ∙ first_slot;
    second = ap (λ (b : List ℕ). slot_of b 1) root_block ∙ second_slot;
  }

  pub is_fresh : IsFresh (record { count = top; at = new }) isize top
  is_fresh = record {
    start = laid isize top some narrow room few top;
    free = old;
    some_inodes = some;
    few_inodes = narrow;
    some_blocks = room;
    few_blocks = few;
    present = omega arith;
    blank = blank isize top some narrow room few (laid_sized top);
    frees =
        (let e : isize + 1 + (top - 1 - isize) ≡ top = omega (arith, room) in
        subst (λ m. AreFreed (laid isize top some narrow room few m) old (falling (isize + 1) (top - 1 - isize))) e
        (all_freed isize top some narrow room few (isize + 1) (top - 1 - isize) (omega arith) (omega (arith, room))));
    root = root_written;
  }

pub fresh_made : (blocks inodes : ℕ) → AreSizes blocks inodes → IsFresh (fresh blocks inodes) (isize_for inodes) blocks
fresh_made blocks inodes sizes =
    let some = sizes.some_inodes in
    let most = sizes.few_inodes in
    let whole = sizes.whole in
    let room = sizes.some_blocks in
    is_fresh (isize_for inodes) blocks (omega (arith, some, whole)) (omega (arith, most)) (omega (arith, room)) sizes.few_blocks
