-- A block hung at a level of the way to a part.
use Rattle.std.proofs.Common.{ℕ, zero, suc, ◌≡◌, ◌≢◌, inl, inr, ◌+◌, ◌*◌, ◌<◌, ◌≤◌, Bool, true, false, cond, nat_lt, Option, List, length, slice_index, replicate, refl, sym, ap, subst, ◌∙◌, arith}
use Rattle.std.proofs.lemmas.Bool.{cases_lt}
use Rattle.std.proofs.lemmas.Bool.Decides.{nat_tests}
use Rattle.mb_kinds.specs.Image.{zeros}
use Rattle.mb_word.specs.Fields.{inode_block, inode_place, address_of}
use Rattle.mb_word.specs.Numbers.{put_at, long_bytes, addr_bytes}
use Rattle.mb_tree.specs.Blocks.{entry_in}
use Rattle.mb_tree.specs.Places.{at}
use Rattle.mb_tree.specs.Views.{over}
use Rattle.mb_kinds.specs.Changed.{ChangeList, changed, put_block}
use Rattle.mb_iface.specs.Pairs.{HasPutAndEdited}
use Rattle.mb_iface.proofs.ChangedBlocks.{put_block_same, put_block_other}
use Rattle.mb_blocks.specs.Growing.{IsZeroed, IsEntrySet, SetsPlace}
use Rattle.mb_blocks.proofs.Pointing.{entry_same}
use Rattle.mb_alloc.specs.declared.frees.Hung.{Hung}
use Rattle.mb_alloc.specs.declared.frees.Hung.TheVariants as hung
use Rattle.mb_bmap.specs.declared.routes.Route.{Route}
use Rattle.mb_bmap.specs.Ways.{way}
use Rattle.mb_bmap.specs.Locating.{address_on, OnWay}
use Rattle.mb_bmap.specs.Hanging.{IsHangable, FillsIndex, HangsAt, SetsBytes}
use Rattle.mb_bmap.proofs.Stepping.{set_entry, set_top}
use Rattle.mb_bmap.proofs.Walking.{IsRoute}

-- ---- a block filled, and then bytes of another changed

pub by_index : (shown : ℕ → Option (List ℕ)) (old new : ChangeList) (holder at block : ℕ) (bytes : List ℕ) (is_index : Bool) → is_index ≡ true → HasPutAndEdited shown old new block (replicate 512 0) holder at bytes
    → SetsBytes shown old new holder at bytes is_index block hung.Done
unfolding zeros
by_index shown old new holder at block bytes is_index is sets = subst (λ b. SetsBytes shown old new holder at bytes b block hung.Done) (sym is) (sets.within, sets.wrote)

-- ---- the place where the address is written

-- the blocks after the one that is hung was filled where it is an index block
abbrev filled : (ℕ → List ℕ) → Bool → ℕ → ℕ → List ℕ
filled old is_index block = cond is_index (put_block old block zeros) old

filled_other : (old : ℕ → List ℕ) (is_index : Bool) (block other : ℕ) → other ≢ block → filled old is_index block other ≡ old other
filled_other old true block other apart = put_block_other old block zeros other apart
filled_other old false block other apart = refl

fills : (old : ℕ → List ℕ) (r : Route) (level block : ℕ) → level ≤ r.depth → FillsIndex old (filled old (nat_lt level r.depth) block) r level block
fills old r level block low = elim (cases_lt level r.depth) [
  | inl less ↦
      let t : nat_lt level r.depth ≡ true = grind (arith, nat_tests) in
      inl (less, subst (λ b. IsZeroed old (filled old b block) block) (sym t) (record { here = put_block_same old block zeros; others = λ other apart. put_block_other old block zeros other apart }))
  | inr more ↦
      let t : nat_lt level r.depth ≡ false = grind (arith, nat_tests) in
      inr (omega (arith, low, more), ap (λ b. filled old b block) t)
]

module _ (old : ℕ → List ℕ) (ino : ℕ) (r : Route) (level block : ℕ) (hangable : IsHangable old ino r level block) (is_index : Bool) where
  inode_stays : filled old is_index block (inode_block ino) ≡ old (inode_block ino)
  inode_stays = filled_other old is_index block (inode_block ino) (λ e. hangable.apart (inl (sym e)))

  -- the addresses before the level are as they were
  way_stays : (above : ℕ) → above < level → address_on (filled old is_index block) ino r above ≡ address_on old ino r above
  way_stays zero low = ap (λ b. address_of b (inode_place ino) (slice_index r.places 0)) inode_stays
  way_stays (suc above) low =
      let before = way_stays above (omega (arith, low)) in
      ap (λ b. entry_in (filled old is_index block) b (slice_index r.places (suc above))) before
      ∙ entry_same old (filled old is_index block) (address_on old ino r above) (slice_index r.places (suc above))
      (λ some. filled_other old is_index block (address_on old ino r above) (λ e. hangable.apart (inr (above, omega (arith, low), sym e))))

module _ (shown : ℕ → Option (List ℕ)) (old new : ChangeList) (ino part : ℕ) (r : Route) (is_route : IsRoute part r) (block : ℕ) (small : block < 262144) where
  -- in the inode
  pub hung_first : (holder slot : ℕ) (z value : List ℕ) (result : Hung) → holder ≡ inode_block ino → slot ≡ inode_place ino → length z ≡ 3 → value ≡ put_at z 0 (addr_bytes block)
      → SetsBytes shown old new holder (64 * slot + 12 + 3 * slice_index r.places 0) value (nat_lt 0 r.depth) block result → HangsAt shown old new ino r 0 block result
  hung_first holder slot z value hung.Done at_block at_place zs is did = (
    did.0,
    λ blocks is_part hangable.
        (let was = over blocks (changed old) in
        let two = filled was (nat_lt 0 r.depth) block in
        record {
          filled = two;
          fills = fills was r 0 block (omega arith);
          set = set_top two (over blocks (changed new)) ino holder slot (slice_index r.places 0) block z value
              (ap length (inode_stays was ino r 0 block hangable (nat_lt 0 r.depth)) ∙ hangable.sized (inode_block ino)) hangable.some at_block at_place is_route.top small zs is
              (did.1 blocks is_part);
        }),
  )
  hung_first holder slot z value (hung.Need need) at_block at_place zs is did = (did.0, did.1, λ blocks is_part bounded. inl (did.2 ∙ at_block))
  hung_first holder slot z value hung.NoMemory at_block at_place zs is did = did

  -- in an index block
  pub hung_next : (above level index place : ℕ) (z value : List ℕ) (result : Hung) → level ≡ suc above → level ≤ r.depth → place ≡ slice_index r.places level → length z ≡ 4 → value ≡ put_at z 0 (long_bytes block)
      → OnWay shown old ino r (λ blocks. address_on blocks ino r above ≡ index)
      → SetsBytes shown old new index (4 * place) value (nat_lt level r.depth) block result → HangsAt shown old new ino r level block result
  hung_next above level index place z value hung.Done is_level low is_place zs is found did = (
    did.0,
    λ blocks is_part hangable.
        (let was = over blocks (changed old) in
        let two = filled was (nat_lt level r.depth) block in
        let now = over blocks (changed new) in
        let at_index : address_on was ino r above ≡ index = found blocks is_part hangable.bounded in
        let apart : index ≢ block = (λ e. hangable.apart (inr (above, omega (arith, is_level), sym (at_index ∙ e)))) in
        let stays : two index ≡ was index = filled_other was (nat_lt level r.depth) block index apart in
        let led : address_on two ino r above ≡ index = way_stays was ino r level block hangable (nat_lt level r.depth) above (omega (arith, is_level)) ∙ at_index in
        let p : place ≡ slice_index r.places (suc above) = is_place ∙ ap (slice_index r.places) is_level in
        let set = set_entry two now index place block z value (ap length stays ∙ hangable.sized index) (subst (λ k. k < 128) (sym is_place) (is_route.under level (omega (arith, is_level)))) small zs is
        (did.1 blocks is_part) in
        record {
          filled = two;
          fills = fills was r level block low;
          set = subst (λ n. SetsPlace two now (way ino r.places n) block) (sym is_level) (subst (λ k. IsEntrySet two now (address_on two ino r above) k block) p (subst (λ x. IsEntrySet two now x place block) (sym led) set));
        }),
  )
  hung_next above level index place z value (hung.Need need) is_level low is_place zs is found did = (
    did.0,
    did.1,
    λ blocks is_part bounded.
        inr (above, omega (arith, is_level), did.2 ∙ sym (found blocks is_part bounded)),
  )
  hung_next above level index place z value hung.NoMemory is_level low is_place zs is found did = did
