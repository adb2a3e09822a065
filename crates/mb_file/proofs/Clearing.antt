-- A regular file's inode written as an empty file's, and its blocks put back.
use Rattle.std.proofs.Common.{ℕ, zero, suc, ◌≡◌, ◌≢◌, ◌⊎◌, inl, inr, ◌+◌, ◌*◌, ◌-◌, ◌<◌, Bool, true, List, [], length, Option, slice_index, replicate, set, get_or, get_or-set_same, get_or-set_other, refl, sym, ap, subst, ◌∙◌, arith}
use Rattle.std.specs.List.{Contains}
use Rattle.std.proofs.lemmas.List.{length-replicate}
use Rattle.mb_kinds.specs.Image.{Image}
use Rattle.mb_word.specs.Fields.{inode_block, inode_place}
use Rattle.mb_word.specs.Numbers.{addr_at, word_at}
use Rattle.mb_word.proofs.Parts.{get_or-part}
use Rattle.mb_layout.specs.Inode.{address_in, dinode_at}
use Rattle.mb_layout.specs.declared.dinodes.Dinode.{Dinode}
use Rattle.mb_tree.specs.Blocks.{pointers}
use Rattle.mb_tree.specs.Effect.{blanked, cleared}
use Rattle.mb_tree.specs.Views.{over, IsPart}
use Rattle.mb_tree.specs.Volume.{HasNode, body_has_addresses, has_addresses, node_has_addresses}
use Rattle.mb_tree.specs.declared.nodes.Node.{Node}
use Rattle.mb_tree.specs.declared.trees.Tree.{Tree}
use Rattle.mb_iface.specs.Acting.{with_changes}
use Rattle.mb_kinds.specs.Changed.{ChangeList, changed, IsWithinView}
use Rattle.mb_iface.specs.Near.IsNear.{super_block}
use Rattle.mb_iface.specs.Needs.{IsNeed}
use Rattle.mb_iface.specs.declared.replies.Need.{Need}
use Rattle.mb_blocks.specs.FreeLists.{AreFreed, onto}
use Rattle.mb_blocks.specs.Inodes.{HasValues, IsDinodeWritten, IsRewritten}
use Rattle.mb_blocks.specs.Owners.{Enumerates, without}
use Rattle.mb_blocks.specs.Walk.{under_block, under_inode}
use Rattle.mb_blocks.proofs.InodeWalks.{walk_enumerates}
use Rattle.mb_blocks.proofs.InodeWrites.{addresses_now, dinode_written, fields_now, value_now}
use Rattle.mb_alloc.specs.declared.frees.Hung.{Hung}
use Rattle.mb_alloc.specs.declared.frees.Hung.TheVariants as hung
use Rattle.mb_nodes.specs.Bodies.{LetsGo}
use Rattle.mb_nodes.specs.Bodies.LetsGo.{listed}
use Rattle.mb_nodes.specs.Stored.{IsStored, with_node}
use Rattle.mb_nodes.proofs.OneInode.{laid_stored}
use Rattle.mb_moves.specs.Advancing.{Advances, IsNearTo}
use Rattle.mb_moves.proofs.Asking.{inode_near}
use Rattle.mb_moves.proofs.Dropping.{cleared_advances}
use Rattle.mb_file.specs.Clearing.{Clears, IsFileAt, emptied_inode}
use Rattle.mb_file.specs.Freeing.{AreInHand, PutsAllBack}
use Rattle.std.specs.List.Sorted.{IsPermutation}
use Rattle.std.proofs.lemmas.List.Sorted.{Contains-permutation, IsPermutation-sym}
use Rattle.mb_file.proofs.Reordered.{enumerates_reordered}
use Rattle.mb_file.specs.Walking.{IsListable, under_dinode}
use Rattle.mb_file.proofs.Holding.{its_inode, its_number, listable_held, near_held, same_top}
use Rattle.mb_file.proofs.InHand.{after_rewriting}
use Rattle.mb_file.proofs.Listing.{each_alike}

-- ---- an inode's value without addresses

none_in : (n k : ℕ) → get_or (replicate {A = ℕ} n 0) k 0 ≡ 0
none_in zero k = refl
none_in (suc n) zero = refl
none_in (suc n) (suc k) = none_in n k

abbrev blank : ℕ → List ℕ
blank byte = set (replicate {A = ℕ} 40 0) 39 byte

hole_in : (byte k : ℕ) → k < 39 → get_or (blank byte) k 0 ≡ 0
hole_in byte k low = (let apart : k ≢ 39 = omega (arith, low) in rw get_or-set_other (none_in 40 k))

pub hole_address : (d : Dinode) (moment p : ℕ) → p < 13 → address_in (emptied_inode d moment) p ≡ 0
unfolding addr_at word_at
hole_address d moment p low =
    let byte = slice_index d.area 39 in
    let a = hole_in byte (3 * p) (omega (arith, low)) in
    let b = hole_in byte (3 * p + 1) (omega (arith, low)) in
    let c : get_or (blank byte) (3 * p + 1 + 1) 0 ≡ 0 = hole_in byte (3 * p + 1 + 1) (omega (arith, low)) in
    omega (arith, a, b, c)

pub last_stays : (d : Dinode) (moment : ℕ) → slice_index (emptied_inode d moment).area 39 ≡ slice_index d.area 39
last_stays d moment = (let room : 39 < length (replicate {A = ℕ} 40 0) = omega (arith, length-replicate {A = ℕ} 40 0) in rw get_or-set_same refl)

-- the byte behind the addresses, read with the inode
pub last_read : (b : List ℕ) (place : ℕ) (d : Dinode) → d ≡ dinode_at b place → slice_index d.area 39 ≡ slice_index b (64 * place + 51)
last_read b place d reads = ap (λ (x : Dinode). slice_index x.area 39) reads ∙ get_or-part b (64 * place + 12) 40 39 (omega arith) ∙ ap (slice_index b) (omega arith)

-- the fields that an inode's value says of its node
pub values_read : (blocks : ℕ → List ℕ) (ino : ℕ) (node : Node) (d : Dinode) → d ≡ dinode_at (blocks (inode_block ino)) (inode_place ino) → HasNode blocks ino node → HasValues d node
values_read blocks ino node d reads has = record {
  used = λ e. has.used (sym (ap (λ (x : Dinode). x.mode) reads) ∙ e);
  mode = ap (λ (x : Dinode). x.mode) reads ∙ has.mode;
  nlink = ap (λ (x : Dinode). x.nlink) reads ∙ has.nlink;
  uid = ap (λ (x : Dinode). x.uid) reads ∙ has.uid;
  gid = ap (λ (x : Dinode). x.gid) reads ∙ has.gid;
  atime = ap (λ (x : Dinode). x.atime) reads ∙ has.atime;
  mtime = ap (λ (x : Dinode). x.mtime) reads ∙ has.mtime;
  ctime = ap (λ (x : Dinode). x.ctime) reads ∙ has.ctime;
}

-- ---- the step

module _ (image : Image) (tree : Tree) (chain : List ℕ) (stored : IsStored image tree chain) (looks : ℕ → Bool) (ino : ℕ) (node : Node) (file : IsFileAt tree looks ino node)
    (d : Dinode) (reads : d ≡ dinode_at (image.at (inode_block ino)) (inode_place ino)) where
  abbrev some : 0 < ino
  some = (let n = its_number image tree chain stored ino node file.has in omega (arith, n.0))

  abbrev with_addresses : has_addresses tree ino ≡ true
  with_addresses = ap node_has_addresses file.has ∙ ap body_has_addresses file.body

  under_same : under_dinode (pointers image.at) d ≡ under_inode (pointers image.at) ino
  under_same = sym (each_alike (λ place. under_block (pointers image.at) (place - 9)) ((pointers image.at).top ino) (address_in d) 13 (same_top image tree chain stored ino d reads))

  lists : Enumerates image.at ino (under_dinode (pointers image.at) d)
  lists = subst (Enumerates image.at ino) (sym under_same) (walk_enumerates (has_addresses tree) image.at [] chain ino (laid_stored image tree chain stored) with_addresses)

  pub file_listable : IsListable [] (under_dinode (pointers image.at) d)
  file_listable = listable_held image tree chain stored ino with_addresses (under_dinode (pointers image.at) d) lists

  pub file_near : (block : ℕ) → Contains (under_dinode (pointers image.at) d) block → IsNearTo image tree looks block
  file_near block among = near_held image tree chain stored ino with_addresses (under_dinode (pointers image.at) d) lists looks file.looked block among

  module _ (moment : ℕ) (list : List ℕ) (is : IsPermutation (under_dinode (pointers image.at) d) list) (mid : ℕ → List ℕ) (written : IsDinodeWritten image.at mid ino (emptied_inode d moment)) where
    rewritten : IsRewritten image.at mid ino
    rewritten = dinode_written image.at mid ino (emptied_inode d moment) some (stored.bytes (inode_block ino)) written (last_stays d moment ∙ last_read (image.at (inode_block ino)) (inode_place ino) d reads)

    lets : LetsGo image.at ino node.body list
    lets = listed node.body list (ap body_has_addresses file.body) (enumerates_reordered image.at ino (under_dinode (pointers image.at) d) list is lists)

    pub cleared_in_hand : AreInHand (without (has_addresses tree) ino) mid list chain
    cleared_in_hand = after_rewriting image tree chain stored ino node file.has list lets mid rewritten

    values : HasValues (emptied_inode d moment) (blanked moment node)
    values =
        let was = values_read image.at ino node d reads (its_inode image tree chain stored ino node file.has) in
        record { used = was.used; mode = was.mode; nlink = was.nlink; uid = was.uid; gid = was.gid; atime = was.atime; mtime = refl; ctime = refl }

    pub cleared_whole : (new : ℕ → List ℕ) → AreFreed mid new list → Advances image tree looks new (with_node tree ino (blanked moment node)) (onto list chain)
    cleared_whole new freed =
        cleared_advances image tree chain looks stored ino node file.looked file.has mid new list lets rewritten freed (blanked moment node) 0 (ap cleared file.body)
        (fields_now image.at mid ino (emptied_inode d moment) some (stored.bytes (inode_block ino)) written (blanked moment node) values)
        (ap (λ (x : Dinode). x.size) (value_now image.at mid ino (emptied_inode d moment) some (stored.bytes (inode_block ino)) written))
        (λ p low. addresses_now image.at mid ino (emptied_inode d moment) some (stored.bytes (inode_block ino)) written p low ∙ hole_address d moment p low)

-- ---- what the answers say

module _ (shown : ℕ → Option (List ℕ)) (old new : ChangeList) (ino moment : ℕ) where
  pub asked_own : (need : Need) → IsNeed shown need → need.first ≡ inode_block ino → Clears shown old new ino moment (hung.Need need)
  asked_own need is own = (
    is,
    λ image tree chain part stored looks node file.
        (let n = its_number (with_changes image old) tree chain stored ino node file.has in
        subst (IsNearTo (with_changes image old) tree looks) (sym own) (inode_near (with_changes image old) tree chain stored looks ino n.0 n.1)),
  )

  module _ (d : Dinode) (reads : (blocks : ℕ → List ℕ) → IsPart shown blocks → d ≡ dinode_at (over blocks (changed old) (inode_block ino)) (inode_place ino)) where
    pub asked_listing : (need : Need) → IsNeed shown need
        → ((blocks : ℕ → List ℕ) → IsPart shown blocks → IsListable [] (under_dinode (pointers (over blocks (changed old))) d) → (need.first ≡ 1) ⊎ Contains (under_dinode (pointers (over blocks (changed old))) d) need.first)
        → Clears shown old new ino moment (hung.Need need)
    asked_listing need is among = (
      is,
      λ image tree chain part stored looks node file.
          (let base = with_changes image old in
          let read = reads image.at part in
          elim (among image.at part (file_listable base tree chain stored looks ino node file d read)) [
            | inl first ↦ super_block first
            | inr its ↦ file_near base tree chain stored looks ino node file d read need.first its
          ]),
    )

    module _ (mid : ChangeList) (list : List ℕ) (within : IsWithinView shown old → IsWithinView shown mid)
        (written : (blocks : ℕ → List ℕ) → IsPart shown blocks → IsDinodeWritten (over blocks (changed old)) (over blocks (changed mid)) ino (emptied_inode d moment))
        (lists : (blocks : ℕ → List ℕ) → IsPart shown blocks → IsListable [] (under_dinode (pointers (over blocks (changed old))) d) → IsPermutation (under_dinode (pointers (over blocks (changed old))) d) list) where
      pub clears_by : (result : Hung) → PutsAllBack shown mid new list result → Clears shown old new ino moment result
      clears_by hung.Done puts = (
        λ w. puts.0 (within w),
        λ image tree chain part stored looks node file.
            (let base = with_changes image old in
            let read = reads image.at part in
            let is : IsPermutation (under_dinode (pointers base.at) d) list = lists image.at part (file_listable base tree chain stored looks ino node file d read) in
            let hand = cleared_in_hand base tree chain stored looks ino node file d read moment list is (over image.at (changed mid)) (written image.at part) in
            let put = puts.1 image.at (without (has_addresses tree) ino) chain part hand in
            (_, cleared_whole base tree chain stored looks ino node file d read moment list is (over image.at (changed mid)) (written image.at part) (over image.at (changed new)) put)),
      )
      clears_by (hung.Need need) puts = (
        puts.0,
        λ image tree chain part stored looks node file.
            (let base = with_changes image old in
            let read = reads image.at part in
            let is : IsPermutation (under_dinode (pointers base.at) d) list = lists image.at part (file_listable base tree chain stored looks ino node file d read) in
            elim puts.1 [
              | inl first ↦ super_block first
              | inr among ↦ file_near base tree chain stored looks ino node file d read need.first (Contains-permutation list (under_dinode (pointers base.at) d) need.first (IsPermutation-sym (under_dinode (pointers base.at) d) list is) among)
            ]),
      )
      clears_by hung.NoMemory puts = tt
