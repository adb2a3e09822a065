-- An inode's 64 bytes written.
use Rattle.std.proofs.Common.{ℕ, ◌≡◌, ◌≢◌, inl, inr, ◌+◌, ◌*◌, ◌<◌, ◌≤◌, List, length, slice_index, sym, ap, subst, ◌∙◌, arith}
use Rattle.std.proofs.lemmas.Bool.{cases_eq, cases_lt}
use Rattle.mb_word.specs.Fields.{inode_block, inode_place}
use Rattle.mb_word.specs.Numbers.{SameFrom}
use Rattle.mb_word.proofs.Parts.{get_or-part}
use Rattle.mb_word.proofs.Writes.{length-put_at, put_at_same}
use Rattle.mb_layout.specs.Inode.{dinode_at, dinode_bytes, address_in}
use Rattle.mb_layout.specs.declared.dinodes.Dinode.{Dinode}
use Rattle.mb_layout.proofs.InodeBytes.{length-dinode_bytes, dinode_back, address_in_area}
use Rattle.mb_layout.proofs.InodeOrder.{inodes_apart, place_below}
use Rattle.mb_tree.specs.Blocks.{pointers}
use Rattle.mb_tree.specs.declared.nodes.Node.{Node}
use Rattle.mb_blocks.specs.Inodes.{HasFields, HasValues, IsDinodeWritten, IsRewritten, KeepsInodeBytes}

module _ (old new : ℕ → List ℕ) (ino : ℕ) (d : Dinode) (some : 0 < ino) (long : length (old (inode_block ino)) ≡ 512) (written : IsDinodeWritten old new ino d) where
  room : 64 * inode_place ino + length (dinode_bytes d) ≤ length (old (inode_block ino))
  room = (let many = length-dinode_bytes d written.fits.area in let low = place_below ino in omega (arith, many, long, low))

  within : 64 * inode_place ino + 64 ≤ length (old (inode_block ino))
  within = (let low = place_below ino in omega (arith, long, low))

  pub value_now : dinode_at (new (inode_block ino)) (inode_place ino) ≡ d
  value_now = ap (λ (x : List ℕ). dinode_at x (inode_place ino)) written.block ∙ dinode_back (old (inode_block ino)) (inode_place ino) d within written.fits

  long_now : length (new (inode_block ino)) ≡ 512
  long_now = ap length written.block ∙ length-put_at (old (inode_block ino)) (64 * inode_place ino) (dinode_bytes d) room ∙ long

  beside : (other : ℕ) → 0 < other → other ≢ ino → KeepsInodeBytes old new other
  beside other real apart = elim (cases_eq (inode_block other) (inode_block ino)) [
    | inr away ↦ (λ k from to. ap (λ (x : List ℕ). slice_index x k) (written.others (inode_block other) away))
    | inl same ↦
        (let places : inode_place other ≢ inode_place ino = elim (inodes_apart other ino real some apart) [ inl a ↦ absurd (a same) | inr b ↦ b ] in
        let many = length-dinode_bytes d written.fits.area in
        subst (λ b. SameFrom (new b) (old b) (64 * inode_place other) 64) (sym same)
        (subst (λ (x : List ℕ). SameFrom x (old (inode_block ino)) (64 * inode_place other) 64) (sym written.block)
        (put_at_same (old (inode_block ino)) (64 * inode_place ino) (dinode_bytes d) (64 * inode_place other) 64 room
        (elim (cases_lt (inode_place other) (inode_place ino)) [
          | inl less ↦ inl (let l : inode_place other < inode_place ino = less in omega (arith, l))
          | inr more ↦ inr (let l : inode_place ino ≤ inode_place other = more in omega (arith, l, places, many))
        ]))))
  ]

  last_byte : slice_index (new (inode_block ino)) (64 * inode_place ino + 51) ≡ slice_index d.area 39
  last_byte =
      ap (slice_index (new (inode_block ino))) (let e : 64 * inode_place ino + 51 ≡ 64 * inode_place ino + 12 + 39 = omega arith in e)
      ∙ sym (get_or-part (new (inode_block ino)) (64 * inode_place ino + 12) 40 39 (omega arith))
      ∙ ap (λ (x : Dinode). slice_index x.area 39) value_now

  pub dinode_written : slice_index d.area 39 ≡ slice_index (old (inode_block ino)) (64 * inode_place ino + 51) → IsRewritten old new ino
  dinode_written same = record { sized = long_now; others = written.others; byte = last_byte ∙ same; beside = beside }

  pub addresses_now : (p : ℕ) → p < 13 → (pointers new).top ino p ≡ address_in d p
  addresses_now p low =
      address_in_area (new (inode_block ino)) (inode_place ino) p (let e = long_now in let l = place_below ino in omega (arith, e, l)) low
      ∙ ap (λ (x : Dinode). address_in x p) value_now

  -- the fields of the node that the inode's value says
  pub fields_now : (node : Node) → HasValues d node → HasFields new ino node
  fields_now node has = record {
    used = λ e. has.used (sym (ap (λ (x : Dinode). x.mode) value_now) ∙ e);
    mode = ap (λ (x : Dinode). x.mode) value_now ∙ has.mode;
    nlink = ap (λ (x : Dinode). x.nlink) value_now ∙ has.nlink;
    uid = ap (λ (x : Dinode). x.uid) value_now ∙ has.uid;
    gid = ap (λ (x : Dinode). x.gid) value_now ∙ has.gid;
    atime = ap (λ (x : Dinode). x.atime) value_now ∙ has.atime;
    mtime = ap (λ (x : Dinode). x.mtime) value_now ∙ has.mtime;
    ctime = ap (λ (x : Dinode). x.ctime) value_now ∙ has.ctime;
  }
