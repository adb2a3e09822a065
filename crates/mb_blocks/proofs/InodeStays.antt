-- An inode stays where its 64 bytes stay, and its parts where it has any.
use Rattle.std.proofs.Common.{ℕ, ◌≡◌, ◌↔◌, ◌+◌, ◌*◌, ◌/◌, ◌%◌, ◌<◌, true, List, length, map, Option, Some, None, IsSome, unwrap_or, refl, sym, ap, subst, ◌∙◌, arith}
use Rattle.std.specs.List.{range_with_len}
use Rattle.std.proofs.Math.Path.{fun_ext}
use Rattle.mb_kinds.specs.Image.{zeros}
use Rattle.mb_word.specs.Fields.{inode_block, inode_place, mode_of, size_of, area_of}
use Rattle.mb_word.proofs.Parts.{part_same}
use Rattle.mb_word.proofs.Values.{word_at-same, long_at-same, addr_at-same}
use Rattle.mb_tree.specs.Blocks.{pointers, part_in, slot_of, slot_in}
use Rattle.mb_tree.specs.Volume.{HasBody, HasInode, body_has_addresses, node_has_addresses}
use Rattle.mb_tree.specs.declared.nodes.Body.{Body}
use Rattle.mb_tree.specs.declared.nodes.Body.TheVariants.{Regular, Directory, Special}
use Rattle.mb_tree.specs.declared.nodes.Node.{Node}
use Rattle.mb_blocks.specs.Inodes.{KeepsInodeBytes}

module _ (old new : ℕ → List ℕ) (ino : ℕ) (long : length (new (inode_block ino)) ≡ 512) (was : length (old (inode_block ino)) ≡ 512) (same : KeepsInodeBytes old new ino) where
  pub top_stays : (p : ℕ) → p < 13 → (pointers new).top ino p ≡ (pointers old).top ino p
  top_stays p low = addr_at-same (new (inode_block ino)) (old (inode_block ino)) (64 * inode_place ino + 12 + 3 * p) (λ k from below. same k (omega arith) (omega arith))

  size_stays : size_of (new (inode_block ino)) (inode_place ino) ≡ size_of (old (inode_block ino)) (inode_place ino)
  size_stays = long_at-same (new (inode_block ino)) (old (inode_block ino)) (64 * inode_place ino + 8) (λ k from below. same k (omega arith) (omega arith))

  area_stays : area_of (new (inode_block ino)) (inode_place ino) ≡ area_of (old (inode_block ino)) (inode_place ino)
  area_stays = part_same (new (inode_block ino)) (old (inode_block ino)) (64 * inode_place ino + 12) 40 (omega arith) (omega arith) (λ k from below. same k (omega arith) (omega arith))

  pub body_stays : (body : Body) → (body_has_addresses body ≡ true → (part : ℕ) → part_in new ino part ≡ part_in old ino part) → HasBody old ino body → HasBody new ino body
  body_stays (Regular size parts) parts_same has = record {
    sized = size_stays ∙ has.sized;
    each = λ part. has.each part ∙ sym (parts_same refl part);
  }
  body_stays (Directory slots) parts_same has =
      let slot : slot_in new ino ≡ slot_in old ino = fun_ext (λ k. ap (λ o. slot_of (unwrap_or o zeros) (k % 32)) (parts_same refl (k / 32))) in
      record {
        sized = size_stays ∙ has.sized;
        each = has.each ∙ ap (λ f. map f (range_with_len 0 (length slots))) (sym slot);
        parts = λ p low. subst (λ (found : Option (List ℕ)). IsSome found ↔ (512 * p < 16 * length slots)) (sym (parts_same refl p)) (has.parts p low);
      }
  body_stays (Special size area) parts_same has = record { sized = size_stays ∙ has.sized; kept = area_stays ∙ has.kept }

  mode_stays : mode_of (new (inode_block ino)) (inode_place ino) ≡ mode_of (old (inode_block ino)) (inode_place ino)
  mode_stays = word_at-same (new (inode_block ino)) (old (inode_block ino)) (64 * inode_place ino) (λ k from below. same k (omega arith) (omega arith))

  pub inode_stays : (found : Option Node) → (node_has_addresses found ≡ true → (part : ℕ) → part_in new ino part ≡ part_in old ino part) → HasInode old ino found → HasInode new ino found
  inode_stays None parts_same has = mode_stays ∙ has
  inode_stays (Some node) parts_same has = record {
    used = λ e. has.used (sym mode_stays ∙ e);
    mode = mode_stays ∙ has.mode;
    nlink = word_at-same (new (inode_block ino)) (old (inode_block ino)) (64 * inode_place ino + 2) (λ k from below. same k (omega arith) (omega arith)) ∙ has.nlink;
    uid = word_at-same (new (inode_block ino)) (old (inode_block ino)) (64 * inode_place ino + 4) (λ k from below. same k (omega arith) (omega arith)) ∙ has.uid;
    gid = word_at-same (new (inode_block ino)) (old (inode_block ino)) (64 * inode_place ino + 6) (λ k from below. same k (omega arith) (omega arith)) ∙ has.gid;
    atime = long_at-same (new (inode_block ino)) (old (inode_block ino)) (64 * inode_place ino + 52) (λ k from below. same k (omega arith) (omega arith)) ∙ has.atime;
    mtime = long_at-same (new (inode_block ino)) (old (inode_block ino)) (64 * inode_place ino + 56) (λ k from below. same k (omega arith) (omega arith)) ∙ has.mtime;
    ctime = long_at-same (new (inode_block ino)) (old (inode_block ino)) (64 * inode_place ino + 60) (λ k from below. same k (omega arith) (omega arith)) ∙ has.ctime;
    body = body_stays node.body parts_same has.body;
  }
