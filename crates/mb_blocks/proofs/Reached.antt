-- What an inode and the others have once the way to a part was made.
use Rattle.std.proofs.Common.{ℕ, ◌≡◌, ◌≢◌, inl, inr, ◌+◌, ◌*◌, ◌<◌, ◌≤◌, Bool, true, List, [], Some, refl, sym, ap, subst, ◌∙◌, arith}
use Rattle.std.proofs.lemmas.Bool.{cases_eq, cases_lt}
use Rattle.mb_kinds.specs.Image.{zeros}
use Rattle.mb_word.specs.Fields.{inode_block, inode_place, mode_of, size_of}
use Rattle.mb_word.proofs.Values.{word_at-same, long_at-same}
use Rattle.mb_tree.specs.Blocks.{part_address, part_in}
use Rattle.mb_tree.specs.Cost.{most_parts}
use Rattle.mb_tree.specs.Places.{Place, level, IsPlace, place_of}
use Rattle.mb_tree.specs.Places.Place.{Top, Under}
use Rattle.mb_tree.specs.declared.nodes.Node.{Node}
use Rattle.mb_blocks.specs.Growing.{Reaches}
use Rattle.mb_blocks.specs.Laid.{IsLaid}
use Rattle.mb_blocks.specs.Owners.{ino_of, without}
use Rattle.mb_blocks.specs.Pointing.{KeepsHeld}
use Rattle.mb_blocks.specs.Reached.{HasReached, IsAbove, IsOnWay}
use Rattle.mb_blocks.proofs.Owning.{place_apart, place_was, without_apart, without_has}
use Rattle.mb_blocks.proofs.PartBytes.{part_found, part_missing}
use Rattle.mb_blocks.proofs.PartPlaces.{part_place, place_is, place_once}
use Rattle.mb_blocks.proofs.Reaching.{reached}
use Rattle.mb_blocks.specs.Inodes.{HasFields, KeepsFields}

on_owner : (r q : Place) → IsOnWay r q → ino_of r ≡ ino_of q
on_owner r (Top i p) e = ap ino_of (sym e)
on_owner r (Under w k) (inl e) = ap ino_of (sym e)
on_owner r (Under w k) (inr on) = on_owner r w on

above_owner : (r q : Place) → IsAbove r q → ino_of r ≡ ino_of q
above_owner r (Top i p) h = absurd h
above_owner r (Under w k) h = on_owner r w h

on_level : (r q : Place) → IsOnWay r q → level q ≤ level r
on_level r (Top i p) e = (let l : level (Top i p) ≡ level r = ap level e in omega (arith, l))
on_level r (Under w k) (inl e) = (let l : level (Under w k) ≡ level r = ap level e in omega (arith, l))
on_level r (Under w k) (inr on) = (let l = on_level r w on in omega (arith, l))

above_level : (has : ℕ → Bool) (r q : Place) → IsPlace has q → IsAbove r q → 0 < level r
above_level has r (Top i p) is h = absurd h
above_level has r (Under w k) is h = (let l = on_level r w h in let up = is.1 in omega (arith, l, up))

pub on_level_zero : (has : ℕ → Bool) (r q : Place) → IsPlace has q → level r ≡ 0 → IsOnWay r q → q ≡ r
on_level_zero has r (Top i p) is none e = e
on_level_zero has r (Under w k) is none (inl e) = e
on_level_zero has r (Under w k) is none (inr on) = absurd (let l = on_level r w on in let up = is.1 in omega (arith, l, up, none))

pub part_by : (old new : ℕ → List ℕ) (ino part : ℕ) → (part < most_parts → part_address new ino part ≡ part_address old ino part) → (part < most_parts → 0 < part_address old ino part → new (part_address old ino part) ≡ old (part_address old ino part))
    → part_in new ino part ≡ part_in old ino part
part_by old new ino part same bytes = elim (cases_eq (part_address old ino part) 0) [
  | inl none ↦ part_missing new ino part (λ below. same below ∙ none) ∙ sym (part_missing old ino part (λ below. none))
  | inr some ↦ elim (cases_lt part most_parts) [
    | inl below ↦
        (let real : 0 < part_address old ino part = omega (arith, some) in
        part_found new ino part (part_address old ino part) below (same below) real ∙ ap (λ b. Some b) (bytes below real) ∙ sym (part_found old ino part (part_address old ino part) below refl real))
    | inr past ↦ part_missing new ino part (λ below. absurd (omega (arith, past, below))) ∙ sym (part_missing old ino part (λ below. absurd (omega (arith, past, below))))
  ]
]

module _ (has : ℕ → Bool) (old : ℕ → List ℕ) (chain : List ℕ) (laid : IsLaid has old [] chain) (ino part : ℕ) (is : has ino ≡ true)
    (below : part < most_parts) (new : ℕ → List ℕ) (reaches : Reaches old new (place_of ino part)) where
  pub way_place : IsPlace has (place_of ino part)
  way_place = place_is has ino part is below

  pub got : HasReached has old new [] chain (place_of ino part)
  got = reached has [] old new chain (place_of ino part) laid way_place reaches

  owner : ino_of (place_of ino part) ≡ ino
  owner = (part_place ino part below).owner

  pub fields : KeepsFields old new ino
  fields = subst (KeepsFields old new) owner got.keeps

  pub others_held : KeepsHeld (without has ino) old new
  others_held = record {
    tops = λ j p h low. got.off (Top j p) (without_has has ino j h, low) (λ on. without_apart has ino j h (on_owner (Top j p) (place_of ino part) on ∙ owner));
    blocks = λ q h some. got.bytes q (place_was has ino q h) some (λ above. place_apart has ino q h (above_owner q (place_of ino part) above ∙ owner));
  }

  -- every other part stays, and the part that was missing is there and has zeros
  pub other_part : (p : ℕ) → p ≢ part → part_in new ino p ≡ part_in old ino p
  other_part p apart =
      part_by old new ino p
      (λ low. got.off (place_of ino p) (place_is has ino p is low)
      (λ on. apart (sym (place_once ino part ino p below low (on_level_zero has (place_of ino p) (place_of ino part) way_place (part_place ino p low).bottom on)).1)))
      (λ low some. got.bytes (place_of ino p) (place_is has ino p is low) some
      (λ above. (let up = above_level has (place_of ino p) (place_of ino part) way_place above in let bottom = (part_place ino p low).bottom in omega (arith, up, bottom))))

  pub new_part : part_address old ino part ≡ 0 → part_in new ino part ≡ Some zeros
  new_part none = part_found new ino part (part_address new ino part) below refl got.here ∙ ap (λ b. Some b) (got.fresh none)

  -- a part that was there stays too
  pub same_part : 0 < part_address old ino part → part_in new ino part ≡ part_in old ino part
  same_part some =
      part_by old new ino part (λ low. got.same (place_of ino part) way_place some)
      (λ low there. got.bytes (place_of ino part) way_place some
      (λ above. (let up = above_level has (place_of ino part) (place_of ino part) way_place above in let bottom = (part_place ino part below).bottom in omega (arith, up, bottom))))

  pub size_kept : size_of (new (inode_block ino)) (inode_place ino) ≡ size_of (old (inode_block ino)) (inode_place ino)
  size_kept = long_at-same (new (inode_block ino)) (old (inode_block ino)) (64 * inode_place ino + 8) (λ k from to. fields.head k (omega arith) (omega arith))

  pub fields_kept : (node : Node) → HasFields old ino node → HasFields new ino node
  fields_kept node was =
      let mode : mode_of (new (inode_block ino)) (inode_place ino) ≡ mode_of (old (inode_block ino)) (inode_place ino) =
      word_at-same (new (inode_block ino)) (old (inode_block ino)) (64 * inode_place ino) (λ k from to. fields.head k (omega arith) (omega arith)) in
      record {
        used = λ e. was.used (sym mode ∙ e);
        mode = mode ∙ was.mode;
        nlink = word_at-same (new (inode_block ino)) (old (inode_block ino)) (64 * inode_place ino + 2) (λ k from to. fields.head k (omega arith) (omega arith)) ∙ was.nlink;
        uid = word_at-same (new (inode_block ino)) (old (inode_block ino)) (64 * inode_place ino + 4) (λ k from to. fields.head k (omega arith) (omega arith)) ∙ was.uid;
        gid = word_at-same (new (inode_block ino)) (old (inode_block ino)) (64 * inode_place ino + 6) (λ k from to. fields.head k (omega arith) (omega arith)) ∙ was.gid;
        atime = long_at-same (new (inode_block ino)) (old (inode_block ino)) (64 * inode_place ino + 52) (λ k from to. fields.tail k (omega arith) (omega arith)) ∙ was.atime;
        mtime = long_at-same (new (inode_block ino)) (old (inode_block ino)) (64 * inode_place ino + 56) (λ k from to. fields.tail k (omega arith) (omega arith)) ∙ was.mtime;
        ctime = long_at-same (new (inode_block ino)) (old (inode_block ino)) (64 * inode_place ino + 60) (λ k from to. fields.tail k (omega arith) (omega arith)) ∙ was.ctime;
      }
