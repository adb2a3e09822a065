-- An inode made: its 64 bytes written without an address.
use Rattle.std.proofs.Common.{ℕ, zero, suc, ◌≡◌, ◌≢◌, ◌+◌, ◌*◌, ◌<◌, ◌≤◌, Bool, List, [], ◌∷◌, length, replicate, get_or, get_or-set_other, get_or-set_same, slice_index, Err, refl, sym, ap, subst, ◌∙◌, arith}
use Rattle.std.specs.Prelude.{bit_or}
use Rattle.std.specs.FinMap as fin
use Rattle.std.proofs.lemmas.List.{length-replicate}
use Rattle.std.proofs.lemmas.Nat.{le_or_l}
use Rattle.mb_kinds.specs.Image.{Image}
use Rattle.mb_kinds.specs.declared.errors.Errno.TheVariants.{ENOSPC}
use Rattle.mb_word.specs.Fields.{inode_block, inode_place, size_of}
use Rattle.mb_word.specs.Numbers.{addr_at, word_at}
use Rattle.mb_layout.specs.declared.dinodes.Dinode.{Dinode}
use Rattle.mb_tree.specs.Blocks.{part_address, pointers}
use Rattle.mb_tree.specs.Effect.{dot, dot_dot, first_slots, fitting}
use Rattle.mb_tree.specs.Places.{place_of}
use Rattle.mb_tree.specs.declared.nodes.Body.TheVariants.{Regular, Directory}
use Rattle.mb_tree.specs.declared.nodes.Node.{Node}
use Rattle.mb_tree.specs.declared.nodes.PlainSlot.{PlainSlot}
use Rattle.mb_tree.specs.declared.trees.Tree.{Tree}
use Rattle.mb_blocks.specs.Growing.{Reaches, missing}
use Rattle.mb_blocks.specs.Inodes.{HasFields, IsDinodeWritten, IsRewritten}
use Rattle.mb_blocks.proofs.InodeWrites.{addresses_now, dinode_written, fields_now, value_now}
use Rattle.mb_bmap.specs.Reaching.{IsReady}
use Rattle.mb_nodes.specs.Bodies.{HasWritten, IsSlotSet}
use Rattle.mb_nodes.specs.Stored.{IsStored, with_node}
use Rattle.mb_nodes.proofs.SlotWrites.{one_written, written_then}
use Rattle.mb_moves.specs.Advancing.{Advances}
use Rattle.mb_moves.specs.Looking.{and_one, looked_at}
use Rattle.mb_moves.specs.Midway.{IsMidway}
use Rattle.mb_moves.proofs.Making.{directory_advances, file_advances}
use Rattle.mb_moves.proofs.Within.{at_birth, making_refused}
use Rattle.mb_dirs.specs.Making.{new_inode}
use Rattle.mb_dirs.specs.Rewriting.{area_in, blank_area}
use Rattle.mb_dirs.specs.Steps.{IsUnusedIn}
use Rattle.mb_dirs.specs.declared.makes.NewInode.{NewInode}
use Rattle.mb_dirs.proofs.FieldSetting.{last_byte, says_values}

none_in : (n k : ℕ) → get_or (replicate {A = ℕ} n 0) k 0 ≡ 0
none_in zero k = refl
none_in (suc n) zero = refl
none_in (suc n) (suc k) = none_in n k

blank_byte : (was : List ℕ) (k : ℕ) → k < 39 → slice_index (blank_area was) k ≡ 0
blank_byte was k low = get_or-set_other (replicate {A = ℕ} 40 0) 39 k (slice_index was 39) 0 (omega (arith, low)) ∙ none_in 40 k

blank_last : (was : List ℕ) → slice_index (blank_area was) 39 ≡ slice_index was 39
blank_last was = get_or-set_same (replicate {A = ℕ} 40 0) 39 (slice_index was 39) 0 (let l = length-replicate {A = ℕ} 40 0 in omega (arith, l))

blank_address : (was : List ℕ) (p : ℕ) → p < 13 → addr_at (blank_area was) (3 * p) ≡ 0
unfolding addr_at word_at
blank_address was p low =
    let one = blank_byte was (3 * p) (omega (arith, low)) in
    let two = blank_byte was (3 * p + 1) (omega (arith, low)) in
    let three = blank_byte was (3 * p + 1 + 1) (omega (arith, low)) in
    omega (arith, one, two, three)

pub mode_used : (kind mode : ℕ) → 0 < kind → bit_or kind mode ≢ 0
mode_used kind mode some none = (let le = le_or_l kind mode in omega (arith, le, none, some))

-- a new inode's value with a blank area
abbrev pub blank_inode : NewInode → ℕ → ℕ → ℕ → List ℕ → Dinode
blank_inode new mode nlink size was = record (new_inode new mode nlink size) { area = blank_area was }

module _ (image : Image) (tree : Tree) (chain : List ℕ) (looks : ℕ → Bool) (stored : IsStored image tree chain) (ino : ℕ) (free : IsUnusedIn tree ino)
    (new : NewInode) (mode nlink size : ℕ) (used : mode ≢ 0) (mid : ℕ → List ℕ) (written : IsDinodeWritten image.at mid ino (blank_inode new mode nlink size (area_in image.at ino))) where
  abbrev d : Dinode
  d = blank_inode new mode nlink size (area_in image.at ino)

  long : length (image.at (inode_block ino)) ≡ 512
  long = stored.bytes (inode_block ino)

  pub numbered : (1 ≤ ino) × (ino ≤ tree.last)
  numbered = (free.some, free.within)

  pub rewritten : IsRewritten image.at mid ino
  rewritten = dinode_written image.at mid ino d free.some long written (blank_last (area_in image.at ino) ∙ last_byte (image.at (inode_block ino)) (inode_place ino))

  pub holes : (p : ℕ) → p < 13 → (pointers mid).top ino p ≡ 0
  holes p low = addresses_now image.at mid ino d free.some long written p low ∙ blank_address (area_in image.at ino) p low

  pub says : (node : Node) → node.mode ≡ mode → node.nlink ≡ nlink → node.uid ≡ new.uid → node.gid ≡ new.gid → node.atime ≡ new.moment → node.mtime ≡ new.moment → node.ctime ≡ new.moment → HasFields mid ino node
  says node e1 e2 e3 e4 e5 e6 e7 =
      fields_now image.at mid ino d free.some long written node
      (says_values d node (record { mode = sym e1; nlink = sym e2; uid = sym e3; gid = sym e4; atime = sym e5; mtime = sym e6; ctime = sym e7 }) (λ z. used (sym e1 ∙ z)))

  pub size_now : size_of (mid (inode_block ino)) (inode_place ino) ≡ size
  size_now = ap (λ (x : Dinode). x.size) (value_now image.at mid ino d free.some long written)

  pub birth : IsMidway image tree looks (and_one (looked_at tree looks) ino) mid ino
  birth = at_birth image tree chain looks stored ino numbered free.unused mid rewritten holes

  pub refused : ((has : ℕ → Bool) (left : List ℕ) → IsReady has mid left ino → length left < missing (pointers mid) (place_of ino 0))
      → (wanted : Node) (slots : List PlainSlot) → wanted.body ≡ Directory slots → 0 < length slots → fitting tree (fin.insert tree.nodes ino wanted) ≡ Err ENOSPC
  refused short wanted slots is some = making_refused image tree chain stored ino numbered free.unused mid rewritten holes short wanted slots is some

  pub file : (node : Node) → node.body ≡ Regular size fin.empty → HasFields mid ino node → Advances image tree looks mid (with_node tree ino node) chain
  file node empty fields = file_advances image tree chain looks stored ino numbered free.unused mid rewritten holes node size empty fields size_now

  module _ (one two last : ℕ → List ℕ) (block parent : ℕ) (sized : length (two block) ≡ 512) (reaches : Reaches mid one (place_of ino 0)) (here : part_address one ino 0 ≡ block)
      (first : IsSlotSet one two block 0 (record { ino = ino; name = dot })) (second : IsSlotSet two last block 1 (record { ino = parent; name = dot_dot })) where
    writes : HasWritten one last (part_address one ino 0) 0 (first_slots ino parent)
    writes =
        subst (λ b. HasWritten one last b 0 (first_slots ino parent)) (sym here)
        (written_then one two last block 0 ((record { ino = ino; name = dot }) ∷ []) ((record { ino = parent; name = dot_dot }) ∷ [])
        (one_written one two block 0 (record { ino = ino; name = dot }) (omega arith) first) (one_written two last block 1 (record { ino = parent; name = dot_dot }) (omega arith) second))

    pub directory : (node : Node) → node.body ≡ Directory (first_slots ino parent) → HasFields mid ino node → size ≡ 32 → (left : List ℕ) × Advances image tree looks last (with_node tree ino node) left
    directory node full fields is =
        (let step =
        directory_advances image tree chain looks stored ino numbered free.unused mid rewritten holes node (first_slots ino parent) full fields (size_now ∙ is) (omega arith) (omega arith) one last reaches writes in
        (step.0, step.1))
