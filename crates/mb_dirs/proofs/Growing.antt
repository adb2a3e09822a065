-- A slot added behind those of a directory.
use Rattle.std.proofs.Common.{ℕ, ◌≡◌, ◌≢◌, ◌+◌, ◌*◌, ◌/◌, ◌%◌, ◌<◌, ◌≤◌, Bool, List, [], ◌∷◌, ◌++◌, length, Err, unwrap_or, option_map, slice_set, refl, sym, ap, subst, ◌∙◌, arith}
use Rattle.std.specs.FinMap as fin
use Rattle.std.proofs.lemmas.List.{length-append}
use Rattle.mb_kinds.specs.Image.{Image}
use Rattle.mb_kinds.specs.declared.errors.Errno.TheVariants.{ENOSPC}
use Rattle.mb_word.specs.Fields.{inode_block, inode_place, size_of}
use Rattle.mb_layout.specs.Inode.{dinode_at}
use Rattle.mb_layout.specs.declared.dinodes.Dinode.{Dinode}
use Rattle.mb_layout.proofs.InodeBytes.{address_in_area}
use Rattle.mb_layout.proofs.InodeOrder.{place_below}
use Rattle.mb_tree.specs.Blocks.{part_address, pointers}
use Rattle.mb_tree.specs.Cost.{most_parts}
use Rattle.mb_tree.specs.Effect.{entered, fitting, on_slots}
use Rattle.mb_tree.specs.Places.{place_of}
use Rattle.mb_tree.specs.declared.nodes.Body.TheVariants.{Directory}
use Rattle.mb_tree.specs.declared.nodes.Node.{Node}
use Rattle.mb_tree.specs.declared.nodes.PlainSlot.{PlainSlot}
use Rattle.mb_tree.specs.declared.trees.Tree.{Tree}
use Rattle.mb_blocks.specs.Growing.{Reaches, missing}
use Rattle.mb_blocks.specs.Inodes.{IsDinodeWritten, IsRewritten}
use Rattle.mb_blocks.proofs.InodeWrites.{addresses_now, dinode_written, fields_now, value_now}
use Rattle.mb_nodes.specs.Bodies.{IsSlotSet}
use Rattle.mb_nodes.specs.Stored.{IsStored, with_node}
use Rattle.mb_nodes.proofs.GrowRefused.{grow_refused}
use Rattle.mb_nodes.proofs.NodeParts.{node_stored}
use Rattle.mb_nodes.proofs.SlotWrites.{one_written}
use Rattle.mb_moves.specs.Advancing.{Advances}
use Rattle.mb_moves.specs.Looking.{looked_at}
use Rattle.mb_moves.specs.Midway.{IsMidway}
use Rattle.mb_moves.proofs.Growing.{growth_advances}
use Rattle.mb_moves.proofs.Within.{at_node, midway_reached, midway_written}
use Rattle.mb_dirs.specs.Entering.{IsGap, named_node}
use Rattle.mb_dirs.specs.Growth.{longer_inode}
use Rattle.mb_dirs.specs.Rewriting.{area_in}
use Rattle.mb_dirs.specs.Steps.{IsLookedThrough}
use Rattle.mb_dirs.specs.declared.enters.Gap.TheVariants as gap
use Rattle.mb_dirs.proofs.FieldSetting.{SaysFields, last_byte, says_values, stored_says}
use Rattle.mb_dirs.proofs.LookedThrough.{few, holds, on, within}
use Rattle.mb_dirs.proofs.PartReached.{some}

module _ (image : Image) (tree : Tree) (chain : List ℕ) (looks : ℕ → Bool) (stored : IsStored image tree chain) (dir : ℕ) (node : Node) (slots : List PlainSlot) (look : IsLookedThrough tree looks dir node slots)
    (none : IsGap slots gap.End) (d : Dinode) (is : d ≡ dinode_at (image.at (inode_block dir)) (inode_place dir)) (links moment : ℕ) (name : List ℕ) (ino : ℕ) where
  abbrev slot : PlainSlot
  slot = record { ino = ino; name = name }

  abbrev wanted : Node
  wanted = named_node links moment name ino node

  pub full : d.size ≡ 16 * length slots
  full = ap (λ (x : Dinode). x.size) is ∙ (holds image tree chain looks stored dir node slots look).sized

  pub many : d.size < 1082201088
  many = (let f = few image tree chain looks stored dir node slots look in let s = full in omega (arith, f, s))

  pub next_part : d.size / 16 / 32 ≡ length slots / 32
  next_part = (let s = full in omega (arith, s))

  pub next_place : d.size / 16 % 32 ≡ length slots % 32
  next_place = (let s = full in omega (arith, s))

  below : length slots / 32 < most_parts
  below = (let f = few image tree chain looks stored dir node slots look in omega (arith, f))

  pub part_below : d.size / 16 / 32 < most_parts
  part_below = (let e = next_part in let b = below in omega (arith, e, b))

  body : wanted.body ≡ Directory (slots ++ slot ∷ [])
  body = ap (on_slots (entered name ino)) look.body ∙ ap (λ o. Directory (unwrap_or (option_map (λ found. slice_set slots found slot) o) (slots ++ slot ∷ []))) none

  room : length slots % 32 + 1 ≤ 32
  room = omega arith

  pub growth_refused : length chain < missing (pointers image.at) (place_of dir (d.size / 16 / 32)) → fitting tree (fin.insert tree.nodes dir wanted) ≡ Err ENOSPC
  growth_refused short =
      grow_refused image tree chain stored dir node look.has slots (slot ∷ []) look.body (omega arith) room
      (subst (λ part. length chain < missing (pointers image.at) (place_of dir part)) next_part short) wanted body

  pub midway : IsMidway image tree looks (looked_at tree looks) image.at dir
  midway = at_node image tree chain looks stored dir node look.has (on image tree chain looks stored dir node slots look) look.looked_at

  module _ (one two new : ℕ → List ℕ) (block : ℕ) (reaches : Reaches image.at one (place_of dir (length slots / 32))) (here : part_address one dir (length slots / 32) ≡ block)
      (sets : IsSlotSet one two block (length slots % 32) slot) (written : IsDinodeWritten two new dir (record (longer_inode d links moment) { area = area_in two dir })) where
    abbrev longer : Dinode
    longer = record (longer_inode d links moment) { area = area_in two dir }

    abbrev p : ℕ
    p = length slots / 32

    real : 0 < dir
    real = (within image tree chain looks stored dir node slots look).0

    held : 0 < part_address one dir p
    held = some image tree looks (looked_at tree looks) image.at one dir p midway below reaches block here

    sets_here : IsSlotSet one two (part_address one dir p) (length slots % 32) slot
    sets_here = subst (λ b. IsSlotSet one two b (length slots % 32) slot) (sym here) sets

    midway_two : IsMidway image tree looks (looked_at tree looks) two dir
    midway_two =
        midway_written image tree looks (looked_at tree looks) one two dir p (midway_reached image tree looks (looked_at tree looks) image.at one dir p midway below reaches) below held
        sets_here.others sets_here.full

    long : length (two (inode_block dir)) ≡ 512
    long = midway_two.ready.laid.sized (inode_block dir)

    rewritten : IsRewritten two new dir
    rewritten = dinode_written two new dir longer real long written (last_byte (two (inode_block dir)) (inode_place dir))

    tops : (q : ℕ) → q < 13 → (pointers new).top dir q ≡ (pointers two).top dir q
    tops q low =
        addresses_now two new dir longer real long written q low
        ∙ sym (address_in_area (two (inode_block dir)) (inode_place dir) q (let l = place_below dir in let e = long in omega (arith, e, l)) low)

    says : SaysFields longer wanted
    says =
        (let was = subst (λ (x : Dinode). SaysFields x node) (sym is) (stored_says image tree chain stored dir node look.has) in
        record { mode = was.mode; nlink = refl; uid = was.uid; gid = was.gid; atime = was.atime; mtime = refl; ctime = refl })

    used : wanted.mode ≢ 0
    used = (let has = node_stored image tree chain stored dir node look.has in λ e. has.used (has.mode ∙ e))

    size_now : size_of (new (inode_block dir)) (inode_place dir) ≡ 16 * length (slots ++ slot ∷ [])
    size_now =
        (let s = full in
        let more = length-append slots (slot ∷ []) in
        ap (λ (x : Dinode). x.size) (value_now two new dir longer real long written) ∙ (let e : d.size + 16 ≡ 16 * length (slots ++ slot ∷ []) = omega (arith, s, more) in e))

    pub grown : (left : List ℕ) × Advances image tree looks new (with_node tree dir wanted) left
    grown =
        (let step =
        growth_advances image tree chain looks stored dir node look.has wanted slots (slot ∷ []) look.body body (omega arith) room one two new reaches
        (one_written one two (part_address one dir p) (length slots % 32) slot (omega arith) sets_here) rewritten tops
        (fields_now two new dir longer real long written wanted (says_values longer wanted says used)) size_now in
        (step.0, step.1))
