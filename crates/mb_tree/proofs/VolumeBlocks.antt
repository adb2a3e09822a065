-- A volume is one by its blocks below s_fsize alone.
use Rattle.std.proofs.Common.{ℕ, zero, suc, ◌≡◌, ◌≢◌, ◌-◌, ◌*◌, ◌/◌, ◌%◌, ◌<◌, ◌≤◌, ◌↔◌, inl, inr, Bool, true, false, cond, nat_eq, nat_lt, List, [], ◌∷◌, All, length, map, Option, Some, None, IsSome, unwrap_or, refl, sym, ap, subst, ◌∙◌, arith}
use Rattle.std.specs.FinMap as fin
use Rattle.std.specs.List.{range_with_len}
use Rattle.std.proofs.Math.Path.{fun_ext}
use Rattle.std.proofs.lemmas.Bool.{cases_lt}
use Rattle.std.proofs.lemmas.Bool.Decides.{nat_tests}
use Rattle.std.proofs.lemmas.List.Elements.{All-head, All-tail, All-weaker}
use Rattle.mb_kinds.specs.Image.{Image, zeros}
use Rattle.mb_word.specs.Fields.{isize_of, fsize_of, ninode_of, nfree_of, free_of, inode_block, inode_place, address_of, size_of, area_of, mode_of, nlink_of, uid_of, gid_of, atime_of, mtime_of, ctime_of, index_entry, chain_count, chain_entry}
use Rattle.mb_tree.specs.Blocks.{entry_in, pointers, bytes_at, part_in, slot_of, slot_in, first_list, list_in, IsFreeChain}
use Rattle.mb_tree.specs.Chain.{Listed, after_taking, IsChain}
use Rattle.mb_tree.specs.Cost.{most_parts}
use Rattle.mb_tree.specs.Places.{Place, Top, Under, at, IsPlace, place_of}
use Rattle.mb_tree.specs.Trees.{IsSound}
use Rattle.mb_tree.specs.Volume.{HasBody, HasInode, body_has_addresses, node_has_addresses, has_addresses, IsOpenToFiles, HoldsBlocks, SparesBlocks, IsVolume}
use Rattle.mb_tree.specs.VolumeLaws.{HasBlocksOf, VolumeByItsBlocks}
use Rattle.mb_tree.specs.declared.nodes.Body.{Body}
use Rattle.mb_tree.specs.declared.nodes.Body.TheVariants.{Regular, Directory, Special}
use Rattle.mb_tree.specs.declared.nodes.Node.{Node}
use Rattle.mb_tree.specs.declared.trees.Tree.{Tree}

-- ---- places, chains and blocks

-- the part of a file stands at one of its places
pub part_place : (has : ℕ → Bool) (ino part : ℕ) → has ino ≡ true → part < most_parts → IsPlace has (place_of ino part)
unfolding place_of
part_place has ino part is below = elim (cases_lt part 10) [
  | inl direct ↦
      let e : nat_lt part 10 ≡ true = grind (arith, nat_tests) in
      rw e (is, omega arith)
  | inr past ↦
      let e : nat_lt part 10 ≡ false = grind (arith, nat_tests) in
      rw e (elim (cases_lt part 138) [
        | inl single ↦
            let f : nat_lt part 138 ≡ true = grind (arith, nat_tests) in
            rw f ((is, omega arith), omega arith, omega arith)
        | inr further ↦
            let f : nat_lt part 138 ≡ false = grind (arith, nat_tests) in
            rw f (elim (cases_lt part 16522) [
              | inl double ↦
                  let g : nat_lt part 16522 ≡ true = grind (arith, nat_tests) in
                  rw g (((is, omega arith), omega arith, omega arith), omega arith, omega arith)
              | inr last ↦
                  let g : nat_lt part 16522 ≡ false = grind (arith, nat_tests) in
                  rw g ((((is, omega arith), omega arith, omega arith), omega arith, omega arith), omega arith, omega arith)
            ])
      ])
]

after_alike : (f g : ℕ → Listed) (it : Listed) (block : ℕ) → f block ≡ g block → after_taking f it block ≡ after_taking g it block
unfolding after_taking
after_alike f g it block e = ap (λ next. cond (nat_eq it.count 1) next (record it { count = it.count - 1 })) e

-- a chain is read from its own blocks
pub chain_alike : (f g : ℕ → Listed) (it : Listed) (chain : List ℕ) → All (λ block. f block ≡ g block) chain → IsChain f it chain → IsChain g it chain
chain_alike f g it [] same has = has
chain_alike f g it (block ∷ blocks) same has =
    let e : after_taking f it block ≡ after_taking g it block = after_alike f g it block (All-head (λ b. f b ≡ g b) block blocks same) in
    let rest = chain_alike f g (after_taking f it block) blocks (All-tail (λ b. f b ≡ g b) block blocks same) has.1 in
    (has.0, subst (λ next. IsChain g next blocks) e rest)

pub entry_same : (old new : ℕ → List ℕ) (block place : ℕ) → (0 < block → new block ≡ old block) → entry_in new block place ≡ entry_in old block place
unfolding entry_in
entry_same old new zero place same = refl
entry_same old new (suc block) place same = ap (λ bytes. index_entry bytes place) (same (omega arith))

pub bytes_same : (old new : ℕ → List ℕ) (block : ℕ) → (0 < block → new block ≡ old block) → bytes_at new block ≡ bytes_at old block
bytes_same old new zero same = refl
bytes_same old new (suc block) same = ap (λ bytes. Some bytes) (same (omega arith))

-- an inode that holds addresses is in the tree
pub holder_in : (tree : Tree) (ino : ℕ) (found : Option Node) → IsSound tree → fin.get tree.nodes ino ≡ found → node_has_addresses found ≡ true → (1 ≤ ino) × (ino ≤ tree.last)
holder_in tree ino None sound is has = cc
holder_in tree ino (Some node) sound is has = sound.numbers ino node is

-- ---- a volume

module _ (image other : Image) (tree : Tree) (has : HasBlocksOf image other) (volume : IsVolume image tree) where
  first : other.at 1 ≡ image.at 1
  first = has.same 1 (omega arith) (let s = volume.sizes in omega (arith, s.some_inodes, s.some_blocks))

  open_block : (block : ℕ) → IsOpenToFiles image.at block → other.at block ≡ image.at block
  open_block block is = has.same block (let s = volume.sizes in omega (arith, s.some_inodes, is.from)) is.below

  inodes_block : (ino : ℕ) → 0 < ino → ino ≤ tree.last → other.at (inode_block ino) ≡ image.at (inode_block ino)
  inodes_block ino some below = has.same (inode_block ino) (omega arith) (let s = volume.sizes in omega (arith, s.some_blocks, below, some, volume.last))

  -- the addresses
  at_same : (q : Place) → IsPlace (has_addresses tree) q → at (pointers other.at) q ≡ at (pointers image.at) q
  at_same (Top ino place) is =
      let numbers = holder_in tree ino (fin.get tree.nodes ino) volume.sound refl is.0 in
      ap (λ bytes. address_of bytes (inode_place ino) place) (inodes_block ino (omega (arith, numbers.0)) numbers.1)
  at_same (Under q place) is =
      ap (λ block. entry_in other.at block place) (at_same q is.0)
      ∙ entry_same image.at other.at (at (pointers image.at) q) place (λ some. open_block (at (pointers image.at) q) (volume.held.in_range q is.0 some))

  part_same : (ino part : ℕ) → has_addresses tree ino ≡ true → part_in other.at ino part ≡ part_in image.at ino part
  unfolding part_in
  part_same ino part holds = elim (cases_lt part most_parts) [
    | inl below ↦
        let is = part_place (has_addresses tree) ino part holds below in
        let q = place_of ino part in
        ap (λ found. cond (nat_lt part most_parts) found None)
        (ap (bytes_at other.at) (at_same q is) ∙ bytes_same image.at other.at (at (pointers image.at) q) (λ some. open_block (at (pointers image.at) q) (volume.held.in_range q is some)))
    | inr past ↦
        let e : nat_lt part most_parts ≡ false = grind (arith, nat_tests) in
        rw e refl
  ]

  body_same : (ino : ℕ) (body : Body) → 0 < ino → ino ≤ tree.last → (body_has_addresses body ≡ true → has_addresses tree ino ≡ true) → HasBody image.at ino body → HasBody other.at ino body
  body_same ino (Regular size parts) some below holds body = record {
    sized = ap (λ bytes. size_of bytes (inode_place ino)) (inodes_block ino some below) ∙ body.sized;
    each = λ part. body.each part ∙ sym (part_same ino part (holds refl));
  }
  body_same ino (Directory slots) some below holds body =
      let part : part_in other.at ino ≡ part_in image.at ino = fun_ext (λ part. part_same ino part (holds refl)) in
      let slot : slot_in other.at ino ≡ slot_in image.at ino = ap (λ (f : ℕ → Option (List ℕ)). (λ slot. slot_of (unwrap_or (f (slot / 32)) zeros) (slot % 32))) part in
      record {
        sized = ap (λ bytes. size_of bytes (inode_place ino)) (inodes_block ino some below) ∙ body.sized;
        each = body.each ∙ ap (λ f. map f (range_with_len 0 (length slots))) (sym slot);
        parts = λ p low. subst (λ (found : Option (List ℕ)). IsSome found ↔ (512 * p < 16 * length slots)) (sym (part_same ino p (holds refl))) (body.parts p low);
      }
  body_same ino (Special size area) some below holds body = record {
    sized = ap (λ bytes. size_of bytes (inode_place ino)) (inodes_block ino some below) ∙ body.sized;
    kept = ap (λ bytes. area_of bytes (inode_place ino)) (inodes_block ino some below) ∙ body.kept;
  }

  -- the inodes
  inode_same : (ino : ℕ) (found : Option Node) → fin.get tree.nodes ino ≡ found → 0 < ino → ino ≤ tree.last → HasInode image.at ino found → HasInode other.at ino found
  inode_same ino None is some below free = ap (λ bytes. mode_of bytes (inode_place ino)) (inodes_block ino some below) ∙ free
  inode_same ino (Some node) is some below found =
      let block = inodes_block ino some below in
      record {
        used = λ none. found.used (sym (ap (λ bytes. mode_of bytes (inode_place ino)) block) ∙ none);
        mode = ap (λ bytes. mode_of bytes (inode_place ino)) block ∙ found.mode;
        nlink = ap (λ bytes. nlink_of bytes (inode_place ino)) block ∙ found.nlink;
        uid = ap (λ bytes. uid_of bytes (inode_place ino)) block ∙ found.uid;
        gid = ap (λ bytes. gid_of bytes (inode_place ino)) block ∙ found.gid;
        atime = ap (λ bytes. atime_of bytes (inode_place ino)) block ∙ found.atime;
        mtime = ap (λ bytes. mtime_of bytes (inode_place ino)) block ∙ found.mtime;
        ctime = ap (λ bytes. ctime_of bytes (inode_place ino)) block ∙ found.ctime;
        body = body_same ino node.body some below (λ holds. ap node_has_addresses is ∙ holds) found.body;
      }

  -- what is held and what is free
  open_same : (block : ℕ) → IsOpenToFiles image.at block → IsOpenToFiles other.at block
  open_same block is = record {
    from = subst (λ (bytes : List ℕ). isize_of bytes ≤ block) (sym first) is.from;
    below = subst (λ (bytes : List ℕ). block < fsize_of bytes) (sym first) is.below;
  }

  held_same : HoldsBlocks tree other.at
  held_same = record {
    in_range = λ q is some.
        (let e = at_same q is in
        let was : 0 < at (pointers image.at) q = omega (arith, some, e) in
        subst (λ block. IsOpenToFiles other.at block) (sym e) (open_same (at (pointers image.at) q) (volume.held.in_range q is was)));
    once = λ q r is twin some same.
        (let e = at_same q is in
        volume.held.once q r is twin (omega (arith, some, e)) (sym e ∙ same ∙ at_same r twin));
    leads_on = λ q is up some.
        (let e = at_same q is in
        let was : 0 < at (pointers image.at) q = omega (arith, some, e) in
        let on = volume.held.leads_on q is up was in
        let block : other.at (at (pointers other.at) q) ≡ image.at (at (pointers image.at) q) = ap other.at e ∙ open_block (at (pointers image.at) q) (volume.held.in_range q is was) in
        (on.0, on.1, λ none. on.2 (ap (λ bytes. index_entry bytes on.0) (sym block) ∙ none)));
  }

  list_same : (block : ℕ) → IsOpenToFiles image.at block → list_in image.at block ≡ list_in other.at block
  list_same block is = ap (λ (bytes : List ℕ). record { count = chain_count bytes; entry = chain_entry bytes }) (sym (open_block block is))

  chain_same : IsFreeChain other.at volume.chain
  chain_same =
      let start : first_list image.at ≡ first_list other.at = ap (λ (bytes : List ℕ). record { count = nfree_of bytes; entry = free_of bytes }) (sym first) in
      subst (λ (it : Listed). IsChain (list_in other.at) it volume.chain) start
      (chain_alike (list_in image.at) (list_in other.at) (first_list image.at) volume.chain
      (All-weaker (IsOpenToFiles image.at) (λ block. list_in image.at block ≡ list_in other.at block) list_same volume.chain volume.spare.in_range) volume.spare.listed)

  spare_same : SparesBlocks tree other.at volume.chain
  spare_same = record {
    listed = chain_same;
    in_range = All-weaker (IsOpenToFiles image.at) (IsOpenToFiles other.at) open_same volume.chain volume.spare.in_range;
    once = volume.spare.once;
    apart = All-weaker (λ block. (q : Place) → IsPlace (has_addresses tree) q → at (pointers image.at) q ≢ block) (λ block. (q : Place) → IsPlace (has_addresses tree) q → at (pointers other.at) q ≢ block)
        (λ block away q is e. away q is (sym (at_same q is) ∙ e)) volume.chain volume.spare.apart;
  }

  pub same_volume : IsVolume other tree
  same_volume = record {
    chain = volume.chain;
    bytes = has.bytes;
    sizes = (let s = volume.sizes in record {
      blocks = omega (arith, s.some_inodes, s.some_blocks, has.enough);
      some_inodes = subst (λ (bytes : List ℕ). 3 ≤ isize_of bytes) (sym first) s.some_inodes;
      few_inodes = subst (λ (bytes : List ℕ). isize_of bytes ≤ 8193) (sym first) s.few_inodes;
      some_blocks = subst (λ (bytes : List ℕ). isize_of bytes < fsize_of bytes) (sym first) s.some_blocks;
      few_blocks = subst (λ (bytes : List ℕ). fsize_of bytes ≤ 262144) (sym first) s.few_blocks;
      present = subst (λ (bytes : List ℕ). fsize_of bytes ≤ other.count) (sym first) has.enough;
    });
    cached = subst (λ (bytes : List ℕ). ninode_of bytes ≤ 100) (sym first) volume.cached;
    last = volume.last ∙ sym (ap (λ (bytes : List ℕ). 8 * (isize_of bytes - 2)) first);
    inodes = λ ino some below. inode_same ino (fin.get tree.nodes ino) refl some below (volume.inodes ino some below);
    held = held_same;
    spare = spare_same;
    capacity = volume.capacity;
    sound = volume.sound;
  }

pub volume_by_its_blocks : VolumeByItsBlocks
volume_by_its_blocks image other tree has volume = same_volume image other tree has volume
