-- The blocks that a node of a stored tree holds, by its inode's value.
use Rattle.std.proofs.Common.{ℕ, ◌≡◌, inl, inr, ◌<◌, ◌≤◌, Bool, true, false, ◌||◌, ◌-◌, ◌≢◌, ◌⊎◌, cond, nat_eq, List, [], Some, refl, sym, ap, subst, ◌∙◌, arith}
use Rattle.std.specs.FinMap as fin
use Rattle.std.specs.List.{Contains}
use Rattle.std.proofs.lemmas.Bool.Decides.{Decides-eqb, nat_tests}
use Rattle.std.proofs.lemmas.Map.Made.{IsDistinct-from_AllPairs}
use Rattle.std.proofs.lemmas.Map.Steps.{length-le_from_distinct_below}
use Rattle.mb_kinds.specs.Image.{Image}
use Rattle.mb_word.specs.Fields.{inode_block, inode_place}
use Rattle.mb_layout.specs.Inode.{address_in, dinode_at}
use Rattle.mb_layout.specs.declared.dinodes.Dinode.{Dinode}
use Rattle.mb_layout.proofs.InodeBytes.{address_in_area}
use Rattle.mb_layout.proofs.InodeOrder.{place_below}
use Rattle.mb_tree.specs.Blocks.{pointers}
use Rattle.mb_tree.specs.Inodes.{is_directory, is_regular, is_special, kind_of}
use Rattle.mb_tree.specs.Trees.{HasKind}
use Rattle.mb_tree.specs.Volume.{HasInode, HasNode, body_has_addresses, has_addresses, node_has_addresses}
use Rattle.mb_tree.specs.declared.nodes.Body.{Body}
use Rattle.mb_tree.specs.declared.nodes.Body.TheVariants.{Regular, Directory, Special}
use Rattle.mb_tree.specs.declared.nodes.Node.{Node}
use Rattle.mb_tree.specs.declared.trees.Tree.{Tree}
use Rattle.mb_blocks.specs.Owners.{Enumerates}
use Rattle.mb_blocks.specs.Walk.{under_block, under_inode}
use Rattle.mb_blocks.proofs.Groupings.{in_has}
use Rattle.mb_blocks.proofs.InodeWalks.{walk_enumerates}
use Rattle.mb_blocks.proofs.Owning.{mine_owner, mine_place}
use Rattle.mb_nodes.specs.Bodies.{LetsGo}
use Rattle.mb_nodes.specs.Bodies.LetsGo.{listed, special}
use Rattle.mb_nodes.specs.Stored.{IsStored}
use Rattle.mb_nodes.proofs.OneInode.{laid_stored}
use Rattle.mb_moves.specs.Advancing.{IsNearTo}
use Rattle.mb_moves.proofs.Nearness.{place_near, tested_place}
use Rattle.mb_file.specs.Erasing.{held_blocks}
use Rattle.mb_file.specs.Walking.{IsListable, under_dinode}
use Rattle.mb_file.proofs.Listing.{each_alike}

cases_true : (b : Bool) → (b ≡ true) ⊎ (b ≡ false)
cases_true true = inl refl
cases_true false = inr refl

-- ---- a list of all blocks of an inode

module _ (image : Image) (tree : Tree) (chain : List ℕ) (stored : IsStored image tree chain) (ino : ℕ) (is : has_addresses tree ino ≡ true) (list : List ℕ) (lists : Enumerates image.at ino list) where
  small_held : (block : ℕ) → Contains list block → block < 262144
  small_held block among =
      let only = lists.only block among in
      let some = only.0 in
      let e = only.3 in
      let open_to = stored.held.in_range only.1 (mine_place (has_addresses tree) ino is only.1 only.2) (omega (arith, some, e)) in
      let below = open_to.below in
      let few = stored.sizes.few_blocks in
      omega (arith, below, few, e)

  pub listable_held : IsListable [] list
  listable_held = record {
    small = small_held;
    few =
        let few = length-le_from_distinct_below list 262144 (IsDistinct-from_AllPairs Decides-eqb list lists.once) (λ q among. small_held q (in_has list q among)) in
        omega (arith, few);
  }

  pub near_held : (looks : ℕ → Bool) → looks ino ≡ true → (block : ℕ) → Contains list block → IsNearTo image tree looks block
  near_held looks looked block among =
      let only = lists.only block among in
      let there = mine_place (has_addresses tree) ino is only.1 only.2 in
      subst (IsNearTo image tree looks) only.3
      (place_near image tree looks only.1 (tested_place (has_addresses tree) looks only.1 there (ap looks (mine_owner (has_addresses tree) ino only.1 only.2) ∙ looked)))

-- ---- the blocks by the inode's value

-- the kinds of a mode apart
kinds_apart : (kind : ℕ) → (one : ℕ) (other : ℕ) → one ≢ other → nat_eq kind one ≡ true → nat_eq kind other ≡ false
kinds_apart kind one other apart is = grind (arith, nat_tests)

no_area : (mode : ℕ) → is_special mode ≡ true → (is_directory mode || is_regular mode) ≡ false
no_area mode is = elim (cases_true (nat_eq (kind_of mode) 0x2000)) [
  | inl device ↦
      (let d : is_directory mode ≡ false = kinds_apart (kind_of mode) 0x2000 0x4000 (omega arith) device in
      let r : is_regular mode ≡ false = kinds_apart (kind_of mode) 0x2000 0x8000 (omega arith) device in
      ap (λ b. b || is_regular mode) d ∙ r)
  | inr not_device ↦
      (let block : nat_eq (kind_of mode) 0x6000 ≡ true = sym (ap (λ b. b || nat_eq (kind_of mode) 0x6000) not_device) ∙ is in
      let d : is_directory mode ≡ false = kinds_apart (kind_of mode) 0x6000 0x4000 (omega arith) block in
      let r : is_regular mode ≡ false = kinds_apart (kind_of mode) 0x6000 0x8000 (omega arith) block in
      ap (λ b. b || is_regular mode) d ∙ r)
]

or_left : (a b : Bool) → a ≡ true → (a || b) ≡ true
or_left a b e = ap (λ x. x || b) e

or_right : (a b : Bool) → b ≡ true → (a || b) ≡ true
or_right true b e = refl
or_right false b e = e

-- a mode's kind has addresses exactly where its body has
pub area_by_kind : (mode : ℕ) (body : Body) → HasKind mode body → (is_directory mode || is_regular mode) ≡ body_has_addresses body
area_by_kind mode (Regular size parts) kind = or_right (is_directory mode) (is_regular mode) kind
area_by_kind mode (Directory slots) kind = or_left (is_directory mode) (is_regular mode) kind
area_by_kind mode (Special size area) kind = no_area mode kind

-- an inode's addresses are those of its value
pub same_top : (image : Image) (tree : Tree) (chain : List ℕ) → IsStored image tree chain → (ino : ℕ) (d : Dinode) → d ≡ dinode_at (image.at (inode_block ino)) (inode_place ino)
    → (k : ℕ) → k < 13 → (pointers image.at).top ino k ≡ address_in d k
same_top image tree chain stored ino d reads k low =
    address_in_area (image.at (inode_block ino)) (inode_place ino) k (let l = stored.bytes (inode_block ino) in let p = place_below ino in omega (arith, l, p)) low
    ∙ ap (λ (x : Dinode). address_in x k) (sym reads)

module _ (image : Image) (tree : Tree) (chain : List ℕ) (stored : IsStored image tree chain) (ino : ℕ) (node : Node) (has : fin.get tree.nodes ino ≡ Some node) where
  pub its_number : (1 ≤ ino) × (ino ≤ tree.last)
  its_number = stored.numbers ino node has

  pub its_inode : HasNode image.at ino node
  its_inode = (let n = its_number in subst (HasInode image.at ino) has (stored.inodes ino (omega (arith, n.0)) n.1))

  module _ (kind : HasKind node.mode node.body) (d : Dinode) (reads : d ≡ dinode_at (image.at (inode_block ino)) (inode_place ino)) where
    its_mode : d.mode ≡ node.mode
    its_mode = ap (λ (x : Dinode). x.mode) reads ∙ its_inode.mode

    its_area : (is_directory d.mode || is_regular d.mode) ≡ body_has_addresses node.body
    its_area = ap (λ m. is_directory m || is_regular m) its_mode ∙ area_by_kind node.mode node.body kind

    with_area : body_has_addresses node.body ≡ true → held_blocks (pointers image.at) d ≡ under_inode (pointers image.at) ino
    with_area some =
        ap (λ b. cond b (under_dinode (pointers image.at) d) []) (its_area ∙ some)
        ∙ sym (each_alike (λ place. under_block (pointers image.at) (place - 9)) ((pointers image.at).top ino) (address_in d) 13 (same_top image tree chain stored ino d reads))

    pub without_area : body_has_addresses node.body ≡ false → held_blocks (pointers image.at) d ≡ []
    without_area none = ap (λ b. cond b (under_dinode (pointers image.at) d) []) (its_area ∙ none)

    pub lists_held : body_has_addresses node.body ≡ true → Enumerates image.at ino (held_blocks (pointers image.at) d)
    lists_held some =
        subst (Enumerates image.at ino) (sym (with_area some))
        (walk_enumerates (has_addresses tree) image.at [] chain ino (laid_stored image tree chain stored) (ap node_has_addresses has ∙ some))

    -- the list is what is let go, it can be listed, and all of it is near
    pub held_lets : LetsGo image.at ino node.body (held_blocks (pointers image.at) d)
    held_lets = elim (cases_true (body_has_addresses node.body)) [
      | inl some ↦ listed node.body (held_blocks (pointers image.at) d) some (lists_held some)
      | inr none ↦ subst (LetsGo image.at ino node.body) (sym (without_area none)) (special node.body none)
    ]

    pub held_listable : IsListable [] (held_blocks (pointers image.at) d)
    held_listable = elim (cases_true (body_has_addresses node.body)) [
      | inl some ↦ listable_held image tree chain stored ino (ap node_has_addresses has ∙ some) (held_blocks (pointers image.at) d) (lists_held some)
      | inr none ↦ subst (IsListable []) (sym (without_area none)) (record { small = λ block among. absurd (let low = among.1 in omega (arith, low)); few = omega arith })
    ]

    pub held_is_near : (looks : ℕ → Bool) → looks ino ≡ true → (block : ℕ) → Contains (held_blocks (pointers image.at) d) block → IsNearTo image tree looks block
    held_is_near looks looked block among = elim (cases_true (body_has_addresses node.body)) [
      | inl some ↦ near_held image tree chain stored ino (ap node_has_addresses has ∙ some) (held_blocks (pointers image.at) d) (lists_held some) looks looked block among
      | inr none ↦ absurd (let there = subst (λ (xs : List ℕ). Contains xs block) (without_area none) among in let low = there.1 in omega (arith, low))
    ]
