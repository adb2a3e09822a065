-- An inode made: an empty regular file, or a directory with its first slots in its first part.
use Rattle.std.proofs.Common.{ℕ, ◌≡◌, ◌≢◌, ◌⊎◌, inl, inr, ◌+◌, ◌*◌, ◌<◌, ◌≤◌, Bool, true, false, ◌||◌, nat_eq, List, [], length, map, Option, None, IsSome, refl, sym, ap, subst, ◌∙◌, arith}
use Rattle.std.specs.FinMap as fin
use Rattle.std.specs.FinMap.{get-empty}
use Rattle.std.specs.Ordering.{nat_cmp}
use Rattle.std.proofs.lemmas.Bool.Decides.{nat_tests}
use Rattle.mb_kinds.specs.Image.{Image}
use Rattle.mb_word.specs.Fields.{isize_of, fsize_of, inode_block, inode_place, mode_of, nlink_of, uid_of, gid_of, atime_of, mtime_of, ctime_of, size_of}
use Rattle.mb_tree.specs.Blocks.{pointers, part_address, part_in}
use Rattle.mb_tree.specs.Cost.{most_parts, index_blocks, cost_at, body_cost}
use Rattle.mb_tree.specs.Places.{place_of}
use Rattle.mb_tree.specs.Volume.{HasFile, HasDirectory, HasBody, body_has_addresses, node_has_addresses, has_addresses}
use Rattle.mb_tree.specs.declared.nodes.Body.TheVariants.{Regular, Directory}
use Rattle.mb_tree.specs.declared.nodes.Node.{Node}
use Rattle.mb_tree.specs.declared.nodes.PlainSlot.{PlainSlot}
use Rattle.mb_tree.specs.declared.trees.Tree.{Tree}
use Rattle.mb_tree.proofs.FiniteMaps.{entries_none}
use Rattle.mb_blocks.specs.Growing.{Reaches, missing}
use Rattle.mb_tree.proofs.Groups.{no_blocks}
use Rattle.mb_blocks.proofs.Keeping.{sizes_same}
use Rattle.mb_blocks.proofs.LettingGo.{hole_under}
use Rattle.mb_blocks.proofs.PartBytes.{part_missing}
use Rattle.mb_blocks.proofs.PartPlaces.{place_is}
use Rattle.mb_blocks.proofs.PartWriting.{low_same}
use Rattle.mb_blocks.proofs.Reached.{fields_kept, got, size_kept}
use Rattle.mb_blocks.specs.Inodes.{HasFields, IsBorn, IsRewritten}
use Rattle.mb_nodes.specs.Bodies.{HasSlots, HasWritten}
use Rattle.mb_nodes.specs.Stored.{Follows, IsStored}
use Rattle.mb_nodes.specs.Underway.{AgreesOff, IsUnderway}
use Rattle.mb_nodes.proofs.GrownDirectories.{node_fields}
use Rattle.mb_nodes.proofs.MoreSlots.{more_slots, slots_cost}
use Rattle.mb_nodes.proofs.Underway.{after_birth, after_reaching, after_rewriting, after_writing, begun, finished, mine_listed}

none_there : (blocks : ℕ → List ℕ) (ino : ℕ) → ((p : ℕ) → p < 13 → (pointers blocks).top ino p ≡ 0) → (part : ℕ) → part_in blocks ino part ≡ None
none_there blocks ino holes part = part_missing blocks ino part (λ below. hole_under blocks ino holes (place_of ino part) (place_is (nat_eq ino) ino part (grind (arith, nat_tests)) below))

-- the fields of an inode whose block stays
pub same_fields : (old new : ℕ → List ℕ) (ino : ℕ) (node : Node) → new (inode_block ino) ≡ old (inode_block ino) → HasFields old ino node → HasFields new ino node
same_fields old new ino node e has = record {
  used = subst (λ (b : List ℕ). mode_of b (inode_place ino) ≢ 0) (sym e) has.used;
  mode = ap (λ (b : List ℕ). mode_of b (inode_place ino)) e ∙ has.mode;
  nlink = ap (λ (b : List ℕ). nlink_of b (inode_place ino)) e ∙ has.nlink;
  uid = ap (λ (b : List ℕ). uid_of b (inode_place ino)) e ∙ has.uid;
  gid = ap (λ (b : List ℕ). gid_of b (inode_place ino)) e ∙ has.gid;
  atime = ap (λ (b : List ℕ). atime_of b (inode_place ino)) e ∙ has.atime;
  mtime = ap (λ (b : List ℕ). mtime_of b (inode_place ino)) e ∙ has.mtime;
  ctime = ap (λ (b : List ℕ). ctime_of b (inode_place ino)) e ∙ has.ctime;
}

or_true : (b : Bool) → (b || true) ≡ true
or_true true = refl
or_true false = refl

or_false : (b : Bool) → (b || false) ≡ b
or_false true = refl
or_false false = refl

module _ (image : Image) (tree : Tree) (chain : List ℕ) (stored : IsStored image tree chain) (ino : ℕ) (within : (1 ≤ ino) × (ino ≤ tree.last)) (none : fin.get tree.nodes ino ≡ None)
    (mid : ℕ → List ℕ) (written : IsRewritten image.at mid ino) (holes : (p : ℕ) → p < 13 → (pointers mid).top ino p ≡ 0) where
  free : has_addresses tree ino ≡ false
  free = ap node_has_addresses none

  abbrev more_has : ℕ → Bool
  more_has j = has_addresses tree j || nat_eq j ino

  more_is : more_has ino ≡ true
  more_is = (let t : nat_eq ino ino ≡ true = grind (arith, nat_tests) in ap (λ b. has_addresses tree ino || b) t ∙ or_true (has_addresses tree ino))

  more_off : AgreesOff tree ino more_has
  more_off j apart = (let t : nat_eq j ino ≡ false = grind (arith, nat_tests) in ap (λ b. has_addresses tree j || b) t ∙ or_false (has_addresses tree j))

  same_has : AgreesOff tree ino (has_addresses tree)
  same_has j apart = refl

  start : IsUnderway image tree chain ino (has_addresses tree) image.at chain
  start = begun image tree chain stored ino within

  under_mid : IsUnderway image tree chain ino (has_addresses tree) mid chain
  under_mid = after_rewriting image tree chain stored ino within (has_addresses tree) same_has image.at chain start mid written (λ t. (let clash : true ≡ false = sym t ∙ free in cc))

  low : inode_block ino < isize_of (mid 1)
  low = mine_listed image tree chain stored ino within (has_addresses tree) same_has mid chain under_mid

  adds : (i : ℕ) → more_has i ≡ true → (has_addresses tree i ≡ true) ⊎ IsBorn mid i
  adds i t = elim (nat_eq i ino) as (λ b. nat_eq i ino ≡ b → (has_addresses tree i || b) ≡ true → (has_addresses tree i ≡ true) ⊎ IsBorn mid i) [
    | true ↦ λ e h. (let same : ino ≡ i = grind (arith, nat_tests) in inr (subst (IsBorn mid) same (record { some = (let w = within in omega (arith, w.0)); listed = low; holes = holes })))
    | false ↦ λ e h. inl (sym (or_false (has_addresses tree i)) ∙ h)
  ] refl t

  pub born : IsUnderway image tree chain ino more_has mid chain
  born = after_birth image tree chain stored ino within (has_addresses tree) same_has mid chain under_mid more_has (λ i t. ap (λ b. b || nat_eq i ino) t) adds

  no_cost : cost_at (fin.get tree.nodes ino) ≡ 0
  no_cost = ap cost_at none

  -- ---- a regular file

  module _ (node : Node) (size : ℕ) (empty : node.body ≡ Regular size fin.empty) (fields : HasFields mid ino node) (sized : size_of (mid (inode_block ino)) (inode_place ino) ≡ size) where
    file : HasFile mid ino size fin.empty
    file = record { sized = sized; each = λ part. get-empty nat_cmp part ∙ sym (none_there mid ino holes part) }

    costs_nothing : body_cost node.body ≡ 0
    costs_nothing = ap body_cost empty ∙ ap (λ (ks : List ℕ). length ks + index_blocks ks) (ap (map (λ (e : ℕ × List ℕ). e.0)) entries_none) ∙ sym no_blocks

    pub made_file : Follows image tree mid (record tree { nodes = fin.insert tree.nodes ino node }) chain
    made_file =
        finished image tree chain stored ino within more_has more_off mid chain born node (more_is ∙ sym (ap body_has_addresses empty))
        (node_fields mid ino node fields (subst (HasBody mid ino) (sym empty) file))
        (let a = costs_nothing in let b = no_cost in omega (arith, a, b))

  -- ---- a directory

  module _ (node : Node) (slots : List PlainSlot) (full : node.body ≡ Directory slots) (fields : HasFields mid ino node) (sized : size_of (mid (inode_block ino)) (inode_place ino) ≡ 16 * length slots)
      (some_more : 0 < length slots) (in_one : length slots ≤ 32) (one new : ℕ → List ℕ) (reaches : Reaches mid one (place_of ino 0)) (writes : HasWritten one new (part_address one ino 0) 0 slots) where
    bare : HasSlots mid ino []
    bare = record {
      each = refl;
      parts = λ q below. (
        (λ some. (let gone : IsSome {T = List ℕ} None = subst (λ (o : Option (List ℕ)). IsSome o) (none_there mid ino holes q) some in cc)),
        λ within_none. absurd (omega (arith, within_none)),
      );
    }

    pub made_directory : (left : List ℕ) × Follows image tree new (record tree { nodes = fin.insert tree.nodes ino node }) left
        × (length chain ≡ length left + missing (pointers mid) (place_of ino 0))
    made_directory =
        let few : fsize_of (mid 1) ≤ 262144 = (let same = sizes_same image.at mid born.keeps.front in let was = stored.sizes.few_blocks in omega (arith, was, same.1)) in
        let below : 0 < most_parts = omega arith in
        let reach = got more_has mid chain born.laid ino 0 more_is below one reaches in
        let under_one : IsUnderway image tree chain ino more_has one reach.left =
        after_reaching image tree chain stored ino within more_has more_off mid chain born 0 one reaches more_is below in
        let under_new : IsUnderway image tree chain ino more_has new reach.left =
        after_writing image tree chain stored ino within more_has more_off one reach.left under_one more_is 0 below new reach.here writes.others writes.full in
        let low_one = mine_listed image tree chain stored ino within more_has more_off one reach.left under_one in
        let block : new (inode_block ino) ≡ one (inode_block ino) =
        low_same more_has one new ino 0 [] reach.left reach.laid more_is below reach.here writes.others writes.full (inode_block ino) low_one in
        let after : HasSlots new ino slots =
        more_slots more_has mid chain born.laid born.leads few ino more_is [] slots bare some_more (omega (arith, in_one)) one new new reaches writes.others writes.full writes.kept writes.here (λ q. refl) in
        let fields_one : HasFields one ino node = fields_kept more_has mid chain born.laid ino 0 more_is below one reaches node fields in
        let fields_new : HasFields new ino node = same_fields one new ino node block fields_one in
        let sized_new : size_of (new (inode_block ino)) (inode_place ino) ≡ 16 * length slots =
        ap (λ (b : List ℕ). size_of b (inode_place ino)) block ∙ size_kept more_has mid chain born.laid ino 0 more_is below one reaches ∙ sized in
        let whole : HasDirectory new ino slots = record { sized = sized_new; each = after.each; parts = after.parts } in (
          reach.left,
          finished image tree chain stored ino within more_has more_off new reach.left under_new node (more_is ∙ sym (ap body_has_addresses full))
              (node_fields new ino node fields_new (subst (HasBody new ino) (sym full) whole))
              (let a = ap body_cost full in
              let b = no_cost in
              let c = slots_cost more_has mid chain born.laid born.leads few ino more_is [] slots bare some_more (omega (arith, in_one)) in
              let d = reach.count in
              let e : body_cost (Directory []) ≡ 0 = sym no_blocks in
              omega (arith, a, b, c, d, e)),
          reach.count,
        )
