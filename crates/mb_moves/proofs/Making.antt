-- Steps that make an inode, which need not be one that is looked at.
use Rattle.std.proofs.Common.{ℕ, ◌≡◌, ◌+◌, ◌*◌, ◌<◌, ◌≤◌, Bool, true, false, ◌||◌, nat_eq, List, [], length, None, refl, sym, ap, ◌∙◌, arith}
use Rattle.std.specs.FinMap as fin
use Rattle.std.proofs.lemmas.Bool.Decides.{nat_tests}
use Rattle.mb_kinds.specs.Image.{Image}
use Rattle.mb_word.specs.Fields.{isize_of, inode_block, inode_place, size_of}
use Rattle.mb_tree.specs.Blocks.{pointers, part_address}
use Rattle.mb_tree.specs.Cost.{most_parts}
use Rattle.mb_tree.specs.Places.{place_of}
use Rattle.mb_tree.specs.Volume.{has_addresses, node_has_addresses}
use Rattle.mb_tree.specs.declared.nodes.Body.TheVariants.{Regular, Directory}
use Rattle.mb_tree.specs.declared.nodes.Node.{Node}
use Rattle.mb_tree.specs.declared.nodes.PlainSlot.{PlainSlot}
use Rattle.mb_tree.specs.declared.trees.Tree.{Tree}
use Rattle.mb_blocks.specs.Growing.{Reaches, missing}
use Rattle.mb_blocks.specs.Inodes.{HasFields, IsRewritten}
use Rattle.mb_blocks.proofs.PartWriting.{rewritten_held, written_pointers}
use Rattle.mb_blocks.proofs.Pointing.{its_pointers}
use Rattle.mb_blocks.proofs.Reached.{got}
use Rattle.mb_nodes.specs.Bodies.{HasWritten}
use Rattle.mb_nodes.specs.Stored.{IsStored, with_node}
use Rattle.mb_nodes.specs.Underway.{AgreesOff, IsUnderway}
use Rattle.mb_nodes.proofs.Making.{born, made_directory, made_file}
use Rattle.mb_nodes.proofs.Underway.{after_reaching, after_writing, begun, mine_listed}
use Rattle.mb_moves.specs.Advancing.{Advances}
use Rattle.mb_moves.specs.Looking.{and_one}
use Rattle.mb_moves.proofs.Growth.{LosesNone, grown_advances, loses_by, loses_fewer, loses_then}

module _ (image : Image) (tree : Tree) (chain : List ℕ) (looks : ℕ → Bool) (stored : IsStored image tree chain) (ino : ℕ) (within : (1 ≤ ino) × (ino ≤ tree.last)) (none : fin.get tree.nodes ino ≡ None)
    (mid : ℕ → List ℕ) (written : IsRewritten image.at mid ino) (holes : (p : ℕ) → p < 13 → (pointers mid).top ino p ≡ 0) where
  abbrev more : ℕ → Bool
  more = and_one (has_addresses tree) ino

  pub joined : more ino ≡ true
  joined = (let t : nat_eq ino ino ≡ true = grind (arith, nat_tests) in ap (λ b. has_addresses tree ino || b) t ∙ or_true (has_addresses tree ino))
    where
      or_true : (b : Bool) → (b || true) ≡ true
      or_true true = refl
      or_true false = refl

  pub agrees : AgreesOff tree ino more
  agrees j apart = (let t : nat_eq j ino ≡ false = grind (arith, nat_tests) in ap (λ b. has_addresses tree j || b) t ∙ or_false (has_addresses tree j))
    where
      or_false : (b : Bool) → (b || false) ≡ b
      or_false true = refl
      or_false false = refl

  pub more_within : (i : ℕ) → has_addresses tree i ≡ true → more i ≡ true
  more_within i t = ap (λ b. b || nat_eq i ino) t

  free : has_addresses tree ino ≡ false
  free = ap node_has_addresses none

  pub under_mid : IsUnderway image tree chain ino more mid chain
  under_mid = born image tree chain stored ino within none mid written holes

  start : IsUnderway image tree chain ino (has_addresses tree) image.at chain
  start = begun image tree chain stored ino within

  low : inode_block ino < isize_of (image.at 1)
  low = mine_listed image tree chain stored ino within (has_addresses tree) (λ j apart. refl) image.at chain start

  pub none_mid : LosesNone (has_addresses tree) image.at mid
  none_mid =
      loses_by (has_addresses tree) image.at mid
      (its_pointers (has_addresses tree) image.at mid (rewritten_held (has_addresses tree) image.at mid ino [] chain start.laid low written (λ t. (let clash : true ≡ false = sym t ∙ free in cc))))

  pub file_advances : (node : Node) (size : ℕ) → node.body ≡ Regular size fin.empty → HasFields mid ino node → size_of (mid (inode_block ino)) (inode_place ino) ≡ size
      → Advances image tree looks mid (with_node tree ino node) chain
  file_advances node size empty fields sized =
      grown_advances image tree chain stored ino more agrees (λ t. joined) mid chain under_mid none_mid node (λ t. joined) looks chain
      (made_file image tree chain stored ino within none mid written holes node size empty fields sized)

  pub directory_advances : (node : Node) (slots : List PlainSlot) → node.body ≡ Directory slots → HasFields mid ino node → size_of (mid (inode_block ino)) (inode_place ino) ≡ 16 * length slots
      → 0 < length slots → length slots ≤ 32 → (one new : ℕ → List ℕ) → Reaches mid one (place_of ino 0) → HasWritten one new (part_address one ino 0) 0 slots
      → (left : List ℕ) × Advances image tree looks new (with_node tree ino node) left × (length chain ≡ length left + missing (pointers mid) (place_of ino 0))
  directory_advances node slots full fields sized some in_one one new reaches writes =
      let below : 0 < most_parts = omega arith in
      let reach = got more mid chain under_mid.laid ino 0 joined below one reaches in
      let under_one = after_reaching image tree chain stored ino within more agrees mid chain under_mid 0 one reaches joined below in
      let under_new = after_writing image tree chain stored ino within more agrees one reach.left under_one joined 0 below new reach.here writes.others writes.full in
      let then_new : LosesNone more one new = loses_by more one new (written_pointers more one new ino 0 [] reach.left under_one.laid joined below reach.here writes.others writes.full) in
      let after_mid : LosesNone (has_addresses tree) mid new = loses_fewer (has_addresses tree) more mid new more_within (loses_then more mid one new reach.same then_new) in
      let follows = made_directory image tree chain stored ino within none mid written holes node slots full fields sized some in_one one new reaches writes in
      (follows.0, grown_advances image tree chain stored ino more agrees (λ t. joined) new reach.left under_new (loses_then (has_addresses tree) image.at mid new none_mid after_mid) node (λ t. joined) looks follows.0 follows.1, follows.2)
