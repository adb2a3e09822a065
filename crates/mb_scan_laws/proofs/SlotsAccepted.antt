-- The scan's fifth part holds exactly where each directory has the slots of a sound tree.
use Rattle.std.proofs.Common.{◌≡◌, ℕ, ◌/◌, ◌<◌, ◌≤◌, List, [], Bool, true, false, if◌then◌else◌, refl, sym, subst, arith}
use Rattle.mb_kinds.specs.Image.{Image}
use Rattle.mb_tree.specs.Inodes.{is_directory}
use Rattle.mb_tree.specs.Trees.{AreSlots, EachDirectory}
use Rattle.mb_tree.specs.Volume.{last_inode}
use Rattle.mb_tree.specs.declared.trees.Tree.{Tree}
use Rattle.mb_rules.specs.Items.{Item, each_from}
use Rattle.mb_rules.specs.Files.{mode_at, size_at}
use Rattle.mb_rules.specs.Slots.{slot_items, directory_items, slots_items}
use Rattle.mb_rules.proofs.Walks.{AllHold, each_hold, hold_each}
use Rattle.mb_scan_laws.specs.Laws.{SlotsAccept}
use Rattle.mb_scan_laws.specs.Shown.{IsShown}
use Rattle.mb_scan_laws.proofs.ShownDirectories.{shown_nodes, listed, directory_has, directory_test, directory_slots, directory_two, directory_number}
use Rattle.mb_scan_laws.proofs.SlotRules.{KeepsSlots, are_slots, keeps_slots}
use Rattle.mb_scan_laws.proofs.WalkTests.{AreTests, tests_each, walk_is}

module _ (blocks : ℕ → List ℕ) where
  abbrev items_by : ℕ → ℕ → Bool → List Item
  items_by ino n directory = if directory then each_from (slot_items blocks ino) 0 n else []

  tests_by : (ino n : ℕ) (directory : Bool) → AreTests (items_by ino n directory)
  tests_by ino n true = tests_each (slot_items blocks ino) 0 n (λ at. tt)
  tests_by ino n false = tt

  pub slots_tests : AreTests (slots_items blocks)
  slots_tests = tests_each (directory_items blocks) 1 (last_inode blocks) (λ ino. tests_by ino (size_at blocks ino / 16) (is_directory (mode_at blocks ino)))

  hold_keeps : (ino n : ℕ) → AllHold (each_from (slot_items blocks ino) 0 n) → KeepsSlots blocks ino n
  hold_keeps ino n all = record {
    dots = λ at low. (hold_each (slot_items blocks ino) 0 n all at (omega arith) (omega (arith, low))).0;
    leads = λ at low. (hold_each (slot_items blocks ino) 0 n all at (omega arith) (omega (arith, low))).1.0;
    named = λ at low. (hold_each (slot_items blocks ino) 0 n all at (omega arith) (omega (arith, low))).1.1.0;
  }

  keeps_hold : (ino n : ℕ) → KeepsSlots blocks ino n → AllHold (each_from (slot_items blocks ino) 0 n)
  keeps_hold ino n keeps = each_hold (slot_items blocks ino) 0 n (λ at from below. (let low : at < n = omega (arith, below) in (keeps.dots at low, (keeps.leads at low, (keeps.named at low, tt)))))

module _ (image : Image) (tree : Tree) (chain : List ℕ) (shown : IsShown image tree chain) where
  slots_from : AllHold (slots_items image.at) → EachDirectory tree (AreSlots tree.nodes)
  slots_from all ino node slots has body =
      let number = directory_number image tree chain shown ino node slots has body in
      let below = number.1 in
      let n : ℕ = size_at image.at ino / 16 in
      let items = hold_each (directory_items image.at) 1 (last_inode image.at) all ino number.0 (omega (arith, below)) in
      let here : AllHold (each_from (slot_items image.at ino) 0 n) = subst (λ b. AllHold (items_by image.at ino n b)) (directory_test image tree chain shown ino node slots has body) items in
      let keeps = subst (KeepsSlots image.at ino) (directory_slots image tree chain shown ino node slots has body) (hold_keeps image.at ino n here) in
      are_slots image.at tree (shown_nodes image tree chain shown) shown.stored.bytes ino slots (directory_has image tree chain shown ino node slots has body).each
      (directory_two image tree chain shown ino node slots has body) keeps

  module _ (each : EachDirectory tree (AreSlots tree.nodes)) where
    by_test : (ino : ℕ) → ino ≤ last_inode image.at → (directory : Bool) → is_directory (mode_at image.at ino) ≡ directory → AllHold (items_by image.at ino (size_at image.at ino / 16) directory)
    by_test ino low true t =
        let at = listed image tree chain shown ino low t in
        let keeps = keeps_slots image.at tree (shown_nodes image tree chain shown) shown.stored.bytes ino at.slots (directory_has image tree chain shown ino at.node at.slots at.has at.body).each
        (directory_two image tree chain shown ino at.node at.slots at.has at.body) (each ino at.node at.slots at.has at.body) in
        keeps_hold image.at ino (size_at image.at ino / 16) (subst (KeepsSlots image.at ino) (sym (directory_slots image tree chain shown ino at.node at.slots at.has at.body)) keeps)
    by_test ino low false f = tt

    from_slots : AllHold (slots_items image.at)
    from_slots = each_hold (directory_items image.at) 1 (last_inode image.at) (λ ino from below. by_test ino (omega (arith, below)) (is_directory (mode_at image.at ino)) refl)

pub slots_accept : SlotsAccept
slots_accept image tree chain met shown =
    let is = walk_is met (slots_items image.at) (slots_tests image.at) in
    (λ h. slots_from image tree chain shown (is.0 h), λ each. is.1 (from_slots image tree chain shown each))
