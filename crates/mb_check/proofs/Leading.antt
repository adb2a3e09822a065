-- A slot that leads to an inode of the table.
use Rattle.std.proofs.Common.{◌≡◌, ℕ, ◌≤◌, ◌<◌, List, true, false, not, ◌||◌, ◌&&◌, nat_eq, nat_le, length, Some, slice_get, slice_index_or, sym, ap, ◌∙◌, arith}
use Rattle.std.proofs.lemmas.Bool.Decides.{nat_tests}
use Rattle.std.proofs.lemmas.Option.{slice_get-get_or, slice_get_within}
use Rattle.mb_tree.specs.Lookup.{is_used}
use Rattle.mb_tree.specs.Volume.{last_inode}
use Rattle.mb_tree.specs.declared.nodes.PlainSlot.{PlainSlot}
use Rattle.mb_rules.specs.Files.{mode_at}
use Rattle.mb_rules.specs.Slots.{leads_there}
use Rattle.mb_check_files.specs.InodeTables.{KeepsInodes}
use Rattle.mb_check_files.specs.declared.inodes.InodeKept.{InodeKept}
use Rattle.mb_check_files.specs.declared.inodes.InodeTable.{InodeTable}

pub leads_some : (blocks : ℕ → List ℕ) (table : InodeTable) (slot : PlainSlot) (kept : InodeKept) → KeepsInodes blocks table (last_inode blocks) → is_used slot ≡ true → (slot.ino ≡ 1 → ⊥)
    → slice_get table.inodes.items slot.ino ≡ Some kept → not (nat_eq kept.mode 0) ≡ leads_there blocks slot
leads_some blocks table slot kept keeps used other found =
    let inside = slice_get_within table.inodes.items slot.ino kept found in
    let count = keeps.count in
    let low : slot.ino ≤ last_inode blocks = omega (arith, inside, count) in
    let some : 1 ≤ slot.ino = (let z : nat_eq slot.ino 0 ≡ false = (let u = used in grind (arith, nat_tests)) in grind (arith, nat_tests)) in
    let mode = (keeps.each slot.ino kept some low found).mode in
    let two : nat_eq slot.ino 1 ≡ false = grind (arith, nat_tests) in
    let three : nat_le slot.ino (last_inode blocks) ≡ true = grind (arith, nat_tests) in
    ap (λ m. not (nat_eq m 0)) mode ∙ sym (
    ap (λ b. not b || not (nat_eq slot.ino 1) && nat_le slot.ino (last_inode blocks) && not (nat_eq (mode_at blocks slot.ino) 0)) used
    ∙ ap (λ b. not b && nat_le slot.ino (last_inode blocks) && not (nat_eq (mode_at blocks slot.ino) 0)) two
    ∙ ap (λ b. b && not (nat_eq (mode_at blocks slot.ino) 0)) three)

pub found_at : {X : Type 0} (items seen : List X) (k ino : ℕ) (x : X) → seen ≡ items → k ≡ ino → k < length seen → x ≡ slice_index_or seen k x → slice_get items ino ≡ Some x
found_at {X} items seen k ino x same here inside is =
    ap (λ (xs : List X). slice_get xs ino) (sym same) ∙ ap (slice_get seen) (sym here) ∙ slice_get-get_or seen k x inside ∙ ap (λ (y : X). Some y) (sym is)
