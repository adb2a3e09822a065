-- The parts of directories: where they stand, and how many slots they have.
use Rattle.std.proofs.Common.{◌≡◌, ℕ, zero, suc, ◌+◌, ◌*◌, ◌/◌, ◌<◌, ◌≤◌, List, true, nat_lt, cond, Option, Some, None, refl, sym, ap, ◌∙◌, arith}
use Rattle.std.proofs.lemmas.Bool.Decides.{nat_tests}
use Rattle.mb_kinds.specs.Image.{zeros}
use Rattle.std.specs.Prelude.{unwrap_or}
use Rattle.mb_tree.specs.Blocks.{bytes_at, part_address, part_in}
use Rattle.mb_tree.specs.Cost.{most_parts}
use Rattle.mb_check_files.specs.declared.inodes.InodeKept.{InodeKept}
use Rattle.mb_check_files.specs.declared.inodes.InodeTable.{InodeTable}
use Rattle.mb_check.specs.Directories.{IsPartRead, KeepsDirectory, slots_before, slots_in_part}

bytes_real : (blocks : ℕ → List ℕ) (number : ℕ) → 0 < number → bytes_at blocks number ≡ Some (blocks number)
bytes_real blocks zero real = absurd (omega (arith, real))
bytes_real blocks (suc before) real = refl

low_bytes : (blocks : ℕ → List ℕ) (dir part : ℕ) → part < most_parts → part_in blocks dir part ≡ bytes_at blocks (part_address blocks dir part)
unfolding part_in
low_bytes blocks dir part low = (let t : nat_lt part most_parts ≡ true = grind (arith, nat_tests) in ap (λ b. cond b (bytes_at blocks (part_address blocks dir part)) None) t)

module _ (blocks : ℕ → List ℕ) (table : InodeTable) (dir : ℕ) (kept : InodeKept) (keeps : KeepsDirectory blocks table dir kept) where
  low_part : (part : ℕ) → 512 * part < kept.size → part < most_parts
  low_part part less = (let inside = (keeps.inode.parts keeps.directory).inside part less in let few = keeps.few in omega (arith, inside, few))

  pub part_read : (part number : ℕ) (bytes : List ℕ) → 512 * part < kept.size → (0 < number) × (number ≡ part_address blocks dir part) → bytes ≡ blocks number → IsPartRead blocks dir part number bytes
  part_read part number bytes less stands same = record {
    stands = stands.1;
    holds = same ∙ sym (ap (λ (o : Option (List ℕ)). unwrap_or o zeros) (low_bytes blocks dir part (low_part part less) ∙ ap (bytes_at blocks) (sym stands.1) ∙ bytes_real blocks number stands.0));
  }

  -- a size is a number of whole slots
  abbrev slots : ℕ
  slots = kept.size / 16

  pub enough : 2 ≤ slots
  enough = (let some = (keeps.inode.parts keeps.directory).some in omega (arith, some))

  whole_slots : kept.size ≡ 16 * slots
  whole_slots = (let even = (keeps.inode.parts keeps.directory).even in omega (arith, even))

  pub before_is : (part : ℕ) → 512 * part < kept.size → slots_before kept.size part ≡ 32 * part
  before_is part less = (let whole = whole_slots in omega (arith, less, whole))

  pub next_before : (part : ℕ) → 512 * part < kept.size → 32 * part + slots_in_part kept.size part ≡ slots_before kept.size (part + 1)
  next_before part less = (let whole = whole_slots in omega (arith, less, whole))

  pub last_before : (part : ℕ) → (kept.size + 511) / 512 ≤ part → slots_before kept.size part ≡ slots
  last_before part past = omega (arith, past)
