-- All slots of a directory were counted: the counts before the next one.
use Rattle.std.proofs.Common.{if◌then◌else◌, ◌≡◌, inl, inr, ℕ, zero, suc, ◌+◌, ◌*◌, ◌/◌, ◌<◌, ◌≤◌, List, [], ◌∷◌, ◌++◌, Bool, true, false, ◌&&◌, nat_le, min, map, Result, Ok, Err, length, count_by, drop, refl, sym, ap, subst, ◌∙◌, arith}
use Rattle.std.specs.List.{range_with_len}
use Rattle.std.proofs.Math.Seq.{drop-nil}
use Rattle.std.proofs.lemmas.Bool.{cases_lt}
use Rattle.std.proofs.lemmas.Bool.Decides.{nat_tests}
use Rattle.std.proofs.lemmas.List.FromFn.{map-range_with_len_more, length-map-range_with_len}
use Rattle.mb_tree.specs.Blocks.{slot_in}
use Rattle.mb_tree.specs.Counting.{sum_below, first_from}
use Rattle.mb_tree.specs.Inodes.{is_directory}
use Rattle.mb_tree.specs.Trees.{leads_to}
use Rattle.mb_tree.specs.declared.nodes.PlainSlot.{PlainSlot}
use Rattle.mb_tree.proofs.SlotLists.{count_push}
use Rattle.mb_rules.specs.Files.{mode_at, size_at}
use Rattle.mb_rules.specs.declared.findings.Finding.{Finding}
use Rattle.mb_rules.specs.Items.{Item, each_from, walked}
use Rattle.mb_rules.specs.Parents.{late_from}
use Rattle.mb_rules.specs.Slots.{directory_items, slot_items, slots_at}
use Rattle.mb_scan_laws.proofs.ShownTrees.{slots_by}
use Rattle.mb_check.specs.declared.names.NameSet.{NameSet}
use Rattle.mb_check.specs.declared.tallies.Tally.{Tally}
use Rattle.mb_check.specs.declared.tallies.SlotCounts.{SlotCounts}
use Rattle.mb_check.specs.NameSets.{has_name}
use Rattle.mb_check.specs.SlotTests.{KnowsNames}
use Rattle.mb_check.specs.Tallies.{one_if, slots_to, slots_so_far, HoldsLate, before, itself, KeepsCounts, KeepsTally, IsPassed, below, within}
use Rattle.mb_check_files.specs.InodeTables.{KeepsInode}
use Rattle.mb_check_files.specs.declared.inodes.InodeKept.{InodeKept}
use Rattle.mb_check_files.specs.declared.inodes.InodeTable.{InodeTable}
use Rattle.mb_check_files.proofs.Eachs.{each_early, each_join}
use Rattle.mb_check.specs.Directories.{KeepsAll, KeepsDirectory, slots_before, slots_in_part}
use Rattle.mb_check.proofs.PartReads.{before_is, enough, last_before, next_before}
use Rattle.mb_check.proofs.Tallying.{late_same, to_step}

-- one element more of those after the first skip
drop_push : (p : PlainSlot → Bool) (skip : ℕ) (xs : List PlainSlot) (y : PlainSlot) → count_by p (drop skip (xs ++ y ∷ [])) ≡ count_by p (drop skip xs) + one_if (nat_le skip (length xs) && p y)
drop_push p zero xs y = (let e = count_push p xs y in let t : nat_le 0 (length xs) ≡ true = grind (arith, nat_tests) in let z : one_if (nat_le 0 (length xs) && p y) ≡ one_if (p y) = ap (λ b. one_if (b && p y)) t in omega (arith, e, z))
drop_push p (suc skip) [] y = (let e : count_by p (drop skip []) ≡ 0 = ap (count_by p) (drop-nil skip) in let t : nat_le (suc skip) 0 ≡ false = grind (arith, nat_tests) in let z : one_if (nat_le (suc skip) 0 && p y) ≡ 0 = ap (λ b. one_if (b && p y)) t in omega (arith, e, z))
drop_push p (suc skip) (x ∷ xs) y =
    let rest = drop_push p skip xs y in
    let t : nat_le (suc skip) (suc (length xs)) ≡ nat_le skip (length xs) = grind (arith, nat_tests) in
    let z : one_if (nat_le (suc skip) (suc (length xs)) && p y) ≡ one_if (nat_le skip (length xs) && p y) = ap (λ b. one_if (b && p y)) t in
    omega (arith, rest, z)

module _ (blocks : ℕ → List ℕ) (dir : ℕ) where
  abbrev row : ℕ → List PlainSlot
  row n = map (slot_in blocks dir) (range_with_len 0 n)

  counted_none : (skip ino : ℕ) → count_by (leads_to ino) (drop skip (row 0)) ≡ 0
  counted_none skip ino = ap (count_by (leads_to ino)) (drop-nil skip)

  no_slots : (skip ino : ℕ) → slots_to skip blocks ino dir 0 ≡ 0
  unfolding sum_below
  no_slots skip ino = refl

  pub counted_row : (skip ino n : ℕ) → slots_to skip blocks ino dir n ≡ count_by (leads_to ino) (drop skip (row n))
  counted_row skip ino zero = no_slots skip ino ∙ sym (counted_none skip ino)
  counted_row skip ino (suc n) =
      let e : n + 1 ≡ suc n = omega arith in
      let step = to_step blocks dir n skip ino in
      let rest = counted_row skip ino n in
      let more : row (n + 1) ≡ row n ++ slot_in blocks dir n ∷ [] = map-range_with_len_more (slot_in blocks dir) 0 n n (omega arith) in
      let push = drop_push (leads_to ino) skip (row n) (slot_in blocks dir n) in
      let long : length (row n) ≡ n = length-map-range_with_len (slot_in blocks dir) 0 n in
      let here : one_if (nat_le skip (length (row n)) && leads_to ino (slot_in blocks dir n)) ≡ one_if (nat_le skip n && leads_to ino (slot_in blocks dir n)) = ap (λ k. one_if (nat_le skip k && leads_to ino (slot_in blocks dir n))) long in
      let one : slots_to skip blocks ino dir (suc n) ≡ slots_to skip blocks ino dir (n + 1) = ap (slots_to skip blocks ino dir) (sym e) in
      let two : count_by (leads_to ino) (drop skip (row (suc n))) ≡ count_by (leads_to ino) (drop skip (row n ++ slot_in blocks dir n ∷ [])) = ap (λ k. count_by (leads_to ino) (drop skip (row k))) (sym e) ∙ ap (λ xs. count_by (leads_to ino) (drop skip xs)) more in
      omega (arith, step, rest, push, here, one, two)

  -- the directory of which n slots were counted has no more of them
  module _ (n : ℕ) (all : (skip ino : ℕ) → slots_to skip blocks ino dir n ≡ count_by (leads_to ino) (drop skip (slots_at blocks dir))) where
    next_far : (skip ino : ℕ) → slots_so_far skip blocks ino dir n ≡ slots_so_far skip blocks ino (dir + 1) 0
    unfolding sum_below
    next_far skip ino =
        let f : ℕ → ℕ = λ d. count_by (leads_to ino) (drop skip (slots_at blocks d)) in
        let here = all skip ino in
        let e : dir + 1 ≡ suc dir = omega arith in
        let more : sum_below f (dir + 1) ≡ f dir + sum_below f dir = ap (sum_below f) e in
        omega (arith, here, more)

    holds_next : (ino holder : ℕ) → HoldsLate blocks ino dir n holder → HoldsLate blocks ino (dir + 1) 0 holder
    holds_next ino holder (before low some) = before (omega (arith, low)) some
    holds_next ino holder (itself is some) = before (omega (arith, is)) (subst (λ d. 0 < late_from blocks ino d) (sym is) (subst (λ k. 0 < k) (all 2 ino) some))

    tally_next : (ino : ℕ) (tally : Tally) → KeepsTally blocks dir n ino tally → KeepsTally blocks (dir + 1) 0 ino tally
    tally_next ino tally keeps = record {
      all = keeps.all ∙ ap (λ k. min k 65535) (next_far 0 ino);
      late = late_same tally.late _ _ (HoldsLate blocks ino dir n) (HoldsLate blocks ino (dir + 1) 0) (next_far 2 ino) (holds_next ino) keeps.late;
    }

    passed_next : (d : ℕ) → (is_directory (mode_at blocks dir) ≡ true → 2 ≤ n) → is_directory (mode_at blocks d) ≡ true → IsPassed (dir + 1) 0 d → IsPassed dir n d
    passed_next d enough directory (within is two) = absurd (omega (arith, two))
    passed_next d enough directory (below low) = elim (cases_lt d dir) [
      | inl less ↦ below less
      | inr past ↦ (let is : d ≡ dir = omega (arith, low, past) in within is (enough (subst (λ k. is_directory (mode_at blocks k) ≡ true) is directory)))
    ]

    pub counts_next : (counts : SlotCounts) → (is_directory (mode_at blocks dir) ≡ true → 2 ≤ n) → KeepsCounts blocks dir n counts → KeepsCounts blocks (dir + 1) 0 counts
    counts_next counts enough keeps = record {
      tallies = λ ino tally has. tally_next ino tally (keeps.tallies ino tally has);
      parents = λ d up passed directory has. keeps.parents d up (passed_next d enough directory passed) directory has;
      sized = keeps.sized;
      aligned = keeps.aligned;
    }

  -- an inode that is no directory has none
  other_slots : is_directory (mode_at blocks dir) ≡ false → (skip ino : ℕ) → slots_to skip blocks ino dir 0 ≡ count_by (leads_to ino) (drop skip (slots_at blocks dir))
  other_slots off skip ino = no_slots skip ino ∙ sym (ap (λ slots. count_by (leads_to ino) (drop skip slots)) (slots_by blocks dir false off) ∙ ap (count_by (leads_to ino)) (drop-nil skip))

  pub other_next : (counts : SlotCounts) → is_directory (mode_at blocks dir) ≡ false → KeepsCounts blocks dir 0 counts → KeepsCounts blocks (dir + 1) 0 counts
  other_next counts off keeps = counts_next 0 (other_slots off) counts (λ is. absurd (cc)) keeps

  -- and a directory those below its size
  pub whole_next : (counts : SlotCounts) (n : ℕ) → is_directory (mode_at blocks dir) ≡ true → n ≡ size_at blocks dir / 16 → 2 ≤ n → KeepsCounts blocks dir n counts → KeepsCounts blocks (dir + 1) 0 counts
  whole_next counts n is sized enough keeps =
      counts_next n (λ skip ino. counted_row skip ino n ∙ ap (λ k. count_by (leads_to ino) (drop skip (row k))) sized ∙ sym (ap (λ slots. count_by (leads_to ino) (drop skip slots)) (slots_by blocks dir true is))) counts (λ e. enough) keeps

  -- the walks of both
  items_by : (directory : Bool) → is_directory (mode_at blocks dir) ≡ directory → directory_items blocks dir ≡ (if directory then each_from (slot_items blocks dir) 0 (size_at blocks dir / 16) else [])
  items_by directory e = ap (λ b. if b then each_from (slot_items blocks dir) 0 (size_at blocks dir / 16) else []) e

  pub other_walks : (met : List ℕ) → is_directory (mode_at blocks dir) ≡ false → walked met (directory_items blocks dir) ≡ Ok met
  unfolding walked
  other_walks met off = ap (walked met) (items_by false off)

  pub whole_items : (n : ℕ) → is_directory (mode_at blocks dir) ≡ true → n ≡ size_at blocks dir / 16 → each_from (slot_items blocks dir) 0 n ≡ directory_items blocks dir
  whole_items n is sized = ap (each_from (slot_items blocks dir) 0) sized ∙ sym (items_by true is)

  pub knows_none : (names : NameSet) → ((name : List ℕ) → has_name names name ≡ false) → KnowsNames blocks dir 0 names
  unfolding first_from
  knows_none names none name = none name

module _ (blocks : ℕ → List ℕ) (table : InodeTable) (dir : ℕ) (kept : InodeKept) (keeps : KeepsDirectory blocks table dir kept) where
  abbrev items : ℕ → List Item
  items = slot_items blocks dir

  is_one : is_directory (mode_at blocks dir) ≡ true
  is_one = ap is_directory (sym keeps.inode.mode) ∙ keeps.directory

  slots_of : kept.size / 16 ≡ size_at blocks dir / 16
  slots_of = ap (λ n. n / 16) keeps.inode.size

  module _ (met : List ℕ) (part : ℕ) where
    module _ (less : 512 * part < kept.size) (so_far : walked met (each_from items 0 (slots_before kept.size part)) ≡ Ok met) where
      part_then : (answer : Result (List ℕ) Finding) → walked met (each_from items (32 * part) (slots_in_part kept.size part)) ≡ answer → walked met (each_from items 0 (slots_before kept.size (part + 1))) ≡ answer
      part_then answer h =
          let here : slots_before kept.size part ≡ 32 * part = before_is blocks table dir kept keeps part less in
          let next : slots_before kept.size part + slots_in_part kept.size part ≡ slots_before kept.size (part + 1) = ap (λ n. n + slots_in_part kept.size part) here ∙ next_before blocks table dir kept keeps part less in
          ap (λ n. walked met (each_from items 0 n)) (sym next)
          ∙ each_join items met met answer 0 (slots_before kept.size part) (32 * part) (slots_in_part kept.size part) (omega (arith, here)) so_far h

      pub part_stops : (broken : Finding) → walked met (each_from items (32 * part) (slots_in_part kept.size part)) ≡ Err broken → walked met (directory_items blocks dir) ≡ Err broken
      part_stops broken h =
          ap (walked met) (sym (whole_items blocks dir (kept.size / 16) is_one slots_of))
          ∙ each_early items met broken 0 (slots_before kept.size (part + 1)) (kept.size / 16) (omega arith) (part_then (Err broken) h)

      pub part_passes : walked met (each_from items (32 * part) (slots_in_part kept.size part)) ≡ Ok met → walked met (each_from items 0 (slots_before kept.size (part + 1))) ≡ Ok met
      part_passes h = part_then (Ok met) h

    pub parts_pass : (kept.size + 511) / 512 ≤ part → walked met (each_from items 0 (slots_before kept.size part)) ≡ Ok met → walked met (directory_items blocks dir) ≡ Ok met
    parts_pass past h = ap (walked met) (sym (whole_items blocks dir (kept.size / 16) is_one slots_of)) ∙ ap (λ n. walked met (each_from items 0 n)) (sym (last_before blocks table dir kept keeps part past)) ∙ h

  pub parts_counted : (counts : SlotCounts) (part : ℕ) → (kept.size + 511) / 512 ≤ part → KeepsCounts blocks dir (slots_before kept.size part) counts → KeepsCounts blocks (dir + 1) 0 counts
  parts_counted counts part past keeps_them =
      whole_next blocks dir counts (kept.size / 16) is_one slots_of (enough blocks table dir kept keeps) (subst (λ n. KeepsCounts blocks dir n counts) (last_before blocks table dir kept keeps part past) keeps_them)

pub keeps_directory : (blocks : ℕ → List ℕ) (table : InodeTable) (dir : ℕ) (kept : InodeKept) → KeepsAll blocks table → KeepsInode blocks table.parts.addresses.items dir kept → is_directory kept.mode ≡ true → KeepsDirectory blocks table dir kept
keeps_directory blocks table dir kept keeps inode is = record { inode = inode; directory = is; few = keeps.few }
