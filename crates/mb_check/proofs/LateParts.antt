-- The parts of the scan in a row.
use Rattle.std.proofs.Common.{◌≡◌, ℕ, ◌/◌, ◌≤◌, List, [], ◌∷◌, ◌++◌, Bool, true, false, not, ◌&&◌, ◌||◌, nat_eq, nat_le, slice_index_or, length, Result, Ok, Err, refl, sym, ap, subst, ◌∙◌, arith, append_assoc}
use Rattle.std.proofs.lemmas.Bool.Decides.{nat_tests}
use Rattle.std.proofs.lemmas.Option.{slice_get-get_or}
use Rattle.mb_kinds.specs.Image.{Image}
use Rattle.mb_tree.specs.Blocks.{slot_in}
use Rattle.mb_tree.specs.Inodes.{is_directory}
use Rattle.mb_tree.specs.Lookup.{is_used}
use Rattle.mb_tree.specs.Volume.{last_inode}
use Rattle.mb_rules.specs.declared.findings.Finding.{Finding}
use Rattle.mb_rules.specs.Items.{Item, Holds, each_from, walked, walked_on}
use Rattle.mb_rules.specs.SuperBlock.{super_block_items}
use Rattle.mb_rules.specs.FreeChain.{chain_items}
use Rattle.mb_rules.specs.Files.{files_items, mode_at, root_items, size_at}
use Rattle.mb_rules.specs.Parents.{parents_items}
use Rattle.mb_rules.specs.Scan.{scan_items}
use Rattle.mb_rules.specs.Slots.{directory_items, leads_there, slot_items, slots_items}
use Rattle.mb_rules.proofs.Walks.{AllHold, both, hold_each, walk_append, walk_holds}
use Rattle.mb_scan_laws.specs.Laws.{first_items}
use Rattle.mb_scan_laws.proofs.Storing.{stores}
use Rattle.mb_check_files.specs.Findings.{Finds}
use Rattle.mb_check_files.specs.InodeTables.{KeepsInode, KeepsInodes}
use Rattle.mb_check_files.specs.Surveyed.{TellsFiles}
use Rattle.mb_check_files.specs.declared.inodes.InodeKept.{InodeKept}
use Rattle.mb_check_files.specs.declared.inodes.InodeTable.{InodeTable}
use Rattle.mb_check_files.specs.declared.stops.Stop.{Stop}
use Rattle.mb_check_files.specs.declared.stops.Stop.TheVariants.{Broken, Device, NoMemory}
use Rattle.mb_check_files.specs.declared.surveys.VolumeFiles.{VolumeFiles}
use Rattle.mb_check.specs.Directories.{KeepsAll}
use Rattle.mb_check.specs.ParentTests.{LeadUp}
use Rattle.mb_check.specs.SlotTests.{IsBroken, Tests}
use Rattle.mb_check.specs.Whole.{late_items}
use Rattle.mb_check.proofs.WholeDirectories.{whole_items}

-- ---- the root

module _ (blocks : ℕ → List ℕ) (met : List ℕ) where
  root_by : (directory : Bool) → is_directory (mode_at blocks 2) ≡ directory → root_items blocks ≡ Holds directory 2 9 ∷ []
  root_by directory e = ap (λ b. Holds b 2 9 ∷ []) e

  pub root_passes : is_directory (mode_at blocks 2) ≡ true → walked met (root_items blocks) ≡ Ok met
  unfolding walked
  root_passes e = ap (walked met) (root_by true e)

  pub root_fails : is_directory (mode_at blocks 2) ≡ false → walked met (root_items blocks) ≡ Err (record { block = 2; rule = 9 })
  unfolding walked
  root_fails e = ap (walked met) (root_by false e)

  -- ---- the three last parts

  pub root_stops : (broken : Finding) → walked met (root_items blocks) ≡ Err broken → walked met (late_items blocks) ≡ Err broken
  root_stops broken h = walk_append met (root_items blocks) (slots_items blocks ++ parents_items blocks) ∙ ap (λ r. walked_on r (slots_items blocks ++ parents_items blocks)) h

  module _ (root : walked met (root_items blocks) ≡ Ok met) where
    after_root : walked met (late_items blocks) ≡ walked met (slots_items blocks ++ parents_items blocks)
    after_root = walk_append met (root_items blocks) (slots_items blocks ++ parents_items blocks) ∙ ap (λ r. walked_on r (slots_items blocks ++ parents_items blocks)) root

    pub slots_stop : (broken : Finding) → walked met (slots_items blocks) ≡ Err broken → walked met (late_items blocks) ≡ Err broken
    slots_stop broken h = after_root ∙ walk_append met (slots_items blocks) (parents_items blocks) ∙ ap (λ r. walked_on r (parents_items blocks)) h

    pub late_ends : (answer : Result (List ℕ) Finding) → walked met (slots_items blocks) ≡ Ok met → walked met (parents_items blocks) ≡ answer → walked met (late_items blocks) ≡ answer
    late_ends answer h k = after_root ∙ walk_append met (slots_items blocks) (parents_items blocks) ∙ ap (λ r. walked_on r (parents_items blocks)) h ∙ k

pub unbroken_tests : (stop : Stop) (met : List ℕ) (items : List Item) → (IsBroken {T = Unit {0}} (Err stop) → ⊥) → Tests (Err stop) met items
unbroken_tests (Broken broken) met items none = absurd (none tt)
unbroken_tests Device met items none = tt
unbroken_tests NoMemory met items none = tt

-- ---- each `..` leads to an inode

or_false : (a b : Bool) → a ≡ true → (not a || b) ≡ true → b ≡ true
or_false true b e h = h
or_false false b e h = absurd (cc)

used_leads : (blocks : ℕ → List ℕ) (dir at : ℕ) → is_used (slot_in blocks dir at) ≡ true → leads_there blocks (slot_in blocks dir at) ≡ true → (slot_in blocks dir at).ino ≤ last_inode blocks
used_leads blocks dir at used leads =
    let rest = or_false (is_used (slot_in blocks dir at)) _ used leads in
    let two = both (not (nat_eq (slot_in blocks dir at).ino 1) && nat_le (slot_in blocks dir at).ino (last_inode blocks)) _ rest in
    let low = (both (not (nat_eq (slot_in blocks dir at).ino 1)) _ two.0).1 in
    grind (arith, nat_tests)

module _ (blocks : ℕ → List ℕ) (table : InodeTable) (keeps : KeepsAll blocks table) where
  kept_inode : (ino : ℕ) → 1 ≤ ino → ino ≤ last_inode blocks → (kept : InodeKept) × KeepsInode blocks table.parts.addresses.items ino kept
  kept_inode ino from low =
      let none : InodeKept = record { mode = 0; nlink = 0; size = 0; first = 0 } in
      let count = keeps.inodes.count in
      let has = slice_get-get_or table.inodes.items ino none (omega (arith, low, count)) in
      (slice_index_or table.inodes.items ino none, keeps.inodes.each ino (slice_index_or table.inodes.items ino none) from low has)

  pub leads_up : (met : List ℕ) → walked met (slots_items blocks) ≡ Ok met → LeadUp blocks
  leads_up met walk dir from low is =
      let all = (walk_holds met (slots_items blocks) met walk).0 in
      let here : AllHold (directory_items blocks dir) = hold_each (directory_items blocks) 1 (last_inode blocks) all dir from (omega (arith, low)) in
      let slots : AllHold (each_from (slot_items blocks dir) 0 (size_at blocks dir / 16)) = subst AllHold (sym (whole_items blocks dir (size_at blocks dir / 16) is refl)) here in
      let kept = kept_inode dir from low in
      let some = (kept.1.parts (ap is_directory kept.1.mode ∙ is)).some in
      let size = kept.1.size in
      let one : AllHold (slot_items blocks dir 1) = hold_each (slot_items blocks dir) 0 (size_at blocks dir / 16) slots 1 (omega arith) (omega (arith, some, size)) in
      used_leads blocks dir 1 (both _ (is_used (slot_in blocks dir 1)) one.0).1 one.1.0

-- ---- all six parts

module _ (image : Image) where
  parts : scan_items image ≡ first_items image ++ late_items image.at
  parts =
      ap (λ xs. super_block_items image ++ xs) (sym (append_assoc (chain_items image.at) (files_items image.at) (late_items image.at)))
      ∙ sym (append_assoc (super_block_items image) (chain_items image.at ++ files_items image.at) (late_items image.at))

  pub first_ends : (broken : Finding) → walked [] (first_items image) ≡ Err broken → walked [] (scan_items image) ≡ Err broken
  first_ends broken h = ap (walked []) parts ∙ walk_append [] (first_items image) (late_items image.at) ∙ ap (λ r. walked_on r (late_items image.at)) h

  pub then_late : (met : List ℕ) (answer : Result (List ℕ) Finding) → walked [] (first_items image) ≡ Ok met → walked met (late_items image.at) ≡ answer → walked [] (scan_items image) ≡ answer
  then_late met answer h k = ap (walked []) parts ∙ walk_append [] (first_items image) (late_items image.at) ∙ ap (λ r. walked_on r (late_items image.at)) h ∙ k

  pub keeps_files : (files : VolumeFiles) → TellsFiles image files → KeepsAll image.at files.table
  keeps_files files tells = record { inodes = subst (KeepsInodes image.at files.table) tells.last tells.table; few = tells.few }

  pub enough_inodes : (met : List ℕ) → ((block : ℕ) → length (image.at block) ≡ 512) → walked [] (first_items image) ≡ Ok met → 2 ≤ last_inode image.at
  enough_inodes met whole h = (let some = (stores image met whole h).stored.sizes.some_inodes in omega (arith, some))

pub late_finds : {T : Type 0} (image : Image) (met : List ℕ) (stop : Stop) (r : Result T Stop) → r ≡ Err stop → walked [] (first_items image) ≡ Ok met → Tests (Err stop) met (late_items image.at) → Finds r [] (scan_items image)
late_finds {T} image met (Broken broken) r is first h = subst (λ (x : Result T Stop). Finds x [] (scan_items image)) (sym is) (then_late image met (Err broken) first h)
late_finds {T} image met Device r is first h = subst (λ (x : Result T Stop). Finds x [] (scan_items image)) (sym is) tt
late_finds {T} image met NoMemory r is first h = subst (λ (x : Result T Stop). Finds x [] (scan_items image)) (sym is) tt
