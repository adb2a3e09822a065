-- The walk of one inode, by its tests.
use Rattle.std.proofs.Common.{◌≡◌, ◌⊎◌, inl, inr, ℕ, zero, suc, ◌+◌, ◌-◌, ◌<◌, ◌≤◌, List, [], ◌∷◌, ◌++◌, ◌*◌, ◌%◌, Bool, true, false, ◌&&◌, nat_eq, nat_le, if◌then◌else◌, Result, Ok, Err, refl, sym, ap, subst, ◌∙◌, arith}
use Rattle.mb_word.specs.Fields.{inode_block}
use Rattle.mb_tree.specs.Inodes.{is_directory, is_special}
use Rattle.mb_rules.specs.declared.findings.Finding.{Finding}
use Rattle.mb_rules.specs.Items.{Item, Holds, Held, walked, walked_on}
use Rattle.mb_rules.specs.Files.{mode_at, size_at, is_kind, is_size, are_parts, area_items, inode_items}
use Rattle.mb_rules.proofs.Walks.{both, walk_append}
use Rattle.mb_scan_laws.proofs.ModeTests.{Tests, directory_tests, special_tests}
use Rattle.std.proofs.lemmas.Bool.Decides.{nat_tests}

-- the items of an inode by its tests
abbrev shape : ℕ → List Item → Bool → Bool → Bool → Bool → Bool → Bool → List Item
shape holder area unused kind size special directory parts =
    if unused then []
    else Holds kind holder 5 ∷ Holds size holder 8 ∷ ((if special then [] else area) ++ (if directory then Holds parts holder 8 ∷ [] else []))

module _ (holder : ℕ) (area : List Item) (list : List ℕ) where
  free_shape : (kind size special directory parts : Bool) → walked list (shape holder area true kind size special directory parts) ≡ Ok list
  unfolding walked
  free_shape kind size special directory parts = refl

  kind_shape : (size special directory parts : Bool) → walked list (shape holder area false false size special directory parts) ≡ Err (record { block = holder; rule = 5 })
  unfolding walked
  kind_shape size special directory parts = refl

  size_shape : (special directory parts : Bool) → walked list (shape holder area false true false special directory parts) ≡ Err (record { block = holder; rule = 8 })
  unfolding walked
  size_shape special directory parts = refl

  special_shape : (parts : Bool) → walked list (shape holder area false true true true false parts) ≡ Ok list
  unfolding walked
  special_shape parts = refl

  last_items : Bool → Bool → List Item
  last_items directory parts = if directory then Holds parts holder 8 ∷ [] else []

  area_shape : (directory parts : Bool) → walked list (shape holder area false true true false directory parts) ≡ walked_on (walked list area) (last_items directory parts)
  unfolding walked last_items
  area_shape directory parts = walk_append list area (if directory then Holds parts holder 8 ∷ [] else [])

  stop_shape : (directory parts : Bool) (broken : Finding) → walked list area ≡ Err broken → walked list (shape holder area false true true false directory parts) ≡ Err broken
  stop_shape directory parts broken h = area_shape directory parts ∙ ap (λ r. walked_on r (last_items directory parts)) h

  plain_shape : (parts : Bool) (after : List ℕ) → walked list area ≡ Ok after → walked list (shape holder area false true true false false parts) ≡ Ok after
  unfolding walked last_items
  plain_shape parts after h = area_shape false parts ∙ ap (λ r. walked_on r (last_items false parts)) h

  torn_shape : (after : List ℕ) → walked list area ≡ Ok after → walked list (shape holder area false true true false true false) ≡ Err (record { block = holder; rule = 8 })
  unfolding walked last_items
  torn_shape after h = area_shape true false ∙ ap (λ r. walked_on r (last_items true false)) h

  whole_shape : (after : List ℕ) → walked list area ≡ Ok after → walked list (shape holder area false true true false true true) ≡ Ok after
  unfolding walked last_items
  whole_shape after h = area_shape true true ∙ ap (λ r. walked_on r (last_items true true)) h

module _ (blocks : ℕ → List ℕ) (ino holder mode size : ℕ) (stands : inode_block ino ≡ holder) (has : mode_at blocks ino ≡ mode) (sized : size_at blocks ino ≡ size) (list : List ℕ) where
  abbrev area : List Item
  area = area_items blocks ino

  by_tests : (answer : Result (List ℕ) Finding) (unused kind fits special directory parts : Bool)
      → nat_eq mode 0 ≡ unused → is_kind mode ≡ kind → is_size mode size ≡ fits → is_special mode ≡ special → is_directory mode ≡ directory → are_parts blocks ino ≡ parts
      → walked list (shape holder area unused kind fits special directory parts) ≡ answer → walked list (inode_items blocks ino) ≡ answer
  by_tests answer unused kind fits special directory parts a b c d e f h =
      ap (λ o. walked list (shape o area (nat_eq (mode_at blocks ino) 0) (is_kind (mode_at blocks ino)) (is_size (mode_at blocks ino) (size_at blocks ino)) (is_special (mode_at blocks ino)) (is_directory (mode_at blocks ino)) (are_parts blocks ino))) stands
      ∙ ap (λ m. walked list (shape holder area (nat_eq m 0) (is_kind m) (is_size m (size_at blocks ino)) (is_special m) (is_directory m) (are_parts blocks ino))) has
      ∙ ap (λ z. walked list (shape holder area (nat_eq mode 0) (is_kind mode) (is_size mode z) (is_special mode) (is_directory mode) (are_parts blocks ino))) sized
      ∙ ap (λ t. walked list (shape holder area t (is_kind mode) (is_size mode size) (is_special mode) (is_directory mode) (are_parts blocks ino))) a
      ∙ ap (λ t. walked list (shape holder area unused t (is_size mode size) (is_special mode) (is_directory mode) (are_parts blocks ino))) b
      ∙ ap (λ t. walked list (shape holder area unused kind t (is_special mode) (is_directory mode) (are_parts blocks ino))) c
      ∙ ap (λ t. walked list (shape holder area unused kind fits t (is_directory mode) (are_parts blocks ino))) d
      ∙ ap (λ t. walked list (shape holder area unused kind fits special t (are_parts blocks ino))) e
      ∙ ap (λ t. walked list (shape holder area unused kind fits special directory t)) f
      ∙ h

  pub free_walks : nat_eq mode 0 ≡ true → walked list (inode_items blocks ino) ≡ Ok list
  free_walks a = by_tests (Ok list) true (is_kind mode) (is_size mode size) (is_special mode) (is_directory mode) (are_parts blocks ino) a refl refl refl refl refl
      (free_shape holder area list (is_kind mode) (is_size mode size) (is_special mode) (is_directory mode) (are_parts blocks ino))

  pub kind_stops : nat_eq mode 0 ≡ false → is_kind mode ≡ false → walked list (inode_items blocks ino) ≡ Err (record { block = holder; rule = 5 })
  kind_stops a b = by_tests (Err (record { block = holder; rule = 5 })) false false _ _ _ _ a b refl refl refl refl (kind_shape holder area list _ _ _ _)

  module _ (used : nat_eq mode 0 ≡ false) (kind : is_kind mode ≡ true) where
    pub size_stops : is_size mode size ≡ false → walked list (inode_items blocks ino) ≡ Err (record { block = holder; rule = 8 })
    size_stops c = by_tests (Err (record { block = holder; rule = 8 })) false true false _ _ _ used kind c refl refl refl (size_shape holder area list _ _ _)

    module _ (fits : is_size mode size ≡ true) where
      pub special_walks : is_special mode ≡ true → is_directory mode ≡ false → walked list (inode_items blocks ino) ≡ Ok list
      special_walks d e = by_tests (Ok list) false true true true false (are_parts blocks ino) used kind fits d e refl (special_shape holder area list (are_parts blocks ino))

      module _ (special : is_special mode ≡ false) where
        pub area_stops : (broken : Finding) → walked list (area_items blocks ino) ≡ Err broken → walked list (inode_items blocks ino) ≡ Err broken
        area_stops broken h = by_tests (Err broken) false true true false _ _ used kind fits special refl refl (stop_shape holder area list _ _ broken h)

        pub plain_walks : (after : List ℕ) → walked list (area_items blocks ino) ≡ Ok after → is_directory mode ≡ false → walked list (inode_items blocks ino) ≡ Ok after
        plain_walks after h e = by_tests (Ok after) false true true false false (are_parts blocks ino) used kind fits special e refl (plain_shape holder area list (are_parts blocks ino) after h)

        pub torn_stops : (after : List ℕ) → walked list (area_items blocks ino) ≡ Ok after → is_directory mode ≡ true → are_parts blocks ino ≡ false → walked list (inode_items blocks ino) ≡ Err (record { block = holder; rule = 8 })
        torn_stops after h e f = by_tests (Err (record { block = holder; rule = 8 })) false true true false true false used kind fits special e f (torn_shape holder area list after h)

        pub whole_walks : (after : List ℕ) → walked list (area_items blocks ino) ≡ Ok after → is_directory mode ≡ true → are_parts blocks ino ≡ true → walked list (inode_items blocks ino) ≡ Ok after
        whole_walks after h e f = by_tests (Ok after) false true true false true true used kind fits special e f (whole_shape holder area list after h)

-- a directory's size is in its range
pub directory_size : (mode size : ℕ) → is_directory mode ≡ true → is_size mode size ≡ true → (32 ≤ size) × (size % 16 ≡ 0)
directory_size mode size d fits =
    let tests = directory_tests mode d in
    let two : (nat_le 32 size && nat_eq (size % 16) 0) ≡ true =
    sym (ap (λ b. if b then nat_le size 1082201088 else if is_directory mode then nat_le 32 size && nat_eq (size % 16) 0 else true) tests.regular_is
    ∙ ap (λ b. if b then nat_le 32 size && nat_eq (size % 16) 0 else true) d) ∙ fits in
    let parts = both (nat_le 32 size) (nat_eq (size % 16) 0) two in
    ((let t = parts.0 in grind (arith, nat_tests)), (let t = parts.1 in grind (arith, nat_tests)))

pub not_zero_test : (n : ℕ) → (n ≡ 0 → ⊥) → nat_eq n 0 ≡ false
not_zero_test n some = grind (arith, nat_tests)

pub zero_test : (n : ℕ) → n ≡ 0 → nat_eq n 0 ≡ true
zero_test n e = grind (arith, nat_tests)
