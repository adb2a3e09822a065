-- A directory gone through part by part.
use Rattle.std.proofs.Common.{ℕ, ◌≡◌, inl, inr, ◌⊎◌, ◌+◌, ◌-◌, ◌*◌, ◌/◌, ◌<◌, ◌≤◌, min, List, length, map, Option, Some, None, sym, ap, subst, ◌∙◌, arith}
use Rattle.std.specs.Prelude.{count_by, position}
use Rattle.std.specs.List.{range_with_len}
use Rattle.std.proofs.lemmas.Bool.{cases_lt}
use Rattle.mb_tree.specs.Blocks.{part_address, part_in, slot_of, slot_in}
use Rattle.mb_tree.specs.Lookup.{is_used, is_named, number_of}
use Rattle.mb_tree.specs.Views.{over}
use Rattle.mb_tree.specs.declared.nodes.PlainSlot.{PlainSlot}
use Rattle.mb_kinds.specs.Changed.{ChangeList, changed}
use Rattle.mb_bmap.specs.Locating.{OnWay}
use Rattle.mb_bmap.specs.Ways.{route_of}
use Rattle.mb_namei.specs.Directories.{IsDirectoryOn}
use Rattle.mb_namei.specs.PartSearches.{slots_before, IsPassedBy}
use Rattle.mb_namei.specs.Searching.{OnDirectory, is_empty}
use Rattle.mb_namei.specs.Slots.{AreUnnamed, IsFirstEmpty, IsFirstNamed, used_below}
use Rattle.mb_namei.proofs.SlotRows.{named_at, named_none, empty_at, empty_none, part_named, empty_here, empty_before, part_used, row_used}

-- what holds of a part of a file on the way to it, holds in a directory
pub of_part : (shown : ℕ → Option (List ℕ)) (changes : ChangeList) (dir part : ℕ) (says : (ℕ → List ℕ) → Type 0) → part < 2113674 → OnWay shown changes dir (route_of part) says
    → (size : ℕ) → OnDirectory shown changes dir size (λ blocks slots. says blocks)
of_part shown changes dir part says low on size blocks slots is_part is = on blocks is_part (is.bounded part low)

-- a part of a directory's slots is no hole
pub no_hole : (shown : ℕ → Option (List ℕ)) (changes : ChangeList) (dir part count : ℕ) → part < 2113674 → 32 * part < count → OnWay shown changes dir (route_of part) (λ blocks. part_address blocks dir part ≡ 0)
    → (size : ℕ) → count ≡ size / 16 → OnDirectory shown changes dir size (λ blocks slots. ⊥)
no_hole shown changes dir part count low some hole size is_count blocks slots is_part is =
    (let none = hole blocks is_part (is.bounded part low) in
    let s = is.sized in
    let held = (is.held part (omega (arith, some, is_count, s))).1 in
    omega (arith, none, held))

module _ (shown : ℕ → Option (List ℕ)) (changes : ChangeList) (dir part count here : ℕ) (bytes : List ℕ) (low : part < 2113674) (some : 32 * part < count) (is_here : here ≡ min (count - 32 * part) 32)
    (fetched : OnWay shown changes dir (route_of part) (λ blocks. part_in blocks dir part ≡ Some bytes)) where
  pub seek_named : (empty place ino : ℕ) (name : List ℕ) → IsFirstNamed (slot_of bytes) name here place ino
      → (size : ℕ) → OnDirectory shown changes dir size (λ blocks slots. IsPassedBy blocks dir part count empty name → IsFirstNamed (slot_in blocks dir) name count (32 * part + place) ino)
  seek_named empty place ino name first size blocks slots is_part is passed =
      part_named (over blocks (changed changes)) dir part count empty here name bytes is_here some (fetched blocks is_part (is.bounded part low)) passed place ino first

  pub seek_empty : (empty place : ℕ) (name : List ℕ) → AreUnnamed (slot_of bytes) name here × IsFirstEmpty (slot_of bytes) here here place → place < here → 32 * part + place < empty
      → (size : ℕ) → OnDirectory shown changes dir size (λ blocks slots. IsPassedBy blocks dir part count empty name → IsPassedBy blocks dir (part + 1) count (32 * part + place) name)
  seek_empty empty place name seen within sooner size blocks slots is_part is passed =
      empty_here (over blocks (changed changes)) dir part count empty here name bytes is_here some (fetched blocks is_part (is.bounded part low)) passed place seen.0 seen.1 within sooner

  pub seek_other : (empty place : ℕ) (name : List ℕ) → AreUnnamed (slot_of bytes) name here × IsFirstEmpty (slot_of bytes) here here place → (here ≤ place) ⊎ (empty ≤ 32 * part + place)
      → (size : ℕ) → OnDirectory shown changes dir size (λ blocks slots. IsPassedBy blocks dir part count empty name → IsPassedBy blocks dir (part + 1) count empty name)
  seek_other empty place name seen either size blocks slots is_part is passed =
      empty_before (over blocks (changed changes)) dir part count empty here name bytes is_here some (fetched blocks is_part (is.bounded part low)) passed place seen.0 seen.1 either

  pub count_one : (more : ℕ) → used_below (slot_of bytes) here ≡ more
      → (size : ℕ) → OnDirectory shown changes dir size (λ blocks slots. used_below (slot_in blocks dir) (slots_before (part + 1) count) ≡ used_below (slot_in blocks dir) (slots_before part count) + more)
  count_one more used size blocks slots is_part is = part_used (over blocks (changed changes)) dir part count here more bytes is_here some (fetched blocks is_part (is.bounded part low)) used

-- the parts before one
pub record HasPassed (shown : ℕ → Option (List ℕ)) (changes : ChangeList) (dir part count empty : ℕ) (name : List ℕ) : Type 0 where
  pub passed : (size : ℕ) → OnDirectory shown changes dir size (λ blocks slots. IsPassedBy blocks dir part count empty name)
  pub within : empty ≤ count

pub record HasCounted (shown : ℕ → Option (List ℕ)) (changes : ChangeList) (dir part count used : ℕ) : Type 0 where
  pub counted : (size : ℕ) → OnDirectory shown changes dir size (λ blocks slots. used_below (slot_in blocks dir) (slots_before part count) ≡ used)
  pub few : used ≤ 32 * part

module _ (shown : ℕ → Option (List ℕ)) (changes : ChangeList) (dir count : ℕ) where
  pub none_passed : (part : ℕ) (name : List ℕ) → part ≡ 0 → HasPassed shown changes dir part count count name
  none_passed part name zero = record {
    passed = λ size blocks slots is_part is. record {
      unnamed = λ k less. absurd (omega (arith, less, zero));
      first = record { within = omega arith; here = λ less. absurd (omega (arith, less)); before = λ k less before. absurd (omega (arith, less, zero)) };
    };
    within = omega arith;
  }

  pub pass_next : (part then empty next : ℕ) (name : List ℕ) → then ≡ part + 1 → next ≤ empty → HasPassed shown changes dir part count empty name
      → ((size : ℕ) → OnDirectory shown changes dir size (λ blocks slots. IsPassedBy blocks dir part count empty name → IsPassedBy blocks dir (part + 1) count next name)) → HasPassed shown changes dir then count next name
  pass_next part then empty next name is_then less was step = record {
    passed = λ size blocks slots is_part is. subst (λ n. IsPassedBy (over blocks (changed changes)) dir n count next name) (sym is_then) (step size blocks slots is_part is (was.passed size blocks slots is_part is));
    within = (let w = was.within in omega (arith, w, less));
  }

  pub none_counted : (part : ℕ) → part ≡ 0 → HasCounted shown changes dir part count 0
  none_counted part zero = record {
    counted = λ size blocks slots is_part is. ap (used_below (slot_in (over blocks (changed changes)) dir)) (let e : slots_before part count ≡ 0 = omega (arith, zero) in e);
    few = omega arith;
  }

  module _ (size parts : ℕ) (is_count : count ≡ size / 16) (is_parts : parts ≡ min ((count + 31) / 32) 2113674) where
    -- all slots are gone through
    all_slots : (blocks : ℕ → List ℕ) (slots : List PlainSlot) → IsDirectoryOn blocks dir size slots → (slots_before parts count ≡ count) × (slots ≡ map (slot_in blocks dir) (range_with_len 0 count))
    all_slots blocks slots is =
        let s = is.sized in
        let n : length slots ≡ count = omega (arith, s, is_count) in
        let few : size ≤ 512 * 2113674 = elim (cases_lt (512 * 2113674) size) [ inl far ↦ absurd (let h = (is.held 2113674 far).0 in omega (arith, h)) | inr near ↦ near ] in
        (omega (arith, is_parts, few, is_count), is.each ∙ ap (λ m. map (slot_in blocks dir) (range_with_len 0 m)) n)

    module _ (empty : ℕ) (name : List ℕ) (has : HasPassed shown changes dir parts count empty name) where
      pub ends_empty : empty < count → OnDirectory shown changes dir size (λ blocks slots. (number_of slots name ≡ None) × (position is_empty slots ≡ Some empty))
      ends_empty some blocks slots is_part is =
          let b = over blocks (changed changes) in
          let all = all_slots b slots is in
          let p = has.passed size blocks slots is_part is in (
            named_none (slot_in b dir) slots count all.1 name (subst (AreUnnamed (slot_in b dir) name) all.0 p.unnamed),
            empty_at (slot_in b dir) slots count all.1 name empty (subst (λ n. IsFirstEmpty (slot_in b dir) n count empty) all.0 p.first) some,
          )

      pub ends_full : count ≤ empty → OnDirectory shown changes dir size (λ blocks slots. (number_of slots name ≡ None) × (position is_empty slots ≡ None))
      ends_full none blocks slots is_part is =
          let b = over blocks (changed changes) in
          let all = all_slots b slots is in
          let p = has.passed size blocks slots is_part is in (
            named_none (slot_in b dir) slots count all.1 name (subst (AreUnnamed (slot_in b dir) name) all.0 p.unnamed),
            empty_none (slot_in b dir) slots count all.1 name empty (subst (λ n. IsFirstEmpty (slot_in b dir) n count empty) all.0 p.first) none,
          )

    pub ends_counted : (used : ℕ) → HasCounted shown changes dir parts count used → OnDirectory shown changes dir size (λ blocks slots. count_by is_used slots ≡ used)
    ends_counted used has blocks slots is_part is =
        let b = over blocks (changed changes) in
        let all = all_slots b slots is in
        ap (count_by is_used) all.1 ∙ sym (row_used (slot_in b dir) count) ∙ ap (used_below (slot_in b dir)) (sym all.0) ∙ has.counted size blocks slots is_part is

    pub ends_found : (part empty at ino : ℕ) (name : List ℕ) → HasPassed shown changes dir part count empty name
        → ((size : ℕ) → OnDirectory shown changes dir size (λ blocks slots. IsPassedBy blocks dir part count empty name → IsFirstNamed (slot_in blocks dir) name count at ino))
        → OnDirectory shown changes dir size (λ blocks slots. (position (is_named name) slots ≡ Some at) × (number_of slots name ≡ Some ino))
    ends_found part empty at ino name has found blocks slots is_part is =
        let b = over blocks (changed changes) in
        named_at (slot_in b dir) slots count (all_slots b slots is).1 name at ino (found size blocks slots is_part is (has.passed size blocks slots is_part is))
