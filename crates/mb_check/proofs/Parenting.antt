-- Rules 13 and 14 by what is counted.
use Rattle.std.proofs.Common.{◌≡◌, inl, inr, ℕ, ◌+◌, ◌<◌, ◌≤◌, List, [], ◌∷◌, Bool, true, false, not, ◌&&◌, ◌||◌, nat_eq, nat_le, if◌then◌else◌, Result, Ok, Err, refl, sym, ap, subst, ◌∙◌, arith}
use Rattle.std.proofs.lemmas.Bool.{cases_lt}
use Rattle.std.proofs.lemmas.Bool.Decides.{nat_tests, eqb_tells}
use Rattle.mb_word.specs.Fields.{inode_block, inode_place, nlink_of}
use Rattle.mb_tree.specs.Blocks.{slot_in}
use Rattle.mb_tree.specs.Counting.{sum_below}
use Rattle.mb_tree.specs.Inodes.{is_directory}
use Rattle.mb_tree.specs.Volume.{last_inode}
use Rattle.mb_tree.proofs.Sums.{sum_terms}
use Rattle.mb_rules.specs.declared.findings.Finding.{Finding}
use Rattle.mb_rules.specs.Files.{mode_at}
use Rattle.mb_rules.specs.Items.{Item, Holds, each_from, walked, walked_on}
use Rattle.mb_rules.specs.Parents.{all_to, has_parent, is_reached, is_top, late_from, late_to, link_items, parent_items, parents_items}
use Rattle.mb_rules.proofs.Walks.{walk_append}
use Rattle.mb_check.specs.declared.tallies.Late.{Late}
use Rattle.mb_check.specs.declared.tallies.Late.TheVariants.{Never, Once, Often}
use Rattle.mb_check.specs.declared.tallies.Tally.{Tally}
use Rattle.mb_check.specs.ParentTests.{fits_parent}
use Rattle.mb_check.specs.Tallies.{slots_to, slots_so_far, HoldsLate, before, itself, IsLate, KeepsTally}

module _ (blocks : ℕ → List ℕ) (ino : ℕ) where
  abbrev all_far : ℕ → ℕ
  all_far skip = slots_so_far skip blocks ino (last_inode blocks + 1) 0

  no_more : (skip : ℕ) → slots_to skip blocks ino (last_inode blocks + 1) 0 ≡ 0
  unfolding sum_below
  no_more skip = refl

  far_all : all_far 0 ≡ all_to blocks ino
  far_all = (let none = no_more 0 in omega (arith, none))

  far_late : all_far 2 ≡ late_to blocks ino
  far_late = (let none = no_more 2 in omega (arith, none))

  -- the directory with the one late slot
  module _ (holder : ℕ) (holds : HoldsLate blocks ino (last_inode blocks + 1) 0 holder) where
    holder_low : HoldsLate blocks ino (last_inode blocks + 1) 0 holder → (holder ≤ last_inode blocks) × (0 < late_from blocks ino holder)
    holder_low (before low some) = (omega (arith, low), some)
    holder_low (itself is some) = absurd (let none = no_more 2 in omega (arith, none, some))

    one_holder : (up : ℕ) → up ≤ last_inode blocks → late_to blocks ino ≡ 1 → not (nat_eq (late_from blocks ino up) 0) ≡ nat_eq holder up
    one_holder up low one =
        let at = holder_low holds in
        elim (eqb_tells holder up) [
          | inl here ↦ (
              let some : 0 < late_from blocks ino up = subst (λ d. 0 < late_from blocks ino d) here.1 at.1 in
              let t : nat_eq (late_from blocks ino up) 0 ≡ false = grind (arith, nat_tests) in
              ap not t ∙ sym here.0)
          | inr apart ↦ (
              let a = at.0 in
              let b = at.1 in
              let two = sum_terms (late_from blocks ino) holder up (last_inode blocks + 1) (omega (arith, a)) (omega (arith, low)) apart.1 in
              let none : late_from blocks ino up ≡ 0 = omega (arith, b, two, one) in
              let t : nat_eq (late_from blocks ino up) 0 ≡ true = grind (arith, nat_tests) in
              ap not t ∙ sym apart.0)
        ]

  abbrev up_at : ℕ
  up_at = (slot_in blocks ino 1).ino

  abbrev fits : Bool → Bool
  fits root = if root then is_top blocks else has_parent blocks ino

  by_late : (n : ℕ) → late_to blocks ino ≡ n → (root : Bool) → nat_eq ino 2 ≡ root → fits root ≡ (if root then nat_eq up_at 2 && nat_eq n 0 else nat_eq n 1 && not (nat_eq (late_from blocks ino up_at) 0) && is_reached blocks (last_inode blocks) ino)
  by_late n e true t =
      let is : 2 ≡ ino = grind (arith, nat_tests) in
      ap (λ k. nat_eq (slot_in blocks k 1).ino 2 && nat_eq (late_to blocks k) 0) is ∙ ap (λ k. nat_eq up_at 2 && nat_eq k 0) e
  by_late n e false t = ap (λ k. nat_eq k 1 && not (nat_eq (late_from blocks ino up_at) 0) && is_reached blocks (last_inode blocks) ino) e

  and_true : (b : Bool) → (b && true) ≡ b
  and_true true = refl
  and_true false = refl

  and_false : (b : Bool) → (b && false) ≡ false
  and_false true = refl
  and_false false = refl

  module _ (root : Bool) (t : nat_eq ino 2 ≡ root) where
    never_by : (root : Bool) → (if root then nat_eq up_at 2 && nat_eq 0 0 else nat_eq 0 1 && not (nat_eq (late_from blocks ino up_at) 0) && is_reached blocks (last_inode blocks) ino) ≡ (root && nat_eq up_at 2)
    never_by true = and_true (nat_eq up_at 2)
    never_by false = refl

    pub never_fits : late_to blocks ino ≡ 0 → (root && nat_eq up_at 2) ≡ fits root
    never_fits none = sym (by_late 0 none root t ∙ never_by root)

    once_by : (b : Bool) (root : Bool) → (if root then nat_eq up_at 2 && nat_eq 1 0 else nat_eq 1 1 && b && is_reached blocks (last_inode blocks) ino) ≡ (not root && b && is_reached blocks (last_inode blocks) ino)
    once_by b true = and_false (nat_eq up_at 2)
    once_by b false = refl

    pub once_fits : (holder : ℕ) → late_to blocks ino ≡ 1 → HoldsLate blocks ino (last_inode blocks + 1) 0 holder → up_at ≤ last_inode blocks
        → (not root && nat_eq holder up_at && is_reached blocks (last_inode blocks) ino) ≡ fits root
    once_fits holder one holds low =
        sym (by_late 1 one root t ∙ once_by (not (nat_eq (late_from blocks ino up_at) 0)) root ∙ ap (λ b. not root && b && is_reached blocks (last_inode blocks) ino) (one_holder holder holds up_at low one))

    often_by : (n : ℕ) → 2 ≤ n → (root : Bool) → (if root then nat_eq up_at 2 && nat_eq n 0 else nat_eq n 1 && not (nat_eq (late_from blocks ino up_at) 0) && is_reached blocks (last_inode blocks) ino) ≡ false
    often_by n many true = (let z : nat_eq n 0 ≡ false = grind (arith, nat_tests) in ap (λ b. nat_eq up_at 2 && b) z ∙ and_false (nat_eq up_at 2))
    often_by n many false = (let z : nat_eq n 1 ≡ false = grind (arith, nat_tests) in ap (λ b. b && not (nat_eq (late_from blocks ino up_at) 0) && is_reached blocks (last_inode blocks) ino) z)

    pub often_fits : 2 ≤ late_to blocks ino → false ≡ fits root
    often_fits many = sym (by_late (late_to blocks ino) refl root t ∙ often_by (late_to blocks ino) many root)

  pub never_late : (tally : Tally) → KeepsTally blocks (last_inode blocks + 1) 0 ino tally → tally.late ≡ Never → late_to blocks ino ≡ 0
  never_late tally keeps is = (let none : all_far 2 ≡ 0 = subst (λ (l : Late). IsLate l (all_far 2) (HoldsLate blocks ino (last_inode blocks + 1) 0)) is keeps.late in sym far_late ∙ none)

  pub once_late : (tally : Tally) (holder : ℕ) → KeepsTally blocks (last_inode blocks + 1) 0 ino tally → tally.late ≡ Once holder → (late_to blocks ino ≡ 1) × HoldsLate blocks ino (last_inode blocks + 1) 0 holder
  once_late tally holder keeps is = (let one : (all_far 2 ≡ 1) × HoldsLate blocks ino (last_inode blocks + 1) 0 holder = subst (λ (l : Late). IsLate l (all_far 2) (HoldsLate blocks ino (last_inode blocks + 1) 0)) is keeps.late in (sym far_late ∙ one.0, one.1))

  pub often_late : (tally : Tally) → KeepsTally blocks (last_inode blocks + 1) 0 ino tally → tally.late ≡ Often → 2 ≤ late_to blocks ino
  often_late tally keeps is = (let many : 2 ≤ all_far 2 = subst (λ (l : Late). IsLate l (all_far 2) (HoldsLate blocks ino (last_inode blocks + 1) 0)) is keeps.late in subst (λ n. 2 ≤ n) far_late many)

  -- ---- the walks

  one_item : (met : List ℕ) (block rule : ℕ) (test : Bool) → test ≡ true → walked met (Holds test block rule ∷ []) ≡ Ok met
  unfolding walked
  one_item met block rule test t = rw (walked, t) refl

  one_stops : (met : List ℕ) (block rule : ℕ) (test : Bool) → test ≡ false → walked met (Holds test block rule ∷ []) ≡ Err (record { block = block; rule = rule })
  unfolding walked
  one_stops met block rule test t = rw (walked, t) refl

  none_walks : (met : List ℕ) → walked met [] ≡ Ok met
  unfolding walked
  none_walks met = refl

  parent_by : (directory : Bool) → is_directory (mode_at blocks ino) ≡ directory → parent_items blocks ino ≡ (if directory then Holds (fits (nat_eq ino 2)) (inode_block ino) 13 ∷ [] else [])
  parent_by directory e = ap (λ b. if b then Holds (fits (nat_eq ino 2)) (inode_block ino) 13 ∷ [] else []) e

  pub other_parent : (met : List ℕ) → is_directory (mode_at blocks ino) ≡ false → walked met (parent_items blocks ino) ≡ Ok met
  other_parent met off = ap (walked met) (parent_by false off) ∙ none_walks met

  pub parent_holds : (met : List ℕ) → is_directory (mode_at blocks ino) ≡ true → true ≡ fits (nat_eq ino 2) → walked met (parent_items blocks ino) ≡ Ok met
  parent_holds met is t = ap (walked met) (parent_by true is) ∙ one_item met (inode_block ino) 13 (fits (nat_eq ino 2)) (sym t)

  pub parent_stops : (met : List ℕ) (block : ℕ) → is_directory (mode_at blocks ino) ≡ true → block ≡ inode_block ino → false ≡ fits (nat_eq ino 2) → walked met (parent_items blocks ino) ≡ Err (record { block = block; rule = 13 })
  parent_stops met block is stands t = ap (walked met) (parent_by true is) ∙ ap (λ b. walked met (Holds (fits (nat_eq ino 2)) b 13 ∷ [])) (sym stands) ∙ one_stops met block 13 (fits (nat_eq ino 2)) (sym t)

  abbrev nlink : ℕ
  nlink = nlink_of (blocks (inode_block ino)) (inode_place ino)

  abbrev counts : Bool
  counts = nat_eq nlink (all_to blocks ino) && nat_le nlink 32767

  link_by : (skipped : Bool) → (nat_eq (mode_at blocks ino) 0 || nat_eq ino 1) ≡ skipped → link_items blocks ino ≡ (if skipped then [] else Holds counts (inode_block ino) 14 ∷ [])
  link_by skipped e = ap (λ b. if b then [] else Holds counts (inode_block ino) 14 ∷ []) e

  pub other_link : (met : List ℕ) → (nat_eq (mode_at blocks ino) 0 || nat_eq ino 1) ≡ true → walked met (link_items blocks ino) ≡ Ok met
  other_link met off = ap (walked met) (link_by true off) ∙ none_walks met

  module _ (number : ℕ) (tally : Tally) (is : number ≡ nlink) (keeps : KeepsTally blocks (last_inode blocks + 1) 0 ino tally) where
    small_count : nat_le number 32767 ≡ true → nat_eq number tally.all ≡ nat_eq number (all_to blocks ino)
    small_count t =
        let low : number ≤ 32767 = grind (arith, nat_tests) in
        let all = keeps.all in
        let same = far_all in
        elim (cases_lt (all_to blocks ino) 65536) [
          | inl few ↦ (let e : tally.all ≡ all_to blocks ino = omega (arith, all, same, few) in ap (nat_eq number) e)
          | inr many ↦ (
              let one : nat_eq number tally.all ≡ false = (let e : tally.all ≡ 65535 = omega (arith, all, same, many) in grind (arith, nat_tests)) in
              let two : nat_eq number (all_to blocks ino) ≡ false = grind (arith, nat_tests) in
              one ∙ sym two)
        ]

    count_by_test : (b : Bool) → nat_le number 32767 ≡ b → (nat_eq number tally.all && b) ≡ (nat_eq number (all_to blocks ino) && b)
    count_by_test true t = ap (λ x. x && true) (small_count t)
    count_by_test false t = and_false (nat_eq number tally.all) ∙ sym (and_false (nat_eq number (all_to blocks ino)))

    count_is : (nat_eq number tally.all && nat_le number 32767) ≡ counts
    count_is = count_by_test (nat_le number 32767) refl ∙ ap (λ n. nat_eq n (all_to blocks ino) && nat_le n 32767) is

    module _ (used : (nat_eq (mode_at blocks ino) 0 || nat_eq ino 1) ≡ false) where
      pub link_holds : (met : List ℕ) → true ≡ (nat_eq number tally.all && nat_le number 32767) → walked met (link_items blocks ino) ≡ Ok met
      link_holds met t = ap (walked met) (link_by false used) ∙ one_item met (inode_block ino) 14 counts (sym (t ∙ count_is))

      pub link_stops : (met : List ℕ) (block : ℕ) → block ≡ inode_block ino → false ≡ (nat_eq number tally.all && nat_le number 32767) → walked met (link_items blocks ino) ≡ Err (record { block = block; rule = 14 })
      link_stops met block stands t = ap (walked met) (link_by false used) ∙ ap (λ b. walked met (Holds counts b 14 ∷ [])) (sym stands) ∙ one_stops met block 14 counts (sym (t ∙ count_is))

pub skipped_mode : (blocks : ℕ → List ℕ) (ino : ℕ) → mode_at blocks ino ≡ 0 → (nat_eq (mode_at blocks ino) 0 || nat_eq ino 1) ≡ true
skipped_mode blocks ino e = ap (λ m. nat_eq m 0 || nat_eq ino 1) e

or_right : (a b : Bool) → b ≡ true → (a || b) ≡ true
or_right true b h = refl
or_right false b h = h

pub skipped_one : (blocks : ℕ → List ℕ) (ino : ℕ) → ino ≡ 1 → (nat_eq (mode_at blocks ino) 0 || nat_eq ino 1) ≡ true
skipped_one blocks ino e = or_right (nat_eq (mode_at blocks ino) 0) (nat_eq ino 1) (grind (arith, nat_tests))

pub unskipped : (blocks : ℕ → List ℕ) (ino : ℕ) → (mode_at blocks ino ≡ 0 → ⊥) → (ino ≡ 1 → ⊥) → (nat_eq (mode_at blocks ino) 0 || nat_eq ino 1) ≡ false
unskipped blocks ino used other =
    let one : nat_eq (mode_at blocks ino) 0 ≡ false = grind (arith, nat_tests) in
    let two : nat_eq ino 1 ≡ false = grind (arith, nat_tests) in
    ap (λ b. b || nat_eq ino 1) one ∙ two

-- rule 13 by what is kept of the slots
pub parent_by_late : (blocks : ℕ → List ℕ) (dir : ℕ) (late : Late) (all up : ℕ) (reached : Bool) → KeepsTally blocks (last_inode blocks + 1) 0 dir (record { all = all; late = late }) → up ≡ (slot_in blocks dir 1).ino
    → (slot_in blocks dir 1).ino ≤ last_inode blocks → reached ≡ is_reached blocks (last_inode blocks) dir → fits_parent late dir up reached ≡ (if nat_eq dir 2 then is_top blocks else has_parent blocks dir)
parent_by_late blocks dir Never all up reached keeps stands low flag =
    ap (λ k. nat_eq dir 2 && nat_eq k 2) stands ∙ never_fits blocks dir (nat_eq dir 2) refl (never_late blocks dir (record { all = all; late = Never }) keeps refl)
parent_by_late blocks dir (Once holder) all up reached keeps stands low flag =
    let one = once_late blocks dir (record { all = all; late = Once holder }) holder keeps refl in
    ap (λ k. not (nat_eq dir 2) && nat_eq holder k && reached) stands ∙ ap (λ b. not (nat_eq dir 2) && nat_eq holder (slot_in blocks dir 1).ino && b) flag
    ∙ once_fits blocks dir (nat_eq dir 2) refl holder one.0 one.1 low
parent_by_late blocks dir Often all up reached keeps stands low flag = often_fits blocks dir (nat_eq dir 2) refl (often_late blocks dir (record { all = all; late = Often }) keeps refl)

-- both in a row
module _ (blocks : ℕ → List ℕ) (met : List ℕ) where
  abbrev parents_first : List Item
  parents_first = each_from (parent_items blocks) 1 (last_inode blocks)

  abbrev links_then : List Item
  links_then = each_from (link_items blocks) 1 (last_inode blocks)

  pub first_stops : (broken : Finding) → walked met parents_first ≡ Err broken → walked met (parents_items blocks) ≡ Err broken
  first_stops broken h = walk_append met parents_first links_then ∙ ap (λ r. walked_on r links_then) h

  pub then_ends : (answer : Result (List ℕ) Finding) → walked met parents_first ≡ Ok met → walked met links_then ≡ answer → walked met (parents_items blocks) ≡ answer
  then_ends answer h k = walk_append met parents_first links_then ∙ ap (λ r. walked_on r links_then) h ∙ k
