-- Directories in the order of being reached: once all of them were read, the flags are what the root reaches.
use Rattle.std.proofs.Common.{◌≡◌, inl, inr, ℕ, zero, suc, ◌+◌, ◌/◌, ◌<◌, ◌≤◌, List, Bool, true, false, not, ◌&&◌, nat_eq, nat_le, Some, None, slice_get, slice_index_or, length, count_by, drop, refl, sym, ap, subst, ◌∙◌, arith}
use Rattle.std.proofs.Math.Seq.{drop-nil}
use Rattle.std.proofs.lemmas.Bool.{cases_lt}
use Rattle.std.proofs.lemmas.Bool.Decides.{nat_tests}
use Rattle.std.proofs.lemmas.List.Sums.{count_by-le-length}
use Rattle.std.proofs.lemmas.Option.{same_Some, slice_get_within, slice_get-get_or}
use Rattle.mb_tree.specs.Blocks.{slot_in}
use Rattle.mb_tree.specs.Counting.{sum_below}
use Rattle.mb_tree.specs.Inodes.{is_directory}
use Rattle.mb_tree.specs.Trees.{leads_to}
use Rattle.mb_tree.specs.Volume.{last_inode}
use Rattle.mb_rules.specs.Files.{mode_at, size_at}
use Rattle.mb_rules.specs.Parents.{is_reached, late_from}
use Rattle.mb_rules.proofs.Files.{found_from}
use Rattle.mb_rules.proofs.Reaching.{within_most}
use Rattle.mb_rules.proofs.Ways.{or_true}
use Rattle.mb_rules.proofs.Walks.{both}
use Rattle.mb_scan_laws.proofs.ShownTrees.{slots_by}
use Rattle.mb_check.specs.declared.reaching.Reach.{Reach}
use Rattle.mb_check.specs.Reaching.{AdvancesOver, AreReached, Marks, Reaching, ReachesAll}
use Rattle.mb_check.specs.Tallies.{one_if}
use Rattle.mb_check.proofs.Marking.{late_is, next_step, slots_kept}

-- the first n of the list were read
pub record HasRead (blocks : ℕ → List ℕ) (n : ℕ) (reach : Reach) : Type 0 where
  pub reaching : Reaching blocks reach
  pub root : slice_get reach.flags.items 2 ≡ Some true
  pub done : (at dir : ℕ) → at < n → slice_get reach.list.items at ≡ Some dir → ReachesAll blocks dir reach

pub read_none : (blocks : ℕ → List ℕ) (old new : Reach) → 2 ≤ last_inode blocks → Marks blocks 2 old new → HasRead blocks 0 new
read_none blocks old new enough marks = record { reaching = marks.reaching; root = marks.flag enough; done = λ at dir low. absurd (omega (arith, low)) }

root_step : (blocks : ℕ → List ℕ) (ino : ℕ) → is_reached blocks 0 ino ≡ nat_eq ino 2
unfolding is_reached
root_step blocks ino = refl

pub root_reached : (blocks : ℕ → List ℕ) → 2 ≤ last_inode blocks → is_reached blocks (last_inode blocks) 2 ≡ true
root_reached blocks enough = within_most blocks 0 2 enough enough (root_step blocks 2)

pub low_listed : (blocks : ℕ → List ℕ) (reach : Reach) (at dir : ℕ) → Reaching blocks reach → slice_get reach.list.items at ≡ Some dir → dir ≤ last_inode blocks
low_listed blocks reach at dir reaching has = (let low = slice_get_within reach.flags.items dir true (reaching.flagged at dir has) in let size = reaching.sized in omega (arith, low, size))

pub past_none : (xs : List ℕ) (k : ℕ) → slice_get xs k ≡ None → length xs ≤ k
past_none xs k none = elim (cases_lt k (length xs)) [
  | inl low ↦ absurd (let some = slice_get-get_or xs k 0 low in cc)
  | inr past ↦ past
]

pub past_all : (blocks : ℕ → List ℕ) (reach : Reach) → Reaching blocks reach → length reach.list.items ≤ last_inode blocks + 1
past_all blocks reach reaching = (let once = reaching.once in let size = reaching.sized in let few = count_by-le-length (λ flag. flag) reach.flags.items in omega (arith, once, size, few))

module _ (blocks : ℕ → List ℕ) (n dir : ℕ) (mid new : Reach) (so : HasRead blocks n mid) (has : slice_get mid.list.items n ≡ Some dir) (more : AdvancesOver blocks dir mid new) where
  before_kept : (at other : ℕ) → at < n → slice_get new.list.items at ≡ Some other → ReachesAll blocks other new
  before_kept at other less there is =
      let inside : at < length mid.list.items = (let low = slice_get_within mid.list.items n dir has in omega (arith, low, less)) in
      let was = slice_get-get_or mid.list.items at 0 inside in
      let same : slice_index_or mid.list.items at 0 ≡ other = same_Some (slice_index_or mid.list.items at 0) other (sym (more.grows.list at (slice_index_or mid.list.items at 0) was) ∙ there) in
      slots_kept blocks other (size_at blocks other / 16) mid new more.grows (so.done at other less (was ∙ ap (λ k. Some k) same) is)

  done_more : (at other : ℕ) → at < n + 1 → slice_get new.list.items at ≡ Some other → ReachesAll blocks other new
  done_more at other less there = elim (cases_lt at n) [
    | inl low ↦ before_kept at other low there
    | inr past ↦ (
        let same : at ≡ n = omega (arith, less, past) in
        let is : dir ≡ other = same_Some dir other (sym (more.grows.list n dir has) ∙ ap (slice_get new.list.items) (sym same) ∙ there) in
        subst (λ d. ReachesAll blocks d new) is more.slots)
  ]

  pub read_more : HasRead blocks (n + 1) new
  read_more = record { reaching = more.reaching; root = more.grows.flags 2 so.root; done = done_more }

-- ---- all were read

sum_some : (g : ℕ → ℕ) (n : ℕ) → 0 < sum_below g n → (k : ℕ) × (k < n) × (0 < g k)
unfolding sum_below
sum_some g zero some = absurd (omega (arith, some))
sum_some g (suc n) some = elim (cases_lt 0 (g n)) [
  | inl here ↦ (n, omega arith, here)
  | inr none ↦ (let rest = sum_some g n (omega (arith, some, none)) in let low = rest.1 in (rest.0, omega (arith, low), rest.2))
]

one_true : (b : Bool) → 0 < one_if b → b ≡ true
one_true true h = refl
one_true false h = absurd (omega (arith, h))

some_of : (n : ℕ) → not (nat_eq n 0) ≡ true → 0 < n
some_of zero h = absurd (cc)
some_of (suc n) h = omega arith

no_late : (blocks : ℕ → List ℕ) (ino dir : ℕ) → is_directory (mode_at blocks dir) ≡ false → late_from blocks ino dir ≡ 0
no_late blocks ino dir off = ap (λ slots. count_by (leads_to ino) (drop 2 slots)) (slots_by blocks dir false off) ∙ ap (count_by (leads_to ino)) (drop-nil 2)

late_directory : (blocks : ℕ → List ℕ) (ino dir : ℕ) (directory : Bool) → is_directory (mode_at blocks dir) ≡ directory → 0 < late_from blocks ino dir → is_directory (mode_at blocks dir) ≡ true
late_directory blocks ino dir true e many = e
late_directory blocks ino dir false e many = absurd (let none = no_late blocks ino dir e in omega (arith, none, many))

module _ (blocks : ℕ → List ℕ) (n : ℕ) (reach : Reach) (so : HasRead blocks n reach) (whole : length reach.list.items ≤ n) where
  -- what a directory that is flagged leads to is flagged
  closed : (dir ino : ℕ) → slice_get reach.flags.items dir ≡ Some true → ino ≤ last_inode blocks → 0 < late_from blocks ino dir → slice_get reach.flags.items ino ≡ Some true
  closed dir ino flag low many =
      let is = late_directory blocks ino dir (is_directory (mode_at blocks dir)) refl many in
      let place = so.reaching.listed dir flag in
      let inside = slice_get_within reach.list.items place.0 dir place.1 in
      let slots = so.done place.0 dir (omega (arith, inside, whole)) place.1 is in
      let all = late_is blocks dir is ino in
      let found = sum_some (λ at. one_if (nat_le 2 at && leads_to ino (slot_in blocks dir at))) (size_at blocks dir / 16) (omega (arith, all, many)) in
      let two = both (nat_le 2 found.0) (leads_to ino (slot_in blocks dir found.0)) (one_true _ found.2) in
      let late : 2 ≤ found.0 = (let t = two.0 in grind (arith, nat_tests)) in
      let leads : (slot_in blocks dir found.0).ino ≡ ino = (let t = two.1 in grind (arith, nat_tests)) in
      subst (λ k. slice_get reach.flags.items k ≡ Some true) leads (slots found.0 late found.1 (omega (arith, leads, low)))

  complete : (steps ino : ℕ) → ino ≤ last_inode blocks → is_reached blocks steps ino ≡ true → slice_get reach.flags.items ino ≡ Some true
  complete zero ino low h = (let t : nat_eq ino 2 ≡ true = sym (root_step blocks ino) ∙ h in let is : 2 ≡ ino = grind (arith, nat_tests) in subst (λ k. slice_get reach.flags.items k ≡ Some true) is so.root)
  complete (suc steps) ino low h =
      elim (or_true (is_reached blocks steps ino) _ (sym (next_step blocks 0 steps ino) ∙ h)) [
        | inl before ↦ complete steps ino low before
        | inr later ↦ (
            let found = found_from (λ d. is_reached blocks steps d && not (nat_eq (late_from blocks ino d) 0)) 0 (last_inode blocks + 1) later in
            let dir : ℕ = found.0 in
            let within = found.2 in
            let two = both (is_reached blocks steps dir) (not (nat_eq (late_from blocks ino dir) 0)) found.3 in
            closed dir ino (complete steps dir (omega (arith, within)) two.0) low (some_of (late_from blocks ino dir) two.1))
      ]

  flag_by : (ino : ℕ) → ino ≤ last_inode blocks → (flag is : Bool) → slice_get reach.flags.items ino ≡ Some flag → is_reached blocks (last_inode blocks) ino ≡ is → flag ≡ is
  flag_by ino low true is has e = sym (so.reaching.reached ino has) ∙ e
  flag_by ino low false true has e = absurd (let yes_flag = complete (last_inode blocks) ino low e in cc)
  flag_by ino low false false has e = refl

  pub all_reached : AreReached blocks reach.flags.items
  all_reached ino low =
      let size = so.reaching.sized in
      let has = slice_get-get_or reach.flags.items ino false (omega (arith, low, size)) in
      has ∙ ap (λ b. Some b) (flag_by ino low (slice_index_or reach.flags.items ino false) (is_reached blocks (last_inode blocks) ino) has refl)
