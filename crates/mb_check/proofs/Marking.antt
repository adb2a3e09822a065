-- The inodes that are reached, as more of them are.
use Rattle.std.proofs.Common.{◌≡◌, ◌≢◌, inl, inr, ℕ, suc, ◌+◌, ◌*◌, ◌/◌, ◌<◌, ◌≤◌, List, [], ◌∷◌, ◌++◌, Bool, true, false, not, ◌&&◌, ◌||◌, nat_eq, nat_le, cond, Some, slice_get, slice_set, slice_index_or, length, count_by, drop, replicate, refl, sym, ap, subst, ◌∙◌, arith}
use Rattle.std.proofs.lemmas.Bool.{cases_lt}
use Rattle.std.proofs.lemmas.Bool.Decides.{nat_tests, eqb_tells}
use Rattle.std.proofs.lemmas.List.{get_or-replicate, length-append, length-replicate, length-set}
use Rattle.std.proofs.lemmas.List.Folds.{sum_by-replicate}
use Rattle.std.proofs.lemmas.Option.{same_Some, slice_get_within, slice_get-get_or}
use Rattle.mb_tree.specs.Blocks.{slot_in}
use Rattle.mb_tree.specs.Counting.{any_from}
use Rattle.mb_tree.specs.Inodes.{is_directory}
use Rattle.mb_tree.specs.Trees.{leads_to}
use Rattle.mb_tree.specs.Volume.{last_inode}
use Rattle.mb_tree.proofs.SlotLists.{push_here, push_there, set_here, set_there}
use Rattle.mb_tree.proofs.Sums.{sum_term}
use Rattle.mb_rules.specs.Files.{mode_at, size_at}
use Rattle.mb_rules.specs.Parents.{is_reached, late_from}
use Rattle.mb_rules.proofs.FilesAccepted.{found_yes}
use Rattle.mb_rules.proofs.Reaching.{within_most}
use Rattle.mb_scan_laws.proofs.ShownTrees.{slots_by}
use Rattle.mb_check_files.proofs.Claims.{count_more}
use Rattle.mb_check.specs.declared.reaching.Reach.{Reach}
use Rattle.mb_check.specs.Reaching.{Advances, AdvancesOver, Grows, IsReachedDirectory, Marks, Reaching, ReachesSlots}
use Rattle.mb_check.specs.Tallies.{one_if, slots_to}
use Rattle.mb_check_files.specs.InodeTables.{KeepsInode, KeepsInodes}
use Rattle.mb_check_files.specs.declared.inodes.InodeKept.{InodeKept}
use Rattle.mb_check_files.specs.declared.inodes.InodeTable.{InodeTable}
use Rattle.mb_check.specs.Directories.{KeepsAll, KeepsDirectory, slots_before, slots_in_part}
use Rattle.mb_check.proofs.PartReads.{before_is, last_before, next_before}
use Rattle.mb_check.proofs.WholeDirectories.{counted_row}

pub grows_same : (reach : Reach) → Grows reach reach
grows_same reach = record { flags = λ ino h. h; list = λ at ino h. h }

pub grows_on : (old mid new : Reach) → Grows old mid → Grows mid new → Grows old new
grows_on old mid new one two = record { flags = λ ino h. two.flags ino (one.flags ino h); list = λ at ino h. two.list at ino (one.list at ino h) }

-- ---- one inode

pub marks_old : (blocks : ℕ → List ℕ) (ino : ℕ) (reach : Reach) → (ino ≤ last_inode blocks → slice_get reach.flags.items ino ≡ Some true) → Reaching blocks reach → Marks blocks ino reach reach
marks_old blocks ino reach flag reaching = record { reaching = reaching; grows = grows_same reach; flag = flag }

module _ (blocks : ℕ → List ℕ) (ino : ℕ) (old new : Reach) (flags : new.flags.items ≡ slice_set old.flags.items ino true) (list : new.list.items ≡ old.list.items ++ ino ∷ [])
    (inside : ino < length old.flags.items) (fresh : slice_get old.flags.items ino ≡ Some false) (reaching : Reaching blocks old) where
  flag_here : slice_get new.flags.items ino ≡ Some true
  flag_here = ap (λ (xs : List Bool). slice_get xs ino) flags ∙ set_here old.flags.items ino true inside

  flag_there : (k : ℕ) → k ≢ ino → slice_get new.flags.items k ≡ slice_get old.flags.items k
  flag_there k apart = ap (λ (xs : List Bool). slice_get xs k) flags ∙ set_there old.flags.items ino true k apart

  list_here : slice_get new.list.items (length old.list.items) ≡ Some ino
  list_here = ap (λ (xs : List ℕ). slice_get xs (length old.list.items)) list ∙ push_here old.list.items ino

  list_there : (at : ℕ) → at ≢ length old.list.items → slice_get new.list.items at ≡ slice_get old.list.items at
  list_there at apart = ap (λ (xs : List ℕ). slice_get xs at) list ∙ push_there old.list.items ino at apart

  list_kept : (at k : ℕ) → slice_get old.list.items at ≡ Some k → slice_get new.list.items at ≡ Some k
  list_kept at k has = list_there at (let low = slice_get_within old.list.items at k has in omega (arith, low)) ∙ has

  flag_kept : (k : ℕ) → slice_get old.flags.items k ≡ Some true → slice_get new.flags.items k ≡ Some true
  flag_kept k has = elim (eqb_tells k ino) [
    | inl here ↦ subst (λ j. slice_get new.flags.items j ≡ Some true) (sym here.1) flag_here
    | inr apart ↦ flag_there k apart.1 ∙ has
  ]

  listed_new : (k : ℕ) → slice_get new.flags.items k ≡ Some true → (at : ℕ) × (slice_get new.list.items at ≡ Some k)
  listed_new k has = elim (eqb_tells k ino) [
    | inl here ↦ (length old.list.items, list_here ∙ ap (λ j. Some j) (sym here.1))
    | inr apart ↦ (let was = reaching.listed k (sym (flag_there k apart.1) ∙ has) in (was.0, list_kept was.0 k was.1))
  ]

  flagged_new : (at k : ℕ) → slice_get new.list.items at ≡ Some k → slice_get new.flags.items k ≡ Some true
  flagged_new at k has = elim (eqb_tells at (length old.list.items)) [
    | inl here ↦ (let is : ino ≡ k = same_Some ino k (sym list_here ∙ ap (slice_get new.list.items) (sym here.1) ∙ has) in subst (λ j. slice_get new.flags.items j ≡ Some true) is flag_here)
    | inr apart ↦ flag_kept k (reaching.flagged at k (sym (list_there at apart.1) ∙ has))
  ]

  reached_new : (ino ≤ last_inode blocks → is_reached blocks (last_inode blocks) ino ≡ true) → (k : ℕ) → slice_get new.flags.items k ≡ Some true → is_reached blocks (last_inode blocks) k ≡ true
  reached_new may k has = elim (eqb_tells k ino) [
    | inl here ↦ (let size = reaching.sized in subst (λ j. is_reached blocks (last_inode blocks) j ≡ true) (sym here.1) (may (omega (arith, inside, size))))
    | inr apart ↦ reaching.reached k (sym (flag_there k apart.1) ∙ has)
  ]

  pub marks_new : (ino ≤ last_inode blocks → is_reached blocks (last_inode blocks) ino ≡ true) → Marks blocks ino old new
  marks_new may = record {
    reaching = record {
      sized = ap (λ (xs : List Bool). length xs) flags ∙ length-set old.flags.items ino true ∙ reaching.sized;
      listed = listed_new;
      flagged = flagged_new;
      once = (
          let long : length new.list.items ≡ length old.list.items + 1 = ap (λ (xs : List ℕ). length xs) list ∙ length-append old.list.items (ino ∷ []) in
          let more : count_by (λ flag. flag) new.flags.items ≡ suc (count_by (λ flag. flag) old.flags.items) = ap (λ (xs : List Bool). count_by (λ flag. flag) xs) flags ∙ count_more old.flags.items ino inside (same_Some (slice_index_or old.flags.items ino false) false (sym (slice_get-get_or old.flags.items ino false inside) ∙ fresh)) in
          let was = reaching.once in
          omega (arith, long, more, was));
      reached = reached_new may;
    };
    grows = record { flags = flag_kept; list = list_kept };
    flag = λ low. flag_here;
  }

-- ---- before the first

fill_get : (n k : ℕ) (b c : Bool) → slice_get (replicate n b) k ≡ Some c → b ≡ c
fill_get n k b c has =
    let low = slice_get_within (replicate n b) k c has in
    let size : length (replicate n b) ≡ n = length-replicate n b in
    same_Some b c (sym (slice_get-get_or (replicate n b) k b low ∙ ap (λ (z : Bool). Some z) (get_or-replicate n k b b (omega (arith, low, size)))) ∙ has)

pub reaching_none : (blocks : ℕ → List ℕ) (reach : Reach) (n : ℕ) → reach.flags.items ≡ replicate n false → n ≡ last_inode blocks + 1 → reach.list.items ≡ [] → Reaching blocks reach
reaching_none blocks reach n flags size list =
    let none : (k : ℕ) → slice_get reach.flags.items k ≡ Some true → ⊥ = λ k has. (let e : false ≡ true = fill_get n k false true (ap (λ (xs : List Bool). slice_get xs k) (sym flags) ∙ has) in absurd (cc)) in
    record {
      sized = ap (λ (xs : List Bool). length xs) flags ∙ length-replicate n false ∙ size;
      listed = λ ino has. absurd (none ino has);
      flagged = λ at ino has. (let e : slice_get [] at ≡ Some ino = ap (λ (xs : List ℕ). slice_get xs at) (sym list) ∙ has in absurd (cc));
      once = (
          let long : length reach.list.items ≡ 0 = ap (λ (xs : List ℕ). length xs) list in
          let count : count_by (λ flag. flag) reach.flags.items ≡ count_by (λ flag. flag) (replicate n false) = ap (λ (xs : List Bool). count_by (λ flag. flag) xs) flags in
          let s = sum_by-replicate (λ (b : Bool). cond {A = ℕ} b 1 0) n false in
          omega (arith, long, count, s));
      reached = λ ino has. absurd (none ino has);
    }

-- ---- what a slot leads to

module _ (blocks : ℕ → List ℕ) (dir : ℕ) where
  pub late_is : is_directory (mode_at blocks dir) ≡ true → (ino : ℕ) → slots_to 2 blocks ino dir (size_at blocks dir / 16) ≡ late_from blocks ino dir
  late_is is ino = counted_row blocks dir 2 ino (size_at blocks dir / 16) ∙ sym (ap (λ slots. count_by (leads_to ino) (drop 2 slots)) (slots_by blocks dir true is))

  late_here : (at : ℕ) → 2 ≤ at → one_if (nat_le 2 at && leads_to (slot_in blocks dir at).ino (slot_in blocks dir at)) ≡ 1
  late_here at late =
      let one : nat_le 2 at ≡ true = grind (arith, nat_tests) in
      let two : leads_to (slot_in blocks dir at).ino (slot_in blocks dir at) ≡ true = grind (arith, nat_tests) in
      ap (λ b. one_if (b && leads_to (slot_in blocks dir at).ino (slot_in blocks dir at))) one ∙ ap one_if two

  pub some_late : (at : ℕ) → is_directory (mode_at blocks dir) ≡ true → 2 ≤ at → at < size_at blocks dir / 16 → 0 < late_from blocks (slot_in blocks dir at).ino dir
  some_late at is late low =
      let all = late_is is (slot_in blocks dir at).ino in
      let term = sum_term (λ k. one_if (nat_le 2 k && leads_to (slot_in blocks dir at).ino (slot_in blocks dir k))) at (size_at blocks dir / 16) low in
      let one = late_here at late in
      omega (arith, all, term, one)

  or_right : (a b : Bool) → b ≡ true → (a || b) ≡ true
  or_right true b h = refl
  or_right false b h = h

  pub next_step : (steps ino : ℕ) → is_reached blocks (suc steps) ino ≡ (is_reached blocks steps ino || any_from (λ d. is_reached blocks steps d && not (nat_eq (late_from blocks ino d) 0)) 0 (last_inode blocks + 1))
  unfolding is_reached
  next_step steps ino = refl

  pub target_reached : IsReachedDirectory blocks dir → (at : ℕ) → 2 ≤ at → at < size_at blocks dir / 16 → (slot_in blocks dir at).ino ≤ last_inode blocks → is_reached blocks (last_inode blocks) (slot_in blocks dir at).ino ≡ true
  target_reached from at late low small =
      let ino : ℕ = (slot_in blocks dir at).ino in
      let many : 0 < late_from blocks ino dir = some_late at from.directory late low in
      let test : nat_eq (late_from blocks ino dir) 0 ≡ false = grind (arith, nat_tests) in
      let up = from.reached in
      let passes : (is_reached blocks (last_inode blocks) dir && not (nat_eq (late_from blocks ino dir) 0)) ≡ true = rw (up, test) refl in
      let within = from.within in
      let found = found_yes (λ d. is_reached blocks (last_inode blocks) d && not (nat_eq (late_from blocks ino d) 0)) 0 (last_inode blocks + 1) dir (omega arith) (omega (arith, within)) passes in
      within_most blocks (suc (last_inode blocks)) ino from.enough small (next_step (last_inode blocks) ino ∙ or_right (is_reached blocks (last_inode blocks) ino) _ found)

  pub number_reached : IsReachedDirectory blocks dir → (at number : ℕ) → number ≡ (slot_in blocks dir at).ino → 2 ≤ at → at < size_at blocks dir / 16 → number ≤ last_inode blocks → is_reached blocks (last_inode blocks) number ≡ true
  number_reached from at number is late low small =
      subst (λ n. is_reached blocks (last_inode blocks) n ≡ true) (sym is) (target_reached from at late low (subst (λ n. n ≤ last_inode blocks) is small))

  -- one slot more
  pub advance : (at number : ℕ) (old mid new : Reach) → number ≡ (slot_in blocks dir at).ino → Advances blocks dir at old mid → Marks blocks number mid new → Advances blocks dir (at + 1) old new
  advance at number old mid new is so marks = record {
    reaching = marks.reaching;
    grows = grows_on old mid new so.grows marks.grows;
    slots = λ k late low small. elim (cases_lt k at) [
      | inl less ↦ marks.grows.flags (slot_in blocks dir k).ino (so.slots k late less small)
      | inr past ↦ (
          let same : k ≡ at = omega (arith, low, past) in
          let here : number ≡ (slot_in blocks dir k).ino = is ∙ ap (λ j. (slot_in blocks dir j).ino) (sym same) in
          subst (λ j. slice_get new.flags.items j ≡ Some true) here (marks.flag (omega (arith, here, small))))
    ];
  }

  pub advances_none : (n : ℕ) (reach : Reach) → Reaching blocks reach → ReachesSlots blocks dir n reach → Advances blocks dir n reach reach
  advances_none n reach reaching slots = record { reaching = reaching; grows = grows_same reach; slots = slots }

  pub advances_less : (m n : ℕ) (old new : Reach) → m ≤ n → Advances blocks dir n old new → Advances blocks dir m old new
  advances_less m n old new few so = record { reaching = so.reaching; grows = so.grows; slots = λ at late low small. so.slots at late (omega (arith, low, few)) small }

  pub slots_kept : (n : ℕ) (old new : Reach) → Grows old new → ReachesSlots blocks dir n old → ReachesSlots blocks dir n new
  slots_kept n old new grows slots at late low small = grows.flags (slot_in blocks dir at).ino (slots at late low small)

-- ---- a directory

module _ (blocks : ℕ → List ℕ) (table : InodeTable) (dir : ℕ) (kept : InodeKept) where
  pub mode_kept : KeepsAll blocks table → dir ≤ last_inode blocks
      → ((b : ℕ → List ℕ) (last : ℕ) → KeepsInodes b table last → 1 ≤ dir → dir ≤ last → KeepsInode b table.parts.addresses.items dir kept)
      → ((b : ℕ → List ℕ) (last : ℕ) → KeepsInodes b table last → dir ≡ 0 → kept.mode ≡ 0) → kept.mode ≡ mode_at blocks dir
  mode_kept keeps low each none = elim (cases_lt dir 1) [
    | inl less ↦ (let zero_dir : dir ≡ 0 = omega (arith, less) in none blocks (last_inode blocks) keeps.inodes zero_dir ∙ sym (ap (mode_at blocks) zero_dir))
    | inr some ↦ (each blocks (last_inode blocks) keeps.inodes some low).mode
  ]

  pub real_directory : KeepsAll blocks table → is_directory kept.mode ≡ true → ((b : ℕ → List ℕ) (last : ℕ) → KeepsInodes b table last → dir ≡ 0 → kept.mode ≡ 0) → 1 ≤ dir
  real_directory keeps is none = elim (cases_lt dir 1) [
    | inl less ↦ absurd (let e : kept.mode ≡ 0 = none blocks (last_inode blocks) keeps.inodes (omega (arith, less)) in let t : is_directory 0 ≡ true = subst (λ m. is_directory m ≡ true) e is in cc)
    | inr some ↦ some
  ]

  pub no_targets : (reach : Reach) → Reaching blocks reach → is_directory kept.mode ≡ false → kept.mode ≡ mode_at blocks dir → AdvancesOver blocks dir reach reach
  no_targets reach reaching off mode = record { reaching = reaching; grows = grows_same reach; slots = λ is. absurd (let t = ap is_directory mode in cc) }

  module _ (keeps : KeepsDirectory blocks table dir kept) where
    pub room : (part : ℕ) → 512 * part < kept.size → 32 * part + slots_in_part kept.size part ≤ size_at blocks dir / 16
    room part less = (let size : kept.size / 16 ≡ size_at blocks dir / 16 = ap (λ n. n / 16) keeps.inode.size in let here = next_before blocks table dir kept keeps part less in omega (arith, size, here))

    pub targets_none : (reach : Reach) → Reaching blocks reach → Advances blocks dir (slots_before kept.size 0) reach reach
    targets_none reach reaching = advances_none blocks dir (slots_before kept.size 0) reach reaching (λ at late low small. absurd (omega (arith, late, low)))

    pub targets_so_far : (part : ℕ) (old mid : Reach) → 512 * part < kept.size → Advances blocks dir (slots_before kept.size part) old mid → ReachesSlots blocks dir (32 * part) mid
    targets_so_far part old mid less so = subst (λ n. ReachesSlots blocks dir n mid) (before_is blocks table dir kept keeps part less) so.slots

    pub targets_more : (part : ℕ) (old mid new : Reach) → 512 * part < kept.size → Advances blocks dir (slots_before kept.size part) old mid → Advances blocks dir (32 * part + slots_in_part kept.size part) mid new → Advances blocks dir (slots_before kept.size (part + 1)) old new
    targets_more part old mid new less so more = record {
      reaching = more.reaching;
      grows = grows_on old mid new so.grows more.grows;
      slots = subst (λ n. ReachesSlots blocks dir n new) (next_before blocks table dir kept keeps part less) more.slots;
    }

    pub targets_all : (part : ℕ) (old new : Reach) → (kept.size + 511) / 512 ≤ part → Advances blocks dir (slots_before kept.size part) old new → AdvancesOver blocks dir old new
    targets_all part old new past so = record {
      reaching = so.reaching;
      grows = so.grows;
      slots = λ is. subst (λ n. ReachesSlots blocks dir n new) (last_before blocks table dir kept keeps part past ∙ ap (λ n. n / 16) keeps.inode.size) so.slots;
    }
