-- What a call gathered grows, where it asks for blocks that it has not.
use Rattle.std.proofs.Common.{◌≡◌, ◌∙◌, ◌<◌, ◌≤◌, List, [], ◌∷◌, ℕ, Bool, true, false, cond, if◌then◌else◌, is_some, nat_eq, IfSome, Option, None, Some, option_map, length, refl, ap, sym, subst, arith}
use Rattle.std.proofs.lemmas.Bool.Decides.{nat_tests}
use Rattle.mb_calls.specs.Following.{BeginsWalks, IsGoing, IsGoingFor}
use Rattle.mb_calls.specs.declared.resuming.Performing.{Performing}
use Rattle.mb_iface.proofs.NeedBlocks.{each_block}
use Rattle.mb_iface.specs.Needs.{blocks_of}
use Rattle.mb_iface.specs.declared.replies.Need.{Need}
use Rattle.mb_callers.specs.Gathering.{with_blocks, with_tables}
use Rattle.mb_copies.specs.Reads.{numbers, stored}
use Rattle.mb_copies.proofs.Stored.{kept_stored}
use Rattle.mb_copies.proofs.Numbers.{first_of}
use Rattle.mb_cache.specs.Kept.{CopyList, KeptBlock, kept_at, shown}
use Rattle.mb_core_spec.specs.Copies.{PagesState, TableCopy}
use Rattle.mb_kinds.specs.declared.calls.Call.{Call}
use Rattle.mb_run.specs.Pages.{PagesGrow, IsUnderWay, LacksAll, has}
use Rattle.mb_tree.specs.declared.seats.Seat.{Seat}
use Rattle.std.proofs.lemmas.Option.{same_Some}
use Rattle.std.specs.List.{AllByRecursion}
use Rattle.std.specs.Prelude.{slice_get, unwrap_or}

-- ---- copies that are stored

no_true : false ≡ true → ⊥
no_true same = cc

-- it is none of them
abbrev IsNoneOf : ℕ → List ℕ → Type 0
IsNoneOf block blocks = AllByRecursion (λ (other : ℕ). nat_eq block other ≡ false) blocks

-- a block that was not read has its copy still
stored_other : (copies reads : CopyList) (block : ℕ) → IsNoneOf block (numbers reads) → kept_at (stored copies reads) block ≡ kept_at copies block
stored_other copies [] block apart = refl
stored_other copies (read ∷ reads) block apart =
    stored_other (stored copies (read ∷ [])) reads block apart.1
    ∙ kept_stored copies read.0 read.1 block ∙ ap (λ b. cond b (Some read.1) (kept_at copies block)) apart.0

each_grows : (before now : Option KeptBlock) → (is_some before ≡ true → now ≡ before) → IfSome (option_map (λ (kept : KeptBlock). kept.bytes) before) (λ bytes. option_map (λ (kept : KeptBlock). kept.bytes) now ≡ Some bytes)
each_grows None now same = tt
each_grows (Some kept) now same = ap (option_map (λ (k : KeptBlock). k.bytes)) (same refl)

-- ---- pages

given_stays : (tables : Option TableCopy) → IfSome tables (λ (given : TableCopy). tables ≡ Some given)
given_stays None = tt
given_stays (Some given) = refl

none_given : (tables : Option TableCopy) (P : TableCopy → Type 0) → is_some tables ≡ false → IfSome tables P
none_given None P none = tt
none_given (Some given) P none = absurd (no_true (sym none))

module _ (pages : PagesState) (block : ℕ) (there : is_some (kept_at pages.blocks block) ≡ true) where
  -- a block that is there is none that is lacking
  apart_by : (other : ℕ) (test : Bool) → nat_eq block other ≡ test → 1 ≤ other → has pages other ≡ false → test ≡ false
  apart_by other false is some lacks = refl
  apart_by other true is some lacks =
      let number : nat_eq other 0 ≡ false = grind (arith, nat_tests, some) in
      let same : block ≡ other = grind (arith, nat_tests, is) in
      let has_none : is_some (kept_at pages.blocks other) ≡ false = ap (λ b. if b then is_some pages.tables else is_some (kept_at pages.blocks other)) (sym number) ∙ lacks in
      absurd (no_true (sym has_none ∙ sym (ap (λ n. is_some (kept_at pages.blocks n)) same) ∙ there))

  none_of : (blocks : List ℕ) → AllByRecursion (λ (other : ℕ). 1 ≤ other) blocks → AllByRecursion (λ (other : ℕ). has pages other ≡ false) blocks → IsNoneOf block blocks
  none_of [] some lacks = tt
  none_of (other ∷ blocks) some lacks = (apart_by other (nat_eq block other) refl some.0 lacks.0, none_of blocks some.1 lacks.1)

module _ (pages : PagesState) (need : Need) (lacks : LacksAll pages need) where
  -- the numbers that are asked for are those of blocks, not of the tables
  numbered : 1 ≤ need.first → AllByRecursion (λ (other : ℕ). 1 ≤ other) (blocks_of need)
  numbered some = each_block need (λ (other : ℕ). 1 ≤ other) (λ block from below. omega (arith, some, from)) (λ at below is. omega (arith, is))

  pub blocks_grow : (reads : CopyList) → 1 ≤ need.first → numbers reads ≡ blocks_of need → PagesGrow pages (with_blocks pages reads)
  blocks_grow reads some are = record {
    blocks = λ block. each_grows (kept_at pages.blocks block) (kept_at (stored pages.blocks reads) block)
        (λ there. stored_other pages.blocks reads block (subst (IsNoneOf block) (sym are) (none_of pages block there (blocks_of need) (numbered some) lacks)));
    tables = given_stays pages.tables;
  }

  pub tables_grow : (now : TableCopy) → need.first ≡ 0 → 1 ≤ need.count → PagesGrow pages (with_tables pages now)
  tables_grow now none some = record {
    blocks = λ block. each_grows (kept_at pages.blocks block) (kept_at pages.blocks block) (λ there. refl);
    tables = none_given pages.tables (λ (given : TableCopy). Some now ≡ Some given) (subst (λ n. has pages n ≡ false) none (first_of need (λ (block : ℕ). has pages block ≡ false) some lacks));
  }

-- ---- a call that goes on, or begins

never_some : (seats : List Seat) → Some seats ≡ None → ⊥
never_some seats same = cc

pub given_by : (tables : Option TableCopy) (seats : List Seat) (P : List Seat → Type 0) → Some seats ≡ option_map (λ (given : TableCopy). given.sessions) tables → IfSome tables (λ (given : TableCopy). P given.sessions) → P seats
given_by None seats P is holds = absurd (never_some seats is)
given_by (Some given) seats P is holds = subst P (sym (same_Some seats given.sessions is)) holds

-- a call that went on so far can go on over what it gathered, and so can one that begins at its session
pub going_from : (pages : PagesState) (caller : ℕ) (call : Call) (way : Option Performing) (fresh on : Performing) (seats : List Seat) (own : Seat) → Some seats ≡ option_map (λ (given : TableCopy). given.sessions) pages.tables
    → IsUnderWay pages caller call way → on ≡ unwrap_or way fresh → slice_get seats caller ≡ Some own → BeginsWalks own fresh → IsGoingFor (shown pages.blocks) seats caller call on
going_from pages caller call None fresh on seats own given under is at begins = λ seat here.
    subst (λ (p : Performing). IsGoing (shown pages.blocks) seat call p) (sym is) (subst (λ (s : Seat). IsGoing (shown pages.blocks) s call fresh) (same_Some own seat (sym at ∙ here)) (begins (shown pages.blocks) call))
going_from pages caller call (Some was) fresh on seats own given under is at begins =
    subst (λ (p : Performing). IsGoingFor (shown pages.blocks) seats caller call p) (sym is) (given_by pages.tables seats (λ (all : List Seat). IsGoingFor (shown pages.blocks) all caller call was) given under)

-- a declared caller has a session
pub seated_within : (tables : Option TableCopy) (seats : List Seat) (callers caller : ℕ) → Some seats ≡ option_map (λ (given : TableCopy). given.sessions) tables → IfSome tables (λ (given : TableCopy). length given.sessions ≡ callers) → caller < callers → caller < length seats
seated_within tables seats callers caller given long within = subst (λ n. caller < n) (sym (given_by tables seats (λ (all : List Seat). length all ≡ callers) given long)) within
