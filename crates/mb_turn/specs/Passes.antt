-- What a pass knows of the value behind its turn, and what that value may become while the pass has the turn.
-- A value stands for its entries (`list`), for a stand of each caller (`stand`), for an origin that never changes (`origin`), and
-- for a number that no caller raises (`tally`).
use Rattle.std.specs.Prelude.{◌≡◌, ◌≢◌, ◌≤◌, ℕ, Bool, false, List, ◌++◌, map, Option, IsSomeAnd}
use Rattle.std.specs.List.{AllByRecursion, range_with_len}
use mathlib.Core.List.{IsPrefix}
use Rattle.atomic_table.specs.Seated.{TableId}
use Rattle.mb_kinds.specs.Own.{own}
use Rattle.mb_kinds.specs.declared.Entry.{Entry}
use Rattle.mb_kinds.specs.declared.Stand.{Stand}

-- P holds of each element
abbrev pub EachIn : {X : Type 0} → (X → Type 0) → List X → Type 0
EachIn P xs = AllByRecursion P xs

-- a caller's pass: the table of its turn, the value as the caller saw it last, and whether it has the turn
pub record Known (T : Type 0) : Type 0 where
  pub table : TableId
  pub caller : ℕ
  pub value : T
  pub holds : Bool

abbrev pub known : {T : Type 0} → TableId → ℕ → T → Bool → Known T
known table caller value holds = record { table = table; caller = caller; value = value; holds = holds }

-- a turn: its table, and how many callers it has
pub record Room : Type 0 where
  pub table : TableId
  pub callers : ℕ

-- there is a stand, and that many of its calls have begun
abbrev pub Begins : Option Stand → ℕ → Type 0
Begins stand count = IsSomeAnd stand (λ (s : Stand). s.begun ≡ count)

module _ {T : Type 0} where
  -- the entries that the pass has seen
  abbrev pub seen : (T → List Entry) → Known T → List Entry
  seen list pass = list pass.value

  -- those of them that are its caller's
  abbrev pub mine : (T → List Entry) → Known T → List Entry
  mine list pass = own (list pass.value) pass.caller

  abbrev pub origin_of : {Origin : Type 0} → (T → Origin) → Known T → Origin
  origin_of origin pass = origin pass.value

  abbrev pub tally_of : (T → ℕ) → Known T → ℕ
  tally_of tally pass = tally pass.value

  -- its caller's stand
  abbrev pub stand_of : (T → ℕ → Option Stand) → Known T → Option Stand
  stand_of stand pass = stand pass.value pass.caller

  -- of a pass that has the turn: the stands of all callers in the value that it took
  abbrev pub found : (T → ℕ → Option Stand) → Known T → ℕ → Option Stand
  found stand pass = stand pass.value

  -- a pass of that table's turn which has not the turn
  abbrev pub IsIdle : TableId → Known T → Type 0
  IsIdle table pass = (pass.table ≡ table) × (pass.holds ≡ false)

  -- one pass for each caller from 0 on, in order, which has seen the value
  abbrev pub dealt : TableId → ℕ → T → List (Known T)
  dealt table callers value = map (λ caller. known table caller value false) (range_with_len 0 callers)

  -- every caller but this one stands as it stood
  abbrev pub OthersStand : (T → ℕ → Option Stand) → ℕ → T → T → Type 0
  OthersStand stand caller took value = (other : ℕ) → other ≢ caller → stand value other ≡ stand took other

-- the list is what it was, followed by entries of that caller alone
pub record ContinuesBy (caller : ℕ) (took now : List Entry) : Type 0 where
  pub new : List Entry
  pub whole : now ≡ took ++ new
  pub all_own : EachIn (λ (entry : Entry). entry.caller ≡ caller) new

module _ {T Origin : Type 0} (list : T → List Entry) (stand : T → ℕ → Option Stand) (origin : T → Origin) (tally : T → ℕ) where
  -- the value `now` is one that may come after what that caller saw
  pub record Follows (caller : ℕ) (saw now : T) : Type 0 where
    pub same : origin now ≡ origin saw
    pub goes_on : IsPrefix (list saw) (list now)
    pub keeps_own : own (list now) caller ≡ own (list saw) caller
    pub stands : stand now caller ≡ stand saw caller
    pub fewer : tally now ≤ tally saw

  -- the value `now` is one that the caller may give back for the one that it took
  pub record Adds (caller : ℕ) (took now : T) : Type 0 where
    pub same : origin now ≡ origin took
    pub entries : ContinuesBy caller (list took) (list now)
    pub others : OthersStand stand caller took now
    pub fewer : tally now ≤ tally took
