-- How what passes know composes over several holds of the turn.
use Rattle.std.specs.Prelude.{◌≡◌, ◌≢◌, ℕ, List, [], ◌++◌, Option}
use mathlib.Core.List.{IsPrefix}
use Rattle.mb_kinds.specs.Own.{own}
use Rattle.mb_kinds.specs.declared.Entry.{Entry}
use Rattle.mb_kinds.specs.declared.Stand.{Stand}
use Rattle.mb_turn.specs.Passes.{ContinuesBy, Follows}

-- the list is what was seen, followed by entries of other callers
pub record OthersCame (caller : ℕ) (saw now : List Entry) : Type 0 where
  pub came : List Entry
  pub whole : now ≡ saw ++ came
  pub none_own : own came caller ≡ []

-- what comes between two looks of a caller, while its own entries stay the same, is of other callers
abbrev pub OthersCameBetween : Type 0
OthersCameBetween = (caller : ℕ) (saw now : List Entry) → IsPrefix saw now → own now caller ≡ own saw caller → OthersCame caller saw now

abbrev pub OthersCameComposes : Type 0
OthersCameComposes = (caller : ℕ) (first second third : List Entry) → OthersCame caller first second → OthersCame caller second third → OthersCame caller first third

-- a caller's new entries stand behind its older ones
abbrev pub OwnGrows : Type 0
OwnGrows = (caller : ℕ) (took now : List Entry) (more : ContinuesBy caller took now) → own now caller ≡ own took caller ++ more.new

-- and no other caller's entries change by them
abbrev pub OthersStay : Type 0
OthersStay = (caller other : ℕ) (took now : List Entry) → caller ≢ other → ContinuesBy caller took now → own now other ≡ own took other

-- what follows what follows a value follows that value
abbrev pub FollowsComposes : {T Origin : Type 0} → (T → List Entry) → (T → ℕ → Option Stand) → (T → Origin) → (T → ℕ) → Type 0
FollowsComposes {T} list stand origin tally =
    (caller : ℕ) (first second third : T) → Follows list stand origin tally caller first second → Follows list stand origin tally caller second third → Follows list stand origin tally caller first third
