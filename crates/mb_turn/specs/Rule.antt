-- The rule on the table behind a turn: word 0 is the turn, word 1 the count of entries, and slot 0 is where the value is at home.
-- The rule speaks of one value: the one at home, or as the pass that has the turn has published it last.
use Rattle.std.specs.Prelude.{◌≡◌, ℕ, zero, suc, ◌+◌, ◌<◌, ◌≤◌, ◌==◌, Bool, true, false, List, [], ◌∷◌, length, slice_index, Option, Some, None}
use mathlib.Core.Option.{some}
use lib.ListN.{get_elem?}
use Rattle.atomic_table.specs.Table.{State, Me}
use Rattle.mb_kinds.specs.declared.Entry.{Entry}
use Rattle.mb_kinds.specs.declared.Stand.{Stand}
use Rattle.mb_turn.specs.Passes.{EachIn, Known, Follows}
use Rattle.mb_turn.specs.declared.sight.LastSeen.{LastSeen}
use Rattle.mb_turn.specs.declared.sight.SeatView.{SeatView}
use Rattle.mb_turn.specs.declared.sight.Key.{Key}

-- f of each element, added up
abbrev pub total : {X : Type 0} → (X → ℕ) → List X → ℕ
total f [] = 0
total f (x ∷ xs) = f x + total f xs

abbrev pub one_if : Bool → ℕ
one_if true = 1
one_if false = 0

module _ {T : Type 0} where
  abbrev pub sight : ℕ → T → LastSeen T
  sight caller value = record { caller = caller; value = value }

  -- what a pass knows: one sight, without the turn or with it
  abbrev pub free : ℕ → T → SeatView T
  free caller value = record { sights = sight caller value ∷ []; holds = false }

  abbrev pub held : ℕ → T → SeatView T
  held caller value = record { sights = sight caller value ∷ []; holds = true }

  -- the seat of a pass between two calls: while it has the turn, the slot is out with it, and empty
  abbrev pub resting : ℕ → T → Bool → Me (Option T) (SeatView T)
  resting caller value true = (held caller value, (0, None) ∷ [])
  resting caller value false = (free caller value, [])

  -- the sight of a card, and of a pass
  abbrev pub sight_of_card : ℕ × T → LastSeen T
  sight_of_card card = sight card.0 card.1

  abbrev pub sight_of_pass : Known T → LastSeen T
  sight_of_pass pass = sight pass.caller pass.value

  -- how many sights a view has, whether it has the turn, and how many sights of a caller it has
  abbrev pub width : SeatView T → ℕ
  width v = length v.sights

  abbrev pub holding : SeatView T → ℕ
  holding v = one_if v.holds

  abbrev pub shares : ℕ → SeatView T → ℕ
  shares caller v = total (λ (x : LastSeen T). one_if (x.caller == caller)) v.sights

  -- the sights of the first value, for n callers from that one on
  abbrev pub sights_from : ℕ → ℕ → T → List (LastSeen T)
  sights_from caller zero value = []
  sights_from caller (suc n) value = sight caller value ∷ sights_from (caller + 1) n value

  -- a view of several callers, without the turn
  abbrev pub idle : List (LastSeen T) → SeatView T
  idle sights = record { sights = sights; holds = false }

  -- the first seat has a sight of each caller
  abbrev pub first_view : Key T → SeatView T
  first_view key = idle (sights_from 0 key.callers key.first.value)

module _ {T Origin : Type 0} (list : T → List Entry) (stand : T → ℕ → Option Stand) (origin : T → Origin) (tally : T → ℕ) where
  -- a view of the value `now`: it follows what each sight saw, and the one that has the turn saw it whole
  pub record Fits (callers : ℕ) (now : T) (v : SeatView T) : Type 0 where
    pub sights : EachIn (λ (x : LastSeen T). Follows list stand origin tally x.caller x.value now) v.sights
    pub numbers : EachIn (λ (x : LastSeen T). x.caller < callers) v.sights
    pub held_is : v.holds ≡ true → (width v ≡ 1) × EachIn (λ (x : LastSeen T). x.value ≡ now) v.sights

  pub record Kept (key : Key T) (s : State (Option T) (SeatView T)) : Type 0 where
    pub now : T
    pub words : length s.words ≡ 2
    pub count : slice_index s.words 1 ≡ length (list now)
    pub turn : slice_index s.words 0 ≤ 1
    -- one view says that it has the turn where word 0 is 1, and none where it is 0
    pub holders : total holding s.views ≡ slice_index s.words 0
    pub widths : total width s.views ≡ key.callers
    -- no two sights are of one caller
    pub apart : (caller : ℕ) → total (shares caller) s.views ≤ 1
    pub home : slice_index s.words 0 ≡ 0 → get_elem? s.homes 0 ≡ some (some (Some now))
    pub fits : (id : ℕ) (v : SeatView T) → get_elem? s.views id ≡ some v → Fits key.callers now v
