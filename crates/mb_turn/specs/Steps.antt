-- What each kind of step tells the pass that makes it, and how a view is cut in two and two are made one.
-- Each is said of every sight that the seat has, which for a pass is one.
use Rattle.std.specs.Prelude.{◌≡◌, ◌≢◌, ℕ, false, List, [], ◌∷◌, ◌++◌, Option, Some, IfSome}
use Rattle.atomic_table.specs.Table.{Me}
use Rattle.mb_kinds.specs.declared.Entry.{Entry}
use Rattle.mb_kinds.specs.declared.Stand.{Stand}
use Rattle.mb_turn.specs.Passes.{EachIn, Follows}
use Rattle.mb_turn.specs.Rule.{free, held}
use Rattle.mb_turn.specs.declared.sight.LastSeen.{LastSeen}
use Rattle.mb_turn.specs.declared.sight.SeatView.{SeatView}

module _ {T Origin : Type 0} (list : T → List Entry) (stand : T → ℕ → Option Stand) (origin : T → Origin) (tally : T → ℕ) where
  -- the turn was free, and the seat has it, with a value that follows what was seen; or nothing changed
  abbrev pub took : Me (Option T) (SeatView T) → ℕ → Me (Option T) (SeatView T) → Type 0
  took before word after =
      EachIn (λ (x : LastSeen T). word ≡ 0 → (value : T) × Follows list stand origin tally x.caller x.value value × (after ≡ (held x.caller value, (0, Some value) ∷ []))) before.0.sights
      × (word ≢ 0 → after ≡ before)

module _ {T : Type 0} where
  -- the seat has seen the value that lies in the slot it has
  abbrev pub published : Me (Option T) (SeatView T) → Me (Option T) (SeatView T) → Type 0
  published before after = EachIn (λ (x : LastSeen T). EachIn (λ (y : ℕ × Option T). IfSome y.1 (λ value. after ≡ (held x.caller value, before.1))) before.1) before.0.sights

  -- the seat has neither the turn nor the slot
  abbrev pub given : Me (Option T) (SeatView T) → Me (Option T) (SeatView T) → Type 0
  given before after = EachIn (λ (x : LastSeen T). after ≡ (free x.caller x.value, [])) before.0.sights

  abbrev pub head_sights : List (LastSeen T) → List (LastSeen T)
  head_sights [] = []
  head_sights (x ∷ xs) = x ∷ []

  abbrev pub tail_sights : List (LastSeen T) → List (LastSeen T)
  tail_sights [] = []
  tail_sights (x ∷ xs) = xs

  -- the first sight, and the others
  abbrev pub head_of : SeatView T → SeatView T
  head_of v = record { sights = head_sights v.sights; holds = false }

  abbrev pub tail_of : SeatView T → SeatView T
  tail_of v = record { sights = tail_sights v.sights; holds = false }

  -- the sights of both, and no sight
  abbrev pub both_of : SeatView T → SeatView T → SeatView T
  both_of v w = record { sights = v.sights ++ w.sights; holds = false }

  abbrev pub blank : SeatView T
  blank = record { sights = []; holds = false }
