-- Which blocks an answer may ask for, whatever the view.
use Rattle.std.specs.Prelude.{List, ◌++◌, ℕ, ◌≤◌, ◌<◌, ◌≡◌, ◌+◌, ◌⊎◌, Option, None, IsSome, filter, nat_eq, not}
use Rattle.std.specs.List.{range_with_len}
use Rattle.mb_iface.specs.declared.replies.Need.{Need}
use Rattle.mb_iface.specs.declared.replies.Asked.{Asked}
use Rattle.mb_iface.specs.declared.replies.Asked.TheVariants as asked
use Rattle.mb_iface.specs.declared.replies.Acted.{Acted}
use Rattle.mb_iface.specs.declared.replies.Acted.TheVariants as acted

-- the blocks that are asked for: those of the run, and the others, of which 0 is none
abbrev pub blocks_of : Need → List ℕ
blocks_of need = range_with_len need.first need.count ++ filter (λ (block : ℕ). not (nat_eq block 0)) need.others

-- one to 32 blocks of a volume, from one that the view lacks on, and some others
pub record IsNeed (shown : ℕ → Option (List ℕ)) (need : Need) : Type 0 where
  pub lacking : shown need.first ≡ None
  pub above : 1 ≤ need.first
  pub below : need.first ≤ 262143
  pub some : 1 ≤ need.count
  pub few : need.count ≤ 32

-- the longest run of blocks from one on that a view lacks, as far as they are wanted
pub record IsRun (shown : ℕ → Option (List ℕ)) (first wanted : ℕ) (need : Need) : Type 0 where
  pub begins : need.first ≡ first
  pub few : need.count ≤ wanted
  pub inside : first + need.count ≤ 262144
  pub lacking : (block : ℕ) → first ≤ block → block < first + need.count → shown block ≡ None
  -- it ends after 32 blocks or the wanted ones, at a volume's last block, or before a block that the view has
  pub longest : (need.count ≡ 32) ⊎ (need.count ≡ wanted) ⊎ (first + need.count ≡ 262144) ⊎ IsSome (shown (first + need.count))

abbrev pub AsksFor : (ℕ → Option (List ℕ)) → Asked → Type 0
AsksFor shown (asked.Found answer) = Unit {0}
AsksFor shown (asked.Refused e) = Unit {0}
AsksFor shown (asked.Need need) = IsNeed shown need
AsksFor shown asked.NoMemory = Unit {0}

abbrev pub ActsFor : (ℕ → Option (List ℕ)) → Acted → Type 0
ActsFor shown (acted.Done changes pick) = Unit {0}
ActsFor shown (acted.Refused e) = Unit {0}
ActsFor shown (acted.Need need) = IsNeed shown need
ActsFor shown acted.NoMemory = Unit {0}
