-- Free inode numbers and their cache.
use Rattle.std.specs.Prelude.{List, [], ◌∷◌, ℕ, zero, suc, ◌<◌, ◌≤◌, ◌≡◌, ◌≢◌, ◌⊎◌, Bool, true, false, cond, nat_eq, nat_lt, ◌&&◌, Option, Some, None, length, take, ◌++◌, ◌+◌}
use Rattle.std.specs.Option.{option_or}
use Rattle.mb_tree.specs.Volume.{last_inode}
use Rattle.mb_word.specs.Fields.{isize_of, ninode_of, cached_of, inode_block, inode_place, mode_of}
use Rattle.mb_word.specs.Numbers.{SameFrom}
use Rattle.mb_tree.specs.Views.{over, IsPart}
use Rattle.mb_kinds.specs.Changed.{ChangeList, changed, IsWithinView}
use Rattle.mb_iface.specs.Needs.{IsNeed}
use Rattle.mb_blocks.specs.Rules.{KeepsRules}
use Rattle.mb_alloc.specs.declared.numbers.Freedom.{Freedom}
use Rattle.mb_alloc.specs.declared.numbers.Freedom.TheVariants as freedom
use Rattle.mb_alloc.specs.declared.picks.Picked.{Picked}
use Rattle.mb_alloc.specs.declared.picks.Picked.TheVariants as picked

-- a number from 3 to the last whose inode is free
abbrev pub is_free_number : (ℕ → List ℕ) → ℕ → Bool
is_free_number blocks n = nat_lt 2 n && (nat_lt (inode_block n) (isize_of (blocks 1)) && nat_eq (mode_of (blocks (inode_block n)) (inode_place n)) 0)

-- the first so many cached numbers, the last first
abbrev pub cached_below : List ℕ → ℕ → List ℕ
cached_below b zero = []
cached_below b (suc n) = cached_of b n ∷ cached_below b n

abbrev pub cached_in : (ℕ → List ℕ) → List ℕ
cached_in blocks = cached_below (blocks 1) (ninode_of (blocks 1))

-- the first free number of a list, and what is behind it
abbrev pub pick_from : (ℕ → Bool) → List ℕ → Option (ℕ × List ℕ)
pick_from free [] = None
pick_from free (n ∷ ns) = cond (free n) (Some (n, ns)) (pick_from free ns)

-- the free numbers below one, in rising order
abbrev pub free_below : (ℕ → List ℕ) → ℕ → List ℕ
free_below blocks zero = []
free_below blocks (suc n) = free_below blocks n ++ cond (is_free_number blocks n) (n ∷ []) []

-- what a scan of the i-list puts into the cache, the last first: the free numbers in rising order, at most 100 of them
abbrev pub free_numbers : (ℕ → List ℕ) → List ℕ
free_numbers blocks = take 100 (free_below blocks (last_inode blocks + 1))

-- the number that is picked, and the cache that is left: from the cache, and where none of its numbers is free, from the
-- one that a scan makes
abbrev pub pick_of : (ℕ → List ℕ) → Option (ℕ × List ℕ)
pick_of blocks = option_or (pick_from (is_free_number blocks) (cached_in blocks)) (pick_from (is_free_number blocks) (free_numbers blocks))

-- these are the cached numbers now, the last first, and nothing else changed
pub record IsCacheSet (old new : ℕ → List ℕ) (numbers : List ℕ) : Type 0 where
  pub list : cached_in new ≡ numbers
  pub sized : length (new 1) ≡ 512
  pub front : SameFrom (new 1) (old 1) 0 208
  pub back : SameFrom (new 1) (old 1) 410 102
  pub others : (other : ℕ) → other ≢ 1 → new other ≡ old other

abbrev pub TellsFree : (ℕ → Option (List ℕ)) → ChangeList → ℕ → ℕ → Freedom → Type 0
TellsFree shown changes size ino freedom.Free = (blocks : ℕ → List ℕ) → IsPart shown blocks → size ≡ isize_of (over blocks (changed changes) 1) → is_free_number (over blocks (changed changes)) ino ≡ true
TellsFree shown changes size ino freedom.Used = (blocks : ℕ → List ℕ) → IsPart shown blocks → size ≡ isize_of (over blocks (changed changes) 1) → is_free_number (over blocks (changed changes)) ino ≡ false
TellsFree shown changes size ino (freedom.Need need) = IsNeed shown need × (2 ≤ need.first) × (need.first < size)

abbrev pub PicksCached : (ℕ → Option (List ℕ)) → ChangeList → ChangeList → Picked → Type 0
PicksCached shown old new (picked.Ino ino) = (IsWithinView shown old → IsWithinView shown new)
    × ((blocks : ℕ → List ℕ) → IsPart shown blocks → KeepsRules (over blocks (changed old))
    → (rest : List ℕ) × (pick_from (is_free_number (over blocks (changed old))) (cached_in (over blocks (changed old))) ≡ Some (ino, rest)) × IsCacheSet (over blocks (changed old)) (over blocks (changed new)) rest)
PicksCached shown old new picked.NoneLeft = (new ≡ old) × ((blocks : ℕ → List ℕ) → IsPart shown blocks → KeepsRules (over blocks (changed old))
    → pick_from (is_free_number (over blocks (changed old))) (cached_in (over blocks (changed old))) ≡ None)
PicksCached shown old new (picked.Need need) = (new ≡ old) × IsNeed shown need
    × ((blocks : ℕ → List ℕ) → IsPart shown blocks → KeepsRules (over blocks (changed old)) → (need.first ≡ 1) ⊎ ((2 ≤ need.first) × (need.first < isize_of (over blocks (changed old) 1))))
PicksCached shown old new picked.NoMemory = new ≡ old

abbrev pub Picks : (ℕ → Option (List ℕ)) → ChangeList → ChangeList → Picked → Type 0
Picks shown old new (picked.Ino ino) = (IsWithinView shown old → IsWithinView shown new)
    × ((blocks : ℕ → List ℕ) → IsPart shown blocks → KeepsRules (over blocks (changed old))
    → (rest : List ℕ) × (pick_of (over blocks (changed old)) ≡ Some (ino, rest)) × IsCacheSet (over blocks (changed old)) (over blocks (changed new)) rest)
Picks shown old new picked.NoneLeft = (new ≡ old) × ((blocks : ℕ → List ℕ) → IsPart shown blocks → KeepsRules (over blocks (changed old)) → (ino : ℕ) → is_free_number (over blocks (changed old)) ino ≡ false)
Picks shown old new (picked.Need need) = (new ≡ old) × IsNeed shown need
    × ((blocks : ℕ → List ℕ) → IsPart shown blocks → KeepsRules (over blocks (changed old)) → (need.first ≡ 1) ⊎ ((2 ≤ need.first) × (need.first < isize_of (over blocks (changed old) 1))))
Picks shown old new picked.NoMemory = new ≡ old
