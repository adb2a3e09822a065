-- The i-list scanned for free numbers (V7 filsys(5)).
use Rattle.std.specs.Prelude.{List, [], ◌∷◌, ℕ, zero, suc, ◌+◌, ◌-◌, ◌*◌, ◌<◌, ◌≤◌, ◌≡◌, ◌⊎◌, false, Option}
use Rattle.mb_word.specs.Fields.{isize_of}
use Rattle.mb_word.specs.Numbers.{word_at}
use Rattle.mb_tree.specs.Views.{over, IsPart}
use Rattle.mb_kinds.specs.Changed.{ChangeList, changed, IsWithinView}
use Rattle.mb_iface.specs.Needs.{IsNeed}
use Rattle.mb_blocks.specs.Rules.{KeepsRules}
use Rattle.mb_alloc.specs.Numbers.{free_numbers, is_free_number, IsCacheSet}
use Rattle.mb_alloc.specs.declared.numbers.Scanned.{Scanned}
use Rattle.mb_alloc.specs.declared.numbers.Scanned.TheVariants as scanned
use Rattle.mb_alloc.specs.declared.picks.Picked.{Picked}
use Rattle.mb_alloc.specs.declared.picks.Picked.TheVariants as picked

-- so many words that stand at the end of 200 bytes, from the last but some backwards
abbrev pub words_back : List ℕ → ℕ → ℕ → List ℕ
words_back list from zero = []
words_back list from (suc n) = word_at list (198 - 2 * from) ∷ words_back list (suc from) n

-- eight numbers from one on are those of a block of the i-list, and in use
pub record AreUsed (shown : ℕ → Option (List ℕ)) (changes : ChangeList) (size ino : ℕ) : Type 0 where
  pub within : ino + 8 ≤ 8 * (size - 2) + 1
  pub each : (next : ℕ) → next < 8 → (blocks : ℕ → List ℕ) → IsPart shown blocks → size ≡ isize_of (over blocks (changed changes) 1) → is_free_number (over blocks (changed changes)) (ino + next) ≡ false

abbrev pub Scans : (ℕ → Option (List ℕ)) → ChangeList → ℕ → List ℕ → Scanned → Type 0
Scans shown changes size list (scanned.Found count) = (count ≤ 100)
    × ((blocks : ℕ → List ℕ) → IsPart shown blocks → size ≡ isize_of (over blocks (changed changes) 1) → words_back list 0 count ≡ free_numbers (over blocks (changed changes)))
Scans shown changes size list (scanned.Need need) = IsNeed shown need × (2 ≤ need.first) × (need.first < size)

-- the first of the numbers that a scan finds is picked, and the others are cached
abbrev pub PicksListed : (ℕ → Option (List ℕ)) → ChangeList → ChangeList → Picked → Type 0
PicksListed shown old new (picked.Ino ino) = (IsWithinView shown old → IsWithinView shown new)
    × ((blocks : ℕ → List ℕ) → IsPart shown blocks → KeepsRules (over blocks (changed old))
    → (rest : List ℕ) × (free_numbers (over blocks (changed old)) ≡ ino ∷ rest) × IsCacheSet (over blocks (changed old)) (over blocks (changed new)) rest)
PicksListed shown old new picked.NoneLeft = (new ≡ old)
    × ((blocks : ℕ → List ℕ) → IsPart shown blocks → KeepsRules (over blocks (changed old)) → free_numbers (over blocks (changed old)) ≡ [])
PicksListed shown old new (picked.Need need) = (new ≡ old) × IsNeed shown need
    × ((blocks : ℕ → List ℕ) → IsPart shown blocks → KeepsRules (over blocks (changed old)) → (need.first ≡ 1) ⊎ ((2 ≤ need.first) × (need.first < isize_of (over blocks (changed old) 1))))
PicksListed shown old new picked.NoMemory = new ≡ old
