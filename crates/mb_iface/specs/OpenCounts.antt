-- The counts of open files, as a finite map without zeros.
use Rattle.std.specs.Prelude.{ℕ, ◌≡◌, ◌<◌, Some, cond, nat_eq, unwrap_or}
use Rattle.std.specs.FinMap as fin
use Rattle.std.specs.Ordering.{nat_cmp}

-- the count of an inode, 0 where it is not in the map
abbrev pub count_of : fin.FinMap nat_cmp ℕ → ℕ → ℕ
count_of opens ino = unwrap_or (fin.get opens ino) 0

-- one count set; a count of 0 leaves the map
abbrev pub with_count : fin.FinMap nat_cmp ℕ → ℕ → ℕ → fin.FinMap nat_cmp ℕ
with_count opens ino count = cond (nat_eq count 0) (fin.remove opens ino) (fin.insert opens ino count)

-- each count in the map is above 0
abbrev pub AreCounts : fin.FinMap nat_cmp ℕ → Type 0
AreCounts opens = (ino count : ℕ) → fin.get opens ino ≡ Some count → 0 < count

-- two maps without zeros are equal where they count alike
abbrev pub CountsTell : Type 0
CountsTell = (m n : fin.FinMap nat_cmp ℕ) → AreCounts m → AreCounts n → ((ino : ℕ) → count_of m ino ≡ count_of n ino) → m ≡ n
