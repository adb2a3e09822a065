-- What a volume keeps of block 1's cache of free numbers, and of an inode that comes free, on numbers.
use Rattle.std.specs.Prelude.{◌-◌, ◌*◌, ◌/◌, ◌%◌, [], ◌∷◌, ◌++◌, ℕ, List, length, replicate, slice_set}
use Rattle.mb_tree.specs.Views.{IsFreedWiped, KeepsCache}

-- numbers below 65,536 as words, each with its low byte first
abbrev pub words : List ℕ → List ℕ
words [] = []
words (n ∷ ns) = n % 256 ∷ n / 256 ∷ words ns

-- block 1 of a volume whose i-list has two blocks, and so 16 inodes (`s_isize` is 4), with these numbers in its cache
abbrev pub super_with : List ℕ → List ℕ
super_with numbers = 4 ∷ replicate 207 0 ++ words (length numbers ∷ numbers) ++ replicate (302 - 2 * length numbers) 0

-- a block of inodes whose first one is a file in use, of the mode 100644 in octal, with one name
abbrev pub in_use : List ℕ
in_use = 164 ∷ 129 ∷ 1 ∷ replicate 509 0

-- one whose first inode is free, and still has so many names
abbrev pub free_with : ℕ → List ℕ
free_with names = 0 ∷ 0 ∷ names ∷ replicate 509 0

-- one whose first inode is free, and has zeros but for the byte at 51
abbrev pub wiped : List ℕ
wiped = slice_set (replicate 512 0) 51 7

-- of inode 9, the first one of its block, as it was and as it is
abbrev pub NinthComesTo : List ℕ → List ℕ → Type 0
NinthComesTo old new = IsFreedWiped (λ block. old) (λ block. new) 9

pub record WorkedKept : Type 0 where
  -- a cache may lose numbers, and get those that it had, though no inode has them, and those from 3 to 16
  pub gets : KeepsCache (super_with (5 ∷ 200 ∷ [])) (super_with (200 ∷ 3 ∷ 16 ∷ []))
  pub none_past : KeepsCache (super_with (5 ∷ [])) (super_with (17 ∷ [])) → ⊥
  pub not_the_root : KeepsCache (super_with (5 ∷ [])) (super_with (2 ∷ [])) → ⊥
  -- an inode that comes free is wiped, and one that was free keeps its bytes, or is wiped
  pub freed : NinthComesTo in_use wiped
  pub not_wiped : NinthComesTo in_use (free_with 1) → ⊥
  pub stays : NinthComesTo (free_with 1) (free_with 1)
  pub wipes : NinthComesTo (free_with 1) wiped
  pub changes : NinthComesTo (free_with 1) (free_with 2) → ⊥
  pub used : NinthComesTo (free_with 1) in_use
