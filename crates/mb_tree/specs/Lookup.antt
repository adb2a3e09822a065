-- How a path leads to an inode.
use Rattle.std.specs.Prelude.{List, [], ◌∷◌, ◌++◌, ℕ, Bool, not, ◌&&◌, ◌==◌, if◌then◌else◌, length, map, filter, take, get_or, replicate, Option, Ok, option_map, find, bytes_eq, slice_index, count_by, unwrap_or, option_and_then}
use Rattle.std.specs.List.{slice_split}
use Rattle.std.specs.FinMap as fin
use Rattle.mb_kinds.specs.declared.credentials.Cred.{Cred}
use Rattle.mb_kinds.specs.declared.replies.Stat.{Stat}
use Rattle.mb_kinds.specs.declared.errors.Errno.TheVariants.{ENOENT, ENOTDIR, EACCES}
use Rattle.mb_tree.specs.Answers.{Answer, ◌>>=◌, ◌>>◌, need, some}
use Rattle.mb_tree.specs.Maps.{Numbered}
use Rattle.mb_tree.specs.Inodes.{slots_of, stat_of, may}
use Rattle.mb_tree.specs.declared.nodes.PlainSlot.{PlainSlot}
use Rattle.mb_tree.specs.declared.nodes.Node.{Node}
use Rattle.mb_tree.specs.declared.lookups.Placed.{Placed}
use Rattle.mb_tree.specs.declared.lookups.Placed.TheVariants.{Itself, At}

-- the slash
abbrev pub slash : ℕ
slash = 47

-- a component as a slot's name: only its first 14 bytes count, and a shorter one is padded with 0
unfoldable pub padded : List ℕ → List ℕ
padded piece = take 14 (piece ++ replicate 14 0)

-- the components of a path: what stands between slashes, where empty pieces are ignored
abbrev pub components : List ℕ → List (List ℕ)
components path = map padded (filter (λ piece. not (length piece == 0)) (slice_split (λ byte. byte == slash) path))

-- a path that begins with a slash starts at the root, inode 2, and another at the current directory
abbrev pub start_of : ℕ → List ℕ → ℕ
start_of cwd path = if slice_index path 0 == slash then 2 else cwd

-- a slot is used where its number is not 0
abbrev pub is_used : PlainSlot → Bool
is_used slot = not (slot.ino == 0)

-- a used slot with that name
abbrev pub is_named : List ℕ → PlainSlot → Bool
is_named name slot = is_used slot && bytes_eq slot.name name

-- the number that a name leads to
abbrev pub number_of : List PlainSlot → List ℕ → Option ℕ
number_of slots name = option_map (λ slot. slot.ino) (find (is_named name) slots)

-- the same in the inode with a number: ENOTDIR where that is no directory, EACCES where the caller may not
-- search it, and None where no used slot has the name
abbrev pub look : Numbered Node → Cred → ℕ → List ℕ → Answer (Option ℕ)
look nodes cred dir name = do
  node ← some (fin.get nodes dir) ENOTDIR
  slots ← some (slots_of node.body) ENOTDIR
  need (may cred (stat_of dir node) 1) EACCES
  Ok (number_of slots name)

-- one component further
abbrev pub enter : Numbered Node → Cred → ℕ → List ℕ → Answer ℕ
enter nodes cred dir name = do
  found ← look nodes cred dir name
  some found ENOENT

-- component after component; a path without components names its start
abbrev pub walk : Numbered Node → Cred → ℕ → List (List ℕ) → Answer ℕ
walk nodes cred start [] = Ok start
walk nodes cred start (name ∷ names) = do
  next ← enter nodes cred start name
  walk nodes cred next names

-- what stat tells of the inode with a number
abbrev pub stat_in : Numbered Node → ℕ → Answer Stat
stat_in nodes ino = do
  node ← some (fin.get nodes ino) ENOENT
  Ok (stat_of ino node)

-- the inode to which a path leads
abbrev pub find_path : Numbered Node → Cred → ℕ → List ℕ → Answer Stat
find_path nodes cred cwd path = do
  ino ← walk nodes cred (start_of cwd path) (components path)
  stat_in nodes ino

-- the directory of the last component, which must be one and be searchable, with that component and the
-- number to which it leads, if any
abbrev pub place_under : Numbered Node → Cred → ℕ → List (List ℕ) → Answer Placed
place_under nodes cred start [] = Ok (Itself start)
place_under nodes cred start (name ∷ names) = do
  dir ← walk nodes cred start (take (length names) (name ∷ names))
  found ← look nodes cred dir (get_or (name ∷ names) (length names) [])
  Ok (At dir (get_or (name ∷ names) (length names) []) found)

-- the place of a path
abbrev pub find_place : Numbered Node → Cred → ℕ → List ℕ → Answer Placed
find_place nodes cred cwd path = place_under nodes cred (start_of cwd path) (components path)

-- the slots of a directory, where the inode is one
abbrev pub slots_in : Numbered Node → ℕ → Option (List PlainSlot)
slots_in nodes ino = option_and_then (λ (node : Node). slots_of node.body) (fin.get nodes ino)

-- the number to which a name leads in a directory
abbrev pub number_in : Numbered Node → ℕ → List ℕ → Option ℕ
number_in nodes dir name = option_and_then (λ slots. number_of slots name) (slots_in nodes dir)

-- how many used slots an inode has; none where it is no directory
abbrev pub used_in : Numbered Node → ℕ → ℕ
used_in nodes ino = unwrap_or (option_map (count_by is_used) (slots_in nodes ino)) 0
