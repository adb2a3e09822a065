-- The callers' sessions: descriptors, open files, and what a call does to them.
use Rattle.std.specs.Prelude.{List, ℕ, ◌<◌, Bool, true, false, not, ◌==◌, if◌then◌else◌, Option, Some, None, option_map, option_and_then, unwrap_or, map, sum_by, slice_get, slice_set}
use Rattle.std.specs.FinMap as fin
use Rattle.mb_kinds.specs.declared.calls.How.{How}
use Rattle.mb_kinds.specs.declared.calls.How.TheVariants.{Reading, Writing, Both}
use Rattle.mb_tree.specs.Maps.{Numbered, changed_at}
use Rattle.mb_tree.specs.Counting.{sum_below, first_from, any_from}
use Rattle.mb_tree.specs.declared.seats.PlainFile.{PlainFile}
use Rattle.mb_tree.specs.declared.seats.Seat.{Seat}
use Rattle.mb_tree.specs.declared.seats.SessionChange.{SessionChange}
use Rattle.mb_tree.specs.declared.seats.SessionChange.TheVariants.{Same, Fresh, Twin, Free, Move, Cwd, Mask, Clear}

abbrev pub reads : How → Bool
reads Reading = true
reads Writing = false
reads Both = true

abbrev pub writes : How → Bool
writes Reading = false
writes Writing = true
writes Both = true

-- descriptors 0 to 2 stand for the terminal; files get 3 to 19, the lowest free one first
abbrev pub free_descriptor : Seat → Option ℕ
free_descriptor seat = first_from (λ fd. not (fin.contains_key seat.fds fd)) 3 17

-- a new open file takes the least free place; there are as many places as descriptors
abbrev pub free_place : Seat → Option ℕ
free_place seat = first_from (λ place. not (fin.contains_key seat.files place)) 0 17

-- the open file of a descriptor, None for a bad one
abbrev pub file_on : Seat → ℕ → Option PlainFile
file_on seat fd = option_and_then (fin.get seat.files) (fin.get seat.fds fd)

abbrev pub is_at_place : ℕ → Option ℕ → Bool
is_at_place place None = false
is_at_place place (Some other) = place == other

-- whether a descriptor is on the open file at a place
abbrev pub has_place : Numbered ℕ → ℕ → Bool
has_place fds place = any_from (λ fd. is_at_place place (fin.get fds fd)) 3 17

-- whether another descriptor is on the same open file
abbrev pub is_shared : Seat → ℕ → Bool
is_shared seat fd = unwrap_or (option_map (has_place (fin.remove seat.fds fd)) (fin.get seat.fds fd)) false

-- the inodes of a caller's open files, one for each, by rising places
abbrev pub inos_of : Seat → List ℕ
inos_of seat = map (λ (file : PlainFile). file.ino) (fin.values seat.files)

-- a descriptor on a new open file
abbrev pub opened : Seat → ℕ → PlainFile → Option ℕ → Seat
opened seat fd file None = seat
opened seat fd file (Some place) = record seat { fds = fin.insert seat.fds fd place; files = fin.insert seat.files place file }

-- a second descriptor on an open file
abbrev pub doubled : Seat → ℕ → Option ℕ → Seat
doubled seat to None = seat
doubled seat to (Some place) = record seat { fds = fin.insert seat.fds to place }

-- a descriptor freed; a place is free again once no descriptor has it
abbrev pub closed : Seat → ℕ → Option ℕ → Seat
closed seat fd None = seat
closed seat fd (Some place) = record seat {
  fds = fin.remove seat.fds fd;
  files = if has_place (fin.remove seat.fds fd) place then seat.files else fin.remove seat.files place;
}

-- the offset of an open file set
abbrev pub moved : Seat → ℕ → Option ℕ → Seat
moved seat offset None = seat
moved seat offset (Some place) = record seat { files = changed_at seat.files place (λ file. record file { offset = offset }) }

-- the descriptor that a change puts in use is below 20
abbrev pub HasDescriptorInRange : SessionChange → Type 0
HasDescriptorInRange (Fresh fd ino how) = fd < 20
HasDescriptorInRange (Twin fd to) = to < 20
HasDescriptorInRange _ = Unit {0}

abbrev pub changed : Seat → SessionChange → Seat
changed seat Same = seat
changed seat (Fresh fd ino how) = opened seat fd (record { ino = ino; how = how; offset = 0 }) (free_place seat)
changed seat (Twin fd to) = doubled seat to (fin.get seat.fds fd)
changed seat (Free fd) = closed seat fd (fin.get seat.fds fd)
changed seat (Move fd offset) = moved seat offset (fin.get seat.fds fd)
changed seat (Cwd ino) = record seat { cwd = ino }
changed seat (Mask mask) = record seat { umask = mask }
changed seat Clear = record seat { fds = fin.empty; files = fin.empty }

-- one caller's session changed, the others' as they were
abbrev pub with_change : List Seat → ℕ → SessionChange → List Seat
with_change seats caller change = unwrap_or (option_map (λ seat. slice_set seats caller (changed seat change)) (slice_get seats caller)) seats

-- for each inode, how many open files there are on it
abbrev pub Counts : Type 0
Counts = ℕ → ℕ

-- 1 for an open file on the inode
abbrev pub held_by : ℕ → Option PlainFile → ℕ
held_by ino None = 0
held_by ino (Some file) = if file.ino == ino then 1 else 0

-- a caller's open files on an inode
abbrev pub held_in : Seat → ℕ → ℕ
held_in seat ino = sum_below (λ place. held_by ino (fin.get seat.files place)) 17

abbrev pub counts : List Seat → Counts
counts seats ino = sum_by (λ seat. held_in seat ino) seats
