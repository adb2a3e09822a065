-- What a descriptor is on, and how counts of open files tell those of the sessions.
use Rattle.std.specs.Prelude.{ℕ, ◌≡◌, Option, option_map, option_and_then}
use Rattle.std.specs.FinMap as fin
use Rattle.std.specs.Ordering.{nat_cmp}
use Rattle.mb_iface.specs.OpenCounts.{count_of}
use Rattle.mb_tree.specs.Sessions.{Counts}
use Rattle.mb_tree.specs.declared.seats.PlainFile.{PlainFile}
use Rattle.mb_tree.specs.declared.seats.Seat.{Seat}
use Rattle.mb_session.specs.declared.open_files.OpenFile.{OpenFile}

-- an open file with its place
abbrev pub at_place : ℕ → PlainFile → OpenFile
at_place place file = record { place = place; ino = file.ino; how = file.how; offset = file.offset }

-- the open file of a descriptor, with its place; None for a bad descriptor
abbrev pub open_file : Seat → ℕ → Option OpenFile
open_file seat fd = option_and_then (λ place. option_map (at_place place) (fin.get seat.files place)) (fin.get seat.fds fd)

-- a finite map of counts says of every inode how many open files are on it
abbrev pub TellsCounts : fin.FinMap nat_cmp ℕ → Counts → Type 0
TellsCounts opens held = (ino : ℕ) → count_of opens ino ≡ held ino
