-- What a call that is logged, and a fault, make of the tables.
use Rattle.std.specs.Prelude.{List, [], ◌∷◌, ℕ, ◌+◌, ◌-◌, ◌^◌, Bool, true, false, min, Option, Some, None}
use Rattle.std.specs.FinMap as fin
use Rattle.mb_edge.specs.Damage.{OpenCounts, count_replaced}
use Rattle.mb_edge.specs.declared.strokes.Stroke.{Stroke}
use Rattle.mb_edge.specs.declared.strokes.Stroke.TheVariants.{Wipe, Page, Count}
use Rattle.mb_iface.specs.OpenCounts.{count_of, with_count}
use Rattle.mb_tree.specs.Sessions.{with_change}
use Rattle.mb_tree.specs.declared.operations.FsOp.{FsOp}
use Rattle.mb_tree.specs.declared.operations.FsOp.TheVariants.{Create, Empty, Hold, Release}
use Rattle.mb_tree.specs.declared.seats.SessionChange.{SessionChange}
use Rattle.mb_tree.specs.declared.seats.SessionChange.TheVariants.{Cwd}
use Rattle.mb_core_spec.specs.Callers.{one_if}
use Rattle.mb_core_spec.specs.Copies.{LiveTables}

-- one open file more on an inode; a count has 32 bits and stays at the greatest
abbrev pub held_once_more : OpenCounts → ℕ → OpenCounts
held_once_more opens ino = with_count opens ino (min (count_of opens ino + 1) (2 ^ 32 - 1))

-- one open file less for each time that an inode's number stands in the list
abbrev pub released_each : OpenCounts → List ℕ → OpenCounts
released_each opens [] = opens
released_each opens (ino ∷ inos) = released_each (with_count opens ino (count_of opens ino - 1)) inos

-- the counts of open files after an operation, with the number of the inode that it made
abbrev pub followed : OpenCounts → FsOp → Option ℕ → OpenCounts
followed opens (Create dir name mode uid gid moment) None = opens
followed opens (Create dir name mode uid gid moment) (Some ino) = held_once_more opens ino
followed opens (Empty ino moment) pick = held_once_more opens ino
followed opens (Hold ino) pick = held_once_more opens ino
followed opens (Release inos) pick = released_each opens inos
followed opens _ pick = opens

-- the counts after an operation, or after none
abbrev pub followed_if : OpenCounts → Option FsOp → Option ℕ → OpenCounts
followed_if opens None pick = opens
followed_if opens (Some op) pick = followed opens op pick

-- an operation that may change a count of open files
abbrev pub opens_files : FsOp → Bool
opens_files (Create dir name mode uid gid moment) = true
opens_files (Empty ino moment) = true
opens_files (Hold ino) = true
opens_files (Release inos) = true
opens_files _ = false

abbrev pub opens_any : Option FsOp → Bool
opens_any None = false
opens_any (Some op) = opens_files op

-- whether another call can see what a call does to the tables: to a count of open files, or to a current directory
abbrev pub is_seen : Option FsOp → SessionChange → Bool
is_seen op (Cwd ino) = true
is_seen op _ = opens_any op

-- the tables after a call that is logged: its session changed, the counts as its operation leaves them, and the stamp one
-- more where another call can see it
abbrev pub tables_after : LiveTables → ℕ → Option FsOp → Option ℕ → SessionChange → LiveTables
tables_after live caller op pick made = record live {
  sessions = with_change live.sessions caller made;
  opens = followed_if live.opens op pick;
  stamp = live.stamp + one_if (is_seen op made);
}

-- what a stroke of a fault leaves of the counts of open files: one of a page leaves them all
abbrev pub count_stroke : OpenCounts → Stroke → OpenCounts
count_stroke opens (Wipe byte) = opens
count_stroke opens (Page nth bytes) = opens
count_stroke opens (Count ino count) = count_replaced opens ino count (fin.get opens ino)

-- what the strokes of a fault leave, done in order
abbrev pub counts_damaged : OpenCounts → List Stroke → OpenCounts
counts_damaged opens [] = opens
counts_damaged opens (stroke ∷ strokes) = counts_damaged (count_stroke opens stroke) strokes
