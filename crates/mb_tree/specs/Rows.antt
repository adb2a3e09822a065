-- What each call is planned to do: one function for each call, with its refusals in the order in which they
-- are tested and then the plan. The calls are those of V7's section 2; the order of a call's refusals is this
-- project's choice. ENOSPC and EMLINK come with the effect of the operation.
--
-- A row that looks up a path or an inode first is that look-up and then a continuation with a name of its own,
-- a function of what stat tells: `.._found` of the inode that was found, `.._under` of the directory under
-- which the name is missing. What a continuation looks up beside that is an argument of it.
use Rattle.std.specs.Prelude.{List, [], ◌∷◌, ℕ, ◌+◌, ◌-◌, Bool, not, ◌&&◌, ◌||◌, ◌==◌, if◌then◌else◌, length, Option, Some, None, Ok, Err, option_map, unwrap_or, ℤ, pos, negsuc, ◌+ℤ◌, nat_le, nat_lt, bit_and, slice_get, bytes_eq}
use Rattle.std.specs.List.{list_any}
use Rattle.std.specs.FinMap as fin
use Rattle.mb_kinds.specs.declared.credentials.Cred.{Cred}
use Rattle.mb_kinds.specs.declared.replies.Stat.{Stat}
use Rattle.mb_kinds.specs.declared.replies.Reply.{Reply}
use Rattle.mb_kinds.specs.declared.replies.Reply.TheVariants.{Num, Got, Info}
use Rattle.mb_kinds.specs.declared.calls.How.{How}
use Rattle.mb_kinds.specs.declared.calls.How.TheVariants.{Writing}
use Rattle.mb_kinds.specs.declared.calls.Whence.{Whence}
use Rattle.mb_kinds.specs.declared.calls.Whence.TheVariants.{Start, Here, End}
use Rattle.mb_kinds.specs.declared.calls.Call.{Call}
use Rattle.mb_kinds.specs.declared.calls.Call.TheVariants as call
use Rattle.mb_kinds.specs.declared.errors.Errno.TheVariants.{EPERM, ENOENT, ENXIO, EBADF, EACCES, EBUSY, EEXIST, ENOTDIR, EISDIR, EINVAL, EMFILE, EFBIG, ENOSPC}
use Rattle.mb_tree.specs.Answers.{Answer, ◌>>=◌, ◌>>◌, need, some}
use Rattle.mb_tree.specs.Maps.{Numbered}
use Rattle.mb_tree.specs.Inodes.{is_directory, is_special, body_size, may, read_at}
use Rattle.mb_tree.specs.Lookup.{stat_in, find_path, find_place, used_in}
use Rattle.mb_tree.specs.Sessions.{reads, writes, free_descriptor, file_on, is_shared, inos_of, counts}
use Rattle.mb_tree.specs.Effect.{dot, dot_dot}
use Rattle.mb_tree.specs.declared.nodes.Node.{Node}
use Rattle.mb_tree.specs.declared.seats.PlainFile.{PlainFile}
use Rattle.mb_tree.specs.declared.seats.Seat.{Seat}
use Rattle.mb_tree.specs.declared.machines.Machine.{Machine}
use Rattle.mb_tree.specs.declared.lookups.Placed.{Placed}
use Rattle.mb_tree.specs.declared.lookups.Placed.TheVariants.{Itself, At}
use Rattle.mb_tree.specs.declared.plans.CallPlan.{CallPlan}
use Rattle.mb_tree.specs.declared.seats.SessionChange.{SessionChange}
use Rattle.mb_tree.specs.declared.seats.SessionChange.TheVariants.{Same, Fresh, Twin, Free, Move, Cwd, Mask, Clear}
use Rattle.mb_tree.specs.declared.operations.FsOp.{FsOp}
use Rattle.mb_tree.specs.declared.operations.FsOp.TheVariants as op

-- a reply alone
abbrev pub reply : Reply → CallPlan
reply answer = record { reply = answer; op = None; session = Same }

-- a reply and a session change
abbrev pub seated : Reply → SessionChange → CallPlan
seated answer change = record { reply = answer; op = None; session = change }

-- reply 0 and an operation
abbrev pub act : FsOp → CallPlan
act operation = record { reply = Num 0; op = Some operation; session = Same }

-- all three
abbrev pub both : ℕ → FsOp → SessionChange → CallPlan
both number operation change = record { reply = Num number; op = Some operation; session = change }

-- the permission bits that a direction wants
abbrev pub bits_of : How → ℕ
bits_of how = (if reads how then 4 else 0) + (if writes how then 2 else 0)

abbrev pub open_found : Seat → How → Stat → Answer CallPlan
open_found seat how stat = do
  need (may seat.cred stat (bits_of how)) EACCES
  need (not (is_directory stat.mode && writes how)) EISDIR
  need (not (is_special stat.mode)) ENXIO
  fd ← some (free_descriptor seat) EMFILE
  Ok (both fd (op.Hold stat.ino) (Fresh fd stat.ino how))

abbrev pub open_row : Numbered Node → Seat → List ℕ → How → Answer CallPlan
open_row nodes seat path how = find_path nodes seat.cred seat.cwd path >>= open_found seat how

-- the nine permission bits without those of the mask; V7 keeps the set-id bits too
abbrev pub masked : ℕ → Seat → ℕ
masked mode seat = bit_and (bit_and mode 0x1FF) (0xFFFF - seat.umask)

abbrev pub creat_found : Seat → ℕ → ℕ → Stat → Answer CallPlan
creat_found seat moment ino stat = do
  need (may seat.cred stat 2) EACCES
  need (not (is_directory stat.mode)) EISDIR
  need (not (is_special stat.mode)) ENXIO
  fd ← some (free_descriptor seat) EMFILE
  Ok (both fd (op.Empty ino moment) (Fresh fd ino Writing))

abbrev pub creat_present : Numbered Node → Seat → ℕ → ℕ → Answer CallPlan
creat_present nodes seat moment ino = stat_in nodes ino >>= creat_found seat moment ino

-- where no number is picked no inode is free
abbrev pub creat_under : Seat → ℕ → ℕ → Option ℕ → ℕ → List ℕ → Stat → Answer CallPlan
creat_under seat mode moment pick dir name parent = do
  need (may seat.cred parent 2) EACCES
  fd ← some (free_descriptor seat) EMFILE
  ino ← some pick ENOSPC
  Ok (both fd (op.Create dir name (masked mode seat) seat.cred.uid seat.cred.gid moment) (Fresh fd ino Writing))

abbrev pub creat_missing : Numbered Node → Seat → ℕ → ℕ → Option ℕ → ℕ → List ℕ → Answer CallPlan
creat_missing nodes seat mode moment pick dir name = stat_in nodes dir >>= creat_under seat mode moment pick dir name

abbrev pub creat_at : Numbered Node → Seat → ℕ → ℕ → Option ℕ → Placed → Answer CallPlan
creat_at nodes seat mode moment pick (Itself ino) = creat_present nodes seat moment ino
creat_at nodes seat mode moment pick (At dir name (Some ino)) = creat_present nodes seat moment ino
creat_at nodes seat mode moment pick (At dir name None) = creat_missing nodes seat mode moment pick dir name

abbrev pub creat_row : Numbered Node → Seat → List ℕ → ℕ → ℕ → Option ℕ → Answer CallPlan
creat_row nodes seat path mode moment pick = find_place nodes seat.cred seat.cwd path >>= creat_at nodes seat mode moment pick

-- the open file is released with its last descriptor
abbrev pub close_row : Seat → ℕ → Answer CallPlan
close_row seat fd = do
  file ← some (file_on seat fd) EBADF
  Ok (if is_shared seat fd then seated (Num 0) (Free fd) else both 0 (op.Release (file.ino ∷ [])) (Free fd))

-- the offset grows by what is got
abbrev pub got : ℕ → ℕ → List ℕ → CallPlan
got fd offset bytes = seated (Got bytes) (Move fd (offset + length bytes))

abbrev pub read_found : ℕ → PlainFile → List ℕ → Answer CallPlan
read_found fd file bytes = Ok (got fd file.offset bytes)

abbrev pub read_row : Numbered Node → Seat → ℕ → ℕ → Answer CallPlan
read_row nodes seat fd count = do
  file ← some (file_on seat fd) EBADF
  need (reads file.how) EBADF
  node ← some (fin.get nodes file.ino) EBADF
  read_found fd file (read_at node.body file.offset count)

-- with no bytes nothing changes
abbrev pub wrote : ℕ → PlainFile → List ℕ → ℕ → CallPlan
wrote fd file [] moment = reply (Num 0)
wrote fd file (byte ∷ bytes) moment = both (length (byte ∷ bytes)) (op.Put file.ino file.offset (byte ∷ bytes) moment) (Move fd (file.offset + length (byte ∷ bytes)))

abbrev pub write_row : Seat → ℕ → List ℕ → ℕ → Answer CallPlan
write_row seat fd bytes moment = do
  file ← some (file_on seat fd) EBADF
  need (writes file.how) EBADF
  need (nat_le (file.offset + length bytes) 1082201088) EFBIG
  Ok (wrote fd file bytes moment)

-- the size of the inode with a number, 0 where there is none
abbrev pub size_in : Numbered Node → ℕ → ℕ
size_in nodes ino = unwrap_or (option_map (λ (node : Node). body_size node.body) (fin.get nodes ino)) 0

-- where an offset counts from
abbrev pub base_of : Numbered Node → PlainFile → Whence → ℕ
base_of nodes file Start = 0
base_of nodes file Here = file.offset
base_of nodes file End = size_in nodes file.ino

-- an offset is 0 to 2147483647
abbrev pub offset_at : ℤ → Option ℕ
offset_at (pos offset) = if nat_le offset 2147483647 then Some offset else None
offset_at (negsuc below) = None

-- so far from a base
abbrev pub lseek_from : ℕ → ℤ → ℕ → Answer CallPlan
lseek_from fd by base = do
  offset ← some (offset_at (pos base +ℤ by)) EINVAL
  Ok (seated (Num offset) (Move fd offset))

abbrev pub lseek_row : Numbered Node → Seat → ℕ → ℤ → Whence → Answer CallPlan
lseek_row nodes seat fd by whence = do
  file ← some (file_on seat fd) EBADF
  lseek_from fd by (base_of nodes file whence)

abbrev pub dup_row : Seat → ℕ → Answer CallPlan
dup_row seat fd = do
  file ← some (file_on seat fd) EBADF
  to ← some (free_descriptor seat) EMFILE
  Ok (seated (Num to) (Twin fd to))

abbrev pub link_under : Seat → ℕ → ℕ → ℕ → List ℕ → Stat → Answer CallPlan
link_under seat moment ino dir name parent = do
  need (may seat.cred parent 2) EACCES
  Ok (act (op.Enlink dir name ino moment))

abbrev pub link_at : Numbered Node → Seat → ℕ → ℕ → Placed → Answer CallPlan
link_at nodes seat moment ino (Itself other) = Err EEXIST
link_at nodes seat moment ino (At dir name (Some other)) = Err EEXIST
link_at nodes seat moment ino (At dir name None) = stat_in nodes dir >>= link_under seat moment ino dir name

-- beside the inode, the place of the new name
abbrev pub link_found : Numbered Node → Seat → ℕ → Answer Placed → Stat → Answer CallPlan
link_found nodes seat moment place stat = do
  need (not (is_directory stat.mode)) EPERM
  placed ← place
  link_at nodes seat moment stat.ino placed

abbrev pub link_row : Numbered Node → Seat → List ℕ → List ℕ → ℕ → Answer CallPlan
link_row nodes seat from to moment = find_path nodes seat.cred seat.cwd from >>= link_found nodes seat moment (find_place nodes seat.cred seat.cwd to)

-- beside the inode, what stat tells of the directory with the name
abbrev pub unlink_found : Seat → ℕ → ℕ → List ℕ → Answer Stat → Stat → Answer CallPlan
unlink_found seat moment dir name beside stat = do
  parent ← beside
  need (may seat.cred parent 2) EACCES
  need (not (is_directory stat.mode)) EPERM
  Ok (act (op.Delink dir name moment))

abbrev pub unlink_named : Numbered Node → Seat → ℕ → ℕ → List ℕ → ℕ → Answer CallPlan
unlink_named nodes seat moment dir name ino = stat_in nodes ino >>= unlink_found seat moment dir name (stat_in nodes dir)

abbrev pub unlink_at : Numbered Node → Seat → ℕ → Placed → Answer CallPlan
unlink_at nodes seat moment (Itself ino) = Err EPERM
unlink_at nodes seat moment (At dir name None) = Err ENOENT
unlink_at nodes seat moment (At dir name (Some ino)) = unlink_named nodes seat moment dir name ino

abbrev pub unlink_row : Numbered Node → Seat → List ℕ → ℕ → Answer CallPlan
unlink_row nodes seat path moment = find_place nodes seat.cred seat.cwd path >>= unlink_at nodes seat moment

abbrev pub mkdir_under : Seat → ℕ → ℕ → ℕ → List ℕ → Stat → Answer CallPlan
mkdir_under seat mode moment dir name parent = do
  need (may seat.cred parent 2) EACCES
  Ok (act (op.MakeDir dir name (masked mode seat) seat.cred.uid seat.cred.gid moment))

abbrev pub mkdir_at : Numbered Node → Seat → ℕ → ℕ → Placed → Answer CallPlan
mkdir_at nodes seat mode moment (Itself ino) = Err EEXIST
mkdir_at nodes seat mode moment (At dir name (Some ino)) = Err EEXIST
mkdir_at nodes seat mode moment (At dir name None) = stat_in nodes dir >>= mkdir_under seat mode moment dir name

abbrev pub mkdir_row : Numbered Node → Seat → List ℕ → ℕ → ℕ → Answer CallPlan
mkdir_row nodes seat path mode moment = find_place nodes seat.cred seat.cwd path >>= mkdir_at nodes seat mode moment

-- the root, a directory that is open, and any caller's current directory
abbrev pub is_busy : List Seat → ℕ → Bool
is_busy seats ino = ino == 2 || nat_lt 0 (counts seats ino) || list_any (λ (seat : Seat). seat.cwd == ino) seats

abbrev pub is_dots : List ℕ → Bool
is_dots name = bytes_eq name dot || bytes_eq name dot_dot

-- beside the inode: whether it is busy, what stat tells of the directory with the name, and how many used
-- slots the inode has
abbrev pub rmdir_found : Seat → ℕ → ℕ → List ℕ → Bool → Answer Stat → Answer ℕ → Stat → Answer CallPlan
rmdir_found seat moment dir name busy beside used stat = do
  need (is_directory stat.mode) ENOTDIR
  need (not (is_dots name)) EINVAL
  parent ← beside
  need (may seat.cred parent 2) EACCES
  need (not busy) EBUSY
  slots ← used
  need (nat_le slots 2) EEXIST
  Ok (act (op.RemoveDir dir name moment))

abbrev pub rmdir_named : Numbered Node → List Seat → Seat → ℕ → ℕ → List ℕ → ℕ → Answer CallPlan
rmdir_named nodes seats seat moment dir name ino = stat_in nodes ino >>= rmdir_found seat moment dir name (is_busy seats ino) (stat_in nodes dir) (Ok (used_in nodes ino))

abbrev pub rmdir_at : Numbered Node → List Seat → Seat → ℕ → Placed → Answer CallPlan
rmdir_at nodes seats seat moment (Itself ino) = Err EBUSY
rmdir_at nodes seats seat moment (At dir name None) = Err ENOENT
rmdir_at nodes seats seat moment (At dir name (Some ino)) = rmdir_named nodes seats seat moment dir name ino

abbrev pub rmdir_row : Numbered Node → List Seat → Seat → List ℕ → ℕ → Answer CallPlan
rmdir_row nodes seats seat path moment = find_place nodes seat.cred seat.cwd path >>= rmdir_at nodes seats seat moment

abbrev pub chdir_found : Seat → Stat → Answer CallPlan
chdir_found seat stat = do
  need (is_directory stat.mode) ENOTDIR
  need (may seat.cred stat 1) EACCES
  Ok (seated (Num 0) (Cwd stat.ino))

abbrev pub chdir_row : Numbered Node → Seat → List ℕ → Answer CallPlan
chdir_row nodes seat path = find_path nodes seat.cred seat.cwd path >>= chdir_found seat

abbrev pub stat_found : Stat → Answer CallPlan
stat_found stat = Ok (reply (Info stat))

abbrev pub stat_row : Numbered Node → Seat → List ℕ → Answer CallPlan
stat_row nodes seat path = find_path nodes seat.cred seat.cwd path >>= stat_found

abbrev pub fstat_row : Numbered Node → Seat → ℕ → Answer CallPlan
fstat_row nodes seat fd = do
  file ← some (file_on seat fd) EBADF
  stat_in nodes file.ino >>= stat_found

abbrev pub is_owner : Cred → Stat → Bool
is_owner cred stat = cred.uid == 0 || cred.uid == stat.uid

-- 07777 in octal, and for all but uid 0 without the sticky bit 01000
abbrev pub stored : ℕ → Cred → ℕ
stored mode cred = bit_and mode (if cred.uid == 0 then 0xFFF else 0xDFF)

abbrev pub chmod_found : Seat → ℕ → ℕ → Stat → Answer CallPlan
chmod_found seat mode moment stat = do
  need (is_owner seat.cred stat) EPERM
  Ok (act (op.SetMode stat.ino (stored mode seat.cred) moment))

abbrev pub chmod_row : Numbered Node → Seat → List ℕ → ℕ → ℕ → Answer CallPlan
chmod_row nodes seat path mode moment = find_path nodes seat.cred seat.cwd path >>= chmod_found seat mode moment

abbrev pub chown_found : Seat → ℕ → ℕ → ℕ → Stat → Answer CallPlan
chown_found seat uid gid moment stat = do
  need (seat.cred.uid == 0) EPERM
  Ok (act (op.SetOwner stat.ino uid gid moment))

abbrev pub chown_row : Numbered Node → Seat → List ℕ → ℕ → ℕ → ℕ → Answer CallPlan
chown_row nodes seat path uid gid moment = find_path nodes seat.cred seat.cwd path >>= chown_found seat uid gid moment

abbrev pub utime_found : Seat → ℕ → ℕ → ℕ → Stat → Answer CallPlan
utime_found seat atime mtime moment stat = do
  need (is_owner seat.cred stat) EPERM
  Ok (act (op.SetTimes stat.ino atime mtime moment))

abbrev pub utime_row : Numbered Node → Seat → List ℕ → ℕ → ℕ → ℕ → Answer CallPlan
utime_row nodes seat path atime mtime moment = find_path nodes seat.cred seat.cwd path >>= utime_found seat atime mtime moment

abbrev pub access_found : Seat → ℕ → Stat → Answer CallPlan
access_found seat bits stat = do
  need (may seat.cred stat bits) EACCES
  Ok (reply (Num 0))

abbrev pub access_row : Numbered Node → Seat → List ℕ → ℕ → Answer CallPlan
access_row nodes seat path bits = find_path nodes seat.cred seat.cwd path >>= access_found seat bits

abbrev pub umask_row : Seat → ℕ → Answer CallPlan
umask_row seat mask = Ok (seated (Num seat.umask) (Mask (bit_and mask 0x1FF)))

abbrev pub sync_row : Answer CallPlan
sync_row = Ok (reply (Num 0))

-- all descriptors closed
abbrev pub exited : List ℕ → CallPlan
exited [] = seated (Num 0) Clear
exited (ino ∷ inos) = both 0 (op.Release (ino ∷ inos)) Clear

abbrev pub exit_row : Seat → Answer CallPlan
exit_row seat = Ok (exited (inos_of seat))

abbrev pub row : Numbered Node → List Seat → Seat → Call → ℕ → Option ℕ → Answer CallPlan
row nodes seats seat (call.Open path how) moment pick = open_row nodes seat path how
row nodes seats seat (call.Creat path mode) moment pick = creat_row nodes seat path mode moment pick
row nodes seats seat (call.Close fd) moment pick = close_row seat fd
row nodes seats seat (call.Read fd count) moment pick = read_row nodes seat fd count
row nodes seats seat (call.Write fd bytes) moment pick = write_row seat fd bytes moment
row nodes seats seat (call.Lseek fd by whence) moment pick = lseek_row nodes seat fd by whence
row nodes seats seat (call.Dup fd) moment pick = dup_row seat fd
row nodes seats seat (call.Link from to) moment pick = link_row nodes seat from to moment
row nodes seats seat (call.Unlink path) moment pick = unlink_row nodes seat path moment
row nodes seats seat (call.Mkdir path mode) moment pick = mkdir_row nodes seat path mode moment
row nodes seats seat (call.Rmdir path) moment pick = rmdir_row nodes seats seat path moment
row nodes seats seat (call.Chdir path) moment pick = chdir_row nodes seat path
row nodes seats seat (call.Stat path) moment pick = stat_row nodes seat path
row nodes seats seat (call.Fstat fd) moment pick = fstat_row nodes seat fd
row nodes seats seat (call.Chmod path mode) moment pick = chmod_row nodes seat path mode moment
row nodes seats seat (call.Chown path uid gid) moment pick = chown_row nodes seat path uid gid moment
row nodes seats seat (call.Utime path atime mtime) moment pick = utime_row nodes seat path atime mtime moment
row nodes seats seat (call.Access path bits) moment pick = access_row nodes seat path bits
row nodes seats seat (call.Umask mask) moment pick = umask_row seat mask
row nodes seats seat call.Sync moment pick = sync_row
row nodes seats seat call.Exit moment pick = exit_row seat

-- the plan of a declared caller's call
abbrev pub plan : Machine → ℕ → Call → ℕ → Option ℕ → Answer CallPlan
plan machine caller call moment pick = do
  seat ← some (slice_get machine.seats caller) EINVAL
  row machine.tree.nodes machine.seats seat call moment pick
