-- No row is planned with a refusal, or with a reply of a fault or of the disk.
use Rattle.std.specs.Prelude.{List, [], ◌∷◌, ℕ, ◌+◌, Bool, true, false, not, ◌&&◌, ◌==◌, if◌then◌else◌, length, Option, Some, None, Ok, Err, ℤ, pos, ◌+ℤ◌, nat_le}
use Rattle.std.specs.FinMap as fin
use Rattle.mb_kinds.specs.declared.replies.Reply.TheVariants.{Num}
use Rattle.mb_kinds.specs.declared.calls.How.{How}
use Rattle.mb_kinds.specs.declared.calls.Whence.{Whence}
use Rattle.mb_kinds.specs.declared.calls.Call.{Call}
use Rattle.mb_kinds.specs.declared.calls.Call.TheVariants as call
use Rattle.mb_kinds.specs.declared.errors.Errno.TheVariants.{EPERM, ENXIO, EBADF, EACCES, EBUSY, EEXIST, ENOTDIR, EISDIR, EINVAL, EMFILE, EFBIG, ENOSPC}
use Rattle.mb_tree.specs.Answers.{Answer, ◌>>=◌, ◌>>◌, need, some}
use Rattle.mb_tree.specs.Maps.{Numbered}
use Rattle.mb_tree.specs.Plans.{IsServedReply}
use Rattle.mb_tree.specs.Inodes.{is_directory, is_special, may}
use Rattle.mb_tree.specs.Lookup.{stat_in, find_path, find_place, used_in}
use Rattle.mb_tree.specs.Sessions.{reads, writes, free_descriptor, file_on, is_shared, inos_of}
use Rattle.mb_tree.specs.declared.nodes.Node.{Node}
use Rattle.mb_tree.specs.declared.seats.PlainFile.{PlainFile}
use Rattle.mb_tree.specs.declared.seats.Seat.{Seat}
use Rattle.mb_tree.specs.declared.lookups.Placed.{Placed}
use Rattle.mb_tree.specs.declared.lookups.Placed.TheVariants.{Itself, At}
use Rattle.mb_tree.specs.declared.plans.CallPlan.{CallPlan}
use Rattle.mb_tree.specs.declared.seats.SessionChange.TheVariants.{Free}
use Rattle.mb_tree.specs.declared.operations.FsOp.TheVariants as op
use Rattle.mb_kinds.specs.declared.errors.Errno.{Errno}
use Rattle.mb_tree.specs.Rows.{open_row, creat_present, creat_missing, creat_at, creat_row, close_row, read_row, write_row, lseek_row, dup_row, link_at, link_row, unlink_named, unlink_at, unlink_row, mkdir_at, mkdir_row, rmdir_named, rmdir_at, rmdir_row, chdir_row, stat_row, fstat_row, chmod_row, chown_row, utime_row, access_row, umask_row, sync_row, exit_row, seated, both, bits_of, wrote, base_of, offset_at, is_busy, is_dots, is_owner, exited, row}
use Rattle.mb_tree.proofs.Always.{Always, always_ok, always_err, always_bind, always_then}

abbrev IsPlanPlain : CallPlan → Type 0
IsPlanPlain planned = IsServedReply planned.reply

abbrev pub PlainAnswer : Answer CallPlan → Type 0
PlainAnswer answer = Always IsPlanPlain answer

plain_ok : (p : CallPlan) → IsServedReply p.reply → PlainAnswer (Ok p)
plain_ok = always_ok IsPlanPlain

plain_err : (e : Errno) → PlainAnswer (Err e)
plain_err = always_err IsPlanPlain

plain_bind : {A : Type 0} (r : Answer A) (f : A → Answer CallPlan) → ((x : A) → PlainAnswer (f x)) → PlainAnswer (r >>= f)
plain_bind = always_bind IsPlanPlain

plain_then : {A : Type 0} (r : Answer A) (s : Answer CallPlan) → PlainAnswer s → PlainAnswer (r >> s)
plain_then = always_then IsPlanPlain

plain_close : (shared : Bool) (fd : ℕ) (inos : List ℕ) → PlainAnswer (Ok (if shared then seated (Num 0) (Free fd) else both 0 (op.Release inos) (Free fd)))
plain_close true fd inos = plain_ok _ tt
plain_close false fd inos = plain_ok _ tt

plain_wrote : (fd : ℕ) (file : PlainFile) (bytes : List ℕ) (moment : ℕ) → PlainAnswer (Ok (wrote fd file bytes moment))
plain_wrote fd file [] moment = plain_ok _ tt
plain_wrote fd file (byte ∷ bytes) moment = plain_ok _ tt

plain_exited : (inos : List ℕ) → PlainAnswer (Ok (exited inos))
plain_exited [] = plain_ok _ tt
plain_exited (ino ∷ inos) = plain_ok _ tt

plain_open_row : (x0 : Numbered Node) (x1 : Seat) (x2 : List ℕ) (x3 : How) → PlainAnswer (open_row x0 x1 x2 x3)
plain_open_row nodes seat path how = plain_bind (find_path nodes seat.cred seat.cwd path) _ (λ stat. plain_then (need (may seat.cred stat (bits_of how)) EACCES) _ (plain_then (need (not (is_directory stat.mode && writes how)) EISDIR) _ (plain_then (need (not (is_special stat.mode)) ENXIO) _ (plain_bind (some (free_descriptor seat) EMFILE) _ (λ fd. plain_ok _ tt)))))

plain_creat_present : (x0 : Numbered Node) (x1 : Seat) (x2 : ℕ) (x3 : ℕ) → PlainAnswer (creat_present x0 x1 x2 x3)
plain_creat_present nodes seat moment ino = plain_bind (stat_in nodes ino) _ (λ stat. plain_then (need (may seat.cred stat 2) EACCES) _ (plain_then (need (not (is_directory stat.mode)) EISDIR) _ (plain_then (need (not (is_special stat.mode)) ENXIO) _ (plain_bind (some (free_descriptor seat) EMFILE) _ (λ fd. plain_ok _ tt)))))

plain_creat_missing : (x0 : Numbered Node) (x1 : Seat) (x2 : ℕ) (x3 : ℕ) (x4 : Option ℕ) (x5 : ℕ) (x6 : List ℕ) → PlainAnswer (creat_missing x0 x1 x2 x3 x4 x5 x6)
plain_creat_missing nodes seat mode moment pick dir name = plain_bind (stat_in nodes dir) _ (λ parent. plain_then (need (may seat.cred parent 2) EACCES) _ (plain_bind (some (free_descriptor seat) EMFILE) _ (λ fd. plain_bind (some pick ENOSPC) _ (λ ino. plain_ok _ tt))))

plain_creat_at : (x0 : Numbered Node) (x1 : Seat) (x2 : ℕ) (x3 : ℕ) (x4 : Option ℕ) (x5 : Placed) → PlainAnswer (creat_at x0 x1 x2 x3 x4 x5)
plain_creat_at nodes seat mode moment pick (Itself ino) = plain_creat_present nodes seat moment ino
plain_creat_at nodes seat mode moment pick (At dir name (Some ino)) = plain_creat_present nodes seat moment ino
plain_creat_at nodes seat mode moment pick (At dir name None) = plain_creat_missing nodes seat mode moment pick dir name

plain_creat_row : (x0 : Numbered Node) (x1 : Seat) (x2 : List ℕ) (x3 : ℕ) (x4 : ℕ) (x5 : Option ℕ) → PlainAnswer (creat_row x0 x1 x2 x3 x4 x5)
plain_creat_row nodes seat path mode moment pick = plain_bind (find_place nodes seat.cred seat.cwd path) _ (λ placed. plain_creat_at nodes seat mode moment pick placed)

plain_close_row : (x0 : Seat) (x1 : ℕ) → PlainAnswer (close_row x0 x1)
plain_close_row seat fd = plain_bind (some (file_on seat fd) EBADF) _ (λ file. plain_close (is_shared seat fd) fd (file.ino ∷ []))

plain_read_row : (x0 : Numbered Node) (x1 : Seat) (x2 : ℕ) (x3 : ℕ) → PlainAnswer (read_row x0 x1 x2 x3)
plain_read_row nodes seat fd count = plain_bind (some (file_on seat fd) EBADF) _ (λ file. plain_then (need (reads file.how) EBADF) _ (plain_bind (some (fin.get nodes file.ino) EBADF) _ (λ node. plain_ok _ tt)))

plain_write_row : (x0 : Seat) (x1 : ℕ) (x2 : List ℕ) (x3 : ℕ) → PlainAnswer (write_row x0 x1 x2 x3)
plain_write_row seat fd bytes moment = plain_bind (some (file_on seat fd) EBADF) _ (λ file. plain_then (need (writes file.how) EBADF) _ (plain_then (need (nat_le (file.offset + length bytes) 1082201088) EFBIG) _ (plain_wrote fd file bytes moment)))

plain_lseek_row : (x0 : Numbered Node) (x1 : Seat) (x2 : ℕ) (x3 : ℤ) (x4 : Whence) → PlainAnswer (lseek_row x0 x1 x2 x3 x4)
plain_lseek_row nodes seat fd by whence = plain_bind (some (file_on seat fd) EBADF) _ (λ file. plain_bind (some (offset_at (pos (base_of nodes file whence) +ℤ by)) EINVAL) _ (λ offset. plain_ok _ tt))

plain_dup_row : (x0 : Seat) (x1 : ℕ) → PlainAnswer (dup_row x0 x1)
plain_dup_row seat fd = plain_bind (some (file_on seat fd) EBADF) _ (λ file. plain_bind (some (free_descriptor seat) EMFILE) _ (λ to. plain_ok _ tt))

plain_link_at : (x0 : Numbered Node) (x1 : Seat) (x2 : ℕ) (x3 : ℕ) (x4 : Placed) → PlainAnswer (link_at x0 x1 x2 x3 x4)
plain_link_at nodes seat moment ino (Itself other) = plain_err _
plain_link_at nodes seat moment ino (At dir name (Some other)) = plain_err _
plain_link_at nodes seat moment ino (At dir name None) = plain_bind (stat_in nodes dir) _ (λ parent. plain_then (need (may seat.cred parent 2) EACCES) _ (plain_ok _ tt))

plain_link_row : (x0 : Numbered Node) (x1 : Seat) (x2 : List ℕ) (x3 : List ℕ) (x4 : ℕ) → PlainAnswer (link_row x0 x1 x2 x3 x4)
plain_link_row nodes seat from to moment = plain_bind (find_path nodes seat.cred seat.cwd from) _ (λ stat. plain_then (need (not (is_directory stat.mode)) EPERM) _ (plain_bind (find_place nodes seat.cred seat.cwd to) _ (λ placed. plain_link_at nodes seat moment stat.ino placed)))

plain_unlink_named : (x0 : Numbered Node) (x1 : Seat) (x2 : ℕ) (x3 : ℕ) (x4 : List ℕ) (x5 : ℕ) → PlainAnswer (unlink_named x0 x1 x2 x3 x4 x5)
plain_unlink_named nodes seat moment dir name ino = plain_bind (stat_in nodes ino) _ (λ stat. plain_bind (stat_in nodes dir) _ (λ parent. plain_then (need (may seat.cred parent 2) EACCES) _ (plain_then (need (not (is_directory stat.mode)) EPERM) _ (plain_ok _ tt))))

plain_unlink_at : (x0 : Numbered Node) (x1 : Seat) (x2 : ℕ) (x3 : Placed) → PlainAnswer (unlink_at x0 x1 x2 x3)
plain_unlink_at nodes seat moment (Itself ino) = plain_err _
plain_unlink_at nodes seat moment (At dir name None) = plain_err _
plain_unlink_at nodes seat moment (At dir name (Some ino)) = plain_unlink_named nodes seat moment dir name ino

plain_unlink_row : (x0 : Numbered Node) (x1 : Seat) (x2 : List ℕ) (x3 : ℕ) → PlainAnswer (unlink_row x0 x1 x2 x3)
plain_unlink_row nodes seat path moment = plain_bind (find_place nodes seat.cred seat.cwd path) _ (λ placed. plain_unlink_at nodes seat moment placed)

plain_mkdir_at : (x0 : Numbered Node) (x1 : Seat) (x2 : ℕ) (x3 : ℕ) (x4 : Placed) → PlainAnswer (mkdir_at x0 x1 x2 x3 x4)
plain_mkdir_at nodes seat mode moment (Itself ino) = plain_err _
plain_mkdir_at nodes seat mode moment (At dir name (Some ino)) = plain_err _
plain_mkdir_at nodes seat mode moment (At dir name None) = plain_bind (stat_in nodes dir) _ (λ parent. plain_then (need (may seat.cred parent 2) EACCES) _ (plain_ok _ tt))

plain_mkdir_row : (x0 : Numbered Node) (x1 : Seat) (x2 : List ℕ) (x3 : ℕ) (x4 : ℕ) → PlainAnswer (mkdir_row x0 x1 x2 x3 x4)
plain_mkdir_row nodes seat path mode moment = plain_bind (find_place nodes seat.cred seat.cwd path) _ (λ placed. plain_mkdir_at nodes seat mode moment placed)

plain_rmdir_named : (x0 : Numbered Node) (x1 : List Seat) (x2 : Seat) (x3 : ℕ) (x4 : ℕ) (x5 : List ℕ) (x6 : ℕ) → PlainAnswer (rmdir_named x0 x1 x2 x3 x4 x5 x6)
plain_rmdir_named nodes seats seat moment dir name ino = plain_bind (stat_in nodes ino) _ (λ stat. plain_then (need (is_directory stat.mode) ENOTDIR) _ (plain_then (need (not (is_dots name)) EINVAL) _ (plain_bind (stat_in nodes dir) _ (λ parent. plain_then (need (may seat.cred parent 2) EACCES) _ (plain_then (need (not (is_busy seats ino)) EBUSY) _ (plain_then (need (nat_le (used_in nodes ino) 2) EEXIST) _ (plain_ok _ tt)))))))

plain_rmdir_at : (x0 : Numbered Node) (x1 : List Seat) (x2 : Seat) (x3 : ℕ) (x4 : Placed) → PlainAnswer (rmdir_at x0 x1 x2 x3 x4)
plain_rmdir_at nodes seats seat moment (Itself ino) = plain_err _
plain_rmdir_at nodes seats seat moment (At dir name None) = plain_err _
plain_rmdir_at nodes seats seat moment (At dir name (Some ino)) = plain_rmdir_named nodes seats seat moment dir name ino

plain_rmdir_row : (x0 : Numbered Node) (x1 : List Seat) (x2 : Seat) (x3 : List ℕ) (x4 : ℕ) → PlainAnswer (rmdir_row x0 x1 x2 x3 x4)
plain_rmdir_row nodes seats seat path moment = plain_bind (find_place nodes seat.cred seat.cwd path) _ (λ placed. plain_rmdir_at nodes seats seat moment placed)

plain_chdir_row : (x0 : Numbered Node) (x1 : Seat) (x2 : List ℕ) → PlainAnswer (chdir_row x0 x1 x2)
plain_chdir_row nodes seat path = plain_bind (find_path nodes seat.cred seat.cwd path) _ (λ stat. plain_then (need (is_directory stat.mode) ENOTDIR) _ (plain_then (need (may seat.cred stat 1) EACCES) _ (plain_ok _ tt)))

plain_stat_row : (x0 : Numbered Node) (x1 : Seat) (x2 : List ℕ) → PlainAnswer (stat_row x0 x1 x2)
plain_stat_row nodes seat path = plain_bind (find_path nodes seat.cred seat.cwd path) _ (λ stat. plain_ok _ tt)

plain_fstat_row : (x0 : Numbered Node) (x1 : Seat) (x2 : ℕ) → PlainAnswer (fstat_row x0 x1 x2)
plain_fstat_row nodes seat fd = plain_bind (some (file_on seat fd) EBADF) _ (λ file. plain_bind (stat_in nodes file.ino) _ (λ stat. plain_ok _ tt))

plain_chmod_row : (x0 : Numbered Node) (x1 : Seat) (x2 : List ℕ) (x3 : ℕ) (x4 : ℕ) → PlainAnswer (chmod_row x0 x1 x2 x3 x4)
plain_chmod_row nodes seat path mode moment = plain_bind (find_path nodes seat.cred seat.cwd path) _ (λ stat. plain_then (need (is_owner seat.cred stat) EPERM) _ (plain_ok _ tt))

plain_chown_row : (x0 : Numbered Node) (x1 : Seat) (x2 : List ℕ) (x3 : ℕ) (x4 : ℕ) (x5 : ℕ) → PlainAnswer (chown_row x0 x1 x2 x3 x4 x5)
plain_chown_row nodes seat path uid gid moment = plain_bind (find_path nodes seat.cred seat.cwd path) _ (λ stat. plain_then (need (seat.cred.uid == 0) EPERM) _ (plain_ok _ tt))

plain_utime_row : (x0 : Numbered Node) (x1 : Seat) (x2 : List ℕ) (x3 : ℕ) (x4 : ℕ) (x5 : ℕ) → PlainAnswer (utime_row x0 x1 x2 x3 x4 x5)
plain_utime_row nodes seat path atime mtime moment = plain_bind (find_path nodes seat.cred seat.cwd path) _ (λ stat. plain_then (need (is_owner seat.cred stat) EPERM) _ (plain_ok _ tt))

plain_access_row : (x0 : Numbered Node) (x1 : Seat) (x2 : List ℕ) (x3 : ℕ) → PlainAnswer (access_row x0 x1 x2 x3)
plain_access_row nodes seat path bits = plain_bind (find_path nodes seat.cred seat.cwd path) _ (λ stat. plain_then (need (may seat.cred stat bits) EACCES) _ (plain_ok _ tt))

plain_umask_row : (x0 : Seat) (x1 : ℕ) → PlainAnswer (umask_row x0 x1)
plain_umask_row seat mask = plain_ok _ tt

plain_sync_row : PlainAnswer sync_row
plain_sync_row = plain_ok _ tt

plain_exit_row : (x0 : Seat) → PlainAnswer (exit_row x0)
plain_exit_row seat = plain_exited (inos_of seat)

pub plain_row : (nodes : Numbered Node) (seats : List Seat) (seat : Seat) (made : Call) (moment : ℕ) (pick : Option ℕ) → PlainAnswer (row nodes seats seat made moment pick)
plain_row nodes seats seat (call.Open path how) moment pick = plain_open_row nodes seat path how
plain_row nodes seats seat (call.Creat path mode) moment pick = plain_creat_row nodes seat path mode moment pick
plain_row nodes seats seat (call.Close fd) moment pick = plain_close_row seat fd
plain_row nodes seats seat (call.Read fd count) moment pick = plain_read_row nodes seat fd count
plain_row nodes seats seat (call.Write fd bytes) moment pick = plain_write_row seat fd bytes moment
plain_row nodes seats seat (call.Lseek fd by whence) moment pick = plain_lseek_row nodes seat fd by whence
plain_row nodes seats seat (call.Dup fd) moment pick = plain_dup_row seat fd
plain_row nodes seats seat (call.Link from to) moment pick = plain_link_row nodes seat from to moment
plain_row nodes seats seat (call.Unlink path) moment pick = plain_unlink_row nodes seat path moment
plain_row nodes seats seat (call.Mkdir path mode) moment pick = plain_mkdir_row nodes seat path mode moment
plain_row nodes seats seat (call.Rmdir path) moment pick = plain_rmdir_row nodes seats seat path moment
plain_row nodes seats seat (call.Chdir path) moment pick = plain_chdir_row nodes seat path
plain_row nodes seats seat (call.Stat path) moment pick = plain_stat_row nodes seat path
plain_row nodes seats seat (call.Fstat fd) moment pick = plain_fstat_row nodes seat fd
plain_row nodes seats seat (call.Chmod path mode) moment pick = plain_chmod_row nodes seat path mode moment
plain_row nodes seats seat (call.Chown path uid gid) moment pick = plain_chown_row nodes seat path uid gid moment
plain_row nodes seats seat (call.Utime path atime mtime) moment pick = plain_utime_row nodes seat path atime mtime moment
plain_row nodes seats seat (call.Access path bits) moment pick = plain_access_row nodes seat path bits
plain_row nodes seats seat (call.Umask mask) moment pick = plain_umask_row seat mask
plain_row nodes seats seat call.Sync moment pick = plain_sync_row
plain_row nodes seats seat call.Exit moment pick = plain_exit_row seat
