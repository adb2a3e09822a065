-- What the row of a call that is not refused has found: one case for each plan that a row can give.
use Rattle.std.proofs.Common.{◌≡◌, ℕ, ◌+◌, Bool, true, false, not, ◌&&◌, if◌then◌else◌, List, [], ◌∷◌, length, Option, Some, None, Ok, Err, nat_le, refl, ap}
use Rattle.std.specs.Prelude.{ℤ, pos, ◌+ℤ◌, bit_and, ◌==◌, slice_get}
use Rattle.std.specs.FinMap as fin
use Rattle.mb_kinds.specs.declared.replies.Reply.{Reply}
use Rattle.mb_kinds.specs.declared.replies.Reply.TheVariants.{Num, Info}
use Rattle.mb_kinds.specs.declared.replies.Stat.{Stat}
use Rattle.mb_kinds.specs.declared.calls.How.{How}
use Rattle.mb_kinds.specs.declared.calls.How.TheVariants.{Writing}
use Rattle.mb_kinds.specs.declared.calls.Whence.{Whence}
use Rattle.mb_kinds.specs.declared.calls.Call.{Call}
use Rattle.mb_kinds.specs.declared.calls.Call.TheVariants as call
use Rattle.mb_kinds.specs.declared.errors.Errno.{Errno}
use Rattle.mb_kinds.specs.declared.errors.Errno.TheVariants.{EPERM, ENXIO, EBADF, EACCES, EBUSY, EEXIST, ENOTDIR, EISDIR, EINVAL, EMFILE, EFBIG, ENOSPC}
use Rattle.mb_tree.specs.Answers.{Answer, ◌>>=◌, ◌>>◌, need, some}
use Rattle.mb_tree.specs.Maps.{Numbered}
use Rattle.mb_tree.specs.Inodes.{is_directory, is_special, may}
use Rattle.mb_tree.specs.Lookup.{stat_in, find_path, find_place, used_in}
use Rattle.mb_tree.specs.Sessions.{reads, writes, free_descriptor, file_on, is_shared, inos_of}
use Rattle.mb_tree.specs.Rows.{open_row, creat_present, creat_missing, creat_at, close_row, read_row, write_row, lseek_row, dup_row, link_at, link_row, unlink_at, mkdir_at, rmdir_at, chdir_row, chmod_row, chown_row, utime_row, reply, seated, act, both, bits_of, masked, stored, wrote, base_of, offset_at, is_busy, is_dots, is_owner, exited, row, plan}
use Rattle.mb_tree.specs.declared.nodes.Node.{Node}
use Rattle.mb_tree.specs.declared.seats.PlainFile.{PlainFile}
use Rattle.mb_tree.specs.declared.seats.Seat.{Seat}
use Rattle.mb_tree.specs.declared.seats.SessionChange.TheVariants.{Fresh, Twin, Free, Move, Cwd, Mask, Clear}
use Rattle.mb_tree.specs.declared.lookups.Placed.{Placed}
use Rattle.mb_tree.specs.declared.lookups.Placed.TheVariants.{Itself, At}
use Rattle.mb_tree.specs.declared.plans.CallPlan.{CallPlan}
use Rattle.mb_tree.specs.declared.operations.FsOp.TheVariants as op
use Rattle.mb_tree.specs.declared.machines.Machine.{Machine}
use Rattle.mb_tree.proofs.Always.{Always, always_ok, always_err, bind_ok, same_ok}

-- a call, the plan that its row gives, and the tests that the row has passed on the way there
pub data Outcome (nodes : Numbered Node) (seats : List Seat) (seat : Seat) (moment : ℕ) (pick : Option ℕ) : Call → CallPlan → Type 0 where
  answered : (asked : Call) (answer : Reply) → Outcome nodes seats seat moment pick asked (reply answer)
  opened : (path : List ℕ) (how : How) (stat : Stat) (fd : ℕ) → find_path nodes seat.cred seat.cwd path ≡ Ok stat → (is_directory stat.mode && writes how) ≡ false
      → is_special stat.mode ≡ false → free_descriptor seat ≡ Some fd
      → Outcome nodes seats seat moment pick (call.Open path how) (both fd (op.Hold stat.ino) (Fresh fd stat.ino how))
  emptied : (path : List ℕ) (mode ino : ℕ) (stat : Stat) (fd : ℕ) → stat_in nodes ino ≡ Ok stat → is_directory stat.mode ≡ false
      → is_special stat.mode ≡ false → free_descriptor seat ≡ Some fd
      → Outcome nodes seats seat moment pick (call.Creat path mode) (both fd (op.Empty ino moment) (Fresh fd ino Writing))
  created : (path : List ℕ) (mode dir : ℕ) (name : List ℕ) (fd ino : ℕ) → find_place nodes seat.cred seat.cwd path ≡ Ok (At dir name None)
      → free_descriptor seat ≡ Some fd → pick ≡ Some ino
      → Outcome nodes seats seat moment pick (call.Creat path mode) (both fd (op.Create dir name (masked mode seat) seat.cred.uid seat.cred.gid moment) (Fresh fd ino Writing))
  closed_shared : (fd : ℕ) (file : PlainFile) → file_on seat fd ≡ Some file → is_shared seat fd ≡ true
      → Outcome nodes seats seat moment pick (call.Close fd) (seated (Num 0) (Free fd))
  closed_last : (fd : ℕ) (file : PlainFile) → file_on seat fd ≡ Some file → is_shared seat fd ≡ false
      → Outcome nodes seats seat moment pick (call.Close fd) (both 0 (op.Release (file.ino ∷ [])) (Free fd))
  moved : (asked : Call) (answer : Reply) (fd offset : ℕ) → Outcome nodes seats seat moment pick asked (seated answer (Move fd offset))
  put : (fd : ℕ) (file : PlainFile) (byte : ℕ) (bytes : List ℕ) → file_on seat fd ≡ Some file → writes file.how ≡ true
      → Outcome nodes seats seat moment pick (call.Write fd (byte ∷ bytes))
      (both (length (byte ∷ bytes)) (op.Put file.ino file.offset (byte ∷ bytes) moment) (Move fd (file.offset + length (byte ∷ bytes))))
  doubled : (fd to : ℕ) → free_descriptor seat ≡ Some to → Outcome nodes seats seat moment pick (call.Dup fd) (seated (Num to) (Twin fd to))
  linked : (from to : List ℕ) (stat : Stat) (dir : ℕ) (name : List ℕ) → find_path nodes seat.cred seat.cwd from ≡ Ok stat → is_directory stat.mode ≡ false
      → find_place nodes seat.cred seat.cwd to ≡ Ok (At dir name None)
      → Outcome nodes seats seat moment pick (call.Link from to) (act (op.Enlink dir name stat.ino moment))
  unlinked : (path : List ℕ) (dir : ℕ) (name : List ℕ) (ino : ℕ) (stat : Stat) → find_place nodes seat.cred seat.cwd path ≡ Ok (At dir name (Some ino))
      → stat_in nodes ino ≡ Ok stat → is_directory stat.mode ≡ false
      → Outcome nodes seats seat moment pick (call.Unlink path) (act (op.Delink dir name moment))
  made : (path : List ℕ) (mode dir : ℕ) (name : List ℕ) → find_place nodes seat.cred seat.cwd path ≡ Ok (At dir name None)
      → Outcome nodes seats seat moment pick (call.Mkdir path mode) (act (op.MakeDir dir name (masked mode seat) seat.cred.uid seat.cred.gid moment))
  removed : (path : List ℕ) (dir : ℕ) (name : List ℕ) (ino : ℕ) (stat : Stat) → find_place nodes seat.cred seat.cwd path ≡ Ok (At dir name (Some ino))
      → stat_in nodes ino ≡ Ok stat → is_directory stat.mode ≡ true → is_dots name ≡ false → is_busy seats ino ≡ false → nat_le (used_in nodes ino) 2 ≡ true
      → Outcome nodes seats seat moment pick (call.Rmdir path) (act (op.RemoveDir dir name moment))
  entered : (path : List ℕ) (stat : Stat) → find_path nodes seat.cred seat.cwd path ≡ Ok stat → is_directory stat.mode ≡ true
      → Outcome nodes seats seat moment pick (call.Chdir path) (seated (Num 0) (Cwd stat.ino))
  mode_set : (path : List ℕ) (mode : ℕ) (stat : Stat) → find_path nodes seat.cred seat.cwd path ≡ Ok stat
      → Outcome nodes seats seat moment pick (call.Chmod path mode) (act (op.SetMode stat.ino (stored mode seat.cred) moment))
  owner_set : (path : List ℕ) (uid gid : ℕ) (stat : Stat) → find_path nodes seat.cred seat.cwd path ≡ Ok stat
      → Outcome nodes seats seat moment pick (call.Chown path uid gid) (act (op.SetOwner stat.ino uid gid moment))
  times_set : (path : List ℕ) (atime mtime : ℕ) (stat : Stat) → find_path nodes seat.cred seat.cwd path ≡ Ok stat
      → Outcome nodes seats seat moment pick (call.Utime path atime mtime) (act (op.SetTimes stat.ino atime mtime moment))
  masked_off : (mask : ℕ) → Outcome nodes seats seat moment pick (call.Umask mask) (seated (Num seat.umask) (Mask (bit_and mask 0x1FF)))
  left : inos_of seat ≡ [] → Outcome nodes seats seat moment pick call.Exit (seated (Num 0) Clear)
  left_open : (ino : ℕ) (inos : List ℕ) → inos_of seat ≡ ino ∷ inos → Outcome nodes seats seat moment pick call.Exit (both 0 (op.Release (ino ∷ inos)) Clear)

not_true : (b : Bool) → not b ≡ true → b ≡ false
not_true true h = cc
not_true false h = refl

pub some_ok : {A : Type 0} (o : Option A) (e : Errno) (x : A) → some o e ≡ Ok x → o ≡ Some x
some_ok (Some y) e x h = let is : y ≡ x = same_ok y x h in ap Some is
some_ok None e x h = cc

module _ {B : Type 0} (P : B → Type 0) where
  given : {A : Type 0} (r : Answer A) (f : A → Answer B) → ((x : A) → r ≡ Ok x → Always P (f x)) → Always P (r >>= f)
  given (Ok x) f h = h x refl
  given (Err e) f h = always_err P e

  given_need : (b : Bool) (e : Errno) (s : Answer B) → (b ≡ true → Always P s) → Always P (need b e >> s)
  given_need true e s h = h refl
  given_need false e s h = always_err P e

  given_some : {A : Type 0} (o : Option A) (e : Errno) (f : A → Answer B) → ((x : A) → o ≡ Some x → Always P (f x)) → Always P (some o e >>= f)
  given_some (Some x) e f h = h x refl
  given_some None e f h = always_err P e

module _ (nodes : Numbered Node) (seats : List Seat) (seat : Seat) (moment : ℕ) (pick : Option ℕ) where
  abbrev Is : Call → CallPlan → Type 0
  Is asked planned = Outcome nodes seats seat moment pick asked planned

  plain : (asked : Call) (answer : Reply) → Always (Is asked) (Ok (reply answer))
  plain asked answer = always_ok (Is asked) _ (answered asked answer)

  open_out : (path : List ℕ) (how : How) → Always (Is (call.Open path how)) (open_row nodes seat path how)
  open_out path how = given (Is (call.Open path how)) (find_path nodes seat.cred seat.cwd path) _ (λ stat found.
      given_need (Is (call.Open path how)) (may seat.cred stat (bits_of how)) EACCES _ (λ allowed.
      given_need (Is (call.Open path how)) (not (is_directory stat.mode && writes how)) EISDIR _ (λ fits.
      given_need (Is (call.Open path how)) (not (is_special stat.mode)) ENXIO _ (λ ordinary.
      given_some (Is (call.Open path how)) (free_descriptor seat) EMFILE _ (λ fd free.
      always_ok (Is (call.Open path how)) _ (opened path how stat fd found (not_true _ fits) (not_true _ ordinary) free))))))

  present_out : (path : List ℕ) (mode ino : ℕ) → Always (Is (call.Creat path mode)) (creat_present nodes seat moment ino)
  present_out path mode ino = given (Is (call.Creat path mode)) (stat_in nodes ino) _ (λ stat found.
      given_need (Is (call.Creat path mode)) (may seat.cred stat 2) EACCES _ (λ allowed.
      given_need (Is (call.Creat path mode)) (not (is_directory stat.mode)) EISDIR _ (λ file.
      given_need (Is (call.Creat path mode)) (not (is_special stat.mode)) ENXIO _ (λ ordinary.
      given_some (Is (call.Creat path mode)) (free_descriptor seat) EMFILE _ (λ fd free.
      always_ok (Is (call.Creat path mode)) _ (emptied path mode ino stat fd found (not_true _ file) (not_true _ ordinary) free))))))

  missing_out : (path : List ℕ) (mode dir : ℕ) (name : List ℕ) → find_place nodes seat.cred seat.cwd path ≡ Ok (At dir name None)
      → Always (Is (call.Creat path mode)) (creat_missing nodes seat mode moment pick dir name)
  missing_out path mode dir name placed = given (Is (call.Creat path mode)) (stat_in nodes dir) _ (λ parent found.
      given_need (Is (call.Creat path mode)) (may seat.cred parent 2) EACCES _ (λ allowed.
      given_some (Is (call.Creat path mode)) (free_descriptor seat) EMFILE _ (λ fd free.
      given_some (Is (call.Creat path mode)) pick ENOSPC _ (λ ino picked.
      always_ok (Is (call.Creat path mode)) _ (created path mode dir name fd ino placed free picked)))))

  creat_placed : (path : List ℕ) (mode : ℕ) (placed : Placed) → find_place nodes seat.cred seat.cwd path ≡ Ok placed → Always (Is (call.Creat path mode)) (creat_at nodes seat mode moment pick placed)
  creat_placed path mode (Itself ino) h = present_out path mode ino
  creat_placed path mode (At dir name (Some ino)) h = present_out path mode ino
  creat_placed path mode (At dir name None) h = missing_out path mode dir name h

  close_plan : (fd : ℕ) (file : PlainFile) (shared : Bool) → file_on seat fd ≡ Some file → is_shared seat fd ≡ shared
      → Is (call.Close fd) (if shared then seated (Num 0) (Free fd) else both 0 (op.Release (file.ino ∷ [])) (Free fd))
  close_plan fd file true h s = closed_shared fd file h s
  close_plan fd file false h s = closed_last fd file h s

  close_out : (fd : ℕ) → Always (Is (call.Close fd)) (close_row seat fd)
  close_out fd = given_some (Is (call.Close fd)) (file_on seat fd) EBADF _ (λ file found. always_ok (Is (call.Close fd)) _ (close_plan fd file (is_shared seat fd) found refl))

  read_out : (fd count : ℕ) → Always (Is (call.Read fd count)) (read_row nodes seat fd count)
  read_out fd count = given_some (Is (call.Read fd count)) (file_on seat fd) EBADF _ (λ file found.
      given_need (Is (call.Read fd count)) (reads file.how) EBADF _ (λ allowed.
      given_some (Is (call.Read fd count)) (fin.get nodes file.ino) EBADF _ (λ node there.
      always_ok (Is (call.Read fd count)) _ (moved (call.Read fd count) _ fd _))))

  write_plan : (fd : ℕ) (file : PlainFile) (bytes : List ℕ) → file_on seat fd ≡ Some file → writes file.how ≡ true → Is (call.Write fd bytes) (wrote fd file bytes moment)
  write_plan fd file [] h w = answered (call.Write fd []) (Num 0)
  write_plan fd file (byte ∷ bytes) h w = put fd file byte bytes h w

  write_out : (fd : ℕ) (bytes : List ℕ) → Always (Is (call.Write fd bytes)) (write_row seat fd bytes moment)
  write_out fd bytes = given_some (Is (call.Write fd bytes)) (file_on seat fd) EBADF _ (λ file found.
      given_need (Is (call.Write fd bytes)) (writes file.how) EBADF _ (λ allowed.
      given_need (Is (call.Write fd bytes)) (nat_le (file.offset + length bytes) 1082201088) EFBIG _ (λ short.
      always_ok (Is (call.Write fd bytes)) _ (write_plan fd file bytes found allowed))))

  lseek_out : (fd : ℕ) (by : ℤ) (whence : Whence) → Always (Is (call.Lseek fd by whence)) (lseek_row nodes seat fd by whence)
  lseek_out fd by whence = given_some (Is (call.Lseek fd by whence)) (file_on seat fd) EBADF _ (λ file found.
      given_some (Is (call.Lseek fd by whence)) (offset_at (pos (base_of nodes file whence) +ℤ by)) EINVAL _ (λ offset within.
      always_ok (Is (call.Lseek fd by whence)) _ (moved (call.Lseek fd by whence) (Num offset) fd offset)))

  dup_out : (fd : ℕ) → Always (Is (call.Dup fd)) (dup_row seat fd)
  dup_out fd = given_some (Is (call.Dup fd)) (file_on seat fd) EBADF _ (λ file found.
      given_some (Is (call.Dup fd)) (free_descriptor seat) EMFILE _ (λ to free.
      always_ok (Is (call.Dup fd)) _ (doubled fd to free)))

  link_placed : (from to : List ℕ) (stat : Stat) (placed : Placed) → find_path nodes seat.cred seat.cwd from ≡ Ok stat → is_directory stat.mode ≡ false
      → find_place nodes seat.cred seat.cwd to ≡ Ok placed → Always (Is (call.Link from to)) (link_at nodes seat moment stat.ino placed)
  link_placed from to stat (Itself other) f d h = always_err (Is (call.Link from to)) EEXIST
  link_placed from to stat (At dir name (Some other)) f d h = always_err (Is (call.Link from to)) EEXIST
  link_placed from to stat (At dir name None) f d h = given (Is (call.Link from to)) (stat_in nodes dir) _ (λ parent found.
      given_need (Is (call.Link from to)) (may seat.cred parent 2) EACCES _ (λ allowed.
      always_ok (Is (call.Link from to)) _ (linked from to stat dir name f d h)))

  link_out : (from to : List ℕ) → Always (Is (call.Link from to)) (link_row nodes seat from to moment)
  link_out from to = given (Is (call.Link from to)) (find_path nodes seat.cred seat.cwd from) _ (λ stat found.
      given_need (Is (call.Link from to)) (not (is_directory stat.mode)) EPERM _ (λ file.
      given (Is (call.Link from to)) (find_place nodes seat.cred seat.cwd to) _ (λ placed at.
      link_placed from to stat placed found (not_true _ file) at)))

  unlink_placed : (path : List ℕ) (placed : Placed) → find_place nodes seat.cred seat.cwd path ≡ Ok placed → Always (Is (call.Unlink path)) (unlink_at nodes seat moment placed)
  unlink_placed path (Itself ino) h = always_err (Is (call.Unlink path)) EPERM
  unlink_placed path (At dir name None) h = always_err (Is (call.Unlink path)) _
  unlink_placed path (At dir name (Some ino)) h = given (Is (call.Unlink path)) (stat_in nodes ino) _ (λ stat found.
      given (Is (call.Unlink path)) (stat_in nodes dir) _ (λ parent there.
      given_need (Is (call.Unlink path)) (may seat.cred parent 2) EACCES _ (λ allowed.
      given_need (Is (call.Unlink path)) (not (is_directory stat.mode)) EPERM _ (λ file.
      always_ok (Is (call.Unlink path)) _ (unlinked path dir name ino stat h found (not_true _ file))))))

  mkdir_placed : (path : List ℕ) (mode : ℕ) (placed : Placed) → find_place nodes seat.cred seat.cwd path ≡ Ok placed → Always (Is (call.Mkdir path mode)) (mkdir_at nodes seat mode moment placed)
  mkdir_placed path mode (Itself ino) h = always_err (Is (call.Mkdir path mode)) EEXIST
  mkdir_placed path mode (At dir name (Some ino)) h = always_err (Is (call.Mkdir path mode)) EEXIST
  mkdir_placed path mode (At dir name None) h = given (Is (call.Mkdir path mode)) (stat_in nodes dir) _ (λ parent found.
      given_need (Is (call.Mkdir path mode)) (may seat.cred parent 2) EACCES _ (λ allowed.
      always_ok (Is (call.Mkdir path mode)) _ (made path mode dir name h)))

  rmdir_placed : (path : List ℕ) (placed : Placed) → find_place nodes seat.cred seat.cwd path ≡ Ok placed → Always (Is (call.Rmdir path)) (rmdir_at nodes seats seat moment placed)
  rmdir_placed path (Itself ino) h = always_err (Is (call.Rmdir path)) EBUSY
  rmdir_placed path (At dir name None) h = always_err (Is (call.Rmdir path)) _
  rmdir_placed path (At dir name (Some ino)) h = given (Is (call.Rmdir path)) (stat_in nodes ino) _ (λ stat found.
      given_need (Is (call.Rmdir path)) (is_directory stat.mode) ENOTDIR _ (λ directory.
      given_need (Is (call.Rmdir path)) (not (is_dots name)) EINVAL _ (λ named.
      given (Is (call.Rmdir path)) (stat_in nodes dir) _ (λ parent there.
      given_need (Is (call.Rmdir path)) (may seat.cred parent 2) EACCES _ (λ allowed.
      given_need (Is (call.Rmdir path)) (not (is_busy seats ino)) EBUSY _ (λ unused.
      given_need (Is (call.Rmdir path)) (nat_le (used_in nodes ino) 2) EEXIST _ (λ few.
      always_ok (Is (call.Rmdir path)) _ (removed path dir name ino stat h found directory (not_true _ named) (not_true _ unused) few))))))))

  chdir_out : (path : List ℕ) → Always (Is (call.Chdir path)) (chdir_row nodes seat path)
  chdir_out path = given (Is (call.Chdir path)) (find_path nodes seat.cred seat.cwd path) _ (λ stat found.
      given_need (Is (call.Chdir path)) (is_directory stat.mode) ENOTDIR _ (λ directory.
      given_need (Is (call.Chdir path)) (may seat.cred stat 1) EACCES _ (λ allowed.
      always_ok (Is (call.Chdir path)) _ (entered path stat found directory))))

  chmod_out : (path : List ℕ) (mode : ℕ) → Always (Is (call.Chmod path mode)) (chmod_row nodes seat path mode moment)
  chmod_out path mode = given (Is (call.Chmod path mode)) (find_path nodes seat.cred seat.cwd path) _ (λ stat found.
      given_need (Is (call.Chmod path mode)) (is_owner seat.cred stat) EPERM _ (λ allowed.
      always_ok (Is (call.Chmod path mode)) _ (mode_set path mode stat found)))

  chown_out : (path : List ℕ) (uid gid : ℕ) → Always (Is (call.Chown path uid gid)) (chown_row nodes seat path uid gid moment)
  chown_out path uid gid = given (Is (call.Chown path uid gid)) (find_path nodes seat.cred seat.cwd path) _ (λ stat found.
      given_need (Is (call.Chown path uid gid)) (seat.cred.uid == 0) EPERM _ (λ allowed.
      always_ok (Is (call.Chown path uid gid)) _ (owner_set path uid gid stat found)))

  utime_out : (path : List ℕ) (atime mtime : ℕ) → Always (Is (call.Utime path atime mtime)) (utime_row nodes seat path atime mtime moment)
  utime_out path atime mtime = given (Is (call.Utime path atime mtime)) (find_path nodes seat.cred seat.cwd path) _ (λ stat found.
      given_need (Is (call.Utime path atime mtime)) (is_owner seat.cred stat) EPERM _ (λ allowed.
      always_ok (Is (call.Utime path atime mtime)) _ (times_set path atime mtime stat found)))

  exit_plan : (inos : List ℕ) → inos_of seat ≡ inos → Is call.Exit (exited inos)
  exit_plan [] h = left h
  exit_plan (ino ∷ inos) h = left_open ino inos h

  row_out : (wanted : Call) → Always (Is wanted) (row nodes seats seat wanted moment pick)
  row_out (call.Open path how) = open_out path how
  row_out (call.Creat path mode) = given (Is (call.Creat path mode)) (find_place nodes seat.cred seat.cwd path) _ (λ placed at. creat_placed path mode placed at)
  row_out (call.Close fd) = close_out fd
  row_out (call.Read fd count) = read_out fd count
  row_out (call.Write fd bytes) = write_out fd bytes
  row_out (call.Lseek fd by whence) = lseek_out fd by whence
  row_out (call.Dup fd) = dup_out fd
  row_out (call.Link from to) = link_out from to
  row_out (call.Unlink path) = given (Is (call.Unlink path)) (find_place nodes seat.cred seat.cwd path) _ (λ placed at. unlink_placed path placed at)
  row_out (call.Mkdir path mode) = given (Is (call.Mkdir path mode)) (find_place nodes seat.cred seat.cwd path) _ (λ placed at. mkdir_placed path mode placed at)
  row_out (call.Rmdir path) = given (Is (call.Rmdir path)) (find_place nodes seat.cred seat.cwd path) _ (λ placed at. rmdir_placed path placed at)
  row_out (call.Chdir path) = chdir_out path
  row_out (call.Stat path) = given (Is (call.Stat path)) (find_path nodes seat.cred seat.cwd path) _ (λ stat found. plain (call.Stat path) (Info stat))
  row_out (call.Fstat fd) = given_some (Is (call.Fstat fd)) (file_on seat fd) EBADF _ (λ file found. given (Is (call.Fstat fd)) (stat_in nodes file.ino) _ (λ stat there. plain (call.Fstat fd) (Info stat)))
  row_out (call.Chmod path mode) = chmod_out path mode
  row_out (call.Chown path uid gid) = chown_out path uid gid
  row_out (call.Utime path atime mtime) = utime_out path atime mtime
  row_out (call.Access path bits) = given (Is (call.Access path bits)) (find_path nodes seat.cred seat.cwd path) _ (λ stat found.
      given_need (Is (call.Access path bits)) (may seat.cred stat bits) EACCES _ (λ allowed. plain (call.Access path bits) (Num 0)))
  row_out (call.Umask mask) = always_ok (Is (call.Umask mask)) _ (masked_off mask)
  row_out call.Sync = plain call.Sync (Num 0)
  row_out call.Exit = always_ok (Is call.Exit) _ (exit_plan (inos_of seat) refl)

-- the caller's seat, and what its row has found
pub outcome : (machine : Machine) (caller : ℕ) (wanted : Call) (moment : ℕ) (pick : Option ℕ) (planned : CallPlan) → plan machine caller wanted moment pick ≡ Ok planned
    → (seat : Seat) × (slice_get machine.seats caller ≡ Some seat) × Outcome machine.tree.nodes machine.seats seat moment pick wanted planned
outcome machine caller wanted moment pick planned h =
    let one = bind_ok (some (slice_get machine.seats caller) EINVAL) _ planned h in
    (one.0, some_ok (slice_get machine.seats caller) EINVAL one.0 one.1, (row_out machine.tree.nodes machine.seats one.0 moment pick wanted).holds planned one.2)
