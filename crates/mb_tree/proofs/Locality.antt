-- What a call cannot tell apart: an operation that looks at no count, and sessions that are planned alike.
use Rattle.std.proofs.Common.{List, [], ◌∷◌, ℕ, ◌≡◌, Bool, true, false, ◌||◌, Option, Some, None, Ok, Err, refl, sym, ap, subst, ◌∙◌}
use Rattle.std.specs.Prelude.{slice_get, nat_lt, ◌==◌}
use Rattle.std.specs.List.{list_any}
use Rattle.mb_kinds.specs.declared.calls.Call.{Call}
use Rattle.mb_kinds.specs.declared.calls.Call.TheVariants as call
use Rattle.mb_kinds.specs.declared.errors.Errno.TheVariants.{EINVAL}
use Rattle.mb_tree.specs.Answers.{Answer, ◌>>=◌, some}
use Rattle.mb_tree.specs.Effect.{tree_after}
use Rattle.mb_tree.specs.Fits.{Fits}
use Rattle.mb_tree.specs.LocalLaws.{is_shared_call, IsFreeOfCounts, cwds, AgreeOnAll, AgreeOn, AgreeFor, ActsAlike}
use Rattle.mb_tree.specs.Lookup.{find_place, stat_in, used_in}
use Rattle.mb_tree.specs.Maps.{Numbered}
use Rattle.mb_tree.specs.Rows.{is_busy, plan, rmdir_at, rmdir_found, row}
use Rattle.mb_tree.specs.Sessions.{Counts, counts}
use Rattle.mb_tree.specs.declared.lookups.Placed.{Placed}
use Rattle.mb_tree.specs.declared.lookups.Placed.TheVariants.{Itself, At}
use Rattle.mb_tree.specs.declared.machines.Machine.{Machine}
use Rattle.mb_tree.specs.declared.nodes.Node.{Node}
use Rattle.mb_tree.specs.declared.operations.FsOp.{FsOp}
use Rattle.mb_tree.specs.declared.plans.CallPlan.{CallPlan}
use Rattle.mb_tree.specs.declared.seats.Seat.{Seat}
use Rattle.mb_tree.specs.declared.trees.Tree.{Tree}
use Rattle.mb_tree.proofs.Outcomes.{Outcome, outcome}
use Rattle.mb_tree.proofs.Outcomes.Outcome.{answered as out_answered, opened as out_opened, emptied as out_emptied, created as out_created, closed_shared as out_closed_shared, closed_last as out_closed_last, moved as out_moved, put as out_put, doubled as out_doubled, linked as out_linked, unlinked as out_unlinked, made as out_made, removed as out_removed, entered as out_entered, mode_set as out_mode_set, owner_set as out_owner_set, times_set as out_times_set, masked_off as out_masked_off, left as out_left, left_open as out_left_open}

abbrev FreeIf : Tree → Option FsOp → Type 0
FreeIf tree None = Unit {0}
FreeIf tree (Some op) = IsFreeOfCounts tree op

free_out : (tree : Tree) (nodes : Numbered Node) (seats : List Seat) (seat : Seat) (moment : ℕ) (pick : Option ℕ) (asked : Call) (planned : CallPlan) → is_shared_call asked ≡ false → Outcome nodes seats seat moment pick asked planned → FreeIf tree planned.op
free_out tree nodes seats seat moment pick _ _ own (out_answered asked answer) = tt
free_out tree nodes seats seat moment pick _ _ own (out_opened path how stat fd found fits ordinary free) = record { fits = λ opens others pick h. h; effect = λ opens others pick. refl }
free_out tree nodes seats seat moment pick _ _ own (out_emptied path mode ino stat fd found regular ordinary free) = record { fits = λ opens others pick h. h; effect = λ opens others pick. refl }
free_out tree nodes seats seat moment pick _ _ own (out_created path mode dir name fd ino placed free taken) = record { fits = λ opens others pick h. h; effect = λ opens others pick. refl }
free_out tree nodes seats seat moment pick _ _ own (out_closed_shared fd file h s) = tt
free_out tree nodes seats seat moment pick _ _ own (out_closed_last fd file h s) = absurd (let no : true ≡ false = own in cc)
free_out tree nodes seats seat moment pick _ _ own (out_moved asked answer fd offset) = tt
free_out tree nodes seats seat moment pick _ _ own (out_put fd file byte bytes h w) = record { fits = λ opens others pick h. h; effect = λ opens others pick. refl }
free_out tree nodes seats seat moment pick _ _ own (out_doubled fd to free) = tt
free_out tree nodes seats seat moment pick _ _ own (out_linked from to stat dir name f d h) = record { fits = λ opens others pick h. h; effect = λ opens others pick. refl }
free_out tree nodes seats seat moment pick _ _ own (out_unlinked path dir name ino stat h f d) = absurd (let no : true ≡ false = own in cc)
free_out tree nodes seats seat moment pick _ _ own (out_made path mode dir name h) = record { fits = λ opens others pick h. h; effect = λ opens others pick. refl }
free_out tree nodes seats seat moment pick _ _ own (out_removed path dir name ino stat h f d n b u) = absurd (let no : true ≡ false = own in cc)
free_out tree nodes seats seat moment pick _ _ own (out_entered path stat h d) = tt
free_out tree nodes seats seat moment pick _ _ own (out_mode_set path mode stat h) = record { fits = λ opens others pick h. h; effect = λ opens others pick. refl }
free_out tree nodes seats seat moment pick _ _ own (out_owner_set path uid gid stat h) = record { fits = λ opens others pick h. h; effect = λ opens others pick. refl }
free_out tree nodes seats seat moment pick _ _ own (out_times_set path atime mtime stat h) = record { fits = λ opens others pick h. h; effect = λ opens others pick. refl }
free_out tree nodes seats seat moment pick _ _ own (out_masked_off mask) = tt
free_out tree nodes seats seat moment pick _ _ own (out_left h) = tt
free_out tree nodes seats seat moment pick _ _ own (out_left_open ino inos h) = absurd (let no : true ≡ false = own in cc)

pub free_of_counts : (machine : Machine) (caller : ℕ) (made : Call) (moment : ℕ) (pick : Option ℕ) (planned : CallPlan) (op : FsOp)
    → plan machine caller made moment pick ≡ Ok planned → planned.op ≡ Some op → is_shared_call made ≡ false → IsFreeOfCounts machine.tree op
free_of_counts machine caller made moment pick planned op h is own =
    let out = outcome machine caller made moment pick planned h in
    subst (FreeIf machine.tree) is (free_out machine.tree machine.tree.nodes machine.seats out.0 moment pick made planned own out.2)

-- ---- sessions that are planned alike

any_by : (ino : ℕ) (seats : List Seat) → list_any (λ (seat : Seat). seat.cwd == ino) seats ≡ list_any (λ cwd. cwd == ino) (cwds seats)
any_by ino [] = refl
any_by ino (seat ∷ seats) = ap (λ b. seat.cwd == ino || b) (any_by ino seats)

pub busy_alike : (seats others : List Seat) → AgreeOnAll seats others → (ino : ℕ) → is_busy seats ino ≡ is_busy others ino
busy_alike seats others agree ino =
    ap (λ n. ino == 2 || nat_lt 0 n || list_any (λ (seat : Seat). seat.cwd == ino) seats) (agree.counted ino)
    ∙ ap (λ b. ino == 2 || nat_lt 0 (counts others ino) || b) (any_by ino seats ∙ ap (list_any (λ cwd. cwd == ino)) agree.directories ∙ sym (any_by ino others))

removal_alike : (nodes : Numbered Node) (seats others : List Seat) (seat : Seat) (moment : ℕ) (placed : Placed) → AgreeOnAll seats others
    → rmdir_at nodes seats seat moment placed ≡ rmdir_at nodes others seat moment placed
removal_alike nodes seats others seat moment (Itself ino) agree = refl
removal_alike nodes seats others seat moment (At dir name None) agree = refl
removal_alike nodes seats others seat moment (At dir name (Some ino)) agree =
    ap (λ (busy : Bool). stat_in nodes ino >>= rmdir_found seat moment dir name busy (stat_in nodes dir) (Ok (used_in nodes ino))) (busy_alike seats others agree ino)

row_alike : (nodes : Numbered Node) (seats others : List Seat) (seat : Seat) (moment : ℕ) (pick : Option ℕ) (asked : Call) → AgreeOn (is_shared_call asked) seats others
    → row nodes seats seat asked moment pick ≡ row nodes others seat asked moment pick
row_alike nodes seats others seat moment pick (call.Rmdir path) agree = go (find_place nodes seat.cred seat.cwd path)
  where
    go : (r : Answer Placed) → (r >>= rmdir_at nodes seats seat moment) ≡ (r >>= rmdir_at nodes others seat moment)
    go (Ok placed) = removal_alike nodes seats others seat moment placed agree
    go (Err e) = refl
row_alike nodes seats others seat moment pick (call.Open path how) agree = refl
row_alike nodes seats others seat moment pick (call.Creat path mode) agree = refl
row_alike nodes seats others seat moment pick (call.Close fd) agree = refl
row_alike nodes seats others seat moment pick (call.Read fd count) agree = refl
row_alike nodes seats others seat moment pick (call.Write fd bytes) agree = refl
row_alike nodes seats others seat moment pick (call.Lseek fd by whence) agree = refl
row_alike nodes seats others seat moment pick (call.Dup fd) agree = refl
row_alike nodes seats others seat moment pick (call.Link from to) agree = refl
row_alike nodes seats others seat moment pick (call.Unlink path) agree = refl
row_alike nodes seats others seat moment pick (call.Mkdir path mode) agree = refl
row_alike nodes seats others seat moment pick (call.Chdir path) agree = refl
row_alike nodes seats others seat moment pick (call.Stat path) agree = refl
row_alike nodes seats others seat moment pick (call.Fstat fd) agree = refl
row_alike nodes seats others seat moment pick (call.Chmod path mode) agree = refl
row_alike nodes seats others seat moment pick (call.Chown path uid gid) agree = refl
row_alike nodes seats others seat moment pick (call.Utime path atime mtime) agree = refl
row_alike nodes seats others seat moment pick (call.Access path bits) agree = refl
row_alike nodes seats others seat moment pick (call.Umask mask) agree = refl
row_alike nodes seats others seat moment pick call.Sync agree = refl
row_alike nodes seats others seat moment pick call.Exit agree = refl

pub planned_alike : (tree : Tree) (seats others : List Seat) (caller : ℕ) (made : Call) (moment : ℕ) (pick : Option ℕ) → AgreeFor made caller seats others
    → plan (record { tree = tree; seats = seats }) caller made moment pick ≡ plan (record { tree = tree; seats = others }) caller made moment pick
planned_alike tree seats others caller made moment pick agree =
    go (slice_get seats caller) ∙ ap (λ (o : Option Seat). some o EINVAL >>= (λ (seat : Seat). row tree.nodes others seat made moment pick)) agree.own
  where
    go : (o : Option Seat) → (some o EINVAL >>= (λ (seat : Seat). row tree.nodes seats seat made moment pick)) ≡ (some o EINVAL >>= (λ (seat : Seat). row tree.nodes others seat made moment pick))
    go (Some seat) = row_alike tree.nodes seats others seat moment pick made agree.rest
    go None = refl

same_counts : (f g : Counts) → ((ino : ℕ) → f ino ≡ g ino) → f ≡ g
same_counts f g h = λ i ino. h ino i

pub acted_alike : (tree : Tree) (seats others : List Seat) (caller : ℕ) (made : Call) (moment : ℕ) (pick : Option ℕ) (planned : CallPlan) (op : FsOp) → AgreeFor made caller seats others
    → plan (record { tree = tree; seats = seats }) caller made moment pick ≡ Ok planned → planned.op ≡ Some op → ActsAlike tree (counts seats) (counts others) op pick
acted_alike tree seats others caller made moment pick planned op agree h is = go (is_shared_call made) refl agree.rest
  where
    go : (shared : Bool) → is_shared_call made ≡ shared → AgreeOn shared seats others → ActsAlike tree (counts seats) (counts others) op pick
    go false own rest =
        let free = free_of_counts (record { tree = tree; seats = seats }) caller made moment pick planned op h is own in
        record { fits = free.fits (counts seats) (counts others) pick; effect = free.effect (counts seats) (counts others) pick }
    go true own rest =
        let same = same_counts (counts seats) (counts others) rest.counted in
        record { fits = subst (λ o. Fits tree o op pick) same; effect = ap (λ o. tree_after tree o op pick) same }
