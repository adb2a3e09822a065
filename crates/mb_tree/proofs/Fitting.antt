-- The session change of each plan fits, and after it each session is valid on the tree as it was.
use Rattle.std.proofs.Common.{◌≡◌, ◌≢◌, ◌⊎◌, inl, inr, ℕ, zero, suc, Bool, true, false, ◌&&◌, List, [], ◌∷◌, Option, Some, None, refl, sym, ap, subst, ◌∙◌, arith}
use Rattle.std.specs.Prelude.{slice_get, slice_set}
use Rattle.mb_kinds.specs.declared.calls.How.{How}
use Rattle.mb_kinds.specs.declared.calls.How.TheVariants.{Writing}
use Rattle.mb_kinds.specs.declared.calls.Call.{Call}
use Rattle.mb_tree.specs.Maps.{Numbered}
use Rattle.mb_tree.specs.Inodes.{is_directory}
use Rattle.mb_tree.specs.Sessions.{writes, free_descriptor}
use Rattle.mb_tree.specs.Trees.{IsRegularAt, IsSound}
use Rattle.mb_tree.specs.Fits.{IsOpenable}
use Rattle.mb_tree.specs.Machines.{IsSeated, FitsFresh, FitsSession}
use Rattle.mb_tree.specs.SessionLaws.{KeepsUsed}
use Rattle.mb_tree.specs.declared.nodes.Node.{Node}
use Rattle.mb_tree.specs.declared.operations.FsOp.TheVariants as op
use Rattle.mb_tree.specs.declared.plans.CallPlan.{CallPlan}
use Rattle.mb_tree.specs.declared.seats.Seat.{Seat}
use Rattle.mb_tree.specs.declared.seats.SessionChange.TheVariants.{Fresh}
use Rattle.mb_tree.specs.declared.trees.Tree.{Tree}
use Rattle.mb_tree.proofs.FiniteMaps.{one_or_not}
use Rattle.std.proofs.lemmas.Option.{same_Some}
use Rattle.mb_tree.proofs.FreePlaces.{descriptor_above, descriptor_within, descriptor_free}
use Rattle.mb_tree.proofs.InodeKinds.{path_ok, is_directory_at, is_regular_at, is_openable_at}
use Rattle.mb_tree.proofs.Outcomes.{Outcome}
use Rattle.mb_tree.proofs.Outcomes.Outcome.{answered, opened, emptied, created, closed_shared, closed_last, moved, put, doubled, linked, unlinked, made, removed, entered, mode_set, owner_set, times_set, masked_off, left, left_open}

-- the plan of a file that is made
pub record IsCreated (seat : Seat) (pick : Option ℕ) (planned : CallPlan) : Type 0 where
  pub dir : ℕ
  pub name : List ℕ
  pub mode : ℕ
  pub uid : ℕ
  pub gid : ℕ
  pub moment : ℕ
  pub fd : ℕ
  pub ino : ℕ
  pub op : planned.op ≡ Some (op.Create dir name mode uid gid moment)
  pub session : planned.session ≡ Fresh fd ino Writing
  pub free : free_descriptor seat ≡ Some fd
  pub picked : pick ≡ Some ino

not_both : (a b : Bool) → (a && b) ≡ false → b ≡ true → a ≡ false
not_both true b h t = absurd (let no : true ≡ false = sym t ∙ h in cc)
not_both false b h t = refl

module _ (tree : Tree) (sound : IsSound tree) (seats : List Seat) (seat : Seat) (moment : ℕ) (pick : Option ℕ) (valid : IsSeated tree.nodes seat) where
  pub fits_fresh : (nodes : Numbered Node) (fd ino : ℕ) (how : How) → free_descriptor seat ≡ Some fd → IsOpenable nodes ino → (writes how ≡ true → IsRegularAt nodes ino) → FitsFresh nodes seat fd ino how
  fits_fresh nodes fd ino how free openable written = record {
    above = descriptor_above tree.nodes seat valid fd free;
    within = omega (arith, descriptor_within tree.nodes seat valid fd free);
    free = descriptor_free tree.nodes seat valid fd free;
    openable = openable;
    written = written;
  }

  pub session_fits : (asked : Call) (planned : CallPlan) → Outcome tree.nodes seats seat moment pick asked planned → FitsSession tree.nodes seat planned.session ⊎ IsCreated seat pick planned
  session_fits _ _ (answered asked answer) = inl tt
  session_fits _ _ (opened path how stat fd found fits ordinary free) =
      let at = path_ok tree.nodes seat.cred seat.cwd path stat found in
      inl (fits_fresh tree.nodes fd stat.ino how free (is_openable_at tree sound stat.ino stat at.1 ordinary)
      (λ w. is_regular_at tree sound stat.ino stat at.1 (not_both (is_directory stat.mode) (writes how) fits w) ordinary))
  session_fits _ _ (emptied path mode ino stat fd found regular ordinary free) =
      let file = is_regular_at tree sound ino stat found regular ordinary in
      inl (fits_fresh tree.nodes fd ino Writing free (inl file) (λ w. file))
  session_fits _ _ (created path mode dir name fd ino placed free picked) = inr (record {
    dir = dir;
    name = name;
    mode = _;
    uid = _;
    gid = _;
    moment = moment;
    fd = fd;
    ino = ino;
    op = refl;
    session = refl;
    free = free;
    picked = picked;
  })
  session_fits _ _ (closed_shared fd file h s) = inl tt
  session_fits _ _ (closed_last fd file h s) = inl tt
  session_fits _ _ (moved asked answer fd offset) = inl tt
  session_fits _ _ (put fd file byte bytes h w) = inl tt
  session_fits _ _ (doubled fd to free) = inl (record {
    above = descriptor_above tree.nodes seat valid to free;
    within = omega (arith, descriptor_within tree.nodes seat valid to free);
    free = descriptor_free tree.nodes seat valid to free;
  })
  session_fits _ _ (linked from to stat dir name f d h) = inl tt
  session_fits _ _ (unlinked path dir name ino stat h f d) = inl tt
  session_fits _ _ (made path mode dir name h) = inl tt
  session_fits _ _ (removed path dir name ino stat h f d n b u) = inl tt
  session_fits _ _ (entered path stat h d) =
      let at = path_ok tree.nodes seat.cred seat.cwd path stat h in
      inl (is_directory_at tree sound stat.ino stat at.1 d)
  session_fits _ _ (mode_set path mode stat h) = inl tt
  session_fits _ _ (owner_set path uid gid stat h) = inl tt
  session_fits _ _ (times_set path atime mtime stat h) = inl tt
  session_fits _ _ (masked_off mask) = inl tt
  session_fits _ _ (left h) = inl tt
  session_fits _ _ (left_open ino inos h) = inl tt

-- a session valid on another tree that keeps what it uses
pub seated_over : (old new : Numbered Node) (seat : Seat) → IsSeated old seat → KeepsUsed old new seat → IsSeated new seat
seated_over old new seat valid keeps = record {
  cwd = keeps.cwd valid.cwd;
  descriptors = valid.descriptors;
  files = λ place file h.
      let was = valid.files place file h in
      let kept = keeps.files place file h in
      record {
        within = was.within;
        fd = was.fd;
        has = was.has;
        openable = elim was.openable [ inl r ↦ inl (kept.regular r) | inr d ↦ inr (kept.directory d) ];
        written = λ w. kept.regular (was.written w);
      };
}

-- ---- one seat set among all

set_here : (seats : List Seat) (caller : ℕ) (seat new : Seat) → slice_get seats caller ≡ Some seat → slice_get (slice_set seats caller new) caller ≡ Some new
set_here [] caller seat new h = let e : None ≡ Some seat = h in cc
set_here (first ∷ seats) zero seat new h = refl
set_here (first ∷ seats) (suc caller) seat new h = set_here seats caller seat new h

set_there : (seats : List Seat) (caller other : ℕ) (new : Seat) → other ≢ caller → slice_get (slice_set seats caller new) other ≡ slice_get seats other
set_there [] caller other new h = refl
set_there (first ∷ seats) zero zero new h = absurd (h refl)
set_there (first ∷ seats) zero (suc other) new h = refl
set_there (first ∷ seats) (suc caller) zero new h = refl
set_there (first ∷ seats) (suc caller) (suc other) new h = set_there seats caller other new (λ e. h (ap suc e))

-- what holds of the changed seat and of all others holds of each
pub each_seat : (P : Seat → Type 0) (seats : List Seat) (caller : ℕ) (seat new : Seat) → slice_get seats caller ≡ Some seat → P new
    → ((other : ℕ) (s : Seat) → other ≢ caller → slice_get seats other ≡ Some s → P s) → (other : ℕ) (s : Seat) → slice_get (slice_set seats caller new) other ≡ Some s → P s
each_seat P seats caller seat new h mine theirs other s e = elim (one_or_not other caller) [
  | inl is ↦ subst P (same_Some new s (sym (set_here seats caller seat new h) ∙ ap (slice_get (slice_set seats caller new)) (sym is) ∙ e)) mine
  | inr apart ↦ theirs other s apart (sym (set_there seats caller other new apart) ∙ e)
]
