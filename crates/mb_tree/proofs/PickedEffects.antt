-- How the effect of an operation depends on the number that is picked.
use Rattle.std.proofs.Common.{ℕ, ◌≡◌, Bool, true, false, not, Option, Some, None, Ok, Err, IsSome, inl, inr, ◌+◌, length, refl, sym, ap, subst, ◌∙◌, option_map, unwrap_or, cond, if◌then◌else◌}
use Rattle.std.specs.Prelude.{◌&&◌, nat_eq, nat_le, nat_lt}
use Rattle.std.specs.List.{list_any}
use Rattle.std.specs.FinMap as fin
use Rattle.std.specs.FinMap.{get-retain_keys, nat_cmp-IsAntisymmetric}
use Rattle.mb_kinds.specs.declared.errors.Errno.{Errno}
use Rattle.mb_kinds.specs.declared.errors.Errno.TheVariants.{EFBIG, ENOSPC, EMLINK}
use Rattle.mb_tree.specs.Answers.{Answer, ◌>>=◌, ◌>>◌, need}
use Rattle.mb_tree.specs.Cost.{cost}
use Rattle.mb_tree.specs.Effect.{TreeAndOpens, create, hold, delink, effect, fitting, is_lost, make_dir, nlink_in, opens_after, release, remove_dir, tree_after, unlinked, without_name}
use Rattle.mb_tree.specs.Fits.{Fits}
use Rattle.mb_tree.specs.Lookup.{number_in}
use Rattle.mb_tree.specs.Maps.{Numbered, changed_at}
use Rattle.mb_tree.specs.PickLaws.{makes_inode}
use Rattle.mb_tree.specs.Sessions.{Counts}
use Rattle.mb_tree.specs.Step.{IsFreeNumber}
use Rattle.mb_tree.specs.Trees.{IsSound}
use Rattle.mb_tree.specs.declared.nodes.Node.{Node}
use Rattle.mb_tree.specs.declared.operations.FsOp.{FsOp}
use Rattle.mb_tree.specs.declared.operations.FsOp.TheVariants.{Create, Empty, MakeDir, RemoveDir, Enlink, Delink, Put, SetMode, SetOwner, SetTimes, Hold, Release}
use Rattle.mb_tree.specs.declared.trees.Tree.{Tree}
use Rattle.mb_tree.proofs.Always.{bind_ok, then_ok, same_ok}
use Rattle.mb_tree.proofs.FiniteMaps.{get_here, get_there, gone_here, gone_there, one_or_not}
use Rattle.mb_tree.proofs.NewCosts.{create_alike, make_dir_alike}

is_err : {X Y : Type 0} (r : Answer X) (f : X → Answer Y) (e : Errno) → ((x : X) (d : Errno) → f x ≡ Err d → ⊥) → (r >>= f) ≡ Err e → r ≡ Err e
is_err (Ok x) f e total h = absurd (total x e h)
is_err (Err d) f e total h = let same : d ≡ e = cc in ap Err same

-- what is refused with one free number is refused with every other, and without one
pub refused_alike : (tree : Tree) (opens : Counts) (op : FsOp) (a b : ℕ) (e : Errno) → IsSound tree → Fits tree opens op None → IsFreeNumber tree a → IsFreeNumber tree b → effect tree opens op (Some a) ≡ Err e → effect tree opens op (Some b) ≡ Err e
refused_alike tree opens (Create dir name mode uid gid moment) a b e sound fits one other h =
    let d = fits.missing.directory in
    let low = (sound.numbers dir d.node d.has).1 in
    ap (λ (r : Answer Tree). r >>= (λ (next : Tree). Ok (record { tree = next; opens = hold opens b })))
    (create_alike tree dir d.node d.has low name mode uid gid moment a b e one other (is_err (create tree dir name mode uid gid moment (Some a)) _ e (λ x d no. cc) h))
refused_alike tree opens (MakeDir dir name mode uid gid moment) a b e sound fits one other h =
    let d = fits.missing.directory in
    let low = (sound.numbers dir d.node d.has).1 in
    ap (λ (r : Answer Tree). r >>= (λ (next : Tree). Ok (record { tree = next; opens = opens })))
    (make_dir_alike tree dir d.node d.has low name mode uid gid moment a b e one other (is_err (make_dir tree dir name mode uid gid moment (Some a)) _ e (λ x d no. cc) h))
refused_alike tree opens (Empty ino moment) a b e sound fits one other h = h
refused_alike tree opens (RemoveDir dir name moment) a b e sound fits one other h = h
refused_alike tree opens (Enlink dir name ino moment) a b e sound fits one other h = h
refused_alike tree opens (Delink dir name moment) a b e sound fits one other h = h
refused_alike tree opens (Put ino offset bytes moment) a b e sound fits one other h = h
refused_alike tree opens (SetMode ino mode moment) a b e sound fits one other h = h
refused_alike tree opens (SetOwner ino uid gid moment) a b e sound fits one other h = h
refused_alike tree opens (SetTimes ino atime mtime moment) a b e sound fits one other h = h
refused_alike tree opens (Hold ino) a b e sound fits one other h = h
refused_alike tree opens (Release inos) a b e sound fits one other h = h

-- a number is only looked at by the operations that make an inode
pub unpicked : (tree : Tree) (opens : Counts) (op : FsOp) (pick : Option ℕ) → makes_inode op ≡ false → effect tree opens op pick ≡ effect tree opens op None
unpicked tree opens (Create dir name mode uid gid moment) pick h = cc
unpicked tree opens (Empty ino moment) pick h = refl
unpicked tree opens (MakeDir dir name mode uid gid moment) pick h = cc
unpicked tree opens (RemoveDir dir name moment) pick h = refl
unpicked tree opens (Enlink dir name ino moment) pick h = refl
unpicked tree opens (Delink dir name moment) pick h = refl
unpicked tree opens (Put ino offset bytes moment) pick h = refl
unpicked tree opens (SetMode ino mode moment) pick h = refl
unpicked tree opens (SetOwner ino uid gid moment) pick h = refl
unpicked tree opens (SetTimes ino atime mtime moment) pick h = refl
unpicked tree opens (Hold ino) pick h = refl
unpicked tree opens (Release inos) pick h = refl

fitting_refuses : (tree : Tree) (nodes : Numbered Node) (e : Errno) → fitting tree nodes ≡ Err e → e ≡ ENOSPC
fitting_refuses tree nodes e h = go (nat_le (cost (record tree { nodes = nodes })) tree.cap) h
  where
    go : (b : Bool) → ◌≡◌ {A = Answer Tree} (need b ENOSPC >> Ok (record tree { nodes = nodes })) (Err e) → e ≡ ENOSPC
    go true h = cc
    go false h = cc

-- a refusal without a number, from one with a number
pub refused_unpicked : (tree : Tree) (opens : Counts) (op : FsOp) (ino : ℕ) (e : Errno) → makes_inode op ≡ true → effect tree opens op (Some ino) ≡ Err e → effect tree opens op None ≡ Err e
refused_unpicked tree opens (Create dir name mode uid gid moment) ino e makes h =
    ap Err (sym (fitting_refuses tree _ e (is_err (create tree dir name mode uid gid moment (Some ino)) _ e (λ x d no. cc) h)))
refused_unpicked tree opens (MakeDir dir name mode uid gid moment) ino e makes h =
    ap (λ (r : Answer Tree). r >>= (λ (next : Tree). Ok (record { tree = next; opens = opens }))) (go (nat_lt (nlink_in tree.nodes dir) 32767) _ (is_err (make_dir tree dir name mode uid gid moment (Some ino)) _ e (λ x d no. cc) h))
  where
    go : (b : Bool) (nodes : Numbered Node) → ◌≡◌ {A = Answer Tree} (need b EMLINK >> fitting tree nodes) (Err e) → ◌≡◌ {A = Answer Tree} (need b EMLINK >> Err ENOSPC) (Err e)
    go true nodes h = ap Err (sym (fitting_refuses tree nodes e h))
    go false nodes h = cc
refused_unpicked tree opens (Empty q moment) ino e makes h = cc
refused_unpicked tree opens (RemoveDir dir name moment) ino e makes h = cc
refused_unpicked tree opens (Enlink dir name q moment) ino e makes h = cc
refused_unpicked tree opens (Delink dir name moment) ino e makes h = cc
refused_unpicked tree opens (Put q offset bytes moment) ino e makes h = cc
refused_unpicked tree opens (SetMode q mode moment) ino e makes h = cc
refused_unpicked tree opens (SetOwner q uid gid moment) ino e makes h = cc
refused_unpicked tree opens (SetTimes q atime mtime moment) ino e makes h = cc
refused_unpicked tree opens (Hold q) ino e makes h = cc
refused_unpicked tree opens (Release inos) ino e makes h = cc

fitting_gives : (tree : Tree) (nodes : Numbered Node) (next : Tree) → fitting tree nodes ≡ Ok next → record tree { nodes = nodes } ≡ next
fitting_gives tree nodes next h =
    let one = then_ok (need (nat_le (cost (record tree { nodes = nodes })) tree.cap) ENOSPC) (Ok (record tree { nodes = nodes })) next h in
    same_ok (record tree { nodes = nodes }) next one.2

gone_none : (m : Numbered Node) (k q : ℕ) → fin.get m q ≡ None → fin.get (fin.remove m k) q ≡ None
gone_none m k q none = elim (one_or_not q k) [
  | inl is ↦ ap (fin.get (fin.remove m k)) is ∙ gone_here m k
  | inr apart ↦ gone_there m k q apart ∙ none
]

changed_none : (m : Numbered Node) (k q : ℕ) (f : Node → Node) → fin.get m q ≡ None → fin.get (changed_at m k f) q ≡ None
changed_none m k q f none = elim (fin.get m k) as (λ (o : Option Node). fin.get m k ≡ o → fin.get (unwrap_or (option_map (λ x. fin.insert m k (f x)) o) m) q ≡ None) [
  | None ↦ λ e. none
  | Some x ↦ λ e. elim (one_or_not q k) [
    | inl is ↦ absurd (let no : None ≡ Some x = sym none ∙ ap (fin.get m) is ∙ e in cc)
    | inr apart ↦ get_there m k (f x) q apart ∙ none
  ]
] refl

after_none : (tree : Tree) (opens : Counts) (op : FsOp) (pick : Option ℕ) (next : Tree) (ino : ℕ) → makes_inode op ≡ false → tree_after tree opens op pick ≡ Ok next
    → fin.get tree.nodes ino ≡ None → fin.get next.nodes ino ≡ None
after_none tree opens (Create dir name mode uid gid moment) pick next ino makes h none = cc
after_none tree opens (MakeDir dir name mode uid gid moment) pick next ino makes h none = cc
after_none tree opens (Empty q moment) pick next ino makes h none = subst (λ (t : Tree). fin.get t.nodes ino ≡ None) (same_ok _ next h) (changed_none tree.nodes q ino _ none)
after_none tree opens (SetMode q mode moment) pick next ino makes h none = subst (λ (t : Tree). fin.get t.nodes ino ≡ None) (same_ok _ next h) (changed_none tree.nodes q ino _ none)
after_none tree opens (SetOwner q uid gid moment) pick next ino makes h none = subst (λ (t : Tree). fin.get t.nodes ino ≡ None) (same_ok _ next h) (changed_none tree.nodes q ino _ none)
after_none tree opens (SetTimes q atime mtime moment) pick next ino makes h none = subst (λ (t : Tree). fin.get t.nodes ino ≡ None) (same_ok _ next h) (changed_none tree.nodes q ino _ none)
after_none tree opens (Hold q) pick next ino makes h none = subst (λ (t : Tree). fin.get t.nodes ino ≡ None) (same_ok tree next h) none
after_none tree opens (Put q offset bytes moment) pick next ino makes h none =
    let one = then_ok (need (nat_le (offset + length bytes) 1082201088) EFBIG) _ next h in
    subst (λ (t : Tree). fin.get t.nodes ino ≡ None) (fitting_gives tree _ next one.2) (changed_none tree.nodes q ino _ none)
after_none tree opens (Enlink dir name q moment) pick next ino makes h none =
    let one = then_ok (need (nat_lt (nlink_in tree.nodes q) 32767) EMLINK) _ next h in
    subst (λ (t : Tree). fin.get t.nodes ino ≡ None) (fitting_gives tree _ next one.2) (changed_none _ dir ino _ (changed_none tree.nodes q ino _ none))
after_none tree opens (RemoveDir dir name moment) pick next ino makes h none = subst (λ (t : Tree). fin.get t.nodes ino ≡ None) (same_ok _ next h) (go (number_in tree.nodes dir name))
  where
    go : (o : Option ℕ) → fin.get (remove_dir tree dir name moment o).nodes ino ≡ None
    go None = none
    go (Some q) = changed_none _ dir ino _ (gone_none tree.nodes q ino none)
after_none tree opens (Delink dir name moment) pick next ino makes h none = subst (λ (t : Tree). fin.get t.nodes ino ≡ None) (same_ok _ next h) (go (number_in tree.nodes dir name))
  where
    less : (m : Numbered Node) (q : ℕ) (b : Bool) → fin.get m ino ≡ None → fin.get (if b then fin.remove m q else changed_at m q (unlinked moment)) ino ≡ None
    less m q true gone = gone_none m q ino gone
    less m q false gone = changed_none m q ino (unlinked moment) gone

    go : (o : Option ℕ) → fin.get (delink tree opens dir name moment o).nodes ino ≡ None
    go None = none
    go (Some q) = less (changed_at tree.nodes dir (without_name moment name)) q _ (changed_none tree.nodes dir ino _ none)
after_none tree opens (Release inos) pick next ino makes h none = subst (λ (t : Tree). fin.get t.nodes ino ≡ None) (same_ok _ next h)
    (get-retain_keys tree.nodes kept ino (λ x t. ap kept (sym (nat_cmp-IsAntisymmetric ino x t))) ∙ ap (λ o. cond (kept ino) o None) none ∙ cond_none (kept ino))
  where
    kept : ℕ → Bool
    kept q = not (list_any (nat_eq q) inos && is_lost (release opens inos) q (fin.get tree.nodes q))

    cond_none : (b : Bool) → ◌≡◌ {A = Option Node} (cond b None None) None
    cond_none true = refl
    cond_none false = refl

-- an operation that makes no inode adds none
pub adds_none : (tree : Tree) (opens : Counts) (op : FsOp) (pick : Option ℕ) (held : TreeAndOpens) (ino : ℕ) → makes_inode op ≡ false → effect tree opens op pick ≡ Ok held
    → fin.get tree.nodes ino ≡ None → fin.get held.tree.nodes ino ≡ None
adds_none tree opens op pick held ino makes h none =
    let one = bind_ok (tree_after tree opens op pick) _ held h in
    subst (λ (t : Tree). fin.get t.nodes ino ≡ None) (ap (λ (held : TreeAndOpens). held.tree) (same_ok (record { tree = one.0; opens = opens_after opens op pick }) held one.2)) (after_none tree opens op pick one.0 ino makes one.1 none)

-- the inode that is made is there
pub adds_one : (tree : Tree) (opens : Counts) (op : FsOp) (held : TreeAndOpens) (ino : ℕ) → makes_inode op ≡ true → effect tree opens op (Some ino) ≡ Ok held → IsSome (fin.get held.tree.nodes ino)
adds_one tree opens (Create dir name mode uid gid moment) held ino makes h =
    let one = bind_ok (create tree dir name mode uid gid moment (Some ino)) _ held h in
    let two = fitting_gives tree _ one.0 one.1 in
    subst (λ (t : Tree). IsSome (fin.get t.nodes ino)) (two ∙ ap (λ (held : TreeAndOpens). held.tree) (same_ok (record { tree = one.0; opens = opens_after opens (Create dir name mode uid gid moment) (Some ino) }) held one.2)) (subst IsSome (sym (get_here _ ino _)) refl)
adds_one tree opens (MakeDir dir name mode uid gid moment) held ino makes h =
    let one = bind_ok (make_dir tree dir name mode uid gid moment (Some ino)) _ held h in
    let two = then_ok (need (nat_lt (nlink_in tree.nodes dir) 32767) EMLINK) _ one.0 one.1 in
    let three = fitting_gives tree _ one.0 two.2 in
    subst (λ (t : Tree). IsSome (fin.get t.nodes ino)) (three ∙ ap (λ (held : TreeAndOpens). held.tree) (same_ok (record { tree = one.0; opens = opens }) held one.2)) (subst IsSome (sym (get_here _ ino _)) refl)
adds_one tree opens (Empty q moment) held ino makes h = cc
adds_one tree opens (RemoveDir dir name moment) held ino makes h = cc
adds_one tree opens (Enlink dir name q moment) held ino makes h = cc
adds_one tree opens (Delink dir name moment) held ino makes h = cc
adds_one tree opens (Put q offset bytes moment) held ino makes h = cc
adds_one tree opens (SetMode q mode moment) held ino makes h = cc
adds_one tree opens (SetOwner q uid gid moment) held ino makes h = cc
adds_one tree opens (SetTimes q atime mtime moment) held ino makes h = cc
adds_one tree opens (Hold q) held ino makes h = cc
adds_one tree opens (Release inos) held ino makes h = cc

-- and none is made without a number
pub makes_by_number : (tree : Tree) (opens : Counts) (op : FsOp) (held : TreeAndOpens) → makes_inode op ≡ true → effect tree opens op None ≡ Ok held → ⊥
makes_by_number tree opens (Create dir name mode uid gid moment) held makes h = cc
makes_by_number tree opens (MakeDir dir name mode uid gid moment) held makes h = go (nat_lt (nlink_in tree.nodes dir) 32767) h
  where
    go : (b : Bool) → ◌≡◌ {A = Answer TreeAndOpens} ((need b EMLINK >> Err ENOSPC) >>= (λ (next : Tree). Ok (record { tree = next; opens = opens }))) (Ok held) → ⊥
    go true h = cc
    go false h = cc
makes_by_number tree opens (Empty ino moment) held makes h = cc
makes_by_number tree opens (RemoveDir dir name moment) held makes h = cc
makes_by_number tree opens (Enlink dir name ino moment) held makes h = cc
makes_by_number tree opens (Delink dir name moment) held makes h = cc
makes_by_number tree opens (Put ino offset bytes moment) held makes h = cc
makes_by_number tree opens (SetMode ino mode moment) held makes h = cc
makes_by_number tree opens (SetOwner ino uid gid moment) held makes h = cc
makes_by_number tree opens (SetTimes ino atime mtime moment) held makes h = cc
makes_by_number tree opens (Hold ino) held makes h = cc
makes_by_number tree opens (Release inos) held makes h = cc
