-- An inode that was read, with all that it holds.
use Rattle.std.proofs.Common.{◌≡◌, ℕ, ◌≤◌, List, Bool, true, false, nat_eq, if◌then◌else◌, Some, None, length, refl, sym, ap, subst, ◌∙◌, arith}
use Rattle.std.proofs.lemmas.Bool.Decides.{nat_tests}
use Rattle.mb_word.specs.Fields.{inode_block, inode_place, area_of}
use Rattle.mb_layout.specs.Inode.{dinode_at}
use Rattle.mb_layout.specs.declared.dinodes.Dinode.{Dinode}
use Rattle.mb_tree.specs.Inodes.{is_directory, is_regular}
use Rattle.mb_tree.specs.declared.nodes.Body.{Body}
use Rattle.mb_tree.specs.declared.nodes.Body.TheVariants.{Regular, Directory, Special}
use Rattle.mb_tree.specs.declared.nodes.Node.{Node}
use Rattle.mb_rules.specs.Files.{mode_at, size_at}
use Rattle.mb_rules.specs.Slots.{slots_at}
use Rattle.mb_rules.specs.TreeOf.{body_at, node_at, parts_at}
use Rattle.mb_scan_laws.proofs.Modes.{mode_in}
use Rattle.mb_check_files.specs.InodeTables.{ReadsInode}
use Rattle.mb_check_files.proofs.Tables.{reads_inode}

module _ (blocks : ℕ → List ℕ) (ino : ℕ) (from : 1 ≤ ino) (inode : Dinode) (is : inode ≡ dinode_at (blocks (inode_block ino)) (inode_place ino)) where
  pub inode_read : length (blocks (inode_block ino)) ≡ 512 → ReadsInode blocks ino (inode_block ino) inode
  inode_read whole = subst (ReadsInode blocks ino (inode_block ino)) (sym is) (reads_inode blocks (blocks (inode_block ino)) (inode_block ino) (inode_place ino) ino (omega arith) (omega arith) (omega (arith, from)) refl whole)

  mode_is : inode.mode ≡ mode_at blocks ino
  mode_is = ap (λ (d : Dinode). d.mode) is ∙ sym (mode_in blocks ino from)

  size_is : inode.size ≡ size_at blocks ino
  size_is = ap (λ (d : Dinode). d.size) is

  body_by : (regular directory : Bool) → is_regular (mode_at blocks ino) ≡ regular → is_directory (mode_at blocks ino) ≡ directory
      → body_at blocks ino ≡ (if regular then Regular (size_at blocks ino) (parts_at blocks ino) else if directory then Directory (slots_at blocks ino) else Special (size_at blocks ino) (area_of (blocks (inode_block ino)) (inode_place ino)))
  unfolding body_at
  body_by regular directory r d = rw (r, d) refl

  pub regular_body : is_regular inode.mode ≡ true → Regular inode.size (parts_at blocks ino) ≡ body_at blocks ino
  regular_body r = ap (λ n. Regular n (parts_at blocks ino)) size_is ∙ sym (body_by true (is_directory (mode_at blocks ino)) (ap is_regular (sym mode_is) ∙ r) refl)

  pub directory_body : is_regular inode.mode ≡ false → is_directory inode.mode ≡ true → Directory (slots_at blocks ino) ≡ body_at blocks ino
  directory_body r d = sym (body_by false true (ap is_regular (sym mode_is) ∙ r) (ap is_directory (sym mode_is) ∙ d))

  pub special_body : is_regular inode.mode ≡ false → is_directory inode.mode ≡ false → Special inode.size inode.area ≡ body_at blocks ino
  special_body r d =
      ap (λ n. Special n inode.area) size_is ∙ ap (λ (a : List ℕ). Special (size_at blocks ino) a) (ap (λ (e : Dinode). e.area) is)
      ∙ sym (body_by false false (ap is_regular (sym mode_is) ∙ r) (ap is_directory (sym mode_is) ∙ d))

  node_free : nat_eq (mode_at blocks ino) 0 ≡ true → node_at blocks ino ≡ None
  unfolding node_at
  node_free e = rw e refl

  pub free_node : inode.mode ≡ 0 → None ≡ node_at blocks ino
  free_node e = sym (node_free (ap (λ m. nat_eq m 0) (sym mode_is ∙ e)))

  abbrev node_of : Dinode → Body → Node
  node_of d body = record { mode = d.mode; nlink = d.nlink; uid = d.uid; gid = d.gid; atime = d.atime; mtime = d.mtime; ctime = d.ctime; body = body }

  node_used : nat_eq (mode_at blocks ino) 0 ≡ false → node_at blocks ino ≡ Some (record (node_of (dinode_at (blocks (inode_block ino)) (inode_place ino)) (body_at blocks ino)) { mode = mode_at blocks ino })
  unfolding node_at
  node_used e = rw e refl

  pub used_node : (body : Body) → (inode.mode ≡ 0 → ⊥) → body ≡ body_at blocks ino → Some (node_of inode body) ≡ node_at blocks ino
  used_node body real same =
      let off : nat_eq (mode_at blocks ino) 0 ≡ false = (let m = mode_is in let other : mode_at blocks ino ≡ 0 → ⊥ = λ e. real (m ∙ e) in grind (arith, nat_tests)) in
      ap (λ b. Some (node_of inode b)) same ∙ ap (λ (d : Dinode). Some (node_of d (body_at blocks ino))) is
      ∙ ap (λ m. Some (record (node_of (dinode_at (blocks (inode_block ino)) (inode_place ino)) (body_at blocks ino)) { mode = m })) (sym (mode_in blocks ino from)) ∙ sym (node_used off)

  pub kept_mode : (mode : ℕ) → mode ≡ mode_at blocks ino → mode ≡ inode.mode
  kept_mode mode e = e ∙ sym mode_is

pub read_as : (blocks : ℕ → List ℕ) (ino number place : ℕ) (block : List ℕ) (inode : Dinode) → number ≡ inode_block ino → place ≡ inode_place ino → block ≡ blocks number → inode ≡ dinode_at block place → inode ≡ dinode_at (blocks (inode_block ino)) (inode_place ino)
read_as blocks ino number place block inode here there same is =
    is ∙ ap (λ (b : List ℕ). dinode_at b place) (same ∙ ap blocks here) ∙ ap (dinode_at (blocks (inode_block ino))) there
