-- Open files released, one inode after another.
use Rattle.std.proofs.Common.{ℕ, ◌≡◌, ◌≢◌, ◌-◌, ◌+◌, ◌<◌, ◌≤◌, true, false, ◌&&◌, ◌==◌, nat_eq, List, [], ◌∷◌, length, get_or, drop, drop-cons, add-one, suc, Option, Some, None, Ok, inl, inr, refl, sym, ap, subst, ◌∙◌, arith}
use Rattle.std.specs.Prelude.{count_by}
use Rattle.std.specs.FinMap as fin
use Rattle.std.proofs.lemmas.List.{drop_all}
use Rattle.std.proofs.lemmas.List.Elements.{All-get_or, Contains-get_or}
use Rattle.mb_kinds.specs.Image.{Image}
use Rattle.mb_layout.specs.declared.dinodes.Dinode.{Dinode}
use Rattle.mb_tree.specs.Effect.{is_lost, less_open, release}
use Rattle.mb_tree.specs.Fits.{FitsRelease}
use Rattle.mb_tree.specs.Maps.{Numbered}
use Rattle.mb_tree.specs.Sessions.{Counts}
use Rattle.mb_tree.specs.Trees.{IsThere}
use Rattle.mb_tree.specs.Views.{over, IsPart}
use Rattle.mb_tree.specs.Volume.{HasInode, IsVolume}
use Rattle.mb_tree.specs.declared.nodes.Node.{Node}
use Rattle.mb_tree.specs.declared.operations.FsOp.TheVariants.{Release}
use Rattle.mb_tree.specs.declared.trees.Tree.{Tree}
use Rattle.mb_tree.proofs.FiniteMaps.{gone_here, gone_there, one_or_not}
use Rattle.mb_iface.specs.Acting.{with_changes}
use Rattle.mb_kinds.specs.Changed.{changed, ChangeList, IsWithinView}
use Rattle.mb_iface.specs.OpenCounts.{count_of}
use Rattle.mb_iface.specs.declared.replies.Acted.TheVariants as acted
use Rattle.mb_iface.specs.declared.replies.Need.{Need}
use Rattle.mb_alloc.specs.declared.frees.Hung.{Hung}
use Rattle.mb_alloc.specs.declared.frees.Hung.TheVariants as hung
use Rattle.mb_nodes.specs.Stored.{IsStored}
use Rattle.mb_nodes.proofs.NodeParts.{node_stored}
use Rattle.mb_moves.specs.Advancing.{AdvancesTo, IsNearTo}
use Rattle.mb_moves.specs.Looking.{touches}
use Rattle.mb_moves.proofs.Asking.{inode_near}
use Rattle.mb_moves.proofs.InARow.{changed_in_turn, nothing_changed, stored_after}
use Rattle.mb_moves.proofs.Touching.{touched_is}
use Rattle.mb_moves.proofs.Trees.{released}
use Rattle.mb_inodes.specs.Inodes.{ReadsInode}
use Rattle.mb_inodes.specs.declared.inodes.Inode.TheVariants as inode
use Rattle.mb_file.specs.Erasing.{Erases}
use Rattle.mb_fsops.specs.Links.{lost_with}
use Rattle.mb_fsops.specs.Performing.{OpenFiles, PerformsAlways}
use Rattle.mb_fsops.specs.Releasing.{IsReleasable, ReleasesOne, without_lost}
use Rattle.mb_fsops.proofs.Steps.{done, near_then, none_within, stored_first}
use Rattle.mb_fsops.proofs.Unlinking.{read_links}

-- ---- one inode of a list

module _ (nodes : Numbered Node) (opens : Counts) (ino : ℕ) where
  one_lost : is_lost opens ino (fin.get nodes ino) ≡ true → less_open nodes opens (ino ∷ []) ≡ fin.remove nodes ino
  one_lost lost = (released nodes opens).lost ino [] lost ∙ (released (fin.remove nodes ino) opens).none

  one_kept : is_lost opens ino (fin.get nodes ino) ≡ false → less_open nodes opens (ino ∷ []) ≡ nodes
  one_kept kept = (released nodes opens).kept ino [] kept ∙ (released nodes opens).none

  -- the first one and then the rest
  one_first : (rest : List ℕ) → less_open nodes opens (ino ∷ rest) ≡ less_open (less_open nodes opens (ino ∷ [])) opens rest
  one_first rest = elim (is_lost opens ino (fin.get nodes ino)) as (λ b. is_lost opens ino (fin.get nodes ino) ≡ b → less_open nodes opens (ino ∷ rest) ≡ less_open (less_open nodes opens (ino ∷ [])) opens rest) [
    | true ↦ λ lost. (released nodes opens).lost ino rest lost ∙ ap (λ (left : Numbered Node). less_open left opens rest) (sym (one_lost lost))
    | false ↦ λ kept. (released nodes opens).kept ino rest kept ∙ ap (λ (left : Numbered Node). less_open left opens rest) (sym (one_kept kept))
  ] refl

  none_some : (node : Node) → ◌≡◌ {A = Option Node} None (Some node) → ⊥
  none_some node e = cc

  -- what is left was there
  left_there : (q : ℕ) (node : Node) → fin.get (less_open nodes opens (ino ∷ [])) q ≡ Some node → fin.get nodes q ≡ Some node
  left_there q node has = elim (is_lost opens ino (fin.get nodes ino)) as (λ b. is_lost opens ino (fin.get nodes ino) ≡ b → fin.get nodes q ≡ Some node) [
    | true ↦ λ lost.
        (let gone : fin.get (fin.remove nodes ino) q ≡ Some node = ap (λ (left : Numbered Node). fin.get left q) (sym (one_lost lost)) ∙ has in
        elim (one_or_not q ino) [
          | inl e ↦ absurd (none_some node (sym (gone_here nodes ino) ∙ ap (fin.get (fin.remove nodes ino)) (sym e) ∙ gone))
          | inr apart ↦ sym (gone_there nodes ino q apart) ∙ gone
        ])
    | false ↦ λ kept. ap (λ (left : Numbered Node). fin.get left q) (sym (one_kept kept)) ∙ has
  ] refl

-- ---- the step at one inode

module _ (shown : ℕ → Option (List ℕ)) (old : ChangeList) (opens : OpenFiles) (inos : List ℕ) (ino : ℕ) where
  pub one_reads : (new : ChangeList) (need : Need) → ReadsInode shown old ino (inode.Need need) → ReleasesOne shown old new opens inos ino (hung.Need need)
  one_reads new need was = (
    was.0,
    λ image tree chain part stored looks can.
        subst (λ block. IsNearTo (with_changes image old) tree looks block) (sym was.1) (inode_near (with_changes image old) tree chain stored looks ino can.some can.within),
  )

  -- nothing is done where the inode is not lost
  stays : ((image : Image) (tree : Tree) (chain : List ℕ) → IsPart shown image.at → IsStored (with_changes image old) tree chain → is_lost (release (count_of opens) inos) ino (fin.get tree.nodes ino) ≡ false)
      → ReleasesOne shown old old opens inos ino hung.Done
  stays kept = (
    λ within. within,
    λ image tree chain part stored looks can.
        subst (λ (nodes : Numbered Node). AdvancesTo image tree looks old old (record tree { nodes = nodes })) (sym (one_kept tree.nodes (release (count_of opens) inos) ino (kept image tree chain part stored)))
        (nothing_changed image tree chain looks old stored),
  )

  module _ (d : Dinode) (read : ReadsInode shown old ino (inode.Here d)) where
    read_mode : (image : Image) (tree : Tree) (chain : List ℕ) → IsPart shown image.at → IsStored (with_changes image old) tree chain → (node : Node) → fin.get tree.nodes ino ≡ Some node → d.mode ≢ 0
    read_mode image tree chain part stored node has free =
        (node_stored (with_changes image old) tree chain stored ino node has).used (sym (ap (λ (x : Dinode). x.mode) (read image.at part)) ∙ free)

    free_mode : (image : Image) (tree : Tree) (chain : List ℕ) → IsPart shown image.at → IsStored (with_changes image old) tree chain → 1 ≤ ino → ino ≤ tree.last → fin.get tree.nodes ino ≡ None → d.mode ≡ 0
    free_mode image tree chain part stored some within has =
        ap (λ (x : Dinode). x.mode) (read image.at part) ∙ subst (HasInode (over image.at (changed old)) ino) has (stored.inodes ino (omega (arith, some)) within)

    pub one_gone : d.mode ≡ 0 → ReleasesOne shown old old opens inos ino hung.Done
    one_gone free = stays (λ image tree chain part stored.
        elim (fin.get tree.nodes ino) as (λ o. fin.get tree.nodes ino ≡ o → is_lost (release (count_of opens) inos) ino o ≡ false) [
          | None ↦ λ has. refl
          | Some node ↦ λ has. absurd (read_mode image tree chain part stored node has free)
        ] refl)

    module _ (left : ℕ) (count : left ≡ count_of opens ino - count_by (nat_eq ino) inos) where
      loss : (node : Node) → d.nlink ≡ node.nlink → is_lost (release (count_of opens) inos) ino (Some node) ≡ lost_with d.nlink left
      loss node same = sym (ap (λ n. n == 0 && left == 0) same ∙ ap (λ n. node.nlink == 0 && n == 0) count)

      pub one_stays : lost_with d.nlink left ≡ false → ReleasesOne shown old old opens inos ino hung.Done
      one_stays kept = stays (λ image tree chain part stored.
          elim (fin.get tree.nodes ino) as (λ o. fin.get tree.nodes ino ≡ o → is_lost (release (count_of opens) inos) ino o ≡ false) [
            | None ↦ λ has. refl
            | Some node ↦ λ has. loss node (read_links shown old ino d read image tree chain part stored node has) ∙ kept
          ] refl)

      pub one_erased : (new : ChangeList) (mode : d.mode ≢ 0) → lost_with d.nlink left ≡ true → (result : Hung) → Erases shown old new ino result → ReleasesOne shown old new opens inos ino result
      one_erased new used lost hung.Done was = (
        was.0,
        λ image tree chain part stored looks can.
            elim (fin.get tree.nodes ino) as (λ o. fin.get tree.nodes ino ≡ o → AdvancesTo image tree looks old new (without_lost tree opens inos ino)) [
              | None ↦ λ has. absurd (used (free_mode image tree chain part stored can.some can.within has))
              | Some node ↦ λ has.
                  (let is = ap (is_lost (release (count_of opens) inos) ino) has ∙ loss node (read_links shown old ino d read image tree chain part stored node has) ∙ lost in
                  subst (λ (nodes : Numbered Node). AdvancesTo image tree looks old new (record tree { nodes = nodes })) (sym (one_lost tree.nodes (release (count_of opens) inos) ino is))
                  (was.1 image tree chain part stored looks node (record { looked = can.looked; has = has; kind = can.kind node has })))
            ] refl,
      )
      one_erased new used lost (hung.Need need) was = (
        was.0,
        λ image tree chain part stored looks can.
            elim (fin.get tree.nodes ino) as (λ o. fin.get tree.nodes ino ≡ o → IsNearTo (with_changes image old) tree looks need.first) [
              | None ↦ λ has. absurd (used (free_mode image tree chain part stored can.some can.within has))
              | Some node ↦ λ has. was.1 image tree chain part stored looks node (record { looked = can.looked; has = has; kind = can.kind node has })
            ] refl,
      )
      one_erased new used lost hung.NoMemory was = tt

-- ---- all of them

-- the inodes before a place of the list are released: the nodes that are left, on every volume on which it fits
pub record HasReleased (opens : OpenFiles) (inos : List ℕ) (changes : ChangeList) (rest : List ℕ) (image : Image) (tree : Tree) : Type 0 where
  pub nodes : Numbered Node
  pub step : AdvancesTo image tree (touches tree (Release inos)) [] changes (record tree { nodes = nodes })
  pub left : less_open tree.nodes (release (count_of opens) inos) inos ≡ less_open nodes (release (count_of opens) inos) rest
  pub there : (ino : ℕ) (node : Node) → fin.get nodes ino ≡ Some node → fin.get tree.nodes ino ≡ Some node

pub record AreReleased (shown : ℕ → Option (List ℕ)) (opens : OpenFiles) (inos : List ℕ) (changes : ChangeList) (at : ℕ) : Type 0 where
  pub within : IsWithinView shown changes
  pub each : (image : Image) (tree : Tree) → IsPart shown image.at → IsVolume image tree → FitsRelease tree (count_of opens) inos → HasReleased opens inos changes (drop at inos) image tree

module _ (shown : ℕ → Option (List ℕ)) (opens : OpenFiles) (inos : List ℕ) where
  pub release_begins : (changes : ChangeList) → changes ≡ [] → AreReleased shown opens inos changes 0
  release_begins changes none = subst (λ xs. AreReleased shown opens inos xs 0) (sym none) (record {
    within = none_within shown;
    each = λ image tree part volume fits. record {
      nodes = tree.nodes;
      step = nothing_changed image tree volume.chain (touches tree (Release inos)) [] (stored_first shown image tree part volume);
      left = refl;
      there = λ ino node has. has;
    };
  })

  -- an inode of the list is looked at, and stands in the i-list
  releasable : (tree : Tree) (nodes : Numbered Node) (image : Image) → IsVolume image tree → FitsRelease tree (count_of opens) inos
      → ((ino : ℕ) (node : Node) → fin.get nodes ino ≡ Some node → fin.get tree.nodes ino ≡ Some node)
      → (at : ℕ) → at < length inos → IsReleasable (record tree { nodes = nodes }) (touches tree (Release inos)) (get_or inos at 0)
  releasable tree nodes image volume fits there at low =
      let is = All-get_or (IsThere tree.nodes) inos at 0 low fits.there in
      let range = volume.sound.numbers (get_or inos at 0) is.node is.has in
      record {
        looked = (touched_is tree (Release inos) (get_or inos at 0)).0 (inl (Contains-get_or inos at 0 low));
        some = range.0;
        within = range.1;
        kind = λ node has. volume.sound.kinds (get_or inos at 0) node (there (get_or inos at 0) node has);
      }

  module _ (old new : ChangeList) (at : ℕ) (low : at < length inos) (was : AreReleased shown opens inos old at) where
    pub release_next : ReleasesOne shown old new opens inos (get_or inos at 0) hung.Done → AreReleased shown opens inos new (at + 1)
    release_next one = record {
      within = one.0 was.within;
      each = λ image tree part volume fits.
          (let so_far = was.each image tree part volume fits in
          let next : Tree = record tree { nodes = so_far.nodes } in
          let stored = stored_after image tree next (touches tree (Release inos)) [] old so_far.step in
          let can = releasable tree so_far.nodes image volume fits so_far.there at low in
          let later = one.1 image next stored.0 part stored.1 (touches tree (Release inos)) can in
          record {
            nodes = less_open so_far.nodes (release (count_of opens) inos) (get_or inos at 0 ∷ []);
            step = changed_in_turn image tree next (without_lost next opens inos (get_or inos at 0)) (touches tree (Release inos)) [] old new so_far.step later;
            left = so_far.left ∙ ap (less_open so_far.nodes (release (count_of opens) inos)) (drop-cons inos at 0 low)
                ∙ one_first so_far.nodes (release (count_of opens) inos) (get_or inos at 0) (drop (suc at) inos)
                ∙ ap (λ n. less_open (less_open so_far.nodes (release (count_of opens) inos) (get_or inos at 0 ∷ [])) (release (count_of opens) inos) (drop n inos)) (sym (add-one at));
            there = λ q node has. so_far.there q node (left_there so_far.nodes (release (count_of opens) inos) (get_or inos at 0) q node has);
          });
    }

    pub release_asks : (need : Need) → ReleasesOne shown old new opens inos (get_or inos at 0) (hung.Need need) → PerformsAlways shown opens (Release inos) (acted.Need need)
    release_asks need one demanded = record {
      need = one.0;
      answer = λ image tree part volume fits.
          (let so_far = was.each image tree part volume fits in
          let next : Tree = record tree { nodes = so_far.nodes } in
          let stored = stored_after image tree next (touches tree (Release inos)) [] old so_far.step in
          near_then shown image tree part volume (Release inos) refl (count_of opens) demanded next old need.first so_far.step one.0.above
          (one.1 image next stored.0 part stored.1 (touches tree (Release inos)) (releasable tree so_far.nodes image volume fits so_far.there at low)));
    }

  pub release_ends : (changes : ChangeList) (at : ℕ) → length inos ≤ at → AreReleased shown opens inos changes at → PerformsAlways shown opens (Release inos) (acted.Done changes None)
  release_ends changes at all was demanded = record {
    need = tt;
    answer = λ image tree part volume fits.
        (let so_far = was.each image tree part volume fits in
        done shown image tree part volume (Release inos) refl (count_of opens) demanded (record tree { nodes = so_far.nodes }) changes fits
        (ap (λ (nodes : Numbered Node). Ok (record tree { nodes = nodes }))
        (so_far.left ∙ ap (less_open so_far.nodes (release (count_of opens) inos)) (drop_all at inos all) ∙ (released so_far.nodes (release (count_of opens) inos)).none))
        so_far.step was.within);
  }
