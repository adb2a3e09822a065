-- A name taken from an inode.
use Rattle.std.proofs.Common.{ℕ, ◌≡◌, ◌≢◌, ◌-◌, Bool, true, false, ◌&&◌, ◌==◌, if◌then◌else◌, List, [], Option, Some, None, Ok, option_map, inr, refl, sym, ap, subst, ◌∙◌}
use Rattle.std.specs.FinMap as fin
use Rattle.mb_kinds.specs.Image.{Image}
use Rattle.mb_kinds.specs.declared.errors.Errno.TheVariants.{ENOENT}
use Rattle.mb_layout.specs.declared.dinodes.Dinode.{Dinode}
use Rattle.mb_tree.specs.Effect.{delink, is_lost, less_name, tree_after, unlinked, without_name}
use Rattle.mb_tree.specs.Fits.{FitsUnlink}
use Rattle.mb_tree.specs.Inodes.{slots_of}
use Rattle.mb_tree.specs.Lookup.{number_in}
use Rattle.mb_tree.specs.Maps.{Numbered, changed_at}
use Rattle.mb_tree.specs.Sessions.{Counts}
use Rattle.mb_tree.specs.Views.{IsPart}
use Rattle.mb_tree.specs.Volume.{IsVolume}
use Rattle.mb_tree.specs.declared.nodes.Node.{Node}
use Rattle.mb_tree.specs.declared.nodes.PlainSlot.{PlainSlot}
use Rattle.mb_tree.specs.declared.operations.FsOp.{FsOp}
use Rattle.mb_tree.specs.declared.operations.FsOp.TheVariants.{Delink}
use Rattle.mb_tree.specs.declared.trees.Tree.{Tree}
use Rattle.mb_tree.proofs.FiniteMaps.{get_there}
use Rattle.mb_iface.specs.Acting.{with_changes}
use Rattle.mb_kinds.specs.Changed.{ChangeList}
use Rattle.mb_iface.specs.Near.{IsTouched}
use Rattle.mb_iface.specs.OpenCounts.{count_of}
use Rattle.mb_iface.specs.declared.replies.Acted.{Acted}
use Rattle.mb_iface.specs.declared.replies.Acted.TheVariants as acted
use Rattle.mb_iface.specs.declared.replies.Need.{Need}
use Rattle.mb_alloc.specs.declared.frees.Hung.{Hung}
use Rattle.mb_alloc.specs.declared.frees.Hung.TheVariants as hung
use Rattle.mb_nodes.specs.Stored.{IsStored, with_node}
use Rattle.mb_nodes.proofs.NodeParts.{node_stored}
use Rattle.mb_moves.specs.Advancing.{AdvancesTo, IsNearTo}
use Rattle.mb_moves.specs.Looking.{touches}
use Rattle.mb_moves.proofs.Asking.{inode_near}
use Rattle.mb_moves.proofs.InARow.{changed_in_turn, stored_after}
use Rattle.mb_moves.proofs.Touching.{touched_is}
use Rattle.mb_inodes.specs.Inodes.{ReadsInode}
use Rattle.mb_inodes.specs.declared.inodes.Inode.TheVariants as inode
use Rattle.mb_dirs.specs.Entering.{ClearsSlot}
use Rattle.mb_dirs.specs.Fields.{SetsFields}
use Rattle.mb_dirs.specs.declared.enters.Gap.{Gap}
use Rattle.mb_dirs.specs.declared.fields.FieldChange.TheVariants.{Links}
use Rattle.mb_dirs.specs.declared.steps.Advanced.TheVariants as advanced
use Rattle.mb_file.specs.Erasing.{Erases, IsErasable}
use Rattle.mb_fsops.specs.Links.{IsUnlinkable, LosesName, UnlinksAt, lost_with}
use Rattle.mb_fsops.specs.Performing.{OpenFiles, PerformsAlways}
use Rattle.mb_fsops.specs.Places.{FindsName, IsDirectoryWith}
use Rattle.mb_fsops.specs.declared.places.NamePlace.TheVariants as place
use Rattle.mb_fsops.proofs.Linking.{itself_named}
use Rattle.mb_fsops.proofs.Names.{near_one, number_there}
use Rattle.mb_fsops.proofs.Steps.{acts_fitting, changed_there, done, mode_above, near_first, near_then, none_within, stored_first}

-- ---- an inode that lost a name

module _ (nodes : Numbered Node) (opens : Counts) (moment ino : ℕ) (node : Node) (has : fin.get nodes ino ≡ Some node) where
  by_loss : (b : Bool) → is_lost opens ino (Some (unlinked moment node)) ≡ b → less_name nodes opens moment ino ≡ (if b then fin.remove nodes ino else changed_at nodes ino (unlinked moment))
  by_loss b is =
      ap (λ (o : Option Node). if is_lost opens ino (option_map (unlinked moment) o) then fin.remove nodes ino else changed_at nodes ino (unlinked moment)) has
      ∙ ap (λ t. if t then fin.remove nodes ino else changed_at nodes ino (unlinked moment)) is

  name_gone : is_lost opens ino (Some (unlinked moment node)) ≡ true → less_name nodes opens moment ino ≡ fin.remove nodes ino
  name_gone is = by_loss true is

  name_less : is_lost opens ino (Some (unlinked moment node)) ≡ false → less_name nodes opens moment ino ≡ fin.insert nodes ino (unlinked moment node)
  name_less is = by_loss false is ∙ changed_there nodes ino node (unlinked moment) has

-- an inode read between two steps is the node of the stored tree
pub read_links : (shown : ℕ → Option (List ℕ)) (old : ChangeList) (ino : ℕ) (d : Dinode) → ReadsInode shown old ino (inode.Here d)
    → (image : Image) (tree : Tree) (chain : List ℕ) → IsPart shown image.at → IsStored (with_changes image old) tree chain → (node : Node) → fin.get tree.nodes ino ≡ Some node → d.nlink ≡ node.nlink
read_links shown old ino d read image tree chain part stored node has = ap (λ (x : Dinode). x.nlink) (read image.at part) ∙ (node_stored (with_changes image old) tree chain stored ino node has).nlink

module _ (shown : ℕ → Option (List ℕ)) (old new : ChangeList) (opens : OpenFiles) (ino moment : ℕ) where
  pub lose_reads : (need : Need) → ReadsInode shown old ino (inode.Need need) → LosesName shown old new opens ino moment (hung.Need need)
  lose_reads need was = (
    was.0,
    λ image tree chain part stored looks node can.
        (let range = stored.numbers ino node can.has in
        subst (λ block. IsNearTo (with_changes image old) tree looks block) (sym was.1) (inode_near (with_changes image old) tree chain stored looks ino range.0 range.1)),
  )

  module _ (d : Dinode) (read : ReadsInode shown old ino (inode.Here d)) (links files : ℕ) (less : links ≡ d.nlink - 1) (count : files ≡ count_of opens ino) where
    loss : (node : Node) → d.nlink ≡ node.nlink → is_lost (count_of opens) ino (Some (unlinked moment node)) ≡ lost_with links files
    loss node same = sym (ap (λ n. n == 0 && files == 0) (less ∙ ap (λ n. n - 1) same) ∙ ap (λ n. (node.nlink - 1) == 0 && n == 0) count)

    pub lose_erased : (result : Hung) → lost_with links files ≡ true → Erases shown old new ino result → LosesName shown old new opens ino moment result
    lose_erased hung.Done lost was = (
      was.0,
      λ image tree chain part stored looks node can.
          (let is = loss node (read_links shown old ino d read image tree chain part stored node can.has) ∙ lost in
          subst (λ (nodes : Numbered Node). AdvancesTo image tree looks old new (record tree { nodes = nodes })) (sym (name_gone tree.nodes (count_of opens) moment ino node can.has is)) (was.1 image tree chain part stored looks node can)),
    )
    lose_erased (hung.Need need) lost was = (was.0, λ image tree chain part stored looks node can. was.1 image tree chain part stored looks node can)
    lose_erased hung.NoMemory lost was = tt

    pub lose_less : lost_with links files ≡ false → SetsFields shown old new ino (Links links moment) advanced.Done → LosesName shown old new opens ino moment hung.Done
    lose_less kept was = (
      was.0,
      λ image tree chain part stored looks node can.
          (let same = read_links shown old ino d read image tree chain part stored node can.has in
          let is = loss node same ∙ kept in
          let step = was.1 image tree chain part stored looks node can.has (mode_above node.mode node.mode node.body can.kind refl) in
          let fewer : links ≡ node.nlink - 1 = less ∙ ap (λ n. n - 1) same in
          subst (λ (nodes : Numbered Node). AdvancesTo image tree looks old new (record tree { nodes = nodes })) (sym (name_less tree.nodes (count_of opens) moment ino node can.has is))
          (subst (λ n. AdvancesTo image tree looks old new (with_node tree ino (record node { nlink = n; ctime = moment }))) fewer step)),
    )

    pub lose_asks : (need : Need) → SetsFields shown old new ino (Links links moment) (advanced.Need need) → LosesName shown old new opens ino moment (hung.Need need)
    lose_asks need was = (was.0, λ image tree chain part stored looks node can. was.1 image tree chain part stored looks node can.has)

-- ---- what the operation looks at

module _ (tree : Tree) (dir : ℕ) (name : List ℕ) (moment : ℕ) where
  looks_dir : touches tree (Delink dir name moment) dir ≡ true
  looks_dir = rw (itself_named dir) refl

  touches_dir : IsTouched tree (Delink dir name moment) dir
  touches_dir = (touched_is tree (Delink dir name moment) dir).1 looks_dir

  looks_led : (ino : ℕ) → number_in tree.nodes dir name ≡ Some ino → touches tree (Delink dir name moment) ino ≡ true
  looks_led ino leads = (touched_is tree (Delink dir name moment) ino).0 (inr leads)

  apart : (fits : FitsUnlink tree dir name) → (parent : Node) (slots : List PlainSlot) → IsDirectoryWith tree dir parent slots → fits.ino ≢ dir
  apart fits parent slots directory same =
      let one : Some fits.leaf.node ≡ Some parent = sym fits.leaf.has ∙ ap (fin.get tree.nodes) same ∙ directory.has in
      let same_node : fits.leaf.node ≡ parent = cc in
      let no : None ≡ Some slots = sym fits.leaf.body ∙ ap (λ (n : Node). slots_of n.body) same_node ∙ ap slots_of directory.body in
      cc

  unlink_after : (opens : Counts) (ino : ℕ) (parent : Node) → number_in tree.nodes dir name ≡ Some ino → fin.get tree.nodes dir ≡ Some parent
      → tree_after tree opens (Delink dir name moment) None ≡ Ok (record tree { nodes = less_name (fin.insert tree.nodes dir (without_name moment name parent)) opens moment ino })
  unlink_after opens ino parent leads has =
      ap (λ (o : Option ℕ). Ok (delink tree opens dir name moment o)) leads
      ∙ ap (λ (nodes : Numbered Node). Ok (record tree { nodes = less_name nodes opens moment ino })) (changed_there tree.nodes dir parent (without_name moment name) has)

one_number : (a b : ℕ) → ◌≡◌ {A = Option ℕ} (Some a) (Some b) → a ≡ b
one_number a b e = cc

-- ---- the steps

module _ (shown : ℕ → Option (List ℕ)) (old mid : ChangeList) (none : old ≡ []) (opens : OpenFiles) (dir : ℕ) (name : List ℕ) (ino moment links at : ℕ) where
  abbrev op : FsOp
  op = Delink dir name moment

  pub clear_asks : (need : Need) → ClearsSlot shown old mid dir links moment at name (advanced.Need need) → UnlinksAt shown opens dir name ino moment links at (acted.Need need)
  clear_asks need was =
      let step = subst (λ xs. ClearsSlot shown xs mid dir links moment at name (advanced.Need need)) none was in
      record {
        need = step.0;
        answer = λ image tree part volume can demanded fits.
            near_first shown image tree part volume op refl (count_of opens) demanded need.first
            (step.1 image tree volume.chain part (stored_first shown image tree part volume) (touches tree op) can.parent can.slots
            (record { has = can.directory.has; body = can.directory.body; looked_at = looks_dir tree dir name moment }) can.slot.place);
      }

  module _ (was : ClearsSlot shown old mid dir links moment at name advanced.Done) where
    module _ (image : Image) (tree : Tree) (part : IsPart shown image.at) (volume : IsVolume image tree) (can : IsUnlinkable tree dir name ino links at) (fits : FitsUnlink tree dir name) where
      abbrev next : Tree
      next = with_node tree dir (without_name moment name can.parent)

      first : AdvancesTo image tree (touches tree op) [] mid next
      first =
          let step = subst (λ xs. ClearsSlot shown xs mid dir links moment at name advanced.Done) none was in
          subst (λ n. AdvancesTo image tree (touches tree op) [] mid (with_node tree dir (record (without_name moment name can.parent) { nlink = n }))) (sym can.same)
          (step.1 image tree volume.chain part (stored_first shown image tree part volume) (touches tree op) can.parent can.slots
          (record { has = can.directory.has; body = can.directory.body; looked_at = looks_dir tree dir name moment }) can.slot.place)

      leads : number_in tree.nodes dir name ≡ Some ino
      leads = number_there tree dir can.parent can.slots can.directory name ∙ can.slot.leads

      named : fits.ino ≡ ino
      named = one_number fits.ino ino (sym fits.leads ∙ leads)

      has_leaf : fin.get tree.nodes ino ≡ Some fits.leaf.node
      has_leaf = ap (fin.get tree.nodes) (sym named) ∙ fits.leaf.has

      erasable : IsErasable next (touches tree op) ino fits.leaf.node
      erasable = record {
        looked = looks_led tree dir name moment ino leads;
        has = get_there tree.nodes dir (without_name moment name can.parent) ino (λ e. apart tree dir name moment fits can.parent can.slots can.directory (named ∙ e)) ∙ has_leaf;
        kind = volume.sound.kinds ino fits.leaf.node has_leaf;
      }

      abbrev last : Tree
      last = record tree { nodes = less_name next.nodes (count_of opens) moment ino }

    module _ (new : ChangeList) where
      pub unlink_done : LosesName shown mid new opens ino moment hung.Done → UnlinksAt shown opens dir name ino moment links at (acted.Done new None)
      unlink_done lost = record {
        need = tt;
        answer = λ image tree part volume can demanded fits.
            (let step = first image tree part volume can fits in
            let stored = stored_after image tree (next image tree part volume can fits) (touches tree op) [] mid step in
            let later = lost.1 image (next image tree part volume can fits) stored.0 part stored.1 (touches tree op) fits.leaf.node (erasable image tree part volume can fits) in
            done shown image tree part volume op refl (count_of opens) demanded (last image tree part volume can fits) new fits
            (unlink_after tree dir name moment (count_of opens) ino can.parent (leads image tree part volume can fits) can.directory.has)
            (changed_in_turn image tree (next image tree part volume can fits) (last image tree part volume can fits) (touches tree op) [] mid new step later)
            (lost.0 ((subst (λ xs. ClearsSlot shown xs mid dir links moment at name advanced.Done) none was).0 (none_within shown))));
      }

      pub unlink_asks : (need : Need) → LosesName shown mid new opens ino moment (hung.Need need) → UnlinksAt shown opens dir name ino moment links at (acted.Need need)
      unlink_asks need lost = record {
        need = lost.0;
        answer = λ image tree part volume can demanded fits.
            (let step = first image tree part volume can fits in
            let stored = stored_after image tree (next image tree part volume can fits) (touches tree op) [] mid step in
            near_then shown image tree part volume op refl (count_of opens) demanded (next image tree part volume can fits) mid need.first step lost.0.above
            (lost.1 image (next image tree part volume can fits) stored.0 part stored.1 (touches tree op) fits.leaf.node (erasable image tree part volume can fits)));
      }

-- ---- the whole operation

module _ (shown : ℕ → Option (List ℕ)) (opens : OpenFiles) (dir : ℕ) (name : List ℕ) (moment : ℕ) where
  directory_of : (tree : Tree) (fits : FitsUnlink tree dir name) → IsDirectoryWith tree dir fits.directory.node fits.directory.slots
  directory_of tree fits = record { has = fits.directory.has; body = fits.directory.body }

  pub unlink_searches : (need : Need) → FindsName shown dir name (place.Need need) → PerformsAlways shown opens (Delink dir name moment) (acted.Need need)
  unlink_searches need was demanded = record {
    need = was.0;
    answer = λ image tree part volume fits.
        near_one image tree (IsTouched tree (Delink dir name moment)) dir need.first (touches_dir tree dir name moment)
        (was.1 image tree part volume fits.directory.node fits.directory.slots (directory_of tree fits));
  }

  none_some : (n : ℕ) → ◌≡◌ {A = Option ℕ} None (Some n) → ⊥
  none_some n e = cc

  pub unlink_missing : (links : ℕ) (gap : Gap) → FindsName shown dir name (place.Open links gap) → PerformsAlways shown opens (Delink dir name moment) (acted.Refused ENOENT)
  unlink_missing links gap was demanded = record {
    need = tt;
    answer = λ image tree part volume fits.
        (let found = was image tree part volume fits.directory.node fits.directory.slots (directory_of tree fits) in
        absurd (none_some fits.ino (sym found.1.missing ∙ sym (number_there tree dir fits.directory.node fits.directory.slots (directory_of tree fits) name) ∙ fits.leads)));
  }

  pub unlinked_at : (links at ino : ℕ) → FindsName shown dir name (place.Slot links at ino) → (result : Acted) → UnlinksAt shown opens dir name ino moment links at result
      → PerformsAlways shown opens (Delink dir name moment) result
  unlinked_at links at ino found result was demanded = record {
    need = was.need;
    answer = λ image tree part volume.
        acts_fitting shown image tree opens (Delink dir name moment) demanded result (λ fits.
        (let place = found image tree part volume fits.directory.node fits.directory.slots (directory_of tree fits) in
        was.answer image tree part volume (record {
          parent = fits.directory.node;
          slots = fits.directory.slots;
          directory = directory_of tree fits;
          same = place.0;
          slot = place.1;
        }) demanded));
  }
