-- A name entered for an inode.
use Rattle.std.proofs.Common.{ℕ, ◌≡◌, ◌≢◌, ◌+◌, ◌<◌, ◌≤◌, Bool, true, false, ◌||◌, nat_eq, nat_le, nat_lt, List, [], Option, Some, None, Ok, Err, option_map, unwrap_or, refl, sym, ap, subst, ◌∙◌, arith}
use Rattle.std.specs.FinMap as fin
use Rattle.std.proofs.lemmas.Bool.Decides.{nat_tests}
use Rattle.mb_kinds.specs.Image.{Image}
use Rattle.mb_kinds.specs.declared.errors.Errno.TheVariants.{EEXIST, EMLINK, ENOSPC}
use Rattle.mb_tree.specs.Answers.{need, ◌>>◌}
use Rattle.mb_tree.specs.Cost.{cost}
use Rattle.mb_tree.specs.Effect.{fitting, linked, nlink_in, tree_after, with_name}
use Rattle.mb_tree.specs.Fits.{FitsLink}
use Rattle.mb_tree.specs.Inodes.{slots_of}
use Rattle.mb_tree.specs.Maps.{Numbered, changed_at}
use Rattle.mb_tree.specs.Views.{IsPart}
use Rattle.mb_tree.specs.Volume.{IsVolume}
use Rattle.mb_tree.specs.declared.nodes.Node.{Node}
use Rattle.mb_tree.specs.declared.nodes.PlainSlot.{PlainSlot}
use Rattle.mb_tree.specs.declared.operations.FsOp.{FsOp}
use Rattle.mb_tree.specs.declared.operations.FsOp.TheVariants.{Enlink}
use Rattle.mb_tree.specs.declared.trees.Tree.{Tree}
use Rattle.mb_tree.proofs.FiniteMaps.{get_there}
use Rattle.mb_iface.specs.Acting.{with_changes}
use Rattle.mb_kinds.specs.Changed.{ChangeList}
use Rattle.mb_iface.specs.Near.{IsTouched}
use Rattle.mb_iface.specs.OpenCounts.{count_of}
use Rattle.mb_iface.specs.declared.replies.Acted.{Acted}
use Rattle.mb_iface.specs.declared.replies.Acted.TheVariants as acted
use Rattle.mb_iface.specs.declared.replies.Need.{Need}
use Rattle.mb_nodes.specs.Stored.{IsStored, with_node}
use Rattle.mb_moves.specs.Advancing.{AdvancesTo}
use Rattle.mb_moves.specs.Looking.{touches}
use Rattle.mb_moves.proofs.InARow.{changed_in_turn, stored_after}
use Rattle.mb_moves.proofs.Touching.{touched_is}
use Rattle.mb_inodes.specs.Inodes.{ReadsInode}
use Rattle.mb_inodes.specs.declared.inodes.Inode.TheVariants as inode
use Rattle.mb_layout.specs.declared.dinodes.Dinode.{Dinode}
use Rattle.mb_namei.proofs.TreeDirectories.{near_inode}
use Rattle.mb_dirs.specs.Entering.{EntersName}
use Rattle.mb_dirs.specs.Fields.{SetsFields}
use Rattle.mb_dirs.specs.declared.enters.Entered.TheVariants as entered
use Rattle.mb_dirs.specs.declared.enters.Gap.{Gap}
use Rattle.mb_dirs.specs.declared.fields.FieldChange.TheVariants.{Links}
use Rattle.mb_dirs.specs.declared.steps.Advanced.TheVariants as advanced
use Rattle.mb_fsops.specs.Links.{IsLinkable, LinksAt}
use Rattle.mb_fsops.specs.Performing.{PerformsAnyway}
use Rattle.mb_fsops.specs.Places.{FindsName, IsDirectoryWith}
use Rattle.mb_fsops.specs.declared.places.NamePlace.TheVariants as place
use Rattle.mb_fsops.proofs.Names.{links_first, near_one, number_there}
use Rattle.mb_fsops.proofs.Steps.{acts_fitting, changed_there, done, mode_above, near_first, near_then, none_within, refused, stored_first}

-- ---- the parts of the tree equation

-- the nodes of a stored tree fit
pub room_there : (image : Image) (tree : Tree) (chain : List ℕ) → IsStored image tree chain → fitting tree tree.nodes ≡ Ok tree
room_there image tree chain stored =
    let capacity = stored.capacity in
    let t : nat_le (cost tree) tree.cap ≡ true = grind (arith, nat_tests) in
    ap (λ b. need b ENOSPC >> Ok tree) t

pub links_are : (nodes : Numbered Node) (ino : ℕ) (node : Node) → fin.get nodes ino ≡ Some node → nlink_in nodes ino ≡ node.nlink
links_are nodes ino node has = ap (λ (o : Option Node). unwrap_or (option_map (λ (n : Node). n.nlink) o) 0) has

pub few_links : (n m : ℕ) → n ≡ m → m < 32767 → nat_lt n 32767 ≡ true
few_links n m e low = grind (arith, nat_tests)

pub many_links : (n m : ℕ) → n ≡ m → 32767 ≤ m → nat_lt n 32767 ≡ false
many_links n m e high = grind (arith, nat_tests)

pub itself_named : (ino : ℕ) → nat_eq ino ino ≡ true
itself_named ino = grind (arith, nat_tests)

or_true : (b : Bool) → (b || true) ≡ true
or_true true = refl
or_true false = refl

module _ (tree : Tree) (dir : ℕ) (name : List ℕ) (ino moment : ℕ) where
  looks_dir : touches tree (Enlink dir name ino moment) dir ≡ true
  looks_dir = rw (itself_named dir) refl

  touches_dir : IsTouched tree (Enlink dir name ino moment) dir
  touches_dir = (touched_is tree (Enlink dir name ino moment) dir).1 looks_dir

  -- the inode is no directory
  apart : FitsLink tree dir name ino → (parent : Node) (slots : List PlainSlot) → IsDirectoryWith tree dir parent slots → dir ≢ ino
  apart fits parent slots directory same =
      let one : Some fits.leaf.node ≡ Some parent = sym fits.leaf.has ∙ ap (fin.get tree.nodes) (sym same) ∙ directory.has in
      let same_node : fits.leaf.node ≡ parent = cc in
      let no : None ≡ Some slots = sym fits.leaf.body ∙ ap (λ (n : Node). slots_of n.body) same_node ∙ ap slots_of directory.body in
      cc

  module _ (parent : Node) (node : Node) (few : nat_lt (nlink_in tree.nodes ino) 32767 ≡ true) (has : fin.get tree.nodes ino ≡ Some node)
      (there : fin.get (fin.insert tree.nodes ino (linked moment node)) dir ≡ Some parent) where
    nodes_after : changed_at (changed_at tree.nodes ino (linked moment)) dir (with_name moment name ino)
        ≡ fin.insert (fin.insert tree.nodes ino (linked moment node)) dir (with_name moment name ino parent)
    nodes_after =
        ap (λ (nodes : Numbered Node). changed_at nodes dir (with_name moment name ino)) (changed_there tree.nodes ino node (linked moment) has)
        ∙ changed_there (fin.insert tree.nodes ino (linked moment node)) dir parent (with_name moment name ino) there

    link_after : (opens : ℕ → ℕ) → tree_after tree opens (Enlink dir name ino moment) None
        ≡ fitting tree (fin.insert (fin.insert tree.nodes ino (linked moment node)) dir (with_name moment name ino parent))
    link_after opens =
        ap (λ b. need b EMLINK >> fitting tree (changed_at (changed_at tree.nodes ino (linked moment)) dir (with_name moment name ino))) few
        ∙ ap (fitting tree) nodes_after

-- ---- the steps

module _ (shown : ℕ → Option (List ℕ)) (old mid : ChangeList) (none : old ≡ []) (dir : ℕ) (name : List ℕ) (ino moment more links : ℕ) (gap : Gap) where
  abbrev op : FsOp
  op = Enlink dir name ino moment

  pub link_asks : (need : Need) → SetsFields shown old mid ino (Links more moment) (advanced.Need need) → LinksAt shown dir name ino moment more links gap (acted.Need need)
  link_asks need was =
      let step = subst (λ xs. SetsFields shown xs mid ino (Links more moment) (advanced.Need need)) none was in
      record {
        need = step.0;
        answer = λ image tree part volume can opens demanded fits.
            near_first shown image tree part volume op refl (count_of opens) demanded need.first
            (step.1 image tree volume.chain part (stored_first shown image tree part volume) (touches tree op) can.node can.has);
      }

  module _ (was : SetsFields shown old mid ino (Links more moment) advanced.Done) where
    module _ (image : Image) (tree : Tree) (part : IsPart shown image.at) (volume : IsVolume image tree) (can : IsLinkable tree dir ino more links gap) (fits : FitsLink tree dir name ino) where
      abbrev next : Tree
      next = with_node tree ino (linked moment can.node)

      first : AdvancesTo image tree (touches tree op) [] mid next
      first =
          let step = subst (λ xs. SetsFields shown xs mid ino (Links more moment) advanced.Done) none was in
          subst (λ n. AdvancesTo image tree (touches tree op) [] mid (with_node tree ino (record can.node { nlink = n; ctime = moment }))) can.more
          (step.1 image tree volume.chain part (stored_first shown image tree part volume) (touches tree op) can.node can.has
          (mode_above can.node.mode can.node.mode can.node.body (volume.sound.kinds ino can.node can.has) refl))

      parent_there : fin.get next.nodes dir ≡ Some can.parent
      parent_there = get_there tree.nodes ino (linked moment can.node) dir (apart tree dir name ino moment fits can.parent can.slots can.directory) ∙ can.directory.has

      few : nat_lt (nlink_in tree.nodes ino) 32767 ≡ true
      few = few_links (nlink_in tree.nodes ino) can.node.nlink (links_are tree.nodes ino can.node can.has) can.few

      after : (opens : ℕ → ℕ) → tree_after tree opens op None ≡ fitting tree (fin.insert next.nodes dir (with_name moment name ino can.parent))
      after opens = link_after tree dir name ino moment can.parent can.node few can.has parent_there opens

      abbrev last : Tree
      last = with_node next dir (with_name moment name ino can.parent)

      same_links : (n : ℕ) → can.parent.nlink ≡ n → record (with_name moment name ino can.parent) { nlink = n } ≡ with_name moment name ino can.parent
      same_links n e = ap (λ m. record (with_name moment name ino can.parent) { nlink = m }) (sym e)

      module _ (new : ChangeList) where
        second : EntersName shown mid new dir links moment gap name ino entered.Done → AdvancesTo image next (touches tree op) mid new last
        second entered =
            let stored = stored_after image tree next (touches tree op) [] mid first in
            subst (λ (n : Node). AdvancesTo image next (touches tree op) mid new (with_node next dir n)) (same_links links can.same)
            (entered.1 image next stored.0 part stored.1 (touches tree op) can.parent can.slots
            (record { has = parent_there; body = can.directory.body; looked_at = looks_dir tree dir name ino moment }) can.stands)

        whole : EntersName shown mid new dir links moment gap name ino entered.Done → AdvancesTo image tree (touches tree op) [] new last
        whole entered = changed_in_turn image tree next last (touches tree op) [] mid new first (second entered)

    module _ (new : ChangeList) where
      pub link_done : EntersName shown mid new dir links moment gap name ino entered.Done → LinksAt shown dir name ino moment more links gap (acted.Done new None)
      link_done entered = record {
        need = tt;
        answer = λ image tree part volume can opens demanded fits.
            (let step = whole image tree part volume can fits new entered in
            let stored = stored_after image tree (last image tree part volume can fits) (touches tree op) [] new step in
            done shown image tree part volume op refl (count_of opens) demanded (last image tree part volume can fits) new fits
            (after image tree part volume can fits (count_of opens) ∙ room_there (with_changes image new) (last image tree part volume can fits) stored.0 stored.1)
            step
            (entered.0 ((subst (λ xs. SetsFields shown xs mid ino (Links more moment) advanced.Done) none was).0 (none_within shown))));
      }

      pub link_full : EntersName shown mid new dir links moment gap name ino entered.NoneLeft → LinksAt shown dir name ino moment more links gap (acted.Refused ENOSPC)
      link_full entered = record {
        need = tt;
        answer = λ image tree part volume can opens demanded fits.
            (let step = first image tree part volume can fits in
            let stored = stored_after image tree (next image tree part volume can fits) (touches tree op) [] mid step in
            let full = entered image (next image tree part volume can fits) stored.0 part stored.1 (touches tree op) can.parent can.slots
            (record { has = parent_there image tree part volume can fits; body = can.directory.body; looked_at = looks_dir tree dir name ino moment }) can.stands in
            refused shown image tree part volume op refl (count_of opens) demanded ENOSPC
            (after image tree part volume can fits (count_of opens)
            ∙ subst (λ (n : Node). fitting tree (fin.insert (next image tree part volume can fits).nodes dir n) ≡ Err ENOSPC) (same_links image tree part volume can fits links can.same) full));
      }

      pub enter_asks : (need : Need) → EntersName shown mid new dir links moment gap name ino (entered.Need need) → LinksAt shown dir name ino moment more links gap (acted.Need need)
      enter_asks need entered = record {
        need = entered.0;
        answer = λ image tree part volume can opens demanded fits.
            (let step = first image tree part volume can fits in
            let stored = stored_after image tree (next image tree part volume can fits) (touches tree op) [] mid step in
            near_then shown image tree part volume op refl (count_of opens) demanded (next image tree part volume can fits) mid need.first step entered.0.above
            (entered.1 image (next image tree part volume can fits) stored.0 part stored.1 (touches tree op) can.parent can.slots
            (record { has = parent_there image tree part volume can fits; body = can.directory.body; looked_at = looks_dir tree dir name ino moment }) can.stands));
      }

-- ---- the whole operation

module _ (shown : ℕ → Option (List ℕ)) (old : ChangeList) (none : old ≡ []) (dir : ℕ) (name : List ℕ) (ino moment : ℕ) where
  pub inode_asks : (need : Need) → ReadsInode shown old ino (inode.Need need) → PerformsAnyway shown (Enlink dir name ino moment) (acted.Need need)
  inode_asks need was opens demanded = record {
    need = was.0;
    answer = λ image tree part volume fits. near_inode image tree volume (IsTouched tree (Enlink dir name ino moment)) ino need.first (record { node = fits.leaf.node; has = fits.leaf.has }) was.1;
  }

  pub name_asked : (need : Need) → FindsName shown dir name (place.Need need) → PerformsAnyway shown (Enlink dir name ino moment) (acted.Need need)
  name_asked need was opens demanded = record {
    need = was.0;
    answer = λ image tree part volume fits.
        near_one image tree (IsTouched tree (Enlink dir name ino moment)) dir need.first (touches_dir tree dir name ino moment)
        (was.1 image tree part volume fits.missing.directory.node fits.missing.directory.slots (record { has = fits.missing.directory.has; body = fits.missing.directory.body }));
  }

  pub name_there : (links at other : ℕ) → FindsName shown dir name (place.Slot links at other) → PerformsAnyway shown (Enlink dir name ino moment) (acted.Refused EEXIST)
  name_there links at other was opens demanded = record {
    need = tt;
    answer = λ image tree part volume fits.
        (let is : IsDirectoryWith tree dir fits.missing.directory.node fits.missing.directory.slots = record { has = fits.missing.directory.has; body = fits.missing.directory.body } in
        let found = was image tree part volume fits.missing.directory.node fits.missing.directory.slots is in
        let no : None ≡ Some other = sym fits.missing.missing ∙ number_there tree dir fits.missing.directory.node fits.missing.directory.slots is name ∙ found.1.leads in
        absurd (none_some no));
  }
    where
      none_some : {n : ℕ} → None ≡ Some n → ⊥
      none_some e = cc

  module _ (d : Dinode) (read : ReadsInode shown old ino (inode.Here d)) where
    pub links_full : 32767 ≤ d.nlink → PerformsAnyway shown (Enlink dir name ino moment) (acted.Refused EMLINK)
    links_full high opens demanded = record {
      need = tt;
      answer = λ image tree part volume fits.
          (let same = links_first shown old none ino d read image part tree volume fits.leaf.node fits.leaf.has in
          let many = many_links (nlink_in tree.nodes ino) d.nlink (links_are tree.nodes ino fits.leaf.node fits.leaf.has ∙ same) high in
          refused shown image tree part volume (Enlink dir name ino moment) refl (count_of opens) demanded EMLINK
          (ap (λ b. need b EMLINK >> fitting tree (changed_at (changed_at tree.nodes ino (linked moment)) dir (with_name moment name ino))) many));
    }

    pub linked_at : (more links : ℕ) (gap : Gap) → d.nlink < 32767 → more ≡ d.nlink + 1 → FindsName shown dir name (place.Open links gap)
        → (result : Acted) → LinksAt shown dir name ino moment more links gap result → PerformsAnyway shown (Enlink dir name ino moment) result
    linked_at more links gap low is_more found result at opens demanded = record {
      need = at.need;
      answer = λ image tree part volume.
          acts_fitting shown image tree opens (Enlink dir name ino moment) demanded result (λ fits.
          (let is : IsDirectoryWith tree dir fits.missing.directory.node fits.missing.directory.slots = record { has = fits.missing.directory.has; body = fits.missing.directory.body } in
          let place = found image tree part volume fits.missing.directory.node fits.missing.directory.slots is in
          let same = links_first shown old none ino d read image part tree volume fits.leaf.node fits.leaf.has in
          at.answer image tree part volume (record {
            node = fits.leaf.node;
            has = fits.leaf.has;
            more = is_more ∙ ap (λ n. n + 1) (sym same);
            few = omega (arith, same, low);
            parent = fits.missing.directory.node;
            slots = fits.missing.directory.slots;
            directory = is;
            same = place.0;
            stands = place.1.stands;
          }) opens demanded));
    }
