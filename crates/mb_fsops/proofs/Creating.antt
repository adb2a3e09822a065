-- A file made under a new name, on a volume.
use Rattle.std.proofs.Common.{ℕ, ◌≡◌, ◌≤◌, ◌<◌, ◌⊎◌, inl, true, List, [], Option, Some, None, Err, IfSome, refl, sym, ap, subst, ◌∙◌}
use Rattle.std.specs.FinMap as fin
use Rattle.mb_word.specs.Fields.{isize_of}
use Rattle.mb_kinds.specs.declared.errors.Errno.TheVariants.{EEXIST, ENOSPC}
use Rattle.mb_tree.specs.Effect.{fitting, tree_after, with_name}
use Rattle.mb_tree.specs.Fits.{FitsNew}
use Rattle.mb_tree.specs.Maps.{Numbered}
use Rattle.mb_tree.specs.Views.{over, IsPart}
use Rattle.mb_tree.specs.declared.nodes.Node.{Node}
use Rattle.mb_tree.specs.declared.operations.FsOp.{FsOp}
use Rattle.mb_tree.specs.declared.operations.FsOp.TheVariants.{Create}
use Rattle.mb_tree.specs.declared.trees.Tree.{Tree}
use Rattle.mb_blocks.proofs.Rearranged.{own}
use Rattle.mb_iface.specs.Acting.{with_changes}
use Rattle.mb_kinds.specs.Changed.{ChangeList, changed}
use Rattle.mb_iface.specs.Near.{IsTouched}
use Rattle.mb_iface.specs.Needs.{IsNeed}
use Rattle.mb_iface.specs.OpenCounts.{count_of}
use Rattle.mb_iface.specs.declared.replies.Acted.{Acted}
use Rattle.mb_iface.specs.declared.replies.Acted.TheVariants as acted
use Rattle.mb_iface.specs.declared.replies.Need.{Need}
use Rattle.mb_moves.specs.Looking.{touches}
use Rattle.mb_moves.proofs.Done.{operation_done, operation_refused}
use Rattle.mb_moves.proofs.InARow.{stored_after}
use Rattle.mb_moves.proofs.Touching.{near_touched, touched_is}
use Rattle.mb_dirs.specs.Creating.{CreatesIn, with_new}
use Rattle.mb_dirs.specs.Making.{file_made}
use Rattle.mb_dirs.specs.Steps.{IsLookedThrough}
use Rattle.mb_dirs.specs.declared.choices.Chosen.TheVariants as chosen
use Rattle.mb_dirs.specs.declared.enters.Gap.{Gap}
use Rattle.mb_dirs.specs.declared.makes.NewInode.{NewInode}
use Rattle.mb_fsops.specs.Creating.{CreatesAt, IsOpenAt, PerformsWith}
use Rattle.mb_fsops.specs.Places.{FindsName, IsDirectoryWith}
use Rattle.mb_fsops.specs.declared.places.NamePlace.TheVariants as place
use Rattle.mb_fsops.proofs.FreeNumbers.{v7_pick}
use Rattle.mb_fsops.proofs.Linking.{room_there}
use Rattle.mb_fsops.proofs.Names.{near_one, number_there}
use Rattle.mb_fsops.proofs.Steps.{acts_fitting, asked_first, changed_there, none_within, stored_first}

module _ (dir : ℕ) (name : List ℕ) (new : NewInode) where
  abbrev op : FsOp
  op = Create dir name new.mode new.uid new.gid new.moment

  abbrev next : Tree → ℕ → Node → ℕ → Tree
  next tree links parent ino = with_new tree dir links new.moment name (λ number. file_made new) parent ino

  touches_dir : (tree : Tree) → IsTouched tree op dir
  touches_dir tree = inl (own dir [])

  looks_dir : (tree : Tree) → touches tree op dir ≡ true
  looks_dir tree = (touched_is tree op dir).0 (touches_dir tree)

  look : (tree : Tree) (links : ℕ) (gap : Gap) → (can : IsOpenAt tree dir links gap) → IsLookedThrough tree (touches tree op) dir can.parent can.slots
  look tree links gap can = record { has = can.directory.has; body = can.directory.body; looked_at = looks_dir tree }

  after : (tree : Tree) (links : ℕ) (gap : Gap) → (can : IsOpenAt tree dir links gap) → (opens : ℕ → ℕ) (ino : ℕ) → tree_after tree opens op (Some ino) ≡ fitting tree (next tree links can.parent ino).nodes
  after tree links gap can opens ino =
      ap (λ (nodes : Numbered Node). fitting tree (fin.insert nodes ino (file_made new))) (changed_there tree.nodes dir can.parent (with_name new.moment name ino) can.directory.has)
      ∙ ap (λ n. fitting tree (fin.insert (fin.insert tree.nodes dir (record (with_name new.moment name ino can.parent) { nlink = n })) ino (file_made new))) can.same

  after_refused : (tree : Tree) (links : ℕ) (gap : Gap) → (can : IsOpenAt tree dir links gap) → (opens : ℕ → ℕ) (picked : Option ℕ)
      → IfSome picked (λ ino. fitting tree (next tree links can.parent ino).nodes ≡ Err ENOSPC) → tree_after tree opens op picked ≡ Err ENOSPC
  after_refused tree links gap can opens None full = refl
  after_refused tree links gap can opens (Some ino) full = after tree links gap can opens ino ∙ full

  module _ (shown : ℕ → Option (List ℕ)) (old now : ChangeList) (none : old ≡ []) (links : ℕ) (gap : Gap) (demanded : Option ℕ) where
    pub create_done : (ino : ℕ) → CreatesIn shown old now dir links gap name new demanded (chosen.Number ino) → CreatesAt shown dir links gap name new demanded (acted.Done now (Some ino))
    create_done ino was =
        let makes = subst (λ xs. CreatesIn shown xs now dir links gap name new demanded (chosen.Number ino)) none was in
        record {
          need = tt;
          answer = λ image tree part volume can opens fits.
              (let got = makes.1 image tree volume.chain part (stored_first shown image tree part volume) (touches tree op) can.parent can.slots (look tree links gap can) can.stands fits.picked in
              let stored = stored_after image tree (next tree links can.parent ino) (touches tree op) [] now got.2 in
              operation_done shown image tree (next tree links can.parent ino) (touches tree op) (count_of opens) op demanded (Some ino) now volume fits got.0
              (after tree links gap can (count_of opens) ino ∙ room_there (with_changes image now) (next tree links can.parent ino) stored.0 stored.1) got.2 (makes.0 (none_within shown)));
          picks = v7_pick shown demanded ino makes.2;
        }

    pub create_refused : CreatesIn shown old now dir links gap name new demanded chosen.NoneLeft → CreatesAt shown dir links gap name new demanded (acted.Refused ENOSPC)
    create_refused was =
        let short = subst (λ xs. CreatesIn shown xs now dir links gap name new demanded chosen.NoneLeft) none was in
        record {
          need = tt;
          answer = λ image tree part volume can opens fits.
              (let got = short image tree volume.chain part (stored_first shown image tree part volume) (touches tree op) can.parent can.slots (look tree links gap can) can.stands fits.picked in
              operation_refused tree (count_of opens) op demanded got.picked ENOSPC got.picks (after_refused tree links gap can (count_of opens) got.picked got.full));
          picks = tt;
        }

    pub create_asks : (need : Need) → CreatesIn shown old now dir links gap name new demanded (chosen.Need need) → CreatesAt shown dir links gap name new demanded (acted.Need need)
    create_asks need was =
        let asks = subst (λ xs. CreatesIn shown xs now dir links gap name new demanded (chosen.Need need)) none was in
        record {
          need = asks.0;
          answer = λ image tree part volume can opens fits.
              (near_touched image tree op need.first).1
              (asks.1 image tree volume.chain part (stored_first shown image tree part volume) (touches tree op) can.parent can.slots (look tree links gap can) can.stands fits.picked);
          picks = tt;
        }

  module _ (shown : ℕ → Option (List ℕ)) (demanded : Option ℕ) where
    pub number_asked : (none : ChangeList) → none ≡ [] → (need : Need) → IsNeed shown need × ((blocks : ℕ → List ℕ) → IsPart shown blocks → (need.first ≡ 1) ⊎ ((2 ≤ need.first) × (need.first < isize_of (over blocks (changed none) 1))))
        → PerformsWith shown op demanded (acted.Need need)
    number_asked none is need was opens = record {
      need = was.0;
      answer = λ image tree part volume fits. asked_first image (IsTouched tree op) tree need.first
          (subst (λ xs. (need.first ≡ 1) ⊎ ((2 ≤ need.first) × (need.first < isize_of (over image.at (changed xs) 1)))) is (was.1 image.at part));
    }

    pub name_asked : (need : Need) → FindsName shown dir name (place.Need need) → PerformsWith shown op demanded (acted.Need need)
    name_asked need was opens = record {
      need = was.0;
      answer = λ image tree part volume fits.
          near_one image tree (IsTouched tree op) dir need.first (touches_dir tree)
          (was.1 image tree part volume fits.missing.directory.node fits.missing.directory.slots (record { has = fits.missing.directory.has; body = fits.missing.directory.body }));
    }

    pub name_there : (links at other : ℕ) → FindsName shown dir name (place.Slot links at other) → PerformsWith shown op demanded (acted.Refused EEXIST)
    name_there links at other was opens = record {
      need = tt;
      answer = λ image tree part volume fits.
          (let is : IsDirectoryWith tree dir fits.missing.directory.node fits.missing.directory.slots = record { has = fits.missing.directory.has; body = fits.missing.directory.body } in
          let found = was image tree part volume fits.missing.directory.node fits.missing.directory.slots is in
          let no : None ≡ Some other = sym fits.missing.missing ∙ number_there tree dir fits.missing.directory.node fits.missing.directory.slots is name ∙ found.1.leads in
          absurd (none_some no));
    }
      where
        none_some : {n : ℕ} → None ≡ Some n → ⊥
        none_some e = cc

    pub created_at : (links : ℕ) (gap : Gap) → FindsName shown dir name (place.Open links gap) → (result : Acted) → CreatesAt shown dir links gap name new demanded result → PerformsWith shown op demanded result
    created_at links gap was result at opens = record {
      need = at.need;
      answer = λ image tree part volume.
          acts_fitting shown image tree opens op demanded result (λ (fits : FitsNew tree dir name new.mode demanded).
          (let is : IsDirectoryWith tree dir fits.missing.directory.node fits.missing.directory.slots = record { has = fits.missing.directory.has; body = fits.missing.directory.body } in
          let found = was image tree part volume fits.missing.directory.node fits.missing.directory.slots is in
          at.answer image tree part volume (record { parent = fits.missing.directory.node; slots = fits.missing.directory.slots; directory = is; same = found.0; stands = found.1.stands }) opens));
    }
