-- A directory removed, on a volume.
use Rattle.std.proofs.Common.{ℕ, ◌≡◌, ◌≢◌, ◌≤◌, ◌-◌, true, List, [], Option, Some, None, Ok, inr, refl, sym, ap, subst, ◌∙◌}
use Rattle.std.specs.FinMap as fin
use Rattle.mb_kinds.specs.Image.{Image}
use Rattle.mb_kinds.specs.declared.errors.Errno.TheVariants.{ENOENT}
use Rattle.mb_tree.specs.Effect.{remove_dir, tree_after, without_link}
use Rattle.mb_tree.specs.Fits.{FitsRemoval}
use Rattle.mb_tree.specs.Lookup.{number_in, used_in}
use Rattle.mb_tree.specs.Maps.{Numbered}
use Rattle.mb_tree.specs.Trees.{IsSound}
use Rattle.mb_tree.specs.Views.{IsPart}
use Rattle.mb_tree.specs.Volume.{IsVolume}
use Rattle.mb_tree.specs.declared.nodes.Node.{Node}
use Rattle.mb_tree.specs.declared.operations.FsOp.{FsOp}
use Rattle.mb_tree.specs.declared.operations.FsOp.TheVariants.{RemoveDir}
use Rattle.mb_tree.specs.declared.trees.Tree.{Tree}
use Rattle.mb_tree.proofs.FiniteMaps.{get_there}
use Rattle.mb_tree.proofs.RemovedDirectories.{removed_is}
use Rattle.mb_tree.proofs.Rewritten.{is_found}
use Rattle.mb_kinds.specs.Changed.{ChangeList}
use Rattle.mb_iface.specs.Near.{IsTouched}
use Rattle.mb_iface.specs.OpenCounts.{count_of}
use Rattle.mb_iface.specs.declared.replies.Acted.{Acted}
use Rattle.mb_iface.specs.declared.replies.Acted.TheVariants as acted
use Rattle.mb_iface.specs.declared.replies.Need.{Need}
use Rattle.mb_alloc.specs.declared.frees.Hung.TheVariants as hung
use Rattle.mb_nodes.specs.Stored.{with_node, without_node}
use Rattle.mb_moves.specs.Advancing.{AdvancesTo}
use Rattle.mb_moves.specs.Looking.{touches}
use Rattle.mb_moves.proofs.InARow.{changed_in_turn, stored_after}
use Rattle.mb_moves.proofs.Touching.{touched_is}
use Rattle.mb_dirs.specs.Entering.{ClearsSlot}
use Rattle.mb_dirs.specs.Steps.{IsLookedThrough}
use Rattle.mb_dirs.specs.declared.enters.Gap.{Gap}
use Rattle.mb_dirs.specs.declared.steps.Advanced.TheVariants as advanced
use Rattle.mb_file.specs.Erasing.{Erases, IsErasable}
use Rattle.mb_fsops.specs.Performing.{PerformsAnyway}
use Rattle.mb_fsops.specs.Places.{FindsName, IsDirectoryWith}
use Rattle.mb_fsops.specs.Removing.{IsRemovable, RemovesAt}
use Rattle.mb_fsops.specs.declared.places.NamePlace.TheVariants as place
use Rattle.mb_fsops.proofs.Apart.{removed_apart}
use Rattle.mb_fsops.proofs.Linking.{itself_named}
use Rattle.mb_fsops.proofs.Names.{near_one, number_there}
use Rattle.mb_fsops.proofs.Steps.{acts_fitting, done, near_first, near_then, none_within, stored_first}

one_number : (a b : ℕ) → ◌≡◌ {A = Option ℕ} (Some a) (Some b) → a ≡ b
one_number a b e = cc

module _ (dir : ℕ) (name : List ℕ) (moment : ℕ) where
  abbrev op : FsOp
  op = RemoveDir dir name moment

  -- ---- what the operation looks at

  looks_dir : (tree : Tree) → touches tree op dir ≡ true
  looks_dir tree = rw (itself_named dir) refl

  touches_dir : (tree : Tree) → IsTouched tree op dir
  touches_dir tree = (touched_is tree op dir).1 (looks_dir tree)

  looks_led : (tree : Tree) (ino : ℕ) → number_in tree.nodes dir name ≡ Some ino → touches tree op ino ≡ true
  looks_led tree ino leads = (touched_is tree op ino).0 (inr leads)

  module _ (links at ino : ℕ) where
    look : (tree : Tree) (can : IsRemovable tree dir links at name ino) → IsLookedThrough tree (touches tree op) dir can.parent can.slots
    look tree can = record { has = can.directory.has; body = can.directory.body; looked_at = looks_dir tree }

    -- ---- what the operation comes to

    module _ (tree : Tree) (sound : IsSound tree) (can : IsRemovable tree dir links at name ino) (opens : ℕ → ℕ) (fits : FitsRemoval tree opens dir name) where
      abbrev next : Tree
      next = with_node tree dir (without_link moment name can.parent)

      abbrev last : Tree
      last = without_node next ino

      leads : number_in tree.nodes dir name ≡ Some ino
      leads = number_there tree dir can.parent can.slots can.directory name ∙ can.slot.leads

      named : fits.ino ≡ ino
      named = one_number fits.ino ino (sym fits.leads ∙ leads)

      has_child : fin.get tree.nodes ino ≡ Some fits.directory.node
      has_child = ap (fin.get tree.nodes) (sym named) ∙ fits.directory.has

      few : used_in tree.nodes ino ≤ 2
      few = subst (λ i. used_in tree.nodes i ≤ 2) named fits.empty

      apart : ino ≢ dir
      apart = removed_apart tree sound dir name ino can.parent can.slots can.directory can.slot.leads fits.no_dots few

      erasable : IsErasable next (touches tree op) ino fits.directory.node
      erasable = record {
        looked = looks_led tree ino leads;
        has = get_there tree.nodes dir (without_link moment name can.parent) ino apart ∙ has_child;
        kind = sound.kinds ino fits.directory.node has_child;
      }

      after : tree_after tree opens op None ≡ Ok last
      after =
          ap (λ (o : Option ℕ). Ok (remove_dir tree dir name moment o)) leads
          ∙ ap (λ (nodes : Numbered Node). Ok (record tree { nodes = nodes }))
          (removed_is tree sound dir ino name moment can.parent fits.directory.node can.slots fits.directory.slots can.directory.has can.directory.body
          (is_found can.slots name ino can.slot.leads) fits.no_dots has_child fits.directory.body few)

    -- ---- the steps

    module _ (shown : ℕ → Option (List ℕ)) (old mid : ChangeList) (none : old ≡ []) where
      pub clear_asks : (need : Need) → ClearsSlot shown old mid dir links moment at name (advanced.Need need) → RemovesAt shown dir links at name ino moment (acted.Need need)
      clear_asks need was =
          let step = subst (λ xs. ClearsSlot shown xs mid dir links moment at name (advanced.Need need)) none was in
          record {
            need = step.0;
            answer = λ image tree part volume can opens demanded fits.
                near_first shown image tree part volume op refl (count_of opens) demanded need.first
                (step.1 image tree volume.chain part (stored_first shown image tree part volume) (touches tree op) can.parent can.slots (look tree can) can.slot.place);
          }

      module _ (was : ClearsSlot shown old mid dir links moment at name advanced.Done) where
        cleared : ClearsSlot shown [] mid dir links moment at name advanced.Done
        cleared = subst (λ xs. ClearsSlot shown xs mid dir links moment at name advanced.Done) none was

        first : (image : Image) (tree : Tree) → IsPart shown image.at → IsVolume image tree → (can : IsRemovable tree dir links at name ino)
            → AdvancesTo image tree (touches tree op) [] mid (with_node tree dir (without_link moment name can.parent))
        first image tree part volume can =
            subst (λ n. AdvancesTo image tree (touches tree op) [] mid (with_node tree dir (record (without_link moment name can.parent) { nlink = n }))) (sym can.less)
            (cleared.1 image tree volume.chain part (stored_first shown image tree part volume) (touches tree op) can.parent can.slots (look tree can) can.slot.place)

        module _ (new : ChangeList) where
          pub removal_done : Erases shown mid new ino hung.Done → RemovesAt shown dir links at name ino moment (acted.Done new None)
          removal_done erased = record {
            need = tt;
            answer = λ image tree part volume can opens demanded fits.
                (let step = first image tree part volume can in
                let then = next tree volume.sound can (count_of opens) fits in
                let stored = stored_after image tree then (touches tree op) [] mid step in
                let later = erased.1 image then stored.0 part stored.1 (touches tree op) fits.directory.node (erasable tree volume.sound can (count_of opens) fits) in
                done shown image tree part volume op refl (count_of opens) demanded (without_node then ino) new fits
                (after tree volume.sound can (count_of opens) fits)
                (changed_in_turn image tree then (without_node then ino) (touches tree op) [] mid new step later)
                (erased.0 (cleared.0 (none_within shown))));
          }

          pub removal_asks : (need : Need) → Erases shown mid new ino (hung.Need need) → RemovesAt shown dir links at name ino moment (acted.Need need)
          removal_asks need erased = record {
            need = erased.0;
            answer = λ image tree part volume can opens demanded fits.
                (let step = first image tree part volume can in
                let then = next tree volume.sound can (count_of opens) fits in
                let stored = stored_after image tree then (touches tree op) [] mid step in
                near_then shown image tree part volume op refl (count_of opens) demanded then mid need.first step erased.0.above
                (erased.1 image then stored.0 part stored.1 (touches tree op) fits.directory.node (erasable tree volume.sound can (count_of opens) fits)));
          }

  -- ---- the whole operation

  module _ (shown : ℕ → Option (List ℕ)) where
    parent_of : (tree : Tree) (opens : ℕ → ℕ) (fits : FitsRemoval tree opens dir name) → IsDirectoryWith tree dir fits.parent.node fits.parent.slots
    parent_of tree opens fits = record { has = fits.parent.has; body = fits.parent.body }

    pub removal_searches : (need : Need) → FindsName shown dir name (place.Need need) → PerformsAnyway shown op (acted.Need need)
    removal_searches need was opens demanded = record {
      need = was.0;
      answer = λ image tree part volume fits.
          near_one image tree (IsTouched tree op) dir need.first (touches_dir tree) (was.1 image tree part volume fits.parent.node fits.parent.slots (parent_of tree (count_of opens) fits));
    }

    none_some : (n : ℕ) → ◌≡◌ {A = Option ℕ} None (Some n) → ⊥
    none_some n e = cc

    pub removal_missing : (links : ℕ) (gap : Gap) → FindsName shown dir name (place.Open links gap) → PerformsAnyway shown op (acted.Refused ENOENT)
    removal_missing links gap was opens demanded = record {
      need = tt;
      answer = λ image tree part volume fits.
          (let is = parent_of tree (count_of opens) fits in
          let found = was image tree part volume fits.parent.node fits.parent.slots is in
          absurd (none_some fits.ino (sym found.1.missing ∙ sym (number_there tree dir fits.parent.node fits.parent.slots is name) ∙ fits.leads)));
    }

    pub removed_at : (links less at ino : ℕ) → less ≡ links - 1 → FindsName shown dir name (place.Slot links at ino) → (result : Acted) → RemovesAt shown dir less at name ino moment result
        → PerformsAnyway shown op result
    removed_at links less at ino is_less found result was opens demanded = record {
      need = was.need;
      answer = λ image tree part volume.
          acts_fitting shown image tree opens op demanded result (λ fits.
          (let is = parent_of tree (count_of opens) fits in
          let place = found image tree part volume fits.parent.node fits.parent.slots is in
          was.answer image tree part volume (record {
            parent = fits.parent.node;
            slots = fits.parent.slots;
            directory = is;
            less = ap (λ n. n - 1) place.0 ∙ sym is_less;
            slot = place.1;
          }) opens demanded));
    }
