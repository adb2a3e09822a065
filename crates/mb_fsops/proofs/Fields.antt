-- Fields of an inode set, and an inode held.
use Rattle.std.proofs.Common.{ℕ, ◌≡◌, ◌≢◌, false, List, [], Option, Some, None, Ok, refl, sym, ap, subst, bit_or}
use Rattle.std.specs.FinMap as fin
use Rattle.mb_tree.specs.Answers.{Answer}
use Rattle.mb_tree.specs.Effect.{tree_after, with_mode, with_owner, with_times}
use Rattle.mb_tree.specs.Fits.{Fits}
use Rattle.mb_tree.specs.Inodes.{kind_of}
use Rattle.mb_tree.specs.Maps.{Numbered, changed_at}
use Rattle.mb_tree.specs.PickLaws.{makes_inode}
use Rattle.mb_tree.specs.Sessions.{Counts}
use Rattle.mb_tree.specs.Trees.{IsSound}
use Rattle.mb_tree.specs.declared.nodes.Node.{Node}
use Rattle.mb_tree.specs.declared.operations.FsOp.{FsOp}
use Rattle.mb_tree.specs.declared.operations.FsOp.TheVariants.{SetMode, SetOwner, SetTimes, Hold}
use Rattle.mb_tree.specs.declared.trees.Tree.{Tree}
use Rattle.mb_tree.proofs.BytesOrAttributes.{kind_set}
use Rattle.mb_kinds.specs.Changed.{ChangeList}
use Rattle.mb_iface.specs.OpenCounts.{count_of}
use Rattle.mb_iface.specs.declared.replies.Acted.TheVariants as acted
use Rattle.mb_iface.specs.declared.replies.Need.{Need}
use Rattle.mb_nodes.specs.Stored.{with_node}
use Rattle.mb_moves.specs.Looking.{touches}
use Rattle.mb_moves.proofs.InARow.{nothing_changed}
use Rattle.mb_dirs.specs.Fields.{SetsFields, with_fields}
use Rattle.mb_dirs.specs.declared.fields.FieldChange.{FieldChange}
use Rattle.mb_dirs.specs.declared.fields.FieldChange.TheVariants.{Mode, Owner, Times, Links, Touch}
use Rattle.mb_dirs.specs.declared.steps.Advanced.TheVariants as advanced
use Rattle.mb_fsops.specs.Attributes.{IsSetting, SetsThese}
use Rattle.mb_fsops.specs.Performing.{PerformsAnyway}
use Rattle.mb_fsops.proofs.Steps.{changed_there, done, mode_above, near_first, none_within, stored_first}

-- the operation sets the fields of a node that stays one in use
record SetsOn (tree : Tree) (opens : Counts) (op : FsOp) (ino : ℕ) (change : FieldChange) : Type 0 where
  node : Node
  has : fin.get tree.nodes ino ≡ Some node
  used : (with_fields change node).mode ≢ 0
  after : tree_after tree opens op None ≡ Ok (with_node tree ino (with_fields change node))

-- where it fits
record IsSettingAs (op : FsOp) (ino : ℕ) (change : FieldChange) : Type 0 where
  makes : makes_inode op ≡ false
  sets : (tree : Tree) (opens : Counts) (demanded : Option ℕ) → IsSound tree → Fits tree opens op demanded → SetsOn tree opens op ino change

after_there : (tree : Tree) (ino : ℕ) (node : Node) (f : Node → Node) → fin.get tree.nodes ino ≡ Some node
    → ◌≡◌ {A = Answer Tree} (Ok (record tree { nodes = changed_at tree.nodes ino f })) (Ok (with_node tree ino (f node)))
after_there tree ino node f has = ap (λ (nodes : Numbered Node). Ok (record tree { nodes = nodes })) (changed_there tree.nodes ino node f has)

setting_mode : (ino mode moment : ℕ) → IsSettingAs (SetMode ino mode moment) ino (Mode mode moment)
setting_mode ino mode moment = record {
  makes = refl;
  sets = λ tree opens demanded sound fits. record {
    node = fits.0.node;
    has = fits.0.has;
    used = mode_above fits.0.node.mode (bit_or (kind_of fits.0.node.mode) mode) fits.0.node.body (sound.kinds ino fits.0.node fits.0.has) (kind_set fits.0.node.mode mode fits.1);
    after = after_there tree ino fits.0.node (with_mode mode moment) fits.0.has;
  };
}

setting_owner : (ino uid gid moment : ℕ) → IsSettingAs (SetOwner ino uid gid moment) ino (Owner uid gid moment)
setting_owner ino uid gid moment = record {
  makes = refl;
  sets = λ tree opens demanded sound fits. record {
    node = fits.node;
    has = fits.has;
    used = mode_above fits.node.mode fits.node.mode fits.node.body (sound.kinds ino fits.node fits.has) refl;
    after = after_there tree ino fits.node (with_owner uid gid moment) fits.has;
  };
}

setting_times : (ino atime mtime moment : ℕ) → IsSettingAs (SetTimes ino atime mtime moment) ino (Times atime mtime moment)
setting_times ino atime mtime moment = record {
  makes = refl;
  sets = λ tree opens demanded sound fits. record {
    node = fits.node;
    has = fits.has;
    used = mode_above fits.node.mode fits.node.mode fits.node.body (sound.kinds ino fits.node fits.has) refl;
    after = after_there tree ino fits.node (with_times atime mtime moment) fits.has;
  };
}

setting : (ino : ℕ) (change : FieldChange) (op : FsOp) → IsSetting ino change op → IsSettingAs op ino change
setting ino (Mode mode moment) op is = subst (λ o. IsSettingAs o ino (Mode mode moment)) (sym is) (setting_mode ino mode moment)
setting ino (Owner uid gid moment) op is = subst (λ o. IsSettingAs o ino (Owner uid gid moment)) (sym is) (setting_owner ino uid gid moment)
setting ino (Times atime mtime moment) op is = subst (λ o. IsSettingAs o ino (Times atime mtime moment)) (sym is) (setting_times ino atime mtime moment)
setting ino (Links links moment) op is = absurd is
setting ino (Touch links moment) op is = absurd is

module _ (shown : ℕ → Option (List ℕ)) (old new : ChangeList) (none : old ≡ []) (ino : ℕ) (change : FieldChange) where
  pub fields_done : SetsFields shown old new ino change advanced.Done → SetsThese shown ino change (acted.Done new None)
  fields_done was op is opens demanded =
      let step = subst (λ xs. SetsFields shown xs new ino change advanced.Done) none was in
      let how = setting ino change op is in
      record {
        need = tt;
        answer = λ image tree part volume fits.
            (let sets = how.sets tree (count_of opens) demanded volume.sound fits in
            done shown image tree part volume op how.makes (count_of opens) demanded (with_node tree ino (with_fields change sets.node)) new fits sets.after
            (step.1 image tree volume.chain part (stored_first shown image tree part volume) (touches tree op) sets.node sets.has sets.used)
            (step.0 (none_within shown)));
      }

  pub fields_ask : (need : Need) → SetsFields shown old new ino change (advanced.Need need) → SetsThese shown ino change (acted.Need need)
  fields_ask need was op is opens demanded =
      let step = subst (λ xs. SetsFields shown xs new ino change (advanced.Need need)) none was in
      let how = setting ino change op is in
      record {
        need = step.0;
        answer = λ image tree part volume fits.
            (let sets = how.sets tree (count_of opens) demanded volume.sound fits in
            near_first shown image tree part volume op how.makes (count_of opens) demanded need.first
            (step.1 image tree volume.chain part (stored_first shown image tree part volume) (touches tree op) sets.node sets.has));
      }

-- ---- an inode held: nothing changes

pub held : (shown : ℕ → Option (List ℕ)) (changes : ChangeList) → changes ≡ [] → (ino : ℕ) → PerformsAnyway shown (Hold ino) (acted.Done changes None)
held shown changes none ino = subst (λ xs. PerformsAnyway shown (Hold ino) (acted.Done xs None)) (sym none) (λ opens demanded. record {
  need = tt;
  answer = λ image tree part volume fits.
      done shown image tree part volume (Hold ino) refl (count_of opens) demanded tree [] fits refl
      (nothing_changed image tree volume.chain (touches tree (Hold ino)) [] (stored_first shown image tree part volume))
      (none_within shown);
})
