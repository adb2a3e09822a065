-- What is promised of an operation that is done by its own function is promised of it as one of all.
use Rattle.std.proofs.Common.{ℕ, ◌≡◌, List, Option, sym, subst}
use Rattle.mb_kinds.specs.Image.{Image}
use Rattle.mb_tree.specs.Views.{IsPart}
use Rattle.mb_tree.specs.Volume.{IsVolume}
use Rattle.mb_tree.specs.declared.operations.FsOp.{FsOp}
use Rattle.mb_tree.specs.declared.trees.Tree.{Tree}
use Rattle.mb_iface.specs.Acting.{Acts, KeepsIfHold, KeepsWhereHeld}
use Rattle.mb_iface.specs.Needs.{ActsFor}
use Rattle.mb_iface.specs.declared.replies.Acted.{Acted}
use Rattle.mb_iface.specs.declared.replies.Acted.TheVariants as acted
use Rattle.mb_kinds.specs.Changed.{ChangeList}
use Rattle.mb_fsops.specs.Performing.{OpenFiles, Performs}

module _ (shown : ℕ → Option (List ℕ)) (opens : OpenFiles) (op own : FsOp) (is : op ≡ own) (demanded : Option ℕ) (result : Acted) where
  pub performed : Performs shown opens own demanded result → Performs shown opens op demanded result
  performed says = subst (λ o. Performs shown opens o demanded result) (sym is) says

  -- of one that says it whatever the counts and the demand
  pub performed_whatever : ActsFor shown result
      → ((image : Image) (tree : Tree) → IsPart shown image.at → IsVolume image tree → (counts : OpenFiles) (number : Option ℕ) → Acts shown image tree counts own number result)
      → Performs shown opens op demanded result
  performed_whatever need answer = performed (record { need = need; answer = λ image tree part volume. answer image tree part volume opens demanded })

-- and what is promised where a file is held open
pub kept_by : (op own : FsOp) → op ≡ own → (result : Acted) → KeepsWhereHeld own result → KeepsWhereHeld op result
kept_by op own is result keeps = subst (λ o. KeepsWhereHeld o result) (sym is) keeps

-- which is nothing where none is
kept_whatever : (own : FsOp) → ((changes : ChangeList) → KeepsIfHold own changes) → (result : Acted) → KeepsWhereHeld own result
kept_whatever own other (acted.Done changes picked) = other changes
kept_whatever own other (acted.Refused e) = tt
kept_whatever own other (acted.Need need) = tt
kept_whatever own other acted.NoMemory = tt

pub kept_beside : (op own : FsOp) → op ≡ own → ((changes : ChangeList) → KeepsIfHold own changes) → (result : Acted) → KeepsWhereHeld op result
kept_beside op own is other result = kept_by op own is result (kept_whatever own other result)
