-- An operation done again by a file system gives what it gave before.
use Rattle.std.proofs.Common.{List, ℕ, ◌≡◌, ◌≤◌, Bool, true, false, Option, Some, None, Ok, Err, refl, ap, sym, ◌∙◌, subst, arith}
use Rattle.std.proofs.Math.Path.{fun_ext}
use Rattle.mb_kinds.specs.Image.{Image}
use Rattle.mb_edge.specs.Damage.{OpenCounts}
use Rattle.mb_iface.specs.Acting.{Acts, Picks, PicksIf, with_changes}
use Rattle.mb_tree.specs.PickLaws.{makes_inode}
use Rattle.mb_kinds.specs.Changed.{ChangeList}
use Rattle.mb_iface.specs.OpenCounts.{count_of}
use Rattle.mb_iface.specs.declared.replies.Acted.TheVariants as acted
use Rattle.mb_kinds.specs.declared.errors.Errno.{Errno}
use Rattle.mb_tree.proofs.Always.{same_ok}
use Rattle.mb_tree.specs.Effect.{TreeAndOpens, effect}
use Rattle.mb_tree.specs.Fits.{Fits}
use Rattle.mb_tree.specs.Views.{Kept, IsPart}
use Rattle.mb_tree.specs.Volume.{IsVolume}
use Rattle.mb_tree.specs.declared.operations.FsOp.{FsOp}
use Rattle.mb_tree.specs.declared.trees.Tree.{Tree}
use Rattle.mb_tree.proofs.KeptVolumes.{kept_composes, kept_resized, volume_resized}
use Rattle.mb_tree.proofs.PickedEffects.{makes_by_number, unpicked}
use Rattle.mb_session.specs.OpenFiles.{TellsCounts}
use Rattle.mb_core_spec.specs.Seen.{IsHeldBy}

-- ---- a larger device, and changes written one after another

pub volume_grows : (image : Image) (tree : Tree) (count : ℕ) → image.count ≤ count → IsVolume image tree → IsVolume (record image { count = count }) tree
volume_grows image tree count more v = volume_resized image tree count (let whole = v.sizes.present in omega (arith, whole, more)) v

pub kept_grows : (before : Tree) (old : Image) (later : Tree) (new : Image) (count : ℕ) → Kept before old later new → Kept before old later (record new { count = count })
kept_grows before old later new count k = kept_resized before later old new old.count count k

-- ---- the operation of a log

pub counts_are : (opens : OpenCounts) (held : ℕ → ℕ) → TellsCounts opens held → count_of opens ≡ held
counts_are opens held each = fun_ext each

-- the number with which an operation is done again is the one with which it was done
again_by : (tree : Tree) (opens : ℕ → ℕ) (op : FsOp) (pick picked : Option ℕ) (next : TreeAndOpens) (makes : Bool) → makes_inode op ≡ makes → effect tree opens op pick ≡ Ok next → PicksIf makes tree pick picked
    → effect tree opens op picked ≡ Ok next
again_by tree opens op pick picked next false is leads picks = unpicked tree opens op picked is ∙ sym (unpicked tree opens op pick is) ∙ leads
again_by tree opens op None picked next true is leads picks = absurd (makes_by_number tree opens op next is leads)
again_by tree opens op (Some demanded) picked next true is leads picks = ap (effect tree opens op) picks ∙ leads

module _ (before : Tree) (first view : Image) (opens : OpenCounts) (made : TreeAndOpens) (held : IsHeldBy before first view opens made) (shown : ℕ → Option (List ℕ)) (part : IsPart shown view.at)
    (op : FsOp) (pick : Option ℕ) (next : TreeAndOpens) (fits : Fits made.tree made.opens op pick) (leads : effect made.tree made.opens op pick ≡ Ok next) where
  same_counts : count_of opens ≡ made.opens
  same_counts = counts_are opens made.opens held.counted

  fits_now : Fits made.tree (count_of opens) op pick
  fits_now = subst (λ f. Fits made.tree f op pick) (sym same_counts) fits

  leads_by : (picked : Option ℕ) → Picks made.tree op pick picked → effect made.tree (count_of opens) op picked ≡ Ok next
  leads_by picked picks = ap (λ f. effect made.tree f op picked) same_counts ∙ again_by made.tree made.opens op pick picked next (makes_inode op) refl leads picks

  -- what it changes makes a volume of the tree that it made before
  pub done_again : (changes : ChangeList) (picked : Option ℕ) (grown : OpenCounts) → Acts shown view made.tree opens op pick (acted.Done changes picked) → TellsCounts grown next.opens
      → IsHeldBy before first (with_changes view changes) grown next
  done_again changes picked grown acts counted =
      let done = acts fits_now in
      let is : done.held ≡ next = same_ok done.held next (sym done.effect ∙ leads_by picked done.picks) in
      record {
        volume = subst (λ (h : TreeAndOpens). IsVolume (with_changes view changes) h.tree) is done.volume;
        kept = subst (λ (h : TreeAndOpens). Kept before first h.tree (with_changes view changes)) is (kept_composes before made.tree done.held.tree first view (with_changes view changes) held.kept done.kept);
        counted = counted;
      }

  -- it is not refused
  pub not_refused : (e : Errno) → Acts shown view made.tree opens op pick (acted.Refused e) → ⊥
  not_refused e acts =
      let done = acts fits_now in
      let wrong : Err e ≡ Ok next = sym done.effect ∙ leads_by done.picked done.picks in
      cc
