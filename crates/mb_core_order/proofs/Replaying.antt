-- One logged operation more is done again.
use Rattle.std.proofs.Common.{List, [], ◌∷◌, ℕ, zero, suc, ◌+◌, ◌≡◌, ◌≤◌, Option, Some, None, option_map, take, slice_get, ap, subst, arith}
use Rattle.std.proofs.lemmas.Option.{slice_get_within}
use Rattle.mb_kinds.specs.Image.{Image}
use Rattle.mb_edge.specs.Damage.{OpenCounts}
use Rattle.mb_iface.specs.Acting.{Acts}
use Rattle.mb_kinds.specs.Changed.{ChangeList}
use Rattle.mb_iface.specs.declared.replies.Acted.TheVariants as acted
use Rattle.mb_tree.specs.CarriedOut.{AreCarriedOut, FindFewOpens, IsCarriedOut, PickedOp}
use Rattle.mb_tree.proofs.CarryingOut.{carried_out_goes_on}
use Rattle.mb_core_spec.specs.Histories.{as_picked, picked_ops}
use Rattle.mb_tree.specs.Effect.{TreeAndOpens}
use Rattle.mb_tree.specs.Views.{IsPart}
use Rattle.mb_tree.specs.declared.trees.Tree.{Tree}
use Rattle.mb_cache.specs.Pages.{under}
use Rattle.mb_oplog.specs.declared.oplogs.Logged.{Logged}
use Rattle.mb_core_order.proofs.Overlays.{under_held}
use Rattle.mb_core_order.proofs.Redoing.{done_again}
use Rattle.mb_session.specs.OpenFiles.{TellsCounts}
use Rattle.mb_core_spec.specs.Seen.{IsFront}

picked_at : (oplog : List Logged) (done : ℕ) (logged : Logged) → slice_get oplog done ≡ Some logged → slice_get (picked_ops oplog) done ≡ Some (as_picked logged)
picked_at [] done logged at = let no : None ≡ Some logged = at in cc
picked_at (first ∷ oplog) zero logged at = ap (option_map as_picked) at
picked_at (first ∷ oplog) (suc done) logged at = picked_at oplog done logged at

-- how many open files are found after a front of the operations
few_at : (most : ℕ) (held now : TreeAndOpens) (made : List PickedOp) (done : ℕ) → FindFewOpens most held made → AreCarriedOut held (take done made) now → (ino : ℕ) → now.opens ino ≤ most
few_at most held now [] zero few front ino = subst (λ (h : TreeAndOpens). h.opens ino ≤ most) front (few ino)
few_at most held now [] (suc done) few front ino = subst (λ (h : TreeAndOpens). h.opens ino ≤ most) front (few ino)
few_at most held now (op ∷ made) zero few front ino = subst (λ (h : TreeAndOpens). h.opens ino ≤ most) front (few.0 ino)
few_at most held now (op ∷ made) (suc done) few front ino = few_at most front.0 now made done (few.1 front.0 front.1) front.2 ino

-- one operation more, by what the file system answers over blocks of the view
pub replays_one : (before : Tree) (first view : Image) (opens grown : OpenCounts) (start last : TreeAndOpens) (most : ℕ) (oplog : List Logged) (done : ℕ) (logged : Logged) (shown : ℕ → Option (List ℕ)) (changes : ChangeList) (picked : Option ℕ)
    → (front : IsFront before first view opens start oplog done) → slice_get oplog done ≡ Some logged → AreCarriedOut start (picked_ops oplog) last → FindFewOpens most start (picked_ops oplog) → IsPart shown view.at
    → Acts shown view front.made.tree opens logged.op logged.pick (acted.Done changes picked)
    → ((next : TreeAndOpens) → ((ino : ℕ) → front.made.opens ino ≤ most) → IsCarriedOut front.made (as_picked logged) next → TellsCounts grown next.opens)
    → IsFront before first (under view changes) grown start oplog (done + 1)
replays_one before first view opens grown start last most oplog done logged shown changes picked front at whole few part acts counted =
    let on = carried_out_goes_on start last front.made (picked_ops oplog) done (as_picked logged) whole front.leads (picked_at oplog done logged at) in
    let low = slice_get_within oplog done logged at in
    record {
      within = omega (arith, low);
      made = on.next;
      leads = on.so_far;
      held = under_held view changes before first grown on.next
          (done_again before first view opens front.made front.held shown part logged.op logged.pick on.next on.one.fits on.one.leads changes picked grown acts
          (counted on.next (λ ino. few_at most start front.made (picked_ops oplog) done few front.leads ino) on.one));
    }
