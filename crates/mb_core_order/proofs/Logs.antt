-- The log is the list of operations of the entries after the checkpoint, with fronts of it folded.
use Rattle.std.proofs.Common.{List, [], ◌∷◌, ◌++◌, ℕ, ◌≡◌, ◌≤◌, ◌*◌, length, refl, ap, sym, ◌∙◌, subst, arith, drop, take}
use Rattle.std.proofs.lemmas.List.{append_assoc, append-nil, drop-append-le, drop_all, length-map, take-append-drop, take-append-le}
use Rattle.mb_kinds.specs.declared.entries.Entry.{Entry}
use Rattle.mb_folds.specs.Folded.{folded}
use Rattle.mb_folds.proofs.Folding.{folded_finds_few, folded_is_short, folded_leads}
use Rattle.mb_tree.proofs.Histories.{after_both}
use Rattle.mb_tree.proofs.HistoryOperations.{operations_append}
use Rattle.mb_tree.specs.CarriedOut.{AreCarriedOut, FindFewOpens, PickedOp, op_replied, operations, tree_and_opens}
use Rattle.mb_tree.specs.History.{after, after_first}
use Rattle.mb_tree.specs.declared.machines.Machine.{Machine}
use Rattle.mb_oplog.specs.declared.oplogs.Logged.{Logged}
use Rattle.mb_core_spec.specs.Histories.{IsLogOf, ReplaysToNow, all_parts, as_picked, picked_ops, relogged}

pub first_more : (machine : Machine) (history : List Entry) (entry : Entry) (count : ℕ) → count ≤ length history
    → after_first machine (history ++ entry ∷ []) count ≡ after_first machine history count
first_more machine history entry count within = ap (after machine) (take-append-le count history (entry ∷ []) within)

-- ---- one entry more

-- its operations are behind those of the latest part
abbrev with_more : List (List PickedOp) → List PickedOp → List (List PickedOp)
with_more [] more = more ∷ []
with_more (part ∷ before) more = (part ++ more) ∷ before

all_more : (parts : List (List PickedOp)) (more : List PickedOp) → all_parts (with_more parts more) ≡ all_parts parts ++ more
all_more [] more = refl
all_more (part ∷ before) more = sym (append_assoc (all_parts before) part more)

relogged_more : (parts : List (List PickedOp)) (more : List PickedOp) → relogged (with_more parts more) ≡ relogged parts ++ more
relogged_more [] more = refl
relogged_more (part ∷ before) more = sym (append_assoc (folded (relogged before)) part more)

-- the operations of the entries after the checkpoint, with those of one entry more
since_more : (machine : Machine) (history : List Entry) (entry : Entry) (sealed_at : ℕ) → sealed_at ≤ length history
    → operations (after_first machine (history ++ entry ∷ []) sealed_at) (drop sealed_at (history ++ entry ∷ []))
    ≡ operations (after_first machine history sealed_at) (drop sealed_at history) ++ op_replied (after machine history) entry entry.reply
since_more machine history entry sealed_at within =
    let start = after_first machine history sealed_at in
    let now : after start (drop sealed_at history) ≡ after machine history =
    sym (after_both machine (take sealed_at history) (drop sealed_at history)) ∙ ap (after machine) (take-append-drop sealed_at history) in
    ap (λ m. operations m (drop sealed_at (history ++ entry ∷ []))) (first_more machine history entry sealed_at within)
    ∙ ap (operations start) (drop-append-le sealed_at history (entry ∷ []) within)
    ∙ operations_append start (drop sealed_at history) (entry ∷ [])
    ∙ ap (λ ops. operations start (drop sealed_at history) ++ ops) (append-nil (op_replied (after start (drop sealed_at history)) entry entry.reply))
    ∙ ap (λ m. operations start (drop sealed_at history) ++ op_replied m entry entry.reply) now

pub log_grown : (machine : Machine) (history : List Entry) (entry : Entry) (sealed_at : ℕ) (ops more : List PickedOp) → sealed_at ≤ length history → op_replied (after machine history) entry entry.reply ≡ more
    → IsLogOf machine history sealed_at ops → IsLogOf machine (history ++ entry ∷ []) sealed_at (ops ++ more)
log_grown machine history entry sealed_at ops more within made log = record {
  parts = with_more log.parts more;
  whole = all_more log.parts more ∙ ap (λ all. all ++ more) log.whole ∙ ap (λ last. operations (after_first machine history sealed_at) (drop sealed_at history) ++ last) (sym made)
      ∙ sym (since_more machine history entry sealed_at within);
  left = relogged_more log.parts more ∙ ap (λ left. left ++ more) log.left;
}

-- ---- a core begins, and a checkpoint: no operation

pub log_sealed : (machine : Machine) (history : List Entry) → IsLogOf machine history (length history) []
log_sealed machine history = record { parts = []; whole = sym (ap (operations (after_first machine history (length history))) (drop_all (length history) history (omega arith))); left = refl }

-- ---- the log is folded

log_folded : (machine : Machine) (history : List Entry) (sealed_at : ℕ) (ops : List PickedOp) → IsLogOf machine history sealed_at ops → IsLogOf machine history sealed_at (folded ops)
log_folded machine history sealed_at ops log = record {
  parts = [] ∷ log.parts;
  whole = append-nil (all_parts log.parts) ∙ log.whole;
  left = append-nil (folded (relogged log.parts)) ∙ ap folded log.left;
}

pub replay_folded : (machine : Machine) (history : List Entry) (sealed_at : ℕ) (old new : List Logged) → picked_ops new ≡ folded (picked_ops old) → ReplaysToNow machine history sealed_at old → ReplaysToNow machine history sealed_at new
replay_folded machine history sealed_at old new folds replay =
    let start = tree_and_opens (after_first machine history sealed_at) in
    let now = tree_and_opens (after machine history) in
    record {
      carried = subst (λ ops. AreCarriedOut start ops now) (sym folds) (folded_leads start now (picked_ops old) replay.carried);
      few = subst (FindFewOpens (17 * length machine.seats) start) (sym folds) (folded_finds_few (17 * length machine.seats) start now (picked_ops old) replay.carried replay.few);
      since = subst (IsLogOf machine history sealed_at) (sym folds) (log_folded machine history sealed_at (picked_ops old) replay.since);
    }

-- and is no longer than before
pub folds_short : (old new : List Logged) → picked_ops new ≡ folded (picked_ops old) → length new ≤ length old
folds_short old new folds =
    let many : length (picked_ops new) ≡ length (folded (picked_ops old)) = ap length folds in
    omega (arith, many, length-map new as_picked, length-map old as_picked, folded_is_short (picked_ops old))
