use Rattle.std.proofs.Common.{◌≡◌, ◌<◌, List, Bool, true, false, Some, slice_get, slice_set, length, sym, ap, subst, ◌∙◌, arith}
use Rattle.std.proofs.lemmas.Option.{slice_get-get_or}
use Rattle.mb_check.proofs.Marking.{marks_new, marks_old}
use Rattle.mb_check.proofs.reaching.Reach.mark.Goals as goal
use Rattle.mb_check.proofs.reaching.Reach.mark.Goals.{else-at-as_slice-via-then-at-as_slice+else-not-index, else-at-as_slice-via-else-at-as_slice}

pub returns-in_ok-push : goal.returns-in_ok-push
returns-in_ok-push c blocks may reaching =
    let flags : List Bool = c.args.self.now.flags.items in
    let inside : c.from-at.result < length flags = (let t = c.if-at-as_slice.true in let long = ap (λ (xs : List Bool). length xs) c.as_slice.ensures.value in omega (arith, t, long)) in
    let fresh : slice_get flags c.args.ino ≡ Some false = ap (slice_get flags) (sym c.from-at.ensures) ∙ slice_get-get_or flags c.from-at.result c.index.result.now inside ∙ ap (λ b. Some b) (sym c.index.ensures ∙ c.if-not-index.true) in
    marks_new blocks c.args.ino c.args.self.now _ (ap (λ k. slice_set flags k true) c.from-at.ensures) c.in_ok-push.ensures.items (subst (λ k. k < length flags) c.from-at.ensures inside) fresh reaching may

pub returns-else-at-as_slice : goal.returns-else-at-as_slice
returns-else-at-as_slice c blocks may reaching = marks_old blocks c.args.ino c.args.self.now (λ low. elim c.else-at-as_slice.branch [
  | else-at-as_slice-via-then-at-as_slice+else-not-index w ↦ (
      let flags : List Bool = c.args.self.now.flags.items in
      let inside : c.from-at.result < length flags = (let t = w.if-at-as_slice.true in let long = ap (λ (xs : List Bool). length xs) c.as_slice.ensures.value in omega (arith, t, long)) in
      ap (slice_get flags) (sym c.from-at.ensures) ∙ slice_get-get_or flags c.from-at.result w.index.result.now inside ∙ ap (λ b. Some b) (sym w.index.ensures ∙ w.if-not-index.false))
  | else-at-as_slice-via-else-at-as_slice w ↦ absurd (let past = w.if-at-as_slice.false in let is = c.from-at.ensures in let long = ap (λ (xs : List Bool). length xs) c.as_slice.ensures.value in let size = reaching.sized in omega (arith, past, is, long, size, low))
]) reaching
