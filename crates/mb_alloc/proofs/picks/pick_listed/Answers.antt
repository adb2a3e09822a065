use Rattle.std.proofs.Common.{◌≡◌, [], ◌∷◌, ◌-◌, ◌*◌, refl, sym, ap, ◌∙◌, arith}
use Rattle.mb_word.specs.Fields.{isize_of}
use Rattle.mb_tree.specs.Views.{over}
use Rattle.mb_kinds.specs.Changed.{changed}
use Rattle.mb_alloc.specs.Scanning.{words_back}
use Rattle.mb_alloc.proofs.Scanning.{cache_made, words_first}
use Rattle.mb_alloc.proofs.Within.{length-take_drop}
use Rattle.mb_alloc.proofs.picks.pick_listed.Goals as goal

pub returns-in-Done : goal.returns-in-Done
returns-in-Done g c = (
  c.in-Done.ensures.within,
  λ blocks part keeps.
      (let old = over blocks (changed c.args.changes.now) in
      let list = c.scan.new.list in
      let count = c.in-Found.count in
      let few = c.in-Found.ensures.0 in
      let long = c.scan.array_long in
      let size : c.word_at-size.result ≡ isize_of (old 1) = c.word_at-size.ensures ∙ ap isize_of (sym (c.in-Some.ensures.found blocks part)) in (
        words_back list 1 (count - 1),
        sym (c.in-Found.ensures.1 blocks part size) ∙ words_first list count c.if-count-eq0.false ∙ ap (λ w. w ∷ words_back list 1 (count - 1)) (sym c.word_at-ino.ensures),
        cache_made old (over blocks (changed c.edit_both.new.changes)) list _ ((count - 1) ∷ 0 ∷ []) count keeps long c.if-count-eq0.false few refl
            (length-take_drop list (198 - (200 - 2 * count)) (200 - 2 * count) (omega (arith, long, few))) refl (c.in-Done.ensures.wrote blocks part),
      )),
)
