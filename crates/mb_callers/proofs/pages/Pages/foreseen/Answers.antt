use Rattle.std.proofs.Common.{◌≡◌, ℕ, None, [], ◌∷◌, length, refl, ap, arith}
use Rattle.mb_cache.specs.Kept.{CopyList, shown}
use Rattle.mb_core_spec.specs.Copies.{PagesState}
use Rattle.mb_callers.proofs.pages.Pages.foreseen.Goals as goal

-- no copy shows nothing
shows_none : (copies : CopyList) (block : ℕ) → length copies ≡ 0 → shown copies block ≡ None
shows_none [] block none = refl
shows_none (copy ∷ copies) block none = absurd (omega (arith, none))

pub returns-clause-need : goal.returns-clause-need
returns-clause-need c = c.with.ensures.need (shown c.args.self.now.blocks) (c.one.ensures.need (shown c.args.self.now.blocks) (shows_none c.args.self.now.blocks c.in_ok-first.first
    (let long = c.len.ensures in let few = c.if-len-gt0.false in let is = ap (λ (pages : PagesState). length pages.blocks) c.self.view_is in omega (arith, few, long, is))))
