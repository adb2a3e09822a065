use Rattle.std.proofs.Common.{◌≡◌, ◌⊎◌, ◌∙◌, None, subst, sym}
use Rattle.mb_cache.specs.Clean.{fronted}
use Rattle.mb_cache.specs.Pages.{page_at}
use Rattle.mb_cache.proofs.Cleaning.{put_either}
use Rattle.mb_cache.proofs.clean.CleanPages.put.Goals as goal

pub returns : goal.returns
returns c =
    let pages = c.self.inside.pages.entries in
    let are : pages ≡ c.args.self.now = c.self.view_is ∙ c.page_of.ensures.same in
    subst (λ was. (c.push.new.self.entries ≡ fronted was c.args.block c.args.bytes.now) ⊎ (c.push.new.self.entries ≡ was)) are
    (subst (λ bytes. (c.push.new.self.entries ≡ fronted pages c.args.block bytes) ⊎ (c.push.new.self.entries ≡ pages)) c.in-Ok.ensures.page
    (put_either c.push.result c.self.inside.pages c.push.new.self c.args.block c.in-Ok.page c.self.invariant (subst (λ was. page_at was c.args.block ≡ None) (sym are) c.requires) c.push.ensures.entries c.push.ensures.err))
