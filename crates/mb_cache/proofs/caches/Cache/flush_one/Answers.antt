use Rattle.std.proofs.Common.{◌≡◌, ℕ, List, ◌++◌, ◌∷◌, [], ◌⊎◌, ◌∙◌, ap, refl, subst, sym}
use Rattle.mb_cache.specs.Clean.{AreClean, fronted}
use Rattle.mb_cache.specs.Pages.{page_at}
use Rattle.mb_cache.proofs.Cleaning.{gives_written, put_clean, removed_missing, written_clean}
use Rattle.mb_cache.proofs.Flushing.{same_current, flushes_one, fails_to_flush}
use Rattle.mb_cache.proofs.PageLoops.{front_of}
use Rattle.mb_cache.proofs.caches.Cache.flush_one.Goals as goal

pub returns-in-Ok-clause-flushes : goal.returns-in-Ok-clause-flushes
returns-in-Ok-clause-flushes g c =
    let page : ℕ × List ℕ = (c.in-Some.block, c.in-Some.bytes.now) in
    let front = front_of c.self.inside.layers.sealed page c.in-Some.ensures.some in
    let left = c.drop_last.ensures.sealed front.0 page front.1 in
    let waits = front.1 ∙ ap (λ pages. pages ++ page ∷ []) (sym left) in
    rw (← c.self.view_is)
    (flushes_one g.D.Disk.told g.D.Disk.faults _ _ c.drop_last.new.self.sealed page waits (same_current _ _ c.drop_last.ensures.current) c.in-Ok.ensures.bytes c.in-Ok.ensures.cause
    (subst (λ pages. (c.put.new.self ≡ fronted pages c.in-Some.block c.in-Some.bytes.now) ⊎ (c.put.new.self ≡ pages)) c.remove.ensures.gone c.put.ensures))

pub returns-in-Err-clause-flushes : goal.returns-in-Err-clause-flushes
returns-in-Err-clause-flushes g c =
    let page : ℕ × List ℕ = (c.in-Some.block, c.in-Some.bytes.now) in
    let front = front_of c.self.inside.layers.sealed page c.in-Some.ensures.some in
    rw (← c.self.view_is)
    (fails_to_flush g.D.Disk.told g.D.Disk.faults _ _ front.0 page front.1 refl c.in-Err.field-0 c.in-Err.ensures.bytes c.in-Err.ensures.cause c.remove.ensures.gone)

pub put-requires : goal.put-requires
put-requires g c = ap (λ pages. page_at pages c.in-Some.block) c.remove.ensures.gone ∙ removed_missing c.self.inside.clean c.in-Some.block c.remove.ensures.once

pub invariant_of-self : goal.invariant_of-self
invariant_of-self g c = put_clean (g.D.Disk.told c.write.new.self) c.remove.new.self c.put.new.self c.in-Some.block c.in-Some.bytes.now
    (subst (AreClean (g.D.Disk.told c.write.new.self)) (sym c.remove.ensures.gone)
    (written_clean (g.D.Disk.told c.self.inside.disk) (g.D.Disk.told c.write.new.self) _ c.self.inside.clean c.in-Some.block c.in-Some.bytes.now c.in-Ok.ensures.bytes c.remove.ensures.once c.self.invariant))
    (gives_written _ (g.D.Disk.told c.self.inside.disk) (g.D.Disk.told c.write.new.self) c.in-Some.block c.in-Some.bytes.now c.in-Ok.ensures.bytes)
    c.put.ensures

pub invariant_of-self-in-Err : goal.invariant_of-self-in-Err
invariant_of-self-in-Err g c = subst (AreClean (g.D.Disk.told c.write.new.self)) (sym c.remove.ensures.gone)
    (written_clean (g.D.Disk.told c.self.inside.disk) (g.D.Disk.told c.write.new.self) _ c.self.inside.clean c.in-Some.block c.in-Some.bytes.now c.in-Err.ensures.bytes c.remove.ensures.once c.self.invariant)
