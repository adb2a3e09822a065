-- A write-back of the last checkpointed page, done or failed.
use Rattle.std.proofs.Common.{◌≡◌, ℕ, List, [], ◌∷◌, ◌++◌, Option, sym, ap, subst, ◌∙◌}
use Rattle.std.specs.Prelude.{Ok, Err}
use Rattle.mb_kinds.specs.Image.{Image}
use Rattle.mb_edge.specs.Blocks.{WritesBlock}
use Rattle.mb_edge.specs.Causes.{HasCause}
use Rattle.mb_edge.specs.declared.faults.Failed.{Failed}
use Rattle.mb_cache.specs.Clean.{Rewrites}
use Rattle.mb_cache.specs.Pages.{PageList}
use Rattle.mb_cache.specs.State.{CacheState, ReadsAlike, Flushes}
use Rattle.mb_cache.specs.declared.answers.Flushed.TheVariants as flushed
use Rattle.mb_cache.proofs.Layers.{written_alike, spoiled_alike}
use Rattle.mb_cache.proofs.PageLoops.{append_none}

-- the current pages stay
pub same_current : {D : Type 0} (cache : CacheState D) (current : PageList) → cache.current ≡ current → cache ≡ record cache { current = current }
same_current {D} cache current same = ap (λ (pages : PageList). record cache { current = pages }) same

module _ {D : Type 0} (told : D → Option Image) (faults : D → ℕ) (old new : CacheState D) (front : PageList) (page : ℕ × List ℕ) (waits : old.sealed ≡ front ++ page ∷ []) where
  pub flushes_one : new ≡ record old { disk = new.disk; sealed = front; room = new.room } → WritesBlock {E = Failed} (told old.disk) (told new.disk) (Ok tt) page.0 page.1
      → HasCause {T = Unit {0}} {E = Failed} (faults old.disk) (faults new.disk) (Ok tt) → Rewrites {E = Failed} old.room.clean new.room.clean (Ok tt) page.0 page.1 → Flushes told faults old new flushed.One
  flushes_one left written cause clean =
      let gone : new.sealed ≡ front = ap (λ (cache : CacheState D). cache.sealed) left in (
        record {
          before = front;
          page = page;
          behind = [];
          waits = waits;
          written = written;
          cause = cause;
          clean = clean;
          alike = subst (λ pages. ReadsAlike (told old.disk) old.sealed (told new.disk) pages) (sym gone)
              (subst (λ pages. ReadsAlike (told old.disk) pages (told new.disk) front) (sym waits) (written_alike (told old.disk) (told new.disk) front page written));
        },
        left ∙ ap (λ (pages : PageList). record old { disk = new.disk; sealed = pages; room = new.room }) (sym (append_none front)),
      )

  pub fails_to_flush : new ≡ record old { disk = new.disk; room = record old.room { clean = new.room.clean } } → (failed : Failed) → WritesBlock (told old.disk) (told new.disk) (Err failed) page.0 page.1
      → HasCause {T = Unit {0}} (faults old.disk) (faults new.disk) (Err failed) → Rewrites old.room.clean new.room.clean (Err failed) page.0 page.1 → Flushes told faults old new flushed.Device
  fails_to_flush left failed written cause clean =
      let kept : new.sealed ≡ old.sealed = ap (λ (cache : CacheState D). cache.sealed) left in (
        record {
          before = front;
          page = page;
          behind = [];
          waits = waits;
          written = written;
          cause = cause;
          clean = clean;
          alike = subst (λ pages. ReadsAlike (told old.disk) old.sealed (told new.disk) pages) (sym kept)
              (subst (λ pages. ReadsAlike (told old.disk) pages (told new.disk) pages) (sym waits) (spoiled_alike (told old.disk) (told new.disk) front page failed written));
        },
        left,
        cause.failed,
      )
