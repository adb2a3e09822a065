-- The damage of a fault, done to the pages and to the counts of open files one after the other.
use Rattle.std.proofs.Common.{◌≡◌, ◌∙◌, List, sym, ap}
use Rattle.mb_edge.specs.Damage.{OpenCounts}
use Rattle.mb_edge.specs.declared.strokes.Stroke.{Stroke}
use Rattle.mb_cache.specs.CacheLaws.{DamageOfPages}
use Rattle.mb_cache.specs.Pages.{PageList, pages_damaged}
use Rattle.mb_cache.specs.State.{CacheState}
use Rattle.mb_tables.specs.Follows.{counts_damaged}
use Rattle.mb_tables.specs.TableLaws.{DamageOfCounts}
use Rattle.mb_core_spec.specs.Copies.{LiveTables}
use Rattle.mb_core_spec.specs.State.{CoreState}
use Rattle.mb_core_state.specs.Rooms.{damaged_both}

pub both_damaged : {F D : Type 0} (held old : CoreState F D) (cache : CacheState D) (tables : LiveTables) (strokes : List Stroke) → held ≡ old → DamageOfPages → DamageOfCounts
    → cache ≡ record held.cache { current = pages_damaged held.cache.current strokes } → tables ≡ record held.tables { opens = counts_damaged held.tables.opens strokes }
    → record held { cache = cache; tables = tables }
    ≡ record old { cache = record old.cache { current = (damaged_both old strokes).pages }; tables = record old.tables { opens = (damaged_both old strokes).opens } }
both_damaged {F} {D} held old cache tables strokes same of_pages of_counts pages counts =
    ap (λ (made : CacheState D). record held { cache = made; tables = tables }) (pages ∙ ap (λ (current : PageList). record held.cache { current = current }) (sym (of_pages held.cache.current held.tables.opens strokes)))
    ∙ ap (λ (made : LiveTables). record held { cache = record held.cache { current = (damaged_both held strokes).pages }; tables = made })
    (counts ∙ ap (λ (opens : OpenCounts). record held.tables { opens = opens }) (sym (of_counts held.cache.current held.tables.opens strokes)))
    ∙ ap (λ (core : CoreState F D). record core { cache = record core.cache { current = (damaged_both core strokes).pages }; tables = record core.tables { opens = (damaged_both core strokes).opens } }) same
