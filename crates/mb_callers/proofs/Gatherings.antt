-- What gathering comes to, from the copies that it stores.
use Rattle.std.proofs.Common.{List, [], ◌∷◌, ◌++◌, ℕ, ◌+◌, ◌≡◌, ◌≤◌, inl, inr, Option, Some, IfSome, IsSome, option_map, refl, ap, sym, ◌∙◌, subst, arith}
use Rattle.std.specs.List.{AllByRecursion}
use Rattle.mb_kinds.specs.Image.{Image}
use Rattle.mb_iface.specs.Needs.{blocks_of}
use Rattle.mb_iface.specs.declared.replies.Need.{Need}
use Rattle.mb_gate.specs.declared.ulogs.Undo.{Undo}
use Rattle.mb_gate.specs.declared.ulogs.Undo.TheVariants as undo_step
use Rattle.mb_cache.specs.Pages.{under}
use Rattle.mb_cache.specs.Stamps.{Stamps, stamp_of}
use Rattle.mb_cache.specs.State.{CacheState, seen}
use Rattle.mb_core_spec.specs.Callers.{total}
use Rattle.mb_cache.specs.Kept.{CopyList, shown}
use Rattle.mb_core_spec.specs.Copies.{LiveTables, PagesState, TableCopy}
use Rattle.mb_core_spec.specs.Events.{GivesBack}
use Rattle.mb_core_spec.specs.Flights.{is_pin}
use Rattle.mb_core_spec.specs.State.{CallerState}
use Rattle.mb_callers.specs.CallerLaws.{Gathered, HasMore, IsGathering}
use Rattle.mb_callers.specs.Gathering.{GathersBlocks, GathersTables, with_blocks, with_tables}
use Rattle.mb_callers.specs.Pins.{pin_steps}
use Rattle.mb_copies.specs.Reads.{AreRead, numbers, stored}
use Rattle.mb_copies.proofs.Numbers.{first_of}
use Rattle.mb_copies.proofs.Stored.{stored_kept, stored_stays, stored_there}
use Rattle.mb_callers.proofs.Sums.{total_append}

-- ---- pins

-- the new pins are those of the steps that the undo log has more
pub log_pinned : (old new : Stamps) (undo steps log : List Undo) → GivesBack new old steps → log ≡ undo ++ steps → (block : ℕ) → stamp_of new block + total (is_pin block) undo ≡ stamp_of old block + total (is_pin block) log
log_pinned old new undo steps log back is block =
    let sum : total (is_pin block) log ≡ total (is_pin block) undo + total (is_pin block) steps = ap (total (is_pin block)) is ∙ total_append (is_pin block) undo steps in
    let one = back.each block in
    omega (arith, sum, one)

-- ---- both kinds of gathering

module _ (need : Need) (pages : PagesState) (reads : CopyList) where
  has_blocks : numbers reads ≡ blocks_of need → 1 ≤ need.first → 1 ≤ need.count → HasMore need.first pages (with_blocks pages reads)
  has_blocks are one some = record {
    blocks = stored_stays pages.blocks reads;
    tables = λ there. there;
    block_there = λ _. first_of need (λ block. IsSome (shown (stored pages.blocks reads) block)) some (subst (AllByRecursion (λ block. IsSome (shown (stored pages.blocks reads) block))) are (stored_there pages.blocks reads));
    tables_there = λ none. absurd (omega (arith, none, one));
  }

has_tables : (pages : PagesState) (now : TableCopy) → HasMore 0 pages (with_tables pages now)
has_tables pages now = record {
  blocks = λ block there. there;
  tables = λ _. refl;
  block_there = λ one. absurd (omega (arith, one));
  tables_there = λ _. refl;
}

module _ {D : Type 0} (told : D → Option Image) (old new : CacheState D) (live : LiveTables) (mine : CallerState) where
  blocks_event : (reads : CopyList) → AreRead (seen told old) old.stamps reads → GivesBack new.pins old.pins (pin_steps reads)
      → IsGathering told old new live mine (record mine { undo = mine.undo ++ pin_steps reads; pages = with_blocks mine.pages reads })
  blocks_event reads are pins = record {
    state = refl;
    gathers = record {
      blocks = λ block copy here. elim (stored_kept (seen told old) old.stamps mine.pages.blocks reads block copy are here) [ inl before ↦ inl before | inr new_one ↦ inr new_one.stamp ];
      tables = inl refl;
    };
    pinned = log_pinned old.pins new.pins mine.undo (pin_steps reads) _ pins refl;
    reads = λ image tells block copy here. elim (stored_kept (seen told old) old.stamps mine.pages.blocks reads block copy are here) [
      | inl before ↦ inl before
      | inr new_one ↦ inr (sym (subst (λ (v : Option Image). IfSome v (λ (i : Image). copy.bytes ≡ i.at block)) (ap (option_map (λ (i : Image). under (under i old.sealed) old.current)) tells) new_one.bytes))
    ];
  }

  pub blocks_gathered : (need : Need) (kept : CallerState) (pages got : PagesState) → GathersBlocks told old new need mine kept pages got → 1 ≤ need.first → 1 ≤ need.count → Gathered told old new live need.first mine kept pages got
  blocks_gathered need kept pages got gathers one some =
      subst (λ k. Gathered told old new live need.first mine k pages got) (sym gathers.kept_is)
      (subst (λ p. Gathered told old new live need.first mine (record mine { undo = mine.undo ++ pin_steps gathers.reads; pages = with_blocks mine.pages gathers.reads }) pages p) (sym gathers.got_is) (record {
        event = blocks_event gathers.reads gathers.are gathers.pins;
        copies = has_blocks need mine.pages gathers.reads gathers.numbers_are one some;
        more = has_blocks need pages gathers.reads gathers.numbers_are one some;
        alike = λ same. ap (λ (p : PagesState). with_blocks p gathers.reads) same;
      }))

  tables_event : (now : TableCopy) → now ≡ record { sessions = live.sessions; opens = live.opens; stamp = live.stamp } → GivesBack new.pins old.pins (undo_step.Pinned 0 ∷ [])
      → IsGathering told old new live mine (record mine { undo = mine.undo ++ undo_step.Pinned 0 ∷ []; pages = with_tables mine.pages now })
  tables_event now is pins = record {
    state = refl;
    gathers = record { blocks = λ block copy here. inl here; tables = inr (ap Some is) };
    pinned = log_pinned old.pins new.pins mine.undo (undo_step.Pinned 0 ∷ []) _ pins refl;
    reads = λ image tells block copy here. inl here;
  }

  pub tables_gathered : (now : TableCopy) (kept : CallerState) (pages got : PagesState) → now ≡ record { sessions = live.sessions; opens = live.opens; stamp = live.stamp } → GathersTables old new now mine kept pages got
      → Gathered told old new live 0 mine kept pages got
  tables_gathered now kept pages got is gathers =
      subst (λ k. Gathered told old new live 0 mine k pages got) (sym gathers.kept_is)
      (subst (λ p. Gathered told old new live 0 mine (record mine { undo = mine.undo ++ undo_step.Pinned 0 ∷ []; pages = with_tables mine.pages now }) pages p) (sym gathers.got_is) (record {
        event = tables_event now is gathers.pins;
        copies = has_tables mine.pages now;
        more = has_tables pages now;
        alike = λ same. ap (λ (p : PagesState). with_tables p now) same;
      }))
