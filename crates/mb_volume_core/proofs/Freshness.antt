-- Whether all that a call keeps has the present stamps, as a test.
use Rattle.std.proofs.Common.{◌≡◌, ◌∙◌, [], ◌∷◌, ℕ, true, false, cond, nat_eq, Option, None, Some, refl, ap, sym, subst}
use Rattle.std.proofs.lemmas.Bool.{and_from, and_parts, eq-eqb, eqb-true}
use Rattle.std.proofs.lemmas.Option.{same_Some}
use Rattle.mb_cache.specs.Stamps.{Stamps, stamp_of}
use Rattle.mb_cache.specs.Kept.{CopyList, KeptBlock, kept_at}
use Rattle.mb_core_spec.specs.Copies.{HoldsFloor, LiveTables, PagesState, TableCopy}
use Rattle.mb_run.specs.CoreSight.{are_blocks_fresh, are_tables_fresh, is_block_fresh, is_fresh}

-- ---- what holds is found

block_tests : (stamps : Stamps) (block : ℕ) (found : Option KeptBlock) → ((kept : KeptBlock) → found ≡ Some kept → kept.stamp ≡ stamp_of stamps block) → is_block_fresh stamps block found ≡ true
block_tests stamps block None holds = refl
block_tests stamps block (Some kept) holds = eq-eqb kept.stamp (stamp_of stamps block) (holds kept refl)

blocks_test : (stamps : Stamps) (all copies : CopyList) → ((block : ℕ) (kept : KeptBlock) → kept_at all block ≡ Some kept → kept.stamp ≡ stamp_of stamps block) → are_blocks_fresh stamps all copies ≡ true
blocks_test stamps all [] holds = refl
blocks_test stamps all (copy ∷ copies) holds =
    and_from (is_block_fresh stamps copy.0 (kept_at all copy.0)) (are_blocks_fresh stamps all copies) (block_tests stamps copy.0 (kept_at all copy.0) (holds copy.0)) (blocks_test stamps all copies holds)

tables_test : (live : LiveTables) (found : Option TableCopy) → ((kept : TableCopy) → found ≡ Some kept → kept.stamp ≡ live.stamp) → are_tables_fresh live found ≡ true
tables_test live None holds = refl
tables_test live (Some kept) holds = eq-eqb kept.stamp live.stamp (holds kept refl)

pub tests_fresh : (stamps : Stamps) (live : LiveTables) (pages : PagesState) → HoldsFloor stamps live pages → is_fresh stamps live pages ≡ true
tests_fresh stamps live pages holds =
    and_from (are_blocks_fresh stamps pages.blocks pages.blocks) (are_tables_fresh live pages.tables) (blocks_test stamps pages.blocks pages.blocks holds.blocks) (tables_test live pages.tables holds.tables)

-- ---- what is found holds

block_holds : (stamps : Stamps) (block : ℕ) (found : Option KeptBlock) (kept : KeptBlock) → is_block_fresh stamps block found ≡ true → found ≡ Some kept → kept.stamp ≡ stamp_of stamps block
block_holds stamps block None kept test has = absurd (let wrong : None ≡ Some kept = has in cc)
block_holds stamps block (Some one) kept test has = sym (ap (λ (k : KeptBlock). k.stamp) (same_Some one kept has)) ∙ eqb-true one.stamp (stamp_of stamps block) test

-- a copy of a list is looked at
looked_at : (stamps : Stamps) (all copies : CopyList) (block : ℕ) (kept : KeptBlock) → are_blocks_fresh stamps all copies ≡ true → kept_at copies block ≡ Some kept → is_block_fresh stamps block (kept_at all block) ≡ true
looked_at stamps all [] block kept test has = absurd (let wrong : None ≡ Some kept = has in cc)
looked_at stamps all (copy ∷ copies) block kept test has =
    let both = and_parts (is_block_fresh stamps copy.0 (kept_at all copy.0)) (are_blocks_fresh stamps all copies) test in
    elim (nat_eq block copy.0) as (λ b. nat_eq block copy.0 ≡ b → cond b (Some copy.1) (kept_at copies block) ≡ Some kept → is_block_fresh stamps block (kept_at all block) ≡ true) [
      | true ↦ λ here found. subst (λ n. is_block_fresh stamps n (kept_at all n) ≡ true) (sym (eqb-true block copy.0 here)) both.0
      | false ↦ λ apart found. looked_at stamps all copies block kept both.1 found
    ] refl has

tables_hold : (live : LiveTables) (found : Option TableCopy) (kept : TableCopy) → are_tables_fresh live found ≡ true → found ≡ Some kept → kept.stamp ≡ live.stamp
tables_hold live None kept test has = absurd (let wrong : None ≡ Some kept = has in cc)
tables_hold live (Some one) kept test has = sym (ap (λ (t : TableCopy). t.stamp) (same_Some one kept has)) ∙ eqb-true one.stamp live.stamp test

pub holds_fresh : (stamps : Stamps) (live : LiveTables) (pages : PagesState) → is_fresh stamps live pages ≡ true → HoldsFloor stamps live pages
holds_fresh stamps live pages test =
    let both = and_parts (are_blocks_fresh stamps pages.blocks pages.blocks) (are_tables_fresh live pages.tables) test in
    record {
      blocks = λ block kept has. block_holds stamps block (kept_at pages.blocks block) kept (looked_at stamps pages.blocks pages.blocks block kept both.0 has) has;
      tables = λ kept has. tables_hold live pages.tables kept both.1 has;
    }
