use Rattle.std.proofs.Common.{◌≡◌, ◌<◌, ℕ, Bool, true, false, Option, Some, None, refl, subst, arith}
use Rattle.mb_cache.specs.Stamps.{Stamps}
use Rattle.mb_core_spec.specs.Copies.{LiveTables, PagesState, TableCopy, TablesAreFresh}
use Rattle.mb_callers.specs.Stale.{IsLeastStale}
use Rattle.mb_callers.specs.Tables.{AreTablesFresh}
use Rattle.mb_callers.proofs.laws.least_stale_block.Goals as goal

given_kept : (shared : Bool) (caller : ℕ) (live : LiveTables) (kept : Option TableCopy) (o : Option TableCopy) (given : TableCopy) → AreTablesFresh shared caller live kept o → o ≡ Some given
    → (copy : TableCopy) × (kept ≡ Some copy) × TablesAreFresh shared caller live copy given
given_kept shared caller live kept None given fresh is = cc
given_kept shared caller live None (Some other) given fresh is = absurd fresh
given_kept shared caller live (Some copy) (Some other) given fresh is =
    let same : other ≡ given = cc in
    (copy, refl, subst (TablesAreFresh shared caller live copy) same fresh)

own_fresh : (shared : Bool) (caller : ℕ) (live : LiveTables) (o : Option TableCopy) → ((kept : TableCopy) → o ≡ Some kept → kept.stamp ≡ live.stamp) → AreTablesFresh shared caller live o o
own_fresh shared caller live None stamp = tt
own_fresh true caller live (Some kept) stamp = (refl, refl, stamp kept refl)
own_fresh false caller live (Some kept) stamp = refl

module _ (shared : Bool) (caller : ℕ) (stamps : Stamps) (live : LiveTables) (mine pages : PagesState) where
  alone : (block other : ℕ) → IsLeastStale shared caller stamps live mine pages block → IsLeastStale shared caller stamps live mine pages other → block ≡ other
  alone block other one two =
      let not_less : block < other → ⊥ = λ less. one.stale (two.below block less) in
      let not_more : other < block → ⊥ = λ less. two.stale (one.below other less) in
      omega (arith, not_less, not_more)

pub returns-clause-finishes : goal.returns-clause-finishes
returns-clause-finishes c = λ shared caller stamps live mine pages all. record {
  blocks = λ block. (all block).page;
  tables = λ given is. given_kept shared caller live mine.tables pages.tables given ((all 0).tables refl) is;
}

pub returns-clause-floor : goal.returns-clause-floor
returns-clause-floor c = λ shared caller stamps live mine holds block. record {
  page = λ page here. record { copy = page; has = here; bytes = refl; stamp = holds.blocks block page here };
  tables = λ _. own_fresh shared caller live mine.tables holds.tables;
}

pub returns-clause-apart : goal.returns-clause-apart
returns-clause-apart c = λ shared caller stamps live mine pages block all least. least.stale (all block)

pub returns-clause-one : goal.returns-clause-one
returns-clause-one c = alone
