-- The lists of the chain, one after another.
use Rattle.std.proofs.Common.{◌≡◌, ℕ, zero, suc, ◌+◌, ◌-◌, ◌*◌, ◌<◌, ◌≤◌, List, [], Bool, Option, Some, None, IfSome, Result, Ok, Err, refl, sym, ap, subst, ◌∙◌, arith}
use Rattle.mb_kinds.specs.Image.{Image}
use Rattle.mb_word.specs.Numbers.{word_at, long_at}
use Rattle.mb_word.specs.Fields.{fsize_of}
use Rattle.mb_tree.specs.Blocks.{first_list, list_in}
use Rattle.mb_rules.specs.declared.findings.Finding.{Finding}
use Rattle.mb_rules.specs.Items.{Item, walked}
use Rattle.mb_rules.specs.FreeChain.{list_items, chain_items}
use Rattle.mb_check_files.specs.declared.bounds.Bounds.{Bounds}
use Rattle.mb_check_files.specs.declared.stops.Stop.{Stop}
use Rattle.mb_check_files.specs.declared.stops.Stop.TheVariants.{Broken, Device, NoMemory}
use Rattle.mb_check_files.specs.Passes.{Stands, AreBounds, Passes, Lists, listed_at, Underway}

pub told_of : (told : Option Image) (image : Image) (P : Image → Type 0) → told ≡ Some image → IfSome told P → P image
told_of None image P e h = absurd (cc)
told_of (Some other) image P e h = let same : other ≡ image = cc in subst P same h

module _ (image : Image) (bounds : Bounds) where
  pub begins : (flags : List Bool) (first : List ℕ) → first ≡ image.at 1 → AreBounds image.at bounds → Stands flags [] → Underway image flags first 6 1 (bounds.high + 1) 0
  begins flags first same are stands = record {
    met = [];
    lists = bounds.high + 1;
    left = omega arith;
    stands = stands;
    walks = ap (λ n. walked [] (list_items image.at (n + 1) 1 (first_list image.at))) are.high
        ∙ ap (λ (b : List ℕ). walked [] (list_items image.at (bounds.high + 1) 1 (listed_at b 6))) (sym same);
  }

  module _ (flags : List Bool) (bytes : List ℕ) (base holder bound so_far : ℕ) (under : Underway image flags bytes base holder bound so_far) where
    one_more : so_far < bound → (less : ℕ) × (under.lists ≡ suc less)
    one_more h = let left = under.left in (under.lists - 1, omega arith)

    whole : (less : ℕ) → under.lists ≡ suc less → walked [] (chain_items image.at) ≡ walked under.met (list_items image.at (suc less) holder (listed_at bytes base))
    whole less e = under.walks ∙ ap (λ n. walked under.met (list_items image.at n holder (listed_at bytes base))) e

    pub ends_so : (new : List Bool) (later : List ℕ) → so_far < bound → Lists (Ok None) new later image.at holder (listed_at bytes base) under.met → (after : List ℕ) × (walked [] (chain_items image.at) ≡ Ok after) × Stands new after
    ends_so new later h lists =
        let more = one_more h in
        let last = lists more.0 in
        (last.0, whole more.0 more.1 ∙ last.1, last.2)

    pub stops_so : (new : List Bool) (later : List ℕ) (stop : Stop) → so_far < bound → Lists (Err stop) new later image.at holder (listed_at bytes base) under.met → Passes (Err stop) new [] (chain_items image.at)
    stops_so new later (Broken broken) h lists = let more = one_more h in whole more.0 more.1 ∙ lists more.0
    stops_so new later Device h lists = tt
    stops_so new later NoMemory h lists = tt

    pub goes_on : (new : List Bool) (later : List ℕ) (next : ℕ) → so_far < bound → Lists (Ok (Some next)) new later image.at holder (listed_at bytes base) under.met → Underway image new later 0 next bound (so_far + 1)
    goes_on new later next h lists =
        let more = one_more h in
        let last = lists.1 more.0 in
        let left = under.left in
        let fewer = more.1 in
        record {
          met = last.0;
          lists = more.0;
          left = omega arith;
          stands = last.2;
          walks = whole more.0 more.1 ∙ last.1 ∙ ap (λ (b : List ℕ). walked last.0 (list_items image.at more.0 next (listed_at b 0))) (sym lists.0);
        }

    pub done_so : bound ≤ so_far → (after : List ℕ) × (walked [] (chain_items image.at) ≡ Ok after) × Stands flags after
    unfolding list_items walked
    done_so h =
        let left = under.left in
        let none : under.lists ≡ 0 = omega arith in
        (under.met, under.walks ∙ ap (λ n. walked under.met (list_items image.at n holder (listed_at bytes base))) none, under.stands)
