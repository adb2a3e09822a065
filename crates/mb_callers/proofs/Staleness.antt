-- What the search for the least stale block finds.
use Rattle.std.proofs.Common.{[], ◌∷◌, ℕ, ◌≡◌, ◌≤◌, ◌<◌, ◌⊎◌, inl, inr, Bool, true, false, ◌&&◌, cond, nat_eq, Option, Some, None, IfNone, IfSome, Decides, min, fold, bytes_eq, refl, ap, sym, ◌∙◌, subst, arith}
use Rattle.std.proofs.lemmas.Bool.Decides.{nat_tests}
use Rattle.std.proofs.lemmas.Map.Keys.{IsDistinct-head, IsDistinct-tail}
use Rattle.std.proofs.lemmas.Slice.Eq.{bytes_eq-Decides}
use Rattle.std.specs.List.{AllByRecursion, IsDistinct}
use Rattle.std.specs.Map.{keys_of}
use Rattle.mb_cache.specs.Stamps.{Stamps, stamp_of}
use Rattle.mb_cache.specs.Kept.{CopyList, KeptBlock, kept_at}
use Rattle.mb_core_spec.specs.Copies.{IsFresh, LiveTables, PagesState}
use Rattle.mb_callers.specs.Stale.{AllFresh, IsLeastStale}
use Rattle.mb_copies.specs.Stale.{is_fresh, is_same, least_stale, lesser, stale_step}
use Rattle.mb_callers.specs.Tables.{AreTablesFresh}

-- ---- one page

same_kept : (x y : KeptBlock) → Some x ≡ Some y → x ≡ y
same_kept x y h = cc

both : (a b : Bool) → (a && b) ≡ true → (a ≡ true) × (b ≡ true)
both true b is = (refl, is)
both false b is = cc

fresh_kept : (o : Option KeptBlock) (stamp : ℕ) (page : KeptBlock) → is_same o stamp page ≡ true → (copy : KeptBlock) × (o ≡ Some copy) × (copy.bytes ≡ page.bytes) × (copy.stamp ≡ stamp)
fresh_kept None stamp page is = cc
fresh_kept (Some copy) stamp page is =
    let parts = both (bytes_eq copy.bytes page.bytes) (nat_eq copy.stamp stamp) is in
    let stamps : copy.stamp ≡ stamp = grind (arith, nat_tests, parts.1) in
    (copy, refl, (bytes_eq-Decides copy.bytes page.bytes).0 parts.0, stamps)

kept_fresh : (o : Option KeptBlock) (copy : KeptBlock) (stamp : ℕ) (page : KeptBlock) → o ≡ Some copy → copy.bytes ≡ page.bytes → copy.stamp ≡ stamp → is_same o stamp page ≡ true
kept_fresh None copy stamp page has bytes is = cc
kept_fresh (Some other) copy stamp page has bytes is =
    let same = same_kept other copy has in
    let first : bytes_eq other.bytes page.bytes ≡ true = (bytes_eq-Decides other.bytes page.bytes).1 (ap (λ (k : KeptBlock). k.bytes) same ∙ bytes) in
    let number : other.stamp ≡ stamp = ap (λ (k : KeptBlock). k.stamp) same ∙ is in
    let second : nat_eq other.stamp stamp ≡ true = grind (arith, nat_tests, number) in
    ap (λ b. b && nat_eq other.stamp stamp) first ∙ second

module _ (copies : CopyList) (stamps : Stamps) where
  pub is_fresh_page : (block : ℕ) (page : KeptBlock) → is_fresh copies stamps (block, page) ≡ true → IsFresh copies stamps block page
  is_fresh_page block page is = let found = fresh_kept (kept_at copies block) (stamp_of stamps block) page is in
      record { copy = found.0; has = found.1; bytes = found.2; stamp = found.3 }

  pub fresh_page_is : (block : ℕ) (page : KeptBlock) → IsFresh copies stamps block page → is_fresh copies stamps (block, page) ≡ true
  fresh_page_is block page fresh = kept_fresh (kept_at copies block) fresh.copy (stamp_of stamps block) page fresh.has fresh.bytes fresh.stamp

  -- ---- the fold

  abbrev IsAtMost : Option ℕ → ℕ → Type 0
  IsAtMost None n = ⊥
  IsAtMost (Some b) n = b ≤ n

  -- what the fold from `least` on comes to: each page is fresh or not below it, and it is one of a stale page
  record Told (least result : Option ℕ) (pages : CopyList) : Type 0 where
    pub each : (block : ℕ) (page : KeptBlock) → kept_at pages block ≡ Some page → (is_fresh copies stamps (block, page) ≡ true) ⊎ IsAtMost result block
    pub found : (block : ℕ) → result ≡ Some block → (least ≡ Some block) ⊎ ((page : KeptBlock) × (kept_at pages block ≡ Some page) × (is_fresh copies stamps (block, page) ≡ false))
    pub low : (n : ℕ) → least ≡ Some n → IsAtMost result n

  at_most_less : (result : Option ℕ) (m n : ℕ) → IsAtMost result m → m ≤ n → IsAtMost result n
  at_most_less None m n is less = is
  at_most_less (Some b) m n is less = omega (arith, is, less)

  -- the page of a block is the first one or a later one
  kept_or : (head : ℕ × KeptBlock) (pages : CopyList) (block : ℕ) (page : KeptBlock) → kept_at (head ∷ pages) block ≡ Some page → ((block ≡ head.0) × (page ≡ head.1)) ⊎ (kept_at pages block ≡ Some page)
  kept_or head pages block page = elim (nat_eq block head.0) as (λ b. nat_eq block head.0 ≡ b → cond b (Some head.1) (kept_at pages block) ≡ Some page → ((block ≡ head.0) × (page ≡ head.1)) ⊎ (kept_at pages block ≡ Some page)) [
    | true ↦ λ test here. let is : block ≡ head.0 = grind (arith, nat_tests, test) in inl (is, sym (same_kept head.1 page here))
    | false ↦ λ test here. inr here
  ] refl

  kept_head : (head : ℕ × KeptBlock) (pages : CopyList) → kept_at (head ∷ pages) head.0 ≡ Some head.1
  kept_head head pages = let test : nat_eq head.0 head.0 ≡ true = grind (arith, nat_tests) in ap (λ b. cond b (Some head.1) (kept_at pages head.0)) test

  apart : (key block : ℕ) (page : KeptBlock) (pages : CopyList) → AllByRecursion (λ other. nat_eq key other ≡ false) (keys_of pages) → kept_at pages block ≡ Some page → nat_eq key block ≡ false
  apart key block page [] all here = cc
  apart key block page (head ∷ pages) all here = elim (kept_or head pages block page here) [
    | inl is ↦ ap (nat_eq key) is.0 ∙ all.0
    | inr later ↦ apart key block page pages all.1 later
  ]

  kept_later : (head : ℕ × KeptBlock) (pages : CopyList) (block : ℕ) (page : KeptBlock) → IsDistinct nat_eq (keys_of (head ∷ pages)) → kept_at pages block ≡ Some page → kept_at (head ∷ pages) block ≡ Some page
  kept_later head pages block page once here =
      let other = apart head.0 block page pages (IsDistinct-head nat_eq head.0 (keys_of pages) once) here in
      let swap : nat_eq block head.0 ≡ false = grind (arith, nat_tests, other) in
      ap (λ b. cond b (Some head.1) (kept_at pages block)) swap ∙ here

  found_later : (head : ℕ × KeptBlock) (pages : CopyList) (block : ℕ) → IsDistinct nat_eq (keys_of (head ∷ pages)) → (page : KeptBlock) × (kept_at pages block ≡ Some page) × (is_fresh copies stamps (block, page) ≡ false)
      → (page : KeptBlock) × (kept_at (head ∷ pages) block ≡ Some page) × (is_fresh copies stamps (block, page) ≡ false)
  found_later head pages block once stale = (stale.0, kept_later head pages block stale.0 once stale.1, stale.2)

  -- a fresh page in front changes nothing
  passed : (head : ℕ × KeptBlock) (pages : CopyList) (least result : Option ℕ) → IsDistinct nat_eq (keys_of (head ∷ pages)) → is_fresh copies stamps head ≡ true → Told least result pages → Told least result (head ∷ pages)
  passed head pages least result once fresh rest = record {
    each = λ block page here. elim (kept_or head pages block page here) [
      | inl is ↦ inl (ap (is_fresh copies stamps) (let pair : (block, page) ≡ head = ap (λ b. (b, page)) is.0 ∙ ap (λ p. (head.0, p)) is.1 in pair) ∙ fresh)
      | inr later ↦ rest.each block page later
    ];
    found = λ block is. elim (rest.found block is) [ inl before ↦ inl before | inr stale ↦ inr (found_later head pages block once stale) ];
    low = rest.low;
  }

  lesser_first : (least : Option ℕ) (n : ℕ) → lesser least n ≤ n
  lesser_first None n = omega arith
  lesser_first (Some m) n = omega arith

  lesser_before : (least : Option ℕ) (m n : ℕ) → least ≡ Some m → lesser least n ≤ m
  lesser_before None m n is = cc
  lesser_before (Some k) m n is = let same : k ≡ m = cc in omega (arith, same)

  lesser_one : (least : Option ℕ) (n block : ℕ) → Some (lesser least n) ≡ Some block → (least ≡ Some block) ⊎ (block ≡ n)
  lesser_one None n block is = inr cc
  lesser_one (Some m) n block is = let same : min m n ≡ block = cc in elim (min_one m n) [
    | inl first ↦ inl (ap Some (sym first ∙ same))
    | inr second ↦ inr (sym same ∙ second)
  ]
    where
      min_one : (a b : ℕ) → (min a b ≡ a) ⊎ (min a b ≡ b)
      min_one a b = grind arith

  -- a stale page in front lowers it to its block
  lowered : (head : ℕ × KeptBlock) (pages : CopyList) (least result : Option ℕ) → IsDistinct nat_eq (keys_of (head ∷ pages)) → is_fresh copies stamps head ≡ false → Told (Some (lesser least head.0)) result pages → Told least result (head ∷ pages)
  lowered head pages least result once stale rest = record {
    each = λ block page here. elim (kept_or head pages block page here) [
      | inl is ↦ inr (at_most_less result (lesser least head.0) block (rest.low (lesser least head.0) refl) (let first = lesser_first least head.0 in omega (arith, first, is.0)))
      | inr later ↦ rest.each block page later
    ];
    found = λ block is. elim (rest.found block is) [
      | inl before ↦ elim (lesser_one least head.0 block before) [
        | inl so ↦ inl so
        | inr here ↦ inr (head.1, ap (kept_at (head ∷ pages)) here ∙ kept_head head pages, ap (λ b. is_fresh copies stamps (b, head.1)) here ∙ stale)
      ]
      | inr found ↦ inr (found_later head pages block once found)
    ];
    low = λ n is. at_most_less result (lesser least head.0) n (rest.low (lesser least head.0) refl) (lesser_before least n head.0 is);
  }

  tells : (pages : CopyList) (least : Option ℕ) → IsDistinct nat_eq (keys_of pages) → Told least (fold (stale_step copies stamps) least pages) pages
  tells [] least once = record {
    each = λ block page here. cc;
    found = λ block is. inl is;
    low = λ n is. subst (λ o. IsAtMost o n) (sym is) (omega arith);
  }
  tells (head ∷ pages) least once = elim (is_fresh copies stamps head) as (λ b. is_fresh copies stamps head ≡ b → Told (cond b least (Some (lesser least head.0))) (fold (stale_step copies stamps) (cond b least (Some (lesser least head.0))) pages) pages
      → Told least (fold (stale_step copies stamps) (cond b least (Some (lesser least head.0))) pages) (head ∷ pages)) [
        | true ↦ λ test rest. passed head pages least _ once test rest
        | false ↦ λ test rest. lowered head pages least _ once test rest
      ] refl (tells pages (stale_step copies stamps least head) (IsDistinct-tail nat_eq head.0 (keys_of pages) once))

  none_stale : (result : Option ℕ) (pages : CopyList) → Told None result pages → result ≡ None → (block : ℕ) (page : KeptBlock) → kept_at pages block ≡ Some page → IsFresh copies stamps block page
  none_stale result pages told none block page here = elim (told.each block page here) [
    | inl fresh ↦ is_fresh_page block page fresh
    | inr most ↦ absurd (subst (λ o. IsAtMost o block) none most)
  ]

  below_fresh : (result : Option ℕ) (pages : CopyList) (least : ℕ) → Told None result pages → result ≡ Some least → (block : ℕ) (page : KeptBlock) → block < least → kept_at pages block ≡ Some page → IsFresh copies stamps block page
  below_fresh result pages least told is block page less here = elim (told.each block page here) [
    | inl fresh ↦ is_fresh_page block page fresh
    | inr most ↦ absurd (let low = subst (λ o. IsAtMost o block) is most in omega (arith, low, less))
  ]

  one_stale : (result : Option ℕ) (pages : CopyList) (least : ℕ) → Told None result pages → result ≡ Some least → ((page : KeptBlock) → kept_at pages least ≡ Some page → IsFresh copies stamps least page) → ⊥
  one_stale result pages least told is all = elim (told.found least is) [
    | inl none ↦ cc
    | inr found ↦ (let fresh = fresh_page_is least found.0 (all found.0 found.1) in let not = found.2 in cc)
  ]

-- ---- blocks and tables

module _ (shared : Bool) (caller : ℕ) (stamps : Stamps) (live : LiveTables) (mine pages : PagesState) where
  pub tables_stale : (test : Bool) → Decides test (AreTablesFresh shared caller live mine.tables pages.tables) → test ≡ false → IsLeastStale shared caller stamps live mine pages 0
  tables_stale test decides is = record {
    stale = λ at. (let fresh = decides.1 (at.tables refl) in cc);
    below = λ other less. absurd (omega (arith, less));
  }

  blocks_none : (result : Option ℕ) → Told mine.blocks stamps None result pages.blocks → AreTablesFresh shared caller live mine.tables pages.tables → IfNone result (AllFresh shared caller stamps live mine pages)
  blocks_none None told tables = λ block. record { page = none_stale mine.blocks stamps None pages.blocks told refl block; tables = λ _. tables }
  blocks_none (Some least) told tables = tt

  blocks_some : (result : Option ℕ) → Told mine.blocks stamps None result pages.blocks → AreTablesFresh shared caller live mine.tables pages.tables → IfSome result (IsLeastStale shared caller stamps live mine pages)
  blocks_some None told tables = tt
  blocks_some (Some least) told tables = record {
    stale = λ at. one_stale mine.blocks stamps (Some least) pages.blocks least told refl at.page;
    below = λ other less. record { page = λ page here. below_fresh mine.blocks stamps (Some least) pages.blocks least told refl other page less here; tables = λ _. tables };
  }

  pub search_none : (result : Option ℕ) → result ≡ least_stale mine.blocks stamps pages.blocks → IsDistinct nat_eq (keys_of pages.blocks) → AreTablesFresh shared caller live mine.tables pages.tables → IfNone result (AllFresh shared caller stamps live mine pages)
  search_none result is once tables = blocks_none result (subst (λ r. Told mine.blocks stamps None r pages.blocks) (sym is) (tells mine.blocks stamps pages.blocks None once)) tables

  pub search_some : (result : Option ℕ) → result ≡ least_stale mine.blocks stamps pages.blocks → IsDistinct nat_eq (keys_of pages.blocks) → AreTablesFresh shared caller live mine.tables pages.tables → IfSome result (IsLeastStale shared caller stamps live mine pages)
  search_some result is once tables = blocks_some result (subst (λ r. Told mine.blocks stamps None r pages.blocks) (sym is) (tells mine.blocks stamps pages.blocks None once)) tables
