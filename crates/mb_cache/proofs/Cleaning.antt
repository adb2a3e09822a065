-- Clean pages have the bytes that the disk holds, and go on having them.
use Rattle.std.proofs.Common.{◌≡◌, ◌≢◌, ℕ, ◌-◌, true, false, cond, List, [], ◌∷◌, Contains, ◌⊎◌, take, Option, None, Some, Result, Ok, Err, OnOk, OnErr, nat_eq, inl, inr, refl, sym, ap, subst, ◌∙◌, arith, option_map}
use Rattle.std.proofs.lemmas.Bool.Decides.{nat_tests}
use Rattle.std.specs.Cmp.{nat_eq_equiv}
use Rattle.std.specs.List.{IsDistinct}
use Rattle.std.specs.Map.{keys_of, lookup, lookup_entry, remove_entry}
use Rattle.std.specs.Option.{option_map_or, option_or}
use Rattle.std.proofs.lemmas.Map.{lookup-remove_entry}
use Rattle.lru.specs.LruCache.{LruCache, lru_cache, promoted, put_entries}
use Rattle.lru.proofs.CallerLemmas.{Contains-lookup, Contains-promoted, Contains-remove_entry, Contains-take}
use Rattle.lru.proofs.Matching.{none_found}
use Rattle.lru.proofs.Pairs.{lookup-lookup_entry}
use Rattle.lru.proofs.Splits.{Contains-cons, Contains-nil}
use Rattle.mb_kinds.specs.Image.{Image}
use Rattle.mb_edge.specs.Blocks.{GivesBlock, WritesBlock}
use Rattle.mb_cache.specs.Clean.{AreClean, Rereads, fronted, most_clean}
use Rattle.mb_cache.specs.Pages.{PageList, page_at}
use Rattle.mb_cache.specs.State.{CacheState, ReadsThrough}
use Rattle.mb_cache.specs.declared.answers.ReadFault.{ReadFault}

-- ---- a block without a clean page

some_none : {X : Type 0} (x : X) → Some x ≡ None → ⊥
some_none x e = cc

no_entry : (found : Option (ℕ × List ℕ)) → option_map (λ e. e.1) found ≡ None → found ≡ None
no_entry None none = refl
no_entry (Some e) none = absurd (some_none e.1 none)

missing : (clean : PageList) (block : ℕ) → page_at clean block ≡ None → lookup_entry (nat_eq block) clean ≡ None
missing clean block none = no_entry (lookup_entry (nat_eq block) clean) (lookup-lookup_entry (nat_eq block) clean ∙ none)

-- the kit's put makes it so, or wants memory
pub put_either : {T E : Type 0} (result : Result T E) (old new : LruCache ℕ (List ℕ)) (block : ℕ) (bytes : List ℕ) → old.cap ≡ most_clean → page_at old.entries block ≡ None
    → OnOk result (new ≡ lru_cache (put_entries nat_eq old block bytes) old.cap) → OnErr result (new ≡ old) → (new.entries ≡ fronted old.entries block bytes) ⊎ (new.entries ≡ old.entries)
put_either (Ok t) old new block bytes most none ok err = inl (
    ap (λ (pages : LruCache ℕ (List ℕ)). pages.entries) ok
    ∙ ap (λ found. option_map_or (λ e. (e.0, bytes) ∷ remove_entry (nat_eq block) old.entries) found ((block, bytes) ∷ take (old.cap - 1) old.entries)) (missing old.entries block none)
    ∙ ap (λ n. (block, bytes) ∷ take (n - 1) old.entries) most)
put_either (Err e) old new block bytes most none ok err = inr (ap (λ (pages : LruCache ℕ (List ℕ)). pages.entries) err)

pub promoted_missing : (clean : PageList) (block : ℕ) → page_at clean block ≡ None → promoted (nat_eq block) clean ≡ clean
promoted_missing clean block none = ap (λ found. option_map_or (λ e. e ∷ remove_entry (nat_eq block) clean) found clean) (missing clean block none)

pub still_missing : (clean : PageList) (block : ℕ) → page_at clean block ≡ None → page_at (promoted (nat_eq block) clean) block ≡ None
still_missing clean block none = ap (λ pages. page_at pages block) (promoted_missing clean block none) ∙ none

-- a block that was looked for among the clean pages, and then read
pub rereads_missing : {D : Type 0} (clean mid : PageList) (block : ℕ) (disk left : D) (kept : PageList) (result : Result (List ℕ) ReadFault) → page_at clean block ≡ None → mid ≡ promoted (nat_eq block) clean
    → Rereads None None block disk mid left kept result → Rereads None (page_at clean block) block disk clean left kept result
rereads_missing clean mid block disk left kept result none first it =
    subst (λ found. Rereads None found block disk clean left kept result) (sym none)
    (subst (λ pages. Rereads None None block disk pages left kept result) (first ∙ promoted_missing clean block none) it)

-- ---- a block that is read where there was no clean page

first_read : {D : Type 0} (paged : Option (List ℕ)) (block : ℕ) (disk left : D) (kept : PageList) (result : Result (List ℕ) ReadFault) → Rereads paged None block disk [] left kept result → (page : ℕ × List ℕ) → Contains kept page → page.0 ≡ block
first_read (Some bytes) block disk left kept result it page has = absurd (Contains-nil page (subst (λ pages. Contains pages page) it.1 has))
first_read None block disk left kept (Ok bytes) (inl first) page has =
    elim (Contains-cons (block, bytes) (take (most_clean - 1) []) page (subst (λ pages. Contains pages page) first has)) [
      | inl is ↦ ap (λ (p : ℕ × List ℕ). p.0) (sym is)
      | inr later ↦ absurd (Contains-nil page (Contains-take (most_clean - 1) [] page later))
    ]
first_read None block disk left kept (Ok bytes) (inr same) page has = absurd (Contains-nil page (subst (λ pages. Contains pages page) same has))
first_read None block disk left kept (Err fault) same page has = absurd (Contains-nil page (subst (λ pages. Contains pages page) same has))

-- a read of a block then leaves no clean page but its own
pub reads_first : {D : Type 0} (old new : CacheState D) (block : ℕ) (result : Result (List ℕ) ReadFault) → old.room.clean ≡ [] → ReadsThrough old new block result → (page : ℕ × List ℕ) → Contains new.room.clean page → page.0 ≡ block
reads_first old new block result none it = first_read (option_or (page_at old.current block) (page_at old.sealed block)) block old.disk new.disk new.room.clean result
    (subst (λ clean. Rereads (option_or (page_at old.current block) (page_at old.sealed block)) (page_at clean block) block old.disk clean new.disk new.room.clean result) none it)

-- ---- what clean pages hold

fewer : (told : Option Image) (clean kept : PageList) → ((page : ℕ × List ℕ) → Contains kept page → Contains clean page) → AreClean told clean → AreClean told kept
fewer None clean kept from are = tt
fewer (Some image) clean kept from are = λ page has. are page (from page has)

pub promoted_clean : (told : Option Image) (clean : PageList) (block : ℕ) → AreClean told clean → AreClean told (promoted (nat_eq block) clean)
promoted_clean told clean block = fewer told clean (promoted (nat_eq block) clean) (Contains-promoted (nat_eq block) clean)

pub fronted_clean : (told : Option Image) (clean : PageList) (block : ℕ) (bytes : List ℕ) → AreClean told clean → GivesBlock told block bytes → AreClean told (fronted clean block bytes)
fronted_clean None clean block bytes are gives = tt
fronted_clean (Some image) clean block bytes are gives = λ page has.
    elim (Contains-cons (block, bytes) (take (most_clean - 1) clean) page has) [
      | inl first ↦ subst (λ (p : ℕ × List ℕ). p.1 ≡ image.at p.0) first gives
      | inr later ↦ are page (Contains-take (most_clean - 1) clean page later)
    ]

-- put first, or not, for want of memory
pub put_clean : (told : Option Image) (clean kept : PageList) (block : ℕ) (bytes : List ℕ) → AreClean told clean → GivesBlock told block bytes → (kept ≡ fronted clean block bytes) ⊎ (kept ≡ clean) → AreClean told kept
put_clean told clean kept block bytes are gives (inl first) = subst (AreClean told) (sym first) (fronted_clean told clean block bytes are gives)
put_clean told clean kept block bytes are gives (inr same) = subst (AreClean told) (sym same) are

-- a block's clean page has what the disk holds of it
pub gives_clean : (told : Option Image) (clean : PageList) (block : ℕ) (bytes : List ℕ) → AreClean told clean → page_at clean block ≡ Some bytes → GivesBlock told block bytes
gives_clean None clean block bytes are found = tt
gives_clean (Some image) clean block bytes are found =
    let it = Contains-lookup (nat_eq block) clean bytes found in
    let is : it.0 ≡ block = grind (arith, nat_tests, it.2) in
    are (it.0, bytes) it.1 ∙ ap (λ b. image.at b) is

-- ---- a block that is written

one_block : (block : ℕ) (x y : ℕ) → nat_eq block x ≡ true → nat_eq block y ≡ nat_eq x y
one_block block x y same = let is : block ≡ x = grind (arith, nat_tests, same) in ap (λ b. nat_eq b y) is

not_itself : (block : ℕ) → nat_eq block block ≡ false → ⊥
not_itself block apart = grind (arith, nat_tests, apart)

apart : (clean : PageList) (block : ℕ) → IsDistinct nat_eq (keys_of clean) → (page : ℕ × List ℕ) → Contains (remove_entry (nat_eq block) clean) page → nat_eq block page.0 ≡ false
apart clean block once page has = (elim (nat_eq block page.0) as (λ b. nat_eq block page.0 ≡ b → nat_eq block page.0 ≡ false) [
  | true ↦ λ t.
      let gone = lookup-remove_entry nat_eq_equiv (nat_eq block) (one_block block) page.0 clean once ∙ ap (λ b. cond b None (lookup (nat_eq page.0) clean)) t in
      absurd (not_itself page.0 (none_found (nat_eq page.0) (remove_entry (nat_eq block) clean) gone page has))
  | false ↦ λ t. t
]) refl

other_than : (block other : ℕ) → nat_eq block other ≡ false → other ≢ block
other_than block other test = grind (arith, nat_tests)

itself : (block : ℕ) → nat_eq block block ≡ true
itself block = grind (arith, nat_tests)

pub removed_missing : (clean : PageList) (block : ℕ) → IsDistinct nat_eq (keys_of clean) → page_at (remove_entry (nat_eq block) clean) block ≡ None
removed_missing clean block once = lookup-remove_entry nat_eq_equiv (nat_eq block) (one_block block) block clean once ∙ ap (λ b. cond b None (page_at clean block)) (itself block)

-- the others are as they were, whether the write was done or failed
pub written_clean : {E : Type 0} (before after : Option Image) (result : Result (Unit {0}) E) (clean : PageList) (block : ℕ) (bytes : List ℕ) → WritesBlock before after result block bytes → IsDistinct nat_eq (keys_of clean)
    → AreClean before clean → AreClean after (remove_entry (nat_eq block) clean)
written_clean before None result clean block bytes writes once are = tt
written_clean None (Some new) result clean block bytes writes once are = absurd writes
written_clean (Some old) (Some new) (Ok done) clean block bytes writes once are = λ page has.
    are page (Contains-remove_entry (nat_eq block) clean page has)
    ∙ sym (ap (λ b. cond b bytes (old.at page.0)) (apart clean block once page has))
    ∙ ap (λ (image : Image). image.at page.0) (sym writes)
written_clean (Some old) (Some new) (Err failed) clean block bytes writes once are = λ page has.
    are page (Contains-remove_entry (nat_eq block) clean page has) ∙ sym (writes.others page.0 (other_than block page.0 (apart clean block once page has)))

-- what was written is what the disk holds
pub gives_written : (E : Type 0) (before after : Option Image) (block : ℕ) (bytes : List ℕ) → WritesBlock {E = E} before after (Ok tt) block bytes → GivesBlock after block bytes
gives_written E before None block bytes writes = tt
gives_written E None (Some new) block bytes writes = absurd writes
gives_written E (Some old) (Some new) block bytes writes = sym (ap (λ (image : Image). image.at block) writes ∙ ap (λ b. cond b bytes (old.at block)) (itself block))
