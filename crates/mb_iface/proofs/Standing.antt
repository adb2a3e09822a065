-- Changes at places of the list that were found before.
use Rattle.std.proofs.Common.{ℕ, zero, suc, ◌≡◌, ◌≢◌, List, [], ◌∷◌, Option, Some, None, IsSome, IfSome, inl, inr, true, false, cond, nat_eq, slice_get, if◌then◌else◌, unwrap_or, refl, sym, ap, subst, ◌∙◌, arith}
use Rattle.std.proofs.lemmas.Bool.{cases_eq}
use Rattle.std.proofs.lemmas.Bool.Decides.{nat_tests}
use Rattle.indexmap.specs.IndexMap.{insert_entry, set_value_at}
use Rattle.mb_word.specs.Numbers.{put_at}
use Rattle.mb_kinds.specs.Changed.{ChangeList, AreChanges, changed}
use Rattle.mb_iface.specs.Guesses.{AreMarked}
use Rattle.mb_iface.specs.Places.{StandsAt}
use Rattle.mb_iface.specs.Pairs.{HasPutAndEdited}
use Rattle.mb_iface.proofs.ChangePlaces.{changed_at, set_at}
use Rattle.mb_iface.proofs.Editing.{Sets, Patches}
use Rattle.mb_iface.proofs.TwoBlocks.{edited_in_place}

-- a place that was found, of the list that the changes are
pub stands : (r : Option ℕ) (inside now : ChangeList) (block : ℕ) → AreChanges inside → inside ≡ now → IfSome r (λ place. (bytes : List ℕ) × (slice_get inside place ≡ Some (block, bytes)))
    → IfSome r (λ place. StandsAt now place block)
stands None inside now block are is found = tt
stands (Some place) inside now block are is found =
    subst (λ (es : ChangeList). StandsAt es place block) is (record { bytes = found.0; here = found.1; reads = changed_at inside place block found.0 are found.1 })

-- a block keeps its place when another one is put
pub kept_there : (changes : ChangeList) (put : ℕ) (whole : List ℕ) (place block : ℕ) (bytes : List ℕ) → block ≢ put → slice_get changes place ≡ Some (block, bytes)
    → slice_get (insert_entry nat_eq changes put whole) place ≡ Some (block, bytes)
kept_there [] put whole place block bytes apart here = cc
kept_there (change ∷ changes) put whole zero block bytes apart here =
    let key : change.0 ≡ block = ap (λ o. (unwrap_or {T = ℕ × List ℕ} o change).0) here in
    let off : nat_eq put change.0 ≡ false = grind (arith, nat_tests) in
    subst (λ b. slice_get (if b then (change.0, whole) ∷ changes else change ∷ insert_entry nat_eq changes put whole) zero ≡ Some (block, bytes)) (sym off) here
kept_there (change ∷ changes) put whole (suc place) block bytes apart here =
    elim (nat_eq put change.0) as (λ b. slice_get (if b then (change.0, whole) ∷ changes else change ∷ insert_entry nat_eq changes put whole) (suc place) ≡ Some (block, bytes)) [
      | true ↦ here
      | false ↦ kept_there changes put whole place block bytes apart here
    ]

-- new bytes at a place leave every guess good
pub marked_in_place : (guesses : List ℕ) (changes : ChangeList) (place block : ℕ) (was new : List ℕ) → AreChanges changes → slice_get changes place ≡ Some (block, was) → AreMarked guesses changes
    → AreMarked guesses (set_value_at changes place new)
marked_in_place guesses changes place block was new are here marked other there = elim (cases_eq block other) [
  | inl same ↦ marked other (subst (λ b. IsSome (changed changes b)) same (subst (λ o. IsSome o) (sym (changed_at changes place block was are here)) refl))
  | inr apart ↦
      let off : nat_eq block other ≡ false = grind (arith, nat_tests) in
      marked other (subst IsSome (set_at changes place block was new are here other ∙ ap (λ b. cond b (Some new) (changed changes other)) off) there)
]

-- bytes written over a part of what stands at a place
pub patched_there : (inside now new : ChangeList) (place at : ℕ) (key : ℕ) (here bytes made : List ℕ) → AreChanges inside → inside ≡ now → slice_get inside place ≡ Some (key, here) → new ≡ set_value_at inside place made
    → made ≡ put_at here at bytes
    → (block : ℕ) (was : List ℕ) → slice_get now place ≡ Some (block, was) → (other : ℕ) → changed new other ≡ cond (nat_eq block other) (Some (put_at was at bytes)) (changed now other)
patched_there inside now new place at key here bytes made are is there sets wrote block was stood other =
    let found : slice_get inside place ≡ Some (block, was) = ap (λ es. slice_get es place) is ∙ stood in
    let same : here ≡ was = ap (λ o. (unwrap_or {T = ℕ × List ℕ} o (key, here)).1) (sym there ∙ found) in
    ap (λ es. changed es other) sets
    ∙ set_at inside place block was made are found other
    ∙ ap (λ b. cond (nat_eq block other) (Some b) (changed inside other)) (wrote ∙ ap (λ h. put_at h at bytes) same)
    ∙ ap (λ es. cond (nat_eq block other) (Some (put_at was at bytes)) (changed es other)) is

-- and so does its change there
pub still_stands : (old mid : ChangeList) (put : ℕ) (whole : List ℕ) (place block : ℕ) → block ≢ put → (stood : StandsAt old place block) → mid ≡ insert_entry nat_eq old put whole
    → slice_get mid place ≡ Some (block, stood.bytes)
still_stands old mid put whole place block apart stood list = ap (λ es. slice_get es place) list ∙ kept_there old put whole place block stood.bytes apart stood.here

-- a block put, and then another changed at the place that it had
pub edited_at_place : (shown : ℕ → Option (List ℕ)) (old mid new : ChangeList) (put : ℕ) (whole : List ℕ) (place block at : ℕ) (bytes : List ℕ) → block ≢ put → StandsAt old place block
    → mid ≡ insert_entry nat_eq old put whole → Sets old mid put whole → ((key : ℕ) (was : List ℕ) → slice_get mid place ≡ Some (key, was) → Sets mid new key (put_at was at bytes))
    → HasPutAndEdited shown old new put whole block at bytes
edited_at_place shown old mid new put whole place block at bytes apart stood list each patched =
    let off : nat_eq put block ≡ false = grind (arith, nat_tests) in
    let reads : changed mid block ≡ Some stood.bytes = each block ∙ ap (λ b. cond b (Some whole) (changed old block)) off ∙ stood.reads in
    edited_in_place shown old mid new put whole block at bytes (inr (subst IsSome (sym stood.reads) refl)) each
    (subst (λ (o : Option (List ℕ)). Patches o mid new block at bytes) (sym reads) (patched block stood.bytes (still_stands old mid put whole place block apart stood list)))
