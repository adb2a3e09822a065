-- Stamps after an install.
use Rattle.std.proofs.Common.{◌≡◌, ℕ, ◌+◌, ◌-◌, ◌^◌, ◌<◌, min, Bool, true, false, cond, List, [], ◌∷◌, Option, None, Some, unwrap_or, nat_eq, inl, inr, refl, sym, ap, subst, ◌∙◌, arith, if◌then◌else◌}
use Rattle.std.specs.Prelude.{IsSome}
use Rattle.std.proofs.lemmas.Bool.Decides.{nat_tests}
use Rattle.std.specs.List.{IsDistinct, AllByRecursion}
use Rattle.std.specs.Map.{lookup, keys_of}
use Rattle.std.proofs.lemmas.Map.Keys.{IsDistinct-head, IsDistinct-tail}
use Rattle.indexmap.specs.IndexMap.{insert_entry}
use Rattle.mb_kinds.specs.Image.{Image}
use Rattle.mb_kinds.specs.Changed.{ChangeList, AreChanges, changed}
use Rattle.mb_cache.specs.Pages.{PageList, under, installed}
use Rattle.mb_cache.specs.Stamps.{Stamps, stamp_of, raised, raised_by}
use Rattle.mb_cache.specs.CacheLaws.{Moves, MovesAt}
use Rattle.mb_layers.proofs.Covers.{under_at}
use Rattle.mb_cache.proofs.Layers.{under_installed}

-- ---- a look-up after an insertion

one_key : {X : Type 0} (b : Bool) (value old : X) (rest : Option X) → cond b (Some value) rest ≡ cond b (Some value) (cond b (Some old) rest)
one_key true value old rest = refl
one_key false value old rest = refl

two_keys : {X : Type 0} (b c : Bool) (value old : X) (rest : Option X) → (b ≡ true → c ≡ true → ⊥) → cond b (Some old) (cond c (Some value) rest) ≡ cond c (Some value) (cond b (Some old) rest)
two_keys true true value old rest apart = absurd (apart refl refl)
two_keys true false value old rest apart = refl
two_keys false c value old rest apart = refl

at_key : {X : Type 0} (entries : List (ℕ × X)) (entry : ℕ × X) (key : ℕ) (value : X) (other : ℕ) (same : Bool) → nat_eq key entry.0 ≡ same
    → lookup (nat_eq other) (insert_entry nat_eq entries key value) ≡ cond (nat_eq key other) (Some value) (lookup (nat_eq other) entries)
    → lookup (nat_eq other) (if same then (entry.0, value) ∷ entries else entry ∷ insert_entry nat_eq entries key value)
    ≡ cond (nat_eq key other) (Some value) (cond (nat_eq other entry.0) (Some entry.1) (lookup (nat_eq other) entries))
at_key entries entry key value other true test later =
    let swap : nat_eq other entry.0 ≡ nat_eq key other = grind (arith, nat_tests) in
    ap (λ b. cond b (Some value) (lookup (nat_eq other) entries)) swap
    ∙ one_key (nat_eq key other) value entry.1 (lookup (nat_eq other) entries)
    ∙ ap (λ b. cond (nat_eq key other) (Some value) (cond b (Some entry.1) (lookup (nat_eq other) entries))) (sym swap)
at_key entries entry key value other false test later =
    ap (cond (nat_eq other entry.0) (Some entry.1)) later
    ∙ two_keys (nat_eq other entry.0) (nat_eq key other) value entry.1 (lookup (nat_eq other) entries) (λ e f. grind (arith, nat_tests))

pub lookup_inserted : {X : Type 0} (entries : List (ℕ × X)) (key : ℕ) (value : X) (other : ℕ)
    → lookup (nat_eq other) (insert_entry nat_eq entries key value) ≡ cond (nat_eq key other) (Some value) (lookup (nat_eq other) entries)
lookup_inserted [] key value other =
    let swap : nat_eq other key ≡ nat_eq key other = grind (arith, nat_tests) in
    ap (λ b. cond b (Some value) None) swap
lookup_inserted (entry ∷ entries) key value other = at_key entries entry key value other (nat_eq key entry.0) refl (lookup_inserted entries key value other)

-- ---- stamps

or_zero : (b : Bool) (value : ℕ) (found : Option ℕ) → unwrap_or (cond b (Some value) found) 0 ≡ cond b value (unwrap_or found 0)
or_zero true value found = refl
or_zero false value found = refl

stamp_raised : (stamps : Stamps) (block other : ℕ) → stamp_of (raised stamps block) other ≡ cond (nat_eq block other) (min (stamp_of stamps block + 1) (2 ^ 64 - 1)) (stamp_of stamps other)
stamp_raised stamps block other =
    ap (λ found. unwrap_or found 0) (lookup_inserted stamps block (min (stamp_of stamps block + 1) (2 ^ 64 - 1)) other)
    ∙ or_zero (nat_eq block other) (min (stamp_of stamps block + 1) (2 ^ 64 - 1)) (lookup (nat_eq other) stamps)

-- a block that no change is of
none_at : (block : ℕ) (changes : ChangeList) → AllByRecursion (λ key. nat_eq block key ≡ false) (keys_of changes) → changed changes block ≡ None
none_at block [] apart = refl
none_at block (change ∷ changes) apart = ap (λ b. cond b (Some change.1) (changed changes block)) apart.0 ∙ none_at block changes apart.1

nothing : false ≡ true → ⊥
nothing e = cc

some_none : {X : Type 0} (x : X) → Some x ≡ None → ⊥
some_none x e = cc

other_stamp : (stamps : Stamps) (key block : ℕ) → nat_eq block key ≡ false → stamp_of (raised stamps key) block ≡ stamp_of stamps block
other_stamp stamps key block apart =
    let swap : nat_eq key block ≡ false = grind (arith, nat_tests) in
    stamp_raised stamps key block ∙ ap (λ b. cond b (min (stamp_of stamps key + 1) (2 ^ 64 - 1)) (stamp_of stamps block)) swap

least : (here there : ℕ) → here ≡ there → there < 2 ^ 64 - 1 → min (here + 1) (2 ^ 64 - 1) ≡ there + 1
least here there same below = omega (arith, same, below)

own_stamp : (stamps : Stamps) (key block : ℕ) → key ≡ block → stamp_of stamps block < 2 ^ 64 - 1 → stamp_of (raised stamps key) block ≡ stamp_of stamps block + 1
own_stamp stamps key block is few =
    let test : nat_eq key block ≡ true = grind (arith, nat_tests) in
    stamp_raised stamps key block
    ∙ ap (λ b. cond b (min (stamp_of stamps key + 1) (2 ^ 64 - 1)) (stamp_of stamps block)) test
    ∙ least (stamp_of stamps key) (stamp_of stamps block) (ap (stamp_of stamps) is) few

stays_at : (stamps : Stamps) (change : ℕ × List ℕ) (changes : ChangeList) (block : ℕ) (same : Bool) → nat_eq block change.0 ≡ same → cond same (Some change.1) (changed changes block) ≡ None
    → (changed changes block ≡ None → stamp_of (raised_by (raised stamps change.0) changes) block ≡ stamp_of (raised stamps change.0) block)
    → stamp_of (raised_by (raised stamps change.0) changes) block ≡ stamp_of stamps block
stays_at stamps change changes block true test found later = absurd (some_none change.1 found)
stays_at stamps change changes block false test found later = later found ∙ other_stamp stamps change.0 block test

-- the stamp of a block that is not changed stays
pub stamp_stays : (stamps : Stamps) (changes : ChangeList) (block : ℕ) → changed changes block ≡ None → stamp_of (raised_by stamps changes) block ≡ stamp_of stamps block
stamp_stays stamps [] block none = refl
stamp_stays stamps (change ∷ changes) block none =
    stays_at stamps change changes block (nat_eq block change.0) refl none (stamp_stays (raised stamps change.0) changes block)

rises_at : (stamps : Stamps) (change : ℕ × List ℕ) (changes : ChangeList) (block : ℕ) (same : Bool) → nat_eq block change.0 ≡ same
    → AllByRecursion (λ key. nat_eq change.0 key ≡ false) (keys_of changes) → IsSome (cond same (Some change.1) (changed changes block)) → stamp_of stamps block < 2 ^ 64 - 1
    → (IsSome (changed changes block) → stamp_of (raised stamps change.0) block < 2 ^ 64 - 1 → stamp_of (raised_by (raised stamps change.0) changes) block ≡ stamp_of (raised stamps change.0) block + 1)
    → stamp_of (raised_by (raised stamps change.0) changes) block ≡ stamp_of stamps block + 1
rises_at stamps change changes block true test apart found few later =
    let is : change.0 ≡ block = grind (arith, nat_tests) in
    let others : changed changes block ≡ None = subst (λ b. changed changes b ≡ None) is (none_at change.0 changes apart) in
    stamp_stays (raised stamps change.0) changes block others ∙ own_stamp stamps change.0 block is few
rises_at stamps change changes block false test apart found few later =
    let kept = other_stamp stamps change.0 block test in
    later found (subst (λ n. n < 2 ^ 64 - 1) (sym kept) few) ∙ ap (λ n. n + 1) kept

-- the stamp of a changed block rises by one
pub stamp_rises : (stamps : Stamps) (changes : ChangeList) (block : ℕ) → IsDistinct nat_eq (keys_of changes) → IsSome (changed changes block) → stamp_of stamps block < 2 ^ 64 - 1
    → stamp_of (raised_by stamps changes) block ≡ stamp_of stamps block + 1
stamp_rises stamps [] block once is_changed few = absurd (nothing is_changed)
stamp_rises stamps (change ∷ changes) block once is_changed few =
    rises_at stamps change changes block (nat_eq block change.0) refl (IsDistinct-head nat_eq change.0 (keys_of changes) once) is_changed few
    (stamp_rises (raised stamps change.0) changes block (IsDistinct-tail nat_eq change.0 (keys_of changes) once))

pub installs_move : (image : Image) (pages : PageList) (stamps : Stamps) (changes : ChangeList) → AreChanges changes
    → ((block : ℕ) → IsSome (changed changes block) → stamp_of stamps block < 2 ^ 64 - 1)
    → Moves (under image pages) stamps (under image (installed pages changes)) (raised_by stamps changes)
installs_move image pages stamps changes are few block = at (changed changes block) refl
  where
    at : (found : Option (List ℕ)) → changed changes block ≡ found → MovesAt (under image pages) stamps (under image (installed pages changes)) (raised_by stamps changes) block
    at None none = inl (
      ap (λ (view : Image). view.at block) (under_installed image pages changes are.once) ∙ under_at (under image pages) changes block ∙ ap (λ o. unwrap_or o ((under image pages).at block)) none,
      stamp_stays stamps changes block none,
    )
    at (Some bytes) some =
        let is_changed : IsSome (changed changes block) = subst IsSome (sym some) refl in
        inr (above (stamp_rises stamps changes block are.once is_changed (few block is_changed)))
      where
        above : {n m : ℕ} → m ≡ n + 1 → n < m
        above e = omega (arith, e)
