-- Pages installed over others, and pages written back: the same is read.
use Rattle.std.proofs.Common.{◌≡◌, ◌≢◌, ℕ, Bool, true, false, cond, List, [], ◌∷◌, ◌++◌, Option, Some, None, nat_eq, refl, sym, ap, ◌∙◌, arith, if◌then◌else◌}
use Rattle.std.proofs.lemmas.Bool.Decides.{nat_tests}
use Rattle.std.specs.List.{IsDistinct, AllByRecursion}
use Rattle.std.proofs.lemmas.Map.Keys.{IsDistinct-head, IsDistinct-tail}
use Rattle.std.specs.Prelude.{Ok, Err}
use Rattle.std.specs.Map.{keys_of}
use Rattle.indexmap.specs.IndexMap.{insert_entry}
use Rattle.mb_kinds.specs.Image.{Image, put}
use Rattle.mb_edge.specs.Blocks.{Spoils, WritesBlock}
use Rattle.mb_edge.specs.declared.faults.Failed.{Failed}
use Rattle.mb_cache.specs.Pages.{PageList, under, installed}
use Rattle.mb_cache.specs.State.{ReadsAlike}
use Rattle.mb_layers.proofs.Covers.{same_image, under_append}

-- ---- one block put

pick : (b : Bool) (x y z : List ℕ) → cond b x (cond b y z) ≡ cond b x z
pick true x y z = refl
pick false x y z = refl

-- the later of two writes of one block stays
pub put_twice : (image : Image) (block : ℕ) (first second : List ℕ) → put (put image block first) block second ≡ put image block second
put_twice image block first second = same_image _ _ (omega arith) (λ other. pick (nat_eq block other) second first (image.at other))

both : (b c : Bool) (x y z : List ℕ) → (b ≡ true → c ≡ true → ⊥) → cond b x (cond c y z) ≡ cond c y (cond b x z)
both true true x y z apart = absurd (apart refl refl)
both true false x y z apart = refl
both false c x y z apart = refl

-- writes of two blocks may change places
pub put_apart : (image : Image) (block other : ℕ) (first second : List ℕ) → nat_eq block other ≡ false → put (put image block first) other second ≡ put (put image other second) block first
put_apart image block other first second apart =
    same_image _ _ (omega arith) (λ place. both (nat_eq other place) (nat_eq block place) second first (image.at place) (λ e f. grind (arith, nat_tests, apart)))

-- ---- pages over pages

at_key : (image : Image) (pages : PageList) (page : ℕ × List ℕ) (block : ℕ) (bytes : List ℕ) (same : Bool) → nat_eq block page.0 ≡ same
    → under image (insert_entry nat_eq pages block bytes) ≡ put (under image pages) block bytes
    → under image (if same then (page.0, bytes) ∷ pages else page ∷ insert_entry nat_eq pages block bytes) ≡ put (put (under image pages) page.0 page.1) block bytes
at_key image pages page block bytes true test later =
    let is : page.0 ≡ block = grind (arith, nat_tests) in
    ap (λ at. put (under image pages) at bytes) is ∙ sym (put_twice (under image pages) block page.1 bytes) ∙ ap (λ at. put (put (under image pages) at page.1) block bytes) (sym is)
at_key image pages page block bytes false test later =
    let swap : nat_eq page.0 block ≡ false = grind (arith, nat_tests) in
    ap (λ (view : Image). put view page.0 page.1) later ∙ sym (put_apart (under image pages) page.0 block page.1 bytes swap)

-- a page put where its block's page was, or behind the others, shows as its block written
pub under_page : (image : Image) (pages : PageList) (block : ℕ) (bytes : List ℕ) → under image (insert_entry nat_eq pages block bytes) ≡ put (under image pages) block bytes
under_page image [] block bytes = refl
under_page image (page ∷ pages) block bytes = at_key image pages page block bytes (nat_eq block page.0) refl (under_page image pages block bytes)

-- pages over an image with one block written show as that block written, where none of them is of the block
under_put : (image : Image) (block : ℕ) (bytes : List ℕ) (pages : PageList) → AllByRecursion (λ key. nat_eq block key ≡ false) (keys_of pages) → under (put image block bytes) pages ≡ put (under image pages) block bytes
under_put image block bytes [] apart = refl
under_put image block bytes (page ∷ pages) apart =
    ap (λ (view : Image). put view page.0 page.1) (under_put image block bytes pages apart.1) ∙ put_apart (under image pages) block page.0 bytes page.1 apart.0

-- what is read over installed pages is what is read under them, where each of their blocks stands once
pub under_installed : (image : Image) (pages later : PageList) → IsDistinct nat_eq (keys_of later) → under image (installed pages later) ≡ under (under image pages) later
under_installed image pages [] once = refl
under_installed image pages (page ∷ later) once =
    under_installed image (insert_entry nat_eq pages page.0 page.1) later (IsDistinct-tail nat_eq page.0 (keys_of later) once)
    ∙ ap (λ (view : Image). under view later) (under_page image pages page.0 page.1)
    ∙ under_put (under image pages) page.0 page.1 later (IsDistinct-head nat_eq page.0 (keys_of later) once)

-- ---- a page written back

spoiled_at : (b : Bool) (bytes x y : List ℕ) → (b ≡ false → x ≡ y) → cond b bytes x ≡ cond b bytes y
spoiled_at true bytes x y same = refl
spoiled_at false bytes x y same = same refl

spoiled_put : (old new : Image) (block : ℕ) (bytes : List ℕ) → Spoils old new block → put new block bytes ≡ put old block bytes
spoiled_put old new block bytes spoils =
    same_image _ _ (omega (arith, spoils.not_fewer, spoils.not_more)) (λ other. spoiled_at (nat_eq block other) bytes (new.at other) (old.at other) (λ test. spoils.others other (apart other test)))
  where
    apart : (other : ℕ) → nat_eq block other ≡ false → other ≢ block
    apart other test = grind (arith, nat_tests)

-- the last page is on the disk in place of over it
pub written_alike : (before after : Option Image) (front : PageList) (page : ℕ × List ℕ) → WritesBlock {E = Failed} before after (Ok tt) page.0 page.1 → ReadsAlike before (front ++ page ∷ []) after front
written_alike None None front page written = tt
written_alike None (Some new) front page written = absurd written
written_alike (Some old) None front page written = absurd written
written_alike (Some old) (Some new) front page written = ap (λ (view : Image). under view front) written ∙ sym (under_append old front (page ∷ []))

-- a page covers what a write of it that failed has spoiled
pub spoiled_alike : (before after : Option Image) (front : PageList) (page : ℕ × List ℕ) (failed : Failed) → WritesBlock before after (Err failed) page.0 page.1 → ReadsAlike before (front ++ page ∷ []) after (front ++ page ∷ [])
spoiled_alike None None front page failed written = tt
spoiled_alike None (Some new) front page failed written = absurd written
spoiled_alike (Some old) None front page failed written = absurd written
spoiled_alike (Some old) (Some new) front page failed written =
    under_append new front (page ∷ []) ∙ ap (λ (view : Image). under view front) (spoiled_put old new page.0 page.1 written) ∙ sym (under_append old front (page ∷ []))
