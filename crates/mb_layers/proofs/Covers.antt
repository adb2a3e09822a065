-- Pages over pages: what is read under both.
use Rattle.std.proofs.Common.{◌≡◌, ℕ, Bool, true, false, cond, max, ◌+◌, List, [], ◌∷◌, ◌++◌, Option, Some, None, unwrap_or, nat_eq, is_some, refl, sym, ap, ◌∙◌, arith}
use Rattle.std.proofs.lemmas.Bool.{true≢false}
use Rattle.std.proofs.lemmas.Bool.Decides.{nat_tests}
use Rattle.std.specs.Map.{remove_entry}
use Rattle.mb_kinds.specs.Image.{Image, put}
use Rattle.mb_layers.specs.Pages.{PageList, page_at, under, count_covered}

-- images are equal where they have as many blocks and each block reads alike
pub same_image : (image other : Image) → image.count ≡ other.count → ((block : ℕ) → image.at block ≡ other.at block) → image ≡ other
same_image image other counts blocks = λ i. record { count = counts i; at = λ block. blocks block i }

at_look : (b : Bool) (bytes rest : List ℕ) (found : Option (List ℕ)) → cond b bytes (unwrap_or found rest) ≡ unwrap_or (cond b (Some bytes) found) rest
at_look true bytes rest found = refl
at_look false bytes rest found = refl

-- a block reads as its page where it has one
pub under_at : (image : Image) (pages : PageList) (block : ℕ) → (under image pages).at block ≡ unwrap_or (page_at pages block) (image.at block)
under_at image [] block = refl
under_at image (page ∷ pages) block =
    let swap : nat_eq page.0 block ≡ nat_eq block page.0 = grind (arith, nat_tests) in
    ap (cond (nat_eq page.0 block) page.1) (under_at image pages block)
    ∙ ap (λ b. cond b page.1 (unwrap_or (page_at pages block) (image.at block))) swap
    ∙ at_look (nat_eq block page.0) page.1 (image.at block) (page_at pages block)

-- how far pages reach
abbrev pub reach : PageList → ℕ
reach [] = 0
reach (page ∷ pages) = max (reach pages) (page.0 + 1)

pub under_count : (image : Image) (pages : PageList) → (under image pages).count ≡ max image.count (reach pages)
under_count image [] = omega arith
under_count image (page ∷ pages) = omega (arith, under_count image pages)

pub under_append : (image : Image) (xs ys : PageList) → under image (xs ++ ys) ≡ under (under image ys) xs
under_append image [] ys = refl
under_append image (page ∷ xs) ys = ap (λ (view : Image). put view page.0 page.1) (under_append image xs ys)

either : (x y : Option (List ℕ)) (z : List ℕ) → (is_some y ≡ true → x ≡ None) → unwrap_or x (unwrap_or y z) ≡ unwrap_or y (unwrap_or x z)
either None y z f = refl
either (Some x) None z f = refl
either (Some x) (Some y) z f = absurd (clash (f refl))
  where
    clash : Some x ≡ None → ⊥
    clash e = cc

-- two lists with no block in both may change places
pub under_swap : (image : Image) (sealed current : PageList) → ((block : ℕ) → is_some (page_at current block) ≡ true → page_at sealed block ≡ None) → under image (sealed ++ current) ≡ under (under image sealed) current
under_swap image sealed current apart =
    under_append image sealed current
    ∙ same_image _ _ (omega (arith, under_count (under image current) sealed, under_count image current, under_count (under image sealed) current, under_count image sealed))
    (λ block.
    under_at (under image current) sealed block ∙ ap (λ z. unwrap_or (page_at sealed block) z) (under_at image current block)
    ∙ either (page_at sealed block) (page_at current block) (image.at block) (apart block)
    ∙ sym (under_at (under image sealed) current block ∙ ap (λ z. unwrap_or (page_at current block) z) (under_at image sealed block)))

-- ---- a page below another of its block

reach_cut : (pages : PageList) (block : ℕ) → reach pages ≡ max (reach (remove_entry (nat_eq block) pages)) (cond (is_some (page_at pages block)) (block + 1) 0)
reach_cut [] block = omega arith
reach_cut (page ∷ pages) block = (elim (nat_eq block page.0) as (λ y. nat_eq block page.0 ≡ y
    → max (reach pages) (page.0 + 1) ≡ max (reach (cond y pages (page ∷ remove_entry (nat_eq block) pages))) (cond (is_some (cond y (Some page.1) (page_at pages block))) (block + 1) 0)) [
      | true ↦ λ e. let is : block ≡ page.0 = grind (arith, nat_tests) in omega (arith, is)
      | false ↦ λ e. omega (arith, reach_cut pages block)
    ]) refl

reach_has : (pages : PageList) (block : ℕ) → is_some (page_at pages block) ≡ true → max (reach pages) (block + 1) ≡ reach pages
reach_has [] block e = absurd (true≢false (sym e))
reach_has (page ∷ pages) block e = (elim (nat_eq block page.0) as (λ y. nat_eq block page.0 ≡ y → is_some (cond y (Some page.1) (page_at pages block)) ≡ true → max (max (reach pages) (page.0 + 1)) (block + 1) ≡ max (reach pages) (page.0 + 1)) [
  | true ↦ λ s z. let is : block ≡ page.0 = grind (arith, nat_tests) in omega (arith, is)
  | false ↦ λ s z. omega (arith, reach_has pages block z)
]) refl e

cut_at : (pages : PageList) (block other : ℕ) → nat_eq block other ≡ false → page_at (remove_entry (nat_eq block) pages) other ≡ page_at pages other
cut_at [] block other n = refl
cut_at (page ∷ pages) block other n = (elim (nat_eq block page.0) as (λ y. nat_eq block page.0 ≡ y → page_at (cond y pages (page ∷ remove_entry (nat_eq block) pages)) other ≡ cond (nat_eq other page.0) (Some page.1) (page_at pages other)) [
  | true ↦ λ e. let off : nat_eq other page.0 ≡ false = grind (arith, nat_tests) in sym (ap (λ y. cond y (Some page.1) (page_at pages other)) off)
  | false ↦ λ e. ap (cond (nat_eq other page.0) (Some page.1)) (cut_at pages block other n)
]) refl

over : (x : Option (List ℕ)) (y z : List ℕ) → is_some x ≡ true → unwrap_or x y ≡ unwrap_or x z
over None y z e = absurd (true≢false (sym e))
over (Some x) y z e = refl

-- the page below is not seen
pub under_cut : (image : Image) (sealed current : PageList) (block : ℕ) → is_some (page_at current block) ≡ true → under (under image (remove_entry (nat_eq block) sealed)) current ≡ under (under image sealed) current
under_cut image sealed current block e =
    let left = remove_entry (nat_eq block) sealed in
    same_image _ _ (counts (is_some (page_at sealed block)) refl)
    (λ other.
    under_at (under image left) current other ∙ ap (λ z. unwrap_or (page_at current other) z) (under_at image left other)
    ∙ seen other (nat_eq block other) refl
    ∙ sym (under_at (under image sealed) current other ∙ ap (λ z. unwrap_or (page_at current other) z) (under_at image sealed other)))
  where
    counts : (b : Bool) → is_some (page_at sealed block) ≡ b → (under (under image (remove_entry (nat_eq block) sealed)) current).count ≡ (under (under image sealed) current).count
    counts b s = omega (
      arith,
      under_count (under image (remove_entry (nat_eq block) sealed)) current,
      under_count image (remove_entry (nat_eq block) sealed),
      under_count (under image sealed) current,
      under_count image sealed,
      reach_cut sealed block,
      reach_has current block e,
      at_most (is_some (page_at sealed block)) block,
    )
      where
        at_most : (b : Bool) (n : ℕ) → max (cond b (n + 1) 0) (n + 1) ≡ n + 1
        at_most true n = omega arith
        at_most false n = omega arith

    seen : (other : ℕ) (b : Bool) → nat_eq block other ≡ b
        → unwrap_or (page_at current other) (unwrap_or (page_at (remove_entry (nat_eq block) sealed) other) (image.at other)) ≡ unwrap_or (page_at current other) (unwrap_or (page_at sealed other) (image.at other))
    seen other true s = let is : block ≡ other = grind (arith, nat_tests) in over (page_at current other) _ _ (ap (λ k. is_some (page_at current k)) (sym is) ∙ e)
    seen other false s = ap (λ x. unwrap_or (page_at current other) (unwrap_or x (image.at other))) (cut_at sealed block other s)

-- 1 where it holds
abbrev pub one_if : Bool → ℕ
one_if holds = cond holds 1 0

-- and it is counted once
pub cut_count : (sealed current : PageList) (block : ℕ) → is_some (page_at current block) ≡ true
    → count_covered (remove_entry (nat_eq block) sealed) current + one_if (is_some (page_at sealed block)) ≡ count_covered sealed current
cut_count [] current block e = refl
cut_count (page ∷ sealed) current block e = (elim (nat_eq block page.0) as (λ y. nat_eq block page.0 ≡ y
    → count_covered (cond y sealed (page ∷ remove_entry (nat_eq block) sealed)) current + one_if (is_some (cond y (Some page.1) (page_at sealed block)))
    ≡ one_if (is_some (page_at current page.0)) + count_covered sealed current) [
      | true ↦ λ s.
          let is : block ≡ page.0 = grind (arith, nat_tests) in
          let one : one_if (is_some (page_at current page.0)) ≡ one_if true = ap one_if (ap (λ k. is_some (page_at current k)) (sym is) ∙ e) in
          omega (arith, one)
      | false ↦ λ s. omega (arith, cut_count sealed current block e)
    ]) refl
