-- One address of a file and what is under it, from the walks of its parts.
use Rattle.std.proofs.Common.{◌≡◌, ℕ, zero, suc, ◌+◌, ◌-◌, ◌*◌, ◌<◌, ◌≤◌, List, [], ◌∷◌, ◌++◌, Bool, true, false, not, nat_eq, Result, Ok, Err, Some, None, is_some, if◌then◌else◌, refl, sym, ap, subst, ◌∙◌, arith}
use Rattle.std.proofs.lemmas.Bool.Decides.{nat_tests}
use Rattle.mb_word.specs.Fields.{index_entry}
use Rattle.mb_tree.specs.Counting.{any_from, first_from}
use Rattle.mb_rules.specs.declared.findings.Finding.{Finding}
use Rattle.mb_rules.specs.Items.{Item, Holds, Held, walked, walked_on, each_from}
use Rattle.mb_rules.specs.Files.{address_items, leads_on}
use Rattle.mb_rules.proofs.Walks.{walk_append}
use Rattle.mb_check_files.proofs.Eachs.{each_more, each_stops}
use Rattle.mb_check_files.specs.Indexes.{head_items}
use Rattle.mb_check_files.proofs.Claims.{claim_items}

pub none_from : (p : ℕ → Bool) (low n : ℕ) → ((k : ℕ) → low ≤ k → k < low + n → p k ≡ false) → any_from p low n ≡ false
unfolding first_from
none_from p low zero all = refl
none_from p low (suc n) all = rw (first_from, all low (omega arith) (omega arith)) (none_from p (low + 1) n (λ k a b. all k (omega arith) (omega arith)))

pub hole_items : (blocks : ℕ → List ℕ) (levels holder address : ℕ) → address ≡ 0 → address_items blocks levels holder address ≡ []
unfolding address_items
hole_items blocks levels holder (suc b) e = absurd (omega arith)
hole_items blocks zero holder zero e = refl
hole_items blocks (suc levels) holder zero e = refl

pub hole_walks : (blocks : ℕ → List ℕ) (list : List ℕ) (levels holder address : ℕ) → address ≡ 0 → walked list (address_items blocks levels holder address) ≡ Ok list
unfolding walked
hole_walks blocks list levels holder address e = ap (walked list) (hole_items blocks levels holder address e)

pub part_items : (blocks : ℕ → List ℕ) (holder address : ℕ) → (address ≡ 0 → ⊥) → claim_items blocks holder 6 address ≡ address_items blocks 0 holder address
unfolding address_items
part_items blocks holder zero some = absurd (some refl)
part_items blocks holder (suc b) some = refl

-- the address of an index block that is no hole
module _ (blocks : ℕ → List ℕ) (holder address : ℕ) (list : List ℕ) where
  last_test : List Item
  last_test = Holds (leads_on blocks address) address 6 ∷ []

  head_whole : walked list (head_items blocks holder address) ≡ walked_on (walked list (claim_items blocks holder 6 address)) last_test
  unfolding last_test
  head_whole = walk_append list (claim_items blocks holder 6 address) last_test

  pub head_stops : (broken : Finding) → walked list (claim_items blocks holder 6 address) ≡ Err broken → walked list (head_items blocks holder address) ≡ Err broken
  head_stops broken h = head_whole ∙ ap (λ r. walked_on r last_test) h

  pub head_empty : (mid : List ℕ) → walked list (claim_items blocks holder 6 address) ≡ Ok mid → leads_on blocks address ≡ false → walked list (head_items blocks holder address) ≡ Err (record { block = address; rule = 6 })
  unfolding walked last_test
  head_empty mid h none = head_whole ∙ ap (λ r. walked_on r last_test) h ∙ rw (walked, none) refl

  pub head_done : (mid : List ℕ) → walked list (claim_items blocks holder 6 address) ≡ Ok mid → leads_on blocks address ≡ true → walked list (head_items blocks holder address) ≡ Ok mid
  unfolding walked last_test
  head_done mid h some = head_whole ∙ ap (λ r. walked_on r last_test) h ∙ rw (walked, some) refl

-- and what is under it
module _ (blocks : ℕ → List ℕ) (levels holder address : ℕ) (some : address ≡ 0 → ⊥) (list : List ℕ) where
  below_items : List Item
  below_items = each_from (λ place. address_items blocks levels address (index_entry (blocks address) place)) 0 128

  splits : (a : ℕ) → (a ≡ 0 → ⊥) → address_items blocks (suc levels) holder a ≡ head_items blocks holder a ++ each_from (λ place. address_items blocks levels a (index_entry (blocks a) place)) 0 128
  unfolding address_items
  splits zero apart = absurd (apart refl)
  splits (suc b) apart = refl

  whole : walked list (address_items blocks (suc levels) holder address) ≡ walked_on (walked list (head_items blocks holder address)) below_items
  unfolding below_items
  whole = ap (walked list) (splits address some) ∙ walk_append list (head_items blocks holder address) below_items

  pub stops_at : (broken : Finding) → walked list (head_items blocks holder address) ≡ Err broken → walked list (address_items blocks (suc levels) holder address) ≡ Err broken
  stops_at broken h = whole ∙ ap (λ r. walked_on r below_items) h

  pub goes_below : (mid : List ℕ) (answer : Result (List ℕ) Finding) → walked list (head_items blocks holder address) ≡ Ok mid
      → walked mid (each_from (λ place. address_items blocks levels address (index_entry (blocks address) place)) 0 128) ≡ answer → walked list (address_items blocks (suc levels) holder address) ≡ answer
  unfolding below_items
  goes_below mid answer h below = whole ∙ ap (λ r. walked_on r below_items) h ∙ below

-- one place more of an index block
pub more_under : (blocks : ℕ → List ℕ) (levels address : ℕ) (block list so after : List ℕ) (place entry : ℕ) → entry ≡ index_entry block place
    → walked list (each_from (λ p. address_items blocks levels address (index_entry block p)) 0 place) ≡ Ok so
    → walked so (address_items blocks levels address entry) ≡ Ok after → walked list (each_from (λ p. address_items blocks levels address (index_entry block p)) 0 (place + 1)) ≡ Ok after
more_under blocks levels address block list so after place entry is before here =
    each_more (λ p. address_items blocks levels address (index_entry block p)) list so after 0 place place (place + 1) (omega arith) (omega arith) before
    (ap (λ a. walked so (address_items blocks levels address a)) (sym is) ∙ here)

-- the places of an index block that was read, one after another
module _ (blocks : ℕ → List ℕ) (levels holder address : ℕ) (some : address ≡ 0 → ⊥) (list : List ℕ) (block : List ℕ) (same : block ≡ blocks address) (mid : List ℕ) (head : walked list (head_items blocks holder address) ≡ Ok mid) where
  abbrev place_items : ℕ → List Item
  place_items place = address_items blocks levels address (index_entry block place)

  all_places : (answer : Result (List ℕ) Finding) → walked mid (each_from place_items 0 128) ≡ answer → walked list (address_items blocks (suc levels) holder address) ≡ answer
  all_places answer h = goes_below blocks levels holder address some list mid answer head (subst (λ (b : List ℕ). walked mid (each_from (λ place. address_items blocks levels address (index_entry b place)) 0 128) ≡ answer) same h)

  pub stops_under : (so : List ℕ) (broken : Finding) (place entry : ℕ) → place < 128 → entry ≡ index_entry block place → walked mid (each_from place_items 0 place) ≡ Ok so
      → walked so (address_items blocks levels address entry) ≡ Err broken → walked list (address_items blocks (suc levels) holder address) ≡ Err broken
  stops_under so broken place entry low is before here = all_places (Err broken) (each_stops place_items mid so broken 0 place place 128 (omega arith) low before
      (ap (λ a. walked so (address_items blocks levels address a)) (sym is) ∙ here))

  pub done_under : (so : List ℕ) (place : ℕ) → place ≡ 128 → walked mid (each_from place_items 0 place) ≡ Ok so → walked list (address_items blocks (suc levels) holder address) ≡ Ok so
  done_under so place all h = all_places (Ok so) (ap (λ n. walked mid (each_from place_items 0 n)) (sym all) ∙ h)
