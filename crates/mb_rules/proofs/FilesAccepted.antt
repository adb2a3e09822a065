-- Files that hold blocks, each once, are gone through.
use Rattle.std.proofs.Common.{◌≡◌, inl, inr, ℕ, zero, suc, ◌+◌, ◌-◌, ◌<◌, ◌≤◌, List, [], ◌∷◌, ◌++◌, Bool, true, false, not, ◌||◌, ◌&&◌, nat_eq, if◌then◌else◌, Some, is_some, refl, sym, ap, subst, ◌∙◌, arith, append_assoc}
use Rattle.std.specs.List.{IsDistinct}
use Rattle.std.proofs.lemmas.List.{append-nil}
use Rattle.std.proofs.lemmas.Bool.Decides.{nat_tests, eqb_tells}
use Rattle.mb_word.specs.Fields.{isize_of, inode_block, index_entry}
use Rattle.mb_tree.specs.Blocks.{entry_in, pointers}
use Rattle.mb_tree.specs.Counting.{any_from, first_from}
use Rattle.mb_tree.specs.Inodes.{is_special, is_directory}
use Rattle.mb_tree.specs.Places.{Place, Top, Under, at, level, IsPlace}
use Rattle.mb_tree.specs.Volume.{IsOpenToFiles, LeadsOn, last_inode}
use Rattle.mb_rules.specs.Items.{Item, Holds, Held, is_met, each_from}
use Rattle.mb_rules.specs.FreeChain.{is_open}
use Rattle.mb_rules.specs.Files.{mode_at, size_at, is_kind, is_size, are_parts, leads_on, address_items, area_items, inode_items, files_items}
use Rattle.mb_rules.specs.FilesLaws.{is_addressed, AreAddressed, HoldsApart, KeepKinds, FilesWalk, FilesAccepted}
use Rattle.mb_rules.proofs.Walks.{AllHold, met_after, met_append, hold_append, each_hold, walks}
use Rattle.mb_rules.proofs.Chains.{is_open_to}
use Rattle.mb_rules.proofs.Ways.{claimed, claimed_split, or_true, met_from, each_claims, claims_way, way_claims, IsWay, follow, left, under, once_way}
use Rattle.mb_rules.proofs.Files.{extend, own, own_items, at_extended}

-- ---- items that claim each address once

abbrev pub IsOnce : List Item → Type 0
IsOnce items = (met : List ℕ) → IsDistinct nat_eq met → ((x : ℕ) → claimed items x ≡ true → is_met met x ≡ false) → IsDistinct nat_eq (met_after met items)

pub not_true : (b : Bool) → (b ≡ true → ⊥) → b ≡ false
not_true true never = absurd (never refl)
not_true false never = refl

claim_left : (xs ys : List Item) (x : ℕ) → claimed xs x ≡ true → claimed (xs ++ ys) x ≡ true
claim_left [] ys x h = absurd (cc)
claim_left (Holds test block rule ∷ xs) ys x h = claim_left xs ys x h
claim_left (Held address ∷ xs) ys x h =
    elim (or_true (nat_eq x address) (claimed xs x) h) [ inl here ↦ rw here refl | inr later ↦ or_also (nat_eq x address) _ (claim_left xs ys x later) ]
  where
    or_also : (a b : Bool) → b ≡ true → (a || b) ≡ true
    or_also true b h = refl
    or_also false b h = h

claim_right : (xs ys : List Item) (x : ℕ) → claimed ys x ≡ true → claimed (xs ++ ys) x ≡ true
claim_right [] ys x h = h
claim_right (Holds test block rule ∷ xs) ys x h = claim_right xs ys x h
claim_right (Held address ∷ xs) ys x h = or_also (nat_eq x address) _ (claim_right xs ys x h)
  where
    or_also : (a b : Bool) → b ≡ true → (a || b) ≡ true
    or_also true b h = refl
    or_also false b h = h

once_append : (xs ys : List Item) → IsOnce xs → IsOnce ys → ((x : ℕ) → claimed xs x ≡ true → claimed ys x ≡ true → ⊥) → IsOnce (xs ++ ys)
once_append xs ys one two apart met once new =
    subst (IsDistinct nat_eq) (sym (met_append met xs ys)) (two (met_after met xs) (one met once (λ x h. new x (claim_left xs ys x h))) (λ x h.
    not_true (is_met (met_after met xs) x) (λ is. elim (met_from xs met x is) [
      | inl first ↦ apart x first h
      | inr before ↦ let fresh = new x (claim_right xs ys x h) in let wrong : true ≡ false = sym before ∙ fresh in cc
    ])))

once_family : (items : ℕ → List Item) (low n : ℕ) → ((k : ℕ) → low ≤ k → k < low + n → IsOnce (items k))
    → ((j k x : ℕ) → low ≤ j → j < k → k < low + n → claimed (items j) x ≡ true → claimed (items k) x ≡ true → ⊥) → IsOnce (each_from items low n)
unfolding each_from
once_family items low zero each apart met once new = once
once_family items low (suc n) each apart met once new =
    once_append (items low) (each_from items (low + 1) n) (each low (omega arith) (omega arith))
    (once_family items (low + 1) n (λ k a b. each k (omega arith) (omega arith)) (λ j k x a b c. apart j k x (omega arith) b (omega arith)))
    (λ x one two.
    let later = each_claims items (low + 1) n x two in
    let from = later.from in
    let below = later.below in
    apart low later.number x (omega arith) (omega arith) (omega arith) one later.claims)
    met once new

-- ---- places by their ways

abbrev ino_of : Place → ℕ
ino_of (Top ino place) = ino
ino_of (Under above k) = ino_of above

abbrev top_of : Place → ℕ
top_of (Top ino place) = place
top_of (Under above k) = top_of above

abbrev ways_of : Place → List ℕ
ways_of (Top ino place) = []
ways_of (Under above k) = ways_of above ++ (k ∷ [])

ino_extended : (p : Place) (ks : List ℕ) → ino_of (extend p ks) ≡ ino_of p
ino_extended p [] = refl
ino_extended p (k ∷ ks) = ino_extended (Under p k) ks

top_extended : (p : Place) (ks : List ℕ) → top_of (extend p ks) ≡ top_of p
top_extended p [] = refl
top_extended p (k ∷ ks) = top_extended (Under p k) ks

ways_extended : (p : Place) (ks : List ℕ) → ways_of (extend p ks) ≡ ways_of p ++ ks
ways_extended p [] = sym (append-nil (ways_of p))
ways_extended p (k ∷ ks) = ways_extended (Under p k) ks ∙ append_assoc (ways_of p) (k ∷ []) ks

level_extended : (blocks : ℕ → List ℕ) (p : Place) (levels : ℕ) (ks : List ℕ) → level p ≡ levels → IsWay levels ks → level (extend p ks) ≡ left blocks levels ks
level_extended blocks p levels [] same way = same
level_extended blocks p zero (k ∷ ks) same way = absurd way
level_extended blocks p (suc levels) (k ∷ ks) same way = level_extended blocks (Under p k) levels ks (omega arith) way.1

pub place_extended : (has : ℕ → Bool) (p : Place) (levels : ℕ) (ks : List ℕ) → level p ≡ levels → IsPlace has p → IsWay levels ks → IsPlace has (extend p ks)
place_extended has p levels [] same is way = is
place_extended has p zero (k ∷ ks) same is way = absurd way
place_extended has p (suc levels) (k ∷ ks) same is way = place_extended has (Under p k) levels ks (omega arith) (is, omega arith, way.0) way.1

-- ---- the tests of one address

pub record KeepsWays (blocks : ℕ → List ℕ) (levels address : ℕ) : Type 0 where
  pub open_ways : (ks : List ℕ) → IsWay levels ks → 0 < follow blocks address ks → is_open blocks (follow blocks address ks) ≡ true
  pub leading : (ks : List ℕ) → IsWay levels ks → 0 < left blocks levels ks → 0 < follow blocks address ks → leads_on blocks (follow blocks address ks) ≡ true

ways_hold : (blocks : ℕ → List ℕ) (levels holder address : ℕ) → KeepsWays blocks levels address → AllHold (address_items blocks levels holder address)
unfolding address_items entry_in
ways_hold blocks levels holder zero keeps = tt
ways_hold blocks zero holder (suc b) keeps = (keeps.open_ways [] tt (omega arith), tt)
ways_hold blocks (suc levels) holder (suc b) keeps = (
  keeps.open_ways [] tt (omega arith),
  (
    keeps.leading [] tt (omega arith) (omega arith),
    each_hold (under blocks levels (suc b)) 0 128 (λ k a c.
        ways_hold blocks levels (suc b) (index_entry (blocks (suc b)) k) (record {
          open_ways = λ ks way some. keeps.open_ways (k ∷ ks) (omega arith, way) some;
          leading = λ ks way deep some. keeps.leading (k ∷ ks) (omega arith, way) deep some;
        })),
  ),
)

-- ---- the items of one inode

pub found_yes : (passes : ℕ → Bool) (low n k : ℕ) → low ≤ k → k < low + n → passes k ≡ true → any_from passes low n ≡ true
unfolding first_from
found_yes passes low zero k a b h = absurd (omega arith)
found_yes passes low (suc n) k a b h =
    elim (passes low) as (λ t. passes low ≡ t → is_some (if t then Some low else first_from passes (low + 1) n) ≡ true) [
      | true ↦ λ here. refl
      | false ↦ λ past. found_yes passes (low + 1) n k (elim (eqb_tells low k) [
        | inl same ↦ absurd (let wrong : passes low ≡ true = subst (λ j. passes j ≡ true) (sym same.1) h in let both : true ≡ false = sym wrong ∙ past in cc)
        | inr apart ↦ let other = apart.1 in omega arith
      ]) (omega arith) h
    ] refl

module _ (blocks : ℕ → List ℕ) (ino : ℕ) where
  abbrev shaped : Bool → Bool → Bool → List Item
  shaped unused special directory =
      if unused then []
      else Holds (is_kind (mode_at blocks ino)) (inode_block ino) 5
      ∷ Holds (is_size (mode_at blocks ino) (size_at blocks ino)) (inode_block ino) 8
      ∷ ((if special then [] else area_items blocks ino) ++ (if directory then Holds (are_parts blocks ino) (inode_block ino) 8 ∷ [] else []))

  shape_claims : (unused special directory : Bool) (x : ℕ) → claimed (shaped unused special directory) x ≡ true → ((not unused && not special) ≡ true) × (claimed (area_items blocks ino) x ≡ true)
  shape_claims true special directory x h = absurd (cc)
  shape_claims false true true x h = absurd (cc)
  shape_claims false true false x h = absurd (cc)
  shape_claims false false true x h = (refl, elim (claimed_split (area_items blocks ino) (Holds (are_parts blocks ino) (inode_block ino) 8 ∷ []) x h) [ inl first ↦ first | inr wrong ↦ absurd (cc) ])
  shape_claims false false false x h = (refl, elim (claimed_split (area_items blocks ino) [] x h) [ inl first ↦ first | inr wrong ↦ absurd (cc) ])

  shape_once : (unused special directory : Bool) → ((not unused && not special) ≡ true → IsOnce (area_items blocks ino)) → IsOnce (shaped unused special directory)
  shape_once true special directory area met once new = once
  shape_once false true true area met once new = once
  shape_once false true false area met once new = once
  shape_once false false true area met once new = once_append (area_items blocks ino) (Holds (are_parts blocks ino) (inode_block ino) 8 ∷ []) (area refl) (λ other distinct none. distinct) (λ x one two. cc) met once new
  shape_once false false false area met once new = once_append (area_items blocks ino) [] (area refl) (λ other distinct none. distinct) (λ x one two. cc) met once new

  shape_holds : (unused special directory : Bool) → (unused ≡ false → (is_kind (mode_at blocks ino) ≡ true) × (is_size (mode_at blocks ino) (size_at blocks ino) ≡ true) × (directory ≡ true → are_parts blocks ino ≡ true))
      → ((not unused && not special) ≡ true → AllHold (area_items blocks ino)) → AllHold (shaped unused special directory)
  shape_holds true special directory kinds area = tt
  shape_holds false true true kinds area = let k = kinds refl in (k.0, (k.1, (k.2 refl, tt)))
  shape_holds false true false kinds area = let k = kinds refl in (k.0, (k.1, tt))
  shape_holds false false true kinds area = let k = kinds refl in (k.0, (k.1, hold_append (area_items blocks ino) _ (area refl) (k.2 refl, tt)))
  shape_holds false false false kinds area = let k = kinds refl in (k.0, (k.1, hold_append (area_items blocks ino) _ (area refl) tt))

-- ---- all files

module _ (blocks : ℕ → List ℕ) (has : ℕ → Bool) (met : List ℕ) (low : 3 ≤ isize_of (blocks 1)) (are : AreAddressed blocks has) (kinds : KeepKinds blocks) (holds : HoldsApart blocks has met) where
  abbrev spot : ℕ → ℕ → List ℕ → Place
  spot ino place ks = extend (Top ino place) ks

  spot_is : (ino place : ℕ) (ks : List ℕ) → has ino ≡ true → place < 13 → IsWay (place - 9) ks → IsPlace has (spot ino place ks)
  spot_is ino place ks h small way = place_extended has (Top ino place) (place - 9) ks refl (h, small) way

  spot_at : (ino place : ℕ) (ks : List ℕ) → at (pointers blocks) (spot ino place ks) ≡ follow blocks (own blocks ino place) ks
  spot_at ino place ks = at_extended blocks (Top ino place) ks

  one_spot : (i j p r : ℕ) (ks js : List ℕ) → has i ≡ true → has j ≡ true → p < 13 → r < 13 → IsWay (p - 9) ks → IsWay (r - 9) js
      → 0 < follow blocks (own blocks i p) ks → follow blocks (own blocks i p) ks ≡ follow blocks (own blocks j r) js → spot i p ks ≡ spot j r js
  one_spot i j p r ks js hi hj sp sr way other some same =
      let one = spot_at i p ks in
      let two = spot_at j r js in
      holds.once (spot i p ks) (spot j r js) (spot_is i p ks hi sp way) (spot_is j r js hj sr other) (omega arith) (one ∙ same ∙ sym two)

  keeps_ways : (ino place : ℕ) → has ino ≡ true → place < 13 → KeepsWays blocks (place - 9) (own blocks ino place)
  keeps_ways ino place h small = record {
    open_ways = λ ks way some.
        let leads = spot_at ino place ks in
        let within = holds.in_range (spot ino place ks) (spot_is ino place ks h small way) (omega arith) in
        is_open_to blocks low (follow blocks (own blocks ino place) ks) (subst (IsOpenToFiles blocks) leads within);
    leading = λ ks way deep some.
        let leads = spot_at ino place ks in
        let levels = level_extended blocks (Top ino place) (place - 9) ks refl way in
        let entry = subst (LeadsOn blocks) leads (holds.leads_on (spot ino place ks) (spot_is ino place ks h small way) (omega arith) (omega arith)) in
        let below = entry.1 in
        let some_entry = entry.2 in
        let test : nat_eq (index_entry (blocks (follow blocks (own blocks ino place) ks)) entry.0) 0 ≡ false = grind (arith, nat_tests) in
        found_yes (λ k. not (nat_eq (index_entry (blocks (follow blocks (own blocks ino place) ks)) k) 0)) 0 128 entry.0 (omega arith) (omega arith) (rw test refl);
  }

  once_own : (ino place : ℕ) → has ino ≡ true → place < 13 → IsOnce (own_items blocks ino place)
  once_own ino place h small other distinct new = once_way blocks (place - 9) (inode_block ino) (own blocks ino place) other distinct (record {
    new = λ ks way some. new (follow blocks (own blocks ino place) ks) (claims_way blocks ks (place - 9) (inode_block ino) (own blocks ino place) way some);
    once = λ ks js way away some same.
        sym (ways_extended (Top ino place) ks) ∙ ap ways_of (one_spot ino ino place place ks js h h small small way away some same) ∙ ways_extended (Top ino place) js;
  })

  once_area : (ino : ℕ) → has ino ≡ true → IsOnce (area_items blocks ino)
  once_area ino h = once_family (own_items blocks ino) 0 13 (λ place a b. once_own ino place h (omega arith)) (λ j k x a b c one two.
      let left_way = way_claims blocks (j - 9) (inode_block ino) (own blocks ino j) x one in
      let right_way = way_claims blocks (k - 9) (inode_block ino) (own blocks ino k) x two in
      let some = left_way.some in
      let leads = left_way.leads in
      let same = one_spot ino ino j k left_way.places right_way.places h h (omega arith) (omega arith) left_way.way right_way.way (omega arith) (leads ∙ sym right_way.leads) in
      let tops : j ≡ k = sym (top_extended (Top ino j) left_way.places) ∙ ap top_of same ∙ top_extended (Top ino k) right_way.places in
      omega arith)

  addressed : (ino : ℕ) → 1 ≤ ino → ino < 1 + last_inode blocks → is_addressed blocks ino ≡ true → has ino ≡ true
  addressed ino a b is = (are ino).1 (a, omega arith, is)

  pub hold_files : AllHold (files_items blocks)
  hold_files = each_hold (inode_items blocks) 1 (last_inode blocks) (λ ino a b.
      shape_holds blocks ino (nat_eq (mode_at blocks ino) 0) (is_special (mode_at blocks ino)) (is_directory (mode_at blocks ino))
      (λ used. let rules = kinds ino a (omega arith) used in (rules.kind, rules.size, rules.parts))
      (λ is. each_hold (own_items blocks ino) 0 13 (λ place c d. ways_hold blocks (place - 9) (inode_block ino) (own blocks ino place) (keeps_ways ino place (addressed ino a b is) (omega arith)))))

  pub once_files : IsOnce (files_items blocks)
  once_files = once_family (inode_items blocks) 1 (last_inode blocks)
      (λ ino a b. shape_once blocks ino (nat_eq (mode_at blocks ino) 0) (is_special (mode_at blocks ino)) (is_directory (mode_at blocks ino)) (λ is. once_area ino (addressed ino a b is)))
      (λ i j x a b c one two.
      let first = shape_claims blocks i (nat_eq (mode_at blocks i) 0) (is_special (mode_at blocks i)) (is_directory (mode_at blocks i)) x one in
      let second = shape_claims blocks j (nat_eq (mode_at blocks j) 0) (is_special (mode_at blocks j)) (is_directory (mode_at blocks j)) x two in
      let here = each_claims (own_items blocks i) 0 13 x first.1 in
      let there = each_claims (own_items blocks j) 0 13 x second.1 in
      let hi = addressed i a (omega arith) first.0 in
      let hj = addressed j (omega arith) c second.0 in
      let left_way = way_claims blocks (here.number - 9) (inode_block i) (own blocks i here.number) x here.claims in
      let right_way = way_claims blocks (there.number - 9) (inode_block j) (own blocks j there.number) x there.claims in
      let some = left_way.some in
      let leads = left_way.leads in
      let small = here.below in
      let little = there.below in
      let same = one_spot i j here.number there.number left_way.places right_way.places hi hj (omega arith) (omega arith) left_way.way right_way.way (omega arith) (leads ∙ sym right_way.leads) in
      let inodes : i ≡ j = sym (ino_extended (Top i here.number) left_way.places) ∙ ap ino_of same ∙ ino_extended (Top j there.number) right_way.places in
      omega arith)

  -- what the files claim was not met before
  new_files : (x : ℕ) → claimed (files_items blocks) x ≡ true → is_met met x ≡ false
  new_files x h =
      let node = each_claims (inode_items blocks) 1 (last_inode blocks) x h in
      let i : ℕ = node.number in
      let first = shape_claims blocks i (nat_eq (mode_at blocks i) 0) (is_special (mode_at blocks i)) (is_directory (mode_at blocks i)) x node.claims in
      let here = each_claims (own_items blocks i) 0 13 x first.1 in
      let hi = addressed i node.from node.below first.0 in
      let way = way_claims blocks (here.number - 9) (inode_block i) (own blocks i here.number) x here.claims in
      let some = way.some in
      let small = here.below in
      let leads = spot_at i here.number way.places ∙ way.leads in
      subst (λ y. is_met met y ≡ false) leads (holds.apart (spot i here.number way.places) (spot_is i here.number way.places hi (omega arith) way.way) (omega arith))

  pub walks_files : IsDistinct nat_eq met → FilesWalk blocks met
  walks_files once =
      let distinct = once_files met once new_files in
      record { after = met_after met (files_items blocks); walks = walks met (files_items blocks) hold_files distinct; once = distinct }

pub files_accepted : FilesAccepted
files_accepted blocks has met low are once kinds holds = walks_files blocks has met low are kinds holds once
