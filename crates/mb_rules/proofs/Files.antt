-- The addresses of all files, from those under each address of each inode.
use Rattle.std.proofs.Common.{◌≡◌, inl, inr, ℕ, zero, suc, ◌+◌, ◌-◌, ◌<◌, ◌≤◌, List, [], ◌∷◌, ◌++◌, Bool, true, false, not, nat_eq, if◌then◌else◌, Some, is_some, refl, sym, ap, subst, ◌∙◌, arith}
use Rattle.std.specs.List.{IsDistinct}
use Rattle.std.proofs.lemmas.Bool.Decides.{nat_tests, eqb_tells, leb_tells}
use Rattle.mb_word.specs.Fields.{isize_of, inode_block, inode_place, address_of, index_entry}
use Rattle.mb_tree.specs.Blocks.{pointers}
use Rattle.mb_tree.specs.Counting.{any_from, first_from}
use Rattle.mb_tree.specs.Inodes.{is_special, is_directory}
use Rattle.mb_tree.specs.Places.{Place, Top, Under, at, level, IsPlace}
use Rattle.mb_tree.specs.Volume.{LeadsOn, last_inode}
use Rattle.mb_rules.specs.Items.{Item, Holds, is_met}
use Rattle.mb_rules.specs.FreeChain.{is_open}
use Rattle.mb_rules.specs.Files.{mode_at, size_at, is_kind, is_size, are_parts, leads_on, address_items, area_items, inode_items, files_items}
use Rattle.mb_rules.specs.FilesLaws.{is_addressed, AreAddressed, HoldsApart, FilesAccept}
use Rattle.mb_rules.proofs.Walks.{AllHold, met_after, met_append, hold_left, hold_each, once_before, both, walk_holds, walk_once}
use Rattle.mb_rules.proofs.Chains.{open_is}
use Rattle.mb_rules.proofs.Ways.{claimed, claimed_left, claimed_each, claimed_new, once_at, one_claims, IsWay, follow, left, claims_way, hold_way, one_way}

-- ---- a place is a way from an inode's own address

abbrev pub extend : Place → List ℕ → Place
extend p [] = p
extend p (k ∷ ks) = extend (Under p k) ks

way_more : (levels : ℕ) (ks : List ℕ) (k : ℕ) → IsWay levels ks → 0 < left (λ b. []) levels ks → k < 128 → IsWay levels (ks ++ (k ∷ []))
way_more zero [] k way some small = absurd (omega arith)
way_more (suc levels) [] k way some small = (small, tt)
way_more zero (j ∷ js) k way some small = absurd way
way_more (suc levels) (j ∷ js) k way some small = (way.0, way_more levels js k way.1 some small)

left_more : (levels : ℕ) (ks : List ℕ) (k : ℕ) → left (λ b. []) levels (ks ++ (k ∷ [])) ≡ left (λ b. []) levels ks - 1
left_more zero [] k = refl
left_more (suc levels) [] k = omega arith
left_more zero (j ∷ js) k = refl
left_more (suc levels) (j ∷ js) k = left_more levels js k

extend_more : (p : Place) (ks : List ℕ) (k : ℕ) → extend p (ks ++ (k ∷ [])) ≡ Under (extend p ks) k
extend_more p [] k = refl
extend_more p (j ∷ js) k = extend_more (Under p j) js k

module _ (blocks : ℕ → List ℕ) where
  abbrev pub own : ℕ → ℕ → ℕ
  own ino place = address_of (blocks (inode_block ino)) (inode_place ino) place

  pub at_extended : (p : Place) (ks : List ℕ) → at (pointers blocks) (extend p ks) ≡ follow blocks (at (pointers blocks) p) ks
  at_extended p [] = refl
  at_extended p (k ∷ ks) = at_extended (Under p k) ks

  -- the way to a place
  pub record Route (has : ℕ → Bool) (q : Place) : Type 0 where
    pub ino : ℕ
    pub place : ℕ
    pub ways : List ℕ
    pub addressed : has ino ≡ true
    pub small : place < 13
    pub way : IsWay (place - 9) ways
    pub ends : extend (Top ino place) ways ≡ q
    pub levels : left blocks (place - 9) ways ≡ level q

  pub route : (has : ℕ → Bool) (q : Place) → IsPlace has q → Route has q
  route has (Top ino place) is = record { ino = ino; place = place; ways = []; addressed = is.0; small = is.1; way = tt; ends = refl; levels = refl }
  route has (Under above k) is =
      let up = route has above is.0 in
      let levels = up.levels in
      let deep = is.1 in
      record {
        ino = up.ino;
        place = up.place;
        ways = up.ways ++ (k ∷ []);
        addressed = up.addressed;
        small = up.small;
        way = way_more (up.place - 9) up.ways k up.way (subst (λ l. 0 < l) (sym levels) deep) is.2;
        ends = extend_more (Top up.ino up.place) up.ways k ∙ ap (λ p. Under p k) up.ends;
        levels = left_more (up.place - 9) up.ways k ∙ ap (λ l. l - 1) levels;
      }

  abbrev pub own_items : ℕ → ℕ → List Item
  own_items ino place = address_items blocks (place - 9) (inode_block ino) (own ino place)

  abbrev pub last_items : ℕ → List Item
  last_items ino = if is_directory (mode_at blocks ino) then Holds (are_parts blocks ino) (inode_block ino) 8 ∷ [] else []

  pub not_false : (b : Bool) → not b ≡ true → b ≡ false
  not_false true h = absurd (cc)
  not_false false h = refl

  pub inode_splits : (ino : ℕ) → is_addressed blocks ino ≡ true
      → inode_items blocks ino ≡ Holds (is_kind (mode_at blocks ino)) (inode_block ino) 5 ∷ Holds (is_size (mode_at blocks ino) (size_at blocks ino)) (inode_block ino) 8 ∷ (area_items blocks ino ++ last_items ino)
  inode_splits ino h =
      let two = both (not (nat_eq (mode_at blocks ino) 0)) (not (is_special (mode_at blocks ino))) h in
      let used : nat_eq (mode_at blocks ino) 0 ≡ false = not_false _ two.0 in
      let plain : is_special (mode_at blocks ino) ≡ false = not_false _ two.1 in
      rw (used, plain) refl

  area_holds : (ino : ℕ) → is_addressed blocks ino ≡ true → AllHold (inode_items blocks ino) → AllHold (area_items blocks ino)
  area_holds ino h all = hold_left (area_items blocks ino) (last_items ino) (subst AllHold (inode_splits ino h) all).1.1

  area_claims : (ino x : ℕ) → is_addressed blocks ino ≡ true → claimed (area_items blocks ino) x ≡ true → claimed (inode_items blocks ino) x ≡ true
  area_claims ino x h is = subst (λ items. claimed items x ≡ true) (sym (inode_splits ino h)) (claimed_left (area_items blocks ino) (last_items ino) x is)

  area_once : (ino : ℕ) (met : List ℕ) → is_addressed blocks ino ≡ true → IsDistinct nat_eq (met_after met (inode_items blocks ino)) → IsDistinct nat_eq (met_after met (area_items blocks ino))
  area_once ino met h once =
      let whole : IsDistinct nat_eq (met_after met (area_items blocks ino ++ last_items ino)) = subst (λ items. IsDistinct nat_eq (met_after met items)) (inode_splits ino h) once in
      once_before (met_after met (area_items blocks ino)) (last_items ino) (subst (IsDistinct nat_eq) (met_append met (area_items blocks ino) (last_items ino)) whole)

-- a search that finds says where
pub found_from : (passes : ℕ → Bool) (low n : ℕ) → any_from passes low n ≡ true → (k : ℕ) × (low ≤ k) × (k < low + n) × (passes k ≡ true)
unfolding first_from
found_from passes low zero h = absurd (cc)
found_from passes low (suc n) h =
    elim (passes low) as (λ b. passes low ≡ b → is_some (if b then Some low else first_from passes (low + 1) n) ≡ true → (k : ℕ) × (low ≤ k) × (k < low + suc n) × (passes k ≡ true)) [
      | true ↦ λ here is. (low, omega arith, omega arith, here)
      | false ↦ λ past is.
          let more = found_from passes (low + 1) n is in
          let from = more.1 in
          let below = more.2 in
          (more.0, omega arith, omega arith, more.3)
    ] refl h

hold_open : (blocks : ℕ → List ℕ) (levels holder address : ℕ) → AllHold (address_items blocks levels holder address) → 0 < address → is_open blocks address ≡ true
unfolding address_items
hold_open blocks levels holder zero all some = absurd (omega arith)
hold_open blocks zero holder (suc b) all some = all.0
hold_open blocks (suc levels) holder (suc b) all some = all.0

hold_leads : (blocks : ℕ → List ℕ) (levels holder address : ℕ) → AllHold (address_items blocks levels holder address) → 0 < address → 0 < levels → leads_on blocks address ≡ true
unfolding address_items
hold_leads blocks levels holder zero all some deep = absurd (omega arith)
hold_leads blocks zero holder (suc b) all some deep = absurd (omega arith)
hold_leads blocks (suc levels) holder (suc b) all some deep = all.1.0

module _ (blocks : ℕ → List ℕ) (has : ℕ → Bool) (met : List ℕ) (low : 3 ≤ isize_of (blocks 1)) (are : AreAddressed blocks has)
    (all : AllHold (files_items blocks)) (once : IsDistinct nat_eq (met_after met (files_items blocks))) where
  route_at : (q : Place) (is : IsPlace has q) → at (pointers blocks) q ≡ follow blocks (own blocks (route blocks has q is).ino (route blocks has q is).place) (route blocks has q is).ways
  route_at q is = let to = route blocks has q is in ap (at (pointers blocks)) (sym to.ends) ∙ at_extended blocks (Top to.ino to.place) to.ways

  held_at : (q : Place) → IsPlace has q → 0 < at (pointers blocks) q → (last : ℕ) × AllHold (address_items blocks (level q) last (at (pointers blocks) q))
  held_at q is some =
      let to = route blocks has q is in
      let of = (are to.ino).0 to.addressed in
      let items = hold_each (inode_items blocks) 1 (last_inode blocks) all to.ino of.0 (let most = of.1 in omega arith) in
      let own_all = hold_each (own_items blocks to.ino) 0 13 (area_holds blocks to.ino of.2 items) to.place (omega arith) (let small = to.small in omega arith) in
      let leads = route_at q is in
      let end = hold_way blocks to.ways (to.place - 9) (inode_block to.ino) (own blocks to.ino to.place) to.way (omega arith) own_all in
      (end.0, subst (λ a. AllHold (address_items blocks (level q) end.0 a)) (sym leads) (subst (λ l. AllHold (address_items blocks l end.0 (follow blocks (own blocks to.ino to.place) to.ways))) to.levels end.1))

  claims_at : (q : Place) (is : IsPlace has q) → 0 < at (pointers blocks) q → claimed (own_items blocks (route blocks has q is).ino (route blocks has q is).place) (at (pointers blocks) q) ≡ true
  claims_at q is some =
      let to = route blocks has q is in
      let leads = route_at q is in
      subst (λ x. claimed (own_items blocks to.ino to.place) x ≡ true) (sym leads) (claims_way blocks to.ways (to.place - 9) (inode_block to.ino) (own blocks to.ino to.place) to.way (omega arith))

  claims_inode : (q : Place) (is : IsPlace has q) → 0 < at (pointers blocks) q → claimed (inode_items blocks (route blocks has q is).ino) (at (pointers blocks) q) ≡ true
  claims_inode q is some =
      let to = route blocks has q is in
      let of = (are to.ino).0 to.addressed in
      area_claims blocks to.ino (at (pointers blocks) q) of.2 (claimed_each (own_items blocks to.ino) 0 13 to.place (at (pointers blocks) q) (omega arith) (let small = to.small in omega arith) (claims_at q is some))

  apart_at : (q : Place) → IsPlace has q → 0 < at (pointers blocks) q → is_met met (at (pointers blocks) q) ≡ false
  apart_at q is some =
      let to = route blocks has q is in
      let of = (are to.ino).0 to.addressed in
      claimed_new (files_items blocks) met (at (pointers blocks) q) once (claimed_each (inode_items blocks) 1 (last_inode blocks) to.ino (at (pointers blocks) q) of.0 (let most = of.1 in omega arith) (claims_inode q is some))

  -- two inodes, or two of the thirteen addresses of one, do not claim the same
  one_inode : (i j x : ℕ) → has i ≡ true → has j ≡ true → claimed (inode_items blocks i) x ≡ true → claimed (inode_items blocks j) x ≡ true → i < j → ⊥
  one_inode i j x hi hj one two less =
      let from = ((are i).0 hi).0 in
      let below = ((are j).0 hj).1 in
      one_claims (inode_items blocks) 1 (last_inode blocks) i j x met from less (omega arith) once one two

  one_place : (ino p r x : ℕ) → has ino ≡ true → r < 13 → claimed (own_items blocks ino p) x ≡ true → claimed (own_items blocks ino r) x ≡ true → p < r → ⊥
  one_place ino p r x h small one two less =
      let of = (are ino).0 h in
      let inode = once_at (inode_items blocks) 1 (last_inode blocks) ino met of.0 (let most = of.1 in omega arith) once in
      one_claims (own_items blocks ino) 0 13 p r x inode.0 (omega arith) less (omega arith) (area_once blocks ino inode.0 of.2 inode.1) one two

  same_ways : (ino place : ℕ) (ks js : List ℕ) → has ino ≡ true → place < 13 → IsWay (place - 9) ks → IsWay (place - 9) js → 0 < follow blocks (own blocks ino place) ks → follow blocks (own blocks ino place) ks ≡ follow blocks (own blocks ino place) js → ks ≡ js
  same_ways ino place ks js h small way other some same =
      let of = (are ino).0 h in
      let inode = once_at (inode_items blocks) 1 (last_inode blocks) ino met of.0 (let most = of.1 in omega arith) once in
      let one = once_at (own_items blocks ino) 0 13 place inode.0 (omega arith) (omega arith) (area_once blocks ino inode.0 of.2 inode.1) in
      one_way blocks ks js (place - 9) (inode_block ino) (own blocks ino place) one.0 one.1 way other some same

  once_places : (q r : Place) → IsPlace has q → IsPlace has r → 0 < at (pointers blocks) q → at (pointers blocks) q ≡ at (pointers blocks) r → q ≡ r
  once_places q r is other some same =
      let to = route blocks has q is in
      let on = route blocks has r other in
      let x : ℕ = at (pointers blocks) q in
      let claim_q = claims_at q is some in
      let claim_r = subst (λ y. claimed (own_items blocks on.ino on.place) y ≡ true) (sym same) (claims_at r other (omega arith)) in
      let node_q = claims_inode q is some in
      let node_r = subst (λ y. claimed (inode_items blocks on.ino) y ≡ true) (sym same) (claims_inode r other (omega arith)) in
      elim (eqb_tells to.ino on.ino) [
        | inl inodes ↦ elim (eqb_tells to.place on.place) [
          | inl places ↦
              let way_r : IsWay (to.place - 9) on.ways = subst (λ p. IsWay (p - 9) on.ways) (sym places.1) on.way in
              let leads_r : at (pointers blocks) r ≡ follow blocks (own blocks to.ino to.place) on.ways =
              route_at r other ∙ (λ i. follow blocks (own blocks (sym inodes.1 i) (sym places.1 i)) on.ways) in
              let leads_q = route_at q is in
              let ways : to.ways ≡ on.ways = same_ways to.ino to.place to.ways on.ways to.addressed to.small to.way way_r (omega arith) (sym leads_q ∙ same ∙ leads_r) in
              sym to.ends ∙ (λ i. extend (Top (inodes.1 i) (places.1 i)) (ways i)) ∙ on.ends
          | inr apart ↦
              let claim_s = subst (λ i. claimed (own_items blocks i on.place) x ≡ true) (sym inodes.1) claim_r in
              absurd (elim (leb_tells to.place on.place) [
                | inl less ↦ one_place to.ino to.place on.place x to.addressed on.small claim_q claim_s (let a = apart.1 in let l = less.1 in omega arith)
                | inr more ↦ one_place to.ino on.place to.place x to.addressed to.small claim_s claim_q more.1
              ])
        ]
        | inr apart ↦ absurd (elim (leb_tells to.ino on.ino) [
          | inl less ↦ one_inode to.ino on.ino x to.addressed on.addressed node_q node_r (let a = apart.1 in let l = less.1 in omega arith)
          | inr more ↦ one_inode on.ino to.ino x on.addressed to.addressed node_r node_q more.1
        ])
      ]

  leads_at : (q : Place) → IsPlace has q → 0 < level q → 0 < at (pointers blocks) q → LeadsOn blocks (at (pointers blocks) q)
  leads_at q is deep some =
      let here = held_at q is some in
      let found = found_from (λ place. not (nat_eq (index_entry (blocks (at (pointers blocks) q)) place) 0)) 0 128 (hold_leads blocks (level q) here.0 (at (pointers blocks) q) here.1 some deep) in
      let below = found.2 in
      let entry : nat_eq (index_entry (blocks (at (pointers blocks) q)) found.0) 0 ≡ false = not_false blocks _ found.3 in
      (found.0, omega arith, λ e. grind (arith, nat_tests))

  pub holds_apart : HoldsApart blocks has met
  holds_apart = record {
    in_range = λ q is some. let here = held_at q is some in open_is blocks low (at (pointers blocks) q) (hold_open blocks (level q) here.0 (at (pointers blocks) q) here.1 some);
    once = once_places;
    leads_on = leads_at;
    apart = apart_at;
  }

pub files_accept : FilesAccept
files_accept blocks has met after low are once h =
    holds_apart blocks has met low are (walk_holds met (files_items blocks) after h).0 (walk_once met (files_items blocks) after h once)
