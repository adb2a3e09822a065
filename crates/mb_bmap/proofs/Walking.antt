-- The way to a part, step by step: each missing block taken, zeroed and hung.
use Rattle.std.proofs.Common.{ℕ, zero, suc, ◌≡◌, inl, inr, ◌-◌, ◌/◌, ◌%◌, ◌<◌, ◌≤◌, Bool, true, false, cond, nat_lt, Option, List, [], ◌∷◌, length, slice_index, refl, sym, ap, subst, ◌∙◌, arith}
use Rattle.std.proofs.lemmas.Bool.{cases_eq, cases_lt}
use Rattle.std.proofs.lemmas.Bool.Decides.{nat_tests}
use Rattle.mb_word.specs.Fields.{ninode_of, inode_block, inode_place, address_of, index_entry}
use Rattle.mb_word.proofs.Values.{word_at-same}
use Rattle.mb_tree.specs.Blocks.{pointers, first_list, list_in}
use Rattle.std.specs.List.{Contains}
use Rattle.std.proofs.lemmas.List.Elements.{Contains-get_or}
use Rattle.mb_iface.specs.declared.replies.Need.{Need}
use Rattle.mb_tree.specs.Chain.{Listed, IsNext, IsChain}
use Rattle.mb_tree.specs.Places.{Place, Pointers, at, level, IsPlace, place_of}
use Rattle.mb_tree.specs.Places.Place.{Top, Under}
use Rattle.mb_tree.specs.Views.{over, IsPart}
use Rattle.mb_kinds.specs.Changed.{ChangeList, changed, IsWithinView}
use Rattle.mb_blocks.specs.Laid.IsHad.{by_place, by_none}
use Rattle.mb_blocks.specs.Growing.{IsEntrySet, IsTopSet, Reaches, Grows, hole, missing}
use Rattle.mb_blocks.proofs.Frames.{not_on_own_way}
use Rattle.mb_blocks.proofs.Keeping.{sizes_same}
use Rattle.mb_blocks.proofs.PartBytes.{entry_is}
use Rattle.mb_blocks.specs.Pointing.{KeepsHeld}
use Rattle.mb_blocks.proofs.Pointing.{its_pointers, held_then, at_alike}
use Rattle.mb_blocks.proofs.Taking.{laid_taken, taken_held, hand_held, length-zeros}
use Rattle.mb_blocks.proofs.Growing.{grown}
use Rattle.mb_blocks.proofs.Reaching as reaching
use Rattle.mb_blocks.specs.Reached.{HasReached}
use Rattle.mb_blocks.specs.Rules.{KeepsRules, IsOut}
use Rattle.mb_bmap.specs.declared.routes.Route.{Route}
use Rattle.mb_bmap.specs.Ways.{route_of, way}
use Rattle.mb_bmap.specs.Reaching.{GrowsBy, IsReady, StepsTop, StepsUnder, ReachesPart}
use Rattle.mb_bmap.specs.declared.reaches.Reached.TheVariants as reached
use Rattle.mb_blocks.proofs.LaidRules.{laid_rules}

-- ---- routes

pub record IsRoute (part : ℕ) (r : Route) : Type 0 where
  pub leads : (ino : ℕ) → way ino r.places r.depth ≡ place_of ino part
  pub top : slice_index r.places 0 < 13
  pub down : slice_index r.places 0 - 9 ≡ r.depth
  pub under : (k : ℕ) → 0 < k → slice_index r.places k < 128

low_four : (a b c d : ℕ) → b < 128 → c < 128 → d < 128 → (k : ℕ) → 0 < k → slice_index (a ∷ b ∷ c ∷ d ∷ []) k < 128
low_four a b c d lb lc ld zero some = absurd (omega (arith, some))
low_four a b c d lb lc ld (suc zero) some = lb
low_four a b c d lb lc ld (suc (suc zero)) some = lc
low_four a b c d lb lc ld (suc (suc (suc zero))) some = ld
low_four a b c d lb lc ld (suc (suc (suc (suc k)))) some = omega arith

then_first : (b : Bool) (x y : Place) → b ≡ true → cond b x y ≡ x
then_first b x y t = ap (λ v. cond v x y) t

else_second : (b : Bool) (x y z : Place) → b ≡ false → y ≡ z → cond b x y ≡ z
else_second b x y z t e = ap (λ v. cond v x y) t ∙ e

pub route_is : (part : ℕ) → part < 2113674 → IsRoute part (route_of part)
unfolding place_of
route_is part below = elim (cases_lt part 10) [
  | inl a ↦
      let t : nat_lt part 10 ≡ true = grind (arith, nat_tests) in
      rw t (record { leads = λ ino. sym (then_first (nat_lt part 10) _ _ t); top = omega (arith, a); down = omega (arith, a); under = low_four part 0 0 0 (omega arith) (omega arith) (omega arith) })
  | inr b ↦
      let t : nat_lt part 10 ≡ false = grind (arith, nat_tests) in
      elim (cases_lt part 138) [
        | inl c ↦
            let u : nat_lt part 138 ≡ true = grind (arith, nat_tests) in
            rw (t, u) (record { leads = λ ino. sym (else_second (nat_lt part 10) _ _ _ t (then_first (nat_lt part 138) _ _ u)); top = omega arith; down = refl; under = low_four 10 (part - 10) 0 0 (omega (arith, c)) (omega arith) (omega arith) })
        | inr d ↦
            let u : nat_lt part 138 ≡ false = grind (arith, nat_tests) in
            elim (cases_lt part 16522) [
              | inl e ↦
                  let v : nat_lt part 16522 ≡ true = grind (arith, nat_tests) in
                  rw (t, u, v) (record { leads = λ ino. sym (else_second (nat_lt part 10) _ _ _ t (else_second (nat_lt part 138) _ _ _ u (then_first (nat_lt part 16522) _ _ v))); top = omega arith; down = refl; under = low_four 11 ((part - 138) / 128) ((part - 138) % 128) 0 (omega (arith, e)) (omega arith) (omega arith) })
              | inr f ↦
                  let v : nat_lt part 16522 ≡ false = grind (arith, nat_tests) in
                  rw (t, u, v) (record {
                    leads = λ ino. sym (else_second (nat_lt part 10) _ _ _ t (else_second (nat_lt part 138) _ _ _ u (else_second (nat_lt part 16522) _ _ _ v refl)));
                    top = omega arith;
                    down = refl;
                    under = low_four 12 ((part - 16522) / 16384) ((part - 16522) / 128 % 128) ((part - 16522) % 128) (omega (arith, below)) (omega arith) (omega arith);
                  })
            ]
      ]
]

module _ (part : ℕ) (r : Route) (is_route : IsRoute part r) (ino : ℕ) where
  level_way : (l : ℕ) → l ≤ r.depth → level (way ino r.places l) ≡ r.depth - l
  level_way zero low = is_route.down ∙ omega arith
  level_way (suc l) low = (let e = level_way l (omega (arith, low)) in omega (arith, e))

  pub place_way : (has : ℕ → Bool) → has ino ≡ true → (l : ℕ) → l ≤ r.depth → IsPlace has (way ino r.places l)
  place_way has is zero low = (is, is_route.top)
  place_way has is (suc l) low = (place_way has is l (omega (arith, low)), (let e = level_way l (omega (arith, low)) in omega (arith, e, low)), is_route.under (suc l) (omega arith))

pub missing_more : (ps : Pointers) (ino : ℕ) (places : List ℕ) (l d : ℕ) → l ≤ d → missing ps (way ino places l) ≤ missing ps (way ino places d)
missing_more ps ino places l zero low = (let z : l ≡ 0 = omega (arith, low) in subst (λ n. missing ps (way ino places n) ≤ missing ps (way ino places 0)) (sym z) (omega arith))
missing_more ps ino places l (suc d) low = elim (cases_eq l (suc d)) [
  | inl e ↦ subst (λ n. missing ps (way ino places n) ≤ missing ps (way ino places (suc d))) (sym e) (omega arith)
  | inr apart ↦ (let m = missing_more ps ino places l d (omega (arith, low, apart)) in omega (arith, m))
]

-- ---- none left

hole_none : (address : ℕ) → address ≡ 0 → hole address ≡ 1
hole_none address is = (let t : nat_lt 0 address ≡ false = grind (arith, nat_tests) in ap (λ b. cond b 0 1) t)

out_none : (f : ℕ → Listed) (it : Listed) (chain : List ℕ) → IsChain f it chain → IsOut it → chain ≡ []
out_none f it [] free out = refl
out_none f it (b ∷ bs) free out = absurd (elim out [
  | inl none ↦ (let some = free.0.some in let e = none in omega (arith, some, e))
  | inr none ↦ (let here = free.0.here in let real = free.0.real in omega (arith, here, real, none))
])

module _ (has : ℕ → Bool) (old : ℕ → List ℕ) (chain : List ℕ) (ino : ℕ) (ready : IsReady has old chain ino) where
  pub ready_rules : KeepsRules old
  ready_rules = laid_rules has old [] chain ready.laid ready.few_inodes ready.few_blocks ready.cached

  pub ready_ino : 0 < ino
  ready_ino = (ready.laid.inodes ino ready.is).0

  pub stop_top : (place : ℕ) → address_of (old (inode_block ino)) (inode_place ino) place ≡ 0 → IsOut (first_list old) → length chain < missing (pointers old) (Top ino place)
  stop_top place none out =
      let e : length chain ≡ 0 = ap length (out_none (list_in old) (first_list old) chain ready.laid.free out) in
      let h = hole_none (at (pointers old) (Top ino place)) none in
      omega (arith, e, h)

  pub first_reached : (new : ℕ → List ℕ) (place block : ℕ) → 0 < block → GrowsBy old new (address_of (old (inode_block ino)) (inode_place ino) place) block (λ two. IsTopSet two new ino place block)
      → Reaches old new (Top ino place) × (at (pointers new) (Top ino place) ≡ block)
  first_reached new place block some (inl held) = (inl (omega (arith, some, held.0), held.1), ap (λ x. at (pointers x) (Top ino place)) held.1 ∙ held.0)
  first_reached new place block some (inr (none, two, tz, sets)) = (inr (none, block, record { one = tz.between; two = two; taken = tz.taken; zeroed = tz.zeroed; hung = sets }), sets.here)

  module _ (mid : ℕ → List ℕ) (w : Place) (is_way : IsPlace has w) (reaches : Reaches old mid w) where
    abbrev pub got : HasReached has old mid [] chain w
    got = reaching.reached has [] old mid chain w ready.laid is_way reaches

    pub mid_rules : KeepsRules mid
    mid_rules =
        let s = sizes_same old mid got.keeps.front in
        let a = ready.few_inodes in
        let b = ready.few_blocks in
        let c = ready.cached in
        let n : ninode_of (mid 1) ≡ ninode_of (old 1) = word_at-same (mid 1) (old 1) 208 (λ k low high. got.keeps.back k low (omega (arith, high))) in
        laid_rules has mid [] got.left got.laid (omega (arith, s.0, a)) (omega (arith, s.1, b)) (omega (arith, n, c))

    pub mid_small : at (pointers mid) w < 262144
    mid_small =
        let s = sizes_same old mid got.keeps.front in
        let b = ready.few_blocks in
        let below = (got.laid.in_range w is_way got.here).below in
        omega (arith, s.1, b, below)

    module _ (k : ℕ) (is : IsPlace has (Under w k)) where
      abbrev entry_there : at (pointers mid) (Under w k) ≡ index_entry (mid (at (pointers mid) w)) k
      entry_there = entry_is mid (at (pointers mid) w) k got.here

      pub stop_under : index_entry (mid (at (pointers mid) w)) k ≡ 0 → IsOut (first_list mid) → length chain < missing (pointers old) (Under w k)
      stop_under none out =
          let e : length got.left ≡ 0 = ap length (out_none (list_in mid) (first_list mid) got.left got.laid.free out) in
          let z : at (pointers old) (Under w k) ≡ 0 = sym (got.off (Under w k) is (not_on_own_way w k)) ∙ entry_there ∙ none in
          let h = hole_none (at (pointers old) (Under w k)) z in
          let c = got.count in
          omega (arith, e, h, c)

      pub next_reached : (new : ℕ → List ℕ) (block : ℕ) → 0 < block
          → GrowsBy mid new (index_entry (mid (at (pointers mid) w)) k) block (λ two. IsEntrySet two new (at (pointers mid) w) k block)
          → Reaches old new (Under w k) × (at (pointers new) (Under w k) ≡ block)
      next_reached new block some (inl held) =
          ((mid, reaches, inl (subst (λ x. 0 < x) (sym (entry_there ∙ held.0)) some, held.1)), ap (λ x. at (pointers x) (Under w k)) held.1 ∙ entry_there ∙ held.0)
      next_reached new block some (inr (none, two, tz, sets)) =
          let t = laid_taken has mid tz.between block [] got.left got.laid tz.taken in
          let long : length (two block) ≡ 512 = ap length tz.zeroed.here ∙ length-zeros in
          let held : KeepsHeld has mid two = held_then has mid tz.between two (taken_held has mid tz.between block [] got.left got.laid tz.taken) (hand_held has tz.between two block [] t.0 t.2 tz.zeroed.others long) in
          let same : at (pointers two) w ≡ at (pointers mid) w = at_alike has mid two (its_pointers has mid two held) w is_way in
          let grows : Grows mid new (Under w k) block = record { one = tz.between; two = two; taken = tz.taken; zeroed = tz.zeroed; hung = subst (λ x. IsEntrySet two new x k block) (sym same) sets } in
          let missed : at (pointers mid) (Under w k) ≡ 0 = entry_there ∙ none in
          ((mid, reaches, inr (missed, block, grows)), (grown has mid new (Under w k) block [] got.left got.laid is got.here missed grows).here)

-- ---- the walk of the code

pub record HasWalked (shown : ℕ → Option (List ℕ)) (old now : ChangeList) (ino : ℕ) (places : List ℕ) (level above : ℕ) : Type 0 where
  pub some : 0 < above
  pub within : IsWithinView shown old → IsWithinView shown now
  pub walked : (blocks : ℕ → List ℕ) (has : ℕ → Bool) (chain : List ℕ) → IsPart shown blocks → IsReady has (over blocks (changed old)) chain ino
      → Reaches (over blocks (changed old)) (over blocks (changed now)) (way ino places level) × (at (pointers (over blocks (changed now))) (way ino places level) ≡ above)

module _ (shown : ℕ → Option (List ℕ)) (old : ChangeList) (ino part : ℕ) (r : Route) (is_route : IsRoute part r) where
  pub walked_first : (new : ChangeList) (block : ℕ) → StepsTop shown old new ino (slice_index r.places 0) (reached.At block) → HasWalked shown old new ino r.places 0 block
  walked_first new block step = record {
    some = step.0;
    within = step.1;
    walked = λ blocks has chain is_part ready.
        first_reached has (over blocks (changed old)) chain ino ready (over blocks (changed new)) (slice_index r.places 0) block step.0
        (step.2 blocks is_part (ready_rules has (over blocks (changed old)) chain ino ready) (ready_ino has (over blocks (changed old)) chain ino ready));
  }

  pub walked_next : (mid new : ChangeList) (level next above place block : ℕ) → level < r.depth → next ≡ suc level → place ≡ slice_index r.places next → HasWalked shown old mid ino r.places level above
      → StepsUnder shown mid new above place (reached.At block) → HasWalked shown old new ino r.places next block
  walked_next mid new level next above place block low is_next is_place was step = record {
    some = step.0;
    within = λ inside. step.1 (was.within inside);
    walked = λ blocks has chain is_part ready.
        (let w = was.walked blocks has chain is_part ready in
        let here = place_way part r is_route ino has ready.is level (omega (arith, low)) in
        let there = place_way part r is_route ino has ready.is (suc level) (omega (arith, low)) in
        let p : place ≡ slice_index r.places (suc level) = is_place ∙ ap (slice_index r.places) is_next in
        let small = mid_small has (over blocks (changed old)) chain ino ready (over blocks (changed mid)) (way ino r.places level) here w.0 in
        let grows = step.2 blocks is_part (mid_rules has (over blocks (changed old)) chain ino ready (over blocks (changed mid)) (way ino r.places level) here w.0) (was.some, subst (λ x. x < 262144) w.1 small) in
        let one = subst (λ k. GrowsBy (over blocks (changed mid)) (over blocks (changed new)) (index_entry (over blocks (changed mid) above) k) block (λ two. IsEntrySet two (over blocks (changed new)) above k block)) p grows in
        let two = subst (λ x. GrowsBy (over blocks (changed mid)) (over blocks (changed new)) (index_entry (over blocks (changed mid) x) (slice_index r.places (suc level))) block (λ two. IsEntrySet two (over blocks (changed new)) x (slice_index r.places (suc level)) block)) (sym w.1) one in
        subst (λ n. Reaches (over blocks (changed old)) (over blocks (changed new)) (way ino r.places n) × (at (pointers (over blocks (changed new))) (way ino r.places n) ≡ block)) (sym is_next)
        (next_reached has (over blocks (changed old)) chain ino ready (over blocks (changed mid)) (way ino r.places level) here w.0 (slice_index r.places (suc level)) there (over blocks (changed new)) block step.0 two));
  }

  pub stopped_first : (new : ChangeList) → StepsTop shown old new ino (slice_index r.places 0) reached.NoneLeft → ReachesPart shown old new ino part reached.NoneLeft
  stopped_first new step blocks has chain is_part ready =
      let s = step blocks is_part (ready_rules has (over blocks (changed old)) chain ino ready) (ready_ino has (over blocks (changed old)) chain ino ready) in
      let short = stop_top has (over blocks (changed old)) chain ino ready (slice_index r.places 0) s.0 s.1 in
      let more = missing_more (pointers (over blocks (changed old))) ino r.places 0 r.depth (omega arith) in
      subst (λ q. length chain < missing (pointers (over blocks (changed old))) q) (is_route.leads ino) (omega (arith, short, more))

  pub stopped_next : (mid new : ChangeList) (level next above place : ℕ) → level < r.depth → next ≡ suc level → place ≡ slice_index r.places next → HasWalked shown old mid ino r.places level above
      → StepsUnder shown mid new above place reached.NoneLeft → ReachesPart shown old new ino part reached.NoneLeft
  stopped_next mid new level next above place low is_next is_place was step blocks has chain is_part ready =
      let w = was.walked blocks has chain is_part ready in
      let here = place_way part r is_route ino has ready.is level (omega (arith, low)) in
      let there = place_way part r is_route ino has ready.is (suc level) (omega (arith, low)) in
      let p : place ≡ slice_index r.places (suc level) = is_place ∙ ap (slice_index r.places) is_next in
      let small = mid_small has (over blocks (changed old)) chain ino ready (over blocks (changed mid)) (way ino r.places level) here w.0 in
      let s = step blocks is_part (mid_rules has (over blocks (changed old)) chain ino ready (over blocks (changed mid)) (way ino r.places level) here w.0) (was.some, subst (λ x. x < 262144) w.1 small) in
      let none : index_entry (over blocks (changed mid) (at (pointers (over blocks (changed mid))) (way ino r.places level))) (slice_index r.places (suc level)) ≡ 0 =
      ap (λ x. index_entry (over blocks (changed mid) x) (slice_index r.places (suc level))) w.1 ∙ ap (index_entry (over blocks (changed mid) above)) (sym p) ∙ s.0 in
      let short = stop_under has (over blocks (changed old)) chain ino ready (over blocks (changed mid)) (way ino r.places level) here w.0 (slice_index r.places (suc level)) there none s.1 in
      let more = missing_more (pointers (over blocks (changed old))) ino r.places (suc level) r.depth (omega (arith, low)) in
      subst (λ q. length chain < missing (pointers (over blocks (changed old))) q) (is_route.leads ino) (omega (arith, short, more))

  pub walked_all : (new : ChangeList) (level above : ℕ) → level ≡ r.depth → HasWalked shown old new ino r.places level above → ReachesPart shown old new ino part (reached.At above)
  walked_all new level above end was = (
    was.within,
    λ blocks has chain is_part ready.
        subst (λ q. Reaches (over blocks (changed old)) (over blocks (changed new)) q × (at (pointers (over blocks (changed new))) q ≡ above)) (ap (way ino r.places) end ∙ is_route.leads ino)
        (was.walked blocks has chain is_part ready),
  )

-- ---- what may be asked for

chain_next : (f : ℕ → Listed) (it : Listed) (chain : List ℕ) (block : ℕ) → IsChain f it chain → IsNext it block → Contains chain block
chain_next f it [] block (inl none) next = absurd (let some = next.some in omega (arith, some, none))
chain_next f it [] block (inr last) next =
    absurd (let real = next.real in let here = next.here in let e : it.entry (it.count - 1) ≡ it.entry 0 = ap it.entry (omega (arith, last.0)) in omega (arith, real, here, e, last.1))
chain_next f it (b ∷ bs) block free next = subst (λ x. Contains (b ∷ bs) x) (sym free.0.here ∙ next.here) (Contains-get_or (b ∷ bs) 0 0 (omega arith))

module _ (shown : ℕ → Option (List ℕ)) (old : ChangeList) (ino part : ℕ) (r : Route) (is_route : IsRoute part r) where
  pub asked_first : (new : ChangeList) (need : Need) → StepsTop shown old new ino (slice_index r.places 0) (reached.Need need) → ReachesPart shown old new ino part (reached.Need need)
  asked_first new need step = (
    step.0,
    λ blocks has chain is_part ready.
        elim (step.1 blocks is_part (ready_rules has (over blocks (changed old)) chain ino ready) (ready_ino has (over blocks (changed old)) chain ino ready)) [
          | inl own ↦ inr (inl own)
          | inr more ↦ elim more [
            | inl first ↦ inl first
            | inr next ↦ inr (inr (by_none (chain_next (list_in (over blocks (changed old))) (first_list (over blocks (changed old))) chain need.first ready.laid.free next)))
          ]
        ],
  )

  pub asked_next : (mid new : ChangeList) (level next above place : ℕ) (need : Need) → level < r.depth → next ≡ suc level → place ≡ slice_index r.places next → HasWalked shown old mid ino r.places level above
      → StepsUnder shown mid new above place (reached.Need need) → ReachesPart shown old new ino part (reached.Need need)
  asked_next mid new level next above place need low is_next is_place was step = (
    step.0,
    λ blocks has chain is_part ready.
        (let w = was.walked blocks has chain is_part ready in
        let here = place_way part r is_route ino has ready.is level (omega (arith, low)) in
        let small = mid_small has (over blocks (changed old)) chain ino ready (over blocks (changed mid)) (way ino r.places level) here w.0 in
        let reach = got has (over blocks (changed old)) chain ino ready (over blocks (changed mid)) (way ino r.places level) here w.0 in
        elim (step.1 blocks is_part (mid_rules has (over blocks (changed old)) chain ino ready (over blocks (changed mid)) (way ino r.places level) here w.0) (was.some, subst (λ x. x < 262144) w.1 small)) [
          | inl own ↦ inr (inr (reach.conserves.already need.first (let above = step.0.above in omega (arith, above)) (by_place (way ino r.places level) here (w.1 ∙ sym own))))
          | inr more ↦ elim more [
            | inl first ↦ inl first
            | inr next ↦ inr (inr (reach.conserves.already need.first (let above = step.0.above in omega (arith, above))
                (by_none (chain_next (list_in (over blocks (changed mid))) (first_list (over blocks (changed mid))) reach.left need.first reach.laid.free next))))
          ]
        ]),
  )
