-- The way down to a place, with each missing block taken, zeroed and hung.
use Rattle.std.proofs.Common.{ℕ, ◌≡◌, ◌⊎◌, inl, inr, ◌<◌, ◌≤◌, Bool, true, false, cond, nat_lt, List, ◌∷◌, ◌++◌, length, refl, sym, ap, subst, ◌∙◌, arith}
use Rattle.std.proofs.lemmas.Bool.{cases_eq}
use Rattle.std.proofs.lemmas.Bool.Decides.{nat_tests}
use Rattle.mb_word.specs.Fields.{isize_of, index_entry}
use Rattle.mb_tree.specs.Blocks.{entry_in, pointers}
use Rattle.mb_tree.specs.Places.{Place, at, level, IsPlace}
use Rattle.mb_tree.specs.Places.Place.{Top, Under}
use Rattle.mb_tree.specs.Volume.{LeadsOn}
use Rattle.mb_blocks.specs.Growing.{MakesPlace, Reaches, hole}
use Rattle.mb_blocks.specs.Laid.{IndexesLeadOn, IsLaid}
use Rattle.mb_blocks.specs.Owners.{ino_of}
use Rattle.mb_blocks.specs.Reached.{HasReached, IsAbove, IsOnWay}
use Rattle.mb_blocks.proofs.Conserving.{conserved_same, conserved_then}
use Rattle.mb_blocks.proofs.FieldsKept.{fields_same, fields_then}
use Rattle.mb_blocks.proofs.Frames.{not_on_own_way}
use Rattle.mb_blocks.proofs.Growing.{grown}
use Rattle.mb_blocks.proofs.PartBytes.{entry_is}
use Rattle.mb_blocks.proofs.Pointing.{zero_entry}

above_on : (r q : Place) → IsAbove r q → IsOnWay r q
above_on r (Top ino p) h = absurd h
above_on r (Under w k) h = inr h

self : (q : Place) → IsOnWay q q
self (Top i p) = refl
self (Under q k) = inl refl

hole_none : (address : ℕ) → address ≡ 0 → hole address ≡ 1
hole_none address is = (let t : nat_lt 0 address ≡ false = grind (arith, nat_tests) in ap (λ b. cond b 0 1) t)

hole_some : (address : ℕ) → 0 < address → hole address ≡ 0
hole_some address is = (let t : nat_lt 0 address ≡ true = grind (arith, nat_tests) in ap (λ b. cond b 0 1) t)

module _ (has : ℕ → Bool) (loose : List ℕ) where
  -- one step, from what the way above it left
  first_step : (old new : ℕ → List ℕ) (chain : List ℕ) (ino p : ℕ) → IsLaid has old loose chain → IsPlace has (Top ino p) → MakesPlace old new (Top ino p) → HasReached has old new loose chain (Top ino p)
  first_step old new chain ino p laid is (inl held) =
      subst (λ (x : ℕ → List ℕ). HasReached has old x loose chain (Top ino p)) (sym held.1) (record {
        left = chain;
        laid = laid;
        count = (let e = hole_some (at (pointers old) (Top ino p)) held.0 in omega (arith, e));
        here = held.0;
        same = λ r h some. refl;
        off = λ r h apart. refl;
        bytes = λ r h some apart. refl;
        fresh = λ none. absurd (let some = held.0 in omega (arith, some, none));
        keeps = fields_same old ino;
        conserves = conserved_same has old (loose ++ chain);
      })
  first_step old new chain ino p laid is (inr (none, block, grows)) =
      let g = grown has old new (Top ino p) block loose chain laid is tt none grows in
      record {
        left = g.left;
        laid = g.laid;
        count = (let e = hole_none (at (pointers old) (Top ino p)) none in let w : length chain ≡ length (block ∷ g.left) = ap length g.was in omega (arith, e, w));
        here = (let here = g.here in let some = g.some in omega (arith, here, some));
        same = λ r h some. elim (g.either r h) [ inl e ↦ absurd (let z : at (pointers old) r ≡ 0 = ap (at (pointers old)) e ∙ none in omega (arith, some, z)) | inr e ↦ e ];
        off = λ r h apart. elim (g.either r h) [ inl e ↦ absurd (apart (sym e)) | inr e ↦ e ];
        bytes = λ r h some apart. g.bytes r h some (λ none. none);
        fresh = λ z. ap new g.here ∙ g.fresh;
        keeps = g.keeps;
        conserves = g.conserves;
      }

  next_step : (old mid new : ℕ → List ℕ) (chain : List ℕ) (w : Place) (k : ℕ) → 3 ≤ isize_of (old 1) → IsPlace has (Under w k) → HasReached has old mid loose chain w → MakesPlace mid new (Under w k) → HasReached has old new loose chain (Under w k)
  next_step old mid new chain w k wide is prior (inl held) =
      let was : at (pointers mid) (Under w k) ≡ at (pointers old) (Under w k) = prior.off (Under w k) is (not_on_own_way w k) in
      subst (λ (x : ℕ → List ℕ). HasReached has old x loose chain (Under w k)) (sym held.1) (record {
        left = prior.left;
        laid = prior.laid;
        count = (let some = held.0 in let e = hole_some (at (pointers old) (Under w k)) (omega (arith, some, was)) in let c = prior.count in omega (arith, e, c));
        here = held.0;
        same = prior.same;
        off = λ r h apart. prior.off r h (λ on. apart (inr on));
        bytes = λ r h some apart. prior.bytes r h some (λ above. apart (above_on r w above));
        fresh = λ none. absurd (let some = held.0 in omega (arith, some, none, was));
        keeps = prior.keeps;
        conserves = prior.conserves;
      })
  next_step old mid new chain w k wide is prior (inr (none, block, grows)) =
      let was : at (pointers mid) (Under w k) ≡ at (pointers old) (Under w k) = prior.off (Under w k) is (not_on_own_way w k) in
      let g = grown has mid new (Under w k) block loose prior.left prior.laid is prior.here none grows in
      record {
        left = g.left;
        laid = g.laid;
        count =
            (let e = hole_none (at (pointers old) (Under w k)) (sym was ∙ none) in
            let l : length prior.left ≡ length (block ∷ g.left) = ap length g.was in
            let c = prior.count in
            omega (arith, e, l, c));
        here = (let here = g.here in let some = g.some in omega (arith, here, some));
        same = λ r h some.
            (let before = prior.same r h some in
            elim (g.either r h) [
              | inl e ↦ absurd (let z : at (pointers mid) r ≡ 0 = ap (at (pointers mid)) e ∙ none in omega (arith, some, z, before))
              | inr e ↦ e ∙ before
            ]);
        off = λ r h apart. elim (g.either r h) [ inl e ↦ absurd (apart (inl (sym e))) | inr e ↦ e ∙ prior.off r h (λ on. apart (inr on)) ];
        bytes = λ r h some apart.
            (let before = prior.same r h some in
            ap new (sym before) ∙ g.bytes r h (omega (arith, some, before)) (λ parent. apart (subst (λ x. IsOnWay x w) parent (self w))) ∙ ap mid before
            ∙ prior.bytes r h some (λ above. apart (above_on r w above)));
        fresh = λ z. ap new g.here ∙ g.fresh;
        keeps = fields_then old mid new (ino_of w) prior.keeps g.keeps;
        conserves = conserved_then has has has old mid new (loose ++ chain) (loose ++ prior.left) (loose ++ g.left) wide prior.conserves g.conserves;
      }

  pub reached : (old new : ℕ → List ℕ) (chain : List ℕ) (q : Place) → IsLaid has old loose chain → IsPlace has q → Reaches old new q → HasReached has old new loose chain q
  reached old new chain (Top ino p) laid is steps = first_step old new chain ino p laid is steps
  reached old new chain (Under w k) laid is (mid, way, steps) = next_step old mid new chain w k laid.wide is (reached old mid chain w laid is.0 way) steps

-- ---- each index block leads on

place_or_not : (q r : Place) → (q ≡ r) ⊎ (q ≡ r → ⊥)
place_or_not (Top i p) (Top j s) = elim (cases_eq i j) [
  | inl one ↦ elim (cases_eq p s) [
    | inl two ↦ inl (let e : Top i p ≡ Top j s = ap (λ x. Top x p) one ∙ ap (Top j) two in e)
    | inr apart ↦ inr (λ e. apart (cc))
  ]
  | inr apart ↦ inr (λ e. apart (cc))
]
place_or_not (Top i p) (Under r k) = inr (λ e. cc)
place_or_not (Under q k) (Top j s) = inr (λ e. cc)
place_or_not (Under q k) (Under r j) = elim (place_or_not q r) [
  | inl one ↦ elim (cases_eq k j) [
    | inl two ↦ inl (let e : Under q k ≡ Under r j = ap (λ x. Under x k) one ∙ ap (Under r) two in e)
    | inr apart ↦ inr (λ e. apart (cc))
  ]
  | inr apart ↦ inr (λ e. apart (cc))
]

on_or_not : (r q : Place) → IsOnWay r q ⊎ (IsOnWay r q → ⊥)
on_or_not r (Top i p) = place_or_not (Top i p) r
on_or_not r (Under q k) = elim (place_or_not (Under q k) r) [
  | inl e ↦ inl (inl e)
  | inr apart ↦ elim (on_or_not r q) [ inl on ↦ inl (inr on) | inr off ↦ inr (λ on. elim on [ inl e ↦ apart e | inr more ↦ off more ]) ]
]

above_held : (blocks : ℕ → List ℕ) (q : Place) (j : ℕ) → 0 < at (pointers blocks) (Under q j) → 0 < at (pointers blocks) q
above_held blocks q j some = elim (cases_eq (at (pointers blocks) q) 0) [
  | inl none ↦ absurd (let e : entry_in blocks (at (pointers blocks) q) j ≡ 0 = ap (λ b. entry_in blocks b j) none ∙ zero_entry blocks j in omega (arith, some, e))
  | inr held ↦ omega (arith, held)
]

on_way_leads : (has : ℕ → Bool) (blocks : ℕ → List ℕ) (r q : Place) → IsPlace has q → 0 < at (pointers blocks) q → IsAbove r q → (j : ℕ) × (j < 128) × (0 < at (pointers blocks) (Under r j))
on_way_leads has blocks r (Top i p) is some above = absurd above
on_way_leads has blocks r (Under (Top i p) k) is some above = (k, is.2, subst (λ x. 0 < at (pointers blocks) (Under x k)) above some)
on_way_leads has blocks r (Under (Under w j) k) is some (inl e) = (k, is.2, subst (λ x. 0 < at (pointers blocks) (Under x k)) e some)
on_way_leads has blocks r (Under (Under w j) k) is some (inr more) = on_way_leads has blocks r (Under w j) is.0 (above_held blocks (Under w j) k some) more

pub lead_reached : (has : ℕ → Bool) (old new : ℕ → List ℕ) (loose chain : List ℕ) (q : Place) → IsPlace has q → level q ≡ 0 → HasReached has old new loose chain q → IndexesLeadOn has old → IndexesLeadOn has new
lead_reached has old new loose chain q is bottom got leads r h up some = elim (on_or_not r q) [
  | inl on ↦ on_way (above_of r q on)
  | inr away ↦
      (let e = got.off r h away in
      let then : 0 < at (pointers old) r = omega (arith, some, e) in
      let lead = leads r h up then in
      let same : new (at (pointers new) r) ≡ old (at (pointers old) r) = ap new e ∙ got.bytes r h then (λ above. away (above_on r q above)) in
      (lead.0, lead.1, λ none. lead.2 (ap (λ b. index_entry b lead.0) (sym same) ∙ none)))
]
  where
    above_of : (r q : Place) → IsOnWay r q → (q ≡ r) ⊎ IsAbove r q
    above_of r (Top i p) e = inl e
    above_of r (Under w k) (inl e) = inl e
    above_of r (Under w k) (inr on) = inr on

    on_way : (q ≡ r) ⊎ IsAbove r q → LeadsOn new (at (pointers new) r)
    on_way (inl e) = absurd (let l : level q ≡ level r = ap level e in omega (arith, l, bottom, up))
    on_way (inr above) =
        (let next = on_way_leads has new r q is got.here above in
        let real = next.2 in
        let e = entry_is new (at (pointers new) r) next.0 some in
        (next.0, next.1, omega (arith, real, e)))
