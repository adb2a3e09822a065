-- Addresses after one was set.
use Rattle.std.proofs.Common.{ℕ, suc, ◌≡◌, ◌≢◌, ◌⊎◌, inl, inr, ◌<◌, Bool, true, sym, ap, subst, ◌∙◌, arith}
use Rattle.std.proofs.lemmas.Bool.{cases_eq}
use Rattle.mb_tree.specs.Places.{Place, Pointers, at, level, IsPlace}
use Rattle.mb_tree.specs.Places.Place.{Top, Under}
use Rattle.mb_blocks.specs.Pointing.{Hangs}
use Rattle.mb_blocks.specs.Reached.{IsOnWay}

pub record SetsEntry (has : ℕ → Bool) (old new : Pointers) (b k value : ℕ) : Type 0 where
  pub top : (ino p : ℕ) → has ino ≡ true → p < 13 → new.top ino p ≡ old.top ino p
  pub here : new.entry b k ≡ value
  pub others : (c j : ℕ) → (c ≢ b) ⊎ (j ≢ k) → new.entry c j ≡ old.entry c j

abbrev pub depth : Place → ℕ
depth (Top ino p) = 0
depth (Under q k) = suc (depth q)

deeper : (r q : Place) → IsOnWay r q → depth r < suc (depth q)
deeper r (Top ino p) e = (let f : 0 ≡ depth r = ap depth e in omega (arith, f))
deeper r (Under q k) (inl e) = (let f : suc (depth q) ≡ depth r = ap depth e in omega (arith, f))
deeper r (Under q k) (inr w) = (let d = deeper r q w in omega (arith, d))

pub not_on_own_way : (w : Place) (k : ℕ) → IsOnWay (Under w k) w → ⊥
not_on_own_way w k on = (let d = deeper (Under w k) w on in omega (arith, d))

module _ (has : ℕ → Bool) (old new : Pointers) (w : Place) (k value : ℕ) (held : IsPlace has w) (there : 0 < at old w)
    (apart : (q r : Place) → IsPlace has q → IsPlace has r → 0 < at old q → at old q ≡ at old r → q ≡ r)
    (sets : SetsEntry has old new (at old w) k value) where
  pub at_kept : (q : Place) → IsPlace has q → (IsOnWay (Under w k) q → ⊥) → at new q ≡ at old q
  at_kept (Top ino p) h away = sets.top ino p h.0 h.1
  at_kept (Under q j) h away =
      ap (λ b. new.entry b j) (at_kept q h.0 (λ x. away (inr x)))
      ∙ (sets.others (at old q) j (elim (cases_eq (at old q) (at old w)) [
        | inl e ↦ inr (λ f. away (inl (let s : q ≡ w = apart q w h.0 held (omega (arith, there, e)) e in cc)))
        | inr ne ↦ inl ne
      ]))

  pub at_set : at new (Under w k) ≡ value
  at_set = ap (λ b. new.entry b k) (at_kept w held (λ on. not_on_own_way w k on)) ∙ sets.here

  -- an address set where there was none, to a block without addresses
  module _ (missing : at old (Under w k) ≡ 0) (bare : 0 < level (Under w k) → (j : ℕ) → j < 128 → new.entry value j ≡ 0) (zero_leads : (j : ℕ) → old.entry 0 j ≡ 0) where
    pub hung_at : (q : Place) → IsPlace has q → (q ≡ Under w k) ⊎ (at new q ≡ at old q)
    hung_at (Top ino p) h = inr (at_kept (Top ino p) h (λ e. cc))
    hung_at (Under q j) h = elim (hung_at q h.0) [
      | inl is ↦ inr (
          let e : at new q ≡ value = ap (at new) is ∙ at_set in
          let f : at old q ≡ 0 = ap (at old) is ∙ missing in
          ap (λ b. new.entry b j) e ∙ bare (subst (λ x. 0 < level x) is h.1) j h.2 ∙ sym (ap (λ b. old.entry b j) f ∙ zero_leads j))
      | inr same ↦ elim (cases_eq (at old q) (at old w)) [
        | inl e ↦
            let s : q ≡ w = apart q w h.0 held (omega (arith, there, e)) e in
            elim (cases_eq j k) [
              | inl is ↦ inl (let p : Under q j ≡ Under w k = ap (λ x. Under x j) s ∙ ap (Under w) is in p)
              | inr beside ↦ inr (ap (λ b. new.entry b j) same ∙ sets.others (at old q) j (inr beside))
            ]
        | inr ne ↦ inr (ap (λ b. new.entry b j) same ∙ sets.others (at old q) j (inl ne))
      ]
    ]

    pub hangs_entry : Hangs has old new (Under w k) value
    hangs_entry = record {
      here = at_set;
      others = λ q h apart_from. elim (hung_at q h) [
        | inl is ↦ absurd (apart_from is)
        | inr same ↦ same
      ];
    }

-- an address of an inode itself
pub record SetsTop (has : ℕ → Bool) (old new : Pointers) (ino p value list : ℕ) : Type 0 where
  pub here : new.top ino p ≡ value
  pub others : (i j : ℕ) → has i ≡ true → j < 13 → (i ≢ ino) ⊎ (j ≢ p) → new.top i j ≡ old.top i j
  pub entry : (c j : ℕ) → c ≢ list → new.entry c j ≡ old.entry c j

module _ (has : ℕ → Bool) (old new : Pointers) (ino p value list : ℕ) (sets : SetsTop has old new ino p value list) (missing : old.top ino p ≡ 0)
    (off : (q : Place) → IsPlace has q → at old q ≢ list) (bare : 0 < level (Top ino p) → (j : ℕ) → j < 128 → new.entry value j ≡ 0) (zero_leads : (j : ℕ) → old.entry 0 j ≡ 0) where
  pub hung_top : (q : Place) → IsPlace has q → (q ≡ Top ino p) ⊎ (at new q ≡ at old q)
  hung_top (Top i j) h = elim (cases_eq i ino) [
    | inl one ↦ elim (cases_eq j p) [
      | inl two ↦ inl (let e : Top i j ≡ Top ino p = ap (λ x. Top x j) one ∙ ap (Top ino) two in e)
      | inr beside ↦ inr (sets.others i j h.0 h.1 (inr beside))
    ]
    | inr apart ↦ inr (sets.others i j h.0 h.1 (inl apart))
  ]
  hung_top (Under q k) h = elim (hung_top q h.0) [
    | inl is ↦ inr (
        let e : at new q ≡ value = ap (at new) is ∙ sets.here in
        let f : at old q ≡ 0 = ap (at old) is ∙ missing in
        ap (λ b. new.entry b k) e ∙ bare (subst (λ x. 0 < level x) is h.1) k h.2 ∙ sym (ap (λ b. old.entry b k) f ∙ zero_leads k))
    | inr same ↦ inr (ap (λ b. new.entry b k) same ∙ sets.entry (at old q) k (off q h.0))
  ]

  pub hangs_top : Hangs has old new (Top ino p) value
  hangs_top = record {
    here = sets.here;
    others = λ q h apart_from. elim (hung_top q h) [
      | inl is ↦ absurd (apart_from is)
      | inr same ↦ same
    ];
  }
