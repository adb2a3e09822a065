-- Where a descriptor is free, so is a place for an open file: there are as many of both, and each open file has a
-- descriptor of its own.
use Rattle.std.proofs.Common.{◌≡◌, ◌≢◌, inl, inr, ℕ, zero, suc, ◌+◌, ◌-◌, ◌<◌, ◌≤◌, Bool, true, false, not, if◌then◌else◌, Option, Some, None, is_some, refl, ap, ◌∙◌, arith}
use Rattle.std.proofs.lemmas.Bool.Decides.{nat_tests}
use Rattle.std.specs.FinMap as fin
use Rattle.mb_tree.specs.Maps.{Numbered}
use Rattle.mb_tree.specs.Counting.{sum_below, first_from}
use Rattle.mb_tree.specs.Sessions.{free_descriptor, free_place, is_at_place}
use Rattle.mb_tree.specs.Machines.{IsSeated}
use Rattle.mb_tree.specs.declared.nodes.Node.{Node}
use Rattle.mb_tree.specs.declared.seats.PlainFile.{PlainFile}
use Rattle.mb_tree.specs.declared.seats.Seat.{Seat}
use Rattle.mb_tree.proofs.FiniteMaps.{one_or_not}
use Rattle.mb_tree.proofs.Sums.{sum_but, sum_nothing, sum_swap, sum_term, sum_full, sum_short}
use Rattle.mb_tree.proofs.Seated.{passes, in_row, fails, none_of}

-- 1 where a descriptor's place is p
abbrev hit : Option ℕ → ℕ → ℕ
hit o p = if is_at_place p o then 1 else 0

hit_none : (o : Option ℕ) (p : ℕ) → o ≡ None → hit o p ≡ 0
hit_none o p e = ap (λ (q : Option ℕ). hit q p) e

hit_here : (o : Option ℕ) (p : ℕ) → o ≡ Some p → hit o p ≡ 1
hit_here o p e = ap (λ (q : Option ℕ). hit q p) e ∙ (let t : is_at_place p (Some p) ≡ true = grind (arith, nat_tests) in ap (λ (b : Bool). if◌then◌else◌ {A = ℕ} b 1 0) t)

hit_apart : (q p : ℕ) → p ≢ q → hit (Some q) p ≡ 0
hit_apart q p apart = let t : is_at_place p (Some q) ≡ false = grind (arith, nat_tests) in ap (λ (b : Bool). if◌then◌else◌ {A = ℕ} b 1 0) t

hit_most : (q p : ℕ) → hit (Some q) p ≤ 1
hit_most q p = elim (is_at_place p (Some q)) as (λ b. (if b then 1 else 0) ≤ 1) [ true ↦ omega arith | false ↦ omega arith ]

-- a descriptor has at most one place
one_place : (o : Option ℕ) (n : ℕ) → sum_below (hit o) n ≤ 1
one_place None n = omega (arith, sum_nothing (hit None) n (λ k b. refl))
one_place (Some q) n = elim (one_or_not (n - q) 0) [
  | inl past ↦ omega (arith, sum_nothing (hit (Some q)) n (λ k b. hit_apart q k (λ e. absurd (omega (arith, e, past)))))
  | inr within ↦
      let low : q < n = omega arith in
      let zeros : sum_below (λ k. 0) n ≡ 0 = sum_nothing (λ k. 0) n (λ k b. refl) in
      omega (arith, sum_but (λ k. 0) (hit (Some q)) q n low (λ k apart. hit_apart q k apart), zeros, hit_most q q)
]

yes_of : (o : Bool) → not o ≡ false → o ≡ true
yes_of true h = refl
yes_of false h = cc

some_of : {X : Type 0} (o : Option X) → is_some o ≡ true → (x : X) × (o ≡ Some x)
some_of None h = cc
some_of (Some x) h = (x, refl)

low_end : (p : ℕ → Bool) (low n k : ℕ) → first_from p low n ≡ Some k → low ≤ k
unfolding first_from
low_end p low zero k h = cc
low_end p low (suc n) k h = elim (p low) as (λ b. (if b then Some low else first_from p (low + 1) n) ≡ Some k → low ≤ k) [
  | true ↦ λ s. let at : low ≡ k = cc in omega (arith, at)
  | false ↦ λ s. omega (arith, low_end p (low + 1) n k s)
] h

module _ (nodes : Numbered Node) (seat : Seat) (valid : IsSeated nodes seat) where
  -- a place with a file is on the row of descriptors
  has_hit : (p : ℕ) (file : PlainFile) → fin.get seat.files p ≡ Some file → 1 ≤ sum_below (λ d. hit (fin.get seat.fds (3 + d)) p) 17
  has_hit p file h =
      let open_file = valid.files p file h in
      let descriptor = valid.descriptors open_file.fd p open_file.has in
      let at : open_file.fd - 3 < 17 = omega (arith, descriptor.above, descriptor.within) in
      let back : 3 + (open_file.fd - 3) ≡ open_file.fd = omega (arith, descriptor.above) in
      let one : hit (fin.get seat.fds (3 + (open_file.fd - 3))) p ≡ 1 = hit_here _ p (ap (fin.get seat.fds) back ∙ open_file.has) in
      omega (arith, one, sum_term (λ d. hit (fin.get seat.fds (3 + d)) p) (open_file.fd - 3) 17 at)

  not_full : (fd : ℕ) → 3 ≤ fd → fd < 20 → fin.get seat.fds fd ≡ None → ((p : ℕ) → p < 17 → is_some (fin.get seat.files p) ≡ true) → ⊥
  not_full fd above within free full =
      let rows : 17 ≤ sum_below (λ p. sum_below (λ d. hit (fin.get seat.fds (3 + d)) p) 17) 17 =
      sum_full (λ p. sum_below (λ d. hit (fin.get seat.fds (3 + d)) p) 17) 17 (λ p b. let f = some_of _ (full p b) in has_hit p f.0 f.1) in
      let back : 3 + (fd - 3) ≡ fd = omega arith in
      let none : sum_below (λ p. hit (fin.get seat.fds (3 + (fd - 3))) p) 17 ≡ 0 = sum_nothing (λ p. hit (fin.get seat.fds (3 + (fd - 3))) p) 17 (λ p b. hit_none _ p (ap (fin.get seat.fds) back ∙ free)) in
      let columns : sum_below (λ d. sum_below (λ p. hit (fin.get seat.fds (3 + d)) p) 17) 17 < 17 =
      sum_short (λ d. sum_below (λ p. hit (fin.get seat.fds (3 + d)) p) 17) (fd - 3) 17 (omega arith) none (λ d. one_place (fin.get seat.fds (3 + d)) 17) in
      absurd (omega (arith, rows, columns, sum_swap (λ p d. hit (fin.get seat.fds (3 + d)) p) 17 17))

  pub descriptor_above : (fd : ℕ) → free_descriptor seat ≡ Some fd → 3 ≤ fd
  descriptor_above fd h = low_end (λ fd. not (fin.contains_key seat.fds fd)) 3 17 fd h

  pub descriptor_within : (fd : ℕ) → free_descriptor seat ≡ Some fd → fd < 20
  descriptor_within fd h = omega (arith, in_row (λ fd. not (fin.contains_key seat.fds fd)) 3 17 fd h)

  pub descriptor_free : (fd : ℕ) → free_descriptor seat ≡ Some fd → fin.get seat.fds fd ≡ None
  descriptor_free fd h = none_of _ (passes (λ fd. not (fin.contains_key seat.fds fd)) 3 17 fd h)

  pub place_for : (fd : ℕ) → free_descriptor seat ≡ Some fd → (place : ℕ) × (free_place seat ≡ Some place)
  place_for fd h = elim (free_place seat) as (λ (o : Option ℕ). free_place seat ≡ o → (place : ℕ) × (o ≡ Some place)) [
    | None ↦ λ e. absurd (not_full fd (descriptor_above fd h) (descriptor_within fd h) (descriptor_free fd h)
        (λ p b. yes_of _ (fails (λ place. not (fin.contains_key seat.files place)) 0 17 p e (omega arith) (omega (arith, b)))))
    | Some place ↦ λ e. (place, refl)
  ] refl
