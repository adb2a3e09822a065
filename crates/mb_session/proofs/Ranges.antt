-- Every change of a session keeps its descriptors and places in their ranges, and two sessions in range are the same
-- where they are so in those ranges.
use Rattle.std.proofs.Common.{inl, inr, ◌⊎◌, List, [], ◌∷◌, ℕ, zero, suc, ◌+◌, ◌≡◌, ◌<◌, ◌≤◌, Bool, Option, Some, None, IfSome, not, map, slice_set, option_map, unwrap_or, refl, sym, ◌∙◌, subst, arith}
use Rattle.std.specs.FinMap as fin
use Rattle.std.specs.FinMap.{get-empty}
use Rattle.std.specs.Ordering.{nat_cmp}
use Rattle.std.proofs.lemmas.Bool.{cases_Bool, cases_lt}
use Rattle.mb_kinds.specs.declared.credentials.Cred.{Cred}
use Rattle.mb_tree.specs.Counting.{first_from}
use Rattle.mb_tree.specs.Maps.{Numbered}
use Rattle.mb_tree.specs.Opening.{first_seat}
use Rattle.mb_tree.specs.Sessions.{HasDescriptorInRange, changed, closed, doubled, free_place, has_place, moved, opened}
use Rattle.mb_tree.specs.declared.seats.PlainFile.{PlainFile}
use Rattle.mb_tree.specs.declared.seats.Seat.{Seat}
use Rattle.mb_tree.specs.declared.seats.SessionChange.{SessionChange}
use Rattle.mb_tree.specs.declared.seats.SessionChange.TheVariants.{Same, Fresh, Twin, Free, Move, Cwd, Mask, Clear}
use Rattle.mb_tree.proofs.FiniteMaps.{get_there, gone_there, gone_here, one_or_not, same}
use Rattle.mb_session.specs.Ranges.{AreInRange, IsInRange}

-- a map without a key from a bound on
abbrev EndsBefore : {X : Type 0} → ℕ → Numbered X → Type 0
EndsBefore bound m = (k : ℕ) → bound ≤ k → fin.get m k ≡ None

module _ {X : Type 0} (bound : ℕ) (m : Numbered X) (ends : EndsBefore bound m) where
  put_ends : (k : ℕ) (x : X) → k < bound → EndsBefore bound (fin.insert m k x)
  put_ends k x low q past = get_there m k x q (λ e. let e = e in omega (arith, low, past, e)) ∙ ends q past

  gone_ends : (k : ℕ) → EndsBefore bound (fin.remove m k)
  gone_ends k q past = elim (one_or_not q k) [
    | inl e ↦ subst (λ n. fin.get (fin.remove m k) n ≡ None) (sym e) (gone_here m k)
    | inr apart ↦ gone_there m k q apart ∙ ends q past
  ]

  changed_ends : (k : ℕ) (f : X → X) (found : Option X) → fin.get m k ≡ found → EndsBefore bound (unwrap_or (option_map (λ x. fin.insert m k (f x)) found) m)
  changed_ends k f None is q past = ends q past
  changed_ends k f (Some x) is q past = elim (one_or_not q k) [
    | inl e ↦ absurd (let none : fin.get m k ≡ None = subst (λ n. fin.get m n ≡ None) e (ends q past) in cc)
    | inr apart ↦ get_there m k (f x) q apart ∙ ends q past
  ]

first_below : (passes : ℕ → Bool) (low n : ℕ) → IfSome (first_from passes low n) (λ k. k < low + n)
unfolding first_from
first_below passes low zero = tt
first_below passes low (suc n) = elim (cases_Bool (passes low)) [
  | inl passed ↦ rw passed (omega arith)
  | inr failed ↦ rw failed (below (first_from passes (low + 1) n) (first_below passes (low + 1) n))
]
  where
    below : (found : Option ℕ) → IfSome found (λ k. k < (low + 1) + n) → IfSome found (λ k. k < low + suc n)
    below None is = tt
    below (Some k) is = omega (arith, is)

opened_in : (seat : Seat) (fd : ℕ) (file : PlainFile) (place : Option ℕ) → fd < 20 → IfSome place (λ p. p < 17) → IsInRange seat → IsInRange (opened seat fd file place)
opened_in seat fd file None low free is = is
opened_in seat fd file (Some place) low free is = record { fds = put_ends 20 seat.fds is.fds fd place low; files = put_ends 17 seat.files is.files place file free }

doubled_in : (seat : Seat) (to : ℕ) (place : Option ℕ) → to < 20 → IsInRange seat → IsInRange (doubled seat to place)
doubled_in seat to None low is = is
doubled_in seat to (Some place) low is = record { fds = put_ends 20 seat.fds is.fds to place low; files = is.files }

closed_in : (seat : Seat) (fd : ℕ) (place : Option ℕ) → IsInRange seat → IsInRange (closed seat fd place)
closed_in seat fd None is = is
closed_in seat fd (Some place) is = record {
  fds = gone_ends 20 seat.fds is.fds fd;
  files = elim (cases_Bool (has_place (fin.remove seat.fds fd) place)) [
    | inl held ↦ rw held is.files
    | inr gone ↦ rw gone (gone_ends 17 seat.files is.files place)
  ];
}

moved_in : (seat : Seat) (offset : ℕ) (place : Option ℕ) → IsInRange seat → IsInRange (moved seat offset place)
moved_in seat offset None is = is
moved_in seat offset (Some place) is = record {
  fds = is.fds;
  files = changed_ends 17 seat.files is.files place (λ file. record file { offset = offset }) (fin.get seat.files place) refl;
}

pub changed_in : (seat : Seat) (change : SessionChange) → HasDescriptorInRange change → IsInRange seat → IsInRange (changed seat change)
changed_in seat Same fits is = is
changed_in seat (Fresh fd ino how) fits is = opened_in seat fd (record { ino = ino; how = how; offset = 0 }) (free_place seat) fits (first_below (λ place. not (fin.contains_key seat.files place)) 0 17) is
changed_in seat (Twin fd to) fits is = doubled_in seat to (fin.get seat.fds fd) fits is
changed_in seat (Free fd) fits is = closed_in seat fd (fin.get seat.fds fd) is
changed_in seat (Move fd offset) fits is = moved_in seat offset (fin.get seat.fds fd) is
changed_in seat (Cwd ino) fits is = record { fds = is.fds; files = is.files }
changed_in seat (Mask mask) fits is = record { fds = is.fds; files = is.files }
changed_in seat Clear fits is = record { fds = λ fd past. get-empty nat_cmp fd; files = λ place past. get-empty nat_cmp place }

-- sessions that begin
pub first_in : (creds : List Cred) → AreInRange (map first_seat creds)
first_in [] at seat is = absurd (let is = is in cc)
first_in (cred ∷ creds) zero seat is = let e : first_seat cred ≡ seat = cc in subst IsInRange e (record { fds = λ fd past. get-empty nat_cmp fd; files = λ place past. get-empty nat_cmp place })
first_in (cred ∷ creds) (suc at) seat is = first_in creds at seat is

-- one session replaced by another one in range
pub set_in : (seats : List Seat) (caller : ℕ) (new : Seat) → IsInRange new → AreInRange seats → AreInRange (slice_set seats caller new)
set_in [] caller new fine are at seat is = are at seat is
set_in (one ∷ more) zero new fine are zero seat is = let e : new ≡ seat = cc in subst IsInRange e fine
set_in (one ∷ more) zero new fine are (suc at) seat is = are (suc at) seat is
set_in (one ∷ more) (suc caller) new fine are zero seat is = are 0 seat is
set_in (one ∷ more) (suc caller) new fine are (suc at) seat is = set_in more caller new fine (λ k. are (suc k)) at seat is

module _ {X : Type 0} (bound : ℕ) (m n : Numbered X) (ends : EndsBefore bound m) (also : EndsBefore bound n) where
  -- maps are the same where they are below a bound that both keep to
  pub same_below : ((k : ℕ) → k < bound → fin.get m k ≡ fin.get n k) → m ≡ n
  same_below below = same m n (λ k. elim (cases_low k) [
    | inl low ↦ below k low
    | inr past ↦ ends k past ∙ sym (also k past)
  ])
    where
      cases_low : (k : ℕ) → (k < bound) ⊎ (bound ≤ k)
      cases_low k = cases_lt k bound
