-- A checkpointed page is written back with a call that left.
use Rattle.std.proofs.Common.{◌≡◌, ◌∙◌, ◌⊎◌, ◌≤◌, inl, inr, ℕ, ◌+◌, Option, length, refl, ap, sym, subst, arith}
use Rattle.mb_kinds.specs.Image.{Image}
use Rattle.mb_kinds.specs.declared.entries.Flight.{Flight}
use Rattle.mb_kinds.specs.declared.faults.Ticket.{Ticket}
use Rattle.mb_edge.specs.Causes.{Rose}
use Rattle.mb_cache.specs.declared.answers.Flushed.{Flushed}
use Rattle.mb_cache.specs.declared.answers.Flushed.TheVariants as flushed
use Rattle.mb_core_spec.specs.State.{CallerState, CoreState}
use Rattle.mb_core_state.specs.Answers.{Leaving}
use Rattle.mb_core_state.specs.declared.answers.Left.{Left}
use Rattle.mb_core_state.specs.declared.answers.Left.TheVariants as left
use Rattle.mb_run.specs.CoreSight.{sight_of}
use Rattle.mb_run.specs.Events.{FlushesWith, EndsFlight, LeavesWith, WritesBehind}
use Rattle.mb_run.specs.Sights.{Sight}
use Rattle.mb_volume_core.specs.Flushes.{FlushesAfter}
use Rattle.mb_volume_core.proofs.Origins.{origin_of}
use Rattle.mb_volume_core.proofs.Sealing.{flush_later, flush_rose, flushes}

-- ---- as a driver sees it

-- a call that left stays so
leaves_on : (caller : ℕ) (flight : Flight) (old mid new : Sight) (made : Flushed) → EndsFlight caller flight old mid → FlushesWith mid new made → EndsFlight caller flight old new
leaves_on caller flight old mid new flushed.One leaves written = subst (EndsFlight caller flight old) (sym written.1) (record {
  stays = record {
    config = leaves.stays.config;
    records = leaves.stays.records;
    stage = leaves.stays.stage;
    incarnation = leaves.stays.incarnation;
    seats = leaves.stays.seats;
    copies = leaves.stays.copies;
    stales = leaves.stays.stales;
  };
  was = leaves.was;
  answered = leaves.answered;
  mine = leaves.mine;
  counts = record { history = leaves.counts.history; begun = leaves.counts.begun; open_calls = leaves.counts.open_calls };
  log = record { sealed_at = leaves.log.sealed_at; ops = leaves.log.ops; trail = leaves.log.trail };
  floor = leaves.floor;
})
leaves_on caller flight old mid new flushed.Clean leaves written = subst (EndsFlight caller flight old) (sym written.1) leaves
leaves_on caller flight old mid new flushed.Device leaves written = subst (EndsFlight caller flight old) (sym written.1) leaves

-- as many pages wait before it as when the call left
writes_on : (before now : ℕ) (old mid new : Sight) (made : Flushed) → mid.sealed ≡ old.sealed → FlushesWith mid new made → (made ≡ flushed.Device → Rose before now)
    → (old.sealed ≡ new.sealed + 1) ⊎ (((old.sealed ≡ 0) × (new.sealed ≡ 0)) ⊎ ((new.sealed ≡ old.sealed) × Rose before now))
writes_on before now old mid new flushed.One same written rose = inl (sym same ∙ written.0)
writes_on before now old mid new flushed.Clean same written rose = inr (inl (sym same ∙ written.0, ap (λ (s : Sight). s.sealed) written.1 ∙ written.0))
writes_on before now old mid new flushed.Device same written rose = inr (inr (ap (λ (s : Sight). s.sealed) written.1 ∙ same, rose refl))

-- ---- of the core: `mid` is the core that the call left

module _ {F D : Type 0} (told : D → Option Image) (faults : D → ℕ) (core mid new : CoreState F D) (ticket : Ticket) where
  pub leaves_behind : (answer : Left) → LeavesWith (sight_of core) (sight_of mid) ticket answer → FlushesAfter told faults answer mid new → LeavesWith (sight_of core) (sight_of new) ticket answer
  leaves_behind (left.Skip was now) leaves same = (leaves.0, ap (λ (c : CoreState F D). sight_of c) same ∙ leaves.1)
  leaves_behind (left.Left answer) leaves made =
      (leaves.0, (leaves.1.0, leaves_on ticket.caller leaves.1.0 (sight_of core) (sight_of mid) (sight_of new) made.0 leaves.1.1 (flushes mid new told faults made.0 made.1 made.2), leaves.1.2))

  pub behind_origin : (answer : Left) → FlushesAfter told faults answer mid new → origin_of new ≡ origin_of mid
  behind_origin (left.Skip was now) same = ap (λ (c : CoreState F D). origin_of c) same
  behind_origin (left.Left answer) made = ap (λ (c : CoreState F D). origin_of c) made.2

  module _ (mine : CallerState) where
    -- the call that left wrote nothing itself
    same_faults : (answer : Left) → Leaving core mid ticket mine answer → faults mid.cache.disk ≡ faults core.cache.disk
    same_faults (left.Skip was now) by = ap (λ (c : CoreState F D). faults c.cache.disk) by.same
    same_faults (left.Left answer) by = ap (λ (c : CoreState F D). faults c.cache.disk) by.2

    pub writes_behind : (answer : Left) → Leaving core mid ticket mine answer → FlushesAfter told faults answer mid new → WritesBehind (faults core.cache.disk) (faults new.cache.disk) (sight_of core) (sight_of new) answer
    writes_behind (left.Skip was now) by same = tt
    writes_behind (left.Left answer) by made =
        writes_on (faults core.cache.disk) (faults new.cache.disk) (sight_of core) (sight_of mid) (sight_of new) made.0 (ap (λ (c : CoreState F D). length c.cache.sealed) by.2) (flushes mid new told faults made.0 made.1 made.2)
        (λ device. subst (λ n. Rose n (faults new.cache.disk)) (same_faults (left.Left answer) by) (flush_rose mid new told faults made.0 made.1 device))

    pub faults_later : (answer : Left) → Leaving core mid ticket mine answer → FlushesAfter told faults answer mid new → faults core.cache.disk ≤ faults new.cache.disk
    faults_later (left.Skip was now) by same =
        let first = same_faults (left.Skip was now) by in
        let other : faults new.cache.disk ≡ faults mid.cache.disk = ap (λ (c : CoreState F D). faults c.cache.disk) same in
        omega (arith, first, other)
    faults_later (left.Left answer) by made =
        let first = same_faults (left.Left answer) by in
        let later = flush_later mid new told faults made.0 made.1 in
        omega (arith, first, later)
