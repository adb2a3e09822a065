-- The fault records of a call under way.
use Rattle.std.proofs.Common.{◌≡◌, List, [], ◌∷◌, ◌++◌, ◌+◌, Bool, ap, sym, ◌∙◌, append_assoc, Option}
use Rattle.std.proofs.lemmas.List.{append-nil}
use Rattle.std.specs.List.{AllByRecursion}
use Rattle.mb_edge.specs.declared.crossings.Crossing.{Crossing}
use Rattle.mb_edge.specs.declared.crossings.Crossings.{Crossings}
use Rattle.mb_kinds.specs.declared.faults.FaultRecord.{FaultRecord}
use Rattle.mb_run.proofs.Counting.{counted_on, counted_push, sound_push}
use Rattle.mb_run.proofs.Lists.{all_both, all_map}
use Rattle.mb_run.specs.Recovering.{CrossingsGoOn, FaultIsTaken}
use Rattle.mb_volume.specs.Called.{Suffers}
use Rattle.mb_volume.specs.Parts.{Part}
use Rattle.mb_volume.specs.Underway.{StruckSoFar}

abbrev IsOf : Crossings → FaultRecord → Type 0
IsOf crossings fault = (fault.caller ≡ crossings.caller) × (fault.ordinal ≡ crossings.ordinal)

of_on : (before now : Crossings) (records : List FaultRecord) → CrossingsGoOn before now → AllByRecursion (IsOf before) records → AllByRecursion (IsOf now) records
of_on before now records on all = all_map (IsOf before) (IsOf now) records (λ fault is. (is.0 ∙ sym on.caller, is.1 ∙ sym on.ordinal)) all

-- the call passed some crossings
pub struck_on : (test : Option (Crossing → Bool)) (before now : Crossings) (from records : List FaultRecord) → CrossingsGoOn before now → StruckSoFar test before from records → StruckSoFar test now from records
struck_on test before now from records on struck = record {
  more = struck.more;
  whole = struck.whole;
  theirs = of_on before now struck.more on struck.theirs;
  counted = counted_on before now struck.more on struck.counted;
  sound = struck.sound;
}

-- and was struck at one of them
pub struck_push : (test : Option (Crossing → Bool)) (before now : Crossings) (from records : List FaultRecord) (fault : FaultRecord) → CrossingsGoOn before now → FaultIsTaken test before now fault → StruckSoFar test before from records
    → StruckSoFar test now from (records ++ fault ∷ [])
struck_push test before now from records fault on taken struck = record {
  more = struck.more ++ fault ∷ [];
  whole = ap (λ rs. rs ++ fault ∷ []) struck.whole ∙ append_assoc from struck.more (fault ∷ []);
  theirs = all_both (IsOf now) struck.more (fault ∷ []) (of_on before now struck.more on struck.theirs) ((taken.caller ∙ sym on.caller, taken.ordinal ∙ sym on.ordinal), tt);
  counted = counted_push test before now struck.more fault on taken struck.counted;
  sound = sound_push test before now struck.more fault taken struck.counted struck.sound;
}

-- before any crossing
pub struck_none : (test : Option (Crossing → Bool)) (crossings : Crossings) (records : List FaultRecord) → StruckSoFar test crossings records records
struck_none test crossings records = record { more = []; whole = sym (append-nil records); theirs = tt; counted = tt; sound = record { holds = tt; apart = tt } }

-- what the caller is told of them
pub suffers_of : (test : Option (Crossing → Bool)) (crossings : Crossings) (from now : Part) → crossings.ordinal ≡ from.seat.begun + 1 → StruckSoFar test crossings from.struck now.struck → Suffers test crossings.caller from now
suffers_of test crossings from now ordinal struck = record {
  more = struck.more;
  whole = struck.whole;
  theirs = all_map (IsOf crossings) (λ (fault : FaultRecord). (fault.caller ≡ crossings.caller) × (fault.ordinal ≡ from.seat.begun + 1)) struck.more (λ fault is. (is.0, is.1 ∙ ordinal)) struck.theirs;
  sound = struck.sound;
}
