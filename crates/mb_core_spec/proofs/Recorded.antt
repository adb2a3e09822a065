-- The worked records.
use Rattle.std.proofs.Common.{◌≡◌, Some, refl, ap, sym, subst, arith, slice_get}
use Rattle.mb_kinds.specs.declared.faults.FaultRecord.{FaultRecord}
use Rattle.mb_kinds.specs.declared.faults.Kind.TheVariants.{Enter, Finish, Replay}
use Rattle.mb_core_spec.specs.Examples.{WorkedRecords, two_faults}
use Rattle.mb_core_spec.specs.Faults.{IsOwn, Names}

same_fault : (x y : FaultRecord) → Some x ≡ Some y → x ≡ y
same_fault x y h = cc

-- record 2 is one of a recovery
no_second : Names two_faults 0 1 2 → ⊥
no_second names =
    let place : names.place ≡ 1 = (let counted = names.counted in omega (arith, counted)) in
    let at : Some (record { caller = 0; ordinal = 1; kind = Replay; nth = 1 }) ≡ Some names.fault = subst (λ n. slice_get two_faults n ≡ Some names.fault) place names.at in
    let kind : Replay ≡ names.fault.kind = ap (λ (f : FaultRecord). f.kind) (same_fault _ names.fault at) in
    subst IsOwn (sym kind) names.own

pub worked_records : WorkedRecords
worked_records = (
  record {
    rising = omega arith;
    one = record { place = 0; counted = refl; fault = record { caller = 0; ordinal = 1; kind = Enter; nth = 1 }; at = refl; caller_is = refl; ordinal_is = refl; own = tt };
    other = record { place = 2; counted = refl; fault = record { caller = 0; ordinal = 1; kind = Finish; nth = 2 }; at = refl; caller_is = refl; ordinal_is = refl; own = tt };
  },
  λ twice. no_second twice.other,
)
