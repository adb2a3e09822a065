-- A text that is written piece by piece: what was taken so far is a front of it.
use Rattle.std.proofs.Common.{ℕ, ◌+◌, ◌-◌, ◌≤◌, ◌≡◌, arith, List, [], ◌++◌, length, take, drop, Option, None, Some, ap, ◌∙◌, sym, subst, append-nil, take-append-drop}
use Rattle.std.proofs.Math.Seq.{take-add}
use Rattle.std.proofs.lemmas.List.{take_rest, length-drop}
use Rattle.std.specs.Io.KnownBytes.{Appends, Keeps}
use Rattle.std.proofs.KnownBytes.{Appends-trans}
use Rattle.mb_edge.specs.Transfers.{TakesFront}

-- a piece more was taken
pub front_more : (first before now : Option (List ℕ)) (text : List ℕ) (at count : ℕ) → Appends first before (take at text) → Appends before now (take count (take (length text - at) (drop at text))) → Appends first now (take (at + count) text)
front_more first before now text at count so_far piece =
    let joined : take at text ++ take count (take (length text - at) (drop at text)) ≡ take (at + count) text =
    ap (λ (rest : List ℕ). take at text ++ take count rest) (take_rest text at) ∙ sym (take-add at count text) in
    subst (Appends first now) joined (Appends-trans first before now _ _ so_far piece)

Appends-nothing : (before now : Option (List ℕ)) → Keeps before now → Appends before now []
Appends-nothing None now kept = tt
Appends-nothing (Some xs) None kept = absurd kept
Appends-nothing (Some xs) (Some ys) kept = kept ∙ sym (append-nil xs)

-- nothing more was taken
front_stays : (first before now : Option (List ℕ)) (text : List ℕ) (at : ℕ) → Appends first before (take at text) → Appends before now [] → TakesFront first now text
front_stays first before now text at so_far nothing = record {
  front = take at text;
  back = drop at text;
  whole = sym (take-append-drop at text);
  took = subst (Appends first now) (append-nil (take at text)) (Appends-trans first before now _ _ so_far nothing);
}

pub front_kept : (first before now : Option (List ℕ)) (text : List ℕ) (at : ℕ) → Appends first before (take at text) → Keeps before now → TakesFront first now text
front_kept first before now text at so_far kept = front_stays first before now text at so_far (Appends-nothing before now kept)

pub front_stuck : (first before now : Option (List ℕ)) (text rest : List ℕ) (at count : ℕ) → Appends first before (take at text) → Appends before now (take count rest) → count ≡ 0 → TakesFront first now text
front_stuck first before now text rest at count so_far piece none =
    front_stays first before now text at so_far (subst (λ (n : ℕ). Appends before now (take n rest)) none piece)

pub front_fits : (text : List ℕ) (at count : ℕ) → at ≤ length text → count ≤ length (take (length text - at) (drop at text)) → at + count ≤ length text
front_fits text at count within fits = omega (arith, ap length (take_rest text at), length-drop at text)
