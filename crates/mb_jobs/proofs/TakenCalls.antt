-- A table that `calls` is taken out of: its other keys hold what they held.
use Rattle.std.proofs.Common.{List, [], ◌∷◌, ℕ, ◌≡◌, true, false, Option, Some, codes, String, Global, string_bytes, nat_cmp, is_eq, Ordering, Less, Equal, Greater, refl, sym, inl, inr}
use Rattle.std.proofs.lemmas.Bool.{cases_Bool, false≢true, true≢false}
use Rattle.std.proofs.lemmas.Map.Lookups.{exact_bytes}
use Rattle.std.specs.BTreeMap.{is_at}
use Rattle.std.specs.Cmp.Lexicographic.{slice_cmp}
use Rattle.std.specs.Map.{remove_entry}
use Rattle.std.specs.Ordering.{match_ordering}
use Rattle.toml.specs.Data.{Data, get_member}
use Rattle.toml.specs.View.{members_view, view}
use Rattle.toml.specs.declared.value.Value.{Value}
use Rattle.mb_jobs.specs.Keys.{fields_beside, fields_in, unknown_key}

abbrev Entry : Type 0
Entry = String Global × Value

abbrev pub is_calls : String Global → Ordering
is_calls key = slice_cmp nat_cmp (codes "calls") (string_bytes key)

abbrev pub without_calls : List Entry → List Entry
without_calls entries = remove_entry (is_at is_calls) entries

equal : (o : Ordering) → is_eq o ≡ true → o ≡ Equal
equal Less same = absurd (false≢true same)
equal Equal same = refl
equal Greater same = absurd (false≢true same)

key_is : (key : String Global) → is_eq (is_calls key) ≡ true → string_bytes key ≡ codes "calls"
key_is key same = sym (exact_bytes (codes "calls") (string_bytes key) (equal (is_calls key) same))

passed_by : (o : Ordering) (found here : Option Data) → is_eq o ≡ false → found ≡ match_ordering o found here found
passed_by Less found here other = refl
passed_by Equal found here other = absurd (true≢false other)
passed_by Greater found here other = refl

same_member : (name : List ℕ) → is_eq (slice_cmp nat_cmp name (codes "calls")) ≡ false → (entries : List Entry)
    → get_member name (members_view (without_calls entries)) ≡ get_member name (members_view entries)
same_member name other [] = refl
same_member name other (e ∷ entries) =
    elim (cases_Bool (is_eq (is_calls e.0))) [
      | inl same ↦ rw (same, key_is e.0 same) (passed_by (slice_cmp nat_cmp name (codes "calls")) (get_member name (members_view entries)) (Some (view e.1)) other)
      | inr differ ↦ rw (differ, same_member name other entries) refl
    ]

same_unknown : (entries : List Entry) → unknown_key (members_view (without_calls entries)) ≡ unknown_key (members_view entries)
same_unknown [] = refl
same_unknown (e ∷ entries) =
    elim (cases_Bool (is_eq (is_calls e.0))) [
      | inl same ↦ rw (same, key_is e.0 same) refl
      | inr differ ↦ rw (differ, same_unknown entries) refl
    ]

pub fields_beside-taken : (entries : List Entry) → fields_beside (get_member (codes "calls") (members_view entries)) (members_view (without_calls entries)) ≡ fields_in (members_view entries)
fields_beside-taken entries =
    rw (
      same_unknown entries,
      same_member (codes "callers") refl entries,
      same_member (codes "faults") refl entries,
      same_member (codes "limit") refl entries,
      same_member (codes "order") refl entries,
      same_member (codes "start") refl entries,
      same_member (codes "threshold") refl entries,
    )
    refl
