-- The addresses at hand lead to their parts.
use Rattle.std.proofs.Common.{ℕ, ◌≡◌, ◌<◌, ◌≤◌, ◌-◌, [], ◌∷◌, List, true, false, nat_lt, Option, Some, None, IfSome, refl, sym, ap, subst, ◌∙◌, arith}
use Rattle.std.proofs.lemmas.Bool.Decides.{nat_tests}
use Rattle.mb_word.specs.Fields.{address_of, index_entry, inode_block, inode_place}
use Rattle.mb_tree.specs.Blocks.{part_address}
use Rattle.mb_kinds.specs.Changed.{ChangeList}
use Rattle.mb_bmap.specs.Locating.{OnWay, address_on}
use Rattle.mb_bmap.specs.Ways.{route_of}
use Rattle.mb_bmap.specs.declared.routes.Route.{Route}
use Rattle.mb_bmap.proofs.Locating.{HasFollowed, address_is, follow_first, follow_next, found_here}
use Rattle.mb_namei.specs.Addresses.{AreBlockBytes, AreOf, IsAddress, LeadsTo}
use Rattle.mb_namei.specs.declared.addresses.Addresses.{Addresses}

abbrev direct : ℕ → Route
direct part = record { depth = 0; places = part ∷ 0 ∷ 0 ∷ 0 ∷ [] }

abbrev under_one : ℕ → Route
under_one part = record { depth = 1; places = 10 ∷ (part - 10) ∷ 0 ∷ 0 ∷ [] }

is_direct : (part : ℕ) → part < 10 → route_of part ≡ direct part
is_direct part low = let is : nat_lt part 10 ≡ true = grind (arith, nat_tests, low) in rw is refl

is_under_one : (part : ℕ) → 10 ≤ part → part < 138 → route_of part ≡ under_one part
is_under_one part high low =
    let apart : nat_lt part 10 ≡ false = grind (arith, nat_tests, high) in
    let is : nat_lt part 138 ≡ true = grind (arith, nat_tests, low) in
    rw (apart, is) refl

-- the way to a part read to its end
on_way : (shown : ℕ → Option (List ℕ)) (changes : ChangeList) (ino part block : ℕ) (route : Route) → part < 138 → route_of part ≡ route → HasFollowed shown changes ino route route.depth block
    → OnWay shown changes ino (route_of part) (λ blocks. part_address blocks ino part ≡ block)
on_way shown changes ino part block route low is was = address_is shown changes ino part block (omega (arith, low))
    (subst (λ r. OnWay shown changes ino r (λ blocks. address_on blocks ino r r.depth ≡ block)) (sym is) (found_here shown changes ino route route.depth block route.depth refl was))

-- an address of the inode itself
pub direct_leads : (known : Addresses) (part : ℕ) (found : Option ℕ) → part < 10 → IfSome found (IsAddress (address_of known.inode.now (inode_place known.ino) part)) → IfSome found (LeadsTo known part)
direct_leads known part None low is = tt
direct_leads known part (Some block) low is = (
  is.1,
  λ shown changes ino of.
      on_way shown changes ino part block (direct part) (omega (arith, low)) (is_direct part low)
      (follow_first shown changes ino (direct part) (inode_block ino) (inode_place ino) block known.inode.now refl refl
      (is.0 ∙ ap (λ n. address_of known.inode.now (inode_place n) part) of.own) of.inode),
)

-- an address in the first index block
pub near_leads : (known : Addresses) (part address : ℕ) (bytes : List ℕ) (found : Option ℕ) → 10 ≤ part → part < 138
    → ((shown : ℕ → Option (List ℕ)) (changes : ChangeList) (ino : ℕ) → AreOf shown changes ino known → (block : ℕ) × (IsAddress (address_of known.inode.now (inode_place ino) 10) block × AreBlockBytes shown changes block bytes))
    → address ≡ index_entry bytes (part - 10) → IfSome found (IsAddress address) → IfSome found (LeadsTo known part)
near_leads known part address bytes None high low index reads is = tt
near_leads known part address bytes (Some block) high low index reads is = (
  is.1,
  λ shown changes ino of.
      let top = index shown changes ino of in
      on_way shown changes ino part block (under_one part) low (is_under_one part high low)
      (follow_next shown changes ino (under_one part) 0 1 top.0 block (part - 10) bytes refl refl top.1.0.1
      (follow_first shown changes ino (under_one part) (inode_block ino) (inode_place ino) top.0 known.inode.now refl refl top.1.0.0 of.inode)
      (is.0 ∙ reads) top.1.1),
)
