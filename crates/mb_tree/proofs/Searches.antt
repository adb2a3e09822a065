-- Searches and sums over numbers in a row, one number further.
use Rattle.std.proofs.Common.{◌≡◌, ℕ, suc, ◌+◌, ◌-◌, ◌<◌, ◌≤◌, Bool, true, false, if◌then◌else◌, Some, None, refl, sym, ap, ◌∙◌, arith, add-one, List, [], ◌∷◌, ◌++◌, append_assoc}
use Rattle.std.proofs.lemmas.List.{append-nil}
use Rattle.mb_tree.specs.Inodes.{byte_at, bytes_from}
use Rattle.mb_tree.specs.declared.nodes.Body.{Body}
use Rattle.mb_tree.specs.Counting.{sum_below, first_from}

module _ (p : ℕ → Bool) where
  next : (low n : ℕ) → p low ≡ false → first_from p low (suc n) ≡ first_from p (low + 1) n
  unfolding first_from
  next low n h = ap (λ b. if b then Some low else first_from p (low + 1) n) h

  first : (low n : ℕ) → p low ≡ true → first_from p low (suc n) ≡ Some low
  unfolding first_from
  first low n h = ap (λ b. if b then Some low else first_from p (low + 1) n) h

  none : (low : ℕ) → first_from p low 0 ≡ None
  unfolding first_from
  none low = refl

  pub passed : (low high : ℕ) → low < high → p low ≡ false → first_from p low (high - low) ≡ first_from p (low + 1) (high - (low + 1))
  passed low high h e = let n : high - low ≡ suc (high - (low + 1)) = omega arith in rw n (next low (high - (low + 1)) e)

  pub hit : (low high : ℕ) → low < high → p low ≡ true → first_from p low (high - low) ≡ Some low
  hit low high h e = let n : high - low ≡ suc (high - (low + 1)) = omega arith in rw n (first low (high - (low + 1)) e)

  pub none_left : (low high : ℕ) → high ≤ low → first_from p low (high - low) ≡ None
  none_left low high h = let n : high - low ≡ 0 = omega arith in rw n (none low)

pub sum_more : (g : ℕ → ℕ) (n : ℕ) → sum_below g (n + 1) ≡ sum_below g n + g n
unfolding sum_below
sum_more g n = rw add-one (omega arith)

pub sum_none : (g : ℕ → ℕ) → sum_below g 0 ≡ 0
unfolding sum_below
sum_none g = refl

-- ---- bytes in a row

pub bytes_more : (body : Body) (index done count : ℕ) → done < count → bytes_from body (index + done) (count - done) ≡ byte_at body (index + done) ∷ bytes_from body (index + (done + 1)) (count - (done + 1))
unfolding bytes_from
bytes_more body index done count h =
    let n : count - done ≡ suc (count - (done + 1)) = omega arith in
    let a : index + (done + 1) ≡ index + done + 1 = omega arith in
    rw (n, a) refl

pub bytes_none : (body : Body) (index count : ℕ) → count ≡ 0 → bytes_from body index count ≡ []
unfolding bytes_from
bytes_none body index count e = rw e refl

-- the bytes so far, one byte further, and all of them
pub bytes_step : (body : Body) (index done count : ℕ) (bytes more : List ℕ) → done < count → more ≡ bytes ++ byte_at body (index + done) ∷ []
    → bytes ++ bytes_from body (index + done) (count - done) ≡ bytes_from body index count
    → more ++ bytes_from body (index + (done + 1)) (count - (done + 1)) ≡ bytes_from body index count
bytes_step body index done count bytes more h e inv =
    ap (λ xs. xs ++ bytes_from body (index + (done + 1)) (count - (done + 1))) e
    ∙ append_assoc bytes (byte_at body (index + done) ∷ []) (bytes_from body (index + (done + 1)) (count - (done + 1)))
    ∙ ap (λ xs. bytes ++ xs) (sym (bytes_more body index done count h)) ∙ inv

pub bytes_end : (body : Body) (index done count : ℕ) (bytes : List ℕ) → count ≤ done
    → bytes ++ bytes_from body (index + done) (count - done) ≡ bytes_from body index count → bytes ≡ bytes_from body index count
bytes_end body index done count bytes h inv = sym (append-nil bytes) ∙ ap (λ xs. bytes ++ xs) (sym (bytes_none body (index + done) (count - done) (omega arith))) ∙ inv
