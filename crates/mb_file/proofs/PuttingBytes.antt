-- Bytes put into a file part after part, then its size and times.
use Rattle.std.proofs.Common.{ℕ, zero, suc, ◌≡◌, inl, inr, ◌+◌, ◌/◌, ◌%◌, ◌<◌, ◌≤◌, Bool, true, max, Option, List, [], ◌∷◌, ◌++◌, length, take, drop, unwrap_or, refl, sym, ap, subst, ◌∙◌, arith}
use Rattle.std.specs.Prelude.{is_some}
use Rattle.std.specs.FinMap as fin
use Rattle.std.proofs.lemmas.List.{length-take-le, length-drop, take_all}
use Rattle.mb_kinds.specs.Image.{Image, zeros}
use Rattle.mb_word.specs.Fields.{inode_block, inode_place}
use Rattle.mb_word.specs.Numbers.{put_at}
use Rattle.mb_layout.specs.Inode.{dinode_at}
use Rattle.mb_layout.specs.declared.dinodes.Dinode.{Dinode}
use Rattle.mb_tree.specs.Effect.{fitting, put_bytes, touched}
use Rattle.mb_tree.specs.Inodes.{part_at}
use Rattle.mb_tree.specs.Maps.{Numbered}
use Rattle.mb_tree.specs.PutParts.{AreWhole, IsReached}
use Rattle.mb_tree.specs.Views.{over, IsPart}
use Rattle.mb_tree.specs.declared.nodes.Node.{Node}
use Rattle.mb_tree.specs.declared.trees.Tree.{Tree}
use Rattle.mb_tree.proofs.FiniteMaps.{get_here}
use Rattle.mb_tree.proofs.PuttingParts.{parts_stand_after_put, put_splits, put_within_part}
use Rattle.mb_iface.specs.Acting.{with_changes}
use Rattle.mb_kinds.specs.Changed.{ChangeList, changed, IsWithinView}
use Rattle.mb_iface.specs.Needs.{IsNeed}
use Rattle.mb_iface.specs.declared.replies.Need.{Need}
use Rattle.mb_blocks.specs.Inodes.{HasValues, IsDinodeWritten}
use Rattle.mb_blocks.proofs.InodeWrites.{addresses_now, dinode_written, fields_now, value_now}
use Rattle.mb_nodes.specs.Stored.{IsStored, with_node}
use Rattle.mb_moves.specs.Advancing.{AdvancesTo, IsNearTo}
use Rattle.mb_moves.proofs.Asking.{inode_near}
use Rattle.mb_moves.proofs.InARow.{changed_in_turn, near_before, nothing_changed, stored_after}
use Rattle.mb_moves.proofs.Setting.{sized_advances}
use Rattle.mb_moves.proofs.Trees.{put_twice}
use Rattle.mb_file.specs.Clearing.{IsFileAt}
use Rattle.mb_file.specs.Putting.{OnParts, PutsBytes, PutsPart, SetsSize, grown_inode, with_parts}
use Rattle.mb_file.specs.declared.puts.Written.TheVariants as written
use Rattle.mb_file.proofs.Clearing.{last_read, values_read}
use Rattle.mb_file.proofs.Holding.{its_inode, its_number, same_top}
use Rattle.mb_file.proofs.PuttingParts.{itself_again, its_file}
use Rattle.mb_file.proofs.Reading.{whole_part}

take_none : (m n : ℕ) → take {A = ℕ} (suc m) [] ≡ take n []
take_none m zero = refl
take_none m (suc n) = refl

take_both : (xs : List ℕ) (m n : ℕ) → take (m + n) xs ≡ take m xs ++ take n (drop m xs)
take_both xs zero n = ap (λ k. take k xs) (let e : 0 + n ≡ n = omega arith in e)
take_both [] (suc m) n = ap (λ k. take {A = ℕ} k []) (let e : suc m + n ≡ suc (m + n) = omega arith in e) ∙ take_none (m + n) n
take_both (x ∷ xs) (suc m) n = ap (λ k. take k (x ∷ xs)) (let e : suc m + n ≡ suc (m + n) = omega arith in e) ∙ ap (λ ys. x ∷ ys) (take_both xs m n)

-- a file's parts are whole
parts_whole : (image : Image) (tree : Tree) (chain : List ℕ) (looks : ℕ → Bool) → IsStored image tree chain → (ino : ℕ) (node : Node) → (file : IsFileAt tree looks ino node) → AreWhole file.parts
parts_whole image tree chain looks stored ino node file part =
    ap (λ o. length (unwrap_or o zeros)) ((its_file image tree chain looks stored ino node file 0 (omega arith)).each part) ∙ whole_part image.at ino part stored.bytes

abbrev pub file_put : (tree : Tree) (looks : ℕ → Bool) (ino : ℕ) (node : Node) (size : ℕ) (parts : Numbered (List ℕ)) → looks ino ≡ true → IsFileAt (with_node tree ino (with_parts node size parts)) looks ino (with_parts node size parts)
file_put tree looks ino node size parts looked = record { looked = looked; has = get_here tree.nodes ino (with_parts node size parts); size = size; parts = parts; body = refl }

-- ---- some bytes put

pub record HasPutBytes (shown : ℕ → Option (List ℕ)) (old now : ChangeList) (ino offset : ℕ) (bytes : List ℕ) (done : ℕ) : Type 0 where
  pub within : IsWithinView shown old → IsWithinView shown now
  pub advances : OnParts shown old ino (λ image tree looks node size parts. AdvancesTo image tree looks old now (with_node tree ino (with_parts node size (put_bytes parts offset (take done bytes)))))

module _ (shown : ℕ → Option (List ℕ)) (old : ChangeList) (ino offset : ℕ) (bytes : List ℕ) where
  pub bytes_first : HasPutBytes shown old old ino offset bytes 0
  bytes_first = record {
    within = λ w. w;
    advances = λ image tree chain part stored looks node file.
        subst (AdvancesTo image tree looks old old) (itself_again (with_changes image old) tree chain looks stored ino node file 0 (omega arith)) (nothing_changed image tree chain looks old stored);
  }

  module _ (mid new : ChangeList) (done : ℕ) (was : HasPutBytes shown old mid ino offset bytes done) where
    module _ (image : Image) (tree : Tree) (chain : List ℕ) (part : IsPart shown image.at) (stored : IsStored (with_changes image old) tree chain) (looks : ℕ → Bool) (node : Node) (file : IsFileAt tree looks ino node) where
      abbrev parts_then : Numbered (List ℕ)
      parts_then = put_bytes file.parts offset (take done bytes)

      abbrev tree_then : Tree
      tree_then = with_node tree ino (with_parts node file.size parts_then)

      pub gone : AdvancesTo image tree looks old mid tree_then
      gone = was.advances image tree chain part stored looks node file

      pub stored_then : (left : List ℕ) × IsStored (with_changes image mid) tree_then left
      stored_then = stored_after image tree tree_then looks old mid gone

      abbrev pub file_then : IsFileAt tree_then looks ino (with_parts node file.size parts_then)
      file_then = file_put tree looks ino node file.size parts_then file.looked

    module _ (some next : ℕ) (piece : List ℕ) (sum : next ≡ done + some) (is : piece ≡ take some (drop done bytes)) (low : done < length bytes) (real : 0 < some) (room : done + some ≤ length bytes)
        (fits : (offset + done) % 512 + some ≤ 512) where
      long_piece : length piece ≡ some
      long_piece = ap length is ∙ length-take-le some (drop done bytes) (let d = length-drop done bytes in omega (arith, d, room))

      more : (parts : Numbered (List ℕ)) → length (part_at (put_bytes parts offset (take done bytes)) ((offset + done) / 512)) ≡ 512
          → fin.insert (put_bytes parts offset (take done bytes)) ((offset + done) / 512) (put_at (part_at (put_bytes parts offset (take done bytes)) ((offset + done) / 512)) ((offset + done) % 512) piece)
          ≡ put_bytes parts offset (take next bytes)
      more parts whole =
          let front : length (take done bytes) ≡ done = length-take-le done bytes (omega (arith, low)) in
          let n = long_piece in
          sym (put_within_part (put_bytes parts offset (take done bytes)) (offset + done) piece (omega (arith, n, real)) (omega (arith, n, fits)) whole)
          ∙ ap (λ k. put_bytes (put_bytes parts offset (take done bytes)) (offset + k) piece) (sym front)
          ∙ sym (put_splits parts offset (take done bytes) piece)
          ∙ ap (put_bytes parts offset) (ap (λ xs. take done bytes ++ xs) is ∙ sym (take_both bytes done some) ∙ ap (λ k. take k bytes) (sym sum))

      pub bytes_next : PutsPart shown mid new ino ((offset + done) / 512) ((offset + done) % 512) piece written.Done → HasPutBytes shown old new ino offset bytes next
      bytes_next puts = record {
        within = λ w. puts.0 (was.within w);
        advances = λ image tree chain part stored looks node file.
            (let then_tree = tree_then image tree chain part stored looks node file in
            let then_node = with_parts node file.size (parts_then image tree chain part stored looks node file) in
            let then_file = file_then image tree chain part stored looks node file in
            let left = stored_then image tree chain part stored looks node file in
            let step = puts.1 image then_tree left.0 part left.1 looks then_node then_file in
            let whole = parts_whole (with_changes image mid) then_tree left.0 looks left.1 ino then_node then_file ((offset + done) / 512) in
            let nodes_now = put_twice tree.nodes ino then_node (with_parts node file.size (fin.insert (parts_then image tree chain part stored looks node file) ((offset + done) / 512) (put_at (part_at (parts_then image tree chain part stored looks node file) ((offset + done) / 512)) ((offset + done) % 512) piece)))
            ∙ ap (λ m. fin.insert tree.nodes ino (with_parts node file.size m)) (more file.parts whole) in
            subst (λ nodes. AdvancesTo image tree looks old new (record tree { nodes = nodes })) nodes_now
            (changed_in_turn image tree then_tree _ looks old mid new (gone image tree chain part stored looks node file) step));
      }

    -- where a part is refused so are the bytes
    pub bytes_refused : done < length bytes → PutsPart shown mid new ino ((offset + done) / 512) ((offset + done) % 512) [] written.NoneLeft → PutsBytes shown old new ino offset bytes written.NoneLeft
    bytes_refused low puts image tree chain part stored looks node file wanted other is =
        let then_tree = tree_then image tree chain part stored looks node file in
        let left = stored_then image tree chain part stored looks node file in
        let refused = puts image then_tree left.0 part left.1 looks (with_parts node file.size (parts_then image tree chain part stored looks node file)) (file_then image tree chain part stored looks node file) in
        let whole = parts_whole (with_changes image old) tree chain looks stored ino node file in
        let reaches : IsReached ((offset + done) / 512) offset bytes = record { some = omega (arith, low); from = omega arith; below = omega (arith, low) } in
        let there = (parts_stand_after_put file.parts offset bytes ((offset + done) / 512) whole).1 (inr reaches) in
        let front : length (take done bytes) ≡ done = length-take-le done bytes (omega (arith, low)) in
        let also : (k : ℕ) → is_some (fin.get (put_bytes file.parts offset (take done bytes)) k) ≡ true → is_some (fin.get (put_bytes file.parts offset bytes) k) ≡ true =
        (λ k some. (parts_stand_after_put file.parts offset bytes k whole).1 (elim ((parts_stand_after_put file.parts offset (take done bytes) k whole).0 some) [
          | inl old_one ↦ inl old_one
          | inr reached ↦ inr (let a = reached.some in let b = reached.from in let c = reached.below in record { some = omega (arith, a, front, low); from = b; below = omega (arith, c, front, low) })
        ])) in
        ap (fitting tree) (sym (put_twice tree.nodes ino (with_parts node file.size (parts_then image tree chain part stored looks node file)) wanted))
        ∙ refused wanted other (put_bytes file.parts offset bytes) is there also

    pub bytes_asked : (part place : ℕ) (piece : List ℕ) (need : Need) → PutsPart shown mid new ino part place piece (written.Need need) → PutsBytes shown old new ino offset bytes (written.Need need)
    bytes_asked at place piece need puts = (
      puts.0,
      λ image tree chain part stored looks node file.
          (let then_tree = tree_then image tree chain part stored looks node file in
          let left = stored_then image tree chain part stored looks node file in
          near_before image tree then_tree looks old mid need.first (gone image tree chain part stored looks node file) (let above = puts.0.above in omega (arith, above))
          (puts.1 image then_tree left.0 part left.1 looks (with_parts node file.size (parts_then image tree chain part stored looks node file)) (file_then image tree chain part stored looks node file))),
    )

  pub bytes_all : (now : ChangeList) (done : ℕ) → length bytes ≤ done → HasPutBytes shown old now ino offset bytes done → PutsBytes shown old now ino offset bytes written.Done
  bytes_all now done all was = (
    was.within,
    λ image tree chain part stored looks node file.
        subst (λ xs. AdvancesTo image tree looks old now (with_node tree ino (with_parts node file.size (put_bytes file.parts offset xs)))) (take_all done bytes all) (was.advances image tree chain part stored looks node file),
  )

-- ---- the size and the times

module _ (shown : ℕ → Option (List ℕ)) (old new : ChangeList) (ino end moment : ℕ) where
  pub asked_own : (need : Need) → IsNeed shown need → need.first ≡ inode_block ino → SetsSize shown old new ino end moment (written.Need need)
  asked_own need is own = (
    is,
    λ image tree chain part stored looks node file.
        (let n = its_number (with_changes image old) tree chain stored ino node file.has in
        subst (IsNearTo (with_changes image old) tree looks) (sym own) (inode_near (with_changes image old) tree chain stored looks ino n.0 n.1)),
  )

  pub size_set : (d : Dinode) → ((blocks : ℕ → List ℕ) → IsPart shown blocks → d ≡ dinode_at (over blocks (changed old) (inode_block ino)) (inode_place ino)) → (IsWithinView shown old → IsWithinView shown new)
      → ((blocks : ℕ → List ℕ) → IsPart shown blocks → IsDinodeWritten (over blocks (changed old)) (over blocks (changed new)) ino (grown_inode d end moment)) → SetsSize shown old new ino end moment written.Done
  size_set d reads within writes = (
    within,
    λ image tree chain part stored looks node file.
        (let base = with_changes image old in
        let now = over image.at (changed new) in
        let number = its_number base tree chain stored ino node file.has in
        let some : 0 < ino = omega (arith, number.0) in
        let read = reads image.at part in
        let done = writes image.at part in
        let long = stored.bytes (inode_block ino) in
        let e = grown_inode d end moment in
        let was = values_read base.at ino node d read (its_inode base tree chain stored ino node file.has) in
        let size : d.size ≡ file.size = ap (λ (x : Dinode). x.size) read ∙ (its_file base tree chain looks stored ino node file 0 (omega arith)).sized in
        let values : HasValues e (with_parts (touched moment node) (max file.size end) file.parts) =
        record { used = was.used; mode = was.mode; nlink = was.nlink; uid = was.uid; gid = was.gid; atime = was.atime; mtime = refl; ctime = refl } in
        let rewritten = dinode_written base.at now ino e some long done (last_read (base.at (inode_block ino)) (inode_place ino) d read) in (
          chain,
          sized_advances base tree chain looks stored ino node file.has (with_parts (touched moment node) (max file.size end) file.parts) file.size (max file.size end) file.parts file.body refl now rewritten
              (λ p few. addresses_now base.at now ino e some long done p few ∙ sym (same_top base tree chain stored ino d read p few))
              (fields_now base.at now ino e some long done (with_parts (touched moment node) (max file.size end) file.parts) values)
              (ap (λ (x : Dinode). x.size) (value_now base.at now ino e some long done) ∙ ap (λ s. max s end) size),
        )),
  )
