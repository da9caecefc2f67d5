-- Room and bytes in a block are split and joined. Assumes `Logic`.
use Rattle.std.proofs.lemmas.Bool.Decides.{nat_tests}
use Rattle.std.proofs.Common.{◌≡◌, ℕ, zero, suc, ◌+◌, ◌≤◌, List, [], ◌∷◌, ◌++◌, length, take, refl, sym, ◌∙◌, subst, arith, length-append, length-take, length-take-le, length-drop, take_all}
use lib.ListN.{drop, take-append-drop}
use seplogic.Ra.Ura.{Ura}
use mir.Syntax.{Ty, w8, ty_int}
use base.Logic.{ent, sep, via, snd∗, mono_r, id⊢}
use base.Fraction.{full_share}
use base.Fml.{Lft, Fml, fsep, froom}
use types.Logic.{Logic, sem}
use types.Kit.{‵, ◌⊛◌, ◌$◌, ◌∵◌, !, qed, move, keep, use1, use2, split, rewrite, fsplit, fjoin, done}
use denote.Builtin.{u8}
use denote.Memory.{shared_of}
use denote.Slice.{elements_shared}
use denote.RawPtr.Bytes.{bytes, bytes_cut, bytes_glue, bytes-room}
use denote.RawPtr.Room.{past, past_bytes, room_cut, room_glue}
use Rattle.arena_region.specs.Bytes.{written_from}
use Rattle.arena_region.specs.Ownership.{block_of}

abbrev pub byte : Ty
byte = ty_int w8

-- a list that fits replaces as many bytes
pub written_as : (xs ws : List ℕ) (i : ℕ) → i + length ws ≤ length xs
    → written_from xs i ws ≡ take i xs ++ (ws ++ drop (length ws) (drop i xs))
written_as xs ws i fits = grind (arith, nat_tests, take_all, length-append, length-take-le, length-drop)

pub written_long : (xs ws : List ℕ) (i : ℕ) → length (written_from xs i ws) ≡ length xs
written_long xs ws i = grind (arith, nat_tests, length-take, length-append, length-drop)

module _ {M : Type 1} {𝓤 : Ura M} (𝓛 : Logic 𝓤) where
  open 𝓛 use {H}

  -- the last byte of the room, and the room before it
  pub last_out : (n m b o : ℕ) → n + 1 ≡ m → ent 𝓤 (H.room (block_of m) b o) (sep 𝓤 (H.room byte b (n + o)) (H.room (block_of n) b o))
  last_out n m b o e =
      qed 𝓛 (‵ (froom (block_of m) b o) ∷ []) ∵ rewrite ! 0 (λ k. ‵ (froom (block_of k) b o)) (sym e) refl $
      use1 𝓛 (‵ (froom (block_of n) b o) ⊛ ‵ (froom (block_of 1) b (past byte n o))) (room_cut 𝓛 byte n 1 b o) $ split ! $ move ! (1 ∷ []) $
      use1 𝓛 (‵ (froom byte b (past byte n o)) ⊛ ‵ (froom (block_of 0) b (past byte n o + 1)))
      (𝓛.laws.room_uncons byte 0 b (past byte n o)) $ split ! $
      rewrite ! 0 (λ k. ‵ (froom byte b k)) {x = n + o} (past_bytes n o ∙ omega arith) refl $ keep ! (0 ∷ 2 ∷ []) $ done !

  -- bytes above room are room
  pub all_room : (n m : ℕ) (xs : List ℕ) (b o : ℕ) → n + length xs ≡ m
      → ent 𝓤 (sep 𝓤 (sem 𝓛 (bytes full_share xs b (o + n))) (H.room (block_of n) b o)) (H.room (block_of m) b o)
  all_room n m xs b o e =
      qed 𝓛 (‵ (bytes full_share xs b (o + n)) ∷ ‵ (froom (block_of n) b o) ∷ []) ∵
      use1 𝓛 (‵ (froom (block_of (length xs)) b (o + n))) (bytes-room 𝓛 xs b (o + n)) $
      rewrite ! 0 (λ k. ‵ (froom (block_of (length xs)) b k)) (sym (past_bytes n o)) refl $ move ! (1 ∷ 0 ∷ []) $
      use2 𝓛 (‵ (froom (block_of (n + length xs)) b o)) (room_glue 𝓛 byte n (length xs) b o) $
      rewrite ! 0 (λ k. ‵ (froom (block_of k) b o)) e refl $ done !

  module _ (b : ℕ) (κ : Lft) where
    abbrev Seen : List ℕ → ℕ → Fml
    Seen xs o = elements_shared u8 xs b o κ

    -- bytes that are seen are seen from an index on
    pub seen_from : (i : ℕ) (xs : List ℕ) (o k : ℕ) → k ≡ o + i → ent 𝓤 (sem 𝓛 (Seen xs o)) (sem 𝓛 (Seen (drop i xs) k))
    seen_from zero xs o k e = let same : o ≡ k = omega arith in subst (λ j. ent 𝓤 (sem 𝓛 (Seen xs o)) (sem 𝓛 (Seen xs j))) same (id⊢ 𝓤 _)
    seen_from (suc i) [] o k e = id⊢ 𝓤 _
    seen_from (suc i) (x ∷ xs) o k e = via 𝓤 (sem 𝓛 (Seen xs (o + 1))) (snd∗ 𝓤 (sem 𝓛 (shared_of u8 x b o κ)) (sem 𝓛 (Seen xs (o + 1))))
        (seen_from i xs (o + 1) k (omega arith))

    -- and the first n of them
    pub seen_first : (n : ℕ) (xs : List ℕ) (o : ℕ) → ent 𝓤 (sem 𝓛 (Seen xs o)) (sem 𝓛 (Seen (take n xs) o))
    seen_first zero xs o = qed 𝓛 (‵ (Seen xs o) ∷ []) ∵ keep ! [] $ done !
    seen_first (suc n) [] o = id⊢ 𝓤 _
    seen_first (suc n) (x ∷ xs) o = mono_r 𝓤 (sem 𝓛 (shared_of u8 x b o κ)) (seen_first n xs (o + 1))

  module _ (b o : ℕ) (xs : List ℕ) (i k : ℕ) where
    -- the bytes except the n from the index i on
    abbrev pub Around : ℕ → Fml
    Around n = fsep (bytes full_share (take i xs) b o) (bytes full_share (drop n (drop i xs)) b (k + n))

    at : k ≡ o + i → i ≤ length xs → o + length (take i xs) ≡ k
    at is le = omega (arith, length-take-le i xs le)

    pub part_out : k ≡ o + i → (n : ℕ) → i + n ≤ length xs
        → ent 𝓤 (sem 𝓛 (bytes full_share xs b o)) (sep 𝓤 (sem 𝓛 (bytes full_share (take n (drop i xs)) b k)) (sem 𝓛 (Around n)))
    part_out is n le =
        let part = take n (drop i xs) in let rest = drop n (drop i xs) in let row = bytes full_share in
        let long : length part ≡ n = length-take-le n (drop i xs) (omega (arith, length-drop i xs)) in
        qed 𝓛 (‵ (row xs b o) ∷ []) ∵ rewrite ! 0 (λ l. ‵ (row l b o)) (sym (take-append-drop i xs)) refl $
        use1 𝓛 (‵ (row (take i xs) b o) ⊛ ‵ (row (drop i xs) b (o + length (take i xs))))
        (bytes_cut 𝓛 full_share (take i xs) (drop i xs) b o) $ split ! $ move ! (1 ∷ []) $
        rewrite ! 0 (λ j. ‵ (row (drop i xs) b j)) {x = k} (at is (omega arith)) refl $
        rewrite ! 0 (λ l. ‵ (row l b k)) (sym (take-append-drop n (drop i xs))) refl $
        use1 𝓛 (‵ (row part b k) ⊛ ‵ (row rest b (k + length part))) (bytes_cut 𝓛 full_share part rest b k) $ split ! $
        rewrite ! 1 (λ j. ‵ (row rest b (k + j))) {x = n} long refl $ move ! (2 ∷ 1 ∷ []) $ fjoin ! $ move ! (1 ∷ []) $ done !

    pub part_in : k ≡ o + i → (ws : List ℕ) → i + length ws ≤ length xs
        → ent 𝓤 (sep 𝓤 (sem 𝓛 (bytes full_share ws b k)) (sem 𝓛 (Around (length ws)))) (sem 𝓛 (bytes full_share (written_from xs i ws) b o))
    part_in is ws le =
        let rest = drop (length ws) (drop i xs) in let row = bytes full_share in
        qed 𝓛 (‵ (row ws b k) ∷ ‵ (Around (length ws)) ∷ []) ∵ move ! (1 ∷ []) $ fsplit ! $ move ! (2 ∷ 1 ∷ []) $
        use2 𝓛 (‵ (row (ws ++ rest) b k)) (bytes_glue 𝓛 full_share ws rest b k) $
        rewrite ! 0 (λ j. ‵ (row (ws ++ rest) b j)) (sym (at is (omega arith))) refl $ move ! (1 ∷ 0 ∷ []) $
        use2 𝓛 (‵ (row (take i xs ++ (ws ++ rest)) b o)) (bytes_glue 𝓛 full_share (take i xs) (ws ++ rest) b o) $
        rewrite ! 0 (λ l. ‵ (row l b o)) (sym (written_as xs ws i le)) refl $ done !
