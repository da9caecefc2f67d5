-- A value appended to a list, and its place in a map.
use Rattle.std.proofs.Common.{◌≡◌, ℕ, ◌+◌, ◌*◌, ◌^◌, ◌<◌, ◌≤◌, List, [], ◌∷◌, ◌++◌, length, take, refl, sym, ap, subst, ◌∙◌, arith, inl, inr, Bool, Option, Ok, Err, length-append}
use Rattle.std.specs.Prelude.{Result, OnErr, if◌then◌else◌}
use Rattle.std.proofs.lemmas.List.{length-take, take_at}
use Rattle.std.proofs.Math.Nat.{mul-le-mul_left}
use Rattle.arena_chunks.specs.Memory.{Memory}
use Rattle.arena_chunks.specs.Source.{View}
use Rattle.arena_chunks.specs.Frame.{AreBlocksApart, Frame, Stays}
use Rattle.arena_store.specs.declared.block.Block.{Block}
use Rattle.arena_chunks.proofs.Layers.{blocks_turned, frame_behind, frame_both, frame_keeps}
use Rattle.arena_items.specs.Costs.{Costs, farthest}
use Rattle.arena_items.specs.Asks.{refusal}
use Rattle.arena_items.specs.Layout.{IsItemLayout}
use Rattle.arena_items.specs.declared.item.Item.{Ghosts}
use Rattle.arena_items.specs.declared.room.AllocError.{AllocError}
use Rattle.arena_items.specs.declared.room.AllocError.TheVariants.{CapacityOverflow}
use Rattle.arena_items.proofs.Layers.{length-elements}
use Rattle.arena_vec.specs.Changes.{Grows, Becomes}
use Rattle.arena_vec.specs.Credit.{credit_of as list_credit}
use Rattle.arena_vec.specs.Growth.{amortised_growth}
use Rattle.arena_vec.specs.Vecs.{IsVecIn, vec_list}
use Rattle.arena_vec.specs.declared.vec.Vec.{Vec}
use Rattle.arena_hash.specs.Accounts.{unit_of, credit_of}
use Rattle.arena_hash.specs.Changes.{Puts, is_value}
use Rattle.arena_hash.specs.Contents.{Kind, content_in}
use Rattle.arena_hash.specs.Finite.{has, with_pair}
use Rattle.arena_hash.specs.Maps.{IsLookIn, StaysMap, map_in}
use Rattle.hash_ring.specs.declared.hasher.FxHasher.{FxHasher}
use Rattle.arena_hash.proofs.Layers.{map_stays}
use Rattle.arena_hash.specs.declared.map.HashMap.{HashMap}
use Rattle.arena_hash.specs.declared.map.Look.{Look}
use Rattle.arena_symbols.specs.Asks.{TakesList, TakesBoth, IsBothDenied}
use Rattle.arena_symbols.specs.Listing.{CanList, Lists}
use Rattle.arena_symbols.specs.Paying.{Pays, far_up}
use Rattle.arena_symbols.proofs.AskLemmas.{list_taken, list_asked, map_taken, map_asked}
use Rattle.arena_symbols.proofs.BesideLemmas.{vec_beside}
use Rattle.arena_symbols.proofs.PayLemmas.{Paid, pays_as, pays_more, pays_told, pays_then, pays_push, pays_insert, insert_fits, credit_less}

-- this many values, and their bytes, fit 32 bits
pub fits_both : (n size : ℕ) → 4 ≤ size → n * (2 * size) ≤ 2 ^ 32 → (n < 2 ^ 32) × (n * size < 2 ^ 32)
fits_both n size some few = (omega (arith, mul-le-mul_left n some, few), omega (arith, few))

module _ {K T : Type 0} {item : Ghosts T} {k : Kind K ℕ FxHasher} {old mid : Memory} {m : HashMap K ℕ FxHasher} {v : Vec T} {key : K}
    {after : List Block} (can : CanList item k old m v key) (frame : Frame old mid (v.raw.block ∷ []) after) where
  -- A push leaves the map and the key's text unchanged.
  pub stays : StaysMap k old mid after m
  stays = map_stays k m frame can.map can.beside

  pub text : Stays old mid after (k.key.text key)
  text = frame_keeps old mid (v.raw.block ∷ []) after (k.key.text key) frame can.readable can.apart.1

  -- A search for the key ends where it did.
  pub look_stays : (look : Look) → IsLookIn k old m (content_in k.key old key) look → IsLookIn k mid m (content_in k.key mid key) look
  look_stays look is = subst (λ (q : List ℕ). IsLookIn k mid m q look) (ap (k.key.content key) (sym text.bytes)) (stays.looks _ look is)

module _ {K T : Type 0} (paid : Paid) {item : Ghosts T} (plain : IsItemLayout item.SIZE item.ALIGN) {k : Kind K ℕ FxHasher}
    (old mid : View) {m : HashMap K ℕ FxHasher} {v : Vec T} (w : Vec T) {key : K} (value : T) (can : CanList item k old.memory m v key)
    (one : old.memory.state.min_align ≡ 1) where
  abbrev list : List T
  list = vec_list item old.memory v

  abbrev saved : Vec T → ℕ
  saved v = list_credit item.SIZE v.raw.len v.raw.cap

  abbrev Pushes : Result (Unit {0}) AllocError → Type 0
  Pushes result = Grows item old mid v (amortised_growth item.SIZE v.raw.cap (v.raw.len + 1)) (list ++ value ∷ []) w result

  many : length (list ++ value ∷ []) ≡ v.raw.len + 1
  many = simp (length-append, length-elements) (omega arith)

  pays_list : (result : Result (Unit {0}) AllocError) → (result ≡ Err CapacityOverflow → ⊥) → Pushes result
      → Pays farthest (4 * item.SIZE + 7) (saved v) (saved w) old mid result
  pays_list result fits grows =
      pays_push paid item plain can.some can.small can.low old mid v w (list ++ value ∷ []) one can.list can.few many result fits grows

  -- whether the key is there
  abbrev is_there : Bool
  is_there = has (map_in k old.memory m) (content_in k.key old.memory key)

  -- The push is refused.
  pub unlisted : (e : AllocError) → (◌≡◌ {A = Result (Unit {0}) AllocError} (Err e) (Err CapacityOverflow) → ⊥) → Pushes (Err e)
      → Lists item k old mid m v key value m w (Err e)
  unlisted e fits grows =
      let pays : Pays {X = ℕ} (far_up + 2 ^ 61) (4 * item.SIZE + 7 + 2 * unit_of k) (saved v + credit_of k m) (saved w + credit_of k m) old
      mid (Err e) = pays_as (credit_of k m) (λ d is. cc) (omega arith) (omega arith) refl (omega arith) (pays_list (Err e) fits grows) in
      let frame = frame_behind old.memory mid.memory (v.raw.block ∷ []) (w.raw.block ∷ []) (m.table.block ∷ []) grows.frame in
      let same : vec_list item mid.memory w ≡ list = λ i. vec_list item (grows.err.1 i) (grows.err.0 i) in
      let denied : IsBothDenied item k is_there old mid v w m (refusal e) =
      inl (list_asked item can.some old mid v w (list ++ value ∷ []) can.list e (λ is. fits (ap Err is)) grows) in
      grind (arith, stays can grows.frame, grows.held, same, fits, pays, denied, frame)

  module _ (grows : Pushes (Ok tt)) (new : View) (n : HashMap K ℕ FxHasher) where
    took_list : TakesList item old mid v w
    took_list = list_taken item can.some old mid v w (list ++ value ∷ []) can.list tt grows

    -- The key is there after the push if it was before.
    there_still : has (map_in k mid.memory m) (content_in k.key mid.memory key) ≡ is_there
    there_still =
        let same = stays can grows.frame in
        let content = ap (k.key.content key) (text can grows.frame).bytes in λ i. has (same.means i) (content i)

    -- A push, and then an insert, after which some of the credit may be lost.
    both : {after : ℕ} (result : Result (Option ℕ) AllocError)
        → Costs farthest (2 * unit_of k) (credit_of k m) (credit_of k n) mid new result → Puts k mid new m key v.raw.len is_value n result
        → after ≤ saved w + credit_of k n → OnErr result (after ≤ saved v + credit_of k m)
        → Pays (far_up + 2 ^ 61) (4 * item.SIZE + 7 + 2 * unit_of k) (saved v + credit_of k m) after old new result
    both result costs puts less err =
        pays_then {between = saved w + credit_of k m} tt grows.frame.is_growing grows.frame.allocated err
        (pays_more (credit_of k m) (omega arith) (omega arith) refl (omega arith) (pays_list (Ok tt) (λ no. cc) grows))
        (pays_more (saved w) (omega arith) (omega arith) (omega arith) (omega (arith, less))
        (pays_insert k is_value mid new m n key v.raw.len (2 * unit_of k) result costs puts))

    pub listed : (before : Option ℕ) → Costs farthest (2 * unit_of k) (credit_of k m) (credit_of k n) mid new (Ok before)
        → Puts k mid new m key v.raw.len is_value n (Ok before) → Lists item k old new m v key value n w (Ok v.raw.len)
    listed before costs puts =
        let same = stays can grows.frame in
        let vec = vec_beside puts.frame item w grows.held (blocks_turned m.table.block w.raw.block same.apart.0.0, tt) in
        let content = ap (k.key.content key) (text can grows.frame).bytes in
        let map_is = puts.map_is ∙ (λ i. with_pair (same.means i) (content i) key v.raw.len) in
        let len = puts.len ∙ (λ i. if has (same.means i) (content i) then m.len else m.len + 1) in
        let pays =
        pays_told (λ _. v.raw.len) (Ok before) (both {after = saved w + credit_of k n} (Ok before) costs puts (omega arith) tt) in
        let frame = frame_both _ _ _ _ _ _ _ grows.frame puts.frame in
        let apart = blocks_turned w.raw.block n.table.block vec.apart.0 in
        let took : TakesBoth item k is_there old new v w m n = record {
          mid = mid;
          list = took_list;
          map = map_taken k is_value mid new m n key v.raw.len is_there there_still before puts;
        } in
        grind (arith, puts.held, vec.held, apart, vec.list_is ∙ grows.list_is, map_is, len, pays, took, frame)

    -- The insert is refused, and the list's end is cut off.
    pub cut_off : (u : Vec T) (e : AllocError)
        → Costs {X = Option ℕ} farthest (2 * unit_of k) (credit_of k m) (credit_of k n) mid new (Err e)
        → Puts {X = Option ℕ} k mid new m key v.raw.len is_value n (Err e) → v.raw.cap ≤ w.raw.cap
        → Becomes item mid mid w (take v.raw.len (vec_list item mid.memory w)) u → Lists item k old new m v key value n u (Err e)
    cut_off u e costs puts room cut =
        let same = stays can grows.frame in
        let more : w.raw.len ≡ v.raw.len + 1 = grows.len ∙ many in
        let len : u.raw.len ≡ v.raw.len = cut.len ∙ simp (length-take, length-elements) (omega (arith, more)) in
        let front : vec_list item mid.memory u ≡ list = cut.list_is ∙ ap (take v.raw.len) grows.list_is
        ∙ take_at list (value ∷ []) v.raw.len (length-elements _ _ _ _) in
        let back = credit_less item.SIZE u.raw.len v.raw.len v.raw.cap u.raw.cap (omega (arith, len)) (omega (arith, cut.cap, room)) in
        let less = credit_less item.SIZE u.raw.len w.raw.len w.raw.cap u.raw.cap (omega (arith, len, more)) (omega (arith, cut.cap)) in
        let held : IsVecIn item new.memory u = rw puts.err.1 cut.held in
        let apart : AreBlocksApart n.table.block u.raw.block = rw (puts.err.0, cut.block) same.apart.0.0 in
        let fits = insert_fits k is_value mid new m n key v.raw.len (Err e) can.few_keys puts in
        let took : TakesList item old mid v u = rw cut.block took_list in
        let denied : IsBothDenied item k is_there old new v u m (refusal e) =
        inr (mid, took, map_asked k is_value mid new m n key v.raw.len is_there there_still e (λ is. fits (ap Err is)) puts) in
        let pays = pays_told {Y = ℕ} (λ _. 0) (Err e) (both {after = saved u + credit_of k n} (Err e) costs puts (omega (arith, less))
        (omega (arith, back, puts.costs.refused.1))) in
        let frame : Frame old.memory new.memory (m.table.block ∷ v.raw.block ∷ []) (n.table.block ∷ u.raw.block ∷ []) =
        rw cut.block (frame_both _ _ _ _ _ _ _ grows.frame puts.frame) in
        grind (arith, puts.held, held, apart, puts.err, front, same.means, same.blocks, fits, pays, denied, frame)
