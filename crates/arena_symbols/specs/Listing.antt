-- A list of values, and a map from keys to places in the list.
use Rattle.std.specs.Prelude.{◌≡◌, ℕ, ◌+◌, ◌-◌, ◌*◌, ◌^◌, ◌<◌, ◌≤◌, [], ◌∷◌, ◌++◌, if◌then◌else◌, Result, Err, IfOk, IfErr, OnOk, OnErr, IsTrue}
use Rattle.arena_chunks.specs.Memory.{Memory, is_readable}
use Rattle.arena_chunks.specs.Source.{View}
use Rattle.arena_chunks.specs.Frame.{Frame, IsApart, AreAllApart, AreBlocksApart}
use Rattle.arena_items.specs.Asks.{refusal}
use Rattle.arena_items.specs.declared.item.Item.{Ghosts}
use Rattle.arena_items.specs.declared.room.AllocError.{AllocError}
use Rattle.arena_items.specs.declared.room.AllocError.TheVariants.{CapacityOverflow}
use Rattle.arena_vec.specs.Credit.{credit_of as list_credit}
use Rattle.arena_vec.specs.Vecs.{IsVecIn, vec_list}
use Rattle.arena_vec.specs.declared.vec.Vec.{Vec}
use Rattle.arena_hash.specs.Accounts.{unit_of, credit_of}
use Rattle.arena_hash.specs.Contents.{Key, Kind, kind, content_in}
use Rattle.arena_hash.specs.Finite.{has, with_pair}
use Rattle.arena_hash.specs.Maps.{IsMapIn, map_in, footprint}
use Rattle.hash_ring.specs.declared.hasher.FxHasher.{FxHasher}
use Rattle.arena_hash.specs.declared.map.HashMap.{HashMap}
use Rattle.arena_symbols.specs.Asks.{TakesBoth, IsBothDenied}
use Rattle.arena_symbols.specs.Paying.{Pays, far_up}

-- the byte form of a place, and the types of a map to places
abbrev pub place_item : Ghosts ℕ
place_item = Rattle.arena_items.specs.contracts.numbers.unsigned.U32Item.TheImpl.ghosts

abbrev pub place_kind : {K : Type 0} → Ghosts K → Key K → Kind K ℕ FxHasher
place_kind keys key = kind keys key place_item Rattle.hash_ring.specs.contracts.hasher.FxHasherKeyHasher.TheImpl.ghosts.hash_of

-- A value may be appended to the list, and its place inserted into the map under a key. List and map are apart from
-- each other, and the key's text from both.
pub record CanList {K T : Type 0} (item : Ghosts T) (k : Kind K ℕ FxHasher) (memory : Memory) (m : HashMap K ℕ FxHasher) (v : Vec T)
    (key : K) : Type 0 where
  pub some : 4 ≤ item.SIZE
  pub small : item.SIZE ≤ 2 ^ 24
  pub low : item.ALIGN ≤ 8
  pub keys_small : k.keys.SIZE ≤ 2 ^ 24
  pub map : IsMapIn k memory m
  pub list : IsVecIn item memory v
  pub beside : AreAllApart (footprint k memory m) (v.raw.block ∷ [])
  pub readable : IsTrue (is_readable memory.state (k.key.text key))
  pub apart : IsApart (k.key.text key).addr (k.key.text key).size (m.table.block ∷ v.raw.block ∷ [])
  pub few : (v.raw.len + 1) * (2 * item.SIZE) ≤ 2 ^ 32
  pub few_keys : m.len < 2 ^ 32 - 1

-- The value was appended, and its place inserted: the list and then the map had what they ask for. If refused, list and
-- map have the same contents as before, though the list's block may be another.
pub record Lists {K T : Type 0} (item : Ghosts T) (k : Kind K ℕ FxHasher) (old new : View) (m : HashMap K ℕ FxHasher) (v : Vec T) (key : K)
    (value : T) (n : HashMap K ℕ FxHasher) (w : Vec T) (result : Result ℕ AllocError) : Type 0 where
  pub map : IsMapIn k new.memory n
  pub list : IsVecIn item new.memory w
  pub apart : AreBlocksApart n.table.block w.raw.block
  pub place : IfOk result (λ at. at ≡ v.raw.len)
  pub list_is : OnOk result (vec_list item new.memory w ≡ vec_list item old.memory v ++ value ∷ [])
  pub map_is : OnOk result (map_in k new.memory n
      ≡ with_pair (map_in k old.memory m) (content_in k.key old.memory key) key v.raw.len)
  pub len : OnOk result (n.len ≡ (if has (map_in k old.memory m) (content_in k.key old.memory key) then m.len else m.len + 1))
  pub kept : OnErr result ((n ≡ m) × (vec_list item new.memory w ≡ vec_list item old.memory v)
      × (map_in k new.memory m ≡ map_in k old.memory m) × (footprint k new.memory m ≡ footprint k old.memory m))
  pub fits : result ≡ Err CapacityOverflow → ⊥
  pub took : OnOk result (TakesBoth item k (has (map_in k old.memory m) (content_in k.key old.memory key)) old new v w m n)
  pub denied : IfErr result (λ e.
      IsBothDenied item k (has (map_in k old.memory m) (content_in k.key old.memory key)) old new v w m (refusal e))
  pub pays : Pays (far_up + 2 ^ 61) (4 * item.SIZE + 7 + 2 * unit_of k) (list_credit item.SIZE v.raw.len v.raw.cap + credit_of k m)
      (list_credit item.SIZE w.raw.len w.raw.cap + credit_of k n) old new result
  pub frame : Frame old.memory new.memory (m.table.block ∷ v.raw.block ∷ []) (n.table.block ∷ w.raw.block ∷ [])
