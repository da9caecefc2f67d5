-- A `&` to a block's memory is made where one to a byte is, and what a block owns and lends may cross threads. Assumes `Logic`.
use Rattle.std.proofs.lemmas.Bool.Decides.{nat_tests}
use Rattle.std.proofs.Common.{arith}
use Rattle.std.specs.Prelude.{ℕ, ◌+◌, List, [], ◌∷◌}
use seplogic.Ra.Ura.{Ura}
use base.Fraction.{full_share}
use base.Fml.{Lft, ffalse, fsep, froom}
use base.Shift.{Keyless}
use mir.Syntax.{w8}
use types.Logic.{Logic}
use denote.Builtin.{u8}
use denote.Copied.{uint_Copied}
use denote.Memory.{shared_of}
use denote.Param.Send.{IsSend, IsSync, Common, part_keyless, sendable}
use denote.Plain.{uint_row_laws}
use denote.RawPtr.{Ptr, block_ptr, null_ptr}
use denote.RawPtr.Bytes.{bytes}
use denote.Shares.{shares_each}
use denote.Sharing.{ShrLaws, said}
use denote.SharingLaws.{beside_shr_laws, said_shr_laws}
use denote.Slice.{elements_shared, elements_shr_laws}
use denote.Struct.Lending.{Lends, Lends-both, Lends-said, Lends-first, Lends-false}
use Rattle.arena_region.specs.Ownership.{block_of, fit, store_owns, store_lends}

pub store_lends_laws : (p : Ptr) (n : ℕ) (xs : List ℕ) → ShrLaws (store_lends p n xs)
store_lends_laws (block_ptr b o) n xs =
    beside_shr_laws _ _ (said_shr_laws (fit n xs) tt) (elements_shr_laws u8 (uint_row_laws w8) xs b (o + n))
store_lends_laws null_ptr n xs = said_shr_laws ffalse tt

module _ {M : Type 1} {𝓤 : Ura M} (𝓛 : Logic 𝓤) (l : Lft) where
  Lends-bytes : (xs : List ℕ) (b o : ℕ) → Lends 𝓛 (bytes full_share xs b o) (elements_shared u8 xs b o) l
  Lends-bytes xs b o = λ κ ts. shares_each 𝓛 u8 (shared_of u8) l ((uint_Copied 𝓛 w8).shares full_share l) xs κ ts b o

  -- the room is given up for the lifetime
  pub Lends-store : (p : Ptr) (n : ℕ) (xs : List ℕ) → Lends 𝓛 (store_owns p n xs) (store_lends p n xs) l
  Lends-store (block_ptr b o) n xs =
      let F = bytes full_share xs b (o + n) in let G = froom (block_of n) b o in let s = elements_shared u8 xs b (o + n) in
      Lends-both 𝓛 (fit n xs) (fsep F G) (said (fit n xs)) s l (Lends-said 𝓛 (fit n xs) tt l)
      (Lends-first 𝓛 F G s l (Lends-bytes xs b (o + n)))
  Lends-store null_ptr n xs = Lends-false 𝓛 (said ffalse) l

u8-send : IsSend u8
u8-send = search sendable

u8-sync : IsSync u8
u8-sync = search sendable

bytes-keyless : (xs : List ℕ) (b o : ℕ) → Keyless (bytes full_share xs b o)
bytes-keyless [] b o = tt
bytes-keyless (x ∷ xs) b o = (part_keyless u8 u8-send full_share x b o, bytes-keyless xs b (o + 1))

bytes-common : (xs : List ℕ) (b o : ℕ) → Common (elements_shared u8 xs b o)
bytes-common [] b o κ = tt
bytes-common (x ∷ xs) b o κ = (u8-sync.shared x b o κ, bytes-common xs b (o + 1) κ)

pub store-keyless : (p : Ptr) (n : ℕ) (xs : List ℕ) → Keyless (store_owns p n xs)
store-keyless p n xs = grind (arith, nat_tests, bytes-keyless)

pub store-common : (p : Ptr) (n : ℕ) (xs : List ℕ) → Common (store_lends p n xs)
store-common p n xs h = grind (arith, nat_tests, bytes-common)
