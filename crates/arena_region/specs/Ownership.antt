-- What a block's memory owns and lends.
use Rattle.std.specs.Prelude.{ℕ, ◌+◌, ◌^◌, List, length}
use base.Fraction.{full_share}
use base.Fml.{Lft, Fml, ffalse, fsep, flt, froom}
use mir.Syntax.{Ty, w8, ty_int, ty_array}
use denote.Builtin.{u8}
use denote.RawPtr.{Ptr, block_ptr, null_ptr}
use denote.RawPtr.Bytes.{bytes}
use denote.Sharing.{said, beside}
use denote.Slice.{elements_shared}

-- n bytes, as a type of the machine
abbrev pub block_of : ℕ → Ty
block_of n = ty_array (ty_int w8) n

-- the room and the bytes above it are fewer than 2 ^ 63
abbrev pub fit : ℕ → List ℕ → Fml
fit n xs = flt (n + length xs) (2 ^ 63)

-- room for n bytes, and these bytes above it
abbrev pub store_owns : Ptr → ℕ → List ℕ → Fml
store_owns (block_ptr b o) n xs = fsep (fit n xs) (fsep (bytes full_share xs b (o + n)) (froom (block_of n) b o))
store_owns null_ptr n xs = ffalse

-- a `&` reaches the bytes
abbrev pub store_lends : Ptr → ℕ → List ℕ → Lft → Fml
store_lends (block_ptr b o) n xs = beside (said (fit n xs)) (elements_shared u8 xs b (o + n))
store_lends null_ptr n xs = said ffalse

-- the allocator's token for a block of n bytes
abbrev pub deed_owns : (Ty → Ptr → Fml) → Ptr → ℕ → Fml
deed_owns token p n = token (block_of n) p
